-- What a point makes of each link.
use Rattle.std.proofs.Common.{◌≡◌, ◌⊎◌, ℕ, ◌<◌, false, eqb, List, length, Some, refl, ap, sym, subst, inl, inr, ⊎_elim, Bool, true, ◌∙◌}
use Rattle.std.proofs.lemmas.Bool.{ne_eqb, cases_eq}
use Rattle.hb_base.specs.declared.cause.Cause.{Cause}
use Rattle.hb_base.specs.declared.cause.Cause.TheVariants as cause
use Rattle.hb_base.specs.declared.door.Why.{Why}
use Rattle.hb_base.specs.declared.target.Target.{Target}
use Rattle.hb_hpack.specs.declared.header.Header.{Header}
use Rattle.hb_conn.specs.declared.found.Found.{Found}
use Rattle.hb_history.specs.Points as history
use Rattle.hb_world.specs.declared.entry.Entry.{Entry}
use Rattle.hb_world.specs.declared.entry.Entry.TheVariants as e
use Rattle.hb_model.specs.declared.config.NodeConfig.{NodeConfig}
use Rattle.hb_model.specs.Discovery.{Discovery, unborn, dialling, live, faulted, ending, closed, opened, came, ended, broken, went, wrote, stopped_for, closing, end_by, answered_by, phase_by, on_found, ends_for}
use Rattle.hb_model.specs.Point.{Point, entry, looked, applied, refused, used, put, stopped}
use Rattle.hb_model.specs.Machine.{Machine, at, with_phase, dialled_for, while_open, heard}
use Rattle.hb_model.specs.Runs.{MayCome, Steps, IsFaulted}
use Rattle.hb_model.proofs.CallsSaid.{Silent, eqb-self}
use Rattle.hb_model.proofs.Open.{live_changes, open_changes}

-- a point p makes y of the link k, which was x
pub data Becomes (k : ℕ) (x y : Discovery) (p : Point) : Type 0 where
  stays : Silent k p → y.phase ≡ x.phase → y.answered ≡ x.answered → Becomes k x y p
  is_born : (to : Target) (why : Why) → p ≡ entry (e.Dialled k to why) → x.phase ≡ unborn → y.phase ≡ dialling → y.answered ≡ false
      → Becomes k x y p
  opens : p ≡ entry (e.Opened k) → x.phase ≡ dialling → y.phase ≡ live → y.answered ≡ x.answered → Becomes k x y p
  peer_ends : p ≡ entry (e.Ended k) → x.phase ≡ live → y.phase ≡ ending cause.Broken → Becomes k x y p
  breaks : p ≡ entry (e.Broke k) → (x.phase ≡ dialling) ⊎ (x.phase ≡ live) → y.phase ≡ ending cause.Broken → Becomes k x y p
  breaks_faulted : (code : ℕ) → p ≡ entry (e.Broke k) → x.phase ≡ faulted code → y.phase ≡ ending (cause.ConnFault code)
      → Becomes k x y p
  writes : (bytes : List ℕ) → p ≡ entry (e.Went k bytes) → x.phase ≡ live → y.phase ≡ live → y.answered ≡ x.answered
      → Becomes k x y p
  writes_faulted : (bytes : List ℕ) (code : ℕ) → p ≡ entry (e.Went k bytes) → x.phase ≡ faulted code
      → y.phase ≡ ending (cause.ConnFault code) → Becomes k x y p
  closes : (why : Cause) → p ≡ entry (e.Closed k why) → closing x.phase ≡ Some why → y.phase ≡ closed → Becomes k x y p
  looks : (points : List history.Point) (told : Found) (headers : List Header) → p ≡ looked k points told headers → x.phase ≡ live
      → y.phase ≡ phase_by live (end_by x.answered headers told) → y.answered ≡ answered_by x.answered headers told → Becomes k x y p
  refuses : p ≡ refused k → x.phase ≡ live → y.phase ≡ ending cause.Discovery → Becomes k x y p
  stops : (why : Cause) → p ≡ stopped why → y.phase ≡ stopped_for why x.phase → y.answered ≡ x.answered → Becomes k x y p

-- a point of one link is silent on all others
at_link : (m : Machine) (l : ℕ) (f : Discovery → Discovery) (p : Point) → Becomes l (m.links l) (f (m.links l)) p
    → ((k : ℕ) → eqb l k ≡ false → Silent k p) → (k : ℕ) → Becomes k (m.links k) (at l f k (m.links k)) p
at_link m l f p here off k =
    ⊎_elim (λ (same : l ≡ k). subst (λ (i : ℕ). Becomes i (m.links i) (at l f i (m.links i)) p) same (rw (eqb-self l) here))
    (λ (differs : l ≡ k → ⊥). rw (ne_eqb l k differs) (stays (off k (ne_eqb l k differs)) refl refl)) (cases_eq l k)

breaks_by : (m : Machine) (l : ℕ) → ((m.links l).phase ≡ dialling) ⊎ (((m.links l).phase ≡ live) ⊎ IsFaulted m l)
    → Becomes l (m.links l) (with_phase broken (m.links l)) (entry (e.Broke l))
breaks_by m l =
    ⊎_elim (λ (was : (m.links l).phase ≡ dialling). breaks refl (inl was) (ap broken was))
    (⊎_elim (λ (was : (m.links l).phase ≡ live). breaks refl (inr was) (ap broken was))
    (λ (was : IsFaulted m l). breaks_faulted was.0 refl was.1 (ap broken was.1)))

writes_by : (m : Machine) (l : ℕ) (bytes : List ℕ) (n : ℕ) → ((m.links l).phase ≡ live) ⊎ IsFaulted m l
    → Becomes l (m.links l) (wrote n (m.links l)) (entry (e.Went l bytes))
writes_by m l bytes n =
    ⊎_elim (λ (was : (m.links l).phase ≡ live). writes bytes refl was (ap went was) refl)
    (λ (was : IsFaulted m l). writes_faulted bytes was.0 refl was.1 (ap went was.1))

hears : (g : NodeConfig) (m : Machine) (en : Entry) → ((k : ℕ) → m.born < k → (m.links k).phase ≡ unborn) → MayCome g m en → (k : ℕ)
    → Becomes k (m.links k) (heard g m.held en k (m.links k)) (entry en)
hears g m (e.Accepted l door) fresh may k = absurd may
hears g m (e.Dialled l to why) fresh may k =
    at_link m l (dialled_for g.id to m.held why) (entry (e.Dialled l to why))
    (is_born to why refl (fresh l may.1) (ap (λ (w : Why). (dialled_for g.id to m.held w (m.links l)).phase) may.3)
    (ap (λ (w : Why). (dialled_for g.id to m.held w (m.links l)).answered) may.3))
    (λ i d. record { says = rw d refl; ends = λ a. refl; answers = λ a. refl; writes = refl }) k
hears g m (e.Opened l) fresh may k =
    at_link m l (with_phase opened) (entry (e.Opened l)) (opens refl may.1 (ap opened may.1) refl)
    (λ i d. record { says = rw d refl; ends = λ a. refl; answers = λ a. refl; writes = refl }) k
hears g m (e.Came l bytes) fresh may k =
    let same = live_changes (came bytes) (m.links l) may.0.1 in
    at_link m l (while_open (came bytes)) (entry (e.Came l bytes))
    (stays (record { says = refl; ends = λ a. refl; answers = λ a. refl; writes = refl }) (ap (λ (x : Discovery). x.phase) same)
    (ap (λ (x : Discovery). x.answered) same))
    (λ i d. record { says = refl; ends = λ a. refl; answers = λ a. refl; writes = refl }) k
hears g m (e.Ended l) fresh may k =
    at_link m l (with_phase ended) (entry (e.Ended l)) (peer_ends refl may.0.1 (ap ended may.0.1))
    (λ i d. record { says = rw d refl; ends = λ a. rw d refl; answers = λ a. refl; writes = refl }) k
hears g m (e.Broke l) fresh may k =
    at_link m l (with_phase broken) (entry (e.Broke l))
    (breaks_by m l (⊎_elim (λ at. inl at.1) (⊎_elim (λ at. inr (inl at.1)) (λ at. inr (inr at))) may))
    (λ i d. record { says = rw d refl; ends = λ a. rw d refl; answers = λ a. refl; writes = refl }) k
hears g m (e.Went l bytes) fresh may k =
    let where_open = ⊎_elim (λ at. inl at.1) (λ at. inr at) may.0 in
    at_link m l (while_open (wrote (length bytes))) (entry (e.Went l bytes))
    (subst (λ (y : Discovery). Becomes l (m.links l) y (entry (e.Went l bytes)))
    (sym (open_changes (wrote (length bytes)) m l where_open)) (writes_by m l bytes (length bytes) where_open))
    (λ i d. record { says = refl; ends = λ a. refl; answers = λ a. refl; writes = rw d refl }) k
hears g m (e.Shut l) fresh may k = absurd may
hears g m (e.Closed l why) fresh may k =
    at_link m l (with_phase (λ p. closed)) (entry (e.Closed l why)) (closes why refl may refl)
    (λ i d. record { says = rw d refl; ends = λ a. refl; answers = λ a. refl; writes = refl }) k
hears g m en fresh may k =
    stays (record { says = refl; ends = λ a. refl; answers = λ a. refl; writes = refl }) refl refl

-- a point by which a link works on
works : (m : Machine) (l : ℕ) (x : Discovery) (p : Point) → x.phase ≡ (m.links l).phase → x.answered ≡ (m.links l).answered
    → ((k : ℕ) → Silent k p) → (k : ℕ) → Becomes k (m.links k) (at l (λ y. x) k (m.links k)) p
works m l x p phase answered silent k = at_link m l (λ y. x) p (stays (silent l) phase answered) (λ i d. silent i) k

-- a machine m with a point p, which may come next, makes n
pub becomes : (g : NodeConfig) (m n : Machine) (p : Point) → ((k : ℕ) → m.born < k → (m.links k).phase ≡ unborn) → Steps g m p n
    → (k : ℕ) → Becomes k (m.links k) (n.links k) p
becomes g m n (entry en) fresh steps k =
    subst (λ (y : Machine). Becomes k (m.links k) (y.links k) (entry en)) (sym steps.1) (hears g m en fresh steps.0 k)
becomes g m n (looked l points told headers) fresh steps k =
    subst (λ (y : Machine). Becomes k (m.links k) (y.links k) (looked l points told headers)) (sym steps.4)
    (at_link m l (λ y. on_found told steps.1 (m.links l)) (looked l points told headers)
    (looks points told headers refl steps.0 (rw (steps.0, steps.3) refl) (rw steps.3 refl))
    (λ i d. record { says = refl; ends = λ a. rw d refl; answers = λ a. rw d refl; writes = refl }) k)
becomes g m n (applied l r) fresh steps k =
    subst (λ (y : Machine). Becomes k (m.links k) (y.links k) (applied l r)) (sym steps.3) (works m l _ (applied l r) refl refl
    (λ i. record { says = refl; ends = λ a. refl; answers = λ a. refl; writes = refl }) k)
becomes g m n (refused l) fresh steps k =
    subst (λ (y : Machine). Becomes k (m.links k) (y.links k) (refused l)) (sym steps.2)
    (at_link m l (λ y. ends_for cause.Discovery (m.links l)) (refused l) (refuses refl steps.0 refl)
    (λ i d. record { says = refl; ends = λ a. rw d refl; answers = λ a. refl; writes = refl }) k)
becomes g m n (used l i) fresh steps k =
    subst (λ (y : Machine). Becomes k (m.links k) (y.links k) (used l i)) (sym steps.2) (works m l _ (used l i) refl refl
    (λ j. record { says = refl; ends = λ a. refl; answers = λ a. refl; writes = refl }) k)
becomes g m n (put l bytes) fresh steps k =
    subst (λ (y : Machine). Becomes k (m.links k) (y.links k) (put l bytes)) (sym steps.3) (works m l _ (put l bytes) refl refl
    (λ i. record { says = refl; ends = λ a. refl; answers = λ a. refl; writes = refl }) k)
becomes g m n (stopped why) fresh steps k =
    subst (λ (y : Machine). Becomes k (m.links k) (y.links k) (stopped why)) (sym steps.1) (stops why refl refl refl)

-- a point by which a machine goes on by itself
abbrev pub is_own : Point → Bool
is_own (entry en) = false
is_own (stopped why) = false
is_own _ = true

-- it stands while a link is live, and changes links alone, and what is held
pub record Kept (m n : Machine) : Type 0 where
  pub works : (l : ℕ) × ((m.links l).phase ≡ live)
  pub born : n.born ≡ m.born
  pub current : n.current ≡ m.current
  pub dials : n.dials ≡ m.dials
  pub over : n.over ≡ m.over

kept_by : (m n z : Machine) (l : ℕ) → (m.links l).phase ≡ live → n ≡ z → z.born ≡ m.born → z.current ≡ m.current → z.dials ≡ m.dials
    → z.over ≡ m.over → Kept m n
kept_by m n z l works is born current dials over = record {
  works = (l, works);
  born = ap (λ (x : Machine). x.born) is ∙ born;
  current = ap (λ (x : Machine). x.current) is ∙ current;
  dials = ap (λ (x : Machine). x.dials) is ∙ dials;
  over = ap (λ (x : Machine). x.over) is ∙ over;
}

pub own_keeps : (g : NodeConfig) (m n : Machine) (p : Point) → is_own p ≡ true → Steps g m p n → Kept m n
own_keeps g m n (entry en) own steps = absurd (cc)
own_keeps g m n (looked l points told headers) own steps = kept_by m n _ l steps.0 steps.4 refl refl refl refl
own_keeps g m n (applied l r) own steps = kept_by m n _ l steps.0 steps.3 refl refl refl refl
own_keeps g m n (refused l) own steps = kept_by m n _ l steps.0 steps.2 refl refl refl refl
own_keeps g m n (used l k) own steps = kept_by m n _ l steps.0 steps.2 refl refl refl refl
own_keeps g m n (put l bytes) own steps = kept_by m n _ l steps.0 steps.3 refl refl refl refl
own_keeps g m n (stopped why) own steps = absurd (cc)
