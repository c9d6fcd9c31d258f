-- Behind the end of a run no link to the control plane is dialled, or open and going on.
use Rattle.std.proofs.Common.{◌≡◌, ℕ, Bool, true, false, List, refl, ap, sym, ◌∙◌, subst}
use Rattle.std.proofs.lemmas.Bool.{false≢true}
use Rattle.hb_base.specs.declared.cause.Cause.{Cause}
use Rattle.hb_model.specs.Discovery.{Discovery, Phase, unborn, dialling, live, faulted, ending, closed, stopped_for}
use Rattle.hb_model.specs.Machine.{Machine}
use Rattle.hb_model.specs.Point.{Point, entry, stopped}
use Rattle.hb_model.specs.Runs.{Steps, StandsFor, begins, goes_on}
use Rattle.hb_model.specs.declared.config.NodeConfig.{NodeConfig}
use Rattle.hb_model.proofs.CallsSteps.{Becomes, stays, is_born, opens, peer_ends, breaks, breaks_faulted, writes, writes_faulted, closes, looks, refuses, stops, becomes, own_keeps}
use Rattle.hb_model.proofs.DialsDue.{runs_on}
use Rattle.hb_model.proofs.Unborn.{are_unborn}
use Rattle.hb_world.specs.declared.entry.Entry.TheVariants as e

abbrev pub is_going : Phase → Bool
is_going dialling = true
is_going live = true
is_going _ = false

rests_stopped : (why : Cause) (phase : Phase) → is_going (stopped_for why phase) ≡ false
rests_stopped why unborn = refl
rests_stopped why dialling = refl
rests_stopped why live = refl
rests_stopped why (faulted code) = refl
rests_stopped why (ending other) = refl
rests_stopped why closed = refl

-- a link that doesn't go on stays so, but where it is dialled
rests_next : (k : ℕ) (x y : Discovery) (p : Point) → ((to : _) (why : _) → p ≡ entry (e.Dialled k to why) → ⊥) → Becomes k x y p
    → is_going x.phase ≡ false → is_going y.phase ≡ false
rests_next k x y p undialled (stays silent now same) rests = ap is_going now ∙ rests
rests_next k x y p undialled (is_born to why is at now first) rests = absurd (undialled to why is)
rests_next k x y p undialled (opens is at now same) rests = absurd (false≢true (sym rests ∙ ap is_going at))
rests_next k x y p undialled (peer_ends is at now) rests = ap is_going now
rests_next k x y p undialled (breaks is at now) rests = ap is_going now
rests_next k x y p undialled (breaks_faulted code is at now) rests = ap is_going now
rests_next k x y p undialled (writes bytes is at now same) rests = absurd (false≢true (sym rests ∙ ap is_going at))
rests_next k x y p undialled (writes_faulted bytes code is at now) rests = ap is_going now
rests_next k x y p undialled (closes why is at now) rests = ap is_going now
rests_next k x y p undialled (looks points told headers is at now same) rests = absurd (false≢true (sym rests ∙ ap is_going at))
rests_next k x y p undialled (refuses is at now) rests = ap is_going now
rests_next k x y p undialled (stops why is now same) rests = ap is_going now ∙ rests_stopped why x.phase

module _ (g : NodeConfig) (m n : Machine) (points : List Point) (stands : StandsFor g m points)
    (so_far : m.over ≡ true → (l : ℕ) → is_going (m.links l).phase ≡ false) where
  same_over : (p : Point) → m.over ≡ true → ((k : ℕ) (to : _) (why : _) → p ≡ entry (e.Dialled k to why) → ⊥) → Steps g m p n → (l : ℕ)
      → is_going (n.links l).phase ≡ false
  same_over p over undialled steps l =
      rests_next l (m.links l) (n.links l) p (undialled l)
      (becomes g m n p (λ j above. ap (λ (x : Discovery). x.phase) (are_unborn g m points stands j above).link) steps l) (so_far over l)

  over_next : (p : Point) → Steps g m p n → n.over ≡ true → (l : ℕ) → is_going (n.links l).phase ≡ false
  over_next (stopped why) steps over l =
      subst (λ (z : Machine). is_going (z.links l).phase ≡ false) (sym steps.1) (rests_stopped why (m.links l).phase)
  over_next (entry z) steps over l =
      let was : m.over ≡ true = sym (ap (λ (y : Machine). y.over) steps.1) ∙ over in
      same_over (entry z) was (undialled z was steps) steps l
    where
      undialled : (z : _) → m.over ≡ true → Steps g m (entry z) n → (k : ℕ) (to : _) (why : _) → entry z ≡ entry (e.Dialled k to why) → ⊥
      undialled z was steps k to why is =
          let due : m.dials ≡ true = (subst (λ (q : Point). Steps g m q n) is steps).0.0 in
          false≢true (sym (runs_on g m points stands due) ∙ was)
  over_next p steps over l =
      same_over p (sym (own_keeps g m n p refl steps).over ∙ over) (λ k to why is. cc) steps l

pub over_rests : (g : NodeConfig) (m : Machine) (points : List Point) → StandsFor g m points → m.over ≡ true → (l : ℕ)
    → is_going (m.links l).phase ≡ false
over_rests g m points (begins is none) over l = absurd (false≢true (sym (ap (λ (z : Machine). z.over) is) ∙ over))
over_rests g n more (goes_on {m = m} {points = points} stands p steps are) over l =
    over_next g m n points stands (over_rests g m points stands) p steps over l
