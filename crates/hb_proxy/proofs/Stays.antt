-- Whose the upstream of a tunnel is, by how far the tunnel is, and that it stays so but for the dial of one.
use Rattle.std.proofs.Common.{◌≡◌, ◌≢◌, ◌⊎◌, inl, inr, ⊎_elim, ℕ, ◌==◌, ◌||◌, Bool, true, false, cond, List, Some, refl, ap, sym, ◌∙◌, subst}
use Rattle.std.proofs.lemmas.Bool.{cond_both, false≢true, eqb-true, eq-eqb}
use Rattle.std.specs.List.{list_any}
use Rattle.hb_base.specs.declared.cause.Cause.{Cause}
use Rattle.hb_base.specs.declared.cause.Cause.TheVariants as cause
use Rattle.hb_conn.specs.Connection.{Connection}
use Rattle.hb_conn.specs.declared.found.Found.{Found}
use Rattle.hb_conn.specs.declared.found.Found.TheVariants as found
use Rattle.hb_held.specs.Held.{Resources}
use Rattle.hb_held.specs.Outcome.{after_response}
use Rattle.hb_hpack.specs.declared.header.HeaderList.{HeaderList}
use Rattle.hb_inbound.specs.Calm.{close_due}
use Rattle.hb_inbound.specs.Inbound.{Inbound, Phase, unborn, arriving, fronting, serving, faulted, closing, closed, at_stream, came_by, ended_by, broken_by, told_of, on_found, judged_by, rejudged, lacking, stops_by, stopped_for}
use Rattle.hb_inbound.specs.Part as part
use Rattle.hb_inbound.specs.Part.{Part, entry, up, welcomed, crowded, lacked, misfronted, looked, decided, accepted, refused, reset, left, done, put, finished, credited, applied, stopped}
use Rattle.hb_inbound.specs.Runs.{Local, MayCome, UpMayCome, entered, Lacks, Steps, StandsFor, with_link, tunnel_for, put_down}
use Rattle.hb_inbound.specs.Tunnel.{Tunnel, Stage, unasked, requested, refusing, malformed, due, opening, accepting, live, failed, ended, over, gone, at_stage, takes_place, ends_by, ends_for, left_with, up_entered, came_up, peer_ended, requested_with}
use Rattle.hb_inbound.proofs.EndsRun.{new_streams}
use Rattle.hb_inbound.proofs.Left.{IsLeft, refuses_left, resets_left, leaves_left}
use Rattle.hb_table.specs.Judgement.{judged}
use Rattle.hb_table.specs.declared.judgement.Judged.{Judged}
use Rattle.hb_table.specs.declared.judgement.Judged.TheVariants.{Admitted, Unknown, Denied}
use Rattle.hb_verdict.specs.declared.verdict.Verdict.{Verdict}
use Rattle.hb_verdict.specs.declared.verdict.Verdict.TheVariants.{Status, Reset, Dial}
use Rattle.hb_world.specs.Trace.{is_birth}
use Rattle.hb_world.specs.declared.entry.Entry.{Entry}
use Rattle.hb_world.specs.declared.entry.Entry.TheVariants as e
use Rattle.hb_world.specs.declared.entry.Way.TheVariants as way
use Rattle.hb_proxy.specs.Owners.{Owner, upstream_of}

-- no link is this owner's; this one is, or there is none
abbrev pub IsNone : (ℕ → Owner) → Owner → Type 0
IsNone whose o = (u : ℕ) → whose u ≢ o

abbrev pub IsWeak : (ℕ → Owner) → Owner → ℕ → Type 0
IsWeak whose o u = (u ≡ 0) ⊎ (whose u ≡ o)

abbrev pub OwnsBy : Stage → (ℕ → Owner) → (l s u : ℕ) → Type 0
OwnsBy unasked whose l s u = IsNone whose (upstream_of l s) × (u ≡ 0)
OwnsBy (requested headers end) whose l s u = IsNone whose (upstream_of l s) × (u ≡ 0)
OwnsBy due whose l s u = IsNone whose (upstream_of l s) × (u ≡ 0)
OwnsBy (refusing status target) whose l s u = IsWeak whose (upstream_of l s) u
OwnsBy malformed whose l s u = IsWeak whose (upstream_of l s) u
OwnsBy (failed why) whose l s u = IsWeak whose (upstream_of l s) u
OwnsBy gone whose l s u = IsWeak whose (upstream_of l s) u
OwnsBy stage whose l s u = whose u ≡ upstream_of l s

abbrev pub Owns : (ℕ → Owner) → (l s : ℕ) → Tunnel → Type 0
Owns whose l s t = OwnsBy t.stage whose l s t.up

pub weakly : (whose : ℕ → Owner) (l s u : ℕ) (stage : Stage) → OwnsBy stage whose l s u → IsWeak whose (upstream_of l s) u
weakly whose l s u unasked is = inl is.1
weakly whose l s u (requested headers end) is = inl is.1
weakly whose l s u due is = inl is.1
weakly whose l s u (refusing status target) is = is
weakly whose l s u malformed is = is
weakly whose l s u (failed why) is = is
weakly whose l s u gone is = is
weakly whose l s u opening is = inr is
weakly whose l s u accepting is = inr is
weakly whose l s u live is = inr is
weakly whose l s u (ended why) is = inr is
weakly whose l s u (over why) is = inr is

-- whatever the owners are, a tunnel that changes so has the upstream that it had
abbrev pub Stays : (l s : ℕ) → Tunnel → Tunnel → Type 0
Stays l s old new = (whose : ℕ → Owner) → Owns whose l s old → Owns whose l s new

ends_stay : (l s : ℕ) (why : Cause) (t : Tunnel) → Stays l s t (ends_for why t)
ends_stay l s why t whose = by t.stage
  where
    by : (stage : Stage) → OwnsBy stage whose l s t.up → OwnsBy (ends_by why stage) whose l s t.up
    by unasked is = is
    by (requested headers end) is = is
    by due is = inl is.1
    by (refusing status target) is = is
    by malformed is = is
    by (failed cause) is = is
    by gone is = is
    by opening is = inr is
    by accepting is = inr is
    by live is = is
    by (ended cause) is = is
    by (over cause) is = is

judged_stay : (l s : ℕ) (j : Judged) (t : Tunnel) → Stays l s t (judged_by j t)
judged_stay l s Admitted t whose is = is
judged_stay l s Unknown t whose is = ends_stay l s cause.Revoked t whose is
judged_stay l s Denied t whose is = ends_stay l s cause.Revoked t whose is

gone_stay : (l s : ℕ) (t : Tunnel) → Stays l s t (at_stage gone t)
gone_stay l s t whose is = weakly whose l s t.up t.stage is

left_stay : (l s : ℕ) (why : Cause) (t : Tunnel) → Stays l s t (left_with why t)
left_stay l s why t whose is = by (t.up == 0) refl (weakly whose l s t.up t.stage is)
  where
    by : (b : Bool) → (t.up == 0) ≡ b → IsWeak whose (upstream_of l s) t.up → OwnsBy (cond b gone (over why)) whose l s t.up
    by true zero weak = weak
    by false some (inl none) = absurd (false≢true (sym some ∙ eq-eqb t.up 0 none))
    by false some (inr mine) = mine

rests_stay : (l s : ℕ) (old new : Tunnel) → IsLeft old new → Stays l s old new
rests_stay l s old new is =
    ⊎_elim (λ h. subst (Stays l s old) (sym h) (gone_stay l s old)) (λ h. subst (Stays l s old) (sym h.1) (left_stay l s h.0 old)) is

-- one tunnel of a link changes
at_stays : (l s k : ℕ) (change : Tunnel → Tunnel) (x : Inbound) → Stays l s (x.tunnels s) (change (x.tunnels s))
    → Stays l k (x.tunnels k) ((at_stream s change x).tunnels k)
at_stays l s k change x here =
    cond_both (k == s) (change (x.tunnels k)) (x.tunnels k) (λ t. Stays l k (x.tunnels k) t)
    (λ is. subst (λ j. Stays l j (x.tunnels j) (change (x.tunnels j))) (sym (eqb-true k s is)) here) (λ is whose old. old)

-- PHASES

abbrev pub is_born : Phase → Bool
is_born unborn = false
is_born _ = true

born_closing : (phase : Phase) (why : Cause) → close_due phase ≡ Some why → is_born phase ≡ true
born_closing unborn why is = absurd cc
born_closing arriving why is = refl
born_closing fronting why is = refl
born_closing serving why is = refl
born_closing (faulted code) why is = refl
born_closing (closing other) why is = refl
born_closing closed why is = refl

born_lacking : (phase : Phase) (x : Inbound) → Lacks phase x → is_born phase ≡ true
born_lacking unborn x lacks = absurd lacks
born_lacking arriving x lacks = refl
born_lacking fronting x lacks = refl
born_lacking serving x lacks = refl
born_lacking (faulted code) x lacks = refl
born_lacking (closing why) x lacks = refl
born_lacking closed x lacks = refl

born_stopped : (why : Cause) (phase : Phase) → is_born (stops_by why phase) ≡ true → is_born phase ≡ true
born_stopped why unborn is = is
born_stopped why arriving is = refl
born_stopped why fronting is = refl
born_stopped why serving is = refl
born_stopped why (faulted code) is = refl
born_stopped why (closing other) is = refl
born_stopped why closed is = refl

-- an entry stands on a link that is born, but for its birth
pub may_born : (l : ℕ) (x : Inbound) (z : Entry) → MayCome l x z → is_birth z ≡ false → is_born x.phase ≡ true
may_born l x (e.Accepted k d) may none = absurd (false≢true (sym none))
may_born l x (e.Came k bytes) may none = ⊎_elim (λ h. ap is_born h.1) (λ h. ap is_born h.1) may.1.0
may_born l x (e.Ended k) may none = ⊎_elim (λ h. ap is_born h.1) (λ h. ap is_born h.1) may.1.0
may_born l x (e.Went k bytes) may none = ⊎_elim (λ h. ap is_born h.1) (λ h. ap is_born h.2) may.1
may_born l x (e.Broke k) may none =
    ⊎_elim (λ h. ap is_born h.1) (λ writes. ⊎_elim (λ h. ap is_born h.1) (λ h. ap is_born h.2) writes) may.1
may_born l x (e.Closed k why) may none = born_closing x.phase why may.2
may_born l x (e.Balked (way.Read k)) may none = ⊎_elim (λ h. ap is_born h.1) (λ h. ap is_born h.1) may.1.0
may_born l x (e.Balked (way.Write k)) may none = ⊎_elim (λ h. ap is_born h.1) (λ h. ap is_born h.2) may.1
may_born l x (e.Balked (way.Listen d to listening)) may none = absurd may
may_born l x (e.Balked (way.Accept d)) may none = absurd may
may_born l x (e.Balked (way.Look k)) may none = absurd may
may_born l x (e.Balked (way.Finish k)) may none = absurd may
may_born l x (e.Dialled k to why) may none = absurd may
may_born l x (e.DialFailed to why) may none = absurd may
may_born l x (e.Opened k) may none = absurd may
may_born l x (e.Shut k) may none = absurd may
may_born l x e.Tick may none = absurd may
may_born l x (e.Wait ready how) may none = absurd may

-- A STEP OF A LINK

-- what stays of a link over a part that is no birth
pub record LinkStays (l : ℕ) (old new : Inbound) : Type 0 where
  pub born : is_born new.phase ≡ true → is_born old.phase ≡ true
  pub tunnels : (k : ℕ) → Stays l k (old.tunnels k) (new.tunnels k)

pub same_link : (l : ℕ) (x : Inbound) → LinkStays l x x
same_link l x = record { born = λ is. is; tunnels = λ k whose old. old }

-- a response that is applied, and the end of the run
pub applied_stays : (l : ℕ) (h : Resources) (x : Inbound) → LinkStays l x (rejudged h x)
applied_stays l h x = record {
  born = λ is. is;
  tunnels = λ k. by k (takes_place (x.tunnels k).stage);
}
  where
    by : (k : ℕ) (b : Bool)
        → Stays l k (x.tunnels k) (cond b (judged_by (judged h x.peer (x.tunnels k).target) (x.tunnels k)) (x.tunnels k))
    by k true = judged_stay l k (judged h x.peer (x.tunnels k).target) (x.tunnels k)
    by k false = λ whose old. old

pub stopped_stays : (l : ℕ) (why : Cause) (x : Inbound) → LinkStays l x (stopped_for why x)
stopped_stays l why x = record { born = born_stopped why x.phase; tunnels = λ k. ends_stay l k why (x.tunnels k) }

module _ (l : ℕ) (start : Resources) (a : Local) (parts : List Part) (stands : StandsFor l start a parts) where
  -- of a link that is born each tunnel stays so
  born_stays : (y : Inbound) → is_born a.link.phase ≡ true → ((k : ℕ) → Stays l k (a.link.tunnels k) (y.tunnels k))
      → LinkStays l a.link y
  born_stays y born each = record { born = λ is. born; tunnels = each }

  all_same : (y : Inbound) → is_born a.link.phase ≡ true → ((k : ℕ) → y.tunnels k ≡ a.link.tunnels k) → LinkStays l a.link y
  all_same y born each =
      born_stays y born (λ k. subst (Stays l k (a.link.tunnels k)) (sym (each k)) (λ whose old. old))

  came_same : (bytes : List ℕ) (phase : Phase) (k : ℕ) → (came_by phase bytes a.link).tunnels k ≡ a.link.tunnels k
  came_same bytes unborn k = refl
  came_same bytes arriving k = refl
  came_same bytes fronting k = refl
  came_same bytes serving k = refl
  came_same bytes (faulted code) k = refl
  came_same bytes (closing why) k = refl
  came_same bytes closed k = refl

  ended_each : (phase : Phase) (k : ℕ) → Stays l k (a.link.tunnels k) ((ended_by phase a.link).tunnels k)
  ended_each serving k = ends_stay l k cause.PeerGone (a.link.tunnels k)
  ended_each unborn k = λ whose old. old
  ended_each arriving k = λ whose old. old
  ended_each fronting k = λ whose old. old
  ended_each (faulted code) k = λ whose old. old
  ended_each (closing why) k = λ whose old. old
  ended_each closed k = λ whose old. old

  broken_each : (phase : Phase) (k : ℕ) → Stays l k (a.link.tunnels k) ((broken_by phase a.link).tunnels k)
  broken_each serving k = ends_stay l k cause.PeerGone (a.link.tunnels k)
  broken_each unborn k = λ whose old. old
  broken_each arriving k = λ whose old. old
  broken_each fronting k = λ whose old. old
  broken_each (faulted code) k = λ whose old. old
  broken_each (closing why) k = λ whose old. old
  broken_each closed k = λ whose old. old

  entry_each : (z : Entry) → MayCome l a.link z → (k : ℕ) → Stays l k (a.link.tunnels k) ((entered z a.link).tunnels k)
  entry_each (e.Accepted j d) may k = λ whose old. old
  entry_each (e.Came j bytes) may k =
      subst (Stays l k (a.link.tunnels k)) (sym (came_same bytes a.link.phase k)) (λ whose old. old)
  entry_each (e.Ended j) may k = ended_each a.link.phase k
  entry_each (e.Went j bytes) may k = λ whose old. old
  entry_each (e.Broke j) may k = broken_each a.link.phase k
  entry_each (e.Closed j why) may k = λ whose old. old
  entry_each (e.Balked w) may k = λ whose old. old
  entry_each (e.Dialled j to why) may k = absurd may
  entry_each (e.DialFailed to why) may k = absurd may
  entry_each (e.Opened j) may k = absurd may
  entry_each (e.Shut j) may k = absurd may
  entry_each e.Tick may k = absurd may
  entry_each (e.Wait ready how) may k = absurd may

  entry_stays : (z : Entry) → MayCome l a.link z → is_birth z ≡ false → LinkStays l a.link (entered z a.link)
  entry_stays z may none = born_stays (entered z a.link) (may_born l a.link z may none) (entry_each z may)

  up_each : (s : ℕ) (z : Entry) → UpMayCome l s a.link (a.link.tunnels s) z → is_birth z ≡ false
      → Stays l s (a.link.tunnels s) (up_entered z (a.link.tunnels s))
  up_each s (e.Dialled u to why) may none = absurd (false≢true (sym none))
  up_each s (e.DialFailed to why) may none = ends_stay l s cause.UpFault (a.link.tunnels s)
  up_each s (e.Opened u) may none =
      λ whose old. subst (λ (stage : Stage). OwnsBy stage whose l s (a.link.tunnels s).up) may.1 old
  up_each s (e.Came u bytes) may none = λ whose old. old
  up_each s (e.Ended u) may none = λ whose old. old
  up_each s (e.Went u bytes) may none = λ whose old. old
  up_each s (e.Broke u) may none = ends_stay l s cause.UpFault (a.link.tunnels s)
  up_each s (e.Shut u) may none = λ whose old. old
  up_each s (e.Closed u why) may none = gone_stay l s (a.link.tunnels s)
  up_each s (e.Balked w) may none = λ whose old. old
  up_each s (e.Accepted j d) may none = absurd may
  up_each s e.Tick may none = absurd may
  up_each s (e.Wait ready how) may none = absurd may

  -- the tunnel on a stream changes, and the phase doesn't
  one_stays : (s : ℕ) (change : Tunnel → Tunnel) (y : Inbound) → y.phase ≡ a.link.phase
      → ((k : ℕ) → y.tunnels k ≡ (at_stream s change a.link).tunnels k)
      → Stays l s (a.link.tunnels s) (change (a.link.tunnels s)) → LinkStays l a.link y
  one_stays s change y phase tunnels here = record {
    born = λ is. ap is_born (sym phase) ∙ is;
    tunnels = λ k. subst (Stays l k (a.link.tunnels k)) (sym (tunnels k)) (at_stays l s k change a.link here);
  }

  told_stays : (ps : _) (told : Found) (headers : HeaderList) (b : Local) → Steps l a (looked ps told headers) b
      → (bytes : List ℕ) (conn : Connection) → LinkStays l a.link (told_of told headers bytes (record a.link { conn = conn }))
  told_stays ps (found.Opened s end) headers b steps bytes conn =
      let new = new_streams l start a parts stands s end steps.2 steps.3.finds in
      one_stays s (λ t. requested_with headers end) (told_of (found.Opened s end) headers bytes (record a.link { conn = conn })) refl
      (λ k. refl)
      (λ whose old. ((subst (λ (stage : Stage). OwnsBy stage whose l s (a.link.tunnels s).up) new old).0, refl))
  told_stays ps (found.Chunk s end) headers b steps bytes conn =
      one_stays s (came_up bytes) (told_of (found.Chunk s end) headers bytes (record a.link { conn = conn })) refl (λ k. refl)
      (λ whose old. old)
  told_stays ps (found.Ended s) headers b steps bytes conn =
      one_stays s peer_ended (told_of (found.Ended s) headers bytes (record a.link { conn = conn })) refl (λ k. refl) (λ whose old. old)
  told_stays ps (found.Reset s code) headers b steps bytes conn =
      one_stays s (ends_for (cause.PeerReset code)) (told_of (found.Reset s code) headers bytes (record a.link { conn = conn })) refl
      (λ k. refl) (ends_stay l s (cause.PeerReset code) (a.link.tunnels s))
  told_stays ps (found.Broken s code) headers b steps bytes conn =
      one_stays s (ends_for (cause.StreamFault code)) (told_of (found.Broken s code) headers bytes (record a.link { conn = conn })) refl
      (λ k. refl) (ends_stay l s (cause.StreamFault code) (a.link.tunnels s))
  told_stays ps (found.Fault code) headers b steps bytes conn =
      born_stays (told_of (found.Fault code) headers bytes (record a.link { conn = conn })) (ap is_born steps.0)
      (λ k. ends_stay l k (cause.ConnFault code) (a.link.tunnels k))
  told_stays ps found.Silent headers b steps bytes conn = record { born = λ is. is; tunnels = λ k whose old. old }
  told_stays ps (found.GoneAway last) headers b steps bytes conn = record { born = λ is. is; tunnels = λ k whose old. old }

  answered_stays : (s : ℕ) (headers : HeaderList) (end : Bool) → (a.link.tunnels s).stage ≡ requested headers end → (given : Verdict)
      → Stays l s (a.link.tunnels s) (tunnel_for given headers end)
  answered_stays s headers end is given whose old =
      by given end (subst (λ (stage : Stage). OwnsBy stage whose l s (a.link.tunnels s).up) is old).0
    where
      by : (given : Verdict) (end : Bool) → IsNone whose (upstream_of l s) → Owns whose l s (tunnel_for given headers end)
      by (Status status) end none = inl refl
      by Reset end none = inl refl
      by (Dial target) true none = (none, refl)
      by (Dial target) false none = (none, refl)

  staged : (s : ℕ) (stage : Stage) (new : Tunnel) → (a.link.tunnels s).stage ≡ stage
      → ((whose : ℕ → Owner) → OwnsBy stage whose l s (a.link.tunnels s).up → Owns whose l s new) → Stays l s (a.link.tunnels s) new
  staged s stage new is goes whose old = goes whose (subst (λ (st : Stage). OwnsBy st whose l s (a.link.tunnels s).up) is old)

  turn : (b : Local) (y : Inbound) → b ≡ with_link y a → LinkStays l a.link y → LinkStays l a.link b.link
  turn b y is now = subst (λ (c : Local). LinkStays l a.link c.link) (sym is) now

  pub step_stays : (p : Part) (b : Local) → Steps l a p b → list_any is_birth (part.entry_in p) ≡ false → LinkStays l a.link b.link
  step_stays (entry z) b steps none = turn b (entered z a.link) steps.1 (entry_stays z steps.0 (only (is_birth z) none))
    where
      only : (c : Bool) → (c || false) ≡ false → c ≡ false
      only true is = is
      only false is = is
  step_stays (up s z) b steps none =
      turn b (at_stream s (up_entered z) a.link) steps.1
      (one_stays s (up_entered z) (at_stream s (up_entered z) a.link) refl (λ k. refl) (up_each s z steps.0 (only (is_birth z) none)))
    where
      only : (c : Bool) → (c || false) ≡ false → c ≡ false
      only true is = is
      only false is = is
  step_stays welcomed b steps none = turn b _ steps.1 (all_same _ (ap is_born steps.0) (λ k. refl))
  step_stays crowded b steps none = turn b _ steps.1 (all_same _ (ap is_born steps.0) (λ k. refl))
  step_stays lacked b steps none =
      turn b (lacking a.link) steps.1
      (born_stays (lacking a.link) (born_lacking a.link.phase a.link steps.0) (λ k. ends_stay l k cause.NoMemory (a.link.tunnels k)))
  step_stays (part.fronted seen) b steps none = turn b _ steps.4 (all_same _ (ap is_born steps.0) (λ k. refl))
  step_stays (misfronted fault) b steps none = turn b _ steps.2 (all_same _ (ap is_born steps.0) (λ k. refl))
  step_stays (looked ps told headers) b steps none =
      turn b (on_found told headers steps.2 a.link) steps.5 (told_stays ps told headers b steps _ steps.2)
  step_stays (decided s full given) b steps none =
      turn b _ steps.5
      (one_stays s (λ t. tunnel_for given steps.1 steps.2) _ refl (λ k. refl) (answered_stays s steps.1 steps.2 steps.3 given))
  step_stays (accepted s made) b steps none =
      turn b _ steps.3
      (one_stays s (λ t. at_stage live (a.link.tunnels s)) _ refl (λ k. refl)
      (staged s accepting (at_stage live (a.link.tunnels s)) steps.1 (λ whose is. is)))
  step_stays (refused s status resets made) b steps none =
      turn b _ steps.4
      (one_stays s (λ t. steps.1) _ refl (λ k. refl)
      (rests_stay l s (a.link.tunnels s) steps.1 (refuses_left a.link l s status (a.link.tunnels s).stage made steps.1 steps.2)))
  step_stays (reset s code made) b steps none =
      turn b _ steps.3
      (one_stays s (λ t. steps.1) _ refl (λ k. refl)
      (rests_stay l s (a.link.tunnels s) steps.1 (resets_left a.link l s code (a.link.tunnels s).stage made steps.1 steps.2)))
  step_stays (left s made) b steps none =
      turn b _ steps.2
      (one_stays s (λ t. steps.0) _ refl (λ k. refl)
      (rests_stay l s (a.link.tunnels s) steps.0 (leaves_left a.link l s 0 (a.link.tunnels s).stage made steps.0 steps.1)))
  step_stays (done s made) b steps none =
      turn b _ steps.3
      (one_stays s (left_with cause.Done) _ refl (λ k. refl) (left_stay l s cause.Done (a.link.tunnels s)))
  step_stays (put s bytes) b steps none =
      turn b _ steps.3 (one_stays s (λ t. put_down a.link.conn s (a.link.tunnels s)) _ refl (λ k. refl) (λ whose old. old))
  step_stays (finished s) b steps none =
      turn b _ steps.2 (one_stays s (λ t. record (a.link.tunnels s) { end_put = true }) _ refl (λ k. refl) (λ whose old. old))
  step_stays (credited s n) b steps none =
      turn b _ steps.3 (one_stays s (λ t. record (a.link.tunnels s) { owed = 0 }) _ refl (λ k. refl) (λ whose old. old))
  step_stays (applied r) b steps none =
      subst (λ (c : Local). LinkStays l a.link c.link) (sym steps) (applied_stays l (after_response a.held r) a.link)
  step_stays (stopped why) b steps none = turn b (stopped_for why a.link) steps (stopped_stays l why a.link)
