-- What every run of a link keeps of who is admitted.
use Rattle.std.proofs.Common.{◌≡◌, ℕ, ◌==◌, Bool, true, false, List, [], ◌∷◌, ◌++◌, Option, Some, None, refl, ap, sym, ◌∙◌, subst}
use Rattle.std.proofs.lemmas.Bool.{false≢true, cond_both, eqb-true, eq-eqb, ne_eqb}
use Rattle.hb_base.specs.declared.cause.Cause.{Cause}
use Rattle.hb_base.specs.declared.ip.Ip.{Ip}
use Rattle.hb_base.specs.declared.peer.Peer.{Peer}
use Rattle.hb_base.specs.declared.target.Target.{Target}
use Rattle.hb_held.specs.Held.{Resources}
use Rattle.hb_held.specs.Lookup.{ip_eq}
use Rattle.hb_table.specs.Judgement.{judged}
use Rattle.hb_table.specs.declared.judgement.Judged.TheVariants.{Admitted}
use Rattle.hb_inbound.specs.Inbound.{Inbound, Phase, unborn, arriving, fronting, serving, faulted, closing, closed, at_stream, ends_with}
use Rattle.hb_inbound.specs.Part.{Part}
use Rattle.hb_inbound.specs.Runs.{Local, with_link}
use Rattle.hb_inbound.specs.Sides.{held, held_by, peer_of, peer_by, target_of, target_by}
use Rattle.hb_inbound.specs.Tunnel.{Tunnel, Stage, unasked, requested, refusing, malformed, due, opening, accepting, live, failed, ended, over, gone, takes_place, ends_by}
use Rattle.hb_inbound.proofs.Grown.{fold_one}

-- what the front header told: who the peer is, and which address it meant
abbrev pub told_by_front : Inbound → Peer × Ip
told_by_front x = (x.peer, x.destination)

-- a tunnel that has a place is admitted by what is held, at the target that it was dialled for, and its peer is the one that the
-- front header told, and its target's address the one that the peer meant
pub record IsIn (h : Resources) (front : Peer × Ip) (parts : List Part) (s : ℕ) (t : Tunnel) : Type 0 where
  pub peer_is : peer_of parts ≡ Some front.0
  pub target_is : target_of s parts ≡ Some t.target
  pub admitted : judged h front.0 t.target ≡ Admitted
  pub here : ip_eq t.target.ip front.1 ≡ true

abbrev pub Tells : Resources → Peer × Ip → List Part → ℕ → Tunnel → Type 0
Tells h front parts s t = takes_place t.stage ≡ true → IsIn h front parts s t

-- in front of a whole header nothing was asked for; behind it the peer is known
abbrev pub AreUnasked : Inbound → Type 0
AreUnasked x = (s : ℕ) → (x.tunnels s).stage ≡ unasked

abbrev pub KnowsBy : Phase → List Part → Inbound → Type 0
KnowsBy unborn parts x = AreUnasked x
KnowsBy arriving parts x = AreUnasked x
KnowsBy fronting parts x = AreUnasked x
KnowsBy serving parts x = peer_of parts ≡ Some x.peer
KnowsBy _ parts x = Unit {0}

pub record Admits (start : Resources) (parts : List Part) (a : Local) : Type 0 where
  pub holds : held start parts ≡ a.held
  pub knows : KnowsBy a.link.phase parts a.link
  pub each : (s : ℕ) → Tells a.held (told_by_front a.link) parts s (a.link.tunnels s)

-- a part that leaves what is held, who the peer is, and a target
abbrev pub LeavesHeld : Part → Type 0
LeavesHeld p = (h : Resources) → held_by h p ≡ h

abbrev pub LeavesPeer : Part → Type 0
LeavesPeer p = (peer : Option Peer) → peer_by peer p ≡ peer

abbrev pub LeavesTarget : ℕ → Part → Type 0
LeavesTarget s p = (target : Option Target) → target_by s target p ≡ target

pub record Leaves_all (p : Part) : Type 0 where
  pub held : LeavesHeld p
  pub peer : LeavesPeer p
  pub targets : (s : ℕ) → LeavesTarget s p

-- a place is never told of an end
pub none_in : (why : Cause) (stage : Stage) → takes_place (ends_by why stage) ≡ false
none_in why unasked = refl
none_in why (requested headers end) = refl
none_in why (refusing status target) = refl
none_in why malformed = refl
none_in why due = refl
none_in why opening = refl
none_in why accepting = refl
none_in why live = refl
none_in why (failed cause) = refl
none_in why (ended cause) = refl
none_in why (over cause) = refl
none_in why gone = refl

pub placeless : {A : Type 0} (b : Bool) → b ≡ false → b ≡ true → A
placeless b none some = absurd (false≢true (sym none ∙ some))

-- two numbers that differ, the other way round
pub swapped : (k s : ℕ) → (k == s) ≡ false → (s == k) ≡ false
swapped k s apart = ne_eqb s k (λ is. false≢true (sym apart ∙ eq-eqb k s (sym is)))

-- what holds of a tunnel that changes, and of each other one as it was
pub at_one : (s : ℕ) (change : Tunnel → Tunnel) (x : Inbound) (P : ℕ → Tunnel → Type 0) → P s (change (x.tunnels s))
    → ((k : ℕ) → (k == s) ≡ false → P k (x.tunnels k)) → (k : ℕ) → P k ((at_stream s change x).tunnels k)
at_one s change x P here others k =
    cond_both (k == s) (change (x.tunnels k)) (x.tunnels k) (P k)
    (λ is. subst (λ (j : ℕ). P j (change (x.tunnels j))) (sym (eqb-true k s is)) here) (others k)

module _ (start : Resources) (parts : List Part) where
  pub held_stays : (p : Part) (h : Resources) → LeavesHeld p → held start parts ≡ h → held start (parts ++ p ∷ []) ≡ h
  held_stays p h same is = fold_one held_by start parts p ∙ same (held start parts) ∙ is

  pub peer_stays : (p : Part) → LeavesPeer p → peer_of (parts ++ p ∷ []) ≡ peer_of parts
  peer_stays p same = fold_one peer_by None parts p ∙ same (peer_of parts)

  pub target_stays : (s : ℕ) (p : Part) → LeavesTarget s p → target_of s (parts ++ p ∷ []) ≡ target_of s parts
  target_stays s p same = fold_one (target_by s) None parts p ∙ same (target_of s parts)

  -- a tunnel that keeps its target and takes no place that it didn't have
  pub tells_on : (p : Part) (h : Resources) (front : Peer × Ip) (s : ℕ) (t new : Tunnel) → LeavesPeer p → LeavesTarget s p
      → new.target ≡ t.target → (takes_place new.stage ≡ true → takes_place t.stage ≡ true) → Tells h front parts s t
      → Tells h front (parts ++ p ∷ []) s new
  tells_on p h front s t new peers targets target place tells place_now =
      let was = tells (place place_now) in
      record {
        peer_is = peer_stays p peers ∙ was.peer_is;
        target_is = target_stays s p targets ∙ was.target_is ∙ ap Some (sym target);
        admitted = ap (judged h front.0) target ∙ was.admitted;
        here = ap (λ (to : Target). ip_eq to.ip front.1) target ∙ was.here;
      }

  -- in front of a whole header, and behind it, it stays so
  pub knows_on : (phase : Phase) (p : Part) (x y : Inbound) → LeavesPeer p → y.peer ≡ x.peer
      → ((s : ℕ) → (x.tunnels s).stage ≡ unasked → (y.tunnels s).stage ≡ unasked) → KnowsBy phase parts x
      → KnowsBy phase (parts ++ p ∷ []) y
  knows_on unborn p x y peers peer early knows = λ s. early s (knows s)
  knows_on arriving p x y peers peer early knows = λ s. early s (knows s)
  knows_on fronting p x y peers peer early knows = λ s. early s (knows s)
  knows_on serving p x y peers peer early knows = peer_stays p peers ∙ knows ∙ ap Some (sym peer)
  knows_on (faulted code) p x y peers peer early knows = tt
  knows_on (closing why) p x y peers peer early knows = tt
  knows_on closed p x y peers peer early knows = tt

  -- the link in another state, of which each tunnel keeps its target and takes no place that it didn't have
  pub moves_on : (p : Part) (a : Local) (y : Inbound) → Leaves_all p → told_by_front y ≡ told_by_front a.link
      → KnowsBy y.phase (parts ++ p ∷ []) y
      → ((s : ℕ) → (y.tunnels s).target ≡ (a.link.tunnels s).target)
      → ((s : ℕ) → takes_place (y.tunnels s).stage ≡ true → takes_place (a.link.tunnels s).stage ≡ true)
      → Admits start parts a → Admits start (parts ++ p ∷ []) (with_link y a)
  moves_on p a y leaves front knows targets places admits = record {
    holds = held_stays p a.held leaves.held admits.holds;
    knows = knows;
    each = λ s.
        subst (λ (told : Peer × Ip). Tells a.held told (parts ++ p ∷ []) s (y.tunnels s)) (sym front)
        (tells_on p a.held (told_by_front a.link) s (a.link.tunnels s) (y.tunnels s) leaves.peer (leaves.targets s) (targets s) (places s)
        (admits.each s));
  }

  -- in the same phase
  pub stays_on : (p : Part) (a : Local) (y : Inbound) → Leaves_all p → told_by_front y ≡ told_by_front a.link → y.phase ≡ a.link.phase
      → ((s : ℕ) → (a.link.tunnels s).stage ≡ unasked → (y.tunnels s).stage ≡ unasked)
      → ((s : ℕ) → (y.tunnels s).target ≡ (a.link.tunnels s).target)
      → ((s : ℕ) → takes_place (y.tunnels s).stage ≡ true → takes_place (a.link.tunnels s).stage ≡ true)
      → Admits start parts a → Admits start (parts ++ p ∷ []) (with_link y a)
  stays_on p a y leaves front phase early targets places admits =
      moves_on p a y leaves front
      (subst (λ (ph : Phase). KnowsBy ph (parts ++ p ∷ []) y) (sym phase)
      (knows_on a.link.phase p a.link y leaves.peer (ap (λ (told : Peer × Ip). told.0) front) early admits.knows))
      targets places admits

  -- with the same tunnels
  pub same_on : (p : Part) (a : Local) (y : Inbound) → Leaves_all p → told_by_front y ≡ told_by_front a.link → y.phase ≡ a.link.phase
      → y.tunnels ≡ a.link.tunnels → Admits start parts a → Admits start (parts ++ p ∷ []) (with_link y a)
  same_on p a y leaves front phase tunnels admits =
      stays_on p a y leaves front phase
      (λ s is. ap (λ (f : ℕ → Tunnel). (f s).stage) tunnels ∙ is)
      (λ s. ap (λ (f : ℕ → Tunnel). (f s).target) tunnels)
      (λ s is. sym (ap (λ (f : ℕ → Tunnel). takes_place (f s).stage) tunnels) ∙ is) admits

  -- the link ends, and its tunnels with it
  pub ends_on : (p : Part) (a : Local) (phase : Phase) (why : Cause) → Leaves_all p
      → KnowsBy phase (parts ++ p ∷ []) (ends_with phase why a.link) → Admits start parts a
      → Admits start (parts ++ p ∷ []) (with_link (ends_with phase why a.link) a)
  ends_on p a phase why leaves knows admits =
      moves_on p a (ends_with phase why a.link) leaves refl knows (λ s. refl)
      (λ s is. placeless (takes_place (ends_by why (a.link.tunnels s).stage)) (none_in why (a.link.tunnels s).stage) is) admits

  -- one tunnel changes that isn't unasked before, or isn't in one of the first phases
  pub one_on : (p : Part) (a : Local) (y : Inbound) (s : ℕ) (change : Tunnel → Tunnel) → Leaves_all p
      → told_by_front y ≡ told_by_front a.link → y.phase ≡ a.link.phase → y.tunnels ≡ (at_stream s change a.link).tunnels
      → ((a.link.tunnels s).stage ≡ unasked → (change (a.link.tunnels s)).stage ≡ unasked)
      → (change (a.link.tunnels s)).target ≡ (a.link.tunnels s).target
      → (takes_place (change (a.link.tunnels s)).stage ≡ true → takes_place (a.link.tunnels s).stage ≡ true)
      → Admits start parts a → Admits start (parts ++ p ∷ []) (with_link y a)
  one_on p a y s change leaves front phase tunnels early target place admits =
      let x = a.link in
      let tunnel : (k : ℕ) → y.tunnels k ≡ (at_stream s change x).tunnels k = λ k. ap (λ (f : ℕ → Tunnel). f k) tunnels in
      stays_on p a y leaves front phase
      (λ k is. ap (λ (t : Tunnel). t.stage) (tunnel k)
      ∙ at_one s change x (λ j t. (x.tunnels j).stage ≡ unasked → t.stage ≡ unasked) early (λ j apart same. same) k is)
      (λ k. ap (λ (t : Tunnel). t.target) (tunnel k)
      ∙ at_one s change x (λ j t. t.target ≡ (x.tunnels j).target) target (λ j apart. refl) k)
      (λ k is. at_one s change x (λ j t. takes_place t.stage ≡ true → takes_place (x.tunnels j).stage ≡ true) place (λ j apart same. same) k
      (sym (ap (λ (t : Tunnel). takes_place t.stage) (tunnel k)) ∙ is)) admits
