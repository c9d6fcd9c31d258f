-- Answers that the law of verdicts refuses, and a request that may come, proved.
use Rattle.std.proofs.Common.{◌≡◌, ◌≢◌, ◌⊎◌, inl, inr, ℕ, Bool, List, [], ◌∷◌, ◌++◌, Some, refl, sym, ◌∙◌, subst}
use Rattle.hb_base.specs.declared.ip.Ip.{Ip}
use Rattle.hb_base.specs.declared.peer.Peer.{Peer}
use Rattle.hb_base.specs.declared.target.Target.{Target}
use Rattle.hb_conn.specs.declared.found.Found.TheVariants as found
use Rattle.hb_front.specs.Reading.{Seen}
use Rattle.hb_held.specs.Held.{Resources}
use Rattle.hb_hpack.specs.declared.header.HeaderList.{HeaderList}
use Rattle.hb_verdict.specs.Request.{request_of}
use Rattle.hb_verdict.specs.Verdict.{verdict}
use Rattle.hb_verdict.specs.declared.verdict.Verdict.{Verdict}
use Rattle.hb_verdict.specs.declared.verdict.Verdict.TheVariants.{Status, Reset, Dial}
use Rattle.hb_inbound.specs.Part.{Part, looked, decided, accepted, refused, reset}
use Rattle.hb_inbound.specs.RefusedRuns.{peer_in}
use Rattle.hb_inbound.specs.Sides.{held, peer_of}
use Rattle.hb_inbound.specs.Verdicts.{VerdictAt, IsVerdict, IsAsked, answer, due_of, destination_of, due_answer, acceptance}
use Rattle.hb_inbound.specs.VerdictsRefused.{DecidesUnasked, AcceptsUnasked, RefusesUnasked, ResetsUnasked, LooksFirst, AcceptsEarly, RequestMayCome, requested_behind, IsToBeDialled, RefusesKnown, RefusesByThePast, DialsAnother}
use Rattle.hb_inbound.proofs.RefusedRuns.{last}

pub decides_unasked : DecidesUnasked
decides_unasked start s full given law = let at = law [] (decided s full given) [] refl in absurd (let is = at.1 in cc)

pub accepts_unasked : AcceptsUnasked
accepts_unasked start s made law = (law [] (accepted s made) [] refl).0

pub refuses_unasked : RefusesUnasked
refuses_unasked start s status resets made law = by (law [] (refused s status resets made) [] refl)
  where
    by : VerdictAt start [] (refused s status resets made) → ⊥
    by (inl is) = cc
    by (inr (inl is)) = let none = is.0 in cc
    by (inr (inr is)) = let none = is.0 in cc

pub resets_unasked : ResetsUnasked
resets_unasked start s code made law = by (law [] (reset s code made) [] refl)
  where
    by : VerdictAt start [] (reset s code made) → ⊥
    by (inl is) = let none = is.0 in cc
    by (inr (inl is)) = let none = is.0 in cc
    by (inr (inr is)) = let none = is.0 in cc

pub looks_first : LooksFirst
looks_first start end headers more law =
    let at = law (looked [] (found.Opened 1 end) headers ∷ []) (looked [] found.Silent more) [] refl 1 in cc

pub accepts_early : AcceptsEarly
accepts_early start end full headers given made law =
    by given (law (looked [] (found.Opened 1 end) headers ∷ decided 1 full given ∷ []) (accepted 1 made) [] refl).1
  where
    by : (given : Verdict) → due_answer given ≡ acceptance → ⊥
    by (Status status) is = cc
    by Reset is = cc
    by (Dial target) is = cc

-- what a verdict by what is held then can be, where that is a dial
module _ (start : Resources) (seen : Seen) (before : List Part) (headers : HeaderList) (full : Bool) (target : Target) (given : Verdict)
    (peer_is : peer_of before ≡ Some (peer_in seen)) (to_is : destination_of before ≡ Some seen.destination.ip)
    (is_dial : IsToBeDialled (held start before) seen headers full target) where
  by_verdict : IsVerdict start before headers full given → (given ≡ Dial target) ⊎ (given ≡ Status 500)
  by_verdict v =
      let same_peer : peer_in seen ≡ v.peer = (let told : Some (peer_in seen) ≡ Some v.peer = sym peer_is ∙ v.peer_is in cc) in
      let same_to : seen.destination.ip ≡ v.destination =
      (let told : Some seen.destination.ip ≡ Some v.destination = sym to_is ∙ v.destination_is in cc) in
      let dial : verdict (request_of headers v.destination) (held start before) v.peer full ≡ Dial target =
      subst (λ (p : Peer). verdict (request_of headers v.destination) (held start before) p full ≡ Dial target) same_peer
      (subst (λ (ip : Ip). verdict (request_of headers ip) (held start before) (peer_in seen) full ≡ Dial target) same_to is_dial) in
      by dial v.is
    where
      by : {x : Verdict} → x ≡ Dial target → (given ≡ x) ⊎ ((to : Target) × (x ≡ Dial to) × (given ≡ Status 500))
          → (given ≡ Dial target) ⊎ (given ≡ Status 500)
      by dial (inl same) = inl (same ∙ dial)
      by dial (inr other) = inr other.2

  asked_so : IsAsked before 1 start full given → due_of 1 before ≡ answer headers → (given ≡ Dial target) ⊎ (given ≡ Status 500)
  asked_so asked is =
      let same : asked.0 ≡ headers = (let told : answer asked.0 ≡ answer headers = sym asked.1 ∙ is in cc) in
      by_verdict (subst (λ (hs : HeaderList). IsVerdict start before hs full given) same asked.2)

refused_by : (target : Target) (status : ℕ) → status ≢ 500 → (Status status ≡ Dial target) ⊎ (Status status ≡ Status 500) → ⊥
refused_by target status other (inl is) = cc
refused_by target status other (inr is) = other (cc)

dialled_by : (target other : Target) → target ≢ other → (Dial other ≡ Dial target) ⊎ (Dial other ≡ Status 500) → ⊥
dialled_by target other apart (inl is) = apart (let same : other ≡ target = cc in sym same)
dialled_by target other apart (inr is) = cc

pub refuses_known : RefusesKnown
refuses_known start seen end full headers target status is other law =
    let before = requested_behind seen [] end headers in
    refused_by target status other
    (asked_so start seen before headers full target (Status status) refl refl is
    (last (VerdictAt start) before (decided 1 full (Status status)) law) refl)

pub refuses_by_the_past : RefusesByThePast
refuses_by_the_past start seen r end full headers target status is other law =
    let before = requested_behind seen (r ∷ []) end headers in
    refused_by target status other
    (asked_so start seen before headers full target (Status status) refl refl is
    (last (VerdictAt start) before (decided 1 full (Status status)) law) refl)

pub dials_another : DialsAnother
dials_another start seen end full headers target other is apart law =
    let before = requested_behind seen [] end headers in
    dialled_by target other apart
    (asked_so start seen before headers full target (Dial other) refl refl is
    (last (VerdictAt start) before (decided 1 full (Dial other)) law) refl)

none_behind : (bs : List Part) (p : Part) (behind : List Part) → [] ≡ bs ++ p ∷ behind → ⊥
none_behind [] p behind is = cc
none_behind (b ∷ bs) p behind is = cc

pub request_may_come : RequestMayCome
request_may_come start end headers = at
  where
    q : Part
    q = looked [] (found.Opened 1 end) headers

    at : (before : List Part) (p : Part) (behind : List Part) → q ∷ [] ≡ before ++ p ∷ behind → VerdictAt start before p
    at [] p behind is = subst (VerdictAt start []) (let same : q ≡ p = cc in same) (λ s. refl)
    at (b ∷ bs) p behind is = absurd (none_behind bs p behind (cc))
