-- Answers that the law of verdicts refuses, and a request that may come.
use Rattle.std.specs.Prelude.{◌≡◌, ◌≢◌, ℕ, Bool, List, [], ◌∷◌, ◌++◌, map}
use Rattle.hb_base.specs.declared.note.Note.{Note}
use Rattle.hb_conn.specs.declared.found.Found.TheVariants as found
use Rattle.hb_base.specs.declared.target.Target.{Target}
use Rattle.hb_disco.specs.declared.response.Response.{Response}
use Rattle.hb_front.specs.Reading.{Seen}
use Rattle.hb_held.specs.Held.{Resources}
use Rattle.hb_held.specs.Outcome.{after_response}
use Rattle.hb_hpack.specs.declared.header.HeaderList.{HeaderList}
use Rattle.hb_verdict.specs.Request.{request_of}
use Rattle.hb_verdict.specs.Verdict.{verdict}
use Rattle.hb_verdict.specs.declared.verdict.Verdict.{Verdict}
use Rattle.hb_verdict.specs.declared.verdict.Verdict.TheVariants.{Status, Dial}
use Rattle.hb_inbound.specs.Part.{Part, fronted, looked, decided, accepted, refused, reset, applied}
use Rattle.hb_inbound.specs.RefusedRuns.{peer_in}
use Rattle.hb_inbound.specs.Verdicts.{VerdictLaw}

-- what nothing asked for: a dial or a refusal is decided, 200 is put, a refusal is put, a stream is reset
abbrev pub DecidesUnasked : Type 0
DecidesUnasked = (start : Resources) (s : ℕ) (full : Bool) (given : Verdict) → VerdictLaw start (decided s full given ∷ []) → ⊥

abbrev pub AcceptsUnasked : Type 0
AcceptsUnasked = (start : Resources) (s : ℕ) (made : Note) → VerdictLaw start (accepted s made ∷ []) → ⊥

abbrev pub RefusesUnasked : Type 0
RefusesUnasked = (start : Resources) (s status : ℕ) (resets : Bool) (made : Note) → VerdictLaw start (refused s status resets made ∷ []) → ⊥

abbrev pub ResetsUnasked : Type 0
ResetsUnasked = (start : Resources) (s code : ℕ) (made : Note) → VerdictLaw start (reset s code made ∷ []) → ⊥

-- more is looked at while a request waits for its answer
abbrev pub LooksFirst : Type 0
LooksFirst = (start : Resources) (end : Bool) (headers more : HeaderList)
    → VerdictLaw start (looked [] (found.Opened 1 end) headers ∷ looked [] found.Silent more ∷ []) → ⊥

-- 200 is put in front of the upstream's opening: the answer was a dial
abbrev pub AcceptsEarly : Type 0
AcceptsEarly = (start : Resources) (end full : Bool) (headers : HeaderList) (given : Verdict) (made : Note)
    → VerdictLaw start (looked [] (found.Opened 1 end) headers ∷ decided 1 full given ∷ accepted 1 made ∷ []) → ⊥

-- A request comes behind the front header and some responses, and the verdict by what is held then is a dial
abbrev pub requested_behind : Seen → List Response → Bool → HeaderList → List Part
requested_behind seen rs end headers = fronted seen ∷ map applied rs ++ looked [] (found.Opened 1 end) headers ∷ []

abbrev pub IsToBeDialled : Resources → Seen → HeaderList → Bool → Target → Type 0
IsToBeDialled held seen headers full target = verdict (request_of headers seen.destination.ip) held (peer_in seen) full ≡ Dial target

-- it is refused as if its target weren't known, or by a policy that was removed: any status but 500, for which memory may be wanting
abbrev pub RefusesKnown : Type 0
RefusesKnown = (start : Resources) (seen : Seen) (end full : Bool) (headers : HeaderList) (target : Target) (status : ℕ)
    → IsToBeDialled start seen headers full target → status ≢ 500
    → VerdictLaw start (requested_behind seen [] end headers ++ decided 1 full (Status status) ∷ []) → ⊥

abbrev pub RefusesByThePast : Type 0
RefusesByThePast = (start : Resources) (seen : Seen) (r : Response) (end full : Bool) (headers : HeaderList) (target : Target) (status : ℕ)
    → IsToBeDialled (after_response start r) seen headers full target → status ≢ 500
    → VerdictLaw start (requested_behind seen (r ∷ []) end headers ++ decided 1 full (Status status) ∷ []) → ⊥

-- another target is dialled
abbrev pub DialsAnother : Type 0
DialsAnother = (start : Resources) (seen : Seen) (end full : Bool) (headers : HeaderList) (target other : Target)
    → IsToBeDialled start seen headers full target → target ≢ other
    → VerdictLaw start (requested_behind seen [] end headers ++ decided 1 full (Dial other) ∷ []) → ⊥

-- a request may come
abbrev pub RequestMayCome : Type 0
RequestMayCome = (start : Resources) (end : Bool) (headers : HeaderList) → VerdictLaw start (looked [] (found.Opened 1 end) headers ∷ [])
