-- Small lists of audits and notes told to them, right and wrong.
use Rattle.std.specs.Prelude.{⊤, ◌≡◌, ℕ, List, [], ◌∷◌, map, Option, Some, None}
use Rattle.hb_base.specs.declared.cause.Cause.TheVariants.{Done}
use Rattle.hb_base.specs.declared.note.Note.{Note}
use Rattle.hb_base.specs.declared.note.Note.TheVariants.{End}
use Rattle.hb_audit.specs.declared.audit.Noted.{Noted}
use Rattle.hb_audit.specs.declared.audit.Noted.TheVariants.{Kept, Failed}
use Rattle.hb_audit.specs.HeldBy.{answers_by}
use Rattle.hb_audit.specs.Laws.{StandIn}
use Rattle.hb_audit.specs.MemAudit.{Auditing, answers_so}
use Rattle.hb_audit.specs.Tells.{Answering, TellsOne, Tells}
use Rattle.hb_audit.specs.Told.{Told, plain}

-- two notes
abbrev pub first : Note
first = End 1 1 Done 0 0

abbrev pub second : Note
second = End 2 1 Done 0 0

-- both are told
abbrev pub both : List Told
both = plain first ∷ plain second ∷ []

-- others stand between them
abbrev pub SomeStandIn : Type 0
SomeStandIn = StandIn {A = ℕ} (1 ∷ 3 ∷ []) (1 ∷ 2 ∷ 3 ∷ [])

-- another order; once more than there are; one that isn't there
abbrev pub SwappedStand : Type 0
SwappedStand = StandIn {A = ℕ} (1 ∷ 2 ∷ []) (2 ∷ 1 ∷ []) → ⊥

abbrev pub TwiceStands : Type 0
TwiceStands = StandIn {A = ℕ} (1 ∷ 1 ∷ []) (1 ∷ 2 ∷ []) → ⊥

abbrev pub NewStands : Type 0
NewStands = StandIn {A = ℕ} (3 ∷ []) (1 ∷ 2 ∷ []) → ⊥

-- audits of which what they hold is all that is known, and that may give any answer
abbrev pub any_answer : Answering (Option (List Note))
any_answer = answers_by (λ holds. holds) (λ _ _ _ _. ⊤)

-- those of which each keeps every note
abbrev pub kept_alone : Answering (Option (List Note))
kept_alone = answers_by (λ holds. holds) (λ _ _ given _. given ≡ Kept)

-- of three audits the last fails at the second note; the first tells no notes
abbrev pub OneFails : Type 0
OneFails = Tells any_answer (None ∷ Some [] ∷ Some [] ∷ []) (None ∷ Some (first ∷ second ∷ []) ∷ []) both

-- all fail at once
abbrev pub AllFail : Type 0
AllFail = Tells any_answer (None ∷ Some [] ∷ []) [] both

-- an audit is left that lacks the first note, or the last; or holds one twice, or in another order, or one more
abbrev pub Refuses : List Note → List Note → Type 0
Refuses told holds = Tells any_answer (Some [] ∷ []) (Some holds ∷ []) (map plain told) → ⊥

abbrev pub LacksFirst : Type 0
LacksFirst = Refuses (first ∷ second ∷ []) (second ∷ [])

abbrev pub LacksLast : Type 0
LacksLast = Refuses (first ∷ second ∷ []) (first ∷ [])

abbrev pub HoldsTwice : Type 0
HoldsTwice = Refuses (first ∷ []) (first ∷ first ∷ [])

abbrev pub HoldsInAnotherOrder : Type 0
HoldsInAnotherOrder = Refuses (first ∷ second ∷ []) (second ∷ first ∷ [])

abbrev pub HoldsOneMore : Type 0
HoldsOneMore = Refuses (first ∷ []) (first ∷ second ∷ [])

-- an audit lost what it held before; audits changed places; there is one more
abbrev pub LosesOld : Type 0
LosesOld = Tells any_answer (Some (first ∷ []) ∷ []) (Some (second ∷ []) ∷ []) (plain second ∷ []) → ⊥

abbrev pub ChangePlaces : Type 0
ChangePlaces = Tells any_answer (Some [] ∷ None ∷ []) (None ∷ Some (first ∷ []) ∷ []) (plain first ∷ []) → ⊥

abbrev pub OneMoreIsLeft : Type 0
OneMoreIsLeft = Tells any_answer [] (None ∷ []) (plain first ∷ []) → ⊥

module _ {B : Type 0} (answers : Answering B) where
  -- it gives no other answer
  abbrev pub Only : Noted → B → Told → Type 0
  Only answer b t = (other : Noted) (after : B) → answers b t other after → other ≡ answer

  -- one that keeps the note is dropped, and one that fails is left
  abbrev pub DropsOneThatKeeps : Type 0
  DropsOneThatKeeps = (b : B) (t : Told) → Only Kept b t → TellsOne answers (b ∷ []) [] t → ⊥

  abbrev pub LeavesOneThatFails : Type 0
  LeavesOneThatFails = (b after : B) (t : Told) → Only Failed b t → TellsOne answers (b ∷ []) (after ∷ []) t → ⊥

-- AUDITS IN MEMORY

-- one without a note that has room for two, of whose calls this one is to fail
abbrev pub roomy : Option ℕ → Auditing
roomy fail = record { notes = []; room = 2; fail = fail; calls = 0; faults = 0 }

-- it is left, behind two calls, with these notes
abbrev pub full_of : Option ℕ → List Note → ℕ → Auditing
full_of fail notes faults = record { notes = notes; room = 2; fail = fail; calls = 2; faults = faults }

abbrev pub TellsBoth : Auditing → List Auditing → Type 0
TellsBoth old new = Tells answers_so (old ∷ []) new both

-- it keeps both notes
abbrev pub KeepsBoth : Type 0
KeepsBoth = TellsBoth (roomy None) (full_of None (first ∷ second ∷ []) 0 ∷ [])

-- it is left though its second call is the one that fails; it is left with a room, or a count of calls, that isn't its own
abbrev pub StaysFailed : Type 0
StaysFailed = (left : Auditing) → TellsBoth (roomy (Some 2)) (left ∷ []) → ⊥

abbrev pub ForgetsCalls : Type 0
ForgetsCalls = TellsBoth (roomy None) (record (full_of None (first ∷ second ∷ []) 0) { calls = 1 } ∷ []) → ⊥

-- one that has room, and of which no call is to fail, is dropped as one that failed
abbrev pub FailsWithRoom : Type 0
FailsWithRoom = (after : Auditing) → answers_so (roomy None) (plain first) Failed after → ⊥
