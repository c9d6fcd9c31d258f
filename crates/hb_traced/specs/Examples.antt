-- Small examples of what is kept of a call and of what is answered, right and wrong.
use Rattle.std.specs.Prelude.{◌≡◌, ℕ, true, false, List, [], ◌∷◌}
use Rattle.std.specs.Borrow.{Bor}
use Rattle.hb_base.specs.declared.cause.Cause.TheVariants.{Done}
use Rattle.hb_base.specs.declared.door.Door.TheVariants.{Inbound}
use Rattle.hb_world.specs.declared.entry.Entry.{Entry}
use Rattle.hb_world.specs.declared.entry.Entry.TheVariants as e
use Rattle.hb_world.specs.declared.world.Born.TheVariants as births
use Rattle.hb_world.specs.declared.world.Read.TheVariants as reads
use Rattle.hb_traced.specs.Answers.{read_of, numbered}
use Rattle.hb_traced.specs.Call.{entries_of}
use Rattle.hb_traced.specs.declared.call.Call.TheVariants as call

-- a read of link 1 found these octets at the buffer's front, of which two came, and adds these entries
abbrev pub ReadAdds : List Entry → Type 0
ReadAdds entries = (into : Bor (List ℕ)) → into.now ≡ 7 ∷ 8 ∷ 9 ∷ [] → entries_of (call.Read 1 into (reads.Got 2)) [] ≡ entries

abbrev pub OctetsAreKept : Type 0
OctetsAreKept = ReadAdds (e.Came 1 (7 ∷ 8 ∷ []) ∷ [])

-- no entry is kept; one octet more
abbrev pub NothingIsKept : Type 0
NothingIsKept = (into : Bor (List ℕ)) → into.now ≡ 7 ∷ 8 ∷ 9 ∷ [] → entries_of (call.Read 1 into (reads.Got 2)) [] ≡ [] → ⊥

abbrev pub MoreIsKept : Type 0
MoreIsKept = (into : Bor (List ℕ)) → into.now ≡ 7 ∷ 8 ∷ 9 ∷ [] → entries_of (call.Read 1 into (reads.Got 2)) [] ≡ e.Came 1 (7 ∷ 8 ∷ 9 ∷ []) ∷ [] → ⊥

-- a link that lives is shut once
abbrev pub living : List Entry
living = e.Accepted 1 Inbound ∷ []

abbrev pub ShutIsKept : Type 0
ShutIsKept = entries_of (call.Shut 1) living ≡ e.Shut 1 ∷ []

abbrev pub SecondShutIsNot : Type 0
SecondShutIsNot = entries_of (call.Shut 1) (e.Accepted 1 Inbound ∷ e.Shut 1 ∷ []) ≡ []

-- and closed once
abbrev pub CloseIsKept : Type 0
CloseIsKept = entries_of (call.Close 1 Done) living ≡ e.Closed 1 Done ∷ []

abbrev pub SecondCloseIsNot : Type 0
SecondCloseIsNot = entries_of (call.Close 1 Done) (e.Accepted 1 Inbound ∷ e.Closed 1 Done ∷ []) ≡ []

-- what comes on a link that doesn't live isn't told, and what comes on one that does is
abbrev pub DeadLinkBalks : Type 0
DeadLinkBalks = read_of false (reads.Got 2) ≡ reads.Balked

abbrev pub LivingLinkReads : Type 0
LivingLinkReads = read_of true (reads.Got 2) ≡ reads.Got 2

abbrev pub DeadLinkReads : Type 0
DeadLinkReads = read_of false (reads.Got 2) ≡ reads.Got 2 → ⊥

-- the next number is 3
abbrev pub NextIsBorn : Type 0
NextIsBorn = numbered 3 (births.New 3) ≡ births.New 3

abbrev pub OtherFails : Type 0
OtherFails = numbered 3 (births.New 4) ≡ births.Failed

abbrev pub OtherIsBorn : Type 0
OtherIsBorn = numbered 3 (births.New 4) ≡ births.New 4 → ⊥
