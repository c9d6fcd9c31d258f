-- Repeated numbers, one a field or packed (Protocol Buffers encoding guide, "Packed Repeated Fields").
use Rattle.std.specs.Prelude.{ℕ, zero, suc, List, length, Option, Some, None, Result, Ok, Err}
use Rattle.hb_wire.specs.declared.fault.WireFault.{WireFault}
use Rattle.hb_wire.specs.Field.{Unread, next_number_in}
use Rattle.hb_wire.specs.Message.{and_then}
use Rattle.hb_records.specs.declared.fault.RecordFault.{RecordFault}
use Rattle.hb_records.specs.declared.fault.RecordFault.TheVariants.{Wire}
use Rattle.hb_records.specs.Entries.{low_32, one_more}

-- one more number
abbrev pub with_number : ℕ → List ℕ → ℕ → Result (List ℕ) RecordFault
with_number field numbers n = one_more field numbers (Ok (low_32 n))

-- the numbers from the next one on; a number that is broken is an entry too
abbrev pub numbers_from : ℕ → List ℕ → (List ℕ → Unread → Result (List ℕ) RecordFault) → Result (Option (ℕ × Unread)) WireFault
    → Result (List ℕ) RecordFault
numbers_from field numbers behind (Ok None) = Ok numbers
numbers_from field numbers behind (Ok (Some n)) = and_then (with_number field numbers n.0) (λ more. behind more n.1)
numbers_from field numbers behind (Err fault) = one_more field numbers (Err (Wire fault))

-- at most so many numbers in front
unfoldable pub numbers_within : ℕ → ℕ → List ℕ → Unread → Result (List ℕ) RecordFault
numbers_within zero field numbers u = Ok numbers
numbers_within (suc most) field numbers u =
    numbers_from field numbers (λ more rest. numbers_within most field more rest) (next_number_in u)

-- What a packed field makes of a list of numbers. Each takes a byte, so there are no more numbers than bytes.
unfoldable pub packed_in : ℕ → List ℕ → Unread → Result (List ℕ) RecordFault
packed_in field numbers u = numbers_within (length u.left) field numbers u
