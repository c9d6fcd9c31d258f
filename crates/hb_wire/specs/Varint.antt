-- Base 128 varints (Protocol Buffers encoding guide).
use Rattle.std.specs.Prelude.{ℕ, ◌+◌, ◌-◌, ◌*◌, ◌==◌, nat_lt, List, [], ◌∷◌, Result, Ok, Err, if◌then◌else◌}
use Rattle.hb_wire.specs.declared.varint.Varint.{Varint}
use Rattle.hb_wire.specs.declared.fault.WireFault.{WireFault}
use Rattle.hb_wire.specs.declared.fault.WireWhy.TheVariants.{Truncated, LongVarint}

-- the seven low bits of a byte, before the bits that the bytes behind it stand for
abbrev pub before_high_bits : ℕ → Result Varint WireFault → Result Varint WireFault
before_high_bits low (Ok high) = Ok (record { value = low + 128 * high.value; length = high.length + 1 })
before_high_bits low (Err fault) = Err fault

-- The varint in front of the bytes, which stand at a place and behind so many bytes of it: a byte below 128 is the
-- last, another has the low seven bits, and a tenth byte is the last and at most 1.
abbrev pub varint_at : List ℕ → ℕ → ℕ → Result Varint WireFault
varint_at [] at index = Err (record { at = at; why = Truncated })
varint_at (byte ∷ rest) at index =
    if index == 9
    then (if nat_lt 1 byte then Err (record { at = at; why = LongVarint }) else Ok (record { value = byte; length = 1 }))
    else (if nat_lt byte 128 then Ok (record { value = byte; length = 1 }) else
    before_high_bits (byte - 128) (varint_at rest (at + 1) (index + 1)))
