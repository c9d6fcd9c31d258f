-- The wire types (Protocol Buffers encoding guide, "Message Structure"). Groups, which are 3 and 4, aren't read.
use Rattle.std.specs.Prelude.{ℕ, ◌==◌, Bool, ◌||◌}

-- a varint
abbrev pub varint_type : ℕ
varint_type = 0

-- eight bytes
abbrev pub eight_type : ℕ
eight_type = 1

-- a length, which is a varint, and so many bytes
abbrev pub span_type : ℕ
span_type = 2

-- four bytes
abbrev pub four_type : ℕ
four_type = 5

abbrev pub is_wire_type : ℕ → Bool
is_wire_type wire = wire == varint_type || wire == eight_type || wire == span_type || wire == four_type
