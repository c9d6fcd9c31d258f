-- The shortest spelling of fields (Protocol Buffers encoding guide), as functions to bytes.
use Rattle.std.specs.Prelude.{ℕ, ◌+◌, ◌*◌, ◌==◌, List, [], ◌∷◌, ◌++◌, length, if◌then◌else◌}
use Rattle.std.specs.List.{flat_map}
use Rattle.hb_base.specs.Groups.{groups_of}
use Rattle.hb_wire.specs.WireType.{varint_type, span_type}

-- a number of 64 bits as a varint
abbrev pub varint_of : ℕ → List ℕ
varint_of n = groups_of 10 n

-- the tag of a field
abbrev pub tag_of : ℕ → ℕ → List ℕ
tag_of number wire = varint_of (8 * number + wire)

-- a number as a field: 0 is the default, which isn't written
abbrev pub number_of : ℕ → ℕ → List ℕ
number_of number v = if v == 0 then [] else tag_of number varint_type ++ varint_of v

-- bytes as a field, none of them too
abbrev pub bytes_of : ℕ → List ℕ → List ℕ
bytes_of number own = tag_of number span_type ++ (varint_of (length own) ++ own)

-- numbers as one field, one varint behind the other; none are the default, which isn't written
abbrev pub packed_of : ℕ → List ℕ → List ℕ
packed_of number [] = []
packed_of number (v ∷ vs) = bytes_of number (flat_map varint_of (v ∷ vs))
