-- The canonical spelling: fields by rising number, each in its shortest spelling, no default written. What the messages share.
use Rattle.std.specs.Prelude.{ℕ, List, [], ◌∷◌}
use Rattle.std.specs.List.{flat_map}
use Rattle.std.specs.Int.{to_be_bytes, w32, w128}
use Rattle.hb_base.specs.declared.ip.Ip.{Ip}
use Rattle.hb_base.specs.declared.ip.Ip.TheVariants.{V4, V6}
use Rattle.hb_wire.specs.Writing.{bytes_of}

-- a text as a field: the empty text is the default, which isn't written
abbrev pub text_field : ℕ → List ℕ → List ℕ
text_field number [] = []
text_field number (b ∷ bs) = bytes_of number (b ∷ bs)

-- a repeated field: one field for each entry, in order, an empty entry too
abbrev pub entries_of : {T : Type 0} → ℕ → (T → List ℕ) → List T → List ℕ
entries_of number spelled entries = flat_map (λ e. bytes_of number (spelled e)) entries

-- an address as octets, most significant first: four of IPv4, sixteen of IPv6
abbrev pub octets_of : Ip → List ℕ
octets_of (V4 n) = to_be_bytes w32 n
octets_of (V6 n) = to_be_bytes w128 n
