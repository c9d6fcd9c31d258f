-- The connection preface of a client (RFC 9113 section 3.4).
use Rattle.std.specs.Prelude.{ℕ, ◌+◌, ◌-◌, ◌==◌, ◌&&◌, Bool, true, if◌then◌else◌, List, [], ◌∷◌, min, length, take, slice_range}
use Rattle.std.specs.Cmp.Lexicographic.{pointwise}

-- "PRI * HTTP/2.0", an empty line, "SM", an empty line
abbrev pub octets : List ℕ
octets =
    80 ∷ 82 ∷ 73 ∷ 32 ∷ 42 ∷ 32 ∷ 72 ∷ 84 ∷ 84 ∷ 80 ∷ 47 ∷ 50 ∷ 46 ∷ 48 ∷ 13 ∷ 10 ∷ 13 ∷ 10
    ∷ 83 ∷ 77 ∷ 13 ∷ 10 ∷ 13 ∷ 10 ∷ []

-- how many octets of the preface came, and whether they are the right ones so far
pub record Came : Type 0 where
  pub came : ℕ
  pub same : Bool

-- at the start: a server waits for a preface, a client for none
abbrev pub start : Bool → Came
start client = record { came = if client then 24 else 0; same = true }

-- how many of the octets belong to the preface
abbrev pub taken_of : Came → List ℕ → ℕ
taken_of p bytes = min (length bytes) (24 - p.came)

-- after these octets
abbrev pub fed : Came → List ℕ → Came
fed p bytes = record {
  came = p.came + taken_of p bytes;
  same = p.same && pointwise ◌==◌ (take (taken_of p bytes) bytes) (slice_range octets p.came (p.came + taken_of p bytes));
}

abbrev pub is_whole : Came → Bool
is_whole p = p.came == 24
