-- A script is read row by row.
use Rattle.std.proofs.Common.{◌≡◌, ℕ, ◌+◌, ◌<◌, ◌≤◌, ◌==◌, Bool, true, false, cond, List, [], ◌∷◌, length, Some, None, Result, Ok, Err, refl, sym, ap, ◌∙◌, arith, length-drop, append_assoc, append-nil, inl, inr}
use Rattle.std.specs.Prelude.{nat_lt, position}
use Rattle.std.specs.List.{slice_split, onto_first, position_or_len, before_first, after_first}
use Rattle.std.proofs.lemmas.Bool.{cases_lt}
use Rattle.std.proofs.lemmas.Bool.Decides.{nat_tests}
use Rattle.std.proofs.lemmas.List.{take_all}
use Rattle.std.proofs.lemmas.List.Splits.{slice_split_first}
use Rattle.std.proofs.Math.ListN.{drop_of_length-le}
use Rattle.hb_base.specs.declared.or.Or.{Or}
use Rattle.hb_base.specs.declared.or.Or.TheVariants.{Fault, NoMemory}
use Rattle.hb_base.specs.Outcome.{Fails}
use Rattle.hb_world.specs.declared.line.Line.{Line}
use Rattle.hb_script.specs.declared.fault.ScriptFault.{ScriptFault}
use Rattle.hb_script.specs.Script.{rows, row_lines, joined, lines_from}

abbrev is_newline : ℕ → Bool
is_newline b = b == 10

found_in : (n k i : ℕ) (test : Bool) → nat_lt n k ≡ test → cond test (Some n) None ≡ Some i → i ≡ n
found_in n k i true is e = cc
found_in n k i false is e = absurd cc

-- where a newline is found
pub found_at : (text : List ℕ) (i : ℕ) → position is_newline text ≡ Some i → i ≡ position_or_len is_newline text
found_at text i e = found_in (position_or_len is_newline text) (length text) i
    (nat_lt (position_or_len is_newline text) (length text)) refl e

missing_in : (n k : ℕ) (test : Bool) → nat_lt n k ≡ test → cond test (Some n) None ≡ None → k ≤ n
missing_in n k true is e = absurd cc
missing_in n k false is e = grind (arith, nat_tests)

-- where none is
pub missing : (text : List ℕ) → position is_newline text ≡ None → length text ≤ position_or_len is_newline text
missing text e = missing_in (position_or_len is_newline text) (length text) (nat_lt (position_or_len is_newline text) (length text)) refl e

one_row_at : (b : ℕ) (bs : List ℕ) (test : Bool) → (b == 10) ≡ test → length (b ∷ bs) ≤ position_or_len is_newline (b ∷ bs)
    → (length bs ≤ position_or_len is_newline bs → slice_split is_newline bs ≡ bs ∷ [])
    → slice_split is_newline (b ∷ bs) ≡ (b ∷ bs) ∷ []
one_row_at b bs true is long later = absurd (let h : length (b ∷ bs) ≤ 0 = rw is at long in omega arith)
one_row_at b bs false is long later =
    rw is (ap (onto_first b) (later (let h : length (b ∷ bs) ≤ 1 + position_or_len is_newline bs = rw is at long in omega arith)))

-- a text without a newline is one row
one_row : (text : List ℕ) → length text ≤ position_or_len is_newline text → slice_split is_newline text ≡ text ∷ []
one_row [] long = refl
one_row (b ∷ bs) long = one_row_at b bs (b == 10) refl long (one_row bs)

pub nothing_joined : (r : Result (List Line) ScriptFault) → joined (Ok []) r ≡ r
nothing_joined (Ok behind) = refl
nothing_joined (Err fault) = refl

joined_assoc : (a b c : Result (List Line) ScriptFault) → joined (joined a b) c ≡ joined a (joined b c)
joined_assoc (Ok a) (Ok b) (Ok c) = ap Ok (append_assoc a b c)
joined_assoc (Ok a) (Ok b) (Err fault) = refl
joined_assoc (Ok a) (Err fault) c = refl
joined_assoc (Err fault) b c = refl

-- the first row is cut off, and an empty row behind the last newline changes nothing
pub first_row_off : (n : ℕ) (text : List ℕ)
    → lines_from n (rows text) ≡ joined (row_lines n (before_first is_newline text))
    (lines_from (n + 1) (rows (after_first is_newline text)))
first_row_off n text = elim (cases_lt (position_or_len is_newline text) (length text)) [
  | inl inside ↦ ap (lines_from n) (slice_split_first is_newline text 0 inside)
  | inr past ↦ rw (
    one_row text past,
    take_all (position_or_len is_newline text) text past,
    drop_of_length-le text {i = position_or_len is_newline text + 1} (omega arith),
  ) refl
]

pub behind_is_shorter : (text : List ℕ) → 0 < length text → length (after_first is_newline text) < length text
behind_is_shorter text some = omega (arith, length-drop (position_or_len is_newline text + 1) text)

-- what is read before a row, what the row gives, and what the later rows give
later_rows : (n : ℕ) (done : List Line) (text : List ℕ) → joined (Ok done) (lines_from n (rows text))
    ≡ joined (joined (Ok done) (row_lines n (before_first is_newline text))) (lines_from (n + 1) (rows (after_first is_newline text)))
later_rows n done text = ap (joined (Ok done)) (first_row_off n text) ∙ sym (joined_assoc (Ok done) _ _)

-- a row adds its line
pub goes_on : (n : ℕ) (done next : List Line) (text : List ℕ) (all : Result (List Line) ScriptFault)
    → joined (Ok done) (row_lines n (before_first is_newline text)) ≡ Ok next
    → joined (Ok done) (lines_from n (rows text)) ≡ all
    → joined (Ok next) (lines_from (n + 1) (rows (after_first is_newline text))) ≡ all
goes_on n done next text all is same =
    ap (λ r. joined r (lines_from (n + 1) (rows (after_first is_newline text)))) (sym is) ∙ sym (later_rows n done text) ∙ same

-- or its fault is the script's
pub ends : (n : ℕ) (done : List Line) (why : Or ScriptFault) (text : List ℕ) (all : Result (List Line) ScriptFault)
    → Fails (joined (Ok done) (row_lines n (before_first is_newline text))) why
    → joined (Ok done) (lines_from n (rows text)) ≡ all → Fails all why
ends n done (Fault fault) text all is same =
    sym same ∙ later_rows n done text ∙ ap (λ r. joined r (lines_from (n + 1) (rows (after_first is_newline text)))) is
ends n done NoMemory text all is same = tt

-- where nothing is left, all lines are read
pub is_done : (n : ℕ) (done : List Line) (text : List ℕ) (all : Result (List Line) ScriptFault) → length text ≡ 0
    → joined (Ok done) (lines_from n (rows text)) ≡ all → all ≡ Ok done
is_done n done [] all empty same = sym same ∙ ap Ok (append-nil done)
is_done n done (b ∷ bs) all empty same = absurd (omega arith)

pub some_left : (bytes : List ℕ) → false ≡ (length bytes == 0) → 0 < length bytes
some_left [] e = absurd cc
some_left (byte ∷ bytes) e = omega arith

pub none_left : (n : ℕ) → true ≡ (n == 0) → n ≡ 0
none_left n e = grind (arith, nat_tests)
