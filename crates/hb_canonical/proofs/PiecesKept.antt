-- What a text, an entry of a repeated field and packed numbers give.
use Rattle.std.proofs.Common.{◌≡◌, ℕ, zero, suc, ◌<◌, Bool, true, false, cond, List, [], ◌∷◌, length, Option, Some, None, Result, Ok, Err, IfOk, refl, arith, length-append}
use Rattle.std.specs.Prelude.{nat_lt}
use Rattle.std.specs.Str.{is_utf8}
use Rattle.std.proofs.lemmas.Bool.{ltb-true}
use Rattle.std.proofs.lemmas.List.Elements.{All-push}
use Rattle.hb_wire.specs.declared.fault.WireFault.{WireFault}
use Rattle.hb_wire.specs.Field.{Unread, next_number_in}
use Rattle.hb_wire.specs.Message.{and_then}
use Rattle.hb_records.specs.declared.fault.RecordFault.{RecordFault}
use Rattle.hb_records.specs.declared.fault.RecordFault.TheVariants.{Wire}
use Rattle.hb_records.specs.Entries.{text_in, one_more, room_in, low_32, most_entries}
use Rattle.hb_records.specs.Numbers.{with_number, numbers_from, numbers_within, packed_in}
use Rattle.hb_canonical.proofs.Kept.{ok_then, set_kept}
use Rattle.hb_canonical.proofs.Pieces.{IsText, IsList, IsNumber}

text_by_test : (test : Bool) (bytes : List ℕ) (e : RecordFault) → is_utf8 bytes ≡ test → IfOk (cond test (Ok bytes) (Err e)) IsText
text_by_test true bytes e is = is
text_by_test false bytes e is = tt

pub text_kept : (field : ℕ) (bytes : List ℕ) → IfOk (text_in field bytes) IsText
text_kept field bytes = text_by_test (is_utf8 bytes) bytes _ refl

-- a text that is put into its place
pub text_put : {S : Type 0} (field : ℕ) (bytes : List ℕ) (put : List ℕ → S) (P : S → Type 0) → ((t : List ℕ) → IsText t → P (put t))
    → IfOk (and_then (text_in field bytes) (λ t. Ok (put t))) P
text_put field bytes put P keeps = set_kept (text_in field bytes) put IsText P (text_kept field bytes) keeps

pub low_kept : (n : ℕ) → IsNumber (low_32 n)
low_kept n = omega arith

room_by_test : {T : Type 0} (test : Bool) (entries : List T) (e : RecordFault) → nat_lt (length entries) most_entries ≡ test
    → IfOk (cond test (Ok (tt {0})) (Err e)) (λ _. length entries < most_entries)
room_by_test true entries e is = ltb-true (length entries) most_entries is
room_by_test false entries e is = tt

-- one more entry, of which the like are there
more_kept : {T : Type 0} (field : ℕ) (entries : List T) (entry : Result T RecordFault) (P : T → Type 0) → IfOk entry P
    → IsList P entries
    → IfOk (one_more field entries entry) (IsList P)
more_kept field entries entry P p (few, all) =
    ok_then (room_in field entries) _ (λ _. length entries < most_entries) (IsList P) (room_by_test _ entries _ refl)
    (λ _ room. ok_then entry _ P (IsList P) p (λ e q. (omega (arith, length-append entries (e ∷ [])), All-push P entries e all q)))

-- a list with one more entry that is put into its place
pub more_put : {T S : Type 0} (field : ℕ) (entries : List T) (entry : Result T RecordFault) (put : List T → S) (Q : T → Type 0)
    (P : S → Type 0) → IfOk entry Q → IsList Q entries → ((l : List T) → IsList Q l → P (put l))
    → IfOk (and_then (one_more field entries entry) (λ l. Ok (put l))) P
more_put field entries entry put Q P q are keeps =
    set_kept (one_more field entries entry) put (IsList Q) P (more_kept field entries entry Q q are) keeps

pub number_kept : (field : ℕ) (numbers : List ℕ) (n : ℕ) → IsList IsNumber numbers → IfOk (with_number field numbers n) (IsList IsNumber)
number_kept field numbers n are = more_kept field numbers (Ok (low_32 n)) IsNumber (low_kept n) are

from_kept : (field : ℕ) (numbers : List ℕ) (behind : List ℕ → Unread → Result (List ℕ) RecordFault)
    (next : Result (Option (ℕ × Unread)) WireFault) → IsList IsNumber numbers
    → ((more : List ℕ) (u : Unread) → IsList IsNumber more → IfOk (behind more u) (IsList IsNumber))
    → IfOk (numbers_from field numbers behind next) (IsList IsNumber)
from_kept field numbers behind (Ok None) are later = are
from_kept field numbers behind (Ok (Some n)) are later =
    ok_then (with_number field numbers n.0) _ (IsList IsNumber) (IsList IsNumber) (number_kept field numbers n.0 are)
    (λ more q. later more n.1 q)
from_kept field numbers behind (Err e) are later = more_kept field numbers (Err (Wire e)) IsNumber tt are

within_kept : (most field : ℕ) (numbers : List ℕ) (u : Unread) → IsList IsNumber numbers
    → IfOk (numbers_within most field numbers u) (IsList IsNumber)
unfolding numbers_within
within_kept zero field numbers u are = are
within_kept (suc most) field numbers u are = from_kept field numbers _ (next_number_in u) are
    (λ more v q. within_kept most field more v q)

pub packed_kept : (field : ℕ) (numbers : List ℕ) (u : Unread) → IsList IsNumber numbers → IfOk (packed_in field numbers u)
    (IsList IsNumber)
unfolding packed_in
packed_kept field numbers u are = within_kept (length u.left) field numbers u are
