-- What each kind of field makes: a text, the entries of a repeated field, packed numbers.
use Rattle.std.proofs.Common.{◌≡◌, ℕ, ◌+◌, ◌^◌, ◌<◌, ◌≤◌, true, List, [], ◌∷◌, ◌++◌, length, Some, Result, Ok, refl, sym, ap, ◌∙◌, subst, arith, append_assoc, length-append}
use Rattle.std.specs.List.{All, flat_map}
use Rattle.std.specs.Str.{is_utf8}
use Rattle.std.proofs.lemmas.Bool.{lt-ltb, ne_eqb}
use Rattle.std.proofs.lemmas.List.{append-nil}
use Rattle.std.proofs.lemmas.List.Elements.{All-nil, All-head, All-tail}
use Rattle.std.proofs.lemmas.Str.{is_utf8-from_IsUtf8, IsUtf8-nil}
use Rattle.hb_wire.specs.Field.{Content, Unread, varint, span, is_number, varint_in, next_number_in}
use Rattle.hb_wire.specs.Message.{and_then}
use Rattle.hb_wire.specs.Writing.{varint_of, number_of, packed_of}
use Rattle.hb_wire.proofs.Varints.{varint_read, some_in_varint}
use Rattle.hb_wire.proofs.Written.{varint_is}
use Rattle.hb_records.specs.declared.fault.RecordFault.{RecordFault}
use Rattle.hb_records.specs.Entries.{text_in, low_32, one_more, most_entries}
use Rattle.hb_records.specs.Numbers.{packed_in}
use Rattle.hb_records.proofs.Runs.{packed_end, packed_more}
use Rattle.hb_canonical.specs.Fields.{text_field, entries_of}
use Rattle.hb_canonical.proofs.Kept.{both_all}
use Rattle.hb_canonical.proofs.Makes.{Makes, makes_nothing, makes_both, makes_bytes, makes_number, goes_through}

-- a text is read as itself
abbrev pub IsText : List ℕ → Type 0
IsText bytes = is_utf8 bytes ≡ true

pub no_text : IsText []
no_text = is_utf8-from_IsUtf8 [] IsUtf8-nil

-- a list that a repeated field can give
abbrev pub IsList : {E : Type 0} → (E → Type 0) → List E → Type 0
IsList P entries = (length entries ≤ most_entries) × All P entries

pub no_list : {E : Type 0} (P : E → Type 0) → IsList P []
no_list P = (omega arith, All-nil P)

-- a number of 32 bits
abbrev pub IsNumber : ℕ → Type 0
IsNumber n = n < 2 ^ 32

low_same : (n : ℕ) → IsNumber n → low_32 n ≡ n
low_same n small = omega arith

-- a text, as a field: the default makes nothing
pub makes_text : {S : Type 0} (merge : S → Content → Result S RecordFault) (put : List ℕ → S) (number : ℕ) → is_number number ≡ true
    → ((at : ℕ) (bytes : List ℕ) → merge (put []) (record { number = number; at = at; value = span bytes })
    ≡ and_then (text_in number bytes) (λ t. Ok (put t)))
    → (text : List ℕ) → IsText text → Makes merge (put []) (text_field number text) (put text)
makes_text merge put number is made [] u = makes_nothing merge (put [])
makes_text merge put number is made (b ∷ bs) u =
    makes_bytes merge (put []) (put (b ∷ bs)) number (b ∷ bs) is (λ fits at. made at (b ∷ bs) ∙ rw u refl)

-- a number of 32 bits, as a field
pub makes_low : {S : Type 0} (merge : S → Content → Result S RecordFault) (put : ℕ → S) (number : ℕ) → is_number number ≡ true
    → ((at n : ℕ) → merge (put 0) (record { number = number; at = at; value = varint n }) ≡ Ok (put (low_32 n)))
    → (n : ℕ) → IsNumber n → Makes merge (put 0) (number_of number n) (put n)
makes_low merge put number is made n small =
    makes_number merge put number n is (omega arith)
    (λ at. made at n ∙ ap (λ (m : ℕ). Ok (put m)) (low_same n small))

-- an entry that is read, where there is room
more_taken : {T : Type 0} (field : ℕ) (done : List T) (entry : Result T RecordFault) (e : T) → length done < most_entries → entry ≡ Ok e
    → one_more field done entry ≡ Ok (done ++ e ∷ [])
more_taken field done entry e room is = rw (lt-ltb (length done) most_entries room, is) refl

-- entries, one a field, behind those that are there, of a list that is so
pub entries_made : {S E : Type 0} (merge : S → Content → Result S RecordFault) (put : List E → S) (number : ℕ) (spelled : E → List ℕ)
    (Q : List E → Type 0) → is_number number ≡ true
    → ((done rest : List E) (e : E) (at : ℕ) → Q (done ++ e ∷ rest) → length (spelled e) < 2 ^ 64
    → merge (put done) (record { number = number; at = at; value = span (spelled e) }) ≡ Ok (put (done ++ e ∷ [])))
    → (entries done : List E) → Q (done ++ entries) → Makes merge (put done) (entries_of number spelled entries) (put (done ++ entries))
entries_made merge put number spelled Q is takes [] done q = rw (append-nil done) (makes_nothing merge (put done))
entries_made merge put number spelled Q is takes (e ∷ es) done q =
    let next = done ++ e ∷ [] in
    let seam = append_assoc done (e ∷ []) es in
    makes_both merge (put done) (put next) (put (done ++ e ∷ es)) _ _
    (makes_bytes merge (put done) (put next) number (spelled e) is (λ fits at. takes done es e at q fits))
    (subst (λ (l : List _). Makes merge (put next) (entries_of number spelled es) (put l)) seam
    (entries_made merge put number spelled Q is takes es next (subst Q (sym seam) q)))

-- the entries of a repeated field, one a field
pub makes_list : {S E : Type 0} (merge : S → Content → Result S RecordFault) (put : List E → S) (number : ℕ) (spelled : E → List ℕ)
    (P : E → Type 0) (entry : ℕ → List ℕ → Result E RecordFault) → is_number number ≡ true
    → ((done : List E) (at : ℕ) (bytes : List ℕ) → merge (put done) (record { number = number; at = at; value = span bytes })
    ≡ and_then (one_more number done (entry at bytes)) (λ l. Ok (put l)))
    → ((at : ℕ) (e : E) → P e → length (spelled e) < 2 ^ 64 → entry at (spelled e) ≡ Ok e)
    → (entries : List E) → IsList P entries → Makes merge (put []) (entries_of number spelled entries) (put entries)
makes_list merge put number spelled P entry is takes reads entries are =
    entries_made merge put number spelled (IsList P) is
    (λ done rest e at (few, all) fits. takes done at (spelled e)
    ∙ goes_through (one_more number done (entry at (spelled e))) (λ l. Ok (put l)) (done ++ e ∷ [])
    (more_taken number done (entry at (spelled e)) e (omega (arith, length-append done (e ∷ rest)))
    (reads at e (All-head P e rest (both_all P done (e ∷ rest) all).1) fits))) entries [] are

next_number : (u v : Unread) (n : ℕ) → 0 < length u.left → varint_in u ≡ Ok (n, v) → next_number_in u ≡ Ok (Some (n, v))
next_number u v n some is = let filled : (length u.left ≡ 0 → ⊥) = λ e. omega arith in rw (ne_eqb (length u.left) 0 filled, is) refl

-- packed numbers, behind those that are there
packed_taken : (field : ℕ) (numbers done : List ℕ) (at : ℕ) → length done + length numbers ≤ most_entries → All IsNumber numbers
    → packed_in field done (record { at = at; left = flat_map varint_of numbers }) ≡ Ok (done ++ numbers)
packed_taken field [] done at room all = packed_end field done _ refl ∙ ap (λ (l : List ℕ). Ok l) (sym (append-nil done))
packed_taken field (n ∷ ns) done at room all =
    let small = All-head IsNumber n ns all in
    let v = varint_is n (omega arith) in
    let some = some_in_varint (varint_of n) n v in
    packed_more field done (done ++ n ∷ []) _ _ n
    (next_number _ _ n (omega (arith, length-append (varint_of n) (flat_map varint_of ns)))
    (varint_read (varint_of n) (flat_map varint_of ns) at n v))
    (more_taken field done _ n (omega arith) (ap (λ (k : ℕ). Ok k) (low_same n small)))
    ∙ packed_taken field ns (done ++ n ∷ []) _ (omega (arith, length-append done (n ∷ []))) (All-tail IsNumber n ns all)
    ∙ ap (λ (l : List ℕ). Ok l) (append_assoc done (n ∷ []) ns)

-- packed numbers
pub makes_packed : {S : Type 0} (merge : S → Content → Result S RecordFault) (put : List ℕ → S) (number : ℕ) → is_number number ≡ true
    → ((at : ℕ) (bytes : List ℕ) → merge (put []) (record { number = number; at = at; value = span bytes })
    ≡ and_then (packed_in number [] (record { at = at; left = bytes })) (λ l. Ok (put l)))
    → (numbers : List ℕ) → IsList IsNumber numbers → Makes merge (put []) (packed_of number numbers) (put numbers)
makes_packed merge put number is takes [] are = makes_nothing merge (put [])
makes_packed merge put number is takes (n ∷ ns) (few, all) =
    let own = flat_map varint_of (n ∷ ns) in
    makes_bytes merge (put []) (put (n ∷ ns)) number own is (λ fits at. takes at own
    ∙ goes_through (packed_in number [] (record { at = at; left = own })) (λ l. Ok (put l)) (n ∷ ns)
    (packed_taken number (n ∷ ns) [] at (omega arith) all))
