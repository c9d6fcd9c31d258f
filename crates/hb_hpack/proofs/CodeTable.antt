-- What the checker computes of the code table: it is the code of the standard.
use Rattle.std.proofs.Common.{◌≡◌, ℕ, zero, suc, ◌+◌, ◌-◌, ◌*◌, ◌/◌, ◌^◌, ◌<◌, ◌≤◌, Bool, true, false, eqb, ltb, leb, ◌&&◌, not, List, [], ◌∷◌, ◌++◌, Option, Some, None, refl, sym, ap, subst, ◌∙◌, arith, inl, inr}
use Rattle.std.proofs.lemmas.Bool.{not-true, eqb-true, cases_lt, cases_eq, eq-eqb, ne_eqb, leb-true, ltb-true}
use Rattle.hb_hpack.specs.declared.code_table.Row.{Row}
use Rattle.hb_hpack.specs.Huffman.{are_ones, Word, words, word_among, symbol_among, symbol_of, word, bits, lengths, ordered, numbers_from, words_from, bits_of_word}
use Rattle.hb_hpack.proofs.Bits.{bits_split}
use Rattle.hb_hpack.specs.CodeTables.{row_at, symbol_at, code_at, short_at}

-- the test holds of each number below n
unfoldable pub all_below : ℕ → (ℕ → Bool) → Bool
all_below zero test = true
all_below (suc n) test = test n && all_below n test

pub both : (a b : Bool) → (a && b) ≡ true → (a ≡ true) × (b ≡ true)
both true b h = (refl, h)
both false b h = absurd cc

pub at_below : (n : ℕ) (test : ℕ → Bool) → all_below n test ≡ true → (i : ℕ) → i < n → test i ≡ true
unfolding all_below
at_below zero test h i lt = absurd (omega arith)
at_below (suc n) test h i lt =
    let p = both (test n) (all_below n test) h in
    elim (cases_lt i n) [
      | inl below ↦ at_below n test p.1 i below
      | inr above ↦ let e : n ≡ i = omega arith in subst (λ (k : ℕ). test k ≡ true) e p.0
    ]

-- a row follows the one before it
abbrev row_follows : Row → Row → ℕ → Bool
row_follows before row length =
    eqb row.first (2 * before.limit) && leb row.first row.limit && leb row.limit (2 ^ length)
    && leb (row.place + (row.limit - row.first)) 257

rows_follow_test : all_below 30 (λ l. row_follows (row_at l) (row_at (suc l)) (suc l)) ≡ true
unfolding all_below row_at
rows_follow_test = refl

-- the words of a length, as a test of the word that a symbol has
abbrev is_word : Option Word → ℕ → ℕ → Bool
is_word None length code = false
is_word (Some w) length code = eqb w.length length && eqb w.code code

abbrev rows_hold : List Word → Bool
rows_hold ws = all_below 31 (λ l. all_below ((row_at l).limit - (row_at l).first) (λ d.
    is_word (word_among (symbol_at ((row_at l).place + d)) ws) l ((row_at l).first + d)))

rows_hold_test : rows_hold words ≡ true
unfolding all_below row_at symbol_at words word_among words_from ordered numbers_from lengths
rows_hold_test = refl

-- where a symbol's word is, as a test of its row
abbrev is_entry : Row → Word → ℕ → Bool
is_entry row w symbol =
    leb 1 w.length && leb w.length 30 && leb row.first w.code && ltb w.code row.limit
    && eqb (symbol_at (row.place + (w.code - row.first))) symbol

-- what a symbol's word is, as a test of the tables
abbrev is_known : Option Word → ℕ → Bool
is_known None symbol = false
is_known (Some w) symbol = is_entry (row_at w.length) w symbol && is_word (Some w) (code_at symbol).length (code_at symbol).bits

abbrev symbols_hold : List Word → Bool
symbols_hold ws = all_below 257 (λ s. is_known (word_among s ws) s)

symbols_hold_test : symbols_hold words ≡ true
unfolding all_below row_at code_at symbol_at words word_among words_from ordered numbers_from lengths
symbols_hold_test = refl

-- no shorter word begins a word
limits_test : all_below 31 (λ n. all_below n (λ l. leb ((row_at l).limit * 2 ^ (n - l)) (row_at n).first)) ≡ true
unfolding all_below row_at
limits_test = refl

symbols_test : all_below 257 (λ i. ltb (symbol_at i) 257) ≡ true
unfolding all_below symbol_at
symbols_test = refl

pub symbols_small : (i : ℕ) → i < 257 → symbol_at i < 257
symbols_small i lt = ltb-true _ _ (at_below 257 (λ i. ltb (symbol_at i) 257) symbols_test i lt)

pub record RowFollows (before row : Row) (length : ℕ) : Type 0 where
  pub first : row.first ≡ 2 * before.limit
  pub ordered : row.first ≤ row.limit
  pub small : row.limit ≤ 2 ^ length
  pub places : row.place + (row.limit - row.first) ≤ 257

pub row_follows_at : (l : ℕ) → l < 30 → RowFollows (row_at l) (row_at (suc l)) (suc l)
row_follows_at l lt =
    let h = at_below 30 (λ l. row_follows (row_at l) (row_at (suc l)) (suc l)) rows_follow_test l lt in
    let p = both _ _ h in
    let q = both _ _ p.0 in
    let r = both _ _ q.0 in
    record { first = eqb-true _ _ r.0; ordered = leb-true _ _ r.1; small = leb-true _ _ q.1; places = leb-true _ _ p.1 }

pub last_limit : (row_at 30).limit ≡ 2 ^ 30
unfolding row_at
last_limit = refl

pub limit_below : (n l : ℕ) → n < 31 → l < n → (row_at l).limit * 2 ^ (n - l) ≤ (row_at n).first
limit_below n l small lt = leb-true _ _
    (at_below n _ (at_below 31 (λ n. all_below n (λ l. leb ((row_at l).limit * 2 ^ (n - l)) (row_at n).first)) limits_test n small) l lt)

is_word_bits : (o : Option Word) (length code : ℕ) → is_word o length code ≡ true → bits_of_word o ≡ bits length code
unfolding bits_of_word
is_word_bits None length code h = absurd cc
is_word_bits (Some w) length code h =
    let p = both _ _ h in
    let same_length : w.length ≡ length = eqb-true _ _ p.0 in
    let same_code : w.code ≡ code = eqb-true _ _ p.1 in
    rw (same_length, same_code) refl

-- the word of the symbol that the tables give
pub word_of_code : (l code : ℕ) → l < 31 → (row_at l).first ≤ code → code < (row_at l).limit
    → word (symbol_at ((row_at l).place + (code - (row_at l).first))) ≡ bits l code
unfolding word
word_of_code l code small first limit =
    let inner : ℕ → Bool = λ l. all_below ((row_at l).limit - (row_at l).first)
    (λ d. is_word (word_among (symbol_at ((row_at l).place + d)) words) l ((row_at l).first + d)) in
    let d : ℕ = code - (row_at l).first in
    let h = at_below ((row_at l).limit - (row_at l).first)
    (λ d. is_word (word_among (symbol_at ((row_at l).place + d)) words) l ((row_at l).first + d))
    (at_below 31 inner rows_hold_test l small) d (omega arith) in
    let e : (row_at l).first + d ≡ code = omega arith in
    is_word_bits _ l code (subst (λ (c : ℕ). is_word (word_among (symbol_at ((row_at l).place + d)) words) l c ≡ true) e h)

-- where the tables have the word of a symbol
pub record HasWord (symbol : ℕ) : Type 0 where
  pub length : ℕ
  pub code : ℕ
  pub some : 0 < length
  pub short : length < 31
  pub first : (row_at length).first ≤ code
  pub limit : code < (row_at length).limit
  pub symbol_is : symbol_at ((row_at length).place + (code - (row_at length).first)) ≡ symbol
  pub word_is : word symbol ≡ bits length code

has_word_of : (s : ℕ) (o : Option Word) → word_among s words ≡ o → is_known o s ≡ true → HasWord s
unfolding word bits_of_word
has_word_of s None e h = absurd cc
has_word_of s (Some w) e h =
    let p = both _ _ (both _ _ h).0 in
    let q = both _ _ p.0 in
    let r = both _ _ q.0 in
    let t = both _ _ r.0 in
    record {
      length = w.length;
      code = w.code;
      some = leb-true _ _ t.0;
      short = omega (arith, leb-true w.length 30 t.1);
      first = leb-true _ _ r.1;
      limit = ltb-true _ _ q.1;
      symbol_is = eqb-true _ _ p.1;
      word_is = rw e refl;
    }

pub has_word : (s : ℕ) → s < 257 → HasWord s
has_word s lt = has_word_of s (word_among s words) refl (at_below 257 (λ s. is_known (word_among s words) s) symbols_hold_test s lt)

is_known_word : (o : Option Word) (s : ℕ) → is_known o s ≡ true → is_word o (code_at s).length (code_at s).bits ≡ true
is_known_word None s h = absurd cc
is_known_word (Some w) s h = (both _ _ h).1

-- the table has each symbol's word
pub code_is_word : (s : ℕ) → s < 256 → bits (code_at s).length (code_at s).bits ≡ word s
unfolding word
code_is_word s lt = sym (is_word_bits _ _ _
    (is_known_word (word_among s words) s (at_below 257 (λ s. is_known (word_among s words) s) symbols_hold_test s (omega arith))))

lengths_test : all_below 256 (λ s. leb (code_at s).length 30) ≡ true
unfolding all_below code_at
lengths_test = refl

pub code_is_short : (s : ℕ) → s < 256 → (code_at s).length ≤ 30
code_is_short s lt = leb-true _ _ (at_below 256 (λ s. leb (code_at s).length 30) lengths_test s lt)

ones_test : all_below 256 (λ s. not (are_ones (bits (code_at s).length (code_at s).bits))) ≡ true
unfolding all_below code_at bits
ones_test = refl

pub others_are_not : (s : ℕ) → s < 256 → are_ones (word s) ≡ false
others_are_not s lt = ap are_ones (sym (code_is_word s lt))
    ∙ not-true _ (at_below 256 (λ s. not (are_ones (bits (code_at s).length (code_at s).bits))) ones_test s lt)

pub last_is_ones : are_ones (word 256) ≡ true
unfolding word bits bits_of_word words word_among words_from ordered numbers_from lengths
last_is_ones = refl

-- ---- the symbol of a word, by the word

abbrev is_symbol : Option ℕ → ℕ → Bool
is_symbol None s = false
is_symbol (Some t) s = eqb t s

is_symbol_is : (o : Option ℕ) (s : ℕ) → is_symbol o s ≡ true → o ≡ Some s
is_symbol_is None s h = absurd cc
is_symbol_is (Some t) s h = ap (λ k. Some k) (eqb-true t s h)

abbrev symbols_found : List Word → Bool
symbols_found ws = all_below 31 (λ l. all_below ((row_at l).limit - (row_at l).first) (λ d.
    is_symbol (symbol_among ((row_at l).first + d) l ws) (symbol_at ((row_at l).place + d))))

symbols_found_test : symbols_found words ≡ true
unfolding all_below row_at symbol_at words symbol_among words_from ordered numbers_from lengths
symbols_found_test = refl

-- a word of a row is a symbol's
pub symbol_found : (l code : ℕ) → l < 31 → (row_at l).first ≤ code → code < (row_at l).limit
    → symbol_of code l ≡ Some (symbol_at ((row_at l).place + (code - (row_at l).first)))
unfolding symbol_of
symbol_found l code small first limit =
    let row : ℕ → ℕ → Bool = λ l d. is_symbol (symbol_among ((row_at l).first + d) l words) (symbol_at ((row_at l).place + d)) in
    let d : ℕ = code - (row_at l).first in
    let h = at_below ((row_at l).limit - (row_at l).first) (row l)
    (at_below 31 (λ l. all_below ((row_at l).limit - (row_at l).first) (row l)) symbols_found_test l small) d (omega arith) in
    let e : (row_at l).first + d ≡ code = omega arith in
    is_symbol_is _ _ (subst (λ (c : ℕ). is_symbol (symbol_among c l words) (symbol_at ((row_at l).place + d)) ≡ true) e h)

abbrev are_below : List Word → Bool
are_below [] = true
are_below (w ∷ ws) = ltb w.code (row_at w.length).limit && are_below ws

are_below_test : are_below words ≡ true
unfolding row_at words words_from ordered numbers_from lengths
are_below_test = refl

differs : (m l c code : ℕ) → (m ≡ l → c ≡ code → ⊥) → (eqb m l && eqb c code) ≡ false
differs m l c code never = elim (cases_eq m l) [
  | inl e ↦ rw (eq-eqb m l e, ne_eqb c code (never e)) refl
  | inr ne ↦ rw (ne_eqb m l ne) refl
]

none_among : (ws : List Word) (code l : ℕ) → are_below ws ≡ true → (row_at l).limit ≤ code → symbol_among code l ws ≡ None
unfolding symbol_among
none_among [] code l h le = refl
none_among (w ∷ ws) code l h le =
    let p = both _ _ h in
    let below : w.code < (row_at w.length).limit = ltb-true _ _ p.0 in
    let never : w.length ≡ l → w.code ≡ code → ⊥ = λ m c. let past : (row_at w.length).limit ≤ code = rw m le in omega arith in
    rw (differs w.length l w.code code never, symbol_among) (none_among ws code l p.1 le)

-- a number behind a row is no word
pub no_symbol : (l code : ℕ) → (row_at l).limit ≤ code → symbol_of code l ≡ None
unfolding symbol_of
no_symbol l code le = none_among words code l are_below_test le

-- ---- the word of at most eight bits in front of eight bits

abbrev is_short : ℕ → ℕ → ℕ → List Word → Bool
is_short zero symbol front ws = true
is_short (suc n) symbol front ws = leb (suc n) 8 && ltb symbol 256 && is_word (word_among symbol ws) (suc n) (front / 2 ^ (8 - suc n))

abbrev shorts_hold : List Word → Bool
shorts_hold ws = all_below 256 (λ v. is_short (short_at v).length (short_at v).symbol v ws)

shorts_hold_test : shorts_hold words ≡ true
unfolding all_below short_at words word_among words_from ordered numbers_from lengths
shorts_hold_test = refl

pub record IsShort (length symbol front : ℕ) : Type 0 where
  pub within : length ≤ 8
  pub small : symbol < 256
  pub begin : bits 8 front ≡ word symbol ++ bits (8 - length) front

is_short_is : (n symbol front : ℕ) → is_short n symbol front words ≡ true → 0 < n → IsShort n symbol front
unfolding word
is_short_is zero symbol front h some = absurd (omega arith)
is_short_is (suc n) symbol front h some =
    let p = both _ _ h in
    let q = both _ _ p.0 in
    let within : suc n ≤ 8 = leb-true _ _ q.0 in
    let whole : suc n + (8 - suc n) ≡ 8 = omega arith in
    let word_is : word symbol ≡ bits (suc n) (front / 2 ^ (8 - suc n)) = is_word_bits _ _ _ p.1 in
    record { within = within; small = ltb-true _ _ q.1; begin = rw word_is (rw whole at (bits_split (suc n) (8 - suc n) front)) }

pub short_is : (front : ℕ) → front < 256 → 0 < (short_at front).length → IsShort (short_at front).length (short_at front).symbol front
short_is front lt some = is_short_is _ _ _
    (at_below 256 (λ v. is_short (short_at v).length (short_at v).symbol v words) shorts_hold_test front lt) some

padding_test : all_below 8 (λ n. leb (row_at n).limit (2 ^ n - 1)) ≡ true
unfolding all_below row_at
padding_test = refl

-- at most seven ones are no word
pub padding_past : (n : ℕ) → n < 8 → (row_at n).limit ≤ 2 ^ n - 1
padding_past n lt = leb-true _ _ (at_below 8 (λ n. leb (row_at n).limit (2 ^ n - 1)) padding_test n lt)
