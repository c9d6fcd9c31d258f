-- The bytes that are written spell the text.
use Rattle.std.proofs.Common.{◌≡◌, ℕ, zero, suc, ◌+◌, ◌-◌, ◌*◌, ◌^◌, ◌<◌, ◌≤◌, List, [], ◌∷◌, ◌++◌, Option, Some, None, refl, sym, ap, ◌∙◌, arith, append_assoc, get_or, replicate, inl, inr, Result, Ok, Err, OnOk, OnErr}
use Rattle.std.specs.List.{flat_map, AllByRecursion}
use Rattle.std.proofs.lemmas.Bool.{cases_eq, eq-eqb, ne_eqb}
use Rattle.std.proofs.Math.Nat.{pow-le-pow_right}
use Rattle.std.proofs.lemmas.List.{append-nil}
use Rattle.hb_hpack.specs.Huffman.{Word, bits, bits_of, bits_of_word, word, words, word_among, Spells}
use Rattle.hb_hpack.specs.HuffmanSteps.{with_ones, bytes_from, huffman_of}
use Rattle.hb_hpack.specs.Fronts.{IsFrontOf}
use Rattle.hb_hpack.proofs.Bits.{bits_push, bits_small, append_small}

-- ---- one bit more

pub byte_done : (byte b : ℕ) (rest : List ℕ) → bytes_from byte 7 (b ∷ rest) ≡ (2 * byte + b) ∷ bytes_from 0 0 rest
unfolding bytes_from
byte_done byte b rest = refl

pub byte_goes_on : (byte count b : ℕ) (rest : List ℕ) → (count ≡ 7 → ⊥)
    → bytes_from byte count (b ∷ rest) ≡ bytes_from (2 * byte + b) (count + 1) rest
unfolding bytes_from
byte_goes_on byte count b rest ne = rw (ne_eqb count 7 ne, bytes_from) refl

pub byte_ends : (byte count : ℕ) → (count ≡ 0 → ⊥) → bytes_from byte count [] ≡ with_ones (8 - count) byte ∷ []
unfolding bytes_from
byte_ends byte count ne = rw (ne_eqb count 0 ne, bytes_from) refl

pub nothing_ends : (byte count : ℕ) → count ≡ 0 → bytes_from byte count [] ≡ []
unfolding bytes_from
nothing_ends byte count e = rw (eq-eqb count 0 e, bytes_from) refl

-- ---- what is written are the bits

ones_behind : (n k byte : ℕ) → bits (k + n) (with_ones n byte) ≡ bits k byte ++ replicate n 1
unfolding with_ones
ones_behind zero k byte = let same : k + 0 ≡ k = omega arith in rw same (sym (append-nil (bits k byte)))
ones_behind (suc n) k byte =
    let same : k + suc n ≡ suc k + n = omega arith in
    let last : List ℕ = 1 ∷ [] in
    let pushed : bits (suc k) (2 * byte + 1) ≡ bits k byte ++ last = bits_push k byte 1 (omega arith) in
    rw (same, ones_behind n (suc k) (2 * byte + 1), pushed) (append_assoc (bits k byte) last (replicate n 1))

-- the bits of what is written, with ones behind them
pub record AreWritten (all bs : List ℕ) : Type 0 where
  pub padding : ℕ
  pub short : padding ≤ 7
  pub joined : all ≡ bs ++ replicate padding 1

regrouped : (front : List ℕ) (b : ℕ) (bs ones : List ℕ) → (front ++ b ∷ []) ++ (bs ++ ones) ≡ (front ++ b ∷ bs) ++ ones
regrouped front b bs ones = append_assoc front (b ∷ []) (bs ++ ones) ∙ sym (append_assoc front (b ∷ bs) ones)

bits_written : (bs : List ℕ) (byte count : ℕ) → AllByRecursion (λ b. b < 2) bs → count < 8
    → AreWritten (bits_of (bytes_from byte count bs)) (bits count byte ++ bs)
unfolding bits
bits_written [] byte count small lt =
    elim (cases_eq count 0) [
      | inl e ↦ record {
        padding = 0;
        short = omega arith;
        joined = ap bits_of (nothing_ends byte count e) ∙ rw e refl;
      }
      | inr ne ↦
          let whole : count + (8 - count) ≡ 8 = omega arith in
          let ones : bits 8 (with_ones (8 - count) byte) ≡ bits count byte ++ replicate (8 - count) 1 =
          rw whole at (ones_behind (8 - count) count byte) in
          record {
            padding = 8 - count;
            short = omega (arith, ne);
            joined = ap bits_of (byte_ends byte count ne) ∙ append-nil (bits 8 (with_ones (8 - count) byte)) ∙ ones
                ∙ ap (λ (xs : List ℕ). xs ++ replicate (8 - count) 1) (sym (append-nil (bits count byte)));
          }
    ]
bits_written (b ∷ bs) byte count small lt =
    elim (cases_eq count 7) [
      | inl e ↦
          let r = bits_written bs 0 0 small.1 (omega arith) in
          let pushed : bits 8 (2 * byte + b) ≡ bits 7 byte ++ b ∷ [] = bits_push 7 byte b small.0 in
          let first : bits_of (bytes_from byte count (b ∷ bs)) ≡ bits 8 (2 * byte + b) ++ bits_of (bytes_from 0 0 bs) =
          rw e (ap bits_of (byte_done byte b bs)) in
          record {
            padding = r.padding;
            short = r.short;
            joined = first ∙ ap (λ (xs : List ℕ). bits 8 (2 * byte + b) ++ xs) r.joined
                ∙ ap (λ (xs : List ℕ). xs ++ (bs ++ replicate r.padding 1)) pushed
                ∙ regrouped (bits 7 byte) b bs (replicate r.padding 1)
                ∙ ap (λ k. (bits k byte ++ b ∷ bs) ++ replicate r.padding 1) (sym e);
          }
      | inr ne ↦
          let r = bits_written bs (2 * byte + b) (count + 1) small.1 (omega (arith, ne)) in
          let same : count + 1 ≡ suc count = omega arith in
          let pushed : bits (count + 1) (2 * byte + b) ≡ bits count byte ++ b ∷ [] = rw same (bits_push count byte b small.0) in
          let first : bits_of (bytes_from byte count (b ∷ bs)) ≡ bits_of (bytes_from (2 * byte + b) (count + 1) bs) =
          ap bits_of (byte_goes_on byte count b bs ne) in
          record {
            padding = r.padding;
            short = r.short;
            joined = first ∙ r.joined ∙ ap (λ (xs : List ℕ). (xs ++ bs) ++ replicate r.padding 1) pushed
                ∙ ap (λ (xs : List ℕ). xs ++ replicate r.padding 1) (append_assoc (bits count byte) (b ∷ []) bs);
          }
    ]

word_bits_small : (o : Option Word) → AllByRecursion (λ b. b < 2) (bits_of_word o)
unfolding bits_of_word
word_bits_small None = tt
word_bits_small (Some w) = bits_small w.length w.code

word_small : (s : ℕ) → AllByRecursion (λ b. b < 2) (word s)
unfolding word
word_small s = word_bits_small (word_among s words)

words_small : (text : List ℕ) → AllByRecursion (λ b. b < 2) (flat_map word text)
words_small [] = tt
words_small (s ∷ text) = append_small (word s) (flat_map word text) (word_small s) (words_small text)

-- octets, as the type of a slice has them
pub octets_of : (bs : List ℕ) → ((i : ℕ) → get_or bs i 0 < 256) → AllByRecursion (λ s. s < 256) bs
octets_of [] fits = tt
octets_of (b ∷ bs) fits = (fits 0, octets_of bs (λ i. fits (suc i)))

pub is_spelled : (text : List ℕ) → AllByRecursion (λ s. s < 256) text → Spells (huffman_of text) text
unfolding bits
is_spelled text octets =
    let w = bits_written (flat_map word text) 0 0 (words_small text) (omega arith) in
    record { octets = octets; padding = w.padding; short = w.short; joined = w.joined }

-- ---- the old bytes, and more behind them

pub longer_more : (a b c : List ℕ) → IsFrontOf a b → IsFrontOf b c → IsFrontOf a c
longer_more a b c p q = (p.0 ++ q.0, q.1 ∙ ap (λ (xs : List ℕ). xs ++ q.0) p.1 ∙ append_assoc a p.0 q.0)

pub longer_same : (a : List ℕ) → IsFrontOf a a
longer_same a = ([], sym (append-nil a))

longer_by : (a b c rest : List ℕ) → IsFrontOf a b → c ≡ b ++ rest → IsFrontOf a c
longer_by a b c rest p e = longer_more a b c p (rest, e)

longer_then : (a b c : List ℕ) → IsFrontOf a b → c ≡ b → IsFrontOf a c
longer_then a b c p e = longer_by a b c [] p (e ∙ sym (append-nil b))

-- more only where it was written
pub longer_if : {T E : Type 0} (r : Result T E) (a b c rest : List ℕ) → IsFrontOf a b → OnOk r (c ≡ b ++ rest) → OnErr r (c ≡ b)
    → IsFrontOf a c
longer_if (Ok x) a b c rest p ok err = longer_by a b c rest p ok
longer_if (Err x) a b c rest p ok err = longer_then a b c p err

-- ---- a byte in the making

pub small_byte : (byte k : ℕ) → byte < 2 ^ k → k < 8 → 2 * byte + 1 < 256
small_byte byte k lt short =
    let p : 2 ^ k ≤ 2 ^ 7 = pow-le-pow_right {n = 2} (omega arith) {i = k} {j = 7} (omega arith) in
    omega (arith, p)

pub next_below : (byte k : ℕ) → byte < 2 ^ k → 2 * byte + 1 < 2 ^ (k + 1)
next_below byte k lt =
    let same : suc k ≡ k + 1 = omega arith in
    let double : 2 ^ suc k ≡ 2 * 2 ^ k = omega arith in
    let twice : 2 ^ (k + 1) ≡ 2 * 2 ^ k = rw (← same) double in
    omega arith

pub ones_more : (k byte : ℕ) → k < 8 → with_ones (8 - k) byte ≡ with_ones (8 - (k + 1)) (2 * byte + 1)
unfolding with_ones
ones_more k byte lt =
    let same : 8 - k ≡ suc (8 - (k + 1)) = omega arith in
    rw (same, with_ones) refl

pub ones_done : (k byte : ℕ) → 8 ≤ k → with_ones (8 - k) byte ≡ byte
unfolding with_ones
ones_done k byte le = let same : 8 - k ≡ 0 = omega arith in rw (same, with_ones) refl
