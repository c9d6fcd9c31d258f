-- The text of a target.
use Rattle.std.proofs.Common.{◌≡◌, ℕ, suc, ◌+◌, ◌-◌, ◌*◌, ◌<◌, ◌≤◌, ◌^◌, List, [], ◌∷◌, ◌++◌, length, take, drop, get_or, true, false, not, nat_eq, nat_le, inl, inr, Some, Ok, refl, ap, ◌∙◌, arith, rules, decimal, codes, fold, length-append, append_assoc, eq-eqb, ◌/◌, ◌%◌}
use Rattle.std.specs.Int.{to_be_bytes, w128}
use Rattle.std.specs.List.{list_all, starts_with, suffix_len, position_or_len}
use Rattle.std.specs.Net.Addr.{segments_of}
use Rattle.std.proofs.NetLemmas.Alphabet.{IsHexOrColon, All-hex_groups_text}
use Rattle.std.proofs.Math.Seq.{take-append_seam, drop-append-add, get_or-append_seam}
use Rattle.std.proofs.lemmas.Bool.{lt-ltb, le-leb}
use Rattle.std.proofs.lemmas.Bool.Decides.{nat_tests}
use Rattle.std.proofs.lemmas.Fmt.{decimal_nonempty, digits_decimal, digits_value-decimal, length-decimal-le}
use Rattle.std.proofs.lemmas.List.{get_or-append-add}
use Rattle.std.proofs.Math.ListN.{get_or-append}
use Rattle.std.proofs.lemmas.List.Sums.{suffix_len_is, position_or_len_is}
use Rattle.std.proofs.lemmas.Str.Parse.{IsNumeralModel, numerals_by_fold}
use Rattle.hb_base.specs.Decimal.{is_digit, digit, decimal_value}
use Rattle.hb_base.specs.IpText.{ip_text}
use Rattle.hb_base.specs.Octets.{IsGiven}
use Rattle.hb_base.specs.Parts.{cut_first, cut_last}
use Rattle.hb_base.specs.TargetText.{port_of, target_of, target_text}
use Rattle.hb_base.specs.declared.ip.Ip.{Ip}
use Rattle.hb_base.specs.declared.ip.Ip.TheVariants.{V4, V6}
use Rattle.hb_base.specs.declared.target.Target.{Target}
use Rattle.hb_base.proofs.AddressLemmas.{v4_text_read, v6_text_read}
use Rattle.hb_base.proofs.DecimalLemmas.{no_higher_byte}
use Rattle.hb_base.proofs.OctetLemmas.{octets_fit, groups_fit}
use Rattle.hb_base.proofs.PartsLemmas.{Lacks}
use Rattle.hb_base.proofs.TestLemmas.{some_if}

own : IsNumeralModel (λ ds. list_all is_digit ds ≡ true) (λ ds. decimal_value ds)
own = numerals_by_fold _ (search rules) (λ n ds. fold (λ m b. m * 10 + digit b) n ds) (search rules)

-- a port in decimal is read as it
port_of-decimal : (n : ℕ) → 0 < n → n < 2 ^ 16 → port_of (decimal n) ≡ Some n
port_of-decimal n some high =
    let small : n < 2 ^ 64 = omega arith in
    let below : n < 10 ^ 5 = omega arith in
    let value = digits_value-decimal own n small in
    let digits = digits_decimal own n small in
    let one = le-leb 1 (length (decimal n)) (decimal_nonempty n small) in
    let five = le-leb (length (decimal n)) 5 (length-decimal-le 5 n (omega arith) below small) in
    let least = le-leb 1 n some in
    let most : nat_le n 65535 ≡ true = le-leb n 65535 (omega arith) in
    some_if _ (decimal_value (decimal n)) n (rw (value, digits, one, five, least, most) refl) value

-- a text that begins with another byte
begins_otherwise : (c : ℕ) (xs ys : List ℕ) → 0 < length xs → Lacks c xs → starts_with nat_eq (xs ++ ys) (c ∷ []) ≡ false
begins_otherwise c [] ys some lacks = absurd (omega arith)
begins_otherwise c (x ∷ xs) ys some lacks =
    let other : nat_eq x c ≡ false = lacks 0 0 (omega arith) in
    grind (arith, nat_tests)

-- what stands behind the last separator
behind_at : (c : ℕ) (a b : List ℕ) → Lacks c b → (k : ℕ) → length a + 1 ≤ k → k < length (a ++ c ∷ b)
    → not (nat_eq (get_or (a ++ c ∷ b) k 0) c) ≡ true
behind_at c a b lacks k low high =
    let j = k - (length a + 1) in
    let within : j < length b = omega (arith, length-append a (c ∷ b)) in
    let place : k ≡ length a + suc j = omega arith in
    let byte : get_or (a ++ c ∷ b) k 0 ≡ get_or b j 0 = ap (λ (i : ℕ). get_or (a ++ c ∷ b) i 0) place
    ∙ get_or-append-add a (c ∷ b) (suc j) 0 in
    rw (byte, lacks j 0 within) refl

last_at : (c : ℕ) (a b : List ℕ) → not (nat_eq (get_or (a ++ c ∷ b) (length a + 1 - 1) 0) c) ≡ false
last_at c a b =
    let place : length a + 1 - 1 ≡ length a + 0 = omega arith in
    let byte : get_or (a ++ c ∷ b) (length a + 1 - 1) 0 ≡ c = ap (λ (i : ℕ). get_or (a ++ c ∷ b) i 0) place
    ∙ get_or-append-add a (c ∷ b) 0 0 in
    rw (byte, eq-eqb c c refl) refl

behind : (c : ℕ) (a b : List ℕ) → Lacks c b → suffix_len (λ x. not (nat_eq x c)) (a ++ c ∷ b) ≡ length b
behind c a b lacks =
    let within : length a + 1 ≤ length (a ++ c ∷ b) = omega (arith, length-append a (c ∷ b)) in
    let count : length (a ++ c ∷ b) - (length a + 1) ≡ length b = omega (arith, length-append a (c ∷ b)) in
    suffix_len_is (λ x. not (nat_eq x c)) (a ++ c ∷ b) (length a + 1) 0 within (behind_at c a b lacks) (λ some. last_at c a b) ∙ count

cut_last-at : (c : ℕ) (a b : List ℕ) → Lacks c b → cut_last c (a ++ c ∷ b) ≡ Some (a, b)
cut_last-at c a b lacks =
    let shorter : length b < length (a ++ c ∷ b) = omega (arith, length-append a (c ∷ b)) in
    let front_end : length (a ++ c ∷ b) - length b - 1 ≡ length a = omega (arith, length-append a (c ∷ b)) in
    let back_start : length (a ++ c ∷ b) - length b ≡ length a + 1 = omega (arith, length-append a (c ∷ b)) in
    let front : take (length (a ++ c ∷ b) - length b - 1) (a ++ c ∷ b) ≡ a = ap (λ (i : ℕ). take i (a ++ c ∷ b)) front_end
    ∙ take-append_seam a (c ∷ b) in
    let back : drop (length (a ++ c ∷ b) - length b) (a ++ c ∷ b) ≡ b = ap (λ (i : ℕ). drop i (a ++ c ∷ b)) back_start
    ∙ drop-append-add a (c ∷ b) 1 in
    rw (behind c a b lacks, lt-ltb (length b) (length (a ++ c ∷ b)) shorter, front, back) refl

first_at : (c : ℕ) (a b : List ℕ) → Lacks c a → position_or_len (λ x. nat_eq x c) (a ++ c ∷ b) ≡ length a
first_at c a b lacks =
    let within : length a ≤ length (a ++ c ∷ b) = omega (arith, length-append a (c ∷ b)) in
    position_or_len_is (λ x. nat_eq x c) (a ++ c ∷ b) (length a) 0 within
    (λ k below. rw (get_or-append a (c ∷ b) 0 k below) (lacks k 0 below))
    (λ _. rw (get_or-append_seam a c b 0) (eq-eqb c c refl))

cut_first-at : (c : ℕ) (a b : List ℕ) → Lacks c a → cut_first c (a ++ c ∷ b) ≡ Some (a, b)
cut_first-at c a b lacks =
    let shorter : length a < length (a ++ c ∷ b) = omega (arith, length-append a (c ∷ b)) in
    let within = lt-ltb (length a) (length (a ++ c ∷ b)) shorter in
    rw (first_at c a b lacks, within, take-append_seam a (c ∷ b), drop-append-add a (c ∷ b) 1) refl

v4_text_begins : (n : ℕ) (more : List ℕ) → starts_with nat_eq (ip_text (V4 n) ++ more) (codes "[") ≡ false
unfolding ip_text
v4_text_begins n more =
    let first = n / 16777216 % 256 in
    let low : first < 2 ^ 64 = omega arith in
    simp append_assoc (begins_otherwise 91 (decimal first) _ (decimal_nonempty first low) (no_higher_byte 91 first (omega arith) low))

not_bracket : (b : ℕ) → IsHexOrColon b → nat_eq b 93 ≡ false
not_bracket b (inl digit) = grind (arith, nat_tests, digit.1)
not_bracket b (inr letter) = grind (arith, nat_tests, letter.0)

v6_text_lacks : (n : ℕ) → Lacks 93 (ip_text (V6 n))
unfolding ip_text
v6_text_lacks n k d below =
    let groups = segments_of (to_be_bytes w128 n) in
    not_bracket _ (All-hex_groups_text groups (groups_fit (to_be_bytes w128 n) (octets_fit 16 n)) k d below)

-- what is written of a target is read as it
v4_target_read : (n port : ℕ) → n < 2 ^ 32 → 0 < port → port < 2 ^ 16
    → target_of (target_text (record { ip = V4 n; port = port })) ≡ Ok (record { ip = V4 n; port = port })
unfolding target_of target_text
v4_target_read n port low some high =
    let small : port < 2 ^ 64 = omega arith in
    let begins = v4_text_begins n (58 ∷ decimal port) in
    let cut = cut_last-at 58 (ip_text (V4 n)) (decimal port) (no_higher_byte 58 port (omega arith) small) in
    rw (begins, cut, v4_text_read n low, port_of-decimal port some high) refl

v6_target_read : (n port : ℕ) → IsGiven (V6 n) → 0 < port → port < 2 ^ 16
    → target_of (target_text (record { ip = V6 n; port = port })) ≡ Ok (record { ip = V6 n; port = port })
unfolding target_of target_text
v6_target_read n port given some high =
    let cut = cut_first-at 93 (ip_text (V6 n)) (58 ∷ decimal port) (v6_text_lacks n) in
    rw (cut, v6_text_read n given, port_of-decimal port some high) refl

by_family : (ip : Ip) (port : ℕ) → IsGiven ip → 0 < port → port < 2 ^ 16
    → target_of (target_text (record { ip = ip; port = port })) ≡ Ok (record { ip = ip; port = port })
by_family (V4 n) port given some high = v4_target_read n port given some high
by_family (V6 n) port given some high = v6_target_read n port given some high

pub target_of-text : (target : Target) → IsGiven target.ip → 0 < target.port → target.port < 2 ^ 16
    → target_of (target_text target) ≡ Ok target
target_of-text target given some high = by_family target.ip target.port given some high
