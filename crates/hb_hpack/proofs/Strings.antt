-- What is read as a string literal is one, and a literal is read.
use Rattle.std.proofs.Common.{◌≡◌, ℕ, suc, ◌<◌, ◌≤◌, cond, ltb, List, [], ◌∷◌, ◌++◌, length, take, drop, Option, Some, None, Ok, refl, sym, ap, subst, ◌∙◌, arith, append_assoc, inl, inr}
use Rattle.std.proofs.lemmas.Bool.{lt-ltb, le-ltb, ltb-true, ltb-false}
use Rattle.std.proofs.lemmas.List.{take-append-drop, take_at, drop_at, length-append, length-take}
use Rattle.hb_hpack.specs.Integer.{IsInteger}
use Rattle.hb_hpack.specs.Reader.{integer_at, coded_at, string_at}
use Rattle.hb_hpack.specs.Huffman.{Spells}
use Rattle.hb_hpack.specs.HuffmanSteps.{text_of}
use Rattle.hb_hpack.specs.Literal.{IsString}
use Rattle.hb_hpack.proofs.Outcomes.{bind_ok, ok_is, chosen, no_value, AreOctets}
use Rattle.hb_hpack.proofs.Groups.{integer_take, integer_again, integer_some}
use Rattle.hb_hpack.proofs.Reading.{read_is_spelled, spelled_is_read}

-- the literal that was read
pub record TakesString (bytes text rest : List ℕ) : Type 0 where
  pub front : List ℕ
  pub parts : bytes ≡ front ++ rest
  pub is : IsString text front

coded_some : (left : ℕ) (o : Option (List ℕ)) (after text rest : List ℕ) → coded_at left o after ≡ Ok (text, rest)
    → (o ≡ Some text) × (after ≡ rest)
coded_some left None after text rest e = absurd (no_value _ _ e)
coded_some left (Some t) after text rest e = let is =
    ok_is (t, after) (text, rest) e in (ap (λ (x : List ℕ × List ℕ). Some x.0) is, ap (λ (x : List ℕ × List ℕ). x.1) is)

pub string_take : (bytes text rest : List ℕ) → AreOctets bytes → string_at bytes ≡ Ok (text, rest) → TakesString bytes text rest
unfolding string_at
string_take [] text rest o e = absurd (no_value _ _ e)
string_take (b ∷ bytes) text rest o e =
    let n = bind_ok (integer_at 7 (b ∷ bytes)) _ (text, rest) e in
    elim (chosen (ltb (length n.0.1) n.0.0) _ _ _ n.2) [
      | inl p ↦ absurd (no_value _ _ p.1)
      | inr p ↦
          let enough : n.0.0 ≤ length n.0.1 = ltb-false _ _ p.0 in
          let len : length (take n.0.0 n.0.1) ≡ n.0.0 = omega (arith, length-take n.0.0 n.0.1) in
          let joined : take n.0.0 n.0.1 ++ drop n.0.0 n.0.1 ≡ n.0.1 = take-append-drop n.0.0 n.0.1 in
          elim (chosen (ltb b 128) _ _ _ p.1) [
            | inl q ↦
                let small = ltb-true b 128 q.0 in
                let i = integer_take 7 0 b bytes n.0.0 n.0.1 o (omega arith) n.1 in
                let is = ok_is (take n.0.0 n.0.1, drop n.0.0 n.0.1) (text, rest) q.1 in
                let text_is : take n.0.0 n.0.1 ≡ text = ap (λ (x : List ℕ × List ℕ). x.0) is in
                let rest_is : drop n.0.0 n.0.1 ≡ rest = ap (λ (x : List ℕ × List ℕ). x.1) is in
                let length_is : IsInteger 7 0 (length text) i.front =
                subst (λ k. IsInteger 7 0 k i.front) (sym len ∙ ap (λ (xs : List ℕ). length xs) text_is) i.is in
                record {
                  front = i.front ++ text;
                  parts = i.parts ∙ ap (λ (xs : List ℕ). i.front ++ xs) (sym joined ∙ rw (text_is, rest_is) refl)
                      ∙ sym (append_assoc i.front text rest);
                  is = IsString.plain i.front length_is refl;
                }
            | inr q ↦
                let large = ltb-false b 128 q.0 in
                let octet = o.0 in
                let i = integer_take 7 128 b bytes n.0.0 n.0.1 o (omega arith) n.1 in
                let c = coded_some (length (b ∷ bytes)) (text_of (take n.0.0 n.0.1)) (drop n.0.0 n.0.1) text rest q.1 in
                let length_is : IsInteger 7 128 (length (take n.0.0 n.0.1)) i.front =
                subst (λ k. IsInteger 7 128 k i.front) (sym len) i.is in
                record {
                  front = i.front ++ take n.0.0 n.0.1;
                  parts = i.parts ∙ ap (λ (xs : List ℕ). i.front ++ xs) (sym joined ∙ rw c.1 refl)
                      ∙ sym (append_assoc i.front (take n.0.0 n.0.1) rest);
                  is = IsString.coded i.front (take n.0.0 n.0.1) length_is (read_is_spelled _ text c.0) refl;
                }
          ]
    ]

-- how the literal goes on behind its length
pub string_first : (b : ℕ) (more : List ℕ) (n : ℕ) (after : List ℕ) → integer_at 7 (b ∷ more) ≡ Ok (n, after) → n ≤ length after
    → string_at (b ∷ more) ≡ cond (ltb b 128) (Ok (take n after, drop n after))
    (coded_at (length (b ∷ more)) (text_of (take n after)) (drop n after))
unfolding string_at
string_first b more n after e le = rw (e, le-ltb (length after) n le, string_at) refl

grouped : (front len text rest more : List ℕ) (b : ℕ) → front ≡ len ++ text → len ≡ b ∷ more → front ++ rest ≡ b ∷ (more ++ (text ++ rest))
grouped front len text rest more b parts first = rw (parts, first) (append_assoc (b ∷ more) text rest)

plain_again : (text front len more rest : List ℕ) (b : ℕ) → IsInteger 7 0 (length text) len → front ≡ len ++ text → len ≡ b ∷ more
    → b < 128 → string_at (front ++ rest) ≡ Ok (text, rest)
plain_again text front len more rest b is parts first lt =
    let read : integer_at 7 (len ++ (text ++ rest)) ≡ Ok (length text, text ++ rest) =
    integer_again 7 0 (length text) len (text ++ rest) refl is in
    let read' : integer_at 7 (b ∷ (more ++ (text ++ rest))) ≡ Ok (length text, text ++ rest) =
    ap (λ (xs : List ℕ). integer_at 7 (xs ++ (text ++ rest))) (sym first) ∙ read in
    let enough : length text ≤ length (text ++ rest) = omega (arith, length-append text rest) in
    ap string_at (grouped front len text rest more b parts first)
    ∙ string_first b (more ++ (text ++ rest)) (length text) (text ++ rest) read' enough
    ∙ rw (lt-ltb b 128 lt, take_at text rest (length text) refl, drop_at text rest (length text) refl) refl

coded_again : (text front len more rest data' : List ℕ) (b : ℕ) → IsInteger 7 128 (length data') len → Spells data' text
    → front ≡ len ++ data' → len ≡ b ∷ more → 128 ≤ b → string_at (front ++ rest) ≡ Ok (text, rest)
coded_again text front len more rest data' b is spells parts first le =
    let read : integer_at 7 (len ++ (data' ++ rest)) ≡ Ok (length data', data' ++ rest) =
    integer_again 7 128 (length data') len (data' ++ rest) refl is in
    let read' : integer_at 7 (b ∷ (more ++ (data' ++ rest))) ≡ Ok (length data', data' ++ rest) =
    ap (λ (xs : List ℕ). integer_at 7 (xs ++ (data' ++ rest))) (sym first) ∙ read in
    let enough : length data' ≤ length (data' ++ rest) = omega (arith, length-append data' rest) in
    ap string_at (grouped front len data' rest more b parts first)
    ∙ string_first b (more ++ (data' ++ rest)) (length data') (data' ++ rest) read' enough
    ∙ rw (
      le-ltb b 128 le,
      take_at data' rest (length data') refl,
      drop_at data' rest
          (length data') refl,
      spelled_is_read data' text spells,
    ) refl

pub string_again : (text front rest : List ℕ) → IsString text front → string_at (front ++ rest) ≡ Ok (text, rest)
string_again text front rest (IsString.plain len is parts) =
    let f = integer_some 7 0 (length text) len is in
    plain_again text front len f.1 rest f.0 is parts f.2 (omega (arith, f.4))
string_again text front rest (IsString.coded len data' is spells parts) =
    let f = integer_some 7 128 (length data') len is in
    coded_again text front len f.1 rest data' f.0 is spells parts f.2 f.3

-- a literal has a first byte
some_front : (front len text more : List ℕ) (b : ℕ) → front ≡ len ++ text → len ≡ b ∷ more → 0 < length front
some_front front len text more b parts first = let e : length front ≡ suc (length (more ++ text)) = rw (parts, first) refl in omega arith

pub string_some : (text front : List ℕ) → IsString text front → 0 < length front
string_some text front (IsString.plain len is parts) =
    let f = integer_some 7 0 (length text) len is in some_front front len text f.1 f.0 parts f.2
string_some text front (IsString.coded len data' is spells parts) =
    let f = integer_some 7 128 (length data') len is in some_front front len data' f.1 f.0 parts f.2
