-- Reading fields is exact: what is read is spelled so, and what is spelled so is read.
use Rattle.std.proofs.Common.{◌≡◌, ℕ, ◌+◌, ◌*◌, ◌/◌, ◌%◌, ◌<◌, ◌≤◌, true, false, ◌==◌, List, ◌++◌, length, take, drop, Some, Result, Ok, Err, IfOk, refl, ap, sym, ◌∙◌, subst, arith, append_assoc, length-append}
use Rattle.std.specs.Prelude.{nat_lt}
use Rattle.std.specs.Int.{w32, w64, from_le_bytes}
use Rattle.std.specs.List.{All}
use Rattle.std.proofs.lemmas.Bool.{ltb-true, ltb-false, eqb-true, lt-ltb, le-ltb, ne_eqb, and_parts, and_from}
use Rattle.std.proofs.lemmas.List.{take-append-drop, length-take}
use Rattle.std.proofs.lemmas.List.Elements.{All-drop, All-same}
use Rattle.std.proofs.Math.Seq.{drop-append_seam, take-append_seam}
use Rattle.hb_wire.specs.declared.fault.WireFault.{WireFault}
use Rattle.hb_wire.specs.Field.{Unread, Content, Value, varint, eight, span, four, varint_in, bytes_in, eight_in, four_in, value_in, field_in, next_in, is_number}
use Rattle.hb_wire.specs.WireType.{is_wire_type}
use Rattle.hb_wire.specs.Spelling.{IsOctet, IsVarint, wire_type, SpellsValue, SpellsField}
use Rattle.hb_wire.proofs.Varints.{Passes, if_bind, if_cond, at_ok, varint_spelled, varint_read, some_in_varint}

if_weaker : {A : Type 0} (r : Result A WireFault) (P Q : A → Type 0) → ((x : A) → P x → Q x) → IfOk r P → IfOk r Q
if_weaker (Ok x) P Q f h = f x h
if_weaker (Err e) P Q f h = tt

pub octets_behind : (u v : Unread) (bytes : List ℕ) → Passes u v bytes → All IsOctet u.left → All IsOctet v.left
octets_behind u v bytes p octets = All-same IsOctet v.left (drop (length bytes) u.left)
    (sym (ap (λ l. drop (length bytes) l) p.left ∙ drop-append_seam bytes v.left)) (All-drop IsOctet (length bytes) u.left octets)

passes_on : (u v w : Unread) (a b : List ℕ) → Passes u v a → Passes v w b → Passes u w (a ++ b)
passes_on u v w a b p q =
    record {
      left = p.left ∙ ap (λ l. a ++ l) q.left ∙ sym (append_assoc a b w.left);
      at = let first = p.at in let second = q.at in omega (arith, length-append a b);
    }

bytes_spelled : (n : ℕ) (u : Unread) → IfOk (bytes_in n u) (λ p. (length p.0 ≡ n) × Passes u p.1 p.0)
unfolding bytes_in
bytes_spelled n u = if_cond (nat_lt (length u.left) n) _ _ _ (λ short. tt)
    (λ fits. let le = ltb-false (length u.left) n fits in let size = length-take n u.left in
    (omega arith, record { left = sym (take-append-drop n u.left); at = omega arith }))

eight_spelled : (u : Unread) → IfOk (eight_in u) (λ p. (bytes : List ℕ) × (length bytes ≡ 8) × (p.0 ≡ from_le_bytes w64 bytes)
    × Passes u p.1 bytes)
eight_spelled u = if_bind (bytes_in 8 u) _ _ (λ b e. let s = at_ok (bytes_in 8 u) _ b (bytes_spelled 8 u) e in (b.0, s.0, refl, s.1))

four_spelled : (u : Unread) → IfOk (four_in u) (λ p. (bytes : List ℕ) × (length bytes ≡ 4) × (p.0 ≡ from_le_bytes w32 bytes)
    × Passes u p.1 bytes)
four_spelled u = if_bind (bytes_in 4 u) _ _ (λ b e. let s = at_ok (bytes_in 4 u) _ b (bytes_spelled 4 u) e in (b.0, s.0, refl, s.1))

-- a value of a number and a wire type is spelled by the bytes that it takes
record IsRead (number wire : ℕ) (u : Unread) (f : Content) (v : Unread) : Type 0 where
  bytes : List ℕ
  wire_is : wire ≡ wire_type f.value
  number_is : f.number ≡ number
  spells : SpellsValue u.at bytes f.at f.value
  passes : Passes u v bytes

pub wire_is_5 : (wire : ℕ) → is_wire_type wire ≡ true → (wire == 0) ≡ false → (wire == 1) ≡ false → (wire == 2) ≡ false → wire ≡ 5
wire_is_5 wire typed n0 n1 n2 = eqb-true wire 5 (rw (n0, n1, n2) at typed)

span_spelled : (number : ℕ) (u n b : Unread) (size own : List ℕ) → IsVarint size (length own) → Passes u n size → Passes n b own
    → IsRead number 2 u (record { number = number; at = n.at; value = span own }) b
span_spelled number u n b size own v p q = record {
  bytes = size ++ own;
  wire_is = refl;
  number_is = refl;
  spells =
      (size, p.at, v, refl);
  passes = passes_on u n b size own p q;
}

value_spelled : (number wire : ℕ) (u : Unread) → All IsOctet u.left → is_wire_type wire ≡ true
    → IfOk (value_in number wire u) (λ p. IsRead number wire u p.0 p.1)
unfolding value_in
value_spelled number wire u octets typed =
    if_cond (wire == 0) _ _ _
    (λ is. if_bind (varint_in u) _ _ (λ n e. let s = at_ok (varint_in u) _ n (varint_spelled u octets) e in
    record { bytes = s.0; wire_is = eqb-true wire 0 is; number_is = refl; spells = (refl, s.1); passes = s.2 }))
    (λ n0. if_cond (wire == 1) _ _ _
    (λ is. if_bind (eight_in u) _ _ (λ n e. let s = at_ok (eight_in u) _ n (eight_spelled u) e in
    record { bytes = s.0; wire_is = eqb-true wire 1 is; number_is = refl; spells = (refl, s.1, s.2); passes = s.3 }))
    (λ n1. if_cond (wire == 2) _ _ _
    (λ is. if_bind (varint_in u) _ _ (λ n e. let s = at_ok (varint_in u) _ n (varint_spelled u octets) e in
    if_bind (bytes_in n.0 n.1) _ _ (λ b d. let t = at_ok (bytes_in n.0 n.1) _ b (bytes_spelled n.0 n.1) d in
    rw (eqb-true wire 2 is) (span_spelled number u n.1 b.1 s.0 b.0 (subst (λ (k : ℕ). IsVarint s.0 k) (sym t.0) s.1) s.2 t.1))))
    (λ n2. if_bind (four_in u) _ _ (λ n e. let s = at_ok (four_in u) _ n (four_spelled u) e in
    record { bytes = s.0; wire_is = wire_is_5 wire typed n0 n1 n2; number_is = refl; spells = (refl, s.1, s.2); passes = s.3 }))))

tag_spelled : (u v w : Unread) (tag : List ℕ) (n : ℕ) (f : Content) → IsVarint tag n → Passes u v tag → is_number (n / 8) ≡ true
    → IsRead (n / 8) (n % 8) v f w
    → (bytes : List ℕ) × SpellsField u.at bytes f × Passes u w bytes
tag_spelled u v w tag n f is_tag p good r =
    let both = and_parts _ _ good in
    let low = ltb-true 0 (n / 8) both.0 in
    let high = ltb-true (n / 8) 536870912 both.1 in
    let wire = r.wire_is in
    let number = r.number_is in
    let whole : n ≡ 8 * f.number + wire_type f.value = omega arith in (
      tag ++ r.bytes,
      record {
        tag = tag;
        behind = r.bytes;
        cut = refl;
        is_tag = subst (λ (k : ℕ). IsVarint tag k) whole is_tag;
        some = omega arith;
        small = omega arith;
        value = subst (λ (at : ℕ). SpellsValue at r.bytes f.at f.value) p.at r.spells;
      },
      passes_on u v w tag r.bytes p r.passes,
    )

-- a field that is read is spelled by the bytes that it takes
pub field_spelled : (u : Unread) → All IsOctet u.left
    → IfOk (field_in u) (λ p. (bytes : List ℕ) × SpellsField u.at bytes p.0 × Passes u p.1 bytes)
unfolding field_in
field_spelled u octets = if_bind (varint_in u) _ _
    (λ tag e. let s = at_ok (varint_in u) _ tag (varint_spelled u octets) e in
    if_cond (is_number (tag.0 / 8)) _ _ _
    (λ good. if_cond (is_wire_type (tag.0 % 8)) _ _ _
    (λ typed. if_weaker (value_in (tag.0 / 8) (tag.0 % 8) tag.1) _ _ (λ p r. tag_spelled u tag.1 p.1 s.0 tag.0 p.0 s.1 s.2 good r)
    (value_spelled (tag.0 / 8) (tag.0 % 8) tag.1 (octets_behind u tag.1 s.0 s.2 octets) typed))
    (λ other. tt))
    (λ bad. tt))

bytes_read : (own rest : List ℕ) (at n : ℕ) → length own ≡ n → bytes_in n (record { at = at; left = own ++ rest })
    ≡ Ok (own, record { at = at + n; left = rest })
unfolding bytes_in
bytes_read own rest at n e =
    let more = length-append own rest in
    let fits : n ≤ length (own ++ rest) = omega arith in
    let front : take n (own ++ rest) ≡ own = ap (λ k. take k (own ++ rest)) (sym e) ∙ take-append_seam own rest in
    let back : drop n (own ++ rest) ≡ rest = ap (λ k. drop k (own ++ rest)) (sym e) ∙ drop-append_seam own rest in
    rw (le-ltb (length (own ++ rest)) n fits, front, back) refl

-- the value that bytes behind a tag spell is read
value_read : (number : ℕ) (bytes rest : List ℕ) (at place : ℕ) (value : Value) → SpellsValue at bytes place value
    → value_in number (wire_type value) (record { at = at; left = bytes ++ rest })
    ≡ Ok (record { number = number; at = place; value = value }, record { at = at + length bytes; left = rest })
unfolding value_in
value_read number bytes rest at place (varint n) (is, v) = rw (is, varint_read bytes rest at n v) refl
value_read number bytes rest at place (eight n) (is, size, worth) = rw (is, worth, size, bytes_read bytes rest at 8 size) refl
value_read number bytes rest at place (four n) (is, size, worth) = rw (is, worth, size, bytes_read bytes rest at 4 size) refl
value_read number bytes rest at place (span own) (size, is, v, cut) =
    let whole : at + length size + length own ≡ at + length (size ++ own) = omega (arith, length-append size own) in
    rw (
      cut,
      is,
      append_assoc size own rest,
      varint_read size (own ++ rest) at (length own) v,
      bytes_read own rest (at + length size)
          (length own) refl,
      whole,
    ) refl

wire_small : (value : Value) → (wire_type value < 8) × (is_wire_type (wire_type value) ≡ true)
wire_small (varint n) = (omega arith, refl)
wire_small (eight n) = (omega arith, refl)
wire_small (span own) = (omega arith, refl)
wire_small (four n) = (omega arith, refl)

-- the field in front is read
pub field_read : (front rest : List ℕ) (at : ℕ) (f : Content) → SpellsField at front f
    → field_in (record { at = at; left = front ++ rest }) ≡ Ok (f, record { at = at + length front; left = rest })
unfolding field_in
field_read front rest at f s =
    let wire = wire_small f.value in
    let number : (8 * f.number + wire_type f.value) / 8 ≡ f.number = let w = wire.0 in omega arith in
    let low : (8 * f.number + wire_type f.value) % 8 ≡ wire_type f.value = let w = wire.0 in omega arith in
    let some = s.some in
    let small = s.small in
    let good : is_number f.number ≡ true = and_from _ _ (lt-ltb 0 f.number some) (lt-ltb f.number 536870912 (omega arith)) in
    let whole : at + length s.tag + length s.behind ≡ at + length (s.tag ++ s.behind) = omega (arith, length-append s.tag s.behind) in
    rw (
      s.cut,
      append_assoc s.tag s.behind rest,
      varint_read s.tag (s.behind ++ rest) at (8 * f.number + wire_type f.value) s.is_tag,
      number,
      low,
      good,
      wire.1,
      value_read f.number s.behind rest (at + length s.tag) f.at f.value s.value,
      whole,
    ) refl

some_in_field : (at : ℕ) (front : List ℕ) (f : Content) → SpellsField at front f → 0 < length front
some_in_field at front f s = let some = some_in_varint s.tag _ s.is_tag in rw s.cut (omega (arith, length-append s.tag s.behind))

-- the next field, where one is in front
pub next_read : (front rest : List ℕ) (at : ℕ) (f : Content) → SpellsField at front f
    → next_in (record { at = at; left = front ++ rest }) ≡ Ok (Some (f, record { at = at + length front; left = rest }))
next_read front rest at f s =
    let some = some_in_field at front f s in
    let size : (length (front ++ rest) ≡ 0 → ⊥) = λ e. omega (arith, length-append front rest) in
    rw (ne_eqb (length (front ++ rest)) 0 size, field_read front rest at f s) refl
