-- Refusing fields is exact: what is refused is broken so, and what is broken so is refused.
use Rattle.std.proofs.Common.{◌≡◌, ℕ, ◌+◌, ◌-◌, ◌/◌, ◌%◌, ◌^◌, ◌<◌, ◌≤◌, ◌⊎◌, Bool, true, false, cond, ◌==◌, ◌||◌, List, [], ◌∷◌, ◌++◌, length, Result, Ok, Err, IfErr, inl, inr, refl, ap, sym, ◌∙◌, subst, arith, add-zero, length-append}
use Rattle.std.specs.Prelude.{nat_lt}
use Rattle.std.specs.List.{All}
use Rattle.std.proofs.lemmas.Bool.{ltb-true, ltb-false, eqb-true, eqb-false, lt-ltb, le-ltb, cases_eq, and_cases, and_parts, and_from, and_right}
use Rattle.std.proofs.lemmas.List.Elements.{All-head, All-tail, All-cons, All-nil}
use Rattle.hb_wire.specs.declared.fault.WireFault.{WireFault}
use Rattle.hb_wire.specs.declared.fault.WireWhy.{WireWhy}
use Rattle.hb_wire.specs.declared.fault.WireWhy.TheVariants.{Truncated, LongVarint, BadNumber, BadType}
use Rattle.hb_wire.specs.declared.varint.Varint.{Varint}
use Rattle.hb_wire.specs.Varint.{varint_at, before_high_bits}
use Rattle.hb_wire.specs.Field.{Unread, varint_in, bytes_in, eight_in, four_in, value_in, field_in, is_number, ◌>>=◌}
use Rattle.hb_wire.specs.WireType.{is_wire_type}
use Rattle.hb_wire.specs.Spelling.{IsOctet, IsVarint}
use Rattle.hb_wire.specs.Breaks.{Tells, GoesOn, BreaksVarint, varint_ends, varint_too_long, BreaksValue, in_varint, in_eight, in_length, in_span, in_four, IsNumber, BreaksField, in_tag, bad_number, bad_type, in_value}
use Rattle.hb_wire.proofs.Varints.{Passes, at_ok, pick, varint_spelled, varint_read}
use Rattle.hb_wire.proofs.Spelled.{wire_is_5, octets_behind}

pub err_bind : {A B : Type 0} (r : Result A WireFault) (f : A → Result B WireFault) (P : WireFault → Type 0) → IfErr r P
    → ((x : A) → r ≡ Ok x → IfErr (f x) P) → IfErr (r >>= f) P
err_bind (Ok x) f P h k = k x refl
err_bind (Err d) f P h k = h

pub err_cond : {A : Type 0} (t : Bool) (x y : Result A WireFault) (P : WireFault → Type 0) → (t ≡ true → IfErr x P)
    → (t ≡ false → IfErr y P) → IfErr (cond t x y) P
err_cond true x y P p q = p refl
err_cond false x y P p q = q refl

pub err_weaker : {A : Type 0} (r : Result A WireFault) (P Q : WireFault → Type 0) → ((d : WireFault) → P d → Q d) → IfErr r P → IfErr r Q
err_weaker (Ok x) P Q f h = tt
err_weaker (Err d) P Q f h = f d h

pub at_err : {A : Type 0} (r : Result A WireFault) (P : WireFault → Type 0) (d : WireFault) → IfErr r P → r ≡ Err d → P d
at_err r P d h e = let Q : Result _ WireFault → Type 0 = λ r. IfErr r P in subst Q e h

abbrev refusal : (A : Type 0) → WireFault → Result A WireFault
refusal A d = Err d

-- a fault is its place and its kind
pub told : {A : Type 0} (fault : WireFault) (at : ℕ) (why : WireWhy) → Tells fault at why → refusal A (record { at = at; why = why })
    ≡ Err fault
told fault at why (p, q) = rw (← p, ← q) refl

err_high : (low : ℕ) (r : Result Varint WireFault) (P : WireFault → Type 0) → IfErr r P → IfErr (before_high_bits low r) P
err_high low (Ok high) P h = tt
err_high low (Err d) P h = h

-- what refusing a varint tells, behind so many bytes of it
data BreaksBehind (index at : ℕ) (bytes : List ℕ) (fault : WireFault) : Type 0 where
  ends : length bytes + index < 10 → All GoesOn bytes → Tells fault (at + length bytes) Truncated → BreaksBehind index at bytes fault
  too_long : (front : List ℕ) (tenth : ℕ) (behind : List ℕ) → bytes ≡ front ++ tenth ∷ behind → length front + index ≡ 9
      → All GoesOn front → 1 < tenth
      → Tells fault (at + length front) LongVarint → BreaksBehind index at bytes fault

breaks_before : (byte : ℕ) (rest : List ℕ) (index at : ℕ) (fault : WireFault) → 128 ≤ byte → BreaksBehind (index + 1) (at + 1) rest fault
    → BreaksBehind index at (byte ∷ rest) fault
breaks_before byte rest index at fault big (ends few on (place, why)) = ends (omega arith) (All-cons GoesOn byte rest big on)
    (omega arith, why)
breaks_before byte rest index at fault big (too_long front tenth behind cut size on over (place, why)) =
    too_long (byte ∷ front) tenth behind (ap (λ (l : List ℕ). byte ∷ l) cut) (omega arith) (All-cons GoesOn byte front big on) over
    (omega arith, why)

breaks : (bytes : List ℕ) (at index : ℕ) → index ≤ 9 → IfErr (varint_at bytes at index) (λ d. BreaksBehind index at bytes d)
breaks [] at index le = ends (omega arith) (All-nil GoesOn) (sym (add-zero at), refl)
breaks (byte ∷ rest) at index le =
    err_cond (index == 9) _ _ _
    (λ last. let is = eqb-true index 9 last in err_cond (nat_lt 1 byte) _ _ _
    (λ over. too_long [] byte rest refl (omega arith) (All-nil GoesOn) (ltb-true 1 byte over) (sym (add-zero at), refl))
    (λ fits. tt))
    (λ more. let not_last = eqb-false index 9 more in err_cond (nat_lt byte 128) _ _ _ (λ low. tt)
    (λ top. err_high (byte - 128) (varint_at rest (at + 1) (index + 1)) _
    (err_weaker (varint_at rest (at + 1) (index + 1)) _ _ (λ d b. breaks_before byte rest index at d (ltb-false byte 128 top) b)
    (breaks rest (at + 1) (index + 1) (omega arith)))))

from_the_first : (at : ℕ) (bytes : List ℕ) (fault : WireFault) → BreaksBehind 0 at bytes fault → BreaksVarint at bytes fault
from_the_first at bytes fault (ends few on tells) = varint_ends (omega arith) on tells
from_the_first at bytes fault (too_long front tenth behind cut size on over (place, why)) = varint_too_long front tenth behind cut
    (omega arith) on over (omega arith, why)

-- a varint that is refused is broken
pub varint_broken : (u : Unread) → IfErr (varint_in u) (λ d. BreaksVarint u.at u.left d)
unfolding varint_in
varint_broken u = err_bind (varint_at u.left u.at 0) _ _ (err_weaker (varint_at u.left u.at 0) _ _ (λ d b. from_the_first u.at u.left d b)
    (breaks u.left u.at 0 (omega arith))) (λ v e. tt)

refused_end : (bytes : List ℕ) (at index : ℕ) (fault : WireFault) → length bytes + index < 10 → All GoesOn bytes
    → Tells fault (at + length bytes) Truncated → varint_at bytes at index ≡ Err fault
refused_end [] at index fault few on (place, why) = told fault at Truncated (place ∙ add-zero at, why)
refused_end (byte ∷ rest) at index fault few on (place, why) =
    let big = All-head GoesOn byte rest on in
    pick (index == 9) _ _ _
    (λ last. let is = eqb-true index 9 last in absurd (omega arith))
    (λ more. rw (
      le-ltb byte 128 big,
      refused_end rest (at + 1) (index + 1) fault (omega arith) (All-tail GoesOn byte rest on)
          (omega arith, why),
    ) refl)

refused_long : (front : List ℕ) (tenth : ℕ) (behind : List ℕ) (at index : ℕ) (fault : WireFault) → length front + index ≡ 9
    → All GoesOn front → 1 < tenth
    → Tells fault (at + length front) LongVarint → varint_at (front ++ tenth ∷ behind) at index ≡ Err fault
refused_long [] tenth behind at index fault size on over (place, why) =
    pick (index == 9) _ _ _
    (λ last. rw (lt-ltb 1 tenth over) (told fault at LongVarint (place ∙ add-zero at, why)))
    (λ more. let not_last = eqb-false index 9 more in absurd (omega arith))
refused_long (byte ∷ front) tenth behind at index fault size on over (place, why) =
    let big = All-head GoesOn byte front on in
    pick (index == 9) _ _ _
    (λ last. let is = eqb-true index 9 last in absurd (omega arith))
    (λ more. rw (
      le-ltb byte 128 big,
      refused_long front tenth behind (at + 1) (index + 1) fault (omega arith)
          (All-tail GoesOn byte front on) over (omega arith, why),
    ) refl)

-- a varint that is broken is refused
pub varint_refused : (u : Unread) (fault : WireFault) → BreaksVarint u.at u.left fault → varint_in u ≡ Err fault
unfolding varint_in
varint_refused u fault (varint_ends few on tells) = rw (refused_end u.left u.at 0 fault (omega arith) on tells) refl
varint_refused u fault (varint_too_long nine tenth behind cut size on over (place, why)) =
    rw (cut, refused_long nine tenth behind u.at 0 fault (omega arith) on over (omega arith, why)) refl

-- the varint in front, of these bytes
found : (u : Unread) (bytes rest : List ℕ) (n : ℕ) → u.left ≡ bytes ++ rest → IsVarint bytes n
    → varint_in u ≡ Ok (n, record { at = u.at + length bytes; left = rest })
found u bytes rest n cut v = ap (λ (l : List ℕ). varint_in (record { at = u.at; left = l })) cut ∙ varint_read bytes rest u.at n v

bytes_broken : (n : ℕ) (u : Unread) → IfErr (bytes_in n u) (λ d. (length u.left < n) × Tells d (u.at + length u.left) Truncated)
unfolding bytes_in
bytes_broken n u = err_cond (nat_lt (length u.left) n) _ _ _ (λ short. (ltb-true (length u.left) n short, (refl, refl))) (λ fits. tt)

bytes_refused : (n : ℕ) (u : Unread) (fault : WireFault) → length u.left < n → Tells fault (u.at + length u.left) Truncated
    → bytes_in n u ≡ Err fault
unfolding bytes_in
bytes_refused n u fault lt tells = rw (lt-ltb (length u.left) n lt) (told fault (u.at + length u.left) Truncated tells)

span_broken : (u n : Unread) (size : List ℕ) (length_of : ℕ) (wire : ℕ) (d : WireFault) → wire ≡ 2 → IsVarint size length_of
    → Passes u n size → length n.left < length_of
    → Tells d (n.at + length n.left) Truncated → BreaksValue u.at u.left wire d
span_broken u n size length_of wire d is v p lt (place, why) =
    let at = p.at in
    let whole : length u.left ≡ length size + length n.left = ap length p.left ∙ length-append size n.left in
    in_span size n.left length_of is p.left v lt (omega arith, why)

-- a value that is refused is broken
value_broken : (number wire : ℕ) (u : Unread) → All IsOctet u.left → is_wire_type wire ≡ true
    → IfErr (value_in number wire u) (λ d. BreaksValue u.at u.left wire d)
unfolding value_in
value_broken number wire u octets typed =
    err_cond (wire == 0) _ _ _
    (λ is. err_bind (varint_in u) _ _ (err_weaker (varint_in u) _ _ (λ d b. in_varint (eqb-true wire 0 is) b) (varint_broken u))
    (λ n e. tt))
    (λ n0. err_cond (wire == 1) _ _ _
    (λ is. err_bind (eight_in u) _ _
    (err_bind (bytes_in 8 u) _ _ (err_weaker (bytes_in 8 u) _ _ (λ d b. in_eight (eqb-true wire 1 is) b.0 b.1) (bytes_broken 8 u))
    (λ b e. tt)) (λ n e. tt))
    (λ n1. err_cond (wire == 2) _ _ _
    (λ is. err_bind (varint_in u) _ _ (err_weaker (varint_in u) _ _ (λ d b. in_length (eqb-true wire 2 is) b) (varint_broken u))
    (λ n e. let s = at_ok (varint_in u) _ n (varint_spelled u octets) e in
    err_bind (bytes_in n.0 n.1) _ _
    (err_weaker (bytes_in n.0 n.1) _ _ (λ d b. span_broken u n.1 s.0 n.0 wire d (eqb-true wire 2 is) s.1 s.2 b.0 b.1)
    (bytes_broken n.0 n.1)) (λ b e. tt)))
    (λ n2. err_bind (four_in u) _ _
    (err_bind (bytes_in 4 u) _ _ (err_weaker (bytes_in 4 u) _ _ (λ d b. in_four (wire_is_5 wire typed n0 n1 n2) b.0 b.1)
    (bytes_broken 4 u)) (λ b e. tt)) (λ n e. tt))))

-- a value that is broken is refused
value_refused : (number wire : ℕ) (u : Unread) (fault : WireFault) → BreaksValue u.at u.left wire fault → value_in number wire u
    ≡ Err fault
unfolding value_in
value_refused number wire u fault (in_varint is b) = rw (is, varint_refused u fault b) refl
value_refused number wire u fault (in_eight is lt tells) = rw (is, bytes_refused 8 u fault lt tells) refl
value_refused number wire u fault (in_length is b) = rw (is, varint_refused u fault b) refl
value_refused number wire u fault (in_span size behind n is cut v lt (place, why)) =
    let whole : length u.left ≡ length size + length behind = ap length cut ∙ length-append size behind in
    rw (is, found u size behind n cut v, bytes_refused n (record { at = u.at + length size; left = behind }) fault lt (omega arith, why))
    refl
value_refused number wire u fault (in_four is lt tells) = rw (is, bytes_refused 4 u fault lt tells) refl

wire_of_broken : (at : ℕ) (bytes : List ℕ) (wire : ℕ) (fault : WireFault) → BreaksValue at bytes wire fault → is_wire_type wire ≡ true
wire_of_broken at bytes wire fault (in_varint is b) = rw is refl
wire_of_broken at bytes wire fault (in_eight is lt tells) = rw is refl
wire_of_broken at bytes wire fault (in_length is b) = rw is refl
wire_of_broken at bytes wire fault (in_span size behind n is cut v lt tells) = rw is refl
wire_of_broken at bytes wire fault (in_four is lt tells) = rw is refl

or_false : (x y : Bool) → (x || y) ≡ false → (x ≡ false) × (y ≡ false)
or_false true y e = absurd cc
or_false false y e = (refl, e)

no_wire_type : (wire : ℕ) → wire < 8 → is_wire_type wire ≡ false → (wire ≡ 3) ⊎ (wire ≡ 4) ⊎ (wire ≡ 6) ⊎ (wire ≡ 7)
no_wire_type wire lt other =
    let without_5 = or_false _ _ other in
    let without_2 = or_false _ _ without_5.0 in
    let without_1 = or_false _ _ without_2.0 in
    let not_0 = eqb-false wire 0 without_1.0 in
    let not_1 = eqb-false wire 1 without_1.1 in
    let not_2 = eqb-false wire 2 without_2.1 in
    let not_5 = eqb-false wire 5 without_5.1 in
    elim (cases_eq wire 3) [
      | inl is ↦ inl is
      | inr not_3 ↦
          elim (cases_eq wire 4) [
            | inl is ↦ inr (inl is)
            | inr not_4 ↦
                elim (cases_eq wire 6) [ inl is ↦ inr (inr (inl is)) | inr not_6 ↦ inr (inr (inr (omega arith))) ]
          ]
    ]

wire_type_refused : (wire : ℕ) → (wire ≡ 3) ⊎ (wire ≡ 4) ⊎ (wire ≡ 6) ⊎ (wire ≡ 7) → is_wire_type wire ≡ false
wire_type_refused wire (inl is) = rw is refl
wire_type_refused wire (inr (inl is)) = rw is refl
wire_type_refused wire (inr (inr (inl is))) = rw is refl
wire_type_refused wire (inr (inr (inr is))) = rw is refl

number_is : (n : ℕ) → is_number n ≡ true → IsNumber n
number_is n good = let parts = and_parts _ _ good in let some = ltb-true 0 n parts.0 in let small = ltb-true n 536870912 parts.1 in
    (omega arith, omega arith)

is_number_is : (n : ℕ) → IsNumber n → is_number n ≡ true
is_number_is n (some, small) = and_from _ _ (lt-ltb 0 n some) (lt-ltb n 536870912 (omega arith))

no_number : (n : ℕ) → is_number n ≡ false → (n ≡ 0) ⊎ (2 ^ 29 ≤ n)
no_number n bad = elim (and_cases _ _ bad) [
  | inl none ↦ let le = ltb-false 0 n none in inl (omega arith)
  | inr big ↦ let le =
      ltb-false n 536870912 big in inr (omega arith)
]

number_refused : (n : ℕ) → (n ≡ 0) ⊎ (2 ^ 29 ≤ n) → is_number n ≡ false
number_refused n (inl is) = rw is refl
number_refused n (inr big) = and_right (nat_lt 0 n) (nat_lt n 536870912) (le-ltb n 536870912 (omega arith))

-- a field that is refused is broken
pub field_broken : (u : Unread) → All IsOctet u.left → IfErr (field_in u) (λ d. BreaksField u.at u.left d)
unfolding field_in
field_broken u octets = err_bind (varint_in u) _ _ (err_weaker (varint_in u) _ _ (λ d b. in_tag b) (varint_broken u))
    (λ tag e. let s = at_ok (varint_in u) _ tag (varint_spelled u octets) e in
    err_cond (is_number (tag.0 / 8)) _ _ _
    (λ good. err_cond (is_wire_type (tag.0 % 8)) _ _ _
    (λ typed. err_weaker (value_in (tag.0 / 8) (tag.0 % 8) tag.1) _ _
    (λ d b. in_value s.0 tag.1.left tag.0 s.2.left s.1 (number_is (tag.0 / 8) good)
    (subst (λ (at : ℕ). BreaksValue at tag.1.left (tag.0 % 8) d) s.2.at b))
    (value_broken (tag.0 / 8) (tag.0 % 8) tag.1 (octets_behind u tag.1 s.0 s.2 octets) typed))
    (λ other. bad_type s.0 tag.1.left tag.0 s.2.left s.1 (number_is (tag.0 / 8) good) (no_wire_type (tag.0 % 8) (omega arith) other)
    (refl, refl)))
    (λ bad. bad_number s.0 tag.1.left tag.0 s.2.left s.1 (no_number (tag.0 / 8) bad) (refl, refl)))

-- a field that is broken is refused
pub field_refused : (u : Unread) (fault : WireFault) → BreaksField u.at u.left fault → field_in u ≡ Err fault
unfolding field_in
field_refused u fault (in_tag b) = rw (varint_refused u fault b) refl
field_refused u fault (bad_number tag behind n cut v none tells) = rw (found u tag behind n cut v, number_refused (n / 8) none)
    (told fault u.at BadNumber tells)
field_refused u fault (bad_type tag behind n cut v number other tells) =
    rw (found u tag behind n cut v, is_number_is (n / 8) number, wire_type_refused (n % 8) other) (told fault u.at BadType tells)
field_refused u fault (in_value tag behind n cut v number b) =
    rw (
      found u tag behind n cut v,
      is_number_is (n / 8) number,
      wire_of_broken _ _ _ _ b,
      value_refused (n / 8) (n % 8) (record { at = u.at + length tag; left = behind }) fault b,
    ) refl
