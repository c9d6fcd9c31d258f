-- Reading a varint is exact: what is read is spelled so, and what is spelled so is read.
use Rattle.std.proofs.Common.{◌≡◌, ℕ, ◌+◌, ◌-◌, ◌*◌, ◌^◌, ◌<◌, ◌≤◌, Bool, true, false, cond, ◌==◌, List, [], ◌∷◌, ◌++◌, length, take, Result, Ok, Err, IfOk, refl, ap, sym, ◌∙◌, subst, arith, add-one}
use Rattle.std.specs.Prelude.{nat_lt}
use Rattle.std.specs.List.{All}
use Rattle.std.proofs.lemmas.Bool.{ltb-true, ltb-false, eqb-true, eqb-false, lt-ltb, le-ltb}
use Rattle.std.proofs.lemmas.List.{take-append-drop, length-take}
use Rattle.std.proofs.lemmas.List.Elements.{All-head, All-tail}
use Rattle.std.proofs.Math.Seq.{drop-append_seam}
use Rattle.hb_wire.specs.declared.fault.WireFault.{WireFault}
use Rattle.hb_wire.specs.declared.varint.Varint.{Varint}
use Rattle.hb_wire.specs.Varint.{varint_at, before_high_bits}
use Rattle.hb_wire.specs.Field.{Unread, varint_in, ◌>>=◌}
use Rattle.hb_wire.specs.Spelling.{IsOctet, IsBase128, IsVarint}
use Rattle.hb_wire.proofs.Powers.{low_fits, both_fit, seven_more}

-- what is unread before is these bytes, and then what is unread after
pub record Passes (before after : Unread) (bytes : List ℕ) : Type 0 where
  pub left : before.left ≡ bytes ++ after.left
  pub at : after.at ≡ before.at + length bytes

pub if_bind : {A B : Type 0} (r : Result A WireFault) (f : A → Result B WireFault) (P : B → Type 0) → ((x : A) → r ≡ Ok x → IfOk (f x) P)
    → IfOk (r >>= f) P
if_bind (Ok x) f P h = h x refl
if_bind (Err e) f P h = tt

pub if_cond : {A : Type 0} (t : Bool) (x y : Result A WireFault) (P : A → Type 0) → (t ≡ true → IfOk x P) → (t ≡ false → IfOk y P)
    → IfOk (cond t x y) P
if_cond true x y P p q = p refl
if_cond false x y P p q = q refl

pub at_ok : {A : Type 0} (r : Result A WireFault) (P : A → Type 0) (x : A) → IfOk r P → r ≡ Ok x → P x
at_ok r P x h e = let Q : Result _ WireFault → Type 0 = λ r. IfOk r P in subst Q e h

if_high : (low : ℕ) (r : Result Varint WireFault) (P : Varint → Type 0)
    → ((high : Varint) → r ≡ Ok high → P (record { value = low + 128 * high.value; length = high.length + 1 }))
    → IfOk (before_high_bits low r) P
if_high low (Ok high) P h = h high refl
if_high low (Err e) P h = tt

-- what reading a varint tells, behind so many bytes of it
record Reads (bytes : List ℕ) (index : ℕ) (v : Varint) : Type 0 where
  base128 : IsBase128 (take v.length bytes) v.value
  few : v.length + index ≤ 10
  small : v.value < 2 ^ (64 - 7 * index)
  inside : v.length ≤ length bytes

more_base128 : (byte : ℕ) (bytes : List ℕ) (high : ℕ) → 128 ≤ byte → byte < 256 → IsBase128 bytes high
    → IsBase128 (byte ∷ bytes) (byte - 128 + 128 * high)
more_base128 byte [] high le lt b = absurd b
more_base128 byte (next ∷ bytes) high le lt b = (le, lt, high, omega arith, b)

last_bound : (index : ℕ) → index ≡ 9 → 2 ^ (64 - 7 * index) ≡ 2
last_bound index e = rw e refl

one_byte : (byte : ℕ) (rest : List ℕ) (index : ℕ) → index ≤ 9 → byte < 128 → byte < 2 ^ (64 - 7 * index)
    → Reads (byte ∷ rest) index (record { value = byte; length = 1 })
one_byte byte rest index le lt small = record { base128 = (lt, refl); few = omega arith; small = small; inside = omega arith }

more_bytes : (byte : ℕ) (rest : List ℕ) (index : ℕ) (high : Varint) → index ≤ 8 → 128 ≤ byte → byte < 256 → Reads rest (index + 1) high
    → Reads (byte ∷ rest) index (record { value = byte - 128 + 128 * high.value; length = high.length + 1 })
more_bytes byte rest index high le big octet r =
    record {
      base128 = rw add-one (more_base128 byte (take high.length rest) high.value big octet r.base128);
      few = let few = r.few in omega arith;
      small = both_fit index (byte - 128) high.value le (omega arith) r.small;
      inside = let inside = r.inside in omega arith;
    }

reads : (bytes : List ℕ) (at index : ℕ) → index ≤ 9 → All IsOctet bytes → IfOk (varint_at bytes at index) (λ v. Reads bytes index v)
reads [] at index le octets = tt
reads (byte ∷ rest) at index le octets =
    if_cond (index == 9) _ _ _
    (λ last. if_cond (nat_lt 1 byte) _ _ _ (λ over. tt)
    (λ fits. let is = eqb-true index 9 last in let bound = last_bound index is in let small = ltb-false 1 byte fits in
    one_byte byte rest index le (omega arith) (omega arith)))
    (λ more. let not_last = eqb-false index 9 more in let early : index ≤ 8 = omega arith in
    if_cond (nat_lt byte 128) _ _ _
    (λ low. let lt = ltb-true byte 128 low in one_byte byte rest index le lt (low_fits index byte early lt))
    (λ top. let big = ltb-false byte 128 top in let octet = All-head IsOctet byte rest octets in
    if_high (byte - 128) (varint_at rest (at + 1) (index + 1)) _
    (λ high e. more_bytes byte rest index high early big octet
    (at_ok (varint_at rest (at + 1) (index + 1)) (λ v. Reads rest (index + 1) v) high
    (reads rest (at + 1) (index + 1) (omega arith) (All-tail IsOctet byte rest octets)) e))))

-- a varint that is read is spelled by the bytes that it takes
pub varint_spelled : (u : Unread) → All IsOctet u.left
    → IfOk (varint_in u) (λ p. (bytes : List ℕ) × IsVarint bytes p.0 × Passes u p.1 bytes)
unfolding varint_in
varint_spelled u octets = if_bind (varint_at u.left u.at 0) _ _
    (λ v e. let r = at_ok (varint_at u.left u.at 0) (λ v. Reads u.left 0 v) v (reads u.left u.at 0 (omega arith) octets) e in
    let size = length-take v.length u.left in
    let few = r.few in let inside = r.inside in (
      take v.length u.left,
      record { base128 = r.base128; few = omega arith; small = r.small },
      record { left = sym (take-append-drop v.length u.left); at = omega arith },
    ))

pub pick : {A : Type 0} (t : Bool) (x y z : A) → (t ≡ true → x ≡ z) → (t ≡ false → y ≡ z) → cond t x y ≡ z
pick true x y z p q = p refl
pick false x y z p q = q refl

last_read : (byte : ℕ) (rest : List ℕ) (at index : ℕ) → index ≤ 9 → byte < 128 → byte < 2 ^ (64 - 7 * index)
    → varint_at (byte ∷ rest) at index ≡ Ok (record { value = byte; length = 1 })
last_read byte rest at index le lt small =
    pick (index == 9) _ _ _
    (λ last. let bound = last_bound index (eqb-true index 9 last) in rw (le-ltb 1 byte (omega arith)) refl)
    (λ more. rw (lt-ltb byte 128 lt) refl)

more_read : (byte : ℕ) (rest : List ℕ) (at index n high size : ℕ) → index ≤ 8 → 128 ≤ byte → n + 128 ≡ byte + 128 * high
    → varint_at rest (at + 1) (index + 1) ≡ Ok (record { value = high; length = size })
    → varint_at (byte ∷ rest) at index ≡ Ok (record { value = n; length = size + 1 })
more_read byte rest at index n high size le big is e =
    let same : byte - 128 + 128 * high ≡ n = omega arith in
    pick (index == 9) _ _ _
    (λ last. let is_last = eqb-true index 9 last in absurd (omega arith))
    (λ more. rw (le-ltb byte 128 big, e, same) refl)

-- a base 128 number in front is read
read_back : (bytes rest : List ℕ) (at index n : ℕ) → index ≤ 9 → length bytes + index ≤ 10 → n < 2 ^ (64 - 7 * index) → IsBase128 bytes n
    → varint_at (bytes ++ rest) at index ≡ Ok (record { value = n; length = length bytes })
read_back [] rest at index n le few small b = absurd b
read_back (byte ∷ []) rest at index n le few small (low, is) = rw is (last_read byte rest at index le low (omega arith))
read_back (byte ∷ next ∷ bytes) rest at index n le few small (big, octet, high, is, b) =
    let early : index ≤ 8 = omega arith in
    let bound = seven_more index early in
    let longer : length (next ∷ bytes) + 1 ≡ length (byte ∷ next ∷ bytes) = omega arith in
    more_read byte (next ∷ (bytes ++ rest)) at index n high (length (next ∷ bytes)) early big is
    (read_back (next ∷ bytes) rest (at + 1) (index + 1) high (omega arith) (omega arith) (omega arith) b)
    ∙ ap (λ (size : ℕ). Ok (record { value = n; length = size })) longer

-- a varint in front is read
pub varint_read : (bytes rest : List ℕ) (at n : ℕ) → IsVarint bytes n → varint_in (record { at = at; left = bytes ++ rest })
    ≡ Ok (n, record { at = at + length bytes; left = rest })
unfolding varint_in
varint_read bytes rest at n v = rw (
  read_back bytes rest at 0 n (omega arith) (let few = v.few in omega arith) v.small v.base128,
  drop-append_seam,
) refl

pub some_in_varint : (bytes : List ℕ) (n : ℕ) → IsVarint bytes n → 0 < length bytes
some_in_varint [] n v = absurd v.base128
some_in_varint (byte ∷ bytes) n v = omega arith
