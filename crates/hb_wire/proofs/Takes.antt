-- Each field takes a byte at least.
use Rattle.std.proofs.Common.{◌≡◌, ℕ, ◌+◌, ◌-◌, ◌/◌, ◌%◌, ◌<◌, ◌≤◌, Bool, true, false, cond, ◌==◌, List, [], ◌∷◌, length, Result, Ok, Err, refl, ap, arith, length-drop}
use Rattle.std.specs.Prelude.{nat_lt}
use Rattle.hb_wire.specs.declared.fault.WireFault.{WireFault}
use Rattle.hb_wire.specs.declared.varint.Varint.{Varint}
use Rattle.hb_wire.specs.Varint.{varint_at, before_high_bits}
use Rattle.hb_wire.specs.Field.{Unread, Content, field_in, value_in, varint_in, bytes_in, eight_in, four_in, is_number, ◌>>=◌}
use Rattle.hb_wire.specs.WireType.{is_wire_type}

abbrev taken : Result Varint WireFault → ℕ
taken (Ok v) = v.length
taken (Err d) = 1

high_bits_take : (low : ℕ) (r : Result Varint WireFault) → 0 < taken (before_high_bits low r)
high_bits_take low (Ok high) = omega arith
high_bits_take low (Err d) = omega arith

cond_takes : (b : Bool) (x y : Result Varint WireFault) → 0 < taken x → 0 < taken y → 0 < taken (cond b x y)
cond_takes true x y p q = p
cond_takes false x y p q = q

one_taken : (bytes : List ℕ) (at index : ℕ) → 0 < taken (varint_at bytes at index)
one_taken [] at index = omega arith
one_taken (byte ∷ rest) at index =
    cond_takes (index == 9) _ _
    (cond_takes (nat_lt 1 byte) _ _ (omega arith) (omega arith))
    (cond_takes (nat_lt byte 128) _ _ (omega arith) (high_bits_take (byte - 128) (varint_at rest (at + 1) (index + 1))))

-- a varint has a byte at least
pub varint_takes : (bytes : List ℕ) (at index : ℕ) (v : Varint) → varint_at bytes at index ≡ Ok v → (0 < v.length) × (0 < length bytes)
varint_takes [] at index v e = absurd cc
varint_takes (byte ∷ rest) at index v e = let h : taken (varint_at (byte ∷ rest) at index) ≡ v.length = ap taken e in
    let p = one_taken (byte ∷ rest) at index in (omega arith, omega arith)

-- what is read leaves at most n bytes
abbrev pub Leaves : {A : Type 0} → ℕ → Result (A × Unread) WireFault → Type 0
Leaves n (Ok p) = length p.1.left ≤ n
Leaves n (Err e) = Unit {0}

bind_leaves : {A B : Type 0} (n : ℕ) (r : Result A WireFault) (f : A → Result (B × Unread) WireFault)
    → ((x : A) → r ≡ Ok x → Leaves n (f x)) → Leaves n (r >>= f)
bind_leaves n (Ok x) f h = h x refl
bind_leaves n (Err d) f h = tt

cond_leaves : {A : Type 0} (n : ℕ) (b : Bool) (x y : Result (A × Unread) WireFault) → Leaves n x → Leaves n y → Leaves n (cond b x y)
cond_leaves n true x y p q = p
cond_leaves n false x y p q = q

abbrev left_in : {A : Type 0} → A × Unread → Result (A × Unread) WireFault → ℕ
left_in p (Ok q) = length q.1.left
left_in p (Err d) = 0

leaves_more : {A : Type 0} (n m : ℕ) (r : Result (A × Unread) WireFault) → n ≤ m → Leaves n r → Leaves m r
leaves_more n m (Ok p) le h = omega arith
leaves_more n m (Err d) le h = tt

at_ok : {A : Type 0} (n : ℕ) (r : Result (A × Unread) WireFault) (p : A × Unread) → r ≡ Ok p → Leaves n r → length p.1.left ≤ n
at_ok n (Ok q) p e le = let same : length q.1.left ≡ length p.1.left = ap (left_in p) e in omega arith
at_ok n (Err d) p e le = absurd cc

varint_leaves : (u : Unread) → Leaves (length u.left - 1) (varint_in u)
unfolding varint_in
varint_leaves u = bind_leaves (length u.left - 1) (varint_at u.left u.at 0) _ (λ v e. let t = varint_takes u.left u.at 0 v e in
    omega (arith, length-drop v.length u.left))

bytes_leave : (k : ℕ) (u : Unread) → Leaves (length u.left) (bytes_in k u)
unfolding bytes_in
bytes_leave k u = cond_leaves (length u.left) (nat_lt (length u.left) k) _ _ tt (omega (arith, length-drop k u.left))

value_leaves : (number wire : ℕ) (u : Unread) → Leaves (length u.left) (value_in number wire u)
unfolding value_in
value_leaves number wire u =
    cond_leaves (length u.left) (wire == 0) _ _
    (bind_leaves (length u.left) (varint_in u) _ (λ p e. let t = at_ok (length u.left - 1) (varint_in u) p e (varint_leaves u) in
    omega arith))
    (cond_leaves (length u.left) (wire == 1) _ _
    (bind_leaves (length u.left) (eight_in u) _
    (λ p e. at_ok (length u.left) (eight_in u) p e
    (bind_leaves (length u.left) (bytes_in 8 u) _ (λ b d. at_ok (length u.left) (bytes_in 8 u) b d (bytes_leave 8 u)))))
    (cond_leaves (length u.left) (wire == 2) _ _
    (bind_leaves (length u.left) (varint_in u) _ (λ p e. bind_leaves (length u.left) (bytes_in p.0 p.1) _ (λ b d.
    let t = at_ok (length u.left - 1) (varint_in u) p e (varint_leaves u) in
    let w = at_ok (length p.1.left) (bytes_in p.0 p.1) b d (bytes_leave p.0 p.1) in
    omega arith)))
    (bind_leaves (length u.left) (four_in u) _
    (λ p e. at_ok (length u.left) (four_in u) p e
    (bind_leaves (length u.left) (bytes_in 4 u) _ (λ b d. at_ok (length u.left) (bytes_in 4 u) b d (bytes_leave 4 u)))))))

field_leaves : (u : Unread) → Leaves (length u.left - 1) (field_in u)
unfolding field_in
field_leaves u = bind_leaves (length u.left - 1) (varint_in u) _ (λ tag e.
    let t = at_ok (length u.left - 1) (varint_in u) tag e (varint_leaves u) in
    cond_leaves (length u.left - 1) (is_number (tag.0 / 8)) _ _
    (cond_leaves (length u.left - 1) (is_wire_type (tag.0 % 8)) _ _
    (leaves_more (length tag.1.left) (length u.left - 1) _ t (value_leaves (tag.0 / 8) (tag.0 % 8) tag.1)) tt)
    tt)

-- a field that was read leaves fewer bytes
pub field_takes : (u v : Unread) (f : Content) → 0 < length u.left → field_in u ≡ Ok (f, v) → length v.left < length u.left
field_takes u v f lt e = let t = at_ok (length u.left - 1) (field_in u) (f, v) e (field_leaves u) in omega arith

-- so does a varint
pub varint_shortens : (u v : Unread) (n : ℕ) → 0 < length u.left → varint_in u ≡ Ok (n, v) → length v.left < length u.left
varint_shortens u v n lt e = let t = at_ok (length u.left - 1) (varint_in u) (n, v) e (varint_leaves u) in omega arith
