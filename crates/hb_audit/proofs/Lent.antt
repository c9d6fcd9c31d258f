-- What a box holds once it was lent.
use Rattle.std.proofs.Common.{◌≡◌, refl, sym, subst}
use Rattle.std.specs.declared.dyn_box.DynBox.{DynBox}
use Rattle.hb_audit.specs.Boxed.{HoldsThen}

-- what is said of the value that was lent, with its table, is said of the box that lent both
pub lent : {I H : Type 0} (D : I → Type 0) (R : (i : I) → D i → D i → Type 0) (b : DynBox I H D) (p : (i : I) × D i) (new : D p.0)
    → p ≡ (b.vtable, b.value) → R p.0 p.1 new
    → HoldsThen b (R b.vtable b.value) (record { ptr = b.ptr; vtable = p.0; alloc = b.alloc; value = new })
lent {I} {H} D R b p new is r =
    subst (λ (q : (i : I) × D i). (inside : D q.0) × R q.0 q.1 inside
    × (◌≡◌ {A = DynBox I H D} (record { ptr = b.ptr; vtable = p.0; alloc = b.alloc; value = new })
    (record { ptr = b.ptr; vtable = q.0; alloc = b.alloc; value = inside }))) is (new, r, refl)

-- what is so of the box with each such value is so of the one that it is then
pub so_then : {I H : Type 0} {D : I → Type 0} (b after : DynBox I H D) (is : D b.vtable → Type 0) (P : DynBox I H D → Type 0)
    → HoldsThen b is after → ((inside : D b.vtable) → is inside → P (record b { value = inside })) → P after
so_then b after is P holds so = subst P (sym holds.2) (so holds.0 holds.1)

-- what is so of a value that was lent to be read is so of the box's
pub read : {I H : Type 0} (D : I → Type 0) (P : (i : I) → D i → Type 0) (b : DynBox I H D) (p : (i : I) × D i) → p ≡ (b.vtable, b.value)
    → P p.0 p.1 → P b.vtable b.value
read {I} D P b p is so = subst (λ (q : (i : I) × D i). P q.0 q.1) is so
