-- What a box of a hidden type holds once it was lent.
use Rattle.std.specs.Prelude.{◌≡◌}
use Rattle.std.specs.declared.dyn_box.DynBox.{DynBox}

-- the box is as it was, but that it holds a value of which this is so
abbrev pub HoldsThen : {I H : Type 0} {D : I → Type 0} → (b : DynBox I H D) → (D b.vtable → Type 0) → DynBox I H D → Type 0
HoldsThen {I} {H} {D} b is after = (inside : D b.vtable) × is inside × (after ≡ record b { value = inside })
