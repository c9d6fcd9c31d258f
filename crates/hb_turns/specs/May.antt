-- A call that may be made on a link: it lives, and the way is awake.
use Rattle.std.specs.Prelude.{◌≡◌, true, false, Option, Some, None}
use Rattle.hb_ready.specs.declared.link.Link.{Link}

abbrev pub MayFinish : Option Link → Type 0
MayFinish None = ⊥
MayFinish (Some k) = (k.is_open ≡ false) × (k.finish_sleeps ≡ false)

abbrev pub MayRead : Option Link → Type 0
MayRead None = ⊥
MayRead (Some k) = (k.is_open ≡ true) × (k.read_sleeps ≡ false)

abbrev pub MayWrite : Option Link → Type 0
MayWrite None = ⊥
MayWrite (Some k) = (k.is_open ≡ true) × (k.write_sleeps ≡ false)

abbrev pub MayLook : Option Link → Type 0
MayLook None = ⊥
MayLook (Some k) = (k.is_open ≡ true) × (k.has_ended ≡ true) × (k.look_sleeps ≡ false)
