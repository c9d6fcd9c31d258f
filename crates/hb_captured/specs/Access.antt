-- The access law: where peers are judged no byte goes to the upstream, or on a stream, and none to the link, unless the resources held then
-- admit the peer. They are at the plain door, and aren't at the outbound one.
use Rattle.std.specs.Prelude.{⊤, ◌≡◌, true, List, Some}
use Rattle.hb_front.specs.Reading.{Seen}
use Rattle.hb_held.specs.Held.{Resources}
use Rattle.hb_table.specs.declared.judgement.Judged.TheVariants.{Admitted}
use Rattle.hb_world.specs.declared.entry.Entry.{Entry}
use Rattle.hb_world.specs.declared.entry.Entry.TheVariants as e
use Rattle.hb_captured.specs.Captured.{judges}
use Rattle.hb_captured.specs.Part.{Part, entry, up, put}
use Rattle.hb_captured.specs.Sides.{door_of, header_of, held, judged_in, AtEach}

-- what is held behind these parts admits the peer of the header at its destination
pub record IsAdmitted (start : Resources) (before : List Part) : Type 0 where
  pub seen : Seen
  pub told : header_of before ≡ Some seen
  pub admitted : judged_in (held start before) seen ≡ Admitted

abbrev pub GoesAdmitted : Resources → List Part → Entry → Type 0
GoesAdmitted start before (e.Went l bytes) = judges (door_of before) ≡ true → IsAdmitted start before
GoesAdmitted start before _ = ⊤

abbrev pub AccessAt : Resources → List Part → Part → Type 0
AccessAt start before (entry e) = GoesAdmitted start before e
AccessAt start before (up e) = GoesAdmitted start before e
AccessAt start before (put bytes) = judges (door_of before) ≡ true → IsAdmitted start before
AccessAt start before _ = ⊤

abbrev pub AccessLaw : Resources → List Part → Type 0
AccessLaw start parts = AtEach (AccessAt start) parts
