-- The notes that the points of a run make.
use Rattle.std.specs.Prelude.{List, []}
use Rattle.std.specs.List.{flat_map}
use Rattle.hb_base.specs.declared.note.Note.{Note}
use Rattle.hb_captured.specs.Part as captured
use Rattle.hb_inbound.specs.Part as part
use Rattle.hb_proxy.specs.Points.{Point, of_control, of_link, of_plain, of_gate, of_stream}
use Rattle.hb_proxy.specs.Shared.{captured_part}

abbrev pub note_in : Point → List Note
note_in (of_control q) = []
note_in (of_link l p) = part.note_in p
note_in (of_plain l p) = captured.note_in p
note_in (of_gate g p) = []
note_in (of_stream l g s w) = captured.note_in (captured_part g s w)

abbrev pub notes : List Point → List Note
notes points = flat_map note_in points
