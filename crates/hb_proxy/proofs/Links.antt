-- The laws of one inbound link hold of each.
use Rattle.hb_inbound.proofs.ClosesRun.{closes}
use Rattle.hb_inbound.proofs.DialsRun.{runs_dial}
use Rattle.hb_inbound.proofs.EndsRun.{end}
use Rattle.hb_inbound.proofs.NotesRun.{notes_told}
use Rattle.hb_inbound.proofs.RingsRun.{runs_fit_rings}
use Rattle.hb_inbound.proofs.Runs.{obey_connections}
use Rattle.hb_inbound.proofs.VerdictRun.{answers}
use Rattle.hb_inbound.proofs.WindowsRun.{obey_windows}
use Rattle.hb_proxy.specs.Held.{at_start}
use Rattle.hb_proxy.specs.Laws.{RunsObeyLinks}
use Rattle.hb_proxy.specs.Machine.{local}
use Rattle.hb_proxy.specs.Points.{parts_of}
use Rattle.hb_proxy.proofs.Projection.{links_run}

pub obey_links : RunsObeyLinks
obey_links g x points l stands =
    let runs = links_run g x points l stands in
    record {
      connection = obey_connections l (at_start g) (local x l) (parts_of l points) runs;
      windows = obey_windows l (at_start g) (local x l) (parts_of l points) runs;
      rings = (runs_fit_rings l (at_start g) (local x l) (parts_of l points) runs).1;
      ends = end l (at_start g) (local x l) (parts_of l points) runs;
      closes = closes l (at_start g) (local x l) (parts_of l points) runs;
      verdicts = answers l (at_start g) (local x l) (parts_of l points) runs;
      dials = runs_dial l (at_start g) (local x l) (parts_of l points) runs;
      notes = notes_told l (at_start g) (local x l) (parts_of l points) runs;
    }
