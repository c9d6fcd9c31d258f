-- DATA fits both windows where it begins, in every run.
use Rattle.std.proofs.Common.{◌≡◌, inl, inr, ℕ, List, ◌++◌, length, ap, sym, ◌∙◌}
use Rattle.hb_streams.specs.declared.role.Role.TheVariants.{Client}
use Rattle.hb_conn.specs.Observed.{output}
use Rattle.hb_history.proofs.Fitting.{data_fits}
use Rattle.hb_world.specs.Trace.{recv, sent}
use Rattle.hb_world.specs.declared.entry.Entry.{Entry}
use Rattle.hb_world.specs.declared.entry.Entry.TheVariants as e
use Rattle.hb_model.specs.declared.config.NodeConfig.{NodeConfig}
use Rattle.hb_model.specs.Discovery.{Phase}
use Rattle.hb_model.specs.Machine.{Machine}
use Rattle.hb_model.specs.Point.{Point, entries, moves, tellings}
use Rattle.hb_model.specs.Runs.{output_by, MayCome, StandsFor}
use Rattle.hb_model.specs.Windows.{GoesWithin, WindowsAt}
use Rattle.hb_model.specs.Laws.{RunsObeyWindows}
use Rattle.hb_model.proofs.Places.{at_entries}
use Rattle.hb_model.proofs.ConnectionsRun.{all_one}

goes_within : (g : NodeConfig) (m : Machine) (before : List Point) (l : ℕ) (bytes rest : List ℕ) → StandsFor g m before
    → output (m.links l).conn ≡ bytes ++ rest → GoesWithin before l bytes
goes_within g m before l bytes rest stands is =
    let one = all_one g m before stands l in
    record {
      conn = (m.links l).conn;
      stands = one.stands;
      rest = rest;
      first = is;
      fit =
          data_fits Client (moves l before) (tellings l before) (recv l (entries before)) (sent l (entries before))
          (m.links l).conn one.stands
          (length bytes);
    }

goes : (g : NodeConfig) (m : Machine) (before : List Point) (x : Entry) → StandsFor g m before → MayCome g m x → WindowsAt before x
goes g m before (e.Went l bytes) stands (inl may, some, rest) =
    λ control. goes_within g m before l bytes rest.0 stands (sym (ap (λ (phase : Phase). output_by phase (m.links l)) may.1) ∙ rest.1)
goes g m before (e.Went l bytes) stands (inr may, some, rest) =
    λ control. goes_within g m before l bytes rest.0 stands (sym (ap (λ (phase : Phase). output_by phase (m.links l)) may.1) ∙ rest.1)
goes g m before (e.Accepted l door) stands may = tt
goes g m before (e.Dialled l to why) stands may = tt
goes g m before (e.DialFailed to why) stands may = tt
goes g m before (e.Opened l) stands may = tt
goes g m before (e.Came l bytes) stands may = tt
goes g m before (e.Ended l) stands may = tt
goes g m before (e.Broke l) stands may = tt
goes g m before (e.Balked way) stands may = tt
goes g m before (e.Shut l) stands may = tt
goes g m before (e.Closed l cause) stands may = tt
goes g m before e.Tick stands may = tt
goes g m before (e.Wait ready way) stands may = tt

pub obey_windows : RunsObeyWindows
obey_windows g m points stands = at_entries g WindowsAt (λ n before x before_stands may. goes g n before x before_stands may) m points
    stands
