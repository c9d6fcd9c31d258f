-- A run of the whole proxy obeys each law.
use Rattle.std.proofs.Common.{◌≡◌, List, [], ◌∷◌, ◌++◌, ◌∙◌, subst}
use Rattle.std.proofs.lemmas.List.{append-nil}
use Rattle.hb_model.specs.declared.config.NodeConfig.{NodeConfig}
use Rattle.hb_proxy.proofs.Access.{runs_admit}
use Rattle.hb_proxy.proofs.AccessEntries.{admit_entries}
use Rattle.hb_proxy.proofs.Control.{obey_entries, obey_control}
use Rattle.hb_proxy.proofs.Dials.{runs_dial}
use Rattle.hb_proxy.proofs.Ends.{runs_end}
use Rattle.hb_proxy.proofs.Gates.{obey_gates, runs_take}
use Rattle.hb_proxy.proofs.Links.{obey_links}
use Rattle.hb_proxy.proofs.Limits.{obey_limits}
use Rattle.hb_proxy.proofs.Own.{runs_own, runs_number, runs_dial_once}
use Rattle.hb_proxy.proofs.Places.{at_points}
use Rattle.hb_proxy.proofs.Plain.{plain_holds, obey_plain}
use Rattle.hb_proxy.proofs.Projection.{control_holds, links_hold}
use Rattle.hb_proxy.proofs.Relay.{runs_relay}
use Rattle.hb_proxy.proofs.Sides.{runs_share}
use Rattle.hb_proxy.specs.Machine.{Machine}
use Rattle.hb_proxy.specs.Points.{Point}
use Rattle.hb_proxy.specs.Runs.{StandsFor}
use Rattle.hb_laws.specs.Lawful.{Laws, RunsAreLawful}
use Rattle.hb_laws.proofs.ClosesRun.{runs_close}
use Rattle.hb_laws.proofs.Dialled.{runs_dial_gates}
use Rattle.hb_laws.proofs.Opens.{runs_read, runs_open}
use Rattle.hb_laws.proofs.Routes.{runs_route, runs_fit}

-- each front of a run is one
pub front_runs : (g : NodeConfig) (m : Machine) (points : List Point) → StandsFor g m points → (before after : List Point)
    → points ≡ before ++ after → (n : Machine) × StandsFor g n before
front_runs g m points stands before [] are =
    (m, subst (λ (ps : List Point). StandsFor g m ps) (are ∙ append-nil before) stands)
front_runs g m points stands before (p ∷ after) are =
    at_points g (λ ps q. (n : Machine) × StandsFor g n ps) (λ x y ps q runs steps. (x, runs)) m points stands before p after are

pub laws_at : (g : NodeConfig) (x : Machine) (points : List Point) → StandsFor g x points → Laws g points
laws_at g x points stands = record {
  upstreams = runs_dial_once g x points stands;
  sides = runs_share g x points stands;
  relay = runs_relay g x points stands;
  links = λ l. obey_links g x points l stands;
  plain = λ l. obey_plain g x points l stands;
  rings = λ l. runs_fit g x points l stands;
  gates = λ n. obey_gates g x points n stands;
  gate_closes = λ n. runs_close g x points n stands;
  gate_headers = λ n. runs_read g x points n stands;
  control = obey_control g x points stands;
  held = λ l. links_hold g x points l stands;
  plain_held = λ l. plain_holds g x points l stands;
}

-- the trace of a run is lawful
abbrev pub run_is_lawful : RunsAreLawful
run_is_lawful g x points trace stands is = record {
  machine = x;
  points = points;
  run = stands;
  trace_is = is;
  own = runs_own g x points stands;
  numbers = runs_number g x points stands;
  access = admit_entries g x points stands;
  parts_access = runs_admit g x points stands;
  ends = runs_end g x points stands;
  pool = runs_take g x points stands;
  gate_dials = runs_dial_gates g x points stands;
  routes = runs_route g x points stands;
  opens = runs_open g x points stands;
  limits = λ before after are. obey_limits g before;
  dials = runs_dial g x points stands;
  at_entries = obey_entries g x points stands;
  held = control_holds g x points stands;
  laws = λ before after are. let front = front_runs g x points stands before after are in laws_at g front.0 before front.1;
}
