-- The close of a link that is due.
use Rattle.std.proofs.Common.{◌≡◌, Some, refl, ap, ◌∙◌}
use Rattle.hb_base.specs.declared.cause.Cause.{Cause}
use Rattle.hb_world.specs.declared.act.Act.TheVariants as act
use Rattle.hb_gateway.specs.Calm as calm
use Rattle.hb_gateway.specs.Gateway.{Gateway, with_phase}
use Rattle.hb_gateway.specs.Gateway as m
use Rattle.hb_gate.specs.Calls.{Acts}
use Rattle.hb_gate.specs.Phases.{phase_of}
use Rattle.hb_gate.specs.declared.gate.Gate.{Gate}
use Rattle.hb_gate.specs.declared.phase.Phase.TheVariants.{Closed}

-- it counts as done
pub closes : (k : Gate) (why : Cause) → calm.close_due (phase_of k.phase) ≡ Some why
    → Acts (Some (act.Close k.number why)) k (record k { phase = Closed })
closes k why due = (
  refl,
  refl,
  λ x parts stands shows is_calm. record {
    next = with_phase m.closed x;
    steps = ((refl, is_calm, ap calm.close_due shows.phase ∙ due), refl);
    shows = record {
      key = shows.key;
      phase = refl;
      way = tt;
      away = shows.away;
      streams = shows.streams;
      numbered = shows.numbered;
    };
  },
)
