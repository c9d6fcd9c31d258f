-- What the limits refuse, and what they let.
use Rattle.std.proofs.Common.{suc, true, false, List, refl, arith}
use Rattle.hb_base.specs.declared.cause.Cause.TheVariants as cause
use Rattle.hb_inbound.specs.Inbound.{fronting, closing, with_phase}
use Rattle.hb_inbound.specs.Part as part
use Rattle.hb_model.specs.declared.config.NodeConfig.{NodeConfig}
use Rattle.hb_proxy.specs.Limits.{FindsNoPlace, FindsPlaceBeyond, TurnsAwayFirst, WelcomesBeyond, TurnsAwayPlain, WelcomesPlainBeyond, RefusesWithNone, DialsGateBeyond}
use Rattle.hb_proxy.specs.Limits.{CountsEndless, CountsTwice, CountsNone, HasMoreLinks, HasMoreTunnels}
use Rattle.hb_proxy.specs.Limits.{LimitLaw, FindsPlace, FindsAllTaken, TurnsAwayBeyond, WelcomesLast}
use Rattle.hb_proxy.specs.Machine.{with_part}
use Rattle.hb_proxy.specs.Points.{Point}
use Rattle.hb_proxy.proofs.Counted.{counts_once}
use Rattle.hb_proxy.proofs.NeverFull.{never_more_tunnels}
use Rattle.hb_proxy.proofs.NeverMore.{never_more_links}

pub obey_limits : (g : NodeConfig) (points : List Point) → LimitLaw g points
obey_limits g points x stands = (never_more_links g x points stands, never_more_tunnels g x points stands)

-- STEPS THAT ARE REFUSED

pub finds_no_place : FindsNoPlace
finds_no_place g x y l s answer two few steps =
    let guard = steps.2 in let one = few guard.0 in let more = guard.1 in omega (arith, two, one, more)

pub finds_place_beyond : FindsPlaceBeyond
finds_place_beyond g x y l s bound answer all steps = let less = steps.2 bound in omega (arith, all, less)

pub turns_away_first : TurnsAwayFirst
turns_away_first g x y l most few steps =
    let guard = steps.2 in let one = few guard.0 in let more = guard.1 in omega (arith, most, one, more)

pub welcomes_beyond : WelcomesBeyond
welcomes_beyond g x y l bound most many steps = let less = steps.2 bound in omega (arith, most, many, less)

pub turns_away_plain : TurnsAwayPlain
turns_away_plain g x y l most few steps =
    let guard = steps.1 in let one = few guard.0 in let more = guard.1 in omega (arith, most, one, more)

pub welcomes_plain_beyond : WelcomesPlainBeyond
welcomes_plain_beyond g x y l bound most many steps = let less = steps.1 bound in omega (arith, most, many, less)

pub refuses_with_none : RefusesWithNone
refuses_with_none g x y l most none steps =
    let guard = steps.1.1 in let zero_there = none guard.0 in let more = guard.1 in omega (arith, most, zero_there, more)

pub dials_gate_beyond : DialsGateBeyond
dials_gate_beyond g x y n bound z key all steps = let less = steps.2.2 bound in omega (arith, all, less)

-- COUNTS THAT ARE NONE, AND ONE THAT IS

pub counts_endless : CountsEndless
counts_endless n to = let most = to.within (suc n) in omega (arith, most)

pub counts_twice : CountsTwice
counts_twice count one two = let same = counts_once count 1 2 one two in omega (arith, same)

pub counts_none : CountsNone
counts_none = record { within = λ bound. omega arith; bound = 0; whole = λ more far. omega arith }

pub has_more_links : HasMoreLinks
has_more_links g x bound one two within = let few = within bound in omega (arith, one, two, few)

pub has_more_tunnels : HasMoreTunnels
has_more_tunnels g x bound one two within = let few = within bound in omega (arith, one, two, few)

-- STEPS THAT MAY GO

pub finds_place : FindsPlace
finds_place g x l s answer next two few step = (
  with_part l (part.decided s false answer) next x,
  (next, step, λ bound. let one = few bound in omega (arith, two, one), refl),
)

pub finds_all_taken : FindsAllTaken
finds_all_taken g x l s bound answer next two taken step = (
  with_part l (part.decided s true answer) next x,
  (next, step, (bound, omega (arith, two, taken)), refl),
)

pub turns_away_beyond : TurnsAwayBeyond
turns_away_beyond g x l bound most many arriving =
    let next = with_phase (closing cause.NoRoom) (x.inbound l) in
    (with_part l part.crowded next x, (next, (arriving, refl), (bound, omega (arith, most, many)), refl))

pub welcomes_last : WelcomesLast
welcomes_last g x l most few arriving =
    let next = with_phase fronting (x.inbound l) in (
      with_part l part.welcomed next x,
      (next, (arriving, refl), λ bound. let all = few bound in omega (arith, most, all), refl),
    )
