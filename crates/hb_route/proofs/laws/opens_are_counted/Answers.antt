use Rattle.hb_route.proofs.Counting.{more_steps, fewer_steps, sets_to_one_refused, keeps_one_name_refused}
use Rattle.hb_route.proofs.laws.opens_are_counted.Goals as goal

pub returns : goal.returns
returns c =
    record { more = more_steps; fewer = fewer_steps; first_alone = sets_to_one_refused; one_name = keeps_one_name_refused }
