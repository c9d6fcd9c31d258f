use Rattle.hb_route.proofs.Choice.{chooses_first, first_listed_refused, smallest_name_refused, no_choice_refused}
use Rattle.hb_route.proofs.laws.the_first_is_chosen.Goals as goal

pub returns : goal.returns
returns c =
    record { chosen = chooses_first; listed = first_listed_refused; named = smallest_name_refused; none = no_choice_refused }
