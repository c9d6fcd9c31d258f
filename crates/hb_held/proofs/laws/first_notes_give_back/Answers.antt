use Rattle.hb_held.proofs.Before.{first_gives_back, latest_is_refused, none_is_refused}
use Rattle.hb_held.proofs.laws.first_notes_give_back.Goals as goal

pub returns : goal.returns
returns c = record { first = first_gives_back; latest = latest_is_refused; none = none_is_refused }
