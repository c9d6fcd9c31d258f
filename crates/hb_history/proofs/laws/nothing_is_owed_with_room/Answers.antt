use Rattle.hb_history.proofs.CatchUp.{looks_keep_up, finds_keep_up, calls_catch_up}
use Rattle.hb_history.proofs.laws.nothing_is_owed_with_room.Goals as goal

pub returns : goal.returns
returns c = record { looks = looks_keep_up; finds = finds_keep_up; calls = calls_catch_up }
