use Rattle.hb_world.proofs.TraceLemmas.{recv-grows, sent-grows, births-grow, lives-grows}
use Rattle.hb_world.proofs.laws.a_trace_grows.Goals as goal

pub returns : goal.returns
returns c = record { recv = recv-grows; sent = sent-grows; births = births-grow; lives = lives-grows }
