use Rattle.hb_relay.proofs.StreamRefused.{asks_unwanted, lacks_unwanted, asks_twice, hears_unasked, brings_early}
use Rattle.hb_relay.proofs.laws.no_stream_comes_unasked.Goals as goal

pub returns : goal.returns
returns c =
    record { unwanted = asks_unwanted; lacks = lacks_unwanted; twice = asks_twice; hears = hears_unasked; early = brings_early }
