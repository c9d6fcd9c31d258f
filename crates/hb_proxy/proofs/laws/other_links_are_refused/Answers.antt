use Rattle.hb_proxy.proofs.SeenRefused.{up_unborn, shut_untold, open_unheard, keeps_closed, has_none}
use Rattle.hb_proxy.proofs.laws.other_links_are_refused.Goals as goal

pub returns : goal.returns
returns c = record { unborn = up_unborn; shut = shut_untold; opened = open_unheard; closed = keeps_closed; lives = has_none }
