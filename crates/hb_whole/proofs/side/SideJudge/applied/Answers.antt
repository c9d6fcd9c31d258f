use Rattle.hb_whole.proofs.side.SideJudge.applied.Goals as goal

pub returns : goal.returns
returns c = record {
  between = c.applied.new.notes;
  links = c.applied.ensures.meets;
  relays = c.applied-2.ensures.meets;
  counts = c.applied.ensures.counts;
  links_stir = c.applied.ensures.stirs;
  relays_stir = c.applied-2.ensures.stirs;
}
