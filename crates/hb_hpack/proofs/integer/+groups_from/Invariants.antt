use Rattle.hb_hpack.proofs.integer.+groups_from.Given as goal

abbrev pub decreases-groups_from : goal.decreases-groups_from
decreases-groups_from l = l.left
