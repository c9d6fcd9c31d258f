use Rattle.std.proofs.Common.{◌≡◌, ◌++◌, take}
use Rattle.std.specs.List.{flat_map}
use Rattle.hb_report.specs.Link.{birth_line}
use Rattle.hb_report.specs.Tallies.{tally_in}
use Rattle.hb_report.proofs.link.put_links.Given as goal

abbrev pub invariant-loop-entry : goal.invariant-loop-entry
invariant-loop-entry l =
    l.out.items ≡ l.initial.out.items ++ flat_map (birth_line (tally_in l.tallies)) (take l.entry-index l.trace)
