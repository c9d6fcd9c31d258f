use Rattle.std.proofs.Common.{◌≡◌, ℕ, take}
use Rattle.hb_report.specs.Tally.{tally_of}
use Rattle.hb_report.specs.Tallies.{tally_in}
use Rattle.hb_report.proofs.tallies.Tallies.of.Given as goal

abbrev pub invariant-loop-entry : goal.invariant-loop-entry
invariant-loop-entry l = (link : ℕ) → tally_in l.tallies link ≡ tally_of link (take l.entry-index l.trace)
