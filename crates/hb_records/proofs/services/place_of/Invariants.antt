use Rattle.std.proofs.Common.{◌≡◌, ◌-◌, ◌≤◌, ◌++◌, length, take, drop}
use Rattle.hb_records.specs.Ports.{with_entry}
use Rattle.hb_records.proofs.services.place_of.Given as goal

abbrev pub invariant-loop-place : goal.invariant-loop-place
invariant-loop-place l = record {
  within : l.place ≤ length l.services;
  so_far : with_entry l.services l.entry ≡ take l.place l.services ++ with_entry (drop l.place l.services) l.entry;
}

abbrev pub decreases-loop-place : goal.decreases-loop-place
decreases-loop-place l = length l.services - l.place
