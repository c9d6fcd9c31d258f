use Rattle.std.proofs.Common.{◌≡◌, ◌++◌}
use Rattle.std.specs.List.{flat_map}
use Rattle.hb_wire.specs.Writing.{bytes_of}
use Rattle.hb_disco.specs.Request.{entry_of}
use Rattle.hb_disco.proofs.request.put_versions.Given as goal

abbrev pub invariant-loop-name : goal.invariant-loop-name
invariant-loop-name l =
    l.out.items ≡ l.initial.out.items ++ flat_map (λ e. bytes_of 5 (entry_of (e.0.now.now, e.1.now.now))) l.yielded
