use Rattle.std.proofs.Common.{◌≡◌, ◌++◌, take, Some}
use Rattle.std.specs.Prelude.{map}
use Rattle.hb_held.specs.Few.{if_few}
use Rattle.hb_held.specs.Numbers.{number_of}
use Rattle.hb_held.proofs.few.Few.with_all.Given as goal

-- the numbers so far, which are at most eight
abbrev pub invariant-loop-ip : goal.invariant-loop-ip
invariant-loop-ip l =
    record {
      is : l.few ≡ l.fn.self ++ map number_of (take l.ip-index l.ips);
      few : if_few l.few ≡ Some l.few;
    }
