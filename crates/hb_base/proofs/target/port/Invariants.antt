use Rattle.std.proofs.Common.{◌≡◌, ◌<◌, ◌^◌, true, take}
use Rattle.std.specs.List.{list_all}
use Rattle.hb_base.specs.Decimal.{is_digit, decimal_value}
use Rattle.hb_base.proofs.target.port.Given as goal

abbrev pub invariant-loop-b : goal.invariant-loop-b
invariant-loop-b l = record {
  value : l.value ≡ decimal_value (take l.b-index l.text);
  digits : list_all is_digit (take l.b-index l.text) ≡ true;
  below : l.value < 10 ^ l.b-index;
}
