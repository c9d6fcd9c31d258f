use Rattle.std.proofs.Common.{◌≡◌, ◌++◌, take}
use Rattle.std.specs.List.{flat_map}
use Rattle.hb_hpack.specs.Fronts.{IsFrontOf}
use Rattle.hb_hpack.specs.Encoding.{header_of}
use Rattle.hb_hpack.proofs.encoder.put_headers.Given as goal

abbrev pub invariant-loop-h : goal.invariant-loop-h
invariant-loop-h l = record {
  written : l.out.items ≡ l.initial.out.items ++ flat_map (header_of l.spelling) (take l.h-index l.headers);
  grown : IsFrontOf l.initial.out.items l.out.items;
}
