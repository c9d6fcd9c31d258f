use Rattle.std.proofs.Common.{◌<◌, length, arith, length-append, length-take, ◌++◌, take}
use Rattle.std.proofs.KnownBytes.{Consumes-trans}
use Rattle.hb_base.proofs.BytesLemmas.{longer_than}
use Rattle.hb_base.proofs.reading.read_all.Goals as goal

pub returns-then-n-limit-clause-taken : goal.returns-then-n-limit-clause-taken
returns-then-n-limit-clause-taken g c = (
  c.loop-bytes.bytes.items ++ take c.in-Got.n c.take.new.into,
  Consumes-trans _ _ _ _ _ c.loop-bytes.invariant.so_far
      c.in-Got.ensures.bytes.2,
)

pub returns-in_err-extend_from_slice-in-Got-clause-taken : goal.returns-in_err-extend_from_slice-in-Got-clause-taken
returns-in_err-extend_from_slice-in-Got-clause-taken g c = (
  c.loop-bytes.bytes.items ++ take c.in-Got.n c.take.new.into,
  Consumes-trans _ _ _ _ _ c.loop-bytes.invariant.so_far
      c.in-Got.ensures.bytes.2,
)

pub returns-then-n-limit-clause-over : goal.returns-then-n-limit-clause-over
returns-then-n-limit-clause-over g c =
    let bytes = c.loop-bytes.bytes.items in
    let chunk = c.take.new.into in
    let long : c.args.limit < length (bytes ++ take c.in-Got.n chunk) =
    omega (
      arith,
      length-append bytes (take c.in-Got.n chunk),
      length-take c.in-Got.n chunk,
      c.in-Got.ensures.bytes.1,
      c.if-n-limit.true,
      c.len.ensures,
      c.loop-bytes.bytes.ok.0,
    ) in
    λ told. (bytes ++ take c.in-Got.n chunk, long, Consumes-trans _ _ _ _ _ c.loop-bytes.invariant.so_far c.in-Got.ensures.bytes.2)

pub returns-then-n-limit-clause-too_long : goal.returns-then-n-limit-clause-too_long
returns-then-n-limit-clause-too_long g c =
    let bytes = c.loop-bytes.bytes.items in
    let chunk = c.take.new.into in
    let long : c.args.limit < length (bytes ++ take c.in-Got.n chunk) =
    omega (
      arith,
      length-append bytes (take c.in-Got.n chunk),
      length-take c.in-Got.n chunk,
      c.in-Got.ensures.bytes.1,
      c.if-n-limit.true,
      c.len.ensures,
      c.loop-bytes.bytes.ok.0,
    ) in
    λ told. longer_than _ _ (bytes ++ take c.in-Got.n chunk) c.args.limit
    (Consumes-trans _ _ _ _ _ c.loop-bytes.invariant.so_far c.in-Got.ensures.bytes.2) long
