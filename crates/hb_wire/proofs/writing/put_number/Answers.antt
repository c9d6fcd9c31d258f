use Rattle.hb_wire.specs.WireType.{varint_type}
use Rattle.hb_wire.specs.Writing.{tag_of, varint_of}
use Rattle.hb_base.proofs.FrontLemmas.{front_first}
use Rattle.hb_wire.proofs.Written.{number_some}
use Rattle.hb_wire.proofs.writing.put_number.Goals as goal

pub returns-in_err-put_tag-clause-front : goal.returns-in_err-put_tag-clause-front
returns-in_err-put_tag-clause-front c =
    rw (number_some c.args.number c.args.v c.if-v-eq0.false)
    (front_first _ _ (tag_of c.args.number varint_type) (varint_of c.args.v) c.put_tag.ensures.front)
