use Rattle.std.proofs.Common.{rules, ◌≡◌, Ok}
use Rattle.hb_hpack.specs.declared.header.Header.{Header}
use Rattle.hb_hpack.specs.Reader.{octets, field, field_at}
use Rattle.hb_hpack.specs.StaticTable.{header}
use Rattle.hb_hpack.proofs.representation.add_field.Goals as goal

pub returns-then-first-ge128 : goal.returns-then-first-ge128
unfolding field_at
returns-then-first-ge128 c =
    let h : Header = header c.in_ok-name.name.now c.in_ok-name.value.now in
    let read : field_at c.args.table.now c.args.bytes.now ≡ Ok (field h c.args.table.now c.in_ok-name.rest.now) = search rules in
    (h, read, λ headers list. c.in_ok-add.ensures headers list)

pub returns : goal.returns
unfolding field_at
returns c =
    let h : Header = header (octets c.in_ok-name-2.name) (octets c.in_ok-name-2.value) in
    let read : field_at c.args.table.now c.args.bytes.now ≡ Ok (field h c.args.table.now c.in_ok-name-2.rest.now) = search rules in
    (h, read, λ headers list. c.in_ok-add-2.ensures headers list)
