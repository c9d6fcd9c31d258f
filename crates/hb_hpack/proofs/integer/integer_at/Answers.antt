use Rattle.std.proofs.Common.{◌≡◌, ◌%◌, ◌^◌, ◌<◌, ◌≤◌, ◌∙◌}
use Rattle.hb_hpack.specs.Reader.{integer_at, groups_from}
use Rattle.hb_hpack.specs.Integer.{full}
use Rattle.hb_hpack.proofs.Integers.{full_is, low_is, integer_within, integer_beyond}
use Rattle.hb_hpack.proofs.integer.integer_at.Goals as goal

pub returns-then-low-full : goal.returns-then-low-full
returns-then-low-full c =
    let low = low_is c.in-Some.byte.now c.args.prefix c.requires in
    let whole = full_is c.args.prefix c.requires in
    let lt : c.in-Some.byte.now % 2 ^ c.args.prefix < full c.args.prefix = rw (low, whole) at c.if-low-full.true in
    rw (c.in-Some.ensures.cases.0, c.from.ensures, low) (integer_within c.args.prefix c.in-Some.byte.now c.in-Some.rest.now lt)

pub returns : goal.returns
returns c =
    let low = low_is c.in-Some.byte.now c.args.prefix c.requires in
    let whole = full_is c.args.prefix c.requires in
    let le : full c.args.prefix ≤ c.in-Some.byte.now % 2 ^ c.args.prefix = rw (low, whole) at c.if-low-full.false in
    let is : integer_at c.args.prefix c.args.bytes.now ≡ groups_from 5 1 (full c.args.prefix) c.in-Some.rest.now =
    rw (c.in-Some.ensures.cases.0) (integer_beyond c.args.prefix c.in-Some.byte.now c.in-Some.rest.now le) in
    let number : c.from-2.result ≡ full c.args.prefix = c.from-2.ensures ∙ whole in
    rw (is, ← number) c.groups_from.ensures
