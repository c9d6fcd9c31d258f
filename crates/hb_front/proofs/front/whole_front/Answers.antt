use Rattle.std.proofs.Common.{◌≡◌, ◌≤◌, length, Some, sym, ◌∙◌, arith}
use Rattle.std.specs.Prelude.{slice_index}
use Rattle.hb_front.specs.Header.{family_of}
use Rattle.hb_front.specs.Reading.{text_of}
use Rattle.hb_front.proofs.Heads.{clean}
use Rattle.hb_front.proofs.Whole.{parts_are, whole_read, whole_fault}
use Rattle.hb_front.proofs.front.whole_front.Goals as goal

pub returns-in-Err-clause-answer : goal.returns-in-Err-clause-answer
returns-in-Err-clause-answer c =
    let b = c.args.b.now in
    let f = c.in-Some.family in
    let enough : 16 ≤ length b = omega (arith, c.requires.whole) in
    let found : family_of (slice_index b 13) ≡ Some f = sym c.of.ensures ∙ c.in-Some.is in
    let head = clean b c.requires.head enough f found in
    let parts = parts_are f b c.pair_at.result c.address_len.result c.address_len-2.result c.split_at.result.0.now
    c.split_at.result.1.now c.split_at-2.result.0.now c.split_at-2.result.1.now c.split_at-3.result.0.now c.split_at-3.result.1.now
    head c.pair_at.ensures c.address_len.ensures c.address_len-2.ensures c.split_at.ensures.front c.split_at.ensures.back
    c.split_at-2.ensures.front c.split_at-2.ensures.back c.split_at-3.ensures.front c.split_at-3.ensures.back in
    whole_fault f b c.split_at.result.0.now c.split_at-2.result.0.now c.split_at-3.result.0.now c.split_at-3.result.1.now c.in-Err.fault
    c.requires.head c.requires.whole parts c.in-Err.ensures

pub returns-in-Ok-clause-answer : goal.returns-in-Ok-clause-answer
returns-in-Ok-clause-answer c =
    let b = c.args.b.now in
    let f = c.in-Some.family in
    let enough : 16 ≤ length b = omega (arith, c.requires.whole) in
    let found : family_of (slice_index b 13) ≡ Some f = sym c.of.ensures ∙ c.in-Some.is in
    let head = clean b c.requires.head enough f found in
    let parts = parts_are f b c.pair_at.result c.address_len.result c.address_len-2.result c.split_at.result.0.now
    c.split_at.result.1.now c.split_at-2.result.0.now c.split_at-2.result.1.now c.split_at-3.result.0.now c.split_at-3.result.1.now
    head c.pair_at.ensures c.address_len.ensures c.address_len-2.ensures c.split_at.ensures.front c.split_at.ensures.back
    c.split_at-2.ensures.front c.split_at-2.ensures.back c.split_at-3.ensures.front c.split_at-3.ensures.back in
    let told = c.in-Ok.ensures in
    whole_read f b c.split_at.result.0.now c.split_at-2.result.0.now c.split_at-3.result.0.now c.split_at-3.result.1.now
    c.ip_of.result c.ip_of-in-Ok.result c.pair_at-in-Ok.result c.pair_at-in-Ok-2.result c.pair_at.result (text_of c.in-Ok.identity) told.0
    (λ i. omega (arith, c.type_inv.b i)) head c.requires.whole parts told.1 told.2 c.ip_of.ensures c.ip_of-in-Ok.ensures
    c.pair_at-in-Ok.ensures c.pair_at-in-Ok-2.ensures c.pair_at.ensures
