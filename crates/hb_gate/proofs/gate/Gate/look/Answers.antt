use Rattle.std.proofs.Common.{ap, ◌∙◌, subst, sym}
use Rattle.hb_gate.specs.Calls.{LooksLacking}
use Rattle.hb_gate.specs.Hearing.{look_of, Follows}
use Rattle.hb_gate.specs.declared.gate.Gate.{Gate}
use Rattle.hb_gate.specs.declared.looking.Told.{Told}
use Rattle.hb_gate.proofs.Ended.{lacks_memory}
use Rattle.hb_gate.proofs.Looked.{looks_so, look_falls}
use Rattle.hb_gate.proofs.gate.Gate.look.Goals as goal

pub returns-clause-looks : goal.returns-clause-looks
returns-clause-looks c =
    let found = rw c.in-Ok.is at c.next_happening.follows.holds-at-none in
    let k = c.args.self.now in
    let conn = c.next_happening.follows.lender-at-none in
    looks_so k conn found.0 c.in-Ok.told c.keep.new.bytes.items c.follow.result c.follow.new.self found.1 found.2 c.in_ok-keep.ensures
    (c.follow.ensures.look ∙ ap (λ (t : Told). look_of t k.streams) c.told_of-told.ensures)
    (subst (λ (t : Told). Follows t (record k { conn = conn }) c.follow.new.self) c.told_of-told.ensures c.follow.ensures.follows)

pub returns-clause-falls : goal.returns-clause-falls
returns-clause-falls c =
    let found = rw c.in-Ok.is at c.next_happening.follows.holds-at-none in
    let k = c.args.self.now in
    let conn = c.next_happening.follows.lender-at-none in
    look_falls k conn found.0 c.in-Ok.told c.follow.result c.follow.new.self found.2 found.3
    (c.follow.ensures.look ∙ ap (λ (t : Told). look_of t k.streams) c.told_of-told.ensures)
    (subst (λ (t : Told). Follows t (record k { conn = conn }) c.follow.new.self) c.told_of-told.ensures c.follow.ensures.follows)

pub returns-in-Err-clause-looks : goal.returns-in-Err-clause-looks
returns-in-Err-clause-looks c =
    let k = c.args.self.now in
    let lacks = rw c.in-Err.is at c.next_happening.ensures.lacks in
    subst (λ (n : Gate). LooksLacking k n) (sym c.lack.ensures.rest)
    (lacks_memory k _ c.lack.new.self.streams lacks c.lack.ensures.streams)
