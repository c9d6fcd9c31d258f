use Rattle.std.proofs.Common.{◌+◌, Some, Option, subst}
use Rattle.hb_link.specs.Answering.{GotFailed, Gives}
use Rattle.hb_link.specs.Settling.{Agrees}
use Rattle.hb_link.proofs.Turns.{failed_begin, failed_next, gives_then}
use Rattle.hb_link.proofs.link.Link.answer_failures.Goals as goal

pub loop-from-init : goal.loop-from-init
loop-from-init g c =
    failed_begin c.args.self.now (g.N.Notes.told c.args.notes.now) c.first_from-from.result c.first_from-from.ensures.first

pub loop-from-preserved : goal.loop-from-preserved
loop-from-preserved g c =
    let k = c.args.self.now in
    let told = g.N.Notes.told c.args.notes.now in
    let before = c.loop-from.self in
    let mid = g.N.Notes.told c.loop-from.notes in
    let after = c.answer_failed.new.self in
    let now = g.N.Notes.told c.answer_failed.new.notes in
    let s = c.in-Some.stream in
    let front = subst (λ (o : Option _). Gives Agrees (GotFailed o) k told before mid) c.in-Some.is c.loop-from.invariant in
    gives_then Agrees (GotFailed (Some (s + 1))) (GotFailed c.first_behind-from.result) k after after told now now
    (gives_then Agrees (GotFailed (Some s)) (GotFailed (Some (s + 1))) k before after told mid now front c.answer_failed.ensures)
    (failed_next after now (s + 1) c.first_behind-from.result c.first_behind-from.ensures)

pub returns : goal.returns
returns g c =
    subst (λ (o : Option _). Gives Agrees (GotFailed o) c.args.self.now (g.N.Notes.told c.args.notes.now) c.loop-from.self
    (g.N.Notes.told c.loop-from.notes)) c.in_default.is c.loop-from.invariant
