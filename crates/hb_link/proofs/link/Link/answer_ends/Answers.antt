use Rattle.std.proofs.Common.{◌+◌, Some, None, Option, subst}
use Rattle.hb_link.specs.Answering.{GotFailed, GotEnded, Gives}
use Rattle.hb_link.proofs.Turns.{ended_begin, ended_next, gives_then}
use Rattle.hb_link.proofs.link.Link.answer_ends.Goals as goal

pub loop-from-init : goal.loop-from-init
loop-from-init g c =
    ended_begin c.args.self.now (g.N.Notes.told c.args.notes.now) c.first_from-from.result c.first_from-from.ensures.first

pub loop-from-preserved : goal.loop-from-preserved
loop-from-preserved g c =
    let k = c.args.self.now in
    let told = g.N.Notes.told c.args.notes.now in
    let before = c.loop-from.self in
    let mid = g.N.Notes.told c.loop-from.notes in
    let after = c.answer_ended.new.self in
    let now = g.N.Notes.told c.answer_ended.new.notes in
    let s = c.in-Some.stream in
    let front = subst (λ (o : Option _). Gives (GotFailed None) (GotEnded o) k told before mid) c.in-Some.is c.loop-from.invariant in
    gives_then (GotFailed None) (GotEnded (Some (s + 1))) (GotEnded c.first_behind-from.result) k after after told now now
    (gives_then (GotFailed None) (GotEnded (Some s)) (GotEnded (Some (s + 1))) k before after told mid now front c.answer_ended.ensures)
    (ended_next after now (s + 1) c.first_behind-from.result c.first_behind-from.ensures)

pub returns : goal.returns
returns g c =
    subst (λ (o : Option _). Gives (GotFailed None) (GotEnded o) c.args.self.now (g.N.Notes.told c.args.notes.now) c.loop-from.self
    (g.N.Notes.told c.loop-from.notes)) c.in_default.is c.loop-from.invariant
