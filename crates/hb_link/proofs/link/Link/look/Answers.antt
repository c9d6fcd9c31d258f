use Rattle.std.proofs.Common.{◌≡◌, refl, ◌∙◌}
use Rattle.hb_link.proofs.Heard.{look_settles, look_falls}
use Rattle.hb_link.proofs.Lacking.{look_lacks}
use Rattle.hb_link.proofs.Rousing.{heard_rouses, rouses_same, rouses_then}
use Rattle.hb_link.proofs.link.Link.look.Goals as goal

pub returns-in-Ok-clause-settles : goal.returns-in-Ok-clause-settles
returns-in-Ok-clause-settles g c =
    let found = rw c.in-Ok.is at c.next_happening.follows.holds-at-none in
    look_settles c.args.self.now _ c.hear-heard.new.tunnels c.hear-heard.result found.0 c.in-Ok.told found.1 found.2
    c.hear-heard.ensures.heard c.args.others c.args.limit (λ h. h ≡ c.args.held.now) c.follow.result c.follow.new.self
    (g.N.Notes.told c.args.notes.now) (g.N.Notes.told c.follow.new.notes) c.hear-heard.ensures.after c.follow.ensures.settles

pub returns-in-Ok-clause-falls : goal.returns-in-Ok-clause-falls
returns-in-Ok-clause-falls g c =
    let found = rw c.in-Ok.is at c.next_happening.follows.holds-at-none in
    look_falls c.args.self.now _ c.hear-heard.new.tunnels c.hear-heard.result found.0 c.in-Ok.told found.1 found.2
    c.hear-heard.ensures.heard c.follow.result c.follow.new.self.conn found.3 c.follow.ensures.more c.follow.ensures.left

pub returns-in-Ok-clause-rouses : goal.returns-in-Ok-clause-rouses
returns-in-Ok-clause-rouses g c =
    let k = c.args.self.now in
    heard_rouses k.destination c.in-Ok.told k _ c.follow.new.self c.hear-heard.ensures.after refl c.follow.ensures.rouses
    (λ s is. c.follow.ensures.came s (c.hear-heard.ensures.heard ∙ is))

pub returns-in-Err-clause-settles : goal.returns-in-Err-clause-settles
returns-in-Err-clause-settles g c =
    let lacks = rw c.in-Err.is at c.next_happening.ensures.lacks in
    look_lacks c.args.others c.args.limit (λ h. h ≡ c.args.held.now) c.args.self.now _ lacks c.lack.new.self (g.N.Notes.told c.args.notes.now)
    (g.N.Notes.told c.lack.new.notes) c.lack.ensures.settles

pub returns-in-Err-clause-rouses : goal.returns-in-Err-clause-rouses
returns-in-Err-clause-rouses g c =
    let k = c.args.self.now in
    rouses_then k _ c.lack.new.self (rouses_same k _ refl refl) c.lack.ensures.rouses
