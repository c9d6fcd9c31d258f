use Rattle.std.proofs.Common.{rules, ◌≡◌, ℕ, Option, Some, None, sym, subst}
use Rattle.std.specs.FinMap.{get}
use Rattle.hb_relays.specs.Pumping.{LivesAt}
use Rattle.hb_relays.proofs.PumpedLink.{lives_away, lives_not, lives_at}
use Rattle.hb_relays.proofs.relays.Relays.stream_of.Goals as goal

pub returns-in_err-relay : goal.returns-in_err-relay
returns-in_err-relay c =
    let none : get c.args.self.now.relays c.args.link ≡ None = search rules in
    subst (λ (o : Option (ℕ × ℕ)). LivesAt c.args.link c.args.self.now o) (sym c.from_residual.ensures)
    (lives_away c.args.self.now c.args.link none)

pub returns-then-not-lives_on_stream : goal.returns-then-not-lives_on_stream
returns-then-not-lives_on_stream c =
    let found : get c.args.self.now.relays c.args.link ≡ Some c.in_ok-relay.relay.now = search rules in
    lives_not c.args.self.now c.args.link c.in_ok-relay.relay.now found c.lives_on_stream.result c.lives_on_stream.ensures
    c.if-not-lives_on_stream.true

pub returns : goal.returns
returns c =
    let found : get c.args.self.now.relays c.args.link ≡ Some c.in_ok-relay.relay.now = search rules in
    lives_at c.args.self.now c.args.link c.in_ok-relay.relay.now found c.lives_on_stream.result c.lives_on_stream.ensures
    c.if-not-lives_on_stream.false c.stream.result c.stream.ensures
