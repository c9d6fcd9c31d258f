use Rattle.std.proofs.Common.{rules, ◌≡◌, ℕ, Option, Some, None, sym, subst}
use Rattle.std.specs.FinMap.{get}
use Rattle.hb_gateway.specs.Keys.{key_as}
use Rattle.hb_base.specs.declared.target.Target.{Target}
use Rattle.hb_relays.specs.Joining.{MayAsk}
use Rattle.hb_relays.proofs.Joined.{asks_away, asks_unwanted, asks_full, asks_found}
use Rattle.hb_relays.proofs.relays.Relays.asks.Goals as goal

pub returns-in_err-relay : goal.returns-in_err-relay
returns-in_err-relay c =
    let none : get c.args.self.now.relays c.args.link ≡ None = search rules in
    subst (λ (o : Option (ℕ × Target)). MayAsk c.args.link c.args.self.now o) (sym c.from_residual.ensures)
    (asks_away c.args.self.now c.args.link none)

pub returns-in_err-key : goal.returns-in_err-key
returns-in_err-key c =
    let found : get c.args.self.now.relays c.args.link ≡ Some c.in_ok-relay.relay.now = search rules in
    subst (λ (o : Option (ℕ × Target)). MayAsk c.args.link c.args.self.now o) (sym c.from_residual-in_err-key.ensures)
    (asks_unwanted c.args.self.now c.args.link c.in_ok-relay.relay.now found c.in_err-key.ensures)

pub returns-in_err-number : goal.returns-in_err-number
returns-in_err-number c =
    let found : get c.args.self.now.relays c.args.link ≡ Some c.in_ok-relay.relay.now = search rules in
    subst (λ (o : Option (ℕ × Target)). MayAsk c.args.link c.args.self.now o) (sym c.from_residual-in_err-number.ensures)
    (asks_full c.args.self.now c.args.link c.in_ok-relay.relay.now found (key_as c.in_ok-key.key.now) c.in_ok-key.authority
    c.in_ok-key.ensures c.in_err-number.ensures)

pub returns : goal.returns
returns c =
    let found : get c.args.self.now.relays c.args.link ≡ Some c.in_ok-relay.relay.now = search rules in
    asks_found c.args.self.now c.args.link c.in_ok-relay.relay.now found (key_as c.in_ok-key.key.now) c.in_ok-key.authority
    c.in_ok-key.ensures c.in_ok-number.number c.in_ok-number.ensures
