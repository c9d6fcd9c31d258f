use Rattle.std.proofs.Common.{Bool, sym, subst}
use Rattle.hb_relays.specs.Calls.{LastWords}
use Rattle.hb_relays.proofs.Observing.{last_words_are}
use Rattle.hb_relays.proofs.relays.Relays.last_words.Goals as goal

pub returns-clause-machine : goal.returns-clause-machine
returns-clause-machine c =
    subst (λ (r : Bool). LastWords c.args.self.now c.args.number r) (sym c.last_at.ensures) (last_words_are c.args.self.now c.args.number)
