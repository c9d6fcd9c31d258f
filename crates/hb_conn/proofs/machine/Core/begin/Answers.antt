use Rattle.std.proofs.Common.{ap, sym, ◌∙◌, subst}
use Rattle.std.specs.Prelude.{IsTrue}
use Rattle.hb_streams.specs.Sides.{sides_of}
use Rattle.hb_streams.specs.States.{States, state_of}
use Rattle.hb_conn.specs.declared.machine.Core.{Core}
use Rattle.hb_conn.proofs.Begun.{own_is_open}
use Rattle.hb_conn.proofs.machine.Core.begin.Goals as goal

pub returns-clause-open : goal.returns-clause-open
returns-clause-open c =
    let old = c.args.self.now in
    let stream = c.in_ok-stream.stream in
    let streams = ap (λ (m : Core). m.streams) c.in_ok-register.ensures ∙ c.in_ok-stream.ensures.after in
    subst (λ (s : States). IsTrue (sides_of (state_of s stream)).own) (sym streams)
    (own_is_open old.streams old.peer.streams stream c.in_ok-stream.ensures.told)
