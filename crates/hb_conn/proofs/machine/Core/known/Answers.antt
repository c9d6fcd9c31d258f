use Rattle.std.proofs.Common.{ℕ, ℤ, pos, ◌≤ℤ◌, SFits, w64, to_z-of_z, sym, subst, rules}
use Rattle.hb_outgoing.specs.declared.unbegun.Unbegun.{Unbegun}
use Rattle.hb_flow.specs.Sizes.{IsSizeLimit}
use Rattle.hb_conn.specs.Sizes.{FitsAll}
use Rattle.hb_conn.proofs.Pending.{under_the_limit}
use Rattle.hb_conn.proofs.machine.Core.known.Goals as goal

pub returns-clause-known : goal.returns-clause-known
returns-clause-known c =
    let self = c.args.self.now in
    let limit = c.size_limit.result in
    let fits : SFits w64 limit = search rules in
    let is = subst (λ (u : Unbegun). IsSizeLimit self.flow u.stream u.size limit) c.unbegun-unbegun.ensures c.size_limit.ensures in
    record {
      pending = c.requires.pending;
      limit = subst (λ (z : ℤ). (k : ℕ) → pos k ≤ℤ z → FitsAll self k) (sym (to_z-of_z fits)) (under_the_limit self limit is);
    }
