use Rattle.std.proofs.Common.{◌≡◌, true, ap, sym, subst, ◌∙◌}
use Rattle.hb_conn.specs.Connection.{Connection}
use Rattle.hb_conn.specs.Observed.{sides, IsActiveOn}
use Rattle.hb_streams.specs.declared.sides.Sides.{Sides}
use Rattle.hb_link.proofs.Refuses.{refused_active}
use Rattle.hb_link.proofs.refusing.refuse.Goals as goal

pub put_reset-requires : goal.put_reset-requires
put_reset-requires c =
    let open_still : (sides c.args.conn.now c.args.stream).peer ≡ true =
    sym (ap (λ (w : Sides). w.peer) c.sides-resets.ensures) ∙ c.if-resets.true in
    subst (λ (d : Connection). IsActiveOn d c.args.stream) (sym c.put_status.ensures)
    (refused_active c.args.conn.now c.args.stream c.args.status open_still)
