use Rattle.std.proofs.Common.{◌≡◌, min, ℕ, [], ◌∷◌, Some, is_some, refl, sym, ap, ap₂, subst, ◌∙◌, true, false}
use Rattle.std.specs.FinMap.{insert}
use Rattle.hb_base.specs.declared.cause.Cause.TheVariants as cause
use Rattle.hb_base.specs.declared.note.Note.TheVariants as note
use Rattle.hb_conn.specs.Connection.{Connection}
use Rattle.hb_conn.specs.Observed.{credited}
use Rattle.hb_tunnel.specs.Tunnel.{Ways}
use Rattle.hb_inbound.specs.Calm.{is_done_on}
use Rattle.hb_map.proofs.Laws.{written_where_some}
use Rattle.hb_world.specs.declared.entry.Entry.TheVariants as e
use Rattle.hb_link.specs.declared.tunnel.Stage.TheVariants.{Over}
use Rattle.hb_link.specs.declared.tunnel.Tunnel.{Tunnel}
use Rattle.hb_link.specs.Calls.{UpEnters}
use Rattle.hb_link.specs.Noted.{Takes}
use Rattle.hb_link.specs.Tunnels.{tunnel_of}
use Rattle.hb_link.proofs.Moving.{Map, link_with}
use Rattle.hb_link.proofs.Writing.{wrote_here, over_at, credit_back, wrote_some, wrote_all}
use Rattle.hb_link.proofs.Quiet.{Quiet, quiet_by, wrote_quiet}
use Rattle.hb_link.proofs.Rousing.{rouses_put, rouses_same}
use Rattle.hb_link.proofs.link.Link.up_wrote.Goals as goal

pub returns-then-is_done-clause-goes : goal.returns-then-is_done-clause-goes
returns-then-is_done-clause-goes g c = λ u bytes size.
    let k = c.args.self.now in
    let s = c.args.stream in
    let n = c.args.n in
    let old = c.in-Some.tunnel.now in
    let base : Tunnel = record old { ways = c.took_up.new.self; went_up = c.saturating_add-tunnel.result } in
    let base_is : base ≡ wrote_here n old =
    ap₂ (λ (ways : Ways) (w : ℕ). record old { ways = ways; went_up = w }) c.took_up.ensures c.saturating_add-tunnel.ensures in
    let conn_is : c.credit.new.self ≡ credit_back s n k.conn =
    c.credit.ensures ∙ ap (credited k.conn s) (c.min-given.ensures ∙ ap (min n) c.creditable-most.ensures) in
    let test = sym (c.is_done.ensures ∙ ap₂ (λ (d : Connection) (t : Tunnel). is_done_on d s (tunnel_of t)) conn_is base_is) in
    let told = g.N.Notes.told c.args.notes.now in
    let new : Tunnel = record base { stage = Over cause.Done } in
    let is = c.at.follows.holds new ∙ written_where_some k.tunnels s new (ap is_some c.in-Some.ensures.value)
    ∙ ap (λ (t : Tunnel). insert k.tunnels s (record t { stage = Over cause.Done })) base_is in
    let now = g.N.Notes.told c.end.new.self in
    let took = subst (λ (t : Tunnel). Takes told (note.End k.number s cause.Done t.went_up t.went_down ∷ []) now) base_is
    c.end.ensures in
    let ends = wrote_all k s old told c.in-Some.ensures.value u bytes now
    (subst (λ (i : ℕ). Takes told (note.End k.number s cause.Done (wrote_here i old).went_up old.went_down ∷ []) now) (sym size) took)
    (subst (λ (i : ℕ). is_done_on (credit_back s i k.conn) s (tunnel_of (wrote_here i old)) ≡ true) (sym size)
    (test ∙ c.if-is_done.true)) in
    let at_size = subst (λ (i : ℕ). UpEnters s (e.Went u bytes) k told
    (link_with (credit_back s i k.conn) (insert k.tunnels s (over_at i old)) k) now) size ends in
    subst (λ (tunnels : Map). UpEnters s (e.Went u bytes) k told (link_with c.credit.new.self tunnels k) now) (sym is)
    (subst (λ (d : Connection). UpEnters s (e.Went u bytes) k told (link_with d (insert k.tunnels s (over_at n old)) k) now)
    (sym conn_is) at_size)

pub returns-else-is_done-clause-goes : goal.returns-else-is_done-clause-goes
returns-else-is_done-clause-goes g c = λ u bytes size.
    let k = c.args.self.now in
    let s = c.args.stream in
    let n = c.args.n in
    let old = c.in-Some.tunnel.now in
    let base : Tunnel = record old { ways = c.took_up.new.self; went_up = c.saturating_add-tunnel.result } in
    let base_is : base ≡ wrote_here n old =
    ap₂ (λ (ways : Ways) (w : ℕ). record old { ways = ways; went_up = w }) c.took_up.ensures c.saturating_add-tunnel.ensures in
    let conn_is : c.credit.new.self ≡ credit_back s n k.conn =
    c.credit.ensures ∙ ap (credited k.conn s) (c.min-given.ensures ∙ ap (min n) c.creditable-most.ensures) in
    let test = sym (c.is_done.ensures ∙ ap₂ (λ (d : Connection) (t : Tunnel). is_done_on d s (tunnel_of t)) conn_is base_is) in
    let told = g.N.Notes.told c.args.notes.now in
    let is = c.at.follows.holds base ∙ written_where_some k.tunnels s base (ap is_some c.in-Some.ensures.value)
    ∙ ap (λ (t : Tunnel). insert k.tunnels s t) base_is in
    let goes = wrote_some k s old told c.in-Some.ensures.value u bytes
    (subst (λ (i : ℕ). is_done_on (credit_back s i k.conn) s (tunnel_of (wrote_here i old)) ≡ false) (sym size)
    (test ∙ c.if-is_done.false)) in
    let at_size = subst (λ (i : ℕ). UpEnters s (e.Went u bytes) k told
    (link_with (credit_back s i k.conn) (insert k.tunnels s (wrote_here i old)) k) told) size goes in
    subst (λ (tunnels : Map). UpEnters s (e.Went u bytes) k told (link_with c.credit.new.self tunnels k) told) (sym is)
    (subst (λ (d : Connection). UpEnters s (e.Went u bytes) k told (link_with d (insert k.tunnels s (wrote_here n old)) k) told)
    (sym conn_is)
    at_size)

pub returns-then-n-eq0-clause-rouses : goal.returns-then-n-eq0-clause-rouses
returns-then-n-eq0-clause-rouses g c = rouses_same c.args.self.now c.args.self.now refl refl

pub returns-in_default-clause-rouses : goal.returns-in_default-clause-rouses
returns-in_default-clause-rouses g c = rouses_same c.args.self.now _ refl c.at.follows.holds-at-none

pub returns-then-is_done-clause-rouses : goal.returns-then-is_done-clause-rouses
returns-then-is_done-clause-rouses g c =
    let k = c.args.self.now in
    let s = c.args.stream in
    let old = c.in-Some.tunnel.now in
    let new : Tunnel = record old {
      ways = c.took_up.new.self;
      went_up = c.saturating_add-tunnel.result;
      stage = Over cause.Done;
    } in
    rouses_put k _ s old new c.in-Some.ensures.value refl
    (c.at.follows.holds new ∙ written_where_some k.tunnels s new (ap is_some c.in-Some.ensures.value))
    (quiet_by (Some old) new refl refl)

pub returns-else-is_done-clause-rouses : goal.returns-else-is_done-clause-rouses
returns-else-is_done-clause-rouses g c =
    let k = c.args.self.now in
    let s = c.args.stream in
    let old = c.in-Some.tunnel.now in
    let new : Tunnel = record old { ways = c.took_up.new.self; went_up = c.saturating_add-tunnel.result } in
    rouses_put k _ s old new c.in-Some.ensures.value refl
    (c.at.follows.holds new ∙ written_where_some k.tunnels s new (ap is_some c.in-Some.ensures.value))
    (subst (λ (ways : Ways). Quiet (Some old) (Some (record old { ways = ways; went_up = c.saturating_add-tunnel.result })))
    (sym c.took_up.ensures) (wrote_quiet old c.args.n c.saturating_add-tunnel.result))
