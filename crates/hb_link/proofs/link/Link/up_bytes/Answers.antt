use Rattle.std.proofs.Common.{◌≡◌, ◌==◌, ◌&&◌, ℕ, ◌+◌, ◌-◌, List, [], ◌++◌, length, drop, take, Some, is_some, refl, sym, ap, subst, ◌∙◌, arith, length-drop}
use Rattle.std.proofs.lemmas.Bool.{false≢true}
use Rattle.std.proofs.lemmas.Bool.Decides.{nat_tests}
use Rattle.std.proofs.lemmas.List.{take_all}
use Rattle.std.specs.FinMap.{insert}
use Rattle.hb_conn.specs.Connection.{Connection}
use Rattle.hb_conn.specs.Observed.{own_side_open}
use Rattle.hb_map.proofs.Laws.{written_where_some}
use Rattle.hb_tunnel.specs.Tunnel.{Ways}
use Rattle.hb_world.specs.declared.entry.Entry.TheVariants as e
use Rattle.hb_link.specs.declared.phase.Phase.TheVariants.{Serving}
use Rattle.hb_link.specs.declared.tunnel.Tunnel.{Tunnel}
use Rattle.hb_link.specs.Calls.{UpEnters}
use Rattle.hb_link.specs.Observed.{serves_in}
use Rattle.hb_link.specs.Putting.{count_first}
use Rattle.hb_link.proofs.Coming.{came, with_down_here}
use Rattle.hb_link.proofs.Moving.{Map, link_with}
use Rattle.hb_link.proofs.Quiet.{Quiet, came_quiet}
use Rattle.hb_link.proofs.Rousing.{rouses_put, rouses_same}
use Rattle.hb_link.proofs.link.Link.up_bytes.Goals as goal
use Rattle.hb_link.proofs.link.Link.up_bytes.Goals.{then-serves, else-serves}

-- all room is left where nothing is held
room_is : (room held : ℕ) → room + held ≡ 16384 → (room == 16384) ≡ (held == 0)
room_is room held is = grind (arith, nat_tests, is)

pub returns-clause-enters : goal.returns-clause-enters
returns-clause-enters c = λ u.
    let k = c.args.self.now in
    let s = c.args.stream in
    let bytes = c.args.b.now in
    let old = c.in-Some.tunnel.now in
    let may = c.if-serves.put_first in
    let g = may && own_side_open k.conn s in
    let n = count_first g k.conn s bytes in
    let new : Tunnel = record old { ways = c.push_down.new.self } in
    let may_is : k.phase ≡ Serving → may ≡ (length old.ways.down.held == 0) = λ is. elim c.if-serves.branch [
      | then-serves w ↦ w.put_first-is ∙ room_is c.room_down-none_waits.result (length old.ways.down.held) c.room_down-none_waits.ensures
      | else-serves w ↦ absurd (false≢true (sym w.if-serves.false ∙ c.is_serving-serves.ensures ∙ ap serves_in is))
    ] in
    let slice : take (length bytes - c.put_first-n.result) (drop c.put_first-n.result bytes) ≡ drop n bytes =
    take_all (length bytes - c.put_first-n.result) (drop c.put_first-n.result bytes)
    (let all = length-drop c.put_first-n.result bytes in omega (arith, all))
    ∙ ap (λ (i : ℕ). drop i bytes) c.put_first-n.ensures.count in
    let tunnel : new ≡ with_down_here (old.ways.down.held ++ drop n bytes) old =
    ap (λ (ways : Ways). record old { ways = ways }) c.push_down.ensures
    ∙ ap (λ (bs : List ℕ). with_down_here (old.ways.down.held ++ bs) old) slice in
    let is = c.at.follows.holds new ∙ written_where_some k.tunnels s new (ap is_some c.in-Some.ensures.value)
    ∙ ap (λ (t : Tunnel). insert k.tunnels s t) tunnel in
    subst (λ (tunnels : Map). UpEnters s (e.Came u bytes) k (Some []) (link_with c.put_first-n.new.conn tunnels k) (Some [])) (sym is)
    (subst (λ (d : Connection). UpEnters s (e.Came u bytes) k (Some [])
    (link_with d (insert k.tunnels s (with_down_here (old.ways.down.held ++ drop n bytes) old)) k) (Some [])) (sym c.put_first-n.ensures.after)
    (came k s u bytes old g c.in-Some.ensures.value (λ is_serving. ap (λ b. b && own_side_open k.conn s) (may_is is_serving))))

pub returns-then-is_empty-clause-rouses : goal.returns-then-is_empty-clause-rouses
returns-then-is_empty-clause-rouses c = rouses_same c.args.self.now c.args.self.now refl refl

pub returns-in_default-clause-rouses : goal.returns-in_default-clause-rouses
returns-in_default-clause-rouses c = rouses_same c.args.self.now _ refl c.at.follows.holds-at-none

pub returns-clause-rouses : goal.returns-clause-rouses
returns-clause-rouses c =
    let k = c.args.self.now in
    let s = c.args.stream in
    let old = c.in-Some.tunnel.now in
    let new : Tunnel = record old { ways = c.push_down.new.self } in
    rouses_put k _ s old new c.in-Some.ensures.value refl
    (c.at.follows.holds new ∙ written_where_some k.tunnels s new (ap is_some c.in-Some.ensures.value))
    (subst (λ (ways : Ways). Quiet (Some old) (Some (record old { ways = ways }))) (sym c.push_down.ensures) (came_quiet old _))
