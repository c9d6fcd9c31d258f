use Rattle.std.proofs.Common.{rules, ◌≡◌, ◌+◌, [], ◌∷◌, is_some, refl, sym, ap, ap₂, subst, ◌∙◌, true, false, Option, Some}
use Rattle.std.specs.Prelude.{⊤}
use Rattle.std.specs.FinMap.{insert}
use Rattle.hb_base.specs.declared.cause.Cause.TheVariants as cause
use Rattle.hb_base.specs.declared.note.Note.TheVariants as note
use Rattle.hb_conn.specs.Connection.{Connection}
use Rattle.hb_inbound.specs.Calm.{is_done_on}
use Rattle.hb_map.proofs.Laws.{written_where_some}
use Rattle.hb_link.specs.declared.tunnel.Stage.TheVariants.{Over}
use Rattle.hb_link.specs.declared.tunnel.Tunnel.{Tunnel}
use Rattle.hb_link.specs.Noted.{Takes}
use Rattle.hb_link.specs.Putting.{bytes_put, conn_bytes, end_counted, conn_finished, lives_in, PutsBelow}
use Rattle.hb_link.specs.Settling.{AlwaysSettles, SettlesBy}
use Rattle.hb_link.specs.Tunnels.{tunnel_of}
use Rattle.hb_link.proofs.Maps.{put_same}
use Rattle.hb_link.proofs.Moving.{Map, link_with}
use Rattle.hb_link.proofs.PutsOn.{none_on, other_on, some_on, last_on, is_live_here}
use Rattle.hb_link.proofs.Settles.{stays}
use Rattle.hb_link.proofs.Quiet.{Quiet, quiet_by, none_put_quiet}
use Rattle.hb_link.proofs.Rousing.{rouses_same, rouses_some}
use Rattle.hb_link.proofs.Still.{settles_still, below_still}
use Rattle.hb_link.proofs.link.Link.put_on.Goals as goal

pub returns-in_default-clause-settles : goal.returns-in_default-clause-settles
returns-in_default-clause-settles g c = λ from limits.
    let k = c.args.self.now in
    let s = c.args.stream in
    let told = g.N.Notes.told c.args.notes.now in
    subst (λ (tunnels : Map). SettlesBy limits (λ held. ⊤) (PutsBelow from s) (PutsBelow from (s + 1)) k told
    (link_with k.conn tunnels k) told) (sym c.at.follows.holds-at-none)
    (stays limits (λ held. ⊤) (PutsBelow from s) (PutsBelow from (s + 1)) k told (none_on from k s c.in_default.ensures.none))

pub returns-then-not-lives-clause-settles : goal.returns-then-not-lives-clause-settles
returns-then-not-lives-clause-settles g c = λ from limits.
    let k = c.args.self.now in
    let s = c.args.stream in
    let old = c.in-Some.tunnel.now in
    let told = g.N.Notes.told c.args.notes.now in
    let never : lives_in old.stage ≡ false = search rules in
    let is = c.at.follows.holds old ∙ written_where_some k.tunnels s old (ap is_some c.in-Some.ensures.value)
    ∙ put_same k.tunnels s old c.in-Some.ensures.value in
    subst (λ (tunnels : Map). SettlesBy limits (λ held. ⊤) (PutsBelow from s) (PutsBelow from (s + 1)) k told
    (link_with k.conn tunnels k) told) (sym is)
    (stays limits (λ held. ⊤) (PutsBelow from s) (PutsBelow from (s + 1)) k told
    (other_on from k s old c.in-Some.ensures.value never))

pub returns-then-is_done-clause-settles : goal.returns-then-is_done-clause-settles
returns-then-is_done-clause-settles g c = λ from limits.
    let k = c.args.self.now in
    let s = c.args.stream in
    let old = c.in-Some.tunnel.now in
    let told = g.N.Notes.told c.args.notes.now in
    let one = bytes_put k.conn s old in
    let mid = conn_bytes k.conn s old in
    let two = end_counted mid s one in
    let two_is : c.finish.new.self ≡ two =
    c.finish.ensures.tunnel
    ∙ ap₂ (λ (d : Connection) (w : Tunnel). end_counted d s w) c.put_bytes-count.ensures.conn c.put_bytes-count.ensures.tunnel in
    let conn_is : c.finish.new.conn ≡ conn_finished mid s one =
    c.finish.ensures.conn
    ∙ ap₂ (λ (d : Connection) (w : Tunnel). conn_finished d s w) c.put_bytes-count.ensures.conn c.put_bytes-count.ensures.tunnel in
    let test = sym (c.is_done.ensures ∙ ap₂ (λ (d : Connection) (w : Tunnel). is_done_on d s (tunnel_of w)) conn_is two_is) in
    let live = is_live_here old.stage (let lives : lives_in old.stage ≡ true = search rules in lives) in
    let new : Tunnel = record c.finish.new.self { stage = Over cause.Done } in
    let is = c.at.follows.holds new ∙ written_where_some k.tunnels s new (ap is_some c.in-Some.ensures.value)
    ∙ ap (λ (w : Tunnel). insert k.tunnels s (record w { stage = Over cause.Done })) two_is in
    let now = g.N.Notes.told c.end.new.self in
    let took = subst (λ (w : Tunnel). Takes told (note.End k.number s cause.Done w.went_up w.went_down ∷ []) now) two_is c.end.ensures in
    settles_still limits (λ held. ⊤) (PutsBelow from s) (PutsBelow from (s + 1)) k _ c.went.new.self told now
    (λ x at. below_still _ c.went.new.self x from (s + 1) at)
    (subst (λ (tunnels : Map). AlwaysSettles (PutsBelow from s) (PutsBelow from (s + 1)) k told (link_with c.finish.new.conn tunnels k) now)
    (sym is)
    (subst (λ (d : Connection). AlwaysSettles (PutsBelow from s) (PutsBelow from (s + 1)) k told
    (link_with d (insert k.tunnels s (record two { stage = Over cause.Done })) k) now) (sym conn_is)
    (last_on from k s old told c.in-Some.ensures.value live now took (test ∙ c.if-is_done.true))) limits)

pub returns-else-is_done-clause-settles : goal.returns-else-is_done-clause-settles
returns-else-is_done-clause-settles g c = λ from limits.
    let k = c.args.self.now in
    let s = c.args.stream in
    let old = c.in-Some.tunnel.now in
    let told = g.N.Notes.told c.args.notes.now in
    let one = bytes_put k.conn s old in
    let mid = conn_bytes k.conn s old in
    let two = end_counted mid s one in
    let two_is : c.finish.new.self ≡ two =
    c.finish.ensures.tunnel
    ∙ ap₂ (λ (d : Connection) (w : Tunnel). end_counted d s w) c.put_bytes-count.ensures.conn c.put_bytes-count.ensures.tunnel in
    let conn_is : c.finish.new.conn ≡ conn_finished mid s one =
    c.finish.ensures.conn
    ∙ ap₂ (λ (d : Connection) (w : Tunnel). conn_finished d s w) c.put_bytes-count.ensures.conn c.put_bytes-count.ensures.tunnel in
    let test = sym (c.is_done.ensures ∙ ap₂ (λ (d : Connection) (w : Tunnel). is_done_on d s (tunnel_of w)) conn_is two_is) in
    let live = is_live_here old.stage (let lives : lives_in old.stage ≡ true = search rules in lives) in
    let is = c.at.follows.holds c.finish.new.self
    ∙ written_where_some k.tunnels s c.finish.new.self (ap is_some c.in-Some.ensures.value)
    ∙ ap (λ (w : Tunnel). insert k.tunnels s w) two_is in
    settles_still limits (λ held. ⊤) (PutsBelow from s) (PutsBelow from (s + 1)) k _ c.went.new.self told told
    (λ x at. below_still _ c.went.new.self x from (s + 1) at)
    (subst (λ (tunnels : Map). AlwaysSettles (PutsBelow from s) (PutsBelow from (s + 1)) k told (link_with c.finish.new.conn tunnels k) told)
    (sym is)
    (subst (λ (d : Connection). AlwaysSettles (PutsBelow from s) (PutsBelow from (s + 1)) k told
    (link_with d (insert k.tunnels s two) k) told) (sym conn_is)
    (some_on from k s old told c.in-Some.ensures.value live (test ∙ c.if-is_done.false))) limits)

pub returns-in_default-clause-rouses : goal.returns-in_default-clause-rouses
returns-in_default-clause-rouses g c = rouses_same c.args.self.now _ refl c.at.follows.holds-at-none

pub returns-then-not-lives-clause-rouses : goal.returns-then-not-lives-clause-rouses
returns-then-not-lives-clause-rouses g c =
    let k = c.args.self.now in
    let s = c.args.stream in
    let old = c.in-Some.tunnel.now in
    rouses_same k _ refl
    (c.at.follows.holds old ∙ written_where_some k.tunnels s old (ap is_some c.in-Some.ensures.value)
    ∙ put_same k.tunnels s old c.in-Some.ensures.value)

pub returns-then-is_done-clause-rouses : goal.returns-then-is_done-clause-rouses
returns-then-is_done-clause-rouses g c =
    let k = c.args.self.now in
    let s = c.args.stream in
    let new : Tunnel = record c.finish.new.self { stage = Over cause.Done } in
    rouses_some k _ s c.put_bytes-count.result new c.went.ensures
    (c.at.follows.holds new ∙ written_where_some k.tunnels s new (ap is_some c.in-Some.ensures.value))
    (λ none. quiet_by _ new refl refl)

-- where none went it is as it was, but for its end
pub returns-else-is_done-clause-rouses : goal.returns-else-is_done-clause-rouses
returns-else-is_done-clause-rouses g c =
    let k = c.args.self.now in
    let s = c.args.stream in
    let old = c.in-Some.tunnel.now in
    let mid = c.put_bytes-count.new.conn in
    let new = c.finish.new.self in
    let new_is : new ≡ end_counted mid s (bytes_put k.conn s old) =
    c.finish.ensures.tunnel ∙ ap (end_counted mid s) c.put_bytes-count.ensures.tunnel in
    rouses_some k _ s c.put_bytes-count.result new c.went.ensures
    (c.at.follows.holds new ∙ written_where_some k.tunnels s new (ap is_some c.in-Some.ensures.value))
    (λ none. subst (λ (o : Option Tunnel). Quiet o (Some new)) (sym c.in-Some.ensures.value)
    (subst (λ (w : Tunnel). Quiet (Some old) (Some w)) (sym new_is)
    (none_put_quiet k.conn mid s old (sym c.put_bytes-count.ensures.count ∙ none))))
