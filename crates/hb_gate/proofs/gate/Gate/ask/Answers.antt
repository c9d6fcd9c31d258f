use Rattle.std.proofs.Common.{false, List, sym, ap, ◌∙◌, subst}
use Rattle.std.specs.FinMap.{get, insert}
use Rattle.hb_conn.specs.Connection.{core_of, with_core}
use Rattle.hb_conn.specs.Opening.{opened_with}
use Rattle.hb_hpack.specs.declared.header.Header.{Header}
use Rattle.hb_map.proofs.Laws.{removed_here}
use Rattle.hb_gate.specs.Calls.{Asks}
use Rattle.hb_gate.specs.Streams.{Map}
use Rattle.hb_gate.proofs.Asked.{asked_of, asks, next_few}
use Rattle.hb_gate.proofs.gate.Gate.ask.Goals as goal

pub add-requires : goal.add-requires
add-requires c =
    let k = c.args.self.now in
    let s = c.in-Ok.stream in record { new = ap (λ (m : Map). get m s) c.remove.ensures.rest ∙ removed_here k.streams s }

pub returns : goal.returns
returns c =
    let k = c.args.self.now in
    let s = c.in-Ok.stream in
    let conn = c.open.new.self in
    let next = c.in-Ok.ensures.told.0 in
    let is = c.open.ensures.rest
    ∙ ap (with_core k.conn)
    (c.in-Ok.ensures.told.1 ∙ ap (λ (hs : List Header). opened_with (core_of k.conn) s hs false) c.in_ok-headers.ensures.value) in
    subst (λ (m : Map). Asks s c.args.link c.args.authority k (record k { conn = conn; streams = m }))
    (sym (c.in_ok-add.ensures.ok ∙ ap (λ (m : Map). insert m s (asked_of c.args.link)) c.remove.ensures.rest))
    (asks k s c.args.link c.args.authority conn next (next_few k.conn s next) is)
