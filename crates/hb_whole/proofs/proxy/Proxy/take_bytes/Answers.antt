use Rattle.std.proofs.Common.{◌≡◌, ℕ, Bool, OnOk, refl, sym, ◌∙◌, subst}
use Rattle.hb_links.specs.Calls.{Takes, counting}
use Rattle.hb_links.specs.Load.{others_of, LeavesPlaces, Recounts}
use Rattle.hb_links.specs.Stirring.{Stirs}
use Rattle.hb_node.specs.State.{EntersJudged}
use Rattle.hb_relays.specs.Calls as relays
use Rattle.hb_relays.specs.Stirring as relays_stirring
use Rattle.hb_turns.specs.Shown.{Tells}
use Rattle.hb_world.specs.declared.entry.Entry.TheVariants as e
use Rattle.hb_whole.specs.Judged.{Judges}
use Rattle.hb_whole.specs.Queue.{told}
use Rattle.hb_whole.specs.Sight.{has_room, shown_of}
use Rattle.hb_whole.specs.Stands.{Stands, config_of}
use Rattle.hb_whole.specs.declared.side.Side.{Side}
use Rattle.hb_whole.proofs.Free.{free}
use Rattle.hb_whole.proofs.Guards as link
use Rattle.hb_whole.proofs.Heard as control
use Rattle.hb_whole.proofs.Heard.{with_state, state_tells}
use Rattle.hb_whole.proofs.Limited.{leaves}
use Rattle.hb_whole.proofs.Outcomes.{if_ok, two_ok}
use Rattle.hb_whole.proofs.PlainGuards as plain
use Rattle.hb_whole.proofs.Routes.{is_owned}
use Rattle.hb_whole.proofs.Telling.{with_side, counting_takes, link_tells, plain_takes}
use Rattle.hb_whole.proofs.proxy.Proxy.take_bytes.Goals as goal

pub returns-in-Control-clause-tells : goal.returns-in-Control-clause-tells
returns-in-Control-clause-tells c =
    let p = c.args.self.now in
    let l = c.args.link in
    let bytes = c.args.bytes.now in
    let mine = is_owned p l (sym c.owner_of.ensures ∙ c.in-Control.is) in
    let n = c.take_bytes.new.self in
    let side = c.take_bytes.new.judge in
    if_ok c.take_bytes.result (EntersJudged Judges (e.Came l bytes) p.control n p.side side)
    (Tells Stands shown_of (e.Came l bytes) p (with_state n side p))
    (λ enters. state_tells p n side (e.Came l bytes) refl (λ x. refl)
    (λ taken trace s may. control.came_may taken p trace s l mine bytes c.are_octets.ensures may) enters) c.take_bytes.ensures.judged

pub returns-in-Control-clause-config : goal.returns-in-Control-clause-config
returns-in-Control-clause-config c =
    let p = c.args.self.now in
    let n = c.take_bytes.new.self in
    let side = c.take_bytes.new.judge in
    if_ok c.take_bytes.result (EntersJudged Judges (e.Came c.args.link c.args.bytes.now) p.control n p.side side)
    (config_of (with_state n side p) ≡ config_of p) (λ enters. enters.0) c.take_bytes.ensures.judged

pub returns-in-Plain-clause-tells : goal.returns-in-Plain-clause-tells
returns-in-Plain-clause-tells c =
    let p = c.args.self.now in
    let l = c.args.link in
    let bytes = c.args.bytes.now in
    let whose = sym c.owner_of.ensures ∙ c.in-Plain.is in
    let done = c.took in
    let new = done.new.self in
    let notes = done.new.notes in
    let side : Side = record p.side { relays = new; notes = notes } in
    let held = c.held-held in
    two_ok done.result (relays.Takes held.result.now (has_room p) l bytes p.side.relays (told p.side.notes) new (told notes))
    (relays_stirring.Stirs p.side.relays new) (Tells Stands shown_of (e.Came l bytes) p (with_side side p))
    (λ takes stirs. plain_takes p side l bytes held.result.now refl
    (λ taken trace s may. (
      may.0.0,
      plain.came_may taken p trace s l whose bytes c.are_octets.ensures may,
      s.control.held ∙ sym held.ensures,
      free taken p trace s may.0,
    ))
    takes stirs)
    (subst (λ (room : Bool). OnOk done.result (relays.Takes held.result.now room l bytes p.side.relays (told p.side.notes) new (told notes)))
    c.has_room-room.ensures done.ensures.meets)
    done.ensures.stirs

pub returns-in-Inbound-clause-tells : goal.returns-in-Inbound-clause-tells
returns-in-Inbound-clause-tells c =
    let p = c.args.self.now in
    let l = c.args.link in
    let bytes = c.args.bytes.now in
    let whose = sym c.owner_of.ensures ∙ c.in-Inbound.is in
    let done = c.took-in-Inbound in
    let new = done.new.self in
    let notes = done.new.notes in
    let side : Side = record p.side { links = new; notes = notes } in
    let held = c.held-held-in-Inbound in
    let limit = c.places-places.result in
    λ taken trace s. link_tells p side (e.Came l bytes) l (λ q. counting (others_of p.side.links l) limit q)
    (λ g x. (x.control.held ≡ held.result.now) × LeavesPlaces limit g x) (counting_takes (others_of p.side.links l) limit) refl refl
    (λ taken trace s may. (
      may.0.0,
      link.came_may taken p trace s l whose bytes c.are_octets.ensures may,
      (
        s.control.held ∙ sym held.ensures,
        subst (λ (n : ℕ). LeavesPlaces n p.control.config s.machine) (sym c.places-places.ensures)
            (leaves taken p trace s (free taken p trace s may.0)),
      ),
    ))
    (λ point found. done.ensures.meets point found s.limited.counted) done.ensures.counts done.ensures.stirs taken trace s
