use Rattle.std.proofs.Common.{refl, sym, ◌∙◌}
use Rattle.std.specs.Prelude.{⊤}
use Rattle.hb_links.specs.Reaches.{uncounted}
use Rattle.hb_relays.specs.Reaches.{any}
use Rattle.hb_world.specs.declared.entry.Entry.TheVariants as e
use Rattle.hb_whole.proofs.Guards as link
use Rattle.hb_whole.proofs.Heard as control
use Rattle.hb_whole.proofs.Heard.{state_tells, judged_alone}
use Rattle.hb_whole.proofs.PlainGuards as plain
use Rattle.hb_whole.proofs.Routes.{is_owned}
use Rattle.hb_whole.proofs.Telling.{link_tells, plain_tells}
use Rattle.hb_whole.proofs.proxy.Proxy.broke.Goals as goal

pub returns-in-Control-clause-tells : goal.returns-in-Control-clause-tells
returns-in-Control-clause-tells c =
    let p = c.args.self.now in
    let l = c.args.link in
    let mine = is_owned p l (sym c.owner_of.ensures ∙ c.in-Control.is) in
    state_tells p c.broke.new.self p.side (e.Broke l) refl (λ x. refl)
    (λ taken trace s may. control.broke_may taken p trace s l mine may)
    (judged_alone (e.Broke l) p c.broke.new.self c.broke.ensures)

pub returns-in-Control-clause-config : goal.returns-in-Control-clause-config
returns-in-Control-clause-config c = c.broke.ensures.0

pub returns-in-Plain-clause-tells : goal.returns-in-Plain-clause-tells
returns-in-Plain-clause-tells c =
    let p = c.args.self.now in
    let l = c.args.link in
    let whose = sym c.owner_of.ensures ∙ c.in-Plain.is in
    let done = c.broke-in-Plain in
    plain_tells p (record p.side { relays = done.new.self; notes = done.new.notes }) (e.Broke l) l any tt refl refl
    (λ taken trace s may. (may.0.0, plain.broke_may taken p trace s l whose may, tt)) done.ensures.meets done.ensures.stirs

pub returns-in-Inbound-clause-tells : goal.returns-in-Inbound-clause-tells
returns-in-Inbound-clause-tells c =
    let p = c.args.self.now in
    let l = c.args.link in
    let whose = sym c.owner_of.ensures ∙ c.in-Inbound.is in
    let done = c.broke-in-Inbound in
    link_tells p (record p.side { links = done.new.self; notes = done.new.notes }) (e.Broke l) l (λ q. uncounted) (λ g x. ⊤) (λ q x i is. is)
    refl refl
    (λ taken trace s may. (may.0.0, link.broke_may taken p trace s l whose may, tt)) done.ensures.meets
    done.ensures.counts done.ensures.stirs
