use Rattle.std.proofs.Common.{◌≡◌, length, take, refl, sym, ◌∙◌}
use Rattle.std.specs.Prelude.{⊤}
use Rattle.std.proofs.lemmas.List.{length-take-le}
use Rattle.hb_links.specs.Reaches.{uncounted}
use Rattle.hb_relays.specs.Reaches.{any}
use Rattle.hb_world.specs.declared.entry.Entry.TheVariants as e
use Rattle.hb_whole.specs.Sight.{shown_of}
use Rattle.hb_whole.proofs.Guards as link
use Rattle.hb_whole.proofs.Heard as control
use Rattle.hb_whole.proofs.Heard.{state_tells, judged_alone}
use Rattle.hb_whole.proofs.PlainGuards as plain
use Rattle.hb_whole.proofs.Routes.{is_owned}
use Rattle.hb_whole.proofs.Telling.{link_tells, plain_tells}
use Rattle.hb_whole.proofs.proxy.Proxy.wrote.Goals as goal

pub returns-in-Control-clause-tells : goal.returns-in-Control-clause-tells
returns-in-Control-clause-tells c =
    let p = c.args.self.now in
    let l = c.args.link in
    let mine = is_owned p l (sym c.owner_of.ensures ∙ c.in-Control.is) in
    let bytes = take c.args.n ((shown_of p).output l) in
    let size : length bytes ≡ c.args.n = length-take-le c.args.n ((shown_of p).output l) c.requires in
    state_tells p c.wrote.new.self p.side (e.Went l bytes) refl (λ x. refl)
    (λ taken trace s may. control.went_may taken p trace s l mine bytes may)
    (judged_alone (e.Went l bytes) p c.wrote.new.self (c.wrote.ensures bytes size))

pub returns-in-Control-clause-config : goal.returns-in-Control-clause-config
returns-in-Control-clause-config c =
    let p = c.args.self.now in
    let bytes = take c.args.n ((shown_of p).output c.args.link) in
    (c.wrote.ensures bytes (length-take-le c.args.n ((shown_of p).output c.args.link) c.requires)).0

pub returns-in-Plain-clause-tells : goal.returns-in-Plain-clause-tells
returns-in-Plain-clause-tells c =
    let p = c.args.self.now in
    let l = c.args.link in
    let whose = sym c.owner_of.ensures ∙ c.in-Plain.is in
    let done = c.wrote-in-Plain in
    let bytes = take c.args.n ((shown_of p).output l) in
    let size : length bytes ≡ c.args.n = length-take-le c.args.n ((shown_of p).output l) c.requires in
    plain_tells p (record p.side { relays = done.new.self; notes = done.new.notes }) (e.Went l bytes) l any tt refl refl
    (λ taken trace s may. (may.0.0, plain.went_may taken p trace s l whose bytes may, tt)) (done.ensures.meets bytes size)
    done.ensures.stirs

pub returns-in-Inbound-clause-tells : goal.returns-in-Inbound-clause-tells
returns-in-Inbound-clause-tells c =
    let p = c.args.self.now in
    let l = c.args.link in
    let whose = sym c.owner_of.ensures ∙ c.in-Inbound.is in
    let done = c.wrote-in-Inbound in
    let bytes = take c.args.n ((shown_of p).output l) in
    let size : length bytes ≡ c.args.n = length-take-le c.args.n ((shown_of p).output l) c.requires in
    link_tells p (record p.side { links = done.new.self; notes = done.new.notes }) (e.Went l bytes) l (λ q. uncounted) (λ g x. ⊤) (λ q x i is. is)
    refl refl
    (λ taken trace s may. (may.0.0, link.went_may taken p trace s l whose bytes may, tt)) (done.ensures.meets bytes size)
    done.ensures.counts done.ensures.stirs
