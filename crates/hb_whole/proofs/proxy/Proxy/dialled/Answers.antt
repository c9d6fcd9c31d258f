use Rattle.std.proofs.Common.{◌≡◌, inl, inr, refl}
use Rattle.hb_base.specs.declared.target.Target.{Target}
use Rattle.hb_links.specs.Calls as links
use Rattle.hb_links.specs.Load.{Recounts}
use Rattle.hb_links.specs.Stirring as links_stirring
use Rattle.hb_node.specs.State.{Answers}
use Rattle.hb_relays.specs.Calls as relays
use Rattle.hb_relays.specs.Stirring as relays_stirring
use Rattle.hb_turns.specs.Shown.{Tells, dial_entry}
use Rattle.hb_whole.specs.Sight.{shown_of}
use Rattle.hb_whole.specs.Stands.{Stands, config_of}
use Rattle.hb_whole.proofs.Dialling.{answers_config, control_answers, gate_answers, plain_answers, plain_answers_none, up_answers, up_answers_none}
use Rattle.hb_whole.proofs.Heard.{with_state}
use Rattle.hb_whole.proofs.Outcomes.{if_ok, three_ok, two_ok}
use Rattle.hb_whole.proofs.Telling.{with_side}
use Rattle.hb_whole.proofs.proxy.Proxy.dialled.Goals as goal

pub returns-in-Discovery-clause-tells : goal.returns-in-Discovery-clause-tells
returns-in-Discovery-clause-tells c =
    let p = c.args.self.now in
    let n = c.dialled.new.self in
    if_ok c.dialled.result (Answers c.args.why c.args.link p.control n)
    ((to : Target) → Tells Stands shown_of (dial_entry to c.args.why c.args.link) p (with_state n p.side p))
    (λ answers. control_answers p n c.args.why c.args.link c.in-Discovery.is answers) c.dialled.ensures.machine

pub returns-in-Discovery-clause-config : goal.returns-in-Discovery-clause-config
returns-in-Discovery-clause-config c =
    let p = c.args.self.now in
    let n = c.dialled.new.self in
    if_ok c.dialled.result (Answers c.args.why c.args.link p.control n) (config_of (with_state n p.side p) ≡ config_of p)
    (λ answers. answers_config c.args.why c.args.link p.control n answers) c.dialled.ensures.machine

pub returns-in-Some-clause-tells : goal.returns-in-Some-clause-tells
returns-in-Some-clause-tells c =
    let p = c.args.self.now in
    let done = c.dialled-in-Some in
    let new = done.new.self in
    let l = c.in-Upstream.at in
    let k = c.in-Upstream.stream in
    three_ok done.result (links.Dials l k c.in-Some.number p.side.links new) (Recounts p.side.links new)
    (links_stirring.Stirs p.side.links new)
    ((to : Target) → Tells Stands shown_of (dial_entry to c.args.why c.args.link) p (with_side (record p.side { links = new }) p))
    (λ dials counts stirs. up_answers p new c.args.why c.args.link l k c.in-Some.number c.in-Upstream.is c.in-Some.is dials counts stirs)
    done.ensures.meets done.ensures.counts done.ensures.stirs

pub returns-in-None-clause-tells : goal.returns-in-None-clause-tells
returns-in-None-clause-tells c =
    let p = c.args.self.now in
    let done = c.dial_failed in
    up_answers_none p (record p.side { links = done.new.self; notes = done.new.notes }) c.args.why c.args.link c.in-Upstream.at
    c.in-Upstream.stream refl c.in-Upstream.is c.in-None.is done.ensures.meets done.ensures.counts done.ensures.stirs

pub returns-in-Some-link-clause-tells : goal.returns-in-Some-link-clause-tells
returns-in-Some-link-clause-tells c =
    let p = c.args.self.now in
    let done = c.gate_dialled in
    let new = done.new.self in
    let l = c.in-Gateway.at in
    let n = c.in-Some-link.number in
    two_ok done.result (relays.DialsGate l n p.side.relays new) (relays_stirring.Stirs p.side.relays new)
    ((to : Target) → Tells Stands shown_of (dial_entry to c.args.why c.args.link) p (with_side (record p.side { relays = new }) p))
    (λ dials stirs. gate_answers p new c.args.why c.args.link l n c.in-Gateway.is c.in-Some-link.is dials stirs)
    done.ensures.meets done.ensures.stirs

pub returns-in-None-link-clause-tells : goal.returns-in-None-link-clause-tells
returns-in-None-link-clause-tells c =
    let p = c.args.self.now in
    let done = c.dial_failed-in-None-link in
    plain_answers_none p (record p.side { relays = done.new.self; notes = done.new.notes }) c.args.why c.args.link c.in-Gateway.at refl
    (inr c.in-Gateway.is) c.in-None-link.is done.ensures.meets done.ensures.stirs

pub returns-in-Some-link-2-clause-tells : goal.returns-in-Some-link-2-clause-tells
returns-in-Some-link-2-clause-tells c =
    let p = c.args.self.now in
    let done = c.dialled-in-Some-link-2 in
    let new = done.new.self in
    let l = c.in-Plain.at in
    let u = c.in-Some-link-2.number in
    two_ok done.result (relays.Dials l u p.side.relays new) (relays_stirring.Stirs p.side.relays new)
    ((to : Target) → Tells Stands shown_of (dial_entry to c.args.why c.args.link) p (with_side (record p.side { relays = new }) p))
    (λ dials stirs. plain_answers p new c.args.why c.args.link l u c.in-Plain.is c.in-Some-link-2.is dials stirs)
    done.ensures.meets done.ensures.stirs

pub returns-in-None-link-2-clause-tells : goal.returns-in-None-link-2-clause-tells
returns-in-None-link-2-clause-tells c =
    let p = c.args.self.now in
    let done = c.dial_failed-in-None-link-2 in
    plain_answers_none p (record p.side { relays = done.new.self; notes = done.new.notes }) c.args.why c.args.link c.in-Plain.at refl
    (inl c.in-Plain.is) c.in-None-link-2.is done.ensures.meets done.ensures.stirs
