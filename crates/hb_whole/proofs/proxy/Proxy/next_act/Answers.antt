use Rattle.std.proofs.Common.{ap, ◌∙◌}
use Rattle.hb_whole.specs.Stands.{config_of}
use Rattle.hb_whole.specs.declared.proxy.Proxy.{Proxy}
use Rattle.hb_whole.proofs.Given.{control_gives_so, links_give_so, none_gives_so, none_lives_so, relays_give_so}
use Rattle.hb_whole.proofs.proxy.Proxy.next_act.Goals as goal

pub returns-in-Some-clause-acts : goal.returns-in-Some-clause-acts
returns-in-Some-clause-acts c =
    let p = c.args.self.now in
    let n = c.next_act.new.self in
    control_gives_so p n c.give.new.self c.next_act.result c.in-Some.act c.act_of.result c.give.result c.in-Some.is c.act_of.ensures
    c.next_act.ensures.machine c.give.ensures.given c.give.ensures.after

pub returns-in-Some-clause-config : goal.returns-in-Some-clause-config
returns-in-Some-clause-config c =
    ap (λ (q : Proxy). config_of q) c.give.ensures.after ∙ c.next_act.ensures.machine.0

pub returns-in-Some-next_act-clause-acts : goal.returns-in-Some-next_act-clause-acts
returns-in-Some-next_act-clause-acts c =
    let p = c.args.self.now in
    let got = c.next_act-2 in
    let given = c.give-in-Some-next_act in
    links_give_so p c.next_act.new.self c.next_act.result c.in_default.is c.next_act.ensures.act c.next_act.ensures.machine
    got.new.self given.new.self got.result c.in-Some-next_act.act given.result c.in-Some-next_act.is got.ensures.acts got.ensures.counts got.ensures.stirs
    given.ensures.given given.ensures.after

pub returns-in-Some-next_act-clause-config : goal.returns-in-Some-next_act-clause-config
returns-in-Some-next_act-clause-config c =
    ap (λ (q : Proxy). config_of q) c.give-in-Some-next_act.ensures.after ∙ c.next_act.ensures.machine.0

pub returns-in-Some-next_act-2-clause-acts : goal.returns-in-Some-next_act-2-clause-acts
returns-in-Some-next_act-2-clause-acts c =
    let p = c.args.self.now in
    let got = c.next_act-2 in
    let gave = c.next_act-3 in
    let given = c.give-in-Some-next_act-2 in
    relays_give_so p c.next_act.new.self c.next_act.result c.in_default.is c.next_act.ensures.act c.next_act.ensures.machine
    got.new.self gave.new.self got.result c.in_default-next_act.is got.ensures.acts got.ensures.counts got.ensures.stirs given.new.self gave.result
    c.in-Some-next_act-2.act given.result c.in-Some-next_act-2.is gave.ensures.acts gave.ensures.stirs given.ensures.given
    given.ensures.after

pub returns-in-Some-next_act-2-clause-config : goal.returns-in-Some-next_act-2-clause-config
returns-in-Some-next_act-2-clause-config c =
    ap (λ (q : Proxy). config_of q) c.give-in-Some-next_act-2.ensures.after ∙ c.next_act.ensures.machine.0

pub returns-in-None-clause-acts : goal.returns-in-None-clause-acts
returns-in-None-clause-acts c =
    let got = c.next_act-2 in
    let gave = c.next_act-3 in
    none_gives_so c.args.self.now c.next_act.new.self c.next_act.result c.in_default.is c.next_act.ensures.act c.next_act.ensures.machine
    got.new.self gave.new.self got.result c.in_default-next_act.is got.ensures.acts got.ensures.counts got.ensures.stirs gave.result c.in-None.is
    gave.ensures.acts gave.ensures.stirs

pub returns-in-None-clause-all : goal.returns-in-None-clause-all
returns-in-None-clause-all c =
    let got = c.next_act-2 in
    let gave = c.next_act-3 in
    none_lives_so c.args.self.now c.next_act.new.self c.next_act.result c.in_default.is c.next_act.ensures.act c.next_act.ensures.machine
    got.new.self gave.new.self got.result c.in_default-next_act.is got.ensures.acts got.ensures.counts got.ensures.stirs gave.result c.in-None.is
    got.ensures.none gave.ensures.none

pub returns-in-None-clause-config : goal.returns-in-None-clause-config
returns-in-None-clause-config c = c.next_act.ensures.machine.0
