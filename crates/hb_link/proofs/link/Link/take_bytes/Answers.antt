use Rattle.std.proofs.Common.{◌≡◌, ◌≤◌, length, ap, sym, ◌∙◌, subst}
use Rattle.hb_conn.specs.Connection.{Connection}
use Rattle.hb_link.specs.Counting.{places}
use Rattle.hb_link.specs.Fronting.{HasCome, TakesFront}
use Rattle.hb_link.specs.Observed.{wants_in}
use Rattle.hb_link.specs.Settling.{MayPut}
use Rattle.hb_link.specs.Shows.{Shows}
use Rattle.hb_link.specs.declared.phase.Phase.{Phase}
use Rattle.hb_link.proofs.Come.{takes_served, takes_fronting}
use Rattle.hb_link.proofs.Settles.{settles_then}
use Rattle.hb_link.specs.Rousing.{Rouses}
use Rattle.hb_link.specs.declared.link.Link.{Link}
use Rattle.hb_link.proofs.Rousing.{front_rouses, rouses_same, rouses_then}
use Rattle.hb_link.proofs.link.Link.take_bytes.Goals as goal
use Rattle.hb_link.proofs.link.Link.take_bytes.Goals.{in-Fronting, in-Serving}

pub take_front-requires : goal.take_front-requires
take_front-requires g c =
    subst (λ (phase : Phase). length c.args.b.now ≤ wants_in phase c.args.self.now) c.in-Fronting.is c.requires

pub returns-clause-takes : goal.returns-clause-takes
returns-clause-takes g c =
    let k = c.args.self.now in
    let held = c.args.held.now in
    let mid = c.match-self.self in
    let new = c.put_all.new.self in
    let told = g.N.Notes.told c.args.notes.now in
    let now = g.N.Notes.told c.put_all.new.notes in
    let settles = settles_then (places c.args.others c.args.limit) (λ h. h ≡ held) (λ n x. HasCome x.phase n x) MayPut Shows mid
    c.look_all.new.self new told (g.N.Notes.told c.look_all.new.notes) now c.look_all.ensures.settles
    (λ start before a stands holds is. c.put_all.ensures.settles (places c.args.others c.args.limit) start before a stands tt is) in
    elim c.match-self.branch [
      | in-Fronting w ↦
          takes_fronting c.args.others c.args.limit held k mid new c.args.b.now told now settles w.in-Fronting.is
          (subst (TakesFront _) (sym w.self-is) w.take_front.ensures)
      | in-Serving w ↦
          takes_served c.args.others c.args.limit held k mid new c.args.b.now told now settles w.in-Serving.is
          (w.self-is ∙ ap (λ (d : Connection). record k { conn = d }) w.take.ensures.after)
    ]

pub returns-clause-rouses : goal.returns-clause-rouses
returns-clause-rouses g c =
    let k = c.args.self.now in
    let mid = c.match-self.self in
    let looked = c.look_all.new.self in
    let first : Rouses k mid = elim c.match-self.branch [
      | in-Fronting w ↦ front_rouses k mid c.args.b.now (subst (TakesFront _) (sym w.self-is) w.take_front.ensures)
      | in-Serving w ↦
          rouses_same k mid (ap (λ (m : Link). m.roused) w.self-is) (ap (λ (m : Link). m.tunnels) w.self-is)
    ] in
    rouses_then k mid c.put_all.new.self first (rouses_then mid looked c.put_all.new.self c.look_all.ensures.rouses c.put_all.ensures.rouses)
