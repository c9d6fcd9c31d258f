use Rattle.std.proofs.Common.{◌≡◌, ℕ, true, refl, sym, subst, ◌∙◌}
use Rattle.hb_link.specs.declared.hearing.Heard.{Heard}
use Rattle.hb_link.specs.Counting.{places}
use Rattle.hb_link.specs.Looking.{HasHeard}
use Rattle.hb_link.specs.Settling.{MayPut, MayLook, Settles}
use Rattle.hb_link.proofs.Settles.{stays}
use Rattle.hb_link.specs.declared.hearing.Heard.TheVariants.{Data}
use Rattle.hb_link.specs.Rousing.{is_roused}
use Rattle.hb_link.proofs.Rousing.{rouses_one, rouses_same}
use Rattle.hb_link.proofs.Still.{looks_still, settles_still}
use Rattle.hb_link.proofs.link.Link.follow.Goals as goal

pub returns-in-Nothing-clause-settles : goal.returns-in-Nothing-clause-settles
returns-in-Nothing-clause-settles g c =
    let k = c.args.self.now in
    let told = g.N.Notes.told c.args.notes.now in
    subst (λ (h : Heard). Settles c.args.others c.args.limit (λ held. held ≡ c.args.held.now) (HasHeard h) MayPut k told k told)
    (sym c.in-Nothing.is)
    (stays (places c.args.others c.args.limit) (λ held. held ≡ c.args.held.now) MayPut MayPut k told (λ x is. is))

pub returns-in-Fault-clause-settles : goal.returns-in-Fault-clause-settles
returns-in-Fault-clause-settles g c =
    subst (λ (h : Heard). Settles c.args.others c.args.limit (λ held. held ≡ c.args.held.now) (HasHeard h) MayPut c.args.self.now
    (g.N.Notes.told c.args.notes.now) c.fail.new.self (g.N.Notes.told c.fail.new.notes)) (sym c.in-Fault.is)
    (λ start before a stands holds is. c.fail.ensures.settles (places c.args.others c.args.limit) start before a stands tt is)

pub returns-in-Done-clause-settles : goal.returns-in-Done-clause-settles
returns-in-Done-clause-settles g c =
    let k = c.args.self.now in
    let told = g.N.Notes.told c.args.notes.now in
    subst (λ (h : Heard). Settles c.args.others c.args.limit (λ held. held ≡ c.args.held.now) (HasHeard h) MayLook k told k told)
    (sym c.in-Done.is)
    (stays (places c.args.others c.args.limit) (λ held. held ≡ c.args.held.now) MayLook MayLook k told (λ x is. is))

pub returns-in-Request-clause-settles : goal.returns-in-Request-clause-settles
returns-in-Request-clause-settles g c =
    subst (λ (h : Heard). Settles c.args.others c.args.limit (λ held. held ≡ c.args.held.now) (HasHeard h) MayLook c.args.self.now
    (g.N.Notes.told c.args.notes.now) c.answer_request.new.self (g.N.Notes.told c.answer_request.new.notes)) (sym c.in-Request.is)
    c.answer_request.ensures.settles

pub returns-in-Left-clause-settles : goal.returns-in-Left-clause-settles
returns-in-Left-clause-settles g c =
    subst (λ (h : Heard). Settles c.args.others c.args.limit (λ held. held ≡ c.args.held.now) (HasHeard h) MayLook c.args.self.now
    (g.N.Notes.told c.args.notes.now) c.end_alone.new.self (g.N.Notes.told c.end_alone.new.notes)) (sym c.in-Left.is)
    (λ start before a stands holds is. c.end_alone.ensures.settles (places c.args.others c.args.limit) start before a stands tt is)

pub returns-in-Data-clause-settles : goal.returns-in-Data-clause-settles
returns-in-Data-clause-settles g c =
    let k = c.args.self.now in
    let told = g.N.Notes.told c.args.notes.now in
    subst (λ (h : Heard). Settles c.args.others c.args.limit (λ held. held ≡ c.args.held.now) (HasHeard h) MayLook k told
    (record k { roused = c.add.new.self }) told) (sym c.in-Data.is)
    (settles_still (places c.args.others c.args.limit) (λ held. held ≡ c.args.held.now) MayLook MayLook k k c.add.new.self told told
    (λ x is. looks_still k c.add.new.self x is)
    (stays (places c.args.others c.args.limit) (λ held. held ≡ c.args.held.now) MayLook MayLook k told (λ x is. is)))

pub returns-in-Nothing-clause-rouses : goal.returns-in-Nothing-clause-rouses
returns-in-Nothing-clause-rouses g c = rouses_same c.args.self.now c.args.self.now refl refl

pub returns-in-Done-clause-rouses : goal.returns-in-Done-clause-rouses
returns-in-Done-clause-rouses g c = rouses_same c.args.self.now c.args.self.now refl refl

pub returns-in-Data-clause-rouses : goal.returns-in-Data-clause-rouses
returns-in-Data-clause-rouses g c = rouses_one c.args.self.now _ c.in-Data.stream c.add.ensures (λ j apart. refl)

pub returns-in-Data-clause-came : goal.returns-in-Data-clause-came
returns-in-Data-clause-came g c = λ s is.
    let same : Data c.in-Data.stream ≡ Data s = sym c.in-Data.is ∙ is in
    subst (λ (i : ℕ). is_roused c.add.new.self i ≡ true) (let is = same in cc) c.add.ensures.here
