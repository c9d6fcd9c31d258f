use Rattle.std.proofs.Common.{rules, ◌≡◌, Bool, false, refl, subst}
use Rattle.hb_link.specs.Counting.{places}
use Rattle.hb_link.specs.Fronting.{HasCome}
use Rattle.hb_link.specs.Looking.{Looked}
use Rattle.hb_link.specs.Observed.{serves_in}
use Rattle.hb_link.specs.Settling.{MayPut, MayLook, Settles}
use Rattle.hb_link.proofs.Come.{rests, looks_first, settles_from}
use Rattle.hb_link.proofs.Settles.{stays, settles_then}
use Rattle.hb_link.proofs.Rousing.{rouses_same, rouses_then}
use Rattle.hb_link.proofs.link.Link.look_all.Goals as goal

pub returns-then-not-is_serving-clause-settles : goal.returns-then-not-is_serving-clause-settles
returns-then-not-is_serving-clause-settles g c =
    let k = c.args.self.now in
    let told = g.N.Notes.told c.args.notes.now in
    let off : serves_in k.phase ≡ false = search rules in
    settles_from c.args.others c.args.limit (λ h. h ≡ c.args.held.now) (λ n x. HasCome x.phase n x) MayPut MayPut k k told told
    (λ x come. rests k x off come)
    (stays (places c.args.others c.args.limit) (λ h. h ≡ c.args.held.now) MayPut MayPut k told (λ x is. is))

pub loop-init : goal.loop-init
loop-init g c = (
  stays (places c.args.others c.args.limit) (λ h. h ≡ c.args.held.now) MayLook MayLook c.args.self.now (g.N.Notes.told c.args.notes.now)
      (λ x is. is),
  rouses_same c.args.self.now c.args.self.now refl refl,
)

pub loop-preserved : goal.loop-preserved
loop-preserved g c =
    let told = g.N.Notes.told c.loop.notes in
    let now = g.N.Notes.told c.look.new.notes in (
      settles_then (places c.args.others c.args.limit) (λ h. h ≡ c.args.held.now) MayLook MayLook MayLook c.args.self.now c.loop.self c.look.new.self
          (g.N.Notes.told c.args.notes.now) told now c.loop.invariant.0
          (subst (λ (b : Bool). Settles c.args.others c.args.limit (λ h. h ≡ c.args.held.now) MayLook (Looked b) c.loop.self told c.look.new.self
          now) c.loop-test.true c.look.ensures.settles),
      rouses_then c.args.self.now c.loop.self c.look.new.self c.loop.invariant.1 c.look.ensures.rouses,
    )

pub returns-clause-settles : goal.returns-clause-settles
returns-clause-settles g c =
    let k = c.args.self.now in
    let first = g.N.Notes.told c.args.notes.now in
    let told = g.N.Notes.told c.loop.notes in
    let now = g.N.Notes.told c.look.new.notes in
    let last = subst (λ (b : Bool). Settles c.args.others c.args.limit (λ h. h ≡ c.args.held.now) MayLook (Looked b) c.loop.self told
    c.look.new.self now) c.loop-test.false c.look.ensures.settles in
    settles_from c.args.others c.args.limit (λ h. h ≡ c.args.held.now) (λ n x. HasCome x.phase n x) MayLook MayPut k c.look.new.self first
    now (λ x come. looks_first k x (search rules) come)
    (settles_then (places c.args.others c.args.limit) (λ h. h ≡ c.args.held.now) MayLook MayLook MayPut k c.loop.self c.look.new.self first told now
    c.loop.invariant.0 last)

pub returns-then-not-is_serving-clause-rouses : goal.returns-then-not-is_serving-clause-rouses
returns-then-not-is_serving-clause-rouses g c = rouses_same c.args.self.now c.args.self.now refl refl

pub returns-clause-rouses : goal.returns-clause-rouses
returns-clause-rouses g c =
    rouses_then c.args.self.now c.loop.self c.look.new.self c.loop.invariant.1 c.look.ensures.rouses
