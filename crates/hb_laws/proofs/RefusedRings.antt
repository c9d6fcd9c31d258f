-- More bytes that wait than a ring has room for are refused.
use Rattle.std.proofs.Common.{⊎_elim, ℕ, List, [], ◌∷◌, length, refl, ap, sym, ◌∙◌, subst, arith}
use Rattle.hb_proxy.proofs.Owned.{all_owned}
use Rattle.hb_proxy.proofs.Projection.{links_run}
use Rattle.hb_proxy.specs.Held.{at_start}
use Rattle.hb_proxy.specs.Machine.{local}
use Rattle.hb_proxy.specs.Points.{Point, parts_of}
use Rattle.hb_proxy.specs.Runs.{Steps}
use Rattle.hb_world.specs.declared.entry.Entry.{Entry}
use Rattle.hb_world.specs.declared.entry.Entry.TheVariants as e
use Rattle.hb_laws.specs.RefusedRings.{RefusedFront, KeepsMoreUp, KeepsMorePlain, ComesBeyondRing}
use Rattle.hb_laws.specs.RefusedTunnels.{RefusedAt}
use Rattle.hb_laws.proofs.DownRing.{down_fits}
use Rattle.hb_laws.proofs.Lawful.{goes_at, own_in}
use Rattle.hb_laws.proofs.Places.{of_upstream}

pub keeps_more_up : RefusedFront KeepsMoreUp
keeps_more_up g trace before behind h are so =
    let laws = h.laws before behind are in
    absurd (omega (
      arith,
      so.over,
      (laws.links so.link).rings so.stream,
      ap (λ (xs : List ℕ). length xs) (laws.sides.up so.link so.stream so.up so.owned).went,
    ))

pub keeps_more_plain : RefusedFront KeepsMorePlain
keeps_more_plain g trace before behind h are so =
    let law = (h.laws before behind are).rings so.link in
    ⊎_elim (λ over. absurd (omega (arith, over, law.up))) (λ over. absurd (omega (arith, over, law.down))) so.over

pub comes_beyond_ring : RefusedAt ComesBeyondRing
comes_beyond_ring g trace before behind p z h are is so =
    let l = so.link in
    let s = so.stream in
    let comes = e.Came so.up so.bytes in
    let there = is ∙ ap (λ (y : Entry). y ∷ []) so.comes in
    let p_is = of_upstream before comes so.up refl p (own_in g trace h before p behind are) there l s so.owned in
    let at = goes_at g trace h before p behind are in
    let may = (subst (λ (q : Point). Steps g at.machine q at.next) p_is at.steps).1.0 in
    let sides = (h.laws before (p ∷ behind) are).sides in
    let link = sides.link l ((all_owned g at.machine before at.run).over l s so.up so.owned) in
    absurd (omega (
      arith,
      so.over,
      down_fits l (at_start g) (local at.machine l) (parts_of l before) (links_run g at.machine before l at.run) s so.bytes may.0.1 may.2
          may.3 so.frames (sym link.went ∙ so.went),
      ap (λ (xs : List ℕ). length xs) (sides.up l s so.up so.owned).came,
    ))
