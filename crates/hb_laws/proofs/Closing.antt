-- Where a trace closes a link and then waits.
use Rattle.std.proofs.Common.{◌≡◌, ℕ, false, List, [], ◌∷◌, ◌++◌, refl, ap, ◌∙◌}
use Rattle.std.specs.List.{list_any}
use Rattle.std.proofs.lemmas.List.Concat.{flat_map-append}
use Rattle.hb_base.specs.declared.cause.Cause.{Cause}
use Rattle.hb_model.specs.Inner.{is_stop}
use Rattle.hb_model.specs.declared.config.NodeConfig.{NodeConfig}
use Rattle.hb_proxy.specs.Owners.{Owner, owner}
use Rattle.hb_proxy.specs.Points.{Point, entries, control_in, control_of}
use Rattle.hb_world.specs.declared.entry.Entry.{Entry}
use Rattle.hb_world.specs.declared.entry.Entry.TheVariants as e
use Rattle.hb_laws.specs.Lawful.{Lawful}
use Rattle.hb_laws.specs.Refused.{waits}
use Rattle.hb_laws.proofs.Lawful.{not_stopped, own_in}
use Rattle.hb_laws.proofs.Places.{PointOf, place, further, of_whom}
use Rattle.hb_laws.proofs.Tests.{none_in_front}

-- the close is a point of the owner's, in front of which nothing stopped the run
pub record ClosePlace (points : List Point) (before : List Entry) (l : ℕ) (why : Cause) (whose : Owner) : Type 0 where
  pub front : List Point
  pub p : Point
  pub rest : List Point
  pub points_are : points ≡ front ++ p ∷ rest
  pub point : PointOf (e.Closed l why) l whose p
  pub before_is : entries front ≡ before
  pub goes : list_any is_stop (control_of front) ≡ false

pub close_place : (g : NodeConfig) (trace before : List Entry) → (h : Lawful g trace) → (l : ℕ) (why : Cause) (whose : Owner)
    → entries h.points ≡ (before ++ e.Closed l why ∷ []) ++ waits ∷ [] → owner l before ≡ whose
    → ClosePlace h.points before l why whose
close_place g trace before h l why whose is mine =
    let closes = e.Closed l why in
    let outer = place h.points (before ++ closes ∷ []) waits [] is in
    let inner = place outer.front before closes [] outer.before_is in
    let at = further h.points outer.front inner.front inner.p outer.p inner.rest outer.rest outer.points_are inner.points_are in
    let behind = inner.rest ++ outer.p ∷ outer.rest in
    record {
      front = inner.front;
      p = inner.p;
      rest = behind;
      points_are = at;
      point = of_whom inner.front closes l refl inner.p (own_in g trace h inner.front inner.p behind at) inner.is whose
          (ap (owner l) inner.before_is ∙ mine);
      before_is = inner.before_is;
      goes = none_in_front is_stop (control_of outer.front) (control_of inner.front) (control_of (inner.p ∷ inner.rest))
          (ap control_of inner.points_are ∙ flat_map-append control_in inner.front (inner.p ∷ inner.rest))
          (not_stopped g trace h outer.front outer.p outer.rest _ _ outer.points_are outer.is);
    }
