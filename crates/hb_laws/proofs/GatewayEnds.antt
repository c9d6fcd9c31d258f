-- A link to a gateway that broke, or whose gateway ended, is closed before the next wait.
use Rattle.std.proofs.Common.{◌≡◌, ℕ, ◌==◌, ◌||◌, Bool, true, false, List, [], ◌∷◌, ◌++◌, Some, refl, ap, sym, ◌∙◌}
use Rattle.std.specs.List.{list_any}
use Rattle.std.proofs.lemmas.Bool.{both_ways}
use Rattle.std.proofs.lemmas.List.Concat.{flat_map-append}
use Rattle.std.proofs.lemmas.List.Folds.{list_any-append}
use Rattle.hb_base.specs.declared.door.Why.TheVariants as whys
use Rattle.hb_base.specs.declared.target.Target.{Target}
use Rattle.hb_gateway.specs.Part as gateway
use Rattle.hb_gateway.specs.Part.{Part}
use Rattle.hb_model.specs.Point as point
use Rattle.hb_model.specs.declared.config.NodeConfig.{NodeConfig}
use Rattle.hb_proxy.specs.Ends.{is_birth, ends_call, ends_gate, closes_call, closes_gate}
use Rattle.hb_proxy.specs.Machine.{Machine}
use Rattle.hb_proxy.specs.Owners.{gateway_link, link_of, owner}
use Rattle.hb_proxy.specs.Points.{Point, of_control, of_link, of_plain, of_gate, of_stream, entry_in, entries, gate_in, gates_of}
use Rattle.hb_proxy.specs.Runs.{Steps}
use Rattle.hb_proxy.specs.Shared.{Shared, asks, tells, puts, finishes, credits, drops, completes, gateway_part}
use Rattle.hb_world.specs.declared.entry.Entry.{Entry}
use Rattle.hb_world.specs.declared.entry.Entry.TheVariants as e
use Rattle.hb_laws.specs.Lawful.{Lawful}
use Rattle.hb_laws.specs.Refused.{dials, waits}
use Rattle.hb_laws.specs.RefusedGateways.{KeepsBrokenGateway, KeepsEndedGateway}
use Rattle.hb_laws.specs.RefusedOutbound.{accepts_outbound}
use Rattle.hb_laws.proofs.Lawful.{goes_at, own_in, not_stopped}
use Rattle.hb_laws.proofs.Links.{none_told, none_of_one}
use Rattle.hb_laws.proofs.Living.{all_closed}
use Rattle.hb_laws.proofs.Places.{Place, DialOf, place, further, dial_point, of_gateway}
use Rattle.hb_laws.proofs.Tests.{or_behind, none_of_both}

-- where nothing is closed in the trace no part of a link to a gateway is a close
module _ (n : ℕ) where
  seen_closes : (q : point.Point) → list_any closes_gate (gate_in n (of_control q)) ≡ false
  seen_closes (point.stopped why) = refl
  seen_closes _ = refl

  here : (g : NodeConfig) (x y : Machine) (p : Point) → Steps g x p y → list_any closes_call (entry_in p) ≡ false
      → list_any closes_gate (gate_in n p) ≡ false
  here g x y (of_control q) steps whole = seen_closes q
  here g x y (of_link k p) steps whole = refl
  here g x y (of_plain k p) steps whole = refl
  here g x y (of_gate k (gateway.entry z)) steps whole =
      none_of_one closes_gate (gateway.entry z) (k == n) (none_of_both (closes_call z) false whole).0
  here g x y (of_gate k p) steps whole = none_of_one closes_gate p (k == n) refl
  here g x y (of_stream l k s w) steps whole = none_of_one closes_gate (gateway_part l s w) (k == n) (by w)
    where
      by : (w : Shared) → closes_gate (gateway_part l s w) ≡ false
      by (asks authority) = refl
      by (tells heard begun) = refl
      by (puts waiting count) = refl
      by finishes = refl
      by (credits count) = refl
      by (drops begun) = refl
      by (completes begun note) = refl

module _ (g : NodeConfig) (trace before : List Entry) (h : Lawful g trace) (is : entries h.points ≡ before ++ waits ∷ []) where
  s : Place h.points before waits
  s = place h.points before waits [] is

  abbrev parts : List Part
  parts = gates_of 3 s.front

  -- a part of link 3 stands in front of the wait
  stands : (says : Part → Bool) (q : Part) → says q ≡ true → (front rest : List Point) (p : Point) → s.front ≡ front ++ p ∷ rest
      → p ≡ of_gate 3 q → list_any says parts ≡ true
  stands says q so front rest p are same =
      ap (list_any says)
      (ap (gates_of 3) are ∙ flat_map-append (gate_in 3) front (p ∷ rest)
      ∙ ap (λ (r : Point). gates_of 3 front ++ (gate_in 3 r ++ gates_of 3 rest)) same)
      ∙ list_any-append says (gates_of 3 front) (q ∷ gates_of 3 rest)
      ∙ or_behind (list_any says (gates_of 3 front)) (says q || list_any says (gates_of 3 rest))
      (ap (λ (b : Bool). b || list_any says (gates_of 3 rest)) so)

  born : (first later : List Entry) (to : Target) → before ≡ first ++ e.Dialled 3 to (whys.Gateway 2) ∷ later
      → list_any is_birth parts ≡ true
  born first later to are =
      let dial = e.Dialled 3 to (whys.Gateway 2) in
      let i = place s.front first dial later (s.before_is ∙ are) in
      let at = goes_at g trace h i.front i.p (i.rest ++ s.p ∷ s.rest)
      (further h.points s.front i.front i.p s.p i.rest s.rest s.points_are i.points_are) in
      let its : DialOf dial 3 gateway_link i.p = dial_point g at.machine at.next i.p 3 to (whys.Gateway 2) at.steps i.is in
      stands is_birth (gateway.dialled dial its.0) refl i.front i.rest i.p i.points_are its.1

  ended : (first later : List Entry) (z : Entry) → before ≡ first ++ z ∷ later → link_of z ≡ Some 3 → owner 3 first ≡ gateway_link
      → ends_call z ≡ true → list_any ends_gate parts ≡ true
  ended first later z are on mine ends =
      let i = place s.front first z later (s.before_is ∙ are) in
      let own = own_in g trace h i.front i.p (i.rest ++ s.p ∷ s.rest)
      (further h.points s.front i.front i.p s.p i.rest s.rest s.points_are i.points_are) in
      stands ends_gate (gateway.entry z) ends i.front i.rest i.p i.points_are
      (of_gateway i.front z 3 on i.p own i.is (ap (owner 3) i.before_is ∙ mine))

  -- so it isn't kept
  kept : list_any closes_call before ≡ false → list_any is_birth parts ≡ true → list_any ends_gate parts ≡ true → ⊥
  kept unclosed birth end =
      let at = goes_at g trace h s.front s.p s.rest s.points_are in
      let none = none_told (gate_in 3) closes_call closes_gate (λ g x y points p stands runs steps whole going. here 3 g x y p steps whole)
      g at.machine s.front at.run (ap (list_any closes_call) s.before_is ∙ unclosed)
      (not_stopped g trace h s.front s.p s.rest _ _ s.points_are s.is) in
      both_ways _ none ((all_closed g trace h s.front s.p s.rest waits s.points_are s.is refl).gates 3 birth end)

pub keeps_broken : KeepsBrokenGateway
keeps_broken to came g h =
    let first = dials g ∷ accepts_outbound ∷ e.Came 2 came ∷ [] in
    let dial = e.Dialled 3 to (whys.Gateway 2) in
    let before = first ++ dial ∷ e.Broke 3 ∷ [] in
    let is = sym h.trace_is in
    kept g _ before h is refl (born g _ before h is first (e.Broke 3 ∷ []) to refl)
    (ended g _ before h is (first ++ dial ∷ []) [] (e.Broke 3) refl refl refl refl)

pub keeps_ended : KeepsEndedGateway
keeps_ended to came g h =
    let first = dials g ∷ accepts_outbound ∷ e.Came 2 came ∷ [] in
    let dial = e.Dialled 3 to (whys.Gateway 2) in
    let before = first ++ dial ∷ e.Opened 3 ∷ e.Ended 3 ∷ [] in
    let is = sym h.trace_is in
    kept g _ before h is refl (born g _ before h is first (e.Opened 3 ∷ e.Ended 3 ∷ []) to refl)
    (ended g _ before h is (first ++ dial ∷ e.Opened 3 ∷ []) [] (e.Ended 3) refl refl refl refl)
