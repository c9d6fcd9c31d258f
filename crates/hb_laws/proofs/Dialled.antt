-- A link to a gateway is dialled at the gateway of the key by which the way of its plain link leads, in every run.
use Rattle.std.proofs.Common.{◌≡◌, ℕ, List, [], ◌∷◌, Some, refl, subst}
use Rattle.hb_base.specs.declared.door.Door.{Door}
use Rattle.hb_base.specs.declared.door.Door.TheVariants as door
use Rattle.hb_base.specs.declared.door.Why.TheVariants as whys
use Rattle.hb_base.specs.declared.target.Target.{Target}
use Rattle.hb_captured.proofs.Asked.{all_ask}
use Rattle.hb_captured.specs.Answer.{Aim, straight_to, through, address_of, key_of, why_at, why_for}
use Rattle.hb_captured.specs.Captured.{due}
use Rattle.hb_captured.specs.Part as captured
use Rattle.hb_captured.specs.Runs.{MayCome, UpMayCome}
use Rattle.hb_gateway.specs.Key.{Key}
use Rattle.hb_gateway.specs.Part as gateway
use Rattle.hb_gateway.specs.Runs as gateway_runs
use Rattle.hb_gateway.specs.Runs.{IsBirth}
use Rattle.hb_inbound.specs.Part as part
use Rattle.hb_model.specs.Point as point
use Rattle.hb_model.specs.declared.config.NodeConfig.{NodeConfig}
use Rattle.hb_proxy.proofs.Places.{at_points}
use Rattle.hb_proxy.proofs.Plain.{plain_runs}
use Rattle.hb_proxy.specs.Held.{at_start}
use Rattle.hb_proxy.specs.Machine.{Machine, plain_local}
use Rattle.hb_proxy.specs.Owners.{gateway_link}
use Rattle.hb_proxy.specs.Points.{Point, of_control, of_link, of_plain, of_gate, of_stream, entry_in, plain_of}
use Rattle.hb_proxy.specs.Runs.{Steps, StandsFor}
use Rattle.hb_world.specs.declared.entry.Entry.{Entry}
use Rattle.hb_world.specs.declared.entry.Entry.TheVariants as e
use Rattle.hb_laws.specs.Gateways.{DialsByKey, BearsByKey, GateDialsAt, GateDialLaw}
use Rattle.hb_laws.proofs.Places.{DialOf, dial_point}

-- a dial that is due for a link whose way leads by this key
abbrev by_key : (g : NodeConfig) (x : Machine) (before : List Point) → StandsFor g x before → (a : ℕ) (to : Target) (key : Key)
    → (x.plain a).stage ≡ due → key_of (x.plain a).aim ≡ Some key → to ≡ key.gateway → DialsByKey before a to
by_key g x before stands a to key is keyed there = record {
  aim = (x.plain a).aim;
  key = key;
  told = all_ask a (at_start g) (plain_local x a) (plain_of a before) (plain_runs g x before a stands) is;
  keyed = keyed;
  there = there;
}

-- one that gave a link
dials : (g : NodeConfig) (x y : Machine) (before : List Point) (p : Point) → StandsFor g x before → Steps g x p y → (n a : ℕ) (to : Target)
    → entry_in p ≡ e.Dialled n to (whys.Gateway a) ∷ [] → BearsByKey before p n a to
dials g x y before p stands steps n a to is =
    let why = whys.Gateway a in
    let dial : DialOf (e.Dialled n to why) n gateway_link p = dial_point g x y p n to why steps is in
    let now = subst (λ (q : Point). Steps g x q y) dial.1 steps in
    record { dial = by_key g x before stands a to dial.0 now.2.1.due now.2.1.keyed now.1.0.2; born = dial.1 }

-- and one that failed: its reason tells for whom it was, and that it went by a gateway
record GoesBy (aim : Aim) (l a : ℕ) (to : Target) : Type 0 where
  same : l ≡ a
  key : Key
  keyed : key_of aim ≡ Some key
  there : to ≡ key.gateway

straight_not : (d : Door) (l a : ℕ) → whys.Gateway a ≡ why_at d l → ⊥
straight_not door.Outbound l a is = cc
straight_not door.Plain l a is = cc
straight_not door.Inbound l a is = cc

goes_by : (aim : Aim) (d : Door) (l a : ℕ) (to : Target) → to ≡ address_of aim → whys.Gateway a ≡ why_for aim d l → GoesBy aim l a to
goes_by (straight_to other endpoint) d l a to there why = absurd (straight_not d l a why)
goes_by (through key authority endpoint) d l a to there why =
    record { same = (let same : whys.Gateway a ≡ whys.Gateway l = why in cc); key = key; keyed = refl; there = there }

module _ (g : NodeConfig) (x y : Machine) (before : List Point) (stands : StandsFor g x before) (a : ℕ) (to : Target) where
  fails : (p : Point) → Steps g x p y → entry_in p ≡ e.DialFailed to (whys.Gateway a) ∷ [] → DialsByKey before a to
  fails (of_control (point.entry en)) steps is =
      let same : en ≡ e.DialFailed to (whys.Gateway a) = cc in
      let no : whys.Gateway a ≡ whys.Discovery = (subst (λ (z : Entry). Steps g x (of_control (point.entry z)) y) same steps).1.0.2 in
      absurd cc
  fails (of_control _) steps is = absurd cc
  fails (of_link k (part.entry en)) steps is =
      let same : en ≡ e.DialFailed to (whys.Gateway a) = cc in
      absurd ((subst (λ (z : Entry). Steps g x (of_link k (part.entry z)) y) same steps).1.0)
  fails (of_link k (part.up t en)) steps is =
      let same : en ≡ e.DialFailed to (whys.Gateway a) = cc in
      let no : whys.Gateway a ≡ whys.Upstream k t = (subst (λ (z : Entry). Steps g x (of_link k (part.up t z)) y) same steps).1.0.3 in
      absurd cc
  fails (of_link k _) steps is = absurd cc
  fails (of_plain k (captured.entry en)) steps is =
      let same : en ≡ e.DialFailed to (whys.Gateway a) = cc in absurd (subst (MayCome k (x.plain k)) same steps.0)
  fails (of_plain k (captured.up en)) steps is =
      let same : en ≡ e.DialFailed to (whys.Gateway a) = cc in
      let may = subst (UpMayCome k (x.plain k)) same steps.0 in
      let way = goes_by (x.plain k).aim (x.plain k).door k a to may.2 may.3 in
      subst (λ (n : ℕ). DialsByKey before n to) way.same (by_key g x before stands k to way.key may.1 way.keyed way.there)
  fails (of_plain k _) steps is = absurd cc
  fails (of_gate n (gateway.entry en)) steps is =
      let same : en ≡ e.DialFailed to (whys.Gateway a) = cc in absurd (subst (gateway_runs.MayCome n (x.gates n)) same steps.1.0)
  fails (of_gate n (gateway.dialled en key)) steps is =
      let same : en ≡ e.DialFailed to (whys.Gateway a) = cc in
      absurd (subst (λ (z : Entry). IsBirth n (x.gates n) z key) same steps.1.0)
  fails (of_gate n _) steps is = absurd cc
  fails (of_stream l n s w) steps is = absurd cc

dials_next : (g : NodeConfig) (x y : Machine) (before : List Point) (p : Point) → StandsFor g x before → Steps g x p y
    → GateDialsAt before p
dials_next g x y before p stands steps (e.Dialled n to (whys.Gateway a)) is = dials g x y before p stands steps n a to is
dials_next g x y before p stands steps (e.DialFailed to (whys.Gateway a)) is = fails g x y before stands a to p steps is
dials_next g x y before p stands steps _ is = tt

pub runs_dial_gates : (g : NodeConfig) (x : Machine) (points : List Point) → StandsFor g x points → GateDialLaw points
runs_dial_gates g x points stands = at_points g GateDialsAt (dials_next g) x points stands
