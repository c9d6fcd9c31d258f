-- The door of a plain link is that of its birth in the trace.
use Rattle.std.proofs.Common.{◌≡◌, ℕ, ◌==◌, Bool, true, false, cond, List, [], ◌∷◌, fold, refl, ap, sym, ◌∙◌, subst}
use Rattle.std.proofs.lemmas.List.Sums.{fold-append}
use Rattle.hb_base.specs.declared.door.Door.{Door}
use Rattle.hb_base.specs.declared.door.Door.TheVariants as door
use Rattle.hb_base.specs.declared.door.Why.{Why}
use Rattle.hb_base.specs.declared.door.Why.TheVariants as whys
use Rattle.hb_captured.specs.Part as captured
use Rattle.hb_captured.specs.Part.{Part}
use Rattle.hb_captured.specs.Sides.{door_by, door_of}
use Rattle.hb_gateway.specs.Part as gateway
use Rattle.hb_inbound.specs.Part as part
use Rattle.hb_model.proofs.Grown.{one_more}
use Rattle.hb_model.specs.Point as point
use Rattle.hb_model.specs.declared.config.NodeConfig.{NodeConfig}
use Rattle.hb_proxy.specs.Machine.{Machine}
use Rattle.hb_proxy.specs.Owners.{Owner, nobody, inbound_link, plain_link, owner, owner_by, at_door, dialled_for}
use Rattle.hb_proxy.specs.Points.{Point, of_control, of_link, of_plain, of_gate, of_stream, entry_in, entries, plain_in, plain_of}
use Rattle.hb_proxy.specs.Runs.{Steps, StandsFor, begins, goes_on}
use Rattle.hb_proxy.specs.Shared.{Shared, asks, tells, puts, finishes, credits, drops, completes, captured_part}
use Rattle.hb_world.specs.declared.entry.Entry.{Entry}
use Rattle.hb_world.specs.declared.entry.Entry.TheVariants as e

-- that of the link of this number, by its birth in the trace
abbrev door_in : ℕ → Door → Entry → Door
door_in l d (e.Accepted k at) = cond (k == l) at d
door_in l d _ = d

abbrev pub door_at : ℕ → List Entry → Door
door_at l trace = fold (door_in l) door.Plain trace

-- nobody dials a plain link
no_dial : (why : Why) → dialled_for why ≡ plain_link → ⊥
no_dial whys.Discovery is = cc
no_dial (whys.Upstream l s) is = cc
no_dial (whys.Plain l) is = cc
no_dial (whys.Direct l) is = cc
no_dial (whys.Gateway l) is = cc

module _ (l : ℕ) where
  -- a point makes the same door of a plain link by the trace as by its parts
  abbrev SameDoor : Point → Type 0
  SameDoor p = (w : Owner) (a b : Door) → (w ≡ plain_link → a ≡ b) → fold (owner_by l) w (entry_in p) ≡ plain_link
      → fold door_by a (plain_in l p) ≡ fold (door_in l) b (entry_in p)

  dials_other : (k : ℕ) (why : Why) (w : Owner) (a b : Door) → (w ≡ plain_link → a ≡ b)
      → cond (k == l) (dialled_for why) w ≡ plain_link → a ≡ b
  dials_other k why w a b before = by (k == l)
    where
      by : (same : Bool) → cond same (dialled_for why) w ≡ plain_link → a ≡ b
      by true mine = absurd (no_dial why mine)
      by false mine = before mine

  accepts_other : (k : ℕ) (d : Door) (w : Owner) (a b : Door) → d ≡ door.Inbound → (w ≡ plain_link → a ≡ b)
      → cond (k == l) (at_door d) w ≡ plain_link → a ≡ cond (k == l) d b
  accepts_other k d w a b at before = by (k == l)
    where
      by : (same : Bool) → cond same (at_door d) w ≡ plain_link → a ≡ cond same d b
      by true mine = (let no : inbound_link ≡ plain_link = sym (ap at_door at) ∙ mine in absurd cc)
      by false mine = before mine

  accepts_it : (k j : ℕ) (d : Door) (w : Owner) (a b : Door) → (w ≡ plain_link → a ≡ b) → cond (k == l) (at_door d) w ≡ plain_link
      → fold door_by a (cond (k == l) (captured.entry (e.Accepted j d) ∷ []) []) ≡ cond (k == l) d b
  accepts_it k j d w a b before = by (k == l)
    where
      by : (same : Bool) → cond same (at_door d) w ≡ plain_link
          → fold door_by a (cond same (captured.entry (e.Accepted j d) ∷ []) []) ≡ cond same d b
      by true mine = refl
      by false mine = before mine

  keeps_door : (q : Part) → ((d : Door) → door_by d q ≡ d) → (a : Door) (same : Bool) → fold door_by a (cond same (q ∷ []) []) ≡ a
  keeps_door q keeps a true = keeps a
  keeps_door q keeps a false = refl

  stream_door : (n s : ℕ) (w : Shared) (d : Door) → door_by d (captured_part n s w) ≡ d
  stream_door n s (asks authority) d = refl
  stream_door n s (tells heard begun) d = refl
  stream_door n s (puts waiting count) d = refl
  stream_door n s finishes d = refl
  stream_door n s (credits count) d = refl
  stream_door n s (drops begun) d = refl
  stream_door n s (completes begun note) d = refl

  here : (g : NodeConfig) (x y : Machine) (p : Point) → Steps g x p y → SameDoor p
  here g x y (of_control (point.entry (e.Accepted k d))) steps w a b before mine = absurd steps.1.0
  here g x y (of_control (point.entry (e.Dialled k to why))) steps w a b before mine = dials_other k why w a b before mine
  here g x y (of_control (point.entry z)) steps w a b before mine = before mine
  here g x y (of_control q) steps w a b before mine = before mine
  here g x y (of_link k (part.entry (e.Accepted j d))) steps w a b before mine = accepts_other j d w a b steps.1.0.2 before mine
  here g x y (of_link k (part.entry (e.Dialled j to why))) steps w a b before mine = absurd steps.1.0
  here g x y (of_link k (part.entry z)) steps w a b before mine = before mine
  here g x y (of_link k (part.up s (e.Accepted j d))) steps w a b before mine = absurd steps.1.0
  here g x y (of_link k (part.up s (e.Dialled j to why))) steps w a b before mine = dials_other j why w a b before mine
  here g x y (of_link k (part.up s z)) steps w a b before mine = before mine
  here g x y (of_link k q) steps w a b before mine = before mine
  here g x y (of_plain k (captured.entry (e.Accepted j d))) steps w a b before mine =
      subst
      (λ (n : ℕ). cond (n == l) (at_door d) w ≡ plain_link
      → fold door_by a (cond (k == l) (captured.entry (e.Accepted j d) ∷ []) []) ≡ cond (n == l) d b)
      (sym steps.0.0) (accepts_it k j d w a b before) mine
  here g x y (of_plain k (captured.entry (e.Dialled j to why))) steps w a b before mine = absurd steps.0
  here g x y (of_plain k (captured.entry z)) steps w a b before mine =
      keeps_door (captured.entry z) (λ d. refl) a (k == l) ∙ before mine
  here g x y (of_plain k (captured.up (e.Accepted j d))) steps w a b before mine = absurd steps.0
  here g x y (of_plain k (captured.up (e.Dialled j to why))) steps w a b before mine =
      keeps_door (captured.up (e.Dialled j to why)) (λ d. refl) a (k == l) ∙ dials_other j why w a b before mine
  here g x y (of_plain k (captured.up z)) steps w a b before mine = keeps_door (captured.up z) (λ d. refl) a (k == l) ∙ before mine
  here g x y (of_plain k q) steps w a b before mine = keeps_door q (λ d. refl) a (k == l) ∙ before mine
  here g x y (of_gate n (gateway.entry (e.Accepted j d))) steps w a b before mine = absurd steps.1.0
  here g x y (of_gate n (gateway.entry (e.Dialled j to why))) steps w a b before mine = absurd steps.1.0
  here g x y (of_gate n (gateway.entry z)) steps w a b before mine = before mine
  here g x y (of_gate n (gateway.dialled (e.Dialled j to why) key)) steps w a b before mine = dials_other j why w a b before mine
  here g x y (of_gate n (gateway.dialled z key)) steps w a b before mine = absurd steps.1.0
  here g x y (of_gate n q) steps w a b before mine = before mine
  here g x y (of_stream k n s shared) steps w a b before mine =
      keeps_door (captured_part n s shared) (stream_door n s shared) a (k == l) ∙ before mine

  pub door_told : (g : NodeConfig) (x : Machine) (points : List Point) → StandsFor g x points → owner l (entries points) ≡ plain_link
      → door_of (plain_of l points) ≡ door_at l (entries points)
  door_told g x points (begins fresh none) mine =
      ap (λ (ps : List Point). door_of (plain_of l ps)) none ∙ sym (ap (λ (ps : List Point). door_at l (entries ps)) none)
  door_told g y more (goes_on {x = x} {points = points} stands p steps are) mine =
      let parts_are = ap (plain_of l) are ∙ one_more (plain_in l) points p in
      let trace_is = ap entries are ∙ one_more entry_in points p in
      let whose = sym (fold-append (owner_by l) nobody (entries points) (entry_in p)) ∙ sym (ap (owner l) trace_is) ∙ mine in
      ap door_of parts_are ∙ fold-append door_by door.Plain (plain_of l points) (plain_in l p)
      ∙ here g x y p steps (owner l (entries points)) (door_of (plain_of l points)) (door_at l (entries points))
      (door_told g x points stands) whose
      ∙ sym (ap (door_at l) trace_is ∙ fold-append (door_in l) door.Plain (entries points) (entry_in p))
