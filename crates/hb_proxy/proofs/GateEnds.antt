-- What the points of a run tell of the end of a link to a gateway.
use Rattle.std.proofs.Common.{◌≡◌, ⊎_elim, ℕ, ◌==◌, ◌||◌, Bool, true, false, cond, List, [], ◌∷◌, ◌++◌, refl, ap, ap₂, sym, ◌∙◌, subst}
use Rattle.std.proofs.lemmas.Bool.{cases_eq, eq-eqb, ne_eqb, false≢true}
use Rattle.std.proofs.lemmas.List.{append-nil}
use Rattle.std.proofs.lemmas.List.Folds.{list_any-append}
use Rattle.std.specs.List.{list_any}
use Rattle.std.specs.Prelude.{⊤}
use Rattle.hb_base.specs.declared.cause.Cause.{Cause}
use Rattle.hb_base.specs.declared.door.Why.TheVariants as whys
use Rattle.hb_captured.specs.Captured.{due}
use Rattle.hb_conn.specs.declared.found.Found.{Found}
use Rattle.hb_conn.specs.declared.found.Found.TheVariants as found
use Rattle.hb_gateway.specs.Gateway.{Gateway, Phase, unborn, opening, serving, faulted, closing, closed, went_by, phase_by, broken_by, stops_by}
use Rattle.hb_gateway.specs.Key.{Key}
use Rattle.hb_gateway.specs.Part.{Part, entry, dialled, lacked, looked, asks, tells, put, finished, credited, reset, dropped, done, stopped}
use Rattle.hb_gateway.specs.Runs.{MayCome, Steps, entered}
use Rattle.hb_model.specs.Machine as control
use Rattle.hb_model.specs.Point as point
use Rattle.hb_model.specs.Runs as model
use Rattle.hb_model.specs.declared.config.NodeConfig.{NodeConfig}
use Rattle.hb_model.proofs.Grown.{one_more}
use Rattle.hb_world.proofs.LifeLemmas.{or-true, or-false}
use Rattle.hb_world.specs.declared.entry.Entry.{Entry}
use Rattle.hb_world.specs.declared.entry.Entry.TheVariants as e
use Rattle.hb_proxy.specs.Ends.{is_gate_fault, ends_gate, closes_gate, is_birth}
use Rattle.hb_proxy.specs.Machine.{Machine, with_control}
use Rattle.hb_proxy.specs.Points.{Point, of_control, of_link, of_plain, of_gate, of_stream, gate_in, gates_of}
use Rattle.hb_proxy.specs.Runs.{ControlGuard, GateGuard, IsWanted, Steps as RunSteps, StandsFor, begins, goes_on}
use Rattle.hb_proxy.specs.Shared.{Shared, asks as asks_for, tells as told, puts, finishes, credits, drops, completes, gateway_part}
use Rattle.hb_proxy.proofs.GateChanges.{birth_at}
use Rattle.hb_proxy.proofs.Idle.{is_idle, over_idle, over_lasts}

-- In each phase: one that isn't born has no birth, and may only have seen the end of the run; one that goes on has no end; one that was
-- closed has its close
abbrev pub EndedBy : Phase → (over : Bool) → List Part → Type 0
EndedBy unborn over parts = (list_any is_birth parts ≡ false) × (list_any ends_gate parts ≡ true → over ≡ true)
EndedBy opening over parts = list_any ends_gate parts ≡ false
EndedBy serving over parts = list_any ends_gate parts ≡ false
EndedBy (faulted code) over parts = list_any is_gate_fault parts ≡ true
EndedBy (closing why) over parts = ⊤
EndedBy closed over parts = list_any closes_gate parts ≡ true

-- the end of the run lasts
lasts : (was is : Bool) (phase : Phase) (parts : List Part) → (was ≡ true → is ≡ true) → EndedBy phase was parts → EndedBy phase is parts
lasts was is unborn parts so h = (h.0, λ ends. so (h.1 ends))
lasts was is opening parts so h = h
lasts was is serving parts so h = h
lasts was is (faulted code) parts so h = h
lasts was is (closing why) parts so h = h
lasts was is closed parts so h = h

-- what a part needs beside: one isn't dialled behind its end, and what ends all is the end of the run
abbrev Beside : (over : Bool) → List Part → Part → Type 0
Beside over parts (dialled z key) = list_any ends_gate parts ≡ false
Beside over parts (stopped why) = over ≡ true
Beside over parts _ = ⊤

module _ (n : ℕ) (x : Gateway) (over : Bool) (parts : List Part) (p : Part) where
  abbrev then : List Part
  then = parts ++ p ∷ []

  -- what is said of one part more
  more : (is : Part → Bool) (old new : Bool) → list_any is parts ≡ old → is p ≡ new → list_any is then ≡ (old || new)
  more is old new was now =
      list_any-append is parts (p ∷ []) ∙ ap₂ (λ (a b : Bool). a || b) was (or-false (is p) ∙ now)

  none : (is : Part → Bool) → list_any is parts ≡ false → is p ≡ false → list_any is then ≡ false
  none is was now = more is false false was now

  some : (is : Part → Bool) → list_any is parts ≡ true → list_any is then ≡ true
  some is was = more is true (is p) was refl

  here : (is : Part → Bool) → is p ≡ true → list_any is then ≡ true
  here is now = more is (list_any is parts) true refl now ∙ or-true (list_any is parts)

  -- a part that is no birth, and no end of one that isn't closed, leaves a phase
  rests : (phase : Phase) → is_birth p ≡ false → ends_gate p ≡ false → EndedBy phase over parts → EndedBy phase over then
  rests unborn unborn_too goes h = (
    none is_birth h.0 unborn_too,
    λ ends. h.1 (sym (or-false (list_any ends_gate parts)) ∙ sym (more ends_gate (list_any ends_gate parts) false refl goes) ∙ ends),
  )
  rests opening unborn_too goes h = none ends_gate h goes
  rests serving unborn_too goes h = none ends_gate h goes
  rests (faulted code) unborn_too goes h = some is_gate_fault h
  rests (closing why) unborn_too goes h = tt
  rests closed unborn_too goes h = some closes_gate h

  same : (y : Gateway) → y.phase ≡ x.phase → is_birth p ≡ false → ends_gate p ≡ false → EndedBy x.phase over parts
      → EndedBy y.phase over then
  same y is unborn_too goes h = subst (λ (phase : Phase). EndedBy phase over then) (sym is) (rests x.phase unborn_too goes h)

  at : (phase : Phase) → x.phase ≡ phase → EndedBy x.phase over parts → EndedBy phase over parts
  at phase is h = subst (λ (ph : Phase). EndedBy ph over parts) is h

  went_ends : (phase : Phase) → is_birth p ≡ false → ends_gate p ≡ false → EndedBy phase over parts → EndedBy (went_by phase) over then
  went_ends (faulted code) unborn_too goes h = tt
  went_ends unborn unborn_too goes h = rests unborn unborn_too goes h
  went_ends opening unborn_too goes h = rests opening unborn_too goes h
  went_ends serving unborn_too goes h = rests serving unborn_too goes h
  went_ends (closing why) unborn_too goes h = tt
  went_ends closed unborn_too goes h = rests closed unborn_too goes h

  stopped_ends : (why : Cause) (phase : Phase) → is_birth p ≡ false → over ≡ true → EndedBy phase over parts
      → EndedBy (stops_by why phase) over then
  stopped_ends why unborn unborn_too is h = (none is_birth h.0 unborn_too, λ ends. is)
  stopped_ends why opening unborn_too is h = tt
  stopped_ends why serving unborn_too is h = tt
  stopped_ends why (faulted code) unborn_too is h = some is_gate_fault h
  stopped_ends why (closing first) unborn_too is h = tt
  stopped_ends why closed unborn_too is h = some closes_gate h

-- EVERY PART OF IT

module _ (n : ℕ) (x : Gateway) (over : Bool) (parts : List Part) where
  broken_ends : (y : Gateway) → MayCome n x (e.Broke n) → y.phase ≡ broken_by x.phase
      → EndedBy y.phase over (parts ++ entry (e.Broke n) ∷ [])
  broken_ends y may is =
      subst (λ (phase : Phase). EndedBy phase over (parts ++ entry (e.Broke n) ∷ [])) (sym is)
      (⊎_elim (λ h. at_phase opening h.1 tt)
      (λ writes. ⊎_elim (λ h. at_phase serving h.1 tt) (λ h. at_phase (faulted h.1) h.2 tt) writes) may.1)
    where
      at_phase : (phase : Phase) → x.phase ≡ phase → EndedBy (broken_by phase) over (parts ++ entry (e.Broke n) ∷ [])
          → EndedBy (broken_by x.phase) over (parts ++ entry (e.Broke n) ∷ [])
      at_phase phase at h = subst (λ (ph : Phase). EndedBy (broken_by ph) over (parts ++ entry (e.Broke n) ∷ [])) (sym at) h

  entry_ends : (z : Entry) → MayCome n x z → (y : Gateway) → y.phase ≡ x.phase → EndedBy x.phase over parts
      → EndedBy (entered z y).phase over (parts ++ entry z ∷ [])
  entry_ends (e.Opened k) may y is h =
      none n x over parts (entry (e.Opened k)) ends_gate (at n x over parts (entry (e.Opened k)) opening may.1.1 h) refl
  entry_ends (e.Came k bytes) may y is h = same n x over parts (entry (e.Came k bytes)) (entered (e.Came k bytes) y) is refl refl h
  entry_ends (e.Ended k) may y is h = tt
  entry_ends (e.Went k bytes) may y is h =
      subst (λ (phase : Phase). EndedBy (went_by phase) over (parts ++ entry (e.Went k bytes) ∷ [])) (sym is)
      (went_ends n x over parts (entry (e.Went k bytes)) x.phase refl refl h)
  entry_ends (e.Broke k) may y is h =
      subst (λ (j : ℕ). EndedBy (entered (e.Broke j) y).phase over (parts ++ entry (e.Broke j) ∷ [])) (sym may.0)
      (broken_ends (entered (e.Broke n) y) (refl, may.1) (ap broken_by is))
  entry_ends (e.Closed k why) may y is h = here n x over parts (entry (e.Closed k why)) closes_gate refl
  entry_ends (e.Balked w) may y is h = same n x over parts (entry (e.Balked w)) y is refl refl h
  entry_ends (e.Accepted k d) may y is h = absurd may
  entry_ends (e.Dialled k to why) may y is h = absurd may
  entry_ends (e.DialFailed to why) may y is h = absurd may
  entry_ends (e.Shut k) may y is h = absurd may
  entry_ends e.Tick may y is h = absurd may
  entry_ends (e.Wait ready how) may y is h = absurd may

  -- frames are looked at while it goes on
  looked_ends : (points : _) (found_it : Found) (headers : _) → list_any ends_gate parts ≡ false
      → EndedBy (phase_by serving found_it) over (parts ++ looked points found_it headers ∷ [])
  looked_ends points (found.Fault code) headers h = here n x over parts (looked points (found.Fault code) headers) is_gate_fault refl
  looked_ends points (found.Opened s end) headers h = none n x over parts (looked points (found.Opened s end) headers) ends_gate h refl
  looked_ends points (found.Chunk s end) headers h = none n x over parts (looked points (found.Chunk s end) headers) ends_gate h refl
  looked_ends points (found.Ended s) headers h = none n x over parts (looked points (found.Ended s) headers) ends_gate h refl
  looked_ends points (found.Reset s code) headers h = none n x over parts (looked points (found.Reset s code) headers) ends_gate h refl
  looked_ends points (found.Broken s code) headers h = none n x over parts (looked points (found.Broken s code) headers) ends_gate h refl
  looked_ends points found.Silent headers h = none n x over parts (looked points found.Silent headers) ends_gate h refl
  looked_ends points (found.GoneAway last) headers h = none n x over parts (looked points (found.GoneAway last) headers) ends_gate h refl

  part_ends : (p : Part) (y : Gateway) → Steps n x p y → Beside over parts p → EndedBy x.phase over parts
      → EndedBy y.phase over (parts ++ p ∷ [])
  part_ends (entry z) y steps beside h =
      subst (λ (w : Gateway). EndedBy w.phase over (parts ++ entry z ∷ [])) (sym steps.1) (entry_ends z steps.0 _ refl h)
  part_ends (dialled z key) y steps beside h =
      subst (λ (w : Gateway). EndedBy w.phase over (parts ++ dialled z key ∷ [])) (sym steps.1)
      (none n x over parts (dialled z key) ends_gate beside refl)
  part_ends lacked y steps beside h =
      subst (λ (w : Gateway). EndedBy w.phase over (parts ++ lacked ∷ [])) (sym steps.1) tt
  part_ends (looked points found_it headers) y steps beside h =
      subst (λ (w : Gateway). EndedBy w.phase over (parts ++ looked points found_it headers ∷ [])) (sym steps.6)
      (subst (λ (phase : Phase). EndedBy (phase_by phase found_it) over (parts ++ looked points found_it headers ∷ [])) (sym steps.0)
      (looked_ends points found_it headers (at n x over parts lacked serving steps.0 h)))
  part_ends (asks s captured authority) y steps beside h =
      same n x over parts (asks s captured authority) y (ap (λ (w : Gateway). w.phase) steps.2) refl refl h
  part_ends (tells s heard begun) y steps beside h =
      same n x over parts (tells s heard begun) y (ap (λ (w : Gateway). w.phase) steps.2) refl refl h
  part_ends (put s bytes count) y steps beside h =
      same n x over parts (put s bytes count) y (ap (λ (w : Gateway). w.phase) steps.4) refl refl h
  part_ends (finished s) y steps beside h = same n x over parts (finished s) y (ap (λ (w : Gateway). w.phase) steps.3) refl refl h
  part_ends (credited s count) y steps beside h =
      same n x over parts (credited s count) y (ap (λ (w : Gateway). w.phase) steps.2) refl refl h
  part_ends (reset s code) y steps beside h = same n x over parts (reset s code) y (ap (λ (w : Gateway). w.phase) steps.2) refl refl h
  part_ends (dropped s begun) y steps beside h =
      same n x over parts (dropped s begun) y (ap (λ (w : Gateway). w.phase) steps.3) refl refl h
  part_ends (done s begun) y steps beside h = same n x over parts (done s begun) y (ap (λ (w : Gateway). w.phase) steps.3) refl refl h
  part_ends (stopped why) y steps beside h =
      subst (λ (w : Gateway). EndedBy w.phase over (parts ++ stopped why ∷ [])) (sym steps.1)
      (stopped_ends n x over parts (stopped why) why x.phase refl beside h)

-- IN EVERY RUN

-- what happens on a stream is no birth, and not the end of the run
beside_stream : (over : Bool) (parts : List Part) (l s : ℕ) (w : Shared) → Beside over parts (gateway_part l s w)
beside_stream over parts l s (asks_for authority) = tt
beside_stream over parts l s (told heard begun) = tt
beside_stream over parts l s (puts waiting count) = tt
beside_stream over parts l s finishes = tt
beside_stream over parts l s (credits count) = tt
beside_stream over parts l s (drops begun) = tt
beside_stream over parts l s (completes begun note) = tt

-- who wants a link dialled
wanted : (x : Machine) (z : Entry) (key : Key) → IsWanted x z key → (a : ℕ) × ((x.plain a).stage ≡ due)
wanted x (e.Dialled k to (whys.Gateway a)) key is = (a, is.due)
wanted x (e.Dialled k to whys.Discovery) key is = absurd is
wanted x (e.Dialled k to (whys.Upstream l s)) key is = absurd is
wanted x (e.Dialled k to (whys.Plain l)) key is = absurd is
wanted x (e.Dialled k to (whys.Direct l)) key is = absurd is
wanted x (e.Accepted k d) key is = absurd is
wanted x (e.DialFailed to why) key is = absurd is
wanted x (e.Opened k) key is = absurd is
wanted x (e.Came k bytes) key is = absurd is
wanted x (e.Ended k) key is = absurd is
wanted x (e.Went k bytes) key is = absurd is
wanted x (e.Broke k) key is = absurd is
wanted x (e.Shut k) key is = absurd is
wanted x (e.Closed k why) key is = absurd is
wanted x (e.Balked w) key is = absurd is
wanted x e.Tick key is = absurd is
wanted x (e.Wait ready how) key is = absurd is

module _ (g : NodeConfig) (x : Machine) (points : List Point) (stands : StandsFor g x points)
    (so_far : (n : ℕ) → EndedBy (x.gates n).phase x.control.over (gates_of n points)) where
  -- none is dialled behind the end of the run
  beside_gate : (k : ℕ) (p : Part) (y : Gateway) → Steps k (x.gates k) p y → GateGuard g x k p → Beside x.control.over (gates_of k points) p
  beside_gate k (dialled z key) y steps guard = by (list_any ends_gate (gates_of k points)) refl
    where
      by : (b : Bool) → list_any ends_gate (gates_of k points) ≡ b → list_any ends_gate (gates_of k points) ≡ false
      by false is = is
      by true is =
          let unborn_yet = (birth_at k (x.gates k) z key steps.0).1 in
          let never = at k (x.gates k) x.control.over (gates_of k points) lacked unborn unborn_yet (so_far k) in
          let who = wanted x z key guard.1 in
          absurd (false≢true (ap is_idle (sym who.1) ∙ over_idle g x points stands (never.1 is) who.0))
  beside_gate k (stopped why) y steps guard = absurd guard
  beside_gate k (entry z) y steps guard = tt
  beside_gate k lacked y steps guard = tt
  beside_gate k (looked ps found_it headers) y steps guard = tt
  beside_gate k (asks s captured authority) y steps guard = tt
  beside_gate k (tells s heard begun) y steps guard = tt
  beside_gate k (put s bytes count) y steps guard = tt
  beside_gate k (finished s) y steps guard = tt
  beside_gate k (credited s count) y steps guard = tt
  beside_gate k (reset s code) y steps guard = tt
  beside_gate k (dropped s begun) y steps guard = tt
  beside_gate k (done s begun) y steps guard = tt

  module _ (n : ℕ) where
    abbrev Goes : Machine → Point → Type 0
    Goes y p = EndedBy (y.gates n).phase y.control.over (gates_of n (points ++ p ∷ []))

    -- this part comes to it, or none
    one : (y : Machine) (p : Point) (q : Part) → gate_in n p ≡ q ∷ [] → Steps n (x.gates n) q (y.gates n)
        → (x.control.over ≡ true → y.control.over ≡ true) → Beside y.control.over (gates_of n points) q → Goes y p
    one y p q is steps over_too beside =
        subst (λ (ps : List Part). EndedBy (y.gates n).phase y.control.over ps)
        (sym (one_more (gate_in n) points p ∙ ap (λ (ps : List Part). gates_of n points ++ ps) is))
        (part_ends n (x.gates n) y.control.over (gates_of n points) q (y.gates n) steps beside
        (lasts x.control.over y.control.over (x.gates n).phase (gates_of n points) over_too (so_far n)))

    rest : (y : Machine) (p : Point) → gate_in n p ≡ [] → y.gates n ≡ x.gates n → (x.control.over ≡ true → y.control.over ≡ true)
        → Goes y p
    rest y p is same_gate over_too =
        subst (λ (ps : List Part). EndedBy (y.gates n).phase y.control.over ps)
        (sym (one_more (gate_in n) points p ∙ ap (λ (ps : List Part). gates_of n points ++ ps) is ∙ append-nil (gates_of n points)))
        (subst (λ (z : Gateway). EndedBy z.phase y.control.over (gates_of n points)) (sym same_gate)
        (lasts x.control.over y.control.over (x.gates n).phase (gates_of n points) over_too (so_far n)))

    -- a part of the link k, which becomes this
    at_link : (k : ℕ) (q : Part) (next : Gateway) (p : Point) (y : Machine) → gate_in n p ≡ cond (k == n) (q ∷ []) []
        → y.gates n ≡ cond (n == k) next (x.gates n) → y.control ≡ x.control → Steps k (x.gates k) q next
        → Beside x.control.over (gates_of k points) q → Goes y p
    at_link k q next p y says now calm steps beside =
        ⊎_elim (λ same.
        one y p q (says ∙ ap (λ (b : Bool). cond b (q ∷ []) []) (eq-eqb k n same))
        (subst (λ (z : Gateway). Steps n (x.gates n) q z)
        (sym (now ∙ ap (λ (b : Bool). cond b next (x.gates n)) (eq-eqb n k (sym same))))
        (subst (λ (j : ℕ). Steps j (x.gates j) q next) same steps)) over_too
        (subst (λ (b : Bool). Beside b (gates_of n points) q) (sym (ap (λ (m : control.Machine). m.over) calm))
        (subst (λ (j : ℕ). Beside x.control.over (gates_of j points) q) same beside)))
        (λ apart.
        rest y p (says ∙ ap (λ (b : Bool). cond b (q ∷ []) []) (ne_eqb k n apart))
        (now ∙ ap (λ (b : Bool). cond b next (x.gates n)) (ne_eqb n k (λ same. apart (sym same)))) over_too)
        (cases_eq k n)
      where
        over_too : x.control.over ≡ true → y.control.over ≡ true
        over_too is = ap (λ (m : control.Machine). m.over) calm ∙ is

    control_ends : (q : point.Point) (m : control.Machine) → model.Steps g x.control q m → ControlGuard x q
        → Goes (with_control q m x) (of_control q)
    control_ends (point.stopped why) m steps guard =
        one (with_control (point.stopped why) m x) (of_control (point.stopped why)) (stopped why) refl (guard.gates n, refl)
        (over_lasts g x.control m (point.stopped why) steps) (ap (λ (y : control.Machine). y.over) steps.1)
    control_ends q m steps guard = rest (with_control q m x) (of_control q) refl refl (over_lasts g x.control m q steps)

    ends_next : (y : Machine) (p : Point) → RunSteps g x p y → Goes y p
    ends_next y (of_control q) steps =
        subst (λ (z : Machine). Goes z (of_control q)) (sym steps.3) (control_ends q steps.0 steps.1 steps.2)
    ends_next y (of_link l p) steps =
        rest y (of_link l p) refl (ap (λ (z : Machine). z.gates n) steps.3) (λ is. ap (λ (z : Machine). z.control.over) steps.3 ∙ is)
    ends_next y (of_plain l p) steps =
        rest y (of_plain l p) refl (ap (λ (z : Machine). z.gates n) steps.2) (λ is. ap (λ (z : Machine). z.control.over) steps.2 ∙ is)
    ends_next y (of_gate k p) steps =
        at_link k p steps.0 (of_gate k p) y refl (ap (λ (z : Machine). z.gates n) steps.3) (ap (λ (z : Machine). z.control) steps.3) steps.1
        (beside_gate k p steps.0 steps.1 steps.2)
    ends_next y (of_stream l k s w) steps =
        at_link k (gateway_part l s w) steps.1 (of_stream l k s w) y refl (ap (λ (z : Machine). z.gates n) steps.4)
        (ap (λ (z : Machine). z.control) steps.4) steps.2 (beside_stream x.control.over (gates_of k points) l s w)

pub gates_end : (g : NodeConfig) (x : Machine) (points : List Point) → StandsFor g x points → (n : ℕ)
    → EndedBy (x.gates n).phase x.control.over (gates_of n points)
gates_end g x points (begins is none_yet) n =
    subst (λ (ps : List Point). EndedBy (x.gates n).phase x.control.over (gates_of n ps)) (sym none_yet)
    (subst (λ (z : Machine). EndedBy (z.gates n).phase z.control.over []) (sym is) (refl, λ ends. absurd (false≢true ends)))
gates_end g y more_points (goes_on {x = x} {points = points} stands p steps are) n =
    subst (λ (ps : List Point). EndedBy (y.gates n).phase y.control.over (gates_of n ps)) (sym are)
    (ends_next g x points stands (gates_end g x points stands) n y p steps)
