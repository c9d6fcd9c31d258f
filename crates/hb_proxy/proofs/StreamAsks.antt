-- For which plain link a stream was asked: each link asks for one, and each stream is asked for once; and a link that has a stream asked for
-- it.
use Rattle.std.proofs.Common.{◌≡◌, ◌≢◌, ◌⊎◌, inl, inr, ⊎_elim, ℕ, ◌<◌, ◌==◌, ◌||◌, Bool, true, false, cond, List, [], ◌∷◌, ◌++◌, fold, refl, ap, sym, ◌∙◌, subst, arith}
use Rattle.std.proofs.lemmas.Bool.{cases_eq, eq-eqb, ne_eqb, false≢true}
use Rattle.std.proofs.lemmas.Grind.{fold-append, flat_map-append}
use Rattle.std.proofs.lemmas.List.{append_assoc}
use Rattle.std.specs.List.{AllByRecursion}
use Rattle.hb_base.specs.declared.target.Target.{Target}
use Rattle.hb_captured.proofs.Kept.{all_keep}
use Rattle.hb_captured.proofs.Streamed.{on_gate, all_streamed}
use Rattle.hb_captured.specs.Part as captured
use Rattle.hb_captured.specs.Runs.{IsOnStream}
use Rattle.hb_captured.specs.Sides.{Stream, was, is_asked, stream_of, stream_by, no_stream}
use Rattle.hb_gateway.specs.Asks.{asked_in, asked_of}
use Rattle.hb_gateway.specs.Part as gateway
use Rattle.hb_gateway.specs.Response as response
use Rattle.hb_gateway.specs.Response.{opens, brings, fails}
use Rattle.hb_model.proofs.Grown.{one_more}
use Rattle.hb_model.specs.Point as point
use Rattle.hb_model.specs.declared.config.NodeConfig.{NodeConfig}
use Rattle.hb_world.proofs.LifeLemmas.{or-true}
use Rattle.hb_proxy.specs.Held.{at_start}
use Rattle.hb_proxy.specs.Machine.{Machine, plain_local}
use Rattle.hb_proxy.specs.Points.{Point, of_control, of_link, of_plain, of_gate, of_stream, plain_in, plain_of, gate_in, gates_of}
use Rattle.hb_proxy.specs.Runs.{PlainGuard, Steps, StandsFor, begins, goes_on}
use Rattle.hb_proxy.specs.Shared.{Shared, asks, tells, puts, finishes, credits, drops, completes, captured_part}
use Rattle.hb_proxy.specs.Streams.{IsAsked}
use Rattle.hb_proxy.proofs.Gates.{obey_gates}
use Rattle.hb_proxy.proofs.Places.{place_of}
use Rattle.hb_proxy.proofs.Plain.{plain_runs}
use Rattle.hb_proxy.proofs.Streamed.{due_unasked}

-- ONE POINT MORE

pub asked_then : (points : List Point) (p : Point) (l n s : ℕ) → IsAsked points l n s → IsAsked (points ++ p ∷ []) l n s
asked_then points p l n s is = record {
  authority = is.authority;
  before = is.before;
  behind = is.behind ++ p ∷ [];
  at = ap (λ (ps : List Point). ps ++ p ∷ []) is.at
      ∙ append_assoc is.before (of_stream l n s (asks is.authority) ∷ is.behind) (p ∷ []);
}

pub asked_here : (points : List Point) (l n s : ℕ) (authority : Target)
    → IsAsked (points ++ of_stream l n s (asks authority) ∷ []) l n s
asked_here points l n s authority = record { authority = authority; before = points; behind = []; at = refl }

-- it was asked for before, or is by the last point
asked_split : (points : List Point) (p : Point) (l n s : ℕ) → IsAsked (points ++ p ∷ []) l n s
    → IsAsked points l n s ⊎ ((authority : Target) × (p ≡ of_stream l n s (asks authority)))
asked_split points p l n s is =
    ⊎_elim (λ h. inr (is.authority, sym h.1))
    (λ h. inl (record { authority = is.authority; before = is.before; behind = h.0; at = h.1 }))
    (place_of points p is.before (of_stream l n s (asks is.authority)) is.behind is.at)

none_asked : (l n s : ℕ) → IsAsked [] l n s → ⊥
none_asked l n s is = by is.before is.at
  where
    by : (before : List Point) → [] ≡ before ++ of_stream l n s (asks is.authority) ∷ is.behind → ⊥
    by [] none = cc
    by (q ∷ before) none = cc

-- the link says so
asked_stays : (parts : List captured.Part) → fold (λ told q. is_asked q || told) true parts ≡ true
asked_stays [] = refl
asked_stays (q ∷ parts) = ap (λ (b : Bool). fold (λ told r. is_asked r || told) b parts) (or-true (is_asked q)) ∙ asked_stays parts

pub asked_told : (points : List Point) (l n s : ℕ) → IsAsked points l n s → was is_asked (plain_of l points) ≡ true
asked_told points l n s is =
    let p : Point = of_stream l n s (asks is.authority) in
    ap (λ (ps : List Point). was is_asked (plain_of l ps)) is.at
    ∙ ap (was is_asked) (flat_map-append (plain_in l) is.before (p ∷ is.behind))
    ∙ fold-append (λ told q. is_asked q || told) false (plain_of l is.before) (plain_of l (p ∷ is.behind))
    ∙ ap (λ (b : Bool). fold (λ told q. is_asked q || told) (was is_asked (plain_of l is.before))
    (cond b (captured.asked n s ∷ []) [] ++ plain_of l is.behind)) (eq-eqb l l refl)
    ∙ asked_stays (plain_of l is.behind)

-- and the link to the gateway
asked_listed : (points : List Point) (l n s : ℕ) → (is : IsAsked points l n s)
    → asked_of (gates_of n points) ≡ asked_of (gates_of n is.before) ++ s ∷ asked_of (gates_of n is.behind)
asked_listed points l n s is =
    let p : Point = of_stream l n s (asks is.authority) in
    ap (λ (ps : List Point). asked_of (gates_of n ps)) is.at
    ∙ ap asked_of (flat_map-append (gate_in n) is.before (p ∷ is.behind))
    ∙ flat_map-append asked_in (gates_of n is.before) (gates_of n (p ∷ is.behind))
    ∙ ap (λ (b : Bool). asked_of (gates_of n is.before)
    ++ asked_of (cond b (gateway.asks s l is.authority ∷ []) [] ++ gates_of n is.behind)) (eq-eqb n n refl)

-- what is so of all is so of one
one_of : {A : Type 0} (P : A → Type 0) (all front : List A) (a : A) (rest : List A) → all ≡ front ++ a ∷ rest → AllByRecursion P all → P a
one_of P all front a rest is each = by front (subst (AllByRecursion P) is each)
  where
    by : (front : List _) → AllByRecursion P (front ++ a ∷ rest) → P a
    by [] h = h.0
    by (b ∷ front) h = by front h.1

-- EACH LINK ASKS FOR ONE, AND EACH STREAM IS ASKED FOR ONCE

module _ (g : NodeConfig) (x y : Machine) (points : List Point) (stands : StandsFor g x points) (p : Point) (steps : Steps g x p y)
    (l n s : ℕ) (authority : Target) (is : p ≡ of_stream l n s (asks authority)) where
  now : Steps g x (of_stream l n s (asks authority)) y
  now = subst (λ (q : Point). Steps g x q y) is steps

  -- a link that asks is due, so it asked for none
  link_new : (m t : ℕ) → IsAsked points l m t → ⊥
  link_new m t old =
      false≢true (sym (due_unasked (plain_local x l) (plain_of l points)
      (all_streamed l (at_start g) (plain_local x l) (plain_of l points) (plain_runs g x points l stands)) now.0.0)
      ∙ asked_told points l m t old)

  -- a stream that is asked for is above all that were
  stream_new : (k : ℕ) → IsAsked points k n s → ⊥
  stream_new k old =
      let q : Point = of_stream l n s (asks authority) in
      let law = (obey_gates g y (points ++ q ∷ []) n (goes_on stands q now refl)).asks in
      let may = law (gates_of n points) (gateway.asks s l authority) []
      (one_more (gate_in n) points q
      ∙ ap (λ (b : Bool). gates_of n points ++ cond b (gateway.asks s l authority ∷ []) []) (eq-eqb n n refl)) in
      let less = one_of (λ (j : ℕ). j < s) (asked_of (gates_of n points)) (asked_of (gates_of n old.before)) s
      (asked_of (gates_of n old.behind)) (asked_listed points k n s old) may.above in
      omega (arith, less)

-- two asks by one point are one
same_ask : (p : Point) (l n s k m t : ℕ) (authority to : Target) → p ≡ of_stream l n s (asks authority) → p ≡ of_stream k m t (asks to)
    → (l ≡ k) × (n ≡ m) × (s ≡ t)
same_ask p l n s k m t authority to is other =
    let both : of_stream l n s (asks authority) ≡ of_stream k m t (asks to) = sym is ∙ other in
    (let a : l ≡ k = cc in a, let b : n ≡ m = cc in b, let c : s ≡ t = cc in c)

pub link_asks_once : (g : NodeConfig) (x : Machine) (points : List Point) → StandsFor g x points → (l n s m t : ℕ) → IsAsked points l n s
    → IsAsked points l m t → (n ≡ m) × (s ≡ t)
link_asks_once g x points (begins is empty) l n s m t a b =
    absurd (none_asked l n s (subst (λ (ps : List Point). IsAsked ps l n s) empty a))
link_asks_once g y more (goes_on {x = x} {points = points} stands p steps are) l n s m t a b =
    ⊎_elim (λ old. ⊎_elim (λ other. link_asks_once g x points stands l n s m t old other)
    (λ new. absurd (link_new g x y points stands p steps l m t new.0 new.1 n s old)) second)
    (λ new. ⊎_elim (λ other. absurd (link_new g x y points stands p steps l n s new.0 new.1 m t other))
    (λ again. let same = same_ask p l n s l m t new.0 again.0 new.1 again.1 in (same.1, same.2)) second) first
  where
    first : IsAsked points l n s ⊎ ((authority : Target) × (p ≡ of_stream l n s (asks authority)))
    first = asked_split points p l n s (subst (λ (ps : List Point). IsAsked ps l n s) are a)

    second : IsAsked points l m t ⊎ ((authority : Target) × (p ≡ of_stream l m t (asks authority)))
    second = asked_split points p l m t (subst (λ (ps : List Point). IsAsked ps l m t) are b)

pub stream_asked_once : (g : NodeConfig) (x : Machine) (points : List Point) → StandsFor g x points → (l k n s : ℕ) → IsAsked points l n s
    → IsAsked points k n s → l ≡ k
stream_asked_once g x points (begins is empty) l k n s a b =
    absurd (none_asked l n s (subst (λ (ps : List Point). IsAsked ps l n s) empty a))
stream_asked_once g y more (goes_on {x = x} {points = points} stands p steps are) l k n s a b =
    ⊎_elim (λ old. ⊎_elim (λ other. stream_asked_once g x points stands l k n s old other)
    (λ new. absurd (stream_new g x y points stands p steps k n s new.0 new.1 l old)) second)
    (λ new. ⊎_elim (λ other. absurd (stream_new g x y points stands p steps l n s new.0 new.1 k other))
    (λ again. (same_ask p l n s k n s new.0 again.0 new.1 again.1).0) second) first
  where
    first : IsAsked points l n s ⊎ ((authority : Target) × (p ≡ of_stream l n s (asks authority)))
    first = asked_split points p l n s (subst (λ (ps : List Point). IsAsked ps l n s) are a)

    second : IsAsked points k n s ⊎ ((authority : Target) × (p ≡ of_stream k n s (asks authority)))
    second = asked_split points p k n s (subst (λ (ps : List Point). IsAsked ps k n s) are b)

-- A LINK THAT HAS A STREAM ASKED FOR IT

abbrev HasAsked : List Point → ℕ → Stream → Type 0
HasAsked points l t = t.gate ≢ 0 → IsAsked points l t.gate t.number

-- what a part of the link alone makes of its stream is nothing
part_stream : (g : NodeConfig) (x : Machine) (l : ℕ) (q : captured.Part) (t : Stream) → PlainGuard g x l q → stream_by t q ≡ t
part_stream g x l (captured.asked gate stream) t guard = absurd guard
part_stream g x l (captured.hears heard begun) t guard = absurd guard
part_stream g x l (captured.loosed begun) t guard = absurd guard
part_stream g x l (captured.completed begun note) t guard = absurd guard
part_stream g x l _ t guard = refl

module _ (points : List Point) (l n s : ℕ) (t : Stream) (old : HasAsked points l t) where
  abbrev Then : Shared → Stream → Type 0
  Then w u = HasAsked (points ++ of_stream l n s w ∷ []) l u

  keeps : (w : Shared) → Then w t
  keeps w some = asked_then points (of_stream l n s w) l t.gate t.number (old some)

  shared_stream : (w : Shared) → Then w (stream_by t (captured_part n s w))
  shared_stream (asks authority) some = asked_here points l n s authority
  shared_stream (tells (opens end) begun) some = keeps (tells (opens end) begun) some
  shared_stream (tells (brings bytes) begun) some = keeps (tells (brings bytes) begun) some
  shared_stream (tells response.ends begun) some = keeps (tells response.ends begun) some
  shared_stream (tells (fails why) begun) some = absurd (some refl)
  shared_stream (puts waiting count) some = keeps (puts waiting count) some
  shared_stream finishes some = keeps finishes some
  shared_stream (credits count) some = keeps (credits count) some
  shared_stream (drops begun) some = absurd (some refl)
  shared_stream (completes begun note) some = absurd (some refl)

module _ (g : NodeConfig) (x y : Machine) (points : List Point) (l : ℕ) (old : HasAsked points l (stream_of (plain_of l points))) where
  abbrev before_it : Stream
  before_it = stream_of (plain_of l points)

  still : (p : Point) (t : Stream) → t ≡ before_it → HasAsked (points ++ p ∷ []) l t
  still p t same =
      subst (λ (u : Stream). HasAsked (points ++ p ∷ []) l u) (sym same)
      (λ some. asked_then points p l before_it.gate before_it.number (old some))

  stream_next : (p : Point) → Steps g x p y → HasAsked (points ++ p ∷ []) l (fold stream_by before_it (plain_in l p))
  stream_next (of_control (point.applied k r)) steps = still (of_control (point.applied k r)) before_it refl
  stream_next (of_control (point.stopped why)) steps = still (of_control (point.stopped why)) before_it refl
  stream_next (of_control q) steps = still (of_control q) before_it refl
  stream_next (of_link k q) steps = still (of_link k q) before_it refl
  stream_next (of_gate n q) steps = still (of_gate n q) before_it refl
  stream_next (of_plain k q) steps =
      still (of_plain k q) (fold stream_by before_it (cond (k == l) (q ∷ []) []))
      (⊎_elim (λ same. ap (λ (b : Bool). fold stream_by before_it (cond b (q ∷ []) [])) (eq-eqb k l same)
      ∙ part_stream g x k q before_it steps.1)
      (λ apart. ap (λ (b : Bool). fold stream_by before_it (cond b (q ∷ []) [])) (ne_eqb k l apart)) (cases_eq k l))
  stream_next (of_stream k n s w) steps =
      ⊎_elim (λ same.
      subst (λ (u : Stream). HasAsked (points ++ of_stream k n s w ∷ []) l u)
      (sym (ap (λ (b : Bool). fold stream_by before_it (cond b (captured_part n s w ∷ []) [])) (eq-eqb k l same)))
      (subst (λ (j : ℕ). HasAsked (points ++ of_stream j n s w ∷ []) l (stream_by before_it (captured_part n s w))) (sym same)
      (shared_stream points l n s before_it old w)))
      (λ apart.
      still (of_stream k n s w) (fold stream_by before_it (cond (k == l) (captured_part n s w ∷ []) []))
      (ap (λ (b : Bool). fold stream_by before_it (cond b (captured_part n s w ∷ []) [])) (ne_eqb k l apart)))
      (cases_eq k l)

streams_asked : (g : NodeConfig) (x : Machine) (points : List Point) → StandsFor g x points → (l : ℕ)
    → HasAsked points l (stream_of (plain_of l points))
streams_asked g x points (begins is empty) l some =
    absurd (some (ap (λ (ps : List Point). (stream_of (plain_of l ps)).gate) empty))
streams_asked g y more (goes_on {x = x} {points = points} stands p steps are) l some =
    subst (λ (ps : List Point). HasAsked ps l (stream_of (plain_of l ps))) (sym are)
    (subst (λ (t : Stream). HasAsked (points ++ p ∷ []) l t)
    (sym (ap stream_of (one_more (plain_in l) points p) ∙ fold-append stream_by no_stream (plain_of l points) (plain_in l p)))
    (stream_next g x y points l (streams_asked g x points stands l) p steps)) some

-- so it is of the link's own numbers
pub link_asked : (g : NodeConfig) (x : Machine) (points : List Point) → StandsFor g x points → (l : ℕ) → IsOnStream (x.plain l)
    → IsAsked points l (x.plain l).gate (x.plain l).stream
link_asked g x points stands l on =
    subst (HasAsked points l)
    (all_keep l (at_start g) (plain_local x l) (plain_of l points) (plain_runs g x points l stands)).tells.stream
    (streams_asked g x points stands l) (on_gate (x.plain l).gate on)
