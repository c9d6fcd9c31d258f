-- What holds after any moves: active streams are in sound, used ones stay used, closed ones stay closed.
use Rattle.std.proofs.Common.{◌≡◌, ◌≢◌, ℕ, ◌≤◌, ◌<◌, Bool, true, false, cond, ◌||◌, ◌&&◌, List, [], ◌∷◌, Option, Some, None, is_some, inl, inr, ltb, refl, sym, ap, subst, ◌∙◌, arith}
use Rattle.std.specs.List.{fold}
use Rattle.std.specs.FinMap.{get, get-empty}
use Rattle.std.specs.Ordering.{nat_cmp}
use Rattle.std.proofs.lemmas.Bool.{false≢true, ltb-false, le-ltb}
use Rattle.std.proofs.lemmas.List.Sums.{fold_push}
use Rattle.hb_streams.specs.Numbers.{is_even}
use Rattle.hb_streams.specs.Resets.{is_among}
use Rattle.hb_streams.specs.Sides.{is_closed}
use Rattle.hb_streams.specs.States.{States, fresh, state_of, state_by}
use Rattle.hb_streams.specs.Moves.{Move, after, after_all}
use Rattle.hb_streams.specs.Laws.{MovesAddUp, ActiveAreInUse, StaysUsed, StaysClosed}
use Rattle.hb_streams.specs.declared.role.Role.{Role}
use Rattle.hb_streams.specs.declared.sides.Sides.{Sides}
use Rattle.hb_streams.specs.declared.state.State.TheVariants.{Idle, Open, HalfClosedLocal, HalfClosedRemote, Closed, Reset}
use Rattle.hb_streams.proofs.Begins.{is_idle, state_with_not_idle}
use Rattle.hb_streams.proofs.Follows.{follows, Changes}

pub moves_add_up : MovesAddUp
moves_add_up role moves s move stands = ap (λ t. after t move) stands ∙ sym (fold_push after (fresh role) moves move)

abbrev IsInUse : States → ℕ → Sides → Type 0
IsInUse s n sides = (is_even n ≡ false) × (n ≤ s.highest) × ((sides.own || sides.peer) ≡ true)

abbrev AreInUse : States → Type 0
AreInUse s = (n : ℕ) (sides : Sides) → get s.active n ≡ Some sides → IsInUse s n sides

value_of : {T : Type 0} (o : Option T) → is_some o ≡ true → (x : T) × (o ≡ Some x)
value_of None e = absurd (false≢true e)
value_of (Some x) e = (x, refl)

changed_in_use : (s t : States) (n : ℕ) (sides : Sides) → s.highest ≤ t.highest → AreInUse s → Changes s t n sides → IsInUse t n sides
changed_in_use s t n sides up sound change =
    elim change.from [
      | inl was ↦
          let held = value_of (get s.active n) was in
          let low : n ≤ s.highest = (sound n held.0 held.1).1 in
          ((sound n held.0 held.1).0, omega arith, change.side)
      | inr new ↦ (new.odd, new.used, change.side)
    ]

after_in_use : (s : States) (move : Move) → AreInUse s → AreInUse (after s move)
after_in_use s move sound n sides there =
    elim ((follows s move).held n sides there) [
      | inl before ↦
          let up : s.highest ≤ (after s move).highest = (follows s move).highest in
          let low : n ≤ s.highest = (sound n sides before).1 in
          ((sound n sides before).0, omega arith, (sound n sides before).2)
      | inr change ↦ changed_in_use s (after s move) n sides (follows s move).highest sound change
    ]

all_in_use : (s : States) (moves : List Move) → AreInUse s → AreInUse (fold after s moves)
all_in_use s [] sound = sound
all_in_use s (move ∷ moves) sound = all_in_use (after s move) moves (after_in_use s move sound)

none_held : (role : Role) → AreInUse (fresh role)
none_held role n sides there = absurd (false≢true (ap is_some (sym (get-empty nat_cmp n) ∙ there)))

pub active_are_in_use : ActiveAreInUse
active_are_in_use role moves = all_in_use (fresh role) moves (none_held role)

not_idle_by : (o : Option Sides) (even above among : Bool) → even ≡ false → above ≡ false
    → is_idle (state_by o (cond (even || above) Idle (cond among Reset Closed))) ≡ false
not_idle_by (Some sides) even above among odd low = state_with_not_idle sides
not_idle_by None true above among odd low = absurd (false≢true (sym odd))
not_idle_by None false true among odd low = absurd (false≢true (sym low))
not_idle_by None false false true odd low = refl
not_idle_by None false false false odd low = refl

used_by : (o : Option Sides) (n high : ℕ) (even above among : Bool) → is_even n ≡ even → ltb high n ≡ above
    → ((sides : Sides) → o ≡ Some sides → (is_even n ≡ false) × (n ≤ high))
    → state_by o (cond (even || above) Idle (cond among Reset Closed)) ≢ Idle → (is_even n ≡ false) × (n ≤ high)
used_by (Some sides) n high even above among e a sound not_idle = sound sides refl
used_by None n high true above among e a sound not_idle = absurd (not_idle refl)
used_by None n high false true among e a sound not_idle = absurd (not_idle refl)
used_by None n high false false among e a sound not_idle = (e, ltb-false high n a)

not_idle_after : (s : States) (move : Move) (n : ℕ) → AreInUse s → state_of s n ≢ Idle → state_of (after s move) n ≢ Idle
not_idle_after s move n sound not_idle idle =
    let used = used_by (get s.active n) n s.highest (is_even n) _ (is_among s.resets n) refl refl
    (λ sides there. ((sound n sides there).0, (sound n sides there).1)) not_idle in
    let up : s.highest ≤ (after s move).highest = (follows s move).highest in
    let low : n ≤ s.highest = used.1 in
    let still : n ≤ (after s move).highest = omega arith in
    false≢true (sym (not_idle_by (get (after s move).active n) (is_even n) _ (is_among (after s move).resets n)
    used.0 (le-ltb (after s move).highest n still)) ∙ ap is_idle idle)

pub stays_used : StaysUsed
stays_used role moves move n not_idle =
    subst (λ t. state_of t n ≢ Idle) (sym (fold_push after (fresh role) moves move))
    (not_idle_after (after_all role moves) move n (active_are_in_use role moves) not_idle)

open_not_closed : (own peer : Bool) → (own || peer) ≡ true
    → is_closed (cond (own && peer) Open (cond peer HalfClosedLocal (cond own HalfClosedRemote Closed))) ≡ false
open_not_closed true true some = refl
open_not_closed true false some = refl
open_not_closed false true some = refl
open_not_closed false false some = absurd (false≢true some)

closed_by : (o : Option Sides) (n high : ℕ) (even above among : Bool) → is_even n ≡ even → ltb high n ≡ above
    → ((sides : Sides) → o ≡ Some sides → (sides.own || sides.peer) ≡ true)
    → is_closed (state_by o (cond (even || above) Idle (cond among Reset Closed))) ≡ true
    → (o ≡ None) × (is_even n ≡ false) × (n ≤ high)
closed_by (Some sides) n high even above among e a side is =
    absurd (false≢true (sym (open_not_closed sides.own sides.peer (side sides refl)) ∙ is))
closed_by None n high true above among e a side is = absurd (false≢true is)
closed_by None n high false true among e a side is = absurd (false≢true is)
closed_by None n high false false among e a side is = (refl, e, ltb-false high n a)

closed_when : (o : Option Sides) (even above among : Bool) → o ≡ None → even ≡ false → above ≡ false
    → is_closed (state_by o (cond (even || above) Idle (cond among Reset Closed))) ≡ true
closed_when (Some sides) even above among none odd low = absurd (false≢true (sym (ap is_some none)))
closed_when None true above among none odd low = absurd (false≢true (sym odd))
closed_when None false true among none odd low = absurd (false≢true (sym low))
closed_when None false false true none odd low = refl
closed_when None false false false none odd low = refl

none_by : (o : Option Sides) → ((sides : Sides) → o ≡ Some sides → ⊥) → o ≡ None
none_by None never = refl
none_by (Some sides) never = absurd (never sides refl)

none_then_some : (o : Option Sides) (sides : Sides) → o ≡ None → o ≡ Some sides → ⊥
none_then_some o sides none some = false≢true (ap is_some (sym none ∙ some))

-- a used number without an active stream gets none
none_after : (s : States) (move : Move) (n : ℕ) → get s.active n ≡ None → n ≤ s.highest → get (after s move).active n ≡ None
none_after s move n none low = none_by (get (after s move).active n) (λ sides there.
    elim ((follows s move).held n sides there) [
      | inl before ↦ none_then_some (get s.active n) sides none before
      | inr change ↦ elim change.from [
        | inl was ↦ false≢true (sym (ap is_some none) ∙ was)
        | inr new ↦ let up : s.highest < n = new.above in omega arith
      ]
    ])

closed_after : (s : States) (move : Move) (n : ℕ) → AreInUse s → is_closed (state_of s n) ≡ true
    → is_closed (state_of (after s move) n) ≡ true
closed_after s move n sound is =
    let was = closed_by (get s.active n) n s.highest (is_even n) _ (is_among s.resets n) refl refl
    (λ sides there. (sound n sides there).2) is in
    let up : s.highest ≤ (after s move).highest = (follows s move).highest in
    let low : n ≤ s.highest = was.2 in
    let still : n ≤ (after s move).highest = omega arith in
    closed_when (get (after s move).active n) (is_even n) _ (is_among (after s move).resets n)
    (none_after s move n was.0 low) was.1 (le-ltb (after s move).highest n still)

pub stays_closed : StaysClosed
stays_closed role moves move n is =
    subst (λ t. is_closed (state_of t n) ≡ true) (sym (fold_push after (fresh role) moves move))
    (closed_after (after_all role moves) move n (active_are_in_use role moves) is)
