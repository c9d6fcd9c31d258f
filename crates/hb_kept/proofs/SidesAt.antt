-- The sides of a stream, move after move of the streams.
use Rattle.std.proofs.Common.{◌≡◌, ◌≢◌, ℕ, Bool, true, false, cond, ◌||◌, ◌&&◌, Option, Some, None, is_some, refl, ap, sym, ◌∙◌}
use Rattle.std.specs.Prelude.{nat_lt}
use Rattle.std.specs.FinMap.{get}
use Rattle.std.proofs.lemmas.Bool.{false≢true}
use Rattle.hb_map.specs.Keyed.{written}
use Rattle.hb_map.proofs.Laws.{put_here, put_elsewhere, removed_here, removed_elsewhere, written_here, written_elsewhere}
use Rattle.hb_streams.specs.Moves.{begun, closed, reset, own_side_ended, peer_side_ended}
use Rattle.hb_streams.specs.Numbers.{is_even}
use Rattle.hb_streams.specs.Resets.{is_among}
use Rattle.hb_streams.specs.Sides.{sides_of}
use Rattle.hb_streams.specs.States.{States, state_of, state_by, state_of_others}
use Rattle.hb_streams.specs.declared.sides.Sides.{Sides}
use Rattle.hb_streams.specs.declared.state.State.TheVariants.{Idle, Open, HalfClosedLocal, HalfClosedRemote, Closed, Reset}
use Rattle.hb_conn.specs.Faults.{is_active}
use Rattle.hb_kept.specs.Sides.{neither, own_ends, peer_ends}

abbrev pub sides_at : States → ℕ → Sides
sides_at s n = sides_of (state_of s n)

-- those of a record of the stream, where there is one
abbrev sides_in : Option Sides → Sides
sides_in None = neither
sides_in (Some w) = w

others_by : (even above among : Bool) → sides_of (cond (even || above) Idle (cond among Reset Closed)) ≡ neither
others_by true above among = refl
others_by false true among = refl
others_by false false true = refl
others_by false false false = refl

back_by : (own peer : Bool)
    → sides_of (cond (own && peer) Open (cond peer HalfClosedLocal (cond own HalfClosedRemote Closed)))
    ≡ record { own = own; peer = peer }
back_by true true = refl
back_by true false = refl
back_by false true = refl
back_by false false = refl

shown_by : (s : States) (n : ℕ) (o : Option Sides) → sides_of (state_by o (state_of_others s n)) ≡ sides_in o
shown_by s n None = others_by (is_even n) (nat_lt s.highest n) (is_among s.resets n)
shown_by s n (Some w) = back_by w.own w.peer

shown : (s : States) (n : ℕ) → sides_at s n ≡ sides_in (get s.active n)
shown s n = shown_by s n (get s.active n)

pub at_same : (old new : States) (n : ℕ) → get new.active n ≡ get old.active n → sides_at new n ≡ sides_at old n
at_same old new n is = shown new n ∙ ap sides_in is ∙ sym (shown old n)

none_at : (s : States) (n : ℕ) → get s.active n ≡ None → sides_at s n ≡ neither
none_at s n none = shown s n ∙ ap sides_in none

some_at : (s : States) (n : ℕ) (w : Sides) → get s.active n ≡ Some w → sides_at s n ≡ w
some_at s n w is = shown s n ∙ ap sides_in is

-- the stream n has these sides, and each other one the sides that it had
pub record Changes (n : ℕ) (now : Sides) (old new : States) : Type 0 where
  pub here : sides_at new n ≡ now
  pub others : (m : ℕ) → m ≢ n → sides_at new m ≡ sides_at old m

abbrev pub Others : ℕ → States → States → Type 0
Others n old new = (m : ℕ) → m ≢ n → sides_at new m ≡ sides_at old m

abbrev pub All : States → States → Type 0
All old new = (m : ℕ) → sides_at new m ≡ sides_at old m

pub all_same : (old new : States) → new ≡ old → All old new
all_same old new is = λ m. ap (λ (s : States). sides_at s m) is

pub closes : (old : States) (n : ℕ) → Changes n neither old (closed old n)
closes old n = record {
  here = none_at (closed old n) n (removed_here old.active n);
  others = λ m apart. at_same old (closed old n) m (removed_elsewhere old.active n m apart);
}

pub resets : (old : States) (n : ℕ) → Changes n neither old (reset old n)
resets old n = record {
  here = none_at (reset old n) n (removed_here old.active n);
  others = λ m apart. at_same old (reset old n) m (removed_elsewhere old.active n m apart);
}

pub begins : (old : States) (n : ℕ) (sides : Sides) → Changes n sides old (begun old n sides)
begins old n sides = record {
  here = some_at (begun old n sides) n sides (put_here old.active n sides);
  others = λ m apart. at_same old (begun old n sides) m (put_elsewhere old.active n sides m apart);
}

-- a stream without an active side
neither_by : (own peer : Bool) → (own || peer) ≡ false → record { own = own; peer = peer } ≡ neither
neither_by false false none = refl
neither_by true peer none = absurd (false≢true (sym none))
neither_by false true none = absurd (false≢true (sym none))

pub inactive_neither : (s : States) (n : ℕ) → is_active s n ≡ false → sides_at s n ≡ neither
inactive_neither s n none = neither_by (sides_at s n).own (sides_at s n).peer none

or_false : (b : Bool) → (b || false) ≡ b
or_false true = refl
or_false false = refl

-- other sides are written where one of them is open, else the stream is closed
writes : (old : States) (n : ℕ) (was sides now : Sides) → get old.active n ≡ Some was → now ≡ sides → (b : Bool)
    → (sides.own || sides.peer) ≡ b
    → Changes n now old (cond b (record old { active = written old.active n sides }) (closed old n))
writes old n was sides now is same true some =
    let new = record old { active = written old.active n sides } in
    record {
      here = some_at new n sides (written_here old.active n sides (ap is_some is)) ∙ sym same;
      others = λ m apart. at_same old new m (written_elsewhere old.active n sides m apart);
    }
writes old n was sides now is same false none =
    let all = closes old n in
    record { here = all.here ∙ sym (neither_by sides.own sides.peer none) ∙ sym same; others = all.others }

own_by : (old : States) (n : ℕ) (o : Option Sides) → get old.active n ≡ o
    → Changes n (own_ends true (sides_at old n)) old (own_side_ended old n o)
own_by old n None is =
    let none = none_at old n is in
    record { here = none ∙ ap (own_ends true) (sym none); others = λ m apart. refl }
own_by old n (Some w) is =
    let sides = record w { own = false } in
    writes old n w sides (own_ends true (sides_at old n)) is (ap (own_ends true) (some_at old n w is)) (false || w.peer) refl

pub own_side_ends : (old : States) (n : ℕ) → Changes n (own_ends true (sides_at old n)) old (own_side_ended old n (get old.active n))
own_side_ends old n = own_by old n (get old.active n) refl

peer_by : (old : States) (n : ℕ) (o : Option Sides) → get old.active n ≡ o
    → Changes n (peer_ends true (sides_at old n)) old (peer_side_ended old n o)
peer_by old n None is =
    let none = none_at old n is in
    record { here = none ∙ ap (peer_ends true) (sym none); others = λ m apart. refl }
peer_by old n (Some w) is =
    let sides = record w { peer = false } in
    writes old n w sides (peer_ends true (sides_at old n)) is (ap (peer_ends true) (some_at old n w is)) (w.own || false) refl

pub peer_side_ends : (old : States) (n : ℕ) → Changes n (peer_ends true (sides_at old n)) old (peer_side_ended old n (get old.active n))
peer_side_ends old n = peer_by old n (get old.active n) refl
