-- What one move changes: the highest number doesn't fall, and an active stream was so before or has a new odd number.
use Rattle.std.proofs.Common.{◌≡◌, ℕ, ◌%◌, ◌≤◌, ◌<◌, Bool, true, false, not, cond, ◌||◌, ◌&&◌, Option, Some, None, is_some, Result, Ok, Err, ◌⊎◌, inl, inr, ◌==◌, refl, sym, ap, subst, ◌∙◌, arith}
use Rattle.std.specs.FinMap.{get}
use Rattle.std.proofs.lemmas.Bool.{ne_eqb}
use Rattle.hb_map.specs.Keyed.{written}
use Rattle.hb_streams.specs.Numbers.{is_even, next_odd}
use Rattle.hb_frames.specs.Numbers.{data_kind, headers_kind, rst_stream_kind, refused_stream}
use Rattle.hb_streams.specs.Sides.{both_open}
use Rattle.hb_streams.specs.States.{States}
use Rattle.hb_streams.specs.Answers.{answer_of}
use Rattle.hb_streams.specs.Moves.{Move, receives, begins, sends_end, sends_reset, begun, closed, refused, own_side_ended, peer_side_ended, peer_ended, after_answer, after_number, after}
use Rattle.hb_streams.specs.Laws.{NumbersRise, HighestStays}
use Rattle.hb_streams.specs.declared.sides.Sides.{Sides}
use Rattle.hb_streams.specs.declared.step.Step.{Step}
use Rattle.hb_streams.specs.declared.step.Step.TheVariants.{New, Goes, Ignored}
use Rattle.hb_streams.specs.declared.fault.StreamFault.{StreamFault}
use Rattle.hb_streams.specs.declared.fault.OpenFault.TheVariants.{Full, Spent}
use Rattle.hb_streams.proofs.Begins.{uses_number, number_is_above}
use Rattle.hb_streams.proofs.Keys.{held-insert, held-remove, held-written}

-- the stream q begins between s and t
pub record IsNew (s t : States) (q : ℕ) : Type 0 where
  pub odd : is_even q ≡ false
  pub above : s.highest < q
  pub used : q ≤ t.highest

-- the stream q has other sides in t than in s
pub record Changes (s t : States) (q : ℕ) (sides : Sides) : Type 0 where
  pub side : (sides.own || sides.peer) ≡ true
  pub from : (is_some (get s.active q) ≡ true) ⊎ IsNew s t q

pub record Follows (s t : States) : Type 0 where
  pub held : (q : ℕ) (sides : Sides) → get t.active q ≡ Some sides → (get s.active q ≡ Some sides) ⊎ Changes s t q sides
  pub highest : s.highest ≤ t.highest

stays : (s : States) → Follows s s
stays s = record { held = λ q sides there. inl there; highest = omega arith }

closes : (s : States) (n : ℕ) → Follows s (closed s n)
closes s n = record { held = λ q sides there. inl (held-remove s.active n sides q there); highest = omega arith }

begins_new : (s : States) (n : ℕ) (sides : Sides) → (sides.own || sides.peer) ≡ true → is_even n ≡ false → s.highest < n
    → Follows s (begun s n sides)
begins_new s n sides some odd above = record {
  held = λ q w there. elim (held-insert s.active n sides w q there) [
    | inl put ↦ inr (record {
      side = ap (λ (x : Sides). x.own || x.peer) put.1 ∙ some;
      from = inr (record {
        odd = ap is_even put.0 ∙ odd;
        above = subst (λ p. s.highest < p) (sym put.0) above;
        used = subst (λ p. p ≤ n) (sym put.0) (omega arith);
      });
    })
    | inr before ↦ inl before
  ];
  highest = omega arith;
}

sides_by : (s : States) (n : ℕ) (sides : Sides) (b : Bool) → (sides.own || sides.peer) ≡ b
    → Follows s (cond b (record s { active = written s.active n sides }) (closed s n))
sides_by s n sides true some = record {
  held = λ q w there. elim (held-written s.active n sides w q there) [
    | inl put ↦ inr (record { side = ap (λ (x : Sides). x.own || x.peer) put.0 ∙ some; from = inl put.1 })
    | inr before ↦ inl before
  ];
  highest = omega arith;
}
sides_by s n sides false none = closes s n

own_ends : (s : States) (n : ℕ) (held : Option Sides) → Follows s (own_side_ended s n held)
own_ends s n None = stays s
own_ends s n (Some sides) = sides_by s n (record sides { own = false }) (false || sides.peer) refl

peer_ends : (s : States) (n : ℕ) (held : Option Sides) → Follows s (peer_side_ended s n held)
peer_ends s n None = stays s
peer_ends s n (Some sides) = sides_by s n (record sides { peer = false }) (sides.own || false) refl

going_by : (s : States) (n : ℕ) (a b : Bool) → Follows s (cond a (closed s n) (cond b (peer_ended s n) s))
going_by s n true b = closes s n
going_by s n false true = peer_ends s n (get s.active n)
going_by s n false false = stays s

refused_by : (s : States) (n : ℕ) (b : Bool) → (b ≡ true → s.highest < n) → Follows s (cond b (refused s n) s)
refused_by s n true above =
    let up : s.highest < n = above refl in record { held = λ q sides there. inl there; highest = omega arith }
refused_by s n false above = stays s

answers : (s : States) (kind n : ℕ) (end : Bool) (a : Result Step StreamFault) → answer_of s kind n ≡ a
    → Follows s (after_answer s kind n end a)
answers s kind n end (Ok New) e =
    let new = number_is_above s kind n (ap uses_number e) in
    begins_new s n (record both_open { peer = not end }) refl new.0 new.1
answers s kind n end (Ok Goes) e = going_by s n (kind == rst_stream_kind) (end && (kind == data_kind || kind == headers_kind))
answers s kind n end (Ok Ignored) e = stays s
answers s kind n end (Err fault) e =
    refused_by s n (fault.code == refused_stream) (λ b. (number_is_above s kind n (ap uses_number e ∙ b)).1)

next_odd_above : (n : ℕ) → n < next_odd n
next_odd_above n = omega arith

next_odd_odd : (n : ℕ) → is_even (next_odd n) ≡ false
next_odd_odd n = ne_eqb (next_odd n % 2) 0 (λ e. omega arith)

number_by : (s : States) (full spent : Bool)
    → Follows s (after_number s (cond full (Err Full) (cond spent (Err Spent) (Ok (next_odd s.highest)))))
number_by s true spent = stays s
number_by s false true = stays s
number_by s false false = begins_new s (next_odd s.highest) both_open refl (next_odd_odd s.highest) (next_odd_above s.highest)

pub follows : (s : States) (move : Move) → Follows s (after s move)
follows s (receives kind n end) = answers s kind n end (answer_of s kind n) refl
follows s (begins limit) = number_by s _ _
follows s (sends_end n) = own_ends s n (get s.active n)
follows s (sends_reset n) = record { held = λ q sides there. inl (held-remove s.active n sides q there); highest = omega arith }

pub highest_stays : HighestStays
highest_stays s move = (follows s move).highest

rises_by : (s : States) (full spent : Bool) (n : ℕ)
    → cond full (Err Full) (cond spent (Err Spent) (Ok (next_odd s.highest))) ≡ Ok n → next_odd s.highest ≡ n
rises_by s true spent n e = cc e
rises_by s false true n e = cc e
rises_by s false false n e = cc e

pub numbers_rise : NumbersRise
numbers_rise s limit n e =
    let is : next_odd s.highest ≡ n = rises_by s _ _ n e in (
      subst (λ m. is_even m ≡ false) is (next_odd_odd s.highest),
      subst (λ m. s.highest < m) is (next_odd_above s.highest),
      ap (λ r. (after_number s r).highest) e,
    )
