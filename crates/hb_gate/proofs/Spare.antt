-- Behind what is told of a frame, if no connection error, there is room for a reset beside all that the frames held may need.
use Rattle.std.proofs.Common.{◌≡◌, ◌⊎◌, inl, inr, ⊎_elim, ℕ, ◌+◌, ◌*◌, ◌≤◌, Bool, true, false, cond, List, [], ◌∷◌, length, Option, Some, None, Result, Ok, Err, refl, ap, sym, ◌∙◌, subst, arith, length-drop}
use Rattle.std.proofs.lemmas.Bool.{false≢true}
use Rattle.hb_conn.specs.Connection.{Connection, core_of, Finds, FindsWhile, FindsOf, FindsAfter, FindsBy}
use Rattle.hb_conn.specs.Faults.{faulted}
use Rattle.hb_conn.specs.Glance.{glance_by}
use Rattle.hb_conn.specs.Handling.{HandlesBy, Handles}
use Rattle.hb_conn.specs.Observed.{room, is_over, is_paused, aborted}
use Rattle.hb_conn.specs.Outcome.{Gives, is_silent}
use Rattle.hb_conn.specs.Places.{is_misplaced}
use Rattle.hb_conn.specs.Preface.{is_whole}
use Rattle.hb_conn.specs.Receiving.{Steps, Passes, Ends, waits, lacks, tells}
use Rattle.hb_conn.specs.declared.found.Found.{Found}
use Rattle.hb_conn.specs.declared.found.Found.TheVariants as found
use Rattle.hb_conn.specs.declared.glance.Glance.{Glance}
use Rattle.hb_conn.specs.declared.glance.Glance.TheVariants.{Refused}
use Rattle.hb_conn.specs.declared.machine.Core.{Core}
use Rattle.hb_conn.specs.declared.receiver.Receiver.{Receiver}
use Rattle.hb_frames.proofs.Runs.{first_some}
use Rattle.hb_frames.specs.Numbers.{protocol_error}
use Rattle.hb_frames.specs.Reading.{Reading, first_of, asked, after_frame}
use Rattle.hb_frames.specs.declared.refusal.Refusal.{Refusal}
use Rattle.hb_history.specs.Budget.{most, goaway_of, credit_by, credit_most_of, credit_most}
use Rattle.hb_history.specs.OwnFrames.{is_fault}
use Rattle.hb_history.proofs.Budget.{finds_within}
use Rattle.hb_history.proofs.CatchUpResets.{aborted_lowers}
use Rattle.hb_kept.specs.Kept.{Fares}
use Rattle.hb_kept.proofs.Acts.{resets_kept}

-- WHAT MAY BE NEEDED TO GRANT DATA AGAIN: 13 octets less with each frame that is no connection error

bound_by : (r : Reading) (found : Result (Option ℕ) Refusal) → first_of r.max r.held ≡ found
    → credit_by (length r.held) found ≤ 2 * length r.held
bound_by r (Ok None) is = omega arith
bound_by r (Ok (Some n)) is = let t = first_some r.max n r.held is in omega (arith, t.size, t.whole)
bound_by r (Err refusal) is = omega arith

bound : (r : Reading) → credit_most_of r ≤ 2 * length r.held
bound r = bound_by r (first_of r.max r.held) refl

fault_told : (c new : Core) (told : Found) (code : ℕ) → Gives (faulted c code) new told → is_fault told ≡ true
unfolding faulted
fault_told c new told code gives = ap is_fault gives.1

refused_told : (b : Bool) (c new : Core) (bytes : List ℕ) (told : Found) (code row kind flags : ℕ)
    → HandlesBy b c (Refused code row kind flags) bytes new told → is_fault told ≡ true
refused_told true c new bytes told code row kind flags handles = fault_told c new told protocol_error handles
refused_told false c new bytes told code row kind flags handles = fault_told c new told code handles

abbrev Falls : Receiver → Receiver → Type 0
Falls old new = credit_most_of new.reader + 13 ≤ credit_most_of old.reader

falls_by : (old new : Receiver) (told : Found) (found : Result (Option ℕ) Refusal) → first_of old.reader.max old.reader.held ≡ found
    → Steps old new told → is_fault told ≡ false → Falls old new
falls_by old new told (Ok None) is steps none = absurd (steps.whole (ap (glance_by old.reader) is))
falls_by old new told (Ok (Some n)) is steps none =
    let held = ap (λ (r : Reading). length r.held) (steps.reader ∙ ap (after_frame old.reader) is) ∙ length-drop n old.reader.held in
    let before = ap (credit_by (length old.reader.held)) is in
    omega (arith, bound new.reader, held, before)
falls_by old new told (Err refusal) is steps none =
    let seen = ap (glance_by old.reader) is in
    let g = glance_by old.reader (Err refusal) in
    absurd (false≢true (sym none ∙ refused_told (is_misplaced old.core g) old.core new.core (asked old.reader).last told _ _ _ _
    (subst (λ (g : Glance). Handles old.core g (asked old.reader).last new.core told) seen steps.handled)))

step_falls : (old new : Receiver) (told : Found) → Steps old new told → is_fault told ≡ false → Falls old new
step_falls old new told steps none = falls_by old new told (first_of old.reader.max old.reader.held) refl steps none

passes_fall : (through : List Receiver) (old last : Receiver) → Passes through old last
    → credit_most_of last.reader ≤ credit_most_of old.reader
passes_fall [] old last passes = omega (arith, ap (λ (r : Receiver). credit_most_of r.reader) passes)
passes_fall (mid ∷ through) old last passes =
    omega (arith, step_falls old mid found.Silent passes.0 refl, passes_fall through mid last passes.1)

-- what is told that is no connection error is of a frame that was looked at, or the end that was to be told before
module _ (c d : Connection) (told : Found) (loud : is_silent told ≡ false) (none : is_fault told ≡ false) where
  abbrev pub WasToTell : Type 0
  WasToTell = (s : ℕ) × (told ≡ found.Ended s) × (c.ended ≡ Some s)

  abbrev Fell : Type 0
  Fell = WasToTell ⊎ Falls c.receiver d.receiver

  never : {A : Type 0} → told ≡ found.Silent → A
  never silent = absurd (false≢true (sym loud ∙ ap is_silent silent))

  last_falls : (last new : Receiver) → Ends last new told → Falls last new
  last_falls last new (waits paused is silent) = never silent
  last_falls last new (lacks goes gone is silent) = never silent
  last_falls last new (tells steps some) = step_falls last new told steps none

  fell_by : (b : Bool) → FindsBy b c d told → Fell
  fell_by true finds =
      let first = passes_fall finds.0.through c.receiver finds.0.last finds.0.passes in
      let last = last_falls finds.0.last d.receiver finds.0.ends in
      inr (omega (arith, first, last))
  fell_by false finds = absurd (false≢true (sym none ∙ fault_told (core_of c) (core_of d) told protocol_error finds.0))

  fell_after : (whole : Bool) → FindsAfter whole c d told → Fell
  fell_after true finds = fell_by c.preface.same finds
  fell_after false finds = never finds.1

  fell_of : (o : Option ℕ) → c.ended ≡ o → FindsOf o c d told → Fell
  fell_of (Some s) is finds = inl (s, finds.1, is)
  fell_of None is finds = fell_after (is_whole c.preface) finds

  fell_while : (paused : Bool) → FindsWhile paused c d told → Fell
  fell_while true finds = never finds.1
  fell_while false finds = fell_of c.ended refl finds

-- THE ROOM

abbrev pub HasSpare : Connection → Type 0
HasSpare d = most d + credit_most d + 13 + 256 ≤ room d

pub spares : (c d : Connection) (told : Found) (loud : is_silent told ≡ false) (none : is_fault told ≡ false) → Fares c → Finds c d told
    → is_over d ≡ false → WasToTell c d told loud none ⊎ HasSpare d
spares c d told loud none fares finds over =
    ⊎_elim (λ (was : WasToTell c d told loud none). inl was)
    (λ (fell : Falls c.receiver d.receiver).
    let goaway : goaway_of (core_of d) ≡ 0 = ap (λ b. cond b 17 0) over in
    let within = finds_within c d told fares.kept.caught_up finds in
    inr (omega (arith, fares.has_room, within, fell, goaway))) (fell_while c d told loud none (is_paused c) finds)

-- so there is behind the reset
pub reset_fares : (c : Connection) (s code : ℕ) → Fares c → HasSpare c → Fares (aborted c s code)
reset_fares c s code fares spare =
    let enough : 30 ≤ room c = omega (arith, spare) in
    let less = (aborted_lowers (core_of c) s code enough (fares.kept.caught_up (omega (arith, spare)))).room in
    record { kept = resets_kept c s code fares.kept; has_room = omega (arith, less, spare) }
