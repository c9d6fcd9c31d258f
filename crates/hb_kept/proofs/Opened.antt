-- Behind a stream that a client opened no DATA of it waits.
use Rattle.std.proofs.Common.{◌≡◌, ℕ, ◌<◌, ◌≤◌, ◌==◌, ◌&&◌, ◌||◌, not, Bool, true, false, cond, List, Option, Some, None, is_some, Ok, refl, ap, sym, ◌∙◌, subst, arith}
use Rattle.std.specs.FinMap.{get}
use Rattle.std.specs.Prelude.{nat_lt}
use Rattle.std.proofs.lemmas.Bool.{false≢true}
use Rattle.std.proofs.lemmas.Bool.Decides.{nat_tests}
use Rattle.hb_frames.specs.Numbers.{data_kind, headers_kind, protocol_error, refused_stream}
use Rattle.hb_frames.specs.RawFrame.{RawFrame}
use Rattle.hb_frames.specs.Reading.{asked}
use Rattle.hb_streams.specs.Answers.{answer_of, data_answer, headers_answer, connection_error, stream_error}
use Rattle.hb_streams.specs.Moves.{after, after_answer, receives}
use Rattle.hb_streams.specs.Numbers.{is_even}
use Rattle.hb_streams.specs.Resets.{is_among}
use Rattle.hb_streams.specs.Sides.{both_open}
use Rattle.hb_streams.specs.States.{States, state_of, state_by, state_of_others, is_full}
use Rattle.hb_streams.specs.declared.role.Role.{Role}
use Rattle.hb_streams.specs.declared.role.Role.TheVariants.{Server}
use Rattle.hb_streams.specs.declared.sides.Sides.{Sides}
use Rattle.hb_streams.specs.declared.state.State.{State}
use Rattle.hb_streams.specs.declared.state.State.TheVariants as state
use Rattle.hb_streams.specs.declared.step.Step.TheVariants as step
use Rattle.hb_streams.proofs.Begins.{uses_number, number_is_above}
use Rattle.hb_streams.proofs.Follows.{highest_stays}
use Rattle.hb_outgoing.specs.Selected.{has_data}
use Rattle.hb_conn.specs.Connection.{Connection, Finds, core_of}
use Rattle.hb_conn.specs.Data.{continued}
use Rattle.hb_conn.specs.Glance.{glance_of}
use Rattle.hb_conn.specs.Observed.{outgoing}
use Rattle.hb_conn.specs.declared.found.Found.{Found}
use Rattle.hb_conn.specs.declared.found.Found.TheVariants as found
use Rattle.hb_conn.specs.declared.machine.Core.{Core}
use Rattle.hb_history.specs.History.{fresh, StandsFor}
use Rattle.hb_history.specs.Points.{Point}
use Rattle.hb_history.specs.TakenBack.{has_data_on, NoneWaitsOn}
use Rattle.hb_history.proofs.Found.{IsStill, Holds, finds_so}
use Rattle.hb_history.proofs.Kept as kept
use Rattle.hb_history.proofs.Lives.{Moved, used_some}
use Rattle.hb_history.proofs.Parts.{calm}
use Rattle.hb_kept.specs.Numbers.{IsNumbered, ToldAreNumbered}
use Rattle.hb_kept.specs.Sides.{IsOpenBehind, OpenedIsOpen}
use Rattle.hb_kept.specs.Opened.{AreUpTo, IsUnused, OpenedIsUnused, UsedIsRefused, OtherMayOpen}
use Rattle.hb_kept.proofs.All.{Each, each_so}
use Rattle.hb_kept.proofs.Handled.{frame_keeps}
use Rattle.hb_kept.proofs.Rises.{frame_rises, fault_rises}
use Rattle.hb_kept.proofs.Roles.{role_is}
use Rattle.hb_kept.proofs.Sides.{released_streams, credited_streams}
use Rattle.hb_kept.proofs.SidesAt.{sides_at, begins}
use Rattle.hb_kept.proofs.Told.{IsOther, Tells, handles_so, fault_so}
use Rattle.hb_kept.proofs.Used.{Used, used_keeps, used_acks, used_resize, used_grow, used_new, used_runs}

-- no DATA waits on a stream above all that were used
apart_by : (some on : Bool) → (some ≡ true → on ≡ false) → (some && on) ≡ false
apart_by true on apart = apart refl
apart_by false on apart = refl

apart : (s highest : ℕ) (f : RawFrame) → highest < s → (has_data f ≡ true → f.stream ≤ highest) → has_data_on s f ≡ false
apart s highest f above up =
    apart_by (has_data f) (f.stream == s) (λ some. let low = up some in grind (arith, nat_tests, low, above))

none_above : (s highest : ℕ) (fs : List RawFrame) → highest < s → AreUpTo highest fs
    → Each (λ f. has_data_on s f ≡ false) fs
none_above s highest fs above up =
    each_so (λ f. has_data f ≡ true → f.stream ≤ highest) (λ f. has_data_on s f ≡ false) (λ f low. apart s highest f above low) fs up

-- HEADERS to a server begin a stream, or go on none
begins_by : (even full : Bool) (n : ℕ)
    → cond even (connection_error protocol_error) (cond full (stream_error n refused_stream) (Ok step.New)) ≡ Ok step.Goes → ⊥
begins_by true full n is = cc
begins_by false true n is = cc
begins_by false false n is = cc

never_goes : (full : Bool) (n : ℕ) (st : State) → headers_answer Server full n st ≡ Ok step.Goes → ⊥
never_goes full n state.Idle is = begins_by (is_even n) full n is
never_goes full n state.Open is = cc
never_goes full n state.HalfClosedLocal is = cc
never_goes full n state.HalfClosedRemote is = cc
never_goes full n state.Closed is = cc
never_goes full n state.Reset is = cc

-- DATA goes to an active stream alone, which was used
none_goes : (n : ℕ) (even above among : Bool)
    → data_answer n (cond (even || above) state.Idle (cond among state.Reset state.Closed)) ≡ Ok step.Goes
    → false ≡ true
none_goes n true above among is = absurd (cc)
none_goes n false true among is = absurd (cc)
none_goes n false false true is = absurd (cc)
none_goes n false false false is = absurd (cc)

pub active_by : (s : States) (n : ℕ) (o : Option Sides) → get s.active n ≡ o
    → data_answer n (state_by o (state_of_others s n)) ≡ Ok step.Goes
    → is_some o ≡ true
active_by s n None is goes = none_goes n (is_even n) (nat_lt s.highest n) (is_among s.resets n) goes
active_by s n (Some w) is goes = refl

pub goes_used : (role : Role) (s : States) (n : ℕ) → Moved role s → answer_of s data_kind n ≡ Ok step.Goes → n ≤ s.highest
goes_used role s n moved goes = (used_some role s n moved (active_by s n (get s.active n) refl goes)).2.1

continued_rises : (c : Core) (s : ℕ) (end : Bool) → c.streams.highest ≤ (continued c s end).streams.highest
continued_rises c s true =
    subst (λ (t : States). c.streams.highest ≤ t.highest)
    (sym (released_streams (record c { streams = after c.streams (receives data_kind s true) }) s))
    (highest_stays c.streams (receives data_kind s true))
continued_rises c s false = subst (λ (t : States). c.streams.highest ≤ t.highest) (sym (credited_streams c s)) (omega arith)

pub goes_on : (c : Core) (s : ℕ) (end : Bool) → s ≤ c.streams.highest → s ≤ (continued c s end).streams.highest
goes_on c s end was = let more = continued_rises c s end in omega (arith, was, more)

module _ (low : ℕ) where
  -- of a stream that is told to be opened no DATA waits, its sides are open, and it is the highest now and above all before; one of
  -- which DATA is told was used
  abbrev IsNew : Found → Core → Type 0
  IsNew (found.Opened s end) c =
      NoneWaitsOn s c.out × (sides_at c.streams s ≡ record { own = true; peer = not end }) × (low < s) × (c.streams.highest ≡ s)
  IsNew (found.Chunk s end) c = s ≤ c.streams.highest
  IsNew _ c = Unit {0}

  -- what is had in front of a frame
  abbrev Had : Core → Type 0
  Had c = Used Server calm c × (low ≤ c.streams.highest)

  other : (told : Found) (c : Core) → IsOther told → IsNew told c
  other (found.Opened s end) c is = absurd is
  other (found.Chunk s end) c is = absurd is
  other told c is = tt

  -- HEADERS open a stream above all, and go to none; DATA goes to one that was used
  tells : (c : Core) → Had c → Tells IsNew c
  tells c h = record {
    opens = λ blocks s end is.
        let above = (number_is_above c.streams headers_kind s (ap uses_number is)).1 in
        let becomes = ap (after_answer c.streams headers_kind s end) is in (
          none_above s c.streams.highest c.out.queue above h.0.1,
          ap (λ (t : States). sides_at t s) becomes ∙ (begins c.streams s (record both_open { peer = not end })).here,
          omega (arith, above, h.1),
          ap (λ (t : States). t.highest) becomes,
        );
    heads = λ blocks s end is.
        absurd (never_goes (is_full c.streams) s (state_of c.streams s)
        (subst (λ (r : Role). headers_answer r (is_full c.streams) s (state_of c.streams s) ≡ Ok step.Goes)
        (role_is Server c.streams h.0.0.0) is));
    chunks = λ d s end same is.
        goes_on d s end (subst (λ (t : States). s ≤ t.highest) (sym same) (goes_used Server c.streams s h.0.0.0 is));
  }

  -- where nothing is told of a frame there is nothing to show
  still : (told : Found) (c : Core) → IsStill told → IsNew told c
  still (found.Opened s end) c is = absurd is
  still (found.Chunk s end) c is = absurd is
  still told c is = tt

  -- of all that is found
  abbrev Opens : Core → Core → Found → Type 0
  Opens c new told = Had c → Had new × IsNew told new

  opening : Holds Opens
  opening = record {
    same = λ c new told quiet is h. (subst Had (sym is) h, still told new quiet);
    on = λ c mid new told first then h. then (first h).0;
    handled = λ r c new told is h. (
      (
        frame_keeps (Used Server) (used_keeps Server) (used_resize Server) (used_acks Server) (used_grow Server) c (glance_of r)
            (asked r).last new told h.0 is,
        frame_rises low c (glance_of r) (asked r).last new told h.1 is,
      ),
      handles_so IsNew other c (glance_of r) (asked r).last new told (tells c h) is,
    );
    faults = λ c new code told is h. (
      subst Had (sym is.0)
          (kept.faulted_keeps (Used Server) (used_keeps Server) calm c code h.0, fault_rises low c code h.1),
      fault_so IsNew other c new code told is,
    );
  }

opened : (points : List Point) (given : List Found) (came written : List ℕ) (c d : Connection) (told : Found)
    → StandsFor Server points given came written c → Finds c d told → IsNew (core_of c).streams.highest told (core_of d)
opened points given came written c d told stands finds =
    let low = (core_of c).streams.highest in
    let had = used_runs Server points (core_of (fresh Server)) (core_of c) (used_new Server) stands.runs in
    (finds_so (Opens low) (opening low) c d told finds (had, omega arith)).1

unused_by : (low : ℕ) (told : Found) (d : Connection) → IsNew low told (core_of d) → IsUnused told (outgoing d)
unused_by low (found.Opened s end) d new = new.0
unused_by low told d new = tt

pub opened_is_unused : OpenedIsUnused
opened_is_unused points given came written c d told stands finds =
    unused_by (core_of c).streams.highest told d (opened points given came written c d told stands finds)

open_by : (low : ℕ) (told : Found) (d : Connection) → IsNew low told (core_of d) → IsOpenBehind told d
open_by low (found.Opened s end) d new = new.1
open_by low told d new = tt

pub opened_is_open : OpenedIsOpen
opened_is_open points given came written c d told stands finds =
    open_by (core_of c).streams.highest told d (opened points given came written c d told stands finds)

numbered_by : (told : Found) (c d : Connection) → IsNew (core_of c).streams.highest told (core_of d) → IsNumbered told c d
numbered_by (found.Opened s end) c d new = (new.2, new.3)
numbered_by (found.Chunk s end) c d new = new
numbered_by found.Silent c d new = tt
numbered_by (found.Ended s) c d new = tt
numbered_by (found.Reset s code) c d new = tt
numbered_by (found.Broken s code) c d new = tt
numbered_by (found.GoneAway last) c d new = tt
numbered_by (found.Fault code) c d new = tt

pub told_are_numbered : ToldAreNumbered
told_are_numbered points given came written c d told stands finds =
    numbered_by told c d (opened points given came written c d told stands finds)

pub used_is_refused : UsedIsRefused
used_is_refused end none = absurd (false≢true (sym none.0))

pub other_may_open : OtherMayOpen
other_may_open end = (refl, tt)
