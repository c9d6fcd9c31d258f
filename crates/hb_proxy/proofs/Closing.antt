-- The end of a stream is told behind its last DATA or headers, with which the peer's side of it ends.
use Rattle.std.proofs.Common.{◌≡◌, ◌⊎◌, inl, inr, ℕ, not, Bool, true, false, Option, Some, None, Ok, refl, ap, sym, ◌∙◌, subst}
use Rattle.std.proofs.lemmas.Bool.{false≢true}
use Rattle.hb_frames.specs.Numbers.{headers_kind, protocol_error}
use Rattle.hb_frames.specs.Reading.{asked}
use Rattle.hb_streams.specs.Moves.{after_answer}
use Rattle.hb_streams.specs.Sides.{both_open}
use Rattle.hb_streams.specs.States.{States}
use Rattle.hb_streams.specs.declared.sides.Sides.{Sides}
use Rattle.hb_streams.specs.declared.step.Step.TheVariants as step
use Rattle.hb_conn.specs.Connection.{Connection, Finds, FindsWhile, FindsOf, FindsAfter, FindsBy, core_of, ended_by}
use Rattle.hb_conn.specs.Glance.{glance_of}
use Rattle.hb_conn.specs.Headers.{headed}
use Rattle.hb_conn.specs.Observed.{sides}
use Rattle.hb_conn.specs.Preface.{is_whole}
use Rattle.hb_conn.specs.Receiving.{Ends, waits, lacks, tells, pauses}
use Rattle.hb_conn.specs.declared.found.Found.{Found}
use Rattle.hb_conn.specs.declared.found.Found.TheVariants as found
use Rattle.hb_conn.specs.declared.machine.Core.{Core}
use Rattle.hb_conn.specs.declared.receiver.Receiver.{Receiver}
use Rattle.hb_kept.proofs.Sides.{released_streams, finds_sides}
use Rattle.hb_kept.proofs.SidesAt.{sides_at, begins, peer_side_ends}
use Rattle.hb_kept.proofs.Told.{IsOther, Tells, handles_so, fault_so}

-- behind headers that end a stream its peer's side is closed; and no frame tells that one ended
abbrev IsShut : Found → Core → Type 0
IsShut (found.Opened s end) c = end ≡ true → (sides_at c.streams s).peer ≡ false
IsShut (found.Ended s) c = ⊥
IsShut _ c = Unit {0}

other : (told : Found) (c : Core) → IsOther told → IsShut told c
other (found.Opened s end) c is = absurd is
other (found.Ended s) c is = absurd is
other told c is = tt

shows : (c : Core) → Tells IsShut c
shows c = record {
  opens = λ blocks s end is ends.
      ap (λ (t : States). (sides_at t s).peer) (ap (after_answer c.streams headers_kind s end) is)
      ∙ ap (λ (w : Sides). w.peer) (begins c.streams s (record both_open { peer = not end })).here ∙ ap not ends;
  heads = λ blocks s end is ends.
      ap (λ (t : States). (sides_at t s).peer)
      (released_streams (headed (record c { blocks = blocks }) s end) s ∙ ap (after_answer c.streams headers_kind s end) is)
      ∙ ended c s end ends;
  chunks = λ d s end same is. tt;
}
  where
    ended : (c : Core) (s : ℕ) (end : Bool) → end ≡ true
        → (sides_at (after_answer c.streams headers_kind s end (Ok step.Goes)) s).peer ≡ false
    ended c s true ends = ap (λ (w : Sides). w.peer) (peer_side_ends c.streams s).here
    ended c s false ends = absurd (false≢true ends)

-- WHAT IS FOUND NEXT

told_by : (last new : Receiver) (told : Found) → Ends last new told → IsShut told new.core
told_by last new told (waits test is silent) = subst (λ (t : Found). IsShut t new.core) (sym silent) tt
told_by last new told (lacks test nothing is silent) = subst (λ (t : Found). IsShut t new.core) (sym silent) tt
told_by last new told (tells steps some) =
    handles_so IsShut other last.core (glance_of last.reader) (asked last.reader).last new.core told (shows last.core) steps.handled

-- that a stream ended is told where it was still to be
abbrev pub IsClosing : Found → Connection → Connection → Type 0
IsClosing (found.Opened s end) c d = end ≡ true → (sides d s).peer ≡ false
IsClosing (found.Ended s) c d = c.ended ≡ Some s
IsClosing told c d = Unit {0}

so : (told : Found) (c d : Connection) → IsShut told (core_of d) → IsClosing told c d
so (found.Opened s end) c d is = is
so (found.Ended s) c d is = absurd is
so _ c d is = tt

silent_so : (told : Found) (c d : Connection) → told ≡ found.Silent → IsClosing told c d
silent_so told c d is = subst (λ (t : Found). IsClosing t c d) (sym is) tt

found_by : (b : Bool) (c d : Connection) (told : Found) → FindsBy b c d told → IsClosing told c d
found_by false c d told is = so told c d (fault_so IsShut other c.receiver.core (core_of d) protocol_error told is.0)
found_by true c d told is = so told c d (told_by is.0.last d.receiver told is.0.ends)

found_after : (b : Bool) (c d : Connection) (told : Found) → FindsAfter b c d told → IsClosing told c d
found_after false c d told is = silent_so told c d is.1
found_after true c d told is = found_by c.preface.same c d told is

found_of : (o : Option ℕ) (c d : Connection) (told : Found) → c.ended ≡ o → FindsOf o c d told → IsClosing told c d
found_of (Some s) c d told at is = subst (λ (t : Found). IsClosing t c d) (sym is.1) at
found_of None c d told at is = found_after (is_whole c.preface) c d told is

found_while : (b : Bool) (c d : Connection) (told : Found) → FindsWhile b c d told → IsClosing told c d
found_while true c d told is = silent_so told c d is.1
found_while false c d told is = found_of c.ended c d told refl is

pub finds_closed : (c d : Connection) (told : Found) → Finds c d told → IsClosing told c d
finds_closed c d told is = found_while (pauses c.receiver.core) c d told is

-- AN END THAT IS STILL TO BE TOLD is that of a stream whose peer's side is closed

abbrev pub EndsClosed : Connection → Type 0
EndsClosed c = (s : ℕ) → c.ended ≡ Some s → (sides c s).peer ≡ false

-- nothing changed, or DATA came that ends the stream
abbrev pub Pending : Connection → Connection → Found → ℕ → Type 0
Pending c d told s = (d ≡ c) ⊎ (told ≡ found.Chunk s true)

ends_by : (told : Found) (s : ℕ) → ended_by told ≡ Some s → told ≡ found.Chunk s true
ends_by (found.Chunk k true) s is = (let same : k ≡ s = cc in ap (λ (n : ℕ). found.Chunk n true) same)
ends_by (found.Chunk k false) s is = absurd cc
ends_by found.Silent s is = absurd cc
ends_by (found.Opened k end) s is = absurd cc
ends_by (found.Ended k) s is = absurd cc
ends_by (found.Reset k code) s is = absurd cc
ends_by (found.Broken k code) s is = absurd cc
ends_by (found.GoneAway last) s is = absurd cc
ends_by (found.Fault code) s is = absurd cc

pending_by : (b : Bool) (c d : Connection) (told : Found) (s : ℕ) → c.ended ≡ None → FindsBy b c d told → d.ended ≡ Some s
    → Pending c d told s
pending_by false c d told s none is at =
    absurd (let no : Some s ≡ None = sym at ∙ ap (λ (e : Connection). e.ended) is.1 ∙ none in cc)
pending_by true c d told s none is at = inr (ends_by told s (sym is.2 ∙ at))

pending_after : (b : Bool) (c d : Connection) (told : Found) (s : ℕ) → c.ended ≡ None → FindsAfter b c d told → d.ended ≡ Some s
    → Pending c d told s
pending_after false c d told s none is at = inl is.0
pending_after true c d told s none is at = pending_by c.preface.same c d told s none is at

pending_of : (o : Option ℕ) (c d : Connection) (told : Found) (s : ℕ) → c.ended ≡ o → FindsOf o c d told → d.ended ≡ Some s
    → Pending c d told s
pending_of (Some k) c d told s was is at =
    absurd (let no : Some s ≡ None = sym at ∙ ap (λ (e : Connection). e.ended) is.0 in cc)
pending_of None c d told s was is at = pending_after (is_whole c.preface) c d told s was is at

pending : (b : Bool) (c d : Connection) (told : Found) (s : ℕ) → FindsWhile b c d told → d.ended ≡ Some s → Pending c d told s
pending true c d told s is at = inl is.0
pending false c d told s is at = pending_of c.ended c d told s refl is at

pub finds_pending : (c d : Connection) (told : Found) (s : ℕ) → Finds c d told → d.ended ≡ Some s → Pending c d told s
finds_pending c d told s finds at = pending (pauses c.receiver.core) c d told s finds at

pub finds_ends : (c d : Connection) (told : Found) → Finds c d told → EndsClosed c → EndsClosed d
finds_ends c d told finds closed s at = by (finds_pending c d told s finds at)
  where
    by : Pending c d told s → (sides d s).peer ≡ false
    by (inl same) = subst EndsClosed (sym same) closed s at
    by (inr is) =
        ap (λ (w : Sides). w.peer) (finds_sides c d (found.Chunk s true) (subst (λ (t : Found). Finds c d t) is finds)).here
