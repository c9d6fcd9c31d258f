-- What the own steps of a call make of a link. No public clause cites this file.
use Rattle.std.specs.Prelude.{◌≡◌, ◌⊎◌, ℕ, ◌+◌, ◌&&◌, not, Bool, true, false, nat_le, if◌then◌else◌, [], length, drop, Option, Some, None}
use Rattle.hb_base.specs.declared.cause.Cause.TheVariants as cause
use Rattle.hb_base.specs.declared.note.Note.{Note}
use Rattle.hb_front.specs.Faults.{number_of}
use Rattle.hb_front.specs.Reading.{Seen, IsAnswer, Answer as Reading, Whole, More, Fault}
use Rattle.hb_held.specs.Held.{Resources}
use Rattle.hb_tunnel.specs.Way.{after, takes}
use Rattle.hb_world.specs.declared.act.Act.{Act}
use Rattle.hb_world.specs.declared.act.Act.TheVariants as act
use Rattle.hb_captured.specs.Answer.{straight_to, Answer, aims, refuses, Routing, answer_on, address_of, why_for}
use Rattle.hb_captured.specs.Captured.{Captured, Stage, due, live, over, at_stage, identity_noted, unnamed, ring_up, is_raw, may_shut_up, may_shut, is_through}
use Rattle.hb_captured.specs.Runs.{counted}
use Rattle.hb_relay.specs.Answering.{counted_for}
use Rattle.hb_relay.specs.Ending.{end_at, verdict_at}
use Rattle.hb_relay.specs.Rings.{pushed}
use Rattle.hb_relay.specs.Shows.{captured_of}
use Rattle.hb_relay.specs.declared.relay.Relay.{Relay}
use Rattle.hb_base.specs.declared.identity.Identity.{Identity}
use Rattle.hb_base.specs.declared.ip.Ip.{Ip}
use Rattle.hb_base.specs.declared.target.Target.{Target}

-- where both sides ended and all went it is done, and that is noted
abbrev pub settled_by : Stage → Captured → Captured
settled_by live x = if is_raw x && is_through x then at_stage (over cause.Done) x else x
settled_by stage x = x

abbrev pub settled : Captured → Captured
settled x = settled_by x.stage x

abbrev pub note_by : ℕ → Stage → Captured → Option Note
note_by l live x = if is_raw x && is_through x then Some (end_at l cause.Done x) else None
note_by l stage x = None

-- the header told this; the bytes behind it go up
abbrev pub told_by : Ip → Target → Option Identity → ℕ → Captured → Captured
told_by source target identity length x = record x {
  front = [];
  peer = record { ip = source; identity = None };
  target = target;
  identity = identity;
  ways = record x.ways { up = pushed (ring_up x.door) (drop length x.front) x.ways.up };
}

-- it told all this, and the identity that is noted at its door
abbrev pub header_told : Seen → Captured → Captured
header_told seen x = told_by seen.source.ip seen.destination (identity_noted x.door seen.identity) seen.length x

-- it gets its answer
abbrev pub decided_by : Answer → Captured → Captured
decided_by (aims aim) x = record x { stage = due; aim = aim }
decided_by (refuses why status) x = unnamed (record x { stage = over why; aim = straight_to x.target None })

abbrev pub decided_note : ℕ → Answer → Captured → Option Note
decided_note l (aims aim) x = None
decided_note l (refuses why status) x = Some (verdict_at l status x)

-- the header is whole: it gets its answer, or memory is wanting for that
abbrev pub IsDecided : ℕ → Resources → Seen → Routing → Routing → Captured → Captured → Option Note → Type 0
IsDecided l held seen before behind old new made =
    (new ≡ decided_by (answer_on old.door held before seen) (header_told seen old))
    × (made ≡ decided_note l (answer_on old.door held before seen) (header_told seen old))
    × (behind ≡ counted_for (answer_on old.door held before seen) before)

abbrev pub IsLacked : Routing → Routing → Captured → Captured → Option Note → Type 0
IsLacked before behind old new made = (new ≡ at_stage (over cause.NoMemory) old) × (made ≡ None) × (behind ≡ before)

-- by what the bytes that came of the header are
abbrev pub Fronts : ℕ → Resources → Routing → Routing → Reading → Captured → Captured → Option Note → Type 0
Fronts l held before behind More old new made = (new ≡ old) × (made ≡ None) × (behind ≡ before)
Fronts l held before behind (Fault fault) old new made =
    (new ≡ at_stage (over (cause.FrontFault (number_of fault))) old) × (made ≡ None) × (behind ≡ before)
Fronts l held before behind (Whole seen) old new made =
    IsDecided l held seen before behind old new made ⊎ IsLacked before behind old new made

pub record TakesFront (held : Resources) (before behind : Routing) (old new : Relay) (made : Option Note) : Type 0 where
  pub number : new.number ≡ old.number
  pub answer : Reading
  pub is : IsAnswer old.front answer
  pub fronts : Fronts old.number held before behind answer (captured_of old) (captured_of new) made

-- it lives, on a stream
abbrev pub is_live : Stage → Bool
is_live live = true
is_live stage = false

abbrev pub on_stream : Captured → Bool
on_stream x = not (is_raw x) && is_live x.stage

-- so many were written, which are counted as far as notes tell them
abbrev pub took_up : ℕ → Captured → Captured
took_up n x = record x { ways = record x.ways { up = after x.ways.up (takes n) }; went_up = counted (x.went_up + n) }

abbrev pub took_down : ℕ → Captured → Captured
took_down n x = record x {
  ways = record x.ways { down = after x.ways.down (takes n) };
  owed = if is_raw x then x.owed else counted (x.owed + n);
  went_down = counted (x.went_down + n);
}

-- the act that is due, and what it makes of the link
abbrev pub act_by : ℕ → Stage → Captured → Option Act
act_by l due x = Some (act.Dial (address_of x.aim) (why_for x.aim x.door l))
act_by l live x = if may_shut_up x then Some (act.Shut x.up) else if may_shut x then Some (act.Shut l) else None
act_by l (over cause) x =
    if not (nat_le x.up 0) then Some (act.Close x.up cause) else if not x.closed then Some (act.Close l cause) else None
act_by l stage x = None

abbrev pub acted_by : Stage → Captured → Captured
acted_by live x =
    if may_shut_up x then record x { up_shut = true } else if may_shut x then record x { shut = true } else x
acted_by (over cause) x =
    if not (nat_le x.up 0) then record x { up = 0 } else if not x.closed then record x { closed = true } else x
acted_by stage x = x
