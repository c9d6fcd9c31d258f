use Rattle.std.specs.Prelude.{ℕ, Bool, false, not, ◌==◌, ◌&&◌, ◌||◌, if◌then◌else◌, List, fold}
use Rattle.std.specs.Prelude.{Option, Some, None, Result, Ok, Err}
use Rattle.std.specs.FinMap.{get, insert, remove}
use Rattle.hb_map.specs.Keyed.{written}
use Rattle.hb_frames.specs.Numbers.{data_kind, headers_kind, rst_stream_kind, refused_stream}
use Rattle.hb_streams.specs.Resets.{with_reset}
use Rattle.hb_streams.specs.Sides.{both_open}
use Rattle.hb_streams.specs.States.{States, fresh}
use Rattle.hb_streams.specs.Answers.{answer_of, number_of}
use Rattle.hb_streams.specs.declared.role.Role.{Role}
use Rattle.hb_streams.specs.declared.sides.Sides.{Sides}
use Rattle.hb_streams.specs.declared.step.Step.{Step}
use Rattle.hb_streams.specs.declared.step.Step.TheVariants.{New, Goes, Ignored}
use Rattle.hb_streams.specs.declared.fault.StreamFault.{StreamFault}
use Rattle.hb_streams.specs.declared.fault.OpenFault.{OpenFault}

-- what happens to streams: a frame is received, with END_STREAM or without; this end begins a stream while fewer than
-- `limit` are active, ends its side of one, or resets one
pub data Move : Type 0 where
  receives : (kind stream : ℕ) (end : Bool) → Move
  begins : (limit : ℕ) → Move
  sends_end : (stream : ℕ) → Move
  sends_reset : (stream : ℕ) → Move

-- the stream n begins, with these sides
abbrev pub begun : States → ℕ → Sides → States
begun s n sides = record s { active = insert s.active n sides; highest = n }

-- the stream n is closed
abbrev pub closed : States → ℕ → States
closed s n = record s { active = remove s.active n }

-- this end resets the stream n
abbrev pub reset : States → ℕ → States
reset s n = record s { active = remove s.active n; resets = with_reset s.resets n }

-- this end refuses the stream n, which never begins: its number is used, and it is reset (RFC 9113 section 8.7)
abbrev pub refused : States → ℕ → States
refused s n = record s { highest = n; resets = with_reset s.resets n }

-- the stream n has these sides from now on; it is closed once neither is open
abbrev pub with_sides : States → ℕ → Sides → States
with_sides s n sides =
    if sides.own || sides.peer then record s { active = written s.active n sides } else closed s n

abbrev pub own_side_ended : States → ℕ → Option Sides → States
own_side_ended s n None = s
own_side_ended s n (Some sides) = with_sides s n (record sides { own = false })

-- this end sends END_STREAM on the stream n
abbrev pub own_ended : States → ℕ → States
own_ended s n = own_side_ended s n (get s.active n)

abbrev pub peer_side_ended : States → ℕ → Option Sides → States
peer_side_ended s n None = s
peer_side_ended s n (Some sides) = with_sides s n (record sides { peer = false })

-- the peer sends END_STREAM on the stream n
abbrev pub peer_ended : States → ℕ → States
peer_ended s n = peer_side_ended s n (get s.active n)

-- after a frame that goes: RST_STREAM closes its stream, END_STREAM of DATA or HEADERS ends the peer's side
abbrev pub after_going : States → ℕ → ℕ → Bool → States
after_going s kind n end =
    if kind == rst_stream_kind then closed s n
    else if end && (kind == data_kind || kind == headers_kind) then peer_ended s n
    else s

-- after a frame with this answer; an error but the refusal of a new stream changes nothing
abbrev pub after_answer : States → ℕ → ℕ → Bool → Result Step StreamFault → States
after_answer s kind n end (Ok New) = begun s n (record both_open { peer = not end })
after_answer s kind n end (Ok Goes) = after_going s kind n end
after_answer s kind n end (Ok Ignored) = s
after_answer s kind n end (Err fault) = if fault.code == refused_stream then refused s n else s

-- after this end asked for a stream
abbrev pub after_number : States → Result ℕ OpenFault → States
after_number s (Ok n) = begun s n both_open
after_number s (Err _) = s

abbrev pub after : States → Move → States
after s (receives kind n end) = after_answer s kind n end (answer_of s kind n)
after s (begins limit) = after_number s (number_of s limit)
after s (sends_end n) = own_ended s n
after s (sends_reset n) = reset s n

-- what all that happened, in its order, makes of a new connection
abbrev pub after_all : Role → List Move → States
after_all role moves = fold after (fresh role) moves
