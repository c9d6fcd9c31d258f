-- Never more than 100 streams are active.
use Rattle.std.proofs.Common.{◌≡◌, ℕ, ◌+◌, ◌≤◌, ◌<◌, Bool, true, false, not, cond, ◌||◌, ◌&&◌, List, [], ◌∷◌, Option, Some, None, Result, Ok, Err, leb, ◌==◌, refl, ap, arith}
use Rattle.std.specs.List.{fold}
use Rattle.std.specs.FinMap.{get, len, len-empty}
use Rattle.std.specs.Ordering.{nat_cmp}
use Rattle.std.proofs.lemmas.Bool.{leb-false}
use Rattle.hb_map.specs.Keyed.{written}
use Rattle.hb_streams.specs.Numbers.{next_odd}
use Rattle.hb_frames.specs.Numbers.{data_kind, headers_kind, rst_stream_kind, refused_stream}
use Rattle.hb_streams.specs.Sides.{both_open}
use Rattle.hb_streams.specs.States.{States, fresh, is_full}
use Rattle.hb_streams.specs.Answers.{answer_of}
use Rattle.hb_streams.specs.Moves.{Move, receives, begins, sends_end, sends_reset, begun, closed, refused, own_side_ended, peer_side_ended, peer_ended, after_answer, after_number, after}
use Rattle.hb_streams.specs.Laws.{StaysInRoom}
use Rattle.hb_streams.specs.declared.sides.Sides.{Sides}
use Rattle.hb_streams.specs.declared.step.Step.{Step}
use Rattle.hb_streams.specs.declared.step.Step.TheVariants.{New, Goes, Ignored}
use Rattle.hb_streams.specs.declared.fault.StreamFault.{StreamFault}
use Rattle.hb_streams.specs.declared.fault.OpenFault.TheVariants.{Full, Spent}
use Rattle.hb_streams.proofs.Begins.{new_has_room, is_new}
use Rattle.hb_streams.proofs.Keys.{len-insert_most, len-remove_most, len-written_most}

abbrev InRoom : States → Type 0
InRoom s = len s.active ≤ 100

begun_in_room : (s : States) (n : ℕ) (sides : Sides) → is_full s ≡ false → InRoom (begun s n sides)
begun_in_room s n sides room =
    let less : len s.active < 100 = leb-false 100 (len s.active) room in
    let more : len (begun s n sides).active ≤ len s.active + 1 = len-insert_most s.active n sides in
    omega arith

closed_in_room : (s : States) (n : ℕ) → InRoom s → InRoom (closed s n)
closed_in_room s n room = let less : len (closed s n).active ≤ len s.active = len-remove_most s.active n in omega arith

sides_by : (s : States) (n : ℕ) (sides : Sides) (b : Bool) → InRoom s
    → InRoom (cond b (record s { active = written s.active n sides }) (closed s n))
sides_by s n sides true room =
    let less : len (written s.active n sides) ≤ len s.active = len-written_most s.active n sides in omega arith
sides_by s n sides false room = closed_in_room s n room

own_in_room : (s : States) (n : ℕ) (held : Option Sides) → InRoom s → InRoom (own_side_ended s n held)
own_in_room s n None room = room
own_in_room s n (Some sides) room = sides_by s n (record sides { own = false }) (false || sides.peer) room

peer_in_room : (s : States) (n : ℕ) (held : Option Sides) → InRoom s → InRoom (peer_side_ended s n held)
peer_in_room s n None room = room
peer_in_room s n (Some sides) room = sides_by s n (record sides { peer = false }) (sides.own || false) room

going_by : (s : States) (n : ℕ) (a b : Bool) → InRoom s → InRoom (cond a (closed s n) (cond b (peer_ended s n) s))
going_by s n true b room = closed_in_room s n room
going_by s n false true room = peer_in_room s n (get s.active n) room
going_by s n false false room = room

refused_by : (s : States) (n : ℕ) (b : Bool) → InRoom s → InRoom (cond b (refused s n) s)
refused_by s n true room = room
refused_by s n false room = room

answered_in_room : (s : States) (kind n : ℕ) (end : Bool) (a : Result Step StreamFault) → answer_of s kind n ≡ a
    → InRoom s → InRoom (after_answer s kind n end a)
answered_in_room s kind n end (Ok New) e room =
    begun_in_room s n (record both_open { peer = not end }) (new_has_room s kind n (ap is_new e))
answered_in_room s kind n end (Ok Goes) e room =
    going_by s n (kind == rst_stream_kind) (end && (kind == data_kind || kind == headers_kind)) room
answered_in_room s kind n end (Ok Ignored) e room = room
answered_in_room s kind n end (Err fault) e room = refused_by s n (fault.code == refused_stream) room

number_by : (s : States) (a b spent : Bool) (n : ℕ) → is_full s ≡ b → InRoom s
    → InRoom (after_number s (cond (a || b) (Err Full) (cond spent (Err Spent) (Ok n))))
number_by s true b spent n e room = room
number_by s false true spent n e room = room
number_by s false false true n e room = room
number_by s false false false n e room = begun_in_room s n both_open e

after_in_room : (s : States) (move : Move) → InRoom s → InRoom (after s move)
after_in_room s (receives kind n end) room = answered_in_room s kind n end (answer_of s kind n) refl room
after_in_room s (begins limit) room = number_by s (leb limit (len s.active)) (is_full s) _ (next_odd s.highest) refl room
after_in_room s (sends_end n) room = own_in_room s n (get s.active n) room
after_in_room s (sends_reset n) room = closed_in_room s n room

all_in_room : (s : States) (moves : List Move) → InRoom s → InRoom (fold after s moves)
all_in_room s [] room = room
all_in_room s (move ∷ moves) room = all_in_room (after s move) moves (after_in_room s move room)

pub stays_in_room : StaysInRoom
stays_in_room role moves =
    let none : len (fresh role).active ≡ 0 = len-empty nat_cmp Sides in
    all_in_room (fresh role) moves (omega arith)
