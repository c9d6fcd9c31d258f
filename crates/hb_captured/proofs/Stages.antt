-- How far a link is, in the words of the trace and of the machine; and what is known of it at each stage.
use Rattle.std.proofs.Common.{◌≡◌, ◌≢◌, ◌⊎◌, ℕ, ◌≤◌, ◌||◌, ◌&&◌, ◌+◌, Bool, true, false, cond, List, [], ◌∷◌, ◌++◌, fold, length, Option, Some, None, refl, ap, sym, ◌∙◌, arith}
use Rattle.hb_base.specs.declared.cause.Cause.{Cause}
use Rattle.hb_base.specs.declared.door.Door.{Door}
use Rattle.hb_base.specs.declared.door.Door.TheVariants as door
use Rattle.hb_base.specs.declared.peer.Peer.{Peer}
use Rattle.hb_base.specs.declared.target.Target.{Target}
use Rattle.hb_front.specs.Reading.{Seen}
use Rattle.hb_gateway.specs.Response as response
use Rattle.hb_gateway.specs.Response.{Heard, opens, brings, fails}
use Rattle.hb_held.specs.Held.{Resources}
use Rattle.hb_table.specs.Judgement.{judged}
use Rattle.hb_table.specs.declared.judgement.Judged.{Judged}
use Rattle.hb_table.specs.declared.judgement.Judged.TheVariants.{Admitted, Unknown, Denied}
use Rattle.hb_tunnel.specs.Tunnel.{Ways}
use Rattle.hb_world.specs.declared.entry.Entry.TheVariants as e
use Rattle.hb_front.specs.Room.{longest_front}
use Rattle.hb_captured.specs.Captured.{Captured, Stage, unborn, arriving, fronting, due, opening, accepting, live, failed, ended, over, judges, is_judged, ends_by, peer_in, came_by, told_by, judged_by}
use Rattle.hb_captured.specs.Notes.{Noting, no_note, answer, end_of_it}
use Rattle.hb_captured.specs.Part.{Part, entry, up, welcomed, crowded, lacked, misfronted, fronted, refused, accepted, roomless, asked, hears, put, finished, credited, loosed, completed, left, done, applied, stopped}
use Rattle.hb_captured.specs.Runs.{Local, HasEnded, next}
use Rattle.hb_captured.specs.Sides as sides
use Rattle.hb_captured.specs.Sides.{Course, pending, lives, ends, Known, known, known_by, course_by, course_of, door_of, door_by, held, held_by, header_of, header_by, is_end, is_shut, is_close, on_link, opens_up, ends_up, shuts_up, up_in, Stream, stream_by, went_in}
use Rattle.hb_captured.proofs.Grown.{fold_one}

-- THE WORDS OF THE TRACE FOR A STAGE

abbrev pub course_in : Stage → Course
course_in unborn = sides.unborn
course_in arriving = sides.arriving
course_in fronting = sides.fronting
course_in due = pending
course_in opening = pending
course_in accepting = pending
course_in live = lives
course_in (failed cause) = sides.over cause
course_in (ended cause) = sides.over cause
course_in (over cause) = sides.over cause

abbrev pub noting_in : Stage → Noting
noting_in due = answer
noting_in opening = answer
noting_in accepting = answer
noting_in live = end_of_it
noting_in (failed cause) = answer
noting_in (ended cause) = end_of_it
noting_in _ = no_note

-- WHAT IS KNOWN AT A STAGE

-- what a link shows of that
pub record Facts : Type 0 where
  pub door : Door
  pub front : List ℕ
  pub peer : Peer
  pub target : Target
  pub up : ℕ
  pub gate : ℕ
  pub ways : Ways

abbrev pub facts_of : Captured → Facts
facts_of x = record {
  door = x.door;
  front = x.front;
  peer = x.peer;
  target = x.target;
  up = x.up;
  gate = x.gate;
  ways = x.ways;
}

-- nothing was told yet, and nothing is there but bytes of the header
pub record Early (header : Option Seen) (came read : List ℕ) (up : ℕ) (ways : Ways) : Type 0 where
  pub told : header ≡ None
  pub front : came ≡ read
  pub short : length read ≤ longest_front
  pub none : ways.up.held ≡ []
  pub going : ways.up.has_ended ≡ false
  pub no_up : up ≡ 0
  pub shut : ways.is_open ≡ false
  pub down_none : ways.down.held ≡ []
  pub down_going : ways.down.has_ended ≡ false

-- the header told the peer and the target
pub record Told (header : Option Seen) (came : List ℕ) (who : Peer) (to : Target) : Type 0 where
  pub seen : Seen
  pub told : header ≡ Some seen
  pub within : seen.length ≤ length came
  pub peer : who ≡ peer_in seen
  pub target : to ≡ seen.destination

-- and where peers are judged, this one is admitted
abbrev pub Placed : Option Seen → List ℕ → Resources → Facts → Type 0
Placed told came h f = Told told came f.peer f.target × (judges f.door ≡ true → judged h f.peer f.target ≡ Admitted)

abbrev pub Knows : Stage → Option Seen → List ℕ → Resources → Facts → Type 0
Knows unborn told came h f = Early told came f.front f.up f.ways
Knows arriving told came h f = Early told came f.front f.up f.ways
Knows fronting told came h f = Early told came f.front f.up f.ways
Knows due told came h f = Placed told came h f × (f.up ≡ 0) × (f.ways.is_open ≡ false) × (f.ways.down.has_ended ≡ false)
Knows opening told came h f =
    Placed told came h f × ((f.up ≢ 0) ⊎ (f.gate ≢ 0)) × (f.ways.is_open ≡ false) × (f.ways.down.has_ended ≡ false)
Knows accepting told came h f = Placed told came h f × (f.ways.is_open ≡ true)
Knows live told came h f = Placed told came h f × (f.ways.is_open ≡ true)
Knows (failed cause) told came h f = Told told came f.peer f.target
Knows (ended cause) told came h f = Told told came f.peer f.target
Knows (over cause) told came h f = Unit {0}

abbrev pub KnowsBy : Stage → Option Seen → List ℕ → Resources → Captured → Type 0
KnowsBy stage told came h x = Knows stage told came h (facts_of x)

-- ENDS

pub ends_course : (why : Cause) (stage : Stage) → ends why (course_in stage) ≡ course_in (ends_by why stage)
ends_course why unborn = refl
ends_course why arriving = refl
ends_course why fronting = refl
ends_course why due = refl
ends_course why opening = refl
ends_course why accepting = refl
ends_course why live = refl
ends_course why (failed cause) = refl
ends_course why (ended cause) = refl
ends_course why (over cause) = refl

pub ends_noting : (why : Cause) (stage : Stage) → noting_in stage ≡ noting_in (ends_by why stage)
ends_noting why unborn = refl
ends_noting why arriving = refl
ends_noting why fronting = refl
ends_noting why due = refl
ends_noting why opening = refl
ends_noting why accepting = refl
ends_noting why live = refl
ends_noting why (failed cause) = refl
ends_noting why (ended cause) = refl
ends_noting why (over cause) = refl

-- what ends keeps what is known of it, also where its stream is left
pub ends_knows : (told : Option Seen) (came : List ℕ) (h : Resources) (why : Cause) (stage : Stage) (f : Facts) (gate : ℕ)
    → Knows stage told came h f → Knows (ends_by why stage) told came h (record f { gate = gate })
ends_knows told came h why unborn f gate is = is
ends_knows told came h why arriving f gate is = tt
ends_knows told came h why fronting f gate is = tt
ends_knows told came h why due f gate is = is.0.0
ends_knows told came h why opening f gate is = is.0.0
ends_knows told came h why accepting f gate is = is.0.0
ends_knows told came h why live f gate is = is.0.0
ends_knows told came h why (failed cause) f gate is = is
ends_knows told came h why (ended cause) f gate is = is
ends_knows told came h why (over cause) f gate is = tt

pub left_knows : (told : Option Seen) (came : List ℕ) (h : Resources) (stage : Stage) (f : Facts) (gate : ℕ) → HasEnded stage
    → Knows stage told came h f → Knows stage told came h (record f { gate = gate })
left_knows told came h (failed cause) f gate may is = is
left_knows told came h (ended cause) f gate may is = is
left_knows told came h (over cause) f gate may is = tt
left_knows told came h unborn f gate may is = absurd may
left_knows told came h arriving f gate may is = absurd may
left_knows told came h fronting f gate may is = absurd may
left_knows told came h due f gate may is = absurd may
left_knows told came h opening f gate may is = absurd may
left_knows told came h accepting f gate may is = absurd may
left_knows told came h live f gate may is = absurd may

-- WHAT THE TRACE SAYS OF ONE PART MORE

door_known : (k : Known) (parts : List Part) → (fold known_by k parts).door ≡ fold door_by k.door parts
door_known k [] = refl
door_known k (p ∷ parts) = door_known (known_by k p) parts

held_known : (k : Known) (parts : List Part) → (fold known_by k parts).held ≡ fold held_by k.held parts
held_known k [] = refl
held_known k (p ∷ parts) = held_known (known_by k p) parts

header_known : (k : Known) (parts : List Part) → (fold known_by k parts).header ≡ fold header_by k.header parts
header_known k [] = refl
header_known k (p ∷ parts) = header_known (known_by k p) parts

pub course_one : (start : Resources) (parts : List Part) (p : Part)
    → course_of start (parts ++ p ∷ [])
    ≡ course_by (door_of parts) (held_by (held start parts) p) (header_of parts) (course_of start parts) p
course_one start parts p =
    let first : Known = record { door = door.Plain; held = start; header = None; course = sides.unborn } in
    let k = known start parts in
    ap (λ (j : Known). j.course) (fold_one known_by first parts p)
    ∙ ap (λ (d : Door). course_by d (held_by k.held p) k.header k.course p) (door_known first parts)
    ∙ ap (λ (h : Resources). course_by (door_of parts) (held_by h p) k.header k.course p) (held_known first parts)
    ∙ ap (λ (t : Option Seen). course_by (door_of parts) (held_by (held start parts) p) t k.course p) (header_known first parts)

-- THE DOOR, A FLAG OR A NUMBER OF THE LINK, BEHIND ONE PART MORE

-- the door, the flags and the numbers that a run tells
pub record Marks : Type 0 where
  pub door : Door
  pub ended : Bool
  pub up_ended : Bool
  pub opened : Bool
  pub up_shut : Bool
  pub shut : Bool
  pub closed : Bool
  pub up : ℕ
  pub stream : Stream
  pub went_down : ℕ

abbrev pub marks_in : Captured → Marks
marks_in x = record {
  door = x.door;
  ended = x.ways.up.has_ended;
  up_ended = x.ways.down.has_ended;
  opened = x.ways.is_open;
  up_shut = x.up_shut;
  shut = x.shut;
  closed = x.closed;
  up = x.up;
  stream = record { gate = x.gate; number = x.stream };
  went_down = x.went_down;
}

-- a count with these bytes
abbrev pub adds : ℕ → List ℕ → ℕ
adds n [] = n
adds n (b ∷ bytes) = n + length (b ∷ bytes)

pub adds_all : (n : ℕ) (bytes : List ℕ) → adds n bytes ≡ n + length bytes
adds_all n [] = omega arith
adds_all n (b ∷ bytes) = refl

abbrev pub marks_by : Marks → Part → Marks
marks_by m p = record {
  door = door_by m.door p;
  ended = on_link is_end p || m.ended;
  up_ended = ends_up p || m.up_ended;
  opened = opens_up p || m.opened;
  up_shut = shuts_up p || m.up_shut;
  shut = on_link is_shut p || m.shut;
  closed = on_link is_close p || m.closed;
  up = up_in m.up p;
  stream = stream_by m.stream p;
  went_down = adds m.went_down (went_in p);
}

came_marks : (stage : Stage) (bytes : List ℕ) (x : Captured) → marks_in (came_by stage bytes x) ≡ marks_in x
came_marks unborn bytes x = refl
came_marks arriving bytes x = refl
came_marks fronting bytes x = refl
came_marks due bytes x = refl
came_marks opening bytes x = refl
came_marks accepting bytes x = refl
came_marks live bytes x = refl
came_marks (failed cause) bytes x = refl
came_marks (ended cause) bytes x = refl
came_marks (over cause) bytes x = refl

judged_marks : (b : Bool) (j : Judged) (x : Captured) → marks_in (cond b (judged_by j x) x) ≡ marks_in x
judged_marks true Admitted x = refl
judged_marks true Unknown x = refl
judged_marks true Denied x = refl
judged_marks false j x = refl

heard_marks : (heard : Heard) (begun : ℕ) (x : Captured) → marks_in (told_by heard begun x) ≡ marks_by (marks_in x) (hears heard begun)
heard_marks (opens true) begun x = refl
heard_marks (opens false) begun x = refl
heard_marks (brings bytes) begun x = refl
heard_marks response.ends begun x = refl
heard_marks (fails why) begun x = refl

pub marks_next : (a : Local) (p : Part) → marks_in (next a p).link ≡ marks_by (marks_in a.link) p
marks_next a (entry (e.Accepted l d)) = refl
marks_next a (entry (e.Came l bytes)) = came_marks a.link.stage bytes a.link
marks_next a (entry (e.Ended l)) = refl
marks_next a (entry (e.Went l bytes)) =
    ap (λ (n : ℕ). record (marks_in a.link) { went_down = n }) (sym (adds_all a.link.went_down bytes))
marks_next a (entry (e.Broke l)) = refl
marks_next a (entry (e.Shut l)) = refl
marks_next a (entry (e.Closed l why)) = refl
marks_next a (entry (e.Dialled l to why)) = refl
marks_next a (entry (e.DialFailed to why)) = refl
marks_next a (entry (e.Opened l)) = refl
marks_next a (entry (e.Balked way)) = refl
marks_next a (entry e.Tick) = refl
marks_next a (entry (e.Wait ready how)) = refl
marks_next a (up (e.Accepted l d)) = refl
marks_next a (up (e.Came l bytes)) = refl
marks_next a (up (e.Ended l)) = refl
marks_next a (up (e.Went l bytes)) = refl
marks_next a (up (e.Broke l)) = refl
marks_next a (up (e.Shut l)) = refl
marks_next a (up (e.Closed l why)) = refl
marks_next a (up (e.Dialled l to why)) = refl
marks_next a (up (e.DialFailed to why)) = refl
marks_next a (up (e.Opened l)) = refl
marks_next a (up (e.Balked way)) = refl
marks_next a (up e.Tick) = refl
marks_next a (up (e.Wait ready how)) = refl
marks_next a welcomed = refl
marks_next a crowded = refl
marks_next a lacked = refl
marks_next a (misfronted fault) = refl
marks_next a (fronted seen routing aim) = refl
marks_next a (refused seen routing why status made) = refl
marks_next a (accepted made) = refl
marks_next a roomless = refl
marks_next a (asked gate stream) = refl
marks_next a (hears heard begun) = heard_marks heard begun a.link
marks_next a (put bytes) = refl
marks_next a finished = refl
marks_next a (credited n) = refl
marks_next a (loosed begun) = refl
marks_next a (completed begun made) = refl
marks_next a (left made) = refl
marks_next a (done made) = refl
marks_next a (applied r) =
    judged_marks (judges a.link.door && is_judged a.link.stage) (judged (held_by a.held (applied r)) a.link.peer a.link.target) a.link
marks_next a (stopped cause) = refl

pub held_next : (a : Local) (p : Part) → (next a p).held ≡ held_by a.held p
held_next a (entry x) = refl
held_next a (up x) = refl
held_next a welcomed = refl
held_next a crowded = refl
held_next a lacked = refl
held_next a (misfronted fault) = refl
held_next a (fronted seen routing aim) = refl
held_next a (refused seen routing why status made) = refl
held_next a (accepted made) = refl
held_next a roomless = refl
held_next a (asked gate stream) = refl
held_next a (hears heard begun) = refl
held_next a (put bytes) = refl
held_next a finished = refl
held_next a (credited n) = refl
held_next a (loosed begun) = refl
held_next a (completed begun made) = refl
held_next a (left made) = refl
held_next a (done made) = refl
held_next a (applied r) = refl
held_next a (stopped cause) = refl
