-- Which part may come next, and what it makes of the link.
use Rattle.std.specs.Prelude.{⊤, ◌≡◌, ◌≢◌, ◌⊎◌, ℕ, ◌^◌, ◌-◌, ◌<◌, ◌≤◌, ◌&&◌, ◌||◌, Bool, true, false, List, [], ◌∷◌, ◌++◌, length, min, drop, Option, Some, None, Result, Ok, Err, nat_lt, codes, if◌then◌else◌}
use Rattle.hb_base.specs.IdentityText.{identity_of}
use Rattle.hb_base.specs.TargetText.{target_of}
use Rattle.hb_base.specs.declared.cause.Cause.{Cause}
use Rattle.hb_base.specs.declared.cause.Cause.TheVariants as cause
use Rattle.hb_base.specs.declared.door.Door.TheVariants as door
use Rattle.hb_base.specs.declared.door.Why.TheVariants as whys
use Rattle.hb_base.specs.declared.identity.Identity.{Identity}
use Rattle.hb_base.specs.declared.note.Note.{Note}
use Rattle.hb_base.specs.declared.note.Note.TheVariants as note
use Rattle.hb_base.specs.declared.target.BadTarget.{BadTarget}
use Rattle.hb_base.specs.declared.target.Target.{Target}
use Rattle.hb_conn.specs.Connection.{Connection}
use Rattle.hb_conn.specs.Observed as connection
use Rattle.hb_conn.specs.Observed.{own_side_open, sides, octets_held, header_list, creditable, count_put, data_put, status_put, end_put, aborted}
use Rattle.hb_frames.specs.Frames.{AreOctets}
use Rattle.hb_front.specs.Faults.{number_of}
use Rattle.hb_front.specs.Reading.{Seen, IsAnswer, Whole, Fault}
use Rattle.hb_held.specs.Held.{Resources}
use Rattle.hb_held.specs.Outcome.{after_response}
use Rattle.hb_hpack.specs.declared.header.HeaderList.{HeaderList}
use Rattle.hb_kept.specs.Looks.{IsLook}
use Rattle.hb_tunnel.specs.Way.{after, takes}
use Rattle.hb_verdict.specs.Fields.{value_of, is_connect, is_malformed}
use Rattle.hb_verdict.specs.Request.{request_of}
use Rattle.hb_verdict.specs.Verdict.{verdict}
use Rattle.hb_verdict.specs.declared.verdict.Verdict.{Verdict}
use Rattle.hb_verdict.specs.declared.verdict.Verdict.TheVariants.{Status, Reset, Dial}
use Rattle.hb_world.specs.declared.entry.Entry.{Entry}
use Rattle.hb_world.specs.declared.entry.Entry.TheVariants as e
use Rattle.hb_world.specs.declared.entry.Way.TheVariants as way
use Rattle.hb_inbound.specs.Calm.{wants, output, up_wants, may_end, is_done_on, IsAnswered, IsCalm, IsQuiet, IsNextFailed, IsNextEnded, close_due}
use Rattle.hb_inbound.specs.Inbound.{Inbound, Phase, unborn, arriving, fronting, serving, faulted, closing, closed, no_link, with_phase, at_stream, fronted_by, came, went, link_ended, link_broke, on_found, rejudged, lacking, stopped_for}
use Rattle.hb_inbound.specs.Block.{HoldsBlock}
use Rattle.hb_inbound.specs.Part.{Part, entry, up, welcomed, crowded, lacked, misfronted, looked, decided, accepted, refused, reset, left, done, put, finished, credited, applied, stopped}
use Rattle.hb_inbound.specs.Part as part
use Rattle.hb_inbound.specs.Tunnel.{Tunnel, Stage, requested, refusing, malformed, due, opening, accepting, live, failed, ended, over, gone, no_tunnel, at_stage, asked, left_with, up_entered, may_shut}

-- one link, and what is held beside it
pub record Local : Type 0 where
  pub held : Resources
  pub link : Inbound

abbrev pub with_link : Inbound → Local → Local
with_link x a = record a { link = x }

-- ENTRIES OF THE LINK

abbrev pub IsQuietAt : Phase → Inbound → Type 0
IsQuietAt phase x = IsQuiet x × (x.phase ≡ phase)

-- a connection error was told, and what waits is written once
abbrev pub IsFaulted : Inbound → Type 0
IsFaulted x = IsCalm x × (code : ℕ) × (x.phase ≡ faulted code)

abbrev pub IsReadable : Inbound → Type 0
IsReadable x = (IsQuietAt fronting x ⊎ IsQuietAt serving x) × (0 < wants x)

abbrev pub IsWritable : Inbound → Type 0
IsWritable x = IsQuietAt serving x ⊎ IsFaulted x

-- which entry may come on the link l; a call that moves nothing comes where one may come that moves something
abbrev pub MayCome : ℕ → Inbound → Entry → Type 0
MayCome l x (e.Accepted k d) = (k ≡ l) × (x.phase ≡ unborn) × (d ≡ door.Inbound)
MayCome l x (e.Came k bytes) = (k ≡ l) × IsReadable x × AreOctets bytes × (0 < length bytes) × (length bytes ≤ wants x)
MayCome l x (e.Ended k) = (k ≡ l) × IsReadable x
MayCome l x (e.Went k bytes) = (k ≡ l) × IsWritable x × (0 < length bytes) × ((rest : List ℕ) × (output x ≡ bytes ++ rest))
MayCome l x (e.Broke k) = (k ≡ l) × (IsQuietAt fronting x ⊎ IsWritable x)
MayCome l x (e.Closed k cause) = (k ≡ l) × IsCalm x × (close_due x.phase ≡ Some cause)
MayCome l x (e.Balked (way.Read k)) = (k ≡ l) × IsReadable x
MayCome l x (e.Balked (way.Write k)) = (k ≡ l) × IsWritable x × (0 < length (output x))
MayCome l x _ = ⊥

abbrev pub entered : Entry → Inbound → Inbound
entered (e.Accepted k d) x = with_phase arriving x
entered (e.Came k bytes) x = came bytes x
entered (e.Ended k) x = link_ended x
entered (e.Went k bytes) x = went (length bytes) x
entered (e.Broke k) x = link_broke x
entered (e.Closed k cause) x = with_phase closed x
entered _ x = x

-- ENTRIES OF UPSTREAMS

-- on the upstream u of a tunnel that is at this stage, while all is quiet
abbrev pub IsAt : Stage → ℕ → Inbound → Tunnel → Type 0
IsAt stage u x t = IsQuiet x × (t.stage ≡ stage) × (t.up ≡ u)

-- the number of a link that is none of these yet
abbrev pub IsNew : ℕ → ℕ → Inbound → Type 0
IsNew u l x = (0 < u) × (u ≢ l) × ((s : ℕ) → (x.tunnels s).up ≢ u)

-- which entry may come on the upstream of the tunnel t, which is on the stream s of the link l
abbrev pub UpMayCome : (l s : ℕ) → Inbound → Tunnel → Entry → Type 0
UpMayCome l s x t (e.Dialled u to why) =
    IsCalm x × (t.stage ≡ due) × IsNew u l x × (to ≡ t.target) × (why ≡ whys.Upstream l s)
UpMayCome l s x t (e.DialFailed to why) = IsCalm x × (t.stage ≡ due) × (to ≡ t.target) × (why ≡ whys.Upstream l s)
UpMayCome l s x t (e.Opened u) = IsAt opening u x t
UpMayCome l s x t (e.Came u bytes) = IsAt live u x t × AreOctets bytes × (0 < length bytes) × (length bytes ≤ up_wants t)
UpMayCome l s x t (e.Ended u) = IsAt live u x t × (0 < up_wants t)
UpMayCome l s x t (e.Went u bytes) =
    IsAt live u x t × (0 < length bytes) × ((rest : List ℕ) × (t.ways.up.held ≡ bytes ++ rest))
UpMayCome l s x t (e.Broke u) = IsAt opening u x t ⊎ IsAt live u x t
UpMayCome l s x t (e.Shut u) = IsCalm x × (t.stage ≡ live) × (t.up ≡ u) × (may_shut t ≡ true)
UpMayCome l s x t (e.Closed u cause) = IsCalm x × (t.stage ≡ over cause) × (t.up ≡ u)
UpMayCome l s x t (e.Balked (way.Finish u)) = IsAt opening u x t
UpMayCome l s x t (e.Balked (way.Read u)) = IsAt live u x t × (0 < up_wants t)
UpMayCome l s x t (e.Balked (way.Write u)) = IsAt live u x t × (0 < length t.ways.up.held)
UpMayCome l s x t _ = ⊥

-- THE FRONT HEADER

-- the identity that a header tells, where it tells one
abbrev pub Identifies : Option (List ℕ) → Option Identity → Type 0
Identifies None identity = identity ≡ None
Identifies (Some text) identity = identity ≡ identity_of text

-- REQUESTS

-- the target that a request for a tunnel names, whatever its address
abbrev pub target_or_none : Result Target BadTarget → Option Target
target_or_none (Ok target) = Some target
target_or_none (Err why) = None

abbrev pub target_in : Option (List ℕ) → Option Target
target_in None = None
target_in (Some authority) = target_or_none (target_of authority)

abbrev pub target_named : HeaderList → Option Target
target_named headers =
    if nat_lt 16384 headers.size || is_malformed headers.kept then None
    else if is_connect headers.kept then target_in (value_of (codes ":authority") headers.kept) else None

-- what it is answered: the verdict by what is held, or 500 in the place of a dial for which memory is wanting
abbrev pub verdict_on : Local → HeaderList → (full : Bool) → Verdict
verdict_on a headers full = verdict (request_of headers a.link.destination) a.held a.link.peer full

abbrev pub IsAnswerTo : Local → HeaderList → (full : Bool) → Verdict → Type 0
IsAnswerTo a headers full answer =
    (answer ≡ verdict_on a headers full)
    ⊎ ((target : Target) × (verdict_on a headers full ≡ Dial target) × (answer ≡ Status 500))

-- the tunnel that an answer makes
abbrev pub tunnel_for : Verdict → HeaderList → (end : Bool) → Tunnel
tunnel_for (Status status) headers end = at_stage (refusing status (target_named headers)) no_tunnel
tunnel_for Reset headers end = at_stage malformed no_tunnel
tunnel_for (Dial target) headers end = asked target end

-- WHAT A STREAM GETS AT ITS TUNNEL'S END

-- the status of a tunnel that was pending, and the code of one that was live, where the cause has one (RFC 9110 section 15,
-- RFC 9113 section 7: CANCEL, CONNECT_ERROR)
abbrev pub failure_status : Cause → Option ℕ
failure_status cause.Revoked = Some 401
failure_status cause.UpFault = Some 502
failure_status _ = None

abbrev pub end_code : Cause → Option ℕ
end_code cause.Revoked = Some 8
end_code cause.UpFault = Some 10
end_code _ = None

abbrev pub is_serving : Phase → Bool
is_serving serving = true
is_serving _ = false

-- it gets that while the stream still stands
abbrev pub status_due : Inbound → ℕ → Cause → Option ℕ
status_due x s cause = if is_serving x.phase && own_side_open x.conn s then failure_status cause else None

abbrev pub code_due : Inbound → ℕ → Cause → Option ℕ
code_due x s cause =
    if is_serving x.phase && ((sides x.conn s).own || (sides x.conn s).peer) then end_code cause else None

-- THE NOTES

-- a count of bytes stops at 2^64 - 1
abbrev pub counted : ℕ → ℕ
counted n = min n (2 ^ 64 - 1)

abbrev pub verdict_note : (l s : ℕ) → Inbound → (status : ℕ) → Option Target → Note
verdict_note l s x status target = note.Verdict l s status x.peer target

abbrev pub end_note : (l s : ℕ) → Cause → Tunnel → Note
end_note l s cause t = note.End l s cause (counted t.went_up) (counted t.went_down)

-- WHAT HAPPENS BY ITSELF

-- with this tunnel on the stream, and this connection
abbrev pub with_tunnel : ℕ → Tunnel → Connection → Inbound → Inbound
with_tunnel s t c x = record (at_stream s (λ old. t) x) { conn = c }

-- a refusal with the end of this end's side, behind which the stream is reset with NO_ERROR where the peer's side is open
abbrev pub refused_on : (s status : ℕ) → (resets : Bool) → Connection → Connection
refused_on s status true c = aborted (status_put c s (record { number = status; end = true })) s 0
refused_on s status false c = status_put c s (record { number = status; end = true })

-- which refusal a stage asks for, with which note, and what is left of the tunnel
abbrev pub Refuses : (l s : ℕ) → Inbound → Stage → (status : ℕ) → Note → Tunnel → Type 0
Refuses l s x (refusing status target) n made next =
    (n ≡ status) × (made ≡ verdict_note l s x status target) × (next ≡ at_stage gone (x.tunnels s))
Refuses l s x (failed cause) n made next =
    IsNextFailed x s × (status_due x s cause ≡ Some n) × (made ≡ verdict_note l s x n (Some (x.tunnels s).target))
    × (next ≡ left_with cause (x.tunnels s))
Refuses l s x _ n made next = ⊥

-- which reset a stage asks for: PROTOCOL_ERROR behind what is no request
abbrev pub Resets : (l s : ℕ) → Inbound → Stage → (code : ℕ) → Note → Tunnel → Type 0
Resets l s x malformed n made next =
    (n ≡ 1) × (made ≡ verdict_note l s x 0 None) × (next ≡ at_stage gone (x.tunnels s))
Resets l s x (ended cause) n made next =
    IsNextEnded x s × (code_due x s cause ≡ Some n) × (made ≡ end_note l s cause (x.tunnels s))
    × (next ≡ left_with cause (x.tunnels s))
Resets l s x _ n made next = ⊥

-- at which ends nothing is put
abbrev pub Leaves : (l s : ℕ) → Inbound → Stage → Option Note → Tunnel → Type 0
Leaves l s x (failed cause) made next =
    IsNextFailed x s × (status_due x s cause ≡ None) × (made ≡ None) × (next ≡ left_with cause (x.tunnels s))
Leaves l s x (ended cause) made next =
    IsNextEnded x s × (code_due x s cause ≡ None) × (made ≡ Some (end_note l s cause (x.tunnels s)))
    × (next ≡ left_with cause (x.tunnels s))
Leaves l s x _ made next = ⊥

-- while the link serves and every tunnel is answered, the one on the stream lives
abbrev pub IsLiveOn : ℕ → Inbound → Type 0
IsLiveOn s x = (x.phase ≡ serving) × IsAnswered x × ((x.tunnels s).stage ≡ live)

-- what is put of a tunnel's bytes
abbrev pub put_down : Connection → ℕ → Tunnel → Tunnel
put_down c s t = record t { ways = record t.ways { down = after t.ways.down (takes (count_put c s t.ways.down.held)) } }

-- where memory may lack for the link: at its birth, where its header is whole, for a header block that came
abbrev pub Lacks : Phase → Inbound → Type 0
Lacks arriving x = ⊤
Lacks fronting x = (seen : Seen) × IsAnswer x.front (Whole seen)
Lacks serving x = IsAnswered x × HoldsBlock (octets_held x.conn)
Lacks _ x = ⊥

-- WHAT A PART MAKES OF A LINK, WHERE IT MAY COME NEXT
abbrev pub Steps : (l : ℕ) → Local → Part → Local → Type 0
Steps l a (entry e) b = MayCome l a.link e × (b ≡ with_link (entered e a.link) a)
Steps l a (up s e) b =
    UpMayCome l s a.link (a.link.tunnels s) e × (b ≡ with_link (at_stream s (up_entered e) a.link) a)
Steps l a welcomed b = (a.link.phase ≡ arriving) × (b ≡ with_link (with_phase fronting a.link) a)
Steps l a crowded b = (a.link.phase ≡ arriving) × (b ≡ with_link (with_phase (closing cause.NoRoom) a.link) a)
Steps l a lacked b = Lacks a.link.phase a.link × (b ≡ with_link (lacking a.link) a)
Steps l a (part.fronted seen) b =
    (a.link.phase ≡ fronting) × IsAnswer a.link.front (Whole seen) × (identity : Option Identity) × Identifies seen.identity identity
    × (b ≡ with_link (fronted_by seen identity (drop seen.length a.link.front) a.link) a)
Steps l a (misfronted fault) b =
    (a.link.phase ≡ fronting) × IsAnswer a.link.front (Fault fault)
    × (b ≡ with_link (with_phase (closing (cause.FrontFault (number_of fault))) a.link) a)
Steps l a (looked points told headers) b =
    (a.link.phase ≡ serving) × IsAnswered a.link × (conn : Connection) × IsLook a.link.conn points told conn
    × (headers ≡ header_list conn) × (b ≡ with_link (on_found told headers conn a.link) a)
Steps l a (decided s full answer) b =
    (a.link.phase ≡ serving) × (headers : HeaderList) × (end : Bool) × ((a.link.tunnels s).stage ≡ requested headers end)
    × IsAnswerTo a headers full answer
    × (b ≡ with_link (at_stream s (λ t. tunnel_for answer headers end) a.link) a)
Steps l a (accepted s made) b =
    (a.link.phase ≡ serving) × ((a.link.tunnels s).stage ≡ accepting)
    × (made ≡ verdict_note l s a.link 200 (Some (a.link.tunnels s).target))
    × (b ≡ with_link (with_tunnel s (at_stage live (a.link.tunnels s))
    (status_put a.link.conn s (record { number = 200; end = false })) a.link) a)
Steps l a (refused s status resets made) b =
    (a.link.phase ≡ serving) × (next : Tunnel) × Refuses l s a.link (a.link.tunnels s).stage status made next
    × (resets ≡ (sides a.link.conn s).peer)
    × (b ≡ with_link (with_tunnel s next (refused_on s status resets a.link.conn) a.link) a)
Steps l a (reset s code made) b =
    (a.link.phase ≡ serving) × (next : Tunnel) × Resets l s a.link (a.link.tunnels s).stage code made next
    × (b ≡ with_link (with_tunnel s next (aborted a.link.conn s code) a.link) a)
Steps l a (left s made) b =
    (next : Tunnel) × Leaves l s a.link (a.link.tunnels s).stage made next
    × (b ≡ with_link (with_tunnel s next a.link.conn a.link) a)
Steps l a (done s made) b =
    IsLiveOn s a.link × (is_done_on a.link.conn s (a.link.tunnels s) ≡ true)
    × (made ≡ end_note l s cause.Done (a.link.tunnels s))
    × (b ≡ with_link (at_stream s (left_with cause.Done) a.link) a)
Steps l a (put s bytes) b =
    IsLiveOn s a.link × (bytes ≡ (a.link.tunnels s).ways.down.held) × (0 < count_put a.link.conn s bytes)
    × (b ≡ with_link (with_tunnel s (put_down a.link.conn s (a.link.tunnels s)) (data_put a.link.conn s bytes) a.link) a)
Steps l a (finished s) b =
    IsLiveOn s a.link × (may_end a.link.conn s (a.link.tunnels s) ≡ true)
    × (b ≡ with_link (with_tunnel s (record (a.link.tunnels s) { end_put = true }) (end_put a.link.conn s) a.link) a)
Steps l a (credited s n) b =
    IsLiveOn s a.link × (0 < (a.link.tunnels s).owed)
    × (n ≡ min (a.link.tunnels s).owed (creditable a.link.conn s))
    × (b ≡ with_link (with_tunnel s (record (a.link.tunnels s) { owed = 0 }) (connection.credited a.link.conn s n) a.link) a)
Steps l a (applied r) b =
    b ≡ record { held = after_response a.held r; link = rejudged (after_response a.held r) a.link }
Steps l a (stopped cause) b = b ≡ with_link (stopped_for cause a.link) a

-- a link stands for the parts of a run that leads to it, before which this was held
pub data StandsFor (l : ℕ) (start : Resources) : Local → List Part → Type 0 where
  begins : {a : Local} {parts : List Part} → a ≡ record { held = start; link = no_link } → parts ≡ [] → StandsFor l start a parts
  goes_on : {a b : Local} {parts more : List Part} → StandsFor l start a parts → (p : Part) → Steps l a p b
      → more ≡ parts ++ p ∷ [] → StandsFor l start b more
