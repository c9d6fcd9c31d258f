-- One end of a connection as others see it: what its calls tell, and what each call leaves. Who stands above names only these.
use Rattle.std.specs.Prelude.{◌≡◌, ℕ, Bool, List, [], Option, None, Result}
use Rattle.std.specs.FinMap.{len}
use Rattle.hb_base.specs.declared.or.Or.{Or}
use Rattle.hb_hpack.specs.declared.header.Header.{Header}
use Rattle.hb_hpack.specs.declared.header.HeaderList.{HeaderList}
use Rattle.hb_frames.specs.RawFrame.{RawFrame}
use Rattle.hb_streams.specs.Answers.{number_of}
use Rattle.hb_streams.specs.Sides.{sides_of, IsActive}
use Rattle.hb_streams.specs.States.{States, state_of}
use Rattle.hb_streams.specs.declared.fault.OpenFault.{OpenFault}
use Rattle.hb_streams.specs.declared.role.Role.{Role}
use Rattle.hb_streams.specs.declared.sides.Sides.{Sides}
use Rattle.hb_flow.specs.Flows as flows
use Rattle.hb_outgoing.specs.Selected as selected
use Rattle.hb_outgoing.specs.Selected.{first_data}
use Rattle.hb_outgoing.specs.declared.unbegun.Unbegun.{Unbegun}
use Rattle.hb_outgoing.specs.Waiting.{Waiting, octets_of, room_of}
use Rattle.hb_outgoing.specs.Written.{begun_by}
use Rattle.hb_owed.specs.Debts.{dues}
use Rattle.hb_owed.specs.declared.due.Due.{Due}
use Rattle.hb_owed.specs.declared.status.Status.{Status}
use Rattle.hb_conn.specs.Connection.{Connection, with_core}
use Rattle.hb_conn.specs.Credit as credits
use Rattle.hb_conn.specs.Ending as ending
use Rattle.hb_conn.specs.Faults as faults
use Rattle.hb_conn.specs.Glance.{glance_of}
use Rattle.hb_conn.specs.Laws.{IsCaughtUp}
use Rattle.hb_conn.specs.Opening as opening
use Rattle.hb_conn.specs.Owing as owing
use Rattle.hb_conn.specs.Payload as payload
use Rattle.hb_conn.specs.Receiving as receiving
use Rattle.hb_conn.specs.Receiving.{pauses}
use Rattle.hb_conn.specs.declared.found.Found.{Found}
use Rattle.hb_conn.specs.declared.found.Found.TheVariants as found
use Rattle.hb_conn.specs.declared.glance.Glance.TheVariants.{Nothing}

-- what waits to be written: what is left of the frames begun, and the frames that haven't begun
abbrev pub outgoing : Connection → Waiting
outgoing c = c.receiver.core.out

-- its octets
abbrev pub output : Connection → List ℕ
output c = octets_of (outgoing c)

-- how many octets more the output has room for
abbrev pub room : Connection → ℕ
room c = room_of (outgoing c)

-- the frames that begin with a write of n octets: those whose first octet is among them
abbrev pub frames_begun : ℕ → Connection → List RawFrame
frames_begun n c = begun_by n (outgoing c)

-- the frames of streams that are owed, since the output lacked room
abbrev pub owed : Connection → List (ℕ × Due)
owed c = dues c.receiver.core.owed

-- where the output has room for the largest frame that can be owed, none is owed
abbrev pub OwesNoneWithRoom : Connection → Type 0
OwesNoneWithRoom c = IsCaughtUp c.receiver.core

-- a connection error was told (RFC 9113 section 5.4.1)
abbrev pub is_over : Connection → Bool
is_over c = c.receiver.core.over

-- no frame is looked at: there may be no room for its answers, or a connection error was told
abbrev pub is_paused : Connection → Bool
is_paused c = pauses c.receiver.core

-- the octets that came and aren't looked at yet
abbrev pub octets_held : Connection → List ℕ
octets_held c = c.receiver.reader.held

-- no whole frame is held
abbrev pub NoneIsWhole : Connection → Type 0
NoneIsWhole c = glance_of c.receiver.reader ≡ Nothing

-- nothing more is to be told of what came: of no end, and of no whole frame
abbrev pub IsLookedAt : Connection → Type 0
IsLookedAt c = (c.ended ≡ None) × NoneIsWhole c

-- memory was wanting for a header block: behind frames of which nothing is told a frame of one stands next
abbrev pub LacksBlock : Connection → Type 0
LacksBlock c = receiving.LacksBlock c.receiver

-- the octets of DATA that were told last, and those that are handed out with what is told
abbrev pub data_told : Connection → List ℕ
data_told c = c.receiver.reader.last

abbrev pub chunk_of : Connection → Found → List ℕ
chunk_of c (found.Chunk stream end) = data_told c
chunk_of c _ = []

-- the header list that was read last
abbrev pub header_list : Connection → HeaderList
header_list c = c.receiver.core.blocks.headers

-- the streams (RFC 9113 section 5.1)
abbrev pub streams : Connection → States
streams c = c.receiver.core.streams

-- which end of the connection this is
abbrev pub role : Connection → Role
role c = (streams c).role

-- which sides of a stream are open
abbrev pub sides : Connection → ℕ → Sides
sides c stream = sides_of (state_of (streams c) stream)

-- this end's side of it is
abbrev pub own_side_open : Connection → ℕ → Bool
own_side_open c stream = (sides c stream).own

-- one of them is
abbrev pub IsActiveOn : Connection → ℕ → Type 0
IsActiveOn c stream = IsActive (state_of (streams c) stream)

-- how many streams are open or half-closed
abbrev pub streams_open : Connection → ℕ
streams_open c = len (streams c).active

-- the number of the stream that this end would open next, or why there is none (RFC 9113 sections 5.1.1 and 5.1.2)
abbrev pub next_stream : Connection → Result ℕ OpenFault
next_stream c = number_of (streams c) c.receiver.core.peer.streams

-- the octets that came on a stream and aren't used up
abbrev pub creditable : Connection → ℕ → ℕ
creditable c stream = flows.creditable c.receiver.core.flow stream

-- how many octets a DATA frame of a stream may have: what both windows and the peer's SETTINGS_MAX_FRAME_SIZE let go, of which
-- at most 16,384 are used (RFC 9113 sections 4.2 and 6.9)
abbrev pub sendable : Connection → ℕ → ℕ
sendable c stream = payload.allowed c.receiver.core stream

-- how many of these octets are put in one DATA frame: none while the output holds any, nor behind a connection error
abbrev pub count_put : Connection → ℕ → List ℕ → ℕ
count_put c stream bytes = payload.count_put c.receiver.core stream bytes

-- the first DATA frame with payload that waits and of which no octet was written
abbrev pub data_unbegun : Connection → Option Unbegun
data_unbegun c = first_data (outgoing c).queue

-- of a DATA frame of the stream octets were written, and octets wait
abbrev pub data_begun : Connection → ℕ → Bool
data_begun c stream = selected.data_begun stream (outgoing c).begun

-- a frame of the stream with END_STREAM is owed, or has an octet in the output
abbrev pub end_waits : Connection → ℕ → Bool
end_waits c stream = ending.end_waits_on c.receiver.core stream

-- What each call leaves.

-- nothing of what came changes: the octets held, what came of the preface, an end that is still to be told
abbrev pub KeepsWhatCame : Connection → Connection → Type 0
KeepsWhatCame old new = new ≡ with_core old new.receiver.core

-- the first n octets of the output were written: then what is owed is put, as far as there is room
abbrev pub wrote : Connection → ℕ → Connection
wrote c n = with_core c (owing.wrote c.receiver.core n)

-- this stream is opened with these headers, and this end's side ends at once where `end` says so
abbrev pub opened : Connection → ℕ → List Header → Bool → Connection
opened c stream headers end = with_core c (opening.opened_with c.receiver.core stream headers end)

-- the next stream is opened so, or there is none and nothing changes
abbrev pub Opens : Connection → List Header → Bool → Connection → Result ℕ (Or OpenFault) → Type 0
Opens old headers end new result =
    opening.Opens old.receiver.core (λ stream. opening.opened_with old.receiver.core stream headers end) new.receiver.core result

-- as many of these octets as `count_put` says are put in one DATA frame of the stream
abbrev pub data_put : Connection → ℕ → List ℕ → Connection
data_put c stream bytes = with_core c (payload.data_put c.receiver.core stream bytes)

-- n octets that came on the stream are used up, and granted again where that is due
abbrev pub credited : Connection → ℕ → ℕ → Connection
credited c stream n = with_core c (credits.credit c.receiver.core stream n)

-- HEADERS with a status are put on the stream or owed, which may end this end's side
abbrev pub status_put : Connection → ℕ → Status → Connection
status_put c stream status = with_core c (ending.status_put c.receiver.core stream status)

-- an empty DATA frame that ends this end's side of the stream is put or owed
abbrev pub end_put : Connection → ℕ → Connection
end_put c stream = with_core c (ending.end_put c.receiver.core stream)

-- the stream's DATA that hasn't begun is taken back, and RST_STREAM is put or owed
abbrev pub aborted : Connection → ℕ → ℕ → Connection
aborted c stream code = with_core c (faults.aborted c.receiver.core stream code)
