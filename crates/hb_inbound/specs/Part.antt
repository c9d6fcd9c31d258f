-- What happens to one inbound link, in order: entries of its own and of its upstreams, what is looked at and done by itself, and
-- what others do to it.
use Rattle.std.specs.Prelude.{ℕ, Bool, true, false, List, [], ◌∷◌, ◌++◌, length, if◌then◌else◌, Option, Some, None}
use Rattle.std.specs.List.{flat_map}
use Rattle.hb_base.specs.declared.cause.Cause.{Cause}
use Rattle.hb_base.specs.declared.note.Note.{Note}
use Rattle.hb_conn.specs.declared.found.Found.{Found}
use Rattle.hb_conn.specs.declared.found.Found.TheVariants.{Silent}
use Rattle.hb_disco.specs.declared.response.Response.{Response}
use Rattle.hb_front.specs.Reading.{Seen}
use Rattle.hb_front.specs.declared.fault.FrontFault.{FrontFault}
use Rattle.hb_history.specs.Calls.{in_list}
use Rattle.hb_history.specs.Points as history
use Rattle.hb_hpack.specs.declared.header.HeaderList.{HeaderList}
use Rattle.hb_verdict.specs.declared.verdict.Verdict.{Verdict}
use Rattle.hb_world.specs.declared.entry.Entry.{Entry}
use Rattle.hb_world.specs.declared.entry.Entry.TheVariants as e

pub data Part : Type 0 where
  -- a call of the world on the link, and on the upstream of a stream, or its dial
  entry : Entry → Part
  up : (stream : ℕ) → Entry → Part
  -- the link that was accepted is taken in; or turned away, since there are as many as may be
  welcomed : Part
  crowded : Part
  -- memory is wanting for the link: at its birth, where its front header is whole, or for a header block
  lacked : Part
  -- the front header is whole, or has a fault
  fronted : Seen → Part
  misfronted : FrontFault → Part
  -- frames are looked at, up to one of which this is told or to the last whole one; and the header list that was read last
  looked : List history.Point → Found → HeaderList → Part
  -- a request gets this answer, where the places of tunnels were all taken or not
  decided : (stream : ℕ) → (full : Bool) → Verdict → Part
  -- 200 is put, of which this note is made
  accepted : (stream : ℕ) → Note → Part
  -- a refusal is put with the end of this end's side, behind which the stream is reset where the peer's side is open
  refused : (stream status : ℕ) → (resets : Bool) → Note → Part
  -- the stream is reset
  reset : (stream code : ℕ) → Note → Part
  -- nothing is put at the end of a tunnel; a note is made of it where it had been live
  left : (stream : ℕ) → Option Note → Part
  -- both sides of a tunnel ended, and all went through
  done : (stream : ℕ) → Note → Part
  -- of the bytes that wait as many are put in one DATA frame as may be; END_STREAM is put
  put : (stream : ℕ) → List ℕ → Part
  finished : (stream : ℕ) → Part
  -- bytes that were written to the upstream are given back to the stream's window
  credited : (stream n : ℕ) → Part
  -- a response is applied; the run ends
  applied : Response → Part
  stopped : Cause → Part

-- the entries of the trace on the link and on its upstreams
abbrev pub entry_in : Part → List Entry
entry_in (entry e) = e ∷ []
entry_in (up s e) = e ∷ []
entry_in _ = []

abbrev pub entries : List Part → List Entry
entries parts = flat_map entry_in parts

abbrev pub act : history.Move → List history.Point
act move = history.point move Silent ∷ []

-- what an entry adds to the history of the link's connection
abbrev pub moves_by : Entry → List history.Point
moves_by (e.Went l bytes) = act (history.wrote (length bytes))
moves_by _ = []

-- what a part adds to it
abbrev pub moves_in : Part → List history.Point
moves_in (entry e) = moves_by e
moves_in (looked points told headers) = points
moves_in (accepted s note) = act (history.answered s (record { number = 200; end = false }))
moves_in (refused s status resets note) =
    act (history.answered s (record { number = status; end = true })) ++ (if resets then act (history.reset s 0) else [])
moves_in (reset s code note) = act (history.reset s code)
moves_in (put s bytes) = act (history.put s bytes)
moves_in (finished s) = act (history.ended s)
moves_in (credited s n) = act (history.credited s n)
moves_in _ = []

-- the moves of the link's connection, in order
abbrev pub moves : List Part → List history.Point
moves parts = flat_map moves_in parts

-- what is told of it
abbrev pub telling : Part → List Found
telling (looked points told headers) = in_list told
telling _ = []

abbrev pub tellings : List Part → List Found
tellings parts = flat_map telling parts

-- the notes that are made
abbrev pub note_if : Option Note → List Note
note_if None = []
note_if (Some note) = note ∷ []

abbrev pub note_in : Part → List Note
note_in (accepted s note) = note ∷ []
note_in (refused s status resets note) = note ∷ []
note_in (reset s code note) = note ∷ []
note_in (left s note) = note_if note
note_in (done s note) = note ∷ []
note_in _ = []

abbrev pub notes : List Part → List Note
notes parts = flat_map note_in parts
