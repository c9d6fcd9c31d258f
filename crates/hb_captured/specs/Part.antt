-- What happens to one captured link, in order: entries of its own and of its upstream, or what happens on its stream of a link to a
-- gateway; what follows by itself; and what others do to it.
use Rattle.std.specs.Prelude.{ℕ, List, [], ◌∷◌, Option, Some, None}
use Rattle.std.specs.List.{flat_map}
use Rattle.hb_base.specs.declared.cause.Cause.{Cause}
use Rattle.hb_base.specs.declared.note.Note.{Note}
use Rattle.hb_disco.specs.declared.response.Response.{Response}
use Rattle.hb_front.specs.Reading.{Seen}
use Rattle.hb_front.specs.declared.fault.FrontFault.{FrontFault}
use Rattle.hb_gateway.specs.Response.{Heard}
use Rattle.hb_world.specs.declared.entry.Entry.{Entry}
use Rattle.hb_captured.specs.Answer.{Aim, Routing}

pub data Part : Type 0 where
  -- a call of the world on the link, and on its upstream, or that one's dial
  entry : Entry → Part
  up : Entry → Part
  -- the link that was accepted is taken in; or turned away, since there are as many as may be
  welcomed : Part
  crowded : Part
  -- memory is wanting for the link: at its birth, or where its front header is whole
  lacked : Part
  -- the front header has a fault; or it is whole, and its bytes are to go there, or the link is refused for this cause, with this status,
  -- by what is held and these counts
  misfronted : FrontFault → Part
  fronted : Seen → Routing → Aim → Part
  refused : Seen → Routing → Cause → (status : ℕ) → Note → Part
  -- the upstream is open, or the gateway opened the stream, of which this note is made
  accepted : Note → Part
  -- BY A GATEWAY: no link to it has room, and no further one may be dialled
  roomless : Part
  -- a stream is asked for on this link
  asked : (gate stream : ℕ) → Part
  -- this is heard on the stream, behind so many bytes of the link that have begun to go there
  hears : Heard → (begun : ℕ) → Part
  -- these bytes are put on the stream; END_STREAM is; so many bytes that were written to the link are given back to its window
  put : List ℕ → Part
  finished : Part
  credited : ℕ → Part
  -- the stream is given up, since the tunnel ended, behind so many bytes that have begun to go
  loosed : (begun : ℕ) → Part
  -- both sides ended, and all went through, so many bytes there
  completed : (begun : ℕ) → Note → Part
  -- a tunnel ended; a note is made of it, but of one that was pending only where it has a status
  left : Option Note → Part
  -- both sides ended, and all went through
  done : Note → Part
  -- a response is applied; the run ends
  applied : Response → Part
  stopped : Cause → Part

-- the entries of the trace on the link and on its upstream
abbrev pub entry_in : Part → List Entry
entry_in (entry e) = e ∷ []
entry_in (up e) = e ∷ []
entry_in _ = []

abbrev pub entries : List Part → List Entry
entries parts = flat_map entry_in parts

-- the notes that are made
abbrev pub note_if : Option Note → List Note
note_if None = []
note_if (Some note) = note ∷ []

abbrev pub note_in : Part → List Note
note_in (refused seen routing why status note) = note ∷ []
note_in (accepted note) = note ∷ []
note_in (left note) = note_if note
note_in (done note) = note ∷ []
note_in (completed begun note) = note ∷ []
note_in _ = []

abbrev pub notes : List Part → List Note
notes parts = flat_map note_in parts
