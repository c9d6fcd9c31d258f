-- The points of a run, in order: the entries of its trace, and between them what the proxy looks at and does by itself.
use Rattle.std.specs.Prelude.{ℕ, ◌==◌, false, if◌then◌else◌, List, [], ◌∷◌, length}
use Rattle.std.specs.List.{flat_map}
use Rattle.hb_base.specs.declared.cause.Cause.{Cause}
use Rattle.hb_base.specs.declared.door.Why.{Why}
use Rattle.hb_base.specs.declared.door.Why.TheVariants as whys
use Rattle.hb_base.specs.declared.target.Target.{Target}
use Rattle.hb_hpack.specs.declared.header.Header.{Header}
use Rattle.hb_disco.specs.declared.response.Response.{Response}
use Rattle.hb_conn.specs.declared.found.Found.{Found}
use Rattle.hb_conn.specs.declared.found.Found.TheVariants as found
use Rattle.hb_history.specs.Points as history
use Rattle.hb_history.specs.Calls.{in_list}
pub use Rattle.hb_history.specs.Points.{data_of, data_in}
use Rattle.hb_world.specs.declared.entry.Entry.{Entry}
use Rattle.hb_world.specs.declared.entry.Entry.TheVariants as e
use Rattle.hb_model.specs.Discovery.{stream, headers_of}

pub data Point : Type 0 where
  -- a call of the world did this
  entry : Entry → Point
  -- on this link these frames were looked at, up to one of which this is told or to the last whole one; and the headers that
  -- were read last
  looked : (link : ℕ) → List history.Point → Found → List Header → Point
  -- a message of this link is whole, and is a response, which is applied
  applied : (link : ℕ) → Response → Point
  -- a message of this link is no response, or its bytes are no message
  refused : (link : ℕ) → Point
  -- the DATA handed out on this link has no whole message any more, and is used up
  used : (link : ℕ) → (n : ℕ) → Point
  -- of what waits to be sent on this link's stream as much as may be is put in one DATA frame
  put : (link : ℕ) → List ℕ → Point
  -- the run ends for this cause
  stopped : Cause → Point

-- the trace of a run
abbrev pub entry_in : Point → List Entry
entry_in (entry e) = e ∷ []
entry_in _ = []

abbrev pub entries : List Point → List Entry
entries points = flat_map entry_in points

-- what happened on a link
abbrev pub on_link : ℕ → ℕ → List history.Point → List history.Point
on_link link l points = if l == link then points else []

-- an act of this end
abbrev pub act : history.Move → List history.Point
act move = history.point move found.Silent ∷ []

-- a link to the control plane opens its stream where it is dialled
abbrev pub moves_at_birth : Target → Why → List history.Point
moves_at_birth to whys.Discovery = act (history.opened stream (headers_of to) false)
moves_at_birth to _ = []

-- what is written counts where it went
abbrev pub moves_in_entry : ℕ → Entry → List history.Point
moves_in_entry link (e.Dialled l to why) = on_link link l (moves_at_birth to why)
moves_in_entry link (e.Went l bytes) = on_link link l (act (history.wrote (length bytes)))
moves_in_entry link _ = []

abbrev pub moves_in : ℕ → Point → List history.Point
moves_in link (entry e) = moves_in_entry link e
moves_in link (looked l points told headers) = on_link link l points
moves_in link (used l n) = on_link link l (act (history.credited stream n))
moves_in link (put l bytes) = on_link link l (act (history.put stream bytes))
moves_in link _ = []

-- the moves of a link's connection, in order
abbrev pub moves : ℕ → List Point → List history.Point
moves link points = flat_map (moves_in link) points

-- what a point tells of a link's connection
abbrev pub telling : ℕ → Point → List Found
telling link (looked l points told headers) = if l == link then in_list told else []
telling link _ = []

-- all that is told of it, in order
abbrev pub tellings : ℕ → List Point → List Found
tellings link points = flat_map (telling link) points
