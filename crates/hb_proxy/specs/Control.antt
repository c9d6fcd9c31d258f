-- The laws of the links to the control plane, said at each entry of the whole trace.
use Rattle.std.specs.Prelude.{◌≡◌, List, [], ◌∷◌, ◌++◌}
use Rattle.hb_model.specs.Calls.{CallsLaw}
use Rattle.hb_model.specs.Connections.{ConnectionLaw}
use Rattle.hb_model.specs.Ends.{EndMayStand}
use Rattle.hb_model.specs.Frames.{FrameLaw}
use Rattle.hb_model.specs.Inner.{InnerLaw, AllLookedAt, AllHeard}
use Rattle.hb_model.specs.Messages.{MessagesLaw, AllMayBeApplied}
use Rattle.hb_model.specs.Point as model
use Rattle.hb_model.specs.Requests.{RequestLaw}
use Rattle.hb_model.specs.Windows.{WindowLaw}
use Rattle.hb_model.specs.declared.config.NodeConfig.{NodeConfig}
use Rattle.hb_world.specs.declared.entry.Entry.{Entry}
use Rattle.hb_proxy.specs.Points.{Point, entry_in, control_of}

-- at each entry of the trace, of whatever part: what holds of the control plane's points before it and of the entry
abbrev pub AtEntries : (List model.Point → Entry → Type 0) → List Point → Type 0
AtEntries P points = (before : List Point) (p : Point) (z : Entry) (behind : List Point) → points ≡ before ++ p ∷ behind
    → entry_in p ≡ z ∷ [] → P (control_of before) z

-- A link to the control plane is closed for the first cause that ended it, and no entry of any part stands before that, but that of the
-- one write behind a connection error, and a close; each response is applied before any other entry; so are all frames looked at, and
-- none of them ended a link's stream
pub record EntryLaws (points : List Point) : Type 0 where
  pub ends : AtEntries EndMayStand points
  pub applied : AtEntries AllMayBeApplied points
  pub looked : AtEntries AllLookedAt points
  pub heard : AtEntries AllHeard points

-- what is said of the control plane's points, by whose bytes are those of the trace
pub record ControlLaws (g : NodeConfig) (points : List model.Point) : Type 0 where
  pub calls : CallsLaw (model.entries points)
  pub inner : InnerLaw points
  pub messages : MessagesLaw points
  pub connections : ConnectionLaw points
  pub requests : RequestLaw g points
  pub frames : FrameLaw points
  pub windows : WindowLaw points
