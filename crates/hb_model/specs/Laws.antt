-- What every run of the machine obeys.
use Rattle.std.specs.Prelude.{◌≡◌, ℕ, List, []}
use Rattle.hb_conn.specs.Observed.{output}
use Rattle.hb_model.specs.declared.config.NodeConfig.{NodeConfig}
use Rattle.hb_model.specs.Point.{Point, entries}
use Rattle.hb_model.specs.Machine.{Machine}
use Rattle.hb_model.specs.Discovery.{live}
use Rattle.hb_model.specs.Puts.{IsAllPut}
use Rattle.hb_model.specs.Runs.{StandsFor, IsCalm}
use Rattle.hb_model.specs.Calls.{CallsLaw}
use Rattle.hb_model.specs.Dials.{DialLaw}
use Rattle.hb_model.specs.Ends.{EndLaw}
use Rattle.hb_model.specs.Connections.{ConnectionLaw}
use Rattle.hb_model.specs.Windows.{WindowLaw}
use Rattle.hb_model.specs.Requests.{RequestLaw}
use Rattle.hb_model.specs.Messages.{held, MessagesLaw, AppliedAtOnceLaw}
use Rattle.hb_model.specs.Inner.{InnerLaw, LookedAtLaw, HeardLaw}
use Rattle.hb_model.specs.Frames.{FrameLaw}

-- the calls on links are in order
abbrev pub RunsObeyCalls : Type 0
RunsObeyCalls = (g : NodeConfig) (m : Machine) (points : List Point) → StandsFor g m points → CallsLaw (entries points)

-- the control plane is dialled exactly when it is to be
abbrev pub RunsObeyDials : Type 0
RunsObeyDials = (g : NodeConfig) (m : Machine) (points : List Point) → StandsFor g m points → DialLaw g (entries points)

-- a link to the control plane is closed exactly for the first cause that ended it
abbrev pub RunsObeyEnds : Type 0
RunsObeyEnds = (g : NodeConfig) (m : Machine) (points : List Point) → StandsFor g m points → EndLaw points

-- what is held is what the responses applied make
abbrev pub RunsHold : Type 0
RunsHold = (g : NodeConfig) (m : Machine) (points : List Point) → StandsFor g m points → m.held ≡ held g points

-- the responses applied on a link are its first messages
abbrev pub RunsObeyMessages : Type 0
RunsObeyMessages = (g : NodeConfig) (m : Machine) (points : List Point) → StandsFor g m points → MessagesLaw points

-- each response is applied in the read that completes it
abbrev pub RunsApplyAtOnce : Type 0
RunsApplyAtOnce = (g : NodeConfig) (m : Machine) (points : List Point) → StandsFor g m points → AppliedAtOnceLaw points

-- a link's connection is one history
abbrev pub RunsObeyConnections : Type 0
RunsObeyConnections = (g : NodeConfig) (m : Machine) (points : List Point) → StandsFor g m points → ConnectionLaw points

-- the DATA that went on a link is a front of its requests
abbrev pub RunsObeyRequests : Type 0
RunsObeyRequests = (g : NodeConfig) (m : Machine) (points : List Point) → StandsFor g m points → RequestLaw g points

-- the frames that went on a link are its opening, one request, and what may stand behind
abbrev pub RunsSendOwnFrames : Type 0
RunsSendOwnFrames = (g : NodeConfig) (m : Machine) (points : List Point) → StandsFor g m points → FrameLaw points

-- on each link DATA fits both windows where it begins
abbrev pub RunsObeyWindows : Type 0
RunsObeyWindows = (g : NodeConfig) (m : Machine) (points : List Point) → StandsFor g m points → WindowLaw points

-- what is looked at and done between entries stands on links that go on
abbrev pub RunsObeyInner : Type 0
RunsObeyInner = (g : NodeConfig) (m : Machine) (points : List Point) → StandsFor g m points → InnerLaw points

-- at each entry all that came is looked at
abbrev pub RunsLookAtAll : Type 0
RunsLookAtAll = (g : NodeConfig) (m : Machine) (points : List Point) → StandsFor g m points → LookedAtLaw points

-- and no frame that came ended the stream of a link that goes on
abbrev pub RunsHearAll : Type 0
RunsHearAll = (g : NodeConfig) (m : Machine) (points : List Point) → StandsFor g m points → HeardLaw points

-- where nothing waits to be written on a link that lives, and nothing more happens on it by itself, all is put
abbrev pub RunsPutAll : Type 0
RunsPutAll = (g : NodeConfig) (m : Machine) (points : List Point) (l : ℕ) → StandsFor g m points → (m.links l).phase ≡ live
    → IsCalm (m.links l) → output (m.links l).conn ≡ [] → IsAllPut g points l
