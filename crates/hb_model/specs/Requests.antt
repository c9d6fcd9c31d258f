-- The requests to the control plane.
use Rattle.std.specs.Prelude.{◌≡◌, ℕ, ◌==◌, if◌then◌else◌, List, [], ◌∷◌, ◌++◌}
use Rattle.hb_frames.specs.RawFrame.{RawFrame}
use Rattle.hb_base.specs.declared.door.Why.{Why}
use Rattle.hb_base.specs.declared.door.Why.TheVariants as whys
use Rattle.hb_held.specs.Held.{Resources, nothing_held}
use Rattle.hb_conn.specs.Preface.{octets}
use Rattle.hb_outgoing.specs.Waiting as outgoing
use Rattle.hb_kept.specs.Payloads.{payloads}
use Rattle.hb_world.specs.Trace.{sent}
use Rattle.hb_world.specs.declared.entry.Entry.TheVariants as e
use Rattle.hb_model.specs.declared.config.NodeConfig.{NodeConfig}
use Rattle.hb_model.specs.Discovery.{stream, first_requests, answer_to, spelled}
use Rattle.hb_model.specs.Point.{Point, entry, applied, entries}
use Rattle.hb_model.specs.Calls.{IsControl}
use Rattle.hb_model.specs.Messages.{held_by}

-- the first two, of a link to the control plane
abbrev pub requests_at_birth : List ℕ → Resources → Why → List (List ℕ)
requests_at_birth id held whys.Discovery = first_requests id held
requests_at_birth id held _ = []

-- the requests that a point asks for on a link: the first two where it is dialled, then an answer to each response
abbrev pub request_in : NodeConfig → Resources → ℕ → Point → List (List ℕ)
request_in g held l (entry (e.Dialled k to why)) = if k == l then requests_at_birth g.id held why else []
request_in g held l (applied k r) = if k == l then answer_to held r ∷ [] else []
request_in g held l _ = []

-- those of some points, before which this is held
abbrev pub requests_from : NodeConfig → Resources → ℕ → List Point → List (List ℕ)
requests_from g held l [] = []
requests_from g held l (p ∷ points) = request_in g held l p ++ requests_from g (held_by held p) l points

-- the requests of a link, in order
abbrev pub requests : NodeConfig → ℕ → List Point → List (List ℕ)
requests g l points = requests_from g (nothing_held g.network g.node g.doors) l points

-- What went on a link is, after the opening, frames, of which the last may be in part; the DATA in them is a front of the
-- requests, each in the spelling of a message
pub record AreRequests (g : NodeConfig) (points : List Point) (l : ℕ) : Type 0 where
  pub begun : List RawFrame
  pub owed : List ℕ
  pub went : sent l (entries points) ++ owed ≡ octets ++ outgoing.spelled begun
  pub rest : List ℕ
  pub front : spelled (requests g l points) ≡ payloads stream begun ++ rest

-- so it is of each link to the control plane
abbrev pub RequestLaw : NodeConfig → List Point → Type 0
RequestLaw g points = (l : ℕ) → IsControl l (entries points) → AreRequests g points l
