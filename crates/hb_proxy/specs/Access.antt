-- The access law over the whole trace: no byte goes to an upstream and no DATA frame begins on an inbound link, and no byte goes on a
-- link of the plain door, unless the resources held then admit the tunnel's peer.
use Rattle.std.specs.Prelude.{⊤, ◌≡◌, ℕ, true, List, [], ◌∷◌, ◌++◌, length, Some}
use Rattle.std.specs.List.{AllByRecursion}
use Rattle.hb_base.specs.declared.peer.Peer.{Peer}
use Rattle.hb_base.specs.declared.target.Target.{Target}
use Rattle.hb_captured.specs.Captured.{judges}
use Rattle.hb_captured.specs.Part as captured
use Rattle.hb_captured.specs.Sides.{door_of, header_of, judged_in}
use Rattle.hb_conn.specs.Connection.{Connection}
use Rattle.hb_conn.specs.Observed.{output, frames_begun}
use Rattle.hb_front.specs.Reading.{Seen}
use Rattle.hb_history.specs.History.{StandsFor}
use Rattle.hb_inbound.specs.Part as part
use Rattle.hb_inbound.specs.Part.{Part, moves, tellings}
use Rattle.hb_inbound.specs.Sides.{behind_front, front_size, peer_of, target_of}
use Rattle.hb_model.specs.Messages.{held}
use Rattle.hb_model.specs.declared.config.NodeConfig.{NodeConfig}
use Rattle.hb_outgoing.specs.Selected.{has_data}
use Rattle.hb_streams.specs.declared.role.Role.TheVariants.{Server}
use Rattle.hb_table.specs.Judgement.{judged}
use Rattle.hb_table.specs.declared.judgement.Judged.TheVariants.{Admitted}
use Rattle.hb_world.specs.Trace.{recv, sent}
use Rattle.hb_world.specs.declared.entry.Entry.{Entry}
use Rattle.hb_world.specs.declared.entry.Entry.TheVariants as e
use Rattle.hb_proxy.specs.Owners.{owner, inbound_link, upstream_of, plain_link, relay_of, link_of, AtEach}
use Rattle.hb_proxy.specs.Points.{Point, entry_in, entries, control_of, parts_of, plain_of}
use Rattle.hb_proxy.specs.Sides.{AtParts, AtPlain}

-- the resources held behind these points, by the control plane's responses, admit the peer that the link's front header told, at the
-- target that was dialled for the stream
pub record IsAdmitted (g : NodeConfig) (before : List Point) (l s : ℕ) : Type 0 where
  pub peer : Peer
  pub target : Target
  pub peer_is : peer_of (parts_of l before) ≡ Some peer
  pub target_is : target_of s (parts_of l before) ≡ Some target
  pub admitted : judged (held g (control_of before)) peer target ≡ Admitted

-- the bytes that came on an inbound link behind its front header
abbrev pub came_behind : ℕ → List Point → List ℕ
came_behind l points = behind_front (front_size (parts_of l points)) (recv l (entries points))

-- Behind these points bytes go on an inbound link. Its connection stands for what was looked at, told and done on it, and for the bytes
-- that came behind the front header and went; and each DATA frame with payload that begins with them is of a tunnel that is admitted
pub record GoesAdmitted (g : NodeConfig) (before : List Point) (l : ℕ) (bytes : List ℕ) : Type 0 where
  pub conn : Connection
  pub stands : StandsFor Server (moves (parts_of l before)) (tellings (parts_of l before)) (came_behind l before)
      (sent l (entries before)) conn
  pub rest : List ℕ
  pub first : output conn ≡ bytes ++ rest
  pub admitted : AllByRecursion (λ f. has_data f ≡ true → IsAdmitted g before l f.stream) (frames_begun (length bytes) conn)

abbrev pub UpIsAdmitted : NodeConfig → List Point → (l s : ℕ) → Entry → Type 0
UpIsAdmitted g before l s (e.Went u bytes) = IsAdmitted g before l s
UpIsAdmitted g before l s _ = ⊤

abbrev pub LinkIsAdmitted : NodeConfig → List Point → ℕ → Entry → Type 0
LinkIsAdmitted g before l (e.Went k bytes) = GoesAdmitted g before l bytes
LinkIsAdmitted g before l _ = ⊤

abbrev pub AccessAt : NodeConfig → List Point → ℕ → Part → Type 0
AccessAt g before l (part.up s e) = UpIsAdmitted g before l s e
AccessAt g before l (part.entry e) = LinkIsAdmitted g before l e
AccessAt g before l _ = ⊤

-- the resources held behind these points admit the peer that the front header of a plain link told, without an identity, at its
-- destination
pub record PlainIsAdmitted (g : NodeConfig) (before : List Point) (l : ℕ) : Type 0 where
  pub seen : Seen
  pub told : header_of (plain_of l before) ≡ Some seen
  pub admitted : judged_in (held g (control_of before)) seen ≡ Admitted

abbrev pub PlainGoesAdmitted : NodeConfig → List Point → ℕ → Entry → Type 0
PlainGoesAdmitted g before l (e.Went k bytes) = judges (door_of (plain_of l before)) ≡ true → PlainIsAdmitted g before l
PlainGoesAdmitted g before l _ = ⊤

abbrev pub PlainAccessAt : NodeConfig → List Point → ℕ → captured.Part → Type 0
PlainAccessAt g before l (captured.entry e) = PlainGoesAdmitted g before l e
PlainAccessAt g before l (captured.up e) = PlainGoesAdmitted g before l e
PlainAccessAt g before l _ = ⊤

pub record AccessLaw (g : NodeConfig) (points : List Point) : Type 0 where
  pub links : AtParts (AccessAt g) points
  pub plain : AtPlain (PlainAccessAt g) points

-- the same, by the link u that an entry of the trace stands on: an inbound link, the upstream of a tunnel, a plain link, or its upstream
pub record EntryIsAdmitted (g : NodeConfig) (before : List Point) (z : Entry) (u : ℕ) : Type 0 where
  pub link : owner u (entries before) ≡ inbound_link → LinkIsAdmitted g before u z
  pub up : (l s : ℕ) → owner u (entries before) ≡ upstream_of l s → UpIsAdmitted g before l s z
  pub plain : owner u (entries before) ≡ plain_link → PlainGoesAdmitted g before u z
  pub relay : (l : ℕ) → owner u (entries before) ≡ relay_of l → PlainGoesAdmitted g before l z

abbrev pub EntryLaw : NodeConfig → List Point → Type 0
EntryLaw g points =
    AtEach (λ before p. (z : Entry) (u : ℕ) → entry_in p ≡ z ∷ [] → link_of z ≡ Some u → EntryIsAdmitted g before z u) points
