-- More bytes that wait than a ring has room for.
use Rattle.std.specs.Prelude.{◌≡◌, ◌⊎◌, ℕ, ◌+◌, ◌<◌, List, ◌++◌, length}
use Rattle.hb_captured.specs.Captured.{ring_up, ring_down}
use Rattle.hb_captured.specs.Sides.{door_of, link_went, raw_came, up_came, up_went}
use Rattle.hb_frames.specs.Numbers.{first_frame_size}
use Rattle.hb_frames.specs.RawFrame.{RawFrame}
use Rattle.hb_inbound.specs.Sides.{stream_came}
use Rattle.hb_kept.specs.Payloads.{payloads}
use Rattle.hb_model.specs.declared.config.NodeConfig.{NodeConfig}
use Rattle.hb_outgoing.specs.Waiting.{spelled}
use Rattle.hb_proxy.specs.Owners.{owner, upstream_of}
use Rattle.hb_proxy.specs.Points.{Point, entries, parts_of, plain_of}
use Rattle.hb_tunnel.specs.Tunnel.{up_size, down_size}
use Rattle.hb_world.specs.Trace.{recv, sent}
use Rattle.hb_world.specs.declared.entry.Entry.{Entry}
use Rattle.hb_world.specs.declared.entry.Entry.TheVariants as e
use Rattle.hb_laws.specs.Lawful.{Lawful}

-- no front of a lawful run is so
abbrev pub RefusedFront : (NodeConfig → List Point → Type 0) → Type 0
RefusedFront P =
    (g : NodeConfig) (trace : List Entry) (before behind : List Point) → (h : Lawful g trace) → h.points ≡ before ++ behind → P g before → ⊥

-- of the DATA that came on a stream more isn't written to its upstream than its ring has room for: one octet, or more. The law of rings of
-- its link refuses it
pub record KeepsMoreUp (g : NodeConfig) (before : List Point) : Type 0 where
  pub link : ℕ
  pub stream : ℕ
  pub up : ℕ
  pub owned : owner up (entries before) ≡ upstream_of link stream
  pub over : length (sent up (entries before)) + up_size < length (stream_came stream (parts_of link before))

-- of the bytes of a plain link more wait than its rings have room for, by its door: those that came behind the front header and didn't go
-- to its upstream or stream; or those that came from that and didn't go on the link. Its law of rings refuses it
pub record KeepsMorePlain (g : NodeConfig) (before : List Point) : Type 0 where
  pub link : ℕ
  pub over : (length (up_went (plain_of link before)) + ring_up (door_of (plain_of link before)) < length (raw_came (plain_of link before)))
      ⊎ (length (link_went (plain_of link before)) + ring_down (door_of (plain_of link before)) < length (up_came (plain_of link before)))

-- bytes come from the upstream of a tunnel, and with them an octet or more beyond what its ring and one DATA frame that waits have room
-- for didn't go on the link, on which these whole frames went
pub record ComesBeyondRing (g : NodeConfig) (before : List Point) (z : Entry) : Type 0 where
  pub link : ℕ
  pub stream : ℕ
  pub up : ℕ
  pub bytes : List ℕ
  pub comes : z ≡ e.Came up bytes
  pub owned : owner up (entries before) ≡ upstream_of link stream
  pub frames : List RawFrame
  pub went : sent link (entries before) ≡ spelled frames
  pub over : length (payloads stream frames) + first_frame_size + down_size < length (recv up (entries before)) + length bytes
