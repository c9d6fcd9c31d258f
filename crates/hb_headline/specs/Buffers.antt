-- No more waits than a ring has room for: said of a trace.
use Rattle.std.specs.Prelude.{◌≡◌, ℕ, ◌+◌, ◌≤◌, true, List, ◌∷◌, ◌++◌, length, drop}
use Rattle.hb_captured.specs.Captured.{ring_up, ring_down}
use Rattle.hb_frames.specs.Numbers.{first_frame_size}
use Rattle.hb_frames.specs.RawFrame.{RawFrame}
use Rattle.hb_front.specs.Reading.{Seen}
use Rattle.hb_kept.specs.Payloads.{payloads}
use Rattle.hb_laws.specs.RefusedTunnels.{is_more}
use Rattle.hb_proxy.specs.Owners.{owner, upstream_of, relay_of}
use Rattle.hb_tunnel.specs.Tunnel.{down_size}
use Rattle.hb_world.specs.Trace.{recv, sent, lives}
use Rattle.hb_world.specs.declared.entry.Entry.{Entry}
use Rattle.hb_world.specs.declared.entry.Entry.TheVariants as e
use Rattle.hb_headline.specs.Access.{door_at}
use Rattle.hb_headline.specs.Relay.{IsFronted, begun_on}

-- Of what came on a plain link behind its header all but a ring of its door went to its upstream, which lives; and of what came from that
-- all but the other ring went on the link
pub record PlainFits (before : List Entry) (l u : ℕ) : Type 0 where
  pub up : lives u before ≡ true → (seen : Seen) → IsFronted before l seen
      → length (drop seen.length (recv l before)) ≤ length (sent u before) + ring_up (door_at l before)
  pub down : length (recv u before) ≤ length (sent l before) + ring_down (door_at l before)

-- BUFFERS: so it is of each plain link where anything more comes. And where bytes come from the upstream of a tunnel all but a ring and
-- one frame, these with them, is in DATA of its stream that has begun
pub record Buffers (trace : List Entry) (frames : ℕ → List RawFrame) : Type 0 where
  pub plain : (before : List Entry) (z : Entry) (after : List Entry) → trace ≡ before ++ z ∷ after → is_more z ≡ true
      → (l u : ℕ) → owner u before ≡ relay_of l → PlainFits before l u
  pub tunnels : (before : List Entry) (u : ℕ) (bytes : List ℕ) (after : List Entry) → trace ≡ before ++ e.Came u bytes ∷ after
      → (l s : ℕ) → owner u before ≡ upstream_of l s
      → length (recv u before) + length bytes ≤ length (payloads s (begun_on l (frames l) before)) + first_frame_size + down_size
