-- How much waits on the ways of a tunnel: it fits their rings, and so what the window of a stream lets come (RFC 9113 section 6.9.2).
use Rattle.std.specs.Prelude.{◌≡◌, ℕ, ◌+◌, ◌≤◌, false, List, [], ◌∷◌, length}
use Rattle.hb_conn.specs.declared.found.Found.TheVariants as found
use Rattle.hb_frames.specs.Bodies.{lent_of}
use Rattle.hb_frames.specs.RawFrame.{RawFrame}
use Rattle.hb_history.specs.Points as history
use Rattle.hb_hpack.specs.declared.header.HeaderList.{HeaderList}
use Rattle.hb_tunnel.specs.Tunnel.{up_size, down_size}
use Rattle.hb_inbound.specs.Part.{Part, looked}
use Rattle.hb_inbound.specs.Sides.{stream_came, up_went}
use Rattle.hb_inbound.specs.Tunnel.{Tunnel}

-- the bytes that wait on the way up, with those that were written and aren't given back yet, fit its ring; those that wait on the way
-- down fit theirs
pub record FitsRings (t : Tunnel) : Type 0 where
  pub up : length t.ways.up.held + t.owed ≤ up_size
  pub down : length t.ways.down.held ≤ down_size

-- of the octets that came on a stream all are written to its upstream but for a window at most
abbrev pub RingLaw : List Part → Type 0
RingLaw parts = (s : ℕ) → length (stream_came s parts) ≤ length (up_went s parts) + up_size

-- 65,536 octets come on a stream of which none is written; 65,535 may
abbrev pub comes_on : (s : ℕ) → RawFrame → HeaderList → List Part
comes_on s f headers = looked (history.point (history.got f) (found.Chunk s false) ∷ []) (found.Chunk s false) headers ∷ []

abbrev pub ComesBeyond : Type 0
ComesBeyond = (s : ℕ) (f : RawFrame) (headers : HeaderList) → length (lent_of f) ≡ 65536 → RingLaw (comes_on s f headers) → ⊥

abbrev pub WindowMayCome : Type 0
WindowMayCome = (s : ℕ) (f : RawFrame) (headers : HeaderList) → length (lent_of f) ≡ 65535 → RingLaw (comes_on s f headers)
