-- The frames that a connection answers with, and how they are put.
use Rattle.std.specs.Prelude.{ℕ, ◌/◌, ◌%◌, List, [], ◌++◌}
use Rattle.hb_frames.specs.Octets.{four}
use Rattle.hb_frames.specs.RawFrame.{RawFrame}
use Rattle.hb_outgoing.specs.Waiting.{put}
use Rattle.hb_frames.specs.Numbers.{settings_kind, ping_kind, goaway_kind, window_update_kind, ack_flag}
use Rattle.hb_conn.specs.declared.machine.Core.{Core}

-- a number in four octets
unfoldable pub word : ℕ → List ℕ
word n = four n

abbrev pub frame : ℕ → ℕ → ℕ → List ℕ → RawFrame
frame kind flags stream payload = record { kind = kind; flags = flags; stream = stream; payload = payload }

-- SETTINGS with ACK (RFC 9113 section 6.5)
abbrev pub settings_ack : RawFrame
settings_ack = frame settings_kind ack_flag 0 []

-- PING with ACK: the eight octets that came (RFC 9113 section 6.7)
abbrev pub ping_ack : ℕ → RawFrame
ping_ack value = frame ping_kind ack_flag 0 (word (value / 4294967296) ++ word (value % 4294967296))

-- GOAWAY: the last stream of the peer, and an error code (RFC 9113 section 6.8)
abbrev pub goaway : ℕ → ℕ → RawFrame
goaway last code = frame goaway_kind 0 0 (word last ++ word code)

-- WINDOW_UPDATE: an increment (RFC 9113 section 6.9)
abbrev pub window_update : ℕ → ℕ → RawFrame
window_update stream n = frame window_update_kind 0 stream (word n)

-- the frame is put behind all others
abbrev pub sent : Core → RawFrame → Core
sent c f = record c { out = put f c.out }
