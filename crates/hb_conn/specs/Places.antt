-- Frames that stand where they may not (RFC 9113 sections 3.4 and 6.10).
use Rattle.std.specs.Prelude.{◌==◌, ◌&&◌, ◌||◌, not, Bool, true, false, bit_and, Option, Some, None}
use Rattle.hb_blocks.specs.declared.whole.Opening.{Opening}
use Rattle.hb_frames.specs.Numbers.{settings_kind, ack_flag}
use Rattle.hb_conn.specs.declared.machine.Core.{Core}
use Rattle.hb_conn.specs.declared.glance.Glance.{Glance}
use Rattle.hb_conn.specs.declared.glance.Glance.TheVariants.{Settings, Continuation, Refused}

-- row 2 goes before the rows of this file: a frame that is too long is refused wherever it stands
abbrev pub is_too_long : Glance → Bool
is_too_long (Refused code row kind flags) = row == 2
is_too_long _ = false

-- SETTINGS without ACK
abbrev pub is_settings : Glance → Bool
is_settings (Settings ack) = not ack
is_settings (Refused code row kind flags) = kind == settings_kind && bit_and flags ack_flag == 0
is_settings _ = false

-- CONTINUATION of the stream of the open block, while one is open
abbrev pub goes_on : Option Opening → Glance → Bool
goes_on (Some opening) (Continuation stream whole) = stream == opening.stream
goes_on (Some opening) _ = false
goes_on None (Continuation stream whole) = false
goes_on None _ = true

-- rows 3 and 4: the first frame isn't SETTINGS without ACK; anything but the CONTINUATION of an open header block, or
-- CONTINUATION while none is open
abbrev pub is_misplaced : Core → Glance → Bool
is_misplaced c glance =
    not (is_too_long glance) && ((not c.settled && not (is_settings glance)) || not (goes_on c.blocks.opening glance))
