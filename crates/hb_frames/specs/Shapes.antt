use Rattle.std.specs.Prelude.{ℕ, ◌+◌, ◌≤◌, length, ◌||◌, ◌==◌, if◌then◌else◌}
use Rattle.hb_frames.specs.RawFrame.{RawFrame}
use Rattle.hb_frames.specs.Numbers.{rst_stream_kind, window_update_kind, ping_kind, goaway_kind}
use Rattle.hb_frames.specs.Refusals.{front_len, padding_len}

-- what stands in front of the content, and the padding, fit the payload
abbrev pub PaddingFits : RawFrame → Type 0
PaddingFits f = front_len f + padding_len f ≤ length f.payload

-- the least payload of a type whose numbers have fixed places
abbrev pub least_size : ℕ → ℕ
least_size kind =
    if kind == rst_stream_kind || kind == window_update_kind then 4
    else if kind == ping_kind || kind == goaway_kind then 8 else 0

abbrev pub NumbersFit : RawFrame → Type 0
NumbersFit f = least_size f.kind ≤ length f.payload

-- the payload has the octets that its type and flags speak of
pub record IsShaped (f : RawFrame) : Type 0 where
  pub padded : PaddingFits f
  pub sized : NumbersFit f
