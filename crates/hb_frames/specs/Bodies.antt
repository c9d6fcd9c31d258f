use Rattle.std.specs.Prelude.{◌≡◌, ℕ, ◌+◌, ◌-◌, ◌*◌, ◌%◌, ◌<◌, List, [], ◌++◌, length, slice_range, ◌==◌, ◌||◌, if◌then◌else◌}
use Rattle.hb_frames.specs.Octets.{four_at}
use Rattle.hb_frames.specs.RawFrame.{RawFrame}
use Rattle.hb_frames.specs.Numbers.{data_kind, headers_kind, priority_kind, rst_stream_kind, settings_kind, push_promise_kind}
use Rattle.hb_frames.specs.Numbers.{ping_kind, goaway_kind, window_update_kind, continuation_kind}
use Rattle.hb_frames.specs.Refusals.{has_content, front_len, padding_len, increment_of}
use Rattle.hb_frames.specs.declared.frame.Frame.{Frame}
use Rattle.hb_frames.specs.declared.body.Body.{Body}
use Rattle.hb_frames.specs.declared.body.Body.TheVariants.{Payload, Headers, Priority, Reset, Settings, Push, Ping, GoAway}
use Rattle.hb_frames.specs.declared.body.Body.TheVariants.{Window, Continuation, Unknown}

-- what a DATA or HEADERS payload has between what stands in front and the padding
abbrev pub content_of : RawFrame → List ℕ
content_of f = slice_range f.payload (front_len f) (length f.payload - padding_len f)

-- The payload is what stands in front (the padding's length and a priority), then the content, then padding
-- of that length (RFC 9113 sections 6.1 and 6.2).
pub record Pads (f : RawFrame) (content : List ℕ) : Type 0 where
  pub front : List ℕ
  pub padding : List ℕ
  pub joined : f.payload ≡ front ++ (content ++ padding)
  pub front_is : length front ≡ front_len f
  pub padding_is : length padding ≡ padding_len f

-- a payload has one content, which is what content_of says
abbrev pub OneContent : Type 0
OneContent = (f : RawFrame) (content : List ℕ) → Pads f content → content ≡ content_of f

-- the body says what the payload of the frame's type has (RFC 9113 section 6)
abbrev pub Shows : RawFrame → Body → Type 0
Shows f (Payload bytes counted) = (f.kind ≡ data_kind) × Pads f bytes.now × (counted ≡ length f.payload)
Shows f (Headers block) = (f.kind ≡ headers_kind) × Pads f block.now
Shows f Priority = f.kind ≡ priority_kind
Shows f (Reset code) = (f.kind ≡ rst_stream_kind) × (code ≡ four_at f.payload 0)
Shows f (Settings pairs) = (f.kind ≡ settings_kind) × (pairs.now ≡ f.payload)
Shows f Push = f.kind ≡ push_promise_kind
Shows f (Ping value) = (f.kind ≡ ping_kind) × (value ≡ four_at f.payload 0 * 4294967296 + four_at f.payload 4)
Shows f (GoAway last code) = (f.kind ≡ goaway_kind) × (last ≡ four_at f.payload 0 % 2147483648) × (code ≡ four_at f.payload 4)
Shows f (Window increment) = (f.kind ≡ window_update_kind) × (increment ≡ increment_of f)
Shows f (Continuation block) = (f.kind ≡ continuation_kind) × (block.now ≡ f.payload)
Shows f (Unknown kind) = (continuation_kind < f.kind) × (kind ≡ f.kind)

-- the frame has these flags, this stream and this body
pub record IsFrame (f : RawFrame) (frame : Frame) : Type 0 where
  pub flags : frame.flags ≡ f.flags
  pub stream : frame.stream ≡ f.stream
  pub body : Shows f frame.body

-- the bytes that can be asked for again: those of a DATA, HEADERS, SETTINGS or CONTINUATION body
abbrev pub lent_of : RawFrame → List ℕ
lent_of f =
    if has_content f then content_of f
    else if f.kind == settings_kind || f.kind == continuation_kind then f.payload else []
