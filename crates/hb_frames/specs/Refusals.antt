use Rattle.std.specs.Prelude.{ℕ, ◌+◌, ◌*◌, ◌%◌, List, [], ◌∷◌, length, slice_index, Bool, not, ◌&&◌, ◌||◌, ◌==◌, nat_lt}
use Rattle.std.specs.Prelude.{if◌then◌else◌, bit_and, Option, Some, None}
use Rattle.std.specs.List.{list_any}
use Rattle.hb_frames.specs.Octets.{four_at}
use Rattle.hb_frames.specs.RawFrame.{RawFrame}
use Rattle.hb_frames.specs.Numbers.{data_kind, headers_kind, priority_kind, rst_stream_kind, settings_kind, push_promise_kind}
use Rattle.hb_frames.specs.Numbers.{ping_kind, goaway_kind, window_update_kind, padded_flag, priority_flag, ack_flag}
use Rattle.hb_frames.specs.Numbers.{enable_push, max_frame_size, first_frame_size, largest_frame_size, protocol_error, frame_size_error}
use Rattle.hb_frames.specs.declared.refusal.Refusal.{Refusal}

-- the first of two refusals
infixl 8 ◌else◌
abbrev pub ◌else◌ : Option Refusal → Option Refusal → Option Refusal
None else r = r
(Some r) else _ = Some r

-- a refusal of this code and row where the test holds
abbrev pub refuses : Bool → ℕ → ℕ → Option Refusal
refuses test code row = if test then Some (record { code = code; row = row }) else None

-- types that always belong to a stream (RFC 9113 sections 6.1 to 6.4)
abbrev pub is_of_stream : ℕ → Bool
is_of_stream kind = kind == data_kind || kind == headers_kind || kind == priority_kind || kind == rst_stream_kind

-- types that always belong to the connection (RFC 9113 sections 6.5, 6.7 and 6.8)
abbrev pub is_of_connection : ℕ → Bool
is_of_connection kind = kind == settings_kind || kind == ping_kind || kind == goaway_kind

-- rows 5 to 7: a frame of a stream on stream 0, one of the connection on another, PUSH_PROMISE, which is never
-- allowed (RFC 9113 section 8.4)
abbrev pub stream_refusal : RawFrame → Option Refusal
stream_refusal f = refuses (is_of_stream f.kind && f.stream == 0) protocol_error 5
    else refuses (is_of_connection f.kind && not (f.stream == 0)) protocol_error 6
    else refuses (f.kind == push_promise_kind) protocol_error 7

-- DATA or HEADERS, whose payloads have a content (RFC 9113 sections 6.1 and 6.2)
abbrev pub has_content : RawFrame → Bool
has_content f = f.kind == data_kind || f.kind == headers_kind

-- one of these with the flag PADDED
abbrev pub is_padded : RawFrame → Bool
is_padded f = has_content f && not (bit_and f.flags padded_flag == 0)

-- HEADERS with the flag PRIORITY
abbrev pub has_priority : RawFrame → Bool
has_priority f = f.kind == headers_kind && not (bit_and f.flags priority_flag == 0)

-- the octets in front of the content: the padding's length, and a priority's five
abbrev pub front_len : RawFrame → ℕ
front_len f = (if is_padded f then 1 else 0) + (if has_priority f then 5 else 0)

-- the octets of padding
abbrev pub padding_len : RawFrame → ℕ
padding_len f = if is_padded f then slice_index f.payload 0 else 0

-- rows 8 and 9: what stands in front of the content fits the payload, and so does the padding
abbrev pub padding_refusal : RawFrame → Option Refusal
padding_refusal f = refuses (nat_lt (length f.payload) (front_len f)) frame_size_error 8
    else refuses (nat_lt (length f.payload) (front_len f + padding_len f)) protocol_error 9

-- the flag ACK of SETTINGS
abbrev pub is_ack : RawFrame → Bool
is_ack f = not (bit_and f.flags ack_flag == 0)

-- a payload of a length that its type doesn't have (RFC 9113 sections 6.3 to 6.9)
abbrev pub has_wrong_size : RawFrame → Bool
has_wrong_size f =
    if f.kind == priority_kind then not (length f.payload == 5)
    else if f.kind == rst_stream_kind then not (length f.payload == 4)
    else if f.kind == settings_kind then not (length f.payload % 6 == 0) || (is_ack f && not (length f.payload == 0))
    else if f.kind == ping_kind then not (length f.payload == 8)
    else if f.kind == goaway_kind then nat_lt (length f.payload) 8
    else f.kind == window_update_kind && not (length f.payload == 4)

-- row 10
abbrev pub size_refusal : RawFrame → Option Refusal
size_refusal f = refuses (has_wrong_size f) frame_size_error 10

-- the settings of a payload: identifiers and values (RFC 9113 section 6.5.1)
abbrev pub settings : List ℕ → List (ℕ × ℕ)
settings (a ∷ b ∷ c ∷ d ∷ e ∷ f ∷ rest) = (a * 256 + b, c * 16777216 + d * 65536 + e * 256 + f) ∷ settings rest
settings _ = []

-- ENABLE_PUSH is at most 1, and MAX_FRAME_SIZE between 2^14 and 2^24 - 1 (RFC 9113 section 6.5.2)
abbrev pub is_refused_setting : ℕ × ℕ → Bool
is_refused_setting s =
    (s.0 == enable_push && nat_lt 1 s.1)
    || (s.0 == max_frame_size && (nat_lt s.1 first_frame_size || nat_lt largest_frame_size s.1))

-- a WINDOW_UPDATE's increment, without its reserved bit (RFC 9113 section 6.9)
abbrev pub increment_of : RawFrame → ℕ
increment_of f = four_at f.payload 0 % 2147483648

-- rows 11 and 13: a setting out of its range; an increment of 0 on the connection
abbrev pub value_refusal : RawFrame → Option Refusal
value_refusal f = refuses (f.kind == settings_kind && list_any is_refused_setting (settings f.payload)) protocol_error 11
    else refuses (f.kind == window_update_kind && f.stream == 0 && increment_of f == 0) protocol_error 13

-- the first row that refuses the frame, of those that one frame alone can tell
abbrev pub first_refusal : RawFrame → Option Refusal
first_refusal f = stream_refusal f else padding_refusal f else size_refusal f else value_refusal f
