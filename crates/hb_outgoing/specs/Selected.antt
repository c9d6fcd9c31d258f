use Rattle.std.specs.Prelude.{ℕ, List, [], ◌∷◌, length, Option, Some, None}
use Rattle.std.specs.Prelude.{Bool, true, false, not, ◌&&◌, ◌||◌, ◌==◌, bit_and, if◌then◌else◌}
use Rattle.std.specs.List.{filter, list_any, sum_by}
use Rattle.hb_frames.specs.RawFrame.{RawFrame}
use Rattle.hb_frames.specs.Numbers.{data_kind, headers_kind, end_stream_flag}
use Rattle.hb_outgoing.specs.declared.head.Head.{Head}
use Rattle.hb_outgoing.specs.declared.unbegun.Unbegun.{Unbegun}
use Rattle.hb_outgoing.specs.Waiting.{Waiting, head_of}

-- the stream n is the one that is meant; None: all are
abbrev pub is_meant : Option ℕ → ℕ → Bool
is_meant None n = true
is_meant (Some stream) n = n == stream

-- a DATA frame of the stream; None: of any
abbrev pub is_data_of : Option ℕ → RawFrame → Bool
is_data_of stream f = f.kind == data_kind && is_meant stream f.stream

abbrev pub is_kept : Option ℕ → RawFrame → Bool
is_kept stream f = not (is_data_of stream f)

-- without the stream's DATA frames that haven't begun; None: without any
abbrev pub without : Option ℕ → Waiting → Waiting
without stream w = record w { queue = filter (is_kept stream) w.queue }

-- after the stream's DATA frames that haven't begun were taken back
abbrev pub taken_back : ℕ → Waiting → Waiting
taken_back stream w = without (Some stream) w

-- after all DATA frames that haven't begun were taken back
abbrev pub all_taken_back : Waiting → Waiting
all_taken_back w = without None w

abbrev pub payload_size : RawFrame → ℕ
payload_size f = length f.payload

-- the payload octets of the stream's DATA frames; None: of all
abbrev pub data_size : Option ℕ → List RawFrame → ℕ
data_size stream queue = sum_by payload_size (filter (is_data_of stream) queue)

-- a frame that ends the stream (RFC 9113 sections 6.1 and 6.2)
abbrev pub ends : ℕ → Head → Bool
ends stream h = (h.kind == data_kind || h.kind == headers_kind) && h.stream == stream && not (bit_and h.flags end_stream_flag == 0)

abbrev pub begun_ends : ℕ → Option Head → Bool
begun_ends stream None = false
begun_ends stream (Some h) = ends stream h

abbrev pub frame_ends : ℕ → RawFrame → Bool
frame_ends stream f = ends stream (head_of f)

-- an octet of a frame that ends the stream waits
abbrev pub end_waits : ℕ → Waiting → Bool
end_waits stream w = begun_ends stream w.begun || list_any (frame_ends stream) w.queue

-- a DATA frame that windows count
abbrev pub has_data : RawFrame → Bool
has_data f = f.kind == data_kind && not (length f.payload == 0)

-- the frame in part is DATA of the stream
abbrev pub data_begun : ℕ → Option Head → Bool
data_begun stream None = false
data_begun stream (Some h) = h.kind == data_kind && h.stream == stream

-- the first DATA frame with payload
abbrev pub first_data : List RawFrame → Option Unbegun
first_data [] = None
first_data (f ∷ fs) = if has_data f then Some (record { stream = f.stream; size = length f.payload }) else first_data fs

-- 1 where a frame is DATA, by its type
abbrev pub counted : ℕ → ℕ
counted kind = if kind == data_kind then 1 else 0

-- how many DATA frames there are
abbrev pub data_count : List RawFrame → ℕ
data_count queue = sum_by (λ f. counted f.kind) queue
