use Rattle.std.specs.Prelude.{ℕ}

-- frame types (RFC 9113 sections 6.1 to 6.10)

abbrev pub data_kind : ℕ
data_kind = 0

abbrev pub headers_kind : ℕ
headers_kind = 1

abbrev pub priority_kind : ℕ
priority_kind = 2

abbrev pub rst_stream_kind : ℕ
rst_stream_kind = 3

abbrev pub settings_kind : ℕ
settings_kind = 4

abbrev pub push_promise_kind : ℕ
push_promise_kind = 5

abbrev pub ping_kind : ℕ
ping_kind = 6

abbrev pub goaway_kind : ℕ
goaway_kind = 7

abbrev pub window_update_kind : ℕ
window_update_kind = 8

abbrev pub continuation_kind : ℕ
continuation_kind = 9

-- flags of SETTINGS and PING, of DATA and HEADERS, of HEADERS and CONTINUATION, and of HEADERS (RFC 9113 sections 6.1, 6.2, 6.5,
-- 6.7 and 6.10)

abbrev pub ack_flag : ℕ
ack_flag = 1

abbrev pub end_stream_flag : ℕ
end_stream_flag = 1

abbrev pub end_headers_flag : ℕ
end_headers_flag = 4

abbrev pub padded_flag : ℕ
padded_flag = 8

abbrev pub priority_flag : ℕ
priority_flag = 32

-- settings (RFC 9113 section 6.5.2)

abbrev pub enable_push : ℕ
enable_push = 2

abbrev pub max_concurrent_streams : ℕ
max_concurrent_streams = 3

abbrev pub initial_window_size : ℕ
initial_window_size = 4

abbrev pub max_frame_size : ℕ
max_frame_size = 5

-- its value before any is set, and the least that may be set
abbrev pub first_frame_size : ℕ
first_frame_size = 16384

-- and its greatest
abbrev pub largest_frame_size : ℕ
largest_frame_size = 16777215

-- error codes (RFC 9113 section 7)

abbrev pub protocol_error : ℕ
protocol_error = 1

abbrev pub flow_control_error : ℕ
flow_control_error = 3

abbrev pub stream_closed : ℕ
stream_closed = 5

abbrev pub frame_size_error : ℕ
frame_size_error = 6

abbrev pub refused_stream : ℕ
refused_stream = 7

-- the largest number of 31 bits, 2^31 - 1: of a stream (RFC 9113 section 5.1.1), of a window's size and content (section 6.9.1)
-- and of an increment (section 6.9)
abbrev pub largest : ℕ
largest = 2147483647
