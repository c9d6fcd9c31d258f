use Rattle.std.specs.Prelude.{ℕ, ◌+◌, [], ◌++◌, if◌then◌else◌}
use Rattle.hb_frames.specs.RawFrame.{RawFrame}
use Rattle.hb_frames.specs.Octets.{four}
use Rattle.hb_frames.specs.Numbers.{data_kind, headers_kind, rst_stream_kind, window_update_kind, end_stream_flag, end_headers_flag}
use Rattle.hb_hpack.specs.Encoding.{Writing, opening, header_of, status_header, going}
use Rattle.hb_hpack.specs.declared.spelling.Spelling.TheVariants.{Plain}
use Rattle.hb_owed.specs.declared.due.Due.{Due}
use Rattle.hb_owed.specs.declared.due.Due.TheVariants as due
use Rattle.hb_owed.specs.declared.status.Status.{Status}

-- HEADERS with END_HEADERS, and END_STREAM where the status ends the stream; the block of the status alone (RFC 9113
-- section 6.2)
abbrev pub status_frame : Writing → ℕ → Status → RawFrame
status_frame w s status = record {
  kind = headers_kind;
  flags = if status.end then end_headers_flag + end_stream_flag else end_headers_flag;
  stream = s;
  payload = opening w.started ++ header_of Plain (status_header status.number);
}

-- WINDOW_UPDATE (RFC 9113 section 6.9)
abbrev pub credit_frame : ℕ → ℕ → RawFrame
credit_frame s n = record { kind = window_update_kind; flags = 0; stream = s; payload = four n }

-- an empty DATA frame with END_STREAM (RFC 9113 section 6.1)
abbrev pub end_frame : ℕ → RawFrame
end_frame s = record { kind = data_kind; flags = end_stream_flag; stream = s; payload = [] }

-- RST_STREAM (RFC 9113 section 6.4)
abbrev pub reset_frame : ℕ → ℕ → RawFrame
reset_frame s code = record { kind = rst_stream_kind; flags = 0; stream = s; payload = four code }

-- the frame that is put for what is owed on the stream s
abbrev pub frame_of : Writing → ℕ → Due → RawFrame
frame_of w s (due.Status status) = status_frame w s status
frame_of w s (due.Credit n) = credit_frame s n
frame_of w s due.End = end_frame s
frame_of w s (due.Reset code) = reset_frame s code

-- how the encoder of header blocks stands afterwards
abbrev pub behind : Due → Writing → Writing
behind (due.Status status) w = going w
behind _ w = w

-- the room that a frame is put into, at least its octets: for every status that of the longest block
abbrev pub size_of : Due → ℕ
size_of (due.Status status) = 17
size_of (due.Credit n) = 13
size_of due.End = 9
size_of (due.Reset code) = 13
