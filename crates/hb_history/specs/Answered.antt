-- Each SETTINGS and each PING of the peer is answered once, in order (RFC 9113 sections 6.5.3 and 6.7).
use Rattle.std.specs.Prelude.{◌≡◌, ℕ, ◌+◌, ◌*◌, ◌==◌, ◌&&◌, ◌||◌, Bool, false, if◌then◌else◌, List, [], ◌∷◌, ◌++◌, filter, length}
use Rattle.std.specs.List.{flat_map}
use Rattle.hb_frames.specs.RawFrame.{RawFrame}
use Rattle.hb_frames.specs.Frames.{AreOctets}
use Rattle.hb_frames.specs.Numbers.{settings_kind, ping_kind, ack_flag}
use Rattle.hb_frames.specs.Octets.{four_at}
use Rattle.hb_frames.specs.Refusals.{is_ack}
use Rattle.hb_streams.specs.declared.role.Role.{Role}
use Rattle.hb_conn.specs.Frames.{frame, settings_ack, ping_ack}
use Rattle.hb_conn.specs.Connection.{Connection}
use Rattle.hb_conn.specs.declared.found.Found.{Found}
use Rattle.hb_history.specs.Points.{Point, frames_got}
use Rattle.hb_history.specs.History.{StandsFor}

-- the number that the eight octets of a PING spell
abbrev pub ping_value : RawFrame → ℕ
ping_value f = four_at f.payload 0 * 4294967296 + four_at f.payload 4

-- The frame of this end that answers a frame of the peer: SETTINGS with ACK answers SETTINGS, and PING with ACK answers a
-- PING, with its octets; a frame with ACK, and a frame of another type, gets no such answer
abbrev pub answer_to : RawFrame → List RawFrame
answer_to f =
    if is_ack f then []
    else if f.kind == settings_kind then settings_ack ∷ []
    else if f.kind == ping_kind then ping_ack (ping_value f) ∷ []
    else []

-- such answers, among the frames of this end
abbrev pub is_answer : RawFrame → Bool
is_answer f = (f.kind == settings_kind || f.kind == ping_kind) && is_ack f

-- After every history, unless a connection error was told: of the frames that have begun and those that wait, the answers are
-- exactly those to the frames that came, each once, in their order
abbrev pub AnswersAreThose : Type 0
AnswersAreThose = (role : Role) (points : List Point) (given : List Found) (came written : List ℕ) (c : Connection)
    → (stands : StandsFor role points given came written c) → c.receiver.core.over ≡ false
    → filter is_answer (stands.begun ++ c.receiver.core.out.queue) ≡ flat_map answer_to (frames_got points)

-- and the answer to a PING has its octets, of which there are eight: a PING of another length is a connection error
abbrev pub PingsAreEchoed : Type 0
PingsAreEchoed = (f : RawFrame) → f.kind ≡ ping_kind → is_ack f ≡ false → AreOctets f.payload → length f.payload ≡ 8
    → answer_to f ≡ frame ping_kind ack_flag 0 f.payload ∷ []
