-- What isn't granted again of DATA that came, and what is.
use Rattle.std.specs.Prelude.{◌≡◌, ℕ, ◌<◌, List, [], ◌∷◌, length, Some, None}
use Rattle.hb_frames.specs.RawFrame.{RawFrame}
use Rattle.hb_frames.specs.Numbers.{data_kind}
use Rattle.hb_outgoing.specs.Selected.{data_size}
use Rattle.hb_conn.specs.Frames.{frame, settings_ack, window_update}
use Rattle.hb_history.specs.OwnFrames.{first_stream}
use Rattle.hb_history.specs.OwnCredits.{IsGrantedAgain}
use Rattle.hb_history.specs.Sending.{increments}

-- a DATA frame that came on the stream
abbrev pub came : List ℕ → List RawFrame
came payload = frame data_kind 0 first_stream payload ∷ []

-- 32,768 octets came, and none is granted, or they are granted elsewhere
abbrev pub NoneIsTooFew : Type 0
NoneIsTooFew = (payload : List ℕ) → length payload ≡ 32768
    → IsGrantedAgain (increments 0 (settings_ack ∷ [])) (data_size None (came payload)) → ⊥

abbrev pub OnAnotherIsTooFew : Type 0
OnAnotherIsTooFew = (payload : List ℕ) → length payload ≡ 32768
    → IsGrantedAgain (increments first_stream (window_update 0 32768 ∷ [])) (data_size (Some first_stream) (came payload)) → ⊥

-- more is granted than came
abbrev pub MoreIsTooMuch : Type 0
MoreIsTooMuch = (payload : List ℕ) (n : ℕ) → n < 2147483648 → length payload < n
    → IsGrantedAgain (increments 0 (window_update 0 n ∷ [])) (data_size None (came payload)) → ⊥

-- all that came is granted; 32,767 octets may wait
abbrev pub AllIsEnough : Type 0
AllIsEnough = (payload : List ℕ) → length payload ≡ 32768
    → IsGrantedAgain (increments first_stream (window_update first_stream 32768 ∷ [])) (data_size (Some first_stream) (came payload))

abbrev pub LessMayWait : Type 0
LessMayWait = (payload : List ℕ) → length payload ≡ 32767 → IsGrantedAgain (increments 0 []) (data_size None (came payload))
