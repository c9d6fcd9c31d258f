-- What isn't granted again of DATA that came, and what is.
use Rattle.std.proofs.Common.{◌≡◌, ℕ, List, [], length, Some, None, arith}
use Rattle.hb_frames.specs.Numbers.{data_kind}
use Rattle.hb_outgoing.specs.Selected.{data_size}
use Rattle.hb_conn.specs.Frames.{frame}
use Rattle.hb_history.specs.CreditExamples.{came, NoneIsTooFew, OnAnotherIsTooFew, MoreIsTooMuch, AllIsEnough, LessMayWait}
use Rattle.hb_history.specs.OwnFrames.{first_stream}
use Rattle.hb_history.proofs.Asking.{word_grants}
use Rattle.hb_history.proofs.Payloads.{size_cons}

whole_came : (payload : List ℕ) → data_size None (came payload) ≡ length payload
whole_came payload = omega (arith, size_cons None (frame data_kind 0 first_stream payload) [])

one_came : (payload : List ℕ) → data_size (Some first_stream) (came payload) ≡ length payload
one_came payload = omega (arith, size_cons (Some first_stream) (frame data_kind 0 first_stream payload) [])

pub none_is_too_few : NoneIsTooFew
none_is_too_few payload many again = absurd (omega (arith, many, whole_came payload, again.1))

pub on_another_is_too_few : OnAnotherIsTooFew
on_another_is_too_few payload many again = absurd (omega (arith, many, one_came payload, again.1))

pub more_is_too_much : MoreIsTooMuch
more_is_too_much payload n fits less again = absurd (omega (arith, less, whole_came payload, word_grants 0 n fits, again.0))

pub all_is_enough : AllIsEnough
all_is_enough payload many =
    let grants = word_grants first_stream 32768 (omega arith) in
    (omega (arith, many, one_came payload, grants), omega (arith, many, one_came payload, grants))

pub less_may_wait : LessMayWait
less_may_wait payload many = (omega arith, omega (arith, many, whole_came payload))
