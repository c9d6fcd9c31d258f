-- What is sent spells its frame, and what spells a frame is read.
use Rattle.std.proofs.Common.{◌≡◌, ⊎_elim, ◌+◌, ◌*◌, ◌≤◌, ◌<◌, ◌++◌, length, ap, ◌∙◌, arith, true, false, length-append, Err}
use Rattle.std.specs.Prelude.{nat_lt, if◌then◌else◌}
use Rattle.std.proofs.lemmas.Bool.{cases_lt}
use Rattle.std.proofs.lemmas.Bool.Decides.{nat_tests}
use Rattle.hb_frames.specs.RawFrame.{RawFrame, header, raw_at, size_at}
use Rattle.hb_frames.specs.Refusals.{first_refusal}
use Rattle.hb_frames.specs.Reading.{first_of, too_long, unless_refused}
use Rattle.hb_frames.specs.Laws.{SentIsSpelled, SpelledIsRead}
use Rattle.hb_frames.proofs.Spelling.{spelled_in_front}
use Rattle.hb_frames.proofs.Faults.{refused_long, whole_frame}

pub sent_is_spelled : SentIsSpelled
sent_is_spelled f fits =
    let same : f.stream ≡ 0 * 2147483648 + f.stream = omega arith in
    record {
      fits = fits;
      reserved = 0;
      bit = omega arith;
      whole = ap (λ word. header (length f.payload) f.kind f.flags word ++ f.payload) same;
    }

pub spelled_is_read : SpelledIsRead
spelled_is_read max f spelled more spells =
    let bytes = spelled ++ more in
    let front = spelled_in_front f spelled more spells in
    let enough : 9 + size_at bytes ≤ length bytes = omega (arith, front.len, front.size, length-append spelled more) in
    let found : first_of max bytes
    ≡ (if nat_lt max (length f.payload) then Err too_long else unless_refused (first_refusal f) (length spelled)) = ⊎_elim
    (λ (h : max < length f.payload).
    let test : nat_lt max (length f.payload) ≡ true = grind (arith, nat_tests) in
    rw test (refused_long max bytes (omega (arith, enough)) (omega (arith, h, front.size))))
    (λ (h : length f.payload ≤ max).
    let test : nat_lt max (length f.payload) ≡ false = grind (arith, nat_tests) in
    let size : 9 + size_at bytes ≡ length spelled = omega (arith, front.size, front.len) in
    rw test (whole_frame max bytes (omega (arith, h, front.size)) enough ∙ ap (unless_refused (first_refusal (raw_at bytes))) size
    ∙ ap (λ (g : RawFrame). unless_refused (first_refusal g) (length spelled)) front.frame))
    (cases_lt max (length f.payload))
    in (front.frame, found)
