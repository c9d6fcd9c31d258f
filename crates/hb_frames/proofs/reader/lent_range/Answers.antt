use Rattle.std.proofs.Common.{◌≡◌, ◌∙◌, sym, rules, true}
use Rattle.hb_frames.specs.RawFrame.{raw_at}
use Rattle.hb_frames.specs.Refusals.{has_content, front_len, padding_len}
use Rattle.hb_frames.proofs.Readings.{content_in_front, lent_is_content}
use Rattle.hb_frames.proofs.reader.lent_range.Goals as goal

pub returns-then-has_content-clause-value : goal.returns-then-has_content-clause-value
returns-then-has_content-clause-value c =
    let bytes = c.args.bytes.now in
    let front_is : c.front_len-front.result ≡ front_len (raw_at bytes) = search rules in
    let padding_is : c.padding_len.result ≡ padding_len (raw_at bytes) = search rules in
    let test : has_content (raw_at bytes) ≡ true = search rules in
    content_in_front bytes c.args.size c.front_len-front.result c.padding_len.result c.requires front_is padding_is
    ∙ sym (lent_is_content (raw_at bytes) test)
