use Rattle.std.proofs.Common.{◌≡◌, ◌≤◌, ◌+◌, ℕ, length, take, None, arith, rules, sym, subst}
use Rattle.hb_frames.specs.RawFrame.{Spells, raw_at, size_at}
use Rattle.hb_frames.specs.Refusals.{first_refusal}
use Rattle.hb_frames.specs.Frames.{AreOctets}
use Rattle.hb_frames.proofs.Spelling.{raw_is_spelled, payload_len}
use Rattle.hb_frames.proofs.frame.first_frame.Goals as goal

pub returns-in-None-clause-first : goal.returns-in-None-clause-first
returns-in-None-clause-first c =
    let bytes = c.args.bytes.now in
    let size_is = c.of-head.ensures.size in
    let octets : AreOctets bytes = λ i. omega (arith, c.type_inv.bytes i) in
    let whole : 9 + size_at bytes ≤ length bytes = omega arith in
    let accepted : first_refusal (raw_at bytes) ≡ None = search rules in
    record {
      spells = subst (λ (n : ℕ). Spells (raw_at bytes) (take (9 + n) bytes)) (sym size_is) (raw_is_spelled bytes octets whole);
      within = omega (arith, payload_len bytes (size_at bytes) whole);
      accepted = accepted;
    }
