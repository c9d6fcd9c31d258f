use Rattle.std.proofs.Common.{◌≡◌, ◌++◌, ◌∙◌, ℕ, List, arith}
use Rattle.std.proofs.lemmas.Result.{IfOk-weaker}
use Rattle.hb_hpack.specs.Huffman.{bits}
use Rattle.hb_hpack.specs.HuffmanSteps.{text_from}
use Rattle.hb_hpack.specs.Partial.{after_text}
use Rattle.hb_hpack.proofs.Taking.{byte_taken}
use Rattle.hb_hpack.proofs.huffman.take_byte.Goals as goal

pub returns-then-held-lt56-clause-read : goal.returns-then-held-lt56-clause-read
returns-then-held-lt56-clause-read c rest =
    rw (c.with-held.ensures.bits, c.with-held.ensures.count)
    (byte_taken c.args.text.now.items c.args.held.count c.args.held.bits c.args.byte rest (omega arith) (omega arith))

pub returns-clause-read : goal.returns-clause-read
returns-clause-read c =
    let byte : (rest : List ℕ) → after_text c.args.text.now.items
    (text_from 0 0 (bits c.with-held.result.count c.with-held.result.bits ++ rest))
    ≡ after_text c.args.text.now.items (text_from 0 0 (bits c.args.held.count c.args.held.bits ++ (bits 8 c.args.byte ++ rest)))
    = λ rest. rw (c.with-held.ensures.bits, c.with-held.ensures.count)
    (byte_taken c.args.text.now.items c.args.held.count c.args.held.bits c.args.byte rest (omega arith) (omega arith)) in
    IfOk-weaker c.take_words.result _ _ (λ r h rest. h rest ∙ byte rest) c.take_words.ensures.read
