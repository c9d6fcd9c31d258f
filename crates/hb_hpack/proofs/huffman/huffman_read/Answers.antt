use Rattle.std.proofs.Common.{◌≡◌, sym, ◌∙◌, List, ℕ, Some, None, Option}
use Rattle.std.specs.Prelude.{IfSome}
use Rattle.std.proofs.lemmas.Result.{IfOk-weaker}
use Rattle.hb_hpack.specs.Huffman.{Spells}
use Rattle.hb_hpack.specs.HuffmanSteps.{text_of}
use Rattle.hb_hpack.proofs.Reading.{read_is_spelled, spelled_is_read, prefix_free}
use Rattle.hb_hpack.proofs.CodeTable.{last_is_ones}
use Rattle.hb_hpack.proofs.huffman.huffman_read.Goals as goal

found : (bytes : List ℕ) (o : Option (List ℕ)) → o ≡ text_of bytes → IfSome o (λ text. Spells bytes text)
found bytes None e = tt
found bytes (Some text) e = read_is_spelled bytes text (sym e)

pub returns-clause-found : goal.returns-clause-found
returns-clause-found c = IfOk-weaker c.text_of.result _ _ (λ r e. found c.args.b.now r e) c.text_of.ensures

pub returns-clause-only : goal.returns-clause-only
returns-clause-only c = IfOk-weaker c.text_of.result _ _ (λ r e text s. e ∙ spelled_is_read c.args.b.now text s) c.text_of.ensures

pub returns-clause-apart : goal.returns-clause-apart
returns-clause-apart c = prefix_free

pub returns-clause-last : goal.returns-clause-last
returns-clause-last c = last_is_ones
