use Rattle.hb_hpack.proofs.Taking.{begins_text}
use Rattle.std.proofs.Common.{◌≡◌, ◌+◌, ◌<◌, ◌∙◌, sym, ap, subst, List, [], ℕ, drop, Option, Some, IfSome, arith}
use Rattle.std.proofs.lemmas.List.{drop_more, drop_all}
use Rattle.hb_hpack.specs.declared.partial.Held.{Held}
use Rattle.hb_hpack.specs.Huffman.{bits_of}
use Rattle.hb_hpack.specs.HuffmanSteps.{text_of}
use Rattle.hb_hpack.specs.Partial.{read_on}
use Rattle.hb_hpack.proofs.huffman.text_of.Goals as goal

pub loop-byte-init : goal.loop-byte-init
loop-byte-init c = record {
  few = rw c.new-held.ensures.count (omega arith);
  read = rw (c.new-held.ensures.bits, c.new-held.ensures.count, c.in_ok-text.ensures.items) (begins_text c.args.b.now);
}

pub loop-byte-preserved : goal.loop-byte-preserved
loop-byte-preserved c =
    let more = drop_more c.args.b.now c.loop-byte.byte-index 0 c.loop-byte-test.true in
    let rest : List ℕ = bits_of (drop (c.loop-byte.byte-index + 1) c.args.b.now) in
    record {
      few = subst (λ (o : Option Held). IfSome o (λ left. left.count < 56)) c.in-Some.is c.in_ok-take_byte.ensures.few;
      read = ap (λ (o : Option Held). read_on c.take_byte.new.text.items o rest) (sym c.in-Some.is)
          ∙ c.in_ok-take_byte.ensures.read rest
          ∙ ap (λ (xs : List ℕ). read_on c.loop-byte.text.items (Some c.loop-byte.held) (bits_of xs)) (sym more)
          ∙ c.loop-byte.invariant.read;
    }

pub returns-in-None : goal.returns-in-None
returns-in-None c =
    let more = drop_more c.args.b.now c.loop-byte.byte-index 0 c.loop-byte-test.true in
    let rest : List ℕ = bits_of (drop (c.loop-byte.byte-index + 1) c.args.b.now) in
    ap (λ (o : Option Held). read_on c.take_byte.new.text.items o rest) (sym c.in-None.is)
    ∙ c.in_ok-take_byte.ensures.read rest
    ∙ ap (λ (xs : List ℕ). read_on c.loop-byte.text.items (Some c.loop-byte.held) (bits_of xs)) (sym more)
    ∙ c.loop-byte.invariant.read

pub returns-in_default : goal.returns-in_default
returns-in_default c =
    let none = drop_all c.loop-byte.byte-index c.args.b.now c.loop-byte-test.false in
    let end : read_on c.loop-byte.text.items (Some c.loop-byte.held) [] ≡ text_of c.args.b.now =
    ap (λ (xs : List ℕ). read_on c.loop-byte.text.items (Some c.loop-byte.held) (bits_of xs)) (sym none) ∙ c.loop-byte.invariant.read in
    ap (λ (o : Option Held). read_on c.take_words.new.text.items o []) (sym c.in_default.is) ∙ c.in_ok-held.ensures.read [] ∙ end

pub returns-then-branch : goal.returns-then-branch
returns-then-branch c =
    let none = drop_all c.loop-byte.byte-index c.args.b.now c.loop-byte-test.false in
    let end : read_on c.loop-byte.text.items (Some c.loop-byte.held) [] ≡ text_of c.args.b.now =
    ap (λ (xs : List ℕ). read_on c.loop-byte.text.items (Some c.loop-byte.held) (bits_of xs)) (sym none) ∙ c.loop-byte.invariant.read in
    ap (λ (xs : List ℕ). Some xs) (c.from_vec.ensures ∙ c.shrink_to_fit.ensures.items) ∙ (rw c.if-branch.true at c.in_ok-take_last.ensures)
    ∙ ap (λ (o : Option Held). read_on c.take_words.new.text.items o []) (sym c.in-Some-2.is) ∙ c.in_ok-held.ensures.read [] ∙ end

pub returns-else-branch : goal.returns-else-branch
returns-else-branch c =
    let none = drop_all c.loop-byte.byte-index c.args.b.now c.loop-byte-test.false in
    let end : read_on c.loop-byte.text.items (Some c.loop-byte.held) [] ≡ text_of c.args.b.now =
    ap (λ (xs : List ℕ). read_on c.loop-byte.text.items (Some c.loop-byte.held) (bits_of xs)) (sym none) ∙ c.loop-byte.invariant.read in
    (rw c.if-branch.false at c.in_ok-take_last.ensures)
    ∙ ap (λ (o : Option Held). read_on c.take_words.new.text.items o []) (sym c.in-Some-2.is) ∙ c.in_ok-held.ensures.read [] ∙ end
