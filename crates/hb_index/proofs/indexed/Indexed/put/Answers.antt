use Rattle.std.proofs.Common.{◌≡◌, inl, inr, take, ap, sym, ◌∙◌}
use Rattle.std.specs.FinMap.{get, contains_key}
use Rattle.hb_index.specs.Index.{with_all, without_all}
use Rattle.hb_index.specs.Indexed.{numbers_in}
use Rattle.hb_index.proofs.Changes.{put_indexed, stays_indexed, back_indexed, same_indexed}
use Rattle.hb_index.proofs.Undone.{has_inserted, back_again}
use Rattle.hb_index.proofs.indexed.Indexed.put.Goals as goal

pub put_back-requires : goal.put_back-requires
put_back-requires g c =
    let name = c.args.name.now in
    ap (λ m. contains_key m name) c.in_ok-stood.ensures.ok ∙ has_inserted c.self.inside.kept.now name c.args.item

pub invariant_of-self-in-Err : goal.invariant_of-self-in-Err
invariant_of-self-in-Err g c =
    let numbers_of = g.T.Numbered.numbers in
    let name = c.args.name.now in
    let m = c.self.inside.kept.now in
    let places = c.self.inside.index in
    let numbers = c.as_slice-numbers.result.now in
    let stood = c.in_ok-stood.ensures in
    let same = back_again m _ _ name c.args.item _ _ stood.ok stood.stood c.in-Err.ensures.back c.put_back.ensures in
    elim c.in-Err.ensures.unlisted [
      | inl stays ↦ same_indexed numbers_of _ _ _ _ same stays c.self.invariant
      | inr some ↦ same_indexed numbers_of _ _ _ _ same
          (some.1 ∙ ap (λ o. without_all (with_all places name (take some.0 numbers)) name numbers (numbers_in numbers_of o)) stood.stood)
          (back_indexed numbers_of m places c.self.invariant name numbers some.0)
    ]

pub returns-in-Err-clause-err : goal.returns-in-Err-clause-err
returns-in-Err-clause-err g c =
    let stood = c.in_ok-stood.ensures in
    let same = back_again c.self.inside.kept.now _ _ c.args.name.now c.args.item _ _ stood.ok stood.stood c.in-Err.ensures.back
    c.put_back.ensures in
    (λ i. record { now = same i; past = c.in-Err.ensures.err i }) ∙ c.self.view_is

pub invariant_of-self-in_default : goal.invariant_of-self-in_default
invariant_of-self-in_default g c =
    let numbers_of = g.T.Numbered.numbers in
    let name = c.args.name.now in
    let m = c.self.inside.kept.now in
    let places = c.self.inside.index in
    let numbers = c.as_slice-numbers.result.now in
    let after : numbers ≡ numbers_of c.args.item = c.as_slice-numbers.ensures ∙ c.in_ok-numbers.ensures in
    let stood = c.in_ok-stood.ensures in
    let before = ap (numbers_in numbers_of) stood.stood in
    elim c.in_default.ensures.listed [
      | inl same ↦ same_indexed numbers_of _ _ _ _ stood.ok same.1
          (stays_indexed numbers_of m places c.self.invariant name c.args.item (sym before ∙ same.0 ∙ after))
      | inr anew ↦ same_indexed numbers_of _ _ _ _ stood.ok (anew
          ∙ ap (λ b. without_all (with_all places name numbers) name b numbers) before
          ∙ ap (λ a. without_all (with_all places name a) name (numbers_in numbers_of (get m name)) a) after)
          (put_indexed numbers_of m places c.self.invariant name c.args.item)
    ]
