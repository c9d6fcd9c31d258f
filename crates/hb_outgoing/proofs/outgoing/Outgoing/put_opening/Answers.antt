use Rattle.std.proofs.Common.{◌≡◌, ◌≤◌, List, ℕ, drop, ap, ◌∙◌, sym, subst, None, length}
use Rattle.hb_buffer.specs.BoundedBytes.{BoundedBytes}
use Rattle.hb_outgoing.specs.Queue.{AreWhole}
use Rattle.hb_outgoing.specs.Known.{NoDataBefore}
use Rattle.hb_outgoing.proofs.Views.{view, opening_alone, opening_waits}
use Rattle.hb_outgoing.proofs.Known.{KnowsBehind, knows_none, knows_becomes}
use Rattle.hb_outgoing.proofs.Places.{at_rest}
use Rattle.hb_outgoing.proofs.outgoing.Outgoing.put_opening.Goals as goal

pub invariant_of-self : goal.invariant_of-self
invariant_of-self c =
    let self = c.self.inside in
    let bytes = c.args.bytes.now in
    let alone = opening_alone self.output.items self.rest bytes c.self.invariant.3 (rw (← c.self.view_is) at c.requires.empty) in
    let is : c.drop_front.new.self.items ≡ bytes =
    ap (λ (b : BoundedBytes). b.items) c.drop_front.ensures
    ∙ ap (λ (b : BoundedBytes). drop 9 b.items) c.put_frame.ensures ∙ alone in
    let opening = opening_waits bytes c.requires.room in
    let known = knows_becomes self.data_waits 0 self.streams _ _ _ _ opening (knows_none self.data_waits self.streams) in
    let before = at_rest bytes (length bytes) opening.inside in (
      ap (λ (b : BoundedBytes). b.size) c.drop_front.ensures ∙ ap (λ (b : BoundedBytes). b.size) c.put_frame.ensures ∙ c.self.invariant.0,
      subst (λ (xs : List ℕ). length xs ≤ 65536) (sym is) opening.inside.small,
      subst (λ (xs : List ℕ). length bytes ≤ length xs) (sym is) opening.inside.within,
      subst (λ (xs : List ℕ). AreWhole (drop (length bytes) xs)) (sym is) opening.inside.whole,
      subst (λ (xs : List ℕ). KnowsBehind self.data_waits 0 self.streams xs (length bytes)) (sym is) known,
      subst (λ (xs : List ℕ). NoDataBefore xs (length bytes) (length bytes)) (sym is) before,
    )

pub returns : goal.returns
returns c =
    let self = c.self.inside in
    let bytes = c.args.bytes.now in
    let alone = opening_alone self.output.items self.rest bytes c.self.invariant.3 (rw (← c.self.view_is) at c.requires.empty) in
    let is : c.drop_front.new.self.items ≡ bytes =
    ap (λ (b : BoundedBytes). b.items) c.drop_front.ensures
    ∙ ap (λ (b : BoundedBytes). drop 9 b.items) c.put_frame.ensures ∙ alone in
    ap (λ (xs : List ℕ). view xs (length bytes) None) is ∙ (opening_waits bytes c.requires.room).seen
