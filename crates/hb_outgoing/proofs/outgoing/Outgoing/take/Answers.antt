use Rattle.std.proofs.Common.{◌≡◌, List, ℕ, ap, ◌∙◌, sym, subst, drop, take, ◌++◌}
use Rattle.std.specs.List.{filter}
use Rattle.hb_buffer.specs.BoundedBytes.{BoundedBytes}
use Rattle.hb_outgoing.specs.Selected.{is_kept, data_size}
use Rattle.hb_outgoing.specs.Known.{NoDataBefore}
use Rattle.hb_outgoing.specs.Waiting.{Waiting, spelled}
use Rattle.hb_outgoing.specs.Queue.{frames_of}
use Rattle.hb_outgoing.proofs.Views.{Inside, view, frames_are_taken}
use Rattle.hb_outgoing.proofs.Known.{KnowsBehind, knows_kept, knows_becomes}
use Rattle.hb_outgoing.proofs.Places.{count_behind, taken_behind}
use Rattle.hb_outgoing.proofs.outgoing.Outgoing.take.Goals as goal

pub take_data-taken-requires : goal.take_data-taken-requires
take_data-taken-requires c =
    let inv = c.self.invariant in
    let self = c.self.inside in
    record {
      order = inv.5.within;
      small = inv.1;
      whole = inv.5.later;
      counted = inv.4.count_is ∙ count_behind self.output.items self.rest self.from inv.5;
    }

pub invariant_of-self : goal.invariant_of-self
invariant_of-self c =
    let inv = c.self.invariant in
    let self = c.self.inside in
    let before : Inside self.output.items self.rest = record { small = inv.1; within = inv.2; whole = inv.3 } in
    let behind = taken_behind self.output.items self.rest self.from c.args.stream before inv.5 in
    let fs = frames_of (drop self.rest self.output.items) in
    let at = c.take_data-taken.ensures in
    let items : c.take_data-taken.new.output.items ≡ take self.rest self.output.items ++ spelled (filter (is_kept c.args.stream) fs) =
    ap (λ (b : BoundedBytes). b.items) at.left ∙ behind.octets in
    let taken = frames_are_taken self.output.items self.rest self.begun c.args.stream before in
    let inside = subst (λ (xs : List ℕ). Inside xs self.rest) (sym items) taken.inside in
    let left = c.take_data-taken.result.1 in
    let kept = knows_kept self.data_waits self.count left self.streams (is_kept c.args.stream) fs inv.4 (at.count ∙ behind.count) in
    let known = knows_becomes self.data_waits left self.streams _ _ _ _ taken kept in (
      ap (λ (b : BoundedBytes). b.size) at.left ∙ inv.0,
      inside.small,
      inside.within,
      inside.whole,
      subst (λ (xs : List ℕ). KnowsBehind self.data_waits left self.streams xs self.rest) (sym items) known,
      subst (λ (b : BoundedBytes). NoDataBefore b.items self.rest self.from) (sym at.left) behind.still,
    )

pub returns : goal.returns
returns c =
    let inv = c.self.invariant in
    let self = c.self.inside in
    let before : Inside self.output.items self.rest = record { small = inv.1; within = inv.2; whole = inv.3 } in
    let behind = taken_behind self.output.items self.rest self.from c.args.stream before inv.5 in
    let at = c.take_data-taken.ensures in
    let taken = frames_are_taken self.output.items self.rest self.begun c.args.stream before in
    record {
      value = at.value ∙ behind.size ∙ ap (λ (w : Waiting). data_size c.args.stream w.queue) c.self.view_is;
      left = rw (← c.self.view_is)
          (c.look_for_data.ensures
          ∙ ap (λ (b : BoundedBytes). view b.items self.rest self.begun) at.left
          ∙ ap (λ (xs : List ℕ). view xs self.rest self.begun) behind.octets ∙ taken.seen);
    }
