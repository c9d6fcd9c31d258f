use Rattle.std.proofs.Common.{List, take, drop, length, ap, ◌∙◌, ◌++◌, sym, ◌≤◌, arith, append-nil}
use Rattle.hb_frames.specs.RawFrame.{RawFrame, raw_at}
use Rattle.hb_outgoing.specs.Waiting.{spelled}
use Rattle.hb_outgoing.specs.Queue.{frames_of}
use Rattle.hb_outgoing.specs.Written.{last_head}
use Rattle.hb_outgoing.specs.Selected.{data_count}
use Rattle.hb_outgoing.proofs.Walks.{begins_on, begins_end}
use Rattle.hb_outgoing.proofs.queue.begin.Goals as goal

pub loop-end-preserved : goal.loop-end-preserved
loop-end-preserved c =
    let at = c.frame_at-next.ensures.placed in
    begins_on c.args.bytes.now c.args.rest c.args.begun c.args.n c.loop-end.end _ c.loop-end.head c.loop-end.count c.count_of-count.result
    (raw_at (drop c.loop-end.end c.args.bytes.now)) c.frame_at-next.result.head
    c.loop-end.invariant c.loop-end-test.true at.stands at.within at.later c.frame_at-next.ensures.head c.count_of-count.ensures

pub returns : goal.returns
returns c =
    let so = c.loop-end.invariant in
    let end = c.loop-end.end in
    let bytes = c.args.bytes.now in
    let passed : c.args.n ≤ end = omega (arith, c.loop-end-test.false) in
    let none = begins_end bytes c.args.n end passed in
    record {
      passes = passed;
      within = so.within;
      later = so.later;
      octets = sym (append-nil (take end bytes)) ∙ ap (λ (fs : List RawFrame). take end bytes ++ spelled fs) (sym none) ∙ so.octets;
      queue = ap (λ (fs : List RawFrame). drop (length fs) (frames_of (drop end bytes))) (sym none) ∙ so.queue;
      head = ap (last_head c.loop-end.head) (sym none) ∙ so.head_is;
      count = omega (arith, so.count_is, ap data_count none);
    }
