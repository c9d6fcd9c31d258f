use Rattle.std.specs.Prelude.{◌==◌, if◌then◌else◌}
use Rattle.std.proofs.Common.{ℕ, List, ◌++◌, ◌∷◌, [], drop, ◌≡◌, ◌≤◌, ◌+◌, length, ap, ◌∙◌, sym, subst, arith, length-drop}
use Rattle.hb_frames.specs.RawFrame.{Fits}
use Rattle.hb_buffer.specs.BoundedBytes.{BoundedBytes}
use Rattle.hb_frames.proofs.Records.{raw}
use Rattle.hb_outgoing.proofs.Queues.{octets_are}
use Rattle.hb_outgoing.specs.Waiting.{Waiting, octets_of}
use Rattle.hb_outgoing.proofs.Views.{Inside, put_is_long, view, frame_is_put}
use Rattle.hb_outgoing.specs.Queue.{frames_of}
use Rattle.hb_outgoing.specs.Known.{KnowsData, NoDataBefore}
use Rattle.hb_outgoing.proofs.Known.{Notes, KnowsBehind, knows_forgotten, knows_put, knows_becomes}
use Rattle.hb_outgoing.proofs.Places.{before_put}
use Rattle.hb_outgoing.proofs.Walks.{counted_least, count_is_short}
use Rattle.hb_outgoing.proofs.outgoing.Outgoing.put_frame.Goals as goal

pub returns-clause-after : goal.returns-clause-after
returns-clause-after c =
    let f = raw c.args.kind c.args.flags c.args.stream c.args.payload.now in
    let items = c.self.inside.output.items in
    let rest = c.self.inside.rest in
    let inv = c.self.invariant in
    let roomy = rw (← c.self.view_is) at c.requires.room in
    let room : length items + (9 + length f.payload) ≤ 65536 = omega (arith, roomy, ap length (octets_are items rest inv.3)) in
    let fits : Fits f = record { kind = omega arith; flags = omega arith; stream = omega arith; size = omega (arith, room) } in
    let before : Inside items rest = record { small = inv.1; within = inv.2; whole = inv.3 } in
    let now = frame_is_put items rest c.self.inside.begun f before fits room in
    rw (← c.self.view_is)
    (ap (λ (b : BoundedBytes). view b.items rest c.self.inside.begun) c.put_frame.ensures ∙ now.seen)

pub invariant_of-self : goal.invariant_of-self
invariant_of-self c =
    let f = raw c.args.kind c.args.flags c.args.stream c.args.payload.now in
    let items = c.self.inside.output.items in
    let rest = c.self.inside.rest in
    let inv = c.self.invariant in
    let roomy = rw (← c.self.view_is) at c.requires.room in
    let room : length items + (9 + length f.payload) ≤ 65536 = omega (arith, roomy, ap length (octets_are items rest inv.3)) in
    let fits : Fits f = record { kind = omega arith; flags = omega arith; stream = omega arith; size = omega (arith, room) } in
    let before : Inside items rest = record { small = inv.1; within = inv.2; whole = inv.3 } in
    let now = frame_is_put items rest c.self.inside.begun f before fits room in
    let waits = c.waits_with-self-inside.result in
    let count = c.self.inside.count + c.count_of.result in
    let after = c.note.new.self in
    let fs = frames_of (drop rest items) in
    let kept = c.forget.new.self in
    let forgotten =
    knows_forgotten c.self.inside.data_waits c.self.inside.count c.self.inside.streams kept fs inv.4 c.forget.ensures.stays in
    let notes : Notes kept after f = record { stays = c.note.ensures.stays; noted = c.note.ensures.noted } in
    let knows : KnowsData waits count after (frames_of (drop rest items) ++ f ∷ []) =
    knows_put c.self.inside.data_waits waits c.self.inside.count count kept after fs f forgotten
    c.waits_with-self-inside.ensures (ap (λ (n : ℕ). c.self.inside.count + n) c.count_of.ensures) notes in
    let known = knows_becomes waits count after _ _ _ _ now knows in
    let from = c.from_with-self-inside.result in
    let from_is : from ≡ (if c.self.inside.count == 0 then length items else c.self.inside.from) =
    c.from_with-self-inside.ensures
    ∙ ap (λ (xs : List ℕ). if c.self.inside.count == 0 then length xs else c.self.inside.from) c.front.ensures in
    let places = before_put items rest c.self.inside.from c.self.inside.count from f before fits inv.5 inv.4.count_is from_is in
    let inside = subst (λ (b : BoundedBytes). Inside b.items rest) (sym c.put_frame.ensures) now.inside in (
      ap (λ (b : BoundedBytes). b.size) c.put_frame.ensures ∙ inv.0,
      inside.small,
      inside.within,
      inside.whole,
      subst (λ (b : BoundedBytes). KnowsBehind waits count after b.items rest) (sym c.put_frame.ensures) known,
      subst (λ (b : BoundedBytes). NoDataBefore b.items rest from) (sym c.put_frame.ensures) places,
    )

pub overflow_add-self : goal.overflow_add-self
overflow_add-self c =
    let fs = frames_of (drop c.self.inside.rest c.self.inside.output.items) in
    let inv = c.self.invariant in
    let one : c.count_of.result ≤ 1 = subst (λ (n : ℕ). n ≤ 1) (sym c.count_of.ensures) (counted_least c.args.kind) in
    let len = length-drop c.self.inside.rest c.self.inside.output.items in
    omega (arith, inv.4.count_is, count_is_short fs, ap length inv.3.joined, len, inv.1, one)

pub returns-clause-grows : goal.returns-clause-grows
returns-clause-grows c =
    let f = raw c.args.kind c.args.flags c.args.stream c.args.payload.now in
    subst (λ (w : Waiting). length (octets_of w) ≡ length (octets_of c.args.self.now) + (9 + length c.args.payload.now))
    (sym (returns-clause-after c))
    (put_is_long f c.args.self.now)
