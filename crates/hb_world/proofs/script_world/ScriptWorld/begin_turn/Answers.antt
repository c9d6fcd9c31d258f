use Rattle.std.proofs.Common.{rules, ◌≡◌, ℕ, ◌+◌, ◌≤◌, length, List, ◌++◌, drop, take, ap, ap₂, ◌∙◌, sym, subst}
use Rattle.std.specs.List.{fold, list_any}
use Rattle.hb_world.specs.Allowed.{Allowed}
use Rattle.hb_world.specs.Calls.{wait_entries}
use Rattle.hb_world.specs.DoorState.{door_at}
use Rattle.hb_world.specs.LinkState.{LinkState}
use Rattle.hb_world.specs.LinkStates.{state_at}
use Rattle.hb_world.specs.ScriptAnswers.{is_listen, waited_for, LeavesReady}
use Rattle.hb_world.specs.Script.{LinkScript, standing, turn_of, turn_ends, ready_in, kept_for, link_with, pieces_on, waiting_with, failing_with}
use Rattle.hb_world.specs.Trace.{listens}
use Rattle.hb_world.specs.WorldState.{Keeps, ScriptState, passed_by}
use Rattle.hb_world.specs.declared.entry.Entry.{Entry}
use Rattle.hb_world.specs.declared.entry.ReadyItem.{ReadyItem}
use Rattle.hb_world.specs.declared.line.Line.{Line}
use Rattle.hb_world.specs.declared.world.Waited.{Waited}
use Rattle.hb_world.proofs.AllowedLemmas.{allowed-turn}
use Rattle.hb_world.proofs.WaitLemmas.{standing-trace, turn-within, turn-take, keeps-turned, keeps-wait, kept-behind, told-now, leaves, waits-unheard}
use Rattle.hb_world.proofs.script_world.ScriptWorld.begin_turn.Goals as goal

abbrev kept : LinkScript → List (List ℕ) → LinkState
kept said coming = record { said = said; coming = coming }

pub ready_items-requires : goal.ready_items-requires
ready_items-requires c = λ d.
    c.self.invariant.0.listening d ∙ ap (λ (t : List Entry). listens d t) (standing-trace c.self.inside.lines c.self.inside.trace)

pub split_at-requires-2 : goal.split_at-requires-2
split_at-requires-2 c = subst (λ (n : ℕ). n ≤ length c.split_at.result.1.now) (sym c.turn_len-count.ensures)
    (turn-within c.split_at.result.1.now)

pub turn_to_links-requires-clause-count : goal.turn_to_links-requires-clause-count
turn_to_links-requires-clause-count c =
    subst (λ (n : ℕ). n ≤ length c.split_at.result.1.now) (sym c.turn_len-count.ensures) (turn-within c.split_at.result.1.now)

pub invariant_of-self-2 : goal.invariant_of-self-2
invariant_of-self-2 c =
    let i = c.self.inside in
    let k = c.self.invariant.0 in
    let s = standing i.lines i.trace in
    let coming : c.split_at.result.1.now ≡ s.coming =
    c.split_at.ensures.back ∙ ap (λ (ls : List Line). drop i.next ls) c.as_slice.ensures ∙ sym k.coming in
    let count : c.turn_len-count.result ≡ length (turn_of s.coming) =
    c.turn_len-count.ensures ∙ ap (λ (ls : List Line). length (turn_of ls)) coming in
    let turn : c.split_at-2.result.0.now ≡ turn_of s.coming =
    c.split_at-2.ensures.front ∙ ap₂ (λ (n : ℕ) (ls : List Line). take n ls) count coming ∙ turn-take s.coming in
    let taken : take c.turn_len-count.result c.split_at.result.1.now ≡ turn_of s.coming =
    ap₂ (λ (n : ℕ) (ls : List Line). take n ls) count coming ∙ turn-take s.coming in
    let woken : c.turn_end-woken.result ≡ turn_ends s.coming = c.turn_end-woken.ensures ∙ ap turn_ends coming in
    let named : c.in-Ok.named.items ≡ ready_in (turn_of s.coming) i.trace =
    c.in-Ok.ensures ∙ ap (λ (t : List Line). ready_in t i.trace) turn in
    let added : c.add_wait.new.trace ≡ i.trace ++ wait_entries c.in-Ok-copy_items.told
    (waited_for c.turn_end-woken.result) = search rules in
    let told : c.in-Ok-copy_items.told ≡ take 1024 (ready_in (turn_of s.coming) i.trace) =
    c.in-Ok-copy_items.ensures ∙ c.split_at-3.ensures.front ∙ told-now c.as_slice-items.result.now c.min.result c.min.ensures
    ∙ ap (λ (xs : List ReadyItem). take 1024 xs) (c.as_slice-items.ensures.value ∙ named) in
    let dropped : drop c.turn_len-count.result c.split_at.result.1.now ≡ drop (length (turn_of s.coming)) s.coming =
    ap₂ (λ (n : ℕ) (ls : List Line). drop n ls) count coming in
    let none : length s.rest ≡ 0 =
    subst (λ (w : ScriptState). length (standing w.lines w.trace).rest ≡ 0) (sym c.self.view_is) c.requires in
    let left : drop c.told_before-self-inside.result c.in-Ok.named.items
    ≡ kept_for (turn_ends s.coming) (ready_in (turn_of s.coming) i.trace) =
    ap (λ (n : ℕ). drop n c.in-Ok.named.items)
    (c.told_before-self-inside.ensures
    ∙ ap (λ (xs : List ReadyItem). passed_by c.turn_end-woken.result (length xs)) c.as_slice-items.ensures.value)
    ∙ kept-behind c.turn_end-woken.result c.in-Ok.named.items ∙ ap₂ kept_for woken named in (
      subst (λ (t : List Entry). Keeps (standing i.lines t) i.lines (i.next + c.turn_len-count.result) c.turn_to_links.new.links
          c.turn_to_doors.new.doors c.failing_after_turn-self-inside.result
          (drop c.told_before-self-inside.result c.in-Ok.named.items)) (sym added)
          (subst (λ (n : ℕ). Keeps (standing i.lines (i.trace ++ wait_entries c.in-Ok-copy_items.told
          (waited_for c.turn_end-woken.result)))
          i.lines (i.next + n) c.turn_to_links.new.links c.turn_to_doors.new.doors c.failing_after_turn-self-inside.result
          (drop c.told_before-self-inside.result c.in-Ok.named.items)) (sym count)
          (keeps-wait i.lines i.trace c.in-Ok-copy_items.told c.turn_end-woken.result (i.next + length
          (turn_of s.coming)) c.turn_to_links.new.links
          c.turn_to_doors.new.doors c.failing_after_turn-self-inside.result (drop c.told_before-self-inside.result c.in-Ok.named.items)
          (λ how waits. keeps-turned i.lines i.trace c.in-Ok-copy_items.told how waits i.next i.links c.turn_to_links.new.links i.doors
          c.turn_to_doors.new.doors i.failing c.failing_after_turn-self-inside.result (drop i.told i.named.items)
          (drop c.told_before-self-inside.result c.in-Ok.named.items) k none
          (λ l. c.turn_to_links.ensures.states l
          ∙ ap₂ (λ (t d : List Line). kept (fold (link_with l) (state_at i.links l).said t) (pieces_on l d)) taken dropped)
          c.turn_to_links.ensures.names c.turn_to_doors.ensures.listening
          (λ d. c.turn_to_doors.ensures.waiting d
          ∙ ap (λ (t : List Line). fold (waiting_with (door_at i.doors d).listening d) (door_at i.doors d).waiting t) turn)
          (c.failing_after_turn-self-inside.ensures ∙ ap (λ (t : List Line). fold failing_with i.failing t) turn) left))),
      c.self.invariant.1
          ∙ sym (ap (λ (t : List Entry). list_any is_listen t) added
          ∙ waits-unheard i.trace c.in-Ok-copy_items.told c.turn_end-woken.result),
      subst (λ (t : List Entry). Allowed i.lines t) (sym added)
          (allowed-turn i.lines i.trace c.in-Ok-copy_items.told c.turn_end-woken.result none woken told c.self.invariant.2),
    )

pub returns-clause-items : goal.returns-clause-items
returns-clause-items c =
    let i = c.self.inside in
    let k = c.self.invariant.0 in
    let s = standing i.lines i.trace in
    let coming : c.split_at.result.1.now ≡ s.coming =
    c.split_at.ensures.back ∙ ap (λ (ls : List Line). drop i.next ls) c.as_slice.ensures ∙ sym k.coming in
    let count : c.turn_len-count.result ≡ length (turn_of s.coming) =
    c.turn_len-count.ensures ∙ ap (λ (ls : List Line). length (turn_of ls)) coming in
    let turn : c.split_at-2.result.0.now ≡ turn_of s.coming =
    c.split_at-2.ensures.front ∙ ap₂ (λ (n : ℕ) (ls : List Line). take n ls) count coming ∙ turn-take s.coming in
    let named : c.as_slice-items.result.now ≡ ready_in (turn_of s.coming) i.trace =
    c.as_slice-items.ensures.value ∙ c.in-Ok.ensures ∙ ap (λ (t : List Line). ready_in t i.trace) turn in
    let told : c.fill.new.self ≡ take 1024 (ready_in (turn_of s.coming) i.trace) =
    c.fill.ensures ∙ c.split_at-3.ensures.front ∙ told-now c.as_slice-items.result.now c.min.result c.min.ensures
    ∙ ap (λ (xs : List ReadyItem). take 1024 xs) named in
    let here : c.fill.new.self ≡ take 1024 (ready_in (turn_of
    (standing c.args.self.now.lines c.args.self.now.trace).coming) c.args.self.now.trace) =
    subst (λ (w : ScriptState). c.fill.new.self ≡ take 1024 (ready_in (turn_of
    (standing w.lines w.trace).coming) w.trace)) c.self.view_is told in
    subst (λ (a : Waited). LeavesReady c.args.ready.now c.fill.new.self
    (take 1024 (ready_in (turn_of (standing c.args.self.now.lines c.args.self.now.trace).coming) c.args.self.now.trace)) a)
    (sym c.waited.ensures) (leaves c.args.ready.now c.fill.new.self _ c.turn_end-woken.result here)
