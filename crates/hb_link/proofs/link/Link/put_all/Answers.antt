use Rattle.std.proofs.Common.{rules, ◌≡◌, ◌<◌, ◌+◌, length, true, false, refl, ap, sym, subst, ◌∙◌}
use Rattle.std.specs.Prelude.{⊤, ℕ, Option, None}
use Rattle.hb_conn.specs.Observed.{output}
use Rattle.hb_link.specs.Observed.{serves_in}
use Rattle.hb_link.specs.Putting.{PutsBelow}
use Rattle.hb_link.specs.Settling.{MayPut, AlwaysSettles}
use Rattle.hb_link.specs.Shows.{Shows}
use Rattle.hb_counted.specs.declared.counts.Counts.{Counts}
use Rattle.hb_link.proofs.Idle.{none_puts, none_left, none_ends, starts_rest}
use Rattle.hb_link.proofs.Loads.{place_of}
use Rattle.hb_link.proofs.PutsOn.{not_served, begins, advance, ends}
use Rattle.hb_link.proofs.Settles.{settles_then, stays}
use Rattle.hb_link.proofs.Rousing.{rouses_same, rouses_then}
use Rattle.hb_link.proofs.link.Link.put_all.Goals as goal

pub returns-then-not-is_serving-clause-settles : goal.returns-then-not-is_serving-clause-settles
returns-then-not-is_serving-clause-settles g c = λ limits.
    let k = c.args.self.now in
    let never : serves_in k.phase ≡ false = search rules in
    stays limits (λ held. ⊤) MayPut Shows k (g.N.Notes.told c.args.notes.now) (not_served k never)

pub returns-then-counts-eq0-clause-settles : goal.returns-then-counts-eq0-clause-settles
returns-then-counts-eq0-clause-settles g c = λ limits.
    let k = c.args.self.now in
    let serves : serves_in k.phase ≡ true = search rules in
    let none : c.counts.result.puts ≡ 0 = search rules in
    stays limits (λ held. ⊤) MayPut Shows k (g.N.Notes.told c.args.notes.now)
    (none_puts k c.counts.ensures.numbers (sym (ap (λ (c : Counts). c.puts) c.counts.ensures.value) ∙ none) serves)

pub returns-then-counts-eq0-2-clause-settles : goal.returns-then-counts-eq0-2-clause-settles
returns-then-counts-eq0-2-clause-settles g c = λ limits.
    let k = c.args.self.now in
    let mid = c.put_in_turn.new.self in
    let told = g.N.Notes.told c.args.notes.now in
    let before = g.N.Notes.told c.put_in_turn.new.notes in
    let serves : serves_in k.phase ≡ true = search rules in
    let waits : 0 < length (output mid.conn) = search rules in
    let none : c.counts-then-not-is_empty.result.ends ≡ 0 = search rules in
    settles_then limits (λ held. ⊤) MayPut (PutsBelow 0 0) Shows k k mid told told before
    (stays limits (λ held. ⊤) MayPut (PutsBelow 0 0) k told (begins k serves))
    (settles_then limits (λ held. ⊤) (PutsBelow 0 0) (PutsBelow 0 0) Shows k mid mid told before before
    (c.put_in_turn.ensures.settles limits)
    (stays limits (λ held. ⊤) (PutsBelow 0 0) Shows mid before
    (none_ends mid c.counts-then-not-is_empty.ensures.numbers
    (sym (ap (λ (c : Counts). c.ends) c.counts-then-not-is_empty.ensures.value) ∙ none) waits)))

pub loop-from-init : goal.loop-from-init
loop-from-init g c =
    let k = c.put_in_turn.new.self in
    let first = c.first_from-from.result in (
      λ limits. stays limits (λ held. ⊤) (PutsBelow 0 0) (PutsBelow 0 (place_of first)) k (g.N.Notes.told c.put_in_turn.new.notes)
          (starts_rest k c.starts.result.puts first c.starts.ensures.puts c.first_from-from.ensures.first),
      rouses_same k k refl refl,
    )

pub loop-from-preserved : goal.loop-from-preserved
loop-from-preserved g c =
    let k = c.put_in_turn.new.self in
    let mid = c.loop-from.self in
    let next = c.put_on.new.self in
    let s = c.in-Some.stream in
    let told = g.N.Notes.told c.put_in_turn.new.notes in
    let before = g.N.Notes.told c.loop-from.notes in
    let behind = g.N.Notes.told c.put_on.new.notes in
    let to = c.first_behind-from.result in
    let reached = subst (λ (from : Option ℕ). AlwaysSettles (PutsBelow 0 0) (PutsBelow 0 (place_of from)) k told mid before) c.in-Some.is
    c.loop-from.invariant.0 in (
      λ limits. settles_then limits (λ held. ⊤) (PutsBelow 0 0) (PutsBelow 0 (s + 1)) (PutsBelow 0 (place_of to)) k next next told
          behind behind
          (settles_then limits (λ held. ⊤) (PutsBelow 0 0) (PutsBelow 0 s) (PutsBelow 0 (s + 1)) k mid next told before behind
          (reached limits) (c.put_on.ensures.settles 0 limits))
          (stays limits (λ held. ⊤) (PutsBelow 0 (s + 1)) (PutsBelow 0 (place_of to)) next behind
          (advance next 0 (s + 1) to c.first_behind-from.ensures)),
      rouses_then k mid next c.loop-from.invariant.1 c.put_on.ensures.rouses,
    )

-- nothing may be put behind the stream
pub returns-then-counts-eq0-3-clause-settles : goal.returns-then-counts-eq0-3-clause-settles
returns-then-counts-eq0-3-clause-settles g c = λ limits.
    let k = c.args.self.now in
    let mid = c.put_in_turn.new.self in
    let last = c.loop-from.self in
    let next = c.put_on.new.self in
    let s = c.in-Some.stream in
    let told = g.N.Notes.told c.args.notes.now in
    let before = g.N.Notes.told c.put_in_turn.new.notes in
    let now = g.N.Notes.told c.loop-from.notes in
    let behind = g.N.Notes.told c.put_on.new.notes in
    let serves : serves_in k.phase ≡ true = search rules in
    let none : c.counts-in-Some.result.puts ≡ 0 = search rules in
    let reached = subst (λ (from : Option ℕ). AlwaysSettles (PutsBelow 0 0) (PutsBelow 0 (place_of from)) mid before last now)
    c.in-Some.is c.loop-from.invariant.0 in
    settles_then limits (λ held. ⊤) MayPut (PutsBelow 0 0) Shows k k next told told behind
    (stays limits (λ held. ⊤) MayPut (PutsBelow 0 0) k told (begins k serves))
    (settles_then limits (λ held. ⊤) (PutsBelow 0 0) (PutsBelow 0 0) Shows k mid next told before behind
    (c.put_in_turn.ensures.settles limits)
    (settles_then limits (λ held. ⊤) (PutsBelow 0 0) (PutsBelow 0 (s + 1)) Shows mid next next before behind behind
    (settles_then limits (λ held. ⊤) (PutsBelow 0 0) (PutsBelow 0 s) (PutsBelow 0 (s + 1)) mid last next before now behind
    (reached limits) (c.put_on.ensures.settles 0 limits))
    (stays limits (λ held. ⊤) (PutsBelow 0 (s + 1)) Shows next behind
    (none_left next c.counts-in-Some.ensures.numbers (sym (ap (λ (c : Counts). c.puts) c.counts-in-Some.ensures.value) ∙ none) (s + 1)))))

pub returns-clause-settles : goal.returns-clause-settles
returns-clause-settles g c = λ limits.
    let k = c.args.self.now in
    let mid = c.put_in_turn.new.self in
    let last = c.loop-from.self in
    let told = g.N.Notes.told c.args.notes.now in
    let before = g.N.Notes.told c.put_in_turn.new.notes in
    let now = g.N.Notes.told c.loop-from.notes in
    let serves : serves_in k.phase ≡ true = search rules in
    let reached = subst (λ (from : Option ℕ). AlwaysSettles (PutsBelow 0 0) (PutsBelow 0 (place_of from)) mid before last now)
    c.in_default.is c.loop-from.invariant.0 in
    settles_then limits (λ held. ⊤) MayPut (PutsBelow 0 0) Shows k k last told told now
    (stays limits (λ held. ⊤) MayPut (PutsBelow 0 0) k told (begins k serves))
    (settles_then limits (λ held. ⊤) (PutsBelow 0 0) (PutsBelow 0 0) Shows k mid last told before now
    (c.put_in_turn.ensures.settles limits)
    (settles_then limits (λ held. ⊤) (PutsBelow 0 0) (PutsBelow 0 (place_of None)) Shows mid last last before now now
    (reached limits) (stays limits (λ held. ⊤) (PutsBelow 0 (place_of None)) Shows last now (ends last))))

pub returns-then-not-is_serving-clause-rouses : goal.returns-then-not-is_serving-clause-rouses
returns-then-not-is_serving-clause-rouses g c = rouses_same c.args.self.now c.args.self.now refl refl

pub returns-then-counts-eq0-clause-rouses : goal.returns-then-counts-eq0-clause-rouses
returns-then-counts-eq0-clause-rouses g c = rouses_same c.args.self.now c.args.self.now refl refl

pub returns-clause-rouses : goal.returns-clause-rouses
returns-clause-rouses g c =
    rouses_then c.args.self.now c.put_in_turn.new.self c.loop-from.self c.put_in_turn.ensures.rouses c.loop-from.invariant.1

pub returns-then-counts-eq0-3-clause-rouses : goal.returns-then-counts-eq0-3-clause-rouses
returns-then-counts-eq0-3-clause-rouses g c =
    rouses_then c.args.self.now c.put_in_turn.new.self c.put_on.new.self c.put_in_turn.ensures.rouses
    (rouses_then c.put_in_turn.new.self c.loop-from.self c.put_on.new.self c.loop-from.invariant.1 c.put_on.ensures.rouses)
