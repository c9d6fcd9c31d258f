use Rattle.std.proofs.Common.{◌≡◌, ◌≤◌, true, false, Some, None, List, [], ◌∷◌, ◌++◌, refl, sym, subst, ◌+◌, ◌*◌, arith}
use Rattle.std.specs.List.{All}
use Rattle.std.proofs.lemmas.List.Elements.{All-head}
use Rattle.hb_base.specs.declared.cause.Cause.TheVariants as cause
use Rattle.hb_base.specs.declared.door.Why.{Why}
use Rattle.hb_base.specs.declared.target.Target.{Target}
use Rattle.hb_world.specs.declared.entry.Entry.{Entry}
use Rattle.hb_world.specs.declared.entry.Entry.TheVariants as e
use Rattle.hb_world.specs.declared.entry.Woken.TheVariants as woken
use Rattle.std.specs.Prelude.{count_by}
use Rattle.hb_turns.specs.Ends.{ClosesFor, RunsOn, end_by, is_wait, moves, waits as waits_in}
use Rattle.hb_turns.specs.RefusedRuns.{asks, waits, waits_stop, glances}
use Rattle.hb_turns.specs.declared.served.ServeEnd.TheVariants as ends
use Rattle.hb_turns.proofs.Adding.{moves-append, waits-append}
use Rattle.hb_turns.proofs.Refusing.{stops_amid, ends_not, no_end}
use Rattle.hb_turns.proofs.laws.wrong_ends_are_refused.Goals as goal

unasked : (to : Target) (why : Why) (b : List Entry) (l : Entry) (c : List Entry) → e.DialFailed to why ∷ [] ≡ b ++ l ∷ c
    → end_by None b l ≡ Some ends.Stopped → ⊥
unasked to why [] l c is at = ends_not None [] (e.DialFailed to why) l (cc) (refl {a = no_end}) at
unasked to why (x ∷ []) l c is at = absurd cc
unasked to why (x ∷ y ∷ b) l c is at = absurd cc

pub returns-clause-unasked : goal.returns-clause-unasked
returns-clause-unasked g c = λ to why totals left served.
    let s = stops_amid g.N.Node.stands g.N.Node.shown (asks 9 None) _ served.over in unasked to why s.before s.last s.behind s.trace_is s.ended

pub returns-clause-left_open : goal.returns-clause-left_open
returns-clause-left_open g c = λ to why totals left served. let none : true ≡ false = served.closed 1 in absurd cc

lack : (to : Target) (why : Why) (b : List Entry) (l : Entry) (c : List Entry)
    → e.Dialled 1 to why ∷ waits_stop ∷ e.Closed 1 cause.NoMemory ∷ [] ≡ b ++ l ∷ c → end_by None b l ≡ Some ends.Stopped
    → All (ClosesFor cause.Stopped) c → ⊥
lack to why [] l c is at closes = ends_not None [] (e.Dialled 1 to why) l (cc) (refl {a = no_end}) at
lack to why (x ∷ []) l c is at closes =
    let behind : e.Closed 1 cause.NoMemory ∷ [] ≡ c = cc in
    let one : cause.NoMemory ≡ cause.Stopped =
    All-head (ClosesFor cause.Stopped) (e.Closed 1 cause.NoMemory) []
    (subst (λ (es : List Entry). All (ClosesFor cause.Stopped) es) (sym behind) closes) in
    absurd cc
lack to why (x ∷ y ∷ []) l c is at closes = ends_not None (x ∷ y ∷ []) (e.Closed 1 cause.NoMemory) l (cc) (refl {a = no_end}) at
lack to why (x ∷ y ∷ z ∷ []) l c is at closes = absurd cc
lack to why (x ∷ y ∷ z ∷ v ∷ b) l c is at closes = absurd cc

pub returns-clause-lack : goal.returns-clause-lack
returns-clause-lack g c = λ to why totals left served.
    let s = stops_amid g.N.Node.stands g.N.Node.shown (asks 9 None) _ served.over in
    lack to why s.before s.last s.behind s.trace_is s.ended s.closes

more : (to : Target) (why : Why) (b : List Entry) (l : Entry) (c : List Entry)
    → waits_stop ∷ e.DialFailed to why ∷ [] ≡ b ++ l ∷ c → end_by None b l ≡ Some ends.Stopped
    → All (ClosesFor cause.Stopped) c → ⊥
more to why [] l c is at closes =
    let behind : e.DialFailed to why ∷ [] ≡ c = cc in
    All-head (ClosesFor cause.Stopped) (e.DialFailed to why) []
    (subst (λ (es : List Entry). All (ClosesFor cause.Stopped) es) (sym behind) closes)
more to why (x ∷ []) l c is at closes = ends_not None (x ∷ []) (e.DialFailed to why) l (cc) (refl {a = no_end}) at
more to why (x ∷ y ∷ []) l c is at closes = absurd cc
more to why (x ∷ y ∷ z ∷ b) l c is at closes = absurd cc

pub returns-clause-behind : goal.returns-clause-behind
returns-clause-behind g c = λ to why totals left served.
    let s = stops_amid g.N.Node.stands g.N.Node.shown (asks 9 None) _ served.over in
    more to why s.before s.last s.behind s.trace_is s.ended s.closes

past : (b : List Entry) (l : Entry) (c : List Entry) → waits_stop ∷ [] ≡ b ++ l ∷ c → waits_in (b ++ l ∷ []) ≤ 0 → ⊥
past [] l c is few =
    let it : waits_stop ≡ l = cc in
    let one : waits_in (waits_stop ∷ []) ≤ 0 = subst (λ (x : Entry). waits_in (x ∷ []) ≤ 0) (sym it) few in
    omega (arith, one)
past (x ∷ []) l c is few = absurd cc
past (x ∷ y ∷ b) l c is few = absurd cc

pub returns-clause-turns : goal.returns-clause-turns
returns-clause-turns g c = λ totals left served.
    let s = stops_amid g.N.Node.stands g.N.Node.shown (asks 0 None) _ served.over in past s.before s.last s.behind s.trace_is s.few_waits

once_more : (b : List Entry) (l : Entry) (c : List Entry) → e.Wait [] woken.Tick ∷ e.Tick ∷ waits_stop ∷ [] ≡ b ++ l ∷ c
    → RunsOn (Some 1) b → end_by (Some 1) b l ≡ Some ends.Stopped → All (ClosesFor cause.Stopped) c → ⊥
once_more [] l c is runs at closes = ends_not (Some 1) [] (e.Wait [] woken.Tick) l (cc) (refl {a = no_end}) at
once_more (x ∷ []) l c is runs at closes =
    let behind : waits_stop ∷ [] ≡ c = cc in
    All-head (ClosesFor cause.Stopped) waits_stop []
    (subst (λ (es : List Entry). All (ClosesFor cause.Stopped) es) (sym behind) closes)
once_more (x ∷ y ∷ []) l c is runs at closes =
    let first : e.Wait [] woken.Tick ≡ x = cc in
    let second : e.Tick ≡ y = cc in
    let on : end_by (Some 1) (e.Wait [] woken.Tick ∷ []) e.Tick ≡ None =
    subst (λ (v : Entry). end_by (Some 1) (v ∷ []) e.Tick ≡ None) (sym first)
    (subst (λ (v : Entry). end_by (Some 1) (x ∷ []) v ≡ None) (sym second) (runs (x ∷ []) y [] refl)) in
    absurd cc
once_more (x ∷ y ∷ z ∷ []) l c is runs at closes = absurd cc
once_more (x ∷ y ∷ z ∷ v ∷ b) l c is runs at closes = absurd cc

pub returns-clause-ticks : goal.returns-clause-ticks
returns-clause-ticks g c = λ totals left served.
    let s = stops_amid g.N.Node.stands g.N.Node.shown (asks 9 (Some 1)) _ served.over in
    once_more s.before s.last s.behind s.trace_is s.runs_on s.ended s.closes

few_turns : (to : Target) (why : Why) (b c : List Entry) → e.DialFailed to why ∷ waits ∷ [] ≡ b ++ c
    → 9 ≤ moves b + 2 * (count_by is_wait b) + 1 → ⊥
few_turns to why [] c is spends = omega (arith, spends)
few_turns to why (x ∷ []) c is spends =
    let first : e.DialFailed to why ≡ x = cc in
    let so : 9 ≤ moves (e.DialFailed to why ∷ []) + 2 * (count_by is_wait (e.DialFailed to why ∷ [])) + 1 =
    subst (λ (z : Entry). 9 ≤ moves (z ∷ []) + 2 * (count_by is_wait (z ∷ [])) + 1) (sym first) spends in
    omega (arith, so)
few_turns to why (x ∷ y ∷ []) c is spends =
    let first : e.DialFailed to why ≡ x = cc in
    let second : waits ≡ y = cc in
    let so : 9 ≤ moves (e.DialFailed to why ∷ waits ∷ []) + 2 * (count_by is_wait (e.DialFailed to why ∷ waits ∷ [])) + 1 =
    subst (λ (z : Entry). 9 ≤ moves (z ∷ waits ∷ []) + 2 * (count_by is_wait (z ∷ waits ∷ [])) + 1) (sym first)
    (subst (λ (z : Entry). 9 ≤ moves (x ∷ z ∷ []) + 2 * (count_by is_wait (x ∷ z ∷ [])) + 1) (sym second) spends) in
    omega (arith, so)
few_turns to why (x ∷ y ∷ z ∷ b) c is spends = absurd cc

pub returns-clause-gives_up : goal.returns-clause-gives_up
returns-clause-gives_up g c = λ to why totals left served.
    let o = served.over in few_turns to why o.before o.behind o.trace_is o.finishes.spends

-- of entries with one move and no wait no front part has more
few_in : (xs b c : List Entry) → xs ≡ b ++ c → moves b + 2 * waits_in b ≤ moves xs + 2 * waits_in xs
few_in xs b c is =
    subst (λ (es : List Entry). moves b + 2 * waits_in b ≤ moves es + 2 * waits_in es) (sym is)
    (rw (moves-append b c, waits-append b c) (omega arith))

pub returns-clause-glances : goal.returns-clause-glances
returns-clause-glances g c = λ to why totals left served.
    let o = served.over in
    let spends = o.finishes.spends in
    let few = few_in (e.Dialled 1 to why ∷ glances 9) o.before o.behind o.trace_is in
    let all : 9 ≤ moves (e.Dialled 1 to why ∷ glances 9) + 2 * waits_in (e.Dialled 1 to why ∷ glances 9) + 1 = omega (arith, few, spends) in
    omega (arith, all)
