-- What the windows of a stream allow once a call answered.
use Rattle.std.proofs.Common.{◌≡◌, ◌≤◌, ℕ, true, Option, Some, None, Ok, Err, is_some, IfSome, refl, ap, sym, ◌∙◌, subst, arith, rules, pos, ◌+ℤ◌}
use Rattle.std.specs.Prelude.{int_lt}
use Rattle.std.specs.FinMap.{get}
use Rattle.std.proofs.lemmas.Int.{ints}
use Rattle.hb_map.specs.Keyed.{written}
use Rattle.hb_map.proofs.Laws.{written_here}
use Rattle.hb_frames.specs.Numbers.{flow_control_error, largest}
use Rattle.hb_windows.specs.declared.overrun.Overrun.{Overrun}
use Rattle.hb_flow.specs.Windows.{Windows, counted, taken}
use Rattle.hb_flow.specs.Flows.{Flows, TakesOn, GrantsOn, changed_by, taking_by}
use Rattle.hb_flow.specs.Sizes.{unbegun_on}
use Rattle.hb_conn.specs.Faults.{broken}
use Rattle.hb_conn.specs.Windows.{stream_grows, unbegun}
use Rattle.hb_conn.specs.declared.machine.Core.{Core}

-- so many octets on the stream aren't used up yet
abbrev pub AreKept : ℕ → ℕ → Flows → Type 0
AreKept s n f = IfSome (get f.streams s) (λ (w : Windows). n ≤ w.taking.kept)

kept_by : (f new : Flows) (s k n : ℕ) (o : Option Windows) → get f.streams s ≡ o → TakesOn f new (Ok tt) s k o → n ≤ k → AreKept s n new
kept_by f new s k n None is takes within = subst (AreKept s n) (sym takes.1) (rw is tt)
kept_by f new s k n (Some w) is takes within =
    let change : Windows → Windows = taking_by (λ t. taken t k) in
    let there : get (written f.streams s (change w)) s ≡ Some (change w) = written_here f.streams s (change w) (ap is_some is) in
    let now : AreKept s n (record f { streams = written f.streams s (change w) }) = rw there (omega (arith, within)) in
    subst (AreKept s n) (sym (takes.1 ∙ ap (changed_by f s change) is)) now

-- DATA that came isn't used up yet
pub data_is_kept : (f new : Flows) (s k n : ℕ) → TakesOn f new (Ok tt) s k (get f.streams s) → n ≤ k → AreKept s n new
data_is_kept f new s k n takes within = kept_by f new s k n (get f.streams s) refl takes within

refused_by : (c : Core) (new : Flows) (e : Overrun) (s n : ℕ) (o : Option Windows)
    → GrantsOn c.flow new (Err e) s n (unbegun_on (unbegun c).stream (unbegun c).size s) o
    → stream_grows c s n o ≡ broken (record c { flow = new }) s flow_control_error
refused_by c new e s n None grants = absurd (search rules)
refused_by c new e s n (Some w) grants =
    let sum = counted w.sending (unbegun_on (unbegun c).stream (unbegun c).size s) +ℤ pos n in
    let test : int_lt (pos largest) sum ≡ true = grind (arith, ints) in
    rw test (ap (λ (f : Flows). broken (record c { flow = f }) s flow_control_error) (sym grants.1))

-- an increment that a stream's window refuses changes nothing
pub increment_is_refused : (c : Core) (new : Flows) (e : Overrun) (s n : ℕ)
    → GrantsOn c.flow new (Err e) s n (unbegun_on (unbegun c).stream (unbegun c).size s) (get c.flow.streams s)
    → stream_grows c s n (get c.flow.streams s) ≡ broken (record c { flow = new }) s flow_control_error
increment_is_refused c new e s n grants = refused_by c new e s n (get c.flow.streams s) grants
