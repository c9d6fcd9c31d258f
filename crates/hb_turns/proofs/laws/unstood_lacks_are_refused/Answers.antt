use Rattle.std.proofs.Common.{◌≡◌, List, [], ◌∷◌, ◌++◌, Some, sym, subst}
use Rattle.std.specs.List.{All}
use Rattle.std.proofs.lemmas.List.Elements.{All-head}
use Rattle.hb_base.specs.declared.cause.Cause.TheVariants as cause
use Rattle.hb_base.specs.declared.door.Why.{Why}
use Rattle.hb_base.specs.declared.note.Note.{Note}
use Rattle.hb_base.specs.declared.target.Target.{Target}
use Rattle.hb_world.specs.declared.entry.Entry.{Entry}
use Rattle.hb_world.specs.declared.entry.Entry.TheVariants as e
use Rattle.hb_turns.specs.Ends.{ClosesFor}
use Rattle.hb_turns.specs.RefusedRuns.{NoneBeginsWith, lack_behind_dial, lack_behind_open}
use Rattle.hb_turns.specs.Shown.{Shown}
use Rattle.hb_turns.specs.Stands.{StoodLast}
use Rattle.hb_turns.proofs.Refusing.{lacks_first}
use Rattle.hb_turns.proofs.laws.unstood_lacks_are_refused.Goals as goal

-- an entry that closes nothing isn't the first of the closes
no_close : (x : Entry) (es more : List Entry) → x ∷ es ≡ more → All (ClosesFor cause.NoMemory) more → ClosesFor cause.NoMemory x
no_close x es more is closes =
    All-head (ClosesFor cause.NoMemory) x es (subst (λ (xs : List Entry). All (ClosesFor cause.NoMemory) xs) (sym is) closes)

module _ {N : Type 0} (stands : List Note → N → List Entry → Type 0) (shown : N → Shown) (to : Target) (why : Why)
    (none : NoneBeginsWith stands shown (e.Dialled 1 to why)) where
  twice : (before behind : List Entry) → lack_behind_open to why ≡ before ++ behind → All (ClosesFor cause.NoMemory) behind
      → StoodLast stands shown before → ⊥
  twice [] behind is closes stood = no_close (e.Dialled 1 to why) (e.Opened 1 ∷ e.Closed 1 cause.NoMemory ∷ []) behind is closes
  twice (x ∷ []) behind is closes stood =
      let same : e.Opened 1 ∷ e.Closed 1 cause.NoMemory ∷ [] ≡ behind = cc in
      no_close (e.Opened 1) (e.Closed 1 cause.NoMemory ∷ []) behind same closes
  twice (x ∷ y ∷ before) behind is closes stood =
      let first : e.Dialled 1 to why ≡ x = cc in
      let all = lacks_first stands shown (e.Dialled 1 to why) (y ∷ before) none
      (subst (λ (z : Entry). StoodLast stands shown (z ∷ y ∷ before)) (sym first) stood) in
      let empty : y ∷ before ≡ [] = all.0 in
      absurd cc

  unallowed : ((notes : List Note) (n : N) → stands notes n [] → (shown n).dials ≡ Some (to, why) → ⊥) → (before behind : List Entry)
      → lack_behind_dial to why ≡ before ++ behind → All (ClosesFor cause.NoMemory) behind → StoodLast stands shown before → ⊥
  unallowed dials [] behind is closes stood = no_close (e.Dialled 1 to why) (e.Closed 1 cause.NoMemory ∷ []) behind is closes
  unallowed dials (x ∷ before) behind is closes stood =
      let first : e.Dialled 1 to why ≡ x = cc in
      let all = lacks_first stands shown (e.Dialled 1 to why) before none
      (subst (λ (z : Entry). StoodLast stands shown (z ∷ before)) (sym first) stood) in
      dials all.1 all.2 all.3 all.4.0

pub returns-clause-twice : goal.returns-clause-twice
returns-clause-twice g c = λ to why totals left none served.
    let o = served.over in twice g.N.Node.stands g.N.Node.shown to why none o.before o.behind o.trace_is o.closes o.stood_for

pub returns-clause-unallowed : goal.returns-clause-unallowed
returns-clause-unallowed g c = λ to why totals left none dials served.
    let o = served.over in
    unallowed g.N.Node.stands g.N.Node.shown to why none dials o.before o.behind o.trace_is o.closes o.stood_for
