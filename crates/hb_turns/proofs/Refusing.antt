-- How a run that stopped ended, in small traces.
use Rattle.std.proofs.Common.{◌≡◌, ◌≤◌, ℕ, List, [], ◌∷◌, ◌++◌, Option, Some, None, IfSome, ap, sym, ◌∙◌, subst, append_assoc}
use Rattle.std.specs.List.{All}
use Rattle.std.specs.Option.{option_to_list}
use Rattle.hb_base.specs.declared.cause.Cause.TheVariants as cause
use Rattle.hb_base.specs.declared.note.Note.{Note}
use Rattle.hb_world.specs.declared.entry.Entry.{Entry}
use Rattle.hb_turns.specs.Ends.{ClosesFor, RunsOn, end_by, waits}
use Rattle.hb_turns.specs.Listens.{given, BeginsWith}
use Rattle.hb_turns.specs.Served.{IsOver}
use Rattle.hb_turns.specs.Shown.{Shown, MayCome}
use Rattle.hb_turns.specs.Stands.{StoodLast}
use Rattle.hb_turns.specs.RefusedRuns.{NoneBeginsWith}
use Rattle.hb_turns.specs.declared.served.ServeEnd.{ServeEnd}
use Rattle.hb_turns.specs.declared.served.ServeEnd.TheVariants as ends
use Rattle.hb_turns.specs.declared.words.ServeWords.{ServeWords}

-- one of its entries ended it, and links are closed behind
pub record StopsAmid (words : ServeWords) (trace : List Entry) : Type 0 where
  pub before : List Entry
  pub last : Entry
  pub behind : List Entry
  pub trace_is : trace ≡ before ++ last ∷ behind
  pub runs_on : RunsOn words.ticks before
  pub ended : end_by words.ticks before last ≡ Some ends.Stopped
  pub closes : All (ClosesFor cause.Stopped) behind
  pub few_waits : waits (before ++ last ∷ []) ≤ words.turns
  pub begins : BeginsWith (given words.doors) ends.Stopped (before ++ last ∷ [])

pub stops_amid : {N : Type 0} (stands : List Note → N → List Entry → Type 0) (shown : N → Shown) (words : ServeWords) (trace : List Entry)
    → IsOver stands shown words ends.Stopped trace → StopsAmid words trace
stops_amid stands shown words trace o =
    let l = o.finishes.ends_as in
    record {
      before = l.before;
      last = l.last;
      behind = o.behind;
      trace_is = o.trace_is ∙ ap (λ (es : List Entry). es ++ o.behind) l.trace_is ∙ append_assoc l.before (l.last ∷ []) o.behind;
      runs_on = l.runs_on;
      ended = l.ends;
      closes = o.closes;
      few_waits = subst (λ (es : List Entry). waits es ≤ words.turns) l.trace_is o.finishes.few_waits;
      begins = subst (λ (es : List Entry). BeginsWith (given words.doors) ends.Stopped es) l.trace_is o.finishes.begins;
    }

-- where no node stands for a trace that begins so, that entry is all, and a node allows it at the start
pub lacks_first : {N : Type 0} (stands : List Note → N → List Entry → Type 0) (shown : N → Shown) (x : Entry) (more : List Entry)
    → NoneBeginsWith stands shown x → StoodLast stands shown (x ∷ more)
    → (more ≡ []) × (notes : List Note) × (n : N) × stands notes n [] × MayCome (shown n) [] x
lacks_first {N} stands shown x more none s =
    by s.front s.last s.trace_is s.stands_for s.allows
  where
    by : (front : List Entry) (last : Option Entry) → x ∷ more ≡ front ++ option_to_list last → stands s.notes s.node front
        → IfSome last (MayCome (shown s.node) front)
        → (more ≡ []) × (notes : List Note) × (n : N) × stands notes n [] × MayCome (shown n) [] x
    by [] None is had may = absurd cc
    by [] (Some y) is had may =
        let same : x ≡ y = cc in
        let all : more ≡ [] = cc in
        (all, s.notes, s.node, had, subst (λ (z : Entry). MayCome (shown s.node) [] z) (sym same) may)
    by (y ∷ front) last is had may =
        let same : x ≡ y = cc in
        absurd (none s.notes s.node front (subst (λ (z : Entry). stands s.notes s.node (z ∷ front)) (sym same) had))

-- this entry doesn't end it
pub ends_not : (stated : Option ℕ) (before : List Entry) (x y : Entry) → x ≡ y → end_by stated before x ≡ None
    → end_by stated before y ≡ Some ends.Stopped → ⊥
ends_not stated before x y same on is =
    let it : end_by stated before x ≡ Some ends.Stopped = subst (λ (z : Entry). end_by stated before z ≡ Some ends.Stopped) (sym same) is in
    cc

abbrev pub no_end : Option ServeEnd
no_end = None
