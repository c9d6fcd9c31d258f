-- What the loop holds, and the trace that it stands for.
use Rattle.std.specs.Prelude.{◌≡◌, ◌⊎◌, ℕ, ◌+◌, ◌||◌, if◌then◌else◌, true, false, List, [], ◌++◌, Option, None, IfSome, Result, Ok, Err}
use Rattle.std.specs.Option.{option_to_list}
use Rattle.hb_base.specs.declared.door.Door.{Door}
use Rattle.hb_world.specs.Trace.{births, lives}
use Rattle.hb_world.specs.declared.entry.Entry.TheVariants as e
use Rattle.hb_base.specs.declared.note.Note.{Note}
use Rattle.hb_world.specs.declared.entry.Entry.{Entry}
use Rattle.hb_ready.specs.Awake.{AwakeLaw}
use Rattle.hb_ready.specs.Kept.{Kept, Follows, has}
use Rattle.hb_ready.specs.Numbers.{Numbered}
use Rattle.hb_ready.specs.Registry.{kept}
use Rattle.hb_ready.specs.Sight.{known, asked, asked_at, asked_behind}
use Rattle.hb_turns.specs.Notes.{AreTaken}
use Rattle.hb_turns.specs.Ends.{was_wanting, is_close_for_lack}
use Rattle.hb_turns.specs.Settled.{Rests, SettledLaw}
use Rattle.hb_turns.specs.Shown.{Shown, MayCome}
use Rattle.hb_turns.specs.Totals.{counted, revokes, revoked}
use Rattle.hb_turns.specs.declared.run.Records.{Records}
use Rattle.hb_turns.specs.declared.run.Run.{Run}

-- what is known is what a trace tells, and the trace obeys the laws
pub record Obeys {N : Type 0} (stands : List Note → N → List Entry → Type 0) (shown : N → Shown) (r : Records)
    (trace : List Entry) : Type 0 where
  pub links : (l : ℕ) → (kept r.links).links l ≡ known l trace
  pub doors : (d : Door) → asked_at r.asked d ≡ asked d trace
  pub numbered : Numbered trace
  pub births_are : r.births ≡ births trace
  pub wanting_is : r.wanting ≡ was_wanting trace
  pub revoked_are : r.revoked ≡ counted (revoked trace)
  pub awake : AwakeLaw trace
  pub settled : SettledLaw stands shown trace

-- and the node stands for the trace, once the notes were taken that were
pub record Matches {N : Type 0} (stands : List Note → N → List Entry → Type 0) (shown : N → Shown) (run : Run N)
    (trace : List Entry) : Type 0 where
  pub notes : List Note
  pub node : stands notes run.node trace
  pub taken_are : AreTaken run.taken notes
  pub obeys : Obeys stands shown run.records trace

-- each link is on the list, or it stirred and the loop wasn't told, or it rests
abbrev pub WatchedBy : Kept → Shown → Type 0
WatchedBy k s = (l : ℕ) → (has k.listed l ≡ true) ⊎ ((s.stirs l ≡ true) ⊎ Rests (k.links l) l s)

abbrev pub Watched : {N : Type 0} → (N → Shown) → Run N → Type 0
Watched shown run = WatchedBy (kept run.records.links) (shown run.node)

-- and the run goes on, with its links watched
pub record Stands {N : Type 0} (stands : List Note → N → List Entry → Type 0) (shown : N → Shown) (run : Run N)
    (trace : List Entry) : Type 0 where
  pub matches : Matches stands shown run trace
  pub watched : Watched shown run
  pub going : (shown run.node).ends_for ≡ None

-- what is known and the node match the trace, and no link lives
pub record StandsAlone {N : Type 0} (stands : List Note → N → List Entry → Type 0) (shown : N → Shown) (run : Run N)
    (trace : List Entry) : Type 0 where
  pub matches : Matches stands shown run trace
  pub none : (l : ℕ) → lives l trace ≡ false

-- the number of the link that was born last
abbrev pub births_behind : ℕ → Entry → ℕ
births_behind n (e.Accepted l door) = l
births_behind n (e.Dialled l to why) = l
births_behind n _ = n

-- how many dialled links were revoked
abbrev pub revoked_behind : Records → Entry → ℕ
revoked_behind r x = if revokes (kept r.links).links x then counted (r.revoked + 1) else r.revoked

-- what is known follows an entry
pub record Tracks (old new : Records) (x : Entry) : Type 0 where
  pub links : Follows (kept old.links) (kept new.links) x
  pub doors : (d : Door) → asked_at new.asked d ≡ asked_behind d (asked_at old.asked d) x
  pub births_are : new.births ≡ births_behind old.births x
  pub wanting_is : new.wanting ≡ (is_close_for_lack x || old.wanting)
  pub revoked_are : new.revoked ≡ revoked_behind old x

-- a node whose run goes on stands for the trace, or for all but its last entry, which it allows behind them
pub record StoodLast {N : Type 0} (stands : List Note → N → List Entry → Type 0) (shown : N → Shown) (trace : List Entry) : Type 0 where
  pub front : List Entry
  pub last : Option Entry
  pub trace_is : trace ≡ front ++ option_to_list last
  pub notes : List Note
  pub node : N
  pub stands_for : stands notes node front
  pub going : (shown node).ends_for ≡ None
  pub allows : IfSome last (MayCome (shown node) front)

-- memory lacked: what is known is what the trace tells, and a node stood for it, or for all but its last entry
abbrev pub Lacks : {N : Type 0} → (List Note → N → List Entry → Type 0) → (N → Shown) → Records → List Entry → Type 0
Lacks stands shown r trace = Obeys stands shown r trace × StoodLast stands shown trace

-- the run goes on, or memory lacked
abbrev pub Left : {A E N : Type 0} → (List Note → N → List Entry → Type 0) → (N → Shown) → Result A E → Run N → List Entry → Type 0
Left stands shown (Ok x) run trace = Stands stands shown run trace
Left stands shown (Err why) run trace = Lacks stands shown run.records trace

-- where the world tells its trace, what stood for it stands for it again
abbrev pub Keeps : {A E N : Type 0} → (List Note → N → List Entry → Type 0) → (N → Shown) → Result A E → Run N → Option (List Entry) → Run N
    → Option (List Entry) → Type 0
Keeps stands shown result old before new behind = IfSome before (Stands stands shown old) → IfSome behind (Left stands shown result new)

-- nothing is due, no link stirred that the loop wasn't told, and each note was taken
pub record IsIdle (s : Shown) : Type 0 where
  pub idle : s.idle ≡ true
  pub none_closes : s.none_closes ≡ true
  pub stirs : (l : ℕ) → s.stirs l ≡ false
  pub noted : s.noted ≡ []
