-- What the event loop sees of a node.
use Rattle.std.specs.Prelude.{⊤, ◌≡◌, ◌⊎◌, ◌≤◌, ◌<◌, ℕ, ◌+◌, Bool, true, false, List, [], ◌∷◌, ◌++◌, length, take, Option, Some, None}
use Rattle.std.specs.List.{list_all}
use Rattle.hb_base.specs.declared.cause.Cause.{Cause}
use Rattle.hb_base.specs.declared.door.Why.{Why}
use Rattle.hb_base.specs.declared.note.Note.{Note}
use Rattle.hb_base.specs.declared.target.Target.{Target}
use Rattle.hb_world.specs.ScriptAnswers.{is_listen}
use Rattle.hb_world.specs.Trace.{births, lives, was_shut}
use Rattle.hb_world.specs.declared.entry.Entry.{Entry}
use Rattle.hb_world.specs.declared.entry.Entry.TheVariants as e
use Rattle.hb_world.specs.declared.entry.Way.TheVariants as way
use Rattle.hb_ready.specs.Sight.{is_open}
use Rattle.hb_world.specs.declared.act.Act.{Act}
use Rattle.hb_world.specs.declared.act.Act.TheVariants as act

pub record Shown : Type 0 where
  -- how many bytes may be read on a link, and the bytes that are to be written on it
  pub wants : ℕ → ℕ
  pub output : ℕ → List ℕ
  -- a write on the link goes before the acts that are due
  pub last_words : ℕ → Bool
  -- no act is due; none is but a dial
  pub idle : Bool
  pub none_closes : Bool
  -- the dial that was given, until its answer is told
  pub dials : Option (Target × Why)
  -- the link stirred, and that wasn't told
  pub stirs : ℕ → Bool
  -- the link that is read in front of all others, if one lives
  pub first : Option ℕ
  -- the notes that wait to be taken, in order
  pub noted : List Note
  -- the cause for which links are closed, once the run is to end
  pub ends_for : Option Cause

-- Of each link that lives behind a trace: where it has something to be read, or to be written, and had nothing before, it stirred; and
-- one that stirred still does. The run is to end where it was to
pub record Stirs (trace : List Entry) (old new : Shown) : Type 0 where
  pub kept : (l : ℕ) → lives l trace ≡ true → old.stirs l ≡ true → new.stirs l ≡ true
  pub reads : (l : ℕ) → lives l trace ≡ true → old.wants l ≡ 0 → (new.wants l ≡ 0) ⊎ (new.stirs l ≡ true)
  pub writes : (l : ℕ) → lives l trace ≡ true → old.output l ≡ [] → (new.output l ≡ []) ⊎ (new.stirs l ≡ true)
  pub ends_for : new.ends_for ≡ old.ends_for

-- the same is to be done
pub record IsSame (old new : Shown) : Type 0 where
  pub wants : (l : ℕ) → new.wants l ≡ old.wants l
  pub output : (l : ℕ) → new.output l ≡ old.output l
  pub idle : new.idle ≡ old.idle
  pub none_closes : new.none_closes ≡ old.none_closes
  pub ends_for : new.ends_for ≡ old.ends_for

-- a link that stirred was told, or none that lives behind the trace is left that did
pub record Hears (trace : List Entry) (told : Option ℕ) (old new : Shown) : Type 0 where
  pub kept : (l : ℕ) → lives l trace ≡ true → old.stirs l ≡ true → (new.stirs l ≡ true) ⊎ (told ≡ Some l)

-- a part of the bytes that are to be written, with the first; none only where none is
pub record IsFront (part output : List ℕ) : Type 0 where
  pub rest : List ℕ
  pub front : output ≡ part ++ rest
  pub some : length part ≡ 0 → output ≡ []

-- the run goes on, and no act is due; or a write on this link goes before
abbrev pub IsFree : Shown → Type 0
IsFree s = (s.ends_for ≡ None) × (s.idle ≡ true)

abbrev pub MayWrite : Shown → ℕ → Type 0
MayWrite s l = (s.ends_for ≡ None) × ((s.idle ≡ true) ⊎ (s.last_words l ≡ true))

-- a link that lives is open, or isn't
abbrev pub LivesOpen : Bool → ℕ → List Entry → Type 0
LivesOpen opens l before = (lives l before ≡ true) × (is_open l before ≡ opens)

-- Behind these entries the node allows this one. All but the answers to acts, and the one write that goes before them, come only
-- where no act is due, and a call that moved nothing only where it may be made; a listen comes only behind listens
abbrev pub MayCome : Shown → List Entry → Entry → Type 0
MayCome s before (e.Accepted l door) = IsFree s × (l ≡ births before + 1)
MayCome s before (e.Dialled l to why) = (s.dials ≡ Some (to, why)) × (l ≡ births before + 1)
MayCome s before (e.DialFailed to why) = s.dials ≡ Some (to, why)
MayCome s before (e.Opened l) = IsFree s × LivesOpen false l before
MayCome s before (e.Came l bytes) = IsFree s × LivesOpen true l before × (0 < length bytes) × (length bytes ≤ s.wants l)
MayCome s before (e.Ended l) = IsFree s × LivesOpen true l before × (0 < s.wants l)
MayCome s before (e.Broke l) = MayWrite s l × (lives l before ≡ true)
MayCome s before (e.Went l bytes) =
    MayWrite s l × LivesOpen true l before × (n : ℕ) × (0 < n) × (n ≤ length (s.output l)) × (bytes ≡ take n (s.output l))
MayCome s before (e.Balked (way.Finish l)) = IsFree s × LivesOpen false l before
MayCome s before (e.Balked (way.Read l)) = IsFree s × LivesOpen true l before × (0 < s.wants l)
MayCome s before (e.Balked (way.Write l)) = MayWrite s l × LivesOpen true l before × (0 < length (s.output l))
MayCome s before (e.Balked (way.Look l)) = IsFree s × LivesOpen true l before
MayCome s before (e.Balked (way.Listen door at listening)) = list_all is_listen before ≡ true
MayCome s before (e.Balked (way.Accept door)) = IsFree s
MayCome s before (e.Wait ready how) = IsFree s
MayCome s before e.Tick = IsFree s
MayCome s before (e.Shut l) = ⊥
MayCome s before (e.Closed l cause) = ⊥

-- A node that was told this entry: for each trace that it stood for, and at whose end the entry may come, it stands for that trace with
-- the entry, the same notes were taken, and what may be done now stirred
abbrev pub Tells : {N : Type 0} → (List Note → N → List Entry → Type 0) → (N → Shown) → Entry → N → N → Type 0
Tells stands shown x old new = (notes : List Note) (trace : List Entry) → stands notes old trace → MayCome (shown old) trace x
    → stands notes new (trace ++ x ∷ []) × Stirs (trace ++ x ∷ []) (shown old) (shown new)

-- a node that stands for the traces that it stood for
abbrev pub StandsAs : {N : Type 0} → (List Note → N → List Entry → Type 0) → N → N → Type 0
StandsAs stands old new = (notes : List Note) (trace : List Entry) → stands notes old trace → stands notes new trace

-- An act that a node gave. A Shut or a Close is one that may be made, and the node stands for it already; a dial waits for its answer
abbrev pub Acts : {N : Type 0} → (List Note → N → List Entry → Type 0) → (N → Shown) → Option Act → N → N → Type 0
Acts stands shown None old new = (notes : List Note) (trace : List Entry) → stands notes old trace
    → stands notes new trace × Stirs trace (shown old) (shown new)
Acts stands shown (Some (act.Dial to why)) old new =
    ((shown new).dials ≡ Some (to, why))
    × ((notes : List Note) (trace : List Entry) → stands notes old trace → stands notes new trace × Stirs trace (shown old) (shown new))
Acts stands shown (Some (act.Shut l)) old new = (notes : List Note) (trace : List Entry) → stands notes old trace
    → (lives l trace ≡ true) × (was_shut l trace ≡ false) × stands notes new (trace ++ e.Shut l ∷ [])
    × Stirs (trace ++ e.Shut l ∷ []) (shown old) (shown new)
Acts stands shown (Some (act.Close l cause)) old new = (notes : List Note) (trace : List Entry) → stands notes old trace
    → (lives l trace ≡ true) × stands notes new (trace ++ e.Closed l cause ∷ [])
    × Stirs (trace ++ e.Closed l cause ∷ []) (shown old) (shown new)

-- once the run is to end each act closes a link for the cause of that end
abbrev pub ActsFor : Option Cause → Option Act → Type 0
ActsFor None a = ⊤
ActsFor (Some cause) None = ⊤
ActsFor (Some cause) (Some (act.Close l why)) = why ≡ cause
ActsFor (Some cause) (Some _) = ⊥

-- a node that stands for a trace stands for one in which no link lives
abbrev pub StandsForNone : {N : Type 0} → (List Note → N → List Entry → Type 0) → N → Type 0
StandsForNone stands n = (notes : List Note) (trace : List Entry) → stands notes n trace → (l : ℕ) → lives l trace ≡ false

-- the run is to end: where no shut and no close was due, the node stands for the traces that it stood for
abbrev pub Stops : {N : Type 0} → (List Note → N → List Entry → Type 0) → (N → Shown) → N → N → Type 0
Stops stands shown old new = (shown old).ends_for ≡ None → (shown old).none_closes ≡ true → StandsAs stands old new

-- what came of a dial
abbrev pub dial_entry : Target → Why → Option ℕ → Entry
dial_entry to why None = e.DialFailed to why
dial_entry to why (Some l) = e.Dialled l to why

-- a call that moved nothing, or a wait, where it may come
abbrev pub MovesNothing : Shown → List Entry → Entry → Type 0
MovesNothing s before (e.Balked w) = MayCome s before (e.Balked w)
MovesNothing s before (e.Wait ready how) = MayCome s before (e.Wait ready how)
MovesNothing s before _ = ⊥
