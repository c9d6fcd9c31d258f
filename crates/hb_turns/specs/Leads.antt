-- The lead law: behind a look the link that goes first is read first.
use Rattle.std.specs.Prelude.{⊤, ◌≡◌, ◌⊎◌, ℕ, ◌==◌, Bool, true, false, List, [], ◌∷◌, Option, Some, None, Result, IfOk}
use Rattle.std.specs.List.{fold, list_all}
use Rattle.hb_base.specs.declared.note.Note.{Note}
use Rattle.hb_world.specs.Calls.{with_entries}
use Rattle.hb_world.specs.Trace.{AtEach}
use Rattle.hb_world.specs.declared.entry.Entry.{Entry}
use Rattle.hb_world.specs.declared.entry.Entry.TheVariants as e
use Rattle.hb_world.specs.declared.entry.Way.TheVariants as way
use Rattle.hb_ready.specs.declared.link.Link.{Link}
use Rattle.hb_ready.specs.Registry.{kept}
use Rattle.hb_ready.specs.Sight.{known}
use Rattle.hb_turns.specs.Reckons.{is_plain}
use Rattle.hb_turns.specs.Rested.{ReadRests}
use Rattle.hb_turns.specs.Shown.{Shown}
use Rattle.hb_turns.specs.declared.round.Call.{Call}
use Rattle.hb_turns.specs.declared.round.Call.TheVariants as call
use Rattle.hb_turns.specs.declared.run.Run.{Run}

abbrev pub is_look : Entry → Bool
is_look (e.Wait ready how) = true
is_look _ = false

-- the last of these entries is a look: a wait or a glance
abbrev pub ends_in_look : List Entry → Bool
ends_in_look trace = fold (λ (before : Bool) (x : Entry). is_look x) false trace

-- it is a read of the link, whatever came of it
abbrev pub is_read_of : ℕ → Entry → Bool
is_read_of l (e.Came k bytes) = k == l
is_read_of l (e.Ended k) = k == l
is_read_of l (e.Broke k) = k == l
is_read_of l (e.Balked (way.Read k)) = k == l
is_read_of l _ = false

-- it is a read of this link, or nothing may be read on the link
abbrev pub ReadsOrRests : ℕ → (ℕ → Option Link) → Shown → Entry → Type 0
ReadsOrRests l links s x = (is_read_of l x ≡ true) ⊎ ReadRests (links l) l s

-- so it is of the link that goes first, if one does
abbrev pub LeadsOn : Option ℕ → (ℕ → Option Link) → Shown → Entry → Type 0
LeadsOn None links s x = ⊤
LeadsOn (Some l) links s x = ReadsOrRests l links s x

-- a node whose run goes on stands for the entries before, and by it this one may stand behind a look
pub record IsLed {N : Type 0} (stands : List Note → N → List Entry → Type 0) (shown : N → Shown) (before : List Entry) (x : Entry)
    : Type 0 where
  pub notes : List Note
  pub node : N
  pub stands_for : stands notes node before
  pub going : (shown node).ends_for ≡ None
  pub leads : LeadsOn (shown node).first (λ l. known l before) (shown node) x

-- behind a look another look, a tick or a close may stand; else the first entry is such a read, where one may be made
abbrev pub LedAt : {N : Type 0} → (List Note → N → List Entry → Type 0) → (N → Shown) → List Entry → Entry → Type 0
LedAt stands shown before (e.Wait ready how) = ⊤
LedAt stands shown before e.Tick = ⊤
LedAt stands shown before (e.Closed l cause) = ⊤
LedAt stands shown before x = ends_in_look before ≡ true → IsLed stands shown before x

abbrev pub LeadLaw : {N : Type 0} → (List Note → N → List Entry → Type 0) → (N → Shown) → List Entry → Type 0
LeadLaw stands shown trace = AtEach (LedAt stands shown) trace

-- and no look is the last of these entries
abbrev pub NotBehindLook : {N : Type 0} → (List Note → N → List Entry → Type 0) → (N → Shown) → List Entry → Type 0
NotBehindLook stands shown trace = (ends_in_look trace ≡ false) × LeadLaw stands shown trace

-- what is so of the first entry, or where there is none
abbrev pub HeadIs : Type 0 → (Entry → Type 0) → List Entry → Type 0
HeadIs none P [] = none
HeadIs none P (x ∷ xs) = P x

-- entries were added, where the trace is told: no listen, no wait and no tick; and this is so of the first of them, or where there is none
pub record Heads (none : Type 0) (P : Entry → Type 0) (before behind : Option (List Entry)) : Type 0 where
  pub more : List Entry
  pub grows : behind ≡ with_entries more before
  pub plain : list_all is_plain more ≡ true
  pub head : HeadIs none P more

-- what may be read on the link where this run began is what is read first, or nothing may be
abbrev pub ReadsFirst : {N : Type 0} → Type 0 → (N → Shown) → Run N → ℕ → Option (List Entry) → Option (List Entry) → Type 0
ReadsFirst none shown run l before behind =
    Heads none (ReadsOrRests l (kept run.records.links).links (shown run.node)) before behind

-- such is a call, where it is a read; without an entry nothing may be read there, but where memory lacked
abbrev pub CallReads : {A E N : Type 0} → (N → Shown) → Result A E → Run N → Call → Option (List Entry) → Option (List Entry) → Type 0
CallReads shown result run (call.Read l) before behind =
    ReadsFirst (IfOk result (λ x. ReadRests ((kept run.records.links).links l) l (shown run.node))) shown run l before behind
CallReads shown result run _ before behind = ⊤
