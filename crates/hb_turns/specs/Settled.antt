-- The settled law: in front of a wait nothing is left to be done but what sleeps.
use Rattle.std.specs.Prelude.{⊤, ◌≡◌, ◌⊎◌, ℕ, Bool, true, false, List, [], Option, Some, None}
use Rattle.hb_base.specs.declared.door.Door.{Door}
use Rattle.hb_base.specs.declared.note.Note.{Note}
use Rattle.hb_world.specs.declared.entry.Entry.{Entry}
use Rattle.hb_world.specs.declared.entry.Entry.TheVariants as e
use Rattle.hb_world.specs.Trace.{AtEach, is_waited}
use Rattle.hb_ready.specs.declared.link.Link.{Link}
use Rattle.hb_ready.specs.Sight.{asked, known}
use Rattle.hb_turns.specs.Shown.{Shown}

-- An open link is asleep for reading, or nothing may be read on it; it is asleep for writing, or nothing is to be written; and one that
-- ended is asleep for looks. One that isn't open is asleep for finishing
abbrev pub RestsBy : Bool → Link → ℕ → Shown → Type 0
RestsBy true k l s =
    ((k.read_sleeps ≡ true) ⊎ (s.wants l ≡ 0)) × ((k.write_sleeps ≡ true) ⊎ (s.output l ≡ []))
    × ((k.has_ended ≡ false) ⊎ (k.look_sleeps ≡ true))
RestsBy false k l s = k.finish_sleeps ≡ true

-- a link that lives rests
abbrev pub Rests : Option Link → ℕ → Shown → Type 0
Rests None l s = ⊤
Rests (Some k) l s = RestsBy k.is_open k l s

-- A node whose run goes on stands for these entries, and no act is due; no accept may give a link at a door, and each link that lives rests
pub record IsSettled {N : Type 0} (stands : List Note → N → List Entry → Type 0) (shown : N → Shown) (trace : List Entry) : Type 0 where
  pub notes : List Note
  pub node : N
  pub stands_for : stands notes node trace
  pub going : (shown node).ends_for ≡ None
  pub idle : (shown node).idle ≡ true
  pub doors : (d : Door) → asked d trace ≡ false
  pub links : (l : ℕ) → Rests (known l trace) l (shown node)

abbrev pub SettledAt : {N : Type 0} → (List Note → N → List Entry → Type 0) → (N → Shown) → List Entry → Entry → Type 0
SettledAt stands shown before (e.Wait ready how) = is_waited how ≡ true → IsSettled stands shown before
SettledAt stands shown before _ = ⊤

-- at each wait
abbrev pub SettledLaw : {N : Type 0} → (List Note → N → List Entry → Type 0) → (N → Shown) → List Entry → Type 0
SettledLaw stands shown trace = AtEach (SettledAt stands shown) trace
