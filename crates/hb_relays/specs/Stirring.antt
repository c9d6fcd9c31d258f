-- Which numbers stir: of links on which more may be read, or is to be written, than when that was told last.
use Rattle.std.specs.Prelude.{◌≡◌, ◌≢◌, ◌⊎◌, ℕ, ◌||◌, Bool, true, false, [], Option, Some, None}
use Rattle.std.specs.FinMap.{get}
use Rattle.hb_gate.specs.declared.gate.Gate.{Gate}
use Rattle.hb_model.specs.declared.config.NodeConfig.{NodeConfig}
use Rattle.hb_proxy.specs.Machine.{Outward}
use Rattle.hb_relay.specs.declared.relay.Relay.{Relay}
use Rattle.hb_world.specs.declared.act.Act.{Act}
use Rattle.hb_world.specs.declared.act.Act.TheVariants as act
use Rattle.hb_relays.specs.Calls.{IsPresent, has_of, wants_of, held_of}
use Rattle.hb_relays.specs.Shows.{ShowsRelays}
use Rattle.hb_relays.specs.Touched.{is_at, is_touched}
use Rattle.hb_relays.specs.declared.relays.Relays.{Relays}

-- the link whose upstream a number is, else the number itself
abbrev pub owner_of : Option ℕ → ℕ → ℕ
owner_of None n = n
owner_of (Some l) n = l

-- a link to a gateway that is kept was touched
abbrev pub gate_stirs_in : Relays → Option Gate → ℕ → Bool
gate_stirs_in k None n = false
gate_stirs_in k (Some gate) n = is_touched k.gate_stirs n

abbrev pub own_stirs : Relays → Option Relay → ℕ → Bool
own_stirs k (Some relay) n = is_touched k.stirs n
own_stirs k None n = gate_stirs_in k (get k.gates n) n

-- a number stirs: its link was touched, or it is the upstream that is left to be told
abbrev pub stirs_by : Relays → Option ℕ → ℕ → Bool
stirs_by k None n = own_stirs k (get k.relays n) n
stirs_by k (Some l) n = is_touched k.stirs l || is_at k.left l

abbrev pub stirs_at : Relays → ℕ → Bool
stirs_at k n = stirs_by k (get k.ups n) n

-- One that stirred still does. One that has something to be read, or to be written, and had nothing, does; and one that is of a link now,
-- and wasn't. No other one is of a link where it wasn't, or isn't where it was
pub record StirsAt (n : ℕ) (old new : Relays) : Type 0 where
  pub has : (has_of new n ≡ has_of old n) ⊎ ((has_of new n ≡ true) × (stirs_at new n ≡ true))
  pub kept : stirs_at old n ≡ true → stirs_at new n ≡ true
  pub reads : wants_of old n ≡ 0 → (wants_of new n ≡ 0) ⊎ (stirs_at new n ≡ true)
  pub writes : held_of old n ≡ [] → (held_of new n ≡ []) ⊎ (stirs_at new n ≡ true)

abbrev pub Stirs : Relays → Relays → Type 0
Stirs old new = (n : ℕ) → StirsAt n old new

-- each but that of the link that an act closes
abbrev pub closed_in : Option Act → Option ℕ
closed_in (Some (act.Close u cause)) = Some u
closed_in due = None

abbrev pub StirsBut : Option ℕ → Relays → Relays → Type 0
StirsBut closed old new = (n : ℕ) → closed ≢ Some n → StirsAt n old new

-- THEY ARE TOLD

-- one that stirred still does, or was told
abbrev pub Hears : Option ℕ → Relays → Relays → Type 0
Hears told old new =
    (g : NodeConfig) (x : Outward) → ShowsRelays g old x
    → ShowsRelays g new x × ((n : ℕ) → IsPresent x n → stirs_at old n ≡ true → (stirs_at new n ≡ true) ⊎ (told ≡ Some n))

-- nothing else changes
abbrev pub OnlyHears : Relays → Relays → Type 0
OnlyHears old new = new ≡ record old { stirs = new.stirs; left = new.left; gate_stirs = new.gate_stirs }
