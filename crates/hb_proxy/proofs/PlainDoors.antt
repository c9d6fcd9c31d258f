-- At which doors a plain link is accepted, and why its upstream is dialled.
use Rattle.std.proofs.Common.{◌≡◌, ℕ, None, refl, sym, subst}
use Rattle.hb_base.specs.declared.door.Door.{Door}
use Rattle.hb_base.specs.declared.door.Door.TheVariants as door
use Rattle.hb_base.specs.declared.door.Why.{Why}
use Rattle.hb_base.specs.declared.door.Why.TheVariants as whys
use Rattle.hb_captured.specs.Answer.{Aim, straight_to, through, key_of, why_at, why_for}
use Rattle.hb_captured.specs.Captured.{Captured}
use Rattle.hb_captured.specs.Runs.{Captures}
use Rattle.hb_proxy.specs.Owners.{plain_link, relay_of, at_door, dialled_for}

-- a link that is captured at a door is a plain one
pub caught : (d : Door) → Captures d → at_door d ≡ plain_link
caught door.Inbound may = absurd may
caught door.Outbound may = refl
caught door.Plain may = refl

-- what holds of a dial for a link of either door holds of that of a plain link that goes straight
pub dialled_so : (P : Why → Type 0) (l : ℕ) → P (whys.Plain l) → P (whys.Direct l) → (aim : Aim) (d : Door) (why : Why)
    → key_of aim ≡ None → why ≡ why_for aim d l → P why
dialled_so P l plain direct (straight_to to endpoint) d why none is = subst P (sym is) (by d)
  where
    by : (d : Door) → P (why_at d l)
    by door.Inbound = plain
    by door.Outbound = direct
    by door.Plain = plain
dialled_so P l plain direct (through key authority endpoint) d why none is = absurd cc

-- and with one by a gateway of each that fails
pub tried_so : (P : Why → Type 0) (l : ℕ) → P (whys.Plain l) → P (whys.Direct l) → P (whys.Gateway l) → (aim : Aim) (d : Door) (why : Why)
    → why ≡ why_for aim d l → P why
tried_so P l plain direct gateway (straight_to to endpoint) d why is =
    dialled_so P l plain direct (straight_to to endpoint) d why refl is
tried_so P l plain direct gateway (through key authority endpoint) d why is = subst P (sym is) gateway

-- it is that of its upstream
pub relayed : (l : ℕ) (x : Captured) (why : Why) → key_of x.aim ≡ None → why ≡ why_for x.aim x.door l → dialled_for why ≡ relay_of l
relayed l x = dialled_so (λ w. dialled_for w ≡ relay_of l) l refl refl x.aim x.door
