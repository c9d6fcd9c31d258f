use Rattle.std.specs.Prelude.{ℕ, Bool, ◌||◌, nat_lt, nat_le, if◌then◌else◌, List, [], Option, Some, None, refl}
use Rattle.std.specs.Coded.{Coded, code_by, coded×, coded_ℕ, coded_list}
use Rattle.std.specs.Ordering.{nat_cmp}
use Rattle.std.specs.FinMap.{FinMap, code, empty, get, len}
use Rattle.hb_streams.specs.Numbers.{is_even, most_active}
use Rattle.hb_streams.specs.Resets.{is_among}
use Rattle.hb_streams.specs.Sides.{state_with}
use Rattle.hb_streams.specs.declared.role.Role.{Role}
use Rattle.hb_streams.specs.declared.role.Role.TheVariants.{Server, Client}
use Rattle.hb_streams.specs.declared.sides.Sides.{Sides}
use Rattle.hb_streams.specs.declared.state.State.{State}
use Rattle.hb_streams.specs.declared.state.State.TheVariants.{Idle, Closed, Reset}

-- the streams of a connection. All are begun by its client, since nothing is pushed (RFC 9113 section 8.4)
pub record States : Type 0 where
  -- what this end is
  pub role : Role
  -- the sides of the streams that are open or half-closed, by their numbers
  pub active : FinMap nat_cmp Sides
  -- the highest number that was used, 0 before the first
  pub highest : ℕ
  -- the numbers of the streams that this end reset, oldest first, the last 128
  pub resets : List ℕ

-- the states are stored as their fields
abbrev pub states_code : Coded Role → Coded Sides → Coded States
states_code role sides =
    code_by ((Role × FinMap nat_cmp Sides) × (ℕ × List ℕ))
    (coded× (coded× role (code {R = nat_cmp} coded_ℕ sides)) (coded× coded_ℕ (coded_list coded_ℕ)))
    (λ s. ((s.role, s.active), (s.highest, s.resets)))
    (λ p. record { role = p.0.0; active = p.0.1; highest = p.1.0; resets = p.1.1 })
    (λ _. refl)

-- a new connection
abbrev pub fresh : Role → States
fresh role = record { role = role; active = empty; highest = 0; resets = [] }

-- no further stream may be begun
abbrev pub is_full : States → Bool
is_full s = nat_le most_active (len s.active)

-- a stream that is neither open nor half-closed: idle where its number is even, which nobody uses, or above all that
-- were used; else closed, also where its number was passed over (RFC 9113 section 5.1.1)
abbrev pub state_of_others : States → ℕ → State
state_of_others s n =
    if is_even n || nat_lt s.highest n then Idle
    else if is_among s.resets n then Reset
    else Closed

abbrev pub state_by : Option Sides → State → State
state_by (Some sides) other = state_with sides
state_by None other = other

-- the state of a stream (RFC 9113 section 5.1)
abbrev pub state_of : States → ℕ → State
state_of s n = state_by (get s.active n) (state_of_others s n)

abbrev pub last_by : Role → ℕ → ℕ
last_by Server highest = highest
last_by Client highest = 0

-- the last stream that the peer opened, 0 where it opened none: a server's peer opens all of them, a client's none
abbrev pub last_of_peer : States → ℕ
last_of_peer s = last_by s.role s.highest
