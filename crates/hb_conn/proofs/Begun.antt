-- A stream that this end has begun.
use Rattle.std.proofs.Common.{◌≡◌, ℕ, ◌≤◌, Bool, true, false, cond, Result, Ok, Err, Some, refl, ap, rules, arith}
use Rattle.std.specs.Prelude.{IsTrue, nat_le, nat_lt, ◌||◌}
use Rattle.std.specs.FinMap.{len}
use Rattle.std.proofs.lemmas.Bool.Decides.{nat_tests}
use Rattle.hb_map.proofs.Laws.{put_here}
use Rattle.hb_streams.specs.Numbers.{next_odd}
use Rattle.hb_frames.specs.Numbers.{largest}
use Rattle.hb_streams.specs.Sides.{both_open, sides_of}
use Rattle.hb_streams.specs.States.{States, state_of, state_by, state_of_others, is_full}
use Rattle.hb_streams.specs.Answers.{number_of}
use Rattle.hb_streams.specs.Moves.{after, after_number, begins, begun}
use Rattle.hb_streams.specs.declared.fault.OpenFault.{OpenFault}
use Rattle.hb_streams.specs.declared.fault.OpenFault.TheVariants.{Full, Spent}

abbrev number : ℕ → Result ℕ OpenFault
number n = Ok n

in_range_by : (full spent : Bool) (next n : ℕ) → nat_lt largest next ≡ spent
    → cond full (Err Full) (cond spent (Err Spent) (number next)) ≡ number n → n ≤ 2147483647
in_range_by true spent next n test is = absurd (search rules)
in_range_by false true next n test is = absurd (search rules)
in_range_by false false next n test is = grind (arith, nat_tests, test, is)

-- its number has 31 bits
pub number_in_range : (s : States) (limit n : ℕ) → number_of s limit ≡ Ok n → n ≤ 2147483647
number_in_range s limit n is =
    in_range_by (nat_le limit (len s.active) || is_full s) (nat_lt largest (next_odd s.highest)) (next_odd s.highest) n refl is

-- and this end's side of it is open
pub own_is_open : (s : States) (limit n : ℕ) → number_of s limit ≡ Ok n → IsTrue (sides_of (state_of (after s (begins limit)) n)).own
own_is_open s limit n is =
    let now : after s (begins limit) ≡ begun s n both_open = ap (after_number s) is in
    let there : state_of (begun s n both_open) n ≡ state_by (Some both_open) (state_of_others (begun s n both_open) n) =
    ap (λ o. state_by o (state_of_others (begun s n both_open) n)) (put_here s.active n both_open) in
    rw (now, there) refl
