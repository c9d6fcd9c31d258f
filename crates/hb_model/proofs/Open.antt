-- Bytes change a link that is open.
use Rattle.std.proofs.Common.{◌≡◌, ◌⊎◌, ap, ⊎_elim}
use Rattle.hb_model.specs.Discovery.{Discovery, Phase, unborn, dialling, live, faulted, ending, closed}
use Rattle.hb_model.specs.Machine.{Machine, by_open, while_open}
use Rattle.hb_model.specs.Runs.{IsFaulted}

pub live_changes : (change : Discovery → Discovery) (x : Discovery) → x.phase ≡ live → while_open change x ≡ change x
live_changes change x is = ap (λ (phase : Phase). by_open phase (change x) x) is

pub open_changes : (change : Discovery → Discovery) (m : Machine) (l : _) → ((m.links l).phase ≡ live) ⊎ IsFaulted m l
    → while_open change (m.links l) ≡ change (m.links l)
open_changes change m l =
    ⊎_elim (λ (is : (m.links l).phase ≡ live). live_changes change (m.links l) is)
    (λ (is : IsFaulted m l). ap (λ (phase : Phase). by_open phase (change (m.links l)) (m.links l)) is.1)

-- what holds of a link, and of it changed, holds of it in each phase
pub open_or_not : (P : Discovery → Type 0) (change : Discovery → Discovery) (x : Discovery) → P (change x) → P x
    → P (while_open change x)
open_or_not P change x new old = by x.phase
  where
    by : (phase : Phase) → P (by_open phase (change x) x)
    by unborn = old
    by dialling = old
    by live = new
    by (faulted code) = new
    by (ending why) = old
    by closed = old
