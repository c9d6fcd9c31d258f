-- How much of a link to a gateway may be read and written, when nothing more happens by itself, and which call is due.
use Rattle.std.specs.Prelude.{⊤, ◌≡◌, ℕ, Bool, true, false, List, [], Option, Some, None}
use Rattle.hb_base.specs.declared.cause.Cause.{Cause}
use Rattle.hb_base.specs.declared.cause.Cause.TheVariants as cause
use Rattle.hb_conn.specs.Observed.{IsLookedAt}
use Rattle.hb_kept.specs.Kept.{wants_of}
use Rattle.hb_gateway.specs.Gateway as gateway
use Rattle.hb_gateway.specs.Gateway.{Gateway, Phase, opening, serving, faulted, closing, stage_of}
use Rattle.hb_gateway.specs.Response.{Stage, failing}

-- so many octets that every answer to them has room
abbrev pub wants_by : Phase → Gateway → ℕ
wants_by serving x = wants_of x.conn
wants_by phase x = 0

abbrev pub wants : Gateway → ℕ
wants x = wants_by x.phase x

abbrev pub output_by : Phase → Gateway → List ℕ
output_by serving x = gateway.output x
output_by (faulted code) x = gateway.output x
output_by phase x = []

abbrev pub output : Gateway → List ℕ
output x = output_by x.phase x

-- no stream is to be reset
abbrev pub is_failing : Stage → Bool
is_failing (failing code) = true
is_failing stage = false

abbrev pub AllReset : Gateway → Type 0
AllReset x = (s : ℕ) → is_failing (stage_of x s) ≡ false

-- each tunnel was told what it heard
abbrev pub AllTold : Gateway → Type 0
AllTold x = (s : ℕ) → (x.streams s).mail ≡ None

-- nor is anything left to be looked at
abbrev pub IsCalmBy : Phase → Gateway → Type 0
IsCalmBy opening x = AllReset x
IsCalmBy serving x = AllReset x × IsLookedAt x.conn
IsCalmBy phase x = ⊤

abbrev pub IsCalm : Gateway → Type 0
IsCalm x = AllTold x × IsCalmBy x.phase x

abbrev pub close_due : Phase → Option Cause
close_due (closing cause) = Some cause
close_due (faulted code) = Some (cause.ConnFault code)
close_due phase = None

-- and no call is due
pub record IsQuiet (x : Gateway) : Type 0 where
  pub calm : IsCalm x
  pub no_close : close_due x.phase ≡ None
