-- What the streams of tunnels get that ended, one after another. No public clause cites this file.
use Rattle.std.specs.Prelude.{⊤, ◌≡◌, ℕ, ◌<◌, ◌==◌, ◌&&◌, ◌||◌, Bool, false, if◌then◌else◌, Option, Some, None}
use Rattle.std.specs.FinMap.{FinMap, get, insert, remove}
use Rattle.std.specs.Ordering.{nat_cmp}
use Rattle.hb_base.specs.declared.cause.Cause.{Cause}
use Rattle.hb_conn.specs.Observed.{own_side_open, sides}
use Rattle.hb_inbound.specs.Inbound.{Inbound}
use Rattle.hb_inbound.specs.Runs.{failure_status, end_code}
use Rattle.hb_inbound.specs.Tunnel.{Stage, is_failed, is_ended}
use Rattle.hb_link.specs.declared.link.Link.{Link}
use Rattle.hb_link.specs.declared.tunnel.Stage.TheVariants.{Over}
use Rattle.hb_link.specs.declared.tunnel.Tunnel.{Tunnel}
use Rattle.hb_link.specs.Noted.{Told}
use Rattle.hb_link.specs.Observed.{serves_in}
use Rattle.hb_link.specs.Settling.{Agrees, AlwaysSettles, KeepsCame}

-- the status of a tunnel that was pending, and the code of one that was live, that are to be put at its end
abbrev pub status_of_end : Link → ℕ → Cause → Option ℕ
status_of_end k s cause = if serves_in k.phase && own_side_open k.conn s then failure_status cause else None

abbrev pub code_of_end : Link → ℕ → Cause → Option ℕ
code_of_end k s cause = if serves_in k.phase && ((sides k.conn s).own || (sides k.conn s).peer) then end_code cause else None

-- the tunnel on a stream is left: nothing is left of it, or its upstream is to be closed for this cause
abbrev pub left_of : Tunnel → Cause → FinMap nat_cmp Tunnel → ℕ → FinMap nat_cmp Tunnel
left_of k cause tunnels s = if k.up == 0 then remove tunnels s else insert tunnels s (record k { stage = Over cause })

abbrev pub left_by : Option Tunnel → Cause → FinMap nat_cmp Tunnel → ℕ → FinMap nat_cmp Tunnel
left_by None cause tunnels s = tunnels
left_by (Some k) cause tunnels s = left_of k cause tunnels s

abbrev pub left_at : Cause → FinMap nat_cmp Tunnel → ℕ → FinMap nat_cmp Tunnel
left_at cause tunnels s = left_by (get tunnels s) cause tunnels s

-- a stream is below a number, or below none: every stream is
abbrev pub IsBelow : Option ℕ → ℕ → Type 0
IsBelow None s = ⊤
IsBelow (Some n) s = s < n

-- no tunnel below is at such a stage
abbrev pub NoneIs : (Stage → Bool) → Option ℕ → Inbound → Type 0
NoneIs is to x = (s : ℕ) → IsBelow to s → is (x.tunnels s).stage ≡ false

-- each tunnel below that failed got what it gets
pub record GotFailed (to : Option ℕ) (k : Link) (x : Inbound) : Type 0 where
  pub agrees : Agrees k x
  pub failed : NoneIs is_failed to x

-- each that failed did, and each below that ended
pub record GotEnded (to : Option ℕ) (k : Link) (x : Inbound) : Type 0 where
  pub agrees : Agrees k x
  pub failed : NoneIs is_failed None x
  pub ended : NoneIs is_ended to x

-- parts that follow by themselves lead from the one to the other, and what came stays
pub record Gives (P Q : Link → Inbound → Type 0) (old : Link) (told : Told) (new : Link) (now : Told) : Type 0 where
  pub settles : AlwaysSettles P Q old told new now
  pub came : KeepsCame old new
