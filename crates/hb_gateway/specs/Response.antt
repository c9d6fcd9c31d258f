-- What a gateway says on the stream of a tunnel (RFC 9113 section 8.5), as the captured link whose tunnel it is hears it.
use Rattle.std.specs.Prelude.{ℕ, ◌==◌, ◌&&◌, not, nat_le, nat_lt, Bool, true, false, if◌then◌else◌, List, Option, Some, None}
use Rattle.hb_base.specs.declared.cause.Cause.{Cause}
use Rattle.hb_base.specs.declared.cause.Cause.TheVariants as cause
use Rattle.hb_conn.specs.declared.found.Found.{Found}
use Rattle.hb_conn.specs.declared.found.Found.TheVariants as found
use Rattle.hb_frames.specs.Numbers.{protocol_error}
use Rattle.hb_hpack.specs.declared.header.Header.{Header}
use Rattle.hb_model.specs.Discovery.{status_of, is_interim}

-- how far a stream is
pub data Stage : Type 0 where
  -- nothing was asked on it
  unused : Stage
  -- a tunnel is asked for, and no status of 200 or more came
  asked : Stage
  -- a status from 200 to 299 came: it carries bytes
  carrying : Stage
  -- its tunnel ended, and it is to be reset with this code
  failing : (code : ℕ) → Stage
  -- its tunnel ended, and nothing more is heard of it
  over : Stage

-- a tunnel was asked for, and didn't end
abbrev pub is_living : Stage → Bool
is_living asked = true
is_living carrying = true
is_living stage = false

pub data Heard : Type 0 where
  -- the tunnel is open; the gateway ended its side at once, or not
  opens : (end : Bool) → Heard
  -- bytes came; the gateway ended its side
  brings : List ℕ → Heard
  ends : Heard
  -- the tunnel ends for this cause
  fails : Cause → Heard

-- the error code CANCEL (RFC 9113 section 7)
abbrev pub cancel : ℕ
cancel = 8

-- a status of success (RFC 9110 section 15.3)
abbrev pub is_success : Option ℕ → Bool
is_success None = false
is_success (Some n) = nat_le 200 n && nat_lt n 300

-- the number by which the cause names a status that isn't one: 0 where there is none, or the stream ends with one that is passed over
abbrev pub refusal_of : Option ℕ → ℕ
refusal_of None = 0
refusal_of (Some n) = if is_interim (Some n) then 0 else n

-- headers on a stream that is asked: a status from 100 to 199 is passed over (RFC 9110 section 15.2), but where the stream ends with it
abbrev pub answered : Option ℕ → (end : Bool) → Option Heard
answered status end =
    if is_interim status && not end then None
    else if is_success status then Some (opens end)
    else Some (fails (cause.UpRefused (refusal_of status)))

-- and on one that is open: no headers may come there (RFC 9113 section 8.5)
abbrev pub headed : Stage → Option ℕ → (end : Bool) → Option Heard
headed asked status end = answered status end
headed carrying status end = Some (fails (cause.StreamFault protocol_error))
headed _ status end = None

-- DATA in front of a status is as wrong (RFC 9113 section 8.1.1). That the stream ended with it is told behind it
abbrev pub brought : Stage → List ℕ → Option Heard
brought asked bytes = Some (fails (cause.StreamFault protocol_error))
brought carrying bytes = Some (brings bytes)
brought _ bytes = None

abbrev pub ended : Stage → Option Heard
ended asked = Some (fails (cause.UpRefused 0))
ended carrying = Some ends
ended _ = None

abbrev pub failed : Cause → Stage → Option Heard
failed cause asked = Some (fails cause)
failed cause carrying = Some (fails cause)
failed cause _ = None

-- what is heard on the stream s, where this is told of the connection: of that stream; behind a GOAWAY of each above the last that the
-- gateway takes (RFC 9113 section 6.8); behind a connection error of each
abbrev pub heard_of : ℕ → Stage → List Header → List ℕ → Found → Option Heard
heard_of s stage headers bytes (found.Opened k end) = if k == s then headed stage (status_of headers) end else None
heard_of s stage headers bytes (found.Chunk k end) = if k == s then brought stage bytes else None
heard_of s stage headers bytes (found.Ended k) = if k == s then ended stage else None
heard_of s stage headers bytes (found.Reset k code) = if k == s then failed (cause.PeerReset code) stage else None
heard_of s stage headers bytes (found.Broken k code) = if k == s then failed (cause.StreamFault code) stage else None
heard_of s stage headers bytes (found.GoneAway last) = if nat_lt last s then failed cause.GoneAway stage else None
heard_of s stage headers bytes (found.Fault code) = failed (cause.ConnFault code) stage
heard_of s stage headers bytes _ = None

-- how far a stream is whose tunnel ended by this: it is to be reset, with CANCEL, unless a reset, an error of it or of the connection was
-- told, or that the gateway takes it no more: it answers nothing on the stream then, nor does it look at what is sent there (RFC 9113
-- section 6.8)
abbrev pub left_by : Found → Cause → Stage
left_by (found.Reset s code) cause = over
left_by (found.Broken s code) cause = over
left_by (found.Fault code) cause = over
left_by (found.GoneAway last) cause = over
left_by told cause = failing cancel
