-- The verdict law: each request gets the first answer that applies, by what is held, and each answer is put at its point.
use Rattle.std.specs.Prelude.{⊤, ◌≡◌, ◌⊎◌, ℕ, ◌==◌, Bool, if◌then◌else◌, fold, List, Option, Some, None}
use Rattle.hb_base.specs.declared.cause.Cause.TheVariants as cause
use Rattle.hb_base.specs.declared.ip.Ip.{Ip}
use Rattle.hb_base.specs.declared.peer.Peer.{Peer}
use Rattle.hb_base.specs.declared.target.Target.{Target}
use Rattle.hb_conn.specs.declared.found.Found.{Found}
use Rattle.hb_conn.specs.declared.found.Found.TheVariants as found
use Rattle.hb_held.specs.Held.{Resources}
use Rattle.hb_hpack.specs.declared.header.HeaderList.{HeaderList}
use Rattle.hb_verdict.specs.Request.{request_of}
use Rattle.hb_verdict.specs.Verdict.{verdict}
use Rattle.hb_verdict.specs.declared.verdict.Verdict.{Verdict}
use Rattle.hb_verdict.specs.declared.verdict.Verdict.TheVariants.{Status, Reset, Dial}
use Rattle.hb_world.specs.declared.entry.Entry.{Entry}
use Rattle.hb_world.specs.declared.entry.Entry.TheVariants as e
use Rattle.hb_inbound.specs.Ends.{IsPending, life, ended}
use Rattle.hb_inbound.specs.Part.{Part, up, fronted, looked, decided, accepted, refused, reset, left}
use Rattle.hb_inbound.specs.Sides.{held, peer_of, AtEach}

-- which address the link's front header meant
abbrev pub destination_by : Option Ip → Part → Option Ip
destination_by to (fronted seen) = Some seen.destination.ip
destination_by to _ = to

abbrev pub destination_of : List Part → Option Ip
destination_of parts = fold destination_by None parts

-- What a stream is to get: an answer to a request with these headers; a refusal; a reset; 200, since its upstream is open; or nothing
pub data Due : Type 0 where
  nothing : Due
  answer : HeaderList → Due
  refusal : (status : ℕ) → Due
  protocol_error : Due
  acceptance : Due

abbrev pub due_told : ℕ → Due → HeaderList → Found → Due
due_told s due headers (found.Opened k end) = if k == s then answer headers else due
due_told s due headers told = due

abbrev pub due_answer : Verdict → Due
due_answer (Status status) = refusal status
due_answer Reset = protocol_error
due_answer (Dial target) = nothing

abbrev pub due_entry : Due → Entry → Due
due_entry due (e.Opened u) = acceptance
due_entry due entry = due

abbrev pub due_by : ℕ → Due → Part → Due
due_by s due (looked points told headers) = due_told s due headers told
due_by s due (decided k full given) = if k == s then due_answer given else due
due_by s due (up k entry) = if k == s then due_entry due entry else due
due_by s due (accepted k note) = if k == s then nothing else due
due_by s due (refused k status resets note) = if k == s then nothing else due
due_by s due (reset k code note) = if k == s then nothing else due
due_by s due (left k made) = if k == s then nothing else due
due_by s due part = due

abbrev pub due_of : ℕ → List Part → Due
due_of s parts = fold (due_by s) nothing parts

-- the answer to a request with these headers: the verdict by what is held, or 500 in the place of a dial for which memory is wanting
pub record IsVerdict (start : Resources) (before : List Part) (headers : HeaderList) (full : Bool) (given : Verdict) : Type 0 where
  pub peer : Peer
  pub destination : Ip
  pub peer_is : peer_of before ≡ Some peer
  pub destination_is : destination_of before ≡ Some destination
  pub is : (given ≡ verdict (request_of headers destination) (held start before) peer full)
      ⊎ ((target : Target) × (verdict (request_of headers destination) (held start before) peer full ≡ Dial target)
      × (given ≡ Status 500))

-- a status is put on a stream: a refusal that is due; or 401 or 502 for a tunnel that ended while it was pending, since it is no longer
-- admitted, or its upstream failed
abbrev pub IsStatus : Resources → List Part → ℕ → ℕ → Type 0
IsStatus start before s status =
    (due_of s before ≡ refusal status)
    ⊎ (((life start s before ≡ ended cause.Revoked) × (status ≡ 401)) ⊎ ((life start s before ≡ ended cause.UpFault) × (status ≡ 502)))

-- a stream is reset: with PROTOCOL_ERROR behind what is no request; with CANCEL, or CONNECT_ERROR, for a tunnel that ended so
abbrev pub IsReset : Resources → List Part → ℕ → ℕ → Type 0
IsReset start before s code =
    ((due_of s before ≡ protocol_error) × (code ≡ 1))
    ⊎ (((life start s before ≡ ended cause.Revoked) × (code ≡ 8)) ⊎ ((life start s before ≡ ended cause.UpFault) × (code ≡ 10)))

-- no stream is to get anything
abbrev pub AllGot : List Part → Type 0
AllGot before = (s : ℕ) → due_of s before ≡ nothing

abbrev pub IsAsked : List Part → ℕ → Resources → Bool → Verdict → Type 0
IsAsked before s start full given =
    (headers : HeaderList) × (due_of s before ≡ answer headers) × IsVerdict start before headers full given

abbrev pub VerdictAt : Resources → List Part → Part → Type 0
VerdictAt start before (decided s full given) = IsAsked before s start full given
VerdictAt start before (accepted s note) = IsPending (life start s before) × (due_of s before ≡ acceptance)
VerdictAt start before (refused s status resets note) = IsStatus start before s status
VerdictAt start before (reset s code note) = IsReset start before s code
VerdictAt start before (looked points told headers) = AllGot before
VerdictAt start before (up s entry) = AllGot before
VerdictAt start before part = ⊤

abbrev pub VerdictLaw : Resources → List Part → Type 0
VerdictLaw start parts = AtEach (VerdictAt start) parts
