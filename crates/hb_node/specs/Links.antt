-- A link of the node, in the words of the machine.
use Rattle.std.specs.Prelude.{⊤, ◌≡◌, ℕ, nat_lt, ◌||◌, Bool, true, false, [], min, if◌then◌else◌}
use Rattle.hb_conn.specs.Connection.{Connection}
use Rattle.hb_conn.specs.Observed.{output, IsLookedAt, creditable, credited}
use Rattle.hb_kept.specs.Kept as kept
use Rattle.hb_model.specs.Discovery.{Discovery, Phase, dialling, live, faulted, ending, stream, put_requests, sendable, wrote}
use Rattle.hb_model.specs.Runs.{IsCalm}
use Rattle.hb_node.specs.declared.inbox.Heard.{Heard}
use Rattle.hb_node.specs.declared.link.Link.{Link}
use Rattle.hb_node.specs.declared.phase.Phase.{Phase as Stage}
use Rattle.hb_node.specs.declared.phase.Phase.TheVariants as stage
use Rattle.hb_node.specs.Phases.{phase_of, is_live, end_for}
use Rattle.hb_node.specs.Judging.{Judges, Seen}
use Rattle.hb_node.specs.Leads.{Leads}

-- its part: between two calls no DATA is in hand
abbrev pub part_of : Link → Discovery
part_of k = record {
  phase = phase_of k.phase;
  conn = k.conn;
  answered = k.answered;
  chunk = [];
  counted = 0;
  framing = k.inbox.framer;
  waiting = k.inbox.waiting;
}

-- as much of what waits to be sent as may be is put
abbrev pub with_puts : Discovery → Discovery
with_puts x = if nat_lt 0 (sendable x) then put_requests x else x

abbrev pub put_by : Bool → Discovery → Discovery
put_by goes x = if goes then with_puts x else x

-- octets were written; of a link that isn't open or is to be closed there are none
abbrev pub wrote_by : Stage → ℕ → Discovery → Discovery
wrote_by stage.Live n x = wrote n x
wrote_by (stage.Faulted code) n x = wrote n x
wrote_by _ n x = x

-- octets of DATA are used up, as far as the stream has windows
abbrev pub used_up : ℕ → Connection → Connection
used_up n c = credited c stream (min n (creditable c stream))

-- so they are, where there are any and the link goes on
abbrev pub credited_by : Bool → ℕ → Connection → Connection
credited_by true n c = if nat_lt 0 n then used_up n c else c
credited_by false n c = c

-- what was heard of a link's connection is done
abbrev pub settled : Heard → Link → Link
settled heard k = record k {
  phase = end_for k.phase heard.end;
  answered = k.answered || heard.accepted;
  conn = credited_by (is_live (end_for k.phase heard.end)) heard.counted k.conn;
}

-- the machine's part is this; of a link that is to be closed it may be another, and of a faulted one all but what waits to be
-- written
abbrev pub AgreesBy : Phase → Discovery → Discovery → Type 0
AgreesBy (ending cause) x y = ⊤
AgreesBy (faulted code) x y = output x.conn ≡ output y.conn
AgreesBy _ x y = x ≡ y

pub record Agrees (x y : Discovery) : Type 0 where
  pub phase : x.phase ≡ y.phase
  pub rest : AgreesBy y.phase x y

-- the connection of a link that isn't to be closed is kept, and between two looks it has room
abbrev pub IsKept : Discovery → Type 0
IsKept x = kept.IsKept x.conn

abbrev pub Fares : Discovery → Type 0
Fares x = kept.Fares x.conn

-- so it is between two calls, while a link isn't to be closed: nothing more happens by itself either
abbrev pub SteadyBy : Phase → Discovery → Type 0
SteadyBy dialling x = IsKept x × IsCalm x
SteadyBy live x = IsKept x × IsCalm x
SteadyBy _ x = ⊤

abbrev pub IsSteady : Discovery → Type 0
IsSteady x = SteadyBy x.phase x

-- points of the link lead from one part to one that agrees with another, and of which this holds
pub record GoesTo {J : Type 0} (judges : Judges J) (P : Discovery → Type 0) (l : ℕ) (before : Seen J) (x : Discovery)
    (after : Seen J) (y : Discovery) : Type 0 where
  pub part : Discovery
  pub leads : Leads judges l (record { seen = before; part = x }) (record { seen = after; part = part })
  pub agrees : Agrees part y
  pub so : P part

-- a link that lived fares on, or it is to be closed
abbrev pub FaresBy : Phase → Discovery → Type 0
FaresBy live x = Fares x
FaresBy (faulted code) x = ⊤
FaresBy (ending cause) x = ⊤
FaresBy _ x = ⊥

abbrev pub FaresOn : Discovery → Type 0
FaresOn x = FaresBy x.phase x

abbrev pub Goes : {J : Type 0} → Judges J → ℕ → Seen J → Discovery → Seen J → Discovery → Type 0
Goes judges l before x after y = Fares x → GoesTo judges FaresOn l before x after y

-- where nothing more is told all was looked at
abbrev pub Rests : Discovery → Stage → Connection → Type 0
Rests x p c = Fares x → is_live p ≡ true → IsLookedAt c

abbrev pub Settles : {J : Type 0} → Judges J → ℕ → Seen J → Discovery → Seen J → Discovery → Type 0
Settles judges l before x after y = Fares x → GoesTo judges IsSteady l before x after y
