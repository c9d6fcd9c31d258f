-- How far a tunnel is, by what happened to its link: the first cause that applies ends it.
use Rattle.std.specs.Prelude.{⊤, ◌≡◌, ◌⊎◌, ℕ, ◌==◌, Bool, true, false, if◌then◌else◌, fold, List, Option, Some, None}
use Rattle.hb_base.specs.declared.cause.Cause.{Cause}
use Rattle.hb_base.specs.declared.cause.Cause.TheVariants as cause
use Rattle.hb_base.specs.declared.peer.Peer.{Peer}
use Rattle.hb_base.specs.declared.target.Target.{Target}
use Rattle.hb_conn.specs.declared.found.Found.{Found}
use Rattle.hb_conn.specs.declared.found.Found.TheVariants as found
use Rattle.hb_held.specs.Held.{Resources}
use Rattle.hb_table.specs.Judgement.{judged}
use Rattle.hb_table.specs.declared.judgement.Judged.{Judged}
use Rattle.hb_table.specs.declared.judgement.Judged.TheVariants.{Admitted}
use Rattle.hb_verdict.specs.declared.verdict.Verdict.{Verdict}
use Rattle.hb_verdict.specs.declared.verdict.Verdict.TheVariants.{Dial}
use Rattle.hb_world.specs.declared.entry.Entry.{Entry}
use Rattle.hb_world.specs.declared.entry.Entry.TheVariants as e
use Rattle.hb_inbound.specs.Part.{Part, entry, up, lacked, looked, decided, accepted, done, put, finished, credited, applied, stopped}
use Rattle.hb_inbound.specs.Sides.{held_by, peer_by, Was, AtEach}

-- nothing was dialled for the stream; its tunnel is pending; it lives; it ended, and this is the first cause
pub data Life : Type 0 where
  none : Life
  pending : Target → Life
  lives : Target → Life
  ended : Cause → Life

-- the end of a tunnel that hasn't ended
abbrev pub ends : Cause → Life → Life
ends cause none = none
ends cause (pending target) = ended cause
ends cause (lives target) = ended cause
ends cause (ended first) = ended first

-- a request is answered with a dial; 200 is put
abbrev pub begins : Verdict → Life → Life
begins (Dial target) life = pending target
begins _ life = life

abbrev pub accepts : Life → Life
accepts (pending target) = lives target
accepts life = life

-- what is told of the frames: a reset by the peer, an error of the stream, an error of the connection
abbrev pub ends_told : ℕ → Found → Life → Life
ends_told s (found.Reset k code) life = if k == s then ends (cause.PeerReset code) life else life
ends_told s (found.Broken k code) life = if k == s then ends (cause.StreamFault code) life else life
ends_told s (found.Fault code) life = ends (cause.ConnFault code) life
ends_told s _ life = life

-- an entry of the link: its peer sends no more, or a call on it failed; and of the upstream: its dial or a call on it failed
abbrev pub ends_entry : Entry → Life → Life
ends_entry (e.Ended l) life = ends cause.PeerGone life
ends_entry (e.Broke l) life = ends cause.PeerGone life
ends_entry _ life = life

abbrev pub ends_up : Entry → Life → Life
ends_up (e.DialFailed to why) life = ends cause.UpFault life
ends_up (e.Broke u) life = ends cause.UpFault life
ends_up _ life = life

-- an update ends exactly what it no longer admits
abbrev pub ends_judged : Judged → Life → Life
ends_judged Admitted life = life
ends_judged _ life = ends cause.Revoked life

abbrev pub ends_at : Resources → Option Peer → Life → Life
ends_at held (Some peer) (pending target) = ends_judged (judged held peer target) (pending target)
ends_at held (Some peer) (lives target) = ends_judged (judged held peer target) (lives target)
ends_at held peer life = life

-- what a part makes of it, behind which this is held and this is known of the peer
abbrev pub life_by : Resources → Option Peer → ℕ → Life → Part → Life
life_by held peer s life (entry e) = ends_entry e life
life_by held peer s life (up k e) = if k == s then ends_up e life else life
life_by held peer s life lacked = ends cause.NoMemory life
life_by held peer s life (looked points told headers) = ends_told s told life
life_by held peer s life (decided k full answer) = if k == s then begins answer life else life
life_by held peer s life (accepted k note) = if k == s then accepts life else life
life_by held peer s life (done k note) = if k == s then ends cause.Done life else life
life_by held peer s life (applied r) = ends_at held peer life
life_by held peer s life (stopped cause) = ends cause life
life_by held peer s life _ = life

-- what was held, what was known of the peer, and how far the tunnel was
pub record Known : Type 0 where
  pub held : Resources
  pub peer : Option Peer
  pub life : Life

abbrev pub known_by : ℕ → Known → Part → Known
known_by s k p = record {
  held = held_by k.held p;
  peer = peer_by k.peer p;
  life = life_by (held_by k.held p) k.peer s k.life p;
}

abbrev pub known : Resources → ℕ → List Part → Known
known start s parts = fold (known_by s) (record { held = start; peer = None; life = none }) parts

abbrev pub life : Resources → ℕ → List Part → Life
life start s parts = (known start s parts).life

-- it lives; it is pending; it ended for this cause
abbrev pub Lives : Life → Type 0
Lives (lives target) = ⊤
Lives _ = ⊥

abbrev pub IsPending : Life → Type 0
IsPending (pending target) = ⊤
IsPending _ = ⊥

-- which entry stands on an upstream: of a pending tunnel its dial, that one's answer and what tells that it is open or isn't; of a live
-- one what moves bytes, and its ends; of one that ended its close, for that cause
abbrev pub UpMayStand : Life → Entry → Type 0
UpMayStand life (e.Dialled u to why) = IsPending life
UpMayStand life (e.DialFailed to why) = IsPending life
UpMayStand life (e.Opened u) = IsPending life
UpMayStand life (e.Came u bytes) = Lives life
UpMayStand life (e.Ended u) = Lives life
UpMayStand life (e.Went u bytes) = Lives life
UpMayStand life (e.Shut u) = Lives life
UpMayStand life (e.Closed u cause) = life ≡ ended cause
UpMayStand life (e.Broke u) = IsPending life ⊎ Lives life
UpMayStand life (e.Balked way) = IsPending life ⊎ Lives life
UpMayStand life _ = ⊥

-- the upstream that was dialled for a stream, until it is closed
abbrev pub up_by : ℕ → Entry → ℕ
up_by u (e.Dialled k to why) = k
up_by u (e.Closed k cause) = 0
up_by u _ = u

abbrev pub up_in : ℕ → ℕ → Part → ℕ
up_in s u (up k e) = if k == s then up_by u e else u
up_in s u _ = u

abbrev pub up_of : ℕ → List Part → ℕ
up_of s parts = fold (up_in s) 0 parts

-- no tunnel that ended has an upstream that isn't closed
abbrev pub EndedAreClosed : Resources → List Part → Type 0
EndedAreClosed start before = (s : ℕ) (why : Cause) → life start s before ≡ ended why → up_of s before ≡ 0

-- a connection error was told
abbrev pub is_fault_told : Found → Bool
is_fault_told (found.Fault code) = true
is_fault_told _ = false

abbrev pub is_fault : Part → Bool
is_fault (looked points told headers) = is_fault_told told
is_fault _ = false

-- what holds where something comes or goes on the link; behind a connection error what waits may be written first
abbrev pub WhereQuiet : Type 0 → List Part → Entry → Type 0
WhereQuiet Q before (e.Came l bytes) = Q
WhereQuiet Q before (e.Ended l) = Q
WhereQuiet Q before (e.Went l bytes) = Q ⊎ Was is_fault before
WhereQuiet Q before (e.Broke l) = Q ⊎ Was is_fault before
WhereQuiet Q before (e.Balked way) = Q ⊎ Was is_fault before
WhereQuiet Q before _ = ⊤

abbrev pub EndsAt : Resources → List Part → Part → Type 0
EndsAt start before (entry e) = WhereQuiet (EndedAreClosed start before) before e
EndsAt start before (up s e) = UpMayStand (life start s before) e
EndsAt start before (put s bytes) = Lives (life start s before)
EndsAt start before (finished s) = Lives (life start s before)
EndsAt start before (credited s n) = Lives (life start s before)
EndsAt start before _ = ⊤

abbrev pub EndLaw : Resources → List Part → Type 0
EndLaw start parts = AtEach (EndsAt start) parts
