-- What a frame or an act makes of a connection, part by part.
use Rattle.std.proofs.Common.{◌≡◌, ◌≢◌, ℕ, ◌≤◌, ◌<◌, Bool, true, false, List, Some, None}
use Rattle.std.specs.FinMap.{get}
use Rattle.hb_blocks.specs.Assembly.{Assembly}
use Rattle.hb_frames.specs.RawFrame.{RawFrame}
use Rattle.hb_hpack.specs.Encoding.{Writing}
use Rattle.hb_frames.specs.Numbers.{largest}
use Rattle.hb_streams.specs.States.{States}
use Rattle.hb_streams.specs.Moves.{Move as StreamMove, after, begun}
use Rattle.hb_streams.specs.declared.sides.Sides.{Sides}
use Rattle.hb_flow.specs.Flows.{Flows, closed}
use Rattle.hb_flow.specs.Sizes.{resized, Fits, unbegun_on}
use Rattle.hb_flow.specs.Moves.{Move as FlowMove, takes, takes_on, owes, owes_on, pays, pays_on, May}
use Rattle.hb_flow.specs.Moves.{after as flow_after}
use Rattle.hb_outgoing.specs.Selected.{has_data, taken_back, data_size}
use Rattle.hb_owed.specs.Debts.{Debts}
use Rattle.hb_owed.specs.Debts.{closed as owed_closed}
use Rattle.hb_owed.specs.Moves.{is_open}
use Rattle.hb_conn.specs.Frames.{sent}
use Rattle.hb_conn.specs.Faults.{faulted, is_active, regained, released}
use Rattle.hb_conn.specs.Headers.{registered}
use Rattle.hb_conn.specs.Payload.{data_put}
use Rattle.hb_conn.specs.Windows.{unbegun}
use Rattle.hb_conn.specs.declared.machine.Core.{Core}
use Rattle.hb_conn.specs.declared.machine.Peer.{Peer}
use Rattle.hb_history.specs.Answered.{is_answer}

-- between moves, or amid one that closes a stream or ends a side of it; then its DATA that hasn't begun may be taken back
pub data Amid : Type 0 where
  calm : Amid
  amid : (withdrawn : Bool) (stream : ℕ) → Amid

abbrev pub ending : ℕ → Amid
ending s = amid false s

abbrev pub gone : ℕ → Amid
gone s = amid true s

-- a move of streams by which none begins, and no other stream than s changes
pub record MovesOn (s : ℕ) (old new : States) : Type 0 where
  pub move : StreamMove
  pub is : new ≡ after old move
  pub elsewhere : (n : ℕ) → n ≢ s → get new.active n ≡ get old.active n
  pub fewer : get old.active s ≡ None → get new.active s ≡ None

-- a record of a stream that isn't closed stays
abbrev pub KeepsOpen : Debts → Debts → Type 0
KeepsOpen old new = (n : ℕ) → is_open (get old n) ≡ true → is_open (get new n) ≡ true

-- a move of taking windows
abbrev pub is_taking : FlowMove → Bool
is_taking (takes n) = true
is_taking (takes_on s n) = true
is_taking (owes n) = true
is_taking (owes_on s n) = true
is_taking pays = true
is_taking (pays_on s) = true
is_taking _ = false

-- a frame that is no DATA with payload, and answers no SETTINGS and no PING
abbrev pub IsPlain : RawFrame → Type 0
IsPlain f = (has_data f ≡ false) × (is_answer f ≡ false)

-- and one that answers such
abbrev pub IsAnswer : RawFrame → Type 0
IsAnswer f = (has_data f ≡ false) × (is_answer f ≡ true)

-- what each part keeps
pub record Keeps (P : Amid → Core → Type 0) : Type 0 where
  pub ends : (s : ℕ) (c : Core) → P calm c → P (ending s) c
  pub goes : (s : ℕ) (c : Core) → P (ending s) c → P (gone s) c
  pub other : (a : Amid) (c : Core) (e : Writing) (b : Assembly) (p : Peer) (t : Bool) → P a c
      → P a (record c { encoder = e; blocks = b; peer = p; settled = t })
  pub sends : (a : Amid) (c : Core) (f : RawFrame) → IsPlain f → P a c → P a (sent c f)
  pub owes : (a : Amid) (c : Core) (m : Debts) → KeepsOpen c.owed m → P a c → P a (record c { owed = m })
  pub moves : (b : Bool) (s : ℕ) (c : Core) (t : States) → MovesOn s c.streams t → P (amid b s) c
      → P (amid b s) (record c { streams = t })
  pub withdraws : (s : ℕ) (c : Core) → P (gone s) c
      → P (gone s) (record c { out = taken_back s c.out; flow = regained c.flow (data_size (Some s) c.out.queue) })
  pub releases : (s : ℕ) (c : Core) → P (ending s) c → P calm (released c s)
  pub leaves : (s : ℕ) (c : Core) → is_active c.streams s ≡ false → P (gone s) c
      → P calm (record c { flow = closed c.flow s; owed = owed_closed c.owed s })
  pub takes_in : (a : Amid) (c : Core) (m : FlowMove) → is_taking m ≡ true → May c.flow m → P a c
      → P a (record c { flow = flow_after c.flow m })
  pub begins : (s : ℕ) (c : Core) (sides : Sides) (m : StreamMove) → c.streams.highest < s
      → after c.streams m ≡ begun c.streams s sides → P calm c → P calm (registered (record c { streams = begun c.streams s sides }) s)
  pub faults : (a : Amid) (c : Core) (f : Flows) (code : ℕ) → P a c → P calm (faulted (record c { flow = f }) code).core

-- DATA that this end puts keeps it
abbrev pub Puts : (Amid → Core → Type 0) → Type 0
Puts P = (c : Core) (s : ℕ) (bytes : List ℕ) → P calm c → P calm (data_put c s bytes)

-- SETTINGS and PING with ACK that this end puts keep it
abbrev pub PutsAck : (Amid → Core → Type 0) → Type 0
PutsAck P = (c : Core) (f : RawFrame) → IsAnswer f → P calm c → P calm (sent c f)

-- and what a new initial size of windows keeps
abbrev pub Resizes : (Amid → Core → Type 0) → Type 0
Resizes P =
    (c : Core) (k : ℕ) → k ≤ largest
    → ((n : ℕ) → Fits k (unbegun_on (unbegun c).stream (unbegun c).size n) (get c.flow.streams n)) → P calm c
    → P calm (record c { flow = resized c.flow k })
