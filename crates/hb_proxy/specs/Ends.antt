-- The end law over the whole trace: a tunnel that ended, of whatever link, has no upstream that isn't closed where anything more comes,
-- on any link, and where a byte of any tunnel goes; a plain link that ended is closed there, with its upstream, and has no stream; and a
-- link to a gateway that ended is closed there.
use Rattle.std.specs.Prelude.{⊤, ◌≡◌, ◌⊎◌, ℕ, Bool, true, false, List}
use Rattle.std.specs.List.{list_any}
use Rattle.hb_base.specs.declared.cause.Cause.{Cause}
use Rattle.hb_captured.specs.Part as captured
use Rattle.hb_captured.specs.Sides.{is_close, was_on_link, up_of, stream_of, over, course_of}
use Rattle.hb_conn.specs.declared.found.Found.TheVariants as found
use Rattle.hb_gateway.specs.Part as gateway
use Rattle.hb_inbound.specs.Ends.{EndedAreClosed, is_fault}
use Rattle.hb_inbound.specs.Part as part
use Rattle.hb_inbound.specs.Part.{Part}
use Rattle.hb_inbound.specs.Sides.{Was}
use Rattle.hb_model.specs.Point as point
use Rattle.hb_model.specs.declared.config.NodeConfig.{NodeConfig}
use Rattle.hb_world.specs.declared.entry.Entry.{Entry}
use Rattle.hb_world.specs.declared.entry.Entry.TheVariants as e
use Rattle.hb_proxy.specs.Held.{at_start}
use Rattle.hb_proxy.specs.Owners.{AtEach}
use Rattle.hb_proxy.specs.Points.{Point, of_control, of_link, of_plain, of_gate, of_stream, parts_of, plain_of, gates_of}

-- where a plain link ended, it was closed, and has no upstream that isn't
pub record IsPlainClosed (g : NodeConfig) (before : List Point) (l : ℕ) : Type 0 where
  pub link : (why : Cause) → course_of (at_start g) (plain_of l before) ≡ over why → was_on_link is_close (plain_of l before) ≡ true
  pub up : (why : Cause) → course_of (at_start g) (plain_of l before) ≡ over why → up_of (plain_of l before) ≡ 0
  pub stream : (why : Cause) → course_of (at_start g) (plain_of l before) ≡ over why → (stream_of (plain_of l before)).gate ≡ 0

-- a link to a gateway ended, broke, told a connection error, lacked memory, or was stopped; it was closed
abbrev pub ends_call : Entry → Bool
ends_call (e.Ended g) = true
ends_call (e.Broke g) = true
ends_call entry = false

abbrev pub is_gate_fault : gateway.Part → Bool
is_gate_fault (gateway.looked points (found.Fault code) headers) = true
is_gate_fault p = false

abbrev pub ends_gate : gateway.Part → Bool
ends_gate (gateway.entry z) = ends_call z
ends_gate gateway.lacked = true
ends_gate (gateway.stopped cause) = true
ends_gate p = is_gate_fault p

abbrev pub closes_call : Entry → Bool
closes_call (e.Closed g why) = true
closes_call entry = false

abbrev pub closes_gate : gateway.Part → Bool
closes_gate (gateway.entry z) = closes_call z
closes_gate p = false

-- it is closed where it ended, if it was ever dialled
abbrev pub is_birth : gateway.Part → Bool
is_birth (gateway.dialled z key) = true
is_birth p = false

abbrev pub IsGateClosed : List Point → ℕ → Type 0
IsGateClosed before n =
    list_any is_birth (gates_of n before) ≡ true → list_any ends_gate (gates_of n before) ≡ true
    → list_any closes_gate (gates_of n before) ≡ true

pub record AllClosed (g : NodeConfig) (before : List Point) : Type 0 where
  pub links : (l : ℕ) → EndedAreClosed (at_start g) (parts_of l before)
  pub plain : (l : ℕ) → IsPlainClosed g before l
  pub gates : (n : ℕ) → IsGateClosed before n

-- a link is accepted or open, bytes or an end come, time passes, or nothing is left to be done
abbrev pub MoreComes : NodeConfig → List Point → Entry → Type 0
MoreComes g before (e.Accepted l d) = AllClosed g before
MoreComes g before (e.Opened l) = AllClosed g before
MoreComes g before (e.Came l bytes) = AllClosed g before
MoreComes g before (e.Ended l) = AllClosed g before
MoreComes g before e.Tick = AllClosed g before
MoreComes g before (e.Wait ready how) = AllClosed g before
MoreComes g before _ = ⊤

-- bytes go on an inbound link, but for the one write behind a connection error; they go to an upstream, or on a plain link
abbrev pub LinkGoes : NodeConfig → List Point → ℕ → Entry → Type 0
LinkGoes g before l (e.Went k bytes) = AllClosed g before ⊎ Was is_fault (parts_of l before)
LinkGoes g before l _ = ⊤

abbrev pub UpGoes : NodeConfig → List Point → Entry → Type 0
UpGoes g before (e.Went u bytes) = AllClosed g before
UpGoes g before _ = ⊤

abbrev pub PartEnds : NodeConfig → List Point → ℕ → Part → Type 0
PartEnds g before l (part.entry z) = MoreComes g before z × LinkGoes g before l z
PartEnds g before l (part.up s z) = MoreComes g before z × UpGoes g before z
PartEnds g before l _ = ⊤

abbrev pub PlainEnds : NodeConfig → List Point → captured.Part → Type 0
PlainEnds g before (captured.entry z) = MoreComes g before z × UpGoes g before z
PlainEnds g before (captured.up z) = MoreComes g before z × UpGoes g before z
PlainEnds g before _ = ⊤

-- on a link to a gateway as on an inbound one
abbrev pub GateGoes : NodeConfig → List Point → ℕ → Entry → Type 0
GateGoes g before n (e.Went k bytes) = AllClosed g before ⊎ (list_any is_gate_fault (gates_of n before) ≡ true)
GateGoes g before n _ = ⊤

abbrev pub GateEnds : NodeConfig → List Point → ℕ → gateway.Part → Type 0
GateEnds g before n (gateway.entry z) = MoreComes g before z × GateGoes g before n z
GateEnds g before n _ = ⊤

abbrev pub ControlEnds : NodeConfig → List Point → point.Point → Type 0
ControlEnds g before (point.entry z) = MoreComes g before z
ControlEnds g before _ = ⊤

abbrev pub EndsAt : NodeConfig → List Point → Point → Type 0
EndsAt g before (of_control q) = ControlEnds g before q
EndsAt g before (of_link l p) = PartEnds g before l p
EndsAt g before (of_plain l p) = PlainEnds g before p
EndsAt g before (of_gate n p) = GateEnds g before n p
EndsAt g before (of_stream l n s w) = ⊤

abbrev pub EndLaw : NodeConfig → List Point → Type 0
EndLaw g points = AtEach (EndsAt g) points
