-- No DATA frame begins beyond what the peer granted (RFC 9113 sections 4.2, 6.5.3 and 6.9): said of a trace.
use Rattle.std.specs.Prelude.{◌≡◌, ◌⊎◌, ℕ, ◌+◌, ◌≤◌, ◌<◌, true, List, [], ◌∷◌, ◌++◌, length, filter, drop, Option, IfSome}
use Rattle.hb_base.specs.declared.identity.Identity.{Identity}
use Rattle.hb_base.specs.declared.target.Target.{Target}
use Rattle.hb_conn.specs.Preface.{octets}
use Rattle.hb_frames.specs.Frames.{Joins}
use Rattle.hb_frames.specs.RawFrame.{RawFrame}
use Rattle.hb_front.specs.Reading.{Seen, IsAnswer, Whole}
use Rattle.hb_front.specs.Written.{front_text, IsSent}
use Rattle.hb_history.specs.Fits.{sets_values, acknowledges, FitsWindows}
use Rattle.hb_model.specs.Calls.{IsControl}
use Rattle.hb_outgoing.specs.Selected.{has_data}
use Rattle.hb_outgoing.specs.Waiting.{spelled}
use Rattle.hb_proxy.specs.Owners.{owner, inbound_link, gateway_link}
use Rattle.hb_world.specs.Trace.{recv, sent}
use Rattle.hb_world.specs.declared.entry.Entry.{Entry}
use Rattle.hb_world.specs.declared.entry.Entry.TheVariants as e
use Rattle.hb_headline.specs.Relay.{IsFront}

-- these are the first frames of the octets that came
abbrev pub AreFirst : List RawFrame → List ℕ → Type 0
AreFirst got came = (rest : List ℕ) × Joins got rest came

-- on an inbound link they stand behind its front header and the client's preface; there are none before the header is whole
abbrev pub AreClients : List RawFrame → List ℕ → Type 0
AreClients got came = (got ≡ []) ⊎ ((seen : Seen) × IsAnswer came (Whole seen) × AreFirst got (drop 24 (drop seen.length came)))

-- a front header that is written (PROXY protocol, version 2): of two ends, and of an identity that may be written, or of none
abbrev pub IsHeader : List ℕ → Type 0
IsHeader header =
    (source destination : Target) × (identity : Option Identity) × IfSome identity IsSent × (header ≡ front_text source destination identity)

-- behind these frames a frame is within what these of the peer grant, among which are as many SETTINGS as were acknowledged
pub record IsGranted (f : RawFrame) (front got : List RawFrame) : Type 0 where
  pub acknowledged : length (filter acknowledges front) ≤ length (filter sets_values got)
  pub fits : FitsWindows f front got

-- What goes on a link are these octets, and these frames behind them, of which the last may be in part. Where bytes go, each DATA frame
-- with payload whose first octet is among them is within what the peer granted by frames that came before
pub record KeepsWindows (opening : List ℕ) (Came : List RawFrame → List ℕ → Type 0) (frames : List RawFrame) (trace : List Entry) (l : ℕ)
    : Type 0 where
  pub went : IsFront (sent l trace) (opening ++ spelled frames)
  pub fit : (before : List Entry) (bytes : List ℕ) (after : List Entry) → trace ≡ before ++ e.Went l bytes ∷ after
      → (front : List RawFrame) (f : RawFrame) (behind : List RawFrame) → frames ≡ front ++ f ∷ behind
      → length (sent l before) ≤ length (opening ++ spelled front)
      → length (opening ++ spelled front) < length (sent l before) + length bytes → has_data f ≡ true
      → (got : List RawFrame) × Came got (recv l before) × IsGranted f front got

-- WINDOWS: so it is of each inbound link, whose frames are these, and of each link to the control plane, or to a gateway behind its front
-- header, with frames that stand behind the client's preface (RFC 9113 section 3.4)
pub record Windows (trace : List Entry) (frames : ℕ → List RawFrame) : Type 0 where
  pub inbound : (l : ℕ) → owner l trace ≡ inbound_link → KeepsWindows [] AreClients (frames l) trace l
  pub control : (d : ℕ) → IsControl d trace → (began : List RawFrame) × KeepsWindows octets AreFirst began trace d
  pub gateways : (n : ℕ) → owner n trace ≡ gateway_link
      → (header : List ℕ) × IsHeader header × (began : List RawFrame) × KeepsWindows (header ++ octets) AreFirst began trace n
