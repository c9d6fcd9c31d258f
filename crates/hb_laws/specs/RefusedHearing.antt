-- Small traces and runs in which the proxy doesn't hear what ends a link to the control plane.
use Rattle.std.specs.Prelude.{◌≡◌, ℕ, true, false, List, [], ◌∷◌, ◌++◌, Some}
use Rattle.hb_conn.specs.declared.found.Found.TheVariants.{Silent, Opened}
use Rattle.hb_frames.specs.RawFrame.{RawFrame}
use Rattle.hb_history.specs.Points as history
use Rattle.hb_hpack.specs.declared.header.Header.{Header}
use Rattle.hb_model.specs.Calls.{Was, is_opened_of, IsControl}
use Rattle.hb_model.specs.Discovery.{status_of}
use Rattle.hb_model.specs.Point as point
use Rattle.hb_model.specs.Point.{tellings}
use Rattle.hb_model.specs.declared.config.NodeConfig.{NodeConfig}
use Rattle.hb_proxy.specs.Points.{Point, of_control, entries, control_of}
use Rattle.hb_world.specs.Trace.{recv, lives}
use Rattle.hb_world.specs.declared.entry.Entry.{Entry}
use Rattle.hb_laws.specs.Lawful.{Lawful}
use Rattle.hb_laws.specs.Refused.{waits, settings_octets}

-- a frame that ends a link is looked at, and nothing is told of it
abbrev pub HearsNothingOf : RawFrame → Type 0
HearsNothingOf f =
    (g : NodeConfig) (trace : List Entry) (l : ℕ) (headers : List Header) (before behind : List Point) → (h : Lawful g trace)
    → h.points ≡ before ++ of_control (point.looked l (history.point (history.got f) Silent ∷ []) Silent headers) ∷ behind → ⊥

-- a GOAWAY that takes no stream, a RST_STREAM of the stream, HEADERS of it whose one header is `:status` with 404 (RFC 7541
-- Appendix A), DATA and HEADERS of it with END_STREAM
abbrev pub HearsNoGoaway : Type 0
HearsNoGoaway = HearsNothingOf (record { kind = 7; flags = 0; stream = 0; payload = 0 ∷ 0 ∷ 0 ∷ 0 ∷ 0 ∷ 0 ∷ 0 ∷ 0 ∷ [] })

abbrev pub HearsNoReset : Type 0
HearsNoReset = (code : List ℕ) → HearsNothingOf (record { kind = 3; flags = 0; stream = 1; payload = code })

abbrev pub HearsNoNotFound : Type 0
HearsNoNotFound = HearsNothingOf (record { kind = 1; flags = 4; stream = 1; payload = 141 ∷ [] })

abbrev pub HearsNoEnd : Type 0
HearsNoEnd = (bytes : List ℕ) → HearsNothingOf (record { kind = 0; flags = 1; stream = 1; payload = bytes })

abbrev pub HearsNoEndOfHeaders : Type 0
HearsNoEndOfHeaders = (block : List ℕ) → HearsNothingOf (record { kind = 1; flags = 5; stream = 1; payload = block })

-- SETTINGS came and these octets, and the link is kept over the next wait, whatever else the proxy did
abbrev pub KeepsAfter : List ℕ → Type 0
KeepsAfter octets =
    (g : NodeConfig) (before after : List Entry) → Lawful g (before ++ waits ∷ after) → IsControl 1 before → lives 1 before ≡ true
    → Was (is_opened_of 1) before → recv 1 before ≡ settings_octets ++ octets → ⊥

-- a RST_STREAM of the stream, an empty DATA frame of it with END_STREAM, and HEADERS with END_STREAM and `:status` 200
abbrev pub KeepsReset : Type 0
KeepsReset = KeepsAfter (0 ∷ 0 ∷ 4 ∷ 3 ∷ 0 ∷ 0 ∷ 0 ∷ 0 ∷ 1 ∷ 0 ∷ 0 ∷ 0 ∷ 8 ∷ [])

abbrev pub KeepsEndOfStream : Type 0
KeepsEndOfStream = KeepsAfter (0 ∷ 0 ∷ 0 ∷ 0 ∷ 1 ∷ 0 ∷ 0 ∷ 0 ∷ 1 ∷ [])

abbrev pub KeepsEndAtOnce : Type 0
KeepsEndAtOnce = KeepsAfter (0 ∷ 0 ∷ 1 ∷ 1 ∷ 5 ∷ 0 ∷ 0 ∷ 0 ∷ 1 ∷ 136 ∷ [])

-- the first that is told of a link are headers with a status 404, and it is kept over the next wait
abbrev pub KeepsNotFound : Type 0
KeepsNotFound =
    (g : NodeConfig) (trace : List Entry) (l : ℕ) (looks : List history.Point) (headers : List Header) (before between behind : List Point)
    → (h : Lawful g trace)
    → h.points ≡ before ++ of_control (point.looked l looks (Opened 1 false) headers)
    ∷ (between ++ of_control (point.entry waits) ∷ behind) → tellings l (control_of before) ≡ [] → status_of headers ≡ Some 404
    → lives l (entries (before ++ of_control (point.looked l looks (Opened 1 false) headers) ∷ between)) ≡ true → ⊥
