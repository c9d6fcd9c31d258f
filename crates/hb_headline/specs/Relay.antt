-- What went to each side is a front of what came from the other: said of a trace.
use Rattle.std.specs.Prelude.{◌≡◌, ◌≢◌, ◌⊎◌, ℕ, ◌+◌, ◌==◌, ◌&&◌, if◌then◌else◌, List, [], ◌∷◌, ◌++◌, length, drop}
use Rattle.std.specs.List.{flat_map}
use Rattle.hb_frames.specs.Bodies.{lent_of}
use Rattle.hb_frames.specs.Frames.{Joins}
use Rattle.hb_frames.specs.Numbers.{data_kind}
use Rattle.hb_frames.specs.RawFrame.{RawFrame}
use Rattle.hb_front.specs.Reading.{Seen, IsAnswer, Whole}
use Rattle.hb_kept.specs.Payloads.{Began, payloads}
use Rattle.hb_outgoing.specs.Written.{begun_in}
use Rattle.hb_proxy.specs.Owners.{owner, inbound_link, upstream_of, relay_of}
use Rattle.hb_world.specs.Trace.{recv, sent}
use Rattle.hb_world.specs.declared.entry.Entry.{Entry}

-- some bytes are a front of all
pub record IsFront (some all : List ℕ) : Type 0 where
  pub rest : List ℕ
  pub is : all ≡ some ++ rest

-- a whole front header stands in front of what came on the link, and says this (PROXY protocol, version 2)
abbrev pub IsFronted : List Entry → ℕ → Seen → Type 0
IsFronted trace l seen = IsAnswer (recv l trace) (Whole seen)

-- A PLAIN LINK

-- these bytes are a front of what came on the link behind its front header
pub record IsBehindHeader (trace : List Entry) (l : ℕ) (bytes : List ℕ) : Type 0 where
  pub seen : Seen
  pub fronted : IsFronted trace l seen
  pub front : IsFront bytes (drop seen.length (recv l trace))

-- to its upstream goes nothing, or what came behind its header; to it goes what came from the upstream
pub record PlainRelays (trace : List Entry) : Type 0 where
  pub up : (l u : ℕ) → owner u trace ≡ relay_of l → (sent u trace ≡ []) ⊎ IsBehindHeader trace l (sent u trace)
  pub down : (l u : ℕ) → owner u trace ≡ relay_of l → IsFront (sent l trace) (recv u trace)

-- A TUNNEL, UP

-- the octets of DATA of a stream, without padding: of a frame, and of frames in order
abbrev pub data_in : ℕ → RawFrame → List ℕ
data_in s f = if f.kind == data_kind && f.stream == s then lent_of f else []

abbrev pub data_on : ℕ → List RawFrame → List ℕ
data_on s frames = flat_map (data_in s) frames

-- what went to the upstream u of a stream is a front of the DATA that came on the stream, in frames that stand behind the link's front
-- header and the client's preface (RFC 9113 sections 3.4 and 6.1)
pub record TunnelRelaysUp (trace : List Entry) (l s u : ℕ) : Type 0 where
  pub seen : Seen
  pub fronted : IsFronted trace l seen
  pub frames : List RawFrame
  pub partial : List ℕ
  pub framed : Joins frames partial (drop 24 (drop seen.length (recv l trace)))
  pub front : IsFront (sent u trace) (data_on s frames)

-- A TUNNEL, DOWN

-- of all frames that begin on a link, those of which an octet has gone behind a front of the trace; and those that begin with more bytes
abbrev pub begun_on : ℕ → List RawFrame → List Entry → List RawFrame
begun_on l frames before = begun_in (length (sent l before)) frames

abbrev pub begin_with : List ℕ → ℕ → List RawFrame → List Entry → List RawFrame
begin_with bytes l frames before =
    drop (length (begun_on l frames before)) (begun_in (length (sent l before) + length bytes) frames)

-- What goes on an inbound link is these frames, one list for the link's whole life and for all its streams, of which the last may be in
-- part. Behind each front of the trace, the DATA of a stream in those that have begun, a last one counted whole, is a front of what came
-- by then from the stream's upstream; and there is none on a stream that has no upstream then
pub record LinkRelaysDown (trace : List Entry) (l : ℕ) (frames : List RawFrame) : Type 0 where
  pub began : Began (sent l trace) frames
  pub fronts : (before after : List Entry) → trace ≡ before ++ after → (s u : ℕ) → owner u before ≡ upstream_of l s
      → IsFront (payloads s (begun_on l frames before)) (recv u before)
  pub none : (before after : List Entry) → trace ≡ before ++ after → owner l before ≡ inbound_link → (s : ℕ)
      → ((u : ℕ) → owner u before ≢ upstream_of l s) → payloads s (begun_on l frames before) ≡ []

-- THE PREFIX, behind each front of the trace, where these are the frames that begin on each inbound link
pub record Relays (trace : List Entry) (frames : ℕ → List RawFrame) : Type 0 where
  pub plain : (before after : List Entry) → trace ≡ before ++ after → PlainRelays before
  pub up : (before after : List Entry) → trace ≡ before ++ after → (l s u : ℕ) → owner u before ≡ upstream_of l s
      → (sent u before ≡ []) ⊎ TunnelRelaysUp before l s u
  pub down : (l : ℕ) → owner l trace ≡ inbound_link → LinkRelaysDown trace l (frames l)

-- Why one list is fixed: the octets that went don't tell it, since of the last frame the octets behind them may be any. Here one octet
-- went, and the frame may be DATA of stream 1 with one octet or another
abbrev pub data_with : ℕ → RawFrame
data_with octet = record { kind = data_kind; flags = 0; stream = 1; payload = octet ∷ [] }

abbrev pub BeganIsNotOne : Type 0
BeganIsNotOne = (a b : ℕ) → Began (0 ∷ []) (data_with a ∷ []) × Began (0 ∷ []) (data_with b ∷ [])
    × (payloads 1 (data_with a ∷ []) ≡ a ∷ []) × (payloads 1 (data_with b ∷ []) ≡ b ∷ [])
