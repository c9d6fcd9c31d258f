-- No byte goes unless what is held then admits the peer: said of a trace.
use Rattle.std.specs.Prelude.{⊤, ◌≡◌, ◌≢◌, ℕ, ◌==◌, if◌then◌else◌, List, fold, true, None}
use Rattle.std.specs.List.{AllByRecursion}
use Rattle.hb_base.specs.declared.door.Door.{Door}
use Rattle.hb_base.specs.declared.door.Door.TheVariants as door
use Rattle.hb_base.specs.declared.door.Why.{Why}
use Rattle.hb_base.specs.declared.door.Why.TheVariants as whys
use Rattle.hb_base.specs.declared.peer.Peer.{Peer}
use Rattle.hb_base.specs.declared.target.Target.{Target}
use Rattle.hb_frames.specs.RawFrame.{RawFrame}
use Rattle.hb_front.specs.Reading.{Seen}
use Rattle.hb_held.specs.Held.{Resources}
use Rattle.hb_inbound.specs.Sides.{identity_told}
use Rattle.hb_outgoing.specs.Selected.{has_data}
use Rattle.hb_proxy.specs.Owners.{nobody, owner, upstream_of, inbound_link, plain_link, relay_of}
use Rattle.hb_table.specs.Judgement.{judged}
use Rattle.hb_table.specs.declared.judgement.Judged.TheVariants.{Admitted}
use Rattle.hb_world.specs.Trace.{lives}
use Rattle.hb_world.specs.declared.entry.Entry.{Entry}
use Rattle.hb_world.specs.declared.entry.Entry.TheVariants as e
use Rattle.hb_headline.specs.Dials.{IsDialled}
use Rattle.hb_headline.specs.Relay.{IsFronted, begin_with}

-- who a front header says that the peer of an inbound link is
abbrev pub peer_in : Seen → Peer
peer_in seen = record { ip = seen.source.ip; identity = identity_told seen.identity }

-- behind this trace these resources admit the peer of the link at the target to which the stream's upstream u was dialled
pub record Admits (held : Resources) (trace : List Entry) (l s u : ℕ) : Type 0 where
  pub seen : Seen
  pub fronted : IsFronted trace l seen
  pub to : Target
  pub dialled : IsDialled trace l s u to
  pub admitted : judged held (peer_in seen) to ≡ Admitted

-- and so they do at this target
pub record AdmitsTo (held : Resources) (trace : List Entry) (l : ℕ) (to : Target) : Type 0 where
  pub seen : Seen
  pub fronted : IsFronted trace l seen
  pub admitted : judged held (peer_in seen) to ≡ Admitted

-- each DATA frame with payload among these is of a stream whose upstream they admit the peer at
abbrev pub AreAdmitted : Resources → List Entry → ℕ → List RawFrame → Type 0
AreAdmitted held trace l frames =
    AllByRecursion (λ f. has_data f ≡ true → (u : ℕ) → owner u trace ≡ upstream_of l f.stream → Admits held trace l f.stream u) frames

-- PLAIN LINKS

-- the door at which a link was accepted
abbrev pub accepted_at : ℕ → Door → Entry → Door
accepted_at l d (e.Accepted k at) = if k == l then at else d
accepted_at l d _ = d

abbrev pub door_at : ℕ → List Entry → Door
door_at l trace = fold (accepted_at l) door.Plain trace

-- behind this trace these resources admit the peer of a plain link, of whom only the address is known, at the destination of its header
pub record AdmitsPlain (held : Resources) (trace : List Entry) (l : ℕ) : Type 0 where
  pub seen : Seen
  pub fronted : IsFronted trace l seen
  pub admitted : judged held (record { ip = seen.source.ip; identity = None }) seen.destination ≡ Admitted

-- TRIED: a link is dialled behind this trace. For a tunnel the peer is admitted at the target, and so is that of a link of the plain door
abbrev pub TriesAdmitted : Resources → List Entry → Target → Why → Type 0
TriesAdmitted held before to (whys.Upstream l s) = AdmitsTo held before l to
TriesAdmitted held before to (whys.Plain l) = AdmitsPlain held before l
TriesAdmitted held before to why = ⊤

-- ADMITTED: bytes go on the link u behind this trace, where these frames begin on each inbound link
pub record GoesAdmitted (held : Resources) (frames : ℕ → List RawFrame) (before : List Entry) (u : ℕ) (bytes : List ℕ) : Type 0 where
  -- u was accepted or dialled
  pub born : owner u before ≢ nobody
  -- u is the upstream of a tunnel: its peer is admitted where it was dialled
  pub up : (l s : ℕ) → owner u before ≡ upstream_of l s → Admits held before l s u
  -- u is an inbound link: each DATA frame that begins with the bytes is of a tunnel that is admitted
  pub down : owner u before ≡ inbound_link → AreAdmitted held before u (begin_with bytes u (frames u) before)
  -- u is a link of the plain door, or the upstream of one: its peer is admitted where its header said
  pub plain : owner u before ≡ plain_link → door_at u before ≡ door.Plain → AdmitsPlain held before u
  pub relay : (l : ℕ) → owner u before ≡ relay_of l → door_at l before ≡ door.Plain → AdmitsPlain held before l

-- REVOKED: where more comes behind this trace, each tunnel whose upstream lives is admitted, and so is each link of the plain door
pub record Stands (held : Resources) (before : List Entry) : Type 0 where
  pub tunnels : (l s u : ℕ) → owner u before ≡ upstream_of l s → lives u before ≡ true → Admits held before l s u
  pub plain : (l u : ℕ) → owner u before ≡ relay_of l → door_at l before ≡ door.Plain → lives u before ≡ true → AdmitsPlain held before l
