-- THE HEADLINE: what the whole proxy promises, said of the trace of its sockets alone.
use Rattle.std.specs.Prelude.{◌≡◌, ℕ, true, List, ◌∷◌, ◌++◌}
use Rattle.hb_base.specs.declared.door.Why.{Why}
use Rattle.hb_base.specs.declared.target.Target.{Target}
use Rattle.hb_frames.specs.RawFrame.{RawFrame}
use Rattle.hb_laws.specs.Lawful.{Lawful}
use Rattle.hb_laws.specs.RefusedTunnels.{is_more}
use Rattle.hb_model.specs.declared.config.NodeConfig.{NodeConfig}
use Rattle.hb_world.specs.declared.entry.Entry.{Entry}
use Rattle.hb_world.specs.declared.entry.Entry.TheVariants as e
use Rattle.hb_headline.specs.Access.{GoesAdmitted, Stands, TriesAdmitted}
use Rattle.hb_headline.specs.Buffers.{Buffers}
use Rattle.hb_headline.specs.Dials.{Upstreams}
use Rattle.hb_headline.specs.Held.{Applied, Holds, made_by}
use Rattle.hb_headline.specs.Relay.{Relays}
use Rattle.hb_headline.specs.Windows.{Windows}

pub record Headline (g : NodeConfig) (trace : List Entry) : Type 0 where
  -- the frames that begin on each inbound link, and the responses that are applied behind each front of the trace
  pub frames : ℕ → List RawFrame
  pub applied : List Entry → List Applied
  -- PREFIX: what went to each side of a plain link, and of a tunnel, is a front of what came from the other
  pub prefix : Relays trace frames
  -- DIALLED: the upstream of a tunnel was dialled for it, once; neither it nor a plain link has another one
  pub dialled : Upstreams trace
  -- HELD: what is held is what responses make that came from the control plane, none forged and none taken back
  pub held : Holds trace applied
  -- ADMITTED: no byte goes to a workload, and none back, unless what is held then admits the peer there
  pub admitted : (before : List Entry) (u : ℕ) (bytes : List ℕ) (after : List Entry) → trace ≡ before ++ e.Went u bytes ∷ after
      → GoesAdmitted (made_by g (applied before)) frames before u bytes
  -- TRIED: no link is dialled, for a tunnel or at the plain door, unless what is held then admits the peer there
  pub tried : (before : List Entry) (u : ℕ) (to : Target) (why : Why) (after : List Entry) → trace ≡ before ++ e.Dialled u to why ∷ after
      → TriesAdmitted (made_by g (applied before)) before to why
  -- REVOKED: where anything more comes, a link, an opening, bytes, an end, a tick or a wait, all that lives is admitted
  pub revoked : (before : List Entry) (z : Entry) (after : List Entry) → trace ≡ before ++ z ∷ after → is_more z ≡ true
      → Stands (made_by g (applied before)) before
  -- WINDOWS: no DATA frame begins, on any link that speaks HTTP/2, beyond what the peer granted by frames that came before
  pub windows : Windows trace frames
  -- BUFFERS: no more waits on a way of a plain link, or on the way down of a tunnel, than its ring has room for
  pub buffers : Buffers trace frames

-- each lawful trace meets it
abbrev pub LawfulKeepsTheHeadline : Type 0
LawfulKeepsTheHeadline = (g : NodeConfig) (trace : List Entry) → Lawful g trace → Headline g trace
