-- A life of a tunnel that meets the headline.
use Rattle.std.specs.Prelude.{◌≡◌, ℕ, ◌<◌, List, [], ◌∷◌, ◌++◌, length, map, None, Ok}
use Rattle.hb_base.specs.declared.door.Door.TheVariants as door
use Rattle.hb_base.specs.declared.door.Why.TheVariants as whys
use Rattle.hb_base.specs.declared.target.Target.{Target}
use Rattle.hb_conn.specs.Preface.{octets}
use Rattle.hb_disco.specs.Response.{response_of}
use Rattle.hb_disco.specs.declared.response.Response.{Response}
use Rattle.hb_frames.specs.Numbers.{data_kind}
use Rattle.hb_frames.specs.RawFrame.{RawFrame, spelling}
use Rattle.hb_front.specs.Written.{front_text}
use Rattle.hb_grpc.specs.Framed.{framed_of}
use Rattle.hb_held.specs.Outcome.{after_response}
use Rattle.hb_laws.specs.Good.{source, destination}
use Rattle.hb_model.specs.Discovery.{longest_message}
use Rattle.hb_model.specs.declared.config.NodeConfig.{NodeConfig}
use Rattle.hb_proxy.specs.Held.{at_start}
use Rattle.hb_table.specs.Judgement.{judged}
use Rattle.hb_table.specs.declared.judgement.Judged.TheVariants.{Admitted}
use Rattle.hb_world.specs.declared.entry.Entry.{Entry}
use Rattle.hb_world.specs.declared.entry.Entry.TheVariants as e
use Rattle.hb_headline.specs.Headline.{Headline}
use Rattle.hb_headline.specs.Relay.{data_with}

-- DATA of stream 1 with this payload
abbrev pub data_of : List ℕ → RawFrame
data_of payload = record { kind = data_kind; flags = 0; stream = 1; payload = payload }

-- The control plane sends DATA. A link of 10.0.0.1 is accepted, on which a front header came, the preface, and DATA of stream 1 with one
-- octet; that octet goes to the upstream that is dialled for the stream. The upstream sends an octet, which goes back in DATA of the stream
abbrev pub told_so : Target → List ℕ → List Entry
told_so at bytes = e.Dialled 1 at whys.Discovery ∷ e.Opened 1 ∷ e.Came 1 (spelling (data_of bytes)) ∷ []

abbrev pub tunnelled : Target → ℕ → List Entry
tunnelled to up =
    e.Accepted 2 door.Inbound ∷ e.Came 2 (front_text source destination None ++ (octets ++ spelling (data_with up)))
    ∷ e.Dialled 3 to (whys.Upstream 2 1) ∷ e.Opened 3 ∷ []

abbrev pub life : (at to : Target) → List ℕ → (up down : ℕ) → List Entry
life at to bytes up down =
    told_so at bytes ++ (tunnelled to up ++ e.Went 3 (up ∷ []) ∷ e.Came 3 (down ∷ []) ∷ e.Went 2 (spelling (data_with down)) ∷ [])

-- it meets the headline wherever that DATA is one response that admits 10.0.0.1, of whom no identity is told, at the upstream
abbrev pub LifeMeetsTheHeadline : Type 0
LifeMeetsTheHeadline = (g : NodeConfig) (at to : Target) (bytes : List ℕ) (r : Response) (up down : ℕ) → length bytes < 16777216
    → map response_of (framed_of longest_message bytes).messages ≡ Ok r ∷ []
    → judged (after_response (at_start g) r) (record { ip = source.ip; identity = None }) to ≡ Admitted
    → Headline g (life at to bytes up down)
