-- The responses of the control plane, and the resources held.
use Rattle.std.specs.Prelude.{◌≡◌, ℕ, ◌==◌, true, if◌then◌else◌, List, [], ◌∷◌, ◌++◌, fold, map, None, Result, Ok}
use Rattle.std.specs.List.{flat_map}
use Rattle.hb_grpc.specs.Framed.{framed_of}
use Rattle.hb_disco.specs.Response.{response_of}
use Rattle.hb_disco.specs.declared.response.Response.{Response}
use Rattle.hb_disco.specs.declared.response.ResponseFault.{ResponseFault}
use Rattle.hb_held.specs.Held.{Resources, nothing_held}
use Rattle.hb_held.specs.Outcome.{after_response}
use Rattle.hb_model.specs.declared.config.NodeConfig.{NodeConfig}
use Rattle.hb_model.specs.Discovery.{longest_message}
use Rattle.hb_world.specs.Trace.{lives}
use Rattle.hb_world.specs.declared.entry.Entry.{Entry}
use Rattle.hb_model.specs.Calls.{AtEntry, IsControl}
use Rattle.hb_model.specs.Ends.{end_of}
use Rattle.hb_model.specs.Point.{Point, applied, entries, moves, data_in}

-- the DATA that came on a link's stream
abbrev pub data_came : ℕ → List Point → List ℕ
data_came l points = flat_map data_in (moves l points)

-- the responses of a link that were applied
abbrev pub response_in : ℕ → Point → List Response
response_in l (applied k r) = if k == l then r ∷ [] else []
response_in l _ = []

abbrev pub responses : ℕ → List Point → List Response
responses l points = flat_map (response_in l) points

-- what a point makes of the resources held
abbrev pub held_by : Resources → Point → Resources
held_by held (applied l r) = after_response held r
held_by held _ = held

-- the resources held after some points: those of all responses that were applied, in order
abbrev pub held : NodeConfig → List Point → Resources
held g points = fold held_by (nothing_held g.network g.node g.doors) points

-- what the messages of the DATA that came on a link are read as
abbrev pub messages_came : ℕ → List Point → List (Result Response ResponseFault)
messages_came l points = map response_of (framed_of longest_message (data_came l points)).messages

-- the responses applied are the first messages
pub record AreApplied (points : List Point) (l : ℕ) : Type 0 where
  pub more : List (Result Response ResponseFault)
  pub read : messages_came l points ≡ map Ok (responses l points) ++ more

abbrev pub MessagesLaw : List Point → Type 0
MessagesLaw points = (l : ℕ) → IsControl l (entries points) → AreApplied points l

-- Each response is applied in the read that completes it: at each entry all messages are, on each link to the control plane that
-- lives and hasn't ended
abbrev pub AllMayBeApplied : List Point → Entry → Type 0
AllMayBeApplied before e =
    (l : ℕ) → IsControl l (entries before) → lives l (entries before) ≡ true → end_of l before ≡ None
    → messages_came l before ≡ map Ok (responses l before)

abbrev pub AppliedAtOnceLaw : List Point → Type 0
AppliedAtOnceLaw points = AtEntry AllMayBeApplied points
