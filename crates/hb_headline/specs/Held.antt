-- What is held is what responses make that came from the control plane: said of a trace.
use Rattle.std.specs.Prelude.{◌≡◌, ℕ, ◌==◌, true, if◌then◌else◌, List, [], ◌∷◌, ◌++◌, fold, map, Result, Ok}
use Rattle.std.specs.List.{flat_map, AllByRecursion}
use Rattle.hb_disco.specs.declared.response.Response.{Response}
use Rattle.hb_disco.specs.Response.{response_of}
use Rattle.hb_disco.specs.declared.response.ResponseFault.{ResponseFault}
use Rattle.hb_frames.specs.Frames.{AreFrames, Joins}
use Rattle.hb_frames.specs.RawFrame.{RawFrame}
use Rattle.hb_grpc.specs.Framed.{framed_of}
use Rattle.hb_held.specs.Held.{Resources}
use Rattle.hb_held.specs.Outcome.{after_response}
use Rattle.hb_laws.specs.RefusedTunnels.{is_more}
use Rattle.hb_model.specs.Calls.{Was, is_opened_of, IsControl}
use Rattle.hb_model.specs.Discovery.{longest_message}
use Rattle.hb_model.specs.declared.config.NodeConfig.{NodeConfig}
use Rattle.hb_proxy.specs.Held.{at_start}
use Rattle.hb_world.specs.Trace.{recv, lives}
use Rattle.hb_world.specs.declared.entry.Entry.{Entry}
use Rattle.hb_headline.specs.Relay.{IsFront, data_on}

-- a response that was applied, and the link to the control plane on which it came
pub record Applied : Type 0 where
  pub link : ℕ
  pub response : Response

abbrev pub on_link : ℕ → Applied → List Response
on_link d a = if a.link == d then a.response ∷ [] else []

-- what responses make, one after the other, of what is held at the start
abbrev pub apply : Resources → Applied → Resources
apply held a = after_response held a.response

abbrev pub made_by : NodeConfig → List Applied → Resources
made_by g applied = fold apply (at_start g) applied

-- these responses are the first messages of a front of the DATA that came on the stream of a link to the control plane
pub record AreRead (trace : List Entry) (d : ℕ) (responses : List Response) : Type 0 where
  pub frames : List RawFrame
  pub partial : List ℕ
  pub framed : Joins frames partial (recv d trace)
  pub came : List ℕ
  pub front : IsFront came (data_on 1 frames)
  pub more : List (Result Response ResponseFault)
  pub read : map response_of (framed_of longest_message came).messages ≡ map Ok responses ++ more

-- these responses are all messages of all DATA that came on the stream of a link to the control plane, in frames that came whole
pub record AllRead (trace : List Entry) (d : ℕ) (responses : List Response) : Type 0 where
  pub frames : List RawFrame
  pub partial : List ℕ
  pub framed : AreFrames (recv d trace) frames partial
  pub read : map response_of (framed_of longest_message (data_on 1 frames)).messages ≡ map Ok responses

-- none of these is forged: each came on a link to the control plane, and those of each such link are the first that came on it
pub record AreTold (trace : List Entry) (applied : List Applied) : Type 0 where
  pub only : AllByRecursion (λ a. IsControl a.link trace) applied
  pub first : (d : ℕ) → IsControl d trace → AreRead trace d (flat_map (on_link d) applied)

-- WHAT IS HELD behind each front of a trace, by the responses that are applied there: none is forged, none is
-- taken back later, and each is applied at once: where more comes, a link, an opening, bytes, an end, a tick or a wait, all are that came
-- on a link to the control plane that lives and is open
pub record Holds (trace : List Entry) (applied : List Entry → List Applied) : Type 0 where
  pub told : (before after : List Entry) → trace ≡ before ++ after → AreTold before (applied before)
  pub grows : (before more after : List Entry) → trace ≡ before ++ (more ++ after)
      → (later : List Applied) × (applied (before ++ more) ≡ applied before ++ later)
  pub at_once : (before : List Entry) (z : Entry) (after : List Entry) → trace ≡ before ++ z ∷ after → is_more z ≡ true
      → (d : ℕ) → IsControl d before → lives d before ≡ true → Was (is_opened_of d) before
      → AllRead before d (flat_map (on_link d) (applied before))
