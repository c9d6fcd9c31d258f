-- The input of a command: gRPC messages (gRPC over HTTP/2, "Length-Prefixed-Message"), each a response.
use Rattle.std.specs.Prelude.{ℕ, ◌+◌, ◌==◌, Bool, true, false, List, [], ◌∷◌, ◌++◌, length, take, drop, Option, Some, None, Result, Ok}
use Rattle.std.specs.Prelude.{Err, if◌then◌else◌}
use Rattle.hb_wire.specs.Message.{and_then}
use Rattle.hb_disco.specs.declared.response.Response.{Response}
use Rattle.hb_disco.specs.declared.response.ResponseFault.{ResponseFault}
use Rattle.hb_disco.specs.Response.{response_of}
use Rattle.hb_grpc.specs.declared.fault.GrpcFault.{GrpcFault}
use Rattle.hb_grpc.specs.declared.fault.GrpcFault.TheVariants as framing
use Rattle.hb_grpc.specs.Framed.{framed_of}
use Rattle.hb_grpc.specs.Reading.{first_of}
use Rattle.hb_held.specs.Held.{Resources, no_doors, nothing_held}
use Rattle.hb_held.specs.Outcome.{after_response, outcome_of}
use Rattle.hb_lines.specs.Outcome.{outcome_text}
use Rattle.hb_cli.specs.declared.input.Refused.{Refused}
use Rattle.hb_cli.specs.declared.input.Refused.TheVariants.{Message}
use Rattle.hb_cli.specs.declared.input.InputWhy.{InputWhy}
use Rattle.hb_cli.specs.declared.input.InputWhy.TheVariants.{Compressed, TooLong, CutShort, NotAResponse}

-- the most bytes of an input, and of a message
abbrev pub longest_input : ℕ
longest_input = 67108864

-- what responses leave: the resources held, and the lines that tell what each response did
pub record Leaves : Type 0 where
  pub held : Resources
  pub told : List ℕ

-- the line of a response, where lines are wanted
abbrev pub told_of : Bool → Resources → Response → List ℕ
told_of true held r = outcome_text r.kind r.nonce (outcome_of held r)
told_of false held r = []

-- after one more response
abbrev pub with_response : Bool → Leaves → Response → Leaves
with_response tells l r = record { held = after_response l.held r; told = l.told ++ told_of tells l.held r }

abbrev pub response_or : Result Response ResponseFault → Result Response InputWhy
response_or (Ok r) = Ok r
response_or (Err fault) = Err NotAResponse

-- after one more message
abbrev pub with_message : Bool → Leaves → List ℕ → Result Leaves InputWhy
with_message tells l m = and_then (response_or (response_of m)) (λ r. Ok (with_response tells l r))

-- why what is left behind the messages is no message; nothing is left where it isn't
abbrev pub why_of : Result (Option ℕ) GrpcFault → Option InputWhy → Option InputWhy
why_of (Err (framing.Compressed flag)) short = Some Compressed
why_of (Err (framing.TooLong size)) short = Some TooLong
why_of (Ok _) short = short

abbrev pub rest_why : List ℕ → Option InputWhy
rest_why rest = why_of (first_of longest_input rest) (if length rest == 0 then None else Some CutShort)

abbrev pub at_message : {A : Type 0} → ℕ → Result A InputWhy → Result A Refused
at_message k (Ok x) = Ok x
at_message k (Err why) = Err (Message k why)

-- what these messages leave, of which the first is number k, or the first that is refused: the rest is refused last
abbrev pub left_after : Bool → ℕ → Leaves → List (List ℕ) → Option InputWhy → Result Leaves Refused
left_after tells k l [] None = Ok l
left_after tells k l [] (Some why) = Err (Message k why)
left_after tells k l (m ∷ ms) rest = and_then (at_message k (with_message tells l m)) (λ next. left_after tells (k + 1) next ms rest)

-- what the messages of bytes leave, of which the first is number k
abbrev pub left_through : Bool → ℕ → Leaves → List ℕ → Result Leaves Refused
left_through tells k l bytes =
    left_after tells k l (framed_of longest_input bytes).messages (rest_why (framed_of longest_input bytes).rest)

-- nothing is held, and nothing is told
abbrev pub none_left : List ℕ → List ℕ → Leaves
none_left network node = record { held = nothing_held network node no_doors; told = [] }

-- what an input leaves at a node of a network, or the first of its messages, counted from 1, that is refused
unfoldable pub left_by : Bool → List ℕ → List ℕ → List ℕ → Result Leaves Refused
left_by tells network node input = left_through tells 1 (none_left network node) input

-- the message in front of bytes and how many of them it takes, or why there is none
abbrev pub front_by : List ℕ → Result (Option ℕ) GrpcFault → Result (ℕ × List ℕ) InputWhy
front_by bytes (Ok (Some size)) = Ok (5 + size, take size (drop 5 bytes))
front_by bytes (Ok None) = Err CutShort
front_by bytes (Err (framing.Compressed flag)) = Err Compressed
front_by bytes (Err (framing.TooLong size)) = Err TooLong

abbrev pub front_of : List ℕ → Result (ℕ × List ℕ) InputWhy
front_of bytes = front_by bytes (first_of longest_input bytes)

-- after the message in front, and how many bytes it takes
abbrev pub with_front : Bool → Leaves → List ℕ → Result (ℕ × Leaves) InputWhy
with_front tells l bytes =
    and_then (front_of bytes) (λ f. and_then (with_message tells l f.1) (λ next. Ok (f.0, next)))
