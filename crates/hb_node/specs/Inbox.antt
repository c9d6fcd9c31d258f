-- What is heard of a connection, and what it makes of the resources held and of a link's inbox.
use Rattle.std.specs.Prelude.{⊤, ◌≡◌, ℕ, ◌≤◌, nat_lt, Bool, true, false, if◌then◌else◌, List, [], ◌∷◌, ◌++◌, length, drop, Option, Some, None, Result, Ok, Err}
use Rattle.hb_base.specs.declared.cause.Cause.{Cause}
use Rattle.hb_base.specs.declared.cause.Cause.TheVariants as cause
use Rattle.hb_base.specs.declared.or.Or.{Or}
use Rattle.hb_base.specs.declared.or.Or.TheVariants as or
use Rattle.hb_grpc.specs.Message.{spelling}
use Rattle.hb_grpc.specs.Reading.{Framing, fed, answer}
use Rattle.hb_grpc.specs.declared.fault.GrpcFault.{GrpcFault}
use Rattle.hb_disco.specs.Response.{response_of}
use Rattle.hb_disco.specs.declared.response.Response.{Response}
use Rattle.hb_disco.specs.declared.response.ResponseFault.{ResponseFault}
use Rattle.hb_held.specs.Held.{Resources}
use Rattle.hb_hpack.specs.declared.header.Header.{Header}
use Rattle.hb_conn.specs.declared.happening.Happening.{Happening}
use Rattle.hb_conn.specs.declared.happening.Happening.TheVariants.{Opened, Chunk, Ended, Reset, Broken, GoneAway, Fault}
use Rattle.hb_model.specs.Discovery.{stream, status_of, is_accepted, end_by_headers, answer_to}
use Rattle.hb_node.specs.declared.inbox.Inbox.{Inbox}
use Rattle.hb_node.specs.Judging.{Judges, Seen, Applies}
use Rattle.hb_node.specs.declared.inbox.Heard.{Heard}
use Rattle.hb_node.specs.declared.inbox.Front.{Front}
use Rattle.hb_node.specs.declared.inbox.Front.TheVariants.{Applied, Refused, Lacking}

-- the message in front of DATA and how many of its bytes it takes, none where no whole one is there, or a fault
abbrev pub TellsNext : Framing → List ℕ → Result (Option (ℕ × List ℕ)) (Or GrpcFault) → Type 0
TellsNext f chunk (Ok (Some given)) = answer f chunk ≡ Ok (record { taken = given.0; message = Some given.1 })
TellsNext f chunk (Ok None) = answer f chunk ≡ Ok (record { taken = length chunk; message = None })
TellsNext f chunk (Err (or.Fault fault)) = answer f chunk ≡ Err fault
TellsNext f chunk (Err or.NoMemory) = ⊤

-- the answer to a response waits
abbrev pub with_answer : Resources → Response → Inbox → Inbox
with_answer held r box = record box { waiting = box.waiting ++ spelling (answer_to held r) }

-- a message is a response, which is applied and answered, or it is none
abbrev pub TakesMessage : {J : Type 0} → Judges J → Seen J → Inbox → List ℕ → Bool → Seen J → Inbox → Type 0
TakesMessage judges before box message true after new_box =
    (r : Response) × (response_of message ≡ Ok r) × Applies judges r before after × (new_box ≡ with_answer before.held r box)
TakesMessage judges before box message false after new_box =
    (fault : ResponseFault) × (response_of message ≡ Err fault) × (after ≡ before)

-- DATA was fed
abbrev pub with_fed : List ℕ → Inbox → Inbox
with_fed chunk box = record box { framer = fed box.framer chunk }

-- the message in front of DATA is no response, or there is no message
pub data Refuses (f : Framing) (chunk : List ℕ) : Type 0 where
  no_response : (message : List ℕ) (n : ℕ) (fault : ResponseFault)
      → answer f chunk ≡ Ok (record { taken = n; message = Some message }) → response_of message ≡ Err fault → Refuses f chunk
  no_message : (fault : GrpcFault) → answer f chunk ≡ Err fault → Refuses f chunk

-- what stands in front of DATA: a response, which is applied and answered; what is refused; or a part of a message
abbrev pub TakesFront : {J : Type 0} → Judges J → Seen J → Inbox → List ℕ → Front → Seen J → Inbox → Type 0
TakesFront judges before box chunk (Applied n) after new_box =
    (message : List ℕ) × (answer box.framer chunk ≡ Ok (record { taken = n; message = Some message }))
    × TakesMessage judges before (with_fed chunk box) message true after new_box
TakesFront judges before box chunk Refused after new_box = Refuses box.framer chunk × (after ≡ before)
TakesFront judges before box chunk Lacking after new_box =
    (answer box.framer chunk ≡ Ok (record { taken = length chunk; message = None })) × (after ≡ before)
    × (new_box ≡ with_fed chunk box)

-- a response has no more bytes than there are
abbrev pub IsWithin : Front → List ℕ → Type 0
IsWithin (Applied n) chunk = n ≤ length chunk
IsWithin _ chunk = ⊤

-- the messages of DATA are taken one after another, up to one that is refused, or to a part of one
pub data TakesAll {J : Type 0} (judges : Judges J) : Seen J → Inbox → List ℕ → Bool → Seen J → Inbox → Type 0 where
  lacks : {before after : Seen J} {box new_box : Inbox} {chunk : List ℕ} {whole : Bool}
      → TakesFront judges before box chunk Lacking after new_box → whole ≡ true → TakesAll judges before box chunk whole after new_box
  refuses : {before after : Seen J} {box new_box : Inbox} {chunk : List ℕ} {whole : Bool}
      → TakesFront judges before box chunk Refused after new_box → whole ≡ false → TakesAll judges before box chunk whole after new_box
  applies : {before after : Seen J} {box new_box : Inbox} {chunk : List ℕ} {whole : Bool}
      → (n : ℕ) (mid : Seen J) (mid_box : Inbox)
      → TakesFront judges before box chunk (Applied n) mid mid_box
      → TakesAll judges mid mid_box (drop n chunk) whole after new_box
      → TakesAll judges before box chunk whole after new_box

-- a link ends, or goes on
abbrev pub ends : Option Cause → Heard
ends end = record { more = true; accepted = false; end = end; counted = 0 }

-- what is heard of headers
abbrev pub headers_heard : Bool → List Header → Bool → Heard
headers_heard answered headers end = record {
  more = true;
  accepted = is_accepted (status_of headers);
  end = end_by_headers answered (status_of headers) end;
  counted = 0;
}

-- what is heard of anything but DATA
abbrev pub heard_of : Bool → Option Happening → Heard
heard_of answered None = record { more = false; accepted = false; end = None; counted = 0 }
heard_of answered (Some (Opened s headers end)) = headers_heard answered headers.now.kept end
heard_of answered (Some (Chunk s bytes)) = ends None
heard_of answered (Some (Ended s)) = ends (Some cause.Discovery)
heard_of answered (Some (Reset s code)) = ends (Some cause.Discovery)
heard_of answered (Some (Broken s code)) = ends (Some cause.Discovery)
heard_of answered (Some (GoneAway last)) = ends (if nat_lt last stream then Some cause.GoneAway else None)
heard_of answered (Some (Fault code)) = ends (Some (cause.ConnFault code))

-- what is heard of DATA that has octets
abbrev pub data_heard : List ℕ → Bool → Heard
data_heard chunk whole =
    record { more = true; accepted = false; end = if whole then None else Some cause.Discovery; counted = length chunk }

abbrev pub HearsData : {J : Type 0} → Judges J → Seen J → Inbox → List ℕ → Heard → Seen J → Inbox → Type 0
HearsData judges before box [] heard after new_box = (heard ≡ ends None) × (after ≡ before) × (new_box ≡ box)
HearsData judges before box (b ∷ bytes) heard after new_box =
    (whole : Bool) × TakesAll judges before box (b ∷ bytes) whole after new_box × (heard ≡ data_heard (b ∷ bytes) whole)

-- DATA is taken, and of all else is heard what it is
abbrev pub Hears : {J : Type 0} → Judges J → Seen J → Inbox → Bool → Option Happening → Heard → Seen J → Inbox → Type 0
Hears judges before box answered (Some (Chunk s bytes)) heard after new_box = HearsData judges before box bytes.now heard after new_box
Hears judges before box answered told heard after new_box = (heard ≡ heard_of answered told) × (after ≡ before) × (new_box ≡ box)
