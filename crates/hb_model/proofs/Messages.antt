-- The messages of the DATA that came on a link.
use Rattle.std.proofs.Common.{◌≡◌, ℕ, ◌+◌, ◌-◌, false, List, [], ◌∷◌, ◌++◌, length, take, drop, map, Option, Some, None, Result, Ok, Err, refl, ap, ap₂, sym, ◌∙◌, subst, arith, length-append, length-drop}
use Rattle.std.specs.Prelude.{nat_lt}
use Rattle.std.proofs.lemmas.Bool.Decides.{nat_tests}
use Rattle.std.proofs.lemmas.List.{append_assoc, append-nil, take-append-le, drop-append-le, map-append}
use Rattle.hb_grpc.specs.Framed.{Framed, framed_of}
use Rattle.hb_grpc.specs.Reading.{Framing, announced, whole_of, first_of, held_of, fed, answer, answer_of}
use Rattle.hb_grpc.specs.declared.fault.GrpcFault.{GrpcFault}
use Rattle.hb_grpc.specs.declared.framer.Fed.{Fed}
use Rattle.hb_grpc.proofs.Fronts.{announced_front, drop_joined}
use Rattle.hb_grpc.proofs.Runs.{Waits, waits_again, whole_told, short_of_whole}
use Rattle.hb_grpc.proofs.Whole.{framed_message}
use Rattle.hb_disco.specs.Response.{response_of}
use Rattle.hb_disco.specs.declared.response.Response.{Response}
use Rattle.hb_model.specs.Discovery.{longest_message}

-- a message that stands in front of some bytes stands there whatever comes behind them
first_more : (limit size : ℕ) (bytes more : List ℕ) → first_of limit bytes ≡ Ok (Some size)
    → first_of limit (bytes ++ more) ≡ Ok (Some size)
first_more limit size bytes more is =
    let told = whole_told bytes (announced limit bytes) size is in
    let whole = told.1 in
    let same : announced limit (bytes ++ more) ≡ Ok (Some size) =
    sym (announced_front limit (bytes ++ more)) ∙ ap (announced limit) (take-append-le 5 bytes more (omega (arith, whole)))
    ∙ announced_front limit bytes ∙ told.0 in
    let long = length-append bytes more in
    let test : nat_lt (length (bytes ++ more)) (5 + size) ≡ false = grind (arith, nat_tests, whole, long) in
    ap (whole_of (bytes ++ more)) same ∙ rw test refl

-- whatever comes behind them, the messages of these octets are these, and those of the rest
abbrev pub ReadsAs : List ℕ → List (List ℕ) → List ℕ → Type 0
ReadsAs octets messages rest = (more : List ℕ)
    → (framed_of longest_message (octets ++ more)).messages ≡ messages ++ (framed_of longest_message (rest ++ more)).messages

reads_more : (octets rest bytes : List ℕ) (messages : List (List ℕ)) → ReadsAs octets messages rest
    → ReadsAs (octets ++ bytes) messages (rest ++ bytes)
reads_more octets rest bytes messages reads more =
    ap (λ xs. (framed_of longest_message xs).messages) (append_assoc octets bytes more) ∙ reads (bytes ++ more)
    ∙ ap (λ xs. messages ++ (framed_of longest_message xs).messages) (sym (append_assoc rest bytes more))

reads_message : (octets rest : List ℕ) (messages : List (List ℕ)) (size : ℕ) → first_of longest_message rest ≡ Ok (Some size)
    → ReadsAs octets messages rest → ReadsAs octets (messages ++ take size (drop 5 rest) ∷ []) (drop (5 + size) rest)
reads_message octets rest messages size is reads more =
    let whole = (whole_told rest (announced longest_message rest) size is).1 in
    let behind : drop (5 + size) (rest ++ more) ≡ drop (5 + size) rest ++ more = drop-append-le (5 + size) rest more whole in
    let header : drop 5 (rest ++ more) ≡ drop 5 rest ++ more = drop-append-le 5 rest more (omega (arith, whole)) in
    let body : take size (drop 5 (rest ++ more)) ≡ take size (drop 5 rest) =
    ap (take size) header ∙ take-append-le size (drop 5 rest) more (omega (arith, whole, length-drop 5 rest)) in
    reads more
    ∙ ap (λ (f : Framed). messages ++ f.messages)
    (framed_message longest_message size (rest ++ more) (first_more longest_message size rest more is))
    ∙ ap₂ (λ (m : List ℕ) (xs : List ℕ). messages ++ m ∷ (framed_of longest_message xs).messages) body behind
    ∙ sym (append_assoc messages (take size (drop 5 rest) ∷ []) _)

-- what is held of the DATA that came on a link, and what was made of it
pub record AreRead (framing : Framing) (chunk octets : List ℕ) (applied : List Response) : Type 0 where
  pub messages : List (List ℕ)
  pub limit : framing.limit ≡ longest_message
  pub waits : Waits longest_message framing.held
  pub reads : ReadsAs octets messages (framing.held ++ chunk)
  pub responses : map response_of messages ≡ map Ok applied

pub nothing_read : AreRead (record { limit = longest_message; held = [] }) [] [] []
nothing_read = record { messages = []; limit = refl; waits = refl; reads = λ more. refl; responses = refl }

-- DATA is handed out where none is in hand
pub chunk_read : (framing : Framing) (octets chunk bytes : List ℕ) (applied : List Response) → chunk ≡ []
    → AreRead framing chunk octets applied → AreRead framing bytes (octets ++ bytes) applied
chunk_read framing octets chunk bytes applied none read = record {
  messages = read.messages;
  limit = read.limit;
  waits = read.waits;
  reads = reads_more octets framing.held bytes read.messages
      (subst (ReadsAs octets read.messages) (ap (λ xs. framing.held ++ xs) none ∙ append-nil framing.held) read.reads);
  responses = read.responses;
}

-- a message is whole
record IsWhole (framing : Framing) (chunk message : List ℕ) (n : ℕ) : Type 0 where
  size : ℕ
  first : first_of framing.limit (framing.held ++ chunk) ≡ Ok (Some size)
  taken : n ≡ 5 + size - length framing.held
  body : message ≡ take size (drop 5 (framing.held ++ chunk))

abbrev message_in : Result Fed GrpcFault → Option (List ℕ)
message_in (Ok given) = given.message
message_in (Err fault) = None

abbrev taken_in : Result Fed GrpcFault → ℕ
taken_in (Ok given) = given.taken
taken_in (Err fault) = 0

whole_by : (framing : Framing) (chunk message : List ℕ) (n : ℕ) (o : Result (Option ℕ) GrpcFault)
    → first_of framing.limit (framing.held ++ chunk) ≡ o
    → answer_of framing.held chunk o ≡ Ok (record { taken = n; message = Some message }) → IsWhole framing chunk message n
whole_by framing chunk message n (Ok None) first is = let none : None ≡ Some message = ap message_in is in absurd cc
whole_by framing chunk message n (Ok (Some size)) first is =
    let body : Some (take size (drop 5 (framing.held ++ chunk))) ≡ Some message = ap message_in is in
    record { size = size; first = first; taken = sym (ap taken_in is); body = cc }
whole_by framing chunk message n (Err fault) first is = absurd cc

pub message_read : (framing : Framing) (chunk octets message : List ℕ) (n : ℕ) (applied : List Response) (r : Response)
    → answer framing chunk ≡ Ok (record { taken = n; message = Some message }) → response_of message ≡ Ok r
    → AreRead framing chunk octets applied → AreRead (fed framing chunk) (drop n chunk) octets (applied ++ r ∷ [])
message_read framing chunk octets message n applied r is response read =
    let whole = whole_by framing chunk message n (first_of framing.limit (framing.held ++ chunk)) refl is in
    let bytes = framing.held ++ chunk in
    let first : first_of longest_message bytes ≡ Ok (Some whole.size) = ap (λ k. first_of k bytes) (sym read.limit) ∙ whole.first in
    let told = (whole_told bytes (announced longest_message bytes) whole.size first).0 in
    let short = short_of_whole longest_message whole.size framing.held chunk read.waits told in
    let behind : drop (5 + whole.size) bytes ≡ drop n chunk =
    drop_joined (5 + whole.size) framing.held chunk short ∙ ap (λ k. drop k chunk) (sym whole.taken) in
    let held : (fed framing chunk).held ≡ [] = ap (held_of bytes) whole.first in
    record {
      messages = read.messages ++ message ∷ [];
      limit = read.limit;
      waits = subst (Waits longest_message) (sym held) refl;
      reads = subst (ReadsAs octets (read.messages ++ message ∷ [])) (behind ∙ ap (λ xs. xs ++ drop n chunk) (sym held))
          (subst (λ m. ReadsAs octets (read.messages ++ m ∷ []) (drop (5 + whole.size) bytes)) (sym whole.body)
          (reads_message octets bytes read.messages whole.size first read.reads));
      responses = map-append response_of read.messages (message ∷ [])
          ∙ ap₂ (λ xs y. xs ++ y ∷ []) read.responses response ∙ sym (map-append Ok applied (r ∷ []));
    }

none_by : (framing : Framing) (chunk : List ℕ) (o : Result (Option ℕ) GrpcFault)
    → answer_of framing.held chunk o ≡ Ok (record { taken = length chunk; message = None })
    → held_of (framing.held ++ chunk) o ≡ framing.held ++ chunk
none_by framing chunk (Ok None) is = refl
none_by framing chunk (Ok (Some size)) is = let none = ap message_in is in absurd cc
none_by framing chunk (Err fault) is = absurd cc

-- no message is whole
pub rest_read : (framing : Framing) (chunk octets : List ℕ) (applied : List Response)
    → answer framing chunk ≡ Ok (record { taken = length chunk; message = None })
    → AreRead framing chunk octets applied → AreRead (fed framing chunk) [] octets applied
rest_read framing chunk octets applied is read =
    let bytes = framing.held ++ chunk in
    let held : (fed framing chunk).held ≡ bytes = none_by framing chunk (first_of framing.limit bytes) is in
    record {
      messages = read.messages;
      limit = read.limit;
      waits = waits_again longest_message bytes (first_of framing.limit bytes) (ap (λ k. first_of k bytes) (sym read.limit));
      reads = subst (ReadsAs octets read.messages) (sym held ∙ sym (append-nil (fed framing chunk).held)) read.reads;
      responses = read.responses;
    }
