-- An input is taken message by message.
use Rattle.std.proofs.Common.{◌≡◌, ℕ, ◌+◌, ◌<◌, ◌≤◌, Bool, true, false, ◌==◌, List, [], ◌∷◌, length, take, drop, Option, Some, None}
use Rattle.std.proofs.Common.{Result, Ok, Err, refl, sym, ap, ◌∙◌, arith}
use Rattle.std.proofs.lemmas.Bool.Decides.{nat_tests}
use Rattle.hb_base.specs.declared.or.Or.{Or}
use Rattle.hb_base.specs.declared.or.Or.TheVariants.{Fault, NoMemory}
use Rattle.hb_base.specs.Outcome.{Fails}
use Rattle.hb_wire.specs.Message.{and_then}
use Rattle.hb_grpc.specs.declared.fault.GrpcFault.{GrpcFault}
use Rattle.hb_grpc.specs.declared.fault.GrpcFault.TheVariants as framing
use Rattle.hb_grpc.specs.Framed.{Framed, framed_of}
use Rattle.hb_grpc.specs.Reading.{first_of}
use Rattle.hb_grpc.proofs.Whole.{framed_message, framed_none, framed_fault, behind_is_shorter}
use Rattle.hb_cli.specs.declared.input.Refused.{Refused}
use Rattle.hb_cli.specs.declared.input.Refused.TheVariants.{Message}
use Rattle.hb_cli.specs.declared.input.InputWhy.{InputWhy}
use Rattle.hb_cli.specs.Taking.{numbered}
use Rattle.hb_cli.specs.Input.{longest_input, Leaves, with_message, rest_why, at_message, left_after, left_through, front_by, with_front}

pub some_left : (bytes : List ℕ) → false ≡ (length bytes == 0) → 0 < length bytes
some_left bytes e = grind (arith, nat_tests)

pub none_left_over : (bytes : List ℕ) → true ≡ (length bytes == 0) → length bytes ≡ 0
none_left_over bytes e = grind (arith, nat_tests)

-- what taking the message in front came to
abbrev pub front_taken : Bool → Leaves → List ℕ → Result (Option ℕ) GrpcFault → Result (ℕ × Leaves) InputWhy
front_taken tells l bytes t = and_then (front_by bytes t) (λ f. and_then (with_message tells l f.1) (λ next. Ok (f.0, next)))

through : (tells : Bool) (k : ℕ) (l : Leaves) (bytes : List ℕ) (f : Framed) → framed_of longest_input bytes ≡ f
    → left_through tells k l bytes ≡ left_after tells k l f.messages (rest_why f.rest)
through tells k l bytes f e = ap (λ (g : Framed). left_after tells k l g.messages (rest_why g.rest)) e

some_rest : (bytes : List ℕ) → 0 < length bytes → (length bytes == 0) ≡ false
some_rest bytes lt = grind (arith, nat_tests)

message_ok : (r : Result Leaves InputWhy) (n taken : ℕ) (next : Leaves) → and_then {B = ℕ × Leaves} r (λ x. Ok (n, x)) ≡ Ok (taken, next)
    → (r ≡ Ok next) × (n ≡ taken)
message_ok (Ok x) n taken next e = let same : Path (ℕ × Leaves) (n, x) (taken, next) = cc in (ap (λ p. Ok p.1) same, ap (λ p. p.0) same)
message_ok (Err why) n taken next e = absurd cc

message_err : (r : Result Leaves InputWhy) (n : ℕ) (why : InputWhy) → and_then {B = ℕ × Leaves} r (λ x. Ok (n, x)) ≡ Err why → r ≡ Err why
message_err (Ok x) n why e = absurd cc
message_err (Err x) n why e = cc

-- the message in front was taken: it has five bytes at least
some_taken : (tells : Bool) (l : Leaves) (bytes : List ℕ) (t : Result (Option ℕ) GrpcFault) (taken : ℕ) (next : Leaves)
    → first_of longest_input bytes ≡ t → front_taken tells l bytes t ≡ Ok (taken, next)
    → (length (drop taken bytes) + 5 ≤ length bytes)
some_taken tells l bytes (Ok (Some size)) taken next first e =
    let same = (message_ok (with_message tells l (take size (drop 5 bytes))) (5 + size) taken next e).1 in
    rw (sym same) (behind_is_shorter longest_input size bytes first)
some_taken tells l bytes (Ok None) taken next first e = absurd cc
some_taken tells l bytes (Err (framing.Compressed flag)) taken next first e = absurd cc
some_taken tells l bytes (Err (framing.TooLong size)) taken next first e = absurd cc

taken_whole : (tells : Bool) (k : ℕ) (l : Leaves) (bytes : List ℕ) (t : Result (Option ℕ) GrpcFault) (taken : ℕ) (next : Leaves)
    → first_of longest_input bytes ≡ t → front_taken tells l bytes t ≡ Ok (taken, next)
    → left_through tells k l bytes ≡ left_through tells (k + 1) next (drop taken bytes)
taken_whole tells k l bytes (Ok (Some size)) taken next first e =
    let both = message_ok (with_message tells l (take size (drop 5 bytes))) (5 + size) taken next e in
    through tells k l bytes _ (framed_message longest_input size bytes first)
    ∙ ap (λ r. and_then (at_message k r) (λ x. left_after tells (k + 1) x (framed_of longest_input (drop (5 + size) bytes)).messages
    (rest_why (framed_of longest_input (drop (5 + size) bytes)).rest))) both.0
    ∙ ap (λ n. left_through tells (k + 1) next (drop n bytes)) both.1
taken_whole tells k l bytes (Ok None) taken next first e = absurd cc
taken_whole tells k l bytes (Err (framing.Compressed flag)) taken next first e = absurd cc
taken_whole tells k l bytes (Err (framing.TooLong size)) taken next first e = absurd cc

pub shorter : (tells : Bool) (l next : Leaves) (bytes : List ℕ) (taken : ℕ) → with_front tells l bytes ≡ Ok (taken, next)
    → length (drop taken bytes) + 5 ≤ length bytes
shorter tells l next bytes taken e = some_taken tells l bytes (first_of longest_input bytes) taken next refl e

-- a message was taken, and the rest makes of what is left what all made
pub goes_on : (tells : Bool) (k : ℕ) (l next : Leaves) (bytes : List ℕ) (taken : ℕ) (total : Result Leaves Refused)
    → with_front tells l bytes ≡ Ok (taken, next) → left_through tells k l bytes ≡ total
    → left_through tells (k + 1) next (drop taken bytes) ≡ total
goes_on tells k l next bytes taken total e so_far =
    sym (taken_whole tells k l bytes (first_of longest_input bytes) taken next refl e) ∙ so_far

refused_by : (tells : Bool) (k : ℕ) (l : Leaves) (bytes : List ℕ) (t : Result (Option ℕ) GrpcFault) (why : InputWhy)
    → 0 < length bytes → first_of longest_input bytes ≡ t → front_taken tells l bytes t ≡ Err why
    → left_through tells k l bytes ≡ Err (Message k why)
refused_by tells k l bytes (Ok (Some size)) why lt first e =
    through tells k l bytes _ (framed_message longest_input size bytes first)
    ∙ ap (λ r. and_then (at_message k r) (λ x. left_after tells (k + 1) x (framed_of longest_input (drop (5 + size) bytes)).messages
    (rest_why (framed_of longest_input (drop (5 + size) bytes)).rest)))
    (message_err (with_message tells l (take size (drop 5 bytes))) (5 + size) why e)
refused_by tells k l bytes (Ok None) why lt first e =
    through tells k l bytes _ (framed_none longest_input bytes first) ∙ rw (first, some_rest bytes lt) cc
refused_by tells k l bytes (Err (framing.Compressed flag)) why lt first e =
    through tells k l bytes _ (framed_fault longest_input bytes _ first) ∙ rw first cc
refused_by tells k l bytes (Err (framing.TooLong size)) why lt first e =
    through tells k l bytes _ (framed_fault longest_input bytes _ first) ∙ rw first cc

-- no message is in front, or it was refused
pub ends : (tells : Bool) (k : ℕ) (l : Leaves) (bytes : List ℕ) (why : Or InputWhy) (total : Result Leaves Refused)
    → 0 < length bytes → Fails (with_front tells l bytes) why → left_through tells k l bytes ≡ total → Fails total (numbered k why)
ends tells k l bytes (Fault why) total lt e so_far =
    sym so_far ∙ refused_by tells k l bytes (first_of longest_input bytes) why lt refl e
ends tells k l bytes NoMemory total lt e so_far = tt

-- nothing is left
pub is_done : (tells : Bool) (k : ℕ) (l : Leaves) (bytes : List ℕ) (total : Result Leaves Refused) → length bytes ≡ 0
    → left_through tells k l bytes ≡ total → total ≡ Ok l
is_done tells k l [] total none so_far = sym so_far ∙ through tells k l [] _ (framed_none longest_input [] refl)
is_done tells k l (b ∷ bs) total none so_far = absurd (omega arith)
