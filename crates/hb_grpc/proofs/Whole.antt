-- Bytes that are there whole are taken apart message by message.
use Rattle.std.proofs.Common.{◌≡◌, ℕ, zero, suc, ◌+◌, ◌≤◌, ◌<◌, ◌^◌, List, [], ◌∷◌, ◌++◌, length, take, drop, refl, ap, ◌∙◌, sym}
use Rattle.std.proofs.Common.{arith, Option, Some, None, Result, Ok, Err, length-drop, length-take}
use Rattle.std.proofs.lemmas.List.{take-append-drop}
use Rattle.hb_grpc.specs.Message.{HasNoMessage, AreMessages, AreOctets}
use Rattle.hb_grpc.specs.Reading.{announced, first_of, size_at}
use Rattle.hb_grpc.specs.Framed.{Framed, with_first, framed_from, framed_within, framed_of, FramedAreAll}
use Rattle.hb_grpc.specs.declared.fault.GrpcFault.{GrpcFault}
use Rattle.std.proofs.lemmas.Bool.Decides.{nat_tests}
use Rattle.hb_grpc.proofs.Fronts.{sized}
use Rattle.hb_grpc.proofs.Spelled.{octets_drop, read_is_spelled, spelled_is_first}
use Rattle.hb_grpc.proofs.Runs.{whole_told, no_message_at_fault}

-- what is behind a message is shorter by five bytes at least
pub behind_is_shorter : (limit size : ℕ) (bytes : List ℕ) → first_of limit bytes ≡ Ok (Some size)
    → length (drop (5 + size) bytes) + 5 ≤ length bytes
behind_is_shorter limit size bytes e =
    let whole = (whole_told bytes (announced limit bytes) size e).1 in
    omega (arith, whole, length-drop (5 + size) bytes)

alike : (n m limit : ℕ) (bytes : List ℕ) (t : Result (Option ℕ) GrpcFault)
    → ((size : ℕ) → t ≡ Ok (Some size) → framed_within n limit (drop (5 + size) bytes) ≡ framed_within m limit (drop (5 + size) bytes))
    → framed_from bytes (λ b. framed_within n limit b) t ≡ framed_from bytes (λ b. framed_within m limit b) t
alike n m limit bytes (Ok None) same = refl
alike n m limit bytes (Ok (Some size)) same = ap (with_first (take size (drop 5 bytes))) (same size refl)
alike n m limit bytes (Err x) same = refl

none_in_nothing : (m limit : ℕ) → framed_within m limit [] ≡ record { messages = []; rest = [] }
unfolding framed_within
none_in_nothing zero limit = refl
none_in_nothing (suc m) limit = refl

-- how many messages may stand in front makes no difference, where it is at least the number of bytes
enough : (n m limit : ℕ) (bytes : List ℕ) → length bytes ≤ n → length bytes ≤ m
    → framed_within n limit bytes ≡ framed_within m limit bytes
unfolding framed_within
enough zero m limit [] p q = sym (none_in_nothing m limit)
enough zero m limit (b ∷ bs) p q = absurd (omega arith)
enough (suc n) zero limit [] p q = none_in_nothing (suc n) limit
enough (suc n) zero limit (b ∷ bs) p q = absurd (omega arith)
enough (suc n) (suc m) limit bytes p q =
    alike n m limit bytes (first_of limit bytes) (λ size e. let less = behind_is_shorter limit size bytes e in
    enough n m limit (drop (5 + size) bytes) (omega arith) (omega arith))

pub framed_message : (limit size : ℕ) (bytes : List ℕ) → first_of limit bytes ≡ Ok (Some size)
    → framed_of limit bytes ≡ with_first (take size (drop 5 bytes)) (framed_of limit (drop (5 + size) bytes))
unfolding framed_of framed_within
framed_message limit size [] e = absurd cc
framed_message limit size (b ∷ bs) e =
    ap (framed_from (b ∷ bs) (λ c. framed_within (length bs) limit c)) e
    ∙ ap (with_first (take size (drop 5 (b ∷ bs)))) (let less = behind_is_shorter limit size (b ∷ bs) e in
    enough (length bs) (length (drop (5 + size) (b ∷ bs))) limit (drop (5 + size) (b ∷ bs)) (omega arith) (omega arith))

pub framed_none : (limit : ℕ) (bytes : List ℕ) → first_of limit bytes ≡ Ok None
    → framed_of limit bytes ≡ record { messages = []; rest = bytes }
unfolding framed_of framed_within
framed_none limit [] e = refl
framed_none limit (b ∷ bs) e = ap (framed_from (b ∷ bs) (λ c. framed_within (length bs) limit c)) e

pub framed_fault : (limit : ℕ) (bytes : List ℕ) (x : GrpcFault) → first_of limit bytes ≡ Err x
    → framed_of limit bytes ≡ record { messages = []; rest = bytes }
unfolding framed_of framed_within
framed_fault limit [] x e = absurd cc
framed_fault limit (b ∷ bs) x e = ap (framed_from (b ∷ bs) (λ c. framed_within (length bs) limit c)) e

not_whole : (limit : ℕ) (bytes : List ℕ) → limit < 2 ^ 32 → first_of limit bytes ≡ Ok None → HasNoMessage limit bytes
not_whole limit bytes small e m more fits is = absurd (some_not_none (length m)
    (sym (spelled_is_first limit m more small fits) ∙ ap (first_of limit) (sym is) ∙ e)) where
      some_not_none : (n : ℕ) → Path (Result (Option ℕ) GrpcFault) (Ok (Some n)) (Ok None) → ⊥
      some_not_none n e = cc

-- a message that is read isn't longer than the limit
within : (limit size : ℕ) (bytes : List ℕ) → announced limit bytes ≡ Ok (Some size) → length (take size (drop 5 bytes)) ≤ limit
within limit size bytes e =
    let t = sized limit size bytes e in
    let fits = t.within in
    let same = t.size_is in
    let le : size_at bytes ≤ limit = grind (arith, nat_tests, fits) in
    omega (arith, le, same, length-take size (drop 5 bytes))

all_from : (limit : ℕ) (bytes : List ℕ) (behind : List ℕ → Framed) (t : Result (Option ℕ) GrpcFault) → limit < 2 ^ 32
    → AreOctets bytes → first_of limit bytes ≡ t
    → ((size : ℕ) → t ≡ Ok (Some size)
    → AreMessages limit (drop (5 + size) bytes) (behind (drop (5 + size) bytes)).messages (behind (drop (5 + size) bytes)).rest)
    → AreMessages limit bytes (framed_from bytes behind t).messages (framed_from bytes behind t).rest
all_from limit bytes behind (Ok None) small octets e more = record { joined = refl; partial = not_whole limit bytes small e }
all_from limit bytes behind (Err x) small octets e more = record { joined = refl; partial = no_message_at_fault limit bytes x small e }
all_from limit bytes behind (Ok (Some size)) small octets e more =
    let told = whole_told bytes (announced limit bytes) size e in
    let spelled = read_is_spelled limit size bytes octets told.0 told.1 in
    record {
      joined = (
        within limit size bytes told.0,
        drop (5 + size) bytes,
        sym (take-append-drop (5 + size) bytes) ∙ ap (λ xs. xs ++ drop (5 + size) bytes) spelled,
        (more size refl).joined,
      );
      partial = (more size refl).partial;
    }

all_within : (n limit : ℕ) (bytes : List ℕ) → limit < 2 ^ 32 → AreOctets bytes → length bytes ≤ n
    → AreMessages limit bytes (framed_within n limit bytes).messages (framed_within n limit bytes).rest
unfolding framed_within
all_within zero limit [] small octets le = record { joined = refl; partial = not_whole limit [] small refl }
all_within zero limit (b ∷ bs) small octets le = absurd (omega arith)
all_within (suc n) limit bytes small octets le =
    all_from limit bytes (λ b. framed_within n limit b) (first_of limit bytes) small octets refl
    (λ size e. let less = behind_is_shorter limit size bytes e in
    all_within n limit (drop (5 + size) bytes) small (octets_drop (5 + size) bytes octets) (omega arith))

pub framed_are_all : FramedAreAll
unfolding framed_of
framed_are_all limit bytes small octets = all_within (length bytes) limit bytes small octets (omega arith)
