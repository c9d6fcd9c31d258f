-- Bytes have one list of messages.
use Rattle.std.proofs.Common.{◌≡◌, ℕ, ◌≤◌, ◌<◌, ◌^◌, List, [], ◌∷◌, ◌++◌, length, take, drop, refl, ap, ◌∙◌, sym, subst}
use Rattle.std.proofs.Common.{Option, Some, Result, Ok}
use Rattle.std.proofs.lemmas.List.{append_assoc}
use Rattle.std.proofs.lemmas.List.{drop_at}
use Rattle.std.proofs.Math.Seq.{take-append_seam}
use Rattle.hb_grpc.specs.Message.{spelling, Joins, HasNoMessage, OneReading}
use Rattle.hb_grpc.specs.Reading.{first_of}
use Rattle.hb_grpc.specs.declared.fault.GrpcFault.{GrpcFault}
use Rattle.hb_grpc.proofs.Spelled.{spelled_is_first}

-- two spellings of messages in front of the same bytes
pub record AreSame (m n more others : List ℕ) : Type 0 where
  pub message : m ≡ n
  pub rest : more ≡ others

pub some_of : (a b : ℕ) → Path (Result (Option ℕ) GrpcFault) (Ok (Some a)) (Ok (Some b)) → a ≡ b
some_of a b e = cc

pub one_front : (limit : ℕ) (m n more others bytes : List ℕ) → limit < 2 ^ 32 → length m ≤ limit → length n ≤ limit
    → bytes ≡ spelling m ++ more → bytes ≡ spelling n ++ others → AreSame m n more others
one_front limit m n more others bytes small fits others_fit is others_is =
    let same : spelling m ++ more ≡ spelling n ++ others = sym is ∙ others_is in
    let len : length m ≡ length n = some_of (length m) (length n) (sym (spelled_is_first limit m more small fits)
    ∙ ap (first_of limit) same ∙ spelled_is_first limit n others small others_fit) in
    let body : m ++ more ≡ n ++ others = ap (drop 5) same in
    record {
      message = sym (take-append_seam m more) ∙ ap (take (length m)) body ∙ ap (λ k. take k (n ++ others)) len ∙ take-append_seam n others;
      rest = sym (drop_at m more (length m) refl) ∙ ap (drop (length m)) body ∙ drop_at n others (length m) (sym len);
    }

pub one_list : (limit : ℕ) (messages others : List (List ℕ)) (bytes rest others_rest : List ℕ) → limit < 2 ^ 32
    → Joins limit messages rest bytes → HasNoMessage limit rest
    → Joins limit others others_rest bytes → HasNoMessage limit others_rest → (messages ≡ others) × (rest ≡ others_rest)
one_list limit [] [] bytes rest others_rest small j p k q = (refl, sym j ∙ k)
one_list limit [] (n ∷ ns) bytes rest others_rest small j p k q = absurd (p n k.1 k.0 (sym j ∙ k.2))
one_list limit (m ∷ ms) [] bytes rest others_rest small j p k q = absurd (q m j.1 j.0 (sym k ∙ j.2))
one_list limit (m ∷ ms) (n ∷ ns) bytes rest others_rest small j p k q =
    let same = one_front limit m n j.1 k.1 bytes small j.0 k.0 j.2 k.2 in
    let tail = one_list limit ms ns k.1 rest others_rest small (subst (λ (b : List ℕ). Joins limit ms rest b) same.rest j.3) p k.3 q in
    let message = same.message in
    let behind = tail.0 in
    (rw (message, behind) refl, tail.1)

pub one_reading : OneReading
one_reading limit bytes rest others_rest messages others small a b =
    one_list limit messages others bytes rest others_rest small a.joined a.partial b.joined b.partial

pub joins_more : (limit : ℕ) (ms : List (List ℕ)) (rest bytes more : List ℕ) → Joins limit ms rest bytes
    → Joins limit ms (rest ++ more) (bytes ++ more)
joins_more limit [] rest bytes more j = ap (λ xs. xs ++ more) j
joins_more limit (m ∷ ms) rest bytes more j =
    (j.0, j.1 ++ more, ap (λ xs. xs ++ more) j.2 ∙ append_assoc (spelling m) j.1 more, joins_more limit ms rest j.1 more j.3)
