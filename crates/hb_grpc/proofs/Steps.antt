-- What a piece makes of a header and a body that are held.
use Rattle.std.proofs.Common.{◌≡◌, ⊎_elim, ℕ, ◌+◌, ◌-◌, ◌≤◌, ◌<◌, List, [], ◌++◌, length, take, drop, refl, ap, ◌∙◌, sym, subst}
use Rattle.std.proofs.Common.{arith, true, false, Option, Some, None, Result, Ok, Err, length-append, length-take, length-drop}
use Rattle.std.specs.Prelude.{nat_lt}
use Rattle.std.proofs.lemmas.List.{append-nil, append_assoc, take-append-drop, take_all, take-take, take_at}
use Rattle.std.proofs.Math.Seq.{take-append_seam}
use Rattle.std.proofs.lemmas.Bool.{cases_lt}
use Rattle.std.proofs.lemmas.Bool.Decides.{nat_tests}
use Rattle.hb_grpc.specs.Reading.{Framing, announced, whole_of, first_of, told_by, held_of, fed, answer_of, answer, MayHold}
use Rattle.hb_grpc.specs.declared.fault.GrpcFault.{GrpcFault}
use Rattle.hb_grpc.specs.declared.framer.Fed.{Fed}
use Rattle.hb_grpc.proofs.Fronts.{drop_joined, announced_front, no_body, not_whole, whole_header, told_early}

abbrev pub framing : ℕ → List ℕ → Framing
framing limit held = record { limit = limit; held = held }

abbrev pub given : ℕ → Option (List ℕ) → Fed
given taken message = record { taken = taken; message = message }

-- a header and a body that may be held, and a piece
pub record IsHeld (limit : ℕ) (h b : List ℕ) : Type 0 where
  pub short : length h ≤ 5
  pub body : MayHold (announced limit h) b

-- where the header ends, and what is told
pub record Splits (limit : ℕ) (h b p : List ℕ) : Type 0 where
  pub front : take 5 ((h ++ b) ++ p) ≡ take 5 (h ++ p)
  pub back : drop 5 ((h ++ b) ++ p) ≡ b ++ drop (5 - length h) p
  pub told : announced limit ((h ++ b) ++ p) ≡ announced limit (take 5 (h ++ p))

pub told_of_front : (limit : ℕ) (h b p : List ℕ) → take 5 ((h ++ b) ++ p) ≡ take 5 (h ++ p)
    → announced limit ((h ++ b) ++ p) ≡ announced limit (take 5 (h ++ p))
told_of_front limit h b p front = sym (announced_front limit ((h ++ b) ++ p)) ∙ ap (announced limit) front

pub splits_short : (limit : ℕ) (h b p : List ℕ) → length h < 5 → IsHeld limit h b → Splits limit h b p
splits_short limit h b p short held =
    let none : b ≡ [] = no_body limit h b short held.body in
    let same : (h ++ b) ++ p ≡ h ++ p = ap (λ xs. (h ++ xs) ++ p) none ∙ ap (λ xs. xs ++ p) (append-nil h) in
    let front = ap (take 5) same in
    record {
      front = front;
      back = ap (drop 5) same ∙ drop_joined 5 h p held.short ∙ ap (λ xs. xs ++ drop (5 - length h) p) (sym none);
      told = told_of_front limit h b p front;
    }

pub header_stays : (h p : List ℕ) → length h ≡ 5 → take 5 (h ++ p) ≡ h
header_stays h p whole = take_at h p 5 whole

pub splits_whole : (limit : ℕ) (h b p : List ℕ) → length h ≡ 5 → Splits limit h b p
splits_whole limit h b p whole =
    let gone : 5 - length h ≡ 0 = omega (arith, whole) in
    let fits : length h ≤ 5 = omega (arith, whole) in
    let front = ap (take 5) (append_assoc h b p) ∙ header_stays h (b ++ p) whole ∙ sym (header_stays h p whole) in
    record {
      front = front;
      back = ap (drop 5) (append_assoc h b p) ∙ drop_joined 5 h (b ++ p) fits ∙ ap (λ n. drop n (b ++ p)) gone
          ∙ ap (λ n. b ++ drop n p) (sym gone);
      told = told_of_front limit h b p front;
    }

pub splits : (limit : ℕ) (h b p : List ℕ) → IsHeld limit h b → Splits limit h b p
splits limit h b p held = ⊎_elim
    (λ (short : length h < 5). splits_short limit h b p short held)
    (λ (long : 5 ≤ length h). splits_whole limit h b p (omega (arith, long, held.short)))
    (cases_lt (length h) 5)

-- the header isn't whole

pub first_none : (limit : ℕ) (h b p : List ℕ) → IsHeld limit h b → announced limit (take 5 (h ++ p)) ≡ Ok None
    → first_of limit ((h ++ b) ++ p) ≡ Ok None
first_none limit h b p held e = ap (whole_of ((h ++ b) ++ p)) ((splits limit h b p held).told ∙ e)

pub none_told : (limit : ℕ) (h b p : List ℕ) → IsHeld limit h b → announced limit (take 5 (h ++ p)) ≡ Ok None
    → answer (framing limit (h ++ b)) p ≡ Ok (given (length p) None)
none_told limit h b p held e = ap (answer_of (h ++ b) p) (first_none limit h b p held e)

pub none_held : (limit : ℕ) (h b p : List ℕ) → IsHeld limit h b → announced limit (take 5 (h ++ p)) ≡ Ok None
    → framing limit (take 5 (h ++ p) ++ b) ≡ fed (framing limit (h ++ b)) p
none_held limit h b p held e =
    let few = not_whole limit (take 5 (h ++ p)) e in
    let short : length (h ++ p) < 5 = omega (arith, few, length-take 5 (h ++ p)) in
    let none : b ≡ [] = no_body limit h b (omega (arith, short, length-append h p)) held.body in
    let all : take 5 (h ++ p) ≡ h ++ p = take_all 5 (h ++ p) (omega (arith, short)) in
    let same : take 5 (h ++ p) ++ b ≡ (h ++ b) ++ p =
    ap (λ xs. xs ++ b) all ∙ ap (λ xs. (h ++ p) ++ xs) none ∙ append-nil (h ++ p)
    ∙ sym (ap (λ xs. (h ++ xs) ++ p) none ∙ ap (λ xs. xs ++ p) (append-nil h)) in
    ap (framing limit) same
    ∙ sym (ap (λ (x : Result (Option ℕ) GrpcFault). framing limit (held_of ((h ++ b) ++ p) x)) (first_none limit h b p held e))

-- a fault

pub first_fault : (limit : ℕ) (h b p : List ℕ) (x : GrpcFault) → IsHeld limit h b → announced limit (take 5 (h ++ p)) ≡ Err x
    → first_of limit ((h ++ b) ++ p) ≡ Err x
first_fault limit h b p x held e = ap (whole_of ((h ++ b) ++ p)) ((splits limit h b p held).told ∙ e)

pub fault_told : (limit : ℕ) (h b p : List ℕ) (x : GrpcFault) → IsHeld limit h b → announced limit (take 5 (h ++ p)) ≡ Err x
    → answer (framing limit (h ++ b)) p ≡ Err x
fault_told limit h b p x held e = ap (answer_of (h ++ b) p) (first_fault limit h b p x held e)

pub no_body_of_fault : (limit : ℕ) (h b p : List ℕ) (x : GrpcFault) → IsHeld limit h b
    → announced limit (take 5 (h ++ p)) ≡ Err x → b ≡ []
no_body_of_fault limit h b p x held e = ⊎_elim
    (λ (short : length h < 5). no_body limit h b short held.body)
    (λ (long : 5 ≤ length h).
    let told : announced limit h ≡ Err x = ap (announced limit) (sym (header_stays h p (omega (arith, long, held.short)))) ∙ e in
    subst (λ (t : Result (Option ℕ) GrpcFault). MayHold t b) told held.body)
    (cases_lt (length h) 5)

pub fault_held : (limit : ℕ) (h b p : List ℕ) (x : GrpcFault) → IsHeld limit h b → announced limit (take 5 (h ++ p)) ≡ Err x
    → framing limit (take (told_by x) (take 5 (h ++ p)) ++ b) ≡ fed (framing limit (h ++ b)) p
fault_held limit h b p x held e =
    let none = no_body_of_fault limit h b p x held e in
    let same : take (told_by x) (take 5 (h ++ p)) ++ b ≡ take (told_by x) ((h ++ b) ++ p) =
    ap (λ xs. take (told_by x) (take 5 (h ++ p)) ++ xs) none ∙ append-nil (take (told_by x) (take 5 (h ++ p)))
    ∙ ap (take (told_by x)) (sym (splits limit h b p held).front)
    ∙ take-take (told_by x) 5 ((h ++ b) ++ p) (told_early x) in
    ap (framing limit) same
    ∙ sym (ap (λ (t : Result (Option ℕ) GrpcFault). framing limit (held_of ((h ++ b) ++ p) t)) (first_fault limit h b p x held e))

-- want of memory

pub memory_held : (limit : ℕ) (h b c p : List ℕ) → length h ≤ 5 → c ≡ b
    → framing limit (take (length h) (take 5 (h ++ p)) ++ c) ≡ framing limit (h ++ b)
memory_held limit h b c p short same =
    let front : take (length h) (take 5 (h ++ p)) ≡ h =
    take-take (length h) 5 (h ++ p) short ∙ take-append_seam h p in
    ap (λ xs. framing limit (xs ++ c)) front ∙ ap (λ xs. framing limit (h ++ xs)) same

-- a whole header

-- the bytes behind it
pub behind_header : (limit size : ℕ) (h b p : List ℕ) → IsHeld limit h b → announced limit (take 5 (h ++ p)) ≡ Ok (Some size)
    → length ((h ++ b) ++ p) ≡ 5 + length (b ++ drop (5 - length h) p)
behind_header limit size h b p held e =
    let s = splits limit h b p held in
    let whole = whole_header limit size (take 5 (h ++ p)) e in
    let five : 5 ≤ length ((h ++ b) ++ p) =
    omega (arith, whole, length-take 5 (h ++ p), length-append (h ++ b) p, length-append h b, length-append h p) in
    omega (arith, five, ap length s.back, length-drop 5 ((h ++ b) ++ p))

pub first_partial : (limit size : ℕ) (h b p : List ℕ) → IsHeld limit h b → announced limit (take 5 (h ++ p)) ≡ Ok (Some size)
    → length (b ++ drop (5 - length h) p) < size → first_of limit ((h ++ b) ++ p) ≡ Ok None
first_partial limit size h b p held e few =
    let all = behind_header limit size h b p held e in
    let test : nat_lt (length ((h ++ b) ++ p)) (5 + size) ≡ true = grind (arith, nat_tests, all, few) in
    ap (whole_of ((h ++ b) ++ p)) ((splits limit h b p held).told ∙ e) ∙ rw test refl

pub first_whole : (limit size : ℕ) (h b p : List ℕ) → IsHeld limit h b → announced limit (take 5 (h ++ p)) ≡ Ok (Some size)
    → size ≤ length (b ++ drop (5 - length h) p) → first_of limit ((h ++ b) ++ p) ≡ Ok (Some size)
first_whole limit size h b p held e many =
    let all = behind_header limit size h b p held e in
    let test : nat_lt (length ((h ++ b) ++ p)) (5 + size) ≡ false = grind (arith, nat_tests, all, many) in
    ap (whole_of ((h ++ b) ++ p)) ((splits limit h b p held).told ∙ e) ∙ rw test refl

pub partial_told : (limit size : ℕ) (h b p : List ℕ) → IsHeld limit h b → announced limit (take 5 (h ++ p)) ≡ Ok (Some size)
    → length (take size (b ++ drop (5 - length h) p)) < size
    → answer (framing limit (h ++ b)) p
    ≡ Ok (given (length p - length (drop (size - length b) (drop (5 - length h) p))) None)
partial_told limit size h b p held e few =
    let short : length (b ++ drop (5 - length h) p) < size =
    omega (arith, few, length-take size (b ++ drop (5 - length h) p)) in
    let taken : length p ≡ length p - length (drop (size - length b) (drop (5 - length h) p)) =
    omega (arith, short, length-append b (drop (5 - length h) p), length-drop (size - length b) (drop (5 - length h) p)) in
    ap (answer_of (h ++ b) p) (first_partial limit size h b p held e short) ∙ ap (λ n. Ok (given n None)) taken

pub partial_held : (limit size : ℕ) (h b p : List ℕ) → IsHeld limit h b → announced limit (take 5 (h ++ p)) ≡ Ok (Some size)
    → length (take size (b ++ drop (5 - length h) p)) < size
    → framing limit (take 5 (h ++ p) ++ take size (b ++ drop (5 - length h) p)) ≡ fed (framing limit (h ++ b)) p
partial_held limit size h b p held e few =
    let rest = b ++ drop (5 - length h) p in
    let s = splits limit h b p held in
    let short : length rest < size = omega (arith, few, length-take size rest) in
    let same : take 5 (h ++ p) ++ take size rest ≡ (h ++ b) ++ p =
    ap (λ xs. take 5 (h ++ p) ++ xs) (take_all size rest (omega (arith, short)) ∙ sym s.back)
    ∙ ap (λ xs. xs ++ drop 5 ((h ++ b) ++ p)) (sym s.front) ∙ take-append-drop 5 ((h ++ b) ++ p) in
    ap (framing limit) same
    ∙ sym (ap (λ (t : Result (Option ℕ) GrpcFault). framing limit (held_of ((h ++ b) ++ p) t))
    (first_partial limit size h b p held e short))

pub body_fits : (limit size : ℕ) (h b p : List ℕ) → IsHeld limit h b → announced limit (take 5 (h ++ p)) ≡ Ok (Some size)
    → length b ≤ size
body_fits limit size h b p held e = ⊎_elim
    (λ (short : length h < 5). let none = no_body limit h b short held.body in omega (arith, ap length none))
    (λ (long : 5 ≤ length h).
    let told : announced limit h ≡ Ok (Some size) = ap (announced limit) (sym (header_stays h p (omega (arith, long, held.short)))) ∙ e in
    let few : length b < size = subst (λ (t : Result (Option ℕ) GrpcFault). MayHold t b) told held.body in
    omega (arith, few))
    (cases_lt (length h) 5)

pub whole_told : (limit size : ℕ) (h b p : List ℕ) → IsHeld limit h b → announced limit (take 5 (h ++ p)) ≡ Ok (Some size)
    → size ≤ length (take size (b ++ drop (5 - length h) p))
    → answer (framing limit (h ++ b)) p
    ≡ Ok (given (length p - length (drop (size - length b) (drop (5 - length h) p))) (Some (take size (b ++ drop (5 - length h) p))))
whole_told limit size h b p held e many =
    let fits = body_fits limit size h b p held e in
    let rest = drop (5 - length h) p in
    let s = splits limit h b p held in
    let long : size ≤ length (b ++ rest) = omega (arith, many, length-take size (b ++ rest)) in
    let whole = whole_header limit size (take 5 (h ++ p)) e in
    let enough : 5 ≤ length h + length p = omega (arith, whole, length-take 5 (h ++ p), length-append h p) in
    let taken : 5 + size - length (h ++ b) ≡ length p - length (drop (size - length b) rest) =
    omega (
      arith,
      long,
      fits,
      enough,
      held.short,
      length-append b rest,
      length-append h b,
      length-drop (5 - length h) p,
      length-drop (size - length b) rest,
    ) in
    ap (answer_of (h ++ b) p) (first_whole limit size h b p held e long)
    ∙ ap (λ n. Ok (given n (Some (take size (drop 5 ((h ++ b) ++ p)))))) taken
    ∙ ap (λ xs. Ok (given (length p - length (drop (size - length b) rest)) (Some (take size xs)))) s.back

pub whole_held : (limit size : ℕ) (h b p : List ℕ) → IsHeld limit h b → announced limit (take 5 (h ++ p)) ≡ Ok (Some size)
    → size ≤ length (take size (b ++ drop (5 - length h) p)) → framing limit [] ≡ fed (framing limit (h ++ b)) p
whole_held limit size h b p held e many =
    let rest = b ++ drop (5 - length h) p in
    let long : size ≤ length rest = omega (arith, many, length-take size rest) in
    sym (ap (λ (t : Result (Option ℕ) GrpcFault). framing limit (held_of ((h ++ b) ++ p) t))
    (first_whole limit size h b p held e long))
