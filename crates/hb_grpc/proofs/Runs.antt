-- What pieces take, give and leave.
use Rattle.std.proofs.Common.{◌≡◌, ⊎_elim, ℕ, ◌+◌, ◌-◌, ◌≤◌, ◌<◌, ◌^◌, List, [], ◌∷◌, ◌++◌, length, take, drop, refl, ap, ◌∙◌, sym, subst}
use Rattle.std.proofs.Common.{arith, Bool, true, false, cond, Option, Some, None, Result, Ok, Err, length-take}
use Rattle.std.specs.Prelude.{nat_lt}
use Rattle.std.proofs.lemmas.List.{append-nil, append_assoc, take-append-drop, take_all, take-take, take-append-le}
use Rattle.std.proofs.lemmas.Bool.{cases_lt}
use Rattle.std.proofs.lemmas.Bool.Decides.{nat_tests}
use Rattle.hb_grpc.specs.Message.{spelling, Joins, HasNoMessage, AreOctets}
use Rattle.hb_grpc.specs.Reading.{Framing, announced, whole_of, first_of, told_by, held_of, fed, answer_of}
use Rattle.hb_grpc.specs.Pieces.{fresh, after_pieces, taken_of, taken_by, given_of, given_by, ArePieces, AnyPieces, OneFault}
use Rattle.hb_grpc.specs.declared.fault.GrpcFault.{GrpcFault}
use Rattle.hb_base.proofs.ShortLemmas.{take_joined}
use Rattle.hb_grpc.proofs.Fronts.{announced_front, sized}
use Rattle.hb_grpc.proofs.Spelled.{octets_append, octets_take, read_is_spelled, spelled_is_first}
use Rattle.hb_grpc.proofs.OneList.{one_list, joins_more}
use Rattle.hb_grpc.proofs.Stays.{first_again, answer_err}

-- all that is held stays held
abbrev pub Waits : ℕ → List ℕ → Type 0
Waits limit held = held_of held (first_of limit held) ≡ held

pub waits_again : (limit : ℕ) (bytes : List ℕ) (t : Result (Option ℕ) GrpcFault) → first_of limit bytes ≡ t
    → Waits limit (held_of bytes t)
waits_again limit bytes (Ok None) e = ap (held_of bytes) e
waits_again limit bytes (Ok (Some size)) e = refl
waits_again limit bytes (Err x) e =
    let front = take (told_by x) bytes in
    let told : first_of limit front ≡ Err x = ap (first_of limit) (sym (append-nil front)) ∙ first_again limit bytes [] x e in
    ap (held_of front) told ∙ take-take (told_by x) (told_by x) bytes (omega arith)

pub no_octets : AreOctets []
no_octets i = omega arith

pub same_fault : (x y : GrpcFault) → Path (Result (Option ℕ) GrpcFault) (Err x) (Err y) → x ≡ y
same_fault x y e = cc

pub whole_tested : (short : Bool) (n size : ℕ) → Path (Result (Option ℕ) GrpcFault) (cond short (Ok None) (Ok (Some n))) (Ok (Some size))
    → (short ≡ false) × (n ≡ size)
whole_tested true n size e = absurd (cc)
whole_tested false n size e = (refl, cc)

-- a whole message isn't held
pub whole_told : (bytes : List ℕ) (t : Result (Option ℕ) GrpcFault) (size : ℕ) → whole_of bytes t ≡ Ok (Some size)
    → (t ≡ Ok (Some size)) × (5 + size ≤ length bytes)
whole_told bytes (Ok None) size e = absurd (cc)
whole_told bytes (Err x) size e = absurd (cc)
whole_told bytes (Ok (Some n)) size e =
    let t = whole_tested (nat_lt (length bytes) (5 + n)) n size e in
    let test = t.0 in
    let same = t.1 in
    let whole : 5 + n ≤ length bytes = grind (arith, nat_tests, test) in
    (ap (λ k. Ok (Some k)) same, omega (arith, whole, same))

pub not_held : (limit size : ℕ) (h : List ℕ) → Waits limit h → first_of limit h ≡ Ok (Some size) → ⊥
not_held limit size h waits e =
    let none : [] ≡ h = sym (ap (held_of h) e) ∙ waits in
    let whole = (whole_told h (announced limit h) size e).1 in
    absurd (omega (arith, ap length none, whole))

pub short_of_whole : (limit size : ℕ) (h p : List ℕ) → Waits limit h → announced limit (h ++ p) ≡ Ok (Some size)
    → length h ≤ 5 + size
short_of_whole limit size h p waits e = ⊎_elim
    (λ (long : 5 + size < length h).
    let front : take 5 (h ++ p) ≡ take 5 h = take-append-le 5 h p (omega (arith, long)) in
    let told : announced limit h ≡ Ok (Some size) =
    sym (announced_front limit h) ∙ ap (announced limit) (sym front) ∙ announced_front limit (h ++ p) ∙ e in
    let test : nat_lt (length h) (5 + size) ≡ false = grind (arith, nat_tests, long) in
    let found : first_of limit h ≡ Ok (Some size) = ap (whole_of h) told ∙ rw test refl in
    absurd (not_held limit size h waits found))
    (λ (short : length h ≤ 5 + size). short)
    (cases_lt (5 + size) (length h))

pub short_of_fault : (limit : ℕ) (h p : List ℕ) (x : GrpcFault) → Waits limit h → first_of limit (h ++ p) ≡ Err x
    → length h ≤ told_by x
short_of_fault limit h p x waits e = ⊎_elim
    (λ (long : told_by x < length h).
    let front : take (told_by x) (h ++ p) ≡ take (told_by x) h = take-append-le (told_by x) h p (omega (arith, long)) in
    let again = first_again limit (h ++ p) (drop (told_by x) h) x e in
    let all : take (told_by x) (h ++ p) ++ drop (told_by x) h ≡ h =
    ap (λ xs. xs ++ drop (told_by x) h) front ∙ take-append-drop (told_by x) h in
    let told : first_of limit h ≡ Err x = ap (first_of limit) (sym all) ∙ again in
    let kept : take (told_by x) h ≡ h = sym (ap (held_of h) told) ∙ waits in
    omega (arith, ap length kept, length-take (told_by x) h))
    (λ (short : length h ≤ told_by x). short)
    (cases_lt (told_by x) (length h))

-- one piece, and then others
pub piece_joins : (limit : ℕ) (h p taken rest : List ℕ) (ms : List (List ℕ)) (t : Result (Option ℕ) GrpcFault) → Waits limit h
    → AreOctets (h ++ p) → first_of limit (h ++ p) ≡ t → Joins limit ms rest (held_of (h ++ p) t ++ taken)
    → Joins limit (given_of (answer_of h p t) ++ ms) rest (h ++ (taken_of h p (answer_of h p t) ++ taken))
piece_joins limit h p taken rest ms (Ok None) waits octets e joins =
    subst (λ (xs : List ℕ). Joins limit ms rest xs)
    (append_assoc h p taken ∙ ap (λ xs. h ++ (xs ++ taken)) (sym (take_all (length p) p (omega arith)))) joins
piece_joins limit h p taken rest ms (Ok (Some size)) waits octets e joins =
    let t = whole_told (h ++ p) (announced limit (h ++ p)) size e in
    let short = short_of_whole limit size h p waits t.0 in
    let spelled = read_is_spelled limit size (h ++ p) octets t.0 t.1 in
    let within = (sized limit size (h ++ p) t.0).within in
    let size_is = (sized limit size (h ++ p) t.0).size_is in
    let fits : size ≤ limit = grind (arith, nat_tests, within, size_is) in
    let len : length (take size (drop 5 (h ++ p))) ≤ limit = omega (arith, fits, length-take size (drop 5 (h ++ p))) in
    let m = take size (drop 5 (h ++ p)) in
    let is : h ++ (take (5 + size - length h) p ++ taken) ≡ spelling m ++ taken =
    sym (append_assoc h (take (5 + size - length h) p) taken)
    ∙ ap (λ xs. xs ++ taken) (sym (take_joined (5 + size) h p short) ∙ spelled) in
    (len, taken, is, joins)
piece_joins limit h p taken rest ms (Err x) waits octets e joins =
    let short = short_of_fault limit h p x waits e in
    subst (λ (xs : List ℕ). Joins limit ms rest xs)
    (ap (λ xs. xs ++ taken) (take_joined (told_by x) h p short) ∙ append_assoc h (take (told_by x - length h) p) taken) joins

pub octets_held : (bytes : List ℕ) (t : Result (Option ℕ) GrpcFault) → AreOctets bytes → AreOctets (held_of bytes t)
octets_held bytes (Ok None) octets = octets
octets_held bytes (Ok (Some size)) octets = no_octets
octets_held bytes (Err x) octets = octets_take (told_by x) bytes octets

pub pieces_join : (pieces : List (List ℕ)) (f : Framing) → Waits f.limit f.held → AreOctets f.held → ArePieces pieces
    → Joins f.limit (given_by f pieces) (after_pieces f pieces).held (f.held ++ taken_by f pieces)
    × Waits f.limit (after_pieces f pieces).held
pieces_join [] f waits octets are = (append-nil f.held, waits)
pieces_join (piece ∷ pieces) f waits octets are =
    let bytes = f.held ++ piece in
    let first = first_of f.limit bytes in
    let more = octets_append f.held piece octets are.0 in
    let next = pieces_join pieces (fed f piece) (waits_again f.limit bytes first refl) (octets_held bytes first more) are.1 in (
      piece_joins f.limit f.held piece (taken_by (fed f piece) pieces) (after_pieces f (piece ∷ pieces)).held
          (given_by (fed f piece) pieces) first waits more refl next.0,
      next.1,
    )

pub waits_for_no_message : (limit : ℕ) (h : List ℕ) → limit < 2 ^ 32 → Waits limit h → HasNoMessage limit h
waits_for_no_message limit h small waits m more fits is =
    not_held limit (length m) h waits (ap (first_of limit) is ∙ spelled_is_first limit m more small fits)

pub any_pieces : AnyPieces
any_pieces limit pieces small are =
    let run = pieces_join pieces (fresh limit) refl no_octets are in
    record {
      joined = run.0;
      partial = waits_for_no_message limit (after_pieces (fresh limit) pieces).held small run.1;
    }

pub no_message_at_fault : (limit : ℕ) (bytes : List ℕ) (x : GrpcFault) → limit < 2 ^ 32 → first_of limit bytes ≡ Err x
    → HasNoMessage limit bytes
no_message_at_fault limit bytes x small e m more fits is =
    let read : first_of limit bytes ≡ Ok (Some (length m)) = ap (first_of limit) is ∙ spelled_is_first limit m more small fits in
    absurd (cc)

pub same_limit : (pieces : List (List ℕ)) (f : Framing) → (after_pieces f pieces).limit ≡ f.limit
same_limit [] f = refl
same_limit (piece ∷ pieces) f = same_limit pieces (fed f piece)

pub one_fault : OneFault
one_fault limit pieces others bytes more others_more x y small are others_are is others_is e h =
    let r = after_pieces (fresh limit) pieces in
    let s = after_pieces (fresh limit) others in
    let first : first_of limit (r.held ++ more) ≡ Err x =
    ap (λ k. first_of k (r.held ++ more)) (sym (same_limit pieces (fresh limit)))
    ∙ answer_err r.held more (first_of r.limit (r.held ++ more)) x e in
    let second : first_of limit (s.held ++ others_more) ≡ Err y =
    ap (λ k. first_of k (s.held ++ others_more)) (sym (same_limit others (fresh limit)))
    ∙ answer_err s.held others_more (first_of s.limit (s.held ++ others_more)) y h in
    let joins = subst (λ (b : List ℕ). Joins limit (given_by (fresh limit) pieces) (r.held ++ more) b) (sym is)
    (joins_more limit (given_by (fresh limit) pieces) r.held (taken_by (fresh limit) pieces) more
    (any_pieces limit pieces small are).joined) in
    let others_join = subst (λ (b : List ℕ). Joins limit (given_by (fresh limit) others) (s.held ++ others_more) b) (sym others_is)
    (joins_more limit (given_by (fresh limit) others) s.held (taken_by (fresh limit) others) others_more
    (any_pieces limit others small others_are).joined) in
    let same = one_list limit (given_by (fresh limit) pieces) (given_by (fresh limit) others) bytes (r.held ++ more)
    (s.held ++ others_more) small joins (no_message_at_fault limit (r.held ++ more) x small first) others_join
    (no_message_at_fault limit (s.held ++ others_more) y small second) in
    (same.0, same_fault x y (sym first ∙ ap (first_of limit) same.1 ∙ second))
