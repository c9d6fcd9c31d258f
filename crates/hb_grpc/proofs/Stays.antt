-- A fault stays, whatever is fed afterwards.
use Rattle.std.proofs.Common.{◌≡◌, ℕ, ◌+◌, ◌≤◌, List, [], ◌∷◌, ◌++◌, length, take, refl, ap, ◌∙◌, sym, arith}
use Rattle.std.proofs.Common.{Bool, true, false, cond, Option, Some, None, Result, Ok, Err, length-take}
use Rattle.std.specs.Prelude.{nat_lt, slice_index, ◌==◌}
use Rattle.std.proofs.lemmas.List.{take-take, take-append-le}
use Rattle.std.proofs.lemmas.Bool.Decides.{nat_tests}
use Rattle.hb_grpc.specs.Reading.{Framing, announced, whole_of, first_of, told_by, held_of, fed, answer_of, answer, size_at}
use Rattle.hb_grpc.specs.Pieces.{after_pieces, given_of, given_by, FaultStays}
use Rattle.hb_grpc.specs.declared.fault.GrpcFault.{GrpcFault}
use Rattle.hb_grpc.specs.declared.fault.GrpcFault.TheVariants.{Compressed, TooLong}
use Rattle.hb_grpc.specs.declared.framer.Fed.{Fed}
use Rattle.hb_grpc.proofs.Fronts.{telling, announced_front}

pub sized_first : (short : Bool) (size : ℕ) (x : GrpcFault)
    → Path (Result (Option ℕ) GrpcFault) (cond short (Ok None) (Ok (Some size))) (Err x) → ⊥
sized_first true size x e = absurd (cc)
sized_first false size x e = absurd (cc)

pub fault_is : (x y : GrpcFault) → Path (Result Fed GrpcFault) (Err x) (Err y) → x ≡ y
fault_is x y e = cc

pub whole_err : (bytes : List ℕ) (t : Result (Option ℕ) GrpcFault) (x : GrpcFault) → whole_of bytes t ≡ Err x → t ≡ Err x
whole_err bytes (Ok None) x e = absurd (cc)
whole_err bytes (Ok (Some size)) x e = absurd (sized_first (nat_lt (length bytes) (5 + size)) size x e)
whole_err bytes (Err y) x e = e

pub told_long : (empty zero short long : Bool) (flag size n : ℕ) → telling empty zero short long flag size ≡ Err (TooLong n)
    → short ≡ false
told_long true zero short long flag size n e = absurd (cc)
told_long false false short long flag size n e = absurd (cc)
told_long false true true long flag size n e = absurd (cc)
told_long false true false long flag size n e = refl

pub record TellsFlag (zero : Bool) (flag n : ℕ) : Type 0 where
  pub marked : zero ≡ false
  pub flag_is : Path GrpcFault (Compressed flag) (Compressed n)

pub told_flag : (empty zero short long : Bool) (flag size n : ℕ) → telling empty zero short long flag size ≡ Err (Compressed n)
    → TellsFlag zero flag n
told_flag true zero short long flag size n e = absurd (cc)
told_flag false false short long flag size n e = record { marked = refl; flag_is = cc }
told_flag false true true long flag size n e = absurd (cc)
told_flag false true false true flag size n e = absurd (cc)
told_flag false true false false flag size n e = absurd (cc)

-- the bytes that tell a fault tell it whatever comes behind them
pub told_again : (limit : ℕ) (bytes more : List ℕ) (x : GrpcFault) → announced limit bytes ≡ Err x
    → announced limit (take (told_by x) bytes ++ more) ≡ Err x
told_again limit bytes more (TooLong n) e =
    let test = told_long (length bytes == 0) (slice_index bytes 0 == 0) (nat_lt (length bytes) 5) (nat_lt limit (size_at bytes))
    (slice_index bytes 0) (size_at bytes) n e in
    let enough : 5 ≤ length bytes = grind (arith, nat_tests, test) in
    let five : 5 ≤ length (take 5 bytes) = omega (arith, enough, length-take 5 bytes) in
    sym (announced_front limit (take 5 bytes ++ more))
    ∙ ap (announced limit) (take-append-le 5 (take 5 bytes) more five ∙ take-take 5 5 bytes (omega arith))
    ∙ announced_front limit bytes ∙ e
told_again limit [] more (Compressed n) e = absurd (cc)
told_again limit (a ∷ rest) more (Compressed n) e =
    let t = told_flag (length (a ∷ rest) == 0) (a == 0) (nat_lt (length (a ∷ rest)) 5) (nat_lt limit (size_at (a ∷ rest)))
    a (size_at (a ∷ rest)) n e in
    let some : (length (a ∷ more) == 0) ≡ false = grind (arith, nat_tests) in
    let marked = t.marked in
    rw (some, marked) (ap Err t.flag_is)

pub first_again : (limit : ℕ) (bytes more : List ℕ) (x : GrpcFault) → first_of limit bytes ≡ Err x
    → first_of limit (take (told_by x) bytes ++ more) ≡ Err x
first_again limit bytes more x e =
    ap (whole_of (take (told_by x) bytes ++ more)) (told_again limit bytes more x (whole_err bytes (announced limit bytes) x e))

-- what is held tells the fault, whatever comes behind it
abbrev pub Tells : GrpcFault → Framing → Type 0
Tells x f = (more : List ℕ) → first_of f.limit (f.held ++ more) ≡ Err x

pub fed_tells : (f : Framing) (piece : List ℕ) (x : GrpcFault) → first_of f.limit (f.held ++ piece) ≡ Err x → Tells x (fed f piece)
fed_tells f piece x e more =
    ap (λ (t : Result (Option ℕ) GrpcFault). first_of f.limit (held_of (f.held ++ piece) t ++ more)) e
    ∙ first_again f.limit (f.held ++ piece) more x e

pub answer_err : (held piece : List ℕ) (t : Result (Option ℕ) GrpcFault) (x : GrpcFault) → answer_of held piece t ≡ Err x → t ≡ Err x
answer_err held piece (Ok None) x e = absurd (cc)
answer_err held piece (Ok (Some size)) x e = absurd (cc)
answer_err held piece (Err y) x e = ap Err (fault_is y x e)

pub tells_on : (pieces : List (List ℕ)) (f : Framing) (x : GrpcFault) → Tells x f
    → Tells x (after_pieces f pieces) × (given_by f pieces ≡ [])
tells_on [] f x tells = (tells, refl)
tells_on (piece ∷ pieces) f x tells =
    let next = tells_on pieces (fed f piece) x (fed_tells f piece x (tells piece)) in
    let answered : answer f piece ≡ Err x = ap (answer_of f.held piece) (tells piece) in
    (next.0, ap (λ (a : Result Fed GrpcFault). given_of a ++ given_by (fed f piece) pieces) answered ∙ next.1)

pub fault_stays : FaultStays
fault_stays f piece more pieces x e =
    let first = answer_err f.held piece (first_of f.limit (f.held ++ piece)) x e in
    let later = tells_on pieces (fed f piece) x (fed_tells f piece x first) in
    (ap (answer_of (after_pieces (fed f piece) pieces).held more) (later.0 more), later.1)
