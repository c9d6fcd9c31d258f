-- What the first five bytes tell, and lists that are joined.
use Rattle.std.proofs.Common.{◌≡◌, ◌⊎◌, inl, inr, ⊎_elim, ℕ, ◌+◌, ◌-◌, ◌≤◌, ◌<◌, List, [], ◌∷◌, ◌++◌, length, take, drop, refl, ap, ◌∙◌, sym, arith}
use Rattle.std.proofs.Common.{min, Bool, true, false, cond, Option, Some, None, Result, Ok, Err, length-take}
use Rattle.std.specs.Prelude.{nat_lt, slice_index, ◌==◌, not}
use Rattle.std.proofs.lemmas.List.{drop-drop, drop_at}
use Rattle.std.proofs.lemmas.Bool.Decides.{nat_tests}
use Rattle.hb_grpc.specs.Reading.{announced, size_at, MayHold, told_by}
use Rattle.hb_grpc.specs.declared.fault.GrpcFault.{GrpcFault}
use Rattle.hb_grpc.specs.declared.fault.GrpcFault.TheVariants.{Compressed, TooLong}

pub drop_joined : (n : ℕ) (xs ys : List ℕ) → length xs ≤ n → drop n (xs ++ ys) ≡ drop (n - length xs) ys
drop_joined n xs ys h =
    let is : n ≡ length xs + (n - length xs) = omega (arith, h) in
    ap (λ k. drop k (xs ++ ys)) is ∙ sym (drop-drop (n - length xs) (length xs) (xs ++ ys))
    ∙ ap (drop (n - length xs)) (drop_at xs ys (length xs) refl)

-- what the tests of announced tell
abbrev pub telling : (empty zero short long : Bool) (flag size : ℕ) → Result (Option ℕ) GrpcFault
telling empty zero short long flag size = cond empty (Ok None)
    (cond (not zero) (Err (Compressed flag)) (cond short (Ok None) (cond long (Err (TooLong size)) (Ok (Some size)))))

pub told_none : (empty zero short long : Bool) (flag size : ℕ) → telling empty zero short long flag size ≡ Ok None
    → (empty ≡ true) ⊎ (short ≡ true)
told_none true zero short long flag size e = inl refl
told_none false false short long flag size e = absurd (cc)
told_none false true true long flag size e = inr refl
told_none false true false true flag size e = absurd (cc)
told_none false true false false flag size e = absurd (cc)

pub record TellsSize (empty zero short long : Bool) (size n : ℕ) : Type 0 where
  pub plain : zero ≡ true
  pub enough : short ≡ false
  pub within : long ≡ false
  pub size_is : size ≡ n

pub told_size : (empty zero short long : Bool) (flag size n : ℕ) → telling empty zero short long flag size ≡ Ok (Some n)
    → TellsSize empty zero short long size n
told_size true zero short long flag size n e = absurd (cc)
told_size false false short long flag size n e = absurd (cc)
told_size false true true long flag size n e = absurd (cc)
told_size false true false true flag size n e = absurd (cc)
told_size false true false false flag size n e = record { plain = refl; enough = refl; within = refl; size_is = cc }

pub held_early : (empty zero long : Bool) (flag size : ℕ) (b : List ℕ) → MayHold (telling empty zero true long flag size) b → b ≡ []
held_early true zero long flag size b may = may
held_early false false long flag size b may = may
held_early false true long flag size b may = may

-- what five bytes or more tell, the first five tell
pub announced_front : (limit : ℕ) (bytes : List ℕ) → announced limit (take 5 bytes) ≡ announced limit bytes
announced_front limit [] = refl
announced_front limit (a ∷ []) = refl
announced_front limit (a ∷ b ∷ []) = refl
announced_front limit (a ∷ b ∷ c ∷ []) = refl
announced_front limit (a ∷ b ∷ c ∷ d ∷ []) = refl
announced_front limit (a ∷ b ∷ c ∷ d ∷ e ∷ bytes) =
    let some : (length (a ∷ b ∷ c ∷ d ∷ e ∷ bytes) == 0) ≡ false = grind (arith, nat_tests) in
    let enough : nat_lt (length (a ∷ b ∷ c ∷ d ∷ e ∷ bytes)) 5 ≡ false = grind (arith, nat_tests) in
    rw (some, enough) refl

-- before the header is whole there is no body
pub no_body : (limit : ℕ) (h b : List ℕ) → length h < 5 → MayHold (announced limit h) b → b ≡ []
no_body limit h b few may =
    let short : nat_lt (length h) 5 ≡ true = grind (arith, nat_tests) in
    held_early (length h == 0) (slice_index h 0 == 0) (nat_lt limit (size_at h)) (slice_index h 0) (size_at h) b (rw short at may)

-- where nothing is told yet the header isn't whole
pub not_whole : (limit : ℕ) (h : List ℕ) → announced limit h ≡ Ok None → length h < 5
not_whole limit h e = ⊎_elim
    (λ (t : (length h == 0) ≡ true). let few : length h ≡ 0 = grind (arith, nat_tests, t) in omega (arith, few))
    (λ (t : nat_lt (length h) 5 ≡ true). grind (arith, nat_tests, t))
    (told_none (length h == 0) (slice_index h 0 == 0) (nat_lt (length h) 5) (nat_lt limit (size_at h)) (slice_index h 0) (size_at h) e)

pub sized : (limit size : ℕ) (h : List ℕ) → announced limit h ≡ Ok (Some size)
    → TellsSize (length h == 0) (slice_index h 0 == 0) (nat_lt (length h) 5) (nat_lt limit (size_at h)) (size_at h) size
sized limit size h e =
    told_size (length h == 0) (slice_index h 0 == 0) (nat_lt (length h) 5) (nat_lt limit (size_at h)) (slice_index h 0) (size_at h) size e

-- a length is told by a whole header
pub whole_header : (limit size : ℕ) (h : List ℕ) → announced limit h ≡ Ok (Some size) → 5 ≤ length h
whole_header limit size h e = let t = (sized limit size h e).enough in grind (arith, nat_tests, t)

pub told_early : (fault : GrpcFault) → told_by fault ≤ 5
told_early (Compressed flag) = omega arith
told_early (TooLong size) = omega arith
