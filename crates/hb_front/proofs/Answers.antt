-- One answer, which stays.
use Rattle.std.proofs.Common.{◌≡◌, inl, inr, ℕ, ◌+◌, ◌-◌, ◌<◌, ◌≤◌, Bool, true, false, ◌&&◌, not, ◌==◌, nat_lt, nat_eq, List, [], ◌∷◌}
use Rattle.std.proofs.Common.{◌++◌, length}
use Rattle.std.proofs.Common.{}
use Rattle.std.proofs.Common.{take, drop, Option, Some, None, refl, sym, ap, ap₂, subst, ◌∙◌, arith, append_assoc, length-append, length-drop}
use Rattle.std.specs.Prelude.{slice_index, is_none}
use Rattle.std.specs.List.{starts_with}
use Rattle.std.proofs.lemmas.Bool.{cases_lt}
use Rattle.std.proofs.lemmas.Bool.Decides.{nat_tests, Decides-eqb}
use Rattle.std.specs.Int.{w16, from_be_bytes}
use Rattle.std.proofs.lemmas.List.{get_or_append_left, take-append-le, drop-append-le, take_all, append-nil}
use Rattle.std.proofs.Math.Seq.{take-append-add}
use Rattle.std.proofs.lemmas.Slice.Eq.{starts_is}
use Rattle.hb_base.specs.declared.target.Target.{Target}
use Rattle.hb_front.specs.Header.{Header, Fits, spelling, signature, family_of}
use Rattle.hb_front.specs.Tlvs.{Tlv, TellIdentity}
use Rattle.hb_front.specs.Reading.{Seen, Answer, Whole, More, Fault, Says, IsAnswer, IsTlvFault, head_fault, size_at, least_size, tlv_bytes}
use Rattle.hb_front.specs.Laws.{OneAnswer, AnswerStays}
use Rattle.hb_front.specs.declared.fault.FrontFault.{FrontFault}
use Rattle.hb_front.specs.declared.fault.FrontFault.TheVariants.{BadSignature, BadVersion, BadFamily, BadLength, BadIdentity, TooLong}
use Rattle.hb_front.proofs.Heads.{telling, begins, bad_version, bad_family, is_long, is_short}
use Rattle.hb_front.proofs.TlvLists.{one_list}
use Rattle.hb_front.proofs.InFront.{InFront, in_front, one_header}

-- a header says one thing

same_some : {A : Type 0} (x y : A) → Path (Option A) (Some x) (Some y) → x ≡ y
same_some x y e = cc

same_identity : (tlvs : List Tlv) (i j : Option (List ℕ)) → TellIdentity tlvs i → TellIdentity tlvs j → i ≡ j
same_identity tlvs None None a b = refl
same_identity tlvs None (Some v) a b = absurd (let first = b.0 in cc)
same_identity tlvs (Some v) None a b = absurd (let first = a.0 in cc)
same_identity tlvs (Some v) (Some w) a b = let first = a.0 in let second = b.0 in cc

same_target : (t u : Target) → t.ip ≡ u.ip → t.port ≡ u.port → t ≡ u
same_target t u ip port = rw (ip, port) refl

same_seen : (s t : Seen) → s.source ≡ t.source → s.destination ≡ t.destination → s.identity ≡ t.identity → s.length ≡ t.length → s ≡ t
same_seen s t a b c d = rw (a, b, c, d) refl

says_one : (h : Header) (s t : Seen) → Says h s → Says h t → s ≡ t
says_one h s t a b = same_seen s t
    (same_target s.source t.source (same_some _ _ (sym a.source ∙ b.source)) (sym a.source_port ∙ b.source_port))
    (same_target s.destination t.destination (same_some _ _ (sym a.destination ∙ b.destination))
    (sym a.destination_port ∙ b.destination_port))
    (same_identity h.tlvs s.identity t.identity a.identity b.identity)
    (sym a.size ∙ b.size)

-- and bytes have one answer

front_at : (h : Header) (bytes rest : List ℕ) → Fits h → bytes ≡ spelling h ++ rest → InFront h bytes
front_at h bytes rest fits e = subst (InFront h) (sym e) (in_front h rest fits)

whole_whole : (bytes : List ℕ) (s t : Seen) → IsAnswer bytes (Whole s) → IsAnswer bytes (Whole t) → s ≡ t
whole_whole bytes s t (h, h_fits, h_says, x, x_is) (g, g_fits, g_says, y, y_is) =
    let same = one_header h g bytes h_fits g_fits (front_at h bytes x h_fits x_is) (front_at g bytes y g_fits y_is) in
    says_one g s t (subst (λ (k : Header). Says k s) same h_says) g_says

whole_more : (bytes : List ℕ) (s : Seen) → IsAnswer bytes (Whole s) → IsAnswer bytes More → ⊥
whole_more bytes s (h, fits, says, rest, is) (clear, few) =
    let front = front_at h bytes rest fits is in
    omega (arith, front.whole, few)

no_tlv_fault : (h : Header) (bytes : List ℕ) (identity : Option (List ℕ)) (fault : FrontFault) → InFront h bytes
    → TellIdentity h.tlvs identity → IsTlvFault (tlv_bytes bytes) fault → ⊥
no_tlv_fault h bytes identity BadSignature front tell is = is
no_tlv_fault h bytes identity BadVersion front tell is = is
no_tlv_fault h bytes identity BadFamily front tell is = is
no_tlv_fault h bytes identity TooLong front tell is = is
no_tlv_fault h bytes identity BadLength front tell is = is h.tlvs front.tlvs_are
no_tlv_fault h bytes identity BadIdentity front tell is =
    is.2 identity (subst (λ (ts : List Tlv). TellIdentity ts identity) (one_list (tlv_bytes bytes) h.tlvs is.0 front.tlvs_are is.1) tell)

both_ways : (x : Option FrontFault) (fault : FrontFault) → x ≡ None → x ≡ Some fault → ⊥
both_ways x fault e d = absurd (cc)

whole_fault : (bytes : List ℕ) (s : Seen) (fault : FrontFault) → IsAnswer bytes (Whole s) → IsAnswer bytes (Fault fault) → ⊥
whole_fault bytes s fault (h, fits, says, rest, is) (inl head) =
    both_ways (head_fault bytes) fault (front_at h bytes rest fits is).head head
whole_fault bytes s fault (h, fits, says, rest, is) (inr w) =
    no_tlv_fault h bytes s.identity fault (front_at h bytes rest fits is) says.identity w.tlvs

more_fault : (bytes : List ℕ) (fault : FrontFault) → IsAnswer bytes More → IsAnswer bytes (Fault fault) → ⊥
more_fault bytes fault (clear, few) (inl head) = both_ways (head_fault bytes) fault clear head
more_fault bytes fault (clear, few) (inr w) = omega (arith, few, w.whole)

same_tlv_fault : (bytes : List ℕ) (f g : FrontFault) → IsTlvFault bytes f → IsTlvFault bytes g → f ≡ g
same_tlv_fault bytes BadSignature g a b = absurd a
same_tlv_fault bytes BadVersion g a b = absurd a
same_tlv_fault bytes BadFamily g a b = absurd a
same_tlv_fault bytes TooLong g a b = absurd a
same_tlv_fault bytes BadLength BadLength a b = refl
same_tlv_fault bytes BadLength BadIdentity a b = absurd (a b.0 b.1)
same_tlv_fault bytes BadLength BadSignature a b = absurd b
same_tlv_fault bytes BadLength BadVersion a b = absurd b
same_tlv_fault bytes BadLength BadFamily a b = absurd b
same_tlv_fault bytes BadLength TooLong a b = absurd b
same_tlv_fault bytes BadIdentity BadIdentity a b = refl
same_tlv_fault bytes BadIdentity BadLength a b = absurd (b a.0 a.1)
same_tlv_fault bytes BadIdentity BadSignature a b = absurd b
same_tlv_fault bytes BadIdentity BadVersion a b = absurd b
same_tlv_fault bytes BadIdentity BadFamily a b = absurd b
same_tlv_fault bytes BadIdentity TooLong a b = absurd b

fault_fault : (bytes : List ℕ) (f g : FrontFault) → IsAnswer bytes (Fault f) → IsAnswer bytes (Fault g) → f ≡ g
fault_fault bytes f g (inl a) (inl b) = same_some f g (sym a ∙ b)
fault_fault bytes f g (inl a) (inr b) = absurd (both_ways (head_fault bytes) f b.head a)
fault_fault bytes f g (inr a) (inl b) = absurd (both_ways (head_fault bytes) g a.head b)
fault_fault bytes f g (inr a) (inr b) = same_tlv_fault (tlv_bytes bytes) f g a.tlvs b.tlvs

pub one_answer : OneAnswer
one_answer bytes (Whole s) (Whole t) a b = ap Whole (whole_whole bytes s t a b)
one_answer bytes (Whole s) More a b = absurd (whole_more bytes s a b)
one_answer bytes (Whole s) (Fault f) a b = absurd (whole_fault bytes s f a b)
one_answer bytes More (Whole s) a b = absurd (whole_more bytes s b a)
one_answer bytes More More a b = refl
one_answer bytes More (Fault f) a b = absurd (more_fault bytes f a b)
one_answer bytes (Fault f) (Whole s) a b = absurd (whole_fault bytes s f b a)
one_answer bytes (Fault f) More a b = absurd (more_fault bytes f b a)
one_answer bytes (Fault f) (Fault g) a b = ap Fault (fault_fault bytes f g a b)

-- an answer stays when more bytes come

same_telling : (a b c d e f a' b' c' d' e' f' : Bool) → a ≡ a' → b ≡ b' → c ≡ c' → d ≡ d' → e ≡ e' → f ≡ f'
    → telling a b c d e f ≡ telling a' b' c' d' e' f'
same_telling a b c d e f a' b' c' d' e' f' p q r s t u = rw (p, q, r, s, t, u) refl

take_joined : (n : ℕ) (xs ys : List ℕ) → length xs ≤ n → take n (xs ++ ys) ≡ xs ++ take (n - length xs) ys
take_joined n xs ys h =
    let is : n ≡ length xs + (n - length xs) = omega (arith, h) in
    ap (λ k. take k (xs ++ ys)) is ∙ take-append-add xs ys (n - length xs)

take_more : (n : ℕ) (xs ys : List ℕ) → (rest : List ℕ) × (take n (xs ++ ys) ≡ take n xs ++ rest)
take_more n xs ys =
    elim (cases_lt n (length xs)) [
      | inl lt ↦ ([], take-append-le n xs ys (omega arith) ∙ sym (append-nil (take n xs)))
      | inr le ↦ (
        take (n - length xs) ys,
        take_joined n xs ys le ∙ ap (λ zs. zs ++ take (n - length xs) ys) (sym (take_all n xs le)),
      )
    ]

-- bytes that don't begin like the signature don't with more behind them
begins_back : (bytes more : List ℕ) → begins (bytes ++ more) ≡ true → begins bytes ≡ true
begins_back bytes more h =
    let split = take_more 12 bytes more in
    let front = take 12 (bytes ++ more) in
    let whole : signature ≡ front ++ drop (length front) signature = (starts_is Decides-eqb signature front true (sym h)).0 refl in
    let parts : signature ≡ take 12 bytes ++ (split.0 ++ drop (length front) signature) =
    whole ∙ ap (λ xs. xs ++ drop (length front) signature) split.1 ∙ append_assoc (take 12 bytes) split.0 (drop (length front) signature) in
    (starts_is Decides-eqb signature (take 12 bytes) (starts_with nat_eq signature (take 12 bytes)) refl).1
    (split.0 ++ drop (length front) signature) parts

back_false : (a b : Bool) → (b ≡ true → a ≡ true) → a ≡ false → b ≡ false
back_false a true h e = absurd (let t = h refl in cc)
back_false a false h e = refl

-- tests of fewer than 16 bytes, and of these with more behind them
pub record Firmer (begun version family begun' version' family' : Bool) : Type 0 where
  pub not_begun : begun ≡ false → begun' ≡ false
  pub at_version : version ≡ true → (begun' ≡ begun) × (version' ≡ true)
  pub at_family : family ≡ true → (begun' ≡ begun) × (version' ≡ version) × (family' ≡ true)

early : (begun version family long few begun' version' family' short' long' few' : Bool) (fault : FrontFault)
    → telling begun version family true long few ≡ Some fault → Firmer begun version family begun' version' family'
    → telling begun' version' family' short' long' few' ≡ Some fault
early false version family long few begun' version' family' short' long' few' fault e f =
    let same = f.not_begun refl in rw same e
early true true family long few begun' version' family' short' long' few' fault e f =
    let same = f.at_version refl in
    let begun = same.0 in let version_is = same.1 in rw (begun, version_is) e
early true false true long few begun' version' family' short' long' few' fault e f =
    let same = f.at_family refl in
    let begun = same.0 in let version_is = same.1 in let family_is = same.2 in rw (begun, version_is, family_is) e
early true false false long few begun' version' family' short' long' few' fault e f = absurd (cc)

both_true : (a b : Bool) → (a && b) ≡ true → (a ≡ true) × (b ≡ true)
both_true true b e = (refl, e)
both_true false b e = absurd (cc)

module _ (bytes more : List ℕ) where
  begun_same : 12 ≤ length bytes → begins (bytes ++ more) ≡ begins bytes
  begun_same enough = ap (starts_with nat_eq signature) (take-append-le 12 bytes more enough)

  byte_same : (i : ℕ) → i < length bytes → slice_index (bytes ++ more) i ≡ slice_index bytes i
  byte_same i lt = get_or_append_left bytes more 0 i lt

  there : (i : ℕ) → i < length bytes → nat_lt i (length (bytes ++ more)) ≡ nat_lt i (length bytes)
  there i lt =
      let a : nat_lt i (length bytes) ≡ true = grind (arith, nat_tests, lt) in
      let all : length (bytes ++ more) ≡ length bytes + length more = length-append bytes more in
      let b : nat_lt i (length (bytes ++ more)) ≡ true = grind (arith, nat_tests, lt, all) in
      b ∙ sym a

  version_same : 12 < length bytes → bad_version (bytes ++ more) ≡ bad_version bytes
  version_same lt = ap₂ (λ a b. a && not (b == 33)) (there 12 lt) (byte_same 12 lt)

  family_same : 13 < length bytes → bad_family (bytes ++ more) ≡ bad_family bytes
  family_same lt = ap₂ (λ a b. a && is_none (family_of b)) (there 13 lt) (byte_same 13 lt)

  firmer : Firmer (begins bytes) (bad_version bytes) (bad_family bytes)
      (begins (bytes ++ more)) (bad_version (bytes ++ more)) (bad_family (bytes ++ more))
  firmer = record {
    not_begun = back_false _ _ (begins_back bytes more);
    at_version = λ e.
        let test : nat_lt 12 (length bytes) ≡ true = (both_true (nat_lt 12 (length bytes)) (not (slice_index bytes 12 == 33)) e).0 in
        let lt : 12 < length bytes = grind (arith, nat_tests, test) in
        (begun_same (omega arith), version_same lt ∙ e);
    at_family = λ e.
        let test : nat_lt 13 (length bytes) ≡ true =
        (both_true (nat_lt 13 (length bytes)) (is_none (family_of (slice_index bytes 13))) e).0 in
        let lt : 13 < length bytes = grind (arith, nat_tests, test) in
        (begun_same (omega arith), version_same (omega arith), family_same lt ∙ e);
  }

  head_early : (fault : FrontFault) → length bytes < 16 → head_fault bytes ≡ Some fault → head_fault (bytes ++ more) ≡ Some fault
  head_early fault few e =
      let short : nat_lt (length bytes) 16 ≡ true = grind (arith, nat_tests, few) in
      early _ _ _ (is_long bytes) (is_short bytes) _ _ _ (nat_lt (length (bytes ++ more)) 16) (is_long (bytes ++ more))
      (is_short (bytes ++ more)) fault
      (subst (λ (b : Bool). telling (begins bytes) (bad_version bytes) (bad_family bytes) b (is_long bytes) (is_short bytes) ≡ Some fault)
      short e) firmer

  module _ (enough : 16 ≤ length bytes) where
    size_same : size_at (bytes ++ more) ≡ size_at bytes
    size_same = ap₂ (λ a b. from_be_bytes w16 (a ∷ b ∷ [])) (byte_same 14 (omega arith)) (byte_same 15 (omega arith))

    least_same : least_size (slice_index (bytes ++ more) 13) ≡ least_size (slice_index bytes 13)
    least_same = ap least_size (byte_same 13 (omega arith))

    short_same : nat_lt (length (bytes ++ more)) 16 ≡ nat_lt (length bytes) 16
    short_same =
        let a : nat_lt (length bytes) 16 ≡ false = grind (arith, nat_tests, enough) in
        let all : length (bytes ++ more) ≡ length bytes + length more = length-append bytes more in
        let b : nat_lt (length (bytes ++ more)) 16 ≡ false = grind (arith, nat_tests, enough, all) in
        b ∙ sym a

    head_same : head_fault (bytes ++ more) ≡ head_fault bytes
    head_same = same_telling _ _ _ _ _ _ _ _ _ _ _ _ (begun_same (omega arith)) (version_same (omega arith)) (family_same (omega arith))
        short_same (ap (nat_lt 4096) size_same) (ap₂ nat_lt size_same least_same)

    tlvs_same : 16 + size_at bytes ≤ length bytes → tlv_bytes (bytes ++ more) ≡ tlv_bytes bytes
    tlvs_same whole =
        let behind : drop 16 (bytes ++ more) ≡ drop 16 bytes ++ more = drop-append-le 16 bytes more enough in
        let fits : size_at bytes ≤ length (drop 16 bytes) = omega (arith, whole, length-drop 16 bytes) in
        ap₂ drop least_same (ap₂ take size_same behind ∙ take-append-le (size_at bytes) (drop 16 bytes) more fits)

  head_more : (fault : FrontFault) → head_fault bytes ≡ Some fault → head_fault (bytes ++ more) ≡ Some fault
  head_more fault e =
      elim (cases_lt (length bytes) 16) [
        | inl few ↦ head_early fault few e
        | inr enough ↦ head_same enough ∙ e
      ]

  answer_more : (a : Answer) → ¬ (a ≡ More) → IsAnswer bytes a → IsAnswer (bytes ++ more) a
  answer_more (Whole s) told (h, fits, says, rest, is) =
      (h, fits, says, rest ++ more, ap (λ xs. xs ++ more) is ∙ append_assoc (spelling h) rest more)
  answer_more More told is = absurd (told refl)
  answer_more (Fault fault) told (inl head) = inl (head_more fault head)
  answer_more (Fault fault) told (inr w) =
      let whole = w.whole in
      let enough : 16 ≤ length bytes = omega (arith, whole) in
      inr (record {
        head = head_same enough ∙ w.head;
        whole = omega (arith, size_same enough, whole, length-append bytes more);
        tlvs = subst (λ xs. IsTlvFault xs fault) (sym (tlvs_same enough whole)) w.tlvs;
      })

pub answer_stays : AnswerStays
answer_stays bytes more a b is told later = one_answer (bytes ++ more) a b (answer_more bytes more a told is) later
