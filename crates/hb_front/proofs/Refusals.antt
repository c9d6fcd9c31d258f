-- What no header is.
use Rattle.std.proofs.Common.{◌≡◌, inl, inr, ℕ, ◌≤◌, List, [], ◌∷◌, ◌++◌, length, take, drop, refl, sym, ap, subst, arith, lit<}
use Rattle.std.proofs.Common.{Option, Some, None, length-append}
use Rattle.std.specs.Int.{w16, to_be_bytes}
use Rattle.hb_front.specs.Header.{spelling}
use Rattle.hb_front.specs.Tlvs.{Tlv, AreTlvs, TellIdentity, identities}
use Rattle.hb_front.specs.Reading.{Fault, IsAnswer}
use Rattle.hb_front.specs.Laws.{TwoIdentitiesAreRefused, LengthCountsAll, SmallAnswers, FaultIsNotMore, SmallTlvs}
use Rattle.hb_front.specs.declared.fault.FrontFault.TheVariants.{BadSignature, BadVersion, BadIdentity}
use Rattle.hb_front.proofs.TlvLists.{texts, same_size}
use Rattle.hb_front.proofs.InFront.{InFront, in_front}
use Rattle.hb_front.proofs.Answers.{one_answer}

several : (tlvs : List Tlv) (identity : Option (List ℕ)) → 2 ≤ length (identities tlvs) → TellIdentity tlvs identity → ⊥
several tlvs None two tell = omega (arith, two, ap length tell)
several tlvs (Some v) two tell = omega (arith, two, ap length tell.0)

pub two_identities : TwoIdentitiesAreRefused
two_identities h more a fits two is =
    let front = in_front h more fits in
    let refused : IsAnswer (spelling h ++ more) (Fault BadIdentity) = inr (record {
      head = front.head;
      whole = front.whole;
      tlvs = (h.tlvs, front.tlvs_are, λ identity tell. several h.tlvs identity two tell);
    }) in
    one_answer (spelling h ++ more) a (Fault BadIdentity) is refused

pub length_counts : LengthCountsAll
length_counts bytes seen (h, fits, says, rest, is) =
    let front = subst (InFront h) (sym is) (in_front h rest fits) in
    omega (arith, says.size, front.size)

pub small_answers : SmallAnswers
small_answers = ((refl, lit< tt), (refl, lit< tt), inl refl, inl refl)

pub fault_is_not_more : FaultIsNotMore
fault_is_not_more = (λ m. differs BadSignature m.0, λ m. differs BadVersion m.0)
  where
    differs : {A : Type 0} (x : A) → Path (Option A) (Some x) None → ⊥
    differs x e = cc

short_value : (tlvs : List Tlv) → AreTlvs (224 ∷ 0 ∷ 2 ∷ 97 ∷ []) tlvs → ⊥
short_value [] are = let e = are.joined in cc
short_value (t ∷ tlvs) are =
    let sizes : to_be_bytes w16 2 ≡ to_be_bytes w16 (length t.value) = ap (λ xs. take 2 (drop 1 xs)) are.joined in
    let size : 2 ≡ length t.value = same_size 2 (length t.value) (omega arith) are.fit.0.value sizes in
    let all : 97 ∷ [] ≡ t.value ++ texts tlvs = ap (drop 3) are.joined in
    omega (arith, size, ap length all, length-append t.value (texts tlvs))

pub small_tlvs : SmallTlvs
small_tlvs = (record { fit = (record { kind = omega arith; value = omega arith }, tt); joined = refl }, short_value)
