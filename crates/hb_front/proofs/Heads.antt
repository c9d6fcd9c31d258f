-- What the first 16 bytes are where they make no fault.
use Rattle.std.proofs.Common.{◌≡◌, ℕ, ◌+◌, ◌≤◌, Bool, true, false, cond, not, ◌&&◌, ◌==◌, nat_lt, nat_eq, List, ◌++◌, length, take, drop}
use Rattle.std.proofs.Common.{Option, Some, None, refl, sym, ap, ◌∙◌, arith, append-nil, length-take}
use Rattle.std.specs.Prelude.{slice_index, is_none}
use Rattle.std.specs.List.{starts_with}
use Rattle.std.proofs.lemmas.Bool.Decides.{nat_tests, Decides-eqb}
use Rattle.std.proofs.lemmas.Slice.Eq.{starts_is}
use Rattle.hb_front.specs.Header.{signature, family_byte, family_of, address_len}
use Rattle.hb_front.specs.Reading.{head_fault, size_at, least_size}
use Rattle.hb_front.specs.declared.fault.FrontFault.{FrontFault}
use Rattle.hb_front.specs.declared.fault.FrontFault.TheVariants.{BadSignature, BadVersion, BadFamily, BadLength, TooLong}
use Rattle.hb_front.specs.declared.family.Family.{Family}
use Rattle.hb_front.specs.declared.family.Family.TheVariants.{Inet, Inet6}

-- the tests of a head

abbrev pub begins : List ℕ → Bool
begins bytes = starts_with nat_eq signature (take 12 bytes)

abbrev pub bad_version : List ℕ → Bool
bad_version bytes = nat_lt 12 (length bytes) && not (slice_index bytes 12 == 33)

abbrev pub bad_family : List ℕ → Bool
bad_family bytes = nat_lt 13 (length bytes) && is_none (family_of (slice_index bytes 13))

abbrev pub is_long : List ℕ → Bool
is_long bytes = nat_lt 4096 (size_at bytes)

abbrev pub is_short : List ℕ → Bool
is_short bytes = nat_lt (size_at bytes) (least_size (slice_index bytes 13))

-- what they tell
abbrev pub telling : (begun version family short long few : Bool) → Option FrontFault
telling begun version family short long few =
    cond (not begun) (Some BadSignature) (cond version (Some BadVersion) (cond family (Some BadFamily)
    (cond short None (cond long (Some TooLong) (cond few (Some BadLength) None)))))

pub record Passes (begun version family long few : Bool) : Type 0 where
  pub begins_is : begun ≡ true
  pub version_is : version ≡ false
  pub family_is : family ≡ false
  pub long_is : long ≡ false
  pub few_is : few ≡ false

pub passes : (begun version family short long few : Bool) → telling begun version family short long few ≡ None → short ≡ false
    → Passes begun version family long few
passes false version family short long few e s = absurd (cc)
passes true true family short long few e s = absurd (cc)
passes true false true short long few e s = absurd (cc)
passes true false false true long few e s = absurd (cc)
passes true false false false true few e s = absurd (cc)
passes true false false false false true e s = absurd (cc)
passes true false false false false false e s =
    record { begins_is = refl; version_is = refl; family_is = refl; long_is = refl; few_is = refl }

pub none_told : (begun version family short long few : Bool) → Passes begun version family long few → short ≡ false
    → telling begun version family short long few ≡ None
none_told begun version family short long few p s =
    let a = p.begins_is in let b = p.version_is in let c = p.family_is in let d = p.long_is in let e = p.few_is in
    rw (a, b, c, s, d, e) refl

-- 16 bytes that make no fault
pub record Clean (family : Family) (bytes : List ℕ) : Type 0 where
  pub begins : take 12 bytes ≡ signature
  pub version : slice_index bytes 12 ≡ 33
  pub family_is : slice_index bytes 13 ≡ family_byte family
  pub least_is : least_size (slice_index bytes 13) ≡ address_len family + address_len family + 4
  pub size : size_at bytes ≤ 4096
  pub least : address_len family + address_len family + 4 ≤ size_at bytes

some_family : (o : Option Family) → is_none o ≡ false → (f : Family) × (o ≡ Some f)
some_family None e = absurd (cc)
some_family (Some f) e = (f, refl)

byte_tests : (a b : Bool) (x : ℕ) (f : Family) → (x == 17) ≡ a → (x == 33) ≡ b → cond a (Some Inet) (cond b (Some Inet6) None) ≡ Some f
    → x ≡ family_byte f
byte_tests true b x Inet is _ e = grind (arith, nat_tests, is)
byte_tests true b x Inet6 is _ e = absurd (cc)
byte_tests false true x Inet _ is e = absurd (cc)
byte_tests false true x Inet6 _ is e = grind (arith, nat_tests, is)
byte_tests false false x f _ _ e = absurd (cc)

pub family_byte_is : (x : ℕ) (f : Family) → family_of x ≡ Some f → x ≡ family_byte f
family_byte_is x f e = byte_tests (x == 17) (x == 33) x f refl refl e

pub least_of : (f : Family) → least_size (family_byte f) ≡ address_len f + address_len f + 4
least_of Inet = refl
least_of Inet6 = refl

signature_is : (bytes : List ℕ) → 12 ≤ length bytes → starts_with nat_eq signature (take 12 bytes) ≡ true → take 12 bytes ≡ signature
signature_is bytes enough h =
    let len : length (take 12 bytes) ≡ 12 = omega (arith, enough, length-take 12 bytes) in
    sym ((starts_is Decides-eqb signature (take 12 bytes) true (sym h)).0 refl
    ∙ ap (λ n. take 12 bytes ++ drop n signature) len ∙ append-nil (take 12 bytes))

module _ (bytes : List ℕ) (e : head_fault bytes ≡ None) (enough : 16 ≤ length bytes) where
  long_enough : nat_lt (length bytes) 16 ≡ false
  long_enough = grind (arith, nat_tests, enough)

  passed : Passes (begins bytes) (bad_version bytes) (bad_family bytes) (is_long bytes) (is_short bytes)
  passed = passes _ _ _ (nat_lt (length bytes) 16) _ _ e long_enough

  version_is : slice_index bytes 12 ≡ 33
  version_is =
      let twelve : nat_lt 12 (length bytes) ≡ true = grind (arith, nat_tests, enough) in
      let version : not (slice_index bytes 12 == 33) ≡ false =
      ap (λ b. b && not (slice_index bytes 12 == 33)) (sym twelve) ∙ passed.version_is in
      grind (arith, nat_tests, version)

  pub has_family : (f : Family) × (family_of (slice_index bytes 13) ≡ Some f)
  has_family =
      let thirteen : nat_lt 13 (length bytes) ≡ true = grind (arith, nat_tests, enough) in
      let some : is_none (family_of (slice_index bytes 13)) ≡ false =
      ap (λ b. b && is_none (family_of (slice_index bytes 13))) (sym thirteen) ∙ passed.family_is in
      some_family (family_of (slice_index bytes 13)) some

  pub clean : (f : Family) → family_of (slice_index bytes 13) ≡ Some f → Clean f bytes
  clean f found =
      let byte = family_byte_is (slice_index bytes 13) f found in
      let least : least_size (slice_index bytes 13) ≡ address_len f + address_len f + 4 = ap least_size byte ∙ least_of f in
      let few = passed.few_is in
      let long = passed.long_is in
      record {
        begins = signature_is bytes (omega (arith, enough)) passed.begins_is;
        version = version_is;
        family_is = byte;
        least_is = least;
        size = grind (arith, nat_tests, long);
        least = grind (arith, nat_tests, few, least);
      }
