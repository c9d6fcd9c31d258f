-- The addresses and prefixes that octets give.
use Rattle.std.proofs.Common.{◌≡◌, ℕ, ◌-◌, ◌==◌, Bool, true, false, cond, ◌&&◌, List, length, drop, Option, Some, None, IfSome, IfOk, ap, ◌∙◌}
use Rattle.std.specs.Prelude.{nat_le, nat_eq}
use Rattle.std.specs.Int.{w128, to_be_bytes, from_be_bytes}
use Rattle.std.specs.List.{All, starts_with}
use Rattle.std.proofs.lemmas.Bool.{eqb-true, leb-true}
use Rattle.std.proofs.lemmas.List.Elements.{All-drop}
use Rattle.hb_base.specs.declared.ip.Ip.{Ip}
use Rattle.hb_base.specs.declared.cidr.Cidr.{Cidr}
use Rattle.hb_base.specs.Cidr.{v4_prefix, cidr_of}
use Rattle.hb_base.specs.Octets.{mapped_prefix, ip_of_octets, IsGiven}
use Rattle.hb_wire.specs.Spelling.{IsOctet}
use Rattle.hb_records.specs.Entries.{ip_or, octets_in}
use Rattle.hb_records.specs.Prefix.{cidr_or, octets_or}
use Rattle.hb_canonical.proofs.Kept.{by_test}
use Rattle.hb_canonical.proofs.Digits.{octets_16, number_16, number_4}
use Rattle.hb_canonical.proofs.Readable.{IsPrefix}

some_cond : {A : Type 0} (t : Bool) (x y : Option A) (P : A → Type 0) → (t ≡ true → IfSome x P) → (t ≡ false → IfSome y P)
    → IfSome (cond t x y) P
some_cond t x y P p q = by_test (λ (o : Option _). IfSome o P) t x y p q

-- a test of octets is one of the octets of their number
same_test : (bs : List ℕ) → length bs ≡ 16 → All IsOctet bs → starts_with nat_eq (to_be_bytes w128 (from_be_bytes w128 bs)) mapped_prefix
    ≡ starts_with nat_eq bs mapped_prefix
same_test bs size all = ap (λ (l : List ℕ). starts_with nat_eq l mapped_prefix) (octets_16 bs size all)

given : (bs : List ℕ) → All IsOctet bs → IfSome (ip_of_octets bs) IsGiven
given bs all =
    some_cond (length bs == 4) _ _ IsGiven (λ four. number_4 bs all)
    (λ _. some_cond (length bs == 16) _ _ IsGiven
    (λ is. some_cond (starts_with nat_eq bs mapped_prefix) _ _ IsGiven (λ _. number_4 (drop 12 bs) (All-drop IsOctet 12 bs all))
    (λ unmapped. (number_16 bs all, same_test bs (eqb-true (length bs) 16 is) all ∙ unmapped)))
    (λ _. tt))

ip_of_some : (field : ℕ) (o : Option Ip) → IfSome o IsGiven → IfOk (ip_or field o) IsGiven
ip_of_some field None p = tt
ip_of_some field (Some ip) p = p

pub ip_kept : (field : ℕ) (bs : List ℕ) → All IsOctet bs → IfOk (octets_in field bs) IsGiven
ip_kept field bs all = ip_of_some field (ip_of_octets bs) (given bs all)

v4_given : (bs : List ℕ) (front : ℕ) → All IsOctet bs → IfSome (v4_prefix bs front) IsPrefix
v4_given bs front all =
    some_cond (length bs == 4) _ _ IsPrefix
    (λ _. some_cond (nat_le front 32) _ _ IsPrefix (λ le. (number_4 bs all, leb-true front 32 le)) (λ _. tt))
    (λ _. tt)

prefix_given : (bs : List ℕ) (front : ℕ) → All IsOctet bs → IfSome (cidr_of bs front) IsPrefix
prefix_given bs front all =
    some_cond (length bs == 16) _ _ IsPrefix
    (λ is. some_cond (nat_le 96 front && starts_with nat_eq bs mapped_prefix) _ _ IsPrefix
    (λ _. v4_given (drop 12 bs) (front - 96) (All-drop IsOctet 12 bs all))
    (λ unmapped. some_cond (nat_le front 128) _ _ IsPrefix
    (λ le. (
      number_16 bs all,
      leb-true front 128 le,
      ap (λ (t : Bool). nat_le 96 front && t) (same_test bs (eqb-true (length bs) 16 is) all) ∙ unmapped,
    )) (λ _. tt)))
    (λ _. v4_given bs front all)

cidr_of_some : (field : ℕ) (o : Option Cidr) → IfSome o IsPrefix → IfOk (cidr_or field o) IsPrefix
cidr_of_some field None p = tt
cidr_of_some field (Some c) p = p

pub cidr_kept : (field front : ℕ) (o : Option (List ℕ)) → IfSome o (All IsOctet) → IfOk (octets_or field front o) IsPrefix
cidr_kept field front None p = tt
cidr_kept field front (Some bs) p = cidr_of_some field (cidr_of bs front) (prefix_given bs front p)
