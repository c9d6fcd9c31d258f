-- The text of an identity.
use Rattle.std.proofs.Common.{◌≡◌, ◌≢◌, length, ℕ, List, [], ◌∷◌, ◌++◌, drop, Bool, true, false, cond, nat_eq, Some, None, refl, sym, ap, subst, ◌∙◌, arith, append_assoc, codes}
use Rattle.std.specs.List.{starts_with, join_with_byte}
use Rattle.std.proofs.lemmas.Bool.Decides.{nat_tests, Decides-eqb}
use Rattle.std.proofs.lemmas.List.Splits.{join_with_byte-slice_split}
use Rattle.std.proofs.lemmas.List.Sums.{AllPass-from_list_all}
use Rattle.std.proofs.lemmas.Slice.Eq.{bytes_eq-Decides, starts_is}
use Rattle.hb_base.specs.IdentityText.{is_name_byte, is_name, identity_of, identity_of_parts, principal_of}
use Rattle.hb_base.specs.Parts.{parts}
use Rattle.hb_base.specs.declared.identity.Identity.{Identity}
use Rattle.hb_base.proofs.NameLemmas.{name_bytes}
use Rattle.hb_base.proofs.PartsLemmas.{Lacks, parts_at, parts_end}
use Rattle.hb_base.proofs.TestLemmas.{both, if_some}

-- a name has no slash
no_slash : (text : List ℕ) → is_name text ≡ true → Lacks 47 text
no_slash text h = λ k d below. let byte = AllPass-from_list_all is_name_byte text (name_bytes text h) k d below in
    grind (arith, nat_tests, byte)

-- the principal of three names, part by part
spelled : (td ns sa : List ℕ) → td ++ 47 ∷ (codes "ns" ++ 47 ∷ (ns ++ 47 ∷ (codes "sa" ++ 47 ∷ sa))) ≡ td ++ codes "/ns/" ++ ns
    ++ codes "/sa/" ++ sa
spelled td ns sa = sym (simp append_assoc)

-- five parts that make an identity spell its principal
abbrev pub Spells : List ℕ → Identity → Type 0
Spells rest i = (rest ≡ principal_of i) × (is_name i.trust_domain ≡ true) × (is_name i.namespace ≡ true)
    × (is_name i.service_account ≡ true)

five_parts : (td ns_word ns sa_word sa : List ℕ) (i : Identity) → identity_of_parts (td ∷ ns_word ∷ ns ∷ sa_word ∷ sa ∷ []) ≡ Some i
    → Spells (td ++ 47 ∷ (ns_word ++ 47 ∷ (ns ++ 47 ∷ (sa_word ++ 47 ∷ sa)))) i
five_parts td ns_word ns sa_word sa i h =
    let (holds, is) = if_some _ _ i h in
    let (upto_word, account) = both _ _ holds in
    let (upto_ns, word) = both _ _ upto_word in
    let (upto_first, namespace) = both _ _ upto_ns in
    let (domain, first_word) = both _ _ upto_first in
    let ns_is = (bytes_eq-Decides ns_word (codes "ns")).0 first_word in
    let sa_is = (bytes_eq-Decides sa_word (codes "sa")).0 word in
    let text : td ++ 47 ∷ (ns_word ++ 47 ∷ (ns ++ 47 ∷ (sa_word ++ 47 ∷ sa))) ≡ td ++ codes "/ns/" ++ ns ++ codes "/sa/" ++ sa =
    rw (ns_is, sa_is) (spelled td ns sa) in
    subst (λ (j : Identity). Spells (td ++ 47 ∷ (ns_word ++ 47 ∷ (ns ++ 47 ∷ (sa_word ++ 47 ∷ sa)))) j) is
    (text, domain, namespace, account)

by_parts : (ps : List (List ℕ)) (i : Identity) → identity_of_parts ps ≡ Some i → Spells (join_with_byte 47 ps) i
by_parts [] i h = cc
by_parts (a ∷ []) i h = cc
by_parts (a ∷ b ∷ []) i h = cc
by_parts (a ∷ b ∷ c ∷ []) i h = cc
by_parts (a ∷ b ∷ c ∷ d ∷ []) i h = cc
by_parts (a ∷ b ∷ c ∷ d ∷ e ∷ []) i h = five_parts a b c d e i h
by_parts (a ∷ b ∷ c ∷ d ∷ e ∷ f ∷ more) i h = cc

-- no other number of parts makes one
pub other_parts : (first : List ℕ) (more : List (List ℕ)) → length more ≢ 4 → identity_of_parts (first ∷ more) ≡ None
other_parts a [] other = refl
other_parts a (b ∷ []) other = refl
other_parts a (b ∷ c ∷ []) other = refl
other_parts a (b ∷ c ∷ d ∷ []) other = refl
other_parts a (b ∷ c ∷ d ∷ e ∷ []) other = absurd (other refl)
other_parts a (b ∷ c ∷ d ∷ e ∷ f ∷ more) other = refl

principal_spelled : (rest : List ℕ) (i : Identity) → identity_of_parts (parts 47 rest) ≡ Some i → Spells rest i
principal_spelled rest i h = rw join_with_byte-slice_split at (by_parts (parts 47 rest) i h)

-- a text that is read spells `spiffe://` and a principal
by_start : (text : List ℕ) (i : Identity) (b : Bool) → starts_with nat_eq text (codes "spiffe://") ≡ b
    → cond b (identity_of_parts (parts 47 (drop 9 text))) None ≡ Some i → (text ≡ codes "spiffe://" ++ principal_of i)
    × (is_name i.trust_domain ≡ true) × (is_name i.namespace ≡ true) × (is_name i.service_account ≡ true)
by_start text i false start h = cc
by_start text i true start h =
    let (principal, domain, namespace, account) = principal_spelled (drop 9 text) i h in
    let cut = (starts_is Decides-eqb text (codes "spiffe://") true (sym start)).0 refl in
    (cut ∙ ap (λ (rest : List ℕ). codes "spiffe://" ++ rest) principal, domain, namespace, account)

pub identity_spelled : (text : List ℕ) (i : Identity) → identity_of text ≡ Some i → (text ≡ codes "spiffe://" ++ principal_of i)
    × (is_name i.trust_domain ≡ true) × (is_name i.namespace ≡ true) × (is_name i.service_account ≡ true)
identity_spelled text i h = by_start text i (starts_with nat_eq text (codes "spiffe://")) refl h

-- the parts of a principal
principal_parts : (td ns sa : List ℕ) → is_name td ≡ true → is_name ns ≡ true → is_name sa ≡ true
    → parts 47 (td ++ codes "/ns/" ++ ns ++ codes "/sa/" ++ sa) ≡ td ∷ codes "ns" ∷ ns ∷ codes "sa" ∷ sa ∷ []
principal_parts td ns sa td_name ns_name sa_name =
    let from_sa = parts_end 47 sa (no_slash sa sa_name) in
    let from_ns = parts_at 47 ns (codes "sa" ++ 47 ∷ sa) (no_slash ns ns_name) ∙ ap (λ (ps : List (List ℕ)). ns ∷ codes "sa" ∷ ps)
    from_sa in
    let from_td = parts_at 47 td (codes "ns" ++ 47 ∷ (ns ++ 47 ∷ (codes "sa" ++ 47 ∷ sa))) (no_slash td td_name)
    ∙ ap (λ (ps : List (List ℕ)). td ∷ codes "ns" ∷ ps) from_ns in
    ap (parts 47) (sym (spelled td ns sa)) ∙ from_td

-- `spiffe://` and a principal are read
pub identity_of-text : (i : Identity) → is_name i.trust_domain ≡ true → is_name i.namespace ≡ true → is_name i.service_account ≡ true
    → identity_of (codes "spiffe://" ++ principal_of i) ≡ Some i
identity_of-text i td_name ns_name sa_name =
    ap identity_of_parts (principal_parts i.trust_domain i.namespace i.service_account td_name ns_name sa_name)
    ∙ rw (td_name, ns_name, sa_name) refl
