-- What is written and waits, from step to step.
use Rattle.std.proofs.Common.{◌≡◌, ◌≤◌, ℕ, List, [], ◌++◌, length, take, drop, sym, ◌∙◌, ap, subst, arith}
use Rattle.std.specs.Prelude.{Option, Some, None}
use Rattle.std.specs.Option.{option_map}
use Rattle.std.specs.Io.KnownBytes.{Keeps, Appends}
use Rattle.std.proofs.lemmas.List.{append_assoc, append-nil, take-append-drop, take-take, length-take}

-- what stays twice stays
pub keeps_next : (a b c : Option (List ℕ)) → Keeps a b → Keeps b c → Keeps a c
keeps_next None b c first next = tt
keeps_next (Some xs) None c first next = absurd first
keeps_next (Some xs) (Some ys) None first next = next
keeps_next (Some xs) (Some ys) (Some zs) first next = next ∙ first

-- a part of what waits is written, from its front
pub keeps_put : (a b : Option (List ℕ)) (waits part rest : List ℕ) → Appends a b part → part ++ rest ≡ waits
    → Keeps (option_map (λ octets. octets ++ waits) a) (option_map (λ octets. octets ++ rest) b)
keeps_put None b waits part rest appends is = tt
keeps_put (Some xs) None waits part rest appends is = absurd appends
keeps_put (Some xs) (Some ys) waits part rest appends is =
    ap (λ octets. octets ++ rest) appends ∙ (append_assoc xs part rest ∙ ap (λ octets. xs ++ octets) is)

-- so many octets from the front of those that a put had are written
pub keeps_wrote : (a b c : Option (List ℕ)) (waits from rest : List ℕ) (count n : ℕ) → b ≡ a → from ≡ take count waits → n ≤ length from
    → Appends b c (take n from) → rest ≡ drop n waits
    → Keeps (option_map (λ octets. octets ++ waits) a) (option_map (λ octets. octets ++ rest) c)
keeps_wrote a b c waits from rest count n same had fits appends left =
    let within : n ≤ count = omega (arith, ap length had, length-take count waits) in
    let part : take n from ≡ take n waits = ap (take n) had ∙ take-take n count waits within in
    keeps_put a c waits (take n from) rest (subst (λ x. Appends x c (take n from)) same appends)
    (ap (λ octets. octets ++ rest) part ∙ (ap (λ octets. take n waits ++ octets) left ∙ take-append-drop n waits))

-- more waits
pub adds : (a : Option (List ℕ)) (waits line : List ℕ)
    → Appends (option_map (λ octets. octets ++ waits) a) (option_map (λ octets. octets ++ (waits ++ line)) a) line
adds None waits line = tt
adds (Some xs) waits line = sym (append_assoc xs waits line)

-- behind what stays more waits
pub adds_behind : (a b c : Option (List ℕ)) (line : List ℕ) → Keeps a b → Appends b c line → Appends a c line
adds_behind None b c line keeps appends = tt
adds_behind (Some xs) None c line keeps appends = absurd keeps
adds_behind (Some xs) (Some ys) None line keeps appends = appends
adds_behind (Some xs) (Some ys) (Some zs) line keeps appends = appends ∙ ap (λ octets. octets ++ line) keeps

-- what more waits twice
pub appends_both : (a b c : Option (List ℕ)) (one more : List ℕ) → Appends a b one → Appends b c more → Appends a c (one ++ more)
appends_both None b c one more first next = tt
appends_both (Some xs) None c one more first next = absurd first
appends_both (Some xs) (Some ys) None one more first next = next
appends_both (Some xs) (Some ys) (Some zs) one more first next =
    next ∙ ap (λ (octets : List ℕ). octets ++ more) first ∙ append_assoc xs one more

-- nothing more
pub appends_none : (a : Option (List ℕ)) → Appends a a []
appends_none None = tt
appends_none (Some xs) = sym (append-nil xs)
