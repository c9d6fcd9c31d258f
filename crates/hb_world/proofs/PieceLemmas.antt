-- The pieces of a link: those that were given, behind an offset, and those to come.
use Rattle.std.proofs.Common.{◌≡◌, ℕ, ◌+◌, ◌-◌, ◌<◌, ◌≤◌, Bool, suc, zero, List, [], ◌∷◌, ◌++◌, length, take, drop, get_or, refl, ap, ap₂, ◌∙◌, sym, subst, arith, add-one, Option}
use Rattle.std.proofs.lemmas.List.{take_all, length-drop, drop-drop}
use Rattle.std.proofs.lemmas.List.Elements.{All-head}
use Rattle.std.proofs.lemmas.Bool.{eq-eqb, ne_eqb, cond-true}
use Rattle.std.specs.List.{All}
use Rattle.hb_world.specs.LinkState.{LinkState, behind, IsOffset, front_of}
use Rattle.hb_world.specs.Script.{without_bytes}

take_front : (g : ℕ) (xs : List (List ℕ)) → g < length xs → take (suc g) xs ≡ take g xs ++ front_of (drop g xs) ∷ []
take_front zero [] h = absurd (omega (arith, h))
take_front zero (x ∷ xs) h = refl
take_front (suc g) [] h = absurd (omega (arith, h))
take_front (suc g) (x ∷ xs) h = ap (λ (ys : List (List ℕ)). x ∷ ys) (take_front g xs (omega (arith, h)))

-- one more piece is given
pub behind-give : (o g : ℕ) (xs : List (List ℕ)) → IsOffset o (take g xs) → g < length xs
    → behind o (take (g + 1) xs) ≡ behind o (take g xs) ++ front_of (drop g xs) ∷ []
behind-give o zero [] is h = absurd (omega (arith, h))
behind-give o zero (x ∷ xs) is h = subst (λ (n : ℕ). drop n x ∷ [] ≡ x ∷ []) (sym is) refl
behind-give o (suc g) [] is h = absurd (omega (arith, h))
behind-give o (suc g) (x ∷ xs) is h =
    rw (add-one (suc g)) (ap (λ (ys : List (List ℕ)). drop o x ∷ ys) (take_front g xs (omega (arith, h))))

pub drop-give : (g : ℕ) (xs : List (List ℕ)) → drop (g + 1) xs ≡ drop 1 (drop g xs)
drop-give g xs = sym (drop-drop 1 g xs)

pub IsOffset-give : (o g : ℕ) (xs : List (List ℕ)) → IsOffset o (take g xs) → g < length xs → All (λ p. 0 < length p) xs
    → IsOffset o (take (g + 1) xs)
IsOffset-give o zero [] is h all = absurd (omega (arith, h))
IsOffset-give o zero (x ∷ xs) is h all =
    subst (λ (n : ℕ). n < length x) (sym is) (All-head (λ (p : List ℕ). 0 < length p) x xs all)
IsOffset-give o (suc g) [] is h all = absurd (omega (arith, h))
IsOffset-give o (suc g) (x ∷ xs) is h all = rw (add-one (suc g)) is

-- the first piece goes
pub behind-none : (xs : List (List ℕ)) → behind 0 xs ≡ xs
behind-none [] = refl
behind-none (x ∷ xs) = refl

pub IsOffset-none : (xs : List (List ℕ)) → All (λ p. 0 < length p) xs → IsOffset 0 xs
IsOffset-none [] all = refl
IsOffset-none (x ∷ xs) all = All-head (λ (p : List ℕ). 0 < length p) x xs all

pub without-whole : (o g n : ℕ) (xs : List (List ℕ)) → 0 < g → g ≤ length xs → n ≡ length (front_of (behind o (take g xs)))
    → without_bytes n (behind o (take g xs)) ≡ take (g - 1) (drop 1 xs)
without-whole o zero n xs some fits is = absurd (omega (arith, some))
without-whole o (suc g) n [] some fits is = absurd (omega (arith, fits))
without-whole o (suc g) n (x ∷ xs) some fits is =
    cond-true _ _ _ (eq-eqb n (length (drop o x)) is) ∙ sym (ap (λ (k : ℕ). take k xs) (let e : suc g - 1 ≡ g = omega arith in e))

pub drop-whole : (g : ℕ) (xs : List (List ℕ)) → 0 < g → drop (g - 1) (drop 1 xs) ≡ drop g xs
drop-whole g xs some = drop-drop (g - 1) 1 xs ∙ ap (λ (k : ℕ). drop k xs) (let e : 1 + (g - 1) ≡ g = omega (arith, some) in e)

pub front-is : (o g : ℕ) (xs more : List (List ℕ)) (p : List ℕ) → 0 < g → xs ≡ p ∷ more → front_of (behind o (take g xs)) ≡ drop o p
front-is o zero xs more p some is = absurd (omega (arith, some))
front-is o (suc g) xs more p some is = rw is refl

pub rest-is : (o : ℕ) (xs : List ℕ) → take (length xs - o) (drop o xs) ≡ drop o xs
rest-is o xs = take_all (length xs - o) (drop o xs) (let e : length (drop o xs) ≡ length xs - o = length-drop o xs in omega (arith, e))

pub front-first : (o g : ℕ) (xs : List (List ℕ)) (p : List ℕ) → 0 < g → g ≤ length xs → p ≡ get_or xs 0 p
    → front_of (behind o (take g xs)) ≡ drop o p
front-first o zero xs p some fits is = absurd (omega (arith, some))
front-first o (suc g) [] p some fits is = absurd (omega (arith, fits))
front-first o (suc g) (x ∷ xs) p some fits is = ap (λ (q : List ℕ). drop o q) (sym is)

pub given-some : (o g : ℕ) (xs : List (List ℕ)) → 0 < length (front_of (behind o (take g xs))) → 0 < g
given-some o zero xs some = absurd (omega (arith, some))
given-some o (suc g) xs some = omega arith

-- a part of the first piece goes
pub without-part : (o g n : ℕ) (xs : List (List ℕ)) (p : List ℕ) → 0 < g → g ≤ length xs → p ≡ get_or xs 0 p → n < length p - o
    → behind (o + n) (take g xs) ≡ without_bytes n (behind o (take g xs))
without-part o zero n xs p some fits is part = absurd (omega (arith, some))
without-part o (suc g) n [] p some fits is part = absurd (omega (arith, fits))
without-part o (suc g) n (x ∷ xs) p some fits is part =
    let shorter : n < length (drop o x) = rw (length-drop, ← is) part in
    rw (ne_eqb n (length (drop o x)) (λ e. omega (arith, shorter, e))) (ap (λ (q : List ℕ). q ∷ take g xs) (sym (drop-drop n o x)))

pub IsOffset-part : (o g n : ℕ) (xs : List (List ℕ)) (p : List ℕ) → 0 < g → g ≤ length xs → p ≡ get_or xs 0 p → n < length p - o
    → IsOffset (o + n) (take g xs)
IsOffset-part o zero n xs p some fits is part = absurd (omega (arith, some))
IsOffset-part o (suc g) n [] p some fits is part = absurd (omega (arith, fits))
IsOffset-part o (suc g) n (x ∷ xs) p some fits is part = let h : n < length x - o = rw (← is) part in omega (arith, h)

-- what a link keeps, by its parts
abbrev pub state : Option Bool → Bool → Bool → Option ℕ → List (List ℕ) → List (List ℕ) → LinkState
state opening ended broken room unread coming = record {
  said = record { opening = opening; unread = unread; ended = ended; broken = broken; room = room };
  coming = coming;
}

pub same-state : (opening : Option Bool) (ended broken : Bool) (room : Option ℕ) (a b c d : List (List ℕ)) → a ≡ b → c ≡ d
    → state opening ended broken room a c ≡ state opening ended broken room b d
same-state opening ended broken room a b c d p q = ap₂ (state opening ended broken room) p q
