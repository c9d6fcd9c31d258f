-- A text is compared with joined texts part by part.
use Rattle.std.proofs.Common.{◌≡◌, ℕ, Bool, true, false, List, [], ◌∷◌, ◌++◌, length, take, drop, refl, sym, ap, ◌∙◌, append_assoc}
use Rattle.std.specs.Prelude.{◌&&◌, nat_eq}
use Rattle.std.specs.Str.{bytes_eq}

and_assoc : (a b c : Bool) → (a && (b && c)) ≡ ((a && b) && c)
and_assoc true b c = refl
and_assoc false b c = refl

-- front and back
pub in_two : (text a b : List ℕ) → bytes_eq text (a ++ b) ≡ (bytes_eq (take (length a) text) a && bytes_eq (drop (length a) text) b)
in_two text [] b = refl
in_two [] (y ∷ a) b = refl
in_two (x ∷ text) (y ∷ a) b = ap (λ t. nat_eq x y && t) (in_two text a b) ∙ and_assoc (nat_eq x y) (bytes_eq (take (length a) text) a)
    (bytes_eq (drop (length a) text) b)

-- a namespace, a slash and a name
pub in_three : (text namespace name : List ℕ) → bytes_eq text (namespace ++ (47 ∷ []) ++ name)
    ≡ (bytes_eq (take (length namespace) text) namespace
    && (bytes_eq (take 1 (drop (length namespace) text)) (47 ∷ []) && bytes_eq (drop 1 (drop (length namespace) text)) name))
in_three text namespace name =
    ap (bytes_eq text) (append_assoc namespace (47 ∷ []) name)
    ∙ in_two text namespace ((47 ∷ []) ++ name)
    ∙ ap (λ t. bytes_eq (take (length namespace) text) namespace && t) (in_two (drop (length namespace) text) (47 ∷ []) name)

-- the front isn't the namespace
pub other_namespace : (text namespace name : List ℕ) → bytes_eq (take (length namespace) text) namespace ≡ false
    → bytes_eq text (namespace ++ (47 ∷ []) ++ name) ≡ false
other_namespace text namespace name e = in_three text namespace name
    ∙ ap (λ t. t && (bytes_eq (take 1 (drop (length namespace) text)) (47 ∷ [])
    && bytes_eq (drop 1 (drop (length namespace) text)) name)) e

-- the front is the namespace
pub same_namespace : (text rest namespace name : List ℕ) → bytes_eq (take (length namespace) text) namespace ≡ true
    → rest ≡ drop (length namespace) text
    → bytes_eq text (namespace ++ (47 ∷ []) ++ name) ≡ (bytes_eq (take 1 rest) (47 ∷ []) && bytes_eq (drop 1 rest) name)
same_namespace text rest namespace name e r =
    in_three text namespace name
    ∙ ap (λ t. t && (bytes_eq (take 1 (drop (length namespace) text)) (47 ∷ [])
    && bytes_eq (drop 1 (drop (length namespace) text)) name)) e
    ∙ ap (λ (s : List ℕ). bytes_eq (take 1 s) (47 ∷ []) && bytes_eq (drop 1 s) name) (sym r)
