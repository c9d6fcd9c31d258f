-- What is written, one piece after another.
use Rattle.std.specs.Prelude.{OnErr}
use Rattle.std.proofs.Common.{Result, Ok, Err, ◌≡◌, ℕ, zero, suc, ◌+◌, ◌-◌, ◌/◌, ◌%◌, ◌<◌, ◌≤◌, List, [], ◌∷◌, ◌++◌, refl, sym, ap, subst, ◌∙◌, arith, append_assoc, take, drop, get_or, length}
use Rattle.std.specs.List.{flat_map}
use Rattle.std.proofs.lemmas.List.{drop_more, take_more, take-append-drop, append-nil}
use Rattle.std.proofs.lemmas.List.Concat.{flat_map-append}
use Rattle.std.proofs.lemmas.Bool.{lt-ltb, le-ltb}
use Rattle.hb_hpack.specs.Fronts.{IsFrontOf}
use Rattle.hb_hpack.specs.Integer.{full}
use Rattle.hb_base.specs.Groups.{groups_of, AppendsFront}
use Rattle.hb_hpack.specs.Encoding.{integer_of}

pub ok_then : (old mid new first second : List ℕ) → mid ≡ old ++ first → new ≡ mid ++ second → new ≡ old ++ (first ++ second)
ok_then old mid new first second e f = f ∙ ap (λ (xs : List ℕ). xs ++ second) e ∙ append_assoc old first second

pub err_then : (old mid new first second : List ℕ) → mid ≡ old ++ first → IsFrontOf new (mid ++ second)
    → IsFrontOf new (old ++ (first ++ second))
err_then old mid new first second e g = (g.0, sym (append_assoc old first second) ∙ ap (λ (xs : List ℕ). xs ++ second) (sym e) ∙ g.1)

pub err_first : (old new first second : List ℕ) → IsFrontOf new (old ++ first) → IsFrontOf new (old ++ (first ++ second))
err_first old new first second g =
    (g.0 ++ second, sym (append_assoc old first second) ∙ ap (λ (xs : List ℕ). xs ++ second) g.1 ∙ append_assoc new g.0 second)

pub grown : (old new bytes : List ℕ) → AppendsFront old new bytes → IsFrontOf old new
grown old new bytes f = (f.0, f.3)

pub grown_by : (old new bytes : List ℕ) → new ≡ old ++ bytes → IsFrontOf old new
grown_by old new bytes e = (bytes, e)

pub grown_then : (old mid new : List ℕ) → IsFrontOf old mid → IsFrontOf mid new → IsFrontOf old new
grown_then old mid new f g = (f.0 ++ g.0, g.1 ∙ ap (λ (xs : List ℕ). xs ++ g.0) f.1 ∙ append_assoc old f.0 g.0)

pub front_of : (old new bytes : List ℕ) → AppendsFront old new bytes → IsFrontOf new (old ++ bytes)
front_of old new bytes f =
    let (front, rest, is, then) = f in
    (rest, ap (λ (xs : List ℕ). old ++ xs) is ∙ sym (append_assoc old front rest) ∙ ap (λ (xs : List ℕ). xs ++ rest) (sym then))

pub integer_small : (prefix flag n : ℕ) → n < full prefix → integer_of prefix flag n ≡ (flag + n) ∷ []
unfolding integer_of
integer_small prefix flag n lt = rw (lt-ltb n (full prefix) lt, integer_of) refl

pub integer_large : (prefix flag n : ℕ) → full prefix ≤ n → integer_of prefix flag n ≡ (flag + full prefix) ∷ groups_of 10 (n - full prefix)
unfolding integer_of
integer_large prefix flag n le = rw (le-ltb n (full prefix) le, integer_of) refl

pub on_err : {X Y : Type 0} (r : Result X Y) {P : Type 0} → P → OnErr r P
on_err (Ok x) p = tt
on_err (Err e) p = p

-- the pieces of a list's items, where the piece of the item at i was begun
pub err_at : {X : Type 0} (f : X → List ℕ) (old mid new : List ℕ) (xs : List X) (i : ℕ) (x : X) → i < length xs → x ≡ get_or xs i x
    → mid ≡ old ++ flat_map f (take i xs) → IsFrontOf new (mid ++ f x)
    → IsFrontOf new (old ++ flat_map f xs)
err_at f old mid new xs i x lt at e g =
    let whole : take i xs ++ (x ∷ drop (i + 1) xs) ≡ xs = ap (λ (y : _). take i xs ++ (y ∷ drop (i + 1) xs)) at
    ∙ ap (λ (ys : List _). take i xs ++ ys) (sym (drop_more xs i x lt)) ∙ take-append-drop i xs in
    let pieces : flat_map f (take i xs) ++ (f x ++ flat_map f (drop (i + 1) xs)) ≡ flat_map f xs =
    sym (flat_map-append f (take i xs) (x ∷ drop (i + 1) xs)) ∙ ap (flat_map f) whole in
    let begun : IsFrontOf new (old ++ (flat_map f (take i xs) ++ f x)) = err_then old mid new (flat_map f (take i xs)) (f x) e g in
    let goes_on : IsFrontOf new (old ++ ((flat_map f (take i xs) ++ f x) ++ flat_map f (drop (i + 1) xs))) =
    err_first old new (flat_map f (take i xs) ++ f x) (flat_map f (drop (i + 1) xs)) begun in
    let regroup : (flat_map f (take i xs) ++ f x) ++ flat_map f (drop (i + 1) xs) ≡ flat_map f xs =
    append_assoc (flat_map f (take i xs)) (f x) (flat_map f (drop (i + 1) xs)) ∙ pieces in
    subst (λ (ys : List ℕ). IsFrontOf new (old ++ ys)) regroup goes_on

-- the same, where the piece was written whole
pub ok_at : {X : Type 0} (f : X → List ℕ) (old mid new : List ℕ) (xs : List X) (i : ℕ) (x : X) → i < length xs → x ≡ get_or xs i x
    → mid ≡ old ++ flat_map f (take i xs) → new ≡ mid ++ f x
    → new ≡ old ++ flat_map f (take (i + 1) xs)
ok_at f old mid new xs i x lt at e g =
    let last : List _ = x ∷ [] in
    let more : take (i + 1) xs ≡ take i xs ++ last = take_more xs i x lt ∙ ap (λ (y : _). take i xs ++ y ∷ []) (sym at) in
    let piece : flat_map f (take (i + 1) xs) ≡ flat_map f (take i xs) ++ f x =
    ap (flat_map f) more ∙ flat_map-append f (take i xs) last ∙ ap (λ (ys : List ℕ). flat_map f (take i xs) ++ ys) (append-nil (f x)) in
    ok_then old mid new (flat_map f (take i xs)) (f x) e g ∙ ap (λ (ys : List ℕ). old ++ ys) (sym piece)
