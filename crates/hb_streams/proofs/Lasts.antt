-- Keeping the last few at each step keeps the last few of all.
use Rattle.std.proofs.Common.{◌≡◌, ℕ, ◌+◌, ◌-◌, ◌≤◌, List, [], ◌∷◌, ◌++◌, length, drop, sym, ap, ◌∙◌, arith, length-append, length-drop}
use Rattle.std.proofs.lemmas.List.{drop-append-le, drop-drop}
use Rattle.circular_buffer.specs.Buffer.{keep_last}
use Rattle.hb_streams.specs.Laws.{LastAreKept}
use Rattle.hb_streams.specs.Numbers.{most_resets}

cut_once : (l m : ℕ) → l - m ≤ l
cut_once l m = omega arith

cut_again : (l m r y : ℕ) → y ≡ l + 1 → r ≡ y - (l - m) → (l - m) + (r - m) ≡ y - m
cut_again l m r y ey er = omega arith

keep_last-again : (m : ℕ) (xs : List ℕ) (n : ℕ) → keep_last m (keep_last m xs ++ n ∷ []) ≡ keep_last m (xs ++ n ∷ [])
keep_last-again m xs n =
    ap (λ (l : List ℕ). drop (length l - m) l) (sym (drop-append-le (length xs - m) xs (n ∷ []) (cut_once (length xs) m)))
    ∙ drop-drop _ (length xs - m) (xs ++ n ∷ [])
    ∙ ap (λ i. drop i (xs ++ n ∷ []))
    (cut_again (length xs) m _ _ (length-append xs (n ∷ [])) (length-drop (length xs - m) (xs ++ n ∷ [])))

pub last_are_kept : LastAreKept
last_are_kept xs n = keep_last-again most_resets xs n
