-- Where an entry has its place by key.
use Rattle.std.proofs.Common.{◌≡◌, ℕ, ◌+◌, ◌<◌, ◌≤◌, true, false, List, [], ◌∷◌, ◌++◌, length, take, drop, get_or, IfSome, if◌then◌else◌, refl, sym, ap, ◌∙◌, append_assoc, inl, inr}
use Rattle.std.specs.Prelude.{slice_get, slice_set}
use Rattle.std.specs.Str.{bytes_eq}
use Rattle.std.proofs.Math.ListN.{set, drop_of_length-le}
use Rattle.std.proofs.lemmas.Option.{slice_get_cases}
use Rattle.std.proofs.lemmas.Bool.{false≢true}
use Rattle.std.proofs.lemmas.List.{drop_more, take_more, take-append-drop, take-set, drop-set}
use Rattle.hb_records.specs.declared.port.ServicePorts.{ServicePorts}
use Rattle.hb_records.specs.Ports.{is_before, is_of, with_entry}

-- one entry more stands before it
pub one_further : (xs : List ServicePorts) (i : ℕ) (x e : ServicePorts) → i < length xs → x ≡ get_or xs i x → is_before x e ≡ true
    → with_entry xs e ≡ take i xs ++ with_entry (drop i xs) e → with_entry xs e ≡ take (i + 1) xs ++ with_entry (drop (i + 1) xs) e
one_further xs i x e lt at before so_far =
    let next : with_entry (drop i xs) e ≡ x ∷ with_entry (drop (i + 1) xs) e =
    ap (λ (ys : List ServicePorts). with_entry ys e) (drop_more xs i x lt ∙ ap (λ (y : ServicePorts). y ∷ drop (i + 1) xs) (sym at))
    ∙ rw before refl in
    so_far ∙ ap (λ (ys : List ServicePorts). take i xs ++ ys) next
    ∙ sym (append_assoc (take i xs) (x ∷ []) (with_entry (drop (i + 1) xs) e))
    ∙ ap (λ (ys : List ServicePorts). ys ++ with_entry (drop (i + 1) xs) e) (sym (take_more xs i x lt ∙ ap (λ (y : ServicePorts).
    take i xs ++ y ∷ []) (sym at)))

-- at the entry's place stands one of its key, or none
found : (xs : List ServicePorts) (i : ℕ) (e x : ServicePorts) → i < length xs → get_or xs i x ≡ x → is_before x e ≡ false
    → with_entry (drop i xs) e ≡ (if bytes_eq x.key e.key then e ∷ drop (i + 1) xs else e ∷ x ∷ drop (i + 1) xs)
found xs i e x lt at stops =
    ap (λ (ys : List ServicePorts). with_entry ys e) (drop_more xs i x lt ∙ ap (λ (y : ServicePorts). y ∷ drop (i + 1) xs) at)
    ∙ rw stops refl

is_behind : (xs : List ServicePorts) (i : ℕ) (x : ServicePorts) → i < length xs → get_or xs i x ≡ x → x ∷ drop (i + 1) xs ≡ drop i xs
is_behind xs i x lt at = ap (λ (y : ServicePorts). y ∷ drop (i + 1) xs) (sym at) ∙ sym (drop_more xs i x lt)

set_there : (xs : List ServicePorts) (i : ℕ) (e : ServicePorts) → i < length xs → set xs i e ≡ take i xs ++ e ∷ drop (i + 1) xs
set_there xs i e lt =
    sym (take-append-drop i (set xs i e)) ∙ rw (take-set xs i e, drop-set xs i e lt) refl

pub replaced : (xs : List ServicePorts) (i : ℕ) (e : ServicePorts) → is_of (slice_get xs i) e ≡ true
    → with_entry xs e ≡ take i xs ++ with_entry (drop i xs) e → IfSome (slice_get xs i) (λ x. is_before x e ≡ false)
    → with_entry xs e ≡ slice_set xs i e
replaced xs i e same so_far stops =
    elim (slice_get_cases xs i).1 [
      | inl there ↦
          let (x, lt, is, at) = there in
          let equal : bytes_eq x.key e.key ≡ true = rw is at same in
          let stop : is_before x e ≡ false = rw is at stops in
          so_far ∙ ap (λ (ys : List ServicePorts). take i xs ++ ys) (found xs i e x lt at stop ∙ rw equal refl) ∙ sym (set_there xs i e lt)
      | inr past ↦ absurd (false≢true (rw past.1 at same))
    ]

pub inserted : (xs : List ServicePorts) (i : ℕ) (e : ServicePorts) → i ≤ length xs → is_of (slice_get xs i) e ≡ false
    → with_entry xs e ≡ take i xs ++ with_entry (drop i xs) e → IfSome (slice_get xs i) (λ x. is_before x e ≡ false)
    → with_entry xs e ≡ take i xs ++ e ∷ drop i xs
inserted xs i e le other so_far stops =
    elim (slice_get_cases xs i).1 [
      | inl there ↦
          let (x, lt, is, at) = there in
          let differs : bytes_eq x.key e.key ≡ false = rw is at other in
          let stop : is_before x e ≡ false = rw is at stops in
          so_far ∙ ap (λ (ys : List ServicePorts). take i xs ++ ys) (found xs i e x lt at stop ∙ rw differs
          (ap (λ (ys : List ServicePorts). e ∷ ys) (is_behind xs i x lt at)))
      | inr past ↦
          let none : drop i xs ≡ [] = drop_of_length-le xs past.0 in
          so_far ∙ rw none refl
    ]
