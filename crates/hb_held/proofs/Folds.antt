-- One more removal, and one more resource.
use Rattle.std.proofs.Common.{◌≡◌, ℕ, List, [], ◌∷◌, ◌++◌, refl, ap, sym, ◌∙◌, append_assoc, append-nil, Result, Ok, Err}
use Rattle.std.specs.Prelude.{OnErr}
use Rattle.std.proofs.lemmas.List.{map-append}
use Rattle.hb_disco.specs.declared.kind.Kind.{Kind}
use Rattle.hb_disco.specs.declared.response.Resource.{Resource}
use Rattle.hb_held.specs.Held.{Resources, without}
use Rattle.hb_held.specs.Outcome.{with_resource, after_resource, after_removals, after_resources, removed_name, removed_names, applied_as, refused_for, applied_names, refusals, changes}

pub one_more_removed : (h : Resources) (kind : Kind) (names : List (List ℕ)) (name : List ℕ)
    → after_removals h kind (names ++ name ∷ []) ≡ without (after_removals h kind names) kind name
one_more_removed h kind [] name = refl
one_more_removed h kind (n ∷ names) name = one_more_removed (without h kind n) kind names name

pub one_more_name : (h : Resources) (kind : Kind) (names : List (List ℕ)) (name : List ℕ)
    → removed_names h kind (names ++ name ∷ []) ≡ removed_names h kind names ++ removed_name (after_removals h kind names) kind name
one_more_name h kind [] name = append-nil (removed_name h kind name)
one_more_name h kind (n ∷ names) name =
    ap (λ ns. removed_name h kind n ++ ns) (one_more_name (without h kind n) kind names name)
    ∙ sym (append_assoc (removed_name h kind n) (removed_names (without h kind n) kind names)
    (removed_name (after_removals (without h kind n) kind names) kind name))

pub one_more_taken : (h : Resources) (kind : Kind) (rs : List Resource) (r : Resource)
    → after_resources h kind (rs ++ r ∷ []) ≡ after_resource (after_resources h kind rs) kind r
one_more_taken h kind [] r = refl
one_more_taken h kind (q ∷ rs) r = one_more_taken (after_resource h kind q) kind rs r

pub one_more_applied : (h : Resources) (kind : Kind) (rs : List Resource) (r : Resource)
    → applied_names h kind (rs ++ r ∷ []) ≡ applied_names h kind rs ++ applied_as r (with_resource (after_resources h kind rs) kind r)
one_more_applied h kind [] r = append-nil (applied_as r (with_resource h kind r))
one_more_applied h kind (q ∷ rs) r =
    ap (λ ns. applied_as q (with_resource h kind q) ++ ns) (one_more_applied (after_resource h kind q) kind rs r)
    ∙ sym (append_assoc (applied_as q (with_resource h kind q)) (applied_names (after_resource h kind q) kind rs)
    (applied_as r (with_resource (after_resources (after_resource h kind q) kind rs) kind r)))

pub one_more_refusal : (h : Resources) (kind : Kind) (rs : List Resource) (r : Resource)
    → refusals h kind (rs ++ r ∷ []) ≡ refusals h kind rs ++ refused_for r (with_resource (after_resources h kind rs) kind r)
one_more_refusal h kind [] r = append-nil (refused_for r (with_resource h kind r))
one_more_refusal h kind (q ∷ rs) r =
    ap (λ ns. refused_for q (with_resource h kind q) ++ ns) (one_more_refusal (after_resource h kind q) kind rs r)
    ∙ sym (append_assoc (refused_for q (with_resource h kind q)) (refusals (after_resource h kind q) kind rs)
    (refused_for r (with_resource (after_resources (after_resource h kind q) kind rs) kind r)))

-- a list that grew by what is told of one more
pub told_more : {T : Type 0} (before after ns one all : List T) (middle : List T) → middle ≡ before ++ ns → after ≡ middle ++ one
    → all ≡ ns ++ one
    → after ≡ before ++ all
told_more before after ns one all middle m a e =
    a ∙ ap (λ ts. ts ++ one) m ∙ append_assoc before ns one ∙ ap (λ ts. before ++ ts) (sym e)

pub changes_more : (kind : Kind) (ns one all : List (List ℕ)) → all ≡ ns ++ one → changes kind all ≡ changes kind ns ++ changes kind one
changes_more kind ns one all e = ap (changes kind) e ∙ map-append (λ name. record { kind = kind; name = name }) ns one

pub on_err : {X Y P : Type 0} (r : Result X Y) → P → OnErr r P
on_err (Ok x) p = tt
on_err (Err y) p = p
