-- Why a link to the control plane may have ended, and that an end stays.
use Rattle.std.proofs.Common.{◌≡◌, ◌⊎◌, ℕ, ◌==◌, Bool, true, false, ◌||◌, if◌then◌else◌, List, [], ◌∷◌, Option, Some, None, refl, ap, sym, ◌∙◌, subst, inl, inr}
use Rattle.std.specs.List.{list_any}
use Rattle.std.proofs.lemmas.Bool.{both_ways}
use Rattle.std.proofs.lemmas.List.Folds.{list_any-append}
use Rattle.hb_base.specs.declared.cause.Cause.{Cause}
use Rattle.hb_base.specs.declared.cause.Cause.TheVariants as cause
use Rattle.hb_conn.specs.declared.found.Found.{Found}
use Rattle.hb_conn.specs.declared.found.Found.TheVariants as found
use Rattle.hb_hpack.specs.declared.header.Header.{Header}
use Rattle.hb_world.specs.declared.entry.Entry.{Entry}
use Rattle.hb_world.specs.declared.entry.Entry.TheVariants as e
use Rattle.hb_model.specs.Discovery.{status_of, end_by, end_by_headers}
use Rattle.hb_model.specs.Point.{Point, entry, looked, applied, refused, used, put, stopped, entry_in, entries}
use Rattle.hb_model.specs.Calls.{is_ended_of, is_broke_of}
use Rattle.hb_model.specs.Ends.{end_in, end_by_entry, answered_in, first_of, first_end, end_of}
use Rattle.hb_model.specs.Inner.{is_stop}
use Rattle.hb_laws.proofs.Tests.{or_behind}

-- an entry ends a link: its peer sends no more, or a call on it failed
abbrev pub brings_end : ℕ → Entry → Bool
brings_end l x = is_ended_of l x || is_broke_of l x

-- a cause that what is told of a connection may be
abbrev pub IsTold : Cause → Type 0
IsTold cause.Discovery = Unit {0}
IsTold cause.GoneAway = Unit {0}
IsTold (cause.ConnFault code) = Unit {0}
IsTold _ = ⊥

-- why a link may have ended: it broke, what was told of it, or the run was stopped
pub CauseIs : ℕ → List Point → Cause → Type 0
CauseIs l points why =
    ((why ≡ cause.Broken) × (list_any (brings_end l) (entries points) ≡ true))
    ⊎ (IsTold why ⊎ (list_any is_stop points ≡ true))

told_status : (answered : Bool) (status : Option ℕ) (end : Bool) (why : Cause) → end_by_headers answered status end ≡ Some why → IsTold why
told_status answered status true why is = subst IsTold (let same : cause.Discovery ≡ why = cc in same) tt
told_status answered status false why is = by _ is
  where
    by : (b : Bool) → (if b then None else Some cause.Discovery) ≡ Some why → IsTold why
    by true none = absurd cc
    by false is = subst IsTold (let same : cause.Discovery ≡ why = cc in same) tt

told_end : (answered : Bool) (headers : List Header) (told : Found) (why : Cause) → end_by answered headers told ≡ Some why → IsTold why
told_end answered headers (found.Opened s end) why is = told_status answered (status_of headers) end why is
told_end answered headers (found.Ended s) why is = subst IsTold (let same : cause.Discovery ≡ why = cc in same) tt
told_end answered headers (found.Reset s code) why is = subst IsTold (let same : cause.Discovery ≡ why = cc in same) tt
told_end answered headers (found.Broken s code) why is = subst IsTold (let same : cause.Discovery ≡ why = cc in same) tt
told_end answered headers (found.GoneAway last) why is = by _ is
  where
    by : (b : Bool) → (if b then Some cause.GoneAway else None) ≡ Some why → IsTold why
    by true is = subst IsTold (let same : cause.GoneAway ≡ why = cc in same) tt
    by false none = absurd cc
told_end answered headers (found.Fault code) why is = subst IsTold (let same : cause.ConnFault code ≡ why = cc in same) tt
told_end answered headers (found.Chunk s end) why is = absurd cc
told_end answered headers found.Silent why is = absurd cc

-- what one point may end a link for
One : ℕ → Point → Cause → Type 0
One l p why =
    ((why ≡ cause.Broken) × (list_any (brings_end l) (entry_in p) ≡ true))
    ⊎ (IsTold why ⊎ (is_stop p ≡ true))

ends_here : (b : Bool) (why : Cause) → (if b then Some cause.Broken else None) ≡ Some why → (why ≡ cause.Broken) × (b ≡ true)
ends_here true why is = (cc, refl)
ends_here false why is = absurd cc

told_here : (b : Bool) (o : Option Cause) (why : Cause) → (if b then o else None) ≡ Some why → o ≡ Some why
told_here true o why is = is
told_here false o why is = absurd cc

one_entry : (l : ℕ) (x : Entry) (why : Cause) → end_by_entry l x ≡ Some why → One l (entry x) why
unfolding One
one_entry l (e.Ended k) why is =
    let here = ends_here (k == l) why is in inl (here.0, rw here.1 refl)
one_entry l (e.Broke k) why is =
    let here = ends_here (k == l) why is in inl (here.0, rw here.1 refl)
one_entry l _ why is = absurd cc

one_point : (l : ℕ) (answered : Bool) (p : Point) (why : Cause) → end_in l answered p ≡ Some why → One l p why
unfolding One
one_point l answered (entry x) why is = one_entry l x why is
one_point l answered (looked k points told headers) why is =
    inr (inl (told_end answered headers told why (told_here (k == l) (end_by answered headers told) why is)))
one_point l answered (applied k r) why is = absurd cc
one_point l answered (refused k) why is =
    inr (inl (subst IsTold
    (let same : cause.Discovery ≡ why = (let here = told_here (k == l) (Some cause.Discovery) why is in cc) in same) tt))
one_point l answered (used k n) why is = absurd cc
one_point l answered (put k bytes) why is = absurd cc
one_point l answered (stopped by) why is = inr (inr refl)

-- what is said of one point, and of those behind it, is said of all
any-first : (is : Entry → Bool) (p : Point) (points : List Point)
    → list_any is (entries (p ∷ points)) ≡ (list_any is (entry_in p) || list_any is (entries points))
any-first is p points = list_any-append is (entry_in p) (entries points)

cause_here : (l : ℕ) (p : Point) (points : List Point) (why : Cause) → One l p why → CauseIs l (p ∷ points) why
unfolding One CauseIs
cause_here l p points why (inl broke) =
    inl (broke.0, any-first (brings_end l) p points ∙ ap (λ (b : Bool). b || list_any (brings_end l) (entries points)) broke.1)
cause_here l p points why (inr (inl told)) = inr (inl told)
cause_here l p points why (inr (inr stops)) = inr (inr (ap (λ (b : Bool). b || list_any is_stop points) stops))

cause_behind : (l : ℕ) (p : Point) (points : List Point) (why : Cause) → CauseIs l points why → CauseIs l (p ∷ points) why
unfolding CauseIs
cause_behind l p points why (inl broke) =
    inl (
      broke.0,
      any-first (brings_end l) p points
          ∙ or_behind (list_any (brings_end l) (entry_in p)) (list_any (brings_end l) (entries points)) broke.1,
    )
cause_behind l p points why (inr (inl told)) = inr (inl told)
cause_behind l p points why (inr (inr stops)) = inr (inr (or_behind (is_stop p) (list_any is_stop points) stops))

cause_from : (l : ℕ) (answered : Bool) (points : List Point) (why : Cause) → first_end l answered points ≡ Some why
    → CauseIs l points why
cause_from l answered [] why is = absurd cc
cause_from l answered (p ∷ points) why is =
    by (end_in l answered p) refl (λ later. cause_from l (answered_in l answered p) points why later)
  where
    by : (o : Option Cause) → end_in l answered p ≡ o → (first_end l (answered_in l answered p) points ≡ Some why → CauseIs l points why)
        → CauseIs l (p ∷ points) why
    by (Some first) here rest =
        let both : Some first ≡ Some why =
        sym (ap (λ (x : Option Cause). first_of x (first_end l (answered_in l answered p) points)) here) ∙ is in
        cause_here l p points why (one_point l answered p why (here ∙ both))
    by None here rest =
        cause_behind l p points why
        (rest (sym (ap (λ (x : Option Cause). first_of x (first_end l (answered_in l answered p) points)) here) ∙ is))

cause_is : (l : ℕ) (points : List Point) (why : Cause) → end_of l points ≡ Some why → CauseIs l points why
cause_is l points why is = cause_from l false points why is

-- an end that a point brought stays
quiet_entry : (l : ℕ) (x : Entry) → end_by_entry l x ≡ None → brings_end l x ≡ false
quiet_entry l (e.Ended k) none = here (k == l) none
  where
    here : (b : Bool) → (if b then Some cause.Broken else None) ≡ None → (b || false) ≡ false
    here true none = absurd cc
    here false none = refl
quiet_entry l (e.Broke k) none = here (k == l) none
  where
    here : (b : Bool) → (if b then Some cause.Broken else None) ≡ None → b ≡ false
    here true none = absurd cc
    here false none = refl
quiet_entry l _ none = refl

quiet_point : (l : ℕ) (answered : Bool) (p : Point) → end_in l answered p ≡ None → list_any (brings_end l) (entry_in p) ≡ false
quiet_point l answered (entry x) none = rw (quiet_entry l x none) refl
quiet_point l answered _ none = refl

ended_from : (l : ℕ) (answered : Bool) (points : List Point) → list_any (brings_end l) (entries points) ≡ true
    → first_end l answered points ≡ None → ⊥
ended_from l answered [] was none = absurd cc
ended_from l answered (p ∷ points) was none =
    by (end_in l answered p) refl (λ later lasts. ended_from l (answered_in l answered p) points later lasts)
  where
    by : (o : Option Cause) → end_in l answered p ≡ o
        → (list_any (brings_end l) (entries points) ≡ true → first_end l (answered_in l answered p) points ≡ None → ⊥) → ⊥
    by (Some first) here rest =
        let both : Some first ≡ None =
        sym (ap (λ (x : Option Cause). first_of x (first_end l (answered_in l answered p) points)) here) ∙ none in absurd cc
    by None here rest =
        rest
        (sym (any-first (brings_end l) p points
        ∙ ap (λ (b : Bool). b || list_any (brings_end l) (entries points)) (quiet_point l answered p here)) ∙ was)
        (sym (ap (λ (x : Option Cause). first_of x (first_end l (answered_in l answered p) points)) here) ∙ none)

pub ended_stays : (l : ℕ) (points : List Point) → list_any (brings_end l) (entries points) ≡ true → end_of l points ≡ None → ⊥
ended_stays l points was none = ended_from l false points was none

-- while the run goes on a link isn't closed for a cause that isn't told of a connection, but as one that broke where an entry ended it
pub unended : (l : ℕ) (points : List Point) (why : Cause) → (why ≡ cause.Broken → list_any (brings_end l) (entries points) ≡ false)
    → (IsTold why → ⊥) → list_any is_stop points ≡ false → end_of l points ≡ Some why → ⊥
unfolding CauseIs
unended l points why whole untold runs ends = by (cause_is l points why ends)
  where
    by : CauseIs l points why → ⊥
    by (inl (is, broke)) = both_ways _ (whole is) broke
    by (inr (inl told)) = untold told
    by (inr (inr stops)) = both_ways _ runs stops
