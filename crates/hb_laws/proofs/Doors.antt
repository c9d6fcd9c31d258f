-- What a trace tells is told of it without the calls at doors that gave nothing.
use Rattle.std.proofs.Common.{◌≡◌, ℕ, ◌||◌, Bool, true, false, not, cond, List, [], ◌∷◌, ◌++◌, fold, refl, ap, sym, ◌∙◌}
use Rattle.std.specs.List.{list_any}
use Rattle.std.proofs.lemmas.Bool.{false≢true}
use Rattle.std.proofs.lemmas.List.Elements.{filter-append}
use Rattle.hb_world.specs.Trace.{came_on, went_on, recv, sent}
use Rattle.hb_world.specs.declared.entry.Entry.{Entry}
use Rattle.hb_world.specs.declared.entry.Entry.TheVariants as e
use Rattle.hb_world.specs.declared.entry.Way.{Way}
use Rattle.hb_proxy.specs.Doors.{is_at_door, without_doors}
use Rattle.hb_proxy.specs.Owners.{Owner, nobody, owner, owner_by}

pub without_append : (before after : List Entry) → without_doors (before ++ after) ≡ without_doors before ++ without_doors after
without_append before after = filter-append (λ z. not (is_at_door z)) before after

-- it is said of a list by its head and of the rest, and a call at a door says nothing
pub same_without : {A : Type 0} (tell : List Entry → A)
    → ((z : Entry) (a b : List Entry) → tell a ≡ tell b → tell (z ∷ a) ≡ tell (z ∷ b))
    → ((z : Entry) (rest : List Entry) → is_at_door z ≡ true → tell (z ∷ rest) ≡ tell rest) → (trace : List Entry)
    → tell (without_doors trace) ≡ tell trace
same_without tell more none [] = refl
same_without tell more none (z ∷ trace) = by (is_at_door z) refl (same_without tell more none trace)
  where
    by : (b : Bool) → is_at_door z ≡ b → tell (without_doors trace) ≡ tell trace
        → tell (cond (not b) (z ∷ without_doors trace) (without_doors trace)) ≡ tell (z ∷ trace)
    by true is rest = rest ∙ sym (none z trace is)
    by false is rest = more z (without_doors trace) trace rest

-- so it is of what a test finds, where it finds no call that moves nothing, and of the bytes that came on a link
pub any_without : (is : Entry → Bool) → ((w : Way) → is (e.Balked w) ≡ false) → (trace : List Entry)
    → list_any is (without_doors trace) ≡ list_any is trace
any_without is none =
    same_without (list_any is) (λ z a b same. ap (λ (c : Bool). is z || c) same)
    (λ z rest at. ap (λ (c : Bool). c || list_any is rest) (balked z at))
  where
    balked : (z : Entry) → is_at_door z ≡ true → is z ≡ false
    balked (e.Balked w) at = none w
    balked (e.Accepted l d) at = absurd (false≢true at)
    balked (e.Dialled l to why) at = absurd (false≢true at)
    balked (e.DialFailed to why) at = absurd (false≢true at)
    balked (e.Opened l) at = absurd (false≢true at)
    balked (e.Came l bytes) at = absurd (false≢true at)
    balked (e.Ended l) at = absurd (false≢true at)
    balked (e.Broke l) at = absurd (false≢true at)
    balked (e.Went l bytes) at = absurd (false≢true at)
    balked (e.Shut l) at = absurd (false≢true at)
    balked (e.Closed l why) at = absurd (false≢true at)
    balked e.Tick at = absurd (false≢true at)
    balked (e.Wait ready how) at = absurd (false≢true at)

pub came_without : (l : ℕ) (trace : List Entry) → recv l (without_doors trace) ≡ recv l trace
came_without l =
    same_without (recv l) (λ z a b same. ap (λ (bs : List ℕ). came_on l z ++ bs) same)
    (λ z rest at. ap (λ (bs : List ℕ). bs ++ recv l rest) (none z at))
  where
    none : (z : Entry) → is_at_door z ≡ true → came_on l z ≡ []
    none (e.Came k bytes) at = absurd (false≢true at)
    none _ at = refl

pub went_without : (l : ℕ) (trace : List Entry) → sent l (without_doors trace) ≡ sent l trace
went_without l =
    same_without (sent l) (λ z a b same. ap (λ (bs : List ℕ). went_on l z ++ bs) same)
    (λ z rest at. ap (λ (bs : List ℕ). bs ++ sent l rest) (none z at))
  where
    none : (z : Entry) → is_at_door z ≡ true → went_on l z ≡ []
    none (e.Went k bytes) at = absurd (false≢true at)
    none _ at = refl

-- and of whose a link is
abbrev whose_from : ℕ → List Entry → Owner → Owner
whose_from n trace whose = fold (owner_by n) whose trace

pub owner_without : (n : ℕ) (trace : List Entry) → owner n (without_doors trace) ≡ owner n trace
owner_without n trace =
    ap (λ (f : Owner → Owner). f nobody)
    (same_without (whose_from n)
    (λ z a b same. ap {B = Owner → Owner} (λ (f : Owner → Owner) (whose : Owner). f (owner_by n whose z)) same) none trace)
  where
    none : (z : Entry) (rest : List Entry) → is_at_door z ≡ true → whose_from n (z ∷ rest) ≡ whose_from n rest
    none (e.Accepted k d) rest at = absurd (false≢true at)
    none (e.Dialled k to why) rest at = absurd (false≢true at)
    none _ rest at = refl
