-- Places of a run, once one more point stands at its end.
use Rattle.std.proofs.Common.{◌≡◌, ◌⊎◌, Bool, ◌||◌, List, [], ◌∷◌, ◌++◌, refl, ap, ap₂, ◌∙◌, sym, subst, inl, inr, ⊎_elim}
use Rattle.std.proofs.lemmas.List.{append-nil}
use Rattle.std.proofs.lemmas.List.Concat.{flat_map-append}
use Rattle.std.proofs.lemmas.List.Folds.{list_any-append}
use Rattle.std.specs.List.{list_any}
use Rattle.hb_world.specs.Trace as world
use Rattle.hb_world.specs.declared.entry.Entry.{Entry}
use Rattle.hb_model.specs.declared.config.NodeConfig.{NodeConfig}
use Rattle.hb_model.specs.Point.{Point, entry, looked, applied, refused, used, put, stopped, entry_in, entries}
use Rattle.hb_model.specs.Calls.{AtEach, AtEntry, AtFronts}
use Rattle.hb_model.specs.Machine.{Machine}
use Rattle.hb_model.specs.Runs.{MayCome, Steps, StandsFor, begins, goes_on}

pub entries-grow : (points : List Point) (p : Point) → entries (points ++ p ∷ []) ≡ entries points ++ entry_in p
entries-grow points p =
    flat_map-append entry_in points (p ∷ []) ∙ ap (λ (es : List Entry). entries points ++ es) (append-nil (entry_in p))

pub any-grows : (is : Entry → Bool) (points : List Point) (p : Point)
    → list_any is (entries (points ++ p ∷ [])) ≡ (list_any is (entries points) || list_any is (entry_in p))
any-grows is points p = ap (list_any is) (entries-grow points p) ∙ list_any-append is (entries points) (entry_in p)

-- a place of a longer list is its end, or a place of the list
pub Place : {X : Type 0} → List X → X → List X → X → List X → Type 0
Place xs p before x after = ((before ≡ xs) × (x ≡ p)) ⊎ ((more : List _) × (xs ≡ before ++ x ∷ more))

pub place_of : {X : Type 0} (xs : List X) (p : X) (before : List X) (x : X) (after : List X)
    → xs ++ p ∷ [] ≡ before ++ x ∷ after → Place xs p before x after
unfolding Place
place_of [] p [] x after is = inl (refl, cc)
place_of [] p (b ∷ []) x after is = absurd (cc)
place_of [] p (b ∷ c ∷ bs) x after is = absurd (cc)
place_of (t ∷ ts) p [] x after is = inr (ts, cc)
place_of {X} (t ∷ ts) p (b ∷ bs) x after is =
    ⊎_elim (λ h. inl (let same : bs ≡ ts = h.0 in cc, h.1)) (λ h. inr (h.0, let same : ts ≡ bs ++ x ∷ h.0 = h.1 in cc))
    (place_of ts p bs x after (cc))

-- what holds at each entry of a run holds at each of a longer one, where it holds at its last
pub at_entry-grows : (P : List Point → Entry → Type 0) (points : List Point) (p : Point) → AtEntry P points
    → ((e : Entry) → p ≡ entry e → P points e) → AtEntry P (points ++ p ∷ [])
unfolding Place
at_entry-grows P points p each here before e after is =
    ⊎_elim (λ h. subst (λ (ps : List Point). P ps e) (sym h.0) (here e (sym h.1))) (λ h. each before e h.0 h.1)
    (place_of points p before (entry e) after is)

-- what holds of each run and of the point that comes next holds at each place of a run
pub at_points : (g : NodeConfig) (P : List Point → Point → Type 0)
    → ((m n : Machine) (before : List Point) (p : Point) → StandsFor g m before → Steps g m p n → P before p)
    → (m : Machine) (points : List Point) → StandsFor g m points → AtEach P points
unfolding Place
at_points g P next m points (begins is none) before p after are = absurd (no_place before p after (sym none ∙ are))
  where
    no_place : (before : List Point) (p : Point) (after : List Point) → [] ≡ before ++ p ∷ after → ⊥
    no_place [] p after is = cc
    no_place (q ∷ ps) p after is = cc
at_points g P next n more (goes_on {m = m} {points = points} stands p steps are) before q after is =
    ⊎_elim (λ h. subst (λ (ps : List Point). P ps q) (sym h.0)
    (subst (λ (x : Point). P points x) (sym h.1) (next m n points p stands steps)))
    (λ h. at_points g P next m points stands before q h.0 h.1)
    (place_of points p before q after (sym are ∙ is))

-- the points before each place of a run are those of a run
pub front_runs : (g : NodeConfig) (m : Machine) (points : List Point) → StandsFor g m points → (before after : List Point)
    → points ≡ before ++ after → (n : Machine) × StandsFor g n before
unfolding Place
front_runs g m points stands before [] are =
    (m, subst (λ (ps : List Point). StandsFor g m ps) (are ∙ append-nil before) stands)
front_runs g m points (begins is none) before (p ∷ after) are = absurd (no_place before p after (sym none ∙ are))
  where
    no_place : (before : List Point) (p : Point) (after : List Point) → [] ≡ before ++ p ∷ after → ⊥
    no_place [] p after is = cc
    no_place (q ∷ ps) p after is = cc
front_runs g n more (goes_on {m = m} {points = points} stands p steps are_more) before (q ∷ after) are =
    ⊎_elim (λ h. (m, subst (λ (ps : List Point). StandsFor g m ps) (sym h.0) stands))
    (λ h. front_runs g m points stands before (q ∷ h.0) h.1)
    (place_of points p before q after (sym are_more ∙ are))

-- what holds of each run holds at each place of a run
pub at_fronts : (g : NodeConfig) (P : List Point → Type 0) → ((m : Machine) (points : List Point) → StandsFor g m points → P points)
    → (m : Machine) (points : List Point) → StandsFor g m points → AtFronts P points
at_fronts g P each m points stands before after are =
    let front = front_runs g m points stands before after are in each front.0 before front.1

-- what holds of each run and of the entry that comes next holds at each entry of a run
pub at_entries : (g : NodeConfig) (P : List Point → Entry → Type 0)
    → ((m : Machine) (before : List Point) (e : Entry) → StandsFor g m before → MayCome g m e → P before e)
    → (m : Machine) (points : List Point) → StandsFor g m points → AtEntry P points
at_entries g P next m points (begins is none) =
    subst (λ (ps : List Point). AtEntry P ps) (sym none) (λ before e after empty. absurd (no_place before e after empty))
  where
    no_place : (before : List Point) (e : Entry) (after : List Point) → [] ≡ before ++ entry e ∷ after → ⊥
    no_place [] e after is = cc
    no_place (p ∷ ps) e after is = cc
at_entries g P next n more (goes_on {m = m} {points = points} stands p steps are) =
    subst (λ (ps : List Point). AtEntry P ps) (sym are) (at_entry-grows P points p (at_entries g P next m points stands)
    (λ e is. next m points e stands (subst (λ (q : Point). Steps g m q n) is steps).0))

-- a place of a trace is an entry's place of its points
pub record Split (points : List Point) (before : List Entry) (e : Entry) : Type 0 where
  pub front : List Point
  pub rest : List Point
  pub points_are : points ≡ front ++ entry e ∷ rest
  pub before_is : entries front ≡ before

split-behind : (p : Point) (points : List Point) (before told : List Entry) (e : Entry) → told ++ entries [] ≡ entry_in p
    → Split points before e → Split (p ∷ points) (told ++ before) e
split-behind p points before told e is h = record {
  front = p ∷ h.front;
  rest = h.rest;
  points_are = ap (λ (ps : List Point). p ∷ ps) h.points_are;
  before_is = ap₂ (λ (xs ys : List Entry). xs ++ ys) (sym is ∙ append-nil told) h.before_is;
}

pub split : (points : List Point) (before : List Entry) (e : Entry) (after : List Entry) → entries points ≡ before ++ e ∷ after
    → Split points before e
split [] [] e after is = absurd cc
split [] (b ∷ before) e after is = absurd cc
split (entry x ∷ points) [] e after is =
    record {
      front = [];
      rest = points;
      points_are = (let same : x ≡ e = cc in ap (λ (y : Entry). entry y ∷ points) same);
      before_is = refl;
    }
split (entry x ∷ points) (b ∷ before) e after is =
    let same : x ≡ b = cc in
    subst (λ (y : Entry). Split (entry x ∷ points) (y ∷ before) e) same
    (split-behind (entry x) points before (x ∷ []) e refl (split points before e after cc))
split (looked l ps told headers ∷ points) before e after is = split-behind _ points before [] e refl (split points before e after is)
split (applied l r ∷ points) before e after is = split-behind _ points before [] e refl (split points before e after is)
split (refused l ∷ points) before e after is = split-behind _ points before [] e refl (split points before e after is)
split (used l n ∷ points) before e after is = split-behind _ points before [] e refl (split points before e after is)
split (put l bytes ∷ points) before e after is = split-behind _ points before [] e refl (split points before e after is)
split (stopped why ∷ points) before e after is = split-behind _ points before [] e refl (split points before e after is)

-- what holds of the traces before entries is a law of the trace
pub at_trace : (P : List Entry → Entry → Type 0) (points : List Point) → AtEntry (λ before e. P (entries before) e) points
    → world.AtEach P (entries points)
at_trace P points each before e after is =
    let h = split points before e after is in
    subst (λ (es : List Entry). P es e) h.before_is (each h.front e h.rest h.points_are)

-- two lists with one more at their ends are the same only where the lists are, and their ends
pub ends-same : {X : Type 0} (xs ys : List X) (x y : X) → xs ++ x ∷ [] ≡ ys ++ y ∷ [] → (xs ≡ ys) × (x ≡ y)
ends-same [] [] x y is = (refl, cc)
ends-same [] (b ∷ []) x y is = absurd (cc)
ends-same [] (b ∷ c ∷ bs) x y is = absurd (cc)
ends-same (a ∷ []) [] x y is = absurd (cc)
ends-same (a ∷ c ∷ cs) [] x y is = absurd (cc)
ends-same (a ∷ xs) (b ∷ ys) x y is =
    let same = ends-same xs ys x y (cc) in (let is_same : xs ≡ ys = same.0 in cc, same.1)

pub not-empty : {X : Type 0} (xs : List X) (x : X) → xs ++ x ∷ [] ≡ [] → ⊥
not-empty [] x is = cc
not-empty (y ∷ ys) x is = cc
