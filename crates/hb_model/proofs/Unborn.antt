-- A link that isn't born: nothing was said of it.
use Rattle.std.proofs.Common.{◌≡◌, inl, inr, ℕ, ◌<◌, ◌==◌, false, List, [], ◌∷◌, ◌++◌, Some, refl, ap, ap₂, sym, ◌∙◌, subst, arith}
use Rattle.std.specs.List.{flat_map}
use Rattle.std.proofs.lemmas.Bool.{eqb-true, false_from_ne_true}
use Rattle.hb_base.specs.declared.cause.Cause.{Cause}
use Rattle.hb_disco.specs.declared.response.Response.{Response}
use Rattle.hb_held.specs.Held.{Resources, nothing_held}
use Rattle.hb_conn.specs.declared.found.Found.{Found}
use Rattle.hb_history.specs.Points as history
use Rattle.hb_world.specs.Trace.{came_on, went_on, recv, sent}
use Rattle.hb_world.specs.declared.entry.Entry.{Entry}
use Rattle.hb_world.specs.declared.entry.Entry.TheVariants as e
use Rattle.hb_model.specs.declared.config.NodeConfig.{NodeConfig}
use Rattle.hb_model.specs.Discovery.{Discovery, Phase, unborn, dialling, live, faulted, ending, closed, closing, no_link, stopped_for}
use Rattle.hb_model.specs.Machine.{Machine, entered, with_phase}
use Rattle.hb_model.specs.Point.{Point, entry, looked, applied, refused, used, put, stopped, entry_in, entries, moves_in, moves, telling, tellings}
use Rattle.hb_model.specs.Messages.{held, response_in, responses}
use Rattle.hb_model.specs.Requests.{request_in, requests}
use Rattle.hb_model.specs.Runs.{MayCome, Steps, StandsFor, begins, goes_on}
use Rattle.hb_model.proofs.Grown.{one_more, entries_more, requests_more, IsBorn, apart}

-- a point of which nothing is said on a link
pub record Passes (g : NodeConfig) (l : ℕ) (p : Point) : Type 0 where
  pub moves : moves_in l p ≡ []
  pub came : flat_map (came_on l) (entry_in p) ≡ []
  pub went : flat_map (went_on l) (entry_in p) ≡ []
  pub tells : telling l p ≡ []
  pub response : response_in l p ≡ []
  pub request : (held : Resources) → request_in g held l p ≡ []

-- points of which nothing is said on it
pub record AreNone (g : NodeConfig) (l : ℕ) (points : List Point) : Type 0 where
  pub moves : moves l points ≡ []
  pub came : recv l (entries points) ≡ []
  pub went : sent l (entries points) ≡ []
  pub tells : tellings l points ≡ []
  pub responses : responses l points ≡ []
  pub requests : requests g l points ≡ []

none_more : (g : NodeConfig) (l : ℕ) (points : List Point) (p : Point) → AreNone g l points → Passes g l p → AreNone g l (points ++ p ∷ [])
none_more g l points p none passes = record {
  moves = one_more (moves_in l) points p ∙ ap₂ (λ (xs ys : List history.Point). xs ++ ys) none.moves passes.moves;
  came = entries_more (came_on l) points p ∙ ap₂ (λ (xs ys : List ℕ). xs ++ ys) none.came passes.came;
  went = entries_more (went_on l) points p ∙ ap₂ (λ (xs ys : List ℕ). xs ++ ys) none.went passes.went;
  tells = one_more (telling l) points p ∙ ap₂ (λ (xs ys : List Found). xs ++ ys) none.tells passes.tells;
  responses = one_more (response_in l) points p ∙ ap₂ (λ (xs ys : List Response). xs ++ ys) none.responses passes.response;
  requests = requests_more g (nothing_held g.network g.node g.doors) l points p
      ∙ ap₂ (λ (xs ys : List (List ℕ)). xs ++ ys) none.requests (passes.request (held g points));
}

pub passes_dial : (g : NodeConfig) (l k : ℕ) (to : _) (why : _) → (k == l) ≡ false → Passes g l (entry (e.Dialled k to why))
passes_dial g l k to why is =
    record { moves = rw is refl; came = refl; went = refl; tells = refl; response = refl; request = λ held. rw is refl }

pub passes_came : (g : NodeConfig) (l k : ℕ) (bytes : List ℕ) → (k == l) ≡ false → Passes g l (entry (e.Came k bytes))
passes_came g l k bytes is = record { moves = refl; came = rw is refl; went = refl; tells = refl; response = refl; request = λ held. refl }

pub passes_went : (g : NodeConfig) (l k : ℕ) (bytes : List ℕ) → (k == l) ≡ false → Passes g l (entry (e.Went k bytes))
passes_went g l k bytes is =
    record { moves = rw is refl; came = refl; went = rw is refl; tells = refl; response = refl; request = λ held. refl }

pub passes_looked : (g : NodeConfig) (l k : ℕ) (points : _) (told : _) (headers : _) → (k == l) ≡ false
    → Passes g l (looked k points told headers)
passes_looked g l k points told headers is =
    record { moves = rw is refl; came = refl; went = refl; tells = rw is refl; response = refl; request = λ held. refl }

pub passes_applied : (g : NodeConfig) (l k : ℕ) (r : Response) → (k == l) ≡ false → Passes g l (applied k r)
passes_applied g l k r is =
    record { moves = refl; came = refl; went = refl; tells = refl; response = rw is refl; request = λ held. rw is refl }

pub passes_used : (g : NodeConfig) (l k n : ℕ) → (k == l) ≡ false → Passes g l (used k n)
passes_used g l k n is = record { moves = rw is refl; came = refl; went = refl; tells = refl; response = refl; request = λ held. refl }

pub passes_put : (g : NodeConfig) (l k : ℕ) (bytes : List ℕ) → (k == l) ≡ false → Passes g l (put k bytes)
passes_put g l k bytes is = record { moves = rw is refl; came = refl; went = refl; tells = refl; response = refl; request = λ held. refl }

-- a link that isn't born
pub record IsUnborn (g : NodeConfig) (m : Machine) (points : List Point) (l : ℕ) : Type 0 where
  pub link : m.links l ≡ no_link
  pub none : AreNone g l points

abbrev pub AreUnborn : NodeConfig → Machine → List Point → Type 0
AreUnborn g m points = (l : ℕ) → m.born < l → IsUnborn g m points l

plain : (g : NodeConfig) (l : ℕ) (p : Point) → moves_in l p ≡ [] → flat_map (came_on l) (entry_in p) ≡ []
    → flat_map (went_on l) (entry_in p) ≡ [] → telling l p ≡ [] → response_in l p ≡ []
    → ((held : Resources) → request_in g held l p ≡ []) → Passes g l p
plain g l p moves came went tells response request =
    record { moves = moves; came = came; went = went; tells = tells; response = response; request = request }

pub born_closing : (phase : Phase) (cause : Cause) → closing phase ≡ Some cause → IsBorn phase
born_closing unborn cause is = absurd cc
born_closing dialling cause is = tt
born_closing live cause is = tt
born_closing (faulted code) cause is = tt
born_closing (ending other) cause is = tt
born_closing closed cause is = tt

born_in : (phase which : Phase) → phase ≡ which → IsBorn which → IsBorn phase
born_in phase which is born = subst IsBorn (sym is) born

module _ (g : NodeConfig) (m : Machine) (points : List Point) (before : AreUnborn g m points) where
  none_of : (l k : ℕ) → m.born < l → IsBorn (m.links k).phase → (k == l) ≡ false
  none_of l k above born = apart m.links k l (ap (λ (x : Discovery). x.phase) (before l above).link) born

  still : (n : Machine) (p : Point) (l : ℕ) → m.born < l → n.links l ≡ m.links l → Passes g l p → IsUnborn g n (points ++ p ∷ []) l
  still n p l above same passes = record {
    link = same ∙ (before l above).link;
    none = none_more g l points p (before l above).none passes;
  }

  pub entry_unborn : (x : Entry) → MayCome g m x → AreUnborn g (entered g x m) (points ++ entry x ∷ [])
  entry_unborn (e.Accepted k door) may l above = absurd may
  entry_unborn (e.Dialled k to why) may l above =
      let less : m.born < l = omega (arith, may.1, above) in
      let is : (k == l) ≡ false = false_from_ne_true (k == l) (λ same. omega (arith, eqb-true k l same, above)) in
      still _ _ l less (rw is refl) (passes_dial g l k to why is)
  entry_unborn (e.DialFailed to why) may l above = still _ _ l above refl (plain g l _ refl refl refl refl refl (λ held. refl))
  entry_unborn (e.Opened k) may l above =
      let is = none_of l k above (born_in _ dialling may.1 tt) in
      still _ _ l above (rw is refl) (plain g l _ refl refl refl refl refl (λ held. refl))
  entry_unborn (e.Came k bytes) may l above =
      let is = none_of l k above (born_in _ live may.0.1 tt) in still _ _ l above (rw is refl) (passes_came g l k bytes is)
  entry_unborn (e.Ended k) may l above =
      let is = none_of l k above (born_in _ live may.0.1 tt) in
      still _ _ l above (rw is refl) (plain g l _ refl refl refl refl refl (λ held. refl))
  entry_unborn (e.Broke k) (inl may) l above =
      let is = none_of l k above (born_in _ dialling may.1 tt) in
      still _ _ l above (rw is refl) (plain g l _ refl refl refl refl refl (λ held. refl))
  entry_unborn (e.Broke k) (inr (inl may)) l above =
      let is = none_of l k above (born_in _ live may.1 tt) in
      still _ _ l above (rw is refl) (plain g l _ refl refl refl refl refl (λ held. refl))
  entry_unborn (e.Broke k) (inr (inr may)) l above =
      let is = none_of l k above (born_in _ (faulted may.0) may.1 tt) in
      still _ _ l above (rw is refl) (plain g l _ refl refl refl refl refl (λ held. refl))
  entry_unborn (e.Went k bytes) (inl may, some, rest) l above =
      let is = none_of l k above (born_in _ live may.1 tt) in still _ _ l above (rw is refl) (passes_went g l k bytes is)
  entry_unborn (e.Went k bytes) (inr may, some, rest) l above =
      let is = none_of l k above (born_in _ (faulted may.0) may.1 tt) in still _ _ l above (rw is refl) (passes_went g l k bytes is)
  entry_unborn (e.Balked way) may l above = still _ _ l above refl (plain g l _ refl refl refl refl refl (λ held. refl))
  entry_unborn (e.Shut k) may l above = absurd may
  entry_unborn (e.Closed k cause) may l above =
      let is = none_of l k above (born_closing (m.links k).phase cause may) in
      still _ _ l above (rw is refl) (plain g l _ refl refl refl refl refl (λ held. refl))
  entry_unborn e.Tick may l above = still _ _ l above refl (plain g l _ refl refl refl refl refl (λ held. refl))
  entry_unborn (e.Wait ready way) may l above = still _ _ l above refl (plain g l _ refl refl refl refl refl (λ held. refl))

  -- a point of a link that lives
  inner : (p : Point) (k : ℕ) (n : Machine) → (m.links k).phase ≡ live → n.born ≡ m.born
      → ((l : ℕ) → (k == l) ≡ false → (n.links l ≡ m.links l) × Passes g l p) → AreUnborn g n (points ++ p ∷ [])
  inner p k n alive born others l above =
      let less : m.born < l = omega (arith, born, above) in
      let at = others l (none_of l k less (born_in _ live alive tt)) in
      still n p l less at.0 at.1

  linked : (p : Point) (k : ℕ) (n next : Machine) → (m.links k).phase ≡ live → n ≡ next → next.born ≡ m.born
      → ((l : ℕ) → (k == l) ≡ false → next.links l ≡ m.links l) → ((l : ℕ) → (k == l) ≡ false → Passes g l p)
      → AreUnborn g n (points ++ p ∷ [])
  linked p k n next alive is born links passes =
      subst (λ (x : Machine). AreUnborn g x (points ++ p ∷ [])) (sym is)
      (inner p k next alive born (λ l apart. (links l apart, passes l apart)))

  pub point_unborn : (p : Point) (n : Machine) → Steps g m p n → AreUnborn g n (points ++ p ∷ [])
  point_unborn (entry x) n steps = subst (λ (y : Machine). AreUnborn g y (points ++ entry x ∷ [])) (sym steps.1) (entry_unborn x steps.0)
  point_unborn (looked k ps told headers) n steps =
      linked _ k n _ steps.0 steps.4 refl (λ l is. rw is refl) (λ l is. passes_looked g l k ps told headers is)
  point_unborn (applied k r) n steps =
      linked _ k n _ steps.0 steps.3 refl (λ l is. rw is refl) (λ l is. passes_applied g l k r is)
  point_unborn (refused k) n steps =
      linked _ k n _ steps.0 steps.2 refl (λ l is. rw is refl) (λ l is. plain g l _ refl refl refl refl refl (λ held. refl))
  point_unborn (used k c) n steps =
      linked _ k n _ steps.0 steps.2 refl (λ l is. rw is refl) (λ l is. passes_used g l k c is)
  point_unborn (put k bytes) n steps =
      linked _ k n _ steps.0 steps.3 refl (λ l is. rw is refl) (λ l is. passes_put g l k bytes is)
  point_unborn (stopped cause) n steps =
      subst (λ (y : Machine). AreUnborn g y (points ++ stopped cause ∷ [])) (sym steps.1)
      (λ l above. record {
        link = ap (with_phase (stopped_for cause)) (before l above).link;
        none = none_more g l points (stopped cause) (before l above).none (plain g l _ refl refl refl refl refl (λ held. refl));
      })

pub are_unborn : (g : NodeConfig) (m : Machine) (points : List Point) → StandsFor g m points → AreUnborn g m points
are_unborn g m points (begins is none) = λ l above. record {
  link = ap (λ (x : Machine). x.links l) is;
  none = subst (AreNone g l) (sym none)
      (record { moves = refl; came = refl; went = refl; tells = refl; responses = refl; requests = refl });
}
are_unborn g n more (goes_on before p steps grows) =
    subst (AreUnborn g n) (sym grows) (point_unborn g _ _ (are_unborn g _ _ before) p n steps)
