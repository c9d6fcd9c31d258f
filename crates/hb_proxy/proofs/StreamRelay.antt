-- What goes on the stream of a plain link is what the link puts, and what comes of it is what the link is told, in every run of the whole.
use Rattle.std.proofs.Common.{◌≡◌, ◌⊎◌, inl, inr, ⊎_elim, ℕ, ◌==◌, Bool, true, false, cond, List, [], ◌∷◌, ◌++◌, take, refl, ap, ap₂, sym, ◌∙◌, subst}
use Rattle.std.proofs.lemmas.Bool.{cond_both, cases_eq, eq-eqb, ne_eqb}
use Rattle.std.proofs.lemmas.Grind.{flat_map-append}
use Rattle.std.proofs.lemmas.List.{append-nil}
use Rattle.std.specs.List.{flat_map}
use Rattle.hb_captured.specs.Part as captured
use Rattle.hb_captured.specs.Runs.{MayGo, IsOnStream}
use Rattle.hb_captured.specs.Sides as sides
use Rattle.hb_gateway.specs.Part as gateway
use Rattle.hb_gateway.specs.Response as response
use Rattle.hb_gateway.specs.Response.{Heard, opens, brings, fails}
use Rattle.hb_gateway.specs.Sides.{told_in, told_on, brought_by, brought_on, put_in, put_on}
use Rattle.hb_model.proofs.Grown.{one_more}
use Rattle.hb_model.specs.Point as point
use Rattle.hb_model.specs.declared.config.NodeConfig.{NodeConfig}
use Rattle.hb_proxy.specs.Machine.{Machine, plain_local}
use Rattle.hb_proxy.specs.Points.{Point, of_control, of_link, of_plain, of_gate, of_stream, plain_in, plain_of, gate_in, gates_of}
use Rattle.hb_proxy.specs.Runs.{PlainGuard, GateGuard, StreamGuard, IsStreamOf, Steps, StandsFor, begins, goes_on}
use Rattle.hb_proxy.specs.Shared.{Shared, asks, tells, puts, finishes, credits, drops, completes, captured_part, gateway_part}
use Rattle.hb_proxy.specs.Streams.{IsAsked}
use Rattle.hb_proxy.proofs.StreamAsks.{asked_then, link_asks_once, stream_asked_once, link_asked}
use Rattle.hb_proxy.proofs.StreamParts.{stream_came_in, stream_went_in}

-- what is said to a plain link and on a stream of what happens to both: these bytes
record IsShared (said : captured.Part → List ℕ) (on : ℕ → gateway.Part → List ℕ) : Type 0 where
  bytes : Shared → List ℕ
  none : (authority : _) → bytes (asks authority) ≡ []
  link : (n s : ℕ) (w : Shared) → said (captured_part n s w) ≡ bytes w
  stream : (s l t : ℕ) (w : Shared) → on s (gateway_part l t w) ≡ cond (t == s) (bytes w) []
  alone : (g : NodeConfig) (x : Machine) (l : ℕ) (q : captured.Part) → PlainGuard g x l q → said q ≡ []
  gate_alone : (g : NodeConfig) (x : Machine) (n s : ℕ) (q : gateway.Part) → GateGuard g x n q → on s q ≡ []
  applied : (r : _) → said (captured.applied r) ≡ []
  stopped : (why : _) → said (captured.stopped why) ≡ []
  gate_stopped : (s : ℕ) (why : _) → on s (gateway.stopped why) ≡ []

either : (t s : ℕ) → ◌≡◌ {A = List ℕ} [] (cond (t == s) [] [])
either t s = cond_both (t == s) [] [] (λ (v : List ℕ). [] ≡ v) (λ h. refl) (λ h. refl)

went_shared : IsShared stream_went_in put_in
went_shared = record {
  bytes = bytes;
  none = λ authority. refl;
  link = link;
  stream = stream;
  alone = alone;
  gate_alone = gate_alone;
  applied = λ r. refl;
  stopped = λ why. refl;
  gate_stopped = λ s why. refl;
}
  where
    bytes : Shared → List ℕ
    bytes (puts waiting count) = take count waiting
    bytes _ = []

    link : (n s : ℕ) (w : Shared) → stream_went_in (captured_part n s w) ≡ bytes w
    link n s (asks authority) = refl
    link n s (tells heard begun) = refl
    link n s (puts waiting count) = refl
    link n s finishes = refl
    link n s (credits count) = refl
    link n s (drops begun) = refl
    link n s (completes begun note) = refl

    stream : (s l t : ℕ) (w : Shared) → put_in s (gateway_part l t w) ≡ cond (t == s) (bytes w) []
    stream s l t (puts waiting count) = refl
    stream s l t (asks authority) = either t s
    stream s l t (tells heard begun) = either t s
    stream s l t finishes = either t s
    stream s l t (credits count) = either t s
    stream s l t (drops begun) = either t s
    stream s l t (completes begun note) = either t s

    alone : (g : NodeConfig) (x : Machine) (l : ℕ) (q : captured.Part) → PlainGuard g x l q → stream_went_in q ≡ []
    alone g x l (captured.put bytes) guard = absurd guard
    alone g x l _ guard = refl

    gate_alone : (g : NodeConfig) (x : Machine) (n s : ℕ) (q : gateway.Part) → GateGuard g x n q → put_in s q ≡ []
    gate_alone g x n s (gateway.put t bytes count) guard = absurd guard
    gate_alone g x n s _ guard = refl

-- what is told on a stream, as bytes
abbrev came_in : ℕ → gateway.Part → List ℕ
came_in s q = flat_map brought_by (told_in s q)

came_shared : IsShared stream_came_in came_in
came_shared = record {
  bytes = bytes;
  none = λ authority. refl;
  link = link;
  stream = stream;
  alone = alone;
  gate_alone = gate_alone;
  applied = λ r. refl;
  stopped = λ why. refl;
  gate_stopped = λ s why. refl;
}
  where
    bytes : Shared → List ℕ
    bytes (tells heard begun) = brought_by heard
    bytes _ = []

    same : (heard : Heard) → sides.brought_by heard ≡ brought_by heard
    same (opens end) = refl
    same (brings bytes) = refl
    same response.ends = refl
    same (fails why) = refl

    link : (n s : ℕ) (w : Shared) → stream_came_in (captured_part n s w) ≡ bytes w
    link n s (asks authority) = refl
    link n s (tells heard begun) = same heard
    link n s (puts waiting count) = refl
    link n s finishes = refl
    link n s (credits count) = refl
    link n s (drops begun) = refl
    link n s (completes begun note) = refl

    one : (heard : Heard) (b : Bool) → flat_map brought_by (cond b (heard ∷ []) []) ≡ cond b (brought_by heard) []
    one heard b = by b
      where
        by : (b : Bool) → flat_map brought_by (cond b (heard ∷ []) []) ≡ cond b (brought_by heard) []
        by true = append-nil (brought_by heard)
        by false = refl

    stream : (s l t : ℕ) (w : Shared) → came_in s (gateway_part l t w) ≡ cond (t == s) (bytes w) []
    stream s l t (tells heard begun) = one heard (t == s)
    stream s l t (asks authority) = either t s
    stream s l t (puts waiting count) = either t s
    stream s l t finishes = either t s
    stream s l t (credits count) = either t s
    stream s l t (drops begun) = either t s
    stream s l t (completes begun note) = either t s

    alone : (g : NodeConfig) (x : Machine) (l : ℕ) (q : captured.Part) → PlainGuard g x l q → stream_came_in q ≡ []
    alone g x l (captured.hears heard begun) guard = absurd guard
    alone g x l _ guard = refl

    gate_alone : (g : NodeConfig) (x : Machine) (n s : ℕ) (q : gateway.Part) → GateGuard g x n q → came_in s q ≡ []
    gate_alone g x n s (gateway.tells t heard begun) guard = absurd guard
    gate_alone g x n s _ guard = refl

-- what happens to a link and a stream happens to the stream of the link, but that it is asked for
shared_of : (x : Machine) (l n s : ℕ) (w : Shared) → MayGo l (plain_local x l) (captured_part n s w) → StreamGuard x l n s w
    → ((authority : _) × (w ≡ asks authority)) ⊎ (IsOnStream (x.plain l) × IsStreamOf x l n s)
shared_of x l n s (asks authority) may guard = inl (authority, refl)
shared_of x l n s (tells heard begun) may guard = inr (may.0, guard)
shared_of x l n s (puts waiting count) may guard = inr (may.0.0, guard.0)
shared_of x l n s finishes may guard = inr (may.0.0, guard)
shared_of x l n s (credits count) may guard = inr (may.0.0, guard.0)
shared_of x l n s (drops begun) may guard = inr (may.0, guard)
shared_of x l n s (completes begun note) may guard = inr (may.0.0, guard)

stream_asked : (g : NodeConfig) (x : Machine) (points : List Point) → StandsFor g x points → (l n s : ℕ) → IsOnStream (x.plain l)
    → IsStreamOf x l n s → IsAsked points l n s
stream_asked g x points stands l n s on is =
    subst (λ (m : ℕ). IsAsked points l m s) is.gate
    (subst (IsAsked points l (x.plain l).gate) is.number (link_asked g x points stands l on))

-- BOTH SAY THE SAME, of a link l and of its stream s of the link n, where whoever asked for it is this one
module _ (said : captured.Part → List ℕ) (on : ℕ → gateway.Part → List ℕ) (shared : IsShared said on) (g : NodeConfig) (l n s : ℕ)
    (Known : ℕ → ℕ → ℕ → Type 0) (mine : (m t : ℕ) → Known l m t → (m ≡ n) × (t ≡ s)) (its : (k : ℕ) → Known k n s → k ≡ l) where
  abbrev Says : Point → Type 0
  Says p = flat_map said (plain_in l p) ≡ flat_map (on s) (gate_in n p)

  -- a part that says nothing
  silent : {A : Type 0} (f : A → List ℕ) (b : Bool) (q : A) → f q ≡ [] → flat_map f (cond b (q ∷ []) []) ≡ []
  silent f b q none = cond_both b (q ∷ []) [] (λ ps. flat_map f ps ≡ []) (λ h. ap (λ xs. xs ++ []) none) (λ h. refl)

  -- of a stream of another link, or of this one
  on_stream : (k m t : ℕ) (w : Shared) → Known k m t → Says (of_stream k m t w)
  on_stream k m t w known =
      ⊎_elim (λ same. here (subst (λ (j : ℕ). Known j m t) same known) same)
      (λ apart.
      ap (λ (b : Bool). flat_map said (cond b (captured_part m t w ∷ []) [])) (ne_eqb k l apart)
      ∙ sym (⊎_elim (λ same_n. silent (on s) (m == n) (gateway_part k t w)
      (shared.stream s k t w ∙ ap (λ (b : Bool). cond b (shared.bytes w) [])
      (ne_eqb t s (λ same_s. apart (its k (subst (λ (j : ℕ). Known k j s) same_n (subst (Known k m) same_s known)))))))
      (λ other. ap (λ (b : Bool). flat_map (on s) (cond b (gateway_part k t w ∷ []) [])) (ne_eqb m n other)) (cases_eq m n)))
      (cases_eq k l)
    where
      here : Known l m t → k ≡ l → Says (of_stream k m t w)
      here known_l same =
          let at = mine m t known_l in
          ap (λ (b : Bool). flat_map said (cond b (captured_part m t w ∷ []) [])) (eq-eqb k l same)
          ∙ ap (λ (xs : List ℕ). xs ++ []) (shared.link m t w
          ∙ sym (shared.stream s k t w ∙ ap (λ (b : Bool). cond b (shared.bytes w) []) (eq-eqb t s at.1)))
          ∙ sym (ap (λ (b : Bool). flat_map (on s) (cond b (gateway_part k t w ∷ []) [])) (eq-eqb m n at.0))

  asks_silent : (k m t : ℕ) (w : Shared) → shared.bytes w ≡ [] → Says (of_stream k m t w)
  asks_silent k m t w none =
      silent said (k == l) (captured_part m t w) (shared.link m t w ∙ none)
      ∙ sym (silent (on s) (m == n) (gateway_part k t w)
      (shared.stream s k t w ∙ ap (λ (xs : List ℕ). cond (t == s) xs []) none ∙ sym (either t s)))

  says : (x y : Machine) (points : List Point) → StandsFor g x points → ((k m t : ℕ) → IsAsked points k m t → Known k m t) → (p : Point)
      → Steps g x p y → Says p
  says x y points stands known (of_control (point.applied k r)) steps = ap (λ (xs : List ℕ). xs ++ []) (shared.applied r)
  says x y points stands known (of_control (point.stopped why)) steps =
      ap (λ (xs : List ℕ). xs ++ []) (shared.stopped why ∙ sym (shared.gate_stopped s why))
  says x y points stands known (of_control q) steps = refl
  says x y points stands known (of_link k q) steps = refl
  says x y points stands known (of_plain k q) steps = silent said (k == l) q (shared.alone g x k q steps.1)
  says x y points stands known (of_gate m q) steps = sym (silent (on s) (m == n) q (shared.gate_alone g x m s q steps.2))
  says x y points stands known (of_stream k m t w) steps =
      ⊎_elim (λ h. asks_silent k m t w (ap shared.bytes h.1 ∙ shared.none h.0))
      (λ h. on_stream k m t w (known k m t (stream_asked g x points stands k m t h.0 h.1)))
      (shared_of x k m t w steps.0 steps.3)

  all_say : (x : Machine) (points : List Point) → StandsFor g x points → ((k m t : ℕ) → IsAsked points k m t → Known k m t)
      → flat_map said (plain_of l points) ≡ flat_map (on s) (gates_of n points)
  all_say x points (begins is empty) known =
      ap (λ (ps : List Point). flat_map said (plain_of l ps)) empty
      ∙ sym (ap (λ (ps : List Point). flat_map (on s) (gates_of n ps)) empty)
  all_say y more (goes_on {x = x} {points = points} stands p steps are) known =
      let then : (k m t : ℕ) → IsAsked points k m t → Known k m t =
      λ k m t is. known k m t (subst (λ (ps : List Point). IsAsked ps k m t) (sym are) (asked_then points p k m t is)) in
      ap (λ (ps : List Point). flat_map said (plain_of l ps)) are
      ∙ ap (flat_map said) (one_more (plain_in l) points p) ∙ flat_map-append said (plain_of l points) (plain_in l p)
      ∙ ap₂ (λ (xs ys : List ℕ). xs ++ ys) (all_say x points stands then) (says x y points stands then p steps)
      ∙ sym (ap (λ (ps : List Point). flat_map (on s) (gates_of n ps)) are
      ∙ ap (flat_map (on s)) (one_more (gate_in n) points p) ∙ flat_map-append (on s) (gates_of n points) (gate_in n p))

-- what is told on a stream, in order, is what is brought there
brought_so : (s : ℕ) (parts : List gateway.Part) → flat_map (came_in s) parts ≡ brought_on s parts
brought_so s [] = refl
brought_so s (q ∷ parts) =
    ap (λ (xs : List ℕ). came_in s q ++ xs) (brought_so s parts) ∙ sym (flat_map-append brought_by (told_in s q) (told_on s parts))

module _ (g : NodeConfig) (x : Machine) (points : List Point) (stands : StandsFor g x points) (l n s : ℕ) (is : IsAsked points l n s) where
  pub puts_same : flat_map stream_went_in (plain_of l points) ≡ put_on s (gates_of n points)
  puts_same =
      all_say stream_went_in put_in went_shared g l n s (IsAsked points)
      (λ m t other. link_asks_once g x points stands l m t n s other is) (λ k other. stream_asked_once g x points stands k l n s other is)
      x points stands (λ k m t known. known)

  pub brings_same : flat_map stream_came_in (plain_of l points) ≡ brought_on s (gates_of n points)
  brings_same =
      all_say stream_came_in came_in came_shared g l n s (IsAsked points)
      (λ m t other. link_asks_once g x points stands l m t n s other is) (λ k other. stream_asked_once g x points stands k l n s other is)
      x points stands (λ k m t known. known)
      ∙ brought_so s (gates_of n points)
