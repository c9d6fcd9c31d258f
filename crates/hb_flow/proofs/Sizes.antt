-- Streams whose windows are moved one after another, by rising numbers.
use Rattle.std.proofs.Common.{leb, ◌≡◌, ◌≢◌, ℕ, ◌+◌, ◌-◌, ◌<◌, ◌≤◌, true, false, Bool, cond, List, [], ◌∷◌, map, Option, Some, None, is_some, IsSome, Ok, ◌⊎◌, refl, ap, sym, ◌∙◌, inl, inr, subst, arith}
use Rattle.std.specs.Option.{option_map}
use Rattle.std.specs.Ordering.{nat_cmp, eq_by_cmp}
use Rattle.std.specs.Cmp.{nat_cmp_total}
use Rattle.std.specs.FinMap.{FinMap, get, entries, find, get-entries, get-from_entries, same_map, nat_cmp-IsAntisymmetric}
use Rattle.std.proofs.lemmas.Bool.{cases_eq, false≢true, leb-true, leb-false}
use Rattle.hb_map.specs.Keyed.{written, IsFirstFrom}
use Rattle.hb_map.proofs.Laws.{written_here, written_elsewhere}
use Rattle.hb_flow.specs.Windows.{Windows}
use Rattle.hb_flow.specs.Flows.{Flows, changed_by}
use Rattle.hb_flow.specs.Laws.{ResizesEach}
use Rattle.hb_flow.specs.Sizes.{ResizesOn, with_size, all_with_size, unbegun_on, Fits}

find_mapped : (g : Windows → Windows) (q : ℕ) (es : List (ℕ × Windows))
    → find nat_cmp q (map (λ e. (e.0, g e.1)) es) ≡ option_map g (find nat_cmp q es)
find_mapped g q [] = refl
find_mapped g q (e ∷ es) =
    by (eq_by_cmp nat_cmp q e.0) (find_mapped g q es)
  where
    by : (b : Bool) → find nat_cmp q (map (λ e. (e.0, g e.1)) es) ≡ option_map g (find nat_cmp q es)
        → cond b (Some (g e.1)) (find nat_cmp q (map (λ e. (e.0, g e.1)) es)) ≡ option_map g (cond b (Some e.1) (find nat_cmp q es))
    by true ih = refl
    by false ih = ih

pub get_all : (k : ℕ) (m : FinMap nat_cmp Windows) (q : ℕ) → get (all_with_size k m) q ≡ option_map (with_size k) (get m q)
unfolding all_with_size
get_all k m q =
    get-from_entries nat_cmp_total (map (λ e. (e.0, with_size k e.1)) (entries m)) q
    ∙ find_mapped (with_size k) q (entries m)
    ∙ sym (ap (option_map (with_size k)) (get-entries m q))

pub resizes_each : ResizesEach
resizes_each f k q = get_all k f.streams q

pub split : (q from : ℕ) → (q < from) ⊎ (from ≤ q)
split q from = by (leb from q) refl
  where
    by : (b : Bool) → leb from q ≡ b → (q < from) ⊎ (from ≤ q)
    by true e = inr (leb-true from q e)
    by false e = inl (leb-false from q e)

module _ (k of unbegun : ℕ) (old : FinMap nat_cmp Windows) where
  -- the stream q is moved, and its window stays within the largest
  abbrev pub IsMoved : FinMap nat_cmp Windows → ℕ → Type 0
  IsMoved now q = (get now q ≡ option_map (with_size k) (get old q)) × Fits k (unbegun_on of unbegun q) (get old q)

  -- the streams in front of the next are moved, and the others are as they were
  abbrev pub AreMoved : FinMap nat_cmp Windows → Option ℕ → Type 0
  AreMoved now None = (q : ℕ) → IsMoved now q
  AreMoved now (Some next) =
      IsSome (get old next) × ((q : ℕ) → q < next → IsMoved now q) × ((q : ℕ) → next ≤ q → get now q ≡ get old q)

  pub all_moved : (now : FinMap nat_cmp Windows) → AreMoved now None → now ≡ all_with_size k old
  all_moved now moved = same_map nat_cmp_total nat_cmp-IsAntisymmetric _ _ (λ q. (moved q).0 ∙ sym (get_all k old q))

  nothing_moved : (now : FinMap nat_cmp Windows) (q : ℕ) → get now q ≡ get old q → get now q ≡ None → IsMoved now q
  nothing_moved now q same none =
      let gone : get old q ≡ None = sym same ∙ none in
      subst (λ (o : Option Windows). (get now q ≡ option_map (with_size k) o) × Fits k (unbegun_on of unbegun q) o) (sym gone) (none, tt)

  -- where those in front of `from` are moved, and the next has the least number from there on
  pub moved_up_to : (now : FinMap nat_cmp Windows) (from : ℕ) (next : Option ℕ) → IsFirstFrom now from next
      → ((q : ℕ) → q < from → IsMoved now q) → ((q : ℕ) → from ≤ q → get now q ≡ get old q) → AreMoved now next
  moved_up_to now from None first below above =
      λ q. elim (split q from) [ inl l ↦ below q l | inr g ↦ nothing_moved now q (above q g) (first q g) ]
  moved_up_to now from (Some next) first below above = (
    ap is_some (sym (above next first.0)) ∙ first.1,
    (λ q less. elim (split q from) [ inl l ↦ below q l | inr g ↦ nothing_moved now q (above q g) (first.2 q g less) ]),
    (λ q more. above q (omega (arith, first.0, more))),
  )

  -- the next is moved as well, and then the one behind it is the next
  now_moved : (now : FinMap nat_cmp Windows) (s : ℕ) (w : Windows) → get now s ≡ Some w → Fits k (unbegun_on of unbegun s) (Some w)
      → AreMoved now (Some s) → (q : ℕ) → q < s + 1 → IsMoved (written now s (with_size k w)) q
  now_moved now s w is fits moved q less =
      elim (cases_eq q s) [
        | inl same ↦ subst (IsMoved (written now s (with_size k w))) (sym same) here
        | inr apart ↦
            let m = moved.1 q (omega (arith, less, apart)) in
            (written_elsewhere now s (with_size k w) q apart ∙ m.0, m.1)
      ]
    where
      was : get old s ≡ Some w
      was = sym (moved.2 s (omega arith)) ∙ is

      here : IsMoved (written now s (with_size k w)) s
      here = (
        written_here now s (with_size k w) (ap is_some is) ∙ sym (ap (option_map (with_size k)) was),
        subst (Fits k (unbegun_on of unbegun s)) (sym was) fits,
      )

  step_by : (f g : Flows) (s : ℕ) (next : Option ℕ) (o : Option Windows) → get f.streams s ≡ o → AreMoved f.streams (Some s)
      → ResizesOn f g (Ok tt) s k (unbegun_on of unbegun s) o → IsFirstFrom g.streams (s + 1) next
      → (g.sending ≡ f.sending) × (g.taking ≡ f.taking) × (g.initial ≡ f.initial) × AreMoved g.streams next
  step_by f g s next None is moved on first =
      absurd (false≢true (sym (ap is_some (sym (moved.2 s (omega arith)) ∙ is)) ∙ moved.0))
  step_by f g s next (Some w) is moved on first =
      let becomes : g ≡ changed_by f s (with_size k) (Some w) = on.1 ∙ ap (changed_by f s (with_size k)) is in
      let new : g.streams ≡ written f.streams s (with_size k w) = ap (λ (h : Flows). h.streams) becomes in (
        ap (λ (h : Flows). h.sending) becomes,
        ap (λ (h : Flows). h.taking) becomes,
        ap (λ (h : Flows). h.initial) becomes,
        moved_up_to g.streams (s + 1) next first
            (λ q less. subst (λ m. IsMoved m q) (sym new) (now_moved f.streams s w is on.0 moved q less))
            (λ q more. let apart : q ≢ s = omega arith in
            ap (λ m. get m q) new ∙ written_elsewhere f.streams s (with_size k w) q apart ∙ moved.2 q (omega (arith, more))),
      )

  pub step : (f g : Flows) (s u : ℕ) (next : Option ℕ) → u ≡ unbegun_on of unbegun s → AreMoved f.streams (Some s)
      → ResizesOn f g (Ok tt) s k u (get f.streams s) → IsFirstFrom g.streams (s + 1) next
      → (g.sending ≡ f.sending) × (g.taking ≡ f.taking) × (g.initial ≡ f.initial) × AreMoved g.streams next
  step f g s u next uncounted moved on first =
      step_by f g s next (get f.streams s) refl moved
      (subst (λ u. ResizesOn f g (Ok tt) s k u (get f.streams s)) uncounted on) first

pub same_flows : (f g : Flows) → f.sending ≡ g.sending → f.taking ≡ g.taking → f.initial ≡ g.initial → f.streams ≡ g.streams → f ≡ g
same_flows f g s t i m =
    ap (λ x. record f { sending = x }) s
    ∙ ap (λ x. record f { sending = g.sending; taking = x }) t
    ∙ ap (λ x. record f { sending = g.sending; taking = g.taking; initial = x }) i
    ∙ ap (λ x. record g { streams = x }) m

-- how many numbers there are from the next stream on
abbrev pub left_of : Option ℕ → ℕ
left_of None = 0
left_of (Some next) = 4294967296 - next
