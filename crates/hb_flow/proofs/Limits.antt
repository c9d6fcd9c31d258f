-- The largest initial size that the windows of all streams allow.
use Rattle.std.proofs.Common.{◌≡◌, ◌≢◌, ◌⊎◌, Bool, true, false, cond, ℕ, ◌+◌, ◌<◌, ◌≤◌, Option, Some, None, refl, ap, sym, ◌∙◌, inl, inr, subst, arith, ⊎_elim}
use Rattle.std.specs.Prelude.{ℤ, pos, int_lt, ◌+ℤ◌, ◌-ℤ◌, ◌≤ℤ◌}
use Rattle.std.proofs.lemmas.Int.{ints}
use Rattle.std.specs.Option.{option_map}
use Rattle.std.specs.Cmp.{nat_cmp_total}
use Rattle.std.proofs.lemmas.Bool.{cases_eq}
use Rattle.std.specs.FinMap.{get, same_map, nat_cmp-IsAntisymmetric}
use Rattle.std.specs.Int.{int_min}
use Rattle.hb_map.specs.Keyed.{IsFirstFrom}
use Rattle.hb_frames.specs.Numbers.{largest}
use Rattle.hb_flow.specs.Windows.{Windows}
use Rattle.hb_flow.specs.Flows.{Flows}
use Rattle.hb_flow.specs.Sizes.{Fits, with_size, all_with_size, resized, limit_by, limit_on, unbegun_on, IsSizeLimit}
use Rattle.hb_flow.proofs.Sizes.{get_all, split}

abbrev pub IsInFront : Option ℕ → ℕ → Type 0
IsInFront None q = Unit {0}
IsInFront (Some next) q = q < next

-- the least limit of the streams in front of the next
pub record IsLimitUpTo (f : Flows) (of unbegun : ℕ) (next : Option ℕ) (limit : ℤ) : Type 0 where
  pub most : limit ≤ℤ pos largest
  pub under : (n : ℕ) → IsInFront next n → limit ≤ℤ limit_on f of unbegun n
  pub reached : (limit ≡ pos largest) ⊎ ((n : ℕ) × (limit ≡ limit_on f of unbegun n))

-- a stream without windows allows every size
none_limits : (f : Flows) (of unbegun n : ℕ) (limit : ℤ) → get f.streams n ≡ None → limit ≤ℤ pos largest → limit ≤ℤ limit_on f of unbegun n
none_limits f of unbegun n limit none most =
    subst (λ (o : Option Windows). limit ≤ℤ limit_by (unbegun_on of unbegun n) o) (sym none) most

-- between the streams in front and the next none has windows
none_between : (f : Flows) (from n : ℕ) (next : Option ℕ) → IsFirstFrom f.streams from next → IsInFront next n → from ≤ n
    → get f.streams n ≡ None
none_between f from n None first front more = first n more
none_between f from n (Some next) first front more = first.2 n more front

pub limit_at_first : (f : Flows) (of unbegun : ℕ) (next : Option ℕ) → IsFirstFrom f.streams 0 next
    → IsLimitUpTo f of unbegun next (pos largest)
limit_at_first f of unbegun next first = record {
  most = omega (arith, ints);
  under = λ n front.
      none_limits f of unbegun n (pos largest) (none_between f 0 n next first front (omega arith)) (omega (arith, ints));
  reached = inl refl;
}

pub record IsLeast (x y z : ℤ) : Type 0 where
  pub first : z ≤ℤ x
  pub second : z ≤ℤ y
  pub either : (z ≡ x) ⊎ (z ≡ y)

least_by : (x y : ℤ) (b : Bool) → int_lt y x ≡ b → IsLeast x y (cond b y x)
least_by x y true e = record { first = grind (arith, ints, e); second = omega (arith, ints); either = inr refl }
least_by x y false e = record { first = omega (arith, ints); second = grind (arith, ints, e); either = inl refl }

is_least : (x y : ℤ) → IsLeast x y (int_min x y)
is_least x y = least_by x y (int_lt y x) refl

pub limit_with : (f : Flows) (of unbegun s : ℕ) (next : Option ℕ) (limit least : ℤ)
    → least ≡ int_min limit (limit_on f of unbegun s) → IsLimitUpTo f of unbegun (Some s) limit
    → IsFirstFrom f.streams (s + 1) next → IsLimitUpTo f of unbegun next least
limit_with f of unbegun s next limit least is so first =
    let l = subst (IsLeast limit (limit_on f of unbegun s)) (sym is) (is_least limit (limit_on f of unbegun s)) in
    let most : least ≤ℤ pos largest = omega (arith, ints, l.first, so.most) in
    record {
      most = most;
      under = λ n front.
          elim (split n (s + 1)) [
            | inl less ↦ by n least l (cases_eq n s) less
            | inr more ↦ none_limits f of unbegun n least (none_between f (s + 1) n next first front more) most
          ];
      reached = ⊎_elim
          (λ (same : least ≡ limit). ⊎_elim
          (λ (all : limit ≡ pos largest). inl (same ∙ all))
          (λ (some : (n : ℕ) × (limit ≡ limit_on f of unbegun n)). inr (some.0, same ∙ some.1))
          so.reached)
          (λ (same : least ≡ limit_on f of unbegun s). inr (s, same))
          l.either;
    }
  where
    by : (n : ℕ) (least : ℤ) → IsLeast limit (limit_on f of unbegun s) least → (n ≡ s) ⊎ (n ≢ s) → n < s + 1
        → least ≤ℤ limit_on f of unbegun n
    by n least l (inl same) less = subst (λ (q : ℕ). least ≤ℤ limit_on f of unbegun q) (sym same) l.second
    by n least l (inr apart) less =
        let under = so.under n (omega (arith, apart, less)) in omega (arith, ints, under, l.first)

pub limit_of_all : (f : Flows) (of unbegun : ℕ) (limit : ℤ) → IsLimitUpTo f of unbegun None limit → IsSizeLimit f of unbegun limit
limit_of_all f of unbegun limit so = record { most = so.most; under = λ n. so.under n tt; reached = so.reached }

-- a size up to the limit fits every stream
fits_by : (k unbegun : ℕ) (limit : ℤ) (o : Option Windows) → pos k ≤ℤ limit → limit ≤ℤ limit_by unbegun o → Fits k unbegun o
fits_by k unbegun limit None small under = tt
fits_by k unbegun limit (Some w) small under = omega (arith, ints, small, under)

pub fits_under : (f : Flows) (of unbegun k : ℕ) (limit : ℤ) → IsSizeLimit f of unbegun limit → pos k ≤ℤ limit
    → (k ≤ largest) × ((n : ℕ) → Fits k (unbegun_on of unbegun n) (get f.streams n))
fits_under f of unbegun k limit so small = (
  omega (arith, ints, small, so.most),
  λ n. fits_by k (unbegun_on of unbegun n) limit (get f.streams n) small (so.under n),
)

-- a change of the initial size in front of another one changes nothing of what that one does

option_twice : (j k : ℕ) (o : Option Windows) → option_map (with_size k) (option_map (with_size j) o) ≡ option_map (with_size k) o
option_twice j k None = refl
option_twice j k (Some w) =
    let held : (w.sending.held +ℤ (pos j -ℤ pos w.sending.size)) +ℤ (pos k -ℤ pos j) ≡ w.sending.held +ℤ (pos k -ℤ pos w.sending.size) =
    omega (arith, ints) in
    ap (λ (h : ℤ). Some (record w { sending = record { held = h; size = k } })) held

pub resized_twice : (f : Flows) (j k : ℕ) → resized (resized f j) k ≡ resized f k
resized_twice f j k =
    ap (λ m. record f { initial = k; streams = m })
    (same_map nat_cmp_total nat_cmp-IsAntisymmetric _ _ (λ q.
    get_all k (all_with_size j f.streams) q ∙ ap (option_map (with_size k)) (get_all j f.streams q)
    ∙ option_twice j k (get f.streams q) ∙ sym (get_all k f.streams q)))

fits_twice : (j k unbegun : ℕ) (o : Option Windows) → Fits k unbegun o → Fits k unbegun (option_map (with_size j) o)
fits_twice j k unbegun None fits = tt
fits_twice j k unbegun (Some w) fits = omega (arith, ints, fits)

pub fits_resized : (f : Flows) (of unbegun j k : ℕ) → ((n : ℕ) → Fits k (unbegun_on of unbegun n) (get f.streams n))
    → (n : ℕ) → Fits k (unbegun_on of unbegun n) (get (resized f j).streams n)
fits_resized f of unbegun j k fits n =
    subst (Fits k (unbegun_on of unbegun n)) (sym (get_all j f.streams n))
    (fits_twice j k (unbegun_on of unbegun n) (get f.streams n) (fits n))
