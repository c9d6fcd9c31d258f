-- Counts in parts, and one that is born.
use Rattle.std.proofs.Common.{◌≡◌, ℕ, zero, suc, ◌+◌, ◌<◌, ◌≤◌, ◌==◌, Bool, true, false, refl, ap, sym, ◌∙◌, subst, arith}
use Rattle.std.proofs.lemmas.Bool.{eq-eqb, eqb-true, false≢true}
use Rattle.std.proofs.lemmas.Bool.Decides.{nat_tests}
use Rattle.std.specs.Prelude.{◌≢◌, nat_le}
use Rattle.hb_captured.specs.Captured.{Captured}
use Rattle.hb_gateway.specs.Gateway.{carries}
use Rattle.hb_inbound.specs.Inbound.{Inbound}
use Rattle.hb_inbound.specs.Tunnel.{takes_place}
use Rattle.hb_proxy.specs.Load.{sum_below, one_if, counts, is_placed, tunnels_on, links_below, tunnels_below, IsFull}
use Rattle.hb_proxy.specs.Load.{CountsTo, inbound_below, gates_below, streams_below, plain_below}
use Rattle.hb_proxy.specs.Machine.{Machine}
use Rattle.hb_proxy.proofs.Load.{not_more, one_more}

-- IN PARTS

sum_both : (f h : ℕ → ℕ) (n : ℕ) → sum_below (λ k. f k + h k) n ≡ sum_below f n + sum_below h n
sum_both f h zero = refl
sum_both f h (suc n) = let front = sum_both f h n in omega (arith, front)

counts_both : (f h all : ℕ → ℕ) (n m : ℕ) → ((b : ℕ) → all b ≡ f b + h b) → CountsTo f n → CountsTo h m → CountsTo all (n + m)
counts_both f h all n m is first second = record {
  within = λ b. let both = is b in let left = first.within b in let right = second.within b in omega (arith, both, left, right);
  bound = first.bound + second.bound;
  whole = λ more far. let both = is more in let left = first.whole more (omega (arith, far)) in
      let right = second.whole more (omega (arith, far)) in omega (arith, both, left, right);
}

pub links_counted : (x : Machine) (n m : ℕ) → CountsTo (inbound_below x) n → CountsTo (gates_below x) m → CountsTo (links_below x) (n + m)
links_counted x n m =
    counts_both (inbound_below x) (gates_below x) (links_below x) n m
    (λ b. sum_both (λ l. one_if (counts (x.inbound l).phase)) (λ l. one_if (carries (x.gates l).phase)) b)

pub tunnels_counted : (x : Machine) (n m : ℕ) → CountsTo (streams_below x) n → CountsTo (plain_below x) m
    → CountsTo (tunnels_below x) (n + m)
tunnels_counted x n m =
    counts_both (streams_below x) (plain_below x) (tunnels_below x) n m
    (λ b. sum_both (λ l. tunnels_on (x.inbound l) b) (λ l. one_if (is_placed (x.plain l).stage)) b)

-- the plain links count alike where they are the same
pub same_plain : (x z : Machine) → z.plain ≡ x.plain → (n : ℕ) → CountsTo (plain_below x) n → CountsTo (plain_below z) n
same_plain x z same n to =
    subst (λ (f : ℕ → Captured). CountsTo (λ b. sum_below (λ l. one_if (is_placed (f l).stage)) b) n) (sym same) to

-- all places are taken exactly where there are as many as may be
pub is_full : (full : Bool) (limit n : ℕ) (count : ℕ → ℕ) → CountsTo count n → full ≡ nat_le limit n → IsFull full limit count
is_full true limit n count to test =
    let most = to.whole to.bound (omega arith) in let fits : limit ≤ n = grind (arith, nat_tests, test) in
    (to.bound, omega (arith, most, fits))
is_full false limit n count to test = λ b.
    let few = to.within b in let less : n < limit = grind (arith, nat_tests, test) in omega (arith, few, less)

-- a count comes to one number alone
pub counts_once : (count : ℕ → ℕ) (n m : ℕ) → CountsTo count n → CountsTo count m → n ≡ m
counts_once count n m first second =
    let up = first.whole first.bound (omega arith) in
    let most = second.within first.bound in
    let down = second.whole second.bound (omega arith) in
    let least = first.within second.bound in omega (arith, up, most, down, least)

-- FURTHER ON

pub grows : (f : ℕ → ℕ) (n more : ℕ) → sum_below f n ≤ sum_below f (more + n)
grows f n zero = let same : 0 + n ≡ n = omega arith in subst (λ (i : ℕ). sum_below f n ≤ sum_below f i) (sym same) (omega arith)
grows f n (suc more) =
    let front = grows f n more in
    let same : suc more + n ≡ suc (more + n) = omega arith in
    let last : sum_below f n ≤ sum_below f (more + n) + f (more + n) = omega (arith, front) in
    subst (λ (i : ℕ). sum_below f n ≤ sum_below f i) (sym same) last

pub grows_to : (f : ℕ → ℕ) (n m : ℕ) → n ≤ m → sum_below f n ≤ sum_below f m
grows_to f zero m less = omega arith
grows_to f (suc n) zero less = absurd (omega (arith, less))
grows_to f (suc n) (suc m) less = by (n == m) refl (λ low. grows_to f (suc n) m low)
  where
    by : (b : Bool) → (n == m) ≡ b → (suc n ≤ m → sum_below f (suc n) ≤ sum_below f m) → sum_below f (suc n) ≤ sum_below f (suc m)
    by true is rest = let all : sum_below f (suc n) ≤ sum_below f (suc n) = omega arith in
        subst (λ (i : ℕ). sum_below f (suc n) ≤ sum_below f (suc i)) (eqb-true n m is) all
    by false is rest =
        let apart : n ≢ m = λ same. false≢true (sym is ∙ eq-eqb n m same) in
        let front = rest (omega (arith, less, apart)) in omega (arith, front)

pub on_grows : (x : Inbound) (b c : ℕ) → b ≤ c → tunnels_on x b ≤ tunnels_on x c
on_grows x b c less = grows_to (λ s. one_if (takes_place (x.tunnels s).stage)) b c less

-- ONE IS BORN

-- one counts more by one, and the others no less
pub one_less : (f h : ℕ → ℕ) (l : ℕ) → ((k : ℕ) → k ≢ l → f k ≤ h k) → f l + 1 ≤ h l → (n : ℕ) → l < n
    → sum_below f n + 1 ≤ sum_below h n
one_less f h l each here zero less = absurd (omega (arith, less))
one_less f h l each here (suc n) less = by (n == l) refl (λ low. one_less f h l each here n low)
  where
    by : (b : Bool) → (n == l) ≡ b → (l < n → sum_below f n + 1 ≤ sum_below h n) → sum_below f (suc n) + 1 ≤ sum_below h (suc n)
    by true is rest =
        let same : n ≡ l = eqb-true n l is in
        let front = not_more h f n (λ k low. each k (λ (at : k ≡ l). omega (arith, low, at, same))) in
        let last : f n + 1 ≤ h n = subst (λ (j : ℕ). f j + 1 ≤ h j) (sym same) here in omega (arith, front, last)
    by false is rest =
        let apart : n ≢ l = λ at. false≢true (sym is ∙ eq-eqb n l at) in
        let front = rest (omega (arith, less, apart)) in
        let last = each n apart in omega (arith, front, last)

-- behind that there is room for it, where one more might be; and where none might there is none
pub born_within : (limit : ℕ) (f h : ℕ → ℕ → ℕ) (l : ℕ) → ((b k : ℕ) → k ≢ l → h b k ≤ f b k) → ((b : ℕ) → h b l ≤ f b l + 1)
    → IsFull false limit (λ b. sum_below (f b) b) → IsFull false (suc limit) (λ b. sum_below (h b) b)
born_within limit f h l each here room b =
    let more = one_more (f b) (h b) l (each b) (here b) b in let less = room b in omega (arith, more, less)

pub born_beyond : (limit : ℕ) (f h : ℕ → ℕ → ℕ) (l : ℕ) → ((b k : ℕ) → k ≢ l → f b k ≤ h b k) → ((b : ℕ) → f b l + 1 ≤ h b l)
    → ((b c k : ℕ) → b ≤ c → f b k ≤ f c k) → IsFull true limit (λ b. sum_below (f b) b) → IsFull true (suc limit) (λ b. sum_below (h b) b)
born_beyond limit f h l each here further full =
    let b = full.0 in
    let c = b + suc l in
    let some = full.1 in
    let same = not_more (f c) (f b) b (λ k low. further b c k (omega arith)) in
    let up = grows_to (f c) b c (omega arith) in
    let one = one_less (f c) (h c) l (each c) (here c) c (omega arith) in
    (c, omega (arith, some, same, up, one))

-- ONE IS CHANGED

pub changed_one : (f h : ℕ → ℕ) (l : ℕ) → ((k : ℕ) → k ≢ l → h k ≡ f k) → (n : ℕ) → l < n
    → sum_below h n + f l ≡ sum_below f n + h l
changed_one f h l same zero less = absurd (omega (arith, less))
changed_one f h l same (suc n) less = by (n == l) refl (λ low. changed_one f h l same n low)
  where
    by : (b : Bool) → (n == l) ≡ b → (l < n → sum_below h n + f l ≡ sum_below f n + h l)
        → sum_below h (suc n) + f l ≡ sum_below f (suc n) + h l
    by true is rest =
        let at : n ≡ l = eqb-true n l is in
        let apart : (k : ℕ) → k < n → k ≢ l = λ k low on. omega (arith, low, on, at) in
        let most = not_more f h n (λ k low. let one = same k (apart k low) in omega (arith, one)) in
        let least = not_more h f n (λ k low. let one = same k (apart k low) in omega (arith, one)) in
        let this : h n ≡ h l = ap h at in
        let was : f n ≡ f l = ap f at in omega (arith, most, least, this, was)
    by false is rest =
        let apart : n ≢ l = λ at. false≢true (sym is ∙ eq-eqb n l at) in
        let front = rest (omega (arith, less, apart)) in
        let last = same n apart in omega (arith, front, last)

-- behind a bound from which on none counts all are the same
pub no_more : (f : ℕ → ℕ) (n more : ℕ) → ((k : ℕ) → n ≤ k → f k ≡ 0) → sum_below f (more + n) ≡ sum_below f n
no_more f n zero none = let same : 0 + n ≡ n = omega arith in ap (λ (i : ℕ). sum_below f i) same
no_more f n (suc more) none =
    let front = no_more f n more none in
    let here = none (more + n) (omega arith) in
    let same : suc more + n ≡ suc (more + n) = omega arith in
    let last : sum_below f (more + n) + f (more + n) ≡ sum_below f n = omega (arith, front, here) in
    ap (λ (i : ℕ). sum_below f i) same ∙ last

pub most_below : (f : ℕ → ℕ) (n b : ℕ) → ((k : ℕ) → n ≤ k → f k ≡ 0) → sum_below f b ≤ sum_below f n
most_below f n b none =
    let up = grows f b n in
    let same = no_more f n b none in
    let turned : n + b ≡ b + n = omega arith in
    let at = ap (λ (i : ℕ). sum_below f i) turned in omega (arith, up, same, at)
