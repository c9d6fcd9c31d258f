-- What is unseen since the last look.
use Rattle.std.proofs.Common.{◌≡◌, ◌⊎◌, ℕ, ◌+◌, ◌-◌, ◌^◌, ◌<◌, ◌≤◌, ◌==◌, min, Bool, true, false, ◌&&◌, not, if◌then◌else◌, List, [], ◌∷◌, ◌++◌, map, Option, Result, Ok, Err, IfOk, IfSome, refl, ap, sym, ◌∙◌, subst, inl, inr, arith, ne_eqb}
use Rattle.std.specs.List.{All, fold}
use Rattle.std.proofs.lemmas.List.Elements.{All-head, All-tail}
use Rattle.std.proofs.lemmas.List.Sums.{fold-append}
use Rattle.hb_base.specs.declared.cause.Cause.{Cause}
use Rattle.hb_base.specs.declared.note.Note.{Note}
use Rattle.hb_world.specs.Calls.{with_entries}
use Rattle.hb_world.specs.declared.entry.Entry.{Entry}
use Rattle.hb_world.specs.declared.entry.Entry.TheVariants as e
use Rattle.hb_world.specs.declared.entry.ReadyItem.{ReadyItem}
use Rattle.hb_world.specs.declared.entry.Woken.{Woken}
use Rattle.hb_turns.specs.Ends.{ClosesFor}
use Rattle.hb_turns.specs.Listens.{DoorAt, listen_at}
use Rattle.hb_turns.specs.Looks.{is_gain, gains, unseen_behind, unseen, may_gain, all_looked, LooksLaw, Looks, Looked, Fits}
use Rattle.hb_turns.specs.Reckons.{Adds, Begins, FailsAt, StopsAt}
use Rattle.hb_turns.specs.Shown.{Shown}
use Rattle.hb_turns.specs.Stands.{Lacks, Stands}
use Rattle.hb_turns.specs.Woken.{IsQuiet}
use Rattle.hb_turns.specs.declared.run.Records.{Records}
use Rattle.hb_turns.specs.declared.run.Run.{Run}
use Rattle.hb_turns.specs.declared.served.ServeEnd.{ServeEnd}
use Rattle.hb_turns.specs.declared.served.ServeEnd.TheVariants as ends
use Rattle.hb_turns.proofs.Counting.{count-cons}
use Rattle.hb_turns.proofs.Holding.{on, same, each}

both : (a b : Bool) → a ≡ true → b ≡ true → (a && b) ≡ true
both true true one other = refl
both false b one other = absurd cc
both true false one other = absurd cc

assoc : (a b c : Bool) → (a && (b && c)) ≡ ((a && b) && c)
assoc true b c = refl
assoc false b c = refl

rises : (n : ℕ) (x : Entry) → unseen_behind n x ≤ n + (if is_gain x then 1 else 0)
rises n (e.Wait ready how) = omega arith
rises n (e.Came l bytes) = omega arith
rises n (e.Accepted l door) = omega arith
rises n _ = omega arith

fits_at : (b : Bool) (n k : ℕ) → n + ((if b then 1 else 0) + k) ≤ 83 → (if b then not (83 - n == 0) else true) ≡ true
fits_at false n k fits = refl
fits_at true n k fits = ap not (ne_eqb (83 - n) 0 (λ none. omega (arith, none, fits)))

gains_none : (b : Bool) (n k : ℕ) → (if b then 1 else 0) + k ≤ 0 → (if b then not (83 - n == 0) else true) ≡ true
gains_none false n k none = refl
gains_none true n k none = absurd (omega (arith, none))

-- so few that the law allows them
few_looked : (n : ℕ) (more : List Entry) → n + gains more ≤ 83
    → (all_looked n more ≡ true) × (fold unseen_behind n more ≤ n + gains more)
few_looked n [] fits = (refl, omega arith)
few_looked n (x ∷ xs) fits =
    let grown = rises n x in
    let split : n + ((if is_gain x then 1 else 0) + gains xs) ≤ 83 = subst (λ (k : ℕ). n + k ≤ 83) (count-cons is_gain x xs) fits in
    let rest = few_looked (unseen_behind n x) xs (omega (arith, grown, split)) in
    let low = rest.1 in (
      both _ _ (fits_at (is_gain x) n (gains xs) split) rest.0,
      subst (λ (k : ℕ). fold unseen_behind (unseen_behind n x) xs ≤ n + k) (sym (count-cons is_gain x xs)) (omega (arith, low, grown)),
    )

-- or none
none_looked : (n : ℕ) (more : List Entry) → gains more ≤ 0 → (all_looked n more ≡ true) × (fold unseen_behind n more ≤ n)
none_looked n [] none = (refl, omega arith)
none_looked n (x ∷ xs) none =
    let grown = rises n x in
    let split : (if is_gain x then 1 else 0) + gains xs ≤ 0 = subst (λ (k : ℕ). k ≤ 0) (count-cons is_gain x xs) none in
    let rest = none_looked (unseen_behind n x) xs (omega (arith, split)) in
    let low = rest.1 in (both _ _ (gains_none (is_gain x) n (gains xs) split) rest.0, omega (arith, low, grown, split))

looked-append : (n : ℕ) (xs ys : List Entry) → all_looked n (xs ++ ys) ≡ (all_looked n xs && all_looked (fold unseen_behind n xs) ys)
looked-append n [] ys = refl
looked-append n (x ∷ xs) ys =
    ap (λ (b : Bool). may_gain n x && b) (looked-append (unseen_behind n x) xs ys) ∙ assoc (may_gain n x) _ _

-- entries that may come stand at the end
looks_more : (n m : ℕ) (trace more : List Entry) → all_looked (unseen trace) more ≡ true → fold unseen_behind (unseen trace) more ≤ m
    → Looks n trace → Looks m (trace ++ more)
looks_more n m trace more may low l = record {
  law = looked-append 0 trace more ∙ both _ _ l.law may;
  few = subst (λ (k : ℕ). k ≤ m) (sym (fold-append unseen_behind 0 trace more)) low;
}

pub adds_look : {b : Bool} (n k : ℕ) (before behind : Option (List Entry)) → n + k ≤ 83 → Adds b k before behind
    → IfSome before (Looks n) → IfSome behind (Looks (n + k))
adds_look n k before behind within adds =
    on (Looks n) (Looks (n + k)) adds.more before behind adds.grows
    (λ trace l.
    let few = l.few in
    let most = adds.few in
    let fit = few_looked (unseen trace) adds.more (omega (arith, few, most, within)) in
    let low = fit.1 in
    looks_more n (n + k) trace adds.more fit.0 (omega (arith, low, few, most)) l)

pub carry_looks : {b : Bool} (n : ℕ) (before behind : Option (List Entry)) → Adds b 0 before behind → IfSome before (Looks n)
    → IfSome behind (Looks n)
carry_looks n before behind adds =
    on (Looks n) (Looks n) adds.more before behind adds.grows
    (λ trace l.
    let few = l.few in
    let fit = none_looked (unseen trace) adds.more adds.few in
    let low = fit.1 in
    looks_more n n trace adds.more fit.0 (omega (arith, low, few)) l)

-- a round of so many tries that moved something
pub round_look : {b : Bool} (n k u : ℕ) (r : Records) (before behind : Option (List Entry)) → Fits n u r → (IsQuiet r → ⊥) → k ≤ 68
    → Adds b k before behind → IfSome before (Looks n) → IfSome behind (Looks (n + k))
round_look n k u r before behind fits work most adds = by fits.few
  where
    by : (u < 16) ⊎ IsQuiet r → IfSome before (Looks n) → IfSome behind (Looks (n + k))
    by (inr quiet) = absurd (work quiet)
    by (inl fewer) = let gave = fits.gave in adds_look n k before behind (omega (arith, gave, fewer, most)) adds

-- behind it no more is unseen than was counted
pub round_counts : (n k u v : ℕ) (r : Records) → Fits n u r → (IsQuiet r → ⊥) → k ≤ 68 → v ≡ min (u + k) (2 ^ 64 - 1) → n + k ≤ v
round_counts n k u v r fits work most is = by fits.few
  where
    by : (u < 16) ⊎ IsQuiet r → n + k ≤ v
    by (inr quiet) = absurd (work quiet)
    by (inl fewer) = let gave = fits.gave in omega (arith, gave, fewer, most, is)

-- nothing is unseen
pub none_fits : (r : Records) → Fits 0 0 r
none_fits r = record { gave = omega arith; few = inl (omega arith) }

-- a look
pub look_on : (n : ℕ) (ready : List ReadyItem) (how : Woken) (before behind : Option (List Entry))
    → behind ≡ with_entries (e.Wait ready how ∷ []) before → IfSome before (Looks n) → IfSome behind (Looks 0)
look_on n ready how before behind adds =
    on (Looks n) (Looks 0) (e.Wait ready how ∷ []) before behind adds
    (λ trace l. looks_more n 0 trace (e.Wait ready how ∷ []) refl (omega arith) l)

pub look_ticks : (n : ℕ) (ready : List ReadyItem) (how : Woken) (before behind : Option (List Entry))
    → behind ≡ with_entries (e.Wait ready how ∷ e.Tick ∷ []) before → IfSome before (Looks n) → IfSome behind (Looks 0)
look_ticks n ready how before behind adds =
    on (Looks n) (Looks 0) (e.Wait ready how ∷ e.Tick ∷ []) before behind adds
    (λ trace l. looks_more n 0 trace (e.Wait ready how ∷ e.Tick ∷ []) refl (omega arith) l)

-- no entry was told
pub unlooked : (n : ℕ) (before behind : Option (List Entry)) → behind ≡ with_entries [] before → IfSome before (Looks n)
    → IfSome behind LooksLaw
unlooked n before behind adds = same (Looks n) LooksLaw before behind adds (λ trace l. l.law)

pub looks_law : (n : ℕ) (told : Option (List Entry)) → IfSome told (Looks n) → IfSome told LooksLaw
looks_law n told = each (Looks n) LooksLaw told (λ trace l. l.law)

pub lacked_looks : {A E : Type 0} (r : Result A E) (n : ℕ) (told : Option (List Entry)) → IfOk r (λ x. ⊥) → IfSome told (Looks n)
    → IfSome told (Looked r n)
lacked_looks (Ok x) n told none had = absurd none
lacked_looks (Err why) n told none had = looks_law n told had

-- whatever a turn answered, the law is left
pub looked_law : {A E : Type 0} (r : Result A E) (n : ℕ) (told : Option (List Entry)) → IfSome told (Looked r n) → IfSome told LooksLaw
looked_law (Ok x) n told had = looks_law n told had
looked_law (Err why) n told had = had

pub looked_on : {A E : Type 0} (r : Result A E) (x : A) (n : ℕ) (told : Option (List Entry)) → r ≡ Ok x → IfSome told (Looked r n)
    → IfSome told (Looks n)
looked_on {A} {E} r x n told is had = subst (λ (s : Result A E). IfSome told (Looked s n)) is had

-- links were closed
close_gains : (cause : Cause) (x : Entry) → ClosesFor cause x → is_gain x ≡ false
close_gains cause (e.Came l bytes) closes = absurd closes
close_gains cause (e.Accepted l door) closes = absurd closes
close_gains cause _ closes = refl

closes_gains : (cause : Cause) (more : List Entry) → All (ClosesFor cause) more → gains more ≤ 0
closes_gains cause [] all = omega arith
closes_gains cause (x ∷ xs) all =
    let one = close_gains cause x (All-head (ClosesFor cause) x xs all) in
    let rest = closes_gains cause xs (All-tail (ClosesFor cause) x xs all) in
    subst (λ (k : ℕ). k ≤ 0) (sym (count-cons is_gain x xs)) (rw one (omega (arith, rest)))

pub closed_looks : (cause : Cause) (trace more : List Entry) → All (ClosesFor cause) more → LooksLaw trace → LooksLaw (trace ++ more)
closed_looks cause trace more all law =
    looked-append 0 trace more ∙ both _ _ law (none_looked (unseen trace) more (closes_gains cause more all)).0

-- listens
listen_gains : (b : Bool) (made : List DoorAt) → gains (map (listen_at b) made) ≤ 0
listen_gains b [] = omega arith
listen_gains b (d ∷ made) =
    let rest = listen_gains b made in
    subst (λ (k : ℕ). k ≤ 0) (sym (count-cons is_gain (listen_at b d) (map (listen_at b) made))) (omega (arith, rest))

listens_look : (made : List DoorAt) → Looks 0 (map (listen_at true) made)
listens_look made =
    let fit = none_looked 0 (map (listen_at true) made) (listen_gains true made) in record { law = fit.0; few = fit.1 }

module _ {N : Type 0} (stands : List Note → N → List Entry → Type 0) (shown : N → Shown) where
  pub begins_look : (run : Run N) (doors : List DoorAt) (told : Option (List Entry)) → IfSome told (Begins stands shown run doors)
      → IfSome told (Looks 0)
  begins_look run doors told =
      each (Begins stands shown run doors) (Looks 0) told
      (λ trace b. subst (λ (es : List Entry). Looks 0 es) (sym b.listens) (listens_look doors))

  pub fails_look : (end : ServeEnd) (run : Run N) (doors : List DoorAt) (told : Option (List Entry))
      → IfSome told (λ trace. (end ≡ ends.WorldFault) × Stands stands shown run trace × FailsAt doors trace) → IfSome told LooksLaw
  fails_look end run doors told =
      each (λ trace. (end ≡ ends.WorldFault) × Stands stands shown run trace × FailsAt doors trace) LooksLaw told
      (λ trace had. let f = had.2 in
      subst (λ (es : List Entry). LooksLaw es) (sym f.trace_is)
      (looked-append 0 (map (listen_at true) f.made) (listen_at false f.at ∷ []) ∙ both _ _ (listens_look f.made).law refl))

  pub stops_look : (run : Run N) (doors : List DoorAt) (told : Option (List Entry))
      → IfSome told (λ trace. Lacks stands shown run.records trace × StopsAt doors trace) → IfSome told LooksLaw
  stops_look run doors told =
      each (λ trace. Lacks stands shown run.records trace × StopsAt doors trace) LooksLaw told
      (λ trace had. let s = had.1 in
      subst (λ (es : List Entry). LooksLaw es) (sym s.trace_is) ((listens_look s.made).law))
