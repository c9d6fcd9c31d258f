-- What a trace tells of one link, entry by entry: whether it was born, opened, shut and closed.
use Rattle.std.proofs.Common.{◌≡◌, ℕ, ◌==◌, ◌||◌, ◌&&◌, Bool, true, false, not, cond, List, [], ◌∷◌, fold, refl, ap, ap₂, sym, ◌∙◌}
use Rattle.std.specs.List.{list_any}
use Rattle.hb_world.proofs.LifeLemmas.{or-true, or-false}
use Rattle.hb_world.specs.Trace.{is_birth_of, is_close_of, is_shut_of, was_born, was_closed, was_shut, lives}
use Rattle.hb_world.specs.declared.entry.Entry.{Entry}
use Rattle.hb_world.specs.declared.entry.Entry.TheVariants as e
use Rattle.hb_world.specs.declared.entry.Way.TheVariants as way
use Rattle.hb_ready.specs.Sight.{fresh, with_open, with_finish, with_read, with_write, with_look, with_end, awake, is_named, sight_behind, is_open}
use Rattle.hb_ready.specs.declared.link.Link.{Link}

pub record Look : Type 0 where
  pub born : Bool
  pub opened : Bool
  pub shut : Bool
  pub closed : Bool

-- nothing is told of it; it was dialled, and shut or not; it is open
abbrev pub unseen : Look
unseen = record { born = false; opened = false; shut = false; closed = false }

abbrev pub dialled : Bool → Look
dialled shut = record { born = true; opened = false; shut = shut; closed = false }

abbrev pub open_now : Bool → Look
open_now shut = record { born = true; opened = true; shut = shut; closed = false }

-- what an entry makes of it
abbrev pub bears : Bool → Look → Look
bears opens v = record v { born = true; opened = opens }

abbrev pub opens_it : Look → Look
opens_it v = record v { opened = true }

abbrev pub shuts : Look → Look
shuts v = record v { shut = true }

abbrev pub closes : Look → Look
closes v = record v { closed = true }

abbrev pub look_by : ℕ → Look → Entry → Look
look_by n v (e.Accepted k d) = cond (k == n) (bears true v) v
look_by n v (e.Dialled k to why) = cond (k == n) (bears false v) v
look_by n v (e.Opened k) = cond (k == n) (opens_it v) v
look_by n v (e.Shut k) = cond (k == n) (shuts v) v
look_by n v (e.Closed k why) = cond (k == n) (closes v) v
look_by n v _ = v

abbrev pub look : ℕ → List Entry → Look
look n trace = fold (look_by n) unseen trace

-- IT IS WHAT THE TRACE TELLS

same : (v : Bool) → v ≡ (v || false)
same v = sym (or-false v)

-- a field that an entry sets, and one that it leaves
sets : (b : Bool) (v : Bool) → cond b true v ≡ (v || b)
sets true v = sym (or-true v)
sets false v = same v

field : (f : Look → Bool) (b : Bool) (a v : Look) → f (cond b a v) ≡ cond b (f a) (f v)
field f true a v = refl
field f false a v = refl

leaves : (b : Bool) (v : Bool) → cond b v v ≡ v
leaves true v = refl
leaves false v = refl

born_by : (n : ℕ) (v : Look) (z : Entry) → (look_by n v z).born ≡ (v.born || is_birth_of n z)
born_by n v (e.Accepted k d) = field (λ w. w.born) (k == n) (bears true v) v ∙ sets (k == n) v.born
born_by n v (e.Dialled k to why) = field (λ w. w.born) (k == n) (bears false v) v ∙ sets (k == n) v.born
born_by n v (e.Opened k) = field (λ w. w.born) (k == n) (opens_it v) v ∙ leaves (k == n) v.born ∙ same v.born
born_by n v (e.Shut k) = field (λ w. w.born) (k == n) (shuts v) v ∙ leaves (k == n) v.born ∙ same v.born
born_by n v (e.Closed k why) = field (λ w. w.born) (k == n) (closes v) v ∙ leaves (k == n) v.born ∙ same v.born
born_by n v _ = same v.born

shut_by : (n : ℕ) (v : Look) (z : Entry) → (look_by n v z).shut ≡ (v.shut || is_shut_of n z)
shut_by n v (e.Accepted k d) = field (λ w. w.shut) (k == n) (bears true v) v ∙ leaves (k == n) v.shut ∙ same v.shut
shut_by n v (e.Dialled k to why) = field (λ w. w.shut) (k == n) (bears false v) v ∙ leaves (k == n) v.shut ∙ same v.shut
shut_by n v (e.Opened k) = field (λ w. w.shut) (k == n) (opens_it v) v ∙ leaves (k == n) v.shut ∙ same v.shut
shut_by n v (e.Shut k) = field (λ w. w.shut) (k == n) (shuts v) v ∙ sets (k == n) v.shut
shut_by n v (e.Closed k why) = field (λ w. w.shut) (k == n) (closes v) v ∙ leaves (k == n) v.shut ∙ same v.shut
shut_by n v _ = same v.shut

closed_by : (n : ℕ) (v : Look) (z : Entry) → (look_by n v z).closed ≡ (v.closed || is_close_of n z)
closed_by n v (e.Accepted k d) = field (λ w. w.closed) (k == n) (bears true v) v ∙ leaves (k == n) v.closed ∙ same v.closed
closed_by n v (e.Dialled k to why) = field (λ w. w.closed) (k == n) (bears false v) v ∙ leaves (k == n) v.closed ∙ same v.closed
closed_by n v (e.Opened k) = field (λ w. w.closed) (k == n) (opens_it v) v ∙ leaves (k == n) v.closed ∙ same v.closed
closed_by n v (e.Shut k) = field (λ w. w.closed) (k == n) (shuts v) v ∙ leaves (k == n) v.closed ∙ same v.closed
closed_by n v (e.Closed k why) = field (λ w. w.closed) (k == n) (closes v) v ∙ sets (k == n) v.closed
closed_by n v _ = same v.closed

or_assoc : (a b c : Bool) → ((a || b) || c) ≡ (a || (b || c))
or_assoc true b c = refl
or_assoc false b c = refl

-- a field that each entry sets where it is one of these is whether one of them was
any_so : (f : Look → Bool) (is : Entry → Bool) (n : ℕ) → ((v : Look) (z : Entry) → f (look_by n v z) ≡ (f v || is z)) → (v : Look)
    → (trace : List Entry) → f (fold (look_by n) v trace) ≡ (f v || list_any is trace)
any_so f is n by v [] = same (f v)
any_so f is n by v (z ∷ trace) =
    any_so f is n by (look_by n v z) trace ∙ ap (λ (b : Bool). b || list_any is trace) (by v z)
    ∙ or_assoc (f v) (is z) (list_any is trace)

-- a link of the sight is open where an entry leaves it so
open_if : (b : Bool) (a s : Link) (w v : Look) → w.opened ≡ a.is_open → v.opened ≡ s.is_open → (cond b w v).opened ≡ (cond b a s).is_open
open_if true a s w v new old = new
open_if false a s w v new old = old

keeps_open : (b : Bool) (a s : Link) (v : Look) → a.is_open ≡ s.is_open → v.opened ≡ s.is_open → v.opened ≡ (cond b a s).is_open
keeps_open true a s v same old = old ∙ sym same
keeps_open false a s v same old = old

open_by : (n : ℕ) (v : Look) (s : Link) (z : Entry) → v.opened ≡ s.is_open → (look_by n v z).opened ≡ (sight_behind n s z).is_open
open_by n v s (e.Accepted k d) is = open_if (k == n) (fresh true) s (bears true v) v refl is
open_by n v s (e.Dialled k to why) is = open_if (k == n) (fresh false) s (bears false v) v refl is
open_by n v s (e.Opened k) is = open_if (k == n) (with_open s) s (opens_it v) v refl is
open_by n v s (e.Shut k) is = open_if (k == n) s s (shuts v) v is is ∙ kept (k == n)
  where
    kept : (b : Bool) → (cond b s s).is_open ≡ s.is_open
    kept true = refl
    kept false = refl
open_by n v s (e.Closed k why) is = open_if (k == n) s s (closes v) v is is ∙ kept (k == n)
  where
    kept : (b : Bool) → (cond b s s).is_open ≡ s.is_open
    kept true = refl
    kept false = refl
open_by n v s (e.Came k bytes) is = keeps_open (k == n) (with_read false s) s v refl is
open_by n v s (e.Ended k) is = keeps_open (k == n) (with_end s) s v refl is
open_by n v s (e.Went k bytes) is = keeps_open (k == n) (with_write false s) s v refl is
open_by n v s (e.Balked (way.Finish k)) is = keeps_open (k == n) (with_finish true s) s v refl is
open_by n v s (e.Balked (way.Read k)) is = keeps_open (k == n) (with_read true s) s v refl is
open_by n v s (e.Balked (way.Write k)) is = keeps_open (k == n) (with_write true s) s v refl is
open_by n v s (e.Balked (way.Listen d to listening)) is = is
open_by n v s (e.Balked (way.Accept d)) is = is
open_by n v s (e.Balked (way.Look k)) is = keeps_open (k == n) (with_look true s) s v refl is
open_by n v s (e.Wait ready how) is = keeps_open (is_named n ready) (awake s) s v refl is
open_by n v s _ is = is

open_so : (n : ℕ) (v : Look) (s : Link) (trace : List Entry) → v.opened ≡ s.is_open
    → (fold (look_by n) v trace).opened ≡ (fold (sight_behind n) s trace).is_open
open_so n v s [] is = is
open_so n v s (z ∷ trace) is = open_so n (look_by n v z) (sight_behind n s z) trace (open_by n v s z is)

pub born_is_so : (n : ℕ) (trace : List Entry) → (look n trace).born ≡ was_born n trace
born_is_so n trace = any_so (λ v. v.born) (is_birth_of n) n (born_by n) unseen trace

pub shut_is_so : (n : ℕ) (trace : List Entry) → (look n trace).shut ≡ was_shut n trace
shut_is_so n trace = any_so (λ v. v.shut) (is_shut_of n) n (shut_by n) unseen trace

pub closed_is_so : (n : ℕ) (trace : List Entry) → (look n trace).closed ≡ was_closed n trace
closed_is_so n trace = any_so (λ v. v.closed) (is_close_of n) n (closed_by n) unseen trace

pub open_is_so : (n : ℕ) (trace : List Entry) → (look n trace).opened ≡ is_open n trace
open_is_so n trace = open_so n unseen (fresh false) trace refl

abbrev pub living : Look → Bool
living v = v.born && not v.closed

pub lives_is_so : (n : ℕ) (trace : List Entry) → living (look n trace) ≡ lives n trace
lives_is_so n trace = ap₂ (λ (a b : Bool). a && not b) (born_is_so n trace) (closed_is_so n trace)
