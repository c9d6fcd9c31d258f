-- The looks law: between two looks, which are waits and glances, few links are accepted and few reads give bytes, on all links together.
use Rattle.std.specs.Prelude.{◌≡◌, ◌≤◌, ◌<◌, ◌⊎◌, ℕ, ◌+◌, ◌-◌, ◌==◌, not, ◌&&◌, Bool, true, false, if◌then◌else◌, List, [], ◌∷◌, Result, Ok, Err, count_by}
use Rattle.std.specs.List.{fold}
use Rattle.hb_world.specs.declared.entry.Entry.{Entry}
use Rattle.hb_world.specs.declared.entry.Entry.TheVariants as e
use Rattle.hb_turns.specs.Woken.{IsQuiet}
use Rattle.hb_turns.specs.declared.round.Call.{Call}
use Rattle.hb_turns.specs.declared.round.Call.TheVariants as call
use Rattle.hb_turns.specs.declared.run.Records.{Records}

-- the most reads that give bytes, and accepts that give a link, between two looks: 15 behind which the next round comes without one, and
-- what that round gives: one on the link that goes first, one at each of three doors, and one on each of 64 links
abbrev pub most_unseen : ℕ
most_unseen = 83

-- a read gave bytes, or an accept a link
abbrev pub is_gain : Entry → Bool
is_gain (e.Came l bytes) = true
is_gain (e.Accepted l door) = true
is_gain _ = false

abbrev pub gains : List Entry → ℕ
gains trace = count_by is_gain trace

-- how many there were since the last look, behind one more entry
abbrev pub unseen_behind : ℕ → Entry → ℕ
unseen_behind n (e.Wait ready how) = 0
unseen_behind n (e.Came l bytes) = n + 1
unseen_behind n (e.Accepted l door) = n + 1
unseen_behind n _ = n

abbrev pub unseen : List Entry → ℕ
unseen trace = fold unseen_behind 0 trace

-- behind so many the entry may come
abbrev pub may_gain : ℕ → Entry → Bool
may_gain n x = if is_gain x then not (most_unseen - n == 0) else true

-- each of these entries may come, behind so many
abbrev pub all_looked : ℕ → List Entry → Bool
all_looked n [] = true
all_looked n (x ∷ xs) = may_gain n x && all_looked (unseen_behind n x) xs

abbrev pub LooksLaw : List Entry → Type 0
LooksLaw trace = all_looked 0 trace ≡ true

-- and so many at most are unseen
pub record Looks (n : ℕ) (trace : List Entry) : Type 0 where
  pub law : LooksLaw trace
  pub few : unseen trace ≤ n

-- where memory lacked the law alone is left
abbrev pub Looked : {A E : Type 0} → Result A E → ℕ → List Entry → Type 0
Looked (Ok x) n trace = Looks n trace
Looked (Err why) n trace = LooksLaw trace

-- No more is unseen than so many tries gave; these are fewer than 16, or nothing is to be tried, so that the next call is a wait
pub record Fits (n unseen : ℕ) (r : Records) : Type 0 where
  pub gave : n ≤ unseen
  pub few : (unseen < 16) ⊎ IsQuiet r

-- a try gives bytes or a link at most once, and not where nothing moved
abbrev pub gained : {E : Type 0} → Result Bool E → ℕ
gained (Ok moved) = if moved then 1 else 0
gained (Err why) = 1

-- how often a call does
abbrev pub gained_by : {E : Type 0} → Call → Result Bool E → ℕ
gained_by (call.Accept door) r = gained r
gained_by (call.Finish l) r = 0
gained_by (call.Read l) r = gained r
gained_by (call.Write l) r = 0
gained_by (call.Look l) r = 0
