-- From which numbers on values may be in a class.
use Rattle.std.specs.Prelude.{◌≡◌, ℕ, ◌≤◌, ◌-◌, ◌^◌, ◌==◌, min, Bool, true, if◌then◌else◌}
use Rattle.hb_counted.specs.declared.classes.Classes.{Classes}
use Rattle.hb_counted.specs.declared.counts.Counts.{Counts}
use Rattle.hb_counted.specs.declared.starts.Starts.{Starts}

-- below a number none meets a test
abbrev pub IsStart : ℕ → (ℕ → Bool) → Type 0
IsStart start test = (n : ℕ) → test n ≡ true → start ≤ n

-- where each number is in these classes, none below the starts is
pub record AreStarts (starts : Starts) (at : ℕ → Classes) : Type 0 where
  pub due : IsStart starts.due (λ n. (at n).due)
  pub puts : IsStart starts.puts (λ n. (at n).puts)

-- ONE VALUE MOVES

-- the start of a class in which so many are now, and where one number alone may have changed, which now is in it or is not
abbrev pub lowered : (start count : ℕ) → (is : Bool) → (number : ℕ) → ℕ
lowered start count is number = if count == 0 then 2 ^ 32 - 1 else (if is then min start number else start)

abbrev pub all_lowered : Starts → Counts → (is : Classes) → (number : ℕ) → Starts
all_lowered starts counts is number = record {
  due = lowered starts.due counts.due is.due number;
  puts = lowered starts.puts counts.puts is.puts number;
}
