-- What the words of one item do to clap's walk.
use Rattle.std.proofs.Common.{◌≡◌, ◌+◌, ◌&&◌, ◌||◌, ℕ, suc, min, not, Bool, true, false, List, [], ◌∷◌, Some, None, codes, refl, ap, ◌∙◌, arith}
use Rattle.clap.specs.Lexer.{usize_max}
use Rattle.clap.specs.declared.builder.value_parser.Reading.TheVariants.{AsWritten}
use Rattle.clap.specs.declared.parser.matches.ValueSource.TheVariants.{CommandLine}
use Rattle.clap.specs.Walk.{Held, Row, Rule, Text, Walk, idle, option as waits_for, arg_by_long, has_row, is_pending, settled, walked, with_values, without}
use Rattle.clap.specs.Simple.{Shape}
use Rattle.clap.specs.Takes.{settle_passes, turn_passes}
use Rattle.hb_options.specs.Items.{option, flag, place, Command, shape, is_proper}
use Rattle.hb_options.proofs.Rules.{rules_from, filled_at, HasId, FindsPlace, same_text, counted}
use Rattle.hb_options.proofs.Words.{Reads, IsPlainWord}

-- a command as it is built below the program
abbrev pub level : Command → Shape
level c = record (shape c) {
  rules = rules_from 1 c.parts;
  no_binary_name = true;
  disable_help_flag = true;
  disable_help_subcommand = true;
  is_built = true;
}

-- the rows behind one more use, of a name that may have been used
abbrev pub added : Text → Text → List Row → List Row
added name value rows = with_values name AsWritten CommandLine (value ∷ []) (without name rows)

pub and_false : (b : Bool) → (b && false) ≡ false
and_false true = refl
and_false false = refl

pub and_true : (b : Bool) → (b && true) ≡ b
and_true true = refl
and_true false = refl

-- a use passes where its name wasn't used before
pub fresh : (b : Bool) → ((not b || false) && true) ≡ not b
fresh true = refl
fresh false = refl

module _ (command : Command) (proper : is_proper command.parts ≡ true) where
  abbrev pub c : List Rule
  c = rules_from 1 command.parts

  -- where the walk stands between two items, when k places are filled
  abbrev pub between : ℕ → Held → Walk
  between k h = record { held = h; waiting = idle; position = suc k; is_trailing = false; stopped = None }

  abbrev pub asked : Text → Held → Held
  asked name h = record (settled c h) { pending = Some (name, []) }

  -- and where it stands behind the word of an option
  abbrev pub asks : Text → ℕ → Held → Walk
  asks name k h = record { held = asked name h; waiting = waits_for name; position = suc k; is_trailing = false; stopped = None }

  -- a value that was read is used only by what comes next; until then it is pending
  abbrev pub pends : Text → Text → Held → Held
  pends name value h = record (settled c h) { pending = Some (name, value ∷ []) }

  abbrev pub made : Text → Text → Held → Held
  made name value h = record h { rows = added name value (settled c h).rows; pending = None }

  abbrev pub rows : Held → List Row
  rows h = (settled c h).rows

  abbrev pub settles : Held → Bool
  settles h = settle_passes c false h

  abbrev pub is_fresh : Text → Held → Bool
  is_fresh name h = not (has_row name (rows h))

  -- from one walk to the next by a word, which passes by a test
  abbrev pub Steps : Walk → Text → Walk → Bool → Type 0
  Steps w word after passes = (walked c [] w word ≡ after) × (turn_passes (level command) [] w word ≡ passes)

  pub option_step : (name : Text) (wanted : Bool) (k : ℕ) (h : Held) (word : Text) → Reads word name None
      → arg_by_long c name ≡ Some (filled_at 0 (option name wanted)) → Steps (between k h) word (asks name k h) (settles h)
  unfolding walked
  option_step name wanted k h word reads found = (rw (reads.1, reads.0, found) refl, rw (reads.1, reads.0, found) (and_true (settles h)))

  pub joined_step : (name value : Text) (wanted : Bool) (k : ℕ) (h : Held) (word : Text) → Reads word name (Some value)
      → arg_by_long c name ≡ Some (filled_at 0 (option name wanted))
      → Steps (between k h) word (between k (made name value h)) (settles h && is_fresh name h)
  unfolding walked
  joined_step name value wanted k h word reads found = (
    rw (reads.1, reads.0, found) refl,
    rw (reads.1, reads.0, found) (and_true _
        ∙ ap (λ b. settles h && b) (fresh (has_row name (rows h)))),
  )

  pub flag_step : (name : Text) (k : ℕ) (h : Held) (word : Text) → Reads word name None
      → arg_by_long c name ≡ Some (filled_at 0 (flag name))
      → Steps (between k h) word (between k (made name (codes "true") h)) (settles h && is_fresh name h)
  unfolding walked
  flag_step name k h word reads found = (
    rw (reads.1, reads.0, found) refl,
    rw (reads.1, reads.0, found) (and_true _
        ∙ ap (λ b. settles h && b) (fresh (has_row name (rows h)))),
  )

  pub value_step : (name value : Text) (wanted : Bool) (k : ℕ) (h : Held) → IsPlainWord value
      → HasId 1 command.parts name (option name wanted)
      → Steps (asks name k h) value (between k (pends name value h)) true
  unfolding walked
  value_step name value wanted k h plain id =
      (rw (plain.2, plain.0, plain.1, id.1, same_text name) refl, rw (plain.2, plain.0, plain.1) refl)

  pub place_step : (name value : Text) (k : ℕ) (h : Held) → IsPlainWord value → FindsPlace command.parts proper k name
      → Steps (between k h) value (between (suc k) (pends name value h)) (settles h)
  unfolding walked
  place_step name value k h plain found =
      let next : min (suc k + 1) usize_max ≡ suc (suc k) = omega (arith, found.3, counted command.parts proper) in (
        rw (plain.2, plain.0, plain.1, found.1, and_false (is_pending (filled_at (suc k) (place name found.0)) h.pending), next) refl,
        rw (plain.2, plain.0, plain.1, found.1, and_false (is_pending (filled_at (suc k) (place name found.0)) h.pending)) refl,
      )
