-- A command takes what items spell exactly where no item comes twice and the wanted ones are there.
use Rattle.std.proofs.Common.{◌≡◌, ◌&&◌, ◌||◌, not, ℕ, Bool, true, false, List, [], ◌∷◌, map, flat_map, refl, sym, ap, ap₂, ◌∙◌}
use Rattle.std.specs.List.{list_all}
use Rattle.clap.specs.Simple.{index_after}
use Rattle.clap.specs.Takes.{default_passes, is_given, level_passes}
use Rattle.clap.specs.Walk.{Row, Text, Walk, finished, nothing_held}
use Rattle.clap.proofs.WalkLemmas.{both}
use Rattle.hb_options.specs.Items.{Part, option, flag, place, name_of, is_wanted, rule, Command, Item, spelled, fits, is_said, each_once, has_wanted, is_proper}
use Rattle.hb_options.proofs.Rules.{rules_from}
use Rattle.hb_options.proofs.Steps.{level, and_true, between, rows, settles}
use Rattle.hb_options.proofs.Walks.{all_pass, and_assoc, passing, walk_on, ended, items_end}
use Rattle.hb_options.proofs.Rows.{row_for, all_pass_once, all_had, added_rows, given_said, given_finished}

pub defaults_pass : (parts : List Part) (i : ℕ) → list_all default_passes (rules_from i parts) ≡ true
defaults_pass [] i = refl
defaults_pass (option name wanted ∷ parts) i = defaults_pass parts i
defaults_pass (flag name ∷ parts) i = defaults_pass parts i
defaults_pass (place name wanted ∷ parts) i = defaults_pass parts (index_after i (rule (place name wanted)))

pub all_free : (parts : List Part) (i : ℕ) → list_all (λ a. a.is_free) (rules_from i parts) ≡ true
all_free [] i = refl
all_free (option name wanted ∷ parts) i = all_free parts i
all_free (flag name ∷ parts) i = all_free parts i
all_free (place name wanted ∷ parts) i = all_free parts (index_after i (rule (place name wanted)))

required_is : (parts : List Part) (i : ℕ) (rs : List Row)
    → list_all (λ a. not a.required || is_given a.id rs) (rules_from i parts)
    ≡ list_all (λ p. not (is_wanted p) || is_given (name_of p) rs) parts
required_is [] i rs = refl
required_is (option name wanted ∷ parts) i rs = ap (λ (b : Bool). (not wanted || is_given name rs) && b) (required_is parts i rs)
required_is (flag name ∷ parts) i rs = required_is parts i rs
required_is (place name wanted ∷ parts) i rs =
    ap (λ (b : Bool). (not wanted || is_given name rs) && b) (required_is parts (index_after i (rule (place name wanted))) rs)

wanted_is : (parts : List Part) (rs : List Row) (items : List Item) → ((id : Text) → is_given id rs ≡ is_said id items)
    → list_all (λ p. not (is_wanted p) || is_given (name_of p) rs) parts ≡ has_wanted parts items
wanted_is [] rs items same = refl
wanted_is (p ∷ parts) rs items same = ap₂ (λ (a b : Bool). (not (is_wanted p) || a) && b) (same (name_of p)) (wanted_is parts rs items same)

module _ (command : Command) (proper : is_proper command.parts ≡ true) where
  -- the walk passes, and so does the use that is pending behind it
  abbrev pub passes_on : Walk → List Text → Bool
  passes_on w words = passing command proper w words && settles command proper (walk_on command proper w words).held

  abbrev starts : Walk
  starts = between command proper 0 nothing_held

  -- the wanted ones are there
  abbrev has_required : List Text → Bool
  has_required words =
      list_all (λ a. not a.required || is_given a.id (finished (rules_from 1 command.parts) (walk_on command proper starts words).held)) (rules_from 1 command.parts)

  level_is : (words : List Text) → level_passes (level command) [] nothing_held words false ≡ (passes_on starts words && has_required words)
  level_is words =
      ap₂ (λ (d f : Bool). passing command proper starts words && (settles command proper (walk_on command proper starts words).held && (d && (f && has_required words))))
      (defaults_pass command.parts 1) (all_free command.parts 1)
      ∙ sym (and_assoc (passing command proper starts words) _ _)

  pub level_passes_on : (words : List Text) → level_passes (level command) [] nothing_held words false ≡ true
      → passes_on starts words ≡ true
  level_passes_on words passes = (both (passes_on starts words) _ (sym (level_is words) ∙ passes)).0

  module _ (items : List Item) (fit : fits command.parts 0 items ≡ true) where
    once_is : all_pass items [] ≡ each_once items
    once_is = all_pass_once items [] ∙ ap (λ (b : Bool). each_once items && b) (all_had items) ∙ and_true (each_once items)

    -- the rows are those of the items
    pub level_rows : each_once items ≡ true → rows command proper (ended command proper 0 nothing_held items) ≡ map row_for items
    level_rows once = (items_end command proper items 0 nothing_held fit).1 ∙ added_rows items [] (once_is ∙ once)

    wanted_there : each_once items ≡ true → has_required (flat_map spelled items) ≡ has_wanted command.parts items
    wanted_there once =
        required_is command.parts 1 (finished (rules_from 1 command.parts) (ended command proper 0 nothing_held items))
        ∙ wanted_is command.parts (finished (rules_from 1 command.parts) (ended command proper 0 nothing_held items)) items (λ id.
        given_finished id command.parts (rows command proper (ended command proper 0 nothing_held items))
        ∙ ap (λ (rs : List Row). is_given id rs) (level_rows once) ∙ given_said id items)

    pub level_takes : level_passes (level command) [] nothing_held (flat_map spelled items) false
        ≡ (each_once items && has_wanted command.parts items)
    level_takes =
        level_is (flat_map spelled items)
        ∙ ap (λ (b : Bool). b && has_required (flat_map spelled items)) ((items_end command proper items 0 nothing_held fit).0 ∙ once_is)
        ∙ when_once (each_once items) refl
      where
        when_once : (b : Bool) → each_once items ≡ b → (b && has_required (flat_map spelled items)) ≡ (b && has_wanted command.parts items)
        when_once true once = wanted_there once
        when_once false once = refl
