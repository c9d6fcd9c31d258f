-- A program takes the words of its commands.
use Rattle.std.proofs.Common.{◌≡◌, ◌&&◌, ◌||◌, not, ℕ, Bool, cond, true, false, true≢false, List, [], ◌∷◌, ◌++◌, map, fold, Option, Some, None, option_map, option_and_then, is_some, slice_get, find, codes, bytes_eq, flat_map, append_assoc, append-nil, refl, sym, ap, ap₂, ◌∙◌}
use Rattle.std.specs.List.{list_all, list_any}
use Rattle.std.specs.Option.{option_map_or}
use Rattle.std.proofs.lemmas.Slice.Eq.{bytes_eq-Decides}
use Rattle.clap.specs.Faults.{built_fault, entered_fault, has_free_rules, level_fault}
use Rattle.clap.specs.Lexer.{long_of}
use Rattle.clap.specs.Simple.{App, Shape, built, built_leaf, entered, index_after, inherited, is_ready_leaf, is_simple, is_simple_leaf, label_of, names_of, new_shape, rows_at, subcommand_of}
use Rattle.clap.specs.Takes.{built_takes, entered_passes, is_valid, level_passes, settle_passes, takes, turn_passes, walk_passes}
use Rattle.clap.specs.Walk.{Names, Row, Rule, Text, Walk, answers_to, finished, first_of, idle, is_early_multiple, nothing_held, one_of, row_text, rows_after, subcommand_met, walk, walk_from, walked}
use Rattle.clap.proofs.WalkLemmas.{both}
use Rattle.hb_options.specs.Items.{Part, option, flag, place, name_of, is_flag, rule, Command, shape, app, command_named, part_named, Item, item_value, spelled, is_value, fits, each_once, has_wanted, accepts, unsaid_value, value_of, is_proper, are_proper, no_dash_behind, is_clean, Spells}
use Rattle.hb_options.specs.Taken.{AreSimple, TakesSpelledItems, AreSpelledCleanly, TakesSpelledItemsAlone, SpellsTakenWords, GivesItemsValues}
use Rattle.hb_options.proofs.Rules.{rules_from, filled_at, is_named_kind, kind_found, kind_missing, part_found, once}
use Rattle.hb_options.proofs.Words.{reads_plain, not_dashes}
use Rattle.hb_options.proofs.Spelling.{value_clean, items_clean}
use Rattle.hb_options.proofs.Steps.{level}
use Rattle.hb_options.proofs.Rows.{row_for, row_named, item_named, row_of_item, or_unsaid, found_finished}
use Rattle.hb_options.proofs.Level.{defaults_pass, all_free, level_rows, level_takes}
use Rattle.hb_options.proofs.Reverse.{level_spells}
use Rattle.hb_options.proofs.Faults.{below_ok, level_ok}

-- ---- the program as it is built

abbrev top : Text → Shape
top program = record (new_shape program) {
  is_leaf = false;
  no_binary_name = true;
  disable_help_flag = true;
  disable_help_subcommand = true;
  subcommand_required = true;
  is_built = true;
}

abbrev made : Text → List Command → App
made program commands = record { top = top program; subs = map level commands }

subs_built : (program : Text) (commands : List Command)
    → map built_leaf (map (inherited (top program)) (map shape commands)) ≡ map level commands
subs_built program [] = refl
subs_built program (c ∷ commands) = ap (λ (l : List Shape). level c ∷ l) (subs_built program commands)

built_is : (program : Text) (commands : List Command) → built (app program commands) ≡ made program commands
built_is program commands = ap (λ (subs : List Shape). record { top = top program; subs = subs }) (subs_built program commands)

-- ---- it is simple, and no argument has a rule on another

simple_rules : (parts : List Part) → list_all (λ a. a.is_simple) (map rule parts) ≡ true
simple_rules [] = refl
simple_rules (option name wanted ∷ parts) = simple_rules parts
simple_rules (flag name ∷ parts) = simple_rules parts
simple_rules (place name wanted ∷ parts) = simple_rules parts

simple_shapes : (commands : List Command) → list_all is_simple_leaf (map shape commands) ≡ true
simple_shapes [] = refl
simple_shapes (c ∷ commands) = ap₂ (λ (a b : Bool). a && b) (simple_rules c.parts) (simple_shapes commands)

-- what a test says of each filled rule
each_rule : (test : Rule → Bool) → ((j : ℕ) (p : Part) → test (filled_at j p) ≡ true) → (parts : List Part) (i : ℕ)
    → list_all test (rules_from i parts) ≡ true
each_rule test holds [] i = refl
each_rule test holds (p ∷ parts) i = ap₂ (λ (a b : Bool). a && b) (holds i p) (each_rule test holds parts (index_after i (rule p)))

is_simple_rule : (j : ℕ) (p : Part) → (filled_at j p).is_simple ≡ true
is_simple_rule j (option name wanted) = refl
is_simple_rule j (flag name) = refl
is_simple_rule j (place name wanted) = refl

is_free_rule : (j : ℕ) (p : Part) → (filled_at j p).is_free ≡ true
is_free_rule j (option name wanted) = refl
is_free_rule j (flag name) = refl
is_free_rule j (place name wanted) = refl

none_early : (n : ℕ) (parts : List Part) (i : ℕ) → list_any (is_early_multiple n) (rules_from i parts) ≡ false
none_early n [] i = refl
none_early n (option name wanted ∷ parts) i = none_early n parts i
none_early n (flag name ∷ parts) i = none_early n parts i
none_early n (place name wanted ∷ parts) i = none_early n parts (index_after i (rule (place name wanted)))

ready_leaves : (commands : List Command) → list_all is_ready_leaf (map level commands) ≡ true
ready_leaves [] = refl
ready_leaves (c ∷ commands) =
    ap₂ (λ (a b : Bool). a && b)
    (ap₂ (λ (a b : Bool). a && b) (each_rule (λ a. a.is_simple) is_simple_rule c.parts 1) (ap not (none_early _ c.parts 1)))
    (ready_leaves commands)

free_leaves : (commands : List Command) → list_all has_free_rules (map level commands) ≡ true
free_leaves [] = refl
free_leaves (c ∷ commands) = ap₂ (λ (a b : Bool). a && b) (each_rule (λ a. a.is_free) is_free_rule c.parts 1) (free_leaves commands)

pub simple_app : (program : Text) (commands : List Command) → is_simple (app program commands) ≡ true
simple_app program commands =
    ap₂ (λ (a b : Bool). a && b) (simple_shapes commands)
    (ap (λ (subs : List Shape). list_all is_ready_leaf subs) (subs_built program commands) ∙ ready_leaves commands)

pub are_simple : AreSimple
are_simple program commands =
    ap₂ (λ (a b : Bool). a && b) (simple_app program commands)
    (ap (λ (subs : List Shape). list_all has_free_rules subs) (subs_built program commands) ∙ free_leaves commands)

-- ---- the command that a word names

abbrev labels : List Command → Names
labels commands = map label_of (map level commands)

met_is : (commands : List Command) (word : Text)
    → subcommand_met (labels commands) idle word ≡ option_map (λ c. c.name) (command_named commands word)
met_is [] word = refl
met_is (c ∷ commands) word = step (bytes_eq c.name word) (met_is commands word) where
  step : (b : Bool) → option_map (λ (p : Text × List Text). p.0) (find (answers_to word) (labels commands))
      ≡ option_map (λ (d : Command). d.name) (command_named commands word)
      → option_map (λ (p : Text × List Text). p.0) (cond (b || false) (Some (c.name, [])) (find (answers_to word) (labels commands)))
      ≡ option_map (λ (d : Command). d.name) (cond b (Some c) (command_named commands word))
  step true e = refl
  step false e = e

level_is : (commands : List Command) (name : Text)
    → find (λ s. answers_to name (label_of s)) (map level commands) ≡ option_map level (command_named commands name)
level_is [] name = refl
level_is (c ∷ commands) name = step (bytes_eq c.name name) (level_is commands name) where
  step : (b : Bool) → find (λ s. answers_to name (label_of s)) (map level commands) ≡ option_map level (command_named commands name)
      → cond (b || false) (Some (level c)) (find (λ s. answers_to name (label_of s)) (map level commands))
      ≡ option_map level (cond b (Some c) (command_named commands name))
  step true e = refl
  step false e = e

-- a command that is found has the name, and is proper where all are
pub found_command : (commands : List Command) (word : Text) (c : Command) → are_proper commands ≡ true
    → command_named commands word ≡ Some c
    → (c.name ≡ word) × (is_proper c.parts ≡ true) × (is_value c.name ≡ true)
found_command [] word c proper is = cc
found_command (d ∷ commands) word c proper is = step (bytes_eq d.name word) refl is (found_command commands word c) where
  step : (b : Bool) → bytes_eq d.name word ≡ b → cond b (Some d) (command_named commands word) ≡ Some c
      → (are_proper commands ≡ true → command_named commands word ≡ Some c → (c.name ≡ word) × (is_proper c.parts ≡ true)
      × (is_value c.name ≡ true))
      → (c.name ≡ word) × (is_proper c.parts ≡ true) × (is_value c.name ≡ true)
  step true same here next =
      let e : d ≡ c = cc in
      let here_proper = both (is_value d.name && is_proper d.parts) _ proper in (
        ap (λ (x : Command). x.name) (sym e) ∙ (bytes_eq-Decides d.name word).0 same,
        ap (λ (x : Command). is_proper x.parts) (sym e) ∙ (both (is_value d.name) _ here_proper.0).1,
        ap (λ (x : Command). is_value x.name) (sym e) ∙ (both (is_value d.name) _ here_proper.0).0,
      )
  step false same here next = next (both (is_value d.name && is_proper d.parts) _ proper).1 here

-- ---- the walk behind a command's name only collects

abbrev halted : Text × List Text → Walk
halted p = record (walk_from nothing_held) { stopped = Some p }

halted_walk : (names : Names) (name : Text) (so_far words : List Text)
    → fold (walked [] names) (halted (name, so_far)) words ≡ halted (name, so_far ++ words)
unfolding walked
halted_walk names name so_far [] = ap (λ (l : List Text). halted (name, l)) (sym (append-nil so_far))
halted_walk names name so_far (word ∷ words) =
    halted_walk names name (so_far ++ word ∷ []) words ∙ ap (λ (l : List Text). halted (name, l)) (append_assoc so_far (word ∷ []) words)

halted_passes : (s : Shape) (names : Names) (name : Text) (so_far words : List Text) → s.rules ≡ []
    → walk_passes s names (halted (name, so_far)) words ≡ true
unfolding walked walk_passes
halted_passes s names name so_far [] none = refl
halted_passes s names name so_far (word ∷ words) none = halted_passes s names name (so_far ++ word ∷ []) words none

module _ (program : Text) (commands : List Command) where
  abbrev names : Names
  names = labels commands

  first_walked : (word : Text) (c : Command) → command_named commands word ≡ Some c
      → walked [] names (walk_from nothing_held) word ≡ halted (c.name, [])
  unfolding walked
  first_walked word c is = rw (met_is commands word ∙ ap (option_map (λ (d : Command). d.name)) is) refl

  stops : (word : Text) (words : List Text) (c : Command) → command_named commands word ≡ Some c
      → walk [] names nothing_held (word ∷ words) ≡ halted (c.name, words)
  stops word words c is =
      ap (λ (w : Walk). fold (walked [] names) w words) (first_walked word c is) ∙ halted_walk names c.name [] words

  -- ---- words that name a command

  off : (b : Bool) → ((not b || true) && true) ≡ true
  off true = refl
  off false = refl

  first_passes : (word : Text) (c : Command) → command_named commands word ≡ Some c
      → turn_passes (top program) names (walk_from nothing_held) word ≡ true
  first_passes word c is = rw (met_is commands word ∙ ap (option_map (λ (d : Command). d.name)) is) (off (bytes_eq c.name (codes "help")))

  module _ (c : Command) (words : List Text) (is : command_named commands c.name ≡ Some c) where
    abbrev stop : Option (Text × List Text)
    stop = (walk [] names nothing_held (c.name ∷ words)).stopped

    stop_is : stop ≡ Some (c.name, words)
    stop_is = ap (λ (w : Walk). w.stopped) (stops c.name words c is)

    leaf_is : find (λ s. answers_to c.name (label_of s)) (map level commands) ≡ Some (level c)
    leaf_is = level_is commands c.name ∙ ap (option_map level) is

    entered_is : entered (made program commands) stop ≡ Some (c.name, rows_after (rules_from 1 c.parts) [] words)
    entered_is = ap (entered (made program commands)) stop_is ∙ ap (option_map (λ (s : Shape). rows_at s words)) leaf_is

    top_passes : level_passes (top program) names nothing_held (c.name ∷ words) true ≡ true
    unfolding walk_passes
    top_passes =
        ap₂ (λ (a : Bool) (w : Walk). a && (settle_passes [] false w.held && (true && is_valid (top program) (finished [] w.held) true)))
        (ap₂ (λ (a b : Bool). a && b) (first_passes c.name c is)
        (ap (λ (w : Walk). walk_passes (top program) names w words) (first_walked c.name c is)
        ∙ halted_passes (top program) names c.name [] words refl))
        (stops c.name words c is)

    takes_level : level_passes (level c) [] nothing_held words false ≡ true → takes (app program commands) (c.name ∷ words) ≡ true
    takes_level passes =
        ap₂ (λ (a b : Bool). a && b) (simple_app program commands)
        (ap (λ (a : App). built_takes a nothing_held (c.name ∷ words)) (built_is program commands)
        ∙ ap₂ (λ (a b : Bool). a && b)
        (ap (entered_passes (made program commands)) stop_is
        ∙ ap (λ (o : Option Shape). option_map_or (λ s. level_passes s [] nothing_held words false) o true) leaf_is ∙ passes)
        (ap (λ (o : Option (Text × List Row)). level_passes (top program) names nothing_held (c.name ∷ words) (is_some o)) entered_is
        ∙ top_passes))

    subcommand_is : subcommand_of (app program commands) (c.name ∷ words) ≡ Some (c.name, rows_after (rules_from 1 c.parts) [] words)
    subcommand_is =
        ap (λ (a : App). entered a (walk a.top.rules (names_of a) nothing_held (c.name ∷ words)).stopped) (built_is program commands)
        ∙ entered_is

    fault_below : entered_fault (made program commands) stop ≡ [] → level_fault (level c) [] nothing_held words false [] ≡ []
    fault_below none =
        sym (ap (entered_fault (made program commands)) stop_is
        ∙ ap (λ (o : Option Shape). option_map_or (λ s. level_fault s [] nothing_held words false []) o []) leaf_is) ∙ none

    passes_below : entered_passes (made program commands) stop ≡ true → level_passes (level c) [] nothing_held words false ≡ true
    passes_below passes =
        sym (ap (entered_passes (made program commands)) stop_is
        ∙ ap (λ (o : Option Shape). option_map_or (λ s. level_passes s [] nothing_held words false) o true) leaf_is) ∙ passes

  -- ---- words that name none

  unnamed : (word : Text) (o : Option (Text × Option Text)) → command_named commands word ≡ None → long_of word ≡ o
      → option_map_or (λ p. no_dash_behind p.1) o (is_value word) ≡ true
      → turn_passes (top program) names (walk_from nothing_held) word ≡ false
  unnamed word None none long clean =
      let plain = reads_plain word clean in
      rw (met_is commands word ∙ ap (option_map (λ (d : Command). d.name)) none, plain.2, plain.0, plain.1) refl
  unnamed word (Some p) none long clean =
      rw (met_is commands word ∙ ap (option_map (λ (d : Command). d.name)) none, not_dashes word p long, long) refl

  abbrev Spelled : List Text → Type 0
  Spelled words = (c : Command) × (items : List Item) × Spells commands words c items

  spelled_by_passes : (word : Text) (words : List Text) (o : Option Command) (has : Bool) → are_proper commands ≡ true
      → list_all is_clean (word ∷ words) ≡ true → command_named commands word ≡ o
      → level_passes (top program) names nothing_held (word ∷ words) has ≡ true
      → ((c : Command) → command_named commands c.name ≡ Some c → c.name ≡ word
      → level_passes (level c) [] nothing_held words false ≡ true)
      → Spelled (word ∷ words)
  unfolding walk_passes
  spelled_by_passes word words None has proper clean is passes below =
      let turn = both (turn_passes (top program) names (walk_from nothing_held) word) _ (both (walk_passes (top program) names (walk_from nothing_held) (word ∷ words)) _ passes).0 in
      absurd (true≢false (sym turn.0 ∙ unnamed word (long_of word) is refl (both (is_clean word) _ clean).0))
  spelled_by_passes word words (Some c) has proper clean is passes below =
      let found = found_command commands word c proper is in
      let named : command_named commands c.name ≡ Some c = ap (command_named commands) found.0 ∙ is in
      let items = level_spells c found.1 words (both (is_clean word) _ clean).1 (below c named found.0) in
      (c, items.0, (named, ap₂ (λ (t : Text) (l : List Text). t ∷ l) (sym found.0) items.1, items.2))

  from_words : (words : List Text) → are_proper commands ≡ true → list_all is_clean words ≡ true
      → built_fault (made program commands) nothing_held words ≡ [] → Spelled words
  unfolding walk_passes
  from_words [] proper clean none = absurd (true≢false (sym (level_ok (top program) names nothing_held [] false [] refl refl none)))
  from_words (word ∷ words) proper clean none =
      spelled_by_passes word words (command_named commands word) _ proper clean refl
      (level_ok (top program) names nothing_held (word ∷ words) _ _ refl refl none)
      (λ c named same. level_ok (level c) [] nothing_held words false [] (defaults_pass c.parts 1) (all_free c.parts 1)
      (fault_below c words named
      (ap (λ (t : Text). entered_fault (made program commands) (walk [] names nothing_held (t ∷ words)).stopped) same
      ∙ below_ok (top program) names nothing_held (word ∷ words) _ _ none)))

  from_taken : (words : List Text) → are_proper commands ≡ true → list_all is_clean words ≡ true
      → built_takes (made program commands) nothing_held words ≡ true → Spelled words
  unfolding walk_passes
  from_taken [] proper clean taken =
      absurd (true≢false (sym (both (entered_passes (made program commands) (walk [] names nothing_held []).stopped) _ taken).1))
  from_taken (word ∷ words) proper clean taken =
      let parts = both (entered_passes (made program commands) (walk [] names nothing_held (word ∷ words)).stopped) _ taken in
      spelled_by_passes word words (command_named commands word) _ proper clean refl parts.1
      (λ c named same. passes_below c words named
      (ap (λ (t : Text). entered_passes (made program commands) (walk [] names nothing_held (t ∷ words)).stopped) same ∙ parts.0))

-- ---- the laws

abbrev is_accepted : Command → List Item → Type 0
is_accepted c items = accepts c.parts items ≡ true

-- what is accepted fits, each at most once, and the wanted ones are there
accepted : (c : Command) (items : List Item) → is_accepted c items
    → (fits c.parts 0 items ≡ true) × ((each_once items && has_wanted c.parts items) ≡ true)
accepted c items is = let parts = both (fits c.parts 0 items) _ is in (parts.0, parts.1)

pub takes_spelled_items : TakesSpelledItems
takes_spelled_items program commands words c items proper spells =
    let own = (found_command commands c.name c proper spells.0).1 in
    let parts = accepted c items spells.2 in
    ap (takes (app program commands)) spells.1
    ∙ takes_level program commands c (flat_map spelled items) spells.0 (level_takes c own items parts.0 ∙ parts.1)

pub are_spelled_cleanly : AreSpelledCleanly
are_spelled_cleanly commands words c items proper spells =
    let found = found_command commands c.name c proper spells.0 in
    ap (list_all is_clean) spells.1
    ∙ ap₂ (λ (a b : Bool). a && b) (value_clean c.name found.2) (items_clean c found.1 0 items (accepted c items spells.2).0)

pub takes_spelled_items_alone : TakesSpelledItemsAlone
takes_spelled_items_alone program commands words proper clean none =
    from_words program commands words proper clean (sym (ap (λ (a : App). built_fault a nothing_held words) (built_is program commands))
    ∙ none)

pub spells_taken_words : SpellsTakenWords
spells_taken_words program commands words proper clean taken =
    from_taken program commands words proper clean
    (sym (ap (λ (a : App). built_takes a nothing_held words) (built_is program commands))
    ∙ (both (is_simple (app program commands)) _ taken).1)

-- the flag, of a part that is one
abbrev flag_of : Part → Option Part
flag_of p = cond (is_flag p) (Some p) None

module _ (c : Command) (proper : is_proper c.parts ≡ true) (name : Text) (p : Part) (is : part_named c.parts name ≡ Some p) where
  flag_is : find (is_named_kind is_flag name) c.parts ≡ flag_of p
  flag_is = go (is_flag p) refl where
    go : (b : Bool) → is_flag p ≡ b → find (is_named_kind is_flag name) c.parts ≡ cond b (Some p) None
    go true e = kind_found is_flag c.parts name p is e
    go false e = kind_missing is_flag c.parts name p (once c.parts proper) is e

  value_is : (o : Option Item) (q : Part)
      → (option_and_then (λ r. slice_get r.values 0) (or_unsaid (option_map row_for o) (flag_of q))
      ≡ option_map_or (λ i. Some (item_value i)) o (unsaid_value q))
      × (option_and_then row_text (or_unsaid (option_map row_for o) (flag_of q))
      ≡ option_map_or (λ i. Some (item_value i)) o (unsaid_value q))
  value_is (Some i) q = (refl, refl)
  value_is None (option n wanted) = (refl, refl)
  value_is None (flag n) = (refl, refl)
  value_is None (place n wanted) = (refl, refl)

  gives : (items : List Item) → is_accepted c items
      → let rows = rows_after (rules_from 1 c.parts) [] (flat_map spelled items) in
      (first_of name rows ≡ value_of p items) × (one_of name rows ≡ value_of p items)
  gives items accepts =
      let parts = accepted c items accepts in
      let found : row_named name (rows_after (rules_from 1 c.parts) [] (flat_map spelled items))
      ≡ or_unsaid (option_map row_for (item_named name items)) (flag_of p) =
      found_finished name c.parts 1 _
      ∙ ap₂ (λ (rs : List Row) (q : Option Part). or_unsaid (row_named name rs) q) (level_rows c proper items parts.0 (both (each_once items) _ parts.1).0) flag_is
      ∙ ap (λ (o : Option Row). or_unsaid o (flag_of p)) (row_of_item name items) in
      let same : name_of p ≡ name = (part_found c.parts name p is) in
      let values = value_is (item_named name items) p in
      let said = ap (λ (t : Text). option_map_or (λ i. Some (item_value i)) (item_named t items) (unsaid_value p)) (sym same) in (
        ap (option_and_then (λ (r : Row). slice_get r.values 0)) found ∙ values.0 ∙ said,
        ap (option_and_then row_text) found ∙ values.1 ∙ said,
      )

pub gives_items_values : GivesItemsValues
gives_items_values program commands words c items proper spells = (
  rows_after (rules_from 1 c.parts) [] (flat_map spelled items),
  ap (subcommand_of (app program commands)) spells.1 ∙ subcommand_is program commands c (flat_map spelled items) spells.0,
  λ name p part. gives c (found_command commands c.name c proper spells.0).1 name p part items spells.2,
)
