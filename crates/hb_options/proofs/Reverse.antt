-- Words that clap takes are the spellings of items that fit.
use Rattle.std.proofs.Common.{◌≡◌, ◌&&◌, ℕ, suc, Bool, cond, true, false, true≢false, List, [], ◌∷◌, Option, Some, None, option_map, slice_get, filter, find, flat_map, refl, sym, ap, ap₂, ◌∙◌}
use Rattle.std.specs.List.{list_all}
use Rattle.std.specs.Option.{option_map_or}
use Rattle.clap.specs.Lexer.{long_of}
use Rattle.clap.specs.Takes.{level_passes, long_passes, settle_passes, turn_passes, walk_passes}
use Rattle.clap.specs.Walk.{Held, Rule, Text, Walk, arg_by_index, arg_by_long, nothing_held, takes_values}
use Rattle.clap.proofs.WalkLemmas.{both}
use Rattle.hb_options.specs.Items.{Part, option, flag, place, Command, Item, apart, joined, alone, placed, spelled, name_of, is_option, is_flag, is_place, is_named, is_value, has, stands_at, fits, no_dash_behind, is_clean, is_proper, accepts}
use Rattle.hb_options.proofs.Rules.{filled_at, is_long, is_long_named, by_long, long_part, at_position, finds_option, finds_flag, finds_place, same_text}
use Rattle.hb_options.proofs.Words.{IsPlainWord, reads_plain, not_dashes, name_spelled, value_spelled}
use Rattle.hb_options.proofs.Steps.{level, c, between, asked, asks, settles, Steps, option_step, joined_step, flag_step, value_step, place_step}
use Rattle.hb_options.proofs.Walks.{passing, by_word}
use Rattle.hb_options.proofs.Level.{level_passes_on, level_takes, passes_on}

module _ (command : Command) (proper : is_proper command.parts ≡ true) where
  abbrev stands : ℕ → Held → Walk
  stands k h = between command proper k h

  abbrev goes_on : Walk → List Text → Type 0
  goes_on w words = passes_on command proper w words ≡ true

  abbrev are_clean : List Text → Type 0
  are_clean words = list_all is_clean words ≡ true

  -- the words spell items that fit behind k places
  abbrev pub Spells : ℕ → List Text → Type 0
  Spells k words = (items : List Item) × (words ≡ flat_map spelled items) × (fits command.parts k items ≡ true)

  abbrev Leads : List Text → Type 0
  Leads words = (k : ℕ) (h : Held) → are_clean words → goes_on (stands k h) words → Spells k words

  -- behind the word of an option stands its value
  abbrev Wants : List Text → Type 0
  Wants words = (name : Text) (k : ℕ) (h : Held) → has command.parts is_option name ≡ true → are_clean words
      → goes_on (asks command proper name k h) words
      → (value : Text) × (more : List Text) × (words ≡ value ∷ more) × (is_value value ≡ true) × Spells k more

  -- ---- a word that passes, and one that doesn't

  past : (w after : Walk) (word : Text) (words : List Text) (passes : Bool) → Steps command proper w word after passes
      → goes_on w (word ∷ words) → goes_on after words
  past w after word words passes step on =
      let by = by_word command proper w after word passes step in
      let walk = both (passing command proper w (word ∷ words)) _ on in
      ap₂ (λ (a b : Bool). a && b) (both passes _ (sym (by.0 words) ∙ walk.0)).1
      (ap (λ (v : Walk). settles command proper v.held) (sym (by.1 words)) ∙ walk.1)

  stuck : (w : Walk) (word : Text) (words : List Text) → turn_passes (level command) [] w word ≡ false → goes_on w (word ∷ words) → ⊥
  unfolding walk_passes
  stuck w word words fails on =
      let turn = both (turn_passes (level command) [] w word) _ (both (passing command proper w (word ∷ words)) _ on).0 in
      true≢false (sym turn.0 ∙ fails)

  -- ---- words between items

  no_place : (word : Text) (k : ℕ) (h : Held) → IsPlainWord word → arg_by_index (c command proper) (suc k) ≡ None
      → turn_passes (level command) [] (stands k h) word ≡ false
  no_place word k h plain none = rw (plain.2, plain.0, plain.1, none) refl

  from_place : (word : Text) (words : List Text) (k : ℕ) (h : Held) (o : Option Part) → Leads words → is_value word ≡ true → are_clean words
      → slice_get (filter is_place command.parts) k ≡ o → goes_on (stands k h) (word ∷ words) → Spells k (word ∷ words)
  from_place word words k h None leads is clean at on =
      absurd (stuck _ word words (no_place word k h (reads_plain word is)
      (at_position command.parts proper k ∙ ap (option_map (filled_at (suc k))) at)) on)
  from_place word words k h (Some p) leads is clean at on =
      let here : stands_at command.parts k (name_of p) ≡ true = ap (λ (o : Option Part). option_map_or (is_named (name_of p)) o false) at
      ∙ same_text (name_of p) in
      let found = finds_place command.parts proper k (name_of p) here in
      let rest = leads (suc k) _ clean (past _ _ word words _ (place_step command proper (name_of p) word k h (reads_plain word is) found) on) in
      (placed (name_of p) word ∷ rest.0, ap (λ (l : List Text). word ∷ l) rest.1, ap₂ (λ (a b : Bool). a && b) here (ap₂ (λ (a b : Bool). a && b) is rest.2))

  no_name : (word name : Text) (value : Option Text) (k : ℕ) (h : Held) → long_of word ≡ Some (name, value)
      → arg_by_long (c command proper) name ≡ None → turn_passes (level command) [] (stands k h) word ≡ false
  no_name word name value k h long none = rw (not_dashes word (name, value) long, long, none) refl

  -- an option's word, and the value behind it
  from_apart : (word name : Text) (words : List Text) (k : ℕ) (h : Held) → Wants words → are_clean words
      → long_of word ≡ Some (name, None) → has command.parts is_option name ≡ true
      → goes_on (stands k h) (word ∷ words) → Spells k (word ∷ words)
  from_apart word name words k h wants clean long is on =
      let found = finds_option command.parts proper name is in
      let rest = wants name k h is clean
      (past _ _ word words _ (option_step command proper name found.0 k h word (long, not_dashes word (name, None) long) found.1.0) on) in
      let items = rest.4 in (
        apart name rest.0 ∷ items.0,
        ap₂ (λ (a : Text) (b : List Text). a ∷ b) (name_spelled word name long) (rest.2 ∙ ap (λ (l : List Text). rest.0 ∷ l) items.1),
        ap₂ (λ (a b : Bool). a && b) is (ap₂ (λ (a b : Bool). a && b) rest.3 items.2),
      )

  from_joined : (word name value : Text) (words : List Text) (k : ℕ) (h : Held) → Leads words → are_clean words → is_value value ≡ true
      → long_of word ≡ Some (name, Some value) → has command.parts is_option name ≡ true
      → goes_on (stands k h) (word ∷ words) → Spells k (word ∷ words)
  from_joined word name value words k h leads clean plain long is on =
      let found = finds_option command.parts proper name is in
      let rest = leads k _ clean
      (past _ _ word words _ (joined_step command proper name value found.0 k h word (long, not_dashes word (name, Some value) long) found.1.0) on) in (
        joined name value ∷ rest.0,
        ap₂ (λ (a : Text) (b : List Text). a ∷ b) (value_spelled word name value long) rest.1,
        ap₂ (λ (a b : Bool). a && b) is (ap₂ (λ (a b : Bool). a && b) plain rest.2),
      )

  from_flag : (word name : Text) (words : List Text) (k : ℕ) (h : Held) → Leads words → are_clean words
      → long_of word ≡ Some (name, None) → has command.parts is_flag name ≡ true
      → goes_on (stands k h) (word ∷ words) → Spells k (word ∷ words)
  from_flag word name words k h leads clean long is on =
      let found = finds_flag command.parts proper name is in
      let rest = leads k _ clean
      (past _ _ word words _ (flag_step command proper name k h word (long, not_dashes word (name, None) long) found.0) on) in (
        alone name ∷ rest.0,
        ap₂ (λ (a : Text) (b : List Text). a ∷ b) (name_spelled word name long) rest.1,
        ap₂ (λ (a b : Bool). a && b) is rest.2,
      )

  -- a flag has no value
  flag_refuses : (word name value : Text) (k : ℕ) (h : Held) → long_of word ≡ Some (name, Some value)
      → has command.parts is_flag name ≡ true → turn_passes (level command) [] (stands k h) word ≡ false
  flag_refuses word name value k h long is =
      rw (not_dashes word (name, Some value) long, long, (finds_flag command.parts proper name is).0) refl

  from_part : (word name : Text) (value : Option Text) (words : List Text) (k : ℕ) (h : Held) (p : Part) → Leads words → Wants words
      → are_clean words → no_dash_behind value ≡ true → long_of word ≡ Some (name, value)
      → find (is_named name) command.parts ≡ Some p → is_long p ≡ true → goes_on (stands k h) (word ∷ words) → Spells k (word ∷ words)
  from_part word name None words k h (option n wanted) leads wants clean plain long found is on =
      from_apart word name words k h wants clean long (ap (λ (o : Option Part). option_map_or is_option o false) found) on
  from_part word name (Some value) words k h (option n wanted) leads wants clean plain long found is on =
      from_joined word name value words k h leads clean plain long (ap (λ (o : Option Part). option_map_or is_option o false) found) on
  from_part word name None words k h (flag n) leads wants clean plain long found is on =
      from_flag word name words k h leads clean long (ap (λ (o : Option Part). option_map_or is_flag o false) found) on
  from_part word name (Some value) words k h (flag n) leads wants clean plain long found is on =
      absurd (stuck _ word words (flag_refuses word name value k h long (ap (λ (o : Option Part). option_map_or is_flag o false) found)) on)
  from_part word name value words k h (place n wanted) leads wants clean plain long found is on = absurd (true≢false (sym is))

  from_name : (word name : Text) (value : Option Text) (words : List Text) (k : ℕ) (h : Held) (o : Option Part) → Leads words → Wants words
      → are_clean words → no_dash_behind value ≡ true → long_of word ≡ Some (name, value)
      → find (is_long_named name) command.parts ≡ o → goes_on (stands k h) (word ∷ words) → Spells k (word ∷ words)
  from_name word name value words k h None leads wants clean plain long found on =
      absurd (stuck _ word words (no_name word name value k h long (by_long command.parts 1 name ∙ ap (option_map (filled_at 0)) found)) on)
  from_name word name value words k h (Some p) leads wants clean plain long found on =
      let there = long_part command.parts proper name p found in
      from_part word name value words k h p leads wants clean plain long there.1 there.2 on

  from_word : (word : Text) (words : List Text) (k : ℕ) (h : Held) (o : Option (Text × Option Text)) → Leads words → Wants words
      → are_clean words → long_of word ≡ o → option_map_or (λ p. no_dash_behind p.1) o (is_value word) ≡ true
      → goes_on (stands k h) (word ∷ words) → Spells k (word ∷ words)
  from_word word words k h None leads wants clean long plain on =
      from_place word words k h (slice_get (filter is_place command.parts) k) leads plain clean refl on
  from_word word words k h (Some p) leads wants clean long plain on =
      from_name word p.0 p.1 words k h (find (is_long_named p.0) command.parts) leads wants clean plain long refl on

  -- ---- words where a value is wanted

  -- the option that waits has no value yet, so no other use passes
  waits : (name : Text) (k : ℕ) (h : Held) → has command.parts is_option name ≡ true
      → settles command proper (asked command proper name h) ≡ false
  waits name k h is = rw (finds_option command.parts proper name is).1.1.1 refl

  long_fails : (r : Option Rule) (value : Option Text) (h : Held) → settle_passes (c command proper) false h ≡ false
      → long_passes (c command proper) false r value h ≡ false
  long_fails None value h fails = refl
  long_fails (Some a) None h fails = go (takes_values a) _ where
    go : (b used : Bool) → cond b (settle_passes (c command proper) false h) (settle_passes (c command proper) false h && used) ≡ false
    go true used = fails
    go false used = rw fails refl
  long_fails (Some a) (Some value) h fails = go (takes_values a) _ where
    go : (b used : Bool) → cond b (settle_passes (c command proper) false h && used) false ≡ false
    go true used = rw fails refl
    go false used = refl

  option_waits : (name word : Text) (p : Text × Option Text) (k : ℕ) (h : Held) → has command.parts is_option name ≡ true
      → long_of word ≡ Some p
      → turn_passes (level command) [] (asks command proper name k h) word ≡ false
  option_waits name word p k h is long =
      rw (not_dashes word p long, long, long_fails (arg_by_long (c command proper) p.0) p.1 (asked command proper name h) (waits name k h is)) refl

  value_behind : (value : Text) (words : List Text) (o : Option (Text × Option Text)) → Leads words
      → long_of value ≡ o → option_map_or (λ p. no_dash_behind p.1) o (is_value value) ≡ true
      → (name : Text) (k : ℕ) (h : Held) → has command.parts is_option name ≡ true → are_clean words
      → goes_on (asks command proper name k h) (value ∷ words)
      → (v : Text) × (more : List Text) × (value ∷ words ≡ v ∷ more) × (is_value v ≡ true) × Spells k more
  value_behind value words None leads long plain name k h is clean on =
      let found = finds_option command.parts proper name is in (
        value,
        words,
        refl,
        plain,
        leads k _ clean (past _ _ value words _ (value_step command proper name value found.0 k h (reads_plain value plain) found.1.1) on),
      )
  value_behind value words (Some p) leads long plain name k h is clean on = absurd (stuck _ value words (option_waits name value p k h is long) on)

  wants_none : Wants []
  unfolding walk_passes
  wants_none name k h is clean on = absurd (true≢false (sym on ∙ waits name k h is))

  wants_one : (value : Text) (words : List Text) → Leads words → Wants (value ∷ words)
  wants_one value words leads name k h is clean on =
      let parts = both (is_clean value) _ clean in
      value_behind value words (long_of value) leads refl parts.0 name k h is parts.1 on

  -- ---- all words

  none_left : Leads []
  none_left k h clean on = ([], refl, refl)

  one_more : (word : Text) (words : List Text) → Leads words → Wants words → Leads (word ∷ words)
  one_more word words leads wants k h clean on =
      let parts = both (is_clean word) _ clean in
      from_word word words k h (long_of word) leads wants parts.1 refl parts.0 on

  pub all_lead : (words : List Text) → Leads words
  all_lead [] = none_left
  all_lead (word ∷ []) = one_more word [] none_left wants_none
  all_lead (word ∷ value ∷ words) = one_more word (value ∷ words) (all_lead (value ∷ words)) (wants_one value words (all_lead words))

  -- clean words that a level takes spell items that the command accepts
  pub level_spells : (words : List Text) → are_clean words → level_passes (level command) [] nothing_held words false ≡ true
      → (items : List Item) × (words ≡ flat_map spelled items) × (accepts command.parts items ≡ true)
  level_spells words clean passes =
      let found = all_lead words 0 nothing_held clean (level_passes_on command proper words passes) in (
        found.0,
        found.1,
        ap₂ (λ (a b : Bool). a && b) found.2
            (sym (level_takes command proper found.0 found.2)
            ∙ ap (λ (l : List Text). level_passes (level command) [] nothing_held l false) (sym found.1) ∙ passes),
      )
