-- Items that fit are spelled by clean words.
use Rattle.std.proofs.Common.{◌≡◌, ◌&&◌, ◌∷◌, ◌++◌, ℕ, suc, Bool, true, List, [], Option, Some, None, codes, flat_map, refl, ap, ap₂, ◌∙◌}
use Rattle.std.specs.List.{list_all}
use Rattle.std.specs.Option.{option_map_or}
use Rattle.clap.specs.Lexer.{long_of}
use Rattle.clap.specs.Walk.{Text}
use Rattle.clap.proofs.WalkLemmas.{both}
use Rattle.hb_options.specs.Items.{Command, Item, apart, joined, alone, placed, spelled, is_value, has, stands_at, is_option, is_flag, is_proper, fits, no_dash_behind, is_clean}
use Rattle.hb_options.proofs.Rules.{finds_option, finds_flag}
use Rattle.hb_options.proofs.Words.{reads_name, reads_value, reads_plain}

-- a word is clean by what clap reads of it
clean_as : (word : Text) (o : Option (Text × Option Text)) → long_of word ≡ o
    → option_map_or (λ p. no_dash_behind p.1) o (is_value word) ≡ true
    → is_clean word ≡ true
clean_as word o long is = ap (λ (q : Option (Text × Option Text)). option_map_or (λ p. no_dash_behind p.1) q (is_value word)) long ∙ is

pub value_clean : (word : Text) → is_value word ≡ true → is_clean word ≡ true
value_clean word is = clean_as word None (reads_plain word is).0 is

module _ (command : Command) (proper : is_proper command.parts ≡ true) where
  pub items_clean : (k : ℕ) (items : List Item) → fits command.parts k items ≡ true → list_all is_clean (flat_map spelled items) ≡ true
  items_clean k [] fit = refl
  items_clean k (apart name value ∷ items) fit =
      let parts = both (has command.parts is_option name) _ fit in
      let more = both (is_value value) _ parts.1 in
      let found = finds_option command.parts proper name parts.0 in
      ap₂ (λ (a b : Bool). a && b) (clean_as (codes "--" ++ name) (Some (name, None)) (reads_name name found.1.2).0 refl)
      (ap₂ (λ (a b : Bool). a && b) (value_clean value more.0) (items_clean k items more.1))
  items_clean k (joined name value ∷ items) fit =
      let parts = both (has command.parts is_option name) _ fit in
      let more = both (is_value value) _ parts.1 in
      let found = finds_option command.parts proper name parts.0 in
      ap₂ (λ (a b : Bool). a && b)
      (clean_as (codes "--" ++ (name ++ (codes "=" ++ value))) (Some (name, Some value)) (reads_value name value found.1.2).0 more.0)
      (items_clean k items more.1)
  items_clean k (alone name ∷ items) fit =
      let parts = both (has command.parts is_flag name) _ fit in
      let found = finds_flag command.parts proper name parts.0 in
      ap₂ (λ (a b : Bool). a && b) (clean_as (codes "--" ++ name) (Some (name, None)) (reads_name name found.2).0 refl)
      (items_clean k items parts.1)
  items_clean k (placed name value ∷ items) fit =
      let parts = both (stands_at command.parts k name) _ fit in
      let more = both (is_value value) _ parts.1 in
      ap₂ (λ (a b : Bool). a && b) (value_clean value more.0) (items_clean (suc k) items more.1)
