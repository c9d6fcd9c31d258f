-- What the words of items come to: the walk over them passes exactly where each use does, and leaves the rows of the uses.
use Rattle.std.proofs.Common.{◌≡◌, ◌&&◌, ℕ, suc, not, Bool, true, false, List, [], ◌∷◌, ◌++◌, fold, codes, flat_map, refl, sym, ap, ap₂, ◌∙◌}
use Rattle.clap.specs.Walk.{Held, Row, Text, Walk, has_row, walked}
use Rattle.clap.specs.Takes.{walk_passes}
use Rattle.clap.proofs.WalkLemmas.{both}
use Rattle.hb_options.specs.Items.{option, place, Command, Item, apart, joined, alone, placed, item_name, item_value, spelled, is_value, has, stands_at, is_option, is_flag, fits, is_proper}
use Rattle.hb_options.proofs.Rules.{HasId, finds_option, finds_flag, finds_place}
use Rattle.hb_options.proofs.Words.{reads_name, reads_value, reads_plain}
use Rattle.hb_options.proofs.Steps.{level, added, and_true, fresh, c, between, pends, made, rows, settles, is_fresh, Steps, option_step, joined_step, flag_step, value_step, place_step}

-- the uses of items, one after the other, and the rows that they leave
abbrev pub all_pass : List Item → List Row → Bool
all_pass [] rs = true
all_pass (i ∷ items) rs = not (has_row (item_name i) rs) && all_pass items (added (item_name i) (item_value i) rs)

abbrev pub all_added : List Item → List Row → List Row
all_added [] rs = rs
all_added (i ∷ items) rs = all_added items (added (item_name i) (item_value i) rs)

pub and_assoc : (a b d : Bool) → ((a && b) && d) ≡ (a && (b && d))
and_assoc true b d = refl
and_assoc false b d = refl

module _ (command : Command) (proper : is_proper command.parts ≡ true) where
  abbrev pub passing : Walk → List Text → Bool
  passing w words = walk_passes (level command) [] w words

  abbrev pub walk_on : Walk → List Text → Walk
  walk_on w words = fold (walked (c command proper) []) w words

  abbrev stands : ℕ → Held → Walk
  stands k h = between command proper k h

  pub by_word : (w after : Walk) (word : Text) (passes : Bool) → Steps command proper w word after passes
      → ((words : List Text) → passing w (word ∷ words) ≡ (passes && passing after words))
      × ((words : List Text) → walk_on w (word ∷ words) ≡ walk_on after words)
  unfolding walk_passes
  by_word w after word passes step =
      (λ words. ap₂ (λ (b : Bool) (v : Walk). b && passing v words) step.1 step.0, λ words. ap (λ (v : Walk). walk_on v words) step.0)

  -- what an item's words come to: the use that they are counts as made, or as pending, and either way it is settled next
  abbrev pub Goes : Item → ℕ → ℕ → Held → Type 0
  Goes i k after h = (next : Held) × (passes : Bool)
      × ((words : List Text) → passing (stands k h) (spelled i ++ words) ≡ (passes && passing (stands after next) words))
      × ((words : List Text) → walk_on (stands k h) (spelled i ++ words) ≡ walk_on (stands after next) words)
      × (rows command proper next ≡ added (item_name i) (item_value i) (rows command proper h))
      × ((passes && settles command proper next) ≡ (settles command proper h && is_fresh command proper (item_name i) h))

  -- a pending use settles as one that was made
  abbrev Settles : Text → Text → Held → Type 0
  Settles name value h = (rows command proper (pends command proper name value h) ≡ added name value (rows command proper h))
      × (settles command proper (pends command proper name value h) ≡ is_fresh command proper name h)

  option_settles : (name value : Text) (wanted : Bool) (h : Held) → HasId 1 command.parts name (option name wanted) → Settles name value h
  option_settles name value wanted h id = (rw id.1 refl, rw id.1 (fresh (has_row name (rows command proper h))))

  place_settles : (name value : Text) (wanted : Bool) (h : Held) → HasId 1 command.parts name (place name wanted) → Settles name value h
  place_settles name value wanted h id = (rw id.1 refl, rw id.1 (fresh (has_row name (rows command proper h))))

  pub apart_goes : (name value : Text) (k : ℕ) (h : Held) → has command.parts is_option name ≡ true → is_value value ≡ true
      → Goes (apart name value) k k h
  apart_goes name value k h is plain =
      let found = finds_option command.parts proper name is in
      let first = by_word _ _ _ _ (option_step command proper name found.0 k h (codes "--" ++ name) (reads_name name found.1.2) found.1.0) in
      let second = by_word _ _ _ _ (value_step command proper name value found.0 k h (reads_plain value plain) found.1.1) in
      let settled = option_settles name value found.0 h found.1.1 in (
        pends command proper name value h,
        settles command proper h,
        λ words. first.0 (value ∷ words) ∙ ap (λ (b : Bool). settles command proper h && b) (second.0 words),
        λ words. first.1 (value ∷ words) ∙ second.1 words,
        settled.0,
        ap (λ (b : Bool). settles command proper h && b) settled.1,
      )

  pub joined_goes : (name value : Text) (k : ℕ) (h : Held) → has command.parts is_option name ≡ true → Goes (joined name value) k k h
  joined_goes name value k h is =
      let found = finds_option command.parts proper name is in
      let one = by_word _ _ _ _ (joined_step command proper name value found.0 k h (codes "--" ++ (name ++ (codes "=" ++ value))) (reads_value name value found.1.2) found.1.0) in
      (made command proper name value h, (settles command proper h && is_fresh command proper name h), one.0, one.1, refl, and_true _)

  pub alone_goes : (name : Text) (k : ℕ) (h : Held) → has command.parts is_flag name ≡ true → Goes (alone name) k k h
  alone_goes name k h is =
      let found = finds_flag command.parts proper name is in
      let one = by_word _ _ _ _ (flag_step command proper name k h (codes "--" ++ name) (reads_name name found.2) found.0) in
      (made command proper name (codes "true") h, (settles command proper h && is_fresh command proper name h), one.0, one.1, refl, and_true _)

  pub placed_goes : (name value : Text) (k : ℕ) (h : Held) → stands_at command.parts k name ≡ true → is_value value ≡ true
      → Goes (placed name value) k (suc k) h
  placed_goes name value k h is plain =
      let found = finds_place command.parts proper k name is in
      let one = by_word _ _ _ _ (place_step command proper name value k h (reads_plain value plain) found) in
      let settled = place_settles name value found.0 h found.2 in (
        pends command proper name value h,
        settles command proper h,
        one.0,
        one.1,
        settled.0,
        ap (λ (b : Bool). settles command proper h && b) settled.1,
      )

  -- ---- all of them

  abbrev pub ended : ℕ → Held → List Item → Held
  ended k h items = (walk_on (stands k h) (flat_map spelled items)).held

  abbrev pub Ends : List Item → ℕ → Held → Type 0
  Ends items k h = ((passing (stands k h) (flat_map spelled items) && settles command proper (ended k h items))
      ≡ (settles command proper h && all_pass items (rows command proper h)))
      × (rows command proper (ended k h items) ≡ all_added items (rows command proper h))

  one_more : (i : Item) (items : List Item) (k after : ℕ) (h : Held) → Goes i k after h → ((next : Held) → Ends items after next)
      → Ends (i ∷ items) k h
  one_more i items k after h goes rest =
      let words = flat_map spelled items in
      let then_on = rest goes.0 in (
        ap₂ (λ (b : Bool) (w : Walk). b && settles command proper w.held) (goes.2 words) (goes.3 words)
            ∙ and_assoc goes.1 _ _ ∙ ap (λ (b : Bool). goes.1 && b) then_on.0 ∙ sym (and_assoc goes.1 _ _)
            ∙ ap (λ (b : Bool). b && all_pass items (rows command proper goes.0)) goes.5 ∙ and_assoc (settles command proper h) _ _
            ∙ ap (λ (rs : List Row). settles command proper h && (is_fresh command proper (item_name i) h && all_pass items rs)) goes.4,
        ap (λ (w : Walk). rows command proper w.held) (goes.3 words) ∙ then_on.1 ∙ ap (all_added items) goes.4,
      )

  pub items_end : (items : List Item) (k : ℕ) (h : Held) → fits command.parts k items ≡ true → Ends items k h
  unfolding walk_passes
  items_end [] k h fit = (sym (and_true (settles command proper h)), refl)
  items_end (apart name value ∷ items) k h fit =
      let parts = both (has command.parts is_option name) _ fit in
      let more = both (is_value value) _ parts.1 in
      one_more (apart name value) items k k h (apart_goes name value k h parts.0 more.0) (λ next. items_end items k next more.1)
  items_end (joined name value ∷ items) k h fit =
      let parts = both (has command.parts is_option name) _ fit in
      let more = both (is_value value) _ parts.1 in
      one_more (joined name value) items k k h (joined_goes name value k h parts.0) (λ next. items_end items k next more.1)
  items_end (alone name ∷ items) k h fit =
      let parts = both (has command.parts is_flag name) _ fit in
      one_more (alone name) items k k h (alone_goes name k h parts.0) (λ next. items_end items k next parts.1)
  items_end (placed name value ∷ items) k h fit =
      let parts = both (stands_at command.parts k name) _ fit in
      let more = both (is_value value) _ parts.1 in
      one_more (placed name value) items k (suc k) h (placed_goes name value k h parts.0 more.0) (λ next. items_end items (suc k) next more.1)
