-- What the word of an item looks like to clap, and which word looks so.
use Rattle.std.proofs.Common.{◌≡◌, ◌≢◌, ◌<◌, inl, inr, ℕ, ◌==◌, ◌&&◌, ◌||◌, Bool, cond, not, zero, suc, true, false, true≢false, [], ◌∷◌, ◌++◌, length, get_or, Option, Some, None, option_and_then, codes, bytes_eq, refl, sym, subst, ap, ap₂, ◌∙◌, arith}
use Rattle.std.specs.List.{after_first, before_first, position_or_len}
use Rattle.std.proofs.lemmas.Bool.{cases_lt}
use Rattle.std.proofs.lemmas.Bool.Decides.{nat_tests}
use Rattle.std.proofs.lemmas.List.Folds.{list_any_none}
use Rattle.std.proofs.lemmas.List.Sums.{fails_before_first, passes_at_first, split_at_first}
use Rattle.std.proofs.lemmas.Slice.Eq.{bytes_eq-Decides}
use Rattle.clap.specs.Lexer.{has_byte, long_of, long_of_rest, name_and_value, short_of, strip_byte}
use Rattle.clap.specs.Walk.{Text, is_empty}
use Rattle.clap.proofs.CutLemmas.{Lacks}
use Rattle.clap.proofs.LexerLemmas.{name_and_value-at, name_and_value-without}
use Rattle.clap.proofs.WalkLemmas.{both}
use Rattle.hb_options.specs.Items.{is_name, is_value}
use Rattle.hb_options.proofs.Rules.{taken}

-- ---- how a word is read that an item spells

neither : (a b : Bool) → (a || b) ≡ false → (a ≡ false) × (b ≡ false)
neither true b e = absurd (true≢false e)
neither false b e = (refl, e)

lacks_at : (text : Text) (i : ℕ) → has_byte 61 text ≡ false → i < length text → get_or text i 0 ≢ 61
lacks_at [] i none below = absurd (omega arith)
lacks_at (b ∷ text) zero none below = let e = (neither (b == 61) _ none).0 in grind (arith, nat_tests)
lacks_at (b ∷ text) (suc i) none below = lacks_at text i (neither (b == 61) _ none).1 (omega arith)

is_false : (b : Bool) → not b ≡ true → b ≡ false
is_false true e = absurd (true≢false (sym e))
is_false false e = refl

lacks : (name : Text) → is_name name ≡ true → Lacks 61 name
lacks name is i below = lacks_at name i (is_false _ (both (not (is_empty name)) _ is).1) below

-- a word that clap reads as this name and value
abbrev pub Reads : Text → Text → Option Text → Type 0
Reads word name value = (long_of word ≡ Some (name, value)) × (bytes_eq word (45 ∷ 45 ∷ []) ≡ false)

pub reads_name : (name : Text) → is_name name ≡ true → Reads (codes "--" ++ name) name None
reads_name [] is = absurd (true≢false (sym is))
reads_name (b ∷ name) is = (ap Some (name_and_value-without (b ∷ name) (lacks (b ∷ name) is)), refl)

pub reads_value : (name value : Text) → is_name name ≡ true → Reads (codes "--" ++ (name ++ (codes "=" ++ value))) name (Some value)
reads_value [] value is = absurd (true≢false (sym is))
reads_value (b ∷ name) value is = (ap Some (name_and_value-at (b ∷ name) value (lacks (b ∷ name) is)), refl)

-- a value is no option, no bundle, and no `--`
abbrev pub IsPlainWord : Text → Type 0
IsPlainWord word = (long_of word ≡ None) × (short_of word ≡ None) × (bytes_eq word (45 ∷ 45 ∷ []) ≡ false)

no_dash : (b : ℕ) (word : Text) → (b == 45) ≡ false → IsPlainWord (b ∷ word)
no_dash b word e = (rw e refl, rw e refl, differs (b == 45) e) where
  differs : (t : Bool) → t ≡ false → (t && bytes_eq word (45 ∷ [])) ≡ false
  differs true e = absurd (true≢false e)
  differs false e = refl

pub reads_plain : (word : Text) → is_value word ≡ true → IsPlainWord word
reads_plain [] is = absurd (true≢false (sym is))
reads_plain (b ∷ word) is = no_dash b word (is_false (b == 45) is)

-- ---- which word is read so

cut_at : (text : Text) → has_byte 61 text ≡ true → text ≡ before_first (λ x. x == 61) text ++ (codes "=" ++ after_first (λ x. x == 61) text)
cut_at text there = elim (cases_lt (position_or_len (λ x. x == 61) text) (length text)) [
  | inl below ↦ let sign = passes_at_first (λ x. x == 61) text 0 below in
      let is : get_or text (position_or_len (λ x. x == 61) text) 0 ≡ 61 = grind (arith, nat_tests) in
      split_at_first (λ x. x == 61) text 0 below
      ∙ ap (λ (b : ℕ). before_first (λ x. x == 61) text ++ b ∷ after_first (λ x. x == 61) text) is
  | inr past ↦ absurd (true≢false (sym there ∙ list_any_none (λ x. x == 61) text
      (λ k d below. fails_before_first (λ x. x == 61) text k d (omega arith))))
]

-- what a text behind two dashes is, by its name and value
abbrev Behind : Text → Text → Option Text → Type 0
Behind text name None = text ≡ name
Behind text name (Some value) = text ≡ name ++ (codes "=" ++ value)

behind_if : (text name : Text) (value : Option Text) (signed : Bool) → has_byte 61 text ≡ signed
    → name_and_value text ≡ (name, value) → Behind text name value
behind_if text name value true signed is = after name value
    (ap (λ (p : Text × Option Text). p.0) is)
    (sym (taken (has_byte 61 text) (Some (after_first (λ x. x == 61) text)) None signed) ∙ ap (λ (p : Text × Option Text). p.1) is)
  where
    after : (name : Text) (value : Option Text) → before_first (λ x. x == 61) text ≡ name → Some (after_first (λ x. x == 61) text) ≡ value
        → Behind text name value
    after name None n is = cc
    after name (Some value) n is =
        let v : after_first (λ x. x == 61) text ≡ value = cc in cut_at text signed ∙ ap₂ (λ (a b : Text). a ++ (codes "=" ++ b)) n v
behind_if text name None false signed is =
    ap (λ (p : Text × Option Text). p.0) (sym (name_and_value-without text (λ i below. lacks_at text i signed below)) ∙ is)
behind_if text name (Some value) false signed is =
    let none : None ≡ Some value = ap (λ (p : Text
    × Option Text). p.1) (sym (name_and_value-without text (λ i below. lacks_at text i signed below)) ∙ is) in cc

rest_behind : (text name : Text) (value : Option Text) → long_of_rest text ≡ Some (name, value) → Behind text name value
rest_behind [] name value is = cc
rest_behind (b ∷ text) name value is =
    behind_if (b ∷ text) name value (has_byte 61 (b ∷ text)) refl (let e : name_and_value (b ∷ text) ≡ (name, value) = cc in e)

-- the word is two dashes and what stands behind them
abbrev IsLong : Text → Text → Option Text → Type 0
IsLong word name value = (text : Text) × (word ≡ 45 ∷ 45 ∷ text) × (long_of_rest text ≡ Some (name, value))

second_dash : (b : ℕ) (text name : Text) (value : Option Text) (t : Bool) → (b == 45) ≡ t
    → option_and_then long_of_rest (cond t (Some text) None) ≡ Some (name, value) → IsLong (45 ∷ b ∷ text) name value
second_dash b text name value true dash is =
    let e : b ≡ 45 = grind (arith, nat_tests) in (text, ap (λ (c : ℕ). 45 ∷ c ∷ text) e, is)
second_dash b text name value false dash is = cc

first_dash : (a : ℕ) (rest name : Text) (value : Option Text) (t : Bool) → (a == 45) ≡ t
    → option_and_then long_of_rest (option_and_then (strip_byte 45) (cond t (Some rest) None)) ≡ Some (name, value)
    → IsLong (a ∷ rest) name value
first_dash a [] name value true dash is = cc
first_dash a (b ∷ text) name value true dash is =
    let e : 45 ≡ a = grind (arith, nat_tests) in
    subst (λ (c : ℕ). IsLong (c ∷ b ∷ text) name value) e (second_dash b text name value (b == 45) refl is)
first_dash a rest name value false dash is = cc

is_long : (word name : Text) (value : Option Text) → long_of word ≡ Some (name, value) → IsLong word name value
is_long [] name value is = cc
is_long (a ∷ rest) name value is = first_dash a rest name value (a == 45) refl is

pub name_spelled : (word name : Text) → long_of word ≡ Some (name, None) → word ≡ codes "--" ++ name
name_spelled word name is =
    let found = is_long word name None is in found.1 ∙ ap (λ (t : Text). 45 ∷ 45 ∷ t) (rest_behind found.0 name None found.2)

pub value_spelled : (word name value : Text) → long_of word ≡ Some (name, Some value) → word ≡ codes "--" ++ (name ++ (codes "=" ++ value))
value_spelled word name value is =
    let found = is_long word name (Some value) is in
    found.1 ∙ ap (λ (t : Text). 45 ∷ 45 ∷ t) (rest_behind found.0 name (Some value) found.2)

-- `--` is no long word
pub not_dashes : (word : Text) (p : Text × Option Text) → long_of word ≡ Some p → bytes_eq word (45 ∷ 45 ∷ []) ≡ false
not_dashes word p is = go (bytes_eq word (45 ∷ 45 ∷ [])) refl where
  go : (b : Bool) → bytes_eq word (45 ∷ 45 ∷ []) ≡ b → b ≡ false
  go false e = refl
  go true e = let none : None ≡ Some p = ap long_of (sym ((bytes_eq-Decides word (45 ∷ 45 ∷ [])).0 e)) ∙ is in cc
