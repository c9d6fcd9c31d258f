-- Where a level of a parse has no fault, it passes. The words of clap's two definitions mirror one another.
use Rattle.std.proofs.Common.{◌≡◌, ◌+◌, ◌==◌, ◌&&◌, ◌||◌, not, ℕ, zero, suc, min, Bool, cond, true, false, true≢false, List, [], ◌∷◌, length, drop, Option, Some, None, is_some, slice_get, bytes_eq, chars, codes, encode_utf8, nat_le, nat_lt, refl, ap₂, arith}
use Rattle.std.specs.List.{list_all, list_any}
use Rattle.std.specs.Option.{option_map_or}
use Rattle.std.proofs.lemmas.Bool.Decides.{nat_tests}
use Rattle.clap.specs.Facts.{explicit_source, parser_of_value, unwrap_or_range}
use Rattle.clap.specs.Faults.{action_fault, bundle_fault, bundle_step_fault, check_fault, count_fault, defaults_fault, flag_word_fault, flags_fault, level_fault, long_fault, option_fault, other_fault, positional_fault, react_fault, set_fault, settle_fault, short_fault, step_fault, stray_fault, turn_fault, use_fault, values_fault, walk_fault, word_fault}
use Rattle.clap.specs.Kinds.{Kinds, check_kinds, or_else, range_kinds, value_kinds}
use Rattle.clap.specs.Lexer.{long_of, short_of}
use Rattle.clap.specs.Matches.{count_text}
use Rattle.clap.specs.Simple.{Shape}
use Rattle.clap.specs.Takes.{action_passes, bundle_passes, bundle_step_passes, count_passes, default_passes, flag_word_passes, flags_pass, is_given, is_valid, level_passes, long_passes, option_passes, other_passes, positional_passes, react_passes, set_passes, settle_passes, short_passes, step_passes, turn_passes, use_passes, values_pass, walk_passes, word_passes}
use Rattle.clap.specs.ValueTests.{accepts}
use Rattle.clap.specs.Walk.{Held, Names, Row, Rule, Step, Text, Waiting, Walk, next, trailing, subcommand, value, action_of, arg_by_id, arg_by_index, arg_by_long, arg_by_short, attached_value, count_of, finished, has_row, is_pending, most_values, reacted, settled, subcommand_met, takes_several, takes_values, values_or_missing, walk, walk_from, walked, word_met}
use Rattle.clap.specs.declared.builder.action.ArgAction.{ArgAction}
use Rattle.clap.specs.declared.builder.action.ArgAction.TheVariants as action
use Rattle.clap.specs.declared.builder.value_parser.ValueParser.{ValueParser}
use Rattle.clap.specs.declared.error.kind.ErrorKind.{ErrorKind}
use Rattle.clap.specs.declared.error.kind.ErrorKind.TheVariants as kind

-- ---- kinds

-- neither of two steps has a fault
none_of : (a b : Kinds) → or_else a b ≡ [] → (a ≡ []) × (b ≡ [])
none_of [] b e = (refl, e)
none_of (k ∷ ks) b e = cc

both_pass : (a b : Bool) → a ≡ true → b ≡ true → (a && b) ≡ true
both_pass a b e f = ap₂ (λ (x y : Bool). x && y) e f

some_kind : (k : ErrorKind) (ks : Kinds) → k ∷ ks ≡ [] → ⊥
some_kind k ks e = cc

value_ok : (i : Bool) (p : ValueParser) (t : Text) (k : ErrorKind) (b : Bool) → accepts i p t ≡ b → cond b [] (k ∷ []) ≡ []
    → accepts i p t ≡ true
value_ok i p t k true is e = is
value_ok i p t k false is e = absurd (some_kind _ _ e)

values_ok : (a : Rule) (vs : List Text) → values_fault a vs ≡ [] → values_pass a vs ≡ true
values_ok a [] e = refl
values_ok a (v ∷ vs) e =
    let parts = none_of (value_kinds a.ignore_case (parser_of_value a.parser) v) _ e in
    both_pass _ _ (value_ok a.ignore_case (parser_of_value a.parser) v _ _ refl parts.0) (values_ok a vs parts.1)

range_ok : (least most n : ℕ) (none same exact few many : Bool) (a b d f : ErrorKind)
    → (least == most) ≡ same → (least == n) ≡ exact → nat_lt n least ≡ few → nat_lt most n ≡ many
    → cond none (a ∷ []) (cond same (cond exact [] (b ∷ [])) (cond few (d ∷ []) (cond many (f ∷ []) []))) ≡ []
    → (nat_le least n ≡ true) × (nat_le n most ≡ true)
range_ok least most n true same exact few many a b d f s x l m e = absurd (some_kind _ _ e)
range_ok least most n false true true few many a b d f s x l m e = (grind (arith, nat_tests), grind (arith, nat_tests))
range_ok least most n false true false few many a b d f s x l m e = absurd (some_kind _ _ e)
range_ok least most n false false exact true many a b d f s x l m e = absurd (some_kind _ _ e)
range_ok least most n false false exact false true a b d f s x l m e = absurd (some_kind _ _ e)
range_ok least most n false false exact false false a b d f s x l m e = (grind (arith, nat_tests), grind (arith, nat_tests))

-- ---- one use of an argument

count_ok : (a : Rule) (vs : List Text) (rows : List Row) → count_fault a vs rows ≡ [] → count_passes a vs rows ≡ true
count_ok a [] rows e = value_ok a.ignore_case (parser_of_value a.parser) (count_text (min (count_of a.id rows + 1) 255)) _ _ refl e
count_ok a (v ∷ vs) rows e = values_ok a (v ∷ vs) e

repeat_ok : (had again : Bool) (k : ErrorKind) → cond (had && not again) (k ∷ []) [] ≡ [] → (not had || again) ≡ true
repeat_ok true true k e = refl
repeat_ok true false k e = absurd (some_kind _ _ e)
repeat_ok false again k e = refl

set_ok : (again : Bool) (a : Rule) (vs : List Text) (rows : List Row) → set_fault again a vs rows ≡ [] → set_passes again a vs rows ≡ true
set_ok again a vs rows e =
    let parts = none_of _ _ e in both_pass _ _ (repeat_ok (has_row a.id rows) again _ parts.0) (values_ok a vs parts.1)

action_ok : (x : ArgAction) (again : Bool) (a : Rule) (vs : List Text) (rows : List Row) → action_fault x again a vs rows ≡ []
    → action_passes x again a vs rows ≡ true
action_ok action.Set again a vs rows e = set_ok again a vs rows e
action_ok action.SetTrue again a vs rows e = set_ok again a vs rows e
action_ok action.SetFalse again a vs rows e = set_ok again a vs rows e
action_ok action.Append again a vs rows e = values_ok a vs e
action_ok action.Count again a vs rows e = count_ok a vs rows e
action_ok action.Help again a vs rows e = absurd (some_kind _ _ e)
action_ok action.HelpShort again a vs rows e = absurd (some_kind _ _ e)
action_ok action.HelpLong again a vs rows e = absurd (some_kind _ _ e)
action_ok action.Version again a vs rows e = absurd (some_kind _ _ e)

use_ok : (again : Bool) (a : Rule) (vs : List Text) (rows : List Row) → use_fault again a vs rows ≡ [] → use_passes again a vs rows ≡ true
use_ok again a vs rows e =
    let parts = none_of (range_kinds (unwrap_or_range a.range).start_inclusive (most_values a) (length vs)) _ e in
    let range = range_ok (unwrap_or_range a.range).start_inclusive (most_values a) (length vs) _ _ _ _ _ _ _ _ _ refl refl refl refl parts.0 in
    both_pass _ _ range.0 (both_pass _ _ range.1 (action_ok (action_of a) again a (values_or_missing a vs) rows parts.1))

-- ---- the walk

module _ (rules : List Rule) (again : Bool) where
  settle_ok : (h : Held) → settle_fault rules again h ≡ [] → settle_passes rules again h ≡ true
  settle_ok h = pending h.pending where
    used : (o : Option Rule) (vs : List Text) → option_map_or (λ a. use_fault again a vs h.rows) o [] ≡ []
        → option_map_or (λ a. use_passes again a vs h.rows) o true ≡ true
    used None vs e = refl
    used (Some a) vs e = use_ok again a vs h.rows e

    pending : (o : Option (Text × List Text))
        → option_map_or (λ p. option_map_or (λ a. use_fault again a p.1 h.rows) (arg_by_id rules p.0) []) o [] ≡ []
        → option_map_or (λ p. option_map_or (λ a. use_passes again a p.1 h.rows) (arg_by_id rules p.0) true) o true ≡ true
    pending None e = refl
    pending (Some p) e = used (arg_by_id rules p.0) p.1 e

  react_ok : (a : Rule) (vs : List Text) (h : Held) → react_fault rules again a vs h ≡ [] → react_passes rules again a vs h ≡ true
  react_ok a vs h e = let parts = none_of (settle_fault rules again h) _ e in
      both_pass _ _ (settle_ok h parts.0) (use_ok again a vs (settled rules h).rows parts.1)

  option_ok : (a : Rule) (v : Option Text) (h : Held) → option_fault rules again a v h ≡ [] → option_passes rules again a v h ≡ true
  option_ok a (Some v) h e = react_ok a (v ∷ []) h e
  option_ok a None h e = settle_ok h e

  long_ok : (r : Option Rule) (v : Option Text) (h : Held) → long_fault rules again r v h ≡ [] → long_passes rules again r v h ≡ true
  long_ok None v h e = absurd (some_kind _ _ e)
  long_ok (Some a) v h e = go (takes_values a) v e where
    go : (b : Bool) (v : Option Text)
        → cond b (option_fault rules again a v h) (cond (is_some v) (kind.TooManyValues ∷ []) (react_fault rules again a [] h)) ≡ []
        → cond b (option_passes rules again a v h) (not (is_some v) && react_passes rules again a [] h) ≡ true
    go true v e = option_ok a v h e
    go false None e = react_ok a [] h e
    go false (Some v) e = absurd (some_kind _ _ e)

  short_ok : (r : Option Rule) (rest : Text) (h : Held) (faults : Held → Kinds) (passes : Held → Bool)
      → ((g : Held) → faults g ≡ [] → passes g ≡ true)
      → short_fault rules again r rest h faults ≡ [] → short_passes rules again r rest h passes ≡ true
  short_ok None rest h faults passes ok e = absurd (some_kind _ _ e)
  short_ok (Some a) rest h faults passes ok e = go (takes_values a) e where
    go : (b : Bool)
        → cond b (option_fault rules again a (attached_value rest) h) (or_else (react_fault rules again a [] h) (faults (reacted rules a [] h))) ≡ []
        → cond b (option_passes rules again a (attached_value rest) h) (react_passes rules again a [] h && passes (reacted rules a [] h))
        ≡ true
    go true e = option_ok a (attached_value rest) h e
    go false e = let parts = none_of (react_fault rules again a [] h) _ e in
        both_pass _ _ (react_ok a [] h parts.0) (ok (reacted rules a [] h) parts.1)

  bundle_step_ok : (x : Option ℕ) (flags : Text) (skip : ℕ) (h : Held) (faults : Text → ℕ → Held → Kinds) (passes : Text → ℕ → Held → Bool)
      → ((t : Text) (n : ℕ) (g : Held) → faults t n g ≡ [] → passes t n g ≡ true)
      → bundle_step_fault rules again x flags skip h faults ≡ [] → bundle_step_passes rules again x flags skip h passes ≡ true
  bundle_step_ok None flags skip h faults passes ok e = refl
  bundle_step_ok (Some x) flags zero h faults passes ok e =
      let rest = drop (length (encode_utf8 x)) flags in short_ok (arg_by_short rules x) rest h (faults rest 0) (passes rest 0) (ok rest 0) e
  bundle_step_ok (Some x) flags (suc skip) h faults passes ok e = ok (drop (length (encode_utf8 x)) flags) skip h e

  flags_ok : (k : ℕ) (flags : Text) (skip : ℕ) (h : Held) → flags_fault rules again k flags skip h ≡ []
      → flags_pass rules again k flags skip h ≡ true
  unfolding flags_fault flags_pass
  flags_ok zero flags skip h e = refl
  flags_ok (suc k) flags skip h e =
      bundle_step_ok (slice_get (chars flags) 0) flags skip h (flags_fault rules again k) (flags_pass rules again k) (λ t n g f. flags_ok k t n g f) e

  flag_word_ok : (p : Option (Text × Option Text)) (word : Text) (h : Held) → flag_word_fault rules again p word h ≡ []
      → flag_word_passes rules again p word h ≡ true
  flag_word_ok (Some p) word h e = long_ok (arg_by_long rules p.0) p.1 h e
  flag_word_ok None word h e = go (short_of word) e where
    go : (o : Option Text) → option_map_or (λ flags. bundle_fault rules again flags h) o [] ≡ []
        → option_map_or (λ flags. bundle_passes rules again flags h) o true ≡ true
    go None e = refl
    go (Some flags) e = flags_ok (length flags) flags h.skip (record h { skip = 0 }) e

  positional_ok : (a : Rule) (h : Held) → positional_fault rules again a h ≡ [] → positional_passes rules again a h ≡ true
  positional_ok a h = go (is_pending a h.pending && takes_several a) where
    go : (b : Bool) → cond b [] (settle_fault rules again h) ≡ [] → (b || settle_passes rules again h) ≡ true
    go true e = refl
    go false e = settle_ok h e

module _ (s : Shape) (names : Names) where
  other_ok : (o : Option Text) (word : Text) (h : Held) → other_fault s o word h ≡ [] → other_passes s o word h ≡ true
  other_ok (Some name) word h = go (bytes_eq name (codes "help")) s.disable_help_subcommand where
    go : (help off : Bool) → cond (help && not off) (kind.DisplayHelp ∷ kind.InvalidSubcommand ∷ []) [] ≡ [] → (not help || off) ≡ true
    go true true e = refl
    go true false e = absurd (some_kind _ _ e)
    go false off e = refl
  other_ok None word h = go (bytes_eq word (45 ∷ 45 ∷ [])) where
    go : (b : Bool) → cond b [] (flag_word_fault s.rules s.args_override_self (long_of word) word h) ≡ []
        → (b || flag_word_passes s.rules s.args_override_self (long_of word) word h) ≡ true
    go true e = refl
    go false e = flag_word_ok s.rules s.args_override_self (long_of word) word h e

  word_ok : (trails : Bool) (waits : Waiting) (word : Text) (h : Held) → word_fault s names trails waits word h ≡ []
      → word_passes s names trails waits word h ≡ true
  word_ok true waits word h e = refl
  word_ok false waits word h e = other_ok (subcommand_met names waits word) word h e

  stray : (b : Bool) → cond b (kind.UnknownArgument ∷ []) (kind.UnknownArgument ∷ kind.InvalidSubcommand ∷ []) ≡ [] → ⊥
  stray true e = some_kind _ _ e
  stray false e = some_kind _ _ e

  step_ok : (position : ℕ) (h : Held) (step : Step) → step_fault s position h step ≡ [] → step_passes s position h step ≡ true
  step_ok position h value e = go (arg_by_index s.rules position) e where
    go : (o : Option Rule) → option_map_or (λ a. positional_fault s.rules s.args_override_self a h) o (stray_fault s) ≡ []
        → option_map_or (λ a. positional_passes s.rules s.args_override_self a h) o false ≡ true
    go None e = absurd (stray s.is_leaf e)
    go (Some a) e = positional_ok s.rules s.args_override_self a h e
  step_ok position h (next waits) e = refl
  step_ok position h (trailing p) e = refl
  step_ok position h (subcommand name) e = refl

  turn_ok : (w : Walk) (word : Text) → turn_fault s names w word ≡ [] → turn_passes s names w word ≡ true
  turn_ok w word = go (is_some w.stopped) (word_met s.rules names w.is_trailing w.waiting w.position word w.held) where
    go : (b : Bool) (met : Held × Step)
        → cond b [] (or_else (word_fault s names w.is_trailing w.waiting word w.held) (step_fault s w.position met.0 met.1)) ≡ []
        → (b || (word_passes s names w.is_trailing w.waiting word w.held && step_passes s w.position met.0 met.1)) ≡ true
    go true met e = refl
    go false met e = let parts = none_of (word_fault s names w.is_trailing w.waiting word w.held) _ e in
        both_pass _ _ (word_ok w.is_trailing w.waiting word w.held parts.0) (step_ok w.position met.0 met.1 parts.1)

  walk_ok : (w : Walk) (words : List Text) → walk_fault s names w words ≡ [] → walk_passes s names w words ≡ true
  unfolding walk_fault walk_passes
  walk_ok w [] e = refl
  walk_ok w (word ∷ words) e =
      let parts = none_of (turn_fault s names w word) _ e in
      both_pass _ _ (turn_ok w word parts.0) (walk_ok (walked s.rules names w word) words parts.1)

  -- ---- after the walk

  -- no argument that is required is missing
  none_missing : (rules : List Rule) (rs : List Row) → list_any (λ a. a.required && not (is_given a.id rs)) rules ≡ false
      → list_all (λ a. not a.required || is_given a.id rs) rules ≡ true
  none_missing [] rs e = refl
  none_missing (a ∷ rules) rs e = go a.required (is_given a.id rs) e (none_missing rules rs) where
    go : (required given : Bool) → ((required && not given) || list_any (λ b. b.required && not (is_given b.id rs)) rules) ≡ false
        → (list_any (λ b. b.required && not (is_given b.id rs)) rules ≡ false
        → list_all (λ b. not b.required || is_given b.id rs) rules ≡ true)
        → ((not required || given) && list_all (λ b. not b.required || is_given b.id rs) rules) ≡ true
    go true true e rest = rest e
    go true false e rest = absurd (true≢false e)
    go false given e rest = rest e

  check_ok : (rs : List Row) (has : Bool) → list_all (λ a. a.is_free) s.rules ≡ true → check_fault s rs has ≡ [] → is_valid s rs has ≡ true
  check_ok rs has free =
      go has s.arg_required_else_help (list_any (λ r. explicit_source r.source) rs) s.subcommand_required s.subcommand_negates_reqs
      (list_any (λ a. a.required && not (is_given a.id rs)) s.rules) refl
    where
      required : (negates has misses : Bool) → list_any (λ a. a.required && not (is_given a.id rs)) s.rules ≡ misses
          → cond (not (negates && has) && misses) (kind.MissingRequiredArgument ∷ []) [] ≡ []
          → (list_all (λ a. a.is_free) s.rules && ((negates && has) || list_all (λ a. not a.required || is_given a.id rs) s.rules)) ≡ true
      required true true misses is e = both_pass _ _ free refl
      required true false true is e = absurd (some_kind _ _ e)
      required true false false is e = both_pass _ _ free (none_missing s.rules rs is)
      required false has true is e = absurd (some_kind _ _ e)
      required false has false is e = both_pass _ _ free (none_missing s.rules rs is)

      go : (has helps given wants negates misses : Bool) → list_any (λ a. a.required && not (is_given a.id rs)) s.rules ≡ misses
          → check_kinds (not has && (helps && not given)) (not has && wants) (not (negates && has) && misses) ≡ []
          → ((not helps || (has || given)) && ((not wants || has) && (list_all (λ a. a.is_free) s.rules
          && ((negates && has) || list_all (λ a. not a.required || is_given a.id rs) s.rules)))) ≡ true
      go true true given true negates misses is e = required negates true misses is e
      go true true given false negates misses is e = required negates true misses is e
      go true false given true negates misses is e = required negates true misses is e
      go true false given false negates misses is e = required negates true misses is e
      go false true false wants negates misses is e = absurd (some_kind _ _ e)
      go false true true true negates misses is e = absurd (some_kind _ _ e)
      go false true true false negates misses is e = required negates false misses is e
      go false false given true negates misses is e = absurd (some_kind _ _ e)
      go false false given false negates misses is e = required negates false misses is e

  pub level_ok : (h : Held) (words : List Text) (has : Bool) (below : Kinds) → list_all default_passes s.rules ≡ true
      → list_all (λ a. a.is_free) s.rules ≡ true → level_fault s names h words has below ≡ [] → level_passes s names h words has ≡ true
  level_ok h words has below defaults free e =
      let end = (walk s.rules names h words).held in
      let walks = none_of (walk_fault s names (walk_from h) words) _ e in
      let settles = none_of (settle_fault s.rules s.args_override_self end) _ (none_of below _ walks.1).1 in
      let checks = none_of (defaults_fault (settled s.rules end).rows s.rules) _ settles.1 in
      both_pass _ _ (walk_ok (walk_from h) words walks.0)
      (both_pass _ _ (settle_ok s.rules s.args_override_self end settles.0)
      (both_pass _ _ defaults (check_ok (finished s.rules end) has free checks.1)))

  pub below_ok : (h : Held) (words : List Text) (has : Bool) (below : Kinds) → level_fault s names h words has below ≡ [] → below ≡ []
  below_ok h words has below e = (none_of below _ (none_of (walk_fault s names (walk_from h) words) _ e).1).0
