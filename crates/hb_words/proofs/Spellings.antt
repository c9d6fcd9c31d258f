-- The words that are accepted are the spellings of items of a command.
use Rattle.std.proofs.Common.{◌≡◌, Bool, true, false, true≢false, ◌&&◌, cond, List, [], ◌∷◌, Option, Some, None, option_and_then}
use Rattle.std.proofs.Common.{option_map, inl, inr, Result, Ok, Err, codes, bytes_eq, refl, sym, subst, ap, ap₂, ◌∙◌}
use Rattle.std.specs.List.{list_all}
use Rattle.std.specs.Prelude.{◌⊎◌}
use Rattle.std.proofs.lemmas.Bool.{and_parts}
use Rattle.std.proofs.lemmas.Slice.Eq.{bytes_eq-Decides}
use Rattle.clap.proofs.OnLiterals.{clap_on_literals}
use Rattle.clap.proofs.WalkLemmas.{first_value-rows}
use Rattle.clap.specs.Matches.{first_value}
use Rattle.clap.specs.Simple.{subcommand_rows_of}
use Rattle.clap.specs.Takes.{takes}
use Rattle.clap.specs.Walk.{Row, Text, first_of, rows_of}
use Rattle.clap.specs.declared.parser.matches.ArgMatches.{ArgMatches}
use Rattle.clap.specs.declared.parser.matches.Found.{Found}
use Rattle.hb_options.proofs.Top.{takes_spelled_items, are_spelled_cleanly, spells_taken_words, gives_items_values}
use Rattle.hb_options.specs.Items.{Part, Command, Item, Spells, Refused, command_named as declared_named, part_named, are_proper}
use Rattle.hb_options.specs.Items.{is_clean, value_of}
use Rattle.hb_options.specs.Read.{Reads}
use Rattle.hb_options.specs.Taken.{Gives}
use Rattle.hb_words.specs.declared.fault.Why.{Why}
use Rattle.hb_words.specs.declared.fault.WordsFault.{WordsFault}
use Rattle.hb_words.specs.declared.fault.WordsFault.TheVariants.{UnknownCommand, Behind}
use Rattle.hb_words.specs.declared.part.CommandName.{CommandName}
use Rattle.hb_words.specs.declared.part.CommandName.TheVariants.{Check, Route, Show, Make, Replay, Serve}
use Rattle.hb_words.specs.declared.page.Page.{Page}
use Rattle.hb_words.specs.declared.page.Page.TheVariants.{Commands, Words, Version}
use Rattle.hb_words.specs.Command.{Command as Asked, prints}
use Rattle.hb_words.specs.Grammar.{command_text, parts_of, declared, commands}
use Rattle.hb_words.specs.Page.{SpellsPage, page_of}
use Rattle.hb_words.specs.Part.{command_named}
use Rattle.hb_words.specs.Values.{asked_by}
use Rattle.hb_words.specs.Why.{shown, step, walk, why_of}
use Rattle.hb_words.specs.Words.{program, is_accepted, values_of, or_behind, behind, command_first, of_named, command_by, or_page}
use Rattle.hb_words.specs.Words.{words_of, values_among, ReadsSpelledItems, ReadsPages, AsksForPage, AsksByItems, AcceptsThese}
use Rattle.hb_words.specs.Words.{OthersAskForNone}
use Rattle.hb_words.proofs.Alike.{asked_alike}

pub are_all_proper : are_proper commands ≡ true
are_all_proper = refl

-- ---- the command that a word names

own_named : (c : CommandName) → command_named (command_text c) ≡ Some c
own_named Check = refl
own_named Route = refl
own_named Show = refl
own_named Make = refl
own_named Replay = refl
own_named Serve = refl

same_command : (c k : CommandName) → Some c ≡ Some k → c ≡ k
same_command c k is = cc

abbrev IsDeclared : Text → Command → Type 0
IsDeclared word d = (c : CommandName) × (word ≡ command_text c) × (d ≡ declared c)

module _ (word : Text) (d : Command) where
  one_or : (c : CommandName) (rest : Option Command) (same : Bool) → bytes_eq (command_text c) word ≡ same
      → (rest ≡ Some d → IsDeclared word d) → cond same (Some (declared c)) rest ≡ Some d → IsDeclared word d
  one_or c rest true same more is =
      let e : declared c ≡ d = cc in (c, sym ((bytes_eq-Decides (command_text c) word).0 same), sym e)
  one_or c rest false same more is = more is

  is_declared : declared_named commands word ≡ Some d → IsDeclared word d
  is_declared =
      one_or Check _ _ refl
      (one_or Route _ _ refl
      (one_or Show _ _ refl (one_or Make _ _ refl (one_or Replay _ _ refl (one_or Serve None _ refl (λ is. cc))))))

-- ---- words that are accepted

accepted_spells : (words : List Text) → is_accepted words ≡ true → (d : Command) × (items : List Item) × Spells commands words d items
unfolding is_accepted
accepted_spells words is =
    let parts = and_parts (list_all is_clean words) (takes program words) is in
    spells_taken_words (codes "hbone") commands words are_all_proper parts.0 parts.1

spelled_accepted : (words : List Text) (d : Command) (items : List Item) → Spells commands words d items → is_accepted words ≡ true
unfolding is_accepted
spelled_accepted words d items spells =
    ap₂ (λ (a b : Bool). a && b) (are_spelled_cleanly commands words d items are_all_proper spells)
    (takes_spelled_items (codes "hbone") commands words d items are_all_proper spells)

behind_accepted : (c : CommandName) (words rest : List Text) → is_accepted words ≡ true
    → behind c words rest ≡ or_behind c (asked_by c (values_of words))
unfolding behind
behind_accepted c words rest is = rw is refl

behind_refused : (c : CommandName) (words rest : List Text) → is_accepted words ≡ false
    → behind c words rest ≡ Err (Behind c (why_of c rest))
unfolding behind
behind_refused c words rest is = rw is refl

-- where no command accepts the words, the fault is told
pub refused_told : (c : CommandName) (words rest : List Text) → Refused commands words
    → behind c words rest ≡ Err (Behind c (why_of c rest))
refused_told c words rest refused = go (is_accepted words) refl where
  go : (b : Bool) → is_accepted words ≡ b → behind c words rest ≡ Err (Behind c (why_of c rest))
  go true is = let found = accepted_spells words is in absurd (refused found.0 found.1 found.2)
  go false is = behind_refused c words rest is

module _ (words : List Text) (c : CommandName) (items : List Item) (spells : Spells commands words (declared c) items) where
  -- the values of the items
  values_same : (name : Text) (p : Part) → part_named (parts_of c) name ≡ Some p
      → values_of words name ≡ values_among (parts_of c) items name
  unfolding values_of
  values_same name p is =
      let given = gives_items_values (codes "hbone") commands words (declared c) items are_all_proper spells in
      ap (option_and_then (λ (found : Text × List Row). first_of name found.1)) given.1 ∙ (given.2 name p is).0
      ∙ sym (ap (option_and_then (λ (q : Part). value_of q items)) is)

  asks_same : asked_by c (values_of words) ≡ asked_by c (values_among (parts_of c) items)
  asks_same = asked_alike c (values_of words) (values_among (parts_of c) items) values_same

  words_behind : (rest : List Text) → words ≡ command_text c ∷ rest → command_by words ≡ behind c words rest
  unfolding command_by
  words_behind rest is =
      ap command_by is ∙ ap (of_named (command_text c) rest) (own_named c) ∙ ap (λ (l : List Text). behind c l rest) (sym is)

  reads_spelled : command_by words ≡ or_behind c (asked_by c (values_among (parts_of c) items))
  reads_spelled =
      words_behind _ spells.1 ∙ behind_accepted c words _ (spelled_accepted words (declared c) items spells) ∙ ap (or_behind c) asks_same

-- ---- words that ask for a page

same_page : (p q : Page) → Some p ≡ Some q → p ≡ q
same_page p q is = cc

one_word : (word : Text) (p : Page) (help version : Bool) → bytes_eq word (codes "--help") ≡ help
    → bytes_eq word (codes "--version") ≡ version
    → cond help (Some Commands) (cond version (Some Version) None) ≡ Some p → SpellsPage (word ∷ []) p
one_word word p true version helps tells is =
    subst (SpellsPage (word ∷ [])) (same_page Commands p is)
    (ap (λ (w : Text). w ∷ []) ((bytes_eq-Decides word (codes "--help")).0 helps))
one_word word p false true helps tells is =
    subst (SpellsPage (word ∷ [])) (same_page Version p is) (ap (λ (w : Text). w ∷ []) ((bytes_eq-Decides word (codes "--version")).0 tells))
one_word word p false false helps tells is = cc

module _ (name : Text) (c : CommandName) where
  named_or : (k : CommandName) (rest : Option CommandName) (same : Bool) → bytes_eq name (command_text k) ≡ same
      → (rest ≡ Some c → name ≡ command_text c) → cond same (Some k) rest ≡ Some c → name ≡ command_text c
  named_or k rest true same more is = (bytes_eq-Decides name (command_text k)).0 same ∙ ap command_text (same_command k c is)
  named_or k rest false same more is = more is

  named_text : command_named name ≡ Some c → name ≡ command_text c
  named_text =
      named_or Check _ _ refl
      (named_or Route _ _ refl
      (named_or Show _ _ refl (named_or Make _ _ refl (named_or Replay _ _ refl (named_or Serve None _ refl (λ is. cc))))))

two_words : (name word : Text) (p : Page) (help : Bool) (o : Option CommandName) → bytes_eq word (codes "--help") ≡ help
    → command_named name ≡ o → cond help (option_map Words o) None ≡ Some p → SpellsPage (name ∷ word ∷ []) p
two_words name word p true (Some c) helps names is =
    subst (SpellsPage (name ∷ word ∷ [])) (same_page (Words c) p is)
    (ap₂ (λ (n w : Text). n ∷ w ∷ []) (named_text name c names) ((bytes_eq-Decides word (codes "--help")).0 helps))
two_words name word p true None helps names is = cc
two_words name word p false o helps names is = cc

-- no others ask for one
page_spelled : (words : List Text) (p : Page) → page_of words ≡ Some p → SpellsPage words p
unfolding page_of
page_spelled [] p is = cc
page_spelled (word ∷ []) p is = one_word word p _ _ refl refl is
page_spelled (name ∷ word ∷ []) p is = two_words name word p _ _ refl refl is
page_spelled (name ∷ word ∷ third ∷ rest) p is = cc

-- and these spell no items of a command
page_unaccepted : (words : List Text) (p : Page) → SpellsPage words p → is_accepted words ≡ false
unfolding is_accepted clap_on_literals
page_unaccepted words Commands is = subst (λ (l : List Text). is_accepted l ≡ false) (sym is) refl
page_unaccepted words Version is = subst (λ (l : List Text). is_accepted l ≡ false) (sym is) refl
page_unaccepted words (Words Check) is = subst (λ (l : List Text). is_accepted l ≡ false) (sym is) refl
page_unaccepted words (Words Route) is = subst (λ (l : List Text). is_accepted l ≡ false) (sym is) refl
page_unaccepted words (Words Show) is = subst (λ (l : List Text). is_accepted l ≡ false) (sym is) refl
page_unaccepted words (Words Make) is = subst (λ (l : List Text). is_accepted l ≡ false) (sym is) refl
page_unaccepted words (Words Replay) is = subst (λ (l : List Text). is_accepted l ≡ false) (sym is) refl
page_unaccepted words (Words Serve) is = subst (λ (l : List Text). is_accepted l ≡ false) (sym is) refl

accepted_no_page : (words : List Text) → is_accepted words ≡ true → page_of words ≡ None
accepted_no_page words accepted = go (page_of words) refl where
  go : (o : Option Page) → page_of words ≡ o → page_of words ≡ None
  go None is = is
  go (Some p) is = absurd (true≢false (sym accepted ∙ page_unaccepted words p (page_spelled words p is)))

by_command : (words : List Text) → page_of words ≡ None → words_of words ≡ command_by words
unfolding words_of
by_command words is = ap (λ (o : Option Page). or_page o (command_by words)) is

by_page : (words : List Text) (p : Page) → page_of words ≡ Some p → words_of words ≡ Ok (prints p)
unfolding words_of
by_page words p is = ap (λ (o : Option Page). or_page o (command_by words)) is

page_is : (words : List Text) (p : Page) → SpellsPage words p → page_of words ≡ Some p
unfolding page_of
page_is words Commands is = ap page_of is
page_is words Version is = ap page_of is
page_is words (Words c) is = ap page_of is ∙ ap (option_map Words) (own_named c)

-- ---- the laws

pub reads_spelled_items : ReadsSpelledItems
reads_spelled_items words c items spells =
    by_command words (accepted_no_page words (spelled_accepted words (declared c) items spells)) ∙ reads_spelled words c items spells

pub reads_pages : ReadsPages
reads_pages words p is = by_page words p (page_is words p is)

asked_behind : (c : CommandName) (asked : Asked) (r : Result Asked Why) → or_behind c r ≡ Ok asked → r ≡ Ok asked
asked_behind c asked (Ok x) is = cc
asked_behind c asked (Err why) is = cc

from_accepted : (words : List Text) (asked : Asked) → is_accepted words ≡ true → command_by words ≡ Ok asked → AsksByItems words asked
from_accepted words asked accepted is =
    let found = accepted_spells words accepted in
    let named = is_declared found.0.name found.0 found.2.0 in
    let spells = subst (λ (d : Command). Spells commands words d found.1) named.2 found.2 in
    (named.0, found.1, spells, asked_behind named.0 asked _ (sym (reads_spelled words named.0 found.1 spells) ∙ is))

from_named : (word : Text) (rest : List Text) (asked : Asked) (o : Option CommandName) (b : Bool) → command_named word ≡ o
    → is_accepted (word ∷ rest) ≡ b → command_by (word ∷ rest) ≡ Ok asked → AsksByItems (word ∷ rest) asked
unfolding command_by
from_named word rest asked o true named accepted is = from_accepted (word ∷ rest) asked accepted is
from_named word rest asked None false named accepted is =
    let told : Err (UnknownCommand (shown word)) ≡ Ok asked = sym (ap (of_named word rest) named) ∙ is in
    cc
from_named word rest asked (Some c) false named accepted is =
    let told : behind c (word ∷ rest) rest ≡ Ok asked = sym (ap (of_named word rest) named) ∙ is in
    let refused = behind_refused c (word ∷ rest) rest accepted in
    cc

same_asked : (a b : Asked) (r : Result Asked WordsFault) → r ≡ Ok a → r ≡ Ok b → a ≡ b
same_asked a b r is so = let same : Ok a ≡ Ok b = sym is ∙ so in cc

asked_by_items : (words : List Text) (asked : Asked) → command_by words ≡ Ok asked → AsksByItems words asked
unfolding command_by
asked_by_items [] asked is = cc
asked_by_items (word ∷ rest) asked is =
    from_named word rest asked (command_named word) (is_accepted (word ∷ rest)) refl refl is

pub accepts_these : AcceptsThese
accepts_these words asked is = go (page_of words) refl where
  go : (o : Option Page) → page_of words ≡ o → AsksForPage words asked ⊎ AsksByItems words asked
  go (Some p) found = inl (p, page_spelled words p found, same_asked asked (prints p) (words_of words) is (by_page words p found))
  go None found = inr (asked_by_items words asked (sym (by_command words found) ∙ is))

pub others_ask_for_none : OthersAskForNone
unfolding words_of command_by page_of behind is_accepted walk step clap_on_literals
others_ask_for_none = (refl, refl, refl, refl, refl, refl)

-- ---- what was read

-- the command that the first word names is the one whose items the words spell
spelled_by_first : (words : List Text) (c : CommandName) (d : Command) (items : List Item) → command_first words ≡ Some c
    → Spells commands words d items → d ≡ declared c
spelled_by_first words c d items first spells =
    let named = is_declared d.name d spells.0 in
    let same : Some named.0 ≡ Some c = sym (own_named named.0) ∙ ap command_named (sym named.1) ∙ sym (ap command_first spells.1) ∙ first in
    named.2 ∙ ap declared (same_command named.0 c same)

same_rows : (a b : List Row) → Some a ≡ Some b → a ≡ b
same_rows a b is = cc

-- where the matches are those of the words, what is asked by them is told
pub matches_told : (words rest : List Text) (c : CommandName) (m : ArgMatches) (f : Found) → command_first words ≡ Some c
    → Reads commands words (Some m) → Some (rows_of f) ≡ option_map (λ p. p.1) (subcommand_rows_of m)
    → behind c words rest ≡ or_behind c (asked_by c (first_value f))
matches_told words rest c m f first reads found =
    let d = reads.0 in
    let items = reads.1 in
    let is = spelled_by_first words c d items first reads.2 in
    let spells = subst (λ (k : Command). Spells commands words k items) is reads.2 in
    let gives = subst (λ (k : Command). Gives k.parts items reads.3) is reads.5 in
    let rows = same_rows (rows_of f) reads.3 (found ∙ ap (option_map (λ (p : Text × List Row). p.1)) reads.4) in
    behind_accepted c words rest (spelled_accepted words (declared c) items spells)
    ∙ ap (or_behind c) (asked_alike c (values_of words) (first_value f) (λ name p part.
    values_same words c items spells name p part ∙ ap (option_and_then (λ (q : Part). value_of q items)) part
    ∙ sym (first_value-rows f name ∙ ap (first_of name) rows ∙ (gives name p part).0)))
