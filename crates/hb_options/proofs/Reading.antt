-- What clap's outcome says of the words that were read.
use Rattle.std.proofs.Common.{◌≡◌, true, List, [], Some, ◌∙◌}
use Rattle.std.specs.List.{list_all}
use Rattle.clap.specs.Faults.{fault_of}
use Rattle.clap.specs.Simple.{HasMatchesOf}
use Rattle.clap.specs.Walk.{Text}
use Rattle.clap.specs.declared.parser.matches.ArgMatches.{ArgMatches}
use Rattle.hb_options.specs.Items.{Command, app, are_proper, is_clean}
use Rattle.hb_options.specs.Read.{Reads}
use Rattle.hb_options.proofs.Top.{simple_app, takes_spelled_items_alone, gives_items_values}

module _ (name : Text) (commands : List Command) (words : List Text) (proper : are_proper commands ≡ true) where
  -- where no step of the parse has a fault, the matches are those of such words
  pub faultless_reads : (m : ArgMatches) → list_all is_clean words ≡ true → fault_of (app name commands) words ≡ []
      → HasMatchesOf (app name commands) words m → Reads commands words (Some m)
  faultless_reads m clean none matches =
      let found = takes_spelled_items_alone name commands words proper clean none in
      let values = gives_items_values name commands words found.0 found.1 proper found.2 in
      (found.0, found.1, found.2, values.0, (matches (simple_app name commands)).1 ∙ values.1, values.2)
