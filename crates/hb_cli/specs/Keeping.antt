-- What the headline says of a run of the proxy that is over.
use Rattle.std.specs.Prelude.{◌≡◌, List, ◌++◌}
use Rattle.hb_headline.specs.Headline.{Headline}
use Rattle.hb_serve.specs.declared.words.ServeWords.{ServeWords}
use Rattle.hb_world.specs.declared.entry.Entry.{Entry}

-- it holds of all entries of a trace but for closes at its end
pub record KeepsHeadline (words : ServeWords) (trace : List Entry) : Type 0 where
  pub front : List Entry
  pub closes : List Entry
  pub trace_is : trace ≡ front ++ closes
  pub headline : Headline words.config front
