-- What a page of the program's own does, at each status: it is printed, nothing else is done, and no note is told.
use Rattle.std.specs.Prelude.{◌≡◌, ℕ}
use Rattle.hb_audit.specs.Tells.{Answering}
use Rattle.hb_serve.specs.Served.{Heard}
use Rattle.hb_words.specs.Page.{page_text}
use Rattle.hb_words.specs.declared.page.Page.{Page}
use Rattle.hb_cli.specs.Hearing.{HearsNone}
use Rattle.hb_cli.specs.Printing.{PrintsAt}
use Rattle.hb_cli.specs.Replaying.{RunState}
use Rattle.hb_cli.specs.Use.{Use}

abbrev pub PagesAt : {A : Type 0} {own : Answering A} → Page → Heard own → RunState → RunState → Use → Use → ℕ → Type 0
PagesAt p heard before left out err status = (left ≡ before) × HearsNone heard × PrintsAt (page_text p) out err status
