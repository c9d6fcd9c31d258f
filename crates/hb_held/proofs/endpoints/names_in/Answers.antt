use Rattle.std.proofs.Common.{◌≡◌, List, [], ◌∷◌, length, refl, ap, sym, ◌∙◌, arith}
use Rattle.std.specs.FinMap.{empty, entries, len-empty, len-entries}
use Rattle.std.specs.Option.{option_copied}
use Rattle.hb_index.specs.Index.{names_or_none}
use Rattle.hb_index.proofs.Entries.{by_bytes}
use Rattle.hb_held.proofs.endpoints.names_in.Goals as goal

no_items : {A : Type 0} (es : List A) → length es ≡ 0 → es ≡ []
no_items [] e = refl
no_items (x ∷ es) e = absurd (omega arith)

pub returns-in-None : goal.returns-in-None
returns-in-None c =
    sym (ap (λ names. entries (names_or_none (option_copied names))) c.in-None.is
    ∙ no_items (entries (empty {X = Unit {0}} {R = by_bytes})) (sym (len-entries empty) ∙ len-empty by_bytes (Unit {0})))
