-- The line that tells a resource that was refused.
use Rattle.std.specs.Prelude.{ℕ, List, ◌++◌, codes}
use Rattle.hb_disco.specs.declared.kind.Kind.{Kind}
use Rattle.hb_held.specs.declared.outcome.Refusal.{Refusal}
use Rattle.hb_quote.specs.Name.{name_text}
use Rattle.hb_lines.specs.Outcome.{kind_word}
use Rattle.hb_lines.specs.Why.{why_text}

-- its kind, its name, and why, with a newline; what doesn't stand as it is stands as a string of JSON (RFC 8259 section 7)
abbrev pub refused_text : Kind → Refusal → List ℕ
refused_text kind r =
    codes "refused kind=" ++ kind_word kind ++ codes " name=" ++ name_text r.name ++ codes " why=" ++ name_text (why_text r.why)
    ++ codes "\n"
