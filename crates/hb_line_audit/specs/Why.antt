-- The lines of what an audit is told.
use Rattle.std.specs.Prelude.{ℕ, List, [], ◌++◌, Option, Some, None, codes, decimal}
use Rattle.hb_audit.specs.Told.{Reason, denied_by, none_allows, Told}
use Rattle.hb_base.specs.declared.note.Note.{Note}
use Rattle.hb_base.specs.declared.note.Note.TheVariants.{Verdict, End}
use Rattle.hb_quote.specs.Name.{name_text, policy_name}
use Rattle.hb_report.specs.Note.{place_text, note_line}

-- the link and the stream that a note is of
abbrev pub place_in : Note → List ℕ
place_in (Verdict link stream status peer target) = place_text link stream
place_in (End link stream cause up down) = place_text link stream

-- a reason: the policy that denies, or how many allow, of which none fires
abbrev pub reason_text : Reason → List ℕ
reason_text (denied_by namespace name) = codes "denied_by=" ++ name_text (policy_name namespace name)
reason_text (none_allows many) = codes "none_allows=" ++ decimal many

-- its line, with its newline
abbrev pub why_line : Note → Reason → List ℕ
why_line note reason = codes "why " ++ place_in note ++ codes " " ++ reason_text reason ++ codes "\n"

abbrev pub why_text : Note → Option Reason → List ℕ
why_text note None = []
why_text note (Some reason) = why_line note reason

-- the line of a note, and behind it the one of its reason, where it has one
abbrev pub told_line : Told → List ℕ
told_line t = note_line t.note ++ why_text t.note t.reason
