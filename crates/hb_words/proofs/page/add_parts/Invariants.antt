use Rattle.std.proofs.Common.{◌≡◌, ◌++◌, take, string_bytes}
use Rattle.std.specs.List.{flat_map}
use Rattle.hb_words.specs.Page.{part_line}
use Rattle.hb_words.proofs.page.add_parts.Given as goal

-- the lines of the parts so far are added
abbrev pub invariant-loop-part : goal.invariant-loop-part
invariant-loop-part l = string_bytes l.text ≡ string_bytes l.initial.text ++ flat_map part_line (take l.part-index l.parts)
