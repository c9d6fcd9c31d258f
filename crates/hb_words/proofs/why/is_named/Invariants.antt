use Rattle.std.proofs.Common.{◌≡◌, false, take, string_bytes}
use Rattle.std.specs.List.{list_any}
use Rattle.hb_words.specs.Why.{names}
use Rattle.hb_words.proofs.why.is_named.Given as goal

-- none of the words so far has the name
abbrev pub invariant-loop-word : goal.invariant-loop-word
invariant-loop-word l = list_any (λ word. names l.name (string_bytes word)) (take l.word-index l.words) ≡ false
