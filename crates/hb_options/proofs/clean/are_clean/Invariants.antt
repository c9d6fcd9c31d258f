use Rattle.std.proofs.Common.{◌≡◌, true, take, string_bytes}
use Rattle.std.specs.List.{list_all}
use Rattle.hb_options.specs.Items.{is_clean}
use Rattle.hb_options.proofs.clean.are_clean.Given as goal

-- the words so far are clean
abbrev pub invariant-loop-word : goal.invariant-loop-word
invariant-loop-word l = list_all (λ word. is_clean (string_bytes word)) (take l.word-index l.words) ≡ true
