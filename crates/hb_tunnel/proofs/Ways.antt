-- What is pushed on a way is taken or held.
use Rattle.std.proofs.Common.{◌≡◌, List, [], ◌∷◌, ◌++◌, take, drop, sym, ap, ◌∙◌, append_assoc}
use Rattle.std.proofs.lemmas.List.{append-nil, take-append-drop}
use Rattle.hb_tunnel.specs.Way.{Way, Move, pushes, takes, ends, after}
use Rattle.hb_tunnel.specs.Laws.{pushed, taken, after_all}

-- from any way on: what is held and what is pushed is what is taken, followed by what is held in the end
pub nothing_is_lost : (w : Way) (moves : List Move) → w.held ++ pushed moves ≡ taken w moves ++ (after_all w moves).held
nothing_is_lost w [] = append-nil w.held
nothing_is_lost w (pushes bytes ∷ ms) = sym (append_assoc w.held bytes (pushed ms)) ∙ nothing_is_lost (after w (pushes bytes)) ms
nothing_is_lost w (takes count ∷ ms) =
    ap (λ l. l ++ pushed ms) (sym (take-append-drop count w.held))
    ∙ append_assoc (take count w.held) (drop count w.held) (pushed ms)
    ∙ ap (λ l. take count w.held ++ l) (nothing_is_lost (after w (takes count)) ms)
    ∙ sym (append_assoc (take count w.held) (taken (after w (takes count)) ms) (after_all (after w (takes count)) ms).held)
nothing_is_lost w (ends ∷ ms) = nothing_is_lost (after w ends) ms
