use Rattle.std.proofs.Common.{◌≡◌, List, [], ◌∷◌, ◌∙◌}
use Rattle.hb_audit.specs.declared.audit.Noted.{Noted}
use Rattle.hb_audit.specs.declared.audit.Noted.TheVariants.{Kept, Failed, NoMemory}
use Rattle.hb_audit.specs.Tells.{left_by}
use Rattle.hb_audit.proofs.laws.audits_are_left_by_their_own_answers.Goals as goal

module _ {B : Type 0} (c : B) where
  dropped : (answer : Noted) (others : List B) → answer ≡ Kept → [] ≡ left_by answer c others → ⊥
  dropped Kept others only is = absurd cc
  dropped Failed others only is = absurd cc
  dropped NoMemory others only is = absurd cc

  gone : (answer : Noted) (others left : List B) → answer ≡ Failed → left ≡ left_by answer c others → others ≡ [] → left ≡ []
  gone Kept others left only is none = absurd cc
  gone Failed others left only is none = is ∙ none
  gone NoMemory others left only is none = absurd cc

pub returns-clause-keeps : goal.returns-clause-keeps
returns-clause-keeps g c = λ b n only told. let gave = told.0 in
    dropped gave.after gave.answer gave.others (only gave.answer gave.after gave.own) told.1

pub returns-clause-fails : goal.returns-clause-fails
returns-clause-fails g c = λ b after n only told. let gave = told.0 in
    let none : (after ∷ []) ≡ [] = gone gave.after gave.answer gave.others (after ∷ [])
    (only gave.answer gave.after gave.own) told.1 told.2 in
    absurd cc
