use Rattle.std.proofs.Common.{◌≡◌, ◌+◌, ℕ, List, [], ◌∷◌, ◌++◌, length, sym, subst, ap, ◌∙◌}
use Rattle.hb_world.specs.Journal.{Kept}
use Rattle.hb_world.specs.LifeEntries.{IsBirth, fresh}
use Rattle.hb_world.specs.Lives.{AreLives}
use Rattle.hb_world.specs.Trace.{births}
use Rattle.hb_world.specs.declared.entry.Entry.{Entry}
use Rattle.hb_world.specs.declared.trace.Life.{Life}
use Rattle.hb_world.proofs.LifeLemmas.{lives-birth}
use Rattle.hb_world.proofs.trace.Trace.add_birth.Goals as goal

pub invariant_of-self-2 : goal.invariant_of-self-2
invariant_of-self-2 c =
    let i = c.self.inside in
    let count : births c.args.self.now ≡ length i.lives.items = subst (λ (t : List Entry). births t
    ≡ length i.lives.items) c.self.view_is c.self.invariant.count in
    let birth : IsBirth (length i.lives.items + 1) c.args.birth = subst (λ (n : ℕ). IsBirth (n + 1) c.args.birth) count c.requires in
    let pushed : c.push.new.self.items ≡ i.lives.items ++ fresh ∷ [] = c.in-Ok.ensures.items ∙ ap (λ
    (ls : List Life). ls ++ fresh ∷ []) c.in_ok-reserve.ensures.items in
    subst (λ (k : Kept). AreLives c.push.new.self.items k.owed k.entries) (sym c.in_ok-add_birth.ensures.ok)
    (subst (λ (ls : List Life). AreLives ls (i.journal.owed + 2) (i.journal.entries ++ c.args.birth ∷ [])) (sym pushed)
    (lives-birth i.lives.items i.journal.owed i.journal.entries c.args.birth c.self.invariant birth))
