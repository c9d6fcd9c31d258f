use Rattle.std.proofs.Common.{rules, arith, ◌≡◌, ℕ, eqb, cond, List, [], ◌∷◌, ◌++◌, length, take, drop, refl, ap, ◌∙◌, sym, subst}
use Rattle.std.proofs.lemmas.List.{length-take-le}
use Rattle.std.proofs.lemmas.Grind.{common_steps}
use Rattle.std.specs.List.{list_any}
use Rattle.hb_world.specs.declared.entry.Entry.{Entry}
use Rattle.hb_world.specs.declared.entry.Entry.TheVariants.{Came}
use Rattle.hb_world.specs.declared.world.Read.TheVariants.{Got}
use Rattle.hb_world.specs.Allowed.{Allowed}
use Rattle.hb_world.specs.LinkState.{front_of}
use Rattle.hb_world.specs.LinkStates.{state_at}
use Rattle.hb_world.specs.ScriptAnswers.{is_listen, read_answer}
use Rattle.hb_world.specs.Script.{LinkScript, standing, without_bytes}
use Rattle.hb_world.specs.WorldState.{Keeps}
use Rattle.hb_world.proofs.AllowedLemmas.{allowed-piece}
use Rattle.hb_world.proofs.LifeLemmas.{or-false}
use Rattle.hb_world.proofs.StandingLemmas.{keeps-entry, cond-said}
use Rattle.hb_world.proofs.TraceLemmas.{any-grows}
use Rattle.hb_world.proofs.script_world.ScriptWorld.read_piece.Goals as goal

pub invariant_of-self-2 : goal.invariant_of-self-2
invariant_of-self-2 c =
    let i = c.self.inside in
    let rest = drop i.told i.named.items in
    let n = c.min-n.result in
    let e : Entry = Came c.args.link c.in-Ok.bytes in
    let added : c.add.new.self ≡ i.trace ++ e ∷ [] = search rules in
    let long : length c.in-Ok.bytes ≡ n = ap (λ (xs : List ℕ). length xs) c.in-Ok.ensures ∙ grind
    (arith, common_steps, length-take-le {A = ℕ}) in
    let said : read_answer i.lines i.trace c.args.link (length c.args.into.now) ≡ Got n = search rules in
    let front : c.in-Ok.bytes ≡ take n (front_of ((standing i.lines i.trace).links c.args.link).unread) = search rules in
    let f : LinkScript → LinkScript = λ k. record k { unread = without_bytes (length c.in-Ok.bytes) k.unread } in
    let skips : (l : ℕ) → state_at c.skip.new.self l ≡ cond (eqb c.args.link l) (record (state_at i.links l) {
      said = f
          (state_at i.links l).said;
    }) (state_at i.links l) =
    subst (λ (m : ℕ). (l : ℕ) → state_at c.skip.new.self l ≡ cond (eqb c.args.link l)
    (record (state_at i.links l) {
      said = record (state_at i.links l).said {
        unread = without_bytes m
            (state_at i.links l).said.unread;
      };
    })
    (state_at i.links l)) (sym long) c.skip.ensures.states in (
      subst (λ (t : List Entry). Keeps (standing i.lines t) i.lines i.next c.skip.new.self i.doors i.failing rest) (sym added)
          (keeps-entry i.lines i.trace e i.next i.links c.skip.new.self i.doors i.doors i.failing i.failing rest c.self.invariant.0
          (λ s. refl) (λ l. skips l ∙ cond-said (eqb c.args.link l) (state_at i.links l) f) c.skip.ensures.names
          (λ d. sym (or-false _)) (λ d. refl) refl),
      c.self.invariant.1
          ∙ sym (ap (λ (t : List Entry). list_any is_listen t) added ∙ any-grows is_listen i.trace e ∙ or-false _),
      subst (λ (t : List Entry). Allowed i.lines t) (sym added)
          (allowed-piece i.lines i.trace c.args.link (length c.args.into.now) n c.in-Ok.bytes long said front c.self.invariant.2),
    )
