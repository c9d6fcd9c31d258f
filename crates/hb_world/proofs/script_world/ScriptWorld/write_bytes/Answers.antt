use Rattle.std.proofs.Common.{rules, arith, ◌≡◌, ℕ, eqb, cond, List, [], ◌∷◌, ◌++◌, length, drop, refl, ap, ◌∙◌, sym, subst}
use Rattle.std.proofs.lemmas.List.{length-take-le}
use Rattle.std.proofs.lemmas.Grind.{common_steps}
use Rattle.std.specs.List.{list_any}
use Rattle.hb_world.specs.declared.entry.Entry.{Entry}
use Rattle.hb_world.specs.declared.entry.Entry.TheVariants.{Went}
use Rattle.hb_world.specs.declared.world.Wrote.TheVariants.{Took}
use Rattle.hb_world.specs.Allowed.{Allowed}
use Rattle.hb_world.specs.LinkStates.{state_at}
use Rattle.hb_world.specs.ScriptAnswers.{is_listen, write_answer}
use Rattle.hb_world.specs.Script.{LinkScript, standing, less_room}
use Rattle.hb_world.specs.WorldState.{Keeps, ScriptState}
use Rattle.hb_world.proofs.AllowedLemmas.{allowed-bytes}
use Rattle.hb_world.proofs.LifeLemmas.{or-false}
use Rattle.hb_world.proofs.StandingLemmas.{keeps-entry, cond-said}
use Rattle.hb_world.proofs.TraceLemmas.{any-grows}
use Rattle.hb_world.proofs.script_world.ScriptWorld.write_bytes.Goals as goal

pub invariant_of-self-2 : goal.invariant_of-self-2
invariant_of-self-2 c =
    let i = c.self.inside in
    let rest = drop i.told i.named.items in
    let n = c.args.n in
    let e : Entry = Went c.args.link c.in-Ok.bytes in
    let added : c.add.new.self ≡ i.trace ++ e ∷ [] = search rules in
    let long : length c.in-Ok.bytes ≡ n = ap (λ (xs : List ℕ). length xs) c.in-Ok.ensures ∙ grind
    (arith, common_steps, length-take-le {A = ℕ}) in
    let said : write_answer i.lines i.trace c.args.link c.requires.said.0 ≡ Took n =
    subst (λ (w : ScriptState). write_answer w.lines w.trace c.args.link c.requires.said.0 ≡ Took n) (sym c.self.view_is)
    c.requires.said.1 in
    let f : LinkScript → LinkScript = λ k. record k { room = less_room (length c.in-Ok.bytes) k.room } in
    let uses : (l : ℕ) → state_at c.use_room.new.self l ≡ cond (eqb c.args.link l) (record (state_at i.links l) {
      said = f
          (state_at i.links l).said;
    }) (state_at i.links l) =
    subst (λ (m : ℕ). (l : ℕ) → state_at c.use_room.new.self l ≡ cond (eqb c.args.link l)
    (record (state_at i.links l) { said = record (state_at i.links l).said { room = less_room m (state_at i.links l).said.room } })
    (state_at i.links l)) (sym long) c.use_room.ensures.states in (
      subst (λ (t : List Entry). Keeps (standing i.lines t) i.lines i.next c.use_room.new.self i.doors i.failing rest) (sym added)
          (keeps-entry i.lines i.trace e i.next i.links c.use_room.new.self i.doors i.doors i.failing i.failing rest c.self.invariant.0
          (λ s. refl) (λ l. uses l ∙ cond-said (eqb c.args.link l) (state_at i.links l) f) c.use_room.ensures.names
          (λ d. sym (or-false _)) (λ d. refl) refl),
      c.self.invariant.1
          ∙ sym (ap (λ (t : List Entry). list_any is_listen t) added ∙ any-grows is_listen i.trace e ∙ or-false _),
      subst (λ (t : List Entry). Allowed i.lines t) (sym added)
          (allowed-bytes i.lines i.trace c.args.link c.requires.said.0 n c.in-Ok.bytes long said c.self.invariant.2),
    )
