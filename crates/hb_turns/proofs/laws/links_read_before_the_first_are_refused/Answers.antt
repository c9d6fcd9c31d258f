use Rattle.std.proofs.Common.{◌≡◌, true, false, ℕ, List, [], ◌∷◌, ◌++◌, Option, inl, refl, sym, ◌∙◌, subst, ⊎_elim}
use Rattle.hb_base.specs.declared.door.Door.TheVariants.{Inbound}
use Rattle.hb_base.specs.declared.door.Why.{Why}
use Rattle.hb_base.specs.declared.note.Note.{Note}
use Rattle.hb_base.specs.declared.target.Target.{Target}
use Rattle.hb_world.specs.declared.entry.Entry.{Entry}
use Rattle.hb_world.specs.declared.entry.Entry.TheVariants as e
use Rattle.hb_world.specs.declared.entry.ReadyItem.TheVariants as item
use Rattle.hb_world.specs.declared.entry.Way.TheVariants as way
use Rattle.hb_world.specs.declared.entry.Woken.TheVariants as woken
use Rattle.hb_world.proofs.TraceLemmas.{AtEach-grows}
use Rattle.hb_ready.specs.Sight.{known}
use Rattle.hb_turns.specs.Leads.{IsLed, LeadsOn, LedAt, is_read_of}
use Rattle.hb_turns.specs.RefusedLeads.{looked, GoesFirst}
use Rattle.hb_turns.specs.Shown.{Shown}
use Rattle.hb_turns.proofs.Serving.{nothing_at}
use Rattle.hb_turns.proofs.laws.links_read_before_the_first_are_refused.Goals as goal

opened : true ≡ false → ⊥
opened is = cc

awake : false ≡ true → ⊥
awake is = cc

-- no other entry may stand there
overtaken : {N : Type 0} (stands : List Note → N → List Entry → Type 0) (shown : N → Shown) (to : Target) (why : Why) (x : Entry)
    → is_read_of 1 x ≡ false → GoesFirst stands shown → IsLed stands shown (looked to why) x → ⊥
overtaken stands shown to why x another goes led =
    ⊎_elim (λ is. awake (sym another ∙ is)) (⊎_elim opened (⊎_elim awake (goes.wants led.node)))
    (subst (λ (first : Option ℕ). LeadsOn first (λ l. known l (looked to why)) (shown led.node) x) (goes.first led.node) led.leads)

pub returns-clause-read : goal.returns-clause-read
returns-clause-read g c = λ to why goes law.
    overtaken g.N.Node.stands g.N.Node.shown to why (e.Came 2 (0 ∷ [])) refl goes (law (looked to why) _ _ refl refl)

pub returns-clause-tried : goal.returns-clause-tried
returns-clause-tried g c = λ to why goes law.
    overtaken g.N.Node.stands g.N.Node.shown to why (e.Balked (way.Read 2)) refl goes (law (looked to why) _ _ refl refl)

pub returns-clause-accepted : goal.returns-clause-accepted
returns-clause-accepted g c = λ to why goes law.
    overtaken g.N.Node.stands g.N.Node.shown to why (e.Accepted 3 Inbound) refl goes (law (looked to why) _ _ refl refl)

pub returns-clause-written : goal.returns-clause-written
returns-clause-written g c = λ to why goes law.
    overtaken g.N.Node.stands g.N.Node.shown to why (e.Went 1 (0 ∷ [])) refl goes (law (looked to why) _ _ refl refl)

pub returns-clause-good : goal.returns-clause-good
returns-clause-good g c = λ to why notes n first going stood.
    let stands = g.N.Node.stands in
    let shown = g.N.Node.shown in
    let P = LedAt stands shown in
    let dials = e.Dialled 1 to why in
    let looks = e.Wait (item.Link 2 ∷ item.Link 1 ∷ []) woken.Glanced in
    let one = AtEach-grows P [] dials (nothing_at P) (λ is. absurd cc) in
    let two = AtEach-grows P (dials ∷ []) (e.Opened 1) one (λ is. absurd cc) in
    let three = AtEach-grows P (dials ∷ e.Opened 1 ∷ []) (e.Accepted 2 Inbound) two (λ is. absurd cc) in
    let four = AtEach-grows P (dials ∷ e.Opened 1 ∷ e.Accepted 2 Inbound ∷ []) looks three tt in
    let leads = subst (λ (o : Option ℕ). LeadsOn o (λ l. known l (looked to why)) (shown n) (e.Came 1 (0 ∷ []))) (sym first) (inl refl) in
    let five = AtEach-grows P (looked to why) (e.Came 1 (0 ∷ [])) four
    (λ is. record { notes = notes; node = n; stands_for = stood; going = going; leads = leads }) in
    AtEach-grows P (looked to why ++ e.Came 1 (0 ∷ []) ∷ []) (e.Came 2 (0 ∷ [])) five (λ is. absurd cc)
