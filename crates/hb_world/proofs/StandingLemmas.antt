-- What a script has come to once one more entry stands in the trace.
use Rattle.std.proofs.Common.{◌≡◌, ℕ, Bool, true, false, cond, ◌||◌, List, [], ◌∷◌, ◌++◌, refl, ap, ◌∙◌, sym, subst}
use Rattle.std.specs.List.{fold}
use Rattle.hb_base.specs.declared.door.Door.{Door}
use Rattle.hb_world.specs.declared.doors.Doors.{Doors}
use Rattle.hb_world.specs.declared.doors.ScriptDoor.{ScriptDoor}
use Rattle.hb_world.specs.declared.entry.Entry.{Entry}
use Rattle.hb_world.specs.declared.entry.ReadyItem.{ReadyItem}
use Rattle.hb_world.specs.declared.line.Line.{Line}
use Rattle.hb_world.specs.declared.links.Links.{Links}
use Rattle.hb_world.specs.DoorState.{door_at}
use Rattle.hb_world.specs.LinkState.{LinkState}
use Rattle.hb_world.specs.LinkStates.{state_at, is_named}
use Rattle.hb_world.specs.Script.{LinkScript, Standing, standing, start, after_entry, with_entry, link_after, waiting_after, failing_after}
use Rattle.hb_world.specs.Trace.{is_listen_at}
use Rattle.hb_world.specs.WorldState.{Keeps}
use Rattle.hb_world.proofs.TraceLemmas.{listens-grows}

fold-push : {A B : Type 0} (f : B → A → B) (z : B) (xs : List A) (x : A) → fold f z (xs ++ x ∷ []) ≡ f (fold f z xs) x
fold-push f z [] x = refl
fold-push f z (y ∷ xs) x = fold-push f (f z y) xs x

pub standing-grows : (lines : List Line) (trace : List Entry) (e : Entry)
    → standing lines (trace ++ e ∷ []) ≡ after_entry (standing lines trace) e
standing-grows lines trace e = fold-push after_entry (start lines) trace e

-- any entry but a wait
pub keeps-entry : (lines : List Line) (trace : List Entry) (e : Entry) (next : ℕ) (links links2 : Links) (doors doors2 : Doors ScriptDoor)
    (failing failing2 : ℕ) (rest : List ReadyItem) → Keeps (standing lines trace) lines next links doors failing rest
    → ((s : Standing) → after_entry s e ≡ with_entry s e)
    → ((l : ℕ) → state_at links2 l ≡ record (state_at links l) { said = link_after l (state_at links l).said e })
    → ((l : ℕ) → is_named links2 l ≡ is_named links l)
    → ((d : Door) → (door_at doors2 d).listening ≡ ((door_at doors d).listening || is_listen_at d e))
    → ((d : Door) → (door_at doors2 d).waiting ≡ waiting_after d (door_at doors d).waiting e)
    → failing2 ≡ failing_after failing e
    → Keeps (standing lines (trace ++ e ∷ [])) lines next links2 doors2 failing2 rest
keeps-entry lines trace e next links links2 doors doors2 failing failing2 rest k plain said names listening waiting fails =
    let s = standing lines trace in
    subst (λ (z : Standing). Keeps z lines next links2 doors2 failing2 rest) (sym (standing-grows lines trace e ∙ plain s)) (record {
      coming = k.coming;
      bound = k.bound;
      said = λ l. said l ∙ ap (λ (x : LinkState). record x { said = link_after l x.said e }) (k.said l);
      named = λ l h. names l ∙ k.named l h;
      listening = λ d. listening d ∙ ap (λ (b : Bool). b || is_listen_at d e) (k.listening d) ∙ sym (listens-grows d s.trace e);
      waiting = λ d. waiting d ∙ ap (λ (n : ℕ). waiting_after d n e) (k.waiting d);
      fails = fails ∙ ap (λ (n : ℕ). failing_after n e) k.fails;
      left = k.left;
    })

pub cond-said : (b : Bool) (x : LinkState) (f : LinkScript → LinkScript)
    → cond b (record x { said = f x.said }) x ≡ record x { said = cond b (f x.said) x.said }
cond-said true x f = refl
cond-said false x f = refl
