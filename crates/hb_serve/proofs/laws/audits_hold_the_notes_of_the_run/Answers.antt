use Rattle.std.proofs.Common.{◌≡◌, ℕ, List, [], ◌∷◌, ◌++◌, ap, refl, subst, sym, ◌∙◌, append-nil, append_assoc, ⊎_elim}
use Rattle.std.specs.Prelude.{⊤, Option, Some, None, map}
use Rattle.hb_audit.specs.Laws.{StandIn, followed_by_all}
use Rattle.hb_audit.specs.Refused.{any_answer, kept_alone}
use Rattle.hb_audit.specs.Tells.{Tells}
use Rattle.hb_audit.specs.Told.{Told, notes_of}
use Rattle.hb_audit.specs.declared.audit.Noted.TheVariants.{Kept}
use Rattle.hb_audit.proofs.LeftLemmas.{left_hold_all, all_stay}
use Rattle.hb_base.specs.declared.note.Note.{Note}
use Rattle.hb_held.specs.Held.{Resources}
use Rattle.hb_model.specs.declared.config.NodeConfig.{NodeConfig}
use Rattle.hb_world.specs.declared.entry.Entry.{Entry}
use Rattle.hb_reason.specs.Reasons.{AreReasoned, Hear, reasoned}
use Rattle.hb_serve.specs.Served.{HasNotes}
use Rattle.hb_serve.proofs.laws.audits_hold_the_notes_of_the_run.Goals as goal

abbrev Held : Type 0
Held = Option (List Note)

-- those that are left of audits that may give any answer hold all
left_so : (old new : List Held) (told : List Told) → Tells any_answer old new told
    → StandIn (map (λ (h : Held). h) new) (map (followed_by_all (notes_of told)) (map (λ (h : Held). h) old))
left_so = left_hold_all (λ (h : Held). h) (λ _ _ _ _. ⊤)

-- two that keep each note
both_keep : (before : List Note) (told : List Told)
    → Tells any_answer (Some before ∷ None ∷ []) (Some (before ++ notes_of told) ∷ None ∷ []) told
both_keep before [] = ap (λ (held : List Note). Some held ∷ None ∷ []) (append-nil before)
both_keep before (t ∷ told) = (
  Some (before ++ t.note ∷ []) ∷ None ∷ [],
  (
    record { answer = Kept; after = Some (before ++ t.note ∷ []); own = (tt, refl); others = None ∷ [] },
    refl,
    (record { answer = Kept; after = None; own = (tt, refl); others = [] }, refl, refl),
  ),
  subst (λ (held : List Note). Tells any_answer (Some (before ++ t.note ∷ []) ∷ None ∷ []) (Some held ∷ None ∷ []) told)
      (append_assoc before (t.note ∷ []) (notes_of told))
      (both_keep (before ++ t.note ∷ []) told),
)

-- notes with their reasons by what is held
reasoned_notes : (h : Resources) (notes : List Note) → notes_of (map (reasoned h) notes) ≡ notes
reasoned_notes h [] = refl
reasoned_notes h (n ∷ notes) = ap (λ (l : List Note). n ∷ l) (reasoned_notes h notes)

-- of all notes of a run those that stand behind others, with their reasons by what is held at its end
module _ (g : NodeConfig) (all : List Note) (trace : List Entry) (has : HasNotes g all trace) where
  abbrev held : Resources
  held = has.lawful.machine.control.held

  all_reasoned : (before notes : List Note) → before ++ notes ≡ all → AreReasoned g trace before (map (reasoned held) notes)
  all_reasoned before [] is = tt
  all_reasoned before (n ∷ notes) is = (
    record {
      prefix = trace;
      rest = [];
      trace_is = sym (append-nil trace);
      lawful = has.lawful;
      later = notes;
      made = has.notes_are ∙ sym is;
      reason_is = refl;
    },
    all_reasoned (before ++ n ∷ []) notes (append_assoc before (n ∷ []) notes ∙ is),
  )

  hear_all : (notes : List Note) → all ≡ notes → Hear any_answer g trace (Some [] ∷ None ∷ []) (Some notes ∷ None ∷ []) all
  hear_all notes are = record {
    told = map (reasoned held) all;
    notes_are = reasoned_notes held all;
    reasons = all_reasoned [] all refl;
    tells = subst (λ (l : List Note). Tells any_answer (Some [] ∷ None ∷ []) (Some l ∷ None ∷ []) (map (reasoned held) all))
        (reasoned_notes held all ∙ are) (both_keep [] (map (reasoned held) all));
  }

-- one that was told these holds no others
none_other : (told : List Told) (notes holds : List Note) → notes_of told ≡ notes → (holds ≡ notes → ⊥)
    → Tells any_answer (Some [] ∷ []) (Some holds ∷ []) told → ⊥
none_other told notes holds are differ tells =
    ⊎_elim {A = (Some holds ≡ Some (notes_of told)) × ⊤} {B = ⊥}
    (λ h. let same : Some holds ≡ Some (notes_of told) = h.0 in let is : holds ≡ notes_of told = cc in differ (is ∙ are)) (λ none. none)
    (left_so (Some [] ∷ []) (Some holds ∷ []) told tells)

-- one that keeps each is left
none_gone : (told : List Told) → Tells kept_alone (Some [] ∷ []) [] told → ⊥
none_gone told tells =
    let long : ◌≡◌ {A = ℕ} 0 1 = all_stay (λ (h : Held). h) (λ _ _ given _. given ≡ Kept) (Some [] ∷ []) [] told
    (λ h t answer after is. is) tells in
    absurd cc

pub returns-clause-all : goal.returns-clause-all
returns-clause-all c = λ words served keep trace run notes are lacks_none keeps_all.
    let t = run.noted lacks_none keeps_all in
    hear_all words.config t.notes trace t.has_notes notes (are lacks_none keeps_all)

pub returns-clause-others : goal.returns-clause-others
returns-clause-others c = λ words served keep trace run notes holds are lacks_none keeps_all no heard.
    let hear = heard lacks_none keeps_all in
    none_other hear.told notes holds (hear.notes_are ∙ are lacks_none keeps_all) no hear.tells

pub returns-clause-more : goal.returns-clause-more
returns-clause-more c = λ words served keep trace run lacks_none keeps_all heard.
    let hear = heard lacks_none keeps_all in
    left_so [] (None ∷ []) hear.told hear.tells

pub returns-clause-gone : goal.returns-clause-gone
returns-clause-gone c = λ words served keep trace run lacks_none keeps_all heard.
    let hear = heard lacks_none keeps_all in
    none_gone hear.told hear.tells
