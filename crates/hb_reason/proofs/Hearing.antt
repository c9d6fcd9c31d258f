-- Audits to which notes are told with their reasons, from step to step.
use Rattle.std.proofs.Common.{◌≡◌, List, [], ◌∷◌, ◌++◌, Option, Some, None, sym, ap, subst, ◌∙◌, append-nil, append_assoc}
use Rattle.std.specs.Option.{option_to_list}
use Rattle.std.proofs.lemmas.List.{map-append}
use Rattle.hb_audit.specs.Tells.{Answering, Tells}
use Rattle.hb_audit.specs.Told.{Told, notes_of}
use Rattle.hb_base.specs.declared.note.Note.{Note}
use Rattle.hb_held.specs.Held.{Resources}
use Rattle.hb_laws.proofs.Runs.{run_is_lawful}
use Rattle.hb_model.specs.declared.config.NodeConfig.{NodeConfig}
use Rattle.hb_whole.specs.Queue.{told}
use Rattle.hb_whole.specs.Stands.{Stands, AreNotes, config_of, held_of}
use Rattle.hb_whole.specs.declared.proxy.Proxy.{Proxy}
use Rattle.hb_world.specs.declared.entry.Entry.{Entry}
use Rattle.hb_reason.specs.Denial.{reason_beside}
use Rattle.hb_reason.specs.Reasons.{IsReasoned, AreReasoned, Hear, reasoned, told_by}

module _ (g : NodeConfig) (trace : List Entry) where
  -- a trace with one more entry has the same prefixes
  longer_one : (x : Entry) (before : List Note) (t : Told) → IsReasoned g trace before t → IsReasoned g (trace ++ x ∷ []) before t
  longer_one x before t is = record {
    prefix = is.prefix;
    rest = is.rest ++ x ∷ [];
    trace_is = ap (λ (l : List Entry). l ++ x ∷ []) is.trace_is ∙ append_assoc is.prefix is.rest (x ∷ []);
    lawful = is.lawful;
    later = is.later;
    made = is.made;
    reason_is = is.reason_is;
  }

  longer_all : (x : Entry) (before : List Note) (told : List Told) → AreReasoned g trace before told
      → AreReasoned g (trace ++ x ∷ []) before told
  longer_all x before [] are = tt
  longer_all x before (t ∷ told) are = (longer_one x before t are.0, longer_all x (before ++ t.note ∷ []) told are.1)

  -- one more is told
  one_more : (before : List Note) (told : List Told) (t : Told) → AreReasoned g trace before told
      → IsReasoned g trace (before ++ notes_of told) t → AreReasoned g trace before (told ++ t ∷ [])
  one_more before [] t are is = (subst (λ (l : List Note). IsReasoned g trace l t) (append-nil before) is, tt)
  one_more before (u ∷ told) t are is = (
    are.0,
    one_more (before ++ u.note ∷ []) told t are.1
        (subst (λ (l : List Note). IsReasoned g trace l t) (sym (append_assoc before (u.note ∷ []) (notes_of told))) is),
  )

  -- a note that is taken now has its reason by what is held now
  reasoned_now : (p : Proxy) (taken : List Note) (n : Note) (waits : List Note) → Stands (taken ++ n ∷ []) p trace → config_of p ≡ g
      → told p.side.notes ≡ Some waits → IsReasoned g trace taken (reasoned (held_of p) n)
  reasoned_now p taken n waits s config still =
      subst (λ (c : NodeConfig). IsReasoned c trace taken (reasoned (held_of p) n)) config
      (record {
        prefix = trace;
        rest = [];
        trace_is = sym (append-nil trace);
        lawful = run_is_lawful (config_of p) s.machine s.points trace s.run s.trace_is;
        later = waits;
        made =
            subst (λ (o : Option (List Note)). AreNotes (taken ++ n ∷ []) o s.points) still s.noted ∙ append_assoc taken (n ∷ []) waits;
        reason_is = ap (λ (h : Resources). reason_beside h n) (sym s.control.held);
      })

  module _ {A : Type 0} (own : Answering A) (before : List A) where
    pub longer : (x : Entry) (now : List A) (all : List Note) → Hear own g trace before now all
        → Hear own g (trace ++ x ∷ []) before now all
    longer x now all hear = record {
      told = hear.told;
      notes_are = hear.notes_are;
      reasons = longer_all x [] hear.told hear.reasons;
      tells = hear.tells;
    }

    -- the note that is taken now is told, where there is one
    pub next : (p : Proxy) (taken : List Note) (note : Option Note) (waits : List Note) (old new : List A)
        → Stands (taken ++ option_to_list note) p trace → config_of p ≡ g → told p.side.notes ≡ Some waits
        → Hear own g trace before old taken
        → ((told : List Told) → Tells own before old told → Tells own before new (told ++ told_by (held_of p) note))
        → Hear own g trace before new (taken ++ option_to_list note)
    next p taken None waits old new stands config still hear so = record {
      told = hear.told ++ [];
      notes_are = ap notes_of (append-nil hear.told) ∙ (hear.notes_are ∙ sym (append-nil taken));
      reasons = subst (λ (l : List Told). AreReasoned g trace [] l) (sym (append-nil hear.told)) hear.reasons;
      tells = so hear.told hear.tells;
    }
    next p taken (Some n) waits old new stands config still hear so = record {
      told = hear.told ++ reasoned (held_of p) n ∷ [];
      notes_are = map-append (λ (t : Told). t.note) hear.told (reasoned (held_of p) n ∷ [])
          ∙ ap (λ (l : List Note). l ++ n ∷ []) hear.notes_are;
      reasons = one_more [] hear.told (reasoned (held_of p) n) hear.reasons
          (subst (λ (l : List Note). IsReasoned g trace l (reasoned (held_of p) n)) (sym hear.notes_are)
          (reasoned_now p taken n waits stands config still));
      tells = so hear.told hear.tells;
    }
