-- A run over a script, from what is said of it where it is served.
use Rattle.std.proofs.Common.{◌≡◌, ℕ, Bool, true, false, ◌||◌, if◌then◌else◌, List, Option, Some, None}
use Rattle.std.proofs.Common.{inl, inr, refl, sym, subst, ap, ap₂, ◌∙◌}
use Rattle.std.specs.Option.{is_some}
use Rattle.hb_audit.specs.Tells.{Answering}
use Rattle.hb_base.specs.declared.note.Note.{Note}
use Rattle.hb_world.specs.declared.entry.Entry.{Entry}
use Rattle.hb_turns.specs.Notes.{held, Holds}
use Rattle.hb_turns.specs.Totals.{totals_of}
use Rattle.hb_turns.specs.declared.served.Served.{Served}
use Rattle.hb_turns.specs.declared.served.Totals.{Totals}
use Rattle.hb_turns.specs.declared.served.ServeEnd.{ServeEnd}
use Rattle.hb_turns.specs.declared.served.ServeEnd.TheVariants as ends
use Rattle.hb_report.specs.Report.{report}
use Rattle.hb_reason.specs.Reasons.{Hear}
use Rattle.hb_serve.specs.Served.{IsServed, Heard, AreTold, Serves}
use Rattle.hb_serve.specs.declared.words.ServeWords.{ServeWords}
use Rattle.hb_words.specs.Command.{Replay}
use Rattle.hb_cli.specs.Asked.{words_of}
use Rattle.hb_cli.specs.Ended.{replay_end, ended_as}
use Rattle.hb_cli.specs.declared.ended.ReplayEnd.{ReplayEnd}
use Rattle.hb_cli.specs.Replaying.{done_by, done_with, RunsAs, IsRun, flags_of, report_of}

none_lacks : (wanting lacked unkept : Bool) (end : ServeEnd) (is : ReplayEnd)
    → (if wanting || (lacked || unkept) then None else replay_end end) ≡ Some is
    → (wanting ≡ false) × (lacked ≡ false) × (unkept ≡ false) × (replay_end end ≡ Some is)
none_lacks false false false end is same = (refl, refl, refl, same)
none_lacks false false true end is same = absurd (cc)
none_lacks false true unkept end is same = absurd (cc)
none_lacks true lacked unkept end is same = absurd (cc)

-- so ends no run in which memory lacked
module _ (told : Served) (end : ReplayEnd) (ended : ended_as told ≡ Some end) where
  pub wants_none : told.wanting ≡ false
  wants_none = (none_lacks told.wanting told.totals.lacked told.unkept told.end end ended).0

  pub answers_none : told.totals.lacked ≡ false
  answers_none = (none_lacks told.wanting told.totals.lacked told.unkept told.end end ended).1

  pub keeps_all : told.unkept ≡ false
  keeps_all = (none_lacks told.wanting told.totals.lacked told.unkept told.end end ended).2

  pub ended_so : replay_end told.end ≡ Some end
  ended_so = (none_lacks told.wanting told.totals.lacked told.unkept told.end end ended).3

  lacks_none : told.end ≡ ends.NoMemory → ⊥
  lacks_none is = let so : replay_end ends.NoMemory ≡ Some end = ap replay_end (sym is) ∙ ended_so in cc

  -- a run that is served and ended so, with all its notes
  module _ (words : ServeWords) (keep : Option (List Note)) (trace : List Entry) where
    runs : {A : Type 0} {own : Answering A} (served : IsServed words told keep trace) (heard : Heard own)
        → AreTold words told keep trace served heard
        → (notes : List Note) × Holds keep notes × RunsAs words told keep end (done_with trace notes)
        × Hear own words.config trace heard.before heard.after notes
    runs served heard are_told =
        let t = served.noted lacks_none keeps_all in (
          t.notes,
          t.kept_are,
          record {
            served = served;
            ends = ended;
            has_notes = t.has_notes;
            totals = t.totals_are;
            not_wanting = sym served.run.wanting_is ∙ wants_none;
            not_lacking = ap (λ (all : Totals). all.lacked) (sym t.totals_are) ∙ answers_none;
          },
          are_told lacks_none keeps_all,
        )

    pub ran : {A : Type 0} {own : Answering A} (heard : Heard own) → Serves words told keep heard trace
        → (notes : List Note) × Holds keep notes × RunsAs words told keep end (done_with trace notes)
        × Hear own words.config trace heard.before heard.after notes
    ran heard (inl lacks) = absurd (lacks_none lacks.0.end)
    ran heard (inr served) = runs served.0 heard served.1

kept : {A : Type 0} {own : Answering A} (r : Replay) (end : ReplayEnd) (trace : List Entry) (keep : Option (List Note))
    (heard : Heard own) (told : Served) → is_some keep ≡ true
    → ((notes : List Note) × Holds keep notes × RunsAs (words_of r.run None) told keep end (done_with trace notes)
    × Hear own (words_of r.run None).config trace heard.before heard.after notes)
    → IsRun r end (done_by trace keep) × (told.totals ≡ totals_of trace (held keep))
    × Hear own (words_of r.run None).config trace heard.before heard.after (held keep)
kept r end trace None heard told some run = absurd (cc)
kept {A} {own} r end trace (Some notes) heard told some run =
    let same = sym run.1 in
    let is = subst (λ (ns : List Note). RunsAs (words_of r.run None) told (Some notes) end (done_with trace ns)) same run.2 in
    ((told, is), is.totals, subst (λ (ns : List Note). Hear own (words_of r.run None).config trace heard.before heard.after ns) same run.3)

-- a run over a script, whose notes are kept and told, and its totals
pub replayed : {A : Type 0} {own : Answering A} (r : Replay) (end : ReplayEnd) (trace : List Entry) (keep : Option (List Note))
    (heard : Heard own) (told : Served)
    (asked : ServeWords) → asked ≡ words_of r.run None → Serves asked told keep heard trace → ended_as told ≡ Some end → is_some keep ≡ true
    → IsRun r end (done_by trace keep) × (told.totals ≡ totals_of trace (held keep))
    × Hear own (words_of r.run None).config trace heard.before heard.after (held keep)
replayed r end trace keep heard told asked is serves ended some =
    kept r end trace keep heard told some
    (ran told end ended (words_of r.run None) keep trace heard (subst (λ (w : ServeWords). Serves w told keep heard trace) is serves))

-- the report of a run is that of its trace and notes, with their totals
pub reported : (r : Replay) (text : List ℕ) (trace told : List Entry) (notes noted : List Note) (totals : Totals)
    → text ≡ report (flags_of r) trace notes totals → trace ≡ told → notes ≡ noted → totals ≡ totals_of told noted
    → text ≡ report_of r (done_with told noted)
reported r text trace told notes noted totals is trace_is notes_is totals_are =
    is ∙ ap (λ (t : Totals). report (flags_of r) trace notes t) totals_are
    ∙ ap₂ (λ (es : List Entry) (ns : List Note). report (flags_of r) es ns (totals_of told noted)) trace_is notes_is
