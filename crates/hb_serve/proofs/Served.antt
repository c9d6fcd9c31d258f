-- What the event loop says of a run, and what follows of its trace.
use Rattle.std.proofs.Common.{◌≡◌, true, false, inr, List, [], ◌++◌, Option, Some, None, ap, sym, ◌∙◌, subst}
use Rattle.std.proofs.lemmas.List.{append-nil}
use Rattle.hb_audit.specs.Tells.{Answering}
use Rattle.hb_base.specs.declared.cause.Cause.{Cause}
use Rattle.hb_base.specs.declared.note.Note.{Note}
use Rattle.hb_headline.proofs.Headline.{keeps_the_headline}
use Rattle.hb_proxy.specs.Notes.{notes as notes_of}
use Rattle.hb_model.specs.declared.config.NodeConfig.{NodeConfig}
use Rattle.hb_model.proofs.Inner.{over_is}
use Rattle.hb_proxy.proofs.Projection.{control_runs}
use Rattle.hb_proxy.specs.Points.{Point, control_of}
use Rattle.hb_proxy.specs.Settled.{SettledAt, SettledIn, SettledLaw}
use Rattle.hb_turns.specs.Served as turns
use Rattle.hb_turns.specs.Settled as rests
use Rattle.hb_turns.specs.declared.served.Served.{Served}
use Rattle.hb_turns.specs.declared.served.ServeEnd.{ServeEnd}
use Rattle.hb_turns.specs.declared.served.ServeEnd.TheVariants as ends
use Rattle.hb_turns.specs.declared.words.ServeWords.{ServeWords as LoopWords}
use Rattle.hb_whole.proofs.Free.{free}
use Rattle.hb_whole.proofs.Settling.{settled_in}
use Rattle.hb_whole.specs.Queue.{told, waiting_in}
use Rattle.hb_whole.specs.Sight.{shown_of}
use Rattle.hb_whole.specs.Stands as whole
use Rattle.hb_whole.specs.declared.proxy.Proxy.{Proxy}
use Rattle.hb_world.specs.declared.entry.Entry.{Entry}
use Rattle.hb_world.specs.declared.entry.Entry.TheVariants as e
use Rattle.hb_laws.specs.Lawful.{GoesOn}
use Rattle.hb_serve.specs.Served.{StandsAs, AreLawful, KeepsHeadline, HasNotes, Serves, heard_of, words_of}
use Rattle.hb_serve.specs.declared.words.ServeWords.{ServeWords}
use Rattle.hb_laws.proofs.Runs.{run_is_lawful}
use Rattle.hb_serve.proofs.Along.{served_along}
use Rattle.hb_serve.proofs.Asking.{StandsIn}

-- the run of a proxy, which goes on
abbrev lawful_run : (taken : List Note) (p : Proxy) (trace : List Entry) → whole.Stands taken p trace → p.ends_for ≡ None
    → GoesOn (whole.config_of p) trace
lawful_run taken p trace s going = record {
  lawful = run_is_lawful (whole.config_of p) s.machine s.points trace s.run s.trace_is;
  going = sym (over_is (whole.config_of p) s.machine.control (control_of s.points)
      (control_runs (whole.config_of p) s.machine s.points s.run))
      ∙ subst (λ (o : Option Cause). whole.EndsBy o s.machine) going s.ends;
}

-- what a proxy stands for whose run goes on
goes_on : (g : NodeConfig) (taken : List Note) (p : Proxy) (trace : List Entry) → StandsAs g taken p trace → p.ends_for ≡ None
    → GoesOn g trace
goes_on g taken p trace stands going =
    subst (λ (h : NodeConfig). GoesOn h trace) stands.1 (lawful_run taken p trace stands.0 going)

-- and one of which no act is due
at_rest : (g : NodeConfig) (taken : List Note) (p : Proxy) (trace : List Entry) → StandsAs g taken p trace → p.ends_for ≡ None
    → (shown_of p).idle ≡ true → AreLawful g ends.TurnsSpent trace
at_rest g taken p trace stands going idle =
    let s = stands.0 in
    let all = free taken p trace s (going, idle) in
    subst (λ (h : NodeConfig). AreLawful h ends.TurnsSpent trace) stands.1
    (lawful_run taken p trace s going, record { control = all.control; links = all.links; plain = all.plain; gates = all.gates false })

are_lawful : (g : NodeConfig) (end : ServeEnd) (trace : List Entry) → turns.IsStoodFor (StandsAs g) shown_of end trace
    → AreLawful g end trace
are_lawful g ends.NoMemory trace s = (s.front, s.last, s.trace_is, goes_on g s.notes s.node s.front s.stands_for s.going)
are_lawful g ends.Stopped trace s = goes_on g s.0 s.1 trace s.2 s.3
are_lawful g ends.WorldFault trace s = goes_on g s.0 s.1 trace s.2 s.3
are_lawful g ends.TurnsSpent trace s = at_rest g s.0 s.1 trace s.2 s.3 s.4

-- so they meet the headline
headline_of : (g : NodeConfig) (end : ServeEnd) (trace : List Entry) → AreLawful g end trace → KeepsHeadline g end trace
headline_of g ends.NoMemory trace a = (a.0, a.1, a.2, keeps_the_headline g a.0 a.3.lawful)
headline_of g ends.Stopped trace a = keeps_the_headline g trace a.lawful
headline_of g ends.WorldFault trace a = keeps_the_headline g trace a.lawful
headline_of g ends.TurnsSpent trace a = keeps_the_headline g trace a.0.lawful

-- where none waits, those that were taken are all
all_taken : (taken : List Note) (waits : Option (List Note)) (points : List Point) → whole.AreNotes taken waits points
    → waiting_in waits ≡ [] → notes_of points ≡ taken
all_taken taken None points are none = absurd (cc)
all_taken taken (Some waits) points are none = are ∙ ap (λ (ns : List Note). taken ++ ns) none ∙ append-nil taken

has_notes : (g : NodeConfig) (taken : List Note) (p : Proxy) (trace : List Entry) → StandsAs g taken p trace
    → (shown_of p).noted ≡ [] → HasNotes g taken trace
has_notes g taken p trace stands none =
    subst (λ (h : NodeConfig). HasNotes h taken trace) stands.1
    (record {
      lawful = run_is_lawful (whole.config_of p) stands.0.machine stands.0.points trace stands.0.run stands.0.trace_is;
      notes_are = all_taken taken (told p.side.notes) stands.0.points stands.0.noted none;
    })

-- at a wait
settled_at : (g : NodeConfig) (before : List Entry) (z : Entry) → rests.SettledAt (StandsAs g) shown_of before z → SettledAt g before z
settled_at g before (e.Wait ready how) so = λ waited.
    let s = so waited in
    subst (λ (h : NodeConfig). SettledIn h before) s.stands_for.1
    (settled_in s.notes s.node before s.stands_for.0 (s.going, s.idle) s.links s.doors)
settled_at g before z s = tt

settled : (g : NodeConfig) (trace : List Entry) → rests.SettledLaw (StandsAs g) shown_of trace → SettledLaw g trace
settled g trace law before z after is = settled_at g before z (law before z after is)

-- a node that has a proxy in it, and audits, of which each may answer so
module _ {A : Type 0} (answers : Answering A) {N : Type 0} (f : N → Proxy) (h : N → List A) (before : List A) where
  gives : (g : NodeConfig) (notes : List Note) (n : N) (trace : List Entry) → StandsIn answers f h g before notes n trace
      → StandsAs g notes (f n) trace
  gives g notes n trace stands = (stands.0, stands.1.0)

  -- its run, and the notes that were told
  served_with : (words : ServeWords) (served : Served) (keep : Option (List Note)) (n : N) (trace : List Entry)
      → turns.IsServed (StandsIn answers f h words.config before) (λ m. shown_of (f m)) (words_of words) served (turns.leaves keep n) trace
      → Serves words served keep (heard_of answers before (h n)) trace
  served_with words served keep n trace run =
      let g = words.config in
      let along = served_along f (StandsIn answers f h g before) (StandsAs g) (gives g) shown_of (words_of words) served
      (turns.leaves keep n) trace run in
      inr (
        record {
          proxy = f n;
          run = along;
          settled = settled g trace along.settled;
          headline = headline_of g served.end along.over.before (are_lawful g served.end along.over.before along.over.stood_for);
          lawful = are_lawful g served.end along.over.before along.over.stood_for;
          noted = λ ends kept. let t = run.noted ends kept in
              record {
                notes = t.notes;
                has_notes = has_notes g t.notes (f n) trace (gives g t.notes n trace t.are_notes.stands_for) t.are_notes.none_waits;
                kept_are = t.kept_are;
                totals_are = t.totals_are;
              };
        },
        λ ends kept. (run.noted ends kept).are_notes.stands_for.1.1,
      )

  -- of a node that is asked for this, and of what the event loop is asked for with it
  pub serves_so : (g : NodeConfig) (asked : LoopWords) (words : ServeWords) (served : Served) (keep : Option (List Note)) (n : N)
      (trace : List Entry) → words.config ≡ g → asked ≡ words_of words
      → turns.IsServed (StandsIn answers f h g before) (λ m. shown_of (f m)) asked served (turns.leaves keep n) trace
      → Serves words served keep (heard_of answers before (h n)) trace
  serves_so g asked words served keep n trace config is run =
      served_with words served keep n trace
      (subst (λ (c : NodeConfig). turns.IsServed (StandsIn answers f h c before) (λ m. shown_of (f m)) (words_of words) served
      (turns.leaves keep n) trace)
      (sym config)
      (subst (λ (w : LoopWords). turns.IsServed (StandsIn answers f h g before) (λ m. shown_of (f m)) w served
      (turns.leaves keep n) trace) is run))
