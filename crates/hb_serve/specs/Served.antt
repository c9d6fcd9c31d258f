-- What holds of a run of the proxy that is over.
use Rattle.std.specs.Prelude.{◌≡◌, ◌⊎◌, ℕ, false, List, [], ◌++◌, Option}
use Rattle.std.specs.Option.{option_to_list}
use Rattle.hb_audit.specs.Tells.{Answering}
use Rattle.hb_base.specs.declared.note.Note.{Note}
use Rattle.hb_captured.specs.Calm as captured
use Rattle.hb_headline.specs.Headline.{Headline}
use Rattle.hb_inbound.specs.Calm as inbound
use Rattle.hb_model.specs.Runs as model
use Rattle.hb_proxy.specs.Machine.{Machine}
use Rattle.hb_proxy.specs.Notes.{notes as notes_of}
use Rattle.hb_proxy.specs.Runs.{GatesLet}
use Rattle.hb_held.specs.declared.doors.OwnDoors.{OwnDoors}
use Rattle.hb_model.specs.declared.config.NodeConfig.{NodeConfig}
use Rattle.hb_proxy.specs.Settled.{SettledLaw}
use Rattle.hb_turns.specs.Notes.{Holds}
use Rattle.hb_turns.specs.Served as turns
use Rattle.hb_turns.specs.Totals.{totals_of, no_totals}
use Rattle.hb_turns.specs.declared.served.Served.{Served}
use Rattle.hb_turns.specs.declared.served.ServeEnd.{ServeEnd}
use Rattle.hb_turns.specs.declared.served.ServeEnd.TheVariants as ends
use Rattle.hb_turns.specs.declared.served.Totals.{Totals}
use Rattle.hb_turns.specs.declared.words.ServeWords.{ServeWords as LoopWords}
use Rattle.hb_whole.specs.Sight.{shown_of}
use Rattle.hb_whole.specs.Stands.{Stands, config_of}
use Rattle.hb_whole.specs.declared.proxy.Proxy.{Proxy}
use Rattle.hb_world.specs.declared.entry.Entry.{Entry}
use Rattle.hb_laws.specs.Lawful.{Lawful, GoesOn}
use Rattle.hb_reason.specs.Reasons.{Hear}
use Rattle.hb_serve.specs.declared.words.ServeWords.{ServeWords}

-- the node that is asked for stands for a trace, of whose notes these were taken
abbrev pub StandsAs : NodeConfig → List Note → Proxy → List Entry → Type 0
StandsAs g taken p trace = Stands taken p trace × (config_of p ≡ g)

-- what the event loop is asked for: each door is given where the node has it
abbrev pub loop_words : OwnDoors → ℕ → Option ℕ → LoopWords
loop_words doors turns ticks = record {
  doors = record { inbound = doors.inbound; outbound = doors.outbound; plain = doors.plain };
  turns = turns;
  ticks = ticks;
}

abbrev pub words_of : ServeWords → LoopWords
words_of w = loop_words w.config.doors w.turns w.ticks

-- nothing more happens by itself on any link, and no call is due on one: all that came is looked at, each response is applied, and what
-- ended for that is closed
pub record IsAtRest (x : Machine) : Type 0 where
  pub control : model.IsQuiet x.control
  pub links : (l : ℕ) → inbound.IsQuiet (x.inbound l)
  pub plain : (l : ℕ) → captured.IsQuiet (x.plain l)
  pub gates : GatesLet false x

-- a run that goes on left these entries; where its turns are spent it is at rest behind them; where memory lacked it left all but at most
-- the last
abbrev pub AreLawful : NodeConfig → ServeEnd → List Entry → Type 0
AreLawful g ends.TurnsSpent trace = (on : GoesOn g trace) × IsAtRest on.lawful.machine
AreLawful g ends.NoMemory trace = (front : List Entry) × (last : Option Entry) × (trace ≡ front ++ option_to_list last) × GoesOn g front
AreLawful g _ trace = GoesOn g trace

-- the headline holds of these entries; where memory lacked, of all but at most the last
abbrev pub KeepsHeadline : NodeConfig → ServeEnd → List Entry → Type 0
KeepsHeadline g ends.NoMemory trace =
    (front : List Entry) × (last : Option Entry) × (trace ≡ front ++ option_to_list last) × Headline g front
KeepsHeadline g _ trace = Headline g trace

-- all that was done is lawful, and these are all notes of it
pub record HasNotes (g : NodeConfig) (notes : List Note) (trace : List Entry) : Type 0 where
  pub lawful : Lawful g trace
  pub notes_are : notes_of lawful.points ≡ notes

-- These are all notes of it, where notes are kept they are these, and the totals are those of the trace with these notes
pub record IsTotalled (g : NodeConfig) (keep : Option (List Note)) (totals : Totals) (trace : List Entry) : Type 0 where
  pub notes : List Note
  pub has_notes : HasNotes g notes trace
  pub kept_are : Holds keep notes
  pub totals_are : totals ≡ totals_of trace notes

-- A run that is over, of a node that was asked for this
pub record IsServed (words : ServeWords) (served : Served) (keep : Option (List Note)) (trace : List Entry) : Type 0 where
  -- the proxy that is left
  pub proxy : Proxy
  -- what the event loop says of it: the trace obeys the awake law, the settled law, the looks law and the lead law, at its end no link
  -- lives; how it ended, how many links were born, how many dialled ones an update of the policies closed, and whether one was closed
  -- for want of memory
  pub run : turns.IsServed (StandsAs words.config) shown_of (words_of words) served (turns.leaves keep proxy) trace
  -- at each wait the machine is settled: nothing is left to be done but what sleeps
  pub settled : SettledLaw words.config trace
  -- in front of the closes at its end the headline holds: bytes of tunnels are prefixes of those that came on the other side, and go where
  -- what is held then admits the peer alone
  pub headline : KeepsHeadline words.config served.end run.over.before
  -- and the trace is lawful
  pub lawful : AreLawful words.config served.end run.over.before
  -- unless memory lacked, the notes that are kept are all that there are, and the totals are those of the trace and of all its notes
  pub noted : (served.end ≡ ends.NoMemory → ⊥) → served.unkept ≡ false → IsTotalled words.config keep served.totals trace

-- memory lacked for the node, and nothing was done
pub record LacksNode (served : Served) (trace : List Entry) : Type 0 where
  pub end : served.end ≡ ends.NoMemory
  pub totals : served.totals ≡ no_totals
  pub none : trace ≡ []

-- audits of which each answers so: those before a run, and those that are left behind it
pub record Heard {A : Type 0} (own : Answering A) : Type 0 where
  pub before : List A
  pub after : List A

abbrev pub heard_of : {A : Type 0} (own : Answering A) → List A → List A → Heard own
heard_of own before after = record { before = before; after = after }

-- unless memory lacked, all notes of the run were told to the audits, one after the other, each with its reason; each audit gave answers of
-- its own, and those are left that kept each
abbrev pub AreTold : {A : Type 0} {own : Answering A} (words : ServeWords) (served : Served) (keep : Option (List Note))
    (trace : List Entry)
    → IsServed words served keep trace → Heard own → Type 0
AreTold {A} {own} words served keep trace run heard = (lacks_none : served.end ≡ ends.NoMemory → ⊥) (keeps_all : served.unkept ≡ false)
    → Hear own words.config trace heard.before heard.after (run.noted lacks_none keeps_all).notes

-- a run was served, and its notes told; or nothing was done
abbrev pub Serves : {A : Type 0} {own : Answering A} → ServeWords → Served → Option (List Note) → Heard own → List Entry → Type 0
Serves words served keep heard trace =
    (LacksNode served trace × (heard.after ≡ heard.before))
    ⊎ ((run : IsServed words served keep trace) × AreTold words served keep trace run heard)
