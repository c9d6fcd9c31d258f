-- Where no act is due and the run goes on, all is quiet.
use Rattle.std.proofs.Common.{◌≡◌, ◌≢◌, ◌⊎◌, inl, inr, ℕ, ◌&&◌, Bool, true, false, is_none, Option, Some, None, refl, ap, sym, ◌∙◌, subst}
use Rattle.std.specs.Prelude.{List}
use Rattle.std.proofs.lemmas.Bool.{and_parts, cases_eq}
use Rattle.hb_base.specs.declared.cause.Cause.{Cause}
use Rattle.hb_base.specs.declared.note.Note.{Note}
use Rattle.hb_captured.specs.Calm as captured
use Rattle.hb_captured.specs.Captured.{Captured}
use Rattle.hb_inbound.specs.Calm.{IsQuiet}
use Rattle.hb_inbound.specs.Inbound.{Inbound}
use Rattle.hb_link.specs.Acts.{NoneIsDue}
use Rattle.hb_links.proofs.Acting.{all_calm}
use Rattle.hb_links.proofs.Due.{none_is_due}
use Rattle.hb_links.specs.Busy as links
use Rattle.hb_links.specs.Shows.{ShowsAll}
use Rattle.hb_links.specs.declared.links.Links.{Links}
use Rattle.hb_model.specs.Discovery as m
use Rattle.hb_model.specs.Discovery.{Discovery, Phase, closing}
use Rattle.hb_model.specs.Machine.{Machine as Control}
use Rattle.hb_model.specs.Runs as model
use Rattle.hb_model.specs.Runs.{due_by, IsCalmBy}
use Rattle.hb_model.specs.declared.config.NodeConfig.{NodeConfig}
use Rattle.hb_node.specs.Links.{SteadyBy}
use Rattle.hb_node.specs.Phases.{phase_of}
use Rattle.hb_node.specs.State.{State, Shows, ShowsLink, IsGone, due_of, closing_of, number_of}
use Rattle.hb_node.specs.declared.link.Link.{Link}
use Rattle.hb_proxy.specs.Machine.{Machine}
use Rattle.hb_proxy.specs.Runs.{ControlRests, GatesLet, Lets, PlainLets}
use Rattle.hb_relays.specs.Touched as touched
use Rattle.hb_turns.specs.Shown.{IsFree}
use Rattle.hb_world.specs.declared.entry.Entry.{Entry}
use Rattle.hb_whole.specs.Sight.{shown_of, idle_by, is_idle}
use Rattle.hb_whole.specs.Stands.{Stands, EndsBy}
use Rattle.hb_whole.specs.declared.proxy.Proxy.{Proxy}
use Rattle.hb_whole.proofs.Relays.{gates_quiet, plain_quiet}

-- THE CONTROL PLANE

pub none_of : {A : Type 0} (o : Option A) → is_none o ≡ true → o ≡ None
none_of None is = refl
none_of (Some a) is = absurd cc

-- where no call is due no dial is, and no link is to be closed
none_due : (g : NodeConfig) (dials : Bool) (number : Option ℕ) (why : Option Cause) → due_by g dials number why ≡ None
    → dials ≡ false
none_due g false number why is = refl
none_due g true None why is = absurd cc
none_due g true (Some l) None is = absurd cc
none_due g true (Some l) (Some why) is = absurd cc

none_closing : (g : NodeConfig) (dials : Bool) (o : Option Link) → due_by g dials (number_of o) (closing_of o) ≡ None → closing_of o ≡ None
none_closing g dials None is = refl
none_closing g dials (Some k) is = by (closing (phase_of k.phase)) is
  where
    by : (why : Option Cause) → due_by g dials (Some k.number) why ≡ None → why ≡ None
    by None is = refl
    by (Some why) is = absurd cc

gone_calm : (phase : Phase) (x : Discovery) → IsGone phase → IsCalmBy phase x
gone_calm m.unborn x gone = tt
gone_calm m.closed x gone = tt
gone_calm m.dialling x gone = absurd gone
gone_calm m.live x gone = absurd gone
gone_calm (m.faulted code) x gone = absurd gone
gone_calm (m.ending why) x gone = absurd gone

steady_calm : (phase : Phase) (x : Discovery) → closing phase ≡ None → SteadyBy phase x → IsCalmBy phase x
steady_calm m.unborn x none steady = tt
steady_calm m.closed x none steady = tt
steady_calm m.dialling x none steady = tt
steady_calm m.live x none steady = steady.1
steady_calm (m.faulted code) x none steady = absurd cc
steady_calm (m.ending why) x none steady = absurd cc

pub calm_of : (o : Option Link) (x : Control) → ShowsLink o x → closing_of o ≡ None → (l : ℕ) → IsCalmBy (x.links l).phase (x.links l)
calm_of None x shows none l = gone_calm (x.links l).phase (x.links l) (shows.1 l)
calm_of (Some k) x shows none l = by (cases_eq l k.number)
  where
    open_case : IsCalmBy (x.links k.number).phase (x.links k.number)
    open_case =
        steady_calm (x.links k.number).phase (x.links k.number) (ap closing shows.2.phase ∙ none) shows.3

    by : (l ≡ k.number) ⊎ (l ≢ k.number) → IsCalmBy (x.links l).phase (x.links l)
    by (inl same) = subst (λ (j : ℕ). IsCalmBy (x.links j).phase (x.links j)) (sym same) open_case
    by (inr apart) = gone_calm (x.links l).phase (x.links l) (shows.4 l apart)

pub control_quiet : (s : State) (x : Control) → Shows s x → due_of s ≡ None → x.over ≡ false → model.IsQuiet x
control_quiet s x shows none goes = record {
  no_dial = shows.dials ∙ none_due s.config s.dials (number_of s.link) (closing_of s.link) none;
  goes = goes;
  calm = calm_of s.link x shows.link (none_closing s.config s.dials s.link none);
}

-- also behind the end of the run
pub control_rests : (s : State) (x : Control) → Shows s x → due_of s ≡ None → ControlRests x
control_rests s x shows none = record {
  no_dial = shows.dials ∙ none_due s.config s.dials (number_of s.link) (closing_of s.link) none;
  calm = calm_of s.link x shows.link (none_closing s.config s.dials s.link none);
}

pub rests_of : (x : Control) → model.IsQuiet x → ControlRests x
rests_of x quiet = record { no_dial = quiet.no_dial; calm = quiet.calm }

-- ALL LINKS

pub all_quiet : (k : Links) (f : ℕ → Inbound) → links.is_idle k ≡ true → ShowsAll k f → (l : ℕ) → IsQuiet (f l)
all_quiet k f idle shows l =
    let due : NoneIsDue (f l) = none_is_due k f idle shows l in
    record { calm = all_calm k f shows l; no_close = due.no_close; idle = due.idle }

pub lets_all : (first : Bool) (x : Inbound) → IsQuiet x → Lets first x
lets_all true x quiet = quiet.calm
lets_all false x quiet = quiet

pub plain_lets_all : (first : Bool) (x : Captured) → captured.IsQuiet x → PlainLets first x
plain_lets_all true x quiet = quiet.0
plain_lets_all false x quiet = quiet

-- THE PROXY

-- also on the links to gateways
pub record Free (x : Machine) : Type 0 where
  pub control : model.IsQuiet x.control
  pub links : (l : ℕ) → IsQuiet (x.inbound l)
  pub plain : (l : ℕ) → captured.IsQuiet (x.plain l)
  pub gates : (first : Bool) → GatesLet first x

idle_parts : (p : Proxy) (ends : Option Cause) → ends ≡ None → idle_by ends p ≡ true
    → (is_none (due_of p.control) ≡ true) × (is_idle p.side ≡ true)
idle_parts p None going idle = and_parts _ _ idle
idle_parts p (Some why) going idle = absurd cc

pub goes_on : (p : Proxy) (x : Machine) → EndsBy p.ends_for x → p.ends_for ≡ None → x.control.over ≡ false
goes_on p x ends going = subst (λ (o : Option Cause). EndsBy o x) going ends

pub free : (taken : List Note) (p : Proxy) (trace : List Entry) (s : Stands taken p trace) → IsFree (shown_of p) → Free s.machine
free taken p trace s is =
    let parts = idle_parts p p.ends_for is.0 is.1 in
    let all = and_parts (links.is_idle p.side.links && touched.is_idle p.side.relays.due) (touched.is_idle p.side.relays.gate_due)
    parts.1 in
    let doors = and_parts (links.is_idle p.side.links) (touched.is_idle p.side.relays.due) all.0 in
    record {
      control = control_quiet p.control s.machine.control s.control (none_of (due_of p.control) parts.0)
          (goes_on p s.machine s.ends is.0);
      links = all_quiet p.side.links s.machine.inbound doors.0 s.links;
      plain = plain_quiet p.side.relays doors.1 s.relays;
      gates = gates_quiet p.side.relays s.machine all.1 s.relays;
    }
