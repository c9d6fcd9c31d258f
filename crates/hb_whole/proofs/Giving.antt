-- What an act that is given makes of the traces that the proxy stands for.
use Rattle.std.proofs.Common.{◌≡◌, ◌≢◌, ⊎_elim, ℕ, ◌<◌, not, Bool, true, false, List, [], ◌∷◌, ◌++◌, Option, Some, None, refl, ap, sym, ◌∙◌, subst, arith}
use Rattle.std.proofs.lemmas.Bool.{cases_eq}
use Rattle.hb_base.specs.declared.cause.Cause.{Cause}
use Rattle.hb_base.specs.declared.door.Why.{Why}
use Rattle.hb_base.specs.declared.door.Why.TheVariants as whys
use Rattle.hb_base.specs.declared.note.Note.{Note}
use Rattle.hb_base.specs.declared.target.Target.{Target}
use Rattle.hb_link.proofs.Noted.{takes_none}
use Rattle.hb_link.specs.Noted.{Told, Takes}
use Rattle.hb_links.specs.Load.{Recounts}
use Rattle.hb_links.specs.Shows.{ShowsAll}
use Rattle.hb_links.specs.Stirring.{closed_in}
use Rattle.hb_model.proofs.DialsDue.{runs_on as dials_go_on}
use Rattle.hb_model.specs.Machine.{Machine as Control}
use Rattle.hb_model.specs.Runs as model
use Rattle.hb_model.specs.Runs.{due_by}
use Rattle.hb_model.specs.declared.act.Act.{Act as ControlAct}
use Rattle.hb_model.specs.declared.act.Act.TheVariants as own
use Rattle.hb_model.specs.declared.config.NodeConfig.{NodeConfig}
use Rattle.hb_node.specs.State as node
use Rattle.hb_node.specs.State.{State, Shows}
use Rattle.hb_proxy.proofs.Owned.{all_owned, whose_in}
use Rattle.hb_proxy.proofs.Projection.{control_runs}
use Rattle.hb_proxy.specs.Doors.{is_at_door}
use Rattle.hb_proxy.specs.Machine.{Machine, outward}
use Rattle.hb_proxy.specs.Notes.{notes}
use Rattle.hb_proxy.specs.Owners.{Owner, nobody}
use Rattle.hb_proxy.specs.Points.{Point, control_of, entries}
use Rattle.hb_proxy.specs.Runs.{Steps, StandsFor, goes_on}
use Rattle.hb_relays.specs.Shows.{ShowsRelays}
use Rattle.hb_turns.specs.Shown as shown
use Rattle.hb_turns.specs.Shown.{Acts}
use Rattle.hb_world.specs.Trace.{lives, was_shut}
use Rattle.hb_world.specs.declared.act.Act.{Act}
use Rattle.hb_world.specs.declared.act.Act.TheVariants as act
use Rattle.hb_world.specs.declared.entry.Entry.{Entry}
use Rattle.hb_world.specs.declared.entry.Entry.TheVariants as e
use Rattle.hb_whole.specs.Acting.{act_of, given_by, dial_in, strange_by}
use Rattle.hb_whole.specs.Queue.{told}
use Rattle.hb_whole.specs.Sight.{shown_of}
use Rattle.hb_whole.specs.Stands.{Stands, AreNotes, EndsBy, MayBeDialled, DialIsDue}
use Rattle.hb_whole.specs.declared.proxy.Proxy.{Proxy}
use Rattle.hb_whole.specs.declared.side.Side.{Side}
use Rattle.hb_whole.proofs.Acting.{another, close_lives, close_stands, close_cause, close_stirs}
use Rattle.hb_whole.proofs.Growing.{stood}
use Rattle.hb_whole.proofs.Keeping.{IsSteady, few_kept, step_keeps}
use Rattle.hb_whole.proofs.Limited.{limited_then, none_arriving}
use Rattle.hb_whole.proofs.Relays.{plain_calm}
use Rattle.hb_whole.proofs.Stirring.{SideStirs, none_stir}
use Rattle.hb_whole.proofs.Telling.{with_act, act_stirs}

-- the proxy behind an act that is given
abbrev pub given_behind : Option Cause → Act → Proxy → Proxy
given_behind ends due p = record p { dials = dial_in ends due; strange = strange_by ends p.strange due }

-- WHERE THE RUN IS WHERE IT WAS

-- the links of the doors were asked, and a dial may be made
pub waits : (p : Proxy) (side : Side) (taken : List Note) (trace : List Entry) (s : Stands taken p trace) (dial : Option (Target × Why))
    → ShowsAll side.links s.machine.inbound → ShowsRelays p.control.config side.relays (outward s.machine)
    → told side.notes ≡ told p.side.notes → Recounts p.side.links side.links
    → MayBeDialled p.control.config s.machine dial → Stands taken (with_act side dial p.strange p) trace
waits p side taken trace s dial links relays same counts may = record {
  machine = s.machine;
  points = s.points;
  run = s.run;
  trace_is = s.trace_is;
  control = s.control;
  links = links;
  relays = relays;
  noted = subst (λ (t : Told). AreNotes taken t s.points) (sym same) s.noted;
  dial = may;
  limited = limited_then p (with_act side dial p.strange p) s.machine s.machine refl refl counts (λ few. few) s.limited;
  ends = s.ends;
  sound = s.sound;
}

-- THE CONTROL PLANE'S LINK

dial_parts : (g : NodeConfig) (dials : Bool) (number : Option ℕ) (why : Option Cause) (to : Target) (for : Why)
    → due_by g dials number why ≡ Some (own.Dial to for) → (dials ≡ true) × (to ≡ g.discovery) × (for ≡ whys.Discovery)
dial_parts g false None why to for is = absurd cc
dial_parts g false (Some l) None to for is = absurd cc
dial_parts g false (Some l) (Some why) to for is = absurd cc
dial_parts g true None why to for is = let same : own.Dial g.discovery whys.Discovery ≡ own.Dial to for = cc in (refl, cc, cc)
dial_parts g true (Some l) None to for is = let same : own.Dial g.discovery whys.Discovery ≡ own.Dial to for = cc in (refl, cc, cc)
dial_parts g true (Some l) (Some why) to for is = absurd cc

-- a dial is due
control_dials : (taken : List Note) (p : Proxy) (trace : List Entry) (s : Stands taken p trace) (to : Target) (why : Why) (n : State)
    → node.Acts (Some (own.Dial to why)) p.control n
    → (s.machine.control.dials ≡ true) × (to ≡ p.control.config.discovery) × (why ≡ whys.Discovery)
control_dials taken p trace s to why n acts =
    dial_parts p.control.config s.machine.control.dials s.machine.control.current
    (model.closing_of s.machine.control s.machine.control.current) to why (sym (acts.1 s.machine.control s.control))

-- while the run has ended no dial of the control plane is due
no_dial_behind : (taken : List Note) (p : Proxy) (trace : List Entry) (s : Stands taken p trace) (c : Cause) → p.ends_for ≡ Some c
    → s.machine.control.dials ≡ true → ⊥
no_dial_behind taken p trace s c ends dials =
    let over = (subst (λ (o : Option Cause). EndsBy o s.machine) ends s.ends).0 in
    let goes = dials_go_on p.control.config s.machine.control (control_of s.points)
    (control_runs p.control.config s.machine s.points s.run) dials in
    absurd cc

pub control_gives : (p : Proxy) (n : State) (due : ControlAct) (ends : Option Cause) → p.ends_for ≡ ends
    → node.Acts (Some due) p.control n
    → Acts Stands shown_of (given_by ends (act_of due)) p (given_behind ends (act_of due) (record p { control = n }))
control_gives p n (own.Close l cause) None is acts = λ taken trace s. (
  close_lives taken p n l cause acts trace s,
  close_stands taken p n l cause acts trace s,
  close_stirs taken p n l cause acts trace s,
)
control_gives p n (own.Close l cause) (Some c) is acts = λ taken trace s.
    let for = close_cause taken p n l cause acts trace s c is in (
      close_lives taken p n l cause acts trace s,
      subst (λ (w : Cause). Stands taken (record p { control = n; dials = None }) (trace ++ e.Closed l w ∷ [])) for
          (close_stands taken p n l cause acts trace s),
      subst (λ (w : Cause). shown.Stirs (trace ++ e.Closed l w ∷ []) (shown_of p) (shown_of (record p { control = n; dials = None }))) for
          (close_stirs taken p n l cause acts trace s),
    )
control_gives p n (own.Dial to why) None is acts =
    let same : record p { control = n } ≡ p = ap (λ (w : State). record p { control = w }) acts.2 in
    subst (λ (w : Proxy). Acts Stands shown_of (Some (act.Dial to why)) p (given_behind None (act.Dial to why) w)) (sym same) (
      refl,
      λ taken trace s.
          let due = control_dials taken p trace s to why n acts in (
            waits p p.side taken trace s (Some (to, why)) s.links s.relays refl (λ is. is)
                (subst (λ (w : Why). DialIsDue p.control.config s.machine to w) (sym due.2) (due.0, due.1)),
            act_stirs p p.side (Some (to, why)) p.strange trace (λ l alive. none_stir p.side l),
          ),
    )
control_gives p n (own.Dial to why) (Some c) is acts = λ taken trace s.
    absurd (no_dial_behind taken p trace s c is (control_dials taken p trace s to why n acts).0)

-- LINKS OF THE DOORS

-- an upstream isn't numbered 0
pub up_some : (x : Machine) (g : NodeConfig) (points : List Point) → StandsFor g x points → (u : ℕ) (whose : Owner)
    → whose_in points u ≡ whose → (whose ≡ nobody → ⊥) → 0 < u
up_some x g points run u whose mine some =
    ⊎_elim (λ (zero : u ≡ 0).
    absurd (some (sym mine ∙ ap (λ (n : ℕ). whose_in points n) zero ∙ (all_owned g x points run).none)))
    (λ apart. omega (arith, apart)) (cases_eq u 0)

pub not_shut : (b : Bool) → not b ≡ true → b ≡ false
not_shut true is = absurd cc
not_shut false is = refl

-- one act of a link of a door is done
pub acted : (taken : List Note) (p : Proxy) (side : Side) (trace : List Entry) (s : Stands taken p trace) (z : Entry) (at : Point)
    (y : Machine) → Steps p.control.config s.machine at y → y.control ≡ s.machine.control → entries (at ∷ []) ≡ z ∷ []
    → notes (at ∷ []) ≡ [] → is_at_door z ≡ false → ShowsAll side.links y.inbound
    → ShowsRelays p.control.config side.relays (outward y)
    → told side.notes ≡ told p.side.notes → IsSteady at → Recounts p.side.links side.links → EndsBy p.ends_for y
    → Stands taken (with_act side None p.strange p) (trace ++ z ∷ [])
acted taken p side trace s z at y steps control one none door links relays same steady counts ends =
    stood taken p (with_act side None p.strange p) trace z s y (at ∷ []) refl (goes_on s.run at steps refl) door one
    (subst (λ (c : Control). Shows p.control c) (sym control) s.control) links relays
    (subst (λ (t : Told). Takes (told p.side.notes) (notes (at ∷ [])) t) (sym same)
    (subst (λ (ns : List Note). Takes (told p.side.notes) ns (told p.side.notes)) (sym none) (takes_none (told p.side.notes))))
    refl
    (limited_then p (with_act side None p.strange p) s.machine y refl refl counts
    (few_kept p.control.config s.machine y (step_keeps p.control.config s.machine y at steady steps)
    (plain_calm p.side.relays s.relays) (none_arriving side.links y.inbound links)) s.limited) ends refl

-- AN ACT OF A DOOR, BY WHAT IT IS TO BE

-- an act was given to whom the code shows, and its door's links changed so; none is due where it gives none
module _ (p : Proxy) (side : Side) where
  pub stir : (due : Option Act) (trace : List Entry) (z : Entry)
      → ((l : ℕ) → closed_in due ≢ Some l → SideStirs l p.side side)
      → ((l : ℕ) → lives l (trace ++ z ∷ []) ≡ true → closed_in due ≢ Some l)
      → shown.Stirs (trace ++ z ∷ []) (shown_of p) (shown_of (with_act side None p.strange p))
  stir due trace z stirs apart = act_stirs p side None p.strange (trace ++ z ∷ []) (λ l alive. stirs l (apart l alive))

  -- a close that was given
  pub record Closes (taken : List Note) (trace : List Entry) (s : Stands taken p trace) (u : ℕ) (cause : Cause) : Type 0 where
    pub alive : lives u trace ≡ true
    pub stands : Stands taken (with_act side None p.strange p) (trace ++ e.Closed u cause ∷ [])
    pub for : (c : Cause) → p.ends_for ≡ Some c → cause ≡ c

  -- a shut
  pub record Shuts (taken : List Note) (trace : List Entry) (s : Stands taken p trace) (u : ℕ) : Type 0 where
    pub alive : lives u trace ≡ true
    pub unshut : was_shut u trace ≡ false
    pub stands : p.ends_for ≡ None → Stands taken (with_act side None p.strange p) (trace ++ e.Shut u ∷ [])
    pub goes : (c : Cause) → p.ends_for ≡ Some c → ⊥

  -- a dial
  pub record IsDialled (taken : List Note) (trace : List Entry) (s : Stands taken p trace) (to : Target) (why : Why) : Type 0 where
    pub links : ShowsAll side.links s.machine.inbound
    pub relays : ShowsRelays p.control.config side.relays (outward s.machine)
    pub noted : told side.notes ≡ told p.side.notes
    pub counts : Recounts p.side.links side.links
    pub due : DialIsDue p.control.config s.machine to why
    pub goes : (c : Cause) → p.ends_for ≡ Some c → ⊥

  -- what each act is to be
  abbrev pub Gives : Act → Type 0
  Gives (act.Close u cause) = (taken : List Note) (trace : List Entry) (s : Stands taken p trace) → Closes taken trace s u cause
  Gives (act.Shut u) = (taken : List Note) (trace : List Entry) (s : Stands taken p trace) → Shuts taken trace s u
  Gives (act.Dial to why) = (taken : List Note) (trace : List Entry) (s : Stands taken p trace) → IsDialled taken trace s to why

  pub gives : (due : Act) (ends : Option Cause) → p.ends_for ≡ ends → Gives due
      → ((l : ℕ) → closed_in (Some due) ≢ Some l → SideStirs l p.side side)
      → Acts Stands shown_of (given_by ends due) p (given_behind ends due (record p { side = side }))
  gives (act.Close u cause) None is so stirs = λ taken trace s.
      let at = so taken trace s in (
        at.alive,
        at.stands,
        stir (Some (act.Close u cause)) trace (e.Closed u cause) stirs (λ l alive same. another trace u l cause alive cc),
      )
  gives (act.Close u cause) (Some c) is so stirs = λ taken trace s.
      let at = so taken trace s in (
        at.alive,
        subst (λ (w : Cause). Stands taken (with_act side None p.strange p) (trace ++ e.Closed u w ∷ [])) (at.for c is) at.stands,
        stir (Some (act.Close u cause)) trace (e.Closed u c) stirs (λ l alive same. another trace u l c alive cc),
      )
  gives (act.Shut u) None is so stirs = λ taken trace s.
      let at = so taken trace s in (
        at.alive,
        at.unshut,
        at.stands is,
        stir (Some (act.Shut u)) trace (e.Shut u) stirs (λ l alive same. absurd cc),
      )
  gives (act.Shut u) (Some c) is so stirs = λ taken trace s. absurd ((so taken trace s).goes c is)
  gives (act.Dial to why) None is so stirs = (
    refl,
    λ taken trace s.
        let at = so taken trace s in (
          waits p side taken trace s (Some (to, why)) at.links at.relays at.noted at.counts at.due,
          act_stirs p side (Some (to, why)) p.strange trace (λ l alive. stirs l (λ same. absurd cc)),
        ),
  )
  gives (act.Dial to why) (Some c) is so stirs = λ taken trace s. absurd ((so taken trace s).goes c is)
