-- What came of a dial is told.
use Rattle.std.proofs.Common.{◌≡◌, ◌≢◌, ◌⊎◌, inl, inr, ⊎_elim, ℕ, ◌≤◌, ◌||◌, Bool, true, false, List, [], ◌∷◌, ◌++◌, Option, Some, None, refl, ap, sym, ◌∙◌, subst, arith}
use Rattle.std.specs.Prelude.{⊤}
use Rattle.std.specs.FinMap.{get}
use Rattle.std.proofs.lemmas.Bool.{or_right}
use Rattle.hb_base.specs.declared.cause.Cause.{Cause}
use Rattle.hb_base.specs.declared.door.Door.{Door}
use Rattle.hb_base.specs.declared.door.Door.TheVariants as door
use Rattle.hb_base.specs.declared.door.Why.{Why}
use Rattle.hb_base.specs.declared.door.Why.TheVariants as whys
use Rattle.hb_base.specs.declared.note.Note.{Note}
use Rattle.hb_base.specs.declared.target.Target.{Target}
use Rattle.hb_captured.specs.Answer.{Aim, address_of, key_of, straight_to, through, why_for}
use Rattle.hb_captured.specs.Captured as captured
use Rattle.hb_captured.specs.Part as plain
use Rattle.hb_captured.specs.Runs as captured_runs
use Rattle.hb_gateway.specs.Gateway as gateway
use Rattle.hb_gateway.specs.Key.{Key, MayBeWritten, front_of}
use Rattle.hb_gateway.specs.Part as gate_part
use Rattle.hb_inbound.specs.Inbound as m
use Rattle.hb_inbound.specs.Inbound.{Inbound, at_stream}
use Rattle.hb_inbound.specs.Part as part
use Rattle.hb_inbound.specs.Runs as inbound
use Rattle.hb_inbound.specs.Tunnel as t
use Rattle.hb_inbound.specs.Tunnel.{Stage, up_entered}
use Rattle.hb_link.proofs.Noted.{makes_none}
use Rattle.hb_link.specs.Tunnels.{phase_of}
use Rattle.hb_link.specs.declared.link.Link.{Link}
use Rattle.hb_link.specs.declared.phase.Phase.{Phase as Here}
use Rattle.hb_link.specs.declared.phase.Phase.TheVariants as here
use Rattle.hb_links.proofs.Acting.{all_calm}
use Rattle.hb_links.specs.Calls as links
use Rattle.hb_links.specs.Reaches as links_reach
use Rattle.hb_links.specs.Load.{Recounts}
use Rattle.hb_links.specs.Reaches.{uncounted}
use Rattle.hb_links.specs.Shows.{ShowsAll, ShowsLink}
use Rattle.hb_links.specs.Stirring as links_stirring
use Rattle.hb_links.specs.declared.links.Links.{Links}
use Rattle.hb_model.proofs.DialsDue.{runs_on as dials_go_on}
use Rattle.hb_model.specs.Machine.{Machine as Control}
use Rattle.hb_model.specs.declared.config.NodeConfig.{NodeConfig}
use Rattle.hb_node.specs.State as node
use Rattle.hb_node.specs.State.{State, ShowsLink as ShowsControl, number_of}
use Rattle.hb_node.specs.declared.link.Link.{Link as ControlLink}
use Rattle.hb_proxy.proofs.Projection.{control_runs}
use Rattle.hb_proxy.specs.Doors.{is_at_door}
use Rattle.hb_proxy.specs.Load.{LinksFull}
use Rattle.hb_proxy.specs.Machine.{Machine, outward, with_gate, with_part, with_plain}
use Rattle.hb_proxy.specs.Notes.{notes}
use Rattle.hb_proxy.specs.Points.{of_gate, of_link, of_plain, control_of}
use Rattle.hb_proxy.specs.Runs.{BirthMayCome, ControlMayCome, ControlRests, DialsGate, GateMayCome, IfThrough, LinkMayCome, Lets, MayDialGate, NoneOffers, PlainLets, PlainMayCome, Steps, gate_first, goes_first, is_act, link_first, is_gate_faulted, is_link_faulted}
use Rattle.hb_relays.proofs.Due.{leads_refusing}
use Rattle.hb_relays.specs.Calls as relays
use Rattle.hb_relays.specs.Reaches as relays_reach
use Rattle.hb_relays.specs.Shows.{ShowsRelays}
use Rattle.hb_relays.specs.Stirring as relays_stirring
use Rattle.hb_relays.specs.declared.relays.Relays.{Relays}
use Rattle.hb_turns.specs.Shown as shown
use Rattle.hb_turns.specs.Shown.{Tells, dial_entry}
use Rattle.hb_world.specs.declared.entry.Entry.{Entry}
use Rattle.hb_world.specs.declared.entry.Entry.TheVariants as e
use Rattle.hb_whole.specs.Queue.{told}
use Rattle.hb_whole.specs.Sight.{is_number, shown_of}
use Rattle.hb_whole.specs.Stands.{Stands, EndsBy, MayBeDialled, DialIsDue, PlainDialIsDue, TunnelEnds, PlainEndsBy}
use Rattle.hb_whole.specs.declared.proxy.Proxy.{Proxy}
use Rattle.hb_whole.specs.declared.side.Side.{Side}
use Rattle.hb_whole.proofs.Births.{door_told, fresh_at, next_number, quiet_links, quiet_relays}
use Rattle.hb_whole.proofs.Born.{born_below}
use Rattle.hb_whole.proofs.Heard.{with_state, state_tells, state_stirs, judged_alone, enters}
use Rattle.hb_whole.proofs.Keys.{keys_written}
use Rattle.hb_whole.proofs.Keeping.{few_kept, keeps_then, links_keep, none_few, relays_keep, step_keeps}
use Rattle.hb_whole.proofs.Leading.{links_follow, relays_follow}
use Rattle.hb_whole.proofs.Limited.{none_arriving, recounts_same}
use Rattle.hb_whole.proofs.LinkMay.{up_steps}
use Rattle.hb_whole.proofs.Relays.{gates_calm, plain_calm}
use Rattle.hb_whole.proofs.Stirring.{links_stir, none_stir, relays_stir}
use Rattle.hb_whole.proofs.Telling.{with_side}

-- A DIAL OF THE CONTROL PLANE

-- it is due, so the run goes on, and no link to the control plane lives
due_of_control : (taken : List Note) (p : Proxy) (trace : List Entry) (s : Stands taken p trace) (to : Target) (why : Why)
    → why ≡ whys.Discovery → p.dials ≡ Some (to, why) → (s.machine.control.dials ≡ true) × (to ≡ p.control.config.discovery)
due_of_control taken p trace s to why is dials =
    subst (λ (w : Why). DialIsDue p.control.config s.machine to w) is
    (subst (λ (d : Option (Target × Why)). MayBeDialled p.control.config s.machine d) dials s.dial)

-- a run that goes on has no cause
no_cause : (x : Machine) (ends : Option Cause) → x.control.over ≡ false → EndsBy ends x → ends ≡ None
no_cause x None goes is = refl
no_cause x (Some c) goes is = absurd cc

dials_go : (taken : List Note) (p : Proxy) (trace : List Entry) (s : Stands taken p trace) → s.machine.control.dials ≡ true
    → (s.machine.control.over ≡ false) × (p.ends_for ≡ None)
dials_go taken p trace s dials =
    let goes = dials_go_on p.control.config s.machine.control (control_of s.points)
    (control_runs p.control.config s.machine s.points s.run) dials in
    (goes, no_cause s.machine p.ends_for goes s.ends)

none_owned : (o : Option ControlLink) (x : Control) (l : ℕ) → ShowsControl o x → x.dials ≡ true → is_number (number_of o) l ≡ false
none_owned None x l shows dials = refl
none_owned (Some k) x l shows dials = absurd cc

calm_control : (taken : List Note) (p : Proxy) (trace : List Entry) (s : Stands taken p trace) (z : Entry) → is_act z ≡ true
    → ((x : Control) → goes_first x z ≡ true) → BirthMayCome s.machine z → ControlMayCome s.machine z
calm_control taken p trace s z act first birth = record {
  birth = birth;
  links = λ l. subst (λ (b : Bool). Lets b (s.machine.inbound l)) (sym (first s.machine.control))
      (all_calm p.side.links s.machine.inbound s.links l);
  plain = λ l. subst (λ (b : Bool). PlainLets b (s.machine.plain l)) (sym (first s.machine.control))
      (plain_calm p.side.relays s.relays l);
  gates = gates_calm s.machine s.relays (goes_first s.machine.control z) (first s.machine.control);
}

pub control_fails : (p : Proxy) (n : State) (why : Why) → why ≡ whys.Discovery → node.Answers why None p.control n
    → (to : Target) → Tells Stands shown_of (e.DialFailed to why) p (with_state n p.side p)
control_fails p n why is answers to taken trace s may =
    let at = p.control.config.discovery in
    let due = due_of_control taken p trace s to why is may in
    let z = e.DialFailed at why in
    subst (λ (w : Target). Stands taken (with_state n p.side p) (trace ++ e.DialFailed w why ∷ [])
    × shown.Stirs (trace ++ e.DialFailed w why ∷ []) (shown_of p) (shown_of (with_state n p.side p))) (sym due.1)
    (state_tells p n p.side z refl (λ x. refl)
    (λ taken trace s may.
    let due = due_of_control taken p trace s at why is may in
    ((dials_go taken p trace s due.0).1, (due.0, refl, is), calm_control taken p trace s z refl (λ x. refl) tt))
    (judged_alone z p n answers) taken trace s
    (subst (λ (w : Target). p.dials ≡ Some (w, why)) due.1 may))

pub control_dialled : (p : Proxy) (n : State) (why : Why) (l : ℕ) → why ≡ whys.Discovery → node.Answers why (Some l) p.control n
    → (to : Target) → Tells Stands shown_of (e.Dialled l to why) p (with_state n p.side p)
control_dialled p n why l is answers to taken trace s may =
    let at = p.control.config.discovery in
    let due = due_of_control taken p trace s to why is may.0 in
    let goes = dials_go taken p trace s due.0 in
    let z = e.Dialled l at why in
    let next = next_number taken p trace s l may.1 in
    let below : s.machine.control.born ≤ s.machine.born = born_below p.control.config s.machine s.points s.run in
    let did = enters taken p n p.side trace z s goes.0 goes.1 refl (due.0, omega (arith, next, below), refl, is)
    (calm_control taken p trace s z refl (λ x. refl) next) (judged_alone z p n answers) in
    subst (λ (w : Target). Stands taken (with_state n p.side p) (trace ++ e.Dialled l w why ∷ [])
    × shown.Stirs (trace ++ e.Dialled l w why ∷ []) (shown_of p) (shown_of (with_state n p.side p))) (sym due.1) (
      did.stands,
      state_stirs p n p.side (trace ++ z ∷ [])
          (λ k none. none_owned p.control.link s.machine.control k s.control.link due.0) (none_stir p.side),
    )

pub control_answers : (p : Proxy) (n : State) (why : Why) (link : Option ℕ) → why ≡ whys.Discovery → node.Answers why link p.control n
    → (to : Target) → Tells Stands shown_of (dial_entry to why link) p (with_state n p.side p)
control_answers p n why None is answers to = control_fails p n why is answers to
control_answers p n why (Some l) is answers to = control_dialled p n why l is answers to

-- what the node is told of itself stays so
pub answers_config : (why : Why) (link : Option ℕ) (old new : State) → node.Answers why link old new → new.config ≡ old.config
answers_config why None old new answers = answers.0
answers_config why (Some l) old new answers = answers.0

-- A DIAL FOR A TUNNEL

-- an act goes first on any link
act_first : (phase : m.Phase) (z : Entry) → is_act z ≡ true → link_first phase z ≡ true
act_first phase z is = by (is_link_faulted phase) (is_act z) is
  where
    by : (a b : Bool) → b ≡ true → (a || b) ≡ true
    by true b is = refl
    by false b is = is

-- a tunnel that is due is of a link that is born
unborn_apart : (h : Here) → m.unborn ≡ phase_of h → ⊥
unborn_apart here.Fronting is = absurd cc
unborn_apart here.Serving is = absurd cc
unborn_apart (here.Faulted code) is = absurd cc
unborn_apart (here.Closing why) is = absurd cc
unborn_apart here.Closed is = absurd cc

due_is_born : (l s : ℕ) (o : Option Link) (x : Inbound) → ShowsLink l o x → (x.tunnels s).stage ≡ t.due → x.phase ≡ m.unborn → ⊥
due_is_born l s None x shows due unborn =
    ⊎_elim (λ (is : (x.tunnels s).stage ≡ t.unasked). let no : t.unasked ≡ t.due = sym is ∙ due in absurd cc)
    (λ (is : (x.tunnels s).stage ≡ t.gone). let no : t.gone ≡ t.due = sym is ∙ due in absurd cc) (shows.1 s)
due_is_born l s (Some k) x shows due unborn = unborn_apart k.phase (sym unborn ∙ shows.1.phase)

record UpDue (taken : List Note) (p : Proxy) (trace : List Entry) (s : Stands taken p trace) (to : Target) (l k : ℕ) : Type 0 where
  pub going : p.ends_for ≡ None
  pub rests : ControlRests s.machine.control
  pub stage : ((s.machine.inbound l).tunnels k).stage ≡ t.due
  pub target : to ≡ ((s.machine.inbound l).tunnels k).target

no_end : (x : Machine) (l k : ℕ) (ends : Option Cause) → ((x.inbound l).tunnels k).stage ≡ t.due → EndsBy ends x → ends ≡ None
no_end x l k None due is = refl
no_end x l k (Some c) due is = absurd (subst (λ (r : Stage). TunnelEnds c r) due (is.1.tunnels l k))

due_of_up : (taken : List Note) (p : Proxy) (trace : List Entry) (s : Stands taken p trace) (to : Target) (l k : ℕ)
    → p.dials ≡ Some (to, whys.Upstream l k) → UpDue taken p trace s to l k
due_of_up taken p trace s to l k dials =
    let due = subst (λ (d : Option (Target × Why)). MayBeDialled p.control.config s.machine d) dials s.dial in
    record { going = no_end s.machine l k p.ends_for due.1 s.ends; rests = due.0; stage = due.1; target = due.2 }

up_guard : (taken : List Note) (p : Proxy) (trace : List Entry) (s : Stands taken p trace) (l : ℕ) (z : Entry)
    → ControlRests s.machine.control → is_act z ≡ true → BirthMayCome s.machine z → LinkMayCome s.machine l z
up_guard taken p trace s l z rests act birth = record {
  birth = birth;
  control = rests;
  others = λ j apart. subst (λ (b : Bool). Lets b (s.machine.inbound j)) (sym (act_first (s.machine.inbound l).phase z act))
      (all_calm p.side.links s.machine.inbound s.links j);
  plain = λ j. subst (λ (b : Bool). PlainLets b (s.machine.plain j)) (sym (act_first (s.machine.inbound l).phase z act))
      (plain_calm p.side.relays s.relays j);
  gates = gates_calm s.machine s.relays (link_first (s.machine.inbound l).phase z) (act_first (s.machine.inbound l).phase z act);
}

-- what comes of it is told
up_told : (p : Proxy) (side : Side) (l k : ℕ) (z : Entry) → side.relays ≡ p.side.relays → is_at_door z ≡ false
    → links_reach.Meets uncounted (λ g x. ⊤) (of_link l (part.up k z)) p.side.links (told p.side.notes) side.links (told side.notes)
    → Recounts p.side.links side.links → links_stirring.Stirs p.side.links side.links → (taken : List Note) (trace : List Entry) (s : Stands taken p trace)
    → p.ends_for ≡ None → inbound.UpMayCome l k (s.machine.inbound l) ((s.machine.inbound l).tunnels k) z → LinkMayCome s.machine l z
    → Stands taken (with_side side p) (trace ++ z ∷ []) × shown.Stirs (trace ++ z ∷ []) (shown_of p) (shown_of (with_side side p))
up_told p side l k z same door meets counts stirs taken trace s going may guard =
    let g = p.control.config in
    let steps = up_steps g s.machine l k z may guard in
    let next = with_part l (part.up k z) (at_stream k (up_entered z) (s.machine.inbound l)) s.machine in
    let behind = meets g s.machine next s.points s.run s.links tt steps in
    door_told taken p side trace z s (of_link l (part.up k z)) next going steps refl door refl refl counts
    (links_follow g next (told p.side.notes) side uncounted
    (subst (λ (r : Relays). ShowsRelays g r (outward s.machine)) (sym same) s.relays) behind)
    (few_kept g s.machine behind.reached
    (keeps_then s.machine next behind.reached (step_keeps g s.machine next (of_link l (part.up k z)) tt steps)
    (links_keep uncounted (λ x i is. is) g next behind.more behind.reached behind.leads))
    (plain_calm p.side.relays s.relays) (none_arriving side.links behind.reached.inbound behind.shows))
    (λ j. links_stir p.side side j same (stirs j))

pub up_fails : (p : Proxy) (side : Side) (l k : ℕ) → side.relays ≡ p.side.relays
    → links.DialFails l k p.side.links (told p.side.notes) side.links (told side.notes) → Recounts p.side.links side.links
    → links_stirring.Stirs p.side.links side.links
    → (to : Target) → Tells Stands shown_of (e.DialFailed to (whys.Upstream l k)) p (with_side side p)
up_fails p side l k same fails counts stirs to taken trace s may =
    let z = e.DialFailed to (whys.Upstream l k) in
    let due = due_of_up taken p trace s to l k may in
    up_told p side l k z same refl (fails to (whys.Upstream l k)) counts stirs taken trace s due.going
    (all_calm p.side.links s.machine.inbound s.links l, due.stage, due.target, refl)
    (up_guard taken p trace s l z due.rests refl tt)

pub up_dialled : (p : Proxy) (new : Links) (l k u : ℕ) → links.Dials l k u p.side.links new → Recounts p.side.links new
    → links_stirring.Stirs p.side.links new → (to : Target) → Tells Stands shown_of (e.Dialled u to (whys.Upstream l k)) p (with_side (record p.side { links = new }) p)
up_dialled p new l k u dials counts stirs to taken trace s may =
    let z = e.Dialled u to (whys.Upstream l k) in
    let due = due_of_up taken p trace s to l k may.0 in
    let next = next_number taken p trace s u may.1 in
    let fresh = fresh_at taken p trace s u next in
    let apart : u ≢ l =
    λ same. due_is_born l k (get p.side.links.links l) (s.machine.inbound l) (s.links.links l) due.stage
    (ap (λ (j : ℕ). (s.machine.inbound j).phase) (sym same) ∙ fresh.link) in
    up_told p (record p.side { links = new }) l k z refl refl
    (quiet_links uncounted (λ g x. ⊤) (of_link l (part.up k z)) p.side.links new (told p.side.notes) (dials to (whys.Upstream l k)))
    counts stirs taken trace s due.going
    (all_calm p.side.links s.machine.inbound s.links l, due.stage, (omega (arith, next), apart, λ j. fresh.up l j), due.target, refl)
    (up_guard taken p trace s l z due.rests refl next)

-- A DIAL FOR A PLAIN LINK

-- it is straight for this link, at the plain door or at the outbound one; or it is for this link, also of its gateway
abbrev pub IsFor : ℕ → Why → Type 0
IsFor l why = (why ≡ whys.Plain l) ⊎ (why ≡ whys.Direct l)

abbrev pub IsOf : ℕ → Why → Type 0
IsOf l why = IsFor l why ⊎ (why ≡ whys.Gateway l)

record PlainDue (taken : List Note) (p : Proxy) (trace : List Entry) (s : Stands taken p trace) (to : Target) (why : Why)
    (l : ℕ) : Type 0 where
  pub going : p.ends_for ≡ None
  pub rests : ControlRests s.machine.control
  pub why_is : why ≡ why_for (s.machine.plain l).aim (s.machine.plain l).door l
  pub stage : (s.machine.plain l).stage ≡ captured.due
  pub gate : DialsGate s.machine l × MayDialGate p.control.config s.machine l
  pub address : to ≡ address_of (s.machine.plain l).aim

no_plain_end : (x : Machine) (l : ℕ) (ends : Option Cause) → (x.plain l).stage ≡ captured.due → EndsBy ends x → ends ≡ None
no_plain_end x l None due is = refl
no_plain_end x l (Some c) due is = absurd (subst (λ (r : captured.Stage). PlainEndsBy c r (x.plain l)) due (is.1.plain l))

dial_for : (g : NodeConfig) (x : Machine) (to : Target) (why : Why) (l : ℕ) → IsOf l why → DialIsDue g x to why
    → PlainDialIsDue g x to why l
dial_for g x to why l (inl (inl is)) = subst (λ (w : Why). DialIsDue g x to w → PlainDialIsDue g x to w l) (sym is) (λ due. due)
dial_for g x to why l (inl (inr is)) = subst (λ (w : Why). DialIsDue g x to w → PlainDialIsDue g x to w l) (sym is) (λ due. due)
dial_for g x to why l (inr is) = subst (λ (w : Why). DialIsDue g x to w → PlainDialIsDue g x to w l) (sym is) (λ due. due)

due_of_plain : (taken : List Note) (p : Proxy) (trace : List Entry) (s : Stands taken p trace) (to : Target) (why : Why) (l : ℕ)
    → IsOf l why → p.dials ≡ Some (to, why) → PlainDue taken p trace s to why l
due_of_plain taken p trace s to why l for dials =
    let due = dial_for p.control.config s.machine to why l for
    (subst (λ (d : Option (Target × Why)). MayBeDialled p.control.config s.machine d) dials s.dial) in
    record {
      going = no_plain_end s.machine l p.ends_for due.2 s.ends;
      rests = due.0;
      why_is = due.1;
      stage = due.2;
      gate = (due.3, s.limited.few.room l due.2);
      address = due.4;
    }

-- a straight dial is of a link that waits for none to a gateway
straight_for : (aim : Aim) (d : Door) (l : ℕ) (why : Why) → IsFor l why → why ≡ why_for aim d l → key_of aim ≡ None
straight_for (straight_to to endpoint) d l why for is = refl
straight_for (through key authority endpoint) d l why (inl plain) is = let no : whys.Plain l ≡ whys.Gateway l = sym plain ∙ is in absurd cc
straight_for (through key authority endpoint) d l why (inr direct) is =
    let no : whys.Direct l ≡ whys.Gateway l = sym direct ∙ is in absurd cc

plain_guard : (taken : List Note) (p : Proxy) (trace : List Entry) (s : Stands taken p trace) (l : ℕ) (z : Entry)
    → ControlRests s.machine.control → is_act z ≡ true → BirthMayCome s.machine z → PlainMayCome s.machine l z
plain_guard taken p trace s l z rests act birth = record {
  birth = birth;
  control = rests;
  links = λ j. subst (λ (b : Bool). Lets b (s.machine.inbound j)) (sym act) (all_calm p.side.links s.machine.inbound s.links j);
  others = λ j apart. subst (λ (b : Bool). PlainLets b (s.machine.plain j)) (sym act)
      (plain_calm p.side.relays s.relays j);
  gates = gates_calm s.machine s.relays (is_act z) act;
}

plain_told : (p : Proxy) (side : Side) (l : ℕ) (z : Entry) → side.links ≡ p.side.links → is_at_door z ≡ false
    → relays_reach.Meets relays_reach.any (of_plain l (plain.up z)) p.side.relays (told p.side.notes) side.relays (told side.notes)
    → relays_stirring.Stirs p.side.relays side.relays → (taken : List Note) (trace : List Entry) (s : Stands taken p trace)
    → p.ends_for ≡ None → captured_runs.UpMayCome l (s.machine.plain l) z → PlainMayCome s.machine l z
    → DialsGate s.machine l × MayDialGate p.control.config s.machine l
    → Stands taken (with_side side p) (trace ++ z ∷ []) × shown.Stirs (trace ++ z ∷ []) (shown_of p) (shown_of (with_side side p))
plain_told p side l z same door meets stirs taken trace s going may guard gate =
    let next = with_plain l (plain.up z) (captured.up_entered z (s.machine.plain l)) s.machine in
    let steps : Steps p.control.config s.machine (of_plain l (plain.up z)) next =
    (may, (guard, gate.0, gate.1), refl) in
    let g = p.control.config in
    let behind = meets g s.machine next s.points s.run s.relays tt steps in
    let follows = relays_follow g next (told p.side.notes) side
    (subst (λ (k : Links). ShowsAll k s.machine.inbound) (sym same) s.links) behind in
    door_told taken p side trace z s (of_plain l (plain.up z)) next going steps refl door refl refl
    (recounts_same p.side.links side.links same) follows
    (few_kept g s.machine behind.reached
    (keeps_then s.machine next behind.reached (step_keeps g s.machine next (of_plain l (plain.up z)) tt steps)
    (relays_keep g next behind.more behind.reached (leads_refusing g next behind.more behind.reached behind.leads)))
    (plain_calm p.side.relays s.relays) (none_arriving side.links behind.reached.inbound follows.links))
    (λ j. relays_stir p.side side j same (stirs j))

plain_fails : (p : Proxy) (side : Side) (why : Why) (l : ℕ) → IsOf l why → side.links ≡ p.side.links
    → relays.DialFails l p.side.relays (told p.side.notes) side.relays (told side.notes) → relays_stirring.Stirs p.side.relays side.relays
    → (to : Target) → Tells Stands shown_of (e.DialFailed to why) p (with_side side p)
plain_fails p side why l for same fails stirs to taken trace s may =
    let z = e.DialFailed to why in
    let due = due_of_plain taken p trace s to why l for may in
    plain_told p side l z same refl (fails to why) stirs taken trace s due.going
    (plain_calm p.side.relays s.relays l, due.stage, due.address, due.why_is)
    (plain_guard taken p trace s l z due.rests refl tt) due.gate

plain_dialled : (p : Proxy) (new : Relays) (why : Why) (l u : ℕ) → IsFor l why → relays.Dials l u p.side.relays new
    → relays_stirring.Stirs p.side.relays new
    → (to : Target) → Tells Stands shown_of (e.Dialled u to why) p (with_side (record p.side { relays = new }) p)
plain_dialled p new why l u for dials stirs to taken trace s may =
    let z = e.Dialled u to why in
    let due = due_of_plain taken p trace s to why l (inl for) may.0 in
    let straight = straight_for (s.machine.plain l).aim (s.machine.plain l).door l why for due.why_is in
    let next = next_number taken p trace s u may.1 in
    let fresh = fresh_at taken p trace s u next in
    let apart : u ≢ l =
    λ same. let no : captured.unborn ≡ captured.due =
    sym fresh.plain ∙ ap (λ (j : ℕ). (s.machine.plain j).stage) same ∙ due.stage in absurd cc in
    plain_told p (record p.side { relays = new }) l z refl refl
    (quiet_relays relays_reach.any (of_plain l (plain.up z)) p.side.relays new (told p.side.notes) (dials to why))
    stirs taken trace s due.going
    ((plain_calm p.side.relays s.relays l, due.stage, due.address, due.why_is), straight, omega (arith, next), apart)
    (plain_guard taken p trace s l z due.rests refl next) due.gate

-- A DIAL OF A GATEWAY

-- it is of a link whose way leads there
record GateWanted (aim : Aim) : Type 0 where
  pub key : Key
  pub keyed : key_of aim ≡ Some key
  pub address : address_of aim ≡ key.gateway

gate_wanted : (aim : Aim) (d : Door) (l : ℕ) → whys.Gateway l ≡ why_for aim d l → GateWanted aim
gate_wanted (straight_to to endpoint) door.Inbound l is = absurd cc
gate_wanted (straight_to to endpoint) door.Plain l is = absurd cc
gate_wanted (straight_to to endpoint) door.Outbound l is = absurd cc
gate_wanted (through key authority endpoint) d l is = record { key = key; keyed = refl; address = refl }

gate_guard : (taken : List Note) (p : Proxy) (trace : List Entry) (s : Stands taken p trace) (n : ℕ) (z : Entry)
    → ControlRests s.machine.control → is_act z ≡ true → BirthMayCome s.machine z → GateMayCome s.machine n z
gate_guard taken p trace s n z rests act birth =
    let first : gate_first (s.machine.gates n).phase z ≡ true = or_right (is_gate_faulted (s.machine.gates n).phase) (is_act z) act in
    let gates = gates_calm s.machine s.relays (gate_first (s.machine.gates n).phase z) first in
    record {
      birth = birth;
      control = rests;
      links = λ j. subst (λ (b : Bool). Lets b (s.machine.inbound j)) (sym first) (all_calm p.side.links s.machine.inbound s.links j);
      plain = λ j. subst (λ (b : Bool). PlainLets b (s.machine.plain j)) (sym first) (plain_calm p.side.relays s.relays j);
      others = λ j apart. gates.gates j;
      streams = gates.streams;
    }

gate_dialled : (p : Proxy) (new : Relays) (l n : ℕ) → relays.DialsGate l n p.side.relays new → relays_stirring.Stirs p.side.relays new
    → (to : Target) → Tells Stands shown_of (e.Dialled n to (whys.Gateway l)) p (with_side (record p.side { relays = new }) p)
gate_dialled p new l n dials stirs to taken trace s may =
    let z = e.Dialled n to (whys.Gateway l) in
    let x = s.machine in
    let due = due_of_plain taken p trace s to (whys.Gateway l) l (inr refl) may.0 in
    let wanted = gate_wanted (x.plain l).aim (x.plain l).door l due.why_is in
    let key = wanted.key in
    let number = next_number taken p trace s n may.1 in
    let written = subst (λ (o : Option Key). IfThrough o MayBeWritten) wanted.keyed
    (keys_written p.control.config x s.points s.run l) in
    let gate = record (x.gates n) { key = key; phase = gateway.opening; front = front_of key } in
    let point = of_gate n (gate_part.dialled z key) in
    let next = with_gate n (gate_part.dialled z key) gate x in
    let steps : Steps p.control.config x point next = (
      gate,
      ((refl, (fresh_at taken p trace s n number).gate, due.address ∙ wanted.address, written), refl),
      (
        gate_guard taken p trace s n z due.rests refl number,
        record {
          due = due.stage;
          keyed = wanted.keyed;
          none = subst (λ (o : Option Key). IfThrough o (NoneOffers x)) wanted.keyed due.gate.0;
        },
        subst (λ (o : Option Key). IfThrough o (λ key. LinksFull false p.control.config x)) wanted.keyed due.gate.1,
      ),
      refl,
    ) in
    let did = dials to key p.control.config x next s.points s.run s.relays (λ k is. s.limited.few.one k l is due.stage) steps in
    let behind = did.0 in
    door_told taken p (record p.side { relays = new }) trace z s point next due.going steps refl refl refl refl (λ counted. counted)
    (relays_follow p.control.config next (told p.side.notes) (record p.side { relays = new }) s.links (record {
      more = behind.more;
      reached = behind.reached;
      leads = behind.leads;
      shows = behind.shows;
      noted = makes_none (notes behind.more) behind.noted (told p.side.notes);
    }))
    (λ few. none_few p.control.config behind.reached did.1)
    (λ j. relays_stir p.side (record p.side { relays = new }) j refl (stirs j))

-- ANSWERS TO DIALS, BY WHAT THEY ARE

-- an answer is of the dial that it is of
answered : (p q : Proxy) (why due : Why) (link got : Option ℕ) → why ≡ due → link ≡ got
    → ((to : Target) → Tells Stands shown_of (dial_entry to due got) p q) → (to : Target)
    → Tells Stands shown_of (dial_entry to why link) p q
answered p q why due link got why_is link_is tells to =
    subst (λ (w : Why). Tells Stands shown_of (dial_entry to w link) p q) (sym why_is)
    (subst (λ (o : Option ℕ). Tells Stands shown_of (dial_entry to due o) p q) (sym link_is) (tells to))

pub up_answers : (p : Proxy) (new : Links) (why : Why) (link : Option ℕ) (l k u : ℕ) → why ≡ whys.Upstream l k → link ≡ Some u
    → links.Dials l k u p.side.links new → Recounts p.side.links new → links_stirring.Stirs p.side.links new → (to : Target)
    → Tells Stands shown_of (dial_entry to why link) p (with_side (record p.side { links = new }) p)
up_answers p new why link l k u why_is link_is dials counts stirs =
    answered p (with_side (record p.side { links = new }) p) why (whys.Upstream l k) link (Some u) why_is link_is
    (up_dialled p new l k u dials counts stirs)

pub up_answers_none : (p : Proxy) (side : Side) (why : Why) (link : Option ℕ) (l k : ℕ) → side.relays ≡ p.side.relays
    → why ≡ whys.Upstream l k → link ≡ None → links.DialFails l k p.side.links (told p.side.notes) side.links (told side.notes)
    → Recounts p.side.links side.links → links_stirring.Stirs p.side.links side.links → (to : Target)
    → Tells Stands shown_of (dial_entry to why link) p (with_side side p)
up_answers_none p side why link l k same why_is link_is fails counts stirs =
    answered p (with_side side p) why (whys.Upstream l k) link None why_is link_is (up_fails p side l k same fails counts stirs)

pub plain_answers : (p : Proxy) (new : Relays) (why : Why) (link : Option ℕ) (l u : ℕ) → IsFor l why → link ≡ Some u
    → relays.Dials l u p.side.relays new → relays_stirring.Stirs p.side.relays new → (to : Target)
    → Tells Stands shown_of (dial_entry to why link) p (with_side (record p.side { relays = new }) p)
plain_answers p new why link l u for link_is dials stirs =
    answered p (with_side (record p.side { relays = new }) p) why why link (Some u) refl link_is
    (plain_dialled p new why l u for dials stirs)

pub plain_answers_none : (p : Proxy) (side : Side) (why : Why) (link : Option ℕ) (l : ℕ) → side.links ≡ p.side.links
    → IsOf l why → link ≡ None → relays.DialFails l p.side.relays (told p.side.notes) side.relays (told side.notes)
    → relays_stirring.Stirs p.side.relays side.relays → (to : Target)
    → Tells Stands shown_of (dial_entry to why link) p (with_side side p)
plain_answers_none p side why link l same for link_is fails stirs =
    answered p (with_side side p) why why link None refl link_is (plain_fails p side why l for same fails stirs)

pub gate_answers : (p : Proxy) (new : Relays) (why : Why) (link : Option ℕ) (l n : ℕ) → why ≡ whys.Gateway l → link ≡ Some n
    → relays.DialsGate l n p.side.relays new → relays_stirring.Stirs p.side.relays new → (to : Target)
    → Tells Stands shown_of (dial_entry to why link) p (with_side (record p.side { relays = new }) p)
gate_answers p new why link l n why_is link_is dials stirs =
    answered p (with_side (record p.side { relays = new }) p) why (whys.Gateway l) link (Some n) why_is link_is
    (gate_dialled p new l n dials stirs)
