-- What steps and laws of the whole refuse, and what may go.
use Rattle.std.proofs.Common.{◌≡◌, ◌==◌, ◌<◌, ◌≤◌, List, [], ◌∷◌, ◌++◌, Some, None, refl, ap, sym, ◌∙◌, subst, arith, true, false, ◌||◌, Bool, ⊎_elim}
use Rattle.std.proofs.lemmas.Bool.{cond_both, false≢true}
use Rattle.hb_inbound.specs.Tunnel.{is_unanswered}
use Rattle.std.proofs.lemmas.List.{append-nil, append_assoc}
use Rattle.hb_base.specs.declared.cause.Cause.TheVariants as cause
use Rattle.hb_base.specs.declared.door.Door.{Door}
use Rattle.hb_base.specs.declared.door.Door.TheVariants as door
use Rattle.hb_base.specs.declared.door.Why.TheVariants as whys
use Rattle.hb_base.specs.declared.peer.Peer.{Peer}
use Rattle.hb_captured.specs.Captured as captured_link
use Rattle.hb_captured.specs.Captured.{at_stage}
use Rattle.hb_captured.specs.Part as captured
use Rattle.hb_captured.specs.Runs.{Captures}
use Rattle.hb_held.specs.Outcome.{after_response}
use Rattle.hb_inbound.specs.Calm.{IsCalm, IsQuiet, close_due}
use Rattle.hb_inbound.specs.Inbound.{no_link, arriving, fronting, with_phase}
use Rattle.hb_inbound.specs.Part as part
use Rattle.hb_inbound.proofs.RefusedRuns.{revoked}
use Rattle.hb_inbound.specs.RefusedRuns.{peer_in}
use Rattle.hb_model.specs.Discovery as discovery
use Rattle.hb_model.specs.Machine as control
use Rattle.hb_model.specs.Point as point
use Rattle.hb_model.specs.Runs.{IsCalmBy}
use Rattle.hb_model.specs.declared.config.NodeConfig.{NodeConfig}
use Rattle.hb_table.specs.Judgement.{judged}
use Rattle.hb_world.specs.declared.entry.Entry.{Entry}
use Rattle.hb_world.specs.declared.entry.Entry.TheVariants as e
use Rattle.hb_proxy.specs.Access.{UpIsAdmitted, AccessLaw}
use Rattle.hb_proxy.specs.Held.{at_start}
use Rattle.hb_proxy.specs.Load.{most_tunnels}
use Rattle.hb_proxy.specs.Machine.{Machine, fresh, with_control, with_part, with_plain}
use Rattle.hb_proxy.specs.OutboundRefused.{outbound_updated, OutboundGoesOn, OutboundGoesBack}
use Rattle.hb_proxy.specs.Owners.{nobody, control_plane, inbound_link}
use Rattle.hb_proxy.specs.Points.{Point, of_control, of_link, of_plain}
use Rattle.hb_proxy.specs.Refused.{ComesUnborn, ReadsUnborn, ReadsAnothers, BornTwice, BornAgain, SeesAlone, SeeAll, AnswersAnother, AnswersControl}
use Rattle.hb_proxy.specs.Refused.{lived, WritesBehind, ReadsBehind, TicksBehind, InventsByte, DialsTwice, ComesWhileDue, DialsWhileDue, AcceptsBehindEnd, StopsUnanswered, AcceptsFirst, ReadsEnded, GoesOnAdmitted, plain_updated, PlainGoesOn}
use Rattle.hb_proxy.specs.Refused.{begun, RunMayGo, plain_begun, PlainRunMayGo, IsLawful, RunIsLawful}
use Rattle.hb_proxy.specs.Runs.{link_first, ControlRests, ControlMayCome, LinkMayCome, PlainMayCome, StandsFor, begins, goes_on}
use Rattle.hb_proxy.proofs.Access.{At, runs_admit}
use Rattle.hb_proxy.proofs.Control.{obey_entries}
use Rattle.hb_proxy.proofs.Dials.{runs_dial}
use Rattle.hb_proxy.proofs.Ends.{unfaulted, lets_quiet, runs_end}
use Rattle.hb_proxy.proofs.Own.{runs_own, runs_number}
use Rattle.hb_proxy.proofs.Relay.{runs_relay}
use Rattle.hb_proxy.proofs.Room.{room_for_link, room_for_place, link_alone, place_alone, one_place}
use Rattle.hb_proxy.proofs.SettledRefused.{none_carries}
use Rattle.hb_proxy.proofs.Stays.{is_born, may_born}

pub comes_unborn : ComesUnborn
comes_unborn g x y l bytes is steps =
    false≢true (sym (ap is_born is) ∙ may_born l (x.inbound l) (e.Came l bytes) steps.1.0 refl)

pub reads_unborn : ReadsUnborn
reads_unborn bytes law =
    let mine : nobody ≡ control_plane = law [] (of_control (point.entry (e.Came 1 bytes))) [] refl in cc

pub reads_anothers : ReadsAnothers
reads_anothers to bytes law =
    let dialled = of_control (point.entry (e.Dialled 1 to whys.Discovery)) in
    let mine : control_plane ≡ inbound_link = (law (dialled ∷ []) (of_link 1 (part.entry (e.Came 1 bytes))) [] refl).1 in cc

pub born_twice : BornTwice
born_twice to law =
    let number : 1 ≡ 2 = law (e.Dialled 1 to whys.Discovery ∷ []) (e.Accepted 1 door.Inbound) [] refl in absurd (omega (arith, number))

pub born_again : BornAgain
born_again g x y l to is steps = absurd (omega (arith, is, steps.2.birth))

pub sees_alone : SeesAlone
sees_alone g x y l r steps = steps.2

pub see_all : SeeAll
see_all g x y k l r steps = ap (λ (z : Machine). z.inbound l) steps.3

pub answers_another : AnswersAnother
answers_another g x y l s u k to apart steps =
    let asked : whys.Upstream k s ≡ whys.Upstream l s = steps.1.0.4 in apart (let same : k ≡ l = cc in same)

pub answers_control : AnswersControl
answers_control g x y l s u to steps = (let asked : whys.Upstream l s ≡ whys.Discovery = steps.1.0.3 in cc)

pub dials_twice : DialsTwice
dials_twice to law = (let same : 3 ≡ 4 = law.streams 2 1 3 4 refl refl in absurd (omega (arith, same)))

pub comes_while_due : ComesWhileDue
comes_while_due g x y l k why bytes apart due steps =
    let quiet = lets_quiet (link_first (x.inbound l).phase (e.Came l bytes)) (x.inbound k)
    (ap (λ (b : Bool). b || false) (⊎_elim (λ h. unfaulted (x.inbound l).phase h.0.no_close)
    (λ h. unfaulted (x.inbound l).phase h.0.no_close)
    steps.1.0.1.0)) (steps.2.others k apart) in
    let none : Some why ≡ None = sym (ap close_due due) ∙ quiet.no_close in cc

pub dials_while_due : DialsWhileDue
dials_while_due g x y l s u to due steps = false≢true (sym steps.2.control.no_dial ∙ due)

pub stops_unanswered : StopsUnanswered
stops_unanswered g x y l s why headers end is steps =
    absurd (false≢true (sym (steps.2.links l s) ∙ ap is_unanswered is))

pub accepts_behind_end : AcceptsBehindEnd
accepts_behind_end g x y l over steps = false≢true (sym steps.2.birth.1 ∙ over)

pub writes_behind : WritesBehind
writes_behind g to seen target note r bytes not law =
    let at = law.links (lived to seen target note r) 2 (part.up 1 (e.Went 3 bytes)) [] refl in
    let same_peer : peer_in seen ≡ at.peer = (let told : Some (peer_in seen) ≡ Some at.peer = at.peer_is in cc) in
    let same_target : target ≡ at.target = (let told : Some target ≡ Some at.target = at.target_is in cc) in
    not (ap (λ (p : Peer). judged (after_response (at_start g) r) p target) same_peer
    ∙ ap (judged (after_response (at_start g) r) at.peer) same_target ∙ at.admitted)

pub reads_behind : ReadsBehind
reads_behind g to seen target note r bytes not law =
    let at = law (lived to seen target note r) (of_link 4 (part.entry (e.Came 4 bytes))) [] refl in
    let open_yet : 3 ≡ 0 = at.0.links 2 1 cause.Revoked (revoked (at_start g) seen target note r not) in absurd (omega (arith, open_yet))

pub ticks_behind : TicksBehind
ticks_behind g to seen target note r not law =
    let at = law (lived to seen target note r) (of_control (point.entry e.Tick)) [] refl in
    let open_yet : 3 ≡ 0 = at.links 2 1 cause.Revoked (revoked (at_start g) seen target note r not) in absurd (omega (arith, open_yet))

pub invents_byte : InventsByte
invents_byte to seen target note r byte law =
    let up = law.ups 2 1 3 refl in
    let none : [] ≡ byte ∷ up.rest = up.front in cc

pub accepts_first : AcceptsFirst
accepts_first g law =
    let none : true ≡ false = law [] (of_link 1 (part.entry (e.Accepted 1 door.Inbound))) [] refl (e.Accepted 1 door.Inbound) refl in cc

pub reads_ended : ReadsEnded
reads_ended to bytes law =
    let before = of_control (point.entry (e.Dialled 1 to whys.Discovery)) ∷ of_link 2 (part.entry (e.Accepted 2 door.Inbound))
    ∷ of_control (point.entry (e.Ended 1)) ∷ [] in
    let none : Some cause.Broken ≡ None =
    law.ends before (of_link 2 (part.entry (e.Came 2 bytes))) (e.Came 2 bytes) [] refl refl 1 refl refl in cc

-- a law at each point of a run, one place after another
Places : (List Point → Point → Type 0) → List Point → List Point → Type 0
Places P before [] = Unit {0}
Places P before (q ∷ points) = P before q × Places P (before ++ q ∷ []) points

places : (P : List Point → Point → Type 0) (before points : List Point) → Places P before points
    → (front : List Point) (p : Point) (behind : List Point) → points ≡ front ++ p ∷ behind → P (before ++ front) p
unfolding Places
places P before [] each [] p behind are = absurd (let no_more : [] ≡ p ∷ behind = are in cc)
places P before [] each (q ∷ front) p behind are = absurd (let no_more : [] ≡ q ∷ (front ++ p ∷ behind) = are in cc)
places P before (y ∷ points) each [] p behind are =
    let same : y ≡ p = cc in
    subst (λ (ps : List Point). P ps p) (sym (append-nil before)) (subst (P before) same each.0)
places P before (y ∷ points) each (q ∷ front) p behind are =
    let same : y ≡ q = cc in
    let rest : points ≡ front ++ p ∷ behind = cc in
    subst (λ (ps : List Point). P ps p) (append_assoc before (q ∷ []) front)
    (subst (λ (z : Point). P ((before ++ z ∷ []) ++ front) p) same
    (places P (before ++ y ∷ []) points each.1 front p behind rest))

access_so : (g : NodeConfig) (points : List Point) → Places (At g) [] points → AccessLaw g points
access_so g points each = record {
  links = λ before l p behind are. places (At g) [] points each before (of_link l p) behind are;
  plain = λ before l p behind are. places (At g) [] points each before (of_plain l p) behind are;
}

pub goes_on_admitted : GoesOnAdmitted
unfolding Places
goes_on_admitted g to seen target note r bytes is =
    access_so g (lived to seen target note r ++ of_link 2 (part.up 1 (e.Went 3 bytes)) ∷ [])
    (tt, (tt, (tt, (tt, (tt, (tt, (tt, (tt, (admitted, tt)))))))))
  where
    admitted : UpIsAdmitted g (lived to seen target note r) 2 1 (e.Went 3 bytes)
    admitted = record { peer = peer_in seen; target = target; peer_is = refl; target_is = refl; admitted = is }

pub plain_goes_on : PlainGoesOn
unfolding Places
plain_goes_on g to bytes seen note r more is =
    access_so g (plain_updated to bytes seen note r ++ of_plain 2 (captured.up (e.Went 3 more)) ∷ [])
    (tt, (tt, (tt, (tt, (tt, (tt, (tt, (tt, (tt, (λ judged_here. record { seen = seen; told = refl; admitted = is }, tt))))))))))

-- at the outbound door peers aren't judged
pub outbound_goes_on : OutboundGoesOn
unfolding Places
outbound_goes_on g control bytes seen address note r more not =
    access_so g (outbound_updated control bytes seen address note r ++ of_plain 2 (captured.up (e.Went 3 more)) ∷ [])
    (tt, (tt, (tt, (tt, (tt, (tt, (tt, (tt, (tt, (λ judged_here. absurd (false≢true judged_here), tt))))))))))

pub outbound_goes_back : OutboundGoesBack
unfolding Places
outbound_goes_back g control bytes seen address note r more not =
    access_so g (outbound_updated control bytes seen address note r ++ of_plain 2 (captured.entry (e.Went 2 more)) ∷ [])
    (tt, (tt, (tt, (tt, (tt, (tt, (tt, (tt, (tt, (λ judged_here. absurd (false≢true judged_here), tt))))))))))

-- A RUN

calm : IsCalm no_link
calm = record { answered = λ s. refl; rests = tt }

quiet : IsQuiet no_link
quiet = record { calm = calm; no_close = refl; idle = λ s. tt }

-- the control plane is dialled
abbrev pub dial : NodeConfig → Entry
dial g = e.Dialled 1 g.discovery whys.Discovery

abbrev discovering : NodeConfig → control.Machine
discovering g = control.entered g (dial g) (control.fresh g)

abbrev first : NodeConfig → Machine
first g = with_control (point.entry (dial g)) (discovering g) (fresh g)

dialled : (g : NodeConfig) → StandsFor g (first g) (of_control (point.entry (dial g)) ∷ [])
dialled g =
    goes_on (begins refl refl) (of_control (point.entry (dial g)))
    (discovering g, ((refl, omega arith, refl, refl), refl), guard, refl) refl
  where
    guard : ControlMayCome (fresh g) (dial g)
    guard = record { birth = refl; links = λ l. calm; plain = λ l. tt; gates = none_carries true (fresh g) refl (λ l. refl) }

rests : (g : NodeConfig) → ControlRests (discovering g)
rests g = record {
  no_dial = refl;
  calm = λ l. cond_both (1 == l) (discovery.dialled g.id g.discovery (control.fresh g).held) discovery.no_link
      (λ d. IsCalmBy d.phase d) (λ is. tt) (λ is. tt);
}

pub run_may_go : RunMayGo
run_may_go g some =
    let accept = e.Accepted 2 door.Inbound in
    let link = with_phase arriving no_link in
    let y = with_part 2 (part.entry accept) link (first g) in
    let z = with_part 2 part.welcomed (with_phase fronting link) y in
    let guard : LinkMayCome (first g) 2 accept =
    record {
      birth = (refl, refl);
      control = rests g;
      others = λ k apart. quiet;
      plain = λ k. (tt, tt);
      gates = none_carries false (first g) refl (λ l. refl);
    } in
    let accepted : StandsFor g y (of_control (point.entry (dial g)) ∷ of_link 2 (part.entry accept) ∷ []) =
    goes_on (dialled g) (of_link 2 (part.entry accept)) (link, ((refl, refl, refl), refl), guard, refl) refl in
    let room = room_for_link g y 2 some (link_alone 2 link) (let one : 1 ≤ 1 = omega arith in one) in
    (z, goes_on accepted (of_link 2 part.welcomed) (with_phase fronting link, (refl, refl), room, refl) refl)

-- behind that a link is accepted and taken in, at any door where one is captured
abbrev pub taken_in : NodeConfig → Door → List Point
taken_in g d =
    of_control (point.entry (dial g)) ∷ of_plain 2 (captured.entry (e.Accepted 2 d)) ∷ of_plain 2 captured.welcomed ∷ []

pub captured_may_go : (g : NodeConfig) (d : Door) → Captures d → 0 < most_tunnels g → (x : Machine) × StandsFor g x (taken_in g d)
captured_may_go g d caught some =
    let accept = e.Accepted 2 d in
    let link = captured_link.entered accept captured_link.no_link in
    let y = with_plain 2 (captured.entry accept) link (first g) in
    let z = with_plain 2 captured.welcomed (at_stage captured_link.fronting link) y in
    let guard : PlainMayCome (first g) 2 accept =
    record {
      birth = (refl, refl);
      control = rests g;
      links = λ k. quiet;
      others = λ k apart. (tt, tt);
      gates = none_carries false (first g) refl (λ l. refl);
    } in
    let accepted : StandsFor g y (of_control (point.entry (dial g)) ∷ of_plain 2 (captured.entry accept) ∷ []) =
    goes_on (dialled g) (of_plain 2 (captured.entry accept)) ((refl, refl, caught), guard, refl) refl in
    (z, goes_on accepted (of_plain 2 captured.welcomed) (refl, room_for_place g y 2 some (place_alone 2 link) one_place, refl) refl)

pub plain_run_may_go : PlainRunMayGo
plain_run_may_go g some = captured_may_go g door.Plain tt some

-- every run is lawful
pub lawful : (g : NodeConfig) (x : Machine) (points : List Point) → StandsFor g x points → IsLawful g points
lawful g x points runs = (
  runs_own g x points runs,
  runs_number g x points runs,
  runs_dial g x points runs,
  runs_end g x points runs,
  runs_admit g x points runs,
  runs_relay g x points runs,
  obey_entries g x points runs,
)

pub run_is_lawful : RunIsLawful
run_is_lawful g links places = (
  lawful g (run_may_go g links).0 (begun g.discovery) (run_may_go g links).1,
  lawful g (plain_run_may_go g places).0 (plain_begun g.discovery) (plain_run_may_go g places).1,
)
