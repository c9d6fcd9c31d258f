-- Small wrong traces of links of the outbound door and of their upstreams are refused, and places that no lawful trace has.
use Rattle.std.proofs.Common.{◌≡◌, ℕ, false, cond, List, [], ◌∷◌, ◌++◌, Some, None, refl, ap, sym, ◌∙◌, subst}
use Rattle.std.specs.List.{list_any}
use Rattle.std.proofs.lemmas.List.Concat.{flat_map-append}
use Rattle.hb_base.specs.declared.cause.Cause.TheVariants as cause
use Rattle.hb_base.specs.declared.door.Door.{Door}
use Rattle.hb_base.specs.declared.door.Door.TheVariants as door
use Rattle.hb_base.specs.declared.door.Why.{Why}
use Rattle.hb_base.specs.declared.door.Why.TheVariants as whys
use Rattle.hb_base.specs.declared.target.Target.{Target}
use Rattle.hb_captured.proofs.Stages.{course_one}
use Rattle.hb_captured.specs.Answer as answer
use Rattle.hb_captured.specs.Answer.{Aim, Routing, answer_on, refused_with, address_of, key_of, why_at}
use Rattle.hb_captured.specs.Captured.{judges}
use Rattle.hb_captured.specs.Ends.{GoesOn}
use Rattle.hb_captured.specs.Part as captured
use Rattle.hb_captured.specs.Sides as plain
use Rattle.hb_captured.specs.Sides.{ends_at, course_of, door_of, header_of}
use Rattle.hb_front.specs.Reading.{Seen}
use Rattle.hb_held.specs.Held.{Resources}
use Rattle.hb_held.specs.Outcome.{after_response}
use Rattle.hb_model.proofs.Grown.{one_more}
use Rattle.hb_model.specs.Calls.{is_control_of}
use Rattle.hb_model.specs.Messages.{held}
use Rattle.hb_model.specs.Point as point
use Rattle.hb_model.specs.declared.config.NodeConfig.{NodeConfig}
use Rattle.hb_proxy.specs.Held.{at_start}
use Rattle.hb_proxy.specs.Owners.{owner, relay_of, dialled_for}
use Rattle.hb_proxy.specs.Points.{Point, of_control, entry_in, entries, control_of, plain_in, plain_of}
use Rattle.hb_world.specs.declared.entry.Entry.{Entry}
use Rattle.hb_world.specs.declared.entry.Entry.TheVariants as e
use Rattle.hb_laws.specs.Lawful.{Lawful}
use Rattle.hb_laws.specs.Refused.{dials, fails}
use Rattle.hb_laws.specs.RefusedOutbound.{accepts_outbound, DialsAsPlain, DialsAsDirect, DialsUntold, RelaysUntold, IsAsked, DialsUnrouted, DialsAstray, ClosesUpdated, ClosesRevoked}
use Rattle.hb_laws.specs.RefusedGateways.{DialsRound}
use Rattle.hb_laws.specs.RefusedPlain.{accepts_plain, DialsRelayUntold}
use Rattle.hb_laws.specs.RefusedTunnels.{RefusedAt}
use Rattle.hb_laws.proofs.Asked.{Answered, asked_there}
use Rattle.hb_laws.proofs.BirthDoor.{door_at}
use Rattle.hb_laws.proofs.Lawful.{goes_at}
use Rattle.hb_laws.proofs.Places.{place, further, straight_why}
use Rattle.hb_laws.proofs.PlainLinks.{none_revokes, outbound_unrevoked}
use Rattle.hb_laws.proofs.RefusedPlain.{birth_door, dial_law, answered, close_at}
use Rattle.hb_laws.proofs.Tests.{none_in_front}
use Rattle.hb_laws.proofs.Unheld.{nothing_told}

-- DIALS

pub dials_as_plain : DialsAsPlain
dials_as_plain to came g h =
    let why = whys.Plain 2 in
    let s = place h.points (dials g ∷ accepts_outbound ∷ e.Came 2 came ∷ []) (e.Dialled 3 to why) [] (sym h.trace_is) in
    let law = dial_law g _ h s.front s.p s.rest s.points_are 2 3 to why refl s.is in
    let at = birth_door g _ h s.front s.p s.rest s.points_are 2 (ap (owner 2) s.before_is) ∙ ap (door_at 2) s.before_is in
    let no : whys.Plain 2 ≡ whys.Direct 2 =
    law.dial.for_it ∙ straight_why law.dial.aim _ 2 law.straight ∙ ap (λ (d : Door). why_at d 2) at in
    cc

pub dials_as_direct : DialsAsDirect
dials_as_direct to came g h =
    let why = whys.Direct 2 in
    let s = place h.points (dials g ∷ accepts_plain ∷ e.Came 2 came ∷ []) (e.Dialled 3 to why) [] (sym h.trace_is) in
    let law = dial_law g _ h s.front s.p s.rest s.points_are 2 3 to why refl s.is in
    let at = birth_door g _ h s.front s.p s.rest s.points_are 2 (ap (owner 2) s.before_is) ∙ ap (door_at 2) s.before_is in
    let no : whys.Direct 2 ≡ whys.Plain 2 =
    law.dial.for_it ∙ straight_why law.dial.aim _ 2 law.straight ∙ ap (λ (d : Door). why_at d 2) at in
    cc

-- before all was told each header is refused
unsynced : (g : NodeConfig) (d : Door) (routing : Routing) (seen : Seen) → answer_on d (at_start g) routing seen ≡ refused_with 503
unsynced g door.Outbound routing seen = refl
unsynced g door.Plain routing seen = refl
unsynced g door.Inbound routing seen = refl

untold : (g : NodeConfig) (d : Door) (r : Resources) (routing : Routing) (seen : Seen) (aim : Aim) → r ≡ at_start g
    → answer_on d r routing seen ≡ answer.aims aim → ⊥
untold g d r routing seen aim nothing is =
    let no : refused_with 503 ≡ answer.aims aim =
    sym (unsynced g d routing seen) ∙ sym (ap (λ (s : Resources). answer_on d s routing seen) nothing) ∙ is in
    cc

none_before : (l : ℕ) (points front : List Point) (p : Point) (rest : List Point) → points ≡ front ++ p ∷ rest
    → list_any (is_control_of l) (entries points) ≡ false → list_any (is_control_of l) (entries front) ≡ false
none_before l points front p rest are none =
    none_in_front (is_control_of l) (entries points) (entries front) (entries (p ∷ rest))
    (ap entries are ∙ flat_map-append entry_in front (p ∷ rest)) none

-- so no plain link has an aim where no link is one to the control plane
pub never_aimed : (g : NodeConfig) (trace : List Entry) → (h : Lawful g trace) → (front : List Point) (p : Point) (rest : List Point)
    → h.points ≡ front ++ p ∷ rest → (l : ℕ) (aim : Aim) → Answered g l front aim
    → ((k : ℕ) → list_any (is_control_of k) (entries front) ≡ false) → ⊥
never_aimed g trace h front p rest are l aim there none =
    untold g (door_of (plain_of l front)) (held g (control_of there.front)) there.routing there.seen aim
    (nothing_told g trace h there.front (there.p ∷ (there.rest ++ p ∷ rest))
    (further h.points front there.front there.p p there.rest rest are there.points_are)
    (λ k. none_before k front there.front there.p there.rest there.points_are (none k)))
    there.answered

-- and no upstream of link 1 is dialled there
never_dialled : (g : NodeConfig) (trace before : List Entry) (to : Target) (why : Why) (after : List Entry) → dialled_for why ≡ relay_of 1
    → (h : Lawful g trace) → entries h.points ≡ before ++ e.Dialled 2 to why ∷ after
    → ((l : ℕ) → list_any (is_control_of l) before ≡ false) → ⊥
never_dialled g trace before to why after for_it h is none =
    let s = place h.points before (e.Dialled 2 to why) after is in
    let law = dial_law g trace h s.front s.p s.rest s.points_are 1 2 to why for_it s.is in
    never_aimed g trace h s.front s.p s.rest s.points_are 1 law.dial.aim
    (answered g trace h s.front s.p s.rest s.points_are 1 law.dial.aim law.dial.asked)
    (λ l. ap (list_any (is_control_of l)) s.before_is ∙ none l)

pub dials_untold : DialsUntold
dials_untold to came g h =
    never_dialled g _ (fails g ∷ e.Accepted 1 door.Outbound ∷ e.Came 1 came ∷ []) to (whys.Direct 1) [] refl h (sym h.trace_is) (λ l. refl)

pub relays_untold : RelaysUntold
relays_untold to came bytes g h =
    never_dialled g _ (fails g ∷ e.Accepted 1 door.Outbound ∷ e.Came 1 came ∷ []) to (whys.Direct 1) (e.Opened 2 ∷ e.Went 2 bytes ∷ [])
    refl h (sym h.trace_is) (λ l. refl)

pub dials_relay_untold : DialsRelayUntold
dials_relay_untold to came g h =
    never_dialled g _ (fails g ∷ e.Accepted 1 door.Plain ∷ e.Came 1 came ∷ []) to (whys.Plain 1) [] refl h (sym h.trace_is) (λ l. refl)

-- PLACES

direct_door : (d : Door) (l : ℕ) → whys.Direct l ≡ why_at d l → d ≡ door.Outbound
direct_door door.Outbound l is = refl
direct_door door.Plain l is = absurd cc
direct_door door.Inbound l is = absurd cc

-- an outbound link that is dialled goes straight there, by what was held and counted when its header was told
record GoesStraight (held : Resources) (seen : Seen) (to : Target) : Type 0 where
  pub aim : Aim
  pub routing : Routing
  pub straight : key_of aim ≡ None
  pub there : to ≡ address_of aim
  pub answered : answer_on door.Outbound held routing seen ≡ answer.aims aim

routed_so : (g : NodeConfig) (trace : List Entry) → (h : Lawful g trace) → (before : List Point) (p : Point) (behind : List Point)
    → h.points ≡ before ++ p ∷ behind → (l u : ℕ) (to : Target) (seen : Seen) → entry_in p ≡ e.Dialled u to (whys.Direct l) ∷ []
    → (asked : IsAsked g l seen before) → GoesStraight (held g (control_of asked.front)) seen to
routed_so g trace h before p behind are l u to seen is asked =
    let law = dial_law g trace h before p behind are l u to (whys.Direct l) refl is in
    let there = answered g trace h before p behind are l law.dial.aim law.dial.asked in
    let at = door_of (plain_of l before) in
    let outbound = direct_door at l (law.dial.for_it ∙ straight_why law.dial.aim at l law.straight) in
    record {
      aim = law.dial.aim;
      routing = there.routing;
      straight = law.straight;
      there = law.dial.there;
      answered = ap (λ (d : Door). answer_on d (held g (control_of asked.front)) there.routing seen) (sym outbound)
          ∙ asked_there g l before seen law.dial.aim asked there;
    }

pub dials_unrouted : RefusedAt DialsUnrouted
dials_unrouted g trace before behind p z h are is so =
    let goes = routed_so g trace h before p behind are so.link so.up so.to so.seen (is ∙ ap (λ (y : Entry). y ∷ []) so.dialled) so.asked in
    let no : answer.refuses so.why so.status ≡ answer.aims goes.aim = sym (so.unrouted goes.routing) ∙ goes.answered in
    cc

pub dials_astray : RefusedAt DialsAstray
dials_astray g trace before behind p z h are is so =
    let goes = routed_so g trace h before p behind are so.link so.up so.other so.seen (is ∙ ap (λ (y : Entry). y ∷ []) so.dialled)
    so.asked in
    let both : answer.aims (answer.straight_to so.to so.endpoint) ≡ answer.aims goes.aim =
    sym (so.routed goes.routing) ∙ goes.answered in
    let same : answer.straight_to so.to so.endpoint ≡ goes.aim = cc in
    so.differs (ap address_of same ∙ sym goes.there)

pub dials_round : RefusedAt DialsRound
dials_round g trace before behind p z h are is so =
    let goes = routed_so g trace h before p behind are so.link so.up so.to so.seen (is ∙ ap (λ (y : Entry). y ∷ []) so.dialled) so.asked in
    let both : answer.aims (so.aim goes.routing) ≡ answer.aims goes.aim = sym (so.routed goes.routing) ∙ goes.answered in
    let same : so.aim goes.routing ≡ goes.aim = cc in
    let key = so.keyed goes.routing in
    let no : None ≡ Some key.0 = sym goes.straight ∙ sym (ap key_of same) ∙ key.1 in
    cc

pub closes_updated : RefusedAt ClosesUpdated
closes_updated g trace before behind p z h are is so =
    let l = so.link in
    let made = captured.applied so.response in
    let parts = plain_of l so.front in
    let parts_are = ap (plain_of l) so.before_is ∙ one_more (plain_in l) so.front (of_control (point.applied so.control so.response)) in
    let goes = ap (course_of (at_start g)) parts_are ∙ course_one (at_start g) parts made
    ∙ ap (λ (d : Door). cond (judges d) (ends_at (after_response (plain.held (at_start g) parts) so.response) (header_of parts)
    (course_of (at_start g) parts)) (course_of (at_start g) parts)) so.outbound in
    let ended = close_at g trace h before p behind are l so.on so.why (is ∙ ap (λ (y : Entry). y ∷ []) so.closes) so.of_it in
    subst GoesOn (sym goes ∙ ended) so.goes_on

pub closes_revoked : RefusedAt ClosesRevoked
closes_revoked g trace before behind p z h are is so =
    let at = goes_at g trace h before p behind are in
    outbound_unrevoked (at_start g) (plain_of so.link before) (none_revokes so.link g at.machine before at.run so.going) so.outbound
    (close_at g trace h before p behind are so.link so.on cause.Revoked (is ∙ ap (λ (y : Entry). y ∷ []) so.closes) so.of_it)
