-- Small wrong traces of plain links and of their upstreams are refused, and places that no lawful trace has.
use Rattle.std.proofs.Common.{◌≡◌, ◌≢◌, ◌⊎◌, inl, inr, ⊎_elim, ℕ, ◌+◌, ◌<◌, ◌≤◌, ◌==◌, ◌||◌, Bool, true, false, cond, List, [], ◌∷◌, ◌++◌, length, Option, Some, None, refl, ap, ap₂, sym, ◌∙◌, subst, arith, length-append, length-drop}
use Rattle.std.specs.List.{list_any}
use Rattle.std.proofs.lemmas.Bool.{both_ways, false≢true}
use Rattle.std.proofs.lemmas.List.{append_assoc}
use Rattle.std.proofs.lemmas.List.Sums.{fold-append}
use Rattle.hb_base.specs.declared.cause.Cause.{Cause}
use Rattle.hb_base.specs.declared.cause.Cause.TheVariants as cause
use Rattle.hb_base.specs.declared.door.Door.{Door}
use Rattle.hb_base.specs.declared.door.Door.TheVariants as door
use Rattle.hb_base.specs.declared.door.Why.{Why}
use Rattle.hb_base.specs.declared.door.Why.TheVariants as whys
use Rattle.hb_base.specs.declared.target.Target.{Target}
use Rattle.hb_captured.proofs.Stages.{course_one}
use Rattle.hb_captured.specs.Answer as answer
use Rattle.hb_captured.specs.Answer.{Aim, Routing, by_verdict, answer_on, verdict_on, address_of, why_at}
use Rattle.hb_captured.specs.Captured.{peer_in, judges}
use Rattle.hb_captured.specs.Ends.{GoesOn, EndsAt}
use Rattle.hb_captured.specs.Part as captured
use Rattle.hb_captured.specs.Part.{Part}
use Rattle.hb_captured.specs.Relay.{RelaysAt}
use Rattle.hb_captured.specs.Sides as plain
use Rattle.hb_captured.specs.Sides.{Course, pending, lives, over, ends_judged, ends_at, course_of, door_of, header_of, aim_of, raw_came, judged_in, is_close, on_link, was_on_link, up_of, up_in}
use Rattle.hb_captured.specs.Verdicts.{VerdictAt, IsUpstreamOf}
use Rattle.hb_front.specs.Reading.{Seen}
use Rattle.hb_held.specs.Held.{Resources}
use Rattle.hb_held.specs.Outcome.{after_response}
use Rattle.hb_model.proofs.Grown.{one_more}
use Rattle.hb_model.specs.Messages.{held}
use Rattle.hb_model.specs.Point as point
use Rattle.hb_model.specs.declared.config.NodeConfig.{NodeConfig}
use Rattle.hb_proxy.proofs.Owned.{all_owned}
use Rattle.hb_proxy.proofs.Places.{at_plain}
use Rattle.hb_proxy.proofs.Plain.{plain_runs}
use Rattle.hb_proxy.specs.Access.{PlainIsAdmitted}
use Rattle.hb_proxy.specs.Held.{at_start}
use Rattle.hb_proxy.specs.Machine.{plain_local}
use Rattle.hb_proxy.specs.Owners.{Owner, plain_link, relay_of, dialled_for, owner, link_of}
use Rattle.hb_proxy.specs.Points.{Point, of_control, of_plain, entry_in, entries, control_of, plain_in, plain_of}
use Rattle.hb_proxy.specs.Relay.{came_behind}
use Rattle.hb_proxy.specs.Sides.{PlainSide, RelaySide}
use Rattle.hb_table.specs.declared.judgement.Judged.{Judged}
use Rattle.hb_table.specs.declared.judgement.Judged.TheVariants.{Admitted, Unknown, Denied}
use Rattle.hb_verdict.proofs.Dialled.{only_where_it_may}
use Rattle.hb_verdict.specs.declared.request.Request.TheVariants.{Connect}
use Rattle.hb_verdict.specs.declared.verdict.Verdict.{Verdict}
use Rattle.hb_verdict.specs.declared.verdict.Verdict.TheVariants.{Status, Reset, Dial}
use Rattle.hb_world.specs.Trace as world
use Rattle.hb_world.specs.Trace.{recv, sent}
use Rattle.hb_world.specs.declared.entry.Entry.{Entry}
use Rattle.hb_world.specs.declared.entry.Entry.TheVariants as e
use Rattle.hb_laws.specs.Lawful.{Lawful}
use Rattle.hb_laws.specs.Refused.{dials, waits}
use Rattle.hb_laws.specs.RefusedPlain.{accepts_plain, ComesUndialled, GoesUndialled, is_failure, ClosesHealthyPlain, ClosesPlainForSecond, SendsHeader, AnswersItself, IsOf, RelaysDenied, DialsAside, ShutsEarly, ShutsBackEarly, KeepsEndedPlain, KeepsRevokedPlain, ClosesPlainForAnother, ClosesLivePlain}
use Rattle.hb_laws.specs.RefusedTunnels.{RefusedAt}
use Rattle.hb_laws.proofs.Asked.{Answered, answers, unasked}
use Rattle.hb_laws.proofs.BirthDoor.{door_at, door_told}
use Rattle.hb_laws.proofs.Closing.{close_place}
use Rattle.hb_laws.proofs.Doors.{owner_without, came_without, went_without}
use Rattle.hb_laws.proofs.Lawful.{goes_at, own_in, laws_of}
use Rattle.hb_laws.proofs.Living.{all_closed, plain_lives, relay_lives}
use Rattle.hb_laws.proofs.Places.{DialOf, straight_why, dial_point, of_plain_link, of_relay}
use Rattle.hb_laws.proofs.PlainLinks.{fails_call, none_fails, ends_unfailed, header_len}
use Rattle.hb_laws.proofs.RefusedLinks.{unborn}
use Rattle.hb_laws.proofs.Runs.{front_runs}

-- BIRTHS

pub comes_undialled : ComesUndialled
comes_undialled bytes g h = unborn g _ (dials g ∷ accepts_plain ∷ []) (e.Came 3 bytes) 3 h (sym h.trace_is) refl refl

pub goes_undialled : GoesUndialled
goes_undialled bytes g h = unborn g _ (dials g ∷ accepts_plain ∷ []) (e.Went 3 bytes) 3 h (sym h.trace_is) refl refl

-- CLOSES

-- link 2 is closed for a cause of a call that failed, and none failed
closes_whole : (g : NodeConfig) (trace before : List Entry) (why : Cause) → is_failure why ≡ true → (h : Lawful g trace)
    → entries h.points ≡ (before ++ e.Closed 2 why ∷ []) ++ waits ∷ [] → owner 2 before ≡ plain_link → door_at 2 before ≡ door.Plain
    → list_any fails_call before ≡ false → ⊥
closes_whole g trace before why failure h is mine at whole =
    let s = close_place g trace before h 2 why plain_link is mine in
    let run = front_runs g h.machine h.points h.run s.front _ s.points_are in
    let stands = at_plain (λ l. EndsAt l (at_start g)) h.points (λ l. ((laws_of g trace h).plain l).ends) s.front 2
    (captured.entry (e.Closed 2 why)) s.rest (s.points_are ∙ ap (λ (p : Point). s.front ++ p ∷ s.rest) s.point) in
    let judged = ap judges (door_told 2 g run.0 s.front run.1 (ap (owner 2) s.before_is ∙ mine) ∙ ap (door_at 2) s.before_is ∙ at) in
    ends_unfailed (at_start g) (plain_of 2 s.front) why
    (none_fails 2 g run.0 s.front run.1 (ap (list_any fails_call) s.before_is ∙ whole) s.goes (at_start g)
    ((h.laws s.front (s.p ∷ s.rest) s.points_are).plain 2).ends (unasked g 2 run.0 s.front run.1 judged)) failure stands.1

pub closes_healthy : ClosesHealthyPlain
closes_healthy why failure g h = closes_whole g _ (dials g ∷ accepts_plain ∷ []) why failure h (sym h.trace_is) refl refl refl

pub closes_for_second : ClosesPlainForSecond
closes_for_second why failure g h =
    closes_whole g _ (dials g ∷ accepts_plain ∷ e.Ended 2 ∷ []) why failure h (sym h.trace_is) refl refl refl

-- BYTES

-- the door of a plain link is that of its birth
pub birth_door : (g : NodeConfig) (trace : List Entry) → (h : Lawful g trace) → (before : List Point) (p : Point) (behind : List Point)
    → h.points ≡ before ++ p ∷ behind → (l : ℕ) → owner l (entries before) ≡ plain_link
    → door_of (plain_of l before) ≡ door_at l (entries before)
birth_door g trace h before p behind are l mine =
    let at = goes_at g trace h before p behind are in door_told l g at.machine before at.run mine

-- what went to an upstream came behind a header
within_behind : (told : Option Seen) (came went rest : List ℕ) → ((seen : Seen) → told ≡ Some seen → 16 ≤ seen.length)
    → plain.behind told came ≡ went ++ rest → 0 < length went → 16 + length went ≤ length came
within_behind None came went rest long is some =
    absurd (omega (arith, some, ap (λ (bs : List ℕ). length bs) is, length-append went rest))
within_behind (Some seen) came went rest long is some =
    omega (
      arith,
      some,
      long seen refl,
      ap (λ (bs : List ℕ). length bs) is,
      length-append went rest,
      length-drop seen.length came,
    )

pub sends_header : SendsHeader
sends_header g trace l u h owned some more =
    let there = ap (owner u) (sym h.trace_is) ∙ owner_without u trace ∙ owned in
    let law = (laws_of g trace h).relay.plain_ups l u there in
    let went = ap (λ (bs : List ℕ). length bs) (ap (sent u) (sym h.trace_is) ∙ went_without u trace) in
    let came = ap (λ (bs : List ℕ). length bs) (ap (recv l) (sym h.trace_is) ∙ came_without l trace) in
    let within = within_behind (header_of (plain_of l h.points)) (recv l (entries h.points)) (sent u (entries h.points)) law.rest
    (λ seen told. header_len l (at_start g) (plain_local h.machine l) (plain_of l h.points) seen (plain_runs g h.machine h.points l h.run)
    told) law.front (omega (arith, some, went)) in
    absurd (omega (arith, more, went, came, within))

pub answers_itself : AnswersItself
answers_itself came more byte g h =
    let mine = ap (owner 2) (sym h.trace_is) in
    let at = door_told 2 g h.machine h.points h.run mine ∙ ap (door_at 2) (sym h.trace_is) in
    let law = (laws_of g _ h).relay.plain_none 2 mine (λ u is. undialled u (2 == u) (1 == u) refl refl (ap (owner u) h.trace_is ∙ is))
    (unasked g 2 h.machine h.points h.run (ap judges at)) in
    let none : byte ∷ (more ++ []) ≡ [] = ap (sent 2) h.trace_is ∙ law in
    cc
  where
    undialled : (u : ℕ) (a b : Bool) → (2 == u) ≡ a → (1 == u) ≡ b
        → owner u (dials g ∷ accepts_plain ∷ e.Came 2 came ∷ e.Went 2 (byte ∷ more) ∷ []) ≡ relay_of 2 → ⊥
    undialled u true b two one = rw (two) (λ is. cc)
    undialled u false true two one = rw (two, one) (λ is. cc)
    undialled u false false two one = rw (two, one) (λ is. cc)

-- PLACES

module _ (g : NodeConfig) (trace : List Entry) (h : Lawful g trace) (before : List Point) (p : Point) (behind : List Point)
    (are : h.points ≡ before ++ p ∷ behind) where
  -- what is told of the bytes of a link and of its upstream
  link_is : (l u : ℕ) → owner u (entries before) ≡ relay_of l → owner l (entries before) ≡ plain_link
  link_is l u mine = (let at = goes_at g trace h before p behind are in (all_owned g at.machine before at.run).relay_over l u mine)

  link_side : (l u : ℕ) → owner u (entries before) ≡ relay_of l → PlainSide before l
  link_side l u mine = (h.laws before (p ∷ behind) are).sides.plain l (link_is l u mine)

  up_side : (l u : ℕ) → owner u (entries before) ≡ relay_of l → RelaySide before l u
  up_side l u mine = (h.laws before (p ∷ behind) are).sides.relay l u mine

  raw_is : (l u : ℕ) → owner u (entries before) ≡ relay_of l → came_behind before l ≡ raw_came (plain_of l before)
  raw_is l u mine = ap (plain.behind (header_of (plain_of l before))) (link_side l u mine).came

  -- the point is a part of the upstream, or of the link
  up_point : (l u : ℕ) (z : Entry) → link_of z ≡ Some u → entry_in p ≡ z ∷ [] → owner u (entries before) ≡ relay_of l
      → p ≡ of_plain l (captured.up z)
  up_point l u z on is mine = of_relay before z u on p (own_in g trace h before p behind are) is l mine

  link_point : (l : ℕ) (z : Entry) → link_of z ≡ Some l → entry_in p ≡ z ∷ [] → owner l (entries before) ≡ plain_link
      → p ≡ of_plain l (captured.entry z)
  link_point l z on is mine = of_plain_link before z l on p (own_in g trace h before p behind are) is mine

  -- a law of it holds at the point
  at_law : (P : ℕ → List Part → Part → Type 0) → ((l : ℕ) → plain.AtEach (P l) (plain_of l h.points)) → (l : ℕ) (q : Part)
      → p ≡ of_plain l q → P l (plain_of l before) q
  at_law P each l q same =
      at_plain P h.points each before l q behind (are ∙ ap (λ (r : Point). before ++ r ∷ behind) same)

  -- the dial of an upstream is of the address of its link's aim, for the link at its door
  pub dial_law : (l u : ℕ) (to : Target) (why : Why) → dialled_for why ≡ relay_of l → entry_in p ≡ e.Dialled u to why ∷ []
      → IsUpstreamOf l u (plain_of l before) to why
  dial_law l u to why mine is =
      let at = goes_at g trace h before p behind are in
      let same = subst (λ (o : Owner). DialOf (e.Dialled u to why) u o p) mine (dial_point g at.machine at.next p u to why at.steps is) in
      at_law (λ k. VerdictAt k (at_start g)) (λ k. ((laws_of g trace h).plain k).verdicts) l (captured.up (e.Dialled u to why)) same

  pub answered : (l : ℕ) (aim : Aim) → aim_of (plain_of l before) ≡ Some aim → Answered g l before aim
  answered l aim asked = (let at = goes_at g trace h before p behind are in answers g l at.machine before at.run aim asked)

pub relays_denied : RefusedAt RelaysDenied
relays_denied g trace before behind p z h are is so = by so.of_it
  where
    goes : entry_in p ≡ e.Went so.on so.bytes ∷ []
    goes = is ∙ ap (λ (y : Entry). y ∷ []) so.goes

    not : PlainIsAdmitted g before so.link → ⊥
    not admits =
        let same : so.seen ≡ admits.seen = (let told : Some so.seen ≡ Some admits.seen = sym so.told ∙ admits.told in cc) in
        so.denied (ap (judged_in (held g (control_of before))) same ∙ admits.admitted)

    by : IsOf so.link so.on before → ⊥
    by (inl (same, mine)) =
        not (subst (PlainIsAdmitted g before) same
        ((h.access before p behind are (e.Went so.on so.bytes) so.on goes refl).plain mine
        (subst (λ (k : ℕ). judges (door_of (plain_of k before)) ≡ true) (sym same) so.judged)))
    by (inr mine) = not ((h.access before p behind are (e.Went so.on so.bytes) so.on goes refl).relay so.link mine so.judged)

-- what is dialled at the plain door is the header's destination
dialled_by : (v : Verdict) (aim : Aim) → by_verdict v ≡ answer.aims aim → v ≡ Dial (address_of aim)
dialled_by (Dial to) aim is =
    let same : answer.straight_to to None ≡ aim = cc in ap (λ (a : Aim). Dial (address_of a)) same
dialled_by (Status status) aim is = absurd cc
dialled_by Reset aim is = absurd cc

verdict_target : (r : Resources) (seen : Seen) (to : Target) → verdict_on r seen ≡ Dial to → seen.destination ≡ to
verdict_target r seen to is =
    let may = only_where_it_may (Connect seen.destination) r (peer_in seen) false to is in
    let asked : Connect seen.destination ≡ Connect to = may.asked in
    cc

plain_target : (d : Door) (l : ℕ) (r : Resources) (routing : Routing) (seen : Seen) (aim : Aim) → whys.Plain l ≡ why_at d l
    → answer_on d r routing seen ≡ answer.aims aim → seen.destination ≡ address_of aim
plain_target door.Outbound l r routing seen aim for_it is = absurd cc
plain_target door.Plain l r routing seen aim for_it is = verdict_target r seen (address_of aim) (dialled_by (verdict_on r seen) aim is)
plain_target door.Inbound l r routing seen aim for_it is = verdict_target r seen (address_of aim) (dialled_by (verdict_on r seen) aim is)

pub dials_aside : RefusedAt DialsAside
dials_aside g trace before behind p z h are is so =
    let law = dial_law g trace h before p behind are so.link so.up so.other (whys.Plain so.link) refl
    (is ∙ ap (λ (y : Entry). y ∷ []) so.dials) in
    let there = answered g trace h before p behind are so.link law.dial.aim law.dial.asked in
    let at = door_of (plain_of so.link before) in
    so.untold there.seen there.told
    (plain_target at so.link (held g (control_of there.front)) there.routing there.seen law.dial.aim
    (law.dial.for_it ∙ straight_why law.dial.aim at so.link law.straight) there.answered ∙ sym law.dial.there)

pub shuts_early : RefusedAt ShutsEarly
shuts_early g trace before behind p z h are is so =
    let l = so.link in
    let u = so.up in
    let same = up_point g trace h before p behind are l u (e.Shut u) refl (is ∙ ap (λ (y : Entry). y ∷ []) so.shuts) so.owned in
    let law = (at_law g trace h before p behind are (λ k. RelaysAt (at_start g)) (λ k. ((laws_of g trace h).plain k).relay.places) l
    (captured.up (e.Shut u)) same).1 in
    ⊎_elim (λ early. early ((up_side g trace h before p behind are l u so.owned).went ∙ law.whole
    ∙ sym (raw_is g trace h before p behind are l u so.owned)))
    (λ unended. false≢true (sym unended ∙ law.ended)) so.early

pub shuts_back_early : RefusedAt ShutsBackEarly
shuts_back_early g trace before behind p z h are is so =
    let l = so.link in
    let u = so.up in
    let same = link_point g trace h before p behind are l (e.Shut l) refl (is ∙ ap (λ (y : Entry). y ∷ []) so.shuts)
    (link_is g trace h before p behind are l u so.owned) in
    let law = (at_law g trace h before p behind are (λ k. RelaysAt (at_start g)) (λ k. ((laws_of g trace h).plain k).relay.places) l
    (captured.entry (e.Shut l)) same).1 in
    ⊎_elim (λ early. early ((link_side g trace h before p behind are l u so.owned).went ∙ law.whole
    ∙ sym (up_side g trace h before p behind are l u so.owned).came))
    (λ unended. false≢true (sym unended ∙ law.ended)) so.early

-- ENDS

-- one that ended is closed where more comes; so none of it lives then
none_lives : (g : NodeConfig) (trace : List Entry) → (h : Lawful g trace) → (before : List Point) (p : Point) (behind : List Point)
    → h.points ≡ before ++ p ∷ behind → (l n : ℕ) → IsOf l n before → world.lives n (entries before) ≡ true
    → was_on_link is_close (plain_of l before) ≡ true → up_of (plain_of l before) ≡ 0 → ⊥
none_lives g trace h before p behind are l n of_it living closed none = by of_it
  where
    by : IsOf l n before → ⊥
    by (inl (same, mine)) =
        let at = goes_at g trace h before p behind are in
        both_ways _ (subst (λ (k : ℕ). was_on_link is_close (plain_of k before) ≡ false) same
        (plain_lives g at.machine before at.run n mine living)) closed
    by (inr mine) =
        let at = goes_at g trace h before p behind are in
        let relay = relay_lives g at.machine before at.run n l mine living in absurd (omega (arith, none, relay.0, relay.1))

pub keeps_ended : RefusedAt KeepsEndedPlain
keeps_ended g trace before behind p z h are is so =
    let closed = (all_closed g trace h before p behind z are is so.more).plain so.link in
    none_lives g trace h before p behind are so.link so.on so.of_it so.living (closed.link so.why so.has_ended)
    (closed.up so.why so.has_ended)

-- an update that doesn't admit the peer of one whose header is whole ends it
judged_ends : (j : Judged) (course : Course) → j ≢ Admitted → plain.ends cause.Revoked course ≡ over cause.Revoked
    → ends_judged j course ≡ over cause.Revoked
judged_ends Admitted course not ends = absurd (not refl)
judged_ends Unknown course not ends = ends
judged_ends Denied course not ends = ends

revokes : (r : Resources) (seen : Seen) (told : Option Seen) (course : Course) → told ≡ Some seen → (course ≡ pending) ⊎ (course ≡ lives)
    → judged_in r seen ≢ Admitted → ends_at r told course ≡ over cause.Revoked
revokes r seen told course is (inl going) not = ap₂ (ends_at r) is going ∙ judged_ends (judged_in r seen) pending not refl
revokes r seen told course is (inr going) not = ap₂ (ends_at r) is going ∙ judged_ends (judged_in r seen) lives not refl

pub keeps_revoked : RefusedAt KeepsRevokedPlain
keeps_revoked g trace before behind p z h are is so =
    let l = so.link in
    let q = of_control (point.applied so.control so.response) in
    let made = captured.applied so.response in
    let there = are ∙ ap (λ (ps : List Point). ps ++ p ∷ behind) so.before_is ∙ append_assoc so.front (q ∷ []) (p ∷ behind) in
    let parts = plain_of l so.front in
    let parts_are = ap (plain_of l) so.before_is ∙ one_more (plain_in l) so.front q in
    let holds = (h.laws so.front (q ∷ p ∷ behind) there).plain_held l in
    let ended = ap (course_of (at_start g)) parts_are ∙ course_one (at_start g) parts made
    ∙ ap (λ (b : Bool). cond b (ends_at (after_response (plain.held (at_start g) parts) so.response) (header_of parts)
    (course_of (at_start g) parts)) (course_of (at_start g) parts)) so.judged
    ∙ ap (λ (r : Resources). ends_at (after_response r so.response) (header_of parts) (course_of (at_start g) parts)) holds
    ∙ revokes (after_response (held g (control_of so.front)) so.response) so.seen (header_of parts) (course_of (at_start g) parts) so.told
    so.goes_on so.denied in
    let closed = (all_closed g trace h before p behind z are is so.more).plain l in
    none_lives g trace h so.front q (p ∷ behind) there l so.on so.of_it so.living
    (sym (ap (was_on_link is_close) parts_are ∙ fold-append (λ was part. on_link is_close part || was) false parts (made ∷ []))
    ∙ closed.link cause.Revoked ended)
    (sym (ap up_of parts_are ∙ fold-append up_in 0 parts (made ∷ [])) ∙ closed.up cause.Revoked ended)

-- CLOSES

-- a link and its upstream are closed for the cause that ended it
pub close_at : (g : NodeConfig) (trace : List Entry) → (h : Lawful g trace) → (before : List Point) (p : Point) (behind : List Point)
    → h.points ≡ before ++ p ∷ behind → (l n : ℕ) (why : Cause) → entry_in p ≡ e.Closed n why ∷ [] → IsOf l n before
    → course_of (at_start g) (plain_of l before) ≡ over why
close_at g trace h before p behind are l n why is (inl (same, mine)) =
    let law = at_law g trace h before p behind are (λ k. EndsAt k (at_start g)) (λ k. ((laws_of g trace h).plain k).ends) n
    (captured.entry (e.Closed n why)) (link_point g trace h before p behind are n (e.Closed n why) refl is mine) in
    subst (λ (k : ℕ). course_of (at_start g) (plain_of k before) ≡ over why) same law.1
close_at g trace h before p behind are l n why is (inr mine) =
    (at_law g trace h before p behind are (λ k. EndsAt k (at_start g)) (λ k. ((laws_of g trace h).plain k).ends) l
    (captured.up (e.Closed n why)) (up_point g trace h before p behind are l n (e.Closed n why) refl is mine)).0

pub closes_for_another : RefusedAt ClosesPlainForAnother
closes_for_another g trace before behind p z h are is so =
    let ended = close_at g trace h before p behind are so.link so.on so.why (is ∙ ap (λ (y : Entry). y ∷ []) so.closes) so.of_it in
    let both : over so.first ≡ over so.why = sym so.has_ended ∙ ended in
    so.differs (let same : so.first ≡ so.why = cc in same)

pub closes_live : RefusedAt ClosesLivePlain
closes_live g trace before behind p z h are is so =
    subst GoesOn
    (close_at g trace h before p behind are so.link so.on so.why (is ∙ ap (λ (y : Entry). y ∷ []) so.closes) so.of_it) so.goes_on
