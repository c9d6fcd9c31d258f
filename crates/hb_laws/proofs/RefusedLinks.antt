-- Small wrong traces of inbound links and of their upstreams are refused.
use Rattle.std.proofs.Common.{◌≡◌, ℕ, Bool, false, List, [], ◌∷◌, ◌++◌, length, Some, refl, ap, sym, ◌∙◌, subst, arith, length-append}
use Rattle.std.specs.List.{list_any}
use Rattle.std.proofs.lemmas.Bool.{false≢true}
use Rattle.hb_base.specs.declared.cause.Cause.TheVariants as cause
use Rattle.hb_base.specs.declared.door.Door.TheVariants as door
use Rattle.hb_base.specs.declared.door.Why.TheVariants as whys
use Rattle.hb_held.specs.Held.{Resources}
use Rattle.hb_inbound.proofs.AdmittedRun.{all_admit}
use Rattle.hb_inbound.specs.Closes.{ClosesAt}
use Rattle.hb_inbound.specs.Part as part
use Rattle.hb_inbound.specs.Tunnel.{takes_place}
use Rattle.hb_model.proofs.Inner.{over_is}
use Rattle.hb_model.specs.Calls.{is_control_of}
use Rattle.hb_model.specs.declared.config.NodeConfig.{NodeConfig}
use Rattle.hb_proxy.proofs.Owned.{all_owned}
use Rattle.hb_proxy.proofs.Places.{at_parts, birth_of}
use Rattle.hb_proxy.proofs.Projection.{control_runs, control_holds, links_run}
use Rattle.hb_proxy.specs.Dials.{DialsBy}
use Rattle.hb_proxy.specs.Held.{at_start}
use Rattle.hb_proxy.specs.Machine.{local}
use Rattle.hb_proxy.specs.Owners.{nobody, inbound_link, owner, link_of}
use Rattle.hb_proxy.specs.Points.{Point, of_link, entries, control_of, parts_of}
use Rattle.hb_proxy.specs.Runs.{Steps}
use Rattle.hb_table.specs.Judgement.{judged}
use Rattle.hb_world.specs.Trace.{recv, sent}
use Rattle.hb_world.specs.declared.entry.Entry.{Entry}
use Rattle.hb_world.specs.declared.entry.Entry.TheVariants as e
use Rattle.hb_laws.specs.Lawful.{Lawful}
use Rattle.hb_laws.specs.Refused.{dials, fails, waits}
use Rattle.hb_laws.specs.RefusedLinks.{accepts, ComesUnborn, GoesUnborn, BornTwice, AcceptsFirst, DialsUpUntold, ClosesLinkForSecond, ClosesHealthyLink, SendsMore}
use Rattle.hb_laws.proofs.Bytes.{stream_within}
use Rattle.hb_laws.proofs.Closing.{close_place}
use Rattle.hb_laws.proofs.Doors.{owner_without, came_without, went_without}
use Rattle.hb_laws.proofs.Lawful.{goes_at, own_in, laws_of}
use Rattle.hb_laws.proofs.Links.{breaks, none_breaks, whole_unbroken}
use Rattle.hb_laws.proofs.Places.{place, of_somebody, dial_point}
use Rattle.hb_laws.proofs.Runs.{front_runs}
use Rattle.hb_laws.proofs.Unheld.{none_admitted}

-- BIRTHS

-- an entry on a link that nobody bore
pub unborn : (g : NodeConfig) (trace before : List Entry) (z : Entry) (u : ℕ) → (h : Lawful g trace) → entries h.points ≡ before ++ z ∷ []
    → link_of z ≡ Some u → owner u before ≡ nobody → ⊥
unborn g trace before z u h is on none =
    let s = place h.points before z [] is in
    of_somebody s.front z u on s.p (own_in g trace h s.front s.p s.rest s.points_are) s.is (ap (owner u) s.before_is ∙ none)

pub comes_unborn : ComesUnborn
comes_unborn bytes g h = unborn g _ (dials g ∷ []) (e.Came 2 bytes) 2 h (sym h.trace_is) refl refl

pub goes_unborn : GoesUnborn
goes_unborn bytes g h = unborn g _ (dials g ∷ []) (e.Went 2 bytes) 2 h (sym h.trace_is) refl refl

pub born_twice : BornTwice
born_twice g h =
    let number : 1 ≡ 2 = h.numbers (dials g ∷ []) (e.Accepted 1 door.Inbound) [] (sym h.trace_is) in absurd (omega (arith, number))

pub accepts_first : AcceptsFirst
accepts_first g h =
    let s = place h.points [] (e.Accepted 1 door.Inbound) [] (sym h.trace_is) in
    let at = goes_at g _ h s.front s.p s.rest s.points_are in
    let runs = sym (over_is g at.machine.control (control_of s.front) (control_runs g at.machine s.front at.run))
    ∙ (birth_of g at.machine at.next s.p at.steps (e.Accepted 1 door.Inbound) s.is).1 in
    let due = subst (λ (es : List Entry). DialsBy false g es (e.Accepted 1 door.Inbound)) s.before_is
    (subst (λ (b : Bool). DialsBy b g (entries s.front) (e.Accepted 1 door.Inbound)) runs
    (h.dials s.front s.p s.rest s.points_are (e.Accepted 1 door.Inbound) s.is)) in
    false≢true (sym due)

-- an upstream is dialled for a pending tunnel, whose peer is admitted
pub dials_up_untold : DialsUpUntold
dials_up_untold to came g h =
    let why = whys.Upstream 1 1 in
    let dial = e.Dialled 2 to why in
    let s = place h.points (fails g ∷ e.Accepted 1 door.Inbound ∷ e.Came 1 came ∷ []) dial [] (sym h.trace_is) in
    let at = goes_at g _ h s.front s.p s.rest s.points_are in
    let same : s.p ≡ of_link 1 (part.up 1 dial) = dial_point g at.machine at.next s.p 2 to why at.steps s.is in
    let may = (subst (λ (q : Point). Steps g at.machine q at.next) same at.steps).1.0 in
    let tunnel = (at.machine.inbound 1).tunnels 1 in
    let peer = (at.machine.inbound 1).peer in
    let admits = all_admit 1 (at_start g) (local at.machine 1) (parts_of 1 s.front) (links_run g at.machine s.front 1 at.run) in
    none_admitted g _ h s.front (s.p ∷ s.rest) s.points_are (λ l. ap (list_any (is_control_of l)) s.before_is) peer tunnel.target
    (ap (λ (r : Resources). judged r peer tunnel.target) (sym (control_holds g at.machine s.front at.run))
    ∙ (admits.each 1 (ap takes_place may.1)).admitted)

-- CLOSES

-- link 2 is closed as one that broke, and no call on it failed
closes_whole : (g : NodeConfig) (trace before : List Entry) → (h : Lawful g trace)
    → entries h.points ≡ (before ++ e.Closed 2 cause.Broken ∷ []) ++ waits ∷ [] → owner 2 before ≡ inbound_link
    → list_any breaks before ≡ false → ⊥
closes_whole g trace before h is mine whole =
    let s = close_place g trace before h 2 cause.Broken inbound_link is mine in
    let run = front_runs g h.machine h.points h.run s.front _ s.points_are in
    let stands = at_parts (λ l. ClosesAt) h.points (λ l. ((laws_of g trace h).links l).closes) s.front 2
    (part.entry (e.Closed 2 cause.Broken)) s.rest (s.points_are ∙ ap (λ (p : Point). s.front ++ p ∷ s.rest) s.point) in
    whole_unbroken (parts_of 2 s.front)
    (none_breaks 2 g run.0 s.front run.1 (ap (list_any breaks) s.before_is ∙ whole) s.goes) stands

pub closes_for_second : ClosesLinkForSecond
closes_for_second g h = closes_whole g _ (dials g ∷ accepts ∷ e.Ended 2 ∷ []) h (sym h.trace_is) refl refl

pub closes_healthy_link : ClosesHealthyLink
closes_healthy_link g h = closes_whole g _ (dials g ∷ accepts ∷ []) h (sym h.trace_is) refl refl

-- BYTES

pub sends_more : SendsMore
sends_more g trace l s u h owned more =
    let there = ap (owner u) (sym h.trace_is) ∙ owner_without u trace ∙ owned in
    let laws = laws_of g trace h in
    let up = laws.relay.ups l s u there in
    let side = laws.sides.link l ((all_owned g h.machine h.points h.run).over l s u there) in
    absurd (omega (
      arith,
      more,
      stream_within s (parts_of l h.points) (laws.links l).connection,
      ap (λ (bs : List ℕ). length bs) up.front,
      length-append (sent u (entries h.points)) up.rest,
      ap (λ (bs : List ℕ). length bs) side.came,
      ap (λ (bs : List ℕ). length bs) (ap (recv l) (sym h.trace_is) ∙ came_without l trace),
      ap (λ (bs : List ℕ). length bs) (ap (sent u) (sym h.trace_is) ∙ went_without u trace),
    ))
