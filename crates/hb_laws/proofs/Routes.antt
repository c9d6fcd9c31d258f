-- Each way goes by the node's port and by how many connections each endpoint has, in every run; and what waits on the ways of a plain link
-- fits its rings.
use Rattle.std.proofs.Common.{◌≡◌, ℕ, zero, suc, ◌+◌, ◌≤◌, ◌&&◌, Bool, true, false, cond, List, [], ◌∷◌, length, Option, Some, None, refl, ap, sym, ◌∙◌, subst, arith, length-append}
use Rattle.std.proofs.lemmas.Bool.{false≢true}
use Rattle.std.proofs.lemmas.List.Sums.{fold-append}
use Rattle.hb_base.specs.declared.cause.Cause.{Cause}
use Rattle.hb_base.specs.declared.cause.Cause.TheVariants as cause
use Rattle.hb_base.specs.declared.door.Door.{Door}
use Rattle.hb_captured.proofs.Kept.{all_keep}
use Rattle.hb_captured.proofs.Stages.{course_in}
use Rattle.hb_captured.specs.Answer.{Aim, endpoint_of}
use Rattle.hb_captured.specs.Captured.{Captured, Stage, unborn, arriving, fronting, due, opening, accepting, live, failed, ended, over, judges, ring_up, ring_down, is_judged, counts_for, ends_by, came_by, hung_up, left_by, judged_by}
use Rattle.hb_captured.specs.Part as captured
use Rattle.hb_captured.specs.Part.{Part}
use Rattle.hb_captured.specs.Runs as plain
use Rattle.hb_captured.specs.Runs.{Local, MayHear, MayGo, next}
use Rattle.hb_captured.specs.Sides.{up_went, link_went, aim_by, aim_of}
use Rattle.hb_front.specs.Faults.{number_of}
use Rattle.hb_gateway.specs.Response as response
use Rattle.hb_gateway.specs.Response.{opens, brings, fails}
use Rattle.hb_held.specs.Held.{Resources}
use Rattle.hb_held.specs.Outcome.{after_response}
use Rattle.hb_model.specs.declared.config.NodeConfig.{NodeConfig}
use Rattle.hb_proxy.proofs.Counting.{runs_count_opens}
use Rattle.hb_proxy.proofs.Own.{born_is}
use Rattle.hb_proxy.proofs.Places.{at_points}
use Rattle.hb_proxy.proofs.Plain.{plain_runs}
use Rattle.hb_proxy.proofs.Seen.{runs_are_seen}
use Rattle.hb_proxy.specs.Held.{at_start}
use Rattle.hb_proxy.specs.Load.{sum_below}
use Rattle.hb_proxy.specs.Machine.{Machine, plain_local}
use Rattle.hb_proxy.specs.Points.{Point, of_control, of_link, of_plain, of_gate, of_stream, entries, plain_of}
use Rattle.hb_proxy.specs.Runs.{routing_of, Steps, StandsFor}
use Rattle.hb_proxy.specs.Streams.{is_one_to, number_to}
use Rattle.hb_table.specs.Judgement.{judged}
use Rattle.hb_table.specs.declared.judgement.Judged.{Judged}
use Rattle.hb_table.specs.declared.judgement.Judged.TheVariants.{Admitted, Unknown, Denied}
use Rattle.hb_world.specs.Trace.{births}
use Rattle.hb_world.specs.declared.entry.Entry.TheVariants as e
use Rattle.hb_laws.specs.Routes.{goes_on, endpoint_in, connects_to, connections_to, IsRouting, RoutesAt, RouteLaw, RingLaw}

-- THE WAY OF A LINK

-- from its whole header on until its end it is the one that the run tells
abbrev Aimed : Option Aim → Captured → Type 0
Aimed aim x = is_judged x.stage ≡ true → aim ≡ Some x.aim

-- one that ended isn't on its way
never_ended : (why : Cause) (stage : Stage) → is_judged (ends_by why stage) ≡ true → ⊥
never_ended why arriving is = false≢true is
never_ended why fronting is = false≢true is
never_ended why due is = false≢true is
never_ended why opening is = false≢true is
never_ended why accepting is = false≢true is
never_ended why live is = false≢true is
never_ended why _ is = false≢true is

was_hung : (stage : Stage) → is_judged (hung_up stage) ≡ true → is_judged stage ≡ true
was_hung fronting is = absurd (false≢true is)
was_hung _ is = is

was_left : (stage : Stage) → is_judged (left_by stage) ≡ true → is_judged stage ≡ true
was_left (failed why) is = absurd (false≢true is)
was_left (ended why) is = absurd (false≢true is)
was_left _ is = is

-- it hears that its stream is open where that was asked for
was_asked : (stage : Stage) (end : Bool) (x : Captured) → MayHear stage (opens end) x → is_judged stage ≡ true
was_asked opening end x may = refl
was_asked _ end x may = absurd may

module _ (l : ℕ) (a : Local) (aim : Option Aim) (was : Aimed aim a.link) where
  came_aimed : (stage : Stage) (bytes : List ℕ) → Aimed aim (came_by stage bytes a.link)
  came_aimed fronting bytes = was
  came_aimed _ bytes = was

  judged_aimed : (b : Bool) (j : Judged) → Aimed aim (cond b (judged_by j a.link) a.link)
  judged_aimed true Admitted = was
  judged_aimed true Unknown = λ is. absurd (never_ended cause.Revoked a.link.stage is)
  judged_aimed true Denied = λ is. absurd (never_ended cause.Revoked a.link.stage is)
  judged_aimed false j = was

  step_aimed : (p : Part) → MayGo l a p → Aimed (aim_by aim p) (next a p).link
  step_aimed (captured.entry (e.Accepted k d)) may = λ is. absurd (false≢true is)
  step_aimed (captured.entry (e.Came k bytes)) may = came_aimed a.link.stage bytes
  step_aimed (captured.entry (e.Ended k)) may = λ is. was (was_hung a.link.stage is)
  step_aimed (captured.entry (e.Broke k)) may = λ is. absurd (never_ended cause.PeerGone a.link.stage is)
  step_aimed (captured.entry (e.Went k bytes)) may = was
  step_aimed (captured.entry (e.Shut k)) may = was
  step_aimed (captured.entry (e.Closed k why)) may = was
  step_aimed (captured.entry _) may = was
  step_aimed (captured.up (e.Dialled u to why)) may = λ is. was (ap is_judged may.0.1)
  step_aimed (captured.up (e.DialFailed to why)) may = λ is. absurd (never_ended cause.UpFault a.link.stage is)
  step_aimed (captured.up (e.Opened u)) may = λ is. was (ap is_judged may.0.1)
  step_aimed (captured.up (e.Broke u)) may = λ is. absurd (never_ended cause.UpFault a.link.stage is)
  step_aimed (captured.up (e.Came u bytes)) may = was
  step_aimed (captured.up (e.Ended u)) may = was
  step_aimed (captured.up (e.Went u bytes)) may = was
  step_aimed (captured.up (e.Shut u)) may = was
  step_aimed (captured.up (e.Closed u why)) may = was
  step_aimed (captured.up _) may = was
  step_aimed captured.welcomed may = λ is. absurd (false≢true is)
  step_aimed captured.crowded may = λ is. absurd (never_ended cause.NoRoom a.link.stage is)
  step_aimed captured.lacked may = λ is. absurd (never_ended cause.NoMemory a.link.stage is)
  step_aimed (captured.misfronted fault) may = λ is. absurd (never_ended (cause.FrontFault (number_of fault)) a.link.stage is)
  step_aimed (captured.fronted seen routing to) may = λ is. refl
  step_aimed (captured.refused seen routing why status made) may = λ is. absurd (false≢true is)
  step_aimed (captured.accepted made) may = λ is. was (ap is_judged may.0)
  step_aimed captured.roomless may = λ is. absurd (never_ended cause.NoRoom a.link.stage is)
  step_aimed (captured.asked gate stream) may = λ is. was (ap is_judged may.0)
  step_aimed (captured.hears (opens end) begun) may = λ is. was (was_asked a.link.stage end a.link may.1)
  step_aimed (captured.hears (brings bytes) begun) may = was
  step_aimed (captured.hears response.ends begun) may = was
  step_aimed (captured.hears (fails why) begun) may = λ is. absurd (never_ended why a.link.stage is)
  step_aimed (captured.put bytes) may = was
  step_aimed captured.finished may = was
  step_aimed (captured.credited n) may = was
  step_aimed (captured.loosed begun) may = was
  step_aimed (captured.completed begun made) may = λ is. absurd (false≢true is)
  step_aimed (captured.left made) may = λ is. was (was_left a.link.stage is)
  step_aimed (captured.done made) may = λ is. absurd (false≢true is)
  step_aimed (captured.applied r) may =
      judged_aimed (judges a.link.door && is_judged a.link.stage) (judged (after_response a.held r) a.link.peer a.link.target)
  step_aimed (captured.stopped why) may = λ is. absurd (never_ended why a.link.stage is)

all_aimed : (l : ℕ) (start : Resources) (a : Local) (parts : List Part) → plain.StandsFor l start a parts → Aimed (aim_of parts) a.link
all_aimed l start a parts (plain.begins is none) =
    λ now. absurd (false≢true (sym (ap (λ (b : Local). is_judged b.link.stage) is) ∙ now))
all_aimed l start b more (plain.goes_on {a = a} {parts = parts} before p steps are) =
    subst (λ (c : Local). Aimed (aim_of more) c.link) (sym steps.1)
    (subst (λ (t : Option Aim). Aimed t (next a p).link) (sym (ap aim_of are ∙ fold-append aim_by None parts (p ∷ [])))
    (step_aimed l a (aim_of parts) (all_aimed l start a parts before) p steps.0))

-- THE COUNTS

-- the words of the trace for a link that is a connection
going_is : (stage : Stage) → goes_on (course_in stage) ≡ is_judged stage
going_is unborn = refl
going_is arriving = refl
going_is fronting = refl
going_is due = refl
going_is opening = refl
going_is accepting = refl
going_is live = refl
going_is (failed why) = refl
going_is (ended why) = refl
going_is (over why) = refl

same_endpoint : (x : Captured) (aim : Option Aim) → Aimed aim x → (b : Bool) → is_judged x.stage ≡ b
    → cond b (endpoint_in aim) None ≡ cond b (endpoint_of x.aim) None
same_endpoint x aim was true is = ap endpoint_in (was is)
same_endpoint x aim was false is = refl

-- a sum from 0 on, where 0 is no link
numbers_are : (name : List ℕ) (links : ℕ → Captured) (to : ℕ → Option (List ℕ)) → ((l : ℕ) → to l ≡ counts_for (links l))
    → counts_for (links 0) ≡ None → (n : ℕ) → sum_below (λ l. is_one_to name (to l)) (suc n) ≡ number_to name links n
numbers_are name links to same none zero =
    let first : is_one_to name (to 0) ≡ 0 = ap (is_one_to name) (same 0 ∙ none) in omega (arith, first)
numbers_are name links to same none (suc n) =
    let so_far = numbers_are name links to same none n in
    let last : is_one_to name (to (suc n)) ≡ is_one_to name (counts_for (links (suc n))) = ap (is_one_to name) (same (suc n)) in
    omega (arith, so_far, last)

module _ (g : NodeConfig) (x : Machine) (points : List Point) (stands : StandsFor g x points) where
  connects_as : (l : ℕ) → connects_to g points l ≡ counts_for (x.plain l)
  connects_as l =
      let parts = plain_of l points in
      let runs = plain_runs g x points l stands in
      let course = (all_keep l (at_start g) (plain_local x l) parts runs).course in
      ap (λ (b : Bool). cond b (endpoint_in (aim_of parts)) None) (ap goes_on course ∙ going_is (x.plain l).stage)
      ∙ same_endpoint (x.plain l) (aim_of parts) (all_aimed l (at_start g) (plain_local x l) parts runs) (is_judged (x.plain l).stage) refl

  connections_are : (name : List ℕ) → connections_to g points name ≡ number_to name x.plain x.born
  connections_are name =
      let born = born_is g x points stands in
      let last : births (entries points) + 1 ≡ suc x.born = omega (arith, born) in
      let none : counts_for (x.plain 0) ≡ None =
      ap (λ (s : Stage). cond (is_judged s) (endpoint_of (x.plain 0).aim) None) (runs_are_seen g x points stands).plain.no_zero in
      ap (sum_below (λ l. is_one_to name (connects_to g points l))) last
      ∙ numbers_are name x.plain (connects_to g points) connects_as none x.born

  routing_is : IsRouting g points (routing_of g x)
  routing_is =
      record { port = refl; counts = λ name. runs_count_opens g x points name stands ∙ sym (connections_are name) }

routes_next : (g : NodeConfig) (x y : Machine) (before : List Point) (p : Point) → StandsFor g x before → Steps g x p y
    → RoutesAt g before p
routes_next g x y before (of_plain l (captured.fronted seen routing aim)) stands steps =
    subst (IsRouting g before) (sym steps.1) (routing_is g x before stands)
routes_next g x y before (of_plain l (captured.refused seen routing why status made)) stands steps =
    subst (IsRouting g before) (sym steps.1) (routing_is g x before stands)
routes_next g x y before (of_plain l _) stands steps = tt
routes_next g x y before (of_control q) stands steps = tt
routes_next g x y before (of_link l p) stands steps = tt
routes_next g x y before (of_gate n p) stands steps = tt
routes_next g x y before (of_stream l n s w) stands steps = tt

pub runs_route : (g : NodeConfig) (x : Machine) (points : List Point) → StandsFor g x points → RouteLaw g points
runs_route g x points stands = at_points g (RoutesAt g) (routes_next g) x points stands

-- THE RINGS

pub runs_fit : (g : NodeConfig) (x : Machine) (points : List Point) (l : ℕ) → StandsFor g x points → RingLaw (plain_of l points)
runs_fit g x points l stands =
    let parts = plain_of l points in
    let link = x.plain l in
    let keeps = all_keep l (at_start g) (plain_local x l) parts (plain_runs g x points l stands) in
    record {
      up = omega (
        arith,
        ap (λ (bs : List ℕ). length bs) keeps.ups,
        length-append (up_went parts) link.ways.up.held,
        subst (λ (d : Door). length link.ways.up.held ≤ ring_up d) (sym keeps.tells.door) keeps.rings.up,
      );
      down = omega (
        arith,
        ap (λ (bs : List ℕ). length bs) keeps.downs,
        length-append (link_went parts) link.ways.down.held,
        subst (λ (d : Door). length link.ways.down.held ≤ ring_down d) (sym keeps.tells.door) keeps.rings.down,
      );
    }
