-- Behind the end of a run nothing is asked for any plain link.
use Rattle.std.proofs.Common.{◌≡◌, ℕ, ◌==◌, ◌&&◌, Bool, true, false, cond, List, refl, ap, sym, ◌∙◌, subst}
use Rattle.std.proofs.lemmas.Bool.{cond_both, false≢true}
use Rattle.hb_base.specs.declared.cause.Cause.{Cause}
use Rattle.hb_base.specs.declared.cause.Cause.TheVariants as cause
use Rattle.hb_base.specs.declared.door.Door.{Door}
use Rattle.hb_captured.specs.Captured.{Captured, Stage, unborn, arriving, fronting, due, opening, accepting, live, failed, ended, over, judges, is_judged, ends_by, came_by, hung_up, entered, up_entered, told_by, left_by, judged_by, rejudged}
use Rattle.hb_captured.specs.Part.{Part, entry, up, welcomed, crowded, lacked, misfronted, fronted, refused, accepted, roomless, asked, hears, put, finished, credited, loosed, completed, left, done, applied, stopped}
use Rattle.hb_captured.specs.Runs.{Local, MayCome, UpMayCome, MayGo, MayHear, next_link}
use Rattle.hb_gateway.specs.Response as response
use Rattle.hb_gateway.specs.Response.{Heard, opens, brings, fails}
use Rattle.hb_held.specs.Held.{Resources}
use Rattle.hb_held.specs.Outcome.{after_response}
use Rattle.hb_model.specs.Machine as control
use Rattle.hb_model.specs.Point as point
use Rattle.hb_model.specs.Runs as model
use Rattle.hb_model.specs.declared.config.NodeConfig.{NodeConfig}
use Rattle.hb_model.proofs.CallsSteps.{own_keeps}
use Rattle.hb_table.specs.Judgement.{judged}
use Rattle.hb_table.specs.declared.judgement.Judged.{Judged}
use Rattle.hb_table.specs.declared.judgement.Judged.TheVariants.{Admitted, Unknown, Denied}
use Rattle.hb_world.specs.declared.entry.Entry.{Entry}
use Rattle.hb_world.specs.declared.entry.Entry.TheVariants as e
use Rattle.hb_proxy.specs.Machine.{Machine, plain_local, plain_seen_by}
use Rattle.hb_proxy.specs.Points.{Point, of_control, of_link, of_plain, of_gate, of_stream}
use Rattle.hb_proxy.specs.Runs.{PlainGuard, Steps, StandsFor, begins, goes_on}
use Rattle.hb_proxy.specs.Shared.{Shared, asks, tells, puts, finishes, credits, drops, completes, captured_part}

-- it isn't born, or has ended
abbrev pub is_idle : Stage → Bool
is_idle unborn = true
is_idle (failed why) = true
is_idle (ended why) = true
is_idle (over why) = true
is_idle _ = false

ends_idle : (why : Cause) (stage : Stage) → is_idle (ends_by why stage) ≡ true
ends_idle why unborn = refl
ends_idle why arriving = refl
ends_idle why fronting = refl
ends_idle why due = refl
ends_idle why opening = refl
ends_idle why accepting = refl
ends_idle why live = refl
ends_idle why (failed other) = refl
ends_idle why (ended other) = refl
ends_idle why (over other) = refl

hung_idle : (stage : Stage) → is_idle stage ≡ true → is_idle (hung_up stage) ≡ true
hung_idle fronting is = refl
hung_idle _ is = is

left_idle : (stage : Stage) → is_idle stage ≡ true → is_idle (left_by stage) ≡ true
left_idle (failed why) is = refl
left_idle (ended why) is = refl
left_idle _ is = is

module _ (l : ℕ) (x : Captured) (idle : is_idle x.stage ≡ true) where
  -- it is at no stage at which it goes on
  busy : {P : Type 0} (stage : Stage) → x.stage ≡ stage → is_idle stage ≡ false → P
  busy stage is goes = absurd (false≢true (sym goes ∙ ap is_idle (sym is) ∙ idle))

  came_idle : (bytes : List ℕ) → is_idle (came_by x.stage bytes x).stage ≡ true
  came_idle bytes = by x.stage
    where
      by : (stage : Stage) → is_idle (came_by stage bytes x).stage ≡ true
      by fronting = idle
      by _ = idle

  entry_idle : (z : Entry) → MayCome l x z → ((k : ℕ) (d : Door) → z ≡ e.Accepted k d → ⊥) → is_idle (entered z x).stage ≡ true
  entry_idle (e.Accepted k d) may late = absurd (late k d refl)
  entry_idle (e.Came k bytes) may late = came_idle bytes
  entry_idle (e.Ended k) may late = hung_idle x.stage idle
  entry_idle (e.Went k bytes) may late = idle
  entry_idle (e.Broke k) may late = ends_idle cause.PeerGone x.stage
  entry_idle (e.Shut k) may late = idle
  entry_idle (e.Closed k why) may late = idle
  entry_idle _ may late = idle

  up_idle : (z : Entry) → UpMayCome l x z → is_idle (up_entered z x).stage ≡ true
  up_idle (e.Dialled u to why) may = busy due may.0.1 refl
  up_idle (e.DialFailed to why) may = ends_idle cause.UpFault x.stage
  up_idle (e.Opened u) may = busy opening may.0.1 refl
  up_idle (e.Came u bytes) may = idle
  up_idle (e.Ended u) may = idle
  up_idle (e.Went u bytes) may = idle
  up_idle (e.Broke u) may = ends_idle cause.UpFault x.stage
  up_idle (e.Shut u) may = idle
  up_idle (e.Closed u why) may = idle
  up_idle _ may = idle

  told_idle : (heard : Heard) (begun : ℕ) (stage : Stage) → x.stage ≡ stage → MayHear stage heard x
      → is_idle (told_by heard begun x).stage ≡ true
  told_idle (opens end) begun opening is may = busy opening is refl
  told_idle (opens end) begun unborn is may = absurd may
  told_idle (opens end) begun arriving is may = absurd may
  told_idle (opens end) begun fronting is may = absurd may
  told_idle (opens end) begun due is may = absurd may
  told_idle (opens end) begun accepting is may = absurd may
  told_idle (opens end) begun live is may = absurd may
  told_idle (opens end) begun (failed why) is may = absurd may
  told_idle (opens end) begun (ended why) is may = absurd may
  told_idle (opens end) begun (over why) is may = absurd may
  told_idle (brings bytes) begun stage is may = idle
  told_idle response.ends begun stage is may = idle
  told_idle (fails why) begun stage is may = ends_idle why x.stage

part_idle : (l : ℕ) (a : Local) (p : Part) → MayGo l a p → ((k : ℕ) (d : Door) → p ≡ entry (e.Accepted k d) → ⊥)
    → is_idle a.link.stage ≡ true → is_idle (next_link a.link p).stage ≡ true
part_idle l a (entry z) may late idle = entry_idle l a.link idle z may (λ k d is. late k d (ap entry is))
part_idle l a (up z) may late idle = up_idle l a.link idle z may
part_idle l a welcomed may late idle = busy l a.link idle arriving may refl
part_idle l a crowded may late idle = ends_idle cause.NoRoom a.link.stage
part_idle l a lacked may late idle = ends_idle cause.NoMemory a.link.stage
part_idle l a (misfronted fault) may late idle = ends_idle _ a.link.stage
part_idle l a (fronted seen routing aim) may late idle = busy l a.link idle fronting may.0.0 refl
part_idle l a (refused seen routing why status made) may late idle = refl
part_idle l a (accepted made) may late idle = busy l a.link idle accepting may.0 refl
part_idle l a roomless may late idle = ends_idle cause.NoRoom a.link.stage
part_idle l a (asked gate stream) may late idle = busy l a.link idle due may.0 refl
part_idle l a (hears heard begun) may late idle = told_idle l a.link idle heard begun a.link.stage refl may.1
part_idle l a (put bytes) may late idle = idle
part_idle l a finished may late idle = idle
part_idle l a (credited n) may late idle = idle
part_idle l a (loosed begun) may late idle = idle
part_idle l a (completed begun made) may late idle = refl
part_idle l a (left made) may late idle = left_idle a.link.stage idle
part_idle l a (done made) may late idle = refl
part_idle l a (applied r) may late idle = idle
part_idle l a (stopped why) may late idle = ends_idle why a.link.stage

rejudged_idle : (h : Resources) (x : Captured) → is_idle x.stage ≡ true → is_idle (rejudged h x).stage ≡ true
rejudged_idle h x idle = by (judges x.door && is_judged x.stage)
  where
    of : (j : Judged) → is_idle (judged_by j x).stage ≡ true
    of Admitted = idle
    of Unknown = ends_idle cause.Revoked x.stage
    of Denied = ends_idle cause.Revoked x.stage

    by : (b : Bool) → is_idle (cond b (judged_by (judged h x.peer x.target) x) x).stage ≡ true
    by true = of (judged h x.peer x.target)
    by false = idle

-- what happens on a stream is no accept
unaccepted : (n s : ℕ) (w : Shared) (k : ℕ) (d : Door) → captured_part n s w ≡ entry (e.Accepted k d) → ⊥
unaccepted n s (asks authority) k d is = cc
unaccepted n s (tells heard begun) k d is = cc
unaccepted n s (puts waiting count) k d is = cc
unaccepted n s finishes k d is = cc
unaccepted n s (credits count) k d is = cc
unaccepted n s (drops begun) k d is = cc
unaccepted n s (completes begun note) k d is = cc

-- the end of the run is no other's, and lasts
pub over_lasts : (g : NodeConfig) (m n : control.Machine) (q : point.Point) → model.Steps g m q n → m.over ≡ true → n.over ≡ true
over_lasts g m n (point.stopped why) steps is = absurd (false≢true (sym steps.0 ∙ is))
over_lasts g m n (point.entry z) steps is = ap (λ (y : control.Machine). y.over) steps.1 ∙ is
over_lasts g m n q steps is = (own_keeps g m n q refl steps).over ∙ is

was_over : (g : NodeConfig) (m n : control.Machine) (q : point.Point) → model.Steps g m q n → ((why : Cause) → q ≡ point.stopped why → ⊥)
    → n.over ≡ true → m.over ≡ true
was_over g m n (point.stopped why) steps goes is = absurd (goes why refl)
was_over g m n (point.entry z) steps goes is = sym (ap (λ (y : control.Machine). y.over) steps.1) ∙ is
was_over g m n q steps goes is = sym (own_keeps g m n q refl steps).over ∙ is

module _ (g : NodeConfig) (x : Machine) (so_far : x.control.over ≡ true → (l : ℕ) → is_idle (x.plain l).stage ≡ true) where
  seen_idle : (q : point.Point) (n : control.Machine) → model.Steps g x.control q n → n.over ≡ true → (l : ℕ)
      → is_idle (plain_seen_by x.control.held q (x.plain l)).stage ≡ true
  seen_idle (point.stopped why) n steps is l = ends_idle why (x.plain l).stage
  seen_idle (point.applied k r) n steps is l =
      rejudged_idle (after_response x.control.held r) (x.plain l)
      (so_far (was_over g x.control n (point.applied k r) steps (λ why same. cc) is) l)
  seen_idle q n steps is l = so_far (was_over g x.control n q steps (λ why same. cc) is) l

  -- one plain link goes on
  one_idle : (k l : ℕ) (p : Part) → x.control.over ≡ true → MayGo l (plain_local x l) p
      → ((j : ℕ) (d : Door) → p ≡ entry (e.Accepted j d) → ⊥)
      → is_idle (cond (k == l) (next_link (x.plain l) p) (x.plain k)).stage ≡ true
  one_idle k l p is may late =
      cond_both (k == l) (next_link (x.plain l) p) (x.plain k) (λ z. is_idle z.stage ≡ true)
      (λ same. part_idle l (plain_local x l) p may late (so_far is l)) (λ apart. so_far is k)

  late_guard : (l : ℕ) (p : Part) → PlainGuard g x l p → x.control.over ≡ true → (k : ℕ) (d : Door) → p ≡ entry (e.Accepted k d) → ⊥
  late_guard l p guard is k d same =
      let here = subst (PlainGuard g x l) same guard in false≢true (sym here.birth.1 ∙ is)

  idle_next : (y : Machine) (p : Point) → Steps g x p y → y.control.over ≡ true → (l : ℕ) → is_idle (y.plain l).stage ≡ true
  idle_next y (of_control q) steps is l =
      subst (λ (z : Machine). is_idle (z.plain l).stage ≡ true) (sym steps.3)
      (seen_idle q steps.0 steps.1 (sym (ap (λ (z : Machine). z.control.over) steps.3) ∙ is) l)
  idle_next y (of_link k p) steps is l =
      subst (λ (z : Machine). is_idle (z.plain l).stage ≡ true) (sym steps.3)
      (so_far (sym (ap (λ (z : Machine). z.control.over) steps.3) ∙ is) l)
  idle_next y (of_plain k p) steps is l =
      let was = sym (ap (λ (z : Machine). z.control.over) steps.2) ∙ is in
      subst (λ (z : Machine). is_idle (z.plain l).stage ≡ true) (sym steps.2)
      (one_idle l k p was steps.0 (late_guard k p steps.1 was))
  idle_next y (of_gate n p) steps is l =
      subst (λ (z : Machine). is_idle (z.plain l).stage ≡ true) (sym steps.3)
      (so_far (sym (ap (λ (z : Machine). z.control.over) steps.3) ∙ is) l)
  idle_next y (of_stream k n s w) steps is l =
      subst (λ (z : Machine). is_idle (z.plain l).stage ≡ true) (sym steps.4)
      (one_idle l k (captured_part n s w) (sym (ap (λ (z : Machine). z.control.over) steps.4) ∙ is) steps.0 (unaccepted n s w))

pub over_idle : (g : NodeConfig) (x : Machine) (points : List Point) → StandsFor g x points → x.control.over ≡ true → (l : ℕ)
    → is_idle (x.plain l).stage ≡ true
over_idle g x points (begins is none) at_end l = absurd (false≢true (sym (ap (λ (z : Machine). z.control.over) is) ∙ at_end))
over_idle g y more (goes_on {x = x} {points = points} stands p steps are) at_end l =
    idle_next g x (over_idle g x points stands) y p steps at_end l
