-- What every run tells of a link's stream: whether one was asked for, and whether it was left; and of the bytes that went up, which a link
-- counts as they are written to its upstream, but those of its stream where that is left.
use Rattle.std.proofs.Common.{◌≡◌, ◌≢◌, inl, inr, ℕ, ◌<◌, ◌+◌, ◌==◌, ◌||◌, ◌&&◌, Bool, true, false, cond, List, [], ◌∷◌, ◌++◌, length, Option, Some, None, refl, ap, sym, ◌∙◌, subst, arith, length-append}
use Rattle.std.specs.Prelude.{⊤}
use Rattle.std.proofs.lemmas.Bool.{false≢true}
use Rattle.std.proofs.lemmas.Bool.Decides.{nat_tests}
use Rattle.hb_base.specs.declared.cause.Cause.{Cause}
use Rattle.hb_base.specs.declared.cause.Cause.TheVariants as cause
use Rattle.hb_front.specs.Faults.{number_of}
use Rattle.hb_gateway.specs.Response as response
use Rattle.hb_gateway.specs.Response.{Heard, opens, brings, fails}
use Rattle.hb_held.specs.Held.{Resources}
use Rattle.hb_held.specs.Outcome.{after_response}
use Rattle.hb_table.specs.Judgement.{judged}
use Rattle.hb_table.specs.declared.judgement.Judged.{Judged}
use Rattle.hb_table.specs.declared.judgement.Judged.TheVariants.{Admitted, Unknown, Denied}
use Rattle.hb_world.specs.declared.entry.Entry.{Entry}
use Rattle.hb_world.specs.declared.entry.Entry.TheVariants as e
use Rattle.hb_captured.specs.Captured.{Captured, Stage, unborn, arriving, fronting, due, opening, accepting, live, failed, ended, over, judges, is_judged, ends_by, hung_up, came_by, left_by, judged_by, no_link}
use Rattle.hb_captured.specs.Part.{Part, entry, up, welcomed, crowded, lacked, misfronted, fronted, refused, accepted, roomless, asked, hears, put, finished, credited, loosed, completed, left, done, applied, stopped}
use Rattle.hb_captured.specs.Runs.{Local, MayCome, UpMayCome, MayGo, MayHear, IsTried, IsOnStream, HasEnded, next, StandsFor, begins, goes_on}
use Rattle.hb_captured.specs.Sides.{is_asked, begun_by, begun_of, up_went, up_went_in, was, header_of, link_came}
use Rattle.hb_captured.proofs.Grown.{one_more, fold_one}
use Rattle.hb_captured.proofs.Kept.{all_keep}
use Rattle.hb_captured.proofs.Stages.{KnowsBy, adds, adds_all}

-- what a run tells: a stream was asked for; how many bytes have begun to go where it was left; how many went up
pub record Said : Type 0 where
  pub asked : Bool
  pub begun : Option ℕ
  pub gone : ℕ

abbrev pub said : List Part → Said
said parts = record { asked = was is_asked parts; begun = begun_of parts; gone = length (up_went parts) }

abbrev said_by : Said → Part → Said
said_by s p = record { asked = is_asked p || s.asked; begun = begun_by s.begun p; gone = adds s.gone (up_went_in p) }

said_one : (parts : List Part) (p : Part) → said (parts ++ p ∷ []) ≡ said_by (said parts) p
said_one parts p =
    ap (λ (b : Bool). record (said (parts ++ p ∷ [])) { asked = b }) (fold_one (λ was q. is_asked q || was) false parts p)
    ∙ ap (λ (n : Option ℕ). record (said_by (said parts) p) { begun = n; gone = length (up_went (parts ++ p ∷ [])) })
    (fold_one begun_by None parts p)
    ∙ ap (λ (n : ℕ). record (said_by (said parts) p) { gone = n })
    (ap length (one_more up_went_in parts p) ∙ length-append (up_went parts) (up_went_in p)
    ∙ sym (adds_all (length (up_went parts)) (up_went_in p)))

-- what a link shows of that
pub record Road : Type 0 where
  pub stage : Stage
  pub gate : ℕ
  pub up : ℕ
  pub went_up : ℕ

abbrev pub road_of : Captured → Road
road_of x = record { stage = x.stage; gate = x.gate; up = x.up; went_up = x.went_up }

-- it may have a stream
abbrev pub MayStream : Stage → Type 0
MayStream unborn = ⊥
MayStream arriving = ⊥
MayStream fronting = ⊥
MayStream due = ⊥
MayStream stage = ⊤

-- none was asked for; it has one; or that was left
pub data Streamed (s : Said) (r : Road) : Type 0 where
  never : s.asked ≡ false → s.begun ≡ None → r.gate ≡ 0 → r.went_up ≡ s.gone → Streamed s r
  has : s.asked ≡ true → s.begun ≡ None → r.gate ≢ 0 → r.up ≡ 0 → MayStream r.stage → Streamed s r
  was_left : s.asked ≡ true → s.begun ≡ Some r.went_up → r.gate ≡ 0 → HasEnded r.stage → Streamed s r

-- STAGES

ends_streams : (why : Cause) (stage : Stage) → MayStream stage → HasEnded (ends_by why stage)
ends_streams why unborn may = absurd may
ends_streams why arriving may = absurd may
ends_streams why fronting may = absurd may
ends_streams why due may = absurd may
ends_streams why opening may = tt
ends_streams why accepting may = tt
ends_streams why live may = tt
ends_streams why (failed first) may = tt
ends_streams why (ended first) may = tt
ends_streams why (over first) may = tt

ended_streams : (stage : Stage) → HasEnded stage → MayStream stage
ended_streams (failed why) is = tt
ended_streams (ended why) is = tt
ended_streams (over why) is = tt
ended_streams unborn is = absurd is
ended_streams arriving is = absurd is
ended_streams fronting is = absurd is
ended_streams due is = absurd is
ended_streams opening is = absurd is
ended_streams accepting is = absurd is
ended_streams live is = absurd is

-- what may have a stream, or has ended, still may, or has
abbrev Follows : Stage → Stage → Type 0
Follows old new = (MayStream old → MayStream new) × (HasEnded old → HasEnded new)

ends_follows : (why : Cause) (stage : Stage) → Follows stage (ends_by why stage)
ends_follows why stage =
    (λ may. ended_streams (ends_by why stage) (ends_streams why stage may), λ is. ends_streams why stage (ended_streams stage is))

hung_follows : (stage : Stage) → Follows stage (hung_up stage)
hung_follows fronting = (λ may. tt, λ is. tt)
hung_follows unborn = (λ may. may, λ is. is)
hung_follows arriving = (λ may. may, λ is. is)
hung_follows due = (λ may. may, λ is. is)
hung_follows opening = (λ may. may, λ is. is)
hung_follows accepting = (λ may. may, λ is. is)
hung_follows live = (λ may. may, λ is. is)
hung_follows (failed why) = (λ may. may, λ is. is)
hung_follows (ended why) = (λ may. may, λ is. is)
hung_follows (over why) = (λ may. may, λ is. is)

left_follows : (stage : Stage) → Follows stage (left_by stage)
left_follows (failed why) = (λ may. tt, λ is. tt)
left_follows (ended why) = (λ may. tt, λ is. tt)
left_follows unborn = (λ may. may, λ is. is)
left_follows arriving = (λ may. may, λ is. is)
left_follows fronting = (λ may. may, λ is. is)
left_follows due = (λ may. may, λ is. is)
left_follows opening = (λ may. may, λ is. is)
left_follows accepting = (λ may. may, λ is. is)
left_follows live = (λ may. may, λ is. is)
left_follows (over why) = (λ may. may, λ is. is)

-- a number of a gateway
pub on_gate : (gate : ℕ) → (gate == 0) ≡ false → gate ≢ 0
on_gate gate is same = false≢true (sym is ∙ ap (λ (n : ℕ). n == 0) same)

pub off_gate : (gate : ℕ) → (gate == 0) ≡ true → gate ≡ 0
off_gate gate is = grind (arith, nat_tests, is)

module _ (s : Said) (r : Road) where
  -- at another stage
  at_another : (stage : Stage) → Follows r.stage stage → Streamed s r → Streamed s (record r { stage = stage })
  at_another stage follows (never told begun gate went) = never told begun gate went
  at_another stage follows (has told begun gate no_up may) = has told begun gate no_up (follows.0 may)
  at_another stage follows (was_left told begun gate is) = was_left told begun gate (follows.1 is)

  -- none was asked for where none may be
  pub unasked : (MayStream r.stage → ⊥) → Streamed s r
      → (s.asked ≡ false) × (s.begun ≡ None) × (r.gate ≡ 0) × (r.went_up ≡ s.gone)
  unasked none (never told begun gate went) = (told, begun, gate, went)
  unasked none (has told begun gate no_up may) = absurd (none may)
  unasked none (was_left told begun gate is) = absurd (none (ended_streams r.stage is))

  -- it is asked for
  asks : (gate : ℕ) → 0 < gate → r.up ≡ 0 → (MayStream r.stage → ⊥) → Streamed s r
      → Streamed (record s { asked = true }) (record r { stage = opening; gate = gate })
  asks gate some no_up none is =
      has refl (unasked none is).1 (λ same. omega (arith, same, some)) no_up tt

  -- bytes are written to its upstream, or put on it
  goes : (bytes : List ℕ) (u : ℕ) → r.stage ≡ live → r.up ≡ u → 0 < u → Streamed s r
      → Streamed (record s { gone = adds s.gone bytes }) (record r { went_up = r.went_up + length bytes })
  goes bytes u is same some (never told begun gate went) =
      never told begun gate (ap (λ (n : ℕ). n + length bytes) went ∙ sym (adds_all s.gone bytes))
  goes bytes u is same some (has told begun gate no_up may) = absurd (omega (arith, same, some, no_up))
  goes bytes u is same some (was_left told begun gate over_so) = absurd (subst HasEnded is over_so)

  puts : (bytes : List ℕ) → r.gate ≢ 0 → Streamed s r → Streamed (record s { gone = adds s.gone bytes }) r
  puts bytes on (never told begun gate went) = absurd (on gate)
  puts bytes on (has told begun gate no_up may) = has told begun gate no_up may
  puts bytes on (was_left told begun gate is) = absurd (on gate)

  -- it is left
  leaves : (stage : Stage) (begun : ℕ) → r.gate ≢ 0 → (MayStream r.stage → HasEnded stage) → Streamed s r
      → Streamed (record s { begun = Some begun }) (record r { stage = stage; gate = 0; went_up = begun })
  leaves stage begun on ended_so (never told none gate went) = absurd (on gate)
  leaves stage begun on ended_so (has told none gate no_up may) = was_left told refl refl (ended_so may)
  leaves stage begun on ended_so (was_left told some gate is) = absurd (on gate)

  -- another number of the upstream
  dials : (u : ℕ) → (MayStream r.stage → ⊥) → Streamed s r → Streamed s (record r { stage = opening; up = u })
  dials u none is = let (told, begun, gate, went) = unasked none is in never told begun gate went

  closes : Streamed s r → Streamed s (record r { up = 0 })
  closes (never told begun gate went) = never told begun gate went
  closes (has told begun gate no_up may) = has told begun gate refl may
  closes (was_left told begun gate is) = was_left told begun gate is

module _ (l : ℕ) (start : Resources) (a : Local) (before : List Part) (stands : StandsFor l start a before)
    (is : Streamed (said before) (road_of a.link)) where
  -- what a part makes of it
  abbrev Then : Part → Type 0
  Then p = Streamed (said_by (said before) p) (road_of (next a p).link)

  at_stage_of : (stage : Stage) → Follows a.link.stage stage → Streamed (said before) (record (road_of a.link) { stage = stage })
  at_stage_of stage follows = at_another (said before) (road_of a.link) stage follows is

  ends : (why : Cause) → Streamed (said before) (record (road_of a.link) { stage = ends_by why a.link.stage })
  ends why = at_stage_of (ends_by why a.link.stage) (ends_follows why a.link.stage)

  -- at a stage where none may be
  none_at : (stage : Stage) → (MayStream stage → ⊥) → a.link.stage ≡ stage → MayStream a.link.stage → ⊥
  none_at stage none at may = none (subst MayStream at may)

  -- to a stage from one where none may be, or from one that hasn't ended
  early_follows : (old new : Stage) → (MayStream old → ⊥) → a.link.stage ≡ old → Follows a.link.stage new
  early_follows old new none at =
      (λ may. absurd (none_at old none at may), λ over_so. absurd (none_at old none at (ended_streams a.link.stage over_so)))

  going_follows : (old new : Stage) → (HasEnded old → ⊥) → MayStream new → a.link.stage ≡ old → Follows a.link.stage new
  going_follows old new going may at = (λ was_so. may, λ over_so. absurd (going (subst HasEnded at over_so)))

  came : (bytes : List ℕ) → IsTried a.link → road_of (came_by a.link.stage bytes a.link) ≡ road_of a.link
  came bytes (inl at) = ap (λ (s : Stage). road_of (came_by s bytes a.link)) at.1
  came bytes (inr (inl at)) = ap (λ (s : Stage). road_of (came_by s bytes a.link)) at.1
  came bytes (inr (inr at)) = ap (λ (s : Stage). road_of (came_by s bytes a.link)) at.1

  of_entry : (z : Entry) → MayCome l a.link z → Then (entry z)
  of_entry (e.Accepted k d) may = at_stage_of arriving (early_follows unborn arriving (λ n. n) may.1)
  of_entry (e.Came k bytes) may = subst (Streamed (said before)) (sym (came bytes may.1.0)) is
  of_entry (e.Ended k) may = at_stage_of (hung_up a.link.stage) (hung_follows a.link.stage)
  of_entry (e.Broke k) may = ends cause.PeerGone
  of_entry (e.Went k bytes) may = is
  of_entry (e.Shut k) may = is
  of_entry (e.Closed k why) may = is
  of_entry (e.Balked way) may = is
  of_entry (e.Dialled k to why) may = is
  of_entry (e.DialFailed to why) may = is
  of_entry (e.Opened k) may = is
  of_entry e.Tick may = is
  of_entry (e.Wait ready how) may = is

  of_up : (z : Entry) → UpMayCome l a.link z → Then (up z)
  of_up (e.Dialled u to why) may = dials (said before) (road_of a.link) u (none_at due (λ n. n) may.0.1) is
  of_up (e.DialFailed to why) may = ends cause.UpFault
  of_up (e.Opened u) may = at_stage_of accepting (going_follows opening accepting (λ n. n) tt may.0.1)
  of_up (e.Went u bytes) may = goes (said before) (road_of a.link) bytes u may.0.0.1 may.0.1 may.0.2 is
  of_up (e.Broke u) may = ends cause.UpFault
  of_up (e.Closed u why) may = closes (said before) (road_of a.link) is
  of_up (e.Came u bytes) may = is
  of_up (e.Ended u) may = is
  of_up (e.Shut u) may = is
  of_up (e.Balked way) may = is
  of_up (e.Accepted k d) may = is
  of_up e.Tick may = is
  of_up (e.Wait ready how) may = is

  heard : (h : Heard) (begun : ℕ) (stage : Stage) → a.link.stage ≡ stage → IsOnStream a.link → MayHear stage h a.link
      → Then (hears h begun)
  heard (opens end) begun opening at on may = at_stage_of accepting (going_follows opening accepting (λ n. n) tt at)
  heard (brings bytes) begun stage at on may = is
  heard response.ends begun stage at on may = is
  heard (fails why) begun stage at on may =
      leaves (said before) (road_of a.link) (ends_by why a.link.stage) begun (on_gate a.link.gate on) (ends_streams why a.link.stage) is
  heard (opens end) begun unborn at on may = absurd may
  heard (opens end) begun arriving at on may = absurd may
  heard (opens end) begun fronting at on may = absurd may
  heard (opens end) begun due at on may = absurd may
  heard (opens end) begun accepting at on may = absurd may
  heard (opens end) begun live at on may = absurd may
  heard (opens end) begun (failed why) at on may = absurd may
  heard (opens end) begun (ended why) at on may = absurd may
  heard (opens end) begun (over why) at on may = absurd may

  updated : (judging : Bool) (j : Judged) → Streamed (said before) (road_of (cond judging (judged_by j a.link) a.link))
  updated true Admitted = is
  updated true Unknown = ends cause.Revoked
  updated true Denied = ends cause.Revoked
  updated false j = is

  -- while it is due it has no upstream
  due_up : a.link.stage ≡ due → a.link.up ≡ 0
  due_up at =
      (subst (λ (s : Stage). KnowsBy s (header_of before) (link_came before) a.held a.link) at (all_keep l start a before stands).knows).1

  of_part : (p : Part) → MayGo l a p → Then p
  of_part (entry z) may = of_entry z may
  of_part (up z) may = of_up z may
  of_part welcomed may = at_stage_of fronting (early_follows arriving fronting (λ n. n) may)
  of_part crowded may = ends cause.NoRoom
  of_part lacked may = ends cause.NoMemory
  of_part (misfronted fault) may = ends (cause.FrontFault (number_of fault))
  of_part (fronted seen routing aim) may = at_stage_of due (early_follows fronting due (λ n. n) may.0.0)
  of_part (refused seen routing why status made) may = at_stage_of (over why) (early_follows fronting (over why) (λ n. n) may.0.0)
  of_part (accepted made) may = at_stage_of live (going_follows accepting live (λ n. n) tt may.0)
  of_part roomless may = ends cause.NoRoom
  of_part (asked gate stream) may =
      asks (said before) (road_of a.link) gate may.2 (due_up may.0) (none_at due (λ n. n) may.0) is
  of_part (hears h begun) may = heard h begun a.link.stage refl may.0 may.1
  of_part (put bytes) may = puts (said before) (road_of a.link) bytes (on_gate a.link.gate may.0.0) is
  of_part finished may = is
  of_part (credited n) may = is
  of_part (loosed begun) may =
      leaves (said before) (road_of a.link) a.link.stage begun (on_gate a.link.gate may.0) (λ was_so. may.1) is
  of_part (completed begun made) may =
      leaves (said before) (road_of a.link) (over cause.Done) begun (on_gate a.link.gate may.0.0) (λ was_so. tt) is
  of_part (left made) may = at_stage_of (left_by a.link.stage) (left_follows a.link.stage)
  of_part (done made) may = at_stage_of (over cause.Done) (going_follows live (over cause.Done) (λ n. n) tt may.0)
  of_part (applied r) may =
      updated (judges a.link.door && is_judged a.link.stage) (judged (after_response a.held r) a.link.peer a.link.target)
  of_part (stopped why) may = ends why

pub all_streamed : (l : ℕ) (start : Resources) (a : Local) (parts : List Part) → StandsFor l start a parts
    → Streamed (said parts) (road_of a.link)
all_streamed l start a parts (begins is none) =
    subst (λ (b : Local). Streamed (said parts) (road_of b.link)) (sym is)
    (subst (λ (ps : List Part). Streamed (said ps) (road_of no_link)) (sym none) (never refl refl refl refl))
all_streamed l start b more (goes_on {a = a} {parts = parts} stands p steps are) =
    subst (λ (c : Local). Streamed (said more) (road_of c.link)) (sym steps.1)
    (subst (λ (s : Said). Streamed s (road_of (next a p).link)) (sym (ap said are ∙ said_one parts p))
    (of_part l start a parts stands (all_streamed l start a parts stands) p steps.0))
