-- While a dial or a stream is due, the aim of the link is the one that its run tells.
use Rattle.std.proofs.Common.{◌≡◌, ℕ, ◌&&◌, Bool, true, false, cond, List, Option, Some, None, refl, ap, sym, ◌∙◌, subst}
use Rattle.hb_base.specs.declared.cause.Cause.{Cause}
use Rattle.hb_base.specs.declared.cause.Cause.TheVariants as cause
use Rattle.hb_front.specs.Faults.{number_of}
use Rattle.hb_held.specs.Held.{Resources}
use Rattle.hb_held.specs.Outcome.{after_response}
use Rattle.hb_table.specs.Judgement.{judged}
use Rattle.hb_table.specs.declared.judgement.Judged.{Judged}
use Rattle.hb_table.specs.declared.judgement.Judged.TheVariants.{Admitted, Unknown, Denied}
use Rattle.hb_gateway.specs.Response as response
use Rattle.hb_gateway.specs.Response.{opens, brings, fails}
use Rattle.hb_world.specs.declared.entry.Entry.TheVariants as e
use Rattle.hb_captured.specs.Answer.{Aim}
use Rattle.hb_captured.specs.Captured.{Captured, Stage, unborn, arriving, fronting, due, opening, accepting, live, failed, ended, over, judges, is_judged, ends_by, hung_up, came_by, left_by, judged_by}
use Rattle.hb_captured.specs.Part.{Part, entry, up, welcomed, crowded, lacked, misfronted, fronted, refused, accepted, roomless, asked, hears, put, finished, credited, loosed, completed, left, done, applied, stopped}
use Rattle.hb_captured.specs.Runs.{Local, next, StandsFor, begins, goes_on}
use Rattle.hb_captured.specs.Sides.{aim_by, aim_of}
use Rattle.hb_captured.proofs.Grown.{fold_one}

-- of a link, by the aim that its run tells
abbrev pub Asks : Option Aim → Captured → Type 0
Asks aim x = x.stage ≡ due → aim ≡ Some x.aim

-- what ended has no dial due
ended_undue : (why : Cause) (stage : Stage) → ends_by why stage ≡ due → ⊥
ended_undue why unborn is = absurd (cc)
ended_undue why arriving is = absurd (cc)
ended_undue why fronting is = absurd (cc)
ended_undue why due is = absurd (cc)
ended_undue why opening is = absurd (cc)
ended_undue why accepting is = absurd (cc)
ended_undue why live is = absurd (cc)
ended_undue why (failed first) is = absurd (cc)
ended_undue why (ended first) is = absurd (cc)
ended_undue why (over first) is = absurd (cc)

hung_due : (stage : Stage) → hung_up stage ≡ due → stage ≡ due
hung_due fronting is = absurd (cc)
hung_due unborn is = is
hung_due arriving is = is
hung_due due is = is
hung_due opening is = is
hung_due accepting is = is
hung_due live is = is
hung_due (failed why) is = is
hung_due (ended why) is = is
hung_due (over why) is = is

left_due : (stage : Stage) → left_by stage ≡ due → stage ≡ due
left_due (failed why) is = absurd (cc)
left_due (ended why) is = absurd (cc)
left_due unborn is = is
left_due arriving is = is
left_due fronting is = is
left_due due is = is
left_due opening is = is
left_due accepting is = is
left_due live is = is
left_due (over why) is = is

module _ (aim : Option Aim) (x : Captured) (asks : Asks aim x) where
  came_asks : (stage : Stage) (bytes : List ℕ) → Asks aim (came_by stage bytes x)
  came_asks unborn bytes = asks
  came_asks arriving bytes = asks
  came_asks fronting bytes = asks
  came_asks due bytes = asks
  came_asks opening bytes = asks
  came_asks accepting bytes = asks
  came_asks live bytes = asks
  came_asks (failed why) bytes = asks
  came_asks (ended why) bytes = asks
  came_asks (over why) bytes = asks

  judged_asks : (b : Bool) (j : Judged) → Asks aim (cond b (judged_by j x) x)
  judged_asks true Admitted = asks
  judged_asks true Unknown = λ is. absurd (ended_undue cause.Revoked x.stage is)
  judged_asks true Denied = λ is. absurd (ended_undue cause.Revoked x.stage is)
  judged_asks false j = asks

asks_next : (a : Local) (aim : Option Aim) → Asks aim a.link → (p : Part) → Asks (aim_by aim p) (next a p).link
asks_next a aim asks (entry (e.Accepted l d)) = λ is. absurd (cc)
asks_next a aim asks (entry (e.Came l bytes)) = came_asks aim a.link asks a.link.stage bytes
asks_next a aim asks (entry (e.Ended l)) = λ is. asks (hung_due a.link.stage is)
asks_next a aim asks (entry (e.Went l bytes)) = asks
asks_next a aim asks (entry (e.Broke l)) = λ is. absurd (ended_undue cause.PeerGone a.link.stage is)
asks_next a aim asks (entry (e.Shut l)) = asks
asks_next a aim asks (entry (e.Closed l why)) = asks
asks_next a aim asks (entry (e.Dialled l to why)) = asks
asks_next a aim asks (entry (e.DialFailed to why)) = asks
asks_next a aim asks (entry (e.Opened l)) = asks
asks_next a aim asks (entry (e.Balked way)) = asks
asks_next a aim asks (entry e.Tick) = asks
asks_next a aim asks (entry (e.Wait ready how)) = asks
asks_next a aim asks (up (e.Accepted l d)) = asks
asks_next a aim asks (up (e.Came l bytes)) = asks
asks_next a aim asks (up (e.Ended l)) = asks
asks_next a aim asks (up (e.Went l bytes)) = asks
asks_next a aim asks (up (e.Broke l)) = λ is. absurd (ended_undue cause.UpFault a.link.stage is)
asks_next a aim asks (up (e.Shut l)) = asks
asks_next a aim asks (up (e.Closed l why)) = asks
asks_next a aim asks (up (e.Dialled l to why)) = λ is. absurd (cc)
asks_next a aim asks (up (e.DialFailed to why)) = λ is. absurd (ended_undue cause.UpFault a.link.stage is)
asks_next a aim asks (up (e.Opened l)) = λ is. absurd (cc)
asks_next a aim asks (up (e.Balked way)) = asks
asks_next a aim asks (up e.Tick) = asks
asks_next a aim asks (up (e.Wait ready how)) = asks
asks_next a aim asks welcomed = λ is. absurd (cc)
asks_next a aim asks crowded = λ is. absurd (ended_undue cause.NoRoom a.link.stage is)
asks_next a aim asks lacked = λ is. absurd (ended_undue cause.NoMemory a.link.stage is)
asks_next a aim asks (misfronted fault) = λ is. absurd (ended_undue (cause.FrontFault (number_of fault)) a.link.stage is)
asks_next a aim asks (fronted seen routing to) = λ is. refl
asks_next a aim asks (refused seen routing why status made) = λ is. absurd (cc)
asks_next a aim asks (accepted made) = λ is. absurd (cc)
asks_next a aim asks roomless = λ is. absurd (ended_undue cause.NoRoom a.link.stage is)
asks_next a aim asks (asked gate stream) = λ is. absurd (cc)
asks_next a aim asks (hears (opens end) begun) = λ is. absurd (cc)
asks_next a aim asks (hears (brings bytes) begun) = asks
asks_next a aim asks (hears response.ends begun) = asks
asks_next a aim asks (hears (fails why) begun) = λ is. absurd (ended_undue why a.link.stage is)
asks_next a aim asks (put bytes) = asks
asks_next a aim asks finished = asks
asks_next a aim asks (credited n) = asks
asks_next a aim asks (loosed begun) = asks
asks_next a aim asks (completed begun made) = λ is. absurd (cc)
asks_next a aim asks (left made) = λ is. asks (left_due a.link.stage is)
asks_next a aim asks (done made) = λ is. absurd (cc)
asks_next a aim asks (applied r) =
    judged_asks aim a.link asks (judges a.link.door && is_judged a.link.stage)
    (judged (after_response a.held r) a.link.peer a.link.target)
asks_next a aim asks (stopped why) = λ is. absurd (ended_undue why a.link.stage is)

pub all_ask : (l : ℕ) (start : Resources) (a : Local) (parts : List Part) → StandsFor l start a parts → Asks (aim_of parts) a.link
all_ask l start a parts (begins is none) =
    λ due_is. absurd (let never : unborn ≡ due = sym (ap (λ (b : Local). b.link.stage) is) ∙ due_is in cc)
all_ask l start b more (goes_on {a = a} {parts = parts} stands p steps are) =
    subst (λ (c : Local). Asks (aim_of more) c.link) (sym steps.1)
    (subst (λ (t : Option Aim). Asks t (next a p).link)
    (sym (ap aim_of are ∙ fold_one aim_by None parts p))
    (asks_next a (aim_of parts) (all_ask l start a parts stands) p))
