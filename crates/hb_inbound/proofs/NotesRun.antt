-- Each answer and each end of a live tunnel has its note, in every run of a link.
use Rattle.std.proofs.Common.{◌≡◌, ◌≢◌, inl, inr, ℕ, ◌<◌, ◌&&◌, ◌||◌, Bool, true, false, cond, List, Option, Some, None, refl, ap, ap₂, sym, ◌∙◌, subst}
use Rattle.std.proofs.lemmas.Bool.{false≢true}
use Rattle.hb_base.specs.declared.cause.Cause.{Cause}
use Rattle.hb_base.specs.declared.cause.Cause.TheVariants as cause
use Rattle.hb_base.specs.declared.note.Note.{Note}
use Rattle.hb_base.specs.declared.note.Note.TheVariants as note
use Rattle.hb_base.specs.declared.target.Target.{Target}
use Rattle.hb_conn.specs.Connection.{Connection}
use Rattle.hb_conn.specs.Observed.{outgoing, own_side_open, sides}
use Rattle.hb_held.specs.Held.{Resources}
use Rattle.hb_kept.proofs.Begun.{have_begun}
use Rattle.hb_world.specs.declared.entry.Entry.{Entry}
use Rattle.hb_world.specs.declared.entry.Entry.TheVariants as e
use Rattle.hb_world.specs.declared.entry.Way.TheVariants as way
use Rattle.hb_inbound.specs.Calm.{IsAnswered}
use Rattle.hb_inbound.specs.Closes.{course_of, serves}
use Rattle.hb_inbound.specs.Ends.{Life, none, pending, lives, life, up_of}
use Rattle.hb_inbound.specs.Ends as life
use Rattle.hb_inbound.specs.Inbound.{Phase, unborn, arriving, fronting, serving, faulted, closing, closed}
use Rattle.hb_inbound.specs.Laws.{RunsNote}
use Rattle.hb_inbound.specs.Notes.{Noting, no_note, answer, end_of_it, noting_of, IsAnswerNote, IsEndNote, is_failed_so, is_ended_so, is_failed, is_ended, FailedFirst, EndedFirst, NotesRefusal, PutsNoStatus, PutsNoCode, NotesSilence, AreNoted, LinkNoted, NotesAt}
use Rattle.hb_inbound.specs.Part.{Part, entry, up, welcomed, crowded, lacked, fronted, misfronted, looked, decided, accepted, refused, reset, left, done, put, finished, credited, applied, stopped}
use Rattle.hb_inbound.specs.Runs.{Local, MayCome, Steps, StandsFor, Refuses, Resets, Leaves, counted, end_code, failure_status, is_serving, end_note, verdict_note}
use Rattle.hb_inbound.specs.Sides.{link_went}
use Rattle.hb_inbound.specs.Tunnel.{Tunnel, Stage, unasked, requested, refusing, malformed, due, opening, accepting, live, failed, ended, over, gone, is_unanswered, takes_place}
use Rattle.hb_inbound.specs.Tunnel as tunnel
use Rattle.hb_inbound.proofs.Admitted.{AreUnasked, KnowsBy}
use Rattle.hb_inbound.proofs.AdmittedRun.{all_admit}
use Rattle.hb_inbound.proofs.ClosesRun.{CourseBy, all_course, history}
use Rattle.hb_inbound.proofs.EndsRun.{all_say, said_at, new_streams}
use Rattle.hb_inbound.proofs.Grown.{at_parts}
use Rattle.hb_inbound.proofs.Life.{SaysBy}
use Rattle.hb_inbound.proofs.LifeRun.{close_late}
use Rattle.hb_inbound.proofs.Noting.{NotesBy, all_noted}
use Rattle.hb_inbound.proofs.RelaysRun.{all_relay}
use Rattle.hb_inbound.proofs.SendsRun.{AllSend, all_send}
use Rattle.hb_inbound.proofs.VerdictRun.{up_answered}

-- THE WORDS OF THE TRACE FOR A STAGE

failed_so : (stage : Stage) (how : Life) (u : ℕ) (n : Noting) (t : Tunnel) → SaysBy stage how u t → NotesBy stage n t.target
    → is_failed_so how n ≡ tunnel.is_failed stage
failed_so unasked how u n t says is = ap₂ is_failed_so says.life is
failed_so (requested headers end) how u n t says is = ap₂ is_failed_so says.life is
failed_so (refusing status target) how u n t says is = ap₂ is_failed_so says.life is
failed_so malformed how u n t says is = ap₂ is_failed_so says.life is
failed_so due how u n t says is = ap₂ is_failed_so says.0.life is
failed_so opening how u n t says is = ap₂ is_failed_so says.life is
failed_so accepting how u n t says is = ap₂ is_failed_so says.life is
failed_so live how u n t says is = ap₂ is_failed_so says.life is
failed_so (failed why) how u n t says is = ap₂ is_failed_so says.life is
failed_so (ended why) how u n t says is = ap₂ is_failed_so says.life is
failed_so (over why) how u n t says is = ap₂ is_failed_so says.life is
failed_so gone how u n t (inl never, ago) is = ap₂ is_failed_so never is
failed_so gone how u n t (inr (why, past), ago) is = ap₂ is_failed_so past is

ended_so : (stage : Stage) (how : Life) (u : ℕ) (n : Noting) (t : Tunnel) → SaysBy stage how u t → NotesBy stage n t.target
    → is_ended_so how n ≡ tunnel.is_ended stage
ended_so unasked how u n t says is = ap₂ is_ended_so says.life is
ended_so (requested headers end) how u n t says is = ap₂ is_ended_so says.life is
ended_so (refusing status target) how u n t says is = ap₂ is_ended_so says.life is
ended_so malformed how u n t says is = ap₂ is_ended_so says.life is
ended_so due how u n t says is = ap₂ is_ended_so says.0.life is
ended_so opening how u n t says is = ap₂ is_ended_so says.life is
ended_so accepting how u n t says is = ap₂ is_ended_so says.life is
ended_so live how u n t says is = ap₂ is_ended_so says.life is
ended_so (failed why) how u n t says is = ap₂ is_ended_so says.life is
ended_so (ended why) how u n t says is = ap₂ is_ended_so says.life is
ended_so (over why) how u n t says is = ap₂ is_ended_so says.life is
ended_so gone how u n t (inl never, ago) is = ap₂ is_ended_so never is
ended_so gone how u n t (inr (why, past), ago) is = ap₂ is_ended_so past is

-- an answered tunnel that ended is noted
answered_so : (stage : Stage) (how : Life) (u : ℕ) (n : Noting) (t : Tunnel) (why : Cause) → is_unanswered stage ≡ false
    → SaysBy stage how u t → NotesBy stage n t.target → how ≡ life.ended why → n ≡ no_note
answered_so unasked how u n t why calm says is over_so = is
answered_so due how u n t why calm says is over_so =
    absurd (let other : pending t.target ≡ life.ended why = sym says.0.life ∙ over_so in cc)
answered_so opening how u n t why calm says is over_so =
    absurd (let other : pending t.target ≡ life.ended why = sym says.life ∙ over_so in cc)
answered_so live how u n t why calm says is over_so =
    absurd (let other : lives t.target ≡ life.ended why = sym says.life ∙ over_so in cc)
answered_so (over cause) how u n t why calm says is over_so = is
answered_so gone how u n t why calm says is over_so = is
answered_so (requested headers end) how u n t why calm says is over_so = absurd (false≢true (sym calm))
answered_so (refusing status target) how u n t why calm says is over_so = absurd (false≢true (sym calm))
answered_so malformed how u n t why calm says is over_so = absurd (false≢true (sym calm))
answered_so accepting how u n t why calm says is over_so = absurd (false≢true (sym calm))
answered_so (failed cause) how u n t why calm says is over_so = absurd (false≢true (sym calm))
answered_so (ended cause) how u n t why calm says is over_so = absurd (false≢true (sym calm))

-- so is one that has no place
placeless_so : (stage : Stage) (n : Noting) (target : Target) → is_unanswered stage ≡ false → takes_place stage ≡ false
    → NotesBy stage n target → n ≡ no_note
placeless_so unasked n target calm place is = is
placeless_so (over why) n target calm place is = is
placeless_so gone n target calm place is = is
placeless_so due n target calm place is = absurd (false≢true (sym place))
placeless_so opening n target calm place is = absurd (false≢true (sym place))
placeless_so live n target calm place is = absurd (false≢true (sym place))
placeless_so (requested headers end) n target calm place is = absurd (false≢true (sym calm))
placeless_so (refusing status to) n target calm place is = absurd (false≢true (sym calm))
placeless_so malformed n target calm place is = absurd (false≢true (sym calm))
placeless_so accepting n target calm place is = absurd (false≢true (sym calm))
placeless_so (failed cause) n target calm place is = absurd (false≢true (sym calm))
placeless_so (ended cause) n target calm place is = absurd (false≢true (sym calm))

-- a link that doesn't serve
serves_not : (phase : Phase) (c : Connection) (before : List Part) → is_serving phase ≡ false → CourseBy phase (course_of before) c
    → course_of before ≢ serves
serves_not unborn c before off is served = let both = sym is ∙ served in cc
serves_not arriving c before off is served = let both = sym is ∙ served in cc
serves_not fronting c before off is served = let both = sym is ∙ served in cc
serves_not serving c before off is served = false≢true (sym off)
serves_not (faulted code) c before off is served = let both = sym is ∙ served in cc
serves_not (closing why) c before off (inl is) served = let both = sym is ∙ served in cc
serves_not (closing why) c before off (inr is) served = let both = sym is.0 ∙ served in cc
serves_not closed c before off is served = let both = sym is ∙ served in cc

module _ (l : ℕ) (start : Resources) (a : Local) (before : List Part) (stands : StandsFor l start a before) where
  says : (s : ℕ) → SaysBy (a.link.tunnels s).stage (life start s before) (up_of s before) (a.link.tunnels s)
  says s = (all_say new_streams l start a before stands).each s

  notes : (s : ℕ) → NotesBy (a.link.tunnels s).stage (noting_of s before) (a.link.tunnels s).target
  notes s = all_noted l start a before stands s

  note_at : (s : ℕ) (stage : Stage) → (a.link.tunnels s).stage ≡ stage → NotesBy stage (noting_of s before) (a.link.tunnels s).target
  note_at s stage is = subst (λ (st : Stage). NotesBy st (noting_of s before) (a.link.tunnels s).target) is (notes s)

  failed_is : (s : ℕ) → is_failed start before s ≡ tunnel.is_failed (a.link.tunnels s).stage
  failed_is s =
      failed_so (a.link.tunnels s).stage (life start s before) (up_of s before) (noting_of s before) (a.link.tunnels s) (says s) (notes s)

  ended_is : (s : ℕ) → is_ended start before s ≡ tunnel.is_ended (a.link.tunnels s).stage
  ended_is s =
      ended_so (a.link.tunnels s).stage (life start s before) (up_of s before) (noting_of s before) (a.link.tunnels s) (says s) (notes s)

  noted : IsAnswered a.link → AreNoted start before
  noted answered s why is =
      answered_so (a.link.tunnels s).stage (life start s before) (up_of s before) (noting_of s before) (a.link.tunnels s) why (answered s)
      (says s) (notes s) is

  life_at : (s : ℕ) (stage : Stage) → (a.link.tunnels s).stage ≡ stage
      → SaysBy stage (life start s before) (up_of s before) (a.link.tunnels s)
  life_at s stage is = said_at new_streams l start a before stands s stage is

  -- THE NOTES

  answer_note : (s status : ℕ) (target : Option Target) (made : Note) → a.link.phase ≡ serving → noting_of s before ≡ answer target
      → made ≡ verdict_note l s a.link status target → IsAnswerNote l before s status made
  answer_note s status target made at owed is = record {
    peer = a.link.peer;
    target = target;
    peer_is = subst (λ (ph : Phase). KnowsBy ph before a.link) at (all_admit l start a before stands).knows;
    due = owed;
    is = is;
  }

  -- what truly went
  end_is : (s : ℕ) (why : Cause) (made : Note) → noting_of s before ≡ end_of_it → made ≡ end_note l s why (a.link.tunnels s)
      → IsEndNote l before s why made
  end_is s why made owed is =
      let all : AllSend before a.link = all_send l start a before stands in
      record {
        due = owed;
        begun = all.begun;
        began = have_begun (link_went before) (outgoing a.link.conn).rest all.begun (outgoing a.link.conn).begun all.shows all.ends;
        is = is
            ∙ ap₂ (λ (ups downs : ℕ). note.End l s why (counted ups) (counted downs)) (all_relay l start a before stands s).counts
            (all.sends s).counts;
      }

  failed_first : (s : ℕ) → ((k : ℕ) → k < s → tunnel.is_failed (a.link.tunnels k).stage ≡ false) → FailedFirst start before s
  failed_first s first k below = failed_is k ∙ first k below

  ended_first : (s : ℕ) → ((k : ℕ) → tunnel.is_failed (a.link.tunnels k).stage ≡ false)
      → ((k : ℕ) → k < s → tunnel.is_ended (a.link.tunnels k).stage ≡ false) → EndedFirst start before s
  ended_first s noted_all first = ((λ k. failed_is k ∙ noted_all k), λ k below. ended_is k ∙ first k below)

  refusal_notes : (s status : ℕ) (made : Note) (next : Tunnel) (stage : Stage) → a.link.phase ≡ serving → (a.link.tunnels s).stage ≡ stage
      → Refuses l s a.link stage status made next → NotesRefusal start l before s status made
  refusal_notes s status made next (refusing n target) at is refuses = (
    answer_note s status target made at (note_at s (refusing n target) is)
        (subst (λ (m : ℕ). made ≡ verdict_note l s a.link m target) (sym refuses.0) refuses.1),
    λ failed_now. absurd (false≢true (sym (failed_is s ∙ ap tunnel.is_failed is) ∙ failed_now)),
  )
  refusal_notes s status made next (failed why) at is refuses = (
    answer_note s status (Some (a.link.tunnels s).target) made at (note_at s (failed why) is) refuses.2,
    λ failed_now. failed_first s refuses.0,
  )
  refusal_notes s status made next unasked at is refuses = absurd refuses
  refusal_notes s status made next (requested headers end) at is refuses = absurd refuses
  refusal_notes s status made next malformed at is refuses = absurd refuses
  refusal_notes s status made next due at is refuses = absurd refuses
  refusal_notes s status made next opening at is refuses = absurd refuses
  refusal_notes s status made next accepting at is refuses = absurd refuses
  refusal_notes s status made next live at is refuses = absurd refuses
  refusal_notes s status made next (ended why) at is refuses = absurd refuses
  refusal_notes s status made next (over why) at is refuses = absurd refuses
  refusal_notes s status made next gone at is refuses = absurd refuses

  reset_notes : (s code : ℕ) (made : Note) (next : Tunnel) (stage : Stage) → a.link.phase ≡ serving → (a.link.tunnels s).stage ≡ stage
      → Resets l s a.link stage code made next → NotesAt start l before (reset s code made)
  reset_notes s code made next malformed at is resets =
      inl (answer_note s 0 None made at (note_at s malformed is) resets.1, failed_is s ∙ ap tunnel.is_failed is)
  reset_notes s code made next (ended why) at is resets =
      inr (
        why,
        ((life_at s (ended why) is).life, end_is s why made (note_at s (ended why) is) resets.2, ended_first s resets.0.0 resets.0.1),
      )
  reset_notes s code made next unasked at is resets = absurd resets
  reset_notes s code made next (requested headers end) at is resets = absurd resets
  reset_notes s code made next (refusing status target) at is resets = absurd resets
  reset_notes s code made next due at is resets = absurd resets
  reset_notes s code made next opening at is resets = absurd resets
  reset_notes s code made next accepting at is resets = absurd resets
  reset_notes s code made next live at is resets = absurd resets
  reset_notes s code made next (failed why) at is resets = absurd resets
  reset_notes s code made next (over why) at is resets = absurd resets
  reset_notes s code made next gone at is resets = absurd resets

  serves_off : is_serving a.link.phase ≡ false → course_of before ≢ serves
  serves_off off = serves_not a.link.phase a.link.conn before off (all_course l start a before stands)

  no_status : (s : ℕ) (why : Cause) (on mine : Bool) → is_serving a.link.phase ≡ on → own_side_open a.link.conn s ≡ mine
      → cond (on && mine) (failure_status why) None ≡ None → PutsNoStatus before s why
  no_status s why true true on mine silent = inl silent
  no_status s why true false on mine silent = inr (inr (history l start a before stands, mine))
  no_status s why false mine off side silent = inr (inl (serves_off off))

  no_code : (s : ℕ) (why : Cause) (on either : Bool) → is_serving a.link.phase ≡ on
      → ((sides a.link.conn s).own || (sides a.link.conn s).peer) ≡ either
      → cond (on && either) (end_code why) None ≡ None → PutsNoCode before s why
  no_code s why true true on either silent = inl silent
  no_code s why true false on either silent = inr (inr (history l start a before stands, either))
  no_code s why false either off side silent = inr (inl (serves_off off))

  left_notes : (s : ℕ) (made : Option Note) (next : Tunnel) (stage : Stage) → (a.link.tunnels s).stage ≡ stage
      → Leaves l s a.link stage made next → NotesSilence start l before s made
  left_notes s made next (failed why) is leaves =
      subst (NotesSilence start l before s) (sym leaves.2) (
        why,
        (life_at s (failed why) is).life,
        failed_is s ∙ ap tunnel.is_failed is,
        no_status s why (is_serving a.link.phase) (own_side_open a.link.conn s) refl refl leaves.1,
        failed_first s leaves.0,
      )
  left_notes s made next (ended why) is leaves =
      subst (NotesSilence start l before s) (sym leaves.2) (
        why,
        ((life_at s (ended why) is).life, end_is s why _ (note_at s (ended why) is) refl, ended_first s leaves.0.0 leaves.0.1),
        no_code s why (is_serving a.link.phase) ((sides a.link.conn s).own || (sides a.link.conn s).peer) refl refl leaves.1,
      )
  left_notes s made next unasked is leaves = absurd leaves
  left_notes s made next (requested headers end) is leaves = absurd leaves
  left_notes s made next (refusing status target) is leaves = absurd leaves
  left_notes s made next malformed is leaves = absurd leaves
  left_notes s made next due is leaves = absurd leaves
  left_notes s made next opening is leaves = absurd leaves
  left_notes s made next accepting is leaves = absurd leaves
  left_notes s made next live is leaves = absurd leaves
  left_notes s made next (over why) is leaves = absurd leaves
  left_notes s made next gone is leaves = absurd leaves

  -- ENTRIES OF THE LINK

  link_noted : (z : Entry) → MayCome l a.link z → LinkNoted start before z
  link_noted (e.Accepted k d) may =
      let early : AreUnasked a.link = subst (λ (ph : Phase). KnowsBy ph before a.link) may.1 (all_admit l start a before stands).knows in
      noted (λ s. ap is_unanswered (early s))
  link_noted (e.Came k bytes) (is, (inl quiet, wanted), octets, some, most) = noted quiet.0.calm.answered
  link_noted (e.Came k bytes) (is, (inr quiet, wanted), octets, some, most) = noted quiet.0.calm.answered
  link_noted (e.Ended k) (is, (inl quiet, wanted)) = noted quiet.0.calm.answered
  link_noted (e.Ended k) (is, (inr quiet, wanted)) = noted quiet.0.calm.answered
  link_noted (e.Went k bytes) (is, inl quiet, some, rest) = noted quiet.0.calm.answered
  link_noted (e.Went k bytes) (is, inr fault, some, rest) = noted fault.0.answered
  link_noted (e.Broke k) (is, inl quiet) = noted quiet.0.calm.answered
  link_noted (e.Broke k) (is, inr (inl quiet)) = noted quiet.0.calm.answered
  link_noted (e.Broke k) (is, inr (inr fault)) = noted fault.0.answered
  link_noted (e.Balked (way.Read k)) (is, (inl quiet, wanted)) = noted quiet.0.calm.answered
  link_noted (e.Balked (way.Read k)) (is, (inr quiet, wanted)) = noted quiet.0.calm.answered
  link_noted (e.Balked (way.Write k)) (is, inl quiet, some) = noted quiet.0.calm.answered
  link_noted (e.Balked (way.Write k)) (is, inr fault, some) = noted fault.0.answered
  link_noted (e.Balked (way.Listen d to listening)) may = absurd may
  link_noted (e.Balked (way.Accept d)) may = absurd may
  link_noted (e.Balked (way.Look k)) may = absurd may
  link_noted (e.Balked (way.Finish k)) may = absurd may
  link_noted (e.Closed k why) may = λ s.
      let all = all_say new_streams l start a before stands in
      placeless_so (a.link.tunnels s).stage (noting_of s before) (a.link.tunnels s).target (may.1.answered s)
      (close_late start a before all a.link.phase all.late why may.2 s) (notes s)
  link_noted (e.Dialled k to why) may = absurd may
  link_noted (e.DialFailed to why) may = absurd may
  link_noted (e.Opened k) may = absurd may
  link_noted (e.Shut k) may = absurd may
  link_noted e.Tick may = absurd may
  link_noted (e.Wait ready how) may = absurd may

next : (l : ℕ) (start : Resources) (a b : Local) (before : List Part) (p : Part) → StandsFor l start a before → Steps l a p b
    → NotesAt start l before p
next l start a b before (accepted s made) stands steps =
    answer_note l start a before stands s 200 (Some (a.link.tunnels s).target) made steps.0
    (note_at l start a before stands s accepting steps.1) steps.2
next l start a b before (refused s status resets made) stands steps =
    refusal_notes l start a before stands s status made steps.1 (a.link.tunnels s).stage steps.0 refl steps.2
next l start a b before (reset s code made) stands steps =
    reset_notes l start a before stands s code made steps.1 (a.link.tunnels s).stage steps.0 refl steps.2
next l start a b before (left s made) stands steps =
    left_notes l start a before stands s made steps.0 (a.link.tunnels s).stage refl steps.1
next l start a b before (done s made) stands steps =
    end_is l start a before stands s cause.Done made (note_at l start a before stands s live steps.0.2) steps.2
next l start a b before (looked ps told headers) stands steps = noted l start a before stands steps.1
next l start a b before (entry z) stands steps = link_noted l start a before stands z steps.0
next l start a b before (up s z) stands steps =
    noted l start a before stands (up_answered l s a.link (a.link.tunnels s) z steps.0)
next l start a b before welcomed stands steps = tt
next l start a b before crowded stands steps = tt
next l start a b before lacked stands steps = tt
next l start a b before (fronted seen) stands steps = tt
next l start a b before (misfronted fault) stands steps = tt
next l start a b before (decided s full given) stands steps = tt
next l start a b before (put s bytes) stands steps = tt
next l start a b before (finished s) stands steps = tt
next l start a b before (credited s n) stands steps = tt
next l start a b before (applied r) stands steps = tt
next l start a b before (stopped why) stands steps = tt

pub notes_told : RunsNote
notes_told l start a parts stands = at_parts l start (NotesAt start l) (next l start) a parts stands
