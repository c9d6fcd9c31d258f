-- Notes that the law refuses, and a run whose notes it lets, proved.
use Rattle.std.proofs.Common.{◌≡◌, inl, inr, ℕ, ◌==◌, Bool, true, false, cond, [], ◌∷◌, ◌++◌, length, Some, None, refl, ap, sym, ◌∙◌, arith}
use Rattle.std.proofs.lemmas.Bool.{false≢true}
use Rattle.std.proofs.lemmas.List.{append-nil, nil_from_length}
use Rattle.hb_base.specs.declared.cause.Cause.{Cause}
use Rattle.hb_base.specs.declared.cause.Cause.TheVariants as cause
use Rattle.hb_base.specs.declared.note.Note.TheVariants as note
use Rattle.hb_base.specs.declared.target.Target.{Target}
use Rattle.hb_frames.specs.RawFrame.{spelling}
use Rattle.hb_kept.specs.Payloads.{payloads}
use Rattle.hb_kept.proofs.Begun.{left_of}
use Rattle.hb_world.specs.declared.entry.Entry.TheVariants as e
use Rattle.hb_inbound.specs.Ends.{none, pending, accepts, life, ended}
use Rattle.hb_inbound.specs.Notes.{no_note, answer, end_of_it, PutsNoStatus, NotesAt}
use Rattle.hb_inbound.specs.NotesRefused.{asked_on, answer_note, accepted_on, NotesUnasked, NotesOther, NotesElsewhere, EndsUnaccepted, EndsAlive, EndsTwice, CountsNoneUp, CountsNoneDown, ReadsUnnoted, ClosesUnnoted, EndsUnnoted, failed_on, LeavesStanding, NotesBoth}
use Rattle.hb_inbound.specs.Part.{entry, up, accepted, refused, left, done}
use Rattle.hb_inbound.specs.RefusedRuns.{peer_in}
use Rattle.hb_inbound.specs.RelayRefused.{one_octet}
use Rattle.hb_inbound.specs.Runs.{counted, failure_status, target_named}
use Rattle.hb_inbound.specs.Sides.{link_went}
use Rattle.hb_inbound.proofs.RefusedRuns.{last, Places, places}
use Rattle.hb_inbound.proofs.RelayRefused.{invents}

pub notes_unasked : NotesUnasked
notes_unasked start l s status resets made law =
    let at = law [] (refused s status resets made) [] refl in
    let none_due = at.0.due in cc

pub notes_other : NotesOther
notes_other start seen headers target status other law =
    let at = last (NotesAt start 2) (asked_on seen headers target) (accepted 1 (answer_note seen headers status)) law in
    other (let both : answer_note seen headers status ≡ note.Verdict 2 1 200 at.peer at.target = at.is in cc)

pub notes_elsewhere : NotesElsewhere
notes_elsewhere start seen headers target named other law =
    let made = note.Verdict 2 1 200 (peer_in seen) named in
    let at = last (NotesAt start 2) (asked_on seen headers target) (accepted 1 made) law in
    let asked : target_named headers ≡ at.target = (let both : answer (target_named headers) ≡ answer at.target = at.due in cc) in
    let told : named ≡ at.target = (let both : made ≡ note.Verdict 2 1 200 at.peer at.target = at.is in cc) in
    other (asked ∙ sym told)

pub ends_unaccepted : EndsUnaccepted
ends_unaccepted start seen headers target made law =
    let at = last (NotesAt start 2) (asked_on seen headers target) (done 1 made) law in
    let asked : answer (target_named headers) ≡ end_of_it = at.due in cc

pub ends_alive : EndsAlive
ends_alive start seen headers target made law =
    let at = last (NotesAt start 2) (accepted_on seen headers target) (left 1 (Some made)) law in
    let alive : life start 1 (accepted_on seen headers target) ≡ ended at.0 = at.1.0 in cc

pub ends_twice : EndsTwice
ends_twice start seen headers target first second law =
    let at = last (NotesAt start 2) (accepted_on seen headers target ++ done 1 first ∷ []) (done 1 second) law in
    let none_due : no_note ≡ end_of_it = at.due in cc

up_is : (first down second downs : ℕ) → note.End 2 1 cause.Done first down ≡ note.End 2 1 cause.Done second downs → first ≡ second
up_is first down second downs is = cc

pub counts_none_up : CountsNoneUp
counts_none_up start seen headers target byte down law =
    let before = accepted_on seen headers target ++ up 1 (e.Went 3 (byte ∷ [])) ∷ [] in
    let at = last (NotesAt start 2) before (done 1 (note.End 2 1 cause.Done 0 down)) law in
    absurd (omega (arith, up_is 0 down 1 (counted (length (payloads 1 at.begun))) at.is))

counts_none : (n : ℕ) → 0 ≡ counted n → n ≡ 0
counts_none n is = omega (arith, is)

pub counts_none_down : CountsNoneDown
counts_none_down start seen headers target ups law =
    let before = accepted_on seen headers target ++ entry (e.Went 2 (spelling one_octet)) ∷ [] in
    let at = last (NotesAt start 2) before (done 1 (note.End 2 1 cause.Done ups 0)) law in
    let down = counted (length (payloads 1 at.begun)) in
    let none_down : 0 ≡ down =
    (let both : note.End 2 1 cause.Done ups 0 ≡ note.End 2 1 cause.Done (counted 0) down = at.is in cc) in
    let empty : payloads 1 at.begun ≡ [] = nil_from_length (payloads 1 at.begun) (counts_none (length (payloads 1 at.begun)) none_down) in
    let is_left = left_of (link_went before) at.begun at.began in
    invents at.begun is_left.owed [] is_left.sent (sym (append-nil (payloads 1 at.begun) ∙ empty))

pub reads_unnoted : ReadsUnnoted
reads_unnoted start seen headers target bytes law =
    let at = last (NotesAt start 2) (accepted_on seen headers target ++ up 1 (e.Broke 3) ∷ []) (entry (e.Came 2 bytes)) law in
    let noted : end_of_it ≡ no_note = at 1 cause.UpFault refl in cc

pub closes_unnoted : ClosesUnnoted
closes_unnoted start seen headers target law =
    let at = last (NotesAt start 2) (accepted_on seen headers target ++ up 1 (e.Broke 3) ∷ []) (up 1 (e.Closed 3 cause.UpFault)) law in
    let noted : end_of_it ≡ no_note = at 1 cause.UpFault refl in cc

pub ends_unnoted : EndsUnnoted
ends_unnoted start seen headers target law =
    let at = last (NotesAt start 2) (accepted_on seen headers target ++ up 1 (e.Broke 3) ∷ []) (left 1 None) law in
    let failed_so : false ≡ true = at.2 in cc

pub leaves_standing : LeavesStanding
leaves_standing start seen points headers target standing law =
    let before = failed_on seen points headers target in
    let at = last (NotesAt start 2) before (left 1 None) law in
    let same : cause.UpFault ≡ at.0 = (let both : ended cause.UpFault ≡ ended at.0 = at.1 in cc) in
    by at.0 same at.3
  where
    by : (why : Cause) → cause.UpFault ≡ why → PutsNoStatus (failed_on seen points headers target) 1 why → ⊥
    by why same (inl none_due) = let none_left = ap failure_status same ∙ none_due in cc
    by why same (inr (inl idle)) = idle refl
    by why same (inr (inr (now, shut))) = false≢true (sym shut ∙ standing now)

alive_on : (b : Bool) (target : Target) (why : Cause)
    → cond b (accepts (cond b (pending target) none)) (cond b (pending target) none) ≡ ended why → ⊥
alive_on true target why is = cc
alive_on false target why is = cc

pub notes_both : NotesBoth
unfolding Places
notes_both start seen headers target byte =
    places (NotesAt start 2) [] _ (
      tt,
      (
        λ s why is. refl,
        (
          tt,
          (
            record { peer = peer_in seen; target = target_named headers; peer_is = refl; due = refl; is = refl },
            (
              λ s why is. absurd (alive_on (1 == s) target why is),
              (record { due = refl; begun = []; began = inl refl; is = refl }, tt),
            ),
          ),
        ),
      ),
    )
