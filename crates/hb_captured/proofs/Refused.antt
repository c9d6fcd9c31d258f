-- What the laws make of small runs.
use Rattle.std.proofs.Common.{◌≡◌, ◌≢◌, ⊎_elim, ℕ, List, [], ◌∷◌, ◌++◌, length, drop, Some, None, refl, ap, sym, ◌∙◌, subst, arith}
use Rattle.std.proofs.lemmas.Bool.{false≢true}
use Rattle.std.proofs.lemmas.List.{append-nil}
use Rattle.std.proofs.Math.Seq.{drop-append_seam}
use Rattle.hb_base.specs.declared.cause.Cause.{Cause}
use Rattle.hb_base.specs.declared.cause.Cause.TheVariants as cause
use Rattle.hb_base.specs.declared.door.Door.TheVariants as door
use Rattle.hb_base.specs.declared.door.Why.TheVariants as whys
use Rattle.hb_base.specs.declared.peer.Peer.{Peer}
use Rattle.hb_held.specs.Outcome.{after_response}
use Rattle.hb_table.specs.declared.judgement.Judged.{Judged}
use Rattle.hb_table.specs.declared.judgement.Judged.TheVariants.{Admitted, Unknown, Denied}
use Rattle.hb_world.specs.declared.entry.Entry.TheVariants as e
use Rattle.hb_captured.specs.Access.{AccessAt}
use Rattle.hb_captured.specs.Answer.{aims, straight_to, address_of, refuses, unrouted, by_verdict, verdict_on}
use Rattle.hb_captured.specs.Captured.{peer_noted}
use Rattle.hb_captured.specs.Ends.{GoesOn, EndsAt}
use Rattle.hb_captured.specs.Notes.{FailsWith, NotesAt}
use Rattle.hb_captured.specs.Part.{Part, entry, up, welcomed, fronted, refused, accepted, left, done}
use Rattle.hb_captured.specs.Refused.{dialled, lived, updated, WritesBehind, WritesBackBehind, ReadsBehind, ClosesForAnother, ClosesAdmitted, ShutsWaiting, ShutsEarly, ShutsBackWaiting, WritesHeader, CountsHeader, DropsFirst, DoneWaiting, KeepsIdentity, DialsElsewhere, DialsTwice, DialsUnasked, LeavesOutDial, InventsHeader, DialsRefused, RefusesAdmitted, NotesTwice, EndsUnaccepted, EndsTwice, ClosesUnnoted, LeavesOut502, TriesDone, LeavesOpen}
use Rattle.hb_captured.specs.Relay.{RelaysAt}
use Rattle.hb_captured.specs.Runs.{failure_status}
use Rattle.hb_captured.specs.Settled.{SettledAt}
use Rattle.hb_captured.specs.Sides as sides
use Rattle.hb_captured.specs.Sides.{lives, ends_judged, judged_in, AtEach}
use Rattle.hb_captured.specs.Verdicts.{VerdictAt}
use Rattle.hb_captured.proofs.Answer.{dial_of}

-- the law at the last place
pub last : (P : List Part → Part → Type 0) (before : List Part) (p : Part) → AtEach P (before ++ p ∷ []) → P before p
last P before p each = each before p [] refl

-- behind an update that no longer admits it
judged_ends : (j : Judged) → j ≢ Admitted → ends_judged j lives ≡ sides.over cause.Revoked
judged_ends Admitted not = absurd (not refl)
judged_ends Unknown not = refl
judged_ends Denied not = refl

pub writes_behind : WritesBehind
writes_behind start bytes seen note r byte not law =
    let at = last (AccessAt start) (updated bytes seen note r) (up (e.Went 3 (byte ∷ []))) law refl in
    let same : seen ≡ at.seen = (let told : Some seen ≡ Some at.seen = at.told in cc) in
    not (ap (judged_in (after_response start r)) same ∙ at.admitted)

pub writes_back_behind : WritesBackBehind
writes_back_behind start bytes seen note r byte not law =
    let at = last (AccessAt start) (updated bytes seen note r) (entry (e.Went 2 (byte ∷ []))) law refl in
    let same : seen ≡ at.seen = (let told : Some seen ≡ Some at.seen = at.told in cc) in
    not (ap (judged_in (after_response start r)) same ∙ at.admitted)

pub reads_behind : ReadsBehind
reads_behind start bytes seen note r byte not law =
    subst GoesOn (judged_ends (judged_in (after_response start r) seen) not)
    (last (EndsAt 2 start) (updated bytes seen note r) (entry (e.Came 2 (byte ∷ []))) law).1

pub closes_for_another : ClosesForAnother
closes_for_another start bytes seen note r not law =
    let at = last (EndsAt 2 start) (updated bytes seen note r) (up (e.Closed 3 cause.Done)) law in
    let other : sides.over cause.Revoked ≡ sides.over cause.Done =
    sym (judged_ends (judged_in (after_response start r) seen) not) ∙ at.0 in
    cc

pub closes_admitted : ClosesAdmitted
closes_admitted start bytes seen note r why is law =
    let at = last (EndsAt 2 start) (updated bytes seen note r) (entry (e.Closed 2 why)) law in
    let other : lives ≡ sides.over why = sym (ap (λ j. ends_judged j lives) is) ∙ at.1 in cc

-- behind a header stands what stands behind its length
pub behind_header : (header rest : List ℕ) (n : ℕ) → length header ≡ n → drop n ((header ++ rest) ++ []) ≡ rest
behind_header header rest n is =
    ap (drop n) (append-nil (header ++ rest)) ∙ ap (λ (m : ℕ). drop m (header ++ rest)) (sym is) ∙ drop-append_seam header rest

none_behind : (header : List ℕ) (n : ℕ) → length header ≡ n → drop n (header ++ []) ≡ []
none_behind header n is = ap (λ (m : ℕ). drop m (header ++ [])) (sym is) ∙ drop-append_seam header []

pub shuts_waiting : ShutsWaiting
shuts_waiting start seen note header byte is law =
    let at = last (RelaysAt start) (lived (header ++ byte ∷ []) seen note ++ entry (e.Ended 2) ∷ []) (up (e.Shut 3)) law.places in
    let none : [] ≡ byte ∷ [] = at.1.whole ∙ behind_header header (byte ∷ []) seen.length is in cc

pub shuts_early : ShutsEarly
shuts_early start bytes seen note law =
    let at = last (RelaysAt start) (lived bytes seen note) (up (e.Shut 3)) law.places in false≢true at.1.ended

pub shuts_back_waiting : ShutsBackWaiting
shuts_back_waiting start bytes seen note byte law =
    let at = last (RelaysAt start) (lived bytes seen note ++ up (e.Came 3 (byte ∷ [])) ∷ up (e.Ended 3) ∷ []) (entry (e.Shut 2))
    law.places in
    let none : [] ≡ byte ∷ [] = at.1.whole in cc

pub writes_header : WritesHeader
writes_header start seen note header byte is law =
    let none : [] ≡ byte ∷ law.ups.rest = sym (none_behind header seen.length is) ∙ law.ups.front in cc

pub counts_header : CountsHeader
counts_header start bytes seen note law =
    let at = last (NotesAt start 2) (lived bytes seen note) (done _) law in
    let counts = at.is in absurd (cc)

pub drops_first : DropsFirst
drops_first start seen note header first second is not law =
    let goes : first ∷ second ∷ [] ≡ second ∷ law.ups.rest =
    sym (behind_header header (first ∷ second ∷ []) seen.length is) ∙ law.ups.front in
    not (cc)

pub done_waiting : DoneWaiting
done_waiting start bytes seen note made byte law =
    let at = last (EndsAt 2 start) (lived bytes seen note ++ up (e.Came 3 (byte ∷ [])) ∷ up (e.Ended 3) ∷ entry (e.Ended 2) ∷ [])
    (done made)
    law in
    let none : [] ≡ byte ∷ [] = at.1.down in cc

pub keeps_identity : KeepsIdentity
keeps_identity start bytes seen who law =
    let at = last (NotesAt start 2) (dialled bytes seen ++ up (e.Opened 3) ∷ []) (accepted _) law in
    let peer : record { ip = seen.source.ip; identity = Some who } ≡ peer_noted door.Plain at.seen = (let is = at.is in cc) in
    let identity : Some who ≡ None = ap (λ (p : Peer). p.identity) peer in
    cc

pub dials_elsewhere : DialsElsewhere
dials_elsewhere start bytes seen to not law =
    let at = last (VerdictAt 2 start) (entry (e.Came 2 bytes) ∷ fronted seen unrouted (straight_to seen.destination None) ∷ [])
    (up (e.Dialled 3 to (whys.Plain 2))) law in
    let asked : Some (straight_to seen.destination None) ≡ Some at.dial.aim = at.dial.asked in
    let aim : straight_to seen.destination None ≡ at.dial.aim = cc in
    not (ap address_of aim ∙ sym at.dial.there)

pub dials_twice : DialsTwice
dials_twice start bytes seen law =
    let at = last (VerdictAt 2 start) (dialled bytes seen) (up (e.Dialled 4 seen.destination (whys.Plain 2))) law in
    let zero_up : 3 ≡ 0 = at.dial.undialled in absurd (omega (arith, zero_up))

pub dials_unasked : DialsUnasked
dials_unasked start to law =
    let at = last (EndsAt 2 start) (entry (e.Accepted 2 door.Plain) ∷ welcomed ∷ []) (up (e.Dialled 3 to (whys.Plain 2))) law in
    let is : sides.fronting ≡ sides.pending = at in cc

pub leaves_out_dial : LeavesOutDial
leaves_out_dial start bytes more seen law =
    ⊎_elim (λ up. up refl) (λ gate. gate refl)
    (last (SettledAt start)
    (entry (e.Accepted 2 door.Plain) ∷ welcomed ∷ entry (e.Came 2 bytes)
    ∷ fronted seen unrouted (straight_to seen.destination None) ∷ [])
    (entry (e.Came 2 more)) law).some

pub invents_header : InventsHeader
invents_header start seen law =
    let at = last (VerdictAt 2 start) (entry (e.Accepted 2 door.Plain) ∷ welcomed ∷ [])
    (fronted seen unrouted (straight_to seen.destination None)) law in
    let none = at.0.4 in absurd (cc)

pub dials_refused : DialsRefused
dials_refused start bytes seen not law =
    not (dial_of (verdict_on start seen) (straight_to seen.destination None)
    (last (VerdictAt 2 start) (entry (e.Came 2 bytes) ∷ []) (fronted seen unrouted (straight_to seen.destination None)) law).1)

pub refuses_admitted : RefusesAdmitted
refuses_admitted start bytes seen note is law =
    let at = last (VerdictAt 2 start) (entry (e.Came 2 bytes) ∷ []) (refused seen unrouted (cause.Refused 404) 404 note) law in
    let both : aims (straight_to seen.destination None) ≡ refuses (cause.Refused 404) 404 = sym (ap by_verdict is) ∙ at.1 in cc

pub notes_twice : NotesTwice
notes_twice start bytes seen note again law =
    let due = (last (NotesAt start 2) (lived bytes seen note) (accepted again) law).due in absurd (cc)

pub ends_unaccepted : EndsUnaccepted
ends_unaccepted start bytes seen made law =
    let due = (last (NotesAt start 2) (dialled bytes seen) (done made) law).due in absurd (cc)

pub ends_twice : EndsTwice
ends_twice start bytes seen note first second law =
    let due = (last (NotesAt start 2) (lived bytes seen note ++ done first ∷ []) (done second) law).due in absurd (cc)

pub closes_unnoted : ClosesUnnoted
closes_unnoted start bytes seen note law =
    let due = last (SettledAt start) (lived bytes seen note ++ up (e.Broke 3) ∷ []) (up (e.Closed 3 cause.UpFault)) law in absurd (cc)

pub leaves_out_502 : LeavesOut502
leaves_out_502 start bytes seen law =
    let at = last (NotesAt start 2) (dialled bytes seen ++ up (e.Broke 3) ∷ []) (left None) law in
    let why : cause.UpFault ≡ at.why = (let ended : sides.over cause.UpFault ≡ sides.over at.why = at.ended in cc) in
    subst (λ (c : Cause). FailsWith 2 (dialled bytes seen ++ up (e.Broke 3) ∷ []) (failure_status c) None) (sym why) at.leaves

pub tries_done : TriesDone
tries_done start header seen note is law =
    ((last (SettledAt start) (lived header seen note ++ entry (e.Ended 2) ∷ up (e.Ended 3) ∷ []) (entry (e.Broke 2)) law).1 refl).1
    (record { ended = refl; up_ended = refl; up = sym (none_behind header seen.length is); down = refl })

pub leaves_open : LeavesOpen
leaves_open start header seen note byte is law =
    false≢true (((last (SettledAt start) (lived header seen note ++ entry (e.Ended 2) ∷ []) (up (e.Came 3 (byte ∷ []))) law).1 refl).0
    refl (sym (none_behind header seen.length is)))
