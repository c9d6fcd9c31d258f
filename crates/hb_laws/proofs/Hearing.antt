-- Runs are refused in which the proxy doesn't hear what ends a link to the control plane.
use Rattle.std.proofs.Common.{◌≡◌, ℕ, ◌==◌, ◌||◌, Bool, true, false, if◌then◌else◌, List, [], ◌∷◌, ◌++◌, Option, Some, None, refl, ap, sym, ◌∙◌, subst, arith}
use Rattle.std.specs.List.{list_any}
use Rattle.std.proofs.lemmas.Bool.{false≢true, eq-eqb}
use Rattle.std.proofs.lemmas.List.{append-nil, append_assoc}
use Rattle.std.proofs.lemmas.List.Concat.{flat_map-append}
use Rattle.std.proofs.lemmas.List.Folds.{list_any-append}
use Rattle.hb_base.specs.declared.cause.Cause.{Cause}
use Rattle.hb_conn.specs.Faults.{faulted}
use Rattle.hb_conn.specs.Handling.{HandlesBy}
use Rattle.hb_conn.specs.Places.{is_misplaced}
use Rattle.hb_conn.specs.declared.found.Found.{Found}
use Rattle.hb_conn.specs.declared.found.Found.TheVariants as found
use Rattle.hb_conn.specs.declared.glance.Glance.TheVariants.{GoAway}
use Rattle.hb_conn.specs.declared.machine.Core.{Core}
use Rattle.hb_frames.specs.Frames.{HasNoFrame, AreFrames}
use Rattle.hb_frames.specs.RawFrame.{RawFrame, Spells}
use Rattle.hb_frames.proofs.FrameLists.{one_reading}
use Rattle.hb_hpack.specs.declared.header.Header.{Header}
use Rattle.hb_history.specs.Calls.{in_list}
use Rattle.hb_history.specs.Heard.{is_heard, ends_stream}
use Rattle.hb_history.specs.Points as history
use Rattle.hb_history.proofs.Connections.{of_core}
use Rattle.hb_world.specs.Trace.{lives, recv}
use Rattle.hb_model.proofs.Heard.{silent_unheard}
use Rattle.hb_model.specs.Calls.{is_control_of, is_opened_of}
use Rattle.hb_model.specs.Discovery.{status_of, end_by_headers, answered_by}
use Rattle.hb_model.specs.Ends.{end_in, answered_in, first_of, first_end}
use Rattle.hb_model.specs.Point as point
use Rattle.hb_model.specs.Point.{looked, moves, telling, tellings}
use Rattle.hb_proxy.proofs.Doors.{doors_tell_none}
use Rattle.hb_proxy.specs.Doors.{without_doors}
use Rattle.hb_proxy.specs.Points.{of_control, entry_in, entries, control_in, control_of}
use Rattle.hb_proxy.proofs.Projection.{control_runs}
use Rattle.hb_laws.specs.Refused.{waits, settings_octets}
use Rattle.hb_laws.specs.RefusedHearing.{HearsNothingOf, HearsNoGoaway, HearsNoReset, HearsNoNotFound, HearsNoEnd, HearsNoEndOfHeaders, KeepsAfter, KeepsReset, KeepsEndOfStream, KeepsEndAtOnce, KeepsNotFound}
use Rattle.hb_laws.proofs.Doors.{without_append, any_without, came_without}
use Rattle.hb_laws.proofs.Lawful.{goes_at, same_came, inner_at, looked_at, heard_at, lasts_at}
use Rattle.hb_laws.proofs.Places.{place}
use Rattle.hb_laws.proofs.RefusedTraces.{settings, spells_settings}
use Rattle.hb_laws.proofs.Tells.{told}

-- whatever a connection is, it tells of a GOAWAY
goaway_told : (b : Bool) (c new : Core) (last : ℕ) (bytes : List ℕ) → HandlesBy b c (GoAway last) bytes new found.Silent → ⊥
unfolding faulted
goaway_told true c new last bytes gives = absurd (let told = gives.1 in cc)
goaway_told false c new last bytes gives = absurd (let told = gives.1 in cc)

silent_goaway : (c new : Core) (bytes : List ℕ) → HandlesBy (is_misplaced c (GoAway 0)) c (GoAway 0) bytes new found.Silent → ⊥
silent_goaway c new bytes handles = goaway_told (is_misplaced c (GoAway 0)) c new 0 bytes handles

pub hears_no_goaway : HearsNoGoaway
hears_no_goaway g trace l headers before behind h are =
    let at = goes_at g trace h before _ behind are in
    let look = at.steps.1.2.found.runs in
    of_core silent_goaway (at.machine.control.links l).conn look.0 _ look.1.1

-- while a stream goes on it tells of each frame of it
hears : (f : RawFrame) → is_heard f ≡ true → HearsNothingOf f
hears f heard g trace l headers before behind h are =
    let at = goes_at g trace h before _ behind are in
    let runs = control_runs g at.machine before at.run in
    false≢true (sym (silent_unheard g at.machine.control at.steps.0 (control_of before) l f headers runs at.steps.1) ∙ heard)

pub hears_no_reset : HearsNoReset
hears_no_reset code = hears _ refl

pub hears_no_not_found : HearsNoNotFound
hears_no_not_found = hears _ refl

pub hears_no_end : HearsNoEnd
hears_no_end bytes = hears _ refl

pub hears_no_end_of_headers : HearsNoEndOfHeaders
hears_no_end_of_headers block = hears _ refl

-- no octets have no frame
no_frame : HasNoFrame []
no_frame f spelled more spells is =
    absurd (let none = is ∙ ap (λ (xs : List ℕ). xs ++ more) spells.whole in cc)

two_frames : (f g : RawFrame) (a b : List ℕ) → Spells f a → Spells g b → AreFrames (a ++ b) (f ∷ g ∷ []) []
two_frames f g a b first second =
    record { joined = (a, b, first, refl, (b, [], second, sym (append-nil b), refl)); partial = no_frame }

keeps_after : (f : RawFrame) (octets : List ℕ) → Spells f octets → ends_stream f ≡ true → KeepsAfter octets
unfolding settings
keeps_after f octets spells ends g before after h control alive opened came =
    let s = place h.points (without_doors before) waits (without_doors after) (sym h.trace_is ∙ without_append before (waits ∷ after)) in
    let is_control = ap (list_any (is_control_of 1)) s.before_is ∙ any_without (is_control_of 1) (λ w. refl) before ∙ control in
    let living = ap (lives 1) s.before_is ∙ (doors_tell_none before).lives 1 ∙ alive in
    let is_open = ap (list_any (is_opened_of 1)) s.before_is ∙ any_without (is_opened_of 1) (λ w. refl) before ∙ opened in
    let looked = looked_at g _ h s.front s.p s.rest _ _ s.points_are s.is 1 is_control living is_open in
    let heard = heard_at g _ h s.front s.p s.rest _ _ s.points_are s.is 1 is_control living is_open in
    let bytes = sym (same_came g _ h s.front (s.p ∷ s.rest) s.points_are 1 is_control) ∙ ap (recv 1) s.before_is
    ∙ came_without 1 before ∙ came in
    let got = history.frames_got (moves 1 (control_of s.front)) in
    let are = subst (λ (bs : List ℕ). AreFrames bs got looked.held) bytes looked.came in
    let same = (one_reading (settings_octets ++ octets) looked.held [] got (settings ∷ f ∷ []) are
    (two_frames settings f settings_octets octets spells_settings spells)).0 in
    let some : list_any ends_stream (settings ∷ f ∷ []) ≡ true = ap (λ (b : Bool). b || false) ends in
    false≢true (sym heard ∙ ap (list_any ends_stream) same ∙ some)

pub keeps_reset : KeepsReset
keeps_reset =
    keeps_after (record { kind = 3; flags = 0; stream = 1; payload = 0 ∷ 0 ∷ 0 ∷ 8 ∷ [] }) _
    (record {
      fits = record { kind = omega arith; flags = omega arith; stream = omega arith; size = omega arith };
      reserved = 0;
      bit = omega arith;
      whole = refl;
    }) refl

pub keeps_end_of_stream : KeepsEndOfStream
keeps_end_of_stream =
    keeps_after (record { kind = 0; flags = 1; stream = 1; payload = [] }) _
    (record {
      fits = record { kind = omega arith; flags = omega arith; stream = omega arith; size = omega arith };
      reserved = 0;
      bit = omega arith;
      whole = refl;
    }) refl

pub keeps_end_at_once : KeepsEndAtOnce
keeps_end_at_once =
    keeps_after (record { kind = 1; flags = 5; stream = 1; payload = 136 ∷ [] }) _
    (record {
      fits = record { kind = omega arith; flags = omega arith; stream = omega arith; size = omega arith };
      reserved = 0;
      bit = omega arith;
      whole = refl;
    }) refl

-- a link of which nothing was told ends with a status 404
nothing_in : {X : Type 0} (xs ys : List X) → xs ++ ys ≡ [] → (xs ≡ []) × (ys ≡ [])
nothing_in [] ys is = (refl, is)
nothing_in (x ∷ xs) ys is = absurd cc

silent_answer : (headers : List Header) (told : Found) → in_list told ≡ [] → answered_by false headers told ≡ false
silent_answer headers (found.Opened s end) none = absurd cc
silent_answer headers _ none = refl

unanswered_by : (b : Bool) (headers : List Header) (told : Found) → (if b then in_list told else []) ≡ []
    → (if b then answered_by false headers told else false) ≡ false
unanswered_by true headers told none = silent_answer headers told none
unanswered_by false headers told none = refl

unanswered : (l : ℕ) (p : point.Point) → telling l p ≡ [] → answered_in l false p ≡ false
unanswered l (looked k looks told headers) none = unanswered_by (k == l) headers told none
unanswered l _ none = refl

ends_with : (l : ℕ) (looks : List history.Point) (headers : List Header) (before rest : List point.Point) → tellings l before ≡ []
    → status_of headers ≡ Some 404
    → first_end l false (before ++ looked l looks (found.Opened 1 false) headers ∷ rest) ≡ None → ⊥
ends_with l looks headers [] rest none status lasts = by (l == l) (eq-eqb l l refl) lasts
  where
    by : (b : Bool) → b ≡ true
        → first_of (if b then end_by_headers false (status_of headers) false else None)
        (first_end l (if b then answered_by false headers (found.Opened 1 false) else false) rest) ≡ None → ⊥
    by false is lasts = false≢true is
    by true is lasts =
        absurd (let some = ap (λ (o : Option ℕ). first_of (end_by_headers false o false)
        (first_end l (answered_by false headers (found.Opened 1 false)) rest)) (sym status) ∙ lasts in cc)
ends_with l looks headers (p ∷ before) rest none status lasts =
    by (end_in l false p) refl (λ later. ends_with l looks headers before rest both.1 status later)
  where
    both : (telling l p ≡ []) × (tellings l before ≡ [])
    both = nothing_in (telling l p) (tellings l before) none

    all : List point.Point
    all = before ++ looked l looks (found.Opened 1 false) headers ∷ rest

    by : (o : Option Cause) → end_in l false p ≡ o → (first_end l false all ≡ None → ⊥) → ⊥
    by (Some why) here later =
        absurd (let ends = sym (ap (λ (o : Option Cause). first_of o (first_end l (answered_in l false p) all)) here) ∙ lasts in cc)
    by None here later =
        later (ap (λ (b : Bool). first_end l b all) (sym (unanswered l p both.0))
        ∙ sym (ap (λ (o : Option Cause). first_of o (first_end l (answered_in l false p) all)) here) ∙ lasts)

pub keeps_not_found : KeepsNotFound
keeps_not_found g trace l looks headers before between behind h are none status alive =
    let p = looked l looks (found.Opened 1 false) headers in
    let front = before ++ of_control p ∷ between in
    let wait = of_control (point.entry waits) in
    let at = are ∙ sym (append_assoc before (of_control p ∷ between) (wait ∷ behind)) in
    let control : list_any (is_control_of l) (entries front) ≡ true =
    ap (list_any (is_control_of l)) (flat_map-append entry_in before (of_control p ∷ between))
    ∙ list_any-append (is_control_of l) (entries before) (entries between)
    ∙ ap (λ (b : Bool). b || list_any (is_control_of l) (entries between))
    (told (is_control_of l) before (inner_at g trace h before p (between ++ wait ∷ behind) are).control) in
    ends_with l looks headers (control_of before) (control_of between) none status
    (sym (ap (first_end l false) (flat_map-append control_in before (of_control p ∷ between)))
    ∙ lasts_at g trace h front wait behind _ _ at refl l control alive)
