-- A link to a gateway before its birth is as it was made.
use Rattle.std.proofs.Common.{◌≡◌, inl, inr, ℕ, true, List, refl, ap, sym, ◌∙◌}
use Rattle.std.proofs.lemmas.Bool.{false≢true}
use Rattle.hb_base.specs.declared.cause.Cause.{Cause}
use Rattle.hb_conn.specs.declared.found.Found.{Found}
use Rattle.hb_conn.specs.declared.found.Found.TheVariants as found
use Rattle.hb_gateway.specs.Gateway.{Gateway, Phase, unborn, opening, serving, faulted, closing, closed, no_link, broken_by, carries, offers, phase_by, stage_of, stops_by, went_by}
use Rattle.hb_gateway.specs.Hears.{all_hear}
use Rattle.hb_gateway.specs.Part.{Part, entry, dialled, lacked, looked, asks, tells, put, finished, credited, reset, dropped, done, stopped}
use Rattle.hb_gateway.specs.Runs.{IsWritable, MayCome, Steps, StandsFor, begins, entered, goes_on, stopped_for}
use Rattle.hb_gateway.specs.Response.{is_living}
use Rattle.hb_gateway.specs.Calm.{close_due}
use Rattle.hb_world.specs.declared.entry.Entry.{Entry}
use Rattle.hb_world.specs.declared.entry.Entry.TheVariants as e
use Rattle.hb_world.specs.declared.entry.Way.TheVariants as way

-- whatever becomes of one that isn't born comes of one, and leaves it so
abbrev Blank : Gateway → Type 0
Blank x = x.phase ≡ unborn → x ≡ no_link

written : (x : Gateway) → IsWritable x → x.phase ≡ unborn → ⊥
written x (inl quiet) none = let no : serving ≡ unborn = sym quiet.1 ∙ none in cc no
written x (inr faulted_so) none = let no : faulted faulted_so.1 ≡ unborn = sym faulted_so.2 ∙ none in cc no

comes : (g : ℕ) (x : Gateway) (z : Entry) → MayCome g x z → x.phase ≡ unborn → ⊥
comes g x (e.Opened k) may none = let no : opening ≡ unborn = sym may.1.1 ∙ none in cc no
comes g x (e.Came k bytes) may none = let no : serving ≡ unborn = sym may.1.0.1 ∙ none in cc no
comes g x (e.Ended k) may none = let no : serving ≡ unborn = sym may.1.0.1 ∙ none in cc no
comes g x (e.Went k bytes) may none = written x may.1 none
comes g x (e.Broke k) (same, inl quiet) none = let no : opening ≡ unborn = sym quiet.1 ∙ none in cc no
comes g x (e.Broke k) (same, inr may) none = written x may none
comes g x (e.Closed k why) may none = let no = sym (ap close_due none) ∙ may.2 in cc no
comes g x (e.Balked (way.Finish k)) may none = let no : opening ≡ unborn = sym may.1.1 ∙ none in cc no
comes g x (e.Balked (way.Read k)) may none = let no : serving ≡ unborn = sym may.1.0.1 ∙ none in cc no
comes g x (e.Balked (way.Write k)) may none = written x may.1 none
comes g x z may none = may

-- none leads back there
went_back : (phase : Phase) → went_by phase ≡ unborn → phase ≡ unborn
went_back (faulted code) is = absurd (cc is)
went_back unborn is = refl
went_back opening is = is
went_back serving is = is
went_back (closing why) is = is
went_back closed is = is

broken_back : (phase : Phase) → broken_by phase ≡ unborn → phase ≡ unborn
broken_back unborn is = refl
broken_back opening is = absurd (cc is)
broken_back serving is = absurd (cc is)
broken_back (faulted code) is = absurd (cc is)
broken_back (closing why) is = is
broken_back closed is = is

entry_back : (z : Entry) (x : Gateway) → (entered z (all_hear (entry z) x)).phase ≡ unborn → x.phase ≡ unborn
entry_back (e.Opened k) x is = absurd (cc is)
entry_back (e.Came k bytes) x is = is
entry_back (e.Ended k) x is = absurd (cc is)
entry_back (e.Went k bytes) x is = went_back x.phase is
entry_back (e.Broke k) x is = broken_back x.phase is
entry_back (e.Closed k why) x is = absurd (cc is)
entry_back z x is = is

found_back : (phase : Phase) (told : Found) → phase_by phase told ≡ unborn → phase ≡ unborn
found_back phase (found.Fault code) is = absurd (cc is)
found_back phase found.Silent is = is
found_back phase (found.Opened s end) is = is
found_back phase (found.Chunk s end) is = is
found_back phase (found.Ended s) is = is
found_back phase (found.Reset s code) is = is
found_back phase (found.Broken s code) is = is
found_back phase (found.GoneAway last) is = is

stop_back : (why : Cause) (phase : Phase) → stops_by why phase ≡ unborn → phase ≡ unborn
stop_back why unborn is = refl
stop_back why opening is = absurd (cc is)
stop_back why serving is = absurd (cc is)
stop_back why (faulted code) is = is
stop_back why (closing first) is = is
stop_back why closed is = is

not_carried : (x : Gateway) → x ≡ no_link → carries x.phase ≡ true → ⊥
not_carried x is had = false≢true (sym (ap (λ (w : Gateway). carries w.phase) is) ∙ had)

offers_none : (x : Gateway) → x ≡ no_link → offers x ≡ true → ⊥
offers_none x is had = false≢true (sym (ap offers is) ∙ had)

-- so each step from one that is as it was made, to one that isn't born, is none
step_blank : (g : ℕ) (x y : Gateway) (p : Part) → Steps g x p y → Blank x → Blank y
step_blank g x y (entry z) steps blank none =
    absurd (comes g x z steps.0 (entry_back z x (sym (ap (λ (w : Gateway). w.phase) steps.1) ∙ none)))
step_blank g x y (dialled z key) steps blank none = let no = sym (ap (λ (w : Gateway). w.phase) steps.1) ∙ none in absurd (cc no)
step_blank g x y lacked steps blank none = let no = sym (ap (λ (w : Gateway). w.phase) steps.1) ∙ none in absurd (cc no)
step_blank g x y (looked ps told headers) steps blank none =
    let was : x.phase ≡ unborn = found_back x.phase told (sym (ap (λ (w : Gateway). w.phase) steps.6) ∙ none) in
    let no : serving ≡ unborn = sym steps.0 ∙ was in
    absurd (cc no)
step_blank g x y (asks s captured authority) steps blank none =
    absurd (offers_none x (blank (sym (ap (λ (w : Gateway). w.phase) steps.2) ∙ none)) steps.0)
step_blank g x y (tells s heard begun) steps blank none =
    let is = blank (sym (ap (λ (w : Gateway). w.phase) steps.2) ∙ none) in
    let no = sym (ap (λ (w : Gateway). (w.streams s).mail) is) ∙ steps.0 in
    absurd (cc no)
step_blank g x y (put s bytes count) steps blank none =
    absurd (not_carried x (blank (sym (ap (λ (w : Gateway). w.phase) steps.4) ∙ none)) steps.0.0)
step_blank g x y (finished s) steps blank none =
    absurd (not_carried x (blank (sym (ap (λ (w : Gateway). w.phase) steps.3) ∙ none)) steps.0.0)
step_blank g x y (credited s n) steps blank none =
    absurd (not_carried x (blank (sym (ap (λ (w : Gateway). w.phase) steps.2) ∙ none)) steps.0.0)
step_blank g x y (reset s code) steps blank none =
    absurd (not_carried x (blank (sym (ap (λ (w : Gateway). w.phase) steps.2) ∙ none)) steps.0)
step_blank g x y (dropped s begun) steps blank none =
    let is = blank (sym (ap (λ (w : Gateway). w.phase) steps.3) ∙ none) in
    absurd (false≢true (sym (ap (λ (w : Gateway). is_living (stage_of w s)) is) ∙ steps.0))
step_blank g x y (done s begun) steps blank none =
    absurd (not_carried x (blank (sym (ap (λ (w : Gateway). w.phase) steps.3) ∙ none)) steps.0.0.0)
step_blank g x y (stopped why) steps blank none =
    let is = blank (stop_back why x.phase (sym (ap (λ (w : Gateway). w.phase) steps.1) ∙ none)) in
    steps.1 ∙ ap (stopped_for why) is

pub unborn_blank : (g : ℕ) (x : Gateway) (parts : List Part) → StandsFor g x parts → x.phase ≡ unborn → x ≡ no_link
unborn_blank g x parts (begins is none) = λ born. is
unborn_blank g y more (goes_on {x = x} {parts = parts} stands p steps are) = step_blank g x y p steps (unborn_blank g x parts stands)
