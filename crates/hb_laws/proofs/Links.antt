-- What the parts of an inbound link tell, the trace tells; and for which causes a link is closed.
use Rattle.std.proofs.Common.{◌≡◌, ℕ, ◌==◌, Bool, true, false, cond, List, [], ◌∷◌, fold, refl, ap, sym, ◌∙◌}
use Rattle.std.specs.List.{list_any, flat_map}
use Rattle.std.proofs.lemmas.Bool.{false≢true}
use Rattle.std.proofs.lemmas.List.Folds.{list_any-append}
use Rattle.hb_base.specs.declared.cause.Cause.{Cause}
use Rattle.hb_base.specs.declared.cause.Cause.TheVariants as cause
use Rattle.hb_conn.specs.Observed.{streams_open}
use Rattle.hb_conn.specs.declared.found.Found.{Found}
use Rattle.hb_conn.specs.declared.found.Found.TheVariants as found
use Rattle.hb_front.specs.Faults.{number_of}
use Rattle.hb_inbound.specs.Closes as closes
use Rattle.hb_inbound.specs.Closes.{Course, unborn, arriving, fronting, serves, hung_up, faulted, over, closed, course_by, course_entry, course_told, course_of, ClosesBy}
use Rattle.hb_inbound.specs.Part as part
use Rattle.hb_inbound.specs.Part.{Part}
use Rattle.hb_model.proofs.Grown.{one_more}
use Rattle.hb_model.specs.Inner.{is_stop}
use Rattle.hb_model.specs.Point as point
use Rattle.hb_model.specs.declared.config.NodeConfig.{NodeConfig}
use Rattle.hb_world.specs.declared.entry.Entry.{Entry}
use Rattle.hb_world.specs.declared.entry.Entry.TheVariants as e
use Rattle.hb_proxy.specs.Machine.{Machine}
use Rattle.hb_proxy.specs.Points.{Point, of_control, of_link, of_plain, of_gate, of_stream, entry_in, entries, control_in, control_of, part_in, parts_of}
use Rattle.hb_proxy.specs.Runs.{Steps, StandsFor, begins, goes_on}
use Rattle.hb_laws.proofs.Tests.{or_none, none_of_both}

-- a call failed; a part is such a call on the link, or the end of the run
abbrev pub breaks : Entry → Bool
breaks (e.Broke l) = true
breaks _ = false

abbrev pub breaks_part : Part → Bool
breaks_part (part.entry z) = breaks z
breaks_part (part.stopped why) = true
breaks_part _ = false

-- where no point says so while the run goes on, no part that points tell does
module _ {A : Type 0} (told : Point → List A) (says : Entry → Bool) (is : A → Bool)
    (here : (g : NodeConfig) (x y : Machine) (points : List Point) (p : Point) → StandsFor g x points
    → list_any is_stop (control_of points) ≡ false → Steps g x p y → list_any says (entry_in p) ≡ false
    → list_any is_stop (control_in p) ≡ false → list_any is (told p) ≡ false) where
  pub none_told : (g : NodeConfig) (x : Machine) (points : List Point) → StandsFor g x points → list_any says (entries points) ≡ false
      → list_any is_stop (control_of points) ≡ false → list_any is (flat_map told points) ≡ false
  none_told g x points (begins fresh none) whole runs = ap (λ (ps : List Point). list_any is (flat_map told ps)) none
  none_told g y more (goes_on {x = x} {points = points} stands p steps are) whole runs =
      let wholes = none_of_both (list_any says (entries points)) (list_any says (entry_in p))
      (sym (list_any-append says (entries points) (entry_in p)) ∙ sym (ap (list_any says) (ap entries are ∙ one_more entry_in points p))
      ∙ whole) in
      let run = none_of_both (list_any is_stop (control_of points)) (list_any is_stop (control_in p))
      (sym (list_any-append is_stop (control_of points) (control_in p))
      ∙ sym (ap (list_any is_stop) (ap control_of are ∙ one_more control_in points p)) ∙ runs) in
      ap (list_any is) (ap (flat_map told) are ∙ one_more told points p)
      ∙ list_any-append is (flat_map told points) (told p)
      ∙ or_none (list_any is (flat_map told points)) (list_any is (told p))
      (none_told g x points stands wholes.0 run.0) (here g x y points p stands run.0 steps wholes.1 run.1)

pub none_of_one : {A : Type 0} (is : A → Bool) (p : A) (b : Bool) → is p ≡ false → list_any is (cond b (p ∷ []) []) ≡ false
none_of_one is p true none = or_none (is p) false none refl
none_of_one is p false none = refl

-- where no call failed in the trace and the run goes on, no part of a link is one
module _ (l : ℕ) where
  seen_breaks : (q : point.Point) → is_stop q ≡ false → list_any breaks_part (part_in l (of_control q)) ≡ false
  seen_breaks (point.stopped why) none = none
  seen_breaks (point.applied k r) none = refl
  seen_breaks (point.entry z) none = refl
  seen_breaks (point.looked k points told headers) none = refl
  seen_breaks (point.refused k) none = refl
  seen_breaks (point.used k n) none = refl
  seen_breaks (point.put k bytes) none = refl

  here : (g : NodeConfig) (x y : Machine) (p : Point) → Steps g x p y → list_any breaks (entry_in p) ≡ false
      → list_any is_stop (control_in p) ≡ false → list_any breaks_part (part_in l p) ≡ false
  here g x y (of_control q) steps whole runs = seen_breaks q (none_of_both (is_stop q) false runs).0
  here g x y (of_link k (part.stopped why)) steps whole runs = absurd steps.2
  here g x y (of_link k (part.entry z)) steps whole runs =
      none_of_one breaks_part (part.entry z) (k == l) (none_of_both (breaks z) false whole).0
  here g x y (of_link k p) steps whole runs = none_of_one breaks_part p (k == l) refl
  here g x y (of_plain k p) steps whole runs = refl
  here g x y (of_gate n p) steps whole runs = refl
  here g x y (of_stream k n s w) steps whole runs = refl

  pub none_breaks : (g : NodeConfig) (x : Machine) (points : List Point) → StandsFor g x points → list_any breaks (entries points) ≡ false
      → list_any is_stop (control_of points) ≡ false → list_any breaks_part (parts_of l points) ≡ false
  none_breaks = none_told (part_in l) breaks breaks_part (λ g x y points p stands runs. here g x y p)

-- THE CAUSE OF A CLOSE

-- a link broke, and ended for that
abbrev pub is_broken : Course → Bool
is_broken (over cause.Broken) = true
is_broken _ = false

ends_whole : (why : Cause) (course : Course) → is_broken (over why) ≡ false → is_broken course ≡ false
    → is_broken (closes.ends why course) ≡ false
ends_whole why arriving other whole = other
ends_whole why fronting other whole = other
ends_whole why serves other whole = other
ends_whole why _ other whole = whole

writes_whole : (course : Course) → is_broken course ≡ false → is_broken (closes.writes course) ≡ false
writes_whole (faulted code) whole = refl
writes_whole _ whole = whole

hangs_whole : (course : Course) → is_broken course ≡ false → is_broken (closes.hangs_up course) ≡ false
hangs_whole fronting whole = refl
hangs_whole serves whole = refl
hangs_whole _ whole = whole

takes_whole : (course : Course) → is_broken course ≡ false → is_broken (closes.takes_in course) ≡ false
takes_whole arriving whole = refl
takes_whole _ whole = whole

opens_whole : (course : Course) → is_broken course ≡ false → is_broken (closes.opens course) ≡ false
opens_whole fronting whole = refl
opens_whole _ whole = whole

faults_whole : (code : ℕ) (course : Course) → is_broken course ≡ false → is_broken (closes.faults code course) ≡ false
faults_whole code serves whole = refl
faults_whole code _ whole = whole

told_whole : (told : Found) (course : Course) → is_broken course ≡ false → is_broken (course_told told course) ≡ false
told_whole (found.Fault code) course whole = faults_whole code course whole
told_whole _ course whole = whole

entry_whole : (z : Entry) (course : Course) → breaks z ≡ false → is_broken course ≡ false → is_broken (course_entry z course) ≡ false
entry_whole (e.Broke l) course none whole = absurd (false≢true (sym none))
entry_whole (e.Accepted l d) course none whole = refl
entry_whole (e.Ended l) course none whole = hangs_whole course whole
entry_whole (e.Went l bytes) course none whole = writes_whole course whole
entry_whole (e.Closed l why) course none whole = refl
entry_whole _ course none whole = whole

part_whole : (p : Part) (course : Course) → breaks_part p ≡ false → is_broken course ≡ false → is_broken (course_by course p) ≡ false
part_whole (part.entry z) course none whole = entry_whole z course none whole
part_whole (part.stopped why) course none whole = absurd (false≢true (sym none))
part_whole part.welcomed course none whole = takes_whole course whole
part_whole part.crowded course none whole = ends_whole cause.NoRoom course refl whole
part_whole part.lacked course none whole = ends_whole cause.NoMemory course refl whole
part_whole (part.fronted seen) course none whole = opens_whole course whole
part_whole (part.misfronted fault) course none whole = ends_whole (cause.FrontFault (number_of fault)) course refl whole
part_whole (part.looked points told headers) course none whole = told_whole told course whole
part_whole _ course none whole = whole

whole_from : (parts : List Part) (course : Course) → list_any breaks_part parts ≡ false → is_broken course ≡ false
    → is_broken (fold course_by course parts) ≡ false
whole_from [] course none whole = whole
whole_from (p ∷ parts) course none whole =
    let first = none_of_both (breaks_part p) (list_any breaks_part parts) none in
    whole_from parts (course_by course p) first.1 (part_whole p course first.0 whole)

hung_up_whole : (b : Bool) → cause.Broken ≡ cond b cause.Done cause.PeerGone → ⊥
hung_up_whole true is = cc
hung_up_whole false is = cc

-- a link on which no call failed, in a run that goes on, isn't closed as one that broke
pub whole_unbroken : (parts : List Part) → list_any breaks_part parts ≡ false → ClosesBy parts cause.Broken (course_of parts) → ⊥
whole_unbroken parts none = by (course_of parts) (whole_from parts unborn none refl)
  where
    by : (course : Course) → is_broken course ≡ false → ClosesBy parts cause.Broken course → ⊥
    by (over first) whole is = false≢true (sym whole ∙ ap (λ (c : Cause). is_broken (over c)) (sym is))
    by (faulted code) whole is = cc
    by hung_up whole is = hung_up_whole (streams_open is.0.conn == 0) is.1
    by unborn whole is = is
    by arriving whole is = is
    by fronting whole is = is
    by serves whole is = is
    by closed whole is = is
