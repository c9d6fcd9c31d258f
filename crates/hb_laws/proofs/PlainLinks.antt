-- What a run says of a plain link: for which causes it is closed, and how long its front header is.
use Rattle.std.proofs.Common.{◌≡◌, ℕ, ◌≤◌, ◌==◌, ◌||◌, Bool, true, false, not, cond, List, [], ◌∷◌, ◌++◌, fold, Option, Some, None, refl, ap, sym, ◌∙◌, subst, arith, length-append}
use Rattle.std.specs.List.{list_any}
use Rattle.std.proofs.lemmas.Bool.{cond_both, false≢true}
use Rattle.std.proofs.lemmas.List.{append_assoc}
use Rattle.std.proofs.lemmas.List.Sums.{fold-append}
use Rattle.hb_base.specs.declared.cause.Cause.{Cause}
use Rattle.hb_base.specs.declared.cause.Cause.TheVariants as cause
use Rattle.hb_base.specs.declared.door.Door.{Door}
use Rattle.hb_base.specs.declared.door.Door.TheVariants as door
use Rattle.hb_captured.specs.Answer.{Answer, Routing, straight_to, through, key_for, aims, refuses, refused_with, by_verdict, by_way, answer_on, verdict_on, way_on}
use Rattle.hb_captured.specs.Captured.{judges}
use Rattle.hb_captured.specs.Part.{Part, entry, up, welcomed, crowded, lacked, misfronted, fronted, refused, accepted, roomless, asked, hears, loosed, completed, done, applied, stopped}
use Rattle.hb_captured.specs.Ends.{EndLaw, EndsAt}
use Rattle.hb_captured.specs.Runs as plain
use Rattle.hb_captured.specs.Runs.{Local, MayGo}
use Rattle.hb_captured.specs.Sides.{Course, unborn, arriving, fronting, pending, lives, over, ends, hangs_up, course_entry, course_up, ends_judged, ends_at, course_by, course_of, Known, known_by, judged_in, header_by, header_of, door_by, door_of, was, is_asked, Stream, stream_by, stream_of, no_stream}
use Rattle.hb_front.proofs.InFront.{in_front}
use Rattle.hb_front.specs.Faults.{number_of}
use Rattle.hb_front.specs.Header.{spelling}
use Rattle.hb_front.specs.Reading.{Seen, IsAnswer, Whole}
use Rattle.hb_gateway.specs.Response.{fails}
use Rattle.hb_gateway.specs.Runs as gateway_runs
use Rattle.hb_base.specs.declared.ip.Ip.{Ip}
use Rattle.hb_held.specs.Held.{Resources}
use Rattle.hb_model.specs.Inner.{is_stop}
use Rattle.hb_model.specs.Point as point
use Rattle.hb_model.specs.declared.config.NodeConfig.{NodeConfig}
use Rattle.hb_proxy.specs.Machine.{Machine}
use Rattle.hb_proxy.specs.Points.{Point, of_control, of_link, of_plain, of_gate, of_stream, entry_in, entries, control_in, control_of, plain_in, plain_of}
use Rattle.hb_proxy.specs.Runs.{Steps, StandsFor}
use Rattle.hb_proxy.specs.Shared.{Shared, asks, tells, puts, finishes, credits, drops, completes, captured_part, gateway_part}
use Rattle.hb_route.specs.Answer.{Way, by_gateway, straight, no_way}
use Rattle.hb_table.specs.declared.judgement.Judged.{Judged}
use Rattle.hb_table.specs.declared.judgement.Judged.TheVariants.{Admitted, Unknown, Denied}
use Rattle.hb_verdict.specs.Verdict.{synced, is_unspecified, leads_back}
use Rattle.hb_verdict.specs.declared.verdict.Verdict.{Verdict}
use Rattle.hb_verdict.specs.declared.verdict.Verdict.TheVariants.{Status, Reset, Dial}
use Rattle.hb_world.specs.declared.entry.Entry.{Entry}
use Rattle.hb_world.specs.declared.entry.Entry.TheVariants as e
use Rattle.hb_laws.specs.RefusedPlain.{is_failure}
use Rattle.hb_laws.proofs.Links.{none_told, none_of_one}
use Rattle.hb_laws.proofs.Mail.{is_revoked, is_revoking, is_revoking_mail, mail_unrevoked}
use Rattle.hb_laws.proofs.Tests.{or_none, none_of_both}

-- CALLS THAT FAILED

-- a call failed, or a dial; a part is such a call on the link or its upstream, or the end of the run; or a refusal for such a cause, or
-- what is heard on a stream
abbrev pub fails_call : Entry → Bool
fails_call (e.Broke l) = true
fails_call (e.DialFailed to why) = true
fails_call _ = false

abbrev calls_part : Part → Bool
calls_part (entry z) = fails_call z
calls_part (up z) = fails_call z
calls_part (refused seen routing why status note) = is_failure why
calls_part (stopped why) = true
calls_part _ = false

abbrev hears_part : Part → Bool
hears_part (hears heard begun) = true
hears_part _ = false

abbrev pub fails_part : Part → Bool
fails_part p = hears_part p || calls_part p

-- a link is refused for no such cause, nor for an update's
abbrev is_refusal : Cause → Bool
is_refusal (cause.Refused status) = true
is_refusal (cause.NoRoute why) = true
is_refusal cause.NoRoom = true
is_refusal _ = false

abbrev refuses_well : Answer → Bool
refuses_well (aims aim) = true
refuses_well (refuses why status) = is_refusal why

verdict_refuses : (v : Verdict) → refuses_well (by_verdict v) ≡ true
verdict_refuses (Dial to) = refl
verdict_refuses (Status status) = refl
verdict_refuses Reset = refl

way_refuses : (h : Resources) (source : Ip) (w : Way) → refuses_well (by_way h source w) ≡ true
way_refuses h source (straight to endpoint) =
    cond_both (leads_back h.doors to) (refused_with 400) (aims (straight_to to endpoint)) (λ a. refuses_well a ≡ true) (λ is. refl)
    (λ is. refl)
way_refuses h source (by_gateway gateway authority endpoint) =
    cond_both (is_unspecified gateway.ip) (refused_with 400) (aims (through (key_for h source gateway) authority endpoint))
    (λ a. refuses_well a ≡ true) (λ is. refl) (λ is. refl)
way_refuses h source (no_way why) = refl

answer_refuses : (d : Door) (h : Resources) (routing : Routing) (seen : Seen) → refuses_well (answer_on d h routing seen) ≡ true
answer_refuses door.Outbound h routing seen =
    cond_both (not (synced h)) (refused_with 503) (by_way h seen.source.ip (way_on h routing seen)) (λ a. refuses_well a ≡ true)
    (λ is. refl) (λ is. way_refuses h seen.source.ip (way_on h routing seen))
answer_refuses door.Plain h routing seen = verdict_refuses (verdict_on h seen)
answer_refuses door.Inbound h routing seen = verdict_refuses (verdict_on h seen)

no_failure : (why : Cause) → is_refusal why ≡ true → is_failure why ≡ false
no_failure cause.PeerGone is = absurd (false≢true is)
no_failure cause.UpFault is = absurd (false≢true is)
no_failure cause.Broken is = absurd (false≢true is)
no_failure _ is = refl

refused_well : (d : Door) (h : Resources) (routing : Routing) (seen : Seen) (why : Cause) (status : ℕ)
    → answer_on d h routing seen ≡ refuses why status → is_refusal why ≡ true
refused_well d h routing seen why status is = sym (ap refuses_well is) ∙ answer_refuses d h routing seen

-- on a link for which no stream was asked nothing is heard
unstreamed : (s : Stream) (p : Part) → is_asked p ≡ false → s.gate ≡ 0 → (stream_by s p).gate ≡ 0
unstreamed s (asked gate number) none zero = absurd (false≢true (sym none))
unstreamed s (hears (fails why) begun) none zero = refl
unstreamed s (hears heard begun) none zero = zero
unstreamed s (loosed begun) none zero = refl
unstreamed s (completed begun note) none zero = refl
unstreamed s _ none zero = zero

unasked_first : (parts : List Part) (b : Bool) → fold (λ (was : Bool) (p : Part). is_asked p || was) b parts ≡ false → b ≡ false
unasked_first [] b none = none
unasked_first (p ∷ parts) b none = (none_of_both (is_asked p) b (unasked_first parts (is_asked p || b) none)).1

none_heard : (l : ℕ) (start : Resources) (parts : List Part) → EndLaw l start parts → was is_asked parts ≡ false
    → list_any hears_part parts ≡ false
none_heard l start parts law none = go [] parts false refl refl none
  where
    here : (before : List Part) (p : Part) → EndsAt l start before p → (stream_of before).gate ≡ 0 → hears_part p ≡ false
    here before (hears heard begun) ends zero = absurd (ends.0 zero)
    here before _ ends zero = refl

    go : (before rest : List Part) (b : Bool) → parts ≡ before ++ rest → (stream_of before).gate ≡ 0
        → fold (λ (was : Bool) (p : Part). is_asked p || was) b rest ≡ false → list_any hears_part rest ≡ false
    go before [] b are zero none = refl
    go before (p ∷ rest) b are zero none =
        let unasked = (none_of_both (is_asked p) b (unasked_first rest (is_asked p || b) none)).0 in
        or_none (hears_part p) (list_any hears_part rest) (here before p (law before p rest are) zero)
        (go (before ++ p ∷ []) rest (is_asked p || b) (are ∙ sym (append_assoc before (p ∷ []) rest))
        (ap (λ (s : Stream). s.gate) (fold-append stream_by no_stream before (p ∷ [])) ∙ unstreamed (stream_of before) p unasked zero) none)

any_of_both : (parts : List Part) → list_any hears_part parts ≡ false → list_any calls_part parts ≡ false
    → list_any fails_part parts ≡ false
any_of_both [] none others = refl
any_of_both (p ∷ parts) none others =
    let first = none_of_both (hears_part p) (list_any hears_part parts) none in
    let second = none_of_both (calls_part p) (list_any calls_part parts) others in
    or_none (fails_part p) (list_any fails_part parts) (or_none (hears_part p) (calls_part p) first.0 second.0)
    (any_of_both parts first.1 second.1)

-- where no call failed in the trace and the run goes on, no part of a link is one
module _ (l : ℕ) where
  seen_fails : (q : point.Point) → is_stop q ≡ false → list_any calls_part (plain_in l (of_control q)) ≡ false
  seen_fails (point.stopped why) none = none
  seen_fails (point.applied k r) none = refl
  seen_fails (point.entry z) none = refl
  seen_fails (point.looked k points told headers) none = refl
  seen_fails (point.refused k) none = refl
  seen_fails (point.used k n) none = refl
  seen_fails (point.put k bytes) none = refl

  here : (g : NodeConfig) (x y : Machine) (p : Point) → Steps g x p y → list_any fails_call (entry_in p) ≡ false
      → list_any is_stop (control_in p) ≡ false → list_any calls_part (plain_in l p) ≡ false
  here g x y (of_control q) steps whole runs = seen_fails q (none_of_both (is_stop q) false runs).0
  here g x y (of_link k p) steps whole runs = refl
  here g x y (of_plain k (stopped why)) steps whole runs = absurd steps.1
  here g x y (of_plain k (entry z)) steps whole runs =
      none_of_one calls_part (entry z) (k == l) (none_of_both (fails_call z) false whole).0
  here g x y (of_plain k (up z)) steps whole runs =
      none_of_one calls_part (up z) (k == l) (none_of_both (fails_call z) false whole).0
  here g x y (of_plain k (refused seen routing why status note)) steps whole runs =
      none_of_one calls_part (refused seen routing why status note) (k == l)
      (no_failure why (refused_well (x.plain k).door x.control.held routing seen why status steps.0.1))
  here g x y (of_plain k p) steps whole runs = none_of_one calls_part p (k == l) refl
  here g x y (of_gate n p) steps whole runs = refl
  here g x y (of_stream k n s w) steps whole runs = none_of_one calls_part (captured_part n s w) (k == l) (uncalled w)
    where
      uncalled : (w : Shared) → calls_part (captured_part n s w) ≡ false
      uncalled (asks authority) = refl
      uncalled (tells heard begun) = refl
      uncalled (puts waiting count) = refl
      uncalled finishes = refl
      uncalled (credits count) = refl
      uncalled (drops begun) = refl
      uncalled (completes begun note) = refl

  -- nor where no stream was asked for it
  pub none_fails : (g : NodeConfig) (x : Machine) (points : List Point) → StandsFor g x points
      → list_any fails_call (entries points) ≡ false → list_any is_stop (control_of points) ≡ false
      → (start : Resources) → EndLaw l start (plain_of l points) → was is_asked (plain_of l points) ≡ false
      → list_any fails_part (plain_of l points) ≡ false
  none_fails g x points stands whole runs start law unasked =
      any_of_both (plain_of l points) (none_heard l start (plain_of l points) law unasked)
      (none_told (plain_in l) fails_call calls_part (λ g x y points p stands runs. here g x y p) g x points stands whole runs)

-- THE CAUSE OF AN END

-- it ended for one of these causes
abbrev ended_by : (Cause → Bool) → Course → Bool
ended_by is (over why) = is why
ended_by is _ = false

ends_without : (is : Cause → Bool) (why : Cause) (course : Course) → is why ≡ false → ended_by is course ≡ false
    → ended_by is (ends why course) ≡ false
ends_without is why unborn other whole = refl
ends_without is why (over first) other whole = whole
ends_without is why arriving other whole = other
ends_without is why fronting other whole = other
ends_without is why pending other whole = other
ends_without is why lives other whole = other

-- for a call that failed
abbrev has_failed : Course → Bool
has_failed course = ended_by is_failure course

ends_whole : (why : Cause) (course : Course) → is_failure why ≡ false → has_failed course ≡ false → has_failed (ends why course) ≡ false
ends_whole = ends_without is_failure

hangs_whole : (course : Course) → has_failed course ≡ false → has_failed (hangs_up course) ≡ false
hangs_whole fronting whole = refl
hangs_whole _ whole = whole

entry_whole : (z : Entry) (course : Course) → fails_call z ≡ false → has_failed course ≡ false → has_failed (course_entry z course) ≡ false
entry_whole (e.Accepted l d) course none whole = refl
entry_whole (e.Ended l) course none whole = hangs_whole course whole
entry_whole (e.Broke l) course none whole = absurd (false≢true (sym none))
entry_whole _ course none whole = whole

up_whole : (z : Entry) (course : Course) → fails_call z ≡ false → has_failed course ≡ false → has_failed (course_up z course) ≡ false
up_whole (e.DialFailed to why) course none whole = absurd (false≢true (sym none))
up_whole (e.Broke u) course none whole = absurd (false≢true (sym none))
up_whole _ course none whole = whole

judged_whole : (j : Judged) (course : Course) → has_failed course ≡ false → has_failed (ends_judged j course) ≡ false
judged_whole Admitted course whole = whole
judged_whole Unknown course whole = ends_whole cause.Revoked course refl whole
judged_whole Denied course whole = ends_whole cause.Revoked course refl whole

at_whole : (h : Resources) (told : Option Seen) (course : Course) → has_failed course ≡ false → has_failed (ends_at h told course) ≡ false
at_whole h (Some seen) pending whole = judged_whole (judged_in h seen) pending whole
at_whole h (Some seen) lives whole = judged_whole (judged_in h seen) lives whole
at_whole h told course whole = whole

applied_whole : (d : Door) (h : Resources) (told : Option Seen) (course : Course) → has_failed course ≡ false
    → has_failed (cond (judges d) (ends_at h told course) course) ≡ false
applied_whole door.Outbound h told course whole = whole
applied_whole door.Plain h told course whole = at_whole h told course whole
applied_whole door.Inbound h told course whole = at_whole h told course whole

part_whole : (d : Door) (h : Resources) (told : Option Seen) (p : Part) (course : Course) → fails_part p ≡ false
    → has_failed course ≡ false → has_failed (course_by d h told course p) ≡ false
part_whole d h told (entry z) course none whole = entry_whole z course none whole
part_whole d h told (up z) course none whole = up_whole z course none whole
part_whole d h told welcomed course none whole = refl
part_whole d h told crowded course none whole = ends_whole cause.NoRoom course refl whole
part_whole d h told lacked course none whole = ends_whole cause.NoMemory course refl whole
part_whole d h told (misfronted fault) course none whole = ends_whole (cause.FrontFault (number_of fault)) course refl whole
part_whole d h told (fronted seen routing aim) course none whole = refl
part_whole d h told (refused seen routing why status note) course none whole = ends_whole why course none whole
part_whole d h told (accepted note) course none whole = refl
part_whole d h told roomless course none whole = ends_whole cause.NoRoom course refl whole
part_whole d h told (hears heard begun) course none whole = absurd (false≢true (sym none))
part_whole d h told (completed begun note) course none whole = ends_whole cause.Done course refl whole
part_whole d h told (done note) course none whole = ends_whole cause.Done course refl whole
part_whole d h told (applied r) course none whole = applied_whole d h told course whole
part_whole d h told (stopped why) course none whole = absurd (false≢true (sym none))
part_whole d h told _ course none whole = whole

whole_from : (parts : List Part) (k : Known) → list_any fails_part parts ≡ false → has_failed k.course ≡ false
    → has_failed (fold known_by k parts).course ≡ false
whole_from [] k none whole = whole
whole_from (p ∷ parts) k none whole =
    let first = none_of_both (fails_part p) (list_any fails_part parts) none in
    whole_from parts (known_by k p) first.1 (part_whole k.door (known_by k p).held k.header p k.course first.0 whole)

-- so such a link didn't end for one
pub ends_unfailed : (start : Resources) (parts : List Part) (why : Cause) → list_any fails_part parts ≡ false → is_failure why ≡ true
    → course_of start parts ≡ over why → ⊥
ends_unfailed start parts why none failure ended =
    false≢true
    (sym (whole_from parts (record { door = door.Plain; held = start; header = None; course = unborn }) none refl)
    ∙ ap has_failed ended ∙ failure)

-- AN UPDATE

-- a part ends a link as an update does, aside from one: the end of the run, or a refusal for that cause, or what is heard on a stream
abbrev revokes_part : Part → Bool
revokes_part (refused seen routing why status note) = is_revoked why
revokes_part (hears heard begun) = is_revoking heard
revokes_part (stopped why) = true
revokes_part _ = false

not_revoked : (why : Cause) → is_refusal why ≡ true → is_revoked why ≡ false
not_revoked cause.Revoked is = absurd (false≢true is)
not_revoked _ is = refl

no_entry : (es : List Entry) → list_any (λ z. false) es ≡ false
no_entry [] = refl
no_entry (z ∷ es) = no_entry es

-- while the run goes on no part of a link does
module _ (l : ℕ) where
  seen_revokes : (q : point.Point) → is_stop q ≡ false → list_any revokes_part (plain_in l (of_control q)) ≡ false
  seen_revokes (point.stopped why) none = none
  seen_revokes (point.applied k r) none = refl
  seen_revokes (point.entry z) none = refl
  seen_revokes (point.looked k points told headers) none = refl
  seen_revokes (point.refused k) none = refl
  seen_revokes (point.used k n) none = refl
  seen_revokes (point.put k bytes) none = refl

  update_here : (g : NodeConfig) (x y : Machine) (points : List Point) (p : Point) → StandsFor g x points
      → list_any is_stop (control_of points) ≡ false → Steps g x p y → list_any (λ (z : Entry). false) (entry_in p) ≡ false
      → list_any is_stop (control_in p) ≡ false → list_any revokes_part (plain_in l p) ≡ false
  update_here g x y points (of_control q) stands going steps whole runs = seen_revokes q (none_of_both (is_stop q) false runs).0
  update_here g x y points (of_link k p) stands going steps whole runs = refl
  update_here g x y points (of_plain k (stopped why)) stands going steps whole runs = absurd steps.1
  update_here g x y points (of_plain k (hears heard begun)) stands going steps whole runs = absurd steps.1
  update_here g x y points (of_plain k (refused seen routing why status note)) stands going steps whole runs =
      none_of_one revokes_part (refused seen routing why status note) (k == l)
      (not_revoked why (refused_well (x.plain k).door x.control.held routing seen why status steps.0.1))
  update_here g x y points (of_plain k p) stands going steps whole runs = none_of_one revokes_part p (k == l) refl
  update_here g x y points (of_gate n p) stands going steps whole runs = refl
  update_here g x y points (of_stream k n s w) stands going steps whole runs =
      none_of_one revokes_part (captured_part n s w) (k == l) (by w steps.2)
    where
      by : (w : Shared) → gateway_runs.Steps n (x.gates n) (gateway_part k s w) steps.1 → revokes_part (captured_part n s w) ≡ false
      by (asks authority) goes = refl
      by (tells heard begun) goes =
          ap is_revoking_mail (sym goes.0) ∙ mail_unrevoked g x points n s stands going
      by (puts waiting count) goes = refl
      by finishes goes = refl
      by (credits count) goes = refl
      by (drops begun) goes = refl
      by (completes begun note) goes = refl

  pub none_revokes : (g : NodeConfig) (x : Machine) (points : List Point) → StandsFor g x points
      → list_any is_stop (control_of points) ≡ false → list_any revokes_part (plain_of l points) ≡ false
  none_revokes g x points stands runs =
      none_told (plain_in l) (λ z. false) revokes_part update_here g x points stands (no_entry (entries points)) runs

abbrev was_revoked : Course → Bool
was_revoked course = ended_by is_revoked course

hangs_kept : (course : Course) → was_revoked course ≡ false → was_revoked (hangs_up course) ≡ false
hangs_kept fronting kept = refl
hangs_kept _ kept = kept

-- at the outbound door no part revokes it
part_kept : (d : Door) (h : Resources) (told : Option Seen) (p : Part) (course : Course) → revokes_part p ≡ false
    → (d ≡ door.Outbound → was_revoked course ≡ false) → door_by d p ≡ door.Outbound → was_revoked (course_by d h told course p) ≡ false
part_kept d h told (entry (e.Accepted k at)) course none kept out = refl
part_kept d h told (entry (e.Ended k)) course none kept out = hangs_kept course (kept out)
part_kept d h told (entry (e.Broke k)) course none kept out = ends_without is_revoked cause.PeerGone course refl (kept out)
part_kept d h told (entry z) course none kept out = kept out
part_kept d h told (up (e.DialFailed to why)) course none kept out = ends_without is_revoked cause.UpFault course refl (kept out)
part_kept d h told (up (e.Broke k)) course none kept out = ends_without is_revoked cause.UpFault course refl (kept out)
part_kept d h told (up z) course none kept out = kept out
part_kept d h told welcomed course none kept out = refl
part_kept d h told crowded course none kept out = ends_without is_revoked cause.NoRoom course refl (kept out)
part_kept d h told lacked course none kept out = ends_without is_revoked cause.NoMemory course refl (kept out)
part_kept d h told (misfronted fault) course none kept out =
    ends_without is_revoked (cause.FrontFault (number_of fault)) course refl (kept out)
part_kept d h told (fronted seen routing aim) course none kept out = refl
part_kept d h told (refused seen routing why status note) course none kept out = ends_without is_revoked why course none (kept out)
part_kept d h told (accepted note) course none kept out = refl
part_kept d h told roomless course none kept out = ends_without is_revoked cause.NoRoom course refl (kept out)
part_kept d h told (hears (fails why) begun) course none kept out = ends_without is_revoked why course none (kept out)
part_kept d h told (completed begun note) course none kept out = ends_without is_revoked cause.Done course refl (kept out)
part_kept d h told (done note) course none kept out = ends_without is_revoked cause.Done course refl (kept out)
part_kept d h told (applied r) course none kept out =
    ap (λ (c : Door). was_revoked (cond (judges c) (ends_at h told course) course)) out ∙ kept out
part_kept d h told (stopped why) course none kept out = absurd (false≢true (sym none))
part_kept d h told _ course none kept out = kept out

kept_from : (parts : List Part) (k : Known) → list_any revokes_part parts ≡ false
    → (k.door ≡ door.Outbound → was_revoked k.course ≡ false) → fold door_by k.door parts ≡ door.Outbound
    → was_revoked (fold known_by k parts).course ≡ false
kept_from [] k none kept out = kept out
kept_from (p ∷ parts) k none kept out =
    let first = none_of_both (revokes_part p) (list_any revokes_part parts) none in
    kept_from parts (known_by k p) first.1 (part_kept k.door (known_by k p).held k.header p k.course first.0 kept) out

-- so no outbound link ended for an update
pub outbound_unrevoked : (start : Resources) (parts : List Part) → list_any revokes_part parts ≡ false → door_of parts ≡ door.Outbound
    → course_of start parts ≡ over cause.Revoked → ⊥
outbound_unrevoked start parts none out ended =
    false≢true
    (sym (kept_from parts (record { door = door.Plain; held = start; header = None; course = unborn }) none (λ is. refl) out)
    ∙ ap was_revoked ended)

-- THE FRONT HEADER

header_size : (bytes : List ℕ) (seen : Seen) → IsAnswer bytes (Whole seen) → 16 ≤ seen.length
header_size bytes seen (h, fits, says, rest, is) =
    omega (arith, (in_front h [] fits).whole, length-append (spelling h) [], says.size)

-- the header that was told is whole, and so it has 16 octets at least
pub header_len : (l : ℕ) (start : Resources) (a : Local) (parts : List Part) (seen : Seen) → plain.StandsFor l start a parts
    → header_of parts ≡ Some seen → 16 ≤ seen.length
header_len l start a parts seen (plain.begins is none) told =
    absurd (let empty : None ≡ Some seen = ap header_of (sym none) ∙ told in cc)
header_len l start b more seen (plain.goes_on {a = a} {parts = parts} stands p steps are) told =
    by p steps.0
    (sym (fold-append header_by None parts (p ∷ [])) ∙ ap header_of (sym are) ∙ told)
    (header_len l start a parts seen stands)
  where
    same : (other : Seen) → Some other ≡ Some seen → 16 ≤ other.length → 16 ≤ seen.length
    same other is long = (let one : other ≡ seen = cc in subst (λ (s : Seen). 16 ≤ s.length) one long)

    by : (q : Part) → MayGo l a q → header_by (header_of parts) q ≡ Some seen → (header_of parts ≡ Some seen → 16 ≤ seen.length)
        → 16 ≤ seen.length
    by (fronted other routing aim) may is before = same other is (header_size a.link.front other may.0.1)
    by (refused other routing why status note) may is before = same other is (header_size a.link.front other may.0.1)
    by _ may is before = before is
