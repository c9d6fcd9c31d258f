-- What the upstream of a plain link is dialled for, and where its bytes are to go: the answer that its front header got.
use Rattle.std.proofs.Common.{◌≡◌, ℕ, ◌==◌, ◌||◌, Bool, true, false, cond, List, [], ◌∷◌, ◌++◌, fold, Option, Some, None, IsSome, refl, ap, sym, ◌∙◌, subst}
use Rattle.std.proofs.lemmas.Bool.{false≢true}
use Rattle.std.proofs.lemmas.List.{append_assoc, append-nil}
use Rattle.std.proofs.lemmas.List.Concat.{flat_map-append}
use Rattle.std.proofs.lemmas.List.Sums.{fold-append}
use Rattle.hb_base.specs.declared.cause.Cause.{Cause}
use Rattle.hb_base.specs.declared.cause.Cause.TheVariants as cause
use Rattle.hb_base.specs.declared.door.Door.{Door}
use Rattle.hb_base.specs.declared.door.Door.TheVariants as door
use Rattle.hb_captured.proofs.Stages.{course_one}
use Rattle.hb_captured.specs.Answer as answer
use Rattle.hb_captured.specs.Answer.{Aim, Routing, answer_on, by_verdict, verdict_on, key_of}
use Rattle.hb_captured.specs.Captured.{judges}
use Rattle.hb_captured.specs.Ends.{EndLaw, EndsAt}
use Rattle.hb_captured.specs.Part as captured
use Rattle.hb_captured.specs.Part.{Part}
use Rattle.hb_captured.specs.Sides as plain
use Rattle.hb_captured.specs.Sides.{Course, unborn, arriving, fronting, pending, lives, over, ends, hangs_up, ends_judged, ends_at, course_told, course_by, course_of, door_by, door_of, header_by, header_of, judged_in, aim_by, aim_of, held_by, was, is_asked}
use Rattle.hb_captured.specs.Verdicts.{VerdictLaw, VerdictAt}
use Rattle.hb_gateway.specs.Key.{Key}
use Rattle.hb_gateway.specs.Response.{Heard, fails}
use Rattle.hb_front.specs.Reading.{Seen}
use Rattle.hb_held.specs.Held.{Resources}
use Rattle.hb_model.proofs.Grown.{one_more}
use Rattle.hb_model.specs.Messages.{held}
use Rattle.hb_model.specs.Point as point
use Rattle.hb_model.specs.declared.config.NodeConfig.{NodeConfig}
use Rattle.hb_proxy.proofs.Plain.{obey_plain, plain_holds}
use Rattle.hb_proxy.specs.Held.{at_start}
use Rattle.hb_proxy.specs.Machine.{Machine}
use Rattle.hb_proxy.specs.Points.{Point, of_control, of_link, of_plain, of_gate, of_stream, control_of, plain_in, plain_of}
use Rattle.hb_proxy.specs.Runs.{StandsFor, begins, goes_on}
use Rattle.hb_proxy.specs.Shared.{captured_part}
use Rattle.hb_table.specs.declared.judgement.Judged.{Judged}
use Rattle.hb_table.specs.declared.judgement.Judged.TheVariants.{Admitted, Unknown, Denied}
use Rattle.hb_verdict.specs.declared.verdict.Verdict.{Verdict}
use Rattle.hb_verdict.specs.declared.verdict.Verdict.TheVariants.{Status, Reset, Dial}
use Rattle.hb_world.specs.declared.entry.Entry.TheVariants as e
use Rattle.hb_laws.specs.RefusedOutbound.{IsAsked}
use Rattle.hb_laws.proofs.Tests.{or_none}

-- THE HEADER

-- it was told, or it never is
abbrev is_past : Course → Bool
is_past unborn = false
is_past arriving = false
is_past fronting = false
is_past _ = true

past_ends : (why : Cause) (course : Course) → is_past course ≡ true → is_past (ends why course) ≡ true
past_ends why unborn past = past
past_ends why (over first) past = past
past_ends why _ past = refl

past_hangs : (course : Course) → is_past course ≡ true → is_past (hangs_up course) ≡ true
past_hangs fronting past = refl
past_hangs _ past = past

past_judged : (j : Judged) (course : Course) → is_past course ≡ true → is_past (ends_judged j course) ≡ true
past_judged Admitted course past = past
past_judged Unknown course past = past_ends cause.Revoked course past
past_judged Denied course past = past_ends cause.Revoked course past

past_applied : (b : Bool) (h : Resources) (told : Option Seen) (course : Course) → is_past course ≡ true
    → is_past (cond b (ends_at h told course) course) ≡ true
past_applied false h told course past = past
past_applied true h (Some seen) pending past = past_judged (judged_in h seen) pending refl
past_applied true h (Some seen) lives past = past_judged (judged_in h seen) lives refl
past_applied true h told course past = past

early_is : (early course : Course) → is_past early ≡ false → course ≡ early → is_past course ≡ true → ⊥
early_is early course not is past = false≢true (sym not ∙ sym (ap is_past is) ∙ past)

past_told : (heard : Heard) (course : Course) → is_past course ≡ true → is_past (course_told heard course) ≡ true
past_told (fails why) course past = past_ends why course past
past_told _ course past = past

-- behind it one part more changes neither the door, nor the header or the aim
record Stays (course : Course) (q : Part) : Type 0 where
  past : is_past course ≡ true
  door : (d : Door) → door_by d q ≡ d
  header : (t : Option Seen) → header_by t q ≡ t
  aim : (a : Option Aim) → aim_by a q ≡ a

stays_as : (course : Course) (q : Part) → is_past course ≡ true → ((d : Door) → door_by d q ≡ d)
    → ((t : Option Seen) → header_by t q ≡ t) → ((a : Option Aim) → aim_by a q ≡ a) → Stays course q
stays_as course q past door header aim = record { past = past; door = door; header = header; aim = aim }

module _ (l : ℕ) (start : Resources) (before : List Part) (d : Door) (h : Resources) (t : Option Seen)
    (past : is_past (course_of start before) ≡ true) where
  abbrev now : Course
  now = course_of start before

  then : Part → Course
  then q = course_by d h t now q

  stays : (q : Part) → EndsAt l start before q → Stays (course_by d h t now q) q
  stays (captured.entry (e.Accepted k at)) law = absurd (early_is unborn now refl law.1 past)
  stays (captured.entry (e.Ended k)) law = stays_as _ (captured.entry (e.Ended k)) (past_hangs now past) (λ c. refl) (λ c. refl) (λ c. refl)
  stays (captured.entry (e.Broke k)) law =
      stays_as _ (captured.entry (e.Broke k)) (past_ends cause.PeerGone now past) (λ c. refl) (λ c. refl) (λ c. refl)
  stays (captured.entry z) law = stays_as _ (captured.entry z) past (λ c. refl) (λ c. refl) (λ c. refl)
  stays (captured.up (e.DialFailed to why)) law =
      stays_as _ (captured.up (e.DialFailed to why)) (past_ends cause.UpFault now past) (λ c. refl) (λ c. refl) (λ c. refl)
  stays (captured.up (e.Broke k)) law =
      stays_as _ (captured.up (e.Broke k)) (past_ends cause.UpFault now past) (λ c. refl) (λ c. refl) (λ c. refl)
  stays (captured.up z) law = stays_as _ (captured.up z) past (λ c. refl) (λ c. refl) (λ c. refl)
  stays captured.welcomed law = absurd (early_is arriving now refl law past)
  stays captured.crowded law = absurd (early_is arriving now refl law past)
  stays captured.lacked law =
      stays_as _ captured.lacked (past_ends cause.NoMemory now past) (λ c. refl) (λ c. refl) (λ c. refl)
  stays (captured.misfronted fault) law = absurd (early_is fronting now refl law past)
  stays (captured.fronted seen routing aim) law = absurd (early_is fronting now refl law past)
  stays (captured.refused seen routing why status made) law = absurd (early_is fronting now refl law past)
  stays (captured.accepted made) law = stays_as _ (captured.accepted made) refl (λ c. refl) (λ c. refl) (λ c. refl)
  stays captured.roomless law =
      stays_as _ captured.roomless (past_ends cause.NoRoom now past) (λ c. refl) (λ c. refl) (λ c. refl)
  stays (captured.asked n s) law = stays_as _ (captured.asked n s) past (λ c. refl) (λ c. refl) (λ c. refl)
  stays (captured.hears heard begun) law =
      stays_as _ (captured.hears heard begun) (past_told heard now past) (λ c. refl) (λ c. refl) (λ c. refl)
  stays (captured.put bytes) law = stays_as _ (captured.put bytes) past (λ c. refl) (λ c. refl) (λ c. refl)
  stays captured.finished law = stays_as _ captured.finished past (λ c. refl) (λ c. refl) (λ c. refl)
  stays (captured.credited n) law = stays_as _ (captured.credited n) past (λ c. refl) (λ c. refl) (λ c. refl)
  stays (captured.loosed begun) law = stays_as _ (captured.loosed begun) past (λ c. refl) (λ c. refl) (λ c. refl)
  stays (captured.completed begun made) law =
      stays_as _ (captured.completed begun made) (past_ends cause.Done now past) (λ c. refl) (λ c. refl) (λ c. refl)
  stays (captured.left made) law = stays_as _ (captured.left made) past (λ c. refl) (λ c. refl) (λ c. refl)
  stays (captured.done made) law =
      stays_as _ (captured.done made) (past_ends cause.Done now past) (λ c. refl) (λ c. refl) (λ c. refl)
  stays (captured.applied r) law =
      stays_as _ (captured.applied r) (past_applied (judges d) h t now past) (λ c. refl) (λ c. refl) (λ c. refl)
  stays (captured.stopped why) law =
      stays_as _ (captured.stopped why) (past_ends why now past) (λ c. refl) (λ c. refl) (λ c. refl)

-- at a door that judges each is to go straight
verdict_straight : (v : Verdict) (aim : Aim) → by_verdict v ≡ answer.aims aim → key_of aim ≡ None
verdict_straight (Dial to) aim is =
    let same : answer.straight_to to None ≡ aim = cc in sym (ap key_of same)
verdict_straight (Status status) aim is = absurd cc
verdict_straight Reset aim is = absurd cc

pub judged_straight : (d : Door) (h : Resources) (routing : Routing) (seen : Seen) (aim : Aim) → judges d ≡ true
    → answer_on d h routing seen ≡ answer.aims aim → key_of aim ≡ None
judged_straight door.Outbound h routing seen aim judged is = absurd (false≢true judged)
judged_straight door.Plain h routing seen aim judged is = verdict_straight (verdict_on h seen) aim is
judged_straight door.Inbound h routing seen aim judged is = verdict_straight (verdict_on h seen) aim is

-- behind these points the bytes of a link are to go so: at one of them its header got that answer at the link's door, by what was held
pub record Answered (g : NodeConfig) (l : ℕ) (points : List Point) (aim : Aim) : Type 0 where
  pub front : List Point
  pub p : Point
  pub rest : List Point
  pub seen : Seen
  pub routing : Routing
  pub points_are : points ≡ front ++ p ∷ rest
  pub is : plain_in l p ≡ captured.fronted seen routing aim ∷ []
  pub untold : header_of (plain_of l front) ≡ None
  pub told : header_of (plain_of l points) ≡ Some seen
  pub answered : answer_on (door_of (plain_of l points)) (held g (control_of front)) routing seen ≡ answer.aims aim

-- what is said of that behind some points; and where peers are judged no stream was asked for
record Tells (g : NodeConfig) (l : ℕ) (points : List Point) : Type 0 where
  early : is_past (course_of (at_start g) (plain_of l points)) ≡ false
      → (header_of (plain_of l points) ≡ None) × (was is_asked (plain_of l points) ≡ false)
  asks : (aim : Aim) → aim_of (plain_of l points) ≡ Some aim → Answered g l points aim
  judged : judges (door_of (plain_of l points)) ≡ true → was is_asked (plain_of l points) ≡ false

module _ (g : NodeConfig) (l : ℕ) (points : List Point) (tells : Tells g l points) (p : Point) where
  abbrev more : List Point
  more = points ++ p ∷ []

  abbrev parts : List Part
  parts = plain_of l points

  behind_it : (q : List Part) → plain_in l p ≡ q → plain_of l more ≡ parts ++ q
  behind_it q is = one_more (plain_in l) points p ∙ ap (λ (ps : List Part). parts ++ ps) is

  -- with the same door and header it was answered so
  answered_more : (aim : Aim) → Answered g l points aim → door_of (plain_of l more) ≡ door_of parts
      → header_of (plain_of l more) ≡ header_of parts → Answered g l more aim
  answered_more aim old door header = record {
    front = old.front;
    p = old.p;
    rest = old.rest ++ p ∷ [];
    seen = old.seen;
    routing = old.routing;
    points_are = ap (λ (ps : List Point). ps ++ p ∷ []) old.points_are ∙ append_assoc old.front (old.p ∷ old.rest) (p ∷ []);
    is = old.is;
    untold = old.untold;
    told = header ∙ old.told;
    answered = ap (λ (d : Door). answer_on d (held g (control_of old.front)) old.routing old.seen) door ∙ old.answered;
  }

  none_more : plain_in l p ≡ [] → Tells g l more
  none_more is =
      let same = behind_it [] is ∙ append-nil parts in
      record {
        early = λ early.
            (let so = tells.early (sym (ap (λ (ps : List Part). is_past (course_of (at_start g) ps)) same) ∙ early) in
            (ap header_of same ∙ so.0, ap (was is_asked) same ∙ so.1));
        asks = λ aim asked. answered_more aim (tells.asks aim (sym (ap aim_of same) ∙ asked)) (ap door_of same) (ap header_of same);
        judged = λ at. ap (was is_asked) same ∙ tells.judged (sym (ap (λ (ps : List Part). judges (door_of ps)) same) ∙ at);
      }

  module _ (q : Part) (is : plain_in l p ≡ q ∷ []) (law : EndLaw l (at_start g) (plain_of l more))
      (verdicts : VerdictLaw l (at_start g) (plain_of l more)) (holds : plain.held (at_start g) parts ≡ held g (control_of points)) where
    abbrev parts_are : plain_of l more ≡ parts ++ q ∷ []
    parts_are = behind_it (q ∷ []) is

    end_law : EndsAt l (at_start g) parts q
    end_law = law parts q [] parts_are

    verdict_law : VerdictAt l (at_start g) parts q
    verdict_law = verdicts parts q [] parts_are

    header_more : header_of (plain_of l more) ≡ header_by (header_of parts) q
    header_more = ap header_of parts_are ∙ fold-append header_by None parts (q ∷ [])

    aim_more : aim_of (plain_of l more) ≡ aim_by (aim_of parts) q
    aim_more = ap aim_of parts_are ∙ fold-append aim_by None parts (q ∷ [])

    asked_more : was is_asked (plain_of l more) ≡ (is_asked q || was is_asked parts)
    asked_more = ap (was is_asked) parts_are ∙ fold-append (λ (b : Bool) (r : Part). is_asked r || b) false parts (q ∷ [])

    door_more : door_of (plain_of l more) ≡ door_by (door_of parts) q
    door_more = ap door_of parts_are ∙ fold-append door_by door.Plain parts (q ∷ [])

    course_more : course_of (at_start g) (plain_of l more)
        ≡ course_by (door_of parts) (held_by (plain.held (at_start g) parts) q) (header_of parts) (course_of (at_start g) parts) q
    course_more = ap (course_of (at_start g)) parts_are ∙ course_one (at_start g) parts q

    -- no stream is asked for before the header was told, nor where peers are judged
    none_early : (r : Part) → EndsAt l (at_start g) parts r → is_past (course_of (at_start g) parts) ≡ false → is_asked r ≡ false
    none_early (captured.asked n s) ends early = absurd (false≢true (sym early ∙ ap is_past ends.0))
    none_early _ ends early = refl

    none_judged : (r : Part) → VerdictAt l (at_start g) parts r → judges (door_of parts) ≡ true → is_asked r ≡ false
    none_judged (captured.asked n s) goes at =
        let there = tells.asks goes.aim goes.told in
        let none = judged_straight (door_of parts) _ there.routing there.seen goes.aim at there.answered in
        absurd (false≢true (subst (λ (key : Option Key). IsSome key) none goes.keyed))
    none_judged _ goes at = refl

    asked_none : is_asked q ≡ false → was is_asked parts ≡ false → was is_asked (plain_of l more) ≡ false
    asked_none here before = asked_more ∙ or_none (is_asked q) (was is_asked parts) here before

    -- where it was told, it stays so
    told_before : is_past (course_of (at_start g) parts) ≡ true → Tells g l more
    told_before past =
        let s = stays l (at_start g) parts (door_of parts) (held_by (plain.held (at_start g) parts) q) (header_of parts) past q end_law in
        let same_door = door_more ∙ s.door (door_of parts) in
        record {
          early = λ early. absurd (false≢true (sym early ∙ ap is_past course_more ∙ s.past));
          asks = λ aim asked.
              answered_more aim (tells.asks aim (sym (s.aim (aim_of parts)) ∙ sym aim_more ∙ asked))
              same_door (header_more ∙ s.header (header_of parts));
          judged = λ at.
              (let there = sym (ap judges same_door) ∙ at in asked_none (none_judged q verdict_law there) (tells.judged there));
        }

    -- where it wasn't, no aim is there
    no_aim : header_of parts ≡ None → (aim : Aim) → aim_of parts ≡ Some aim → ⊥
    no_aim none aim asked =
        let old = tells.asks aim asked in (let no : None ≡ Some old.seen = sym none ∙ old.told in cc)

    -- and where the part is no header, nothing is told of it yet, or it stays so
    no_header : ((t : Option Seen) → header_by t q ≡ t) → ((a : Option Aim) → aim_by a q ≡ a) → Tells g l more
    no_header header same_aim = by (is_past (course_of (at_start g) parts)) refl
      where
        by : (b : Bool) → is_past (course_of (at_start g) parts) ≡ b → Tells g l more
        by true past = told_before past
        by false early =
            let so = tells.early early in
            let none = asked_none (none_early q end_law early) so.1 in
            record {
              early = λ still. (header_more ∙ header (header_of parts) ∙ so.0, none);
              asks = λ aim asked. absurd (no_aim so.0 aim (sym (same_aim (aim_of parts)) ∙ sym aim_more ∙ asked));
              judged = λ at. none;
            }

  one_part : (q : Part) → plain_in l p ≡ q ∷ [] → EndLaw l (at_start g) (plain_of l more) → VerdictLaw l (at_start g) (plain_of l more)
      → plain.held (at_start g) parts ≡ held g (control_of points) → Tells g l more
  one_part (captured.fronted seen routing aim) is laws verdicts holds =
      let q = captured.fronted seen routing aim in
      let so = tells.early (ap is_past (end_law q is laws verdicts holds)) in
      record {
        early = λ early. absurd (false≢true (sym early ∙ ap is_past (course_more q is laws verdicts holds)));
        asks = λ other asked.
            (let there : Some aim ≡ Some other = sym (aim_more q is laws verdicts holds) ∙ asked in
            let same : aim ≡ other = cc in
            subst (Answered g l more) same (record {
              front = points;
              p = p;
              rest = [];
              seen = seen;
              routing = routing;
              points_are = refl;
              is = is;
              untold = so.0;
              told = header_more q is laws verdicts holds;
              answered = ap (λ (d : Door). answer_on d (held g (control_of points)) routing seen) (door_more q is laws verdicts holds)
                  ∙ ap (λ (h : Resources). answer_on (door_of parts) h routing seen) (sym holds)
                  ∙ (verdict_law q is laws verdicts holds).1;
            }));
        judged = λ at. asked_none q is laws verdicts holds refl so.1;
      }
  one_part (captured.refused seen routing why status made) is laws verdicts holds =
      let q = captured.refused seen routing why status made in
      let at = end_law q is laws verdicts holds in
      let so = tells.early (ap is_past at) in
      record {
        early = λ early.
            absurd (false≢true (sym early ∙ ap is_past (course_more q is laws verdicts holds ∙ ap (λ (c : Course). ends why c) at)));
        asks = λ aim asked.
            absurd (no_aim q is laws verdicts holds so.0 aim (sym (aim_more q is laws verdicts holds) ∙ asked));
        judged = λ at. asked_none q is laws verdicts holds refl so.1;
      }
  one_part q is laws verdicts holds = no_header q is laws verdicts holds (λ t. refl) (λ a. refl)

  -- with any point
  one_point : EndLaw l (at_start g) (plain_of l more) → VerdictLaw l (at_start g) (plain_of l more)
      → plain.held (at_start g) parts ≡ held g (control_of points) → Tells g l more
  one_point laws verdicts holds = by p refl
    where
      of_it : (k : ℕ) (q : Part) (same : Bool) → plain_in l p ≡ cond same (q ∷ []) [] → Tells g l more
      of_it k q true is = one_part q is laws verdicts holds
      of_it k q false is = none_more is

      by : (r : Point) → p ≡ r → Tells g l more
      by (of_control (point.applied k r)) same = one_part (captured.applied r) (ap (plain_in l) same) laws verdicts holds
      by (of_control (point.stopped why)) same = one_part (captured.stopped why) (ap (plain_in l) same) laws verdicts holds
      by (of_control q) same = none_more (ap (plain_in l) same)
      by (of_link k q) same = none_more (ap (plain_in l) same)
      by (of_plain k q) same = of_it k q (k == l) (ap (plain_in l) same)
      by (of_gate n q) same = none_more (ap (plain_in l) same)
      by (of_stream k n s w) same = of_it k (captured_part n s w) (k == l) (ap (plain_in l) same)

all_tell : (g : NodeConfig) (l : ℕ) (x : Machine) (points : List Point) → StandsFor g x points → Tells g l points
all_tell g l x points (begins fresh none) =
    subst (Tells g l) (sym none) (record { early = λ early. (refl, refl); asks = λ aim asked. absurd cc; judged = λ at. refl })
all_tell g l y longer (goes_on {x = x} {points = points} stands p steps are) =
    let laws = obey_plain g y (points ++ p ∷ []) l (goes_on stands p steps refl) in
    subst (Tells g l) (sym are)
    (one_point g l points (all_tell g l x points stands) p laws.ends laws.verdicts (plain_holds g x points l stands))

-- what is dialled for a plain link is the answer that its header got
pub answers : (g : NodeConfig) (l : ℕ) (x : Machine) (points : List Point) → StandsFor g x points → (aim : Aim)
    → aim_of (plain_of l points) ≡ Some aim → Answered g l points aim
answers g l x points stands = (all_tell g l x points stands).asks

-- where peers are judged no stream was asked for
pub unasked : (g : NodeConfig) (l : ℕ) (x : Machine) (points : List Point) → StandsFor g x points
    → judges (door_of (plain_of l points)) ≡ true → was is_asked (plain_of l points) ≡ false
unasked g l x points stands = (all_tell g l x points stands).judged

-- THE PLACE OF THE HEADER

-- two places of a list are the same, or one is in front of the other
data Apart (before after : List Point) (p q : Point) : Type 0 where
  at_once : before ≡ after → p ≡ q → Apart before after p q
  sooner : (more : List Point) → after ≡ before ++ p ∷ more → Apart before after p q
  later : (more : List Point) → before ≡ after ++ q ∷ more → Apart before after p q

apart : (before after : List Point) (p q : Point) (rest others : List Point) → before ++ p ∷ rest ≡ after ++ q ∷ others
    → Apart before after p q
apart [] [] p q rest others is = at_once refl (cc)
apart [] (a ∷ after) p q rest others is = sooner after (cc)
apart (b ∷ before) [] p q rest others is = later before (cc)
apart (b ∷ before) (a ∷ after) p q rest others is = behind_one (apart before after p q rest others (cc))
  where
    first : b ≡ a
    first = cc

    behind_one : Apart before after p q → Apart (b ∷ before) (a ∷ after) p q
    behind_one (at_once same one) = at_once (cc) one
    behind_one (sooner more same) = sooner more (cc)
    behind_one (later more same) = later more (cc)

module _ (l : ℕ) where
  -- a header that was told stays told
  stays_told : (parts : List Part) (seen : Seen) → fold header_by (Some seen) parts ≡ None → ⊥
  stays_told [] seen none = (let no : Some seen ≡ None = none in cc)
  stays_told (captured.fronted other routing aim ∷ parts) seen none = stays_told parts other none
  stays_told (captured.refused other routing why status made ∷ parts) seen none = stays_told parts other none
  stays_told (q ∷ parts) seen none = stays_told parts seen none

  told_further : (front more : List Point) (p : Point) (seen : Seen) → header_of (plain_of l (front ++ p ∷ [])) ≡ Some seen
      → header_of (plain_of l (front ++ p ∷ more)) ≡ None → ⊥
  told_further front more p seen told none =
      let parts_are = ap (plain_of l) (append_assoc front (p ∷ []) more) in
      stays_told (plain_of l more) seen
      (ap (λ (t : Option Seen). fold header_by t (plain_of l more)) (sym told)
      ∙ sym (fold-append header_by None (plain_of l (front ++ p ∷ [])) (plain_of l more))
      ∙ sym (ap header_of (flat_map-append (plain_in l) (front ++ p ∷ []) more))
      ∙ ap header_of parts_are ∙ none)

-- so the place where the header was told is the one where it got its answer
pub asked_there : (g : NodeConfig) (l : ℕ) (points : List Point) (seen : Seen) (aim : Aim) → (asked : IsAsked g l seen points)
    → (there : Answered g l points aim)
    → answer_on (door_of (plain_of l points)) (held g (control_of asked.front)) there.routing seen ≡ answer.aims aim
asked_there g l points seen aim asked there =
    by (apart asked.front there.front asked.p there.p asked.rest there.rest (sym asked.points_are ∙ there.points_are))
  where
    there_told : header_of (plain_of l (there.front ++ there.p ∷ [])) ≡ Some there.seen
    there_told =
        ap header_of (one_more (plain_in l) there.front there.p ∙ ap (λ (ps : List Part). plain_of l there.front ++ ps) there.is)
        ∙ fold-append header_by None (plain_of l there.front) (captured.fronted there.seen there.routing aim ∷ [])

    by : Apart asked.front there.front asked.p there.p
        → answer_on (door_of (plain_of l points)) (held g (control_of asked.front)) there.routing seen ≡ answer.aims aim
    by (at_once front p) =
        let both : Some seen ≡ Some there.seen = sym asked.told
        ∙ ap (λ (ps : List Point). header_of (plain_of l (ps ++ asked.p ∷ []))) front
        ∙ ap (λ (q : Point). header_of (plain_of l (there.front ++ q ∷ []))) p ∙ there_told in
        let same : seen ≡ there.seen = cc in
        ap (λ (ps : List Point). answer_on (door_of (plain_of l points)) (held g (control_of ps)) there.routing seen) front
        ∙ ap (answer_on (door_of (plain_of l points)) (held g (control_of there.front)) there.routing) same ∙ there.answered
    by (sooner more is) =
        absurd
        (told_further l asked.front more asked.p seen asked.told
        (ap (λ (ps : List Point). header_of (plain_of l ps)) (sym is) ∙ there.untold))
    by (later more is) =
        absurd
        (told_further l there.front more there.p there.seen there_told
        (ap (λ (ps : List Point). header_of (plain_of l ps)) (sym is) ∙ asked.untold))
