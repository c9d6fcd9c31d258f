-- The counts of connections to endpoints are the numbers of plain links that are one, in every run.
use Rattle.std.proofs.Common.{◌≡◌, ◌≢◌, ◌⊎◌, inl, inr, ℕ, zero, suc, ◌+◌, ◌-◌, ◌<◌, ◌≤◌, ◌==◌, ◌&&◌, Bool, true, false, cond, List, [], ◌∷◌, Option, Some, None, refl, ap, sym, ◌∙◌, subst, arith}
use Rattle.std.proofs.lemmas.Bool.{cond_both, cases_lt, cond-true, eqb-true, false≢true}
use Rattle.std.proofs.lemmas.Slice.Eq.{bytes_eq-Decides}
use Rattle.std.specs.FinMap.{get-empty}
use Rattle.std.specs.Option.{unwrap_or}
use Rattle.std.specs.Str.{bytes_eq}
use Rattle.hb_base.specs.declared.cause.Cause.{Cause}
use Rattle.hb_base.specs.declared.cause.Cause.TheVariants as cause
use Rattle.hb_captured.specs.Answer.{Aim, endpoint_of}
use Rattle.hb_captured.specs.Captured.{Captured, Stage, unborn, arriving, fronting, due, opening, accepting, live, failed, ended, over, judges, is_judged, counts_for, ends_by, ends_for, came_by, hung_up, entered, up_entered, told_by, left_by, judged_by, rejudged}
use Rattle.hb_captured.specs.Counts.{counted_with, recounted}
use Rattle.hb_captured.specs.Part as captured
use Rattle.hb_captured.specs.Part.{Part}
use Rattle.hb_captured.specs.Runs.{Local, MayCome, UpMayCome, MayHear, MayGo, next_link}
use Rattle.hb_gateway.specs.Response as response
use Rattle.hb_gateway.specs.Response.{Heard, opens, brings, fails}
use Rattle.hb_held.specs.Held.{Resources}
use Rattle.hb_held.specs.Outcome.{after_response}
use Rattle.hb_index.proofs.Entries.{by_bytes}
use Rattle.hb_model.specs.Point as point
use Rattle.hb_model.specs.declared.config.NodeConfig.{NodeConfig}
use Rattle.hb_route.proofs.Counting.{more_steps, fewer_steps}
use Rattle.hb_route.specs.Opens.{Counts, open_at, one_more, one_less}
use Rattle.hb_table.specs.Judgement.{judged}
use Rattle.hb_table.specs.declared.judgement.Judged.{Judged}
use Rattle.hb_table.specs.declared.judgement.Judged.TheVariants.{Admitted, Unknown, Denied}
use Rattle.hb_world.specs.declared.entry.Entry.{Entry}
use Rattle.hb_world.specs.declared.entry.Entry.TheVariants as e
use Rattle.hb_proxy.specs.Machine.{Machine, born_by, born_after, plain_local, plain_seen_by, with_control}
use Rattle.hb_proxy.specs.Points.{Point, of_control, of_link, of_plain, of_gate, of_stream, entry_in}
use Rattle.hb_proxy.specs.Runs.{BirthMayCome, Steps, StandsFor, begins, goes_on}
use Rattle.hb_proxy.specs.Shared.{captured_part}
use Rattle.hb_proxy.specs.Streams.{is_one_to, number_to, RunsCountOpens}
use Rattle.hb_proxy.proofs.Aims.{is_told, AimFits, aims_fit}
use Rattle.hb_proxy.proofs.Places.{short, birth_of}
use Rattle.hb_proxy.proofs.Seen.{runs_are_seen}

-- NUMBERS

module _ (name : List ℕ) where
  -- links that count the same are as many
  number_same : (p q : ℕ → Captured) (n : ℕ) → ((k : ℕ) → counts_for (p k) ≡ counts_for (q k)) → number_to name p n ≡ number_to name q n
  number_same p q zero same = refl
  number_same p q (suc n) same = ap₂ (number_same p q n same) (ap (is_one_to name) (same (suc n)))
    where
      ap₂ : {a b c d : ℕ} → a ≡ b → c ≡ d → a + c ≡ b + d
      ap₂ one other = omega (arith, one, other)

  number_none : (p : ℕ → Captured) (n : ℕ) → ((k : ℕ) → counts_for (p k) ≡ None) → number_to name p n ≡ 0
  number_none p zero none = refl
  number_none p (suc n) none =
      let so_far = number_none p n none in
      let last : is_one_to name (counts_for (p (suc n))) ≡ 0 = ap (is_one_to name) (none (suc n)) in
      omega (arith, so_far, last)

  -- up to a number, where the link l counts as y
  module _ (p : ℕ → Captured) (l : ℕ) (y : Captured) where
    abbrev changed : ℕ → Captured
    changed k = cond (k == l) y (p k)

    here : changed l ≡ y
    here = cond-true (l == l) y (p l) (grind arith)

    there : (k : ℕ) → k ≢ l → changed k ≡ p k
    there k apart = cond_both (k == l) y (p k) (λ (z : Captured). z ≡ p k) (λ same. absurd (apart (eqb-true k l same))) (λ other. refl)

    number_below : (n : ℕ) → n < l → number_to name changed n ≡ number_to name p n
    number_below zero less = refl
    number_below (suc n) less =
        let so_far = number_below n (omega (arith, less)) in
        let apart : suc n ≢ l = λ same. omega (arith, same, less) in
        let last : is_one_to name (counts_for (changed (suc n))) ≡ is_one_to name (counts_for (p (suc n))) =
        ap (λ (z : Captured). is_one_to name (counts_for z)) (there (suc n) apart) in
        omega (arith, so_far, last)

    number_with : (n : ℕ) → 0 < l → l ≤ n
        → number_to name changed n + is_one_to name (counts_for (p l)) ≡ number_to name p n + is_one_to name (counts_for y)
    number_with zero some least = absurd (omega (arith, some, least))
    number_with (suc n) some least = by (λ most. number_with n some most) (cases_lt n l)
      where
        by : (l ≤ n → number_to name changed n + is_one_to name (counts_for (p l)) ≡ number_to name p n + is_one_to name (counts_for y))
            → (n < l) ⊎ (l ≤ n)
            → number_to name changed (suc n) + is_one_to name (counts_for (p l))
            ≡ number_to name p (suc n) + is_one_to name (counts_for y)
        by again (inl less) =
            let at : l ≡ suc n = omega (arith, less, least) in
            let so_far = number_below n less in
            let now : is_one_to name (counts_for (changed (suc n))) ≡ is_one_to name (counts_for y) =
            ap (λ (k : ℕ). is_one_to name (counts_for (changed k))) (sym at) ∙ ap (λ (z : Captured). is_one_to name (counts_for z)) here in
            let was : is_one_to name (counts_for (p l)) ≡ is_one_to name (counts_for (p (suc n))) =
            ap (λ (k : ℕ). is_one_to name (counts_for (p k))) at in
            omega (arith, so_far, now, was)
        by again (inr most) =
            let so_far = again most in
            let apart : suc n ≢ l = λ same. omega (arith, same, most) in
            let last : is_one_to name (counts_for (changed (suc n))) ≡ is_one_to name (counts_for (p (suc n))) =
            ap (λ (z : Captured). is_one_to name (counts_for z)) (there (suc n) apart) in
            omega (arith, so_far, last)

-- ONE CHANGE OF THE COUNTS

-- what counts before and behind a step is one endpoint, where both count
abbrev Stays : (before behind : Option (List ℕ)) → Type 0
Stays (Some a) (Some b) = a ≡ b
Stays before behind = Unit {0}

module _ (opens : Counts) (name : List ℕ) where
  one_is : (other : List ℕ) → bytes_eq other name ≡ true → is_one_to name (Some other) ≡ 1
  one_is other is = ap (λ b. cond b 1 0) is

  none_is : (other : List ℕ) → bytes_eq other name ≡ false → is_one_to name (Some other) ≡ 0
  none_is other is = ap (λ b. cond b 1 0) is

  -- names that differ do so the other way round
  apart_back : (other : List ℕ) → bytes_eq other name ≡ false → bytes_eq name other ≡ false
  apart_back other is = by (bytes_eq name other) refl
    where
      by : (b : Bool) → bytes_eq name other ≡ b → b ≡ false
      by true same =
          let names : name ≡ other = (bytes_eq-Decides name other).0 same in
          absurd (false≢true (sym is ∙ (bytes_eq-Decides other name).1 (sym names)))
      by false same = refl

  more_at : (other : List ℕ) → open_at (one_more opens other) name ≡ open_at opens name + is_one_to name (Some other)
  more_at other = by (bytes_eq other name) refl
    where
      by : (b : Bool) → bytes_eq other name ≡ b → open_at (one_more opens other) name ≡ open_at opens name + is_one_to name (Some other)
      by true is =
          let one = one_is other is in
          let same : other ≡ name = (bytes_eq-Decides other name).0 is in
          let now : open_at (one_more opens other) name ≡ open_at opens name + 1 =
          ap (λ (n : List ℕ). open_at (one_more opens n) name) same ∙ (more_steps opens name).0 in
          omega (arith, one, now)
      by false is =
          let none = none_is other is in
          let now = (more_steps opens other).1 name (apart_back other is) in
          omega (arith, none, now)

  less_at : (other : List ℕ) → open_at (one_less opens other) name ≡ open_at opens name - is_one_to name (Some other)
  less_at other = by (bytes_eq other name) refl
    where
      by : (b : Bool) → bytes_eq other name ≡ b → open_at (one_less opens other) name ≡ open_at opens name - is_one_to name (Some other)
      by true is =
          let one = one_is other is in
          let same : other ≡ name = (bytes_eq-Decides other name).0 is in
          let now : open_at (one_less opens other) name ≡ open_at opens name - 1 =
          ap (λ (n : List ℕ). open_at (one_less opens n) name) same ∙ (fewer_steps opens name).0 in
          omega (arith, one, now)
      by false is =
          let none = none_is other is in
          let now = (fewer_steps opens other).1 name (apart_back other is) in
          omega (arith, none, now)

  recounts : (before behind : Option (List ℕ)) (was now : ℕ) → Stays before behind → open_at opens name ≡ was
      → now + is_one_to name before ≡ was + is_one_to name behind → open_at (recounted before behind opens) name ≡ now
  recounts None None was now stays is sum = omega (arith, is, sum)
  recounts None (Some b) was now stays is sum =
      let more = more_at b in omega (arith, more, is, sum)
  recounts (Some a) None was now stays is sum =
      let less = less_at a in omega (arith, less, is, sum)
  recounts (Some a) (Some b) was now stays is sum =
      let same : is_one_to name (Some a) ≡ is_one_to name (Some b) = ap (λ (n : List ℕ). is_one_to name (Some n)) stays in
      omega (arith, is, sum, same)

-- WHAT A LINK COUNTS FOR BEHIND A PART

none_at : (b : Bool) (endpoint : Option (List ℕ)) → b ≡ false → cond b endpoint None ≡ None
none_at b endpoint is = ap (λ (c : Bool). cond c endpoint None) is

unjudged_ends : (why : Cause) (stage : Stage) → is_judged (ends_by why stage) ≡ false
unjudged_ends why unborn = refl
unjudged_ends why arriving = refl
unjudged_ends why fronting = refl
unjudged_ends why due = refl
unjudged_ends why opening = refl
unjudged_ends why accepting = refl
unjudged_ends why live = refl
unjudged_ends why (failed other) = refl
unjudged_ends why (ended other) = refl
unjudged_ends why (over other) = refl

-- one that ends counts no more
ends_count : (why : Cause) (x : Captured) → counts_for (ends_for why x) ≡ None
ends_count why x = none_at (is_judged (ends_by why x.stage)) (endpoint_of x.aim) (unjudged_ends why x.stage)

-- and an update changes nothing of it
judged_counts : (h : Resources) (x : Captured) → AimFits x → counts_for (rejudged h x) ≡ counts_for x
judged_counts h x fits = by (judges x.door) refl (is_judged x.stage)
  where
    none : (c : Bool) → judges x.door ≡ true → cond c (endpoint_of x.aim) None ≡ None
    none true is = fits.judged is
    none false is = refl

    of : judges x.door ≡ true → (j : Judged) → counts_for (judged_by j x) ≡ counts_for x
    of is Admitted = refl
    of is Unknown = ends_count cause.Revoked x ∙ sym (none (is_judged x.stage) is)
    of is Denied = ends_count cause.Revoked x ∙ sym (none (is_judged x.stage) is)

    by : (b : Bool) → judges x.door ≡ b → (c : Bool)
        → counts_for (cond (b && c) (judged_by (judged h x.peer x.target) x) x) ≡ counts_for x
    by true is true = of is (judged h x.peer x.target)
    by true is false = refl
    by false is c = refl

-- no part of an unborn link lets it count
unborn_is : (x : Captured) (stage : Stage) → x.stage ≡ unborn → x.stage ≡ stage → is_told stage ≡ true → ⊥
unborn_is x stage is at born = false≢true (ap is_told (sym is ∙ at) ∙ born)

module _ (l : ℕ) (x : Captured) (is : x.stage ≡ unborn) where
  still_none : (aim : Aim) → cond (is_judged x.stage) (endpoint_of aim) None ≡ None
  still_none aim = none_at (is_judged x.stage) (endpoint_of aim) (ap is_judged is)

  came_counts : (bytes : List ℕ) (stage : Stage) → counts_for (came_by stage bytes x) ≡ None
  came_counts bytes fronting = still_none x.aim
  came_counts bytes _ = still_none x.aim

  entry_counts : (z : Entry) → MayCome l x z → counts_for (entered z x) ≡ None
  entry_counts (e.Accepted k d) may = refl
  entry_counts (e.Came k bytes) may = came_counts bytes x.stage
  entry_counts (e.Ended k) may =
      none_at (is_judged (hung_up x.stage)) (endpoint_of x.aim) (ap (λ (s : Stage). is_judged (hung_up s)) is)
  entry_counts (e.Went k bytes) may = still_none x.aim
  entry_counts (e.Broke k) may = ends_count cause.PeerGone x
  entry_counts (e.Shut k) may = still_none x.aim
  entry_counts (e.Closed k why) may = still_none x.aim
  entry_counts _ may = still_none x.aim

  up_counts : (z : Entry) → UpMayCome l x z → counts_for (up_entered z x) ≡ None
  up_counts (e.Dialled u to why) may = absurd (unborn_is x due is may.0.1 refl)
  up_counts (e.DialFailed to why) may = ends_count cause.UpFault x
  up_counts (e.Opened u) may = absurd (unborn_is x opening is may.0.1 refl)
  up_counts (e.Came u bytes) may = still_none x.aim
  up_counts (e.Ended u) may = still_none x.aim
  up_counts (e.Went u bytes) may = still_none x.aim
  up_counts (e.Broke u) may = ends_count cause.UpFault x
  up_counts (e.Shut u) may = still_none x.aim
  up_counts (e.Closed u why) may = still_none x.aim
  up_counts _ may = still_none x.aim

  told_counts : (heard : Heard) (begun : ℕ) → MayHear x.stage heard x → counts_for (told_by heard begun x) ≡ None
  told_counts (opens end) begun may = absurd (subst (λ (s : Stage). MayHear s (opens end) x) is may)
  told_counts (brings bytes) begun may = still_none x.aim
  told_counts response.ends begun may = still_none x.aim
  told_counts (fails why) begun may = ends_count why x

unborn_counts : (l : ℕ) (a : Local) (p : Part) → MayGo l a p → a.link.stage ≡ unborn → counts_for (next_link a.link p) ≡ None
unborn_counts l a (captured.entry z) may is = entry_counts l a.link is z may
unborn_counts l a (captured.up z) may is = up_counts l a.link is z may
unborn_counts l a captured.welcomed may is = refl
unborn_counts l a captured.crowded may is = ends_count cause.NoRoom a.link
unborn_counts l a captured.lacked may is = ends_count cause.NoMemory a.link
unborn_counts l a (captured.misfronted fault) may is = ends_count _ a.link
unborn_counts l a (captured.fronted seen routing aim) may is = absurd (let no : unborn ≡ fronting = sym is ∙ may.0.0 in cc)
unborn_counts l a (captured.refused seen routing why status made) may is = refl
unborn_counts l a (captured.accepted made) may is = absurd (unborn_is a.link accepting is may.0 refl)
unborn_counts l a captured.roomless may is = ends_count cause.NoRoom a.link
unborn_counts l a (captured.asked gate stream) may is = absurd (unborn_is a.link due is may.0 refl)
unborn_counts l a (captured.hears heard begun) may is = told_counts l a.link is heard begun may.1
unborn_counts l a (captured.put bytes) may is = still_none l a.link is a.link.aim
unborn_counts l a captured.finished may is = still_none l a.link is a.link.aim
unborn_counts l a (captured.credited n) may is = still_none l a.link is a.link.aim
unborn_counts l a (captured.loosed begun) may is = still_none l a.link is a.link.aim
unborn_counts l a (captured.completed begun made) may is = refl
unborn_counts l a (captured.left made) may is =
    none_at (is_judged (left_by a.link.stage)) (endpoint_of a.link.aim) (ap (λ (s : Stage). is_judged (left_by s)) is)
unborn_counts l a (captured.done made) may is = refl
unborn_counts l a (captured.applied r) may is = still_none l a.link is a.link.aim
unborn_counts l a (captured.stopped why) may is = ends_count why a.link

-- a link that counts keeps its endpoint
aim_stays : (b c : Bool) (endpoint : Option (List ℕ)) → Stays (cond b endpoint None) (cond c endpoint None)
aim_stays false c endpoint = tt
aim_stays true false None = tt
aim_stays true false (Some name) = tt
aim_stays true true None = tt
aim_stays true true (Some name) = refl

stays_so : (x y : Captured) → y.aim ≡ x.aim → Stays (counts_for x) (counts_for y)
stays_so x y same =
    subst (λ (aim : Aim). Stays (counts_for x) (cond (is_judged y.stage) (endpoint_of aim) None)) (sym same)
    (aim_stays (is_judged x.stage) (is_judged y.stage) (endpoint_of x.aim))

-- a new one counts first
stays_new : (x y : Captured) → x.stage ≡ fronting → Stays (counts_for x) (counts_for y)
stays_new x y is =
    subst (λ (n : Option (List ℕ)). Stays n (counts_for y)) (sym (none_at (is_judged x.stage) (endpoint_of x.aim) (ap is_judged is))) tt

came_aim : (bytes : List ℕ) (stage : Stage) (x : Captured) → (came_by stage bytes x).aim ≡ x.aim
came_aim bytes fronting x = refl
came_aim bytes _ x = refl

entry_aim : (z : Entry) (x : Captured) → (entered z x).aim ≡ x.aim
entry_aim (e.Came k bytes) x = came_aim bytes x.stage x
entry_aim (e.Accepted k d) x = refl
entry_aim (e.Ended k) x = refl
entry_aim (e.Went k bytes) x = refl
entry_aim (e.Broke k) x = refl
entry_aim (e.Shut k) x = refl
entry_aim (e.Closed k why) x = refl
entry_aim _ x = refl

up_aim : (z : Entry) (x : Captured) → (up_entered z x).aim ≡ x.aim
up_aim (e.Dialled u to why) x = refl
up_aim (e.DialFailed to why) x = refl
up_aim (e.Opened u) x = refl
up_aim (e.Came u bytes) x = refl
up_aim (e.Ended u) x = refl
up_aim (e.Went u bytes) x = refl
up_aim (e.Broke u) x = refl
up_aim (e.Shut u) x = refl
up_aim (e.Closed u why) x = refl
up_aim _ x = refl

told_aim : (heard : Heard) (begun : ℕ) (x : Captured) → (told_by heard begun x).aim ≡ x.aim
told_aim (opens end) begun x = refl
told_aim (brings bytes) begun x = refl
told_aim response.ends begun x = refl
told_aim (fails why) begun x = refl

part_stays : (l : ℕ) (a : Local) (p : Part) → MayGo l a p → Stays (counts_for a.link) (counts_for (next_link a.link p))
part_stays l a (captured.entry z) may = stays_so a.link (entered z a.link) (entry_aim z a.link)
part_stays l a (captured.up z) may = stays_so a.link (up_entered z a.link) (up_aim z a.link)
part_stays l a (captured.fronted seen routing aim) may = stays_new a.link (next_link a.link (captured.fronted seen routing aim)) may.0.0
part_stays l a (captured.refused seen routing why status made) may =
    stays_new a.link (next_link a.link (captured.refused seen routing why status made)) may.0.0
part_stays l a (captured.hears heard begun) may = stays_so a.link (told_by heard begun a.link) (told_aim heard begun a.link)
part_stays l a p may = stays_so a.link (next_link a.link p) refl

-- EVERY RUN

-- no link is numbered 0, or above the last one that was born
unborn_beyond : (g : NodeConfig) (x : Machine) (points : List Point) → StandsFor g x points → (l : ℕ) → (l ≡ 0) ⊎ (x.born < l)
    → (x.plain l).stage ≡ unborn
unborn_beyond g x points stands l (inl none) =
    ap (λ (n : ℕ). (x.plain n).stage) none ∙ (runs_are_seen g x points stands).plain.no_zero
unborn_beyond g x points stands l (inr above) = ((runs_are_seen g x points stands).fresh l above).plain

-- the number of the link that was born last, behind a point
born_is : (g : NodeConfig) (x y : Machine) (p : Point) → Steps g x p y → y.born ≡ born_after x.born (entry_in p)
born_is g x y (of_control q) steps = by q steps.0 steps.3
  where
    by : (q : point.Point) (next : _) → y ≡ with_control q next x → y.born ≡ born_after x.born (entry_in (of_control q))
    by q next is = ap (λ (z : Machine). z.born) is
born_is g x y (of_link l p) steps = ap (λ (z : Machine). z.born) steps.3
born_is g x y (of_plain l p) steps = ap (λ (z : Machine). z.born) steps.2
born_is g x y (of_gate n p) steps = ap (λ (z : Machine). z.born) steps.3
born_is g x y (of_stream l n s w) steps = ap (λ (z : Machine). z.born) steps.4

born_grows : (x : Machine) (z : Entry) → BirthMayCome x z → (born_by x.born z ≡ x.born) ⊎ (born_by x.born z ≡ x.born + 1)
born_grows x (e.Accepted l d) may = inr may.0
born_grows x (e.Dialled l to why) may = inr may
born_grows x _ may = inl refl

module _ (g : NodeConfig) (x : Machine) (points : List Point) (stands : StandsFor g x points) where
  abbrev old : ℕ → Captured
  old = x.plain

  beyond : (l : ℕ) → (l ≡ 0) ⊎ (x.born < l) → (x.plain l).stage ≡ unborn
  beyond = unborn_beyond g x points stands

  old_none : (l : ℕ) → (l ≡ 0) ⊎ (x.born < l) → counts_for (x.plain l) ≡ None
  old_none l out = none_at (is_judged (x.plain l).stage) (endpoint_of (x.plain l).aim) (ap is_judged (beyond l out))

  -- what the control plane does
  seen_counts : (q : point.Point) (l : ℕ) → ((why : Cause) → q ≡ point.stopped why → ⊥)
      → counts_for (plain_seen_by x.control.held q (x.plain l)) ≡ counts_for (x.plain l)
  seen_counts (point.applied k r) l going =
      judged_counts (after_response x.control.held r) (x.plain l) (aims_fit g x points stands l)
  seen_counts (point.stopped why) l going = absurd (going why refl)
  seen_counts _ l going = refl

  seen_none : (q : point.Point) (l : ℕ) → counts_for (x.plain l) ≡ None → counts_for (plain_seen_by x.control.held q (x.plain l)) ≡ None
  seen_none (point.stopped why) l none = ends_count why (x.plain l)
  seen_none q l none = seen_counts q l (λ why is. cc) ∙ none

  -- one link changes
  module _ (l : ℕ) (part : Part) (may : MayGo l (plain_local x l) part) where
    abbrev next : Captured
    next = next_link (x.plain l) part

    next_none : (k : ℕ) → (k ≡ 0) ⊎ (x.born < k) → counts_for (cond (k == l) next (x.plain k)) ≡ None
    next_none k out =
        cond_both (k == l) next (x.plain k) (λ (z : Captured). counts_for z ≡ None)
        (λ same. let at : k ≡ l = eqb-true k l same in
        unborn_counts l (plain_local x l) part may (beyond l (subst (λ (n : ℕ). (n ≡ 0) ⊎ (x.born < n)) at out)))
        (λ apart. old_none k out)

    abbrev now_are : List ℕ → ℕ
    now_are name = number_to name (λ (k : ℕ). cond (k == l) next (x.plain k)) x.born

    one_counts : (name : List ℕ) → open_at x.opens name ≡ number_to name old x.born
        → open_at (counted_with (x.plain l) next x.opens) name ≡ now_are name
    one_counts name is = by (cases_lt 0 l) (cases_lt x.born l)
      where
        so : now_are name + is_one_to name (counts_for (x.plain l)) ≡ number_to name old x.born + is_one_to name (counts_for next)
            → open_at (counted_with (x.plain l) next x.opens) name ≡ now_are name
        so sum =
            recounts x.opens name (counts_for (x.plain l)) (counts_for next) (number_to name old x.born) (now_are name)
            (part_stays l (plain_local x l) part may) is sum

        out : (l ≡ 0) ⊎ (x.born < l) → open_at (counted_with (x.plain l) next x.opens) name ≡ now_are name
        out far =
            let was_none = old_none l far in
            let is_none : counts_for next ≡ None = unborn_counts l (plain_local x l) part may (beyond l far) in
            let was : is_one_to name (counts_for (x.plain l)) ≡ 0 = ap (is_one_to name) was_none in
            let is_now : is_one_to name (counts_for next) ≡ 0 = ap (is_one_to name) is_none in
            let same : now_are name ≡ number_to name old x.born =
            number_same name (λ (k : ℕ). cond (k == l) next (x.plain k)) old x.born (λ k.
            cond_both (k == l) next (x.plain k) (λ (z : Captured). counts_for z ≡ counts_for (x.plain k))
            (λ at. is_none ∙ sym (ap (λ (n : ℕ). counts_for (x.plain n)) (eqb-true k l at) ∙ was_none)) (λ apart. refl)) in
            so (omega (arith, was, is_now, same))

        by : (0 < l) ⊎ (l ≤ 0) → (x.born < l) ⊎ (l ≤ x.born) → open_at (counted_with (x.plain l) next x.opens) name ≡ now_are name
        by (inr zero_it) other = out (inl (omega (arith, zero_it)))
        by (inl some) (inl above) = out (inr above)
        by (inl some) (inr least) = so (number_with name old l next x.born some least)

-- what is known behind a point: links that nobody bore count nowhere, and the last count is that up to the last number before
record Recounted (name : List ℕ) (x y : Machine) : Type 0 where
  none : (l : ℕ) → x.born < l → counts_for (y.plain l) ≡ None
  counts : open_at y.opens name ≡ number_to name y.plain x.born

module _ (g : NodeConfig) (x : Machine) (points : List Point) (stands : StandsFor g x points) (name : List ℕ)
    (is : open_at x.opens name ≡ number_to name x.plain x.born) where
  same_counts : (y : Machine) → y.plain ≡ x.plain → y.opens ≡ x.opens → Recounted name x y
  same_counts y plain counts = record {
    none = λ l above. ap (λ (f : ℕ → Captured). counts_for (f l)) plain ∙ old_none g x points stands l (inr above);
    counts = ap (λ (c : Counts). open_at c name) counts ∙ is ∙ ap (λ (f : ℕ → Captured). number_to name f x.born) (sym plain);
  }

  control_counts : (q : point.Point) → (next : _) → Recounted name x (with_control q next x)
  control_counts (point.stopped why) next = record {
    none = λ l above. ends_count why (x.plain l);
    counts = ap (λ o. unwrap_or o 0) (get-empty by_bytes name)
        ∙ sym (number_none name (λ (l : ℕ). ends_for why (x.plain l)) x.born (λ k. ends_count why (x.plain k)));
  }
  control_counts (point.applied k r) next = record {
    none = λ l above. seen_none g x points stands (point.applied k r) l (old_none g x points stands l (inr above));
    counts = is ∙ sym (number_same name (λ (l : ℕ). rejudged (after_response x.control.held r) (x.plain l)) x.plain x.born
        (λ l. seen_counts g x points stands (point.applied k r) l (λ why no. cc)));
  }
  control_counts q next = record { none = λ l above. old_none g x points stands l (inr above); counts = is }

  step_counts : (p : Point) (y : Machine) → Steps g x p y → Recounted name x y
  step_counts (of_control q) y steps = subst (λ (z : Machine). Recounted name x z) (sym steps.3) (control_counts q steps.0)
  step_counts (of_link l p) y steps =
      same_counts y (ap (λ (z : Machine). z.plain) steps.3) (ap (λ (z : Machine). z.opens) steps.3)
  step_counts (of_gate n p) y steps =
      same_counts y (ap (λ (z : Machine). z.plain) steps.3) (ap (λ (z : Machine). z.opens) steps.3)
  step_counts (of_plain l p) y steps = subst (λ (z : Machine). Recounted name x z) (sym steps.2) (record {
    none = λ k above. next_none g x points stands l p steps.0 k (inr above);
    counts = one_counts g x points stands l p steps.0 name is;
  })
  step_counts (of_stream l n s w) y steps = subst (λ (z : Machine). Recounted name x z) (sym steps.4) (record {
    none = λ k above. next_none g x points stands l (captured_part n s w) steps.0 k (inr above);
    counts = one_counts g x points stands l (captured_part n s w) steps.0 name is;
  })

  -- a number that is born stands for no link that counts yet
  up_to : (p : Point) (y : Machine) → Steps g x p y → number_to name y.plain y.born ≡ number_to name y.plain x.born
  up_to p y steps = by (short p)
    where
      grown : (n : ℕ) → n ≡ x.born + 1 → number_to name y.plain n ≡ number_to name y.plain x.born
      grown n one =
          let last : is_one_to name (counts_for (y.plain (suc x.born))) ≡ 0 =
          ap (is_one_to name) ((step_counts p y steps).none (suc x.born) (omega arith)) in
          let now : number_to name y.plain n ≡ number_to name y.plain (suc x.born) =
          ap (number_to name y.plain) (let at : n ≡ suc x.born = omega (arith, one) in at) in
          omega (arith, now, last)

      so : (n : ℕ) → (n ≡ x.born) ⊎ (n ≡ x.born + 1) → number_to name y.plain n ≡ number_to name y.plain x.born
      so n (inl same) = ap (number_to name y.plain) same
      so n (inr one) = grown n one

      by : (entry_in p ≡ []) ⊎ ((z : Entry) × (entry_in p ≡ z ∷ [])) → number_to name y.plain y.born ≡ number_to name y.plain x.born
      by (inl none) = ap (number_to name y.plain) (born_is g x y p steps ∙ ap (born_after x.born) none)
      by (inr (z, told)) =
          ap (number_to name y.plain) (born_is g x y p steps ∙ ap (born_after x.born) told)
          ∙ so (born_by x.born z) (born_grows x z (birth_of g x y p steps z told))

pub runs_count_opens : RunsCountOpens
runs_count_opens g x points name (begins is none) =
    ap (λ (z : Machine). open_at z.opens name) is ∙ ap (λ o. unwrap_or o 0) (get-empty by_bytes name)
    ∙ sym (ap (λ (z : Machine). number_to name z.plain z.born) is)
runs_count_opens g y more name (goes_on {x = x} {points = points} stands p steps are) =
    let so_far = runs_count_opens g x points name stands in
    (step_counts g x points stands name so_far p y steps).counts ∙ sym (up_to g x points stands name so_far p y steps)
