-- What a part leaves as it is: the upstream of a link, and whether the link is closed; and what a link is before its birth.
use Rattle.std.proofs.Common.{◌≡◌, ◌≢◌, ◌⊎◌, inl, inr, ℕ, ◌&&◌, Bool, true, false, cond, List, [], ◌∷◌, refl, ap, sym, ◌∙◌, subst, arith}
use Rattle.std.proofs.Math.Bool.{and-false}
use Rattle.std.proofs.lemmas.Bool.{true≢false}
use Rattle.hb_base.specs.declared.cause.Cause.{Cause}
use Rattle.hb_base.specs.declared.cause.Cause.TheVariants as cause
use Rattle.hb_captured.specs.Captured.{Captured, Stage, unborn, arriving, fronting, due, opening, accepting, live, failed, ended, over, no_link, at_stage, judges, is_judged, ends_by, ends_for, hung_up, came_by, entered, up_entered, told_by, judged_by, rejudged, left_by, name_left, is_raw}
use Rattle.hb_captured.specs.Answer.{Routing}
use Rattle.hb_captured.specs.Part.{Part, entry, up, welcomed, crowded, lacked, misfronted, fronted, refused, accepted, roomless, asked, hears, put, finished, credited, loosed, completed, left, done, applied, stopped}
use Rattle.hb_captured.specs.Runs.{Local, MayCome, UpMayCome, MayGo, IsTried, next, StandsFor, begins, goes_on}
use Rattle.hb_front.proofs.Answers.{one_answer}
use Rattle.hb_front.specs.Faults.{number_of}
use Rattle.hb_front.specs.Reading.{Seen, IsAnswer, Whole, More}
use Rattle.hb_gateway.specs.Response as response
use Rattle.hb_gateway.specs.Response.{Heard, opens, brings, fails}
use Rattle.hb_held.specs.Held.{Resources}
use Rattle.hb_held.specs.Outcome.{after_response}
use Rattle.hb_relay.specs.Reaches.{IsInner, Leads, rerouted}
use Rattle.hb_table.specs.Judgement.{judged}
use Rattle.hb_table.specs.declared.judgement.Judged.{Judged}
use Rattle.hb_table.specs.declared.judgement.Judged.TheVariants.{Admitted, Unknown, Denied}
use Rattle.hb_world.specs.declared.entry.Entry.{Entry}
use Rattle.hb_world.specs.declared.entry.Entry.TheVariants as e

pub record Stays (x y : Captured) : Type 0 where
  pub up : y.up ≡ x.up
  pub closed : y.closed ≡ x.closed

pub stays_then : (x y z : Captured) → Stays x y → Stays y z → Stays x z
stays_then x y z first more = record { up = more.up ∙ first.up; closed = more.closed ∙ first.closed }

-- WHAT FOLLOWS BY ITSELF

pub inner_stays : (a : Local) (p : Part) → IsInner p → Stays a.link (next a p).link
inner_stays a welcomed inner = record { up = refl; closed = refl }
inner_stays a (misfronted fault) inner = record { up = refl; closed = refl }
inner_stays a lacked inner = record { up = refl; closed = refl }
inner_stays a (fronted seen routing aim) inner = record { up = refl; closed = refl }
inner_stays a (refused seen routing why status note) inner = record { up = refl; closed = refl }
inner_stays a (accepted note) inner = record { up = refl; closed = refl }
inner_stays a roomless inner = absurd inner
inner_stays a (left made) inner = record { up = refl; closed = refl }
inner_stays a (done note) inner = record { up = refl; closed = refl }
inner_stays a (entry z) inner = absurd inner
inner_stays a (up z) inner = absurd inner
inner_stays a crowded inner = absurd inner
inner_stays a (asked gate stream) inner = absurd inner
inner_stays a (hears heard begun) inner = absurd inner
inner_stays a (put bytes) inner = absurd inner
inner_stays a finished inner = absurd inner
inner_stays a (credited n) inner = absurd inner
inner_stays a (loosed begun) inner = absurd inner
inner_stays a (completed begun note) inner = absurd inner
inner_stays a (applied r) inner = absurd inner
inner_stays a (stopped why) inner = absurd inner

pub leads_stay : (l : ℕ) (routing : Routing) (a : Local) (parts : List Part) (b : Local) (behind : Routing)
    → Leads IsInner l routing a parts b behind → Stays a.link b.link
leads_stay l routing a [] b behind is =
    record { up = ap (λ (c : Local). c.link.up) is.0; closed = ap (λ (c : Local). c.link.closed) is.0 }
leads_stay l routing a (p ∷ parts) b behind (inner, routed, may, more) =
    stays_then a.link (next a p).link b.link (inner_stays a p inner)
    (leads_stay l (rerouted a.link (next a p).link routing) (next a p) parts b behind more)

-- nor does it get a stream, or leave it
pub inner_gate : (a : Local) (p : Part) → IsInner p → (next a p).link.gate ≡ a.link.gate
inner_gate a (entry z) inner = absurd inner
inner_gate a (up z) inner = absurd inner
inner_gate a (asked gate stream) inner = absurd inner
inner_gate a (hears heard begun) inner = absurd inner
inner_gate a (put bytes) inner = absurd inner
inner_gate a finished inner = absurd inner
inner_gate a (credited n) inner = absurd inner
inner_gate a (loosed begun) inner = absurd inner
inner_gate a (completed begun note) inner = absurd inner
inner_gate a (applied r) inner = absurd inner
inner_gate a (stopped why) inner = absurd inner
inner_gate a p inner = refl

pub inner_stream : (a : Local) (p : Part) → IsInner p → (next a p).link.stream ≡ a.link.stream
inner_stream a (entry z) inner = absurd inner
inner_stream a (up z) inner = absurd inner
inner_stream a (asked gate number) inner = absurd inner
inner_stream a (hears heard begun) inner = absurd inner
inner_stream a (put bytes) inner = absurd inner
inner_stream a finished inner = absurd inner
inner_stream a (credited n) inner = absurd inner
inner_stream a (loosed begun) inner = absurd inner
inner_stream a (completed begun note) inner = absurd inner
inner_stream a (applied r) inner = absurd inner
inner_stream a (stopped why) inner = absurd inner
inner_stream a p inner = refl

pub leads_gate : (l : ℕ) (routing : Routing) (a : Local) (parts : List Part) (b : Local) (behind : Routing)
    → Leads IsInner l routing a parts b behind → b.link.gate ≡ a.link.gate
leads_gate l routing a [] b behind is = ap (λ (c : Local). c.link.gate) is.0
leads_gate l routing a (p ∷ parts) b behind (inner, routed, may, more) =
    leads_gate l (rerouted a.link (next a p).link routing) (next a p) parts b behind more ∙ inner_gate a p inner

-- WHERE IT WAITS FOR NO DIAL, nor for its header, it never does behind that
abbrev pub is_begun : Stage → Bool
is_begun unborn = false
is_begun arriving = false
is_begun fronting = false
is_begun due = false
is_begun stage = true

pub ends_begun : (why : Cause) (stage : Stage) → is_begun stage ≡ true → is_begun (ends_by why stage) ≡ true
ends_begun why unborn is = is
ends_begun why arriving is = refl
ends_begun why fronting is = refl
ends_begun why due is = refl
ends_begun why opening is = refl
ends_begun why accepting is = refl
ends_begun why live is = refl
ends_begun why (failed first) is = refl
ends_begun why (ended first) is = refl
ends_begun why (over first) is = refl

pub left_begun : (stage : Stage) → is_begun stage ≡ true → is_begun (left_by stage) ≡ true
left_begun unborn is = is
left_begun arriving is = is
left_begun fronting is = is
left_begun due is = is
left_begun opening is = refl
left_begun accepting is = refl
left_begun live is = refl
left_begun (failed why) is = refl
left_begun (ended why) is = refl
left_begun (over why) is = refl

not_begun : (x stage : Stage) → is_begun x ≡ true → x ≡ stage → is_begun stage ≡ false → ⊥
not_begun x stage is same none = true≢false (sym is ∙ ap is_begun same ∙ none)

inner_begun : (l : ℕ) (a : Local) (p : Part) → IsInner p → MayGo l a p → is_begun a.link.stage ≡ true
    → is_begun (next a p).link.stage ≡ true
inner_begun l a welcomed inner may is = absurd (not_begun a.link.stage arriving is may refl)
inner_begun l a lacked inner may is = ends_begun cause.NoMemory a.link.stage is
inner_begun l a (misfronted fault) inner may is = ends_begun (cause.FrontFault (number_of fault)) a.link.stage is
inner_begun l a (fronted seen routing aim) inner may is = absurd (not_begun a.link.stage fronting is may.0.0 refl)
inner_begun l a (refused seen routing why status note) inner may is = refl
inner_begun l a (accepted note) inner may is = refl
inner_begun l a (left made) inner may is = left_begun a.link.stage is
inner_begun l a (done note) inner may is = refl
inner_begun l a p inner may is = absurd inner

pub leads_begun : (l : ℕ) (routing : Routing) (a : Local) (parts : List Part) (b : Local) (behind : Routing)
    → Leads IsInner l routing a parts b behind → is_begun a.link.stage ≡ true → is_begun b.link.stage ≡ true
leads_begun l routing a [] b behind is begun = ap (λ (c : Local). is_begun c.link.stage) is.0 ∙ begun
leads_begun l routing a (p ∷ parts) b behind (inner, routed, may, more) begun =
    leads_begun l (rerouted a.link (next a p).link routing) (next a p) parts b behind more (inner_begun l a p inner may begun)

pub begun_undue : (stage : Stage) → is_begun stage ≡ true → stage ≢ due
begun_undue stage is same = not_begun stage due is same refl

-- OF ONE OF WHICH NO BYTES CAME, none is due behind what follows
abbrev pub bare_at : Stage → Bool
bare_at arriving = true
bare_at fronting = true
bare_at (over why) = true
bare_at stage = false

abbrev pub IsBare : Captured → Type 0
IsBare x = (x.front ≡ []) × (bare_at x.stage ≡ true)

ends_bare : (why : Cause) (stage : Stage) → bare_at stage ≡ true → bare_at (ends_by why stage) ≡ true
ends_bare why arriving is = refl
ends_bare why fronting is = refl
ends_bare why (over first) is = refl
ends_bare why unborn is = is
ends_bare why due is = absurd (true≢false (sym is))
ends_bare why opening is = absurd (true≢false (sym is))
ends_bare why accepting is = absurd (true≢false (sym is))
ends_bare why live is = absurd (true≢false (sym is))
ends_bare why (failed first) is = is
ends_bare why (ended first) is = is

left_bare : (stage : Stage) → bare_at stage ≡ true → bare_at (left_by stage) ≡ true
left_bare arriving is = refl
left_bare fronting is = refl
left_bare (over why) is = refl
left_bare unborn is = is
left_bare due is = is
left_bare opening is = is
left_bare accepting is = is
left_bare live is = is
left_bare (failed why) is = refl
left_bare (ended why) is = refl

no_header : (front : List ℕ) (seen : Seen) → front ≡ [] → IsAnswer front (Whole seen) → ⊥
no_header front seen none is =
    let both : Whole seen ≡ More = one_answer [] (Whole seen) More (subst (λ (bs : List ℕ). IsAnswer bs (Whole seen)) none is) (refl, omega arith) in
    cc

inner_bare : (l : ℕ) (a : Local) (p : Part) → IsInner p → MayGo l a p → IsBare a.link → IsBare (next a p).link
inner_bare l a welcomed inner may is = (is.0, refl)
inner_bare l a lacked inner may is = (is.0, ends_bare cause.NoMemory a.link.stage is.1)
inner_bare l a (misfronted fault) inner may is = (is.0, ends_bare (cause.FrontFault (number_of fault)) a.link.stage is.1)
inner_bare l a (fronted seen routing aim) inner may is = absurd (no_header a.link.front seen is.0 may.0.1)
inner_bare l a (refused seen routing why status note) inner may is = absurd (no_header a.link.front seen is.0 may.0.1)
inner_bare l a (accepted note) inner may is = absurd (true≢false (sym is.1 ∙ ap bare_at may.0))
inner_bare l a (left made) inner may is = (is.0, left_bare a.link.stage is.1)
inner_bare l a (done note) inner may is = (is.0, refl)
inner_bare l a p inner may is = absurd inner

pub leads_bare : (l : ℕ) (routing : Routing) (a : Local) (parts : List Part) (b : Local) (behind : Routing)
    → Leads IsInner l routing a parts b behind → IsBare a.link → IsBare b.link
leads_bare l routing a [] b behind is bare = subst (λ (c : Local). IsBare c.link) (sym is.0) bare
leads_bare l routing a (p ∷ parts) b behind (inner, routed, may, more) bare =
    leads_bare l (rerouted a.link (next a p).link routing) (next a p) parts b behind more (inner_bare l a p inner may bare)

pub bare_undue : (x : Captured) → IsBare x → x.stage ≢ due
bare_undue x bare is = true≢false (sym bare.1 ∙ ap bare_at is)

-- ENTRIES, AND WHAT OTHERS DO

pub came_stays : (stage : Stage) (bytes : List ℕ) (x : Captured) → Stays x (came_by stage bytes x)
came_stays fronting bytes x = record { up = refl; closed = refl }
came_stays unborn bytes x = record { up = refl; closed = refl }
came_stays arriving bytes x = record { up = refl; closed = refl }
came_stays due bytes x = record { up = refl; closed = refl }
came_stays opening bytes x = record { up = refl; closed = refl }
came_stays accepting bytes x = record { up = refl; closed = refl }
came_stays live bytes x = record { up = refl; closed = refl }
came_stays (failed why) bytes x = record { up = refl; closed = refl }
came_stays (ended why) bytes x = record { up = refl; closed = refl }
came_stays (over why) bytes x = record { up = refl; closed = refl }

judged_stays : (j : Judged) (x : Captured) → Stays x (judged_by j x)
judged_stays Admitted x = record { up = refl; closed = refl }
judged_stays Unknown x = record { up = refl; closed = refl }
judged_stays Denied x = record { up = refl; closed = refl }

pub rejudged_stays : (held : Resources) (x : Captured) → Stays x (rejudged held x)
rejudged_stays held x = by (judges x.door && is_judged x.stage)
  where
    by : (b : Bool) → Stays x (cond b (judged_by (judged held x.peer x.target) x) x)
    by true = judged_stays (judged held x.peer x.target) x
    by false = record { up = refl; closed = refl }

pub told_stays : (heard : Heard) (begun : ℕ) (x : Captured) → Stays x (told_by heard begun x)
told_stays (opens end) begun x = record { up = refl; closed = refl }
told_stays (brings bytes) begun x = record { up = refl; closed = refl }
told_stays response.ends begun x = record { up = refl; closed = refl }
told_stays (fails why) begun x = record { up = refl; closed = refl }

-- it keeps its stream, or leaves it; and one that is asked for, or open, waits for no dial then
pub told_gate : (heard : Heard) (begun : ℕ) (x : Captured) → ((told_by heard begun x).gate ≡ x.gate) ⊎ ((told_by heard begun x).gate ≡ 0)
told_gate (opens end) begun x = inl refl
told_gate (brings bytes) begun x = inl refl
told_gate response.ends begun x = inl refl
told_gate (fails why) begun x = inr refl

pub told_begun : (heard : Heard) (begun : ℕ) (x : Captured) → is_begun x.stage ≡ true → is_begun (told_by heard begun x).stage ≡ true
told_begun (opens end) begun x is = refl
told_begun (brings bytes) begun x is = is
told_begun response.ends begun x is = is
told_begun (fails why) begun x is = ends_begun why x.stage is

-- BEFORE ITS BIRTH

-- no part leads back there
came_stage : (stage : Stage) (bytes : List ℕ) (x : Captured) → (came_by stage bytes x).stage ≡ x.stage
came_stage fronting bytes x = refl
came_stage unborn bytes x = refl
came_stage arriving bytes x = refl
came_stage due bytes x = refl
came_stage opening bytes x = refl
came_stage accepting bytes x = refl
came_stage live bytes x = refl
came_stage (failed why) bytes x = refl
came_stage (ended why) bytes x = refl
came_stage (over why) bytes x = refl

ends_back : (why : Cause) (stage : Stage) → ends_by why stage ≡ unborn → stage ≡ unborn
ends_back why unborn is = refl
ends_back why arriving is = absurd (cc is)
ends_back why fronting is = absurd (cc is)
ends_back why due is = absurd (cc is)
ends_back why opening is = absurd (cc is)
ends_back why accepting is = absurd (cc is)
ends_back why live is = absurd (cc is)
ends_back why (failed first) is = is
ends_back why (ended first) is = is
ends_back why (over first) is = is

hung_back : (stage : Stage) → hung_up stage ≡ unborn → stage ≡ unborn
hung_back fronting is = absurd (cc is)
hung_back unborn is = is
hung_back arriving is = is
hung_back due is = is
hung_back opening is = is
hung_back accepting is = is
hung_back live is = is
hung_back (failed why) is = is
hung_back (ended why) is = is
hung_back (over why) is = is

left_back : (stage : Stage) → left_by stage ≡ unborn → stage ≡ unborn
left_back (failed why) is = absurd (cc is)
left_back (ended why) is = absurd (cc is)
left_back fronting is = is
left_back unborn is = is
left_back arriving is = is
left_back due is = is
left_back opening is = is
left_back accepting is = is
left_back live is = is
left_back (over why) is = is

judged_back : (j : Judged) (x : Captured) → (judged_by j x).stage ≡ unborn → x.stage ≡ unborn
judged_back Admitted x is = is
judged_back Unknown x is = ends_back cause.Revoked x.stage is
judged_back Denied x is = ends_back cause.Revoked x.stage is

rejudged_back : (held : Resources) (x : Captured) → (rejudged held x).stage ≡ unborn → x.stage ≡ unborn
rejudged_back held x is = by (judges x.door && is_judged x.stage) is
  where
    by : (b : Bool) → (cond b (judged_by (judged held x.peer x.target) x) x).stage ≡ unborn → x.stage ≡ unborn
    by true is = judged_back (judged held x.peer x.target) x is
    by false is = is

entry_back : (z : Entry) (x : Captured) → (entered z x).stage ≡ unborn → x.stage ≡ unborn
entry_back (e.Accepted l d) x is = absurd (cc is)
entry_back (e.Came l bytes) x is = sym (came_stage x.stage bytes x) ∙ is
entry_back (e.Ended l) x is = hung_back x.stage is
entry_back (e.Broke l) x is = ends_back cause.PeerGone x.stage is
entry_back (e.Went l bytes) x is = is
entry_back (e.Shut l) x is = is
entry_back (e.Closed l why) x is = is
entry_back z x is = is

up_back : (z : Entry) (x : Captured) → (up_entered z x).stage ≡ unborn → x.stage ≡ unborn
up_back (e.Dialled u to why) x is = absurd (cc is)
up_back (e.DialFailed to why) x is = ends_back cause.UpFault x.stage is
up_back (e.Opened u) x is = absurd (cc is)
up_back (e.Came u bytes) x is = is
up_back (e.Ended u) x is = is
up_back (e.Went u bytes) x is = is
up_back (e.Broke u) x is = ends_back cause.UpFault x.stage is
up_back (e.Shut u) x is = is
up_back (e.Closed u why) x is = is
up_back z x is = is

heard_back : (heard : Heard) (begun : ℕ) (x : Captured) → (told_by heard begun x).stage ≡ unborn → x.stage ≡ unborn
heard_back (opens end) begun x is = absurd (cc is)
heard_back (brings bytes) begun x is = is
heard_back response.ends begun x is = is
heard_back (fails why) begun x is = ends_back why x.stage is

pub part_back : (a : Local) (p : Part) → (next a p).link.stage ≡ unborn → a.link.stage ≡ unborn
part_back a (entry z) is = entry_back z a.link is
part_back a (up z) is = up_back z a.link is
part_back a welcomed is = absurd (cc is)
part_back a crowded is = ends_back cause.NoRoom a.link.stage is
part_back a lacked is = ends_back cause.NoMemory a.link.stage is
part_back a (misfronted fault) is = ends_back (cause.FrontFault (number_of fault)) a.link.stage is
part_back a (fronted seen routing aim) is = absurd (cc is)
part_back a (refused seen routing why status made) is = absurd (cc is)
part_back a (accepted made) is = absurd (cc is)
part_back a roomless is = ends_back cause.NoRoom a.link.stage is
part_back a (asked gate stream) is = absurd (cc is)
part_back a (hears heard begun) is = heard_back heard begun a.link is
part_back a (put bytes) is = is
part_back a finished is = is
part_back a (credited n) is = is
part_back a (loosed begun) is = is
part_back a (completed begun made) is = absurd (cc is)
part_back a (left made) is = left_back a.link.stage is
part_back a (done made) is = absurd (cc is)
part_back a (applied r) is = rejudged_back (after_response a.held r) a.link is
part_back a (stopped why) is = ends_back why a.link.stage is

-- and from there none leads on but a birth
module _ (l : ℕ) (a : Local) (none : a.link ≡ no_link) where
  is_unborn : a.link.stage ≡ unborn
  is_unborn = ap (λ (x : Captured). x.stage) none

  -- it has no stream, and isn't at another stage
  no_stream : is_raw a.link ≡ false → ⊥
  no_stream on = true≢false (ap is_raw (sym none) ∙ on)

  never : (stage : Stage) → (unborn ≡ stage → ⊥) → a.link.stage ≡ stage → ⊥
  never stage apart is = apart (sym is_unborn ∙ is)

  untried : IsTried a.link → ⊥
  untried (inl is) = never fronting (λ no. cc no) is.1
  untried (inr (inl is)) = never opening (λ no. cc no) is.1
  untried (inr (inr is)) = never live (λ no. cc no) is.1

  entry_goes : (z : Entry) → MayCome l a.link z → (entered z a.link).stage ≡ unborn → entered z a.link ≡ a.link
  entry_goes (e.Accepted k d) may is = absurd (cc is)
  entry_goes (e.Came k bytes) may is = absurd (untried may.1.0)
  entry_goes (e.Ended k) may is = absurd (untried may.1.0)
  entry_goes (e.Broke k) may is = absurd (untried may.1)
  entry_goes (e.Went k bytes) may is = absurd (never live (λ no. cc no) may.1.1)
  entry_goes (e.Shut k) may is = absurd (never live (λ no. cc no) may.2)
  entry_goes (e.Closed k why) may is = absurd (never (over why) (λ no. cc no) may.2)
  entry_goes z may is = refl

  up_goes : (z : Entry) → UpMayCome l a.link z → (up_entered z a.link).stage ≡ unborn → up_entered z a.link ≡ a.link
  up_goes (e.Dialled u to why) may is = absurd (cc is)
  up_goes (e.DialFailed to why) may is = absurd (never due (λ no. cc no) may.1)
  up_goes (e.Opened u) may is = absurd (cc is)
  up_goes (e.Came u bytes) may is = absurd (never live (λ no. cc no) may.0.0.1)
  up_goes (e.Ended u) may is = absurd (never live (λ no. cc no) may.0.0.1)
  up_goes (e.Went u bytes) may is = absurd (never live (λ no. cc no) may.0.0.1)
  up_goes (e.Broke u) (inl may) is = absurd (never opening (λ no. cc no) may.0.1)
  up_goes (e.Broke u) (inr may) is = absurd (never live (λ no. cc no) may.0.1)
  up_goes (e.Shut u) may is = absurd (never live (λ no. cc no) may.1)
  up_goes (e.Closed u why) may is = absurd (never (over why) (λ no. cc no) may.1)
  up_goes z may is = refl

  ends_none : (why : Cause) → ends_for why a.link ≡ a.link
  ends_none why = ap (λ (s : Stage). at_stage (ends_by why s) a.link) is_unborn ∙ sym (ap (λ (s : Stage). at_stage s a.link) is_unborn)

  part_goes : (p : Part) → MayGo l a p → (next a p).link.stage ≡ unborn → (next a p).link ≡ a.link
  part_goes (entry z) may is = entry_goes z may is
  part_goes (up z) may is = up_goes z may is
  part_goes welcomed may is = absurd cc
  part_goes crowded may is = ends_none cause.NoRoom
  part_goes lacked may is = ends_none cause.NoMemory
  part_goes (misfronted fault) may is = ends_none (cause.FrontFault (number_of fault))
  part_goes (fronted seen routing aim) may is = absurd (cc is)
  part_goes (refused seen routing why status made) may is = absurd (cc is)
  part_goes (accepted made) may is = absurd (cc is)
  part_goes roomless may is = absurd (never due (λ no. cc no) may.0)
  part_goes (asked gate stream) may is = absurd (cc is)
  part_goes (hears heard begun) may is = absurd (no_stream may.0)
  part_goes (put bytes) may is = absurd (no_stream may.0.0)
  part_goes finished may is = absurd (no_stream may.0.0)
  part_goes (credited n) may is = absurd (no_stream may.0.0)
  part_goes (loosed begun) may is = absurd (no_stream may.0)
  part_goes (completed begun made) may is = absurd (cc is)
  part_goes (left made) may is =
      ap (λ (s : Stage). record a.link { stage = left_by s; identity = name_left s a.link.identity }) is_unborn
      ∙ sym (ap (λ (s : Stage). at_stage s a.link) is_unborn)
  part_goes (done made) may is = absurd (cc is)
  part_goes (applied r) may is =
      let x = a.link in
      let y = judged_by (judged (after_response a.held r) x.peer x.target) x in
      ap (λ (s : Stage). cond (judges x.door && is_judged s) y x) is_unborn ∙ ap (λ (b : Bool). cond b y x) (and-false (judges x.door))
  part_goes (stopped why) may is = ends_none why

-- so it is as it was made
pub unborn_is : (l : ℕ) (start : Resources) (a : Local) (parts : List Part) → StandsFor l start a parts → a.link.stage ≡ unborn
    → a.link ≡ no_link
unborn_is l start a parts (begins is none) at = ap (λ (c : Local). c.link) is
unborn_is l start b more (goes_on {a = a} {parts = parts} stands p step are) at =
    let now : (next a p).link.stage ≡ unborn = ap (λ (c : Local). c.link.stage) (sym step.1) ∙ at in
    let before = unborn_is l start a parts stands (part_back a p now) in
    ap (λ (c : Local). c.link) step.1 ∙ part_goes l a before p step.0 now ∙ before
