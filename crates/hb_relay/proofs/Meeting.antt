-- Each call meets the machine.
use Rattle.std.proofs.Common.{◌≡◌, ◌≢◌, ◌⊎◌, inl, inr, ℕ, ◌≤◌, ◌<◌, ◌+◌, ◌-◌, ◌&&◌, ◌==◌, not, Bool, true, false, cond, List, [], ◌∷◌, length, Option, Some, None, IfNone, refl, ap, sym, ◌∙◌, subst, arith}
use Rattle.std.specs.Prelude.{nat_le}
use Rattle.std.proofs.Math.Bool.{and-false}
use Rattle.std.proofs.lemmas.Bool.Decides.{nat_tests}
use Rattle.hb_base.specs.declared.cause.Cause.{Cause}
use Rattle.hb_base.specs.declared.cause.Cause.TheVariants as cause
use Rattle.hb_base.specs.declared.door.Door.{Door}
use Rattle.hb_base.specs.declared.door.Why.{Why}
use Rattle.hb_base.specs.declared.note.Note.{Note}
use Rattle.hb_base.specs.declared.target.Target.{Target}
use Rattle.hb_held.specs.Held.{Resources}
use Rattle.hb_held.specs.Outcome.{after_response}
use Rattle.hb_table.specs.Judgement.{judged}
use Rattle.hb_table.specs.declared.judgement.Judged.{Judged}
use Rattle.hb_table.specs.declared.judgement.Judged.TheVariants.{Admitted, Unknown, Denied}
use Rattle.hb_tunnel.specs.Way.{Way, after, pushes, is_done}
use Rattle.hb_world.specs.declared.entry.Entry.TheVariants as e
use Rattle.hb_gateway.specs.Key.{Key}
use Rattle.hb_captured.specs.Answer.{Routing, endpoint_of, key_of}
use Rattle.hb_captured.specs.Calm.{IsCalm, IsCalmBy, room, up_wants_by}
use Rattle.hb_captured.specs.Captured as m
use Rattle.hb_captured.specs.Captured.{Captured, Stage, no_link, at_stage, counts_for, left_now, unnamed, named, ends_by, ends_for, entered, up_entered, hung_up, judges, is_judged, is_raw, judged_by, rejudged, is_through, ring_down}
use Rattle.hb_captured.specs.Part.{Part, entry, up, welcomed, accepted}
use Rattle.hb_captured.specs.Runs.{Local, MayGo, IsTried, IsUp, next, counted, verdict_note}
use Rattle.hb_captured.proofs.Kept.{all_keep}
use Rattle.hb_captured.proofs.Stages.{KnowsBy}
use Rattle.hb_captured.specs.Sides.{header_of, link_came}
use Rattle.hb_relay.specs.declared.relay.Relay.{Relay}
use Rattle.hb_relay.specs.declared.stage.Stage as code
use Rattle.hb_relay.specs.declared.stage.Stage.TheVariants.{Fronting, Due, Opening, Live, Over}
use Rattle.hb_relay.specs.Calls.{any, Begins, TurnsAway, UpEntersStill, Goes, UpGoes, Updates, StopsLeaving}
use Rattle.hb_relay.specs.Ending.{ended_now, unstreamed, note_at, verdict_at, end_at}
use Rattle.hb_relay.specs.Moving.{settled, note_by, took_up, took_down}
use Rattle.hb_relay.specs.Reaches.{IsInner, leaving, Reaches, MeetsBy, Meets, rerouted}
use Rattle.hb_relay.specs.Rings.{pushed}
use Rattle.hb_relay.specs.Shows.{Shows, Becomes, HasOne, HasUpstream, IsStraight, captured_of, as_told, stage_of}
use Rattle.hb_relay.specs.Streamed.{MeetsStill, HearsFailure}
use Rattle.hb_relay.proofs.Reached.{RestsBy, stage_is, shows_so, upstream_at, left_over, goes_on, raw_so, one_raw, raw_judged, unmoved, rests, follows, ends_reach, raw_ends, streamed_ends, leaves_counted, leaves_reach, settles_reach}

-- IT ENDS

-- where it has no stream
pub meets_end : (p : Part) (old : Relay) (routing : Routing) (new : Relay) (behind : Routing) (why : Cause) (made : Option Note)
    → ((a : Local) → next a p ≡ record { held = a.held; link = ends_for why a.link })
    → ((a : Local) → Shows old a.link → MayGo old.number a p → is_raw a.link ≡ true)
    → made ≡ note_at old.number why (unstreamed 0 (captured_of old)) (stage_of old.stage)
    → Becomes (λ z. ended_now why (unstreamed 0 z)) old new → behind ≡ rerouted (captured_of old) (captured_of new) routing
    → Meets any p old routing new behind made
meets_end p old routing new behind why made is raw noted becomes counts = record {
  number = becomes.number;
  reaches = λ start before a stands shows so may.
      subst (λ (b : Local). Reaches IsInner old.number (rerouted a.link b.link routing) b new behind made) (sym (is a))
      (raw_ends 0 old.number a.link old new why made shows.same shows.straight becomes noted IsInner (λ q inner. inner) (raw a shows may)
      a.held (rerouted a.link (ends_for why a.link) routing) behind
      (counts ∙ leaves_counted 0 old.number a.link old new why made shows.same shows.straight becomes noted 0 refl routing));
}

-- where it leaves the one that it has
pub leaves : (p : Part) (old : Relay) (routing : Routing) (new : Relay) (behind : Routing) (why : Cause) (begun : ℕ) (made : Option Note)
    → ((a : Local) → next a p ≡ record { held = a.held; link = ends_for why a.link })
    → made ≡ note_at old.number why (unstreamed begun (captured_of old)) (stage_of old.stage)
    → Becomes (λ z. ended_now why (unstreamed begun z)) old new → behind ≡ rerouted (captured_of old) (captured_of new) routing
    → (n : ℕ) → counted n ≡ begun → MeetsBy (leaving n) any p old routing new behind made
leaves p old routing new behind why begun made is noted becomes counts n begun_is = record {
  number = becomes.number;
  reaches = λ start before a stands shows so may.
      subst (λ (b : Local). Reaches (leaving n) old.number (rerouted a.link b.link routing) b new behind made) (sym (is a))
      (leaves_reach begun old.number a.link old new why made shows.same shows.straight becomes noted n begun_is a.held
      (rerouted a.link (ends_for why a.link) routing) behind
      (counts ∙ leaves_counted begun old.number a.link old new why made shows.same shows.straight becomes noted n begun_is routing));
}

-- where that failed
pub fails_there : (old : Relay) (routing : Routing) (new : Relay) (behind : Routing) (why : Cause) (begun : ℕ) (made : Option Note)
    → made ≡ note_at old.number why (unstreamed begun (captured_of old)) (stage_of old.stage)
    → Becomes (λ z. ended_now why (unstreamed begun z)) old new → behind ≡ rerouted (captured_of old) (captured_of new) routing
    → HearsFailure why begun old routing new behind made
fails_there old routing new behind why begun made noted becomes counts n is = record {
  number = becomes.number;
  reaches = λ start before a stands shows so may.
      streamed_ends begun old.number a.link old new why made shows.same shows.straight becomes noted n is IsInner (λ q inner. inner) may.0
      a.held (rerouted a.link (ends_for why a.link) routing) behind
      (counts ∙ leaves_counted begun old.number a.link old new why made shows.same shows.straight becomes noted n is routing);
}

-- where the run ends
pub stops : (old new : Relay) (why : Cause) (begun : ℕ) (made : Option Note)
    → made ≡ note_at old.number why (unstreamed begun (captured_of old)) (stage_of old.stage)
    → Becomes (λ z. ended_now why (unstreamed begun z)) old new → StopsLeaving begun why old new made
stops old new why begun made noted becomes n is = record {
  number = becomes.number;
  reaches = λ start before a routing stands shows so may.
      leaves_reach begun old.number a.link old new why made shows.same shows.straight becomes noted n is a.held routing routing refl;
}

-- one that opens or lives, and has an upstream, has no stream
pub raw_up : (k : Relay) (x : Captured) (s : Stage) (u : ℕ) → Shows k x → IsUp s u x
    → (HasUpstream s (key_of x.aim) x.up x.gate → HasOne (key_of x.aim) x.up x.gate) → is_raw x ≡ true
raw_up k x s u shows is one =
    raw_so x (one_raw (key_of x.aim) x.up x.gate (one (upstream_at k x shows s is.0.1)) (subst (λ (n : ℕ). 0 < n) (sym is.1) is.2))

pub raw_broken : (k : Relay) (x : Captured) (u : ℕ) → Shows k x → IsUp m.opening u x ⊎ IsUp m.live u x → is_raw x ≡ true
raw_broken k x u shows (inl is) = raw_up k x m.opening u shows is (λ one. one)
raw_broken k x u shows (inr is) = raw_up k x m.live u shows is (λ one. one)

pub raw_due : (k : Relay) (x : Captured) → Shows k x → x.stage ≡ m.due → is_raw x ≡ true
raw_due k x shows is = raw_so x (upstream_at k x shows m.due is).1

-- IT MAY BE DONE
pub meets_settled : (p : Part) (old : Relay) (routing : Routing) (mid new : Relay) (behind : Routing) (change : Captured → Captured)
    (made : Option Note)
    → ((a : Local) → as_told (next a p).link ≡ change (as_told a.link))
    → ((a : Local) → Shows old a.link → MayGo old.number a p → (stage : Stage) → (next a p).link.stage ≡ stage → stage ≢ m.live
    → IsCalm (next a p).link)
    → ((a : Local) → counts_for (next a p).link ≡ counts_for a.link)
    → ((a : Local) → Shows old a.link
    → HasUpstream (next a p).link.stage (key_of (next a p).link.aim) (next a p).link.up (next a p).link.gate)
    → ((a : Local) → IsStraight a.link → IsStraight (next a p).link)
    → Becomes change old mid → made ≡ note_by mid.number (stage_of mid.stage) (captured_of mid) → Becomes settled mid new
    → behind ≡ rerouted (captured_of mid) (captured_of new) routing → Meets any p old routing new behind made
meets_settled p old routing mid new behind change made tells calm still upstream straight step noted settles counts = record {
  number = settles.number ∙ step.number;
  reaches = λ start before a stands shows so may.
      subst (λ (r : Routing). Reaches IsInner old.number r (next a p) new behind made)
      (sym (unmoved a.link (next a p).link routing (sym (still a))))
      (settles_reach old.number routing (next a p) mid new behind made (tells a ∙ ap change shows.same ∙ sym step.after) settles
      (noted ∙ ap (λ (l : ℕ). note_by l (stage_of mid.stage) (captured_of mid)) step.number) counts (upstream a shows)
      (straight a shows.straight) (calm a shows may));
}

-- a link that was tried is calm once its peer sends no more
pub hung_calm : (k : Relay) (x : Captured) → Shows k x → IsTried x → (l : ℕ) (stage : Stage) → (entered (e.Ended l) x).stage ≡ stage
    → stage ≢ m.live → IsCalm (entered (e.Ended l) x)
hung_calm k x shows (inl at) l stage is other =
    subst (λ (s : Stage). IsCalmBy (hung_up s) (entered (e.Ended l) x)) (sym at.1) (raw_so x (upstream_at k x shows m.fronting at.1).1)
hung_calm k x shows (inr (inl at)) l stage is other =
    subst (λ (s : Stage). IsCalmBy (hung_up s) (entered (e.Ended l) x)) (sym at.1) tt
hung_calm k x shows (inr (inr at)) l stage is other = absurd (other (sym is ∙ ap hung_up at.1))

-- and counts as it did
pub hung_counts : (x : Captured) (l : ℕ) → counts_for (entered (e.Ended l) x) ≡ counts_for x
hung_counts x l = ap (λ (b : Bool). cond b (endpoint_of x.aim) None) (by x.stage)
  where
    by : (s : Stage) → is_judged (hung_up s) ≡ is_judged s
    by m.unborn = refl
    by m.arriving = refl
    by m.fronting = refl
    by m.due = refl
    by m.opening = refl
    by m.accepting = refl
    by m.live = refl
    by (m.failed why) = refl
    by (m.ended why) = refl
    by (m.over why) = refl

-- and has what it had
pub hung_upstream : (s : Stage) (key : Option Key) (u gate : ℕ) → HasUpstream s key u gate → HasUpstream (hung_up s) key u gate
hung_upstream m.unborn key u gate is = is
hung_upstream m.arriving key u gate is = is
hung_upstream m.fronting key u gate is = tt
hung_upstream m.due key u gate is = is
hung_upstream m.opening key u gate is = is
hung_upstream m.accepting key u gate is = is
hung_upstream m.live key u gate is = is
hung_upstream (m.failed why) key u gate is = is
hung_upstream (m.ended why) key u gate is = is
hung_upstream (m.over why) key u gate is = is

-- one that lives isn't at another stage
pub lives_calm : {A : Type 0} (x : Captured) → x.stage ≡ m.live → (stage : Stage) → x.stage ≡ stage → stage ≢ m.live → A
lives_calm x lives stage is other = absurd (other (sym is ∙ lives))

counted_more : (old n : ℕ) → counted (old + n) ≡ counted (counted old + n)
counted_more old n = omega arith

-- bytes went
went_told : (x : Captured) (l : ℕ) (bytes : List ℕ)
    → as_told (entered (e.Went l bytes) x) ≡ took_down (length bytes) (as_told x)
went_told x l bytes =
    ap (λ (w : ℕ). record (as_told (entered (e.Went l bytes) x)) { went_down = w }) (counted_more x.went_down (length bytes))
    ∙ ap (λ (w : ℕ). record (took_down (length bytes) (as_told x)) { owed = w }) (by (is_raw x))
  where
    by : (b : Bool)
        → counted (cond b x.owed (x.owed + length bytes)) ≡ cond b (counted x.owed) (counted (counted x.owed + length bytes))
    by true = refl
    by false = counted_more x.owed (length bytes)

pub goes_down : (old : Relay) (routing : Routing) (mid new : Relay) (behind : Routing) (n : ℕ) (made : Option Note)
    → Becomes (took_down n) old mid → made ≡ note_by mid.number (stage_of mid.stage) (captured_of mid) → Becomes settled mid new
    → behind ≡ rerouted (captured_of mid) (captured_of new) routing → Goes n old routing new behind made
goes_down old routing mid new behind n made step noted settles counts bytes is =
    meets_settled (entry (e.Went old.number bytes)) old routing mid new behind (took_down (length bytes)) made
    (λ a. went_told a.link old.number bytes) (λ a shows may stage same other. lives_calm a.link may.1.1 stage same other) (λ a. refl)
    (λ a shows. shows.upstream) (λ a straight. straight)
    (subst (λ (k : ℕ). Becomes (took_down k) old mid) (sym is) step) noted settles counts

pub goes_up : (old : Relay) (routing : Routing) (mid new : Relay) (behind : Routing) (n : ℕ) (made : Option Note)
    → Becomes (took_up n) old mid → made ≡ note_by mid.number (stage_of mid.stage) (captured_of mid) → Becomes settled mid new
    → behind ≡ rerouted (captured_of mid) (captured_of new) routing → UpGoes n old routing new behind made
goes_up old routing mid new behind n made step noted settles counts u bytes is =
    meets_settled (up (e.Went u bytes)) old routing mid new behind (took_up (length bytes)) made
    (λ a. ap (λ (w : ℕ). record (as_told (up_entered (e.Went u bytes) a.link)) { went_up = w })
    (counted_more a.link.went_up (length bytes)))
    (λ a shows may stage same other. lives_calm a.link may.0.0.1 stage same other) (λ a. refl) (λ a shows. shows.upstream)
    (λ a straight. straight) (subst (λ (k : ℕ). Becomes (took_up k) old mid) (sym is) step) noted settles counts

-- A STEP BEHIND WHICH NOTHING FOLLOWS

-- at a stage it counts as its endpoint says
pub counts_at : (x : Captured) (s : Stage) → x.stage ≡ s → counts_for x ≡ counts_for (at_stage s x)
counts_at x s is = ap (λ (t : Stage). counts_for (at_stage t x)) is

-- it makes this of one that may be shown, which may be shown again
pub record Stays (change : Captured → Captured) (x y : Captured) : Type 0 where
  pub told : as_told y ≡ change (as_told x)
  pub counts : counts_for x ≡ counts_for y
  pub rest : RestsBy y.stage y
  pub straight : IsStraight y

pub meets_still : (p : Part) (old new : Relay) (change : Captured → Captured) → Becomes change old new
    → ((a : Local) → Shows old a.link → MayGo old.number a p → Stays change a.link (next a p).link) → MeetsStill p old new None
meets_still p old new change becomes stays routing = record {
  number = becomes.number;
  reaches = λ start before a stands shows so may.
      let is = stays a shows may in
      rests IsInner old.number (rerouted a.link (next a p).link routing) (next a p) new routing None
      (sym (unmoved a.link (next a p).link routing is.counts)) (is.told ∙ ap change shows.same ∙ sym becomes.after) is.rest is.straight
      refl;
}

-- a dial is made
one_dialled : (key : Option Key) (u gate : ℕ) → key ≡ None → 0 < u → gate ≡ 0 → HasOne key u gate
one_dialled key u gate none some is = subst (λ (k : Option Key). HasOne k u gate) (sym none) (some, is)

pub dials : (old new : Relay) (u : ℕ) (to : Target) (why : Why) → Becomes (up_entered (e.Dialled u to why)) old new
    → UpEntersStill (e.Dialled u to why) old new None
dials old new u to why becomes =
    meets_still (up (e.Dialled u to why)) old new (up_entered (e.Dialled u to why)) becomes
    (λ a shows may.
    let x = a.link in
    record {
      told = refl;
      counts = counts_at x m.due may.0.1;
      rest = (tt, one_dialled (key_of x.aim) u x.gate may.1 may.2 (upstream_at old x shows m.due may.0.1).1);
      straight = shows.straight;
    })

-- a side that hasn't ended isn't through
through_down : (x : Captured) → x.ways.down.has_ended ≡ false → is_through x ≡ false
through_down x is =
    ap (λ (b : Bool). is_done x.ways.up && (b && length x.ways.down.held == 0)) is ∙ and-false (is_done x.ways.up)

pub through_up : (x : Captured) → x.ways.up.has_ended ≡ false → is_through x ≡ false
through_up x is = ap (λ (b : Bool). (b && length x.ways.up.held == 0) && is_done x.ways.down) is

-- IT IS OPEN, which is noted
pub opened_reach : (l : ℕ) (routing : Routing) (b : Local) (mid new : Relay) (made : Note) → b.link.stage ≡ m.accepting
    → as_told (at_stage m.live b.link) ≡ captured_of mid → Becomes unnamed mid new → RestsBy m.live (at_stage m.live b.link)
    → IsStraight b.link → made ≡ verdict_at l 200 (captured_of mid) → Reaches IsInner l routing b new routing (Some made)
opened_reach l routing b mid new made at told takes rest straight noted =
    follows IsInner l routing b new routing (accepted (verdict_note l 200 (named b.link) b.link.target)) (Some made) tt tt (at, refl)
    (sym (unmoved b.link (unnamed (at_stage m.live b.link)) routing (counts_at b.link m.accepting at)))
    (ap unnamed told ∙ sym takes.after) rest straight
    (ap (λ (n : Note). n ∷ []) (sym (noted ∙ ap (verdict_at l 200) (sym told))))

pub opens : (old mid new : Relay) (u : ℕ) (made : Note) → Becomes (λ x. at_stage m.live (up_entered (e.Opened old.up) x)) old mid
    → made ≡ verdict_at mid.number 200 (captured_of mid) → Becomes unnamed mid new → UpEntersStill (e.Opened u) old new (Some made)
opens old mid new u made becomes noted takes routing = record {
  number = takes.number ∙ becomes.number;
  reaches = λ start before a stands shows so may.
      let knows = subst (λ (s : Stage). KnowsBy s (header_of before) (link_came before) a.held a.link) may.0.1
      (all_keep old.number start a before stands).knows in
      let b = next a (up (e.Opened u)) in
      subst (λ (r : Routing). Reaches IsInner old.number r b new routing (Some made))
      (sym (unmoved a.link b.link routing (counts_at a.link m.opening may.0.1)))
      (opened_reach old.number routing b mid new made refl
      (ap (λ (y : Captured). at_stage m.live (up_entered (e.Opened old.up) y)) shows.same ∙ sym becomes.after) takes
      (goes_on (at_stage m.live b.link) (through_down (at_stage m.live b.link) knows.3), upstream_at old a.link shows m.opening may.0.1)
      shows.straight (noted ∙ ap (λ (l : ℕ). verdict_at l 200 (captured_of mid)) becomes.number));
}

-- BYTES COME DOWN

-- bytes that may be read fit, and their way hasn't ended
pub has_room : (size : ℕ) (w : Way) → 0 < room size w → w.has_ended ≡ false
has_room size w some = by w.has_ended refl
  where
    by : (b : Bool) → w.has_ended ≡ b → w.has_ended ≡ false
    by false is = is
    by true is = absurd (let none : room size w ≡ 0 = ap (λ (c : Bool). cond c 0 (size - length w.held)) is in omega (arith, some, none))

pub fits : (size : ℕ) (w : Way) (bytes : List ℕ) → w.has_ended ≡ false → length bytes ≤ room size w
    → pushed size bytes w ≡ after w (pushes bytes)
fits size w bytes open_yet most =
    let space : room size w ≡ size - length w.held = ap (λ (c : Bool). cond c 0 (size - length w.held)) open_yet in
    let small : length bytes ≤ size - length w.held = omega (arith, most, space) in
    let test : nat_le (length bytes) (size - length w.held) ≡ true = grind (arith, nat_tests, small) in
    ap (λ (b : Bool). cond (not b && nat_le (length bytes) (size - length w.held)) (after w (pushes bytes)) w) open_yet
    ∙ ap (λ (b : Bool). cond b (after w (pushes bytes)) w) test

abbrev pub pushes_down : List ℕ → Captured → Captured
pushes_down bytes z = record z { ways = record z.ways { down = pushed (ring_down z.door) bytes z.ways.down } }

pub arrive : (k : Relay) (x : Captured) (bytes : List ℕ) → Shows k x → x.stage ≡ m.live → x.ways.down.has_ended ≡ false
    → length bytes ≤ room (ring_down x.door) x.ways.down
    → Stays (pushes_down bytes) x (record x { ways = record x.ways { down = after x.ways.down (pushes bytes) } })
arrive k x bytes shows lives open_yet most =
    let y = record x { ways = record x.ways { down = after x.ways.down (pushes bytes) } } in
    record {
      told = ap (λ w. as_told (record x { ways = record x.ways { down = w } }))
          (sym (fits (ring_down x.door) x.ways.down bytes open_yet most));
      counts = refl;
      rest = (subst (λ (s : Stage). IsCalmBy s y) (sym lives) (goes_on y (through_down y open_yet)), shows.upstream);
      straight = shows.straight;
    }

pub comes_down : (old new : Relay) (u : ℕ) (bytes : List ℕ) → Becomes (pushes_down bytes) old new
    → UpEntersStill (e.Came u bytes) old new None
comes_down old new u bytes becomes =
    meets_still (up (e.Came u bytes)) old new (pushes_down bytes) becomes
    (λ a shows may.
    let x = a.link in
    let most : length bytes ≤ room (ring_down x.door) x.ways.down =
    subst (λ (n : ℕ). length bytes ≤ n) (ap (λ (s : Stage). up_wants_by s x) may.0.0.1) may.1.2 in
    arrive old x bytes shows may.0.0.1 (has_room (ring_down x.door) x.ways.down (omega (arith, may.1.1, most))) most)

-- BIRTH
pub begins : (d : Door) (l : ℕ) (k : Relay) → captured_of k ≡ record no_link { door = d; stage = m.fronting } → Begins d l k
begins d l k is a new =
    shows_so k (next (next a (entry (e.Accepted l d))) welcomed).link
    (ap (λ (x : Captured). as_told (record x { door = d; stage = m.fronting })) new ∙ sym is)
    (subst (λ (x : Captured). RestsBy m.fronting (record x { door = d; stage = m.fronting })) (sym new) ((refl, omega arith), (refl, refl)))
    (λ on. ap (λ (x : Captured). key_of x.aim) new)

-- or it is turned away
pub turns_away : (d : Door) (l : ℕ) (k : Relay) → captured_of k ≡ record no_link { door = d; stage = m.over cause.NoRoom }
    → TurnsAway d l k
turns_away d l k is a new =
    shows_so k (record a.link { door = d; stage = m.over cause.NoRoom })
    (ap (λ (x : Captured). as_told (record x { door = d; stage = m.over cause.NoRoom })) new ∙ sym is) (ap is_raw new, tt)
    (λ on. ap (λ (x : Captured). key_of x.aim) new)

-- AN UPDATE

judged_stays : (h : Resources) (x : Captured) (b : Bool) → judged h x.peer x.target ≡ Admitted
    → cond b (judged_by (judged h x.peer x.target) x) x ≡ x
judged_stays h x true is = ap (λ (j : Judged). judged_by j x) is
judged_stays h x false is = refl

-- it stays as it was
pub stays : (held : Resources) (old : Relay) → ((x : Captured) → as_told x ≡ captured_of old → rejudged held x ≡ x)
    → Updates held old old None
stays held old same_link r = record {
  number = refl;
  reaches = λ start before a routing stands shows so may.
      let same : rejudged (after_response a.held r) a.link ≡ a.link =
      ap (λ (h : Resources). rejudged h a.link) (sym so) ∙ same_link a.link shows.same in
      subst (λ (y : Captured). Reaches IsInner old.number routing (record { held = after_response a.held r; link = y }) old routing None)
      (sym same)
      (rests IsInner old.number routing (record { held = after_response a.held r; link = a.link }) old routing None refl shows.same
      (shows.calm, shows.upstream) shows.straight refl);
}

-- since its door judges no peers, its header isn't whole, or its peer is admitted
pub unjudged_stays : (held : Resources) (old : Relay) → judges (captured_of old).door ≡ false → Updates held old old None
unjudged_stays held old is =
    stays held old (λ x same.
    ap (λ (b : Bool). cond (b && is_judged x.stage) (judged_by (judged held x.peer x.target) x) x)
    (ap (λ (y : Captured). judges y.door) same ∙ is))

pub fronting_stays : (held : Resources) (old : Relay) → old.stage ≡ Fronting → Updates held old old None
fronting_stays held old is =
    stays held old (λ x same.
    let y = judged_by (judged held x.peer x.target) x in
    ap (λ (s : Stage). cond (judges x.door && is_judged s) y x) (stage_is old x same ∙ ap stage_of is)
    ∙ ap (λ (b : Bool). cond b y x) (and-false (judges x.door)))

pub admitted_stays : (held : Resources) (old : Relay) → judged held (captured_of old).peer old.target ≡ Admitted → Updates held old old None
admitted_stays held old is =
    stays held old (λ x same.
    judged_stays held x (judges x.door && is_judged x.stage)
    (ap (λ (y : Captured). judged held y.peer y.target) same ∙ is))

judged_ends : (j : Judged) (x : Captured) → j ≢ Admitted → judged_by j x ≡ ends_for cause.Revoked x
judged_ends Admitted x other = absurd (other refl)
judged_ends Unknown x other = refl
judged_ends Denied x other = refl

-- where no note is made it stays as it was
pub unmade_stays : (old new : Relay) (made : Option Note) → old.stage ≢ Fronting
    → made ≡ note_at old.number cause.Revoked (captured_of old) (stage_of old.stage) → Becomes (ended_now cause.Revoked) old new
    → IfNone made (captured_of new ≡ captured_of old)
unmade_stays old new made late noted becomes = by old.stage refl
  where
    some : (s : code.Stage) (note : Note) → old.stage ≡ s
        → note_at old.number cause.Revoked (captured_of old) (stage_of s) ≡ Some note → IfNone made (captured_of new ≡ captured_of old)
    some s note is made_is =
        subst (λ (o : Option Note). IfNone o (captured_of new ≡ captured_of old))
        (sym (noted ∙ ap (λ (t : code.Stage). note_at old.number cause.Revoked (captured_of old) (stage_of t)) is ∙ made_is)) tt

    stays_so : captured_of new ≡ captured_of old → (o : Option Note) → IfNone o (captured_of new ≡ captured_of old)
    stays_so same None = same
    stays_so same (Some note) = tt

    by : (s : code.Stage) → old.stage ≡ s → IfNone made (captured_of new ≡ captured_of old)
    by Fronting is = absurd (late is)
    by Due is = some Due (verdict_at old.number 401 (captured_of old)) is refl
    by Opening is = some Opening (verdict_at old.number 401 (captured_of old)) is refl
    by Live is = some Live (end_at old.number cause.Revoked (captured_of old)) is refl
    by (Over first) is =
        let over_so : (captured_of old).stage ≡ m.over first = ap stage_of is in
        let still : ends_for cause.Revoked (captured_of old) ≡ captured_of old =
        ap (λ (s : Stage). at_stage s (captured_of old)) (ap (ends_by cause.Revoked) over_so ∙ sym over_so) in
        stays_so (becomes.after ∙ ap left_now still ∙ left_over (captured_of old) first over_so) made

-- it ends
pub revokes : (held : Resources) (old new : Relay) (made : Option Note) → judges (captured_of old).door ≡ true → old.stage ≢ Fronting
    → judged held (captured_of old).peer old.target ≢ Admitted
    → made ≡ note_at old.number cause.Revoked (captured_of old) (stage_of old.stage) → Becomes (ended_now cause.Revoked) old new
    → Updates held old new made
revokes held old new made on late other noted becomes r = record {
  number = becomes.number;
  reaches = λ start before a routing stands shows so may.
      let x = a.link in
      let same : rejudged (after_response a.held r) x ≡ ends_for cause.Revoked x =
      ap (λ (h : Resources). rejudged h x) (sym so) ∙ at_judging x shows.same ∙ by x shows.same old.stage refl in
      let raw = raw_judged old x shows (ap (λ (y : Captured). judges y.door) shows.same ∙ on) in
      subst (λ (y : Captured). Reaches IsInner old.number routing (record { held = after_response a.held r; link = y }) new routing made)
      (sym same)
      (ends_reach IsInner (λ p inner. inner) old.number (after_response a.held r) x old new cause.Revoked made shows.same raw shows.straight
      becomes noted routing routing refl);
}
  where
    at : (x : Captured) → as_told x ≡ captured_of old → (s : code.Stage) → old.stage ≡ s → x.stage ≡ stage_of s
    at x same s is = stage_is old x same ∙ ap stage_of is

    judged_so : (x : Captured) → as_told x ≡ captured_of old → judged_by (judged held x.peer x.target) x ≡ ends_for cause.Revoked x
    judged_so x same =
        judged_ends (judged held x.peer x.target) x
        (λ admitted. other (ap (λ (y : Captured). judged held y.peer y.target) (sym same) ∙ admitted))

    at_judging : (x : Captured) → as_told x ≡ captured_of old
        → rejudged held x ≡ cond (is_judged x.stage) (judged_by (judged held x.peer x.target) x) x
    at_judging x same =
        ap (λ (b : Bool). cond (b && is_judged x.stage) (judged_by (judged held x.peer x.target) x) x)
        (ap (λ (y : Captured). judges y.door) same ∙ on)

    by : (x : Captured) → as_told x ≡ captured_of old → (s : code.Stage) → old.stage ≡ s
        → cond (is_judged x.stage) (judged_by (judged held x.peer x.target) x) x ≡ ends_for cause.Revoked x
    by x same Fronting is = absurd (late is)
    by x same Due is =
        ap (λ (s : Stage). cond (is_judged s) (judged_by (judged held x.peer x.target) x) x) (at x same Due is) ∙ judged_so x same
    by x same Opening is =
        ap (λ (s : Stage). cond (is_judged s) (judged_by (judged held x.peer x.target) x) x) (at x same Opening is) ∙ judged_so x same
    by x same Live is =
        ap (λ (s : Stage). cond (is_judged s) (judged_by (judged held x.peer x.target) x) x) (at x same Live is) ∙ judged_so x same
    by x same (Over first) is =
        let over_so = at x same (Over first) is in
        ap (λ (s : Stage). cond (is_judged s) (judged_by (judged held x.peer x.target) x) x) over_so
        ∙ ap (λ (s : Stage). at_stage s x) (over_so ∙ sym (ap (ends_by cause.Revoked) over_so))
