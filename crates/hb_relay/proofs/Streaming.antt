-- What each call on the stream of a link is to the machine.
use Rattle.std.proofs.Common.{◌≡◌, ℕ, zero, suc, ◌<◌, ◌==◌, Bool, true, false, List, length, length-append, Option, Some, None, refl, ap, sym, ◌∙◌, subst, arith}
use Rattle.std.specs.Prelude.{IsSome}
use Rattle.std.proofs.lemmas.Bool.{false≢true}
use Rattle.hb_base.specs.declared.cause.Cause.TheVariants as cause
use Rattle.hb_base.specs.declared.note.Note.{Note}
use Rattle.hb_tunnel.specs.Way.{IsFront, after}
use Rattle.hb_tunnel.specs.Way as way
use Rattle.hb_gateway.specs.Key.{Key}
use Rattle.hb_gateway.specs.Response as response
use Rattle.hb_gateway.specs.Response.{opens, brings}
use Rattle.hb_captured.specs.Answer.{Routing, key_of}
use Rattle.hb_captured.specs.Captured as m
use Rattle.hb_captured.specs.Captured.{Captured, Stage, at_stage, counts_for, is_raw, told_by, unnamed}
use Rattle.hb_captured.specs.Part.{asked, hears, put, finished, credited, completed}
use Rattle.hb_captured.specs.Runs.{MayHear, Fits, next, counted}
use Rattle.hb_relay.specs.declared.relay.Relay.{Relay}
use Rattle.hb_relay.specs.Ending.{unstreamed, verdict_at, end_at}
use Rattle.hb_relay.specs.Reaches.{IsInner, Reaches, rerouted}
use Rattle.hb_relay.specs.Shows.{Shows, Becomes, HasOne, captured_of, as_told}
use Rattle.hb_relay.specs.Streamed.{Asks, HearsOpen, HearsBytes, HearsEnd, HasWaiting, Puts, Finishes, Credits, Completes}
use Rattle.hb_relay.proofs.Meeting.{meets_still, counts_at, opened_reach, pushes_down, arrive}
use Rattle.hb_relay.proofs.Reached.{RestsBy, upstream_at, shows_so, streams_on, unmoved, alike, left_same, left_streamed}

-- IT IS ASKED FOR

one_asked : (key : Option Key) (up gate : ℕ) → IsSome key → up ≡ 0 → 0 < gate → HasOne key up gate
one_asked (Some key) up gate is none some = (none, some)
one_asked None up gate is none some = absurd (false≢true is)

pub asks : (gate stream : ℕ) (old new : Relay) → Becomes (λ z. record z { stage = m.opening; gate = gate; stream = stream }) old new
    → Asks gate stream old new
asks gate stream old new becomes =
    meets_still (asked gate stream) old new (λ z. record z { stage = m.opening; gate = gate; stream = stream }) becomes
    (λ a shows may.
    let x = a.link in
    record {
      told = refl;
      counts = counts_at x m.due may.0;
      rest = (tt, one_asked (key_of x.aim) x.up gate may.1 (upstream_at old x shows m.due may.0).0 may.2);
      straight = shows.straight;
    })

-- WHAT IS HEARD ON IT: where it opens, or lives

opens_at : (end : Bool) (x : Captured) (s : Stage) → MayHear s (opens end) x → s ≡ m.opening
opens_at end x m.opening may = refl
opens_at end x m.unborn may = absurd may
opens_at end x m.arriving may = absurd may
opens_at end x m.fronting may = absurd may
opens_at end x m.due may = absurd may
opens_at end x m.accepting may = absurd may
opens_at end x m.live may = absurd may
opens_at end x (m.failed why) may = absurd may
opens_at end x (m.ended why) may = absurd may
opens_at end x (m.over why) may = absurd may

pub brings_at : (bytes : List ℕ) (x : Captured) (s : Stage) → MayHear s (brings bytes) x → (s ≡ m.live) × Fits bytes x
brings_at bytes x m.live may = (refl, may)
brings_at bytes x m.unborn may = absurd may
brings_at bytes x m.arriving may = absurd may
brings_at bytes x m.fronting may = absurd may
brings_at bytes x m.due may = absurd may
brings_at bytes x m.opening may = absurd may
brings_at bytes x m.accepting may = absurd may
brings_at bytes x (m.failed why) may = absurd may
brings_at bytes x (m.ended why) may = absurd may
brings_at bytes x (m.over why) may = absurd may

ends_at : (x : Captured) (s : Stage) → MayHear s response.ends x → s ≡ m.live
ends_at x m.live may = refl
ends_at x m.unborn may = absurd may
ends_at x m.arriving may = absurd may
ends_at x m.fronting may = absurd may
ends_at x m.due may = absurd may
ends_at x m.opening may = absurd may
ends_at x m.accepting may = absurd may
ends_at x (m.failed why) may = absurd may
ends_at x (m.ended why) may = absurd may
ends_at x (m.over why) may = absurd may

pub hears_open : (end : Bool) (old mid new : Relay) (made : Note) → Becomes (λ z. at_stage m.live (told_by (opens end) 0 z)) old mid
    → made ≡ verdict_at mid.number 200 (captured_of mid) → Becomes unnamed mid new → HearsOpen end old new made
hears_open end old mid new made becomes noted takes begun routing = record {
  number = takes.number ∙ becomes.number;
  reaches = λ start before a stands shows so may.
      let x = a.link in
      let b = next a (hears (opens end) begun) in
      let at : x.stage ≡ m.opening = opens_at end x x.stage may.1 in
      subst (λ (r : Routing). Reaches IsInner old.number r b new routing (Some made))
      (sym (unmoved x b.link routing (counts_at x m.opening at)))
      (opened_reach old.number routing b mid new made refl
      (ap (λ (z : Captured). at_stage m.live (told_by (opens end) 0 z)) shows.same ∙ sym becomes.after) takes
      (streams_on (at_stage m.live b.link) may.0, upstream_at old x shows m.opening at) shows.straight
      (noted ∙ ap (λ (l : ℕ). verdict_at l 200 (captured_of mid)) becomes.number));
}

pub hears_bytes : (bytes : List ℕ) (old new : Relay) → Becomes (pushes_down bytes) old new → HearsBytes bytes old new
hears_bytes bytes old new becomes begun =
    meets_still (hears (brings bytes) begun) old new (pushes_down bytes) becomes
    (λ a shows may.
    let at = brings_at bytes a.link a.link.stage may.1 in
    arrive old a.link bytes shows at.0 at.1.0 at.1.1)

-- one that lives on its stream is calm there
pub stays_on : (k : Relay) (x y : Captured) → Shows k x → x.stage ≡ m.live → is_raw x ≡ false → y.stage ≡ x.stage → y.gate ≡ x.gate
    → key_of y.aim ≡ key_of x.aim → y.up ≡ x.up → RestsBy y.stage y
stays_on k x y shows lives on stage gate key up =
    subst (λ (s : Stage). RestsBy s y) (sym (stage ∙ lives)) (
      streams_on y (ap (λ (n : ℕ). n == 0) gate ∙ on),
      subst (λ (n : ℕ). HasOne (key_of y.aim) y.up n) (sym gate)
          (subst (λ (n : ℕ). HasOne (key_of y.aim) n x.gate) (sym up)
          (subst (λ (o : Option Key). HasOne o x.up x.gate) (sym key) (upstream_at k x shows m.live lives))),
    )

pub hears_end : (old new : Relay) → Becomes (told_by response.ends 0) old new → HearsEnd old new
hears_end old new becomes begun =
    meets_still (hears response.ends begun) old new (told_by response.ends 0) becomes
    (λ a shows may.
    let x = a.link in
    let y = (next a (hears response.ends begun)).link in
    record {
      told = refl;
      counts = refl;
      rest = stays_on old x y shows (ends_at x x.stage may.1) may.0 refl refl refl refl;
      straight = shows.straight;
    })

-- WHAT IS PUT ON IT, AND GIVEN BACK

pub puts : (n : ℕ) (old new : Relay) → Becomes (λ z. record z { ways = record z.ways { up = after z.ways.up (way.takes n) } }) old new
    → Puts n old new
puts n old new becomes bytes is =
    meets_still (put bytes) old new (λ z. record z { ways = record z.ways { up = after z.ways.up (way.takes n) } }) becomes
    (λ a shows may.
    let x = a.link in
    record {
      told = ap (λ (k : ℕ). as_told (record x { ways = record x.ways { up = after x.ways.up (way.takes k) } })) is;
      counts = refl;
      rest = stays_on old x (next a (put bytes)).link shows may.0.1 may.0.0 refl refl refl refl;
      straight = shows.straight;
    })

pub finishes : (old new : Relay) → Becomes (λ z. record z { up_shut = true }) old new → Finishes old new
finishes old new becomes =
    meets_still finished old new (λ z. record z { up_shut = true }) becomes
    (λ a shows may. record {
      told = refl;
      counts = refl;
      rest = stays_on old a.link (next a finished).link shows may.0.1 may.0.0 refl refl refl refl;
      straight = shows.straight;
    })

none_owed : counted 0 ≡ 0
none_owed = omega arith

pub credits : (old new : Relay) → Becomes (λ z. record z { owed = 0 }) old new → Credits old new
credits old new becomes n =
    meets_still (credited n) old new (λ z. record z { owed = 0 }) becomes
    (λ a shows may. record {
      told = ap (λ (k : ℕ). record (as_told a.link) { owed = k }) none_owed;
      counts = refl;
      rest = stays_on old a.link (next a (credited n)).link shows may.0.1 may.0.0 refl refl refl refl;
      straight = shows.straight;
    })

-- IT IS DONE

pub completes : (begun : ℕ) (old new : Relay) (before behind : Routing) (made : Note)
    → Becomes (λ z. at_stage (m.over cause.Done) (unstreamed begun z)) old new
    → behind ≡ rerouted (captured_of old) (captured_of new) before → made ≡ end_at new.number cause.Done (captured_of new)
    → Completes begun old before new behind made
completes begun old new before behind made becomes counts noted = record {
  number = becomes.number;
  reaches = λ n is a shows lives through shut.
      let x = a.link in
      let y = (next a (completed n made)).link in
      let z = captured_of old in
      let told : as_told y ≡ captured_of new =
      ap (at_stage (m.over cause.Done)) (left_same n begun x old is shows.same)
      ∙ sym (becomes.after
      ∙ ap (λ (w : Captured). at_stage (m.over cause.Done) w) (left_streamed begun z (sym (ap is_raw shows.same) ∙ lives.0))) in (
        (
          lives,
          through,
          shut,
          noted ∙ ap (λ (l : ℕ). end_at l cause.Done (captured_of new)) becomes.number ∙ ap (end_at old.number cause.Done) (sym told),
        ),
        shows_so new y told (refl, tt) shows.straight,
        counts ∙ alike z (captured_of new) x y before (ap counts_for (sym shows.same)) (ap counts_for (sym told)),
      );
}

-- BYTES WAIT FOR IT

front_some : (part held : List ℕ) → IsFront part held → 0 < length held → 0 < length part
front_some part held is some = by (length part) refl
  where
    by : (n : ℕ) → length part ≡ n → 0 < n
    by (suc n) size = omega arith
    by zero none = (let empty = ap length (is.some none) in omega (arith, empty, some))

front_less : (part held : List ℕ) → IsFront part held → 0 < length part → 0 < length held
front_less part held is some = omega (arith, ap length is.front, length-append part is.rest, some)

pub waiting_so : (k : Relay) (part : List ℕ) (some : Bool) → IsFront part k.ways.ways.up.held
    → (some ≡ true → 0 < length part) → (0 < length part → some ≡ true) → HasWaiting k some
waiting_so k part some front says told x shows =
    let same = ap (λ (w : Captured). w.ways.up.held) shows.same in (
      λ is. subst (λ (bytes : List ℕ). 0 < length bytes) (sym same) (front_less part _ front (says is)),
      λ waits. told (front_some part _ front (subst (λ (bytes : List ℕ). 0 < length bytes) same waits)),
    )
