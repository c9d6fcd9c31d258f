-- What the own steps of the code are to the machine.
use Rattle.std.proofs.Common.{◌≡◌, ◌≢◌, inl, inr, ℕ, ◌<◌, ◌&&◌, ◌==◌, Bool, true, false, cond, List, [], ◌∷◌, Option, Some, None, refl, ap, sym, ◌∙◌, subst, arith}
use Rattle.std.proofs.Math.Bool.{and-false}
use Rattle.std.proofs.lemmas.Bool.{and_parts}
use Rattle.std.proofs.lemmas.List.{append-nil}
use Rattle.hb_base.specs.declared.cause.Cause.{Cause}
use Rattle.hb_base.specs.declared.cause.Cause.TheVariants as cause
use Rattle.hb_base.specs.declared.note.Note.{Note}
use Rattle.hb_held.specs.Held.{Resources}
use Rattle.hb_route.specs.Opens.{Counts}
use Rattle.hb_gateway.specs.Key.{Key}
use Rattle.hb_captured.specs.Answer.{Routing, endpoint_of, key_of}
use Rattle.hb_captured.specs.Calm.{IsCalm, IsCalmBy}
use Rattle.hb_captured.specs.Captured as m
use Rattle.hb_captured.specs.Captured.{Captured, Stage, at_stage, counts_for, ends_by, ends_for, is_judged, is_raw, judges, left_behind, left_by, left_now, name_left, is_through}
use Rattle.hb_captured.specs.Counts.{recounted}
use Rattle.hb_captured.specs.Part.{Part, left, done, loosed, note_if, notes}
use Rattle.hb_captured.specs.Runs.{Local, MayGo, HasEnded, next, counted, failure_status, note_of, left_note, end_note}
use Rattle.hb_relay.specs.declared.relay.Relay.{Relay}
use Rattle.hb_relay.specs.declared.stage.Stage as code
use Rattle.hb_relay.specs.declared.stage.Stage.TheVariants.{Fronting, Due, Opening, Live, Over}
use Rattle.hb_relay.specs.Ending.{ended_now, unstreamed, note_at, end_at}
use Rattle.hb_relay.specs.Moving.{settled, settled_by, note_by}
use Rattle.hb_relay.specs.Reaches.{IsInner, IsRouted, Inner, leaving, Leads, Reaches, rerouted}
use Rattle.hb_relay.specs.Shows.{Shows, Becomes, HasOne, HasUpstream, IsStraight, captured_of, as_told, stage_of}

-- a link that is shown has the code's stage
pub stage_is : (k : Relay) (x : Captured) → as_told x ≡ captured_of k → x.stage ≡ stage_of k.stage
stage_is k x same = ap (λ (y : Captured). y.stage) same

-- LINKS THAT MAY BE SHOWN

-- between two calls it is calm, and has an upstream, a stream or neither
abbrev pub RestsBy : Stage → Captured → Type 0
RestsBy stage x = IsCalmBy stage x × HasUpstream stage (key_of x.aim) x.up x.gate

pub shows_so : (k : Relay) (x : Captured) → as_told x ≡ captured_of k → RestsBy x.stage x → IsStraight x → Shows k x
shows_so k x same rest straight = record { same = same; calm = rest.0; upstream = rest.1; straight = straight }

-- at a stage
pub calm_at : (k : Relay) (x : Captured) → Shows k x → (s : Stage) → x.stage ≡ s → IsCalmBy s x
calm_at k x shows s is = subst (λ (t : Stage). IsCalmBy t x) is shows.calm

pub upstream_at : (k : Relay) (x : Captured) → Shows k x → (s : Stage) → x.stage ≡ s → HasUpstream s (key_of x.aim) x.up x.gate
upstream_at k x shows s is = subst (λ (t : Stage). HasUpstream t (key_of x.aim) x.up x.gate) is shows.upstream

-- what isn't through goes on, and what is on a stream does
pub goes_on : (x : Captured) → is_through x ≡ false → (is_raw x && is_through x) ≡ false
goes_on x is = ap (λ (b : Bool). is_raw x && b) is ∙ and-false (is_raw x)

pub streams_on : (x : Captured) → is_raw x ≡ false → (is_raw x && is_through x) ≡ false
streams_on x on = ap (λ (b : Bool). b && is_through x) on

-- WHETHER IT HAS A STREAM

pub raw_so : (x : Captured) → x.gate ≡ 0 → is_raw x ≡ true
raw_so x is = ap (λ (n : ℕ). n == 0) is

-- one that has an upstream has none
pub one_raw : (key : Option Key) (up gate : ℕ) → HasOne key up gate → 0 < up → gate ≡ 0
one_raw None up gate is some = is.1
one_raw (Some key) up gate is some = absurd (omega (arith, is.0, some))

-- nor does one whose way leads by no gateway
straight_raw : (key : Option Key) (up gate : ℕ) → key ≡ None → HasOne key up gate → gate ≡ 0
straight_raw None up gate none is = is.1
straight_raw (Some key) up gate none is = absurd (cc)

-- one whose peer is judged has none
pub raw_judged : (k : Relay) (x : Captured) → Shows k x → judges x.door ≡ true → is_raw x ≡ true
raw_judged k x shows on = by k.stage refl
  where
    at : (s : code.Stage) → k.stage ≡ s → x.stage ≡ stage_of s
    at s is = stage_is k x shows.same ∙ ap stage_of is

    by : (s : code.Stage) → k.stage ≡ s → is_raw x ≡ true
    by Fronting is = raw_so x (upstream_at k x shows m.fronting (at Fronting is)).1
    by Due is = raw_so x (upstream_at k x shows m.due (at Due is)).1
    by Opening is =
        raw_so x (straight_raw (key_of x.aim) x.up x.gate (shows.straight on) (upstream_at k x shows m.opening (at Opening is)))
    by Live is =
        raw_so x (straight_raw (key_of x.aim) x.up x.gate (shows.straight on) (upstream_at k x shows m.live (at Live is)))
    by (Over why) is = calm_at k x shows (m.over why) (at (Over why) is)

-- COUNTS

counted_again : (name : Option (List ℕ)) (opens : Counts) → recounted name name opens ≡ opens
counted_again None opens = refl
counted_again (Some name) opens = refl

-- a step behind which a link counts for the same endpoint leaves the counts
pub unmoved : (x y : Captured) (routing : Routing) → counts_for x ≡ counts_for y → rerouted x y routing ≡ routing
unmoved x y routing is =
    ap (λ (name : Option (List ℕ)). record routing { opens = recounted (counts_for x) name routing.opens }) (sym is)
    ∙ ap (λ (opens : Counts). record routing { opens = opens }) (counted_again (counts_for x) routing.opens)

-- steps between links that count for the same endpoints make the same of them
pub alike : (x y v w : Captured) (routing : Routing) → counts_for x ≡ counts_for v → counts_for y ≡ counts_for w
    → rerouted x y routing ≡ rerouted v w routing
alike x y v w routing before behind =
    ap (λ (name : Option (List ℕ)). record routing { opens = recounted name (counts_for y) routing.opens }) before
    ∙ ap (λ (name : Option (List ℕ)). record routing { opens = recounted (counts_for v) name routing.opens }) behind

-- at one of two stages that both are judged, or both aren't, it counts for the same
pub stage_counts : (x : Captured) (s t : Stage) → is_judged s ≡ is_judged t → counts_for (at_stage s x) ≡ counts_for (at_stage t x)
stage_counts x s t is = ap (λ (b : Bool). cond b (endpoint_of x.aim) None) is

left_judged : (s : Stage) → is_judged (left_by s) ≡ is_judged s
left_judged m.unborn = refl
left_judged m.arriving = refl
left_judged m.fronting = refl
left_judged m.due = refl
left_judged m.opening = refl
left_judged m.accepting = refl
left_judged m.live = refl
left_judged (m.failed why) = refl
left_judged (m.ended why) = refl
left_judged (m.over why) = refl

-- WHAT FOLLOWS

-- nothing follows
pub rests : (I : Inner) (l : ℕ) (routing : Routing) (a : Local) (k : Relay) (behind : Routing) (made : Option Note) → behind ≡ routing
    → as_told a.link ≡ captured_of k → RestsBy a.link.stage a.link → IsStraight a.link → made ≡ None → Reaches I l routing a k behind made
rests I l routing a k behind made counts same rest straight none = record {
  parts = [];
  reached = a;
  leads = (refl, counts);
  shows = shows_so k a.link same rest straight;
  noted = sym (ap note_if none);
}

-- one part follows
pub follows : (I : Inner) (l : ℕ) (routing : Routing) (a : Local) (k : Relay) (behind : Routing) (p : Part) (made : Option Note) → I p
    → IsRouted routing p → MayGo l a p → behind ≡ rerouted a.link (next a p).link routing → as_told (next a p).link ≡ captured_of k
    → RestsBy (next a p).link.stage (next a p).link → IsStraight (next a p).link → notes (p ∷ []) ≡ note_if made
    → Reaches I l routing a k behind made
follows I l routing a k behind p made inner routed may counts same rest straight noted = record {
  parts = p ∷ [];
  reached = next a p;
  leads = (inner, routed, may, (refl, counts));
  shows = shows_so k (next a p).link same rest straight;
  noted = noted;
}

-- AN END, which is noted at once, of a link that has no stream, or has left it

ends_is : (x : Captured) (old new : Relay) (why : Cause) → as_told x ≡ captured_of old → Becomes (ended_now why) old new
    → as_told (left_now (ends_for why x)) ≡ captured_of new
ends_is x old new why same becomes = ap (ended_now why) same ∙ sym becomes.after

-- one that is over is left as it was
pub left_over : (y : Captured) (last : Cause) → y.stage ≡ m.over last → left_now y ≡ y
left_over y last is =
    ap (λ (s : Stage). record y { stage = left_by s; identity = name_left s y.identity }) is ∙ ap (λ (s : Stage). at_stage s y) (sym is)

left_counts : (x : Captured) (why : Cause) → counts_for (ends_for why x) ≡ counts_for (left_now (ends_for why x))
left_counts x why = stage_counts x (ends_by why x.stage) (left_by (ends_by why x.stage)) (sym (left_judged (ends_by why x.stage)))

-- the end itself is what it does to the counts
pub ends_counted : (x : Captured) (old new : Relay) (why : Cause) → as_told x ≡ captured_of old → Becomes (ended_now why) old new
    → (routing : Routing) → rerouted (captured_of old) (captured_of new) routing ≡ rerouted x (ends_for why x) routing
ends_counted x old new why same becomes routing =
    alike (captured_of old) (captured_of new) x (ends_for why x) routing (ap counts_for (sym same))
    (ap counts_for (sym (ends_is x old new why same becomes)) ∙ sym (left_counts x why))

module _ (I : Inner) (inner : (p : Part) → IsInner p → I p) (l : ℕ) (held : Resources) (x : Captured) (old new : Relay) (why : Cause)
    (made : Option Note) (same : as_told x ≡ captured_of old) (raw : is_raw x ≡ true) (straight : IsStraight x)
    (becomes : Becomes (ended_now why) old new) (noted : made ≡ note_at l why (captured_of old) (stage_of old.stage)) where
  note_is : (s : Option ℕ) → note_of l (captured_of old) s ≡ note_of l x s
  note_is None = refl
  note_is (Some status) = ap (λ (y : Captured). note_of l y (Some status)) (sym same)

  -- behind its note it is over
  ends_over : (last : Cause) → left_by (ends_by why x.stage) ≡ m.over last
      → RestsBy (left_by (ends_by why x.stage)) (left_now (ends_for why x))
  ends_over last is = subst (λ (s : Stage). RestsBy s (left_now (ends_for why x))) (sym is) (raw, tt)

  pub ends_reach : (routing behind : Routing) → behind ≡ routing
      → Reaches I l routing (record { held = held; link = ends_for why x }) new behind made
  ends_reach routing behind counts = by old.stage refl
    where
      a : Local
      a = record { held = held; link = ends_for why x }

      -- it had ended, or has no tunnel
      early : (s : code.Stage) → old.stage ≡ s → (last : Cause) → ends_by why (stage_of s) ≡ m.over last
          → note_at l why (captured_of old) (stage_of s) ≡ None → Reaches I l routing a new behind made
      early s is last ends none =
          let at : ends_by why x.stage ≡ m.over last = ap (ends_by why) (stage_is old x same ∙ ap stage_of is) ∙ ends in
          rests I l routing a new behind made counts
          (ap as_told (sym (left_over (ends_for why x) last at)) ∙ ends_is x old new why same becomes)
          (subst (λ (t : Stage). RestsBy t (ends_for why x)) (sym at) (raw, tt)) straight
          (noted ∙ ap (λ (t : code.Stage). note_at l why (captured_of old) (stage_of t)) is ∙ none)

      -- its note follows
      late : (s : code.Stage) → old.stage ≡ s → left_by (ends_by why (stage_of s)) ≡ m.over why
          → left_note l (ends_for why x) (ends_by why (stage_of s)) made → Reaches I l routing a new behind made
      late s is ends note =
          let at : x.stage ≡ stage_of s = stage_is old x same ∙ ap stage_of is in
          follows I l routing a new behind (left made) made (inner (left made) tt) tt
          (subst (λ (t : Stage). left_note l (ends_for why x) (ends_by why t) made) (sym at) note, raw)
          (counts ∙ sym (unmoved (ends_for why x) (left_now (ends_for why x)) routing (left_counts x why)))
          (ends_is x old new why same becomes)
          (ends_over why (ap (λ (t : Stage). left_by (ends_by why t)) at ∙ ends)) straight (append-nil (note_if made))

      by : (s : code.Stage) → old.stage ≡ s → Reaches I l routing a new behind made
      by Fronting is = early Fronting is why refl refl
      by (Over first) is = early (Over first) is first refl refl
      by Due is =
          late Due is refl
          (noted ∙ ap (λ (s : code.Stage). note_at l why (captured_of old) (stage_of s)) is ∙ note_is (failure_status why))
      by Opening is =
          late Opening is refl
          (noted ∙ ap (λ (s : code.Stage). note_at l why (captured_of old) (stage_of s)) is ∙ note_is (failure_status why))
      by Live is =
          late Live is refl
          (noted ∙ ap (λ (s : code.Stage). note_at l why (captured_of old) (stage_of s)) is
          ∙ ap (λ (y : Captured). Some (end_at l why y)) (sym same))

-- AN END, behind which it leaves its stream, where it has one

left_raw : (begun : ℕ) (z : Captured) → is_raw z ≡ true → unstreamed begun z ≡ z
left_raw begun z raw = ap (λ (b : Bool). cond b z (left_behind begun z)) raw

pub left_streamed : (begun : ℕ) (z : Captured) → is_raw z ≡ false → unstreamed begun z ≡ left_behind begun z
left_streamed begun z on = ap (λ (b : Bool). cond b z (left_behind begun z)) on

-- it stays at its stage
pub stage_left : (begun : ℕ) (z : Captured) → (unstreamed begun z).stage ≡ z.stage
stage_left begun z = by (is_raw z)
  where
    by : (b : Bool) → (cond b z (left_behind begun z)).stage ≡ z.stage
    by true = refl
    by false = refl

-- AN END BEHIND THAT, step by step
module _ (begun : ℕ) (why : Cause) (old mid new : Relay) (leaves : Becomes (unstreamed begun) old mid)
    (ends : Becomes (ended_now why) mid new) where
  pub ends_behind : Becomes (λ z. ended_now why (unstreamed begun z)) old new
  ends_behind = record { number = ends.number ∙ leaves.number; after = ends.after ∙ ap (ended_now why) leaves.after }

  pub notes_behind : (made : Option Note) → made ≡ note_at mid.number why (captured_of mid) (stage_of mid.stage)
      → made ≡ note_at old.number why (unstreamed begun (captured_of old)) (stage_of old.stage)
  notes_behind made noted =
      noted ∙ ap (λ (l : ℕ). note_at l why (captured_of mid) (captured_of mid).stage) leaves.number
      ∙ ap (λ (z : Captured). note_at old.number why z z.stage) leaves.after
      ∙ ap (note_at old.number why (unstreamed begun (captured_of old))) (stage_left begun (captured_of old))

-- the code behind its stream
abbrev pub behind_stream : ℕ → Relay → Relay
behind_stream begun old = record old { gate = 0; gate_stream = 0; went_up = begun }

pub left_same : (n begun : ℕ) (x : Captured) (old : Relay) → counted n ≡ begun → as_told x ≡ captured_of old
    → as_told (left_behind n x) ≡ captured_of (behind_stream begun old)
left_same n begun x old is same =
    ap (λ (k : ℕ). record (as_told x) { gate = 0; stream = 0; went_up = k }) is ∙ ap (left_behind begun) same

ended_so : (why : Cause) (s : code.Stage) → HasEnded (ends_by why (stage_of s))
ended_so why Fronting = tt
ended_so why Due = tt
ended_so why Opening = tt
ended_so why Live = tt
ended_so why (Over first) = tt

module _ (begun l : ℕ) (x : Captured) (old new : Relay) (why : Cause) (made : Option Note) (same : as_told x ≡ captured_of old)
    (straight : IsStraight x) (becomes : Becomes (λ z. ended_now why (unstreamed begun z)) old new)
    (noted : made ≡ note_at l why (unstreamed begun (captured_of old)) (stage_of old.stage)) where
  raw_told : (b : Bool) → is_raw x ≡ b → is_raw (captured_of old) ≡ b
  raw_told b is = sym (ap is_raw same) ∙ is

  -- without a stream
  raw_becomes : is_raw x ≡ true → Becomes (ended_now why) old new
  raw_becomes raw = record {
    number = becomes.number;
    after = becomes.after ∙ ap (ended_now why) (left_raw begun (captured_of old) (raw_told true raw));
  }

  pub raw_ends : (I : Inner) → ((p : Part) → IsInner p → I p) → is_raw x ≡ true → (held : Resources) (routing behind : Routing)
      → behind ≡ routing → Reaches I l routing (record { held = held; link = ends_for why x }) new behind made
  raw_ends I inner raw held =
      ends_reach I inner l held x old new why made same raw straight (raw_becomes raw)
      (noted ∙ ap (λ (z : Captured). note_at l why z (stage_of old.stage)) (left_raw begun (captured_of old) (raw_told true raw)))

  -- behind its stream
  streamed_becomes : is_raw x ≡ false → Becomes (ended_now why) (behind_stream begun old) new
  streamed_becomes on = record {
    number = becomes.number;
    after = becomes.after ∙ ap (ended_now why) (left_streamed begun (captured_of old) (raw_told false on));
  }

  pub streamed_ends : (n : ℕ) → counted n ≡ begun → (I : Inner) → ((p : Part) → IsInner p → I p) → is_raw x ≡ false → (held : Resources)
      (routing behind : Routing) → behind ≡ routing
      → Reaches I l routing (record { held = held; link = left_behind n (ends_for why x) }) new behind made
  streamed_ends n is I inner on held =
      ends_reach I inner l held (left_behind n x) (behind_stream begun old) new why made (left_same n begun x old is same) refl straight
      (streamed_becomes on)
      (noted ∙ ap (λ (z : Captured). note_at l why z (stage_of old.stage)) (left_streamed begun (captured_of old) (raw_told false on)))

  -- either way it is the end that is counted
  pub leaves_counted : (n : ℕ) → counted n ≡ begun → (routing : Routing)
      → rerouted (captured_of old) (captured_of new) routing ≡ rerouted x (ends_for why x) routing
  leaves_counted n is routing = by (is_raw x) refl
    where
      by : (b : Bool) → is_raw x ≡ b → rerouted (captured_of old) (captured_of new) routing ≡ rerouted x (ends_for why x) routing
      by true raw = ends_counted x old new why same (raw_becomes raw) routing
      by false on =
          ends_counted (left_behind n x) (behind_stream begun old) new why (left_same n begun x old is same) (streamed_becomes on) routing

  pub leaves_reach : (n : ℕ) → counted n ≡ begun → (held : Resources) (routing behind : Routing) → behind ≡ routing
      → Reaches (leaving n) l routing (record { held = held; link = ends_for why x }) new behind made
  leaves_reach n is held routing behind counts = by (is_raw x) refl
    where
      a : Local
      a = record { held = held; link = ends_for why x }

      b : Local
      b = next a (loosed n)

      by : (b : Bool) → is_raw x ≡ b → Reaches (leaving n) l routing a new behind made
      by true raw = raw_ends (leaving n) (λ p inner. inl inner) raw held routing behind counts
      by false on =
          let rest = streamed_ends n is (leaving n) (λ p inner. inl inner) on held routing behind counts in
          let still : rerouted a.link b.link routing ≡ routing = unmoved a.link b.link routing refl in
          record {
            parts = loosed n ∷ rest.parts;
            reached = rest.reached;
            leads = (
              inr refl,
              tt,
              (on, subst (λ (s : Stage). HasEnded (ends_by why s)) (sym (stage_is old x same)) (ended_so why old.stage)),
              subst (λ (r : Routing). Leads (leaving n) l r b rest.parts rest.reached behind) (sym still) rest.leads,
            );
            shows = rest.shows;
            noted = rest.noted;
          }

-- IT IS DONE, where it is

module _ (l : ℕ) (routing : Routing) (a : Local) (mid new : Relay) (behind : Routing) (made : Option Note)
    (same : as_told a.link ≡ captured_of mid) (becomes : Becomes settled mid new)
    (noted : made ≡ note_by l (stage_of mid.stage) (captured_of mid))
    (counts : behind ≡ rerouted (captured_of mid) (captured_of new) routing)
    (upstream : HasUpstream a.link.stage (key_of a.link.aim) a.link.up a.link.gate) (straight : IsStraight a.link) where
  -- it stays as it was
  stays : captured_of new ≡ captured_of mid → IsCalm a.link → made ≡ None → Reaches IsInner l routing a new behind made
  stays now calm none =
      rests IsInner l routing a new behind made
      (counts ∙ unmoved (captured_of mid) (captured_of new) routing (ap counts_for (sym now)))
      (same ∙ sym now) (calm, upstream) straight none

  settles_live : mid.stage ≡ Live → (b : Bool) → (is_raw (captured_of mid) && is_through (captured_of mid)) ≡ b
      → Reaches IsInner l routing a new behind made
  settles_live is true all =
      let at : a.link.stage ≡ m.live = stage_is mid a.link same ∙ ap stage_of is in
      let parts = and_parts (is_raw (captured_of mid)) (is_through (captured_of mid)) all in
      let raw : is_raw a.link ≡ true = ap is_raw same ∙ parts.0 in
      let through : is_through a.link ≡ true = ap is_through same ∙ parts.1 in
      let now : captured_of new ≡ at_stage (m.over cause.Done) (captured_of mid) =
      becomes.after ∙ ap (λ (s : Stage). settled_by s (captured_of mid)) (ap stage_of is)
      ∙ ap (λ (b : Bool). cond b (at_stage (m.over cause.Done) (captured_of mid)) (captured_of mid)) all in
      let note_so : made ≡ Some (end_at l cause.Done (captured_of mid)) =
      noted ∙ ap (λ (s : code.Stage). note_by l (stage_of s) (captured_of mid)) is
      ∙ ap (λ (b : Bool). cond b (Some (end_at l cause.Done (captured_of mid))) None) all in
      follows IsInner l routing a new behind (done (end_note l cause.Done a.link.went_up a.link.went_down)) made tt tt
      (at, raw, through, refl)
      (counts
      ∙ alike (captured_of mid) (captured_of new) a.link (at_stage (m.over cause.Done) a.link) routing (ap counts_for (sym same))
      (ap counts_for now))
      (ap (at_stage (m.over cause.Done)) same ∙ sym now) (raw, tt) straight
      (sym (ap note_if (note_so ∙ ap (λ (y : Captured). Some (end_at l cause.Done y)) (sym same))))
  settles_live is false all =
      let at : a.link.stage ≡ m.live = stage_is mid a.link same ∙ ap stage_of is in
      stays
      (becomes.after ∙ ap (λ (s : Stage). settled_by s (captured_of mid)) (ap stage_of is)
      ∙ ap (λ (b : Bool). cond b (at_stage (m.over cause.Done) (captured_of mid)) (captured_of mid)) all)
      (subst (λ (s : Stage). IsCalmBy s a.link) (sym at) (ap (λ (y : Captured). is_raw y && is_through y) same ∙ all))
      (noted ∙ ap (λ (s : code.Stage). note_by l (stage_of s) (captured_of mid)) is
      ∙ ap (λ (b : Bool). cond b (Some (end_at l cause.Done (captured_of mid))) None) all)

  -- where it doesn't live it is calm
  pub settles_reach : ((stage : Stage) → a.link.stage ≡ stage → stage ≢ m.live → IsCalm a.link)
      → Reaches IsInner l routing a new behind made
  settles_reach calm = by mid.stage refl
    where
      other : (s : code.Stage) → mid.stage ≡ s → stage_of s ≢ m.live → settled_by (stage_of s) (captured_of mid) ≡ captured_of mid
          → note_by l (stage_of s) (captured_of mid) ≡ None → Reaches IsInner l routing a new behind made
      other s is not same_link none =
          stays (becomes.after ∙ ap (λ (t : code.Stage). settled_by (stage_of t) (captured_of mid)) is ∙ same_link)
          (calm (stage_of s) (stage_is mid a.link same ∙ ap stage_of is) not)
          (noted ∙ ap (λ (t : code.Stage). note_by l (stage_of t) (captured_of mid)) is ∙ none)

      by : (s : code.Stage) → mid.stage ≡ s → Reaches IsInner l routing a new behind made
      by Live is = settles_live is (is_raw (captured_of mid) && is_through (captured_of mid)) refl
      by Fronting is = other Fronting is (λ no. cc) refl refl
      by Due is = other Due is (λ no. cc) refl refl
      by Opening is = other Opening is (λ no. cc) refl refl
      by (Over why) is = other (Over why) is (λ no. cc) refl refl
