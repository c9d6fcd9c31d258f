-- Streams that are reset, one after another.
use Rattle.std.proofs.Common.{◌≡◌, ◌≢◌, ◌⊎◌, inl, inr, ℕ, ◌+◌, ◌^◌, ◌<◌, ◌≤◌, ◌==◌, ◌||◌, Bool, true, false, cond, is_some, IsSome, List, length, Option, Some, None, refl, ap, sym, ◌∙◌, subst, arith}
use Rattle.std.specs.FinMap.{get}
use Rattle.std.proofs.lemmas.Bool.{false≢true, cond_both, cases_eq, cases_lt, eqb-false}
use Rattle.hb_conn.specs.Connection.{Connection, core_of, left_of}
use Rattle.hb_conn.specs.Observed.{aborted, octets_held}
use Rattle.hb_frames.specs.Numbers.{largest}
use Rattle.hb_kept.proofs.Acts.{aborted_over, resets_kept}
use Rattle.hb_kept.proofs.Sides.{reset_ends_both}
use Rattle.hb_streams.specs.declared.sides.Sides.{Sides}
use Rattle.hb_gateway.specs.Calm.{AllReset, is_failing}
use Rattle.hb_gateway.specs.Gateway.{Gateway, at_stage, at_stream, is_active}
use Rattle.hb_gateway.specs.Gateway as m
use Rattle.hb_gateway.specs.Part.{Part, reset}
use Rattle.hb_gateway.specs.Response as r
use Rattle.hb_gateway.specs.Runs.{Steps, StandsFor}
use Rattle.hb_gate.specs.Calls.{Resets, none, more, ResetsAll, AreActive}
use Rattle.hb_gate.specs.Looking.{left_to_look}
use Rattle.hb_gate.specs.Phases.{stage_of}
use Rattle.hb_gate.specs.Resetting.{reset_on, ResetsBy, ResetsFrom, ResetsAt}
use Rattle.hb_gate.specs.Shows.{Shows, IsStream, ShowsStream}
use Rattle.hb_gate.specs.Streams.{Map, ChangesAt, IsNext, kept}
use Rattle.hb_gate.specs.declared.gate.Gate.{Gate}
use Rattle.hb_gate.specs.declared.stream.Stage.{Stage}
use Rattle.hb_gate.specs.declared.stream.Stage.TheVariants.{Asked, Carrying, Failing, Over}
use Rattle.hb_gate.specs.declared.stream.Stream.{Stream}
use Rattle.hb_gate.proofs.Moved.{at_shown, numbered_at, kept_shown}
use Rattle.hb_gate.proofs.Seen.{carried, way_again}
use Rattle.hb_gate.proofs.Walks.{place_of, none_before}

-- one more is reset behind others
resets_then : (l : ℕ) (x y z : Gateway) (s code : ℕ) → Resets l x y → Steps l y (reset s code) z → Resets l x z
resets_then l x y z s code (none is) step = more s code (subst (λ (w : Gateway). Steps l w (reset s code) z) is step) (none refl)
resets_then l x y z s code (more {mid = mid} k why first rest) step = more k why first (resets_then l mid y z s code rest step)

-- what the code has reached: where the machine that it showed carries streams, and a side of each that is to be reset is open, it shows
-- one behind resets, with which none in front of where the walk stands is to be reset
pub record Reached (l : ℕ) (from : ℕ) (x y : Gateway) (now : Gate) : Type 0 where
  pub resets : Resets l x y
  pub shows : Shows now y
  pub carries : m.carries y.phase ≡ true
  pub active : AreActive y
  pub below : (s : ℕ) → s < from → is_failing (m.stage_of y s) ≡ false

abbrev pub ResetsTo : Option ℕ → Gate → Gate → Type 0
ResetsTo from old now =
    (now.number ≡ old.number)
    × ((x : Gateway) (parts : List Part) → StandsFor old.number x parts → Shows old x → m.carries x.phase ≡ true → AreActive x
    → (y : Gateway) × Reached old.number (place_of from) x y now)

-- a stream that the code hasn't, or of which the stage is another, isn't to be reset
none_fails : (t : m.Stream) → ShowsStream None t → is_failing t.stage ≡ false
none_fails t shown = by t.stage shown.0
  where
    by : (st : r.Stage) → (st ≡ r.unused) ⊎ (st ≡ r.over) → is_failing st ≡ false
    by st (inl is) = ap is_failing is
    by st (inr is) = ap is_failing is

gone_calm : (o : Option Stream) (t : m.Stream) → o ≡ None → ShowsStream o t → is_failing t.stage ≡ false
gone_calm o t is shown = none_fails t (subst (λ (p : Option Stream). ShowsStream p t) is shown)

-- the walk begins, and goes on behind a stream that isn't to be reset any more
pub walk_begins : (k : Gate) (next : Option ℕ) → IsNext k.streams 0 next → ResetsTo next k k
walk_begins k next is = (
  refl,
  λ x parts stands shows carries active. (
    x,
    record {
      resets = none refl;
      shows = shows;
      carries = carries;
      active = active;
      below = λ s less. gone_calm (get k.streams s) (x.streams s) (none_before k.streams 0 next is s (omega arith) less) (shows.streams s);
    },
  ),
)

below_next : (k : Gate) (y : Gateway) (n : ℕ) (next : Option ℕ) → Shows k y
    → ((s : ℕ) → s < n + 1 → is_failing (m.stage_of y s) ≡ false) → IsNext k.streams (n + 1) next
    → (s : ℕ) → s < place_of next → is_failing (m.stage_of y s) ≡ false
below_next k y n next shows below is s less = elim (cases_lt s (n + 1)) [
  | inl lower ↦ below s lower
  | inr from ↦ gone_calm (get k.streams s) (y.streams s) (none_before k.streams (n + 1) next is s from less) (shows.streams s)
]

-- a stream that is reset
module _ (k now : Gate) (s code : ℕ) (old : Stream) (there : get k.streams s ≡ Some old) (is : old.stage ≡ Failing code)
    (becomes : now ≡ record k { streams = now.streams; conn = reset_on k.conn s code })
    (changed : ChangesAt s (kept (record old { stage = Over })) k.streams now.streams) (y : Gateway) (shows : Shows k y)
    (carries : m.carries y.phase ≡ true) (active : AreActive y) where
  abbrev z : Gateway
  z = record (at_stream s (at_stage r.over) y) { conn = aborted y.conn s code }

  here : IsStream old (y.streams s)
  here = subst (λ (o : Option Stream). ShowsStream o (y.streams s)) there (shows.streams s)

  to_reset : m.stage_of y s ≡ r.failing code
  to_reset = here.stage ∙ ap stage_of is

  is_open : is_active y.conn s ≡ true
  is_open = active s (ap is_failing to_reset)

  conn_is : aborted y.conn s code ≡ reset_on k.conn s code
  conn_is =
      let same = (carried k y shows carries).conn in
      ap (λ (c : Connection). aborted c s code) same
      ∙ sym (ap (λ (b : Bool). cond b (aborted k.conn s code) k.conn) (sym (ap (λ (c : Connection). is_active c s) same) ∙ is_open))

  shows_reset : Shows now z
  shows_reset =
      let on = carried k y shows carries in
      let mid = record k { streams = now.streams; conn = reset_on k.conn s code } in
      subst (λ (n : Gate). Shows n z) (sym becomes) (record {
        key = shows.key;
        phase = shows.phase;
        way = way_again mid z y.phase carries
            (record { conn = conn_is; kept = resets_kept y.conn s code on.kept; front = on.front });
        away = shows.away;
        streams = at_shown s (kept (record old { stage = Over })) k.streams now.streams changed (at_stage r.over) y shows.streams
            (kept_shown (record old { stage = Over }) (at_stage r.over (y.streams s))
            (record { stage = refl; captured = here.captured; mail = here.mail; begun = here.begun }));
        numbered = numbered_at s (kept (record old { stage = Over })) k.streams now.streams changed
            (shows.numbered s (ap is_some there)) shows.numbered;
      })

  still_active : AreActive z
  still_active j =
      cond_both (j == s) (at_stage r.over (y.streams j)) (y.streams j)
      (λ (t : m.Stream). is_failing t.stage ≡ true → is_active z.conn j ≡ true) (λ same now_fails. absurd (false≢true now_fails))
      (λ apart fails. ap (λ (w : Sides). w.own || w.peer) ((reset_ends_both y.conn s code).others j (eqb-false j s apart)) ∙ active j fails)

  below_reset : ((j : ℕ) → j < s → is_failing (m.stage_of y j) ≡ false) → (j : ℕ) → j < s + 1 → is_failing (m.stage_of z j) ≡ false
  below_reset below j less =
      cond_both (j == s) (at_stage r.over (y.streams j)) (y.streams j) (λ (t : m.Stream). is_failing t.stage ≡ false) (λ same. refl)
      (λ apart. below j (let differs : j ≢ s = eqb-false j s apart in omega (arith, less, differs)))

  reset_steps : Steps k.number y (reset s code) z
  reset_steps = (carries, to_reset, refl)

-- or one that stays
stays_calm : (k : Gate) (y : Gateway) (s : ℕ) (b : Bool) → is_failing (m.stage_of y s) ≡ b → b ≡ false
    → ((j : ℕ) → j < s → is_failing (m.stage_of y j) ≡ false) → (j : ℕ) → j < s + 1 → is_failing (m.stage_of y j) ≡ false
stays_calm k y s b is calm below j less = elim (cases_eq j s) [
  | inl same ↦ ap (λ (n : ℕ). is_failing (m.stage_of y n)) same ∙ is ∙ calm
  | inr apart ↦ below j (omega (arith, apart, less))
]

abbrev Next : (s : ℕ) → (l : ℕ) → Gateway → Gate → Type 0
Next s l x now = (z : Gateway) × Reached l (s + 1) x z now

-- the stream on which the walk stands
resets_by : (k now : Gate) (s l : ℕ) (x y : Gateway) → l ≡ k.number → Reached l s x y k → ResetsAt s k now → Next s l x now
resets_by k now s l x y number reached resets = of (get k.streams s) refl resets
  where
    stays : is_failing (m.stage_of y s) ≡ false → now ≡ k → Next s l x now
    stays calm is = (
      y,
      record {
        resets = reached.resets;
        shows = subst (λ (n : Gate). Shows n y) (sym is) reached.shows;
        carries = reached.carries;
        active = reached.active;
        below = stays_calm k y s (is_failing (m.stage_of y s)) refl calm reached.below;
      },
    )

    calm : (old : Stream) → get k.streams s ≡ Some old → (st : Stage) → old.stage ≡ st → is_failing (stage_of st) ≡ false
        → is_failing (m.stage_of y s) ≡ false
    calm old there st is none_fails =
        let here : IsStream old (y.streams s) =
        subst (λ (o : Option Stream). ShowsStream o (y.streams s)) there (reached.shows.streams s) in
        ap is_failing (here.stage ∙ ap stage_of is) ∙ none_fails

    at : (old : Stream) → get k.streams s ≡ Some old → (st : Stage) → old.stage ≡ st → ResetsBy st old s k now → Next s l x now
    at old there (Failing code) is resets =
        let z = record (at_stream s (at_stage r.over) y) { conn = aborted y.conn s code } in (
          z,
          record {
            resets = resets_then l x y z s code reached.resets
                (subst (λ (n : ℕ). Steps n y (reset s code) z) (sym number)
                (reset_steps k now s code old there is resets.0 resets.1 y reached.shows reached.carries reached.active));
            shows = shows_reset k now s code old there is resets.0 resets.1 y reached.shows reached.carries reached.active;
            carries = reached.carries;
            active = still_active k now s code old there is resets.0 resets.1 y reached.shows reached.carries reached.active;
            below = below_reset k now s code old there is resets.0 resets.1 y reached.shows reached.carries reached.active reached.below;
          },
        )
    at old there Asked is resets = stays (calm old there Asked is refl) resets
    at old there Carrying is resets = stays (calm old there Carrying is refl) resets
    at old there Over is resets = stays (calm old there Over is refl) resets

    of : (o : Option Stream) → get k.streams s ≡ o → ResetsFrom o s k now → Next s l x now
    of None is resets = stays (gone_calm (get k.streams s) (y.streams s) is (reached.shows.streams s)) resets
    of (Some old) is resets = at old is old.stage refl resets

-- what neither the streams nor a reset change
unchanged : (f : Gate → ℕ) (k now : Gate) (s : ℕ)
    → ((streams : Map) (code : ℕ) → f (record k { streams = streams; conn = reset_on k.conn s code }) ≡ f k) → ResetsAt s k now
    → f now ≡ f k
unchanged f k now s same resets = of (get k.streams s) resets
  where
    by : (old : Stream) (st : Stage) → ResetsBy st old s k now → f now ≡ f k
    by old (Failing code) resets = ap f resets.0 ∙ same now.streams code
    by old Asked resets = ap f resets
    by old Carrying resets = ap f resets
    by old Over resets = ap f resets

    of : (o : Option Stream) → ResetsFrom o s k now → f now ≡ f k
    of None resets = ap f resets
    of (Some old) resets = by old old.stage resets

same_number : (k now : Gate) (s : ℕ) → ResetsAt s k now → now.number ≡ k.number
same_number k now s = unchanged (λ (g : Gate). g.number) k now s (λ streams code. refl)

-- what came is still to be looked at behind a reset
pub same_left : (k now : Gate) (s : ℕ) → ResetsAt s k now → left_to_look now ≡ left_to_look k
same_left k now s = unchanged left_to_look k now s (λ streams code. by code (is_active k.conn s))
  where
    by : (code : ℕ) (b : Bool) → left_of (cond b (aborted k.conn s code) k.conn) ≡ left_of k.conn
    by code true =
        ap (λ (over : Bool). length (octets_held k.conn) + cond (is_some k.conn.ended) 1 0 + cond over 0 1)
        (aborted_over (core_of k.conn) s code)
    by code false = refl

pub walk_goes : (k before now : Gate) (s : ℕ) (next : Option ℕ) → ResetsTo (Some s) k before → ResetsAt s before now
    → IsNext now.streams (s + 1) next → ResetsTo next k now
walk_goes k before now s next reached resets is = (
  same_number before now s resets ∙ reached.0,
  λ x parts stands shows carries active.
      let was = reached.1 x parts stands shows carries active in
      let then = resets_by before now s k.number x was.0 (sym reached.0) was.1 resets in (
        then.0,
        record {
          resets = then.1.resets;
          shows = then.1.shows;
          carries = then.1.carries;
          active = then.1.active;
          below = below_next now then.0 s next then.1.shows then.1.below is;
        },
      ),
)

-- behind the walk none is to be reset
pub walk_ends : (k now : Gate) → ResetsTo None k now → ResetsAll k now
walk_ends k now reached = (
  reached.0,
  λ x parts stands shows carries active.
      let was = reached.1 x parts stands shows carries active in
      (was.0, was.1.resets, was.1.shows, all was.0 was.1),
)
  where
    all : {x : Gateway} → (y : Gateway) → Reached k.number (2 ^ 32) x y now → AllReset y
    all y was s = elim (cases_lt s (2 ^ 32)) [
      | inl less ↦ was.below s less
      | inr high ↦ by s (get now.streams s) refl (was.shows.numbered s) high (was.shows.streams s)
    ]
      where
        by : (s : ℕ) (o : Option Stream) → get now.streams s ≡ o → (IsSome (get now.streams s) → s ≤ largest) → 2 ^ 32 ≤ s
            → ShowsStream (get now.streams s) (y.streams s) → is_failing (m.stage_of y s) ≡ false
        by s None is few high shown = gone_calm (get now.streams s) (y.streams s) is shown
        by s (Some old) is few high shown = absurd (let low = few (ap is_some is) in omega (arith, low, high))
