-- Tunnels that their captured links end, and such as are done.
use Rattle.std.proofs.Common.{◌≡◌, inr, ℕ, ◌&&◌, ◌||◌, Bool, true, false, cond, is_some, Option, Some, None, refl, ap, ap₂, sym, ◌∙◌, subst}
use Rattle.std.proofs.lemmas.Bool.{false≢true}
use Rattle.std.specs.Option.{option_map}
use Rattle.std.specs.FinMap.{get}
use Rattle.hb_conn.specs.Connection.{Connection}
use Rattle.hb_conn.specs.Observed.{sides}
use Rattle.hb_kept.specs.Sides.{neither}
use Rattle.hb_streams.specs.declared.sides.Sides.{Sides}
use Rattle.hb_gateway.specs.Gateway.{Gateway, at_stream, at_stage, is_active, dropped_to, stage_of}
use Rattle.hb_gateway.specs.Gateway as m
use Rattle.hb_gateway.specs.Response as r
use Rattle.hb_gateway.specs.Response.{fails, is_living, cancel, carrying}
use Rattle.hb_gate.specs.Calls.{Drops, IsDone}
use Rattle.hb_gate.specs.Phases.{phase_of}
use Rattle.hb_gate.specs.Shows.{Shows, ShowsBy, IsStream, ShowsStream}
use Rattle.hb_gate.specs.Streams.{Map, ChangesAt}
use Rattle.hb_gate.specs.declared.gate.Gate.{Gate}
use Rattle.hb_gate.specs.declared.stream.Stage.TheVariants.{Failing}
use Rattle.hb_gate.specs.declared.stream.Stream.{Stream}
use Rattle.hb_gate.proofs.Moved.{at_shown, numbered_at}
use Rattle.hb_gate.proofs.Seen.{found}

-- a captured link can end the tunnel on a stream; so many of its bytes have begun to go
abbrev pub begun_of : Option Stream → ℕ
begun_of None = 0
begun_of (Some t) = t.begun

-- with other streams
module _ (k : Gate) (streams : Map) where
  abbrev pub with_streams : Gate
  with_streams = record k { streams = streams }

  pub way_same : (x : Gateway) (others : ℕ → m.Stream) (phase : m.Phase) → ShowsBy phase k x
      → ShowsBy phase with_streams (record x { streams = others })
  way_same x others m.opening way = way
  way_same x others m.serving way = way
  way_same x others (m.faulted code) way = way
  way_same x others m.unborn way = tt
  way_same x others (m.closing cause) way = tt
  way_same x others m.closed way = tt

  pub shows_at : (s : ℕ) (o : Option Stream) (change : m.Stream → m.Stream) (x : Gateway) → ChangesAt s o k.streams streams
      → (old : Stream) → get k.streams s ≡ Some old → ShowsStream o (change (x.streams s)) → Shows k x
      → Shows with_streams (at_stream s change x)
  shows_at s o change x changed old there here shows = record {
    key = shows.key;
    phase = shows.phase;
    way = way_same x (at_stream s change x).streams x.phase shows.way;
    away = shows.away;
    streams = at_shown s o k.streams streams changed change x shows.streams here;
    numbered = numbered_at s o k.streams streams changed (shows.numbered s (ap is_some there)) shows.numbered;
  }

module _ (k : Gate) (s : ℕ) (streams : Map) where
  active_by : (x : Gateway) (phase : m.Phase) → ShowsBy phase k x
      → (m.carries phase && is_active x.conn s) ≡ (m.carries phase && is_active k.conn s)
  active_by x m.opening way = ap (λ (c : Connection). is_active c s) way.0
  active_by x m.serving way = ap (λ (c : Connection). is_active c s) way.0
  active_by x (m.faulted code) way = refl
  active_by x m.unborn way = refl
  active_by x (m.closing cause) way = refl
  active_by x m.closed way = refl

  abbrev pub is_reset : Bool
  is_reset = m.carries (phase_of k.phase) && is_active k.conn s

  reset_as : (x : Gateway) → Shows k x → (m.carries x.phase && is_active x.conn s) ≡ is_reset
  reset_as x shows =
      active_by x x.phase shows.way ∙ ap (λ (ph : m.Phase). m.carries ph && is_active k.conn s) shows.phase

  drops : (reset : Bool) (o : Option Stream) (begun : ℕ) → is_reset ≡ reset → begun ≡ begun_of (get k.streams s)
      → ChangesAt s o k.streams streams
      → ((t : m.Stream) (old : Stream) → get k.streams s ≡ Some old → IsStream old t → t.mail ≡ None
      → ShowsStream o (at_stage (cond reset (r.failing cancel) r.over) t))
      → Drops s begun k (with_streams k streams)
  drops reset o begun is counts changed here = (
    refl,
    λ x parts stands shows living told.
        let there = found (get k.streams s) (x.streams s) (shows.streams s) living in
        let to = ap (λ (b : Bool). cond b (r.failing cancel) r.over) (reset_as x shows ∙ is) in (
          (x.streams s).begun,
          there.shown.begun ∙ sym (counts ∙ ap begun_of there.is),
          record {
            next = at_stream s (at_stage (dropped_to s x)) x;
            steps = (living, told, refl, refl);
            shows = shows_at k streams s o (at_stage (dropped_to s x)) x changed there.stream there.is
                (subst (λ (st : r.Stage). ShowsStream o (at_stage st (x.streams s))) (sym to)
                (here (x.streams s) there.stream there.is there.shown told)) shows;
          },
        ),
  )

  -- it is to be reset
  pub drops_reset : (old : Stream) → get k.streams s ≡ Some old → is_reset ≡ true
      → ChangesAt s (Some (record old { stage = Failing cancel })) k.streams streams → Drops s old.begun k (with_streams k streams)
  drops_reset old there is changed =
      drops true (Some (record old { stage = Failing cancel })) old.begun is (sym (ap begun_of there)) changed
      (λ t other is_other shown told.
      let same = sym is_other ∙ there in
      subst (λ (o : Option Stream). ShowsStream (option_map (λ (p : Stream). record p { stage = Failing cancel }) o)
      (at_stage (r.failing cancel) t)) same
      (record { stage = refl; captured = shown.captured; mail = shown.mail; begun = shown.begun }))

  -- or nothing is left of it
  pub drops_gone : (old : Stream) → get k.streams s ≡ Some old → is_reset ≡ false → ChangesAt s None k.streams streams
      → Drops s old.begun k (with_streams k streams)
  drops_gone old there is changed =
      drops false None old.begun is (sym (ap begun_of there)) changed (λ t other is_other shown told. (inr refl, told))

  sides_by : (w : Sides) → (w.own || w.peer) ≡ false → w ≡ neither
  sides_by w is = ap₂ (λ (a b : Bool). record { own = a; peer = b }) (first w.own w.peer is) (second w.own w.peer is)
    where
      first : (a b : Bool) → (a || b) ≡ false → a ≡ false
      first false b is = refl
      first true b is = absurd (false≢true (sym is))

      second : (a b : Bool) → (a || b) ≡ false → b ≡ false
      second false b is = is
      second true b is = absurd (false≢true (sym is))

  -- it is done
  pub is_done : ChangesAt s None k.streams streams → IsDone s (begun_of (get k.streams s)) k (with_streams k streams)
  is_done changed = (
    refl,
    λ x parts stands shows carries stage active waits told.
        let there = found (get k.streams s) (x.streams s) (shows.streams s) (ap is_living stage) in (
          (x.streams s).begun,
          there.shown.begun ∙ sym (ap begun_of there.is),
          record {
            next = at_stream s (at_stage r.over) x;
            steps = (((carries, stage), sides_by (sides x.conn s) active, waits), told, refl, refl);
            shows = shows_at k streams s None (at_stage r.over) x changed there.stream there.is (inr refl, told) shows;
          },
        ),
  )
