-- Links that end, and their tunnels with them.
use Rattle.std.proofs.Common.{◌≡◌, ℕ, Option, refl, ap, sym, ◌∙◌, subst}
use Rattle.std.specs.FinMap.{get}
use Rattle.hb_base.specs.declared.cause.Cause.{Cause}
use Rattle.hb_base.specs.declared.cause.Cause.TheVariants as cause
use Rattle.hb_conn.specs.Connection.{Connection}
use Rattle.hb_conn.specs.Observed.{LacksBlock}
use Rattle.hb_world.specs.declared.entry.Entry.TheVariants as e
use Rattle.hb_gateway.specs.Gateway.{Gateway, break_cause, broken_by, stops_by, end_cause, with_phase}
use Rattle.hb_gateway.specs.Gateway as m
use Rattle.hb_gateway.specs.Hears.{hears, after, hearing, left_behind, all_hear}
use Rattle.hb_gateway.specs.Part.{Part, entry, lacked}
use Rattle.hb_gateway.specs.Response as r
use Rattle.hb_gateway.specs.Response.{failed}
use Rattle.hb_gateway.specs.Runs.{Lacks}
use Rattle.hb_inbound.proofs.Lacking.{lacks_held}
use Rattle.hb_gate.specs.Calls.{Enters, LooksLacking}
use Rattle.hb_gate.specs.Phases.{phase_of}
use Rattle.hb_gate.specs.Shows.{Shows, ShowsBy, ShowsStream}
use Rattle.hb_gate.specs.Streams.{Map, EndsFrom}
use Rattle.hb_gate.specs.declared.gate.Gate.{Gate}
use Rattle.hb_gate.specs.declared.phase.Phase.{Phase}
use Rattle.hb_gate.specs.declared.phase.Phase.TheVariants.{Closing}
use Rattle.hb_gate.proofs.Streams.{all_end, some_before}

-- the code's link with another phase, and streams of which each ended; the machine's, whose streams heard that
module _ (k : Gate) (conn : Connection) (phase : Phase) (streams : Map) (why : Cause) (ends : EndsFrom 0 why k.streams streams) where
  abbrev pub now : Gate
  now = record k { conn = conn; phase = phase; streams = streams }

  pub shows_ended : (x : Gateway) (p : Part) (ph : m.Phase) → left_behind p why ≡ r.over
      → ((s : ℕ) → hears x p s ≡ failed why (m.stage_of x s))
      → ph ≡ phase_of phase → ShowsBy ph now (with_phase ph (all_hear p x)) → Shows k x → Shows now (with_phase ph (all_hear p x))
  shows_ended x p ph left heard is way shows = record {
    key = shows.key;
    phase = is;
    way = way;
    away = shows.away;
    streams = λ s.
        subst (λ (h : Option r.Heard). ShowsStream (get streams s) (hearing (after p (m.stage_of x s) h) h (x.streams s))) (sym (heard s))
        (all_end p why left k.streams streams x.streams ends shows.streams shows.numbered s);
    numbered = λ s some. shows.numbered s (some_before 0 k.streams streams why ends s some);
  }

-- it sends no more
pub ends_link : (k : Gate) (streams : Map) (why : Cause) → why ≡ end_cause k.conn
    → EndsFrom 0 cause.PeerGone k.streams streams
    → Enters (entry (e.Ended k.number)) k (record k { phase = Closing why; streams = streams })
ends_link k streams why is ends = (
  refl,
  λ x parts stands shows y step.
      let serving = step.0.1.0.1 in
      let conn = (subst (λ (ph : m.Phase). ShowsBy ph k x) serving shows.way).0 in
      let closing = ap m.closing (ap end_cause conn ∙ sym is) in
      subst (Shows (record k { phase = Closing why; streams = streams })) (sym step.1)
      (shows_ended k k.conn (Closing why) streams cause.PeerGone ends x (entry (e.Ended k.number)) (m.closing (end_cause x.conn)) refl
      (λ s. refl) closing tt shows),
)

-- it broke
broken_shown : (n : Gate) (y : Gateway) (ph : m.Phase) → ShowsBy (broken_by ph) n y
broken_shown n y m.opening = tt
broken_shown n y m.serving = tt
broken_shown n y (m.faulted code) = tt
broken_shown n y (m.closing why) = tt
broken_shown n y m.closed = tt
broken_shown n y m.unborn = tt

pub breaks : (k : Gate) (phase : Phase) (streams : Map) (why : Cause) → phase_of phase ≡ broken_by (phase_of k.phase)
    → why ≡ break_cause (phase_of k.phase) → EndsFrom 0 why k.streams streams
    → Enters (entry (e.Broke k.number)) k (record k { phase = phase; streams = streams })
breaks k phase streams why is cause_is ends = (
  refl,
  λ x parts stands shows y step.
      let n = record k { phase = phase; streams = streams } in
      subst (Shows n) (sym step.1)
      (shows_ended k k.conn phase streams why ends x (entry (e.Broke k.number)) (broken_by x.phase) refl
      (λ s. ap (λ (c : Cause). failed c (m.stage_of x s)) (ap break_cause shows.phase ∙ sym cause_is))
      (ap broken_by shows.phase ∙ sym is) (broken_shown n _ x.phase) shows),
)

-- memory lacks for a header block
pub lacks_memory : (k : Gate) (conn : Connection) (streams : Map) → LacksBlock k.conn → EndsFrom 0 cause.NoMemory k.streams streams
    → LooksLacking k (record k { conn = conn; phase = Closing cause.NoMemory; streams = streams })
lacks_memory k conn streams lacks ends = (
  refl,
  λ x parts stands shows may.
      let way = subst (λ (ph : m.Phase). ShowsBy ph k x) may.serves shows.way in
      let held = lacks_held x.conn way.1 (subst LacksBlock (sym way.0) lacks) in
      record {
        next = with_phase (m.closing cause.NoMemory) (all_hear lacked x);
        steps = (subst (λ (ph : m.Phase). Lacks ph x) (sym may.serves) (may.told, held), refl);
        shows = shows_ended k conn (Closing cause.NoMemory) streams cause.NoMemory ends x lacked (m.closing cause.NoMemory) refl
            (λ s. refl) refl tt shows;
      },
)
