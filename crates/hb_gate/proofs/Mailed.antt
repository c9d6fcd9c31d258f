-- What a tunnel is told of its end.
use Rattle.std.proofs.Common.{◌≡◌, ℕ, ◌<◌, is_some, Option, Some, None, refl, ap, sym, ◌∙◌, subst}
use Rattle.std.specs.Option.{option_map}
use Rattle.std.specs.FinMap.{get}
use Rattle.hb_base.specs.declared.cause.Cause.{Cause}
use Rattle.hb_gateway.specs.Gateway.{Gateway, at_stream}
use Rattle.hb_gateway.specs.Gateway as m
use Rattle.hb_gateway.specs.Response.{fails}
use Rattle.hb_gate.specs.Calls.{TellsEnd}
use Rattle.hb_gate.specs.Shows.{ShowsBy, ShowsStream}
use Rattle.hb_gate.specs.Streams.{Map, ChangesAt, kept, mail_by, mail_on, TakesBy, TakesFrom, TakesMail}
use Rattle.hb_gate.specs.declared.gate.Gate.{Gate}
use Rattle.hb_gate.specs.declared.looking.Mail.{Mail}
use Rattle.hb_gate.specs.declared.stream.Stream.{Stream}
use Rattle.hb_gate.proofs.Moved.{at_shown, numbered_at, kept_shown}
use Rattle.hb_gate.proofs.Walks.{place_of}

module _ (k : Gate) (s : ℕ) (old : Stream) (why : Cause) (streams : Map) (there : get k.streams s ≡ Some old)
    (mail : old.mail ≡ Some why) (changed : ChangesAt s (kept (record old { mail = None })) k.streams streams) where
  way_same : (x : Gateway) (others : ℕ → m.Stream) (phase : m.Phase) → ShowsBy phase k x
      → ShowsBy phase (record k { streams = streams }) (record x { streams = others })
  way_same x others m.opening way = way
  way_same x others m.serving way = way
  way_same x others (m.faulted code) way = way
  way_same x others m.unborn way = tt
  way_same x others (m.closing cause) way = tt
  way_same x others m.closed way = tt

  pub tells_end : TellsEnd s why old.begun old.link k (record k { streams = streams })
  tells_end = (
    refl,
    λ x parts stands shows.
        let shown = subst (λ (o : Option Stream). ShowsStream o (x.streams s)) there (shows.streams s) in
        let change = λ (t : m.Stream). record t { mail = None } in
        let y = at_stream s change x in
        record {
          captured = shown.captured;
          count = (x.streams s).begun;
          counted_is = shown.begun;
          tells = record {
            next = y;
            steps = (shown.mail ∙ ap (option_map fails) mail, refl, refl);
            shows = record {
              key = shows.key;
              phase = shows.phase;
              way = way_same x y.streams x.phase shows.way;
              away = shows.away;
              streams = at_shown s (kept (record old { mail = None })) k.streams streams changed change x shows.streams
                  (kept_shown (record old { mail = None }) (change (x.streams s))
                  (record { stage = shown.stage; captured = shown.captured; mail = refl; begun = shown.begun }));
              numbered = numbered_at s (kept (record old { mail = None })) k.streams streams changed
                  (shows.numbered s (ap is_some there)) shows.numbered;
            };
          };
        },
  )

-- in front of where a walk stands no tunnel is to be told anything
abbrev pub NoMailBelow : Option ℕ → Map → Type 0
NoMailBelow from streams = (s : ℕ) → s < place_of from → mail_on s (get streams s) ≡ None

-- what is taken of a stream
taken_by : (s : ℕ) (k new : Gate) (old : Stream) (mail : Mail) (o : Option Cause) → get k.streams s ≡ Some old → old.mail ≡ o
    → Some mail ≡ mail_by o s old → TakesBy o s old k new → TellsEnd mail.stream mail.cause mail.begun mail.link k new
taken_by s k new old mail None there is told takes = absurd (cc)
taken_by s k new old mail (Some why) there is told takes =
    let same : mail ≡ record { stream = s; link = old.link; cause = why; begun = old.begun } = cc in
    subst (λ (e : Mail). TellsEnd e.stream e.cause e.begun e.link k new) (sym same)
    (subst (λ (n : Gate). TellsEnd s why old.begun old.link k n) (sym takes.0) (tells_end k s old why new.streams there is takes.1))

pub mail_taken : (s : ℕ) (k new : Gate) (mail : Mail) → TakesMail s k (Some mail) new
    → TellsEnd mail.stream mail.cause mail.begun mail.link k new
mail_taken s k new mail takes = by (get k.streams s) refl takes.0 takes.1
  where
    by : (o : Option Stream) → get k.streams s ≡ o → Some mail ≡ mail_on s o → TakesFrom o s k new
        → TellsEnd mail.stream mail.cause mail.begun mail.link k new
    by None is told takes = absurd (cc)
    by (Some old) is told takes = taken_by s k new old mail old.mail is refl told takes
