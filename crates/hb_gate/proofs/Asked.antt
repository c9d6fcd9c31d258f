-- A stream that is asked for.
use Rattle.std.proofs.Common.{◌≡◌, ℕ, ◌≤◌, ◌&&◌, Bool, true, false, cond, Some, None, Ok, Err, refl, ap, sym, ◌∙◌, arith}
use Rattle.std.specs.Prelude.{nat_lt}
use Rattle.std.proofs.lemmas.Bool.Decides.{nat_tests}
use Rattle.std.proofs.lemmas.Bool.{false≢true}
use Rattle.std.specs.FinMap.{insert, remove}
use Rattle.hb_base.specs.declared.target.Target.{Target}
use Rattle.hb_conn.specs.Connection.{Connection}
use Rattle.hb_conn.specs.Observed.{next_stream, opened, streams}
use Rattle.hb_frames.specs.Numbers.{largest}
use Rattle.hb_kept.proofs.Acts.{opens_kept}
use Rattle.hb_streams.specs.Numbers.{next_odd}
use Rattle.hb_streams.specs.declared.fault.OpenFault.TheVariants.{Full, Spent}
use Rattle.hb_gateway.specs.Gateway.{request_of, asked_on, no_stream}
use Rattle.hb_gateway.specs.Gateway as m
use Rattle.hb_gateway.specs.Response as r
use Rattle.hb_gate.specs.Calls.{Asks}
use Rattle.hb_gate.specs.Streams.{ChangesAt}
use Rattle.hb_gate.specs.declared.gate.Gate.{Gate}
use Rattle.hb_gate.specs.declared.stream.Stage.TheVariants as stage
use Rattle.hb_gate.specs.declared.stream.Stream.{Stream}
use Rattle.hb_gate.proofs.Moved.{put_changes, gone_changes, at_shown, numbered_at}
use Rattle.hb_gate.proofs.Seen.{carried, way_again}

abbrev pub asked_of : ℕ → Stream
asked_of captured = record { stage = stage.Asked; link = captured; mail = None; begun = 0 }

both_true : (a b : Bool) → (a && b) ≡ true → a ≡ true
both_true true b is = refl
both_true false b is = absurd (false≢true is)

module _ (k : Gate) (s captured : ℕ) (authority : Target) (conn : Connection) (next : next_stream k.conn ≡ Ok s) (few : s ≤ largest)
    (conn_is : conn ≡ opened k.conn s (request_of authority) false) where
  abbrev now : Gate
  now = record k { conn = conn; streams = insert (remove k.streams s) s (asked_of captured) }

  changed : ChangesAt s (Some (asked_of captured)) k.streams now.streams
  changed =
      let put = put_changes (remove k.streams s) s (asked_of captured) in
      record { here = put.here; others = λ j apart. put.others j apart ∙ (gone_changes k.streams s).others j apart }

  pub asks : Asks s captured authority k now
  asks = (
    refl,
    λ x parts stands shows offers.
        let carries = both_true (m.carries x.phase) _ offers in
        let on = carried k x shows carries in
        let is_next = ap next_stream on.conn ∙ next in
        let y = asked_on s captured authority x in
        record {
          next = y;
          steps = (offers, is_next, refl);
          shows = record {
            key = shows.key;
            phase = shows.phase;
            way = way_again now y x.phase carries (record {
              conn = ap (λ (c : Connection). opened c s (request_of authority) false) on.conn ∙ sym conn_is;
              kept = opens_kept x.conn s (request_of authority) false is_next on.kept;
              front = on.front;
            });
            away = shows.away;
            streams = at_shown s (Some (asked_of captured)) k.streams now.streams changed
                (λ t. record no_stream { stage = r.asked; captured = captured }) x shows.streams
                (record { stage = refl; captured = refl; mail = refl; begun = refl });
            numbered = numbered_at s (Some (asked_of captured)) k.streams now.streams changed few shows.numbered;
          };
        },
  )

-- the number of a stream that is opened has 31 bits
few_by : (full spent : Bool) (n s : ℕ) → nat_lt largest n ≡ spent → cond full (Err Full) (cond spent (Err Spent) (Ok n)) ≡ Ok s
    → s ≤ largest
few_by true spent n s test is = absurd (cc)
few_by false true n s test is = absurd (cc)
few_by false false n s test is =
    let same : n ≡ s = cc in
    let low : n ≤ largest = grind (arith, nat_tests, test) in omega (arith, low, same)

pub next_few : (c : Connection) (s : ℕ) → next_stream c ≡ Ok s → s ≤ largest
next_few c s is = few_by _ (nat_lt largest (next_odd (streams c).highest)) (next_odd (streams c).highest) s refl is
