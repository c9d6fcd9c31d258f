-- A tunnel is told once that the gateway ended its side; in every run.
use Rattle.std.proofs.Common.{◌≡◌, ◌≢◌, ◌⊎◌, inl, inr, ℕ, ◌≤◌, ◌==◌, ◌&&◌, ◌||◌, not, nat_lt, Bool, true, false, cond, List, Option, Some, None, refl, ap, sym, ◌∙◌, subst, arith}
use Rattle.std.proofs.lemmas.Bool.{cond_both, eqb-true, eq-eqb, ne_eqb, false≢true}
use Rattle.std.specs.List.{flat_map}
use Rattle.hb_base.specs.declared.cause.Cause.{Cause}
use Rattle.hb_base.specs.declared.cause.Cause.TheVariants as cause
use Rattle.hb_captured.specs.Captured as captured
use Rattle.hb_captured.specs.Captured.{Captured, is_raw, judges, is_judged, came_by, entered, up_entered, judged_by, rejudged, told_by, ends_if}
use Rattle.hb_captured.specs.Part as part
use Rattle.hb_captured.specs.Part.{Part}
use Rattle.hb_captured.specs.Runs.{MayGo, UpMayCome, next_link}
use Rattle.hb_conn.specs.Connection.{Connection, Finds, FindsWhile, FindsOf, FindsAfter, FindsBy, ended_by}
use Rattle.hb_conn.specs.Preface.{is_whole}
use Rattle.hb_conn.specs.Receiving.{pauses}
use Rattle.hb_conn.specs.Observed as observed
use Rattle.hb_conn.specs.Observed.{sides, data_put, end_put, aborted}
use Rattle.hb_conn.specs.declared.found.Found.{Found}
use Rattle.hb_conn.specs.declared.found.Found.TheVariants as found
use Rattle.hb_gateway.proofs.Asking.{all_know, step_rises, number_above}
use Rattle.hb_gateway.proofs.Numbered.{data_of_used}
use Rattle.hb_gateway.proofs.Runs.{all_keep}
use Rattle.hb_gateway.specs.Calm.{AllTold}
use Rattle.hb_gateway.specs.Connections.{conn_went}
use Rattle.hb_gateway.specs.Gateway.{Gateway, Phase, Stream, carries, no_stream, at_stage, stage_of, settled, is_active, dropped_to, break_cause, request_of}
use Rattle.hb_gateway.specs.Hears.{left_behind, after, all_hear, hears, hears_call, posted}
use Rattle.hb_gateway.specs.Part as gateway
use Rattle.hb_gateway.specs.Part.{moves, tellings, link_came}
use Rattle.hb_gateway.specs.Response as response
use Rattle.hb_gateway.specs.Response.{Stage, unused, asked, carrying, failing, over, Heard, opens, brings, fails, is_living, heard_of, failed, headed, brought, ended, is_success, refusal_of}
use Rattle.hb_gateway.specs.Runs as gateways
use Rattle.hb_held.specs.Held.{Resources}
use Rattle.hb_held.specs.Outcome.{after_response}
use Rattle.hb_history.specs.Points as history
use Rattle.hb_history.specs.Points.{data_in}
use Rattle.hb_hpack.specs.declared.header.Header.{Header}
use Rattle.hb_kept.proofs.CreditableRuns.{looks_add_as}
use Rattle.hb_kept.proofs.Sides.{finds_sides, use_leaves_all}
use Rattle.hb_kept.specs.Creditable.{CreditableBehind}
use Rattle.hb_kept.specs.Numbers.{highest_used}
use Rattle.hb_kept.specs.Sides.{peer_ends, SidesBehind}
use Rattle.hb_model.specs.Discovery.{status_of, is_interim}
use Rattle.hb_model.specs.Point as point
use Rattle.hb_model.specs.declared.config.NodeConfig.{NodeConfig}
use Rattle.hb_streams.specs.declared.role.Role.TheVariants.{Client}
use Rattle.hb_streams.specs.declared.sides.Sides.{Sides}
use Rattle.hb_table.specs.Judgement.{judged}
use Rattle.hb_table.specs.declared.judgement.Judged.{Judged}
use Rattle.hb_table.specs.declared.judgement.Judged.TheVariants.{Admitted, Unknown, Denied}
use Rattle.hb_world.specs.declared.entry.Entry.{Entry}
use Rattle.hb_world.specs.declared.entry.Entry.TheVariants as e
use Rattle.hb_proxy.proofs.Aims.{aims_fit, is_asked}
use Rattle.hb_proxy.proofs.Closing.{IsClosing, finds_closed}
use Rattle.hb_proxy.proofs.Fitting.{Follows, closed_so, mail_ends, write_follows, put_follows, end_follows, reset_follows, open_follows}
use Rattle.hb_proxy.proofs.Gates.{gates_run}
use Rattle.hb_proxy.proofs.Streams.{PlainKeeps, part_keeps, seen_keeps, none_at_zero, runs_agree}
use Rattle.hb_proxy.proofs.Tunnels.{goes_on_with, lives_on, mails_fit, some_told, unused_free}
use Rattle.hb_proxy.specs.Machine.{Machine, plain_local, with_control, plain_seen_by, gate_seen_by}
use Rattle.hb_proxy.specs.Points.{Point, of_control, of_link, of_plain, of_gate, of_stream, gates_of}
use Rattle.hb_proxy.specs.Runs.{ControlGuard, GateGuard, PlainGuard, StreamGuard, Steps, StandsFor, begins, goes_on}
use Rattle.hb_proxy.specs.Streams.{HasTunnel}
use Rattle.hb_proxy.specs.Shared.{Shared, asks, tells, puts, finishes, credits, drops, completes, captured_part, gateway_part}
use Rattle.hb_tunnel.specs.Way.{Way}
use Rattle.hb_relays.proofs.Awaiting.{come_told, lacks_told, no_up_so, other_stream}

-- AN END THAT IS STILL TO BE TOLD is of a stream that was used
ended_of : (told : Found) (s : ℕ) → ended_by told ≡ Some s → told ≡ found.Chunk s true
ended_of (found.Chunk k true) s is = (let same : k ≡ s = cc in ap (λ (n : ℕ). found.Chunk n true) same)
ended_of (found.Chunk k false) s is = absurd cc
ended_of found.Silent s is = absurd cc
ended_of (found.Opened k end) s is = absurd cc
ended_of (found.Ended k) s is = absurd cc
ended_of (found.Reset k code) s is = absurd cc
ended_of (found.Broken k code) s is = absurd cc
ended_of (found.GoneAway last) s is = absurd cc
ended_of (found.Fault code) s is = absurd cc

-- nothing was found, or DATA that ends the stream
abbrev Pends : Connection → Connection → Found → ℕ → Type 0
Pends c d told s = ((d ≡ c) × (told ≡ found.Silent)) ⊎ (told ≡ found.Chunk s true)

finds_pends : (c d : Connection) (told : Found) (s : ℕ) → Finds c d told → d.ended ≡ Some s → Pends c d told s
finds_pends c d told s finds at = by_pause (pauses c.receiver.core) finds
  where
    by_same : (b : Bool) → c.ended ≡ None → FindsBy b c d told → Pends c d told s
    by_same false none is = absurd (let no : Some s ≡ None = sym at ∙ ap (λ (k : Connection). k.ended) is.1 ∙ none in cc no)
    by_same true none is = inr (ended_of told s (sym is.2 ∙ at))

    by_whole : (b : Bool) → c.ended ≡ None → FindsAfter b c d told → Pends c d told s
    by_whole false none is = inl is
    by_whole true none is = by_same c.preface.same none is

    by_end : (o : Option ℕ) → c.ended ≡ o → FindsOf o c d told → Pends c d told s
    by_end (Some k) was is = absurd (let no : Some s ≡ None = sym at ∙ ap (λ (k : Connection). k.ended) is.0 in cc no)
    by_end None was is = by_whole (is_whole c.preface) was is

    by_pause : (b : Bool) → FindsWhile b c d told → Pends c d told s
    by_pause true is = inl is
    by_pause false is = by_end c.ended refl is

abbrev EndsUsed : Connection → Type 0
EndsUsed c = (s : ℕ) → c.ended ≡ Some s → s ≤ highest_used c

entered_ended : (call : Entry) (z : Gateway) → (gateways.entered call z).conn.ended ≡ z.conn.ended
entered_ended (e.Opened k) z = refl
entered_ended (e.Came k bytes) z = refl
entered_ended (e.Ended k) z = refl
entered_ended (e.Went k bytes) z = refl
entered_ended (e.Broke k) z = refl
entered_ended (e.Closed k why) z = refl
entered_ended call z = refl

step_used : (g : ℕ) (x : Gateway) (parts : List gateway.Part) → gateways.StandsFor g x parts → EndsUsed x.conn → (p : gateway.Part)
    (y : Gateway) → gateways.Steps g x p y → EndsUsed y.conn
step_used g x parts stands used p y steps = by p steps (step_rises g x y p steps)
  where
    same : highest_used x.conn ≤ highest_used y.conn → y.conn.ended ≡ x.conn.ended → EndsUsed y.conn
    same rises is s at = (let low = used s (sym is ∙ at) in omega (arith, low, rises))

    by : (p : gateway.Part) → gateways.Steps g x p y → highest_used x.conn ≤ highest_used y.conn → EndsUsed y.conn
    by (gateway.entry call) steps rises =
        same rises (ap (λ (z : Gateway). z.conn.ended) steps.1 ∙ entered_ended call (all_hear (gateway.entry call) x))
    by (gateway.looked ps told headers) steps rises =
        subst EndsUsed (sym (ap (λ (z : Gateway). z.conn) steps.6))
        (λ s at. of s (finds_pends x.conn steps.3 told s steps.4.finds at) at)
      where
        of : (s : ℕ) → Pends x.conn steps.3 told s → steps.3.ended ≡ Some s → s ≤ highest_used steps.3
        of s (inl is) = subst (λ (c : Connection). c.ended ≡ Some s → s ≤ highest_used c) (sym is.0) (used s)
        of s (inr is) = λ at.
            data_of_used (moves parts) (tellings parts) (link_came parts) (conn_went parts) x.conn steps.3 s true
            (all_keep g x parts stands).stands (subst (λ (t : Found). Finds x.conn steps.3 t) is steps.4.finds)
    by (gateway.dialled call key) steps rises = same rises (ap (λ (z : Gateway). z.conn.ended) steps.1)
    by gateway.lacked steps rises = same rises (ap (λ (z : Gateway). z.conn.ended) steps.1)
    by (gateway.asks k link authority) steps rises = same rises (ap (λ (z : Gateway). z.conn.ended) steps.2)
    by (gateway.tells k heard begun) steps rises = same rises (ap (λ (z : Gateway). z.conn.ended) steps.2)
    by (gateway.put k bytes count) steps rises = same rises (ap (λ (z : Gateway). z.conn.ended) steps.4)
    by (gateway.finished k) steps rises = same rises (ap (λ (z : Gateway). z.conn.ended) steps.3)
    by (gateway.credited k n) steps rises = same rises (ap (λ (z : Gateway). z.conn.ended) steps.2)
    by (gateway.reset k code) steps rises = same rises (ap (λ (z : Gateway). z.conn.ended) steps.2)
    by (gateway.dropped k begun) steps rises = same rises (ap (λ (z : Gateway). z.conn.ended) steps.3)
    by (gateway.done k begun) steps rises = same rises (ap (λ (z : Gateway). z.conn.ended) steps.3)
    by (gateway.stopped why) steps rises = same rises (ap (λ (z : Gateway). z.conn.ended) steps.1)

ended_used : (g : ℕ) (x : Gateway) (parts : List gateway.Part) → gateways.StandsFor g x parts → EndsUsed x.conn
ended_used g x parts (gateways.begins is none) =
    subst (λ (z : Gateway). EndsUsed z.conn) (sym is) (λ s at. absurd (let never : None ≡ Some s = at in cc never))
ended_used g y more (gateways.goes_on {x = x} {parts = parts} stands p steps are) =
    step_used g x parts stands (ended_used g x parts stands) p y steps

-- A STREAM AND THE WAY TO ITS LINK: while the tunnel lives, once the way has ended, or is to, the peer's side is closed, and no end is to be
-- told of it; an end that is to be told comes to a way that hasn't
record EndsBy (c : Connection) (s : ℕ) (stage : Stage) (mail : Option Heard) (has : Bool) : Type 0 where
  closed : is_living stage ≡ true → (has || mail_ends mail) ≡ true → (sides c s).peer ≡ false
  gone : is_living stage ≡ true → (has || mail_ends mail) ≡ true → c.ended ≡ Some s → ⊥
  once : mail_ends mail ≡ true → has ≡ false
  early : stage ≡ asked → has ≡ false
  pending : is_living stage ≡ true → c.ended ≡ Some s → (sides c s).peer ≡ false

record Stays (c d : Connection) (s : ℕ) : Type 0 where
  closed : (sides c s).peer ≡ false → (sides d s).peer ≡ false
  ended : d.ended ≡ Some s → c.ended ≡ Some s

ends_stay : (c d : Connection) (s : ℕ) (stage : Stage) (mail : Option Heard) (has : Bool) → Stays c d s → EndsBy c s stage mail has
    → EndsBy d s stage mail has
ends_stay c d s stage mail has stays fit = record {
  closed = λ lives is. stays.closed (fit.closed lives is);
  gone = λ lives is at. fit.gone lives is (stays.ended at);
  once = fit.once;
  early = fit.early;
  pending = λ lives at. stays.closed (fit.pending lives (stays.ended at));
}

ends_dead : (d : Connection) (s : ℕ) (stage : Stage) (mail : Option Heard) (has : Bool) → is_living stage ≡ false
    → (mail_ends mail ≡ true → has ≡ false) → EndsBy d s stage mail has
ends_dead d s stage mail has dead once = record {
  closed = λ lives is. absurd (false≢true (sym dead ∙ lives));
  gone = λ lives is at. false≢true (sym dead ∙ lives);
  once = once;
  early = λ is. absurd (false≢true (sym dead ∙ ap is_living is));
  pending = λ lives at. absurd (false≢true (sym dead ∙ lives));
}

follows_stay : (c d : Connection) (s : ℕ) → Follows c d s → d.ended ≡ c.ended → Stays c d s
follows_stay c d s follows is = record { closed = closed_so c d s follows; ended = λ at. sym is ∙ at }

same_stay : (c d : Connection) (s : ℕ) → d ≡ c → Stays c d s
same_stay c d s is = record { closed = λ was. ap (λ (k : Connection). (sides k s).peer) is ∙ was; ended = λ at. ap (λ (k : Connection). k.ended) (sym is) ∙ at }

left_dead : (p : gateway.Part) (why : Cause) → is_living (left_behind p why) ≡ false
left_dead (gateway.looked ps told headers) why = by told
  where
    by : (told : Found) → is_living (response.left_by told why) ≡ false
    by (found.Reset s code) = refl
    by (found.Broken s code) = refl
    by (found.Fault code) = refl
    by (found.GoneAway last) = refl
    by other = refl
left_dead p why = refl

-- behind its failure
failed_ends : (p : gateway.Part) (why : Cause) (stage : Stage) (d : Connection) (s : ℕ) (has : Bool)
    → EndsBy d s (after p stage (failed why stage)) (posted (failed why stage) None) has
failed_ends p why asked d s has = ends_dead d s _ _ has (left_dead p why) (λ is. absurd (false≢true is))
failed_ends p why carrying d s has = ends_dead d s _ _ has (left_dead p why) (λ is. absurd (false≢true is))
failed_ends p why unused d s has = ends_dead d s unused None has refl (λ is. absurd (false≢true is))
failed_ends p why (failing code) d s has = ends_dead d s (failing code) None has refl (λ is. absurd (false≢true is))
failed_ends p why over d s has = ends_dead d s over None has refl (λ is. absurd (false≢true is))

settled_ends : (active : Bool) (d : Connection) (s : ℕ) (stage : Stage) (mail : Option Heard) (has : Bool) → EndsBy d s stage mail has
    → EndsBy d s (settled active stage) mail has
settled_ends true d s stage mail has fit = fit
settled_ends false d s unused mail has fit = fit
settled_ends false d s asked mail has fit = fit
settled_ends false d s carrying mail has fit = fit
settled_ends false d s (failing code) mail has fit = ends_dead d s over mail has refl fit.once
settled_ends false d s over mail has fit = fit

or_false : (b : Bool) → (b || false) ≡ b
or_false true = refl
or_false false = refl

or_true : (b : Bool) → (b || true) ≡ true
or_true true = refl
or_true false = refl

-- A LOOK AT WHAT CAME, where the tunnel was told all
module _ (ps : List history.Point) (headers : List Header) (c d : Connection) (s : ℕ) (has : Bool) where
  abbrev Told : Found → Stage → Option Heard → Type 0
  Told told a heard = EndsBy d s (after (gateway.looked ps told headers) a heard) (posted heard None) has

  dead_told : (told : Found) (a : Stage) → is_living a ≡ false → Told told a None
  dead_told told a dead = ends_dead d s a None has dead (λ is. absurd (false≢true is))

  fails_told : (told : Found) (a : Stage) (why : Cause) → Told told a (Some (fails why))
  fails_told told a why =
      ends_dead d s _ (Some (fails why)) has (left_dead (gateway.looked ps told headers) why) (λ is. absurd (false≢true is))

  -- where nothing is heard on it
  still : (told : Found) (a : Stage) → EndsBy c s a None has → Finds c d told → (told ≡ found.Chunk s true → ⊥) → sides d s ≡ sides c s
      → Told told a None
  still told a fit finds other same =
      ends_stay c d s a None has (record {
        closed = λ was. ap (λ (w : Sides). w.peer) same ∙ was;
        ended = λ at. by (finds_pends c d told s finds at) at;
      }) fit
    where
      by : Pends c d told s → d.ended ≡ Some s → c.ended ≡ Some s
      by (inl is) at = ap (λ (k : Connection). k.ended) (sym is.0) ∙ at
      by (inr is) at = absurd (other is)

  none_pends : (told : Found) → Finds c d told → (told ≡ found.Silent → ⊥) → (told ≡ found.Chunk s true → ⊥) → d.ended ≡ Some s → ⊥
  none_pends told finds loud other at = by (finds_pends c d told s finds at)
    where
      by : Pends c d told s → ⊥
      by (inl is) = loud is.1
      by (inr is) = other is

  not_has : (b : Bool) → has ≡ false → (has || b) ≡ true → b ≡ true
  not_has b none is = ap (λ (h : Bool). h || b) (sym none) ∙ is

  none_has : has ≡ false → (has || false) ≡ true → ⊥
  none_has none is = false≢true (not_has false none is)

  -- headers of it
  headed_ends : (k : ℕ) (end : Bool) (status : Option ℕ) (a : Stage) → EndsBy c s a None has → Finds c d (found.Opened k end)
      → (end ≡ true → (sides d s).peer ≡ false) → Told (found.Opened k end) a (headed a status end)
  headed_ends k end status asked fit finds shut = by (is_interim status && not end) (is_success status)
    where
      never : d.ended ≡ Some s → ⊥
      never = none_pends (found.Opened k end) finds (λ is. cc is) (λ is. cc is)

      by : (b o : Bool) → Told (found.Opened k end) asked
          (cond b None (cond o (Some (opens end)) (Some (fails (cause.UpRefused (refusal_of status))))))
      by true o = record {
        closed = λ lives is. absurd (none_has (fit.early refl) is);
        gone = λ lives is at. never at;
        once = λ is. absurd (false≢true is);
        early = fit.early;
        pending = λ lives at. absurd (never at);
      }
      by false true = record {
        closed = λ lives is. shut (not_has end (fit.early refl) is);
        gone = λ lives is at. never at;
        once = λ is. fit.early refl;
        early = λ is. fit.early refl;
        pending = λ lives at. absurd (never at);
      }
      by false false = fails_told (found.Opened k end) asked (cause.UpRefused (refusal_of status))
  headed_ends k end status carrying fit finds shut = fails_told (found.Opened k end) carrying _
  headed_ends k end status unused fit finds shut = dead_told (found.Opened k end) unused refl
  headed_ends k end status (failing code) fit finds shut = dead_told (found.Opened k end) (failing code) refl
  headed_ends k end status over fit finds shut = dead_told (found.Opened k end) over refl

  -- DATA of it, which comes while the peer's side is open
  brought_ends : (k : ℕ) (end : Bool) (bytes : List ℕ) (a : Stage) → EndsBy c s a None has → Finds c d (found.Chunk k end)
      → (sides c s).peer ≡ true → (end ≡ true → (sides d s).peer ≡ false) → Told (found.Chunk k end) a (brought a bytes)
  brought_ends k end bytes carrying fit finds unshut shut = record {
    closed = λ lives is. absurd (none_has none is);
    gone = λ lives is at. none_has none is;
    once = λ is. none;
    early = λ is. none;
    pending = λ lives at. by (finds_pends c d (found.Chunk k end) s finds at);
  }
    where
      goes : (b : Bool) → has ≡ b → b ≡ false
      goes true is = absurd (false≢true (sym (fit.closed refl (or_false has ∙ is)) ∙ unshut))
      goes false is = refl

      none : has ≡ false
      none = goes has refl

      by : Pends c d (found.Chunk k end) s → (sides d s).peer ≡ false
      by (inl is) = absurd (let never : found.Chunk k end ≡ found.Silent = is.1 in cc never)
      by (inr is) = shut (let both : found.Chunk k end ≡ found.Chunk s true = is in cc both)
  brought_ends k end bytes asked fit finds unshut shut = fails_told (found.Chunk k end) asked _
  brought_ends k end bytes unused fit finds unshut shut = dead_told (found.Chunk k end) unused refl
  brought_ends k end bytes (failing code) fit finds unshut shut = dead_told (found.Chunk k end) (failing code) refl
  brought_ends k end bytes over fit finds unshut shut = dead_told (found.Chunk k end) over refl

  -- and its end, which was pending
  ended_ends : (k : ℕ) (a : Stage) → EndsBy c s a None has → Finds c d (found.Ended k) → c.ended ≡ Some s → sides d s ≡ sides c s
      → Told (found.Ended k) a (ended a)
  ended_ends k carrying fit finds at same = record {
    closed = λ lives is. ap (λ (w : Sides). w.peer) same ∙ fit.pending refl at;
    gone = λ lives is behind. never behind;
    once = λ is. none;
    early = λ is. none;
    pending = λ lives behind. absurd (never behind);
  }
    where
      never : d.ended ≡ Some s → ⊥
      never = none_pends (found.Ended k) finds (λ is. cc is) (λ is. cc is)

      goes : (b : Bool) → has ≡ b → b ≡ false
      goes true is = absurd (fit.gone refl (or_false has ∙ is) at)
      goes false is = refl

      none : has ≡ false
      none = goes has refl
  ended_ends k asked fit finds at same = fails_told (found.Ended k) asked _
  ended_ends k unused fit finds at same = dead_told (found.Ended k) unused refl
  ended_ends k (failing code) fit finds at same = dead_told (found.Ended k) (failing code) refl
  ended_ends k over fit finds at same = dead_told (found.Ended k) over refl

  either_ends : (told : Found) (b : Bool) (a : Stage) (heard : Option Heard) → (b ≡ true → Told told a heard)
      → (b ≡ false → Told told a None) → Told told a (cond b heard None)
  either_ends told b a heard here there = cond_both b heard None (λ (h : Option Heard). Told told a h) here there

  apart : (k : ℕ) → (k == s) ≡ false → s ≢ k
  apart k other is = false≢true (sym other ∙ eq-eqb k s (sym is))

  looked_ends : (told : Found) (a : Stage) (bytes : List ℕ) → EndsBy c s a None has → Finds c d told → SidesBehind told c d
      → IsClosing told c d → ((k : ℕ) (end : Bool) → told ≡ found.Chunk k end → (sides c k).peer ≡ true)
      → Told told a (heard_of s a headers bytes told)
  looked_ends found.Silent a bytes fit finds side closing unshut = still found.Silent a fit finds (λ is. cc is) (side s)
  looked_ends (found.Opened k end) a bytes fit finds side closing unshut =
      either_ends (found.Opened k end) (k == s) a _
      (λ same. headed_ends k end (status_of headers) a fit finds
      (λ is. ap (λ (i : ℕ). (sides d i).peer) (sym (eqb-true k s same)) ∙ closing is))
      (λ other. still (found.Opened k end) a fit finds (λ is. cc is) (side s (apart k other)))
  looked_ends (found.Chunk k end) a bytes fit finds side closing unshut =
      either_ends (found.Chunk k end) (k == s) a _
      (λ same. brought_ends k end bytes a fit finds (subst (λ (i : ℕ). (sides c i).peer ≡ true) (eqb-true k s same) (unshut k end refl))
      (λ is. subst (λ (i : ℕ). (sides d i).peer ≡ false) (eqb-true k s same)
      (ap (λ (w : Sides). w.peer) side.here ∙ ends_peer end is (sides c k))))
      (λ other. still (found.Chunk k end) a fit finds
      (λ is. apart k other (sym (let both : found.Chunk k end ≡ found.Chunk s true = is in cc both))) (side.others s (apart k other)))
    where
      ends_peer : (b : Bool) → b ≡ true → (w : Sides) → (peer_ends b w).peer ≡ false
      ends_peer true is w = refl
      ends_peer false is w = absurd (false≢true is)
  looked_ends (found.Ended k) a bytes fit finds side closing unshut =
      either_ends (found.Ended k) (k == s) a _
      (λ same. ended_ends k a fit finds (closing ∙ ap Some (eqb-true k s same)) (side s))
      (λ other. still (found.Ended k) a fit finds (λ is. cc is) (side s))
  looked_ends (found.Reset k code) a bytes fit finds side closing unshut =
      either_ends (found.Reset k code) (k == s) a _
      (λ same. failed_ends (gateway.looked ps (found.Reset k code) headers) (cause.PeerReset code) a d s has)
      (λ other. still (found.Reset k code) a fit finds (λ is. cc is) (side.others s (apart k other)))
  looked_ends (found.Broken k code) a bytes fit finds side closing unshut =
      either_ends (found.Broken k code) (k == s) a _
      (λ same. failed_ends (gateway.looked ps (found.Broken k code) headers) (cause.StreamFault code) a d s has)
      (λ other. still (found.Broken k code) a fit finds (λ is. cc is) (side.others s (apart k other)))
  looked_ends (found.GoneAway last) a bytes fit finds side closing unshut =
      either_ends (found.GoneAway last) (nat_lt last s) a _
      (λ above. failed_ends (gateway.looked ps (found.GoneAway last) headers) cause.GoneAway a d s has)
      (λ below. still (found.GoneAway last) a fit finds (λ is. cc is) (side s))
  looked_ends (found.Fault code) a bytes fit finds side closing unshut =
      failed_ends (gateway.looked ps (found.Fault code) headers) (cause.ConnFault code) a d s has

-- EVERY STEP OF A LINK TO A GATEWAY, but those of this stream and its link
abbrev On : Gateway → ℕ → Bool → Type 0
On y s has = EndsBy y.conn s (y.streams s).stage (y.streams s).mail has

abbrev IsFar : ℕ → gateway.Part → Type 0
IsFar s (gateway.asks k link authority) = s ≢ k
IsFar s (gateway.tells k heard begun) = s ≢ k
IsFar s p = Unit {0}

call_ends : (phase : Phase) (call : Entry) (a : Stage) (c : Connection) (s : ℕ) (has : Bool) → EndsBy c s a None has
    → EndsBy c s (after (gateway.entry call) a (hears_call phase a call)) (posted (hears_call phase a call) None) has
call_ends phase (e.Ended k) a c s has fit = failed_ends (gateway.entry (e.Ended k)) cause.PeerGone a c s has
call_ends phase (e.Broke k) a c s has fit = failed_ends (gateway.entry (e.Broke k)) (break_cause phase) a c s has
call_ends phase call a c s has fit = fit

entered_on : (call : Entry) (z : Gateway) (s : ℕ) (has : Bool) → On z s has → On (gateways.entered call z) s has
entered_on (e.Went k bytes) z s has fit =
    ends_stay z.conn _ s _ _ has (follows_stay z.conn _ s (write_follows z.conn _ s) refl) fit
entered_on (e.Came k bytes) z s has fit = ends_stay z.conn _ s _ _ has (follows_stay z.conn _ s (λ is. (is, refl)) refl) fit
entered_on (e.Opened k) z s has fit = fit
entered_on (e.Ended k) z s has fit = fit
entered_on (e.Broke k) z s has fit = fit
entered_on (e.Closed k why) z s has fit = fit
entered_on call z s has fit = fit

dropped_dead : (k : ℕ) (x : Gateway) → is_living (dropped_to k x) ≡ false
dropped_dead k x = by (carries x.phase && is_active x.conn k)
  where
    by : (b : Bool) → is_living (cond b (failing response.cancel) over) ≡ false
    by true = refl
    by false = refl

module _ (g : ℕ) (x : Gateway) (parts : List gateway.Part) (stands : gateways.StandsFor g x parts) (y : Gateway) (s : ℕ) (has : Bool)
    (fit : On x s has) where
  on : (z : Gateway) → y ≡ z → On z s has → On y s has
  on z is had = subst (λ (w : Gateway). On w s has) (sym is) had

  -- where the tunnel was told all
  told_none : AllTold x → EndsBy x.conn s (stage_of x s) None has
  told_none told = subst (λ (m : Option Heard). EndsBy x.conn s (stage_of x s) m has) (told s) fit

  heard_on : (p : gateway.Part) (d : Connection) (stage : Stage) (heard : Option Heard) → AllTold x → EndsBy d s stage (posted heard None) has
      → EndsBy d s stage (posted heard (x.streams s).mail) has
  heard_on p d stage heard told now = subst (λ (m : Option Heard). EndsBy d s stage (posted heard m) has) (sym (told s)) now

  -- one stream is over
  one_on : (k : ℕ) (stage : Stage) (d : Connection) → is_living stage ≡ false → Stays x.conn d s
      → EndsBy d s (cond (s == k) (at_stage stage (x.streams s)) (x.streams s)).stage
      (cond (s == k) (at_stage stage (x.streams s)) (x.streams s)).mail has
  one_on k stage d dead stays =
      cond_both (s == k) (at_stage stage (x.streams s)) (x.streams s) (λ (t : Stream). EndsBy d s t.stage t.mail has)
      (λ same. ends_dead d s stage (x.streams s).mail has dead fit.once) (λ other. ends_stay x.conn d s _ _ has stays fit)

  gate_ends : (p : gateway.Part) → gateways.Steps g x p y → IsFar s p → On y s has
  gate_ends (gateway.entry call) steps far =
      let told = come_told g x call steps.0 in
      on _ steps.1 (entered_on call (all_hear (gateway.entry call) x) s has
      (heard_on (gateway.entry call) x.conn _ (hears x (gateway.entry call) s) told
      (call_ends x.phase call (stage_of x s) x.conn s has (told_none told))))
  gate_ends (gateway.dialled call key) steps far = on _ steps.1 fit
  gate_ends gateway.lacked steps far =
      on _ steps.1 (heard_on gateway.lacked x.conn _ (hears x gateway.lacked s) (lacks_told x.phase x steps.0)
      (failed_ends gateway.lacked cause.NoMemory (stage_of x s) x.conn s has))
  gate_ends (gateway.looked ps told headers) steps far =
      let p = gateway.looked ps told headers in
      let adds = looks_add_as Client (moves parts) ps (tellings parts) (link_came parts) (conn_went parts) x.conn steps.3 told
      (all_keep g x parts stands).stands steps.4 in
      on _ steps.6 (settled_ends (is_active steps.3 s) steps.3 s (after p (stage_of x s) (hears x p s))
      (posted (hears x p s) (x.streams s).mail) has
      (heard_on p steps.3 (after p (stage_of x s) (hears x p s)) (hears x p s) steps.2
      (looked_ends ps headers x.conn steps.3 s has told (stage_of x s) (flat_map data_in ps) (told_none steps.2) steps.4.finds
      (finds_sides x.conn steps.3 told steps.4.finds) (finds_closed x.conn steps.3 told steps.4.finds)
      (λ k end is. (subst (λ (t : Found). CreditableBehind t x.conn steps.3) is adds).was))))
  gate_ends (gateway.asks k link authority) steps far =
      on _ steps.2 (subst (λ (b : Bool). EndsBy (observed.opened x.conn k (request_of authority) false) s
      (cond b (record no_stream { stage = asked; captured = link }) (x.streams s)).stage
      (cond b (record no_stream { stage = asked; captured = link }) (x.streams s)).mail has) (sym (ne_eqb s k far))
      (ends_stay x.conn _ s _ _ has (follows_stay x.conn _ s (open_follows x.conn k (request_of authority) steps.1 s far) refl) fit))
  gate_ends (gateway.tells k heard begun) steps far =
      on _ steps.2 (subst (λ (b : Bool). EndsBy x.conn s (cond b (record (x.streams s) { mail = None }) (x.streams s)).stage
      (cond b (record (x.streams s) { mail = None }) (x.streams s)).mail has) (sym (ne_eqb s k far)) fit)
  gate_ends (gateway.put k bytes count) steps far =
      on _ steps.4 (ends_stay x.conn _ s _ _ has (follows_stay x.conn _ s (put_follows x.conn k bytes s) refl) fit)
  gate_ends (gateway.finished k) steps far =
      on _ steps.3 (ends_stay x.conn _ s _ _ has (follows_stay x.conn _ s (end_follows x.conn k s) refl) fit)
  gate_ends (gateway.credited k n) steps far =
      on _ steps.2 (ends_stay x.conn _ s _ _ has (record {
        closed = λ was. ap (λ (w : Sides). w.peer) (use_leaves_all x.conn k n s) ∙ was;
        ended = λ at. at;
      }) fit)
  gate_ends (gateway.reset k code) steps far =
      on _ steps.2 (one_on k over _ refl (follows_stay x.conn _ s (reset_follows x.conn k code s) refl))
  gate_ends (gateway.dropped k begun) steps far =
      on _ steps.3 (one_on k (dropped_to k x) x.conn (dropped_dead k x) (same_stay x.conn x.conn s refl))
  gate_ends (gateway.done k begun) steps far = on _ steps.3 (one_on k over x.conn refl (same_stay x.conn x.conn s refl))
  gate_ends (gateway.stopped why) steps far =
      on _ steps.1 (heard_on (gateway.stopped why) x.conn _ (hears x (gateway.stopped why) s) steps.0
      (failed_ends (gateway.stopped why) why (stage_of x s) x.conn s has))

-- THE WAY TO A LINK ends by what is heard on its stream alone, where it has one
came_way : (stage : captured.Stage) (bytes : List ℕ) (x : Captured) → (came_by stage bytes x).ways.down ≡ x.ways.down
came_way captured.fronting bytes x = refl
came_way captured.unborn bytes x = refl
came_way captured.arriving bytes x = refl
came_way captured.due bytes x = refl
came_way captured.opening bytes x = refl
came_way captured.accepting bytes x = refl
came_way captured.live bytes x = refl
came_way (captured.failed why) bytes x = refl
came_way (captured.ended why) bytes x = refl
came_way (captured.over why) bytes x = refl

abbrev has_of : Captured → Bool
has_of x = x.ways.down.has_ended

rejudged_way : (h : Resources) (x : Captured) → has_of (rejudged h x) ≡ has_of x
rejudged_way h x = by (judges x.door && is_judged x.stage)
  where
    of : (j : Judged) → has_of (judged_by j x) ≡ has_of x
    of Admitted = refl
    of Unknown = refl
    of Denied = refl

    by : (b : Bool) → has_of (cond b (judged_by (judged h x.peer x.target) x) x) ≡ has_of x
    by true = of (judged h x.peer x.target)
    by false = refl

seen_way : (h : Resources) (q : point.Point) (x : Captured) → has_of (plain_seen_by h q x) ≡ has_of x
seen_way h (point.applied l r) x = rejudged_way (after_response h r) x
seen_way h (point.stopped why) x = refl
seen_way h q x = refl

entry_way : (z : Entry) (x : Captured) → has_of (entered z x) ≡ has_of x
entry_way (e.Accepted k d) x = refl
entry_way (e.Came k bytes) x = ap (λ (w : Way). w.has_ended) (came_way x.stage bytes x)
entry_way (e.Ended k) x = refl
entry_way (e.Went k bytes) x = refl
entry_way (e.Broke k) x = refl
entry_way (e.Shut k) x = refl
entry_way (e.Closed k why) x = refl
entry_way z x = refl

up_way : (l : ℕ) (z : Entry) (x : Captured) → UpMayCome l x z → x.up ≡ 0 → has_of (up_entered z x) ≡ has_of x
up_way l (e.Ended u) x may none = absurd (let at = may.0.1 in let above = may.0.2 in omega (arith, none, at, above))
up_way l (e.Dialled u to why) x may none = refl
up_way l (e.DialFailed to why) x may none = refl
up_way l (e.Opened u) x may none = refl
up_way l (e.Came u bytes) x may none = refl
up_way l (e.Went u bytes) x may none = refl
up_way l (e.Broke u) x may none = refl
up_way l (e.Shut u) x may none = refl
up_way l (e.Closed u why) x may none = refl
up_way l z x may none = refl

part_way : (g : NodeConfig) (x : Machine) (l : ℕ) (p : Part) → MayGo l (plain_local x l) p → PlainGuard g x l p → (x.plain l).up ≡ 0
    → has_of (next_link (x.plain l) p) ≡ has_of (x.plain l)
part_way g x l (part.entry z) may guard none = entry_way z (x.plain l)
part_way g x l (part.up z) may guard none = up_way l z (x.plain l) may none
part_way g x l (part.hears heard begun) may guard none = absurd guard
part_way g x l p may guard none = refl

-- IN EVERY RUN
abbrev OnOf : (ℕ → Gateway) → Captured → Type 0
OnOf gates q = is_raw q ≡ false → On (gates q.gate) q.stream (has_of q)

carry : (gates then : ℕ → Gateway) (q r : Captured) → OnOf gates q → PlainKeeps q r → (is_raw q ≡ false → has_of r ≡ has_of q)
    → (is_raw q ≡ false → On (gates q.gate) q.stream (has_of q) → On (then q.gate) q.stream (has_of q)) → OnOf then r
carry gates then q r fits keeps has gate on =
    let raw : is_raw q ≡ false = ap (λ (n : ℕ). n == 0) (sym keeps.gate) ∙ on in
    subst (λ (n : ℕ). On (then n) r.stream (has_of r)) (sym keeps.gate)
    (subst (λ (s : ℕ). On (then q.gate) s (has_of r)) (sym keeps.stream)
    (subst (λ (b : Bool). On (then q.gate) q.stream b) (sym (has raw)) (gate raw (fits raw))))

-- what is told ends the way as it says
told_on : (c : Connection) (s : ℕ) (mail : Option Heard) (has then : Bool) → then ≡ (has || mail_ends mail) → EndsBy c s carrying mail has
    → EndsBy c s carrying None then
told_on c s mail has then is fit =
    let back : (then || false) ≡ true → (has || mail_ends mail) ≡ true = λ so. sym is ∙ sym (or_false then) ∙ so in
    record {
      closed = λ lives so. fit.closed lives (back so);
      gone = λ lives so at. fit.gone lives (back so) at;
      once = λ so. absurd (false≢true so);
      early = λ so. absurd (let no : carrying ≡ asked = so in cc);
      pending = fit.pending;
    }

way_told : (heard : Heard) (begun : ℕ) (q : Captured) → is_raw (told_by heard begun q) ≡ false
    → has_of (told_by heard begun q) ≡ (has_of q || mail_ends (Some heard))
way_told (opens true) begun q on = sym (or_true (has_of q))
way_told (opens false) begun q on = sym (or_false (has_of q))
way_told (brings bytes) begun q on = sym (or_false (has_of q))
way_told response.ends begun q on = sym (or_true (has_of q))
way_told (fails why) begun q on = absurd (false≢true (sym on))

goes_so : (heard : Heard) (begun : ℕ) (q : Captured) → is_raw (told_by heard begun q) ≡ false
    → (goes_on_with heard ≡ true) × ((told_by heard begun q).gate ≡ q.gate) × ((told_by heard begun q).stream ≡ q.stream)
goes_so (opens end) begun q on = (refl, refl, refl)
goes_so (brings bytes) begun q on = (refl, refl, refl)
goes_so response.ends begun q on = (refl, refl, refl)
goes_so (fails why) begun q on = absurd (false≢true (sym on))

module _ (g : NodeConfig) (x : Machine) (points : List Point) (stands : StandsFor g x points)
    (fits : (l : ℕ) → OnOf x.gates (x.plain l)) where
  runs : (n : ℕ) → gateways.StandsFor n (x.gates n) (gates_of n points)
  runs n = gates_run g x points n stands

  gate_on : (n : ℕ) (next : Gateway) (m s : ℕ) (has : Bool) → (m ≡ n → On (x.gates n) s has → On next s has) → On (x.gates m) s has
      → On (cond (m == n) next (x.gates m)) s has
  gate_on n next m s has keeps =
      cond_both (m == n) next (x.gates m) (λ (z : Gateway). On (x.gates m) s has → On z s has)
      (λ at had. keeps (eqb-true m n at) (subst (λ (k : ℕ). On (x.gates k) s has) (eqb-true m n at) had)) (λ other had. had)

  moved : (n : ℕ) (p : gateway.Part) (next : Gateway) → gateways.Steps n (x.gates n) p next → (l : ℕ)
      → (is_raw (x.plain l) ≡ false → (x.plain l).gate ≡ n → IsFar (x.plain l).stream p) → is_raw (x.plain l) ≡ false
      → On (x.gates (x.plain l).gate) (x.plain l).stream (has_of (x.plain l))
      → On (cond ((x.plain l).gate == n) next (x.gates (x.plain l).gate)) (x.plain l).stream (has_of (x.plain l))
  moved n p next steps l far raw =
      gate_on n next (x.plain l).gate (x.plain l).stream (has_of (x.plain l)) (λ at had.
      gate_ends n (x.gates n) (gates_of n points) (runs n) next (x.plain l).stream (has_of (x.plain l)) had p steps (far raw at))

  unmoved : (gates : ℕ → Gateway) (l : ℕ)
      → (is_raw (x.plain l) ≡ false → On (x.gates (x.plain l).gate) (x.plain l).stream (has_of (x.plain l))
      → On (gates (x.plain l).gate) (x.plain l).stream (has_of (x.plain l))) → OnOf gates (x.plain l)
  unmoved gates l keeps =
      carry x.gates gates (x.plain l) (x.plain l) (fits l) (record { gate = refl; stream = refl }) (λ raw. refl) keeps

  control_ends : (q : point.Point) (next : _) → ControlGuard x q → (l : ℕ)
      → OnOf (with_control q next x).gates ((with_control q next x).plain l)
  control_ends q next guard l =
      carry x.gates (λ n. gate_seen_by q (x.gates n)) (x.plain l) (plain_seen_by x.control.held q (x.plain l)) (fits l)
      (seen_keeps x.control.held q (x.plain l)) (λ raw. seen_way x.control.held q (x.plain l))
      (λ raw. by q guard (x.plain l).gate (x.plain l).stream (has_of (x.plain l)))
    where
      by : (q : point.Point) → ControlGuard x q → (n s : ℕ) (has : Bool) → On (x.gates n) s has → On (gate_seen_by q (x.gates n)) s has
      by (point.stopped why) guard n s has had =
          gate_ends n (x.gates n) (gates_of n points) (runs n) (gateways.stopped_for why (x.gates n)) s has had (gateway.stopped why)
          (guard.gates n, refl) (tt {0})
      by q guard n s has had = had

  plain_ends : (k : ℕ) (p : Part) → MayGo k (plain_local x k) p → PlainGuard g x k p → (l : ℕ)
      → OnOf x.gates (cond (l == k) (next_link (x.plain k) p) (x.plain l))
  plain_ends k p may guard l =
      cond_both (l == k) (next_link (x.plain k) p) (x.plain l) (OnOf x.gates)
      (λ at. carry x.gates x.gates (x.plain k) (next_link (x.plain k) p) (fits k) (part_keeps g x k p guard)
      (λ raw. part_way g x k p may guard (no_up_so g x points stands k raw)) (λ raw had. had))
      (λ other. fits l)

  here_ends : (k n s : ℕ) (w : Shared) → MayGo k (plain_local x k) (captured_part n s w) → (next : Gateway)
      → gateways.Steps n (x.gates n) (gateway_part k s w) next → StreamGuard x k n s w
      → OnOf (λ m. cond (m == n) next (x.gates m)) (next_link (x.plain k) (captured_part n s w))
  here_ends k n s (asks authority) may next steps guard = λ raw.
      subst (λ (z : Gateway). On z s (has_of (x.plain k))) (sym (ap (λ (b : Bool). cond b next (x.gates n)) (eq-eqb n n refl) ∙ steps.2))
      (subst (λ (b : Bool). EndsBy (observed.opened (x.gates n).conn s (request_of authority) false) s
      (cond b (record no_stream { stage = asked; captured = k }) ((x.gates n).streams s)).stage
      (cond b (record no_stream { stage = asked; captured = k }) ((x.gates n).streams s)).mail (has_of (x.plain k)))
      (sym (eq-eqb s s refl)) fresh)
    where
      none : has_of (x.plain k) ≡ false
      none = ap (λ (w : Way). w.has_ended) ((aims_fit g x points stands k).still (ap is_asked may.0)).0

      never : (has_of (x.plain k) || false) ≡ true → ⊥
      never is = false≢true (sym (ap (λ (b : Bool). b || false) none) ∙ is)

      fresh : EndsBy (observed.opened (x.gates n).conn s (request_of authority) false) s asked None (has_of (x.plain k))
      fresh = record {
        closed = λ lives is. absurd (never is);
        gone = λ lives is at. never is;
        once = λ is. absurd (false≢true is);
        early = λ is. none;
        pending = λ lives at. absurd (let low = ended_used n (x.gates n) (gates_of n points) (runs n) s at in
            let above = number_above (x.gates n).conn s steps.1 in omega (arith, low, above));
      }
  here_ends k n s (tells heard begun) may next steps guard = λ raw.
      (let goes = goes_so heard begun (x.plain k) raw in
      let t = (x.gates n).streams s in
      let had : On (x.gates n) s (has_of (x.plain k)) =
      subst (λ (m : ℕ). On (x.gates m) s (has_of (x.plain k))) guard.gate
      (subst (λ (i : ℕ). On (x.gates (x.plain k).gate) i (has_of (x.plain k))) guard.number (fits k may.0)) in
      let stage : t.stage ≡ carrying =
      lives_on t heard (mails_fit n (x.gates n) (gates_of n points) (runs n) s) steps.0 goes.0 in
      let was : EndsBy (x.gates n).conn s carrying (Some heard) (has_of (x.plain k)) =
      subst (λ (m : Option Heard). EndsBy (x.gates n).conn s carrying m (has_of (x.plain k))) steps.0
      (subst (λ (a : Stage). EndsBy (x.gates n).conn s a t.mail (has_of (x.plain k))) stage had) in
      let now : EndsBy (x.gates n).conn s t.stage None (has_of (told_by heard begun (x.plain k))) =
      subst (λ (a : Stage). EndsBy (x.gates n).conn s a None (has_of (told_by heard begun (x.plain k)))) (sym stage)
      (told_on (x.gates n).conn s (Some heard) (has_of (x.plain k)) (has_of (told_by heard begun (x.plain k)))
      (way_told heard begun (x.plain k) raw) was) in
      let at_next : On next s (has_of (told_by heard begun (x.plain k))) =
      subst (λ (z : Gateway). On z s (has_of (told_by heard begun (x.plain k)))) (sym steps.2)
      (subst (λ (b : Bool). EndsBy (x.gates n).conn s (cond b (record t { mail = None }) t).stage (cond b (record t { mail = None }) t).mail
      (has_of (told_by heard begun (x.plain k)))) (sym (eq-eqb s s refl)) now) in
      subst (λ (m : ℕ). On (cond (m == n) next (x.gates m)) (told_by heard begun (x.plain k)).stream (has_of (told_by heard begun (x.plain k))))
      (sym (goes.1 ∙ guard.gate))
      (subst (λ (i : ℕ). On (cond (n == n) next (x.gates n)) i (has_of (told_by heard begun (x.plain k)))) (sym (goes.2 ∙ guard.number))
      (subst (λ (b : Bool). On (cond b next (x.gates n)) s (has_of (told_by heard begun (x.plain k)))) (sym (eq-eqb n n refl)) at_next)))
  here_ends k n s (puts waiting count) may next steps guard =
      carry x.gates (λ m. cond (m == n) next (x.gates m)) (x.plain k) (next_link (x.plain k) (captured_part n s (puts waiting count))) (fits k)
      (record { gate = refl; stream = refl }) (λ raw. refl) (moved n (gateway_part k s (puts waiting count)) next steps k (λ raw at. tt {0}))
  here_ends k n s finishes may next steps guard =
      carry x.gates (λ m. cond (m == n) next (x.gates m)) (x.plain k) (next_link (x.plain k) part.finished) (fits k)
      (record { gate = refl; stream = refl }) (λ raw. refl) (moved n (gateway_part k s finishes) next steps k (λ raw at. tt {0}))
  here_ends k n s (credits count) may next steps guard =
      carry x.gates (λ m. cond (m == n) next (x.gates m)) (x.plain k) (next_link (x.plain k) (part.credited count)) (fits k)
      (record { gate = refl; stream = refl }) (λ raw. refl) (moved n (gateway_part k s (credits count)) next steps k (λ raw at. tt {0}))
  here_ends k n s (drops begun) may next steps guard = λ on. absurd (false≢true (sym on))
  here_ends k n s (completes begun note) may next steps guard = λ on. absurd (false≢true (sym on))

  other_ends : (k n s : ℕ) (w : Shared) → MayGo k (plain_local x k) (captured_part n s w) → (next : Gateway)
      → gateways.Steps n (x.gates n) (gateway_part k s w) next → StreamGuard x k n s w → (l : ℕ) → l ≢ k
      → OnOf (λ m. cond (m == n) next (x.gates m)) (x.plain l)
  other_ends k n s w may next steps guard l apart =
      unmoved (λ m. cond (m == n) next (x.gates m)) l
      (moved n (gateway_part k s w) next steps l (λ raw at. by w may guard steps raw at))
    where
      by : (w : Shared) → MayGo k (plain_local x k) (captured_part n s w) → StreamGuard x k n s w
          → gateways.Steps n (x.gates n) (gateway_part k s w) next → is_raw (x.plain l) ≡ false
          → (x.plain l).gate ≡ n → IsFar (x.plain l).stream (gateway_part k s w)
      by (tells heard begun) may guard steps raw at = other_stream g x points stands k n s l may.0 guard apart raw at
      by (asks authority) may guard steps raw at = λ on.
          unused_free ((x.gates n).streams s) (mails_fit n (x.gates n) (gates_of n points) (runs n) s)
          ((all_know n (x.gates n) (gates_of n points) (runs n)).unused s (number_above (x.gates n).conn s steps.1))
          (subst (λ (t : ℕ). HasTunnel ((x.gates n).streams t)) on
          (subst (λ (h : ℕ). HasTunnel ((x.gates h).streams (x.plain l).stream)) at ((runs_agree g x points stands).carried l raw).0))
      by (puts waiting count) may guard steps raw at = tt {0}
      by finishes may guard steps raw at = tt {0}
      by (credits count) may guard steps raw at = tt {0}
      by (drops begun) may guard steps raw at = tt {0}
      by (completes begun note) may guard steps raw at = tt {0}

  own_far : (n : ℕ) (p : gateway.Part) (s : ℕ) → GateGuard g x n p → IsFar s p
  own_far n (gateway.tells k heard begun) s guard = absurd guard
  own_far n (gateway.asks k link authority) s guard = absurd guard
  own_far n p s guard = tt {0}

  step_ends : (p : Point) (y : Machine) → Steps g x p y → (l : ℕ) → OnOf y.gates (y.plain l)
  step_ends (of_control q) y steps l = subst (λ (z : Machine). OnOf z.gates (z.plain l)) (sym steps.3) (control_ends q steps.0 steps.2 l)
  step_ends (of_link k p) y steps l = subst (λ (z : Machine). OnOf z.gates (z.plain l)) (sym steps.3) (fits l)
  step_ends (of_plain k p) y steps l =
      subst (λ (z : Machine). OnOf z.gates (z.plain l)) (sym steps.2) (plain_ends k p steps.0 steps.1 l)
  step_ends (of_gate n p) y steps l =
      subst (λ (z : Machine). OnOf z.gates (z.plain l)) (sym steps.3)
      (unmoved (λ m. cond (m == n) steps.0 (x.gates m)) l
      (moved n p steps.0 steps.1 l (λ raw at. own_far n p (x.plain l).stream steps.2)))
  step_ends (of_stream k n s w) y steps l =
      subst (λ (z : Machine). OnOf z.gates (z.plain l)) (sym steps.4)
      (cond_both (l == k) (next_link (x.plain k) (captured_part n s w)) (x.plain l)
      (OnOf (λ m. cond (m == n) steps.1 (x.gates m))) (λ at. here_ends k n s w steps.0 steps.1 steps.2 steps.3)
      (λ apart. other_ends k n s w steps.0 steps.1 steps.2 steps.3 l (λ at. false≢true (sym apart ∙ eq-eqb l k at))))

all_end : (g : NodeConfig) (x : Machine) (points : List Point) → StandsFor g x points → (l : ℕ) → OnOf x.gates (x.plain l)
all_end g x points (begins is none) l =
    subst (λ (z : Machine). OnOf z.gates (z.plain l)) (sym is) (λ on. absurd (false≢true (sym on)))
all_end g y more (goes_on {x = x} {points = points} stands p steps are) l =
    step_ends g x points stands (all_end g x points stands) p y steps l

pub runs_end : (g : NodeConfig) (x : Machine) (points : List Point) (n s : ℕ) → StandsFor g x points
    → ((x.gates n).streams s).mail ≡ Some response.ends → (x.plain ((x.gates n).streams s).captured).ways.down.has_ended ≡ false
runs_end g x points n s stands mail =
    let l = ((x.gates n).streams s).captured in
    let told = some_told response.ends ((x.gates n).streams s) mail in
    let of = (runs_agree g x points stands).carries n s told in
    let on : is_raw (x.plain l) ≡ false = ne_eqb (x.plain l).gate 0 (λ zero.
    none_at_zero g x points stands s (subst (λ (k : ℕ). HasTunnel ((x.gates k).streams s)) (sym of.0 ∙ zero) told)) in
    let had : On (x.gates n) s (has_of (x.plain l)) =
    subst (λ (m : ℕ). On (x.gates m) s (has_of (x.plain l))) of.0
    (subst (λ (i : ℕ). On (x.gates (x.plain l).gate) i (has_of (x.plain l))) of.1 (all_end g x points stands l on)) in
    had.once (ap mail_ends mail)
