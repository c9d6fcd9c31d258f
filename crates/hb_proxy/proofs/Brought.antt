-- Each link's bytes fit beside those that its stream brings, step after step of the whole.
use Rattle.std.proofs.Common.{◌≡◌, ◌≢◌, ℕ, ◌+◌, ◌-◌, ◌<◌, ◌≤◌, ◌==◌, ◌&&◌, ◌||◌, Bool, true, false, cond, List, ◌++◌, length, min, Option, Some, None, refl, ap, sym, ◌∙◌, subst, arith, length-append, length-drop}
use Rattle.std.proofs.lemmas.Bool.{cond-true, cond_both, eqb-true, eq-eqb, false≢true}
use Rattle.hb_base.specs.declared.cause.Cause.{Cause}
use Rattle.hb_base.specs.declared.cause.Cause.TheVariants as cause
use Rattle.hb_base.specs.declared.door.Door.{Door}
use Rattle.hb_base.specs.declared.door.Door.TheVariants as door
use Rattle.hb_base.specs.declared.target.Target.{Target}
use Rattle.hb_captured.specs.Calm.{room, output_by}
use Rattle.hb_captured.specs.Captured as captured_link
use Rattle.hb_captured.specs.Captured.{Captured, live, ring_down, is_raw, judges, is_judged, ends_for, judged_by, rejudged, came_by, entered, up_entered, told_by}
use Rattle.hb_captured.specs.Part as captured
use Rattle.hb_captured.specs.Part.{Part}
use Rattle.hb_captured.specs.Runs.{MayCome, UpMayCome, MayGo, next_link}
use Rattle.hb_conn.specs.Connection.{Connection}
use Rattle.hb_conn.specs.Observed as observed
use Rattle.hb_conn.specs.Observed.{sides, creditable, data_put, end_put}
use Rattle.hb_gateway.proofs.Asking.{all_know, number_above}
use Rattle.hb_gateway.specs.Gateway.{Gateway, Stream, no_stream, stage_of, at_stream, at_stage, dropped_to, request_of}
use Rattle.hb_gateway.specs.Part as gateway
use Rattle.hb_gateway.specs.Response as response
use Rattle.hb_gateway.specs.Response.{Stage, asked, carrying, over, Heard, opens, brings, fails, is_living}
use Rattle.hb_gateway.specs.Runs as gateway_runs
use Rattle.hb_held.specs.Held.{Resources}
use Rattle.hb_held.specs.Outcome.{after_response}
use Rattle.hb_kept.proofs.CreditableRuns.{uses_take}
use Rattle.hb_kept.proofs.Sides.{use_leaves_all}
use Rattle.hb_model.specs.Point as point
use Rattle.hb_model.specs.declared.config.NodeConfig.{NodeConfig}
use Rattle.hb_streams.specs.declared.sides.Sides.{Sides}
use Rattle.hb_table.specs.Judgement.{judged}
use Rattle.hb_table.specs.declared.judgement.Judged.{Judged}
use Rattle.hb_table.specs.declared.judgement.Judged.TheVariants.{Admitted, Unknown, Denied}
use Rattle.hb_tunnel.specs.Way.{Way, empty_way}
use Rattle.hb_world.specs.declared.entry.Entry.{Entry}
use Rattle.hb_world.specs.declared.entry.Entry.TheVariants as e
use Rattle.hb_proxy.specs.Machine.{Machine, plain_local, with_control, with_stream}
use Rattle.hb_proxy.specs.Points.{Point, of_control, of_link, of_plain, of_gate, of_stream, gates_of}
use Rattle.hb_proxy.specs.Runs.{PlainGuard, GateGuard, StreamGuard, IsStreamOf, Steps, StandsFor, begins, goes_on}
use Rattle.hb_proxy.specs.Shared.{Shared, asks, tells, puts, finishes, credits, drops, completes, captured_part, gateway_part}
use Rattle.hb_proxy.specs.Streams.{HasTunnel, RunsFit}
use Rattle.hb_proxy.proofs.Aims.{is_asked, aims_fit}
use Rattle.hb_proxy.proofs.Fitting.{Follows, same_follows, put_follows, end_follows, credit_follows, open_follows, mailed, mail_ends, mail_brings, waiting, FitBy, Fit, Flows, flows_same, fit_flows, fit_follows, failed_fits}
use Rattle.hb_proxy.proofs.FitsRun.{own_fits}
use Rattle.hb_proxy.proofs.Gates.{gates_run}
use Rattle.hb_proxy.proofs.Owned.{whose_in, all_owned}
use Rattle.hb_proxy.proofs.PlainStays.{RelayOn, RelayBy}
use Rattle.hb_proxy.proofs.Streams.{PlainKeeps, part_keeps, unshared, none_at_zero, runs_agree}
use Rattle.hb_proxy.proofs.Tunnels.{MailFits, some_told, unused_free, goes_on_with, lives_on, mails_fit, other_streams, this_stream}

raw_not : (n : ℕ) → n ≢ 0 → (n == 0) ≡ false
raw_not n some = by (n == 0) refl
  where
    by : (b : Bool) → (n == 0) ≡ b → b ≡ false
    by true is = absurd (some (eqb-true n 0 is))
    by false is = refl

some_not : (n : ℕ) → (n == 0) ≡ false → n ≢ 0
some_not n is zero = false≢true (sym is ∙ ap (λ (m : ℕ). m == 0) zero)

-- WHAT A PLAIN LINK'S PARTS MAKE OF THE WAY TO IT

ends_flow : (why : Cause) (q : Captured) → Flows q (ends_for why q)
ends_flow why q = record { sum = refl; ended = refl }

came_flows : (bytes : List ℕ) (stage : _) (q : Captured) → Flows q (came_by stage bytes q)
came_flows bytes captured_link.fronting q = record { sum = refl; ended = refl }
came_flows bytes _ q = record { sum = refl; ended = refl }

module _ (l : ℕ) (q : Captured) (some : q.gate ≢ 0) (no_up : q.stage ≡ live → q.up ≡ 0) where
  went_flows : (k : ℕ) (bytes : List ℕ) → MayCome l q (e.Went k bytes) → Flows q (entered (e.Went k bytes) q)
  went_flows k bytes may =
      let at : output_by q.stage q.ways.down.held ≡ bytes ++ may.2.1.0 = may.2.1.1 in
      let held : q.ways.down.held ≡ bytes ++ may.2.1.0 =
      subst (λ (s : _). output_by s q.ways.down.held ≡ bytes ++ may.2.1.0) may.1.1 at in
      let owed : (entered (e.Went k bytes) q).owed ≡ q.owed + length bytes =
      ap (λ (b : Bool). cond b q.owed (q.owed + length bytes)) (raw_not q.gate some) in
      record {
        sum = omega (
          arith,
          owed,
          length-drop (length bytes) q.ways.down.held,
          ap (λ (bs : List ℕ). length bs) held,
          length-append bytes may.2.1.0,
        );
        ended = refl;
      }

  entry_flows : (z : Entry) → MayCome l q z → Flows q (entered z q)
  entry_flows (e.Accepted k d) may = record { sum = refl; ended = refl }
  entry_flows (e.Came k bytes) may = came_flows bytes q.stage q
  entry_flows (e.Ended k) may = record { sum = refl; ended = refl }
  entry_flows (e.Went k bytes) may = went_flows k bytes may
  entry_flows (e.Broke k) may = ends_flow cause.PeerGone q
  entry_flows (e.Shut k) may = record { sum = refl; ended = refl }
  entry_flows (e.Closed k why) may = record { sum = refl; ended = refl }
  entry_flows _ may = flows_same q

  -- it has no upstream
  none_up : (u : ℕ) → q.stage ≡ live → q.up ≡ u → 0 < u → ⊥
  none_up u at is above = (let zero = no_up at in omega (arith, zero, is, above))

  up_flows : (z : Entry) → UpMayCome l q z → Flows q (up_entered z q)
  up_flows (e.Dialled u to why) may = record { sum = refl; ended = refl }
  up_flows (e.DialFailed to why) may = ends_flow cause.UpFault q
  up_flows (e.Opened u) may = record { sum = refl; ended = refl }
  up_flows (e.Came u bytes) may = absurd (none_up u may.0.0.1 may.0.1 may.0.2)
  up_flows (e.Ended u) may = absurd (none_up u may.0.0.1 may.0.1 may.0.2)
  up_flows (e.Went u bytes) may = record { sum = refl; ended = refl }
  up_flows (e.Broke u) may = ends_flow cause.UpFault q
  up_flows (e.Shut u) may = record { sum = refl; ended = refl }
  up_flows (e.Closed u why) may = record { sum = refl; ended = refl }
  up_flows _ may = flows_same q

part_flows : (g : NodeConfig) (x : Machine) (l : ℕ) (p : Part) → (x.plain l).gate ≢ 0 → ((x.plain l).stage ≡ live → (x.plain l).up ≡ 0)
    → MayGo l (plain_local x l) p → PlainGuard g x l p → Flows (x.plain l) (next_link (x.plain l) p)
part_flows g x l (captured.entry z) some no_up may guard = entry_flows l (x.plain l) some no_up z may
part_flows g x l (captured.up z) some no_up may guard = up_flows l (x.plain l) some no_up z may
part_flows g x l (captured.hears heard begun) some no_up may guard = absurd guard
part_flows g x l (captured.credited n) some no_up may guard = absurd guard
part_flows g x l p some no_up may guard = record { sum = refl; ended = refl }

-- WHAT IS TOLD, AND GIVEN BACK

or_true : (b : Bool) → (b || true) ≡ true
or_true true = refl
or_true false = refl

or_false : (b : Bool) → (b || false) ≡ b
or_false true = refl
or_false false = refl

-- all that was to be told came on the way to the link
told_fit : (c : Connection) (s : ℕ) (mail : Option Heard) (q new : Captured)
    → length new.ways.down.held ≡ length q.ways.down.held + length (mailed mail) → new.owed ≡ q.owed
    → new.ways.down.has_ended ≡ (q.ways.down.has_ended || mail_ends mail) → FitBy c s carrying mail q → FitBy c s carrying None new
told_fit c s mail q new held owed ended fit = record {
  size = (let size = fit.size in omega (arith, size, held, owed));
  within = λ lives peer. (let had = fit.within lives peer in omega (arith, had, held, owed));
  ended = λ lives is. fit.ended lives (sym ended ∙ sym (or_false new.ways.down.has_ended) ∙ is);
  going = λ is. absurd (false≢true is);
  early = λ is. absurd (let no : carrying ≡ asked = is in cc);
}

tells_fit : (c : Connection) (s : ℕ) (heard : Heard) (begun : ℕ) (q : Captured) → goes_on_with heard ≡ true
    → FitBy c s carrying (Some heard) q → FitBy c s carrying None (told_by heard begun q)
tells_fit c s (opens true) begun q goes fit =
    told_fit c s (Some (opens true)) q (told_by (opens true) begun q) (omega arith) refl (sym (or_true q.ways.down.has_ended)) fit
tells_fit c s (opens false) begun q goes fit =
    told_fit c s (Some (opens false)) q (told_by (opens false) begun q) (omega arith) refl (sym (or_false q.ways.down.has_ended)) fit
tells_fit c s (brings bytes) begun q goes fit =
    told_fit c s (Some (brings bytes)) q (told_by (brings bytes) begun q) (length-append q.ways.down.held bytes) refl
    (sym (or_false q.ways.down.has_ended)) fit
tells_fit c s response.ends begun q goes fit =
    told_fit c s (Some response.ends) q (told_by response.ends begun q) (omega arith) refl (sym (or_true q.ways.down.has_ended)) fit
tells_fit c s (fails why) begun q goes fit = absurd (false≢true goes)

-- what was written is given back
credits_fit : (c : Connection) (s n : ℕ) (stage : Stage) (mail : Option Heard) (q : Captured) → n ≡ min q.owed (creditable c s)
    → FitBy c s stage mail q → FitBy (observed.credited c s n) s stage mail (record q { owed = 0 })
credits_fit c s n stage mail q is fit =
    let d = observed.credited c s n in
    let same : (sides d s).peer ≡ (sides c s).peer = ap (λ (w : Sides). w.peer) (use_leaves_all c s n s) in
    let takes = (uses_take c s n).here in
    record {
      size = (let size = fit.size in omega (arith, size));
      within = λ lives peer. (let had = fit.within lives (sym same ∙ peer) in omega (arith, had, takes, is));
      ended = λ lives at. same ∙ fit.ended lives at;
      going = fit.going;
      early = λ at. (let had = fit.early at in ((let zero = had.0 in omega (arith, zero)), had.1));
    }

-- a link that asks for a stream has none of it yet
asks_fit : (c : Connection) (s : ℕ) (q : Captured) → q.ways.down ≡ empty_way → q.owed ≡ 0 → FitBy c s asked None q
asks_fit c s q none owed =
    let held : length q.ways.down.held ≡ 0 = ap (λ (w : Way). length w.held) none in
    let going : q.ways.down.has_ended ≡ false = ap (λ (w : Way). w.has_ended) none in
    record {
      size = omega (arith, held, owed);
      within = λ lives peer. omega (arith, held, owed);
      ended = λ lives is. absurd (false≢true (sym going ∙ sym (or_false q.ways.down.has_ended) ∙ is));
      going = λ is. absurd (false≢true is);
      early = λ is. (omega (arith, held, owed), going);
    }

-- EVERY STEP

abbrev FitIn : Gateway → Captured → Type 0
FitIn y q = Fit y.conn q.stream (y.streams q.stream) q

abbrev FitOf : (ℕ → Gateway) → Captured → Type 0
FitOf gates q = q.gate ≢ 0 → FitIn (gates q.gate) q

abbrev FitsAll : Machine → Type 0
FitsAll x = (l : ℕ) → FitOf x.gates (x.plain l)

-- a link with its stream changes so that as many bytes count
keeps_fit : (gates : ℕ → Gateway) (p q : Captured) → PlainKeeps p q → (p.gate ≢ 0 → Flows p q) → FitOf gates p → FitOf gates q
keeps_fit gates p q keeps flows fit some =
    let was : p.gate ≢ 0 = λ zero. some (keeps.gate ∙ zero) in
    subst (λ (g : ℕ). FitIn (gates g) q) (sym keeps.gate)
    (subst (λ (s : ℕ). Fit (gates p.gate).conn s ((gates p.gate).streams s) q) (sym keeps.stream)
    (fit_flows (gates p.gate).conn p.stream ((gates p.gate).streams p.stream).stage ((gates p.gate).streams p.stream).mail p q (flows was)
    (fit was)))

-- one that is on this stream
on_stream : (y : Gateway) (n s : ℕ) (q : Captured) → q.stream ≡ s → Fit y.conn s (y.streams s) q → FitIn y q
on_stream y n s q is fit = subst (λ (t : ℕ). Fit y.conn t (y.streams t) q) (sym is) fit

of_stream_fit : (y : Gateway) (s : ℕ) (q : Captured) → q.stream ≡ s → FitIn y q → Fit y.conn s (y.streams s) q
of_stream_fit y s q is fit = subst (λ (t : ℕ). Fit y.conn t (y.streams t) q) is fit

rejudged_fit : (gates : ℕ → Gateway) (h : Resources) (q : Captured) → FitOf gates q → FitOf gates (rejudged h q)
rejudged_fit gates h q fit = by (judges q.door && is_judged q.stage)
  where
    ends_fit : (why : Cause) → FitOf gates (ends_for why q)
    ends_fit why = keeps_fit gates q (ends_for why q) (record { gate = refl; stream = refl }) (λ some. ends_flow why q) fit

    of : (j : Judged) → FitOf gates (judged_by j q)
    of Admitted = fit
    of Unknown = ends_fit cause.Revoked
    of Denied = ends_fit cause.Revoked

    by : (b : Bool) → FitOf gates (cond b (judged_by (judged h q.peer q.target) q) q)
    by true = of (judged h q.peer q.target)
    by false = fit

module _ (g : NodeConfig) (x : Machine) (points : List Point) (stands : StandsFor g x points) (fits : FitsAll x) where
  control_fits : (q : point.Point) (next : _) → FitsAll (with_control q next x)
  control_fits (point.stopped why) next l =
      λ some. let p = x.plain l in
      let y = x.gates p.gate in
      fit_flows y.conn p.stream _ _ p (ends_for why p) (ends_flow why p)
      (failed_fits y.conn y.conn p.stream (gateway.stopped why) (y.streams p.stream).mail p why (stage_of y p.stream) (fits l some))
  control_fits (point.applied k r) next l = rejudged_fit x.gates (after_response x.control.held r) (x.plain l) (fits l)
  control_fits q next l = fits l

  -- an upstream isn't there beside a stream
  no_up : (l : ℕ) → (x.plain l).gate ≢ 0 → (x.plain l).stage ≡ live → (x.plain l).up ≡ 0
  no_up l some at =
      (subst (λ (b : Bool). RelayOn b (whose_in points) l (x.plain l).up) (raw_not (x.plain l).gate some)
      (subst (λ (s : _). RelayBy s (is_raw (x.plain l)) (whose_in points) l (x.plain l).up) at ((all_owned g x points stands).relay l))).1

  plain_fits : (l : ℕ) (p : Part) → MayGo l (plain_local x l) p → PlainGuard g x l p → FitOf x.gates (next_link (x.plain l) p)
  plain_fits l p may guard =
      keeps_fit x.gates (x.plain l) (next_link (x.plain l) p) (part_keeps g x l p guard)
      (λ some. part_flows g x l p some (no_up l some) may guard) (fits l)

  gate_fits : (n : ℕ) (p : gateway.Part) (next : Gateway) → gateway_runs.Steps n (x.gates n) p next → GateGuard g x n p → (l : ℕ)
      → FitOf (λ (k : ℕ). cond (k == n) next (x.gates k)) (x.plain l)
  gate_fits n p next steps guard l some =
      let q = x.plain l in
      cond_both (q.gate == n) next (x.gates q.gate) (λ (y : Gateway). FitIn y q)
      (λ same.
      own_fits n (x.gates n) (gates_of n points) (gates_run g x points n stands) q.stream q
      (subst (λ (k : ℕ). FitIn (x.gates k) q) (eqb-true q.gate n same) (fits l some)) p next steps (unshared g x n p guard))
      (λ apart. fits l some)

  -- A LINK AND ITS STREAM

  -- another link of the same gateway is on another stream
  module _ (l n s : ℕ) (next : Captured) (gate : Gateway) (free : (k : ℕ) → k ≢ l → (x.plain k).gate ≢ 0 → (x.plain k).gate ≡ n
      → (x.plain k).stream ≡ s → ⊥) (rest : (t : ℕ) → t ≢ s → gate.streams t ≡ (x.gates n).streams t)
      (follows : (t : ℕ) → t ≢ s → Follows (x.gates n).conn gate.conn t) where
    abbrev gates : ℕ → Gateway
    gates k = cond (k == n) gate (x.gates k)

    other_fits : (k : ℕ) → k ≢ l → FitOf gates (x.plain k)
    other_fits k apart some =
        let q = x.plain k in
        cond_both (q.gate == n) gate (x.gates q.gate) (λ (y : Gateway). FitIn y q)
        (λ same.
        let at : q.gate ≡ n = eqb-true q.gate n same in
        let far : q.stream ≢ s = λ on. free k apart some at on in
        subst (λ (t : Stream). Fit gate.conn q.stream t q) (sym (rest q.stream far))
        (fit_follows (x.gates n).conn gate.conn q.stream _ _ q (follows q.stream far)
        (subst (λ (j : ℕ). FitIn (x.gates j) q) at (fits k some))))
        (λ other. fits k some)

    all_fits : FitOf gates next → FitsAll (with_stream l n next gate x)
    all_fits here k =
        cond_both (k == l) next (x.plain k) (λ (q : Captured). FitOf gates q) (λ same. here)
        (λ other. other_fits k (λ same. false≢true (sym other ∙ eq-eqb k l same)))

    -- the link is on the stream
    stays_fit : next.gate ≡ n → next.stream ≡ s → Fit gate.conn s (gate.streams s) next → FitsAll (with_stream l n next gate x)
    stays_fit on_gate on fit =
        all_fits (λ some.
        subst (λ (y : Gateway). FitIn y next)
        (sym (ap (λ (k : ℕ). cond (k == n) gate (x.gates k)) on_gate ∙ cond-true (n == n) gate (x.gates n) (eq-eqb n n refl)))
        (on_stream gate n s next on fit))

    -- or leaves it
    leaves_fit : next.gate ≡ 0 → FitsAll (with_stream l n next gate x)
    leaves_fit off = all_fits (λ some. absurd (some off))

  -- no other link is on its stream
  alone : (l n s : ℕ) → IsStreamOf x l n s → (x.plain l).gate ≢ 0 → (k : ℕ) → k ≢ l → (x.plain k).gate ≢ 0 → (x.plain k).gate ≡ n
      → (x.plain k).stream ≡ s → ⊥
  alone l n s of some k apart other on_gate on =
      let agree = runs_agree g x points stands in
      let mine = (agree.carried l (raw_not (x.plain l).gate some)).1 in
      let theirs = (agree.carried k (raw_not (x.plain k).gate other)).1 in
      apart
      (sym theirs ∙ ap (λ (h : ℕ). ((x.gates h).streams (x.plain k).stream).captured) (on_gate ∙ sym of.gate)
      ∙ ap (λ (t : ℕ). ((x.gates (x.plain l).gate).streams t).captured) (on ∙ sym of.number) ∙ mine)

  -- what fits the link that is on a stream
  fit_on : (l n s : ℕ) → IsStreamOf x l n s → (x.plain l).gate ≢ 0 → Fit (x.gates n).conn s ((x.gates n).streams s) (x.plain l)
  fit_on l n s of some =
      of_stream_fit (x.gates n) s (x.plain l) of.number (subst (λ (k : ℕ). FitIn (x.gates k) (x.plain l)) of.gate (fits l some))

  mail_fits : (n s : ℕ) → MailFits ((x.gates n).streams s)
  mail_fits n s = mails_fit n (x.gates n) (gates_of n points) (gates_run g x points n stands) s

  follows_as : (c d : Connection) → d ≡ c → (t : ℕ) → Follows c d t
  follows_as c d is t = subst (λ (e : Connection). Follows c e t) (sym is) (same_follows c t)

  -- no stream changes, and the connection goes on
  goes_fit : (l n s : ℕ) (next : Captured) (gate : Gateway) → IsStreamOf x l n s → (x.plain l).gate ≢ 0
      → PlainKeeps (x.plain l) next → ((t : ℕ) → gate.streams t ≡ (x.gates n).streams t)
      → ((t : ℕ) → t ≢ s → Follows (x.gates n).conn gate.conn t) → Fit gate.conn s ((x.gates n).streams s) next
      → FitsAll (with_stream l n next gate x)
  goes_fit l n s next gate of some keeps same follows fit =
      stays_fit l n s next gate (alone l n s of some) (λ t apart. same t) follows (keeps.gate ∙ of.gate) (keeps.stream ∙ of.number)
      (subst (λ (t : Stream). Fit gate.conn s t next) (sym (same s)) fit)

  asks_all : (l n s : ℕ) (authority : Target) → MayGo l (plain_local x l) (captured.asked n s) → (gate : Gateway)
      → gateway_runs.Steps n (x.gates n) (gateway.asks s l authority) gate
      → FitsAll (with_stream l n (next_link (x.plain l) (captured.asked n s)) gate x)
  asks_all l n s authority may gate steps =
      stays_fit l n s (next_link (x.plain l) (captured.asked n s)) gate free (other_streams (x.gates n) s change gate is) follows refl refl
      (subst (λ (t : Stream). Fit gate.conn s t (next_link (x.plain l) (captured.asked n s)))
      (sym (this_stream (x.gates n) s change gate is))
      (asks_fit gate.conn s (next_link (x.plain l) (captured.asked n s)) none.0 none.1))
    where
      change : Stream → Stream
      change t = record no_stream { stage = asked; captured = l }

      is : (t : ℕ) → gate.streams t ≡ (at_stream s (λ z. record no_stream { stage = asked; captured = l }) (x.gates n)).streams t
      is t = ap (λ (z : Gateway). z.streams t) steps.2

      none : ((x.plain l).ways.down ≡ empty_way) × ((x.plain l).owed ≡ 0)
      none = (aims_fit g x points stands l).still (ap is_asked may.0)

      follows : (t : ℕ) → t ≢ s → Follows (x.gates n).conn gate.conn t
      follows t apart =
          subst (λ (d : Connection). Follows (x.gates n).conn d t) (sym (ap (λ (z : Gateway). z.conn) steps.2))
          (open_follows (x.gates n).conn s (request_of authority) steps.1 t apart)

      free : (k : ℕ) → k ≢ l → (x.plain k).gate ≢ 0 → (x.plain k).gate ≡ n → (x.plain k).stream ≡ s → ⊥
      free k apart other on_gate on =
          let has = ((runs_agree g x points stands).carried k (raw_not (x.plain k).gate other)).0 in
          unused_free ((x.gates n).streams s) (mail_fits n s)
          ((all_know n (x.gates n) (gates_of n points) (gates_run g x points n stands)).unused s (number_above (x.gates n).conn s steps.1))
          (subst (λ (t : ℕ). HasTunnel ((x.gates n).streams t)) on
          (subst (λ (h : ℕ). HasTunnel ((x.gates h).streams (x.plain k).stream)) on_gate has))

  tells_all : (l n s : ℕ) (heard : Heard) (begun : ℕ) (gate : Gateway) → IsStreamOf x l n s → (x.plain l).gate ≢ 0
      → gateway_runs.Steps n (x.gates n) (gateway.tells s heard begun) gate
      → FitsAll (with_stream l n (told_by heard begun (x.plain l)) gate x)
  tells_all l n s heard begun gate of some steps = by heard steps.0
    where
      change : Stream → Stream
      change t = record t { mail = None }

      is : (t : ℕ) → gate.streams t ≡ (at_stream s (λ z. record z { mail = None }) (x.gates n)).streams t
      is t = ap (λ (z : Gateway). z.streams t) steps.2

      conn : gate.conn ≡ (x.gates n).conn
      conn = ap (λ (z : Gateway). z.conn) steps.2

      goes : (heard : Heard) → ((x.gates n).streams s).mail ≡ Some heard → goes_on_with heard ≡ true
          → (told_by heard begun (x.plain l)).gate ≡ (x.plain l).gate → (told_by heard begun (x.plain l)).stream ≡ (x.plain l).stream
          → FitsAll (with_stream l n (told_by heard begun (x.plain l)) gate x)
      goes heard mail going same_gate same_stream =
          let t = (x.gates n).streams s in
          let next = told_by heard begun (x.plain l) in
          let at : t.stage ≡ carrying = lives_on t heard (mail_fits n s) mail going in
          let fit : FitBy (x.gates n).conn s carrying (Some heard) (x.plain l) =
          subst (λ (st : Stage). FitBy (x.gates n).conn s st (Some heard) (x.plain l)) at
          (subst (λ (m : Option Heard). FitBy (x.gates n).conn s t.stage m (x.plain l)) mail (fit_on l n s of some)) in
          let told : FitBy (x.gates n).conn s carrying None next = tells_fit (x.gates n).conn s heard begun (x.plain l) going fit in
          stays_fit l n s next gate (alone l n s of some) (other_streams (x.gates n) s change gate is)
          (λ t apart. follows_as (x.gates n).conn gate.conn conn t) (same_gate ∙ of.gate) (same_stream ∙ of.number)
          (subst (λ (c : Connection). Fit c s (gate.streams s) next) (sym conn)
          (subst (λ (u : Stream). Fit (x.gates n).conn s u next) (sym (this_stream (x.gates n) s change gate is))
          (subst (λ (st : Stage). FitBy (x.gates n).conn s st None next) (sym at) told)))

      by : (heard : Heard) → ((x.gates n).streams s).mail ≡ Some heard → FitsAll (with_stream l n (told_by heard begun (x.plain l)) gate x)
      by (opens end) mail = goes (opens end) mail refl refl refl
      by (brings bytes) mail = goes (brings bytes) mail refl refl refl
      by response.ends mail = goes response.ends mail refl refl refl
      by (fails why) mail =
          leaves_fit l n s (told_by (fails why) begun (x.plain l)) gate (alone l n s of some) (other_streams (x.gates n) s change gate is)
          (λ t apart. follows_as (x.gates n).conn gate.conn conn t) refl

  -- the stream is left
  leaves_all : (l n s : ℕ) (next : Captured) (stage : Stage) (gate : Gateway) → IsStreamOf x l n s → (x.plain l).gate ≢ 0
      → next.gate ≡ 0 → ((t : ℕ) → gate.streams t ≡ (at_stream s (at_stage stage) (x.gates n)).streams t)
      → gate.conn ≡ (x.gates n).conn → FitsAll (with_stream l n next gate x)
  leaves_all l n s next stage gate of some off is conn =
      leaves_fit l n s next gate (alone l n s of some) (other_streams (x.gates n) s (at_stage stage) gate is)
      (λ t apart. follows_as (x.gates n).conn gate.conn conn t) off

  stream_fits : (l n s : ℕ) (w : Shared) → MayGo l (plain_local x l) (captured_part n s w) → (gate : Gateway)
      → gateway_runs.Steps n (x.gates n) (gateway_part l s w) gate → StreamGuard x l n s w
      → FitsAll (with_stream l n (next_link (x.plain l) (captured_part n s w)) gate x)
  stream_fits l n s (asks authority) may gate steps guard = asks_all l n s authority may gate steps
  stream_fits l n s (tells heard begun) may gate steps guard =
      tells_all l n s heard begun gate guard (some_not (x.plain l).gate may.0) steps
  stream_fits l n s (puts waiting count) may gate steps guard =
      let some = some_not (x.plain l).gate may.0.0 in
      let next = next_link (x.plain l) (captured_part n s (puts waiting count)) in
      let conn : gate.conn ≡ data_put (x.gates n).conn s waiting = ap (λ (z : Gateway). z.conn) steps.4 in
      let follows : (t : ℕ) → Follows (x.gates n).conn gate.conn t =
      λ t. subst (λ (d : Connection). Follows (x.gates n).conn d t) (sym conn) (put_follows (x.gates n).conn s waiting t) in
      goes_fit l n s next gate guard.0 some (record { gate = refl; stream = refl }) (λ t. ap (λ (z : Gateway). z.streams t) steps.4)
      (λ t apart. follows t)
      (fit_flows gate.conn s _ _ (x.plain l) next (record { sum = refl; ended = refl })
      (fit_follows (x.gates n).conn gate.conn s _ _ (x.plain l) (follows s) (fit_on l n s guard.0 some)))
  stream_fits l n s finishes may gate steps guard =
      let some = some_not (x.plain l).gate may.0.0 in
      let next = next_link (x.plain l) captured.finished in
      let conn : gate.conn ≡ end_put (x.gates n).conn s = ap (λ (z : Gateway). z.conn) steps.3 in
      let follows : (t : ℕ) → Follows (x.gates n).conn gate.conn t =
      λ t. subst (λ (d : Connection). Follows (x.gates n).conn d t) (sym conn) (end_follows (x.gates n).conn s t) in
      goes_fit l n s next gate guard some (record { gate = refl; stream = refl }) (λ t. ap (λ (z : Gateway). z.streams t) steps.3)
      (λ t apart. follows t)
      (fit_flows gate.conn s _ _ (x.plain l) next (record { sum = refl; ended = refl })
      (fit_follows (x.gates n).conn gate.conn s _ _ (x.plain l) (follows s) (fit_on l n s guard some)))
  stream_fits l n s (credits count) may gate steps guard =
      let some = some_not (x.plain l).gate may.0.0 in
      let next = next_link (x.plain l) (captured.credited count) in
      let conn : gate.conn ≡ observed.credited (x.gates n).conn s count = ap (λ (z : Gateway). z.conn) steps.2 in
      goes_fit l n s next gate guard.0 some (record { gate = refl; stream = refl }) (λ t. ap (λ (z : Gateway). z.streams t) steps.2)
      (λ t apart. subst (λ (d : Connection). Follows (x.gates n).conn d t) (sym conn) (credit_follows (x.gates n).conn s count t apart))
      (subst (λ (d : Connection). Fit d s ((x.gates n).streams s) next) (sym conn)
      (credits_fit (x.gates n).conn s count _ _ (x.plain l) guard.1 (fit_on l n s guard.0 some)))
  stream_fits l n s (drops begun) may gate steps guard =
      leaves_all l n s (next_link (x.plain l) (captured.loosed begun)) (dropped_to s (x.gates n)) gate guard
      (some_not (x.plain l).gate may.0) refl (λ t. ap (λ (z : Gateway). z.streams t) steps.3) (ap (λ (z : Gateway). z.conn) steps.3)
  stream_fits l n s (completes begun note) may gate steps guard =
      leaves_all l n s (next_link (x.plain l) (captured.completed begun note)) over gate guard
      (some_not (x.plain l).gate may.0.0) refl (λ t. ap (λ (z : Gateway). z.streams t) steps.3) (ap (λ (z : Gateway). z.conn) steps.3)

  step_fits : (p : Point) (y : Machine) → Steps g x p y → FitsAll y
  step_fits (of_control q) y steps = subst FitsAll (sym steps.3) (control_fits q steps.0)
  step_fits (of_link l p) y steps = subst FitsAll (sym steps.3) fits
  step_fits (of_plain l p) y steps = subst FitsAll (sym steps.2) (λ k.
      cond_both (k == l) (next_link (x.plain l) p) (x.plain k) (FitOf x.gates) (λ same. plain_fits l p steps.0 steps.1) (λ apart. fits k))
  step_fits (of_gate n p) y steps = subst FitsAll (sym steps.3) (gate_fits n p steps.0 steps.1 steps.2)
  step_fits (of_stream l n s w) y steps = subst FitsAll (sym steps.4) (stream_fits l n s w steps.0 steps.1 steps.2 steps.3)

all_fit : (g : NodeConfig) (x : Machine) (points : List Point) → StandsFor g x points → FitsAll x
all_fit g x points (begins is none) = subst FitsAll (sym is) (λ l some. absurd (some refl))
all_fit g y more (goes_on {x = x} {points = points} stands p steps are) =
    step_fits g x points stands (all_fit g x points stands) p y steps

-- the ring of a link that isn't judged
long_ring : (d : Door) → judges d ≡ false → ring_down d ≡ 65535
long_ring door.Outbound is = refl
long_ring door.Inbound is = absurd (false≢true (sym is))
long_ring door.Plain is = absurd (false≢true (sym is))

pub runs_fit : RunsFit
runs_fit g x points n s bytes stands mail =
    let l = ((x.gates n).streams s).captured in
    let q = x.plain l in
    let told = some_told (brings bytes) ((x.gates n).streams s) mail in
    let of = (runs_agree g x points stands).carries n s told in
    let some : q.gate ≢ 0 = λ zero.
    none_at_zero g x points stands s (subst (λ (k : ℕ). HasTunnel ((x.gates k).streams s)) (sym of.0 ∙ zero) told) in
    let fit = of_stream_fit (x.gates n) s q of.1 (subst (λ (k : ℕ). FitIn (x.gates k) q) of.0 (all_fit g x points stands l some)) in
    let going : q.ways.down.has_ended ≡ false = fit.going (ap mail_brings mail) in
    let size : waiting q (Some (brings bytes)) ≤ 65535 = subst (λ (m : Option Heard). waiting q m ≤ 65535) mail fit.size in
    let ring = long_ring q.door ((aims_fit g x points stands l).outbound some) in
    let free : room (ring_down q.door) q.ways.down ≡ ring_down q.door - length q.ways.down.held =
    ap (λ (b : Bool). cond b 0 (ring_down q.door - length q.ways.down.held)) going in
    (going, omega (arith, size, ring, free))
