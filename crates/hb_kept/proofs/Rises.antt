-- The highest number of a stream that was used never falls, move after move.
use Rattle.std.proofs.Common.{ℕ, ◌≤◌, ◌==◌, List, take, ap, sym, subst, arith}
use Rattle.std.proofs.lemmas.Bool.{cond_both}
use Rattle.hb_frames.specs.Numbers.{data_kind}
use Rattle.hb_streams.specs.States.{States}
use Rattle.hb_streams.proofs.Follows.{highest_stays}
use Rattle.hb_flow.specs.Flows.{spent}
use Rattle.hb_conn.specs.Connection.{Connection, core_of}
use Rattle.hb_conn.specs.Faults.{faulted, is_active}
use Rattle.hb_conn.specs.Frames.{frame, sent}
use Rattle.hb_conn.specs.Handling.{Handles}
use Rattle.hb_conn.specs.Payload.{count_put}
use Rattle.hb_conn.specs.declared.found.Found.{Found}
use Rattle.hb_conn.specs.declared.glance.Glance.{Glance}
use Rattle.hb_conn.specs.declared.machine.Core.{Core}
use Rattle.hb_history.specs.History.{Leads}
use Rattle.hb_history.specs.Points.{Point}
use Rattle.hb_history.proofs.Acted.{runs_keep}
use Rattle.hb_history.proofs.CanSend.{wrote_keeps}
use Rattle.hb_history.proofs.Handled.{Grows}
use Rattle.hb_history.proofs.Parts.{Amid, calm, Keeps, Puts, PutsAck, Resizes}
use Rattle.hb_kept.specs.Numbers.{PointsRaise, WritesLeave, UsedOpensNot, HigherMayOpen}
use Rattle.hb_kept.proofs.Handled.{frame_keeps}

module _ (n : ℕ) where
  -- the highest number used is this one or above it
  abbrev Reached : Amid → Core → Type 0
  Reached a c = n ≤ c.streams.highest

  pub fault_rises : (c : Core) (code : ℕ) → n ≤ c.streams.highest → n ≤ (faulted c code).core.streams.highest
  unfolding faulted
  fault_rises c code h = h

  keeps : Keeps Reached
  keeps = record {
    ends = λ s c h. h;
    goes = λ s c h. h;
    other = λ a c e b p t h. h;
    sends = λ a c f plain h. h;
    owes = λ a c m keeps h. h;
    moves = λ b s c t on h.
        let more = subst (λ (u : States). c.streams.highest ≤ u.highest) (sym on.is) (highest_stays c.streams on.move) in
        omega (arith, more, h);
    withdraws = λ s c h. h;
    releases = λ s c h. cond_both (is_active c.streams s) c _ (λ (x : Core). n ≤ x.streams.highest) (λ is. h) (λ is. h);
    leaves = λ s c none h. h;
    takes_in = λ a c m taking may h. h;
    begins = λ s c sides m above becomes h. omega (arith, above, h);
    faults = λ a c f code h. fault_rises (record c { flow = f }) code h;
  }

  puts : Puts Reached
  puts c s bytes h =
      let k = count_put c s bytes in
      cond_both (k == 0) c (sent (record c { flow = spent c.flow s k }) (frame data_kind 0 s (take k bytes)))
      (λ (x : Core). n ≤ x.streams.highest) (λ is. h) (λ is. h)

  acks : PutsAck Reached
  acks c f answer h = h

  resizes : Resizes Reached
  resizes c k within fits h = h

  grows : (c : Core) (s m : ℕ) → Reached calm c → Grows Reached c s m
  grows c s m h = record {
    fault = λ code. fault_rises c code h;
    whole = λ zero fits. h;
    one = λ some w is fits. h;
    broken = λ some live. h;
    ignored = λ some live why. h;
  }

  pub frame_rises : (c : Core) (g : Glance) (bytes : List ℕ) (new : Core) (told : Found) → n ≤ c.streams.highest
      → Handles c g bytes new told → n ≤ new.streams.highest
  frame_rises c g bytes new told h is = frame_keeps Reached keeps resizes acks grows c g bytes new told h is

  runs_rise : (c d : Connection) (points : List Point) → Leads c points d → n ≤ (core_of c).streams.highest
      → n ≤ (core_of d).streams.highest
  runs_rise c d points leads h =
      runs_keep Reached keeps puts resizes acks grows (λ e m within h. h) points (core_of c) (core_of d) h leads

pub points_raise : PointsRaise
points_raise c d points leads = runs_rise (core_of c).streams.highest c d points leads (omega arith)

pub writes_leave : WritesLeave
writes_leave c n = ap (λ p. p.0) (wrote_keeps c n)

pub used_opens_not : UsedOpensNot
used_opens_not c d s end used numbered = let above = numbered.0 in omega (arith, used, above)

pub higher_may_open : HigherMayOpen
higher_may_open c d end was now = (omega (arith, was), now)
