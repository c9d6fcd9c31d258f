-- DATA waits only on streams that were used, move after move.
use Rattle.std.proofs.Common.{◌≡◌, ℕ, ◌≤◌, ◌==◌, Bool, true, false, cond, List, take, Option, Some, None, is_some, length, refl, sym, ◌∙◌, subst, arith}
use Rattle.std.specs.FinMap.{get}
use Rattle.std.proofs.lemmas.Bool.{cond_both, false≢true}
use Rattle.std.proofs.lemmas.Bool.Decides.{nat_tests}
use Rattle.hb_frames.specs.RawFrame.{RawFrame}
use Rattle.hb_frames.specs.Numbers.{data_kind}
use Rattle.hb_streams.specs.States.{States, last_of_peer}
use Rattle.hb_streams.specs.declared.role.Role.{Role}
use Rattle.hb_streams.specs.declared.role.Role.TheVariants.{Server, Client}
use Rattle.hb_streams.proofs.Follows.{highest_stays}
use Rattle.hb_flow.specs.Windows.{Windows}
use Rattle.hb_flow.specs.Flows.{Flows, spent, sendable_by}
use Rattle.hb_outgoing.specs.Written.{begun_by, written}
use Rattle.hb_outgoing.specs.Selected.{has_data, is_kept}
use Rattle.hb_conn.specs.Connection.{core_of}
use Rattle.hb_conn.specs.Faults.{faulted, is_active}
use Rattle.hb_conn.specs.Frames.{frame, goaway, sent}
use Rattle.hb_conn.specs.Payload.{count_put}
use Rattle.hb_conn.specs.declared.machine.Core.{Core}
use Rattle.hb_history.specs.History.{fresh}
use Rattle.hb_history.specs.Points.{Point, Runs}
use Rattle.hb_history.proofs.Acted.{runs_keep}
use Rattle.hb_history.proofs.Flowed.{put_within}
use Rattle.hb_history.proofs.Handled.{Grows}
use Rattle.hb_history.proofs.Lives.{Lives, used_some, lives_keep, lives_puts, lives_acks, lives_resize, lives_grow, lives_written, lives_new}
use Rattle.hb_history.proofs.Parts.{Amid, calm, Keeps, Puts, PutsAck, Resizes}
use Rattle.hb_history.proofs.Shown.{none_behind}
use Rattle.hb_kept.specs.Opened.{AreUpTo, WaitsOnUsed}
use Rattle.hb_kept.proofs.All.{each_more, each_left, each_filtered, each_so}

-- DATA of streams up to this one
abbrev UpTo : ℕ → RawFrame → Type 0
UpTo highest f = has_data f ≡ true → f.stream ≤ highest

abbrev OnUsed : Core → Type 0
OnUsed c = AreUpTo c.streams.highest c.out.queue

no_data : (highest : ℕ) (f : RawFrame) → has_data f ≡ false → UpTo highest f
no_data highest f none some = absurd (false≢true (sym none ∙ some))

higher : (low high : ℕ) (fs : List RawFrame) → low ≤ high → AreUpTo low fs → AreUpTo high fs
higher low high fs more each = each_so (UpTo low) (UpTo high) (λ f up some. let old = up some in omega (arith, old, more)) fs each

fault_by : (c : Core) (code : ℕ) → OnUsed c → OnUsed (faulted c code).core
unfolding faulted
fault_by c code each =
    let high = c.streams.highest in
    let f = goaway (last_of_peer c.streams) code in
    each_more (UpTo high) _ f (each_filtered (UpTo high) (is_kept None) c.out.queue each) (no_data high f refl)

pub has_window : (f : Flows) (o : Option Windows) (n : ℕ) → (n == 0) ≡ false → n ≤ sendable_by f o → is_some o ≡ true
has_window f None n some within = absurd (false≢true (sym some ∙ grind (arith, nat_tests, within)))
has_window f (Some w) n some within = refl

module _ (role : Role) where
  -- streams have windows as they should, and DATA waits only on those that were used
  abbrev pub Used : Amid → Core → Type 0
  Used a c = Lives role a c × OnUsed c

  put_by : (c : Core) (s : ℕ) (bytes : List ℕ) → Used calm c → (b : Bool) → (count_put c s bytes == 0) ≡ b
      → OnUsed (cond b c (sent (record c { flow = spent c.flow s (count_put c s bytes) })
      (frame data_kind 0 s (take (count_put c s bytes) bytes))))
  put_by c s bytes h true is = h.1
  put_by c s bytes h false is =
      let still = none_behind c s bytes is in
      let has = has_window c.flow (get c.flow.streams s) (count_put c s bytes) is (put_within c s bytes) in
      let low = (used_some role c.streams s h.0.0 ((h.0.1 still).only s tt has)).2.1 in
      each_more (UpTo c.streams.highest) c.out.queue _ h.1 (λ some. low)

  pub used_keeps : Keeps Used
  used_keeps =
      let lives = lives_keep role in
      record {
        ends = λ s c h. (lives.ends s c h.0, h.1);
        goes = λ s c h. (lives.goes s c h.0, h.1);
        other = λ a c e b p t h. h;
        sends = λ a c f plain h. (
          lives.sends a c f plain h.0,
          each_more (UpTo c.streams.highest) c.out.queue f h.1 (no_data c.streams.highest f plain.0),
        );
        owes = λ a c m keeps h. (lives.owes a c m keeps h.0, h.1);
        moves = λ b s c t on h. (
          lives.moves b s c t on h.0,
          higher c.streams.highest t.highest c.out.queue
              (subst (λ (u : States). c.streams.highest ≤ u.highest) (sym on.is) (highest_stays c.streams on.move)) h.1,
        );
        withdraws = λ s c h. (
          lives.withdraws s c h.0,
          each_filtered (UpTo c.streams.highest) (is_kept (Some s)) c.out.queue h.1,
        );
        releases = λ s c h. (
          lives.releases s c h.0,
          cond_both (is_active c.streams s) c _ (λ (x : Core). OnUsed x) (λ is. h.1) (λ is. h.1),
        );
        leaves = λ s c none h. (lives.leaves s c none h.0, h.1);
        takes_in = λ a c m taking may h. (lives.takes_in a c m taking may h.0, h.1);
        begins = λ s c sides m above becomes h. (
          lives.begins s c sides m above becomes h.0,
          higher c.streams.highest s c.out.queue (omega (arith, above)) h.1,
        );
        faults = λ a c f code h. (lives.faults a c f code h.0, fault_by (record c { flow = f }) code h.1);
      }

  used_puts : Puts Used
  used_puts c s bytes h = (lives_puts role c s bytes h.0, put_by c s bytes h (count_put c s bytes == 0) refl)

  pub used_acks : PutsAck Used
  used_acks c f answer h = (
    lives_acks role c f answer h.0,
    each_more (UpTo c.streams.highest) c.out.queue f h.1 (no_data c.streams.highest f answer.0),
  )

  pub used_resize : Resizes Used
  used_resize c k within fits h = (lives_resize role c k within fits h.0, h.1)

  pub used_grow : (c : Core) (s n : ℕ) → Used calm c → Grows Used c s n
  used_grow c s n h =
      let lives = lives_grow role c s n h.0 in
      record {
        fault = λ code. (lives.fault code, fault_by c code h.1);
        whole = λ zero fits. (lives.whole zero fits, h.1);
        one = λ some w is fits. (lives.one some w is fits, h.1);
        broken = λ some live. (lives.broken some live, h.1);
        ignored = λ some live why. (lives.ignored some live why, h.1);
      }

  used_written : (c : Core) (n : ℕ) → Used calm c → Used calm (record c { out = written n c.out })
  used_written c n h =
      (lives_written role c n h.0, each_left (UpTo c.streams.highest) (length (begun_by n c.out)) c.out.queue h.1)

  pub used_runs : (points : List Point) (c new : Core) → Used calm c → Runs c points new → Used calm new
  used_runs points c new h runs =
      runs_keep Used used_keeps used_puts used_resize used_acks used_grow (λ d n within h. used_written d n h) points c new h runs

pub used_new : (role : Role) → Used role calm (core_of (fresh role))
used_new Server = (lives_new Server, (λ some. absurd (false≢true some), tt))
used_new Client = (lives_new Client, (λ some. absurd (false≢true some), tt))

pub waits_on_used : WaitsOnUsed
waits_on_used role points given came written c stands =
    (used_runs role points (core_of (fresh role)) (core_of c) (used_new role) stands.runs).1
