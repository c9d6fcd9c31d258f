-- The laws of sending windows.
use Rattle.std.proofs.Common.{◌≡◌, ℕ, ◌==◌, false, cond, pos, ◌+ℤ◌, ◌≤ℤ◌, List, [], take, Some, None, is_some, refl, ap, sym, ◌∙◌, subst, arith}
use Rattle.std.specs.Ordering.{nat_cmp}
use Rattle.std.specs.FinMap.{empty, get, get-empty}
use Rattle.std.proofs.lemmas.Bool.{false≢true, ne_eqb}
use Rattle.std.proofs.lemmas.Int.{ints}
use Rattle.hb_frames.specs.Numbers.{data_kind, largest}
use Rattle.hb_streams.specs.declared.role.Role.{Role}
use Rattle.hb_streams.specs.declared.role.Role.TheVariants.{Server, Client}
use Rattle.hb_flow.specs.Windows.{Windows}
use Rattle.hb_flow.specs.Flows.{fresh as fresh_flows}
use Rattle.hb_flow.specs.Flows.{spent}
use Rattle.hb_flow.proofs.Taking.{never_beyond}
use Rattle.hb_outgoing.specs.Selected.{data_size}
use Rattle.hb_conn.specs.Connection.{Connection}
use Rattle.hb_conn.specs.Frames.{frame, sent}
use Rattle.hb_conn.specs.Payload.{count_put}
use Rattle.hb_conn.specs.Windows.{unbegun}
use Rattle.hb_conn.specs.declared.machine.Core.{Core}
use Rattle.hb_conn.specs.declared.found.Found.{Found}
use Rattle.hb_history.specs.Points.{Point, frames_got}
use Rattle.hb_history.specs.History.{fresh, StandsFor}
use Rattle.hb_history.specs.Sending.{increments, ConnectionSends, StreamsSend, WindowsFit, AllIsGivenBack, NeverBelowZero}
use Rattle.hb_history.proofs.Parts.{calm}
use Rattle.hb_history.proofs.First.{first_new}
use Rattle.hb_history.proofs.Lives.{lives_new}
use Rattle.hb_history.proofs.Flowed.{put_within}
use Rattle.hb_history.proofs.Payloads.{IsAll, is_all, size_of_one}
use Rattle.hb_history.proofs.Sums.{Adds, Sums, regains}
use Rattle.hb_history.proofs.Balanced.{Sent, runs}

no_windows : (T : Type 0) (n : ℕ) (w : Windows) → get (empty {X = Windows} {R = nat_cmp}) n ≡ Some w → T
no_windows T n w is = absurd (false≢true (sym (ap is_some (get-empty nat_cmp n)) ∙ ap is_some is))

sums_new : (role : Role) → Sums [] [] calm fresh_flows (fresh role).receiver.core.out.queue 0
sums_new Server = record {
  first = omega arith;
  whole = refl;
  fits = omega (arith, ints);
  one = λ n w counted is. no_windows _ n w is;
  idle = λ n above. record { waits = refl; begins = refl; gains = refl };
}
sums_new Client = record {
  first = omega arith;
  whole = refl;
  fits = omega (arith, ints);
  one = λ n w counted is. no_windows _ n w is;
  idle = λ n above. record { waits = refl; begins = refl; gains = refl };
}

pub sent_new : (role : Role) → Sent role [] [] calm (fresh role).receiver.core
sent_new Server = (first_new Server, lives_new Server, λ still. sums_new Server)
sent_new Client = (first_new Client, lives_new Client, λ still. sums_new Client)

module _ (role : Role) (points : List Point) (given : List Found) (came written : List ℕ) (c : Connection)
    (stands : StandsFor role points given came written c) (still : c.receiver.core.over ≡ false) where
  abbrev core : Core
  core = c.receiver.core

  reached : Sent role (frames_got points) stands.begun calm core
  reached = runs role points [] [] stands.begun (fresh role).receiver.core core (sent_new role) stands.begins

  sums : Sums (frames_got points) stands.begun calm core.flow core.out.queue core.streams.highest
  sums = reached.2 still

  all : IsAll core.out.queue (unbegun core)
  all = is_all core.out.rest core.out.queue reached.0

pub connection_sends : ConnectionSends
connection_sends role points given came written c stands still =
    subst (λ q. Adds c.receiver.core.flow.sending.held q (data_size None stands.begun) 65535 (increments 0 (frames_got points)))
    (all role points given came written c stands still).whole (sums role points given came written c stands still).whole

pub streams_send : StreamsSend
streams_send role points given came written c stands still n w is =
    subst (λ q. Adds w.sending.held q (data_size (Some n) stands.begun) c.receiver.core.flow.initial (increments n (frames_got points)))
    ((all role points given came written c stands still).one n) ((sums role points given came written c stands still).one n w tt is).sum

pub windows_fit : WindowsFit
windows_fit role points given came written c stands still =
    let a = all role points given came written c stands still in
    let s = sums role points given came written c stands still in (
      subst (λ q. (c.receiver.core.flow.sending.held +ℤ pos q) ≤ℤ pos largest) a.whole s.fits,
      λ n w is. subst (λ q. (w.sending.held +ℤ pos q) ≤ℤ pos largest) (a.one n) (s.one n w tt is).fits,
    )

pub all_is_given_back : AllIsGivenBack
all_is_given_back role points given came written c stands still n =
    let queue = c.receiver.core.out.queue in
    regains c.receiver.core.flow (data_size (Some n) queue) (data_size None queue) (size_of_one n queue)
    (sums role points given came written c stands still).fits

pub never_below_zero : NeverBelowZero
never_below_zero c n bytes some =
    let k = count_put c n bytes in
    let beyond = never_beyond c.flow n k some (put_within c n bytes) in
    let test : (k == 0) ≡ false = ne_eqb k 0 (λ e. omega arith) in
    subst (λ (d : Core). (pos 0 ≤ℤ d.flow.sending.held) × ((w : Windows) → get d.flow.streams n ≡ Some w → pos 0 ≤ℤ w.sending.held))
    (sym (ap (λ b. cond b c (sent (record c { flow = spent c.flow n k }) (frame data_kind 0 n (take k bytes)))) test)) beyond
