-- What a client that asks on one stream grants again.
use Rattle.std.proofs.Common.{◌≡◌, ℕ, ◌<◌, List, ◌++◌, Some, None, subst, arith}
use Rattle.std.specs.List.{list_any}
use Rattle.hb_frames.specs.RawFrame.{RawFrame}
use Rattle.hb_windows.specs.Taking.{Taking}
use Rattle.hb_flow.specs.Windows.{worth_granting}
use Rattle.hb_outgoing.specs.Selected.{data_size}
use Rattle.hb_owed.specs.Debts.{credit_on}
use Rattle.hb_conn.specs.Connection.{Connection, core_of}
use Rattle.hb_conn.specs.Observed.{outgoing}
use Rattle.hb_history.specs.Points.{Point, frames_got}
use Rattle.hb_history.specs.History.{happenings}
use Rattle.hb_history.specs.OwnFrames.{Stage, first_stream}
use Rattle.hb_history.specs.OwnCredits.{IsGrantedAgain, kept, is_left, GrantsAgain, OwnCredits}
use Rattle.hb_history.specs.Sending.{increments}
use Rattle.hb_history.proofs.Asking.{Goes}
use Rattle.hb_history.proofs.Crediting.{OfConnection, OfStream}
use Rattle.hb_history.proofs.Stages.{At, all_at}

whole : (t : Taking) (a i : ℕ) → OfConnection t a i → IsGrantedAgain i a
whole t a i h = (omega (arith, h.all, h.sum), omega (arith, h.all, h.sum, h.short))

one : (t : Taking) (b i c : ℕ) → c ≡ 0 → t.owed < worth_granting → OfStream t b i c 0 → IsGrantedAgain i b
one t b i c none short h = (omega (arith, h.all, h.sum, none, h.kept), omega (arith, h.all, h.sum, none, h.kept, short))

grants_again : (points : List Point) (begun : List RawFrame) (conn : Connection)
    → Goes begun (data_size None (frames_got points)) (data_size (Some first_stream) (frames_got points)) (kept points)
    (list_any is_left (happenings points)) (core_of conn)
    → GrantsAgain points (begun ++ (outgoing conn).queue) conn
grants_again points begun conn h =
    let c = core_of conn in
    let w = h.3.1.windows in
    record {
      connection = whole c.flow.taking (data_size None (frames_got points)) _ h.3.0;
      windows = w;
      has = h.3.1.has;
      kept_is = h.3.1.part.kept;
      stream = λ goes_on used enough.
          one w.taking (data_size (Some first_stream) (frames_got points)) _ (credit_on c.owed first_stream) (h.3.2 enough)
          (h.3.1.soon goes_on).1
          (subst (λ k. OfStream w.taking (data_size (Some first_stream) (frames_got points))
          (increments first_stream (begun ++ c.out.queue)) (credit_on c.owed first_stream) k) used h.3.1.part);
    }

pub own_credits : OwnCredits
own_credits points given came written c stands is =
    grants_again points stands.begun c
    (subst (λ (st : Stage). At (happenings points) (frames_got points) (kept points) st stands.begun (core_of c)) is
    (all_at points stands.begun (core_of c) stands.begins))
