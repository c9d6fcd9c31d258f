-- What the stream of a tunnel gets that ended.
use Rattle.std.proofs.Common.{◌≡◌, ℕ, ◌+◌, ◌≤◌, ◌&&◌, ◌||◌, Bool, true, false, cond, is_some, [], ◌∷◌, Option, Some, None, refl, ap, ap₂, sym, ◌∙◌, subst}
use Rattle.std.proofs.lemmas.Bool.{false≢true}
use Rattle.std.specs.FinMap.{get}
use Rattle.hb_base.specs.declared.cause.Cause.{Cause}
use Rattle.hb_base.specs.declared.note.Note.{Note}
use Rattle.hb_base.specs.declared.note.Note.TheVariants as note
use Rattle.hb_base.specs.declared.peer.Peer.{Peer}
use Rattle.hb_base.specs.declared.target.Target.{Target}
use Rattle.hb_conn.specs.Connection.{Connection}
use Rattle.hb_conn.specs.Observed.{own_side_open, sides, status_put, aborted, KeepsWhatCame}
use Rattle.hb_frames.specs.Numbers.{largest}
use Rattle.hb_kept.specs.Kept.{IsKept}
use Rattle.hb_owed.specs.declared.status.Status.{Status}
use Rattle.hb_kept.proofs.Acts.{answers_kept, resets_kept}
use Rattle.hb_inbound.specs.Inbound as m
use Rattle.hb_inbound.specs.Inbound.{Inbound}
use Rattle.hb_inbound.specs.Part as part
use Rattle.hb_inbound.specs.Runs.{Local, Refuses, Resets, Leaves, with_link, with_tunnel, refused_on, failure_status, end_code, is_serving, status_due, code_due, verdict_note, end_note}
use Rattle.hb_inbound.specs.Tunnel as t
use Rattle.hb_inbound.specs.Tunnel.{Tunnel as Machine, is_failed, is_ended, is_unanswered, left_with}
use Rattle.hb_link.specs.declared.link.Link.{Link}
use Rattle.hb_link.specs.declared.phase.Phase.{Phase}
use Rattle.hb_link.specs.declared.phase.Phase.TheVariants.{Fronting, Serving, Faulted, Closing, Closed}
use Rattle.hb_link.specs.declared.tunnel.Stage.{Stage}
use Rattle.hb_link.specs.declared.tunnel.Stage.TheVariants.{Failed, Ended}
use Rattle.hb_link.specs.declared.tunnel.Tunnel.{Tunnel}
use Rattle.hb_link.specs.Answering.{status_of_end, code_of_end, left_of, NoneIs, GotFailed, GotEnded}
use Rattle.hb_link.specs.Counting.{Places, Counts}
use Rattle.hb_link.specs.Noted.{Told, Takes}
use Rattle.hb_link.specs.Observed.{serves_in}
use Rattle.hb_link.specs.Reaches.{Follows}
use Rattle.hb_link.specs.Settling.{Agrees}
use Rattle.hb_link.specs.Shows.{ShowsBy}
use Rattle.hb_link.specs.Tunnels.{phase_of, stage_of, tunnel_of, as_told, ShowsAt, ShowsTunnel}
use Rattle.hb_link.proofs.Leaves.{StaysBy, same_stays, agrees_left, none_left, one_left}
use Rattle.hb_link.proofs.Moving.{Map, link_with}
use Rattle.hb_link.proofs.Noted.{takes_none}

-- the link serves, and of its connection this holds: in code as in the machine
module _ (k : Link) (x : Inbound) (agrees : Agrees k x) (g : Connection → Bool) where
  serves_by : (phase : Phase) → ShowsBy (phase_of phase) k x → (is_serving (phase_of phase) && g x.conn) ≡ (serves_in phase && g k.conn)
  serves_by Fronting way = refl
  serves_by Serving way = ap g way.0
  serves_by (Faulted code) way = refl
  serves_by (Closing why) way = refl
  serves_by Closed way = refl

  same_test : (is_serving x.phase && g x.conn) ≡ (serves_in k.phase && g k.conn)
  same_test =
      ap (λ (p : m.Phase). is_serving p && g x.conn) agrees.phase
      ∙ serves_by k.phase (subst (λ (p : m.Phase). ShowsBy p k x) agrees.phase agrees.way)

  -- where this gives something
  gives_by : (b : Bool) (o : Option ℕ) (n : ℕ) → cond b o None ≡ Some n → b ≡ true
  gives_by true o n is = refl
  gives_by false o n is = absurd (false≢true (ap is_some is))

  phase_by : (p : m.Phase) (b : Bool) → (is_serving p && b) ≡ true → p ≡ m.serving
  phase_by m.unborn b is = absurd (false≢true is)
  phase_by m.arriving b is = absurd (false≢true is)
  phase_by m.fronting b is = absurd (false≢true is)
  phase_by m.serving b is = refl
  phase_by (m.faulted code) b is = absurd (false≢true is)
  phase_by (m.closing why) b is = absurd (false≢true is)
  phase_by m.closed b is = absurd (false≢true is)

  pub gives_serving : (o : Option ℕ) (n : ℕ) → cond (serves_in k.phase && g k.conn) o None ≡ Some n → x.phase ≡ m.serving
  gives_serving o n is = phase_by x.phase (g x.conn) (same_test ∙ gives_by (serves_in k.phase && g k.conn) o n is)

-- what is to be put is so too
same_status : (k : Link) (x : Inbound) (s : ℕ) (why : Cause) → Agrees k x → status_due x s why ≡ status_of_end k s why
same_status k x s why agrees =
    ap (λ (b : Bool). cond b (failure_status why) None) (same_test k x agrees (λ (c : Connection). own_side_open c s))

same_code : (k : Link) (x : Inbound) (s : ℕ) (why : Cause) → Agrees k x → code_due x s why ≡ code_of_end k s why
same_code k x s why agrees =
    ap (λ (b : Bool). cond b (end_code why) None) (same_test k x agrees (λ (c : Connection). (sides c s).own || (sides c s).peer))

-- a refusal leaves the connection kept, and what came
refused_kept : (c : Connection) (s n : ℕ) (resets : Bool) → s ≤ largest → IsKept c → IsKept (refused_on s n resets c)
refused_kept c s n true number kept =
    let status : Status = record { number = n; end = true } in
    resets_kept (status_put c s status) s 0 (answers_kept c s status number kept)
refused_kept c s n false number kept = answers_kept c s (record { number = n; end = true }) number kept

pub refused_came : (c : Connection) (s n : ℕ) (resets : Bool) → KeepsWhatCame c (refused_on s n resets c)
refused_came c s n true = refl
refused_came c s n false = refl

-- the code finds a tunnel that failed, or ended
module _ (k : Link) (x : Inbound) (agrees : Agrees k x) (s : ℕ) (old : Tunnel) (is : get k.tunnels s ≡ Some old) (why : Cause) where
  shown_here : ShowsAt (stage_of old.stage) old (x.tunnels s)
  shown_here = subst (λ (o : Option Tunnel). ShowsTunnel o (x.tunnels s)) is (agrees.tunnels s)

  pub told_failed : old.stage ≡ Failed why → as_told (x.tunnels s) ≡ tunnel_of old
  told_failed at = (subst (λ (stage : Stage). ShowsAt (stage_of stage) old (x.tunnels s)) at shown_here).0

  pub told_ended : old.stage ≡ Ended why → as_told (x.tunnels s) ≡ tunnel_of old
  told_ended at = (subst (λ (stage : Stage). ShowsAt (stage_of stage) old (x.tunnels s)) at shown_here).0

module _ (limits : Option Places) (a : Local) (k : Link) (s : ℕ) (old : Tunnel) (is : get k.tunnels s ≡ Some old) (why : Cause) (told : Told)
    (agrees : Agrees k a.link) (telling : as_told (a.link.tunnels s) ≡ tunnel_of old) where
  abbrev x : Inbound
  x = a.link

  abbrev at : Machine
  at = x.tunnels s

  abbrev next : Machine
  next = left_with why at

  abbrev left : Map
  left = left_of old why k.tunnels s

  abbrev Reached : (Link → Inbound → Type 0) → Connection → Told → Type 0
  Reached Q c now = Follows (Counts limits) Q k.number a (link_with c left k) told now

  abbrev with_conn : Connection → Local
  with_conn d = with_link (with_tunnel s next d x) a

  agrees_next : (c d : Connection) → StaysBy k x c d x.phase → Agrees (link_with c left k) (with_tunnel s next d x)
  agrees_next c d stays = agrees_left k x agrees s old is (ap (λ (z : Machine). z.up) telling) why c d stays

  -- one that failed
  module _ (stage : at.stage ≡ t.failed why) (failed : NoneIs is_failed (Some s) x) where
    got_failed : (c d : Connection) → StaysBy k x c d x.phase → GotFailed (Some (s + 1)) (link_with c left k) (with_tunnel s next d x)
    got_failed c d stays = record {
      agrees = agrees_next c d stays;
      failed = one_left is_failed refl x s why refl d failed;
    }

    pub failed_put : (n : ℕ) → status_of_end k s why ≡ Some n → (now : Told)
        → Takes told (note.Verdict k.number s n k.peer (Some old.target) ∷ []) now
        → Follows (Counts limits) (GotFailed (Some (s + 1))) k.number a
        (link_with (refused_on s n (sides k.conn s).peer k.conn) (left_of old why k.tunnels s) k) told now
    failed_put n due now took =
        let serving = gives_serving k x agrees (λ (c : Connection). own_side_open c s) (failure_status why) n due in
        let way = subst (λ (phase : m.Phase). ShowsBy phase k x) serving agrees.way in
        let d = refused_on s n (sides x.conn s).peer x.conn in
        let made = note.Verdict k.number s n k.peer (Some old.target) in
        let made_is : made ≡ verdict_note k.number s x n (Some at.target) =
        ap₂ (λ (peer : Peer) (to : Target). note.Verdict k.number s n peer (Some to)) (sym way.2)
        (sym (ap (λ (z : Machine). z.target) telling)) in
        record {
          parts = part.refused s n (sides x.conn s).peer made ∷ [];
          reached = with_conn d;
          leads = (
            tt,
            tt,
            with_conn d,
            (
              serving,
              next,
              subst (λ (st : t.Stage). Refuses k.number s x st n made next) (sym stage)
                  (failed, same_status k x s why agrees ∙ due, made_is, refl),
              refl,
              refl,
            ),
            refl,
          );
          shows = got_failed (refused_on s n (sides k.conn s).peer k.conn) d
              (subst (λ (phase : m.Phase). StaysBy k x (refused_on s n (sides k.conn s).peer k.conn) d phase) (sym serving) (
                ap (λ (c : Connection). refused_on s n (sides c s).peer c) way.0,
                refused_kept x.conn s n (sides x.conn s).peer (agrees.numbered s (ap is_some is)) way.1,
              ));
          noted = took;
        }

    pub failed_left : status_of_end k s why ≡ None
        → Follows (Counts limits) (GotFailed (Some (s + 1))) k.number a (link_with k.conn (left_of old why k.tunnels s) k) told
        told
    failed_left due = record {
      parts = part.left s None ∷ [];
      reached = with_conn x.conn;
      leads = (
        tt,
        tt,
        with_conn x.conn,
        (
          next,
          subst (λ (st : t.Stage). Leaves k.number s x st None next) (sym stage)
              (failed, same_status k x s why agrees ∙ due, refl, refl),
          refl,
        ),
        refl,
      );
      shows = got_failed k.conn x.conn (same_stays x.phase k x agrees.way);
      noted = takes_none told;
    }

  -- one that ended
  module _ (stage : at.stage ≡ t.ended why) (failed : NoneIs is_failed None x) (ended : NoneIs is_ended (Some s) x) where
    got_ended : (c d : Connection) → StaysBy k x c d x.phase → GotEnded (Some (s + 1)) (link_with c left k) (with_tunnel s next d x)
    got_ended c d stays = record {
      agrees = agrees_next c d stays;
      failed = none_left is_failed refl x s why refl d None failed;
      ended = one_left is_ended refl x s why refl d ended;
    }

    abbrev made : Note
    made = note.End k.number s why old.went_up old.went_down

    made_is : made ≡ end_note k.number s why at
    made_is = sym (ap (λ (z : Machine). note.End k.number s why z.went_up z.went_down) telling)

    pub ended_put : (n : ℕ) → code_of_end k s why ≡ Some n → (now : Told) → Takes told (made ∷ []) now
        → Follows (Counts limits) (GotEnded (Some (s + 1))) k.number a
        (link_with (aborted k.conn s n) (left_of old why k.tunnels s) k) told now
    ended_put n due now took =
        let serving =
        gives_serving k x agrees (λ (c : Connection). (sides c s).own || (sides c s).peer) (end_code why) n due in
        let way = subst (λ (phase : m.Phase). ShowsBy phase k x) serving agrees.way in
        let d = aborted x.conn s n in
        record {
          parts = part.reset s n made ∷ [];
          reached = with_conn d;
          leads = (
            tt,
            tt,
            with_conn d,
            (
              serving,
              next,
              subst (λ (st : t.Stage). Resets k.number s x st n made next) (sym stage)
                  ((λ j. failed j tt, ended), same_code k x s why agrees ∙ due, made_is, refl),
              refl,
            ),
            refl,
          );
          shows = got_ended (aborted k.conn s n) d
              (subst (λ (phase : m.Phase). StaysBy k x (aborted k.conn s n) d phase) (sym serving)
              (ap (λ (c : Connection). aborted c s n) way.0, resets_kept x.conn s n way.1));
          noted = took;
        }

    pub ended_left : code_of_end k s why ≡ None → (now : Told) → Takes told (made ∷ []) now
        → Follows (Counts limits) (GotEnded (Some (s + 1))) k.number a (link_with k.conn (left_of old why k.tunnels s) k)
        told now
    ended_left due now took = record {
      parts = part.left s (Some made) ∷ [];
      reached = with_conn x.conn;
      leads = (
        tt,
        tt,
        with_conn x.conn,
        (
          next,
          subst (λ (st : t.Stage). Leaves k.number s x st (Some made) next) (sym stage)
              ((λ j. failed j tt, ended), same_code k x s why agrees ∙ due, ap Some made_is, refl),
          refl,
        ),
        refl,
      );
      shows = got_ended k.conn x.conn (same_stays x.phase k x agrees.way);
      noted = took;
    }
