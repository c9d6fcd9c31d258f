-- What a gateway brings fits the ring of the link that it is brought to, in every run.
use Rattle.std.proofs.Common.{◌≡◌, ◌≢◌, ℕ, ◌+◌, ◌≤◌, ◌==◌, ◌||◌, Bool, true, false, cond, List, [], length, Option, Some, None, Ok, refl, ap, sym, ◌∙◌, subst, arith}
use Rattle.std.proofs.lemmas.Bool.{cond_both, eqb-true, eq-eqb, false≢true}
use Rattle.std.specs.List.{flat_map}
use Rattle.hb_base.specs.declared.cause.Cause.{Cause}
use Rattle.hb_base.specs.declared.cause.Cause.TheVariants as cause
use Rattle.hb_captured.specs.Captured.{Captured}
use Rattle.hb_conn.specs.Connection.{Connection}
use Rattle.hb_conn.specs.Observed as observed
use Rattle.hb_conn.specs.Observed.{sides, streams, creditable, chunk_of, next_stream, aborted, data_put, end_put}
use Rattle.hb_conn.specs.declared.found.Found.{Found}
use Rattle.hb_conn.specs.declared.found.Found.TheVariants as found
use Rattle.hb_gateway.specs.Gateway.{Stream, Phase, break_cause}
use Rattle.hb_gateway.specs.Hears.{hears_call, left_behind, after, posted}
use Rattle.hb_gateway.specs.Part as gateway
use Rattle.hb_gateway.specs.Response as response
use Rattle.hb_gateway.specs.Response.{Stage, unused, asked, carrying, failing, over, Heard, opens, brings, fails, is_living, failed, headed, brought, ended}
use Rattle.hb_history.specs.Points as history
use Rattle.hb_history.specs.Points.{data_in}
use Rattle.hb_hpack.specs.declared.header.Header.{Header}
use Rattle.hb_flow.specs.Flows.{creditable_by}
use Rattle.hb_kept.proofs.CreditableRuns.{writes_leave_creditable, puts_leave_creditable, ends_leave_creditable, resets_leave_creditable, uses_take}
use Rattle.hb_kept.proofs.Sides.{write_leaves_all, put_leaves_all, use_leaves_all, end_ends_side, reset_ends_both}
use Rattle.hb_kept.proofs.SidesAt.{sides_at, begins as begins_at}
use Rattle.hb_kept.specs.Creditable.{IsCreditable, CreditableBehind}
use Rattle.hb_kept.specs.Sides.{own_ends, Becomes, SidesBehind}
use Rattle.hb_map.proofs.Laws.{put_elsewhere}
use Rattle.hb_streams.specs.Moves.{after_number}
use Rattle.hb_streams.specs.Sides.{both_open}
use Rattle.hb_streams.specs.declared.sides.Sides.{Sides}
use Rattle.hb_world.specs.declared.entry.Entry.{Entry}
use Rattle.hb_world.specs.declared.entry.Entry.TheVariants as e
use Rattle.hb_proxy.proofs.Closing.{IsClosing, EndsClosed}

-- WHAT THE CONNECTION DOES

-- on a stream whose peer's side is open it was open before, and as many octets aren't used up
abbrev pub Follows : Connection → Connection → ℕ → Type 0
Follows c d s = (sides d s).peer ≡ true → ((sides c s).peer ≡ true) × (creditable d s ≡ creditable c s)

pub same_follows : (c : Connection) (s : ℕ) → Follows c c s
same_follows c s peer = (peer, refl)

-- so one that was closed stays so
pub closed_so : (c d : Connection) (s : ℕ) → Follows c d s → (sides c s).peer ≡ false → (sides d s).peer ≡ false
closed_so c d s follows closed = by (sides d s).peer refl
  where
    by : (b : Bool) → (sides d s).peer ≡ b → b ≡ false
    by true is = absurd (false≢true (sym closed ∙ (follows is).0))
    by false is = refl

pub peer_same : (c d : Connection) (s : ℕ) → sides d s ≡ sides c s → (sides d s).peer ≡ true → (sides c s).peer ≡ true
peer_same c d s same peer = sym (ap (λ (w : Sides). w.peer) same) ∙ peer

module _ (c d : Connection) (creditables : (s : ℕ) → IsCreditable s (creditable c s) d) where
  all_follow : ((s : ℕ) → sides d s ≡ sides c s) → (s : ℕ) → Follows c d s
  all_follow same s peer = (peer_same c d s (same s) peer, creditables s peer)

  becomes_follow : (k : ℕ) (now : Sides) → Becomes k now c d → (now.peer ≡ true → (sides c k).peer ≡ true) → (s : ℕ) → Follows c d s
  becomes_follow k now becomes was s peer = (by (s == k) refl, creditables s peer)
    where
      here : s ≡ k → (sides c s).peer ≡ true
      here is =
          subst (λ n. (sides c n).peer ≡ true) (sym is)
          (was (sym (ap (λ (w : Sides). w.peer) becomes.here) ∙ sym (ap (λ n. (sides d n).peer) is) ∙ peer))

      by : (b : Bool) → (s == k) ≡ b → (sides c s).peer ≡ true
      by true is = here (eqb-true s k is)
      by false apart = peer_same c d s (becomes.others s (λ is. false≢true (sym apart ∙ eq-eqb s k is))) peer

pub write_follows : (c : Connection) (n s : ℕ) → Follows c (observed.wrote c n) s
write_follows c n = all_follow c (observed.wrote c n) (writes_leave_creditable c n) (write_leaves_all c n)

pub put_follows : (c : Connection) (k : ℕ) (bytes : List ℕ) (s : ℕ) → Follows c (data_put c k bytes) s
put_follows c k bytes = all_follow c (data_put c k bytes) (puts_leave_creditable c k bytes) (put_leaves_all c k bytes)

pub end_follows : (c : Connection) (k s : ℕ) → Follows c (end_put c k) s
end_follows c k =
    becomes_follow c (end_put c k) (ends_leave_creditable c k) k (own_ends true (sides c k)) (end_ends_side c k) (λ peer. peer)

pub reset_follows : (c : Connection) (k code s : ℕ) → Follows c (aborted c k code) s
reset_follows c k code =
    becomes_follow c (aborted c k code) (resets_leave_creditable c k code) k _ (reset_ends_both c k code) (λ peer. absurd (false≢true peer))

pub credit_follows : (c : Connection) (k n s : ℕ) → s ≢ k → Follows c (observed.credited c k n) s
credit_follows c k n s apart peer =
    (peer_same c (observed.credited c k n) s (use_leaves_all c k n s) peer, (uses_take c k n).others s apart)

-- another stream is opened
pub open_follows : (c : Connection) (k : ℕ) (headers : List Header) → next_stream c ≡ Ok k → (s : ℕ) → s ≢ k
    → Follows c (observed.opened c k headers false) s
open_follows c k headers next s apart peer = (
  peer_same c (observed.opened c k headers false) s
      (ap (λ r. sides_at (after_number (streams c) r) s) next ∙ (begins_at (streams c) k both_open).others s apart) peer,
  ap creditable_by (put_elsewhere c.receiver.core.flow.streams k _ s apart),
)

-- A STREAM AND ITS LINK

-- the bytes that the tunnel is still to be told, and whether it is to be told that no more come
abbrev pub mailed : Option Heard → List ℕ
mailed (Some (brings bytes)) = bytes
mailed _ = []

abbrev pub mail_ends : Option Heard → Bool
mail_ends (Some (opens end)) = end
mail_ends (Some response.ends) = true
mail_ends _ = false

abbrev pub mail_brings : Option Heard → Bool
mail_brings (Some (brings bytes)) = true
mail_brings _ = false

-- the bytes that wait on the way to the link, those written to it that aren't given back, and those that it is still to be told
abbrev pub waiting : Captured → Option Heard → ℕ
waiting p mail = length p.ways.down.held + p.owed + length (mailed mail)

-- They fit the window. While the tunnel lives and the peer's side is open they are no more than what the window doesn't grant; and that
-- side is closed once the way has ended, or is to. None waits before the tunnel is open
pub record FitBy (c : Connection) (s : ℕ) (stage : Stage) (mail : Option Heard) (p : Captured) : Type 0 where
  pub size : waiting p mail ≤ 65535
  pub within : is_living stage ≡ true → (sides c s).peer ≡ true → waiting p mail ≤ creditable c s
  pub ended : is_living stage ≡ true → (p.ways.down.has_ended || mail_ends mail) ≡ true → (sides c s).peer ≡ false
  pub going : mail_brings mail ≡ true → p.ways.down.has_ended ≡ false
  pub early : stage ≡ asked → (waiting p mail ≡ 0) × (p.ways.down.has_ended ≡ false)

abbrev pub Fit : Connection → ℕ → Stream → Captured → Type 0
Fit c s t p = FitBy c s t.stage t.mail p

-- the way to the link changes so that as many bytes count
pub record Flows (p q : Captured) : Type 0 where
  pub sum : length q.ways.down.held + q.owed ≡ length p.ways.down.held + p.owed
  pub ended : q.ways.down.has_ended ≡ p.ways.down.has_ended

pub flows_same : (p : Captured) → Flows p p
flows_same p = record { sum = refl; ended = refl }

pub fit_flows : (c : Connection) (s : ℕ) (stage : Stage) (mail : Option Heard) (p q : Captured) → Flows p q → FitBy c s stage mail p
    → FitBy c s stage mail q
fit_flows c s stage mail p q flows fit =
    let same = flows.sum in
    record {
      size = omega (arith, fit.size, same);
      within = λ lives peer. let had = fit.within lives peer in omega (arith, had, same);
      ended = λ lives is. fit.ended lives (ap (λ (b : Bool). b || mail_ends mail) (sym flows.ended) ∙ is);
      going = λ is. flows.ended ∙ fit.going is;
      early = λ is. let had = fit.early is in (omega (arith, had.0, same), flows.ended ∙ had.1);
    }

-- the connection goes on
pub fit_follows : (c d : Connection) (s : ℕ) (stage : Stage) (mail : Option Heard) (p : Captured) → Follows c d s → FitBy c s stage mail p
    → FitBy d s stage mail p
fit_follows c d s stage mail p follows fit = record {
  size = fit.size;
  within = λ lives peer. let was = follows peer in let had = fit.within lives was.0 in omega (arith, had, was.1);
  ended = λ lives is. closed_so c d s follows (fit.ended lives is);
  going = fit.going;
  early = fit.early;
}

-- a tunnel that has ended
not_asked : (stage : Stage) → is_living stage ≡ false → stage ≡ asked → ⊥
not_asked stage dead is = false≢true (sym dead ∙ ap is_living is)

pub fit_dead : (c d : Connection) (s : ℕ) (old stage : Stage) (mail : Option Heard) (p : Captured) → is_living stage ≡ false
    → FitBy c s old mail p → FitBy d s stage mail p
fit_dead c d s old stage mail p dead fit = record {
  size = fit.size;
  within = λ lives peer. absurd (false≢true (sym dead ∙ lives));
  ended = λ lives is. absurd (false≢true (sym dead ∙ lives));
  going = fit.going;
  early = λ is. absurd (not_asked stage dead is);
}

pub fit_fails : (c d : Connection) (s : ℕ) (old stage : Stage) (mail : Option Heard) (why : Cause) (p : Captured) → is_living stage ≡ false
    → FitBy c s old mail p → FitBy d s stage (Some (fails why)) p
fit_fails c d s old stage mail why p dead fit = record {
  size = (let size = fit.size in omega (arith, size));
  within = λ lives peer. absurd (false≢true (sym dead ∙ lives));
  ended = λ lives is. absurd (false≢true (sym dead ∙ lives));
  going = λ is. absurd (false≢true is);
  early = λ is. absurd (not_asked stage dead is);
}

-- WHAT A STREAM HEARS

left_dead : (p : gateway.Part) (why : Cause) → is_living (left_behind p why) ≡ false
left_dead (gateway.looked points told headers) why = by told
  where
    by : (told : Found) → is_living (response.left_by told why) ≡ false
    by (found.Reset s code) = refl
    by (found.Broken s code) = refl
    by (found.Fault code) = refl
    by _ = refl
left_dead _ why = refl

-- what it is behind a part with which it hears this
abbrev pub Behind : Connection → ℕ → gateway.Part → Stage → Option Heard → Option Heard → Captured → Type 0
Behind d s part stage mail heard p = FitBy d s (after part stage heard) (posted heard mail) p

module _ (c d : Connection) (s : ℕ) (part : gateway.Part) (mail : Option Heard) (p : Captured) where
  -- a failure
  pub failed_fits : (why : Cause) (stage : Stage) → FitBy c s stage mail p → Behind d s part stage mail (failed why stage) p
  failed_fits why asked fit = fit_fails c d s asked (left_behind part why) mail why p (left_dead part why) fit
  failed_fits why carrying fit = fit_fails c d s carrying (left_behind part why) mail why p (left_dead part why) fit
  failed_fits why unused fit = fit_dead c d s unused unused mail p refl fit
  failed_fits why (failing code) fit = fit_dead c d s (failing code) (failing code) mail p refl fit
  failed_fits why over fit = fit_dead c d s over over mail p refl fit

  either_fits : (b : Bool) (stage : Stage) (heard : Option Heard) → (b ≡ true → Behind d s part stage mail heard p)
      → (b ≡ false → Behind d s part stage mail None p) → Behind d s part stage mail (cond b heard None) p
  either_fits b stage heard here there = cond_both b heard None (λ (h : Option Heard). Behind d s part stage mail h p) here there

-- a call ends the tunnels, or tells them nothing
pub call_fits : (c : Connection) (s : ℕ) (phase : Phase) (call : Entry) (stage : Stage) (mail : Option Heard) (p : Captured)
    → FitBy c s stage mail p → Behind c s (gateway.entry call) stage mail (hears_call phase stage call) p
call_fits c s phase (e.Ended k) stage mail p fit = failed_fits c c s (gateway.entry (e.Ended k)) mail p cause.PeerGone stage fit
call_fits c s phase (e.Broke k) stage mail p fit = failed_fits c c s (gateway.entry (e.Broke k)) mail p (break_cause phase) stage fit
call_fits c s phase (e.Accepted k d) stage mail p fit = fit
call_fits c s phase (e.Dialled k to why) stage mail p fit = fit
call_fits c s phase (e.DialFailed to why) stage mail p fit = fit
call_fits c s phase (e.Opened k) stage mail p fit = fit
call_fits c s phase (e.Came k bytes) stage mail p fit = fit
call_fits c s phase (e.Went k bytes) stage mail p fit = fit
call_fits c s phase (e.Balked w) stage mail p fit = fit
call_fits c s phase (e.Shut k) stage mail p fit = fit
call_fits c s phase (e.Closed k why) stage mail p fit = fit
call_fits c s phase e.Tick stage mail p fit = fit
call_fits c s phase (e.Wait ready how) stage mail p fit = fit

-- frames are looked at where the tunnel was told all
module _ (c d : Connection) (s : ℕ) (ps : List history.Point) (headers : List Header) (closed : EndsClosed c) (p : Captured) where
  abbrev FitAt : Stage → Type 0
  FitAt stage = FitBy c s stage None p

  abbrev Told : Found → Stage → Option Heard → Type 0
  Told told stage heard = Behind d s (gateway.looked ps told headers) stage None heard p

  abbrev why_refused : Option ℕ → Cause
  why_refused status = cause.UpRefused (response.refusal_of status)

  -- headers of the stream
  opened_fits : (k : ℕ) (end : Bool) (status : Option ℕ) (stage : Stage) → (end ≡ true → (sides d s).peer ≡ false) → FitAt stage
      → Told (found.Opened k end) stage (headed stage status end)
  opened_fits k end status asked shut fit = by _ _
    where
      none : (waiting p None ≡ 0) × (p.ways.down.has_ended ≡ false)
      none = fit.early refl

      passed : FitBy d s asked None p
      passed = record {
        size = fit.size;
        within = λ lives peer. (let zero = none.0 in omega (arith, zero));
        ended = λ lives is. absurd (false≢true (ap (λ (b : Bool). b || false) (sym none.1) ∙ is));
        going = fit.going;
        early = fit.early;
      }

      opens_it : FitBy d s carrying (Some (opens end)) p
      opens_it = record {
        size = fit.size;
        within = λ lives peer. (let zero = none.0 in omega (arith, zero));
        ended = λ lives is. shut (ap (λ (b : Bool). b || end) (sym none.1) ∙ is);
        going = λ is. absurd (false≢true is);
        early = λ is. absurd (let no : carrying ≡ asked = is in cc);
      }

      by : (b e : Bool) → Told (found.Opened k end) asked (cond b None (cond e (Some (opens end)) (Some (fails (why_refused status)))))
      by true e = passed
      by false true = opens_it
      by false false = fit_fails c d s asked _ None _ p refl fit
  opened_fits k end status carrying shut fit = fit_fails c d s carrying _ None _ p refl fit
  opened_fits k end status unused shut fit = fit_dead c d s unused unused None p refl fit
  opened_fits k end status (failing code) shut fit = fit_dead c d s (failing code) (failing code) None p refl fit
  opened_fits k end status over shut fit = fit_dead c d s over over None p refl fit

  -- DATA of it
  brought_fits : (k : ℕ) (end : Bool) (bytes : List ℕ) (stage : Stage) → (sides c s).peer ≡ true
      → creditable c s + length bytes ≤ 65535 → IsCreditable s (creditable c s + length bytes) d → FitAt stage
      → Told (found.Chunk k end) stage (brought stage bytes)
  brought_fits k end bytes carrying was most here fit = record {
    size = (let had = fit.within refl was in omega (arith, had, most));
    within = λ lives peer. (let had = fit.within refl was in let now = here peer in omega (arith, had, now));
    ended = λ lives is. absurd (false≢true (sym (fit.ended refl is) ∙ was));
    going = λ is. goes p.ways.down.has_ended refl;
    early = λ is. absurd (let no : carrying ≡ asked = is in cc);
  }
    where
      goes : (b : Bool) → p.ways.down.has_ended ≡ b → b ≡ false
      goes true is = absurd (false≢true (sym (fit.ended refl (ap (λ (e : Bool). e || false) is)) ∙ was))
      goes false is = refl
  brought_fits k end bytes asked was most here fit = fit_fails c d s asked _ None _ p refl fit
  brought_fits k end bytes unused was most here fit = fit_dead c d s unused unused None p refl fit
  brought_fits k end bytes (failing code) was most here fit = fit_dead c d s (failing code) (failing code) None p refl fit
  brought_fits k end bytes over was most here fit = fit_dead c d s over over None p refl fit

  -- and its end
  ended_fits : (k : ℕ) (stage : Stage) → Follows c d s → (sides d s).peer ≡ false → FitAt stage
      → Told (found.Ended k) stage (ended stage)
  ended_fits k carrying follows shut fit = record {
    size = fit.size;
    within = λ lives peer. absurd (false≢true (sym shut ∙ peer));
    ended = λ lives is. shut;
    going = λ is. absurd (false≢true is);
    early = λ is. absurd (let no : carrying ≡ asked = is in cc);
  }
  ended_fits k asked follows shut fit = fit_fails c d s asked _ None _ p refl fit
  ended_fits k unused follows shut fit = fit_dead c d s unused unused None p refl fit
  ended_fits k (failing code) follows shut fit = fit_dead c d s (failing code) (failing code) None p refl fit
  ended_fits k over follows shut fit = fit_dead c d s over over None p refl fit

  module _ (stage : Stage) (fit : FitAt stage) (told : Found) where
    -- nothing is heard of another stream
    untold : Follows c d s → Told told stage None
    untold follows = fit_follows c d s stage None p follows fit

  others_follow : (k : ℕ) → ((s : ℕ) → (s ≡ k → ⊥) → IsCreditable s (creditable c s) d)
      → ((s : ℕ) → (s ≡ k → ⊥) → sides d s ≡ sides c s) → (k == s) ≡ false → Follows c d s
  others_follow k credit side apart peer =
      let ne : (s ≡ k → ⊥) = λ is. false≢true (sym apart ∙ eq-eqb k s (sym is)) in
      (peer_same c d s (side s ne) peer, credit s ne peer)

  pub looked_fits : (stage : Stage) (told : Found) → CreditableBehind told c d → SidesBehind told c d → IsClosing told c d
      → flat_map data_in ps ≡ chunk_of d told → FitAt stage
      → Told told stage (response.heard_of s stage headers (flat_map data_in ps) told)
  looked_fits stage found.Silent credits side closing handed fit = untold stage fit found.Silent (all_follow c d credits side s)
  looked_fits stage (found.Opened k end) credits side closing handed fit =
      either_fits c d s (gateway.looked ps (found.Opened k end) headers) None p (k == s) stage _
      (λ same. opened_fits k end _ stage (λ is. ap (λ (n : ℕ). (sides d n).peer) (sym (eqb-true k s same)) ∙ closing is) fit)
      (λ apart. untold stage fit (found.Opened k end) (others_follow k credits side apart))
  looked_fits stage (found.Chunk k end) credits side closing handed fit =
      either_fits c d s (gateway.looked ps (found.Chunk k end) headers) None p (k == s) stage _
      (λ same.
      let at : k ≡ s = eqb-true k s same in
      let size : length (chunk_of d (found.Chunk k end)) ≡ length (flat_map data_in ps) = ap (λ (bs : List ℕ). length bs) (sym handed) in
      brought_fits k end (flat_map data_in ps) stage (subst (λ (n : ℕ). (sides c n).peer ≡ true) at credits.was)
      (subst (λ (n : ℕ). creditable c n + length (flat_map data_in ps) ≤ 65535) at
      (subst (λ (m : ℕ). creditable c k + m ≤ 65535) size credits.fits))
      (subst (λ (n : ℕ). IsCreditable n (creditable c n + length (flat_map data_in ps)) d) at
      (subst (λ (m : ℕ). IsCreditable k (creditable c k + m) d) size credits.here))
      fit)
      (λ apart. untold stage fit (found.Chunk k end) (others_follow k credits.others side.others apart))
  looked_fits stage (found.Ended k) credits side closing handed fit =
      let follows = all_follow c d credits side s in
      either_fits c d s (gateway.looked ps (found.Ended k) headers) None p (k == s) stage _
      (λ same. ended_fits k stage follows
      (closed_so c d s follows (ap (λ (n : ℕ). (sides c n).peer) (sym (eqb-true k s same)) ∙ closed k closing)) fit)
      (λ apart. untold stage fit (found.Ended k) follows)
  looked_fits stage (found.Reset k code) credits side closing handed fit =
      either_fits c d s (gateway.looked ps (found.Reset k code) headers) None p (k == s) stage _
      (λ same. failed_fits c d s (gateway.looked ps (found.Reset k code) headers) None p (cause.PeerReset code) stage fit)
      (λ apart. untold stage fit (found.Reset k code)
      (becomes_follow c d credits k _ side (λ peer. absurd (false≢true peer)) s))
  looked_fits stage (found.Broken k code) credits side closing handed fit =
      either_fits c d s (gateway.looked ps (found.Broken k code) headers) None p (k == s) stage _
      (λ same. failed_fits c d s (gateway.looked ps (found.Broken k code) headers) None p (cause.StreamFault code) stage fit)
      (λ apart. untold stage fit (found.Broken k code)
      (becomes_follow c d credits k _ side (λ peer. absurd (false≢true peer)) s))
  looked_fits stage (found.GoneAway last) credits side closing handed fit =
      either_fits c d s (gateway.looked ps (found.GoneAway last) headers) None p _ stage _
      (λ same. failed_fits c d s (gateway.looked ps (found.GoneAway last) headers) None p cause.GoneAway stage fit)
      (λ apart. untold stage fit (found.GoneAway last) (all_follow c d credits side s))
  looked_fits stage (found.Fault code) credits side closing handed fit =
      failed_fits c d s (gateway.looked ps (found.Fault code) headers) None p (cause.ConnFault code) stage fit
