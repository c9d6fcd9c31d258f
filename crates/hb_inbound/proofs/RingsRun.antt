-- What waits on each way of a tunnel fits its ring, in every run of a link.
use Rattle.std.proofs.Common.{◌≡◌, ℕ, ◌+◌, ◌-◌, ◌≤◌, ◌==◌, Bool, true, false, cond, List, [], ◌++◌, length, drop, min, refl, ap, sym, ◌∙◌, subst, arith, length-append, length-drop}
use Rattle.std.proofs.lemmas.Bool.{false≢true, cond_both, eq-eqb, eqb-true}
use Rattle.std.proofs.lemmas.List.{append-nil}
use Rattle.hb_base.specs.declared.cause.Cause.{Cause}
use Rattle.hb_base.specs.declared.cause.Cause.TheVariants as cause
use Rattle.hb_conn.specs.Connection.{Connection, fresh_server}
use Rattle.hb_conn.specs.Observed as observed
use Rattle.hb_conn.specs.Observed.{sides, streams, chunk_of, creditable, count_put, status_put, end_put, data_put, aborted}
use Rattle.hb_conn.specs.declared.found.Found.{Found}
use Rattle.hb_conn.specs.declared.found.Found.TheVariants as found
use Rattle.hb_frames.specs.Bodies.{lent_of}
use Rattle.hb_frames.specs.RawFrame.{RawFrame}
use Rattle.hb_front.specs.Faults.{number_of}
use Rattle.hb_held.specs.Held.{Resources}
use Rattle.hb_held.specs.Outcome.{after_response}
use Rattle.hb_history.specs.Points as history
use Rattle.hb_hpack.specs.declared.header.HeaderList.{HeaderList}
use Rattle.hb_kept.specs.Creditable.{IsCreditable, CreditableBehind}
use Rattle.hb_kept.specs.Looks.{IsLook}
use Rattle.hb_kept.specs.Sides.{own_ends, peer_ends, Becomes, SidesBehind}
use Rattle.hb_kept.proofs.CreditableRuns.{looks_add, writes_leave_creditable, puts_leave_creditable, answers_leave_creditable, ends_leave_creditable, resets_leave_creditable, uses_take}
use Rattle.hb_kept.proofs.Sides.{write_leaves_all, put_leaves_all, use_leaves_all, answer_ends_side, end_ends_side, reset_ends_both, finds_sides}
use Rattle.hb_streams.specs.declared.sides.Sides.{Sides}
use Rattle.hb_table.specs.Judgement.{judged}
use Rattle.hb_table.specs.declared.judgement.Judged.{Judged}
use Rattle.hb_table.specs.declared.judgement.Judged.TheVariants.{Admitted, Unknown, Denied}
use Rattle.hb_verdict.specs.declared.verdict.Verdict.{Verdict}
use Rattle.hb_verdict.specs.declared.verdict.Verdict.TheVariants.{Status, Reset, Dial}
use Rattle.hb_world.specs.declared.entry.Entry.{Entry}
use Rattle.hb_world.specs.declared.entry.Entry.TheVariants as e
use Rattle.hb_inbound.specs.Calm.{up_wants}
use Rattle.hb_inbound.specs.Inbound.{Inbound, Phase, unborn, arriving, fronting, serving, faulted, closing, closed, at_stream, came_by, went_by, ended_by, broken_by, on_found, stops_by, judged_by, with_phase, lacking, fronted_by, rejudged, stopped_for}
use Rattle.hb_inbound.specs.Laws.{RunsFitRings}
use Rattle.hb_inbound.specs.Part.{Part, entry, up, welcomed, crowded, lacked, misfronted, looked, decided, accepted, refused, reset, left, done, put, finished, credited, applied, stopped, moves, tellings}
use Rattle.hb_inbound.specs.Part as part
use Rattle.hb_inbound.specs.Rings.{comes_on, ComesBeyond, WindowMayCome}
use Rattle.hb_inbound.specs.Runs.{Local, MayCome, UpMayCome, entered, Steps, StandsFor, begins, goes_on, with_link, tunnel_for, put_down, refused_on}
use Rattle.hb_inbound.specs.Sides.{stream_came, up_went, conn_came, link_went}
use Rattle.hb_inbound.specs.Tunnel.{Tunnel, live, no_tunnel, takes_place, at_stage, ends_for, left_with, up_entered, came_up, peer_ended, requested_with}
use Rattle.hb_history.proofs.Moved.{no_sides}
use Rattle.hb_kept.proofs.SidesAt.{inactive_neither}
use Rattle.std.specs.FinMap.{get-empty}
use Rattle.std.specs.Ordering.{nat_cmp}
use Rattle.hb_inbound.proofs.Admitted.{at_one}
use Rattle.hb_inbound.proofs.Left.{IsLeft, left_so, refuses_left, resets_left, leaves_left}
use Rattle.hb_inbound.proofs.RelaysRun.{all_relay}
use Rattle.hb_inbound.proofs.Runs.{Keeps, all_keep}

-- What waits fits. While the link serves and the peer's side is open, what waits and isn't given back is no more than what the window
-- doesn't grant
record Fits (ph : Phase) (c : Connection) (s : ℕ) (t : Tunnel) : Type 0 where
  pub up : length t.ways.up.held + t.owed ≤ 65535
  pub within : ph ≡ serving → (sides c s).peer ≡ true → length t.ways.up.held + t.owed ≤ creditable c s
  pub down : length t.ways.down.held ≤ 16384

-- no more waits on a tunnel than on another
record Smaller (old new : Tunnel) : Type 0 where
  pub up : length new.ways.up.held + new.owed ≤ length old.ways.up.held + old.owed
  pub down : length new.ways.down.held ≤ length old.ways.down.held

same_size : (t : Tunnel) → Smaller t t
same_size t = record { up = omega arith; down = omega arith }

ends_size : (why : Cause) (t : Tunnel) → Smaller t (ends_for why t)
ends_size why t = record { up = omega arith; down = omega arith }

left_size : (old new : Tunnel) → IsLeft old new → Smaller old new
left_size old new is =
    left_so (Smaller old) old new (record { up = omega arith; down = omega arith }) (λ why. record { up = omega arith; down = omega arith })
    is

judged_size : (b : Bool) (j : Judged) (t : Tunnel) → Smaller t (cond b (judged_by j t) t)
judged_size false j t = same_size t
judged_size true Admitted t = same_size t
judged_size true Unknown t = ends_size cause.Revoked t
judged_size true Denied t = ends_size cause.Revoked t

-- on a stream whose peer's side is open it was open before, and as many octets aren't used up
abbrev Follows : Connection → Connection → ℕ → Type 0
Follows c d s = (sides d s).peer ≡ true → ((sides c s).peer ≡ true) × (creditable d s ≡ creditable c s)

fits_on : (ph qh : Phase) (c d : Connection) (s : ℕ) (old new : Tunnel) → (qh ≡ serving → ph ≡ serving) → Follows c d s → Smaller old new
    → Fits ph c s old → Fits qh d s new
fits_on ph qh c d s old new back follows smaller fits = record {
  up = omega (arith, fits.up, smaller.up);
  within = λ serves peer.
      let was = follows peer in
      let had = fits.within (back serves) was.0 in
      omega (arith, had, was.1, smaller.up);
  down = omega (arith, fits.down, smaller.down);
}

-- nothing waits on a tunnel
fits_none : (ph : Phase) (d : Connection) (s : ℕ) (new : Tunnel) → new.ways.up.held ≡ [] → new.owed ≡ 0 → new.ways.down.held ≡ []
    → Fits ph d s new
fits_none ph d s new none_up owed none_down =
    let none = ap (λ (xs : List ℕ). length xs) none_up in
    record {
      up = omega (arith, none, owed);
      within = λ serves peer. omega (arith, none, owed);
      down = omega (arith, ap (λ (xs : List ℕ). length xs) none_down);
    }

asked_fits : (ph : Phase) (d : Connection) (s : ℕ) (answer : Verdict) (headers : HeaderList) (end : Bool)
    → Fits ph d s (tunnel_for answer headers end)
asked_fits ph d s (Status status) headers end = fits_none ph d s (tunnel_for (Status status) headers end) refl refl refl
asked_fits ph d s Reset headers end = fits_none ph d s (tunnel_for Reset headers end) refl refl refl
asked_fits ph d s (Dial target) headers true = fits_none ph d s (tunnel_for (Dial target) headers true) refl refl refl
asked_fits ph d s (Dial target) headers false = fits_none ph d s (tunnel_for (Dial target) headers false) refl refl refl

-- WHAT THE CONNECTION DOES

peer_same : (c d : Connection) (s : ℕ) → sides d s ≡ sides c s → (sides d s).peer ≡ true → (sides c s).peer ≡ true
peer_same c d s same peer = sym (ap (λ (w : Sides). w.peer) same) ∙ peer

own_peer : (end : Bool) (w : Sides) → (own_ends end w).peer ≡ w.peer
own_peer true w = refl
own_peer false w = refl

module _ (c d : Connection) (creditables : (s : ℕ) → IsCreditable s (creditable c s) d) where
  all_follow : ((s : ℕ) → sides d s ≡ sides c s) → (s : ℕ) → Follows c d s
  all_follow same s peer = (peer_same c d s (same s) peer, creditables s peer)

  becomes_follow : (k : ℕ) (now : Sides) → Becomes k now c d → (now.peer ≡ true → (sides c k).peer ≡ true) → (s : ℕ) → Follows c d s
  becomes_follow k now becomes was s peer = (by (s == k) refl, creditables s peer)
    where
      here : s ≡ k → (sides c s).peer ≡ true
      here is =
          subst (λ n. (sides c n).peer ≡ true) (sym is)
          (was (sym (ap (λ (w : Sides). w.peer) becomes.here) ∙ sym (ap (λ n. (sides d n).peer) is) ∙ peer))

      by : (b : Bool) → (s == k) ≡ b → (sides c s).peer ≡ true
      by true is = here (eqb-true s k is)
      by false apart = peer_same c d s (becomes.others s (λ is. false≢true (sym apart ∙ eq-eqb s k is))) peer

write_follows : (c : Connection) (n s : ℕ) → Follows c (observed.wrote c n) s
write_follows c n = all_follow c (observed.wrote c n) (writes_leave_creditable c n) (write_leaves_all c n)

put_follows : (c : Connection) (k : ℕ) (bytes : List ℕ) (s : ℕ) → Follows c (data_put c k bytes) s
put_follows c k bytes = all_follow c (data_put c k bytes) (puts_leave_creditable c k bytes) (put_leaves_all c k bytes)

answer_follows : (c : Connection) (k number : ℕ) (end : Bool) (s : ℕ) → Follows c (status_put c k (record { number = number; end = end })) s
answer_follows c k number end =
    becomes_follow c (status_put c k (record { number = number; end = end }))
    (answers_leave_creditable c k (record { number = number; end = end })) k (own_ends end (sides c k))
    (answer_ends_side c k (record { number = number; end = end })) (λ peer. sym (own_peer end (sides c k)) ∙ peer)

end_follows : (c : Connection) (k s : ℕ) → Follows c (end_put c k) s
end_follows c k =
    becomes_follow c (end_put c k) (ends_leave_creditable c k) k (own_ends true (sides c k)) (end_ends_side c k) (λ peer. peer)

reset_follows : (c : Connection) (k code s : ℕ) → Follows c (aborted c k code) s
reset_follows c k code =
    becomes_follow c (aborted c k code) (resets_leave_creditable c k code) k _ (reset_ends_both c k code) (λ peer. absurd (false≢true peer))

then_follows : (c mid d : Connection) (s : ℕ) → Follows c mid s → Follows mid d s → Follows c d s
then_follows c mid d s first later peer =
    let was = later peer in
    let had = first was.0 in
    (had.0, was.1 ∙ had.1)

refusal_follows : (c : Connection) (k status : ℕ) (resets : Bool) (s : ℕ) → Follows c (refused_on k status resets c) s
refusal_follows c k status false s = answer_follows c k status true s
refusal_follows c k status true s =
    let mid = status_put c k (record { number = status; end = true }) in
    then_follows c mid (aborted mid k 0) s (answer_follows c k status true s) (reset_follows mid k 0 s)

same_follows : (c : Connection) (s : ℕ) → Follows c c s
same_follows c s peer = (peer, refl)

-- STEP AFTER STEP

module _ (l : ℕ) (start : Resources) (a : Local) (parts : List Part) (keeps : Keeps parts a.link)
    (fits : (s : ℕ) → Fits a.link.phase a.link.conn s (a.link.tunnels s)) where
  abbrev c : Connection
  c = a.link.conn

  abbrev ph : Phase
  ph = a.link.phase

  abbrev FitsIn : Inbound → Type 0
  FitsIn y = (s : ℕ) → Fits y.phase y.conn s (y.tunnels s)

  same : (s : ℕ) → Smaller (a.link.tunnels s) (a.link.tunnels s)
  same s = same_size (a.link.tunnels s)

  -- on each stream
  quiet : (y : Inbound) → (y.phase ≡ serving → ph ≡ serving) → ((s : ℕ) → Follows c y.conn s)
      → ((s : ℕ) → Smaller (a.link.tunnels s) (y.tunnels s)) → (s : ℕ) → Fits y.phase y.conn s (y.tunnels s)
  quiet y back follows smaller s =
      fits_on ph y.phase c y.conn s (a.link.tunnels s) (y.tunnels s) back (follows s) (smaller s) (fits s)

  -- the same connection, the same tunnels or ended ones
  calm : (y : Inbound) → (y.phase ≡ serving → ph ≡ serving) → y.conn ≡ c → ((s : ℕ) → Smaller (a.link.tunnels s) (y.tunnels s))
      → (s : ℕ) → Fits y.phase y.conn s (y.tunnels s)
  calm y back same_conn smaller =
      quiet y back (λ s. subst (λ (d : Connection). Follows c d s) (sym same_conn) (same_follows c s)) smaller

  one : (s : ℕ) (change : Tunnel → Tunnel) (d : Connection) → ((k : ℕ) → (k == s) ≡ false → Follows c d k)
      → Fits ph d s (change (a.link.tunnels s)) → (k : ℕ) → Fits ph d k ((at_stream s change a.link).tunnels k)
  one s change d follows here =
      at_one s change a.link (λ k t. Fits ph d k t) here
      (λ k apart. fits_on ph ph c d k (a.link.tunnels k) (a.link.tunnels k) (λ is. is) (follows k apart) (same k) (fits k))

  one_quiet : (s : ℕ) (change : Tunnel → Tunnel) (d : Connection) → ((k : ℕ) → Follows c d k)
      → Smaller (a.link.tunnels s) (change (a.link.tunnels s)) → (k : ℕ) → Fits ph d k ((at_stream s change a.link).tunnels k)
  one_quiet s change d follows smaller =
      one s change d (λ k apart. follows k)
      (fits_on ph ph c d s (a.link.tunnels s) (change (a.link.tunnels s)) (λ is. is) (follows s) smaller (fits s))

  came_fits : (bytes : List ℕ) (phase : Phase) → let y = came_by phase bytes a.link in (s : ℕ) → Fits y.phase y.conn s (y.tunnels s)
  came_fits bytes unborn = fits
  came_fits bytes arriving = fits
  came_fits bytes fronting = fits
  came_fits bytes serving = quiet (came_by serving bytes a.link) (λ is. is) (same_follows c) same
  came_fits bytes (faulted code) = fits
  came_fits bytes (closing why) = fits
  came_fits bytes closed = fits

  ended_fits : (phase : Phase) → let y = ended_by phase a.link in (s : ℕ) → Fits y.phase y.conn s (y.tunnels s)
  ended_fits serving = calm (ended_by serving a.link) (λ is. absurd (cc)) refl (λ s. ends_size cause.PeerGone (a.link.tunnels s))
  ended_fits unborn = fits
  ended_fits arriving = fits
  ended_fits fronting = calm (ended_by fronting a.link) (λ is. absurd (cc)) refl same
  ended_fits (faulted code) = fits
  ended_fits (closing why) = fits
  ended_fits closed = fits

  broken_fits : (phase : Phase) → let y = broken_by phase a.link in (s : ℕ) → Fits y.phase y.conn s (y.tunnels s)
  broken_fits serving = calm (broken_by serving a.link) (λ is. absurd (cc)) refl (λ s. ends_size cause.PeerGone (a.link.tunnels s))
  broken_fits unborn = fits
  broken_fits arriving = fits
  broken_fits fronting = calm (broken_by fronting a.link) (λ is. absurd (cc)) refl same
  broken_fits (faulted code) = calm (broken_by (faulted code) a.link) (λ is. absurd (cc)) refl same
  broken_fits (closing why) = fits
  broken_fits closed = fits

  -- a write ends no phase but that behind a connection error
  served : (phase : Phase) → went_by phase ≡ serving → phase ≡ serving
  served unborn is = is
  served arriving is = is
  served fronting is = is
  served serving is = is
  served (faulted code) is = absurd (cc)
  served (closing why) is = is
  served closed is = is

  entry_fits : (z : Entry) → MayCome l a.link z → (s : ℕ)
      → Fits (entered z a.link).phase (entered z a.link).conn s ((entered z a.link).tunnels s)
  entry_fits (e.Accepted k d) may = calm (entered (e.Accepted k d) a.link) (λ is. absurd (cc)) refl same
  entry_fits (e.Came k bytes) may = came_fits bytes a.link.phase
  entry_fits (e.Ended k) may = ended_fits a.link.phase
  entry_fits (e.Went k bytes) may =
      quiet (entered (e.Went k bytes) a.link) (served ph) (write_follows c (length bytes))
      (λ s. record { up = omega arith; down = omega arith })
  entry_fits (e.Broke k) may = broken_fits a.link.phase
  entry_fits (e.Closed k why) may = calm (entered (e.Closed k why) a.link) (λ is. absurd (cc)) refl same
  entry_fits (e.Balked w) may = fits
  entry_fits (e.Dialled k to why) may = absurd may
  entry_fits (e.DialFailed to why) may = absurd may
  entry_fits (e.Opened k) may = absurd may
  entry_fits (e.Shut k) may = absurd may
  entry_fits e.Tick may = absurd may
  entry_fits (e.Wait ready how) may = absurd may

  -- ENTRIES OF UPSTREAMS

  abbrev UpFits : ℕ → Entry → Type 0
  UpFits k z = (s : ℕ) → Fits ph c s ((at_stream k (up_entered z) a.link).tunnels s)

  up_quiet : (k : ℕ) (z : Entry) → Smaller (a.link.tunnels k) (up_entered z (a.link.tunnels k)) → UpFits k z
  up_quiet k z smaller = one_quiet k (up_entered z) c (same_follows c) smaller

  wanted : (done : Bool) (n held : ℕ) → held ≤ 16384 → n ≤ cond done 0 (16384 - held) → held + n ≤ 16384
  wanted true n held fits few = omega (arith, fits, few)
  wanted false n held fits few = omega (arith, fits, few)

  came_down : (k u : ℕ) (bytes : List ℕ) → length bytes ≤ up_wants (a.link.tunnels k) → UpFits k (e.Came u bytes)
  came_down k u bytes few =
      let t = a.link.tunnels k in
      one k (up_entered (e.Came u bytes)) c (λ s apart. same_follows c s) (record {
        up = (fits k).up;
        within = (fits k).within;
        down = omega (
          arith,
          length-append t.ways.down.held bytes,
          wanted t.ways.down.has_ended (length bytes) (length t.ways.down.held) (fits k).down few,
        );
      })

  went_up : (k u : ℕ) (bytes rest : List ℕ) → (a.link.tunnels k).ways.up.held ≡ bytes ++ rest → UpFits k (e.Went u bytes)
  went_up k u bytes rest is =
      let t = a.link.tunnels k in
      up_quiet k (e.Went u bytes) (record {
        up = omega (arith, length-drop (length bytes) t.ways.up.held, ap (λ (xs : List ℕ). length xs) is, length-append bytes rest);
        down = omega arith;
      })

  up_fits : (k : ℕ) (z : Entry) → UpMayCome l k a.link (a.link.tunnels k) z → UpFits k z
  up_fits k (e.Dialled u to why) may = up_quiet k (e.Dialled u to why) (record { up = omega arith; down = omega arith })
  up_fits k (e.DialFailed to why) may = up_quiet k (e.DialFailed to why) (ends_size cause.UpFault (a.link.tunnels k))
  up_fits k (e.Opened u) may = up_quiet k (e.Opened u) (record { up = omega arith; down = omega arith })
  up_fits k (e.Came u bytes) may = came_down k u bytes may.3
  up_fits k (e.Ended u) may = up_quiet k (e.Ended u) (record { up = omega arith; down = omega arith })
  up_fits k (e.Went u bytes) may = went_up k u bytes may.2.0 may.2.1
  up_fits k (e.Broke u) may = up_quiet k (e.Broke u) (ends_size cause.UpFault (a.link.tunnels k))
  up_fits k (e.Shut u) may = up_quiet k (e.Shut u) (record { up = omega arith; down = omega arith })
  up_fits k (e.Closed u why) may = up_quiet k (e.Closed u why) (record { up = omega arith; down = omega arith })
  up_fits k (e.Balked w) may = up_quiet k (e.Balked w) (same k)
  up_fits k (e.Accepted j d) may = absurd may
  up_fits k e.Tick may = absurd may
  up_fits k (e.Wait ready how) may = absurd may

  -- WHAT IS TOLD

  module _ (ps : List history.Point) (headers : HeaderList) (d : Connection) (serves : ph ≡ serving) where
    abbrev Looks : Found → Type 0
    Looks told = IsLook c ps told d

    credits : (told : Found) → Looks told → CreditableBehind told c d
    credits told look = looks_add (moves parts) ps (tellings parts) (conn_came parts) (link_went parts) c d told keeps.one.stands look

    behind : (told : Found) → Looks told → SidesBehind told c d
    behind told look = finds_sides c d told look.finds

    others_follow : (k : ℕ) → ((s : ℕ) → (s ≡ k → ⊥) → IsCreditable s (creditable c s) d) → ((s : ℕ) → (s ≡ k → ⊥) → sides d s ≡ sides c s)
        → (s : ℕ) → (s == k) ≡ false → Follows c d s
    others_follow k credit side s apart peer =
        let ne : (s ≡ k → ⊥) = λ is. false≢true (sym apart ∙ eq-eqb s k is) in
        (peer_same c d s (side s ne) peer, credit s ne peer)

    -- DATA ends the peer's side or leaves it
    peer_was : (end : Bool) (w : Sides) → (peer_ends end w).peer ≡ true → w.peer ≡ true
    peer_was true w is = absurd (false≢true is)
    peer_was false w is = is

    chunk_fits : (k : ℕ) (end : Bool) → Looks (found.Chunk k end) → let told = found.Chunk k end in
        (s : ℕ) → Fits ph d s ((at_stream k (came_up (chunk_of d told)) a.link).tunnels s)
    chunk_fits k end look =
        let told = found.Chunk k end in
        let bytes = chunk_of d told in
        let adds = credits told look in
        let side = behind told look in
        let t = a.link.tunnels k in
        let more = length-append t.ways.up.held bytes in
        let had = (fits k).within serves adds.was in
        one k (came_up bytes) d (others_follow k adds.others side.others) (record {
          up = omega (arith, more, adds.fits, had);
          within = λ on peer. omega (arith, more, adds.here peer, had);
          down = (fits k).down;
        })

    found_fits : (told : Found) → Looks told → let y = on_found told headers d a.link in (s : ℕ) → Fits y.phase y.conn s (y.tunnels s)
    found_fits found.Silent look =
        quiet (record a.link { conn = d }) (λ is. is) (all_follow c d (credits found.Silent look) (behind found.Silent look)) same
    found_fits (found.Opened k end) look =
        one k (λ t. requested_with headers end) d (others_follow k (credits (found.Opened k end) look) (behind (found.Opened k end) look))
        (fits_none ph d k (requested_with headers end) refl refl refl)
    found_fits (found.Chunk k end) look = chunk_fits k end look
    found_fits (found.Ended k) look =
        one_quiet k peer_ended d (all_follow c d (credits (found.Ended k) look) (behind (found.Ended k) look))
        (record { up = omega arith; down = omega arith })
    found_fits (found.Reset k code) look =
        one_quiet k (ends_for (cause.PeerReset code)) d
        (becomes_follow c d (credits (found.Reset k code) look) k _ (behind (found.Reset k code) look) (λ peer. absurd (false≢true peer)))
        (ends_size (cause.PeerReset code) (a.link.tunnels k))
    found_fits (found.Broken k code) look =
        one_quiet k (ends_for (cause.StreamFault code)) d
        (becomes_follow c d (credits (found.Broken k code) look) k _ (behind (found.Broken k code) look) (λ peer. absurd (false≢true peer)))
        (ends_size (cause.StreamFault code) (a.link.tunnels k))
    found_fits (found.GoneAway last) look =
        quiet (record a.link { conn = d }) (λ is. is)
        (all_follow c d (credits (found.GoneAway last) look) (behind (found.GoneAway last) look)) same
    found_fits (found.Fault code) look = λ s. record {
      up = (fits s).up;
      within = λ on. absurd (cc);
      down = (fits s).down;
    }

  -- what was written is given back
  credited_fits : (s n : ℕ) → n ≡ min (a.link.tunnels s).owed (creditable c s)
      → (k : ℕ) → Fits ph (observed.credited c s n) k ((at_stream s (λ t. record (a.link.tunnels s) { owed = 0 }) a.link).tunnels k)
  credited_fits s n is =
      let d = observed.credited c s n in
      let t = a.link.tunnels s in
      let takes = uses_take c s n in
      one s (λ t. record (a.link.tunnels s) { owed = 0 }) d
      (λ k apart peer. (
        peer_same c d k (use_leaves_all c s n k) peer,
        takes.others k (λ same_stream. false≢true (sym apart ∙ eq-eqb k s same_stream)),
      ))
      (record {
        up = (let low = (fits s).up in omega (arith, low));
        within = λ serves peer.
            let had = (fits s).within serves (peer_same c d s (use_leaves_all c s n s) peer) in
            omega (arith, had, takes.here, is);
        down = (fits s).down;
      })

  to : (p : Part) (b : Local) (y : Inbound) → b ≡ with_link y a → FitsIn y → FitsIn b.link
  to p b y is now = subst (λ (z : Local). FitsIn z.link) (sym is) now

  step_fits : (p : Part) (b : Local) → Steps l a p b → FitsIn b.link
  step_fits (entry z) b steps = to (entry z) b (entered z a.link) steps.1 (entry_fits z steps.0)
  step_fits (up k z) b steps = to (up k z) b (at_stream k (up_entered z) a.link) steps.1 (up_fits k z steps.0)
  step_fits welcomed b steps = to welcomed b _ steps.1 (calm (with_phase fronting a.link) (λ is. absurd (cc)) refl same)
  step_fits crowded b steps = to crowded b _ steps.1 (calm (with_phase (closing cause.NoRoom) a.link) (λ is. absurd (cc)) refl same)
  step_fits lacked b steps =
      to lacked b _ steps.1 (calm (lacking a.link) (λ is. absurd (cc)) refl (λ s. ends_size cause.NoMemory (a.link.tunnels s)))
  step_fits (part.fronted seen) b steps =
      to (part.fronted seen) b (fronted_by seen steps.2 (drop seen.length a.link.front) a.link) steps.4 (λ s. record {
        up = (fits s).up;
        within = λ serves peer. absurd (false≢true (sym (none_open s) ∙ peer));
        down = (fits s).down;
      })
    where
      none_open : (s : ℕ) → (sides fresh_server s).peer ≡ false
      none_open s =
          ap (λ (w : Sides). w.peer)
          (inactive_neither (streams fresh_server) s (no_sides s (streams fresh_server) (get-empty nat_cmp s)))
  step_fits (misfronted fault) b steps =
      to (misfronted fault) b _ steps.2
      (calm (with_phase (closing (cause.FrontFault (number_of fault))) a.link) (λ is. absurd (cc)) refl same)
  step_fits (looked ps told headers) b steps =
      to (looked ps told headers) b (on_found told headers steps.2 a.link) steps.5 (found_fits ps headers steps.2 steps.0 told steps.3)
  step_fits (decided s full answer) b steps =
      to (decided s full answer) b _ steps.5
      (one s (λ t. tunnel_for answer steps.1 steps.2) c (λ k apart. same_follows c k) (asked_fits ph c s answer steps.1 steps.2))
  step_fits (accepted s made) b steps =
      to (accepted s made) b _ steps.3
      (one_quiet s (λ t. at_stage live (a.link.tunnels s)) (status_put c s (record { number = 200; end = false }))
      (answer_follows c s 200 false) (record { up = omega arith; down = omega arith }))
  step_fits (refused s status resets made) b steps =
      to (refused s status resets made) b _ steps.4
      (one_quiet s (λ t. steps.1) (refused_on s status resets c) (refusal_follows c s status resets)
      (left_size (a.link.tunnels s) steps.1 (refuses_left a.link l s status (a.link.tunnels s).stage made steps.1 steps.2)))
  step_fits (reset s code made) b steps =
      to (reset s code made) b _ steps.3
      (one_quiet s (λ t. steps.1) (aborted c s code) (reset_follows c s code)
      (left_size (a.link.tunnels s) steps.1 (resets_left a.link l s code (a.link.tunnels s).stage made steps.1 steps.2)))
  step_fits (left s made) b steps =
      to (left s made) b _ steps.2
      (one_quiet s (λ t. steps.0) c (same_follows c)
      (left_size (a.link.tunnels s) steps.0 (leaves_left a.link l s 0 (a.link.tunnels s).stage made steps.0 steps.1)))
  step_fits (done s made) b steps =
      to (done s made) b _ steps.3
      (one_quiet s (left_with cause.Done) c (same_follows c) (record { up = omega arith; down = omega arith }))
  step_fits (put s bytes) b steps =
      let t = a.link.tunnels s in
      to (put s bytes) b _ steps.3
      (one_quiet s (λ t. put_down c s (a.link.tunnels s)) (data_put c s bytes) (put_follows c s bytes)
      (record { up = omega arith; down = omega (arith, length-drop (count_put c s t.ways.down.held) t.ways.down.held) }))
  step_fits (finished s) b steps =
      to (finished s) b _ steps.2
      (one_quiet s (λ t. record (a.link.tunnels s) { end_put = true }) (end_put c s) (end_follows c s)
      (record { up = omega arith; down = omega arith }))
  step_fits (credited s n) b steps = to (credited s n) b _ steps.3 (credited_fits s n steps.2)
  step_fits (applied r) b steps =
      let h = after_response a.held r in
      subst (λ (z : Local). FitsIn z.link) (sym steps)
      (calm (rejudged h a.link) (λ is. is) refl
      (λ s. judged_size (takes_place (a.link.tunnels s).stage) (judged h a.link.peer (a.link.tunnels s).target) (a.link.tunnels s)))
  step_fits (stopped why) b steps =
      to (stopped why) b _ steps (calm (stopped_for why a.link) (stops_serving why ph) refl (λ s. ends_size why (a.link.tunnels s)))
    where
      stops_serving : (why : Cause) (phase : Phase) → stops_by why phase ≡ serving → phase ≡ serving
      stops_serving why unborn is = is
      stops_serving why arriving is = absurd (cc)
      stops_serving why fronting is = absurd (cc)
      stops_serving why serving is = refl
      stops_serving why (faulted code) is = is
      stops_serving why (closing cause) is = is
      stops_serving why closed is = is

all_fit : (l : ℕ) (start : Resources) (a : Local) (parts : List Part) → StandsFor l start a parts
    → (s : ℕ) → Fits a.link.phase a.link.conn s (a.link.tunnels s)
all_fit l start a parts (begins is none) =
    subst (λ (z : Local). (s : ℕ) → Fits z.link.phase z.link.conn s (z.link.tunnels s)) (sym is)
    (λ s. fits_none unborn fresh_server s no_tunnel refl refl refl)
all_fit l start b more (goes_on {a = a} {parts = parts} before p steps is) =
    step_fits l start a parts (all_keep l start a parts before) (all_fit l start a parts before) p b steps

pub runs_fit_rings : RunsFitRings
runs_fit_rings l start a parts stands = (
  λ s. (let fits = all_fit l start a parts stands s in record { up = fits.up; down = fits.down }),
  λ s.
      let fits = all_fit l start a parts stands s in
      let relays = all_relay l start a parts stands s in
      omega (
        arith,
        fits.up,
        ap (λ (xs : List ℕ). length xs) relays.front,
        length-append (up_went s parts) (a.link.tunnels s).ways.up.held,
      ),
)

-- EXAMPLES

came_here : (s : ℕ) (f : RawFrame) (headers : HeaderList) → stream_came s (comes_on s f headers) ≡ lent_of f
came_here s f headers =
    subst (λ (b : Bool). (cond b (lent_of f) [] ++ []) ≡ lent_of f) (sym (eq-eqb s s refl)) (append-nil (lent_of f))

pub comes_beyond : ComesBeyond
comes_beyond s f headers size law =
    absurd (omega (arith, law s, ap (λ (xs : List ℕ). length xs) (came_here s f headers), size))

pub window_may_come : WindowMayCome
window_may_come s f headers size k =
    subst (λ (xs : List ℕ). length xs ≤ 65535) (sym (append-nil (cond (s == k) (lent_of f) [])))
    (cond_both (s == k) (lent_of f) [] (λ (xs : List ℕ). length xs ≤ 65535) (λ is. omega (arith, size)) (λ is. omega arith))
