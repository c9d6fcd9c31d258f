-- What comes from an upstream goes on its stream, or waits, in every run of a link.
use Rattle.std.proofs.Common.{◌≡◌, ◌⊎◌, inl, inr, ℕ, ◌<◌, ◌≤◌, ◌==◌, ◌&&◌, Bool, true, false, cond, List, [], ◌∷◌, ◌++◌, length, take, drop, Option, refl, ap, ap₂, sym, ◌∙◌, subst, arith, length-append}
use Rattle.std.proofs.lemmas.Bool.{false≢true, cond_both, eq-eqb}
use Rattle.std.proofs.lemmas.List.{append-nil}
use Rattle.std.proofs.Math.Seq.{take-append_seam}
use Rattle.hb_base.specs.declared.cause.Cause.{Cause}
use Rattle.hb_base.specs.declared.cause.Cause.TheVariants as cause
use Rattle.hb_conn.specs.Connection.{Connection, core_of, fresh_server, taken}
use Rattle.hb_conn.specs.Observed as observed
use Rattle.hb_conn.specs.Observed.{outgoing, is_over, frames_begun, count_put, creditable, chunk_of, status_put, end_put, data_put, aborted}
use Rattle.hb_conn.specs.declared.found.Found.{Found}
use Rattle.hb_conn.specs.declared.found.Found.TheVariants as found
use Rattle.hb_frames.specs.RawFrame.{RawFrame}
use Rattle.hb_front.specs.Faults.{number_of}
use Rattle.hb_held.specs.Held.{Resources}
use Rattle.hb_held.specs.Outcome.{after_response}
use Rattle.hb_history.specs.Calls.{Makes, acts}
use Rattle.hb_history.specs.History.{StandsFor as ConnStandsFor}
use Rattle.hb_history.specs.Points as history
use Rattle.hb_history.proofs.Connections.{wrote_leaves, acts_add}
use Rattle.hb_history.proofs.Steady.{not_over, put_over, credited_over, wrote_over}
use Rattle.hb_hpack.specs.declared.header.HeaderList.{HeaderList}
use Rattle.hb_kept.specs.Looks.{IsLook}
use Rattle.hb_kept.specs.Numbers.{highest_used, IsNumbered}
use Rattle.hb_kept.specs.Payloads.{Follows, Stays}
use Rattle.hb_kept.proofs.Acts.{aborted_over, status_over, end_over}
use Rattle.hb_kept.proofs.Begun.{EndsIn, EndsBegun, found_leaves, act_leaves_begun, wrote_ends}
use Rattle.hb_kept.proofs.Opened.{told_are_numbered}
use Rattle.hb_kept.proofs.Payloads.{looks_follow, writes_follow, uses_follow, answers_follow, ends_follow, resets_follow, others_follow, puts_follow, more_follows}
use Rattle.hb_outgoing.specs.declared.head.Head.{Head}
use Rattle.hb_outgoing.specs.Laws.{Shows}
use Rattle.hb_outgoing.specs.Waiting.{spelled}
use Rattle.hb_outgoing.proofs.Sent.{write_begins}
use Rattle.hb_streams.specs.declared.role.Role.TheVariants.{Server}
use Rattle.hb_table.specs.Judgement.{judged}
use Rattle.hb_table.specs.declared.judgement.Judged.{Judged}
use Rattle.hb_table.specs.declared.judgement.Judged.TheVariants.{Admitted, Unknown, Denied}
use Rattle.hb_tunnel.specs.Way.{Way, empty_way}
use Rattle.hb_verdict.specs.declared.verdict.Verdict.{Verdict}
use Rattle.hb_verdict.specs.declared.verdict.Verdict.TheVariants.{Status, Reset, Dial}
use Rattle.hb_world.specs.declared.entry.Entry.{Entry}
use Rattle.hb_world.specs.declared.entry.Entry.TheVariants as e
use Rattle.hb_inbound.specs.Calm.{output, output_by}
use Rattle.hb_inbound.specs.Inbound.{Inbound, Phase, unborn, arriving, fronting, serving, faulted, closing, closed, at_stream, came_by, went_by, ended_by, broken_by, on_found, judged_by, with_phase, lacking, fronted_by, rejudged, stops_by, stopped_for}
use Rattle.hb_inbound.specs.Part.{Part, entry, up, welcomed, crowded, lacked, misfronted, looked, decided, accepted, refused, reset, left, done, put, finished, credited, applied, stopped, moves, tellings}
use Rattle.hb_inbound.specs.Part as part
use Rattle.hb_inbound.specs.Runs.{Local, MayCome, UpMayCome, IsWritable, entered, Steps, StandsFor, begins, goes_on, with_link, with_tunnel, tunnel_for, put_down, refused_on}
use Rattle.hb_inbound.specs.Sides.{went_in, link_went, conn_came, up_came_in, up_came, is_up_end}
use Rattle.hb_inbound.specs.Sides as sides
use Rattle.hb_inbound.specs.Tunnel.{Tunnel, requested, live, takes_place, at_stage, ends_for, left_with, up_entered, came_up, peer_ended, requested_with}
use Rattle.hb_inbound.proofs.Admitted.{at_one, swapped}
use Rattle.hb_inbound.proofs.Grown.{one_more}
use Rattle.hb_inbound.proofs.Left.{IsLeft, left_so, refuses_left, resets_left, leaves_left}
use Rattle.hb_inbound.proofs.Relaying.{Relays, was_more, was_now}
use Rattle.hb_inbound.proofs.RelaysRun.{all_relay}
use Rattle.hb_inbound.proofs.Runs.{Keeps, FrontBy, all_keep}
use Rattle.hb_inbound.proofs.Sending.{is_early, Sends, sends_on, AlikeDown, quiet_down, begins_down, none_begun, ends_early, reached}

-- no connection error was told where the link serves
abbrev pub GoesBy : Phase → Connection → Type 0
GoesBy serving c = is_over c ≡ false
GoesBy _ c = Unit {0}

goes_with : (phase : Phase) (c : Connection) → is_over c ≡ false → GoesBy phase c
goes_with unborn c goes = tt
goes_with arriving c goes = tt
goes_with fronting c goes = tt
goes_with serving c goes = goes
goes_with (faulted code) c goes = tt
goes_with (closing why) c goes = tt
goes_with closed c goes = tt

went_goes : (phase : Phase) (c d : Connection) → is_over d ≡ is_over c → GoesBy phase c → GoesBy (went_by phase) d
went_goes unborn c d same goes = tt
went_goes arriving c d same goes = tt
went_goes fronting c d same goes = tt
went_goes serving c d same goes = same ∙ goes
went_goes (faulted code) c d same goes = tt
went_goes (closing why) c d same goes = tt
went_goes closed c d same goes = tt

stops_goes : (why : Cause) (phase : Phase) (c : Connection) → GoesBy (stops_by why phase) c
stops_goes why unborn c = tt
stops_goes why arriving c = tt
stops_goes why fronting c = tt
stops_goes why serving c = tt
stops_goes why (faulted code) c = tt
stops_goes why (closing cause) c = tt
stops_goes why closed c = tt

-- what went on a link and what waits of it are frames, and each tunnel's bytes are in them
pub record AllSend (parts : List Part) (x : Inbound) : Type 0 where
  pub begun : List RawFrame
  pub shows : Shows [] (link_went parts) begun (outgoing x.conn)
  pub ends : EndsBegun begun (outgoing x.conn)
  pub goes : GoesBy x.phase x.conn
  pub sends : (s : ℕ) → Sends parts begun x.conn s (x.tunnels s)

same_down : (t : Tunnel) → AlikeDown t t
same_down t = record { way = refl; went = refl; stage = λ early. early }

ends_down : (why : Cause) (t : Tunnel) → AlikeDown t (ends_for why t)
ends_down why t = record { way = refl; went = refl; stage = ends_early why t.stage }

left_down : (old new : Tunnel) → IsLeft old new → AlikeDown old new
left_down old new is =
    left_so (AlikeDown old) old new (record { way = refl; went = refl; stage = λ early. absurd (false≢true early) })
    (λ why. record { way = refl; went = refl; stage = λ early. absurd (false≢true early) }) is

judged_down : (b : Bool) (j : Judged) (t : Tunnel) → AlikeDown t (cond b (judged_by j t) t)
judged_down false j t = same_down t
judged_down true Admitted t = same_down t
judged_down true Unknown t = ends_down cause.Revoked t
judged_down true Denied t = ends_down cause.Revoked t

writes_output : (x : Inbound) → IsWritable x → output x ≡ observed.output x.conn
writes_output x (inl may) = ap (λ (ph : Phase). output_by ph x) may.1
writes_output x (inr may) = ap (λ (ph : Phase). output_by ph x) may.2

module _ (l : ℕ) (start : Resources) (a : Local) (parts : List Part) (keeps : Keeps parts a.link)
    (relays : (s : ℕ) → Relays parts a.link.conn s (a.link.tunnels s)) (all : AllSend parts a.link) where
  abbrev BringsNone : Part → Type 0
  BringsNone p = (went_in p ≡ []) × ((s : ℕ) → up_came_in s p ≡ [])

  -- what is left of the frames begun stays
  abbrev LeavesBegun : Connection → Type 1
  LeavesBegun d = (Q : List ℕ → Option Head → Type 0) → Q (outgoing a.link.conn).rest (outgoing a.link.conn).begun
      → Q (outgoing d).rest (outgoing d).begun

  shows_on : (p : Part) (d : Connection) → went_in p ≡ [] → LeavesBegun d
      → Shows [] (link_went (parts ++ p ∷ [])) all.begun (outgoing d)
  shows_on p d none rest =
      rest (λ r h. link_went (parts ++ p ∷ []) ++ r ≡ spelled all.begun)
      (ap (λ (xs : List ℕ). xs ++ (outgoing a.link.conn).rest)
      (one_more went_in parts p ∙ ap (λ (bs : List ℕ). link_went parts ++ bs) none ∙ append-nil (link_went parts))
      ∙ all.shows)

  all_quiet : (p : Part) (y : Inbound) → BringsNone p → LeavesBegun y.conn → Stays a.link.conn y.conn
      → GoesBy y.phase y.conn → ((s : ℕ) → AlikeDown (a.link.tunnels s) (y.tunnels s)) → AllSend (parts ++ p ∷ []) y
  all_quiet p y brings rest stays goes alike = record {
    begun = all.begun;
    shows = shows_on p y.conn brings.0 rest;
    ends = rest (EndsIn all.begun) all.ends;
    goes = goes;
    sends = λ s.
        quiet_down parts p all.begun a.link.conn y.conn s (a.link.tunnels s) (y.tunnels s) (brings.1 s) (stays s all.begun)
        (alike s) (all.sends s);
  }

  leaves_same : LeavesBegun a.link.conn
  leaves_same Q h = h

  stays_same : Stays a.link.conn a.link.conn
  stays_same s begun xs w h = h

  calm_quiet : (p : Part) (y : Inbound) → BringsNone p → y.conn ≡ a.link.conn → GoesBy y.phase y.conn
      → ((s : ℕ) → AlikeDown (a.link.tunnels s) (y.tunnels s)) → AllSend (parts ++ p ∷ []) y
  calm_quiet p y brings same goes alike =
      all_quiet p y brings (subst (λ (c : Connection). LeavesBegun c) (sym same) leaves_same)
      (subst (λ (c : Connection). Stays a.link.conn c) (sym same) stays_same) goes alike

  one_sends : (p : Part) (s : ℕ) (change : Tunnel → Tunnel) (d : Connection) → ((k : ℕ) → (k == s) ≡ false → up_came_in k p ≡ [])
      → ((k : ℕ) → (k == s) ≡ false → (xs w : List ℕ) → Follows k all.begun xs w a.link.conn → Follows k all.begun xs w d)
      → Sends (parts ++ p ∷ []) all.begun d s (change (a.link.tunnels s))
      → (k : ℕ) → Sends (parts ++ p ∷ []) all.begun d k ((at_stream s change a.link).tunnels k)
  one_sends p s change d none stays here =
      at_one s change a.link (λ k t. Sends (parts ++ p ∷ []) all.begun d k t) here
      (λ k apart. quiet_down parts p all.begun a.link.conn d k (a.link.tunnels k) (a.link.tunnels k) (none k apart)
      (stays k apart) (same_down (a.link.tunnels k)) (all.sends k))

  one_quiet : (p : Part) (s : ℕ) (change : Tunnel → Tunnel) (d : Connection) → ((k : ℕ) → up_came_in k p ≡ []) → Stays a.link.conn d
      → AlikeDown (a.link.tunnels s) (change (a.link.tunnels s))
      → (k : ℕ) → Sends (parts ++ p ∷ []) all.begun d k ((at_stream s change a.link).tunnels k)
  one_quiet p s change d none stays alike =
      one_sends p s change d (λ k apart. none k) (λ k apart. stays k all.begun)
      (quiet_down parts p all.begun a.link.conn d s (a.link.tunnels s) (change (a.link.tunnels s)) (none s) (stays s all.begun)
      alike (all.sends s))

  now : (p : Part) (y : Inbound) → went_in p ≡ [] → LeavesBegun y.conn → GoesBy y.phase y.conn
      → ((k : ℕ) → Sends (parts ++ p ∷ []) all.begun y.conn k (y.tunnels k)) → AllSend (parts ++ p ∷ []) y
  now p y none rest goes sends = record {
    begun = all.begun;
    shows = shows_on p y.conn none rest;
    ends = rest (EndsIn all.begun) all.ends;
    goes = goes;
    sends = sends;
  }

  over_at : a.link.phase ≡ serving → is_over a.link.conn ≡ false
  over_at is = subst (λ (ph : Phase). GoesBy ph a.link.conn) is all.goes

  stands : ConnStandsFor Server (moves parts) (tellings parts) (conn_came parts) (link_went parts) a.link.conn
  stands = keeps.one.stands

  leaves : (m : history.Move) (d : Connection) → Makes a.link.conn (acts m) d → LeavesBegun d
  leaves m d makes Q h = act_leaves_begun Q a.link.conn d (history.point m found.Silent) makes.0 makes.1 h

  -- ENTRIES OF THE LINK

  came_stays : (bytes : List ℕ) → Stays a.link.conn (taken a.link.conn bytes)
  came_stays bytes s begun xs w h = record { rest = h.rest; front = h.front; goes = λ on. h.goes on; unused = λ above. h.unused above }

  came_now : (k : ℕ) (bytes : List ℕ) (phase : Phase) → a.link.phase ≡ phase
      → AllSend (parts ++ entry (e.Came k bytes) ∷ []) (came_by phase bytes a.link)
  came_now k bytes fronting is =
      calm_quiet (entry (e.Came k bytes)) (came_by fronting bytes a.link) (refl, λ s. refl) refl all.goes
      (λ s. same_down (a.link.tunnels s))
  came_now k bytes serving is =
      all_quiet (entry (e.Came k bytes)) (came_by serving bytes a.link) (refl, λ s. refl) (λ Q h. h) (came_stays bytes)
      (goes_with a.link.phase (taken a.link.conn bytes) (over_at is)) (λ s. same_down (a.link.tunnels s))
  came_now k bytes unborn is = calm_quiet (entry (e.Came k bytes)) a.link (refl, λ s. refl) refl all.goes
      (λ s. same_down (a.link.tunnels s))
  came_now k bytes arriving is =
      calm_quiet (entry (e.Came k bytes)) a.link (refl, λ s. refl) refl all.goes (λ s. same_down (a.link.tunnels s))
  came_now k bytes (faulted code) is =
      calm_quiet (entry (e.Came k bytes)) a.link (refl, λ s. refl) refl all.goes (λ s. same_down (a.link.tunnels s))
  came_now k bytes (closing why) is =
      calm_quiet (entry (e.Came k bytes)) a.link (refl, λ s. refl) refl all.goes (λ s. same_down (a.link.tunnels s))
  came_now k bytes closed is = calm_quiet (entry (e.Came k bytes)) a.link (refl, λ s. refl) refl all.goes
      (λ s. same_down (a.link.tunnels s))

  ended_now : (p : Part) → BringsNone p → (phase : Phase) → AllSend (parts ++ p ∷ []) (ended_by phase a.link)
  ended_now p brings fronting = calm_quiet p (ended_by fronting a.link) brings refl tt (λ s. same_down (a.link.tunnels s))
  ended_now p brings serving = calm_quiet p (ended_by serving a.link) brings refl tt (λ s. ends_down cause.PeerGone (a.link.tunnels s))
  ended_now p brings unborn = calm_quiet p a.link brings refl all.goes (λ s. same_down (a.link.tunnels s))
  ended_now p brings arriving = calm_quiet p a.link brings refl all.goes (λ s. same_down (a.link.tunnels s))
  ended_now p brings (faulted code) = calm_quiet p a.link brings refl all.goes (λ s. same_down (a.link.tunnels s))
  ended_now p brings (closing why) = calm_quiet p a.link brings refl all.goes (λ s. same_down (a.link.tunnels s))
  ended_now p brings closed = calm_quiet p a.link brings refl all.goes (λ s. same_down (a.link.tunnels s))

  broken_now : (p : Part) → BringsNone p → (phase : Phase) → AllSend (parts ++ p ∷ []) (broken_by phase a.link)
  broken_now p brings fronting = calm_quiet p (broken_by fronting a.link) brings refl tt (λ s. same_down (a.link.tunnels s))
  broken_now p brings serving = calm_quiet p (broken_by serving a.link) brings refl tt (λ s. ends_down cause.PeerGone (a.link.tunnels s))
  broken_now p brings (faulted code) = calm_quiet p (broken_by (faulted code) a.link) brings refl tt (λ s. same_down (a.link.tunnels s))
  broken_now p brings unborn = calm_quiet p a.link brings refl all.goes (λ s. same_down (a.link.tunnels s))
  broken_now p brings arriving = calm_quiet p a.link brings refl all.goes (λ s. same_down (a.link.tunnels s))
  broken_now p brings (closing why) = calm_quiet p a.link brings refl all.goes (λ s. same_down (a.link.tunnels s))
  broken_now p brings closed = calm_quiet p a.link brings refl all.goes (λ s. same_down (a.link.tunnels s))

  went_now : (k : ℕ) (bytes rest : List ℕ) → observed.output a.link.conn ≡ bytes ++ rest
      → AllSend (parts ++ entry (e.Went k bytes) ∷ []) (entered (e.Went k bytes) a.link)
  went_now k bytes rest is =
      let p = entry (e.Went k bytes) in
      let c = a.link.conn in
      let n = length bytes in
      let within : n ≤ length (observed.output c) = omega (arith, ap length is, length-append bytes rest) in
      let whole : take n (observed.output c) ≡ bytes = ap (take n) is ∙ take-append_seam bytes rest in
      let shown = (write_begins [] (link_went parts) all.begun (outgoing c) n within all.shows).0 in
      record {
        begun = all.begun ++ frames_begun n c;
        shows = ap₂ (λ (xs ys : List ℕ). xs ++ ys)
            (one_more went_in parts p ∙ ap (λ (bs : List ℕ). link_went parts ++ bs) (sym whole)) (wrote_leaves c n)
            ∙ shown;
        ends = wrote_ends all.begun c n all.ends;
        goes = went_goes a.link.phase c (observed.wrote c n) (wrote_over c n) all.goes;
        sends = λ s.
            let follows =
            writes_follow Server (moves parts) (tellings parts) (conn_came parts) (link_went parts) c stands s n all.begun (up_came s parts)
            (a.link.tunnels s).ways.down.held (all.sends s).follows in
            begins_down parts p all.begun (frames_begun n c) (observed.wrote c n) s (a.link.tunnels s) _ refl follows refl refl refl c
            (all.sends s);
      }

  entry_now : (z : Entry) → MayCome l a.link z → AllSend (parts ++ entry z ∷ []) (entered z a.link)
  entry_now (e.Accepted k d) may =
      calm_quiet (entry (e.Accepted k d)) (entered (e.Accepted k d) a.link) (refl, λ s. refl) refl tt (λ s. same_down (a.link.tunnels s))
  entry_now (e.Came k bytes) may = came_now k bytes a.link.phase refl
  entry_now (e.Ended k) may = ended_now (entry (e.Ended k)) (refl, λ s. refl) a.link.phase
  entry_now (e.Went k bytes) may = went_now k bytes may.3.0 (sym (writes_output a.link may.1) ∙ may.3.1)
  entry_now (e.Broke k) may = broken_now (entry (e.Broke k)) (refl, λ s. refl) a.link.phase
  entry_now (e.Closed k why) may =
      calm_quiet (entry (e.Closed k why)) (entered (e.Closed k why) a.link) (refl, λ s. refl) refl tt (λ s. same_down (a.link.tunnels s))
  entry_now (e.Balked w) may = calm_quiet (entry (e.Balked w)) a.link (refl, λ s. refl) refl all.goes (λ s. same_down (a.link.tunnels s))
  entry_now (e.Dialled k to why) may = absurd may
  entry_now (e.DialFailed to why) may = absurd may
  entry_now (e.Opened k) may = absurd may
  entry_now (e.Shut k) may = absurd may
  entry_now e.Tick may = absurd may
  entry_now (e.Wait ready how) may = absurd may

  -- ENTRIES OF UPSTREAMS

  abbrev UpNow : ℕ → Entry → Type 0
  UpNow k z = AllSend (parts ++ up k z ∷ []) (at_stream k (up_entered z) a.link)

  up_quiet : (k : ℕ) (z : Entry) → sides.came_by z ≡ [] → AlikeDown (a.link.tunnels k) (up_entered z (a.link.tunnels k)) → UpNow k z
  up_quiet k z none alike =
      now (up k z) (at_stream k (up_entered z) a.link) refl leaves_same all.goes
      (one_quiet (up k z) k (up_entered z) a.link.conn
      (λ s. cond_both (k == s) (sides.came_by z) [] (λ (x : List ℕ). x ≡ []) (λ is. none) (λ is. refl)) stays_same alike)

  up_came_now : (k u : ℕ) (bytes : List ℕ) → (a.link.tunnels k).stage ≡ live → UpNow k (e.Came u bytes)
  up_came_now k u bytes lives =
      let t = a.link.tunnels k in
      let z = e.Came u bytes in
      let p = up k z in
      let c = a.link.conn in
      let used = reached (highest_used c) k (λ above. (let both = sym ((relays k).new above).0 ∙ lives in cc)) in
      now p (at_stream k (up_entered z) a.link) refl leaves_same all.goes
      (one_sends p k (up_entered z) c (λ j apart. ap (λ (b : Bool). cond b bytes []) (swapped j k apart)) (λ j apart xs w h. h)
      (sends_on parts p all.begun c k (up_entered z t) bytes (ap (λ (b : Bool). cond b bytes []) (eq-eqb k k refl))
      (more_follows k all.begun (up_came k parts) t.ways.down.held bytes c used (all.sends k).follows)
      (λ early. absurd (false≢true (sym (ap is_early lives) ∙ early))) (all.sends k).counts
      (λ ends. was_more (is_up_end k) parts p ((all.sends k).ended ends))))

  up_ended_now : (k u : ℕ) → UpNow k (e.Ended u)
  up_ended_now k u =
      let t = a.link.tunnels k in
      let z = e.Ended u in
      let p = up k z in
      let c = a.link.conn in
      let none : (j : ℕ) → up_came_in j p ≡ [] =
      λ j. cond_both (k == j) [] [] (λ (x : List ℕ). x ≡ []) (λ is. refl) (λ is. refl) in
      now p (at_stream k (up_entered z) a.link) refl leaves_same all.goes
      (one_sends p k (up_entered z) c (λ j apart. none j) (λ j apart xs w h. h)
      (sends_on parts p all.begun c k (up_entered z t) [] (none k)
      (subst (λ (xs : List ℕ). Follows k all.begun xs t.ways.down.held c) (sym (append-nil (up_came k parts))) (all.sends k).follows)
      (λ early. (((all.sends k).early early).0, append-nil (up_came k parts) ∙ ((all.sends k).early early).1)) (all.sends k).counts
      (λ ends. was_now (is_up_end k) parts p (ap (λ (b : Bool). b && true) (eq-eqb k k refl)))))

  up_now : (k : ℕ) (z : Entry) → UpMayCome l k a.link (a.link.tunnels k) z → UpNow k z
  up_now k (e.Dialled u to why) may =
      up_quiet k (e.Dialled u to why) refl (record { way = refl; went = refl; stage = λ early. absurd (false≢true early) })
  up_now k (e.DialFailed to why) may = up_quiet k (e.DialFailed to why) refl (ends_down cause.UpFault (a.link.tunnels k))
  up_now k (e.Opened u) may = up_quiet k (e.Opened u) refl (record { way = refl; went = refl; stage = λ early. absurd (false≢true early) })
  up_now k (e.Came u bytes) may = up_came_now k u bytes may.0.1
  up_now k (e.Ended u) may = up_ended_now k u
  up_now k (e.Went u bytes) may = up_quiet k (e.Went u bytes) refl (record { way = refl; went = refl; stage = λ early. early })
  up_now k (e.Broke u) may = up_quiet k (e.Broke u) refl (ends_down cause.UpFault (a.link.tunnels k))
  up_now k (e.Shut u) may = up_quiet k (e.Shut u) refl (record { way = refl; went = refl; stage = λ early. early })
  up_now k (e.Closed u why) may =
      up_quiet k (e.Closed u why) refl (record { way = refl; went = refl; stage = λ early. absurd (false≢true early) })
  up_now k (e.Balked w) may = up_quiet k (e.Balked w) refl (same_down (a.link.tunnels k))
  up_now k (e.Accepted j d) may = absurd may
  up_now k e.Tick may = absurd may
  up_now k (e.Wait ready how) may = absurd may

  -- WHAT IS TOLD

  module _ (ps : List history.Point) (headers : HeaderList) (d : Connection) (at : a.link.phase ≡ serving) where
    abbrev Looks : Found → Type 0
    Looks told = IsLook a.link.conn ps told d

    stay : (told : Found) → Looks told → Stays a.link.conn d
    stay told look = looks_follow Server (moves parts) (tellings parts) (conn_came parts) (link_went parts) a.link.conn stands d ps told
        look

    rests : (told : Found) → Looks told → LeavesBegun d
    rests told look Q h = found_leaves Q a.link.conn d told look.finds h

    goes_by : (told : Found) → ((code : ℕ) → told ≡ found.Fault code → ⊥) → Looks told → GoesBy a.link.phase d
    goes_by told never look = by (not_over a.link.conn d told (over_at at) look.finds)
      where
        by : (is_over d ≡ false) ⊎ ((code : ℕ) × (told ≡ found.Fault code)) → GoesBy a.link.phase d
        by (inl goes) = goes_with a.link.phase d goes
        by (inr why) = absurd (never why.0 why.1)

    one_told : (told : Found) (s : ℕ) (change : Tunnel → Tunnel) → ((code : ℕ) → told ≡ found.Fault code → ⊥) → Looks told
        → AlikeDown (a.link.tunnels s) (change (a.link.tunnels s))
        → AllSend (parts ++ looked ps told headers ∷ []) (at_stream s change (record a.link { conn = d }))
    one_told told s change never look alike =
        now (looked ps told headers) (at_stream s change (record a.link { conn = d })) refl (rests told look) (goes_by told never look)
        (one_quiet (looked ps told headers) s change d (λ k. refl) (stay told look) alike)

    opened_here : (s : ℕ) (end : Bool) → Looks (found.Opened s end)
        → Sends (parts ++ looked ps (found.Opened s end) headers ∷ []) all.begun d s (requested_with headers end)
    opened_here s end look =
        let told = found.Opened s end in
        let t = a.link.tunnels s in
        let number : IsNumbered told a.link.conn d =
        told_are_numbered (moves parts) (tellings parts) (conn_came parts) (link_went parts) a.link.conn d told stands look.finds in
        let none = (all.sends s).early (ap is_early ((relays s).new number.0).0) in
        sends_on parts (looked ps told headers) all.begun d s (requested_with headers end) [] refl
        (subst (λ (w : List ℕ). Follows s all.begun (up_came s parts ++ []) w d) none.0
        (subst (λ (xs : List ℕ). Follows s all.begun xs t.ways.down.held d) (sym (append-nil (up_came s parts)))
        (stay told look s all.begun (up_came s parts) t.ways.down.held (all.sends s).follows)))
        (λ early. (refl, append-nil (up_came s parts) ∙ none.1))
        (none_begun s all.begun (up_came s parts) t.ways.down.held a.link.conn none.1 (all.sends s).follows)
        (λ ends. absurd (false≢true ends))

    found_now : (told : Found) → Looks told → AllSend (parts ++ looked ps told headers ∷ []) (on_found told headers d a.link)
    found_now found.Silent look =
        all_quiet (looked ps found.Silent headers) (record a.link { conn = d }) (refl, λ s. refl) (rests found.Silent look)
        (stay found.Silent look) (goes_by found.Silent (λ code is. cc) look) (λ s. same_down (a.link.tunnels s))
    found_now (found.Opened s end) look =
        let told = found.Opened s end in
        now (looked ps told headers) (on_found told headers d a.link) refl (rests told look) (goes_by told (λ code is. cc) look)
        (one_sends (looked ps told headers) s (λ t. requested_with headers end) d (λ k apart. refl) (λ k apart. stay told look k all.begun)
        (opened_here s end look))
    found_now (found.Chunk s end) look =
        one_told (found.Chunk s end) s (came_up (chunk_of d (found.Chunk s end))) (λ code is. cc) look
        (record { way = refl; went = refl; stage = λ early. early })
    found_now (found.Ended s) look =
        one_told (found.Ended s) s peer_ended (λ code is. cc) look (record { way = refl; went = refl; stage = λ early. early })
    found_now (found.Reset s code) look =
        one_told (found.Reset s code) s (ends_for (cause.PeerReset code)) (λ code is. cc) look
        (ends_down (cause.PeerReset code) (a.link.tunnels s))
    found_now (found.Broken s code) look =
        one_told (found.Broken s code) s (ends_for (cause.StreamFault code)) (λ code is. cc) look
        (ends_down (cause.StreamFault code) (a.link.tunnels s))
    found_now (found.GoneAway last) look =
        all_quiet (looked ps (found.GoneAway last) headers) (record a.link { conn = d }) (refl, λ s. refl)
        (rests (found.GoneAway last) look)
        (stay (found.GoneAway last) look) (goes_by (found.GoneAway last) (λ code is. cc) look) (λ s. same_down (a.link.tunnels s))
    found_now (found.Fault code) look =
        all_quiet (looked ps (found.Fault code) headers) (on_found (found.Fault code) headers d a.link) (refl, λ s. refl)
        (rests (found.Fault code) look) (stay (found.Fault code) look) tt (λ s. ends_down (cause.ConnFault code) (a.link.tunnels s))

  -- ANSWERS

  decided_now : (s : ℕ) (full : Bool) (answer : Verdict) (headers : HeaderList) (end : Bool)
      → (a.link.tunnels s).stage ≡ requested headers end
      → AllSend (parts ++ decided s full answer ∷ []) (at_stream s (λ t. tunnel_for answer headers end) a.link)
  decided_now s full answer headers end is =
      let p = decided s full answer in
      now p (at_stream s (λ t. tunnel_for answer headers end) a.link) refl leaves_same all.goes
      (one_sends p s (λ t. tunnel_for answer headers end) a.link.conn (λ k apart. refl) (λ k apart xs w h. h) (here answer end))
    where
      made : (p : Part) (new : Tunnel) → up_came_in s p ≡ [] → new.ways.down ≡ empty_way → new.went_down ≡ 0
          → Sends (parts ++ p ∷ []) all.begun a.link.conn s new
      made p new none empty zero =
          let t = a.link.tunnels s in
          let early = (all.sends s).early (ap is_early is) in
          sends_on parts p all.begun a.link.conn s new [] none
          (subst (λ (w : List ℕ). Follows s all.begun (up_came s parts ++ []) w a.link.conn)
          (early.0 ∙ sym (ap (λ (w : Way). w.held) empty))
          (subst (λ (xs : List ℕ). Follows s all.begun xs t.ways.down.held a.link.conn) (sym (append-nil (up_came s parts)))
          (all.sends s).follows))
          (λ now. (ap (λ (w : Way). w.held) empty, append-nil (up_came s parts) ∙ early.1))
          (zero ∙ none_begun s all.begun (up_came s parts) t.ways.down.held a.link.conn early.1 (all.sends s).follows)
          (λ ends. absurd (false≢true (sym (ap (λ (w : Way). w.has_ended) empty) ∙ ends)))

      here : (answer : Verdict) (end : Bool)
          → Sends (parts ++ decided s full answer ∷ []) all.begun a.link.conn s (tunnel_for answer headers end)
      here (Status status) end = made (decided s full (Status status)) _ refl refl refl
      here Reset end = made (decided s full Reset) _ refl refl refl
      here (Dial target) true = made (decided s full (Dial target)) _ refl refl refl
      here (Dial target) false = made (decided s full (Dial target)) _ refl refl refl

  answers : (s status : ℕ) (end : Bool) → Stays a.link.conn (status_put a.link.conn s (record { number = status; end = end }))
  answers s status end =
      answers_follow Server (moves parts) (tellings parts) (conn_came parts) (link_went parts) a.link.conn stands s
      (record { number = status; end = end })

  refusal_stays : (s status : ℕ) (resets : Bool) → Stays a.link.conn (refused_on s status resets a.link.conn)
  refusal_stays s status false = answers s status true
  refusal_stays s status true = λ k begun xs w h.
      let c = status_put a.link.conn s (record { number = status; end = true }) in
      let m = history.answered s (record { number = status; end = true }) in
      let after = acts_add Server (moves parts) (tellings parts) (conn_came parts) (link_went parts) a.link.conn c m
      (tt, (refl, refl), refl) stands in
      resets_follow Server (moves parts ++ history.point m found.Silent ∷ []) (tellings parts) (conn_came parts) (link_went parts) c after s
      0
      k begun xs w (answers s status true k begun xs w h)

  refusal_rests : (s status : ℕ) (resets : Bool) → LeavesBegun (refused_on s status resets a.link.conn)
  refusal_rests s status false =
      leaves (history.answered s (record { number = status; end = true })) (refused_on s status false a.link.conn) (tt, (refl, refl), refl)
  refusal_rests s status true =
      let c = status_put a.link.conn s (record { number = status; end = true }) in
      λ Q h.
      act_leaves_begun Q c (aborted c s 0) (history.point (history.reset s 0) found.Silent) tt (refl, refl)
      (leaves (history.answered s (record { number = status; end = true })) c (tt, (refl, refl), refl) Q h)

  refusal_over : (s status : ℕ) (resets : Bool) → is_over (refused_on s status resets a.link.conn) ≡ is_over a.link.conn
  refusal_over s status false = status_over (core_of a.link.conn) s (record { number = status; end = true })
  refusal_over s status true =
      aborted_over (core_of (status_put a.link.conn s (record { number = status; end = true }))) s 0
      ∙ status_over (core_of a.link.conn) s (record { number = status; end = true })

  put_now : (s : ℕ) (bytes : List ℕ) → a.link.phase ≡ serving → (a.link.tunnels s).stage ≡ live → bytes ≡ (a.link.tunnels s).ways.down.held
      → 0 < count_put a.link.conn s bytes
      → AllSend (parts ++ put s bytes ∷ [])
      (with_tunnel s (put_down a.link.conn s (a.link.tunnels s)) (data_put a.link.conn s bytes) a.link)
  put_now s bytes at lives is some =
      let p = put s bytes in
      let t = a.link.tunnels s in
      let c = a.link.conn in
      let d = data_put c s bytes in
      let new = put_down c s t in
      let base : Follows s all.begun (up_came s parts) new.ways.down.held d =
      subst (λ (bs : List ℕ). Follows s all.begun (up_came s parts) new.ways.down.held (data_put c s bs)) (sym is)
      (puts_follow Server (moves parts) (tellings parts) (conn_came parts) (link_went parts) c stands s all.begun (up_came s parts)
      t.ways.down.held (subst (λ (bs : List ℕ). 0 < count_put c s bs) is some) (all.sends s).follows) in
      now p (with_tunnel s new d a.link) refl (leaves (history.put s bytes) d (tt, (refl, refl), refl))
      (goes_with a.link.phase d (put_over c s bytes ∙ over_at at))
      (one_sends p s (λ old. new) d (λ k apart. refl)
      (λ k apart. others_follow Server (moves parts) (tellings parts) (conn_came parts) (link_went parts) c stands k s bytes
      (λ same. false≢true (sym apart ∙ eq-eqb k s (sym same))) all.begun)
      (sends_on parts p all.begun d s new [] refl
      (subst (λ (xs : List ℕ). Follows s all.begun xs new.ways.down.held d) (sym (append-nil (up_came s parts))) base)
      (λ early. absurd (false≢true (sym (ap is_early lives) ∙ early))) (all.sends s).counts
      (λ ends. was_more (is_up_end s) parts p ((all.sends s).ended ends))))

  to : (p : Part) (b : Local) (y : Inbound) → b ≡ with_link y a → AllSend (parts ++ p ∷ []) y → AllSend (parts ++ p ∷ []) b.link
  to p b y is sends = subst (λ (c : Local). AllSend (parts ++ p ∷ []) c.link) (sym is) sends

  fresh_stays : (bytes : List ℕ) → a.link.conn ≡ fresh_server → Stays a.link.conn (taken fresh_server bytes)
  fresh_stays bytes same = subst (λ (c : Connection). Stays a.link.conn (taken c bytes)) same (came_stays bytes)

  fresh_leaves : (bytes : List ℕ) → a.link.conn ≡ fresh_server → LeavesBegun (taken fresh_server bytes)
  fresh_leaves bytes same = subst (λ (c : Connection). LeavesBegun (taken c bytes)) same (λ Q h. h)

  step_sends : (p : Part) (b : Local) → Steps l a p b → AllSend (parts ++ p ∷ []) b.link
  step_sends (entry z) b steps = to (entry z) b (entered z a.link) steps.1 (entry_now z steps.0)
  step_sends (up k z) b steps = to (up k z) b (at_stream k (up_entered z) a.link) steps.1 (up_now k z steps.0)
  step_sends welcomed b steps =
      to welcomed b _ steps.1
      (calm_quiet welcomed (with_phase fronting a.link) (refl, λ s. refl) refl tt (λ s. same_down (a.link.tunnels s)))
  step_sends crowded b steps =
      to crowded b _ steps.1
      (calm_quiet crowded (with_phase (closing cause.NoRoom) a.link) (refl, λ s. refl) refl tt (λ s. same_down (a.link.tunnels s)))
  step_sends lacked b steps =
      to lacked b _ steps.1
      (calm_quiet lacked (lacking a.link) (refl, λ s. refl) refl tt (λ s. ends_down cause.NoMemory (a.link.tunnels s)))
  step_sends (part.fronted seen) b steps =
      let front = subst (λ (ph : Phase). FrontBy ph parts a.link) steps.0 keeps.front in
      let bytes = drop seen.length a.link.front in
      to (part.fronted seen) b _ steps.4
      (all_quiet (part.fronted seen) (fronted_by seen steps.2 bytes a.link) (refl, λ s. refl)
      (fresh_leaves bytes front.0.conn) (fresh_stays bytes front.0.conn) refl
      (λ s. same_down (a.link.tunnels s)))
  step_sends (misfronted fault) b steps =
      to (misfronted fault) b _ steps.2
      (calm_quiet (misfronted fault) (with_phase (closing (cause.FrontFault (number_of fault))) a.link) (refl, λ s. refl) refl tt
      (λ s. same_down (a.link.tunnels s)))
  step_sends (looked ps told headers) b steps =
      to (looked ps told headers) b (on_found told headers steps.2 a.link) steps.5 (found_now ps headers steps.2 steps.0 told steps.3)
  step_sends (decided s full answer) b steps = to (decided s full answer) b _ steps.5 (decided_now s full answer steps.1 steps.2 steps.3)
  step_sends (accepted s made) b steps =
      let p = accepted s made in
      let d = status_put a.link.conn s (record { number = 200; end = false }) in
      to p b _ steps.3
      (now p (with_tunnel s (at_stage live (a.link.tunnels s)) d a.link) refl
      (leaves (history.answered s (record { number = 200; end = false })) d (tt, (refl, refl), refl))
      (goes_with a.link.phase d (status_over (core_of a.link.conn) s (record { number = 200; end = false }) ∙ over_at steps.0))
      (one_quiet p s (λ old. at_stage live (a.link.tunnels s)) d (λ k. refl) (answers s 200 false)
      (record { way = refl; went = refl; stage = λ early. absurd (false≢true early) })))
  step_sends (refused s status resets made) b steps =
      let p = refused s status resets made in
      let d = refused_on s status resets a.link.conn in
      to p b _ steps.4
      (now p (with_tunnel s steps.1 d a.link) refl (refusal_rests s status resets)
      (goes_with a.link.phase d (refusal_over s status resets ∙ over_at steps.0))
      (one_quiet p s (λ old. steps.1) d (λ k. refl) (refusal_stays s status resets)
      (left_down (a.link.tunnels s) steps.1 (refuses_left a.link l s status (a.link.tunnels s).stage made steps.1 steps.2))))
  step_sends (reset s code made) b steps =
      let p = reset s code made in
      let d = aborted a.link.conn s code in
      to p b _ steps.3
      (now p (with_tunnel s steps.1 d a.link) refl (leaves (history.reset s code) d (tt, (refl, refl), refl))
      (goes_with a.link.phase d (aborted_over (core_of a.link.conn) s code ∙ over_at steps.0))
      (one_quiet p s (λ old. steps.1) d (λ k. refl)
      (resets_follow Server (moves parts) (tellings parts) (conn_came parts) (link_went parts) a.link.conn stands s code)
      (left_down (a.link.tunnels s) steps.1 (resets_left a.link l s code (a.link.tunnels s).stage made steps.1 steps.2))))
  step_sends (left s made) b steps =
      let p = left s made in
      to p b _ steps.2
      (now p (with_tunnel s steps.0 a.link.conn a.link) refl leaves_same all.goes
      (one_quiet p s (λ old. steps.0) a.link.conn (λ k. refl) stays_same
      (left_down (a.link.tunnels s) steps.0 (leaves_left a.link l s 0 (a.link.tunnels s).stage made steps.0 steps.1))))
  step_sends (done s made) b steps =
      let p = done s made in
      to p b _ steps.3
      (now p (at_stream s (left_with cause.Done) a.link) refl leaves_same all.goes
      (one_quiet p s (left_with cause.Done) a.link.conn (λ k. refl) stays_same
      (left_down (a.link.tunnels s) (left_with cause.Done (a.link.tunnels s)) (inr (cause.Done, refl)))))
  step_sends (put s bytes) b steps = to (put s bytes) b _ steps.3 (put_now s bytes steps.0.0 steps.0.2 steps.1 steps.2)
  step_sends (finished s) b steps =
      let p = finished s in
      let d = end_put a.link.conn s in
      let new = record (a.link.tunnels s) { end_put = true } in
      to p b _ steps.2
      (now p (with_tunnel s new d a.link) refl (leaves (history.ended s) d (tt, (refl, refl), refl))
      (goes_with a.link.phase d (end_over (core_of a.link.conn) s ∙ over_at steps.0.0))
      (one_quiet p s (λ old. new) d (λ k. refl)
      (ends_follow Server (moves parts) (tellings parts) (conn_came parts) (link_went parts) a.link.conn stands s)
      (record { way = refl; went = refl; stage = λ early. early })))
  step_sends (credited s n) b steps =
      let p = credited s n in
      let d = observed.credited a.link.conn s n in
      let new = record (a.link.tunnels s) { owed = 0 } in
      let within : n ≤ creditable a.link.conn s = omega (arith, steps.2) in
      to p b _ steps.3
      (now p (with_tunnel s new d a.link) refl (leaves (history.credited s n) d (tt, (within, (refl, refl)), refl))
      (goes_with a.link.phase d (credited_over a.link.conn s n ∙ over_at steps.0.0))
      (one_quiet p s (λ old. new) d (λ k. refl)
      (uses_follow Server (moves parts) (tellings parts) (conn_came parts) (link_went parts) a.link.conn stands s n within)
      (record { way = refl; went = refl; stage = λ early. early })))
  step_sends (applied r) b steps =
      let h = after_response a.held r in
      subst (λ (c : Local). AllSend (parts ++ applied r ∷ []) c.link) (sym steps)
      (calm_quiet (applied r) (rejudged h a.link) (refl, λ s. refl) refl all.goes
      (λ s. judged_down (takes_place (a.link.tunnels s).stage) (judged h a.link.peer (a.link.tunnels s).target) (a.link.tunnels s)))
  step_sends (stopped why) b steps =
      to (stopped why) b _ steps
      (calm_quiet (stopped why) (stopped_for why a.link) (refl, λ s. refl) refl (stops_goes why a.link.phase a.link.conn)
      (λ s. ends_down why (a.link.tunnels s)))

-- so it is of every run
pub all_send : (l : ℕ) (start : Resources) (a : Local) (parts : List Part) → StandsFor l start a parts → AllSend parts a.link
all_send l start a parts (begins is none) =
    subst (λ (ps : List Part). AllSend ps a.link) (sym none)
    (subst (λ (c : Local). AllSend [] c.link) (sym is)
    (record {
      begun = [];
      shows = refl;
      ends = inl refl;
      goes = tt;
      sends = λ s. record {
        follows = record { rest = []; front = refl; goes = λ on. refl; unused = λ above. (refl, refl) };
        early = λ early. (refl, refl);
        counts = refl;
        ended = λ ends. absurd (false≢true ends);
      };
    }))
all_send l start b more (goes_on {a = a} {parts = parts} before p steps is) =
    subst (λ (ps : List Part). AllSend ps b.link) (sym is)
    (step_sends l start a parts (all_keep l start a parts before) (all_relay l start a parts before) (all_send l start a parts before) p b
    steps)
