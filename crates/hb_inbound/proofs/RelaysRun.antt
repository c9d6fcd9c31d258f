-- What comes on a stream goes up, or waits, in every run of a link.
use Rattle.std.proofs.Common.{◌≡◌, inr, ℕ, ◌+◌, ◌≤◌, ◌==◌, ◌&&◌, Bool, true, false, cond, List, [], ◌∷◌, ◌++◌, length, drop, refl, ap, sym, ◌∙◌, subst, arith}
use Rattle.std.specs.List.{flat_map}
use Rattle.std.proofs.lemmas.Bool.{false≢true, cond_both, eq-eqb}
use Rattle.std.proofs.lemmas.List.{append-nil}
use Rattle.std.proofs.Math.Seq.{drop-append_seam}
use Rattle.hb_base.specs.declared.cause.Cause.{Cause}
use Rattle.hb_base.specs.declared.cause.Cause.TheVariants as cause
use Rattle.hb_base.specs.declared.note.Note.{Note}
use Rattle.hb_conn.specs.Connection.{Connection, core_of, fresh_server}
use Rattle.hb_conn.specs.Observed as observed
use Rattle.hb_conn.specs.Observed.{chunk_of, creditable, status_put, end_put, data_put, aborted}
use Rattle.hb_conn.specs.declared.found.Found.{Found}
use Rattle.hb_conn.specs.declared.found.Found.TheVariants as found
use Rattle.hb_front.specs.Faults.{number_of}
use Rattle.hb_held.specs.Held.{Resources}
use Rattle.hb_held.specs.Outcome.{after_response}
use Rattle.hb_history.specs.Calls.{Makes, acts}
use Rattle.hb_history.specs.Points as history
use Rattle.hb_hpack.specs.declared.header.HeaderList.{HeaderList}
use Rattle.hb_kept.specs.Looks.{IsLook}
use Rattle.hb_kept.specs.Numbers.{highest_used, IsNumbered}
use Rattle.hb_kept.proofs.Opened.{told_are_numbered}
use Rattle.hb_kept.proofs.Rises.{points_raise, writes_leave}
use Rattle.hb_streams.specs.States.{States}
use Rattle.hb_table.specs.Judgement.{judged}
use Rattle.hb_table.specs.declared.judgement.Judged.{Judged}
use Rattle.hb_table.specs.declared.judgement.Judged.TheVariants.{Admitted, Unknown, Denied}
use Rattle.hb_verdict.specs.declared.verdict.Verdict.{Verdict}
use Rattle.hb_verdict.specs.declared.verdict.Verdict.TheVariants.{Status, Reset, Dial}
use Rattle.hb_world.specs.declared.entry.Entry.{Entry}
use Rattle.hb_world.specs.declared.entry.Entry.TheVariants as e
use Rattle.hb_inbound.specs.Inbound.{Inbound, Phase, unborn, arriving, fronting, serving, faulted, closing, closed, at_stream, came_by, ended_by, broken_by, on_found, judged_by, with_phase, lacking, fronted_by, rejudged, stopped_for}
use Rattle.hb_inbound.specs.Part.{Part, entry, up, welcomed, crowded, lacked, misfronted, looked, decided, accepted, refused, reset, left, done, put, finished, credited, applied, stopped, act, moves_in, moves, tellings}
use Rattle.hb_inbound.specs.Part as part
use Rattle.hb_inbound.specs.Runs.{Local, MayCome, UpMayCome, entered, Steps, StandsFor, begins, goes_on, with_link, tunnel_for, put_down, refused_on}
use Rattle.hb_inbound.specs.Sides.{data_by, stream_came, up_went_in, up_went, is_accept, is_peer_end, conn_came, link_went}
use Rattle.hb_inbound.specs.Sides as sides
use Rattle.hb_inbound.specs.Tunnel.{Tunnel, Stage, unasked, requested, refusing, malformed, due, opening, accepting, live, failed, ended, over, gone, is_live, is_unanswered, takes_place, at_stage, asked, ends_for, left_with, up_entered, came_up, peer_ended, requested_with}
use Rattle.hb_inbound.proofs.Admitted.{at_one, swapped}
use Rattle.hb_inbound.proofs.Left.{IsLeft, left_so, refuses_left, resets_left, leaves_left, refuses_asked, resets_asked, leaves_asked}
use Rattle.hb_inbound.proofs.Runs.{Keeps, FrontBy, all_keep}
use Rattle.hb_inbound.proofs.Relaying.{told_on, told_data, is_asked, comes_ended, Relays, none_in, was_more, was_now, grows, same_stage, later, ends_follow, Alike, quiet}

still : (n : ℕ) → n ≤ n
still n = omega arith

same_tunnel : (t : Tunnel) → Alike t t
same_tunnel t = record { way = refl; went = refl; stage = same_stage t.stage }

ends_alike : (why : Cause) (t : Tunnel) → Alike t (ends_for why t)
ends_alike why t = record { way = refl; went = refl; stage = ends_follow why t.stage }

gone_alike : (t : Tunnel) → (t.stage ≡ unasked → ⊥) → Alike t (at_stage gone t)
gone_alike t some = record { way = refl; went = refl; stage = later t.stage gone some refl refl refl }

left_alike : (old new : Tunnel) → (old.stage ≡ unasked → ⊥) → IsLeft old new → Alike old new
left_alike old new some is =
    left_so (Alike old) old new (gone_alike old some)
    (λ why. record { way = refl; went = refl; stage = later old.stage (over why) some refl refl refl }) is

-- an answered tunnel is no request
not_asked : (stage : Stage) → is_unanswered stage ≡ false → is_asked stage ≡ false
not_asked unasked calm = refl
not_asked (requested headers end) calm = absurd (false≢true (sym calm))
not_asked (refusing status target) calm = refl
not_asked malformed calm = refl
not_asked due calm = refl
not_asked opening calm = refl
not_asked accepting calm = refl
not_asked live calm = refl
not_asked (failed why) calm = refl
not_asked (ended why) calm = refl
not_asked (over why) calm = refl
not_asked gone calm = refl

-- with none more it is the same number
none_more : (n : ℕ) → n ≡ n + 0
none_more n = omega arith

module _ (l : ℕ) (start : Resources) (a : Local) (parts : List Part) (keeps : Keeps parts a.link)
    (relays : (s : ℕ) → Relays parts a.link.conn s (a.link.tunnels s)) where
  Now : Part → Inbound → Type 0
  Now p y = (s : ℕ) → Relays (parts ++ p ∷ []) y.conn s (y.tunnels s)

  abbrev Brings : Part → Type 0
  Brings p = ((s : ℕ) → flat_map (data_by s) (moves_in p) ≡ []) × ((s : ℕ) → up_went_in s p ≡ [])

  all_quiet : (p : Part) (y : Inbound) → Brings p → highest_used a.link.conn ≤ highest_used y.conn
      → ((s : ℕ) → Alike (a.link.tunnels s) (y.tunnels s)) → (s : ℕ) → Relays (parts ++ p ∷ []) y.conn s (y.tunnels s)
  all_quiet p y brings rises alike s =
      quiet parts p a.link.conn y.conn s (a.link.tunnels s) (y.tunnels s) (brings.0 s) (brings.1 s) rises (alike s) (relays s)

  -- with the same connection
  calm_quiet : (p : Part) (y : Inbound) → Brings p → y.conn ≡ a.link.conn
      → ((s : ℕ) → Alike (a.link.tunnels s) (y.tunnels s)) → (s : ℕ) → Relays (parts ++ p ∷ []) y.conn s (y.tunnels s)
  calm_quiet p y brings same alike =
      all_quiet p y brings (subst (λ (c : Connection). highest_used a.link.conn ≤ highest_used c) (sym same)
      (still (highest_used a.link.conn)))
      alike

  -- one tunnel changes
  one_changes : (p : Part) (s : ℕ) (change : Tunnel → Tunnel) (d : Connection) → Brings p
      → highest_used a.link.conn ≤ highest_used d → Relays (parts ++ p ∷ []) d s (change (a.link.tunnels s))
      → (k : ℕ) → Relays (parts ++ p ∷ []) d k ((at_stream s change a.link).tunnels k)
  one_changes p s change d brings rises here =
      at_one s change a.link (λ k t. Relays (parts ++ p ∷ []) d k t) here
      (λ k apart. quiet parts p a.link.conn d k (a.link.tunnels k) (a.link.tunnels k) (brings.0 k) (brings.1 k) rises
      (same_tunnel (a.link.tunnels k)) (relays k))

  one_quiet : (p : Part) (s : ℕ) (change : Tunnel → Tunnel) (d : Connection) → Brings p
      → highest_used a.link.conn ≤ highest_used d → Alike (a.link.tunnels s) (change (a.link.tunnels s))
      → (k : ℕ) → Relays (parts ++ p ∷ []) d k ((at_stream s change a.link).tunnels k)
  one_quiet p s change d brings rises alike =
      one_changes p s change d brings rises
      (quiet parts p a.link.conn d s (a.link.tunnels s) (change (a.link.tunnels s)) (brings.0 s) (brings.1 s) rises alike (relays s))

  raised : (m : history.Move) (d : Connection) → Makes a.link.conn (acts m) d → highest_used a.link.conn ≤ highest_used d
  raised m d makes = points_raise a.link.conn d (act m) (core_of d, makes.1, refl)

  -- ENTRIES OF THE LINK

  came_now : (k : ℕ) (bytes : List ℕ) (phase : Phase) → let y = came_by phase bytes a.link in
      (s : ℕ) → Relays (parts ++ entry (e.Came k bytes) ∷ []) y.conn s (y.tunnels s)
  came_now k bytes unborn = calm_quiet (entry (e.Came k bytes)) a.link (λ s. refl, λ s. refl) refl (λ s. same_tunnel (a.link.tunnels s))
  came_now k bytes arriving = calm_quiet (entry (e.Came k bytes)) a.link (λ s. refl, λ s. refl) refl (λ s. same_tunnel (a.link.tunnels s))
  came_now k bytes fronting =
      calm_quiet (entry (e.Came k bytes)) (came_by fronting bytes a.link) (λ s. refl, λ s. refl) refl (λ s. same_tunnel (a.link.tunnels s))
  came_now k bytes serving =
      all_quiet (entry (e.Came k bytes)) (came_by serving bytes a.link) (λ s. refl, λ s. refl) (still (highest_used a.link.conn))
      (λ s. same_tunnel (a.link.tunnels s))
  came_now k bytes (faulted code) = calm_quiet (entry (e.Came k bytes)) a.link (λ s. refl, λ s. refl) refl
      (λ s. same_tunnel (a.link.tunnels s))
  came_now k bytes (closing why) = calm_quiet (entry (e.Came k bytes)) a.link (λ s. refl, λ s. refl) refl
      (λ s. same_tunnel (a.link.tunnels s))
  came_now k bytes closed = calm_quiet (entry (e.Came k bytes)) a.link (λ s. refl, λ s. refl) refl (λ s. same_tunnel (a.link.tunnels s))

  ended_now : (p : Part) → Brings p → (phase : Phase) → let y = ended_by phase a.link in
      (s : ℕ) → Relays (parts ++ p ∷ []) y.conn s (y.tunnels s)
  ended_now p brings unborn = calm_quiet p a.link brings refl (λ s. same_tunnel (a.link.tunnels s))
  ended_now p brings arriving = calm_quiet p a.link brings refl (λ s. same_tunnel (a.link.tunnels s))
  ended_now p brings fronting = calm_quiet p (ended_by fronting a.link) brings refl (λ s. same_tunnel (a.link.tunnels s))
  ended_now p brings serving = calm_quiet p (ended_by serving a.link) brings refl (λ s. ends_alike cause.PeerGone (a.link.tunnels s))
  ended_now p brings (faulted code) = calm_quiet p a.link brings refl (λ s. same_tunnel (a.link.tunnels s))
  ended_now p brings (closing why) = calm_quiet p a.link brings refl (λ s. same_tunnel (a.link.tunnels s))
  ended_now p brings closed = calm_quiet p a.link brings refl (λ s. same_tunnel (a.link.tunnels s))

  broken_now : (p : Part) → Brings p → (phase : Phase) → let y = broken_by phase a.link in
      (s : ℕ) → Relays (parts ++ p ∷ []) y.conn s (y.tunnels s)
  broken_now p brings unborn = calm_quiet p a.link brings refl (λ s. same_tunnel (a.link.tunnels s))
  broken_now p brings arriving = calm_quiet p a.link brings refl (λ s. same_tunnel (a.link.tunnels s))
  broken_now p brings fronting = calm_quiet p (broken_by fronting a.link) brings refl (λ s. same_tunnel (a.link.tunnels s))
  broken_now p brings serving = calm_quiet p (broken_by serving a.link) brings refl (λ s. ends_alike cause.PeerGone (a.link.tunnels s))
  broken_now p brings (faulted code) = calm_quiet p (broken_by (faulted code) a.link) brings refl (λ s. same_tunnel (a.link.tunnels s))
  broken_now p brings (closing why) = calm_quiet p a.link brings refl (λ s. same_tunnel (a.link.tunnels s))
  broken_now p brings closed = calm_quiet p a.link brings refl (λ s. same_tunnel (a.link.tunnels s))

  entry_now : (z : Entry) → MayCome l a.link z → (s : ℕ)
      → Relays (parts ++ entry z ∷ []) (entered z a.link).conn s ((entered z a.link).tunnels s)
  entry_now (e.Accepted k d) may =
      calm_quiet (entry (e.Accepted k d)) (entered (e.Accepted k d) a.link) (λ s. refl, λ s. refl) refl
      (λ s. same_tunnel (a.link.tunnels s))
  entry_now (e.Came k bytes) may = came_now k bytes a.link.phase
  entry_now (e.Ended k) may = ended_now (entry (e.Ended k)) (λ s. refl, λ s. refl) a.link.phase
  entry_now (e.Went k bytes) may =
      all_quiet (entry (e.Went k bytes)) (entered (e.Went k bytes) a.link) (λ s. refl, λ s. refl)
      (subst (λ (t : States). highest_used a.link.conn ≤ t.highest) (sym (writes_leave a.link.conn (length bytes)))
      (still (highest_used a.link.conn)))
      (λ s. record { way = refl; went = refl; stage = same_stage (a.link.tunnels s).stage })
  entry_now (e.Broke k) may = broken_now (entry (e.Broke k)) (λ s. refl, λ s. refl) a.link.phase
  entry_now (e.Closed k why) may =
      calm_quiet (entry (e.Closed k why)) (entered (e.Closed k why) a.link) (λ s. refl, λ s. refl) refl
      (λ s. same_tunnel (a.link.tunnels s))
  entry_now (e.Balked w) may =
      calm_quiet (entry (e.Balked w)) a.link (λ s. refl, λ s. refl) refl (λ s. same_tunnel (a.link.tunnels s))
  entry_now (e.Dialled k to why) may = absurd may
  entry_now (e.DialFailed to why) may = absurd may
  entry_now (e.Opened k) may = absurd may
  entry_now (e.Shut k) may = absurd may
  entry_now e.Tick may = absurd may
  entry_now (e.Wait ready how) may = absurd may

  -- ENTRIES OF UPSTREAMS

  abbrev UpNow : ℕ → Entry → Type 0
  UpNow k z = (s : ℕ) → Relays (parts ++ up k z ∷ []) a.link.conn s ((at_stream k (up_entered z) a.link).tunnels s)

  up_quiet : (k : ℕ) (z : Entry) → sides.went_by z ≡ [] → Alike (a.link.tunnels k) (up_entered z (a.link.tunnels k)) → UpNow k z
  up_quiet k z none alike =
      one_quiet (up k z) k (up_entered z) a.link.conn
      (λ s. refl, λ s. cond_both (k == s) (sides.went_by z) [] (λ (x : List ℕ). x ≡ []) (λ is. none) (λ is. refl))
      (still (highest_used a.link.conn)) alike

  up_went_now : (k u : ℕ) (bytes rest : List ℕ) → (a.link.tunnels k).stage ≡ live → (a.link.tunnels k).ways.up.held ≡ bytes ++ rest
      → UpNow k (e.Went u bytes)
  up_went_now k u bytes rest lives is =
      let t = a.link.tunnels k in
      let p = up k (e.Went u bytes) in
      let new = up_entered (e.Went u bytes) t in
      at_one k (up_entered (e.Went u bytes)) a.link (λ s t. Relays (parts ++ p ∷ []) a.link.conn s t)
      (grows parts p a.link.conn a.link.conn k t new [] bytes refl (ap (λ (b : Bool). cond b bytes []) (eq-eqb k k refl))
      (append-nil t.ways.up.held ∙ is
      ∙ ap (λ (xs : List ℕ). bytes ++ xs) (sym (ap (drop (length bytes)) is ∙ drop-append_seam bytes rest)))
      (still (highest_used a.link.conn)) (λ above. (((relays k).new above).0, refl))
      (λ asks. absurd (false≢true (sym (ap is_asked lives) ∙ asks)))
      (ap (λ (n : ℕ). n + length bytes) (relays k).counts)
      (λ now. was_more (is_accept k) parts p ((relays k).lives now))
      (λ now. was_more (is_peer_end k) parts p ((relays k).ends now))
      (λ now. was_more (is_peer_end k) parts p ((relays k).asked now)) (relays k))
      (λ s apart. quiet parts p a.link.conn a.link.conn s (a.link.tunnels s) (a.link.tunnels s) refl
      (ap (λ (b : Bool). cond b bytes []) (swapped s k apart)) (still (highest_used a.link.conn)) (same_tunnel (a.link.tunnels s))
      (relays s))

  up_now : (k : ℕ) (z : Entry) → UpMayCome l k a.link (a.link.tunnels k) z → UpNow k z
  up_now k (e.Dialled u to why) may =
      up_quiet k (e.Dialled u to why) refl
      (record {
        way = refl;
        went = refl;
        stage = later (a.link.tunnels k).stage opening (λ none. (let both = sym none ∙ may.1 in cc))
            refl refl refl;
      })
  up_now k (e.DialFailed to why) may = up_quiet k (e.DialFailed to why) refl (ends_alike cause.UpFault (a.link.tunnels k))
  up_now k (e.Opened u) may =
      up_quiet k (e.Opened u) refl
      (record {
        way = refl;
        went = refl;
        stage = later (a.link.tunnels k).stage accepting (λ none. (let both = sym none ∙ may.1 in cc))
            refl refl refl;
      })
  up_now k (e.Came u bytes) may = up_quiet k (e.Came u bytes) refl
      (record { way = refl; went = refl; stage = same_stage (a.link.tunnels k).stage })
  up_now k (e.Ended u) may = up_quiet k (e.Ended u) refl (record { way = refl; went = refl; stage = same_stage (a.link.tunnels k).stage })
  up_now k (e.Went u bytes) may = up_went_now k u bytes may.2.0 may.0.1 may.2.1
  up_now k (e.Broke u) may = up_quiet k (e.Broke u) refl (ends_alike cause.UpFault (a.link.tunnels k))
  up_now k (e.Shut u) may = up_quiet k (e.Shut u) refl (record { way = refl; went = refl; stage = same_stage (a.link.tunnels k).stage })
  up_now k (e.Closed u why) may =
      up_quiet k (e.Closed u why) refl (gone_alike (a.link.tunnels k) (λ none. (let both = sym none ∙ may.1 in cc)))
  up_now k (e.Balked w) may = up_quiet k (e.Balked w) refl (same_tunnel (a.link.tunnels k))
  up_now k (e.Accepted j d) may = absurd may
  up_now k e.Tick may = absurd may
  up_now k (e.Wait ready how) may = absurd may

  -- WHAT IS TOLD

  module _ (ps : List history.Point) (headers : HeaderList) (d : Connection)
      (calm : (s : ℕ) → is_unanswered (a.link.tunnels s).stage ≡ false)
    where
      abbrev Looks : Found → Type 0
      Looks told = IsLook a.link.conn ps told d

      rises : (told : Found) → Looks told → highest_used a.link.conn ≤ highest_used d
      rises told look = points_raise a.link.conn d ps look.runs

      comes : (told : Found) → Looks told → (k : ℕ) → flat_map (data_by k) ps ≡ told_on k told (chunk_of d told)
      comes told look k = told_data k a.link.conn d ps told look.looks look.tells look.hands_out

      numbered : (told : Found) → Looks told → IsNumbered told a.link.conn d
      numbered told look =
          told_are_numbered (moves parts) (tellings parts) (conn_came parts) (link_went parts) a.link.conn d told keeps.one.stands
          look.finds

      asks_not : {A : Type 0} (s : ℕ) → is_asked (a.link.tunnels s).stage ≡ true → A
      asks_not s asks = absurd (false≢true (sym (not_asked (a.link.tunnels s).stage (calm s)) ∙ asks))

      opened_here : (s : ℕ) (end : Bool) → Looks (found.Opened s end)
          → Relays (parts ++ looked ps (found.Opened s end) headers ∷ []) d s (requested_with headers end)
      opened_here s end look =
          let told = found.Opened s end in
          let p = looked ps told headers in
          let t = a.link.tunnels s in
          let number = numbered told look in
          let none = none_in (up_went s parts) t.ways.up.held (sym ((relays s).new number.0).1 ∙ (relays s).front) in
          grows parts p a.link.conn d s t (requested_with headers end) [] [] (comes told look s) refl
          (append-nil t.ways.up.held ∙ none.0) (rises told look)
          (λ above. absurd (let same = number.1 in omega (arith, same, above)))
          (λ asks. (refl, append-nil (up_went s parts) ∙ none.1)) (sym (ap length none.1) ∙ none_more (length (up_went s parts)))
          (λ now. absurd (false≢true now)) (λ now. absurd (false≢true now))
          (λ now. was_now (is_peer_end s) parts p (ap (λ (b : Bool). b && end) (eq-eqb s s refl) ∙ now)) (relays s)

      chunk_here : (s : ℕ) (end : Bool) → Looks (found.Chunk s end)
          → Relays (parts ++ looked ps (found.Chunk s end) headers ∷ []) d s (came_up (chunk_of d (found.Chunk s end)) (a.link.tunnels s))
      chunk_here s end look =
          let told = found.Chunk s end in
          let p = looked ps told headers in
          let t = a.link.tunnels s in
          let bytes = chunk_of d told in
          let number = numbered told look in
          grows parts p a.link.conn d s t (came_up bytes t) bytes []
          (comes told look s ∙ ap (λ (b : Bool). cond b bytes []) (eq-eqb s s refl)) refl refl (rises told look)
          (λ above. absurd (let low = number in omega (arith, low, above)))
          (λ asks. asks_not s asks) ((relays s).counts ∙ none_more (length (up_went s parts)))
          (λ now. was_more (is_accept s) parts p ((relays s).lives now))
          (λ now. was_more (is_peer_end s) parts p ((relays s).ends now))
          (λ now. was_more (is_peer_end s) parts p ((relays s).asked now)) (relays s)

      ended_here : (s : ℕ) → Looks (found.Ended s)
          → Relays (parts ++ looked ps (found.Ended s) headers ∷ []) d s (peer_ended (a.link.tunnels s))
      ended_here s look =
          let told = found.Ended s in
          let p = looked ps told headers in
          let t = a.link.tunnels s in
          let up = rises told look in
          grows parts p a.link.conn d s t (peer_ended t) [] [] (comes told look s) refl (append-nil t.ways.up.held) up
          (λ above. (((relays s).new (omega (arith, up, above))).0, refl))
          (λ asks. asks_not s asks) ((relays s).counts ∙ none_more (length (up_went s parts)))
          (λ now. was_more (is_accept s) parts p ((relays s).lives now))
          (λ now. was_now (is_peer_end s) parts p (eq-eqb s s refl))
          (λ now. was_more (is_peer_end s) parts p ((relays s).asked now)) (relays s)

      found_now : (told : Found) → Looks told → let y = on_found told headers d a.link in
          (s : ℕ) → Relays (parts ++ looked ps told headers ∷ []) y.conn s (y.tunnels s)
      found_now found.Silent look =
          all_quiet (looked ps found.Silent headers) (record a.link { conn = d }) (comes found.Silent look, λ s. refl)
          (rises found.Silent look)
          (λ s. same_tunnel (a.link.tunnels s))
      found_now (found.Opened s end) look =
          one_changes (looked ps (found.Opened s end) headers) s (λ t. requested_with headers end) d
          (comes (found.Opened s end) look, λ k. refl)
          (rises (found.Opened s end) look) (opened_here s end look)
      found_now (found.Chunk s end) look =
          let told = found.Chunk s end in
          let bytes = chunk_of d told in
          at_one s (came_up bytes) a.link (λ k t. Relays (parts ++ looked ps told headers ∷ []) d k t) (chunk_here s end look)
          (λ k apart. quiet parts (looked ps told headers) a.link.conn d k (a.link.tunnels k) (a.link.tunnels k)
          (comes told look k ∙ ap (λ (b : Bool). cond b bytes []) (swapped k s apart)) refl (rises told look)
          (same_tunnel (a.link.tunnels k)) (relays k))
      found_now (found.Ended s) look =
          one_changes (looked ps (found.Ended s) headers) s peer_ended d (comes (found.Ended s) look, λ k. refl)
          (rises (found.Ended s) look)
          (ended_here s look)
      found_now (found.Reset s code) look =
          one_quiet (looked ps (found.Reset s code) headers) s (ends_for (cause.PeerReset code)) d
          (comes (found.Reset s code) look, λ k. refl)
          (rises (found.Reset s code) look) (ends_alike (cause.PeerReset code) (a.link.tunnels s))
      found_now (found.Broken s code) look =
          one_quiet (looked ps (found.Broken s code) headers) s (ends_for (cause.StreamFault code)) d
          (comes (found.Broken s code) look, λ k. refl) (rises (found.Broken s code) look)
          (ends_alike (cause.StreamFault code) (a.link.tunnels s))
      found_now (found.GoneAway last) look =
          all_quiet (looked ps (found.GoneAway last) headers) (record a.link { conn = d }) (comes (found.GoneAway last) look, λ s. refl)
          (rises (found.GoneAway last) look) (λ s. same_tunnel (a.link.tunnels s))
      found_now (found.Fault code) look =
          all_quiet (looked ps (found.Fault code) headers) (on_found (found.Fault code) headers d a.link)
          (comes (found.Fault code) look, λ s. refl) (rises (found.Fault code) look)
          (λ s. ends_alike (cause.ConnFault code) (a.link.tunnels s))

  -- ANSWERS

  decided_now : (s : ℕ) (full : Bool) (answer : Verdict) (headers : HeaderList) (end : Bool)
      → (a.link.tunnels s).stage ≡ requested headers end
      → (k : ℕ) → Relays (parts ++ decided s full answer ∷ []) a.link.conn k
      ((at_stream s (λ t. tunnel_for answer headers end) a.link).tunnels k)
  decided_now s full answer headers end is =
      one_changes (decided s full answer) s (λ t. tunnel_for answer headers end) a.link.conn (λ k. refl, λ k. refl)
      (still (highest_used a.link.conn)) (here answer end is)
    where
      made : (p : Part) (end : Bool) (new : Tunnel) → (a.link.tunnels s).stage ≡ requested headers end → flat_map (data_by s) (moves_in p)
          ≡ []
          → up_went_in s p ≡ [] → new.ways.up.held ≡ [] → new.went_up ≡ 0 → is_live new.stage ≡ false → comes_ended new.stage ≡ false
          → (new.ways.up.has_ended ≡ true → end ≡ true) → Relays (parts ++ p ∷ []) a.link.conn s new
      made p end new is came went none zero lives asked ends =
          let t = a.link.tunnels s in
          let early = (relays s).early (ap is_asked is) in
          grows parts p a.link.conn a.link.conn s t new [] [] came went
          (append-nil t.ways.up.held ∙ early.0 ∙ sym none) (still (highest_used a.link.conn))
          (λ above. absurd (let both = sym ((relays s).new above).0 ∙ is in cc))
          (λ asks. (none, append-nil (up_went s parts) ∙ early.1))
          (zero ∙ sym (ap length early.1) ∙ none_more (length (up_went s parts))) (λ now. absurd (false≢true (sym lives ∙ now)))
          (λ now. was_more (is_peer_end s) parts p ((relays s).asked (ap comes_ended is ∙ ends now)))
          (λ now. absurd (false≢true (sym asked ∙ now))) (relays s)

      here : (answer : Verdict) (end : Bool) → (a.link.tunnels s).stage ≡ requested headers end
          → Relays (parts ++ decided s full answer ∷ []) a.link.conn s (tunnel_for answer headers end)
      here (Status status) end is =
          made (decided s full (Status status)) end _ is refl refl refl refl refl refl (λ now. absurd (false≢true now))
      here Reset end is = made (decided s full Reset) end _ is refl refl refl refl refl refl (λ now. absurd (false≢true now))
      here (Dial target) true is = made (decided s full (Dial target)) true _ is refl refl refl refl refl refl (λ now. refl)
      here (Dial target) false is =
          made (decided s full (Dial target)) false _ is refl refl refl refl refl refl (λ now. absurd (false≢true now))

  accepted_now : (s : ℕ) (made : Note) → (a.link.tunnels s).stage ≡ accepting
      → let d = status_put a.link.conn s (record { number = 200; end = false }) in
      (k : ℕ) → Relays (parts ++ accepted s made ∷ []) d k ((at_stream s (λ t. at_stage live (a.link.tunnels s)) a.link).tunnels k)
  accepted_now s made is =
      let p = accepted s made in
      let t = a.link.tunnels s in
      let d = status_put a.link.conn s (record { number = 200; end = false }) in
      let up = raised (history.answered s (record { number = 200; end = false })) d (tt, (refl, refl), refl) in
      one_changes p s (λ t. at_stage live (a.link.tunnels s)) d (λ k. refl, λ k. refl) up
      (grows parts p a.link.conn d s t (at_stage live t) [] [] refl refl (append-nil t.ways.up.held) up
      (λ above. absurd (let both = sym ((relays s).new (omega (arith, up, above))).0 ∙ is in cc))
      (λ asks. absurd (false≢true asks)) ((relays s).counts ∙ none_more (length (up_went s parts)))
      (λ now. was_now (is_accept s) parts p (eq-eqb s s refl))
      (λ now. was_more (is_peer_end s) parts p ((relays s).ends now)) (λ now. absurd (false≢true now)) (relays s))

  refusal_raises : (s status : ℕ) (resets : Bool) → highest_used a.link.conn ≤ highest_used (refused_on s status resets a.link.conn)
  refusal_raises s status false =
      raised (history.answered s (record { number = status; end = true }))
      (status_put a.link.conn s (record { number = status; end = true })) (tt, (refl, refl), refl)
  refusal_raises s status true =
      let c = status_put a.link.conn s (record { number = status; end = true }) in
      let d = aborted c s 0 in
      let first = raised (history.answered s (record { number = status; end = true })) c (tt, (refl, refl), refl) in
      let second = points_raise c d (act (history.reset s 0)) (core_of d, (refl, refl), refl) in
      omega (arith, first, second)

  refusal_brings : (s status : ℕ) (resets : Bool) (made : Note) (k : ℕ) → flat_map (data_by k) (moves_in (refused s status resets made))
      ≡ []
  refusal_brings s status true made k = refl
  refusal_brings s status false made k = refl

  judged_alike : (b : Bool) (j : Judged) (t : Tunnel) → Alike t (cond b (judged_by j t) t)
  judged_alike false j t = same_tunnel t
  judged_alike true Admitted t = same_tunnel t
  judged_alike true Unknown t = ends_alike cause.Revoked t
  judged_alike true Denied t = ends_alike cause.Revoked t

  to : (p : Part) (b : Local) (y : Inbound) → b ≡ with_link y a → ((s : ℕ) → Relays (parts ++ p ∷ []) y.conn s (y.tunnels s))
      → (s : ℕ) → Relays (parts ++ p ∷ []) b.link.conn s (b.link.tunnels s)
  to p b y is now = subst (λ (c : Local). (s : ℕ) → Relays (parts ++ p ∷ []) c.link.conn s (c.link.tunnels s)) (sym is) now

  step_relays : (p : Part) (b : Local) → Steps l a p b → (s : ℕ) → Relays (parts ++ p ∷ []) b.link.conn s (b.link.tunnels s)
  step_relays (entry z) b steps = to (entry z) b (entered z a.link) steps.1 (entry_now z steps.0)
  step_relays (up k z) b steps = to (up k z) b (at_stream k (up_entered z) a.link) steps.1 (up_now k z steps.0)
  step_relays welcomed b steps =
      to welcomed b _ steps.1
      (calm_quiet welcomed (with_phase fronting a.link) (λ s. refl, λ s. refl) refl (λ s. same_tunnel (a.link.tunnels s)))
  step_relays crowded b steps =
      to crowded b _ steps.1
      (calm_quiet crowded (with_phase (closing cause.NoRoom) a.link) (λ s. refl, λ s. refl) refl (λ s. same_tunnel (a.link.tunnels s)))
  step_relays lacked b steps =
      to lacked b _ steps.1
      (calm_quiet lacked (lacking a.link) (λ s. refl, λ s. refl) refl (λ s. ends_alike cause.NoMemory (a.link.tunnels s)))
  step_relays (part.fronted seen) b steps =
      let front = subst (λ (ph : Phase). FrontBy ph parts a.link) steps.0 keeps.front in
      to (part.fronted seen) b _ steps.4
      (all_quiet (part.fronted seen) (fronted_by seen steps.2 (drop seen.length a.link.front) a.link) (λ s. refl, λ s. refl)
      (subst (λ (c : Connection). highest_used c ≤ highest_used fresh_server) (sym front.0.conn) (still (highest_used fresh_server)))
      (λ s. same_tunnel (a.link.tunnels s)))
  step_relays (misfronted fault) b steps =
      to (misfronted fault) b _ steps.2
      (calm_quiet (misfronted fault) (with_phase (closing (cause.FrontFault (number_of fault))) a.link) (λ s. refl, λ s. refl) refl
      (λ s. same_tunnel (a.link.tunnels s)))
  step_relays (looked ps told headers) b steps =
      to (looked ps told headers) b (on_found told headers steps.2 a.link) steps.5 (found_now ps headers steps.2 steps.1 told steps.3)
  step_relays (decided s full answer) b steps = to (decided s full answer) b _ steps.5 (decided_now s full answer steps.1 steps.2 steps.3)
  step_relays (accepted s made) b steps = to (accepted s made) b _ steps.3 (accepted_now s made steps.1)
  step_relays (refused s status resets made) b steps =
      to (refused s status resets made) b _ steps.4
      (one_quiet (refused s status resets made) s (λ t. steps.1) (refused_on s status resets a.link.conn)
      (refusal_brings s status resets made, λ k. refl) (refusal_raises s status resets)
      (left_alike (a.link.tunnels s) steps.1 (refuses_asked a.link l s status (a.link.tunnels s).stage made steps.1 steps.2)
      (refuses_left a.link l s status (a.link.tunnels s).stage made steps.1 steps.2)))
  step_relays (reset s code made) b steps =
      to (reset s code made) b _ steps.3
      (one_quiet (reset s code made) s (λ t. steps.1) (aborted a.link.conn s code) (λ k. refl, λ k. refl)
      (raised (history.reset s code) (aborted a.link.conn s code) (tt, (refl, refl), refl))
      (left_alike (a.link.tunnels s) steps.1 (resets_asked a.link l s code (a.link.tunnels s).stage made steps.1 steps.2)
      (resets_left a.link l s code (a.link.tunnels s).stage made steps.1 steps.2)))
  step_relays (left s made) b steps =
      to (left s made) b _ steps.2
      (one_quiet (left s made) s (λ t. steps.0) a.link.conn (λ k. refl, λ k. refl) (still (highest_used a.link.conn))
      (left_alike (a.link.tunnels s) steps.0 (leaves_asked a.link l s 0 (a.link.tunnels s).stage made steps.0 steps.1)
      (leaves_left a.link l s 0 (a.link.tunnels s).stage made steps.0 steps.1)))
  step_relays (done s made) b steps =
      to (done s made) b _ steps.3
      (one_quiet (done s made) s (left_with cause.Done) a.link.conn (λ k. refl, λ k. refl) (still (highest_used a.link.conn))
      (left_alike (a.link.tunnels s) (left_with cause.Done (a.link.tunnels s)) (λ none. (let both = sym none ∙ steps.0.2 in cc))
      (inr (cause.Done, refl))))
  step_relays (put s bytes) b steps =
      let d = data_put a.link.conn s bytes in
      to (put s bytes) b _ steps.3
      (one_quiet (put s bytes) s (λ t. put_down a.link.conn s (a.link.tunnels s)) d (λ k. refl, λ k. refl)
      (raised (history.put s bytes) d (tt, (refl, refl), refl))
      (record { way = refl; went = refl; stage = same_stage (a.link.tunnels s).stage }))
  step_relays (finished s) b steps =
      let d = end_put a.link.conn s in
      to (finished s) b _ steps.2
      (one_quiet (finished s) s (λ t. record (a.link.tunnels s) { end_put = true }) d (λ k. refl, λ k. refl)
      (raised (history.ended s) d (tt, (refl, refl), refl))
      (record { way = refl; went = refl; stage = same_stage (a.link.tunnels s).stage }))
  step_relays (credited s n) b steps =
      let d = observed.credited a.link.conn s n in
      let within : n ≤ creditable a.link.conn s = omega (arith, steps.2) in
      to (credited s n) b _ steps.3
      (one_quiet (credited s n) s (λ t. record (a.link.tunnels s) { owed = 0 }) d (λ k. refl, λ k. refl)
      (raised (history.credited s n) d (tt, (within, (refl, refl)), refl))
      (record { way = refl; went = refl; stage = same_stage (a.link.tunnels s).stage }))
  step_relays (applied r) b steps =
      let h = after_response a.held r in
      subst (λ (c : Local). (s : ℕ) → Relays (parts ++ applied r ∷ []) c.link.conn s (c.link.tunnels s)) (sym steps)
      (calm_quiet (applied r) (rejudged h a.link) (λ s. refl, λ s. refl) refl
      (λ s. judged_alike (takes_place (a.link.tunnels s).stage) (judged h a.link.peer (a.link.tunnels s).target) (a.link.tunnels s)))
  step_relays (stopped why) b steps =
      to (stopped why) b _ steps
      (calm_quiet (stopped why) (stopped_for why a.link) (λ s. refl, λ s. refl) refl (λ s. ends_alike why (a.link.tunnels s)))

-- so it is of every run
pub all_relay : (l : ℕ) (start : Resources) (a : Local) (parts : List Part) → StandsFor l start a parts
    → (s : ℕ) → Relays parts a.link.conn s (a.link.tunnels s)
all_relay l start a parts (begins is none) =
    subst (λ (ps : List Part). (s : ℕ) → Relays ps a.link.conn s (a.link.tunnels s)) (sym none)
    (subst (λ (c : Local). (s : ℕ) → Relays [] c.link.conn s (c.link.tunnels s)) (sym is)
    (λ s. record {
      front = refl;
      new = λ above. (refl, refl);
      early = λ asks. (refl, refl);
      counts = refl;
      lives = λ now. absurd (false≢true now);
      ends = λ now. absurd (false≢true now);
      asked = λ now. absurd (false≢true now);
    }))
all_relay l start b more (goes_on {a = a} {parts = parts} before p steps is) =
    subst (λ (ps : List Part). (s : ℕ) → Relays ps b.link.conn s (b.link.tunnels s)) (sym is)
    (step_relays l start a parts (all_keep l start a parts before) (all_relay l start a parts before) p b steps)
