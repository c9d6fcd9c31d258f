-- Who is admitted, part by part.
use Rattle.std.proofs.Common.{◌≡◌, inl, inr, ℕ, ◌==◌, Bool, true, false, cond, length, List, [], ◌∷◌, ◌++◌, Option, Some, None, refl, ap, sym, ◌∙◌, subst}
use Rattle.std.proofs.lemmas.Bool.{false≢true, eq-eqb, ne_eqb}
use Rattle.hb_base.specs.declared.cause.Cause.TheVariants as cause
use Rattle.hb_base.specs.declared.identity.Identity.{Identity}
use Rattle.hb_base.specs.declared.ip.Ip.{Ip}
use Rattle.hb_base.specs.declared.peer.Peer.{Peer}
use Rattle.hb_base.specs.declared.target.Target.{Target}
use Rattle.hb_conn.specs.Connection.{Connection}
use Rattle.hb_conn.specs.Observed.{chunk_of}
use Rattle.hb_conn.specs.declared.found.Found.{Found}
use Rattle.hb_conn.specs.declared.found.Found.TheVariants as found
use Rattle.hb_front.specs.Faults.{number_of}
use Rattle.hb_held.specs.Held.{Resources}
use Rattle.hb_held.specs.Lookup.{ip_eq}
use Rattle.hb_held.specs.Outcome.{after_response}
use Rattle.hb_history.specs.Points as history
use Rattle.hb_hpack.specs.declared.header.HeaderList.{HeaderList}
use Rattle.hb_table.specs.Judgement.{judged}
use Rattle.hb_table.specs.declared.judgement.Judged.{Judged}
use Rattle.hb_table.specs.declared.judgement.Judged.TheVariants.{Admitted, Unknown, Denied}
use Rattle.hb_verdict.specs.Request.{request_of}
use Rattle.hb_verdict.specs.declared.verdict.Verdict.{Verdict}
use Rattle.hb_verdict.specs.declared.verdict.Verdict.TheVariants.{Status, Reset, Dial}
use Rattle.hb_verdict.proofs.Asked.{asked_for}
use Rattle.hb_verdict.proofs.Dialled.{only_where_it_may}
use Rattle.hb_world.specs.declared.entry.Entry.{Entry}
use Rattle.hb_world.specs.declared.entry.Entry.TheVariants as e
use Rattle.hb_world.specs.declared.entry.Way.TheVariants as way
use Rattle.hb_inbound.specs.Inbound.{Inbound, Phase, unborn, arriving, fronting, serving, faulted, closing, closed, with_phase, at_stream, came_by, came, went_by, went, ended_by, broken_by, told_of, on_found, judged_by, rejudged, lacking, stops_by, stopped_for, ends_with}
use Rattle.hb_inbound.specs.Part.{Part, entry, up, welcomed, crowded, lacked, misfronted, looked, decided, accepted, refused, reset, left, done, put, finished, credited, applied, stopped}
use Rattle.hb_inbound.specs.Part as part
use Rattle.hb_inbound.specs.Runs.{Local, MayCome, UpMayCome, entered, Steps, StandsFor, begins, goes_on, with_link, with_tunnel, Identifies, IsAnswerTo, tunnel_for, put_down}
use Rattle.hb_inbound.specs.Sides.{held_by, peer_of, peer_by, target_of, target_by, dialled_to, identity_told}
use Rattle.hb_inbound.specs.Tunnel.{Tunnel, Stage, unasked, due, opening, live, over, takes_place, at_stage, asked, ends_by, ends_for, left_with, up_entered, came_up, peer_ended, requested_with}
use Rattle.hb_inbound.proofs.Grown.{fold_one}
use Rattle.hb_inbound.proofs.Left.{left_placeless, refuses_left, resets_left, leaves_left, refuses_asked, resets_asked, leaves_asked}
use Rattle.hb_inbound.proofs.Admitted.{told_by_front, Tells, KnowsBy, Admits, Leaves_all, none_in, placeless, held_stays, peer_stays, target_stays, tells_on, knows_on, moves_on, same_on, ends_on, at_one, one_on}

-- a tunnel without a place is told of no one
none_told : (h : Resources) (front : Peer × Ip) (parts : List Part) (s : ℕ) (t : Tunnel) → takes_place t.stage ≡ false
    → Tells h front parts s t
none_told h front parts s t none place = placeless (takes_place t.stage) none place

module _ (start : Resources) (a : Local) (parts : List Part) (admits : Admits start parts a) where
  same_tunnels : (p : Part) (y : Inbound) → Leaves_all p → told_by_front y ≡ told_by_front a.link → y.tunnels ≡ a.link.tunnels
      → KnowsBy y.phase (parts ++ p ∷ []) y → Admits start (parts ++ p ∷ []) (with_link y a)
  same_tunnels p y leaves front tunnels knows =
      moves_on start parts p a y leaves front knows
      (λ s. ap (λ (f : ℕ → Tunnel). (f s).target) tunnels)
      (λ s is. sym (ap (λ (f : ℕ → Tunnel). takes_place (f s).stage) tunnels) ∙ is) admits

  entry_leaves : (z : Entry) → Leaves_all (entry z)
  entry_leaves z = record { held = λ h. refl; peer = λ w. refl; targets = λ s t. refl }

  up_leaves : (k : ℕ) (z : Entry) → Leaves_all (up k z)
  up_leaves k z = record { held = λ h. refl; peer = λ w. refl; targets = λ s t. refl }

  came_same : (phase : Phase) (bytes : List ℕ) → let y = came_by phase bytes a.link in
      (told_by_front y ≡ told_by_front a.link) × (y.phase ≡ a.link.phase) × (y.tunnels ≡ a.link.tunnels)
  came_same unborn bytes = (refl, refl, refl)
  came_same arriving bytes = (refl, refl, refl)
  came_same fronting bytes = (refl, refl, refl)
  came_same serving bytes = (refl, refl, refl)
  came_same (faulted code) bytes = (refl, refl, refl)
  came_same (closing why) bytes = (refl, refl, refl)
  came_same closed bytes = (refl, refl, refl)

  -- an end of the link's bytes, or a break
  at_end : (z : Entry) (phase : Phase) → a.link.phase ≡ phase
      → Admits start (parts ++ entry z ∷ []) (with_link (ended_by phase a.link) a)
  at_end z unborn is = same_on start parts (entry z) a a.link (entry_leaves z) refl refl refl admits
  at_end z arriving is = same_on start parts (entry z) a a.link (entry_leaves z) refl refl refl admits
  at_end z fronting is = same_tunnels (entry z) (ended_by fronting a.link) (entry_leaves z) refl refl tt
  at_end z serving is = ends_on start parts (entry z) a _ cause.PeerGone (entry_leaves z) tt admits
  at_end z (faulted code) is = same_on start parts (entry z) a a.link (entry_leaves z) refl refl refl admits
  at_end z (closing why) is = same_on start parts (entry z) a a.link (entry_leaves z) refl refl refl admits
  at_end z closed is = same_on start parts (entry z) a a.link (entry_leaves z) refl refl refl admits

  at_break : (z : Entry) (phase : Phase) → a.link.phase ≡ phase
      → Admits start (parts ++ entry z ∷ []) (with_link (broken_by phase a.link) a)
  at_break z unborn is = same_on start parts (entry z) a a.link (entry_leaves z) refl refl refl admits
  at_break z arriving is = same_on start parts (entry z) a a.link (entry_leaves z) refl refl refl admits
  at_break z fronting is = same_tunnels (entry z) (broken_by fronting a.link) (entry_leaves z) refl refl tt
  at_break z serving is = ends_on start parts (entry z) a (closing cause.Broken) cause.PeerGone (entry_leaves z) tt admits
  at_break z (faulted code) is = same_tunnels (entry z) (broken_by (faulted code) a.link) (entry_leaves z) refl refl tt
  at_break z (closing why) is = same_on start parts (entry z) a a.link (entry_leaves z) refl refl refl admits
  at_break z closed is = same_on start parts (entry z) a a.link (entry_leaves z) refl refl refl admits

  at_went : (k : ℕ) (bytes : List ℕ) (phase : Phase) → KnowsBy phase parts a.link
      → KnowsBy (went_by phase) (parts ++ entry (e.Went k bytes) ∷ []) (went (length bytes) a.link)
  at_went k bytes unborn knows = knows
  at_went k bytes arriving knows = knows
  at_went k bytes fronting knows = knows
  at_went k bytes serving knows = peer_stays start parts (entry (e.Went k bytes)) (λ w. refl) ∙ knows
  at_went k bytes (faulted code) knows = tt
  at_went k bytes (closing why) knows = tt
  at_went k bytes closed knows = tt

  entry_admits : (l : ℕ) (z : Entry) → MayCome l a.link z → Admits start (parts ++ entry z ∷ []) (with_link (entered z a.link) a)
  entry_admits l (e.Accepted k d) may =
      same_tunnels (entry (e.Accepted k d)) (with_phase arriving a.link) (entry_leaves (e.Accepted k d)) refl refl
      (subst (λ (ph : Phase). KnowsBy ph parts a.link) may.1 admits.knows)
  entry_admits l (e.Came k bytes) may =
      let same = came_same a.link.phase bytes in
      same_on start parts (entry (e.Came k bytes)) a (came bytes a.link) (entry_leaves (e.Came k bytes)) same.0 same.1 same.2 admits
  entry_admits l (e.Ended k) may = at_end (e.Ended k) a.link.phase refl
  entry_admits l (e.Went k bytes) may =
      moves_on start parts (entry (e.Went k bytes)) a (went (length bytes) a.link) (entry_leaves (e.Went k bytes)) refl
      (at_went k bytes a.link.phase admits.knows) (λ s. refl) (λ s is. is) admits
  entry_admits l (e.Broke k) may = at_break (e.Broke k) a.link.phase refl
  entry_admits l (e.Closed k why) may =
      same_tunnels (entry (e.Closed k why)) (with_phase closed a.link) (entry_leaves (e.Closed k why)) refl refl tt
  entry_admits l (e.Balked w) may =
      same_on start parts (entry (e.Balked w)) a a.link (entry_leaves (e.Balked w)) refl refl refl admits
  entry_admits l (e.Dialled k to why) may = absurd may
  entry_admits l (e.DialFailed to why) may = absurd may
  entry_admits l (e.Opened k) may = absurd may
  entry_admits l (e.Shut k) may = absurd may
  entry_admits l e.Tick may = absurd may
  entry_admits l (e.Wait ready how) may = absurd may

  -- an entry of the upstream of a tunnel that isn't unasked
  up_one : (s : ℕ) (z : Entry) (stage : Stage) → (a.link.tunnels s).stage ≡ stage
      → (unasked ≡ stage → ⊥)
      → (up_entered z (a.link.tunnels s)).target ≡ (a.link.tunnels s).target
      → (takes_place (up_entered z (a.link.tunnels s)).stage ≡ true → takes_place stage ≡ true)
      → Admits start (parts ++ up s z ∷ []) (with_link (at_stream s (up_entered z) a.link) a)
  up_one s z stage is asked target place =
      one_on start parts (up s z) a (at_stream s (up_entered z) a.link) s (up_entered z) (up_leaves s z) refl refl refl
      (λ none. absurd (asked (sym none ∙ is))) target
      (λ some. ap takes_place is ∙ place some) admits

  up_admits : (l s : ℕ) (z : Entry) → UpMayCome l s a.link (a.link.tunnels s) z
      → Admits start (parts ++ up s z ∷ []) (with_link (at_stream s (up_entered z) a.link) a)
  up_admits l s (e.Dialled u to why) may = up_one s (e.Dialled u to why) due may.1 (λ is. cc) refl (λ some. refl)
  up_admits l s (e.DialFailed to why) may = up_one s (e.DialFailed to why) due may.1 (λ is. cc) refl (λ some. refl)
  up_admits l s (e.Opened u) may = up_one s (e.Opened u) opening may.1 (λ is. cc) refl (λ some. refl)
  up_admits l s (e.Came u bytes) may = up_one s (e.Came u bytes) live may.0.1 (λ is. cc) refl (λ some. refl)
  up_admits l s (e.Ended u) may = up_one s (e.Ended u) live may.0.1 (λ is. cc) refl (λ some. refl)
  up_admits l s (e.Went u bytes) may = up_one s (e.Went u bytes) live may.0.1 (λ is. cc) refl (λ some. refl)
  up_admits l s (e.Broke u) (inl may) = up_one s (e.Broke u) opening may.1 (λ is. cc) refl (λ some. refl)
  up_admits l s (e.Broke u) (inr may) = up_one s (e.Broke u) live may.1 (λ is. cc) refl (λ some. refl)
  up_admits l s (e.Shut u) may = up_one s (e.Shut u) live may.1 (λ is. cc) refl (λ some. refl)
  up_admits l s (e.Closed u why) may = up_one s (e.Closed u why) (over why) may.1 (λ is. cc) refl (λ some. absurd (false≢true some))
  up_admits l s (e.Balked (way.Finish u)) may = up_one s (e.Balked (way.Finish u)) opening may.1 (λ is. cc) refl (λ some. refl)
  up_admits l s (e.Balked (way.Read u)) may = up_one s (e.Balked (way.Read u)) live may.0.1 (λ is. cc) refl (λ some. refl)
  up_admits l s (e.Balked (way.Write u)) may = up_one s (e.Balked (way.Write u)) live may.0.1 (λ is. cc) refl (λ some. refl)
  up_admits l s (e.Balked (way.Listen d at listening)) may = absurd may
  up_admits l s (e.Balked (way.Accept d)) may = absurd may
  up_admits l s (e.Balked (way.Look k)) may = absurd may
  up_admits l s (e.Accepted k d) may = absurd may
  up_admits l s e.Tick may = absurd may
  up_admits l s (e.Wait ready how) may = absurd may

  -- what is told of frames
  told_leaves : (ps : List history.Point) (told : Found) (headers : HeaderList) → Leaves_all (looked ps told headers)
  told_leaves ps told headers = record { held = λ h. refl; peer = λ w. refl; targets = λ s t. refl }

  found_admits : (ps : List history.Point) (told : Found) (headers : HeaderList) (bytes : List ℕ) (c : Connection) → a.link.phase ≡ serving
      → Admits start (parts ++ looked ps told headers ∷ []) (with_link (told_of told headers bytes (record a.link { conn = c })) a)
  found_admits ps found.Silent headers bytes c is =
      same_on start parts (looked ps found.Silent headers) a (record a.link { conn = c }) (told_leaves ps found.Silent headers) refl refl
      refl admits
  found_admits ps (found.Opened s end) headers bytes c is =
      let p = looked ps (found.Opened s end) headers in
      let y = told_of (found.Opened s end) headers bytes (record a.link { conn = c }) in
      let knows = subst (λ (ph : Phase). KnowsBy ph parts a.link) is admits.knows in
      record {
        holds = held_stays start parts p a.held (λ h. refl) admits.holds;
        knows = subst (λ (ph : Phase). KnowsBy ph (parts ++ p ∷ []) y) (sym is) (peer_stays start parts p (λ w. refl) ∙ knows);
        each = at_one s (λ t. requested_with headers end) (record a.link { conn = c })
            (λ k t. Tells a.held (told_by_front a.link) (parts ++ p ∷ []) k t)
            (none_told a.held (told_by_front a.link) (parts ++ p ∷ []) s (requested_with headers end) refl)
            (λ k apart. tells_on start parts p a.held (told_by_front a.link) k (a.link.tunnels k) (a.link.tunnels k)
            (λ w. refl) (λ t. refl) refl
            (λ some. some) (admits.each k));
      }
  found_admits ps (found.Chunk s end) headers bytes c is =
      one_on start parts (looked ps (found.Chunk s end) headers) a (told_of (found.Chunk s end) headers bytes (record a.link { conn = c }))
      s
      (came_up bytes) (told_leaves ps (found.Chunk s end) headers) refl refl refl (λ none. none) refl (λ some. some) admits
  found_admits ps (found.Ended s) headers bytes c is =
      one_on start parts (looked ps (found.Ended s) headers) a (told_of (found.Ended s) headers bytes (record a.link { conn = c })) s
      peer_ended (told_leaves ps (found.Ended s) headers) refl refl refl (λ none. none) refl (λ some. some) admits
  found_admits ps (found.Reset s code) headers bytes c is =
      one_on start parts (looked ps (found.Reset s code) headers) a
      (told_of (found.Reset s code) headers bytes (record a.link { conn = c })) s
      (ends_for (cause.PeerReset code)) (told_leaves ps (found.Reset s code) headers) refl refl refl
      (λ none. ap (ends_by (cause.PeerReset code)) none) refl
      (λ some. placeless (takes_place (ends_by (cause.PeerReset code) (a.link.tunnels s).stage))
      (none_in (cause.PeerReset code) (a.link.tunnels s).stage) some) admits
  found_admits ps (found.Broken s code) headers bytes c is =
      one_on start parts (looked ps (found.Broken s code) headers) a
      (told_of (found.Broken s code) headers bytes (record a.link { conn = c })) s
      (ends_for (cause.StreamFault code)) (told_leaves ps (found.Broken s code) headers) refl refl refl
      (λ none. ap (ends_by (cause.StreamFault code)) none) refl
      (λ some. placeless (takes_place (ends_by (cause.StreamFault code) (a.link.tunnels s).stage))
      (none_in (cause.StreamFault code) (a.link.tunnels s).stage) some) admits
  found_admits ps (found.GoneAway last) headers bytes c is =
      same_on start parts (looked ps (found.GoneAway last) headers) a (record a.link { conn = c })
      (told_leaves ps (found.GoneAway last) headers) refl refl refl admits
  found_admits ps (found.Fault code) headers bytes c is =
      moves_on start parts (looked ps (found.Fault code) headers) a (told_of (found.Fault code) headers bytes (record a.link { conn = c }))
      (told_leaves ps (found.Fault code) headers) refl tt (λ s. refl)
      (λ s some. placeless (takes_place (ends_by (cause.ConnFault code) (a.link.tunnels s).stage))
      (none_in (cause.ConnFault code) (a.link.tunnels s).stage) some) admits

  -- the answer to a request: a dial only where the peer is admitted
  answered_dial : (headers : HeaderList) (full : Bool) (target : Target) → IsAnswerTo a headers full (Dial target)
      → judged a.held a.link.peer target ≡ Admitted
  answered_dial headers full target (inl is) =
      (only_where_it_may (request_of headers a.link.destination) a.held a.link.peer full target (sym is)).admitted
  answered_dial headers full target (inr other) = absurd (let no : Dial target ≡ Status 500 = other.2 in cc)

  -- at the address that it meant
  answered_here : (headers : HeaderList) (full : Bool) (target : Target) → IsAnswerTo a headers full (Dial target)
      → ip_eq target.ip a.link.destination ≡ true
  answered_here headers full target (inl is) =
      (asked_for headers a.link.destination target
      (only_where_it_may (request_of headers a.link.destination) a.held a.link.peer full target (sym is)).asked).here
  answered_here headers full target (inr other) = absurd (let no : Dial target ≡ Status 500 = other.2 in cc)

  peer_known : a.link.phase ≡ serving → peer_of parts ≡ Some a.link.peer
  peer_known is = subst (λ (ph : Phase). KnowsBy ph parts a.link) is admits.knows

  asked_target : (target : Target) (end : Bool) → (asked target end).target ≡ target
  asked_target target true = refl
  asked_target target false = refl

  decided_here : (s : ℕ) (full : Bool) (answer : Verdict) (headers : HeaderList) (end : Bool) → a.link.phase ≡ serving
      → IsAnswerTo a headers full answer
      → Tells a.held (told_by_front a.link) (parts ++ decided s full answer ∷ []) s (tunnel_for answer headers end)
  decided_here s full (Status status) headers end is answers = λ some. absurd (false≢true some)
  decided_here s full Reset headers end is answers = λ some. absurd (false≢true some)
  decided_here s full (Dial target) headers end is answers = λ some.
      let p = decided s full (Dial target) in
      record {
        peer_is = peer_stays start parts p (λ w. refl) ∙ peer_known is;
        target_is = fold_one (target_by s) None parts p
            ∙ ap (λ (b : Bool). cond b (Some target) (target_of s parts)) (eq-eqb s s refl) ∙ ap Some (sym (asked_target target end));
        admitted = ap (judged a.held a.link.peer) (asked_target target end) ∙ answered_dial headers full target answers;
        here = ap (λ (to : Target). ip_eq to.ip a.link.destination) (asked_target target end) ∙ answered_here headers full target answers;
      }

  decided_admits : (s : ℕ) (full : Bool) (answer : Verdict) (headers : HeaderList) (end : Bool) → a.link.phase ≡ serving
      → IsAnswerTo a headers full answer
      → Admits start (parts ++ decided s full answer ∷ []) (with_link (at_stream s (λ t. tunnel_for answer headers end) a.link) a)
  decided_admits s full answer headers end is answers =
      let p = decided s full answer in
      let y = at_stream s (λ t. tunnel_for answer headers end) a.link in
      record {
        holds = held_stays start parts p a.held (λ h. refl) admits.holds;
        knows = subst (λ (ph : Phase). KnowsBy ph (parts ++ p ∷ []) y) (sym is) (peer_stays start parts p (λ w. refl) ∙ peer_known is);
        each = at_one s (λ t. tunnel_for answer headers end) a.link (λ k t. Tells a.held (told_by_front a.link) (parts ++ p ∷ []) k t)
            (decided_here s full answer headers end is answers)
            (λ k apart. tells_on start parts p a.held (told_by_front a.link) k (a.link.tunnels k) (a.link.tunnels k) (λ w. refl)
            (λ t. ap (λ (b : Bool). cond b (dialled_to t answer) t) (swapped k s apart)) refl (λ some. some) (admits.each k));
      }
    where
      swapped : (k s : ℕ) → (k == s) ≡ false → (s == k) ≡ false
      swapped k s apart = ne_eqb s k (λ is. false≢true (sym apart ∙ eq-eqb k s (sym is)))

  -- the tunnel of one stream is this now, on a link that serves, or that nothing was asked of
  pub now_admits : (p : Part) (s : ℕ) (next : Tunnel) (c : Connection) → Leaves_all p
      → ((a.link.tunnels s).stage ≡ unasked → ⊥) → next.target ≡ (a.link.tunnels s).target
      → (takes_place next.stage ≡ true → takes_place (a.link.tunnels s).stage ≡ true)
      → Admits start (parts ++ p ∷ []) (with_link (with_tunnel s next c a.link) a)
  now_admits p s next c leaves asked target place =
      one_on start parts p a (with_tunnel s next c a.link) s (λ t. next) leaves refl refl refl (λ none. absurd (asked none)) target place
      admits

  no_place : (stage : Stage) → (b : Bool) → b ≡ false → b ≡ true → takes_place stage ≡ true
  no_place stage b none some = absurd (false≢true (sym none ∙ some))

  -- an update
  judged_one : (h : Resources) (front : Peer × Ip) (parts_now : List Part) (s : ℕ) (t : Tunnel) (b : Bool) (j : Judged)
      → takes_place t.stage ≡ b → judged h front.0 t.target ≡ j
      → (b ≡ true → (peer_of parts_now ≡ Some front.0) × (target_of s parts_now ≡ Some t.target) × (ip_eq t.target.ip front.1 ≡ true))
      → Tells h front parts_now s (cond b (judged_by j t) t)
  judged_one h front parts_now s t false j place is known = λ some. absurd (false≢true (sym place ∙ some))
  judged_one h front parts_now s t true Admitted place is known = λ some.
      record { peer_is = (known refl).0; target_is = (known refl).1; admitted = is; here = (known refl).2 }
  judged_one h front parts_now s t true Unknown place is known = λ some. placeless (takes_place (ends_by cause.Revoked t.stage))
      (none_in cause.Revoked t.stage) some
  judged_one h front parts_now s t true Denied place is known = λ some. placeless (takes_place (ends_by cause.Revoked t.stage))
      (none_in cause.Revoked t.stage) some

  unasked_stays : (h : Resources) (t : Tunnel) → t.stage ≡ unasked
      → (cond (takes_place t.stage) (judged_by (judged h a.link.peer t.target) t) t).stage ≡ unasked
  unasked_stays h t is =
      ap (λ (b : Bool). (cond b (judged_by (judged h a.link.peer t.target) t) t).stage) (ap takes_place is) ∙ is

  to : (p : Part) (b : Local) (y : Inbound) → b ≡ with_link y a → Admits start (parts ++ p ∷ []) (with_link y a)
      → Admits start (parts ++ p ∷ []) b
  to p b y is now = subst (Admits start (parts ++ p ∷ [])) (sym is) now

  live_now : (p : Part) (s : ℕ) (next : Tunnel) (c : Connection) → Leaves_all p → (a.link.tunnels s).stage ≡ live
      → next.target ≡ (a.link.tunnels s).target → Admits start (parts ++ p ∷ []) (with_link (with_tunnel s next c a.link) a)
  live_now p s next c leaves is target =
      now_admits p s next c leaves (λ none. (let both = sym none ∙ is in cc)) target (λ some. ap takes_place is)

  step_admits : (l : ℕ) (p : Part) (b : Local) → Steps l a p b → Admits start (parts ++ p ∷ []) b
  step_admits l (entry z) b steps = to _ b (entered z a.link) steps.1 (entry_admits l z steps.0)
  step_admits l (up s z) b steps = to _ b (at_stream s (up_entered z) a.link) steps.1 (up_admits l s z steps.0)
  step_admits l welcomed b steps =
      to _ b (with_phase fronting a.link) steps.1
      (same_tunnels welcomed (with_phase fronting a.link) (record { held = λ h. refl; peer = λ w. refl; targets = λ s t. refl }) refl refl
      (subst (λ (ph : Phase). KnowsBy ph parts a.link) steps.0 admits.knows))
  step_admits l crowded b steps =
      to _ b (with_phase (closing cause.NoRoom) a.link) steps.1
      (same_tunnels crowded (with_phase (closing cause.NoRoom) a.link)
      (record { held = λ h. refl; peer = λ w. refl; targets = λ s t. refl })
      refl refl tt)
  step_admits l lacked b steps =
      to _ b (lacking a.link) steps.1
      (ends_on start parts lacked a (closing cause.NoMemory) cause.NoMemory
      (record { held = λ h. refl; peer = λ w. refl; targets = λ s t. refl }) tt admits)
  step_admits l (part.fronted seen) b steps =
      let p = part.fronted seen in
      let early = subst (λ (ph : Phase). KnowsBy ph parts a.link) steps.0 admits.knows in
      subst (Admits start (parts ++ p ∷ [])) (sym steps.4)
      (record {
        holds = held_stays start parts p a.held (λ h. refl) admits.holds;
        knows = fold_one peer_by None parts p
            ∙ ap (λ (i : Option Identity). Some (record { ip = seen.source.ip; identity = i })) (told seen.identity steps.2 steps.3);
        each = λ s. placeless (takes_place (a.link.tunnels s).stage) (ap takes_place (early s));
      })
    where
      told : (text : Option (List ℕ)) (identity : Option Identity) → Identifies text identity → identity_told text ≡ identity
      told None identity is = sym is
      told (Some text) identity is = sym is
  step_admits l (misfronted fault) b steps =
      to _ b (with_phase (closing (cause.FrontFault (number_of fault))) a.link) steps.2
      (same_tunnels (misfronted fault) (with_phase (closing (cause.FrontFault (number_of fault))) a.link)
      (record { held = λ h. refl; peer = λ w. refl; targets = λ s t. refl }) refl refl tt)
  step_admits l (looked ps told headers) b steps =
      to _ b (on_found told headers steps.2 a.link) steps.5
      (found_admits ps told headers (chunk_of steps.2 told) steps.2 steps.0)
  step_admits l (decided s full answer) b steps =
      to _ b (at_stream s (λ t. tunnel_for answer steps.1 steps.2) a.link) steps.5
      (decided_admits s full answer steps.1 steps.2 steps.0 steps.4)
  step_admits l (accepted s made) b steps =
      to _ b _ steps.3
      (now_admits (accepted s made) s (at_stage live (a.link.tunnels s)) _
      (record { held = λ h. refl; peer = λ w. refl; targets = λ k t. refl })
      (λ none. (let both = sym none ∙ steps.1 in cc)) refl (λ some. ap takes_place steps.1))
  step_admits l (refused s status resets made) b steps =
      let next =
      left_placeless (a.link.tunnels s) steps.1 (refuses_left a.link l s status (a.link.tunnels s).stage made steps.1 steps.2) in
      to _ b _ steps.4
      (now_admits (refused s status resets made) s steps.1 _
      (record { held = λ h. refl; peer = λ w. refl; targets = λ k t. refl })
      (refuses_asked a.link l s status (a.link.tunnels s).stage made steps.1 steps.2) next.1
      (no_place (a.link.tunnels s).stage (takes_place (steps.1).stage) next.0))
  step_admits l (reset s code made) b steps =
      let next =
      left_placeless (a.link.tunnels s) steps.1 (resets_left a.link l s code (a.link.tunnels s).stage made steps.1 steps.2) in
      to _ b _ steps.3
      (now_admits (reset s code made) s steps.1 _
      (record { held = λ h. refl; peer = λ w. refl; targets = λ k t. refl })
      (resets_asked a.link l s code (a.link.tunnels s).stage made steps.1 steps.2) next.1
      (no_place (a.link.tunnels s).stage (takes_place (steps.1).stage) next.0))
  step_admits l (left s made) b steps =
      let next =
      left_placeless (a.link.tunnels s) steps.0 (leaves_left a.link l s 0 (a.link.tunnels s).stage made steps.0 steps.1) in
      to _ b _ steps.2
      (now_admits (left s made) s steps.0 _
      (record { held = λ h. refl; peer = λ w. refl; targets = λ k t. refl })
      (leaves_asked a.link l s 0 (a.link.tunnels s).stage made steps.0 steps.1) next.1
      (no_place (a.link.tunnels s).stage (takes_place (steps.0).stage) next.0))
  step_admits l (done s made) b steps =
      to _ b _ steps.3
      (one_on start parts (done s made) a (at_stream s (left_with cause.Done) a.link) s (left_with cause.Done)
      (record { held = λ h. refl; peer = λ w. refl; targets = λ k t. refl }) refl refl refl
      (λ none. (let both = sym none ∙ steps.0.2 in cc)) refl
      (no_place (a.link.tunnels s).stage (takes_place (left_with cause.Done (a.link.tunnels s)).stage)
      (left_placeless (a.link.tunnels s) (left_with cause.Done (a.link.tunnels s)) (inr (cause.Done, refl))).0)
      admits)
  step_admits l (put s bytes) b steps =
      to _ b _ steps.3
      (live_now (put s bytes) s (put_down a.link.conn s (a.link.tunnels s)) _
      (record { held = λ h. refl; peer = λ w. refl; targets = λ k t. refl }) steps.0.2 refl)
  step_admits l (finished s) b steps =
      to _ b _ steps.2
      (live_now (finished s) s (record (a.link.tunnels s) { end_put = true }) _
      (record { held = λ h. refl; peer = λ w. refl; targets = λ k t. refl }) steps.0.2 refl)
  step_admits l (credited s n) b steps =
      to _ b _ steps.3
      (live_now (credited s n) s (record (a.link.tunnels s) { owed = 0 }) _
      (record { held = λ h. refl; peer = λ w. refl; targets = λ k t. refl }) steps.0.2 refl)
  step_admits l (applied r) b steps =
      let p = applied r in
      let h = after_response a.held r in
      let y = rejudged h a.link in
      subst (Admits start (parts ++ p ∷ [])) (sym steps)
      (record {
        holds = fold_one held_by start parts p ∙ ap (λ (g : Resources). after_response g r) admits.holds;
        knows = knows_on start parts a.link.phase p a.link y (λ w. refl) refl (λ s is. unasked_stays h (a.link.tunnels s) is) admits.knows;
        each = λ s.
            let t = a.link.tunnels s in
            judged_one h (told_by_front a.link) (parts ++ p ∷ []) s t (takes_place t.stage) (judged h a.link.peer t.target) refl refl
            (λ some. (
              peer_stays start parts p (λ w. refl) ∙ (admits.each s some).peer_is,
              target_stays start parts s p (λ k. refl) ∙ (admits.each s some).target_is,
              (admits.each s some).here,
            ));
      })
  step_admits l (stopped why) b steps =
      to _ b (stopped_for why a.link) steps
      (ends_on start parts (stopped why) a (stops_by why a.link.phase) why
      (record { held = λ h. refl; peer = λ w. refl; targets = λ s t. refl }) (by a.link.phase admits.knows) admits)
    where
      by : (phase : Phase) → KnowsBy phase parts a.link
          → KnowsBy (stops_by why phase) (parts ++ stopped why ∷ []) (ends_with (stops_by why a.link.phase) why a.link)
      by unborn knows = λ s. ap (ends_by why) (knows s)
      by arriving knows = tt
      by fronting knows = tt
      by serving knows = tt
      by (faulted code) knows = tt
      by (closing cause) knows = tt
      by closed knows = tt

-- so it is of every run
pub all_admit : (l : ℕ) (start : Resources) (a : Local) (parts : List Part) → StandsFor l start a parts → Admits start parts a
all_admit l start a parts (begins is none) =
    subst (λ (ps : List Part). Admits start ps a) (sym none)
    (subst (Admits start []) (sym is)
    (record { holds = refl; knows = λ s. refl; each = λ s some. absurd (false≢true some) }))
all_admit l start b more (goes_on {a = a} {parts = parts} before p steps grows) =
    subst (λ (ps : List Part). Admits start ps b) (sym grows) (step_admits start a parts (all_admit l start a parts before) l p b steps)
