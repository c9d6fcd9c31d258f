-- The requests of every run.
use Rattle.std.proofs.Common.{◌≡◌, ◌⊎◌, inl, inr, ℕ, ◌≤◌, ◌<◌, ◌==◌, Bool, true, false, if◌then◌else◌, List, [], ◌∷◌, ◌++◌, length, take, drop, Option, Some, refl, ap, ap₂, sym, ◌∙◌, subst, arith, length-append}
use Rattle.std.specs.List.{flat_map}
use Rattle.std.proofs.lemmas.List.{append_assoc, append-nil}
use Rattle.std.proofs.lemmas.Grind.{flat_map-append}
use Rattle.std.proofs.Math.Seq.{take-append_seam}
use Rattle.hb_base.specs.declared.cause.Cause.{Cause}
use Rattle.hb_base.specs.declared.cause.Cause.TheVariants as cause
use Rattle.hb_base.specs.declared.door.Why.{Why}
use Rattle.hb_base.specs.declared.door.Why.TheVariants as whys
use Rattle.hb_base.specs.declared.target.Target.{Target}
use Rattle.hb_frames.specs.RawFrame.{RawFrame}
use Rattle.hb_grpc.specs.Message.{spelling}
use Rattle.hb_held.specs.Held.{nothing_held}
use Rattle.hb_streams.specs.declared.role.Role.TheVariants.{Client}
use Rattle.hb_outgoing.specs.Waiting.{Waiting}
use Rattle.hb_outgoing.specs.Laws.{Shows}
use Rattle.hb_outgoing.proofs.Sent.{write_begins}
use Rattle.hb_conn.specs.Preface.{octets}
use Rattle.hb_conn.specs.Connection.{Connection, Finds, core_of, fresh_client, taken}
use Rattle.hb_conn.specs.Observed as connection
use Rattle.hb_conn.specs.Observed.{outgoing, output, streams, sides, own_side_open, is_over}
use Rattle.hb_conn.specs.Observed.{frames_begun, creditable, credited, count_put, data_put}
use Rattle.hb_conn.specs.declared.found.Found.{Found}
use Rattle.hb_conn.specs.declared.found.Found.TheVariants as found
use Rattle.hb_history.specs.Points as history
use Rattle.hb_history.specs.History.{LeadsWith, Becomes}
use Rattle.hb_history.proofs.Connections.{leads_more, leads_one, looks_lead, looks_leave, act_leaves}
use Rattle.hb_history.proofs.Connections.{wrote_leaves, first_highest}
use Rattle.hb_history.proofs.Steady.{not_over, put_over, credited_over, wrote_over, first_stream}
use Rattle.hb_kept.specs.Numbers.{highest_used}
use Rattle.hb_kept.specs.Payloads.{payload_on, payloads, Follows}
use Rattle.hb_kept.proofs.Payloads.{looks_follow, writes_follow, uses_follow, puts_follow, more_follows}
use Rattle.hb_kept.proofs.Rises.{points_raise}
use Rattle.hb_world.specs.Trace.{went_on, recv, sent}
use Rattle.hb_world.specs.declared.entry.Entry.{Entry}
use Rattle.hb_world.specs.declared.entry.Entry.TheVariants as e
use Rattle.hb_model.specs.declared.config.NodeConfig.{NodeConfig}
use Rattle.hb_model.specs.Discovery.{Discovery, Phase, unborn, dialling, live, faulted, ending, closed, opened, ended, broken, went, stopped_for, phase_by, end_by, headers_read, stream, headers_of, first_requests, answer_to, spelled, no_link, dialled, came, wrote, on_found, ends_for, put_requests, sendable}
use Rattle.hb_model.specs.Machine.{Machine, while_open, entered, with_phase}
use Rattle.hb_model.specs.Messages.{held}
use Rattle.hb_model.specs.Point.{Point, entry, looked, applied, refused, used, put, stopped, entry_in, entries, moves_in, moves, act, tellings}
use Rattle.hb_model.specs.Requests.{request_in, requests}
use Rattle.hb_model.specs.Runs.{output_by, MayCome, Steps, StandsFor, begins, goes_on, IsFaulted}
use Rattle.hb_model.specs.Laws.{RunsObeyRequests}
use Rattle.hb_model.proofs.Grown.{one_more, entries_more, requests_more, of_all, IsBorn}
use Rattle.hb_model.proofs.Open.{live_changes, open_changes}
use Rattle.hb_model.proofs.Unborn.{AreUnborn, are_unborn, born_closing, Passes, passes_looked, passes_applied, passes_used, passes_put, passes_dial, passes_came, passes_went}
use Rattle.hb_model.proofs.MessagesRun.{held_is}
use Rattle.hb_model.proofs.ConnectionsRun.{AreAllOne, on_itself, itself_alone, quiet_passes, all_one}

-- a link that goes on
abbrev pub IsGoing : Phase → Type 0
IsGoing dialling = Unit {0}
IsGoing live = Unit {0}
IsGoing _ = ⊥

-- what was asked on a link, and what of it went and waits
pub record IsAsked (g : NodeConfig) (points : List Point) (l : ℕ) (phase : Phase) (waiting : List ℕ) (c : Connection) : Type 0 where
  pub begun : List RawFrame
  pub begins : LeadsWith fresh_client (moves l points) begun c
  pub shows : Shows octets (sent l (entries points)) begun (outgoing c)
  pub started : IsBorn phase → stream ≤ highest_used c
  pub follows : Follows stream begun (spelled (requests g l points)) waiting c
  pub goes : IsGoing phase → is_over c ≡ false

abbrev pub IsAskedOn : NodeConfig → List Point → ℕ → Discovery → Type 0
IsAskedOn g points l x = IsAsked g points l x.phase x.waiting x.conn

abbrev pub AreAsked : NodeConfig → Machine → List Point → Type 0
AreAsked g m points = (l : ℕ) → IsAskedOn g points l (m.links l)

spelled_more : (ms ns : List (List ℕ)) → spelled (ms ++ ns) ≡ spelled ms ++ spelled ns
spelled_more [] ns = refl
spelled_more (m ∷ ms) ns =
    ap (λ (xs : List ℕ). spelling m ++ xs) (spelled_more ms ns) ∙ sym (append_assoc (spelling m) (spelled ms) (spelled ns))

-- octets that are taken change nothing of it
taken_asked : (g : NodeConfig) (points : List Point) (l : ℕ) (phase : Phase) (waiting : List ℕ) (c : Connection) (bytes : List ℕ)
    → IsAsked g points l phase waiting c → IsAsked g points l phase waiting (taken c bytes)
taken_asked g points l phase waiting c bytes a = record {
  begun = a.begun;
  begins = a.begins;
  shows = a.shows;
  started = a.started;
  follows = record {
    rest = a.follows.rest;
    front = a.follows.front;
    goes = λ on. a.follows.goes on;
    unused = λ above. a.follows.unused above;
  };
  goes = a.goes;
}

-- a run that ends
was_born : (why : Cause) (p : Phase) → IsBorn (stopped_for why p) → IsBorn p
was_born why unborn born = born
was_born why dialling born = tt
was_born why live born = tt
was_born why (faulted code) born = tt
was_born why (ending other) born = tt
was_born why closed born = tt

never_goes : (why : Cause) (p : Phase) → IsGoing (stopped_for why p) → ⊥
never_goes why unborn goes = goes
never_goes why dialling goes = goes
never_goes why live goes = goes
never_goes why (faulted code) goes = goes
never_goes why (ending other) goes = goes
never_goes why closed goes = goes

-- how many octets go
some_go : (own : Bool) (n : ℕ) → 0 < (if own then n else 0) → (own ≡ true) × (0 < n)
some_go true n some = (refl, some)
some_go false n some = absurd (omega (arith, some))

module _ (g : NodeConfig) (m : Machine) (points : List Point) (unborn : AreUnborn g m points) (hold : m.held ≡ held g points)
    (one : AreAllOne m points) (asked : AreAsked g m points) where
  -- with a point by which these octets go on a link, and these requests are made
  grown : (p : Point) (l : ℕ) (phase : Phase) (waiting : List ℕ) (c : Connection) (begun : List RawFrame) (bytes more : List ℕ)
      → flat_map (went_on l) (entry_in p) ≡ bytes → spelled (request_in g m.held l p) ≡ more
      → LeadsWith fresh_client (moves l points ++ moves_in l p) begun c
      → Shows octets (sent l (entries points) ++ bytes) begun (outgoing c) → (IsBorn phase → stream ≤ highest_used c)
      → Follows stream begun (spelled (requests g l points) ++ more) waiting c
      → (IsGoing phase → is_over c ≡ false) → IsAsked g (points ++ p ∷ []) l phase waiting c
  grown p l phase waiting c begun bytes more goes asks runs shows started follows going =
      let all : spelled (requests g l points) ++ more ≡ spelled (requests g l (points ++ p ∷ [])) =
      ap (λ (xs : List ℕ). spelled (requests g l points) ++ xs) (sym asks ∙ ap (λ h. spelled (request_in g h l p)) hold)
      ∙ sym (spelled_more (requests g l points) (request_in g (held g points) l p))
      ∙ ap spelled (sym (requests_more g (nothing_held g.network g.node g.doors) l points p)) in
      record {
        begun = begun;
        begins = subst (λ (qs : List history.Point). LeadsWith fresh_client qs begun c)
            (sym (one_more (moves_in l) points p)) runs;
        shows = subst (λ (bs : List ℕ). Shows octets bs begun (outgoing c))
            (ap (λ (bs : List ℕ). sent l (entries points) ++ bs) (sym goes) ∙ sym (entries_more (went_on l) points p)) shows;
        started = started;
        follows = subst (λ (xs : List ℕ). Follows stream begun xs waiting c) all follows;
        goes = going;
      }

  -- one by which these moves are made, with which these frames begin
  runs_on : (p : Point) (l : ℕ) (ps : List history.Point) (gs : List RawFrame) (c : Connection) → moves_in l p ≡ ps
      → LeadsWith (m.links l).conn ps gs c
      → LeadsWith fresh_client (moves l points ++ moves_in l p) ((asked l).begun ++ gs) c
  runs_on p l ps gs c are runs =
      subst (λ (qs : List history.Point). LeadsWith fresh_client (moves l points ++ qs) ((asked l).begun ++ gs) c) (sym are)
      (leads_more (moves l points) ps fresh_client (m.links l).conn c (asked l).begun gs (asked l).begins runs)

  runs_still : (p : Point) (l : ℕ) (ps : List history.Point) (c : Connection) → moves_in l p ≡ ps
      → LeadsWith (m.links l).conn ps [] c
      → LeadsWith fresh_client (moves l points ++ moves_in l p) (asked l).begun c
  runs_still p l ps c are runs =
      subst (λ (fs : List RawFrame). LeadsWith fresh_client (moves l points ++ moves_in l p) fs c)
      (append-nil (asked l).begun) (runs_on p l ps [] c are runs)

  -- one by which nothing of the output changes
  kept : (p : Point) (l : ℕ) (phase : Phase) → moves_in l p ≡ [] → flat_map (went_on l) (entry_in p) ≡ []
      → spelled (request_in g m.held l p) ≡ []
      → (IsBorn phase → IsBorn (m.links l).phase) → (IsGoing phase → is_over (m.links l).conn ≡ false)
      → IsAsked g (points ++ p ∷ []) l phase (m.links l).waiting (m.links l).conn
  kept p l phase none goes asks born going =
      let a = asked l in
      let c = (m.links l).conn in
      let w = (m.links l).waiting in
      grown p l phase w c a.begun [] [] goes asks (runs_still p l [] c none (refl, refl))
      (subst (λ (bs : List ℕ). Shows octets bs a.begun (outgoing c)) (sym (append-nil (sent l (entries points)))) a.shows)
      (λ b. a.started (born b))
      (subst (λ (xs : List ℕ). Follows stream a.begun xs w c) (sym (append-nil (spelled (requests g l points)))) a.follows)
      going

  elsewhere : (p : Point) (l : ℕ) → Passes g l p → IsAskedOn g (points ++ p ∷ []) l (m.links l)
  elsewhere p l passes =
      kept p l (m.links l).phase passes.moves passes.went (ap spelled (passes.request m.held)) (λ b. b) (asked l).goes

  changed : (p : Point) (k : ℕ) (new : ℕ → Discovery) → IsAskedOn g (points ++ p ∷ []) k (new k)
      → ((l : ℕ) → (k == l) ≡ false → Passes g l p) → (l : ℕ) → IsAskedOn g (points ++ p ∷ []) l (if k == l then new l else m.links l)
  changed p k new here passes =
      of_all (IsAskedOn g (points ++ p ∷ [])) k new m.links here (λ l apart. elsewhere p l (passes l apart))

  -- a link whose phase alone changes
  phase_changes : (x : Entry) (k : ℕ) (change : Phase → Phase) → IsBorn (m.links k).phase
      → (IsGoing (change (m.links k).phase) → is_over (m.links k).conn ≡ false)
      → ((l : ℕ) → Passes g l (entry x)) → (l : ℕ)
      → IsAskedOn g (points ++ entry x ∷ []) l (if k == l then with_phase change (m.links l) else m.links l)
  phase_changes x k change born going passes =
      changed (entry x) k (λ l. with_phase change (m.links l))
      (kept (entry x) k (change (m.links k).phase) (passes k).moves (passes k).went (ap spelled ((passes k).request m.held))
      (λ b. born) going)
      (λ l apart. passes l)

  born_asked : (k : ℕ) (to : Target) → m.born < k
      → AreAsked g (entered g (e.Dialled k to whys.Discovery) m) (points ++ entry (e.Dialled k to whys.Discovery) ∷ [])
  born_asked k to above =
      let p = entry (e.Dialled k to whys.Discovery) in
      let x = dialled g.id to m.held in
      let none = (unborn k above).none in
      let first_bytes = spelled (first_requests g.id m.held) in
      let asks : spelled (request_in g m.held k p) ≡ first_bytes = ap spelled (on_itself k (first_requests g.id m.held)) in
      let move = history.opened stream (headers_of to) false in
      changed p k (λ l. x)
      (grown p k dialling x.waiting x.conn [] [] first_bytes refl asks
      (subst (λ (qs : List history.Point). LeadsWith fresh_client qs [] x.conn)
      (ap (λ (qs : List history.Point). qs ++ moves_in k p) (sym none.moves))
      (subst (λ (qs : List history.Point). LeadsWith fresh_client qs [] x.conn) (sym (on_itself k (act move)))
      (leads_one (history.point move found.Silent) fresh_client x.conn [] refl (first_stream, (refl, refl)))))
      (ap (λ (bs : List ℕ). (bs ++ []) ++ octets) none.went)
      (λ b. omega (arith, first_highest stream (headers_of to)))
      (record {
        rest = first_bytes;
        front = ap (λ (ms : List (List ℕ)). spelled ms ++ first_bytes) none.requests;
        goes = λ on. refl;
        unused = λ above. absurd (let high = first_highest stream (headers_of to) in omega (arith, high, above));
      })
      (λ i. refl))
      (λ l apart. passes_dial g l k to whys.Discovery apart)

  -- what is kept by all that is made of a connection is so with a point
  made : (p : Point) (l : ℕ) (phase : Phase) (waiting : List ℕ) (c : Connection) (begun : List RawFrame) (bytes more : List ℕ)
      → flat_map (went_on l) (entry_in p) ≡ bytes → spelled (request_in g m.held l p) ≡ more
      → LeadsWith fresh_client (moves l points ++ moves_in l p) begun c
      → Shows octets (sent l (entries points) ++ bytes) begun (outgoing c)
      → IsBorn (m.links l).phase → highest_used (m.links l).conn ≤ highest_used c
      → Follows stream begun (spelled (requests g l points) ++ more) waiting c → (IsGoing phase → is_over c ≡ false)
      → IsAsked g (points ++ p ∷ []) l phase waiting c
  made p l phase waiting c begun bytes more goes asks runs shows born raised follows going =
      let used = (asked l).started born in
      grown p l phase waiting c begun bytes more goes asks runs shows (λ b. omega (arith, used, raised)) follows going

  with_none : (l : ℕ) (begun : List RawFrame) (waiting : List ℕ) (c : Connection)
      → Follows stream begun (spelled (requests g l points)) waiting c
      → Follows stream begun (spelled (requests g l points) ++ []) waiting c
  with_none l begun waiting c follows =
      subst (λ (xs : List ℕ). Follows stream begun xs waiting c) (sym (append-nil (spelled (requests g l points)))) follows

  -- no number of a stream falls with one move
  raised : (l : ℕ) (p : history.Point) (d : Connection) → Becomes (m.links l).conn p d → highest_used (m.links l).conn ≤ highest_used d
  raised l p d becomes = points_raise (m.links l).conn d (p ∷ []) (core_of d, becomes, refl)

  -- what was begun waits on
  shows_on : (l : ℕ) (w : Waiting) → w.rest ≡ (outgoing (m.links l).conn).rest
      → Shows octets (sent l (entries points) ++ []) (asked l).begun w
  shows_on l w same =
      ap₂ (λ (xs ys : List ℕ). xs ++ ys) (append-nil (sent l (entries points))) same ∙ (asked l).shows

  went_asked : (k : ℕ) (bytes rest : List ℕ) → output (m.links k).conn ≡ bytes ++ rest
      → ((m.links k).phase ≡ live) ⊎ IsFaulted m k → IsBorn (m.links k).phase
      → (IsGoing (went (m.links k).phase) → is_over (m.links k).conn ≡ false)
      → AreAsked g (entered g (e.Went k bytes) m) (points ++ entry (e.Went k bytes) ∷ [])
  went_asked k bytes rest is opened born going =
      let p = entry (e.Went k bytes) in
      let a = asked k in
      let x = m.links k in
      let c = x.conn in
      let n = length bytes in
      let within : n ≤ length (output c) = omega (arith, ap length is, length-append bytes rest) in
      let all : take n (output c) ≡ bytes = ap (take n) is ∙ take-append_seam bytes rest in
      let shown = (write_begins octets (sent k (entries points)) a.begun (outgoing c) n within a.shows).0 in
      changed p k (λ l. while_open (wrote n) (m.links l))
      (subst (IsAskedOn g (points ++ p ∷ []) k) (sym (open_changes (wrote n) m k opened))
      (made p k (went x.phase) x.waiting (connection.wrote c n) (a.begun ++ frames_begun n c) bytes [] (itself_alone k bytes) refl
      (runs_on p k (act (history.wrote n)) (frames_begun n c) (connection.wrote c n) (on_itself k (act (history.wrote n)))
      (leads_one (history.point (history.wrote n) found.Silent) c (connection.wrote c n) (frames_begun n c) refl
      (within, (refl, refl))))
      (ap₂ (λ (bs xs : List ℕ). (sent k (entries points) ++ bs) ++ xs) (sym all) (wrote_leaves c n) ∙ shown)
      born (raised k (history.point (history.wrote n) found.Silent) (connection.wrote c n) (within, (refl, refl)))
      (with_none k (a.begun ++ frames_begun n c) x.waiting (connection.wrote c n)
      (writes_follow Client (moves k points) (tellings k points) (recv k (entries points)) (sent k (entries points)) c (one k).stands
      stream n a.begun (spelled (requests g k points)) x.waiting a.follows))
      (λ i. wrote_over c n ∙ going i)))
      (λ l apart. passes_went g l k bytes apart)

  -- all links stay
  all_kept : (x : Entry) → ((l : ℕ) → Passes g l (entry x)) → AreAsked g m (points ++ entry x ∷ [])
  all_kept x passes l = elsewhere (entry x) l (passes l)

  live_over : (k : ℕ) → (m.links k).phase ≡ live → is_over (m.links k).conn ≡ false
  live_over k alive = (asked k).goes (subst IsGoing (sym alive) tt)

  entry_asked : (x : Entry) → MayCome g m x → AreAsked g (entered g x m) (points ++ entry x ∷ [])
  entry_asked (e.Accepted k door) may = absurd may
  entry_asked (e.Dialled k to why) may =
      subst (λ (w : Why). AreAsked g (entered g (e.Dialled k to w) m) (points ++ entry (e.Dialled k to w) ∷ [])) (sym may.3)
      (born_asked k to may.1)
  entry_asked (e.DialFailed to why) may = all_kept _ (λ l. quiet_passes g l (e.DialFailed to why) tt)
  entry_asked (e.Opened k) may =
      phase_changes (e.Opened k) k opened (subst IsBorn (sym may.1) tt) (λ i. (asked k).goes (subst IsGoing (sym may.1) tt))
      (λ l. quiet_passes g l (e.Opened k) tt)
  entry_asked (e.Came k bytes) may =
      let p = entry (e.Came k bytes) in
      let x = m.links k in
      changed p k (λ l. while_open (came bytes) (m.links l))
      (subst (IsAskedOn g (points ++ p ∷ []) k) (sym (live_changes (came bytes) x may.0.1))
      (taken_asked g (points ++ p ∷ []) k x.phase x.waiting x.conn bytes (kept p k x.phase refl refl refl (λ b. b) (asked k).goes)))
      (λ l apart. passes_came g l k bytes apart)
  entry_asked (e.Ended k) may =
      phase_changes (e.Ended k) k ended (subst IsBorn (sym may.0.1) tt) (λ i. live_over k may.0.1) (λ l. quiet_passes g l (e.Ended k) tt)
  entry_asked (e.Broke k) (inl may) =
      phase_changes (e.Broke k) k broken (subst IsBorn (sym may.1) tt) (λ i. (asked k).goes (subst IsGoing (sym may.1) tt))
      (λ l. quiet_passes g l (e.Broke k) tt)
  entry_asked (e.Broke k) (inr (inl may)) =
      phase_changes (e.Broke k) k broken (subst IsBorn (sym may.1) tt) (λ i. live_over k may.1) (λ l. quiet_passes g l (e.Broke k) tt)
  entry_asked (e.Broke k) (inr (inr may)) =
      phase_changes (e.Broke k) k broken (subst IsBorn (sym may.1) tt) (λ i. absurd (subst IsGoing (ap broken may.1) i))
      (λ l. quiet_passes g l (e.Broke k) tt)
  entry_asked (e.Went k bytes) (inl may, some, rest) =
      went_asked k bytes rest.0 (sym (ap (λ (phase : Phase). output_by phase (m.links k)) may.1) ∙ rest.1) (inl may.1)
      (subst IsBorn (sym may.1) tt)
      (λ i. live_over k may.1)
  entry_asked (e.Went k bytes) (inr may, some, rest) =
      went_asked k bytes rest.0 (sym (ap (λ (phase : Phase). output_by phase (m.links k)) may.1) ∙ rest.1) (inr may)
      (subst IsBorn (sym may.1) tt)
      (λ i. absurd (subst IsGoing (ap went may.1) i))
  entry_asked (e.Balked way) may = all_kept _ (λ l. quiet_passes g l (e.Balked way) tt)
  entry_asked (e.Shut k) may = absurd may
  entry_asked (e.Closed k why) may =
      phase_changes (e.Closed k why) k (λ p. closed) (born_closing (m.links k).phase why may) (λ i. absurd i)
      (λ l. quiet_passes g l (e.Closed k why) tt)
  entry_asked e.Tick may = all_kept _ (λ l. quiet_passes g l e.Tick tt)
  entry_asked (e.Wait ready way) may = all_kept _ (λ l. quiet_passes g l (e.Wait ready way) tt)

  linked : (p : Point) (k : ℕ) (n next : Machine) (new : Discovery) → n ≡ next
      → ((l : ℕ) → next.links l ≡ (if k == l then new else m.links l))
      → IsAskedOn g (points ++ p ∷ []) k new → ((l : ℕ) → (k == l) ≡ false → Passes g l p) → AreAsked g n (points ++ p ∷ [])
  linked p k n next new is links here passes l =
      subst (IsAskedOn g (points ++ p ∷ []) l) (sym (ap (λ (x : Machine). x.links l) is ∙ links l)) (changed p k (λ j. new) here passes l)

  -- after a look that tells no connection error a link goes on
  look_over : (k : ℕ) (told : Found) (conn : Connection) (why : Option Cause) → (m.links k).phase ≡ live
      → ((code : ℕ) → told ≡ found.Fault code → why ≡ Some (cause.ConnFault code)) → Finds (m.links k).conn conn told
      → IsGoing (phase_by (m.links k).phase why) → is_over conn ≡ false
  look_over k told conn why alive fault finds goes = by (not_over (m.links k).conn conn told (live_over k alive) finds)
    where
      by : (is_over conn ≡ false) ⊎ ((code : ℕ) × (told ≡ found.Fault code)) → is_over conn ≡ false
      by (inl over) = over
      by (inr code) = absurd (subst (λ o. IsGoing (phase_by (m.links k).phase o)) (fault code.0 code.1) goes)

  point_asked : (p : Point) (n : Machine) → Steps g m p n → AreAsked g n (points ++ p ∷ [])
  point_asked (entry x) n steps = subst (λ (y : Machine). AreAsked g y (points ++ entry x ∷ [])) (sym steps.1) (entry_asked x steps.0)
  point_asked (looked k ps told headers) n steps =
      let p = looked k ps told headers in
      let x = m.links k in
      let look = steps.2 in
      let new = steps.1 in
      let why = end_by x.answered (headers_read new) told in
      linked p k n _ (on_found told new x) steps.4 (λ l. refl)
      (made p k (phase_by x.phase why) x.waiting new (asked k).begun [] [] refl refl
      (runs_still p k ps new (on_itself k ps) (looks_lead ps x.conn new look.found.looks look.found.runs))
      (shows_on k (outgoing new) (looks_leave ps x.conn new look.found.looks look.found.runs))
      (subst IsBorn (sym steps.0) tt) (points_raise x.conn new ps look.found.runs)
      (with_none k (asked k).begun x.waiting new
      (looks_follow Client (moves k points) (tellings k points) (recv k (entries points)) (sent k (entries points)) x.conn (one k).stands
      new ps told look.found stream (asked k).begun (spelled (requests g k points)) x.waiting (asked k).follows))
      (look_over k told new why steps.0 (λ code is. ap (end_by x.answered (headers_read new)) is) look.found.finds))
      (λ l apart. passes_looked g l k ps told headers apart)
  point_asked (applied k r) n steps =
      let p = applied k r in
      let x = m.links k in
      let answer = answer_to m.held r in
      let c = x.conn in
      linked p k n _ _ steps.3 (λ l. refl)
      (made p k x.phase (x.waiting ++ spelling answer) c (asked k).begun [] (spelling answer) refl
      (ap spelled (on_itself k (answer ∷ [])) ∙ append-nil (spelling answer))
      (runs_still p k [] c refl (refl, refl))
      (shows_on k (outgoing c) refl)
      (subst IsBorn (sym steps.0) tt) (omega arith)
      (more_follows stream (asked k).begun (spelled (requests g k points)) x.waiting (spelling answer) c
      ((asked k).started (subst IsBorn (sym steps.0) tt)) (asked k).follows)
      (asked k).goes)
      (λ l apart. passes_applied g l k r apart)
  point_asked (refused k) n steps =
      linked (refused k) k n _ (ends_for cause.Discovery (m.links k)) steps.2 (λ l. refl)
      (kept (refused k) k (ending cause.Discovery) refl refl refl (λ b. subst IsBorn (sym steps.0) tt) (λ i. absurd i))
      (λ l apart. record { moves = refl; came = refl; went = refl; tells = refl; response = refl; request = λ h. refl })
  point_asked (used k n) next steps =
      let p = used k n in
      let x = m.links k in
      let c = x.conn in
      let new = credited c stream n in
      let move = history.credited stream n in
      let within : n ≤ creditable c stream = omega (arith, steps.1.counted) in
      linked p k next _ _ steps.2 (λ l. refl)
      (made p k x.phase x.waiting new (asked k).begun [] [] refl refl
      (runs_still p k (act move) new (on_itself k (act move))
      (leads_one (history.point move found.Silent) c new [] refl (within, (refl, refl))))
      (shows_on k (outgoing new) (act_leaves c new (history.point move found.Silent) tt (within, (refl, refl))))
      (subst IsBorn (sym steps.0) tt) (raised k (history.point move found.Silent) new (within, (refl, refl)))
      (with_none k (asked k).begun x.waiting new
      (uses_follow Client (moves k points) (tellings k points) (recv k (entries points)) (sent k (entries points)) c (one k).stands
      stream n within stream (asked k).begun (spelled (requests g k points)) x.waiting (asked k).follows))
      (λ i. credited_over c stream n ∙ (asked k).goes i))
      (λ l apart. passes_used g l k n apart)
  point_asked (put k bytes) n steps =
      let p = put k bytes in
      let x = m.links k in
      let c = x.conn in
      let count = count_put c stream x.waiting in
      let new = data_put c stream x.waiting in
      let move = history.put stream x.waiting in
      let go = some_go (own_side_open c stream) count steps.2 in
      let size : sendable x ≡ count = ap (λ b. if b then count else 0) go.0 in
      linked p k n _ (put_requests x) steps.3 (λ l. refl)
      (made p k x.phase (drop (sendable x) x.waiting) new (asked k).begun [] [] refl refl
      (runs_still p k (act move) new
      (on_itself k (act (history.put stream bytes)) ∙ ap (λ (bs : List ℕ). act (history.put stream bs)) steps.1)
      (leads_one (history.point move found.Silent) c new [] refl (refl, refl)))
      (shows_on k (outgoing new) (act_leaves c new (history.point move found.Silent) tt (refl, refl)))
      (subst IsBorn (sym steps.0) tt) (raised k (history.point move found.Silent) new (refl, refl))
      (with_none k (asked k).begun (drop (sendable x) x.waiting) new
      (subst (λ i. Follows stream (asked k).begun (spelled (requests g k points)) (drop i x.waiting) new) (sym size)
      (puts_follow Client (moves k points) (tellings k points) (recv k (entries points)) (sent k (entries points)) c (one k).stands
      stream (asked k).begun (spelled (requests g k points)) x.waiting go.1 (asked k).follows)))
      (λ i. put_over c stream x.waiting ∙ live_over k steps.0))
      (λ l apart. passes_put g l k bytes apart)
  point_asked (stopped why) n steps =
      subst (λ (y : Machine). AreAsked g y (points ++ stopped why ∷ [])) (sym steps.1)
      (λ l. kept (stopped why) l (stopped_for why (m.links l).phase) refl refl refl (was_born why (m.links l).phase)
      (λ i. absurd (never_goes why (m.links l).phase i)))

begins_asked : (g : NodeConfig) (l : ℕ) → IsAskedOn g [] l no_link
begins_asked g l = record {
  begun = [];
  begins = (refl, refl);
  shows = refl;
  started = λ born. absurd born;
  follows = record { rest = []; front = refl; goes = λ on. refl; unused = λ above. (refl, refl) };
  goes = λ goes. absurd goes;
}

pub all_asked : (g : NodeConfig) (m : Machine) (points : List Point) → StandsFor g m points → AreAsked g m points
all_asked g m points (begins is none) = λ l.
    subst (λ ps. IsAskedOn g ps l (m.links l)) (sym none)
    (subst (λ (x : Machine). IsAskedOn g [] l (x.links l)) (sym is) (begins_asked g l))
all_asked g n more (goes_on {m = m} {points = points} before p steps grows) =
    subst (AreAsked g n) (sym grows)
    (point_asked g m points (are_unborn g m points before) (held_is g m points before) (all_one g m points before)
    (all_asked g m points before) p n steps)

pub obey_requests : RunsObeyRequests
obey_requests g m points stands l control =
    let a = all_asked g m points stands l in
    let out = outgoing (m.links l).conn in
    record {
      begun = a.begun;
      owed = out.rest;
      went = a.shows;
      rest = payloads stream out.queue ++ a.follows.rest;
      front = a.follows.front
          ∙ ap (λ (xs : List ℕ). xs ++ a.follows.rest) (flat_map-append (payload_on stream) a.begun out.queue)
          ∙ append_assoc (payloads stream a.begun) (payloads stream out.queue) a.follows.rest;
    }
