-- Each request gets the first answer that applies, and each answer is put at its point, in every run of a link.
use Rattle.std.proofs.Common.{◌≡◌, ◌⊎◌, inl, inr, ℕ, ◌==◌, ◌&&◌, ◌||◌, Bool, true, false, cond, List, [], ◌∷◌, ◌++◌, drop, Option, Some, None, refl, ap, sym, ◌∙◌, subst}
use Rattle.std.proofs.lemmas.Bool.{false≢true, eq-eqb}
use Rattle.hb_base.specs.declared.cause.Cause.{Cause}
use Rattle.hb_base.specs.declared.cause.Cause.TheVariants as cause
use Rattle.hb_base.specs.declared.ip.Ip.{Ip}
use Rattle.hb_base.specs.declared.note.Note.{Note}
use Rattle.hb_base.specs.declared.target.Target.{Target}
use Rattle.hb_conn.specs.Connection.{Connection}
use Rattle.hb_conn.specs.Observed.{chunk_of, own_side_open, sides}
use Rattle.hb_conn.specs.declared.found.Found.{Found}
use Rattle.hb_conn.specs.declared.found.Found.TheVariants as found
use Rattle.hb_front.specs.Faults.{number_of}
use Rattle.hb_held.specs.Held.{Resources}
use Rattle.hb_held.specs.Outcome.{after_response}
use Rattle.hb_history.specs.Points as history
use Rattle.hb_hpack.specs.declared.header.HeaderList.{HeaderList}
use Rattle.hb_table.specs.Judgement.{judged}
use Rattle.hb_table.specs.declared.judgement.Judged.{Judged}
use Rattle.hb_table.specs.declared.judgement.Judged.TheVariants.{Admitted, Unknown, Denied}
use Rattle.hb_verdict.specs.Request.{request_of}
use Rattle.hb_verdict.specs.Verdict.{verdict}
use Rattle.hb_verdict.specs.declared.verdict.Verdict.{Verdict}
use Rattle.hb_verdict.specs.declared.verdict.Verdict.TheVariants.{Status, Reset, Dial}
use Rattle.hb_world.specs.declared.entry.Entry.{Entry}
use Rattle.hb_world.specs.declared.entry.Entry.TheVariants as e
use Rattle.hb_world.specs.declared.entry.Way.TheVariants as way
use Rattle.hb_inbound.specs.Calm.{IsAnswered}
use Rattle.hb_inbound.specs.Ends as life
use Rattle.hb_inbound.specs.Inbound.{Inbound, Phase, unborn, arriving, fronting, serving, faulted, closing, closed, at_stream, came_by, went_by, ended_by, broken_by, on_found, judged_by, with_phase, lacking, fronted_by, rejudged, stops_by, stopped_for}
use Rattle.hb_inbound.specs.Laws.{RunsAnswer}
use Rattle.hb_inbound.specs.Part.{Part, entry, up, welcomed, crowded, lacked, misfronted, looked, decided, accepted, refused, reset, left, done, put, finished, credited, applied, stopped}
use Rattle.hb_inbound.specs.Part as part
use Rattle.hb_inbound.specs.Runs.{Local, MayCome, UpMayCome, entered, Steps, StandsFor, begins, goes_on, with_link, with_tunnel, tunnel_for, put_down, Refuses, Resets, failure_status, end_code, is_serving}
use Rattle.hb_inbound.specs.Tunnel.{Tunnel, Stage, unasked, requested, refusing, malformed, due, opening, accepting, live, failed, ended, over, gone, is_unanswered, takes_place, at_stage, ends_by, ends_for, left_with, up_entered, came_up, peer_ended, requested_with}
use Rattle.hb_inbound.specs.Verdicts.{Due, nothing, answer, refusal, protocol_error, acceptance, due_by, due_of, due_entry, due_answer, destination_by, destination_of, IsAsked, IsStatus, IsReset, AllGot, VerdictAt}
use Rattle.hb_inbound.proofs.Admitted.{KnowsBy, at_one, swapped}
use Rattle.hb_inbound.proofs.AdmittedRun.{all_admit}
use Rattle.hb_inbound.proofs.EndsRun.{said_at, new_streams}
use Rattle.hb_inbound.proofs.Grown.{fold_one, at_parts}
use Rattle.hb_inbound.proofs.Left.{IsLeft, left_so, refuses_left, resets_left, leaves_left}
use Rattle.hb_inbound.proofs.Life.{SaysBy}

-- what a stream is to get, by how far its tunnel is; behind an end of that it may be anything
abbrev pub OwesBy : Stage → Due → Type 0
OwesBy (requested headers end) owed = owed ≡ answer headers
OwesBy (refusing status target) owed = owed ≡ refusal status
OwesBy malformed owed = owed ≡ protocol_error
OwesBy accepting owed = owed ≡ acceptance
OwesBy (failed why) owed = Unit {0}
OwesBy (ended why) owed = Unit {0}
OwesBy stage owed = owed ≡ nothing

-- and where the front header meant
abbrev pub ToBy : Phase → List Part → Inbound → Type 0
ToBy serving parts x = destination_of parts ≡ Some x.destination
ToBy _ parts x = Unit {0}

pub record Owes (parts : List Part) (x : Inbound) : Type 0 where
  pub each : (s : ℕ) → OwesBy (x.tunnels s).stage (due_of s parts)
  pub to : ToBy x.phase parts x

ends_owe : (why : Cause) (stage : Stage) (owed : Due) → OwesBy stage owed → OwesBy (ends_by why stage) owed
ends_owe why unasked owed is = is
ends_owe why (requested headers end) owed is = is
ends_owe why (refusing status target) owed is = is
ends_owe why malformed owed is = is
ends_owe why due owed is = tt
ends_owe why opening owed is = tt
ends_owe why accepting owed is = tt
ends_owe why live owed is = tt
ends_owe why (failed cause) owed is = tt
ends_owe why (ended cause) owed is = tt
ends_owe why (over cause) owed is = is
ends_owe why gone owed is = is

judged_owe : (b : Bool) (j : Judged) (t : Tunnel) (owed : Due) → OwesBy t.stage owed → OwesBy (cond b (judged_by j t) t).stage owed
judged_owe false j t owed is = is
judged_owe true Admitted t owed is = is
judged_owe true Unknown t owed is = ends_owe cause.Revoked t.stage owed is
judged_owe true Denied t owed is = ends_owe cause.Revoked t.stage owed is

left_owes : (old new : Tunnel) → IsLeft old new → OwesBy new.stage nothing
left_owes old new is = left_so (λ (t : Tunnel). OwesBy t.stage nothing) old new refl (λ why. refl) is

-- the destination of a link stays, in whatever phase
to_stays : (phase : Phase) (parts : List Part) (p : Part) (x y : Inbound) → ((to : Option Ip) → destination_by to p ≡ to)
    → y.destination ≡ x.destination → ToBy phase parts x → ToBy phase (parts ++ p ∷ []) y
to_stays serving parts p x y same stays to =
    fold_one destination_by None parts p ∙ same (destination_of parts) ∙ to ∙ ap Some (sym stays)
to_stays unborn parts p x y same stays to = tt
to_stays arriving parts p x y same stays to = tt
to_stays fronting parts p x y same stays to = tt
to_stays (faulted code) parts p x y same stays to = tt
to_stays (closing why) parts p x y same stays to = tt
to_stays closed parts p x y same stays to = tt

went_to : (phase : Phase) (parts : List Part) (p : Part) (x y : Inbound) → ((to : Option Ip) → destination_by to p ≡ to)
    → y.destination ≡ x.destination → ToBy phase parts x → ToBy (went_by phase) (parts ++ p ∷ []) y
went_to serving parts p x y same stays to = to_stays serving parts p x y same stays to
went_to unborn parts p x y same stays to = tt
went_to arriving parts p x y same stays to = tt
went_to fronting parts p x y same stays to = tt
went_to (faulted code) parts p x y same stays to = tt
went_to (closing why) parts p x y same stays to = tt
went_to closed parts p x y same stays to = tt

stops_to : (why : Cause) (phase : Phase) (parts : List Part) (x : Inbound) → ToBy (stops_by why phase) parts x
stops_to why unborn parts x = tt
stops_to why arriving parts x = tt
stops_to why fronting parts x = tt
stops_to why serving parts x = tt
stops_to why (faulted code) parts x = tt
stops_to why (closing cause) parts x = tt
stops_to why closed parts x = tt

module _ (l : ℕ) (a : Local) (parts : List Part) (owes : Owes parts a.link) where
  due_one : (s : ℕ) (p : Part) → due_of s (parts ++ p ∷ []) ≡ due_by s (due_of s parts) p
  due_one s p = fold_one (due_by s) nothing parts p

  owed_at : (s : ℕ) (stage : Stage) → (a.link.tunnels s).stage ≡ stage → OwesBy stage (due_of s parts)
  owed_at s stage is = subst (λ (st : Stage). OwesBy st (due_of s parts)) is (owes.each s)

  -- a part by which no stream is to get another thing
  abbrev SaysNone : Part → Type 0
  SaysNone p = (s : ℕ) (owed : Due) → due_by s owed p ≡ owed

  abbrev LeavesTo : Part → Type 0
  LeavesTo p = (to : Option Ip) → destination_by to p ≡ to

  quiet : (p : Part) (y : Inbound) → SaysNone p
      → ((s : ℕ) (owed : Due) → OwesBy (a.link.tunnels s).stage owed → OwesBy (y.tunnels s).stage owed)
      → ToBy y.phase (parts ++ p ∷ []) y → Owes (parts ++ p ∷ []) y
  quiet p y none stays to = record {
    each = λ s. subst (OwesBy (y.tunnels s).stage) (sym (due_one s p ∙ none s (due_of s parts))) (stays s (due_of s parts) (owes.each s));
    to = to;
  }

  other : (p : Part) (s : ℕ) → due_by s (due_of s parts) p ≡ due_of s parts → OwesBy (a.link.tunnels s).stage (due_of s (parts ++ p ∷ []))
  other p s none = subst (OwesBy (a.link.tunnels s).stage) (sym (due_one s p ∙ none)) (owes.each s)

  one : (p : Part) (k : ℕ) (change : Tunnel → Tunnel) (gets : Due → Due)
      → ((s : ℕ) (owed : Due) → due_by s owed p ≡ cond (k == s) (gets owed) owed)
      → OwesBy (change (a.link.tunnels k)).stage (gets (due_of k parts))
      → (s : ℕ) → OwesBy ((at_stream k change a.link).tunnels s).stage (due_of s (parts ++ p ∷ []))
  one p k change gets says here =
      at_one k change a.link (λ s t. OwesBy t.stage (due_of s (parts ++ p ∷ [])))
      (subst (OwesBy (change (a.link.tunnels k)).stage)
      (sym (due_one k p ∙ says k (due_of k parts) ∙ ap (λ (b : Bool). cond b (gets (due_of k parts)) (due_of k parts)) (eq-eqb k k refl)))
      here)
      (λ s apart. other p s
      (says s (due_of s parts) ∙ ap (λ (b : Bool). cond b (gets (due_of s parts)) (due_of s parts)) (swapped s k apart)))

  one_quiet : (p : Part) (k : ℕ) (change : Tunnel → Tunnel) → SaysNone p
      → ((owed : Due) → OwesBy (a.link.tunnels k).stage owed → OwesBy (change (a.link.tunnels k)).stage owed)
      → (s : ℕ) → OwesBy ((at_stream k change a.link).tunnels s).stage (due_of s (parts ++ p ∷ []))
  one_quiet p k change none stays =
      at_one k change a.link (λ s t. OwesBy t.stage (due_of s (parts ++ p ∷ [])))
      (subst (OwesBy (change (a.link.tunnels k)).stage) (sym (due_one k p ∙ none k (due_of k parts)))
      (stays (due_of k parts) (owes.each k)))
      (λ s apart. other p s (none s (due_of s parts)))

  same_to : (p : Part) (y : Inbound) → LeavesTo p → y.destination ≡ a.link.destination → ToBy a.link.phase (parts ++ p ∷ []) y
  same_to p y same stays = to_stays a.link.phase parts p a.link y same stays owes.to

  stays_owed : (p : Part) → SaysNone p → LeavesTo p → Owes (parts ++ p ∷ []) a.link
  stays_owed p none to = quiet p a.link none (λ s owed is. is) (same_to p a.link to refl)

  all_end : (p : Part) (why : Cause) (y : Inbound) → SaysNone p → ((s : ℕ) → (y.tunnels s).stage ≡ ends_by why (a.link.tunnels s).stage)
      → ToBy y.phase (parts ++ p ∷ []) y → Owes (parts ++ p ∷ []) y
  all_end p why y none stages to =
      quiet p y none
      (λ s owed is. subst (λ (st : Stage). OwesBy st owed) (sym (stages s)) (ends_owe why (a.link.tunnels s).stage owed is)) to

  -- ENTRIES OF THE LINK

  came_owes : (k : ℕ) (bytes : List ℕ) (phase : Phase) → Owes (parts ++ entry (e.Came k bytes) ∷ []) (came_by phase bytes a.link)
  came_owes k bytes fronting =
      let p = entry (e.Came k bytes) in
      quiet p (came_by fronting bytes a.link) (λ s owed. refl) (λ s owed is. is)
      (same_to p (came_by fronting bytes a.link) (λ to. refl) refl)
  came_owes k bytes serving =
      let p = entry (e.Came k bytes) in
      quiet p (came_by serving bytes a.link) (λ s owed. refl) (λ s owed is. is) (same_to p (came_by serving bytes a.link) (λ to. refl) refl)
  came_owes k bytes unborn = stays_owed (entry (e.Came k bytes)) (λ s owed. refl) (λ to. refl)
  came_owes k bytes arriving = stays_owed (entry (e.Came k bytes)) (λ s owed. refl) (λ to. refl)
  came_owes k bytes (faulted code) = stays_owed (entry (e.Came k bytes)) (λ s owed. refl) (λ to. refl)
  came_owes k bytes (closing why) = stays_owed (entry (e.Came k bytes)) (λ s owed. refl) (λ to. refl)
  came_owes k bytes closed = stays_owed (entry (e.Came k bytes)) (λ s owed. refl) (λ to. refl)

  ended_owes : (p : Part) → SaysNone p → LeavesTo p → (phase : Phase) → Owes (parts ++ p ∷ []) (ended_by phase a.link)
  ended_owes p none to fronting = quiet p (ended_by fronting a.link) none (λ s owed is. is) tt
  ended_owes p none to serving = all_end p cause.PeerGone (ended_by serving a.link) none (λ s. refl) tt
  ended_owes p none to unborn = stays_owed p none to
  ended_owes p none to arriving = stays_owed p none to
  ended_owes p none to (faulted code) = stays_owed p none to
  ended_owes p none to (closing why) = stays_owed p none to
  ended_owes p none to closed = stays_owed p none to

  broken_owes : (p : Part) → SaysNone p → LeavesTo p → (phase : Phase) → Owes (parts ++ p ∷ []) (broken_by phase a.link)
  broken_owes p none to fronting = quiet p (broken_by fronting a.link) none (λ s owed is. is) tt
  broken_owes p none to serving = all_end p cause.PeerGone (broken_by serving a.link) none (λ s. refl) tt
  broken_owes p none to (faulted code) = quiet p (broken_by (faulted code) a.link) none (λ s owed is. is) tt
  broken_owes p none to unborn = stays_owed p none to
  broken_owes p none to arriving = stays_owed p none to
  broken_owes p none to (closing why) = stays_owed p none to
  broken_owes p none to closed = stays_owed p none to

  entry_owes : (z : Entry) → MayCome l a.link z → Owes (parts ++ entry z ∷ []) (entered z a.link)
  entry_owes (e.Accepted k d) may =
      quiet (entry (e.Accepted k d)) (entered (e.Accepted k d) a.link) (λ s owed. refl) (λ s owed is. is) tt
  entry_owes (e.Came k bytes) may = came_owes k bytes a.link.phase
  entry_owes (e.Ended k) may = ended_owes (entry (e.Ended k)) (λ s owed. refl) (λ to. refl) a.link.phase
  entry_owes (e.Went k bytes) may =
      let p = entry (e.Went k bytes) in
      let y = entered (e.Went k bytes) a.link in
      quiet p y (λ s owed. refl) (λ s owed is. is) (went_to a.link.phase parts p a.link y (λ to. refl) refl owes.to)
  entry_owes (e.Broke k) may = broken_owes (entry (e.Broke k)) (λ s owed. refl) (λ to. refl) a.link.phase
  entry_owes (e.Closed k why) may =
      quiet (entry (e.Closed k why)) (entered (e.Closed k why) a.link) (λ s owed. refl) (λ s owed is. is) tt
  entry_owes (e.Balked w) may = stays_owed (entry (e.Balked w)) (λ s owed. refl) (λ to. refl)
  entry_owes (e.Dialled k to why) may = absurd may
  entry_owes (e.DialFailed to why) may = absurd may
  entry_owes (e.Opened k) may = absurd may
  entry_owes (e.Shut k) may = absurd may
  entry_owes e.Tick may = absurd may
  entry_owes (e.Wait ready how) may = absurd may

  -- ENTRIES OF UPSTREAMS

  abbrev UpOwes : ℕ → Entry → Type 0
  UpOwes k z = Owes (parts ++ up k z ∷ []) (at_stream k (up_entered z) a.link)

  up_here : (k : ℕ) (z : Entry) → OwesBy (up_entered z (a.link.tunnels k)).stage (due_entry (due_of k parts) z) → UpOwes k z
  up_here k z here =
      let y = at_stream k (up_entered z) a.link in
      record {
        each = one (up k z) k (up_entered z) (λ owed. due_entry owed z) (λ s owed. refl) here;
        to = same_to (up k z) y (λ to. refl) refl;
      }

  up_owes : (k : ℕ) (z : Entry) → UpMayCome l k a.link (a.link.tunnels k) z → UpOwes k z
  up_owes k (e.Dialled u to why) may = up_here k (e.Dialled u to why) (owed_at k due may.1)
  up_owes k (e.DialFailed to why) may =
      up_here k (e.DialFailed to why) (ends_owe cause.UpFault (a.link.tunnels k).stage (due_of k parts) (owes.each k))
  up_owes k (e.Opened u) may = up_here k (e.Opened u) refl
  up_owes k (e.Came u bytes) may = up_here k (e.Came u bytes) (owes.each k)
  up_owes k (e.Ended u) may = up_here k (e.Ended u) (owes.each k)
  up_owes k (e.Went u bytes) may = up_here k (e.Went u bytes) (owes.each k)
  up_owes k (e.Broke u) may = up_here k (e.Broke u) (ends_owe cause.UpFault (a.link.tunnels k).stage (due_of k parts) (owes.each k))
  up_owes k (e.Shut u) may = up_here k (e.Shut u) (owes.each k)
  up_owes k (e.Closed u why) may = up_here k (e.Closed u why) (owed_at k (over why) may.1)
  up_owes k (e.Balked w) may = up_here k (e.Balked w) (owes.each k)
  up_owes k (e.Accepted j d) may = absurd may
  up_owes k e.Tick may = absurd may
  up_owes k (e.Wait ready how) may = absurd may

  -- WHAT IS TOLD

  module _ (ps : List history.Point) (headers : HeaderList) (d : Connection) where
    one_told : (told : Found) (k : ℕ) (change : Tunnel → Tunnel) → SaysNone (looked ps told headers)
        → ((owed : Due) → OwesBy (a.link.tunnels k).stage owed → OwesBy (change (a.link.tunnels k)).stage owed)
        → Owes (parts ++ looked ps told headers ∷ []) (at_stream k change (record a.link { conn = d }))
    one_told told k change none stays =
        let p = looked ps told headers in
        let y = at_stream k change (record a.link { conn = d }) in
        record { each = one_quiet p k change none stays; to = same_to p y (λ to. refl) refl }

    found_owes : (told : Found) → Owes (parts ++ looked ps told headers ∷ []) (on_found told headers d a.link)
    found_owes found.Silent =
        let p = looked ps found.Silent headers in
        quiet p (record a.link { conn = d }) (λ s owed. refl) (λ s owed is. is) (same_to p (record a.link { conn = d }) (λ to. refl) refl)
    found_owes (found.Opened k end) =
        let told = found.Opened k end in
        let p = looked ps told headers in
        let y = on_found told headers d a.link in
        record {
          each = one p k (λ t. requested_with headers end) (λ owed. answer headers) (λ s owed. refl) refl;
          to = same_to p y (λ to. refl) refl;
        }
    found_owes (found.Chunk k end) = one_told (found.Chunk k end) k (came_up (chunk_of d (found.Chunk k end))) (λ s owed. refl)
        (λ owed is. is)
    found_owes (found.Ended k) = one_told (found.Ended k) k peer_ended (λ s owed. refl) (λ owed is. is)
    found_owes (found.Reset k code) =
        one_told (found.Reset k code) k (ends_for (cause.PeerReset code)) (λ s owed. refl)
        (ends_owe (cause.PeerReset code) (a.link.tunnels k).stage)
    found_owes (found.Broken k code) =
        one_told (found.Broken k code) k (ends_for (cause.StreamFault code)) (λ s owed. refl)
        (ends_owe (cause.StreamFault code) (a.link.tunnels k).stage)
    found_owes (found.GoneAway last) =
        let p = looked ps (found.GoneAway last) headers in
        quiet p (record a.link { conn = d }) (λ s owed. refl) (λ s owed is. is) (same_to p (record a.link { conn = d }) (λ to. refl) refl)
    found_owes (found.Fault code) =
        all_end (looked ps (found.Fault code) headers) (cause.ConnFault code) (on_found (found.Fault code) headers d a.link)
        (λ s owed. refl)
        (λ s. refl) tt

  -- ANSWERS

  decided_owes : (k : ℕ) (full : Bool) (given : Verdict) (headers : HeaderList) (end : Bool)
      → Owes (parts ++ decided k full given ∷ []) (at_stream k (λ t. tunnel_for given headers end) a.link)
  decided_owes k full given headers end =
      let p = decided k full given in
      let y = at_stream k (λ t. tunnel_for given headers end) a.link in
      record {
        each = one p k (λ t. tunnel_for given headers end) (λ owed. due_answer given) (λ s owed. refl) (here given end);
        to = same_to p y (λ to. refl) refl;
      }
    where
      here : (given : Verdict) (end : Bool) → OwesBy (tunnel_for given headers end).stage (due_answer given)
      here (Status status) end = refl
      here Reset end = refl
      here (Dial target) true = refl
      here (Dial target) false = refl

  -- a stream has got what it was to get
  got_owes : (p : Part) (k : ℕ) (next : Tunnel) (d : Connection) → ((s : ℕ) (owed : Due) → due_by s owed p ≡ cond (k == s) nothing owed)
      → LeavesTo p → OwesBy next.stage nothing → Owes (parts ++ p ∷ []) (with_tunnel k next d a.link)
  got_owes p k next d says to here = record {
    each = one p k (λ old. next) (λ owed. nothing) says here;
    to = same_to p (with_tunnel k next d a.link) to refl;
  }

  live_owes : (p : Part) (k : ℕ) (next : Tunnel) (d : Connection) → SaysNone p → LeavesTo p → next.stage ≡ (a.link.tunnels k).stage
      → Owes (parts ++ p ∷ []) (with_tunnel k next d a.link)
  live_owes p k next d none to stage = record {
    each = one_quiet p k (λ old. next) none (λ owed is. subst (λ (st : Stage). OwesBy st owed) (sym stage) is);
    to = same_to p (with_tunnel k next d a.link) to refl;
  }

  turn : (p : Part) (b : Local) (y : Inbound) → b ≡ with_link y a → Owes (parts ++ p ∷ []) y → Owes (parts ++ p ∷ []) b.link
  turn p b y is now = subst (λ (c : Local). Owes (parts ++ p ∷ []) c.link) (sym is) now

  step_owes : (p : Part) (b : Local) → Steps l a p b → Owes (parts ++ p ∷ []) b.link
  step_owes (entry z) b steps = turn (entry z) b (entered z a.link) steps.1 (entry_owes z steps.0)
  step_owes (up k z) b steps = turn (up k z) b (at_stream k (up_entered z) a.link) steps.1 (up_owes k z steps.0)
  step_owes welcomed b steps =
      turn welcomed b _ steps.1 (quiet welcomed (with_phase fronting a.link) (λ s owed. refl) (λ s owed is. is) tt)
  step_owes crowded b steps =
      turn crowded b _ steps.1 (quiet crowded (with_phase (closing cause.NoRoom) a.link) (λ s owed. refl) (λ s owed is. is) tt)
  step_owes lacked b steps =
      turn lacked b _ steps.1 (all_end lacked cause.NoMemory (lacking a.link) (λ s owed. refl) (λ s. refl) tt)
  step_owes (part.fronted seen) b steps =
      turn (part.fronted seen) b _ steps.4
      (quiet (part.fronted seen) (fronted_by seen steps.2 (drop seen.length a.link.front) a.link) (λ s owed. refl) (λ s owed is. is)
      (fold_one destination_by None parts (part.fronted seen)))
  step_owes (misfronted fault) b steps =
      turn (misfronted fault) b _ steps.2
      (quiet (misfronted fault) (with_phase (closing (cause.FrontFault (number_of fault))) a.link) (λ s owed. refl) (λ s owed is. is) tt)
  step_owes (looked ps told headers) b steps =
      turn (looked ps told headers) b (on_found told headers steps.2 a.link) steps.5 (found_owes ps headers steps.2 told)
  step_owes (decided k full given) b steps = turn (decided k full given) b _ steps.5 (decided_owes k full given steps.1 steps.2)
  step_owes (accepted k made) b steps =
      turn (accepted k made) b _ steps.3
      (got_owes (accepted k made) k (at_stage live (a.link.tunnels k)) _ (λ s owed. refl) (λ to. refl) refl)
  step_owes (refused k status resets made) b steps =
      turn (refused k status resets made) b _ steps.4
      (got_owes (refused k status resets made) k steps.1 _ (λ s owed. refl) (λ to. refl)
      (left_owes (a.link.tunnels k) steps.1 (refuses_left a.link l k status (a.link.tunnels k).stage made steps.1 steps.2)))
  step_owes (reset k code made) b steps =
      turn (reset k code made) b _ steps.3
      (got_owes (reset k code made) k steps.1 _ (λ s owed. refl) (λ to. refl)
      (left_owes (a.link.tunnels k) steps.1 (resets_left a.link l k code (a.link.tunnels k).stage made steps.1 steps.2)))
  step_owes (left k made) b steps =
      turn (left k made) b _ steps.2
      (got_owes (left k made) k steps.0 _ (λ s owed. refl) (λ to. refl)
      (left_owes (a.link.tunnels k) steps.0 (leaves_left a.link l k 0 (a.link.tunnels k).stage made steps.0 steps.1)))
  step_owes (done k made) b steps =
      let p = done k made in
      let t = a.link.tunnels k in
      let y = at_stream k (left_with cause.Done) a.link in
      turn p b y steps.3
      (record {
        each = one_quiet p k (left_with cause.Done) (λ s owed. refl)
            (λ owed is. left_so (λ (new : Tunnel). OwesBy new.stage owed) t (left_with cause.Done t)
            (subst (λ (st : Stage). OwesBy st owed) steps.0.2 is) (λ why. subst (λ (st : Stage). OwesBy st owed) steps.0.2 is)
            (inr (cause.Done, refl)));
        to = same_to p y (λ to. refl) refl;
      })
  step_owes (put k bytes) b steps =
      turn (put k bytes) b _ steps.3
      (live_owes (put k bytes) k (put_down a.link.conn k (a.link.tunnels k)) _ (λ s owed. refl) (λ to. refl) refl)
  step_owes (finished k) b steps =
      turn (finished k) b _ steps.2
      (live_owes (finished k) k (record (a.link.tunnels k) { end_put = true }) _ (λ s owed. refl) (λ to. refl) refl)
  step_owes (credited k n) b steps =
      turn (credited k n) b _ steps.3
      (live_owes (credited k n) k (record (a.link.tunnels k) { owed = 0 }) _ (λ s owed. refl) (λ to. refl) refl)
  step_owes (applied r) b steps =
      let p = applied r in
      let h = after_response a.held r in
      subst (λ (c : Local). Owes (parts ++ p ∷ []) c.link) (sym steps)
      (quiet p (rejudged h a.link) (λ s owed. refl)
      (λ s owed is. judged_owe (takes_place (a.link.tunnels s).stage) (judged h a.link.peer (a.link.tunnels s).target) (a.link.tunnels s)
      owed is)
      (same_to p (rejudged h a.link) (λ to. refl) refl))
  step_owes (stopped why) b steps =
      turn (stopped why) b (stopped_for why a.link) steps
      (all_end (stopped why) why (stopped_for why a.link) (λ s owed. refl) (λ s. refl)
      (stops_to why a.link.phase (parts ++ stopped why ∷ []) (stopped_for why a.link)))

-- so it is of every run
pub all_owe : (l : ℕ) (start : Resources) (a : Local) (parts : List Part) → StandsFor l start a parts → Owes parts a.link
all_owe l start a parts (begins is none) =
    subst (λ (ps : List Part). Owes ps a.link) (sym none)
    (subst (λ (c : Local). Owes [] c.link) (sym is) (record { each = λ s. refl; to = tt }))
all_owe l start b more (goes_on {a = a} {parts = parts} before p steps is) =
    subst (λ (ps : List Part). Owes ps b.link) (sym is) (step_owes l a parts (all_owe l start a parts before) p b steps)

-- WHERE ANSWERS ARE PUT

-- an answered tunnel is to get nothing
gets_nothing : (stage : Stage) (owed : Due) → is_unanswered stage ≡ false → OwesBy stage owed → owed ≡ nothing
gets_nothing unasked owed calm is = is
gets_nothing (requested headers end) owed calm is = absurd (false≢true (sym calm))
gets_nothing (refusing status target) owed calm is = absurd (false≢true (sym calm))
gets_nothing malformed owed calm is = absurd (false≢true (sym calm))
gets_nothing due owed calm is = is
gets_nothing opening owed calm is = is
gets_nothing accepting owed calm is = absurd (false≢true (sym calm))
gets_nothing live owed calm is = is
gets_nothing (failed why) owed calm is = absurd (false≢true (sym calm))
gets_nothing (ended why) owed calm is = absurd (false≢true (sym calm))
gets_nothing (over why) owed calm is = is
gets_nothing gone owed calm is = is

pub up_answered : (l s : ℕ) (x : Inbound) (t : Tunnel) (z : Entry) → UpMayCome l s x t z → IsAnswered x
up_answered l s x t (e.Dialled u to why) may = may.0.answered
up_answered l s x t (e.DialFailed to why) may = may.0.answered
up_answered l s x t (e.Opened u) may = may.0.calm.answered
up_answered l s x t (e.Came u bytes) may = may.0.0.calm.answered
up_answered l s x t (e.Ended u) may = may.0.0.calm.answered
up_answered l s x t (e.Went u bytes) may = may.0.0.calm.answered
up_answered l s x t (e.Broke u) (inl may) = may.0.calm.answered
up_answered l s x t (e.Broke u) (inr may) = may.0.calm.answered
up_answered l s x t (e.Shut u) may = may.0.answered
up_answered l s x t (e.Closed u why) may = may.0.answered
up_answered l s x t (e.Balked (way.Finish u)) may = may.0.calm.answered
up_answered l s x t (e.Balked (way.Read u)) may = may.0.0.calm.answered
up_answered l s x t (e.Balked (way.Write u)) may = may.0.0.calm.answered
up_answered l s x t (e.Balked w) may = absurd may
up_answered l s x t (e.Accepted j d) may = absurd may
up_answered l s x t e.Tick may = absurd may
up_answered l s x t (e.Wait ready how) may = absurd may

-- what is due is what its cause gives
due_given : (b : Bool) (o : Option ℕ) (n : ℕ) → cond b o None ≡ Some n → o ≡ Some n
due_given true o n is = is
due_given false o n is = absurd (cc)

module _ (l : ℕ) (start : Resources) (a : Local) (before : List Part) (stands : StandsFor l start a before) where
  got_all : IsAnswered a.link → AllGot before
  got_all answered s =
      gets_nothing (a.link.tunnels s).stage (due_of s before) (answered s) ((all_owe l start a before stands).each s)

  says : (s : ℕ) (stage : Stage) → (a.link.tunnels s).stage ≡ stage
      → SaysBy stage (life.life start s before) (life.up_of s before) (a.link.tunnels s)
  says s stage is = said_at new_streams l start a before stands s stage is

  owes_at : (s : ℕ) (stage : Stage) → (a.link.tunnels s).stage ≡ stage → OwesBy stage (due_of s before)
  owes_at s stage is = owed_at l a before (all_owe l start a before stands) s stage is

  status_by : (s n : ℕ) (why : Cause) → life.life start s before ≡ life.ended why → failure_status why ≡ Some n → IsStatus start before s n
  status_by s n cause.Revoked is gives = inr (inl (is, cc))
  status_by s n cause.UpFault is gives = inr (inr (is, cc))
  status_by s n cause.Done is gives = absurd (cc)
  status_by s n (cause.PeerReset code) is gives = absurd (cc)
  status_by s n cause.PeerGone is gives = absurd (cc)
  status_by s n (cause.UpRefused status) is gives = absurd (cc)
  status_by s n (cause.ConnFault code) is gives = absurd (cc)
  status_by s n (cause.StreamFault code) is gives = absurd (cc)
  status_by s n cause.GoneAway is gives = absurd (cc)
  status_by s n (cause.FrontFault number) is gives = absurd (cc)
  status_by s n (cause.Refused status) is gives = absurd (cc)
  status_by s n (cause.NoRoute number) is gives = absurd (cc)
  status_by s n cause.NoRoom is gives = absurd (cc)
  status_by s n cause.Discovery is gives = absurd (cc)
  status_by s n cause.Broken is gives = absurd (cc)
  status_by s n cause.Stopped is gives = absurd (cc)
  status_by s n cause.NoMemory is gives = absurd (cc)

  refuses_at : (s n : ℕ) (made : Note) (next : Tunnel) (stage : Stage) → (a.link.tunnels s).stage ≡ stage
      → Refuses l s a.link stage n made next → IsStatus start before s n
  refuses_at s n made next (refusing status target) is refuses =
      inl (subst (λ (m : ℕ). due_of s before ≡ refusal m) (sym refuses.0) (owes_at s (refusing status target) is))
  refuses_at s n made next (failed why) is refuses =
      status_by s n why (says s (failed why) is).life
      (due_given (is_serving a.link.phase && own_side_open a.link.conn s) (failure_status why) n refuses.1)
  refuses_at s n made next unasked is refuses = absurd refuses
  refuses_at s n made next (requested headers end) is refuses = absurd refuses
  refuses_at s n made next malformed is refuses = absurd refuses
  refuses_at s n made next due is refuses = absurd refuses
  refuses_at s n made next opening is refuses = absurd refuses
  refuses_at s n made next accepting is refuses = absurd refuses
  refuses_at s n made next live is refuses = absurd refuses
  refuses_at s n made next (ended why) is refuses = absurd refuses
  refuses_at s n made next (over why) is refuses = absurd refuses
  refuses_at s n made next gone is refuses = absurd refuses

  code_by : (s n : ℕ) (why : Cause) → life.life start s before ≡ life.ended why → end_code why ≡ Some n → IsReset start before s n
  code_by s n cause.Revoked is gives = inr (inl (is, cc))
  code_by s n cause.UpFault is gives = inr (inr (is, cc))
  code_by s n cause.Done is gives = absurd (cc)
  code_by s n (cause.PeerReset code) is gives = absurd (cc)
  code_by s n cause.PeerGone is gives = absurd (cc)
  code_by s n (cause.UpRefused status) is gives = absurd (cc)
  code_by s n (cause.ConnFault code) is gives = absurd (cc)
  code_by s n (cause.StreamFault code) is gives = absurd (cc)
  code_by s n cause.GoneAway is gives = absurd (cc)
  code_by s n (cause.FrontFault number) is gives = absurd (cc)
  code_by s n (cause.Refused status) is gives = absurd (cc)
  code_by s n (cause.NoRoute number) is gives = absurd (cc)
  code_by s n cause.NoRoom is gives = absurd (cc)
  code_by s n cause.Discovery is gives = absurd (cc)
  code_by s n cause.Broken is gives = absurd (cc)
  code_by s n cause.Stopped is gives = absurd (cc)
  code_by s n cause.NoMemory is gives = absurd (cc)

  resets_at : (s n : ℕ) (made : Note) (next : Tunnel) (stage : Stage) → (a.link.tunnels s).stage ≡ stage
      → Resets l s a.link stage n made next → IsReset start before s n
  resets_at s n made next malformed is resets = inl (owes_at s malformed is, resets.0)
  resets_at s n made next (ended why) is resets =
      code_by s n why (says s (ended why) is).life
      (due_given (is_serving a.link.phase && ((sides a.link.conn s).own || (sides a.link.conn s).peer)) (end_code why) n resets.1)
  resets_at s n made next unasked is resets = absurd resets
  resets_at s n made next (requested headers end) is resets = absurd resets
  resets_at s n made next (refusing status target) is resets = absurd resets
  resets_at s n made next due is resets = absurd resets
  resets_at s n made next opening is resets = absurd resets
  resets_at s n made next accepting is resets = absurd resets
  resets_at s n made next live is resets = absurd resets
  resets_at s n made next (failed why) is resets = absurd resets
  resets_at s n made next (over why) is resets = absurd resets
  resets_at s n made next gone is resets = absurd resets

  decided_at : (s : ℕ) (full : Bool) (given : Verdict) (b : Local) → Steps l a (decided s full given) b → IsAsked before s start full given
  decided_at s full given b steps =
      let admits = all_admit l start a before stands in
      let knows = subst (λ (ph : Phase). KnowsBy ph before a.link) steps.0 admits.knows in
      let to = subst (λ (ph : Phase). ToBy ph before a.link) steps.0 (all_owe l start a before stands).to in (
        steps.1,
        owes_at s (requested steps.1 steps.2) steps.3,
        record {
          peer = a.link.peer;
          destination = a.link.destination;
          peer_is = knows;
          destination_is = to;
          is = subst
              (λ (h : Resources). (given ≡ verdict (request_of steps.1 a.link.destination) h a.link.peer full)
              ⊎ ((target : Target) × (verdict (request_of steps.1 a.link.destination) h a.link.peer full ≡ Dial target)
              × (given ≡ Status 500)))
              (sym admits.holds) steps.4;
        },
      )

  pending_at : (s : ℕ) → (a.link.tunnels s).stage ≡ accepting → life.IsPending (life.life start s before)
  pending_at s is = subst life.IsPending (sym (says s accepting is).life) tt

next : (l : ℕ) (start : Resources) (a b : Local) (before : List Part) (p : Part) → StandsFor l start a before → Steps l a p b
    → VerdictAt start before p
next l start a b before (decided s full given) stands steps = decided_at l start a before stands s full given b steps
next l start a b before (accepted s note) stands steps =
    (pending_at l start a before stands s steps.1, owes_at l start a before stands s accepting steps.1)
next l start a b before (refused s status resets note) stands steps =
    refuses_at l start a before stands s status note steps.1 (a.link.tunnels s).stage refl steps.2
next l start a b before (reset s code note) stands steps =
    resets_at l start a before stands s code note steps.1 (a.link.tunnels s).stage refl steps.2
next l start a b before (looked ps told headers) stands steps = got_all l start a before stands steps.1
next l start a b before (up s z) stands steps =
    got_all l start a before stands (up_answered l s a.link (a.link.tunnels s) z steps.0)
next l start a b before (entry z) stands steps = tt
next l start a b before welcomed stands steps = tt
next l start a b before crowded stands steps = tt
next l start a b before lacked stands steps = tt
next l start a b before (part.fronted seen) stands steps = tt
next l start a b before (misfronted fault) stands steps = tt
next l start a b before (left s made) stands steps = tt
next l start a b before (done s made) stands steps = tt
next l start a b before (put s bytes) stands steps = tt
next l start a b before (finished s) stands steps = tt
next l start a b before (credited s n) stands steps = tt
next l start a b before (applied r) stands steps = tt
next l start a b before (stopped why) stands steps = tt

pub answers : RunsAnswer
answers l start a parts stands = at_parts l start (VerdictAt start) (next l start) a parts stands
