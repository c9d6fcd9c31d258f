-- What is still to be noted of a stream, by how far its tunnel is.
use Rattle.std.proofs.Common.{◌≡◌, inl, inr, ℕ, ◌==◌, ◌||◌, not, Bool, true, false, cond, List, [], ◌∷◌, ◌++◌, Option, Some, None, Result, Ok, Err, refl, ap, sym, ◌∙◌, subst}
use Rattle.std.specs.Prelude.{nat_lt, codes}
use Rattle.std.proofs.lemmas.Bool.{eq-eqb}
use Rattle.hb_base.specs.TargetText.{target_of}
use Rattle.hb_base.specs.declared.cause.Cause.{Cause}
use Rattle.hb_base.specs.declared.cause.Cause.TheVariants as cause
use Rattle.hb_base.specs.declared.ip.Ip.{Ip}
use Rattle.hb_base.specs.declared.peer.Peer.{Peer}
use Rattle.hb_base.specs.declared.target.BadTarget.{BadTarget}
use Rattle.hb_base.specs.declared.target.Target.{Target}
use Rattle.hb_conn.specs.Connection.{Connection}
use Rattle.hb_conn.specs.Observed.{chunk_of}
use Rattle.hb_conn.specs.declared.found.Found.{Found}
use Rattle.hb_conn.specs.declared.found.Found.TheVariants as found
use Rattle.hb_held.specs.Held.{Resources}
use Rattle.hb_held.specs.Lookup.{ip_eq}
use Rattle.hb_held.specs.Outcome.{after_response}
use Rattle.hb_history.specs.Points as history
use Rattle.hb_hpack.specs.declared.header.HeaderList.{HeaderList}
use Rattle.hb_table.specs.Judgement.{judged}
use Rattle.hb_table.specs.declared.judgement.Judged.{Judged}
use Rattle.hb_table.specs.declared.judgement.Judged.TheVariants.{Admitted, Unknown, Denied}
use Rattle.hb_verdict.specs.Fields.{value_of, is_connect, is_malformed}
use Rattle.hb_verdict.specs.Request.{request_of, connect_at, connect_by}
use Rattle.hb_verdict.specs.Verdict.{verdict, synced, leads_back, dial_judged}
use Rattle.hb_verdict.specs.declared.request.Request.TheVariants.{Refused, Malformed, Connect}
use Rattle.hb_verdict.specs.declared.verdict.Verdict.{Verdict}
use Rattle.hb_verdict.specs.declared.verdict.Verdict.TheVariants.{Status, Reset, Dial}
use Rattle.hb_world.specs.declared.entry.Entry.{Entry}
use Rattle.hb_world.specs.declared.entry.Entry.TheVariants as e
use Rattle.hb_inbound.specs.Inbound.{Phase, unborn, arriving, fronting, serving, faulted, closing, closed, at_stream, came_by, ended_by, broken_by, on_found, judged_by, rejudged}
use Rattle.hb_inbound.specs.Notes.{Noting, no_note, answer, end_of_it, noting_by, noting_of}
use Rattle.hb_inbound.specs.Part.{Part, entry, up, welcomed, crowded, lacked, fronted, misfronted, looked, decided, accepted, refused, reset, left, done, put, finished, credited, applied, stopped}
use Rattle.hb_inbound.specs.Runs.{Local, MayCome, UpMayCome, entered, Steps, StandsFor, begins, goes_on, IsAnswerTo, target_named, target_in, target_or_none, tunnel_for, put_down}
use Rattle.hb_inbound.specs.Tunnel.{Tunnel, Stage, unasked, requested, refusing, malformed, due, opening, accepting, live, failed, ended, over, gone, takes_place, at_stage, ends_by, ends_for, left_with, up_entered, came_up, peer_ended, requested_with}
use Rattle.hb_inbound.proofs.Admitted.{at_one, swapped}
use Rattle.hb_inbound.proofs.Grown.{fold_one}
use Rattle.hb_inbound.proofs.Left.{IsLeft, left_so, refuses_left, resets_left, leaves_left}

-- THE TARGET THAT A REQUEST NAMES

dial_is : (out own full : Bool) (j : Judged) (to target : Target) → cond out (Status 503) (dial_judged j own full to) ≡ Dial target
    → to ≡ target
dial_is true own full j to target is = absurd (cc)
dial_is false own full Unknown to target is = absurd (cc)
dial_is false own full Denied to target is = absurd (cc)
dial_is false true full Admitted to target is = absurd (cc)
dial_is false false true Admitted to target is = absurd (cc)
dial_is false false false Admitted to target is = cc

no_reset : (out own full : Bool) (j : Judged) (to : Target) → cond out (Status 503) (dial_judged j own full to) ≡ Reset → ⊥
no_reset true own full j to is = cc
no_reset false own full Unknown to is = cc
no_reset false own full Denied to is = cc
no_reset false true full Admitted to is = cc
no_reset false false true Admitted to is = cc
no_reset false false false Admitted to is = cc

module _ (h : Resources) (peer : Peer) (full : Bool) (destination : Ip) where
  names_at : (r : Result Target BadTarget) (target : Target) → verdict (connect_at destination r) h peer full ≡ Dial target
      → target_or_none r ≡ Some target
  names_at (Err why) target is = absurd (cc)
  names_at (Ok to) target is = by (ip_eq to.ip destination) is
    where
      by : (b : Bool) → verdict (cond b (Connect to) (Refused 400)) h peer full ≡ Dial target → Some to ≡ Some target
      by true is = ap Some (dial_is (not (synced h)) (leads_back h.doors to) full (judged h peer to) to target is)
      by false is = absurd (cc)

  names_by : (o : Option (List ℕ)) (target : Target) → verdict (connect_by destination o) h peer full ≡ Dial target
      → target_in o ≡ Some target
  names_by None target is = absurd (cc)
  names_by (Some authority) target is = names_at (target_of authority) target is

  never_at : (r : Result Target BadTarget) → verdict (connect_at destination r) h peer full ≡ Reset → ⊥
  never_at (Err why) is = cc
  never_at (Ok to) is = by (ip_eq to.ip destination) is
    where
      by : (b : Bool) → verdict (cond b (Connect to) (Refused 400)) h peer full ≡ Reset → ⊥
      by true is = no_reset (not (synced h)) (leads_back h.doors to) full (judged h peer to) to is
      by false is = cc

  never_by : (o : Option (List ℕ)) → verdict (connect_by destination o) h peer full ≡ Reset → ⊥
  never_by None is = cc
  never_by (Some authority) is = never_at (target_of authority) is

  -- a dialled target was named
  named : (headers : HeaderList) (target : Target) → verdict (request_of headers destination) h peer full ≡ Dial target
      → target_named headers ≡ Some target
  named headers target is =
      by (nat_lt 16384 headers.size) (is_malformed headers.kept) (is_connect headers.kept) (value_of (codes ":authority") headers.kept) is
    where
      by : (long bad connects : Bool) (o : Option (List ℕ))
          → verdict (cond long (Refused 431) (cond bad Malformed (cond (not connects) (Refused 405) (connect_by destination o))))
          h peer full ≡ Dial target
          → cond (long || bad) None (cond connects (target_in o) None) ≡ Some target
      by true bad connects o is = absurd (cc)
      by false true connects o is = absurd (cc)
      by false false false o is = absurd (cc)
      by false false true o is = names_by o target is

  -- what is no request names none
  unnamed : (headers : HeaderList) → verdict (request_of headers destination) h peer full ≡ Reset → target_named headers ≡ None
  unnamed headers is =
      by (nat_lt 16384 headers.size) (is_malformed headers.kept) (is_connect headers.kept) (value_of (codes ":authority") headers.kept) is
    where
      by : (long bad connects : Bool) (o : Option (List ℕ))
          → verdict (cond long (Refused 431) (cond bad Malformed (cond (not connects) (Refused 405) (connect_by destination o))))
          h peer full ≡ Reset
          → cond (long || bad) None (cond connects (target_in o) None) ≡ None
      by true bad connects o is = refl
      by false true connects o is = refl
      by false false false o is = refl
      by false false true o is = absurd (never_by o is)

-- WHAT IS TO BE NOTED

abbrev pub NotesBy : Stage → Noting → Target → Type 0
NotesBy unasked noting target = noting ≡ no_note
NotesBy (requested headers end) noting target = noting ≡ answer (target_named headers)
NotesBy (refusing status to) noting target = noting ≡ answer to
NotesBy malformed noting target = noting ≡ answer None
NotesBy due noting target = noting ≡ answer (Some target)
NotesBy opening noting target = noting ≡ answer (Some target)
NotesBy accepting noting target = noting ≡ answer (Some target)
NotesBy live noting target = noting ≡ end_of_it
NotesBy (failed why) noting target = noting ≡ answer (Some target)
NotesBy (ended why) noting target = noting ≡ end_of_it
NotesBy (over why) noting target = noting ≡ no_note
NotesBy gone noting target = noting ≡ no_note

abbrev pub Noted : Noting → Tunnel → Type 0
Noted noting t = NotesBy t.stage noting t.target

abbrev pub AreNotedSo : List Part → (ℕ → Tunnel) → Type 0
AreNotedSo parts tunnels = (s : ℕ) → Noted (noting_of s parts) (tunnels s)

ends_note : (why : Cause) (t : Tunnel) (noting : Noting) → Noted noting t → Noted noting (ends_for why t)
ends_note why t noting = by t.stage
  where
    by : (stage : Stage) → NotesBy stage noting t.target → NotesBy (ends_by why stage) noting t.target
    by unasked is = is
    by (requested headers end) is = is
    by (refusing status to) is = is
    by malformed is = is
    by due is = is
    by opening is = is
    by accepting is = is
    by live is = is
    by (failed cause) is = is
    by (ended cause) is = is
    by (over cause) is = is
    by gone is = is

judged_note : (b : Bool) (j : Judged) (t : Tunnel) (noting : Noting) → Noted noting t → Noted noting (cond b (judged_by j t) t)
judged_note false j t noting is = is
judged_note true Admitted t noting is = is
judged_note true Unknown t noting is = ends_note cause.Revoked t noting is
judged_note true Denied t noting is = ends_note cause.Revoked t noting is

left_note : (old new : Tunnel) → IsLeft old new → Noted no_note new
left_note old new is = left_so (Noted no_note) old new refl (λ why. refl) is

module _ (l : ℕ) (a : Local) (parts : List Part) (noted : AreNotedSo parts a.link.tunnels) where
  abbrev Now : Part → (ℕ → Tunnel) → Type 0
  Now p tunnels = AreNotedSo (parts ++ p ∷ []) tunnels

  noting_one : (s : ℕ) (p : Part) → noting_of s (parts ++ p ∷ []) ≡ noting_by s (noting_of s parts) p
  noting_one s p = fold_one (noting_by s) no_note parts p

  noted_as : (s : ℕ) (stage : Stage) → (a.link.tunnels s).stage ≡ stage → NotesBy stage (noting_of s parts) (a.link.tunnels s).target
  noted_as s stage is = subst (λ (st : Stage). NotesBy st (noting_of s parts) (a.link.tunnels s).target) is (noted s)

  -- a part by which nothing is noted, and no request comes
  abbrev SaysNone : Part → Type 0
  SaysNone p = (s : ℕ) (noting : Noting) → noting_by s noting p ≡ noting

  quiet : (p : Part) (tunnels : ℕ → Tunnel) → SaysNone p
      → ((s : ℕ) (noting : Noting) → Noted noting (a.link.tunnels s) → Noted noting (tunnels s)) → Now p tunnels
  quiet p tunnels none stays s =
      subst (λ (n : Noting). Noted n (tunnels s)) (sym (noting_one s p ∙ none s (noting_of s parts)))
      (stays s (noting_of s parts) (noted s))

  stays : (p : Part) → SaysNone p → Now p a.link.tunnels
  stays p none = quiet p a.link.tunnels none (λ s noting is. is)

  all_end : (p : Part) (why : Cause) → SaysNone p → Now p (λ s. ends_for why (a.link.tunnels s))
  all_end p why none = quiet p (λ s. ends_for why (a.link.tunnels s)) none (λ s noting is. ends_note why (a.link.tunnels s) noting is)

  -- one tunnel changes
  one : (p : Part) (k : ℕ) (change : Tunnel → Tunnel) (gets : Noting → Noting)
      → ((s : ℕ) (noting : Noting) → noting_by s noting p ≡ cond (k == s) (gets noting) noting)
      → Noted (gets (noting_of k parts)) (change (a.link.tunnels k)) → Now p (at_stream k change a.link).tunnels
  one p k change gets says here =
      at_one k change a.link (λ s t. Noted (noting_of s (parts ++ p ∷ [])) t)
      (subst (λ (n : Noting). Noted n (change (a.link.tunnels k)))
      (sym (noting_one k p ∙ says k (noting_of k parts)
      ∙ ap (λ (b : Bool). cond b (gets (noting_of k parts)) (noting_of k parts)) (eq-eqb k k refl))) here)
      (λ s apart. subst (λ (n : Noting). Noted n (a.link.tunnels s))
      (sym (noting_one s p ∙ says s (noting_of s parts)
      ∙ ap (λ (b : Bool). cond b (gets (noting_of s parts)) (noting_of s parts)) (swapped s k apart))) (noted s))

  one_quiet : (p : Part) (k : ℕ) (change : Tunnel → Tunnel) → SaysNone p
      → ((noting : Noting) → Noted noting (a.link.tunnels k) → Noted noting (change (a.link.tunnels k)))
      → Now p (at_stream k change a.link).tunnels
  one_quiet p k change none here =
      at_one k change a.link (λ s t. Noted (noting_of s (parts ++ p ∷ [])) t)
      (subst (λ (n : Noting). Noted n (change (a.link.tunnels k))) (sym (noting_one k p ∙ none k (noting_of k parts)))
      (here (noting_of k parts) (noted k)))
      (λ s apart. subst (λ (n : Noting). Noted n (a.link.tunnels s)) (sym (noting_one s p ∙ none s (noting_of s parts))) (noted s))

  -- ENTRIES

  came_notes : (p : Part) → SaysNone p → (bytes : List ℕ) (phase : Phase) → Now p (came_by phase bytes a.link).tunnels
  came_notes p none bytes unborn = stays p none
  came_notes p none bytes arriving = stays p none
  came_notes p none bytes fronting = stays p none
  came_notes p none bytes serving = stays p none
  came_notes p none bytes (faulted code) = stays p none
  came_notes p none bytes (closing why) = stays p none
  came_notes p none bytes closed = stays p none

  ended_notes : (p : Part) → SaysNone p → (phase : Phase) → Now p (ended_by phase a.link).tunnels
  ended_notes p none serving = all_end p cause.PeerGone none
  ended_notes p none unborn = stays p none
  ended_notes p none arriving = stays p none
  ended_notes p none fronting = stays p none
  ended_notes p none (faulted code) = stays p none
  ended_notes p none (closing why) = stays p none
  ended_notes p none closed = stays p none

  broken_notes : (p : Part) → SaysNone p → (phase : Phase) → Now p (broken_by phase a.link).tunnels
  broken_notes p none serving = all_end p cause.PeerGone none
  broken_notes p none unborn = stays p none
  broken_notes p none arriving = stays p none
  broken_notes p none fronting = stays p none
  broken_notes p none (faulted code) = stays p none
  broken_notes p none (closing why) = stays p none
  broken_notes p none closed = stays p none

  entry_notes : (z : Entry) → MayCome l a.link z → Now (entry z) (entered z a.link).tunnels
  entry_notes (e.Came k bytes) may = came_notes (entry (e.Came k bytes)) (λ s noting. refl) bytes a.link.phase
  entry_notes (e.Ended k) may = ended_notes (entry (e.Ended k)) (λ s noting. refl) a.link.phase
  entry_notes (e.Broke k) may = broken_notes (entry (e.Broke k)) (λ s noting. refl) a.link.phase
  entry_notes (e.Went k bytes) may =
      quiet (entry (e.Went k bytes)) (entered (e.Went k bytes) a.link).tunnels (λ s noting. refl) (λ s noting is. is)
  entry_notes (e.Accepted k d) may = stays (entry (e.Accepted k d)) (λ s noting. refl)
  entry_notes (e.Closed k why) may = stays (entry (e.Closed k why)) (λ s noting. refl)
  entry_notes (e.Balked w) may = stays (entry (e.Balked w)) (λ s noting. refl)
  entry_notes (e.Dialled k to why) may = absurd may
  entry_notes (e.DialFailed to why) may = absurd may
  entry_notes (e.Opened k) may = absurd may
  entry_notes (e.Shut k) may = absurd may
  entry_notes e.Tick may = absurd may
  entry_notes (e.Wait ready how) may = absurd may

  up_here : (k : ℕ) (z : Entry) → Noted (noting_of k parts) (up_entered z (a.link.tunnels k))
      → Now (up k z) (at_stream k (up_entered z) a.link).tunnels
  up_here k z here =
      at_one k (up_entered z) a.link (λ s t. Noted (noting_of s (parts ++ up k z ∷ [])) t)
      (subst (λ (n : Noting). Noted n (up_entered z (a.link.tunnels k))) (sym (noting_one k (up k z))) here)
      (λ s apart. subst (λ (n : Noting). Noted n (a.link.tunnels s)) (sym (noting_one s (up k z))) (noted s))

  up_notes : (k : ℕ) (z : Entry) → UpMayCome l k a.link (a.link.tunnels k) z → Now (up k z) (at_stream k (up_entered z) a.link).tunnels
  up_notes k (e.Dialled u to why) may = up_here k (e.Dialled u to why) (noted_as k due may.1)
  up_notes k (e.DialFailed to why) may =
      up_here k (e.DialFailed to why) (ends_note cause.UpFault (a.link.tunnels k) (noting_of k parts) (noted k))
  up_notes k (e.Opened u) may = up_here k (e.Opened u) (noted_as k opening may.1)
  up_notes k (e.Came u bytes) may = up_here k (e.Came u bytes) (noted k)
  up_notes k (e.Ended u) may = up_here k (e.Ended u) (noted k)
  up_notes k (e.Went u bytes) may = up_here k (e.Went u bytes) (noted k)
  up_notes k (e.Broke u) may = up_here k (e.Broke u) (ends_note cause.UpFault (a.link.tunnels k) (noting_of k parts) (noted k))
  up_notes k (e.Shut u) may = up_here k (e.Shut u) (noted k)
  up_notes k (e.Closed u why) may = up_here k (e.Closed u why) (noted_as k (over why) may.1)
  up_notes k (e.Balked w) may = up_here k (e.Balked w) (noted k)
  up_notes k (e.Accepted j d) may = absurd may
  up_notes k e.Tick may = absurd may
  up_notes k (e.Wait ready how) may = absurd may

  -- WHAT IS TOLD, AND ANSWERS

  found_notes : (ps : List history.Point) (headers : HeaderList) (d : Connection) (told : Found)
      → Now (looked ps told headers) (on_found told headers d a.link).tunnels
  found_notes ps headers d found.Silent = stays (looked ps found.Silent headers) (λ s noting. refl)
  found_notes ps headers d (found.Opened k end) =
      one (looked ps (found.Opened k end) headers) k (λ t. requested_with headers end) (λ noting. answer (target_named headers))
      (λ s noting. refl) refl
  found_notes ps headers d (found.Chunk k end) =
      one_quiet (looked ps (found.Chunk k end) headers) k (came_up (chunk_of d (found.Chunk k end))) (λ s noting. refl) (λ noting is. is)
  found_notes ps headers d (found.Ended k) =
      one_quiet (looked ps (found.Ended k) headers) k peer_ended (λ s noting. refl) (λ noting is. is)
  found_notes ps headers d (found.Reset k code) =
      one_quiet (looked ps (found.Reset k code) headers) k (ends_for (cause.PeerReset code)) (λ s noting. refl)
      (λ noting is. ends_note (cause.PeerReset code) (a.link.tunnels k) noting is)
  found_notes ps headers d (found.Broken k code) =
      one_quiet (looked ps (found.Broken k code) headers) k (ends_for (cause.StreamFault code)) (λ s noting. refl)
      (λ noting is. ends_note (cause.StreamFault code) (a.link.tunnels k) noting is)
  found_notes ps headers d (found.GoneAway last) = stays (looked ps (found.GoneAway last) headers) (λ s noting. refl)
  found_notes ps headers d (found.Fault code) = all_end (looked ps (found.Fault code) headers) (cause.ConnFault code) (λ s noting. refl)

  decided_notes : (k : ℕ) (full : Bool) (given : Verdict) (headers : HeaderList) (end : Bool)
      → (a.link.tunnels k).stage ≡ requested headers end → IsAnswerTo a headers full given
      → Now (decided k full given) (at_stream k (λ t. tunnel_for given headers end) a.link).tunnels
  decided_notes k full given headers end is to =
      one (decided k full given) k (λ t. tunnel_for given headers end) (λ noting. noting) (λ s noting. same s noting) (here given end to)
    where
      same : (s : ℕ) (noting : Noting) → noting ≡ cond (k == s) noting noting
      same s noting = by (k == s)
        where
          by : (b : Bool) → noting ≡ cond b noting noting
          by true = refl
          by false = refl

      asked : noting_of k parts ≡ answer (target_named headers)
      asked = noted_as k (requested headers end) is

      here : (given : Verdict) (end : Bool) → IsAnswerTo a headers full given → Noted (noting_of k parts) (tunnel_for given headers end)
      here (Status status) end to = asked
      here Reset end (inl to) = asked ∙ ap answer (unnamed a.held a.link.peer full a.link.destination headers (sym to))
      here Reset end (inr (target, dials, to)) = absurd (cc)
      here (Dial target) true (inl to) = asked ∙ ap answer (named a.held a.link.peer full a.link.destination headers target (sym to))
      here (Dial target) false (inl to) = asked ∙ ap answer (named a.held a.link.peer full a.link.destination headers target (sym to))
      here (Dial target) true (inr (other, dials, to)) = absurd (cc)
      here (Dial target) false (inr (other, dials, to)) = absurd (cc)

  -- with an answer, or at an end, the note is made
  made_notes : (p : Part) (k : ℕ) (next : Tunnel) → ((s : ℕ) (noting : Noting) → noting_by s noting p ≡ cond (k == s) no_note noting)
      → Noted no_note next → Now p (at_stream k (λ old. next) a.link).tunnels
  made_notes p k next says here = one p k (λ old. next) (λ noting. no_note) says here

  turn : (p : Part) (b c : Local) → b ≡ c → Now p c.link.tunnels → Now p b.link.tunnels
  turn p b c is = subst (λ (x : Local). Now p x.link.tunnels) (sym is)

  step_notes : (p : Part) (b : Local) → Steps l a p b → Now p b.link.tunnels
  step_notes (entry z) b steps = turn (entry z) b _ steps.1 (entry_notes z steps.0)
  step_notes (up k z) b steps = turn (up k z) b _ steps.1 (up_notes k z steps.0)
  step_notes welcomed b steps = turn welcomed b _ steps.1 (stays welcomed (λ s noting. refl))
  step_notes crowded b steps = turn crowded b _ steps.1 (stays crowded (λ s noting. refl))
  step_notes lacked b steps = turn lacked b _ steps.1 (all_end lacked cause.NoMemory (λ s noting. refl))
  step_notes (fronted seen) b steps = turn (fronted seen) b _ steps.4 (stays (fronted seen) (λ s noting. refl))
  step_notes (misfronted fault) b steps = turn (misfronted fault) b _ steps.2 (stays (misfronted fault) (λ s noting. refl))
  step_notes (looked ps told headers) b steps = turn (looked ps told headers) b _ steps.5 (found_notes ps headers steps.2 told)
  step_notes (decided k full given) b steps =
      turn (decided k full given) b _ steps.5 (decided_notes k full given steps.1 steps.2 steps.3 steps.4)
  step_notes (accepted k made) b steps =
      turn (accepted k made) b _ steps.3
      (one (accepted k made) k (λ old. at_stage live (a.link.tunnels k)) (λ noting. end_of_it) (λ s noting. refl) refl)
  step_notes (refused k status resets made) b steps =
      turn (refused k status resets made) b _ steps.4
      (made_notes (refused k status resets made) k steps.1 (λ s noting. refl)
      (left_note (a.link.tunnels k) steps.1 (refuses_left a.link l k status (a.link.tunnels k).stage made steps.1 steps.2)))
  step_notes (reset k code made) b steps =
      turn (reset k code made) b _ steps.3
      (made_notes (reset k code made) k steps.1 (λ s noting. refl)
      (left_note (a.link.tunnels k) steps.1 (resets_left a.link l k code (a.link.tunnels k).stage made steps.1 steps.2)))
  step_notes (left k made) b steps =
      turn (left k made) b _ steps.2
      (made_notes (left k made) k steps.0 (λ s noting. refl)
      (left_note (a.link.tunnels k) steps.0 (leaves_left a.link l k 0 (a.link.tunnels k).stage made steps.0 steps.1)))
  step_notes (done k made) b steps =
      turn (done k made) b _ steps.3
      (one (done k made) k (left_with cause.Done) (λ noting. no_note) (λ s noting. refl)
      (left_note (a.link.tunnels k) (left_with cause.Done (a.link.tunnels k)) (inr (cause.Done, refl))))
  step_notes (put k bytes) b steps =
      turn (put k bytes) b _ steps.3
      (one_quiet (put k bytes) k (λ old. put_down a.link.conn k (a.link.tunnels k)) (λ s noting. refl) (λ noting is. is))
  step_notes (finished k) b steps =
      turn (finished k) b _ steps.2
      (one_quiet (finished k) k (λ old. record (a.link.tunnels k) { end_put = true }) (λ s noting. refl) (λ noting is. is))
  step_notes (credited k n) b steps =
      turn (credited k n) b _ steps.3
      (one_quiet (credited k n) k (λ old. record (a.link.tunnels k) { owed = 0 }) (λ s noting. refl) (λ noting is. is))
  step_notes (applied r) b steps =
      let h = after_response a.held r in
      turn (applied r) b (record { held = h; link = rejudged h a.link }) steps
      (quiet (applied r) (rejudged h a.link).tunnels (λ s noting. refl)
      (λ s noting is. judged_note (takes_place (a.link.tunnels s).stage) (judged h a.link.peer (a.link.tunnels s).target)
      (a.link.tunnels s) noting is))
  step_notes (stopped why) b steps = turn (stopped why) b _ steps (all_end (stopped why) why (λ s noting. refl))

-- so it is of every run
pub all_noted : (l : ℕ) (start : Resources) (a : Local) (parts : List Part) → StandsFor l start a parts → AreNotedSo parts a.link.tunnels
all_noted l start a parts (begins is none) =
    subst (λ (ps : List Part). AreNotedSo ps a.link.tunnels) (sym none)
    (subst (λ (c : Local). AreNotedSo [] c.link.tunnels) (sym is) (λ s. refl))
all_noted l start b more (goes_on {a = a} {parts = parts} before p steps is) =
    subst (λ (ps : List Part). AreNotedSo ps b.link.tunnels) (sym is) (step_notes l a parts (all_noted l start a parts before) p b steps)
