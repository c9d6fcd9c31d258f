-- How far each tunnel is, part by part.
use Rattle.std.proofs.Common.{◌≡◌, inl, inr, ℕ, ◌==◌, ◌||◌, Bool, true, false, cond, length, List, [], ◌∷◌, ◌++◌, Option, Some, None, refl, ap, sym, ◌∙◌, subst}
use Rattle.std.specs.List.{list_any}
use Rattle.std.proofs.lemmas.Bool.{false≢true}
use Rattle.std.proofs.lemmas.List.Folds.{list_any-append}
use Rattle.hb_base.specs.declared.cause.Cause.{Cause}
use Rattle.hb_base.specs.declared.cause.Cause.TheVariants as cause
use Rattle.hb_base.specs.declared.note.Note.{Note}
use Rattle.hb_base.specs.declared.target.Target.{Target}
use Rattle.hb_conn.specs.Connection.{Connection, Finds}
use Rattle.hb_conn.specs.Observed.{chunk_of}
use Rattle.hb_conn.specs.declared.found.Found.{Found}
use Rattle.hb_conn.specs.declared.found.Found.TheVariants as found
use Rattle.hb_held.specs.Held.{Resources}
use Rattle.hb_held.specs.Outcome.{after_response}
use Rattle.hb_history.specs.Points as history
use Rattle.hb_hpack.specs.declared.header.HeaderList.{HeaderList}
use Rattle.hb_table.specs.Judgement.{judged}
use Rattle.hb_verdict.specs.declared.verdict.Verdict.{Verdict}
use Rattle.hb_verdict.specs.declared.verdict.Verdict.TheVariants.{Status, Reset, Dial}
use Rattle.hb_world.specs.declared.entry.Entry.{Entry}
use Rattle.hb_world.specs.declared.entry.Entry.TheVariants as e
use Rattle.hb_inbound.specs.Calm.{close_due}
use Rattle.hb_inbound.specs.Ends.{Life, pending, lives, life, life_by, ends, ends_at, ends_up, begins, accepts, up_of, up_by, up_in, is_fault}
use Rattle.hb_inbound.specs.Inbound.{Inbound, Phase, unborn, arriving, fronting, serving, faulted, closing, closed, with_phase, at_stream, came, came_by, went, went_by, ended_by, broken_by, told_of, on_found, judged_by, rejudged, lacking, stops_by, stopped_for}
use Rattle.hb_inbound.specs.Part.{Part, entry, up, welcomed, crowded, lacked, misfronted, looked, decided, accepted, refused, reset, left, done, put, finished, credited, applied, stopped}
use Rattle.hb_inbound.specs.Part as part
use Rattle.hb_inbound.specs.Runs.{Local, MayCome, UpMayCome, entered, Steps, with_link, with_tunnel, tunnel_for, Refuses, Resets, Leaves}
use Rattle.hb_inbound.specs.Sides.{held, held_by, peer_of, Was}
use Rattle.hb_inbound.specs.Tunnel.{Tunnel, Stage, unasked, requested, refusing, malformed, due, opening, accepting, live, failed, ended, over, gone, at_stage, asked, ends_by, ends_for, left_with, takes_place, up_entered, came_up, peer_ended, requested_with}
use Rattle.hb_inbound.proofs.Admitted.{Admits, AreUnasked, KnowsBy, at_one, none_in}
use Rattle.hb_inbound.proofs.Left.{left_placeless, refuses_left, resets_left, leaves_left}
use Rattle.hb_inbound.proofs.Life.{life_one, up_one, SaysBy, SaysOf, ends_say, left_say, say_at, say_on, judged_say}

-- a tunnel whose stage, upstream and target stay says the same
same_say : (how : Life) (u : ℕ) (t new : Tunnel) → new.stage ≡ t.stage → new.up ≡ t.up → new.target ≡ t.target → SaysOf how u t
    → SaysOf how u new
same_say how u t new stage number target says =
    subst (λ (st : Stage). SaysBy st how u new) (sym stage) (by t.stage says)
  where
    by : (st : Stage) → SaysBy st how u t → SaysBy st how u new
    by unasked is = record { life = is.life; up = is.up }
    by (requested headers end) is = record { life = is.life; up = is.up }
    by (refusing status to) is = record { life = is.life; up = is.up }
    by malformed is = record { life = is.life; up = is.up }
    by due is = (record { life = is.0.life ∙ ap pending (sym target); up = is.0.up }, number ∙ is.1)
    by opening is = record { life = is.life ∙ ap pending (sym target); up = is.up ∙ sym number }
    by accepting is = record { life = is.life ∙ ap pending (sym target); up = is.up ∙ sym number }
    by live is = record { life = is.life ∙ ap lives (sym target); up = is.up ∙ sym number }
    by (failed why) is = record { life = is.life; up = is.up ∙ sym number }
    by (ended why) is = record { life = is.life; up = is.up ∙ sym number }
    by (over why) is = record { life = is.life; up = is.up ∙ sym number }
    by gone is = is

-- a tunnel without a place has ended, or never was: an end says nothing of it
placeless_say : (why : Cause) (how : Life) (u : ℕ) (t : Tunnel) → takes_place t.stage ≡ false → SaysOf how u t → SaysOf (ends why how) u t
placeless_say why how u t placeless says = by t.stage placeless says
  where
    by : (st : Stage) → takes_place st ≡ false → SaysBy st how u t → SaysBy st (ends why how) u t
    by unasked p is = record { life = ap (ends why) is.life; up = is.up }
    by (requested headers end) p is = record { life = ap (ends why) is.life; up = is.up }
    by (refusing status to) p is = record { life = ap (ends why) is.life; up = is.up }
    by malformed p is = record { life = ap (ends why) is.life; up = is.up }
    by due p is = absurd (false≢true (sym p))
    by opening p is = absurd (false≢true (sym p))
    by accepting p is = absurd (false≢true (sym p))
    by live p is = absurd (false≢true (sym p))
    by (failed cause) p is = record { life = ap (ends why) is.life; up = is.up }
    by (ended cause) p is = record { life = ap (ends why) is.life; up = is.up }
    by (over cause) p is = record { life = ap (ends why) is.life; up = is.up }
    by gone p (inl never, zero_up) = (inl (ap (ends why) never), zero_up)
    by gone p (inr (cause, past), zero_up) = (inr (cause, ap (ends why) past), zero_up)

-- behind the end of a link no tunnel has a place, and a connection error was told where it waits for its one write
abbrev pub LateBy : Phase → List Part → Inbound → Type 0
LateBy (faulted code) parts x = ((s : ℕ) → takes_place (x.tunnels s).stage ≡ false) × Was is_fault parts
LateBy (closing why) parts x = (s : ℕ) → takes_place (x.tunnels s).stage ≡ false
LateBy closed parts x = (s : ℕ) → takes_place (x.tunnels s).stage ≡ false
LateBy _ parts x = Unit {0}

pub record SaysAll (start : Resources) (parts : List Part) (a : Local) : Type 0 where
  pub each : (s : ℕ) → SaysOf (life start s parts) (up_of s parts) (a.link.tunnels s)
  pub late : LateBy a.link.phase parts a.link

was_more : (parts : List Part) (p : Part) → Was is_fault parts → Was is_fault (parts ++ p ∷ [])
was_more parts p was = list_any-append is_fault parts (p ∷ []) ∙ ap (λ (b : Bool). b || list_any is_fault (p ∷ [])) was

late_on : (phase : Phase) (parts : List Part) (p : Part) (x y : Inbound)
    → ((s : ℕ) → takes_place (x.tunnels s).stage ≡ false → takes_place (y.tunnels s).stage ≡ false) → LateBy phase parts x
    → LateBy phase (parts ++ p ∷ []) y
late_on unborn parts p x y kept late = tt
late_on arriving parts p x y kept late = tt
late_on fronting parts p x y kept late = tt
late_on serving parts p x y kept late = tt
late_on (faulted code) parts p x y kept late = ((λ s. kept s (late.0 s)), was_more parts p late.1)
late_on (closing why) parts p x y kept late = λ s. kept s (late s)
late_on closed parts p x y kept late = λ s. kept s (late s)

module _ (start : Resources) (a : Local) (parts : List Part) (all : SaysAll start parts a) where
  -- the words behind a part
  next_says : (p : Part) (y : Inbound)
      → ((s : ℕ) → SaysOf (life_by (held_by (held start parts) p) (peer_of parts) s (life start s parts) p) (up_in s (up_of s parts) p)
      (y.tunnels s))
      → LateBy y.phase (parts ++ p ∷ []) y → SaysAll start (parts ++ p ∷ []) (with_link y a)
  next_says p y each late = record {
    each = λ s.
        subst (λ (l : Life). SaysOf l (up_of s (parts ++ p ∷ [])) (y.tunnels s)) (sym (life_one start s parts p))
        (subst (λ (u : ℕ). SaysOf (life_by (held_by (held start parts) p) (peer_of parts) s (life start s parts) p) u (y.tunnels s))
        (sym (up_one s parts p)) (each s));
    late = late;
  }

  -- a part that says nothing of any tunnel, and leaves them all
  same_says : (p : Part) (y : Inbound)
      → ((s : ℕ) (l : Life) (u : ℕ) → (life_by (held_by (held start parts) p) (peer_of parts) s l p ≡ l) × (up_in s u p ≡ u))
      → y.tunnels ≡ a.link.tunnels → LateBy y.phase (parts ++ p ∷ []) y → SaysAll start (parts ++ p ∷ []) (with_link y a)
  same_says p y quiet tunnels late = next_says p y
      (λ s. subst (λ (l : Life). SaysOf l (up_in s (up_of s parts) p) (y.tunnels s)) (sym (quiet s (life start s parts) (up_of s parts)).0)
      (subst (λ (u : ℕ). SaysOf (life start s parts) u (y.tunnels s)) (sym (quiet s (life start s parts) (up_of s parts)).1)
      (subst (λ (f : ℕ → Tunnel). SaysOf (life start s parts) (up_of s parts) (f s)) (sym tunnels) (all.each s))))
      late

  late_same : (p : Part) (y : Inbound) → y.phase ≡ a.link.phase
      → ((s : ℕ) → takes_place (a.link.tunnels s).stage ≡ false → takes_place (y.tunnels s).stage ≡ false)
      → LateBy y.phase (parts ++ p ∷ []) y
  late_same p y phase kept =
      subst (λ (ph : Phase). LateBy ph (parts ++ p ∷ []) y) (sym phase) (late_on a.link.phase parts p a.link y kept all.late)

  none_left : (why : Cause) (s : ℕ) → takes_place (ends_by why (a.link.tunnels s).stage) ≡ false
  none_left why s = none_in why (a.link.tunnels s).stage

  -- ENTRIES OF THE LINK

  ended_fronting : (k : ℕ) → AreUnasked a.link → SaysAll start (parts ++ entry (e.Ended k) ∷ []) (with_link (ended_by fronting a.link) a)
  ended_fronting k knows =
      next_says (entry (e.Ended k)) (ended_by fronting a.link)
      (λ s. placeless_say cause.PeerGone (life start s parts) (up_of s parts) (a.link.tunnels s) (ap takes_place (knows s)) (all.each s))
      (λ s. ap takes_place (knows s))

  ended_serving : (k : ℕ) → SaysAll start (parts ++ entry (e.Ended k) ∷ []) (with_link (ended_by serving a.link) a)
  ended_serving k =
      next_says (entry (e.Ended k)) (ended_by serving a.link)
      (λ s. ends_say cause.PeerGone (life start s parts) (up_of s parts) (a.link.tunnels s) (all.each s)) (none_left cause.PeerGone)

  broken_fronting : (k : ℕ) → AreUnasked a.link → SaysAll start (parts ++ entry (e.Broke k) ∷ []) (with_link (broken_by fronting a.link) a)
  broken_fronting k knows =
      next_says (entry (e.Broke k)) (broken_by fronting a.link)
      (λ s. placeless_say cause.PeerGone (life start s parts) (up_of s parts) (a.link.tunnels s) (ap takes_place (knows s)) (all.each s))
      (λ s. ap takes_place (knows s))

  broken_serving : (k : ℕ) → SaysAll start (parts ++ entry (e.Broke k) ∷ []) (with_link (broken_by serving a.link) a)
  broken_serving k =
      next_says (entry (e.Broke k)) (broken_by serving a.link)
      (λ s. ends_say cause.PeerGone (life start s parts) (up_of s parts) (a.link.tunnels s) (all.each s)) (none_left cause.PeerGone)

  broken_faulted : (k code : ℕ) → ((s : ℕ) → takes_place (a.link.tunnels s).stage ≡ false)
      → SaysAll start (parts ++ entry (e.Broke k) ∷ []) (with_link (broken_by (faulted code) a.link) a)
  broken_faulted k code late =
      next_says (entry (e.Broke k)) (broken_by (faulted code) a.link)
      (λ s. placeless_say cause.PeerGone (life start s parts) (up_of s parts) (a.link.tunnels s) (late s) (all.each s)) late

  came_tunnels : (phase : Phase) (bytes : List ℕ) → (came_by phase bytes a.link).tunnels ≡ a.link.tunnels
  came_tunnels unborn bytes = refl
  came_tunnels arriving bytes = refl
  came_tunnels fronting bytes = refl
  came_tunnels serving bytes = refl
  came_tunnels (faulted code) bytes = refl
  came_tunnels (closing why) bytes = refl
  came_tunnels closed bytes = refl

  came_phase : (phase : Phase) (bytes : List ℕ) → (came_by phase bytes a.link).phase ≡ a.link.phase
  came_phase unborn bytes = refl
  came_phase arriving bytes = refl
  came_phase fronting bytes = refl
  came_phase serving bytes = refl
  came_phase (faulted code) bytes = refl
  came_phase (closing why) bytes = refl
  came_phase closed bytes = refl

  went_late : (k : ℕ) (bytes : List ℕ) (phase : Phase) → LateBy phase parts a.link
      → LateBy (went_by phase) (parts ++ entry (e.Went k bytes) ∷ []) (went (length bytes) a.link)
  went_late k bytes unborn late = tt
  went_late k bytes arriving late = tt
  went_late k bytes fronting late = tt
  went_late k bytes serving late = tt
  went_late k bytes (faulted code) late = λ s. late.0 s
  went_late k bytes (closing why) late = λ s. late s
  went_late k bytes closed late = λ s. late s

  -- behind a close no tunnel has a place: none had one in front of it
  pub close_late : (phase : Phase) → LateBy phase parts a.link → (why : Cause) → close_due phase ≡ Some why
      → (s : ℕ) → takes_place (a.link.tunnels s).stage ≡ false
  close_late (faulted code) late why is = late.0
  close_late (closing cause) late why is = late
  close_late unborn late why is = absurd (let no : None ≡ Some why = is in cc)
  close_late arriving late why is = absurd (let no : None ≡ Some why = is in cc)
  close_late fronting late why is = absurd (let no : None ≡ Some why = is in cc)
  close_late serving late why is = absurd (let no : None ≡ Some why = is in cc)
  close_late closed late why is = absurd (let no : None ≡ Some why = is in cc)

  entry_says : (l : ℕ) (z : Entry) → Admits start parts a → MayCome l a.link z
      → SaysAll start (parts ++ entry z ∷ []) (with_link (entered z a.link) a)
  entry_says l (e.Accepted k d) admits may =
      same_says (entry (e.Accepted k d)) (with_phase arriving a.link) (λ s how_is u. (refl, refl)) refl tt
  entry_says l (e.Came k bytes) admits may =
      same_says (entry (e.Came k bytes)) (came bytes a.link) (λ s how_is u. (refl, refl)) (came_tunnels a.link.phase bytes)
      (late_same (entry (e.Came k bytes)) (came bytes a.link) (came_phase a.link.phase bytes)
      (λ s none_had. ap (λ (f : ℕ → Tunnel). takes_place (f s).stage) (came_tunnels a.link.phase bytes) ∙ none_had))
  entry_says l (e.Ended k) admits (is, (inl quiet, wanted)) =
      subst (λ (ph : Phase). SaysAll start (parts ++ entry (e.Ended k) ∷ []) (with_link (ended_by ph a.link) a)) (sym quiet.1)
      (ended_fronting k (subst (λ (ph : Phase). KnowsBy ph parts a.link) quiet.1 admits.knows))
  entry_says l (e.Ended k) admits (is, (inr quiet, wanted)) =
      subst (λ (ph : Phase). SaysAll start (parts ++ entry (e.Ended k) ∷ []) (with_link (ended_by ph a.link) a)) (sym quiet.1)
      (ended_serving k)
  entry_says l (e.Went k bytes) admits may =
      next_says (entry (e.Went k bytes)) (went (length bytes) a.link)
      (λ s. same_say (life start s parts) (up_of s parts) (a.link.tunnels s) ((went (length bytes) a.link).tunnels s) refl refl refl
      (all.each s))
      (went_late k bytes a.link.phase all.late)
  entry_says l (e.Broke k) admits (is, inl quiet) =
      subst (λ (ph : Phase). SaysAll start (parts ++ entry (e.Broke k) ∷ []) (with_link (broken_by ph a.link) a)) (sym quiet.1)
      (broken_fronting k (subst (λ (ph : Phase). KnowsBy ph parts a.link) quiet.1 admits.knows))
  entry_says l (e.Broke k) admits (is, inr (inl quiet)) =
      subst (λ (ph : Phase). SaysAll start (parts ++ entry (e.Broke k) ∷ []) (with_link (broken_by ph a.link) a)) (sym quiet.1)
      (broken_serving k)
  entry_says l (e.Broke k) admits (is, inr (inr fault)) =
      subst (λ (ph : Phase). SaysAll start (parts ++ entry (e.Broke k) ∷ []) (with_link (broken_by ph a.link) a)) (sym fault.2)
      (broken_faulted k fault.1 (subst (λ (ph : Phase). LateBy ph parts a.link) fault.2 all.late).0)
  entry_says l (e.Closed k why) admits may =
      same_says (entry (e.Closed k why)) (with_phase closed a.link) (λ s how_is u. (refl, refl)) refl
      (close_late a.link.phase all.late why may.2)
  entry_says l (e.Balked w) admits may =
      same_says (entry (e.Balked w)) a.link (λ s how_is u. (refl, refl)) refl
      (late_same (entry (e.Balked w)) a.link refl (λ s none_had. none_had))
  entry_says l (e.Dialled k to why) admits may = absurd may
  entry_says l (e.DialFailed to why) admits may = absurd may
  entry_says l (e.Opened k) admits may = absurd may
  entry_says l (e.Shut k) admits may = absurd may
  entry_says l e.Tick admits may = absurd may
  entry_says l (e.Wait ready why) admits may = absurd may

  -- ENTRIES OF AN UPSTREAM

  at_stage_says : (k : ℕ) (stage : Stage) → (a.link.tunnels k).stage ≡ stage
      → SaysBy stage (life start k parts) (up_of k parts) (a.link.tunnels k)
  at_stage_says k stage is = subst (λ (st : Stage). SaysBy st (life start k parts) (up_of k parts) (a.link.tunnels k)) is (all.each k)

  -- of a tunnel that lives, or is pending, what moves bytes says nothing
  moved_says : (k : ℕ) (z : Entry) (new : Tunnel) → new.stage ≡ (a.link.tunnels k).stage → new.up ≡ (a.link.tunnels k).up
      → new.target ≡ (a.link.tunnels k).target → SaysOf (life start k parts) (up_of k parts) new
  moved_says k z new stage number target =
      same_say (life start k parts) (up_of k parts) (a.link.tunnels k) new stage number target (all.each k)

  up_here : (l k : ℕ) (z : Entry) → UpMayCome l k a.link (a.link.tunnels k) z
      → SaysOf (ends_up z (life start k parts)) (up_by (up_of k parts) z) (up_entered z (a.link.tunnels k))
  up_here l k (e.Dialled u to why) may = record { life = (at_stage_says k due may.1).0.life; up = refl }
  up_here l k (e.DialFailed to why) may = ends_say cause.UpFault (life start k parts) (up_of k parts) (a.link.tunnels k) (all.each k)
  up_here l k (e.Opened u) may =
      let says = at_stage_says k opening may.1 in record { life = says.life; up = says.up }
  up_here l k (e.Came u bytes) may = moved_says k (e.Came u bytes) _ refl refl refl
  up_here l k (e.Ended u) may = moved_says k (e.Ended u) _ refl refl refl
  up_here l k (e.Went u bytes) may = moved_says k (e.Went u bytes) _ refl refl refl
  up_here l k (e.Broke u) may = ends_say cause.UpFault (life start k parts) (up_of k parts) (a.link.tunnels k) (all.each k)
  up_here l k (e.Shut u) may = moved_says k (e.Shut u) _ refl refl refl
  up_here l k (e.Closed u why) may = (inr (why, (at_stage_says k (over why) may.1).life), refl)
  up_here l k (e.Balked w) may = moved_says k (e.Balked w) _ refl refl refl
  up_here l k (e.Accepted j d) may = absurd may
  up_here l k e.Tick may = absurd may
  up_here l k (e.Wait ready why) may = absurd may

  -- no such entry gives a place to a tunnel that has none
  no_new_place : (l k : ℕ) (z : Entry) → UpMayCome l k a.link (a.link.tunnels k) z → takes_place (a.link.tunnels k).stage ≡ false
      → takes_place (up_entered z (a.link.tunnels k)).stage ≡ false
  no_new_place l k (e.Dialled u to why) may none_had = absurd (false≢true (sym none_had ∙ ap takes_place may.1))
  no_new_place l k (e.DialFailed to why) may none_had = none_in cause.UpFault (a.link.tunnels k).stage
  no_new_place l k (e.Opened u) may none_had = absurd (false≢true (sym none_had ∙ ap takes_place may.1))
  no_new_place l k (e.Came u bytes) may none_had = none_had
  no_new_place l k (e.Ended u) may none_had = none_had
  no_new_place l k (e.Went u bytes) may none_had = none_had
  no_new_place l k (e.Broke u) may none_had = none_in cause.UpFault (a.link.tunnels k).stage
  no_new_place l k (e.Shut u) may none_had = none_had
  no_new_place l k (e.Closed u why) may none_had = refl
  no_new_place l k (e.Balked w) may none_had = none_had
  no_new_place l k (e.Accepted j d) may none_had = absurd may
  no_new_place l k e.Tick may none_had = absurd may
  no_new_place l k (e.Wait ready why) may none_had = absurd may

  -- one tunnel changes, and gets no place that it didn't have
  one_place : (k : ℕ) (change : Tunnel → Tunnel)
      → (takes_place (a.link.tunnels k).stage ≡ false → takes_place (change (a.link.tunnels k)).stage ≡ false)
      → (s : ℕ) → takes_place (a.link.tunnels s).stage ≡ false → takes_place ((at_stream k change a.link).tunnels s).stage ≡ false
  one_place k change here =
      at_one k change a.link (λ j t. takes_place (a.link.tunnels j).stage ≡ false → takes_place t.stage ≡ false) here
      (λ j apart none_had. none_had)

  up_says : (l k : ℕ) (z : Entry) → UpMayCome l k a.link (a.link.tunnels k) z
      → SaysAll start (parts ++ up k z ∷ []) (with_link (at_stream k (up_entered z) a.link) a)
  up_says l k z may =
      next_says (up k z) (at_stream k (up_entered z) a.link)
      (λ s. say_at s k (up_entered z) a.link (ends_up z (life start s parts)) (life start s parts) (up_by (up_of s parts) z) (up_of s parts)
      (λ is. subst (λ (j : ℕ). SaysOf (ends_up z (life start j parts)) (up_by (up_of j parts) z) (up_entered z (a.link.tunnels j))) (sym is)
      (up_here l k z may))
      (all.each s))
      (late_same (up k z) (at_stream k (up_entered z) a.link) refl (one_place k (up_entered z) (no_new_place l k z may)))

  -- WHAT IS TOLD OF FRAMES

  -- of a stream that wasn't asked on before, where a request is told
  IsFirst : Found → Type 0
  IsFirst (found.Opened s end) = (a.link.tunnels s).stage ≡ unasked
  IsFirst _ = Unit {0}

  cut_says : (k : ℕ) (why : Cause) (s : ℕ)
      → SaysOf (cond (k == s) (ends why (life start s parts)) (life start s parts)) (up_of s parts)
      ((at_stream k (ends_for why) a.link).tunnels s)
  cut_says k why s =
      say_on s k (ends_for why) a.link (ends why (life start s parts)) (life start s parts) (up_of s parts)
      (λ is. ends_say why (life start s parts) (up_of s parts) (a.link.tunnels s) (all.each s)) (all.each s)

  grown_says : (k : ℕ) (change : Tunnel → Tunnel) → ((t : Tunnel) → (change t).stage ≡ t.stage) → ((t : Tunnel) → (change t).up ≡ t.up)
      → ((t : Tunnel) → (change t).target ≡ t.target) → (s : ℕ)
      → SaysOf (life start s parts) (up_of s parts) ((at_stream k change a.link).tunnels s)
  grown_says k change stage number target =
      at_one k change a.link (λ j t. SaysOf (life start j parts) (up_of j parts) t)
      (same_say (life start k parts) (up_of k parts) (a.link.tunnels k) (change (a.link.tunnels k)) (stage (a.link.tunnels k))
      (number (a.link.tunnels k)) (target (a.link.tunnels k)) (all.each k))
      (λ j apart. all.each j)

  found_says : (ps : List history.Point) (told : Found) (headers : HeaderList) (bytes : List ℕ) (c : Connection) → a.link.phase ≡ serving
      → IsFirst told
      → SaysAll start (parts ++ looked ps told headers ∷ []) (with_link (told_of told headers bytes (record a.link { conn = c })) a)
  unfolding IsFirst
  found_says ps found.Silent headers bytes c is first =
      let y = record a.link { conn = c } in
      next_says (looked ps found.Silent headers) y all.each
      (late_same (looked ps found.Silent headers) y refl (λ s none_had. none_had))
  found_says ps (found.GoneAway last) headers bytes c is first =
      let y = record a.link { conn = c } in
      next_says (looked ps (found.GoneAway last) headers) y all.each
      (late_same (looked ps (found.GoneAway last) headers) y refl (λ s none_had. none_had))
  found_says ps (found.Opened k end) headers bytes c is first =
      let y = told_of (found.Opened k end) headers bytes (record a.link { conn = c }) in
      next_says (looked ps (found.Opened k end) headers) y
      (at_one k (λ t. requested_with headers end) a.link (λ j t. SaysOf (life start j parts) (up_of j parts) t)
      (let says = at_stage_says k unasked first in record { life = says.life; up = says.up }) (λ j apart. all.each j))
      (late_same (looked ps (found.Opened k end) headers) y refl
      (one_place k (λ t. requested_with headers end) (λ none_had. refl)))
  found_says ps (found.Chunk k end) headers bytes c is first =
      let y = told_of (found.Chunk k end) headers bytes (record a.link { conn = c }) in
      next_says (looked ps (found.Chunk k end) headers) y (grown_says k (came_up bytes) (λ t. refl) (λ t. refl) (λ t. refl))
      (late_same (looked ps (found.Chunk k end) headers) y refl (one_place k (came_up bytes) (λ none_had. none_had)))
  found_says ps (found.Ended k) headers bytes c is first =
      let y = told_of (found.Ended k) headers bytes (record a.link { conn = c }) in
      next_says (looked ps (found.Ended k) headers) y (grown_says k peer_ended (λ t. refl) (λ t. refl) (λ t. refl))
      (late_same (looked ps (found.Ended k) headers) y refl (one_place k peer_ended (λ none_had. none_had)))
  found_says ps (found.Reset k code) headers bytes c is first =
      let y = told_of (found.Reset k code) headers bytes (record a.link { conn = c }) in
      next_says (looked ps (found.Reset k code) headers) y (cut_says k (cause.PeerReset code))
      (late_same (looked ps (found.Reset k code) headers) y refl
      (one_place k (ends_for (cause.PeerReset code)) (λ none_had. none_in (cause.PeerReset code) (a.link.tunnels k).stage)))
  found_says ps (found.Broken k code) headers bytes c is first =
      let y = told_of (found.Broken k code) headers bytes (record a.link { conn = c }) in
      next_says (looked ps (found.Broken k code) headers) y (cut_says k (cause.StreamFault code))
      (late_same (looked ps (found.Broken k code) headers) y refl
      (one_place k (ends_for (cause.StreamFault code)) (λ none_had. none_in (cause.StreamFault code) (a.link.tunnels k).stage)))
  found_says ps (found.Fault code) headers bytes c is first =
      let p = looked ps (found.Fault code) headers in
      next_says p (told_of (found.Fault code) headers bytes (record a.link { conn = c }))
      (λ s. ends_say (cause.ConnFault code) (life start s parts) (up_of s parts) (a.link.tunnels s) (all.each s)) (
        (λ s. none_in (cause.ConnFault code) (a.link.tunnels s).stage),
        list_any-append is_fault parts (p ∷ []) ∙ or_true (list_any is_fault parts),
      )
    where
      or_true : (b : Bool) → (b || true) ≡ true
      or_true true = refl
      or_true false = refl

  -- ANSWERS AND ENDS

  asked_says : (target : Target) (end : Bool) (u : ℕ) → u ≡ 0 → SaysOf (pending target) u (asked target end)
  asked_says target true u zero_up = (record { life = refl; up = zero_up }, refl)
  asked_says target false u zero_up = (record { life = refl; up = zero_up }, refl)

  decided_here : (k : ℕ) (answer : Verdict) (headers : HeaderList) (end : Bool) → (a.link.tunnels k).stage ≡ requested headers end
      → SaysOf (begins answer (life start k parts)) (up_of k parts) (tunnel_for answer headers end)
  decided_here k (Status status) headers end is =
      let says = at_stage_says k (requested headers end) is in record { life = says.life; up = says.up }
  decided_here k Reset headers end is =
      let says = at_stage_says k (requested headers end) is in record { life = says.life; up = says.up }
  decided_here k (Dial target) headers end is = asked_says target end (up_of k parts) (at_stage_says k (requested headers end) is).up

  decided_says : (k : ℕ) (full : Bool) (answer : Verdict) (headers : HeaderList) (end : Bool) → a.link.phase ≡ serving
      → (a.link.tunnels k).stage ≡ requested headers end
      → SaysAll start (parts ++ decided k full answer ∷ []) (with_link (at_stream k (λ t. tunnel_for answer headers end) a.link) a)
  decided_says k full answer headers end serves is =
      let y = at_stream k (λ t. tunnel_for answer headers end) a.link in
      next_says (decided k full answer) y
      (λ s. say_on s k (λ t. tunnel_for answer headers end) a.link (begins answer (life start s parts)) (life start s parts) (up_of s parts)
      (λ same. subst (λ (j : ℕ). SaysOf (begins answer (life start j parts)) (up_of j parts) (tunnel_for answer headers end)) (sym same)
      (decided_here k answer headers end is))
      (all.each s))
      (subst (λ (ph : Phase). LateBy ph (parts ++ decided k full answer ∷ []) y) (sym serves) tt)

  accepted_here : (k : ℕ) → (a.link.tunnels k).stage ≡ accepting
      → SaysOf (accepts (life start k parts)) (up_of k parts) (at_stage live (a.link.tunnels k))
  accepted_here k is =
      let says = at_stage_says k accepting is in record { life = ap accepts says.life; up = says.up }

  -- one tunnel is this now, of which nothing is told
  now_says : (p : Part) (k : ℕ) (next : Tunnel) (c : Connection)
      → ((s : ℕ) (l : Life) (u : ℕ) → (life_by (held_by (held start parts) p) (peer_of parts) s l p ≡ l) × (up_in s u p ≡ u))
      → SaysOf (life start k parts) (up_of k parts) next → (takes_place (a.link.tunnels k).stage ≡ false → takes_place next.stage ≡ false)
      → SaysAll start (parts ++ p ∷ []) (with_link (with_tunnel k next c a.link) a)
  now_says p k next c quiet here place =
      let y = with_tunnel k next c a.link in
      next_says p y
      (at_one k (λ t. next) a.link
      (λ s t. SaysOf (life_by (held_by (held start parts) p) (peer_of parts) s (life start s parts) p) (up_in s (up_of s parts) p) t)
      (to k next here) (λ s apart. to s (a.link.tunnels s) (all.each s)))
      (late_same p y refl (one_place k (λ t. next) place))
    where
      to : (s : ℕ) (t : Tunnel) → SaysOf (life start s parts) (up_of s parts) t
          → SaysOf (life_by (held_by (held start parts) p) (peer_of parts) s (life start s parts) p) (up_in s (up_of s parts) p) t
      to s t says =
          subst (λ (l : Life). SaysOf l (up_in s (up_of s parts) p) t) (sym (quiet s (life start s parts) (up_of s parts)).0)
          (subst (λ (u : ℕ). SaysOf (life start s parts) u t) (sym (quiet s (life start s parts) (up_of s parts)).1) says)

  refused_here : (l k n : ℕ) (stage : Stage) → (a.link.tunnels k).stage ≡ stage → (made : Note) (next : Tunnel)
      → Refuses l k a.link stage n made next → SaysOf (life start k parts) (up_of k parts) next
  refused_here l k n (refusing status target) is made next refuses =
      let says = at_stage_says k (refusing status target) is in
      subst (SaysOf (life start k parts) (up_of k parts)) (sym refuses.2) (inl says.life, says.up)
  refused_here l k n (failed why) is made next refuses =
      let says = at_stage_says k (failed why) is in
      subst (SaysOf (life start k parts) (up_of k parts)) (sym refuses.3)
      (left_say why (life start k parts) (up_of k parts) (a.link.tunnels k) says.life says.up)
  refused_here l k n unasked is made next refuses = absurd refuses
  refused_here l k n (requested headers end) is made next refuses = absurd refuses
  refused_here l k n malformed is made next refuses = absurd refuses
  refused_here l k n due is made next refuses = absurd refuses
  refused_here l k n opening is made next refuses = absurd refuses
  refused_here l k n accepting is made next refuses = absurd refuses
  refused_here l k n live is made next refuses = absurd refuses
  refused_here l k n (ended why) is made next refuses = absurd refuses
  refused_here l k n (over why) is made next refuses = absurd refuses
  refused_here l k n gone is made next refuses = absurd refuses

  reset_here : (l k n : ℕ) (stage : Stage) → (a.link.tunnels k).stage ≡ stage → (made : Note) (next : Tunnel)
      → Resets l k a.link stage n made next → SaysOf (life start k parts) (up_of k parts) next
  reset_here l k n malformed is made next resets =
      let says = at_stage_says k malformed is in
      subst (SaysOf (life start k parts) (up_of k parts)) (sym resets.2) (inl says.life, says.up)
  reset_here l k n (ended why) is made next resets =
      let says = at_stage_says k (ended why) is in
      subst (SaysOf (life start k parts) (up_of k parts)) (sym resets.3)
      (left_say why (life start k parts) (up_of k parts) (a.link.tunnels k) says.life says.up)
  reset_here l k n unasked is made next resets = absurd resets
  reset_here l k n (requested headers end) is made next resets = absurd resets
  reset_here l k n (refusing status target) is made next resets = absurd resets
  reset_here l k n due is made next resets = absurd resets
  reset_here l k n opening is made next resets = absurd resets
  reset_here l k n accepting is made next resets = absurd resets
  reset_here l k n live is made next resets = absurd resets
  reset_here l k n (failed why) is made next resets = absurd resets
  reset_here l k n (over why) is made next resets = absurd resets
  reset_here l k n gone is made next resets = absurd resets

  left_here : (l k : ℕ) (stage : Stage) → (a.link.tunnels k).stage ≡ stage → (made : Option Note) (next : Tunnel)
      → Leaves l k a.link stage made next → SaysOf (life start k parts) (up_of k parts) next
  left_here l k (failed why) is made next leaves =
      let says = at_stage_says k (failed why) is in
      subst (SaysOf (life start k parts) (up_of k parts)) (sym leaves.3)
      (left_say why (life start k parts) (up_of k parts) (a.link.tunnels k) says.life says.up)
  left_here l k (ended why) is made next leaves =
      let says = at_stage_says k (ended why) is in
      subst (SaysOf (life start k parts) (up_of k parts)) (sym leaves.3)
      (left_say why (life start k parts) (up_of k parts) (a.link.tunnels k) says.life says.up)
  left_here l k unasked is made next leaves = absurd leaves
  left_here l k (requested headers end) is made next leaves = absurd leaves
  left_here l k (refusing status target) is made next leaves = absurd leaves
  left_here l k malformed is made next leaves = absurd leaves
  left_here l k due is made next leaves = absurd leaves
  left_here l k opening is made next leaves = absurd leaves
  left_here l k accepting is made next leaves = absurd leaves
  left_here l k live is made next leaves = absurd leaves
  left_here l k (over why) is made next leaves = absurd leaves
  left_here l k gone is made next leaves = absurd leaves

  -- a tunnel on a link that serves
  serving_late : (p : Part) (y : Inbound) → y.phase ≡ a.link.phase → a.link.phase ≡ serving → LateBy y.phase (parts ++ p ∷ []) y
  serving_late p y phase serves = subst (λ (ph : Phase). LateBy ph (parts ++ p ∷ []) y) (sym (phase ∙ serves)) tt

  done_says : (k : ℕ) (made : Note) → a.link.phase ≡ serving → (a.link.tunnels k).stage ≡ live
      → SaysAll start (parts ++ done k made ∷ []) (with_link (at_stream k (left_with cause.Done) a.link) a)
  done_says k made serves is =
      let y = at_stream k (left_with cause.Done) a.link in
      next_says (done k made) y
      (λ s. say_on s k (left_with cause.Done) a.link (ends cause.Done (life start s parts)) (life start s parts) (up_of s parts)
      (λ same. subst (λ (j : ℕ). SaysOf (ends cause.Done (life start j parts)) (up_of j parts) (left_with cause.Done (a.link.tunnels j)))
      (sym same)
      (let says = at_stage_says k live is in
      left_say cause.Done (ends cause.Done (life start k parts)) (up_of k parts) (a.link.tunnels k) (ap (ends cause.Done) says.life)
      says.up))
      (all.each s))
      (serving_late (done k made) y refl serves)

  accepted_says : (k : ℕ) (made : Note) (c : Connection) → a.link.phase ≡ serving → (a.link.tunnels k).stage ≡ accepting
      → SaysAll start (parts ++ accepted k made ∷ []) (with_link (with_tunnel k (at_stage live (a.link.tunnels k)) c a.link) a)
  accepted_says k made c serves is =
      let new = at_stage live (a.link.tunnels k) in
      let y = with_tunnel k new c a.link in
      next_says (accepted k made) y
      (λ s. say_on s k (λ t. new) a.link (accepts (life start s parts)) (life start s parts) (up_of s parts)
      (λ same. subst (λ (j : ℕ). SaysOf (accepts (life start j parts)) (up_of j parts) new) (sym same) (accepted_here k is))
      (all.each s))
      (serving_late (accepted k made) y refl serves)

  stopped_late : (why : Cause) (phase : Phase) → LateBy phase parts a.link → KnowsBy phase parts a.link
      → LateBy (stops_by why phase) (parts ++ stopped why ∷ []) (stopped_for why a.link)
  stopped_late why unborn late knows = tt
  stopped_late why arriving late knows = λ s. none_in why (a.link.tunnels s).stage
  stopped_late why fronting late knows = λ s. none_in why (a.link.tunnels s).stage
  stopped_late why serving late knows = λ s. none_in why (a.link.tunnels s).stage
  stopped_late why (faulted code) late knows = ((λ s. none_in why (a.link.tunnels s).stage), was_more parts (stopped why) late.1)
  stopped_late why (closing cause) late knows = λ s. none_in why (a.link.tunnels s).stage
  stopped_late why closed late knows = λ s. none_in why (a.link.tunnels s).stage

  judged_place : (h : Resources) (t : Tunnel) → takes_place t.stage ≡ false
      → takes_place (cond (takes_place t.stage) (judged_by (judged h a.link.peer t.target) t) t).stage ≡ false
  judged_place h t none_had = ap (λ (b : Bool). takes_place (cond b (judged_by (judged h a.link.peer t.target) t) t).stage) none_had
      ∙ none_had

  to_says : (p : Part) (b : Local) (y : Inbound) → b ≡ with_link y a → SaysAll start (parts ++ p ∷ []) (with_link y a)
      → SaysAll start (parts ++ p ∷ []) b
  to_says p b y is now = subst (SaysAll start (parts ++ p ∷ [])) (sym is) now

  pub step_says : (l : ℕ) (p : Part) (b : Local) → Admits start parts a
      → ((s : ℕ) (end : Bool) (d : Connection) → Finds a.link.conn d (found.Opened s end) → (a.link.tunnels s).stage ≡ unasked)
      → Steps l a p b → SaysAll start (parts ++ p ∷ []) b
  unfolding IsFirst
  step_says l (entry z) b admits opens steps = to_says _ b (entered z a.link) steps.1 (entry_says l z admits steps.0)
  step_says l (up k z) b admits opens steps = to_says _ b (at_stream k (up_entered z) a.link) steps.1 (up_says l k z steps.0)
  step_says l welcomed b admits opens steps =
      to_says _ b (with_phase fronting a.link) steps.1 (same_says welcomed (with_phase fronting a.link) (λ s h u. (refl, refl)) refl tt)
  step_says l crowded b admits opens steps =
      to_says _ b (with_phase (closing cause.NoRoom) a.link) steps.1
      (same_says crowded (with_phase (closing cause.NoRoom) a.link) (λ s h u. (refl, refl)) refl
      (λ s. ap takes_place (subst (λ (ph : Phase). KnowsBy ph parts a.link) steps.0 admits.knows s)))
  step_says l lacked b admits opens steps =
      to_says _ b (lacking a.link) steps.1
      (next_says lacked (lacking a.link)
      (λ s. ends_say cause.NoMemory (life start s parts) (up_of s parts) (a.link.tunnels s) (all.each s))
      (λ s. none_in cause.NoMemory (a.link.tunnels s).stage))
  step_says l (part.fronted seen) b admits opens steps =
      to_says _ b _ steps.4 (same_says (part.fronted seen) _ (λ s h u. (refl, refl)) refl tt)
  step_says l (misfronted fault) b admits opens steps =
      to_says _ b _ steps.2
      (same_says (misfronted fault) _ (λ s h u. (refl, refl)) refl
      (λ s. ap takes_place (subst (λ (ph : Phase). KnowsBy ph parts a.link) steps.0 admits.knows s)))
  step_says l (looked ps told headers) b admits opens steps =
      to_says _ b (on_found told headers steps.2 a.link) steps.5
      (found_says ps told headers (chunk_of steps.2 told) steps.2 steps.0 (first told steps.3.finds))
    where
      first : (told : Found) → Finds a.link.conn steps.2 told → IsFirst told
      first (found.Opened s end) finds = opens s end steps.2 finds
      first found.Silent finds = tt
      first (found.Chunk s end) finds = tt
      first (found.Ended s) finds = tt
      first (found.Reset s code) finds = tt
      first (found.Broken s code) finds = tt
      first (found.GoneAway last) finds = tt
      first (found.Fault code) finds = tt
  step_says l (decided k full answer) b admits opens steps =
      to_says _ b _ steps.5 (decided_says k full answer steps.1 steps.2 steps.0 steps.3)
  step_says l (accepted k made) b admits opens steps = to_says _ b _ steps.3 (accepted_says k made _ steps.0 steps.1)
  step_says l (refused k status resets made) b admits opens steps =
      to_says _ b _ steps.4
      (now_says (refused k status resets made) k steps.1 _ (λ s h u. (refl, refl))
      (refused_here l k status (a.link.tunnels k).stage refl made steps.1 steps.2)
      (λ none_had.
      (left_placeless (a.link.tunnels k) steps.1 (refuses_left a.link l k status (a.link.tunnels k).stage made steps.1 steps.2)).0))
  step_says l (reset k code made) b admits opens steps =
      to_says _ b _ steps.3
      (now_says (reset k code made) k steps.1 _ (λ s h u. (refl, refl))
      (reset_here l k code (a.link.tunnels k).stage refl made steps.1 steps.2)
      (λ none_had.
      (left_placeless (a.link.tunnels k) steps.1 (resets_left a.link l k code (a.link.tunnels k).stage made steps.1 steps.2)).0))
  step_says l (left k made) b admits opens steps =
      to_says _ b _ steps.2
      (now_says (left k made) k steps.0 _ (λ s h u. (refl, refl))
      (left_here l k (a.link.tunnels k).stage refl made steps.0 steps.1)
      (λ none_had.
      (left_placeless (a.link.tunnels k) steps.0 (leaves_left a.link l k 0 (a.link.tunnels k).stage made steps.0 steps.1)).0))
  step_says l (done k made) b admits opens steps = to_says _ b _ steps.3 (done_says k made steps.0.0 steps.0.2)
  step_says l (put k bytes) b admits opens steps =
      to_says _ b _ steps.3
      (now_says (put k bytes) k _ _ (λ s h u. (refl, refl))
      (same_say (life start k parts) (up_of k parts) (a.link.tunnels k) _ refl refl refl (all.each k)) (λ none_had. none_had))
  step_says l (finished k) b admits opens steps =
      to_says _ b _ steps.2
      (now_says (finished k) k _ _ (λ s h u. (refl, refl))
      (same_say (life start k parts) (up_of k parts) (a.link.tunnels k) _ refl refl refl (all.each k)) (λ none_had. none_had))
  step_says l (credited k n) b admits opens steps =
      to_says _ b _ steps.3
      (now_says (credited k n) k _ _ (λ s h u. (refl, refl))
      (same_say (life start k parts) (up_of k parts) (a.link.tunnels k) _ refl refl refl (all.each k)) (λ none_had. none_had))
  step_says l (applied r) b admits opens steps =
      let p = applied r in
      let h = after_response a.held r in
      let y = rejudged h a.link in
      let held_is : held_by (held start parts) p ≡ h = ap (λ (g : Resources). after_response g r) admits.holds in
      subst (SaysAll start (parts ++ p ∷ [])) (sym steps)
      (record {
        each = λ s.
            let t = a.link.tunnels s in
            subst (λ (m : Life). SaysOf m (up_of s (parts ++ p ∷ [])) (y.tunnels s))
            (sym (life_one start s parts p ∙ ap (λ (g : Resources). ends_at g (peer_of parts) (life start s parts)) held_is))
            (subst (λ (u : ℕ). SaysOf (ends_at h (peer_of parts) (life start s parts)) u (y.tunnels s)) (sym (up_one s parts p))
            (judged_say h a.link.peer (life start s parts) (up_of s parts) t (peer_of parts) (λ some. (admits.each s some).peer_is)
            (all.each s)));
        late = late_same p y refl (λ s none_had. judged_place h (a.link.tunnels s) none_had);
      })
  step_says l (stopped why) b admits opens steps =
      to_says _ b (stopped_for why a.link) steps
      (next_says (stopped why) (stopped_for why a.link)
      (λ s. ends_say why (life start s parts) (up_of s parts) (a.link.tunnels s) (all.each s))
      (stopped_late why a.link.phase all.late admits.knows))
