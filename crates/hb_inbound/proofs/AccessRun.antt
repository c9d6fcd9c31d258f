-- No byte goes to an upstream and no DATA frame begins unless what is held then admits the tunnel's peer, in every run of a link.
use Rattle.std.proofs.Common.{◌≡◌, inl, inr, ℕ, zero, suc, ◌-◌, not, true, false, List, [], ◌∷◌, ◌++◌, length, refl, ap, sym, ◌∙◌, subst}
use Rattle.std.specs.List.{AllByRecursion}
use Rattle.std.proofs.lemmas.Bool.{false≢true, and_parts}
use Rattle.hb_conn.specs.Observed as observed
use Rattle.hb_conn.specs.Observed.{outgoing, frames_begun}
use Rattle.hb_frames.specs.RawFrame.{RawFrame, spelling}
use Rattle.hb_held.specs.Held.{Resources}
use Rattle.hb_kept.specs.DataWaits.{StreamSet, no_stream, WaitsWithin}
use Rattle.hb_outgoing.specs.Selected.{has_data}
use Rattle.hb_outgoing.specs.Written.{begun_in}
use Rattle.hb_table.specs.Judgement.{judged}
use Rattle.hb_world.specs.declared.entry.Entry.{Entry}
use Rattle.hb_world.specs.declared.entry.Entry.TheVariants as e
use Rattle.hb_inbound.specs.Access.{IsAdmitted, GoesAdmitted, UpIsAdmitted, LinkIsAdmitted, AccessAt}
use Rattle.hb_inbound.specs.Calm.{output, output_by}
use Rattle.hb_inbound.specs.Inbound.{Phase, serving, faulted}
use Rattle.hb_inbound.specs.Laws.{RunsAdmit}
use Rattle.hb_inbound.specs.Part.{Part, entry, up, welcomed, crowded, lacked, fronted, misfronted, looked, decided, accepted, refused, reset, left, done, put, finished, credited, applied, stopped}
use Rattle.hb_inbound.specs.Runs.{Local, MayCome, UpMayCome, Steps, StandsFor}
use Rattle.hb_inbound.specs.Tunnel.{Stage, unasked, requested, refusing, malformed, due, opening, accepting, live, failed, ended, over, gone, takes_place, is_unanswered}
use Rattle.hb_inbound.proofs.AdmittedRun.{all_admit}
use Rattle.hb_inbound.proofs.Grown.{at_parts}
use Rattle.hb_inbound.proofs.Runs.{all_keep}
use Rattle.hb_inbound.proofs.Waiting.{holds_data, set_of, WaitsIn}
use Rattle.hb_inbound.proofs.WaitingRun.{all_wait}

-- what holds of each frame that waits holds of those that begin
each_begun : (P : RawFrame → Type 0) (n : ℕ) (queue : List RawFrame) → AllByRecursion P queue → AllByRecursion P (begun_in n queue)
each_begun P zero queue each = tt
each_begun P (suc n) [] each = tt
each_begun P (suc n) (f ∷ queue) each = (each.0, each_begun P (suc n - length (spelling f)) queue each.1)

pub each_so : (P Q : RawFrame → Type 0) → ((f : RawFrame) → P f → Q f) → (fs : List RawFrame) → AllByRecursion P fs → AllByRecursion Q fs
each_so P Q so [] each = tt
each_so P Q so (f ∷ fs) each = (so f each.0, each_so P Q so fs each.1)

-- a tunnel that is answered and of which DATA may wait has a place
placed : (stage : Stage) → is_unanswered stage ≡ false → holds_data stage ≡ true → takes_place stage ≡ true
placed unasked calm some = some
placed (requested headers end) calm some = absurd (false≢true some)
placed (refusing status target) calm some = absurd (false≢true some)
placed malformed calm some = some
placed due calm some = refl
placed opening calm some = refl
placed accepting calm some = refl
placed live calm some = refl
placed (failed why) calm some = absurd (false≢true some)
placed (ended why) calm some = absurd (false≢true (sym calm))
placed (over why) calm some = some
placed gone calm some = some

module _ (l : ℕ) (start : Resources) (a : Local) (before : List Part) (stands : StandsFor l start a before) where
  admitted : (s : ℕ) → takes_place (a.link.tunnels s).stage ≡ true → IsAdmitted start before s
  admitted s place =
      let told = (all_admit l start a before stands).each s place in
      record {
        peer = a.link.peer;
        target = (a.link.tunnels s).target;
        peer_is = told.peer_is;
        target_is = told.target_is;
        admitted = ap (λ (h : Resources). judged h a.link.peer (a.link.tunnels s).target) (all_admit l start a before stands).holds
            ∙ told.admitted;
      }

  goes_by : (bytes rest : List ℕ) (set : StreamSet) → observed.output a.link.conn ≡ bytes ++ rest → WaitsWithin set (outgoing a.link.conn)
      → ((s : ℕ) → set s ≡ true → takes_place (a.link.tunnels s).stage ≡ true) → GoesAdmitted start before bytes
  goes_by bytes rest set is waits places = record {
    conn = a.link.conn;
    stands = (all_keep l start a before stands).one.stands;
    rest = rest;
    first = is;
    admitted = each_so (λ f. has_data f ≡ true → set f.stream ≡ true) (λ f. has_data f ≡ true → IsAdmitted start before f.stream)
        (λ f within some. admitted f.stream (places f.stream (within some))) (frames_begun (length bytes) a.link.conn)
        (each_begun (λ f. has_data f ≡ true → set f.stream ≡ true) _ (outgoing a.link.conn).queue waits);
  }

  output_at : (phase : Phase) (bytes rest : List ℕ) → a.link.phase ≡ phase → output a.link ≡ bytes ++ rest
      → output_by phase a.link ≡ bytes ++ rest
  output_at phase bytes rest is first = sym (ap (λ (ph : Phase). output_by ph a.link) is) ∙ first

  link_goes : (x : Entry) → MayCome l a.link x → LinkIsAdmitted start before x
  link_goes (e.Went k bytes) (is, inl quiet, some, rest) =
      let serves = subst (λ (ph : Phase). WaitsIn ph a.link) quiet.1 (all_wait l start a before stands) in
      goes_by bytes rest.0 (set_of a.link) (output_at serving bytes rest.0 quiet.1 rest.1) serves.waits
      (λ s wait. placed (a.link.tunnels s).stage (quiet.0.calm.answered s)
      (and_parts (not (a.link.tunnels s).end_put) (holds_data (a.link.tunnels s).stage) wait).1)
  link_goes (e.Went k bytes) (is, inr fault, some, rest) =
      let none = subst (λ (ph : Phase). WaitsIn ph a.link) fault.2 (all_wait l start a before stands) in
      goes_by bytes rest.0 no_stream (output_at (faulted fault.1) bytes rest.0 fault.2 rest.1) none
      (λ s wait. absurd (false≢true wait))
  link_goes (e.Accepted k d) may = tt
  link_goes (e.Dialled k to why) may = tt
  link_goes (e.DialFailed to why) may = tt
  link_goes (e.Opened k) may = tt
  link_goes (e.Came k bytes) may = tt
  link_goes (e.Ended k) may = tt
  link_goes (e.Broke k) may = tt
  link_goes (e.Balked way) may = tt
  link_goes (e.Shut k) may = tt
  link_goes (e.Closed k why) may = tt
  link_goes e.Tick may = tt
  link_goes (e.Wait ready how) may = tt

  up_goes : (s : ℕ) (x : Entry) → UpMayCome l s a.link (a.link.tunnels s) x → UpIsAdmitted start s before x
  up_goes s (e.Went u bytes) may = admitted s (ap takes_place may.0.1)
  up_goes s (e.Accepted k d) may = tt
  up_goes s (e.Dialled k to why) may = tt
  up_goes s (e.DialFailed to why) may = tt
  up_goes s (e.Opened k) may = tt
  up_goes s (e.Came k bytes) may = tt
  up_goes s (e.Ended k) may = tt
  up_goes s (e.Broke k) may = tt
  up_goes s (e.Balked way) may = tt
  up_goes s (e.Shut k) may = tt
  up_goes s (e.Closed k why) may = tt
  up_goes s e.Tick may = tt
  up_goes s (e.Wait ready how) may = tt

next : (l : ℕ) (start : Resources) (a b : Local) (before : List Part) (p : Part) → StandsFor l start a before → Steps l a p b
    → AccessAt start before p
next l start a b before (entry x) stands steps = link_goes l start a before stands x steps.0
next l start a b before (up s x) stands steps = up_goes l start a before stands s x steps.0
next l start a b before welcomed stands steps = tt
next l start a b before crowded stands steps = tt
next l start a b before lacked stands steps = tt
next l start a b before (fronted seen) stands steps = tt
next l start a b before (misfronted fault) stands steps = tt
next l start a b before (looked ps told headers) stands steps = tt
next l start a b before (decided s full answer) stands steps = tt
next l start a b before (accepted s made) stands steps = tt
next l start a b before (refused s status resets made) stands steps = tt
next l start a b before (reset s code made) stands steps = tt
next l start a b before (left s made) stands steps = tt
next l start a b before (done s made) stands steps = tt
next l start a b before (put s bytes) stands steps = tt
next l start a b before (finished s) stands steps = tt
next l start a b before (credited s n) stands steps = tt
next l start a b before (applied r) stands steps = tt
next l start a b before (stopped why) stands steps = tt

pub admit : RunsAdmit
admit l start a parts stands = at_parts l start (AccessAt start) (next l start) a parts stands
