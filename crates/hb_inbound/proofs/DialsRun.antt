-- Each dial goes to the target that was asked for, and none is left out, in every run of a link.
use Rattle.std.proofs.Common.{◌≡◌, inl, inr, ℕ, ◌<◌, ◌==◌, Bool, true, false, cond, List, [], ◌∷◌, ◌++◌, refl, ap, sym, ◌∙◌, subst, arith}
use Rattle.std.proofs.lemmas.Bool.{false≢true}
use Rattle.hb_base.specs.declared.cause.Cause.{Cause}
use Rattle.hb_base.specs.declared.cause.Cause.TheVariants as cause
use Rattle.hb_base.specs.declared.door.Why.{Why}
use Rattle.hb_base.specs.declared.door.Why.TheVariants as whys
use Rattle.hb_base.specs.declared.target.Target.{Target}
use Rattle.hb_conn.specs.Connection.{Connection}
use Rattle.hb_conn.specs.Observed.{chunk_of}
use Rattle.hb_conn.specs.declared.found.Found.{Found}
use Rattle.hb_conn.specs.declared.found.Found.TheVariants as found
use Rattle.hb_held.specs.Held.{Resources}
use Rattle.hb_held.specs.Outcome.{after_response}
use Rattle.hb_hpack.specs.declared.header.HeaderList.{HeaderList}
use Rattle.hb_table.specs.Judgement.{judged}
use Rattle.hb_table.specs.declared.judgement.Judged.{Judged}
use Rattle.hb_table.specs.declared.judgement.Judged.TheVariants.{Admitted, Unknown, Denied}
use Rattle.hb_verdict.specs.declared.verdict.Verdict.{Verdict}
use Rattle.hb_verdict.specs.declared.verdict.Verdict.TheVariants.{Status, Reset, Dial}
use Rattle.hb_world.specs.declared.entry.Entry.{Entry}
use Rattle.hb_world.specs.declared.entry.Entry.TheVariants as e
use Rattle.hb_world.specs.declared.entry.Way.TheVariants as way
use Rattle.hb_inbound.specs.Calm.{IsQuiet, IsIdleBy}
use Rattle.hb_inbound.specs.Dials.{IsDial, AllDialled, UpDials, DialsAt, DialsElsewhere, LeavesOutDial, DialsTwice, DialsForAnother, DialMayGo, asked_for}
use Rattle.hb_inbound.specs.Ends.{Life, none, pending, lives, life, up_of, is_fault}
use Rattle.hb_inbound.specs.Ends as life
use Rattle.hb_inbound.specs.Inbound.{Inbound, Phase, unborn, arriving, fronting, serving, faulted, closing, closed, at_stream, came_by, ended_by, broken_by, on_found, judged_by}
use Rattle.hb_inbound.specs.Laws.{RunsDial}
use Rattle.hb_inbound.specs.Part.{Part, entry, up, welcomed, crowded, lacked, misfronted, looked, decided, accepted, refused, reset, left, done, put, finished, credited, applied, stopped}
use Rattle.hb_inbound.specs.Part as part
use Rattle.hb_inbound.specs.Runs.{Local, MayCome, UpMayCome, entered, Steps, StandsFor, begins, goes_on, with_link, tunnel_for, put_down}
use Rattle.hb_inbound.specs.Tunnel.{Tunnel, Stage, unasked, requested, refusing, malformed, due, opening, accepting, live, failed, ended, over, gone, at_stage, ends_by, ends_for, left_with, takes_place, up_entered, came_up, peer_ended, requested_with, is_unanswered}
use Rattle.hb_inbound.proofs.Admitted.{at_one}
use Rattle.hb_inbound.proofs.EndsRun.{new_streams, said_at, where_quiet}
use Rattle.hb_inbound.proofs.Grown.{at_parts}
use Rattle.hb_inbound.proofs.Left.{IsLeft, left_so, refuses_left, resets_left, leaves_left}
use Rattle.hb_inbound.proofs.Life.{SaysBy}
use Rattle.hb_inbound.proofs.RefusedRuns.{last, Places, places}

-- EACH UPSTREAM HAS A NUMBER

-- of a tunnel that was dialled and goes on
abbrev HasUp : Stage → ℕ → Type 0
HasUp opening u = 0 < u
HasUp accepting u = 0 < u
HasUp live u = 0 < u
HasUp stage u = Unit {0}

abbrev Dialled : Tunnel → Type 0
Dialled t = HasUp t.stage t.up

abbrev KeepsUp : Tunnel → Tunnel → Type 0
KeepsUp old new = Dialled old → Dialled new

ends_up : (why : Cause) (stage : Stage) (u : ℕ) → HasUp stage u → HasUp (ends_by why stage) u
ends_up why unasked u is = tt
ends_up why (requested headers end) u is = tt
ends_up why (refusing status target) u is = tt
ends_up why malformed u is = tt
ends_up why due u is = tt
ends_up why opening u is = tt
ends_up why accepting u is = tt
ends_up why live u is = tt
ends_up why (failed cause) u is = tt
ends_up why (ended cause) u is = tt
ends_up why (over cause) u is = tt
ends_up why gone u is = tt

ends_keep : (why : Cause) (t : Tunnel) → KeepsUp t (ends_for why t)
ends_keep why t is = ends_up why t.stage t.up is

left_keeps : (old new : Tunnel) → IsLeft old new → Dialled new
left_keeps old new is = left_so Dialled old new tt (λ why. tt) is

judged_keeps : (b : Bool) (j : Judged) (t : Tunnel) → KeepsUp t (cond b (judged_by j t) t)
judged_keeps false j t is = is
judged_keeps true Admitted t is = is
judged_keeps true Unknown t is = ends_keep cause.Revoked t is
judged_keeps true Denied t is = ends_keep cause.Revoked t is

answers_up : (answer : Verdict) (headers : HeaderList) (end : Bool) → Dialled (tunnel_for answer headers end)
answers_up (Status status) headers end = tt
answers_up Reset headers end = tt
answers_up (Dial target) headers true = tt
answers_up (Dial target) headers false = tt

module _ (l : ℕ) (a : Local) (all : (s : ℕ) → Dialled (a.link.tunnels s)) where
  abbrev AllIn : Inbound → Type 0
  AllIn y = (s : ℕ) → Dialled (y.tunnels s)

  one : (k : ℕ) (change : Tunnel → Tunnel) → Dialled (change (a.link.tunnels k)) → (s : ℕ) → Dialled ((at_stream k change a.link).tunnels s)
  one k change here = at_one k change a.link (λ s t. Dialled t) here (λ s apart. all s)

  came_has : (bytes : List ℕ) (phase : Phase) → (s : ℕ) → Dialled ((came_by phase bytes a.link).tunnels s)
  came_has bytes unborn = all
  came_has bytes arriving = all
  came_has bytes fronting = all
  came_has bytes serving = all
  came_has bytes (faulted code) = all
  came_has bytes (closing why) = all
  came_has bytes closed = all

  ended_has : (phase : Phase) → (s : ℕ) → Dialled ((ended_by phase a.link).tunnels s)
  ended_has unborn = all
  ended_has arriving = all
  ended_has fronting = all
  ended_has serving = λ s. ends_keep cause.PeerGone (a.link.tunnels s) (all s)
  ended_has (faulted code) = all
  ended_has (closing why) = all
  ended_has closed = all

  broken_has : (phase : Phase) → (s : ℕ) → Dialled ((broken_by phase a.link).tunnels s)
  broken_has unborn = all
  broken_has arriving = all
  broken_has fronting = all
  broken_has serving = λ s. ends_keep cause.PeerGone (a.link.tunnels s) (all s)
  broken_has (faulted code) = all
  broken_has (closing why) = all
  broken_has closed = all

  entry_has : (z : Entry) → MayCome l a.link z → (s : ℕ) → Dialled ((entered z a.link).tunnels s)
  entry_has (e.Came k bytes) may = came_has bytes a.link.phase
  entry_has (e.Ended k) may = ended_has a.link.phase
  entry_has (e.Broke k) may = broken_has a.link.phase
  entry_has (e.Went k bytes) may = all
  entry_has (e.Accepted k d) may = all
  entry_has (e.Closed k why) may = all
  entry_has (e.Balked w) may = all
  entry_has (e.Dialled k to why) may = absurd may
  entry_has (e.DialFailed to why) may = absurd may
  entry_has (e.Opened k) may = absurd may
  entry_has (e.Shut k) may = absurd may
  entry_has e.Tick may = absurd may
  entry_has (e.Wait ready how) may = absurd may

  up_has : (k : ℕ) (z : Entry) → UpMayCome l k a.link (a.link.tunnels k) z → (s : ℕ)
      → Dialled ((at_stream k (up_entered z) a.link).tunnels s)
  up_has k (e.Dialled u to why) may = one k (up_entered (e.Dialled u to why)) may.2.0
  up_has k (e.DialFailed to why) may = one k (up_entered (e.DialFailed to why)) (ends_keep cause.UpFault (a.link.tunnels k) (all k))
  up_has k (e.Opened u) may =
      one k (up_entered (e.Opened u)) (subst (λ (stage : Stage). HasUp stage (a.link.tunnels k).up) may.1 (all k))
  up_has k (e.Came u bytes) may = one k (up_entered (e.Came u bytes)) (all k)
  up_has k (e.Ended u) may = one k (up_entered (e.Ended u)) (all k)
  up_has k (e.Went u bytes) may = one k (up_entered (e.Went u bytes)) (all k)
  up_has k (e.Broke u) may = one k (up_entered (e.Broke u)) (ends_keep cause.UpFault (a.link.tunnels k) (all k))
  up_has k (e.Shut u) may = one k (up_entered (e.Shut u)) (all k)
  up_has k (e.Closed u why) may = one k (up_entered (e.Closed u why)) tt
  up_has k (e.Balked w) may = one k (up_entered (e.Balked w)) (all k)
  up_has k (e.Accepted j d) may = absurd may
  up_has k e.Tick may = absurd may
  up_has k (e.Wait ready how) may = absurd may

  found_has : (told : Found) (headers : HeaderList) (d : Connection) → (s : ℕ) → Dialled ((on_found told headers d a.link).tunnels s)
  found_has found.Silent headers d = all
  found_has (found.Opened k end) headers d = one k (λ t. requested_with headers end) tt
  found_has (found.Chunk k end) headers d = one k (came_up (chunk_of d (found.Chunk k end))) (all k)
  found_has (found.Ended k) headers d = one k peer_ended (all k)
  found_has (found.Reset k code) headers d =
      one k (ends_for (cause.PeerReset code)) (ends_keep (cause.PeerReset code) (a.link.tunnels k) (all k))
  found_has (found.Broken k code) headers d =
      one k (ends_for (cause.StreamFault code)) (ends_keep (cause.StreamFault code) (a.link.tunnels k) (all k))
  found_has (found.GoneAway last) headers d = all
  found_has (found.Fault code) headers d = λ s. ends_keep (cause.ConnFault code) (a.link.tunnels s) (all s)

  to : (b : Local) (y : Inbound) → b ≡ with_link y a → AllIn y → AllIn b.link
  to b y is now = subst (λ (z : Local). AllIn z.link) (sym is) now

  step_has : (p : Part) (b : Local) → Steps l a p b → AllIn b.link
  step_has (entry z) b steps = to b (entered z a.link) steps.1 (entry_has z steps.0)
  step_has (up k z) b steps = to b (at_stream k (up_entered z) a.link) steps.1 (up_has k z steps.0)
  step_has welcomed b steps = to b _ steps.1 all
  step_has crowded b steps = to b _ steps.1 all
  step_has lacked b steps = to b _ steps.1 (λ s. ends_keep cause.NoMemory (a.link.tunnels s) (all s))
  step_has (part.fronted seen) b steps = to b _ steps.4 all
  step_has (misfronted fault) b steps = to b _ steps.2 all
  step_has (looked ps told headers) b steps = to b (on_found told headers steps.2 a.link) steps.5 (found_has told headers steps.2)
  step_has (decided s full answer) b steps =
      to b _ steps.5 (one s (λ t. tunnel_for answer steps.1 steps.2) (answers_up answer steps.1 steps.2))
  step_has (accepted s made) b steps =
      to b _ steps.3
      (one s (λ t. at_stage live (a.link.tunnels s)) (subst (λ (stage : Stage). HasUp stage (a.link.tunnels s).up) steps.1 (all s)))
  step_has (refused s status resets made) b steps =
      to b _ steps.4
      (one s (λ t. steps.1)
      (left_keeps (a.link.tunnels s) steps.1 (refuses_left a.link l s status (a.link.tunnels s).stage made steps.1 steps.2)))
  step_has (reset s code made) b steps =
      to b _ steps.3
      (one s (λ t. steps.1)
      (left_keeps (a.link.tunnels s) steps.1 (resets_left a.link l s code (a.link.tunnels s).stage made steps.1 steps.2)))
  step_has (left s made) b steps =
      to b _ steps.2
      (one s (λ t. steps.0)
      (left_keeps (a.link.tunnels s) steps.0 (leaves_left a.link l s 0 (a.link.tunnels s).stage made steps.0 steps.1)))
  step_has (done s made) b steps =
      to b _ steps.3
      (one s (left_with cause.Done)
      (left_keeps (a.link.tunnels s) (left_with cause.Done (a.link.tunnels s)) (inr (cause.Done, refl))))
  step_has (put s bytes) b steps = to b _ steps.3 (one s (λ t. put_down a.link.conn s (a.link.tunnels s)) (all s))
  step_has (finished s) b steps = to b _ steps.2 (one s (λ t. record (a.link.tunnels s) { end_put = true }) (all s))
  step_has (credited s n) b steps = to b _ steps.3 (one s (λ t. record (a.link.tunnels s) { owed = 0 }) (all s))
  step_has (applied r) b steps =
      let h = after_response a.held r in
      subst (λ (z : Local). AllIn z.link) (sym steps)
      (λ s. judged_keeps (takes_place (a.link.tunnels s).stage) (judged h a.link.peer (a.link.tunnels s).target) (a.link.tunnels s) (all s))
  step_has (stopped why) b steps = to b _ steps (λ s. ends_keep why (a.link.tunnels s) (all s))

all_have : (l : ℕ) (start : Resources) (a : Local) (parts : List Part) → StandsFor l start a parts → (s : ℕ) → Dialled (a.link.tunnels s)
all_have l start a parts (begins is empty) = subst (λ (z : Local). (s : ℕ) → Dialled (z.link.tunnels s)) (sym is) (λ s. tt)
all_have l start b more (goes_on {a = a} {parts = parts} before p steps is) = step_has l a (all_have l start a parts before) p b steps

-- THE LAW

module _ (l : ℕ) (start : Resources) (a : Local) (before : List Part) (stands : StandsFor l start a before) where
  -- where all is quiet none waits for its dial
  quiet_dialled : IsQuiet a.link → AllDialled start before
  quiet_dialled quiet s target pends zero_up =
      by (a.link.tunnels s).stage refl (quiet.calm.answered s) (quiet.idle s)
      (said_at new_streams l start a before stands s (a.link.tunnels s).stage refl)
      (all_have l start a before stands s)
    where
      never : (other : Life) → life start s before ≡ other → (pending target ≡ other → ⊥) → ⊥
      never other is apart = apart (sym pends ∙ is)

      by : (stage : Stage) → (a.link.tunnels s).stage ≡ stage → is_unanswered stage ≡ false → IsIdleBy stage (a.link.tunnels s)
          → SaysBy stage (life start s before) (up_of s before) (a.link.tunnels s) → HasUp stage (a.link.tunnels s).up → ⊥
      by unasked is calm idle says has = never _ says.life (λ same. cc)
      by (requested headers end) is calm idle says has = never _ says.life (λ same. cc)
      by (refusing status target) is calm idle says has = never _ says.life (λ same. cc)
      by malformed is calm idle says has = never _ says.life (λ same. cc)
      by due is calm idle says has = idle
      by opening is calm idle says has = omega (arith, says.up, zero_up, has)
      by accepting is calm idle says has = false≢true (sym calm)
      by live is calm idle says has = never _ says.life (λ same. cc)
      by (failed cause) is calm idle says has = never _ says.life (λ same. cc)
      by (ended cause) is calm idle says has = never _ says.life (λ same. cc)
      by (over cause) is calm idle says has = never _ says.life (λ same. cc)
      by gone is calm idle (inl past, left_up) has = never _ past (λ same. cc)
      by gone is calm idle (inr (why, past), left_up) has = never _ past (λ same. cc)

  is_dial : (s : ℕ) (to : Target) (why : Why) → (a.link.tunnels s).stage ≡ due → to ≡ (a.link.tunnels s).target
      → why ≡ whys.Upstream l s → IsDial start before s to why
  is_dial s to why at target reason =
      let says = said_at new_streams l start a before stands s due at in
      record { pends = says.0.life ∙ ap pending (sym target); undialled = says.0.up; link = l; why_is = reason }

  up_dials : (s : ℕ) (x : Entry) → UpMayCome l s a.link (a.link.tunnels s) x → UpDials start before s x
  up_dials s (e.Dialled u to why) may = is_dial s to why may.1 may.3 may.4
  up_dials s (e.DialFailed to why) may = is_dial s to why may.1 may.2 may.3
  up_dials s (e.Opened u) may = quiet_dialled may.0
  up_dials s (e.Came u bytes) may = quiet_dialled may.0.0
  up_dials s (e.Ended u) may = quiet_dialled may.0.0
  up_dials s (e.Went u bytes) may = quiet_dialled may.0.0
  up_dials s (e.Shut u) may = tt
  up_dials s (e.Closed u why) may = tt
  up_dials s (e.Broke u) (inl may) = quiet_dialled may.0
  up_dials s (e.Broke u) (inr may) = quiet_dialled may.0
  up_dials s (e.Balked (way.Finish u)) may = quiet_dialled may.0
  up_dials s (e.Balked (way.Read u)) may = quiet_dialled may.0.0
  up_dials s (e.Balked (way.Write u)) may = quiet_dialled may.0.0
  up_dials s (e.Balked (way.Listen d at listening)) may = absurd may
  up_dials s (e.Balked (way.Accept d)) may = absurd may
  up_dials s (e.Balked (way.Look k)) may = absurd may
  up_dials s (e.Accepted k d) may = absurd may
  up_dials s e.Tick may = absurd may
  up_dials s (e.Wait ready how) may = absurd may

next : (l : ℕ) (start : Resources) (a b : Local) (before : List Part) (p : Part) → StandsFor l start a before → Steps l a p b
    → DialsAt start before p
next l start a b before (entry x) stands steps =
    where_quiet new_streams l start a before stands (AllDialled start before) (quiet_dialled l start a before stands) x steps.0
next l start a b before (up s x) stands steps = up_dials l start a before stands s x steps.0
next l start a b before (put s bytes) stands steps = tt
next l start a b before (finished s) stands steps = tt
next l start a b before (credited s n) stands steps = tt
next l start a b before welcomed stands steps = tt
next l start a b before crowded stands steps = tt
next l start a b before lacked stands steps = tt
next l start a b before (part.fronted seen) stands steps = tt
next l start a b before (misfronted fault) stands steps = tt
next l start a b before (looked ps told headers) stands steps = tt
next l start a b before (decided s full answer) stands steps = tt
next l start a b before (accepted s made) stands steps = tt
next l start a b before (refused s status resets made) stands steps = tt
next l start a b before (reset s code made) stands steps = tt
next l start a b before (left s made) stands steps = tt
next l start a b before (done s made) stands steps = tt
next l start a b before (applied r) stands steps = tt
next l start a b before (stopped why) stands steps = tt

pub runs_dial : RunsDial
runs_dial l start a parts stands = at_parts l start (DialsAt start) (next l start) a parts stands

-- EXAMPLES

pub dials_elsewhere : DialsElsewhere
dials_elsewhere start seen target other apart law =
    let at = last (DialsAt start) (asked_for seen target) (up 1 (e.Dialled 3 other (whys.Upstream 2 1))) law in
    apart (let same : pending target ≡ pending other = at.pends in cc)

pub leaves_out_dial : LeavesOutDial
leaves_out_dial start seen target bytes law =
    last (DialsAt start) (asked_for seen target) (entry (e.Came 2 bytes)) law 1 target refl refl

pub dials_twice : DialsTwice
dials_twice start seen target law =
    let before = asked_for seen target ++ up 1 (e.Dialled 3 target (whys.Upstream 2 1)) ∷ [] in
    let at = law before (up 1 (e.Dialled 4 target (whys.Upstream 2 1))) [] refl in
    let again : 3 ≡ 0 = at.undialled in absurd (omega (arith, again))

pub dials_for_another : DialsForAnother
dials_for_another start seen target law =
    let at = last (DialsAt start) (asked_for seen target) (up 1 (e.Dialled 3 target (whys.Upstream 2 5))) law in
    let why : whys.Upstream 2 5 ≡ whys.Upstream at.link 1 = at.why_is in cc

pub dial_may_go : DialMayGo
unfolding Places
dial_may_go start seen target bytes =
    places (DialsAt start) [] _ (tt, (tt, (record { pends = refl; undialled = refl; link = 2; why_is = refl }, (behind, tt))))
  where
    behind : AllDialled start (asked_for seen target ++ up 1 (e.Dialled 3 target (whys.Upstream 2 1)) ∷ [])
    behind s to pends zero_up = by (1 == s) refl pends zero_up
      where
        by : (b : Bool) → (1 == s) ≡ b
            → life start s (asked_for seen target ++ up 1 (e.Dialled 3 target (whys.Upstream 2 1)) ∷ []) ≡ pending to
            → up_of s (asked_for seen target ++ up 1 (e.Dialled 3 target (whys.Upstream 2 1)) ∷ []) ≡ 0 → ⊥
        by true is pends zero_up =
            let three : 3 ≡ 0 = sym (ap (λ (b : Bool). cond b 3 0) is) ∙ zero_up in omega (arith, three)
        by false is pends zero_up =
            let never : life.none ≡ pending to =
            sym (ap (λ (b : Bool). cond b (cond b (pending target) life.none) (cond b (pending target) life.none)) is) ∙ pends in cc
