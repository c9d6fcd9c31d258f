-- Each tunnel ends for the first cause that applies, in every run of a link.
use Rattle.std.proofs.Common.{◌≡◌, ◌⊎◌, inl, inr, ℕ, Bool, false, List, [], refl, sym, ◌∙◌, subst}
use Rattle.std.proofs.lemmas.Bool.{false≢true}
use Rattle.hb_base.specs.declared.target.Target.{Target}
use Rattle.hb_conn.specs.Connection.{Connection, Finds}
use Rattle.hb_conn.specs.declared.found.Found.TheVariants as found
use Rattle.hb_held.specs.Held.{Resources}
use Rattle.hb_world.specs.declared.entry.Entry.{Entry}
use Rattle.hb_world.specs.declared.entry.Entry.TheVariants as e
use Rattle.hb_world.specs.declared.entry.Way.TheVariants as way
use Rattle.hb_inbound.specs.Calm.{IsQuiet, IsIdleBy}
use Rattle.hb_inbound.specs.Ends.{Life, none, pending, lives, life, Lives, IsPending, UpMayStand, up_of, EndedAreClosed, is_fault, WhereQuiet, EndsAt}
use Rattle.hb_inbound.specs.Ends as life
use Rattle.hb_inbound.specs.Inbound.{Phase, faulted}
use Rattle.hb_inbound.specs.Laws.{RunsEnd}
use Rattle.hb_kept.proofs.Opened.{told_are_numbered}
use Rattle.hb_inbound.specs.Sides.{conn_came, link_went, Was}
use Rattle.hb_inbound.specs.Part.{moves, tellings, Part, entry, up, welcomed, crowded, lacked, fronted, misfronted, looked, decided, accepted, refused, reset, left, done, put, finished, credited, applied, stopped}
use Rattle.hb_inbound.specs.Runs.{Local, MayCome, UpMayCome, Steps, StandsFor, begins, goes_on}
use Rattle.hb_inbound.specs.Tunnel.{Stage, unasked, requested, refusing, malformed, due, opening, accepting, live, failed, ended, over, gone, is_unanswered}
use Rattle.hb_inbound.proofs.AdmittedRun.{all_admit}
use Rattle.hb_inbound.proofs.Grown.{at_parts}
use Rattle.hb_inbound.proofs.Life.{SaysBy}
use Rattle.hb_inbound.proofs.LifeRun.{SaysAll, LateBy, step_says}
use Rattle.hb_inbound.proofs.RelaysRun.{all_relay}
use Rattle.hb_inbound.proofs.Runs.{all_keep}

-- a request comes only on a stream on which nothing was asked for before
abbrev pub OpensNew : Type 0
OpensNew = (l : ℕ) (start : Resources) (a : Local) (parts : List Part) → StandsFor l start a parts
    → (s : ℕ) (end : Bool) (d : Connection) → Finds a.link.conn d (found.Opened s end) → (a.link.tunnels s).stage ≡ unasked

module _ (opens_new : OpensNew) where
  -- in every run
  pub all_say : (l : ℕ) (start : Resources) (a : Local) (parts : List Part) → StandsFor l start a parts → SaysAll start parts a
  all_say l start a parts (begins is empty) =
      subst (λ (ps : List Part). SaysAll start ps a) (sym empty)
      (subst (SaysAll start []) (sym is) (record { each = λ s. record { life = refl; up = refl }; late = tt }))
  all_say l start b more (goes_on {a = a} {parts = parts} before p steps grows) =
      subst (λ (ps : List Part). SaysAll start ps b) (sym grows)
      (step_says start a parts (all_say l start a parts before) l p b (all_admit l start a parts before)
      (λ s end d finds. opens_new l start a parts before s end d finds) steps)

  module _ (l : ℕ) (start : Resources) (a : Local) (before : List Part) (stands : StandsFor l start a before) where
    pub said_at : (s : ℕ) (stage : Stage) → (a.link.tunnels s).stage ≡ stage
        → SaysBy stage (life start s before) (up_of s before) (a.link.tunnels s)
    said_at s stage is =
        subst (λ (st : Stage). SaysBy st (life start s before) (up_of s before) (a.link.tunnels s)) is
        ((all_say l start a before stands).each s)

    is_pending : (how : Life) (target : Target) → how ≡ pending target → IsPending how
    is_pending how target is = subst IsPending (sym is) tt

    is_live : (how : Life) (target : Target) → how ≡ lives target → Lives how
    is_live how target is = subst Lives (sym is) tt

    live_at : (s : ℕ) → (a.link.tunnels s).stage ≡ live → Lives (life start s before)
    live_at s is = is_live (life start s before) (a.link.tunnels s).target (said_at s live is).life

    opening_at : (s : ℕ) → (a.link.tunnels s).stage ≡ opening → IsPending (life start s before)
    opening_at s is = is_pending (life start s before) (a.link.tunnels s).target (said_at s opening is).life

    due_at : (s : ℕ) → (a.link.tunnels s).stage ≡ due → IsPending (life start s before)
    due_at s is = is_pending (life start s before) (a.link.tunnels s).target (said_at s due is).0.life

    -- where all is quiet every tunnel that ended has no upstream that isn't closed
    pub quiet_closed : IsQuiet a.link → EndedAreClosed start before
    quiet_closed quiet s why ended_so =
        by (a.link.tunnels s).stage refl (quiet.calm.answered s) (quiet.idle s) ((all_say l start a before stands).each s)
      where
        never : {A : Type 0} (other : Life) → life start s before ≡ other → (life.ended why ≡ other → ⊥) → A
        never other is apart = absurd (apart (sym ended_so ∙ is))

        by : (stage : Stage) → (a.link.tunnels s).stage ≡ stage → is_unanswered stage ≡ false → IsIdleBy stage (a.link.tunnels s)
            → SaysBy stage (life start s before) (up_of s before) (a.link.tunnels s) → up_of s before ≡ 0
        by unasked is calm idle says = says.up
        by (requested headers end) is calm idle says = says.up
        by (refusing status target) is calm idle says = says.up
        by malformed is calm idle says = says.up
        by due is calm idle says = says.0.up
        by opening is calm idle says = never (pending (a.link.tunnels s).target) says.life (λ same. cc)
        by accepting is calm idle says = absurd (false≢true (sym calm))
        by live is calm idle says = never (lives (a.link.tunnels s).target) says.life (λ same. cc)
        by (failed cause) is calm idle says = absurd (false≢true (sym calm))
        by (ended cause) is calm idle says = absurd (false≢true (sym calm))
        by (over cause) is calm idle says = absurd idle
        by gone is calm idle says = says.1

    -- what holds where all is quiet holds where something comes or goes on the link
    pub where_quiet : (Q : Type 0) → (IsQuiet a.link → Q) → (x : Entry) → MayCome l a.link x → WhereQuiet Q before x
    where_quiet Q holds = stands_at
      where
        faulted_told : (code : ℕ) → a.link.phase ≡ faulted code → Q ⊎ Was is_fault before
        faulted_told code is =
            inr (subst (λ (ph : Phase). LateBy ph before a.link) is (all_say l start a before stands).late).1

        stands_at : (x : Entry) → MayCome l a.link x → WhereQuiet Q before x
        stands_at (e.Came k bytes) (is, (inl quiet, wanted), octets, some, most) = holds quiet.0
        stands_at (e.Came k bytes) (is, (inr quiet, wanted), octets, some, most) = holds quiet.0
        stands_at (e.Ended k) (is, (inl quiet, wanted)) = holds quiet.0
        stands_at (e.Ended k) (is, (inr quiet, wanted)) = holds quiet.0
        stands_at (e.Went k bytes) (is, inl quiet, some, rest) = inl (holds quiet.0)
        stands_at (e.Went k bytes) (is, inr fault, some, rest) = faulted_told fault.1 fault.2
        stands_at (e.Broke k) (is, inl quiet) = inl (holds quiet.0)
        stands_at (e.Broke k) (is, inr (inl quiet)) = inl (holds quiet.0)
        stands_at (e.Broke k) (is, inr (inr fault)) = faulted_told fault.1 fault.2
        stands_at (e.Balked (way.Read k)) (is, (inl quiet, wanted)) = inl (holds quiet.0)
        stands_at (e.Balked (way.Read k)) (is, (inr quiet, wanted)) = inl (holds quiet.0)
        stands_at (e.Balked (way.Write k)) (is, inl quiet, some) = inl (holds quiet.0)
        stands_at (e.Balked (way.Write k)) (is, inr fault, some) = faulted_told fault.1 fault.2
        stands_at (e.Balked (way.Listen d at listening)) may = absurd may
        stands_at (e.Balked (way.Accept d)) may = absurd may
        stands_at (e.Balked (way.Look k)) may = absurd may
        stands_at (e.Balked (way.Finish k)) may = absurd may
        stands_at (e.Accepted k d) may = tt
        stands_at (e.Closed k why) may = tt
        stands_at (e.Dialled k to why) may = tt
        stands_at (e.DialFailed to why) may = tt
        stands_at (e.Opened k) may = tt
        stands_at (e.Shut k) may = tt
        stands_at e.Tick may = tt
        stands_at (e.Wait ready how) may = tt

    up_stands : (s : ℕ) (x : Entry) → UpMayCome l s a.link (a.link.tunnels s) x → UpMayStand (life start s before) x
    up_stands s (e.Dialled u to why) may = due_at s may.1
    up_stands s (e.DialFailed to why) may = due_at s may.1
    up_stands s (e.Opened u) may = opening_at s may.1
    up_stands s (e.Came u bytes) may = live_at s may.0.1
    up_stands s (e.Ended u) may = live_at s may.0.1
    up_stands s (e.Went u bytes) may = live_at s may.0.1
    up_stands s (e.Shut u) may = live_at s may.1
    up_stands s (e.Closed u why) may = (said_at s (over why) may.1).life
    up_stands s (e.Broke u) (inl may) = inl (opening_at s may.1)
    up_stands s (e.Broke u) (inr may) = inr (live_at s may.1)
    up_stands s (e.Balked (way.Finish u)) may = inl (opening_at s may.1)
    up_stands s (e.Balked (way.Read u)) may = inr (live_at s may.0.1)
    up_stands s (e.Balked (way.Write u)) may = inr (live_at s may.0.1)
    up_stands s (e.Balked (way.Listen d at listening)) may = absurd may
    up_stands s (e.Balked (way.Accept d)) may = absurd may
    up_stands s (e.Balked (way.Look k)) may = absurd may
    up_stands s (e.Accepted k d) may = absurd may
    up_stands s e.Tick may = absurd may
    up_stands s (e.Wait ready how) may = absurd may

  next : (l : ℕ) (start : Resources) (a b : Local) (before : List Part) (p : Part) → StandsFor l start a before → Steps l a p b
      → EndsAt start before p
  next l start a b before (entry x) stands steps =
      where_quiet l start a before stands (EndedAreClosed start before) (quiet_closed l start a before stands) x steps.0
  next l start a b before (up s x) stands steps = up_stands l start a before stands s x steps.0
  next l start a b before (put s bytes) stands steps = live_at l start a before stands s steps.0.2
  next l start a b before (finished s) stands steps = live_at l start a before stands s steps.0.2
  next l start a b before (credited s n) stands steps = live_at l start a before stands s steps.0.2
  next l start a b before welcomed stands steps = tt
  next l start a b before crowded stands steps = tt
  next l start a b before lacked stands steps = tt
  next l start a b before (fronted seen) stands steps = tt
  next l start a b before (misfronted fault) stands steps = tt
  next l start a b before (looked ps told headers) stands steps = tt
  next l start a b before (decided s full answer) stands steps = tt
  next l start a b before (accepted s made) stands steps = tt
  next l start a b before (refused s status resets made) stands steps = tt
  next l start a b before (reset s code made) stands steps = tt
  next l start a b before (left s made) stands steps = tt
  next l start a b before (done s made) stands steps = tt
  next l start a b before (applied r) stands steps = tt
  next l start a b before (stopped why) stands steps = tt

  pub end_with : RunsEnd
  end_with l start a parts stands = at_parts l start (EndsAt start) (next l start) a parts stands

-- no stream is opened twice
pub new_streams : OpensNew
new_streams l start a parts stands s end d finds =
    let number = told_are_numbered (moves parts) (tellings parts) (conn_came parts) (link_went parts) a.link.conn d (found.Opened s end)
    (all_keep l start a parts stands).one.stands finds in
    ((all_relay l start a parts stands s).new number.0).0

pub end : RunsEnd
end = end_with new_streams
