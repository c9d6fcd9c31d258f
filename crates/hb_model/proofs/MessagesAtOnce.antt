-- Each response is applied before the next entry.
use Rattle.std.proofs.Common.{◌≡◌, ℕ, ◌==◌, Bool, true, false, ◌&&◌, not, if◌then◌else◌, List, [], ◌++◌, length, map, Option, Some, None, Result, Ok, Err, refl, ap, sym, ◌∙◌, subst, ⊎_elim}
use Rattle.std.proofs.lemmas.Bool.{cond_both, both_ways}
use Rattle.std.proofs.lemmas.List.{append-nil}
use Rattle.hb_base.specs.declared.cause.Cause.{Cause}
use Rattle.hb_base.specs.declared.door.Why.{Why}
use Rattle.hb_base.specs.declared.door.Why.TheVariants as whys
use Rattle.hb_base.specs.declared.target.Target.{Target}
use Rattle.hb_grpc.specs.Framed.{Framed, framed_of}
use Rattle.hb_grpc.specs.Reading.{first_of}
use Rattle.hb_grpc.specs.declared.fault.GrpcFault.{GrpcFault}
use Rattle.hb_grpc.proofs.Runs.{Waits, not_held}
use Rattle.hb_grpc.proofs.Whole.{framed_none, framed_fault}
use Rattle.hb_disco.specs.Response.{response_of}
use Rattle.hb_held.specs.Held.{Resources}
use Rattle.hb_world.specs.declared.entry.Entry.{Entry}
use Rattle.hb_world.specs.declared.entry.Entry.TheVariants as e
use Rattle.hb_world.proofs.LifeLemmas.{and-false}
use Rattle.hb_model.specs.declared.config.NodeConfig.{NodeConfig}
use Rattle.hb_model.specs.Discovery.{Discovery, Phase, unborn, dialling, live, faulted, ending, closed, opened, came, ended, broken, went, wrote, stopped_for, phase_by, end_by, headers_read, on_found, longest_message}
use Rattle.hb_model.specs.Machine.{Machine, dialled_for, heard}
use Rattle.hb_model.specs.Point.{Point, entry, looked, applied, refused, used, put, stopped}
use Rattle.hb_model.specs.Messages.{responses, messages_came, AllMayBeApplied}
use Rattle.hb_model.specs.Runs.{IsQuiet, IsCalmBy, Steps, StandsFor, begins, goes_on}
use Rattle.hb_model.specs.Laws.{RunsApplyAtOnce}
use Rattle.hb_model.proofs.Places.{at_entries}
use Rattle.hb_model.proofs.Open.{open_or_not}
use Rattle.hb_model.proofs.CallsSaid.{Said, seen}
use Rattle.hb_model.proofs.CallsPhases.{Fits, ended_by}
use Rattle.hb_model.proofs.CallsLives.{lived}
use Rattle.hb_model.proofs.AtOnce.{OfEach, at_once}
use Rattle.hb_model.proofs.MessagesRun.{IsReadBy, all_read}

-- no DATA is in hand on a link that isn't open
IsIdle : Discovery → Type 0
IsIdle x = x.phase ≡ dialling → x.chunk ≡ []

AreIdle : Machine → Type 0
AreIdle m = (l : ℕ) → IsIdle (m.links l)

not_opened : (p : Phase) → opened p ≡ dialling → ⊥
not_opened unborn is = cc
not_opened dialling is = cc
not_opened live is = cc
not_opened (faulted code) is = cc
not_opened (ending why) is = cc
not_opened closed is = cc

was_ended : (p : Phase) → ended p ≡ dialling → p ≡ dialling
was_ended unborn is = is
was_ended dialling is = is
was_ended live is = absurd cc
was_ended (faulted code) is = is
was_ended (ending why) is = is
was_ended closed is = is

not_broken : (p : Phase) → broken p ≡ dialling → ⊥
not_broken unborn is = cc
not_broken dialling is = cc
not_broken live is = cc
not_broken (faulted code) is = cc
not_broken (ending why) is = cc
not_broken closed is = cc

was_went : (p : Phase) → went p ≡ dialling → p ≡ dialling
was_went unborn is = is
was_went dialling is = is
was_went live is = is
was_went (faulted code) is = absurd cc
was_went (ending why) is = is
was_went closed is = is

not_stopped : (why : Cause) (p : Phase) → stopped_for why p ≡ dialling → ⊥
not_stopped why unborn is = cc
not_stopped why dialling is = cc
not_stopped why live is = cc
not_stopped why (faulted code) is = cc
not_stopped why (ending other) is = cc
not_stopped why closed is = cc

not_looked : (o : Option Cause) → phase_by live o ≡ dialling → ⊥
not_looked None is = cc
not_looked (Some why) is =
    ⊎_elim (λ faults. let now = faults.2 in absurd cc) (λ (ends : phase_by live (Some why) ≡ ending why). absurd cc) (ended_by why)

-- a change of a link leaves it so
idle_at : (b : Bool) (new old : Discovery) → (IsIdle old → IsIdle new) → IsIdle old → IsIdle (if b then new else old)
idle_at b new old change idle = cond_both b new old IsIdle (λ is. change idle) (λ is. idle)

idle_dialled : (id : List ℕ) (to : Target) (held : Resources) (why : Why) (d : Discovery) → IsIdle d
    → IsIdle (dialled_for id to held why d)
unfolding IsIdle
idle_dialled id to held whys.Discovery d idle = λ is. refl
idle_dialled id to held _ d idle = idle

idle_heard : (g : NodeConfig) (held : Resources) (x : Entry) (l : ℕ) (d : Discovery) → IsIdle d → IsIdle (heard g held x l d)
unfolding IsIdle
idle_heard g held (e.Accepted k door) l d idle = idle
idle_heard g held (e.Dialled k to why) l d idle = idle_at (k == l) _ d (idle_dialled g.id to held why d) idle
idle_heard g held (e.DialFailed to why) l d idle = idle
idle_heard g held (e.Opened k) l d idle = idle_at (k == l) _ d (λ i is. absurd (not_opened d.phase is)) idle
idle_heard g held (e.Came k bytes) l d idle = idle_at (k == l) _ d (λ i. open_or_not IsIdle (came bytes) d i i) idle
idle_heard g held (e.Ended k) l d idle = idle_at (k == l) _ d (λ i is. i (was_ended d.phase is)) idle
idle_heard g held (e.Broke k) l d idle = idle_at (k == l) _ d (λ i is. absurd (not_broken d.phase is)) idle
idle_heard g held (e.Went k bytes) l d idle =
    idle_at (k == l) _ d (λ i. open_or_not IsIdle (wrote (length bytes)) d (λ is. i (was_went d.phase is)) i) idle
idle_heard g held (e.Balked way) l d idle = idle
idle_heard g held (e.Shut k) l d idle = idle
idle_heard g held (e.Closed k why) l d idle = idle_at (k == l) _ d (λ i is. absurd (let never : closed ≡ dialling = is in cc)) idle
idle_heard g held e.Tick l d idle = idle
idle_heard g held (e.Wait ready way) l d idle = idle

-- a link that is open stays so, or ends
idle_link : (m n next : Machine) (k : ℕ) (new : Discovery) → n ≡ next → ((l : ℕ) → next.links l ≡ (if k == l then new else m.links l))
    → (new.phase ≡ dialling → ⊥) → AreIdle m → AreIdle n
unfolding AreIdle IsIdle
idle_link m n next k new is links never idle l =
    subst IsIdle (sym (ap (λ (x : Machine). x.links l) is ∙ links l))
    (idle_at (k == l) new (m.links l) (λ i at. absurd (never at)) (idle l))

still_live : (x : Discovery) → x.phase ≡ live → x.phase ≡ dialling → ⊥
still_live x is at = let never : live ≡ dialling = sym is ∙ at in cc

idle_point : (g : NodeConfig) (m n : Machine) (p : Point) → AreIdle m → Steps g m p n → AreIdle n
unfolding AreIdle IsIdle
idle_point g m n (entry x) idle steps = λ l.
    subst IsIdle (sym (ap (λ (y : Machine). y.links l) steps.1)) (idle_heard g m.held x l (m.links l) (idle l))
idle_point g m n (looked k ps told headers) idle steps =
    let why = end_by (m.links k).answered (headers_read steps.1) told in
    idle_link m n _ k (on_found told steps.1 (m.links k)) steps.4 (λ l. refl)
    (λ at. not_looked why (sym (ap (λ (p : Phase). phase_by p why) steps.0) ∙ at)) idle
idle_point g m n (applied k r) idle steps = idle_link m n _ k _ steps.3 (λ l. refl) (still_live (m.links k) steps.0) idle
idle_point g m n (refused k) idle steps = idle_link m n _ k _ steps.2 (λ l. refl) (λ at. absurd cc) idle
idle_point g m n (used k c) idle steps = idle_link m n _ k _ steps.2 (λ l. refl) (still_live (m.links k) steps.0) idle
idle_point g m n (put k bytes) idle steps = idle_link m n _ k _ steps.3 (λ l. refl) (still_live (m.links k) steps.0) idle
idle_point g m n (stopped why) idle steps = λ l.
    subst IsIdle (sym (ap (λ (y : Machine). y.links l) steps.1)) (λ at. absurd (not_stopped why (m.links l).phase at))

idle_all : (g : NodeConfig) (m : Machine) (points : List Point) → StandsFor g m points → AreIdle m
unfolding AreIdle IsIdle
idle_all g m points (begins is none) = λ l at. ap (λ (x : Machine). (x.links l).chunk) is
idle_all g n more (goes_on {m = m} {points = points} before p steps grows) = idle_point g m n p (idle_all g m points before) steps

-- what waits for more has no message
no_more : (limit : ℕ) (bytes : List ℕ) (o : Result (Option ℕ) GrpcFault) → first_of limit bytes ≡ o → Waits limit bytes
    → (framed_of limit bytes).messages ≡ []
no_more limit bytes (Ok None) is waits = ap (λ (f : Framed). f.messages) (framed_none limit bytes is)
no_more limit bytes (Ok (Some size)) is waits = absurd (not_held limit size bytes waits is)
no_more limit bytes (Err fault) is waits = ap (λ (f : Framed). f.messages) (framed_fault limit bytes fault is)

-- a link without DATA in hand has all its responses applied
all_applied : (points : List Point) (l : ℕ) (x : Discovery) → IsReadBy points l x → x.chunk ≡ []
    → messages_came l points ≡ map Ok (responses l points)
all_applied points l x read none =
    let bytes = x.framing.held in
    let all : (x.framing.held ++ x.chunk) ++ [] ≡ bytes =
    append-nil (x.framing.held ++ x.chunk) ∙ ap (λ xs. bytes ++ xs) none ∙ append-nil bytes in
    ap (λ xs. map response_of (framed_of longest_message xs).messages) (sym (append-nil _))
    ∙ ap (map response_of) (read.reads []
    ∙ ap (λ xs. read.messages ++ (framed_of longest_message xs).messages) all
    ∙ ap (λ ms. read.messages ++ ms) (no_more longest_message bytes (first_of longest_message bytes) refl read.waits)
    ∙ append-nil read.messages)
    ∙ read.responses

-- where all is quiet, a link that lives and hasn't ended has none in hand
calm_by : (x : Discovery) (phase : Phase) (s : Said) → Fits phase s
    → IsCalmBy phase x → (phase ≡ dialling → x.chunk ≡ []) → (s.born && not s.closed) ≡ true → x.chunk ≡ []
unfolding Fits
calm_by x unborn s fits calm idle living =
    absurd (let gone : (s.born && not s.closed) ≡ false = rw fits refl in both_ways _ gone living)
calm_by x dialling s fits calm idle living = idle refl
calm_by x live s fits calm idle living = calm.empty_handed.0
calm_by x (faulted code) s fits calm idle living = absurd calm
calm_by x (ending why) s fits calm idle living = absurd calm
calm_by x closed s fits calm idle living =
    absurd (let gone : (s.born && not s.closed) ≡ false = rw fits (and-false s.born) in both_ways _ gone living)

all_quiet : (g : NodeConfig) (m : Machine) (points : List Point) → StandsFor g m points → IsQuiet m
    → OfEach points (λ l. messages_came l points ≡ map Ok (responses l points))
unfolding AreIdle IsIdle
all_quiet g m points stands quiet l control living none =
    let x = m.links l in
    all_applied points l x (all_read g m points stands l)
    (calm_by x x.phase (seen l points) ((lived g m points stands).fits l) (quiet.calm l)
    (idle_all g m points stands l) living)

pub applied_at_once : RunsApplyAtOnce
applied_at_once g m points stands =
    at_entries g AllMayBeApplied
    (λ n before x runs may. at_once g n before runs _ (all_quiet g n before runs) x may) m points stands
