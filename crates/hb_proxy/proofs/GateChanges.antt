-- What a part makes of a link to a gateway, as far as the trace tells of it, and that it bears none but by its birth.
use Rattle.std.proofs.Common.{◌≡◌, ⊎_elim, ℕ, Bool, true, false, [], ◌∷◌, Some, refl, ap, sym, ◌∙◌, subst}
use Rattle.std.proofs.lemmas.Bool.{false≢true}
use Rattle.std.specs.List.{list_any}
use Rattle.hb_base.specs.declared.cause.Cause.{Cause}
use Rattle.hb_base.specs.declared.door.Why.TheVariants as whys
use Rattle.hb_base.specs.declared.target.Target.{Target}
use Rattle.hb_conn.specs.declared.found.Found.{Found}
use Rattle.hb_conn.specs.declared.found.Found.TheVariants as found
use Rattle.hb_gateway.specs.Calm.{close_due}
use Rattle.hb_gateway.specs.Gateway.{Gateway, Phase, unborn, opening, serving, faulted, closing, closed, went_by, phase_by, broken_by, stops_by}
use Rattle.hb_gateway.specs.Key.{Key}
use Rattle.hb_gateway.specs.Part as part
use Rattle.hb_gateway.specs.Part.{Part, entry, dialled, lacked, looked, asks, tells, put, finished, credited, reset, dropped, done, stopped}
use Rattle.hb_gateway.specs.Runs.{MayCome, IsBirth, IsWritable, Lacks, Steps, entered}
use Rattle.hb_world.specs.Trace.{is_birth}
use Rattle.hb_world.specs.declared.entry.Entry.{Entry}
use Rattle.hb_world.specs.declared.entry.Entry.TheVariants as e
use Rattle.hb_world.specs.declared.entry.Way.TheVariants as way
use Rattle.hb_proxy.proofs.Changes.{IsYet, yet_dialled, yet_open, IsOther, touched_by}
use Rattle.hb_proxy.proofs.Look as seen
use Rattle.hb_proxy.proofs.Look.{Look, open_now}

-- an entry is its dial, for some captured link
abbrev pub IsGateDial : ℕ → Entry → Type 0
IsGateDial n z = (k : ℕ) × (k ≡ n) × (a : ℕ) × (to : Target) × (z ≡ e.Dialled k to (whys.Gateway a))

-- what a trace has told of one, in each phase of one that is born
abbrev pub GateFits : Phase → Look → Type 0
GateFits unborn v = ⊥
GateFits opening v = v ≡ seen.dialled false
GateFits serving v = v ≡ open_now false
GateFits (faulted code) v = v ≡ open_now false
GateFits (closing why) v = IsYet false v
GateFits closed v = v.closed ≡ true

-- what fits it still does where it goes on so, unless it is this one
abbrev pub GateGoes : (k n : ℕ) → (old new : Phase) → Type 0
GateGoes k n old new = (v : Look) → IsOther k n → GateFits old v → GateFits new v

pub gate_same : (k n : ℕ) (phase : Phase) → GateGoes k n phase phase
gate_same k n phase v other is = is

-- the end of the run
pub gate_stopped : (k n : ℕ) (why : Cause) (phase : Phase) → GateGoes k n phase (stops_by why phase)
gate_stopped k n why unborn v other is = is
gate_stopped k n why opening v other is = yet_dialled false v is
gate_stopped k n why serving v other is = yet_open false v is
gate_stopped k n why (faulted code) v other is = is
gate_stopped k n why (closing first) v other is = is
gate_stopped k n why closed v other is = is

module _ (n : ℕ) (x : Gateway) where
  -- what fits it where it is in this phase
  at : (phase : Phase) → x.phase ≡ phase → (v : Look) → GateFits x.phase v → GateFits phase v
  at phase is v fits = subst (λ (p : Phase). GateFits p v) is fits

  went_fits : (phase : Phase) (v : Look) → GateFits phase v → GateFits (went_by phase) v
  went_fits (faulted code) v is = yet_open false v is
  went_fits unborn v is = is
  went_fits opening v is = is
  went_fits serving v is = is
  went_fits (closing why) v is = is
  went_fits closed v is = is

  broken_fits : (phase : Phase) (v : Look) → GateFits phase v → GateFits (broken_by phase) v
  broken_fits opening v is = yet_dialled false v is
  broken_fits serving v is = yet_open false v is
  broken_fits (faulted code) v is = yet_open false v is
  broken_fits unborn v is = is
  broken_fits (closing why) v is = is
  broken_fits closed v is = is

  entry_goes : (z : Entry) → MayCome n x z → (y : Gateway) → y.phase ≡ x.phase → GateGoes (touched_by z) n x.phase (entered z y).phase
  entry_goes (e.Opened k) may y same v other is = absurd (other.1 (sym may.0))
  entry_goes (e.Came k bytes) may y same v other is = subst (λ (p : Phase). GateFits p v) (sym same) is
  entry_goes (e.Ended k) may y same v other is = yet_open false v (at serving may.1.0.1 v is)
  entry_goes (e.Went k bytes) may y same v other is =
      subst (λ (p : Phase). GateFits (went_by p) v) (sym same) (went_fits x.phase v is)
  entry_goes (e.Broke k) may y same v other is =
      subst (λ (p : Phase). GateFits (broken_by p) v) (sym same) (broken_fits x.phase v is)
  entry_goes (e.Closed k why) may y same v other is = absurd (other.1 (sym may.0))
  entry_goes (e.Balked w) may y same v other is = subst (λ (p : Phase). GateFits p v) (sym same) is
  entry_goes (e.Accepted k d) may y same v other is = absurd may
  entry_goes (e.Dialled k to why) may y same v other is = absurd may
  entry_goes (e.DialFailed to why) may y same v other is = absurd may
  entry_goes (e.Shut k) may y same v other is = absurd may
  entry_goes e.Tick may y same v other is = absurd may
  entry_goes (e.Wait ready how) may y same v other is = absurd may

  lacks_at : (phase : Phase) → Lacks phase x → phase ≡ serving
  lacks_at serving lacks = refl
  lacks_at unborn lacks = absurd lacks
  lacks_at opening lacks = absurd lacks
  lacks_at (faulted code) lacks = absurd lacks
  lacks_at (closing why) lacks = absurd lacks
  lacks_at closed lacks = absurd lacks

  looked_fits : (told : Found) (v : Look) → v ≡ open_now false → GateFits (phase_by serving told) v
  looked_fits (found.Fault code) v is = is
  looked_fits told v is = is

-- its dial is for a captured link, and it wasn't born
pub birth_at : (n : ℕ) (x : Gateway) (z : Entry) (key : Key) → IsBirth n x z key → IsGateDial n z × (x.phase ≡ unborn)
birth_at n x (e.Dialled k to (whys.Gateway a)) key may = ((k, may.0, a, to, refl), may.1)
birth_at n x (e.Dialled k to whys.Discovery) key may = absurd may
birth_at n x (e.Dialled k to (whys.Upstream l s)) key may = absurd may
birth_at n x (e.Dialled k to (whys.Plain l)) key may = absurd may
birth_at n x (e.Dialled k to (whys.Direct l)) key may = absurd may
birth_at n x (e.Accepted k d) key may = absurd may
birth_at n x (e.DialFailed to why) key may = absurd may
birth_at n x (e.Opened k) key may = absurd may
birth_at n x (e.Came k bytes) key may = absurd may
birth_at n x (e.Ended k) key may = absurd may
birth_at n x (e.Went k bytes) key may = absurd may
birth_at n x (e.Broke k) key may = absurd may
birth_at n x (e.Shut k) key may = absurd may
birth_at n x (e.Closed k why) key may = absurd may
birth_at n x (e.Balked w) key may = absurd may
birth_at n x e.Tick key may = absurd may
birth_at n x (e.Wait ready how) key may = absurd may

-- EVERY PART

-- what a part opens or closes
abbrev pub gate_touched : Part → ℕ
gate_touched (entry z) = touched_by z
gate_touched _ = 0

pub gate_part_goes : (n : ℕ) (x y : Gateway) (p : Part) → Steps n x p y → GateGoes (gate_touched p) n x.phase y.phase
gate_part_goes n x y (entry z) steps v other is =
    subst (λ (w : Gateway). GateFits w.phase v) (sym steps.1) (entry_goes n x z steps.0 _ refl v other is)
gate_part_goes n x y (dialled z key) steps v other is = absurd (at n x unborn (birth_at n x z key steps.0).1 v is)
gate_part_goes n x y lacked steps v other is =
    subst (λ (w : Gateway). GateFits w.phase v) (sym steps.1) (yet_open false v (at n x serving (lacks_at n x x.phase steps.0) v is))
gate_part_goes n x y (looked points told headers) steps v other is =
    subst (λ (w : Gateway). GateFits w.phase v) (sym steps.6)
    (subst (λ (p : Phase). GateFits (phase_by p told) v) (sym steps.0) (looked_fits n x told v (at n x serving steps.0 v is)))
gate_part_goes n x y (asks s captured authority) steps v other is = subst (λ (w : Gateway). GateFits w.phase v) (sym steps.2) is
gate_part_goes n x y (tells s heard begun) steps v other is = subst (λ (w : Gateway). GateFits w.phase v) (sym steps.2) is
gate_part_goes n x y (put s bytes count) steps v other is = subst (λ (w : Gateway). GateFits w.phase v) (sym steps.4) is
gate_part_goes n x y (finished s) steps v other is = subst (λ (w : Gateway). GateFits w.phase v) (sym steps.3) is
gate_part_goes n x y (credited s count) steps v other is = subst (λ (w : Gateway). GateFits w.phase v) (sym steps.2) is
gate_part_goes n x y (reset s code) steps v other is = subst (λ (w : Gateway). GateFits w.phase v) (sym steps.2) is
gate_part_goes n x y (dropped s begun) steps v other is = subst (λ (w : Gateway). GateFits w.phase v) (sym steps.3) is
gate_part_goes n x y (done s begun) steps v other is = subst (λ (w : Gateway). GateFits w.phase v) (sym steps.3) is
gate_part_goes n x y (stopped why) steps v other is =
    subst (λ (w : Gateway). GateFits w.phase v) (sym steps.1) (gate_stopped 0 n why x.phase v other is)

-- BIRTHS

abbrev pub is_gate_born : Phase → Bool
is_gate_born unborn = false
is_gate_born _ = true

-- over what is no birth none is born
abbrev pub GateStays : (old new : Phase) → Type 0
GateStays old new = is_gate_born new ≡ true → is_gate_born old ≡ true

pub stopped_stays : (why : Cause) (phase : Phase) → GateStays phase (stops_by why phase)
stopped_stays why unborn is = is
stopped_stays why _ is = refl

born_closing : (phase : Phase) (why : Cause) → close_due phase ≡ Some why → is_gate_born phase ≡ true
born_closing unborn why is = absurd cc
born_closing opening why is = refl
born_closing serving why is = refl
born_closing (faulted code) why is = refl
born_closing (closing first) why is = refl
born_closing closed why is = refl

written_born : (x : Gateway) → IsWritable x → is_gate_born x.phase ≡ true
written_born x may = ⊎_elim (λ h. ap is_gate_born h.1) (λ h. ap is_gate_born h.2) may

-- an entry stands on a link that is born
pub gate_born : (n : ℕ) (x : Gateway) (z : Entry) → MayCome n x z → is_gate_born x.phase ≡ true
gate_born n x (e.Opened k) may = ap is_gate_born may.1.1
gate_born n x (e.Came k bytes) may = ap is_gate_born may.1.0.1
gate_born n x (e.Ended k) may = ap is_gate_born may.1.0.1
gate_born n x (e.Went k bytes) may = written_born x may.1
gate_born n x (e.Broke k) may = ⊎_elim (λ h. ap is_gate_born h.1) (written_born x) may.1
gate_born n x (e.Closed k why) may = born_closing x.phase why may.2
gate_born n x (e.Balked (way.Finish k)) may = ap is_gate_born may.1.1
gate_born n x (e.Balked (way.Read k)) may = ap is_gate_born may.1.0.1
gate_born n x (e.Balked (way.Write k)) may = written_born x may.1
gate_born n x (e.Balked (way.Listen d to listening)) may = absurd may
gate_born n x (e.Balked (way.Accept d)) may = absurd may
gate_born n x (e.Balked (way.Look k)) may = absurd may
gate_born n x (e.Accepted k d) may = absurd may
gate_born n x (e.Dialled k to why) may = absurd may
gate_born n x (e.DialFailed to why) may = absurd may
gate_born n x (e.Shut k) may = absurd may
gate_born n x e.Tick may = absurd may
gate_born n x (e.Wait ready how) may = absurd may

pub gate_part_stays : (n : ℕ) (x y : Gateway) (p : Part) → Steps n x p y → list_any is_birth (part.entry_in p) ≡ false
    → GateStays x.phase y.phase
gate_part_stays n x y (entry z) steps none is = gate_born n x z steps.0
gate_part_stays n x y (dialled z key) steps none is =
    let dial = (birth_at n x z key steps.0).0 in
    absurd (false≢true (sym none ∙ ap (λ (w : Entry). list_any is_birth (w ∷ [])) dial.4))
gate_part_stays n x y lacked steps none is = ap is_gate_born (lacks_at n x x.phase steps.0)
gate_part_stays n x y (looked points told headers) steps none is = ap is_gate_born steps.0
gate_part_stays n x y (asks s captured authority) steps none is = ap (λ (w : Gateway). is_gate_born w.phase) (sym steps.2) ∙ is
gate_part_stays n x y (tells s heard begun) steps none is = ap (λ (w : Gateway). is_gate_born w.phase) (sym steps.2) ∙ is
gate_part_stays n x y (put s bytes count) steps none is = ap (λ (w : Gateway). is_gate_born w.phase) (sym steps.4) ∙ is
gate_part_stays n x y (finished s) steps none is = ap (λ (w : Gateway). is_gate_born w.phase) (sym steps.3) ∙ is
gate_part_stays n x y (credited s count) steps none is = ap (λ (w : Gateway). is_gate_born w.phase) (sym steps.2) ∙ is
gate_part_stays n x y (reset s code) steps none is = ap (λ (w : Gateway). is_gate_born w.phase) (sym steps.2) ∙ is
gate_part_stays n x y (dropped s begun) steps none is = ap (λ (w : Gateway). is_gate_born w.phase) (sym steps.3) ∙ is
gate_part_stays n x y (done s begun) steps none is = ap (λ (w : Gateway). is_gate_born w.phase) (sym steps.3) ∙ is
gate_part_stays n x y (stopped why) steps none is =
    stopped_stays why x.phase (ap (λ (w : Gateway). is_gate_born w.phase) (sym steps.1) ∙ is)
