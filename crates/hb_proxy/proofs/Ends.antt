-- A tunnel that ended has no upstream that isn't closed where anything more comes, and a plain link that ended is closed, in every run of
-- the whole.
use Rattle.std.proofs.Common.{◌≡◌, inl, inr, ⊎_elim, ℕ, ◌||◌, Bool, true, false, List, Some, None, refl, ap, ap₂, sym, ◌∙◌, subst}
use Rattle.std.proofs.lemmas.Bool.{cases_eq, eqb-true, false≢true}
use Rattle.std.specs.List.{list_any}
use Rattle.hb_base.specs.declared.cause.Cause.{Cause}
use Rattle.hb_base.specs.declared.cause.Cause.TheVariants as cause
use Rattle.hb_captured.proofs.Kept.{Keeps, all_keep}
use Rattle.hb_captured.proofs.Stages.{course_in}
use Rattle.hb_captured.specs.Calm as plain_calm
use Rattle.hb_captured.specs.Captured as captured
use Rattle.hb_captured.specs.Captured.{Captured}
use Rattle.hb_captured.specs.Part as plain_part
use Rattle.hb_captured.specs.Runs as plain
use Rattle.hb_captured.specs.Sides as plain_sides
use Rattle.hb_gateway.specs.Calm as gateway_calm
use Rattle.hb_gateway.specs.Gateway as gateway
use Rattle.hb_gateway.specs.Gateway.{Gateway}
use Rattle.hb_gateway.specs.Part as gateway_part
use Rattle.hb_gateway.specs.Runs as gateways
use Rattle.hb_inbound.proofs.Admitted.{KnowsBy}
use Rattle.hb_inbound.proofs.AdmittedRun.{all_admit}
use Rattle.hb_inbound.proofs.EndsRun.{all_say, new_streams, quiet_closed}
use Rattle.hb_inbound.proofs.LifeRun.{LateBy}
use Rattle.hb_inbound.specs.Calm.{IsQuiet, IsIdleBy}
use Rattle.hb_inbound.specs.Ends.{is_fault}
use Rattle.hb_inbound.specs.Inbound.{Inbound, Phase, unborn, arriving, fronting, serving, faulted, closing, closed}
use Rattle.hb_inbound.specs.Calm.{RestsIn, close_due}
use Rattle.hb_inbound.specs.Part as part
use Rattle.hb_inbound.specs.Part.{Part}
use Rattle.hb_inbound.specs.Runs.{MayCome, UpMayCome}
use Rattle.hb_inbound.specs.Sides.{Was}
use Rattle.hb_inbound.specs.Tunnel.{Stage, is_unanswered}
use Rattle.hb_model.specs.Point as point
use Rattle.hb_model.specs.declared.config.NodeConfig.{NodeConfig}
use Rattle.hb_world.specs.declared.entry.Entry.{Entry}
use Rattle.hb_world.specs.declared.entry.Entry.TheVariants as e
use Rattle.hb_proxy.specs.Ends.{IsPlainClosed, IsGateClosed, AllClosed, MoreComes, LinkGoes, UpGoes, GateGoes, EndsAt, closes_gate}
use Rattle.hb_proxy.specs.Held.{at_start}
use Rattle.hb_proxy.specs.Laws.{RunsEnd}
use Rattle.hb_proxy.specs.Machine.{Machine, local, plain_local}
use Rattle.hb_proxy.specs.Points.{Point, of_control, of_link, of_plain, of_gate, of_stream, parts_of, plain_of, gates_of}
use Rattle.hb_proxy.specs.Runs.{is_act, is_link_faulted, is_gate_faulted, link_first, gate_first, Lets, PlainLets, GateLets, ControlMayCome, LinkMayCome, PlainMayCome, GateMayCome, Steps, StandsFor}
use Rattle.hb_proxy.proofs.GateEnds.{EndedBy, gates_end}
use Rattle.hb_proxy.proofs.Places.{at_points}
use Rattle.hb_proxy.proofs.Plain.{plain_runs}
use Rattle.hb_proxy.proofs.Projection.{links_run}

-- a link that is quiet has told of no connection error
pub unfaulted : (phase : Phase) → close_due phase ≡ None → is_link_faulted phase ≡ false
unfaulted (faulted code) none = absurd (let no : Some (cause.ConnFault code) ≡ None = none in cc)
unfaulted unborn none = refl
unfaulted arriving none = refl
unfaulted fronting none = refl
unfaulted serving none = refl
unfaulted (closing why) none = refl
unfaulted closed none = refl

-- one that isn't born is quiet
unborn_quiet : (parts : List Part) (x : Inbound) → x.phase ≡ unborn → KnowsBy x.phase parts x → IsQuiet x
unborn_quiet parts x is knows =
    let none = subst (λ (ph : Phase). KnowsBy ph parts x) is knows in
    record {
      calm = record {
        answered = λ s. ap is_unanswered (none s);
        rests = subst (λ (ph : Phase). RestsIn ph x) (sym is) tt;
      };
      no_close = ap close_due is;
      idle = λ s. subst (λ (stage : Stage). IsIdleBy stage (x.tunnels s)) (sym (none s)) tt;
    }

pub lets_quiet : (first : Bool) (y : Inbound) → first ≡ false → Lets first y → IsQuiet y
lets_quiet first y is lets = subst (λ (b : Bool). Lets b y) is lets

-- A PLAIN LINK

abbrev IsQuietBy : captured.Stage → Captured → Type 0
IsQuietBy stage x = plain_calm.IsCalmBy stage x × plain_calm.IsIdleBy stage x

-- one that isn't born is quiet
plain_unborn : (x : Captured) → x.stage ≡ captured.unborn → plain_calm.IsQuiet x
plain_unborn x is = subst (λ (s : captured.Stage). IsQuietBy s x) (sym is) (tt, tt)

pub plain_quiet : (first : Bool) (y : Captured) → first ≡ false → PlainLets first y → plain_calm.IsQuiet y
plain_quiet first y is lets = subst (λ (b : Bool). PlainLets b y) is lets

-- one that is tried is quiet
tried_quiet : (x : Captured) → plain.IsTried x → plain_calm.IsQuiet x
tried_quiet x (inl at) = at.0
tried_quiet x (inr (inl at)) = at.0
tried_quiet x (inr (inr at)) = at.0

-- one that ended, and is quiet, is closed with its upstream, and has no stream
over_closed : (x : Captured) (why : Cause) (stage : captured.Stage) → IsQuietBy stage x → course_in stage ≡ plain_sides.over why
    → (x.closed ≡ true) × (x.up ≡ 0) × (x.gate ≡ 0)
over_closed x why (captured.over cause) quiet is = (quiet.1.0, quiet.1.1, eqb-true x.gate 0 quiet.0)
over_closed x why (captured.failed cause) quiet is = absurd quiet.0
over_closed x why (captured.ended cause) quiet is = absurd quiet.0
over_closed x why captured.unborn quiet is = absurd cc
over_closed x why captured.arriving quiet is = absurd cc
over_closed x why captured.fronting quiet is = absurd cc
over_closed x why captured.due quiet is = absurd cc
over_closed x why captured.opening quiet is = absurd cc
over_closed x why captured.accepting quiet is = absurd cc
over_closed x why captured.live quiet is = absurd cc

-- A LINK TO A GATEWAY

pub gate_quiet : (first : Bool) (y : Gateway) → first ≡ false → GateLets first y → gateway_calm.IsQuiet y
gate_quiet first y is lets = subst (λ (b : Bool). GateLets b y) is lets

-- one that is quiet has told of no connection error
gate_unfaulted : (phase : gateway.Phase) → gateway_calm.close_due phase ≡ None → is_gate_faulted phase ≡ false
gate_unfaulted (gateway.faulted code) none = absurd (let no : Some (cause.ConnFault code) ≡ None = none in cc)
gate_unfaulted gateway.unborn none = refl
gate_unfaulted gateway.opening none = refl
gate_unfaulted gateway.serving none = refl
gate_unfaulted (gateway.closing why) none = refl
gate_unfaulted gateway.closed none = refl

module _ (g : NodeConfig) (x : Machine) (before : List Point) (stands : StandsFor g x before) where
  plain_closed : (l : ℕ) → plain_calm.IsQuiet (x.plain l) → IsPlainClosed g before l
  plain_closed l quiet = record {
    link = λ why is. keeps.tells.closed ∙ (closed why is).0;
    up = λ why is. keeps.tells.up ∙ (closed why is).1;
    stream = λ why is. ap (λ (s : plain_sides.Stream). s.gate) keeps.tells.stream ∙ (closed why is).2;
  }
    where
      keeps : Keeps (at_start g) (plain_local x l) (plain_of l before)
      keeps = all_keep l (at_start g) (plain_local x l) (plain_of l before) (plain_runs g x before l stands)

      closed : (why : Cause) → plain_sides.course_of (at_start g) (plain_of l before) ≡ plain_sides.over why
          → ((x.plain l).closed ≡ true) × ((x.plain l).up ≡ 0) × ((x.plain l).gate ≡ 0)
      closed why is = over_closed (x.plain l) why (x.plain l).stage quiet (sym keeps.course ∙ is)

  gate_closed : (n : ℕ) → gateway_calm.IsQuiet (x.gates n) → IsGateClosed before n
  gate_closed n quiet born ends = by (x.gates n).phase quiet.no_close (gates_end g x before stands n)
    where
      by : (phase : gateway.Phase) → gateway_calm.close_due phase ≡ None → EndedBy phase x.control.over (gates_of n before)
          → list_any closes_gate (gates_of n before) ≡ true
      by gateway.unborn none told = absurd (false≢true (sym told.0 ∙ born))
      by gateway.opening none told = absurd (false≢true (sym told ∙ ends))
      by gateway.serving none told = absurd (false≢true (sym told ∙ ends))
      by (gateway.faulted code) none told = absurd (let no : Some (cause.ConnFault code) ≡ None = none in cc)
      by (gateway.closing why) none told = absurd (let no : Some why ≡ None = none in cc)
      by gateway.closed none told = told

  closed_of : ((l : ℕ) → IsQuiet (x.inbound l)) → ((l : ℕ) → plain_calm.IsQuiet (x.plain l))
      → ((n : ℕ) → gateway_calm.IsQuiet (x.gates n)) → AllClosed g before
  closed_of quiet plain gates = record {
    links = λ l. quiet_closed new_streams l (at_start g) (local x l) (parts_of l before) (links_run g x before l stands) (quiet l);
    plain = λ l. plain_closed l (plain l);
    gates = λ n. gate_closed n (gates n);
  }

  -- an entry of a link that is quiet, and that doesn't go first, comes while all are
  all_closed : (l : ℕ) (z : Entry) → LinkMayCome x l z → is_act z ≡ false → IsQuiet (x.inbound l) → AllClosed g before
  all_closed l z guard late quiet =
      closed_of each (λ k. plain_quiet (link_first (x.inbound l).phase z) (x.plain k) first (guard.plain k))
      (λ k. gate_quiet (link_first (x.inbound l).phase z) (x.gates k) first (guard.gates.gates k))
    where
      first : link_first (x.inbound l).phase z ≡ false
      first = ap₂ (λ (a b : Bool). a || b) (unfaulted (x.inbound l).phase quiet.no_close) late

      each : (k : ℕ) → IsQuiet (x.inbound k)
      each k =
          ⊎_elim (λ (same : k ≡ l). subst (λ (j : ℕ). IsQuiet (x.inbound j)) (sym same) quiet)
          (λ apart. lets_quiet (link_first (x.inbound l).phase z) (x.inbound k) first (guard.others k apart)) (cases_eq k l)

  control_ends : (z : Entry) → ControlMayCome x z → MoreComes g before z
  control_ends (e.Accepted k d) guard = closed_of guard.links guard.plain guard.gates.gates
  control_ends (e.Opened k) guard = closed_of guard.links guard.plain guard.gates.gates
  control_ends (e.Came k bytes) guard = closed_of guard.links guard.plain guard.gates.gates
  control_ends (e.Ended k) guard = closed_of guard.links guard.plain guard.gates.gates
  control_ends e.Tick guard = closed_of guard.links guard.plain guard.gates.gates
  control_ends (e.Wait ready how) guard = closed_of guard.links guard.plain guard.gates.gates
  control_ends _ guard = tt

  link_ends : (l : ℕ) (z : Entry) → MayCome l (x.inbound l) z → LinkMayCome x l z → MoreComes g before z × LinkGoes g before l z
  link_ends l (e.Accepted k d) may guard = (
    all_closed l (e.Accepted k d) guard refl
        (unborn_quiet (parts_of l before) (x.inbound l) may.1
        (all_admit l (at_start g) (local x l) (parts_of l before) (links_run g x before l stands)).knows),
    tt,
  )
  link_ends l (e.Came k bytes) may guard =
      (all_closed l (e.Came k bytes) guard refl (⊎_elim (λ h. h.0) (λ h. h.0) may.1.0), tt)
  link_ends l (e.Ended k) may guard = (all_closed l (e.Ended k) guard refl (⊎_elim (λ h. h.0) (λ h. h.0) may.1.0), tt)
  link_ends l (e.Went k bytes) may guard =
      (tt, ⊎_elim (λ h. inl (all_closed l (e.Went k bytes) guard refl h.0)) (λ h. inr (faulted_told h.1 h.2)) may.1)
    where
      faulted_told : (code : ℕ) → (x.inbound l).phase ≡ faulted code → Was is_fault (parts_of l before)
      faulted_told code is =
          (subst (λ (ph : Phase). LateBy ph (parts_of l before) (x.inbound l)) is
          (all_say new_streams l (at_start g) (local x l) (parts_of l before) (links_run g x before l stands)).late).1
  link_ends l (e.Opened k) may guard = absurd may
  link_ends l e.Tick may guard = absurd may
  link_ends l (e.Wait ready how) may guard = absurd may
  link_ends l _ may guard = (tt, tt)

  up_ends : (l s : ℕ) (z : Entry) → UpMayCome l s (x.inbound l) ((x.inbound l).tunnels s) z → LinkMayCome x l z
      → MoreComes g before z × UpGoes g before z
  up_ends l s (e.Accepted k d) may guard = absurd may
  up_ends l s (e.Opened u) may guard = (all_closed l (e.Opened u) guard refl may.0, tt)
  up_ends l s (e.Came u bytes) may guard = (all_closed l (e.Came u bytes) guard refl may.0.0, tt)
  up_ends l s (e.Ended u) may guard = (all_closed l (e.Ended u) guard refl may.0.0, tt)
  up_ends l s (e.Went u bytes) may guard = (tt, all_closed l (e.Went u bytes) guard refl may.0.0)
  up_ends l s e.Tick may guard = absurd may
  up_ends l s (e.Wait ready how) may guard = absurd may
  up_ends l s _ may guard = (tt, tt)

  -- nor does one of a plain link
  plain_all : (l : ℕ) (z : Entry) → PlainMayCome x l z → is_act z ≡ false → plain_calm.IsQuiet (x.plain l) → AllClosed g before
  plain_all l z guard late quiet =
      closed_of (λ k. lets_quiet (is_act z) (x.inbound k) late (guard.links k)) each
      (λ k. gate_quiet (is_act z) (x.gates k) late (guard.gates.gates k))
    where
      each : (k : ℕ) → plain_calm.IsQuiet (x.plain k)
      each k =
          ⊎_elim (λ (same : k ≡ l). subst (λ (j : ℕ). plain_calm.IsQuiet (x.plain j)) (sym same) quiet)
          (λ apart. plain_quiet (is_act z) (x.plain k) late (guard.others k apart)) (cases_eq k l)

  plain_ends : (l : ℕ) (z : Entry) → plain.MayCome l (x.plain l) z → PlainMayCome x l z → MoreComes g before z × UpGoes g before z
  plain_ends l (e.Accepted k d) may guard = (plain_all l (e.Accepted k d) guard refl (plain_unborn (x.plain l) may.1), tt)
  plain_ends l (e.Came k bytes) may guard = (plain_all l (e.Came k bytes) guard refl (tried_quiet (x.plain l) may.1.0), tt)
  plain_ends l (e.Ended k) may guard = (plain_all l (e.Ended k) guard refl (tried_quiet (x.plain l) may.1.0), tt)
  plain_ends l (e.Went k bytes) may guard = (tt, plain_all l (e.Went k bytes) guard refl may.1.0)
  plain_ends l (e.Opened k) may guard = absurd may
  plain_ends l e.Tick may guard = absurd may
  plain_ends l (e.Wait ready how) may guard = absurd may
  plain_ends l _ may guard = (tt, tt)

  relay_ends : (l : ℕ) (z : Entry) → plain.UpMayCome l (x.plain l) z → PlainMayCome x l z → MoreComes g before z × UpGoes g before z
  relay_ends l (e.Accepted k d) may guard = absurd may
  relay_ends l (e.Opened u) may guard = (plain_all l (e.Opened u) guard refl may.0.0, tt)
  relay_ends l (e.Came u bytes) may guard = (plain_all l (e.Came u bytes) guard refl may.0.0.0, tt)
  relay_ends l (e.Ended u) may guard = (plain_all l (e.Ended u) guard refl may.0.0.0, tt)
  relay_ends l (e.Went u bytes) may guard = (tt, plain_all l (e.Went u bytes) guard refl may.0.0.0)
  relay_ends l e.Tick may guard = absurd may
  relay_ends l (e.Wait ready how) may guard = absurd may
  relay_ends l _ may guard = (tt, tt)

  -- nor one of a link to a gateway
  gate_all : (n : ℕ) (z : Entry) → GateMayCome x n z → is_act z ≡ false → gateway_calm.IsQuiet (x.gates n) → AllClosed g before
  gate_all n z guard late quiet =
      closed_of (λ k. lets_quiet (gate_first (x.gates n).phase z) (x.inbound k) first (guard.links k))
      (λ k. plain_quiet (gate_first (x.gates n).phase z) (x.plain k) first (guard.plain k)) each
    where
      first : gate_first (x.gates n).phase z ≡ false
      first = ap₂ (λ (a b : Bool). a || b) (gate_unfaulted (x.gates n).phase quiet.no_close) late

      each : (k : ℕ) → gateway_calm.IsQuiet (x.gates k)
      each k =
          ⊎_elim (λ (same : k ≡ n). subst (λ (j : ℕ). gateway_calm.IsQuiet (x.gates j)) (sym same) quiet)
          (λ apart. gate_quiet (gate_first (x.gates n).phase z) (x.gates k) first (guard.others k apart)) (cases_eq k n)

  gate_ends : (n : ℕ) (z : Entry) → gateways.MayCome n (x.gates n) z → GateMayCome x n z → MoreComes g before z × GateGoes g before n z
  gate_ends n (e.Opened k) may guard = (gate_all n (e.Opened k) guard refl may.1.0, tt)
  gate_ends n (e.Came k bytes) may guard = (gate_all n (e.Came k bytes) guard refl may.1.0.0, tt)
  gate_ends n (e.Ended k) may guard = (gate_all n (e.Ended k) guard refl may.1.0.0, tt)
  gate_ends n (e.Went k bytes) may guard = (
    tt,
    ⊎_elim (λ h. inl (gate_all n (e.Went k bytes) guard refl h.0))
        (λ h. inr (subst (λ (phase : gateway.Phase). EndedBy phase x.control.over (gates_of n before)) h.2 (gates_end g x before stands n)))
        may.1,
  )
  gate_ends n (e.Accepted k d) may guard = absurd may
  gate_ends n e.Tick may guard = absurd may
  gate_ends n (e.Wait ready how) may guard = absurd may
  gate_ends n _ may guard = (tt, tt)

next : (g : NodeConfig) (x y : Machine) (before : List Point) (p : Point) → StandsFor g x before → Steps g x p y → EndsAt g before p
next g x y before (of_control (point.entry z)) stands steps = control_ends g x before stands z steps.2
next g x y before (of_control _) stands steps = tt
next g x y before (of_link l (part.entry z)) stands steps = link_ends g x before stands l z steps.1.0 steps.2
next g x y before (of_link l (part.up s z)) stands steps = up_ends g x before stands l s z steps.1.0 steps.2
next g x y before (of_link l _) stands steps = tt
next g x y before (of_plain l (plain_part.entry z)) stands steps = plain_ends g x before stands l z steps.0 steps.1
next g x y before (of_plain l (plain_part.up z)) stands steps = relay_ends g x before stands l z steps.0 steps.1.0
next g x y before (of_plain l _) stands steps = tt
next g x y before (of_gate n (gateway_part.entry z)) stands steps = gate_ends g x before stands n z steps.1.0 steps.2
next g x y before (of_gate n _) stands steps = tt
next g x y before (of_stream l n s w) stands steps = tt

pub runs_end : RunsEnd
runs_end g x points stands = at_points g (EndsAt g) (next g) x points stands
