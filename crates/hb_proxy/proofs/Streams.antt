-- Each tunnel by a gateway has one stream, and each stream one tunnel, in every run.
use Rattle.std.proofs.Common.{◌≡◌, ◌≢◌, inl, inr, ⊎_elim, ℕ, ◌==◌, ◌&&◌, Bool, true, false, cond, List, Some, None, refl, ap, sym, ◌∙◌, subst, arith}
use Rattle.std.proofs.lemmas.Bool.{cond-true, cond_both, eqb-true, false≢true}
use Rattle.std.proofs.lemmas.Bool.Decides.{nat_tests}
use Rattle.hb_captured.specs.Captured as captured_link
use Rattle.hb_captured.specs.Captured.{Captured, due, no_link, is_raw, judges, is_judged, judged_by, rejudged, came_by, entered, up_entered, ends_for, told_by, left_behind}
use Rattle.hb_captured.specs.Part as captured
use Rattle.hb_captured.specs.Part.{Part}
use Rattle.hb_captured.specs.Runs.{MayGo, next_link}
use Rattle.hb_gateway.proofs.Asking.{all_know, number_above}
use Rattle.hb_gateway.proofs.Ending.{given_up}
use Rattle.hb_gateway.specs.Gateway.{Gateway, Stream, no_stream, at_stream, at_stage, dropped_to}
use Rattle.hb_gateway.specs.Part as gateway
use Rattle.hb_gateway.specs.Response as response
use Rattle.hb_gateway.specs.Response.{Stage, asked, carrying, over, Heard, opens, brings, fails, is_living}
use Rattle.hb_gateway.specs.Runs as gateway_runs
use Rattle.hb_held.specs.Held.{Resources}
use Rattle.hb_held.specs.Outcome.{after_response}
use Rattle.hb_model.specs.Point as point
use Rattle.hb_model.specs.declared.config.NodeConfig.{NodeConfig}
use Rattle.hb_table.specs.Judgement.{judged}
use Rattle.hb_table.specs.declared.judgement.Judged.{Judged}
use Rattle.hb_table.specs.declared.judgement.Judged.TheVariants.{Admitted, Unknown, Denied}
use Rattle.hb_world.specs.declared.entry.Entry.{Entry}
use Rattle.hb_world.specs.declared.entry.Entry.TheVariants as e
use Rattle.hb_proxy.specs.Machine.{Machine, fresh, plain_local, with_control, with_stream, plain_seen_by}
use Rattle.hb_proxy.specs.Points.{Point, of_control, of_link, of_plain, of_gate, of_stream, gates_of}
use Rattle.hb_proxy.specs.Runs.{PlainGuard, GateGuard, StreamGuard, IsStreamOf, Steps, StandsFor, begins, goes_on}
use Rattle.hb_proxy.specs.Shared.{Shared, asks, tells, puts, finishes, credits, drops, completes, captured_part, gateway_part}
use Rattle.hb_proxy.specs.Streams.{HasTunnel, RunsAgree}
use Rattle.hb_proxy.proofs.Aims.{is_asked, aims_fit}
use Rattle.hb_proxy.proofs.Gates.{gates_run}
use Rattle.hb_proxy.proofs.Tunnels.{IsShared, MailFits, TunnelStays, tunnel_same, hear_stays, own_stays, unused_free, ended_by, goes_on_with, lives_on, mails_fit, other_streams, this_stream}

-- LINKS AND STREAMS, AS NUMBERS: of which stream a link is, which stream has a tunnel, and of which link

record Agree (gate stream : ℕ → ℕ) (has : ℕ → ℕ → Type 0) (whose : ℕ → ℕ → ℕ) : Type 0 where
  carried : (l : ℕ) → gate l ≢ 0 → has (gate l) (stream l) × (whose (gate l) (stream l) ≡ l)
  carries : (g s : ℕ) → has g s → (g ≢ 0) × (gate (whose g s) ≡ g) × (stream (whose g s) ≡ s)

-- a stream stays as it was
record Same (has has' : ℕ → ℕ → Type 0) (whose whose' : ℕ → ℕ → ℕ) (g s : ℕ) : Type 0 where
  on : has g s → has' g s
  back : has' g s → has g s
  whose_is : whose' g s ≡ whose g s

module _ (gate stream gate' stream' : ℕ → ℕ) (has has' : ℕ → ℕ → Type 0) (whose whose' : ℕ → ℕ → ℕ)
    (agree : Agree gate stream has whose) where
  -- nothing changes
  module _ (gates : (l : ℕ) → gate' l ≡ gate l) (streams : (l : ℕ) → stream' l ≡ stream l)
      (same : (g s : ℕ) → Same has has' whose whose' g s) where
    kept : Agree gate' stream' has' whose'
    kept = record {
      carried = λ l some.
          let was = agree.carried l (λ zero. some (gates l ∙ zero)) in
          let here = same (gate l) (stream l) in
          subst (λ (g : ℕ). has' g (stream' l) × (whose' g (stream' l) ≡ l)) (sym (gates l))
          (subst (λ (s : ℕ). has' (gate l) s × (whose' (gate l) s ≡ l)) (sym (streams l)) (here.on was.0, here.whose_is ∙ was.1));
      carries = λ g s is.
          let here = same g s in
          let was = agree.carries g s (here.back is) in (
            was.0,
            gates (whose' g s) ∙ ap gate here.whose_is ∙ was.1,
            streams (whose' g s) ∙ ap stream here.whose_is ∙ was.2,
          );
    }

  -- one link changes, and the stream that it takes or leaves
  module _ (l n s : ℕ) (others : (k : ℕ) → k ≢ l → (gate' k ≡ gate k) × (stream' k ≡ stream k))
      (elsewhere : (g t : ℕ) → (g ≡ n → t ≡ s → ⊥) → Same has has' whose whose' g t) where
    -- any other link
    other_carried : (k : ℕ) → k ≢ l → gate' k ≢ 0 → (gate k ≡ n → stream k ≡ s → ⊥)
        → has' (gate' k) (stream' k) × (whose' (gate' k) (stream' k) ≡ k)
    other_carried k apart some far =
        let at = others k apart in
        let was = agree.carried k (λ zero. some (at.0 ∙ zero)) in
        let here = elsewhere (gate k) (stream k) far in
        subst (λ (g : ℕ). has' g (stream' k) × (whose' g (stream' k) ≡ k)) (sym at.0)
        (subst (λ (t : ℕ). has' (gate k) t × (whose' (gate k) t ≡ k)) (sym at.1) (here.on was.0, here.whose_is ∙ was.1))

    -- and any other stream, of another link
    other_carries : (g t : ℕ) → (g ≡ n → t ≡ s → ⊥) → has' g t → (whose g t ≡ l → ⊥)
        → (g ≢ 0) × (gate' (whose' g t) ≡ g) × (stream' (whose' g t) ≡ t)
    other_carries g t far is apart =
        let here = elsewhere g t far in
        let was = agree.carries g t (here.back is) in
        let at = others (whose' g t) (λ same. apart (sym here.whose_is ∙ same)) in
        (was.0, at.0 ∙ ap gate here.whose_is ∙ was.1, at.1 ∙ ap stream here.whose_is ∙ was.2)

    -- IT IS TAKEN by a link that had none
    module _ (raw : gate l ≡ 0) (free : has n s → ⊥) (some : n ≢ 0) (gate_is : gate' l ≡ n) (stream_is : stream' l ≡ s)
        (has_it : has' n s) (whose_it : whose' n s ≡ l) where
      taken : Agree gate' stream' has' whose'
      taken = record {
        carried = λ k there. by_link k there (k == l) refl;
        carries = λ g t is. by_stream g t is (g == n) refl (t == s) refl;
      }
        where
          by_link : (k : ℕ) → gate' k ≢ 0 → (b : Bool) → (k == l) ≡ b → has' (gate' k) (stream' k) × (whose' (gate' k) (stream' k) ≡ k)
          by_link k there true is =
              let at : l ≡ k = sym (eqb-true k l is) in
              subst (λ (j : ℕ). has' (gate' j) (stream' j) × (whose' (gate' j) (stream' j) ≡ j)) at
              (subst (λ (g : ℕ). has' g (stream' l) × (whose' g (stream' l) ≡ l)) (sym gate_is)
              (subst (λ (t : ℕ). has' n t × (whose' n t ≡ l)) (sym stream_is) (has_it, whose_it)))
          by_link k there false is =
              let apart : k ≢ l = λ same. absurd (grind (arith, nat_tests, is, same)) in
              other_carried k apart there (λ g_is t_is.
              let was = agree.carried k (λ zero. there ((others k apart).0 ∙ zero)) in
              free (subst (λ (t : ℕ). has n t) t_is (subst (λ (g : ℕ). has g (stream k)) g_is was.0)))

          far_stream : (g t : ℕ) → has' g t → (g ≡ n → t ≡ s → ⊥) → (g ≢ 0) × (gate' (whose' g t) ≡ g) × (stream' (whose' g t) ≡ t)
          far_stream g t is far =
              other_carries g t far is (λ same.
              let was = agree.carries g t ((elsewhere g t far).back is) in was.0 (sym was.1 ∙ ap gate same ∙ raw))

          by_stream : (g t : ℕ) → has' g t → (b : Bool) → (g == n) ≡ b → (c : Bool) → (t == s) ≡ c
              → (g ≢ 0) × (gate' (whose' g t) ≡ g) × (stream' (whose' g t) ≡ t)
          by_stream g t is true g_is true t_is =
              let at_g : n ≡ g = sym (eqb-true g n g_is) in
              let at_t : s ≡ t = sym (eqb-true t s t_is) in
              subst (λ (h : ℕ). (h ≢ 0) × (gate' (whose' h t) ≡ h) × (stream' (whose' h t) ≡ t)) at_g
              (subst (λ (u : ℕ). (n ≢ 0) × (gate' (whose' n u) ≡ n) × (stream' (whose' n u) ≡ u)) at_t
              (some, ap gate' whose_it ∙ gate_is, ap stream' whose_it ∙ stream_is))
          by_stream g t is false g_is c t_is = far_stream g t is (λ same other. absurd (grind (arith, nat_tests, g_is, same)))
          by_stream g t is true g_is false t_is = far_stream g t is (λ same other. absurd (grind (arith, nat_tests, t_is, other)))

    -- OR IT IS LEFT by the link that had it
    module _ (gate_was : gate l ≡ n) (stream_was : stream l ≡ s) (some : n ≢ 0) (gate_is : gate' l ≡ 0) (left : has' n s → ⊥) where
      left_by : Agree gate' stream' has' whose'
      left_by = record {
        carried = λ k there. by_link k there (k == l) refl;
        carries = λ g t is. by_stream g t is;
      }
        where
          by_link : (k : ℕ) → gate' k ≢ 0 → (b : Bool) → (k == l) ≡ b → has' (gate' k) (stream' k) × (whose' (gate' k) (stream' k) ≡ k)
          by_link k there true is = absurd (there (ap gate' (eqb-true k l is) ∙ gate_is))
          by_link k there false is =
              let apart : k ≢ l = λ same. absurd (grind (arith, nat_tests, is, same)) in
              other_carried k apart there (λ g_is t_is.
              let was = agree.carried k (λ zero. there ((others k apart).0 ∙ zero)) in
              let mine = agree.carried l (λ zero. some (sym gate_was ∙ zero)) in
              apart (sym was.1 ∙ ap (λ (g : ℕ). whose g (stream k)) (g_is ∙ sym gate_was)
              ∙ ap (whose (gate l)) (t_is ∙ sym stream_was) ∙ mine.1))

          by_stream : (g t : ℕ) → has' g t → (g ≢ 0) × (gate' (whose' g t) ≡ g) × (stream' (whose' g t) ≡ t)
          by_stream g t is =
              let far : g ≡ n → t ≡ s → ⊥ = λ g_is t_is.
              left (subst (λ (u : ℕ). has' n u) t_is (subst (λ (h : ℕ). has' h t) g_is is)) in
              other_carries g t far is (λ same.
              let was = agree.carries g t ((elsewhere g t far).back is) in
              far (sym was.1 ∙ ap gate same ∙ gate_was) (sym was.2 ∙ ap stream same ∙ stream_was))

-- WHAT A PLAIN LINK KEEPS

pub record PlainKeeps (x y : Captured) : Type 0 where
  pub gate : y.gate ≡ x.gate
  pub stream : y.stream ≡ x.stream

keeps : (x : Captured) → PlainKeeps x x
keeps x = record { gate = refl; stream = refl }

rejudged_keeps : (h : Resources) (x : Captured) → PlainKeeps x (rejudged h x)
rejudged_keeps h x = by (judges x.door && is_judged x.stage)
  where
    of : (j : Judged) → PlainKeeps x (judged_by j x)
    of Admitted = keeps x
    of Unknown = record { gate = refl; stream = refl }
    of Denied = record { gate = refl; stream = refl }

    by : (b : Bool) → PlainKeeps x (cond b (judged_by (judged h x.peer x.target) x) x)
    by true = of (judged h x.peer x.target)
    by false = keeps x

pub seen_keeps : (h : Resources) (q : point.Point) (x : Captured) → PlainKeeps x (plain_seen_by h q x)
seen_keeps h (point.applied l r) x = rejudged_keeps (after_response h r) x
seen_keeps h (point.stopped why) x = record { gate = refl; stream = refl }
seen_keeps h _ x = keeps x

came_keeps : (bytes : List ℕ) (stage : _) (x : Captured) → PlainKeeps x (came_by stage bytes x)
came_keeps bytes captured_link.fronting x = record { gate = refl; stream = refl }
came_keeps bytes _ x = record { gate = refl; stream = refl }

entry_keeps : (z : Entry) (x : Captured) → PlainKeeps x (entered z x)
entry_keeps (e.Accepted k d) x = record { gate = refl; stream = refl }
entry_keeps (e.Came k bytes) x = came_keeps bytes x.stage x
entry_keeps (e.Ended k) x = record { gate = refl; stream = refl }
entry_keeps (e.Went k bytes) x = record { gate = refl; stream = refl }
entry_keeps (e.Broke k) x = record { gate = refl; stream = refl }
entry_keeps (e.Shut k) x = record { gate = refl; stream = refl }
entry_keeps (e.Closed k why) x = record { gate = refl; stream = refl }
entry_keeps _ x = keeps x

up_keeps : (z : Entry) (x : Captured) → PlainKeeps x (up_entered z x)
up_keeps (e.Dialled u to why) x = record { gate = refl; stream = refl }
up_keeps (e.DialFailed to why) x = record { gate = refl; stream = refl }
up_keeps (e.Opened u) x = record { gate = refl; stream = refl }
up_keeps (e.Came u bytes) x = record { gate = refl; stream = refl }
up_keeps (e.Ended u) x = record { gate = refl; stream = refl }
up_keeps (e.Went u bytes) x = record { gate = refl; stream = refl }
up_keeps (e.Broke u) x = record { gate = refl; stream = refl }
up_keeps (e.Shut u) x = record { gate = refl; stream = refl }
up_keeps (e.Closed u why) x = record { gate = refl; stream = refl }
up_keeps _ x = keeps x

pub part_keeps : (g : NodeConfig) (x : Machine) (l : ℕ) (p : Part) → PlainGuard g x l p → PlainKeeps (x.plain l) (next_link (x.plain l) p)
part_keeps g x l (captured.entry z) guard = entry_keeps z (x.plain l)
part_keeps g x l (captured.up z) guard = up_keeps z (x.plain l)
part_keeps g x l (captured.asked gate stream) guard = absurd guard
part_keeps g x l (captured.hears heard begun) guard = absurd guard
part_keeps g x l (captured.put bytes) guard = absurd guard
part_keeps g x l captured.finished guard = absurd guard
part_keeps g x l (captured.credited n) guard = absurd guard
part_keeps g x l (captured.loosed begun) guard = absurd guard
part_keeps g x l (captured.completed begun note) guard = absurd guard
part_keeps g x l p guard = record { gate = refl; stream = refl }

pub unshared : (g : NodeConfig) (x : Machine) (n : ℕ) (p : gateway.Part) → GateGuard g x n p → IsShared p → ⊥
unshared g x n (gateway.asks s l authority) guard is = guard
unshared g x n (gateway.tells s heard begun) guard is = guard
unshared g x n (gateway.put s bytes count) guard is = guard
unshared g x n (gateway.finished s) guard is = guard
unshared g x n (gateway.credited s count) guard is = guard
unshared g x n (gateway.dropped s begun) guard is = guard
unshared g x n (gateway.done s begun) guard is = guard
unshared g x n _ guard is = is

-- EVERY STEP

abbrev gate_at : Machine → ℕ → ℕ
gate_at x l = (x.plain l).gate

abbrev stream_at : Machine → ℕ → ℕ
stream_at x l = (x.plain l).stream

abbrev has_at : Machine → ℕ → ℕ → Type 0
has_at x g s = HasTunnel ((x.gates g).streams s)

abbrev whose_at : Machine → ℕ → ℕ → ℕ
whose_at x g s = ((x.gates g).streams s).captured

abbrev AgreeAt : Machine → Type 0
AgreeAt x = Agree (gate_at x) (stream_at x) (has_at x) (whose_at x)

-- no link and no stream changes sides
module _ (x y : Machine) (agree : AgreeAt x) where
  nothing_changes : ((l : ℕ) → PlainKeeps (x.plain l) (y.plain l))
      → ((g s : ℕ) → TunnelStays ((x.gates g).streams s) ((y.gates g).streams s)) → AgreeAt y
  nothing_changes plain tunnels =
      kept (gate_at x) (stream_at x) (gate_at y) (stream_at y) (has_at x) (has_at y) (whose_at x) (whose_at y) agree
      (λ l. (plain l).gate) (λ l. (plain l).stream)
      (λ g s. let is = tunnels g s in record { on = is.on; back = is.back; whose_is = is.captured })

module _ (g : NodeConfig) (x : Machine) (points : List Point) (stands : StandsFor g x points) (agree : AgreeAt x) where
  fits_at : (n s : ℕ) → MailFits ((x.gates n).streams s)
  fits_at n s = mails_fit n (x.gates n) (gates_of n points) (gates_run g x points n stands) s

  control_agrees : (q : point.Point) (next : _) → AgreeAt (with_control q next x)
  control_agrees (point.stopped why) next =
      nothing_changes x (with_control (point.stopped why) next x) agree (λ l. seen_keeps x.control.held (point.stopped why) (x.plain l))
      (λ n s. hear_stays (gateway.stopped why) (x.gates n) s)
  control_agrees (point.applied k r) next =
      nothing_changes x (with_control (point.applied k r) next x) agree
      (λ l. seen_keeps x.control.held (point.applied k r) (x.plain l))
      (λ n s. tunnel_same ((x.gates n).streams s) ((x.gates n).streams s) refl)
  control_agrees q next =
      nothing_changes x (with_control q next x) agree (λ l. seen_keeps x.control.held q (x.plain l))
      (λ n s. tunnel_same ((x.gates n).streams s) ((x.gates n).streams s) refl)

  all_tunnels : (y : Machine) → y.gates ≡ x.gates → (n s : ℕ) → TunnelStays ((x.gates n).streams s) ((y.gates n).streams s)
  all_tunnels y is n s =
      tunnel_same ((x.gates n).streams s) ((y.gates n).streams s) (ap (λ (f : ℕ → Gateway). (f n).streams s) is)

  all_plain : (y : Machine) → y.plain ≡ x.plain → (l : ℕ) → PlainKeeps (x.plain l) (y.plain l)
  all_plain y is l = subst (λ (f : ℕ → Captured). PlainKeeps (x.plain l) (f l)) (sym is) (keeps (x.plain l))

  -- A LINK AND ITS STREAM
  module _ (l n s : ℕ) (next : Captured) (gate : Gateway) where
    abbrev then : Machine
    then = with_stream l n next gate x

    next_is : then.plain l ≡ next
    next_is = cond-true (l == l) next (x.plain l) (grind arith)

    gate_is : then.gates n ≡ gate
    gate_is = cond-true (n == n) gate (x.gates n) (grind arith)

    others : (k : ℕ) → k ≢ l → (gate_at then k ≡ gate_at x k) × (stream_at then k ≡ stream_at x k)
    others k apart =
        cond_both (k == l) next (x.plain k) (λ (z : Captured). (z.gate ≡ gate_at x k) × (z.stream ≡ stream_at x k))
        (λ same. absurd (apart (eqb-true k l same))) (λ other. (refl, refl))

    -- as they are but for the stream
    module _ (rest : (t : ℕ) → t ≢ s → gate.streams t ≡ (x.gates n).streams t) where
      elsewhere : (h t : ℕ) → (h ≡ n → t ≡ s → ⊥) → Same (has_at x) (has_at then) (whose_at x) (whose_at then) h t
      elsewhere h t far =
          let is : TunnelStays ((x.gates h).streams t) ((then.gates h).streams t) =
          cond_both (h == n) gate (x.gates h) (λ (z : Gateway). TunnelStays ((x.gates h).streams t) (z.streams t))
          (λ same. let at : h ≡ n = eqb-true h n same in
          tunnel_same ((x.gates h).streams t) (gate.streams t)
          (rest t (far at) ∙ ap (λ (k : ℕ). (x.gates k).streams t) (sym at)))
          (λ apart. tunnel_same ((x.gates h).streams t) ((x.gates h).streams t) refl) in
          record { on = is.on; back = is.back; whose_is = is.captured }

      is_taken : gate_at x l ≡ 0 → (has_at x n s → ⊥) → n ≢ 0 → next.gate ≡ n → next.stream ≡ s → HasTunnel (gate.streams s)
          → (gate.streams s).captured ≡ l → AgreeAt then
      is_taken raw free some on_gate on_stream has whose =
          taken (gate_at x) (stream_at x) (gate_at then) (stream_at then) (has_at x) (has_at then) (whose_at x) (whose_at then) agree
          l n s others elsewhere raw free some (ap (λ (z : Captured). z.gate) next_is ∙ on_gate)
          (ap (λ (z : Captured). z.stream) next_is ∙ on_stream)
          (subst (λ (z : Gateway). HasTunnel (z.streams s)) (sym gate_is) has)
          (ap (λ (z : Gateway). (z.streams s).captured) gate_is ∙ whose)

      is_left : IsStreamOf x l n s → is_raw (x.plain l) ≡ false → next.gate ≡ 0 → (HasTunnel (gate.streams s) → ⊥) → AgreeAt then
      is_left of on off gone =
          left_by (gate_at x) (stream_at x) (gate_at then) (stream_at then) (has_at x) (has_at then) (whose_at x) (whose_at then) agree
          l n s others elsewhere of.gate of.number
          (λ zero. let none : gate_at x l ≡ 0 = of.gate ∙ zero in absurd (grind (arith, nat_tests, on, none)))
          (ap (λ (z : Captured). z.gate) next_is ∙ off)
          (λ has. gone (subst (λ (z : Gateway). HasTunnel (z.streams s)) gate_is has))

      -- the tunnel goes on
      stays_on : PlainKeeps (x.plain l) next → TunnelStays ((x.gates n).streams s) (gate.streams s) → AgreeAt then
      stays_on plain here =
          nothing_changes x then agree
          (λ k. cond_both (k == l) next (x.plain k) (PlainKeeps (x.plain k))
          (λ same. subst (λ (j : ℕ). PlainKeeps (x.plain j) next) (sym (eqb-true k l same)) plain) (λ apart. keeps (x.plain k)))
          (λ h t. cond_both (h == n) gate (x.gates h) (λ (z : Gateway). TunnelStays ((x.gates h).streams t) (z.streams t))
          (λ same. subst (λ (k : ℕ). TunnelStays ((x.gates k).streams t) (gate.streams t)) (sym (eqb-true h n same)) (at t (t == s) refl))
          (λ apart. tunnel_same ((x.gates h).streams t) ((x.gates h).streams t) refl))
        where
          at : (t : ℕ) → (b : Bool) → (t == s) ≡ b → TunnelStays ((x.gates n).streams t) (gate.streams t)
          at t true is = subst (λ (k : ℕ). TunnelStays ((x.gates n).streams k) (gate.streams k)) (sym (eqb-true t s is)) here
          at t false is =
              tunnel_same ((x.gates n).streams t) (gate.streams t) (rest t (λ same. absurd (grind (arith, nat_tests, is, same))))

  -- no stream of the link changes
  same_streams : (l n s : ℕ) (next : Captured) (gate : Gateway) → PlainKeeps (x.plain l) next
      → ((t : ℕ) → gate.streams t ≡ (x.gates n).streams t) → AgreeAt (with_stream l n next gate x)
  same_streams l n s next gate plain is =
      stays_on l n s next gate (λ t apart. is t) plain (tunnel_same ((x.gates n).streams s) (gate.streams s) (is s))

  -- an ended tunnel that was told all is none
  told_free : (t : Stream) → is_living t.stage ≡ false → HasTunnel (record t { mail = None }) → ⊥
  told_free t dead (inl lives) = false≢true (sym dead ∙ lives)
  told_free t dead (inr told) = told refl

  -- what is told
  tells_agree : (l n s : ℕ) (heard : Heard) (begun : ℕ) (gate : Gateway) → IsStreamOf x l n s → is_raw (x.plain l) ≡ false
      → ((x.gates n).streams s).mail ≡ Some heard
      → ((t : ℕ) → gate.streams t ≡ (at_stream s (λ t. record t { mail = None }) (x.gates n)).streams t)
      → AgreeAt (with_stream l n (told_by heard begun (x.plain l)) gate x)
  tells_agree l n s heard begun gate of on mail is = by heard mail
    where
      goes : (heard : Heard) → ((x.gates n).streams s).mail ≡ Some heard → goes_on_with heard ≡ true → (next : Captured)
          → PlainKeeps (x.plain l) next → AgreeAt (with_stream l n next gate x)
      goes heard mail going next plain =
          let t = (x.gates n).streams s in
          let carries_it : t.stage ≡ carrying = lives_on t heard (fits_at n s) mail going in
          let same : TunnelStays t (record t { mail = None }) = record {
            on = λ has. inl (ap is_living carries_it);
            back = λ has. inl (ap is_living carries_it);
            captured = refl;
          } in
          stays_on l n s next gate (other_streams (x.gates n) s (λ t. record t { mail = None }) gate is) plain
          (subst (λ (u : Stream). TunnelStays t u) (sym (this_stream (x.gates n) s (λ t. record t { mail = None }) gate is)) same)

      by : (heard : Heard) → ((x.gates n).streams s).mail ≡ Some heard
          → AgreeAt (with_stream l n (told_by heard begun (x.plain l)) gate x)
      by (opens end) mail = goes (opens end) mail refl (told_by (opens end) begun (x.plain l)) (record { gate = refl; stream = refl })
      by (brings bytes) mail =
          goes (brings bytes) mail refl (told_by (brings bytes) begun (x.plain l)) (record { gate = refl; stream = refl })
      by response.ends mail =
          goes response.ends mail refl (told_by response.ends begun (x.plain l)) (record { gate = refl; stream = refl })
      by (fails why) mail =
          is_left l n s (told_by (fails why) begun (x.plain l)) gate (other_streams (x.gates n) s (λ t. record t { mail = None }) gate is)
          of on refl
          (λ has. told_free ((x.gates n).streams s) (ended_by ((x.gates n).streams s) why (fits_at n s) mail)
          (subst HasTunnel (this_stream (x.gates n) s (λ t. record t { mail = None }) gate is) has))

  -- a stream that was left has no tunnel
  left_free : (t : Stream) (stage : Stage) → t.mail ≡ None → is_living stage ≡ false → HasTunnel (at_stage stage t) → ⊥
  left_free t stage none dead (inl lives) = false≢true (sym dead ∙ lives)
  left_free t stage none dead (inr told) = told none

  leaves_agree : (l n s : ℕ) (next : Captured) (stage : Stage) (gate : Gateway) → IsStreamOf x l n s → is_raw (x.plain l) ≡ false
      → next.gate ≡ 0 → ((x.gates n).streams s).mail ≡ None → is_living stage ≡ false
      → ((t : ℕ) → gate.streams t ≡ (at_stream s (at_stage stage) (x.gates n)).streams t) → AgreeAt (with_stream l n next gate x)
  leaves_agree l n s next stage gate of on off none dead is =
      is_left l n s next gate (other_streams (x.gates n) s (at_stage stage) gate is) of on off
      (λ has. left_free ((x.gates n).streams s) stage none dead (subst HasTunnel (this_stream (x.gates n) s (at_stage stage) gate is) has))

  stream_agrees : (l n s : ℕ) (w : Shared) → MayGo l (plain_local x l) (captured_part n s w) → (gate : Gateway)
      → gateway_runs.Steps n (x.gates n) (gateway_part l s w) gate → StreamGuard x l n s w
      → AgreeAt (with_stream l n (next_link (x.plain l) (captured_part n s w)) gate x)
  stream_agrees l n s (asks authority) may gate steps guard =
      let change : Stream → Stream = λ (t : Stream). record no_stream { stage = asked; captured = l } in
      let is : (t : ℕ) → gate.streams t ≡ (at_stream s change (x.gates n)).streams t = λ t. ap (λ (z : Gateway). z.streams t) steps.2 in
      let here : gate.streams s ≡ record no_stream { stage = asked; captured = l } = this_stream (x.gates n) s change gate is in
      let new = (all_know n (x.gates n) (gates_of n points) (gates_run g x points n stands)).unused s
      (number_above (x.gates n).conn s steps.1) in
      is_taken l n s (next_link (x.plain l) (captured.asked n s)) gate (other_streams (x.gates n) s change gate is)
      ((aims_fit g x points stands l).unasked (ap is_asked may.0)) (unused_free ((x.gates n).streams s) (fits_at n s) new)
      (λ zero. let some = may.2 in omega (arith, zero, some)) refl refl
      (subst HasTunnel (sym here) (inl refl)) (ap (λ (t : Stream). t.captured) here)
  stream_agrees l n s (tells heard begun) may gate steps guard =
      tells_agree l n s heard begun gate guard may.0 steps.0 (λ t. ap (λ (z : Gateway). z.streams t) steps.2)
  stream_agrees l n s (puts waiting count) may gate steps guard =
      same_streams l n s _ gate (record { gate = refl; stream = refl }) (λ t. ap (λ (z : Gateway). z.streams t) steps.4)
  stream_agrees l n s finishes may gate steps guard =
      same_streams l n s _ gate (record { gate = refl; stream = refl }) (λ t. ap (λ (z : Gateway). z.streams t) steps.3)
  stream_agrees l n s (credits count) may gate steps guard =
      same_streams l n s _ gate (record { gate = refl; stream = refl }) (λ t. ap (λ (z : Gateway). z.streams t) steps.2)
  stream_agrees l n s (drops begun) may gate steps guard =
      leaves_agree l n s (next_link (x.plain l) (captured.loosed begun)) (dropped_to s (x.gates n)) gate guard may.0 refl steps.1
      (given_up s (x.gates n)) (λ t. ap (λ (z : Gateway). z.streams t) steps.3)
  stream_agrees l n s (completes begun note) may gate steps guard =
      leaves_agree l n s (next_link (x.plain l) (captured.completed begun note)) over gate guard may.0.0 refl steps.1 refl
      (λ t. ap (λ (z : Gateway). z.streams t) steps.3)

step_agrees : (g : NodeConfig) (x : Machine) (points : List Point) → StandsFor g x points → AgreeAt x → (p : Point) (y : Machine)
    → Steps g x p y → AgreeAt y
step_agrees g x points stands agree (of_control q) y steps =
    subst AgreeAt (sym steps.3) (control_agrees g x points stands agree q steps.0)
step_agrees g x points stands agree (of_link l p) y steps =
    nothing_changes x y agree (all_plain g x points stands agree y (ap (λ (z : Machine). z.plain) steps.3))
    (all_tunnels g x points stands agree y (ap (λ (z : Machine). z.gates) steps.3))
step_agrees g x points stands agree (of_plain l p) y steps =
    nothing_changes x y agree
    (λ k. subst (λ (z : Machine). PlainKeeps (x.plain k) (z.plain k)) (sym steps.2)
    (cond_both (k == l) (next_link (x.plain l) p) (x.plain k) (PlainKeeps (x.plain k))
    (λ same. subst (λ (j : ℕ). PlainKeeps (x.plain j) (next_link (x.plain l) p)) (sym (eqb-true k l same)) (part_keeps g x l p steps.1))
    (λ apart. keeps (x.plain k))))
    (all_tunnels g x points stands agree y (ap (λ (z : Machine). z.gates) steps.2))
step_agrees g x points stands agree (of_gate n p) y steps =
    nothing_changes x y agree (all_plain g x points stands agree y (ap (λ (z : Machine). z.plain) steps.3))
    (λ h t. subst (λ (z : Machine). TunnelStays ((x.gates h).streams t) ((z.gates h).streams t)) (sym steps.3)
    (cond_both (h == n) steps.0 (x.gates h) (λ (z : Gateway). TunnelStays ((x.gates h).streams t) (z.streams t))
    (λ same. subst (λ (k : ℕ). TunnelStays ((x.gates k).streams t) (steps.0.streams t)) (sym (eqb-true h n same))
    (own_stays n (x.gates n) p steps.0 steps.1 (unshared g x n p steps.2) t))
    (λ apart. tunnel_same ((x.gates h).streams t) ((x.gates h).streams t) refl)))
step_agrees g x points stands agree (of_stream l n s w) y steps =
    subst AgreeAt (sym steps.4) (stream_agrees g x points stands agree l n s w steps.0 steps.1 steps.2 steps.3)

begins_agree : (g : NodeConfig) → AgreeAt (fresh g)
begins_agree g = record {
  carried = λ l some. absurd (some refl);
  carries = λ n s has. absurd (⊎_elim (λ lives. false≢true lives) (λ told. told refl) has);
}

all_agree : (g : NodeConfig) (x : Machine) (points : List Point) → StandsFor g x points → AgreeAt x
all_agree g x points (begins is none) = subst AgreeAt (sym is) (begins_agree g)
all_agree g y more (goes_on {x = x} {points = points} stands p steps are) =
    step_agrees g x points stands (all_agree g x points stands) p y steps

-- no link has the number 0
pub none_at_zero : (g : NodeConfig) (x : Machine) (points : List Point) → StandsFor g x points → (s : ℕ)
    → HasTunnel ((x.gates 0).streams s) → ⊥
none_at_zero g x points stands s has = ((all_agree g x points stands).carries 0 s has).0 refl

pub runs_agree : RunsAgree
runs_agree g x points stands =
    let agree = all_agree g x points stands in
    record {
      carried = λ l on. agree.carried l (λ zero. absurd (grind (arith, nat_tests, on, zero)));
      carries = λ n s has. let is = agree.carries n s has in (is.1, is.2);
    }
