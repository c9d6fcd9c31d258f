-- A link to a gateway is born.
use Rattle.std.proofs.Common.{◌≡◌, ◌≢◌, ⊎_elim, ℕ, ◌<◌, ◌^◌, ◌==◌, not, true, cond, List, [], ◌∷◌, ◌++◌, Option, Some, refl, ap, sym, ◌∙◌, subst}
use Rattle.std.proofs.lemmas.Bool.{cases_eq, eq-eqb, false≢true, ne_eqb}
use Rattle.std.specs.FinMap.{get, insert, len-empty}
use Rattle.std.specs.Ordering.{nat_cmp}
use Rattle.hb_base.specs.declared.door.Why.TheVariants as whys
use Rattle.hb_base.specs.declared.target.Target.{Target}
use Rattle.hb_captured.specs.Answer.{key_of, through}
use Rattle.hb_captured.specs.Captured.{Captured, due}
use Rattle.hb_gate.specs.Calls as gate
use Rattle.hb_gate.specs.Shows as gate_shows
use Rattle.hb_gate.specs.declared.gate.Gate.{Gate}
use Rattle.hb_gateway.specs.Calm.{IsCalm}
use Rattle.hb_gateway.specs.Gateway as machine
use Rattle.hb_gateway.specs.Gateway.{Gateway, no_link, offers}
use Rattle.hb_gateway.specs.Key.{Key, front_of}
use Rattle.hb_gateway.specs.Part as gateway_part
use Rattle.hb_gateway.specs.Runs as gateways
use Rattle.hb_map.proofs.Laws.{put_here, put_elsewhere}
use Rattle.hb_proxy.proofs.Gates.{gates_run}
use Rattle.hb_proxy.specs.Machine.{Machine, outward, with_gate as with_gateway}
use Rattle.hb_proxy.specs.Points.{of_gate, gates_of}
use Rattle.hb_proxy.specs.Runs.{IfThrough, NoneOffersAmong, Steps, goes_on}
use Rattle.hb_relay.specs.Streamed.{WantsStream}
use Rattle.hb_relay.specs.declared.relay.Relay.{Relay}
use Rattle.hb_streams.specs.declared.sides.Sides.{Sides}
use Rattle.hb_world.specs.declared.entry.Entry.TheVariants as e
use Rattle.hb_relays.specs.Calls.{DialsGate}
use Rattle.hb_relays.specs.Joining.{Joins, ShowsSome, all, also, but, every}
use Rattle.hb_relays.specs.Reaches.{Follows, NoneWaits}
use Rattle.hb_relays.specs.Shows.{ShowsGate, ShowsRelay}
use Rattle.hb_relays.specs.Walks.{gate_touched_at}
use Rattle.hb_relays.specs.declared.relays.Relays.{Relays}
use Rattle.hb_relays.proofs.GateEntering.{conn_rests, gate_then}
use Rattle.hb_relays.proofs.Entering.{either}
use Rattle.hb_relays.proofs.Progress.{goes_follow, knows}
use Rattle.hb_relays.proofs.Unborn.{unborn_blank}

not_itself : (l a : ℕ) → but a l ≡ true → l ≢ a
not_itself l a apart same = false≢true (sym (ap not (eq-eqb l a same)) ∙ apart)

-- the key of the code is that for which it is dialled
keys_same : (x : Captured) (key wanted : Key) (authority : Target) (endpoint : List ℕ) → x.aim ≡ through key authority endpoint
    → key_of x.aim ≡ Some wanted → wanted ≡ key
keys_same x key wanted authority endpoint aims keyed =
    let both : Some wanted ≡ Some key = sym keyed ∙ ap key_of aims in
    cc both

-- a link to a gateway that was dialled just now has room
new_offers : (key : Key) → offers (record no_link { key = key; phase = machine.opening; front = front_of key }) ≡ true
new_offers key = rw (len-empty nat_cmp Sides) refl

pub gate_dials : (k m d : Relays) (a n : ℕ) (old : Relay) (key : Key) (authority : Target) (new : Gate) → get k.relays a ≡ Some old
    → WantsStream old (Some (key, authority)) → gate.Begins n key new → new.number ≡ n → n < 2 ^ 64
    → m ≡ gate_touched_at n (record k { gates = insert k.gates n new }) → Joins a m d → DialsGate a n k d
gate_dials k m d a n old key authority new is wants starts number narrow m_is joins to wanted g x y points stands shows alone steps =
    let call = e.Dialled n to (whys.Gateway a) in
    let p = gateway_part.dialled call wanted in
    let w = x.gates n in
    let blank : w ≡ no_link = unborn_blank n w (gates_of n points) (gates_run g x points n stands) steps.1.0.1 in
    let shown = subst (λ (o : Option Relay). ShowsRelay a o (x.plain a)) is (shows.relays a) in
    let wish = wants (x.plain a) shown.1 in
    let same : wanted ≡ key = keys_same (x.plain a) key wanted authority wish.1.0 wish.1.1 steps.2.1.keyed in
    let next = record w { key = wanted; phase = machine.opening; front = front_of wanted } in
    let is_shown : gate_shows.Shows new next =
    starts call next (subst (λ (c : Key). gateways.Steps n no_link (gateway_part.dialled call c) next) same
    (subst (λ (v : Gateway). gateways.Steps n v p next) blank (steps.1.0, refl))) in
    let f : ℕ → Gateway = λ j. cond (j == n) next (x.gates j) in
    let here : f n ≡ next = ap (λ (t : _). cond t next (x.gates n)) (eq-eqb n n refl) in
    let other : (j : ℕ) → j ≢ n → f j ≡ x.gates j = λ j apart. ap (λ (t : _). cond t next (x.gates j)) (ne_eqb j n apart) in
    let conns : (j : ℕ) → (f j).conn ≡ (x.gates j).conn = λ j. ⊎_elim
    (λ at. subst (λ (i : ℕ). (f i).conn ≡ (x.gates i).conn) (sym at) (ap (λ (v : Gateway). v.conn) here))
    (λ apart. ap (λ (v : Gateway). v.conn) (other j apart)) (cases_eq j n) in
    let z = with_gateway n p next x in
    let z_steps : Steps g x (of_gate n p) z = (next, (steps.1.0, refl), steps.2, refl) in
    let known : ShowsSome (but a) every all g (gate_touched_at n (record k { gates = insert k.gates n new })) (outward z) =
    gate_then g k n (insert k.gates n new) (outward x) f shows (put_elsewhere k.gates n new) other narrow
    (subst (λ (o : Option Gate). ShowsGate n o (f n)) (sym (put_here k.gates n new))
    (subst (ShowsGate n (Some new)) (sym here) (number, is_shown, tt))) (but a) every all
    (λ quiet_so. subst IsCalm (sym here)
    (subst (λ (v : Gateway). IsCalm (record v { key = wanted; phase = machine.opening; front = front_of wanted })) (sym blank)
    ((λ s. refl), (λ s. refl))))
    (λ l quiet_so. conn_rests x.gates f (x.plain l) (conns (x.plain l).gate) (shows.calm.streams l))
    (λ l apart stage. absurd (not_itself l a apart (alone l stage))) in
    let ran = goes_on stands (of_gate n p) z_steps refl in
    let joining = joins (but a) every g z (points ++ of_gate n p ∷ []) ran
    (subst (λ (v : Relays). ShowsSome (but a) every all g v (outward z)) (sym m_is) known) (Some []) in
    let joined = joining.0 in
    let room : offers (z.gates n) ≡ true =
    ap offers here ∙ ap (λ (v : Gateway). offers (record v { key = wanted; phase = machine.opening; front = front_of wanted })) blank
    ∙ new_offers wanted in
    let keyed : (z.gates n).key ≡ wanted = ap (λ (v : Gateway). v.key) here in
    let whole = knows (also a (but a)) all every every all all g d (outward joined.reached) (λ l any. either (l == a)) (λ l w any. refl)
    (λ m any. refl) joined.shows in
    let undue : (joined.reached.plain a).stage ≢ due = λ stage.
    (let same = joining.1 stage in
    let none : IfThrough (key_of (z.plain a).aim) (NoneOffersAmong z.gates) =
    subst (λ (v : Machine). IfThrough (key_of (v.plain a).aim) (NoneOffersAmong v.gates)) same (whole.wanting a refl stage) in
    let never = subst (λ (o : Option Key). IfThrough o (NoneOffersAmong z.gates)) steps.2.1.keyed none in
    false≢true (sym (never n keyed) ∙ room)) in
    subst (λ (v : Machine). (follows : Follows g v d (Some []) (Some [])) × NoneWaits follows.reached)
    (sym (steps.3 ∙ ap (λ (v : Gateway). with_gateway n p v x) steps.1.1)) (
      goes_follow g z d (Some []) (Some []) (record {
        more = joined.more;
        reached = joined.reached;
        leads = joined.leads;
        shows = whole;
        undue = joined.undue;
        noted = joined.noted;
      }),
      λ j stage. ⊎_elim
          (λ at. undue (subst (λ (i : ℕ). (joined.reached.plain i).stage ≡ due) at stage))
          (λ apart. joined.undue j (λ was. apart (alone j was)) stage)
          (cases_eq j a),
    )
