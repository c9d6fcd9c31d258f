-- What a point, and what follows by itself, leave: a plain link that waits for its dial behind that did so before, and no more links count.
use Rattle.std.proofs.Common.{◌≡◌, ◌≢◌, inl, inr, ⊎_elim, ℕ, ◌≤◌, ◌==◌, ◌&&◌, Bool, true, false, cond, List, [], ◌∷◌, Option, Some, None, refl, ap, sym, ◌∙◌, subst, arith}
use Rattle.std.specs.Prelude.{⊤}
use Rattle.std.proofs.lemmas.Bool.{cases_eq, cond_both, eqb-true}
use Rattle.hb_captured.specs.Answer.{key_of}
use Rattle.hb_captured.specs.Captured as m
use Rattle.hb_captured.specs.Captured.{Captured, Stage, judges, is_judged, judged_by, rejudged, hung_up, entered, up_entered}
use Rattle.hb_captured.specs.Calm.{IsCalm, IsQuiet}
use Rattle.hb_captured.specs.Part as plain
use Rattle.hb_captured.specs.Runs as captured
use Rattle.hb_captured.specs.Runs.{MayCome, UpMayCome, IsTried, next_link}
use Rattle.hb_gateway.specs.Gateway.{Gateway, carries}
use Rattle.hb_gateway.specs.Key.{Key}
use Rattle.hb_gateway.specs.Part as gate
use Rattle.hb_gateway.specs.Runs as gateways
use Rattle.hb_held.specs.Held.{Resources}
use Rattle.hb_inbound.specs.Inbound as link
use Rattle.hb_inbound.specs.Inbound.{Inbound}
use Rattle.hb_inbound.specs.Part as part
use Rattle.hb_inbound.specs.Part.{Part}
use Rattle.hb_inbound.specs.Runs as inbound
use Rattle.hb_links.specs.Reaches as links
use Rattle.hb_model.specs.Machine as control
use Rattle.hb_model.specs.Point as point
use Rattle.hb_model.specs.declared.config.NodeConfig.{NodeConfig}
use Rattle.hb_proxy.proofs.Load.{not_more, one_falls}
use Rattle.hb_proxy.proofs.Phases.{in_counts, stops_in, gate_stops, IsWelcome, part_in, IsDial, gate_in}
use Rattle.hb_proxy.specs.Limits.{is_in}
use Rattle.hb_proxy.specs.Load.{counts, links_at, LinksFull}
use Rattle.hb_proxy.specs.Machine.{Machine, local, plain_local, with_control, with_part, with_plain}
use Rattle.hb_proxy.specs.Points.{Point, of_control, of_link, of_plain, of_gate, of_stream}
use Rattle.hb_proxy.specs.Runs.{IfThrough, MayDialGate, Steps}
use Rattle.hb_proxy.specs.Shared.{Shared, asks, tells, puts, finishes, credits, drops, completes, captured_part, gateway_part}
use Rattle.hb_relays.proofs.Due.{AwaitsMore, Waits, IsPast, past_waits, ends_past, live_past, one_waits, calm_awaits, refusing_same}
use Rattle.hb_relays.proofs.Due as due
use Rattle.hb_relays.proofs.Entering.{quiet_undue}
use Rattle.hb_relays.proofs.Lifted.{there}
use Rattle.hb_relays.specs.Reaches as relays
use Rattle.hb_table.specs.Judgement.{judged}
use Rattle.hb_table.specs.declared.judgement.Judged.{Judged}
use Rattle.hb_table.specs.declared.judgement.Judged.TheVariants.{Admitted, Unknown, Denied}
use Rattle.hb_world.specs.declared.entry.Entry.{Entry}
use Rattle.hb_world.specs.declared.entry.Entry.TheVariants as e
use Rattle.hb_whole.specs.Stands.{WaitsAreFew}

-- A PLAIN LINK, AND AN ENTRY OF IT

-- it is as it was
same_waits : (x : Captured) → AwaitsMore x → Waits x x
same_waits x more = record { awaits = more; same = λ is. refl }

tried_hung : (x : Captured) → IsTried x → IsPast (hung_up x.stage)
tried_hung x (inl at) = subst (λ (s : Stage). IsPast (hung_up s)) (sym at.1) ((λ is. cc is, λ is. cc is))
tried_hung x (inr (inl at)) = subst (λ (s : Stage). IsPast (hung_up s)) (sym at.1) ((λ is. cc is, λ is. cc is))
tried_hung x (inr (inr at)) = subst (λ (s : Stage). IsPast (hung_up s)) (sym at.1) ((λ is. cc is, λ is. cc is))

over_past : (s : Stage) (why : _) → s ≡ m.over why → IsPast s
over_past s why is = subst IsPast (sym is) ((λ no. cc no, λ no. cc no))

-- no bytes of it
abbrev pub IsNoCame : Entry → Type 0
IsNoCame (e.Came k bytes) = ⊥
IsNoCame z = ⊤

entry_waits : (l : ℕ) (x : Captured) (z : Entry) → MayCome l x z → IsNoCame z → AwaitsMore x → Waits x (entered z x)
entry_waits l x (e.Accepted k d) may other more = past_waits x (entered (e.Accepted k d) x) ((λ is. cc is, λ is. cc is))
entry_waits l x (e.Came k bytes) may other more = absurd other
entry_waits l x (e.Ended k) may other more = past_waits x (entered (e.Ended k) x) (tried_hung x may.1.0)
entry_waits l x (e.Went k bytes) may other more = past_waits x (entered (e.Went k bytes) x) (live_past x.stage may.1.1)
entry_waits l x (e.Broke k) may other more = past_waits x (entered (e.Broke k) x) (ends_past _ x.stage)
entry_waits l x (e.Shut k) may other more = past_waits x (entered (e.Shut k) x) (live_past x.stage may.2)
entry_waits l x (e.Closed k why) may other more = past_waits x (entered (e.Closed k why) x) (over_past x.stage why may.2)
entry_waits l x (e.Balked w) may other more = same_waits x more
entry_waits l x (e.Dialled u to why) may other more = absurd may
entry_waits l x (e.DialFailed to why) may other more = absurd may
entry_waits l x (e.Opened k) may other more = absurd may
entry_waits l x e.Tick may other more = absurd may
entry_waits l x (e.Wait ready how) may other more = absurd may

up_waits : (l : ℕ) (x : Captured) (z : Entry) → UpMayCome l x z → AwaitsMore x → Waits x (up_entered z x)
up_waits l x (e.Dialled u to why) may more = past_waits x (up_entered (e.Dialled u to why) x) ((λ is. cc is, λ is. cc is))
up_waits l x (e.DialFailed to why) may more = past_waits x (up_entered (e.DialFailed to why) x) (ends_past _ x.stage)
up_waits l x (e.Opened u) may more = past_waits x (up_entered (e.Opened u) x) ((λ is. cc is, λ is. cc is))
up_waits l x (e.Came u bytes) may more = past_waits x (up_entered (e.Came u bytes) x) (live_past x.stage may.0.0.1)
up_waits l x (e.Ended u) may more = past_waits x (up_entered (e.Ended u) x) (live_past x.stage may.0.0.1)
up_waits l x (e.Went u bytes) may more = past_waits x (up_entered (e.Went u bytes) x) (live_past x.stage may.0.0.1)
up_waits l x (e.Broke u) may more = past_waits x (up_entered (e.Broke u) x) (ends_past _ x.stage)
up_waits l x (e.Shut u) may more = past_waits x (up_entered (e.Shut u) x) (live_past x.stage may.1)
up_waits l x (e.Closed u why) may more = past_waits x (up_entered (e.Closed u why) x) (over_past x.stage why may.1)
up_waits l x (e.Balked w) may more = same_waits x more
up_waits l x (e.Accepted k d) may more = absurd may
up_waits l x e.Tick may more = absurd may
up_waits l x (e.Wait ready how) may more = absurd may

-- what others do to it
judged_waits : (j : Judged) (x : Captured) → AwaitsMore x → Waits x (judged_by j x)
judged_waits Admitted x more = same_waits x more
judged_waits Unknown x more = past_waits x (judged_by Unknown x) (ends_past _ x.stage)
judged_waits Denied x more = past_waits x (judged_by Denied x) (ends_past _ x.stage)

rejudged_waits : (held : Resources) (x : Captured) → AwaitsMore x → Waits x (rejudged held x)
rejudged_waits held x more = by (judges x.door && is_judged x.stage)
  where
    by : (b : Bool) → Waits x (cond b (judged_by (judged held x.peer x.target) x) x)
    by true = judged_waits (judged held x.peer x.target) x more
    by false = same_waits x more

-- THE WHOLE

-- each link that is in was in
pub record Falls (x y : Machine) : Type 0 where
  pub links : (k : ℕ) → is_in (y.inbound k).phase ≡ true → is_in (x.inbound k).phase ≡ true
  pub gates : (k : ℕ) → carries (y.gates k).phase ≡ true → carries (x.gates k).phase ≡ true

-- and a plain link that waits is as it was
pub record Keeps (x y : Machine) : Type 0 where
  pub waits : (k : ℕ) → AwaitsMore (x.plain k) → Waits (x.plain k) (y.plain k)
  pub falls : Falls x y

pub keeps_none : (x : Machine) → Keeps x x
keeps_none x = record {
  waits = λ k more. same_waits (x.plain k) more;
  falls = record { links = λ k is. is; gates = λ k is. is };
}

waits_then : (x y z : Captured) → Waits x y → Waits y z → Waits x z
waits_then x y z first rest = record {
  awaits = rest.awaits;
  same = λ is. (let last = rest.same is in last ∙ first.same (ap (λ (c : Captured). c.stage) (sym last) ∙ is));
}

falls_then : (x y z : Machine) → Falls x y → Falls y z → Falls x z
falls_then x y z first rest = record {
  links = λ k is. first.links k (rest.links k is);
  gates = λ k is. first.gates k (rest.gates k is);
}

pub keeps_then : (x y z : Machine) → Keeps x y → Keeps y z → Keeps x z
keeps_then x y z first rest = record {
  waits = λ k more. (let one = first.waits k more in
      waits_then (x.plain k) (y.plain k) (z.plain k) one (rest.waits k one.awaits));
  falls = falls_then x y z first.falls rest.falls;
}

-- a point by which no link is taken in or dialled, and that brings no bytes of a plain link
abbrev pub IsSteady : Point → Type 0
IsSteady (of_link l part.welcomed) = ⊥
IsSteady (of_plain l plain.welcomed) = ⊥
IsSteady (of_plain l (plain.entry z)) = IsNoCame z
IsSteady (of_gate n (gate.dialled z key)) = ⊥
IsSteady p = ⊤

control_keeps : (q : point.Point) (next : control.Machine) (x : Machine) → Keeps x (with_control q next x)
control_keeps (point.applied l r) next x = record {
  waits = λ k more. rejudged_waits _ (x.plain k) more;
  falls = record { links = λ k is. is; gates = λ k is. is };
}
control_keeps (point.stopped why) next x = record {
  waits = λ k more. past_waits (x.plain k) (m.ends_for why (x.plain k)) (ends_past why (x.plain k).stage);
  falls = record { links = λ k is. stops_in why (x.inbound k).phase is; gates = λ k is. gate_stops why (x.gates k).phase is };
}
control_keeps _ next x = record {
  waits = λ k more. same_waits (x.plain k) more;
  falls = record { links = λ k is. is; gates = λ k is. is };
}

link_keeps : (x : Machine) (l : ℕ) (p : Part) (next : Inbound) → inbound.Steps l (local x l) p (inbound.with_link next (local x l))
    → (IsWelcome p → ⊥) → Keeps x (with_part l p next x)
link_keeps x l p next steps other = record {
  waits = λ k more. same_waits (x.plain k) more;
  falls = record {
    links = λ k. cond_both (k == l) next (x.inbound k) (λ (z : Inbound). is_in z.phase ≡ true → is_in (x.inbound k).phase ≡ true)
        (λ same is. subst (λ (j : ℕ). is_in (x.inbound j).phase ≡ true) (sym (eqb-true k l same))
        (part_in l (local x l) (inbound.with_link next (local x l)) p steps other is)) (λ apart is. is);
    gates = λ k is. is;
  };
}

gates_fall : (x : Machine) (n : ℕ) (p : gate.Part) (next : Gateway) → gateways.Steps n (x.gates n) p next → (IsDial p → ⊥)
    → (k : ℕ) → carries (cond (k == n) next (x.gates k)).phase ≡ true → carries (x.gates k).phase ≡ true
gates_fall x n p next steps other k =
    cond_both (k == n) next (x.gates k) (λ (z : Gateway). carries z.phase ≡ true → carries (x.gates k).phase ≡ true)
    (λ same is. subst (λ (j : ℕ). carries (x.gates j).phase ≡ true) (sym (eqb-true k n same))
    (gate_in n (x.gates n) next p steps other is)) (λ apart is. is)

shared_no_dial : (l s : ℕ) (w : Shared) → IsDial (gateway_part l s w) → ⊥
shared_no_dial l s (asks authority) is = is
shared_no_dial l s (tells heard begun) is = is
shared_no_dial l s (puts waiting count) is = is
shared_no_dial l s finishes is = is
shared_no_dial l s (credits n) is = is
shared_no_dial l s (drops begun) is = is
shared_no_dial l s (completes begun note) is = is

plain_keeps : (x : Machine) (l : ℕ) (p : plain.Part) (next : Captured) → (AwaitsMore (x.plain l) → Waits (x.plain l) next)
    → Keeps x (with_plain l p next x)
plain_keeps x l p next here = record {
  waits = λ k more. one_waits x.plain l next here k more;
  falls = record { links = λ k is. is; gates = λ k is. is };
}

part_waits : (l : ℕ) (a : captured.Local) (p : plain.Part) → IsSteady (of_plain l p) → captured.MayGo l a p → AwaitsMore a.link
    → Waits a.link (next_link a.link p)
part_waits l a (plain.entry z) steady may more = entry_waits l a.link z may steady more
part_waits l a (plain.up z) steady may more = up_waits l a.link z may more
part_waits l a plain.welcomed steady may more = absurd steady
part_waits l a plain.crowded steady may more = past_waits a.link (next_link a.link plain.crowded) (ends_past _ a.link.stage)
part_waits l a (plain.applied r) steady may more = same_waits a.link more
part_waits l a (plain.stopped why) steady may more = past_waits a.link (next_link a.link (plain.stopped why)) (ends_past why a.link.stage)
part_waits l a plain.lacked steady may more = due.part_waits l a plain.lacked tt may more
part_waits l a (plain.misfronted fault) steady may more = due.part_waits l a (plain.misfronted fault) tt may more
part_waits l a (plain.fronted seen by aim) steady may more = due.part_waits l a (plain.fronted seen by aim) tt may more
part_waits l a (plain.refused seen by why status made) steady may more =
    due.part_waits l a (plain.refused seen by why status made) tt may more
part_waits l a (plain.accepted made) steady may more = due.part_waits l a (plain.accepted made) tt may more
part_waits l a plain.roomless steady may more = due.part_waits l a plain.roomless tt may more
part_waits l a (plain.asked gate stream) steady may more = due.part_waits l a (plain.asked gate stream) tt may more
part_waits l a (plain.hears heard begun) steady may more = due.part_waits l a (plain.hears heard begun) tt may more
part_waits l a (plain.put bytes) steady may more = due.part_waits l a (plain.put bytes) tt may more
part_waits l a plain.finished steady may more = due.part_waits l a plain.finished tt may more
part_waits l a (plain.credited n) steady may more = due.part_waits l a (plain.credited n) tt may more
part_waits l a (plain.loosed begun) steady may more = due.part_waits l a (plain.loosed begun) tt may more
part_waits l a (plain.completed begun made) steady may more = due.part_waits l a (plain.completed begun made) tt may more
part_waits l a (plain.left made) steady may more = due.part_waits l a (plain.left made) tt may more
part_waits l a (plain.done made) steady may more = due.part_waits l a (plain.done made) tt may more

steady_link : (l : ℕ) (p : Part) → IsSteady (of_link l p) → IsWelcome p → ⊥
steady_link l part.welcomed steady is = steady
steady_link l p steady is = is

steady_gate : (n : ℕ) (p : gate.Part) → IsSteady (of_gate n p) → IsDial p → ⊥
steady_gate n (gate.dialled z key) steady is = steady
steady_gate n p steady is = is

pub step_keeps : (g : NodeConfig) (x y : Machine) (p : Point) → IsSteady p → Steps g x p y → Keeps x y
step_keeps g x y (of_control q) steady steps = subst (Keeps x) (sym steps.3) (control_keeps q steps.0 x)
step_keeps g x y (of_link l p) steady steps =
    subst (Keeps x) (sym steps.3) (link_keeps x l p steps.0 steps.1 (steady_link l p steady))
step_keeps g x y (of_plain l p) steady steps =
    subst (Keeps x) (sym steps.2)
    (plain_keeps x l p (next_link (x.plain l) p) (part_waits l (plain_local x l) p steady steps.0))
step_keeps g x y (of_gate n p) steady steps =
    subst (Keeps x) (sym steps.3) (record {
      waits = λ k more. same_waits (x.plain k) more;
      falls = record { links = λ k is. is; gates = gates_fall x n p steps.0 steps.1 (steady_gate n p steady) };
    })
step_keeps g x y (of_stream l n s w) steady steps =
    subst (Keeps x) (sym steps.4) (record {
      waits = λ k more. one_waits x.plain l (next_link (x.plain l) (captured_part n s w))
          (due.part_waits l (plain_local x l) (captured_part n s w) (due.shared_own n s w) steps.0) k more;
      falls = record { links = λ k is. is; gates = gates_fall x n (gateway_part l s w) steps.1 steps.2 (shared_no_dial l s w) };
    })

-- WHAT FOLLOWS BY ITSELF

refusing_steady : (p : Point) → relays.IsRefusing p → IsSteady p
refusing_steady (of_control q) is = absurd is
refusing_steady (of_link l p) is = absurd is
refusing_steady (of_plain l (plain.entry z)) is = absurd is
refusing_steady (of_plain l plain.welcomed) is = absurd is
refusing_steady (of_plain l p) is = tt
refusing_steady (of_gate n (gate.dialled z key)) is = absurd is
refusing_steady (of_gate n p) is = tt
refusing_steady (of_stream l n s w) is = tt

pub relays_keep : (g : NodeConfig) (x : Machine) (more : List Point) (y : Machine) → relays.LeadsBy relays.IsRefusing g x more y
    → Keeps x y
relays_keep g x [] y is = subst (Keeps x) (sym is) (keeps_none x)
relays_keep g x (p ∷ more) y is =
    keeps_then x is.1 y (step_keeps g x is.1 p (refusing_steady p is.0) is.2) (relays_keep g is.1 more y is.3)

-- on inbound links, of which none is taken in
abbrev pub TakesNone : links.Guard → Type 0
TakesNone G = (x : Machine) (l : ℕ) → G x (of_link l part.welcomed) → ⊥

inner_steady : (G : links.Guard) → TakesNone G → (x : Machine) (p : Point) → links.IsInner p → G x p → IsSteady p
inner_steady G none x (of_control q) inner guard = absurd inner
inner_steady G none x (of_plain l p) inner guard = absurd inner
inner_steady G none x (of_gate n p) inner guard = absurd inner
inner_steady G none x (of_stream l n s w) inner guard = absurd inner
inner_steady G none x (of_link l part.welcomed) inner guard = none x l guard
inner_steady G none x (of_link l p) inner guard = tt

pub links_keep : (G : links.Guard) → TakesNone G → (g : NodeConfig) (x : Machine) (more : List Point) (y : Machine)
    → links.Leads G g x more y → Keeps x y
links_keep G none g x [] y is = subst (Keeps x) (sym is) (keeps_none x)
links_keep G none g x (p ∷ more) y is =
    keeps_then x is.2 y (step_keeps g x is.2 p (inner_steady G none x p is.0 is.1) is.3) (links_keep G none g is.2 more y is.4)

-- FEW WAIT

-- none does
pub none_few : (g : NodeConfig) (y : Machine) → ((l : ℕ) → (y.plain l).stage ≢ m.due) → WaitsAreFew g y
none_few g y none = record {
  one = λ l k is so. absurd (none l is);
  room = λ l is. absurd (none l is);
}

-- who counts is in, where no link is arriving
in_at : (phase : link.Phase) → phase ≢ link.arriving → counts phase ≡ true → is_in phase ≡ true
in_at link.arriving apart is = absurd (apart refl)
in_at link.unborn apart is = is
in_at link.fronting apart is = is
in_at link.serving apart is = is
in_at (link.faulted code) apart is = is
in_at (link.closing why) apart is = is
in_at link.closed apart is = is

room_falls : (g : NodeConfig) (x y : Machine) → Falls x y → ((k : ℕ) → (y.inbound k).phase ≢ link.arriving) → LinksFull false g x
    → LinksFull false g y
room_falls g x y falls here room b =
    let less = not_more (links_at x) (links_at y) b (λ k below. each k) in let before = room b in omega (arith, less, before)
  where
    each : (k : ℕ) → links_at y k ≤ links_at x k
    each k =
        let left = one_falls (counts (y.inbound k).phase) (counts (x.inbound k).phase)
        (λ is. in_counts (x.inbound k).phase (falls.links k (in_at (y.inbound k).phase (here k) is))) in
        let right = one_falls (carries (y.gates k).phase) (carries (x.gates k).phase) (falls.gates k) in omega (arith, left, right)

through_room : (g : NodeConfig) (x y : Machine) (o : Option Key) → (LinksFull false g x → LinksFull false g y)
    → IfThrough o (λ key. LinksFull false g x) → IfThrough o (λ key. LinksFull false g y)
through_room g x y None room may = tt
through_room g x y (Some key) room may = room may

-- where so much is kept, of a machine on whose plain links nothing more happens by itself
pub few_kept : (g : NodeConfig) (x y : Machine) → Keeps x y → ((k : ℕ) → IsCalm (x.plain k))
    → ((k : ℕ) → (y.inbound k).phase ≢ link.arriving) → WaitsAreFew g x → WaitsAreFew g y
few_kept g x y keeps calm here few = record {
  one = λ l k is so. few.one l k (was l is) (was k so);
  room = λ l is. subst (λ (c : Captured). IfThrough (key_of c.aim) (λ key. LinksFull false g y)) (sym (same l is))
      (through_room g x y (key_of (x.plain l).aim) (room_falls g x y keeps.falls here) (few.room l (was l is)));
}
  where
    same : (l : ℕ) → (y.plain l).stage ≡ m.due → y.plain l ≡ x.plain l
    same l is = (keeps.waits l (calm_awaits (x.plain l) (calm l))).same is

    was : (l : ℕ) → (y.plain l).stage ≡ m.due → (x.plain l).stage ≡ m.due
    was l is = ap (λ (c : Captured). c.stage) (sym (same l is)) ∙ is

-- BYTES OF A PLAIN LINK: no link waited, and this one alone may, where one more may be
module _ (g : NodeConfig) (x y z : Machine) (l : ℕ) (q : Entry) (steps : Steps g x (of_plain l (plain.entry q)) y) (more : List Point)
    (leads : relays.LeadsBy relays.IsRefusing g y more z) (quiet : (k : ℕ) → IsQuiet (x.plain k))
    (here : (k : ℕ) → (z.inbound k).phase ≢ link.arriving) where
  falls_so : Falls x z
  falls_so =
      falls_then x y z (subst (Falls x) (sym steps.2) (record { links = λ k is. is; gates = λ k is. is }))
      (relays_keep g y more z leads).falls

  others : (k : ℕ) → k ≢ l → y.plain k ≡ x.plain k
  others k apart = ap (λ (w : Machine). w.plain k) steps.2 ∙ there x l (plain.entry q) (next_link (x.plain l) (plain.entry q)) k apart

  alone : (k : ℕ) → (z.plain k).stage ≡ m.due → k ≡ l
  alone k is = ⊎_elim (λ same. same)
      (λ apart. (let last = refusing_same g y more z leads k
      (subst AwaitsMore (sym (others k apart)) (calm_awaits (x.plain k) (quiet k).0)) is in
      absurd (quiet_undue (x.plain k) (quiet k) (ap (λ (c : Captured). c.stage) (sym (last ∙ others k apart)) ∙ is))))
      (cases_eq k l)

  pub took_few : (room : Bool) → relays.FindsRoom room (z.plain l) → (room ≡ true → LinksFull false g x) → WaitsAreFew g z
  took_few room finds may = record {
    one = λ k j is so. alone k is ∙ sym (alone j so);
    room = λ k is. (let at = alone k is in
        subst (λ (i : ℕ). MayDialGate g z i) (sym at)
        (through (key_of (z.plain l).aim) (finds (subst (λ (i : ℕ). (z.plain i).stage ≡ m.due) at is))));
  }
    where
      through : (o : Option Key) → IfThrough o (λ key. room ≡ true) → IfThrough o (λ key. LinksFull false g z)
      through None is = tt
      through (Some key) is = room_falls g x z falls_so here (may is)
