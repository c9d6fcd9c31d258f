-- An entry on a link to a gateway is one of all links.
use Rattle.std.proofs.Common.{◌≡◌, ◌≢◌, inl, inr, ⊎_elim, ◌⊎◌, ℕ, ◌<◌, ◌^◌, ◌==◌, ◌&&◌, ◌||◌, Bool, true, false, cond, List, [], ◌∷◌, ◌++◌, Option, Some, None, is_some, refl, ap, sym, ◌∙◌, subst}
use Rattle.std.proofs.lemmas.Bool.{cases_eq, eq-eqb, false≢true, ne_eqb}
use Rattle.std.specs.FinMap.{get, insert}
use Rattle.hb_base.specs.declared.cause.Cause.{Cause}
use Rattle.hb_base.specs.declared.cause.Cause.TheVariants as cause
use Rattle.hb_captured.specs.Answer.{key_of}
use Rattle.hb_captured.specs.Captured.{Captured, due, is_raw}
use Rattle.hb_conn.specs.Connection.{Connection}
use Rattle.hb_gate.specs.Calls as gate
use Rattle.hb_gate.specs.Observed.{says_last}
use Rattle.hb_gate.specs.Shows as shown
use Rattle.hb_gate.specs.declared.gate.Gate.{Gate}
use Rattle.hb_gateway.proofs.Ending.{end_tunnels}
use Rattle.hb_gateway.specs.Calm.{AllReset, AllTold, IsCalm, IsCalmBy, close_due}
use Rattle.hb_gateway.specs.Gateway as machine
use Rattle.hb_gateway.specs.Gateway.{Gateway, Phase, broken_by, carries, end_cause, has_room, offers}
use Rattle.hb_gateway.specs.Hears.{all_hear}
use Rattle.hb_gateway.specs.Key.{Key}
use Rattle.hb_gateway.specs.Part.{Part, entry}
use Rattle.hb_gateway.specs.Runs as gateways
use Rattle.hb_kept.specs.Kept.{Fares}
use Rattle.hb_link.proofs.Noted.{takes_none}
use Rattle.hb_link.specs.Noted.{Told}
use Rattle.hb_map.proofs.Laws.{put_here, put_elsewhere, written_where_some}
use Rattle.hb_map.specs.Keyed.{written}
use Rattle.hb_model.specs.declared.config.NodeConfig.{NodeConfig}
use Rattle.hb_proxy.proofs.Gates.{gates_run}
use Rattle.hb_proxy.proofs.Streams.{runs_agree}
use Rattle.hb_proxy.specs.Machine.{Machine, Outward, outward, with_gate as with_gateway}
use Rattle.hb_proxy.specs.Points.{Point, of_gate, gates_of}
use Rattle.hb_proxy.specs.Runs.{GateMayCome, IfThrough, NoneOffersAmong, PlainLets, RestsAmong, Steps, StandsFor, goes_on, gate_first, is_gate_faulted}
use Rattle.hb_proxy.specs.Seen.{IsGateThere}
use Rattle.hb_world.specs.declared.entry.Entry.{Entry}
use Rattle.hb_world.specs.declared.entry.Entry.TheVariants as e
use Rattle.hb_relays.specs.Calls.{GateEntersWhere, GateEnters, is_faulted}
use Rattle.hb_relays.specs.Joining.{Gates, Links, Streams, ShowsSome, all, but, every, not_of}
use Rattle.hb_relays.specs.Looking.{IsSettled, LooksAll, SettledBy, Settles, ShowsOpen}
use Rattle.hb_relays.specs.Pumping.{NoneDue, PumpsGate}
use Rattle.hb_relays.specs.Reaches.{Follows}
use Rattle.hb_relays.specs.Shows.{ShowsGate, ShowsRelays}
use Rattle.hb_relays.specs.Walks.{gate_touched_at, with_gate}
use Rattle.hb_relays.specs.declared.relays.Relays.{Relays}
use Rattle.hb_relays.proofs.Entering.{quiet_undue}
use Rattle.hb_relays.proofs.Observing.{gate_last, last_said}
use Rattle.hb_relays.proofs.Opening.{opening_looked}
use Rattle.hb_relays.proofs.Progress.{goes_follow, is_all, stands_on}
use Rattle.hb_relays.proofs.Resting.{Keeps, same_keeps, rests_still}
use Rattle.hb_relays.proofs.Showing.{apart_is, apart_of}
use Rattle.hb_relays.proofs.Touching.{untouched}

-- A STREAM RESTS while its connection is the same
pub conn_rests : (f h : ℕ → Gateway) (c : Captured) → (h c.gate).conn ≡ (f c.gate).conn → RestsAmong f c → RestsAmong h c
conn_rests f h c same rests on =
    rests_still c.stage c (f c.gate) (h c.gate)
    (subst (λ (d : Connection). Keeps (f c.gate).conn d c.stream) (sym same) (same_keeps (f c.gate).conn c.stream)) (rests on)

-- none lives on a link to a gateway that ended, where each tunnel was told
pub none_carried : (g : NodeConfig) (x : Machine) (points : List Point) → StandsFor g x points → (n : ℕ) → AllTold (x.gates n)
    → carries (x.gates n).phase ≡ false → (l : ℕ) → (x.plain l).gate ≡ n → is_raw (x.plain l) ≡ false → ⊥
none_carried g x points stands n told ended l at on =
    let tunnel = ((runs_agree g x points stands).carried l on).0 in
    ⊎_elim
    (λ living. false≢true (sym (end_tunnels (x.plain l).gate (x.gates (x.plain l).gate) (gates_of (x.plain l).gate points)
    (gates_run g x points (x.plain l).gate stands)
    (λ had. false≢true (sym ended ∙ ap (λ (i : ℕ). carries (x.gates i).phase) (sym at) ∙ had)) (x.plain l).stream) ∙ living))
    (λ some. some (ap (λ (i : ℕ). ((x.gates i).streams (x.plain l).stream).mail) at ∙ told (x.plain l).stream)) tunnel

-- ONE LINK TO A GATEWAY CHANGES: it is touched
module _ (g : NodeConfig) (k : Relays) (n : ℕ) (gates : Gates) (x : Outward) (f : ℕ → Gateway) (shows : ShowsRelays g k x)
    (same : (j : ℕ) → j ≢ n → get gates j ≡ get k.gates j) (others : (j : ℕ) → j ≢ n → f j ≡ x.gates j) (narrow : n < 2 ^ 64)
    (here : ShowsGate n (get gates n) (f n)) (waiting : Links) (resting : Streams) (calm : Links) where
  pub gate_then : (calm n ≡ true → IsCalm (f n)) → ((l : ℕ) → resting l (x.plain l) ≡ true → RestsAmong f (x.plain l))
      → ((l : ℕ) → waiting l ≡ true → (x.plain l).stage ≡ due → IfThrough (key_of (x.plain l).aim) (NoneOffersAmong f))
      → ShowsSome waiting resting calm g (gate_touched_at n (record k { gates = gates })) (record x { gates = f })
  gate_then quiet rests waits = record {
    relays = shows.relays;
    index = shows.index;
    numbered = shows.numbered;
    idle = shows.idle;
    counted = shows.counted;
    gates = λ m. ⊎_elim
        (λ at. subst (λ (i : ℕ). ShowsGate i (get gates i) (f i)) (sym at) here)
        (λ apart. subst (λ (o : Option Gate). ShowsGate m o (f m)) (sym (same m apart))
        (subst (ShowsGate m (get k.gates m)) (sym (others m apart)) (shows.gates m)))
        (cases_eq m n);
    gate_numbered = λ m some. ⊎_elim (λ at. subst (λ (i : ℕ). i < 2 ^ 64) (sym at) narrow)
        (λ apart. shows.gate_numbered m (sym (ap is_some (same m apart)) ∙ some)) (cases_eq m n);
    gate_idle = λ m none. (let was = untouched n k.gate_due m none in
        ap (λ (w : Gateway). close_due w.phase) (others m was.0) ∙ shows.gate_idle m was.1);
    gates_calm = λ m is. ⊎_elim
        (λ at. subst (λ (i : ℕ). IsCalm (f i)) (sym at) (quiet (subst (λ (i : ℕ). calm i ≡ true) at is)))
        (λ apart. subst IsCalm (sym (others m apart)) (shows.calm.gates m)) (cases_eq m n);
    streams = rests;
    wanting = waits;
  }

-- the streams of others rest on
pub others_rest : (x : Outward) (n : ℕ) (f : ℕ → Gateway) → ((j : ℕ) → j ≢ n → f j ≡ x.gates j) → (l : ℕ) → not_of n l (x.plain l) ≡ true
    → RestsAmong x.gates (x.plain l) → RestsAmong f (x.plain l)
others_rest x n f others l is rests =
    conn_rests x.gates f (x.plain l) (ap (λ (w : Gateway). w.conn) (others (x.plain l).gate (apart_of (x.plain l).gate n is))) rests

-- none waits that finds room, where this link has no more than it had
pub waits_on : (x : Outward) (n : ℕ) (f : ℕ → Gateway) → ((j : ℕ) → j ≢ n → f j ≡ x.gates j) → (f n).key ≡ (x.gates n).key
    → (offers (f n) ≡ true → offers (x.gates n) ≡ true) → (o : Option Key) → IfThrough o (NoneOffersAmong x.gates)
    → IfThrough o (NoneOffersAmong f)
waits_on x n f others key room None none = tt
waits_on x n f others key room (Some wanted) none = λ m keyed. ⊎_elim
    (λ at. by m (offers (f n)) refl (subst (λ (i : ℕ). (f i).key ≡ wanted) at keyed) (ap (λ (i : ℕ). offers (f i)) at))
    (λ apart. ap offers (others m apart) ∙ none m (ap (λ (w : Gateway). w.key) (sym (others m apart)) ∙ keyed)) (cases_eq m n)
  where
    by : (m : ℕ) (b : Bool) → offers (f n) ≡ b → (f n).key ≡ wanted → offers (f m) ≡ offers (f n) → offers (f m) ≡ false
    by m false is keyed at = at ∙ is
    by m true is keyed at = absurd (false≢true (sym (none n (sym key ∙ keyed)) ∙ room is))

-- A PART IS TOLD TO IT
module _ (g : NodeConfig) (k : Relays) (n : ℕ) (kept new : Gate) (p : Part) (is : get k.gates n ≡ Some kept) (x : Machine)
    (points : List Point) (stands : StandsFor g x points) (shows : ShowsRelays g k (outward x)) where
  pub shown_gate : ShowsGate n (Some kept) (x.gates n)
  shown_gate = subst (λ (o : Option Gate). ShowsGate n o (x.gates n)) is (shows.gates n)

  pub of_each : (P : Gateway → Type 0) → gate.OnEach kept P → P (x.gates n)
  of_each P each =
      each (x.gates n) (gates_of n points)
      (subst (λ (i : ℕ). gateways.StandsFor i (x.gates n) (gates_of n points)) (sym shown_gate.0) (gates_run g x points n stands))
      shown_gate.1

  -- it is shown with it
  pub told_shows : (next : Gateway) → gate.Enters p kept new → gateways.Steps n (x.gates n) p next → shown.Shows new next
  told_shows next enters steps =
      of_each (λ (w : Gateway). (y : Gateway) → gateways.Steps kept.number w p y → shown.Shows new y) enters.1 next
      (subst (λ (i : ℕ). gateways.Steps i (x.gates n) p next) (sym shown_gate.0) steps)

  abbrev pub turned : Gateway → ℕ → Gateway
  turned next j = cond (j == n) next (x.gates j)

  pub turned_here : (next : Gateway) → turned next n ≡ next
  turned_here next = ap (λ (t : Bool). cond t next (x.gates n)) (eq-eqb n n refl)

  pub turned_other : (next : Gateway) (j : ℕ) → j ≢ n → turned next j ≡ x.gates j
  turned_other next j apart = ap (λ (t : Bool). cond t next (x.gates j)) (ne_eqb j n apart)

  -- and the whole, with this known of it
  module _ (next : Gateway) (enters : gate.Enters p kept new) (steps : gateways.Steps n (x.gates n) p next) (there : IsGateThere next.phase)
      (resting : Streams) (calm : Links) where
    pub told_then : (calm n ≡ true → IsCalm next)
        → ((l : ℕ) → resting l (x.plain l) ≡ true → RestsAmong (turned next) (x.plain l))
        → ((l : ℕ) → (x.plain l).stage ≡ due → IfThrough (key_of (x.plain l).aim) (NoneOffersAmong (turned next)))
        → ShowsSome all resting calm g (gate_touched_at n (with_gate n new k)) (outward (with_gateway n p next x))
    told_then quiet rests waits =
        gate_then g k n (insert k.gates n new) (outward x) (turned next) shows (put_elsewhere k.gates n new) (turned_other next)
        (shows.gate_numbered n (ap is_some is))
        (subst (λ (o : Option Gate). ShowsGate n o (turned next n)) (sym (put_here k.gates n new))
        (subst (ShowsGate n (Some new)) (sym (turned_here next)) (enters.0 ∙ shown_gate.0, told_shows next enters steps, there)))
        all resting calm (λ is_calm. subst IsCalm (sym (turned_here next)) (quiet is_calm)) rests (λ l quiet_so. waits l)

-- while it isn't the turn of acts, nor behind a connection error, no link waits
pub gate_undue : (x : Machine) (n : ℕ) (z : Entry) → gate_first (x.gates n).phase z ≡ false → GateMayCome x n z → NoneDue x
gate_undue x n z first may j =
    quiet_undue (x.plain j) (subst (λ (b : Bool). PlainLets b (x.plain j)) first (may.plain j))

waits_none : (x : Machine) (f : ℕ → Gateway) → NoneDue x → (l : ℕ) → (x.plain l).stage ≡ due
    → IfThrough (key_of (x.plain l).aim) (NoneOffersAmong f)
waits_none x f none l is = absurd (none l is)

-- as the code comes to it
pub gate_changed_is : (k m : Relays) (gates : Gates) (n : ℕ) (kept new : Gate) → m ≡ gate_touched_at n (record k { gates = gates })
    → gates ≡ written k.gates n new → get k.gates n ≡ Some kept → m ≡ gate_touched_at n (with_gate n new k)
gate_changed_is k m gates n kept new m_is gates_is is =
    m_is ∙ ap (λ (all : Gates). gate_touched_at n (record k { gates = all }))
    (gates_is ∙ written_where_some k.gates n new (ap is_some is))

pub no_gate : (P : Machine → Type 0) (k m : Relays) (n : ℕ) (z : Entry) (told now : Told) → get k.gates n ≡ None
    → GateEntersWhere P n z k told m now
no_gate P k m n z told now none some = absurd (false≢true (sym (ap is_some none) ∙ some))

-- IT IS OPEN

calm_at : (phase : Phase) (w : Gateway) → w.phase ≡ phase → IsCalm w → IsCalmBy phase w
calm_at phase w is calm = subst (λ (p : Phase). IsCalmBy p w) is calm.1

pub opens : (k m : Relays) (n : ℕ) (kept new : Gate) (told : Told) → get k.gates n ≡ Some kept → m ≡ gate_touched_at n (with_gate n new k)
    → gate.Enters (entry (e.Opened kept.number)) kept new → GateEnters n (e.Opened n) k told m told
opens k m n kept new told is m_is enters some g x y points stands shows holds steps =
    let p = entry (e.Opened n) in
    let w = x.gates n in
    let kept_is = (shown_gate g k n kept new p is x points stands shows).0 in
    let told_so = subst (λ (i : ℕ). gate.Enters (entry (e.Opened i)) kept new) kept_is enters in
    let next = gateways.entered (e.Opened n) (all_hear p w) in
    let at_opening : w.phase ≡ machine.opening = steps.1.0.1.1 in
    let calm = shows.calm.gates n in
    let turns = turned g k n kept new p is x points stands shows next in
    let now : steps.0 ≡ next = steps.1.1 in
    let z = with_gateway n p next x in
    let same_conn : (l : ℕ) → (turns (x.plain l).gate).conn ≡ (x.gates (x.plain l).gate).conn = λ l. ⊎_elim
    (λ at. subst (λ (i : ℕ). (turns i).conn ≡ (x.gates i).conn) (sym at)
    (ap (λ (v : Gateway). v.conn) (turned_here g k n kept new p is x points stands shows next)))
    (λ apart. ap (λ (v : Gateway). v.conn) (turned_other g k n kept new p is x points stands shows next (x.plain l).gate apart))
    (cases_eq (x.plain l).gate n) in
    let known : ShowsSome all every all g (gate_touched_at n (with_gate n new k)) (outward z) =
    told_then g k n kept new p is x points stands shows next told_so (steps.1.0, refl) tt every all
    (λ is_calm. (
      calm.0,
      (
        calm_at machine.opening w at_opening calm,
        opening_looked n w (gates_of n points) (gates_run g x points n stands) at_opening,
      ),
    ))
    (λ l is_so. conn_rests x.gates turns (x.plain l) (same_conn l) (shows.calm.streams l))
    (λ l waits. waits_on (outward x) n turns (turned_other g k n kept new p is x points stands shows next)
    (ap (λ (v : Gateway). v.key) (turned_here g k n kept new p is x points stands shows next))
    (λ room. ap (λ (q : Phase). carries q && has_room w) at_opening
    ∙ sym (ap offers (turned_here g k n kept new p is x points stands shows next)) ∙ room)
    (key_of (x.plain l).aim) (shows.wanting l waits)) in
    subst (λ (v : Machine). Follows g v m told told)
    (sym (steps.3 ∙ ap (λ (v : Gateway). with_gateway n p v x) now))
    (subst (λ (v : Relays). Follows g z v told told) (sym m_is) (record {
      more = [];
      reached = z;
      leads = refl;
      shows = is_all all every all g (gate_touched_at n (with_gate n new k)) (outward z) (λ l. refl) (λ l c. refl) (λ i. refl) known;
      noted = takes_none told;
    }))

-- BYTES CAME: all is looked at
pub takes : (k m d : Relays) (n : ℕ) (kept new : Gate) (bytes : List ℕ) (told now : Told) → get k.gates n ≡ Some kept
    → m ≡ gate_touched_at n (with_gate n new k) → gate.Enters (entry (e.Came kept.number bytes)) kept new → gate.FaresWith bytes kept
    → LooksAll n m told d now → GateEnters n (e.Came n bytes) k told d now
takes k m d n kept new bytes told now is m_is enters fares looks some g x y points stands shows holds steps =
    let p = entry (e.Came n bytes) in
    let w = x.gates n in
    let kept_is = (shown_gate g k n kept new p is x points stands shows).0 in
    let told_so = subst (λ (i : ℕ). gate.Enters (entry (e.Came i bytes)) kept new) kept_is enters in
    let next = gateways.entered (e.Came n bytes) (all_hear p w) in
    let serves : w.phase ≡ machine.serving = steps.1.0.1.0.1 in
    let calm = shows.calm.gates n in
    let turns = turned g k n kept new p is x points stands shows next in
    let here = turned_here g k n kept new p is x points stands shows next in
    let others = turned_other g k n kept new p is x points stands shows next in
    let z = with_gateway n p next x in
    let z_steps : Steps g x (of_gate n p) z = (next, (steps.1.0, refl), steps.2, refl) in
    let none : NoneDue x = gate_undue x n (e.Came n bytes) (ap is_gate_faulted_or serves) steps.2 in
    let room = of_each g k n kept new p is x points stands shows
    (λ (v : Gateway). (u : Gateway) → gateways.Steps kept.number v (entry (e.Came kept.number bytes)) u → Fares u.conn) fares in
    let fares_so : Fares next.conn =
    subst (λ (i : ℕ). (u : Gateway) → gateways.Steps i w (entry (e.Came i bytes)) u → Fares u.conn) kept_is room next (steps.1.0, refl) in
    let known : ShowsSome all (not_of n) (but n) g (gate_touched_at n (with_gate n new k)) (outward z) =
    told_then g k n kept new p is x points stands shows next told_so (steps.1.0, refl) (there_at w serves) (not_of n) (but n)
    (λ quiet_so. absurd (apart_of n n quiet_so refl))
    (λ l apart. others_rest (outward x) n turns others l apart (shows.calm.streams l))
    (waits_none x turns none) in
    let settled : IsSettled (z.gates n) = subst IsSettled (sym here)
    (calm.0, settled_at w next.conn serves (calm_at machine.serving w serves calm).0 calm.0 fares_so) in
    let goes = looks g z (points ++ of_gate n p ∷ []) (goes_on stands (of_gate n p) z_steps refl)
    (subst (λ (v : Relays). ShowsSome all (not_of n) (but n) g v (outward z)) (sym m_is) known) none settled in
    subst (λ (v : Machine). Follows g v d told now)
    (sym (steps.3 ∙ ap (λ (v : Gateway). with_gateway n p v x) steps.1.1)) (goes_follow g z d told now goes)
  where
    is_gate_faulted_or : Phase → Bool
    is_gate_faulted_or phase = is_gate_faulted phase || false

    there_at : (w : Gateway) → w.phase ≡ machine.serving → IsGateThere w.phase
    there_at w serves = subst IsGateThere (sym serves) tt

    settled_at : (w : Gateway) (c : Connection) → w.phase ≡ machine.serving → AllReset w → AllTold w → Fares c
        → SettledBy w.phase (record w { conn = c })
    settled_at w c serves reset told fares =
        subst (λ (q : Phase). SettledBy q (record w { conn = c })) (sym serves)
        (record { serves = serves; reset = reset; told = told; fares = fares })

-- IT ENDED, OR BROKE: its tunnels are told that

-- where nothing of it is left all is known
pub ended_whole : (g : NodeConfig) (x : Machine) (points : List Point) → StandsFor g x points → (n : ℕ) (k : Relays) → AllTold (x.gates n)
    → (why : Cause) → (x.gates n).phase ≡ machine.closing why → ShowsOpen n g k (outward x) → ShowsRelays g k (outward x)
ended_whole g x points stands n k told why phase shows = record {
  relays = shows.relays;
  index = shows.index;
  numbered = shows.numbered;
  idle = shows.idle;
  counted = shows.counted;
  gates = shows.gates;
  gate_numbered = shows.gate_numbered;
  gate_idle = shows.gate_idle;
  calm = record {
    gates = λ m. ⊎_elim
        (λ at. subst (λ (i : ℕ). IsCalm (x.gates i)) (sym at)
        (told, subst (λ (q : Phase). IsCalmBy q (x.gates n)) (sym phase) tt))
        (λ apart. shows.gates_calm m (apart_is m n apart)) (cases_eq m n);
    streams = λ l. ⊎_elim
        (λ at on. absurd (none_carried g x points stands n told (ap carries phase) l at on))
        (λ apart. shows.streams l (apart_is (x.plain l).gate n apart)) (cases_eq (x.plain l).gate n);
  };
  wanting = λ l. shows.wanting l refl;
}

module _ (k m d : Relays) (n : ℕ) (kept new : Gate) (told now : Told) (is : get k.gates n ≡ Some kept)
    (m_is : m ≡ gate_touched_at n (with_gate n new k)) (settles : Settles n m told d now) (call : ℕ → Entry) where
  -- behind such an entry the link is to be closed
  pub ends : gate.Enters (entry (call kept.number)) kept new
      → ((w : Gateway) → gateways.MayCome n w (call n)
      → (why : Cause) × ((gateways.entered (call n) (all_hear (entry (call n)) w)).phase ≡ machine.closing why))
      → ((w : Gateway) → (gateways.entered (call n) (all_hear (entry (call n)) w)).key ≡ w.key)
      → GateEnters n (call n) k told d now
  ends enters closes key some g x y points stands shows holds steps =
      let p = entry (call n) in
      let w = x.gates n in
      let kept_is = (shown_gate g k n kept new p is x points stands shows).0 in
      let told_so = subst (λ (i : ℕ). gate.Enters (entry (call i)) kept new) kept_is enters in
      let next = gateways.entered (call n) (all_hear p w) in
      let closing = closes w steps.1.0 in
      let turns = turned g k n kept new p is x points stands shows next in
      let here = turned_here g k n kept new p is x points stands shows next in
      let others = turned_other g k n kept new p is x points stands shows next in
      let z = with_gateway n p next x in
      let z_steps : Steps g x (of_gate n p) z = (next, (steps.1.0, refl), steps.2, refl) in
      let ran = goes_on stands (of_gate n p) z_steps refl in
      let known : ShowsOpen n g (gate_touched_at n (with_gate n new k)) (outward z) =
      told_then g k n kept new p is x points stands shows next told_so (steps.1.0, refl)
      (subst IsGateThere (sym closing.1) tt) (not_of n) (but n)
      (λ quiet_so. absurd (apart_of n n quiet_so refl))
      (λ l apart. others_rest (outward x) n turns others l apart (shows.calm.streams l))
      (λ l waits. waits_on (outward x) n turns others (ap (λ (v : Gateway). v.key) here ∙ key w)
      (λ room. absurd (false≢true (sym (ap (λ (q : Phase). carries q && has_room next) closing.1) ∙ sym (ap offers here) ∙ room)))
      (key_of (x.plain l).aim) (shows.wanting l waits)) in
      let told_all = settles (ap (λ (v : Relays). is_some (get v.gates n)) m_is ∙ ap is_some (put_here k.gates n new))
      g z (points ++ of_gate n p ∷ []) ran (subst (λ (v : Relays). ShowsOpen n g v (outward z)) (sym m_is) known) in
      let goes = told_all.goes in
      let last = stands_on g z (points ++ of_gate n p ∷ []) goes.more goes.reached ran goes.leads in
      let phase : (goes.reached.gates n).phase ≡ machine.closing closing.0 =
      told_all.here.phase ∙ ap (λ (v : Gateway). v.phase) here ∙ closing.1 in
      subst (λ (v : Machine). Follows g v d told now)
      (sym (steps.3 ∙ ap (λ (v : Gateway). with_gateway n p v x) steps.1.1)) (record {
        more = goes.more;
        reached = goes.reached;
        leads = goes.leads;
        shows = ended_whole g goes.reached last.0 last.1 n d told_all.here.told closing.0 phase goes.shows;
        noted = goes.noted;
      })

pub ended_closes : (n : ℕ) (w : Gateway) → gateways.MayCome n w (e.Ended n)
    → (why : Cause) × ((gateways.entered (e.Ended n) (all_hear (entry (e.Ended n)) w)).phase ≡ machine.closing why)
ended_closes n w may = (end_cause w.conn, refl)

broken_closes : (phase : Phase) → (phase ≡ machine.opening) ⊎ ((phase ≡ machine.serving) ⊎ ((code : ℕ) × (phase ≡ machine.faulted code)))
    → (why : Cause) × (broken_by phase ≡ machine.closing why)
broken_closes phase (inl is) = (cause.Broken, ap broken_by is)
broken_closes phase (inr (inl is)) = (cause.Broken, ap broken_by is)
broken_closes phase (inr (inr is)) = (cause.ConnFault is.0, ap broken_by is.1)

pub broke_closes : (n : ℕ) (w : Gateway) → gateways.MayCome n w (e.Broke n)
    → (why : Cause) × ((gateways.entered (e.Broke n) (all_hear (entry (e.Broke n)) w)).phase ≡ machine.closing why)
broke_closes n w may = broken_closes w.phase (by may.1)
  where
    by : gateways.IsQuietAt machine.opening w ⊎ gateways.IsWritable w
        → (w.phase ≡ machine.opening) ⊎ ((w.phase ≡ machine.serving) ⊎ ((code : ℕ) × (w.phase ≡ machine.faulted code)))
    by (inl quiet) = inl quiet.1
    by (inr (inl quiet)) = inr (inl quiet.1)
    by (inr (inr faulted)) = inr (inr (faulted.1, faulted.2))

-- BYTES WENT: what may be put then is
module _ (k m : Relays) (n : ℕ) (kept new : Gate) (bytes : List ℕ) (told : Told) (is : get k.gates n ≡ Some kept)
    (m_is : m ≡ gate_touched_at n (with_gate n new k)) (enters : gate.Enters (entry (e.Went kept.number bytes)) kept new) where
  -- not behind a connection error
  pub went_on : (d : Relays) (now : Told) → says_last kept ≡ false → PumpsGate n m told d now → GateEnters n (e.Went n bytes) k told d now
  went_on d now last pumps some g x y points stands shows holds steps =
      let p = entry (e.Went n bytes) in
      let w = x.gates n in
      let shown = shown_gate g k n kept new p is x points stands shows in
      let told_so = subst (λ (i : ℕ). gate.Enters (entry (e.Went i bytes)) kept new) shown.0 enters in
      let next = gateways.entered (e.Went n bytes) (all_hear p w) in
      let serves : w.phase ≡ machine.serving = serves_so w shown.1 steps.1.0 in
      let calm = shows.calm.gates n in
      let quiet = calm_at machine.serving w serves calm in
      let turns = turned g k n kept new p is x points stands shows next in
      let others = turned_other g k n kept new p is x points stands shows next in
      let z = with_gateway n p next x in
      let z_steps : Steps g x (of_gate n p) z = (next, (steps.1.0, refl), steps.2, refl) in
      let none : NoneDue x = gate_undue x n (e.Went n bytes) (ap (λ (q : Phase). is_gate_faulted q || false) serves) steps.2 in
      let phase : next.phase ≡ machine.serving = ap machine.went_by serves in
      let known : ShowsSome all (not_of n) all g (gate_touched_at n (with_gate n new k)) (outward z) =
      told_then g k n kept new p is x points stands shows next told_so (steps.1.0, refl)
      (subst IsGateThere (sym phase) tt) (not_of n) all
      (λ is_calm. (calm.0, subst (λ (q : Phase). IsCalmBy q next) (sym phase) (quiet.0, quiet.1)))
      (λ l apart. others_rest (outward x) n turns others l apart (shows.calm.streams l))
      (waits_none x turns none) in
      let goes = pumps g z (points ++ of_gate n p ∷ []) (goes_on stands (of_gate n p) z_steps refl)
      (subst (λ (v : Relays). ShowsSome all (not_of n) all g v (outward z)) (sym m_is) known) none in
      subst (λ (v : Machine). Follows g v d told now)
      (sym (steps.3 ∙ ap (λ (v : Gateway). with_gateway n p v x) steps.1.1)) (goes_follow g z d told now goes)
    where
      serves_so : (w : Gateway) → shown.Shows kept w → gateways.MayCome n w (e.Went n bytes) → w.phase ≡ machine.serving
      serves_so w shows_w may = by may.1
        where
          by : gateways.IsWritable w → w.phase ≡ machine.serving
          by (inl quiet) = quiet.1
          by (inr faulted) = absurd (false≢true (sym last ∙ last_said kept w shows_w faulted.1 faulted.2 bytes may.2 may.3))

  -- behind one: it is to be closed then
  pub went_last : says_last kept ≡ true → GateEnters n (e.Went n bytes) k told m told
  went_last last some g x y points stands shows holds steps =
      let p = entry (e.Went n bytes) in
      let w = x.gates n in
      let shown = shown_gate g k n kept new p is x points stands shows in
      let told_so = subst (λ (i : ℕ). gate.Enters (entry (e.Went i bytes)) kept new) shown.0 enters in
      let next = gateways.entered (e.Went n bytes) (all_hear p w) in
      let calm = shows.calm.gates n in
      let closing : (why : Cause) × (next.phase ≡ machine.closing why) = closes_so w (gate_last kept w shown.1 last) steps.1.0 in
      let turns = turned g k n kept new p is x points stands shows next in
      let here = turned_here g k n kept new p is x points stands shows next in
      let others = turned_other g k n kept new p is x points stands shows next in
      let z = with_gateway n p next x in
      let z_steps : Steps g x (of_gate n p) z = (next, (steps.1.0, refl), steps.2, refl) in
      let known : ShowsOpen n g (gate_touched_at n (with_gate n new k)) (outward z) =
      told_then g k n kept new p is x points stands shows next told_so (steps.1.0, refl)
      (subst IsGateThere (sym closing.1) tt) (not_of n) (but n)
      (λ quiet_so. absurd (apart_of n n quiet_so refl))
      (λ l apart. others_rest (outward x) n turns others l apart (shows.calm.streams l))
      (λ l waits. waits_on (outward x) n turns others (ap (λ (v : Gateway). v.key) here)
      (λ room. absurd (false≢true (sym (ap (λ (q : Phase). carries q && has_room next) closing.1) ∙ sym (ap offers here) ∙ room)))
      (key_of (x.plain l).aim) (shows.wanting l waits)) in
      subst (λ (v : Machine). Follows g v m told told)
      (sym (steps.3 ∙ ap (λ (v : Gateway). with_gateway n p v x) steps.1.1)) (record {
        more = [];
        reached = z;
        leads = refl;
        shows = ended_whole g z (points ++ of_gate n p ∷ []) (goes_on stands (of_gate n p) z_steps refl) n m
            (subst AllTold (sym here) calm.0) closing.0 (ap (λ (v : Gateway). v.phase) here ∙ closing.1)
            (subst (λ (v : Relays). ShowsOpen n g v (outward z)) (sym m_is) known);
        noted = takes_none told;
      })
    where
      closes_so : (w : Gateway) → is_faulted w.phase ≡ true → gateways.MayCome n w (e.Went n bytes)
          → (why : Cause) × (machine.went_by w.phase ≡ machine.closing why)
      closes_so w faulted may = by may.1
        where
          by : gateways.IsWritable w → (why : Cause) × (machine.went_by w.phase ≡ machine.closing why)
          by (inl quiet) = absurd (false≢true (sym (ap is_faulted quiet.1) ∙ faulted))
          by (inr is_so) = (cause.ConnFault is_so.1, ap machine.went_by is_so.2)
