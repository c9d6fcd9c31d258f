-- Each entry stands on a link of its own part, and links are numbered in the order of births.
use Rattle.std.proofs.Common.{◌≡◌, ◌≢◌, inl, inr, ⊎_elim, ℕ, ◌+◌, ◌<◌, Bool, true, false, List, [], ◌∷◌, ◌++◌, Option, Some, None, IfSome, refl, ap, sym, ◌∙◌, subst, arith}
use Rattle.std.proofs.lemmas.List.{append-nil}
use Rattle.hb_captured.specs.Captured as plain
use Rattle.hb_captured.specs.Captured.{Captured, is_raw}
use Rattle.hb_captured.specs.Part as captured
use Rattle.hb_captured.specs.Runs as relays
use Rattle.hb_gateway.specs.Gateway.{Gateway}
use Rattle.hb_gateway.specs.Part as gateway
use Rattle.hb_gateway.specs.Runs as gateways
use Rattle.hb_inbound.specs.Inbound.{Inbound}
use Rattle.hb_inbound.specs.Part as part
use Rattle.hb_inbound.specs.Part.{Part}
use Rattle.hb_inbound.specs.Runs as runs
use Rattle.hb_inbound.specs.Runs.{MayCome, UpMayCome}
use Rattle.hb_inbound.specs.Tunnel.{Tunnel, Stage, opening, live, over}
use Rattle.hb_model.proofs.Grown.{one_more}
use Rattle.hb_model.specs.Point as point
use Rattle.hb_model.specs.Runs as model
use Rattle.hb_model.specs.declared.config.NodeConfig.{NodeConfig}
use Rattle.hb_world.proofs.TraceLemmas.{births-grow}
use Rattle.hb_world.specs.Trace.{is_birth, births}
use Rattle.hb_world.specs.declared.entry.Entry.{Entry}
use Rattle.hb_world.specs.declared.entry.Entry.TheVariants as e
use Rattle.hb_world.specs.declared.entry.Way.TheVariants as way
use Rattle.hb_proxy.specs.Laws.{RunsOwn, RunsNumber, RunsDialOnce}
use Rattle.hb_proxy.specs.Machine.{Machine, local, plain_local, born_after, born_by}
use Rattle.hb_proxy.specs.Owners.{Owner, control_plane, inbound_link, upstream_of, plain_link, relay_of, gateway_link, link_of, owner, StandsOn, StandsAs, PartStands, PlainStands, GateStands, ControlStands, OwnAt, NumberMayStand}
use Rattle.hb_proxy.specs.Points.{Point, of_control, of_link, of_plain, of_gate, of_stream, entry_in, entries, control_in}
use Rattle.hb_proxy.specs.Runs.{BirthMayCome, Steps, StandsFor, begins, goes_on}
use Rattle.hb_proxy.proofs.ControlBorn.{control_born}
use Rattle.hb_proxy.proofs.GateChanges.{birth_at, gate_born}
use Rattle.hb_proxy.proofs.Owned.{Owned, whose_in, all_owned}
use Rattle.hb_proxy.proofs.Places.{at_points, at_trace, short, birth_of}
use Rattle.hb_proxy.proofs.PlainStays.{RelayOn, RelayBy, OwnsRelay, stands_born}
use Rattle.hb_proxy.proofs.Stays.{IsWeak, OwnsBy, Owns, may_born}

-- what holds of the link that an entry stands on, where it stands on one
pub on_one : (P : ℕ → Type 0) (z : Entry) → ((l : ℕ) → link_of z ≡ Some l → P l) → IfSome (link_of z) P
on_one P z each = by (link_of z) refl
  where
    by : (o : Option ℕ) → link_of z ≡ o → IfSome o P
    by None is = tt
    by (Some l) is = each l is

-- an entry that stands on a link is no birth
no_birth : (z : Entry) (l : ℕ) → link_of z ≡ Some l → is_birth z ≡ false
no_birth (e.Accepted k d) l is = absurd cc
no_birth (e.Dialled k to why) l is = absurd cc
no_birth _ l is = refl

-- an entry of a link stands on it
on_link : (l : ℕ) (x : Inbound) (z : Entry) → MayCome l x z → (k : ℕ) → link_of z ≡ Some k → k ≡ l
on_link l x (e.Came j bytes) may k is = (let same : j ≡ k = cc in sym same ∙ may.0)
on_link l x (e.Ended j) may k is = (let same : j ≡ k = cc in sym same ∙ may.0)
on_link l x (e.Went j bytes) may k is = (let same : j ≡ k = cc in sym same ∙ may.0)
on_link l x (e.Broke j) may k is = (let same : j ≡ k = cc in sym same ∙ may.0)
on_link l x (e.Closed j why) may k is = (let same : j ≡ k = cc in sym same ∙ may.0)
on_link l x (e.Balked (way.Read j)) may k is = (let same : j ≡ k = cc in sym same ∙ may.0)
on_link l x (e.Balked (way.Write j)) may k is = (let same : j ≡ k = cc in sym same ∙ may.0)
on_link l x (e.Balked (way.Listen d to listening)) may k is = absurd may
on_link l x (e.Balked (way.Accept d)) may k is = absurd may
on_link l x (e.Balked (way.Look n)) may k is = absurd may
on_link l x (e.Balked (way.Finish j)) may k is = absurd may
on_link l x (e.Accepted j d) may k is = absurd cc
on_link l x (e.Dialled j to why) may k is = absurd may
on_link l x (e.DialFailed to why) may k is = absurd may
on_link l x (e.Opened j) may k is = absurd may
on_link l x (e.Shut j) may k is = absurd may
on_link l x e.Tick may k is = absurd may
on_link l x (e.Wait ready how) may k is = absurd may

-- an entry of an upstream stands on that of its stream
module _ (whose : ℕ → Owner) (l s : ℕ) (x : Inbound) (t : Tunnel) (owns : Owns whose l s t) where
  at_up : (u k : ℕ) → t.up ≡ u → u ≡ k → whose t.up ≡ upstream_of l s → whose k ≡ upstream_of l s
  at_up u k up same mine = subst (λ (n : ℕ). whose n ≡ upstream_of l s) (up ∙ same) mine

  staged : (stage : Stage) → t.stage ≡ stage → OwnsBy stage whose l s t.up
  staged stage is = subst (λ (st : Stage). OwnsBy st whose l s t.up) is owns

  on_up : (z : Entry) → UpMayCome l s x t z → (k : ℕ) → link_of z ≡ Some k → whose k ≡ upstream_of l s
  on_up (e.Opened u) may k is = at_up u k may.2 (cc) (staged opening may.1)
  on_up (e.Came u bytes) may k is = at_up u k may.0.2 (cc) (staged live may.0.1)
  on_up (e.Ended u) may k is = at_up u k may.0.2 (cc) (staged live may.0.1)
  on_up (e.Went u bytes) may k is = at_up u k may.0.2 (cc) (staged live may.0.1)
  on_up (e.Broke u) may k is =
      ⊎_elim (λ h. at_up u k h.2 (cc) (staged opening h.1)) (λ h. at_up u k h.2 (cc) (staged live h.1)) may
  on_up (e.Shut u) may k is = at_up u k may.2 (cc) (staged live may.1)
  on_up (e.Closed u why) may k is = at_up u k may.2 (cc) (staged (over why) may.1)
  on_up (e.Balked (way.Finish u)) may k is = at_up u k may.2 (cc) (staged opening may.1)
  on_up (e.Balked (way.Read u)) may k is = at_up u k may.0.2 (cc) (staged live may.0.1)
  on_up (e.Balked (way.Write u)) may k is = at_up u k may.0.2 (cc) (staged live may.0.1)
  on_up (e.Balked (way.Listen d to listening)) may k is = absurd may
  on_up (e.Balked (way.Accept d)) may k is = absurd may
  on_up (e.Balked (way.Look n)) may k is = absurd may
  on_up (e.Accepted j d) may k is = absurd may
  on_up (e.Dialled u to why) may k is = absurd cc
  on_up (e.DialFailed to why) may k is = absurd cc
  on_up e.Tick may k is = absurd may
  on_up (e.Wait ready how) may k is = absurd may

-- an entry of a plain link stands on it
on_plain : (l : ℕ) (x : Captured) (z : Entry) → relays.MayCome l x z → (k : ℕ) → link_of z ≡ Some k → k ≡ l
on_plain l x (e.Came j bytes) may k is = (let same : j ≡ k = cc in sym same ∙ may.0)
on_plain l x (e.Ended j) may k is = (let same : j ≡ k = cc in sym same ∙ may.0)
on_plain l x (e.Went j bytes) may k is = (let same : j ≡ k = cc in sym same ∙ may.0)
on_plain l x (e.Broke j) may k is = (let same : j ≡ k = cc in sym same ∙ may.0)
on_plain l x (e.Shut j) may k is = (let same : j ≡ k = cc in sym same ∙ may.0)
on_plain l x (e.Closed j why) may k is = (let same : j ≡ k = cc in sym same ∙ may.0)
on_plain l x (e.Balked (way.Read j)) may k is = (let same : j ≡ k = cc in sym same ∙ may.0)
on_plain l x (e.Balked (way.Write j)) may k is = (let same : j ≡ k = cc in sym same ∙ may.0)
on_plain l x (e.Balked (way.Listen d to listening)) may k is = absurd may
on_plain l x (e.Balked (way.Accept d)) may k is = absurd may
on_plain l x (e.Balked (way.Look n)) may k is = absurd may
on_plain l x (e.Balked (way.Finish j)) may k is = absurd may
on_plain l x (e.Accepted j d) may k is = absurd cc
on_plain l x (e.Dialled j to why) may k is = absurd may
on_plain l x (e.DialFailed to why) may k is = absurd may
on_plain l x (e.Opened j) may k is = absurd may
on_plain l x e.Tick may k is = absurd may
on_plain l x (e.Wait ready how) may k is = absurd may

-- and one of its upstream on that
module _ (whose : ℕ → Owner) (l : ℕ) (x : Captured) (owns : OwnsRelay whose l x) where
  at_relay : (u k : ℕ) → x.up ≡ u → u ≡ k → whose x.up ≡ relay_of l → whose k ≡ relay_of l
  at_relay u k up same mine = subst (λ (n : ℕ). whose n ≡ relay_of l) (up ∙ same) mine

  at_stage : (stage : plain.Stage) → x.stage ≡ stage → RelayBy stage (is_raw x) whose l x.up
  at_stage stage is = subst (λ (st : plain.Stage). RelayBy st (is_raw x) whose l x.up) is owns

  -- one that has an upstream has no stream
  on_raw : (raw : Bool) (u k : ℕ) → x.up ≡ u → 0 < u → u ≡ k → RelayOn raw whose l x.up → whose k ≡ relay_of l
  on_raw true u k up some same mine = at_relay u k up same mine
  on_raw false u k up some same none = absurd (omega (arith, up, some, none.1))

  -- one that ended has the upstream that it had, or none
  behind : (u k : ℕ) → x.up ≡ u → 0 < u → u ≡ k → IsWeak whose (relay_of l) x.up → whose k ≡ relay_of l
  behind u k up some same (inl none) = absurd (omega (arith, up, some, none))
  behind u k up some same (inr mine) = at_relay u k up same mine

  on_relay : (z : Entry) → relays.UpMayCome l x z → (k : ℕ) → link_of z ≡ Some k → whose k ≡ relay_of l
  on_relay (e.Opened u) may k is = on_raw (is_raw x) u k may.1 may.2 (cc) (at_stage plain.opening may.0.1)
  on_relay (e.Came u bytes) may k is = on_raw (is_raw x) u k may.0.1 may.0.2 (cc) (at_stage plain.live may.0.0.1)
  on_relay (e.Ended u) may k is = on_raw (is_raw x) u k may.0.1 may.0.2 (cc) (at_stage plain.live may.0.0.1)
  on_relay (e.Went u bytes) may k is = on_raw (is_raw x) u k may.0.1 may.0.2 (cc) (at_stage plain.live may.0.0.1)
  on_relay (e.Broke u) may k is =
      ⊎_elim (λ h. on_raw (is_raw x) u k h.1 h.2 (cc) (at_stage plain.opening h.0.1))
      (λ h. on_raw (is_raw x) u k h.1 h.2 (cc) (at_stage plain.live h.0.1)) may
  on_relay (e.Shut u) may k is = on_raw (is_raw x) u k may.2 may.3 (cc) (at_stage plain.live may.1)
  on_relay (e.Closed u why) may k is = behind u k may.2 may.3 (cc) (at_stage (plain.over why) may.1)
  on_relay (e.Balked (way.Finish u)) may k is = on_raw (is_raw x) u k may.1 may.2 (cc) (at_stage plain.opening may.0.1)
  on_relay (e.Balked (way.Read u)) may k is = on_raw (is_raw x) u k may.0.1 may.0.2 (cc) (at_stage plain.live may.0.0.1)
  on_relay (e.Balked (way.Write u)) may k is = on_raw (is_raw x) u k may.0.1 may.0.2 (cc) (at_stage plain.live may.0.0.1)
  on_relay (e.Balked (way.Listen d to listening)) may k is = absurd may
  on_relay (e.Balked (way.Accept d)) may k is = absurd may
  on_relay (e.Balked (way.Look n)) may k is = absurd may
  on_relay (e.Accepted j d) may k is = absurd may
  on_relay (e.Dialled u to why) may k is = absurd cc
  on_relay (e.DialFailed to why) may k is = absurd cc
  on_relay e.Tick may k is = absurd may
  on_relay (e.Wait ready how) may k is = absurd may

-- an entry of a link to a gateway stands on it
on_gate : (n : ℕ) (x : Gateway) (z : Entry) → gateways.MayCome n x z → (k : ℕ) → link_of z ≡ Some k → k ≡ n
on_gate n x (e.Opened j) may k is = (let same : j ≡ k = cc in sym same ∙ may.0)
on_gate n x (e.Came j bytes) may k is = (let same : j ≡ k = cc in sym same ∙ may.0)
on_gate n x (e.Ended j) may k is = (let same : j ≡ k = cc in sym same ∙ may.0)
on_gate n x (e.Went j bytes) may k is = (let same : j ≡ k = cc in sym same ∙ may.0)
on_gate n x (e.Broke j) may k is = (let same : j ≡ k = cc in sym same ∙ may.0)
on_gate n x (e.Closed j why) may k is = (let same : j ≡ k = cc in sym same ∙ may.0)
on_gate n x (e.Balked (way.Finish j)) may k is = (let same : j ≡ k = cc in sym same ∙ may.0)
on_gate n x (e.Balked (way.Read j)) may k is = (let same : j ≡ k = cc in sym same ∙ may.0)
on_gate n x (e.Balked (way.Write j)) may k is = (let same : j ≡ k = cc in sym same ∙ may.0)
on_gate n x (e.Balked (way.Listen d to listening)) may k is = absurd may
on_gate n x (e.Balked (way.Accept d)) may k is = absurd may
on_gate n x (e.Balked (way.Look l)) may k is = absurd may
on_gate n x (e.Accepted j d) may k is = absurd may
on_gate n x (e.Dialled j to why) may k is = absurd may
on_gate n x (e.DialFailed to why) may k is = absurd may
on_gate n x (e.Shut j) may k is = absurd may
on_gate n x e.Tick may k is = absurd may
on_gate n x (e.Wait ready how) may k is = absurd may

-- where an entry stands
module _ (g : NodeConfig) (x : Machine) (before : List Point) (owned : Owned x (whose_in before)) where
  control_stands : (q : point.Point) (m : _) → model.Steps g x.control q m → ControlStands (entries before) q
  control_stands (point.entry z) m steps =
      on_one (λ l. owner l (entries before) ≡ control_plane) z (λ l is. owned.control l (control_born g x.control z steps.0 l is))
  control_stands _ m steps = tt

  part_stands : (l : ℕ) (p : Part) (next : _) → runs.Steps l (local x l) p next → PartStands (entries before) l p
  part_stands l (part.entry z) next steps =
      on_one (λ k. (k ≡ l) × (owner k (entries before) ≡ inbound_link)) z
      (λ k is.
      let same = on_link l (x.inbound l) z steps.0 k is in
      (same, ap (whose_in before) same ∙ owned.link l (may_born l (x.inbound l) z steps.0 (no_birth z k is))))
  part_stands l (part.up s z) next steps =
      on_one (λ u. owner u (entries before) ≡ upstream_of l s) z
      (on_up (whose_in before) l s (x.inbound l) ((x.inbound l).tunnels s) (owned.up l s) z steps.0)
  part_stands l _ next steps = tt

  plain_stands : (l : ℕ) (p : captured.Part) → relays.MayGo l (plain_local x l) p → PlainStands (entries before) l p
  plain_stands l (captured.entry z) may =
      on_one (λ k. (k ≡ l) × (owner k (entries before) ≡ plain_link)) z
      (λ k is.
      let same = on_plain l (x.plain l) z may k is in
      (same, ap (whose_in before) same ∙ owned.plain l (stands_born l (x.plain l) z may (no_birth z k is))))
  plain_stands l (captured.up z) may =
      on_one (λ u. owner u (entries before) ≡ relay_of l) z (on_relay (whose_in before) l (x.plain l) (owned.relay l) z may)
  plain_stands l _ may = tt

  gate_stands : (n : ℕ) (p : gateway.Part) (next : Gateway) → gateways.Steps n (x.gates n) p next → GateStands (entries before) n p
  gate_stands n (gateway.entry z) next steps =
      on_one (λ k. (k ≡ n) × (owner k (entries before) ≡ gateway_link)) z
      (λ k is.
      let same = on_gate n (x.gates n) z steps.0 k is in
      (same, ap (whose_in before) same ∙ owned.gate n (gate_born n (x.gates n) z steps.0)))
  gate_stands n (gateway.dialled z key) next steps =
      subst (λ (v : Entry). StandsAs (entries before) n gateway_link v) (sym (birth_at n (x.gates n) z key steps.0).0.4) tt
  gate_stands n _ next steps = tt

  pub own_at : (p : Point) (y : Machine) → Steps g x p y → OwnAt before p
  own_at (of_control q) y steps = control_stands q steps.0 steps.1
  own_at (of_link l p) y steps = part_stands l p _ steps.1
  own_at (of_plain l p) y steps = plain_stands l p steps.0
  own_at (of_gate n p) y steps = gate_stands n p steps.0 steps.1
  own_at (of_stream l n s w) y steps = tt

-- an entry of another part stands on no link to the control plane
module _ (before : List Entry) (o : Owner) (other : control_plane ≡ o → ⊥) (z : Entry) (k : ℕ) (on : link_of z ≡ Some k) where
  others_on : StandsOn before o z → owner k before ≢ control_plane
  others_on stands mine = other (sym mine ∙ subst (λ (v : Option ℕ). IfSome v (λ j. owner j before ≡ o)) on stands)

  others_as : (l : ℕ) → StandsAs before l o z → owner k before ≢ control_plane
  others_as l stands mine =
      other (sym mine ∙ (subst (λ (v : Option ℕ). IfSome v (λ j. (j ≡ l) × (owner j before ≡ o))) on stands).1)

pub elsewhere : (before : List Point) (p : Point) → OwnAt before p → control_in p ≡ [] → (z : Entry) → entry_in p ≡ z ∷ [] → (k : ℕ)
    → link_of z ≡ Some k → owner k (entries before) ≢ control_plane
elsewhere before (of_control q) own none z is k on = absurd cc
elsewhere before (of_link l (part.entry en)) own none z is k on =
    let same : en ≡ z = cc in others_as (entries before) inbound_link (λ is. cc) en k (ap link_of same ∙ on) l own
elsewhere before (of_link l (part.up s en)) own none z is k on =
    let same : en ≡ z = cc in others_on (entries before) (upstream_of l s) (λ is. cc) en k (ap link_of same ∙ on) own
elsewhere before (of_plain l (captured.entry en)) own none z is k on =
    let same : en ≡ z = cc in others_as (entries before) plain_link (λ is. cc) en k (ap link_of same ∙ on) l own
elsewhere before (of_plain l (captured.up en)) own none z is k on =
    let same : en ≡ z = cc in others_on (entries before) (relay_of l) (λ is. cc) en k (ap link_of same ∙ on) own
elsewhere before (of_gate n (gateway.entry en)) own none z is k on =
    let same : en ≡ z = cc in others_as (entries before) gateway_link (λ is. cc) en k (ap link_of same ∙ on) n own
elsewhere before (of_gate n (gateway.dialled en key)) own none z is k on =
    let same : en ≡ z = cc in others_as (entries before) gateway_link (λ is. cc) en k (ap link_of same ∙ on) n own
elsewhere before (of_link l _) own none z is k on = absurd cc
elsewhere before (of_plain l _) own none z is k on = absurd cc
elsewhere before (of_gate n _) own none z is k on = absurd cc
elsewhere before (of_stream l n s w) own none z is k on = absurd cc

pub runs_own : RunsOwn
runs_own g x points stands = at_points g OwnAt
    (λ x y before p stands steps. own_at g x before (all_owned g x before stands) p y steps) x points stands

-- NUMBERS

number_of : (x : Machine) (before : List Entry) (z : Entry) → births before ≡ x.born → BirthMayCome x z → NumberMayStand before z
number_of x before (e.Accepted l d) same may = may.0 ∙ ap (λ n. n + 1) (sym same)
number_of x before (e.Dialled l to why) same may = may ∙ ap (λ n. n + 1) (sym same)
number_of x before _ same may = tt

-- an entry counts as a birth, and its number is the last
counts : (x : Machine) (trace : List Entry) (z : Entry) → births trace ≡ x.born → BirthMayCome x z
    → births (trace ++ z ∷ []) ≡ born_by x.born z
counts x trace (e.Accepted l d) same may = births-grow trace (e.Accepted l d) ∙ ap (λ n. n + 1) same ∙ sym may.0
counts x trace (e.Dialled l to why) same may = births-grow trace (e.Dialled l to why) ∙ ap (λ n. n + 1) same ∙ sym may
counts x trace z same may = births-grow trace z ∙ omega (arith, same)

born_next : (g : NodeConfig) (x y : Machine) (p : Point) → Steps g x p y → y.born ≡ born_after x.born (entry_in p)
born_next g x y (of_control q) steps = ap (λ (z : Machine). z.born) steps.3
born_next g x y (of_link l p) steps = ap (λ (z : Machine). z.born) steps.3
born_next g x y (of_plain l p) steps = ap (λ (z : Machine). z.born) steps.2
born_next g x y (of_gate n p) steps = ap (λ (z : Machine). z.born) steps.3
born_next g x y (of_stream l n s w) steps = ap (λ (z : Machine). z.born) steps.4

-- the links born are as many as the last one's number
pub born_is : (g : NodeConfig) (x : Machine) (points : List Point) → StandsFor g x points → births (entries points) ≡ x.born
born_is g x points (begins is empty) =
    subst (λ (ps : List Point). births (entries ps) ≡ x.born) (sym empty) (sym (ap (λ (z : Machine). z.born) is))
born_is g y more (goes_on {x = x} {points = points} stands p steps are) =
    ap (λ (ps : List Point). births (entries ps)) are ∙ ap births (one_more entry_in points p)
    ∙ ⊎_elim (λ none. ap (λ (es : List Entry). births (entries points ++ es)) none ∙ ap births (append-nil (entries points))
    ∙ born_is g x points stands ∙ sym (born_next g x y p steps ∙ ap (born_after x.born) none))
    (λ h. ap (λ (es : List Entry). births (entries points ++ es)) h.1
    ∙ counts x (entries points) h.0 (born_is g x points stands) (birth_of g x y p steps h.0 h.1)
    ∙ sym (born_next g x y p steps ∙ ap (born_after x.born) h.1))
    (short p)

pub runs_number : RunsNumber
runs_number g x points stands =
    at_trace NumberMayStand points
    (at_points g (λ before p. (z : Entry) → entry_in p ≡ z ∷ [] → NumberMayStand (entries before) z)
    (λ x y before p stands steps z is. number_of x (entries before) z (born_is g x before stands) (birth_of g x y p steps z is))
    x points stands)

pub runs_dial_once : RunsDialOnce
runs_dial_once g x points stands =
    let owned = all_owned g x points stands in
    record { streams = owned.one; relays = owned.one_relay }
