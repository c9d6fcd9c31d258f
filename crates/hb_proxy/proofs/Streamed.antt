-- When a plain link has asked for a stream: then it has no upstream, and before that nothing comes or goes on one.
use Rattle.std.proofs.Common.{◌≡◌, ◌⊎◌, inl, inr, ⊎_elim, ℕ, ◌==◌, ◌||◌, Bool, true, false, cond, List, [], ◌∷◌, ◌++◌, fold, refl, ap, ap₂, sym, ◌∙◌, subst}
use Rattle.std.proofs.lemmas.Bool.{cond_both, cases_eq, eqb-true, eq-eqb, ne_eqb, false≢true}
use Rattle.std.proofs.lemmas.Grind.{fold-append}
use Rattle.std.specs.List.{flat_map}
use Rattle.hb_base.specs.declared.door.Door.{Door}
use Rattle.hb_base.specs.declared.door.Door.TheVariants as door
use Rattle.hb_base.specs.declared.door.Why.{Why}
use Rattle.hb_base.specs.declared.door.Why.TheVariants as whys
use Rattle.hb_base.specs.declared.target.Target.{Target}
use Rattle.hb_captured.proofs.Streamed.{Streamed, never, has, was_left, said, road_of, MayStream, unasked, on_gate, all_streamed}
use Rattle.hb_captured.specs.Captured.{Stage, unborn, due, is_raw}
use Rattle.hb_captured.specs.Part.{Part, entry, up, asked, hears, put}
use Rattle.hb_captured.specs.Runs as captured
use Rattle.hb_captured.specs.Runs.{Local, MayCome, UpMayCome, MayGo, HasEnded}
use Rattle.hb_captured.specs.Sides.{was, is_asked}
use Rattle.hb_gateway.specs.Part as gateway
use Rattle.hb_gateway.specs.Runs as gateways
use Rattle.hb_held.specs.Held.{Resources}
use Rattle.hb_inbound.specs.Part as inbound_part
use Rattle.hb_inbound.specs.Runs as inbound
use Rattle.hb_model.proofs.Grown.{one_more}
use Rattle.hb_model.specs.Point as point
use Rattle.hb_model.specs.Runs as model
use Rattle.hb_model.specs.declared.config.NodeConfig.{NodeConfig}
use Rattle.hb_world.specs.declared.entry.Entry.{Entry}
use Rattle.hb_world.specs.declared.entry.Entry.TheVariants as e
use Rattle.hb_proxy.specs.Held.{at_start}
use Rattle.hb_proxy.specs.Machine.{Machine, plain_local}
use Rattle.hb_proxy.specs.Owners.{Owner, control_plane, upstream_of, relay_of, gateway_link, at_door, dialled_for, owner_by}
use Rattle.hb_proxy.specs.Points.{Point, of_control, of_link, of_plain, of_gate, of_stream, entry_in, plain_in, plain_of}
use Rattle.hb_proxy.specs.Runs.{PlainGuard, Steps, StandsFor, begins, goes_on}
use Rattle.hb_proxy.specs.Shared.{Shared, asks, tells, puts, finishes, credits, drops, completes, captured_part}
use Rattle.hb_proxy.proofs.GateChanges.{birth_at}
use Rattle.hb_proxy.proofs.Owned.{whose_in, whose_one, all_owned}
use Rattle.hb_proxy.proofs.Places.{short}
use Rattle.hb_proxy.proofs.Plain.{plain_runs}
use Rattle.hb_proxy.proofs.PlainDoors.{relayed}
use Rattle.hb_proxy.proofs.PlainStays.{RelayBy, is_plain_born}
use Rattle.hb_proxy.proofs.Stays.{IsNone}
use Rattle.hb_proxy.proofs.StreamParts.{stream_came_in, stream_went_in}

-- OF ONE LINK

-- one that has a stream asked for it
has_asked : (a : Local) (parts : List Part) → Streamed (said parts) (road_of a.link) → is_raw a.link ≡ false → was is_asked parts ≡ true
has_asked a parts (never told begun none went) on = absurd (on_gate a.link.gate on none)
has_asked a parts (has told begun some no_up may) on = told
has_asked a parts (was_left told begun none is) on = told

-- one that is due asked for none
pub due_unasked : (a : Local) (parts : List Part) → Streamed (said parts) (road_of a.link) → a.link.stage ≡ due → was is_asked parts ≡ false
due_unasked a parts is at = (unasked (said parts) (road_of a.link) (λ may. subst MayStream at may) is).0

-- one that asked for one is born
born_asked : (a : Local) (parts : List Part) → Streamed (said parts) (road_of a.link) → was is_asked parts ≡ true
    → is_plain_born a.link.stage ≡ true
born_asked a parts (never told begun none went) is = absurd (false≢true (sym told ∙ is))
born_asked a parts (has told begun some no_up may) is = by a.link.stage may
  where
    by : (stage : Stage) → MayStream stage → is_plain_born stage ≡ true
    by unborn may = absurd may
    by _ may = refl
born_asked a parts (was_left told begun none ended) is = by a.link.stage ended
  where
    by : (stage : Stage) → HasEnded stage → is_plain_born stage ≡ true
    by unborn may = absurd may
    by _ may = refl

-- on one without a stream nothing comes or goes on one
part_none : (l : ℕ) (a : Local) (p : Part) → MayGo l a p → (is_raw a.link ≡ false → ⊥) → (stream_came_in p ≡ []) × (stream_went_in p ≡ [])
part_none l a (hears heard begun) may off = absurd (off may.0)
part_none l a (put bytes) may off = absurd (off may.0.0)
part_none l a _ may off = (refl, refl)

before : (b c : Bool) → (b || c) ≡ false → c ≡ false
before true c is = absurd (false≢true (sym is))
before false c is = is

-- so nothing does on one that asked for none
none_said : (l : ℕ) (start : Resources) (a : Local) (parts : List Part) → captured.StandsFor l start a parts
    → was is_asked parts ≡ false → (flat_map stream_came_in parts ≡ []) × (flat_map stream_went_in parts ≡ [])
none_said l start a parts (captured.begins is empty) none =
    (ap (flat_map stream_came_in) empty, ap (flat_map stream_went_in) empty)
none_said l start b more (captured.goes_on {a = a} {parts = parts} stands p steps are) none =
    let unasked_yet : was is_asked parts ≡ false =
    before (is_asked p) (was is_asked parts)
    (sym (ap (was is_asked) are ∙ fold-append (λ told q. is_asked q || told) false parts (p ∷ [])) ∙ none) in
    let so_far = none_said l start a parts stands unasked_yet in
    let now = part_none l a p steps.0
    (λ on. false≢true (sym unasked_yet ∙ has_asked a parts (all_streamed l start a parts stands) on)) in (
      ap (flat_map stream_came_in) are ∙ one_more stream_came_in parts p ∙ ap₂ (λ (xs ys : List ℕ). xs ++ ys) so_far.0 now.0,
      ap (flat_map stream_went_in) are ∙ one_more stream_went_in parts p ∙ ap₂ (λ (xs ys : List ℕ). xs ++ ys) so_far.1 now.1,
    )

-- IN A RUN OF THE WHOLE

-- a link of a plain one is born by a dial for it, while that is due
relay_birth : (g : NodeConfig) (x y : Machine) (p : Point) → Steps g x p y → (u : ℕ) (to : Target) (why : Why)
    → entry_in p ≡ e.Dialled u to why ∷ [] → (l : ℕ) → dialled_for why ≡ relay_of l → (x.plain l).stage ≡ due
relay_birth g x y (of_control (point.entry z)) steps u to why is l mine =
    let same : z ≡ e.Dialled u to why = cc in
    let may = subst (λ (v : Entry). model.MayCome g x.control v) same steps.1.0 in
    absurd (let no : control_plane ≡ relay_of l = sym (ap dialled_for may.3) ∙ mine in cc)
relay_birth g x y (of_link k (inbound_part.entry z)) steps u to why is l mine =
    let same : z ≡ e.Dialled u to why = cc in absurd (subst (λ (v : Entry). inbound.MayCome k (x.inbound k) v) same steps.1.0)
relay_birth g x y (of_link k (inbound_part.up s z)) steps u to why is l mine =
    let same : z ≡ e.Dialled u to why = cc in
    let may = subst (λ (v : Entry). inbound.UpMayCome k s (x.inbound k) ((x.inbound k).tunnels s) v) same steps.1.0 in
    absurd (let no : upstream_of k s ≡ relay_of l = sym (ap dialled_for may.4) ∙ mine in cc)
relay_birth g x y (of_plain k (entry z)) steps u to why is l mine =
    let same : z ≡ e.Dialled u to why = cc in absurd (subst (λ (v : Entry). MayCome k (x.plain k) v) same steps.0)
relay_birth g x y (of_plain k (up z)) steps u to why is l mine =
    let same : z ≡ e.Dialled u to why = cc in
    let may = subst (λ (v : Entry). UpMayCome k (x.plain k) v) same steps.0 in
    let both : relay_of k ≡ relay_of l = sym (relayed k (x.plain k) why may.1 may.0.3) ∙ mine in
    let at_l : k ≡ l = cc in
    subst (λ (j : ℕ). (x.plain j).stage ≡ due) at_l may.0.1
relay_birth g x y (of_gate n (gateway.entry z)) steps u to why is l mine =
    let same : z ≡ e.Dialled u to why = cc in absurd (subst (λ (v : Entry). gateways.MayCome n (x.gates n) v) same steps.1.0)
relay_birth g x y (of_gate n (gateway.dialled z key)) steps u to why is l mine =
    let same : z ≡ e.Dialled u to why = cc in
    let dial = (birth_at n (x.gates n) z key steps.1.0).0 in
    let dials : e.Dialled u to why ≡ e.Dialled dial.0 dial.3 (whys.Gateway dial.2) = sym same ∙ dial.4 in
    let is_why : why ≡ whys.Gateway dial.2 = cc in
    absurd (let no : gateway_link ≡ relay_of l = sym (ap dialled_for is_why) ∙ mine in cc)
relay_birth g x y (of_control _) steps u to why is l mine = absurd cc
relay_birth g x y (of_link k _) steps u to why is l mine = absurd cc
relay_birth g x y (of_plain k _) steps u to why is l mine = absurd cc
relay_birth g x y (of_gate n _) steps u to why is l mine = absurd cc
relay_birth g x y (of_stream k n s w) steps u to why is l mine = absurd cc

-- an upstream of a plain link was one before an entry, or is dialled by it
relay_new : (u l : ℕ) (o : Owner) (z : Entry) → owner_by u o z ≡ relay_of l
    → (o ≡ relay_of l) ⊎ ((to : Target) × (why : Why) × (z ≡ e.Dialled u to why) × (dialled_for why ≡ relay_of l))
relay_new u l o (e.Accepted k d) is_relay =
    cond_both (k == u) (at_door d) o
    (λ v. v ≡ relay_of l → (o ≡ relay_of l)
    ⊎ ((to : Target) × (why : Why) × (e.Accepted k d ≡ e.Dialled u to why) × (dialled_for why ≡ relay_of l)))
    (λ same is. absurd (no_door d is)) (λ apart is. inl is) is_relay
  where
    no_door : (d : Door) → at_door d ≡ relay_of l → ⊥
    no_door door.Inbound is = cc
    no_door door.Plain is = cc
    no_door door.Outbound is = cc
relay_new u l o (e.Dialled k to why) is_relay =
    cond_both (k == u) (dialled_for why) o
    (λ v. v ≡ relay_of l → (o ≡ relay_of l)
    ⊎ ((other : Target) × (reason : Why) × (e.Dialled k to why ≡ e.Dialled u other reason) × (dialled_for reason ≡ relay_of l)))
    (λ same is. inr (to, why, ap (λ (j : ℕ). e.Dialled j to why) (eqb-true k u same), is)) (λ apart is. inl is) is_relay
relay_new u l o _ is = inl is

-- a stream is asked for by no part of the link alone
unasked_part : (g : NodeConfig) (x : Machine) (l : ℕ) (p : Part) → PlainGuard g x l p → is_asked p ≡ false
unasked_part g x l (asked gate stream) guard = absurd guard
unasked_part g x l _ guard = refl

-- it was asked for before a point, or is by that, which is no entry, while the link is due
asked_new : (g : NodeConfig) (x y : Machine) (points : List Point) (p : Point) → Steps g x p y → (l : ℕ)
    → was is_asked (plain_of l (points ++ p ∷ [])) ≡ true
    → (was is_asked (plain_of l points) ≡ true) ⊎ ((entry_in p ≡ []) × ((x.plain l).stage ≡ due))
asked_new g x y points p steps l is =
    by p steps
    (sym (ap (was is_asked) (one_more (plain_in l) points p)
    ∙ fold-append (λ told q. is_asked q || told) false (plain_of l points) (plain_in l p)) ∙ is)
  where
    told : Bool
    told = was is_asked (plain_of l points)

    stream : (k n s : ℕ) (w : Shared) → MayGo k (plain_local x k) (captured_part n s w) → k ≡ l
        → (is_asked (captured_part n s w) || told) ≡ true
        → (told ≡ true) ⊎ ((entry_in (of_stream k n s w) ≡ []) × ((x.plain l).stage ≡ due))
    stream k n s (asks authority) may same now = inr (refl, subst (λ (j : ℕ). (x.plain j).stage ≡ due) same may.0)
    stream k n s (tells heard begun) may same now = inl now
    stream k n s (puts waiting count) may same now = inl now
    stream k n s finishes may same now = inl now
    stream k n s (credits count) may same now = inl now
    stream k n s (drops begun) may same now = inl now
    stream k n s (completes begun note) may same now = inl now

    by : (p : Point) → Steps g x p y → fold (λ so_far r. is_asked r || so_far) told (plain_in l p) ≡ true
        → (told ≡ true) ⊎ ((entry_in p ≡ []) × ((x.plain l).stage ≡ due))
    by (of_control (point.applied k r)) steps now = inl now
    by (of_control (point.stopped why)) steps now = inl now
    by (of_control q) steps now = inl now
    by (of_link k q) steps now = inl now
    by (of_gate n q) steps now = inl now
    by (of_plain k q) steps now =
        inl (⊎_elim (λ same. sym (ap (λ (b : Bool). b || told) (unasked_part g x k q steps.1))
        ∙ sym (ap (λ (b : Bool). fold (λ so_far r. is_asked r || so_far) told (cond b (q ∷ []) [])) (eq-eqb k l same)) ∙ now)
        (λ apart. sym (ap (λ (b : Bool). fold (λ so_far r. is_asked r || so_far) told (cond b (q ∷ []) [])) (ne_eqb k l apart)) ∙ now)
        (cases_eq k l))
    by (of_stream k n s w) steps now =
        ⊎_elim (λ same. stream k n s w steps.0 same
        (sym (ap (λ (b : Bool). fold (λ so_far r. is_asked r || so_far) told (cond b (captured_part n s w ∷ []) [])) (eq-eqb k l same))
        ∙ now))
        (λ apart.
        inl (sym (ap (λ (b : Bool). fold (λ so_far r. is_asked r || so_far) told (cond b (captured_part n s w ∷ []) [])) (ne_eqb k l apart))
        ∙ now))
        (cases_eq k l)

module _ (g : NodeConfig) (x y : Machine) (points : List Point) (stands : StandsFor g x points) (p : Point) (steps : Steps g x p y)
    (l : ℕ) where
  whose_more : (u : ℕ) → (es : List Entry) → entry_in p ≡ es → whose_in (points ++ p ∷ []) u ≡ fold (owner_by u) (whose_in points u) es
  whose_more u es is = whose_one points p u ∙ ap (λ (zs : List Entry). fold (owner_by u) (whose_in points u) zs) is

  asked_now : (entry_in p ≡ []) × ((x.plain l).stage ≡ due) → IsNone (whose_in (points ++ p ∷ [])) (relay_of l)
  asked_now (silent, is_due) u mine =
      (subst (λ (s : Stage). RelayBy s (is_raw (x.plain l)) (whose_in points) l (x.plain l).up) is_due
      ((all_owned g x points stands).relay l)).0 u (sym (whose_more u [] silent) ∙ mine)

  undue : was is_asked (plain_of l points) ≡ true → (x.plain l).stage ≡ due → ⊥
  undue told is_due =
      false≢true (sym (due_unasked (plain_local x l) (plain_of l points)
      (all_streamed l (at_start g) (plain_local x l) (plain_of l points) (plain_runs g x points l stands)) is_due) ∙ told)

  asked_before : was is_asked (plain_of l points) ≡ true → IsNone (whose_in points) (relay_of l)
      → IsNone (whose_in (points ++ p ∷ [])) (relay_of l)
  asked_before told none u mine =
      ⊎_elim (λ silent. none u (sym (whose_more u [] silent) ∙ mine))
      (λ h. ⊎_elim (λ old. none u old)
      (λ new. undue told (relay_birth g x y p steps u new.0 new.1 (h.1 ∙ ap (λ (z : Entry). z ∷ []) new.2) l new.3))
      (relay_new u l (whose_in points u) h.0 (sym (whose_more u (h.0 ∷ []) h.1) ∙ mine)))
      (short p)

-- a link that asked for a stream has no upstream, then and ever
pub never_relayed : (g : NodeConfig) (x : Machine) (points : List Point) → StandsFor g x points → (l : ℕ)
    → was is_asked (plain_of l points) ≡ true → IsNone (whose_in points) (relay_of l)
never_relayed g x points (begins is empty) l told =
    absurd (false≢true (sym (ap (λ (ps : List Point). was is_asked (plain_of l ps)) empty) ∙ told))
never_relayed g y more (goes_on {x = x} {points = points} stands p steps are) l told =
    subst (λ (ps : List Point). IsNone (whose_in ps) (relay_of l)) (sym are)
    (⊎_elim (λ yet. asked_before g x y points stands p steps l yet (never_relayed g x points stands l yet))
    (asked_now g x y points stands p steps l)
    (asked_new g x y points p steps l (sym (ap (λ (ps : List Point). was is_asked (plain_of l ps)) are) ∙ told)))

-- so one that has an upstream asked for none
pub relay_unasked : (g : NodeConfig) (x : Machine) (points : List Point) → StandsFor g x points → (l u : ℕ)
    → whose_in points u ≡ relay_of l → was is_asked (plain_of l points) ≡ false
relay_unasked g x points stands l u mine = by (was is_asked (plain_of l points)) refl
  where
    by : (b : Bool) → was is_asked (plain_of l points) ≡ b → was is_asked (plain_of l points) ≡ false
    by false is = is
    by true is = absurd (never_relayed g x points stands l is u mine)

-- and on one that didn't nothing comes or goes on a stream
pub stream_came_none : (g : NodeConfig) (x : Machine) (points : List Point) → StandsFor g x points → (l : ℕ)
    → was is_asked (plain_of l points) ≡ false → flat_map stream_came_in (plain_of l points) ≡ []
stream_came_none g x points stands l none =
    (none_said l (at_start g) (plain_local x l) (plain_of l points) (plain_runs g x points l stands) none).0

pub stream_went_none : (g : NodeConfig) (x : Machine) (points : List Point) → StandsFor g x points → (l : ℕ)
    → was is_asked (plain_of l points) ≡ false → flat_map stream_went_in (plain_of l points) ≡ []
stream_went_none g x points stands l none =
    (none_said l (at_start g) (plain_local x l) (plain_of l points) (plain_runs g x points l stands) none).1

pub asked_born : (g : NodeConfig) (x : Machine) (points : List Point) → StandsFor g x points → (l : ℕ)
    → was is_asked (plain_of l points) ≡ true → is_plain_born (x.plain l).stage ≡ true
asked_born g x points stands l =
    born_asked (plain_local x l) (plain_of l points)
    (all_streamed l (at_start g) (plain_local x l) (plain_of l points) (plain_runs g x points l stands))
