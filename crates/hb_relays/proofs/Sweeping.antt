-- What all links see at once is told to one link after another.
use Rattle.std.specs.Prelude.{⊤}
use Rattle.std.proofs.Common.{◌≡◌, ◌≢◌, ◌⊎◌, inl, inr, ⊎_elim, ◌&&◌, ℕ, ◌<◌, ◌≤◌, ◌^◌, Bool, true, false, List, [], ◌∷◌, ◌++◌, map, Option, Some, None, is_some, IsSome, refl, ap, ap₂, sym, ◌∙◌, subst, arith}
use Rattle.std.proofs.lemmas.Bool.{cases_eq, cases_order, false≢true}
use Rattle.std.proofs.lemmas.Grind.{flat_map-append}
use Rattle.std.specs.FinMap.{get, insert}
use Rattle.hb_base.specs.declared.note.Note.{Note}
use Rattle.hb_captured.specs.Answer.{Routing, key_of}
use Rattle.hb_captured.specs.Calm.{IsCalm, IsCalmBy, IsIdleBy}
use Rattle.hb_captured.specs.Captured as m
use Rattle.hb_captured.specs.Captured.{Captured, Stage, is_raw, is_through}
use Rattle.hb_captured.specs.Part as part
use Rattle.hb_captured.specs.Part.{Part, note_if}
use Rattle.hb_captured.specs.Runs as captured
use Rattle.hb_captured.specs.Runs.{Lacks, Local, MayGo, left_note, next}
use Rattle.hb_front.proofs.Answers.{one_answer}
use Rattle.hb_front.specs.Reading.{Whole, More, Fault}
use Rattle.hb_gateway.specs.Calm as gateway_calm
use Rattle.hb_gateway.specs.Calm.{close_due}
use Rattle.hb_gateway.specs.Gateway.{Gateway}
use Rattle.hb_held.specs.Held.{Resources}
use Rattle.hb_link.proofs.Noted.{takes_none, takes_then}
use Rattle.hb_link.specs.Noted.{Told, Takes}
use Rattle.hb_map.proofs.Laws.{put_here, put_elsewhere}
use Rattle.hb_map.specs.Keyed.{IsFirstFrom}
use Rattle.hb_model.specs.Machine.{Machine as Control}
use Rattle.hb_model.specs.Point as point
use Rattle.hb_model.specs.declared.config.NodeConfig.{NodeConfig}
use Rattle.hb_proxy.proofs.Plain.{plain_runs}
use Rattle.hb_proxy.specs.Held.{at_start}
use Rattle.hb_proxy.specs.Machine.{Machine, outward, plain_local}
use Rattle.hb_proxy.specs.Notes.{notes, note_in}
use Rattle.hb_proxy.specs.Points.{Point, of_control, of_plain, plain_of}
use Rattle.hb_proxy.specs.Runs.{IfThrough, NoneOffersAmong, RestsAmong, Steps, StandsFor, routing_of}
use Rattle.hb_relay.specs.Answering.{routing_of as code_routing}
use Rattle.hb_relay.specs.Calls as calls
use Rattle.hb_relay.specs.Reaches as relay
use Rattle.hb_relay.specs.Shows.{Shows, as_told, captured_of}
use Rattle.hb_relay.specs.declared.relay.Relay.{Relay}
use Rattle.hb_relay.specs.declared.routes.Routes.{Routes}
use Rattle.hb_relays.specs.Joining.{Gates, IsBehind}
use Rattle.hb_relays.specs.Reaches.{Leads, Meets}
use Rattle.hb_relays.specs.Shows.{IsAway, IsIdle, IsIndex, ShowsGate, ShowsRelay, ShowsRelays}
use Rattle.hb_relays.specs.Touched.{is_touched, touched}
use Rattle.hb_relays.specs.Walks.{Map, Index, IsChanged, routes_with}
use Rattle.hb_relays.specs.declared.relays.Relays.{Relays}
use Rattle.hb_relays.specs.declared.touched.Touched.{Touched}
use Rattle.hb_relays.proofs.Away.{away_is, away_rests, away_undue}
use Rattle.hb_relays.proofs.Lifted.{lifted, leads_keep, notes_of}
use Rattle.hb_relays.proofs.Progress.{leads_append}
use Rattle.hb_relays.proofs.Showing.{kept_shown, opens_by, raw_rests, same_ups, there_by}
use Rattle.hb_relays.proofs.Staying.{Stays, begun_undue, is_begun, leads_begun, leads_gate, leads_stay}
use Rattle.hb_relays.proofs.Touching.{touched_here, touched_still, untouched_before}

-- FROM A CALM LINK nothing follows
calm_follows : (l : ℕ) (a : Local) (p : Part) → IsCalm a.link → relay.IsInner p → MayGo l a p → ⊥
calm_follows l a part.welcomed calm inner may = subst (λ (s : Stage). IsCalmBy s a.link) may calm
calm_follows l a part.lacked calm inner may = by a.link.stage calm may
  where
    by : (s : Stage) → IsCalmBy s a.link → Lacks s a.link → ⊥
    by m.arriving calm lacks = calm
    by m.fronting calm lacks =
        (let both : Whole lacks.0 ≡ More = one_answer a.link.front (Whole lacks.0) More lacks.1 calm in cc both)
    by s calm lacks = lacks
calm_follows l a (part.misfronted fault) calm inner may =
    let both : Fault fault ≡ More =
    one_answer a.link.front (Fault fault) More may.1 (subst (λ (s : Stage). IsCalmBy s a.link) may.0 calm) in
    cc both
calm_follows l a (part.fronted seen routing aim) calm inner may =
    let both : Whole seen ≡ More =
    one_answer a.link.front (Whole seen) More may.0.1 (subst (λ (s : Stage). IsCalmBy s a.link) may.0.0 calm) in
    cc both
calm_follows l a (part.refused seen routing why status note) calm inner may =
    let both : Whole seen ≡ More =
    one_answer a.link.front (Whole seen) More may.0.1 (subst (λ (s : Stage). IsCalmBy s a.link) may.0.0 calm) in
    cc both
calm_follows l a (part.accepted note) calm inner may = subst (λ (s : Stage). IsCalmBy s a.link) may.0 calm
calm_follows l a (part.left made) calm inner may = by a.link.stage calm may.0
  where
    by : (s : Stage) → IsCalmBy s a.link → left_note l a.link s made → ⊥
    by (m.failed why) calm left = calm
    by (m.ended why) calm left = calm
    by s calm left = left
calm_follows l a (part.done note) calm inner may =
    let none : (is_raw a.link && is_through a.link) ≡ false = subst (λ (s : Stage). IsCalmBy s a.link) may.0 calm in
    false≢true (sym none ∙ ap₂ (λ (b c : Bool). b && c) may.1 may.2)
calm_follows l a p calm inner may = absurd inner

calm_ends : (l : ℕ) (routing : Routing) (a : Local) (parts : List Part) (b : Local) (behind : Routing) → IsCalm a.link
    → relay.Leads relay.IsInner l routing a parts b behind → b ≡ a
calm_ends l routing a [] b behind calm leads = leads.0
calm_ends l routing a (p ∷ parts) b behind calm leads = absurd (calm_follows l a p calm leads.0 leads.2)

-- WHERE NOTHING OF A LINK CHANGED none is due of it as before

told_idle : (stage : Stage) (x : Captured)
    → (IsIdleBy stage (as_told x) → IsIdleBy stage x) × (IsIdleBy stage x → IsIdleBy stage (as_told x))
told_idle m.due x = (λ idle. idle, λ idle. idle)
told_idle m.live x = (λ idle. idle, λ idle. idle)
told_idle (m.over why) x = (λ idle. idle, λ idle. idle)
told_idle m.unborn x = (λ idle. idle, λ idle. idle)
told_idle m.arriving x = (λ idle. idle, λ idle. idle)
told_idle m.fronting x = (λ idle. idle, λ idle. idle)
told_idle m.opening x = (λ idle. idle, λ idle. idle)
told_idle m.accepting x = (λ idle. idle, λ idle. idle)
told_idle (m.failed why) x = (λ idle. idle, λ idle. idle)
told_idle (m.ended why) x = (λ idle. idle, λ idle. idle)

idle_same : (x y : Captured) → as_told x ≡ as_told y → IsIdle x → IsIdle y
idle_same x y same idle = (told_idle y.stage y).0 (subst IsIdle same ((told_idle x.stage x).1 idle))

-- ONE LINK IS TOLD

-- the others stay, and those that were touched; this one is touched, or nothing of it changed
pub record Changes (n : ℕ) (old new : Relay) (a b : Relays) : Type 0 where
  pub relays : b.relays ≡ insert a.relays n new
  pub ups : b.ups ≡ a.ups
  pub routes : b.routes ≡ a.routes
  pub gates : b.gates ≡ a.gates
  pub gate_due : b.gate_due ≡ a.gate_due
  pub due : (l : ℕ) → is_touched a.due l ≡ true → is_touched b.due l ≡ true
  pub same : is_touched b.due n ≡ false → captured_of new ≡ captured_of old

pub changes : (n : ℕ) (old new : Relay) (a b : Relays) → IsChanged n old new a b → Changes n old new a b
changes n old new a b (inl is) =
    let due : b.due ≡ touched n a.due = ap (λ (k : Relays). k.due) is in
    record {
      relays = ap (λ (k : Relays). k.relays) is;
      ups = ap (λ (k : Relays). k.ups) is;
      routes = ap (λ (k : Relays). k.routes) is;
      gates = ap (λ (k : Relays). k.gates) is;
      gate_due = ap (λ (k : Relays). k.gate_due) is;
      due = λ l was. ap (λ (t : Touched). is_touched t l) due ∙ touched_still n a.due l was;
      same = λ none. absurd (false≢true (sym none ∙ ap (λ (t : Touched). is_touched t n) due ∙ touched_here n a.due));
    }
changes n old new a b (inr (same, is)) = record {
  relays = ap (λ (k : Relays). k.relays) is;
  ups = ap (λ (k : Relays). k.ups) is;
  routes = ap (λ (k : Relays). k.routes) is;
  gates = ap (λ (k : Relays). k.gates) is;
  gate_due = ap (λ (k : Relays). k.gate_due) is;
  due = λ l was. ap (λ (k : Relays). is_touched k.due l) is ∙ was;
  same = λ none. same;
}

-- WHAT ALL SEE

-- how far a walk is: the links in front of it, and the others
abbrev pub IsBelow : Option ℕ → ℕ → Type 0
IsBelow None l = ⊤
IsBelow (Some n) l = l < n

abbrev pub IsFrom : Option ℕ → ℕ → Type 0
IsFrom None l = ⊥
IsFrom (Some n) l = n ≤ l

-- the links in front of it were told, and the others are to be
pub record Sweeps (g : NodeConfig) (x y : Machine) (k a : Relays) (from : Option ℕ) (told now : Told) : Type 0 where
  pub more : List Point
  pub reached : Machine
  pub leads : Leads g y more reached
  pub shown : (l : ℕ) → IsBelow from l → ShowsRelay l (get a.relays l) (reached.plain l)
  pub idle : (l : ℕ) → IsBelow from l → is_touched a.due l ≡ false → IsIdle (reached.plain l)
  pub link : (l : ℕ) → IsFrom from l → get a.relays l ≡ get k.relays l
  pub same : (l : ℕ) → IsFrom from l → reached.plain l ≡ y.plain l
  pub ups : (l : ℕ) → (reached.plain l).up ≡ (x.plain l).up
  pub there : (l : ℕ) → IsSome (get a.relays l) → IsSome (get k.relays l)
  pub counted : routing_of g reached ≡ routing_of g y
  pub gates : reached.gates ≡ y.gates
  -- those that were told rest on their streams, and wait for none that has room
  pub rests : (l : ℕ) → IsBelow from l → RestsAmong x.gates (reached.plain l)
  pub waits : (l : ℕ) → IsBelow from l → (reached.plain l).stage ≡ m.due
      → IfThrough (key_of (reached.plain l).aim) (NoneOffersAmong x.gates)
  pub noted : Takes told (notes more) now

-- what a point of the control plane makes of each link is this part of it
pub record AllSee (x y : Machine) (p : Part) : Type 0 where
  pub steps : (l : ℕ) → plain_local y l ≡ next (plain_local x l) p
  pub may : (l : ℕ) → MayGo l (plain_local x l) p
  pub stays : (l : ℕ) → Stays (x.plain l) (next (plain_local x l) p).link
  -- a link that isn't there stays so
  pub away : (l : ℕ) → IsAway (x.plain l) → IsAway (y.plain l)
  pub gates : y.gates ≡ x.gates
  -- of each link that is shown nothing changed, or it ended, and has no stream
  pub ends : (l : ℕ) (k : Relay) → Shows k (x.plain l)
      → (y.plain l ≡ x.plain l) ⊎ ((is_begun (y.plain l).stage ≡ true) × ((y.plain l).gate ≡ 0))

-- so far the code meets the machine
pub record Swept (P : Resources → Type 0) (q : point.Point) (p : Part) (k a : Relays) (from : Option ℕ) (told now : Told) : Type 0 where
  pub ups : a.ups ≡ k.ups
  pub routes : a.routes ≡ k.routes
  pub gates : a.gates ≡ k.gates
  pub gate_due : a.gate_due ≡ k.gate_due
  pub due : (l : ℕ) → is_touched k.due l ≡ true → is_touched a.due l ≡ true
  pub sees : (g : NodeConfig) (x y : Machine) → Steps g x (of_control q) y → AllSee x y p
  pub sweeps : (g : NodeConfig) (x y : Machine) (points : List Point) → StandsFor g x points → ShowsRelays g k (outward x)
      → P x.control.held → Steps g x (of_control q) y → Sweeps g x y k a from told now

-- what follows by itself where nothing of a link changed, or where it ended
after_told : (n : ℕ) (routing : Routing) (a : Local) (parts : List Part) (b : Local) (behind : Routing) (x y w : Captured)
    → relay.Leads relay.IsInner n routing a parts b behind → a.link ≡ y → w ≡ b.link → IsCalm x
    → (y ≡ x) ⊎ ((is_begun y.stage ≡ true) × (y.gate ≡ 0)) → (w ≡ x) ⊎ ((is_begun w.stage ≡ true) × (w.gate ≡ 0))
after_told n routing a parts b behind x y w leads a_is w_is calm (inl same) =
    inl (w_is ∙ ap (λ (c : Local). c.link)
    (calm_ends n routing a parts b behind (subst IsCalm (sym (a_is ∙ same)) calm) leads) ∙ a_is ∙ same)
after_told n routing a parts b behind x y w leads a_is w_is calm (inr ended) = inr (
  ap (λ (c : Captured). is_begun c.stage) w_is
      ∙ leads_begun n routing a parts b behind leads (ap (λ (c : Captured). is_begun c.stage) a_is ∙ ended.0),
  ap (λ (c : Captured). c.gate) w_is ∙ leads_gate n routing a parts b behind leads ∙ ap (λ (c : Captured). c.gate) a_is ∙ ended.1,
)

-- where no link is in front of the first one nothing is to be told
pub starts : (P : Resources → Type 0) (q : point.Point) (p : Part) (k : Relays) (first : Option ℕ) (told : Told)
    → ((g : NodeConfig) (x y : Machine) → Steps g x (of_control q) y → AllSee x y p) → IsFirstFrom k.relays 0 first
    → Swept P q p k k first told told
starts P q p k first told sees is = record {
  ups = refl;
  routes = refl;
  gates = refl;
  gate_due = refl;
  due = λ l was. was;
  sees = sees;
  sweeps = λ g x y points stands shows holds steps.
      (let see = sees g x y steps in
      let gone : (l : ℕ) → IsBelow first l → IsAway (y.plain l) = λ l below.
      see.away l (subst (λ (o : Option Relay). ShowsRelay l o (x.plain l)) (none_below first is l below) (shows.relays l)) in
      record {
        more = [];
        reached = y;
        leads = refl;
        shown = λ l below. subst (λ (o : Option Relay). ShowsRelay l o (y.plain l)) (sym (none_below first is l below)) (gone l below);
        idle = λ l below none. (away_is (y.plain l) (gone l below)).idle;
        link = λ l from. refl;
        same = λ l from. refl;
        ups = λ l. ap (λ (a : Local). a.link.up) (see.steps l) ∙ (see.stays l).up;
        there = λ l some. some;
        counted = refl;
        gates = refl;
        rests = λ l below on. away_rests (y.plain l).stage (y.plain l) (x.gates (y.plain l).gate) (gone l below);
        waits = λ l below stage. absurd (away_undue (y.plain l).stage (y.plain l) (gone l below) stage);
        noted = takes_none told;
      });
}
  where
    none_below : (first : Option ℕ) → IsFirstFrom k.relays 0 first → (l : ℕ) → IsBelow first l → get k.relays l ≡ None
    none_below None is l below = is l (omega arith)
    none_below (Some n) is l below = is.2 l (omega arith) below

-- what stands behind the one that is told
module _ (relays : Map) (n : ℕ) (narrow : (l : ℕ) → IsSome (get relays l) → l < 2 ^ 64) where
  behind_none : (next : Option ℕ) → IsBehind relays n next → (l : ℕ) → IsBelow next l → n < l → get relays l ≡ None
  behind_none None (inl is) l below after = is l (omega (arith, after))
  behind_none (Some m) (inl is) l below after = is.2 l (omega (arith, after)) below
  behind_none next (inr is) l below after = by (get relays l) refl
    where
      by : (o : Option Relay) → get relays l ≡ o → o ≡ None
      by None found = refl
      by (Some k) found = absurd (let few = narrow l (ap is_some found) in let most = is.1 in omega (arith, few, most, after))

  behind_from : (next : Option ℕ) → IsBehind relays n next → (l : ℕ) → IsFrom next l → n < l
  behind_from None is l from = absurd from
  behind_from (Some m) (inl is) l from = (let first = is.0 in omega (arith, first, from))
  behind_from (Some m) (inr is) l from = absurd (let none = is.0 in cc)

parted : (l n : ℕ) → l ≢ n → (l < n) ⊎ (n < l)
parted l n apart = ⊎_elim (λ same. absurd (apart same)) (λ either. either) (cases_order l n)

-- one more is told
module _ (P : Resources → Type 0) (q : point.Point) (p : Part) (k a b : Relays) (n : ℕ) (old new : Relay) (made : Option Note)
    (next_one : Option ℕ) (told now then : Told) (swept : Swept P q p k a (Some n) told now) (is : get a.relays n ≡ Some old)
    (changed : Changes n old new a b) (meets : calls.Follows relay.IsInner P p old new made) (takes : Takes now (note_if made) then)
    (next_is : IsBehind b.relays n next_one) where
  still : (l : ℕ) → is_touched k.due l ≡ true → is_touched b.due l ≡ true
  still l was = changed.due l (swept.due l was)

  here_is : get b.relays n ≡ Some new
  here_is = ap (λ (m : Map). get m n) changed.relays ∙ put_here a.relays n new

  apart_is : (l : ℕ) → l ≢ n → get b.relays l ≡ get a.relays l
  apart_is l apart = ap (λ (m : Map). get m l) changed.relays ∙ put_elsewhere a.relays n new l apart

  module _ (g : NodeConfig) (x y : Machine) (points : List Point) (stands : StandsFor g x points)
      (shows : ShowsRelays g k (outward x)) (holds : P x.control.held) (steps : Steps g x (of_control q) y) where
    see : AllSee x y p
    see = swept.sees g x y steps

    so_far : Sweeps g x y k a (Some n) told now
    so_far = swept.sweeps g x y points stands shows holds steps

    was : get k.relays n ≡ Some old
    was = (let here : n ≤ n = omega arith in sym (so_far.link n here) ∙ is)

    there : (l : ℕ) → IsSome (get b.relays l) → IsSome (get k.relays l)
    there l some =
        ⊎_elim (λ at. ap (λ (i : ℕ). is_some (get k.relays i)) at ∙ ap is_some was)
        (λ apart. so_far.there l (sym (ap is_some (apart_is l apart)) ∙ some)) (cases_eq l n)

    narrow : (l : ℕ) → IsSome (get b.relays l) → l < 2 ^ 64
    narrow l some = shows.numbered l (there l some)

    -- one behind it, in front of the next, isn't there
    gone : (l : ℕ) → IsBelow next_one l → n < l → IsAway (y.plain l)
    gone l below after =
        let apart : l ≢ n = λ same. omega (arith, after, same) in
        let from : n ≤ l = omega (arith, after) in
        let none : get k.relays l ≡ None =
        sym (so_far.link l from) ∙ sym (apart_is l apart) ∙ behind_none b.relays n narrow next_one next_is l below after in
        see.away l (subst (λ (o : Option Relay). ShowsRelay l o (x.plain l)) none (shows.relays l))

    pub tells : Sweeps g x y k b next_one told then
    tells =
        let z = so_far.reached in
        let here : n ≤ n = omega arith in
        let shown = kept_shown k x.plain n old shows.relays was in
        let at = plain_local x n in
        let by = routing_of g z in
        let last = subst (λ (i : ℕ). relay.Reaches relay.IsInner i by (next at p) new by made) shown.0
        (meets.reaches (at_start g) (plain_of n points) at by
        (subst (λ (i : ℕ). captured.StandsFor i (at_start g) at (plain_of n points)) (sym shown.0) (plain_runs g x points n stands))
        shown.1 holds (subst (λ (i : ℕ). MayGo i at p) (sym shown.0) (see.may n))) in
        let keeps = leads_keep g y so_far.more z so_far.leads in
        let control : z.control ≡ y.control = keeps.control in
        let z_is : plain_local z n ≡ next at p =
        ap (λ (c : Captured). record { held = z.control.held; link = c }) (so_far.same n here)
        ∙ ap (λ (c : Control). record { held = c.held; link = y.plain n }) control ∙ see.steps n in
        let more = lifted g n z last.parts last.reached by
        (subst (λ (c : Local). relay.Leads relay.IsInner n by c last.parts last.reached by) (sym z_is) last.leads) in
        let w = more.y in
        let w_is : w.plain n ≡ last.reached.link = ap (λ (c : Local). c.link) more.here in
        let rest = leads_stay n by (next at p) last.parts last.reached by last.leads in
        let opens : last.reached.link.closed ≡ false =
        rest.closed ∙ (see.stays n).closed ∙ opens_by (x.plain n).stage (x.plain n).closed shown.2 in
        let after : (w.plain n ≡ x.plain n) ⊎ ((is_begun (w.plain n).stage ≡ true) × ((w.plain n).gate ≡ 0)) =
        after_told n by (next at p) last.parts last.reached by (x.plain n) (y.plain n) (w.plain n) last.leads
        (ap (λ (c : Local). c.link) (sym (see.steps n))) w_is shown.1.calm (see.ends n old shown.1) in
        record {
          more = so_far.more ++ map (of_plain n) last.parts;
          reached = w;
          leads = leads_append g y z w so_far.more (map (of_plain n) last.parts) so_far.leads more.leads;
          shown = λ l below. ⊎_elim
              (λ same. subst (λ (i : ℕ). ShowsRelay i (get b.relays i) (w.plain i)) (sym same)
              (subst (λ (o : Option Relay). ShowsRelay n o (w.plain n)) (sym here_is)
              (subst (λ (c : Captured). ShowsRelay n (Some new) c) (sym w_is)
              (meets.number ∙ shown.0, last.shows, there_by new last.reached.link last.shows opens))))
              (λ apart. subst (λ (c : Captured). ShowsRelay l (get b.relays l) c) (sym (more.others l apart))
              (⊎_elim
              (λ less. subst (λ (o : Option Relay). ShowsRelay l o (z.plain l)) (sym (apart_is l apart)) (so_far.shown l less))
              (λ greater. (let from : n ≤ l = omega (arith, greater) in
              subst (λ (o : Option Relay). ShowsRelay l o (z.plain l))
              (sym (behind_none b.relays n narrow next_one next_is l below greater))
              (subst (λ (c : Captured). IsAway c) (sym (so_far.same l from)) (gone l below greater))))
              (parted l n apart)))
              (cases_eq l n);
          idle = λ l below none. ⊎_elim
              (λ same. subst (λ (i : ℕ). IsIdle (w.plain i)) (sym same)
              (let none_here : is_touched b.due n ≡ false = ap (λ (i : ℕ). is_touched b.due i) (sym same) ∙ none in
              subst IsIdle (sym w_is) (idle_same (x.plain n) last.reached.link
              (shown.1.same ∙ sym (changed.same none_here) ∙ sym last.shows.same)
              (shows.idle n (untouched_before k.due b.due n (still n) none_here)))))
              (λ apart. subst IsIdle (sym (more.others l apart))
              (⊎_elim
              (λ less. so_far.idle l less (untouched_before a.due b.due l (changed.due l) none))
              (λ greater. (let from : n ≤ l = omega (arith, greater) in
              subst IsIdle (sym (so_far.same l from)) ((away_is (y.plain l) (gone l below greater)).idle)))
              (parted l n apart)))
              (cases_eq l n);
          link = λ l from. (let above = behind_from b.relays n narrow next_one next_is l from in
              apart_is l (λ same. omega (arith, same, above)) ∙ so_far.link l (omega (arith, above)));
          same = λ l from. (let above = behind_from b.relays n narrow next_one next_is l from in
              more.others l (λ same. omega (arith, same, above)) ∙ so_far.same l (omega (arith, above)));
          ups = λ l. ⊎_elim
              (λ same. subst (λ (i : ℕ). (w.plain i).up ≡ (x.plain i).up) (sym same)
              (ap (λ (c : Captured). c.up) w_is ∙ rest.up ∙ (see.stays n).up))
              (λ apart. ap (λ (c : Captured). c.up) (more.others l apart) ∙ so_far.ups l) (cases_eq l n);
          there = there;
          counted = more.counted ∙ so_far.counted;
          gates = more.gates ∙ so_far.gates;
          rests = λ l below. ⊎_elim
              (λ same. subst (λ (i : ℕ). RestsAmong x.gates (w.plain i)) (sym same) (⊎_elim
              (λ as_was. subst (RestsAmong x.gates) (sym as_was) (shows.calm.streams n))
              (λ ended. raw_rests x.gates (w.plain n) ended.1) after))
              (λ apart. subst (RestsAmong x.gates) (sym (more.others l apart)) (⊎_elim
              (λ less. so_far.rests l less)
              (λ greater. (let from : n ≤ l = omega (arith, greater) in
              subst (RestsAmong x.gates) (sym (so_far.same l from))
              (λ on. away_rests (y.plain l).stage (y.plain l) (x.gates (y.plain l).gate) (gone l below greater))))
              (parted l n apart)))
              (cases_eq l n);
          waits = λ l below stage. ⊎_elim
              (λ same. subst (λ (i : ℕ). IfThrough (key_of (w.plain i).aim) (NoneOffersAmong x.gates)) (sym same) (⊎_elim
              (λ as_was. subst (λ (c : Captured). IfThrough (key_of c.aim) (NoneOffersAmong x.gates)) (sym as_was)
              (shows.wanting n (ap (λ (c : Captured). c.stage) (sym as_was) ∙ ap (λ (i : ℕ). (w.plain i).stage) (sym same) ∙ stage)))
              (λ ended. absurd (begun_undue (w.plain n).stage ended.0 (ap (λ (i : ℕ). (w.plain i).stage) (sym same) ∙ stage))) after))
              (λ apart. subst (λ (c : Captured). IfThrough (key_of c.aim) (NoneOffersAmong x.gates)) (sym (more.others l apart)) (⊎_elim
              (λ less. so_far.waits l less (ap (λ (c : Captured). c.stage) (sym (more.others l apart)) ∙ stage))
              (λ greater. (let from : n ≤ l = omega (arith, greater) in
              absurd (away_undue (y.plain l).stage (y.plain l) (gone l below greater)
              (ap (λ (c : Captured). c.stage) (sym (more.others l apart ∙ so_far.same l from)) ∙ stage))))
              (parted l n apart)))
              (cases_eq l n);
          noted = subst (λ (ns : List Note). Takes told ns then)
              (ap (λ (ns : List Note). notes so_far.more ++ ns) (sym (notes_of n last.parts ∙ last.noted))
              ∙ sym (flat_map-append note_in so_far.more (map (of_plain n) last.parts)))
              (takes_then told now then (notes so_far.more) (note_if made) so_far.noted takes);
        }

  pub goes : Swept P q p k b next_one told then
  goes = record {
    ups = changed.ups ∙ swept.ups;
    routes = changed.routes ∙ swept.routes;
    gates = changed.gates ∙ swept.gates;
    gate_due = changed.gate_due ∙ swept.gate_due;
    due = still;
    sees = swept.sees;
    sweeps = tells;
  }

-- all were told, and the counts are those of the machine then
pub ends : (P : Resources → Type 0) (q : point.Point) (p : Part) (k n : Relays) (routes : Routes) (told now : Told)
    → ((g : NodeConfig) (x y : Machine) → Steps g x (of_control q) y → code_routing n.routes ≡ routing_of g x
    → code_routing routes ≡ routing_of g y)
    → Swept P q p k n None told now → Meets (λ x. P x.control.held) (of_control q) k told (routes_with routes n) now
ends P q p k n routes told now counts swept g x y points stands shows holds steps =
    let all = swept.sweeps g x y points stands shows holds steps in
    let see = swept.sees g x y steps in
    let z = all.reached in
    let gates : z.gates ≡ x.gates = all.gates ∙ see.gates in
    record {
      more = all.more;
      reached = z;
      leads = all.leads;
      shows = record {
        relays = λ l. all.shown l tt;
        index = subst (λ (u : Index). IsIndex u z.plain) (sym swept.ups) (same_ups k.ups x.plain z.plain all.ups shows.index);
        numbered = λ l some. shows.numbered l (all.there l some);
        idle = λ l none. all.idle l tt none;
        counted = counts g x y steps (ap code_routing swept.routes ∙ shows.counted) ∙ sym all.counted;
        gates = λ m. subst (λ (f : ℕ → Gateway). ShowsGate m (get n.gates m) (f m)) (sym gates)
            (subst (λ (all_gates : Gates). ShowsGate m (get all_gates m) (x.gates m)) (sym swept.gates) (shows.gates m));
        gate_numbered = λ m some. shows.gate_numbered m (ap (λ (all_gates : Gates). is_some (get all_gates m)) (sym swept.gates) ∙ some);
        gate_idle = λ m none. subst (λ (f : ℕ → Gateway). close_due (f m).phase ≡ None) (sym gates)
            (shows.gate_idle m (ap (λ (t : Touched). is_touched t m) (sym swept.gate_due) ∙ none));
        calm = record {
          gates = λ m. subst (λ (f : ℕ → Gateway). gateway_calm.IsCalm (f m)) (sym gates) (shows.calm.gates m);
          streams = λ l. subst (λ (f : ℕ → Gateway). RestsAmong f (z.plain l)) (sym gates) (all.rests l tt);
        };
        wanting = λ l stage. subst (λ (f : ℕ → Gateway). IfThrough (key_of (z.plain l).aim) (NoneOffersAmong f)) (sym gates)
            (all.waits l tt stage);
      };
      noted = all.noted;
    }
