-- A call of one link is a call of all links.
use Rattle.std.proofs.Common.{◌≡◌, ◌≢◌, ◌⊎◌, inl, inr, ⊎_elim, ℕ, ◌<◌, ◌^◌, ◌==◌, not, Bool, true, false, List, map, Option, Some, None, is_some, refl, ap, sym, ◌∙◌, subst, arith}
use Rattle.std.proofs.lemmas.Bool.{cases_eq, ne_eqb, eqb-false, true≢false}
use Rattle.std.specs.FinMap.{get, insert, remove}
use Rattle.hb_base.specs.declared.note.Note.{Note}
use Rattle.hb_captured.specs.Answer.{Routing, key_of}
use Rattle.hb_captured.specs.Captured as m
use Rattle.hb_captured.specs.Captured.{Captured, Stage, due, is_raw}
use Rattle.hb_captured.specs.Part.{Part, note_if}
use Rattle.hb_captured.specs.Runs as captured
use Rattle.hb_captured.specs.Runs.{Local, next, next_link}
use Rattle.hb_gateway.specs.Calm as gateway_calm
use Rattle.hb_gateway.specs.Gateway.{Gateway}
use Rattle.hb_held.specs.Held.{Resources}
use Rattle.hb_link.specs.Noted.{Told, Takes}
use Rattle.hb_map.proofs.Laws.{put_here, put_elsewhere, removed_here, removed_elsewhere}
use Rattle.hb_model.specs.declared.config.NodeConfig.{NodeConfig}
use Rattle.hb_proxy.proofs.Plain.{plain_runs, turned}
use Rattle.hb_proxy.specs.Held.{at_start}
use Rattle.hb_proxy.specs.Machine.{Machine, Outward, outward, plain_local}
use Rattle.hb_proxy.specs.Points.{Point, of_plain, plain_of}
use Rattle.hb_proxy.specs.Runs.{IfThrough, NoneOffersAmong, RestsAmong, Steps, StandsFor, routing_of}
use Rattle.hb_proxy.specs.Seen.{IsPlainThere, IsPlainThereBy}
use Rattle.hb_proxy.specs.Ups.{IsRelayOf}
use Rattle.hb_relay.specs.Answering.{routing_of as code_routing}
use Rattle.hb_relay.specs.Reaches as relay
use Rattle.hb_relay.specs.Reaches.{rerouted}
use Rattle.hb_relay.specs.Shows.{Shows, stage_of}
use Rattle.hb_relay.specs.declared.relay.Relay.{Relay}
use Rattle.hb_relay.specs.declared.routes.Routes.{Routes}
use Rattle.hb_relay.specs.declared.stage.Stage as code
use Rattle.hb_relay.specs.declared.stage.Stage.TheVariants.{Fronting, Due, Opening, Live, Over}
use Rattle.hb_relays.specs.Joining.{Links, Streams, ShowsSome, all, but}
use Rattle.hb_relays.specs.Reaches.{Follows, Meets}
use Rattle.hb_relays.specs.Shows.{IsIdle, IsIndex, ShowsGate, ShowsRelay, ShowsRelays}
use Rattle.hb_relays.specs.Walks.{Map, Index, ShowsBut, relays_with, routes_with, touched_at}
use Rattle.hb_relays.specs.declared.relays.Relays.{Relays}
use Rattle.hb_relays.proofs.Lifted.{lifted, counts, here, there, notes_of}
use Rattle.hb_relays.proofs.Progress.{Comes}
use Rattle.hb_relays.proofs.Staying.{IsBare, Stays, is_begun, begun_undue, leads_bare, leads_begun, leads_gate, leads_stay}
use Rattle.hb_relays.proofs.Touching.{untouched}

-- A LINK THAT IS THERE

pub there_by : (k : Relay) (x : Captured) → Shows k x → x.closed ≡ false → IsPlainThere x
there_by k x shows opens = by k.stage (ap (λ (y : Captured). y.stage) shows.same)
  where
    by : (s : code.Stage) → x.stage ≡ stage_of s → IsPlainThere x
    by Fronting is = subst (λ (s : Stage). IsPlainThereBy s x.closed) (sym is) opens
    by Due is = subst (λ (s : Stage). IsPlainThereBy s x.closed) (sym is) opens
    by Opening is = subst (λ (s : Stage). IsPlainThereBy s x.closed) (sym is) opens
    by Live is = subst (λ (s : Stage). IsPlainThereBy s x.closed) (sym is) opens
    by (Over why) is = subst (λ (s : Stage). IsPlainThereBy s x.closed) (sym is) opens

pub opens_by : (stage : Stage) (closed : Bool) → IsPlainThereBy stage closed → closed ≡ false
opens_by m.unborn closed is = absurd is
opens_by m.arriving closed is = is
opens_by m.fronting closed is = is
opens_by m.due closed is = is
opens_by m.opening closed is = is
opens_by m.accepting closed is = is
opens_by m.live closed is = is
opens_by (m.failed why) closed is = is
opens_by (m.ended why) closed is = is
opens_by (m.over why) closed is = is

pub kept_shown : (k : Relays) (f : ℕ → Captured) (l : ℕ) (w : Relay) → ((j : ℕ) → ShowsRelay j (get k.relays j) (f j))
    → get k.relays l ≡ Some w → ShowsRelay l (Some w) (f l)
kept_shown k f l w shows is = subst (λ (o : Option Relay). ShowsRelay l o (f l)) is (shows l)

-- THE INDEX OF UPSTREAMS

-- it stays where no upstream is born or closed
pub same_ups : (ups : Index) (f z : ℕ → Captured) → ((j : ℕ) → (z j).up ≡ (f j).up) → IsIndex ups f → IsIndex ups z
same_ups ups f z same index = record {
  found = λ l u is. index.found l u (is.0, sym (same l) ∙ is.1);
  joined = λ l u at. (let was = index.joined l u at in (was.0, same l ∙ was.1));
}

-- one link changes
module _ (f z : ℕ → Captured) (l : ℕ) (others : (j : ℕ) → j ≢ l → z j ≡ f j) where
  pub ups_same : (z l).up ≡ (f l).up → (j : ℕ) → (z j).up ≡ (f j).up
  ups_same same j =
      ⊎_elim (λ at. subst (λ (i : ℕ). (z i).up ≡ (f i).up) (sym at) same)
      (λ apart. ap (λ (w : Captured). w.up) (others j apart)) (cases_eq j l)

  up_then : (j u : ℕ) → j ≢ l → (z j).up ≡ u → (f j).up ≡ u
  up_then j u apart is = ap (λ (w : Captured). w.up) (sym (others j apart)) ∙ is

  -- its upstream is born
  module _ (ups : Index) (index : IsIndex ups f) (v : ℕ) (some : 0 < v) (was : (f l).up ≡ 0) (now : (z l).up ≡ v) where
    pub born_index : ((j : ℕ) → (f j).up ≢ v) → IsIndex (insert ups v l) z
    born_index fresh = record { found = found; joined = joined }
      where
        found : (j u : ℕ) → IsRelayOf (z j) u → get (insert ups v l) u ≡ Some j
        found j u is = ⊎_elim
            (λ same. (let u_is : u ≡ v = sym is.1 ∙ ap (λ (i : ℕ). (z i).up) same ∙ now in
            ap (get (insert ups v l)) u_is ∙ put_here ups v l ∙ ap Some (sym same)))
            (λ apart. (let old = up_then j u apart is.1 in
            put_elsewhere ups v l u (λ same. fresh j (old ∙ same)) ∙ index.found j u (is.0, old)))
            (cases_eq j l)

        joined : (j u : ℕ) → get (insert ups v l) u ≡ Some j → IsRelayOf (z j) u
        joined j u at = ⊎_elim
            (λ same. (let both : Some l ≡ Some j = sym (put_here ups v l) ∙ ap (get (insert ups v l)) (sym same) ∙ at in
            let j_is : l ≡ j = cc both in
            (subst (λ (i : ℕ). 0 < i) (sym same) some, ap (λ (i : ℕ). (z i).up) (sym j_is) ∙ now ∙ sym same)))
            (λ apart. other j u (index.joined j u (sym (put_elsewhere ups v l u apart) ∙ at)) (cases_eq j l))
            (cases_eq u v)
          where
            other : (j u : ℕ) → IsRelayOf (f j) u → (j ≡ l) ⊎ (j ≢ l) → IsRelayOf (z j) u
            other j u old (inl same) =
                absurd (let up_is : (f j).up ≡ 0 = ap (λ (i : ℕ). (f i).up) same ∙ was in
                let more = old.0 in
                let is = old.1 in
                omega (arith, up_is, more, is))
            other j u old (inr apart) = (old.0, ap (λ (w : Captured). w.up) (others j apart) ∙ old.1)

  -- it is closed
  module _ (ups : Index) (index : IsIndex ups f) (v : ℕ) (joins : IsRelayOf (f l) v) (now : (z l).up ≡ 0) where
    pub closed_index : IsIndex (remove ups v) z
    closed_index = record { found = found; joined = joined }
      where
        found : (j u : ℕ) → IsRelayOf (z j) u → get (remove ups v) u ≡ Some j
        found j u is = ⊎_elim
            (λ same. absurd (let up_is : (z j).up ≡ 0 = ap (λ (i : ℕ). (z i).up) same ∙ now in
            let some = is.0 in
            let at = is.1 in
            omega (arith, up_is, some, at)))
            (λ apart. (let old : IsRelayOf (f j) u = (is.0, up_then j u apart is.1) in
            removed_elsewhere ups v u
            (λ same. apart (let both : Some j ≡ Some l = sym (index.found j u old) ∙ ap (get ups) same ∙ index.found l v joins in cc both))
            ∙ index.found j u old))
            (cases_eq j l)

        joined : (j u : ℕ) → get (remove ups v) u ≡ Some j → IsRelayOf (z j) u
        joined j u at = ⊎_elim
            (λ same. absurd (let both : None ≡ Some j = sym (removed_here ups v) ∙ ap (get (remove ups v)) (sym same) ∙ at in cc both))
            (λ apart. (let old = index.joined j u (sym (removed_elsewhere ups v u apart) ∙ at) in (
              old.0,
              ap (λ (w : Captured). w.up)
                  (others j (λ same. apart (sym old.1 ∙ ap (λ (i : ℕ). (f i).up) same ∙ joins.1))) ∙ old.1,
            )))
            (cases_eq u v)

-- ONE LINK IS CHANGED, AND WITH IT THE INDEX: it is touched

pub but_all : (g : NodeConfig) (l : ℕ) (k : Relays) (x : Outward) → ShowsRelays g k x → ShowsBut g l k x
but_all g l k x shows = record {
  relays = shows.relays;
  index = shows.index;
  numbered = shows.numbered;
  idle = λ j apart none. shows.idle j none;
  counted = shows.counted;
  gates = shows.gates;
  gate_numbered = shows.gate_numbered;
  gate_idle = shows.gate_idle;
  calm = shows.calm;
  wanting = shows.wanting;
}

-- the streams of all links but one
abbrev pub not_link : ℕ → Streams
not_link l k x = not (k == l)

pub apart_of : (j l : ℕ) → not (j == l) ≡ true → j ≢ l
apart_of j l is = eqb-false j l (by (j == l) is)
  where
    by : (b : Bool) → not b ≡ true → b ≡ false
    by false is = refl
    by true is = absurd (true≢false (sym is))

pub apart_is : (j l : ℕ) → j ≢ l → not (j == l) ≡ true
apart_is j l apart = ap not (ne_eqb j l apart)

-- nothing may be put on a stream of a link that has none
pub raw_rests : (gates : ℕ → Gateway) (x : Captured) → x.gate ≡ 0 → RestsAmong gates x
raw_rests gates x none on = absurd (true≢false (sym (ap (λ (n : ℕ). n == 0) none) ∙ on))

module _ (g : NodeConfig) (k : Relays) (l : ℕ) (relays : Map) (ups : Index) (routes : Routes) (x z : Outward) (shows : ShowsBut g l k x)
    (same : (j : ℕ) → j ≢ l → get relays j ≡ get k.relays j) (others : (j : ℕ) → j ≢ l → z.plain j ≡ x.plain j)
    (gates : z.gates ≡ x.gates) (counted : code_routing routes ≡ record { opens = z.opens; hbone_port = g.hbone_port })
    (waiting : Links) (resting : Streams) where
  pub shown_then : l < 2 ^ 64 → ShowsRelay l (get relays l) (z.plain l) → IsIndex ups z.plain
      → (waiting l ≡ true → (z.plain l).stage ≡ due → IfThrough (key_of (z.plain l).aim) (NoneOffersAmong z.gates))
      → (resting l (z.plain l) ≡ true → RestsAmong z.gates (z.plain l))
      → ShowsSome waiting resting all g (touched_at l (routes_with routes (relays_with relays ups k))) z
  shown_then narrow shown index waits rests = record {
    relays = λ j. ⊎_elim
        (λ at. subst (λ (i : ℕ). ShowsRelay i (get relays i) (z.plain i)) (sym at) shown)
        (λ apart. subst (λ (o : Option Relay). ShowsRelay j o (z.plain j)) (sym (same j apart))
        (subst (λ (w : Captured). ShowsRelay j (get k.relays j) w) (sym (others j apart)) (shows.relays j)))
        (cases_eq j l);
    index = index;
    numbered = λ j some. ⊎_elim (λ at. subst (λ (i : ℕ). i < 2 ^ 64) (sym at) narrow)
        (λ apart. shows.numbered j (sym (ap is_some (same j apart)) ∙ some)) (cases_eq j l);
    idle = λ j none. (let was = untouched l k.due j none in
        subst (λ (w : Captured). IsIdle w) (sym (others j was.0)) (shows.idle j was.0 was.1));
    counted = counted;
    gates = λ n. subst (λ (f : ℕ → Gateway). ShowsGate n (get k.gates n) (f n)) (sym gates) (shows.gates n);
    gate_numbered = shows.gate_numbered;
    gate_idle = λ n none. subst (λ (f : ℕ → Gateway). gateway_calm.close_due (f n).phase ≡ None) (sym gates) (shows.gate_idle n none);
    gates_calm = λ n is. subst (λ (f : ℕ → Gateway). gateway_calm.IsCalm (f n)) (sym gates) (shows.calm.gates n);
    streams = λ j is. ⊎_elim
        (λ at. subst (λ (i : ℕ). RestsAmong z.gates (z.plain i)) (sym at)
        (rests (subst (λ (i : ℕ). resting i (z.plain i) ≡ true) at is)))
        (λ apart. subst (RestsAmong z.gates) (sym (others j apart))
        (subst (λ (f : ℕ → Gateway). RestsAmong f (x.plain j)) (sym gates) (shows.calm.streams j)))
        (cases_eq j l);
    wanting = λ j is stage. ⊎_elim
        (λ at. subst (λ (i : ℕ). IfThrough (key_of (z.plain i).aim) (NoneOffersAmong z.gates)) (sym at)
        (waits (subst (λ (i : ℕ). waiting i ≡ true) at is) (subst (λ (i : ℕ). (z.plain i).stage ≡ due) at stage)))
        (λ apart. subst (λ (w : Captured). IfThrough (key_of w.aim) (NoneOffersAmong z.gates)) (sym (others j apart))
        (subst (λ (f : ℕ → Gateway). IfThrough (key_of (x.plain j).aim) (NoneOffersAmong f)) (sym gates)
        (shows.wanting j (ap (λ (w : Captured). w.stage) (sym (others j apart)) ∙ stage))))
        (cases_eq j l);
  }

-- the counts behind a part of a link, by those of the code
abbrev pub counts_by : Relays → Machine → ℕ → Part → Routing
counts_by k x l p = rerouted (x.plain l) (next (plain_local x l) p).link (code_routing k.routes)

-- One link went on from where it is, by itself: of whether it waits for one to its gateway, and of its stream, nothing is known
pub record GoesAt (g : NodeConfig) (l : ℕ) (y : Machine) (k : Relays) (told now : Told) : Type 0 where
  pub comes : Comes (but l) (not_link l) all g y k told now
  pub others : (j : ℕ) → j ≢ l → comes.reached.plain j ≡ y.plain j
  pub gates : comes.reached.gates ≡ y.gates
  pub begun : is_begun (y.plain l).stage ≡ true → is_begun (comes.reached.plain l).stage ≡ true
  pub bare : IsBare (y.plain l) → IsBare (comes.reached.plain l)
  pub gate : (comes.reached.plain l).gate ≡ (y.plain l).gate

-- Of a run whose links the code showed, and behind which a part of a link comes: where the code of that link reaches one with what
-- follows, the code of all links does so with it in the place of the old one
module _ (g : NodeConfig) (k : Relays) (l : ℕ) (p : Part) (new : Relay) (ups : Index) (routes : Routes) (told now : Told)
    (made : Option Note) (x y : Machine) (shows : ShowsRelays g k (outward x)) (steps : Steps g x (of_plain l p) y) where
  pub behind : plain_local y l ≡ next (plain_local x l) p
  behind = ap (λ (w : Machine). plain_local w l) steps.2 ∙ here g x l p steps.1

  pub apart_from : (j : ℕ) → j ≢ l → y.plain j ≡ x.plain j
  apart_from j apart = ap (λ (w : Machine). w.plain j) steps.2 ∙ there x l p (next_link (x.plain l) p) j apart

  pub counted_so : routing_of g y ≡ counts_by k x l p
  counted_so =
      ap (routing_of g) steps.2 ∙ counts g x l p steps.1
      ∙ ap (rerouted (x.plain l) (next (plain_local x l) p).link) (sym shows.counted)

  -- the link itself
  pub link_next : (y.plain l) ≡ next_link (x.plain l) p
  link_next = ap (λ (c : Local). c.link) (behind ∙ turned g x l p steps.1 (plain_local x l))

  pub reaches : new.number ≡ l → l < 2 ^ 64
      → relay.Reaches relay.IsInner l (counts_by k x l p) (next (plain_local x l) p) new (code_routing routes) made
      → Takes told (note_if made) now → (next_link (x.plain l) p).closed ≡ false
      → ((z : ℕ → Captured) → ((j : ℕ) → j ≢ l → z j ≡ x.plain j) → (z l).up ≡ (next_link (x.plain l) p).up → IsIndex ups z)
      → GoesAt g l y (touched_at l (routes_with routes (relays_with (insert k.relays l new) ups k))) told now
  reaches number narrow last takes opens index =
      let at_y : relay.Leads relay.IsInner l (routing_of g y) (plain_local y l) last.parts last.reached (code_routing routes) =
      subst (λ (by : Routing). relay.Leads relay.IsInner l by (plain_local y l) last.parts last.reached (code_routing routes)) (sym counted_so)
      (subst (λ (c : Local). relay.Leads relay.IsInner l (counts_by k x l p) c last.parts last.reached (code_routing routes)) (sym behind)
      last.leads) in
      let then = lifted g l y last.parts last.reached (code_routing routes) at_y in
      let z = then.y.plain in
      let link_is : z l ≡ last.reached.link = ap (λ (c : Local). c.link) then.here in
      let stays = leads_stay l (counts_by k x l p) (next (plain_local x l) p) last.parts last.reached (code_routing routes) last.leads in
      let link_then : (next (plain_local x l) p).link ≡ next_link (x.plain l) p =
      ap (λ (c : Local). c.link) (turned g x l p steps.1 (plain_local x l)) in
      let others : (j : ℕ) → j ≢ l → z j ≡ x.plain j = λ j apart. then.others j apart ∙ apart_from j apart in
      let closed_is : last.reached.link.closed ≡ false = stays.closed ∙ ap (λ (c : Captured). c.closed) link_then ∙ opens in
      record {
        comes = record {
          more = map (of_plain l) last.parts;
          reached = then.y;
          leads = then.leads;
          shows = shown_then g k l (insert k.relays l new) ups routes (outward x) (outward then.y) (but_all g l k (outward x) shows)
              (put_elsewhere k.relays l new) others (then.gates ∙ ap (λ (w : Machine). w.gates) steps.2) (sym then.counted)
              (but l) (not_link l) narrow
              (subst (λ (o : Option Relay). ShowsRelay l o (z l)) (sym (put_here k.relays l new))
              (subst (λ (w : Captured). ShowsRelay l (Some new) w) (sym link_is)
              (number, last.shows, there_by new last.reached.link last.shows closed_is)))
              (index z others (ap (λ (w : Captured). w.up) link_is ∙ stays.up ∙ ap (λ (c : Captured). c.up) link_then))
              (λ other stage. absurd (apart_of l l other refl)) (λ other. absurd (apart_of l l other refl));
          noted = subst (λ (ns : List Note). Takes told ns now) (sym (notes_of l last.parts))
              (subst (λ (ns : List Note). Takes told ns now) (sym last.noted) takes);
        };
        others = then.others;
        gates = then.gates;
        begun = λ is. ap (λ (w : Captured). is_begun w.stage) link_is
            ∙ leads_begun l (routing_of g y) (plain_local y l) last.parts last.reached (code_routing routes) at_y is;
        bare = λ is. subst IsBare (sym link_is)
            (leads_bare l (routing_of g y) (plain_local y l) last.parts last.reached (code_routing routes) at_y is);
        gate = ap (λ (w : Captured). w.gate) link_is
            ∙ leads_gate l (routing_of g y) (plain_local y l) last.parts last.reached (code_routing routes) at_y;
      }

-- where it waits for none that is known of all links; where it has no stream too all is known
pub waits_none : (g : NodeConfig) (l : ℕ) (y : Machine) (k : Relays) (told now : Told) (goes : GoesAt g l y k told now)
    → (goes.comes.reached.plain l).stage ≢ due → ShowsSome all (not_link l) all g k (outward goes.comes.reached)
waits_none g l y k told now goes undue =
    let shows = goes.comes.shows in
    record {
      relays = shows.relays;
      index = shows.index;
      numbered = shows.numbered;
      idle = shows.idle;
      counted = shows.counted;
      gates = shows.gates;
      gate_numbered = shows.gate_numbered;
      gate_idle = shows.gate_idle;
      gates_calm = shows.gates_calm;
      streams = shows.streams;
      wanting = λ j is stage. ⊎_elim
          (λ at. absurd (undue (subst (λ (i : ℕ). (goes.comes.reached.plain i).stage ≡ due) at stage)))
          (λ apart. shows.wanting j (apart_is j l apart) stage) (cases_eq j l);
    }

pub goes_whole : (g : NodeConfig) (l : ℕ) (y : Machine) (k : Relays) (told now : Told) (goes : GoesAt g l y k told now)
    → (goes.comes.reached.plain l).stage ≢ due → (y.plain l).gate ≡ 0 → Follows g y k told now
goes_whole g l y k told now goes undue raw =
    let z = goes.comes.reached in
    let shows = waits_none g l y k told now goes undue in
    record {
      more = goes.comes.more;
      reached = z;
      leads = goes.comes.leads;
      shows = record {
        relays = shows.relays;
        index = shows.index;
        numbered = shows.numbered;
        idle = shows.idle;
        counted = shows.counted;
        gates = shows.gates;
        gate_numbered = shows.gate_numbered;
        gate_idle = shows.gate_idle;
        calm = record {
          gates = λ n. shows.gates_calm n refl;
          streams = λ j. ⊎_elim
              (λ at. subst (λ (i : ℕ). RestsAmong z.gates (z.plain i)) (sym at) (raw_rests z.gates (z.plain l) (goes.gate ∙ raw)))
              (λ apart. shows.streams j (apart_is j l apart)) (cases_eq j l);
        };
        wanting = λ j. shows.wanting j refl;
      };
      noted = goes.comes.noted;
    }

pub goes_begun : (g : NodeConfig) (l : ℕ) (y : Machine) (k : Relays) (told now : Told) → GoesAt g l y k told now
    → is_begun (y.plain l).stage ≡ true → (y.plain l).gate ≡ 0 → Follows g y k told now
goes_begun g l y k told now goes begun raw =
    goes_whole g l y k told now goes (begun_undue (goes.comes.reached.plain l).stage (goes.begun begun)) raw

-- A CALL OF A LINK THAT THE CODE HAS, with another index of upstreams; or with the same, where it isn't the birth or the close of one

-- what it is to all links, where the point may come
abbrev pub MeetsAt : (Resources → Type 0) → ℕ → Part → Relays → Told → Relays → Told → Type 0
MeetsAt P l p old told new now =
    (g : NodeConfig) (x y : Machine) (points : List Point) → StandsFor g x points → ShowsRelays g old (outward x) → P x.control.held
    → Steps g x (of_plain l p) y → GoesAt g l y new told now

pub lifts_with : (P : Resources → Type 0) (k : Relays) (l : ℕ) (old new : Relay) (ups : Index) (routes : Routes) (told now : Told)
    (made : Option Note) (p : ℕ → Part) → get k.relays l ≡ Some old
    → ((g : NodeConfig) (x y : Machine) (points : List Point) → StandsFor g x points → ShowsRelays g k (outward x)
    → Steps g x (of_plain l (p l)) y → (z : ℕ → Captured) → ((j : ℕ) → j ≢ l → z j ≡ x.plain j)
    → (z l).up ≡ (next_link (x.plain l) (p l)).up → IsIndex ups z)
    → ((x : Captured) → (next_link x (p l)).closed ≡ x.closed)
    → relay.Meets P (p old.number) old (code_routing k.routes) new (code_routing routes) made → Takes told (note_if made) now
    → MeetsAt P l (p l) k told (touched_at l (routes_with routes (relays_with (insert k.relays l new) ups k))) now
lifts_with P k l old new ups routes told now made p is index closed meets takes g x y points stands shows holds steps =
    let shown = kept_shown k x.plain l old shows.relays is in
    let number = shown.0 in
    let a = plain_local x l in
    let does = subst (λ (i : ℕ). relay.Meets P (p i) old (code_routing k.routes) new (code_routing routes) made) number meets in
    let one = does.reaches (at_start g) (plain_of l points) a
    (subst (λ (i : ℕ). captured.StandsFor i (at_start g) a (plain_of l points)) (sym number) (plain_runs g x points l stands))
    shown.1 holds (subst (λ (i : ℕ). captured.MayGo i a (p l)) (sym number) steps.0) in
    reaches g k l (p l) new ups routes told now made x y shows steps (does.number ∙ number) (shows.numbered l (ap is_some is))
    (subst (λ (i : ℕ). relay.Reaches relay.IsInner i (counts_by k x l (p l)) (next a (p l)) new (code_routing routes) made) number one)
    takes
    (closed (x.plain l) ∙ opens_by (x.plain l).stage (x.plain l).closed shown.2)
    (index g x y points stands shows steps)

pub lifts : (P : Resources → Type 0) (k : Relays) (l : ℕ) (old new : Relay) (routes : Routes) (told now : Told) (made : Option Note)
    (p : ℕ → Part) → get k.relays l ≡ Some old → ((x : Captured) → Stays x (next_link x (p l)))
    → relay.Meets P (p old.number) old (code_routing k.routes) new (code_routing routes) made → Takes told (note_if made) now
    → MeetsAt P l (p l) k told (touched_at l (routes_with routes (relays_with (insert k.relays l new) k.ups k))) now
lifts P k l old new routes told now made p is stays meets takes =
    lifts_with P k l old new k.ups routes told now made p is
    (λ g x y points stands shows steps z others up.
    same_ups k.ups x.plain z (ups_same x.plain z l others (up ∙ (stays (x.plain l)).up)) shows.index)
    (λ x. (stays x).closed) meets takes

-- where the link waits for no dial behind the point, and has no stream
pub meets_begun : (P : Resources → Type 0) (l : ℕ) (p : Part) (k new : Relays) (told now : Told)
    → ((g : NodeConfig) (x y : Machine) (points : List Point) → StandsFor g x points → ShowsRelays g k (outward x)
    → Steps g x (of_plain l p) y → (is_begun (next_link (x.plain l) p).stage ≡ true) × ((next_link (x.plain l) p).gate ≡ 0))
    → MeetsAt P l p k told new now → Meets (λ x. P x.control.held) (of_plain l p) k told new now
meets_begun P l p k new told now facts meets g x y points stands shows holds steps =
    let goes = meets g x y points stands shows holds steps in
    let are = facts g x y points stands shows steps in
    let is : y.plain l ≡ next_link (x.plain l) p =
    ap (λ (w : Machine). w.plain l) steps.2 ∙ ap (λ (c : Local). c.link) (here g x l p steps.1 ∙ turned g x l p steps.1 (plain_local x l)) in
    goes_begun g l y new told now goes (ap (λ (w : Captured). is_begun w.stage) is ∙ are.0) (ap (λ (w : Captured). w.gate) is ∙ are.1)
