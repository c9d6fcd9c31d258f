-- A link that leaves its stream: what follows by itself on it, and on the link to a gateway, follows in the whole.
use Rattle.std.proofs.Common.{◌≡◌, ◌≢◌, inl, inr, ℕ, ◌==◌, Bool, true, false, cond, List, [], ◌∷◌, ◌++◌, map, Option, Some, None, refl, ap, sym, ◌∙◌, subst}
use Rattle.std.proofs.lemmas.Bool.{eq-eqb, eqb-true, ne_eqb, true≢false}
use Rattle.std.specs.FinMap.{get}
use Rattle.hb_base.specs.declared.note.Note.{Note}
use Rattle.hb_captured.specs.Answer.{Routing}
use Rattle.hb_base.specs.declared.cause.Cause.TheVariants as cause
use Rattle.hb_captured.specs.Captured.{Captured, Stage, ends_by, is_raw}
use Rattle.hb_captured.specs.Part as part
use Rattle.hb_captured.specs.Part.{Part, loosed}
use Rattle.hb_captured.specs.Runs.{HasEnded, IsTried, Local, MayGo, next, next_link}
use Rattle.hb_gateway.specs.Gateway.{Gateway}
use Rattle.hb_gateway.specs.Runs as gateways
use Rattle.hb_link.specs.Noted.{Told}
use Rattle.hb_model.specs.declared.config.NodeConfig.{NodeConfig}
use Rattle.hb_proxy.specs.Machine.{Machine, plain_local, with_plain, with_stream}
use Rattle.hb_proxy.specs.Notes.{notes}
use Rattle.hb_proxy.specs.Points.{Point, of_plain, of_stream}
use Rattle.hb_proxy.specs.Runs.{IsStreamOf, StreamGuard, routing_of}
use Rattle.hb_proxy.specs.Shared.{Shared, captured_part, drops, gateway_part}
use Rattle.hb_relay.specs.Calls as calls
use Rattle.hb_relay.specs.Reaches as relay
use Rattle.hb_relay.specs.Reaches.{leaving, rerouted}
use Rattle.hb_relay.specs.Streamed.{HasStream}
use Rattle.hb_relay.specs.declared.relay.Relay.{Relay}
use Rattle.hb_world.specs.declared.entry.Entry.TheVariants as e
use Rattle.hb_relays.specs.Reaches.{Leads, Meets, any}
use Rattle.hb_relays.specs.declared.relays.Relays.{Relays}
use Rattle.hb_relays.proofs.Lifted.{counts, here, inner_guard, lifted, notes_of, there}
use Rattle.hb_relays.proofs.Showing.{MeetsAt, kept_shown, meets_begun}
use Rattle.hb_relays.proofs.Staying.{inner_gate, inner_stream, is_begun}

-- one that has no stream leaves none
pub unleft : (m l : ℕ) (routing : Routing) (a : Local) (parts : List Part) (b : Local) (behind : Routing) → is_raw a.link ≡ true
    → relay.Leads (leaving m) l routing a parts b behind → relay.Leads relay.IsInner l routing a parts b behind
unleft m l routing a [] b behind raw leads = leads
unleft m l routing a (p ∷ parts) b behind raw (inl inner, routed, may, more) = (
  inner,
  routed,
  may,
  unleft m l (rerouted a.link (next a p).link routing) (next a p) parts b behind
      (ap (λ (n : ℕ). n == 0) (inner_gate a p inner) ∙ raw) more,
)
unleft m l routing a (p ∷ parts) b behind raw (inr leaves, routed, may, more) = absurd (by p leaves may)
  where
    by : (p : Part) → relay.IsLeaving m p → MayGo l a p → ⊥
    by (loosed k) leaves may = true≢false (sym raw ∙ may.0)
    by p leaves may = absurd leaves

-- what happens to a link and its stream leaves the stream, behind so many bytes that have begun to go there
pub record Leaves (l n s m : ℕ) (w : Shared) : Type 0 where
  pub may : (a : Local) → MayGo l a (loosed m) → MayGo l a (captured_part n s w)
  pub next : (x : Captured) → HasEnded x.stage → next_link x (captured_part n s w) ≡ next_link x (loosed m)
  pub guard : (x : Machine) → IsStreamOf x l n s → StreamGuard x l n s w
  pub noted : part.note_in (captured_part n s w) ≡ []

-- so it is where the link gives it up
pub dropping : (l n s m : ℕ) → Leaves l n s m (drops m)
dropping l n s m = record { may = λ a may. may; next = λ x ended. refl; guard = λ x of. of; noted = refl }

-- the whole goes on so, and the stream is left on the way
pub record Left (g : NodeConfig) (l n : ℕ) (w : Gateway) (x : Machine) (b : Local) (behind : Routing) (parts : List Part) : Type 0 where
  pub y : Machine
  pub more : List Point
  pub leads : Leads g x more y
  pub here : plain_local y l ≡ b
  pub counted : routing_of g y ≡ behind
  pub others : (k : ℕ) → k ≢ l → y.plain k ≡ x.plain k
  pub gate : y.gates n ≡ w
  pub gates : (k : ℕ) → k ≢ n → y.gates k ≡ x.gates k
  pub noted : notes more ≡ part.notes parts

module _ (g : NodeConfig) (l n s m : ℕ) (shared : Shared) (leaves : Leaves l n s m shared) (w : Gateway) (b : Local) (behind : Routing)
    (raw : is_raw b.link ≡ true) where
  pub lefts : (x : Machine) (parts : List Part) → relay.Leads (leaving m) l (routing_of g x) (plain_local x l) parts b behind
      → is_raw (x.plain l) ≡ false → (x.plain l).gate ≡ n → (x.plain l).stream ≡ s
      → gateways.Steps n (x.gates n) (gateway_part l s shared) w → Left g l n w x b behind parts
  lefts x [] leads on at number step = absurd (true≢false (sym raw ∙ ap (λ (a : Local). is_raw a.link) leads.0 ∙ on))
  lefts x (p ∷ parts) (inl inner, routed, may, more) on at number step =
      let guard = inner_guard g x l p inner routed in
      let z = with_plain l p (next_link (x.plain l) p) x in
      let z_is : plain_local z l ≡ next (plain_local x l) p = here g x l p guard in
      let rest = lefts z parts
      (subst (λ (by : Routing). relay.Leads (leaving m) l by (plain_local z l) parts b behind) (sym (counts g x l p guard))
      (subst (λ (a : Local). relay.Leads (leaving m) l (rerouted (x.plain l) (next (plain_local x l) p).link (routing_of g x)) a parts b
      behind) (sym z_is) more))
      (ap (λ (a : Local). is_raw a.link) z_is ∙ ap (λ (i : ℕ). i == 0) (inner_gate (plain_local x l) p inner) ∙ on)
      (ap (λ (a : Local). a.link.gate) z_is ∙ inner_gate (plain_local x l) p inner ∙ at)
      (ap (λ (a : Local). a.link.stream) z_is ∙ inner_stream (plain_local x l) p inner ∙ number) step in
      record {
        y = rest.y;
        more = of_plain l p ∷ rest.more;
        leads = (inner, z, (may, guard, refl), rest.leads);
        here = rest.here;
        counted = rest.counted;
        others = λ k apart. rest.others k apart ∙ there x l p (next_link (x.plain l) p) k apart;
        gate = rest.gate;
        gates = rest.gates;
        noted = ap (λ (ns : List Note). part.note_in p ++ ns) rest.noted;
      }
  lefts x (loosed k ∷ parts) (inr same, routed, may, more) on at number step =
      let now = next_link (x.plain l) (captured_part n s shared) in
      let now_is : now ≡ next_link (x.plain l) (loosed k) =
      leaves.next (x.plain l) may.1 ∙ ap (λ (i : ℕ). next_link (x.plain l) (loosed i)) (sym same) in
      let z = with_stream l n now w x in
      let here_is : z.plain l ≡ next_link (x.plain l) (loosed k) =
      ap (λ (t : Bool). cond t now (x.plain l)) (eq-eqb l l refl) ∙ now_is in
      let then = lifted g l z parts b behind
      (subst (λ (by : Routing). relay.Leads relay.IsInner l by (plain_local z l) parts b behind)
      (ap (λ (c : Captured). rerouted (x.plain l) c (routing_of g x)) (sym now_is))
      (subst (λ (a : Local). relay.Leads relay.IsInner l (rerouted (x.plain l) (next_link (x.plain l) (loosed k)) (routing_of g x)) a parts
      b behind) (ap (λ (c : Captured). record { held = x.control.held; link = c }) (sym here_is))
      (unleft m l (rerouted (x.plain l) (next_link (x.plain l) (loosed k)) (routing_of g x)) (next (plain_local x l) (loosed k)) parts b
      behind refl more))) in
      record {
        y = then.y;
        more = of_stream l n s shared ∷ map (of_plain l) parts;
        leads = (
          tt,
          z,
          (leaves.may (plain_local x l) may, w, step, leaves.guard x (record { gate = at; number = number }), refl),
          then.leads,
        );
        here = then.here;
        counted = then.counted;
        others = λ j apart. then.others j apart ∙ ap (λ (t : Bool). cond t now (x.plain j)) (ne_eqb j l apart);
        gate = ap (λ (f : ℕ → Gateway). f n) then.gates ∙ ap (λ (t : Bool). cond t w (x.gates n)) (eq-eqb n n refl);
        gates = λ j apart. ap (λ (f : ℕ → Gateway). f j) then.gates ∙ ap (λ (t : Bool). cond t w (x.gates j)) (ne_eqb j n apart);
        noted = ap (λ (ns : List Note). ns ++ notes (map (of_plain l) parts)) leaves.noted ∙ notes_of l parts;
      }
  lefts x (p ∷ parts) (inr none, routed, may, more) on at number step = absurd none

-- A CALL ON A LINK THAT HAS NO STREAM FAILED

-- what follows is what follows by itself
pub broke_raw : (old new : Relay) (before behind : Routing) (made : Option Note)
    → calls.EntersLeaving 0 (e.Broke old.number) old before new behind made
    → HasStream old None → relay.Meets calls.any (part.entry (e.Broke old.number)) old before new behind made
broke_raw old new before behind made enters none =
    let leaves = enters 0 refl in
    record {
      number = leaves.number;
      reaches = λ start parts a stands shows holds may.
          (let last = leaves.reaches start parts a stands shows holds may in
          let z = part.entry (e.Broke old.number) in
          record {
            parts = last.parts;
            reached = last.reached;
            leads = unleft 0 old.number (rerouted a.link (next a z).link before) (next a z) last.parts last.reached behind
                (none a.link shows) last.leads;
            shows = last.shows;
            noted = last.noted;
          });
    }

broke_tried : (x : Captured) → IsTried x → is_begun (ends_by cause.PeerGone x.stage) ≡ true
broke_tried x (inl at) = ap (λ (s : Stage). is_begun (ends_by cause.PeerGone s)) at.1
broke_tried x (inr (inl at)) = ap (λ (s : Stage). is_begun (ends_by cause.PeerGone s)) at.1
broke_tried x (inr (inr at)) = ap (λ (s : Stage). is_begun (ends_by cause.PeerGone s)) at.1

pub own_broke : (k m : Relays) (n : ℕ) (old : Relay) (told now : Told) → get k.relays n ≡ Some old → HasStream old None
    → MeetsAt calls.any n (part.entry (e.Broke n)) k told m now → Meets any (of_plain n (part.entry (e.Broke n))) k told m now
own_broke k m n old told now is none meets =
    meets_begun calls.any n (part.entry (e.Broke n)) k m told now
    (λ g x y points stands shows steps. (
      broke_tried (x.plain n) steps.0.1,
      eqb-true (x.plain n).gate 0 (none (x.plain n) (kept_shown k x.plain n old shows.relays is).1),
    )) meets
