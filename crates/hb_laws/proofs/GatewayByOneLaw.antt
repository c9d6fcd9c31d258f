-- Bytes that a gateway didn't bring are refused by one law, whatever stands in front.
use Rattle.std.proofs.Common.{◌≡◌, ℕ, ◌==◌, Bool, true, false, cond, List, [], ◌∷◌, ◌++◌, refl, ap, sym, ◌∙◌, subst}
use Rattle.std.proofs.lemmas.List.{append-nil, append_assoc}
use Rattle.std.proofs.lemmas.List.Concat.{flat_map-append}
use Rattle.std.specs.List.{flat_map}
use Rattle.hb_gateway.proofs.Grown.{more_moves}
use Rattle.hb_gateway.specs.Part as gateway
use Rattle.hb_gateway.specs.Part.{Part, moves, moves_in, left_of}
use Rattle.hb_gateway.specs.Sides.{came_on}
use Rattle.hb_inbound.specs.Sides.{data_by}
use Rattle.hb_model.proofs.Grown.{one_more}
use Rattle.hb_model.specs.Point as point
use Rattle.hb_proxy.specs.Points.{Point, of_control, of_link, of_plain, of_gate, of_stream, entry_in, entries, gate_in, gates_of}
use Rattle.hb_proxy.specs.Relay.{RelayLaw}
use Rattle.hb_proxy.specs.Streams.{IsAsked}
use Rattle.hb_world.specs.Trace.{sent}
use Rattle.hb_world.specs.declared.entry.Entry.{Entry}
use Rattle.hb_world.specs.declared.entry.Entry.TheVariants as e
use Rattle.hb_laws.specs.RefusedGateways.{GoesUnbrought, ChangesBrought}
use Rattle.hb_laws.specs.RefusedTunnels.{RefusedBy, Relays}
use Rattle.hb_laws.proofs.ByOneLaw.{by_one, relays_at, sent_more, other_next}
use Rattle.hb_laws.proofs.Bytes.{not_more}

-- a part that makes moves which bring no DATA of a stream
none_brought : (s : ℕ) (parts : List Part) (q : Part) (b : Bool) → flat_map (data_by s) (moves_in (left_of parts) q) ≡ []
    → came_on s (parts ++ cond b (q ∷ []) []) ≡ came_on s parts
none_brought s parts q true none =
    ap (flat_map (data_by s)) (more_moves parts q) ∙ flat_map-append (data_by s) (moves parts) (moves_in (left_of parts) q)
    ∙ ap (λ (xs : List ℕ). came_on s parts ++ xs) none ∙ append-nil (came_on s parts)
none_brought s parts q false none = ap (came_on s) (append-nil parts)

-- bytes that go bring none
module _ (n s : ℕ) (parts : List Part) (l : ℕ) (bytes : List ℕ) where
  none_by : (p : Point) → entry_in p ≡ e.Went l bytes ∷ [] → came_on s (parts ++ gate_in n p) ≡ came_on s parts
  none_by (of_control (point.entry en)) is = ap (came_on s) (append-nil parts)
  none_by (of_control _) is = absurd cc
  none_by (of_link k q) is = ap (came_on s) (append-nil parts)
  none_by (of_plain k q) is = ap (came_on s) (append-nil parts)
  none_by (of_gate k (gateway.entry en)) is =
      let same : en ≡ e.Went l bytes = cc in
      subst (λ (z : Entry). came_on s (parts ++ gate_in n (of_gate k (gateway.entry z))) ≡ came_on s parts) (sym same)
      (none_brought s parts (gateway.entry (e.Went l bytes)) (k == n) refl)
  none_by (of_gate k (gateway.dialled en key)) is = none_brought s parts (gateway.dialled en key) (k == n) refl
  none_by (of_gate k _) is = absurd cc
  none_by (of_stream k m t w) is = absurd cc

-- so they are next of what came on the stream
brought_front : (before : List Point) (p : Point) (l n s : ℕ) (bytes : List ℕ) → entry_in p ≡ e.Went l bytes ∷ [] → IsAsked before l n s
    → RelayLaw (before ++ p ∷ [])
    → (rest : List ℕ) × (came_on s (gates_of n before) ≡ (sent l (entries before) ++ bytes) ++ rest)
brought_front before p l n s bytes is asked law =
    let down = law.stream_downs l n s (record {
      authority = asked.authority;
      before = asked.before;
      behind = asked.behind ++ p ∷ [];
      at = ap (λ (ps : List Point). ps ++ p ∷ []) asked.at ∙ append_assoc asked.before (_ ∷ asked.behind) (p ∷ []);
    }) in
    let same = ap (came_on s) (one_more (gate_in n) before p) ∙ none_by n s (gates_of n before) l bytes p is in
    (down.rest, sym same ∙ down.front ∙ ap (λ (xs : List ℕ). xs ++ down.rest) (sent_more before p l bytes is))

pub goes_unbrought : RefusedBy Relays GoesUnbrought
goes_unbrought = by_one Relays GoesUnbrought relays_at (λ g before p z is so law.
    let goes = is ∙ ap (λ (y : Entry). y ∷ []) so.goes in
    let front = brought_front before p so.link so.gate so.stream (so.byte ∷ so.more) goes so.asked law in
    not_more (sent so.link (entries before)) so.more front.0 so.byte (so.all_went ∙ front.1))

pub changes_brought : RefusedBy Relays ChangesBrought
changes_brought = by_one Relays ChangesBrought relays_at (λ g before p z is so law.
    let goes = is ∙ ap (λ (y : Entry). y ∷ []) so.goes in
    let front = brought_front before p so.link so.gate so.stream (so.other ∷ so.more) goes so.asked law in
    other_next (sent so.link (entries before)) so.rest so.more front.0 so.byte so.other so.differs (sym so.came ∙ front.1))
