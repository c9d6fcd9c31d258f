-- The points of a run of the whole proxy, in order: each is of the control plane, of one inbound link with its tunnels, of one plain link
-- with its upstream, of one link to a gateway, or of a plain link and its stream of such a link.
use Rattle.std.specs.Prelude.{ℕ, ◌==◌, if◌then◌else◌, List, [], ◌∷◌}
use Rattle.std.specs.List.{flat_map}
use Rattle.hb_captured.specs.Part as captured
use Rattle.hb_gateway.specs.Part as gateway
use Rattle.hb_inbound.specs.Part as part
use Rattle.hb_inbound.specs.Part.{Part}
use Rattle.hb_model.specs.Point as model
use Rattle.hb_world.specs.declared.entry.Entry.{Entry}
use Rattle.hb_proxy.specs.Shared.{Shared, captured_part, gateway_part}

pub data Point : Type 0 where
  -- a point of the links to the control plane; also an entry of no link, as a tick, and the end of the run
  of_control : model.Point → Point
  -- this happens to the inbound link of this number
  of_link : (link : ℕ) → Part → Point
  -- and to the plain link of this one
  of_plain : (link : ℕ) → captured.Part → Point
  -- and to the link to a gateway of this one
  of_gate : (gate : ℕ) → gateway.Part → Point
  -- this happens to a plain link and to its stream
  of_stream : (link gate stream : ℕ) → Shared → Point

-- the trace of a run
abbrev pub entry_in : Point → List Entry
entry_in (of_control q) = model.entry_in q
entry_in (of_link l p) = part.entry_in p
entry_in (of_plain l p) = captured.entry_in p
entry_in (of_gate g p) = gateway.entry_in p
entry_in (of_stream l g s w) = []

abbrev pub entries : List Point → List Entry
entries points = flat_map entry_in points

-- the control plane's points
abbrev pub control_in : Point → List model.Point
control_in (of_control q) = q ∷ []
control_in (of_link l p) = []
control_in (of_plain l p) = []
control_in (of_gate g p) = []
control_in (of_stream l g s w) = []

abbrev pub control_of : List Point → List model.Point
control_of points = flat_map control_in points

-- what every inbound link sees of them: a response that is applied, and the end of the run
abbrev pub seen : model.Point → List Part
seen (model.applied l r) = part.applied r ∷ []
seen (model.stopped cause) = part.stopped cause ∷ []
seen _ = []

-- what happens to an inbound link
abbrev pub part_in : ℕ → Point → List Part
part_in link (of_control q) = seen q
part_in link (of_link l p) = if l == link then p ∷ [] else []
part_in link (of_plain l p) = []
part_in link (of_gate g p) = []
part_in link (of_stream l g s w) = []

abbrev pub parts_of : ℕ → List Point → List Part
parts_of link points = flat_map (part_in link) points

-- the same of a plain link
abbrev pub plain_seen : model.Point → List captured.Part
plain_seen (model.applied l r) = captured.applied r ∷ []
plain_seen (model.stopped cause) = captured.stopped cause ∷ []
plain_seen _ = []

abbrev pub plain_in : ℕ → Point → List captured.Part
plain_in link (of_control q) = plain_seen q
plain_in link (of_link l p) = []
plain_in link (of_plain l p) = if l == link then p ∷ [] else []
plain_in link (of_gate g p) = []
plain_in link (of_stream l g s w) = if l == link then captured_part g s w ∷ [] else []

abbrev pub plain_of : ℕ → List Point → List captured.Part
plain_of link points = flat_map (plain_in link) points

-- and of a link to a gateway: of the control plane's it sees the end of the run
abbrev pub gate_seen : model.Point → List gateway.Part
gate_seen (model.stopped cause) = gateway.stopped cause ∷ []
gate_seen _ = []

abbrev pub gate_in : ℕ → Point → List gateway.Part
gate_in link (of_control q) = gate_seen q
gate_in link (of_link l p) = []
gate_in link (of_plain l p) = []
gate_in link (of_gate g p) = if g == link then p ∷ [] else []
gate_in link (of_stream l g s w) = if g == link then gateway_part l s w ∷ [] else []

abbrev pub gates_of : ℕ → List Point → List gateway.Part
gates_of link points = flat_map (gate_in link) points
