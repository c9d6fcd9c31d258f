-- The whole proxy as a machine: its links to the control plane, which hold the resources, its inbound links, its plain links, which are
-- those of the plain door and of the outbound one, and its links to gateways, which carry tunnels of plain links.
use Rattle.std.specs.Prelude.{ℕ, ◌==◌, if◌then◌else◌, fold, List}
use Rattle.std.specs.FinMap.{empty}
use Rattle.hb_captured.specs.Captured as captured
use Rattle.hb_captured.specs.Captured.{Captured}
use Rattle.hb_captured.specs.Counts.{counted_with}
use Rattle.hb_captured.specs.Part as captured_part
use Rattle.hb_captured.specs.Runs as captured_runs
use Rattle.hb_gateway.specs.Gateway as gateway
use Rattle.hb_gateway.specs.Gateway.{Gateway}
use Rattle.hb_gateway.specs.Part as gateway_part
use Rattle.hb_gateway.specs.Runs as gateway_runs
use Rattle.hb_held.specs.Held.{Resources}
use Rattle.hb_held.specs.Outcome.{after_response}
use Rattle.hb_inbound.specs.Inbound.{Inbound, no_link, rejudged, stopped_for}
use Rattle.hb_inbound.specs.Part as part
use Rattle.hb_inbound.specs.Part.{Part}
use Rattle.hb_inbound.specs.Runs.{Local}
use Rattle.hb_model.specs.Machine as model
use Rattle.hb_model.specs.Point as point
use Rattle.hb_model.specs.declared.config.NodeConfig.{NodeConfig}
use Rattle.hb_route.specs.Opens.{Counts}
use Rattle.hb_world.specs.declared.entry.Entry.{Entry}
use Rattle.hb_world.specs.declared.entry.Entry.TheVariants as e

pub record Machine : Type 0 where
  pub control : model.Machine
  -- the number of the link that was born last, of whatever part
  pub born : ℕ
  -- each inbound link, by its number; one that is closed stays as it was
  pub inbound : ℕ → Inbound
  -- and each plain link, with its upstream
  pub plain : ℕ → Captured
  -- and each link to a gateway
  pub gates : ℕ → Gateway
  -- how many plain links are connections to each endpoint
  pub opens : Counts

abbrev pub fresh : NodeConfig → Machine
fresh g = record {
  control = model.fresh g;
  born = 0;
  inbound = λ l. no_link;
  plain = λ l. captured.no_link;
  gates = λ l. gateway.no_link;
  opens = empty;
}

-- an inbound link, and what the control plane holds
abbrev pub local : Machine → ℕ → Local
local x l = record { held = x.control.held; link = x.inbound l }

abbrev pub plain_local : Machine → ℕ → captured_runs.Local
plain_local x l = record { held = x.control.held; link = x.plain l }

-- an entry may be a birth
abbrev pub born_by : ℕ → Entry → ℕ
born_by born (e.Accepted l door) = l
born_by born (e.Dialled l to why) = l
born_by born _ = born

abbrev pub born_after : ℕ → List Entry → ℕ
born_after born trace = fold born_by born trace

-- what a point of the control plane makes of an inbound link: each response that is applied judges its tunnels, and the end of the
-- run ends it; and of a plain one
abbrev pub seen_by : Resources → point.Point → Inbound → Inbound
seen_by held (point.applied l r) x = rejudged (after_response held r) x
seen_by held (point.stopped cause) x = stopped_for cause x
seen_by held _ x = x

abbrev pub plain_seen_by : Resources → point.Point → Captured → Captured
plain_seen_by held (point.applied l r) x = captured.rejudged (after_response held r) x
plain_seen_by held (point.stopped cause) x = captured.ends_for cause x
plain_seen_by held _ x = x

-- and of a link to a gateway
abbrev pub gate_seen_by : point.Point → Gateway → Gateway
gate_seen_by (point.stopped cause) x = gateway_runs.stopped_for cause x
gate_seen_by _ x = x

-- behind the end of the run no plain link is a connection to an endpoint
abbrev pub opens_seen : point.Point → Counts → Counts
opens_seen (point.stopped cause) opens = empty
opens_seen _ opens = opens

-- the control plane goes on so by a point, an inbound link by a part, a plain one by a part, a link to a gateway by a part, and a plain
-- link with its stream
abbrev pub with_control : point.Point → model.Machine → Machine → Machine
with_control q next x = record {
  control = next;
  born = born_after x.born (point.entry_in q);
  inbound = λ l. seen_by x.control.held q (x.inbound l);
  plain = λ l. plain_seen_by x.control.held q (x.plain l);
  gates = λ g. gate_seen_by q (x.gates g);
  opens = opens_seen q x.opens;
}

abbrev pub with_part : ℕ → Part → Inbound → Machine → Machine
with_part l p next x = record x {
  born = born_after x.born (part.entry_in p);
  inbound = λ k. if k == l then next else x.inbound k;
}

abbrev pub with_plain : ℕ → captured_part.Part → Captured → Machine → Machine
with_plain l p next x = record x {
  born = born_after x.born (captured_part.entry_in p);
  plain = λ k. if k == l then next else x.plain k;
  opens = counted_with (x.plain l) next x.opens;
}

abbrev pub with_gate : ℕ → gateway_part.Part → Gateway → Machine → Machine
with_gate g p next x = record x {
  born = born_after x.born (gateway_part.entry_in p);
  gates = λ k. if k == g then next else x.gates k;
}

abbrev pub with_stream : (l g : ℕ) → Captured → Gateway → Machine → Machine
with_stream l g next gate x = record x {
  plain = λ k. if k == l then next else x.plain k;
  gates = λ k. if k == g then gate else x.gates k;
  opens = counted_with (x.plain l) next x.opens;
}

-- what goes out by itself: the plain links, the links to gateways, and the counts of connections
pub record Outward : Type 0 where
  pub plain : ℕ → Captured
  pub gates : ℕ → Gateway
  pub opens : Counts

abbrev pub outward : Machine → Outward
outward x = record { plain = x.plain; gates = x.gates; opens = x.opens }
