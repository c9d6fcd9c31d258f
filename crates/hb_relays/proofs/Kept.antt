-- How many plain links, and links to gateways, count: those that are kept, where nothing is due.
use Rattle.std.proofs.Common.{◌≡◌, ℕ, ◌^◌, true, false, Option, Some, None, is_some, refl, sym, ◌∙◌}
use Rattle.std.proofs.lemmas.Bool.{false≢true}
use Rattle.std.specs.FinMap.{get}
use Rattle.hb_captured.specs.Calm.{IsCalmBy, IsIdleBy, IsQuiet}
use Rattle.hb_captured.specs.Captured as m
use Rattle.hb_captured.specs.Captured.{Captured, Stage}
use Rattle.hb_gate.specs.declared.gate.Gate.{Gate}
use Rattle.hb_gateway.specs.Calm.{close_due}
use Rattle.hb_gateway.specs.Gateway as gateway
use Rattle.hb_gateway.specs.Gateway.{Gateway, Phase, carries}
use Rattle.hb_model.specs.declared.config.NodeConfig.{NodeConfig}
use Rattle.hb_proxy.proofs.Kept.{kept_count}
use Rattle.hb_proxy.specs.Load.{is_placed, CountsTo, gates_below, plain_below}
use Rattle.hb_proxy.specs.Machine.{Machine, outward}
use Rattle.hb_proxy.specs.Seen.{IsPlainThereBy, IsGateThere}
use Rattle.hb_relay.specs.declared.relay.Relay.{Relay}
use Rattle.hb_relays.specs.Calls.{count_of, gate_count}
use Rattle.hb_relays.specs.Shows.{IsAwayBy, IsGateAway, ShowsGate, ShowsRelay, ShowsRelays}
use Rattle.hb_relays.specs.declared.relays.Relays.{Relays}

-- PLAIN LINKS

away_free : (stage : Stage) (x : Captured) → IsAwayBy stage x → is_placed stage ≡ false
away_free m.unborn x away = refl
away_free (m.over why) x away = refl
away_free m.arriving x away = absurd away
away_free m.fronting x away = absurd away
away_free m.due x away = absurd away
away_free m.opening x away = absurd away
away_free m.accepting x away = absurd away
away_free m.live x away = absurd away
away_free (m.failed why) x away = absurd away
away_free (m.ended why) x away = absurd away

there_placed : (stage : Stage) (x : Captured) → IsCalmBy stage x → IsIdleBy stage x → IsPlainThereBy stage x.closed
    → is_placed stage ≡ true
there_placed m.unborn x calm idle there = absurd there
there_placed m.arriving x calm idle there = refl
there_placed m.fronting x calm idle there = refl
there_placed m.due x calm idle there = refl
there_placed m.opening x calm idle there = refl
there_placed m.accepting x calm idle there = refl
there_placed m.live x calm idle there = refl
there_placed (m.failed why) x calm idle there = absurd calm
there_placed (m.ended why) x calm idle there = absurd calm
there_placed (m.over why) x calm idle there = absurd (false≢true (sym there ∙ idle.0))

placed_at : (l : ℕ) (o : Option Relay) (x : Captured) → ShowsRelay l o x → IsQuiet x → is_placed x.stage ≡ is_some o
placed_at l None x shown quiet = away_free x.stage x shown
placed_at l (Some k) x shown quiet = there_placed x.stage x quiet.0 quiet.1 shown.2

pub plain_counted : (g : NodeConfig) (k : Relays) (x : Machine) → ShowsRelays g k (outward x) → ((l : ℕ) → IsQuiet (x.plain l))
    → CountsTo (plain_below x) (count_of k)
plain_counted g k x shows quiet =
    kept_count k.relays (λ l. is_placed (x.plain l).stage) (2 ^ 64) shows.numbered
    (λ l. placed_at l (get k.relays l) (x.plain l) (shows.relays l) (quiet l))

-- LINKS TO GATEWAYS

gone_free : (phase : Phase) → IsGateAway phase → carries phase ≡ false
gone_free gateway.unborn away = refl
gone_free gateway.closed away = refl
gone_free gateway.opening away = absurd away
gone_free gateway.serving away = absurd away
gone_free (gateway.faulted code) away = absurd away
gone_free (gateway.closing why) away = absurd away

there_carries : (phase : Phase) → close_due phase ≡ None → IsGateThere phase → carries phase ≡ true
there_carries gateway.unborn none there = absurd there
there_carries gateway.closed none there = absurd there
there_carries gateway.opening none there = refl
there_carries gateway.serving none there = refl
there_carries (gateway.faulted code) none there = absurd cc
there_carries (gateway.closing why) none there = absurd cc

carries_at : (n : ℕ) (o : Option Gate) (y : Gateway) → ShowsGate n o y → close_due y.phase ≡ None → carries y.phase ≡ is_some o
carries_at n None y shown none = gone_free y.phase shown
carries_at n (Some k) y shown none = there_carries y.phase none shown.2

pub gates_counted : (g : NodeConfig) (k : Relays) (x : Machine) → ShowsRelays g k (outward x)
    → ((n : ℕ) → close_due (x.gates n).phase ≡ None) → CountsTo (gates_below x) (gate_count k)
gates_counted g k x shows none =
    kept_count k.gates (λ n. carries (x.gates n).phase) (2 ^ 64) shows.gate_numbered
    (λ n. carries_at n (get k.gates n) (x.gates n) (shows.gates n) (none n))
