-- The walk over links that may have an act due.
use Rattle.std.proofs.Common.{◌≡◌, ◌≢◌, inl, ⊎_elim, ℕ, Bool, true, false, Option, Some, None, is_some, IsSome, refl, ap, sym, ◌∙◌, subst}
use Rattle.std.proofs.lemmas.Bool.{false≢true}
use Rattle.std.specs.FinMap.{get}
use Rattle.hb_gate.specs.declared.gate.Gate.{Gate}
use Rattle.hb_gateway.specs.Calm.{close_due}
use Rattle.hb_gateway.specs.Gateway as gateway
use Rattle.hb_gateway.specs.Gateway.{Phase}
use Rattle.hb_model.specs.declared.config.NodeConfig.{NodeConfig}
use Rattle.hb_proxy.specs.Machine.{Outward, outward}
use Rattle.hb_relay.specs.declared.relay.Relay.{Relay}
use Rattle.hb_world.specs.declared.act.Act.{Act}
use Rattle.hb_relays.specs.Acts.{Acts}
use Rattle.hb_relays.specs.Shows.{IsGateAway, IsIdle, ShowsGate, ShowsRelay, ShowsRelays}
use Rattle.hb_relays.specs.Stirring.{Stirs}
use Rattle.hb_relays.specs.Touched.{is_idle, is_touched}
use Rattle.hb_relays.specs.Walks.{ActsOf, GateActs, GoesTo, GoesToGate, KeepsShowing, ShowsBut, ShowsGatesBut}
use Rattle.hb_relays.specs.declared.relays.Relays.{Relays}
use Rattle.hb_relays.proofs.Away.{away_is}
use Rattle.hb_relays.proofs.Stirs.{equal_same, same_stirs}
use Rattle.hb_relays.proofs.Touching.{none_touched}

-- where the walk goes to, others have none as before
module _ (a b : Relays) (next : Option ℕ) (goes : GoesTo next a b) (g : NodeConfig) (x : Outward) (shows : ShowsRelays g a x) where
  others_idle : (l : ℕ) → next ≢ Some l → is_touched b.due l ≡ false → IsIdle (x.plain l)
  others_idle l apart none = by (get a.relays l) refl
    where
      kept : IsSome (get a.relays l) → (before : Bool) → is_touched a.due l ≡ before → IsIdle (x.plain l)
      kept some false was = shows.idle l was
      kept some true was =
          ⊎_elim (λ still. absurd (false≢true (sym none ∙ still))) (λ at. absurd (apart at))
          (goes.1.others l (shows.numbered l some) some was)

      by : (o : Option Relay) → get a.relays l ≡ o → IsIdle (x.plain l)
      by None gone = (away_is (x.plain l) (subst (λ (o : Option Relay). ShowsRelay l o (x.plain l)) gone (shows.relays l))).idle
      by (Some w) found = kept (ap is_some found) (is_touched a.due l) refl

pub goes_but : (a b : Relays) (n : ℕ) → GoesTo (Some n) a b → (g : NodeConfig) (x : Outward) → ShowsRelays g a x → ShowsBut g n b x
goes_but a b n goes g x shows =
    subst (λ (k : Relays). ShowsBut g n k x) (sym goes.0) (record {
      relays = shows.relays;
      index = shows.index;
      numbered = shows.numbered;
      idle = λ l apart none. others_idle a b (Some n) goes g x shows l (λ at. apart (let same : n ≡ l = cc at in sym same)) none;
      counted = shows.counted;
      gates = shows.gates;
      gate_numbered = shows.gate_numbered;
      gate_idle = shows.gate_idle;
      calm = shows.calm;
      wanting = shows.wanting;
    })

pub goes_none : (a b : Relays) → GoesTo None a b → (g : NodeConfig) (x : Outward) → ShowsRelays g a x → ShowsRelays g b x
goes_none a b goes g x shows =
    subst (λ (k : Relays). ShowsRelays g k x) (sym goes.0) (record {
      relays = shows.relays;
      index = shows.index;
      numbered = shows.numbered;
      idle = λ l none. others_idle a b None goes g x shows l (λ at. cc at) none;
      counted = shows.counted;
      gates = shows.gates;
      gate_numbered = shows.gate_numbered;
      gate_idle = shows.gate_idle;
      calm = shows.calm;
      wanting = shows.wanting;
    })

pub goes_stirs : (a b : Relays) (next : Option ℕ) → GoesTo next a b → Stirs a b
goes_stirs a b next goes = same_stirs a a.relays (λ j. equal_same (get a.relays j) (get a.relays j) refl) b goes.0

-- the link that it came to has none: it goes on
pub walks_on : (first a b c : Relays) (n : ℕ) → KeepsShowing first a → GoesTo (Some n) a b → ActsOf n None b c → KeepsShowing first c
walks_on first a b c n keeps goes acts g x points stands shows =
    acts.1 g x points stands (goes_but a b n goes g (outward x) (keeps g x points stands shows))

-- or has one; or none is left
pub walk_acts : (first a b c : Relays) (n : ℕ) (given : Act) → KeepsShowing first a → GoesTo (Some n) a b → ActsOf n (Some given) b c
    → Acts (Some given) first c
walk_acts first a b c n given keeps goes acts g x points stands shows rests lets =
    acts g x points stands (goes_but a b n goes g (outward x) (keeps g x points stands shows)) rests lets

pub walk_ends : (first a b : Relays) → KeepsShowing first a → GoesTo None a b → KeepsShowing first b
walk_ends first a b keeps goes g x points stands shows = goes_none a b goes g (outward x) (keeps g x points stands shows)

-- LINKS TO GATEWAYS

pub close_away : (phase : Phase) → IsGateAway phase → close_due phase ≡ None
close_away gateway.unborn away = refl
close_away gateway.closed away = refl
close_away gateway.opening away = absurd away
close_away gateway.serving away = absurd away
close_away (gateway.faulted code) away = absurd away
close_away (gateway.closing why) away = absurd away

module _ (a b : Relays) (next : Option ℕ) (goes : GoesToGate next a b) (g : NodeConfig) (x : Outward) (shows : ShowsRelays g a x) where
  other_gates : (n : ℕ) → next ≢ Some n → is_touched b.gate_due n ≡ false → close_due (x.gates n).phase ≡ None
  other_gates n apart none = by (get a.gates n) refl
    where
      kept : IsSome (get a.gates n) → (before : Bool) → is_touched a.gate_due n ≡ before → close_due (x.gates n).phase ≡ None
      kept some false was = shows.gate_idle n was
      kept some true was =
          ⊎_elim (λ still. absurd (false≢true (sym none ∙ still))) (λ at. absurd (apart at))
          (goes.1.others n (shows.gate_numbered n some) some was)

      by : (o : Option Gate) → get a.gates n ≡ o → close_due (x.gates n).phase ≡ None
      by None gone =
          close_away (x.gates n).phase (subst (λ (o : Option Gate). ShowsGate n o (x.gates n)) gone (shows.gates n))
      by (Some w) found = kept (ap is_some found) (is_touched a.gate_due n) refl

pub goes_gate : (a b : Relays) (n : ℕ) → GoesToGate (Some n) a b → (g : NodeConfig) (x : Outward) → ShowsRelays g a x → ShowsGatesBut g n b x
goes_gate a b n goes g x shows =
    subst (λ (k : Relays). ShowsGatesBut g n k x) (sym goes.0) (record {
      relays = shows.relays;
      index = shows.index;
      numbered = shows.numbered;
      idle = shows.idle;
      counted = shows.counted;
      gates = shows.gates;
      gate_numbered = shows.gate_numbered;
      gate_idle = λ m apart none. other_gates a b (Some n) goes g x shows m (λ at. apart (let same : n ≡ m = cc at in sym same)) none;
      calm = shows.calm;
      wanting = shows.wanting;
    })

goes_no_gate : (a b : Relays) → GoesToGate None a b → (g : NodeConfig) (x : Outward) → ShowsRelays g a x → ShowsRelays g b x
goes_no_gate a b goes g x shows =
    subst (λ (k : Relays). ShowsRelays g k x) (sym goes.0) (record {
      relays = shows.relays;
      index = shows.index;
      numbered = shows.numbered;
      idle = shows.idle;
      counted = shows.counted;
      gates = shows.gates;
      gate_numbered = shows.gate_numbered;
      gate_idle = λ m none. other_gates a b None goes g x shows m (λ at. cc at) none;
      calm = shows.calm;
      wanting = shows.wanting;
    })

pub goes_gate_stirs : (a b : Relays) (next : Option ℕ) → GoesToGate next a b → Stirs a b
goes_gate_stirs a b next goes =
    subst (λ (k : Relays). Stirs a k) (sym goes.0)
    (λ i. record { has = inl refl; kept = λ was. was; reads = λ was. inl was; writes = λ was. inl was })

pub gates_on : (first a b c : Relays) (n : ℕ) → KeepsShowing first a → GoesToGate (Some n) a b → GateActs n None b c → KeepsShowing first c
gates_on first a b c n keeps goes acts g x points stands shows =
    acts.2 g x points stands (goes_gate a b n goes g (outward x) (keeps g x points stands shows))

pub gate_given : (first a b c : Relays) (n : ℕ) (given : Act) → KeepsShowing first a → GoesToGate (Some n) a b
    → GateActs n (Some given) b c → Acts (Some given) first c
gate_given first a b c n given keeps goes acts g x points stands shows rests lets =
    acts g x points stands (goes_gate a b n goes g (outward x) (keeps g x points stands shows)) rests lets

pub gates_end : (first a b : Relays) → KeepsShowing first a → GoesToGate None a b → KeepsShowing first b
gates_end first a b keeps goes g x points stands shows = goes_no_gate a b goes g (outward x) (keeps g x points stands shows)

-- WHERE NONE IS LEFT none is due
pub none_due : (first mid last : Relays) → KeepsShowing first mid → KeepsShowing mid last → is_idle last.due ≡ true
    → is_idle last.gate_due ≡ true → Acts None first last
none_due first mid last one two idle gate_idle g x points stands shows rests lets =
    let now = two g x points stands (one g x points stands shows) in
    (now, λ l. now.idle l (none_touched last.due idle l), λ n. now.gate_idle n (none_touched last.gate_due gate_idle n))

pub acts_then : (first mid last : Relays) (given : Act) → KeepsShowing first mid → Acts (Some given) mid last → Acts (Some given) first last
acts_then first mid last given keeps acts g x points stands shows rests lets =
    acts g x points stands (keeps g x points stands shows) rests lets
