-- What the code says of the plain links, and of those to gateways, that it shows.
use Rattle.std.proofs.Common.{◌≡◌, inl, inr, ℕ, ◌||◌, Bool, true, false, is_some, Option, Some, None, refl, ap, sym, ◌∙◌, subst}
use Rattle.std.proofs.lemmas.Bool.{or_left, or_right}
use Rattle.std.specs.FinMap.{get}
use Rattle.hb_captured.specs.Answer.{key_of}
use Rattle.hb_captured.specs.Calm as calm
use Rattle.hb_captured.specs.Calm.{IsCalm, IsQuiet}
use Rattle.hb_captured.specs.Captured.{Captured, Stage}
use Rattle.hb_gate.specs.Shows.{ShowsBy}
use Rattle.hb_gate.specs.declared.gate.Gate.{Gate}
use Rattle.hb_gateway.specs.Calm as gate_calm
use Rattle.hb_gateway.specs.Gateway as gateway
use Rattle.hb_gateway.specs.Gateway.{Gateway}
use Rattle.hb_gateway.specs.Key.{Key}
use Rattle.hb_kept.specs.Kept.{IsKept}
use Rattle.hb_model.specs.declared.config.NodeConfig.{NodeConfig}
use Rattle.hb_proxy.specs.Load.{LinksFull}
use Rattle.hb_proxy.specs.Machine.{Machine, Outward, outward}
use Rattle.hb_proxy.specs.Runs.{DialsGate, GatesLet, IfThrough, MayDialGate, NoneOffers}
use Rattle.hb_proxy.specs.Seen.{IsPlainThere, IsGateThere}
use Rattle.hb_relay.specs.declared.relay.Relay.{Relay}
use Rattle.hb_relays.proofs.Away.{away_is}
use Rattle.hb_relays.proofs.Observing.{wants_are, holds_are, last_words_are}
use Rattle.hb_relays.proofs.Touching.{none_touched}
use Rattle.hb_relays.specs.Calls as relays
use Rattle.hb_relays.specs.Calls.{IsPresent, has_of}
use Rattle.hb_relays.specs.Shows.{IsAwayBy, IsGateAway, IsIdle, ShowsGate, ShowsRelay, ShowsRelays}
use Rattle.hb_relays.specs.Touched.{is_idle}
use Rattle.hb_relays.specs.declared.relays.Relays.{Relays}

-- WHERE NOTHING IS DUE

calm_at : (l : ℕ) (o : Option Relay) (x : Captured) → ShowsRelay l o x → IsCalm x
calm_at l None x shown = (away_is x shown).calm
calm_at l (Some k) x shown = shown.1.calm

pub plain_calm : {g : NodeConfig} (k : Relays) {out : Outward} → ShowsRelays g k out → (l : ℕ) → IsCalm (out.plain l)
plain_calm k {out = out} shows l = calm_at l (get k.relays l) (out.plain l) (shows.relays l)

pub plain_idle : {g : NodeConfig} (k : Relays) {out : Outward} → is_idle k.due ≡ true → ShowsRelays g k out → (l : ℕ)
    → IsIdle (out.plain l)
plain_idle k idle shows l = shows.idle l (none_touched k.due idle l)

pub plain_quiet : {g : NodeConfig} (k : Relays) {out : Outward} → is_idle k.due ≡ true → ShowsRelays g k out → (l : ℕ)
    → IsQuiet (out.plain l)
plain_quiet k idle shows l = (plain_calm k shows l, plain_idle k idle shows l)

-- on the links to gateways, and on their streams, nothing more happens by itself; nor is a close due, where none is of them all
pub gates_calm : {g : NodeConfig} {k : Relays} (x : Machine) → ShowsRelays g k (outward x) → (first : Bool) → first ≡ true
    → GatesLet first x
gates_calm x shows first is =
    subst (λ (b : Bool). GatesLet b x) (sym is) (record { gates = shows.calm.gates; streams = shows.calm.streams })

pub gates_quiet : {g : NodeConfig} (k : Relays) (x : Machine) → is_idle k.gate_due ≡ true → ShowsRelays g k (outward x)
    → (first : Bool) → GatesLet first x
gates_quiet k x idle shows true = gates_calm x shows true refl
gates_quiet k x idle shows false = record {
  gates = λ n. record { calm = shows.calm.gates n; no_close = shows.gate_idle n (none_touched k.gate_due idle n) };
  streams = shows.calm.streams;
}

-- WHICH NUMBERS ARE OF A LINK

-- a link that is there is kept
kept_of : (l : ℕ) (o : Option Relay) (x : Captured) → ShowsRelay l o x → IsPlainThere x → (k : Relay) × (o ≡ Some k)
kept_of l None x shows there = absurd ((away_is x shows).gone there)
kept_of l (Some k) x shows there = (k, refl)

-- and a link to a gateway is
gate_gone : (phase : gateway.Phase) → IsGateAway phase → IsGateThere phase → ⊥
gate_gone gateway.unborn away there = there
gate_gone gateway.closed away there = there
gate_gone gateway.opening away there = away
gate_gone gateway.serving away there = away
gate_gone (gateway.faulted code) away there = away
gate_gone (gateway.closing why) away there = away

gate_of : (n : ℕ) (o : Option Gate) (y : Gateway) → ShowsGate n o y → IsGateThere y.phase → (k : Gate) × (o ≡ Some k)
gate_of n None y shown there = absurd (gate_gone y.phase shown there)
gate_of n (Some k) y shown there = (k, refl)

module _ {g : NodeConfig} (k : Relays) {out : Outward} (shows : ShowsRelays g k out) where
  pub is_kept : (l : ℕ) → IsPlainThere (out.plain l) → (w : Relay) × (get k.relays l ≡ Some w)
  is_kept l there = kept_of l (get k.relays l) (out.plain l) (shows.relays l) there

  pub gate_kept : (n : ℕ) → IsGateThere (out.gates n).phase → (w : Gate) × (get k.gates n ≡ Some w)
  gate_kept n there = gate_of n (get k.gates n) (out.gates n) (shows.gates n) there

  -- nor is one found that isn't there
  pub none_kept : (l : ℕ) → (IsPlainThere (out.plain l) → ⊥) → get k.relays l ≡ None
  none_kept l gone = by (get k.relays l) (shows.relays l)
    where
      by : (o : Option Relay) → ShowsRelay l o (out.plain l) → o ≡ None
      by None shown = refl
      by (Some w) shown = absurd (gone shown.2)

  there_shown : (l : ℕ) (o : Option Relay) (stage : Stage) → ShowsRelay l o (out.plain l) → (out.plain l).stage ≡ stage
      → (IsAwayBy stage (out.plain l) → ⊥) → IsPlainThere (out.plain l)
  there_shown l None stage shown is there = absurd (there (subst (λ (r : Stage). IsAwayBy r (out.plain l)) is shown))
  there_shown l (Some w) stage shown is there = shown.2

  -- one is there, at a stage at which none isn't
  pub there_at_stage : (l : ℕ) (stage : Stage) → (out.plain l).stage ≡ stage → (IsAwayBy stage (out.plain l) → ⊥)
      → IsPlainThere (out.plain l)
  there_at_stage l stage is there = there_shown l (get k.relays l) stage (shows.relays l) is there

  abbrev pub has_up : ℕ → Bool
  has_up n = is_some (get k.ups n)

  abbrev pub has_relay : ℕ → Bool
  has_relay n = is_some (get k.relays n)

  abbrev pub has_gate : ℕ → Bool
  has_gate n = is_some (get k.gates n)

  pub has_some : (n : ℕ) → IsPresent out n → has_of k n ≡ true
  has_some n (inl there) =
      or_left (has_up n || has_relay n) (has_gate n)
      (or_right (has_up n) (has_relay n) (ap (λ (o : Option Relay). is_some o) (is_kept n there).1))
  has_some n (inr (inl up)) =
      or_left (has_up n || has_relay n) (has_gate n)
      (or_left (has_up n) (has_relay n) (ap (λ (o : Option ℕ). is_some o) (shows.index.found up.0 n up.1)))
  has_some n (inr (inr there)) =
      or_right (has_up n || has_relay n) (has_gate n) (ap (λ (o : Option Gate). is_some o) (gate_kept n there).1)

  there_at : (n : ℕ) (o : Option Relay) → ShowsRelay n o (out.plain n) → is_some o ≡ true → IsPlainThere (out.plain n)
  there_at n None at is = absurd cc
  there_at n (Some w) at is = at.2

  gate_at : (n : ℕ) (o : Option Gate) → ShowsGate n o (out.gates n) → is_some o ≡ true → IsGateThere (out.gates n).phase
  gate_at n None at is = absurd cc
  gate_at n (Some w) at is = at.2

  present : (n : ℕ) (o : Option ℕ) (b : Bool) → get k.ups n ≡ o → has_relay n ≡ b
      → ((is_some o || b) || has_gate n) ≡ true → IsPresent out n
  present n (Some l) b found kept is = inr (inl (l, shows.index.joined l n found))
  present n None true found kept is = inl (there_at n (get k.relays n) (shows.relays n) kept)
  present n None false found kept is = inr (inr (gate_at n (get k.gates n) (shows.gates n) is))

  pub has_none : (n : ℕ) → (IsPresent out n → ⊥) → has_of k n ≡ false
  has_none n never = by (has_of k n) refl
    where
      by : (b : Bool) → has_of k n ≡ b → b ≡ false
      by false is = refl
      by true is = absurd (never (present n (get k.ups n) (has_relay n) refl refl is))

-- one that goes straight waits for no link to a gateway, whether one may be dialled or not
pub dials_none : (g : NodeConfig) (x : Machine) (l : ℕ) → key_of (x.plain l).aim ≡ None → DialsGate x l × MayDialGate g x l
dials_none g x l straight = (
  subst (λ (o : Option Key). IfThrough o (NoneOffers x)) (sym straight) tt,
  subst (λ (o : Option Key). IfThrough o (λ key. LinksFull false g x)) (sym straight) tt,
)

-- HOW MUCH MAY BE READ, AND WHAT IS TO BE WRITTEN

module _ {g : NodeConfig} (k : Relays) {out : Outward} (shows : ShowsRelays g k out) where
  -- of a link that is there
  module _ (l : ℕ) (there : IsPlainThere (out.plain l)) (no_up : get k.ups l ≡ None) where
    pub wants_plain : relays.wants_of k l ≡ calm.wants (out.plain l)
    wants_plain =
        wants_are k l g out shows ∙ ap (λ (at : Option ℕ). relays.machine_wants out k at l) no_up
        ∙ ap (λ (o : Option Relay). relays.own_machine_wants o (get k.gates l) out l) (is_kept k shows l there).1

    pub output_plain : relays.held_of k l ≡ calm.output (out.plain l)
    output_plain =
        holds_are k l g out shows ∙ ap (λ (at : Option ℕ). relays.machine_held out k at l) no_up
        ∙ ap (λ (o : Option Relay). relays.own_machine_held o (get k.gates l) out l) (is_kept k shows l there).1

  -- of an upstream
  pub wants_relay : (u l : ℕ) → get k.ups u ≡ Some l → relays.wants_of k u ≡ calm.up_wants (out.plain l)
  wants_relay u l at = wants_are k u g out shows ∙ ap (λ (o : Option ℕ). relays.machine_wants out k o u) at

  pub output_relay : (u l : ℕ) → get k.ups u ≡ Some l → relays.held_of k u ≡ calm.up_output (out.plain l)
  output_relay u l at = holds_are k u g out shows ∙ ap (λ (o : Option ℕ). relays.machine_held out k o u) at

  -- of a link to a gateway that is there, whose number is no other link's
  module _ (n : ℕ) (there : IsGateThere (out.gates n).phase) (no_up : get k.ups n ≡ None) (no_relay : get k.relays n ≡ None) where
    pub wants_gate : relays.wants_of k n ≡ gate_calm.wants (out.gates n)
    wants_gate =
        wants_are k n g out shows ∙ ap (λ (at : Option ℕ). relays.machine_wants out k at n) no_up
        ∙ ap (λ (o : Option Relay). relays.own_machine_wants o (get k.gates n) out n) no_relay
        ∙ ap (λ (o : Option Gate). relays.own_machine_wants None o out n) (gate_kept k shows n there).1

    pub output_gate : relays.held_of k n ≡ gate_calm.output (out.gates n)
    output_gate =
        holds_are k n g out shows ∙ ap (λ (at : Option ℕ). relays.machine_held out k at n) no_up
        ∙ ap (λ (o : Option Relay). relays.own_machine_held o (get k.gates n) out n) no_relay
        ∙ ap (λ (o : Option Gate). relays.own_machine_held None o out n) (gate_kept k shows n there).1

  -- one with last words was told a connection error
  faulted_by : (phase : gateway.Phase) → relays.is_faulted phase ≡ true → (code : ℕ) × (phase ≡ gateway.faulted code)
  faulted_by gateway.unborn is = absurd cc
  faulted_by gateway.closed is = absurd cc
  faulted_by gateway.opening is = absurd cc
  faulted_by gateway.serving is = absurd cc
  faulted_by (gateway.faulted code) is = (code, refl)
  faulted_by (gateway.closing why) is = absurd cc

  pub last_gate : (n : ℕ) → relays.last_at k n ≡ true → (code : ℕ) × ((out.gates n).phase ≡ gateway.faulted code)
  last_gate n last = faulted_by (out.gates n).phase (last_words_are k n g out shows last)

  -- the connection of one that serves is kept
  kept_at : (n : ℕ) (o : Option Gate) → ShowsGate n o (out.gates n) → (out.gates n).phase ≡ gateway.serving → IsKept (out.gates n).conn
  kept_at n None shown is = absurd (subst IsGateAway is shown)
  kept_at n (Some w) shown is = (subst (λ (q : gateway.Phase). ShowsBy q w (out.gates n)) is shown.1.way).1

  pub serving_kept : (n : ℕ) → (out.gates n).phase ≡ gateway.serving → IsKept (out.gates n).conn
  serving_kept n is = kept_at n (get k.gates n) (shows.gates n) is
