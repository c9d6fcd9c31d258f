-- How much may be read of the link of a number, what waits for it, and whether it has last words, are those of the machine.
use Rattle.std.proofs.Common.{◌≡◌, ℕ, ◌<◌, nat_le, not, length, true, List, [], ◌++◌, Option, Some, None, refl, ap, sym, ◌∙◌, subst, arith, length-append}
use Rattle.std.proofs.lemmas.Bool.{false≢true, lt-leb}
use Rattle.std.specs.FinMap.{get}
use Rattle.hb_captured.specs.Calm as calm
use Rattle.hb_captured.specs.Captured as m
use Rattle.hb_captured.specs.Captured.{Captured, Stage}
use Rattle.hb_conn.specs.Connection.{Connection}
use Rattle.hb_conn.specs.Observed as connection
use Rattle.hb_gate.specs.Observed.{wants_by, wants_on, output_by, output_on, says_last_by, says_last}
use Rattle.hb_gate.specs.Phases.{phase_of}
use Rattle.hb_gate.specs.Shows as gate
use Rattle.hb_gate.specs.Shows.{ShowsBy}
use Rattle.hb_gate.specs.declared.gate.Gate.{Gate}
use Rattle.hb_gate.specs.declared.phase.Phase as code
use Rattle.hb_gate.specs.declared.phase.Phase.TheVariants.{Opening, Serving, Faulted, Closing, Closed}
use Rattle.hb_gateway.specs.Calm as gateway_calm
use Rattle.hb_gateway.specs.Gateway.{Gateway, Phase, opening, serving, faulted, closing, closed}
use Rattle.hb_kept.specs.Kept.{wants_of as conn_wants}
use Rattle.hb_model.specs.declared.config.NodeConfig.{NodeConfig}
use Rattle.hb_proxy.specs.Machine.{Outward}
use Rattle.hb_relay.specs.Shows.{as_told}
use Rattle.hb_relay.specs.declared.relay.Relay.{Relay}
use Rattle.hb_relays.specs.Calls.{Wants, Holds, LastWords, wants_of, held_of, last_at, last_in, wants_at, held_at, own_wants, own_output, machine_wants, machine_held, own_machine_wants, own_machine_held, up_wants_in, up_output_in, is_faulted}
use Rattle.hb_relays.specs.Shows.{IsAwayBy, ShowsGate, ShowsRelay, ShowsRelays}
use Rattle.hb_relays.specs.declared.relays.Relays.{Relays}

-- A LINK, and its upstream

told_wants : (stage : Stage) (x : Captured) → calm.wants_by stage (as_told x) ≡ calm.wants_by stage x
told_wants m.fronting x = refl
told_wants m.opening x = refl
told_wants m.live x = refl
told_wants stage x = refl

told_up_wants : (stage : Stage) (x : Captured) → calm.up_wants_by stage (as_told x) ≡ calm.up_wants_by stage x
told_up_wants m.live x = refl
told_up_wants stage x = refl

away_wants : (stage : Stage) (x : Captured) → IsAwayBy stage x → calm.wants_by stage x ≡ 0
away_wants m.unborn x away = refl
away_wants (m.over why) x away = refl
away_wants stage x away = absurd away

away_up_wants : (stage : Stage) (x : Captured) → IsAwayBy stage x → calm.up_wants_by stage x ≡ 0
away_up_wants m.unborn x away = refl
away_up_wants (m.over why) x away = refl
away_up_wants stage x away = absurd away

away_output : (stage : Stage) (x : Captured) (held : List ℕ) → IsAwayBy stage x → calm.output_by stage held ≡ []
away_output m.unborn x held away = refl
away_output (m.over why) x held away = refl
away_output stage x held away = absurd away

-- ONE TO A GATEWAY

gate_wants : (k : Gate) (x : Gateway) → gate.Shows k x → wants_on k ≡ gateway_calm.wants x
gate_wants k x shows = by k.phase shows.phase
  where
    by : (p : code.Phase) → x.phase ≡ phase_of p → wants_by p k ≡ gateway_calm.wants_by x.phase x
    by Serving is =
        ap conn_wants (sym (subst (λ (q : Phase). ShowsBy q k x) is shows.way).0)
        ∙ sym (ap (λ (q : Phase). gateway_calm.wants_by q x) is)
    by Opening is = sym (ap (λ (q : Phase). gateway_calm.wants_by q x) is)
    by (Faulted code) is = sym (ap (λ (q : Phase). gateway_calm.wants_by q x) is)
    by (Closing why) is = sym (ap (λ (q : Phase). gateway_calm.wants_by q x) is)
    by Closed is = sym (ap (λ (q : Phase). gateway_calm.wants_by q x) is)

gate_output : (k : Gate) (x : Gateway) → gate.Shows k x → output_on k ≡ gateway_calm.output x
gate_output k x shows = by k.phase shows.phase
  where
    by : (p : code.Phase) → x.phase ≡ phase_of p → output_by p k ≡ gateway_calm.output_by x.phase x
    by Serving is =
        let way = subst (λ (q : Phase). ShowsBy q k x) is shows.way in
        ap (λ (c : Connection). k.front ++ connection.output c) (sym way.0) ∙ ap (λ (f : List ℕ). f ++ connection.output x.conn) (sym way.2)
        ∙ sym (ap (λ (q : Phase). gateway_calm.output_by q x) is)
    by (Faulted code) is =
        let way = subst (λ (q : Phase). ShowsBy q k x) is shows.way in
        ap (λ (c : Connection). k.front ++ connection.output c) (sym way.0) ∙ ap (λ (f : List ℕ). f ++ connection.output x.conn) (sym way.1)
        ∙ sym (ap (λ (q : Phase). gateway_calm.output_by q x) is)
    by Opening is = sym (ap (λ (q : Phase). gateway_calm.output_by q x) is)
    by (Closing why) is = sym (ap (λ (q : Phase). gateway_calm.output_by q x) is)
    by Closed is = sym (ap (λ (q : Phase). gateway_calm.output_by q x) is)

pub gate_last : (k : Gate) (x : Gateway) → gate.Shows k x → says_last k ≡ true → is_faulted x.phase ≡ true
gate_last k x shows = by k.phase shows.phase
  where
    by : (p : code.Phase) → x.phase ≡ phase_of p → says_last_by p k ≡ true → is_faulted x.phase ≡ true
    by (Faulted code) is last = ap is_faulted is
    by Opening is last = absurd (false≢true last)
    by Serving is last = absurd (false≢true last)
    by (Closing why) is last = absurd (false≢true last)
    by Closed is last = absurd (false≢true last)

-- and it has some while bytes wait there
pub last_said : (k : Gate) (x : Gateway) → gate.Shows k x → (number : ℕ) → x.phase ≡ faulted number → (bytes : List ℕ) → 0 < length bytes
    → ((rest : List ℕ) × (gateway_calm.output x ≡ bytes ++ rest)) → says_last k ≡ true
last_said k x shows number phase bytes some (rest, output_is) = by k.phase shows.phase
  where
    output_so : output_on k ≡ bytes ++ rest
    output_so = gate_output k x shows ∙ output_is

    waits : not (nat_le (length (output_on k)) 0) ≡ true
    waits =
        let size = length-append bytes rest in
        ap not (lt-leb (length (output_on k)) 0 (subst (λ (bs : List ℕ). 0 < length bs) (sym output_so) (omega (arith, size, some))))

    by : (p : code.Phase) → x.phase ≡ phase_of p → says_last_by p k ≡ true
    by (Faulted c) is = waits
    by Opening is = absurd (let no : faulted number ≡ opening = sym phase ∙ is in cc no)
    by Serving is = absurd (let no : faulted number ≡ serving = sym phase ∙ is in cc no)
    by (Closing why) is = absurd (let no : faulted number ≡ closing why = sym phase ∙ is in cc no)
    by Closed is = absurd (let no : faulted number ≡ closed = sym phase ∙ is in cc no)

-- OF A NUMBER

module _ (g : NodeConfig) (k : Relays) (x : Outward) (shows : ShowsRelays g k x) where
  at_relay : (l : ℕ) (o : Option Relay) → get k.relays l ≡ o → ShowsRelay l o (x.plain l)
  at_relay l o is = subst (λ (p : Option Relay). ShowsRelay l p (x.plain l)) is (shows.relays l)

  at_gate : (n : ℕ) (o : Option Gate) → get k.gates n ≡ o → ShowsGate n o (x.gates n)
  at_gate n o is = subst (λ (p : Option Gate). ShowsGate n p (x.gates n)) is (shows.gates n)

  up_wants_are : (l : ℕ) (o : Option Relay) → get k.relays l ≡ o → up_wants_in o ≡ calm.up_wants (x.plain l)
  up_wants_are l None is = sym (away_up_wants (x.plain l).stage (x.plain l) (at_relay l None is))
  up_wants_are l (Some w) is =
      ap calm.up_wants (sym (at_relay l (Some w) is).1.same) ∙ told_up_wants (x.plain l).stage (x.plain l)

  up_held_is : (l : ℕ) (o : Option Relay) → get k.relays l ≡ o → up_output_in o ≡ calm.up_output (x.plain l)
  up_held_is l None is = sym (away_output (x.plain l).stage (x.plain l) (x.plain l).ways.up.held (at_relay l None is))
  up_held_is l (Some w) is = ap calm.up_output (sym (at_relay l (Some w) is).1.same)

  own_wants_are : (n : ℕ) (o : Option Relay) (p : Option Gate) → get k.relays n ≡ o → get k.gates n ≡ p
      → own_wants o p ≡ own_machine_wants o p x n
  own_wants_are n (Some w) p is gate_is =
      ap calm.wants (sym (at_relay n (Some w) is).1.same) ∙ told_wants (x.plain n).stage (x.plain n)
  own_wants_are n None (Some kept) is gate_is = gate_wants kept (x.gates n) (at_gate n (Some kept) gate_is).1
  own_wants_are n None None is gate_is = sym (away_wants (x.plain n).stage (x.plain n) (at_relay n None is))

  own_held_is : (n : ℕ) (o : Option Relay) (p : Option Gate) → get k.relays n ≡ o → get k.gates n ≡ p
      → own_output o p ≡ own_machine_held o p x n
  own_held_is n (Some w) p is gate_is = ap calm.output (sym (at_relay n (Some w) is).1.same)
  own_held_is n None (Some kept) is gate_is = gate_output kept (x.gates n) (at_gate n (Some kept) gate_is).1
  own_held_is n None None is gate_is =
      sym (away_output (x.plain n).stage (x.plain n) (x.plain n).ways.down.held (at_relay n None is))

  wants_by_owner : (n : ℕ) (at : Option ℕ) → wants_at k at n ≡ machine_wants x k at n
  wants_by_owner n None = own_wants_are n (get k.relays n) (get k.gates n) refl refl
  wants_by_owner n (Some l) = up_wants_are l (get k.relays l) refl

  held_by_owner : (n : ℕ) (at : Option ℕ) → held_at k at n ≡ machine_held x k at n
  held_by_owner n None = own_held_is n (get k.relays n) (get k.gates n) refl refl
  held_by_owner n (Some l) = up_held_is l (get k.relays l) refl

  last_is : (n : ℕ) (o : Option Gate) → get k.gates n ≡ o → last_in o ≡ true → is_faulted (x.gates n).phase ≡ true
  last_is n None is last = absurd (false≢true last)
  last_is n (Some kept) is last = gate_last kept (x.gates n) (at_gate n (Some kept) is).1 last

pub wants_are : (k : Relays) (n : ℕ) → Wants k n (wants_of k n)
wants_are k n g x shows = wants_by_owner g k x shows n (get k.ups n)

pub holds_are : (k : Relays) (n : ℕ) → Holds k n (held_of k n)
holds_are k n g x shows = held_by_owner g k x shows n (get k.ups n)

pub last_words_are : (k : Relays) (n : ℕ) → LastWords k n (last_at k n)
last_words_are k n g x shows last = last_is g k x shows n (get k.gates n) refl last
