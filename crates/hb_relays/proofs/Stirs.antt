-- What a call stirs.
use Rattle.std.proofs.Common.{◌≡◌, ◌≢◌, ◌⊎◌, inl, inr, ⊎_elim, ◌==◌, ◌||◌, ℕ, Bool, true, false, cond, Option, Some, None, is_some, refl, ap, ap₂, sym, ◌∙◌, subst}
use Rattle.std.proofs.lemmas.Bool.{cases_eq, or_left, or_right, or_parts, or_from, eqb-true, false≢true}
use Rattle.std.specs.FinMap.{get, insert, remove}
use Rattle.hb_captured.specs.Calm as calm
use Rattle.hb_base.specs.declared.cause.Cause.{Cause}
use Rattle.hb_gate.specs.Observed.{wants_by, wants_on, output_by, output_on}
use Rattle.hb_gate.specs.declared.phase.Phase as code_phase
use Rattle.hb_gate.specs.declared.phase.Phase.TheVariants.{Serving, Faulted}
use Rattle.hb_gate.specs.Streams.{TakesBy, TakesFrom, TakesMail}
use Rattle.hb_gate.specs.declared.gate.Gate.{Gate}
use Rattle.hb_gate.specs.declared.looking.Mail.{Mail}
use Rattle.hb_gate.specs.declared.stream.Stream as code_stream
use Rattle.hb_map.proofs.Laws.{put_here, put_elsewhere, removed_elsewhere, written_here, written_elsewhere, written_where_none, written_where_some}
use Rattle.hb_map.specs.Keyed.{written}
use Rattle.hb_relay.specs.Shows.{captured_of}
use Rattle.hb_relay.specs.declared.relay.Relay.{Relay}
use Rattle.hb_relay.specs.declared.routes.Routes.{Routes}
use Rattle.hb_world.specs.declared.act.Act.{Act}
use Rattle.hb_world.specs.declared.act.Act.TheVariants as act
use Rattle.hb_relays.specs.Calls.{gate_output, gate_wants, has_of, wants_in, up_wants_in, own_wants, wants_at, wants_of, output_in, up_output_in, own_output, held_at, held_of}
use Rattle.hb_relays.specs.Joining.{Gates}
use Rattle.hb_relays.specs.Stirring.{owner_of, gate_stirs_in, own_stirs, stirs_by, stirs_at, StirsAt, Stirs, StirsBut, closed_in}
use Rattle.hb_relays.specs.Touched.{is_at, is_touched, touched}
use Rattle.hb_relays.specs.Walks.{Map, Index, finished, gate_touched_at, relays_with, routes_with, touched_at}
use Rattle.hb_relays.specs.declared.relays.Relays.{Relays}
use Rattle.hb_relays.proofs.Touching.{untouched}

-- WHERE ITS LINK IS THE SAME a number has, wants and holds the same
pub record SameAt (n : ℕ) (k m : Relays) : Type 0 where
  pub has : has_of m n ≡ has_of k n
  pub wants : wants_of m n ≡ wants_of k n
  pub held : held_of m n ≡ held_of k n

pub same_at : (k m : Relays) (n : ℕ) (at : Option ℕ) → get k.ups n ≡ at → get m.ups n ≡ at
    → get m.relays (owner_of at n) ≡ get k.relays (owner_of at n) → get m.gates n ≡ get k.gates n → SameAt n k m
same_at k m n None was now same gate = record {
  has =
      ap (λ (o : Option ℕ). is_some o || is_some (get m.relays n) || is_some (get m.gates n)) (now ∙ sym was)
      ∙ ap₂ (λ (o : Option Relay) (p : Option Gate). is_some (get k.ups n) || is_some o || is_some p) same gate;
  wants =
      ap (λ (o : Option ℕ). wants_at m o n) now ∙ ap₂ (λ (o : Option Relay) (p : Option Gate). own_wants o p) same gate
      ∙ sym (ap (λ (o : Option ℕ). wants_at k o n) was);
  held =
      ap (λ (o : Option ℕ). held_at m o n) now ∙ ap₂ (λ (o : Option Relay) (p : Option Gate). own_output o p) same gate
      ∙ sym (ap (λ (o : Option ℕ). held_at k o n) was);
}
same_at k m n (Some l) was now same gate = record {
  has =
      ap (λ (o : Option ℕ). is_some o || is_some (get m.relays n) || is_some (get m.gates n)) now
      ∙ sym (ap (λ (o : Option ℕ). is_some o || is_some (get k.relays n) || is_some (get k.gates n)) was);
  wants =
      ap (λ (o : Option ℕ). wants_at m o n) now ∙ ap up_wants_in same ∙ sym (ap (λ (o : Option ℕ). wants_at k o n) was);
  held =
      ap (λ (o : Option ℕ). held_at m o n) now ∙ ap up_output_in same ∙ sym (ap (λ (o : Option ℕ). held_at k o n) was);
}

-- where it doesn't stir it is the same, and didn't stir
pub stirs_unless : (n : ℕ) (k m : Relays) → (has_of m n ≡ has_of k n) ⊎ (has_of m n ≡ true)
    → (stirs_at m n ≡ false → (stirs_at k n ≡ false) × SameAt n k m) → StirsAt n k m
stirs_unless n k m has else_same = by (stirs_at m n) refl
  where
    by : (b : Bool) → stirs_at m n ≡ b → StirsAt n k m
    by true is = record {
      has = ⊎_elim (λ as_before. inl as_before) (λ now. inr (now, is)) has;
      kept = λ was. is;
      reads = λ was. inr is;
      writes = λ was. inr is;
    }
    by false is =
        let same = else_same is in
        record {
          has = inl same.1.has;
          kept = λ was. absurd (false≢true (sym same.0 ∙ was));
          reads = λ was. inl (same.1.wants ∙ was);
          writes = λ was. inl (same.1.held ∙ was);
        }

-- it is of a link as before, or still
has_by : (o p : Option ℕ) (q r : Option Relay) (b : Bool) → (o ≡ p) ⊎ (is_some o ≡ true) → (q ≡ r) ⊎ (is_some q ≡ true)
    → ((is_some o || is_some q || b) ≡ (is_some p || is_some r || b)) ⊎ ((is_some o || is_some q || b) ≡ true)
has_by o p q r b (inr some) more = inr (or_left (is_some o || is_some q) b (or_left (is_some o) (is_some q) some))
has_by o p q r b (inl same) (inr some) = inr (or_left (is_some o || is_some q) b (or_right (is_some o) (is_some q) some))
has_by o p q r b (inl same) (inl both) =
    inl (ap (λ (a : Option ℕ). is_some a || is_some q || b) same ∙ ap (λ (c : Option Relay). is_some p || is_some c || b) both)

-- ONE LINK IS CHANGED, AND WITH IT THE INDEX OF UPSTREAMS: it is touched

module _ (k : Relays) (l : ℕ) (relays : Map) (ups : Index) (routes : Routes)
    (same : (j : ℕ) → j ≢ l → get relays j ≡ get k.relays j) where
  abbrev After : Relays
  After = touched_at l (routes_with routes (relays_with relays ups k))

  pub touch_stirs : (n : ℕ) → (owner_of (get ups n) n ≢ l → get ups n ≡ get k.ups n)
      → (get ups n ≡ get k.ups n) ⊎ (is_some (get ups n) ≡ true) → (get relays n ≡ get k.relays n) ⊎ (is_some (get relays n) ≡ true)
      → StirsAt n k After
  touch_stirs n stays ups_more more =
      stirs_unless n k After (has_by (get ups n) (get k.ups n) (get relays n) (get k.relays n) (is_some (get k.gates n)) ups_more more)
      (λ is. by (get ups n) refl (is))
    where
      none_before : (get ups n ≡ None) → get k.ups n ≡ None
      none_before none = ⊎_elim (λ same_up. sym same_up ∙ none)
          (λ some. absurd (false≢true (sym (ap is_some none) ∙ some))) ups_more

      own : (o : Option Relay) → get relays n ≡ o → get ups n ≡ None → own_stirs After o n ≡ false
          → (stirs_at k n ≡ false) × SameAt n k After
      own None none no_up is =
          let was = ⊎_elim (λ as_before. sym as_before ∙ none) (λ some. absurd (false≢true (sym (ap is_some none) ∙ some))) more in (
            ap (λ (a : Option ℕ). stirs_by k a n) (none_before no_up) ∙ ap (λ (o : Option Relay). own_stirs k o n) was ∙ is,
            same_at k After n None (none_before no_up) no_up (none ∙ sym was) refl,
          )
      own (Some w) found no_up is =
          let un = untouched l k.stirs n is in
          let there = same n un.0 in (
            ap (λ (a : Option ℕ). stirs_by k a n) (none_before no_up) ∙ ap (λ (o : Option Relay). own_stirs k o n) (sym there ∙ found) ∙ un.1,
            same_at k After n None (none_before no_up) no_up there refl,
          )

      by : (at : Option ℕ) → get ups n ≡ at → stirs_by After (get ups n) n ≡ false → (stirs_at k n ≡ false) × SameAt n k After
      by None no_up is =
          own (get relays n) refl no_up (sym (ap (λ (a : Option ℕ). stirs_by After a n) no_up) ∙ is)
      by (Some j) found is =
          let parts = or_parts (is_touched (touched l k.stirs) j) (is_at k.left j)
          (sym (ap (λ (a : Option ℕ). stirs_by After a n) found) ∙ is) in
          let un = untouched l k.stirs j parts.0 in
          let at : get k.ups n ≡ Some j =
          sym (stays (λ here. un.0 (ap (λ (a : Option ℕ). owner_of a n) (sym found) ∙ here))) ∙ found in (
            ap (λ (a : Option ℕ). stirs_by k a n) at ∙ or_from (is_touched k.stirs j) (is_at k.left j) un.1 parts.1,
            same_at k After n (Some j) at found (same j un.0) refl,
          )

-- a link in the place of another one, or as before where there was none
written_more : (relays : Map) (l : ℕ) (new : Relay) (j : ℕ)
    → (get (written relays l new) j ≡ get relays j) ⊎ (is_some (get (written relays l new) j) ≡ true)
written_more relays l new j =
    ⊎_elim
    (λ here. subst (λ (i : ℕ). (get (written relays l new) i ≡ get relays i) ⊎ (is_some (get (written relays l new) i) ≡ true))
    (sym here) (by (get relays l) refl)) (λ apart. inl (written_elsewhere relays l new j apart)) (cases_eq j l)
  where
    by : (o : Option Relay) → get relays l ≡ o
        → (get (written relays l new) l ≡ get relays l) ⊎ (is_some (get (written relays l new) l) ≡ true)
    by None none = inl (ap (λ (m : Map). get m l) (written_where_none relays l new none))
    by (Some w) is = inr (ap is_some (written_here relays l new (ap is_some is)))

put_more : (relays : Map) (l : ℕ) (new : Relay) (j : ℕ)
    → (get (insert relays l new) j ≡ get relays j) ⊎ (is_some (get (insert relays l new) j) ≡ true)
put_more relays l new j =
    ⊎_elim (λ here. inr (ap (λ (i : ℕ). is_some (get (insert relays l new) i)) here ∙ ap is_some (put_here relays l new)))
    (λ apart. inl (put_elsewhere relays l new j apart)) (cases_eq j l)

-- with the same index
pub relays_stir : (k n : Relays) (l : ℕ) (relays : Map) (routes : Routes)
    → n ≡ touched_at l (routes_with routes (relays_with relays k.ups k))
    → ((j : ℕ) → j ≢ l → get relays j ≡ get k.relays j) → (i : ℕ) → (get relays i ≡ get k.relays i) ⊎ (is_some (get relays i) ≡ true)
    → StirsAt i k n
relays_stir k n l relays routes n_is same i more =
    subst (λ (m : Relays). StirsAt i k m) (sym n_is) (touch_stirs k l relays k.ups routes same i (λ apart. refl) (inl refl) more)

pub told_stirs : (k n : Relays) (relays : Map) (routes : Routes) (l : ℕ) (new : Relay)
    → n ≡ touched_at l (routes_with routes (relays_with relays k.ups k)) → relays ≡ written k.relays l new → Stirs k n
told_stirs k n relays routes l new n_is relays_is i =
    relays_stir k n l (written k.relays l new) routes
    (n_is ∙ ap (λ (m : Map). touched_at l (routes_with routes (relays_with m k.ups k))) relays_is)
    (written_elsewhere k.relays l new) i (written_more k.relays l new i)

pub put_stirs : (k n : Relays) (relays : Map) (l : ℕ) (new : Relay) → n ≡ touched_at l (relays_with relays k.ups k)
    → relays ≡ insert k.relays l new → Stirs k n
put_stirs k n relays l new n_is relays_is i =
    relays_stir k n l (insert k.relays l new) k.routes (n_is ∙ ap (λ (m : Map). touched_at l (relays_with m k.ups k)) relays_is)
    (put_elsewhere k.relays l new) i (put_more k.relays l new i)

-- with an upstream more
pub born_stirs : (k n : Relays) (relays : Map) (ups : Index) (l u : ℕ) (new : Relay) → relays ≡ written k.relays l new
    → ups ≡ insert k.ups u l → n ≡ touched_at l (relays_with relays ups k) → Stirs k n
born_stirs k n relays ups l u new relays_is ups_is n_is i =
    subst (λ (m : Relays). StirsAt i k m)
    (sym (n_is ∙ ap₂ (λ (m : Map) (index : Index). touched_at l (relays_with m index k)) relays_is ups_is))
    (touch_stirs k l (written k.relays l new) (insert k.ups u l) k.routes (written_elsewhere k.relays l new) i stays more
    (written_more k.relays l new i))
  where
    more : (get (insert k.ups u l) i ≡ get k.ups i) ⊎ (is_some (get (insert k.ups u l) i) ≡ true)
    more =
        ⊎_elim (λ here. inr (ap (λ (j : ℕ). is_some (get (insert k.ups u l) j)) here ∙ ap is_some (put_here k.ups u l)))
        (λ apart. inl (put_elsewhere k.ups u l i apart)) (cases_eq i u)

    stays : owner_of (get (insert k.ups u l) i) i ≢ l → get (insert k.ups u l) i ≡ get k.ups i
    stays apart =
        ⊎_elim
        (λ here. absurd (apart (ap (λ (at : Option ℕ). owner_of at i) (ap (get (insert k.ups u l)) here ∙ put_here k.ups u l))))
        (λ there. put_elsewhere k.ups u l i there) (cases_eq i u)

-- an act was given
pub act_stirs : (k n : Relays) (l : ℕ) (given : Act) (relays : Map) (new : Relay) → relays ≡ written k.relays l new
    → n ≡ finished l given (record k { relays = relays }) → StirsBut (closed_in (Some given)) k n
act_stirs k n l given relays new relays_is n_is i apart =
    subst (λ (m : Relays). StirsAt i k m)
    (sym (n_is ∙ ap (λ (m : Map). finished l given (record k { relays = m })) relays_is)) (by given apart)
  where
    map : Map
    map = written k.relays l new

    elsewhere : (j : ℕ) → j ≢ l → get map j ≡ get k.relays j
    elsewhere = written_elsewhere k.relays l new

    by : (due : Act) → closed_in (Some due) ≢ Some i → StirsAt i k (finished l due (record k { relays = map }))
    by (act.Dial to why) other = relays_stir k _ l map k.routes refl elsewhere i (written_more k.relays l new i)
    by (act.Shut u) other = relays_stir k _ l map k.routes refl elsewhere i (written_more k.relays l new i)
    by (act.Close u cause) other = closes (u == l) refl
      where
        closes : (b : Bool) → (u == l) ≡ b
            → StirsAt i k (touched_at l (cond b (relays_with (remove map l) k.ups k) (relays_with map (remove k.ups u) k)))
        closes true here =
            let no : i ≢ l = λ is. other (ap Some (eqb-true u l here ∙ sym is)) in
            relays_stir k _ l (remove map l) k.routes refl (λ j apart. removed_elsewhere map l j apart ∙ elsewhere j apart) i
            (inl (removed_elsewhere map l i no ∙ elsewhere i no))
        closes false there =
            let no : i ≢ u = λ is. other (ap Some (sym is)) in
            touch_stirs k l map (remove k.ups u) k.routes elsewhere i (λ apart. removed_elsewhere k.ups u i no)
            (inl (removed_elsewhere k.ups u i no)) (written_more k.relays l new i)

-- NONE IS TOUCHED

-- the same is seen of a link
pub record IsSame (o p : Option Relay) : Type 0 where
  pub wants : wants_in o ≡ wants_in p
  pub up_wants : up_wants_in o ≡ up_wants_in p
  pub output : output_in o ≡ output_in p
  pub up_output : up_output_in o ≡ up_output_in p
  pub some : is_some o ≡ is_some p

pub equal_same : (o p : Option Relay) → o ≡ p → IsSame o p
equal_same o p is = record {
  wants = ap wants_in is;
  up_wants = ap up_wants_in is;
  output = ap output_in is;
  up_output = ap up_output_in is;
  some = ap is_some is;
}

-- so it is of the number
own_same : (k : Relays) (o p : Option Relay) (gate : Option Gate) (n : ℕ) → IsSame o p
    → (own_wants o gate ≡ own_wants p gate) × (own_output o gate ≡ own_output p gate) × (own_stirs k o n ≡ own_stirs k p n)
own_same k None None gate n same = (refl, refl, refl)
own_same k (Some v) (Some w) gate n same = (same.wants, same.output, refl)
own_same k None (Some w) gate n same = absurd (false≢true same.some)
own_same k (Some v) None gate n same = absurd (false≢true (sym same.some))

-- the same is seen of all, and the same stir
pub same_stirs : (k : Relays) (relays : Map) → ((j : ℕ) → IsSame (get relays j) (get k.relays j)) → (n : Relays)
    → n ≡ record k { relays = relays; due = n.due } → Stirs k n
same_stirs k relays same n n_is =
    subst (λ (m : Relays). Stirs k m) (sym n_is) (λ i. by i (get k.ups i) refl)
  where
    After : Relays
    After = record k { relays = relays; due = n.due }

    seen : (i : ℕ) (at : Option ℕ) → get k.ups i ≡ at
        → (wants_of After i ≡ wants_of k i) × (held_of After i ≡ held_of k i) × (stirs_at After i ≡ stirs_at k i)
    seen i None none =
        let are = own_same k (get relays i) (get k.relays i) (get k.gates i) i (same i) in (
          ap (λ (a : Option ℕ). wants_at After a i) none ∙ are.0 ∙ sym (ap (λ (a : Option ℕ). wants_at k a i) none),
          ap (λ (a : Option ℕ). held_at After a i) none ∙ are.1 ∙ sym (ap (λ (a : Option ℕ). held_at k a i) none),
          ap (λ (a : Option ℕ). stirs_by After a i) none ∙ are.2 ∙ sym (ap (λ (a : Option ℕ). stirs_by k a i) none),
        )
    seen i (Some l) found = (
      ap (λ (a : Option ℕ). wants_at After a i) found ∙ (same l).up_wants ∙ sym (ap (λ (a : Option ℕ). wants_at k a i) found),
      ap (λ (a : Option ℕ). held_at After a i) found ∙ (same l).up_output ∙ sym (ap (λ (a : Option ℕ). held_at k a i) found),
      ap (λ (a : Option ℕ). stirs_by After a i) found ∙ sym (ap (λ (a : Option ℕ). stirs_by k a i) found),
    )

    by : (i : ℕ) (at : Option ℕ) → get k.ups i ≡ at → StirsAt i k After
    by i at is =
        let are = seen i at is in
        record {
          has = inl (ap (λ (b : Bool). is_some (get k.ups i) || b || is_some (get k.gates i)) (same i).some);
          kept = λ was. are.2 ∙ was;
          reads = λ was. inl (are.0 ∙ was);
          writes = λ was. inl (are.1 ∙ was);
        }

-- ONE LINK TO A GATEWAY IS CHANGED: it is touched
module _ (k : Relays) (n : ℕ) (gates : Gates) (same : (j : ℕ) → j ≢ n → get gates j ≡ get k.gates j) where
  abbrev GateAfter : Relays
  GateAfter = gate_touched_at n (record k { gates = gates })

  pub gate_stirs : (i : ℕ) → (get gates i ≡ get k.gates i) ⊎ (is_some (get gates i) ≡ true) → StirsAt i k GateAfter
  gate_stirs i more =
      stirs_unless i k GateAfter
      (⊎_elim (λ as_before. inl (ap (λ (o : Option Gate). is_some (get k.ups i) || is_some (get k.relays i) || is_some o) as_before))
      (λ some. inr (or_right (is_some (get k.ups i) || is_some (get k.relays i)) (is_some (get gates i)) some)) more)
      (λ is. by (get k.ups i) refl is)
    where
      at_gate : (o : Option Gate) → get gates i ≡ o → gate_stirs_in GateAfter o i ≡ false
          → (gate_stirs_in k (get k.gates i) i ≡ false) × (get gates i ≡ get k.gates i)
      at_gate None none is =
          let was = ⊎_elim (λ as_before. as_before) (λ some. absurd (false≢true (sym (ap is_some none) ∙ some))) more in
          (ap (λ (o : Option Gate). gate_stirs_in k o i) (sym was ∙ none), was)
      at_gate (Some w) found is =
          let un = untouched n k.gate_stirs i is in
          let was = same i un.0 in
          (ap (λ (o : Option Gate). gate_stirs_in k o i) (sym was ∙ found) ∙ un.1, was)

      has_some : (o : Option ℕ) (p : Option Relay) (q r : Option Gate) → (is_some o ≡ true) ⊎ (is_some p ≡ true)
          → (is_some o || is_some p || is_some q) ≡ (is_some o || is_some p || is_some r)
      has_some o p q r some =
          let first = ⊎_elim (λ is. or_left (is_some o) (is_some p) is) (λ is. or_right (is_some o) (is_some p) is) some in
          or_left (is_some o || is_some p) (is_some q) first ∙ sym (or_left (is_some o || is_some p) (is_some r) first)

      own : (o : Option Relay) → get k.relays i ≡ o → get k.ups i ≡ None → own_stirs GateAfter o i ≡ false
          → (stirs_at k i ≡ false) × SameAt i k GateAfter
      own None none no_up is =
          let was = at_gate (get gates i) refl is in (
            ap (λ (a : Option ℕ). stirs_by k a i) no_up ∙ ap (λ (o : Option Relay). own_stirs k o i) none ∙ was.0,
            same_at k GateAfter i None no_up no_up refl was.1,
          )
      own (Some w) found no_up is = (
        ap (λ (a : Option ℕ). stirs_by k a i) no_up ∙ ap (λ (o : Option Relay). own_stirs k o i) found ∙ is,
        record {
          has = has_some (get k.ups i) (get k.relays i) (get gates i) (get k.gates i) (inr (ap is_some found));
          wants = ap (λ (a : Option ℕ). wants_at GateAfter a i) no_up
              ∙ ap (λ (o : Option Relay). own_wants o (get gates i)) found ∙ sym (ap (λ (o : Option Relay). own_wants o (get k.gates i)) found)
              ∙ sym (ap (λ (a : Option ℕ). wants_at k a i) no_up);
          held = ap (λ (a : Option ℕ). held_at GateAfter a i) no_up
              ∙ ap (λ (o : Option Relay). own_output o (get gates i)) found
              ∙ sym (ap (λ (o : Option Relay). own_output o (get k.gates i)) found)
              ∙ sym (ap (λ (a : Option ℕ). held_at k a i) no_up);
        },
      )

      by : (at : Option ℕ) → get k.ups i ≡ at → stirs_by GateAfter (get k.ups i) i ≡ false → (stirs_at k i ≡ false) × SameAt i k GateAfter
      by None no_up is = own (get k.relays i) refl no_up (sym (ap (λ (a : Option ℕ). stirs_by GateAfter a i) no_up) ∙ is)
      by (Some l) found is = (
        ap (λ (a : Option ℕ). stirs_by k a i) found ∙ sym (ap (λ (a : Option ℕ). stirs_by GateAfter a i) found) ∙ is,
        record {
          has = has_some (get k.ups i) (get k.relays i) (get gates i) (get k.gates i) (inl (ap is_some found));
          wants = ap (λ (a : Option ℕ). wants_at GateAfter a i) found ∙ sym (ap (λ (a : Option ℕ). wants_at k a i) found);
          held = ap (λ (a : Option ℕ). held_at GateAfter a i) found ∙ sym (ap (λ (a : Option ℕ). held_at k a i) found);
        },
      )

-- another one in its place
gate_written : (gates : Gates) (n : ℕ) (new : Gate) (j : ℕ)
    → (get (written gates n new) j ≡ get gates j) ⊎ (is_some (get (written gates n new) j) ≡ true)
gate_written gates n new j =
    ⊎_elim
    (λ here. subst (λ (i : ℕ). (get (written gates n new) i ≡ get gates i) ⊎ (is_some (get (written gates n new) i) ≡ true))
    (sym here) (by (get gates n) refl)) (λ apart. inl (written_elsewhere gates n new j apart)) (cases_eq j n)
  where
    by : (o : Option Gate) → get gates n ≡ o
        → (get (written gates n new) n ≡ get gates n) ⊎ (is_some (get (written gates n new) n) ≡ true)
    by None none = inl (ap (λ (m : Gates). get m n) (written_where_none gates n new none))
    by (Some w) is = inr (ap is_some (written_here gates n new (ap is_some is)))

pub gate_told_stirs : (k m : Relays) (gates : Gates) (n : ℕ) (new : Gate) → gates ≡ written k.gates n new
    → m ≡ gate_touched_at n (record k { gates = gates }) → Stirs k m
gate_told_stirs k m gates n new gates_is m_is i =
    subst (λ (w : Relays). StirsAt i k w)
    (sym (m_is ∙ ap (λ (all : Gates). gate_touched_at n (record k { gates = all })) gates_is))
    (gate_stirs k n (written k.gates n new) (written_elsewhere k.gates n new) i (gate_written k.gates n new i))

-- one is born
pub gate_put_stirs : (k m : Relays) (gates : Gates) (n : ℕ) (new : Gate) → gates ≡ insert k.gates n new
    → m ≡ gate_touched_at n (record k { gates = gates }) → Stirs k m
gate_put_stirs k m gates n new gates_is m_is i =
    subst (λ (w : Relays). StirsAt i k w)
    (sym (m_is ∙ ap (λ (all : Gates). gate_touched_at n (record k { gates = all })) gates_is))
    (gate_stirs k n (insert k.gates n new) (put_elsewhere k.gates n new) i (⊎_elim
    (λ here. inr (ap (λ (j : ℕ). is_some (get (insert k.gates n new) j)) here ∙ ap is_some (put_here k.gates n new)))
    (λ apart. inl (put_elsewhere k.gates n new i apart)) (cases_eq i n)))

-- its close was given
pub gate_gone_stirs : (k m : Relays) (gates : Gates) (n : ℕ) (new : Gate) → gates ≡ written k.gates n new
    → m ≡ gate_touched_at n (record k { gates = remove gates n }) → (i : ℕ) → i ≢ n → StirsAt i k m
gate_gone_stirs k m gates n new gates_is m_is i apart =
    subst (λ (w : Relays). StirsAt i k w) (sym m_is)
    (gate_stirs k n (remove gates n) elsewhere i (inl (elsewhere i apart)))
  where
    elsewhere : (j : ℕ) → j ≢ n → get (remove gates n) j ≡ get k.gates j
    elsewhere j other =
        removed_elsewhere gates n j other ∙ ap (λ (all : Gates). get all j) gates_is ∙ written_elsewhere k.gates n new j other

-- the same is seen of a link to a gateway
pub record IsGateSame (o p : Option Gate) : Type 0 where
  pub wants : gate_wants o ≡ gate_wants p
  pub output : gate_output o ≡ gate_output p
  pub some : is_some o ≡ is_some p

pub equal_gate : (o p : Option Gate) → o ≡ p → IsGateSame o p
equal_gate o p is = record { wants = ap gate_wants is; output = ap gate_output is; some = ap is_some is }

with_wants : (o : Option Relay) (p q : Option Gate) → gate_wants p ≡ gate_wants q → own_wants o p ≡ own_wants o q
with_wants None p q is = is
with_wants (Some w) p q is = refl

with_output : (o : Option Relay) (p q : Option Gate) → gate_output p ≡ gate_output q → own_output o p ≡ own_output o q
with_output None p q is = is
with_output (Some w) p q is = refl

-- so it is of the number
pub gate_same_stirs : (k m : Relays) (gates : Gates) → m ≡ record k { gates = gates }
    → ((j : ℕ) → IsGateSame (get gates j) (get k.gates j)) → Stirs k m
gate_same_stirs k m gates m_is same i =
    subst (λ (w : Relays). StirsAt i k w) (sym m_is) (record {
      has = inl (ap (λ (b : Bool). is_some (get k.ups i) || is_some (get k.relays i) || b) (same i).some);
      kept = λ was. sym (stirs_so (get k.ups i)) ∙ was;
      reads = λ was. inl (wants_so (get k.ups i) ∙ was);
      writes = λ was. inl (held_so (get k.ups i) ∙ was);
    })
  where
    After : Relays
    After = record k { gates = gates }

    wants_so : (at : Option ℕ) → wants_at After at i ≡ wants_at k at i
    wants_so None = with_wants (get k.relays i) (get gates i) (get k.gates i) (same i).wants
    wants_so (Some l) = refl

    held_so : (at : Option ℕ) → held_at After at i ≡ held_at k at i
    held_so None = with_output (get k.relays i) (get gates i) (get k.gates i) (same i).output
    held_so (Some l) = refl

    at_gate : (o p : Option Gate) → is_some p ≡ is_some o → gate_stirs_in k o i ≡ gate_stirs_in After p i
    at_gate None None is = refl
    at_gate (Some v) (Some w) is = refl
    at_gate None (Some w) is = absurd (false≢true (sym is))
    at_gate (Some v) None is = absurd (false≢true is)

    own : (o : Option Relay) → own_stirs k o i ≡ own_stirs After o i
    own None = at_gate (get k.gates i) (get gates i) (same i).some
    own (Some w) = refl

    stirs_so : (at : Option ℕ) → stirs_by k at i ≡ stirs_by After at i
    stirs_so None = own (get k.relays i)
    stirs_so (Some l) = refl

-- one of which the same is seen takes its place
pub gate_seen_stirs : (k m : Relays) (gates : Gates) (n : ℕ) (kept new : Gate) → get k.gates n ≡ Some kept → gates ≡ written k.gates n new
    → m ≡ record k { gates = gates } → wants_on new ≡ wants_on kept → output_on new ≡ output_on kept → Stirs k m
gate_seen_stirs k m gates n kept new is gates_is m_is wants output =
    gate_same_stirs k m gates m_is (λ j. ⊎_elim
    (λ at. subst (λ (i : ℕ). IsGateSame (get gates i) (get k.gates i)) (sym at)
    (subst (λ (o : Option Gate). IsGateSame o (get k.gates n))
    (sym (ap (λ (all : Gates). get all n) gates_is ∙ written_here k.gates n new (ap is_some is)))
    (subst (λ (o : Option Gate). IsGateSame (Some new) o) (sym is) (record { wants = wants; output = output; some = refl }))))
    (λ apart. equal_gate (get gates j) (get k.gates j)
    (ap (λ (all : Gates). get all j) gates_is ∙ written_elsewhere k.gates n new j apart)) (cases_eq j n))

-- so it is where a stream's mail is taken
pub taken_seen : (s : ℕ) (kept after : Gate) (mail : Option Mail) → TakesMail s kept mail after
    → (wants_on after ≡ wants_on kept) × (output_on after ≡ output_on kept)
taken_seen s kept after mail takes = by (get kept.streams s) takes.1
  where
    same : after ≡ kept → (wants_on after ≡ wants_on kept) × (output_on after ≡ output_on kept)
    same is = (ap wants_on is, ap output_on is)

    of : (o : Option Cause) (k : code_stream.Stream) → TakesBy o s k kept after
        → (wants_on after ≡ wants_on kept) × (output_on after ≡ output_on kept)
    of None k is = same is
    of (Some why) k is = (ap wants_on is.0 ∙ wants_still kept.phase, ap output_on is.0 ∙ output_still kept.phase)
      where
        then : Gate
        then = record kept { streams = after.streams }

        wants_still : (phase : code_phase.Phase) → wants_by phase then ≡ wants_by phase kept
        wants_still Serving = refl
        wants_still phase = refl

        output_still : (phase : code_phase.Phase) → output_by phase then ≡ output_by phase kept
        output_still Serving = refl
        output_still (Faulted code) = refl
        output_still phase = refl

    by : (o : Option code_stream.Stream) → TakesFrom o s kept after → (wants_on after ≡ wants_on kept) × (output_on after ≡ output_on kept)
    by None is = same is
    by (Some k) is = of k.mail k is

-- only the counts change
pub routed_stirs : (k : Relays) (routes : Routes) → Stirs k (routes_with routes k)
routed_stirs k routes i = record { has = inl refl; kept = λ was. was; reads = λ was. inl was; writes = λ was. inl was }

pub none_stirs : (k : Relays) → Stirs k k
none_stirs k = same_stirs k k.relays (λ j. equal_same (get k.relays j) (get k.relays j) refl) k refl

-- a link takes the place of one of which the same is seen
pub spared_same : (relays : Map) (l : ℕ) (old new : Relay) → get relays l ≡ Some old → captured_of new ≡ captured_of old → (j : ℕ)
    → IsSame (get (insert relays l new) j) (get relays j)
spared_same relays l old new is same j =
    ⊎_elim
    (λ here. subst (λ (i : ℕ). IsSame (get (insert relays l new) i) (get relays i)) (sym here)
    (subst (λ (o : Option Relay). IsSame o (get relays l)) (sym (put_here relays l new))
    (subst (λ (o : Option Relay). IsSame (Some new) o) (sym is) (record {
      wants = ap calm.wants same;
      up_wants = ap calm.up_wants same;
      output = ap calm.output same;
      up_output = ap calm.up_output same;
      some = refl;
    }))))
    (λ apart. equal_same (get (insert relays l new) j) (get relays j) (put_elsewhere relays l new j apart)) (cases_eq j l)

pub spared_stirs : (k n : Relays) (relays : Map) (l : ℕ) (old new : Relay) → get k.relays l ≡ Some old → captured_of new ≡ captured_of old
    → relays ≡ written k.relays l new → n ≡ record k { relays = relays } → Stirs k n
spared_stirs k n relays l old new is same relays_is n_is =
    subst (λ (m : Relays). Stirs k m) (sym (n_is ∙ ap (λ (m : Map). record k { relays = m })
    (relays_is ∙ written_where_some k.relays l new (ap is_some is))))
    (same_stirs k (insert k.relays l new) (spared_same k.relays l old new is same) (record k { relays = insert k.relays l new }) refl)

-- one change behind another
pub stirs_then : (a b c : Relays) (n : ℕ) → StirsAt n a b → StirsAt n b c → StirsAt n a c
stirs_then a b c n first more = record {
  has = ⊎_elim (λ same. ⊎_elim (λ before. inl (same ∙ before)) (λ now. inr (same ∙ now.0, more.kept now.1)) first.has) inr more.has;
  kept = λ was. more.kept (first.kept was);
  reads = λ was. ⊎_elim more.reads (λ is. inr (more.kept is)) (first.reads was);
  writes = λ was. ⊎_elim more.writes (λ is. inr (more.kept is)) (first.writes was);
}

pub stirs_all_then : (a b c : Relays) → Stirs a b → Stirs b c → Stirs a c
stirs_all_then a b c first more n = stirs_then a b c n (first n) (more n)

pub stirs_but_then : (a b c : Relays) (out : Option ℕ) → Stirs a b → StirsBut out b c → StirsBut out a c
stirs_but_then a b c out first more n apart = stirs_then a b c n (first n) (more n apart)

pub any_stirs : (a b : Relays) → StirsBut None a b → Stirs a b
any_stirs a b but n = but n none
  where
    none : None ≢ Some n
    none is = cc is
