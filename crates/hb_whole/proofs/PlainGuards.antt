-- An entry of a plain link, of its upstream, or of a link to a gateway, which the event loop tells, may come next in the machine.
use Rattle.std.proofs.Common.{◌≡◌, ◌⊎◌, inl, inr, ⊎_elim, ℕ, ◌<◌, ◌≤◌, Bool, true, false, is_none, List, ◌++◌, length, take, drop, Some, None, refl, ap, sym, ◌∙◌, subst, arith}
use Rattle.std.proofs.lemmas.Bool.{and_parts}
use Rattle.std.proofs.lemmas.List.{length-take, take-append-drop}
use Rattle.std.specs.FinMap.{get}
use Rattle.hb_base.specs.declared.note.Note.{Note}
use Rattle.hb_captured.specs.Calm as calm
use Rattle.hb_captured.specs.Captured as captured
use Rattle.hb_captured.specs.Captured.{Captured}
use Rattle.hb_captured.specs.Part as part
use Rattle.hb_captured.specs.Runs.{IsAt, IsTried, IsUp, AreFirst}
use Rattle.hb_frames.specs.Frames.{AreOctets}
use Rattle.hb_gateway.specs.Part as gate_part
use Rattle.hb_node.specs.State.{due_of}
use Rattle.hb_proxy.proofs.Owned.{all_owned, whose_in}
use Rattle.hb_proxy.specs.Doors.{without_doors}
use Rattle.hb_proxy.specs.Machine.{Machine}
use Rattle.hb_proxy.specs.Points.{of_plain, of_gate}
use Rattle.hb_proxy.specs.Runs.{DialsGate, MayDialGate}
use Rattle.hb_proxy.specs.Seen.{Seen, IsPlainThere, IsGateThere}
use Rattle.hb_proxy.specs.Ups.{IsRelayOf}
use Rattle.hb_ready.specs.Sight.{is_open}
use Rattle.hb_relays.proofs.Straight.{runs_straight}
use Rattle.hb_relays.specs.Calls as relays
use Rattle.hb_turns.specs.Shown.{MayCome, MayWrite}
use Rattle.hb_world.specs.Trace.{lives}
use Rattle.hb_world.specs.declared.entry.Entry.{Entry}
use Rattle.hb_world.specs.declared.entry.Entry.TheVariants as e
use Rattle.hb_world.specs.declared.entry.Way.TheVariants as way
use Rattle.hb_whole.specs.Sight.{owner_of, shown_of, wants_by, output_by, last_by}
use Rattle.hb_whole.specs.Stands.{Stands}
use Rattle.hb_whole.specs.declared.owner.Owner.{Owner}
use Rattle.hb_whole.specs.declared.owner.Owner.TheVariants.{Plain}
use Rattle.hb_whole.specs.declared.proxy.Proxy.{Proxy}
use Rattle.hb_whole.proofs.Free.{Free, free}
use Rattle.hb_whole.proofs.GateGuards as gates
use Rattle.hb_whole.proofs.Guarded.{PlainGuarded, guarded_plain, guarded_relay}
use Rattle.hb_whole.proofs.PlainMay.{tried_stage, relay_stage, opening_relay, live_wants, live_output, free_plain}
use Rattle.hb_whole.proofs.Relays.{dials_none, last_gate, wants_plain, output_plain, wants_relay, output_relay}
use Rattle.hb_whole.proofs.Routes.{PlainRoute, to_plain, to_relay, to_gate, plain_route, seen_of, open_then}

not_both : (b : Bool) → b ≡ true → b ≡ false → ⊥
not_both b holds fails = absurd cc

-- WHERE ALL IS QUIET

pub tried_at : (x : Captured) → calm.IsQuiet x → IsPlainThere x → IsTried x
tried_at x quiet there =
    ⊎_elim (λ is. inl (quiet, is)) (λ more. inr (⊎_elim (λ is. inl (quiet, is)) (λ is. inr (quiet, is)) more))
    (tried_stage x.stage x there quiet.0 quiet.1)

-- an upstream that is there
pub relay_at : (taken : List Note) (p : Proxy) (trace : List Entry) (s : Stands taken p trace) (k u : ℕ)
    → calm.IsQuiet (s.machine.plain k) → IsRelayOf (s.machine.plain k) u
    → ((s.machine.plain k).stage ≡ captured.opening) ⊎ ((s.machine.plain k).stage ≡ captured.live)
relay_at taken p trace s k u quiet joins =
    relay_stage (s.machine.plain k).stage (s.machine.plain k) (whose_in s.points) k u joins.0 joins.1 quiet.0 quiet.1
    ((all_owned p.control.config s.machine s.points s.run).relay k)

module _ (taken : List Note) (p : Proxy) (trace : List Entry) (s : Stands taken p trace) (l : ℕ) (whose : owner_of p l ≡ Plain) where
  abbrev pub x : Machine
  x = s.machine

  seen : Seen x (without_doors trace)
  seen = seen_of taken p trace s

  -- a link with an upstream goes straight
  dials : (k : ℕ) → IsRelayOf (x.plain k) l → DialsGate x k × MayDialGate p.control.config x k
  dials k joins =
      dials_none p.control.config x k ((runs_straight p.control.config x s.points s.run k).straight
      (subst (λ (u : ℕ). 0 < u) (sym joins.1) joins.0))

  -- it is one to a gateway
  record OfGate : Type 0 where
    pub there : IsGateThere (x.gates l).phase
    pub no_up : get p.side.relays.ups l ≡ None
    pub no_relay : get p.side.relays.relays l ≡ None
    pub found : (z : Entry) → relays.point_for p.side.relays l z ≡ Some (of_gate l (gate_part.entry z))

  -- it isn't open
  data Opens : Type 0 where
    gate_opens : OfGate → Opens
    relay_opens : (k : ℕ) → ((z : Entry) → relays.point_for p.side.relays l z ≡ Some (of_plain k (part.up z)))
        → IsUp captured.opening l (x.plain k) → Opens

  opens : Free x → lives l trace ≡ true → is_open l trace ≡ false → Opens
  opens all alive closed = by (plain_route taken p trace s l whose alive)
    where
      closed_so : is_open l (without_doors trace) ≡ false
      closed_so = open_then trace l ∙ closed

      by : PlainRoute p x l → Opens
      by (to_gate there up relay found) = gate_opens (record { there = there; no_up = up; no_relay = relay; found = found })
      by (to_plain there none found) = absurd (not_both (is_open l (without_doors trace)) (seen.plain.link l there).1 closed_so)
      by (to_relay k joins up found) =
          relay_opens k found (
            (
              all.plain k,
              opening_relay (x.plain k).stage (is_open l (without_doors trace)) (relay_at taken p trace s k l (all.plain k) joins)
                  (seen.plain.up k l joins).2 closed_so,
            ),
            joins.1,
            joins.0,
          )

  pub opened_may : MayCome (shown_of p) trace (e.Opened l) → PlainGuarded p x l (e.Opened l)
  opened_may may = by (opens all may.1.0 may.1.1)
    where
      all : Free x
      all = free taken p trace s may.0

      by : Opens → PlainGuarded p x l (e.Opened l)
      by (gate_opens at) = gates.opened_may taken p trace s l whose at.there at.no_up at.no_relay at.found may
      by (relay_opens k found up) =
          guarded_relay p x l k (e.Opened l) found up (free_plain x k (e.Opened l) all tt) (dials k (up.2, up.1))

  pub finish_balks : MayCome (shown_of p) trace (e.Balked (way.Finish l)) → PlainGuarded p x l (e.Balked (way.Finish l))
  finish_balks may = by (opens all may.1.0 may.1.1)
    where
      all : Free x
      all = free taken p trace s may.0

      by : Opens → PlainGuarded p x l (e.Balked (way.Finish l))
      by (gate_opens at) = gates.finish_balks taken p trace s l whose at.there at.no_up at.no_relay at.found may
      by (relay_opens k found up) =
          guarded_relay p x l k (e.Balked (way.Finish l)) found up (free_plain x k (e.Balked (way.Finish l)) all tt)
          (dials k (up.2, up.1))

  wanted : wants_by (owner_of p l) p l ≡ relays.wants_of p.side.relays l
  wanted = ap (λ (o : Owner). wants_by o p l) whose

  held : output_by (owner_of p l) p l ≡ relays.held_of p.side.relays l
  held = ap (λ (o : Owner). output_by o p l) whose

  -- bytes are read on it
  data Reads : Type 0 where
    gate_reads : OfGate → Reads
    link_reads : ((z : Entry) → relays.point_for p.side.relays l z ≡ Some (of_plain l (part.entry z)))
        → IsTried (x.plain l) → (shown_of p).wants l ≡ calm.wants (x.plain l) → Reads
    up_reads : (k : ℕ) → ((z : Entry) → relays.point_for p.side.relays l z ≡ Some (of_plain k (part.up z)))
        → IsUp captured.live l (x.plain k) → (shown_of p).wants l ≡ calm.up_wants (x.plain k) → Reads

  reads : Free x → lives l trace ≡ true → 0 < (shown_of p).wants l → Reads
  reads all alive some = by (plain_route taken p trace s l whose alive)
    where
      by : PlainRoute p x l → Reads
      by (to_gate there up relay found) = gate_reads (record { there = there; no_up = up; no_relay = relay; found = found })
      by (to_plain there none found) =
          link_reads found (tried_at (x.plain l) (all.plain l) there) (wanted ∙ wants_plain p.side.relays s.relays l there none)
      by (to_relay k joins up found) =
          let same = wanted ∙ wants_relay p.side.relays s.relays l k up in
          up_reads k found (
            (all.plain k, live_wants (x.plain k).stage (x.plain k) (subst (λ (n : ℕ). 0 < n) same some)),
            joins.1,
            joins.0,
          ) same

  pub came_may : (bytes : List ℕ) → AreOctets bytes → MayCome (shown_of p) trace (e.Came l bytes) → PlainGuarded p x l (e.Came l bytes)
  came_may bytes octets may = by (reads all may.1.0 (some_of may.2 may.3))
    where
      all : Free x
      all = free taken p trace s may.0

      some_of : 0 < length bytes → length bytes ≤ (shown_of p).wants l → 0 < (shown_of p).wants l
      some_of some few = omega arith

      by : Reads → PlainGuarded p x l (e.Came l bytes)
      by (gate_reads at) = gates.came_may taken p trace s l whose at.there at.no_up at.no_relay at.found bytes octets may
      by (link_reads found tried same) =
          guarded_plain p x l (e.Came l bytes) found (
            refl,
            (tried, subst (λ (n : ℕ). 0 < n) same (some_of may.2 may.3)),
            (octets, may.2, subst (λ (n : ℕ). length bytes ≤ n) same may.3),
          )
          (free_plain x l (e.Came l bytes) all tt)
      by (up_reads k found up same) =
          guarded_relay p x l k (e.Came l bytes) found (up, (octets, may.2, subst (λ (n : ℕ). length bytes ≤ n) same may.3))
          (free_plain x k (e.Came l bytes) all tt) (dials k (up.2, up.1))

  -- where it ends, and where nothing comes
  pub ended_may : MayCome (shown_of p) trace (e.Ended l) → PlainGuarded p x l (e.Ended l)
  ended_may may = by (reads all may.1.0 may.2)
    where
      all : Free x
      all = free taken p trace s may.0

      by : Reads → PlainGuarded p x l (e.Ended l)
      by (gate_reads at) = gates.ended_may taken p trace s l whose at.there at.no_up at.no_relay at.found may
      by (link_reads found tried same) =
          guarded_plain p x l (e.Ended l) found (refl, (tried, subst (λ (n : ℕ). 0 < n) same may.2)) (free_plain x l (e.Ended l) all tt)
      by (up_reads k found up same) =
          guarded_relay p x l k (e.Ended l) found (up, subst (λ (n : ℕ). 0 < n) same may.2)
          (free_plain x k (e.Ended l) all tt) (dials k (up.2, up.1))

  pub read_balks : MayCome (shown_of p) trace (e.Balked (way.Read l)) → PlainGuarded p x l (e.Balked (way.Read l))
  read_balks may = by (reads all may.1.0 may.2)
    where
      all : Free x
      all = free taken p trace s may.0

      by : Reads → PlainGuarded p x l (e.Balked (way.Read l))
      by (gate_reads at) = gates.read_balks taken p trace s l whose at.there at.no_up at.no_relay at.found may
      by (link_reads found tried same) =
          guarded_plain p x l (e.Balked (way.Read l)) found (refl, (tried, subst (λ (n : ℕ). 0 < n) same may.2))
          (free_plain x l (e.Balked (way.Read l)) all tt)
      by (up_reads k found up same) =
          guarded_relay p x l k (e.Balked (way.Read l)) found (up, subst (λ (n : ℕ). 0 < n) same may.2)
          (free_plain x k (e.Balked (way.Read l)) all tt) (dials k (up.2, up.1))

  -- a write goes only where all is quiet, but on a link to a gateway: no other one has last words
  may_free : (IsGateThere (x.gates l).phase → ⊥) → MayWrite (shown_of p) l → Free x
  may_free gone may =
      free taken p trace s (
        may.0,
        ⊎_elim (λ idle. idle)
            (λ last. let parts = and_parts (is_none (due_of p.control)) _ (ap (λ (o : Owner). last_by o p l) (sym whose) ∙ last) in
            absurd (gone (subst IsGateThere (sym (last_gate p.side.relays s.relays l parts.1).1) tt))) may.1,
      )

  no_gate : IsPlainThere (x.plain l) → IsGateThere (x.gates l).phase → ⊥
  no_gate there gate = (seen.gates.alone l gate).2 there

  no_gate_up : (k : ℕ) → IsRelayOf (x.plain k) l → IsGateThere (x.gates l).phase → ⊥
  no_gate_up k joins gate = (seen.gates.alone l gate).4 k joins

  pub broke_may : MayCome (shown_of p) trace (e.Broke l) → PlainGuarded p x l (e.Broke l)
  broke_may may = by (plain_route taken p trace s l whose may.1)
    where
      by : PlainRoute p x l → PlainGuarded p x l (e.Broke l)
      by (to_gate there up relay found) = gates.broke_may taken p trace s l whose there up relay found may
      by (to_plain there none found) =
          let all = may_free (no_gate there) may.0 in
          guarded_plain p x l (e.Broke l) found (refl, tried_at (x.plain l) (all.plain l) there) (free_plain x l (e.Broke l) all tt)
      by (to_relay k joins up found) =
          let all = may_free (no_gate_up k joins) may.0 in
          guarded_relay p x l k (e.Broke l) found
          (⊎_elim (λ is. inl ((all.plain k, is), joins.1, joins.0)) (λ is. inr ((all.plain k, is), joins.1, joins.0))
          (relay_at taken p trace s k l (all.plain k) joins))
          (free_plain x k (e.Broke l) all tt) (dials k joins)

  -- bytes are written on it
  data Writes : Type 0 where
    gate_writes : OfGate → Writes
    link_writes : Free x → ((z : Entry) → relays.point_for p.side.relays l z ≡ Some (of_plain l (part.entry z)))
        → IsAt captured.live (x.plain l) → (shown_of p).output l ≡ calm.output (x.plain l) → Writes
    up_writes : (k : ℕ) → Free x → ((z : Entry) → relays.point_for p.side.relays l z ≡ Some (of_plain k (part.up z)))
        → IsUp captured.live l (x.plain k) → (shown_of p).output l ≡ calm.up_output (x.plain k) → Writes

  writes : MayWrite (shown_of p) l → lives l trace ≡ true → 0 < length ((shown_of p).output l) → Writes
  writes may alive some = by (plain_route taken p trace s l whose alive)
    where
      by : PlainRoute p x l → Writes
      by (to_gate there up relay found) = gate_writes (record { there = there; no_up = up; no_relay = relay; found = found })
      by (to_plain there none found) =
          let all = may_free (no_gate there) may in
          let same = held ∙ output_plain p.side.relays s.relays l there none in
          link_writes all found
          (all.plain l, live_output (x.plain l).stage (x.plain l).ways.down.held (subst (λ (bs : List ℕ). 0 < length bs) same some)) same
      by (to_relay k joins up found) =
          let all = may_free (no_gate_up k joins) may in
          let same = held ∙ output_relay p.side.relays s.relays l k up in
          up_writes k all found (
            (all.plain k, live_output (x.plain k).stage (x.plain k).ways.up.held (subst (λ (bs : List ℕ). 0 < length bs) same some)),
            joins.1,
            joins.0,
          ) same

  -- the first of what waits
  first_of : (n : ℕ) (bytes out waits : List ℕ) → 0 < n → n ≤ length out → bytes ≡ take n out → out ≡ waits → AreFirst bytes waits
  first_of n bytes out waits first enough are same = (
    let long = length-take n out in subst (λ (bs : List ℕ). 0 < length bs) (sym are) (omega arith),
    (drop n out, sym same ∙ sym (take-append-drop n out) ∙ ap (λ (bs : List ℕ). bs ++ drop n out) (sym are)),
  )

  pub went_may : (bytes : List ℕ) → MayCome (shown_of p) trace (e.Went l bytes) → PlainGuarded p x l (e.Went l bytes)
  went_may bytes may = by (writes may.0 may.1.0 waits)
    where
      waits : 0 < length ((shown_of p).output l)
      waits = let first : 0 < may.2 = may.3 in let few : may.2 ≤ length ((shown_of p).output l) = may.4 in omega arith

      by : Writes → PlainGuarded p x l (e.Went l bytes)
      by (gate_writes at) = gates.went_may taken p trace s l whose at.there at.no_up at.no_relay at.found bytes may
      by (link_writes all found at same) =
          guarded_plain p x l (e.Went l bytes) found
          (refl, at, first_of may.2 bytes ((shown_of p).output l) (calm.output (x.plain l)) may.3 may.4 may.5 same)
          (free_plain x l (e.Went l bytes) all tt)
      by (up_writes k all found up same) =
          guarded_relay p x l k (e.Went l bytes) found
          (up, first_of may.2 bytes ((shown_of p).output l) (calm.up_output (x.plain k)) may.3 may.4 may.5 same)
          (free_plain x k (e.Went l bytes) all tt) (dials k (up.2, up.1))

  pub write_balks : MayCome (shown_of p) trace (e.Balked (way.Write l)) → PlainGuarded p x l (e.Balked (way.Write l))
  write_balks may = by (writes may.0 may.1.0 may.2)
    where
      by : Writes → PlainGuarded p x l (e.Balked (way.Write l))
      by (gate_writes at) = gates.write_balks taken p trace s l whose at.there at.no_up at.no_relay at.found may
      by (link_writes all found at same) =
          guarded_plain p x l (e.Balked (way.Write l)) found (refl, at, subst (λ (bs : List ℕ). 0 < length bs) same may.2)
          (free_plain x l (e.Balked (way.Write l)) all tt)
      by (up_writes k all found up same) =
          guarded_relay p x l k (e.Balked (way.Write l)) found (up, subst (λ (bs : List ℕ). 0 < length bs) same may.2)
          (free_plain x k (e.Balked (way.Write l)) all tt) (dials k (up.2, up.1))
