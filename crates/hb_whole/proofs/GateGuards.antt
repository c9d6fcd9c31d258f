-- An entry of a link to a gateway, which the event loop tells, may come next in the machine.
use Rattle.std.proofs.Common.{◌≡◌, ◌⊎◌, inl, inr, ⊎_elim, ℕ, ◌<◌, ◌≤◌, ◌||◌, Bool, true, false, is_none, List, ◌++◌, length, take, drop, Some, None, refl, ap, sym, ◌∙◌, subst, arith}
use Rattle.std.proofs.lemmas.Bool.{and_parts}
use Rattle.std.proofs.lemmas.List.{length-take, take-append-drop}
use Rattle.std.specs.FinMap.{get}
use Rattle.hb_base.specs.declared.note.Note.{Note}
use Rattle.hb_frames.specs.Frames.{AreOctets}
use Rattle.hb_gateway.specs.Calm as calm
use Rattle.hb_gateway.specs.Calm.{IsQuiet, close_due}
use Rattle.hb_gateway.specs.Gateway as m
use Rattle.hb_gateway.specs.Gateway.{Gateway, Phase}
use Rattle.hb_gateway.specs.Part as part
use Rattle.hb_gateway.specs.Runs.{IsQuietAt, IsReadable, IsWritable}
use Rattle.hb_links.proofs.Acting.{all_calm}
use Rattle.hb_node.specs.State.{due_of}
use Rattle.hb_proxy.specs.Doors.{without_doors}
use Rattle.hb_proxy.specs.Machine.{Machine}
use Rattle.hb_proxy.specs.Points.{of_gate}
use Rattle.hb_proxy.specs.Runs.{BirthMayCome, GateMayCome, GatesLet, Lets, PlainLets, gate_first, is_gate_faulted, is_act}
use Rattle.hb_proxy.specs.Seen.{Seen, GateOpenBy, IsGateThere}
use Rattle.hb_ready.specs.Sight.{is_open}
use Rattle.hb_relays.specs.Calls as relays
use Rattle.hb_turns.specs.Shown.{MayCome, MayWrite}
use Rattle.hb_world.specs.declared.entry.Entry.{Entry}
use Rattle.hb_world.specs.declared.entry.Entry.TheVariants as e
use Rattle.hb_world.specs.declared.entry.Way.TheVariants as way
use Rattle.hb_whole.specs.Sight.{owner_of, shown_of, wants_by, output_by, last_by}
use Rattle.hb_whole.specs.Stands.{Stands}
use Rattle.hb_whole.specs.declared.owner.Owner.{Owner}
use Rattle.hb_whole.specs.declared.owner.Owner.TheVariants.{Plain}
use Rattle.hb_whole.specs.declared.proxy.Proxy.{Proxy}
use Rattle.hb_whole.proofs.Free.{Free, free, control_quiet, goes_on, lets_all, none_of, plain_lets_all, rests_of}
use Rattle.hb_whole.proofs.Guarded.{PlainGuarded, guarded_gate}
use Rattle.hb_whole.proofs.Relays.{gates_calm, last_gate, output_gate, plain_calm, wants_gate}
use Rattle.hb_whole.proofs.Routes.{seen_of, open_then}

-- THE PHASE, BY WHAT MAY BE DONE

open_phase : (phase : Phase) → IsGateThere phase → close_due phase ≡ None → (phase ≡ m.opening) ⊎ (phase ≡ m.serving)
open_phase m.unborn there none = absurd there
open_phase m.closed there none = absurd there
open_phase m.opening there none = inl refl
open_phase m.serving there none = inr refl
open_phase (m.faulted code) there none = absurd cc
open_phase (m.closing why) there none = absurd cc

opening_phase : (phase : Phase) (opens : Bool) → (phase ≡ m.opening) ⊎ (phase ≡ m.serving) → GateOpenBy phase opens → opens ≡ false
    → phase ≡ m.opening
opening_phase phase opens (inl is) told closed = is
opening_phase phase opens (inr is) told closed =
    let opened : opens ≡ true = subst (λ (q : Phase). GateOpenBy q opens) is told in absurd cc

serving_wants : (phase : Phase) (y : Gateway) → 0 < calm.wants_by phase y → phase ≡ m.serving
serving_wants m.unborn y some = absurd (omega arith)
serving_wants m.closed y some = absurd (omega arith)
serving_wants m.opening y some = absurd (omega arith)
serving_wants m.serving y some = refl
serving_wants (m.faulted code) y some = absurd (omega arith)
serving_wants (m.closing why) y some = absurd (omega arith)

-- nothing more happens by itself elsewhere
free_gate : (x : Machine) (n : ℕ) (z : Entry) → Free x → BirthMayCome x z → GateMayCome x n z
free_gate x n z free birth = record {
  birth = birth;
  control = rests_of x.control free.control;
  links = λ k. lets_all (gate_first (x.gates n).phase z) (x.inbound k) (free.links k);
  plain = λ k. plain_lets_all (gate_first (x.gates n).phase z) (x.plain k) (free.plain k);
  others = λ k apart. (free.gates (gate_first (x.gates n).phase z)).gates k;
  streams = (free.gates (gate_first (x.gates n).phase z)).streams;
}

-- WHICH MAY COME

module _ (taken : List Note) (p : Proxy) (trace : List Entry) (s : Stands taken p trace) (n : ℕ) (whose : owner_of p n ≡ Plain)
    (there : IsGateThere (s.machine.gates n).phase) (no_up : get p.side.relays.ups n ≡ None) (no_relay : get p.side.relays.relays n ≡ None)
    (found : (z : Entry) → relays.point_for p.side.relays n z ≡ Some (of_gate n (part.entry z))) where
  abbrev x : Machine
  x = s.machine

  abbrev y : Gateway
  y = s.machine.gates n

  seen : Seen x (without_doors trace)
  seen = seen_of taken p trace s

  wanted : (shown_of p).wants n ≡ calm.wants y
  wanted = ap (λ (o : Owner). wants_by o p n) whose ∙ wants_gate p.side.relays s.relays n there no_up no_relay

  held : (shown_of p).output n ≡ calm.output y
  held = ap (λ (o : Owner). output_by o p n) whose ∙ output_gate p.side.relays s.relays n there no_up no_relay

  quiet : Free x → IsQuiet y
  quiet all = (all.gates false).gates n

  going : Free x → (y.phase ≡ m.opening) ⊎ (y.phase ≡ m.serving)
  going all = open_phase y.phase there (quiet all).no_close

  at_opening : Free x → is_open n trace ≡ false → IsQuietAt m.opening y
  at_opening all closed = (
    quiet all,
    opening_phase y.phase (is_open n (without_doors trace)) (going all) (seen.gates.link_open n there) (open_then trace n ∙ closed),
  )

  at_serving : Free x → 0 < (shown_of p).wants n → IsReadable y
  at_serving all some =
      let more : 0 < calm.wants y = subst (λ (k : ℕ). 0 < k) wanted some in
      ((quiet all, serving_wants y.phase y more), more)

  pub opened_may : MayCome (shown_of p) trace (e.Opened n) → PlainGuarded p x n (e.Opened n)
  opened_may may =
      let all = free taken p trace s may.0 in
      guarded_gate p x n (e.Opened n) found (refl, at_opening all may.1.1) (free_gate x n (e.Opened n) all tt)

  pub finish_balks : MayCome (shown_of p) trace (e.Balked (way.Finish n)) → PlainGuarded p x n (e.Balked (way.Finish n))
  finish_balks may =
      let all = free taken p trace s may.0 in
      guarded_gate p x n (e.Balked (way.Finish n)) found (refl, at_opening all may.1.1) (free_gate x n (e.Balked (way.Finish n)) all tt)

  pub came_may : (bytes : List ℕ) → AreOctets bytes → MayCome (shown_of p) trace (e.Came n bytes) → PlainGuarded p x n (e.Came n bytes)
  came_may bytes octets may =
      let all = free taken p trace s may.0 in
      let some : 0 < length bytes = may.2 in
      let few : length bytes ≤ (shown_of p).wants n = may.3 in
      let more : 0 < (shown_of p).wants n = omega arith in
      guarded_gate p x n (e.Came n bytes) found
      (refl, at_serving all more, octets, some, subst (λ (k : ℕ). length bytes ≤ k) wanted few) (free_gate x n (e.Came n bytes) all tt)

  pub ended_may : MayCome (shown_of p) trace (e.Ended n) → PlainGuarded p x n (e.Ended n)
  ended_may may =
      let all = free taken p trace s may.0 in
      guarded_gate p x n (e.Ended n) found (refl, at_serving all may.2) (free_gate x n (e.Ended n) all tt)

  pub read_balks : MayCome (shown_of p) trace (e.Balked (way.Read n)) → PlainGuarded p x n (e.Balked (way.Read n))
  read_balks may =
      let all = free taken p trace s may.0 in
      guarded_gate p x n (e.Balked (way.Read n)) found (refl, at_serving all may.2) (free_gate x n (e.Balked (way.Read n)) all tt)

  -- a call that writes, or that fails, is made on it
  record Writes : Type 0 where
    pub at : IsQuietAt m.opening y ⊎ IsWritable y
    pub guard : (z : Entry) → BirthMayCome x z → GateMayCome x n z

  free_writes : Free x → Writes
  free_writes all = record {
    at = ⊎_elim (λ is. inl (quiet all, is)) (λ is. inr (inl (quiet all, is))) (going all);
    guard = λ z birth. free_gate x n z all birth;
  }

  -- the one write behind a connection error
  last_writes : p.ends_for ≡ None → is_none (due_of p.control) ≡ true → (code : ℕ) → y.phase ≡ m.faulted code → Writes
  last_writes going none code faulted = record {
    at = inr (inr (s.relays.calm.gates n, code, faulted));
    guard = λ z birth.
        let first : gate_first y.phase z ≡ true = ap (λ (q : Phase). is_gate_faulted q || is_act z) faulted in
        let gates : GatesLet (gate_first y.phase z) x = gates_calm x s.relays (gate_first y.phase z) first in
        record {
          birth = birth;
          control = rests_of x.control
              (control_quiet p.control x.control s.control (none_of (due_of p.control) none) (goes_on p x s.ends going));
          links = λ k. subst (λ (b : Bool). Lets b (x.inbound k)) (sym first) (all_calm p.side.links x.inbound s.links k);
          plain = λ k. subst (λ (b : Bool). PlainLets b (x.plain k)) (sym first) (plain_calm p.side.relays s.relays k);
          others = λ k apart. gates.gates k;
          streams = gates.streams;
        };
  }

  writes : MayWrite (shown_of p) n → Writes
  writes may =
      ⊎_elim (λ idle. free_writes (free taken p trace s (may.0, idle)))
      (λ last. let parts = and_parts (is_none (due_of p.control)) _ (ap (λ (o : Owner). last_by o p n) (sym whose) ∙ last) in
      let words = last_gate p.side.relays s.relays n parts.1 in
      last_writes may.0 parts.0 words.0 words.1) may.1

  pub broke_may : MayCome (shown_of p) trace (e.Broke n) → PlainGuarded p x n (e.Broke n)
  broke_may may =
      let w = writes may.0 in
      guarded_gate p x n (e.Broke n) found (refl, w.at) (w.guard (e.Broke n) tt)

  -- where something waits
  writable : Writes → 0 < length (calm.output y) → IsWritable y
  writable w some =
      ⊎_elim (λ opening. let none : 0 < 0 = subst (λ (q : Phase). 0 < length (calm.output_by q y)) opening.1 some in absurd (omega arith))
      (λ is. is) w.at

  pub went_may : (bytes : List ℕ) → MayCome (shown_of p) trace (e.Went n bytes) → PlainGuarded p x n (e.Went n bytes)
  went_may bytes may =
      let w = writes may.0 in
      let k = may.2 in
      let out = calm.output y in
      let first : 0 < k = may.3 in
      let enough : k ≤ length out = subst (λ (bs : List ℕ). k ≤ length bs) held may.4 in
      let are : bytes ≡ take k out = may.5 ∙ ap (λ (bs : List ℕ). take k bs) held in
      let long = length-take k out in
      let waits : 0 < length out = omega arith in
      let some : 0 < length bytes = subst (λ (bs : List ℕ). 0 < length bs) (sym are) (omega arith) in
      guarded_gate p x n (e.Went n bytes) found (
        refl,
        writable w waits,
        some,
        (drop k out, sym (take-append-drop k out) ∙ ap (λ (bs : List ℕ). bs ++ drop k out) (sym are)),
      )
      (w.guard (e.Went n bytes) tt)

  pub write_balks : MayCome (shown_of p) trace (e.Balked (way.Write n)) → PlainGuarded p x n (e.Balked (way.Write n))
  write_balks may =
      let w = writes may.0 in
      let some : 0 < length (calm.output y) = subst (λ (bs : List ℕ). 0 < length bs) held may.2 in
      guarded_gate p x n (e.Balked (way.Write n)) found (refl, writable w some, some) (w.guard (e.Balked (way.Write n)) tt)
