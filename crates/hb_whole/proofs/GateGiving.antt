-- What a close that is given of a link to a gateway makes of the traces that the proxy stands for, and how the run ends there.
use Rattle.std.proofs.Common.{◌≡◌, ℕ, ◌==◌, Bool, true, false, cond, List, Option, Some, None, refl, ap, sym, ◌∙◌, subst}
use Rattle.hb_base.specs.declared.cause.Cause.{Cause}
use Rattle.hb_base.specs.declared.note.Note.{Note}
use Rattle.hb_gateway.specs.Calm.{close_due}
use Rattle.hb_gateway.specs.Gateway as m
use Rattle.hb_gateway.specs.Gateway.{Gateway, Phase}
use Rattle.hb_gateway.specs.Part.{Part, entry}
use Rattle.hb_links.specs.Load.{Recounts}
use Rattle.hb_links.specs.Shows.{ShowsAll}
use Rattle.hb_links.specs.declared.links.Links.{Links}
use Rattle.hb_proxy.specs.Machine.{Machine, with_gate}
use Rattle.hb_proxy.specs.Points.{of_gate}
use Rattle.hb_proxy.specs.Seen.{IsGateThere}
use Rattle.hb_relays.specs.Acts.{DoesGate}
use Rattle.hb_relays.specs.declared.relays.Relays.{Relays}
use Rattle.hb_world.specs.declared.entry.Entry.{Entry}
use Rattle.hb_world.specs.declared.entry.Entry.TheVariants as e
use Rattle.hb_whole.specs.Stands.{Stands, EndsBy, Ends, GateEnds}
use Rattle.hb_whole.specs.declared.proxy.Proxy.{Proxy}
use Rattle.hb_whole.proofs.Giving.{acted, Closes}
use Rattle.hb_whole.proofs.Routes.{seen_of, lives_then}

-- HOW THE RUN ENDS

-- a link that ends so is of a run that does
pub gate_ends_at : (c : Cause) (x : Machine) (n : ℕ) (p : Part) (next : Gateway) → GateEnds c next.phase → Ends c x
    → Ends c (with_gate n p next x)
gate_ends_at c x n p next gate is = record {
  control = is.control;
  links = is.links;
  tunnels = is.tunnels;
  plain = is.plain;
  gates = λ k. by (k == n) k (is.gates k);
}
  where
    by : (b : Bool) (k : ℕ) → GateEnds c (x.gates k).phase → GateEnds c (cond b next (x.gates k)).phase
    by true k so = gate
    by false k so = so

-- a closed one does
closed_ends : (ends : Option Cause) (x : Machine) (n : ℕ) (p : Part) (next : Gateway) → next.phase ≡ m.closed → EndsBy ends x
    → EndsBy ends (with_gate n p next x)
closed_ends None x n p next closed is = is
closed_ends (Some c) x n p next closed is =
    (is.0, gate_ends_at c x n p next (subst (λ (q : Phase). GateEnds c q) (sym closed) tt) is.1)

-- one that is to be closed is there, for the cause of the end where the run has ended
due_there : (phase : Phase) (cause : Cause) → close_due phase ≡ Some cause → IsGateThere phase
due_there m.unborn cause is = absurd cc
due_there m.closed cause is = absurd cc
due_there m.opening cause is = absurd cc
due_there m.serving cause is = absurd cc
due_there (m.faulted code) cause is = tt
due_there (m.closing why) cause is = tt

due_for : (phase : Phase) (cause c : Cause) → close_due phase ≡ Some cause → GateEnds c phase → cause ≡ c
due_for m.unborn cause c is ends = absurd cc
due_for m.closed cause c is ends = absurd cc
due_for m.opening cause c is ends = absurd cc
due_for m.serving cause c is ends = absurd cc
due_for (m.faulted code) cause c is ends = absurd ends
due_for (m.closing why) cause c is ends = let same : why ≡ cause = cc in sym same ∙ ends

-- ITS CLOSE, where the inbound links were asked first, and are shown still
pub gate_closes : (taken : List Note) (p : Proxy) (asked : Links) (behind : Relays) (trace : List Entry) (s : Stands taken p trace)
    → ShowsAll asked s.machine.inbound → Recounts p.side.links asked → (n : ℕ) (why : Cause) → DoesGate behind p.control.config s.machine n (entry (e.Closed n why))
    → Closes p (record p.side { links = asked; relays = behind }) taken trace s n why
gate_closes taken p asked behind trace s shown counts n why does =
    let x = s.machine in
    let due : close_due (x.gates n).phase ≡ Some why = does.steps.1.0.2 in
    let y_is = does.steps.3 in
    let closed : does.steps.0.phase ≡ m.closed = ap (λ (y : Gateway). y.phase) does.steps.1.1 in
    record {
      alive = sym (lives_then trace n) ∙ ((seen_of taken p trace s).gates.link n (due_there (x.gates n).phase why due)).0;
      stands =
          acted taken p (record p.side { links = asked; relays = behind }) trace s (e.Closed n why) (of_gate n (entry (e.Closed n why)))
          does.y does.steps (ap (λ (y : Machine). y.control) y_is) refl refl refl
          (subst (λ (y : Machine). ShowsAll asked y.inbound) (sym y_is) shown) does.shows refl tt counts
          (subst (λ (y : Machine). EndsBy p.ends_for y) (sym y_is)
          (closed_ends p.ends_for x n (entry (e.Closed n why)) does.steps.0 closed s.ends));
      for = λ c ends.
          due_for (x.gates n).phase why c due ((subst (λ (o : Option Cause). EndsBy o x) ends s.ends).1.gates n);
    }
