-- A proxy at the start.
use Rattle.std.proofs.Common.{◌≡◌, ◌&&◌, Bool, true, false, is_none, List, [], Option, Some, None, refl, ap, sym, ◌∙◌, subst}
use Rattle.hb_base.specs.declared.cause.Cause.{Cause}
use Rattle.hb_base.specs.declared.note.Note.{Note}
use Rattle.hb_captured.specs.Captured.{unborn, due as waits}
use Rattle.hb_held.specs.Held.{nothing_held}
use Rattle.hb_inbound.specs.Inbound.{no_link}
use Rattle.hb_links.specs.Busy as busy
use Rattle.hb_links.specs.Load.{IsCounted}
use Rattle.hb_links.specs.Shows.{ShowsAll}
use Rattle.hb_model.specs.Machine as control
use Rattle.hb_model.specs.declared.config.NodeConfig.{NodeConfig}
use Rattle.hb_node.specs.State.{State, Shows, fresh_state, closing_of}
use Rattle.hb_proxy.specs.Machine.{fresh, outward}
use Rattle.hb_proxy.specs.Runs.{StandsFor, begins}
use Rattle.hb_relays.specs.Shows.{ShowsRelays}
use Rattle.hb_relays.specs.Touched as touched
use Rattle.hb_turns.specs.Served.{IsFreshNode}
use Rattle.hb_whole.specs.Queue.{told}
use Rattle.hb_whole.specs.Sight.{shown_of, closes_by, is_idle}
use Rattle.hb_whole.specs.Stands.{Stands, AreNotes, MayBeDialled, EndsBy}
use Rattle.hb_whole.specs.declared.proxy.Proxy.{Proxy}
use Rattle.hb_whole.proofs.Keeping.{none_few}

pub fresh_stands : (p : Proxy) (g : NodeConfig) → p.control ≡ fresh_state g (nothing_held g.network g.node g.doors)
    → Shows p.control (control.fresh g) → ShowsAll p.side.links (λ l. no_link) → ShowsRelays g p.side.relays (outward (fresh g))
    → told p.side.notes ≡ Some [] → p.dials ≡ None → p.limits ≡ g.limits → IsCounted p.side.links → p.ends_for ≡ None
    → p.strange ≡ false → Stands [] p []
fresh_stands p g state shows links relays noted dials limits counted ends sound = record {
  machine = fresh g;
  points = [];
  run = subst (λ (c : NodeConfig). StandsFor c (fresh g) []) (ap (λ (s : State). s.config) (sym state)) (begins refl refl);
  trace_is = refl;
  control = shows;
  links = links;
  relays = subst (λ (c : NodeConfig). ShowsRelays c p.side.relays (outward (fresh g))) (ap (λ (s : State). s.config) (sym state)) relays;
  noted = subst (λ (o : Option (List Note)). AreNotes [] o []) (sym noted) refl;
  dial = subst (λ d. MayBeDialled p.control.config (fresh g) d) (sym dials) tt;
  limited = record {
    limits = limits ∙ ap (λ (s : State). s.config.limits) (sym state);
    counted = counted;
    few = none_few p.control.config (fresh g) (λ l due. (let no : unborn ≡ waits = due in cc no));
  };
  ends = subst (λ (o : Option Cause). EndsBy o (fresh g)) (sym ends) refl;
  sound = sound;
}

pub fresh_node : (p : Proxy) (g : NodeConfig) → p.control ≡ fresh_state g (nothing_held g.network g.node g.doors)
    → busy.is_idle p.side.links ≡ true → touched.is_idle p.side.relays.due ≡ true → touched.is_idle p.side.relays.gate_due ≡ true
    → p.ends_for ≡ None → IsFreshNode (shown_of p)
fresh_node p g state idle idle_too idle_gates ends = record {
  going = ends;
  none_closes = ap (λ (o : Option Cause). closes_by o p) ends
      ∙ ap (λ (s : State). is_none (closing_of s.link) && is_idle p.side) state
      ∙ ap (λ (b : Bool). b && touched.is_idle p.side.relays.due && touched.is_idle p.side.relays.gate_due) idle
      ∙ ap (λ (b : Bool). b && touched.is_idle p.side.relays.gate_due) idle_too ∙ idle_gates;
}
