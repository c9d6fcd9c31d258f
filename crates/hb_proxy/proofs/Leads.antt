-- What a link does by itself is a run of the whole: an inbound one, and one of the plain door.
use Rattle.std.proofs.Common.{◌≡◌, ℕ, cond, List, [], ◌∷◌, ◌++◌, map, refl, ap, sym, ◌∙◌, subst}
use Rattle.std.proofs.lemmas.Bool.{eq-eqb, ne_eqb}
use Rattle.std.proofs.lemmas.List.{append_assoc, append-nil}
use Rattle.hb_captured.specs.Runs as captured
use Rattle.hb_inbound.specs.Inbound.{Inbound}
use Rattle.hb_inbound.specs.Part as part
use Rattle.hb_inbound.specs.Part.{Part}
use Rattle.hb_inbound.specs.Runs.{Local, with_link}
use Rattle.hb_inbound.specs.Runs as inbound
use Rattle.hb_model.specs.declared.config.NodeConfig.{NodeConfig}
use Rattle.hb_proxy.specs.Leads.{IsInner, Leads, LinksLead, LinksStep, PlainLinksLead, PlainLinksStep}
use Rattle.hb_proxy.specs.Machine.{Machine, local, with_part, with_plain}
use Rattle.hb_proxy.specs.Points.{Point, of_link, of_plain}
use Rattle.hb_proxy.specs.Runs.{LinkGuard, StandsFor, goes_on}

-- a part that isn't an update leaves what is held
module _ (a b : Local) where
  as_link : (y : Inbound) → b ≡ with_link y a → b ≡ with_link b.link a
  as_link y is = is ∙ ap (λ (z : Inbound). with_link z a) (sym (ap (λ (c : Local). c.link) is))

  holds : (g : NodeConfig) (x : Machine) (l : ℕ) (p : Part) → LinkGuard g x l p → inbound.Steps l a p b → b ≡ with_link b.link a
  holds g x l (part.entry z) guard steps = as_link _ steps.1
  holds g x l (part.up s z) guard steps = as_link _ steps.1
  holds g x l part.welcomed guard steps = as_link _ steps.1
  holds g x l part.crowded guard steps = as_link _ steps.1
  holds g x l part.lacked guard steps = as_link _ steps.1
  holds g x l (part.fronted seen) guard steps = as_link _ steps.4
  holds g x l (part.misfronted fault) guard steps = as_link _ steps.2
  holds g x l (part.looked ps told headers) guard steps = as_link _ steps.5
  holds g x l (part.decided s full given) guard steps = as_link _ steps.5
  holds g x l (part.accepted s made) guard steps = as_link _ steps.3
  holds g x l (part.refused s status resets made) guard steps = as_link _ steps.4
  holds g x l (part.reset s code made) guard steps = as_link _ steps.3
  holds g x l (part.left s made) guard steps = as_link _ steps.2
  holds g x l (part.done s made) guard steps = as_link _ steps.3
  holds g x l (part.put s bytes) guard steps = as_link _ steps.3
  holds g x l (part.finished s) guard steps = as_link _ steps.2
  holds g x l (part.credited s n) guard steps = as_link _ steps.3
  holds g x l (part.applied r) guard steps = absurd guard
  holds g x l (part.stopped why) guard steps = absurd guard

pub links_step : LinksStep
links_step g x points l p b stands guard steps =
    let is = holds (local x l) b g x l p guard steps in
    record {
      y = with_part l p b.link x;
      stands = goes_on stands p_at
          (b.link, subst (λ (c : Local). inbound.Steps l (local x l) p c) is steps, guard, refl) refl;
      reached = ap (λ (t : _). record { held = x.control.held; link = cond t b.link (x.inbound l) }) (eq-eqb l l refl) ∙ sym is;
      others = λ k apart. ap (λ (t : _). cond t b.link (x.inbound k)) (ne_eqb k l apart);
      control = refl;
      plain = refl;
      gates = refl;
    }
  where
    p_at : Point
    p_at = of_link l p

-- a part that is no entry, and doesn't go by how many there are, may come wherever its link lets it
inner_guard : (g : NodeConfig) (x : Machine) (l : ℕ) (p : Part) → IsInner p → LinkGuard g x l p
inner_guard g x l (part.entry z) inner = absurd inner
inner_guard g x l (part.up s z) inner = absurd inner
inner_guard g x l part.welcomed inner = absurd inner
inner_guard g x l part.crowded inner = absurd inner
inner_guard g x l (part.decided s full answer) inner = absurd inner
inner_guard g x l (part.applied r) inner = absurd inner
inner_guard g x l (part.stopped why) inner = absurd inner
inner_guard g x l _ inner = tt

pub links_lead : LinksLead
links_lead g x points l [] b stands leads = record {
  y = x;
  stands = subst (λ (ps : List Point). StandsFor g x ps) (sym (append-nil points)) stands;
  reached = sym leads;
  others = λ k apart. refl;
  control = refl;
  plain = refl;
  gates = refl;
}
links_lead g x points l (p ∷ parts) b stands (inner, mid, steps, leads) =
    let one = links_step g x points l p mid stands (inner_guard g x l p inner) steps in
    let rest = links_lead g one.y (points ++ of_link l p ∷ []) l parts b one.stands
    (subst (λ (c : Local). Leads l c parts b) (sym one.reached) leads) in
    record {
      y = rest.y;
      stands = subst (λ (ps : List Point). StandsFor g rest.y ps)
          (append_assoc points (of_link l p ∷ []) (map (of_link l) parts)) rest.stands;
      reached = rest.reached;
      others = λ k apart. rest.others k apart ∙ one.others k apart;
      control = rest.control ∙ one.control;
      plain = rest.plain ∙ one.plain;
      gates = rest.gates ∙ one.gates;
    }

-- PLAIN LINKS

pub plain_links_step : PlainLinksStep
plain_links_step g x points l p stands guard may =
    record {
      stands = goes_on stands (of_plain l p) (may, guard, refl) refl;
      others = λ k apart. ap (λ (t : _). cond t (captured.next_link (x.plain l) p) (x.plain k)) (ne_eqb k l apart);
      control = refl;
      inbound = refl;
      gates = refl;
    }

pub plain_links_lead : PlainLinksLead
plain_links_lead g x y points l [] stands leads = record {
  stands = subst (λ (ps : List Point). StandsFor g y ps) (sym (append-nil points))
      (subst (λ (z : Machine). StandsFor g z points) (sym leads) stands);
  others = λ k apart. ap (λ (z : Machine). z.plain k) leads;
  control = ap (λ (z : Machine). z.control) leads;
  inbound = ap (λ (z : Machine). z.inbound) leads;
  gates = ap (λ (z : Machine). z.gates) leads;
}
plain_links_lead g x y points l (p ∷ parts) stands (inner, may, guard, leads) =
    let one = plain_links_step g x points l p stands guard may in
    let rest = plain_links_lead g (with_plain l p (captured.next_link (x.plain l) p) x) y (points ++ of_plain l p ∷ []) l parts
    one.stands leads in
    record {
      stands = subst (λ (ps : List Point). StandsFor g y ps)
          (append_assoc points (of_plain l p ∷ []) (map (of_plain l) parts)) rest.stands;
      others = λ k apart. rest.others k apart ∙ one.others k apart;
      control = rest.control ∙ one.control;
      inbound = rest.inbound ∙ one.inbound;
      gates = rest.gates ∙ one.gates;
    }
