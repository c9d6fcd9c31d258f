-- What follows by itself on a plain link follows in the whole.
use Rattle.std.proofs.Common.{◌≡◌, ◌≢◌, ℕ, cond, List, [], ◌∷◌, ◌++◌, map, refl, ap, sym, ◌∙◌, subst}
use Rattle.std.proofs.lemmas.Bool.{eq-eqb, ne_eqb}
use Rattle.hb_base.specs.declared.note.Note.{Note}
use Rattle.hb_captured.specs.Answer.{Routing}
use Rattle.hb_captured.specs.Captured.{Captured}
use Rattle.hb_captured.specs.Part as part
use Rattle.hb_captured.specs.Part.{Part}
use Rattle.hb_captured.specs.Runs.{Local, next, next_link}
use Rattle.hb_model.specs.declared.config.NodeConfig.{NodeConfig}
use Rattle.hb_proxy.proofs.Plain.{turned}
use Rattle.hb_proxy.specs.Machine.{Machine, plain_local, with_plain}
use Rattle.hb_proxy.specs.Notes.{notes}
use Rattle.hb_proxy.specs.Points.{Point, of_control, of_link, of_plain, of_gate, of_stream}
use Rattle.hb_proxy.specs.Runs.{PlainGuard, routing_of}
use Rattle.hb_relay.specs.Reaches as relay
use Rattle.hb_relay.specs.Reaches.{rerouted}
use Rattle.hb_relays.specs.Reaches.{Leads}

-- such a part may come wherever its link lets it, by these counts
pub inner_guard : (g : NodeConfig) (x : Machine) (l : ℕ) (p : Part) → relay.IsInner p → relay.IsRouted (routing_of g x) p
    → PlainGuard g x l p
inner_guard g x l (part.entry z) inner routed = absurd inner
inner_guard g x l (part.up z) inner routed = absurd inner
inner_guard g x l part.welcomed inner routed = absurd inner
inner_guard g x l part.crowded inner routed = absurd inner
inner_guard g x l (part.fronted seen by aim) inner routed = routed
inner_guard g x l (part.refused seen by why status note) inner routed = routed
inner_guard g x l part.roomless inner routed = absurd inner
inner_guard g x l (part.asked gate stream) inner routed = absurd inner
inner_guard g x l (part.hears heard begun) inner routed = absurd inner
inner_guard g x l (part.put bytes) inner routed = absurd inner
inner_guard g x l part.finished inner routed = absurd inner
inner_guard g x l (part.credited n) inner routed = absurd inner
inner_guard g x l (part.loosed begun) inner routed = absurd inner
inner_guard g x l (part.completed begun note) inner routed = absurd inner
inner_guard g x l (part.applied r) inner routed = absurd inner
inner_guard g x l (part.stopped why) inner routed = absurd inner
inner_guard g x l _ inner routed = tt

-- what the link of the part is then, and what the others are
pub here : (g : NodeConfig) (x : Machine) (l : ℕ) (p : Part) → PlainGuard g x l p
    → plain_local (with_plain l p (next_link (x.plain l) p) x) l ≡ next (plain_local x l) p
here g x l p guard =
    ap (λ (t : _). record { held = x.control.held; link = cond t (next_link (x.plain l) p) (x.plain l) }) (eq-eqb l l refl)
    ∙ sym (turned g x l p guard (plain_local x l))

pub there : (x : Machine) (l : ℕ) (p : Part) (next : Captured) (k : ℕ) → k ≢ l → (with_plain l p next x).plain k ≡ x.plain k
there x l p next k apart = ap (λ (t : _). cond t next (x.plain k)) (ne_eqb k l apart)

-- and what the counts are
pub counts : (g : NodeConfig) (x : Machine) (l : ℕ) (p : Part) → PlainGuard g x l p
    → routing_of g (with_plain l p (next_link (x.plain l) p) x) ≡ rerouted (x.plain l) (next (plain_local x l) p).link (routing_of g x)
counts g x l p guard =
    ap (λ (c : Local). rerouted (x.plain l) c.link (routing_of g x)) (sym (turned g x l p guard (plain_local x l)))

-- the whole goes on by these parts of a link, to where that is this and the counts are these, and no other part changes
pub record Lifted (g : NodeConfig) (l : ℕ) (x : Machine) (parts : List Part) (b : Local) (behind : Routing) : Type 0 where
  pub y : Machine
  pub leads : Leads g x (map (of_plain l) parts) y
  pub here : plain_local y l ≡ b
  pub counted : routing_of g y ≡ behind
  pub others : (k : ℕ) → k ≢ l → y.plain k ≡ x.plain k
  pub control : y.control ≡ x.control
  pub gates : y.gates ≡ x.gates

pub lifted : (g : NodeConfig) (l : ℕ) (x : Machine) (parts : List Part) (b : Local) (behind : Routing)
    → relay.Leads relay.IsInner l (routing_of g x) (plain_local x l) parts b behind → Lifted g l x parts b behind
lifted g l x [] b behind is = record {
  y = x;
  leads = refl;
  here = sym is.0;
  counted = sym is.1;
  others = λ k apart. refl;
  control = refl;
  gates = refl;
}
lifted g l x (p ∷ parts) b behind (inner, routed, may, more) =
    let guard = inner_guard g x l p inner routed in
    let y = with_plain l p (next_link (x.plain l) p) x in
    let rest = lifted g l y parts b behind
    (subst (λ (by : Routing). relay.Leads relay.IsInner l by (plain_local y l) parts b behind) (sym (counts g x l p guard))
    (subst (λ (c : Local). relay.Leads relay.IsInner l (rerouted (x.plain l) (next (plain_local x l) p).link (routing_of g x)) c parts b behind)
    (sym (here g x l p guard)) more)) in
    record {
      y = rest.y;
      leads = (inner, y, (may, guard, refl), rest.leads);
      here = rest.here;
      counted = rest.counted;
      others = λ k apart. rest.others k apart ∙ there x l p (next_link (x.plain l) p) k apart;
      control = rest.control;
      gates = rest.gates;
    }

pub notes_of : (l : ℕ) (parts : List Part) → notes (map (of_plain l) parts) ≡ part.notes parts
notes_of l [] = refl
notes_of l (p ∷ parts) = ap (λ (w : List Note). part.note_in p ++ w) (notes_of l parts)

-- what follows by itself leaves the control plane, and the inbound links
pub record Keeps (x y : Machine) : Type 0 where
  pub control : y.control ≡ x.control
  pub inbound : y.inbound ≡ x.inbound

keeps_then : (x mid y : Machine) → Keeps x mid → Keeps mid y → Keeps x y
keeps_then x mid y first rest = record { control = rest.control ∙ first.control; inbound = rest.inbound ∙ first.inbound }

same_keeps : (x z y : Machine) → y ≡ z → z.control ≡ x.control → z.inbound ≡ x.inbound → Keeps x y
same_keeps x z y is control inbound = record {
  control = ap (λ (w : Machine). w.control) is ∙ control;
  inbound = ap (λ (w : Machine). w.inbound) is ∙ inbound;
}

pub leads_keep : (g : NodeConfig) (x : Machine) (more : List Point) (y : Machine) → Leads g x more y → Keeps x y
leads_keep g x [] y is = same_keeps x x y is refl refl
leads_keep g x (of_control q ∷ more) y is = absurd is.0
leads_keep g x (of_link l p ∷ more) y is = absurd is.0
leads_keep g x (of_plain l p ∷ more) y is =
    keeps_then x is.1 y (same_keeps x _ is.1 is.2.2 refl refl) (leads_keep g is.1 more y is.3)
leads_keep g x (of_gate n p ∷ more) y is =
    keeps_then x is.1 y (same_keeps x _ is.1 is.2.3 refl refl) (leads_keep g is.1 more y is.3)
leads_keep g x (of_stream l n s w ∷ more) y is =
    keeps_then x is.1 y (same_keeps x _ is.1 is.2.4 refl refl) (leads_keep g is.1 more y is.3)
