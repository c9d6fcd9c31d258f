-- What a point of the whole makes of one inbound link: a step by one part, or nothing.
use Rattle.std.proofs.Common.{◌≡◌, ◌⊎◌, inl, inr, ℕ, ◌==◌, Bool, true, false, cond, [], ◌∷◌, refl, ap, sym, subst, arith}
use Rattle.std.proofs.lemmas.Bool.{eqb-true}
use Rattle.hb_held.specs.Held.{Resources}
use Rattle.hb_inbound.specs.Inbound.{Inbound}
use Rattle.hb_inbound.specs.Part as part
use Rattle.hb_inbound.specs.Part.{Part}
use Rattle.hb_inbound.specs.Runs as inbound
use Rattle.hb_inbound.specs.Runs.{Local}
use Rattle.hb_model.specs.Machine as control
use Rattle.hb_model.specs.Point as point
use Rattle.hb_model.specs.Runs as model
use Rattle.hb_model.specs.declared.config.NodeConfig.{NodeConfig}
use Rattle.hb_proxy.proofs.Projection.{held_next}
use Rattle.hb_proxy.specs.Machine.{Machine, local, with_control, with_part}
use Rattle.hb_proxy.specs.Points.{Point, of_control, of_link, of_plain, of_gate, of_stream, entry_in, part_in}
use Rattle.hb_proxy.specs.Runs.{Steps}

-- it steps by this part
pub record StepsBy (l : ℕ) (x : Machine) (q : Point) (y : Machine) : Type 0 where
  pub p : Part
  pub part_is : part_in l q ≡ p ∷ []
  pub entry_is : entry_in q ≡ part.entry_in p
  pub steps : inbound.Steps l (local x l) p (local y l)

abbrev pub LinkGoes : ℕ → Machine → Point → Machine → Type 0
LinkGoes l x q y = ((part_in l q ≡ []) × (local y l ≡ local x l)) ⊎ StepsBy l x q y

module _ (g : NodeConfig) (x : Machine) (l : ℕ) where
  control_seen : (q : point.Point) (next : control.Machine) → model.Steps g x.control q next
      → LinkGoes l x (of_control q) (with_control q next x)
  control_seen (point.applied k r) next steps = inr (record {
    p = part.applied r;
    part_is = refl;
    entry_is = refl;
    steps = ap (λ (h : Resources). record { held = h; link = (with_control (point.applied k r) next x).inbound l })
        (held_next g x.control next (point.applied k r) steps);
  })
  control_seen (point.stopped why) next steps = inr (record {
    p = part.stopped why;
    part_is = refl;
    entry_is = refl;
    steps = ap (λ (h : Resources). record { held = h; link = (with_control (point.stopped why) next x).inbound l })
        (held_next g x.control next (point.stopped why) steps);
  })
  control_seen q next steps =
      inl (refl, ap (λ (h : Resources). record { held = h; link = x.inbound l }) (held_next g x.control next q steps))

  link_seen : (k : ℕ) (p : Part) (next : Inbound) → inbound.Steps k (local x k) p (inbound.with_link next (local x k))
      → LinkGoes l x (of_link k p) (with_part k p next x)
  link_seen k p next steps = by (k == l) refl
    where
      other : (a b : ℕ) → (b == a) ≡ false → (a == b) ≡ false
      other a b is = grind (arith, is)

      itself : (a : ℕ) → (a == a) ≡ true
      itself a = grind arith

      by : (same : Bool) → (k == l) ≡ same → LinkGoes l x (of_link k p) (with_part k p next x)
      by false is =
          inl (
            ap (λ (b : Bool). cond b (p ∷ []) []) is,
            ap (λ (b : Bool). record { held = x.control.held; link = cond b next (x.inbound l) }) (other l k is),
          )
      by true is = inr (record {
        p = p;
        part_is = ap (λ (b : Bool). cond b (p ∷ []) []) is;
        entry_is = refl;
        steps =
            let same : k ≡ l = eqb-true k l is in
            subst (λ (j : ℕ). inbound.Steps j (local x j) p (local (with_part k p next x) j)) same
            (subst (λ (a : Local). inbound.Steps k (local x k) p a)
            (ap (λ (b : Bool). record { held = x.control.held; link = cond b next (x.inbound k) }) (sym (itself k))) steps);
      })

  pub link_goes : (q : Point) (y : Machine) → Steps g x q y → LinkGoes l x q y
  link_goes (of_control q) y steps =
      subst (λ (z : Machine). LinkGoes l x (of_control q) z) (sym steps.3) (control_seen q steps.0 steps.1)
  link_goes (of_link k p) y steps =
      subst (λ (z : Machine). LinkGoes l x (of_link k p) z) (sym steps.3) (link_seen k p steps.0 steps.1)
  link_goes (of_plain k p) y steps = inl (refl, ap (λ (z : Machine). local z l) steps.2)
  link_goes (of_gate n p) y steps = inl (refl, ap (λ (z : Machine). local z l) steps.3)
  link_goes (of_stream k n s w) y steps = inl (refl, ap (λ (z : Machine). local z l) steps.4)
