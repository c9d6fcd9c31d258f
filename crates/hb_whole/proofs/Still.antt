-- An entry that changes nothing on a link, or on an upstream.
use mathlib.Core.Path.{fun_ext}
use Rattle.std.proofs.Common.{◌≡◌, ℕ, ◌==◌, Bool, true, false, cond, List, Option, Some, None, refl, ap, sym, ◌∙◌}
use Rattle.std.proofs.lemmas.Bool.{eqb-true}
use Rattle.hb_captured.specs.Captured.{Captured, counts_for}
use Rattle.hb_captured.specs.Counts.{counted_with, recounted}
use Rattle.hb_captured.specs.Part.{Part, entry_in}
use Rattle.hb_gateway.specs.Gateway.{Gateway}
use Rattle.hb_gateway.specs.Part as gate
use Rattle.hb_inbound.specs.Inbound.{Inbound, at_stream}
use Rattle.hb_inbound.specs.Part as part
use Rattle.hb_inbound.specs.Runs as inbound
use Rattle.hb_inbound.specs.Tunnel.{Tunnel, up_entered}
use Rattle.hb_proxy.specs.Machine.{Machine, born_after, born_by, with_part, with_plain, with_gate}
use Rattle.hb_route.specs.Opens.{Counts}
use Rattle.hb_world.specs.declared.entry.Entry.{Entry}

-- one of all links stays as it was
one_same : {A : Type 0} (f : ℕ → A) (l : ℕ) (next : A) → next ≡ f l → (λ k. cond (k == l) next (f k)) ≡ f
one_same {A = A} f l next same = fun_ext (λ k. ap (λ (y : A). cond (k == l) y (f k)) same ∙ by k (k == l) refl)
  where
    by : (k : ℕ) (here : Bool) → (k == l) ≡ here → cond here (f l) (f k) ≡ f k
    by k true here = ap f (sym (eqb-true k l here))
    by k false here = refl

tunnel_same : (b : Bool) (t : Tunnel) → cond b t t ≡ t
tunnel_same true t = refl
tunnel_same false t = refl

-- an entry that changes nothing on a link, and on an upstream
pub own_same : (x : Machine) (l : ℕ) (z : Entry) → inbound.entered z (x.inbound l) ≡ x.inbound l → born_by x.born z ≡ x.born
    → with_part l (part.entry z) (inbound.entered z (x.inbound l)) x ≡ x
own_same x l z same born =
    ap (λ (f : ℕ → Inbound). record x { born = born_by x.born z; inbound = f })
    (one_same x.inbound l (inbound.entered z (x.inbound l)) same)
    ∙ ap (λ (n : ℕ). record x { born = n }) born

pub up_same : (x : Machine) (l s : ℕ) (z : Entry) → ((t : Tunnel) → up_entered z t ≡ t) → born_by x.born z ≡ x.born
    → with_part l (part.up s z) (at_stream s (up_entered z) (x.inbound l)) x ≡ x
up_same x l s z same born =
    ap (λ (f : ℕ → Inbound). record x { born = born_by x.born z; inbound = f })
    (one_same x.inbound l (at_stream s (up_entered z) (x.inbound l))
    (ap (λ (f : ℕ → Tunnel). record (x.inbound l) { tunnels = f })
    (fun_ext (λ k. ap (λ (t : Tunnel). cond (k == s) t ((x.inbound l).tunnels k)) (same ((x.inbound l).tunnels k))
    ∙ tunnel_same (k == s) ((x.inbound l).tunnels k)))))
    ∙ ap (λ (n : ℕ). record x { born = n }) born

-- on a plain link, or on its upstream
recounted_same : (to : Option (List ℕ)) (opens : Counts) → recounted to to opens ≡ opens
recounted_same None opens = refl
recounted_same (Some name) opens = refl

pub plain_same : (x : Machine) (l : ℕ) (p : Part) (next : Captured) → next ≡ x.plain l → born_after x.born (entry_in p) ≡ x.born
    → with_plain l p next x ≡ x
plain_same x l p next same born =
    ap (λ (f : ℕ → Captured). record x {
      born = born_after x.born (entry_in p);
      plain = f;
      opens = counted_with (x.plain l) next x.opens;
    }) (one_same x.plain l next same)
    ∙ ap (λ (y : Captured). record x {
      born = born_after x.born (entry_in p);
      opens = counted_with (x.plain l) y x.opens;
    }) same
    ∙ ap (λ (opens : Counts). record x { born = born_after x.born (entry_in p); opens = opens })
    (recounted_same (counts_for (x.plain l)) x.opens)
    ∙ ap (λ (n : ℕ). record x { born = n }) born

-- on a link to a gateway
pub gate_same : (x : Machine) (n : ℕ) (p : gate.Part) (next : Gateway) → next ≡ x.gates n → born_after x.born (gate.entry_in p) ≡ x.born
    → with_gate n p next x ≡ x
gate_same x n p next same born =
    ap (λ (f : ℕ → Gateway). record x { born = born_after x.born (gate.entry_in p); gates = f }) (one_same x.gates n next same)
    ∙ ap (λ (m : ℕ). record x { born = m }) born
