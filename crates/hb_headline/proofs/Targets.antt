-- Where the upstream of each tunnel of a run was dialled: there where its tunnel's target is.
use Rattle.std.proofs.Common.{◌≡◌, inl, inr, ℕ, ◌<◌, List, [], ◌∷◌, ◌++◌, refl, ap, sym, ◌∙◌, subst, arith}
use Rattle.std.proofs.lemmas.List.{append_assoc}
use Rattle.hb_base.specs.declared.door.Why.TheVariants as whys
use Rattle.hb_base.specs.declared.target.Target.{Target}
use Rattle.hb_inbound.specs.Part as part
use Rattle.hb_inbound.specs.Part.{Part, entry, up}
use Rattle.hb_inbound.specs.Runs.{Local}
use Rattle.hb_inbound.specs.Tunnel.{Tunnel}
use Rattle.hb_model.proofs.Grown.{one_more}
use Rattle.hb_model.specs.declared.config.NodeConfig.{NodeConfig}
use Rattle.hb_proxy.specs.Machine.{Machine, local}
use Rattle.hb_proxy.specs.Points.{Point, entry_in, entries}
use Rattle.hb_proxy.specs.Runs.{StandsFor, begins, goes_on}
use Rattle.hb_world.specs.declared.entry.Entry.{Entry}
use Rattle.hb_world.specs.declared.entry.Entry.TheVariants as e
use Rattle.hb_headline.specs.Dials.{IsDialled}
use Rattle.hb_headline.proofs.LinkSteps.{LinkGoes, link_goes}
use Rattle.hb_headline.proofs.Tunnels.{Aims, Same, IsDial, Makes, makes}

module _ (s : ℕ) where
  -- the upstream that a tunnel has was dialled to its target
  abbrev pub Fits : List Entry → ℕ → Tunnel → Type 0
  Fits trace l t = 0 < t.up → IsDialled trace l s t.up t.target

  grows : (trace more : List Entry) (l u : ℕ) (to : Target) → IsDialled trace l s u to → IsDialled (trace ++ more) l s u to
  grows trace more l u to is = record {
    before = is.before;
    behind = is.behind ++ more;
    is = ap (λ (t : List Entry). t ++ more) is.is ∙ append_assoc is.before (e.Dialled u to (whys.Upstream l s) ∷ is.behind) more;
  }

  module _ (trace : List Entry) (l : ℕ) (old new : Tunnel) (fits : Fits trace l old) where
    aims_on : (more : List Entry) → Aims old new → Fits (trace ++ more) l new
    aims_on more aims some =
        subst (λ (u : ℕ). IsDialled (trace ++ more) l s u new.target) (sym aims.0)
        (subst (λ (to : Target). IsDialled (trace ++ more) l s old.up to) (sym aims.1)
        (grows trace more l old.up old.target (fits (subst (λ (u : ℕ). 0 < u) aims.0 some))))

    same_on : (more : List Entry) → Same old new → Fits (trace ++ more) l new
    same_on more (inl first) some = absurd (omega (arith, first.up, some))
    same_on more (inr kept) some = aims_on more (kept.0, kept.1) some

    dial_on : (p : Part) → IsDial l s p old new → Fits (trace ++ part.entry_in p) l new
    dial_on p dial some =
        subst (λ (u : ℕ). IsDialled (trace ++ part.entry_in p) l s u new.target) (sym dial.up_is)
        (subst (λ (to : Target). IsDialled (trace ++ part.entry_in p) l s dial.u to) (sym dial.target_is)
        (record { before = trace; behind = []; is = ap (λ (q : Part). trace ++ part.entry_in q) dial.is }))

    made_on : (p : Part) → Makes l s p old new → Fits (trace ++ part.entry_in p) l new
    made_on (entry (e.Went k bytes)) made some = aims_on (e.Went k bytes ∷ []) made some
    made_on (up k z) (inl same) some = same_on (z ∷ []) same some
    made_on (up k z) (inr dial) some = dial_on (up k z) dial some
    made_on p made some = same_on (part.entry_in p) made some

  pub all_fit : (g : NodeConfig) (x : Machine) (points : List Point) → StandsFor g x points → (l : ℕ)
      → Fits (entries points) l ((x.inbound l).tunnels s)
  all_fit g x points (begins is none) l some =
      let zero : ((x.inbound l).tunnels s).up ≡ 0 = ap (λ (m : Machine). ((m.inbound l).tunnels s).up) is in
      absurd (omega (arith, zero, some))
  all_fit g y more (goes_on {x = x} {points = points} stands q steps are) l some =
      subst (λ (t : List Entry). Fits t l ((y.inbound l).tunnels s)) (sym (ap entries are ∙ one_more entry_in points q))
      (by (all_fit g x points stands l) (link_goes g x l q y steps)) some
    where
      by : Fits (entries points) l ((x.inbound l).tunnels s) → LinkGoes l x q y
          → Fits (entries points ++ entry_in q) l ((y.inbound l).tunnels s)
      by was (inl none) =
          subst (λ (a : Local). Fits (entries points ++ entry_in q) l (a.link.tunnels s)) (sym none.1)
          (aims_on (entries points) l ((x.inbound l).tunnels s) ((x.inbound l).tunnels s) was (entry_in q) (refl, refl))
      by was (inr step) =
          subst (λ (es : List Entry). Fits (entries points ++ es) l ((y.inbound l).tunnels s)) (sym step.entry_is)
          (made_on (entries points) l ((x.inbound l).tunnels s) ((y.inbound l).tunnels s) was step.p
          (makes s l (local x l) (local y l) step.p step.steps))
