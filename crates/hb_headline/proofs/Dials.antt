-- A link that a trace tells to be the upstream of a stream was dialled for it.
use Rattle.std.proofs.Common.{◌≡◌, ◌⊎◌, inl, inr, ⊎_elim, ℕ, ◌==◌, Bool, true, false, cond, List, [], ◌∷◌, fold, refl, ap, sym, ◌∙◌}
use Rattle.std.proofs.lemmas.Bool.{eqb-true}
use Rattle.hb_base.specs.declared.door.Door.{Door}
use Rattle.hb_base.specs.declared.door.Door.TheVariants as door
use Rattle.hb_base.specs.declared.door.Why.{Why}
use Rattle.hb_base.specs.declared.door.Why.TheVariants as whys
use Rattle.hb_base.specs.declared.target.Target.{Target}
use Rattle.hb_laws.specs.Lawful.{Lawful}
use Rattle.hb_model.specs.declared.config.NodeConfig.{NodeConfig}
use Rattle.hb_proxy.proofs.Owned.{all_owned}
use Rattle.hb_proxy.specs.Owners.{Owner, nobody, owner, owner_by, upstream_of, at_door, dialled_for}
use Rattle.hb_world.specs.declared.entry.Entry.{Entry}
use Rattle.hb_world.specs.declared.entry.Entry.TheVariants as e
use Rattle.hb_headline.specs.Dials.{IsDialled, UpstreamIs, Upstreams}
use Rattle.hb_laws.proofs.Lawful.{laws_of}
use Rattle.hb_headline.proofs.OneTarget.{dialled_once}
use Rattle.hb_headline.proofs.Relay.{owner_is}

-- where the last owner of a number is the upstream of a stream, it was so in front, or its dial is here
abbrev Found : List Entry → ℕ → ℕ → ℕ → Type 0
Found trace l s u = (to : Target) × IsDialled trace l s u to

more : (z : Entry) (trace : List Entry) (l s u : ℕ) → Found trace l s u → Found (z ∷ trace) l s u
more z trace l s u found =
    (found.0, record { before = z ∷ found.1.before; behind = found.1.behind; is = ap (λ (t : List Entry). z ∷ t) found.1.is })

why_of : (why : Why) (l s : ℕ) → dialled_for why ≡ upstream_of l s → why ≡ whys.Upstream l s
why_of whys.Discovery l s is = absurd (cc)
why_of (whys.Upstream k t) l s is = cc
why_of (whys.Plain k) l s is = absurd (cc)
why_of (whys.Direct k) l s is = absurd (cc)
why_of (whys.Gateway k) l s is = absurd (cc)

no_door : (d : Door) (l s : ℕ) → at_door d ≡ upstream_of l s → ⊥
no_door door.Inbound l s is = cc
no_door door.Plain l s is = cc
no_door door.Outbound l s is = cc

here : (z : Entry) (trace : List Entry) (o : Owner) (l s u : ℕ) → owner_by u o z ≡ upstream_of l s
    → (o ≡ upstream_of l s) ⊎ Found (z ∷ trace) l s u
here (e.Accepted k d) trace o l s u is = by (k == u) is
  where
    by : (b : Bool) → cond b (at_door d) o ≡ upstream_of l s → (o ≡ upstream_of l s) ⊎ Found (e.Accepted k d ∷ trace) l s u
    by true is = absurd (no_door d l s is)
    by false is = inl is
here (e.Dialled k to why) trace o l s u is = by (k == u) refl is
  where
    by : (b : Bool) → (k == u) ≡ b → cond b (dialled_for why) o ≡ upstream_of l s
        → (o ≡ upstream_of l s) ⊎ Found (e.Dialled k to why ∷ trace) l s u
    by true at is =
        let same : k ≡ u = eqb-true k u at in
        let for_it : why ≡ whys.Upstream l s = why_of why l s is in
        inr (to, record { before = []; behind = trace; is = cc })
    by false at is = inl is
here _ trace o l s u is = inl is

-- so it is of a whole trace
found_in : (trace : List Entry) (o : Owner) (l s u : ℕ) → fold (owner_by u) o trace ≡ upstream_of l s
    → (o ≡ upstream_of l s) ⊎ Found trace l s u
found_in [] o l s u is = inl is
found_in (z ∷ trace) o l s u is =
    ⊎_elim (λ was. here z trace o l s u was) (λ found. inr (more z trace l s u found)) (found_in trace (owner_by u o z) l s u is)

no_one : (l s : ℕ) → nobody ≡ upstream_of l s → ⊥
no_one l s is = cc

pub is_dialled : (trace : List Entry) (l s u : ℕ) → owner u trace ≡ upstream_of l s → Found trace l s u
is_dialled trace l s u own =
    ⊎_elim (λ none. absurd (no_one l s none)) (λ found. found) (found_in trace nobody l s u own)

lawful_dials : (g : NodeConfig) (trace : List Entry) → Lawful g trace → (l s u : ℕ) → owner u trace ≡ upstream_of l s
    → UpstreamIs trace l s u
lawful_dials g trace h l s u own =
    let on_points = owner_is h.points trace (sym h.trace_is) u ∙ own in
    let found = is_dialled trace l s u own in
    record {
      over = sym (owner_is h.points trace (sym h.trace_is) l) ∙ (all_owned g h.machine h.points h.run).over l s u on_points;
      to = found.0;
      dialled = found.1;
      once = λ other dial. dialled_once g trace h l s u found.0 other found.1 dial;
      alone = λ v other. (laws_of g trace h).upstreams.streams l s v u (owner_is h.points trace (sym h.trace_is) v ∙ other) on_points;
    }

pub lawful_upstreams : (g : NodeConfig) (trace : List Entry) → Lawful g trace → Upstreams trace
lawful_upstreams g trace h = record {
  tunnels = lawful_dials g trace h;
  plain = λ l u v own other.
      (laws_of g trace h).upstreams.relays l u v (owner_is h.points trace (sym h.trace_is) u ∙ own)
      (owner_is h.points trace (sym h.trace_is) v ∙ other);
}
