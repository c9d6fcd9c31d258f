-- A link is dialled once, so to one target.
use Rattle.std.proofs.Common.{◌≡◌, ℕ, ◌+◌, ◌==◌, Bool, cond, List, [], ◌∷◌, ◌++◌, refl, ap, sym, ◌∙◌, arith}
use Rattle.std.specs.List.{flat_map}
use Rattle.std.proofs.lemmas.Bool.{eq-eqb}
use Rattle.std.proofs.lemmas.List.Concat.{flat_map-append}
use Rattle.std.proofs.lemmas.List.Sums.{sum_by-cons}
use Rattle.hb_base.specs.declared.door.Why.{Why}
use Rattle.hb_base.specs.declared.door.Why.TheVariants as whys
use Rattle.hb_base.specs.declared.target.Target.{Target}
use Rattle.hb_laws.proofs.Doors.{without_append}
use Rattle.hb_laws.specs.Lawful.{Lawful}
use Rattle.hb_model.specs.declared.config.NodeConfig.{NodeConfig}
use Rattle.hb_proxy.specs.Doors.{without_doors}
use Rattle.hb_proxy.specs.Points.{entries}
use Rattle.hb_world.specs.Trace.{is_birth, births}
use Rattle.hb_world.specs.declared.entry.Entry.{Entry}
use Rattle.hb_world.specs.declared.entry.Entry.TheVariants as e
use Rattle.hb_headline.specs.Dials.{IsDialled}
use Rattle.hb_headline.specs.Dials.{IsDialled}

-- births are counted one by one
births_cons : (z : Entry) (trace : List Entry) → births (z ∷ trace) ≡ births (z ∷ []) + births trace
births_cons z trace =
    let count : Entry → ℕ = λ (x : Entry). cond (is_birth x) 1 0 in
    let all = sum_by-cons count z trace in
    let one = sum_by-cons count z [] in
    omega (arith, all, one)

-- two dials of links of the number that births give have one place
one_place : (k u : ℕ) (to other : Target) (why for : Why) (before front behind rest : List Entry)
    → before ++ e.Dialled u to why ∷ behind ≡ front ++ e.Dialled u other for ∷ rest → u ≡ k + births before + 1 → u ≡ k + births front + 1
    → to ≡ other
one_place k u to other why for [] [] behind rest is first second = cc
one_place k u to other why for [] (z ∷ front) behind rest is first second =
    let here : e.Dialled u to why ≡ z = cc in
    let count : births (z ∷ []) ≡ 1 = ap (λ (x : Entry). births (x ∷ [])) (sym here) in
    absurd (omega (arith, first, second, births_cons z front, count))
one_place k u to other why for (z ∷ before) [] behind rest is first second =
    let here : z ≡ e.Dialled u other for = cc in
    let count : births (z ∷ []) ≡ 1 = ap (λ (x : Entry). births (x ∷ [])) here in
    absurd (omega (arith, first, second, births_cons z before, count))
one_place k u to other why for (z ∷ before) (x ∷ front) behind rest is first second =
    let here : z ≡ x = cc in
    let others : before ++ e.Dialled u to why ∷ behind ≡ front ++ e.Dialled u other for ∷ rest = cc in
    let count : births (z ∷ []) ≡ births (x ∷ []) = ap (λ (y : Entry). births (y ∷ [])) here in
    one_place (k + births (z ∷ [])) u to other why for before front behind rest others
    (omega (arith, first, births_cons z before)) (omega (arith, second, births_cons x front, count))

module _ (g : NodeConfig) (trace : List Entry) (h : Lawful g trace) (l s u : ℕ) where
  told : (to : Target) (d : IsDialled trace l s u to)
      → entries h.points ≡ without_doors d.before ++ e.Dialled u to (whys.Upstream l s) ∷ without_doors d.behind
  told to d =
      sym h.trace_is ∙ ap without_doors d.is ∙ without_append d.before (e.Dialled u to (whys.Upstream l s) ∷ d.behind)

  pub dialled_once : (to other : Target) → IsDialled trace l s u to → IsDialled trace l s u other → other ≡ to
  dialled_once to other d o =
      let why = whys.Upstream l s in
      let first = h.numbers (without_doors o.before) (e.Dialled u other why) (without_doors o.behind) (told other o) in
      let second = h.numbers (without_doors d.before) (e.Dialled u to why) (without_doors d.behind) (told to d) in
      one_place 0 u other to why why (without_doors o.before) (without_doors d.before) (without_doors o.behind) (without_doors d.behind)
      (sym (told other o) ∙ told to d) (omega (arith, first)) (omega (arith, second))

-- and where a trace tells one dial of the link it is that
abbrev pub target_in : ℕ → Entry → List Target
target_in u (e.Dialled k to why) = cond (k == u) (to ∷ []) []
target_in u _ = []

pub one_dial : (trace : List Entry) (l s u : ℕ) (to other : Target) → flat_map (target_in u) trace ≡ to ∷ []
    → IsDialled trace l s u other → other ≡ to
one_dial trace l s u to other all d =
    by (flat_map (target_in u) d.before)
    (ap (λ (b : Bool). flat_map (target_in u) d.before ++ (cond b (other ∷ []) [] ++ flat_map (target_in u) d.behind))
    (sym (eq-eqb u u refl))
    ∙ sym (flat_map-append (target_in u) d.before (e.Dialled u other (whys.Upstream l s) ∷ d.behind))
    ∙ sym (ap (flat_map (target_in u)) d.is) ∙ all)
  where
    none : (front : List Target) → front ++ other ∷ flat_map (target_in u) d.behind ≡ [] → ⊥
    none [] is = cc
    none (t ∷ front) is = cc

    by : (front : List Target) → front ++ other ∷ flat_map (target_in u) d.behind ≡ to ∷ [] → other ≡ to
    by [] is = cc
    by (t ∷ front) is = absurd (none front (let rest : front ++ other ∷ flat_map (target_in u) d.behind ≡ [] = cc in rest))
