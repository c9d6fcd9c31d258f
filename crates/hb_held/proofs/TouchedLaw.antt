-- What is touched, from what is at an address now and what was changed.
use Rattle.std.proofs.Common.{◌≡◌, ℕ, Bool, true, false, cond, List, Option, Some, None, [], ◌∷◌, is_some, refl, ap, sym, ◌∙◌}
use Rattle.std.specs.Prelude.{◌||◌, ◌&&◌, filter, map, option_and_then}
use Rattle.std.specs.List.{list_any}
use Rattle.std.specs.Str.{bytes_eq}
use Rattle.std.specs.Ordering.{is_lt, ordering_reverse}
use Rattle.std.specs.declared.cmp.Ordering.{Ordering}
use Rattle.std.specs.declared.cmp.Ordering.TheVariants.{Less, Equal, Greater}
use Rattle.std.specs.Cmp.{both_ways}
use Rattle.std.specs.Cmp.Lexicographic.{nat_list_cmp_total}
use Rattle.std.specs.FinMap.{get, entries}
use Rattle.hb_base.specs.declared.ip.Ip.{Ip}
use Rattle.hb_disco.specs.declared.kind.Kind.TheVariants.{Address, Authorization}
use Rattle.hb_records.specs.declared.address.AddressRecord.{AddressRecord}
use Rattle.hb_records.specs.declared.authorization.Authorization.{Authorization as Policy}
use Rattle.hb_records.specs.declared.workload.Workload.{Workload}
use Rattle.hb_held.specs.declared.versioned.Versioned.{Versioned}
use Rattle.hb_index.specs.Named.{Named}
use Rattle.hb_held.specs.Held.{Resources, is_changed, before}
use Rattle.hb_held.specs.Lookup.{workload_of, workload_at, known}
use Rattle.hb_held.specs.Policies.{is_for, policies_in, policies_for}
use Rattle.hb_held.specs.Laws.{IsAt, IsLeastAt, UntouchedStays}
use Rattle.hb_held.specs.Touched.{is_workload_changed, is_policy_changed, is_touched_in, touched, precedes, is_at, had_address, had_smaller, stands_for, had_policy, touched_from}
use Rattle.hb_index.proofs.Alike.{passed, passing_alike}
use Rattle.hb_index.proofs.Entries.{by_bytes, differ}
use Rattle.hb_held.proofs.LeastLaw.{no, one_least, least_found}
use Rattle.hb_index.proofs.Undone.{is_there, or_left, or_right, and_left, and_right, both, unchanged, changed}
use Rattle.hb_held.proofs.Somewhere.{any_held, held_any}

is_less : (o : Ordering) → is_lt o ≡ true → o ≡ Less
is_less Less h = refl
is_less Equal h = absurd cc
is_less Greater h = absurd cc

-- k goes before f, and g doesn't, so k goes before g
less_then : (k f g : List ℕ) → is_lt (by_bytes k f) ≡ true → is_lt (by_bytes g f) ≡ false → is_lt (by_bytes k g) ≡ true
less_then k f g p q =
    let less = is_less _ p in
    elim (by_bytes f g) as (λ o. by_bytes f g ≡ o → is_lt (by_bytes k g) ≡ true) [
      | Less ↦ λ e. ap is_lt (nat_list_cmp_total.trans k f g less e)
      | Equal ↦ λ e. ap (λ x. is_lt (by_bytes k x)) (sym (differ f g e)) ∙ p
      | Greater ↦ λ e. no (is_lt (by_bytes g f)) (ap is_lt (nat_list_cmp_total.antisymm g f ∙ ap ordering_reverse e)) q
    ] refl

module _ (h : Resources) (ip : Ip) where
  at_before : (name : List ℕ) (w : Workload) → is_changed h Address name ≡ false → IsAt h ip name w → IsAt (before h) ip name w
  at_before name w u at = (at.0, unchanged h.addresses h.past_addresses name u ∙ at.1, at.2, at.3)

  at_now : (name : List ℕ) (w : Workload) → is_changed h Address name ≡ false → IsAt (before h) ip name w → IsAt h ip name w
  at_now name w u at = (at.0, sym (unchanged h.addresses h.past_addresses name u) ∙ at.1, at.2, at.3)

  -- a workload that was changed and had the address was there before
  was_there : (k : List ℕ) (o : Option (Versioned AddressRecord)) → get h.past_addresses k ≡ Some o → had_address h.network ip o ≡ true
      → (w : Workload) × IsAt (before h) ip k w
  was_there k None is had = absurd cc
  was_there k (Some v) is had =
      elim (workload_of v.content) as
      (λ x. workload_of v.content ≡ x → is_at h.network ip x ≡ true → (w : Workload) × IsAt (before h) ip k w) [
        | None ↦ λ _ no. absurd cc
        | Some w ↦ λ e at. (w, (v, changed h.addresses h.past_addresses k (Some v) is, e, at))
      ] refl had

  had : (k : List ℕ) (w : Workload) (o : Option (Versioned AddressRecord)) → get h.past_addresses k ≡ Some o → IsAt (before h) ip k w
      → had_address h.network ip o ≡ true
  had k w o is at =
      ap (had_address h.network ip) (sym (changed h.addresses h.past_addresses k o is) ∙ at.1) ∙ ap (is_at h.network ip) at.2 ∙ at.3

  -- no workload that was changed had the address under a smaller name
  no_smaller : (least : Option (List ℕ)) (k : List ℕ) (w : Workload) → had_smaller h ip least ≡ false → IsAt (before h) ip k w
      → is_changed h Address k ≡ true → precedes k least ≡ false
  no_smaller least k w none at was =
      let note = is_there (get h.past_addresses k) was in
      elim (precedes k least) as (λ b. precedes k least ≡ b → b ≡ false) [
        | true ↦ λ first. no (had_smaller h ip least) (any_held (λ e. had_address h.network ip e.1 && precedes e.0 least) h.past_addresses k
            note.0 note.1 (both _ _ (had k w note.0 note.1 at) first)) none
        | false ↦ λ _. refl
      ] refl

  abbrev name_of : Option (List ℕ × Workload) → Option (List ℕ)
  name_of None = None
  name_of (Some f) = Some f.0

  none_before : had_smaller h ip None ≡ false → IsLeastAt h ip None → IsLeastAt (before h) ip None
  none_before none least = λ name w at.
      elim (is_changed h Address name) as (λ b. is_changed h Address name ≡ b → ⊥) [
        | true ↦ λ was. no true refl (no_smaller None name w none at was)
        | false ↦ λ u. least name w (at_now name w u at)
      ] refl

  same_before : (f : List ℕ × Workload) → is_changed h Address f.0 ≡ false → had_smaller h ip (Some f.0) ≡ false
      → IsLeastAt h ip (Some f) → IsLeastAt (before h) ip (Some f)
  same_before f u none least = (
    at_before f.0 f.1 u least.0,
    λ name w at. elim (is_changed h Address name) as (λ b. is_changed h Address name ≡ b → is_lt (by_bytes name f.0) ≡ false) [
      | true ↦ λ was. no_smaller (Some f.0) name w none at was
      | false ↦ λ v. least.1 name w (at_now name w v at)
    ] refl,
  )

  after_smaller : (k : List ℕ) (w : Workload) (now : Option (List ℕ × Workload)) (g : List ℕ × Workload)
      → precedes k (name_of now) ≡ true → IsLeastAt h ip now → is_lt (by_bytes k g.0) ≡ false → IsAt h ip g.0 g.1 → false ≡ true
  after_smaller k w None g first least not_less at = absurd (least g.0 g.1 at)
  after_smaller k w (Some f) g first least not_less at = sym not_less ∙ less_then k f.0 g.0 first (least.1 g.0 g.1 at)

  -- a workload that was changed went before what is there now, so the one that was there was changed
  smaller_was : (now then : Option (List ℕ × Workload)) → had_smaller h ip (name_of now) ≡ true → IsLeastAt h ip now
      → IsLeastAt (before h) ip then → is_workload_changed h then ≡ true
  smaller_was now then any least least_then =
      let found = held_any (λ e. had_address h.network ip e.1 && precedes e.0 (name_of now)) h.past_addresses any in
      let k = found.0 in
      let there = was_there k found.1 found.2 (and_left _ _ found.3) in
      let first = and_right _ _ found.3 in
      elim then as (λ t. IsLeastAt (before h) ip t → is_workload_changed h t ≡ true) [
        | None ↦ λ l. absurd (l k there.0 there.1)
        | Some g ↦ λ l. elim (is_changed h Address g.0) as (λ b. is_changed h Address g.0 ≡ b → b ≡ true) [
          | true ↦ λ _. refl
          | false ↦ λ u. after_smaller k there.0 now g first least (l.1 k there.0 there.1) (at_now g.0 g.1 u l.0)
        ] refl
      ] least_then

module _ (h : Resources) (w : Workload) where
  abbrev pub passes : List ℕ × Versioned Policy → Bool
  passes p = is_changed h Authorization p.0 && is_for w p.1.content

  abbrev stood_for : List ℕ × Option (Versioned Policy) → Bool
  stood_for e = stands_for w e.1 || stands_for w (get h.policies e.0)

  -- a policy that passes is noted
  is_noted : (k : List ℕ) (v : Versioned Policy) → passes (k, v) ≡ true
      → ((stood : Option (Versioned Policy)) → get h.past_policies k ≡ Some stood → stood_for (k, stood) ≡ true) → had_policy h w ≡ true
  is_noted k v p stood =
      let note = is_there (get h.past_policies k) (and_left _ _ p) in
      any_held stood_for h.past_policies k note.0 note.1 (stood note.0 note.1)

  before_noted : list_any passes (entries (before h).policies) ≡ true → had_policy h w ≡ true
  before_noted any =
      let found = held_any passes (before h).policies any in
      is_noted found.0 found.1 found.3 (λ stood is. or_left (stands_for w stood) _
      (ap (stands_for w) (sym (changed h.policies h.past_policies found.0 stood is) ∙ found.2)
      ∙ and_right (is_changed h Authorization found.0) (is_for w found.1.content) found.3))

  now_noted : list_any passes (entries h.policies) ≡ true → had_policy h w ≡ true
  now_noted any =
      let found = held_any passes h.policies any in
      is_noted found.0 found.1 found.3 (λ stood is. or_right (stands_for w stood) _
      (ap (stands_for w) found.2 ∙ and_right (is_changed h Authorization found.0) (is_for w found.1.content) found.3))

  either_noted : (a b : Bool) → (a ≡ true → had_policy h w ≡ true) → (b ≡ true → had_policy h w ≡ true) → (a || b) ≡ true
      → had_policy h w ≡ true
  either_noted true b f g is = f refl
  either_noted false b f g is = g is

  stood_passes : (m : Named (Versioned Policy)) (k : List ℕ) (o : Option (Versioned Policy)) → is_some (get h.past_policies k) ≡ true
      → get m k ≡ o → stands_for w o ≡ true → list_any passes (entries m) ≡ true
  stood_passes m k None was is stands = absurd cc
  stood_passes m k (Some v) was is stands = any_held passes m k v is (both _ _ was stands)

  noted_either : had_policy h w ≡ true → (list_any passes (entries (before h).policies) || list_any passes (entries h.policies)) ≡ true
  noted_either any =
      let found = held_any stood_for h.past_policies any in
      let k = found.0 in
      let was : is_some (get h.past_policies k) ≡ true = ap is_some found.2 in
      elim (stands_for w found.1) as (λ b. stands_for w found.1 ≡ b → (b || stands_for w (get h.policies k)) ≡ true
      → (list_any passes (entries (before h).policies) || list_any passes (entries h.policies)) ≡ true) [
        | true ↦ λ stood _. or_left _ _
            (stood_passes (before h).policies k found.1 was (changed h.policies h.past_policies k found.1 found.2) stood)
        | false ↦ λ _ stands. or_right (list_any passes (entries (before h).policies)) _
            (stood_passes h.policies k (get h.policies k) was refl stands)
      ] refl found.3

  pub policy_noted : had_policy h w ≡ (list_any passes (entries (before h).policies) || list_any passes (entries h.policies))
  policy_noted = both_ways _ _ noted_either (either_noted _ _ before_noted now_noted)

-- the workload that is found, where it is of the node
abbrev of_node : Resources → Option (List ℕ × Workload) → Option (List ℕ × Workload)
of_node h None = None
of_node h (Some e) = cond (bytes_eq e.1.node h.node) (Some e) None

abbrev in_with : Resources → Resources → Option (List ℕ × Workload) → Bool
in_with h r found = is_workload_changed h found || is_policy_changed h r.policies (of_node r found)

or_true : (b : Bool) → (b || true) ≡ true
or_true true = refl
or_true false = refl

module _ (h : Resources) (ip : Ip) where
  by_policies : (f : List ℕ × Workload) (u : is_changed h Address f.0 ≡ false)
      → (bytes_eq f.1.node h.node && had_policy h f.1) ≡ (in_with h (before h) (Some f) || in_with h h (Some f))
  by_policies f u =
      elim (bytes_eq f.1.node h.node) as (λ b. (b && had_policy h f.1)
      ≡ ((is_changed h Address f.0 || is_policy_changed h (before h).policies (cond b (Some f) None))
      || (is_changed h Address f.0 || is_policy_changed h h.policies (cond b (Some f) None)))) [
        | true ↦ policy_noted h f.1 ∙ sym (ap (λ c. ((c || is_policy_changed h (before h).policies (Some f))
            || (c || is_policy_changed h h.policies (Some f)))) u)
        | false ↦ sym (ap (λ c. ((c || false) || (c || false))) u)
      ]

  from_both : (now then : Option (List ℕ × Workload)) → IsLeastAt h ip now → IsLeastAt (before h) ip then
      → touched_from h ip now ≡ (in_with h (before h) then || in_with h h now)
  from_both None then least least_then =
      elim (had_smaller h ip None) as (λ b. had_smaller h ip None ≡ b → b ≡ (in_with h (before h) then || false)) [
        | true ↦ λ any. sym (or_left _ _ (or_left _ _ (smaller_was h ip None then any least least_then)))
        | false ↦ λ none. ap (λ t. in_with h (before h) t || false)
            (one_least (before h) ip None then (none_before h ip none least) least_then)
      ] refl
  from_both (Some f) then least least_then =
      elim (is_changed h Address f.0) as (λ b. is_changed h Address f.0 ≡ b
      → (b || (had_smaller h ip (Some f.0) || (bytes_eq f.1.node h.node && had_policy h f.1)))
      ≡ (in_with h (before h) then || (b || is_policy_changed h h.policies (of_node h (Some f))))) [
        | true ↦ λ _. sym (or_true (in_with h (before h) then))
        | false ↦ λ u. elim (had_smaller h ip (Some f.0)) as (λ b. had_smaller h ip (Some f.0) ≡ b
            → (b || (bytes_eq f.1.node h.node && had_policy h f.1))
            ≡ (in_with h (before h) then || is_policy_changed h h.policies (of_node h (Some f)))) [
              | true ↦ λ any. sym (or_left _ _ (or_left _ _ (smaller_was h ip (Some f) then any least least_then)))
              | false ↦ λ none. by_policies f u
                  ∙ ap (λ t. in_with h (before h) t || in_with h h (Some f))
                  (one_least (before h) ip (Some f) then (same_before h ip f u none least) least_then)
                  ∙ ap (λ c. in_with h (before h) then || (c || is_policy_changed h h.policies (of_node h (Some f)))) u
            ] refl
      ] refl

of_node_in : (h r : Resources) (ip : Ip) (o : Option (List ℕ × Workload)) → workload_at r ip ≡ o → is_touched_in h r ip ≡ in_with h r o
of_node_in h r ip None is = ap (λ t. is_workload_changed h t || is_policy_changed h r.policies
    (option_and_then (λ e. cond (bytes_eq e.1.node r.node) (Some e) None) t)) is
of_node_in h r ip (Some e) is = ap (λ t. is_workload_changed h t || is_policy_changed h r.policies
    (option_and_then (λ e. cond (bytes_eq e.1.node r.node) (Some e) None) t)) is

pub from_is_touched : (h : Resources) (ip : Ip) → touched_from h ip (workload_at h ip) ≡ touched h ip
from_is_touched h ip =
    from_both h ip (workload_at h ip) (workload_at (before h) ip) (least_found h ip) (least_found (before h) ip)
    ∙ ap (λ a. a || in_with h h (workload_at h ip)) (sym (of_node_in h (before h) ip (workload_at (before h) ip) refl))
    ∙ ap (λ b. is_touched_in h (before h) ip || b) (sym (of_node_in h h ip (workload_at h ip) refl))

nor_left : (a b : Bool) → (a || b) ≡ false → a ≡ false
nor_left true b h = absurd cc
nor_left false b h = refl

nor_right : (a b : Bool) → (a || b) ≡ false → b ≡ false
nor_right true b h = absurd cc
nor_right false b h = h

module _ (h : Resources) (ip : Ip) where
  same_workload : (now : Option (List ℕ × Workload)) → IsLeastAt h ip now → touched_from h ip now ≡ false → IsLeastAt (before h) ip now
  same_workload None least none = none_before h ip none least
  same_workload (Some f) least none =
      same_before h ip f (nor_left _ _ none) (nor_left _ _ (nor_right (is_changed h Address f.0) _ none)) least

  pub found_stays : touched h ip ≡ false → workload_at h ip ≡ workload_at (before h) ip
  found_stays no_touch =
      one_least (before h) ip (workload_at h ip) (workload_at (before h) ip)
      (same_workload (workload_at h ip) (least_found h ip) (from_is_touched h ip ∙ no_touch)) (least_found (before h) ip)

-- no policy under a changed name passes
module _ (h : Resources) (w : Workload) where
  abbrev for_it : List ℕ × Versioned Policy → Bool
  for_it e = is_for w e.1.content

  none_passes : (m : Named (Versioned Policy)) (q : List ℕ) → is_changed h Authorization q ≡ true
      → list_any (passes h w) (entries m) ≡ false
      → passed for_it q (get m q) ≡ None
  none_passes m q was none =
      elim (get m q) as (λ o. get m q ≡ o → passed for_it q o ≡ None) [
        | None ↦ λ _. refl
        | Some v ↦ λ is. elim (is_for w v.content) as (λ b. is_for w v.content ≡ b → cond b (Some v) None ≡ None) [
          | true ↦ λ yes. no (list_any (passes h w) (entries m)) (any_held (passes h w) m q v is (both _ _ was yes)) none
          | false ↦ λ _. refl
        ] refl
      ] refl

  contents : (es : List (List ℕ × Versioned Policy)) → policies_in es w ≡ map (λ e. e.1.content) (filter for_it es)
  contents [] = refl
  contents (e ∷ es) =
      elim (is_for w e.1.content) as (λ b.
      cond b (e.1.content ∷ policies_in es w) (policies_in es w)
      ≡ map (λ e. e.1.content) (cond b (e ∷ filter for_it es) (filter for_it es))) [
        | true ↦ ap (λ ps. e.1.content ∷ ps) (contents es)
        | false ↦ contents es
      ]

  pub policies_stay : list_any (passes h w) (entries (before h).policies) ≡ false → list_any (passes h w) (entries h.policies) ≡ false
      → policies_for h w ≡ policies_for (before h) w
  policies_stay none_were none_are =
      contents (entries h.policies)
      ∙ ap (map (λ e. e.1.content)) (passing_alike for_it h.policies (before h).policies (λ q.
      elim (is_changed h Authorization q) as (λ b. is_changed h Authorization q ≡ b
      → passed for_it q (get h.policies q) ≡ passed for_it q (get (before h).policies q)) [
        | true ↦ λ was. none_passes h.policies q was none_are ∙ sym (none_passes (before h).policies q was none_were)
        | false ↦ λ u. ap (passed for_it q) (sym (unchanged h.policies h.past_policies q u))
      ] refl))
      ∙ sym (contents (entries (before h).policies))

pub untouched_stays : UntouchedStays
untouched_stays h ip none =
    let same_known : known h ip ≡ known (before h) ip =
    ap (option_and_then (λ e. cond (bytes_eq e.1.node h.node) (Some e) None)) (found_stays h ip none) in (
      same_known,
      λ e is. policies_stay h e.1
          (ap (is_policy_changed h (before h).policies) (sym (sym same_known ∙ is))
          ∙ nor_right (is_workload_changed h (workload_at (before h) ip)) _ (nor_left _ _ none))
          (ap (is_policy_changed h h.policies) (sym is)
          ∙ nor_right (is_workload_changed h (workload_at h ip)) _ (nor_right (is_touched_in h (before h) ip) _ none)),
    )
