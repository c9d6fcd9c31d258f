-- What is touched is among the few.
use Rattle.std.proofs.Common.{arith, ◌≡◌, ℕ, Bool, true, false, List, [], ◌∷◌, ◌++◌, Option, Some, None, refl, ap, sym, ◌∙◌}
use Rattle.std.specs.Prelude.{◌||◌, ◌&&◌, ◌==◌, ◌≤◌, not, map, length, nat_lt, if◌then◌else◌}
use Rattle.std.specs.List.{list_any, flat_map}
use Rattle.std.specs.Ordering.{nat_cmp}
use Rattle.std.specs.Cmp.Lexicographic.{slice_cmp}
use Rattle.std.specs.FinMap.{get, entries, len, empty_of_len, get-empty}
use Rattle.std.proofs.lemmas.Bool.{or_parts, eqb-true, eq-eqb}
use Rattle.std.proofs.lemmas.List.Folds.{list_any-append}
use Rattle.std.specs.Str.{bytes_eq}
use Rattle.hb_base.specs.declared.ip.Ip.{Ip}
use Rattle.hb_base.specs.declared.ip.Ip.TheVariants as ips
use Rattle.hb_disco.specs.declared.kind.Kind.TheVariants.{Address}
use Rattle.hb_records.specs.declared.authorization.Authorization.{Authorization as Policy}
use Rattle.hb_records.specs.declared.address.AddressRecord.{AddressRecord}
use Rattle.hb_records.specs.declared.workload.Workload.{Workload}
use Rattle.hb_index.specs.Index.{is_among}
use Rattle.hb_index.proofs.Undone.{is_there, or_right, and_left, and_right}
use Rattle.hb_held.specs.declared.versioned.Versioned.{Versioned}
use Rattle.hb_held.specs.Few.{numbers_of, numbers_at, numbers_under, changed_numbers, if_few}
use Rattle.hb_held.specs.Held.{Resources, is_changed}
use Rattle.hb_held.specs.Laws.{IsAt, IsLeastAt, ChangedAreTouched, LackingIsWrong}
use Rattle.hb_held.specs.Lookup.{ip_eq, workload_of, workload_at}
use Rattle.hb_held.specs.Numbers.{number_of}
use Rattle.hb_held.specs.Touched.{touched, touched_from, is_at, had_address, had_smaller, stands_for, had_policy, precedes}
use Rattle.hb_held.proofs.LeastLaw.{no, least_found}
use Rattle.hb_held.proofs.Somewhere.{any_held, held_any}
use Rattle.hb_held.proofs.TouchedLaw.{from_is_touched}

-- one of some numbers isn't among these
abbrev pub lacks_any : List ℕ → List ℕ → Bool
lacks_any few ns = list_any (λ n. not (is_among few n)) ns

not_lacking : (b : Bool) → not b ≡ false → b ≡ true
not_lacking true h = refl
not_lacking false h = absurd cc

is_not : (b : Bool) → b ≡ true → not b ≡ false
is_not true h = refl
is_not false h = absurd cc

-- MORE NUMBERS

among_front : (front back : List ℕ) (n : ℕ) → is_among front n ≡ true → is_among (front ++ back) n ≡ true
among_front front back n h = list_any-append (λ m. m == n) front back ∙ ap (λ b. b || is_among back n) h

among_back : (front back : List ℕ) (n : ℕ) → is_among back n ≡ true → is_among (front ++ back) n ≡ true
among_back front back n h = list_any-append (λ m. m == n) front back ∙ or_right (is_among front n) (is_among back n) h

-- of numbers that are all among the few none is lacking
lacks_none : (few ns : List ℕ) → ((n : ℕ) → is_among ns n ≡ true → is_among few n ≡ true) → lacks_any few ns ≡ false
lacks_none few [] all = refl
lacks_none few (n ∷ ns) all =
    ap (λ b. b || lacks_any few ns) (is_not (is_among few n) (all n (ap (λ b. b || is_among ns n) (eq-eqb n n refl))))
    ∙ lacks_none few ns (λ m there. all m (or_right (n == m) (is_among ns m) there))

-- ONE WORKLOAD

same_ip : (a b : Ip) → ip_eq a b ≡ true → number_of a ≡ number_of b
same_ip (ips.V4 a) (ips.V4 b) h = eqb-true a b h
same_ip (ips.V4 a) (ips.V6 b) h = absurd cc
same_ip (ips.V6 a) (ips.V4 b) h = absurd cc
same_ip (ips.V6 a) (ips.V6 b) h = eqb-true a b h

among_numbers : (few : List ℕ) (addresses : List Ip) (ip : Ip) → lacks_any few (map number_of addresses) ≡ false
    → list_any (λ a. ip_eq a ip) addresses ≡ true → is_among few (number_of ip) ≡ true
among_numbers few [] ip none any = absurd cc
among_numbers few (a ∷ rest) ip none any =
    let parts = or_parts (not (is_among few (number_of a))) (lacks_any few (map number_of rest)) none in
    elim (ip_eq a ip) as (λ b. ip_eq a ip ≡ b → (b || list_any (λ a. ip_eq a ip) rest) ≡ true → is_among few (number_of ip) ≡ true) [
      | true ↦ λ same _. ap (is_among few) (sym (same_ip a ip same)) ∙ not_lacking (is_among few (number_of a)) parts.0
      | false ↦ λ _ there. among_numbers few rest ip parts.1 there
    ] refl any

had_among : (network few : List ℕ) (ip : Ip) (o : Option (Versioned AddressRecord)) → lacks_any few (numbers_at o) ≡ false
    → had_address network ip o ≡ true → is_among few (number_of ip) ≡ true
had_among network few ip None none had = absurd cc
had_among network few ip (Some v) none had = by (workload_of v.content) none had
  where
    by : (w : Option Workload) → lacks_any few (numbers_of w) ≡ false → is_at network ip w ≡ true → is_among few (number_of ip) ≡ true
    by None none at = absurd cc
    by (Some w) none at = among_numbers few w.addresses ip none (and_right (bytes_eq w.network network) _ at)

-- ALL THAT WERE CHANGED

-- of what stands under a name now, or stood, one number isn't among these
abbrev pub lacks : Resources → List ℕ → List ℕ × Option (Versioned AddressRecord) → Bool
lacks h few e = lacks_any few (numbers_at e.1) || lacks_any few (numbers_at (get h.addresses e.0))

-- where all numbers under some names are among the few, none is lacking
under_lacks : (h : Resources) (few : List ℕ) (es : List (List ℕ × Option (Versioned AddressRecord)))
    → ((n : ℕ) → is_among (flat_map (numbers_under h) es) n ≡ true → is_among few n ≡ true) → list_any (lacks h few) es ≡ false
under_lacks h few [] all = refl
under_lacks h few (e ∷ es) all =
    let was = numbers_at e.1 in
    let now = numbers_at (get h.addresses e.0) in
    let rest = flat_map (numbers_under h) es in
    ap (λ b. (b || lacks_any few now) || list_any (lacks h few) es)
    (lacks_none few was (λ n there. all n (among_front (was ++ now) rest n (among_front was now n there))))
    ∙ ap (λ b. b || list_any (lacks h few) es)
    (lacks_none few now (λ n there. all n (among_front (was ++ now) rest n (among_back was now n there))))
    ∙ under_lacks h few es (λ n there. all n (among_back (was ++ now) rest n there))

pub no_policy : (h : Resources) → len h.past_policies ≡ 0 → (w : Workload) → had_policy h w ≡ false
no_policy h is w = by (had_policy h w) refl
  where
    by : (b : Bool) → had_policy h w ≡ b → had_policy h w ≡ false
    by false here = here
    by true any =
        let found = held_any (λ e. stands_for w e.1 || stands_for w (get h.policies e.0)) h.past_policies any in
        absurd (none_at found.1 (sym (get-empty (slice_cmp nat_cmp) found.0) ∙ sym (ap (λ m. get m found.0) (empty_of_len h.past_policies is))
        ∙ found.2))
      where
        none_at : (v : Option (Versioned Policy)) → None ≡ Some v → ⊥
        none_at v h = absurd cc

module _ (h : Resources) (few : List ℕ) (none : list_any (lacks h few) (entries h.past_addresses) ≡ false)
    (no_policies : (w : Workload) → had_policy h w ≡ false) (ip : Ip) where
  none_lacks : (k : List ℕ) (o : Option (Versioned AddressRecord)) → get h.past_addresses k ≡ Some o
      → (lacks_any few (numbers_at o) ≡ false) × (lacks_any few (numbers_at (get h.addresses k)) ≡ false)
  none_lacks k o is = by (lacks h few (k, o)) refl
    where
      by : (b : Bool) → lacks h few (k, o) ≡ b
          → (lacks_any few (numbers_at o) ≡ false) × (lacks_any few (numbers_at (get h.addresses k)) ≡ false)
      by true it = no (list_any (lacks h few) (entries h.past_addresses)) (any_held (lacks h few) h.past_addresses k o is it) none
      by false it = or_parts (lacks_any few (numbers_at o)) (lacks_any few (numbers_at (get h.addresses k))) it

  smaller_among : (least : Option (List ℕ)) → had_smaller h ip least ≡ true → is_among few (number_of ip) ≡ true
  smaller_among least any =
      let found = held_any (λ e. had_address h.network ip e.1 && precedes e.0 least) h.past_addresses any in
      had_among h.network few ip found.1 (none_lacks found.0 found.1 found.2).0 (and_left _ _ found.3)

  changed_among : (f : List ℕ × Workload) → IsAt h ip f.0 f.1 → is_changed h Address f.0 ≡ true → is_among few (number_of ip) ≡ true
  changed_among f at was =
      let note = is_there (get h.past_addresses f.0) was in
      had_among h.network few ip (get h.addresses f.0) (none_lacks f.0 note.0 note.1).1
      (ap (had_address h.network ip) at.1 ∙ ap (is_at h.network ip) at.2 ∙ at.3)

  from_among : (now : Option (List ℕ × Workload)) → IsLeastAt h ip now → touched_from h ip now ≡ true
      → is_among few (number_of ip) ≡ true
  from_among None least any = smaller_among None any
  from_among (Some f) least any =
      elim (is_changed h Address f.0) as (λ b. is_changed h Address f.0 ≡ b
      → (b || (had_smaller h ip (Some f.0) || (bytes_eq f.1.node h.node && had_policy h f.1))) ≡ true
      → is_among few (number_of ip) ≡ true) [
        | true ↦ λ was _. changed_among f least.0 was
        | false ↦ λ _ rest. elim (had_smaller h ip (Some f.0)) as (λ b. had_smaller h ip (Some f.0) ≡ b
            → (b || (bytes_eq f.1.node h.node && had_policy h f.1)) ≡ true → is_among few (number_of ip) ≡ true) [
              | true ↦ λ smaller _. smaller_among (Some f.0) smaller
              | false ↦ λ _ policy. no (had_policy h f.1) (and_right (bytes_eq f.1.node h.node) _ policy) (no_policies f.1)
            ] refl rest
      ] refl any

-- where no policy was changed, each address that was touched is among those under the changed names
pub changed_are_touched : ChangedAreTouched
changed_are_touched h is ip touched =
    from_among h (changed_numbers h) (under_lacks h (changed_numbers h) (entries h.past_addresses) (λ n there. there)) (no_policy h is) ip
    (workload_at h ip) (least_found h ip) (from_is_touched h ip ∙ touched)

pub lacking_is_wrong : LackingIsWrong
lacking_is_wrong h few ip touched lacking all = by (is_among few (number_of ip)) lacking (all ip touched)
  where
    by : (b : Bool) → b ≡ false → b ≡ true → ⊥
    by true none some = absurd cc
    by false none some = absurd cc

-- SOME AT A TIME

-- the few are those under the names that were passed over
pub if_few_is : (few ns : List ℕ) → if_few few ≡ Some ns → ns ≡ few
if_few_is few ns is = by (nat_lt (length few) 9) is
  where
    by : (b : Bool) → (if b then Some few else None) ≡ Some ns → ns ≡ few
    by true is = cc
    by false is = absurd cc

-- where some are too many, so is each list that is as long
pub too_many : (few more : List ℕ) → if_few few ≡ None → length few ≤ length more → if_few more ≡ None
too_many few more is as_long = by (nat_lt (length few) 9) refl is
  where
    by : (b : Bool) → nat_lt (length few) 9 ≡ b → (if b then Some few else None) ≡ None → if_few more ≡ None
    by true here is = absurd cc
    by false here is = ap (λ b. if b then Some more else None) (longer (length few) (length more) as_long here)
      where
        longer : (m n : ℕ) → m ≤ n → nat_lt m 9 ≡ false → nat_lt n 9 ≡ false
        longer m n le here = grind arith
