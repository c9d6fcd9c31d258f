-- Where no link is one to the control plane nobody is admitted.
use Rattle.std.proofs.Common.{◌≡◌, Ordering, ℕ, false, cond, List, [], ◌∷◌, ◌++◌, fold, length, Option, Some, None, refl, ap, sym, ◌∙◌, arith}
use Rattle.std.specs.Cmp.Lexicographic.{slice_cmp}
use Rattle.std.specs.FinMap.{FinMap, len, entries as entries_of, len-entries, len-empty}
use Rattle.std.specs.List.{list_any, filter_map}
use Rattle.std.specs.Ordering.{nat_cmp}
use Rattle.std.specs.Prelude.{filter, option_and_then}
use Rattle.std.specs.Str.{bytes_eq}
use Rattle.std.proofs.lemmas.Bool.{both_ways}
use Rattle.std.proofs.lemmas.List.{append_assoc}
use Rattle.std.proofs.lemmas.List.Concat.{flat_map-append}
use Rattle.hb_base.specs.declared.ip.Ip.{Ip}
use Rattle.hb_base.specs.declared.peer.Peer.{Peer}
use Rattle.hb_base.specs.declared.target.Target.{Target}
use Rattle.hb_held.specs.Held.{Resources, nothing_held}
use Rattle.hb_held.specs.Lookup.{has_address, named_workload, least, workload_at, known}
use Rattle.hb_held.specs.declared.versioned.Versioned.{Versioned}
use Rattle.hb_model.specs.Calls.{is_control_of}
use Rattle.hb_model.specs.Inner.{InnerLaw}
use Rattle.hb_model.specs.Messages.{held, held_by}
use Rattle.hb_model.specs.Point as point
use Rattle.hb_model.specs.declared.config.NodeConfig.{NodeConfig}
use Rattle.hb_proxy.specs.Held.{at_start}
use Rattle.hb_proxy.specs.Points.{Point, entries, control_of}
use Rattle.hb_records.specs.declared.address.AddressRecord.{AddressRecord}
use Rattle.hb_records.specs.declared.workload.Workload.{Workload}
use Rattle.hb_table.specs.Judgement.{judged_at, judged}
use Rattle.hb_table.specs.declared.judgement.Judged.TheVariants.{Unknown, Admitted}
use Rattle.hb_world.specs.declared.entry.Entry.{Entry}
use Rattle.hb_laws.specs.Lawful.{Lawful}
use Rattle.hb_laws.proofs.Tells.{untold}
use Rattle.hb_laws.proofs.Tests.{none_in_front}

-- nothing is applied there, and nothing is held
nothing_applied : (g : NodeConfig) (points : List point.Point) → InnerLaw points
    → ((l : ℕ) → list_any (is_control_of l) (point.entries points) ≡ false) → held g points ≡ nothing_held g.network g.node g.doors
nothing_applied g points inner none = stays [] points refl (nothing_held g.network g.node g.doors)
  where
    stays : (front rest : List point.Point) → points ≡ front ++ rest → (h : Resources) → fold held_by h rest ≡ h
    stays front [] are h = refl
    stays front (point.applied l r ∷ rest) are h =
        absurd (both_ways _
        (none_in_front (is_control_of l) (point.entries points) (point.entries front) (point.entries (point.applied l r ∷ rest))
        (ap point.entries are ∙ flat_map-append point.entry_in front (point.applied l r ∷ rest)) (none l))
        (inner front (point.applied l r) rest are).control)
    stays front (q ∷ rest) are h = stays (front ++ q ∷ []) rest (are ∙ sym (append_assoc front (q ∷ []) rest)) h

-- no peer is admitted anywhere
no_length : {X : Type 0} (xs : List X) → length xs ≡ 0 → xs ≡ []
no_length [] is = refl
no_length (x ∷ xs) is = absurd (omega (arith, is))

no_entries : {K X : Type 0} {R : K → K → Ordering} (m : FinMap R X) → len m ≡ 0 → entries_of m ≡ []
no_entries m none = no_length (entries_of m) (sym (len-entries m) ∙ none)

-- where no address is held no workload is known, so nobody is admitted
unknown : (h : Resources) (ip : Ip) → len h.addresses ≡ 0 → known h ip ≡ None
unfolding workload_at
unknown h ip none =
    ap (λ (es : List (List ℕ × Versioned AddressRecord)). option_and_then (λ e. cond (bytes_eq e.1.node h.node) (Some e) None)
    (least (filter (λ e. has_address h.network ip e.1) (filter_map named_workload es)))) (no_entries h.addresses none)

pub nobody_admitted : (h : Resources) (peer : Peer) (target : Target) → len h.addresses ≡ 0 → judged h peer target ≡ Admitted → ⊥
nobody_admitted h peer target none admitted =
    let no : Unknown ≡ Admitted =
    sym (ap (λ (o : Option (List ℕ × Workload)). judged_at h o (record { peer = peer; target = target })) (unknown h target.ip none))
    ∙ admitted in
    cc

-- where no link was one to the control plane what is held is what was at the start
pub nothing_told : (g : NodeConfig) (trace : List Entry) → (h : Lawful g trace) → (front rest : List Point) → h.points ≡ front ++ rest
    → ((l : ℕ) → list_any (is_control_of l) (entries front) ≡ false) → held g (control_of front) ≡ at_start g
nothing_told g trace h front rest are no_link =
    nothing_applied g (control_of front) (h.laws front rest are).control.inner (λ l. untold (is_control_of l) front (no_link l))

pub none_admitted : (g : NodeConfig) (trace : List Entry) → (h : Lawful g trace) → (front rest : List Point) → h.points ≡ front ++ rest
    → ((l : ℕ) → list_any (is_control_of l) (entries front) ≡ false) → (peer : Peer) (target : Target)
    → judged (held g (control_of front)) peer target ≡ Admitted → ⊥
none_admitted g trace h front rest are no_link peer target admitted =
    nobody_admitted (held g (control_of front)) peer target
    (ap (λ (r : Resources). len r.addresses) (nothing_told g trace h front rest are no_link) ∙ len-empty (slice_cmp nat_cmp) _) admitted
