-- The notes of what a response changes give back what was held before it.
use Rattle.std.proofs.Common.{◌≡◌, ℕ, true, false, cond, List, [], ◌∷◌, length, Option, Some, None, is_some, Result, Ok, Err, refl, ap, sym, ◌∙◌}
use Rattle.std.specs.Prelude.{◌==◌, filter, option_and_then}
use Rattle.std.specs.List.{filter_map}
use Rattle.std.specs.Result.{result_unwrap_or}
use Rattle.std.specs.Ordering.{eq_by_cmp, is_eq}
use Rattle.std.specs.Cmp.{tied_itself}
use Rattle.std.specs.Cmp.Lexicographic.{nat_list_cmp_total}
use Rattle.std.specs.Str.{bytes_eq}
use Rattle.std.specs.FinMap.{empty, entries, get, insert, remove, get-empty, get-insert, get-remove, same_map}
use Rattle.hb_base.specs.declared.ip.Ip.{Ip}
use Rattle.hb_disco.specs.Kind.{type_url}
use Rattle.hb_disco.specs.declared.kind.Kind.{Kind}
use Rattle.hb_disco.specs.declared.kind.Kind.TheVariants.{Address, Authorization}
use Rattle.hb_disco.specs.declared.response.Resource.{Resource}
use Rattle.hb_disco.specs.declared.response.Response.{Response}
use Rattle.hb_records.specs.declared.address.AddressRecord.{AddressRecord}
use Rattle.hb_records.specs.declared.authorization.Authorization.{Authorization as Policy}
use Rattle.hb_records.specs.declared.fault.RecordFault.{RecordFault}
use Rattle.hb_records.specs.declared.workload.Workload.{Workload}
use Rattle.hb_records.specs.Address.{address_of}
use Rattle.hb_records.specs.Authorization.{authorization_of}
use Rattle.hb_index.specs.Kept.{note, note_removal, undone}
use Rattle.hb_index.specs.Named.{Named}
use Rattle.hb_index.proofs.Entries.{by_bytes, differ, equal, gone_already}
use Rattle.hb_index.proofs.Undone.{noted, unchanged, changed}
use Rattle.hb_held.specs.declared.outcome.RefusedWhy.{RefusedWhy}
use Rattle.hb_held.specs.declared.outcome.RefusedWhy.TheVariants.{NoName, WrongType, Full}
use Rattle.hb_held.specs.declared.versioned.Versioned.{Versioned}
use Rattle.hb_held.specs.Held.{Resources, begun, before, fits, without, with_address, with_policy, with_came}
use Rattle.hb_held.specs.Laws.{NotesGiveBack, UntouchedByResponse, GivesBack, latest_note, no_note}
use Rattle.hb_held.specs.Lookup.{has_address, named_workload, least, workload_at, known}
use Rattle.hb_held.specs.Outcome.{with_read_address, with_read_policy, with_record, with_resource, after_resource, after_removals, after_resources, after_response}
use Rattle.hb_held.specs.Policies.{policies_in}
use Rattle.hb_held.proofs.LeastLaw.{nothing}
use Rattle.hb_held.proofs.TouchedLaw.{untouched_stays}

module _ {T : Type 0} where
  get_before : (m : Named T) (past : Named (Option T)) (q : List ℕ) → get (undone m past) q ≡ noted (get past q) (get m q)
  get_before m past q =
      elim (get past q) as (λ o. get past q ≡ o → get (undone m past) q ≡ noted o (get m q)) [
        | None ↦ λ is. unchanged m past q (ap is_some is)
        | Some stood ↦ λ is. changed m past q stood is
      ] refl

  -- under the name that is changed the first note counts
  own_note : (past : Named (Option T)) (name : List ℕ) (stood x : Option T)
      → noted (get (note past name stood) name) x ≡ noted (get past name) stood
  own_note past name stood x =
      elim (get past name) as (λ o. get past name ≡ o
      → noted (get (cond (is_some o) past (insert past name stood)) name) x ≡ noted o stood) [
        | None ↦ λ is. ap (λ o. noted o x) (get-insert nat_list_cmp_total past name stood name
            ∙ ap (λ o. cond (is_eq o) (Some stood) (get past name)) (tied_itself nat_list_cmp_total name))
        | Some s ↦ λ is. ap (λ o. noted o x) is
      ] refl

  -- under another name nothing more is noted
  other_note : (past : Named (Option T)) (name q : List ℕ) (stood : Option T) → eq_by_cmp by_bytes q name ≡ false
      → get (note past name stood) q ≡ get past q
  other_note past name q stood apart =
      elim (is_some (get past name)) as (λ b. get (cond b past (insert past name stood)) q ≡ get past q) [
        | true ↦ refl
        | false ↦ get-insert nat_list_cmp_total past name stood q ∙ ap (λ b. cond b (Some stood) (get past q)) apart
      ]

  -- a map that differs under one name, of which it is noted, is undone to the same
  one_noted : (m n : Named T) (past : Named (Option T)) (name : List ℕ) (x : Option T)
      → ((q : List ℕ) → get n q ≡ cond (eq_by_cmp by_bytes q name) x (get m q))
      → undone n (note past name (get m name)) ≡ undone m past
  one_noted m n past name x differs = same_map nat_list_cmp_total differ _ _ (λ q.
      get_before n (note past name (get m name)) q
      ∙ elim (eq_by_cmp by_bytes q name) as (λ b. eq_by_cmp by_bytes q name ≡ b
      → noted (get (note past name (get m name)) q) (get n q) ≡ noted (get past q) (get m q)) [
        | true ↦ λ tie. ap (λ k. noted (get (note past name (get m name)) k) (get n k)) (differ q name (equal _ tie))
            ∙ own_note past name (get m name) (get n name)
            ∙ ap (λ k. noted (get past k) (get m k)) (sym (differ q name (equal _ tie)))
        | false ↦ λ apart. ap (λ o. noted o (get n q)) (other_note past name q (get m name) apart)
            ∙ ap (noted (get past q)) (differs q ∙ ap (λ b. cond b x (get m q)) apart)
      ] refl
      ∙ sym (get_before m past q))

  put_noted : (m : Named T) (past : Named (Option T)) (name : List ℕ) (v : T)
      → undone (insert m name v) (note past name (get m name)) ≡ undone m past
  put_noted m past name v = one_noted m (insert m name v) past name (Some v) (get-insert nat_list_cmp_total m name v)

  removal_noted : (m : Named T) (past : Named (Option T)) (name : List ℕ)
      → undone (remove m name) (note_removal past name (get m name)) ≡ undone m past
  removal_noted m past name =
      elim (get m name) as (λ o. get m name ≡ o → undone (remove m name) (note_removal past name o) ≡ undone m past) [
        | None ↦ λ is. ap (λ n. undone n past) (gone_already nat_list_cmp_total differ m name is)
        | Some v ↦ λ is. ap (λ o. undone (remove m name) (note past name o)) (sym is)
            ∙ one_noted m (remove m name) past name None (get-remove nat_list_cmp_total m name)
      ] refl

  none_noted : (m : Named T) → undone m empty ≡ m
  none_noted m = same_map nat_list_cmp_total differ _ _ (λ q. unchanged m empty q (ap is_some (get-empty by_bytes q)))

-- whose node it is and what it held before the last response
abbrev stood : Resources → List ℕ × List ℕ × Named (Versioned AddressRecord) × Named (Versioned Policy)
stood h = (h.network, h.node, undone h.addresses h.past_addresses, undone h.policies h.past_policies)

abbrev with_addresses : Resources → Named (Versioned AddressRecord)
    → List ℕ × List ℕ × Named (Versioned AddressRecord) × Named (Versioned Policy)
with_addresses h m = (h.network, h.node, m, undone h.policies h.past_policies)

abbrev with_policies : Resources → Named (Versioned Policy)
    → List ℕ × List ℕ × Named (Versioned AddressRecord) × Named (Versioned Policy)
with_policies h m = (h.network, h.node, undone h.addresses h.past_addresses, m)

removal_keeps : (h : Resources) (kind : Kind) (name : List ℕ) → stood (without h kind name) ≡ stood h
removal_keeps h Address name = ap (with_addresses h) (removal_noted h.addresses h.past_addresses name)
removal_keeps h Authorization name = ap (with_policies h) (removal_noted h.policies h.past_policies name)

removals_keep : (h : Resources) (kind : Kind) (names : List (List ℕ)) → stood (after_removals h kind names) ≡ stood h
removals_keep h kind [] = refl
removals_keep h kind (name ∷ names) = removals_keep (without h kind name) kind names ∙ removal_keeps h kind name

-- what becomes of a resource keeps it
abbrev Keeps : Resources → Result Resources RefusedWhy → Type 0
Keeps h next = stood (result_unwrap_or next h) ≡ stood h

address_keeps : (h : Resources) (r : Resource) (read : Result AddressRecord RecordFault) → Keeps h (with_read_address h r read)
address_keeps h r (Err fault) = refl
address_keeps h r (Ok a) =
    elim (fits h Address r.name) as (λ b. Keeps h (cond b (Ok (with_address h r.name r.version a)) (Err Full))) [
      | true ↦ ap (with_addresses h) (put_noted h.addresses h.past_addresses r.name (record { version = r.version; content = a }))
      | false ↦ refl
    ]

policy_keeps : (h : Resources) (r : Resource) (read : Result Policy RecordFault) → Keeps h (with_read_policy h r read)
policy_keeps h r (Err fault) = refl
policy_keeps h r (Ok p) =
    elim (fits h Authorization r.name) as (λ b. Keeps h (cond b (Ok (with_policy h r.name r.version p)) (Err Full))) [
      | true ↦ ap (with_policies h) (put_noted h.policies h.past_policies r.name (record { version = r.version; content = p }))
      | false ↦ refl
    ]

record_keeps : (h : Resources) (kind : Kind) (r : Resource) → Keeps h (with_record h kind r)
record_keeps h Address r = address_keeps h r (address_of r.value)
record_keeps h Authorization r = policy_keeps h r (authorization_of r.value)

resource_keeps : (h : Resources) (kind : Kind) (r : Resource) → stood (after_resource h kind r) ≡ stood h
unfolding with_resource
resource_keeps h kind r =
    elim (length r.name == 0) as (λ b. Keeps h
    (cond b (Err NoName) (cond (bytes_eq r.type_url (type_url kind)) (with_record h kind r) (Err WrongType)))) [
      | true ↦ refl
      | false ↦ elim (bytes_eq r.type_url (type_url kind)) as (λ b. Keeps h (cond b (with_record h kind r) (Err WrongType))) [
        | true ↦ record_keeps h kind r
        | false ↦ refl
      ]
    ]

resources_keep : (h : Resources) (kind : Kind) (rs : List Resource) → stood (after_resources h kind rs) ≡ stood h
resources_keep h kind [] = refl
resources_keep h kind (r ∷ rs) = resources_keep (after_resource h kind r) kind rs ∙ resource_keeps h kind r

came_keeps : (h : Resources) (kind : Kind) → stood (with_came h kind) ≡ stood h
came_keeps h Address = refl
came_keeps h Authorization = refl

given_back : (h : Resources) (r : Response) → stood (after_response h r) ≡ (h.network, h.node, h.addresses, h.policies)
given_back h r =
    came_keeps (after_resources (after_removals (begun h) r.kind r.removed) r.kind r.resources) r.kind
    ∙ resources_keep (after_removals (begun h) r.kind r.removed) r.kind r.resources
    ∙ removals_keep (begun h) r.kind r.removed
    ∙ ap (λ m. (h.network, h.node, m, undone h.policies empty)) (none_noted h.addresses)
    ∙ ap (λ m. (h.network, h.node, h.addresses, m)) (none_noted h.policies)

pub notes_give_back : NotesGiveBack
notes_give_back h r = (ap (λ s. s.2) (given_back h r), ap (λ s. s.3) (given_back h r))

-- the workload that is known, by whose node it is and what it holds
abbrev known_by : List ℕ × List ℕ × Named (Versioned AddressRecord) × Named (Versioned Policy) → Ip → Option (List ℕ × Workload)
known_by s ip = option_and_then (λ e. cond (bytes_eq e.1.node s.1) (Some e) None)
    (least (filter (λ e. has_address s.0 ip e.1) (filter_map named_workload (entries s.2))))

known_is : (h : Resources) (ip : Ip) → known h ip ≡ known_by (h.network, h.node, h.addresses, h.policies) ip
unfolding workload_at
known_is h ip = refl

known_before : (h : Resources) (r : Response) (ip : Ip) → known (before (after_response h r)) ip ≡ known h ip
known_before h r ip =
    known_is (before (after_response h r)) ip ∙ ap (λ s. known_by s ip) (given_back h r) ∙ sym (known_is h ip)

pub untouched_by_response : UntouchedByResponse
untouched_by_response h r ip none =
    let stays = untouched_stays (after_response h r) ip none in (
      stays.0 ∙ known_before h r ip,
      λ e is. stays.1 e is ∙ ap (λ s. policies_in (entries s.3) e.1) (given_back h r),
    )

pub first_gives_back : GivesBack note
first_gives_back m past name v = put_noted m past name v

pub latest_is_refused : GivesBack latest_note → ⊥
latest_is_refused h =
    let m : Named ℕ = insert empty [] 1 in
    let past : Named (Option ℕ) = insert empty [] None in
    let after : get (undone (insert m [] 2) (latest_note past [] (get m []))) [] ≡ Some 1 =
    get_before (insert m [] 2) (latest_note past [] (get m [])) []
    ∙ ap (λ o. noted o (get (insert m [] 2) [])) (get-insert nat_list_cmp_total past [] (get m []) [])
    ∙ get-insert nat_list_cmp_total empty [] 1 [] in
    let first : get (undone m past) [] ≡ None =
    get_before m past [] ∙ ap (λ o. noted o (get m [])) (get-insert nat_list_cmp_total empty [] None []) in
    nothing 1 (sym first ∙ sym (ap (λ k. get k []) (h m past [] 2)) ∙ after)

pub none_is_refused : GivesBack no_note → ⊥
none_is_refused h =
    let m : Named ℕ = empty in
    let past : Named (Option ℕ) = empty in
    let after : get (undone (insert m [] 1) past) [] ≡ Some 1 =
    get_before (insert m [] 1) past []
    ∙ ap (λ o. noted o (get (insert m [] 1) [])) (get-empty by_bytes [])
    ∙ get-insert nat_list_cmp_total m [] 1 [] in
    let first : get (undone m past) [] ≡ None =
    get_before m past [] ∙ ap (λ o. noted o (get m [])) (get-empty by_bytes []) ∙ get-empty by_bytes [] in
    nothing 1 (sym first ∙ sym (ap (λ k. get k []) (h m past [] 1)) ∙ after)
