-- What was held before a response, from what is held after it and what it changed.
use Rattle.std.proofs.Common.{◌≡◌, ℕ, Bool, true, false, cond, length, ◌==◌, List, [], ◌∷◌, Option, Some, None, is_some, Result, Ok, Err, refl, sym, ap, subst, ◌∙◌}
use Rattle.std.specs.Prelude.{if◌then◌else◌}
use Rattle.std.specs.Result.{result_unwrap_or}
use Rattle.std.specs.Str.{bytes_eq}
use Rattle.std.specs.Ordering.{eq_by_cmp}
use Rattle.std.specs.Cmp.Lexicographic.{nat_list_cmp_total}
use Rattle.std.specs.FinMap.{empty, get, insert, remove, get-empty, get-insert, get-remove, same_map}
use Rattle.hb_disco.specs.declared.kind.Kind.{Kind}
use Rattle.hb_disco.specs.declared.kind.Kind.TheVariants.{Address, Authorization}
use Rattle.hb_disco.specs.declared.response.Resource.{Resource}
use Rattle.hb_disco.specs.declared.response.Response.{Response}
use Rattle.hb_disco.specs.Kind.{type_url}
use Rattle.hb_records.specs.declared.address.AddressRecord.{AddressRecord}
use Rattle.hb_records.specs.declared.authorization.Authorization.{Authorization as Policy}
use Rattle.hb_records.specs.declared.fault.RecordFault.{RecordFault}
use Rattle.hb_records.specs.Address.{address_of}
use Rattle.hb_records.specs.Authorization.{authorization_of}
use Rattle.hb_held.specs.declared.outcome.RefusedWhy.TheVariants.{NoName, WrongType, Full}
use Rattle.hb_base.specs.declared.peer.Peer.{Peer}
use Rattle.hb_base.specs.declared.target.Target.{Target}
use Rattle.hb_held.specs.Lookup.{workload_at}
use Rattle.hb_held.specs.declared.versioned.Versioned.{Versioned}
use Rattle.hb_index.specs.Named.{Named}
use Rattle.hb_index.specs.Kept.{note, note_removal, undone}
use Rattle.hb_held.specs.Held.{Resources, no_doors, begun, before, without, with_address, with_policy, with_came, fits}
use Rattle.hb_held.specs.Outcome.{with_read_address, with_read_policy, with_record, with_resource, after_resource, after_removals, after_resources, after_response}
use Rattle.hb_table.specs.Judgement.{judged}
use Rattle.hb_index.proofs.Entries.{by_bytes, equal, differ}
use Rattle.hb_index.proofs.Undone.{noted, unchanged, changed}

module _ {T : Type 0} where
  -- what the notes give back of each name
  abbrev Back : Named T → Named T → Named (Option T) → Type 0
  Back m now past = (q : List ℕ) → noted (get past q) (get now q) ≡ get m q

  get_given_back : (m : Named T) (past : Named (Option T)) (q : List ℕ) → get (undone m past) q ≡ noted (get past q) (get m q)
  get_given_back m past q = elim (get past q) as (λ o. get past q ≡ o → get (undone m past) q ≡ noted o (get m q)) [
    | None ↦ λ none. unchanged m past q (ap is_some none)
    | Some stood ↦ λ there. changed m past q stood there
  ] refl

  back_undone : (m now : Named T) (past : Named (Option T)) → Back m now past → undone now past ≡ m
  back_undone m now past back = same_map nat_list_cmp_total differ _ _ (λ q. get_given_back now past q ∙ back q)

  back_empty : (m : Named T) → Back m m empty
  back_empty m q = ap (λ o. noted o (get m q)) (get-empty by_bytes q)

  get_note : (past : Named (Option T)) (name : List ℕ) (stood : Option T) (q : List ℕ)
      → get (note past name stood) q ≡ cond (is_some (get past name)) (get past q) (cond (eq_by_cmp by_bytes q name)
      (Some stood) (get past q))
  get_note past name stood q =
      elim (is_some (get past name)) as (λ b. get (cond b past (insert past name stood)) q
      ≡ cond b (get past q) (cond (eq_by_cmp by_bytes q name) (Some stood) (get past q))) [
        | true ↦ refl
        | false ↦ get-insert nat_list_cmp_total past name stood q
      ]

  by_note : (o : Option (Option T)) (stood w m : Option T) → noted o stood ≡ m → noted (cond (is_some o) o (Some stood)) w ≡ m
  by_note None stood w m back = back
  by_note (Some x) stood w m back = back

  elsewhere : (c : Bool) (o : Option (Option T)) → cond c o o ≡ o
  elsewhere true o = refl
  elsewhere false o = refl

  -- a change of what stands under a name, which was noted
  back_noted : (m now now' : Named T) (past : Named (Option T)) (name : List ℕ) (w : Option T)
      → ((q : List ℕ) → get now' q ≡ cond (eq_by_cmp by_bytes q name) w (get now q))
      → Back m now past → Back m now' (note past name (get now name))
  back_noted m now now' past name w change back q =
      ap (λ o. noted o (get now' q)) (get_note past name (get now name) q)
      ∙ ap (noted (cond (is_some (get past name)) (get past q) (cond (eq_by_cmp by_bytes q name) (Some (get now name))
      (get past q)))) (change q)
      ∙ elim (eq_by_cmp by_bytes q name) as (λ b. eq_by_cmp by_bytes q name ≡ b
      → noted (cond (is_some (get past name)) (get past q) (cond b (Some (get now name)) (get past q))) (cond b w (get now q))
      ≡ get m q) [
        | true ↦ λ tie.
            let same : q ≡ name = differ q name (equal _ tie) in
            ap (λ n. noted (cond (is_some (get past name)) (get past n) (Some (get now name))) w) same
            ∙ by_note (get past name) (get now name) w (get m name) (back name)
            ∙ ap (get m) (sym same)
        | false ↦ λ _. ap (λ o. noted o (get now q)) (elsewhere (is_some (get past name)) (get past q)) ∙ back q
      ] refl

  back_insert : (m now : Named T) (past : Named (Option T)) (name : List ℕ) (v : T) → Back m now past
      → Back m (insert now name v) (note past name (get now name))
  back_insert m now past name v back = back_noted m now (insert now name v) past name (Some v)
      (get-insert nat_list_cmp_total now name v) back

  none_there : (now : Named T) (name : List ℕ) → get now name ≡ None → (q : List ℕ) → get (remove now name) q ≡ get now q
  none_there now name none q =
      get-remove nat_list_cmp_total now name q
      ∙ elim (eq_by_cmp by_bytes q name) as (λ b. eq_by_cmp by_bytes q name ≡ b → cond b None (get now q) ≡ get now q) [
        | true ↦ λ tie. sym (ap (get now) (differ q name (equal _ tie)) ∙ none)
        | false ↦ λ _. refl
      ] refl

  back_remove_by : (m now : Named T) (past : Named (Option T)) (name : List ℕ) (stood : Option T) → get now name ≡ stood → Back m now past
      → Back m (remove now name) (note_removal past name stood)
  back_remove_by m now past name None is back = λ q. ap (noted (get past q)) (none_there now name is q) ∙ back q
  back_remove_by m now past name (Some v) is back =
      subst (λ stood. Back m (remove now name) (note past name stood)) is
      (back_noted m now (remove now name) past name None (get-remove nat_list_cmp_total now name) back)

-- so of both kinds
record Keeps (old h : Resources) : Type 0 where
  pub network : h.network ≡ old.network
  pub node : h.node ≡ old.node
  pub addresses : Back old.addresses h.addresses h.past_addresses
  pub policies : Back old.policies h.policies h.past_policies

keeps_begun : (h : Resources) → Keeps h (begun h)
keeps_begun h = record { network = refl; node = refl; addresses = back_empty h.addresses; policies = back_empty h.policies }

module _ (old : Resources) where
  keeps_without : (h : Resources) (kind : Kind) (name : List ℕ) → Keeps old h → Keeps old (without h kind name)
  keeps_without h Address name k = record {
    network = k.network;
    node = k.node;
    addresses = back_remove_by old.addresses h.addresses h.past_addresses name (get h.addresses name) refl k.addresses;
    policies = k.policies;
  }
  keeps_without h Authorization name k = record {
    network = k.network;
    node = k.node;
    addresses = k.addresses;
    policies = back_remove_by old.policies h.policies h.past_policies name (get h.policies name) refl k.policies;
  }

  keeps_removals : (h : Resources) (kind : Kind) (names : List (List ℕ)) → Keeps old h → Keeps old (after_removals h kind names)
  keeps_removals h kind [] k = k
  keeps_removals h kind (name ∷ names) k = keeps_removals (without h kind name) kind names (keeps_without h kind name k)

  keeps_read_address : (h : Resources) (r : Resource) (a : Result AddressRecord RecordFault) → Keeps old h
      → Keeps old (result_unwrap_or (with_read_address h r a) h)
  keeps_read_address h r (Err fault) k = k
  keeps_read_address h r (Ok a) k =
      elim (fits h Address r.name) as (λ b. Keeps old (result_unwrap_or (if b then Ok
      (with_address h r.name r.version a) else Err Full) h)) [
        | true ↦ record {
          network = k.network;
          node = k.node;
          addresses = back_insert old.addresses h.addresses h.past_addresses r.name
              (record { version = r.version; content = a }) k.addresses;
          policies = k.policies;
        }
        | false ↦ k
      ]

  keeps_read_policy : (h : Resources) (r : Resource) (p : Result Policy RecordFault) → Keeps old h
      → Keeps old (result_unwrap_or (with_read_policy h r p) h)
  keeps_read_policy h r (Err fault) k = k
  keeps_read_policy h r (Ok p) k =
      elim (fits h Authorization r.name) as (λ b. Keeps old (result_unwrap_or (if b then Ok
      (with_policy h r.name r.version p) else Err Full) h)) [
        | true ↦ record {
          network = k.network;
          node = k.node;
          addresses = k.addresses;
          policies = back_insert old.policies h.policies h.past_policies r.name (record { version = r.version; content = p }) k.policies;
        }
        | false ↦ k
      ]

  keeps_record : (h : Resources) (kind : Kind) (r : Resource) → Keeps old h → Keeps old (result_unwrap_or (with_record h kind r) h)
  keeps_record h Address r k = keeps_read_address h r (address_of r.value) k
  keeps_record h Authorization r k = keeps_read_policy h r (authorization_of r.value) k

  keeps_resource : (h : Resources) (kind : Kind) (r : Resource) → Keeps old h → Keeps old (after_resource h kind r)
  unfolding with_resource
  keeps_resource h kind r k =
      elim (length r.name == 0) as (λ b. Keeps old (result_unwrap_or (if b then Err NoName
      else (if bytes_eq r.type_url (type_url kind) then with_record h kind r else Err WrongType)) h)) [
        | true ↦ k
        | false ↦ elim (bytes_eq r.type_url (type_url kind)) as (λ b. Keeps old (result_unwrap_or
            (if b then with_record h kind r else Err WrongType) h)) [
              | true ↦ keeps_record h kind r k
              | false ↦ k
            ]
      ]

  keeps_resources : (h : Resources) (kind : Kind) (rs : List Resource) → Keeps old h → Keeps old (after_resources h kind rs)
  keeps_resources h kind [] k = k
  keeps_resources h kind (r ∷ rs) k = keeps_resources (after_resource h kind r) kind rs (keeps_resource h kind r k)

  keeps_came : (h : Resources) (kind : Kind) → Keeps old h → Keeps old (with_came h kind)
  keeps_came h Address k = record { network = k.network; node = k.node; addresses = k.addresses; policies = k.policies }
  keeps_came h Authorization k = record { network = k.network; node = k.node; addresses = k.addresses; policies = k.policies }

keeps_response : (h : Resources) (r : Response) → Keeps h (after_response h r)
keeps_response h r =
    keeps_came h (after_resources (after_removals (begun h) r.kind r.removed) r.kind r.resources) r.kind
    (keeps_resources h (after_removals (begun h) r.kind r.removed) r.kind r.resources (keeps_removals h
    (begun h) r.kind r.removed (keeps_begun h)))

-- judgements look at no more than this
abbrev seen : List ℕ → List ℕ → Named (Versioned AddressRecord) → Named (Versioned Policy) → Resources
seen network node addresses policies =
    record {
      network = network;
      node = node;
      doors = no_doors;
      addresses = addresses;
      policies = policies;
      addresses_came = false;
      policies_came = false;
      past_addresses = empty;
      past_policies = empty;
      settled = false;
    }

judged_seen : (h : Resources) (peer : Peer) (target : Target) → judged h peer target
    ≡ judged (seen h.network h.node h.addresses h.policies) peer target
unfolding workload_at
judged_seen h peer target = refl

-- a judgement by what was held before a response is the one by what the notes give back
pub judged_before : (h : Resources) (r : Response) (peer : Peer) (target : Target)
    → judged (before (after_response h r)) peer target ≡ judged h peer target
judged_before h r peer target =
    let held = after_response h r in
    let k = keeps_response h r in
    let addresses = back_undone h.addresses held.addresses held.past_addresses k.addresses in
    let policies = back_undone h.policies held.policies held.past_policies k.policies in
    judged_seen (before held) peer target
    ∙ ap (λ network. judged (seen network held.node (before held).addresses (before held).policies) peer target) k.network
    ∙ ap (λ node. judged (seen h.network node (before held).addresses (before held).policies) peer target) k.node
    ∙ ap (λ addresses. judged (seen h.network h.node addresses (before held).policies) peer target) addresses
    ∙ ap (λ policies. judged (seen h.network h.node h.addresses policies) peer target) policies
    ∙ sym (judged_seen h peer target)
