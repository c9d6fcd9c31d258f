-- The resources that a node holds.
use Rattle.std.specs.Prelude.{ℕ, ◌+◌, Bool, true, false, ◌||◌, List, Option, None, nat_lt, refl}
use Rattle.std.specs.Coded.{Coded, code_by, coded×, coded_ℕ, coded_bool, coded_list, coded_option}
use Rattle.std.specs.Cmp.Lexicographic.{slice_cmp}
use Rattle.std.specs.Ordering.{nat_cmp}
use Rattle.std.specs.FinMap.{empty, code, contains_key, get, insert, remove, len}
use Rattle.hb_disco.specs.declared.kind.Kind.{Kind}
use Rattle.hb_disco.specs.declared.kind.Kind.TheVariants.{Address, Authorization}
use Rattle.hb_records.specs.declared.address.AddressRecord.{AddressRecord}
use Rattle.hb_records.specs.declared.authorization.Authorization.{Authorization as Policy}
use Rattle.hb_held.specs.declared.doors.OwnDoors.{OwnDoors}
use Rattle.hb_held.specs.declared.versioned.Versioned.{Versioned}
use Rattle.hb_index.specs.Named.{Named}
use Rattle.hb_index.specs.Kept.{note, note_removal, undone}

-- what a node of a network holds: at most one resource of a kind under a name
pub record Resources : Type 0 where
  -- the network of the node, and its name
  pub network : List ℕ
  pub node : List ℕ
  -- where its own doors listen
  pub doors : OwnDoors
  pub addresses : Named (Versioned AddressRecord)
  pub policies : Named (Versioned Policy)
  -- a response of this kind was applied
  pub addresses_came : Bool
  pub policies_came : Bool
  -- what stood, before the last response, under the names that it changed
  pub past_addresses : Named (Option (Versioned AddressRecord))
  pub past_policies : Named (Option (Versioned Policy))
  -- that response was applied whole: no memory was wanting
  pub settled : Bool

-- the resources are stored as their fields
abbrev pub resources_code : Coded OwnDoors → Coded (Versioned AddressRecord) → Coded (Versioned Policy) → Coded Resources
resources_code doors address policy =
    code_by (((List ℕ × List ℕ) × OwnDoors) × (((Named (Versioned AddressRecord) × Named (Versioned Policy)) × (Bool × Bool))
    × ((Named (Option (Versioned AddressRecord)) × Named (Option (Versioned Policy))) × Bool)))
    (coded× (coded× (coded× (coded_list coded_ℕ) (coded_list coded_ℕ)) doors) (coded×
    (coded× (coded× (code {R = slice_cmp nat_cmp} (coded_list coded_ℕ) address) (code {R = slice_cmp nat_cmp} (coded_list coded_ℕ) policy))
    (coded× coded_bool coded_bool))
    (coded× (coded× (code {R = slice_cmp nat_cmp} (coded_list coded_ℕ) (coded_option address))
    (code {R = slice_cmp nat_cmp} (coded_list coded_ℕ) (coded_option policy)))
    coded_bool)))
    (λ h. (
      ((h.network, h.node), h.doors),
      (((h.addresses, h.policies), (h.addresses_came, h.policies_came)), ((h.past_addresses, h.past_policies), h.settled)),
    ))
    (λ p. record {
      network = p.0.0.0;
      node = p.0.0.1;
      doors = p.0.1;
      addresses = p.1.0.0.0;
      policies = p.1.0.0.1;
      addresses_came = p.1.0.1.0;
      policies_came = p.1.0.1.1;
      past_addresses = p.1.1.0.0;
      past_policies = p.1.1.0.1;
      settled = p.1.1.1;
    })
    (λ _. refl)

-- a node without doors
abbrev pub no_doors : OwnDoors
no_doors = record { inbound = None; outbound = None; plain = None }

-- a node that holds nothing
abbrev pub nothing_held : List ℕ → List ℕ → OwnDoors → Resources
nothing_held network node doors =
    record {
      network = network;
      node = node;
      doors = doors;
      addresses = empty;
      policies = empty;
      addresses_came = false;
      policies_came = false;
      past_addresses = empty;
      past_policies = empty;
      settled = true;
    }

-- what is held when a response begins to be applied: nothing is changed yet
abbrev pub begun : Resources → Resources
begun h = record h { past_addresses = empty; past_policies = empty; settled = false }

-- a resource of this kind and name was changed by the last response
abbrev pub is_changed : Resources → Kind → List ℕ → Bool
is_changed h Address name = contains_key h.past_addresses name
is_changed h Authorization name = contains_key h.past_policies name

-- what was held before the last response
abbrev pub before : Resources → Resources
before h = record h { addresses = undone h.addresses h.past_addresses; policies = undone h.policies h.past_policies }

-- how many resources of both kinds are held
abbrev pub count : Resources → ℕ
count h = len h.addresses + len h.policies

-- a resource of this kind and name is held
abbrev pub holds : Resources → Kind → List ℕ → Bool
holds h Address name = contains_key h.addresses name
holds h Authorization name = contains_key h.policies name

-- a resource of this kind and name may be held: one is, or fewer than 65,536 are held
abbrev pub fits : Resources → Kind → List ℕ → Bool
fits h kind name = holds h kind name || nat_lt (count h) 65536

-- what is held without the resource of this kind and name
abbrev pub without : Resources → Kind → List ℕ → Resources
without h Address name =
    record h { addresses = remove h.addresses name; past_addresses = note_removal h.past_addresses name (get h.addresses name) }
without h Authorization name =
    record h { policies = remove h.policies name; past_policies = note_removal h.past_policies name (get h.policies name) }

-- what is held with a record in place of the one of its kind and name
abbrev pub with_address : Resources → List ℕ → List ℕ → AddressRecord → Resources
with_address h name version r =
    record h {
      addresses = insert h.addresses name (record { version = version; content = r });
      past_addresses = note h.past_addresses name (get h.addresses name);
    }

abbrev pub with_policy : Resources → List ℕ → List ℕ → Policy → Resources
with_policy h name version p =
    record h {
      policies = insert h.policies name (record { version = version; content = p });
      past_policies = note h.past_policies name (get h.policies name);
    }

-- a response of this kind was applied whole
abbrev pub with_came : Resources → Kind → Resources
with_came h Address = record h { addresses_came = true; settled = true }
with_came h Authorization = record h { policies_came = true; settled = true }
