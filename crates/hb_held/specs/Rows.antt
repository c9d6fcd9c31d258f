-- All resources held, by kind and name.
use Rattle.std.specs.Prelude.{ℕ, List, ◌++◌, map}
use Rattle.std.specs.FinMap.{entries}
use Rattle.hb_disco.specs.declared.kind.Kind.{Kind}
use Rattle.hb_disco.specs.declared.kind.Kind.TheVariants.{Address, Authorization}
use Rattle.hb_disco.specs.declared.request.NameVersion.{NameVersion}
use Rattle.hb_records.specs.declared.address.AddressRecord.{AddressRecord}
use Rattle.hb_records.specs.declared.authorization.Authorization.{Authorization as Policy}
use Rattle.hb_held.specs.declared.rows.HeldRecord.{HeldRecord}
use Rattle.hb_held.specs.declared.rows.HeldRecord.TheVariants as records
use Rattle.hb_held.specs.declared.rows.HeldRow.{HeldRow}
use Rattle.hb_held.specs.declared.rows.Rows.{Rows}
use Rattle.hb_held.specs.declared.versioned.Versioned.{Versioned}
use Rattle.hb_held.specs.Held.{Resources}

-- a record of one of the two kinds
pub data Content : Type 0 where
  address_content : AddressRecord → Content
  policy_content : Policy → Content

-- a resource: its kind, its name, its version and its record
pub record Row : Type 0 where
  pub kind : Kind
  pub name : List ℕ
  pub version : List ℕ
  pub content : Content

abbrev pub address_row : List ℕ × Versioned AddressRecord → Row
address_row e = record { kind = Address; name = e.0; version = e.1.version; content = address_content e.1.content }

abbrev pub policy_row : List ℕ × Versioned Policy → Row
policy_row e = record { kind = Authorization; name = e.0; version = e.1.version; content = policy_content e.1.content }

-- the resources held: the addresses by name, and then the policies
abbrev pub rows : Resources → List Row
rows h = map address_row (entries h.addresses) ++ map policy_row (entries h.policies)

-- a row, by value
abbrev pub content_as : HeldRecord → Content
content_as (records.Address r) = address_content r.now
content_as (records.Policy p) = policy_content p.now

abbrev pub row_as : HeldRow → Row
row_as r = record { kind = r.kind; name = r.name.now; version = r.version.now; content = content_as r.content }

-- the rows that an iterator has still to give
abbrev pub rows_left : Rows → List Row
rows_left s = map address_row s.addresses ++ map policy_row s.policies

-- the names and versions of what is held under names
abbrev pub versions_in : {T : Type 0} → List (List ℕ × Versioned T) → List NameVersion
versions_in es = map (λ e. record { name = e.0; version = e.1.version }) es

-- the names and versions held of a kind, by name
abbrev pub versions : Resources → Kind → List NameVersion
versions h Address = versions_in (entries h.addresses)
versions h Authorization = versions_in (entries h.policies)
