-- No line has a float.
use Rattle.std.proofs.Common.{◌≡◌, ℕ, List, [], ◌∷◌, Option, Some, None, false, refl, map}
use Rattle.serde_json.specs.Data.{Data}
use Rattle.serde_json.specs.View.{items_of}
use Rattle.serde_json.specs.Written.{has_float, items_have_float}
use Rattle.hb_disco.specs.declared.kind.Kind.{Kind}
use Rattle.hb_held.specs.declared.outcome.Outcome.{Outcome}
use Rattle.hb_held.specs.Rows.{Content, address_content, policy_content, Row}
use Rattle.hb_records.specs.declared.address.AddressRecord.{AddressRecord}
use Rattle.hb_records.specs.declared.address.AddressRecord.TheVariants as records
use Rattle.hb_records.specs.declared.authorization.Authorization.{Authorization}
use Rattle.hb_lines.specs.Explained.{explained_data}
use Rattle.hb_lines.specs.Outcome.{outcome_data, refusal_data}
use Rattle.hb_lines.specs.Row.{address_data, content_data, row_data}
use Rattle.hb_lines.specs.Value.{ip_data, network_data}

pub items_without : {T : Type 0} (told : T → Data) → ((t : T) → has_float (told t) ≡ false) → (items : List T)
    → items_have_float (items_of (map told items)) ≡ false
items_without told none [] = refl
items_without told none (t ∷ items) = rw (none t) (items_without told none items)

pub outcome_without : (kind : Kind) (nonce : List ℕ) (o : Outcome) → has_float (outcome_data kind nonce o) ≡ false
outcome_without kind nonce o = rw (items_without refusal_data (λ _. refl) o.refused) refl

address_without : (name version : List ℕ) (a : AddressRecord) → has_float (address_data name version a) ≡ false
address_without name version (records.Workload w) = rw (items_without ip_data (λ _. refl) w.addresses) refl
address_without name version (records.Service s) = rw (items_without network_data (λ _. refl) s.addresses) refl

content_without : (name version : List ℕ) (content : Content) → has_float (content_data name version content) ≡ false
content_without name version (address_content a) = address_without name version a
content_without name version (policy_content p) = refl

pub row_without : (row : Row) → has_float (row_data row) ≡ false
row_without row = content_without row.name row.version row.content

pub explained_without : (p : Authorization) (rule : Option ℕ) → has_float (explained_data p rule) ≡ false
explained_without p None = refl
explained_without p (Some rule) = refl
