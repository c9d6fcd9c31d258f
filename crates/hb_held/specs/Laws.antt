-- Laws about the definitions.
use Rattle.std.specs.Prelude.{◌≡◌, ℕ, true, false, List, Option, Some, None}
use Rattle.std.specs.Cmp.Lexicographic.{slice_cmp}
use Rattle.std.specs.Ordering.{nat_cmp, is_lt}
use Rattle.std.specs.FinMap.{get, insert, entries, len}
use Rattle.hb_base.specs.declared.ip.Ip.{Ip}
use Rattle.hb_records.specs.declared.workload.Workload.{Workload}
use Rattle.hb_held.specs.declared.versioned.Versioned.{Versioned}
use Rattle.hb_records.specs.declared.address.AddressRecord.{AddressRecord}
use Rattle.hb_index.specs.Index.{is_among}
use Rattle.hb_index.specs.Kept.{undone}
use Rattle.hb_index.specs.Named.{Named, Rise}
use Rattle.hb_disco.specs.declared.response.Response.{Response}
use Rattle.hb_held.specs.Few.{AreTouched, changed_numbers}
use Rattle.hb_held.specs.Held.{Resources, before}
use Rattle.hb_held.specs.Lookup.{workload_of, has_address, workload_at, known}
use Rattle.hb_held.specs.Numbers.{number_of}
use Rattle.hb_held.specs.Outcome.{after_response}
use Rattle.hb_held.specs.Policies.{policies_for}
use Rattle.hb_held.specs.Touched.{touched}

-- under a name this workload is held, of this network and with the address
abbrev pub IsAt : Resources → Ip → List ℕ → Workload → Type 0
IsAt h ip name w =
    (v : Versioned AddressRecord) × (get h.addresses name ≡ Some v) × (workload_of v.content ≡ Some w) × (has_address h.network ip w ≡ true)

-- it is such a workload, and no other one has a smaller name; none exactly where there is no such workload
abbrev pub IsLeastAt : Resources → Ip → Option (List ℕ × Workload) → Type 0
IsLeastAt h ip None = (name : List ℕ) (w : Workload) → IsAt h ip name w → ⊥
IsLeastAt h ip (Some f) =
    IsAt h ip f.0 f.1 × ((name : List ℕ) (w : Workload) → IsAt h ip name w → is_lt (slice_cmp nat_cmp name f.0) ≡ false)

-- the workload found is the one of the smallest name
abbrev pub LeastIsFound : Type 0
LeastIsFound = (h : Resources) (ip : Ip) → IsLeastAt h ip (workload_at h ip)

-- in each kind the names rise, so a kind and a name stand once among the rows
abbrev pub NamesStandOnce : Type 0
NamesStandOnce = (h : Resources) → Rise (entries h.addresses) × Rise (entries h.policies)

-- what is known at an address that isn't touched, and the policies for it, are what they were before the last response
abbrev pub UntouchedStays : Type 0
UntouchedStays =
    (h : Resources) (ip : Ip) → touched h ip ≡ false
    → (known h ip ≡ known (before h) ip)
    × ((e : List ℕ × Workload) → known h ip ≡ Some e → policies_for h e.1 ≡ policies_for (before h) e.1)

-- what was held before a response, by the notes of what it changed, is what was held
abbrev pub NotesGiveBack : Type 0
NotesGiveBack =
    (h : Resources) (r : Response)
    → ((before (after_response h r)).addresses ≡ h.addresses) × ((before (after_response h r)).policies ≡ h.policies)

-- at an address that a response doesn't touch the same workload is known as before it, and the same policies are for it
abbrev pub UntouchedByResponse : Type 0
UntouchedByResponse =
    (h : Resources) (r : Response) (ip : Ip) → touched (after_response h r) ip ≡ false
    → (known (after_response h r) ip ≡ known h ip)
    × ((e : List ℕ × Workload) → known (after_response h r) ip ≡ Some e
    → policies_for (after_response h r) e.1 ≡ policies_for h e.1)

-- notes of what stood under a name give it back: with them, a map in which a value was put is undone as before
abbrev pub GivesBack : (Named (Option ℕ) → List ℕ → Option ℕ → Named (Option ℕ)) → Type 0
GivesBack noted_so =
    (m : Named ℕ) (past : Named (Option ℕ)) (name : List ℕ) (v : ℕ)
    → undone (insert m name v) (noted_so past name (get m name)) ≡ undone m past

-- wrong notes: the latest one counts, and none is made
abbrev pub latest_note : Named (Option ℕ) → List ℕ → Option ℕ → Named (Option ℕ)
latest_note past name stood = insert past name stood

abbrev pub no_note : Named (Option ℕ) → List ℕ → Option ℕ → Named (Option ℕ)
no_note past name stood = past

-- where no policy was changed, each address that the last response touched is among those under the changed names
abbrev pub ChangedAreTouched : Type 0
ChangedAreTouched = (h : Resources) → len h.past_policies ≡ 0 → AreTouched h (changed_numbers h)

-- numbers of which that of a touched address is lacking aren't such ones
abbrev pub LackingIsWrong : Type 0
LackingIsWrong =
    (h : Resources) (few : List ℕ) (ip : Ip) → touched h ip ≡ true → is_among few (number_of ip) ≡ false → AreTouched h few → ⊥
