-- Few addresses, by their numbers, among which all are that the last response touched.
use Rattle.std.specs.Prelude.{◌≡◌, ◌==◌, ◌++◌, ℕ, true, List, [], length, map, Option, Some, None, if◌then◌else◌, nat_lt}
use Rattle.std.specs.List.{flat_map}
use Rattle.std.specs.FinMap.{entries, get, len}
use Rattle.hb_base.specs.declared.ip.Ip.{Ip}
use Rattle.hb_records.specs.declared.address.AddressRecord.{AddressRecord}
use Rattle.hb_records.specs.declared.workload.Workload.{Workload}
use Rattle.hb_index.specs.Index.{is_among}
use Rattle.hb_held.specs.declared.versioned.Versioned.{Versioned}
use Rattle.hb_held.specs.Held.{Resources}
use Rattle.hb_held.specs.Lookup.{workload_of}
use Rattle.hb_held.specs.Numbers.{number_of}
use Rattle.hb_held.specs.Touched.{touched}

-- each address that the last response touched has one of these numbers
abbrev pub AreTouched : Resources → List ℕ → Type 0
AreTouched h few = (ip : Ip) → touched h ip ≡ true → is_among few (number_of ip) ≡ true

-- the numbers of the addresses of a workload that stands somewhere
abbrev pub numbers_of : Option Workload → List ℕ
numbers_of None = []
numbers_of (Some w) = map number_of w.addresses

abbrev pub numbers_at : Option (Versioned AddressRecord) → List ℕ
numbers_at None = []
numbers_at (Some v) = numbers_of (workload_of v.content)

-- those of the workload that stood under a name that was changed, and of the one that stands there now
abbrev pub numbers_under : Resources → List ℕ × Option (Versioned AddressRecord) → List ℕ
numbers_under h e = numbers_at e.1 ++ numbers_at (get h.addresses e.0)

-- the numbers of all addresses that workloads have, or had, under the names that the last response changed
abbrev pub changed_numbers : Resources → List ℕ
changed_numbers h = flat_map (numbers_under h) (entries h.past_addresses)

-- these numbers, where they are at most eight
abbrev pub if_few : List ℕ → Option (List ℕ)
if_few ns = if nat_lt (length ns) 9 then Some ns else None

-- the numbers of all addresses that workloads have, or had, under the changed names, where they are at most eight and no policy was
-- changed
abbrev pub touched_few : Resources → Option (List ℕ)
touched_few h = if len h.past_policies == 0 then if_few (changed_numbers h) else None
