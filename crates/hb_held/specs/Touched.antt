-- Which addresses the last response touched.
use Rattle.std.specs.Prelude.{ℕ, Bool, true, false, ◌&&◌, ◌||◌, List, Option, Some, None}
use Rattle.std.specs.List.{list_any}
use Rattle.std.specs.Cmp.Lexicographic.{slice_cmp}
use Rattle.std.specs.Ordering.{nat_cmp, is_lt}
use Rattle.std.specs.Str.{bytes_eq}
use Rattle.std.specs.FinMap.{get, entries}
use Rattle.hb_base.specs.declared.ip.Ip.{Ip}
use Rattle.hb_disco.specs.declared.kind.Kind.TheVariants.{Address, Authorization}
use Rattle.hb_records.specs.declared.address.AddressRecord.{AddressRecord}
use Rattle.hb_records.specs.declared.authorization.Authorization.{Authorization as Policy}
use Rattle.hb_records.specs.declared.workload.Workload.{Workload}
use Rattle.hb_held.specs.declared.versioned.Versioned.{Versioned}
use Rattle.hb_held.specs.Held.{Resources, is_changed, before}
use Rattle.hb_index.specs.Named.{Named}
use Rattle.hb_held.specs.Lookup.{workload_of, has_address, workload_at, known}
use Rattle.hb_held.specs.Policies.{is_for}

-- the last response of h changed the workload that is found
abbrev pub is_workload_changed : Resources → Option (List ℕ × Workload) → Bool
is_workload_changed h None = false
is_workload_changed h (Some e) = is_changed h Address e.0

-- it changed one of these policies that is for the workload that is found
abbrev pub is_policy_changed : Resources → Named (Versioned Policy) → Option (List ℕ × Workload) → Bool
is_policy_changed h policies None = false
is_policy_changed h policies (Some e) = list_any (λ p. is_changed h Authorization p.0 && is_for e.1 p.1.content) (entries policies)

-- it changed the workload that r has at an address, or a policy of r for the workload that is known there
abbrev pub is_touched_in : Resources → Resources → Ip → Bool
is_touched_in h r ip = is_workload_changed h (workload_at r ip) || is_policy_changed h r.policies (known r ip)

-- the last response touched what is at an address: what was there before it, or what is there after it
abbrev pub touched : Resources → Ip → Bool
touched h ip = is_touched_in h (before h) ip || is_touched_in h h ip

-- a name goes before another one, by its bytes, or there is no other one
abbrev pub precedes : List ℕ → Option (List ℕ) → Bool
precedes name None = true
precedes name (Some other) = is_lt (slice_cmp nat_cmp name other)

-- there is a workload, of this network and with the address
abbrev pub is_at : List ℕ → Ip → Option Workload → Bool
is_at network ip None = false
is_at network ip (Some w) = has_address network ip w

-- a workload of this network and with the address stood there
abbrev pub had_address : List ℕ → Ip → Option (Versioned AddressRecord) → Bool
had_address network ip None = false
had_address network ip (Some v) = is_at network ip (workload_of v.content)

-- a workload that was changed had the address, under a smaller name than this one
abbrev pub had_smaller : Resources → Ip → Option (List ℕ) → Bool
had_smaller h ip least = list_any (λ e. had_address h.network ip e.1 && precedes e.0 least) (entries h.past_addresses)

-- a policy is there, and is for the workload
abbrev pub stands_for : Workload → Option (Versioned Policy) → Bool
stands_for w None = false
stands_for w (Some p) = is_for w p.content

-- a policy that was changed is for the workload, or was
abbrev pub had_policy : Resources → Workload → Bool
had_policy h w = list_any (λ e. stands_for w e.1 || stands_for w (get h.policies e.0)) (entries h.past_policies)

-- the same as `touched`, from what is at the address now and what was changed alone
abbrev pub touched_from : Resources → Ip → Option (List ℕ × Workload) → Bool
touched_from h ip None = had_smaller h ip None
touched_from h ip (Some e) =
    is_changed h Address e.0 || (had_smaller h ip (Some e.0) || (bytes_eq e.1.node h.node && had_policy h e.1))
