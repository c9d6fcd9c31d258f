-- Is a peer admitted at a target by the resources held?
use Rattle.std.specs.Prelude.{ℕ, if◌then◌else◌, List, Option, Some, None}
use Rattle.hb_base.specs.declared.peer.Peer.{Peer}
use Rattle.hb_base.specs.declared.target.Target.{Target}
use Rattle.hb_held.specs.Held.{Resources}
use Rattle.hb_held.specs.Lookup.{known}
use Rattle.hb_held.specs.Policies.{policies_for}
use Rattle.hb_policy.specs.Connection.{Connection}
use Rattle.hb_policy.specs.Policy.{admitted_by}
use Rattle.hb_records.specs.declared.workload.Workload.{Workload}
use Rattle.hb_table.specs.declared.judgement.Judged.{Judged}
use Rattle.hb_table.specs.declared.judgement.Judged.TheVariants.{Admitted, Unknown, Denied}

-- the workload's policies admit a connection; no connection is admitted where no workload is known
abbrev pub judged_at : Resources → Option (List ℕ × Workload) → Connection → Judged
judged_at h None c = Unknown
judged_at h (Some e) c = if admitted_by c (policies_for h e.1) then Admitted else Denied

-- Whether a peer is admitted at a target: the target's workload is known, and its policies admit the peer.
abbrev pub judged : Resources → Peer → Target → Judged
judged h peer target = judged_at h (known h target.ip) (record { peer = peer; target = target })
