-- Why a peer was denied, by what is held.
use Rattle.std.specs.Prelude.{ℕ, ◌==◌, ◌&&◌, not, Bool, if◌then◌else◌, List, filter, length, Option, Some, None}
use Rattle.std.specs.List.{find}
use Rattle.hb_audit.specs.Told.{Reason, denied_by, none_allows}
use Rattle.hb_base.specs.declared.note.Note.{Note}
use Rattle.hb_base.specs.declared.note.Note.TheVariants.{Verdict}
use Rattle.hb_base.specs.declared.peer.Peer.{Peer}
use Rattle.hb_base.specs.declared.target.Target.{Target}
use Rattle.hb_held.specs.Held.{Resources}
use Rattle.hb_held.specs.Lookup.{known}
use Rattle.hb_held.specs.Policies.{policies_for}
use Rattle.hb_policy.specs.Connection.{Connection}
use Rattle.hb_policy.specs.Policy.{fires, is_deny}
use Rattle.hb_records.specs.declared.authorization.Authorization.{Authorization}
use Rattle.hb_records.specs.declared.workload.Workload.{Workload}
use Rattle.hb_table.specs.Judgement.{judged}
use Rattle.hb_table.specs.declared.judgement.Judged.{Judged}
use Rattle.hb_table.specs.declared.judgement.Judged.TheVariants.{Denied}

-- a policy denies a connection: it is one that denies, and fires
abbrev pub denies : Connection → Authorization → Bool
denies c a = is_deny a.action && fires c a

-- it is one that allows
abbrev pub allows : Authorization → Bool
allows a = not (is_deny a.action)

-- by the first policy that denies a connection; where none does, by how many allow
abbrev pub reason_by : Option Authorization → ℕ → Reason
reason_by (Some a) many = denied_by a.namespace a.name
reason_by None many = none_allows many

abbrev pub reason_in : Connection → List Authorization → Reason
reason_in c policies = reason_by (find (denies c) policies) (length (filter allows policies))

-- where a connection is denied, by the policies of the workload that is known
abbrev pub denial_by : Judged → Option (List ℕ × Workload) → Resources → Connection → Option Reason
denial_by Denied (Some e) h c = Some (reason_in c (policies_for h e.1))
denial_by _ found h c = None

abbrev pub denial : Resources → Peer → Target → Option Reason
denial h peer target = denial_by (judged h peer target) (known h target.ip) h (record { peer = peer; target = target })

-- what is told beside a note: of a 401 why its peer is denied, where it is
abbrev pub reason_beside : Resources → Note → Option Reason
reason_beside h (Verdict link stream status peer (Some target)) = if status == 401 then denial h peer target else None
reason_beside h _ = None
