-- At an address that the last response didn't touch each judgement stays.
use Rattle.std.proofs.Common.{◌≡◌, ℕ, false, List, Option, Some, None, refl, sym, ap, ◌∙◌}
use Rattle.std.specs.Prelude.{if◌then◌else◌}
use Rattle.hb_base.specs.declared.peer.Peer.{Peer}
use Rattle.hb_base.specs.declared.target.Target.{Target}
use Rattle.hb_records.specs.declared.workload.Workload.{Workload}
use Rattle.hb_held.specs.Held.{Resources, before}
use Rattle.hb_held.specs.Lookup.{known}
use Rattle.hb_held.specs.Touched.{touched}
use Rattle.hb_held.proofs.TouchedLaw.{untouched_stays}
use Rattle.hb_policy.specs.Connection.{Connection}
use Rattle.hb_policy.specs.Policy.{admitted_by}
use Rattle.hb_table.specs.declared.judgement.Judged.TheVariants.{Admitted, Denied}
use Rattle.hb_table.specs.Judgement.{judged, judged_at}

module _ (h : Resources) (peer : Peer) (target : Target) (quiet : touched h target.ip ≡ false) where
  abbrev connection : Connection
  connection = record { peer = peer; target = target }

  judged_alike : (found : Option (List ℕ × Workload)) → known h target.ip ≡ found
      → judged_at (before h) found connection ≡ judged_at h found connection
  judged_alike None is = refl
  judged_alike (Some e) is =
      ap (λ policies. if admitted_by connection policies then Admitted else Denied) (sym ((untouched_stays h target.ip quiet).1 e is))

  pub judgement_stays : judged (before h) peer target ≡ judged h peer target
  judgement_stays =
      ap (λ found. judged_at (before h) found connection) (sym (untouched_stays h target.ip quiet).0)
      ∙ judged_alike (known h target.ip) refl
