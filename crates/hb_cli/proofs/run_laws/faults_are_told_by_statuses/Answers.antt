use Rattle.std.proofs.Common.{◌==◌, ⊎_elim}
use Rattle.hb_audit.specs.Tells.{Answering}
use Rattle.hb_base.specs.Count.{Counts}
use Rattle.hb_cli.specs.Ending.{Run, ShownInPart, Wanting}
use Rattle.hb_cli.specs.Use.{NoFault, Untouched}
use Rattle.hb_cli.proofs.Endings.{by_status, reads_well}
use Rattle.hb_cli.proofs.run_laws.faults_are_told_by_statuses.Goals as goal

-- where memory was wanting no put failed
puts_well : {A : Type 0} {own : Answering A} (r : Run own) → Wanting r → NoFault r.out
puts_well r a = ⊎_elim (λ (quiet : Untouched r.out). quiet.1) (λ (part : ShownInPart r). part.4.1) a.1

pub returns-clause-read_fault : goal.returns-clause-read_fault
returns-clause-read_fault g c = λ r. by_status r (λ s. Counts r.input.faults r.input.faults_after (s == 6))
    (λ a. reads_well r _ a.0 a.1) (λ a. a.2.1) (λ a. a.3.4) (λ a. reads_well r _ a.0 a.1) (λ a. reads_well r _ a.0 a.1) (λ a. a.1)
    (λ a. reads_well r a.0 a.1 a.2) (λ a. a.0)

pub returns-clause-write_fault : goal.returns-clause-write_fault
returns-clause-write_fault g c = λ r. by_status r (λ s. Counts r.out.faults r.out.faults_after (s == 7))
    (λ a. a.2.1) (λ a. a.3.1) (λ a. a.4.1) (λ a. a.2.1) (λ a. a.2.1) (λ a. a.2.1) (λ a. a.3.1) (λ a. puts_well r a)
