use Rattle.hb_hpack.proofs.Readings.{either, apart, one_reading, one_fault}
use Rattle.hb_hpack.proofs.laws.a_block_is_read_or_broken.Goals as goal

pub returns-clause-either : goal.returns-clause-either
returns-clause-either c = λ table block octets. either table block octets

pub returns-clause-apart : goal.returns-clause-apart
returns-clause-apart c = λ table block headers next at why reads breaks. apart table block headers next at why reads breaks

pub returns-clause-one_reading : goal.returns-clause-one_reading
returns-clause-one_reading c = λ table block headers others next last first second.
    one_reading table block headers others next last first second

pub returns-clause-one_fault : goal.returns-clause-one_fault
returns-clause-one_fault c = λ table block at place why other first second. one_fault table block at place why other first second
