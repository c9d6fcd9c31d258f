use Rattle.hb_front.proofs.Refusals.{small_answers, fault_is_not_more, small_tlvs}
use Rattle.hb_front.proofs.laws.small_bytes_are_told.Goals as goal

pub returns : goal.returns
returns c = record { answers = small_answers; not_more = fault_is_not_more; tlvs = small_tlvs }
