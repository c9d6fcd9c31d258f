use Rattle.std.specs.Prelude.{ℕ}
use Rattle.hb_front.specs.declared.fault.FrontFault.{FrontFault}
use Rattle.hb_front.specs.declared.fault.FrontFault.TheVariants.{BadSignature, BadVersion, BadFamily, BadLength, BadIdentity, TooLong}

-- the number by which a fault is reported
abbrev pub number_of : FrontFault → ℕ
number_of BadSignature = 1
number_of BadVersion = 2
number_of BadFamily = 3
number_of BadLength = 4
number_of BadIdentity = 5
number_of TooLong = 6
