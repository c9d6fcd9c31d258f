-- For whom a link to a gateway is: links are shared by connections of one identity and one source address to one gateway.
use Rattle.std.specs.Prelude.{ℕ, List, Option, None, IfSome}
use Rattle.hb_base.specs.declared.identity.Identity.{Identity}
use Rattle.hb_base.specs.declared.ip.Ip.{Ip}
use Rattle.hb_base.specs.declared.ip.Ip.TheVariants.{V4}
use Rattle.hb_base.specs.declared.target.Target.{Target}
use Rattle.hb_front.specs.Written.{front_text, IsSent}

pub record Key : Type 0 where
  -- who the source is, where that can be written
  pub identity : Option Identity
  pub source : Ip
  -- the address that is dialled
  pub gateway : Target

-- that of a link that isn't born
abbrev pub no_key : Key
no_key = record { identity = None; source = V4 0; gateway = record { ip = V4 0; port = 0 } }

-- the front header of such a link: from the source, of no port, to the gateway
abbrev pub front_of : Key → List ℕ
front_of key = front_text (record { ip = key.source; port = 0 }) key.gateway key.identity

-- its identity, where there is one, may be written
abbrev pub MayBeWritten : Key → Type 0
MayBeWritten key = IfSome key.identity IsSent
