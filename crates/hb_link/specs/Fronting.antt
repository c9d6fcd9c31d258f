-- What the bytes of a front header make of a link. No public clause cites this file.
use Rattle.std.specs.Prelude.{◌≡◌, ◌⊎◌, drop, Option}
use Rattle.hb_base.specs.declared.cause.Cause.TheVariants as cause
use Rattle.hb_base.specs.declared.identity.Identity.{Identity}
use Rattle.hb_conn.specs.Connection.{taken}
use Rattle.hb_front.specs.Faults.{number_of}
use Rattle.hb_front.specs.Reading.{IsAnswer, Seen, Answer, Whole, More, Fault}
use Rattle.hb_inbound.specs.Inbound.{Inbound, Phase, serving}
use Rattle.hb_inbound.specs.Runs.{Identifies}
use Rattle.hb_link.specs.declared.link.Link.{Link}
use Rattle.hb_link.specs.declared.phase.Phase.TheVariants.{Serving, Closing}
use Rattle.hb_link.specs.Settling.{MayPut, MayLook}

-- it is an HTTP/2 connection from now on, with this peer
abbrev pub begun_with : Seen → Option Identity → Link → Link
begun_with seen identity k = record k {
  phase = Serving;
  peer = record { ip = seen.source.ip; identity = identity };
  destination = seen.destination.ip;
  conn = taken k.conn (drop seen.length k.front);
}

-- More bytes are wanted; a fault closes the link; behind a whole header it is a connection, or memory is wanting for the identity
abbrev pub Fronts : Answer → Link → Link → Type 0
Fronts More k n = n ≡ k
Fronts (Fault fault) k n = n ≡ record k { phase = Closing (cause.FrontFault (number_of fault)) }
Fronts (Whole seen) k n =
    (n ≡ record k { phase = Closing cause.NoMemory })
    ⊎ ((identity : Option Identity) × Identifies seen.identity identity × (n ≡ begun_with seen identity k))

-- the bytes that came are read so
abbrev pub TakesFront : Link → Link → Type 0
TakesFront k n = (answer : Answer) × IsAnswer k.front answer × Fronts answer k n

-- bytes came: of a connection frames may be held that weren't looked at; of any other link there are none
abbrev pub HasCome : Phase → Link → Inbound → Type 0
HasCome serving k x = MayLook k x
HasCome phase k x = MayPut k x
