-- What the words ask for.
use Rattle.std.specs.Prelude.{ℕ, Bool, List, Option}
use Rattle.hb_base.specs.declared.ip.Ip.{Ip}
use Rattle.hb_base.specs.declared.peer.Peer.{Peer}
use Rattle.hb_base.specs.declared.target.Target.{Target}
use Rattle.hb_words.specs.declared.asks.Make.{Make}
use Rattle.hb_words.specs.declared.asks.Show.{Show}
use Rattle.hb_words.specs.declared.page.Page.{Page}

-- what `check` asks: is this peer admitted at this target of this node of this network? And whether the policies that count are told, too
pub record Question : Type 0 where
  pub node : List ℕ
  pub network : List ℕ
  pub peer : Peer
  pub target : Target
  pub explain : Bool

-- what `route` asks: which way does a connection of the workload of this address, of this node and network, take to this target?
pub record Route : Type 0 where
  pub node : List ℕ
  pub network : List ℕ
  pub hbone_port : ℕ
  pub source : Ip
  pub target : Target

-- what a run of the proxy is asked: who the node is, where its control plane is, where its inbound door listens, its outbound and its
-- plain one, each if it has one, and the bounds of the run
pub record RunWords : Type 0 where
  pub node : List ℕ
  pub id : List ℕ
  pub discovery : Target
  pub inbound : Option Target
  pub outbound : Option Target
  pub plain : Option Target
  pub network : List ℕ
  pub hbone_port : ℕ
  pub tunnels : ℕ
  pub turns : ℕ

-- what `replay` asks: a run over a script, and what is told of it
pub record Replay : Type 0 where
  pub run : RunWords
  pub trace : Bool
  pub brief : Bool

-- what `serve` asks: a run over real sockets, the tick that ends it, if a number of them does, whether standard input ends it, where its
-- state is told, if it is, and whether the lines of notes, or all others, are left out
pub record Serve : Type 0 where
  pub run : RunWords
  pub ticks : Option ℕ
  pub stop_on_input : Bool
  pub status : Option Target
  pub quiet : Bool
  pub notes_only : Bool

-- what is asked for: an answer to a question, the way of a connection, what is held, a run over a script, one over real sockets, a script
-- that is made, or a page
-- of the program's own
pub data Command : Type 0 where
  checks : Question → Command
  routes : Route → Command
  shows : Show → Command
  replays : Replay → Command
  serves : Serve → Command
  makes : Make → Command
  prints : Page → Command
