-- What a policy can ask of a connection.
use Rattle.std.specs.Prelude.{ℕ, List, Option}
use Rattle.std.specs.Option.{option_map}
use Rattle.hb_base.specs.declared.peer.Peer.{Peer}
use Rattle.hb_base.specs.declared.target.Target.{Target}
use Rattle.hb_base.specs.IdentityText.{principal_of}

-- who comes, from where, and to where
pub record Connection : Type 0 where
  pub peer : Peer
  pub target : Target

-- the principal of a peer with an identity
abbrev pub principal : Connection → Option (List ℕ)
principal c = option_map principal_of c.peer.identity

-- the namespace of its identity
abbrev pub namespace : Connection → Option (List ℕ)
namespace c = option_map (λ i. i.namespace) c.peer.identity
