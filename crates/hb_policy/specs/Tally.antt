-- What a tally says of the policies counted.
use Rattle.std.specs.Prelude.{◌≡◌, not, ◌&&◌, List, ◌++◌}
use Rattle.std.specs.List.{list_any}
use Rattle.hb_records.specs.declared.authorization.Authorization.{Authorization}
use Rattle.hb_policy.specs.declared.tally.Tally.{Tally}
use Rattle.hb_policy.specs.Connection.{Connection}
use Rattle.hb_policy.specs.Policy.{fires, is_deny}

-- a tally stands for the policies that were counted for a connection
pub record StandsFor (t : Tally) (c : Connection) (policies : List Authorization) : Type 0 where
  pub denied : t.is_denied ≡ list_any (λ a. is_deny a.action && fires c a) policies
  pub has_allow : t.has_allow ≡ list_any (λ a. not (is_deny a.action)) policies
  pub allowed : t.is_allowed ≡ list_any (λ a. not (is_deny a.action) && fires c a) policies

-- whatever policies the tally stood for, it stands for them followed by these
abbrev pub Adds : List Authorization → Connection → Tally → Tally → Type 0
Adds more c before after = (policies : List Authorization) → StandsFor before c policies → StandsFor after c (policies ++ more)
