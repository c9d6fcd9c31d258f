-- The access law: no byte goes to an upstream and no DATA frame begins unless the resources held then admit the tunnel's peer.
use Rattle.std.specs.Prelude.{⊤, ◌≡◌, ℕ, true, List, ◌++◌, length, Some}
use Rattle.std.specs.List.{AllByRecursion}
use Rattle.hb_base.specs.declared.peer.Peer.{Peer}
use Rattle.hb_base.specs.declared.target.Target.{Target}
use Rattle.hb_conn.specs.Connection.{Connection}
use Rattle.hb_conn.specs.Observed.{output, frames_begun}
use Rattle.hb_held.specs.Held.{Resources}
use Rattle.hb_history.specs.History.{StandsFor}
use Rattle.hb_outgoing.specs.Selected.{has_data}
use Rattle.hb_streams.specs.declared.role.Role.TheVariants.{Server}
use Rattle.hb_table.specs.Judgement.{judged}
use Rattle.hb_table.specs.declared.judgement.Judged.TheVariants.{Admitted}
use Rattle.hb_world.specs.declared.entry.Entry.{Entry}
use Rattle.hb_world.specs.declared.entry.Entry.TheVariants as e
use Rattle.hb_inbound.specs.Part.{Part, entry, up, moves, tellings}
use Rattle.hb_inbound.specs.Sides.{conn_came, link_went, held, peer_of, target_of, AtEach}

-- what is held behind these parts admits the peer at the target of the tunnel on a stream
pub record IsAdmitted (start : Resources) (before : List Part) (s : ℕ) : Type 0 where
  pub peer : Peer
  pub target : Target
  pub peer_is : peer_of before ≡ Some peer
  pub target_is : target_of s before ≡ Some target
  pub admitted : judged (held start before) peer target ≡ Admitted

-- Behind these parts bytes go on the link. Its connection stands for its moves, the bytes that came behind the front header, and
-- those that went; the bytes are the first of those that wait; and each DATA frame with payload that begins with them is of a
-- tunnel that is admitted
pub record GoesAdmitted (start : Resources) (before : List Part) (bytes : List ℕ) : Type 0 where
  pub conn : Connection
  pub stands : StandsFor Server (moves before) (tellings before) (conn_came before) (link_went before) conn
  pub rest : List ℕ
  pub first : output conn ≡ bytes ++ rest
  pub admitted : AllByRecursion (λ f. has_data f ≡ true → IsAdmitted start before f.stream) (frames_begun (length bytes) conn)

abbrev pub UpIsAdmitted : Resources → ℕ → List Part → Entry → Type 0
UpIsAdmitted start s before (e.Went u bytes) = IsAdmitted start before s
UpIsAdmitted start s before _ = ⊤

abbrev pub LinkIsAdmitted : Resources → List Part → Entry → Type 0
LinkIsAdmitted start before (e.Went l bytes) = GoesAdmitted start before bytes
LinkIsAdmitted start before _ = ⊤

abbrev pub AccessAt : Resources → List Part → Part → Type 0
AccessAt start before (up s e) = UpIsAdmitted start s before e
AccessAt start before (entry e) = LinkIsAdmitted start before e
AccessAt start before _ = ⊤

abbrev pub AccessLaw : Resources → List Part → Type 0
AccessLaw start parts = AtEach (AccessAt start) parts
