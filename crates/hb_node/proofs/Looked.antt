-- What a link's connection finds next is a look at its frames.
use Rattle.hb_conn.specs.Connection.{Connection}
use Rattle.hb_conn.specs.declared.found.Found.{Found}
use Rattle.hb_kept.specs.Looks as looks
use Rattle.hb_model.specs.Discovery.{Discovery}
use Rattle.hb_model.specs.Runs.{IsEmptyHanded, IsLook}

pub link_looks : (x : Discovery) (d : Connection) (told : Found) → IsEmptyHanded x → (found : looks.Looked x.conn told d)
    → IsLook x found.points told d
link_looks x d told empty found = record { empty_handed = empty; found = found.look }
