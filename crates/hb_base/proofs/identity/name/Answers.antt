use Rattle.std.proofs.Common.{◌≡◌, true, false}
use Rattle.hb_base.proofs.NameLemmas.{IsUtf8-name}
use Rattle.hb_base.proofs.identity.name.Goals as goal

-- a name is ASCII, so it is UTF-8
pub unreachable-requires : goal.unreachable-requires
unreachable-requires c =
    let is_text = IsUtf8-name c.args.text.now c.requires in
    let found = c.in_ok-name.ensures.found.1 is_text in
    let never : false ≡ true = rw c.in-None.is at found in cc
