-- A key of the code, in the machine's words.
use Rattle.hb_gateway.specs.Key.{Key}
use Rattle.hb_gateway.specs.declared.key.Key.{Key as Code}

abbrev pub key_as : Code → Key
key_as key = record { identity = key.identity; source = key.source; gateway = key.gateway }
