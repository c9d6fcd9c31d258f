-- What contracts see of what a command declares, without where it lies in memory.
use Rattle.std.specs.Prelude.{map}
use Rattle.hb_options.specs.declared.part.Declaration.{Declaration}
use Rattle.hb_options.specs.declared.part.Part.{Part as Declared}
use Rattle.hb_options.specs.declared.part.Part.TheVariants.{Valued, Flag, Place}
use Rattle.hb_options.specs.Items.{Part, option, flag, place, Command}

abbrev pub part_of : Declared → Part
part_of (Valued name wanted) = option name.now wanted
part_of (Flag name) = flag name.now
part_of (Place name wanted) = place name.now wanted

abbrev pub command_of : Declaration → Command
command_of d = record { name = d.name.now; parts = map part_of d.parts.now }
