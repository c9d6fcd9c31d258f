use Rattle.std.proofs.Common.{◌≡◌, false, map, take}
use Rattle.clap.specs.Simple.{app_of}
use Rattle.clap.specs.declared.builder.command.Command.TheViews.{out-Command as fields_of}
use Rattle.hb_options.specs.Given.{part_of}
use Rattle.hb_options.specs.Items.{alone_app}
use Rattle.hb_options.proofs.part.command.Given as goal

-- the parts so far are declared
abbrev pub invariant-loop-part : goal.invariant-loop-part
invariant-loop-part l = record {
  built : app_of l.made ≡ alone_app (record { name = l.declared.name.now; parts = map part_of (take l.part-index l.declared.parts.now) });
  own : (fields_of l.made).has_globals ≡ false;
}
