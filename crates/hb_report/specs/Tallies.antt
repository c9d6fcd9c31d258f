-- Tallies under the numbers of their links, and what an entry adds to one.
use Rattle.std.specs.Prelude.{ℕ, ◌+◌, ◌==◌, if◌then◌else◌, length, Option, Some, None}
use Rattle.std.specs.Option.{option_or}
use Rattle.std.specs.Ordering.{nat_cmp}
use Rattle.std.specs.FinMap.{FinMap, get}
use Rattle.hb_world.specs.declared.entry.Entry.{Entry}
use Rattle.hb_world.specs.declared.entry.Entry.TheVariants.{Came, Went, Closed}
use Rattle.hb_report.specs.declared.tallies.Tally.{Tally}

-- a tally of nothing
abbrev pub nothing : Tally
nothing = record { received = 0; sent = 0; cause = None }

-- the tally, or one of nothing
abbrev pub or_nothing : Option Tally → Tally
or_nothing None = nothing
or_nothing (Some tally) = tally

-- what stands under the link's number
abbrev pub tally_in : FinMap nat_cmp Tally → ℕ → Tally
tally_in tallies link = or_nothing (get tallies link)

-- the link's tally once this entry stands behind those that it counts
abbrev pub tally_after : ℕ → Tally → Entry → Tally
tally_after link tally (Came l bytes) = if l == link then record tally { received = tally.received + length bytes } else tally
tally_after link tally (Went l bytes) = if l == link then record tally { sent = tally.sent + length bytes } else tally
tally_after link tally (Closed l cause) = if l == link then record tally { cause = option_or tally.cause (Some cause) } else tally
tally_after link tally _ = tally
