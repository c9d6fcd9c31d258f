-- What a fragment of a header block is answered, and what it leaves.
use Rattle.std.specs.Prelude.{◌≡◌, ℕ, List, [], Option, Some, None, Result, Ok, Err}
use Rattle.hb_base.specs.declared.or.Or.{Or}
use Rattle.hb_base.specs.declared.or.Or.TheVariants.{Fault, NoMemory}
use Rattle.hb_hpack.specs.declared.header.Header.{Header}
use Rattle.hb_hpack.specs.declared.header.HeaderList.{HeaderList}
use Rattle.hb_hpack.specs.Table.{Table}
use Rattle.hb_hpack.specs.Block.{Reads}
use Rattle.hb_hpack.specs.Breaks.{BreaksAt}
use Rattle.hb_hpack.specs.Decoded.{IsListOf}
use Rattle.hb_blocks.specs.declared.fault.BlockFault.{BlockFault}
use Rattle.hb_blocks.specs.declared.fault.BlockFault.TheVariants.{TooLong, Compression}
use Rattle.hb_blocks.specs.declared.whole.Whole.{Whole}
use Rattle.hb_blocks.specs.declared.whole.Opening.{Opening}
use Rattle.hb_blocks.specs.Assembly.{Assembly, no_headers, Progress, too_long, waits, complete}

-- the block stands for the headers of the list, and leads from the table to next (RFC 7541); or it is broken, where and
-- how the fault says; want of memory aside
abbrev pub Decodes : Table → List ℕ → Table → Result HeaderList (Or BlockFault) → Type 0
Decodes table block next (Ok list) = (headers : List Header) × Reads table block headers next × IsListOf headers list
Decodes table block next (Err (Fault (Compression fault))) = BreaksAt table block fault.at fault.why
Decodes table block next (Err (Fault TooLong)) = ⊥
Decodes table block next (Err NoMemory) = Unit {0}

-- what is told of a block that is whole
abbrev pub whole_of : Opening → Whole
whole_of opening = record { stream = opening.stream; end_stream = opening.end_stream }

-- the answer to a block's progress, and what is held from then on
abbrev pub Makes : Progress → Assembly → Assembly → Result (Option Whole) (Or BlockFault) → Type 0
-- too long: so it is told
Makes too_long old new (Err (Fault TooLong)) = Unit {0}
-- not whole: nothing is told, and the block is held, in place of the headers of the last one
Makes (waits opening block) old new (Ok None) = new ≡ record old { opening = Some opening; block = block; headers = no_headers }
Makes (waits opening block) old new (Err NoMemory) = Unit {0}
-- whole: it is told, its headers are kept, and no block is open any more; or why it is refused
Makes (complete opening block) old new (Ok (Some whole)) =
    (whole ≡ whole_of opening) × (new.opening ≡ None) × (new.block ≡ []) × Decodes old.table block new.table (Ok new.headers)
Makes (complete opening block) old new (Err why) = Decodes old.table block new.table (Err why)
-- nothing else is answered
Makes _ _ _ _ = ⊥
