-- Header lists, and what the decoder answers.
use Rattle.std.specs.Prelude.{◌≡◌, ℕ, ◌-◌, ◌^◌, min, List, Result, Ok, Err}
use Rattle.hb_base.specs.declared.or.Or.{Or}
use Rattle.hb_base.specs.declared.or.Or.TheVariants as or
use Rattle.hb_hpack.specs.declared.header.Header.{Header}
use Rattle.hb_hpack.specs.declared.header.HeaderList.{HeaderList}
use Rattle.hb_hpack.specs.declared.fault.HpackFault.{HpackFault}
use Rattle.hb_hpack.specs.declared.fault.HpackWhy.{HpackWhy}
use Rattle.hb_hpack.specs.Table.{Table, total, fitting}
use Rattle.hb_hpack.specs.Breaks.{BreaksAt}

-- The list of these headers: their size, and the longest front of them of size at most 16,384.
pub record IsListOf (headers : List Header) (list : HeaderList) : Type 0 where
  pub kept : list.kept ≡ fitting 16384 headers
  pub size : list.size ≡ min (total headers) (2 ^ 64 - 1)

-- the block was read as these headers and this table, if memory didn't run out
abbrev pub IsReadAs : List Header → Table → Table → Result HeaderList (Or HpackFault) → Type 0
IsReadAs headers next table (Ok list) = IsListOf headers list × (table ≡ next)
IsReadAs headers next table (Err (or.Fault f)) = ⊥
IsReadAs headers next table (Err or.NoMemory) = Unit {0}

-- the fault, where the answer is one, is where the block is broken
abbrev pub IsBroken : Table → List ℕ → Result HeaderList (Or HpackFault) → Type 0
IsBroken table block (Ok list) = Unit {0}
IsBroken table block (Err (or.Fault f)) = BreaksAt table block f.at f.why
IsBroken table block (Err or.NoMemory) = Unit {0}

-- the block was refused with this fault, if memory didn't run out
abbrev pub IsRefusedAs : ℕ → HpackWhy → Result HeaderList (Or HpackFault) → Type 0
IsRefusedAs at why (Ok list) = ⊥
IsRefusedAs at why (Err (or.Fault f)) = (f.at ≡ at) × (f.why ≡ why)
IsRefusedAs at why (Err or.NoMemory) = Unit {0}
