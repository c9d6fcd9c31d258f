-- HEADERS and CONTINUATION (RFC 9113 sections 4.3, 6.2 and 6.10).
use Rattle.std.specs.Prelude.{ℕ, Bool, Option, Some, None, Result, Ok, Err, IsErr}
use Rattle.hb_base.specs.declared.or.Or.{Or}
use Rattle.hb_base.specs.declared.or.Or.TheVariants as or
use Rattle.hb_streams.specs.Answers.{answer_of}
use Rattle.hb_streams.specs.Moves.{after, receives}
use Rattle.hb_streams.specs.declared.step.Step.{Step}
use Rattle.hb_streams.specs.declared.step.Step.TheVariants as step
use Rattle.hb_streams.specs.declared.fault.StreamFault.{StreamFault}
use Rattle.hb_flow.specs.Flows.{opened}
use Rattle.hb_owed.specs.Debts.{opened as owed_opened}
use Rattle.hb_blocks.specs.Assembly.{Assembly, Progress}
use Rattle.hb_blocks.specs.Outcome.{Makes}
use Rattle.hb_blocks.specs.Faults.{code_of}
use Rattle.hb_blocks.specs.declared.fault.BlockFault.{BlockFault}
use Rattle.hb_blocks.specs.declared.whole.Whole.{Whole}
use Rattle.hb_frames.specs.Numbers.{headers_kind}
use Rattle.hb_conn.specs.Faults.{faulted, refused, released}
use Rattle.hb_conn.specs.Outcome.{Outcome, outcome, Gives, Does}
use Rattle.hb_conn.specs.declared.machine.Core.{Core}
use Rattle.hb_conn.specs.declared.found.Found.{Found}
use Rattle.hb_conn.specs.declared.found.Found.TheVariants.{Silent, Opened}

-- the stream got HEADERS
abbrev pub headed : Core → ℕ → Bool → Core
headed c stream end = record c { streams = after c.streams (receives headers_kind stream end) }

-- a new stream has windows, and a record of what is owed on it
abbrev pub registered : Core → ℕ → Core
registered c stream = record c { flow = opened c.flow stream; owed = owed_opened c.owed stream }

abbrev pub begun : Core → ℕ → Bool → Core
begun c stream end = registered (headed c stream end) stream

-- Rows 16, 19, 20, 24 and 25: what the state of the stream refuses. On a stream that was reset HEADERS are ignored
abbrev pub headers_answered : Core → ℕ → Bool → Result Step StreamFault → Outcome
headers_answered c stream end (Ok step.New) = outcome (begun c stream end) (Opened stream end)
headers_answered c stream end (Ok step.Goes) = outcome (released (headed c stream end) stream) (Opened stream end)
headers_answered c stream end (Ok step.Ignored) = outcome c Silent
headers_answered c stream end (Err fault) = refused (headed c stream end) fault

-- a header block is whole
abbrev pub on_whole : Core → ℕ → Bool → Outcome
on_whole c stream end = headers_answered c stream end (answer_of c.streams headers_kind stream)

-- Rows 14 and 15: why the block is refused; while it isn't whole nothing is told
abbrev pub block_told : Core → Result (Option Whole) BlockFault → Outcome
block_told c (Ok None) = outcome c Silent
block_told c (Ok (Some whole)) = on_whole c whole.stream whole.end_stream
block_told c (Err fault) = faulted c (code_of fault)

abbrev pub with_memory : {X E : Type 0} → Result X E → Result X (Or E)
with_memory (Ok x) = Ok x
with_memory (Err e) = Err (or.Fault e)

-- what its assembly tells of a fragment is told, where memory isn't wanting
abbrev pub Tells : {E : Type 0} → Core → Result (Option Whole) (Or BlockFault) → Core → Result Found E → Type 0
Tells c (Ok whole) new result = Does (block_told c (Ok whole)) new result
Tells c (Err (or.Fault fault)) new result = Does (block_told c (Err fault)) new result
Tells c (Err or.NoMemory) new result = IsErr result

-- a fragment came that leads a header block so far
abbrev pub DoesBlock : Progress → Core → Core → Found → Type 0
DoesBlock progress old new found =
    (blocks : Assembly) × (told : Result (Option Whole) BlockFault) × Makes progress old.blocks blocks (with_memory told)
    × Gives (block_told (record old { blocks = blocks }) told) new found
