-- A stream of a link in code is reset, where its tunnel's end asks for it. No public clause cites this file.
use Rattle.std.specs.Prelude.{◌≡◌, ℕ, if◌then◌else◌, Option, Some, None}
use Rattle.std.specs.FinMap.{get}
use Rattle.hb_conn.specs.Connection.{Connection}
use Rattle.hb_conn.specs.Observed.{aborted}
use Rattle.hb_gateway.specs.Gateway.{is_active}
use Rattle.hb_gate.specs.declared.gate.Gate.{Gate}
use Rattle.hb_gate.specs.declared.stream.Stage.{Stage}
use Rattle.hb_gate.specs.declared.stream.Stage.TheVariants.{Failing, Over}
use Rattle.hb_gate.specs.declared.stream.Stream.{Stream}
use Rattle.hb_gate.specs.Streams.{kept, ChangesAt}

-- with which code it is to be reset
abbrev pub code_of : Stage → Option ℕ
code_of (Failing code) = Some code
code_of stage = None

-- while a side of it is open
abbrev pub reset_on : Connection → ℕ → ℕ → Connection
reset_on c s code = if is_active c s then aborted c s code else c

abbrev pub ResetsBy : Stage → Stream → ℕ → Gate → Gate → Type 0
ResetsBy (Failing code) k s old new =
    (new ≡ record old { streams = new.streams; conn = reset_on old.conn s code })
    × ChangesAt s (kept (record k { stage = Over })) old.streams new.streams
ResetsBy stage k s old new = new ≡ old

abbrev pub ResetsFrom : Option Stream → ℕ → Gate → Gate → Type 0
ResetsFrom None s old new = new ≡ old
ResetsFrom (Some k) s old new = ResetsBy k.stage k s old new

abbrev pub ResetsAt : ℕ → Gate → Gate → Type 0
ResetsAt s old new = ResetsFrom (get old.streams s) s old new
