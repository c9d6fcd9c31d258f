-- What a look is to the machine, and how far it gets.
use Rattle.std.specs.Prelude.{ℕ, Bool, true, false, List}
use Rattle.hb_conn.specs.Connection.{left_of}
use Rattle.hb_gateway.specs.Response.{opens, brings, ends, fails}
use Rattle.hb_gate.specs.Calls.{LooksLacking, LooksNothing, LooksPast, LooksTold}
use Rattle.hb_gate.specs.declared.gate.Gate.{Gate}
use Rattle.hb_gate.specs.declared.looking.Look.{Look}
use Rattle.hb_gate.specs.declared.looking.Look.TheVariants as look

-- by what is found, and the bytes that are brought; how many bytes have begun to go is told with an end alone
abbrev pub Looks : Look → List ℕ → Gate → Gate → Type 0
Looks look.Nothing bytes old new = LooksNothing old new
Looks look.Passed bytes old new = LooksPast old new
Looks (look.Opens s l end) bytes old new = (begun : ℕ) × LooksTold s (opens end) begun l old new
Looks (look.Brings s l) bytes old new = (begun : ℕ) × LooksTold s (brings bytes) begun l old new
Looks (look.Ends s l) bytes old new = (begun : ℕ) × LooksTold s ends begun l old new
Looks (look.Fails mail) bytes old new = LooksTold mail.stream (fails mail.cause) mail.begun mail.link old new
Looks look.Lacked bytes old new = LooksLacking old new

-- something was found, and more may be
abbrev pub is_more : Look → Bool
is_more look.Nothing = false
is_more look.Lacked = false
is_more found = true

-- how much there still may be to be looked at of what came
abbrev pub left_to_look : Gate → ℕ
left_to_look k = left_of k.conn
