-- What the next happening is, and what is left once it isn't used any more.
use Rattle.std.specs.Prelude.{⊤, ◌≡◌, Option, Some, None, Result, IfOk}
use Rattle.std.specs.Borrow.{MutBor, Fml}
use Rattle.std.specs.Io.BufRead.{Rests}
use Rattle.hb_conn.specs.Connection.{Connection, Finds, LeavesLess}
use Rattle.hb_conn.specs.Observed.{data_told, header_list}
use Rattle.hb_conn.specs.contracts.conn.Conn.{the_row}
use Rattle.hb_conn.specs.declared.found.Found.{Found}
use Rattle.hb_conn.specs.declared.found.Found.TheVariants as found
use Rattle.hb_conn.specs.declared.happening.Happening.{Happening}
use Rattle.hb_conn.specs.declared.happening.Happening.TheVariants.{Opened, Chunk, Ended, Reset, Broken, GoneAway, Fault}

-- a happening shows what was found; it lends the octets and the headers that the connection keeps
abbrev pub Shows : Connection → Found → Option Happening → Type 0
Shows c found.Silent None = ⊤
Shows c (found.Opened stream end) (Some (Opened of headers last)) =
    (of ≡ stream) × (headers.now ≡ header_list c) × (last ≡ end)
Shows c (found.Chunk stream end) (Some (Chunk of bytes)) = (of ≡ stream) × (bytes.now ≡ data_told c)
Shows c (found.Ended stream) (Some (Ended of)) = of ≡ stream
Shows c (found.Reset stream code) (Some (Reset of why)) = (of ≡ stream) × (why ≡ code)
Shows c (found.Broken stream code) (Some (Broken of why)) = (of ≡ stream) × (why ≡ code)
Shows c (found.GoneAway last) (Some (GoneAway of)) = of ≡ last
Shows c (found.Fault code) (Some (Fault why)) = why ≡ code
Shows _ _ _ = ⊥

-- Where memory isn't wanting, the happening is what is found next. With all that is found there is less to be told
-- (`left_of`): a caller that asks until None comes to an end
abbrev pub After : {E : Type 0} → Connection → Result (Option Happening) E → Connection → Type 0
After old result new = IfOk result (λ told. (found : Found) × Finds old new found × Shows new found told × LeavesLess old new found)

abbrev pub EndsTold : {E : Type 0} → MutBor Connection → Result (Option Happening) E → Fml
EndsTold s result = Rests the_row s (After s.now result)
