-- Laws of header blocks. Each is proved of every block, however it comes.
use Rattle.std.specs.Prelude.{◌≡◌, ◌≢◌, ◌↔◌, ℕ, ◌≤◌, ◌<◌, Bool, true, false, List, [], ◌∷◌, ◌++◌, length, Option, Some, None, Result, Ok, Err}
use Rattle.std.specs.List.{concat}
use Rattle.hb_base.specs.declared.or.Or.{Or}
use Rattle.hb_base.specs.declared.or.Or.TheVariants.{Fault, NoMemory}
use Rattle.hb_blocks.specs.declared.fault.BlockFault.{BlockFault}
use Rattle.hb_blocks.specs.declared.fault.BlockFault.TheVariants.{TooLong}
use Rattle.hb_blocks.specs.declared.whole.Opening.{Opening}
use Rattle.hb_blocks.specs.declared.whole.Whole.{Whole}
use Rattle.hb_blocks.specs.Assembly.{Assembly, no_headers, Progress, longest_block, joined, begun, continued}
use Rattle.hb_blocks.specs.Outcome.{Makes}

abbrev pub Answer : Type 0
Answer = Result (Option Whole) (Or BlockFault)

-- frames without END_HEADERS, one after another, are each answered nothing: the first, and those of these fragments
abbrev pub AllWait : (Bool → Progress) → Assembly → List (List ℕ) → Assembly → Type 0
AllWait first s [] last = Makes (first false) s last (Ok None)
AllWait first s (fragment ∷ more) last =
    (next : Assembly) × Makes (first false) s next (Ok None) × AllWait (continued next fragment) next more last

-- what waits is all that came, within the limit, and no headers are held beside it
abbrev pub AllIsHeld : Type 0
AllIsHeld = (s last : Assembly) (stream : ℕ) (end_stream : Bool) (first : List ℕ) (more : List (List ℕ))
    → AllWait (begun stream end_stream first) s more last
    → (last ≡ record s {
      opening = Some (record { stream = stream; end_stream = end_stream });
      block = first ++ concat more;
      headers = no_headers;
    })
    × (length (first ++ concat more) ≤ longest_block)

-- however a block is cut into fragments, the last one is answered as the block is that comes in one frame
abbrev pub CutsChangeNothing : Type 0
CutsChangeNothing = (s mid new : Assembly) (stream : ℕ) (end_stream : Bool) (first : List ℕ) (more : List (List ℕ)) (last : List ℕ)
    (answer : Answer)
    → AllWait (begun stream end_stream first) s more mid → Makes (continued mid last true) mid new answer
    → Makes (begun stream end_stream (first ++ concat more ++ last) true) s new answer

-- nor does it matter what would come behind a fragment with which a block is too long
abbrev pub LongFrontsChangeNothing : Type 0
LongFrontsChangeNothing = (s mid new : Assembly) (stream : ℕ) (end_stream : Bool) (first : List ℕ) (more : List (List ℕ))
    (fragment rest : List ℕ) (end_headers : Bool)
    → AllWait (begun stream end_stream first) s more mid
    → Makes (continued mid fragment end_headers) mid new (Err (Fault TooLong))
    → Makes (begun stream end_stream (first ++ concat more ++ fragment ++ rest) true) s new (Err (Fault TooLong))

-- a block is told to be too long at the very fragment with which it passes the limit
abbrev pub LengthIsToldAtOnce : Type 0
LengthIsToldAtOnce = (s new : Assembly) (opening : Opening) (block fragment : List ℕ) (end_headers : Bool) (answer : Answer)
    → Makes (joined opening block fragment end_headers) s new answer
    → (answer ≡ Err (Fault TooLong)) ↔ (longest_block < length (block ++ fragment))

-- want of memory aside, a fragment has one answer; where that is no fault, it leaves one state
abbrev pub OneOutcome : Type 0
OneOutcome = (progress : Progress) (s new other : Assembly) (answer second : Answer)
    → Makes progress s new answer → Makes progress s other second → answer ≢ Err NoMemory → second ≢ Err NoMemory
    → (answer ≡ second) × ((told : Option Whole) → answer ≡ Ok told → new ≡ other)
