use Rattle.std.specs.Prelude.{⊤, ◌≡◌, ◌⊎◌, ℕ, ◌+◌, ◌==◌, if◌then◌else◌, ℤ, pos, ◌+ℤ◌, ◌-ℤ◌, ◌≤ℤ◌, ◌<ℤ◌, is_some, map, Option, Some, None, Result, Ok, Err}
use Rattle.std.specs.Ordering.{nat_cmp}
use Rattle.std.specs.FinMap.{FinMap, get, entries, from_entries}
use Rattle.hb_windows.specs.Sending.{Sending}
use Rattle.hb_frames.specs.Numbers.{largest}
use Rattle.hb_windows.specs.declared.overrun.Overrun.{Overrun}
use Rattle.hb_flow.specs.Windows.{Windows, counted, sized}
use Rattle.hb_flow.specs.Answers.{Rises}
use Rattle.hb_flow.specs.Flows.{Flows, changed, sending_by}

-- a stream's windows where the peer's initial size is k: the sending one moves by the difference
abbrev pub with_size : ℕ → Windows → Windows
with_size k = sending_by (sized k)

-- those of every stream
unfoldable pub all_with_size : ℕ → FinMap nat_cmp Windows → FinMap nat_cmp Windows
all_with_size k streams = from_entries (map (λ e. (e.0, with_size k e.1)) (entries streams))

-- the initial size is k from now on; the connection's window doesn't move (RFC 9113 section 6.9.2)
abbrev pub resized : Flows → ℕ → Flows
resized f k = record f { initial = k; streams = all_with_size k f.streams }

-- the DATA of the stream n that hasn't begun, where all of it is `unbegun` octets of the stream `of`
abbrev pub unbegun_on : ℕ → ℕ → ℕ → ℕ
unbegun_on of unbegun n = if n == of then unbegun else 0

-- by how much a window moves
abbrev pub moves_by : ℕ → Windows → ℤ
moves_by k w = pos k -ℤ pos w.sending.size

-- a stream's window, of whose DATA so much hasn't begun, stays within the largest at the initial size k
abbrev pub Fits : ℕ → ℕ → Option Windows → Type 0
Fits k unbegun None = ⊤
Fits k unbegun (Some w) = (counted w.sending unbegun +ℤ moves_by k w) ≤ℤ pos largest

-- and it doesn't, as the fault says
abbrev pub Exceeds : ℕ → ℕ → Overrun → Option Windows → Type 0
Exceeds k unbegun e None = ⊥
Exceeds k unbegun e (Some w) =
    (pos largest <ℤ (counted w.sending unbegun +ℤ moves_by k w))
    × (e ≡ record { held = counted w.sending unbegun; asked = moves_by k w })

-- the largest initial size at which a window stays within the largest
abbrev pub size_limit : Sending → ℕ → ℤ
size_limit w unbegun = pos largest -ℤ (counted w unbegun -ℤ pos w.size)

abbrev pub limit_by : ℕ → Option Windows → ℤ
limit_by unbegun None = pos largest
limit_by unbegun (Some w) = size_limit w.sending unbegun

-- and that of the stream n, the largest of all where it has no windows
abbrev pub limit_on : Flows → ℕ → ℕ → ℕ → ℤ
limit_on f of unbegun n = limit_by (unbegun_on of unbegun n) (get f.streams n)

-- the least of the streams' limits and of the largest size of all
pub record IsSizeLimit (f : Flows) (of unbegun : ℕ) (limit : ℤ) : Type 0 where
  pub most : limit ≤ℤ pos largest
  pub under : (n : ℕ) → limit ≤ℤ limit_on f of unbegun n
  pub reached : (limit ≡ pos largest) ⊎ ((n : ℕ) × (limit ≡ limit_on f of unbegun n))

-- but for the windows of streams, all is as it was, and the same streams have windows
abbrev pub KeepsStreams : Flows → Flows → Type 0
KeepsStreams old new =
    (new.sending ≡ old.sending) × (new.taking ≡ old.taking) × (new.initial ≡ old.initial)
    × ((n : ℕ) → is_some (get new.streams n) ≡ is_some (get old.streams n))

-- the initial size changes to k; it is refused exactly where the window of a stream would exceed the largest, and
-- then only the windows of streams may have moved
abbrev pub Resizes : Flows → Flows → Result Unit Overrun → Flows → ℕ → ℕ → ℕ → Type 0
Resizes old new (Ok _) next k of unbegun =
    ((n : ℕ) → Fits k (unbegun_on of unbegun n) (get old.streams n)) × (new ≡ next)
Resizes old new (Err e) next k of unbegun =
    ((n : ℕ) × Exceeds k (unbegun_on of unbegun n) e (get old.streams n)) × KeepsStreams old new

-- one stream's window moves
abbrev pub ResizesOn : Flows → Flows → Result Unit Overrun → ℕ → ℕ → ℕ → Option Windows → Type 0
ResizesOn old new result n k unbegun None = (result ≡ Ok tt) × (new ≡ old)
ResizesOn old new result n k unbegun (Some w) =
    Rises old new result (changed old n (with_size k)) (counted w.sending unbegun) (moves_by k w)

-- the number behind one, and the first of all
abbrev pub behind : Option ℕ → ℕ
behind None = 0
behind (Some n) = n + 1
