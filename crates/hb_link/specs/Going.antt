-- What the bytes that go count for. No public clause cites this file.
use Rattle.std.specs.Prelude.{ℕ, ◌+◌, ◌-◌, ◌^◌, min, Option, Some, None}
use Rattle.std.specs.Ordering.{nat_cmp}
use Rattle.std.specs.FinMap.{FinMap, get, insert}
use Rattle.hb_outgoing.specs.declared.unbegun.Unbegun.{Unbegun}
use Rattle.hb_link.specs.declared.tunnel.Tunnel.{Tunnel}

-- so many bytes more went down, of which the count stops at 2^64 - 1
abbrev pub counts_down : ℕ → Tunnel → Tunnel
counts_down n k = record k { went_down = min (k.went_down + n) (2 ^ 64 - 1) }

-- they count for the tunnel of their stream, where there is one
abbrev pub counted_for : ℕ → ℕ → FinMap nat_cmp Tunnel → Option Tunnel → FinMap nat_cmp Tunnel
counted_for s n tunnels None = tunnels
counted_for s n tunnels (Some k) = insert tunnels s (counts_down n k)

-- the payload of a DATA frame
abbrev pub begun_counted : Option Unbegun → FinMap nat_cmp Tunnel → FinMap nat_cmp Tunnel
begun_counted None tunnels = tunnels
begun_counted (Some first) tunnels = counted_for first.stream first.size tunnels (get tunnels first.stream)
