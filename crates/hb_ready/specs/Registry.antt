-- The links that live, as they are kept.
use Rattle.std.specs.Prelude.{◌<◌, ◌≤◌, ◌+◌, nat_eq}
use Rattle.std.specs.HashMap.{get, hash_map_len, spare}
use Rattle.std.specs.VecDeque.{deque_len, deque_capacity}
use Rattle.hb_ready.specs.declared.links.Links.{Links}
use Rattle.hb_ready.specs.Kept.{Kept, link_of}

-- each link that lives, how many do, and the list
unfoldable pub kept : Links → Kept
kept s = record { links = λ l. link_of (get nat_eq s.places l); count = hash_map_len s.places; listed = s.list.items }

-- there is memory for one more link, and room on the list for every link that lives
unfoldable pub HasRoom : Links → Type 0
HasRoom s = (0 < spare s.places) × (deque_len s.list + (hash_map_len s.places + 2) ≤ deque_capacity s.list)
