-- Which links may have an act due.
use Rattle.std.specs.Prelude.{ℕ, ◌==◌, ◌||◌, ◌&&◌, not, Bool, true, false, nat_le, min, if◌then◌else◌, is_some, Option, Some, None}
use Rattle.std.specs.FinMap.{get}
use Rattle.hb_links.specs.declared.family.Family.{Family}
use Rattle.hb_links.specs.declared.links.Links.{Links}
use Rattle.hb_links.specs.Load.{places_in, recount}

-- the one that was touched last, and those from a number on
abbrev pub is_at : Option ℕ → ℕ → Bool
is_at None l = false
is_at (Some n) l = n == l

abbrev pub is_from : Option ℕ → ℕ → Bool
is_from None l = false
is_from (Some n) l = nat_le n l

abbrev pub may_be_due : Links → ℕ → Bool
may_be_due k l = is_at k.busy l || is_from k.from l

-- no link may
abbrev pub is_idle : Links → Bool
is_idle k = not (is_some k.busy) && not (is_some k.from)

-- A LINK IS TOUCHED

-- its tunnels are counted anew, of which so many took a place before
abbrev pub counted : (l before : ℕ) → Links → Links
counted l before k = record k { taken = recount k.taken before (places_in (get k.links l)) }

-- it may have an act due: the one that was touched last, or from its number on
abbrev pub busy_after : Option ℕ → ℕ → Option ℕ
busy_after None l = Some l
busy_after (Some n) l = Some n

abbrev pub least : Option ℕ → ℕ → ℕ
least None l = l
least (Some n) l = min n l

abbrev pub from_after : (busy from : Option ℕ) → ℕ → Option ℕ
from_after None from l = from
from_after (Some n) from l = if n == l then from else Some (least from l)

abbrev pub made_due : ℕ → Links → Links
made_due l k = record k { busy = busy_after k.busy l; from = from_after k.busy k.from l }

-- it is to be told, with its upstreams that are roused; or it is from its number on, with all its upstreams
abbrev pub whole : ℕ → Family
whole l = record { link = l; own = true }

abbrev pub stirs_after : Option Family → ℕ → Option Family
stirs_after None l = Some (whole l)
stirs_after (Some f) l = if f.link == l then Some (whole l) else Some f

abbrev pub stirs_from_after : Option Family → (from : Option ℕ) → ℕ → Option ℕ
stirs_from_after None from l = from
stirs_from_after (Some f) from l = if f.link == l then from else Some (least from l)

abbrev pub stirred : ℕ → Links → Links
stirred l k = record k { stirs = stirs_after k.stirs l; stirs_from = stirs_from_after k.stirs k.stirs_from l }

abbrev pub touched : (l before : ℕ) → Links → Links
touched l before k = stirred l (made_due l (counted l before k))
