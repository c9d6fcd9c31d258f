-- A trace: the list of what the calls of a world did, in order.
use Rattle.std.specs.Prelude.{◌≡◌, ℕ, ◌==◌, Bool, true, false, not, ◌&&◌, if◌then◌else◌, List, [], ◌∷◌, ◌++◌, count_by}
use Rattle.std.specs.List.{flat_map, list_any}
use Rattle.hb_base.specs.declared.door.Door.{Door}
use Rattle.hb_base.specs.declared.door.Door.TheVariants.{Inbound, Outbound, Plain}
use Rattle.hb_world.specs.declared.entry.Entry.{Entry}
use Rattle.hb_world.specs.declared.entry.Entry.TheVariants.{Accepted, Dialled, Came, Went, Balked, Shut, Closed}
use Rattle.hb_world.specs.declared.entry.Way.TheVariants.{Listen}
use Rattle.hb_world.specs.declared.entry.Woken.{Woken}
use Rattle.hb_world.specs.declared.entry.Woken.TheVariants.{Glanced, GlanceFailed}

-- the bytes that came on a link by this entry
abbrev pub came_on : ℕ → Entry → List ℕ
came_on link (Came l bytes) = if l == link then bytes else []
came_on link _ = []

-- the bytes that went on a link by this entry
abbrev pub went_on : ℕ → Entry → List ℕ
went_on link (Went l bytes) = if l == link then bytes else []
went_on link _ = []

-- all bytes that came on a link, in order
abbrev pub recv : ℕ → List Entry → List ℕ
recv link trace = flat_map (came_on link) trace

-- all bytes that went on a link, in order
abbrev pub sent : ℕ → List Entry → List ℕ
sent link trace = flat_map (went_on link) trace

-- this entry is the birth of a link
abbrev pub is_birth : Entry → Bool
is_birth (Accepted l door) = true
is_birth (Dialled l to why) = true
is_birth _ = false

-- how many links were born
abbrev pub births : List Entry → ℕ
births trace = count_by is_birth trace

-- this entry is the birth of this link
abbrev pub is_birth_of : ℕ → Entry → Bool
is_birth_of link (Accepted l door) = l == link
is_birth_of link (Dialled l to why) = l == link
is_birth_of link _ = false

-- this entry closes this link
abbrev pub is_close_of : ℕ → Entry → Bool
is_close_of link (Closed l cause) = l == link
is_close_of link _ = false

-- this entry shuts this link
abbrev pub is_shut_of : ℕ → Entry → Bool
is_shut_of link (Shut l) = l == link
is_shut_of link _ = false

-- the link was born
abbrev pub was_born : ℕ → List Entry → Bool
was_born link trace = list_any (is_birth_of link) trace

-- the link was closed
abbrev pub was_closed : ℕ → List Entry → Bool
was_closed link trace = list_any (is_close_of link) trace

-- the link was shut
abbrev pub was_shut : ℕ → List Entry → Bool
was_shut link trace = list_any (is_shut_of link) trace

-- a link lives from its birth to its Closed
abbrev pub lives : ℕ → List Entry → Bool
lives link trace = was_born link trace && not (was_closed link trace)

-- two doors are the same
abbrev pub same_door : Door → Door → Bool
same_door Inbound Inbound = true
same_door Outbound Outbound = true
same_door Plain Plain = true
same_door _ _ = false

-- this entry is a listen that left this door listening
abbrev pub is_listen_at : Door → Entry → Bool
is_listen_at door (Balked (Listen d at listening)) = same_door d door && listening
is_listen_at door _ = false

-- the door is listening
abbrev pub listens : Door → List Entry → Bool
listens door trace = list_any (is_listen_at door) trace

-- at each place of a trace: what holds of the entries before it and of the entry there
abbrev pub AtEach : (List Entry → Entry → Type 0) → List Entry → Type 0
AtEach P trace = (before : List Entry) (e : Entry) (after : List Entry) → trace ≡ before ++ e ∷ after → P before e

-- this tells of a wait, and not of a glance
abbrev pub is_waited : Woken → Bool
is_waited Glanced = false
is_waited GlanceFailed = false
is_waited _ = true
