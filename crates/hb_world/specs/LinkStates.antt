-- What the world of a script keeps of all links.
use Rattle.std.specs.Prelude.{ℕ, Bool, List, [], ◌∷◌, ◌++◌, Option}
use Rattle.std.specs.BTreeMap.{get}
use Rattle.std.specs.Option.{is_some, unwrap_or}
use Rattle.std.specs.Ordering.{nat_cmp}
use Rattle.hb_world.specs.LinkState.{LinkState, unnamed}
use Rattle.hb_world.specs.Script.{without_bytes, less_room, pieces_by}
use Rattle.hb_world.specs.declared.line.Line.{Line}
use Rattle.hb_world.specs.declared.links.Links.{Links}

-- what is kept of a link, if a line names it
abbrev pub entry_at : Links → ℕ → Option LinkState
entry_at links link = get nat_cmp links.map link

-- what is kept of a link
abbrev pub state_at : Links → ℕ → LinkState
state_at links link = unwrap_or (entry_at links link) unnamed

-- a line names the link
abbrev pub is_named : Links → ℕ → Bool
is_named links link = is_some (entry_at links link)

-- once so many bytes of the first piece were read
abbrev pub skipped : ℕ → LinkState → LinkState
skipped n k = record k { said = record k.said { unread = without_bytes n k.said.unread } }

-- once so many bytes were written
abbrev pub written : ℕ → LinkState → LinkState
written n k = record k { said = record k.said { room = less_room n k.said.room } }

-- once one more line to come names it
abbrev pub expecting : LinkState → Line → LinkState
expecting k l = record k { coming = k.coming ++ pieces_by l }

-- once one more piece is to come
abbrev pub awaiting : List ℕ → LinkState → LinkState
awaiting piece k = record k { coming = k.coming ++ piece ∷ [] }
