-- Objects in JSON (RFC 8259) of which what is empty is left out.
use Rattle.std.specs.Prelude.{ℕ, ◌==◌, if◌then◌else◌, List, [], ◌∷◌, Option, Some, None}
use Rattle.std.specs.List.{fold}
use Rattle.serde_json.specs.Data.{Data, number, unsigned, string, array, object, Members, no_members, put}
use Rattle.serde_json.specs.View.{items_of, members_view}
use Rattle.hb_lines.specs.declared.object.Object.{Object}

-- a text as the value of a member; an empty one has none
unfoldable pub text_member : List ℕ → Option Data
text_member [] = None
text_member (b ∷ bs) = Some (string (b ∷ bs))

-- an array likewise
unfoldable pub array_member : List Data → Option Data
array_member [] = None
array_member (d ∷ ds) = Some (array (items_of (d ∷ ds)))

-- a number of which 0 says nothing
unfoldable pub number_member : ℕ → Option Data
number_member n = if n == 0 then None else Some (number (unsigned n))

-- a member that has a value stands at its place by key
unfoldable pub put_some : List ℕ → Option Data → Members → Members
put_some key None members = members
put_some key (Some value) members = put key value members

-- the members put so far
abbrev pub members_as : Object → Members
members_as o = members_view o.members.entries

-- so do these
abbrev pub put_members : Members → List (List ℕ × Option Data) → Members
put_members members more = fold (λ object m. put_some m.0 m.1 object) members more

-- the object of the members that have a value, in byte order of their keys
abbrev pub object_of : List (List ℕ × Option Data) → Data
object_of members = object (put_members no_members members)

-- an object with one member more, at its place by key
abbrev pub with_member : List ℕ → Data → Data → Data
with_member key value (object members) = object (put key value members)
with_member key value other = other
