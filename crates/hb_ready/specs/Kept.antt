-- The links that live, and the list of those that are to be tried.
use Rattle.std.specs.Prelude.{◌≡◌, ◌⊎◌, ℕ, ◌==◌, Bool, true, false, if◌then◌else◌, List, [], ◌∷◌, ◌++◌, Option, Some, None}
use Rattle.std.specs.List.{list_any, sum_by}
use Rattle.std.specs.Option.{option_map, is_some}
use Rattle.std.specs.HashMap.{HashMap, values}
use Rattle.std.specs.declared.hash.FoldHasher.{FoldHasher}
use Rattle.std.specs.declared.hash.BuildHasherDefault.{BuildHasherDefault}
use Rattle.hb_world.specs.declared.entry.Entry.{Entry}
use Rattle.hb_world.specs.declared.entry.Entry.TheVariants as e
use Rattle.hb_ready.specs.declared.link.Link.{Link}
use Rattle.hb_ready.specs.declared.link.Place.{Place}
use Rattle.hb_ready.specs.Sight.{fresh, sight_behind}

-- what is kept: each link that lives, how many do, and the list
pub record Kept : Type 0 where
  pub links : ℕ → Option Link
  pub count : ℕ
  pub listed : List ℕ

-- the list has this number
abbrev pub has : List ℕ → ℕ → Bool
has xs l = list_any (λ x. x == l) xs

-- a link that lives, behind one more entry
abbrev pub link_behind : ℕ → Option Link → Entry → Option Link
link_behind l k (e.Accepted n door) = if n == l then Some (fresh true) else k
link_behind l k (e.Dialled n to why) = if n == l then Some (fresh false) else k
link_behind l k (e.Closed n cause) = if n == l then None else k
link_behind l k x = option_map (λ (k : Link). sight_behind l k x) k

-- each link is what it was, behind this entry
abbrev pub Follows : Kept → Kept → Entry → Type 0
Follows old new x = (l : ℕ) → new.links l ≡ link_behind l (old.links l) x

-- nothing changed
pub record IsKept (old new : Kept) : Type 0 where
  pub links : (l : ℕ) → new.links l ≡ old.links l
  pub count : new.count ≡ old.count
  pub listed : new.listed ≡ old.listed

-- the list is the same, and as many links live
pub record KeepsList (old new : Kept) : Type 0 where
  pub listed : new.listed ≡ old.listed
  pub count : new.count ≡ old.count

-- the number is added at the list's end, or nothing is, and a link of this number that lives is on it
abbrev pub Lists : Kept → Kept → ℕ → Type 0
Lists old new l = (new.listed ≡ old.listed ++ l ∷ [])
    ⊎ ((new.listed ≡ old.listed) × (is_some (old.links l) ≡ true → has old.listed l ≡ true))

-- the first number goes to the end
abbrev pub rotated : List ℕ → List ℕ
rotated [] = []
rotated (x ∷ xs) = xs ++ x ∷ []

-- a map from numbers to places
abbrev pub Places : Type 0
Places = HashMap ℕ Place (BuildHasherDefault FoldHasher)

abbrev pub link_of : Option Place → Option Link
link_of place = option_map (λ (p : Place). p.link) place

abbrev pub is_marked : Option Place → Bool
is_marked None = false
is_marked (Some p) = p.is_listed

-- how many places aren't on the list: 1 or 0 of one, and of all
abbrev pub off_list : Place → ℕ
off_list p = if p.is_listed then 0 else 1

abbrev pub all_off_list : Places → ℕ
all_off_list places = sum_by off_list (values places)
