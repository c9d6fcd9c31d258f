-- What a kept connection finds next.
use Rattle.std.specs.Prelude.{⊤, ◌≡◌, ℕ, ◌≤◌, List, ◌++◌}
use Rattle.std.specs.List.{flat_map}
use Rattle.hb_frames.specs.Frames.{Joins}
use Rattle.hb_frames.specs.Numbers.{largest}
use Rattle.hb_conn.specs.Connection.{Connection, Finds}
use Rattle.hb_conn.specs.Observed.{octets_held, chunk_of, credited, IsLookedAt}
use Rattle.hb_conn.specs.declared.found.Found.{Found}
use Rattle.hb_conn.specs.declared.found.Found.TheVariants as found
use Rattle.hb_history.specs.Points.{Point, frames_got, data_in}
use Rattle.hb_history.specs.History.{Leads, happenings, ends_in}
use Rattle.hb_history.specs.Calls.{in_list, AreLooks}
use Rattle.hb_kept.specs.Kept.{Fares}

-- frames are looked at: what a connection finds next, and the points that lead to it
pub record IsLook (c : Connection) (points : List Point) (told : Found) (d : Connection) : Type 0 where
  pub finds : Finds c d told
  -- these points are looks, of which the last alone tells anything, and lead to what the connection is then
  pub looks : AreLooks points
  pub runs : Leads c points d
  -- they have the frames that were held and aren't any more
  pub frames : Joins (frames_got points) (octets_held d) (octets_held c)
  -- an end that was still to be told, and what they tell, are what is told, and an end that is still to be told
  pub tells : ends_in c.ended ++ happenings points ≡ in_list told ++ ends_in d.ended
  -- the octets of DATA that they hand out are those that the connection hands out
  pub hands_out : flat_map data_in points ≡ chunk_of d told

-- behind all but a connection error the connection fares on
abbrev pub FaresBehind : Found → Connection → Type 0
FaresBehind (found.Fault code) d = ⊤
FaresBehind told d = Fares d

-- also where, behind DATA, octets are used up
abbrev pub UsesBehind : Found → Connection → Type 0
UsesBehind (found.Chunk stream end) d = (used n : ℕ) → used ≤ largest → Fares (credited d used n)
UsesBehind told d = ⊤

-- where nothing is told, all that came was looked at
abbrev pub RestsBehind : Found → Connection → Type 0
RestsBehind found.Silent d = IsLookedAt d
RestsBehind told d = ⊤

-- so is what it finds
pub record Looked (c : Connection) (told : Found) (d : Connection) : Type 0 where
  pub points : List Point
  pub look : IsLook c points told d
  pub fares : FaresBehind told d
  pub uses : UsesBehind told d
  pub rests : RestsBehind told d

abbrev pub FoundByLooks : Type 0
FoundByLooks = (c d : Connection) (told : Found) → Fares c → Finds c d told → Looked c told d
