-- How a walk over all links goes on. No public clause cites this file.
use Rattle.std.specs.Prelude.{◌≡◌, ◌⊎◌, ℕ, ◌+◌, ◌==◌, ◌≤◌, ◌^◌, true, List, Option, Some, None, if◌then◌else◌}
use Rattle.std.specs.FinMap.{FinMap, insert, remove}
use Rattle.std.specs.Ordering.{nat_cmp}
use Rattle.hb_map.specs.Keyed.{IsFirstFrom}
use Rattle.hb_held.specs.Held.{Resources}
use Rattle.hb_link.specs.declared.link.Link.{Link}
use Rattle.hb_link.specs.Acts.{NoneIsDue}
use Rattle.hb_link.specs.Calls.{Updates as Judges}
use Rattle.hb_link.specs.Noted.{Told}
use Rattle.hb_link.specs.Rousing.{Rouses, Tells, roused_on}
use Rattle.hb_links.specs.declared.links.Links.{Links}
use Rattle.hb_links.specs.Acts.{Acts}
use Rattle.hb_links.specs.Busy.{touched}
use Rattle.hb_links.specs.Shows.{ShowsAll}
use Rattle.hb_model.specs.declared.config.NodeConfig.{NodeConfig}
use Rattle.hb_proxy.specs.Machine.{Machine}
use Rattle.hb_proxy.specs.Points.{Point}
use Rattle.hb_proxy.specs.Runs.{StandsFor}
use Rattle.hb_world.specs.declared.act.Act.{Act}
use Rattle.hb_world.specs.declared.act.Act.TheVariants as act

-- the least number behind this one; behind the greatest of 64 bits there is none
abbrev pub IsNext : FinMap nat_cmp Link → ℕ → Option ℕ → Type 0
IsNext links n next = IsFirstFrom links (n + 1) next ⊎ ((next ≡ None) × (2 ^ 64 ≤ n + 1))

-- what is told to a link, and makes this of it, with these notes
abbrev pub Telling : Type 1
Telling = Link → Told → Link → Told → Type 0

-- it is told to the one of a number, where there is one
abbrev pub TellsBy : Telling → Option Link → ℕ → Links → Told → Links → Told → Type 0
TellsBy R None n k told m now = (m ≡ k) × (now ≡ told)
TellsBy R (Some old) n k told m now = (new : Link) × R old told new now × (m ≡ record k { links = insert k.links n new; taken = m.taken })

-- A response that was applied, which made this of what is held, is told to the link of a number: that is touched, or stays as it is
abbrev pub JudgesAt : Resources → Option Link → ℕ → Links → Told → Links → Told → Type 0
JudgesAt held None n k told m now = (m ≡ k) × (now ≡ told)
JudgesAt held (Some old) n k told m now =
    (new : Link) × Judges held old told new now
    × (((new ≡ old) × (m ≡ k)) ⊎ ((before : ℕ) × (m ≡ touched n before (record k { links = insert k.links n new })) × Rouses old new))

-- a link is told to rouse all its upstreams
abbrev pub RousesAll : Option Link → ℕ → Links → Links → Type 0
RousesAll None n k m = m ≡ k
RousesAll (Some old) n k m =
    (new : Link) × ((s : ℕ) → roused_on new s ≡ true) × (new ≡ record old { roused = new.roused })
    × (m ≡ record k { links = insert k.links n new })

-- an upstream of a link is told that is roused
abbrev pub TellsUp : Option Link → ℕ → Option ℕ → Links → Links → Type 0
TellsUp None n told k m = (told ≡ None) × (m ≡ k)
TellsUp (Some old) n told k m = (new : Link) × Tells told old new × (m ≡ record k { links = insert k.links n new })

-- ACTS

-- a link is closed: the one of this number itself, or an upstream
abbrev pub closed_by : (n u : ℕ) → Links → Links
closed_by n u k = if u == n then record k { links = remove k.links n } else record k { ups = remove k.ups u }

-- what a close leaves
abbrev pub left_by : ℕ → Act → Links → Links
left_by n (act.Close u cause) k = closed_by n u k
left_by n due k = k

abbrev pub finished : ℕ → Act → (before : ℕ) → Links → Links
finished n due before k = touched n before (left_by n due k)

-- the links that were shown are shown still
abbrev pub KeepsShowing : Links → Links → Type 0
KeepsShowing old new =
    (g : NodeConfig) (x : Machine) (points : List Point) → StandsFor g x points → ShowsAll old x.inbound → ShowsAll new x.inbound

-- the act that is due of one link
abbrev pub ActsOf : ℕ → Option Act → Links → Links → Type 0
ActsOf n None old new =
    (new.busy ≡ old.busy) × (new.from ≡ old.from) × KeepsShowing old new
    × ((g : NodeConfig) (x : Machine) (points : List Point) → StandsFor g x points → ShowsAll old x.inbound → NoneIsDue (x.inbound n))
ActsOf n (Some due) old new = Acts (Some due) old new

-- the walk goes to the first link from where it stands
abbrev pub IsFirstOn : FinMap nat_cmp Link → Option ℕ → Option ℕ → Type 0
IsFirstOn links None next = next ≡ None
IsFirstOn links (Some n) next = IsFirstFrom links n next

abbrev pub GoesTo : Option ℕ → Links → Links → Type 0
GoesTo next old new = (new ≡ record old { from = next }) × IsFirstOn old.links old.from next

-- and behind a link
abbrev pub IsBehind : ℕ → Option ℕ → Type 0
IsBehind n None = 2 ^ 64 ≤ n + 1
IsBehind n (Some m) = m ≡ n + 1

abbrev pub Skips : ℕ → Links → Links → Type 0
Skips n old new = (new ≡ record old { from = new.from }) × IsBehind n new.from
