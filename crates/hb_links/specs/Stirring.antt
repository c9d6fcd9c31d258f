-- Which numbers stir: of links on which more may be read, or is to be written, than when that was told last.
use Rattle.std.specs.Prelude.{◌≡◌, ◌≢◌, ◌⊎◌, ℕ, ◌==◌, ◌&&◌, ◌||◌, Bool, true, false, [], Option, Some, None}
use Rattle.std.specs.FinMap.{get}
use Rattle.hb_inbound.specs.Inbound.{Inbound}
use Rattle.hb_link.specs.Rousing.{roused_on}
use Rattle.hb_link.specs.declared.link.Link.{Link}
use Rattle.hb_proxy.specs.Ups.{Joins}
use Rattle.hb_world.specs.declared.act.Act.{Act}
use Rattle.hb_world.specs.declared.act.Act.TheVariants as act
use Rattle.hb_links.specs.declared.family.Family.{Family}
use Rattle.hb_links.specs.declared.links.Links.{Links}
use Rattle.hb_links.specs.declared.place.Place.{Place}
use Rattle.hb_links.specs.Busy.{is_from}
use Rattle.hb_links.specs.Calls.{wants_of, held_of, last_at, count_of}
use Rattle.hb_links.specs.Load.{places_in}
use Rattle.hb_links.specs.Shows.{IsAway, ShowsAll}

-- the link whose upstream a number is, else the number itself
abbrev pub owner_of : Option Place → ℕ → ℕ
owner_of None n = n
owner_of (Some at) n = at.link

-- the upstream on a stream of a link is roused; of a link that isn't kept any may be
abbrev pub up_left : ℕ → Option Link → Bool
up_left s None = true
up_left s (Some w) = roused_on w s

-- what of a family is left to be told: its link itself, and its upstreams that are roused
abbrev pub is_left : (own : Bool) → Option Place → Option Link → Bool
is_left own None w = own
is_left own (Some at) w = up_left at.stream w

abbrev pub in_family : Option Family → Option Place → ℕ → Option Link → Bool
in_family None at n w = false
in_family (Some f) at n w = f.link == owner_of at n && is_left f.own at w

-- a number stirs: it is of the family, or its owner's number is one of those from which on all stir
abbrev pub stirs_by : Links → Option Place → ℕ → Bool
stirs_by k at n = in_family k.stirs at n (get k.links (owner_of at n)) || is_from k.stirs_from (owner_of at n)

abbrev pub stirs_at : Links → ℕ → Bool
stirs_at k n = stirs_by k (get k.ups n) n

-- One that stirred still does. One that has something to be read, or to be written, and had nothing, does
pub record StirsAt (n : ℕ) (old new : Links) : Type 0 where
  pub kept : stirs_at old n ≡ true → stirs_at new n ≡ true
  pub reads : wants_of old n ≡ 0 → (wants_of new n ≡ 0) ⊎ (stirs_at new n ≡ true)
  pub writes : held_of old n ≡ [] → (held_of new n ≡ []) ⊎ (stirs_at new n ≡ true)

abbrev pub Stirs : Links → Links → Type 0
Stirs old new = (n : ℕ) → StirsAt n old new

-- each but that of the link that an act closes
abbrev pub closed_in : Option Act → Option ℕ
closed_in (Some (act.Close u cause)) = Some u
closed_in due = None

abbrev pub StirsBut : Option ℕ → Links → Links → Type 0
StirsBut closed old new = (n : ℕ) → closed ≢ Some n → StirsAt n old new

-- THEY ARE TOLD

-- an inbound link has this number, or an upstream
abbrev pub IsPresent : (ℕ → Inbound) → ℕ → Type 0
IsPresent f n = (IsAway (f n).phase → ⊥) ⊎ ((l s : ℕ) × Joins ((f l).tunnels s) n)

-- one that stirred still does, or was told
abbrev pub Hears : Option ℕ → Links → Links → Type 0
Hears told old new =
    (f : ℕ → Inbound) → ShowsAll old f
    → ShowsAll new f × ((n : ℕ) → IsPresent f n → stirs_at old n ≡ true → (stirs_at new n ≡ true) ⊎ (told ≡ Some n))

-- nothing else changes: what may be read and is to be written, the last words, the places, and how many are kept
pub record OnlyHears (old new : Links) : Type 0 where
  pub same : new ≡ record old { links = new.links; stirs = new.stirs; stirs_from = new.stirs_from }
  pub wants : (n : ℕ) → wants_of new n ≡ wants_of old n
  pub held : (n : ℕ) → held_of new n ≡ held_of old n
  pub last : (n : ℕ) → last_at (get new.links n) ≡ last_at (get old.links n)
  pub places : (n : ℕ) → places_in (get new.links n) ≡ places_in (get old.links n)
  pub count : count_of new ≡ count_of old
