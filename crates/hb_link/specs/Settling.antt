-- What follows by itself behind what a link is told: what its tunnels get, and what may be put then.
use Rattle.std.specs.Prelude.{⊤, ◌≡◌, ℕ, ◌≤◌, Option, IsSome, List}
use Rattle.std.specs.FinMap.{get}
use Rattle.hb_conn.specs.Observed.{IsLookedAt, KeepsWhatCame}
use Rattle.hb_frames.specs.Numbers.{largest}
use Rattle.hb_front.specs.Reading.{IsAnswer, More}
use Rattle.hb_held.specs.Held.{Resources}
use Rattle.hb_kept.specs.Kept.{Fares}
use Rattle.hb_inbound.specs.Calm.{IsAnswered}
use Rattle.hb_inbound.specs.Inbound.{Inbound, Phase, arriving, fronting, serving}
use Rattle.hb_inbound.specs.Part.{Part}
use Rattle.hb_inbound.specs.Runs.{Local, StandsFor}
use Rattle.hb_link.specs.declared.link.Link.{Link}
use Rattle.hb_link.specs.Counting.{Places, Counts, places}
use Rattle.hb_link.specs.Noted.{Told}
use Rattle.hb_link.specs.Reaches.{Follows}
use Rattle.hb_link.specs.Rousing.{Rouses}
use Rattle.hb_link.specs.Shows.{ShowsBy}
use Rattle.hb_link.specs.Tunnels.{phase_of, ShowsTunnel}

-- it is the machine's link, while something may still happen by itself
pub record Agrees (k : Link) (x : Inbound) : Type 0 where
  pub phase : x.phase ≡ phase_of k.phase
  pub way : ShowsBy x.phase k x
  pub tunnels : (s : ℕ) → ShowsTunnel (get k.tunnels s) (x.tunnels s)
  pub numbered : (s : ℕ) → IsSome (get k.tunnels s) → s ≤ largest

-- all that came was looked at
abbrev pub LookedIn : Phase → Inbound → Type 0
LookedIn arriving x = ⊥
LookedIn fronting x = IsAnswer x.front More
LookedIn serving x = IsLookedAt x.conn
LookedIn _ x = ⊤

-- tunnels may still have to get what they get, and more may be put
pub record IsMarked (k : Link) (x : Inbound) : Type 0 where
  pub agrees : Agrees k x
  pub looked : LookedIn x.phase x

-- each tunnel got what it gets
pub record GotAll (k : Link) (x : Inbound) : Type 0 where
  pub agrees : Agrees k x
  pub answered : IsAnswered x

-- and more may be put
pub record MayPut (k : Link) (x : Inbound) : Type 0 where
  pub agrees : Agrees k x
  pub answered : IsAnswered x
  pub looked : LookedIn x.phase x

-- and frames may be held that weren't looked at, for all of which there is room
pub record MayLook (k : Link) (x : Inbound) : Type 0 where
  pub agrees : Agrees k x
  pub answered : IsAnswered x
  pub serving : x.phase ≡ serving
  pub fares : Fares x.conn

-- The code is told nothing. For each run of which P holds, parts that follow by themselves lead to one of which Q holds
abbrev pub SettlesBy : Option Places → (Resources → Type 0) → (P Q : Link → Inbound → Type 0) → Link → Told → Link → Told → Type 0
SettlesBy limits H P Q old told new now =
    (start : Resources) (before : List Part) (a : Local) → StandsFor old.number start a before → H a.held → P old a.link
    → (new.number ≡ old.number) × Follows (Counts limits) Q old.number a new told now

-- where so many places are taken
abbrev pub Settles : (others limit : ℕ) → (Resources → Type 0) → (P Q : Link → Inbound → Type 0) → Link → Told → Link → Told
    → Type 0
Settles others limit = SettlesBy (places others limit)

-- whatever is held, and whether anything is known of places or not
abbrev pub AlwaysSettles : (P Q : Link → Inbound → Type 0) → Link → Told → Link → Told → Type 0
AlwaysSettles P Q old told new now = (limits : Option Places) → SettlesBy limits (λ held. ⊤) P Q old told new now

-- what came stays: of the link only its connection and its tunnels change, and of the connection nothing of what came; nor is more
-- to be told of the upstreams
pub record KeepsCame (old new : Link) : Type 0 where
  pub link : new ≡ record old { conn = new.conn; tunnels = new.tunnels }
  pub came : KeepsWhatCame old.conn new.conn
  pub rouses : Rouses old new
