-- A node, as its contracts see it, and the machines that it shows.
use Rattle.std.specs.Prelude.{⊤, ◌≡◌, ◌≢◌, ℕ, ◌==◌, Bool, true, false, if◌then◌else◌, List, [], ◌∷◌, length, Option, Some, None}
use Rattle.hb_base.specs.declared.cause.Cause.{Cause}
use Rattle.hb_held.specs.Held.{Resources}
use Rattle.hb_world.specs.declared.entry.Entry.{Entry}
use Rattle.hb_world.specs.declared.entry.Entry.TheVariants as e
use Rattle.hb_base.specs.declared.door.Why.{Why}
use Rattle.hb_base.specs.declared.door.Why.TheVariants as whys
use Rattle.hb_model.specs.declared.act.Act.{Act}
use Rattle.hb_model.specs.declared.act.Act.TheVariants as act
use Rattle.hb_model.specs.declared.config.NodeConfig.{NodeConfig}
use Rattle.hb_model.specs.Discovery.{Phase, unborn, closed, closing}
use Rattle.hb_model.specs.Machine.{Machine, entered, with_stop}
use Rattle.hb_model.specs.Point.{Point, entry, stopped}
use Rattle.hb_model.specs.Runs.{MayCome, Steps, due, due_by, wants, wanted_by, output, output_by}
use Rattle.hb_node.specs.declared.link.Link.{Link}
use Rattle.hb_node.specs.Judging.{Judges, held_behind, Judged}
use Rattle.hb_node.specs.Phases.{phase_of, is_faulted}
use Rattle.hb_node.specs.Links.{part_of, Agrees, IsSteady}

-- what a node is told of itself, what it holds, whether a dial is due, whether the run ends, and the link that lives
pub record State : Type 0 where
  pub config : NodeConfig
  pub held : Resources
  pub dials : Bool
  pub over : Bool
  pub link : Option Link

-- a new node
abbrev pub fresh_state : NodeConfig → Resources → State
fresh_state g held = record { config = g; held = held; dials = true; over = false; link = None }

-- how many bytes may be read of a link, and what may be written on it
abbrev pub wants_on : Option Link → ℕ → ℕ
wants_on None l = 0
wants_on (Some k) l = if k.number == l then wanted_by (phase_of k.phase) (part_of k) else 0

abbrev pub output_on : Option Link → ℕ → List ℕ
output_on None l = []
output_on (Some k) l = if k.number == l then output_by (phase_of k.phase) (part_of k) else []

-- the call of the world that is due
abbrev pub number_of : Option Link → Option ℕ
number_of None = None
number_of (Some k) = Some k.number

-- a write on the link goes before its close
abbrev pub says_last : Option Link → Bool
says_last None = false
says_last (Some k) = is_faulted k.phase

abbrev pub closing_of : Option Link → Option Cause
closing_of None = None
closing_of (Some k) = closing (phase_of k.phase)

abbrev pub due_of : State → Option Act
due_of s = due_by s.config s.dials (number_of s.link) (closing_of s.link)

-- a link that is to be closed counts as closed once it was told
abbrev pub after_close : State → Option Cause → State
after_close s None = s
after_close s (Some cause) = record s { link = None }

abbrev pub after_act : State → State
after_act s = after_close s (closing_of s.link)

-- a link isn't born, or is closed
abbrev pub IsGone : Phase → Type 0
IsGone unborn = ⊤
IsGone closed = ⊤
IsGone _ = ⊥

-- the link that lives is the machine's, as far as that counts, and every other is gone
abbrev pub ShowsLink : Option Link → Machine → Type 0
ShowsLink None m = (m.current ≡ None) × ((l : ℕ) → IsGone (m.links l).phase)
ShowsLink (Some k) m =
    (m.current ≡ Some k.number) × (m.dials ≡ false) × Agrees (m.links k.number) (part_of k) × IsSteady (m.links k.number)
    × ((l : ℕ) → l ≢ k.number → IsGone (m.links l).phase)

-- a node shows a machine
pub record Shows (s : State) (m : Machine) : Type 0 where
  pub held : m.held ≡ s.held
  pub dials : m.dials ≡ s.dials
  pub over : m.over ≡ s.over
  pub link : ShowsLink s.link m

-- a point that is no entry, nor the end of the run
abbrev pub IsInner : Point → Type 0
IsInner (entry e) = ⊥
IsInner (stopped cause) = ⊥
IsInner _ = ⊤

-- such points lead from one machine to another
abbrev pub Inner : NodeConfig → Machine → List Point → Machine → Type 0
Inner g m [] n = n ≡ m
Inner g m (p ∷ points) n = IsInner p × (mid : Machine) × Steps g m p mid × Inner g mid points n

-- they lead to a machine that the node shows
pub record Reaches (m : Machine) (s : State) : Type 0 where
  pub points : List Point
  pub machine : Machine
  pub inner : Inner s.config m points machine
  pub shows : Shows s machine

-- for each machine that a node showed, and for which the entry may come, it shows afterwards that machine one entry on, and
-- what points behind that entry make of it
abbrev pub Enters : Entry → State → State → Type 0
Enters came old new =
    (new.config ≡ old.config) × ((m : Machine) → Shows old m → MayCome old.config m came → Reaches (entered old.config came m) new)

-- so they do, and apply no response
pub record ReachesAlone (m : Machine) (s : State) : Type 0 where
  pub points : List Point
  pub machine : Machine
  pub inner : Inner s.config m points machine
  pub shows : Shows s machine
  pub alone : held_behind m.held points ≡ []

abbrev pub EntersAlone : Entry → State → State → Type 0
EntersAlone came old new =
    (new.config ≡ old.config) × ((m : Machine) → Shows old m → MayCome old.config m came → ReachesAlone (entered old.config came m) new)

-- so they do, and someone is shown what is held behind each response that they apply, one after another
pub record ReachesJudged {J : Type 0} (judges : Judges J) (m : Machine) (s : State) (before after : J) : Type 0 where
  pub points : List Point
  pub machine : Machine
  pub inner : Inner s.config m points machine
  pub shows : Shows s machine
  pub judged : Judged judges (held_behind m.held points) before after

-- an entry comes, and so does what follows behind it
abbrev pub EntersJudged : {J : Type 0} → Judges J → Entry → State → State → J → J → Type 0
EntersJudged judges came old new before after =
    (new.config ≡ old.config)
    × ((m : Machine) → Shows old m → MayCome old.config m came → ReachesJudged judges (entered old.config came m) new before after)

-- the answer to a dial: the link's number, none where it failed
abbrev pub Answers : Why → Option ℕ → State → State → Type 0
Answers why None old new = EntersAlone (e.DialFailed old.config.discovery why) old new
Answers why (Some l) old new = EntersAlone (e.Dialled l old.config.discovery why) old new

-- behind the answer to a dial of the control plane nothing is due, unless a link was to be closed
abbrev pub NoneIsDue : Why → State → State → Type 0
NoneIsDue whys.Discovery old new = closing_of old.link ≡ None → due_of new ≡ None
NoneIsDue _ old new = ⊤

-- some bytes of so many went
abbrev pub Goes : ℕ → ℕ → State → State → Type 0
Goes l n old new = (bytes : List ℕ) → length bytes ≡ n → EntersAlone (e.Went l bytes) old new

-- the call of the world that is due in each machine that a node shows; a link that is to be closed counts as closed then
abbrev pub Closes : Option Act → State → State → Type 0
Closes (Some (act.Close l cause)) old new =
    (m : Machine) → Shows old m → MayCome old.config m (e.Closed l cause) × Shows new (entered old.config (e.Closed l cause) m)
Closes _ old new = new ≡ old

abbrev pub Acts : Option Act → State → State → Type 0
Acts due_now old new =
    (new.config ≡ old.config) × ((m : Machine) → Shows old m → due_now ≡ due old.config m) × Closes due_now old new

-- how many bytes may be read, and what may be written, in each machine that a node shows
abbrev pub Wants : State → ℕ → ℕ → Type 0
Wants s l n = (m : Machine) → Shows s m → n ≡ wants m l

abbrev pub Puts : State → ℕ → List ℕ → Type 0
Puts s l bytes = (m : Machine) → Shows s m → bytes ≡ output m l

-- the run ends
abbrev pub Stops : Cause → State → State → Type 0
Stops cause old new = (new.config ≡ old.config) × ((m : Machine) → Shows old m → Shows new (with_stop cause m))
