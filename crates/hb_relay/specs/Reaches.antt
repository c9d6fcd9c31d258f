-- What a call of the code is to the machine.
use Rattle.std.specs.Prelude.{⊤, ◌≡◌, ◌⊎◌, ℕ, List, [], ◌∷◌, Option}
use Rattle.hb_base.specs.declared.note.Note.{Note}
use Rattle.hb_held.specs.Held.{Resources}
use Rattle.hb_captured.specs.Answer.{Routing}
use Rattle.hb_captured.specs.Captured.{Captured}
use Rattle.hb_captured.specs.Counts.{counted_with}
use Rattle.hb_captured.specs.Part.{Part, lacked, misfronted, fronted, refused, accepted, loosed, left, done, notes, note_if}
use Rattle.hb_captured.specs.Runs.{Local, MayGo, next, StandsFor}
use Rattle.hb_relay.specs.declared.relay.Relay.{Relay}
use Rattle.hb_relay.specs.Shows.{Shows}

-- a part that follows by itself: neither an entry, nor what happens on a stream, nor what others do to the link, nor what goes by how many
-- links there are
abbrev pub IsInner : Part → Type 0
IsInner lacked = ⊤
IsInner (misfronted fault) = ⊤
IsInner (fronted seen routing aim) = ⊤
IsInner (refused seen routing why status note) = ⊤
IsInner (accepted note) = ⊤
IsInner (left made) = ⊤
IsInner (done note) = ⊤
IsInner _ = ⊥

-- what a header gets goes by these counts
abbrev pub IsRouted : Routing → Part → Type 0
IsRouted routing (fronted seen by aim) = by ≡ routing
IsRouted routing (refused seen by why status note) = by ≡ routing
IsRouted routing _ = ⊤

-- the counts behind a step of a link
abbrev pub rerouted : (before behind : Captured) → Routing → Routing
rerouted x y routing = record routing { opens = counted_with x y routing.opens }

-- it leaves its stream, behind so many bytes that have begun to go there
abbrev pub IsLeaving : ℕ → Part → Type 0
IsLeaving n (loosed m) = m ≡ n
IsLeaving n _ = ⊥

-- which parts follow
abbrev pub Inner : Type 1
Inner = Part → Type 0

abbrev pub leaving : ℕ → Inner
leaving n p = IsInner p ⊎ IsLeaving n p

-- such parts lead from one link to another, one after another, and from these counts to those
abbrev pub Leads : Inner → ℕ → Routing → Local → List Part → Local → Routing → Type 0
Leads I l routing a [] b behind = (b ≡ a) × (behind ≡ routing)
Leads I l routing a (p ∷ parts) b behind =
    I p × IsRouted routing p × MayGo l a p × Leads I l (rerouted a.link (next a p).link routing) (next a p) parts b behind

-- they lead to a link that the code shows, and to these counts, and make this note, or none
pub record Reaches (I : Inner) (l : ℕ) (routing : Routing) (a : Local) (k : Relay) (behind : Routing) (made : Option Note) : Type 0 where
  pub parts : List Part
  pub reached : Local
  pub leads : Leads I l routing a parts reached behind
  pub shows : Shows k reached.link
  pub noted : notes parts ≡ note_if made

-- The code is told a part. For each run of the link that the code showed, and behind which the part may come, it shows afterwards the run
-- with that part, and with what follows from it; so it is while this holds of what is held
pub record MeetsBy (I : Inner) (P : Resources → Type 0) (p : Part) (old : Relay) (routing : Routing) (new : Relay) (behind : Routing)
    (made : Option Note) : Type 0 where
  pub number : new.number ≡ old.number
  pub reaches : (start : Resources) (before : List Part) (a : Local) → StandsFor old.number start a before → Shows old a.link → P a.held
      → MayGo old.number a p → Reaches I old.number (rerouted a.link (next a p).link routing) (next a p) new behind made

-- what follows by itself
abbrev pub Meets : (Resources → Type 0) → Part → Relay → Routing → Relay → Routing → Option Note → Type 0
Meets P p old routing new behind made = MeetsBy IsInner P p old routing new behind made
