-- Frames taken one after another until something is told.
use Rattle.std.specs.Prelude.{◌≡◌, ◌≢◌, ◌⊎◌, ℕ, ◌+◌, ◌||◌, nat_lt, Bool, true, false, List, [], ◌∷◌, length, ◌≤◌, Option, Some, None}
use Rattle.hb_frames.specs.Reading.{asked}
use Rattle.hb_outgoing.specs.Waiting.{room_of}
use Rattle.hb_conn.specs.Glance.{glance_of, IsOfBlock}
use Rattle.hb_conn.specs.Outcome.{is_silent}
use Rattle.hb_conn.specs.Handling.{Handles}
use Rattle.hb_conn.specs.declared.machine.Core.{Core}
use Rattle.hb_conn.specs.declared.found.Found.{Found}
use Rattle.hb_conn.specs.declared.found.Found.TheVariants.{Silent, Fault}
use Rattle.hb_conn.specs.declared.glance.Glance.TheVariants.{Nothing}
use Rattle.hb_conn.specs.declared.receiver.Receiver.{Receiver}

-- no frame is looked at: there may be no room for its answers, or a connection error was told
abbrev pub pauses : Core → Bool
pauses c = c.over || nat_lt (room_of c.out) 256

-- one whole frame is looked at
pub record Steps (old new : Receiver) (found : Found) : Type 0 where
  pub goes : pauses old.core ≡ false
  pub whole : glance_of old.reader ≢ Nothing
  pub reader : new.reader ≡ asked old.reader
  pub handled : Handles old.core (glance_of old.reader) (asked old.reader).last new.core found

-- a frame less is held than before, or a connection error was told
abbrev pub Shrinks : Receiver → Receiver → Found → Type 0
Shrinks old new found =
    (length new.reader.held + 9 ≤ length old.reader.held)
    ⊎ ((length new.reader.held ≤ length old.reader.held) × (new.core.over ≡ true) × (code : ℕ) × (found ≡ Fault code))

-- the frame in front is looked at, where a whole one is there
abbrev pub StepsOn : Receiver → Receiver → Option Found → Type 0
StepsOn old new None = (glance_of old.reader ≡ Nothing) × (new ≡ record old { reader = asked old.reader })
StepsOn old new (Some found) = Steps old new found × Shrinks old new found

-- frames of which nothing is told, one after another
abbrev pub Passes : List Receiver → Receiver → Receiver → Type 0
Passes [] old new = new ≡ old
Passes (mid ∷ more) old new = Steps old mid Silent × Passes more mid new

-- no frame is looked at, no whole one is there, or something is told of one
pub data Ends (old new : Receiver) (found : Found) : Type 0 where
  waits : pauses old.core ≡ true → new ≡ old → found ≡ Silent → Ends old new found
  lacks : pauses old.core ≡ false → glance_of old.reader ≡ Nothing → new ≡ record old { reader = asked old.reader } → found ≡ Silent
      → Ends old new found
  tells : Steps old new found → is_silent found ≡ false → Ends old new found

-- as many frames are looked at as it takes
pub record Receives (old new : Receiver) (found : Found) : Type 0 where
  pub through : List Receiver
  pub last : Receiver
  pub passes : Passes through old last
  pub ends : Ends last new found

-- where memory was wanting: behind frames of which nothing is told the next one is of a header block
pub record LacksBlock (old : Receiver) : Type 0 where
  pub through : List Receiver
  pub last : Receiver
  pub passes : Passes through old last
  pub goes : pauses last.core ≡ false
  pub block : IsOfBlock (glance_of last.reader)

-- whatever is told, a frame less is held than before, or it is a connection error
abbrev pub LeavesLess : Receiver → Receiver → Found → Type 0
LeavesLess old new found = is_silent found ≡ false → Shrinks old new found
