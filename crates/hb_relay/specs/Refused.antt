-- Links that code may not show, and what may not follow by itself; and a link that may be shown.
use Rattle.std.specs.Prelude.{◌≡◌, ◌≢◌, ℕ, true, None}
use Rattle.hb_base.specs.declared.cause.Cause.{Cause}
use Rattle.hb_held.specs.Held.{Resources}
use Rattle.hb_captured.specs.Answer.{Routing}
use Rattle.hb_captured.specs.Captured.{Captured, fronting, opening, accepting, live, failed, no_link, at_stage, ends_for, is_raw, is_through}
use Rattle.hb_relay.specs.declared.relay.Relay.{Relay}
use Rattle.hb_relay.specs.declared.stage.Stage.TheVariants.{Live}
use Rattle.hb_relay.specs.Reaches.{IsInner, Reaches}
use Rattle.hb_relay.specs.Shows.{Shows, captured_of}

-- one whose upstream isn't open, as one that lives
abbrev pub LivesEarly : Type 0
LivesEarly = (k : Relay) (x : Captured) → k.stage ≡ Live → x.stage ≡ opening → Shows k x → ⊥

-- one that keeps other bytes
abbrev pub DropsBytes : Type 0
DropsBytes = (k : Relay) (x : Captured) → k.ways.ways ≢ x.ways → Shows k x → ⊥

-- one that is done, on no stream, and goes on
abbrev pub GoesOnDone : Type 0
GoesOnDone = (k : Relay) (x : Captured) → x.stage ≡ live → is_raw x ≡ true → is_through x ≡ true → Shows k x → ⊥

-- one whose opening, or whose end, is still to be noted
abbrev pub NotesLater : Type 0
NotesLater = (k : Relay) (x : Captured) → x.stage ≡ accepting → Shows k x → ⊥

abbrev pub FailsLater : Type 0
FailsLater = (k : Relay) (x : Captured) (why : Cause) → x.stage ≡ failed why → Shows k x → ⊥

-- the end of one that lived isn't told
abbrev pub EndsUntold : Type 0
EndsUntold = (l : ℕ) (held : Resources) (x : Captured) (k : Relay) (why : Cause) (before behind : Routing) → x.stage ≡ live
    → Reaches IsInner l before (record { held = held; link = ends_for why x }) k behind None → ⊥

-- one that was taken in just now is shown by one without bytes
abbrev pub NewIsShown : Type 0
NewIsShown = (k : Relay) → captured_of k ≡ at_stage fronting no_link → Shows k (at_stage fronting no_link)
