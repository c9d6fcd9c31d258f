-- When and why a link to the control plane is closed.
use Rattle.std.specs.Prelude.{◌≡◌, ◌⊎◌, ℕ, ◌==◌, Bool, true, false, if◌then◌else◌, List, [], ◌∷◌, ◌++◌, Option, Some, None}
use Rattle.hb_base.specs.declared.cause.Cause.{Cause}
use Rattle.hb_base.specs.declared.cause.Cause.TheVariants as cause
use Rattle.hb_world.specs.Trace.{lives}
use Rattle.hb_world.specs.declared.entry.Entry.{Entry}
use Rattle.hb_world.specs.declared.entry.Entry.TheVariants as e
use Rattle.hb_model.specs.Discovery.{end_by, answered_by}
use Rattle.hb_model.specs.Point.{Point, entry, looked, refused, stopped, entries}
use Rattle.hb_world.specs.declared.entry.Way.TheVariants as way
use Rattle.hb_model.specs.Calls.{AtEntry, WasNot, is_went_of, IsControl}

-- why an entry ends a link: its peer sends no more, or a call on it failed
abbrev pub end_by_entry : ℕ → Entry → Option Cause
end_by_entry l (e.Ended k) = if k == l then Some cause.Broken else None
end_by_entry l (e.Broke k) = if k == l then Some cause.Broken else None
end_by_entry l _ = None

-- why a point ends a link, on which a status 200 came before or didn't: such an entry, what is told of its frames, a message
-- that is no response, or the end of the run
abbrev pub end_in : ℕ → Bool → Point → Option Cause
end_in l answered (entry e) = end_by_entry l e
end_in l answered (looked k points told headers) = if k == l then end_by answered headers told else None
end_in l answered (refused k) = if k == l then Some cause.Discovery else None
end_in l answered (stopped cause) = Some cause
end_in l answered _ = None

abbrev pub answered_in : ℕ → Bool → Point → Bool
answered_in l answered (looked k points told headers) = if k == l then answered_by answered headers told else answered
answered_in l answered _ = answered

abbrev pub first_of : Option Cause → Option Cause → Option Cause
first_of None later = later
first_of (Some cause) later = Some cause

-- why the first of some points that ends a link does so
abbrev pub first_end : ℕ → Bool → List Point → Option Cause
first_end l answered [] = None
first_end l answered (p ∷ points) = first_of (end_in l answered p) (first_end l (answered_in l answered p) points)

-- why a link ended, if it did
abbrev pub end_of : ℕ → List Point → Option Cause
end_of l points = first_end l false points

-- no link to the control plane that lives has ended
abbrev pub NoneEnded : List Point → Type 0
NoneEnded points = (l : ℕ) → IsControl l (entries points) → lives l (entries points) ≡ true → end_of l points ≡ None

-- a connection error ended the link, and nothing was written on it since
pub record IsFaultedOn (l : ℕ) (points : List Point) : Type 0 where
  pub before : List Point
  pub p : Point
  pub behind : List Point
  pub code : ℕ
  pub points_are : points ≡ before ++ p ∷ behind
  pub lasted : end_of l before ≡ None
  pub faulted : end_of l (before ++ p ∷ []) ≡ Some (cause.ConnFault code)
  pub unwritten : WasNot (is_went_of l) (entries behind)

-- A link to the control plane is closed exactly for the first cause that ended it. No other entry stands before that, but that
-- of the one write behind a connection error
abbrev pub EndMayStand : List Point → Entry → Type 0
EndMayStand before (e.Closed l cause) =
    IsControl l (entries before) → (lives l (entries before) ≡ true) × (end_of l before ≡ Some cause)
EndMayStand before (e.Went l bytes) = NoneEnded before ⊎ IsFaultedOn l before
EndMayStand before (e.Broke l) = NoneEnded before ⊎ IsFaultedOn l before
EndMayStand before (e.Balked (way.Write l)) = NoneEnded before ⊎ IsFaultedOn l before
EndMayStand before _ = NoneEnded before

abbrev pub EndLaw : List Point → Type 0
EndLaw points = AtEntry EndMayStand points
