-- SETTINGS (RFC 9113 sections 6.5 and 6.9.2).
use Rattle.std.specs.Prelude.{◌≡◌, ◌⊎◌, ℕ, ◌≤◌, ◌<◌, ◌==◌, ◌&&◌, Bool, true, false, if◌then◌else◌, List, [], ◌∷◌, Ok, Err}
use Rattle.std.specs.List.{list_any}
use Rattle.hb_frames.specs.Numbers.{enable_push, max_concurrent_streams, initial_window_size, max_frame_size}
use Rattle.hb_frames.specs.Numbers.{protocol_error, flow_control_error, largest}
use Rattle.hb_windows.specs.declared.overrun.Overrun.{Overrun}
use Rattle.hb_frames.specs.Refusals.{settings}
use Rattle.hb_streams.specs.declared.role.Role.{Role}
use Rattle.hb_streams.specs.declared.role.Role.TheVariants.{Server, Client}
use Rattle.hb_flow.specs.Sizes.{Resizes, resized}
use Rattle.hb_conn.specs.Frames.{sent, settings_ack}
use Rattle.hb_conn.specs.Faults.{faulted}
use Rattle.hb_conn.specs.Windows.{unbegun}
use Rattle.hb_conn.specs.Outcome.{Outcome, outcome, Gives}
use Rattle.hb_conn.specs.declared.machine.Core.{Core}
use Rattle.hb_conn.specs.declared.found.Found.{Found}
use Rattle.hb_conn.specs.declared.found.Found.TheVariants.{Silent}

-- a setting that lets a client push
abbrev pub is_push : ℕ × ℕ → Bool
is_push s = s.0 == enable_push && s.1 == 1

-- row 11: a server sends it
abbrev pub allows_push : Role → List (ℕ × ℕ) → Bool
allows_push Server pairs = false
allows_push Client pairs = list_any is_push pairs

-- what is kept of a setting other than the initial size of windows: of most nothing
abbrev pub noted : Core → ℕ × ℕ → Core
noted c s =
    if s.0 == max_concurrent_streams then record c { peer = record c.peer { streams = s.1 } }
    else if s.0 == max_frame_size then record c { peer = record c.peer { frame_size = s.1 } }
    else c

-- Windows of streams begin with the size k from now on. Row 12: that is too large, or the window of a stream would be;
-- DATA that hasn't begun counts as not spent
abbrev pub Resized : Core → ℕ → Core → Bool → Type 0
Resized old k new true =
    (k ≤ largest) × Resizes old.flow new.flow (Ok tt) (resized old.flow k) k (unbegun old).stream (unbegun old).size
    × (new ≡ record old { flow = resized old.flow k })
Resized old k new false =
    ((largest < k) × (new ≡ old))
    ⊎ ((k ≤ largest) × (e : Overrun)
    × Resizes old.flow new.flow (Err e) (resized old.flow k) k (unbegun old).stream (unbegun old).size
    × (new ≡ record old { flow = new.flow }))

abbrev pub AppliesBy : Bool → Core → ℕ × ℕ → Core → Bool → Type 0
AppliesBy true old s new fits = Resized old s.1 new fits
AppliesBy false old s new fits = (new ≡ noted old s) × (fits ≡ true)

-- one setting is applied; it may not fit
abbrev pub Applies : Core → ℕ × ℕ → Core → Bool → Type 0
Applies old s new fits = AppliesBy (s.0 == initial_window_size) old s new fits

abbrev pub Then : Bool → Type 0 → Type 0 → Type 0
Then true next otherwise = next
Then false next otherwise = otherwise

-- the settings are applied one by one, up to the first that doesn't fit
abbrev pub AppliesAll : Core → List (ℕ × ℕ) → Core → Bool → Type 0
AppliesAll old [] new fits = (new ≡ old) × (fits ≡ true)
AppliesAll old (s ∷ more) new fits =
    (mid : Core) × (ok : Bool) × Applies old s mid ok × Then ok (AppliesAll mid more new fits) ((new ≡ mid) × (fits ≡ false))

-- once they are applied they are acknowledged
abbrev pub applied : Core → Bool → Outcome
applied c true = outcome (sent (record c { settled = true }) settings_ack) Silent
applied c false = faulted c flow_control_error

-- row 11 goes before row 12
abbrev pub SettlesBy : Bool → Core → List (ℕ × ℕ) → Core → Found → Type 0
SettlesBy true old pairs new found = Gives (faulted old protocol_error) new found
SettlesBy false old pairs new found =
    (mid : Core) × (fits : Bool) × AppliesAll old pairs mid fits × Gives (applied mid fits) new found

-- an acknowledgement does nothing
abbrev pub DoesSettings : Bool → Core → List ℕ → Core → Found → Type 0
DoesSettings true old payload new found = Gives (outcome old Silent) new found
DoesSettings false old payload new found =
    SettlesBy (allows_push old.streams.role (settings payload)) old (settings payload) new found
