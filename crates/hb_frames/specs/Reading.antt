use Rattle.std.specs.Prelude.{◌≡◌, ℕ, ◌+◌, ◌-◌, ◌≤◌, min, List, [], ◌++◌, length, take, drop, slice_index, nat_lt, if◌then◌else◌}
use Rattle.std.specs.Prelude.{Option, Some, None, Result, Ok, Err}
use Rattle.hb_frames.specs.RawFrame.{Spells, raw_at, size_at}
use Rattle.hb_frames.specs.Numbers.{frame_size_error}
use Rattle.hb_frames.specs.Refusals.{first_refusal}
use Rattle.hb_frames.specs.Shapes.{IsShaped}
use Rattle.hb_frames.specs.Bodies.{IsFrame, lent_of}
use Rattle.hb_base.specs.declared.scope.Scope.TheVariants.{Connection}
use Rattle.hb_frames.specs.declared.refusal.Refusal.{Refusal}
use Rattle.hb_frames.specs.declared.fault.FrameFault.{FrameFault}
use Rattle.hb_frames.specs.declared.frame.Frame.{Frame}

-- a frame of n octets where no row refuses it
abbrev pub unless_refused : Option Refusal → ℕ → Result (Option ℕ) Refusal
unless_refused None n = Ok (Some n)
unless_refused (Some r) n = Err r

-- row 2: a length above the maximum, which nine octets tell (RFC 9113 section 4.2)
abbrev pub too_long : Refusal
too_long = record { code = frame_size_error; row = 2 }

-- what the bytes begin with: the octets of a frame, no whole frame yet, or what no reader of this maximum takes
abbrev pub first_of : ℕ → List ℕ → Result (Option ℕ) Refusal
first_of max bytes =
    if nat_lt (length bytes) 9 then Ok None
    else if nat_lt max (size_at bytes) then Err too_long
    else if nat_lt (length bytes) (9 + size_at bytes) then Ok None
    else unless_refused (first_refusal (raw_at bytes)) (9 + size_at bytes)

-- a frame of n octets stands in front
pub record StandsInFront (bytes : List ℕ) (n : ℕ) : Type 0 where
  pub size : n ≡ 9 + size_at bytes
  pub whole : n ≤ length bytes
  pub shaped : IsShaped (raw_at bytes)

-- the first n octets spell a frame, which isn't longer than the maximum and which no row refuses
pub record IsFirst (max : ℕ) (bytes : List ℕ) (n : ℕ) : Type 0 where
  pub spells : Spells (raw_at bytes) (take n bytes)
  pub within : length (raw_at bytes).payload ≤ max
  pub accepted : first_refusal (raw_at bytes) ≡ None

-- what a reader stands for: the longest payload that it takes, the bytes fed and not yet given as frames, the
-- offset of the first of them in all bytes fed, and the bytes of the last body
pub record Reading : Type 0 where
  pub max : ℕ
  pub held : List ℕ
  pub at : ℕ
  pub last : List ℕ

-- how many bytes more can be fed: a whole frame of the longest payload has room
abbrev pub space_of : Reading → ℕ
space_of r = r.max + 9 - length r.held

-- after these bytes were fed
abbrev pub fed : Reading → List ℕ → Reading
fed r piece = record r { held = r.held ++ take (min (length piece) (space_of r)) piece; last = [] }

-- an offset, which stays at the end of its type
abbrev pub offset_after : ℕ → ℕ → ℕ
offset_after at n = min (at + n) 18446744073709551615

-- after the frame in front was asked for
abbrev pub after_frame : Reading → Result (Option ℕ) Refusal → Reading
after_frame r (Ok (Some n)) = record r { held = drop n r.held; at = offset_after r.at n; last = lent_of (raw_at r.held) }
after_frame r (Ok None) = record r { last = [] }
after_frame r (Err _) = record r { last = [] }

abbrev pub asked : Reading → Reading
asked r = after_frame r (first_of r.max r.held)

-- the fault of a refused frame in front, which is always the connection's
abbrev pub fault_of : Reading → Refusal → FrameFault
fault_of r refusal = record {
  code = refusal.code;
  scope = Connection;
  at = r.at;
  row = refusal.row;
  kind = slice_index r.held 3;
  flags = slice_index r.held 4;
}

-- a frame that is spelled in front
abbrev pub GivesFirst : Reading → Frame → Type 0
GivesFirst r frame = (n : ℕ) × IsFirst r.max r.held n × IsFrame (raw_at r.held) frame

-- the frame that is given has as many octets as first_of says, nine or more, and they spell it
abbrev pub HasSize : Reading → Frame → Type 0
HasSize r frame = (n : ℕ) × (first_of r.max r.held ≡ Ok (Some n)) × (9 ≤ n) × IsFirst r.max r.held n × IsFrame (raw_at r.held) frame

-- the frame in front, None exactly where no whole frame and no fault is there, or the fault
abbrev pub Gives : Reading → Result (Option Frame) FrameFault → Type 0
Gives r (Ok None) = first_of r.max r.held ≡ Ok None
Gives r (Ok (Some frame)) = (n : ℕ) × (first_of r.max r.held ≡ Ok (Some n)) × IsFrame (raw_at r.held) frame
Gives r (Err fault) = (refusal : Refusal) × (first_of r.max r.held ≡ Err refusal) × (fault ≡ fault_of r refusal)
