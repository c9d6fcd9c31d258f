-- Lines that wait until a sink takes them.
use Rattle.std.specs.Prelude.{ℕ, ◌+◌, ◌-◌, ◌==◌, Bool, true, false, not, nat_le, if◌then◌else◌, List, ◌++◌, length, take, codes}
use Rattle.std.specs.Prelude.{decimal, Option, Some, None}
use Rattle.std.specs.Option.{option_map}
use Rattle.std.specs.List.{suffix_len}
use Rattle.hb_base.specs.Count.{one_more}

-- how many octets may wait
abbrev pub room : ℕ
room = 262144

-- the most octets of one put, which a pipe that says that it takes more takes in one piece
abbrev pub most : ℕ
most = 4096

-- what a sink answered that it takes more, where nothing was put since
abbrev pub answered : Bool → Option Bool
answered true = Some true
answered false = None

-- the octets up to the last newline
abbrev pub whole_lines : List ℕ → ℕ
whole_lines octets = length octets - suffix_len (λ b. not (b == 10)) octets

abbrev pub or_most : ℕ → ℕ
or_most n = if n == 0 then most else n

-- how many octets go in one put: all, where they are few; else the whole lines among the most that may go; where none ends there, the most
abbrev pub portion : List ℕ → ℕ
portion octets = if nat_le (length octets) most then length octets else or_most (whole_lines (take most octets))

-- a sink with the octets that wait for it, the lines that were lost behind them, and whether a put failed, behind which nothing is put
pub record Logging (K : Type 0) : Type 0 where
  pub sink : K
  pub waits : List ℕ
  pub lost : ℕ
  pub failed : Bool

-- the line that tells how many lines were lost, where some were
abbrev pub lost_line : ℕ → List ℕ
lost_line lost = if lost == 0 then codes "" else codes "hbone: " ++ decimal lost ++ codes " lines lost\n"

-- whether there is room for a line, behind the one that tells of those that were lost
abbrev pub fits : {K : Type 0} → List ℕ → Logging K → Bool
fits line l = nat_le (length l.waits + (length (lost_line l.lost) + length line)) room

-- a line comes: it waits, behind the one that tells of those that were lost; or it is lost, whole, where there is no room for both
abbrev pub after_line : {K : Type 0} → List ℕ → Logging K → Logging K
after_line line l =
    if fits line l then record l { waits = l.waits ++ (lost_line l.lost ++ line); lost = 0 } else record l { lost = one_more l.lost }

-- all that was handed on and isn't lost, where the sink tells what was written: that, and what waits behind it
abbrev pub handed : {K : Type 0} → (K → Option (List ℕ)) → Logging K → Option (List ℕ)
handed written l = option_map (λ octets. octets ++ l.waits) (written l.sink)
