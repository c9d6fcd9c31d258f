-- A script's line as text: compact JSON, its keys in byte order, its bytes in lower-case hex digits.
use Rattle.std.specs.Prelude.{◌≡◌, ◌<◌, ◌≤◌, ◌^◌, ℕ, List, [], ◌∷◌, ◌++◌, length, Ok, codes, decimal}
use Rattle.std.specs.List.{All, flat_map}
use Rattle.hb_base.specs.declared.door.Door.{Door}
use Rattle.hb_base.specs.declared.door.Door.TheVariants.{Inbound, Outbound, Plain}
use Rattle.hb_world.specs.declared.line.Line.{Line}
use Rattle.hb_world.specs.declared.line.Line.TheVariants.{Accept, Open, Refuse, Piece, End, Break, Room, NoDial, Wake, Tick, Stop, FaultWait, FaultListen}
use Rattle.hex.specs.Hex.{encode_lower, IsBytes}
use Rattle.hb_script.specs.Form.{line_of}
use Rattle.hb_script.specs.Script.{lines}

-- the word of a door
abbrev pub door_word : Door → List ℕ
door_word Inbound = codes "inbound"
door_word Outbound = codes "outbound"
door_word Plain = codes "plain"

-- the text of a line, without a newline
abbrev pub line_text : Line → List ℕ
line_text (Accept door) = codes "{\"accept\":\"" ++ door_word door ++ codes "\"}"
line_text (Open link) = codes "{\"open\":" ++ decimal link ++ codes "}"
line_text (Refuse link) = codes "{\"refuse\":" ++ decimal link ++ codes "}"
line_text (Piece link bytes) =
    codes "{\"bytes\":\"" ++ encode_lower bytes ++ codes "\",\"link\":" ++ decimal link ++ codes "}"
line_text (End link) = codes "{\"end\":" ++ decimal link ++ codes "}"
line_text (Break link) = codes "{\"break\":" ++ decimal link ++ codes "}"
line_text (Room link room) = codes "{\"link\":" ++ decimal link ++ codes ",\"room\":" ++ decimal room ++ codes "}"
line_text (NoDial dials) = codes "{\"nodial\":" ++ decimal dials ++ codes "}"
line_text Wake = codes "{\"wake\":true}"
line_text Tick = codes "{\"tick\":true}"
line_text Stop = codes "{\"stop\":true}"
line_text FaultWait = codes "{\"fault\":\"wait\"}"
line_text FaultListen = codes "{\"fault\":\"listen\"}"

-- the number of a link, 1 to 9,223,372,036,854,775,807
abbrev pub IsLink : ℕ → Type 0
IsLink n = (1 ≤ n) × (n < 2 ^ 63)

-- a line that a text can give: its numbers are in range, and its piece isn't empty
abbrev pub CanBeRead : Line → Type 0
CanBeRead (Accept door) = Unit {0}
CanBeRead (Open link) = IsLink link
CanBeRead (Refuse link) = IsLink link
CanBeRead (Piece link bytes) = IsLink link × (0 < length bytes) × IsBytes bytes
CanBeRead (End link) = IsLink link
CanBeRead (Break link) = IsLink link
CanBeRead (Room link room) = IsLink link × (room < 2 ^ 63)
CanBeRead (NoDial dials) = dials < 2 ^ 63
CanBeRead Wake = Unit {0}
CanBeRead Tick = Unit {0}
CanBeRead Stop = Unit {0}
CanBeRead FaultWait = Unit {0}
CanBeRead FaultListen = Unit {0}

-- the text of lines, each with a newline behind it
abbrev pub lines_text : List Line → List ℕ
lines_text written = flat_map (λ line. line_text line ++ 10 ∷ []) written

-- the line that a row gives is one that can be read
abbrev pub GivesReadableLines : Type 0
GivesReadableLines = (row : List ℕ) (line : Line) → line_of row ≡ Ok line → CanBeRead line

-- the text of lines that can be read is read as these lines
abbrev pub ReadsWrittenLines : Type 0
ReadsWrittenLines = (written : List Line) → All CanBeRead written → lines (lines_text written) ≡ Ok written
