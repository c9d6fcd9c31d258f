-- The forms of a script's line: a JSON object (RFC 8259) with exactly the members of one form. The members of an object stand
-- in the byte order of their keys, each key once, as serde_json keeps them.
use Rattle.std.specs.Prelude.{ℕ, ◌^◌, ◌&&◌, nat_le, nat_lt, if◌then◌else◌, List, [], ◌∷◌, Option, Some, None, option_and_then, unwrap_or, false, Result, Ok, Err, codes}
use Rattle.std.specs.Str.{bytes_eq}
use Rattle.hb_base.specs.declared.door.Door.{Door}
use Rattle.hb_base.specs.declared.door.Door.TheVariants.{Inbound, Outbound, Plain}
use Rattle.hb_base.specs.Utf8.{text_of}
use Rattle.hb_world.specs.declared.line.Line.{Line}
use Rattle.hb_world.specs.declared.line.Line.TheVariants.{Accept, Open, Refuse, Piece, End, Break, Room, NoDial, Wake, Tick, Stop, FaultWait, FaultListen}
use Rattle.hex.specs.Hex.{decode_of}
use Rattle.hex.specs.declared.error.FromHexError.{FromHexError}
use Rattle.serde_json.specs.Data.{Data, Members, no_members, member}
use Rattle.serde_json.specs.Find.{as_bool, as_number, as_object, as_str, as_u64}
use Rattle.serde_json.specs.Read.{read}
use Rattle.hb_script.specs.declared.fault.ScriptWhy.{ScriptWhy}
use Rattle.hb_script.specs.declared.fault.ScriptWhy.TheVariants.{NotJson, NotObject, BadKeys, BadValue, BadHex}

abbrev pub and_then : {A B : Type 0} → Result A ScriptWhy → (A → Result B ScriptWhy) → Result B ScriptWhy
and_then (Ok x) f = f x
and_then (Err why) f = Err why

abbrev pub within : ℕ → Option ℕ → Result ℕ ScriptWhy
within least None = Err BadValue
within least (Some n) = if nat_le least n && nat_lt n (2 ^ 63) then Ok n else Err BadValue

-- a number in decimal digits alone, from the least to 9,223,372,036,854,775,807
abbrev pub number_from : ℕ → Data → Result ℕ ScriptWhy
number_from least d = within least (option_and_then as_u64 (as_number d))

-- the number of a link
abbrev pub link_of : Data → Result ℕ ScriptWhy
link_of = number_from 1

-- an event that the value `true` alone gives
abbrev pub event : Line → Data → Result Line ScriptWhy
event line d = if unwrap_or (as_bool d) false then Ok line else Err BadValue

abbrev pub door_named : Option (List ℕ) → Result Door ScriptWhy
door_named None = Err BadValue
door_named (Some word) =
    if bytes_eq word (codes "inbound") then Ok Inbound
    else (if bytes_eq word (codes "outbound") then Ok Outbound
    else (if bytes_eq word (codes "plain") then Ok Plain
    else Err BadValue))

abbrev pub fault_named : Option (List ℕ) → Result Line ScriptWhy
fault_named None = Err BadValue
fault_named (Some word) =
    if bytes_eq word (codes "wait") then Ok FaultWait
    else (if bytes_eq word (codes "listen") then Ok FaultListen
    else Err BadValue)

abbrev pub or_bad_hex : Result (List ℕ) FromHexError → Result (List ℕ) ScriptWhy
or_bad_hex (Ok bytes) = Ok bytes
or_bad_hex (Err fault) = Err BadHex

-- bytes, at least one, in hex digits of either case
abbrev pub bytes_spelled : Option (List ℕ) → Result (List ℕ) ScriptWhy
bytes_spelled None = Err BadValue
bytes_spelled (Some []) = Err BadValue
bytes_spelled (Some (digit ∷ more)) = or_bad_hex (decode_of (digit ∷ more))

-- `{"open":N}` and the like: what happens to link N
abbrev pub link_event : List ℕ → Data → Result Line ScriptWhy
link_event key d =
    if bytes_eq key (codes "break") then and_then (link_of d) (λ link. Ok (Break link))
    else (if bytes_eq key (codes "end") then and_then (link_of d) (λ link. Ok (End link))
    else (if bytes_eq key (codes "open") then and_then (link_of d) (λ link. Ok (Open link))
    else (if bytes_eq key (codes "refuse") then and_then (link_of d) (λ link. Ok (Refuse link))
    else Err BadKeys)))

-- the forms of one member
abbrev pub one_member : List ℕ → Data → Result Line ScriptWhy
one_member key d =
    if bytes_eq key (codes "accept") then and_then (door_named (as_str d)) (λ door. Ok (Accept door))
    else (if bytes_eq key (codes "fault") then fault_named (as_str d)
    else (if bytes_eq key (codes "nodial") then and_then (number_from 0 d) (λ dials. Ok (NoDial dials))
    else (if bytes_eq key (codes "stop") then event Stop d
    else (if bytes_eq key (codes "tick") then event Tick d
    else (if bytes_eq key (codes "wake") then event Wake d
    else link_event key d)))))

-- `{"bytes":"HEX","link":N}`: the link is looked at before the digits
abbrev pub piece_of : Data → Data → Result Line ScriptWhy
piece_of digits link =
    and_then (link_of link) (λ n. and_then (bytes_spelled (as_str digits)) (λ bytes. Ok (Piece n bytes)))

-- `{"link":N,"room":K}`
abbrev pub room_of : Data → Data → Result Line ScriptWhy
room_of link room = and_then (link_of link) (λ n. and_then (number_from 0 room) (λ k. Ok (Room n k)))

-- the forms of two members
abbrev pub two_members : List ℕ → Data → List ℕ → Data → Result Line ScriptWhy
two_members first d second e =
    if bytes_eq first (codes "bytes") && bytes_eq second (codes "link") then piece_of d e
    else (if bytes_eq first (codes "link") && bytes_eq second (codes "room") then room_of d e
    else Err BadKeys)

abbrev pub line_of_members : Members → Result Line ScriptWhy
line_of_members no_members = Err BadKeys
line_of_members (member key d no_members) = one_member key d
line_of_members (member first d (member second e no_members)) = two_members first d second e
line_of_members (member first d (member second e (member third f more))) = Err BadKeys

abbrev pub line_of_object : Option Members → Result Line ScriptWhy
line_of_object None = Err NotObject
line_of_object (Some members) = line_of_members members

abbrev pub or_not_json : Option Data → Result Data ScriptWhy
or_not_json None = Err NotJson
or_not_json (Some d) = Ok d

-- the JSON value that a row of the text is: in UTF-8, nested at most 127 deep
abbrev pub value_of : List ℕ → Result Data ScriptWhy
value_of row = or_not_json (option_and_then read (text_of row))

-- the line that a row of the text is: an object of one of the forms
abbrev pub line_of : List ℕ → Result Line ScriptWhy
line_of row = and_then (value_of row) (λ d. line_of_object (as_object d))
