-- Made scripts can be read back; and the tunnel of `made 1`, right and wrong.
use Rattle.std.specs.Prelude.{◌≡◌, ℕ, ◌+◌, ◌*◌, ◌≤◌, List, [], ◌∷◌, ◌++◌, length, Ok, codes}
use Rattle.hb_base.specs.declared.door.Door.TheVariants.{Inbound}
use Rattle.hb_frames.specs.Numbers.{first_frame_size}
use Rattle.hb_script.specs.Script.{lines}
use Rattle.hb_script.specs.Spelling.{lines_text}
use Rattle.hb_world.specs.declared.line.Line.{Line}
use Rattle.hb_world.specs.declared.line.Line.TheVariants.{Accept, Open, Piece, Wake}
use Rattle.hb_make.specs.Made.{base, opening, tunnels, update, made}

-- the text of a made script is read as its lines
abbrev pub IsReadBack : Type 0
IsReadBack = (n : ℕ) → n ≤ first_frame_size → lines (lines_text (made n)) ≡ Ok (made n)

-- it has ten lines, and nine for each tunnel
abbrev pub HasLines : Type 0
HasLines = (n : ℕ) → length (made n) ≡ 10 + 9 * n

-- a tunnel on these links: what comes first on its link, then what goes up
abbrev pub tunnel_on : ℕ → ℕ → List ℕ → List ℕ → List Line
tunnel_on link upstream first up =
    Accept Inbound ∷ Piece link first ∷ Wake ∷ Open upstream ∷ Wake ∷ Piece link up ∷ Wake
    ∷ Piece upstream (97 ∷ 98 ∷ 99 ∷ []) ∷ Wake ∷ []

-- a DATA frame of stream 1 with the octet 97, and one with two of them
abbrev pub one_mark : List ℕ
one_mark = 0 ∷ 0 ∷ 1 ∷ 0 ∷ 0 ∷ 0 ∷ 0 ∷ 0 ∷ 1 ∷ 97 ∷ []

abbrev pub two_marks : List ℕ
two_marks = 0 ∷ 0 ∷ 2 ∷ 0 ∷ 0 ∷ 0 ∷ 0 ∷ 0 ∷ 1 ∷ 97 ∷ 97 ∷ []

-- the script of one tunnel has this one, on links 2 and 3
abbrev pub IsTheTunnel : List Line → Type 0
IsTheTunnel tunnel = base ++ tunnel ++ update ≡ made 1

abbrev pub OneMarkGoesUp : Type 0
OneMarkGoesUp = IsTheTunnel (tunnel_on 2 3 (opening 1) one_mark)

-- not one of two octets, one on links 1 and 2, one that asks for the port of the second, one without its last wake
abbrev pub TwoMarksGoUp : Type 0
TwoMarksGoUp = IsTheTunnel (tunnel_on 2 3 (opening 1) two_marks) → ⊥

abbrev pub LinksFromOne : Type 0
LinksFromOne = IsTheTunnel (tunnel_on 1 2 (opening 1) one_mark) → ⊥

abbrev pub OtherPort : Type 0
OtherPort = IsTheTunnel (tunnel_on 2 3 (opening 2) one_mark) → ⊥

abbrev pub WithoutWake : Type 0
WithoutWake =
    IsTheTunnel (Accept Inbound ∷ Piece 2 (opening 1) ∷ Wake ∷ Open 3 ∷ Wake ∷ Piece 2 one_mark ∷ Wake ∷ Piece 3 (codes "abc") ∷ []) → ⊥

-- and no script lacks its update
abbrev pub WithoutUpdate : Type 0
WithoutUpdate = (n : ℕ) → base ++ tunnels n ≡ made n → ⊥
