-- Small examples of a line that an audit takes, right and wrong. A sink is what was written to it.
use Rattle.std.specs.Prelude.{◌≡◌, ℕ, false, List, [], ◌∷◌, ◌++◌, codes, Some}
use Rattle.hb_audit.specs.declared.audit.Noted.TheVariants.{Kept, Failed}
use Rattle.hb_line_audit.specs.Lines.{Logging, lost_line, whole_lines, portion}
use Rattle.hb_line_audit.specs.LineAudit.{TakesLine}
use Rattle.hb_line_audit.specs.Notes.{AreLines}

-- a line
abbrev pub a_line : List ℕ
a_line = 97 ∷ 10 ∷ []

-- these octets were written, these wait, and so many lines were lost behind them
abbrev pub at : List ℕ → List ℕ → ℕ → Logging (List ℕ)
at written waits lost = record { sink = written; waits = waits; lost = lost; failed = false }

-- the line is kept where nothing was handed on before, of which so many lines were lost
abbrev pub Keeping : ℕ → Logging (List ℕ) → Type 0
Keeping lost new = TakesLine Some (at [] [] lost) new a_line Kept

-- it waits; it is written; a part of it is, and the rest waits
abbrev pub Waits : Type 0
Waits = Keeping 0 (at [] a_line 0)

abbrev pub IsWritten : Type 0
IsWritten = Keeping 0 (at a_line [] 0)

abbrev pub IsHalfWritten : Type 0
IsHalfWritten = Keeping 0 (at (97 ∷ []) (10 ∷ []) 0)

-- lines that were lost are told in front of it
abbrev pub TellsLost : Type 0
TellsLost = Keeping 2 (at [] (codes "hbone: 2 lines lost\n" ++ a_line) 0)

-- it vanishes; its rest is forgotten; it is written twice; it is lost though there is room; lines that were lost aren't told
abbrev pub Vanishes : Type 0
Vanishes = Keeping 0 (at [] [] 0) → ⊥

abbrev pub LosesItsRest : Type 0
LosesItsRest = Keeping 0 (at (97 ∷ []) [] 0) → ⊥

abbrev pub IsTwice : Type 0
IsTwice = Keeping 0 (at a_line a_line 0) → ⊥

abbrev pub IsLostWithRoom : Type 0
IsLostWithRoom = Keeping 0 (at [] [] 1) → ⊥

abbrev pub HidesLost : Type 0
HidesLost = Keeping 2 (at [] a_line 0) → ⊥

-- an audit fails though no put did
abbrev pub FailsAlone : Type 0
FailsAlone = TakesLine Some (at [] [] 0) (at [] [] 0) a_line Failed → ⊥

-- whole lines: both; the first; none
abbrev pub BothLines : Type 0
BothLines = whole_lines (97 ∷ 10 ∷ 98 ∷ 10 ∷ []) ≡ 4

abbrev pub FirstLine : Type 0
FirstLine = whole_lines (97 ∷ 10 ∷ 98 ∷ []) ≡ 2

abbrev pub NoLine : Type 0
NoLine = whole_lines (97 ∷ 98 ∷ []) ≡ 0

-- what is short goes whole
abbrev pub ShortGoesWhole : Type 0
ShortGoesWhole = portion (97 ∷ 10 ∷ 98 ∷ []) ≡ 3

-- SEVERAL LINES

-- another line
abbrev pub another : List ℕ
another = 98 ∷ 10 ∷ []

abbrev pub AreBoth : ℕ → List ℕ → ℕ → Type 0
AreBoth lost text now = AreLines (a_line ∷ another ∷ []) lost text now

-- both stand there; the first one is lost, and told
abbrev pub LinesAreWhole : Type 0
LinesAreWhole = AreBoth 0 (a_line ++ another) 0

abbrev pub LineIsLost : Type 0
LineIsLost = AreBoth 0 (lost_line 1 ++ another) 0

-- the first one is missing, and none is counted; they change places; the last one is cut; one that was lost isn't told
abbrev pub LineIsMissing : Type 0
LineIsMissing = AreBoth 0 another 0 → ⊥

abbrev pub LinesChangePlaces : Type 0
LinesChangePlaces = AreBoth 0 (another ++ a_line) 0 → ⊥

abbrev pub LineIsCut : Type 0
LineIsCut = AreBoth 0 a_line 0 → ⊥

abbrev pub LostIsHidden : Type 0
LostIsHidden = AreBoth 1 (a_line ++ another) 0 → ⊥
