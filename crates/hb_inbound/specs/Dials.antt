-- The dials of tunnels: each to the target that its request was answered with, once, and before anything else is read or written.
use Rattle.std.specs.Prelude.{⊤, ◌≡◌, ◌≢◌, ℕ, false, List, [], ◌∷◌, ◌++◌}
use Rattle.hb_base.specs.declared.door.Why.{Why}
use Rattle.hb_base.specs.declared.door.Why.TheVariants as whys
use Rattle.hb_base.specs.declared.target.Target.{Target}
use Rattle.hb_front.specs.Reading.{Seen}
use Rattle.hb_held.specs.Held.{Resources}
use Rattle.hb_verdict.specs.declared.verdict.Verdict.TheVariants.{Dial}
use Rattle.hb_world.specs.declared.entry.Entry.{Entry}
use Rattle.hb_world.specs.declared.entry.Entry.TheVariants as e
use Rattle.hb_inbound.specs.Ends.{pending, life, up_of, WhereQuiet}
use Rattle.hb_inbound.specs.Part.{Part, entry, up, fronted, decided}
use Rattle.hb_inbound.specs.Sides.{AtEach}

-- a pending tunnel of which no upstream was dialled yet is dialled now, to its target, for its stream
pub record IsDial (start : Resources) (before : List Part) (s : ℕ) (to : Target) (why : Why) : Type 0 where
  pub pends : life start s before ≡ pending to
  pub undialled : up_of s before ≡ 0
  pub link : ℕ
  pub why_is : why ≡ whys.Upstream link s

-- the target of each pending tunnel was dialled
abbrev pub AllDialled : Resources → List Part → Type 0
AllDialled start before = (s : ℕ) (to : Target) → life start s before ≡ pending to → up_of s before ≢ 0

-- so it is where something comes or goes on an upstream
abbrev pub UpDials : Resources → List Part → ℕ → Entry → Type 0
UpDials start before s (e.Dialled u to why) = IsDial start before s to why
UpDials start before s (e.DialFailed to why) = IsDial start before s to why
UpDials start before s (e.Shut u) = ⊤
UpDials start before s (e.Closed u why) = ⊤
UpDials start before s _ = AllDialled start before

abbrev pub DialsAt : Resources → List Part → Part → Type 0
DialsAt start before (entry e) = WhereQuiet (AllDialled start before) before e
DialsAt start before (up s e) = UpDials start before s e
DialsAt start before _ = ⊤

abbrev pub DialLaw : Resources → List Part → Type 0
DialLaw start parts = AtEach (DialsAt start) parts

-- EXAMPLES: a request on stream 1 was answered with a dial of this target

abbrev pub asked_for : Seen → Target → List Part
asked_for seen target = fronted seen ∷ decided 1 false (Dial target) ∷ []

-- another target is dialled; the link is read instead; a second upstream is dialled; the dial is made for another stream
abbrev pub DialsElsewhere : Type 0
DialsElsewhere = (start : Resources) (seen : Seen) (target other : Target) → target ≢ other
    → DialLaw start (asked_for seen target ++ up 1 (e.Dialled 3 other (whys.Upstream 2 1)) ∷ []) → ⊥

abbrev pub LeavesOutDial : Type 0
LeavesOutDial = (start : Resources) (seen : Seen) (target : Target) (bytes : List ℕ)
    → DialLaw start (asked_for seen target ++ entry (e.Came 2 bytes) ∷ []) → ⊥

abbrev pub DialsTwice : Type 0
DialsTwice = (start : Resources) (seen : Seen) (target : Target)
    → DialLaw start
    (asked_for seen target ++ up 1 (e.Dialled 3 target (whys.Upstream 2 1)) ∷ up 1 (e.Dialled 4 target (whys.Upstream 2 1)) ∷ [])
    → ⊥

abbrev pub DialsForAnother : Type 0
DialsForAnother = (start : Resources) (seen : Seen) (target : Target)
    → DialLaw start (asked_for seen target ++ up 1 (e.Dialled 3 target (whys.Upstream 2 5)) ∷ []) → ⊥

-- the dial is made, and then the link is read
abbrev pub DialMayGo : Type 0
DialMayGo = (start : Resources) (seen : Seen) (target : Target) (bytes : List ℕ)
    → DialLaw start (asked_for seen target ++ up 1 (e.Dialled 3 target (whys.Upstream 2 1)) ∷ entry (e.Came 2 bytes) ∷ [])
