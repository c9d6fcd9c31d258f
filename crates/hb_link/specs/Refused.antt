-- Links that code may not show, and what may not follow by itself, nor may be left untold; a new link may be shown.
use Rattle.std.specs.Prelude.{◌≡◌, ◌≢◌, ℕ, ◌<◌, Bool, true, false, List, [], ◌∷◌, ◌++◌, Some, None}
use Rattle.std.specs.FinMap.{get, empty}
use Rattle.hb_base.specs.declared.cause.Cause.{Cause}
use Rattle.hb_base.specs.declared.note.Note.{Note}
use Rattle.hb_base.specs.declared.note.Note.TheVariants as note
use Rattle.hb_conn.specs.Connection.{fresh_server}
use Rattle.hb_conn.specs.Observed.{count_put}
use Rattle.hb_inbound.specs.Inbound as m
use Rattle.hb_inbound.specs.Inbound.{Inbound, no_link, with_phase}
use Rattle.hb_inbound.specs.Part.{Part, welcomed, decided}
use Rattle.hb_inbound.specs.Runs.{Local}
use Rattle.hb_inbound.specs.Tunnel as t
use Rattle.hb_verdict.specs.declared.verdict.Verdict.{Verdict}
use Rattle.hb_link.specs.declared.link.Link.{Link}
use Rattle.hb_link.specs.declared.phase.Phase.TheVariants.{Fronting}
use Rattle.hb_link.specs.declared.tunnel.Stage.TheVariants.{Live}
use Rattle.hb_link.specs.declared.tunnel.Tunnel.{Tunnel}
use Rattle.hb_link.specs.Counting.{CountsPlaces, uncounted, taking_in}
use Rattle.hb_link.specs.Load.{HasLoad}
use Rattle.hb_link.specs.Noted.{Takes}
use Rattle.hb_link.specs.Observed.{up_on, up_wants_on}
use Rattle.hb_link.specs.Reaches.{Follows, Leads, unguarded}
use Rattle.hb_link.specs.Rousing.{Rouses, Tells, roused_on}
use Rattle.hb_link.specs.Settling.{Agrees, GotAll}
use Rattle.hb_link.specs.Shows.{Shows}

-- the code has no tunnel where the machine's lives, or one that lives where that is to be dialled
abbrev pub KeepsNone : Type 0
KeepsNone = (k : Link) (x : Inbound) (s : ℕ) → get k.tunnels s ≡ None → (x.tunnels s).stage ≡ t.live → Agrees k x → ⊥

abbrev pub LivesEarly : Type 0
LivesEarly = (k : Link) (x : Inbound) (s : ℕ) (old : Tunnel) → get k.tunnels s ≡ Some old → old.stage ≡ Live
    → (x.tunnels s).stage ≡ t.due → Agrees k x → ⊥

-- another connection, while the link serves
abbrev pub HasAnother : Type 0
HasAnother = (k : Link) (x : Inbound) → x.phase ≡ m.serving → x.conn ≢ k.conn → Agrees k x → ⊥

-- bytes of a tunnel that lives could still be put; a tunnel that failed, or ended, hasn't got what it gets
abbrev pub PutsLater : Type 0
PutsLater = (k : Link) (x : Inbound) (s : ℕ) → x.phase ≡ m.serving → (x.tunnels s).stage ≡ t.live
    → 0 < count_put x.conn s (x.tunnels s).ways.down.held → Shows k x → ⊥

abbrev pub AnswersLater : Type 0
AnswersLater = (k : Link) (x : Inbound) (s : ℕ) (why : Cause) → (x.tunnels s).stage ≡ t.failed why → Shows k x → ⊥

abbrev pub GetsLater : Type 0
GetsLater = (k : Link) (x : Inbound) (s : ℕ) (why : Cause) → (x.tunnels s).stage ≡ t.ended why → GotAll k x → ⊥

-- a tunnel ended: all get what they get, and no note is told; or that of another one on a higher stream is told first
abbrev pub TellsNone : Type 0
TellsNone = (l : ℕ) (a : Local) (k : Link) (told : List Note) (s : ℕ) (why : Cause) → (a.link.tunnels s).stage ≡ t.ended why
    → Follows unguarded GotAll l a k (Some told) (Some told) → ⊥

abbrev pub TellsHigherFirst : Type 0
TellsHigherFirst = (l : ℕ) (a : Local) (k : Link) (told rest : List Note) (s j : ℕ)
    (why second : Cause) (up down : ℕ) → s < j → (a.link.tunnels s).stage ≡ t.ended why
    → Follows unguarded Agrees l a k (Some told) (Some (told ++ note.End l j second up down ∷ rest)) → ⊥

-- a note is told twice; or one is told behind one that was lost
abbrev pub TellsTwice : Type 0
TellsTwice = (told : List Note) (n : Note) → Takes (Some told) (n ∷ []) (Some (told ++ n ∷ n ∷ [])) → ⊥

abbrev pub TellsBehindLost : Type 0
TellsBehindLost = (more now : List Note) → Takes None more (Some now) → ⊥

-- an upstream that was roused isn't any more, or one of which something may be read, and nothing was before, isn't roused
abbrev pub ForgetsRoused : Type 0
ForgetsRoused = (k n : Link) (s : ℕ) → roused_on k s ≡ true → roused_on n s ≡ false → Rouses k n → ⊥

abbrev pub WakesNone : Type 0
WakesNone = (k n : Link) (s : ℕ) → up_wants_on k s ≡ 0 → up_wants_on n s ≡ 1 → roused_on n s ≡ false → Rouses k n → ⊥

-- none was told, and one that was roused has an upstream
abbrev pub SkipsRoused : Type 0
SkipsRoused = (k n : Link) (s : ℕ) → 0 < up_on k s → roused_on k s ≡ true → Tells None k n → ⊥

-- each is roused
abbrev pub MayRouseAll : Type 0
MayRouseAll = (k n : Link) → ((s : ℕ) → roused_on n s ≡ true) → Rouses k n

-- a link that was taken in just now, of which nothing is known, may be shown by one without bytes and tunnels
abbrev pub NewIsShown : Type 0
NewIsShown = (k : Link) → k.phase ≡ Fronting → k.front ≡ [] → k.conn ≡ fresh_server → k.tunnels ≡ empty
    → Shows k (with_phase m.fronting no_link)

-- a request finds all places taken where one of two is, or finds one where the only one is taken; and it may find the second of two
abbrev pub FindsTaken : Type 0
FindsTaken = (a : Local) (s : ℕ) (answer : Verdict) → HasLoad a.link 1 → CountsPlaces 0 2 a (decided s true answer) → ⊥

abbrev pub FindsLeft : Type 0
FindsLeft = (a : Local) (s : ℕ) (answer : Verdict) → HasLoad a.link 1 → CountsPlaces 0 1 a (decided s false answer) → ⊥

abbrev pub MayFind : Type 0
MayFind = (a : Local) (s : ℕ) (answer : Verdict) → HasLoad a.link 1 → CountsPlaces 0 2 a (decided s false answer)

-- a request is answered, or the link taken in, where nothing is counted; and a request behind the link's birth
abbrev pub AnswersUncounted : Type 0
AnswersUncounted = (l : ℕ) (a b : Local) (s : ℕ) (full : Bool) (answer : Verdict) (parts : List Part)
    → Leads uncounted l a (decided s full answer ∷ parts) b → ⊥

abbrev pub WelcomesUncounted : Type 0
WelcomesUncounted = (l : ℕ) (a b : Local) (parts : List Part) → Leads uncounted l a (welcomed ∷ parts) b → ⊥

abbrev pub AnswersAtBirth : Type 0
AnswersAtBirth = (l : ℕ) (a b : Local) (s : ℕ) (full : Bool) (answer : Verdict) (parts : List Part)
    → Leads taking_in l a (decided s full answer ∷ parts) b → ⊥
