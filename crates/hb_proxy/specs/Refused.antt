-- Small steps that no run of the whole proxy takes, small runs that its laws refuse, and some that may go.
use Rattle.std.specs.Prelude.{◌≡◌, ◌≢◌, ℕ, ◌<◌, Bool, true, false, List, [], ◌∷◌, ◌++◌, length, map}
use Rattle.hb_base.specs.declared.cause.Cause.{Cause}
use Rattle.hb_base.specs.declared.door.Door.TheVariants as door
use Rattle.hb_base.specs.declared.door.Why.TheVariants as whys
use Rattle.hb_base.specs.declared.note.Note.{Note}
use Rattle.hb_base.specs.declared.target.Target.{Target}
use Rattle.hb_captured.specs.Captured as captured_link
use Rattle.hb_captured.specs.Part as captured
use Rattle.hb_captured.specs.Refused as plain
use Rattle.hb_captured.specs.Sides.{judged_in}
use Rattle.hb_disco.specs.declared.response.Response.{Response}
use Rattle.hb_front.specs.Reading.{Seen}
use Rattle.hb_held.specs.Outcome.{after_response}
use Rattle.hb_hpack.specs.declared.header.HeaderList.{HeaderList}
use Rattle.hb_inbound.specs.Inbound.{unborn, closing, rejudged}
use Rattle.hb_inbound.specs.Part as part
use Rattle.hb_inbound.specs.RefusedRuns.{IsRevoked, StaysIn}
use Rattle.hb_inbound.specs.Tunnel.{requested}
use Rattle.hb_model.specs.Point as point
use Rattle.hb_model.specs.declared.config.NodeConfig.{NodeConfig}
use Rattle.hb_table.specs.declared.judgement.Judged.TheVariants.{Admitted}
use Rattle.hb_verdict.specs.declared.verdict.Verdict.TheVariants.{Dial}
use Rattle.hb_world.specs.declared.entry.Entry.TheVariants as e
use Rattle.hb_proxy.specs.Access.{AccessLaw, EntryLaw}
use Rattle.hb_proxy.specs.Control.{EntryLaws}
use Rattle.hb_proxy.specs.Dials.{DialLaw}
use Rattle.hb_proxy.specs.Ends.{EndLaw}
use Rattle.hb_proxy.specs.Held.{at_start}
use Rattle.hb_proxy.specs.Load.{most_links, most_tunnels}
use Rattle.hb_proxy.specs.Machine.{Machine}
use Rattle.hb_proxy.specs.Owners.{OwnLaw, NumberLaw, UpstreamLaw}
use Rattle.hb_proxy.specs.Points.{Point, of_control, of_link, of_plain, entries}
use Rattle.hb_proxy.specs.Relay.{RelayLaw}
use Rattle.hb_proxy.specs.Runs.{Steps, StandsFor}

-- AN ENTRY ON A LINK THAT NOBODY BORE

-- bytes come on a link that wasn't accepted; on one that wasn't dialled; a link to the control plane is read as an inbound one
abbrev pub ComesUnborn : Type 0
ComesUnborn = (g : NodeConfig) (x y : Machine) (l : ℕ) (bytes : List ℕ)
    → (x.inbound l).phase ≡ unborn → Steps g x (of_link l (part.entry (e.Came l bytes))) y → ⊥

abbrev pub ReadsUnborn : Type 0
ReadsUnborn = (bytes : List ℕ) → OwnLaw (of_control (point.entry (e.Came 1 bytes)) ∷ []) → ⊥

abbrev pub ReadsAnothers : Type 0
ReadsAnothers = (to : Target) (bytes : List ℕ)
    → OwnLaw (of_control (point.entry (e.Dialled 1 to whys.Discovery)) ∷ of_link 1 (part.entry (e.Came 1 bytes)) ∷ []) → ⊥

-- A NUMBER BORN TWICE

abbrev pub BornTwice : Type 0
BornTwice = (to : Target) → NumberLaw (e.Dialled 1 to whys.Discovery ∷ e.Accepted 1 door.Inbound ∷ []) → ⊥

abbrev pub BornAgain : Type 0
BornAgain = (g : NodeConfig) (x y : Machine) (l : ℕ) (to : Target)
    → l ≡ x.born → Steps g x (of_control (point.entry (e.Dialled l to whys.Discovery))) y → ⊥

-- AN UPDATE THAT ONE LINK SEES AND ANOTHER DOESN'T

-- no link has an update for itself; each one sees each response that is applied
abbrev pub SeesAlone : Type 0
SeesAlone = (g : NodeConfig) (x y : Machine) (l : ℕ) (r : Response) → Steps g x (of_link l (part.applied r)) y → ⊥

abbrev pub SeeAll : Type 0
SeeAll = (g : NodeConfig) (x y : Machine) (k l : ℕ) (r : Response)
    → Steps g x (of_control (point.applied k r)) y → y.inbound l ≡ rejudged (after_response x.control.held r) (x.inbound l)

-- A DIAL THAT IS ANSWERED TO ANOTHER PART

abbrev pub AnswersAnother : Type 0
AnswersAnother = (g : NodeConfig) (x y : Machine) (l s u k : ℕ) (to : Target)
    → k ≢ l → Steps g x (of_link l (part.up s (e.Dialled u to (whys.Upstream k s)))) y → ⊥

abbrev pub AnswersControl : Type 0
AnswersControl = (g : NodeConfig) (x y : Machine) (l s u : ℕ) (to : Target)
    → Steps g x (of_control (point.entry (e.Dialled u to (whys.Upstream l s)))) y → ⊥

abbrev pub DialsTwice : Type 0
DialsTwice = (to : Target)
    → UpstreamLaw (e.Dialled 3 to (whys.Upstream 2 1) ∷ e.Dialled 4 to (whys.Upstream 2 1) ∷ []) → ⊥

-- AN ENTRY IN FRONT OF WHAT IS DUE ELSEWHERE

-- bytes come on a link while another one is to be closed; an upstream is dialled while a dial of the control plane is due; a link is
-- accepted behind the end of the run
abbrev pub ComesWhileDue : Type 0
ComesWhileDue = (g : NodeConfig) (x y : Machine) (l k : ℕ) (why : Cause) (bytes : List ℕ)
    → k ≢ l → (x.inbound k).phase ≡ closing why → Steps g x (of_link l (part.entry (e.Came l bytes))) y → ⊥

abbrev pub DialsWhileDue : Type 0
DialsWhileDue = (g : NodeConfig) (x y : Machine) (l s u : ℕ) (to : Target)
    → x.control.dials ≡ true → Steps g x (of_link l (part.up s (e.Dialled u to (whys.Upstream l s)))) y → ⊥

-- the run is stopped while a request waits for its answer
abbrev pub StopsUnanswered : Type 0
StopsUnanswered = (g : NodeConfig) (x y : Machine) (l s : ℕ) (why : Cause) (headers : HeaderList) (end : Bool)
    → ((x.inbound l).tunnels s).stage ≡ requested headers end → Steps g x (of_control (point.stopped why)) y → ⊥

abbrev pub AcceptsBehindEnd : Type 0
AcceptsBehindEnd = (g : NodeConfig) (x y : Machine) (l : ℕ)
    → x.control.over ≡ true → Steps g x (of_link l (part.entry (e.Accepted l door.Inbound))) y → ⊥

-- A BYTE BEHIND AN UPDATE

-- the control plane is link 1; a tunnel on stream 1 of the inbound link 2 lives, its upstream is link 3; and a response is applied
abbrev pub lived : Target → Seen → Target → Note → Response → List Point
lived to seen target note r =
    of_control (point.entry (e.Dialled 1 to whys.Discovery)) ∷ of_link 2 (part.entry (e.Accepted 2 door.Inbound))
    ∷ of_link 2 (part.fronted seen) ∷ of_link 2 (part.decided 1 false (Dial target))
    ∷ of_link 2 (part.up 1 (e.Dialled 3 target (whys.Upstream 2 1))) ∷ of_link 2 (part.up 1 (e.Opened 3))
    ∷ of_link 2 (part.accepted 1 note) ∷ of_control (point.applied 1 r) ∷ []

-- a byte goes to the upstream where that no longer admits the peer; where it does, it may
abbrev pub WritesBehind : Type 0
WritesBehind = (g : NodeConfig) (to : Target) (seen : Seen) (target : Target) (note : Note) (r : Response) (bytes : List ℕ)
    → IsRevoked (at_start g) seen target r
    → AccessLaw g (lived to seen target note r ++ of_link 2 (part.up 1 (e.Went 3 bytes)) ∷ []) → ⊥

abbrev pub GoesOnAdmitted : Type 0
GoesOnAdmitted = (g : NodeConfig) (to : Target) (seen : Seen) (target : Target) (note : Note) (r : Response) (bytes : List ℕ)
    → StaysIn (at_start g) seen target r
    → AccessLaw g (lived to seen target note r ++ of_link 2 (part.up 1 (e.Went 3 bytes)) ∷ [])

-- while the upstream of that tunnel isn't closed, bytes come on another link, or a tick
abbrev pub ReadsBehind : Type 0
ReadsBehind = (g : NodeConfig) (to : Target) (seen : Seen) (target : Target) (note : Note) (r : Response) (bytes : List ℕ)
    → IsRevoked (at_start g) seen target r → EndLaw g (lived to seen target note r ++ of_link 4 (part.entry (e.Came 4 bytes)) ∷ []) → ⊥

abbrev pub TicksBehind : Type 0
TicksBehind = (g : NodeConfig) (to : Target) (seen : Seen) (target : Target) (note : Note) (r : Response)
    → IsRevoked (at_start g) seen target r → EndLaw g (lived to seen target note r ++ of_control (point.entry e.Tick) ∷ []) → ⊥

-- a byte goes to the upstream that didn't come on the stream
abbrev pub InventsByte : Type 0
InventsByte = (to : Target) (seen : Seen) (target : Target) (note : Note) (r : Response) (byte : ℕ)
    → RelayLaw (lived to seen target note r ++ of_link 2 (part.up 1 (e.Went 3 (byte ∷ []))) ∷ []) → ⊥

-- THE PLAIN DOOR

-- bytes come on a plain link that wasn't accepted
abbrev pub PlainComesUnborn : Type 0
PlainComesUnborn = (g : NodeConfig) (x y : Machine) (l : ℕ) (bytes : List ℕ)
    → (x.plain l).stage ≡ captured_link.unborn → Steps g x (of_plain l (captured.entry (e.Came l bytes))) y → ⊥

abbrev pub PlainReadsUnborn : Type 0
PlainReadsUnborn = (bytes : List ℕ) → OwnLaw (of_plain 1 (captured.entry (e.Came 1 bytes)) ∷ []) → ⊥

-- the upstream of a plain link is read as a plain link
abbrev pub PlainReadsUpstream : Type 0
PlainReadsUpstream = (to : Target) (bytes : List ℕ)
    → OwnLaw (of_plain 1 (captured.entry (e.Accepted 1 door.Plain)) ∷ of_plain 1 (captured.up (e.Dialled 2 to (whys.Plain 1)))
    ∷ of_plain 2 (captured.entry (e.Came 2 bytes)) ∷ []) → ⊥

-- one is accepted behind the end of the run
abbrev pub PlainBehindEnd : Type 0
PlainBehindEnd = (g : NodeConfig) (x y : Machine) (l : ℕ)
    → x.control.over ≡ true → Steps g x (of_plain l (captured.entry (e.Accepted l door.Plain))) y → ⊥

-- two upstreams are dialled for one
abbrev pub PlainDialsTwice : Type 0
PlainDialsTwice = (to : Target) → UpstreamLaw (e.Dialled 3 to (whys.Plain 2) ∷ e.Dialled 4 to (whys.Plain 2) ∷ []) → ⊥

-- the control plane is link 1; the plain link 2 lives, of which these bytes came, its upstream is link 3
abbrev pub plain_lived : Target → List ℕ → Seen → Note → List Point
plain_lived to bytes seen note =
    of_control (point.entry (e.Dialled 1 to whys.Discovery)) ∷ map (of_plain 2) (plain.lived bytes seen note)

-- behind an update that no longer admits its peer a byte goes to the upstream: by its part, and by the link that the entry stands on
abbrev pub plain_updated : Target → List ℕ → Seen → Note → Response → List Point
plain_updated to bytes seen note r = plain_lived to bytes seen note ++ of_control (point.applied 1 r) ∷ []

abbrev pub PlainWritesBehind : Type 0
PlainWritesBehind = (g : NodeConfig) (to : Target) (bytes : List ℕ) (seen : Seen) (note : Note) (r : Response) (byte : ℕ)
    → plain.IsRevoked (at_start g) seen r
    → AccessLaw g (plain_updated to bytes seen note r ++ of_plain 2 (captured.up (e.Went 3 (byte ∷ []))) ∷ []) → ⊥

abbrev pub PlainEntryBehind : Type 0
PlainEntryBehind = (g : NodeConfig) (to : Target) (bytes : List ℕ) (seen : Seen) (note : Note) (r : Response) (byte : ℕ)
    → plain.IsRevoked (at_start g) seen r
    → EntryLaw g (plain_updated to bytes seen note r ++ of_plain 2 (captured.up (e.Went 3 (byte ∷ []))) ∷ []) → ⊥

-- behind one that still admits it bytes may go
abbrev pub PlainGoesOn : Type 0
PlainGoesOn = (g : NodeConfig) (to : Target) (bytes : List ℕ) (seen : Seen) (note : Note) (r : Response) (more : List ℕ)
    → judged_in (after_response (at_start g) r) seen ≡ Admitted
    → AccessLaw g (plain_updated to bytes seen note r ++ of_plain 2 (captured.up (e.Went 3 more)) ∷ [])

-- a byte goes to the upstream though none came behind the front header
abbrev pub PlainInventsByte : Type 0
PlainInventsByte = (to : Target) (header : List ℕ) (seen : Seen) (note : Note) (byte : ℕ) → length header ≡ seen.length
    → RelayLaw (plain_lived to header seen note ++ of_plain 2 (captured.up (e.Went 3 (byte ∷ []))) ∷ []) → ⊥

-- bytes come on another link while the plain link, which ended, isn't closed
abbrev pub PlainReadsBehind : Type 0
PlainReadsBehind = (g : NodeConfig) (to : Target) (bytes : List ℕ) (seen : Seen) (note : Note) (more : List ℕ)
    → EndLaw g (plain_lived to bytes seen note ++ of_plain 2 (captured.up (e.Broke 3)) ∷ of_link 4 (part.entry (e.Came 4 more)) ∷ [])
    → ⊥

-- A DIAL THAT IS DUE, AND AN END

-- a link is accepted before the control plane is dialled
abbrev pub AcceptsFirst : Type 0
AcceptsFirst = (g : NodeConfig) → DialLaw g (of_link 1 (part.entry (e.Accepted 1 door.Inbound)) ∷ []) → ⊥

-- an inbound link is read while a link to the control plane that ended isn't closed
abbrev pub ReadsEnded : Type 0
ReadsEnded = (to : Target) (bytes : List ℕ)
    → EntryLaws (of_control (point.entry (e.Dialled 1 to whys.Discovery)) ∷ of_link 2 (part.entry (e.Accepted 2 door.Inbound))
    ∷ of_control (point.entry (e.Ended 1)) ∷ of_link 2 (part.entry (e.Came 2 bytes)) ∷ []) → ⊥

-- A RUN

-- the control plane is dialled, and a link is accepted and taken in
abbrev pub begun : Target → List Point
begun to =
    of_control (point.entry (e.Dialled 1 to whys.Discovery)) ∷ of_link 2 (part.entry (e.Accepted 2 door.Inbound))
    ∷ of_link 2 part.welcomed ∷ []

abbrev pub RunMayGo : Type 0
RunMayGo = (g : NodeConfig) → 0 < most_links g → (x : Machine) × StandsFor g x (begun g.discovery)

-- or one at the plain door
abbrev pub plain_begun : Target → List Point
plain_begun to =
    of_control (point.entry (e.Dialled 1 to whys.Discovery)) ∷ of_plain 2 (captured.entry (e.Accepted 2 door.Plain))
    ∷ of_plain 2 captured.welcomed ∷ []

abbrev pub PlainRunMayGo : Type 0
PlainRunMayGo = (g : NodeConfig) → 0 < most_tunnels g → (x : Machine) × StandsFor g x (plain_begun g.discovery)

-- so the laws let it
abbrev pub IsLawful : NodeConfig → List Point → Type 0
IsLawful g points =
    OwnLaw points × NumberLaw (entries points) × DialLaw g points × EndLaw g points × AccessLaw g points × RelayLaw points
    × EntryLaws points

abbrev pub RunIsLawful : Type 0
RunIsLawful = (g : NodeConfig) → 0 < most_links g → 0 < most_tunnels g
    → IsLawful g (begun g.discovery) × IsLawful g (plain_begun g.discovery)
