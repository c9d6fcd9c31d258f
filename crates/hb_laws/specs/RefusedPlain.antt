-- Small traces of plain links and of their upstreams that no run leaves, and places that no lawful trace has.
use Rattle.std.specs.FinMap.{len}
use Rattle.std.specs.Prelude.{◌≡◌, ◌≢◌, ◌⊎◌, ℕ, ◌+◌, ◌<◌, Bool, true, false, List, [], ◌∷◌, ◌++◌, length, Some}
use Rattle.hb_base.specs.declared.cause.Cause.{Cause}
use Rattle.hb_base.specs.declared.cause.Cause.TheVariants as cause
use Rattle.hb_base.specs.declared.door.Door.TheVariants as door
use Rattle.hb_base.specs.declared.door.Why.{Why}
use Rattle.hb_base.specs.declared.door.Why.TheVariants as whys
use Rattle.hb_base.specs.declared.target.Target.{Target}
use Rattle.hb_captured.specs.Captured.{judges}
use Rattle.hb_captured.specs.Ends.{GoesOn}
use Rattle.hb_captured.specs.Part as captured
use Rattle.hb_captured.specs.Sides as plain
use Rattle.hb_captured.specs.Sides.{door_of, header_of, judged_in, is_end, was_on_link, was, ends_up, pending, over, course_of}
use Rattle.hb_disco.specs.declared.response.Response.{Response}
use Rattle.hb_front.specs.Reading.{Seen}
use Rattle.hb_held.specs.Outcome.{after_response}
use Rattle.hb_model.specs.Messages.{held}
use Rattle.hb_model.specs.Point as point
use Rattle.hb_model.specs.declared.config.NodeConfig.{NodeConfig}
use Rattle.hb_proxy.specs.Held.{at_start}
use Rattle.hb_proxy.specs.Owners.{owner, plain_link, relay_of, dialled_for}
use Rattle.hb_proxy.specs.Points.{Point, of_control, of_plain, entries, control_of, plain_of}
use Rattle.hb_proxy.specs.Relay.{came_behind, PlainRelaysDown}
use Rattle.hb_table.specs.declared.judgement.Judged.TheVariants.{Admitted}
use Rattle.hb_world.specs.Trace.{recv, sent, lives}
use Rattle.hb_world.specs.declared.entry.Entry.{Entry}
use Rattle.hb_world.specs.declared.entry.Entry.TheVariants as e
use Rattle.hb_laws.specs.Lawful.{Lawful}
use Rattle.hb_laws.specs.Refused.{Refused, dials, fails, waits}
use Rattle.hb_laws.specs.RefusedTunnels.{is_more}

-- link 2 is accepted at the plain door
abbrev pub accepts_plain : Entry
accepts_plain = e.Accepted 2 door.Plain

-- BIRTHS

-- bytes come from an upstream that was never dialled, and go to one
abbrev pub ComesUndialled : Type 0
ComesUndialled = (bytes : List ℕ) → Refused (λ g. dials g ∷ accepts_plain ∷ e.Came 3 bytes ∷ [])

abbrev pub GoesUndialled : Type 0
GoesUndialled = (bytes : List ℕ) → Refused (λ g. dials g ∷ accepts_plain ∷ e.Went 3 bytes ∷ [])

-- an upstream is dialled though no response ever came, whatever came on the link
abbrev pub DialsRelayUntold : Type 0
DialsRelayUntold = (to : Target) (came : List ℕ)
    → Refused (λ g. fails g ∷ e.Accepted 1 door.Plain ∷ e.Came 1 came ∷ e.Dialled 2 to (whys.Plain 1) ∷ [])

-- CLOSES

-- a cause of a call that failed: on the link, on its upstream, or on one to the control plane
abbrev pub is_failure : Cause → Bool
is_failure cause.PeerGone = true
is_failure cause.UpFault = true
is_failure cause.Broken = true
is_failure _ = false

-- no call failed, and for such a cause a healthy link is closed; so is one whose peer ended before its front header was whole; and the run
-- goes on
abbrev pub ClosesHealthyPlain : Type 0
ClosesHealthyPlain = (why : Cause) → is_failure why ≡ true → Refused (λ g. dials g ∷ accepts_plain ∷ e.Closed 2 why ∷ waits ∷ [])

abbrev pub ClosesPlainForSecond : Type 0
ClosesPlainForSecond = (why : Cause) → is_failure why ≡ true
    → Refused (λ g. dials g ∷ accepts_plain ∷ e.Ended 2 ∷ e.Closed 2 why ∷ waits ∷ [])

-- BYTES

-- bytes went to an upstream, and fewer came on its link than these and the 16 octets that each front header has
abbrev pub SendsHeader : Type 0
SendsHeader = (g : NodeConfig) (trace : List Entry) (l u : ℕ) → Lawful g trace → owner u trace ≡ relay_of l → 0 < length (sent u trace)
    → length (recv l trace) < 16 + length (sent u trace) → ⊥

-- bytes go on a link that has no upstream
abbrev pub AnswersItself : Type 0
AnswersItself = (came more : List ℕ) (byte : ℕ)
    → Refused (λ g. dials g ∷ accepts_plain ∷ e.Came 2 came ∷ e.Went 2 (byte ∷ more) ∷ [])

-- PLACES

-- the link n is the plain link l, or its upstream
abbrev pub IsOf : (l n : ℕ) → List Point → Type 0
IsOf l n before = ((n ≡ l) × (owner n (entries before) ≡ plain_link)) ⊎ (owner n (entries before) ≡ relay_of l)

-- bytes go on either of a link whose door judges, and what is held then, by the control plane's responses, doesn't admit the peer of the
-- front header
pub record RelaysDenied (g : NodeConfig) (before : List Point) (z : Entry) : Type 0 where
  pub link : ℕ
  pub on : ℕ
  pub bytes : List ℕ
  pub goes : z ≡ e.Went on bytes
  pub of_it : IsOf link on before
  pub judged : judges (door_of (plain_of link before)) ≡ true
  pub seen : Seen
  pub told : header_of (plain_of link before) ≡ Some seen
  pub denied : judged_in (held g (control_of before)) seen ≢ Admitted

-- they go on either though no workload is held any more, whoever the peer is. `EntryLaw` refuses it
pub record RelaysUnheld (g : NodeConfig) (before : List Point) (z : Entry) : Type 0 where
  pub link : ℕ
  pub on : ℕ
  pub bytes : List ℕ
  pub goes : z ≡ e.Went on bytes
  pub of_it : IsOf link on before
  pub judged : judges (door_of (plain_of link before)) ≡ true
  pub none : len (held g (control_of before)).addresses ≡ 0

-- a byte goes to its upstream, and all that came behind the front header went already; or another one came next. `Relays` refuses both
pub record RelaysUncome (g : NodeConfig) (before : List Point) (z : Entry) : Type 0 where
  pub link : ℕ
  pub up : ℕ
  pub byte : ℕ
  pub more : List ℕ
  pub goes : z ≡ e.Went up (byte ∷ more)
  pub owned : owner up (entries before) ≡ relay_of link
  pub all_went : sent up (entries before) ≡ came_behind before link

pub record ChangesForth (g : NodeConfig) (before : List Point) (z : Entry) : Type 0 where
  pub link : ℕ
  pub up : ℕ
  pub byte : ℕ
  pub other : ℕ
  pub rest : List ℕ
  pub more : List ℕ
  pub goes : z ≡ e.Went up (other ∷ more)
  pub owned : owner up (entries before) ≡ relay_of link
  pub came : came_behind before link ≡ sent up (entries before) ++ byte ∷ rest
  pub differs : byte ≢ other

-- one goes on the link, and all that came from its upstream went already; or another one came next from that. `Relays` refuses both
pub record RelaysBackUncome (g : NodeConfig) (before : List Point) (z : Entry) : Type 0 where
  pub link : ℕ
  pub up : ℕ
  pub byte : ℕ
  pub more : List ℕ
  pub goes : z ≡ e.Went link (byte ∷ more)
  pub owned : owner up (entries before) ≡ relay_of link
  pub all_went : sent link (entries before) ≡ recv up (entries before)

pub record ChangesBack (g : NodeConfig) (before : List Point) (z : Entry) : Type 0 where
  pub link : ℕ
  pub up : ℕ
  pub byte : ℕ
  pub other : ℕ
  pub rest : List ℕ
  pub more : List ℕ
  pub goes : z ≡ e.Went link (other ∷ more)
  pub owned : owner up (entries before) ≡ relay_of link
  pub came : recv up (entries before) ≡ sent link (entries before) ++ byte ∷ rest
  pub differs : byte ≢ other

-- a second upstream is dialled for it, as one of whatever door. `DialsOnce` refuses it
pub record DialsRelayTwice (g : NodeConfig) (before : List Point) (z : Entry) : Type 0 where
  pub link : ℕ
  pub up : ℕ
  pub first : ℕ
  pub target : Target
  pub why : Why
  pub dials : z ≡ e.Dialled up target why
  pub for_it : dialled_for why ≡ relay_of link
  pub owned : owner first (entries before) ≡ relay_of link
  pub differs : first ≢ up

-- another target is dialled for it, as one of the plain door, than the destination that its front header told, or none was told
pub record DialsAside (g : NodeConfig) (before : List Point) (z : Entry) : Type 0 where
  pub link : ℕ
  pub up : ℕ
  pub other : Target
  pub dials : z ≡ e.Dialled up other (whys.Plain link)
  pub untold : (seen : Seen) → header_of (plain_of link before) ≡ Some seen → seen.destination ≢ other

-- its upstream is shut in front of the last byte that came behind the header, or though its peer may send more; and the link is shut in
-- front of the last byte that came from the upstream, or though that may send more
pub record ShutsEarly (g : NodeConfig) (before : List Point) (z : Entry) : Type 0 where
  pub link : ℕ
  pub up : ℕ
  pub shuts : z ≡ e.Shut up
  pub owned : owner up (entries before) ≡ relay_of link
  pub early : (sent up (entries before) ≢ came_behind before link) ⊎ (was_on_link is_end (plain_of link before) ≡ false)

pub record ShutsBackEarly (g : NodeConfig) (before : List Point) (z : Entry) : Type 0 where
  pub link : ℕ
  pub up : ℕ
  pub shuts : z ≡ e.Shut link
  pub owned : owner up (entries before) ≡ relay_of link
  pub early : (sent link (entries before) ≢ recv up (entries before)) ⊎ (was ends_up (plain_of link before) ≡ false)

-- two bytes came from its upstream, and the first one goes on it: the same law lets it
abbrev pub came_back : (first second : ℕ) → List Point
came_back first second =
    of_plain 2 (captured.up (e.Came 3 (first ∷ second ∷ []))) ∷ of_plain 2 (captured.entry (e.Went 2 (first ∷ []))) ∷ []

abbrev pub CameMayGoBack : Type 0
CameMayGoBack = (first second : ℕ) → PlainRelaysDown (came_back first second) 2 3

-- ENDS

-- more comes, on whatever link, and one that ended lives, or its upstream does
pub record KeepsEndedPlain (g : NodeConfig) (before : List Point) (z : Entry) : Type 0 where
  pub link : ℕ
  pub on : ℕ
  pub why : Cause
  pub more : is_more z ≡ true
  pub of_it : IsOf link on before
  pub has_ended : course_of (at_start g) (plain_of link before) ≡ over why
  pub living : lives on (entries before) ≡ true

-- so it is next behind a response that no longer admits the peer of one whose door judges, whose header was whole and that hadn't ended
pub record KeepsRevokedPlain (g : NodeConfig) (before : List Point) (z : Entry) : Type 0 where
  pub front : List Point
  pub control : ℕ
  pub response : Response
  pub before_is : before ≡ front ++ of_control (point.applied control response) ∷ []
  pub link : ℕ
  pub on : ℕ
  pub seen : Seen
  pub more : is_more z ≡ true
  pub of_it : IsOf link on front
  pub judged : judges (door_of (plain_of link front)) ≡ true
  pub goes_on : (course_of (at_start g) (plain_of link front) ≡ pending) ⊎ (course_of (at_start g) (plain_of link front) ≡ plain.lives)
  pub told : header_of (plain_of link front) ≡ Some seen
  pub denied : judged_in (after_response (held g (control_of front)) response) seen ≢ Admitted
  pub living : lives on (entries front) ≡ true

-- one that ended is closed for another cause than the first, or its upstream is; so is one that goes on, for whatever cause
pub record ClosesPlainForAnother (g : NodeConfig) (before : List Point) (z : Entry) : Type 0 where
  pub link : ℕ
  pub on : ℕ
  pub first : Cause
  pub why : Cause
  pub closes : z ≡ e.Closed on why
  pub of_it : IsOf link on before
  pub has_ended : course_of (at_start g) (plain_of link before) ≡ over first
  pub differs : first ≢ why

pub record ClosesLivePlain (g : NodeConfig) (before : List Point) (z : Entry) : Type 0 where
  pub link : ℕ
  pub on : ℕ
  pub why : Cause
  pub closes : z ≡ e.Closed on why
  pub of_it : IsOf link on before
  pub goes_on : GoesOn (course_of (at_start g) (plain_of link before))
