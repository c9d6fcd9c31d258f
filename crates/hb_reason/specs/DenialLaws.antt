-- What a reason says, laws of it, and small lists of policies with reasons, right and wrong.
use Rattle.std.specs.Prelude.{◌≡◌, ◌<◌, ℕ, true, false, ◌&&◌, List, [], ◌∷◌, ◌++◌, filter, length, codes, Some, None}
use Rattle.std.specs.List.{list_any}
use Rattle.hb_audit.specs.Told.{Reason, denied_by, none_allows}
use Rattle.hb_base.specs.declared.cause.Cause.{Cause}
use Rattle.hb_base.specs.declared.note.Note.TheVariants.{Verdict, End}
use Rattle.hb_base.specs.declared.peer.Peer.{Peer}
use Rattle.hb_base.specs.declared.target.Target.{Target}
use Rattle.hb_held.specs.Held.{Resources}
use Rattle.hb_held.specs.Lookup.{known}
use Rattle.hb_held.specs.Policies.{policies_for}
use Rattle.hb_policy.specs.Connection.{Connection}
use Rattle.hb_policy.specs.Policy.{fires, admitted_by}
use Rattle.hb_records.specs.declared.authorization.Action.{Action}
use Rattle.hb_records.specs.declared.authorization.Action.TheVariants.{Allow, Deny}
use Rattle.hb_records.specs.declared.authorization.Authorization.{Authorization}
use Rattle.hb_records.specs.declared.authorization.Reach.TheVariants.{Global}
use Rattle.hb_records.specs.declared.rule.Rule.{Rule}
use Rattle.hb_records.specs.declared.workload.Workload.{Workload}
use Rattle.hb_table.specs.Judgement.{judged}
use Rattle.hb_table.specs.declared.judgement.Judged.TheVariants.{Denied}
use Rattle.hb_reason.specs.Denial.{denies, allows, reason_in, denial, reason_beside}

-- the policy that it names denies and fires, and none in front of it does
pub record IsFirstDenial (c : Connection) (policies : List Authorization) (namespace name : List ℕ) : Type 0 where
  pub front : List Authorization
  pub policy : Authorization
  pub rest : List Authorization
  pub policies_are : policies ≡ front ++ policy ∷ rest
  pub none_before : list_any (denies c) front ≡ false
  pub action : policy.action ≡ Deny
  pub fires : fires c policy ≡ true
  pub namespace_is : policy.namespace ≡ namespace
  pub name_is : policy.name ≡ name

-- none that denies fires, and so many allow, one at least, of which none fires
pub record NoneAllow (c : Connection) (policies : List Authorization) (many : ℕ) : Type 0 where
  pub none_denies : list_any (denies c) policies ≡ false
  pub none_fires : list_any (λ a. allows a && fires c a) policies ≡ false
  pub many_are : length (filter allows policies) ≡ many
  pub some : 0 < many

-- what a reason says of policies
abbrev pub Holds : Connection → List Authorization → Reason → Type 0
Holds c policies (denied_by namespace name) = IsFirstDenial c policies namespace name
Holds c policies (none_allows many) = NoneAllow c policies many

-- where policies don't admit a connection, their reason holds
abbrev pub DenialsHaveReasons : Type 0
DenialsHaveReasons = (c : Connection) (policies : List Authorization) → admitted_by c policies ≡ false
    → Holds c policies (reason_in c policies)

-- and where one holds, they don't
abbrev pub ReasonsDeny : Type 0
ReasonsDeny = (c : Connection) (policies : List Authorization) (r : Reason) → Holds c policies r → admitted_by c policies ≡ false

-- one alone does
abbrev pub OneReasonHolds : Type 0
OneReasonHolds = (c : Connection) (policies : List Authorization) (r : Reason) → Holds c policies r → r ≡ reason_in c policies

-- of the workload that is known at a target, these are its policies
pub record HasReason (h : Resources) (peer : Peer) (target : Target) (r : Reason) : Type 0 where
  pub found : List ℕ × Workload
  pub known_is : known h target.ip ≡ Some found
  pub holds : Holds (record { peer = peer; target = target }) (policies_for h found.1) r

-- a peer is denied exactly where there is a reason, which holds of the policies of the workload at the target
abbrev pub DeniedHaveReasons : Type 0
DeniedHaveReasons = (h : Resources) (peer : Peer) (target : Target) → judged h peer target ≡ Denied
    → (r : Reason) × (denial h peer target ≡ Some r) × HasReason h peer target r

abbrev pub ReasonsAreJudged : Type 0
ReasonsAreJudged = (h : Resources) (peer : Peer) (target : Target) (r : Reason) → denial h peer target ≡ Some r
    → judged h peer target ≡ Denied

-- SMALL LISTS

-- a rule that each connection meets; policies of one namespace that fire for each, and that fire for none
abbrev pub any_rule : Rule
any_rule = record { clauses = [] }

abbrev pub policy : List ℕ → Action → List Rule → Authorization
policy name action rules = record { name = name; namespace = codes "n"; scope = Global; action = action; rules = rules }

abbrev pub firing : List ℕ → Action → Authorization
firing name action = policy name action (any_rule ∷ [])

abbrev pub idle : List ℕ → Action → Authorization
idle name action = policy name action []

abbrev pub a : List ℕ
a = codes "a"

abbrev pub b : List ℕ
b = codes "b"

abbrev pub named : List ℕ → Reason
named name = denied_by (codes "n") name

-- the first that denies and fires is the reason, though one that allows fires; where none does, how many allow
abbrev pub FirstIsTheReason : Type 0
FirstIsTheReason = (c : Connection)
    → reason_in c (idle (codes "0") Deny ∷ firing (codes "1") Allow ∷ firing a Deny ∷ firing b Deny ∷ []) ≡ named a

abbrev pub NoneIsTheReason : Type 0
NoneIsTheReason = (c : Connection) → reason_in c (idle a Deny ∷ idle b Allow ∷ idle a Allow ∷ []) ≡ none_allows 2

-- it names one that doesn't fire; the second of two denials; one that allows, where one denies
abbrev pub NamesIdle : Type 0
NamesIdle = (c : Connection) → Holds c (idle a Deny ∷ firing b Deny ∷ []) (named a) → ⊥

abbrev pub NamesSecond : Type 0
NamesSecond = (c : Connection) → Holds c (firing a Deny ∷ firing b Deny ∷ []) (named b) → ⊥

abbrev pub NamesAllow : Type 0
NamesAllow = (c : Connection) → Holds c (firing a Allow ∷ firing b Deny ∷ []) (named a) → ⊥

-- it says that none denies, where one does; that none allows, where one does; it counts one too few; it says so of no policies
abbrev pub HidesDenial : Type 0
HidesDenial = (c : Connection) → Holds c (firing a Deny ∷ idle b Allow ∷ []) (none_allows 1) → ⊥

abbrev pub HidesAllow : Type 0
HidesAllow = (c : Connection) → Holds c (firing a Allow ∷ []) (none_allows 1) → ⊥

abbrev pub Miscounts : Type 0
Miscounts = (c : Connection) → Holds c (idle a Allow ∷ idle b Allow ∷ []) (none_allows 1) → ⊥

abbrev pub NeedsNone : Type 0
NeedsNone = (c : Connection) → Holds c [] (none_allows 0) → ⊥

-- what is held tells no reason beside the note of an end, of a status that isn't 401, or without a target
abbrev pub BesideEnd : Type 0
BesideEnd = (h : Resources) (link stream up down : ℕ) (cause : Cause) (r : Reason)
    → reason_beside h (End link stream cause up down) ≡ Some r → ⊥

abbrev pub BesideAccepted : Type 0
BesideAccepted = (h : Resources) (link stream : ℕ) (peer : Peer) (target : Target) (r : Reason)
    → reason_beside h (Verdict link stream 200 peer (Some target)) ≡ Some r → ⊥

abbrev pub BesideNoTarget : Type 0
BesideNoTarget = (h : Resources) (link stream status : ℕ) (peer : Peer) (r : Reason)
    → reason_beside h (Verdict link stream status peer None) ≡ Some r → ⊥
