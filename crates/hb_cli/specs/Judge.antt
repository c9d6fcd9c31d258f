-- What `check` and `route` print, by the resources held.
use Rattle.std.specs.Prelude.{ℕ, false, List, [], ◌∷◌, ◌++◌, Option, None, Some, Result, Ok, if◌then◌else◌, codes}
use Rattle.std.specs.FinMap.{empty}
use Rattle.std.specs.List.{flat_map}
use Rattle.hb_held.specs.Held.{Resources}
use Rattle.hb_held.specs.Lookup.{known}
use Rattle.hb_held.specs.Policies.{policies_for}
use Rattle.hb_lines.specs.Explained.{explained_text}
use Rattle.hb_lines.specs.Way.{way_text}
use Rattle.hb_policy.specs.Connection.{Connection}
use Rattle.hb_policy.specs.Policy.{first_rule}
use Rattle.hb_records.specs.declared.authorization.Authorization.{Authorization}
use Rattle.hb_records.specs.declared.workload.Workload.{Workload}
use Rattle.hb_route.specs.Routing.{way}
use Rattle.hb_table.specs.declared.judgement.Judged.{Judged}
use Rattle.hb_table.specs.declared.judgement.Judged.TheVariants.{Admitted, Unknown, Denied}
use Rattle.hb_table.specs.Judgement.{judged}
use Rattle.hb_wire.specs.Message.{and_then}
use Rattle.hb_words.specs.Command.{Question, Route}
use Rattle.hb_cli.specs.declared.input.Refused.{Refused}
use Rattle.hb_cli.specs.Input.{left_by}

-- a line of text
abbrev pub line : List ℕ → List ℕ
line text = text ++ 10 ∷ []

-- the line of an answer
abbrev pub answer_line : Judged → List ℕ
answer_line Admitted = line (codes "allow")
answer_line Denied = line (codes "deny")
answer_line Unknown = line (codes "unknown")

-- the policies that count at a target: those of its workload, where one is known
abbrev pub counting_for : Resources → Option (List ℕ × Workload) → List Authorization
counting_for h None = []
counting_for h (Some e) = policies_for h e.1

abbrev pub counting : Resources → Connection → List Authorization
counting h c = counting_for h (known h c.target.ip)

-- the line of a policy: which of its rules is the first that the connection meets, if it meets one
abbrev pub policy_line : Connection → Authorization → List ℕ
policy_line c a = explained_text a (first_rule c a)

-- the answer, and a line of each policy that counts, by the names of their resources
abbrev pub explained : Resources → Connection → List ℕ
explained h c = answer_line (judged h c.peer c.target) ++ flat_map (policy_line c) (counting h c)

abbrev pub connection : Question → Connection
connection q = record { peer = q.peer; target = q.target }

-- what `check` prints
abbrev pub checked : Question → Resources → List ℕ
checked q h = if q.explain then explained h (connection q) else answer_line (judged h q.peer q.target)

-- what `route` prints: the way that a connection takes where none is open yet
abbrev pub routed : Route → Resources → List ℕ
routed r h = way_text (way h empty r.source r.target r.hbone_port)

-- what they print by the resources that an input leaves, or the first of its messages that is refused
abbrev pub checked_by : Question → List ℕ → Result (List ℕ) Refused
checked_by q input = and_then (left_by false q.network q.node input) (λ l. Ok (checked q l.held))

abbrev pub routed_by : Route → List ℕ → Result (List ℕ) Refused
routed_by r input = and_then (left_by false r.network r.node input) (λ l. Ok (routed r l.held))
