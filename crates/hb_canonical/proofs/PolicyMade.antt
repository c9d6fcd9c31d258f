-- A policy is read from its canonical spelling.
use Rattle.std.proofs.Common.{◌≡◌, ℕ, ◌^◌, ◌<◌, List, length, Ok, refl, arith}
use Rattle.std.specs.List.{All}
use Rattle.hb_wire.specs.Spelling.{IsOctet}
use Rattle.hb_wire.specs.Writing.{number_of}
use Rattle.hb_records.specs.declared.fault.RecordFault.TheVariants.{Wire}
use Rattle.hb_records.specs.declared.authorization.Reach.{Reach}
use Rattle.hb_records.specs.declared.authorization.Reach.TheVariants.{Global, Namespace, Selector}
use Rattle.hb_records.specs.declared.authorization.Action.{Action}
use Rattle.hb_records.specs.declared.authorization.Action.TheVariants.{Allow, Deny}
use Rattle.hb_records.specs.declared.authorization.Authorization.{Authorization}
use Rattle.hb_records.specs.Rule.{rule_in}
use Rattle.hb_records.specs.Authorization.{authorization_merged, no_authorization, authorization_of}
use Rattle.hb_canonical.specs.Authorization.{rule_of, reach_number, action_number, canonical_authorization}
use Rattle.hb_canonical.proofs.Makes.{Makes, makes_nothing, makes_some, makes_both, made_is_read}
use Rattle.hb_canonical.proofs.Pieces.{makes_text, makes_list}
use Rattle.hb_canonical.proofs.RulesKept.{IsRule}
use Rattle.hb_canonical.proofs.PolicyKept.{IsPolicy, policy_kept}
use Rattle.hb_canonical.proofs.RulesMade.{rule_made}

reach_made : (a : Authorization) (r : Reach)
    → Makes authorization_merged (record a { scope = Global }) (number_of 3 (reach_number r)) (record a { scope = r })
reach_made a Global = makes_nothing authorization_merged (record a { scope = Global })
reach_made a Namespace = makes_some authorization_merged _ (record a { scope = Namespace }) 3 1 refl (omega arith) (omega arith)
    (λ at. refl)
reach_made a Selector = makes_some authorization_merged _ (record a { scope = Selector }) 3 2 refl (omega arith) (omega arith)
    (λ at. refl)

action_made : (a : Authorization) (x : Action)
    → Makes authorization_merged (record a { action = Allow }) (number_of 4 (action_number x)) (record a { action = x })
action_made a Allow = makes_nothing authorization_merged (record a { action = Allow })
action_made a Deny = makes_some authorization_merged _ (record a { action = Deny }) 4 1 refl (omega arith) (omega arith) (λ at. refl)

fields_made : (a : Authorization) → IsPolicy a → Makes authorization_merged no_authorization (canonical_authorization a) a
unfolding canonical_authorization
fields_made a p =
    let a1 : Authorization = record no_authorization { name = a.name } in
    let a2 : Authorization = record a1 { namespace = a.namespace } in
    let a3 : Authorization = record a2 { scope = a.scope } in
    let a4 : Authorization = record a3 { action = a.action } in
    makes_both authorization_merged no_authorization a1 a _ _
    (makes_text authorization_merged (λ t. record no_authorization { name = t }) 1 refl (λ at bytes. refl) a.name p.name)
    (makes_both authorization_merged a1 a2 a _ _
    (makes_text authorization_merged (λ t. record a1 { namespace = t }) 2 refl (λ at bytes. refl) a.namespace p.namespace)
    (makes_both authorization_merged a2 a3 a _ _ (reach_made a2 a.scope)
    (makes_both authorization_merged a3 a4 a _ _ (action_made a3 a.action)
    (makes_list authorization_merged (λ l. record a4 { rules = l }) 5 rule_of IsRule rule_in refl
    (λ done at bytes. refl) rule_made a.rules p.rules))))

-- what octets give is read from its canonical spelling
pub policy_back : (a : Authorization) (bytes : List ℕ) → length (canonical_authorization a) < 2 ^ 64 → All IsOctet bytes
    → authorization_of bytes ≡ Ok a → authorization_of (canonical_authorization a) ≡ Ok a
unfolding authorization_of
policy_back a bytes small octets is =
    made_is_read authorization_merged Wire no_authorization a 0 (canonical_authorization a) small
    (fields_made a (policy_kept bytes a octets is))
