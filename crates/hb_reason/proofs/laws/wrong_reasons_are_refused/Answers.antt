use Rattle.std.proofs.Common.{◌≡◌, ℕ, true, false, List, [], ◌∷◌, ◌++◌, get_or, sym, ap, ◌∙◌, arith}
use Rattle.std.specs.List.{list_any}
use Rattle.hb_policy.specs.Connection.{Connection}
use Rattle.hb_policy.specs.Policy.{fires}
use Rattle.hb_records.specs.declared.authorization.Action.TheVariants.{Allow, Deny}
use Rattle.hb_records.specs.declared.authorization.Authorization.{Authorization}
use Rattle.hb_reason.proofs.Denying.{or_neither}
use Rattle.hb_reason.specs.Denial.{denies}
use Rattle.hb_reason.specs.DenialLaws.{firing, idle, a, b}
use Rattle.hb_reason.proofs.laws.wrong_reasons_are_refused.Goals as goal

-- the first octet; the names are apart
abbrev head : List ℕ → ℕ
head name = get_or name 0 0

apart : b ≡ a → ⊥
apart same = let octets : ◌≡◌ {A = ℕ} 98 97 = ap head same in omega (arith, octets)

-- nothing stands in no list
too_long : (front : List Authorization) (p : Authorization) (rest : List Authorization) → [] ≡ front ++ p ∷ rest → ⊥
too_long [] p rest is = absurd cc
too_long (x ∷ front) p rest is = absurd cc

module _ (c : Connection) where
  idle_named : (front : List Authorization) (p : Authorization) (rest : List Authorization)
      → (idle a Deny ∷ firing b Deny ∷ []) ≡ front ++ p ∷ rest → fires c p ≡ true → p.name ≡ a → ⊥
  idle_named [] p rest is fired name =
      let same : idle a Deny ≡ p = cc in
      let no : false ≡ true = ap (fires c) same ∙ fired in absurd cc
  idle_named (x ∷ []) p rest is fired name =
      let same : firing b Deny ≡ p = cc in apart (ap (λ (q : Authorization). q.name) same ∙ name)
  idle_named (x ∷ y ∷ front) p rest is fired name =
      let end : [] ≡ front ++ p ∷ rest = cc in too_long front p rest end

  second_named : (front : List Authorization) (p : Authorization) (rest : List Authorization)
      → (firing a Deny ∷ firing b Deny ∷ []) ≡ front ++ p ∷ rest → list_any (denies c) front ≡ false → p.name ≡ b → ⊥
  second_named [] p rest is none name =
      let same : p ≡ firing a Deny = cc in apart (sym name ∙ ap (λ (q : Authorization). q.name) same)
  second_named (x ∷ front) p rest is none name =
      let same : firing a Deny ≡ x = cc in
      let no : true ≡ false = ap (denies c) same ∙ (or_neither (denies c x) (list_any (denies c) front) none).0 in absurd cc

  allow_named : (front : List Authorization) (p : Authorization) (rest : List Authorization)
      → (firing a Allow ∷ firing b Deny ∷ []) ≡ front ++ p ∷ rest → p.action ≡ Deny → p.name ≡ a → ⊥
  allow_named [] p rest is action name =
      let same : firing a Allow ≡ p = cc in
      let no : Allow ≡ Deny = ap (λ (q : Authorization). q.action) same ∙ action in absurd cc
  allow_named (x ∷ []) p rest is action name =
      let same : firing b Deny ≡ p = cc in apart (ap (λ (q : Authorization). q.name) same ∙ name)
  allow_named (x ∷ y ∷ front) p rest is action name =
      let end : [] ≡ front ++ p ∷ rest = cc in too_long front p rest end

pub returns-clause-idle : goal.returns-clause-idle
returns-clause-idle c = λ connection is. idle_named connection is.front is.policy is.rest is.policies_are is.fires is.name_is

pub returns-clause-second : goal.returns-clause-second
returns-clause-second c = λ connection is. second_named connection is.front is.policy is.rest is.policies_are is.none_before is.name_is

pub returns-clause-allow : goal.returns-clause-allow
returns-clause-allow c = λ connection is. allow_named connection is.front is.policy is.rest is.policies_are is.action is.name_is

pub returns-clause-denial : goal.returns-clause-denial
returns-clause-denial c = λ connection is. let no : true ≡ false = is.none_denies in absurd cc

pub returns-clause-allowance : goal.returns-clause-allowance
returns-clause-allowance c = λ connection is. let no : true ≡ false = is.none_fires in absurd cc

pub returns-clause-miscounts : goal.returns-clause-miscounts
returns-clause-miscounts c = λ connection is. let no : ◌≡◌ {A = ℕ} 2 1 = is.many_are in omega (arith, no)

pub returns-clause-nothing : goal.returns-clause-nothing
returns-clause-nothing c = λ connection is. let no = is.some in omega (arith, no)
