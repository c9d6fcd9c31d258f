use Rattle.std.proofs.Common.{rules, ◌≡◌, ◌++◌, ◌∷◌, [], ℕ, List, Option, ap, sym, subst, ◌∙◌}
use Rattle.std.specs.List.{flat_map}
use Rattle.std.specs.Option.{option_copied}
use Rattle.std.specs.FinMap.{entries, get, len}
use Rattle.std.proofs.lemmas.List.{append_assoc, append-nil}
use Rattle.std.proofs.lemmas.List.Concat.{flat_map-append}
use Rattle.hb_records.specs.declared.address.AddressRecord.{AddressRecord}
use Rattle.hb_held.specs.declared.versioned.Versioned.{Versioned}
use Rattle.hb_held.specs.Few.{numbers_at, numbers_under, changed_numbers, if_few, AreTouched}
use Rattle.hb_held.specs.Held.{Resources}
use Rattle.hb_held.proofs.FewLaw.{if_few_is, changed_are_touched}
use Rattle.hb_held.proofs.held.Held.touched_few.Goals as goal

pub loop-name-preserved : goal.loop-name-preserved
loop-name-preserved c =
    let h = c.args.self.now in
    let e : List ℕ × Option (Versioned AddressRecord) = (c.in-Some.name.now, c.in-Some.stood.now) in
    let passed = c.loop-name.invariant.passed in
    let few = c.loop-name.few in
    let before : c.in_ok-before.before ≡ few ++ numbers_at e.1 =
    if_few_is _ _ (sym c.with_all_of.ensures ∙ c.in_ok-before.was) ∙ ap (λ o. few ++ numbers_at o) c.as_ref.ensures.value in
    let now : numbers_at (get h.addresses e.0) ≡ numbers_at (option_copied c.get.result) =
    ap numbers_at (sym (c.get.ensures ∙ ap (λ m. get m e.0) c.now.ensures ∙ ap (λ (h : Resources). get h.addresses e.0) c.self.view_is)) in
    let both : c.in_ok-few.few ≡ c.in_ok-before.before ++ numbers_at (option_copied c.get.result) =
    if_few_is _ _ (sym c.with_all_of-in-Some.ensures ∙ c.in_ok-few.was) in
    record {
      can = tt;
      ends = tt;
      passed = passed ++ e ∷ [];
      all = append_assoc passed (e ∷ []) c.next.new.self ∙ ap (λ es. passed ++ es) (sym c.in-Some.ensures.steps)
          ∙ c.loop-name.invariant.all;
      under = both ∙ ap (λ ns. c.in_ok-before.before ++ ns) (sym now) ∙ ap (λ ns. ns ++ numbers_at (get h.addresses e.0)) before
          ∙ append_assoc few (numbers_at e.1) (numbers_at (get h.addresses e.0))
          ∙ ap (λ ns. ns ++ numbers_under h e) c.loop-name.invariant.under
          ∙ ap (λ ns. flat_map (numbers_under h) passed ++ ns) (sym (append-nil (numbers_under h e)))
          ∙ sym (flat_map-append (numbers_under h) passed (e ∷ []));
      few = ap if_few both ∙ sym c.with_all_of-in-Some.ensures ∙ c.in_ok-few.was;
    }

pub returns-clause-all : goal.returns-clause-all
returns-clause-all c =
    let h = c.args.self.now in
    let passed = c.loop-name.invariant.passed in
    let whole : passed ≡ entries h.past_addresses =
    sym (append-nil passed) ∙ ap (λ es. passed ++ es) (sym c.in_default.ensures.steps.0) ∙ c.loop-name.invariant.all in
    let is : changed_numbers h ≡ c.loop-name.few = ap (flat_map (numbers_under h)) (sym whole) ∙ sym c.loop-name.invariant.under in
    let none : c.len.result ≡ 0 = search rules in
    subst (AreTouched h) is
    (changed_are_touched h (sym (c.len.ensures.value ∙ ap len c.past.ensures ∙ ap (λ (h : Resources). len h.past_policies) c.self.view_is) ∙ none))
