use Rattle.std.proofs.Common.{rules, arith, ℕ, ◌≡◌, ◌++◌, ◌∷◌, [], ◌≤◌, ◌<◌, List, length, get_or, take, map, ap, sym, subst, ◌∙◌}
use Rattle.std.proofs.lemmas.List.{length-append, length-map, take_all, map_more, append_assoc}
use Rattle.hb_base.specs.declared.ip.Ip.{Ip}
use Rattle.hb_base.specs.declared.ip.Ip.TheVariants.{V4}
use Rattle.hb_held.specs.Few.{if_few}
use Rattle.hb_held.specs.Numbers.{number_of}
use Rattle.hb_held.proofs.FewLaw.{too_many, if_few_is}
use Rattle.hb_held.proofs.few.Few.with_all.Goals as goal

-- with one more number behind those of some first of the addresses it is no more than with all
fits : (front : List ℕ) (ips : List Ip) (i n : ℕ) → i < length ips
    → length ((front ++ map number_of (take i ips)) ++ n ∷ []) ≤ length (front ++ map number_of ips)
fits front ips i n lt =
    let one = length-append (front ++ map number_of (take i ips)) (n ∷ []) in
    let some = length-append front (map number_of (take i ips)) in
    let taken = length-map (take i ips) number_of in
    let first : length (take i ips) ≡ i = search rules in
    let all = length-append front (map number_of ips) in
    let mapped = length-map ips number_of in
    omega arith

pub returns-in_err-few : goal.returns-in_err-few
returns-in_err-few c =
    let ips = c.args.ips.now in
    let i = c.loop-ip.ip-index in
    c.from_residual.ensures
    ∙ sym (too_many _ _ (sym c.with.ensures ∙ c.in_err-few.was)
    (subst (λ ns. length (ns ++ number_of (get_or ips i (V4 0)) ∷ []) ≤ length (c.args.self ++ map number_of ips)) (sym c.loop-ip.invariant.is)
    (fits c.args.self ips i _ c.loop-ip-test.true)))

pub loop-ip-preserved : goal.loop-ip-preserved
loop-ip-preserved c =
    let is = if_few_is _ _ (sym c.with.ensures ∙ c.in_ok-few.was) in
    let front = c.args.self in
    let ips = c.args.ips.now in
    let i = c.loop-ip.ip-index in
    record {
      is = is ∙ ap (λ ns. ns ++ number_of (get_or ips i (V4 0)) ∷ []) c.loop-ip.invariant.is
          ∙ append_assoc front (map number_of (take i ips)) (number_of (get_or ips i (V4 0)) ∷ [])
          ∙ ap (λ ns. front ++ ns) (sym (map_more number_of ips i (V4 0) c.loop-ip-test.true));
      few = ap if_few is ∙ sym c.with.ensures ∙ c.in_ok-few.was;
    }

pub returns : goal.returns
returns c =
    let ips = c.args.ips.now in
    let all : take c.loop-ip.ip-index ips ≡ ips = take_all c.loop-ip.ip-index ips (c.loop-ip-test.false) in
    sym c.loop-ip.invariant.few ∙ ap if_few (c.loop-ip.invariant.is ∙ ap (λ ips. c.args.self ++ map number_of ips) all)
