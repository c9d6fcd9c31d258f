use Rattle.std.proofs.Common.{◌≡◌, ap, sym, subst, ◌∙◌}
use Rattle.hb_counted.specs.declared.classes.Classes.{Classes}
use Rattle.hb_counted.specs.declared.counts.Counts.{Counts}
use Rattle.hb_counted.specs.declared.starts.Starts.{Starts}
use Rattle.std.specs.FinMap as map
use Rattle.hb_counted.specs.Classes.{classes_in, counts_of, moved}
use Rattle.hb_counted.specs.Starts.{AreStarts, all_lowered}
use Rattle.hb_counted.proofs.Keeping.{allows_lent, counts_all, starts_all}
use Rattle.hb_counted.proofs.counted.standing.Goals as goal

pub moved-counts-requires : goal.moved-counts-requires
moved-counts-requires g c = allows_lent g.T.Classed.classes_of c.args.tally c.args.slots.now c.requires

pub returns-clause-counts : goal.returns-clause-counts
returns-clause-counts g c =
    c.moved-counts.ensures ∙ ap (moved c.args.tally.counts c.args.tally.was) c.classes_at-is.ensures
    ∙ counts_all g.T.Classed.classes_of c.args.tally c.args.slots.now c.requires

pub returns-clause-starts : goal.returns-clause-starts
returns-clause-starts g c =
    let classes = g.T.Classed.classes_of in
    let tally = c.args.tally in
    let slots = c.args.slots.now in
    let counted : c.moved-counts.result ≡ counts_of classes slots =
    c.moved-counts.ensures ∙ ap (moved tally.counts tally.was) c.classes_at-is.ensures ∙ counts_all classes tally slots c.requires in
    subst (λ (s : Starts). AreStarts s (λ n. classes_in classes (map.get slots n)))
    (sym (c.lowered.ensures
    ∙ ap (λ (n : Counts). all_lowered tally.starts n c.classes_at-is.result tally.lent) counted
    ∙ ap (λ (is : Classes). all_lowered tally.starts (counts_of classes slots) is tally.lent) c.classes_at-is.ensures))
    (starts_all classes tally slots c.requires)
