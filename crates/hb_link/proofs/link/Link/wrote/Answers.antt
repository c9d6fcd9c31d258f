use Rattle.std.proofs.Common.{refl, ap, sym, subst}
use Rattle.std.specs.Prelude.{⊤}
use Rattle.hb_world.specs.declared.entry.Entry.TheVariants as e
use Rattle.hb_inbound.specs.Part.{entry}
use Rattle.hb_link.specs.declared.link.Link.{Link}
use Rattle.hb_link.specs.Settling.{IsMarked, AlwaysSettles}
use Rattle.hb_link.specs.Shows.{Shows}
use Rattle.hb_link.proofs.Gone.{gone, gone_by, went_marks, went_last}
use Rattle.hb_link.proofs.Settles.{meets_settled}
use Rattle.std.specs.FinMap.{get}
use Rattle.hb_link.proofs.Moving.{Map}
use Rattle.hb_link.proofs.Quiet.{Quiet, counted_quiet}
use Rattle.hb_link.proofs.Rousing.{rouses_none, rouses_same, rouses_then}
use Rattle.hb_link.proofs.link.Link.wrote.Goals as goal

pub returns-in-Serving-clause-goes : goal.returns-in-Serving-clause-goes
returns-in-Serving-clause-goes g c = λ bytes size.
    let k = c.args.self.now in
    let counted = c.count_begun.new.self in
    let told = g.N.Notes.told c.args.notes.now in
    let now = g.N.Notes.told c.settle.new.notes in
    let mid_is = gone_by k bytes counted c.wrote.new.self c.args.n c.count_begun.ensures c.wrote.ensures size in
    meets_settled (λ a. ⊤) (entry (e.Went k.number bytes)) k (gone k bytes) c.settle.new.self told now (went_marks k bytes c.in-Serving.is)
    (subst (λ (w : Link). AlwaysSettles IsMarked Shows w told c.settle.new.self now) mid_is c.settle.ensures.settles)

pub returns-in-Faulted-clause-goes : goal.returns-in-Faulted-clause-goes
returns-in-Faulted-clause-goes g c = λ bytes size.
    went_last c.args.self.now bytes (g.N.Notes.told c.args.notes.now) c.in-Faulted.code c.in-Faulted.is

pub returns-in-Serving-clause-rouses : goal.returns-in-Serving-clause-rouses
returns-in-Serving-clause-rouses g c =
    let k = c.args.self.now in
    let first = c.count_begun.ensures in
    let mid : Link = record c.count_begun.new.self { conn = c.wrote.new.self } in
    rouses_then k mid c.settle.new.self
    (rouses_none k mid (ap (λ (m : Link). m.roused) first)
    (λ s. subst (λ (t : Map). Quiet (get k.tunnels s) (get t s)) (sym (ap (λ (m : Link). m.tunnels) first)) (counted_quiet _ k.tunnels s)))
    c.settle.ensures.rouses

pub returns-in-Faulted-clause-rouses : goal.returns-in-Faulted-clause-rouses
returns-in-Faulted-clause-rouses g c = rouses_same c.args.self.now _ refl refl

pub returns-in_default-clause-rouses : goal.returns-in_default-clause-rouses
returns-in_default-clause-rouses g c = rouses_same c.args.self.now c.args.self.now refl refl
