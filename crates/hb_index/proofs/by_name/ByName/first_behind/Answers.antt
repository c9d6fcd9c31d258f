use Rattle.std.proofs.Common.{ap, sym, ◌∙◌}
use Rattle.std.specs.declared.ops.Bound.TheVariants.{Unbounded}
use Rattle.std.specs.BTreeMap.Range.{entries_between}
use Rattle.std.specs.FinMap.{entries}
use Rattle.std.specs.Option.{option_copied}
use Rattle.hb_index.proofs.Behind.{span_behind, none_behind_it, first_behind_it}
use Rattle.hb_index.proofs.Entries.{by_bytes, entries_made}
use Rattle.hb_index.proofs.by_name.ByName.first_behind.Goals as goal

pub returns-in-None : goal.returns-in-None
returns-in-None g c = none_behind_it c.args.self.now (option_copied c.args.name) (
    sym (span_behind c.args.self.now (option_copied c.args.name) c.self.inside.items.entries
    (sym (entries_made c.self.inside.items.entries c.range-rest.ensures.ordered) ∙ ap entries c.self.view_is))
    ∙ ap (λ b. entries_between by_bytes b Unbounded c.self.inside.items.entries) (sym c.start_behind.ensures)
    ∙ sym (c.range-rest.ensures.between tt) ∙ c.in-None.ensures.steps.0)

pub returns-in-Some : goal.returns-in-Some
returns-in-Some g c = first_behind_it c.args.self.now (option_copied c.args.name)
    (c.in-Some.first.now, c.in-Some.field-0-1.now) c.next.new.self (
    sym (span_behind c.args.self.now (option_copied c.args.name) c.self.inside.items.entries
    (sym (entries_made c.self.inside.items.entries c.range-rest.ensures.ordered) ∙ ap entries c.self.view_is))
    ∙ ap (λ b. entries_between by_bytes b Unbounded c.self.inside.items.entries) (sym c.start_behind.ensures)
    ∙ sym (c.range-rest.ensures.between tt) ∙ c.in-Some.ensures.steps)
