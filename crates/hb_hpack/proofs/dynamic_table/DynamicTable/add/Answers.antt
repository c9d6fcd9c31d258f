use Rattle.std.proofs.Common.{◌≡◌, ◌-◌, ◌<◌, ◌≤◌, List, ◌∷◌, ◌∙◌, sym, ap, refl, arith, ℕ}
use Rattle.hb_hpack.specs.declared.header.Header.{Header}
use Rattle.hb_hpack.specs.Table.{Table, size_of, fitting, added}
use Rattle.hb_hpack.proofs.Fitting.{fitting_more, fitting_none, fitting_zero}
use Rattle.hb_hpack.proofs.dynamic_table.DynamicTable.add.Goals as goal

-- a table with these entries
abbrev with_entries : List Header → ℕ → Table
with_entries entries maximum = record { entries = entries; maximum = maximum }

pub returns-then-self-size : goal.returns-then-self-size
returns-then-self-size c =
    let over : c.self.inside.maximum < size_of c.args.entry = omega (arith, c.size-size.ensures, c.if-self-size.true) in
    let entries : c.evict-self-inside.new.entries.items ≡ fitting c.self.inside.maximum (c.args.entry ∷ c.self.inside.entries.items) =
    c.evict-self-inside.ensures.entries ∙ fitting_zero c.self.inside.entries.items
    ∙ sym (fitting_none c.self.inside.maximum c.args.entry c.self.inside.entries.items over) in
    ap (λ (es : List Header). with_entries es c.self.inside.maximum) entries ∙ ap (λ (t : Table). added t c.args.entry) c.self.view_is

pub returns : goal.returns
returns c =
    let small : c.self.inside.maximum ≤ 4096 = c.self.invariant.2 in
    let room : size_of c.args.entry ≤ c.self.inside.maximum = omega (arith, c.size-size.ensures, c.if-self-size.false) in
    let size : c.size-size.result ≡ size_of c.args.entry = omega (arith, c.size-size.ensures) in
    let left : fitting (c.self.inside.maximum - c.size-size.result) c.self.inside.entries.items ≡ fitting
    (c.self.inside.maximum - size_of c.args.entry) c.self.inside.entries.items = rw size refl in
    let entries : c.push_front.new.self.items ≡ fitting c.self.inside.maximum (c.args.entry ∷ c.self.inside.entries.items) =
    c.in_ok-push_front.ensures.items ∙ ap (λ (hs : List Header). c.args.entry ∷ hs) (c.evict-self-inside-2.ensures.entries ∙ left)
    ∙ sym (fitting_more c.self.inside.maximum c.args.entry c.self.inside.entries.items room) in
    ap (λ (es : List Header). with_entries es c.self.inside.maximum) entries ∙ ap (λ (t : Table). added t c.args.entry) c.self.view_is
