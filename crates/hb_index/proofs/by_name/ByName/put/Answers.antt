use Rattle.std.proofs.Common.{Some, is_some, ap, sym, ◌∙◌}
use Rattle.std.specs.FinMap as map
use Rattle.hb_index.proofs.Entries.{by_bytes, get_made, made_with}
use Rattle.hb_index.proofs.by_name.ByName.put.Goals as goal

pub returns-in-Some-clause-ok : goal.returns-in-Some-clause-ok
returns-in-Some-clause-ok g c =
    let written = c.get_mut.follows.holds c.replace.new.dest in
    made_with c.self.inside.items.entries _ c.args.name.now c.replace.new.dest (written.3 (ap is_some (sym c.in-Some.ensures.value))).0
    ∙ ap (λ v. map.insert (map.from_entries c.self.inside.items.entries) c.args.name.now v) c.replace.ensures.after
    ∙ ap (λ m. map.insert m c.args.name.now c.args.item) c.self.view_is

pub returns-in-Some-clause-stood : goal.returns-in-Some-clause-stood
returns-in-Some-clause-stood g c =
    ap Some c.replace.ensures.value ∙ c.in-Some.ensures.value ∙ sym (get_made c.self.inside.items.entries c.args.name.now)
    ∙ ap (λ m. map.get m c.args.name.now) c.self.view_is

pub returns-clause-stood : goal.returns-clause-stood
returns-clause-stood g c =
    c.in_ok-insert.ensures.stood
    ∙ ap (λ m. map.get {R = by_bytes} (map.from_entries m.entries) c.args.name.now) c.get_mut.follows.holds-at-none
    ∙ ap (λ m. map.get m c.args.name.now) c.self.view_is

pub returns-clause-ok : goal.returns-clause-ok
returns-clause-ok g c =
    c.in_ok-insert.ensures.ok
    ∙ ap (λ m. map.insert (map.from_entries m.entries) c.args.name.now c.args.item) c.get_mut.follows.holds-at-none
    ∙ ap (λ m. map.insert m c.args.name.now c.args.item) c.self.view_is
