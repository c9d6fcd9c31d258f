use Rattle.std.proofs.Common.{rules, ◌≡◌, inl, inr, refl, ap, sym, ◌∙◌, subst, arith}
use Rattle.std.specs.FinMap.{get, insert}
use Rattle.hb_link.specs.Asking.{due_to}
use Rattle.hb_link.proofs.Asked.{own, none, answers, verdict_fits, due_looks, refused_looks, reset_looks, goes_as}
use Rattle.hb_link.proofs.Moving.{link_with}
use Rattle.hb_link.specs.declared.link.Link.{Link}
use Rattle.hb_link.proofs.Quiet.{Quiet, quiet_by, put_quiet}
use Rattle.hb_link.proofs.Rousing.{conn_rouses, rouses_none, rouses_same}
use Rattle.hb_link.proofs.link.Link.answer_request.Goals as goal
use Rattle.hb_link.proofs.link.Link.answer_request.Goals.{then-not-sides-via-then-not-sides, then-not-sides-via-else-not-sides+then-is_some}

pub returns-then-not-sides-clause-settles : goal.returns-then-not-sides-clause-settles
returns-then-not-sides-clause-settles g c = λ start before a stands holds ask.
    let k = c.args.self.now in
    let open_side = own c.args.others c.args.limit c.args.asked k (g.N.Notes.told c.args.notes.now) start before a stands ask in
    let free = none c.args.others c.args.limit c.args.asked k (g.N.Notes.told c.args.notes.now) start before a stands ask in
    elim c.then-not-sides.branch [
      | then-not-sides-via-then-not-sides w ↦ absurd (search (rules, open_side))
      | then-not-sides-via-else-not-sides+then-is_some w ↦ absurd (search (rules, free))
    ]

pub returns-in-Status-clause-settles : goal.returns-in-Status-clause-settles
returns-in-Status-clause-settles g c = λ start before a stands holds ask.
    let k = c.args.self.now in
    let told = g.N.Notes.told c.args.notes.now in
    let full = c.is_full-full.result in
    let said = sym c.verdict_on.ensures ∙ c.in-Status.is in
    let fits = verdict_fits c.args.asked.request c.args.held.now k.peer full c.in-Status.status c.requires said in
    goes_as k c.refuse_request.ensures.link refl
    (refused_looks c.args.others c.args.limit c.args.asked k told start before a stands ask full c.is_full-full.ensures c.in-Status.status
    (inl (sym said ∙ answers c.args.others c.args.limit c.args.asked k told start before a stands ask c.args.held.now full holds))
    fits.0 fits.1 (g.N.Notes.told c.refuse_request.new.notes) c.refuse_request.ensures.told)

pub returns-in-Reset-clause-settles : goal.returns-in-Reset-clause-settles
returns-in-Reset-clause-settles g c = λ start before a stands holds ask.
    let k = c.args.self.now in
    let told = g.N.Notes.told c.args.notes.now in
    let full = c.is_full-full.result in
    let said = sym c.verdict_on.ensures ∙ c.in-Reset.is in
    goes_as k c.reset_request.ensures.link refl
    (reset_looks c.args.others c.args.limit c.args.asked k told start before a stands ask full c.is_full-full.ensures
    (inl (sym said ∙ answers c.args.others c.args.limit c.args.asked k told start before a stands ask c.args.held.now full holds))
    (g.N.Notes.told c.reset_request.new.notes) c.reset_request.ensures.told)

pub returns-then-is_err-clause-settles : goal.returns-then-is_err-clause-settles
returns-then-is_err-clause-settles g c = λ start before a stands holds ask.
    let k = c.args.self.now in
    let told = g.N.Notes.told c.args.notes.now in
    let full = c.is_full-full.result in
    let said = sym c.verdict_on.ensures ∙ c.in-Dial.is in
    let same : c.add_tunnel.new.self ≡ k = search rules in
    goes_as k (rw same at c.refuse_request-then-is_err.ensures.link) refl
    (refused_looks c.args.others c.args.limit c.args.asked k told start before a stands ask full c.is_full-full.ensures 500
    (inr (
      c.in-Dial.target,
      sym (answers c.args.others c.args.limit c.args.asked k told start before a stands ask c.args.held.now full holds) ∙ said,
      refl,
    ))
    (omega arith) (omega arith) (g.N.Notes.told c.refuse_request-then-is_err.new.notes)
    (rw same at c.refuse_request-then-is_err.ensures.told))

pub returns-else-is_err-clause-settles : goal.returns-else-is_err-clause-settles
returns-else-is_err-clause-settles g c = λ start before a stands holds ask.
    let k = c.args.self.now in
    let told = g.N.Notes.told c.args.notes.now in
    let full = c.is_full-full.result in
    let said = sym c.verdict_on.ensures ∙ c.in-Dial.is in
    let link : c.add_tunnel.new.self
    ≡ link_with k.conn (insert k.tunnels c.args.asked.stream (due_to c.in-Dial.target c.args.asked.end)) k = search rules in
    goes_as k link refl
    (due_looks c.args.others c.args.limit c.args.asked k told start before a stands ask full c.is_full-full.ensures c.in-Dial.target
    (inl (sym said ∙ answers c.args.others c.args.limit c.args.asked k told start before a stands ask c.args.held.now full holds)))

pub returns-then-not-sides-clause-rouses : goal.returns-then-not-sides-clause-rouses
returns-then-not-sides-clause-rouses g c = rouses_same c.args.self.now c.args.self.now refl refl

pub returns-in-Status-clause-rouses : goal.returns-in-Status-clause-rouses
returns-in-Status-clause-rouses g c =
    conn_rouses c.args.self.now c.refuse_request.new.self _ c.refuse_request.ensures.link

pub returns-in-Reset-clause-rouses : goal.returns-in-Reset-clause-rouses
returns-in-Reset-clause-rouses g c = conn_rouses c.args.self.now c.reset_request.new.self _ c.reset_request.ensures.link

pub returns-then-is_err-clause-rouses : goal.returns-then-is_err-clause-rouses
returns-then-is_err-clause-rouses g c =
    let same : c.add_tunnel.new.self ≡ c.args.self.now = search rules in
    conn_rouses c.args.self.now c.refuse_request-then-is_err.new.self _ (rw same at c.refuse_request-then-is_err.ensures.link)

pub returns-else-is_err-clause-rouses : goal.returns-else-is_err-clause-rouses
returns-else-is_err-clause-rouses g c =
    let k = c.args.self.now in
    let s = c.args.asked.stream in
    let new = due_to c.in-Dial.target c.args.asked.end in
    let link : c.add_tunnel.new.self ≡ link_with k.conn (insert k.tunnels s new) k = search rules in
    rouses_none k c.add_tunnel.new.self (ap (λ (m : Link). m.roused) link)
    (λ j. subst (λ (m : Link). Quiet (get k.tunnels j) (get m.tunnels j)) (sym link)
    (put_quiet k.tunnels s new (quiet_by (get k.tunnels s) new refl refl) j))
