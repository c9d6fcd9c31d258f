use Rattle.std.proofs.Common.{◌≡◌, ◌<◌, ◌≤◌, ℕ, true, List, refl, rules, take, length, ◌∙◌, sym, ap, subst}
use Rattle.hb_world.specs.declared.entry.Entry.TheVariants as e
use Rattle.hb_world.specs.declared.entry.Way.TheVariants as way
use Rattle.hb_ready.specs.Registry.{kept}
use Rattle.hb_turns.specs.May.{MayRead}
use Rattle.hb_turns.specs.Stands.{Stands}
use Rattle.hb_turns.specs.Shown.{Tells}
use Rattle.hb_turns.proofs.Holding.{moved, lacked, left, untold, unmoved, rested, same_run}
use Rattle.hb_turns.proofs.Leading.{heads_none, heads_nothing, may_not_read, none_wanted, reads_one, same_number}
use Rattle.hb_turns.specs.declared.run.Records.{Records}
use Rattle.hb_turns.proofs.Watching.{watched-ended, watched-read}
use Rattle.hb_turns.proofs.Ways.{got_some, got_few, came_comes, came_tracks, ended_comes, read_balks, read_breaks}
use Rattle.hb_turns.proofs.link.read.Goals as goal

pub returns-in-End-clause-keeps : goal.returns-in-End-clause-keeps
returns-in-End-clause-keeps g c = λ idle had.
    let may : MayRead ((kept c.args.run.now.records.links).links c.args.link) =
    c.may_read.ensures.may c.if-not-may_read.false in
    let mid = c.read_into.new.run in
    let may_mid : MayRead ((kept mid.records.links).links c.args.link) =
    subst (λ (r : Records). MayRead ((kept r.links).links c.args.link)) (sym c.read_into.ensures.records) may in
    let now : (g.N.Node.shown mid.node).idle ≡ true = ap (λ n. (g.N.Node.shown n).idle) c.read_into.ensures.node ∙ idle.idle in
    let had_mid = same_run g.N.Node.stands g.N.Node.shown c.args.run.now mid (g.W.World.trace c.args.world.now) c.read_into.ensures.node
    c.read_into.ensures.records c.read_into.ensures.taken had in
    let some : 0 < (g.N.Node.shown mid.node).wants c.args.link = search rules in
    moved g.N.Node.stands g.N.Node.shown mid
    (record mid { node = c.ended-in-End.new.self; records = record mid.records { links = c.ended.new.self } }) (e.Ended c.args.link) (Stands g.N.Node.stands g.N.Node.shown mid) (g.W.World.trace c.args.world.now) _ c.in-End.ensures.adds refl
    c.ended-in-End.ensures
    (record { links = c.ended.ensures.follows; doors = λ d. refl; births_are = refl; wanting_is = refl; revoked_are = refl })
    (watched-ended (kept mid.records.links) (kept c.ended.new.self) (g.N.Node.shown mid.node) c.args.link may_mid c.ended.ensures.follows
    c.ended.ensures.stays.listed)
    (ended_comes g.N.Node.stands g.N.Node.shown mid c.args.link now may_mid some) had_mid

pub returns-in-Balked-clause-keeps : goal.returns-in-Balked-clause-keeps
returns-in-Balked-clause-keeps g c = λ idle had.
    let may : MayRead ((kept c.args.run.now.records.links).links c.args.link) =
    c.may_read.ensures.may c.if-not-may_read.false in
    let mid = c.read_into.new.run in
    let may_mid : MayRead ((kept mid.records.links).links c.args.link) =
    subst (λ (r : Records). MayRead ((kept r.links).links c.args.link)) (sym c.read_into.ensures.records) may in
    let now : (g.N.Node.shown mid.node).idle ≡ true = ap (λ n. (g.N.Node.shown n).idle) c.read_into.ensures.node ∙ idle.idle in
    let had_mid = same_run g.N.Node.stands g.N.Node.shown c.args.run.now mid (g.W.World.trace c.args.world.now) c.read_into.ensures.node
    c.read_into.ensures.records c.read_into.ensures.taken had in
    rested g.N.Node.stands g.N.Node.shown mid (record mid { records = record mid.records { links = c.read_balked.new.self } })
    (e.Balked (way.Read c.args.link)) (Stands g.N.Node.stands g.N.Node.shown mid) (g.W.World.trace c.args.world.now) _ c.in-Balked.ensures.adds refl refl
    (λ notes trace. g.met.N.Node.rests notes mid.node trace (e.Balked (way.Read c.args.link))) (record { links = c.read_balked.ensures.follows; doors = λ d. refl; births_are = refl; wanting_is = refl; revoked_are = refl })
    (watched-read (kept mid.records.links) (kept c.read_balked.new.self) (g.N.Node.shown mid.node) c.args.link
    c.read_balked.ensures.follows c.read_balked.ensures.stays.listed)
    (read_balks g.N.Node.stands g.N.Node.shown mid c.args.link now may_mid (search rules)) had_mid

pub returns-in-Failed-clause-keeps : goal.returns-in-Failed-clause-keeps
returns-in-Failed-clause-keeps g c = λ idle had.
    let may : MayRead ((kept c.args.run.now.records.links).links c.args.link) =
    c.may_read.ensures.may c.if-not-may_read.false in
    let mid = c.read_into.new.run in
    let may_mid : MayRead ((kept mid.records.links).links c.args.link) =
    subst (λ (r : Records). MayRead ((kept r.links).links c.args.link)) (sym c.read_into.ensures.records) may in
    let now : (g.N.Node.shown mid.node).idle ≡ true = ap (λ n. (g.N.Node.shown n).idle) c.read_into.ensures.node ∙ idle.idle in
    let had_mid = same_run g.N.Node.stands g.N.Node.shown c.args.run.now mid (g.W.World.trace c.args.world.now) c.read_into.ensures.node
    c.read_into.ensures.records c.read_into.ensures.taken had in
    moved g.N.Node.stands g.N.Node.shown mid (record mid { node = c.broke.new.self }) (e.Broke c.args.link) (Stands g.N.Node.stands g.N.Node.shown mid) (g.W.World.trace c.args.world.now) _ c.in-Failed.ensures.adds refl
    c.broke.ensures (unmoved mid.records (e.Broke c.args.link) tt) (λ watched. watched)
    (read_breaks g.N.Node.stands g.N.Node.shown mid c.args.link now may_mid) had_mid

pub returns-in-NoMemory-clause-keeps : goal.returns-in-NoMemory-clause-keeps
returns-in-NoMemory-clause-keeps g c = λ idle had.
    untold g.N.Node.stands g.N.Node.shown c.read_into.new.run (g.W.World.trace c.args.world.now) _ c.in-NoMemory.ensures.adds
    (same_run g.N.Node.stands g.N.Node.shown c.args.run.now c.read_into.new.run (g.W.World.trace c.args.world.now)
    c.read_into.ensures.node c.read_into.ensures.records c.read_into.ensures.taken had)

pub returns-in_ok-take_bytes-in-Got-clause-keeps : goal.returns-in_ok-take_bytes-in-Got-clause-keeps
returns-in_ok-take_bytes-in-Got-clause-keeps g c = λ idle had.
    let may : MayRead ((kept c.args.run.now.records.links).links c.args.link) =
    c.may_read.ensures.may c.if-not-may_read.false in
    let mid = c.read_into.new.run in
    let may_mid : MayRead ((kept mid.records.links).links c.args.link) =
    subst (λ (r : Records). MayRead ((kept r.links).links c.args.link)) (sym c.read_into.ensures.records) may in
    let now : (g.N.Node.shown mid.node).idle ≡ true = ap (λ n. (g.N.Node.shown n).idle) c.read_into.ensures.node ∙ idle.idle in
    let had_mid = same_run g.N.Node.stands g.N.Node.shown c.args.run.now mid (g.W.World.trace c.args.world.now) c.read_into.ensures.node
    c.read_into.ensures.records c.read_into.ensures.taken had in
    let within : c.min-most.result ≤ c.wants-wanted.result = search rules in
    let wanted : c.wants-wanted.result ≡ (g.N.Node.shown mid.node).wants c.args.link =
    c.wants-wanted.ensures ∙ ap (λ n. (g.N.Node.shown n).wants c.args.link) (sym c.read_into.ensures.node) in
    let some = got_some c.in-Got.n c.min-most.result mid.buffer.items c.in-Got.ensures.within.0 c.in-Got.ensures.within.1 in
    let few : length (take c.in-Got.n mid.buffer.items) ≤ (g.N.Node.shown mid.node).wants c.args.link =
    subst (λ (w : ℕ). length (take c.in-Got.n mid.buffer.items) ≤ w) wanted
    (got_few c.in-Got.n c.min-most.result c.wants-wanted.result mid.buffer.items c.in-Got.ensures.within.1 within) in
    moved g.N.Node.stands g.N.Node.shown mid (record mid { node = c.take_bytes.new.self }) (e.Came c.args.link (take c.in-Got.n mid.buffer.items)) (Stands g.N.Node.stands g.N.Node.shown mid)
    (g.W.World.trace c.args.world.now) _ c.in-Got.ensures.adds refl
    (subst (λ (bs : List ℕ). Tells g.N.Node.stands g.N.Node.shown (e.Came c.args.link (take c.in-Got.n bs)) mid.node c.take_bytes.new.self)
    c.deref.ensures.value (c.in_ok-take_bytes-in-Got.ensures {u = tt}))
    (came_tracks mid.records c.args.link _ may_mid) (λ watched. watched) (came_comes g.N.Node.stands g.N.Node.shown mid c.args.link now may_mid _ some few) had_mid

pub returns-in_err-take_bytes-in-Got-clause-keeps : goal.returns-in_err-take_bytes-in-Got-clause-keeps
returns-in_err-take_bytes-in-Got-clause-keeps g c = λ idle had.
    let may : MayRead ((kept c.args.run.now.records.links).links c.args.link) =
    c.may_read.ensures.may c.if-not-may_read.false in
    let mid = c.read_into.new.run in
    let may_mid : MayRead ((kept mid.records.links).links c.args.link) =
    subst (λ (r : Records). MayRead ((kept r.links).links c.args.link)) (sym c.read_into.ensures.records) may in
    let now : (g.N.Node.shown mid.node).idle ≡ true = ap (λ n. (g.N.Node.shown n).idle) c.read_into.ensures.node ∙ idle.idle in
    let had_mid = same_run g.N.Node.stands g.N.Node.shown c.args.run.now mid (g.W.World.trace c.args.world.now) c.read_into.ensures.node
    c.read_into.ensures.records c.read_into.ensures.taken had in
    let within : c.min-most.result ≤ c.wants-wanted.result = search rules in
    let wanted : c.wants-wanted.result ≡ (g.N.Node.shown mid.node).wants c.args.link =
    c.wants-wanted.ensures ∙ ap (λ n. (g.N.Node.shown n).wants c.args.link) (sym c.read_into.ensures.node) in
    let some = got_some c.in-Got.n c.min-most.result mid.buffer.items c.in-Got.ensures.within.0 c.in-Got.ensures.within.1 in
    let few : length (take c.in-Got.n mid.buffer.items) ≤ (g.N.Node.shown mid.node).wants c.args.link =
    subst (λ (w : ℕ). length (take c.in-Got.n mid.buffer.items) ≤ w) wanted
    (got_few c.in-Got.n c.min-most.result c.wants-wanted.result mid.buffer.items c.in-Got.ensures.within.1 within) in
    left g.N.Node.stands g.N.Node.shown c.from_residual.result _ _ (search rules)
    (lacked g.N.Node.stands g.N.Node.shown mid mid.records (e.Came c.args.link (take c.in-Got.n mid.buffer.items)) (Stands g.N.Node.stands g.N.Node.shown mid)
    (g.W.World.trace c.args.world.now) _ c.in-Got.ensures.adds
    (came_tracks mid.records c.args.link _ may_mid) (came_comes g.N.Node.stands g.N.Node.shown mid c.args.link now may_mid _ some few) had_mid)

pub returns-then-not-may_read-clause-leads : goal.returns-then-not-may_read-clause-leads
returns-then-not-may_read-clause-leads g c =
    heads_none _ (may_not_read _ c.args.link (g.N.Node.shown c.args.run.now.node) (c.may_read.ensures.rests c.if-not-may_read.true))

pub returns-then-wanted-eq0-clause-leads : goal.returns-then-wanted-eq0-clause-leads
returns-then-wanted-eq0-clause-leads g c =
    heads_none _ (none_wanted _ c.args.link (g.N.Node.shown c.args.run.now.node) (sym c.wants-wanted.ensures ∙ c.if-wanted-eq0.true))

pub returns-then-most-eq0-clause-leads : goal.returns-then-most-eq0-clause-leads
returns-then-most-eq0-clause-leads g c = heads_none _ tt

pub returns-in-End-clause-leads : goal.returns-in-End-clause-leads
returns-in-End-clause-leads g c =
    reads_one g.N.Node.shown c.args.run.now c.args.link (e.Ended c.args.link) _ _ c.in-End.ensures.adds refl (same_number c.args.link)

pub returns-in-Balked-clause-leads : goal.returns-in-Balked-clause-leads
returns-in-Balked-clause-leads g c =
    reads_one g.N.Node.shown c.args.run.now c.args.link (e.Balked (way.Read c.args.link)) _ _ c.in-Balked.ensures.adds refl
    (same_number c.args.link)

pub returns-in-Failed-clause-leads : goal.returns-in-Failed-clause-leads
returns-in-Failed-clause-leads g c =
    reads_one g.N.Node.shown c.args.run.now c.args.link (e.Broke c.args.link) _ _ c.in-Failed.ensures.adds refl (same_number c.args.link)

pub returns-in-NoMemory-clause-leads : goal.returns-in-NoMemory-clause-leads
returns-in-NoMemory-clause-leads g c = heads_nothing _ _ c.in-NoMemory.ensures.adds tt

pub returns-in_ok-take_bytes-in-Got-clause-leads : goal.returns-in_ok-take_bytes-in-Got-clause-leads
returns-in_ok-take_bytes-in-Got-clause-leads g c =
    reads_one g.N.Node.shown c.args.run.now c.args.link (e.Came c.args.link (take c.in-Got.n c.read_into.new.run.buffer.items)) _ _
    c.in-Got.ensures.adds refl (same_number c.args.link)

pub returns-in_err-take_bytes-in-Got-clause-leads : goal.returns-in_err-take_bytes-in-Got-clause-leads
returns-in_err-take_bytes-in-Got-clause-leads g c =
    reads_one g.N.Node.shown c.args.run.now c.args.link (e.Came c.args.link (take c.in-Got.n c.read_into.new.run.buffer.items)) _ _
    c.in-Got.ensures.adds refl (same_number c.args.link)
