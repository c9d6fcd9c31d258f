-- What code may not show.
use Rattle.std.proofs.Common.{◌≡◌, ℕ, Option, Some, None, is_some, ap, sym, ◌∙◌, subst, arith}
use Rattle.std.specs.FinMap.{get}
use Rattle.hb_base.specs.declared.door.Door.TheVariants as door
use Rattle.hb_inbound.specs.Calm.{IsIdleBy}
use Rattle.hb_inbound.specs.Inbound as m
use Rattle.hb_inbound.specs.Inbound.{Inbound, on_found}
use Rattle.hb_inbound.specs.Part as part
use Rattle.hb_inbound.specs.Part.{Part}
use Rattle.hb_inbound.specs.Runs.{Local}
use Rattle.hb_inbound.specs.Tunnel as t
use Rattle.hb_link.specs.Counting.{taking_in}
use Rattle.hb_link.specs.Tunnels.{phase_of}
use Rattle.hb_link.specs.declared.link.Link.{Link}
use Rattle.hb_link.specs.declared.phase.Phase.{Phase}
use Rattle.hb_link.specs.declared.phase.Phase.TheVariants as phases
use Rattle.hb_model.specs.declared.config.NodeConfig.{NodeConfig}
use Rattle.hb_proxy.proofs.Counted.{counts_once}
use Rattle.hb_proxy.specs.Load.{plain_below}
use Rattle.hb_proxy.specs.Machine.{Machine}
use Rattle.hb_proxy.specs.Points.{of_link}
use Rattle.hb_proxy.specs.Runs.{Steps}
use Rattle.hb_proxy.specs.Ups.{up_by}
use Rattle.hb_world.specs.declared.entry.Entry.TheVariants as e
use Rattle.hb_links.specs.Places.{place}
use Rattle.hb_links.specs.Reaches.{on_links}
use Rattle.hb_links.specs.Refused.{LacksUp, FindsClosed, LacksLink, KeepsUnderAnother, KeepsClosed, MissesDial, ForgetsLink, LeavesBoth, LeavesOne}
use Rattle.hb_links.specs.Shows.{IsAway, ShowsLink}
use Rattle.hb_links.proofs.Lifted.{here}
use Rattle.hb_links.proofs.Staying.{points_stay}

pub lacks_up : LacksUp
lacks_up k f l s live some none shows =
    let x = (f l).tunnels s in
    let found = shows.index.found l s x.up (some, ap (λ (stage : t.Stage). up_by stage x) live) in
    let both : None ≡ Some (place l s) = sym none ∙ found in
    cc both

pub finds_closed : FindsClosed
finds_closed k f u at found gone shows =
    let x = (f at.link).tunnels at.stream in
    let joins = shows.index.joined u at found in
    let some = joins.0 in
    let is = joins.1 in
    let none : up_by x.stage x ≡ 0 = ap (λ (stage : t.Stage). up_by stage x) gone in
    omega (arith, none, some, is)

pub lacks_link : LacksLink
lacks_link k f l serving none shows =
    subst IsAway serving (subst (λ (o : Option Link). ShowsLink l o (f l)) none (shows.links l)).0

pub keeps_under_another : KeepsUnderAnother
keeps_under_another k f l w is apart shows = apart (subst (λ (o : Option Link). ShowsLink l o (f l)) is (shows.links l)).0

pub keeps_closed : KeepsClosed
keeps_closed k f l w found closed shows = shows.kept l (ap is_some found) (subst IsAway (sym closed) tt)

pub leaves_both : LeavesBoth
leaves_both g x two one leaves =
    let same = counts_once (plain_below x) leaves.0 1 leaves.1 one in
    let all = leaves.2 in omega (arith, same, all, two)

pub leaves_one : LeavesOne
leaves_one g x two one = (1, one, omega (arith, two))

pub misses_dial : MissesDial
misses_dial k f l s due none shows = subst (λ (stage : t.Stage). IsIdleBy stage ((f l).tunnels s)) due ((shows.idle l none).idle s)

not_unborn : (phase : Phase) → m.unborn ≡ phase_of phase → ⊥
not_unborn phases.Fronting is = cc is
not_unborn phases.Serving is = cc is
not_unborn (phases.Faulted code) is = cc is
not_unborn (phases.Closing why) is = cc is
not_unborn phases.Closed is = cc is

-- behind its birth a link is there
pub arrived : (g : NodeConfig) (x y : Machine) (n : ℕ) → Steps g x (of_link n (part.entry (e.Accepted n door.Inbound))) y
    → (y.inbound n).phase ≡ m.arriving
arrived g x y n steps =
    ap (λ (w : Machine). (w.inbound n).phase) steps.3
    ∙ ap (λ (a : Local). a.link.phase) (here x n (part.entry (e.Accepted n door.Inbound)) steps.0 ∙ steps.1.1)

unkept : (o : Option Link) (n : ℕ) (x z : Inbound) → x.phase ≡ m.unborn → ShowsLink n o x → ShowsLink n o z → IsAway z.phase
unkept None n x z unborn was now = now.0
unkept (Some w) n x z unborn was now = absurd (not_unborn w.phase (sym unborn ∙ was.1.phase))

pub forgets_link : ForgetsLink
forgets_link g x y points k n stands shows room steps begins =
    let follows = begins g x y points stands shows room steps in
    let z = follows.reached in
    let away = unkept (get k.links n) n (x.inbound n) (z.inbound n) steps.1.0.1 (shows.links n) (follows.shows.links n) in
    subst IsAway (arrived g x y n steps) (points_stay (on_links taking_in) g y follows.more z follows.leads n away)
