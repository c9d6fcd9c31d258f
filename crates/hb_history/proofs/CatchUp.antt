-- Nothing is owed while there is room: each frame, all that is found, every connection that came of calls.
use Rattle.std.proofs.Common.{ℕ, Bool, true, false, cond, List, [], ◌∷◌, ap, sym, subst, arith}
use Rattle.std.specs.Prelude.{◌==◌}
use Rattle.std.specs.FinMap.{empty, get-empty}
use Rattle.std.specs.Ordering.{nat_cmp}
use Rattle.hb_frames.specs.RawFrame.{RawFrame}
use Rattle.hb_streams.specs.declared.role.Role.{Role}
use Rattle.hb_streams.specs.declared.role.Role.TheVariants.{Server, Client}
use Rattle.hb_owed.specs.Debts.{dues_by}
use Rattle.hb_owed.proofs.Walks.{nothing_due}
use Rattle.hb_conn.specs.Frames.{sent}
use Rattle.hb_conn.specs.Laws.{IsCaughtUp}
use Rattle.hb_conn.specs.Faults.{is_active, released}
use Rattle.hb_conn.specs.Opening.{begun, headers_put}
use Rattle.hb_conn.specs.Payload.{count_put}
use Rattle.hb_conn.specs.Connection.{Connection}
use Rattle.hb_conn.specs.declared.machine.Core.{Core}
use Rattle.hb_conn.specs.declared.found.Found.TheVariants.{Silent}
use Rattle.hb_conn.proofs.Keeping.{statuses_keep_up, ends_keep_up, credit_keeps_up, opening_keeps_up, writes_catch_up, resets_catch_up}
use Rattle.hb_history.specs.Points.{Move, got, refused, misbegan, opened, answered, ended, reset, credited, put, wrote, After}
use Rattle.hb_history.specs.History.{fresh}
use Rattle.hb_history.specs.Calls.{Call, takes, asks, acts, writes, IsAct, MakesAll}
use Rattle.hb_history.specs.CatchUp.{LooksKeepUp, FindsKeepUp, IsOnStream, AreOnStreams, CallsCatchUp}
use Rattle.hb_history.proofs.CatchUpDues.{closed_owes}
use Rattle.hb_history.proofs.CatchUpAnswers.{sent_shrinks}
use Rattle.hb_history.proofs.CatchUpHandlers.{handles_cost}
use Rattle.hb_history.proofs.CatchUpSeen.{goes}
use Rattle.hb_history.proofs.BudgetReceived.{finds_spend}

pub looks_keep_up : LooksKeepUp
looks_keep_up c new glance bytes told going number handles caught =
    let there = goes c going in
    let clear = caught (omega (arith, there.room)) in
    λ room. (handles_cost glance c new bytes told number handles (omega (arith, there.room)) clear).clear

pub finds_keep_up : FindsKeepUp
finds_keep_up c d told finds caught = (finds_spend c d told finds caught).caught

-- what this end does

sent_keeps : (c : Core) (f : RawFrame) → IsCaughtUp c → IsCaughtUp (sent c f)
sent_keeps c f caught = λ room. caught (omega (arith, room, sent_shrinks c f))

either_keeps : (b : Bool) (x y : Core) → IsCaughtUp x → IsCaughtUp y → IsCaughtUp (cond b x y)
either_keeps true x y of_x of_y = of_x
either_keeps false x y of_x of_y = of_y

released_keeps : (c : Core) (s : ℕ) → IsCaughtUp c → IsCaughtUp (released c s)
released_keeps c s caught = either_keeps (is_active c.streams s) c _ caught (λ room. closed_owes c.owed s (caught room))

pub act_keeps : (move : Move) (c d : Core) → IsAct move → IsOnStream move → After c move d Silent → IsCaughtUp c → IsCaughtUp d
act_keeps (got f) c d act on after caught = absurd act
act_keeps (refused r kind flags) c d act on after caught = absurd act
act_keeps misbegan c d act on after caught = absurd act
act_keeps (wrote n) c d act on after caught = absurd act
act_keeps (opened s headers end) c d act on after caught =
    let headed : IsCaughtUp (headers_put (begun c s) s headers end) = sent_keeps (begun c s) _ (opening_keeps_up c s caught) in
    subst IsCaughtUp (sym after.1.0) (either_keeps end _ _ (released_keeps _ s headed) headed)
act_keeps (answered s status) c d act on after caught = subst IsCaughtUp (sym after.0) (statuses_keep_up c s status on caught)
act_keeps (ended s) c d act on after caught = subst IsCaughtUp (sym after.0) (ends_keep_up c s on caught)
act_keeps (reset s code) c d act on after caught = subst IsCaughtUp (sym after.0) (resets_catch_up c s code).0
act_keeps (credited s n) c d act on after caught = subst IsCaughtUp (sym after.1.0) (credit_keeps_up c s n on caught)
act_keeps (put s bytes) c d act on after caught =
    subst IsCaughtUp (sym after.0) (either_keeps (count_put c s bytes == 0) c _ caught (sent_keeps c _ caught))

calls_keep : (calls : List Call) (c d : Connection) (came written : List ℕ) → AreOnStreams calls → MakesAll c calls came written d
    → IsCaughtUp c.receiver.core → IsCaughtUp d.receiver.core
calls_keep [] c d came written on makes caught = subst (λ (k : Connection). IsCaughtUp k.receiver.core) (sym makes.0) caught
calls_keep (takes piece ∷ calls) c d came written on (mid, makes, later, came_is, behind, written_is, others) caught =
    calls_keep calls mid d later behind on others (subst (λ (k : Connection). IsCaughtUp k.receiver.core) (sym makes.1) caught)
calls_keep (asks told ∷ calls) c d came written on (mid, makes, later, came_is, behind, written_is, others) caught =
    calls_keep calls mid d later behind on others (finds_keep_up c mid told makes caught)
calls_keep (acts move ∷ calls) c d came written on (mid, makes, later, came_is, behind, written_is, others) caught =
    calls_keep calls mid d later behind on.1 others
    (act_keeps move c.receiver.core mid.receiver.core makes.0 on.0 makes.1 caught)
calls_keep (writes n ∷ calls) c d came written on (mid, makes, later, came_is, behind, written_is, others) caught =
    calls_keep calls mid d later behind on others
    (subst (λ (k : Connection). IsCaughtUp k.receiver.core) (sym makes.1) (writes_catch_up c.receiver.core n))

pub fresh_owes : (role : Role) → IsCaughtUp (fresh role).receiver.core
fresh_owes Server = λ room. nothing_due empty (λ q. ap dues_by (get-empty nat_cmp q))
fresh_owes Client = λ room. nothing_due empty (λ q. ap dues_by (get-empty nat_cmp q))

pub calls_catch_up : CallsCatchUp
calls_catch_up role calls came written c on makes = calls_keep calls (fresh role) c came written on makes (fresh_owes role)
