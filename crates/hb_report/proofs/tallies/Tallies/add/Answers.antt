use Rattle.std.proofs.lemmas.Result.{on_ok_weaker}
use Rattle.hb_report.proofs.Changed.{after_came, after_went, after_closed}
use Rattle.hb_report.proofs.tallies.Tallies.add.Goals as goal

pub returns-in_ok-tally-in-Came : goal.returns-in_ok-tally-in-Came
returns-in_ok-tally-in-Came c = on_ok_weaker c.put.result (after_came c.args.self.now c.put.new.self c.in-Came.link c.get-tally.result
    c.args.entry.now c.in-Came.bytes _ c.in-Came.is c.get-tally.ensures c.in_ok-tally-in-Came.ensures) c.put.ensures.ok

pub returns-in_ok-tally-in-Went : goal.returns-in_ok-tally-in-Went
returns-in_ok-tally-in-Went c = on_ok_weaker c.put-in-Went.result (after_went c.args.self.now c.put-in-Went.new.self c.in-Went.link
    c.get-tally-in-Went.result c.args.entry.now c.in-Went.bytes _ c.in-Went.is c.get-tally-in-Went.ensures
    c.in_ok-tally-in-Went.ensures) c.put-in-Went.ensures.ok

pub returns-in-Closed : goal.returns-in-Closed
returns-in-Closed c = on_ok_weaker c.put-in-Closed.result (after_closed c.args.self.now c.put-in-Closed.new.self c.in-Closed.link
    c.get-tally-in-Closed.result c.args.entry.now c.in-Closed.cause _ c.in-Closed.is c.get-tally-in-Closed.ensures
    c.or-tally.ensures) c.put-in-Closed.ensures.ok
