use Rattle.std.proofs.Common.{◌≡◌, false, ap, sym, ◌∙◌, rules}
use Rattle.hb_conn.specs.Settings.{is_push}
use Rattle.hb_conn.proofs.Setting.{no_push_drop}
use Rattle.hb_conn.proofs.settings.has_push.Goals as goal

pub loop-left-preserved : goal.loop-left-preserved
loop-left-preserved c =
    let none : is_push c.first_setting-identifier.result ≡ false = search rules in
    rw c.split_at.ensures.back
    (no_push_drop c.loop-left.left.now c.loop-left-test.true (sym (ap is_push c.first_setting-identifier.ensures) ∙ none)
    ∙ c.loop-left.invariant)
