use Rattle.std.proofs.Common.{◌≡◌, List, [], ℕ, refl, ◌∙◌, ap, subst, rules}
use Rattle.hb_frames.specs.Reading.{Reading, asked}
use Rattle.hb_conn.specs.Glance.{IsOfBlock}
use Rattle.hb_conn.specs.Handling.{Handles}
use Rattle.hb_conn.specs.Receiving.{LacksBlock}
use Rattle.hb_conn.proofs.Taken.{looked_falls}
use Rattle.hb_conn.specs.declared.glance.Glance.{Glance}
use Rattle.hb_conn.proofs.receiver.Receiver.step.Goals as goal

pub returns-clause-steps : goal.returns-clause-steps
returns-clause-steps c =
    let r = c.args.self.now.reader in
    let core = c.args.self.now.core in
    let g = c.next_glance-glance.result in
    let found = c.in_ok-found.found in
    let handled = rw c.in_ok-found.was at c.handle.ensures.handles in
    let bytes_are : c.last_bytes.result.now ≡ (asked r).last =
    c.last_bytes.ensures ∙ ap (λ (s : Reading). s.last) c.next_glance-glance.ensures.after in
    let placed : Handles core g (asked r).last c.handle.new.self found =
    subst (λ (bytes : List ℕ). Handles core g bytes c.handle.new.self found) bytes_are handled in (
      record {
        goes = c.requires;
        whole = λ none. c.in_default.not-Nothing (c.next_glance-glance.ensures.seen ∙ none);
        reader = c.next_glance-glance.ensures.after;
        handled = subst (λ (g : Glance). Handles core g (asked r).last c.handle.new.self found) c.next_glance-glance.ensures.seen placed;
      },
      looked_falls g c.args.self.now (record { reader = c.next_glance-glance.new.reader; core = c.handle.new.self }) (asked r).last found
          c.in_default.not-Nothing placed c.next_glance-glance.ensures.falls,
    )

pub returns-in_err-found-clause-lacks : goal.returns-in_err-found-clause-lacks
returns-in_err-found-clause-lacks c =
    let block = rw c.in_err-found.was at c.handle.ensures.lacks in
    let lacks : LacksBlock c.args.self.now = record {
      through = [];
      last = c.args.self.now;
      passes = refl;
      goes = c.requires;
      block = subst IsOfBlock c.next_glance-glance.ensures.seen block;
    } in
    search (rules, lacks)
