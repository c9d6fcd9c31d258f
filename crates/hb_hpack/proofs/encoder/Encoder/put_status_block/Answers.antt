use Rattle.std.proofs.Common.{◌++◌, ◌∷◌, [], ◌∙◌, sym, ap, subst, List, ℕ}
use Rattle.hb_hpack.specs.Block.{Reads}
use Rattle.hb_hpack.specs.Encoding.{Writing, opening, status_of, cleared, status_header}
use Rattle.hb_hpack.proofs.Statuses.{status_is}
use Rattle.hb_hpack.proofs.Encoded.{status_is_read}
use Rattle.hb_hpack.proofs.encoder.Encoder.put_status_block.Goals as goal

pub returns-clause-block : goal.returns-clause-block
returns-clause-block c =
    let started = ap (λ (w : Writing). opening w.started) c.self.view_is in
    c.put_status.ensures.block ∙ ap (λ (xs : List ℕ). xs ++ status_of c.args.status) started
    ∙ ap (λ (xs : List ℕ). opening c.args.self.now.started ++ xs) (sym (status_is c.args.status c.requires.low c.requires.high))

pub returns-clause-read : goal.returns-clause-read
returns-clause-read c table may =
    let started = ap (λ (w : Writing). opening w.started) c.self.view_is in
    let written = c.put_status.ensures.block ∙ ap (λ (xs : List ℕ). xs ++ status_of c.args.status) started
    ∙ ap (λ (xs : List ℕ). opening c.args.self.now.started ++ xs) (sym (status_is c.args.status c.requires.low c.requires.high)) in
    subst (λ (block : List ℕ). Reads table block (status_header c.args.status ∷ []) cleared) (sym written)
    (status_is_read c.args.self.now.started c.args.status table may)
