use Rattle.std.proofs.Common.{◌≡◌, ◌+◌, ◌∷◌, [], Some, sym, ap, subst, ◌∙◌}
use Rattle.std.specs.Option.{option_copied}
use Rattle.hb_base.specs.declared.note.Note.TheVariants as note
use Rattle.hb_conn.specs.Connection.{Connection}
use Rattle.hb_inbound.specs.Tunnel.{is_failed}
use Rattle.hb_link.specs.declared.link.Link.{Link}
use Rattle.hb_link.specs.Answering.{left_at, GotFailed, Gives}
use Rattle.hb_link.specs.Noted.{Told, Takes}
use Rattle.hb_link.proofs.Moving.{link_with}
use Rattle.hb_link.proofs.Shown.{is_at}
use Rattle.hb_link.proofs.Turns.{not_failed, other_failed, fails_put, fails_left}
use Rattle.hb_link.proofs.link.Link.answer_failed.Goals as goal
use Rattle.hb_link.proofs.link.Link.answer_failed.Goals.{in-Some-status_of_end, in_default-status_of_end}

pub returns-in_default : goal.returns-in_default
returns-in_default g c =
    not_failed c.args.self.now c.args.stream (g.N.Notes.told c.args.notes.now)
    (ap (is_at is_failed) (sym c.get.ensures ∙ ap option_copied c.in_default.is))

pub returns-in_default-stage : goal.returns-in_default-stage
returns-in_default-stage g c =
    not_failed c.args.self.now c.args.stream (g.N.Notes.told c.args.notes.now)
    (ap (is_at is_failed) (sym c.get.ensures ∙ ap option_copied c.in-Some.is)
    ∙ other_failed c.in-Some.tunnel.now.stage c.in_default-stage.not-Failed)

pub returns : goal.returns
returns g c =
    let k = c.args.self.now in
    let s = c.args.stream in
    let old = c.in-Some.tunnel.now in
    let why = c.in-Failed.cause in
    let told = g.N.Notes.told c.args.notes.now in
    let now = g.N.Notes.told c.match-status_of_end.notes in
    let is = sym c.get.ensures ∙ ap option_copied c.in-Some.is in
    elim c.match-status_of_end.branch [
      | in-Some-status_of_end w ↦
          let n = w.in-Some-status_of_end.status in
          let due = sym c.status_of_end.ensures.value ∙ w.in-Some-status_of_end.is in
          let after = c.leave.ensures ∙ ap (λ (m : Link). record m { tunnels = left_at why m.tunnels s }) w.self-is
          ∙ ap (λ (d : Connection). link_with d (left_at why k.tunnels s) k) w.refuse.ensures in
          let took = subst (λ (t : Told). Takes told (note.Verdict k.number s n k.peer (Some old.target) ∷ []) t)
          (sym (ap g.N.Notes.told w.notes-is)) w.verdict.ensures in
          subst (λ (m : Link). Gives (GotFailed (Some s)) (GotFailed (Some (s + 1))) k told m now) (sym after)
          (fails_put k s told old why is c.in-Failed.is n due now took)
      | in_default-status_of_end w ↦
          let due = sym c.status_of_end.ensures.value ∙ w.in_default-status_of_end.is in
          let after = c.leave.ensures ∙ ap (λ (m : Link). record m { tunnels = left_at why m.tunnels s }) w.self-is in
          let noted : now ≡ told = ap g.N.Notes.told w.notes-is in
          subst (λ (m : Link). Gives (GotFailed (Some s)) (GotFailed (Some (s + 1))) k told m now) (sym after)
          (subst (λ (w : Told). Gives (GotFailed (Some s)) (GotFailed (Some (s + 1))) k told
          (link_with k.conn (left_at why k.tunnels s) k) w) (sym noted)
          (fails_left k s told old why is c.in-Failed.is due))
    ]
