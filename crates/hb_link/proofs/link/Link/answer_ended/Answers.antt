use Rattle.std.proofs.Common.{◌+◌, ◌∷◌, [], Some, sym, ap, subst, ◌∙◌}
use Rattle.std.specs.Option.{option_copied}
use Rattle.hb_base.specs.declared.note.Note.TheVariants as note
use Rattle.hb_conn.specs.Connection.{Connection}
use Rattle.hb_inbound.specs.Tunnel.{is_ended}
use Rattle.hb_link.specs.declared.link.Link.{Link}
use Rattle.hb_link.specs.Answering.{left_at, GotEnded, Gives}
use Rattle.hb_link.specs.Noted.{Takes}
use Rattle.hb_link.proofs.Moving.{link_with}
use Rattle.hb_link.proofs.Shown.{is_at}
use Rattle.hb_link.proofs.Turns.{not_ended, other_ended, ends_put, ends_left}
use Rattle.hb_link.proofs.link.Link.answer_ended.Goals as goal
use Rattle.hb_link.proofs.link.Link.answer_ended.Goals.{in-Some-code_of_end, in_default-code_of_end}

pub returns-in_default : goal.returns-in_default
returns-in_default g c =
    not_ended c.args.self.now c.args.stream (g.N.Notes.told c.args.notes.now)
    (ap (is_at is_ended) (sym c.get.ensures ∙ ap option_copied c.in_default.is))

pub returns-in_default-stage : goal.returns-in_default-stage
returns-in_default-stage g c =
    not_ended c.args.self.now c.args.stream (g.N.Notes.told c.args.notes.now)
    (ap (is_at is_ended) (sym c.get.ensures ∙ ap option_copied c.in-Some.is)
    ∙ other_ended c.in-Some.tunnel.now.stage c.in_default-stage.not-Ended)

pub returns : goal.returns
returns g c =
    let k = c.args.self.now in
    let s = c.args.stream in
    let old = c.in-Some.tunnel.now in
    let why = c.in-Ended.cause in
    let told = g.N.Notes.told c.args.notes.now in
    let now = g.N.Notes.told c.end.new.self in
    let is = sym c.get.ensures ∙ ap option_copied c.in-Some.is in
    elim c.match-code_of_end.branch [
      | in-Some-code_of_end w ↦
          let n = w.in-Some-code_of_end.code in
          let due = sym c.code_of_end.ensures ∙ w.in-Some-code_of_end.is in
          let after = c.leave.ensures ∙ ap (λ (m : Link). record m { tunnels = left_at why m.tunnels s }) w.self-is
          ∙ ap (λ (d : Connection). link_with d (left_at why k.tunnels s) k) w.put_reset.ensures in
          let took = subst (λ (m : Link). Takes told (note.End m.number s why old.went_up old.went_down ∷ []) now) w.self-is c.end.ensures in
          subst (λ (m : Link). Gives (GotEnded (Some s)) (GotEnded (Some (s + 1))) k told m now) (sym after)
          (ends_put k s told old why is c.in-Ended.is n due now took)
      | in_default-code_of_end w ↦
          let due = sym c.code_of_end.ensures ∙ w.in_default-code_of_end.is in
          let after = c.leave.ensures ∙ ap (λ (m : Link). record m { tunnels = left_at why m.tunnels s }) w.self-is in
          let took = subst (λ (m : Link). Takes told (note.End m.number s why old.went_up old.went_down ∷ []) now) w.self-is c.end.ensures in
          subst (λ (m : Link). Gives (GotEnded (Some s)) (GotEnded (Some (s + 1))) k told m now) (sym after)
          (ends_left k s told old why is c.in-Ended.is due now took)
    ]
