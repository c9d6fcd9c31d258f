use Rattle.std.proofs.Common.{◌≡◌, ◌-◌, length, drop, take, inr, ap, ◌∙◌, subst, arith, length-drop}
use Rattle.std.proofs.lemmas.List.{take_all}
use Rattle.hb_conn.specs.Connection.{Connection, taken}
use Rattle.hb_front.specs.Reading.{Seen, IsAnswer, Whole, text_of}
use Rattle.hb_link.specs.Fronting.{begun_with}
use Rattle.hb_link.proofs.link.Link.read_front.Goals as goal

pub returns-in-Ok : goal.returns-in-Ok
returns-in-Ok c =
    let k = c.args.self.now in
    let front = c.in-Whole.front in
    let seen : Seen = record {
      source = front.source;
      destination = front.destination;
      identity = text_of front.identity;
      length = front.length;
    } in
    let bytes = c.bytes-in-Ok.result.now in
    let left : take (length bytes - front.length) (drop front.length bytes) ≡ drop front.length k.front =
    take_all (length bytes - front.length) (drop front.length bytes)
    (let all = length-drop front.length bytes in omega (arith, all)) ∙ ap (drop front.length) c.bytes-in-Ok.ensures in (
      Whole seen,
      subst (λ bs. IsAnswer bs (Whole seen)) c.bytes.ensures c.in-Whole.ensures.answer,
      inr (
        c.in-Ok.identity,
        c.in-Ok.ensures,
        ap (λ (d : Connection). record (begun_with seen c.in-Ok.identity k) { conn = d }) (c.take.ensures.after ∙ ap (taken k.conn) left),
      ),
    )
