-- What the answer of a door tells of the verdict and of the peer.
use Rattle.std.proofs.Common.{◌≡◌, true, false, None, ap, ◌∙◌}
use Rattle.std.proofs.lemmas.Bool.{false≢true}
use Rattle.hb_base.specs.declared.door.Door.{Door}
use Rattle.hb_base.specs.declared.door.Door.TheVariants as door
use Rattle.hb_front.specs.Reading.{Seen}
use Rattle.hb_held.specs.Held.{Resources}
use Rattle.hb_table.specs.Judgement.{judged}
use Rattle.hb_table.specs.declared.judgement.Judged.TheVariants.{Admitted}
use Rattle.hb_verdict.proofs.Dialled.{only_where_it_may}
use Rattle.hb_verdict.specs.declared.request.Request.TheVariants.{Connect}
use Rattle.hb_verdict.specs.declared.verdict.Verdict.{Verdict}
use Rattle.hb_verdict.specs.declared.verdict.Verdict.TheVariants.{Status, Reset, Dial}
use Rattle.hb_captured.specs.Answer.{Aim, address_of, aims, straight_to, Routing, by_verdict, verdict_on, answer_on}
use Rattle.hb_captured.specs.Captured.{judges, peer_in}

-- only a verdict that dials gives an aim, which is its address
pub dial_of : (v : Verdict) (aim : Aim) → by_verdict v ≡ aims aim → v ≡ Dial (address_of aim)
dial_of (Dial to) aim is = let same : straight_to to None ≡ aim = cc in ap (λ (a : Aim). Dial (address_of a)) same
dial_of (Status status) aim is = absurd (cc)
dial_of Reset aim is = absurd (cc)

-- a destination that a verdict dials admits the peer
verdict_admits : (h : Resources) (seen : Seen) (aim : Aim) → by_verdict (verdict_on h seen) ≡ aims aim
    → judged h (peer_in seen) seen.destination ≡ Admitted
verdict_admits h seen aim is =
    let may = only_where_it_may (Connect seen.destination) h (peer_in seen) false (address_of aim)
    (dial_of (verdict_on h seen) aim is) in
    let same : seen.destination ≡ address_of aim = (let asked : Connect seen.destination ≡ Connect (address_of aim) = may.asked in cc) in
    ap (λ t. judged h (peer_in seen) t) same ∙ may.admitted

-- where peers are judged, a header whose bytes are to go somewhere admits its peer
pub admits : (d : Door) (h : Resources) (routing : Routing) (seen : Seen) (aim : Aim) → judges d ≡ true
    → answer_on d h routing seen ≡ aims aim → judged h (peer_in seen) seen.destination ≡ Admitted
admits door.Outbound h routing seen aim may is = absurd (false≢true may)
admits door.Inbound h routing seen aim may is = verdict_admits h seen aim is
admits door.Plain h routing seen aim may is = verdict_admits h seen aim is
