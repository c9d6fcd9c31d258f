-- What steps and laws of the whole refuse of a link of the outbound door, and what they let.
use Rattle.std.proofs.Common.{◌≡◌, [], ◌∷◌, refl, sym, ◌∙◌, arith}
use Rattle.std.proofs.lemmas.Bool.{false≢true}
use Rattle.hb_base.specs.declared.door.Door.TheVariants as door
use Rattle.hb_base.specs.declared.door.Why.TheVariants as whys
use Rattle.hb_captured.specs.Part as captured
use Rattle.hb_world.specs.declared.entry.Entry.TheVariants as e
use Rattle.hb_proxy.specs.OutboundRefused.{OutboundDialsTwice, OutboundBehindEnd, OutboundReadsUpstream, outbound_begun, OutboundRunMayGo, OutboundRunIsLawful}
use Rattle.hb_proxy.specs.Owners.{plain_link, relay_of}
use Rattle.hb_proxy.specs.Points.{of_plain}
use Rattle.hb_proxy.proofs.Refusing.{captured_may_go, lawful}

pub outbound_dials_twice : OutboundDialsTwice
outbound_dials_twice to other law = (let same : 3 ≡ 4 = law.relays 2 3 4 refl refl in absurd (omega (arith, same)))

pub outbound_behind_end : OutboundBehindEnd
outbound_behind_end g x y l over steps = false≢true (sym steps.1.birth.1 ∙ over)

pub outbound_reads_upstream : OutboundReadsUpstream
outbound_reads_upstream to bytes law =
    let before = of_plain 1 (captured.entry (e.Accepted 1 door.Outbound)) ∷ of_plain 1 (captured.up (e.Dialled 2 to (whys.Direct 1))) ∷ []
    in let mine : relay_of 1 ≡ plain_link = (law before (of_plain 2 (captured.entry (e.Came 2 bytes))) [] refl).1 in cc

pub outbound_run_may_go : OutboundRunMayGo
outbound_run_may_go g some = captured_may_go g door.Outbound tt some

pub outbound_run_is_lawful : OutboundRunIsLawful
outbound_run_is_lawful g some = lawful g (outbound_run_may_go g some).0 (outbound_begun g.discovery) (outbound_run_may_go g some).1
