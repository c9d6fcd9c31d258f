-- Places of tunnels are refused that no lawful trace has.
use Rattle.std.proofs.Common.{◌≡◌, ◌≢◌, ℕ, List, [], ◌∷◌, ◌++◌, Some, refl, ap, ap₂, sym, ◌∙◌, arith}
use Rattle.std.proofs.lemmas.List.{append_assoc}
use Rattle.hb_base.specs.declared.cause.Cause.{Cause}
use Rattle.hb_base.specs.declared.cause.Cause.TheVariants as cause
use Rattle.hb_base.specs.declared.door.Why.TheVariants as whys
use Rattle.hb_base.specs.declared.target.Target.{Target}
use Rattle.hb_held.specs.Held.{Resources}
use Rattle.hb_held.specs.Outcome.{after_response}
use Rattle.hb_inbound.proofs.Life.{life_one, up_one}
use Rattle.hb_inbound.specs.Dials.{DialsAt}
use Rattle.hb_inbound.specs.Ends as life
use Rattle.hb_inbound.specs.Ends.{pending, lives, ends_judged, up_of, EndsAt as PartEndsAt}
use Rattle.hb_inbound.specs.Part as part
use Rattle.hb_inbound.specs.Sides.{peer_of}
use Rattle.hb_model.proofs.Grown.{one_more}
use Rattle.hb_model.specs.Messages.{held}
use Rattle.hb_model.specs.Point as point
use Rattle.hb_model.specs.declared.config.NodeConfig.{NodeConfig}
use Rattle.hb_proxy.proofs.Places.{at_parts}
use Rattle.hb_proxy.specs.Access.{IsAdmitted}
use Rattle.hb_proxy.specs.Held.{at_start}
use Rattle.hb_proxy.specs.Owners.{upstream_of, owner}
use Rattle.hb_proxy.specs.Points.{Point, of_control, entry_in, entries, part_in, parts_of, control_of}
use Rattle.hb_table.specs.Judgement.{judged}
use Rattle.hb_table.specs.declared.judgement.Judged.{Judged}
use Rattle.hb_table.specs.declared.judgement.Judged.TheVariants.{Admitted, Unknown, Denied}
use Rattle.hb_world.specs.declared.entry.Entry.{Entry}
use Rattle.hb_world.specs.declared.entry.Entry.TheVariants as e
use Rattle.hb_laws.specs.Lawful.{Lawful}
use Rattle.hb_laws.specs.RefusedTunnels.{RefusedAt, GoesDenied, DialsElsewhere, KeepsEndedUp, KeepsRevokedUp, ClosesUpForAnother, ClosesLiveUp}
use Rattle.hb_laws.proofs.Lawful.{goes_at, own_in, laws_of}
use Rattle.hb_laws.proofs.Living.{all_closed, up_lives}
use Rattle.hb_laws.proofs.Places.{dial_point, of_upstream}

-- BYTES

pub goes_denied : RefusedAt GoesDenied
goes_denied g trace before behind p z h are is so =
    let goes = is ∙ ap (λ (y : Entry). y ∷ []) so.goes in
    let admits : IsAdmitted g before so.link so.stream =
    (h.access before p behind are (e.Went so.up so.bytes) so.up goes refl).up so.link so.stream so.owned in
    let same_peer : so.peer ≡ admits.peer = (let told : Some so.peer ≡ Some admits.peer = sym so.peer_is ∙ admits.peer_is in cc) in
    let same_target : so.target ≡ admits.target =
    (let told : Some so.target ≡ Some admits.target = sym so.target_is ∙ admits.target_is in cc) in
    so.denied (ap₂ (judged (held g (control_of before))) same_peer same_target ∙ admits.admitted)

-- DIALS

pub dials_elsewhere : RefusedAt DialsElsewhere
dials_elsewhere g trace before behind p z h are is so =
    let at = goes_at g trace h before p behind are in
    let dials = e.Dialled so.up so.other (whys.Upstream so.link so.stream) in
    let p_is = dial_point g at.machine at.next p so.up so.other (whys.Upstream so.link so.stream) at.steps
    (is ∙ ap (λ (y : Entry). y ∷ []) so.dials) in
    let dial = at_parts (λ l. DialsAt (at_start g)) h.points (λ l. ((laws_of g trace h).links l).dials) before so.link
    (part.up so.stream dials)
    behind (are ∙ ap (λ (q : Point). before ++ q ∷ behind) p_is) in
    let both : pending so.target ≡ pending so.other = sym so.pends ∙ dial.pends in
    so.differs (let same : so.target ≡ so.other = cc in same)

-- ENDS

pub keeps_ended : RefusedAt KeepsEndedUp
keeps_ended g trace before behind p z h are is so =
    let at = goes_at g trace h before p behind are in
    let up = up_lives g at.machine before at.run so.up so.link so.stream so.owned so.living in
    let closed = all_closed g trace h before p behind z are is so.more in
    let none = closed.links so.link so.stream so.why so.has_ended in
    absurd (omega (arith, none, up.0, up.1))

-- an update that doesn't admit a live tunnel's peer ends it
judged_ends : (j : Judged) (target : Target) → j ≢ Admitted → ends_judged j (lives target) ≡ life.ended cause.Revoked
judged_ends Admitted target not = absurd (not refl)
judged_ends Unknown target not = refl
judged_ends Denied target not = refl

pub keeps_revoked : RefusedAt KeepsRevokedUp
keeps_revoked g trace before behind p z h are is so =
    let l = so.link in
    let s = so.stream in
    let q = of_control (point.applied so.control so.response) in
    let there = are ∙ ap (λ (ps : List Point). ps ++ p ∷ behind) so.before_is ∙ append_assoc so.front (q ∷ []) (p ∷ behind) in
    let parts = parts_of l so.front in
    let parts_are = ap (parts_of l) so.before_is ∙ one_more (part_in l) so.front q in
    let holds = (h.laws so.front (q ∷ p ∷ behind) there).held l in
    let ends = ap (life.life (at_start g) s) parts_are ∙ life_one (at_start g) s parts (part.applied so.response)
    ∙ ap (λ (r : Resources). life.ends_at (after_response r so.response) (peer_of parts) (life.life (at_start g) s parts)) holds
    ∙ ap₂ (life.ends_at (after_response (held g (control_of so.front)) so.response)) so.peer_is so.lived
    ∙ judged_ends _ so.target so.denied in
    let at = goes_at g trace h so.front q (p ∷ behind) there in
    let up = up_lives g at.machine so.front at.run so.up l s so.owned so.living in
    let closed = all_closed g trace h before p behind z are is so.more in
    let none = closed.links l s cause.Revoked ends in
    let same_up = ap (up_of s) parts_are ∙ up_one s parts (part.applied so.response) in
    absurd (omega (arith, none, same_up, up.0, up.1))

-- CLOSES

-- the upstream of a stream is closed for the cause that ended its tunnel
close_at : (g : NodeConfig) (trace : List Entry) → (h : Lawful g trace) → (before : List Point) (p : Point) (behind : List Point)
    (l s u : ℕ) (why : Cause) → h.points ≡ before ++ p ∷ behind → entry_in p ≡ e.Closed u why ∷ []
    → owner u (entries before) ≡ upstream_of l s → life.life (at_start g) s (parts_of l before) ≡ life.ended why
close_at g trace h before p behind l s u why are is mine =
    let closes = e.Closed u why in
    let p_is = of_upstream before closes u refl p (own_in g trace h before p behind are) is l s mine in
    at_parts (λ k. PartEndsAt (at_start g)) h.points (λ k. ((laws_of g trace h).links k).ends) before l (part.up s closes) behind
    (are ∙ ap (λ (q : Point). before ++ q ∷ behind) p_is)

pub closes_for_another : RefusedAt ClosesUpForAnother
closes_for_another g trace before behind p z h are is so =
    let goes = is ∙ ap (λ (y : Entry). y ∷ []) so.closes in
    let ends = close_at g trace h before p behind so.link so.stream so.up so.why are goes so.owned in
    let both : life.ended so.first ≡ life.ended so.why = sym so.has_ended ∙ ends in
    so.differs (let same : so.first ≡ so.why = cc in same)

pub closes_live : RefusedAt ClosesLiveUp
closes_live g trace before behind p z h are is so =
    let goes = is ∙ ap (λ (y : Entry). y ∷ []) so.closes in
    let ends = close_at g trace h before p behind so.link so.stream so.up so.why are goes so.owned in
    (let both : lives so.target ≡ life.ended so.why = sym so.lived ∙ ends in cc)
