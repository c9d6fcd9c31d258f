-- What an update makes of tunnels.
use Rattle.std.proofs.Common.{◌≡◌, ◌≢◌, ℕ, Bool, true, false, cond, refl, sym, ap, subst, ◌∙◌}
use Rattle.hb_base.specs.declared.cause.Cause.TheVariants as cause
use Rattle.hb_held.specs.Held.{Resources}
use Rattle.hb_table.specs.Judgement.{judged}
use Rattle.hb_table.specs.declared.judgement.Judged.{Judged}
use Rattle.hb_table.specs.declared.judgement.Judged.TheVariants.{Admitted, Unknown, Denied}
use Rattle.hb_inbound.specs.Inbound.{Inbound, judged_by, rejudged}
use Rattle.hb_inbound.specs.Tunnel.{Tunnel, live, ended, takes_place, ends_by}
use Rattle.hb_inbound.specs.Runs.{Local}
use Rattle.hb_disco.specs.declared.response.Response.{Response}
use Rattle.hb_held.specs.Outcome.{after_response}
use Rattle.hb_inbound.specs.Refused.{stage_on, NotAdmitted, WritesRevoked, PutsRevoked, KeepsAdmitted, KeepsPlaceless, EndsOthers}

kept_by : (b : Bool) (t : Tunnel) → cond b t t ≡ t
kept_by true t = refl
kept_by false t = refl

pub keeps_admitted : KeepsAdmitted
keeps_admitted h x s is =
    let t = x.tunnels s in
    ap (λ (j : Judged). cond (takes_place t.stage) (judged_by j t) t) is ∙ kept_by (takes_place t.stage) t

pub keeps_placeless : KeepsPlaceless
keeps_placeless h x s none =
    let t = x.tunnels s in ap (λ (b : Bool). cond b (judged_by (judged h x.peer t.target) t) t) none

ended_by : (j : Judged) (t : Tunnel) → j ≢ Admitted → (judged_by j t).stage ≡ ends_by cause.Revoked t.stage
ended_by Admitted t not = absurd (not refl)
ended_by Unknown t not = refl
ended_by Denied t not = refl

pub ends_others : EndsOthers
ends_others h x s not place =
    let t = x.tunnels s in
    ap (λ (b : Bool). (cond b (judged_by (judged h x.peer t.target) t) t).stage) place
    ∙ ended_by (judged h x.peer t.target) t not

-- a live tunnel that isn't admitted by what is held now ended with the update
revoked : (h : Resources) (x : Inbound) (s : ℕ) → (x.tunnels s).stage ≡ live
    → judged h x.peer (x.tunnels s).target ≢ Admitted → ((rejudged h x).tunnels s).stage ≡ ended cause.Revoked
revoked h x s is not = ends_others h x s not (ap takes_place is) ∙ ap (ends_by cause.Revoked) is

target_by : (j : Judged) (b : Bool) (t : Tunnel) → (cond b (judged_by j t) t).target ≡ t.target
target_by Admitted true t = refl
target_by Unknown true t = refl
target_by Denied true t = refl
target_by j false t = refl

silent : (s : ℕ) (r : Response) (a b : Local) → stage_on a s ≡ live
    → b ≡ record { held = after_response a.held r; link = rejudged (after_response a.held r) a.link }
    → NotAdmitted b s → stage_on b s ≡ ended cause.Revoked
silent s r a b is update not =
    let h = after_response a.held r in
    let t = a.link.tunnels s in
    let same = target_by (judged h a.link.peer t.target) (takes_place t.stage) t in
    subst (λ (y : Local). NotAdmitted y s → stage_on y s ≡ ended cause.Revoked) (sym update)
    (λ no. revoked h a.link s is (λ admitted. no (ap (judged h a.link.peer) same ∙ admitted))) not

pub writes_revoked : WritesRevoked
writes_revoked l s u bytes r a b c is update not step =
    absurd (let both = sym (silent s r a b is update not) ∙ step.0.0.1 in cc)

pub puts_revoked : PutsRevoked
puts_revoked l s bytes r a b c is update not step =
    absurd (let both = sym (silent s r a b is update not) ∙ step.0.2 in cc)
