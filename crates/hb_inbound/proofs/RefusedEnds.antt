-- What the laws of ends and of bytes make of more small runs.
use Rattle.std.proofs.Common.{◌≡◌, ◌≢◌, Bool, false, cond, [], ◌∷◌, ◌++◌, refl, sym, ◌∙◌, subst}
use Rattle.std.proofs.lemmas.Bool.{eq-eqb}
use Rattle.std.proofs.lemmas.List.{append-nil}
use Rattle.hb_base.specs.declared.cause.Cause.TheVariants as cause
use Rattle.hb_base.specs.declared.door.Why.TheVariants as whys
use Rattle.hb_base.specs.declared.target.Target.{Target}
use Rattle.hb_disco.specs.declared.response.Response.{Response}
use Rattle.hb_frames.specs.Bodies.{lent_of}
use Rattle.hb_front.specs.Reading.{Seen}
use Rattle.hb_held.specs.Held.{Resources}
use Rattle.hb_held.specs.Outcome.{after_response}
use Rattle.hb_table.specs.Judgement.{judged}
use Rattle.hb_table.specs.declared.judgement.Judged.{Judged}
use Rattle.hb_table.specs.declared.judgement.Judged.TheVariants.{Admitted, Unknown, Denied}
use Rattle.hb_verdict.specs.declared.verdict.Verdict.TheVariants.{Dial}
use Rattle.hb_world.specs.declared.entry.Entry.TheVariants as e
use Rattle.hb_inbound.specs.Ends.{Life, pending, lives, life, ends_judged, Lives, IsPending, EndsAt}
use Rattle.hb_inbound.specs.Ends as life
use Rattle.hb_inbound.specs.Part.{up, fronted, decided, accepted, finished, applied}
use Rattle.hb_inbound.specs.RefusedEnds.{FinishesBehind, pended, DialsBehind, OpensBehind, ClosesUnended, ShutsPending, LosesByte}
use Rattle.hb_inbound.specs.RefusedRuns.{peer_in, lived, IsRevoked}
use Rattle.hb_inbound.proofs.RefusedRuns.{last, revoked}

pub finishes_behind : FinishesBehind
finishes_behind start seen target note r not law =
    subst Lives (revoked start seen target note r not) (last (EndsAt start) (lived seen target note r) (finished 1) law)

-- behind the update the pending tunnel ended
judged_pending : (j : Judged) (target : Target) → j ≢ Admitted → ends_judged j (pending target) ≡ life.ended cause.Revoked
judged_pending Admitted target not = absurd (not refl)
judged_pending Unknown target not = refl
judged_pending Denied target not = refl

pending_revoked : (start : Resources) (seen : Seen) (target : Target) (r : Response) → IsRevoked start seen target r
    → life start 1 (pended seen target ++ applied r ∷ []) ≡ life.ended cause.Revoked
pending_revoked start seen target r not = judged_pending (judged (after_response start r) (peer_in seen) target) target not

undialled_revoked : (start : Resources) (seen : Seen) (target : Target) (r : Response) → IsRevoked start seen target r
    → life start 1 (fronted seen ∷ decided 1 false (Dial target) ∷ applied r ∷ []) ≡ life.ended cause.Revoked
undialled_revoked start seen target r not = judged_pending (judged (after_response start r) (peer_in seen) target) target not

pub dials_behind : DialsBehind
dials_behind start seen target r not law =
    let before = fronted seen ∷ decided 1 false (Dial target) ∷ applied r ∷ [] in
    subst IsPending (undialled_revoked start seen target r not)
    (last (EndsAt start) before (up 1 (e.Dialled 3 target (whys.Upstream 2 1))) law)

pub opens_behind : OpensBehind
opens_behind start seen target r not law =
    subst IsPending (pending_revoked start seen target r not)
    (last (EndsAt start) (pended seen target ++ applied r ∷ []) (up 1 (e.Opened 3)) law)

pub closes_unended : ClosesUnended
closes_unended start seen target note why law =
    let before = pended seen target ++ up 1 (e.Opened 3) ∷ accepted 1 note ∷ [] in
    let at : lives target ≡ life.ended why = last (EndsAt start) before (up 1 (e.Closed 3 why)) law in cc

pub shuts_pending : ShutsPending
shuts_pending start seen target law = last (EndsAt start) (pended seen target) (up 1 (e.Shut 3)) law

pub loses_byte : LosesByte
loses_byte s u first second third f headers is apart relays =
    let front : lent_of f ++ [] ≡ ((first ∷ third ∷ []) ++ []) ++ relays.rest =
    subst (λ (b : Bool). cond b (lent_of f) [] ++ [] ≡ (cond b (first ∷ third ∷ []) [] ++ []) ++ relays.rest)
    (eq-eqb s s refl) relays.front in
    let all : first ∷ second ∷ third ∷ [] ≡ first ∷ third ∷ relays.rest = sym is ∙ sym (append-nil (lent_of f)) ∙ front in
    apart (cc)
