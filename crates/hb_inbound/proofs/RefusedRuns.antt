-- What the laws make of small runs.
use Rattle.std.proofs.Common.{◌≡◌, ◌≢◌, List, [], ◌∷◌, ◌++◌, refl, ap, sym, ◌∙◌, subst, Some, arith}
use Rattle.std.proofs.lemmas.List.{append-nil, append_assoc}
use Rattle.hb_base.specs.declared.cause.Cause.TheVariants as cause
use Rattle.hb_base.specs.declared.door.Why.TheVariants as whys
use Rattle.hb_base.specs.declared.peer.Peer.{Peer}
use Rattle.hb_base.specs.declared.target.Target.{Target}
use Rattle.hb_base.specs.declared.note.Note.{Note}
use Rattle.hb_disco.specs.declared.response.Response.{Response}
use Rattle.hb_front.specs.Reading.{Seen}
use Rattle.hb_held.specs.Held.{Resources}
use Rattle.hb_held.specs.Outcome.{after_response}
use Rattle.hb_table.specs.Judgement.{judged}
use Rattle.hb_table.specs.declared.judgement.Judged.{Judged}
use Rattle.hb_table.specs.declared.judgement.Judged.TheVariants.{Admitted, Unknown, Denied}
use Rattle.hb_world.specs.declared.entry.Entry.TheVariants as e
use Rattle.hb_inbound.specs.Ends.{Life, pending, lives, life, ends_judged, Lives, EndsAt}
use Rattle.hb_inbound.specs.Ends as life
use Rattle.hb_inbound.specs.Access.{AccessAt}
use Rattle.hb_inbound.specs.Part.{Part, entry, up, fronted, put}
use Rattle.hb_inbound.specs.Sides.{AtEach}
use Rattle.hb_inbound.specs.RefusedRuns.{peer_in, lived, IsRevoked, WritesBehind, GoesOnBehind, PutsBehind, ReadsBehind, ClosesForAnother, ClosesAdmitted, DialsUnbidden, GoesOnAdmitted, ClosesRevoked}

-- behind the update the tunnel ended, or lives on
judged_ends : (j : Judged) (target : Target) → j ≢ Admitted → ends_judged j (lives target) ≡ life.ended cause.Revoked
judged_ends Admitted target not = absurd (not refl)
judged_ends Unknown target not = refl
judged_ends Denied target not = refl

pub revoked : (start : Resources) (seen : Seen) (target : Target) (note : Note) (r : Response) → IsRevoked start seen target r
    → life start 1 (lived seen target note r) ≡ life.ended cause.Revoked
revoked start seen target note r not = judged_ends (judged (after_response start r) (peer_in seen) target) target not

pub stays : (start : Resources) (seen : Seen) (target : Target) (note : Note) (r : Response)
    → judged (after_response start r) (peer_in seen) target ≡ Admitted → life start 1 (lived seen target note r) ≡ lives target
stays start seen target note r is = ap (λ (j : Judged). ends_judged j (lives target)) is

-- the law at the last place
pub last : (P : List Part → Part → Type 0) (before : List Part) (p : Part) → AtEach P (before ++ p ∷ []) → P before p
last P before p each = each before p [] refl

pub writes_behind : WritesBehind
writes_behind start seen target note r bytes not law =
    let at = last (AccessAt start) (lived seen target note r) (up 1 (e.Went 3 bytes)) law in
    let same_peer : peer_in seen ≡ at.peer = (let told : Some (peer_in seen) ≡ Some at.peer = at.peer_is in cc) in
    let same_target : target ≡ at.target = (let told : Some target ≡ Some at.target = at.target_is in cc) in
    not (ap (λ (p : Peer). judged (after_response start r) p target) same_peer
    ∙ ap (judged (after_response start r) at.peer) same_target ∙ at.admitted)

pub goes_on_behind : GoesOnBehind
goes_on_behind start seen target note r bytes not law =
    subst Lives (revoked start seen target note r not) (last (EndsAt start) (lived seen target note r) (up 1 (e.Went 3 bytes)) law)

pub puts_behind : PutsBehind
puts_behind start seen target note r bytes not law =
    subst Lives (revoked start seen target note r not) (last (EndsAt start) (lived seen target note r) (put 1 bytes) law)

pub reads_behind : ReadsBehind
reads_behind start seen target note r bytes not law =
    let open_yet : 3 ≡ 0 = last (EndsAt start) (lived seen target note r) (entry (e.Came 2 bytes)) law 1 cause.Revoked
    (revoked start seen target note r not) in
    absurd (omega (arith, open_yet))

pub closes_for_another : ClosesForAnother
closes_for_another start seen target note r not law =
    let is = last (EndsAt start) (lived seen target note r) (up 1 (e.Closed 3 cause.UpFault)) law in
    let other : life.ended cause.Revoked ≡ life.ended cause.UpFault = sym (revoked start seen target note r not) ∙ is in cc

pub closes_admitted : ClosesAdmitted
closes_admitted start seen target note r why is law =
    let at = last (EndsAt start) (lived seen target note r) (up 1 (e.Closed 3 why)) law in
    let other : lives target ≡ life.ended why = sym (stays start seen target note r is) ∙ at in cc

pub dials_unbidden : DialsUnbidden
dials_unbidden start seen target law =
    last (EndsAt start) (fronted seen ∷ []) (up 1 (e.Dialled 3 target (whys.Upstream 2 1))) law

-- a law at each place of a run, one place after another
unfoldable pub Places : (List Part → Part → Type 0) → List Part → List Part → Type 0
Places P before [] = Unit {0}
Places P before (p ∷ parts) = P before p × Places P (before ++ p ∷ []) parts

pub places : (P : List Part → Part → Type 0) (before parts : List Part) → Places P before parts
    → (front : List Part) (p : Part) (behind : List Part) → parts ≡ front ++ p ∷ behind → P (before ++ front) p
unfolding Places
places P before [] each [] p behind are = absurd (let no_more : [] ≡ p ∷ behind = are in cc)
places P before [] each (q ∷ front) p behind are = absurd (let no_more : [] ≡ q ∷ (front ++ p ∷ behind) = are in cc)
places P before (x ∷ parts) each [] p behind are =
    let same : x ≡ p = cc in
    subst (λ (ps : List Part). P ps p) (sym (append-nil before)) (subst (P before) same each.0)
places P before (x ∷ parts) each (q ∷ front) p behind are =
    let same : x ≡ q = cc in
    let rest : parts ≡ front ++ p ∷ behind = cc in
    subst (λ (ps : List Part). P ps p) (append_assoc before (q ∷ []) front)
    (subst (λ (y : Part). P ((before ++ y ∷ []) ++ front) p) same (places P (before ++ x ∷ []) parts each.1 front p behind rest))

pub goes_on_admitted : GoesOnAdmitted
unfolding Places
goes_on_admitted start seen target note r bytes is = (
  places (EndsAt start) [] _
      (tt, (tt, (tt, (tt, (tt, (tt, (subst Lives (sym (stays start seen target note r is)) tt, tt))))))),
  places (AccessAt start) [] _ (
    tt,
    (
      tt,
      (
        tt,
        (
          tt,
          (
            tt,
            (
              tt,
              (
                record {
                  peer = peer_in seen;
                  target = target;
                  peer_is = refl;
                  target_is = refl;
                  admitted = is;
                },
                tt,
              ),
            ),
          ),
        ),
      ),
    ),
  ),
)

pub closes_revoked : ClosesRevoked
unfolding Places
closes_revoked start seen target note r not =
    places (EndsAt start) [] _ (tt, (tt, (tt, (tt, (tt, (tt, (revoked start seen target note r not, tt)))))))
