-- The lives of three links of the plain door are runs of the machine.
use Rattle.std.proofs.Common.{◌≡◌, ◌≢◌, inl, inr, ℕ, zero, suc, true, false, List, [], ◌∷◌, ◌++◌, Some, None, refl, ap, subst, arith}
use Rattle.hb_base.specs.declared.cause.Cause.TheVariants as cause
use Rattle.hb_base.specs.declared.door.Door.{Door}
use Rattle.hb_base.specs.declared.door.Door.TheVariants as door
use Rattle.hb_base.specs.declared.door.Why.TheVariants as whys
use Rattle.hb_disco.specs.declared.response.Response.{Response}
use Rattle.hb_frames.specs.Frames.{AreOctets}
use Rattle.hb_front.specs.Reading.{Seen, IsAnswer, More}
use Rattle.hb_held.specs.Held.{Resources}
use Rattle.hb_held.specs.Outcome.{after_response}
use Rattle.hb_table.specs.declared.judgement.Judged.{Judged}
use Rattle.hb_table.specs.declared.judgement.Judged.TheVariants.{Admitted, Unknown, Denied}
use Rattle.hb_tunnel.specs.Tunnel.{dialling}
use Rattle.hb_verdict.specs.declared.verdict.Verdict.TheVariants.{Dial}
use Rattle.hb_world.specs.declared.entry.Entry.TheVariants as e
use Rattle.hb_captured.specs.Answer.{Aim, straight_to, aims, unrouted, by_verdict, verdict_on, answer_on}
use Rattle.hb_captured.specs.Captured.{Captured, no_link, due, fronting, live, ended, peer_in, at_stage, identity_noted, judged_by}
use Rattle.hb_captured.specs.Part.{Part, entry, up, welcomed, fronted, refused, accepted, left, done, applied}
use Rattle.hb_captured.specs.Rows.{IsHeader, abc, def, refused_note, RefusedMayGo, accepted_note, living, DoneMayGo, RevokedMayGo}
use Rattle.hb_captured.specs.Runs.{Local, Captures, MayGo, next, StandsFor, begins, goes_on, end_note}
use Rattle.hb_captured.specs.Sides.{judged_in}

-- one part more
pub then : {start : Resources} {a : Local} {parts : List Part} → StandsFor 2 start a parts → (p : Part) → MayGo 2 a p
    → StandsFor 2 start (next a p) (parts ++ p ∷ [])
then stands p may = goes_on stands p (may, refl) refl

fresh : (start : Resources) → StandsFor 2 start (record { held = start; link = no_link }) []
fresh start = begins refl refl

-- nothing came of a header yet
more_first : IsAnswer [] More
more_first = (refl, omega arith)

-- it is taken in, and bytes come
abbrev pub at_front : Resources → Door → List ℕ → Local
at_front start door came = record { held = start; link = record no_link { door = door; stage = fronting; front = came } }

pub arrives : (start : Resources) (door : Door) → Captures door → (came rest : List ℕ) (seen : Seen) → IsHeader came seen rest
    → StandsFor 2 start (at_front start door came) (entry (e.Accepted 2 door) ∷ welcomed ∷ entry (e.Came 2 came) ∷ [])
arrives start door captures came rest seen is =
    then (then (then (fresh start) (entry (e.Accepted 2 door)) (refl, refl, captures)) welcomed refl) (entry (e.Came 2 came))
    (refl, (inl ((more_first, tt), refl), omega arith), (is.octets, is.some, is.short))

pub refused_may_go : RefusedMayGo
refused_may_go start came seen is status = record {
  link = _;
  stands = then (then (arrives start door.Plain tt came [] seen is) (refused seen unrouted (cause.Refused 401) 401 (refused_note seen))
      ((refl, is.whole), ap by_verdict status, refl))
      (entry (e.Closed 2 (cause.Refused 401))) (refl, refl, refl, refl);
  notes = refl;
}

-- its bytes are to go there, and these wait
abbrev pub at_due : Resources → Door → Aim → Seen → List ℕ → Local
at_due start door aim seen held = record {
  held = start;
  link = record no_link {
    door = door;
    stage = due;
    peer = peer_in seen;
    target = seen.destination;
    identity = identity_noted door seen.identity;
    aim = aim;
    ways = record dialling { up = record { held = held; has_ended = false } };
  };
}

pub fronts : (start : Resources) (door : Door) → Captures door → (aim : Aim) (came rest : List ℕ) (seen : Seen)
    → IsHeader came seen rest → answer_on door start unrouted seen ≡ aims aim
    → StandsFor 2 start (at_due start door aim seen rest)
    (entry (e.Accepted 2 door) ∷ welcomed ∷ entry (e.Came 2 came) ∷ fronted seen unrouted aim ∷ [])
fronts start door captures aim came rest seen is asks =
    subst (λ (bs : List ℕ). StandsFor 2 start (at_due start door aim seen bs)
    (entry (e.Accepted 2 door) ∷ welcomed ∷ entry (e.Came 2 came) ∷ fronted seen unrouted aim ∷ [])) is.behind
    (then (arrives start door captures came rest seen is) (fronted seen unrouted aim) ((refl, is.whole), asks))

pub def_octets : AreOctets def
def_octets zero = omega arith
def_octets (suc zero) = omega arith
def_octets (suc (suc zero)) = omega arith
def_octets (suc (suc (suc n))) = omega arith

-- behind three bytes each way
abbrev at_live : Resources → Seen → Local
at_live start seen = record {
  held = start;
  link = record no_link {
    stage = live;
    peer = peer_in seen;
    target = seen.destination;
    aim = straight_to seen.destination None;
    up = 3;
    ways = record dialling { is_open = true };
    went_up = 3;
    went_down = 3;
  };
}

lives_so : (start : Resources) (came : List ℕ) (seen : Seen) → IsHeader came seen abc → verdict_on start seen ≡ Dial seen.destination
    → StandsFor 2 start (at_live start seen) (living came seen)
lives_so start came seen is dialled =
    let s1 = then (fronts start door.Plain tt (straight_to seen.destination None) came abc seen is (ap by_verdict dialled))
    (up (e.Dialled 3 seen.destination (whys.Plain 2))) ((tt, refl, refl, refl), refl, omega arith, (λ same. omega (arith, same))) in
    let s2 = then s1 (up (e.Opened 3)) (((tt, tt), refl), refl, omega arith) in
    let s3 = then s2 (accepted (accepted_note door.Plain seen)) (refl, refl) in
    let s4 = then s3 (up (e.Went 3 abc)) ((((refl, (refl, refl)), refl), refl, omega arith), (omega arith, ([], refl))) in
    let s5 = then s4 (up (e.Came 3 def)) ((((refl, (refl, refl)), refl), refl, omega arith), (def_octets, omega arith, omega arith)) in
    then s5 (entry (e.Went 2 def)) (refl, ((refl, (refl, refl)), refl), (omega arith, ([], refl)))

pub done_may_go : DoneMayGo
done_may_go start came seen is dialled =
    let s1 = then (lives_so start came seen is dialled) (entry (e.Ended 2)) (refl, (inr (inr ((refl, (refl, refl)), refl)), omega arith)) in
    let s2 = then s1 (up (e.Shut 3)) (refl, refl, refl, omega arith, refl) in
    let s3 = then s2 (up (e.Ended 3)) ((((refl, (refl, refl)), refl), refl, omega arith), omega arith) in
    let s4 = then s3 (done (end_note 2 cause.Done 3 3)) (refl, refl, refl, refl) in
    let s5 = then s4 (entry (e.Closed 2 cause.Done)) (refl, refl, refl, refl) in
    record { link = _; stands = then s5 (up (e.Closed 3 cause.Done)) (refl, refl, refl, omega arith); notes = refl }

-- behind the response it ended
abbrev at_end : Resources → Seen → Response → Local
at_end start seen r =
    record { held = after_response start r; link = record (at_live start seen).link { stage = ended cause.Revoked } }

revokes : (start : Resources) (seen : Seen) (j : Judged) → j ≢ Admitted
    → judged_by j (at_live start seen).link ≡ at_stage (ended cause.Revoked) (at_live start seen).link
revokes start seen Admitted not = absurd (not refl)
revokes start seen Unknown not = refl
revokes start seen Denied not = refl

pub revoked_may_go : RevokedMayGo
revoked_may_go start came seen r is dialled not =
    let h = after_response start r in
    let s1 : StandsFor 2 start (at_end start seen r) (living came seen ++ applied r ∷ []) =
    subst (λ (x : Captured). StandsFor 2 start (record { held = h; link = x }) (living came seen ++ applied r ∷ []))
    (revokes start seen (judged_in h seen) not) (then (lives_so start came seen is dialled) (applied r) tt) in
    let s2 = then s1 (left (Some (end_note 2 cause.Revoked 3 3))) (refl, refl) in
    let s3 = then s2 (entry (e.Closed 2 cause.Revoked)) (refl, refl, refl, refl) in
    record { link = _; stands = then s3 (up (e.Closed 3 cause.Revoked)) (refl, refl, refl, omega arith); notes = refl }
