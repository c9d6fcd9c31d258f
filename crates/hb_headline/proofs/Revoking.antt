-- A tunnel that a response no longer admits doesn't live on.
use Rattle.std.proofs.Common.{◌≡◌, ℕ, ◌<◌, cond, Bool, List, [], ◌∷◌, ◌++◌, length, map, fold, Ok, Result, refl, ap, ap₂, sym, ◌∙◌, arith}
use Rattle.std.specs.List.{flat_map, AllByRecursion}
use Rattle.std.proofs.lemmas.Bool.{eq-eqb}
use Rattle.std.proofs.lemmas.List.{append-nil}
use Rattle.hb_base.specs.declared.target.Target.{Target}
use Rattle.hb_disco.specs.Response.{response_of}
use Rattle.hb_disco.specs.declared.response.Response.{Response}
use Rattle.hb_disco.specs.declared.response.ResponseFault.{ResponseFault}
use Rattle.hb_frames.proofs.FrameLists.{one_reading}
use Rattle.hb_frames.specs.Frames.{AreFrames}
use Rattle.hb_frames.specs.RawFrame.{RawFrame, Spells, spelling}
use Rattle.hb_grpc.specs.Framed.{framed_of}
use Rattle.hb_held.specs.Held.{Resources}
use Rattle.hb_held.specs.Outcome.{after_response}
use Rattle.hb_model.specs.Discovery.{longest_message}
use Rattle.hb_proxy.specs.Held.{at_start}
use Rattle.hb_table.specs.Judgement.{judged}
use Rattle.hb_world.specs.declared.entry.Entry.TheVariants as e
use Rattle.hb_headline.specs.Access.{peer_in}
use Rattle.hb_headline.specs.Good.{data_of}
use Rattle.hb_headline.specs.Held.{Applied, apply, made_by, on_link}
use Rattle.hb_headline.specs.Refused.{revoked_so, KeepsRevoked}
use Rattle.hb_headline.specs.Relay.{data_on}
use Rattle.hb_headline.proofs.Good.{no_frame, lent_whole}
use Rattle.hb_headline.proofs.OneTarget.{one_dial}
use Rattle.hb_headline.proofs.Refused.{each_first}

spells : (payload : List ℕ) → length payload < 16777216 → Spells (data_of payload) (spelling (data_of payload))
spells payload most = record {
  fits = record { kind = omega arith; flags = omega arith; stream = omega arith; size = most };
  reserved = 0;
  bit = omega arith;
  whole = refl;
}

two_frames : (f h : RawFrame) (a b : List ℕ) → Spells f a → Spells h b → AreFrames (a ++ (b ++ [])) (f ∷ h ∷ []) []
two_frames f h a b first second =
    record { joined = (a, b ++ [], first, refl, (b, [], second, refl, refl)); partial = no_frame }

both_lent : (a b : List ℕ) → data_on 1 (data_of a ∷ data_of b ∷ []) ≡ a ++ b
both_lent a b =
    ap₂ (λ (xs ys : List ℕ). xs ++ (ys ++ [])) (lent_whole a) (lent_whole b) ∙ ap (λ (ys : List ℕ). a ++ ys) (append-nil b)

abbrev are_ok : List Response → List (Result Response ResponseFault)
are_ok rs = map Ok rs

ok_same : (rs : List Response) (a b : Response) → are_ok rs ≡ are_ok (a ∷ b ∷ []) → rs ≡ a ∷ b ∷ []
ok_same [] a b is = absurd cc
ok_same (x ∷ []) a b is = absurd cc
ok_same (x ∷ y ∷ []) a b is = cc
ok_same (x ∷ y ∷ z ∷ rs) a b is = absurd cc

-- where all are of one link they are its responses
made_on : (held : Resources) (applied : List Applied) → AllByRecursion (λ a. a.link ≡ 1) applied
    → fold apply held applied ≡ fold after_response held (flat_map (on_link 1) applied)
made_on held [] only = refl
made_on held (a ∷ applied) only =
    let here : on_link 1 a ≡ a.response ∷ [] = ap (λ (b : Bool). cond b (a.response ∷ []) []) (eq-eqb a.link 1 only.0) in
    made_on (apply held a) applied only.1
    ∙ ap (λ (rs : List Response). fold after_response held (rs ++ flat_map (on_link 1) applied)) (sym here)

pub keeps_revoked : KeepsRevoked
keeps_revoked at to first came later a b g small short read none met =
    let before = revoked_so at to first came later in
    let told = met.held.told before (e.Tick ∷ []) refl in
    let all = met.held.at_once before e.Tick [] refl refl 1 refl refl refl in
    let frames : all.frames ≡ data_of first ∷ data_of later ∷ [] =
    (one_reading (spelling (data_of first) ++ (spelling (data_of later) ++ [])) all.partial [] all.frames
    (data_of first ∷ data_of later ∷ []) all.framed
    (two_frames (data_of first) (data_of later) (spelling (data_of first)) (spelling (data_of later)) (spells first small)
    (spells later short))).0 in
    let responses : flat_map (on_link 1) (met.applied before) ≡ a ∷ b ∷ [] =
    ok_same (flat_map (on_link 1) (met.applied before)) a b
    (sym all.read
    ∙ ap (λ (bs : List ℕ). map response_of (framed_of longest_message bs).messages) (ap (data_on 1) frames ∙ both_lent first later)
    ∙ read) in
    let held : made_by g (met.applied before) ≡ after_response (after_response (at_start g) a) b =
    made_on (at_start g) (met.applied before) (each_first (met.applied before) told.only)
    ∙ ap (fold after_response (at_start g)) responses in
    let is = (met.revoked before e.Tick [] refl refl).tunnels 2 1 3 refl refl in
    let there = one_dial _ 2 1 3 to is.to refl is.dialled in
    none (peer_in is.seen)
    (ap₂ (λ (h : Resources) (t : Target). judged h (peer_in is.seen) t) (sym held) (sym there) ∙ is.admitted)
