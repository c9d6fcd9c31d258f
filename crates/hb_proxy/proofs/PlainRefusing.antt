-- What steps and laws of the whole refuse of plain links.
use Rattle.std.proofs.Common.{◌≡◌, inl, inr, ℕ, List, [], ◌∷◌, ◌++◌, drop, Some, refl, ap, sym, ◌∙◌, arith}
use Rattle.std.proofs.lemmas.Bool.{false≢true}
use Rattle.std.proofs.Math.Seq.{drop-append_seam}
use Rattle.hb_base.specs.declared.cause.Cause.TheVariants as cause
use Rattle.hb_base.specs.declared.door.Door.TheVariants as door
use Rattle.hb_base.specs.declared.door.Why.TheVariants as whys
use Rattle.hb_base.specs.declared.note.Note.{Note}
use Rattle.hb_base.specs.declared.target.Target.{Target}
use Rattle.hb_captured.specs.Captured.{Captured, unborn, fronting, opening, live}
use Rattle.hb_captured.specs.Part as captured
use Rattle.hb_captured.specs.Refused.{IsRevoked}
use Rattle.hb_captured.specs.Runs.{IsTried}
use Rattle.hb_captured.specs.Sides.{judged_in}
use Rattle.hb_disco.specs.declared.response.Response.{Response}
use Rattle.hb_front.specs.Reading.{Seen}
use Rattle.hb_held.specs.Outcome.{after_response}
use Rattle.hb_inbound.specs.Part as part
use Rattle.hb_model.specs.declared.config.NodeConfig.{NodeConfig}
use Rattle.hb_world.specs.declared.entry.Entry.TheVariants as e
use Rattle.hb_proxy.specs.Access.{PlainIsAdmitted}
use Rattle.hb_proxy.specs.Held.{at_start}
use Rattle.hb_proxy.specs.Owners.{nobody, plain_link, relay_of}
use Rattle.hb_proxy.specs.Points.{of_link, of_plain}
use Rattle.hb_proxy.specs.Refused.{PlainComesUnborn, PlainReadsUnborn, PlainReadsUpstream, PlainBehindEnd, PlainDialsTwice}
use Rattle.hb_proxy.specs.Refused.{plain_lived, plain_updated, PlainWritesBehind, PlainEntryBehind, PlainInventsByte, PlainReadsBehind}

-- a link that is tried is born
not_tried : (x : Captured) → x.stage ≡ unborn → IsTried x → ⊥
not_tried x is (inl at) = (let no : unborn ≡ fronting = sym is ∙ at.1 in cc)
not_tried x is (inr (inl at)) = (let no : unborn ≡ opening = sym is ∙ at.1 in cc)
not_tried x is (inr (inr at)) = (let no : unborn ≡ live = sym is ∙ at.1 in cc)

pub plain_comes_unborn : PlainComesUnborn
plain_comes_unborn g x y l bytes is steps = not_tried (x.plain l) is steps.0.1.0

pub plain_reads_unborn : PlainReadsUnborn
plain_reads_unborn bytes law =
    let mine : nobody ≡ plain_link = (law [] (of_plain 1 (captured.entry (e.Came 1 bytes))) [] refl).1 in cc

pub plain_reads_upstream : PlainReadsUpstream
plain_reads_upstream to bytes law =
    let before = of_plain 1 (captured.entry (e.Accepted 1 door.Plain)) ∷ of_plain 1 (captured.up (e.Dialled 2 to (whys.Plain 1))) ∷ [] in
    let mine : relay_of 1 ≡ plain_link = (law before (of_plain 2 (captured.entry (e.Came 2 bytes))) [] refl).1 in cc

pub plain_behind_end : PlainBehindEnd
plain_behind_end g x y l over steps = false≢true (sym steps.1.birth.1 ∙ over)

pub plain_dials_twice : PlainDialsTwice
plain_dials_twice to law = (let same : 3 ≡ 4 = law.relays 2 3 4 refl refl in absurd (omega (arith, same)))

-- behind the update its peer isn't admitted
not_admitted : (g : NodeConfig) (to : Target) (bytes : List ℕ) (seen : Seen) (note : Note) (r : Response)
    → IsRevoked (at_start g) seen r → PlainIsAdmitted g (plain_updated to bytes seen note r) 2 → ⊥
not_admitted g to bytes seen note r not at =
    let same : seen ≡ at.seen = (let told : Some seen ≡ Some at.seen = at.told in cc) in
    not (ap (judged_in (after_response (at_start g) r)) same ∙ at.admitted)

pub plain_writes_behind : PlainWritesBehind
plain_writes_behind g to bytes seen note r byte not law =
    not_admitted g to bytes seen note r not
    (law.plain (plain_updated to bytes seen note r) 2 (captured.up (e.Went 3 (byte ∷ []))) [] refl refl)

pub plain_entry_behind : PlainEntryBehind
plain_entry_behind g to bytes seen note r byte not law =
    let went = e.Went 3 (byte ∷ []) in
    not_admitted g to bytes seen note r not
    ((law (plain_updated to bytes seen note r) (of_plain 2 (captured.up went)) [] refl went 3 refl refl).relay 2 refl refl)

pub plain_invents_byte : PlainInventsByte
plain_invents_byte to header seen note byte is law =
    let up = law.plain_ups 2 3 refl in
    let none : drop seen.length (header ++ []) ≡ [] = ap (λ (n : ℕ). drop n (header ++ [])) (sym is) ∙ drop-append_seam header [] in
    let one : [] ≡ byte ∷ up.rest = sym none ∙ up.front in cc

pub plain_reads_behind : PlainReadsBehind
plain_reads_behind g to bytes seen note more law =
    let at = law (plain_lived to bytes seen note ++ of_plain 2 (captured.up (e.Broke 3)) ∷ []) (of_link 4 (part.entry (e.Came 4 more))) []
    refl in
    let open_yet : 3 ≡ 0 = (at.0.plain 2).up cause.UpFault refl in absurd (omega (arith, open_yet))
