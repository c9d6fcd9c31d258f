-- What a stream in code hears is what the machine's does.
use Rattle.std.proofs.Common.{◌≡◌, ⊎_elim, ◌⊎◌, inl, inr, ℕ, ◌&&◌, not, Bool, true, false, cond, List, Option, Some, None, refl, ap, sym, ◌∙◌, subst}
use Rattle.std.specs.Prelude.{⊤}
use Rattle.std.proofs.lemmas.Bool.{false≢true, cond_both}
use Rattle.hb_base.specs.declared.cause.Cause.{Cause}
use Rattle.hb_model.specs.Discovery.{is_interim}
use Rattle.hb_gateway.specs.Calm.{is_failing}
use Rattle.hb_gateway.specs.Gateway as m
use Rattle.hb_gateway.specs.Gateway.{at_stage}
use Rattle.hb_gateway.specs.Hears.{after, left_behind}
use Rattle.hb_gateway.specs.Part.{Part}
use Rattle.hb_gateway.specs.Response as r
use Rattle.hb_gateway.specs.Response.{fails, answered, headed, brought, ended, failed, is_success, refusal_of, cancel}
use Rattle.hb_gate.specs.Hearing.{reply_for, reply_of, settled, left_by}
use Rattle.hb_gate.specs.Phases.{stage_of}
use Rattle.hb_gate.specs.Shows.{IsStream, ShowsStream}
use Rattle.hb_gate.specs.Streams.{kept}
use Rattle.hb_gate.specs.declared.hearing.Reply.{Reply}
use Rattle.hb_gate.specs.declared.hearing.Reply.TheVariants as reply
use Rattle.hb_gate.specs.declared.hearing.Word.{Word}
use Rattle.hb_gate.specs.declared.hearing.Word.TheVariants as word
use Rattle.hb_gate.specs.declared.stream.Stage.{Stage}
use Rattle.hb_gate.specs.declared.stream.Stage.TheVariants.{Asked, Carrying, Failing, Over}
use Rattle.hb_gate.specs.declared.stream.Stream.{Stream}
use Rattle.hb_gate.proofs.Moved.{kept_shown}

-- THE MACHINE'S WORDS: what a stream hears by a word of the code, with these bytes, and how far it is where that is its end
abbrev pub heard_as : List ℕ → r.Stage → Word → Option r.Heard
heard_as bytes st (word.Headers status end) = headed st status end
heard_as bytes st word.Data = brought st bytes
heard_as bytes st word.End = ended st
heard_as bytes st (word.Gone why) = failed why st

abbrev pub fails_to : Word → r.Stage
fails_to (word.Gone why) = r.over
fails_to w = r.failing cancel

-- and by a reply of the code
abbrev pub heard_for : List ℕ → Reply → Option r.Heard
heard_for bytes reply.Passes = None
heard_for bytes (reply.Opens end) = Some (r.opens end)
heard_for bytes reply.Brings = Some (r.brings bytes)
heard_for bytes reply.Ends = Some r.ends
heard_for bytes (reply.Fails to why) = Some (fails why)

abbrev LeavesAs : Word → Reply → Type 0
LeavesAs w (reply.Fails to why) = fails_to w ≡ stage_of to
LeavesAs w answer = ⊤

-- a reply is what is heard
pub record Matches (bytes : List ℕ) (w : Word) (answer : Reply) (heard : Option r.Heard) : Type 0 where
  pub heard_is : heard ≡ heard_for bytes answer
  pub leaves : LeavesAs w answer

answers_match : (bytes : List ℕ) (status : Option ℕ) (end : Bool)
    → Matches bytes (word.Headers status end) (reply_for (answered status end)) (answered status end)
answers_match bytes status end =
    cond_both (is_interim status && not end) None (cond (is_success status) (Some (r.opens end)) (Some (fails _)))
    (λ (h : Option r.Heard). Matches bytes (word.Headers status end) (reply_for h) h) (λ is. record { heard_is = refl; leaves = tt })
    (λ is. cond_both (is_success status) (Some (r.opens end)) (Some (fails _))
    (λ (h : Option r.Heard). Matches bytes (word.Headers status end) (reply_for h) h) (λ so. record { heard_is = refl; leaves = tt })
    (λ so. record { heard_is = refl; leaves = refl }))

pub matches : (bytes : List ℕ) (st : Stage) (w : Word) → Matches bytes w (reply_of st w) (heard_as bytes (stage_of st) w)
matches bytes Asked (word.Headers status end) = answers_match bytes status end
matches bytes Asked word.Data = record { heard_is = refl; leaves = refl }
matches bytes Asked word.End = record { heard_is = refl; leaves = refl }
matches bytes Asked (word.Gone why) = record { heard_is = refl; leaves = refl }
matches bytes Carrying (word.Headers status end) = record { heard_is = refl; leaves = refl }
matches bytes Carrying word.Data = record { heard_is = refl; leaves = tt }
matches bytes Carrying word.End = record { heard_is = refl; leaves = tt }
matches bytes Carrying (word.Gone why) = record { heard_is = refl; leaves = refl }
matches bytes (Failing code) (word.Headers status end) = record { heard_is = refl; leaves = tt }
matches bytes (Failing code) word.Data = record { heard_is = refl; leaves = tt }
matches bytes (Failing code) word.End = record { heard_is = refl; leaves = tt }
matches bytes (Failing code) (word.Gone why) = record { heard_is = refl; leaves = tt }
matches bytes Over (word.Headers status end) = record { heard_is = refl; leaves = tt }
matches bytes Over word.Data = record { heard_is = refl; leaves = tt }
matches bytes Over word.End = record { heard_is = refl; leaves = tt }
matches bytes Over (word.Gone why) = record { heard_is = refl; leaves = tt }

-- of a stream that isn't there nothing is heard
pub none_heard : (bytes : List ℕ) (st : r.Stage) (w : Word) → (st ≡ r.unused) ⊎ (st ≡ r.over) → heard_as bytes st w ≡ None
none_heard bytes st w (inl is) = ap (λ (st : r.Stage). heard_as bytes st w) is ∙ by w
  where
    by : (w : Word) → heard_as bytes r.unused w ≡ None
    by (word.Headers status end) = refl
    by word.Data = refl
    by word.End = refl
    by (word.Gone why) = refl
none_heard bytes st w (inr is) = ap (λ (st : r.Stage). heard_as bytes st w) is ∙ by w
  where
    by : (w : Word) → heard_as bytes r.over w ≡ None
    by (word.Headers status end) = refl
    by word.Data = refl
    by word.End = refl
    by (word.Gone why) = refl

-- STAGES

pub calm_settled : (active : Bool) (st : r.Stage) → is_failing st ≡ false → m.settled active st ≡ st
calm_settled true st calm = refl
calm_settled false r.unused calm = refl
calm_settled false r.asked calm = refl
calm_settled false r.carrying calm = refl
calm_settled false (r.failing code) calm = absurd (false≢true (sym calm))
calm_settled false r.over calm = refl

settled_as : (active : Bool) (st : Stage) → stage_of (settled active st) ≡ m.settled active (stage_of st)
settled_as true st = refl
settled_as false Asked = refl
settled_as false Carrying = refl
settled_as false (Failing code) = refl
settled_as false Over = refl

left_is : (active : Bool) (answer : Reply) (k : Stream) → left_by active answer k ≡ record k { stage = (left_by active answer k).stage }
left_is active reply.Passes k = refl
left_is active (reply.Opens end) k = refl
left_is active reply.Brings k = refl
left_is active reply.Ends k = refl
left_is active (reply.Fails to why) k = refl

module _ (p : Part) (active : Bool) (w : Word) (left : (why : Cause) → left_behind p why ≡ fails_to w) where
  -- the stage behind a reply
  stage_left : (bytes : List ℕ) (answer : Reply) (k : Stream) → LeavesAs w answer → is_failing (stage_of k.stage) ≡ false
      → m.settled active (after p (stage_of k.stage) (heard_for bytes answer)) ≡ stage_of (left_by active answer k).stage
  stage_left bytes reply.Passes k leaves calm = calm_settled active (stage_of k.stage) calm
  stage_left bytes (reply.Opens end) k leaves calm = calm_settled active r.carrying refl
  stage_left bytes reply.Brings k leaves calm = calm_settled active (stage_of k.stage) calm
  stage_left bytes reply.Ends k leaves calm = calm_settled active (stage_of k.stage) calm
  stage_left bytes (reply.Fails to why) k leaves calm = ap (m.settled active) (left why ∙ leaves) ∙ sym (settled_as active to)

  -- the machine's stream behind it, and told
  abbrev pub told_one : r.Stage → Option r.Heard → m.Stream → m.Stream
  told_one st heard t = record (at_stage (m.settled active (after p st heard)) t) { mail = None }

  pub here_shown : (bytes : List ℕ) (k : Stream) (t : m.Stream) → IsStream k t → t.mail ≡ None → is_failing t.stage ≡ false
      → ShowsStream (kept (left_by active (reply_of k.stage w) k)) (told_one t.stage (heard_as bytes t.stage w) t)
  here_shown bytes k t shown told calm =
      let answer = reply_of k.stage w in
      let match = matches bytes k.stage w in
      let st = (left_by active answer k).stage in
      let stage : m.settled active (after p t.stage (heard_as bytes t.stage w)) ≡ stage_of st =
      ap (λ (s : r.Stage). m.settled active (after p s (heard_as bytes s w))) shown.stage
      ∙ ap (λ (h : Option r.Heard). m.settled active (after p (stage_of k.stage) h)) match.heard_is
      ∙ stage_left bytes answer k match.leaves (sym (ap is_failing shown.stage) ∙ calm) in
      kept_shown (left_by active answer k) _
      (subst (λ (j : Stream). IsStream j (told_one t.stage (heard_as bytes t.stage w) t)) (sym (left_is active answer k))
      (record { stage = stage; captured = shown.captured; mail = sym told ∙ shown.mail; begun = shown.begun }))

  pub gone_shown : (bytes : List ℕ) (t : m.Stream) → ShowsStream None t → ShowsStream None (told_one t.stage (heard_as bytes t.stage w) t)
  gone_shown bytes t shown =
      let heard = none_heard bytes t.stage w shown.0 in
      let calm : is_failing t.stage ≡ false =
      ⊎_elim (λ (is : t.stage ≡ r.unused). ap is_failing is) (λ (is : t.stage ≡ r.over). ap is_failing is) shown.0 in
      let stage : m.settled active (after p t.stage (heard_as bytes t.stage w)) ≡ t.stage =
      ap (λ (h : Option r.Heard). m.settled active (after p t.stage h)) heard ∙ calm_settled active t.stage calm in
      (subst (λ (s : r.Stage). (s ≡ r.unused) ⊎ (s ≡ r.over)) (sym stage) shown.0, refl)
