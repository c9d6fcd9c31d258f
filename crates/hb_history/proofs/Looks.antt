-- Frames that are looked at, and what is held of the octets then.
use Rattle.std.proofs.Common.{◌≡◌, ℕ, ◌+◌, ◌≤◌, List, [], ◌∷◌, ◌++◌, length, take, drop, Option, Some, None, Result, Ok, Err, refl, ap, sym, ◌∙◌, subst, arith}
use Rattle.std.proofs.lemmas.Bool.{false≢true}
use Rattle.std.proofs.lemmas.List.{append_assoc, append-nil, take-append-drop}
use Rattle.std.specs.Prelude.{slice_index}
use Rattle.hb_frames.specs.RawFrame.{RawFrame, Spells, raw_at, size_at}
use Rattle.hb_frames.specs.Frames.{Joins, AreOctets}
use Rattle.hb_frames.specs.Bodies.{lent_of}
use Rattle.hb_frames.specs.Reading.{Reading, asked, after_frame, first_of}
use Rattle.hb_frames.specs.declared.refusal.Refusal.{Refusal}
use Rattle.hb_frames.proofs.Histories.{joins_push}
use Rattle.hb_frames.proofs.Runs.{octets_drop, first_some}
use Rattle.hb_frames.proofs.Spelling.{raw_is_spelled}
use Rattle.hb_outgoing.specs.Waiting.{Waiting}
use Rattle.hb_conn.specs.Glance.{glance_at, glance_by, glance_of}
use Rattle.hb_conn.specs.Handling.{Handles}
use Rattle.hb_conn.specs.Receiving.{Steps, Passes}
use Rattle.hb_conn.specs.declared.machine.Core.{Core}
use Rattle.hb_conn.specs.declared.receiver.Receiver.{Receiver}
use Rattle.hb_conn.specs.declared.found.Found.{Found}
use Rattle.hb_conn.specs.declared.found.Found.TheVariants.{Silent}
use Rattle.hb_conn.specs.declared.glance.Glance.{Glance}
use Rattle.hb_conn.specs.declared.glance.Glance.TheVariants as glance
use Rattle.hb_history.specs.Points.{Move, got, refused, Point, point, After, Runs, got_by, frames_got}
use Rattle.hb_history.specs.Calls.{IsLook, IsAct}
use Rattle.hb_history.proofs.Acted.{look_keeps, act_keeps}
use Rattle.hb_history.proofs.Handled.{window_keeps}
use Rattle.hb_history.proofs.Glanced.{something, is_nothing}
use Rattle.hb_history.proofs.Shown.{OfOut, out_keeps, out_puts, out_resizes, out_grows, rest_keeps, rest_puts, rest_acks}

-- what a look does to what is held
pub record Holds (old new : Reading) (frames : List RawFrame) : Type 0 where
  pub octets : AreOctets old.held → AreOctets new.held
  pub joins : AreOctets old.held → (fs : List RawFrame) (bytes : List ℕ) → Joins fs old.held bytes → Joins (fs ++ frames) new.held bytes

pub held_on : (old mid new : Reading) (fs gs : List RawFrame) → Holds old mid fs → Holds mid new gs → Holds old new (fs ++ gs)
held_on old mid new fs gs first then = record {
  octets = λ octets. then.octets (first.octets octets);
  joins = λ octets hs bytes joins.
      subst (λ (xs : List RawFrame). Joins xs new.held bytes) (append_assoc hs fs gs)
      (then.joins (first.octets octets) (hs ++ fs) bytes (first.joins octets hs bytes joins));
}

pub held_same : (old new : Reading) → new.held ≡ old.held → Holds old new []
held_same old new is = record {
  octets = λ octets. subst AreOctets (sym is) octets;
  joins = λ octets fs bytes joins.
      subst (λ (xs : List RawFrame). Joins xs new.held bytes) (sym (append-nil fs))
      (subst (λ (xs : List ℕ). Joins fs xs bytes) (sym is) joins);
}

held_frame : (r : Reading) (n : ℕ) → first_of r.max r.held ≡ Ok (Some n) → Holds r (after_frame r (Ok (Some n))) (raw_at r.held ∷ [])
held_frame r n is = record {
  octets = λ octets. octets_drop n r.held octets;
  joins = λ octets fs bytes joins.
      let t = first_some r.max n r.held is in
      let whole : 9 + size_at r.held ≤ length r.held = omega (arith, t.size, t.whole) in
      let spells : Spells (raw_at r.held) (take n r.held) =
      subst (λ (k : ℕ). Spells (raw_at r.held) (take k r.held)) (sym t.size) (raw_is_spelled r.held octets whole) in
      joins_push fs (raw_at r.held) r.held bytes (take n r.held) (drop n r.held) joins spells (sym (take-append-drop n r.held));
}

-- one look
pub record Look (old new : Receiver) (told : Found) : Type 0 where
  pub move : Move
  pub is : IsLook move
  pub after : After old.core move new.core told
  pub holds : Holds old.reader new.reader (got_by (point move told))

look_by : (old new : Receiver) (told : Found) (o : Result (Option ℕ) Refusal) → first_of old.reader.max old.reader.held ≡ o
    → Steps old new told → Look old new told
look_by old new told (Ok None) is steps = absurd (steps.whole (ap (glance_by old.reader) is))
look_by old new told (Ok (Some n)) is steps =
    let f = raw_at old.reader.held in
    let glanced : glance_of old.reader ≡ glance_at f = ap (glance_by old.reader) is in
    let there : asked old.reader ≡ after_frame old.reader (Ok (Some n)) = ap (after_frame old.reader) is in
    let lent : (asked old.reader).last ≡ lent_of f = ap (λ (r : Reading). r.last) there in
    record {
      move = got f;
      is = tt;
      after = (
        steps.goes,
        subst (λ (g : Glance). Handles old.core g (lent_of f) new.core told) glanced
            (subst (λ (xs : List ℕ). Handles old.core (glance_of old.reader) xs new.core told) lent steps.handled),
      );
      holds = subst (λ (r : Reading). Holds old.reader r (f ∷ [])) (sym (steps.reader ∙ there)) (held_frame old.reader n is);
    }
look_by old new told (Err refusal) is steps =
    let r = old.reader in
    let g = glance.Refused refusal.code refusal.row (slice_index r.held 3) (slice_index r.held 4) in
    let glanced : glance_of r ≡ g = ap (glance_by r) is in
    let there : asked r ≡ after_frame r (Err refusal) = ap (after_frame r) is in
    let lent : (asked r).last ≡ [] = ap (λ (s : Reading). s.last) there in
    record {
      move = refused refusal (slice_index r.held 3) (slice_index r.held 4);
      is = tt;
      after = (
        steps.goes,
        subst (λ (h : Glance). Handles old.core h [] new.core told) glanced
            (subst (λ (xs : List ℕ). Handles old.core (glance_of r) xs new.core told) lent steps.handled),
      );
      holds = held_same r new.reader (ap (λ (s : Reading). s.held) (steps.reader ∙ there));
    }

pub look_of : (old new : Receiver) (told : Found) → Steps old new told → Look old new told
look_of old new told steps = look_by old new told (first_of old.reader.max old.reader.held) refl steps

asked_by : (r : Reading) (o : Result (Option ℕ) Refusal) → first_of r.max r.held ≡ o → glance_of r ≡ glance.Nothing
    → (asked r).held ≡ r.held
asked_by r (Ok None) is none = ap (λ o. (after_frame r o).held) is
asked_by r (Ok (Some n)) is none =
    absurd (false≢true (sym (something (raw_at r.held)) ∙ ap is_nothing (sym (ap (glance_by r) is) ∙ none)))
asked_by r (Err refusal) is none = ap (λ o. (after_frame r o).held) is

-- where no whole frame is there, what is held stays
pub asked_in_vain : (r : Reading) → glance_of r ≡ glance.Nothing → (asked r).held ≡ r.held
asked_in_vain r none = asked_by r (first_of r.max r.held) refl none

-- a look leaves what is left of what was begun, and so does an act
abbrev Leaves : List ℕ → Waiting → Type 0
Leaves rest w = w.rest ≡ rest

pub look_rest : (c : Core) (m : Move) (new : Core) (told : Found) → IsLook m → After c m new told → new.out.rest ≡ c.out.rest
look_rest c m new told look after =
    let Q : Waiting → Type 0 = Leaves c.out.rest in
    let k = rest_keeps c.out.rest in
    look_keeps (OfOut Q) (out_keeps Q k) (out_resizes Q k) (rest_acks c.out.rest) c m new told look refl
    (λ s n. window_keeps (OfOut Q) (out_keeps Q k) c s n (out_grows Q k c s n refl)) after

pub act_rest : (c : Core) (m : Move) (new : Core) (told : Found) → IsAct m → After c m new told → new.out.rest ≡ c.out.rest
act_rest c m new told act after =
    let Q : Waiting → Type 0 = Leaves c.out.rest in
    act_keeps (OfOut Q) (out_keeps Q (rest_keeps c.out.rest)) c (λ s bytes. out_puts Q (rest_puts c.out.rest) c s bytes refl) m new told act
    refl after

-- looks of which nothing is told
abbrev pub ArePassed : List Point → Type 0
ArePassed [] = Unit {0}
ArePassed (p ∷ ps) = IsLook p.move × (p.told ≡ Silent) × ArePassed ps

pub record Trail (old new : Receiver) : Type 0 where
  pub points : List Point
  pub passed : ArePassed points
  pub leads : Runs old.core points new.core
  pub holds : Holds old.reader new.reader (frames_got points)

pub trail_of : (through : List Receiver) (old new : Receiver) → Passes through old new → Trail old new
trail_of [] old new passes = record {
  points = [];
  passed = tt;
  leads = ap (λ (r : Receiver). r.core) passes;
  holds = held_same old.reader new.reader (ap (λ (r : Receiver). r.reader.held) passes);
}
trail_of (mid ∷ more) old new passes =
    let look = look_of old mid Silent passes.0 in
    let later = trail_of more mid new passes.1 in
    record {
      points = point look.move Silent ∷ later.points;
      passed = (look.is, refl, later.passed);
      leads = (mid.core, look.after, later.leads);
      holds = held_on old.reader mid.reader new.reader _ _ look.holds later.holds;
    }

-- what follows changes neither what is held nor what the moves made
pub trail_same : (old mid new : Receiver) → Trail old mid → new.core ≡ mid.core → new.reader.held ≡ mid.reader.held → Trail old new
trail_same old mid new trail core held = record {
  points = trail.points;
  passed = trail.passed;
  leads = subst (λ (k : Core). Runs old.core trail.points k) (sym core) trail.leads;
  holds = subst (Holds old.reader new.reader) (append-nil (frames_got trail.points))
      (held_on old.reader mid.reader new.reader (frames_got trail.points) [] trail.holds (held_same mid.reader new.reader held));
}
