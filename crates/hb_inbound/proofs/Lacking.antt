-- Where memory is wanting for a header block, a frame of one is among those held.
use Rattle.std.proofs.Common.{◌≡◌, ◌⊎◌, inl, inr, ℕ, ◌+◌, ◌*◌, ◌%◌, ◌≤◌, ◌==◌, Bool, true, false, cond, List, [], ◌∷◌, ◌++◌, length, take, drop, Option, Some, None, Result, Ok, Err, refl, ap, sym, ◌∙◌, subst, arith}
use Rattle.std.proofs.lemmas.Bool.Decides.{nat_tests}
use Rattle.std.proofs.lemmas.List.{append_assoc, take-append-drop}
use Rattle.hb_frames.specs.Frames.{Joins, AreOctets}
use Rattle.hb_frames.specs.Numbers.{data_kind, headers_kind, rst_stream_kind, settings_kind, ping_kind, goaway_kind}
use Rattle.hb_frames.specs.Numbers.{window_update_kind, continuation_kind, end_stream_flag, end_headers_flag}
use Rattle.hb_frames.specs.Octets.{four_at}
use Rattle.hb_frames.specs.Refusals.{is_ack, increment_of}
use Rattle.hb_frames.specs.RawFrame.{RawFrame, Spells, raw_at, size_at, spelling}
use Rattle.hb_frames.specs.Reading.{Reading, first_of}
use Rattle.hb_frames.specs.declared.refusal.Refusal.{Refusal}
use Rattle.hb_frames.proofs.Runs.{first_some}
use Rattle.hb_frames.proofs.Spelling.{raw_is_spelled}
use Rattle.hb_outgoing.specs.Waiting.{spelled}
use Rattle.hb_conn.specs.Glance.{glance_at, glance_at_others, glance_by, glance_of, has_flag, IsOfBlock}
use Rattle.hb_conn.specs.Receiving.{Passes}
use Rattle.hb_conn.specs.declared.receiver.Receiver.{Receiver}
use Rattle.hb_conn.specs.declared.glance.Glance.{Glance}
use Rattle.hb_conn.specs.declared.glance.Glance.TheVariants as glance
use Rattle.hb_history.specs.Points.{frames_got}
use Rattle.hb_history.proofs.Looks.{trail_of}
use Rattle.hb_inbound.specs.Block.{LacksHeld, NoneIsRefused, DataIsRefused, HeadersMayLack, holding, one_of_data, one_of_headers}

-- frames joined are spelled, each with its reserved bit in front of its stream
record Front (rest bytes : List ℕ) : Type 0 where
  frames : List RawFrame
  octets : bytes ≡ spelled frames ++ rest

with_bit : (f : RawFrame) → ℕ → RawFrame
with_bit f reserved = record f { stream = reserved * 2147483648 + f.stream }

spells_so : (f : RawFrame) (bytes : List ℕ) (spells : Spells f bytes) → bytes ≡ spelling (with_bit f spells.reserved)
unfolding with_bit
spells_so f bytes spells = spells.whole

front_of : (fs : List RawFrame) (rest bytes : List ℕ) → Joins fs rest bytes → Front rest bytes
front_of [] rest bytes joins = record { frames = []; octets = joins }
front_of (f ∷ fs) rest bytes joins =
    let more = joins.1 in
    let later = front_of fs rest more joins.4 in
    let g = with_bit f joins.2.reserved in
    record {
      frames = g ∷ later.frames;
      octets = joins.3 ∙ ap (λ (xs : List ℕ). xs ++ more) (spells_so f joins.0 joins.2)
          ∙ ap (λ (xs : List ℕ). spelling g ++ xs) later.octets ∙ sym (append_assoc (spelling g) (spelled later.frames) rest);
    }

-- only frames of two types are glanced at as frames of header blocks
others_by : (settings ping goaway window ack : Bool) (value last stream n : ℕ)
    → IsOfBlock (cond settings (glance.Settings ack) (cond ping (glance.Ping ack value) (cond goaway (glance.GoAway last)
    (cond window (glance.Window stream n) glance.Other)))) → ⊥
others_by true ping goaway window ack value last stream n block = block
others_by false true goaway window ack value last stream n block = block
others_by false false true window ack value last stream n block = block
others_by false false false true ack value last stream n block = block
others_by false false false false ack value last stream n block = block

kind_by : (k : ℕ) (content headers reset continuation end whole : Bool) (stream n code : ℕ) (g : Glance) → (k == headers_kind) ≡ headers
    → (k == continuation_kind) ≡ continuation → (IsOfBlock g → ⊥)
    → IsOfBlock (cond content (glance.Data stream n end) (cond headers (glance.Headers stream end whole)
    (cond reset (glance.Reset stream code) (cond continuation (glance.Continuation stream whole) g))))
    → (k ≡ headers_kind) ⊎ (k ≡ continuation_kind)
kind_by k true headers reset continuation end whole stream n code g first second none block = absurd block
kind_by k false true reset continuation end whole stream n code g first second none block = inl (grind (arith, nat_tests, first))
kind_by k false false true continuation end whole stream n code g first second none block = absurd block
kind_by k false false false true end whole stream n code g first second none block = inr (grind (arith, nat_tests, second))
kind_by k false false false false end whole stream n code g first second none block = absurd (none block)

kind_of : (f : RawFrame) → IsOfBlock (glance_at f) → (f.kind ≡ headers_kind) ⊎ (f.kind ≡ continuation_kind)
kind_of f block =
    kind_by f.kind (f.kind == data_kind) (f.kind == headers_kind) (f.kind == rst_stream_kind) (f.kind == continuation_kind)
    (has_flag f end_stream_flag) (has_flag f end_headers_flag) f.stream (length f.payload) (four_at f.payload 0) (glance_at_others f) refl
    refl
    (others_by (f.kind == settings_kind) (f.kind == ping_kind) (f.kind == goaway_kind) (f.kind == window_update_kind) (is_ack f)
    (four_at f.payload 0 * 4294967296 + four_at f.payload 4) (four_at f.payload 0 % 2147483648) f.stream (increment_of f))
    block

-- the frame in front stands whole
record First (held : List ℕ) : Type 0 where
  frame : RawFrame
  rest : List ℕ
  octets : held ≡ spelling frame ++ rest
  kind : (frame.kind ≡ headers_kind) ⊎ (frame.kind ≡ continuation_kind)

first_by : (r : Reading) → AreOctets r.held → (found : Result (Option ℕ) Refusal) → first_of r.max r.held ≡ found
    → IsOfBlock (glance_by r found) → First r.held
unfolding with_bit
first_by r octets (Ok None) is block = absurd block
first_by r octets (Ok (Some n)) is block =
    let t = first_some r.max n r.held is in
    let whole : 9 + size_at r.held ≤ length r.held = omega (arith, t.size, t.whole) in
    let spells : Spells (raw_at r.held) (take n r.held) =
    subst (λ (k : ℕ). Spells (raw_at r.held) (take k r.held)) (sym t.size) (raw_is_spelled r.held octets whole) in
    record {
      frame = with_bit (raw_at r.held) spells.reserved;
      rest = drop n r.held;
      octets = sym (take-append-drop n r.held)
          ∙ ap (λ (xs : List ℕ). xs ++ drop n r.held) (spells_so (raw_at r.held) (take n r.held) spells);
      kind = kind_of (raw_at r.held) block;
    }
first_by r octets (Err refusal) is block = absurd block

pub lacks_held : LacksHeld
lacks_held c kept lacks =
    let last = lacks.last.reader in
    let trail = trail_of lacks.through c.receiver lacks.last lacks.passes in
    let front = front_of (frames_got trail.points) last.held c.receiver.reader.held
    (trail.holds.joins kept.octets [] c.receiver.reader.held refl) in
    let first = first_by last (trail.holds.octets kept.octets) (first_of last.max last.held) refl lacks.block in
    record {
      before = front.frames;
      frame = first.frame;
      rest = first.rest;
      octets_are = front.octets ∙ ap (λ (xs : List ℕ). spelled front.frames ++ xs) first.octets;
      kind = first.kind;
    }

-- behind what no block is of, no frame is held
none_by : (through : List Receiver) (old last : Receiver) → glance_of old.reader ≡ glance.Nothing → Passes through old last
    → IsOfBlock (glance_of last.reader) → ⊥
none_by [] old last none passes block = subst IsOfBlock (ap (λ (r : Receiver). glance_of r.reader) passes ∙ none) block
none_by (mid ∷ more) old last none passes block = passes.0.whole none

pub none_is_refused : NoneIsRefused
none_is_refused lacks = none_by lacks.through (holding []).receiver lacks.last refl lacks.passes lacks.block

data_by : (through : List Receiver) (last : Receiver) → Passes through (holding one_of_data).receiver last
    → IsOfBlock (glance_of last.reader) → ⊥
data_by [] last passes block = subst IsOfBlock (ap (λ (r : Receiver). glance_of r.reader) passes) block
data_by (mid ∷ more) last passes block = none_by more mid last (ap glance_of passes.0.reader) passes.1 block

pub data_is_refused : DataIsRefused
data_is_refused lacks = data_by lacks.through lacks.last lacks.passes lacks.block

pub headers_may_lack : HeadersMayLack
headers_may_lack = record { through = []; last = (holding one_of_headers).receiver; passes = refl; goes = refl; block = tt }
