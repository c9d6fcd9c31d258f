-- What points that are passed tell and hand out, and what a look hands out.
use Rattle.std.proofs.Common.{◌≡◌, ℕ, Bool, true, false, List, [], ◌∷◌, ◌++◌, length, length-append, Option, Some, None, Result, Ok, Err, refl, ap, ap₂, sym, ◌∙◌, if◌then◌else◌, arith}
use Rattle.std.specs.List.{flat_map}
use Rattle.hb_frames.specs.RawFrame.{RawFrame}
use Rattle.hb_frames.specs.Frames.{AreOctets}
use Rattle.hb_frames.specs.Bodies.{lent_of}
use Rattle.hb_frames.specs.Reading.{Reading, after_frame, first_of}
use Rattle.hb_frames.specs.declared.refusal.Refusal.{Refusal}
use Rattle.hb_frames.proofs.FrameLists.{in_front}
use Rattle.hb_frames.specs.Numbers.{protocol_error}
use Rattle.hb_conn.specs.Connection.{Connection, ended_by}
use Rattle.hb_conn.specs.Faults.{faulted}
use Rattle.hb_conn.specs.Glance.{glance_by}
use Rattle.hb_conn.specs.Handling.{HandlesBy}
use Rattle.hb_conn.specs.Observed.{chunk_of}
use Rattle.hb_conn.specs.Outcome.{is_silent}
use Rattle.hb_conn.specs.Places.{is_misplaced}
use Rattle.hb_conn.specs.Receiving.{Steps}
use Rattle.hb_conn.specs.declared.glance.Glance.TheVariants as glance
use Rattle.hb_conn.specs.declared.machine.Core.{Core}
use Rattle.hb_conn.specs.declared.receiver.Receiver.{Receiver}
use Rattle.hb_conn.specs.declared.found.Found.{Found}
use Rattle.hb_conn.specs.declared.found.Found.TheVariants as found
use Rattle.hb_conn.specs.declared.found.Found.TheVariants.{Silent}
use Rattle.hb_history.specs.Points.{Move, got, refused, misbegan, Point, point, After, got_by, data_of, data_in}
use Rattle.hb_history.specs.History.{ends_in, happenings}
use Rattle.hb_history.specs.Calls.{IsLook, AreLooks}
use Rattle.hb_history.proofs.Looks.{Holds, Look, ArePassed}

looks_on : (p : Point) (ps : List Point) → IsLook p.move → p.told ≡ Silent → AreLooks ps → AreLooks (p ∷ ps)
looks_on p [] look silent looks = look
looks_on p (q ∷ ps) look silent looks = (look, silent, looks)

hands_nothing : (m : Move) → data_of m Silent ≡ []
hands_nothing (got f) = refl
hands_nothing m = refl

-- points in front of others are looks, tell nothing and hand out nothing
pub record AddsNothing (ps more : List Point) : Type 0 where
  pub looks : AreLooks more → AreLooks (ps ++ more)
  pub tells : happenings (ps ++ more) ≡ happenings more
  pub hands_out : flat_map data_in (ps ++ more) ≡ flat_map data_in more

pub passed_adds : (ps more : List Point) → ArePassed ps → AddsNothing ps more
passed_adds [] more passed = record { looks = λ looks. looks; tells = refl; hands_out = refl }
passed_adds (p ∷ ps) more passed =
    let later = passed_adds ps more passed.2 in
    record {
      looks = λ looks. looks_on p (ps ++ more) passed.0 passed.1 (later.looks looks);
      tells = ap₂ (λ (f : Found) (fs : List Found). (if is_silent f then [] else f ∷ ends_in (ended_by f)) ++ fs) passed.1 later.tells;
      hands_out = ap₂ (λ (f : Found) (bytes : List ℕ). data_of p.move f ++ bytes) passed.1 later.hands_out
          ∙ ap (λ (bytes : List ℕ). bytes ++ flat_map data_in more) (hands_nothing p.move);
    }

-- what is refused is told as a connection error
refused_faults : (b : Bool) (c new : Core) (code row kind flags : ℕ) (told : Found)
    → HandlesBy b c (glance.Refused code row kind flags) [] new told → (why : ℕ) × (told ≡ found.Fault why)
unfolding faulted
refused_faults true c new code row kind flags told is = (protocol_error, is.1)
refused_faults false c new code row kind flags told is = (code, is.1)

chunk_is_no_fault : (s : ℕ) (end : Bool) (why : ℕ) → found.Chunk s end ≡ found.Fault why → ⊥
chunk_is_no_fault s end why is = cc

-- a look, of a reader that holds octets, which leads to what a connection is then
module _ (old : Receiver) (d : Connection) (octets : AreOctets old.reader.held) where
  -- of a frame that was looked at the reader lends what is lent of that frame
  lends_by : (o : Result (Option ℕ) Refusal) → first_of old.reader.max old.reader.held ≡ o → (f : RawFrame) (told : Found)
      → Holds old.reader d.receiver.reader (f ∷ []) → Steps old d.receiver told → lent_of f ≡ d.receiver.reader.last
  lends_by (Ok None) is f told holds steps = absurd (steps.whole (ap (glance_by old.reader) is))
  lends_by (Ok (Some n)) is f told holds steps =
      let joins = holds.joins octets [] old.reader.held refl in
      let front = in_front f joins.0 joins.1 old.reader.held joins.2 joins.3 in
      ap lent_of (sym front.frame) ∙ sym (ap (λ (r : Reading). r.last) (steps.reader ∙ ap (after_frame old.reader) is))
  lends_by (Err refusal) is f told holds steps =
      let joins = holds.joins octets [] old.reader.held refl in
      let front = in_front f joins.0 joins.1 old.reader.held joins.2 joins.3 in
      let same = ap (λ (r : Reading). length r.held) (steps.reader ∙ ap (after_frame old.reader) is) in
      let more = ap (λ (bytes : List ℕ). length bytes) joins.4 in
      let all = ap (λ (bytes : List ℕ). length bytes) joins.3 ∙ length-append joins.0 joins.1 in
      absurd (omega (arith, same, more, all, front.len))

  -- where DATA is told, the move hands out what the reader lends; else neither hands out anything
  hands_out_by : (m : Move) (told : Found) → IsLook m → After old.core m d.receiver.core told
      → Holds old.reader d.receiver.reader (got_by (point m told)) → Steps old d.receiver told → data_of m told ≡ chunk_of d told
  unfolding faulted
  hands_out_by (got f) (found.Chunk s end) look after holds steps =
      lends_by (first_of old.reader.max old.reader.held) refl f (found.Chunk s end) holds steps
  hands_out_by (refused r kind flags) (found.Chunk s end) look after holds steps =
      let fault = refused_faults (is_misplaced old.core (glance.Refused r.code r.row kind flags)) old.core d.receiver.core r.code r.row kind
      flags (found.Chunk s end) after.1 in
      absurd (chunk_is_no_fault s end fault.0 fault.1)
  hands_out_by misbegan (found.Chunk s end) look after holds steps = absurd (chunk_is_no_fault s end protocol_error after.1.1)
  hands_out_by m (found.Chunk s end) look after holds steps = absurd look
  hands_out_by (got f) told look after holds steps = refl
  hands_out_by m told look after holds steps = refl

  pub look_hands_out : (told : Found) → Steps old d.receiver told → (look : Look old d.receiver told)
      → data_of look.move told ≡ chunk_of d told
  look_hands_out told steps look = hands_out_by look.move told look.is look.after look.holds steps
