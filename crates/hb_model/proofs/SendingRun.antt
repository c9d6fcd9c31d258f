-- While a link goes on, this end's side of its stream is open, and the peer takes frames of 16,384 octets.
use Rattle.std.proofs.Common.{◌≡◌, ℕ, ◌==◌, Bool, true, false, if◌then◌else◌, List, [], ◌++◌, length, drop, refl, ap, sym, ◌∙◌, subst}
use Rattle.hb_base.specs.declared.cause.Cause.{Cause}
use Rattle.hb_base.specs.declared.cause.Cause.TheVariants as cause
use Rattle.hb_base.specs.declared.door.Why.{Why}
use Rattle.hb_base.specs.declared.door.Why.TheVariants as whys
use Rattle.hb_base.specs.declared.target.Target.{Target}
use Rattle.hb_grpc.specs.Message.{spelling}
use Rattle.hb_grpc.specs.Reading.{fed}
use Rattle.hb_held.specs.Held.{Resources}
use Rattle.hb_hpack.specs.declared.header.Header.{Header}
use Rattle.hb_conn.specs.declared.found.Found.{Found}
use Rattle.hb_conn.specs.declared.found.Found.TheVariants as found
use Rattle.hb_history.proofs.CanSend.{CanSend, KeepsStreams, sends_on, first_sends, wrote_keeps, credited_keeps, put_keeps}
use Rattle.hb_history.proofs.Lasting.{is_end, finds_last}
use Rattle.hb_world.specs.declared.entry.Entry.{Entry}
use Rattle.hb_world.specs.declared.entry.Entry.TheVariants as e
use Rattle.hb_model.specs.declared.config.NodeConfig.{NodeConfig}
use Rattle.hb_model.specs.Discovery.{Discovery, Phase, dialling, live, faulted, closed, opened, ended, broken, went, stopped_for, phase_by, end_by, headers_read, stream, headers_of, dialled, came, wrote, on_found, ends_for, put_requests, credited, answer_to}
use Rattle.hb_model.specs.Machine.{Machine, dialled_for, while_open, heard, with_phase}
use Rattle.hb_model.specs.Point.{Point, entry, looked, applied, refused, used, put, stopped}
use Rattle.hb_model.specs.Runs.{Steps, StandsFor, begins, goes_on}
use Rattle.hb_model.proofs.Open.{open_or_not}
use Rattle.hb_model.proofs.RequestsRun.{IsGoing}

abbrev SendsOn : Discovery → Type 0
SendsOn x = IsGoing x.phase → CanSend stream x.conn

abbrev pub AreSending : Machine → Type 0
AreSending m = (l : ℕ) → SendsOn (m.links l)

-- a link that went on before, and whose streams stay
carries : (old new : Discovery) → (IsGoing new.phase → IsGoing old.phase)
    → KeepsStreams old.conn new.conn → SendsOn old → SendsOn new
carries old new was same sends = λ going. sends_on stream old.conn new.conn same (sends (was going))

here : (b : Bool) (new old : Discovery) → SendsOn new → SendsOn old → SendsOn (if b then new else old)
here true new old this other = this
here false new old this other = other

-- entries
pub opened_going : (p : Phase) → IsGoing (opened p) → IsGoing p
opened_going dialling going = tt
opened_going _ going = going

pub ended_going : (p : Phase) → IsGoing (ended p) → IsGoing p
ended_going live going = absurd going
ended_going _ going = going

pub broken_going : (p : Phase) → IsGoing (broken p) → IsGoing p
broken_going dialling going = absurd going
broken_going live going = absurd going
broken_going (faulted code) going = absurd going
broken_going _ going = going

pub went_going : (p : Phase) → IsGoing (went p) → IsGoing p
went_going (faulted code) going = absurd going
went_going _ going = going

pub stopped_going : (why : Cause) (p : Phase) → IsGoing (stopped_for why p) → IsGoing p
stopped_going why dialling going = absurd going
stopped_going why live going = absurd going
stopped_going why _ going = going

born_sends : (id : List ℕ) (to : Target) (held : Resources) → SendsOn (dialled id to held)
born_sends id to held = λ going. first_sends (headers_of to)

dialled_sends : (id : List ℕ) (to : Target) (held : Resources) (why : Why) (d : Discovery) → SendsOn d
    → SendsOn (dialled_for id to held why d)
dialled_sends id to held whys.Discovery d sends = born_sends id to held
dialled_sends id to held _ d sends = sends

heard_sends : (g : NodeConfig) (held : Resources) (x : Entry) (l : ℕ) (d : Discovery) → SendsOn d → SendsOn (heard g held x l d)
heard_sends g held (e.Accepted k door) l d sends = sends
heard_sends g held (e.Dialled k to why) l d sends =
    here (k == l) (dialled_for g.id to held why d) d (dialled_sends g.id to held why d sends) sends
heard_sends g held (e.DialFailed to why) l d sends = sends
heard_sends g held (e.Opened k) l d sends =
    here (k == l) (with_phase opened d) d (carries d (with_phase opened d) (opened_going d.phase) refl sends) sends
heard_sends g held (e.Came k bytes) l d sends =
    here (k == l) (while_open (came bytes) d) d
    (open_or_not SendsOn (came bytes) d (carries d (came bytes d) (λ going. going) refl sends) sends) sends
heard_sends g held (e.Ended k) l d sends =
    here (k == l) (with_phase ended d) d (carries d (with_phase ended d) (ended_going d.phase) refl sends) sends
heard_sends g held (e.Broke k) l d sends =
    here (k == l) (with_phase broken d) d (carries d (with_phase broken d) (broken_going d.phase) refl sends) sends
heard_sends g held (e.Went k bytes) l d sends =
    here (k == l) (while_open (wrote (length bytes)) d) d
    (open_or_not SendsOn (wrote (length bytes)) d (carries d (wrote (length bytes) d) (went_going d.phase)
    (wrote_keeps d.conn (length bytes)) sends) sends) sends
heard_sends g held (e.Balked way) l d sends = sends
heard_sends g held (e.Shut k) l d sends = sends
heard_sends g held (e.Closed k why) l d sends = here (k == l) (with_phase (λ p. closed) d) d (λ going. absurd going) sends
heard_sends g held e.Tick l d sends = sends
heard_sends g held (e.Wait ready way) l d sends = sends

-- what ends a stream ends the link
going_on : (answered : Bool) (headers : List Header) (told : Found) (phase : Phase)
    → IsGoing (phase_by phase (end_by answered headers told)) → is_end told ≡ false
going_on answered headers (found.Reset s code) phase going = absurd going
going_on answered headers (found.Broken s code) phase going = absurd going
going_on answered headers (found.Fault code) phase going = absurd going
going_on answered headers _ phase going = refl

module _ (g : NodeConfig) (m : Machine) (sends : AreSending m) where
  linked : (k : ℕ) (n next : Machine) (new : Discovery) → n ≡ next
      → ((l : ℕ) → next.links l ≡ (if k == l then new else m.links l)) → SendsOn new → AreSending n
  linked k n next new is links this l =
      subst SendsOn (sym (ap (λ (x : Machine). x.links l) is ∙ links l)) (here (k == l) new (m.links l) this (sends l))

  point_sends : (p : Point) (n : Machine) → Steps g m p n → AreSending n
  point_sends (entry x) n steps =
      subst AreSending (sym steps.1) (λ l. heard_sends g m.held x l (m.links l) (sends l))
  point_sends (looked k ps told headers) n steps =
      let x = m.links k in
      linked k n _ (on_found told steps.1 x) steps.4 (λ l. refl)
      (λ going. finds_last stream x.conn steps.1 told steps.2.found.finds
      (going_on x.answered (headers_read steps.1) told x.phase going) (sends k (subst IsGoing (sym steps.0) tt)))
  point_sends (applied k r) n steps =
      let x = m.links k in
      let new = record x {
        chunk = drop steps.1 x.chunk;
        framing = fed x.framing x.chunk;
        waiting = x.waiting ++ spelling (answer_to m.held r);
      } in
      linked k n _ new steps.3 (λ l. refl) (carries x new (λ going. going) refl (sends k))
  point_sends (refused k) n steps =
      linked k n _ (ends_for cause.Discovery (m.links k)) steps.2 (λ l. refl) (λ going. absurd going)
  point_sends (used k i) n steps =
      let x = m.links k in
      let new = credited i (record x { chunk = []; framing = fed x.framing x.chunk }) in
      linked k n _ new steps.2 (λ l. refl) (carries x new (λ going. going) (credited_keeps x.conn stream i) (sends k))
  point_sends (put k bytes) n steps =
      linked k n _ (put_requests (m.links k)) steps.3 (λ l. refl)
      (carries (m.links k) (put_requests (m.links k)) (λ going. going) (put_keeps (m.links k).conn stream (m.links k).waiting) (sends k))
  point_sends (stopped why) n steps =
      subst AreSending (sym steps.1)
      (λ l. carries (m.links l) (with_phase (stopped_for why) (m.links l)) (stopped_going why (m.links l).phase) refl (sends l))

pub all_sending : (g : NodeConfig) (m : Machine) (points : List Point) → StandsFor g m points → AreSending m
all_sending g m points (begins is none) = λ l. subst (λ (x : Machine). SendsOn (x.links l)) (sym is) (λ going. absurd going)
all_sending g n more (goes_on {m = m} {points = points} before p steps grows) =
    point_sends g m (all_sending g m points before) p n steps
