-- What each part keeps is kept by each act of this end, and by each move.
use Rattle.std.proofs.Common.{◌≡◌, ℕ, ◌≤◌, Bool, true, false, cond, List, [], ◌∷◌, Option, Some, None, IfSome, Ok, refl, ap, sym, subst}
use Rattle.std.specs.FinMap.{get}
use Rattle.std.specs.Prelude.{length}
use Rattle.hb_hpack.specs.Encoding.{going, block_of}
use Rattle.hb_hpack.specs.declared.header.Header.{Header}
use Rattle.hb_frames.specs.Bodies.{lent_of}
use Rattle.hb_streams.specs.Sides.{both_open, sides_of}
use Rattle.hb_streams.specs.States.{States, state_of}
use Rattle.hb_streams.specs.Answers.{number_of}
use Rattle.hb_streams.specs.Moves.{after_number, begins}
use Rattle.hb_streams.proofs.Follows.{numbers_rise}
use Rattle.hb_flow.specs.Windows.{Windows}
use Rattle.hb_flow.specs.Flows.{creditable, creditable_by}
use Rattle.hb_flow.specs.Moves.{owes_on, May}
use Rattle.hb_outgoing.specs.Waiting.{octets_of}
use Rattle.hb_outgoing.specs.Written.{written}
use Rattle.hb_owed.specs.declared.due.Due.TheVariants as due
use Rattle.hb_owed.specs.declared.status.Status.{Status}
use Rattle.hb_frames.specs.Numbers.{protocol_error}
use Rattle.hb_conn.specs.Glance.{glance_at}
use Rattle.hb_conn.specs.Owing.{with_due}
use Rattle.hb_conn.specs.Ending.{own_ended, status_put, end_put}
use Rattle.hb_conn.specs.Credit.{used_on, credit}
use Rattle.hb_conn.specs.Data.{credited_on}
use Rattle.hb_conn.specs.Headers.{registered}
use Rattle.hb_conn.specs.Opening.{begun, headers_frame, headers_put, opened_with}
use Rattle.hb_conn.specs.Payload.{data_put}
use Rattle.hb_conn.specs.Windows.{on_window}
use Rattle.hb_conn.specs.declared.machine.Core.{Core}
use Rattle.hb_conn.specs.declared.found.Found.{Found}
use Rattle.hb_conn.specs.declared.glance.Glance.TheVariants as glance
use Rattle.hb_history.specs.Points.{Move, got, refused, misbegan, opened, answered, ended, reset, credited, put, wrote, Point, After, Runs}
use Rattle.hb_history.specs.Calls.{IsAct, IsLook}
use Rattle.hb_history.proofs.Parts.{Amid, calm, Keeps, Puts, PutsAck, Resizes}
use Rattle.hb_history.proofs.Kept as kept
use Rattle.hb_history.proofs.Handled.{Grows, window_keeps, settings_keep, ping_keeps, handles_keep}

-- no more is used up than came
pub may_owe : (c : Core) (s n : ℕ) → n ≤ creditable c.flow s → May c.flow (owes_on s n)
may_owe c s n within = by (get c.flow.streams s) within
  where
    by : (o : Option Windows) → n ≤ creditable_by o → IfSome o (λ w. n ≤ w.taking.kept)
    by None within = tt
    by (Some w) within = within

module _ (P : Amid → Core → Type 0) (k : Keeps P) where
  opening_keeps : (c : Core) (s : ℕ) → number_of c.streams c.peer.streams ≡ Ok s → P calm c → P calm (begun c s)
  opening_keeps c s is h =
      let becomes = ap (after_number c.streams) is in
      subst (λ (t : States). P calm (registered (record c { streams = t }) s)) (sym becomes)
      (k.begins s c both_open (begins c.peer.streams) (numbers_rise c.streams c.peer.streams s is).1 becomes h)

  headers_keep : (c : Core) (s : ℕ) (headers : List Header) (end : Bool) → P calm c → P calm (headers_put c s headers end)
  headers_keep c s headers end h =
      k.sends calm (record c { encoder = going c.encoder }) (headers_frame s end (block_of c.encoder headers))
      (refl, refl)
      (k.other calm c (going c.encoder) c.blocks c.peer c.settled h)

  ended_by : (c : Core) (s : ℕ) (end : Bool) → P calm c → P calm (cond end (own_ended c s) c)
  ended_by c s true h = kept.own_ended_keeps P k c s h
  ended_by c s false h = h

  opened_keeps : (c : Core) (s : ℕ) (headers : List Header) (end : Bool) → number_of c.streams c.peer.streams ≡ Ok s → P calm c
      → P calm (opened_with c s headers end)
  opened_keeps c s headers end is h =
      ended_by (headers_put (begun c s) s headers end) s end (headers_keep (begun c s) s headers end (opening_keeps c s is h))

  status_keeps : (c : Core) (s : ℕ) (status : Status) → P calm c → P calm (status_put c s status)
  status_keeps c s status h = ended_by (with_due c s (due.Status status)) s status.end (kept.due_keeps P k calm c s (due.Status status) h)

  end_keeps : (c : Core) (s : ℕ) → P calm c → P calm (end_put c s)
  end_keeps c s h = kept.own_ended_keeps P k (with_due c s due.End) s (kept.due_keeps P k calm c s due.End h)

  credit_by : (c : Core) (s : ℕ) (b : Bool) → P calm c → P calm (cond b (credited_on c s) c)
  credit_by c s true h = kept.credited_keeps P k c s h
  credit_by c s false h = h

  pub credit_keeps : (c : Core) (s n : ℕ) → n ≤ creditable c.flow s → P calm c → P calm (credit c s n)
  credit_keeps c s n within h =
      credit_by (used_on c s n) s (sides_of (state_of c.streams s)).peer (k.takes_in calm c (owes_on s n) refl (may_owe c s n within) h)

  pub act_keeps : (c : Core) → ((s : ℕ) (bytes : List ℕ) → P calm (data_put c s bytes)) → (m : Move) (new : Core) (told : Found) → IsAct m
      → P calm c → After c m new told → P calm new
  act_keeps c puts (got f) new told act h is = absurd act
  act_keeps c puts (refused r kind flags) new told act h is = absurd act
  act_keeps c puts misbegan new told act h is = absurd act
  act_keeps c puts (opened s headers end) new told act h is = subst (P calm) (sym is.1.0) (opened_keeps c s headers end is.0 h)
  act_keeps c puts (answered s status) new told act h is = subst (P calm) (sym is.0) (status_keeps c s status h)
  act_keeps c puts (ended s) new told act h is = subst (P calm) (sym is.0) (end_keeps c s h)
  act_keeps c puts (reset s code) new told act h is = subst (P calm) (sym is.0)
      (kept.aborted_keeps P k s c code (k.goes s c (k.ends s c h)))
  act_keeps c puts (credited s n) new told act h is = subst (P calm) (sym is.1.0) (credit_keeps c s n is.0 h)
  act_keeps c puts (put s bytes) new told act h is = subst (P calm) (sym is.0) (puts s bytes)
  act_keeps c puts (wrote n) new told act h is = absurd act

  pub look_keeps : Resizes P → PutsAck P → (c : Core) (m : Move) (new : Core) (told : Found) → IsLook m → P calm c
      → ((s n : ℕ) → P calm (on_window c s n).core) → After c m new told → P calm new
  look_keeps r acks c (got f) new told look h window is = handles_keep P k c (glance_at f) (lent_of f) new told h (λ s n e. window s n)
      (λ ack e is. settings_keep P k r acks ack c (lent_of f) new told h is)
      (λ ack value e. ping_keeps P k acks c ack value h) is.1
  look_keeps r acks c (refused why kind flags) new told look h window is =
      handles_keep P k c (glance.Refused why.code why.row kind flags) [] new told h (λ s n e. window s n)
      (λ ack e is. settings_keep P k r acks ack c [] new told h is)
      (λ ack value e. ping_keeps P k acks c ack value h) is.1
  look_keeps r acks c misbegan new told look h window is = subst (P calm) (sym is.1.0) (kept.faulted_keeps P k calm c protocol_error h)
  look_keeps r acks c (opened s headers end) new told look h window is = absurd look
  look_keeps r acks c (answered s status) new told look h window is = absurd look
  look_keeps r acks c (ended s) new told look h window is = absurd look
  look_keeps r acks c (reset s code) new told look h window is = absurd look
  look_keeps r acks c (credited s n) new told look h window is = absurd look
  look_keeps r acks c (put s bytes) new told look h window is = absurd look
  look_keeps r acks c (wrote n) new told look h window is = absurd look

  -- where DATA, SETTINGS with ACK, WINDOW_UPDATE and writes keep it too, all moves do
  module _ (puts : Puts P) (sizes : Resizes P) (acks : PutsAck P) (grows : (c : Core) (s n : ℕ) → P calm c → Grows P c s n)
      (writes : (c : Core) (n : ℕ) → n ≤ length (octets_of c.out) → P calm c → P calm (record c { out = written n c.out })) where
    acts : (c : Core) (m : Move) (new : Core) (told : Found) → IsAct m → P calm c → After c m new told → P calm new
    acts c m new told act h is = act_keeps c (λ s bytes. puts c s bytes h) m new told act h is

    pub move_keeps : (c : Core) (m : Move) (new : Core) (told : Found) → P calm c → After c m new told → P calm new
    move_keeps c (got f) new told h is = look_keeps sizes acks c (got f) new told tt h (λ s n. window_keeps P k c s n (grows c s n h)) is
    move_keeps c (refused r kind flags) new told h is =
        look_keeps sizes acks c (refused r kind flags) new told tt h (λ s n. window_keeps P k c s n (grows c s n h)) is
    move_keeps c misbegan new told h is = look_keeps sizes acks c misbegan new told tt h (λ s n. window_keeps P k c s n (grows c s n h)) is
    move_keeps c (opened s headers end) new told h is = acts c (opened s headers end) new told tt h is
    move_keeps c (answered s status) new told h is = acts c (answered s status) new told tt h is
    move_keeps c (ended s) new told h is = acts c (ended s) new told tt h is
    move_keeps c (reset s code) new told h is = acts c (reset s code) new told tt h is
    move_keeps c (credited s n) new told h is = acts c (credited s n) new told tt h is
    move_keeps c (put s bytes) new told h is = acts c (put s bytes) new told tt h is
    move_keeps c (wrote n) new told h is =
        subst (P calm) (sym is.1.0) (kept.payment_keeps P k calm (record c { out = written n c.out }) (writes c n is.0 h))

    pub runs_keep : (points : List Point) (c new : Core) → P calm c → Runs c points new → P calm new
    runs_keep [] c new h runs = subst (P calm) (sym runs) h
    runs_keep (p ∷ ps) c new h runs = runs_keep ps runs.0 new (move_keeps c p.move runs.0 p.told h runs.1) runs.2
