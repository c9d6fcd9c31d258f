-- What waits to be written, kept part by part.
use Rattle.std.proofs.Common.{◌≡◌, ℕ, Bool, true, false, cond, ◌==◌, ◌&&◌, List, [], refl, sym, arith}
use Rattle.std.specs.Prelude.{nat_le, min, length, take}
use Rattle.std.proofs.lemmas.Bool.{false≢true}
use Rattle.std.proofs.lemmas.Bool.Decides.{nat_tests}
use Rattle.std.proofs.lemmas.List.{nil_from_length}
use Rattle.hb_frames.specs.RawFrame.{RawFrame}
use Rattle.hb_outgoing.specs.Waiting.{Waiting, octets_of, put}
use Rattle.hb_outgoing.specs.Selected.{taken_back, all_taken_back}
use Rattle.hb_frames.specs.Numbers.{data_kind, largest}
use Rattle.hb_owed.specs.Debts.{closed as owed_closed}
use Rattle.hb_flow.specs.Flows.{closed, spent}
use Rattle.hb_conn.specs.Frames.{frame, sent}
use Rattle.hb_conn.specs.Faults.{faulted, is_active}
use Rattle.hb_conn.specs.Payload.{allowed, count_put}
use Rattle.hb_conn.specs.declared.machine.Core.{Core}
use Rattle.hb_history.specs.Answered.{is_answer}
use Rattle.hb_history.proofs.Parts.{Amid, IsPlain, Keeps, Puts, PutsAck, Resizes}
use Rattle.hb_history.proofs.Handled.{Grows}

waits_by : (x : ℕ) (o a b : Bool) → (cond o 0 (cond (a && b) x 0) == 0) ≡ false → (o ≡ false) × (b ≡ true)
waits_by x true a b some = absurd (false≢true (sym some))
waits_by x false true true some = (refl, refl)
waits_by x false true false some = absurd (false≢true (sym some))
waits_by x false false b some = absurd (false≢true (sym some))

put_where : (c : Core) (s : ℕ) (bytes : List ℕ) → (count_put c s bytes == 0) ≡ false
    → (c.over ≡ false) × ((length (octets_of c.out) == 0) ≡ true)
put_where c s bytes some = waits_by (min (length bytes) (allowed c s)) c.over (nat_le s largest) (length (octets_of c.out) == 0) some

-- DATA is put only while no connection error was told
pub none_behind : (c : Core) (s : ℕ) (bytes : List ℕ) → (count_put c s bytes == 0) ≡ false → c.over ≡ false
none_behind c s bytes some = (put_where c s bytes some).0

-- and only while nothing waits
pub nothing_waits : (c : Core) (s : ℕ) (bytes : List ℕ) → (count_put c s bytes == 0) ≡ false → octets_of c.out ≡ []
nothing_waits c s bytes some =
    let none : (length (octets_of c.out) == 0) ≡ true = (put_where c s bytes some).1 in
    nil_from_length (octets_of c.out) (grind (arith, nat_tests, none))

-- what holds of the output, and is kept by each change of it
pub record KeepsOut (Q : Waiting → Type 0) : Type 0 where
  pub puts : (w : Waiting) (f : RawFrame) → IsPlain f → Q w → Q (put f w)
  pub takes_back : (w : Waiting) (s : ℕ) → Q w → Q (taken_back s w)
  pub takes_all_back : (w : Waiting) → Q w → Q (all_taken_back w)

-- and by DATA that is put while nothing waits
abbrev pub PutsOut : (Waiting → Type 0) → Type 0
PutsOut Q = (w : Waiting) (f : RawFrame) → is_answer f ≡ false → octets_of w ≡ [] → Q w → Q (put f w)

abbrev pub OfOut : (Waiting → Type 0) → Amid → Core → Type 0
OfOut Q a c = Q c.out

module _ (Q : Waiting → Type 0) (k : KeepsOut Q) where
  released_by : (s : ℕ) (c : Core) (b : Bool) → Q c.out
      → Q (cond b c (record c { flow = closed c.flow s; owed = owed_closed c.owed s })).out
  released_by s c true h = h
  released_by s c false h = h

  fault_keeps : (c : Core) (code : ℕ) → Q c.out → Q (faulted c code).core.out
  unfolding faulted
  fault_keeps c code h = k.puts (all_taken_back c.out) _ (refl, refl) (k.takes_all_back c.out h)

  pub out_keeps : Keeps (OfOut Q)
  out_keeps = record {
    ends = λ s c h. h;
    goes = λ s c h. h;
    other = λ a c e b p t h. h;
    sends = λ a c f plain h. k.puts c.out f plain h;
    owes = λ a c m keeps h. h;
    moves = λ b s c t on h. h;
    withdraws = λ s c h. k.takes_back c.out s h;
    releases = λ s c h. released_by s c (is_active c.streams s) h;
    leaves = λ s c none h. h;
    takes_in = λ a c m taking may h. h;
    begins = λ s c sides m above becomes h. h;
    faults = λ a c f code h. fault_keeps (record c { flow = f }) code h;
  }

  pub out_resizes : Resizes (OfOut Q)
  out_resizes c n within fits h = h

  pub out_grows : (c : Core) (s n : ℕ) → Q c.out → Grows (OfOut Q) c s n
  out_grows c s n h = record {
    fault = λ code. fault_keeps c code h;
    whole = λ zero fits. h;
    one = λ some w is fits. h;
    broken = λ some live. h;
    ignored = λ some live why. h;
  }

module _ (Q : Waiting → Type 0) (k : PutsOut Q) where
  put_by : (c : Core) (s n : ℕ) (bytes : List ℕ) (b : Bool) → (b ≡ false → octets_of c.out ≡ []) → Q c.out
      → Q (cond b c (sent (record c { flow = spent c.flow s n }) (frame data_kind 0 s (take n bytes)))).out
  put_by c s n bytes true none h = h
  put_by c s n bytes false none h = k c.out (frame data_kind 0 s (take n bytes)) refl (none refl) h

  pub out_puts : Puts (OfOut Q)
  out_puts c s bytes h = put_by c s (count_put c s bytes) bytes (count_put c s bytes == 0) (nothing_waits c s bytes) h

-- what is left of the octets of what was begun
pub rest_keeps : (r : List ℕ) → KeepsOut (λ w. w.rest ≡ r)
rest_keeps r = record {
  puts = λ w f plain h. h;
  takes_back = λ w s h. h;
  takes_all_back = λ w h. h;
}

pub rest_puts : (r : List ℕ) → PutsOut (λ w. w.rest ≡ r)
rest_puts r w f other none h = h

pub rest_acks : (r : List ℕ) → PutsAck (OfOut (λ w. w.rest ≡ r))
rest_acks r c f answer h = h
