-- What an act of this end leaves of what waits, so that a tunnel that rested rests behind it.
use Rattle.std.proofs.Common.{◌≡◌, ◌≢◌, inl, inr, ℕ, ◌-◌, ◌==◌, ◌&&◌, ◌||◌, not, Bool, true, false, is_some, List, [], ◌∷◌, ◌++◌, Option, Some, None, refl, ap, sym, ◌∙◌, subst}
use Rattle.std.proofs.lemmas.Bool.{false≢true, cond_both, cases_eq}
use Rattle.std.proofs.lemmas.List.Folds.{list_any-append}
use Rattle.std.specs.List.{list_any}
use Rattle.std.specs.Prelude.{nat_le}
use Rattle.std.specs.FinMap.{get, remove}
use Rattle.hb_conn.specs.Connection.{Connection, core_of}
use Rattle.hb_conn.specs.Credit.{used_on}
use Rattle.hb_conn.specs.Data.{credited_on}
use Rattle.hb_conn.specs.Ending.{end_waits_on, own_ended}
use Rattle.hb_conn.specs.Faults.{is_active}
use Rattle.hb_conn.specs.Observed.{data_put, credited, status_put, end_put, end_waits}
use Rattle.hb_conn.specs.Owing.{also, goes_at_once, put_now, put_later, with_due, with_update}
use Rattle.hb_conn.specs.Payload as payload
use Rattle.hb_conn.specs.declared.machine.Core.{Core}
use Rattle.hb_flow.specs.Flows.{due_on, paid_on}
use Rattle.hb_frames.specs.Numbers.{largest}
use Rattle.hb_frames.specs.RawFrame.{RawFrame}
use Rattle.hb_history.specs.TakenBack.{has_data_on}
use Rattle.hb_kept.specs.Shut.{StaysShut}
use Rattle.hb_kept.proofs.Shut.{use_stays_shut, answer_stays_shut, end_stays_shut, put_stays_shut}
use Rattle.hb_map.proofs.Laws.{written_here, written_elsewhere, removed_elsewhere}
use Rattle.hb_outgoing.specs.Selected.{begun_ends, frame_ends}
use Rattle.hb_outgoing.specs.Waiting.{put}
use Rattle.hb_owed.specs.Debts.{Debts, changed, changed_by, closed, shut, is_done_by, ends_by, ends_on, with_credit, credit_on}
use Rattle.hb_owed.specs.Dues.{Debt}
use Rattle.hb_owed.specs.Frames.{frame_of}
use Rattle.hb_owed.specs.declared.due.Due.{Due}
use Rattle.hb_owed.specs.declared.due.Due.TheVariants as due
use Rattle.hb_owed.specs.declared.status.Status.{Status}
use Rattle.hb_streams.specs.Moves.{after, sends_end}
use Rattle.hb_streams.specs.Sides.{sides_of}
use Rattle.hb_streams.specs.States.{state_of}
use Rattle.hb_tunnel.specs.Way.{is_done}
use Rattle.hb_inbound.specs.Calm.{data_waits, is_data_on, LiveRests, Rests, RestsBy}
use Rattle.hb_inbound.specs.Tunnel as t
use Rattle.hb_inbound.specs.Tunnel.{Tunnel as Machine}

-- what waited on a stream waits still
abbrev data_on : Core → ℕ → Bool
data_on c j = list_any (has_data_on j) c.out.queue || is_data_on j c.out.begun

record Grows (j : ℕ) (c d : Core) : Type 0 where
  data_grows : data_on c j ≡ true → data_on d j ≡ true
  ends_grow : end_waits_on c j ≡ true → end_waits_on d j ≡ true

on_with : (j : ℕ) (c mid d : Core) → Grows j c mid → Grows j mid d → Grows j c d
on_with j c mid d first then = record {
  data_grows = λ is. then.data_grows (first.data_grows is);
  ends_grow = λ is. then.ends_grow (first.ends_grow is);
}

more_data : (a x b : Bool) → (a || b) ≡ true → ((a || x) || b) ≡ true
more_data true x b is = refl
more_data false true b is = refl
more_data false false b is = is

more_ends : (g a x o : Bool) → ((g || a) || o) ≡ true → ((g || (a || x)) || o) ≡ true
more_ends true a x o is = refl
more_ends false true x o is = refl
more_ends false false true o is = refl
more_ends false false false o is = is

-- a frame more
put_grows : (j : ℕ) (c d : Core) (f : RawFrame) → d.out ≡ put f c.out → d.owed ≡ c.owed → Grows j c d
put_grows j c d f out owed =
    let payloads = list_any-append (has_data_on j) c.out.queue (f ∷ []) in
    let ends = list_any-append (frame_ends j) c.out.queue (f ∷ []) in
    record {
      data_grows = λ is.
          ap (λ w. list_any (has_data_on j) w.queue || is_data_on j w.begun) out
          ∙ ap (λ b. b || is_data_on j c.out.begun) payloads
          ∙ more_data (list_any (has_data_on j) c.out.queue) (list_any (has_data_on j) (f ∷ [])) (is_data_on j c.out.begun) is;
      ends_grow = λ is.
          ap (λ w. (begun_ends j w.begun || list_any (frame_ends j) w.queue) || ends_on d.owed j) out
          ∙ ap (λ m. (begun_ends j c.out.begun || list_any (frame_ends j) (c.out.queue ++ f ∷ [])) || ends_on m j) owed
          ∙ ap (λ b. (begun_ends j c.out.begun || b) || ends_on c.owed j) ends
          ∙ more_ends (begun_ends j c.out.begun) (list_any (frame_ends j) c.out.queue) (list_any (frame_ends j) (f ∷ []))
          (ends_on c.owed j) is;
    }

same_grows : (j : ℕ) (c d : Core) → d.out ≡ c.out → d.owed ≡ c.owed → Grows j c d
same_grows j c d out owed = record {
  data_grows = λ is. ap (λ w. list_any (has_data_on j) w.queue || is_data_on j w.begun) out ∙ is;
  ends_grow = λ is.
      ap (λ w. (begun_ends j w.begun || list_any (frame_ends j) w.queue) || ends_on d.owed j) out
      ∙ ap (λ m. (begun_ends j c.out.begun || list_any (frame_ends j) c.out.queue) || ends_on m j) owed ∙ is;
}

-- what is owed on another stream stays, and so does an end behind an increment
changed_other : (m : Debts) (s j : ℕ) (change : Debt → Debt) → j ≢ s → get (changed m s change) j ≡ get m j
changed_other m s j change apart = by (get m s)
  where
    by : (o : Option Debt) → get (changed_by m s change o) j ≡ get m j
    by None = refl
    by (Some d) = written_elsewhere m s (change d) j apart

also_other : (m : Debts) (s j : ℕ) (d : Due) → j ≢ s → get (also m s d) j ≡ get m j
also_other m s j (due.Status status) apart = changed_other m s j _ apart
also_other m s j (due.Credit n) apart =
    cond_both (nat_le n (largest - credit_on m s)) (changed m s (with_credit n)) m (λ (k : Debts). get k j ≡ get m j)
    (λ is. changed_other m s j (with_credit n) apart) (λ is. refl)
also_other m s j due.End apart = changed_other m s j _ apart
also_other m s j (due.Reset code) apart = changed_other m s j _ apart

credit_ends : (m : Debts) (s n : ℕ) → ends_on (changed m s (with_credit n)) s ≡ ends_on m s
credit_ends m s n = by (get m s) refl
  where
    by : (o : Option Debt) → get m s ≡ o → ends_by (get (changed_by m s (with_credit n) o) s) ≡ ends_by (get m s)
    by None is = refl
    by (Some d) is = ap ends_by (written_here m s (with_credit n d) (ap is_some is)) ∙ sym (ap ends_by is)

also_credit : (m : Debts) (s j n : ℕ) → ends_on (also m s (due.Credit n)) j ≡ ends_on m j
also_credit m s j n = elim (cases_eq j s) [
  | inl same ↦ subst (λ (i : ℕ). ends_on (also m s (due.Credit n)) i ≡ ends_on m i) (sym same)
      (cond_both (nat_le n (largest - credit_on m s)) (changed m s (with_credit n)) m (λ (k : Debts). ends_on k s ≡ ends_on m s)
      (λ is. credit_ends m s n) (λ is. refl))
  | inr apart ↦ ap ends_by (also_other m s j (due.Credit n) apart)
]

later_grows : (j : ℕ) (c : Core) (s : ℕ) (d : Due) → ends_on (also c.owed s d) j ≡ ends_on c.owed j → Grows j c (put_later c s d)
later_grows j c s d same = record {
  data_grows = λ is. is;
  ends_grow = λ is. ap (λ b. (begun_ends j c.out.begun || list_any (frame_ends j) c.out.queue) || b) same ∙ is;
}

due_grows : (j : ℕ) (c : Core) (s : ℕ) (d : Due) → ends_on (also c.owed s d) j ≡ ends_on c.owed j → Grows j c (with_due c s d)
unfolding with_due
due_grows j c s d same =
    cond_both (goes_at_once c s d) (put_now c s d) (put_later c s d) (λ (x : Core). Grows j c x)
    (λ is. put_grows j c (put_now c s d) (frame_of c.encoder s d) refl refl) (λ is. later_grows j c s d same)

update_grows : (j : ℕ) (c : Core) (s : ℕ) (o : Option ℕ) → Grows j c (with_update c s o)
update_grows j c s None = same_grows j c c refl refl
update_grows j c s (Some n) = due_grows j c s (due.Credit n) (also_credit c.owed s j n)

-- no DATA can go where none could, and what waited waits
pub record Holds (c d : Connection) (j : ℕ) : Type 0 where
  pub shut : StaysShut j c d
  pub data_waits : data_waits c j ≡ true → data_waits d j ≡ true
  pub end_waits : end_waits c j ≡ true → end_waits d j ≡ true

pub use_holds : (c : Connection) (s n j : ℕ) → Holds c (credited c s n) j
use_holds c s n j =
    let k = core_of c in
    let used = used_on k s n in
    let paid : Core = record used { flow = paid_on used.flow s } in
    let grows = cond_both (sides_of (state_of k.streams s)).peer (credited_on used s) used (λ (x : Core). Grows j k x)
    (λ is. on_with j k paid (credited_on used s) (same_grows j k paid refl refl) (update_grows j paid s (due_on used.flow s)))
    (λ is. same_grows j k used refl refl) in
    record { shut = use_stays_shut j c s n; data_waits = grows.data_grows; end_waits = grows.ends_grow }

pub put_holds : (c : Connection) (s : ℕ) (bytes : List ℕ) (j : ℕ) → Holds c (data_put c s bytes) j
put_holds c s bytes j =
    let k = core_of c in
    let n = payload.count_put k s bytes in
    let grows = cond_both (n == 0) k _ (λ (x : Core). Grows j k x) (λ is. same_grows j k k refl refl)
    (λ is. put_grows j k _ _ refl refl) in
    record { shut = put_stays_shut j c s bytes; data_waits = grows.data_grows; end_waits = grows.ends_grow }

pub accept_holds : (c : Connection) (s number j : ℕ) → j ≢ s → Holds c (status_put c s (record { number = number; end = false })) j
accept_holds c s number j apart =
    let k = core_of c in
    let status : Status = record { number = number; end = false } in
    let grows = due_grows j k s (due.Status status) (ap ends_by (also_other k.owed s j (due.Status status) apart)) in
    record { shut = answer_stays_shut j c s status; data_waits = grows.data_grows; end_waits = grows.ends_grow }

-- the end of this end's side: what is owed on another stream stays
closed_other : (m : Debts) (s j : ℕ) → j ≢ s → get (closed m s) j ≡ get m j
closed_other m s j apart =
    let shuts = changed m s shut in
    cond_both (is_done_by (get shuts s)) (remove shuts s) shuts (λ (k : Debts). get k j ≡ get m j)
    (λ is. removed_elsewhere shuts s j apart ∙ changed_other m s j shut apart) (λ is. changed_other m s j shut apart)

ended_grows : (j : ℕ) (c : Core) (s : ℕ) → j ≢ s → Grows j c (own_ended c s)
ended_grows j c s apart =
    let ended : Core = record c { streams = after c.streams (sends_end s) } in
    cond_both (is_active ended.streams s) ended _ (λ (x : Core). Grows j c x) (λ is. same_grows j c ended refl refl)
    (λ is. record {
      data_grows = λ waits. waits;
      ends_grow = λ waits.
          ap (λ (o : Option Debt). (begun_ends j c.out.begun || list_any (frame_ends j) c.out.queue) || ends_by o)
          (closed_other c.owed s j apart) ∙ waits;
    })

pub end_holds : (c : Connection) (s j : ℕ) → j ≢ s → Holds c (end_put c s) j
end_holds c s j apart =
    let k = core_of c in
    let put = with_due k s due.End in
    let grows = on_with j k put (own_ended put s) (due_grows j k s due.End (ap ends_by (also_other k.owed s j due.End apart)))
    (ended_grows j put s apart) in
    record { shut = end_stays_shut j c s; data_waits = grows.data_grows; end_waits = grows.ends_grow }

-- nothing happened
pub same_holds : (c : Connection) (j : ℕ) → Holds c c j
same_holds c j = record { shut = λ bytes none. none; data_waits = λ is. is; end_waits = λ is. is }

-- a tunnel rests on
off_still : (a p q : Bool) → (p ≡ true → q ≡ true) → (a && not p) ≡ false → (a && not q) ≡ false
off_still false p q grows is = refl
off_still true true q grows is = ap not (grows refl)
off_still true false q grows is = absurd (false≢true (sym is))

pub live_still : (c d : Connection) (j : ℕ) (x : Machine) → Holds c d j → LiveRests c j x → LiveRests d j x
live_still c d j x holds rests = record {
  given_back = rests.given_back;
  none_goes = holds.shut x.ways.down.held rests.none_goes;
  not_ended = off_still (is_done x.ways.down && not x.end_put) (data_waits c j) (data_waits d j) holds.data_waits rests.not_ended;
  not_done = off_still (is_done x.ways.up && is_done x.ways.down && x.end_put) (end_waits c j) (end_waits d j) holds.end_waits
      rests.not_done;
}

rest_by : (stage : t.Stage) (c d : Connection) (j : ℕ) (x : Machine) → Holds c d j → RestsBy stage c j x → RestsBy stage d j x
rest_by t.live c d j x holds rests = live_still c d j x holds rests
rest_by stage c d j x holds rests = tt

pub rests_still : (c d : Connection) (j : ℕ) (x : Machine) → Holds c d j → Rests c j x → Rests d j x
rests_still c d j x holds rests = rest_by x.stage c d j x holds rests
