-- On which streams DATA waits to be written, move after move.
use Rattle.std.proofs.Common.{◌≡◌, ℕ, ◌==◌, ◌&&◌, ◌||◌, not, Bool, true, false, length, take, Some, None, refl, sym, ◌∙◌, subst}
use Rattle.std.proofs.lemmas.Bool.{cond_both, false≢true, eq-eqb}
use Rattle.hb_frames.specs.Numbers.{data_kind}
use Rattle.hb_frames.specs.RawFrame.{RawFrame}
use Rattle.hb_frames.specs.Reading.{asked}
use Rattle.hb_hpack.specs.Encoding.{block_of}
use Rattle.hb_streams.specs.Sides.{sides_of}
use Rattle.hb_streams.specs.States.{state_of}
use Rattle.hb_flow.specs.Flows.{spent}
use Rattle.hb_outgoing.specs.Waiting.{Waiting}
use Rattle.hb_outgoing.specs.Written.{begun_by, written}
use Rattle.hb_outgoing.specs.Selected.{has_data, is_kept}
use Rattle.hb_owed.specs.declared.due.Due.{Due}
use Rattle.hb_owed.specs.declared.due.Due.TheVariants as due
use Rattle.hb_conn.specs.Connection.{Connection, Finds, core_of}
use Rattle.hb_conn.specs.Credit.{used_on}
use Rattle.hb_conn.specs.Data.{credited_on}
use Rattle.hb_conn.specs.Ending.{own_ended}
use Rattle.hb_conn.specs.Faults.{is_active, cancelled, withdrawn, released, aborted}
use Rattle.hb_conn.specs.Frames.{frame, sent}
use Rattle.hb_conn.specs.Glance.{glance_of}
use Rattle.hb_conn.specs.Observed.{outgoing}
use Rattle.hb_conn.specs.Opening.{begun, headers_frame, headers_put}
use Rattle.hb_conn.specs.Owing.{with_due}
use Rattle.hb_conn.specs.Payload.{count_put}
use Rattle.hb_conn.specs.declared.found.Found.{Found}
use Rattle.hb_conn.specs.declared.found.Found.TheVariants as found
use Rattle.hb_conn.specs.declared.machine.Core.{Core}
use Rattle.hb_history.specs.TakenBack.{has_data_on, IsTakenBack}
use Rattle.hb_history.proofs.Found.{Holds, finds_so}
use Rattle.hb_history.proofs.Kept as kept
use Rattle.hb_history.proofs.Parts.{calm, PutsAck}
use Rattle.hb_history.proofs.Shown.{KeepsOut, OfOut, out_keeps, out_resizes, out_grows}
use Rattle.hb_history.proofs.TakenBack.{ends_take_back}
use Rattle.hb_kept.specs.DataWaits.{StreamSet, no_stream, with_stream, without_stream, WaitsWithin, set_behind}
use Rattle.hb_kept.specs.DataWaits.{WaitsWithinMore, WaitsWithout, FindsWithin, WritesWithin, OpensWithin, UsesWithin, AnswersWithin, EndsWithin, PutsWithin, ResetsWithin, OutsideIsRefused, InsideMayWait}
use Rattle.hb_kept.proofs.All.{each_more, each_left, each_filtered, each_kept, each_so, each_both}
use Rattle.hb_kept.proofs.Handled.{frame_keeps}

-- of what is kept of the output by each change of it, and by answers, all that is found keeps it
module _ (Q : Waiting → Type 0) (k : KeepsOut Q) where
  abbrev Lasts : Core → Core → Found → Type 0
  Lasts c new told = Q c.out → Q new.out

  lasting : PutsAck (OfOut Q) → Holds Lasts
  lasting acks = record {
    same = λ c new told still is h. subst (λ (x : Core). Q x.out) (sym is) h;
    on = λ c mid new told first then h. then (first h);
    handled = λ r c new told is h.
        frame_keeps (OfOut Q) (out_keeps Q k) (out_resizes Q k) acks (λ d s n h. out_grows Q k d s n h) c (glance_of r) (asked r).last new
        told h is;
    faults = λ c new code told is h.
        subst (λ (x : Core). Q x.out) (sym is.0) (kept.faulted_keeps (OfOut Q) (out_keeps Q k) calm c code h);
  }

  pub found_keeps : PutsAck (OfOut Q) → (c d : Connection) (told : Found) → Finds c d told → Q (outgoing c) → Q (outgoing d)
  found_keeps acks c d told finds h = finds_so Lasts (lasting acks) c d told finds h

  -- and each act by which no DATA is put
  pub paid_keeps : (c : Core) (s : ℕ) → Q c.out → Q (credited_on c s).out
  paid_keeps c s h = kept.credited_keeps (OfOut Q) (out_keeps Q k) c s h

  pub due_keeps : (c : Core) (s : ℕ) (d : Due) → Q c.out → Q (with_due c s d).out
  due_keeps c s d h = kept.due_keeps (OfOut Q) (out_keeps Q k) calm c s d h

  pub ended_keeps : (c : Core) (s : ℕ) → Q c.out → Q (own_ended c s).out
  ended_keeps c s h = kept.own_ended_keeps (OfOut Q) (out_keeps Q k) c s h

-- DATA of streams of a set

abbrev In : StreamSet → RawFrame → Type 0
In set f = has_data f ≡ true → set f.stream ≡ true

no_data : (set : StreamSet) (f : RawFrame) → has_data f ≡ false → In set f
no_data set f none some = absurd (false≢true (sym none ∙ some))

within_keeps : (set : StreamSet) → KeepsOut (WaitsWithin set)
within_keeps set = record {
  puts = λ w f plain h. each_more (In set) w.queue f h (no_data set f plain.0);
  takes_back = λ w s h. each_filtered (In set) (is_kept (Some s)) w.queue h;
  takes_all_back = λ w h. each_filtered (In set) (is_kept None) w.queue h;
}

within_acks : (set : StreamSet) → PutsAck (OfOut (WaitsWithin set))
within_acks set c f answer h = each_more (In set) c.out.queue f h (no_data set f answer.0)

pub within_more : WaitsWithinMore
within_more set more w wider h = each_so (In set) (In more) (λ f in_set some. wider f.stream (in_set some)) w.queue h

off_by : (some on : Bool) → (some && on) ≡ false → some ≡ true → on ≡ false
off_by true on none is = none
off_by false on none is = absurd (false≢true is)

but_by : (on inside : Bool) → on ≡ false → inside ≡ true → (not on && inside) ≡ true
but_by false inside off is = is
but_by true inside off is = absurd (false≢true (sym off))

pub waits_without : WaitsWithout
waits_without set s w none h =
    each_both (λ f. has_data_on s f ≡ false) (In set) (In (without_stream s set))
    (λ f off in_set some. but_by (f.stream == s) (set f.stream) (off_by (has_data f) (f.stream == s) off some) (in_set some)) w.queue none h

-- what is found

pub finds_within_set : FindsWithin
finds_within_set set c d told finds h =
    by told (found_keeps (WaitsWithin set) (within_keeps set) (within_acks set) c d told finds h) (ends_take_back c d told finds)
  where
    by : (told : Found) → WaitsWithin set (outgoing d) → IsTakenBack told (outgoing d) → WaitsWithin (set_behind told set) (outgoing d)
    by (found.Reset s code) within taken = waits_without set s (outgoing d) taken within
    by (found.Broken s code) within taken = waits_without set s (outgoing d) taken within
    by (found.Fault code) within taken =
        each_so (λ f. has_data f ≡ false) (In no_stream) (λ f none. no_data no_stream f none) (outgoing d).queue taken
    by told within taken = within

-- what this end does

pub writes_within : WritesWithin
writes_within set c n h =
    let k = core_of c in
    kept.payment_keeps (OfOut (WaitsWithin set)) (out_keeps (WaitsWithin set) (within_keeps set)) calm (record k { out = written n k.out })
    (each_left (In set) (length (begun_by n k.out)) k.out.queue h)

pub opens_within : OpensWithin
opens_within set c s headers end h =
    let old = core_of c in
    let put = headers_put (begun old s) s headers end in
    let f = headers_frame s end (block_of (begun old s).encoder headers) in
    let went : WaitsWithin set put.out = each_more (In set) old.out.queue f h (no_data set f refl) in
    cond_both end (own_ended put s) put (λ (x : Core). WaitsWithin set x.out)
    (λ is. ended_keeps (WaitsWithin set) (within_keeps set) put s went) (λ is. went)

pub uses_within : UsesWithin
uses_within set c s n h =
    let k = core_of c in
    let used = used_on k s n in
    cond_both (sides_of (state_of k.streams s)).peer (credited_on used s) used (λ (x : Core). WaitsWithin set x.out)
    (λ is. paid_keeps (WaitsWithin set) (within_keeps set) used s h) (λ is. h)

pub answers_within : AnswersWithin
answers_within set c s status h =
    let put = with_due (core_of c) s (due.Status status) in
    let went = due_keeps (WaitsWithin set) (within_keeps set) (core_of c) s (due.Status status) h in
    cond_both status.end (own_ended put s) put (λ (x : Core). WaitsWithin set x.out)
    (λ is. ended_keeps (WaitsWithin set) (within_keeps set) put s went) (λ is. went)

pub ends_within : EndsWithin
ends_within set c s h =
    ended_keeps (WaitsWithin set) (within_keeps set) (with_due (core_of c) s due.End) s
    (due_keeps (WaitsWithin set) (within_keeps set) (core_of c) s due.End h)

or_true : (a b : Bool) → b ≡ true → (a || b) ≡ true
or_true true b is = refl
or_true false b is = is

itself : (s : ℕ) (b : Bool) → (s == s || b) ≡ true
itself s b = rw (eq-eqb s s refl) refl

pub puts_within : PutsWithin
puts_within set c s bytes h =
    let k = core_of c in
    let more = with_stream s set in
    let wider = within_more set more k.out (λ n is. or_true (n == s) (set n) is) h in
    let n = count_put k s bytes in
    cond_both (n == 0) k (sent (record k { flow = spent k.flow s n }) (frame data_kind 0 s (take n bytes)))
    (λ (x : Core). WaitsWithin more x.out) (λ is. wider)
    (λ is. each_more (In more) k.out.queue (frame data_kind 0 s (take n bytes)) wider (λ some. itself s (set s)))

-- a DATA frame of the stream isn't kept
kept_by : (kind some on : Bool) → not (kind && on) ≡ true → (kind && some) ≡ true → on ≡ false
kept_by false some on kept is = absurd (false≢true is)
kept_by true some true kept is = absurd (false≢true kept)
kept_by true some false kept is = refl

taken : (s : ℕ) (set : StreamSet) (f : RawFrame) → is_kept (Some s) f ≡ true → In set f → In (without_stream s set) f
taken s set f kept in_set some =
    but_by (f.stream == s) (set f.stream) (kept_by (f.kind == data_kind) _ (f.stream == s) kept some) (in_set some)

released_by : (s : ℕ) (c : Core) (Q : Waiting → Type 0) → Q c.out → Q (released c s).out
released_by s c Q h = cond_both (is_active c.streams s) c _ (λ (x : Core). Q x.out) (λ is. h) (λ is. h)

aborts : (s code : ℕ) (set : StreamSet) (c : Core) → WaitsWithin set c.out → WaitsWithin (without_stream s set) (aborted c s code).out
unfolding aborted
aborts s code set c h =
    let less = without_stream s set in
    let keeps = within_keeps less in
    let d = withdrawn (cancelled c s) s in
    let e = with_due d s (due.Reset code) in
    let out : (cancelled c s).out ≡ c.out =
    cond_both (is_active c.streams s) _ c (λ (x : Core). x.out ≡ c.out) (λ is. refl) (λ is. refl) in
    let was : WaitsWithin set (cancelled c s).out = subst (WaitsWithin set) (sym out) h in
    let back : WaitsWithin less d.out =
    each_kept (In set) (In less) (is_kept (Some s)) (λ f kept in_set. taken s set f kept in_set) (cancelled c s).out.queue was in
    kept.payment_keeps (OfOut (WaitsWithin less)) (out_keeps (WaitsWithin less) keeps) calm (released e s)
    (released_by s e (WaitsWithin less) (due_keeps (WaitsWithin less) keeps d s (due.Reset code) back))

pub resets_within : ResetsWithin
resets_within set c s code h = aborts s code set (core_of c) h

pub outside_is_refused : OutsideIsRefused
outside_is_refused set off within = false≢true (sym off ∙ within.0 refl)

pub inside_may_wait : InsideMayWait
inside_may_wait set on = (λ some. on, tt)
