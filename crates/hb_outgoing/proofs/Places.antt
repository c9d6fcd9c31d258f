-- The place in front of which no DATA frame of the queue stands, through each call.
use Rattle.std.proofs.Common.{◌≡◌, ℕ, ◌+◌, ◌-◌, ◌≤◌, List, [], ◌∷◌, ◌++◌, length, take, drop, refl, sym, ap, ap₂, ◌∙◌, subst}
use Rattle.std.proofs.Common.{arith, ⊎_elim, true, false, Option, None, length-append, length-drop}
use Rattle.std.specs.Prelude.{◌==◌, nat_lt, max, if◌then◌else◌}
use Rattle.std.specs.List.{filter, sum_by}
use Rattle.std.proofs.lemmas.Bool.{cases_Bool}
use Rattle.std.proofs.lemmas.Bool.Decides.{nat_tests}
use Rattle.std.proofs.lemmas.List.{append_assoc, append-nil, take-append-le, drop-append-le, length-take-le}
use Rattle.std.proofs.lemmas.List.{drop-take, drop-drop, drop_all, take_all}
use Rattle.std.proofs.lemmas.List.Elements.{filter-append}
use Rattle.std.proofs.lemmas.List.Sums.{sum_by-append}
use Rattle.std.proofs.lemmas.Grind.{flat_map-append}
use Rattle.std.proofs.Math.Seq.{take-append_seam, drop-append_seam}
use Rattle.hb_frames.specs.RawFrame.{RawFrame, Fits, spelling}
use Rattle.hb_outgoing.specs.declared.head.Head.{Head}
use Rattle.hb_outgoing.specs.Waiting.{Waiting, spelled}
use Rattle.hb_outgoing.specs.Queue.{frames_of, AreWhole}
use Rattle.hb_outgoing.specs.Written.{begun_in}
use Rattle.hb_outgoing.specs.Selected.{is_data_of, is_kept, payload_size, data_size, data_count}
use Rattle.hb_outgoing.specs.Known.{NoDataBefore}
use Rattle.hb_outgoing.proofs.Queues.{no_frames, whole_none, whole_spelled, frames_spelled, grown, spelling_len, octets_are}
use Rattle.hb_outgoing.proofs.Views.{Inside, Ends, fit_filter, frames_are_taken}
use Rattle.hb_outgoing.proofs.Walks.{count_append, kept_all, no_data}
use Rattle.hb_outgoing.proofs.Sent.{begun_and_left}

-- the place of the first frame of the queue
pub at_rest : (items : List ℕ) (rest : ℕ) → Inside items rest → NoDataBefore items rest rest
at_rest items rest inside = record {
  before = [];
  queue = refl;
  octets = sym (append-nil (take rest items));
  none = refl;
  within = inside.within;
  later = inside.whole;
}

-- a frame is put behind the place

put_behind : (items : List ℕ) (rest from : ℕ) (f : RawFrame) → Inside items rest → Fits f → NoDataBefore items rest from
    → NoDataBefore (items ++ spelling f) rest from
put_behind items rest from f inside fits so =
    let all = grown (drop rest items) f inside.whole fits in
    let some = grown (drop from items) f so.later fits in
    let all_behind = drop-append-le rest items (spelling f) inside.within in
    let some_behind = drop-append-le from items (spelling f) so.within in
    record {
      before = so.before;
      queue = ap frames_of all_behind ∙ all.frames ∙ ap (λ (fs : List RawFrame). fs ++ f ∷ []) so.queue
          ∙ append_assoc so.before (frames_of (drop from items)) (f ∷ [])
          ∙ ap (λ (fs : List RawFrame). so.before ++ fs) (sym some.frames ∙ ap frames_of (sym some_behind));
      octets = take-append-le from items (spelling f) so.within ∙ so.octets
          ∙ ap (λ (xs : List ℕ). xs ++ spelled so.before) (sym (take-append-le rest items (spelling f) inside.within));
      none = so.none;
      within = omega (arith, length-append items (spelling f), so.within);
      later = subst AreWhole (sym some_behind) some.whole;
    }

-- the end, where the queue has no DATA frame
at_end : (items : List ℕ) (rest : ℕ) → Inside items rest → data_count (frames_of (drop rest items)) ≡ 0
    → NoDataBefore items rest (length items)
at_end items rest inside none =
    let fs = frames_of (drop rest items) in
    let behind : drop (length items) items ≡ [] = drop_all (length items) items (omega arith) in
    record {
      before = fs;
      queue = sym (append-nil fs) ∙ ap (λ (gs : List RawFrame). fs ++ gs) (sym (ap frames_of behind ∙ no_frames));
      octets = take_all (length items) items (omega arith) ∙ sym (octets_are items rest inside.whole);
      none = none;
      within = omega arith;
      later = subst AreWhole (sym behind) whole_none;
    }

pub before_put : (items : List ℕ) (rest from count now : ℕ) (f : RawFrame) → Inside items rest → Fits f → NoDataBefore items rest from
    → count ≡ data_count (frames_of (drop rest items)) → now ≡ (if count == 0 then length items else from)
    → NoDataBefore (items ++ spelling f) rest now
before_put items rest from count now f inside fits so count_is now_is = ⊎_elim
    (λ (test : (count == 0) ≡ true).
    let none : count ≡ 0 = grind (arith, nat_tests) in
    let is : now ≡ length items = now_is ∙ rw test refl in
    subst (NoDataBefore (items ++ spelling f) rest) (sym is)
    (put_behind items rest (length items) f inside fits (at_end items rest inside (sym count_is ∙ none))))
    (λ (test : (count == 0) ≡ false).
    let is : now ≡ from = now_is ∙ rw test refl in
    subst (NoDataBefore (items ++ spelling f) rest) (sym is) (put_behind items rest from f inside fits so))
    (cases_Bool (count == 0))

-- octets are written

-- the queue behind the frames that begin
pub left_behind : (items : List ℕ) (rest : ℕ) (begun : Option Head) (n end : ℕ) (head : Option Head) → Ends items rest begun n end head
    → frames_of (drop (end - n) (drop n items))
    ≡ drop (length (begun_in (n - rest) (frames_of (drop rest items)))) (frames_of (drop rest items))
left_behind items rest begun n end head ends =
    let is : n + (end - n) ≡ end = omega (arith, ends.passes) in
    ap frames_of (drop-drop (end - n) n items ∙ ap (λ (k : ℕ). drop k items) is) ∙ ends.queue

first_or : RawFrame → List RawFrame → RawFrame
first_or none [] = none
first_or none (f ∷ fs) = f

others : List RawFrame → List RawFrame
others [] = []
others (f ∷ fs) = fs

-- of two first parts of one queue the shorter one is the first part of the other
first_part : (fs gs hs ks : List RawFrame) → fs ++ gs ≡ hs ++ ks → length (spelled fs) ≤ length (spelled hs)
    → (more : List RawFrame) × (hs ≡ fs ++ more) × (gs ≡ more ++ ks)
unfolding first_or others
first_part [] gs hs ks is less = (hs, refl, is)
first_part (f ∷ fs) gs [] ks is less = absurd (omega (arith, length-append (spelling f) (spelled fs), spelling_len f, less))
first_part (f ∷ fs) gs (h ∷ hs) ks is less =
    let same : f ≡ h = ap (first_or f) is in
    let rest : fs ++ gs ≡ hs ++ ks = ap others is in
    let len = ap (λ (g : RawFrame). length (spelling g)) same in
    let later = first_part fs gs hs ks rest
    (omega (arith, length-append (spelling f) (spelled fs), length-append (spelling h) (spelled hs), len, less)) in (
      later.0,
      ap₂ (λ (g : RawFrame) (gs : List RawFrame). g ∷ gs) (sym same) later.1,
      later.2,
    )

-- the place is behind all frames that begin
still_before : (items : List ℕ) (rest from : ℕ) (begun : Option Head) (n end : ℕ) (head : Option Head) → Inside items rest
    → Ends items rest begun n end head → NoDataBefore items rest from → end ≤ from → NoDataBefore (drop n items) (end - n) (from - n)
still_before items rest from begun n end head inside ends so order =
    let fs = begun_in (n - rest) (frames_of (drop rest items)) in
    let all : fs ++ frames_of (drop end items) ≡ so.before ++ frames_of (drop from items) =
    ap (λ (gs : List RawFrame). fs ++ gs) ends.queue ∙ begun_and_left (n - rest) (frames_of (drop rest items)) ∙ so.queue in
    let fs_len : length (spelled fs) + rest ≡ end = omega (
      arith,
      ap length ends.octets,
      length-append (take rest items) (spelled fs),
      length-take-le end items ends.within,
      length-take-le rest items inside.within,
    ) in
    let before_len : length (spelled so.before) + rest ≡ from = omega (
      arith,
      ap length so.octets,
      length-append (take rest items) (spelled so.before),
      length-take-le from items so.within,
      length-take-le rest items inside.within,
    ) in
    let part = first_part fs (frames_of (drop end items)) so.before (frames_of (drop from items)) all
    (omega (arith, fs_len, before_len, order)) in
    let more = part.0 in
    let from_is : n + (from - n) ≡ from = omega (arith, ends.passes, order) in
    let end_is : n + (end - n) ≡ end = omega (arith, ends.passes) in
    let from_behind : drop (from - n) (drop n items) ≡ drop from items =
    drop-drop (from - n) n items ∙ ap (λ (k : ℕ). drop k items) from_is in
    let end_behind : drop (end - n) (drop n items) ≡ drop end items =
    drop-drop (end - n) n items ∙ ap (λ (k : ℕ). drop k items) end_is in
    let from_front : take (from - n) (drop n items) ≡ drop n (take from items) =
    sym (drop-take n (from - n) items) ∙ ap (λ (k : ℕ). drop n (take k items)) from_is in
    let end_front : take (end - n) (drop n items) ≡ drop n (take end items) =
    sym (drop-take n (end - n) items) ∙ ap (λ (k : ℕ). drop n (take k items)) end_is in
    let octets : take from items ≡ take end items ++ spelled more =
    so.octets ∙ ap (λ (gs : List RawFrame). take rest items ++ spelled gs) part.1
    ∙ ap (λ (xs : List ℕ). take rest items ++ xs) (flat_map-append spelling fs more)
    ∙ sym (append_assoc (take rest items) (spelled fs) (spelled more))
    ∙ ap (λ (xs : List ℕ). xs ++ spelled more) (sym ends.octets) in
    let enough : n ≤ length (take end items) = omega (arith, length-take-le end items ends.within, ends.passes) in
    record {
      before = more;
      queue = ap frames_of end_behind ∙ part.2 ∙ ap (λ (xs : List ℕ). more ++ frames_of xs) (sym from_behind);
      octets = from_front ∙ ap (drop n) octets ∙ drop-append-le n (take end items) (spelled more) enough
          ∙ ap (λ (xs : List ℕ). xs ++ spelled more) (sym end_front);
      none = omega (arith, so.none, ap data_count part.1, count_append fs more);
      within = omega (arith, length-drop n items, so.within);
      later = subst AreWhole (sym from_behind) so.later;
    }

pub before_written : (items : List ℕ) (rest from : ℕ) (begun : Option Head) (n end : ℕ) (head : Option Head) → Inside items rest
    → Ends items rest begun n end head → Inside (drop n items) (end - n) → NoDataBefore items rest from
    → NoDataBefore (drop n items) (end - n) (max from end - n)
before_written items rest from begun n end head inside ends after so = ⊎_elim
    (λ (test : nat_lt from end ≡ true).
    let is : max from end - n ≡ end - n = grind (arith, nat_tests) in
    subst (NoDataBefore (drop n items) (end - n)) (sym is) (at_rest (drop n items) (end - n) after))
    (λ (test : nat_lt from end ≡ false).
    let order : end ≤ from = grind (arith, nat_tests) in
    let is : max from end - n ≡ from - n = omega (arith, order) in
    subst (NoDataBefore (drop n items) (end - n)) (sym is) (still_before items rest from begun n end head inside ends so order))
    (cases_Bool (nat_lt from end))

-- frames are taken back

-- what is left of the queue, and what was taken, by the frames from the place on
pub record TakenBehind (items : List ℕ) (rest from : ℕ) (stream : Option ℕ) : Type 0 where
  pub octets : take from items ++ spelled (filter (is_kept stream) (frames_of (drop from items)))
      ≡ take rest items ++ spelled (filter (is_kept stream) (frames_of (drop rest items)))
  pub size : data_size stream (frames_of (drop from items)) ≡ data_size stream (frames_of (drop rest items))
  pub count : data_count (filter (is_kept stream) (frames_of (drop from items)))
      ≡ data_count (filter (is_kept stream) (frames_of (drop rest items)))
  pub still : NoDataBefore (take from items ++ spelled (filter (is_kept stream) (frames_of (drop from items)))) rest from

pub count_behind : (items : List ℕ) (rest from : ℕ) → NoDataBefore items rest from
    → data_count (frames_of (drop rest items)) ≡ data_count (frames_of (drop from items))
count_behind items rest from so =
    omega (arith, ap data_count so.queue, count_append so.before (frames_of (drop from items)), so.none)

size_append : (stream : Option ℕ) (fs gs : List RawFrame) → data_size stream (fs ++ gs) ≡ data_size stream fs + data_size stream gs
size_append stream fs gs =
    ap (sum_by payload_size) (filter-append (is_data_of stream) fs gs)
    ∙ sum_by-append payload_size (filter (is_data_of stream) fs) (filter (is_data_of stream) gs)

pub taken_behind : (items : List ℕ) (rest from : ℕ) (stream : Option ℕ) → Inside items rest → NoDataBefore items rest from
    → TakenBehind items rest from stream
taken_behind items rest from stream inside so =
    let all = frames_of (drop rest items) in
    let some = frames_of (drop from items) in
    let kept = filter (is_kept stream) some in
    let none = kept_all stream so.before (no_data stream so.before so.none) in
    let queue : filter (is_kept stream) all ≡ so.before ++ kept =
    ap (filter (is_kept stream)) so.queue ∙ filter-append (is_kept stream) so.before some
    ∙ ap (λ (fs : List RawFrame). fs ++ kept) none.0 in
    let octets : take from items ++ spelled kept ≡ take rest items ++ spelled (filter (is_kept stream) all) =
    ap (λ (xs : List ℕ). xs ++ spelled kept) so.octets ∙ append_assoc (take rest items) (spelled so.before) (spelled kept)
    ∙ ap (λ (xs : List ℕ). take rest items ++ xs) (sym (flat_map-append spelling so.before kept))
    ∙ ap (λ (fs : List RawFrame). take rest items ++ spelled fs) (sym queue) in
    let now = take from items ++ spelled kept in
    let fit = fit_filter (is_kept stream) some so.later.fit in
    let from_len = length-take-le from items so.within in
    let rest_len = length-take-le rest items inside.within in
    let front : take from now ≡ take from items =
    ap (λ (k : ℕ). take k now) (sym from_len) ∙ take-append_seam (take from items) (spelled kept) in
    let first : take rest now ≡ take rest items =
    ap (take rest) octets ∙ ap (λ (k : ℕ). take k (take rest items ++ spelled (filter (is_kept stream) all))) (sym rest_len)
    ∙ take-append_seam (take rest items) (spelled (filter (is_kept stream) all)) in
    let behind : drop from now ≡ spelled kept =
    ap (λ (k : ℕ). drop k now) (sym from_len) ∙ drop-append_seam (take from items) (spelled kept) in
    let taken = frames_are_taken items rest None stream inside in
    let left : frames_of (drop rest now) ≡ filter (is_kept stream) all =
    ap (λ (xs : List ℕ). frames_of (drop rest xs)) octets ∙ ap (λ (w : Waiting). w.queue) taken.seen in
    record {
      octets = octets;
      size = omega (arith, ap (data_size stream) so.queue, size_append stream so.before some, none.1);
      count = omega (arith, ap data_count queue, count_append so.before kept, so.none);
      still = record {
        before = so.before;
        queue = left ∙ queue
            ∙ ap (λ (fs : List RawFrame). so.before ++ fs) (sym (ap frames_of behind ∙ frames_spelled kept fit));
        octets = front ∙ so.octets ∙ ap (λ (xs : List ℕ). xs ++ spelled so.before) (sym first);
        none = so.none;
        within = omega (arith, length-append (take from items) (spelled kept), from_len);
        later = subst AreWhole (sym behind) (whole_spelled kept fit);
      };
    }
