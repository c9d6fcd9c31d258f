-- What is seen of an Outgoing by its octets, and what it becomes.
use Rattle.std.proofs.Common.{◌≡◌, ℕ, ◌+◌, ◌-◌, ◌≤◌, List, [], ◌∷◌, ◌++◌, length, take, drop, refl, sym, ap, ap₂, ◌∙◌, subst}
use Rattle.std.proofs.Common.{arith, ⊎_elim, Bool, true, false, Option, Some, None, length-append, length-drop}
use Rattle.std.specs.Prelude.{◌==◌, if◌then◌else◌}
use Rattle.std.specs.List.{filter}
use Rattle.std.proofs.lemmas.Bool.{cases_Bool}
use Rattle.std.proofs.lemmas.Bool.Decides.{nat_tests}
use Rattle.std.proofs.lemmas.List.{take-append-le, drop-append-le, length-take-le, drop-take, drop-drop, take_all, drop_all, append-nil}
use Rattle.std.proofs.lemmas.Grind.{flat_map-append}
use Rattle.std.proofs.Math.Seq.{take-append_seam, drop-append_seam}
use Rattle.hb_frames.specs.RawFrame.{RawFrame, Fits, spelling}
use Rattle.hb_frames.proofs.Records.{bounded, raw}
use Rattle.hb_outgoing.specs.declared.head.Head.{Head}
use Rattle.hb_outgoing.specs.Waiting.{Waiting, spelled, octets_of, nothing, opened, put}
use Rattle.hb_outgoing.specs.Queue.{frames_of, AllFit, AreWhole}
use Rattle.hb_outgoing.specs.Written.{begun_in, begun_by, last_head, while_waits, rest_after, written}
use Rattle.hb_outgoing.specs.Selected.{is_kept, without, taken_back, all_taken_back}
use Rattle.hb_outgoing.proofs.Queues.{no_frames, whole_none, whole_spelled, frames_spelled, grown, octets_are, spelling_len}

abbrev pub waiting : List ℕ → Option Head → List RawFrame → Waiting
waiting rest begun queue = record { rest = rest; begun = begun; queue = queue }

pub same_waiting : (r s : List ℕ) (a b : Option Head) (p q : List RawFrame) → r ≡ s → a ≡ b → p ≡ q → waiting r a p ≡ waiting s b q
same_waiting r s a b p q rest begun queue = rw (rest, begun, queue) refl

pub same_bounded : (xs ys : List ℕ) (m n : ℕ) → xs ≡ ys → m ≡ n → bounded xs m ≡ bounded ys n
same_bounded xs ys m n items size = rw (items, size) refl

abbrev pub view : List ℕ → ℕ → Option Head → Waiting
view items rest begun = waiting (take rest items) begun (frames_of (drop rest items))

-- what the octets and the count of those begun keep
pub record Inside (items : List ℕ) (rest : ℕ) : Type 0 where
  pub small : length items ≤ 65536
  pub within : rest ≤ length items
  pub whole : AreWhole (drop rest items)

pub record Becomes (items : List ℕ) (rest : ℕ) (begun : Option Head) (w : Waiting) : Type 0 where
  pub inside : Inside items rest
  pub seen : view items rest begun ≡ w

pub none_waits : Becomes [] 0 None nothing
none_waits = record {
  inside = record { small = omega arith; within = omega arith; whole = whole_none };
  seen = ap (waiting [] None) no_frames;
}

pub opening_waits : (bytes : List ℕ) → length bytes ≤ 65536 → Becomes bytes (length bytes) None (opened bytes)
opening_waits bytes small =
    let none : drop (length bytes) bytes ≡ [] = drop_all (length bytes) bytes (omega arith) in
    record {
      inside = record { small = small; within = omega arith; whole = subst AreWhole (sym none) whole_none };
      seen = same_waiting _ _ _ _ _ _ (take_all (length bytes) bytes (omega arith)) refl (ap frames_of none ∙ no_frames);
    }

-- behind nothing the payload of a frame whose header is dropped stands alone
pub opening_alone : (items : List ℕ) (rest : ℕ) (bytes : List ℕ) → AreWhole (drop rest items)
    → length (take rest items ++ spelled (frames_of (drop rest items))) ≡ 0 → drop 9 (items ++ spelling (raw 0 0 0 bytes)) ≡ bytes
opening_alone items rest bytes whole empty =
    let len : length items ≤ 0 = omega (arith, empty, ap length (octets_are items rest whole)) in
    ap (λ (xs : List ℕ). drop 9 (xs ++ spelling (raw 0 0 0 bytes))) (drop_all 0 items len)

pub frame_is_put : (items : List ℕ) (rest : ℕ) (begun : Option Head) (f : RawFrame) → Inside items rest → Fits f
    → length items + (9 + length f.payload) ≤ 65536 → Becomes (items ++ spelling f) rest begun (put f (view items rest begun))
frame_is_put items rest begun f inside fits room =
    let grows = grown (drop rest items) f inside.whole fits in
    let len = length-append items (spelling f) in
    let behind = drop-append-le rest items (spelling f) inside.within in
    record {
      inside = record {
        small = omega (arith, len, spelling_len f, room);
        within = omega (arith, len, inside.within);
        whole = subst AreWhole (sym behind) grows.whole;
      };
      seen = same_waiting _ _ _ _ _ _ (take-append-le rest items (spelling f) inside.within) refl
          (ap frames_of behind ∙ grows.frames);
    }

-- what is left once octets were written

pub waits_by_length : (xs : List ℕ) (begun : Option Head) → while_waits xs begun ≡ (if length xs == 0 then None else begun)
waits_by_length [] begun = refl
waits_by_length (x ∷ xs) begun = let test : (length (x ∷ xs) == 0) ≡ false = grind (arith, nat_tests) in rw test refl

pub record Ends (items : List ℕ) (rest : ℕ) (begun : Option Head) (n end : ℕ) (head : Option Head) : Type 0 where
  pub passes : n ≤ end
  pub within : end ≤ length items
  pub later : AreWhole (drop end items)
  pub octets : take end items ≡ take rest items ++ spelled (begun_in (n - rest) (frames_of (drop rest items)))
  pub queue : frames_of (drop end items)
      ≡ drop (length (begun_in (n - rest) (frames_of (drop rest items)))) (frames_of (drop rest items))
  pub head_is : head ≡ last_head begun (begun_in (n - rest) (frames_of (drop rest items)))

pub octets_are_written : (items : List ℕ) (rest : ℕ) (begun : Option Head) (n end : ℕ) (head left : Option Head) → Inside items rest
    → Ends items rest begun n end head → left ≡ (if end - n == 0 then None else head)
    → Becomes (drop n items) (end - n) left (written n (view items rest begun))
octets_are_written items rest begun n end head left inside ends left_is =
    let w = view items rest begun in
    let begins : begun_by n w ≡ begun_in (n - rest) (frames_of (drop rest items)) =
    ap (λ (k : ℕ). begun_in (n - k) (frames_of (drop rest items))) (length-take-le rest items inside.within) in
    let end_is : n + (end - n) ≡ end = omega (arith, ends.passes) in
    let rest_is : rest_after n w ≡ drop n (take end items) =
    ap (λ (fs : List RawFrame). drop n (take rest items ++ spelled fs)) begins ∙ ap (drop n) (sym ends.octets) in
    let front : take (end - n) (drop n items) ≡ rest_after n w =
    sym (drop-take n (end - n) items) ∙ ap (λ (k : ℕ). drop n (take k items)) end_is ∙ sym rest_is in
    let behind : drop (end - n) (drop n items) ≡ drop end items =
    drop-drop (end - n) n items ∙ ap (λ (k : ℕ). drop k items) end_is in
    let len = length-drop n items in
    let enough : end - n ≤ length (drop n items) = omega (arith, len, ends.within) in
    let rest_len : length (rest_after n w) ≡ end - n = ap length (sym front) ∙ length-take-le (end - n) (drop n items) enough in
    let head_is : head ≡ last_head begun (begun_by n w) = ends.head_is ∙ ap (last_head begun) (sym begins) in
    let left_begun : left ≡ while_waits (rest_after n w) (last_head begun (begun_by n w)) =
    left_is ∙ ap₂ (λ (k : ℕ) (h : Option Head). if k == 0 then None else h) (sym rest_len) head_is
    ∙ sym (waits_by_length (rest_after n w) (last_head begun (begun_by n w))) in
    record {
      inside = record {
        small = omega (arith, len, inside.small);
        within = enough;
        whole = subst AreWhole (sym behind) ends.later;
      };
      seen = same_waiting _ _ _ _ _ _ front left_begun
          (ap frames_of behind ∙ ends.queue
          ∙ ap (λ (fs : List RawFrame). drop (length fs) (frames_of (drop rest items))) (sym begins));
    }

pub front_is_written : (items front : List ℕ) (rest : ℕ) (begun : Option Head) (n end : ℕ) (head left : Option Head) → front ≡ items
    → Inside items rest → Ends front rest begun n end head → left ≡ (if end - n == 0 then None else head)
    → Becomes (drop n items) (end - n) left (written n (view items rest begun))
front_is_written items front rest begun n end head left is inside ends left_is =
    octets_are_written items rest begun n end head left inside
    (subst (λ (xs : List ℕ). Ends xs rest begun n end head) is ends) left_is

-- what is left once frames were taken back

pub fit_filter : (p : RawFrame → Bool) (fs : List RawFrame) → AllFit fs → AllFit (filter p fs)
fit_filter p [] fit = tt
fit_filter p (f ∷ fs) fit = ⊎_elim
    (λ (test : p f ≡ true). rw test (fit.0, fit_filter p fs fit.1))
    (λ (test : p f ≡ false). rw test (fit_filter p fs fit.1))
    (cases_Bool (p f))

pub filter_is_short : (p : RawFrame → Bool) (fs : List RawFrame) → length (spelled (filter p fs)) ≤ length (spelled fs)
filter_is_short p [] = omega arith
filter_is_short p (f ∷ fs) =
    let shorter = filter_is_short p fs in
    let len = length-append (spelling f) (spelled fs) in
    let len_kept = length-append (spelling f) (spelled (filter p fs)) in
    ⊎_elim
    (λ (test : p f ≡ true). rw test (omega (arith, shorter, len, len_kept)))
    (λ (test : p f ≡ false). rw test (omega (arith, shorter, len)))
    (cases_Bool (p f))

pub without_is_short : (stream : Option ℕ) (w : Waiting) → length (octets_of (without stream w)) ≤ length (octets_of w)
without_is_short stream w =
    omega (
      arith,
      filter_is_short (is_kept stream) w.queue,
      length-append w.rest (spelled w.queue),
      length-append w.rest (spelled (filter (is_kept stream) w.queue)),
    )

pub taken_is_short : (stream : ℕ) (w : Waiting) → length (octets_of (taken_back stream w)) ≤ length (octets_of w)
taken_is_short stream w = without_is_short (Some stream) w

pub all_taken_is_short : (w : Waiting) → length (octets_of (all_taken_back w)) ≤ length (octets_of w)
all_taken_is_short w = without_is_short None w

pub put_is_long : (f : RawFrame) (w : Waiting) → length (octets_of (put f w)) ≡ length (octets_of w) + (9 + length f.payload)
put_is_long f w =
    let one : spelled (f ∷ []) ≡ spelling f = append-nil (spelling f) in
    omega (
      arith,
      length-append w.rest (spelled w.queue),
      length-append w.rest (spelled (w.queue ++ f ∷ [])),
      ap length (flat_map-append spelling w.queue (f ∷ [])),
      length-append (spelled w.queue) (spelled (f ∷ [])),
      ap length one,
      spelling_len f,
    )

pub frames_are_taken : (items : List ℕ) (rest : ℕ) (begun : Option Head) (stream : Option ℕ) → Inside items rest
    → Becomes (take rest items ++ spelled (filter (is_kept stream) (frames_of (drop rest items)))) rest begun
    (without stream (view items rest begun))
frames_are_taken items rest begun stream inside =
    let fs = frames_of (drop rest items) in
    let kept = filter (is_kept stream) fs in
    let fit = fit_filter (is_kept stream) fs inside.whole.fit in
    let now = take rest items ++ spelled kept in
    let rest_len = length-take-le rest items inside.within in
    let front : take rest now ≡ take rest items =
    ap (λ (k : ℕ). take k now) (sym rest_len) ∙ take-append_seam (take rest items) (spelled kept) in
    let behind : drop rest now ≡ spelled kept =
    ap (λ (k : ℕ). drop k now) (sym rest_len) ∙ drop-append_seam (take rest items) (spelled kept) in
    let len = length-append (take rest items) (spelled kept) in
    let shorter = filter_is_short (is_kept stream) fs in
    let whole_len : length (spelled fs) ≡ length (drop rest items) = ap length inside.whole.joined in
    record {
      inside = record {
        small = omega (arith, len, rest_len, shorter, whole_len, length-drop rest items, inside.small, inside.within);
        within = omega (arith, len, rest_len);
        whole = subst AreWhole (sym behind) (whole_spelled kept fit);
      };
      seen = same_waiting _ _ _ _ _ _ front refl (ap frames_of behind ∙ frames_spelled kept fit);
    }
