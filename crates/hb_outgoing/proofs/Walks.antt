-- What the walks over whole frames keep.
use Rattle.std.proofs.Common.{◌≡◌, ℕ, zero, suc, ◌+◌, ◌-◌, ◌≤◌, ◌<◌, List, [], ◌∷◌, ◌++◌, length, take, drop, refl, sym, ap, ap₂, ◌∙◌}
use Rattle.std.proofs.Common.{arith, ⊎_elim, Bool, true, false, Option, Some, length-append, length-drop}
use Rattle.std.specs.Prelude.{◌==◌, nat_lt}
use Rattle.std.specs.List.{filter, list_any, sum_by}
use Rattle.std.proofs.lemmas.List.{append_assoc, take-append-drop}
use Rattle.std.proofs.lemmas.Bool.{cases_Bool, false≢true}
use Rattle.std.proofs.lemmas.Bool.Decides.{nat_tests}
use Rattle.std.proofs.lemmas.List.Sums.{sum_by-cons, sum_by-append}
use Rattle.hb_frames.specs.Numbers.{data_kind}
use Rattle.hb_frames.specs.RawFrame.{RawFrame, spelling}
use Rattle.hb_outgoing.specs.declared.head.Head.{Head}
use Rattle.hb_outgoing.specs.Waiting.{spelled, head_of}
use Rattle.hb_outgoing.specs.Queue.{frames_of, AreWhole, Stands}
use Rattle.hb_outgoing.specs.Written.{begun_in, last_head}
use Rattle.hb_outgoing.specs.Selected.{is_data_of, is_kept, payload_size, data_size, counted, data_count}
use Rattle.hb_outgoing.proofs.Queues.{no_frames_behind, spelling_len}

-- the frames that begin from a place on
abbrev pub begun_at : List ℕ → ℕ → ℕ → List RawFrame
begun_at bytes n at = begun_in (n - at) (frames_of (drop at bytes))

pub record Begins (bytes : List ℕ) (rest : ℕ) (begun : Option Head) (n end : ℕ) (head : Option Head) (count : ℕ) : Type 0 where
  pub within : end ≤ length bytes
  pub later : AreWhole (drop end bytes)
  pub octets : take end bytes ++ spelled (begun_at bytes n end) ≡ take rest bytes ++ spelled (begun_at bytes n rest)
  pub queue : drop (length (begun_at bytes n end)) (frames_of (drop end bytes))
      ≡ drop (length (begun_at bytes n rest)) (frames_of (drop rest bytes))
  pub head_is : last_head head (begun_at bytes n end) ≡ last_head begun (begun_at bytes n rest)
  pub count_is : count + data_count (begun_at bytes n end) ≡ data_count (begun_at bytes n rest)
  pub few : count ≤ end

pub begun_more : (m : ℕ) (f : RawFrame) (queue : List RawFrame) → 0 < m
    → begun_in m (f ∷ queue) ≡ f ∷ begun_in (m - length (spelling f)) queue
begun_more zero f queue h = absurd (omega arith)
begun_more (suc m) f queue h = refl

pub begun_step : (bytes : List ℕ) (n from to : ℕ) (f : RawFrame) → Stands bytes f from to → from < n
    → begun_at bytes n from ≡ f ∷ begun_at bytes n to
begun_step bytes n from to f stands more =
    let less : n - from - length (spelling f) ≡ n - to = omega (arith, stands.end_is) in
    ap (begun_in (n - from)) stands.first ∙ begun_more (n - from) f (frames_of (drop to bytes)) (omega (arith, more))
    ∙ ap (λ (m : ℕ). f ∷ begun_in m (frames_of (drop to bytes))) less

count_cons : (f : RawFrame) (fs : List RawFrame) → data_count (f ∷ fs) ≡ counted f.kind + data_count fs
count_cons f fs = sum_by-cons (λ (g : RawFrame). counted g.kind) f fs

pub count_append : (fs gs : List RawFrame) → data_count (fs ++ gs) ≡ data_count fs + data_count gs
count_append fs gs = sum_by-append (λ (g : RawFrame). counted g.kind) fs gs

pub count_last : (fs : List RawFrame) (f : RawFrame) → data_count (fs ++ f ∷ []) ≡ data_count fs + counted f.kind
count_last fs f = omega (arith, count_append fs (f ∷ []), count_cons f [])

pub counted_least : (kind : ℕ) → counted kind ≤ 1
counted_least kind = ⊎_elim
    (λ (test : (kind == data_kind) ≡ true). rw test (omega arith))
    (λ (test : (kind == data_kind) ≡ false). rw test (omega arith))
    (cases_Bool (kind == data_kind))

-- each frame has more octets than one
pub count_is_short : (fs : List RawFrame) → data_count fs ≤ length (spelled fs)
count_is_short [] = omega arith
count_is_short (f ∷ fs) =
    omega (
      arith,
      count_cons f fs,
      counted_least f.kind,
      count_is_short fs,
      length-append (spelling f) (spelled fs),
      spelling_len f,
    )

pub begins_on : (bytes : List ℕ) (rest : ℕ) (begun : Option Head) (n end to : ℕ) (head : Option Head) (count one : ℕ)
    (f : RawFrame) (h : Head)
    → Begins bytes rest begun n end head count → end < n → Stands bytes f end to → to ≤ length bytes → AreWhole (drop to bytes)
    → h ≡ head_of f → one ≡ counted h.kind → Begins bytes rest begun n to (Some h) (count + one)
begins_on bytes rest begun n end to head count one f h so more stands within later is one_is =
    let step = begun_step bytes n end to f stands more in
    record {
      within = within;
      later = later;
      octets = ap (λ (xs : List ℕ). xs ++ spelled (begun_at bytes n to)) stands.octets
          ∙ append_assoc (take end bytes) (spelling f) (spelled (begun_at bytes n to))
          ∙ ap (λ (fs : List RawFrame). take end bytes ++ spelled fs) (sym step) ∙ so.octets;
      queue = ap₂ (λ (fs gs : List RawFrame). drop (length fs) gs) (sym step) (sym stands.first) ∙ so.queue;
      head_is = ap (λ (g : Head). last_head (Some g) (begun_at bytes n to)) is
          ∙ ap (last_head head) (sym step) ∙ so.head_is;
      count_is = omega (
        arith,
        so.count_is,
        ap data_count step,
        count_cons f (begun_at bytes n to),
        one_is,
        ap (λ (g : Head). counted g.kind) is,
      );
      few = omega (arith, so.few, one_is, counted_least h.kind, stands.end_is, spelling_len f);
    }

-- nothing more begins behind the octets that are written
pub begins_end : (bytes : List ℕ) (n end : ℕ) → n ≤ end → begun_at bytes n end ≡ []
begins_end bytes n end passed =
    let none : n - end ≡ 0 = omega arith in ap (λ (m : ℕ). begun_in m (frames_of (drop end bytes))) none

-- what is left and what was taken once a walk came to a place
pub record Takes (stream : Option ℕ) (before now : List ℕ) (from at ahead taken kept : ℕ) : Type 0 where
  pub within : at ≤ length now
  pub small : length now ≤ 65536
  pub later : AreWhole (drop at now)
  pub left : take at now ++ spelled (filter (is_kept stream) (frames_of (drop at now)))
      ≡ take from before ++ spelled (filter (is_kept stream) (frames_of (drop from before)))
  pub taken_is : taken + data_size stream (frames_of (drop at now)) ≡ data_size stream (frames_of (drop from before))
  pub ahead_is : ahead ≡ data_count (frames_of (drop at now))
  pub kept_is : kept + data_count (filter (is_kept stream) (frames_of (drop at now)))
      ≡ data_count (filter (is_kept stream) (frames_of (drop from before)))

pub kept_more : (stream : Option ℕ) (f : RawFrame) (fs : List RawFrame) → is_data_of stream f ≡ false
    → (filter (is_kept stream) (f ∷ fs) ≡ f ∷ filter (is_kept stream) fs) × (data_size stream (f ∷ fs) ≡ data_size stream fs)
kept_more stream f fs test = (rw test refl, rw test refl)

pub taken_more : (stream : Option ℕ) (f : RawFrame) (fs : List RawFrame) → is_data_of stream f ≡ true
    → (filter (is_kept stream) (f ∷ fs) ≡ filter (is_kept stream) fs)
    × (data_size stream (f ∷ fs) ≡ length f.payload + data_size stream fs)
taken_more stream f fs test =
    let all : filter (is_data_of stream) (f ∷ fs) ≡ f ∷ filter (is_data_of stream) fs = rw test refl in
    (rw test refl, ap (sum_by payload_size) all ∙ sum_by-cons payload_size f (filter (is_data_of stream) fs))

-- payloads are shorter than the frames that they stand in
pub data_is_short : (stream : Option ℕ) (fs : List RawFrame) → data_size stream fs ≤ length (spelled fs)
data_is_short stream [] = omega arith
data_is_short stream (f ∷ fs) =
    let len = length-append (spelling f) (spelled fs) in
    let shorter = data_is_short stream fs in
    ⊎_elim
    (λ (test : is_data_of stream f ≡ true). omega (arith, (taken_more stream f fs test).1, len, shorter))
    (λ (test : is_data_of stream f ≡ false). omega (arith, (kept_more stream f fs test).1, len, shorter))
    (cases_Bool (is_data_of stream f))

pub taken_is_small : (stream : Option ℕ) (bytes : List ℕ) (from : ℕ) → AreWhole (drop from bytes) → length bytes ≤ 65536
    → data_size stream (frames_of (drop from bytes)) ≤ 65536
taken_is_small stream bytes from whole small =
    omega (arith, data_is_short stream (frames_of (drop from bytes)), ap length whole.joined, length-drop from bytes, small)

pub taken_fits : (stream : Option ℕ) (before now : List ℕ) (from at ahead to taken kept size : ℕ) (f : RawFrame)
    → Takes stream before now from at ahead taken kept → Stands now f at to → is_data_of stream f ≡ true
    → size ≡ length f.payload → AreWhole (drop from before) → length before ≤ 65536 → taken + size ≤ 65536
taken_fits stream before now from at ahead to taken kept size f so stands test size_is whole small =
    let all = ap (data_size stream) stands.first ∙ (taken_more stream f (frames_of (drop to now)) test).1 in
    omega (arith, all, size_is, so.taken_is, taken_is_small stream before from whole small)

-- as many frames are kept as were there, at most
filter_is_few : (p : RawFrame → Bool) (fs : List RawFrame) → data_count (filter p fs) ≤ data_count fs
filter_is_few p [] = omega arith
filter_is_few p (f ∷ fs) =
    let fewer = filter_is_few p fs in
    ⊎_elim
    (λ (test : p f ≡ true). rw test (omega (arith, fewer, count_cons f fs, count_cons f (filter p fs))))
    (λ (test : p f ≡ false). rw test (omega (arith, fewer, count_cons f fs)))
    (cases_Bool (p f))

pub kept_fits : (stream : Option ℕ) (before now : List ℕ) (from at ahead taken kept : ℕ)
    → Takes stream before now from at ahead taken kept → AreWhole (drop from before) → length before ≤ 65536 → kept ≤ 65536
kept_fits stream before now from at ahead taken kept so whole small =
    let fs = frames_of (drop from before) in
    omega (
      arith,
      so.kept_is,
      filter_is_few (is_kept stream) fs,
      count_is_short fs,
      ap length whole.joined,
      length-drop from before,
      small,
    )

-- where a DATA frame stands ahead, a frame does
pub more_ahead : (stream : Option ℕ) (before now : List ℕ) (from at ahead taken kept : ℕ)
    → Takes stream before now from at ahead taken kept → 0 < ahead → at < length now
more_ahead stream before now from at ahead taken kept so more = ⊎_elim
    (λ (test : nat_lt at (length now) ≡ true). grind (arith, nat_tests))
    (λ (test : nat_lt at (length now) ≡ false).
    let passed : length now ≤ at = grind (arith, nat_tests) in
    absurd (omega (arith, so.ahead_is, ap data_count (no_frames_behind now at passed), more)))
    (cases_Bool (nat_lt at (length now)))

pub one_ahead : (stream : Option ℕ) (before now : List ℕ) (from at ahead to taken kept : ℕ) (f : RawFrame)
    → Takes stream before now from at ahead taken kept → Stands now f at to
    → ahead ≡ counted f.kind + data_count (frames_of (drop to now))
one_ahead stream before now from at ahead to taken kept f so stands =
    so.ahead_is ∙ ap data_count stands.first ∙ count_cons f (frames_of (drop to now))

-- the frame ahead is kept
pub takes_on : (stream : Option ℕ) (before now : List ℕ) (from at ahead to taken kept one more : ℕ) (f : RawFrame)
    → Takes stream before now from at ahead taken kept → Stands now f at to → to ≤ length now → AreWhole (drop to now)
    → is_data_of stream f ≡ false → one ≡ counted f.kind → more ≡ counted f.kind
    → Takes stream before now from to (ahead - one) taken (kept + more)
takes_on stream before now from at ahead to taken kept one more f so stands within later test one_is more_is =
    let fs = frames_of (drop to now) in
    let all = kept_more stream f fs test in
    let kept_all : filter (is_kept stream) (frames_of (drop at now)) ≡ f ∷ filter (is_kept stream) fs =
    ap (filter (is_kept stream)) stands.first ∙ all.0 in
    record {
      within = within;
      small = so.small;
      later = later;
      left = ap (λ (xs : List ℕ). xs ++ spelled (filter (is_kept stream) fs)) stands.octets
          ∙ append_assoc (take at now) (spelling f) (spelled (filter (is_kept stream) fs))
          ∙ ap (λ (gs : List RawFrame). take at now ++ spelled gs) (sym kept_all) ∙ so.left;
      taken_is = omega (arith, so.taken_is, ap (data_size stream) stands.first, all.1);
      ahead_is = omega (arith, one_ahead stream before now from at ahead to taken kept f so stands, one_is);
      kept_is = omega (
        arith,
        so.kept_is,
        more_is,
        ap data_count kept_all,
        count_cons f (filter (is_kept stream) fs),
      );
    }

-- no frame is such a one
pub none_cons : (p : RawFrame → Bool) (f : RawFrame) (fs : List RawFrame) → list_any p (f ∷ fs) ≡ false
    → (p f ≡ false) × (list_any p fs ≡ false)
none_cons p f fs none = ⊎_elim
    (λ (test : p f ≡ true). absurd (false≢true (sym (rw test at none))))
    (λ (test : p f ≡ false). (test, rw test at none))
    (cases_Bool (p f))

-- the DATA frames of a stream that has none
pub kept_all : (stream : Option ℕ) (fs : List RawFrame) → list_any (is_data_of stream) fs ≡ false
    → (filter (is_kept stream) fs ≡ fs) × (data_size stream fs ≡ 0)
kept_all stream [] none = (refl, refl)
kept_all stream (f ∷ fs) none =
    let each = none_cons (is_data_of stream) f fs none in
    let rest = kept_all stream fs each.1 in
    let more = kept_more stream f fs each.0 in
    (more.0 ∙ ap (λ (gs : List RawFrame). f ∷ gs) rest.0, more.1 ∙ rest.1)

pub no_data : (stream : Option ℕ) (fs : List RawFrame) → data_count fs ≡ 0 → list_any (is_data_of stream) fs ≡ false
no_data stream [] none = refl
no_data stream (f ∷ fs) none =
    let rest = no_data stream fs (omega (arith, none, count_cons f fs)) in
    ⊎_elim
    (λ (test : (f.kind == data_kind) ≡ true).
    let one : counted f.kind ≡ 1 = rw test refl in
    absurd (omega (arith, none, count_cons f fs, one)))
    (λ (test : (f.kind == data_kind) ≡ false). rw test rest)
    (cases_Bool (f.kind == data_kind))

pub takes_end : (stream : Option ℕ) (before now : List ℕ) (from at ahead taken kept : ℕ)
    → Takes stream before now from at ahead taken kept → ahead ≡ 0
    → (now ≡ take from before ++ spelled (filter (is_kept stream) (frames_of (drop from before))))
    × (taken ≡ data_size stream (frames_of (drop from before)))
    × (kept ≡ data_count (filter (is_kept stream) (frames_of (drop from before))))
takes_end stream before now from at ahead taken kept so done =
    let fs = frames_of (drop at now) in
    let none = sym so.ahead_is ∙ done in
    let all = kept_all stream fs (no_data stream fs none) in (
      sym (take-append-drop at now) ∙ ap (λ (xs : List ℕ). take at now ++ xs) (sym so.later.joined)
          ∙ ap (λ (gs : List RawFrame). take at now ++ spelled gs) (sym all.0) ∙ so.left,
      omega (arith, so.taken_is, all.1),
      omega (arith, so.kept_is, ap data_count all.0, none),
    )
