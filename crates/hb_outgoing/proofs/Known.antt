-- What is kept of the DATA frames of a queue, through each call.
use Rattle.std.proofs.Common.{◌≡◌, ℕ, zero, suc, ◌+◌, ◌-◌, ◌<◌, List, [], ◌∷◌, ◌++◌, length, drop, refl, sym, ap, ◌∙◌, subst}
use Rattle.std.proofs.Common.{Bool, true, false, Option, Some, None, ⊎_elim, arith}
use Rattle.std.specs.Prelude.{◌==◌, ◌&&◌, ◌||◌, is_some}
use Rattle.std.specs.List.{filter, list_any}
use Rattle.std.proofs.lemmas.Bool.{cases_Bool, false≢true}
use Rattle.std.proofs.lemmas.Bool.Decides.{nat_tests}
use Rattle.hb_frames.specs.RawFrame.{RawFrame}
use Rattle.hb_frames.specs.Numbers.{data_kind}
use Rattle.hb_outgoing.specs.declared.head.Head.{Head}
use Rattle.hb_outgoing.specs.Queue.{frames_of}
use Rattle.hb_outgoing.specs.Selected.{is_data_of, has_data, first_data, counted, data_count}
use Rattle.hb_outgoing.specs.Streams.{Streams, may_be}
use Rattle.hb_outgoing.specs.Known.{KnowsData}
use Rattle.hb_outgoing.specs.Written.{begun_in}
use Rattle.hb_outgoing.specs.Waiting.{Waiting}
use Rattle.hb_outgoing.proofs.Walks.{none_cons, no_data, count_append, count_last}
use Rattle.hb_outgoing.proofs.Sent.{begun_and_left}
use Rattle.hb_outgoing.proofs.Views.{Becomes}

-- no frame is such a one

none_put : (p : RawFrame → Bool) (fs : List RawFrame) (f : RawFrame) → list_any p fs ≡ false → p f ≡ false
    → list_any p (fs ++ f ∷ []) ≡ false
none_put p [] f none test = rw test refl
none_put p (g ∷ fs) f none test =
    let each = none_cons p g fs none in rw each.0 (none_put p fs f each.1 test)

none_dropped : (p : RawFrame → Bool) (k : ℕ) (fs : List RawFrame) → list_any p fs ≡ false → list_any p (drop k fs) ≡ false
none_dropped p zero fs none = none
none_dropped p (suc k) [] none = none
none_dropped p (suc k) (f ∷ fs) none = none_dropped p k fs (none_cons p f fs none).1

none_kept : (p q : RawFrame → Bool) (fs : List RawFrame) → list_any p fs ≡ false → list_any p (filter q fs) ≡ false
none_kept p q [] none = none
none_kept p q (f ∷ fs) none =
    let each = none_cons p f fs none in
    let rest = none_kept p q fs each.1 in
    ⊎_elim
    (λ (test : q f ≡ true). rw (test, each.0) rest)
    (λ (test : q f ≡ false). rw test rest)
    (cases_Bool (q f))

-- the first DATA frame with payload

pub none_first : (fs : List RawFrame) → list_any has_data fs ≡ false → first_data fs ≡ None
none_first [] none = refl
none_first (f ∷ fs) none = let each = none_cons has_data f fs none in rw each.0 (none_first fs each.1)

first_none : (fs : List RawFrame) → is_some (first_data fs) ≡ false → list_any has_data fs ≡ false
first_none [] none = refl
first_none (f ∷ fs) none = ⊎_elim
    (λ (test : has_data f ≡ true). absurd (false≢true (sym (rw test at none))))
    (λ (test : has_data f ≡ false). rw test (first_none fs (rw test at none)))
    (cases_Bool (has_data f))

-- the octets behind what was begun are those frames

abbrev pub KnowsBehind : Bool → ℕ → Streams → List ℕ → ℕ → Type 0
KnowsBehind waits count streams items rest = KnowsData waits count streams (frames_of (drop rest items))

-- what is known

pub knows_none : (waits : Bool) (streams : Streams) → KnowsData waits 0 streams []
knows_none waits streams = record { none = λ _. refl; count_is = refl; absent = λ stream unset. refl }

pub count_begun : (n : ℕ) (fs : List RawFrame)
    → data_count fs ≡ data_count (begun_in n fs) + data_count (drop (length (begun_in n fs)) fs)
count_begun n fs =
    ap data_count (sym (begun_and_left n fs)) ∙ count_append (begun_in n fs) (drop (length (begun_in n fs)) fs)

pub knows_begun : (waits : Bool) (count begun n : ℕ) (streams : Streams) (fs : List RawFrame) → KnowsData waits count streams fs
    → begun ≡ data_count (begun_in n fs)
    → KnowsData waits (count - begun) streams (drop (length (begun_in n fs)) fs)
knows_begun waits count begun n streams fs so begun_is = record {
  none = λ unset. none_dropped has_data (length (begun_in n fs)) fs (so.none unset);
  count_is = omega (arith, so.count_is, count_begun n fs, begun_is);
  absent = λ stream unset. none_dropped (is_data_of (Some stream)) (length (begun_in n fs)) fs (so.absent stream unset);
}

pub knows_kept : (waits : Bool) (count left : ℕ) (streams : Streams) (q : RawFrame → Bool) (fs : List RawFrame)
    → KnowsData waits count streams fs → left ≡ data_count (filter q fs) → KnowsData waits left streams (filter q fs)
knows_kept waits count left streams q fs so left_is = record {
  none = λ unset. none_kept has_data q fs (so.none unset);
  count_is = left_is;
  absent = λ stream unset. none_kept (is_data_of (Some stream)) q fs (so.absent stream unset);
}

pub knows_still : (waits now : Bool) (count : ℕ) (streams : Streams) (fs : List RawFrame) → KnowsData waits count streams fs
    → now ≡ (waits && is_some (first_data fs)) → KnowsData now count streams fs
knows_still true now count streams fs so is =
    record { none = λ unset. first_none fs (sym is ∙ unset); count_is = so.count_is; absent = so.absent }
knows_still false now count streams fs so is =
    record { none = λ unset. so.none refl; count_is = so.count_is; absent = so.absent }

-- of a queue without DATA nothing has to be kept
pub knows_forgotten : (waits : Bool) (count : ℕ) (streams after : Streams) (fs : List RawFrame) → KnowsData waits count streams fs
    → (0 < count → after ≡ streams) → KnowsData waits count after fs
knows_forgotten waits zero streams after fs so same = record {
  none = so.none;
  count_is = so.count_is;
  absent = λ stream unset. no_data (Some stream) fs (sym so.count_is);
}
knows_forgotten waits (suc count) streams after fs so same =
    subst (λ (s : Streams). KnowsData waits (suc count) s fs) (sym (same (omega arith))) so

not_of : (streams : Streams) (f : RawFrame) (stream : ℕ) → (f.kind ≡ data_kind → may_be streams f.stream ≡ true)
    → may_be streams stream ≡ false → is_data_of (Some stream) f ≡ false
not_of streams f stream noted unset = ⊎_elim
    (λ (same : (f.kind == data_kind) ≡ true).
    let is : f.kind ≡ data_kind = grind (arith, nat_tests) in
    ⊎_elim
    (λ (on : (f.stream == stream) ≡ true).
    let at : f.stream ≡ stream = grind (arith, nat_tests) in
    absurd (false≢true (sym unset ∙ ap (may_be streams) (sym at) ∙ noted is)))
    (λ (off : (f.stream == stream) ≡ false). rw (same, off) refl)
    (cases_Bool (f.stream == stream)))
    (λ (other : (f.kind == data_kind) ≡ false). rw other refl)
    (cases_Bool (f.kind == data_kind))

unset_before : (waits b : Bool) → (waits || b) ≡ false → (waits ≡ false) × (b ≡ false)
unset_before true b unset = absurd (false≢true (sym unset))
unset_before false b unset = (refl, unset)

-- no stream of the ones before is forgotten, nor that of a DATA frame that is put
pub record Notes (before after : Streams) (f : RawFrame) : Type 0 where
  pub stays : (n : ℕ) → may_be after n ≡ false → may_be before n ≡ false
  pub noted : f.kind ≡ data_kind → may_be after f.stream ≡ true

pub knows_put : (waits now : Bool) (count more : ℕ) (streams after : Streams) (fs : List RawFrame) (f : RawFrame)
    → KnowsData waits count streams fs → now ≡ (waits || has_data f) → more ≡ count + counted f.kind → Notes streams after f
    → KnowsData now more after (fs ++ f ∷ [])
knows_put waits now count more streams after fs f so is more_is notes = record {
  none = λ unset.
      let each = unset_before waits (has_data f) (sym is ∙ unset) in none_put has_data fs f (so.none each.0) each.1;
  count_is = omega (arith, more_is, so.count_is, count_last fs f);
  absent = λ stream unset.
      none_put (is_data_of (Some stream)) fs f (so.absent stream (notes.stays stream unset)) (not_of after f stream notes.noted unset);
}

-- where octets become a queue of which this is known
pub knows_becomes : (waits : Bool) (count : ℕ) (streams : Streams) (items : List ℕ) (rest : ℕ) (begun : Option Head) (w : Waiting)
    → Becomes items rest begun w → KnowsData waits count streams w.queue → KnowsBehind waits count streams items rest
knows_becomes waits count streams items rest begun w becomes so =
    subst (KnowsData waits count streams) (sym (ap (λ (v : Waiting). v.queue) becomes.seen)) so
