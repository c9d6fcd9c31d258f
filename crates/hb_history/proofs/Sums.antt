-- Sending windows as sums, kept by each change.
use Rattle.std.proofs.Common.{◌≡◌, ◌≢◌, ℕ, ◌+◌, ◌≤◌, ◌<◌, ◌==◌, Bool, true, false, cond, ℤ, pos, ◌+ℤ◌, ◌-ℤ◌, ◌≤ℤ◌, List, [], ◌∷◌, ◌++◌, length, take, Option, Some, None, is_some, ◌⊎◌, inl, inr, refl, ap, sym, ◌∙◌, subst, arith}
use Rattle.std.specs.Prelude.{int_lt}
use Rattle.std.specs.FinMap.{get, insert, remove}
use Rattle.std.proofs.lemmas.Bool.{false≢true, cases_eq, eq-eqb, ne_eqb}
use Rattle.std.proofs.lemmas.Int.{ints}
use Rattle.hb_map.proofs.Laws.{put_here, put_elsewhere, removed_here}
use Rattle.hb_frames.specs.RawFrame.{RawFrame}
use Rattle.hb_frames.specs.Numbers.{data_kind, largest}
use Rattle.hb_windows.specs.Sending.{Sending}
use Rattle.hb_flow.specs.Windows.{Windows, less, more, counted}
use Rattle.hb_flow.specs.Flows.{Flows, changed, opened, closed, spent, granted, sending_by, new_windows}
use Rattle.hb_flow.specs.Sizes.{resized, Fits}
use Rattle.hb_flow.specs.Moves.{Move, takes, takes_on, owes, owes_on, pays, pays_on, opens, closes, grants, grants_on, resizes, sends, takes_back}
use Rattle.hb_flow.specs.Moves.{after as flow_after}
use Rattle.hb_flow.proofs.Changes.{still_sending, still_initial, was, was_left, was_sized, same_some}
use Rattle.hb_outgoing.specs.Selected.{data_size, is_kept}
use Rattle.std.specs.List.{filter}
use Rattle.hb_conn.specs.Faults.{regained}
use Rattle.hb_conn.specs.Frames.{frame}
use Rattle.hb_history.specs.Sending.{increments}
use Rattle.hb_history.proofs.Parts.{Amid, calm, amid, gone, is_taking}
use Rattle.hb_history.proofs.Payloads.{size_on, size_push, size_left, size_split, size_others, size_of_one}

-- what a window holds, the payload that hasn't begun and that which has are what it began with and what was granted
abbrev pub Adds : ℤ → ℕ → ℕ → ℕ → ℕ → Type 0
Adds held waiting begun first granted = ((held +ℤ pos waiting) +ℤ pos begun) ≡ pos (first + granted)

pub record One (w : Sending) (waiting begun first granted : ℕ) : Type 0 where
  pub size : w.size ≡ first
  pub sum : Adds w.held waiting begun first granted
  pub fits : (w.held +ℤ pos waiting) ≤ℤ pos largest

-- a stream that wasn't used
pub record Idle (waiting begun granted : ℕ) : Type 0 where
  pub waits : waiting ≡ 0
  pub begins : begun ≡ 0
  pub gains : granted ≡ 0

-- whose sum is right amid a move
abbrev pub Counts : Amid → ℕ → Type 0
Counts calm n = Unit {0}
Counts (amid false s) n = Unit {0}
Counts (amid true s) n = n ≢ s

pub record Sums (frames begun : List RawFrame) (a : Amid) (f : Flows) (queue : List RawFrame) (highest : ℕ) : Type 0 where
  pub first : f.initial ≤ largest
  pub whole : Adds f.sending.held (data_size None queue) (data_size None begun) 65535 (increments 0 frames)
  pub fits : (f.sending.held +ℤ pos (data_size None queue)) ≤ℤ pos largest
  pub one : (n : ℕ) (w : Windows) → Counts a n → get f.streams n ≡ Some w
      → One w.sending (data_size (Some n) queue) (data_size (Some n) begun) f.initial (increments n frames)
  pub idle : (n : ℕ) → highest < n → Idle (data_size (Some n) queue) (data_size (Some n) begun) (increments n frames)

-- the same sending windows, of no more streams
pub record SameSending (f g : Flows) : Type 0 where
  pub whole : g.sending ≡ f.sending
  pub initial : g.initial ≡ f.initial
  pub streams : (n : ℕ) (w : Windows) → get g.streams n ≡ Some w → (v : Windows) × (get f.streams n ≡ Some v) × (w.sending ≡ v.sending)

pub same_flows : (f : Flows) → SameSending f f
same_flows f = record { whole = refl; initial = refl; streams = λ n w is. (w, is, refl) }

adds_on : (held : ℤ) (p q b d first g h : ℕ) → q + d ≡ p + b → g ≡ h → Adds held p b first h → Adds held q d first g
adds_on held p q b d first g h both gains sum = omega (arith, ints)

fits_on : (held : ℤ) (p q : ℕ) → q ≤ p → (held +ℤ pos p) ≤ℤ pos largest → (held +ℤ pos q) ≤ℤ pos largest
fits_on held p q less fits = omega (arith, ints)

-- the payload goes on being counted, and no more waits
pub record Passes (begun queue others waiting : List RawFrame) : Type 0 where
  pub both : (x : Option ℕ) → data_size x waiting + data_size x others ≡ data_size x queue + data_size x begun
  pub less : (x : Option ℕ) → data_size x waiting ≤ data_size x queue

pub still_passes : (begun queue : List RawFrame) → Passes begun queue begun queue
still_passes begun queue = record { both = λ x. refl; less = λ x. omega arith }

module _ (frames others : List RawFrame) (gains : (n : ℕ) → increments n others ≡ increments n frames) where
  pub carried : (begun queue begins waits : List RawFrame) (a b : Amid) (f g : Flows) (highest high : ℕ)
      → Passes begun queue begins waits → ((n : ℕ) → Counts b n → Counts a n) → SameSending f g → highest ≤ high
      → Sums frames begun a f queue highest → Sums others begins b g waits high
  carried begun queue begins waits a b f g highest high passes counts same more sums = record {
    first = subst (λ n. n ≤ largest) (sym same.initial) sums.first;
    whole = subst (λ (w : Sending). Adds w.held (data_size None waits) (data_size None begins) 65535 (increments 0 others)) (sym same.whole)
        (adds_on f.sending.held _ _ _ _ 65535 _ _ (passes.both None) (gains 0) sums.whole);
    fits = subst (λ (w : Sending). (w.held +ℤ pos (data_size None waits)) ≤ℤ pos largest) (sym same.whole)
        (fits_on f.sending.held (data_size None queue) (data_size None waits) (passes.less None) sums.fits);
    one = λ n w counted is.
        let v = same.streams n w is in
        let old = sums.one n v.0 (counts n counted) v.1 in
        subst (λ i. One w.sending (data_size (Some n) waits) (data_size (Some n) begins) i (increments n others)) (sym same.initial)
        (subst (λ (x : Sending). One x (data_size (Some n) waits) (data_size (Some n) begins) f.initial (increments n others)) (sym v.2)
        (record {
          size = old.size;
          sum = adds_on v.0.sending.held _ _ _ _ f.initial _ _ (passes.both (Some n)) (gains n) old.sum;
          fits = fits_on v.0.sending.held (data_size (Some n) queue) (data_size (Some n) waits) (passes.less (Some n)) old.fits;
        }));
    idle = λ n above.
        let old = sums.idle n (omega (arith, above, more)) in
        record {
          waits = omega (arith, old.waits, passes.less (Some n));
          begins = omega (arith, old.waits, old.begins, passes.both (Some n));
          gains = gains n ∙ old.gains;
        };
  }

-- the changes of windows that leave the sending ones

taking_same : (f : Flows) (s : ℕ) (g : Windows → Windows) → ((w : Windows) → (g w).sending ≡ w.sending) → SameSending f (changed f s g)
taking_same f s g keeps = record {
  whole = still_sending f s g;
  initial = still_initial f s g;
  streams = λ n w is.
      let v = was f s g n w is in
      (v.0, v.1, ap (λ (x : Windows). x.sending) v.2 ∙ by v.0 (n == s));
}
  where
    by : (v : Windows) (b : Bool) → (cond b (g v) v).sending ≡ v.sending
    by v true = keeps v
    by v false = refl

pub taking_kept : (f : Flows) (m : Move) → is_taking m ≡ true → SameSending f (flow_after f m)
taking_kept f (takes n) taking = record { whole = refl; initial = refl; streams = λ n w is. (w, is, refl) }
taking_kept f (takes_on s n) taking = taking_same f s _ (λ w. refl)
taking_kept f (owes n) taking = record { whole = refl; initial = refl; streams = λ n w is. (w, is, refl) }
taking_kept f (owes_on s n) taking = taking_same f s _ (λ w. refl)
taking_kept f pays taking = record { whole = refl; initial = refl; streams = λ n w is. (w, is, refl) }
taking_kept f (pays_on s) taking = taking_same f s _ (λ w. refl)
taking_kept f (opens s) taking = absurd (false≢true taking)
taking_kept f (closes s) taking = absurd (false≢true taking)
taking_kept f (grants n) taking = absurd (false≢true taking)
taking_kept f (grants_on s n) taking = absurd (false≢true taking)
taking_kept f (resizes k) taking = absurd (false≢true taking)
taking_kept f (sends s n) taking = absurd (false≢true taking)
taking_kept f (takes_back s n) taking = absurd (false≢true taking)

pub closed_same : (f : Flows) (s : ℕ) → SameSending f (closed f s)
closed_same f s = record { whole = refl; initial = refl; streams = λ n w is. (w, was_left f.streams s n w is, refl) }

regains_by : (f : Flows) (n : ℕ) (b : Bool) → b ≡ false → cond b f (granted f n) ≡ granted f n
regains_by f n true off = absurd (false≢true (sym off))
regains_by f n false off = refl

-- what fits is given back
pub regains : (f : Flows) (n m : ℕ) → n ≤ m → (f.sending.held +ℤ pos m) ≤ℤ pos largest → regained f n ≡ granted f n
regains f n m small fits =
    let below : (counted f.sending 0 +ℤ pos n) ≤ℤ pos largest = omega (arith, ints) in
    let test : int_lt (pos largest) (counted f.sending 0 +ℤ pos n) ≡ false = grind (arith, ints, below) in
    regains_by f n (int_lt (pos largest) (counted f.sending 0 +ℤ pos n)) test

module _ (frames begun queue : List RawFrame) (f : Flows) (highest : ℕ) where
  -- a stream that is no more loses its windows
  pub left_sums : (s : ℕ) → Sums frames begun (gone s) f queue highest → Sums frames begun calm (closed f s) queue highest
  left_sums s sums = record {
    first = sums.first;
    whole = sums.whole;
    fits = sums.fits;
    one = λ n w counted is. sums.one n w (apart n w is) (was_left f.streams s n w is);
    idle = sums.idle;
  }
    where
      apart : (n : ℕ) (w : Windows) → get (remove f.streams s) n ≡ Some w → n ≢ s
      apart n w is same =
          absurd (false≢true (ap is_some (sym (ap (get (remove f.streams s)) same ∙ removed_here f.streams s) ∙ is)))

  -- its DATA that hasn't begun is taken back
  pub back_sums : (s : ℕ) → Sums frames begun (gone s) f queue highest
      → Sums frames begun (gone s) (regained f (data_size (Some s) queue)) (filter (is_kept (Some s)) queue) highest
  back_sums s sums =
      let n = data_size (Some s) queue in
      let there = regains f n (data_size None queue) (size_of_one s queue) sums.fits in
      subst (λ (g : Flows). Sums frames begun (gone s) g (filter (is_kept (Some s)) queue) highest) (sym there) (record {
        first = sums.first;
        whole = by f.sending.held _ _ _ _ 65535 (increments 0 frames) (size_split s queue) sums.whole;
        fits = fit f.sending.held _ _ _ (size_split s queue) sums.fits;
        one = λ m w apart is.
            let old = sums.one m w apart is in
            subst (λ q. One w.sending q (data_size (Some m) begun) f.initial (increments m frames)) (sym (size_others m s apart queue)) old;
        idle = λ m above.
            let old = sums.idle m above in
            record { waits = omega (arith, old.waits, size_left (Some m) s queue); begins = old.begins; gains = old.gains };
      })
    where
      by : (held : ℤ) (q left back b first g : ℕ) → left + back ≡ q → Adds held q b first g → Adds (held +ℤ pos back) left b first g
      by held q left back b first g split sum = omega (arith, ints)

      fit : (held : ℤ) (q left back : ℕ) → left + back ≡ q → (held +ℤ pos q) ≤ℤ pos largest
          → ((held +ℤ pos back) +ℤ pos left) ≤ℤ pos largest
      fit held q left back split fits = omega (arith, ints)

  -- a stream begins, which nobody used
  pub opened_sums : (s : ℕ) → highest < s → Sums frames begun calm f queue highest → Sums frames begun calm (opened f s) queue s
  opened_sums s above sums = record {
    first = sums.first;
    whole = sums.whole;
    fits = sums.fits;
    one = λ n w counted is. elim (cases_eq n s) [
      | inl same ↦ new n w same is
      | inr apart ↦ sums.one n w tt (sym (put_elsewhere f.streams s (new_windows f.initial) n apart) ∙ is)
    ];
    idle = λ n more. sums.idle n (omega (arith, above, more));
  }
    where
      fresh : (q b i g : ℕ) → i ≤ largest → Idle q b g → One (new_windows i).sending q b i g
      fresh q b i g small idle = record {
        size = refl;
        sum = omega (arith, ints, idle.waits, idle.begins, idle.gains);
        fits = omega (arith, ints, idle.waits);
      }

      new : (n : ℕ) (w : Windows) → n ≡ s → get (insert f.streams s (new_windows f.initial)) n ≡ Some w
          → One w.sending (data_size (Some n) queue) (data_size (Some n) begun) f.initial (increments n frames)
      new n w same is =
          let there : w ≡ new_windows f.initial =
          same_some (new_windows f.initial) w
          (sym (ap (get (insert f.streams s (new_windows f.initial))) same ∙ put_here f.streams s (new_windows f.initial)) ∙ is) in
          subst (λ (x : Windows). One x.sending (data_size (Some n) queue) (data_size (Some n) begun) f.initial (increments n frames))
          (sym there)
          (fresh _ _ f.initial _ sums.first (sums.idle n (omega (arith, above, same))))

  -- the peer's initial size changes
  pub resized_sums : (k : ℕ) → k ≤ largest → ((n : ℕ) → Fits k (data_size (Some n) queue) (get f.streams n))
      → Sums frames begun calm f queue highest → Sums frames begun calm (resized f k) queue highest
  resized_sums k small fits sums = record {
    first = small;
    whole = sums.whole;
    fits = sums.fits;
    one = λ n w counted is.
        let v = was_sized f.streams k n w is in
        subst (λ (x : Windows). One x.sending (data_size (Some n) queue) (data_size (Some n) begun) k (increments n frames)) (sym v.2)
        (by v.0.sending _ _ _ (sums.one n v.0 tt v.1) (subst (Fits k (data_size (Some n) queue)) v.1 (fits n)));
    idle = sums.idle;
  }
    where
      by : (v : Sending) (q b g : ℕ) → One v q b f.initial g → ((v.held +ℤ pos q) +ℤ (pos k -ℤ pos v.size)) ≤ℤ pos largest
          → One (record { held = v.held +ℤ (pos k -ℤ pos v.size); size = k }) q b k g
      by v q b g old within = record {
        size = refl;
        sum = omega (arith, ints, old.sum, old.size);
        fits = omega (arith, ints, within);
      }

  -- DATA is put and spent
  pub put_sums : (s n : ℕ) (bytes : List ℕ) → length (take n bytes) ≡ n → s ≤ highest → Sums frames begun calm f queue highest
      → Sums frames begun calm (spent f s n) (queue ++ frame data_kind 0 s (take n bytes) ∷ []) highest
  put_sums s n bytes len low sums = record {
    first = subst (λ i. i ≤ largest) (sym (still_initial f s (sending_by (λ w. less w n)))) sums.first;
    whole = spend f.sending.held _ _ _ 65535 (increments 0 frames) (size_push None queue put) len sums.whole;
    fits = fit f.sending.held _ _ (size_push None queue put) len sums.fits;
    one = λ m w counted is.
        let v = was f s (sending_by (λ w. less w n)) m w is in
        subst (λ i. One w.sending (data_size (Some m) (queue ++ put ∷ [])) (data_size (Some m) begun) i (increments m frames))
        (sym (still_initial f s (sending_by (λ w. less w n))))
        (subst (λ (x : Windows). One x.sending (data_size (Some m) (queue ++ put ∷ [])) (data_size (Some m) begun) f.initial
        (increments m frames))
        (sym v.2) (by m v.0 (sums.one m v.0 tt v.1) (cases_eq m s)));
    idle = λ m above.
        let old = sums.idle m above in
        let off : size_on (Some m) put ≡ 0 = ap (λ b. cond b (length (take n bytes)) 0) (ne_eqb s m (λ e. omega arith)) in
        record { waits = omega (arith, old.waits, size_push (Some m) queue put, off); begins = old.begins; gains = old.gains };
  }
    where
      put : RawFrame
      put = frame data_kind 0 s (take n bytes)

      spend : (held : ℤ) (q p b first g : ℕ) → p ≡ q + length (take n bytes) → length (take n bytes) ≡ n → Adds held q b first g
          → Adds (held -ℤ pos n) p b first g
      spend held q p b first g more len sum = omega (arith, ints)

      fit : (held : ℤ) (q p : ℕ) → p ≡ q + length (take n bytes) → length (take n bytes) ≡ n → (held +ℤ pos q) ≤ℤ pos largest
          → ((held -ℤ pos n) +ℤ pos p) ≤ℤ pos largest
      fit held q p more len fits = omega (arith, ints)

      by : (m : ℕ) (v : Windows) → One v.sending (data_size (Some m) queue) (data_size (Some m) begun) f.initial (increments m frames)
          → (m ≡ s) ⊎ (m ≢ s)
          → One (cond (m == s) (sending_by (λ w. less w n) v) v).sending (data_size (Some m) (queue ++ put ∷ [])) (data_size (Some m) begun)
          f.initial (increments m frames)
      by m v old (inl same) =
          let on : size_on (Some m) put ≡ length (take n bytes) = ap (λ b. cond b (length (take n bytes)) 0) (eq-eqb s m (sym same)) in
          let more : data_size (Some m) (queue ++ put ∷ []) ≡ data_size (Some m) queue + length (take n bytes) =
          size_push (Some m) queue put ∙ ap (λ k. data_size (Some m) queue + k) on in
          subst (λ b. One (cond b (sending_by (λ w. less w n) v) v).sending (data_size (Some m) (queue ++ put ∷ []))
          (data_size (Some m) begun)
          f.initial (increments m frames)) (sym (eq-eqb m s same)) (record {
            size = old.size;
            sum = spend v.sending.held _ _ _ f.initial (increments m frames) more len old.sum;
            fits = fit v.sending.held _ _ more len old.fits;
          })
      by m v old (inr apart) =
          let off : size_on (Some m) put ≡ 0 = ap (λ b. cond b (length (take n bytes)) 0) (ne_eqb s m (λ e. apart (sym e))) in
          let same : data_size (Some m) (queue ++ put ∷ []) ≡ data_size (Some m) queue =
          omega (arith, size_push (Some m) queue put, off) in
          subst (λ b. One (cond b (sending_by (λ w. less w n) v) v).sending (data_size (Some m) (queue ++ put ∷ []))
          (data_size (Some m) begun)
          f.initial (increments m frames)) (sym (ne_eqb m s apart))
          (subst (λ q. One v.sending q (data_size (Some m) begun) f.initial (increments m frames)) (sym same) old)
