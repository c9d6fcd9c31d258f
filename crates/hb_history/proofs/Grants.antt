-- Sending windows as sums, where the peer grants octets.
use Rattle.std.proofs.Common.{◌≡◌, ◌≢◌, ◌⊎◌, inl, inr, ℕ, ◌+◌, ◌≤◌, ◌==◌, ◌&&◌, true, false, cond, ℤ, pos, ◌+ℤ◌, ◌≤ℤ◌, List, [], ◌∷◌, ◌++◌, Some, None, is_some, ap, sym, ◌∙◌, subst, arith}
use Rattle.std.specs.FinMap.{get}
use Rattle.std.proofs.lemmas.Bool.{false≢true, cases_eq, eq-eqb, ne_eqb}
use Rattle.std.proofs.lemmas.Int.{ints}
use Rattle.std.proofs.lemmas.List.Sums.{sum_by_push}
use Rattle.hb_frames.specs.RawFrame.{RawFrame}
use Rattle.hb_frames.specs.Numbers.{window_update_kind, largest}
use Rattle.hb_frames.specs.Refusals.{increment_of}
use Rattle.hb_windows.specs.Sending.{Sending}
use Rattle.hb_flow.specs.Windows.{Windows, more}
use Rattle.hb_flow.specs.Flows.{Flows, granted, granted_on, sending_by}
use Rattle.hb_flow.proofs.Changes.{still_sending, still_initial, was, same_some}
use Rattle.hb_outgoing.specs.Selected.{data_size}
use Rattle.hb_history.specs.Sending.{increment_on, increments}
use Rattle.hb_history.proofs.Parts.{calm, gone}
use Rattle.hb_history.proofs.Sums.{Adds, One, Idle, Sums}

-- one more frame of the peer
pub granted_more : (n : ℕ) (frames : List RawFrame) (f : RawFrame)
    → increments n (frames ++ f ∷ []) ≡ increments n frames + increment_on n f
granted_more n frames f = sum_by_push (increment_on n) frames f

-- a frame that is no WINDOW_UPDATE grants nothing
pub grants_nothing : (n : ℕ) (frames : List RawFrame) (f : RawFrame) → (f.kind == window_update_kind) ≡ false
    → increments n (frames ++ f ∷ []) ≡ increments n frames
grants_nothing n frames f other =
    let none : increment_on n f ≡ 0 = ap (λ b. cond (b && (f.stream == n)) (increment_of f) 0) other in
    omega (arith, granted_more n frames f, none)

module _ (frames begun queue : List RawFrame) (flow : Flows) (highest : ℕ) (f : RawFrame)
    (kind : (f.kind == window_update_kind) ≡ true) where
  abbrev s : ℕ
  s = f.stream

  abbrev n : ℕ
  n = increment_of f

  here : (m : ℕ) → m ≡ s → increments m (frames ++ f ∷ []) ≡ increments m frames + n
  here m same =
      let on : increment_on m f ≡ n =
      ap (λ b. cond (b && (f.stream == m)) (increment_of f) 0) kind ∙ ap (λ b. cond b (increment_of f) 0) (eq-eqb f.stream m (sym same)) in
      omega (arith, granted_more m frames f, on)

  elsewhere : (m : ℕ) → m ≢ s → increments m (frames ++ f ∷ []) ≡ increments m frames
  elsewhere m apart =
      let off : increment_on m f ≡ 0 =
      ap (λ b. cond (b && (f.stream == m)) (increment_of f) 0) kind
      ∙ ap (λ b. cond b (increment_of f) 0) (ne_eqb f.stream m (λ e. apart (sym e))) in
      omega (arith, granted_more m frames f, off)

  grown : (held : ℤ) (q b first g h k : ℕ) → h ≡ g + k → Adds held q b first g → Adds (held +ℤ pos k) q b first h
  grown held q b first g h k gains sum = omega (arith, ints)

  reordered : (held : ℤ) (q k : ℕ) → ((held +ℤ pos q) +ℤ pos k) ≤ℤ pos largest → ((held +ℤ pos k) +ℤ pos q) ≤ℤ pos largest
  reordered held q k fits = omega (arith, ints)

  same_one : (m : ℕ) (w : Sending) → m ≢ s → One w (data_size (Some m) queue) (data_size (Some m) begun) flow.initial (increments m frames)
      → One w (data_size (Some m) queue) (data_size (Some m) begun) flow.initial (increments m (frames ++ f ∷ []))
  same_one m w apart old =
      subst (λ g. One w (data_size (Some m) queue) (data_size (Some m) begun) flow.initial g) (sym (elsewhere m apart)) old

  same_idle : (m : ℕ) → m ≢ s → Idle (data_size (Some m) queue) (data_size (Some m) begun) (increments m frames)
      → Idle (data_size (Some m) queue) (data_size (Some m) begun) (increments m (frames ++ f ∷ []))
  same_idle m apart old = record { waits = old.waits; begins = old.begins; gains = elsewhere m apart ∙ old.gains }

  -- on the connection; stream 0 has no windows
  pub whole_granted : s ≡ 0 → get flow.streams 0 ≡ None → ((flow.sending.held +ℤ pos (data_size None queue)) +ℤ pos n) ≤ℤ pos largest
      → Sums frames begun calm flow queue highest → Sums (frames ++ f ∷ []) begun calm (granted flow n) queue highest
  whole_granted zero none within sums = record {
    first = sums.first;
    whole = grown flow.sending.held _ _ 65535 _ _ n (here 0 (sym zero)) sums.whole;
    fits = reordered flow.sending.held _ n within;
    one = λ m w counted is. same_one m w.sending (apart m w is) (sums.one m w tt is);
    idle = λ m above. let off : m ≢ s = (λ e. omega arith) in same_idle m off (sums.idle m above);
  }
    where
      apart : (m : ℕ) (w : Windows) → get flow.streams m ≡ Some w → m ≢ s
      apart m w is same = absurd (false≢true (ap is_some (sym (ap (get flow.streams) (same ∙ zero) ∙ none) ∙ is)))

  -- where the connection's window isn't meant
  untouched : s ≢ 0 → Adds flow.sending.held (data_size None queue) (data_size None begun) 65535 (increments 0 frames)
      → Adds flow.sending.held (data_size None queue) (data_size None begun) 65535 (increments 0 (frames ++ f ∷ []))
  untouched some sum =
      subst (Adds flow.sending.held (data_size None queue) (data_size None begun) 65535) (sym (elsewhere 0 (λ e. some (sym e)))) sum

  -- on a stream, which has a window
  pub one_granted : s ≢ 0 → s ≤ highest → (w : Windows) → get flow.streams s ≡ Some w
      → ((w.sending.held +ℤ pos (data_size (Some s) queue)) +ℤ pos n) ≤ℤ pos largest
      → Sums frames begun calm flow queue highest → Sums (frames ++ f ∷ []) begun calm (granted_on flow s n) queue highest
  one_granted some low w is within sums = record {
    first = subst (λ i. i ≤ largest) (sym (still_initial flow s grow)) sums.first;
    whole = subst (λ (x : Sending). Adds x.held (data_size None queue) (data_size None begun) 65535 (increments 0 (frames ++ f ∷ [])))
        (sym (still_sending flow s grow)) (untouched some sums.whole);
    fits = subst (λ (x : Sending). (x.held +ℤ pos (data_size None queue)) ≤ℤ pos largest) (sym (still_sending flow s grow)) sums.fits;
    one = λ m x counted there.
        let v = was flow s grow m x there in
        subst (λ i. One x.sending (data_size (Some m) queue) (data_size (Some m) begun) i (increments m (frames ++ f ∷ [])))
        (sym (still_initial flow s grow))
        (subst (λ (y : Windows). One y.sending (data_size (Some m) queue) (data_size (Some m) begun) flow.initial
        (increments m (frames ++ f ∷ [])))
        (sym v.2) (by m v.0 v.1 (sums.one m v.0 tt v.1) (cases_eq m s)));
    idle = λ m above. let off : m ≢ s = (λ e. omega arith) in same_idle m off (sums.idle m above);
  }
    where
      grow : Windows → Windows
      grow = sending_by (λ w. more w n)

      by : (m : ℕ) (v : Windows) → get flow.streams m ≡ Some v
          → One v.sending (data_size (Some m) queue) (data_size (Some m) begun) flow.initial (increments m frames) → (m ≡ s) ⊎ (m ≢ s)
          → One (cond (m == s) (grow v) v).sending (data_size (Some m) queue) (data_size (Some m) begun) flow.initial
          (increments m (frames ++ f ∷ []))
      by m v there old (inl same) =
          let held : w ≡ v = same_some v w (sym there ∙ ap (get flow.streams) same ∙ is) in
          subst (λ b. One (cond b (grow v) v).sending (data_size (Some m) queue) (data_size (Some m) begun) flow.initial
          (increments m (frames ++ f ∷ []))) (sym (eq-eqb m s same)) (record {
            size = old.size;
            sum = grown v.sending.held _ _ flow.initial _ _ n (here m same) old.sum;
            fits = reordered v.sending.held (data_size (Some m) queue) n
                (subst (λ (x : Windows). ((x.sending.held +ℤ pos (data_size (Some m) queue)) +ℤ pos n) ≤ℤ pos largest) held
                (subst (λ q. ((w.sending.held +ℤ pos (data_size (Some q) queue)) +ℤ pos n) ≤ℤ pos largest) (sym same) within));
          })
      by m v there old (inr apart) =
          subst (λ b. One (cond b (grow v) v).sending (data_size (Some m) queue) (data_size (Some m) begun) flow.initial
          (increments m (frames ++ f ∷ []))) (sym (ne_eqb m s apart)) (same_one m v.sending apart old)

  -- on a stream that is broken for it
  pub gone_granted : s ≢ 0 → s ≤ highest → Sums frames begun calm flow queue highest
      → Sums (frames ++ f ∷ []) begun (gone s) flow queue highest
  gone_granted some low sums = record {
    first = sums.first;
    whole = untouched some sums.whole;
    fits = sums.fits;
    one = λ m w apart is. same_one m w.sending apart (sums.one m w tt is);
    idle = λ m above. let off : m ≢ s = (λ e. omega arith) in same_idle m off (sums.idle m above);
  }

  -- on a stream that has no windows
  pub none_granted : s ≢ 0 → s ≤ highest → get flow.streams s ≡ None → Sums frames begun calm flow queue highest
      → Sums (frames ++ f ∷ []) begun calm flow queue highest
  none_granted some low none sums = record {
    first = sums.first;
    whole = untouched some sums.whole;
    fits = sums.fits;
    one = λ m w counted is. same_one m w.sending (apart m w is) (sums.one m w tt is);
    idle = λ m above. let off : m ≢ s = (λ e. omega arith) in same_idle m off (sums.idle m above);
  }
    where
      apart : (m : ℕ) (w : Windows) → get flow.streams m ≡ Some w → m ≢ s
      apart m w is same = absurd (false≢true (ap is_some (sym (ap (get flow.streams) same ∙ none) ∙ is)))
