-- Sending windows are sums over the moves.
use Rattle.std.proofs.Common.{◌≡◌, ℕ, ◌+◌, ◌==◌, pos, ◌+ℤ◌, true, false, Bool, if◌then◌else◌, List, [], ◌∷◌, ◌++◌, Some, refl, ap, sym, ◌∙◌, subst, inl, inr, arith}
use Rattle.std.specs.List.{fold, sum_by}
use Rattle.std.specs.FinMap.{get}
use Rattle.std.proofs.lemmas.List.Sums.{sum_by_push, sum_by-cons}
use Rattle.std.proofs.lemmas.Int.{ints}
use Rattle.hb_windows.specs.Sending.{Sending}
use Rattle.hb_windows.specs.Taking.{Taking}
use Rattle.hb_flow.specs.Windows.{Windows, sized, less, more, taken, owing, paid_of}
use Rattle.hb_flow.specs.Flows.{Flows, fresh, opened, new_windows, changed, sending_by, taking_by}
use Rattle.hb_flow.specs.Sizes.{resized}
use Rattle.hb_flow.specs.Moves.{Move, opens, closes, grants, grants_on, resizes, sends, takes_back, takes, takes_on, owes, owes_on, pays, pays_on, after}
use Rattle.hb_flow.specs.Laws.{ConnectionSends, StreamSends, sent, gained, sent_on, gained_on, kept_since}
use Rattle.hb_flow.proofs.Changes.{still_sending, still_initial, was, was_put, was_left, was_sized, none_new}

-- what a window holds and what was sent is what it began with and what it gained
abbrev Stands : Sending → ℕ → ℕ → ℕ → Type 0
Stands w first a b = (w.held +ℤ pos a) ≡ pos (first + b)

same : (v w : Sending) (first a b : ℕ) → w ≡ v → Stands v first a b → Stands w first (a + 0) (b + 0)
same v w first a b is stands =
    subst (λ x. Stands x first (a + 0) (b + 0)) (sym is) (omega (arith, ints))

joined : (w : Sending) (first a b x y m n s g : ℕ) → s ≡ x + m → g ≡ y + n → Stands w first (a + x + m) (b + y + n)
    → Stands w first (a + s) (b + g)
joined w first a b x y m n s g is_s is_g stands = omega (arith, ints)

connection_step : (f : Flows) (move : Move) (a b : ℕ) → Stands f.sending 65535 a b
    → Stands (after f move).sending 65535 (a + sent move) (b + gained move)
connection_step f (opens s) a b stands = omega (arith, ints)
connection_step f (closes s) a b stands = omega (arith, ints)
connection_step f (grants n) a b stands = omega (arith, ints)
connection_step f (grants_on s n) a b stands =
    same f.sending _ 65535 a b (still_sending f s (sending_by (λ w. more w n))) stands
connection_step f (resizes initial) a b stands = omega (arith, ints)
connection_step f (sends s n) a b stands = omega (arith, ints)
connection_step f (takes_back s n) a b stands = omega (arith, ints)
connection_step f (takes n) a b stands = omega (arith, ints)
connection_step f (takes_on s n) a b stands =
    same f.sending _ 65535 a b (still_sending f s (taking_by (λ w. taken w n))) stands
connection_step f (owes n) a b stands = omega (arith, ints)
connection_step f (owes_on s n) a b stands =
    same f.sending _ 65535 a b (still_sending f s (taking_by (λ w. owing w n))) stands
connection_step f pays a b stands = omega (arith, ints)
connection_step f (pays_on s) a b stands = same f.sending _ 65535 a b (still_sending f s (taking_by paid_of)) stands

connection_all : (f : Flows) (moves : List Move) (a b : ℕ) → Stands f.sending 65535 a b
    → Stands (fold after f moves).sending 65535 (a + sum_by sent moves) (b + sum_by gained moves)
connection_all f [] a b stands = omega (arith, ints)
connection_all f (move ∷ moves) a b stands =
    joined (fold after (after f move) moves).sending 65535 a b (sent move) (gained move) (sum_by sent moves) (sum_by gained moves)
    _ _ (sum_by-cons sent move moves) (sum_by-cons gained move moves)
    (connection_all (after f move) moves (a + sent move) (b + gained move) (connection_step f move a b stands))

pub connection_sends : ConnectionSends
connection_sends moves =
    let all : Stands (fold after fresh moves).sending 65535 (0 + sum_by sent moves) (0 + sum_by gained moves)
    = connection_all fresh moves 0 0 refl in
    omega (arith, ints)

-- a stream's window counts from the initial size of now, and stands for the moves since it began
abbrev StandsOn : ℕ → ℕ → Sending → List Move → Type 0
StandsOn q initial w before =
    (w.size ≡ initial) × Stands w initial (sum_by (sent_on q) before) (sum_by (gained_on q) before)

abbrev AllStand : ℕ → Flows → List Move → Type 0
AllStand q f before = (w : Windows) → get f.streams q ≡ Some w → StandsOn q f.initial w.sending before

-- a move by which the window sends s and gains g
module _ (q : ℕ) (before : List Move) (move : Move) where
  moved : (initial : ℕ) (v w : Sending) (s g : ℕ) → sent_on q move ≡ s → gained_on q move ≡ g → w.size ≡ v.size
      → (w.held +ℤ pos s) ≡ (v.held +ℤ pos g) → StandsOn q initial v before → StandsOn q initial w (before ++ move ∷ [])
  moved initial v w s g is_s is_g size by stands =
      let sends : sum_by (sent_on q) (before ++ move ∷ []) ≡ sum_by (sent_on q) before + sent_on q move
      = sum_by_push (sent_on q) before move in
      let gains : sum_by (gained_on q) (before ++ move ∷ []) ≡ sum_by (gained_on q) before + gained_on q move
      = sum_by_push (gained_on q) before move in
      let before_it : Stands v initial (sum_by (sent_on q) before) (sum_by (gained_on q) before) = stands.1 in
      (size ∙ stands.0, omega (arith, ints))

  -- a move that leaves it
  unmoved : (initial : ℕ) (v w : Sending) → sent_on q move ≡ 0 → gained_on q move ≡ 0 → w ≡ v
      → StandsOn q initial v before → StandsOn q initial w (before ++ move ∷ [])
  unmoved initial v w is_s is_g is stands =
      subst (λ (x : Sending). StandsOn q initial x (before ++ move ∷ [])) (sym is) (moved initial v v 0 0 is_s is_g refl refl stands)

-- where the stream has windows after a change of one stream's, it had some before
changed_step : (q : ℕ) (f : Flows) (n : ℕ) (change : Windows → Windows) (before : List Move) (move : Move)
    → ((v : Windows) → get f.streams q ≡ Some v → StandsOn q f.initial (if q == n then change v else v).sending (before ++ move ∷ []))
    → (w : Windows) → get (changed f n change).streams q ≡ Some w → StandsOn q f.initial w.sending (before ++ move ∷ [])
changed_step q f n change before move step w there =
    let held = was f n change q w there in
    subst (λ (x : Windows). StandsOn q f.initial x.sending (before ++ move ∷ [])) (sym held.2) (step held.0 held.1)

-- a change of the sending window of one stream
sending_step : (q : ℕ) (f : Flows) (n : ℕ) (change : Sending → Sending) (before : List Move) (move : Move)
    → AllStand q f before
    → ((b : Bool) → (q == n) ≡ b → (v : Sending) → StandsOn q f.initial v before
    → StandsOn q f.initial (if b then change v else v) (before ++ move ∷ []))
    → (w : Windows) → get (changed f n (sending_by change)).streams q ≡ Some w → StandsOn q f.initial w.sending (before ++ move ∷ [])
sending_step q f n change before move all step = changed_step q f n (sending_by change) before move (λ v there.
    by v (q == n) refl (all v there))
  where
    by : (v : Windows) (b : Bool) → (q == n) ≡ b → StandsOn q f.initial v.sending before
        → StandsOn q f.initial (if b then sending_by change v else v).sending (before ++ move ∷ [])
    by v true e stands = step true e v.sending stands
    by v false e stands = step false e v.sending stands

-- a change of the taking window of one stream leaves the sending windows
taking_step : (q : ℕ) (f : Flows) (n : ℕ) (change : Taking → Taking) (before : List Move) (move : Move)
    → sent_on q move ≡ 0 → gained_on q move ≡ 0 → AllStand q f before
    → (w : Windows) → get (changed f n (taking_by change)).streams q ≡ Some w → StandsOn q f.initial w.sending (before ++ move ∷ [])
taking_step q f n change before move none_sent none_gained all = changed_step q f n (taking_by change) before move (λ v there.
    by v (q == n) (all v there))
  where
    by : (v : Windows) (b : Bool) → StandsOn q f.initial v.sending before
        → StandsOn q f.initial (if b then taking_by change v else v).sending (before ++ move ∷ [])
    by v true stands = unmoved q before move f.initial v.sending v.sending none_sent none_gained refl stands
    by v false stands = unmoved q before move f.initial v.sending v.sending none_sent none_gained refl stands

-- the initial size is as it was
still : (q : ℕ) (f : Flows) (n : ℕ) (change : Windows → Windows) (before : List Move) (move : Move)
    → ((w : Windows) → get (changed f n change).streams q ≡ Some w → StandsOn q f.initial w.sending (before ++ move ∷ []))
    → (w : Windows) → get (changed f n change).streams q ≡ Some w → StandsOn q (changed f n change).initial w.sending (before ++ move ∷ [])
still q f n change before move stands w there =
    subst (λ i. StandsOn q i w.sending (before ++ move ∷ [])) (sym (still_initial f n change)) (stands w there)

put_step : (q : ℕ) (f : Flows) (n : ℕ) (before : List Move) → AllStand q f before → AllStand q (opened f n) (kept_since q before (opens n))
put_step q f n before all w there =
    elim (was_put f.streams n (new_windows f.initial) q w there) [
      | inl new ↦ subst (λ b. StandsOn q f.initial w.sending (if b then [] else before ++ opens n ∷ [])) (sym new.0)
          (subst (λ (x : Windows). StandsOn q f.initial x.sending []) (sym new.1) (refl, omega (arith, ints)))
      | inr old ↦ subst (λ b. StandsOn q f.initial w.sending (if b then [] else before ++ opens n ∷ [])) (sym old.0)
          (unmoved q before (opens n) f.initial w.sending w.sending refl refl refl (all w old.1))
    ]

resize_step : (q : ℕ) (f : Flows) (k : ℕ) (before : List Move) → AllStand q f before → AllStand q (resized f k) (before ++ resizes k ∷ [])
resize_step q f k before all w there =
    let held = was_sized f.streams k q w there in
    let stands = all held.0 held.1 in
    subst (λ (x : Windows). StandsOn q k x.sending (before ++ resizes k ∷ [])) (sym held.2)
    (unmoved q before (resizes k) k (sized k held.0.sending) (sized k held.0.sending) refl refl refl
    (refl, by held.0.sending _ _ stands.0 stands.1))
  where
    by : (v : Sending) (a b : ℕ) → v.size ≡ f.initial → Stands v f.initial a b → Stands (sized k v) k a b
    by v a b size stands = omega (arith, ints)

stream_step : (q : ℕ) (f : Flows) (move : Move) (before : List Move) → AllStand q f before
    → AllStand q (after f move) (kept_since q before move)
stream_step q f (opens n) before all = put_step q f n before all
stream_step q f (closes n) before all = λ w there.
    unmoved q before (closes n) f.initial w.sending w.sending refl refl refl (all w (was_left f.streams n q w there))
stream_step q f (grants n) before all = λ w there. unmoved q before (grants n) f.initial w.sending w.sending refl refl refl (all w there)
stream_step q f (grants_on n k) before all = still q f n _ before _ (sending_step q f n (λ w. more w k) before (grants_on n k) all by)
  where
    by : (b : Bool) → (q == n) ≡ b → (v : Sending) → StandsOn q f.initial v before
        → StandsOn q f.initial (if b then more v k else v) (before ++ grants_on n k ∷ [])
    by true e v stands = moved q before (grants_on n k) f.initial v (more v k) 0 k refl (ap (λ b. if b then k else 0) e) refl
        (omega (arith, ints)) stands
    by false e v stands = unmoved q before (grants_on n k) f.initial v v refl (ap (λ b. if b then k else 0) e) refl stands
stream_step q f (resizes k) before all = resize_step q f k before all
stream_step q f (sends n k) before all = still q f n _ before _ (sending_step q f n (λ w. less w k) before (sends n k) all by)
  where
    by : (b : Bool) → (q == n) ≡ b → (v : Sending) → StandsOn q f.initial v before
        → StandsOn q f.initial (if b then less v k else v) (before ++ sends n k ∷ [])
    by true e v stands = moved q before (sends n k) f.initial v (less v k) k 0 (ap (λ b. if b then k else 0) e) refl refl
        (omega (arith, ints)) stands
    by false e v stands = unmoved q before (sends n k) f.initial v v (ap (λ b. if b then k else 0) e) refl refl stands
stream_step q f (takes_back n k) before all = still q f n _ before _ (sending_step q f n (λ w. more w k) before (takes_back n k) all by)
  where
    by : (b : Bool) → (q == n) ≡ b → (v : Sending) → StandsOn q f.initial v before
        → StandsOn q f.initial (if b then more v k else v) (before ++ takes_back n k ∷ [])
    by true e v stands = moved q before (takes_back n k) f.initial v (more v k) 0 k refl (ap (λ b. if b then k else 0) e) refl
        (omega (arith, ints)) stands
    by false e v stands = unmoved q before (takes_back n k) f.initial v v refl (ap (λ b. if b then k else 0) e) refl stands
stream_step q f (takes n) before all = λ w there. unmoved q before (takes n) f.initial w.sending w.sending refl refl refl (all w there)
stream_step q f (takes_on n k) before all = still q f n _ before _ (taking_step q f n (λ w. taken w k) before (takes_on n k) refl refl all)
stream_step q f (owes n) before all = λ w there. unmoved q before (owes n) f.initial w.sending w.sending refl refl refl (all w there)
stream_step q f (owes_on n k) before all = still q f n _ before _ (taking_step q f n (λ w. owing w k) before (owes_on n k) refl refl all)
stream_step q f pays before all = λ w there. unmoved q before pays f.initial w.sending w.sending refl refl refl (all w there)
stream_step q f (pays_on n) before all = still q f n _ before _ (taking_step q f n paid_of before (pays_on n) refl refl all)

stream_all : (q : ℕ) (f : Flows) (moves before : List Move) → AllStand q f before
    → AllStand q (fold after f moves) (fold (kept_since q) before moves)
stream_all q f [] before all = all
stream_all q f (move ∷ moves) before all =
    stream_all q (after f move) moves (kept_since q before move) (stream_step q f move before all)

pub stream_sends : StreamSends
stream_sends moves q w there = (stream_all q fresh moves [] (λ v new. none_new q v new) w there).1
