-- DATA fits both windows where it begins.
use Rattle.std.proofs.Common.{◌≡◌, ℕ, zero, suc, ◌+◌, ◌-◌, ◌≤◌, ◌<◌, ◌==◌, ◌&&◌, ◌||◌, min, Bool, true, false, cond, pos, ◌+ℤ◌, ◌-ℤ◌, ◌≤ℤ◌, List, [], ◌∷◌, ◌++◌, length, take, drop, fold, filter, Option, Some, None, refl, ap, sym, ◌∙◌, subst, arith}
use Rattle.std.specs.Prelude.{nat_lt, nat_le}
use Rattle.std.specs.FinMap.{get}
use Rattle.std.proofs.lemmas.Bool.{false≢true}
use Rattle.std.proofs.lemmas.Bool.Decides.{nat_tests}
use Rattle.std.proofs.lemmas.Int.{ints}
use Rattle.std.proofs.lemmas.List.{append_assoc, append-nil, take_all}
use Rattle.std.proofs.lemmas.List.Elements.{filter-append}
use Rattle.std.proofs.lemmas.List.Sums.{fold-append}
use Rattle.hb_frames.specs.RawFrame.{RawFrame, spelling}
use Rattle.hb_frames.specs.Refusals.{settings}
use Rattle.hb_windows.specs.Sending.{Sending}
use Rattle.hb_streams.specs.declared.role.Role.{Role}
use Rattle.hb_streams.specs.declared.role.Role.TheVariants.{Server, Client}
use Rattle.hb_flow.specs.Windows.{Windows, room}
use Rattle.hb_flow.specs.Flows.{Flows, sendable, sendable_by, spent}
use Rattle.hb_outgoing.specs.Waiting.{Waiting, octets_of, room_of}
use Rattle.hb_outgoing.specs.Written.{begun_in, begun_by, written}
use Rattle.hb_outgoing.specs.Selected.{has_data, data_size, is_kept}
use Rattle.hb_frames.specs.Numbers.{data_kind, largest}
use Rattle.hb_conn.specs.Frames.{frame, sent}
use Rattle.hb_conn.specs.Payload.{count_put, data_put}
use Rattle.hb_conn.specs.declared.machine.Core.{Core}
use Rattle.hb_conn.specs.declared.found.Found.{Found}
use Rattle.hb_history.specs.Points.{Move, got, refused, misbegan, opened, answered, ended, reset, credited, wrote, Point, point, After, RunsWith, begins_by, got_by, frames_got}
use Rattle.hb_history.specs.Points.{put as puts}
use Rattle.hb_history.specs.History.{fresh}
use Rattle.hb_history.specs.Calls.{IsAct, IsLook}
use Rattle.hb_history.specs.Waits.{IsFirstBy, IsFirst}
use Rattle.hb_history.specs.Sending.{increment_on, increments, size_after, size_with}
use Rattle.hb_history.specs.Fits.{sets_values, acknowledges, acknowledged, initial_size, FitsWindows, AllFit, DataFits, DataFitsEverywhere}
use Rattle.hb_history.proofs.Parts.{calm, PutsAck}
use Rattle.hb_history.proofs.Kept as kept
use Rattle.hb_history.proofs.Handled.{window_keeps}
use Rattle.hb_history.proofs.Acted.{act_keeps, look_keeps}
use Rattle.hb_history.proofs.Shown.{KeepsOut, OfOut, out_keeps, out_puts, out_resizes, out_grows, none_behind, nothing_waits}
use Rattle.hb_history.proofs.NoneOf.{none_left, none_filtered}
use Rattle.hb_history.proofs.First.{NoData, first_keeps, first_puts, first_acks, first_written, first_new, none_waits}
use Rattle.hb_history.proofs.Runs.{begins_split}
use Rattle.hb_history.proofs.Flowed.{put_within}
use Rattle.hb_history.proofs.Grants.{granted_more}
use Rattle.hb_history.proofs.Balanced.{Sent, put_length}
use Rattle.hb_history.proofs.Balanced as balanced
use Rattle.hb_history.proofs.Sent.{sent_new}
use Rattle.hb_history.proofs.Initial.{Initial, initial_new}
use Rattle.hb_history.proofs.Initial as initial
use Rattle.hb_history.proofs.Answered.{AllAnswered, answered_moves, answered_new}
use Rattle.hb_history.proofs.Acknowledged.{number, all_counted}

-- only the first of the frames that wait may be DATA with payload: that it fits
abbrev HeadFits : (frames begun : List RawFrame) → List RawFrame → Type 0
HeadFits frames begun [] = Unit {0}
HeadFits frames begun (f ∷ fs) = has_data f ≡ true → FitsWindows f begun frames

abbrev OutFits : (frames begun : List RawFrame) → Waiting → Type 0
OutFits frames begun w = IsFirst w × HeadFits frames begun w.queue

head_none : (frames begun fs : List RawFrame) → NoData fs → HeadFits frames begun fs
head_none frames begun [] none = tt
head_none frames begun (f ∷ fs) none = λ some. absurd (false≢true (sym none.0 ∙ some))

head_pushed : (frames begun fs : List RawFrame) (f : RawFrame) → has_data f ≡ false → HeadFits frames begun fs
    → HeadFits frames begun (fs ++ f ∷ [])
head_pushed frames begun [] f none fits = λ some. absurd (false≢true (sym none ∙ some))
head_pushed frames begun (g ∷ fs) f none fits = fits

head_filtered : (p : RawFrame → Bool) (rest : List ℕ) (frames begun fs : List RawFrame) → IsFirstBy rest fs → HeadFits frames begun fs
    → HeadFits frames begun (filter p fs)
head_filtered p rest frames begun [] first fits = tt
head_filtered p rest frames begun (f ∷ fs) first fits = by (p f)
  where
    by : (b : Bool) → HeadFits frames begun (cond b (f ∷ filter p fs) (filter p fs))
    by true = fits
    by false = head_none frames begun (filter p fs) (none_filtered has_data p fs first.1)

-- a frame that stands alone
head_alone : (frames begun fs : List RawFrame) (f : RawFrame) → fs ≡ [] → FitsWindows f begun frames
    → HeadFits frames begun (fs ++ f ∷ [])
head_alone frames begun [] f none fits = λ some. fits
head_alone frames begun (g ∷ fs) f none fits = absurd (omega (arith, ap (λ (gs : List RawFrame). length gs) none))

head_written : (m : ℕ) (rest : List ℕ) (frames begun fs : List RawFrame) → IsFirstBy rest fs → HeadFits frames begun fs
    → HeadFits frames (begun ++ begun_in m fs) (drop (length (begun_in m fs)) fs)
head_written zero rest frames begun [] first fits = tt
head_written zero rest frames begun (f ∷ fs) first fits =
    subst (λ (bs : List RawFrame). HeadFits frames bs (f ∷ fs)) (sym (append-nil begun)) fits
head_written (suc m) rest frames begun [] first fits = tt
head_written (suc m) rest frames begun (f ∷ fs) first fits =
    head_none frames _ _ (none_left has_data (length (begun_in (suc m - length (spelling f)) fs)) fs first.1)

-- of the frames that begin

none_fit : (front frames fs : List RawFrame) → NoData fs → AllFit front frames fs
none_fit front frames [] none = tt
none_fit front frames (f ∷ fs) none =
    (λ some. absurd (false≢true (sym none.0 ∙ some)), none_fit (front ++ f ∷ []) frames fs none.1)

none_begun : (m : ℕ) (fs : List RawFrame) → NoData fs → NoData (begun_in m fs)
none_begun zero fs none = tt
none_begun (suc m) [] none = tt
none_begun (suc m) (f ∷ fs) none = (none.0, none_begun (suc m - length (spelling f)) fs none.1)

begun_fit : (m : ℕ) (rest : List ℕ) (frames begun fs : List RawFrame) → IsFirstBy rest fs → HeadFits frames begun fs
    → AllFit begun frames (begun_in m fs)
begun_fit zero rest frames begun fs first fits = tt
begun_fit (suc m) rest frames begun [] first fits = tt
begun_fit (suc m) rest frames begun (f ∷ fs) first fits =
    (fits, none_fit (begun ++ f ∷ []) frames _ (none_begun (suc m - length (spelling f)) fs first.1))

-- one more frame of the peer grants no less, and is acknowledged behind all that has begun

take_front : (k : ℕ) (xs ys : List RawFrame) → k ≤ length xs → take k (xs ++ ys) ≡ take k xs
take_front zero xs ys within = refl
take_front (suc k) [] ys within = absurd (omega arith)
take_front (suc k) (x ∷ xs) ys within = ap (λ (zs : List RawFrame). x ∷ zs) (take_front k xs ys (omega arith))

acknowledged_more : (frames begun : List RawFrame) (f : RawFrame) → number acknowledges begun ≤ number sets_values frames
    → acknowledged begun (frames ++ f ∷ []) ≡ acknowledged begun frames
acknowledged_more frames begun f within =
    ap (take (number acknowledges begun)) (filter-append sets_values frames (f ∷ []))
    ∙ take_front (number acknowledges begun) (filter sets_values frames) (filter sets_values (f ∷ [])) within

no_less : (n i j g h k : ℕ) → j ≡ i → h ≡ g + k → n ≤ i + g → n ≤ j + h
no_less n i j g h k same more fits = omega arith

fits_more : (frames begun : List RawFrame) (f g : RawFrame) → number acknowledges begun ≤ number sets_values frames
    → FitsWindows g begun frames → FitsWindows g begun (frames ++ f ∷ [])
fits_more frames begun f g within fits = record {
  size = fits.size;
  connection = no_less _ 65535 65535 (increments 0 frames) _ (increment_on 0 f) refl (granted_more 0 frames f) fits.connection;
  stream =
      no_less _ (initial_size begun frames) _ (increments g.stream frames) _ (increment_on g.stream f)
      (ap (fold size_with 65535) (acknowledged_more frames begun f within)) (granted_more g.stream frames f) fits.stream;
}

head_more : (frames begun : List RawFrame) (f : RawFrame) (fs : List RawFrame) → number acknowledges begun ≤ number sets_values frames
    → HeadFits frames begun fs → HeadFits (frames ++ f ∷ []) begun fs
head_more frames begun f [] within fits = tt
head_more frames begun f (g ∷ fs) within fits = λ some. fits_more frames begun f g within (fits some)

-- DATA that is put fits

most_by : (o a b : Bool) (n x y z : ℕ) → n ≡ cond o 0 (cond (a && b) (min x (min y (min z 16384))) 0) → n ≤ 16384
most_by true a b n x y z is = omega (arith, is)
most_by false true true n x y z is = omega (arith, is)
most_by false true false n x y z is = omega (arith, is)
most_by false false b n x y z is = omega (arith, is)

put_most : (c : Core) (s : ℕ) (bytes : List ℕ) → count_put c s bytes ≤ 16384
put_most c s bytes =
    most_by c.over (nat_le s largest) (length (octets_of c.out) == 0) (count_put c s bytes) (length bytes) (sendable c.flow s)
    c.peer.frame_size refl

-- the windows that let DATA go
pub record LetGo (f : Flows) (o : Option Windows) (n : ℕ) : Type 0 where
  pub windows : Windows
  pub there : o ≡ Some windows
  pub whole : n ≤ room f.sending
  pub one : n ≤ room windows.sending

let_go : (f : Flows) (o : Option Windows) (n : ℕ) → 0 < n → n ≤ sendable_by f o → LetGo f o n
let_go f None n some within = absurd (omega (arith, some, within))
let_go f (Some w) n some within =
    record { windows = w; there = refl; whole = omega (arith, within); one = omega (arith, within) }

low : (w : Sending) (n : ℕ) → 0 < n → n ≤ room w → pos 0 ≤ℤ (w.held -ℤ pos n)
low w n some within = grind (arith, ints)

fits_by : (w : Sending) (q n len b g : ℕ) → 0 < n → n ≤ room w → q ≡ 0 → len ≡ n → ((w.held +ℤ pos q) +ℤ pos b) ≡ pos g → b + len ≤ g
fits_by w q n len b g some within none same sum = omega (arith, ints, low w n some within, none, same, sum)

-- the SETTINGS among frames are all that set a size
settings_alone : (size : ℕ) (fs : List RawFrame) → fold size_with size fs ≡ fold size_with size (filter sets_values fs)
settings_alone size [] = refl
settings_alone size (f ∷ fs) = by (sets_values f) refl (λ n. settings_alone n fs)
  where
    by : (b : Bool) → sets_values f ≡ b → ((n : ℕ) → fold size_with n fs ≡ fold size_with n (filter sets_values fs))
        → fold size_with (size_with size f) fs ≡ fold size_with size (cond b (f ∷ filter sets_values fs) (filter sets_values fs))
    by true test rest = rest (size_with size f)
    by false test rest =
        let same : size_with size f ≡ size = ap (λ b. cond b (fold size_after size (settings f.payload)) size) test in
        ap (λ n. fold size_with n fs) same ∙ rest size

positive : (n : ℕ) → (n == 0) ≡ false → 0 < n
positive n some = grind (arith, nat_tests, some)

module _ (role : Role) (frames begun : List RawFrame) (c : Core) (sums : Sent role frames begun calm c)
    (size : Initial (fold size_with 65535 frames) calm c) (answers : AllAnswered frames begun c) where
  -- where nothing waits, all SETTINGS that came are acknowledged
  initial_is : c.over ≡ false → c.out.queue ≡ [] → c.flow.initial ≡ initial_size begun frames
  initial_is still none =
      let all = all_counted frames begun c answers still in
      let waits : number acknowledges c.out.queue ≡ 0 = ap (number acknowledges) none in
      let taken : acknowledged begun frames ≡ filter sets_values frames =
      take_all (number acknowledges begun) (filter sets_values frames) (omega (arith, all, waits)) in
      size still ∙ settings_alone 65535 frames ∙ ap (fold size_with 65535) (sym taken)

  put_fits : (s n : ℕ) (bytes : List ℕ) → (n == 0) ≡ false → length (take n bytes) ≡ n → n ≤ 16384 → n ≤ sendable c.flow s
      → c.over ≡ false → c.out.queue ≡ [] → FitsWindows (frame data_kind 0 s (take n bytes)) begun frames
  put_fits s n bytes some len most within still none =
      let more = positive n some in
      let go = let_go c.flow (get c.flow.streams s) n more within in
      let balance = sums.2 still in
      let one = balance.one s go.windows tt go.there in
      record {
        size = omega (arith, len, most);
        connection =
            fits_by c.flow.sending (data_size None c.out.queue) n (length (take n bytes)) (data_size None begun)
            (65535 + increments 0 frames)
            more go.whole (ap (data_size None) none) len balance.whole;
        stream =
            subst (λ i. data_size (Some s) begun + length (take n bytes) ≤ i + increments s frames) (initial_is still none)
            (fits_by go.windows.sending (data_size (Some s) c.out.queue) n (length (take n bytes)) (data_size (Some s) begun)
            (c.flow.initial + increments s frames)
            more go.one (ap (data_size (Some s)) none) len one.sum);
      }

  put_by : (s : ℕ) (bytes : List ℕ) (b : Bool) → (count_put c s bytes == 0) ≡ b → HeadFits frames begun c.out.queue
      → let n = count_put c s bytes in
      HeadFits frames begun (cond b c (sent (record c { flow = spent c.flow s n }) (frame data_kind 0 s (take n bytes)))).out.queue
  put_by s bytes true test fits = fits
  put_by s bytes false test fits =
      let none = none_waits c.out (nothing_waits c s bytes test) in
      head_alone frames begun c.out.queue _ none
      (put_fits s (count_put c s bytes) bytes test (put_length c s bytes) (put_most c s bytes) (put_within c s bytes)
      (none_behind c s bytes test) none)

  data_put_fits : (s : ℕ) (bytes : List ℕ) → OutFits frames begun c.out → OutFits frames begun (data_put c s bytes).out
  data_put_fits s bytes h = (out_puts IsFirst first_puts c s bytes h.0, put_by s bytes (count_put c s bytes == 0) refl h.1)

module _ (frames begun : List RawFrame) where
  fit_keeps : KeepsOut (OutFits frames begun)
  fit_keeps = record {
    puts = λ w f plain h. (first_keeps.puts w f plain h.0, head_pushed frames begun w.queue f plain.0 h.1);
    takes_back = λ w s h. (first_keeps.takes_back w s h.0, head_filtered (is_kept (Some s)) w.rest frames begun w.queue h.0 h.1);
    takes_all_back = λ w h. (first_keeps.takes_all_back w h.0, head_filtered (is_kept None) w.rest frames begun w.queue h.0 h.1);
  }

  fit_acks : PutsAck (OfOut (OutFits frames begun))
  fit_acks c f answer h = (first_acks c f answer h.0, head_pushed frames begun c.out.queue f answer.0 h.1)

  fit_looks : (c : Core) (m : Move) (new : Core) (told : Found) → IsLook m → OutFits frames begun c.out → After c m new told
      → OutFits frames begun new.out
  fit_looks c m new told look h is =
      let Q = OutFits frames begun in
      look_keeps (OfOut Q) (out_keeps Q fit_keeps) (out_resizes Q fit_keeps) fit_acks c m new told look h
      (λ s n. window_keeps (OfOut Q) (out_keeps Q fit_keeps) c s n (out_grows Q fit_keeps c s n h)) is

  no_more : (w : Waiting) → OutFits frames begun w → OutFits (frames ++ []) (begun ++ []) w
  no_more w h =
      subst (λ (fs : List RawFrame). OutFits fs (begun ++ []) w) (sym (append-nil frames))
      (subst (λ (fs : List RawFrame). OutFits frames fs w) (sym (append-nil begun)) h)

-- what holds after every move: the sums of windows, the initial size, that each SETTINGS is acknowledged, and that DATA that
-- waits fits
pub record Fitting (role : Role) (frames begun : List RawFrame) (c : Core) : Type 0 where
  pub sums : Sent role frames begun calm c
  pub size : Initial (fold size_with 65535 frames) calm c
  pub answers : AllAnswered frames begun c
  pub fits : OutFits frames begun c.out

still_by : (a b : Bool) → (a || b) ≡ false → a ≡ false
still_by true b is = is
still_by false b is = refl

got_fits : (role : Role) (frames begun : List RawFrame) (c : Core) (f : RawFrame) (new : Core) (told : Found)
    → Fitting role frames begun c → After c (got f) new told → OutFits (frames ++ f ∷ []) (begun ++ []) new.out
got_fits role frames begun c f new told h is =
    let still = still_by c.over (nat_lt (room_of c.out) 256) is.0 in
    let all = all_counted frames begun c h.answers still in
    let more = head_more frames begun f c.out.queue (omega (arith, all)) h.fits.1 in
    subst (λ (fs : List RawFrame). OutFits (frames ++ f ∷ []) fs new.out) (sym (append-nil begun))
    (fit_looks (frames ++ f ∷ []) begun c (got f) new told tt (h.fits.0, more) is)

act_fits : (role : Role) (frames begun : List RawFrame) (c : Core) (m : Move) (new : Core) (told : Found) → IsAct m
    → Fitting role frames begun c → After c m new told → OutFits (frames ++ []) (begun ++ []) new.out
act_fits role frames begun c m new told act h is =
    let Q = OutFits frames begun in
    no_more frames begun new.out
    (act_keeps (OfOut Q) (out_keeps Q (fit_keeps frames begun)) c
    (λ s bytes. data_put_fits role frames begun c h.sums h.size h.answers s bytes h.fits) m new told act h.fits is)

wrote_fits : (role : Role) (frames begun : List RawFrame) (c : Core) (n : ℕ) (new : Core) (told : Found)
    → Fitting role frames begun c → After c (wrote n) new told → OutFits (frames ++ []) (begun ++ begun_by n c.out) new.out
wrote_fits role frames begun c n new told h is =
    let begins = begun ++ begun_by n c.out in
    let Q = OutFits frames begins in
    let k = fit_keeps frames begins in
    let left = head_written (n - length c.out.rest) c.out.rest frames begun c.out.queue h.fits.0 h.fits.1 in
    subst (λ (fs : List RawFrame). OutFits fs begins new.out) (sym (append-nil frames))
    (subst (λ (d : Core). Q d.out) (sym is.1.0)
    (kept.payment_keeps (OfOut Q) (out_keeps Q k) calm (record c { out = written n c.out }) (first_written c.out n h.fits.0, left)))

move_fits : (role : Role) (frames begun : List RawFrame) (c : Core) (m : Move) (new : Core) (told : Found)
    → Fitting role frames begun c → After c m new told
    → OutFits (frames ++ got_by (point m told)) (begun ++ begins_by c m) new.out
move_fits role frames begun c (got f) new told h is = got_fits role frames begun c f new told h is
move_fits role frames begun c (refused r kind flags) new told h is =
    no_more frames begun new.out (fit_looks frames begun c (refused r kind flags) new told tt h.fits is)
move_fits role frames begun c misbegan new told h is =
    no_more frames begun new.out (fit_looks frames begun c misbegan new told tt h.fits is)
move_fits role frames begun c (opened s headers end) new told h is =
    act_fits role frames begun c (opened s headers end) new told tt h is
move_fits role frames begun c (answered s status) new told h is = act_fits role frames begun c (answered s status) new told tt h is
move_fits role frames begun c (ended s) new told h is = act_fits role frames begun c (ended s) new told tt h is
move_fits role frames begun c (reset s code) new told h is = act_fits role frames begun c (reset s code) new told tt h is
move_fits role frames begun c (credited s n) new told h is = act_fits role frames begun c (credited s n) new told tt h is
move_fits role frames begun c (puts s bytes) new told h is = act_fits role frames begun c (puts s bytes) new told tt h is
move_fits role frames begun c (wrote n) new told h is = wrote_fits role frames begun c n new told h is

moves : (role : Role) (frames begun : List RawFrame) (c : Core) (m : Move) (new : Core) (told : Found) → Fitting role frames begun c
    → After c m new told → Fitting role (frames ++ got_by (point m told)) (begun ++ begins_by c m) new
moves role frames begun c m new told h is = record {
  sums = balanced.moves role frames begun c m new told h.sums is;
  size =
      subst (λ n. Initial n calm new) (sym (fold-append size_with 65535 frames (got_by (point m told))))
      (initial.moves (fold size_with 65535 frames) c m new told h.size is);
  answers = answered_moves frames begun c m new told h.answers is;
  fits = move_fits role frames begun c m new told h is;
}

fitting_by : (role : Role) (points : List Point) (frames begun begins : List RawFrame) (c new : Core) → Fitting role frames begun c
    → RunsWith c points begins new → Fitting role (frames ++ frames_got points) (begun ++ begins) new
fitting_by role [] frames begun begins c new h is =
    subst (λ (fs : List RawFrame). Fitting role fs (begun ++ begins) new) (sym (append-nil frames))
    (subst (λ (fs : List RawFrame). Fitting role frames fs new)
    (sym (append-nil begun) ∙ ap (λ (fs : List RawFrame). begun ++ fs) (sym is.1))
    (subst (Fitting role frames begun) (sym is.0) h))
fitting_by role (p ∷ ps) frames begun begins c new h is =
    subst (λ (fs : List RawFrame). Fitting role fs (begun ++ begins) new) (append_assoc frames (got_by p) (frames_got ps))
    (subst (λ (fs : List RawFrame). Fitting role ((frames ++ got_by p) ++ frames_got ps) fs new)
    (append_assoc begun (begins_by c p.move) is.2 ∙ ap (λ (fs : List RawFrame). begun ++ fs) (sym is.3))
    (fitting_by role ps (frames ++ got_by p) (begun ++ begins_by c p.move) is.2 is.0 new
    (moves role frames begun c p.move is.0 p.told h is.1) is.4))

fitting_new : (role : Role) → Fitting role [] [] (fresh role).receiver.core
fitting_new Server = record {
  sums = sent_new Server;
  size = initial_new Server;
  answers = answered_new Server;
  fits = (first_new Server, λ some. absurd (false≢true some));
}
fitting_new Client = record {
  sums = sent_new Client;
  size = initial_new Client;
  answers = answered_new Client;
  fits = (first_new Client, λ some. absurd (false≢true some));
}

-- the DATA that begins with a write fits
fits_at : (role : Role) (points : List Point) (begun : List RawFrame) (c : Core) → RunsWith (fresh role).receiver.core points begun c
    → (n : ℕ) → AllFit begun (frames_got points) (begun_by n c.out)
fits_at role points begun c runs n =
    let h = fitting_by role points [] [] begun (fresh role).receiver.core c (fitting_new role) runs in
    begun_fit (n - length c.out.rest) c.out.rest (frames_got points) begun c.out.queue h.fits.0 h.fits.1

pub data_fits : DataFits
data_fits role points given came written c stands n = fits_at role points stands.begun c.receiver.core stands.begins n

pub data_fits_everywhere : DataFitsEverywhere
data_fits_everywhere role points given came written c stands before after n told is =
    let start = (fresh role).receiver.core in
    let split =
    begins_split before (point (wrote n) told ∷ after) start c.receiver.core stands.begun
    (subst (λ (ps : List Point). RunsWith start ps stands.begun c.receiver.core) is stands.begins) in
    record {
      core = split.mid;
      front = split.front;
      others = split.others;
      leads = split.leads;
      goes_on = split.goes_on;
      all = split.all;
      fit = fits_at role before split.front split.mid split.leads n;
    }
