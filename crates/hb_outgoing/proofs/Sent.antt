-- What was sent and what waits, before and after each call.
use Rattle.std.proofs.Common.{◌≡◌, ◌≢◌, ℕ, zero, suc, ◌+◌, ◌-◌, ◌≤◌, ◌<◌, List, [], ◌∷◌, ◌++◌, length, take, drop, refl, sym, ap, ap₂, ◌∙◌, ⊎_elim, Some}
use Rattle.std.proofs.Common.{arith, Bool, true, false, length-append}
use Rattle.std.specs.Prelude.{◌==◌, ◌&&◌, not}
use Rattle.std.proofs.Math.Bool.{and-false}
use Rattle.hb_frames.specs.Numbers.{data_kind}
use Rattle.std.specs.List.{filter}
use Rattle.std.proofs.lemmas.Bool.{cases_Bool}
use Rattle.std.proofs.lemmas.Bool.Decides.{nat_tests}
use Rattle.std.proofs.lemmas.List.{append_assoc, take-append-drop, take-append-le, drop_all}
use Rattle.std.proofs.Math.Seq.{drop-append_seam}
use Rattle.std.proofs.lemmas.Grind.{flat_map-append}
use Rattle.hb_frames.specs.RawFrame.{RawFrame, spelling}
use Rattle.hb_outgoing.specs.Waiting.{spelled, octets_of}
use Rattle.hb_outgoing.specs.Written.{begun_in, begun_by, last_head, while_waits, rest_after}
use Rattle.hb_outgoing.specs.Selected.{is_kept}
use Rattle.hb_outgoing.specs.Laws.{frames_on, AllIsSpelled, PutAdds, WriteBegins, BeginsByPlace, EndsAtAFrame, TakeBackKeeps, OthersStay}
use Rattle.hb_outgoing.proofs.Queues.{spelling_len}
use Rattle.hb_outgoing.proofs.Views.{same_waiting}
use Rattle.hb_outgoing.proofs.Walks.{begun_more}

pub all_is_spelled : AllIsSpelled
all_is_spelled opening sent begun w shows =
    sym (append_assoc sent w.rest (spelled w.queue)) ∙ ap (λ (xs : List ℕ). xs ++ spelled w.queue) shows
    ∙ append_assoc opening (spelled begun) (spelled w.queue)
    ∙ ap (λ (xs : List ℕ). opening ++ xs) (sym (flat_map-append spelling begun w.queue))

pub put_adds : PutAdds
put_adds opening sent begun w f shows = (shows, sym (append_assoc begun w.queue (f ∷ [])))

pub begun_and_left : (n : ℕ) (queue : List RawFrame) → begun_in n queue ++ drop (length (begun_in n queue)) queue ≡ queue
begun_and_left zero queue = refl
begun_and_left (suc n) [] = refl
begun_and_left (suc n) (f ∷ queue) = ap (λ (fs : List RawFrame). f ∷ fs) (begun_and_left (suc n - length (spelling f)) queue)

-- the frames that begin have all octets that are written
pub begun_is_enough : (n : ℕ) (queue : List RawFrame) → n ≤ length (spelled queue) → n ≤ length (spelled (begun_in n queue))
begun_is_enough zero queue h = omega arith
begun_is_enough (suc n) [] h = h
begun_is_enough (suc n) (f ∷ queue) h =
    let less = suc n - length (spelling f) in
    let len = length-append (spelling f) (spelled queue) in
    let len_begun = length-append (spelling f) (spelled (begun_in less queue)) in
    let fits : less ≤ length (spelled queue) = omega (arith, h, len) in
    omega (arith, begun_is_enough less queue fits, len_begun)

pub write_begins : WriteBegins
write_begins opening sent begun w n fits shows =
    let new = begun_by n w in
    let queue = drop (length new) w.queue in
    let front = w.rest ++ spelled new in
    let all : new ++ queue ≡ w.queue = begun_and_left (n - length w.rest) w.queue in
    let len = length-append w.rest (spelled w.queue) in
    let fits_queue : n - length w.rest ≤ length (spelled w.queue) = omega (arith, fits, len) in
    let covers = begun_is_enough (n - length w.rest) w.queue fits_queue in
    let enough : n ≤ length front = omega (arith, covers, length-append w.rest (spelled new)) in
    let octets : octets_of w ≡ front ++ spelled queue =
    ap (λ (fs : List RawFrame). w.rest ++ spelled fs) (sym all)
    ∙ ap (λ (xs : List ℕ). w.rest ++ xs) (flat_map-append spelling new queue)
    ∙ sym (append_assoc w.rest (spelled new) (spelled queue)) in
    let taken : take n (octets_of w) ≡ take n front = ap (take n) octets ∙ take-append-le n front (spelled queue) enough in
    let shown : (sent ++ take n (octets_of w)) ++ drop n front ≡ opening ++ spelled (begun ++ new) =
    append_assoc sent (take n (octets_of w)) (drop n front)
    ∙ ap (λ (xs : List ℕ). sent ++ (xs ++ drop n front)) taken
    ∙ ap (λ (xs : List ℕ). sent ++ xs) (take-append-drop n front)
    ∙ sym (append_assoc sent w.rest (spelled new)) ∙ ap (λ (xs : List ℕ). xs ++ spelled new) shows
    ∙ append_assoc opening (spelled begun) (spelled new)
    ∙ ap (λ (xs : List ℕ). opening ++ xs) (sym (flat_map-append spelling begun new)) in
    (shown, append_assoc begun new queue ∙ ap (λ (fs : List RawFrame). begun ++ fs) all)

-- which frames have begun, by their places in a queue

pub begun_behind : (m : ℕ) (fs gs : List RawFrame) (f : RawFrame) → length (spelled fs) < m
    → (more : List RawFrame) × (begun_in m (fs ++ f ∷ gs) ≡ fs ++ f ∷ more)
begun_behind m [] gs f h = (begun_in (m - length (spelling f)) gs, begun_more m f gs (omega (arith, h)))
begun_behind m (e ∷ fs) gs f h =
    let len = length-append (spelling e) (spelled fs) in
    let later = begun_behind (m - length (spelling e)) fs gs f (omega (arith, h, len)) in (
      later.0,
      begun_more m e (fs ++ f ∷ gs) (omega (arith, h)) ∙ ap (λ (hs : List RawFrame). e ∷ hs) later.1,
    )

pub begun_before : (m : ℕ) (fs gs : List RawFrame) (f : RawFrame) → m ≤ length (spelled fs)
    → (more : List RawFrame) × (fs ≡ begun_in m (fs ++ f ∷ gs) ++ more)
begun_before zero fs gs f h = (fs, refl)
begun_before (suc m) [] gs f h = absurd (omega (arith, h))
begun_before (suc m) (e ∷ fs) gs f h =
    let len = length-append (spelling e) (spelled fs) in
    let later = begun_before (suc m - length (spelling e)) fs gs f (omega (arith, h, len)) in
    (later.0, ap (λ (hs : List RawFrame). e ∷ hs) later.1)

pub begins_by_place : BeginsByPlace
begins_by_place w n fs gs f is =
    let m = n - length w.rest in
    let queue = ap (begun_in m) is in (
      λ (h : length w.rest + length (spelled fs) < n).
          let yes = begun_behind m fs gs f (omega (arith, h)) in (yes.0, queue ∙ yes.1),
      λ (h : n ≤ length w.rest + length (spelled fs)).
          let not_yet = begun_before m fs gs f (omega (arith, h)) in
          (not_yet.0, not_yet.1 ∙ ap (λ (hs : List RawFrame). hs ++ not_yet.0) (sym queue)),
    )

pub begun_whole : (fs gs : List RawFrame) → begun_in (length (spelled fs)) (fs ++ gs) ≡ fs
begun_whole [] gs = refl
begun_whole (e ∷ fs) gs =
    let len = length-append (spelling e) (spelled fs) in
    let some : 0 < length (spelled (e ∷ fs)) = omega (arith, len, spelling_len e) in
    let less : length (spelled (e ∷ fs)) - length (spelling e) ≡ length (spelled fs) = omega (arith, len) in
    begun_more (length (spelled (e ∷ fs))) e (fs ++ gs) some ∙ ap (λ (m : ℕ). e ∷ begun_in m (fs ++ gs)) less
    ∙ ap (λ (hs : List RawFrame). e ∷ hs) (begun_whole fs gs)

pub ends_at_a_frame : EndsAtAFrame
ends_at_a_frame w before behind is =
    let n = length w.rest + length (spelled before) in
    let less : n - length w.rest ≡ length (spelled before) = omega arith in
    let new : begun_by n w ≡ before =
    ap (λ (m : ℕ). begun_in m w.queue) less ∙ ap (begun_in (length (spelled before))) is ∙ begun_whole before behind in
    let none : rest_after n w ≡ [] = ap (λ (fs : List RawFrame). drop n (w.rest ++ spelled fs)) new
    ∙ drop_all n (w.rest ++ spelled before) (omega (arith, length-append w.rest (spelled before))) in
    let queue : drop (length (begun_by n w)) w.queue ≡ behind =
    ap₂ (λ (fs gs : List RawFrame). drop (length fs) gs) new is ∙ drop-append_seam before behind in
    same_waiting _ _ _ _ _ _ none (ap (λ (xs : List ℕ). while_waits xs (last_head w.begun (begun_by n w))) none) queue

pub take_back_keeps : TakeBackKeeps
take_back_keeps opening sent begun w stream shows = (shows, refl)

pub is_kept_elsewhere : (stream : ℕ) (f : RawFrame) → (f.stream == stream) ≡ false → is_kept (Some stream) f ≡ true
is_kept_elsewhere stream f differs =
    ap not (ap (λ (b : Bool). f.kind == data_kind && b) differs ∙ and-false (f.kind == data_kind))

-- a frame of another stream is kept
pub others_kept : (stream other : ℕ) (fs : List RawFrame) → stream ≢ other
    → frames_on other (filter (is_kept (Some stream)) fs) ≡ frames_on other fs
others_kept stream other [] apart = refl
others_kept stream other (f ∷ fs) apart =
    let rest = others_kept stream other fs apart in
    ⊎_elim
    (λ (on : (f.stream == other) ≡ true).
    let is : f.stream ≡ other = grind (arith, nat_tests) in
    let differs : (f.stream == stream) ≡ false = grind (arith, nat_tests, apart) in
    let kept : is_kept (Some stream) f ≡ true = is_kept_elsewhere stream f differs in
    rw (kept, on) (ap (λ (gs : List RawFrame). f ∷ gs) rest))
    (λ (off : (f.stream == other) ≡ false). ⊎_elim
    (λ (kept : is_kept (Some stream) f ≡ true). rw (kept, off) rest)
    (λ (gone : is_kept (Some stream) f ≡ false). rw (gone, off) rest)
    (cases_Bool (is_kept (Some stream) f)))
    (cases_Bool (f.stream == other))

pub others_stay : OthersStay
others_stay w stream other apart = others_kept stream other w.queue apart
