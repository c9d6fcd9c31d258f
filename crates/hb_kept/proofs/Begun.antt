-- What is left of the frames begun is the end of the last one, in front of whose end its head is kept.
use Rattle.std.proofs.Common.{◌≡◌, ◌⊎◌, inl, inr, ℕ, zero, suc, ◌-◌, ◌<◌, ◌≤◌, Bool, true, false, List, [], ◌∷◌, ◌++◌, length, take, drop, Option, Some, refl, ap, sym, ◌∙◌, subst, arith, length-append}
use Rattle.std.specs.Prelude.{nat_le}
use Rattle.std.proofs.lemmas.Bool.Decides.{nat_tests}
use Rattle.std.proofs.lemmas.List.{append_assoc, append-nil, take-append-drop, length-take-le, drop_all}
use Rattle.std.proofs.lemmas.Grind.{flat_map-append}
use Rattle.std.proofs.Math.Seq.{take-append_seam}
use Rattle.hb_frames.specs.RawFrame.{RawFrame, spelling}
use Rattle.hb_outgoing.specs.declared.head.Head.{Head}
use Rattle.hb_outgoing.specs.Waiting.{Waiting, spelled, head_of}
use Rattle.hb_outgoing.specs.Written.{begun_in, begun_by, last_head, while_waits, rest_after, written}
use Rattle.hb_conn.specs.Connection.{Connection, Finds, core_of}
use Rattle.hb_conn.specs.Observed.{outgoing, frames_begun, wrote}
use Rattle.hb_conn.specs.declared.found.Found.{Found}
use Rattle.hb_conn.specs.declared.machine.Core.{Core}
use Rattle.hb_history.specs.Calls.{IsAct}
use Rattle.hb_history.specs.History.{Becomes}
use Rattle.hb_history.specs.Points.{Move, Point, After}
use Rattle.hb_history.proofs.Acted.{act_keeps}
use Rattle.hb_history.proofs.Kept as kept
use Rattle.hb_history.proofs.Parts.{calm, PutsAck}
use Rattle.hb_history.proofs.Shown.{KeepsOut, OfOut, PutsOut, out_keeps, out_puts}
use Rattle.hb_kept.specs.Payloads.{Began, UnbegunIsRefused, FirstOctetBegins}
use Rattle.hb_kept.proofs.DataWaits.{found_keeps}

-- a frame is the last of these, with this head, and the octets are its end
pub record IsLast (begun : List RawFrame) (rest : List ℕ) (head : Option Head) : Type 0 where
  pub before : List RawFrame
  pub frame : RawFrame
  pub last : begun ≡ before ++ frame ∷ []
  pub head_is : head ≡ Some (head_of frame)
  pub part : List ℕ
  pub some : 0 < length part
  pub end : spelling frame ≡ part ++ rest

abbrev pub EndsIn : List RawFrame → List ℕ → Option Head → Type 0
EndsIn begun rest head = (rest ≡ []) ⊎ IsLast begun rest head

abbrev pub EndsBegun : List RawFrame → Waiting → Type 0
EndsBegun begun w = EndsIn begun w.rest w.begun

more_behind : (f : RawFrame) (begun : List RawFrame) (rest : List ℕ) (head : Option Head) → EndsIn begun rest head
    → EndsIn (f ∷ begun) rest head
more_behind f begun rest head (inl none) = inl none
more_behind f begun rest head (inr is) = inr (record {
  before = f ∷ is.before;
  frame = is.frame;
  last = ap (λ (fs : List RawFrame). f ∷ fs) is.last;
  head_is = is.head_is;
  part = is.part;
  some = is.some;
  end = is.end;
})

begun_behind : (front begun : List RawFrame) (rest : List ℕ) (head : Option Head) → EndsIn begun rest head
    → EndsIn (front ++ begun) rest head
begun_behind [] begun rest head is = is
begun_behind (f ∷ front) begun rest head is = more_behind f (front ++ begun) rest head (begun_behind front begun rest head is)

-- behind the first n octets of a list: those behind its front, or the end of that with the rest
drop_behind : (n : ℕ) (xs ys : List ℕ) → length xs ≤ n → drop n (xs ++ ys) ≡ drop (n - length xs) ys
drop_behind zero [] ys within = refl
drop_behind zero (x ∷ xs) ys within = absurd (omega (arith, within))
drop_behind (suc n) [] ys within = ap (λ (m : ℕ). drop m ys) (let is : suc n ≡ suc n - 0 = omega arith in is)
drop_behind (suc n) (x ∷ xs) ys within =
    drop_behind n xs ys (omega (arith, within))
    ∙ ap (λ (m : ℕ). drop m ys) (let is : n - length xs ≡ suc n - length (x ∷ xs) = omega arith in is)

-- the frames of a queue that begin with n octets
first_ends : (f : RawFrame) (n : ℕ) (head : Option Head) → 0 < n → n ≤ length (spelling f)
    → EndsIn (f ∷ []) (drop n (spelling f ++ [])) (last_head head (f ∷ []))
first_ends f n head some within = inr (record {
  before = [];
  frame = f;
  last = refl;
  head_is = refl;
  part = take n (spelling f);
  some = omega (arith, some, length-take-le n (spelling f) within);
  end = sym (take-append-drop n (spelling f)) ∙ ap (λ (xs : List ℕ). take n (spelling f) ++ drop n xs) (sym (append-nil (spelling f)));
})

begun_ends : (n : ℕ) (queue : List RawFrame) (head : Option Head)
    → EndsIn (begun_in n queue) (drop n (spelled (begun_in n queue))) (last_head head (begun_in n queue))
begun_ends zero queue head = inl refl
begun_ends (suc n) [] head = inl refl
begun_ends (suc n) (f ∷ queue) head =
    by (nat_le (suc n) (length (spelling f))) refl (begun_ends (suc n - length (spelling f)) queue (Some (head_of f)))
  where
    less : ℕ
    less = suc n - length (spelling f)

    by : (b : Bool) → nat_le (suc n) (length (spelling f)) ≡ b
        → EndsIn (begun_in less queue) (drop less (spelled (begun_in less queue))) (last_head (Some (head_of f)) (begun_in less queue))
        → EndsIn (f ∷ begun_in less queue) (drop (suc n) (spelling f ++ spelled (begun_in less queue)))
        (last_head (Some (head_of f)) (begun_in less queue))
    by true is later =
        let within : suc n ≤ length (spelling f) = grind (arith, nat_tests, is) in
        let none : less ≡ 0 = omega (arith, within) in
        subst (λ (m : ℕ). EndsIn (f ∷ begun_in m queue) (drop (suc n) (spelling f ++ spelled (begun_in m queue)))
        (last_head (Some (head_of f)) (begun_in m queue))) (sym none) (first_ends f (suc n) head (omega arith) within)
    by false is later =
        let behind : length (spelling f) ≤ suc n = grind (arith, nat_tests, is) in
        subst (λ (xs : List ℕ). EndsIn (f ∷ begun_in less queue) xs (last_head (Some (head_of f)) (begun_in less queue)))
        (sym (drop_behind (suc n) (spelling f) (spelled (begun_in less queue)) behind))
        (more_behind f (begun_in less queue) _ _ later)

-- a head is kept while octets of its frame wait
while_ends : (begun : List RawFrame) (rest : List ℕ) (head : Option Head) → EndsIn begun rest head
    → EndsIn begun rest (while_waits rest head)
while_ends begun [] head is = inl refl
while_ends begun (x ∷ rest) head is = is

-- fewer octets are left of what was begun
fewer_ends : (n : ℕ) (begun : List RawFrame) (rest : List ℕ) (head : Option Head) → EndsIn begun rest head → EndsIn begun (drop n rest) head
fewer_ends n begun rest head (inl none) =
    inl (ap (drop n) none ∙ drop_all n [] (omega arith))
fewer_ends n begun rest head (inr is) = inr (record {
  before = is.before;
  frame = is.frame;
  last = is.last;
  head_is = is.head_is;
  part = is.part ++ take n rest;
  some = omega (arith, is.some, length-append is.part (take n rest));
  end =
      is.end ∙ ap (λ (xs : List ℕ). is.part ++ xs) (sym (take-append-drop n rest)) ∙ sym (append_assoc is.part (take n rest) (drop n rest));
})

-- so it is behind a write
pub written_ends : (begun : List RawFrame) (w : Waiting) (n : ℕ) → EndsBegun begun w → EndsBegun (begun ++ begun_by n w) (written n w)
written_ends begun w n is =
    while_ends (begun ++ begun_by n w) (rest_after n w) (last_head w.begun (begun_by n w)) (by (nat_le n (length w.rest)) refl)
  where
    m : ℕ
    m = n - length w.rest

    by : (b : Bool) → nat_le n (length w.rest) ≡ b
        → EndsIn (begun ++ begun_in m w.queue) (drop n (w.rest ++ spelled (begun_in m w.queue))) (last_head w.begun (begun_in m w.queue))
    by true small =
        let within : n ≤ length w.rest = grind (arith, nat_tests, small) in
        let none : m ≡ 0 = omega (arith, within) in
        subst (λ (k : ℕ). EndsIn (begun ++ begun_in k w.queue) (drop n (w.rest ++ spelled (begun_in k w.queue)))
        (last_head w.begun (begun_in k w.queue))) (sym none)
        (subst (λ (fs : List RawFrame). EndsIn fs (drop n (w.rest ++ [])) w.begun) (sym (append-nil begun))
        (subst (λ (xs : List ℕ). EndsIn begun (drop n xs) w.begun) (sym (append-nil w.rest)) (fewer_ends n begun w.rest w.begun is)))
    by false large =
        let behind : length w.rest ≤ n = grind (arith, nat_tests, large) in
        subst (λ (xs : List ℕ). EndsIn (begun ++ begun_in m w.queue) xs (last_head w.begun (begun_in m w.queue)))
        (sym (drop_behind n w.rest (spelled (begun_in m w.queue)) behind))
        (begun_behind begun (begun_in m w.queue) _ _ (begun_ends m w.queue w.begun))

-- lists with the same end are the same where the whole is
pub same_front : (xs ys zs : List ℕ) → xs ++ zs ≡ ys ++ zs → xs ≡ ys
same_front xs ys zs is =
    let size : length xs ≡ length ys = omega (arith, ap length is, length-append xs zs, length-append ys zs) in
    sym (take-append_seam xs zs) ∙ ap (take (length xs)) is ∙ ap (λ (n : ℕ). take n (ys ++ zs)) size ∙ take-append_seam ys zs

-- of frames of which only the end of the last is left, these have begun
spelled_last : (before : List RawFrame) (frame : RawFrame) → spelled (before ++ frame ∷ []) ≡ spelled before ++ spelling frame
spelled_last before frame =
    flat_map-append spelling before (frame ∷ []) ∙ ap (λ (xs : List ℕ). spelled before ++ xs) (append-nil (spelling frame))

pub last_went : (went rest : List ℕ) (begun : List RawFrame) (head : Option Head) (is : IsLast begun rest head)
    → went ++ rest ≡ spelled begun → went ≡ spelled is.before ++ is.part
last_went went rest begun head is sent =
    same_front went (spelled is.before ++ is.part) rest
    (sent ∙ ap spelled is.last ∙ spelled_last is.before is.frame ∙ ap (λ (xs : List ℕ). spelled is.before ++ xs) is.end
    ∙ sym (append_assoc (spelled is.before) is.part rest))

pub have_begun : (went rest : List ℕ) (begun : List RawFrame) (head : Option Head) → went ++ rest ≡ spelled begun → EndsIn begun rest head
    → Began went begun
have_begun went rest begun head sent (inl none) =
    inl (sym (append-nil went) ∙ ap (λ (xs : List ℕ). went ++ xs) (sym none) ∙ sent)
have_begun went rest begun head sent (inr is) = inr (record {
  whole = is.before;
  last = is.frame;
  begun_are = is.last;
  part = is.part;
  some = is.some;
  rest = rest;
  last_is = is.end;
  went_are = last_went went rest begun head is sent;
})

pub unbegun_is_refused : UnbegunIsRefused
unbegun_is_refused f (inl whole) = cc
unbegun_is_refused f (inr is) = by is.whole is.begun_are is.went_are
  where
    by : (whole : List RawFrame) → f ∷ [] ≡ whole ++ is.last ∷ [] → [] ≡ spelled whole ++ is.part → ⊥
    by [] begun went = absurd (omega (arith, is.some, ap (λ (xs : List ℕ). length xs) went))
    by (g ∷ whole) begun went = cc

pub first_octet_begins : FirstOctetBegins
first_octet_begins f = inr (record {
  whole = [];
  last = f;
  begun_are = refl;
  part = take 1 (spelling f);
  some = omega arith;
  rest = drop 1 (spelling f);
  last_is = sym (take-append-drop 1 (spelling f));
  went_are = refl;
})

-- what is left of the frames that have begun
pub record IsLeft (went : List ℕ) (begun : List RawFrame) : Type 0 where
  pub owed : List ℕ
  pub sent : went ++ owed ≡ spelled begun

pub left_of : (went : List ℕ) (begun : List RawFrame) → Began went begun → IsLeft went begun
left_of went begun (inl whole) = record { owed = []; sent = append-nil went ∙ whole }
left_of went begun (inr is) = record {
  owed = is.rest;
  sent = ap (λ (xs : List ℕ). xs ++ is.rest) is.went_are ∙ append_assoc (spelled is.whole) is.part is.rest
      ∙ ap (λ (xs : List ℕ). spelled is.whole ++ xs) (sym is.last_is) ∙ sym (spelled_last is.whole is.last) ∙ sym (ap spelled is.begun_are);
}

-- what is left of the frames begun changes by writes alone

module _ (Q : List ℕ → Option Head → Type 0) where
  abbrev Begun : Waiting → Type 0
  Begun w = Q w.rest w.begun

  begun_keeps : KeepsOut Begun
  begun_keeps = record { puts = λ w f plain h. h; takes_back = λ w s h. h; takes_all_back = λ w h. h }

  begun_puts : PutsOut Begun
  begun_puts w f other none h = h

  begun_acks : PutsAck (OfOut Begun)
  begun_acks c f answer h = h

  pub found_leaves : (c d : Connection) (told : Found) → Finds c d told → Begun (outgoing c) → Begun (outgoing d)
  found_leaves c d told finds h = found_keeps Begun begun_keeps begun_acks c d told finds h

  acted_by : (c : Core) (m : Move) (new : Core) (told : Found) → IsAct m → After c m new told → Begun c.out → Begun new.out
  acted_by c m new told act after h =
      act_keeps (OfOut Begun) (out_keeps Begun begun_keeps) c (λ s bytes. out_puts Begun begun_puts c s bytes h) m new told act h after

  pub act_leaves_begun : (c d : Connection) (p : Point) → IsAct p.move → Becomes c p d → Begun (outgoing c) → Begun (outgoing d)
  act_leaves_begun c d p act becomes h = acted_by (core_of c) p.move (core_of d) p.told act becomes h

pub wrote_ends : (begun : List RawFrame) (c : Connection) (n : ℕ) → EndsBegun begun (outgoing c)
    → EndsBegun (begun ++ frames_begun n c) (outgoing (wrote c n))
wrote_ends begun c n is =
    let k = core_of c in
    let ends = EndsIn (begun ++ frames_begun n c) in
    kept.payment_keeps (OfOut (Begun ends)) (out_keeps (Begun ends) (begun_keeps ends)) calm (record k { out = written n k.out })
    (written_ends begun (outgoing c) n is)
