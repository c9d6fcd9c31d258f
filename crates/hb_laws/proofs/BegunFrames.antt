-- What is left to be written of the frames that have begun is the end of the last one, behind each history of a connection.
use Rattle.std.proofs.Common.{◌≡◌, ◌⊎◌, inl, inr, ℕ, ◌+◌, ◌-◌, ◌≤◌, Bool, true, false, List, [], ◌∷◌, ◌++◌, length, drop, refl, ap, sym, ◌∙◌, subst, arith}
use Rattle.std.specs.Prelude.{nat_le}
use Rattle.std.proofs.lemmas.Bool.Decides.{nat_tests}
use Rattle.std.proofs.lemmas.List.{append-nil, append_assoc, drop-drop, drop_at}
use Rattle.hb_conn.specs.Connection.{Connection}
use Rattle.hb_conn.specs.Observed.{outgoing}
use Rattle.hb_conn.specs.declared.found.Found.{Found}
use Rattle.hb_conn.specs.declared.machine.Core.{Core}
use Rattle.hb_frames.specs.RawFrame.{RawFrame}
use Rattle.hb_history.proofs.Acted.{act_keeps, look_keeps}
use Rattle.hb_history.proofs.Handled.{window_keeps}
use Rattle.hb_history.proofs.Kept as kept
use Rattle.hb_history.proofs.Parts.{calm, PutsAck}
use Rattle.hb_history.proofs.Shown.{KeepsOut, PutsOut, OfOut, out_keeps, out_resizes, out_grows, out_puts}
use Rattle.hb_history.specs.Calls.{IsAct, IsLook}
use Rattle.hb_history.specs.History.{fresh, StandsFor}
use Rattle.hb_history.specs.Points.{Move, got, refused, misbegan, opened, answered, ended, reset, credited, put, wrote, Point, After, RunsWith, begins_by}
use Rattle.hb_kept.proofs.Begun.{EndsIn, written_ends}
use Rattle.hb_outgoing.specs.Waiting.{Waiting, spelled}
use Rattle.hb_outgoing.specs.Written.{begun_in, begun_by, last_head, while_waits, rest_after, written}
use Rattle.hb_streams.specs.declared.role.Role.{Role}

-- none has begun, or what is left is the end of the last one
abbrev pub Left : List RawFrame → Waiting → Type 0
Left begun w = (begun ≡ []) ⊎ EndsIn begun w.rest w.begun

left_keeps : (begun : List RawFrame) → KeepsOut (Left begun)
left_keeps begun = record { puts = λ w f plain h. h; takes_back = λ w s h. h; takes_all_back = λ w h. h }

left_puts : (begun : List RawFrame) → PutsOut (Left begun)
left_puts begun w f other none h = h

left_acks : (begun : List RawFrame) → PutsAck (OfOut (Left begun))
left_acks begun c f answer h = h

-- where none had begun, the first ones begin
first_left : (w : Waiting) (n : ℕ) → Left (begun_by n w) (written n w)
first_left w n = by (nat_le n (length w.rest)) refl
  where
    by : (b : Bool) → nat_le n (length w.rest) ≡ b → Left (begun_by n w) (written n w)
    by true small =
        let within : n ≤ length w.rest = grind (arith, nat_tests, small) in
        let none : n - length w.rest ≡ 0 = omega (arith, within) in
        inl (ap (λ (k : ℕ). begun_in k w.queue) none)
    by false large =
        let behind : length w.rest ≤ n = grind (arith, nat_tests, large) in
        let all : n ≡ length w.rest + (n - length w.rest) = omega (arith, behind) in
        let k = n - length w.rest in
        let alone = written_ends [] (record { rest = []; begun = w.begun; queue = w.queue }) k (inl refl) in
        let none : k - 0 ≡ k = omega arith in
        let ends = subst (λ (j : ℕ). EndsIn (begun_in j w.queue) (drop k (spelled (begun_in j w.queue)))
        (while_waits (drop k (spelled (begun_in j w.queue))) (last_head w.begun (begun_in j w.queue)))) none alone in
        let left : drop k (spelled (begun_by n w)) ≡ rest_after n w =
        ap (drop k) (sym (drop_at w.rest (spelled (begun_by n w)) (length w.rest) refl))
        ∙ drop-drop k (length w.rest) (w.rest ++ spelled (begun_by n w))
        ∙ ap (λ (j : ℕ). drop j (w.rest ++ spelled (begun_by n w))) (sym all) in
        inr (subst (λ (xs : List ℕ). EndsIn (begun_by n w) xs (while_waits xs (last_head w.begun (begun_by n w)))) left ends)

written_left : (begun : List RawFrame) (w : Waiting) (n : ℕ) → Left begun w → Left (begun ++ begun_by n w) (written n w)
written_left begun w n (inl none) =
    subst (λ (fs : List RawFrame). Left (fs ++ begun_by n w) (written n w)) (sym none) (first_left w n)
written_left begun w n (inr ends) = inr (written_ends begun w n ends)

look_left : (begun : List RawFrame) (c : Core) (m : Move) (new : Core) (told : Found) → IsLook m → Left begun c.out → After c m new told
    → Left (begun ++ []) new.out
look_left begun c m new told look h is =
    let Q = Left begun in
    let k = left_keeps begun in
    subst (λ (fs : List RawFrame). Left fs new.out) (sym (append-nil begun))
    (look_keeps (OfOut Q) (out_keeps Q k) (out_resizes Q k) (left_acks begun) c m new told look h
    (λ s n. window_keeps (OfOut Q) (out_keeps Q k) c s n (out_grows Q k c s n h)) is)

act_left : (begun : List RawFrame) (c : Core) (m : Move) (new : Core) (told : Found) → IsAct m → Left begun c.out → After c m new told
    → Left (begun ++ []) new.out
act_left begun c m new told act h is =
    let Q = Left begun in
    subst (λ (fs : List RawFrame). Left fs new.out) (sym (append-nil begun))
    (act_keeps (OfOut Q) (out_keeps Q (left_keeps begun)) c (λ s bytes. out_puts Q (left_puts begun) c s bytes h) m new told act h is)

move_left : (begun : List RawFrame) (c : Core) (m : Move) (new : Core) (told : Found) → Left begun c.out → After c m new told
    → Left (begun ++ begins_by c m) new.out
move_left begun c (got f) new told h is = look_left begun c (got f) new told tt h is
move_left begun c (refused r kind flags) new told h is = look_left begun c (refused r kind flags) new told tt h is
move_left begun c misbegan new told h is = look_left begun c misbegan new told tt h is
move_left begun c (opened s headers end) new told h is = act_left begun c (opened s headers end) new told tt h is
move_left begun c (answered s status) new told h is = act_left begun c (answered s status) new told tt h is
move_left begun c (ended s) new told h is = act_left begun c (ended s) new told tt h is
move_left begun c (reset s code) new told h is = act_left begun c (reset s code) new told tt h is
move_left begun c (credited s n) new told h is = act_left begun c (credited s n) new told tt h is
move_left begun c (put s bytes) new told h is = act_left begun c (put s bytes) new told tt h is
move_left begun c (wrote n) new told h is =
    let Q = Left (begun ++ begun_by n c.out) in
    subst (λ (d : Core). Q d.out) (sym is.1.0)
    (kept.payment_keeps (OfOut Q) (out_keeps Q (left_keeps (begun ++ begun_by n c.out))) calm (record c { out = written n c.out })
    (written_left begun c.out n h))

pub runs_left : (points : List Point) (begun begins : List RawFrame) (c new : Core) → Left begun c.out → RunsWith c points begins new
    → Left (begun ++ begins) new.out
runs_left [] begun begins c new h is =
    subst (λ (fs : List RawFrame). Left fs new.out) (sym (append-nil begun) ∙ ap (λ (fs : List RawFrame). begun ++ fs) (sym is.1))
    (subst (λ (d : Core). Left begun d.out) (sym is.0) h)
runs_left (p ∷ ps) begun begins c new h is =
    subst (λ (fs : List RawFrame). Left fs new.out)
    (append_assoc begun (begins_by c p.move) is.2 ∙ ap (λ (fs : List RawFrame). begun ++ fs) (sym is.3))
    (runs_left ps (begun ++ begins_by c p.move) is.2 is.0 new (move_left begun c p.move is.0 p.told h is.1) is.4)

pub all_left : (role : Role) (points : List Point) (given : List Found) (came went : List ℕ) (c : Connection)
    → (stands : StandsFor role points given came went c) → Left stands.begun (outgoing c)
all_left role points given came went c stands =
    runs_left points [] stands.begun (fresh role).receiver.core c.receiver.core (inl refl) stands.begins
