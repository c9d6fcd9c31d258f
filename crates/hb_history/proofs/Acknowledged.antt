-- SETTINGS that set values are acknowledged once each, by frames that have begun or wait.
use Rattle.std.proofs.Common.{◌≡◌, ℕ, ◌+◌, ◌==◌, ◌&&◌, ◌||◌, not, Bool, true, false, cond, List, [], ◌∷◌, ◌++◌, length, filter, refl, ap, sym, ◌∙◌, arith, length-append}
use Rattle.std.specs.List.{flat_map}
use Rattle.std.proofs.lemmas.Bool.{false≢true}
use Rattle.std.proofs.lemmas.List.Elements.{filter-append}
use Rattle.hb_frames.specs.RawFrame.{RawFrame}
use Rattle.hb_frames.specs.Numbers.{settings_kind, ping_kind}
use Rattle.hb_frames.specs.Refusals.{is_ack}
use Rattle.hb_conn.specs.Frames.{settings_ack, ping_ack}
use Rattle.hb_conn.specs.declared.machine.Core.{Core}
use Rattle.hb_history.specs.Fits.{sets_values, acknowledges}
use Rattle.hb_history.specs.Answered.{ping_value, answer_to, is_answer}
use Rattle.hb_history.proofs.Answered.{AllAnswered}

abbrev pub number : (RawFrame → Bool) → List RawFrame → ℕ
number p fs = length (filter p fs)

number_append : (p : RawFrame → Bool) (fs gs : List RawFrame) → number p (fs ++ gs) ≡ number p fs + number p gs
number_append p fs gs = ap length (filter-append p fs gs) ∙ length-append (filter p fs) (filter p gs)

-- an acknowledgement is an answer
is_answer_by : (a b ack : Bool) → (a && ack) ≡ true → ((a || b) && ack) ≡ true
is_answer_by true b ack is = is
is_answer_by false b ack is = absurd (false≢true is)

all_among : (fs : List RawFrame) → filter acknowledges (filter is_answer fs) ≡ filter acknowledges fs
all_among [] = refl
all_among (f ∷ fs) = by (is_answer f) (acknowledges f) refl refl (all_among fs)
  where
    by : (answer ack : Bool) → is_answer f ≡ answer → acknowledges f ≡ ack
        → filter acknowledges (filter is_answer fs) ≡ filter acknowledges fs
        → filter acknowledges (cond answer (f ∷ filter is_answer fs) (filter is_answer fs))
        ≡ cond ack (f ∷ filter acknowledges fs) (filter acknowledges fs)
    by true true is test rest =
        ap (λ b. cond b (f ∷ filter acknowledges (filter is_answer fs)) (filter acknowledges (filter is_answer fs))) test
        ∙ ap (λ (gs : List RawFrame). f ∷ gs) rest
    by true false is test rest =
        ap (λ b. cond b (f ∷ filter acknowledges (filter is_answer fs)) (filter acknowledges (filter is_answer fs))) test ∙ rest
    by false true is test rest =
        absurd (false≢true (sym is ∙ is_answer_by (f.kind == settings_kind) (f.kind == ping_kind) (is_ack f) test))
    by false false is test rest = rest

answered_by : (ack a b : Bool) (value : ℕ)
    → number acknowledges (cond ack [] (cond a (settings_ack ∷ []) (cond b (ping_ack value ∷ []) []))) ≡ cond (a && not ack) 1 0
answered_by true true b value = refl
answered_by true false b value = refl
answered_by false true b value = refl
answered_by false false true value = refl
answered_by false false false value = refl

one_by : (b : Bool) (f : RawFrame) (fs : List RawFrame) → cond b 1 0 + length fs ≡ length (cond b (f ∷ fs) fs)
one_by true f fs = omega arith
one_by false f fs = omega arith

-- of the answers to frames as many acknowledge SETTINGS as frames set values
one_each : (fs : List RawFrame) → number acknowledges (flat_map answer_to fs) ≡ number sets_values fs
one_each [] = refl
one_each (f ∷ fs) =
    let first = answered_by (is_ack f) (f.kind == settings_kind) (f.kind == ping_kind) (ping_value f) in
    number_append acknowledges (answer_to f) (flat_map answer_to fs)
    ∙ ap (λ n. n + number acknowledges (flat_map answer_to fs)) first
    ∙ ap (λ n. cond (sets_values f) 1 0 + n) (one_each fs)
    ∙ one_by (sets_values f) f (filter sets_values fs)

-- of the peer's SETTINGS that came all are acknowledged, unless a connection error was told
pub all_counted : (frames begun : List RawFrame) (c : Core) → AllAnswered frames begun c → c.over ≡ false
    → number acknowledges begun + number acknowledges c.out.queue ≡ number sets_values frames
all_counted frames begun c h still =
    sym (number_append acknowledges begun c.out.queue)
    ∙ ap (λ (fs : List RawFrame). length fs) (sym (all_among (begun ++ c.out.queue)))
    ∙ ap (number acknowledges) (filter-append is_answer begun c.out.queue ∙ h still)
    ∙ one_each frames
