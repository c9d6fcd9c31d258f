-- All octets of taking windows stay granted, kept or owed, and no DATA is sent beyond a window.
use Rattle.std.proofs.Common.{◌≡◌, ◌≢◌, ◌⊎◌, ℕ, ◌+◌, ◌<◌, ◌≤◌, min, nat_lt, ◌==◌, pos, ◌≤ℤ◌, true, false, Bool, if◌then◌else◌, List, [], ◌∷◌, Option, Some, None, IfSome, refl, ap, sym, ◌∙◌, subst, inl, inr, arith}
use Rattle.std.specs.List.{fold}
use Rattle.std.specs.FinMap.{get}
use Rattle.std.proofs.lemmas.List.Sums.{fold_push}
use Rattle.std.proofs.lemmas.Int.{ints}
use Rattle.std.proofs.lemmas.Bool.{cases_eq, eq-eqb, ne_eqb}
use Rattle.hb_windows.specs.Sending.{Sending}
use Rattle.hb_windows.specs.Taking.{Taking}
use Rattle.hb_flow.specs.Windows.{Windows, worth_granting, room, less, more, taken, owing, paid_of}
use Rattle.hb_flow.specs.Flows.{Flows, fresh, opened, new_windows, changed, sendable_by, sending_by, taking_by}
use Rattle.hb_flow.specs.Sizes.{resized}
use Rattle.hb_flow.specs.Moves.{Move, opens, closes, grants, grants_on, resizes, sends, takes_back, takes, takes_on, owes, owes_on, pays, pays_on, after, May, AllMay}
use Rattle.hb_flow.specs.Laws.{MovesAddUp, ConnectionTakes, StreamTakes, NeverBeyond, IsWhole}
use Rattle.hb_flow.proofs.Changes.{still_taking, was, was_put, was_left, was_sized, none_new}

pub moves_add_up : MovesAddUp
moves_add_up moves move = fold_push after fresh moves move

taken_whole : (t : Taking) (n : ℕ) → n ≤ t.granted → IsWhole t → IsWhole (taken t n)
taken_whole t n within whole = omega arith

owing_whole : (t : Taking) (n : ℕ) → n ≤ t.kept → IsWhole t → IsWhole (owing t n)
owing_whole t n within whole = omega arith

paid_by : (t : Taking) (b : Bool) → IsWhole t → IsWhole (if b then t else record t { granted = t.granted + t.owed; owed = 0 })
paid_by t true whole = whole
paid_by t false whole = omega arith

paid_whole : (t : Taking) → IsWhole t → IsWhole (paid_of t)
paid_whole t whole = paid_by t (nat_lt t.owed worth_granting) whole

connection_step : (f : Flows) (move : Move) → May f move → IsWhole f.taking → IsWhole (after f move).taking
connection_step f (opens s) may whole = whole
connection_step f (closes s) may whole = whole
connection_step f (grants n) may whole = whole
connection_step f (grants_on s n) may whole = subst IsWhole (sym (still_taking f s (sending_by (λ w. more w n)))) whole
connection_step f (resizes initial) may whole = whole
connection_step f (sends s n) may whole = subst IsWhole (sym (still_taking f s (sending_by (λ w. less w n)))) whole
connection_step f (takes_back s n) may whole = subst IsWhole (sym (still_taking f s (sending_by (λ w. more w n)))) whole
connection_step f (takes n) may whole = taken_whole f.taking n may whole
connection_step f (takes_on s n) may whole = subst IsWhole (sym (still_taking f s (taking_by (λ w. taken w n)))) whole
connection_step f (owes n) may whole = owing_whole f.taking n may whole
connection_step f (owes_on s n) may whole = subst IsWhole (sym (still_taking f s (taking_by (λ w. owing w n)))) whole
connection_step f pays may whole = paid_whole f.taking whole
connection_step f (pays_on s) may whole = subst IsWhole (sym (still_taking f s (taking_by paid_of))) whole

connection_all : (f : Flows) (moves : List Move) → AllMay f moves → IsWhole f.taking → IsWhole (fold after f moves).taking
connection_all f [] may whole = whole
connection_all f (move ∷ moves) may whole = connection_all (after f move) moves may.1 (connection_step f move may.0 whole)

pub connection_takes : ConnectionTakes
connection_takes moves may = connection_all fresh moves may refl

abbrev AllWhole : Flows → Type 0
AllWhole f = (q : ℕ) (w : Windows) → get f.streams q ≡ Some w → IsWhole w.taking

-- a change of the windows of one stream
changed_whole : (f : Flows) (n : ℕ) (change : Windows → Windows) → AllWhole f
    → ((v : Windows) → get f.streams n ≡ Some v → IsWhole v.taking → IsWhole (change v).taking) → AllWhole (changed f n change)
changed_whole f n change all step q w there =
    let held = was f n change q w there in
    subst (λ (x : Windows). IsWhole x.taking) (sym held.2) (by held.0 held.1 (cases_eq q n))
  where
    by : (v : Windows) → get f.streams q ≡ Some v → (q ≡ n) ⊎ (q ≢ n) → IsWhole (if q == n then change v else v).taking
    by v is (inl same) = subst (λ b. IsWhole (if b then change v else v).taking) (sym (eq-eqb q n same))
        (step v (ap (get f.streams) (sym same) ∙ is) (all q v is))
    by v is (inr apart) = subst (λ b. IsWhole (if b then change v else v).taking) (sym (ne_eqb q n apart)) (all q v is)

sending_whole : (f : Flows) (n : ℕ) (change : Sending → Sending) → AllWhole f → AllWhole (changed f n (sending_by change))
sending_whole f n change all = changed_whole f n (sending_by change) all (λ v there whole. whole)

put_whole : (f : Flows) (n : ℕ) → AllWhole f → AllWhole (opened f n)
put_whole f n all q w there =
    elim (was_put f.streams n (new_windows f.initial) q w there) [
      | inl new ↦ subst (λ (x : Windows). IsWhole x.taking) (sym new.1) refl
      | inr old ↦ all q w old.1
    ]

resized_whole : (f : Flows) (k : ℕ) → AllWhole f → AllWhole (resized f k)
resized_whole f k all q w there =
    let held = was_sized f.streams k q w there in
    subst (λ (x : Windows). IsWhole x.taking) (sym held.2) (all q held.0 held.1)

allowed : (v : Windows) (o : Option Windows) (P : Windows → Type 0) → o ≡ Some v → IfSome o P → P v
allowed v o P is may = subst (λ o. IfSome o P) is may

stream_step : (f : Flows) (move : Move) → May f move → AllWhole f → AllWhole (after f move)
stream_step f (opens n) may all = put_whole f n all
stream_step f (closes n) may all = λ q w there. all q w (was_left f.streams n q w there)
stream_step f (grants n) may all = all
stream_step f (grants_on n k) may all = sending_whole f n (λ w. more w k) all
stream_step f (resizes k) may all = resized_whole f k all
stream_step f (sends n k) may all = sending_whole f n (λ w. less w k) all
stream_step f (takes_back n k) may all = sending_whole f n (λ w. more w k) all
stream_step f (takes n) may all = all
stream_step f (takes_on n k) may all = changed_whole f n (taking_by (λ w. taken w k)) all (λ v there whole.
    taken_whole v.taking k (allowed v (get f.streams n) (λ w. k ≤ w.taking.granted) there may) whole)
stream_step f (owes n) may all = all
stream_step f (owes_on n k) may all = changed_whole f n (taking_by (λ w. owing w k)) all (λ v there whole.
    owing_whole v.taking k (allowed v (get f.streams n) (λ w. k ≤ w.taking.kept) there may) whole)
stream_step f pays may all = all
stream_step f (pays_on n) may all = changed_whole f n (taking_by paid_of) all (λ v there whole. paid_whole v.taking whole)

stream_all : (f : Flows) (moves : List Move) → AllMay f moves → AllWhole f → AllWhole (fold after f moves)
stream_all f [] may all = all
stream_all f (move ∷ moves) may all = stream_all (after f move) moves may.1 (stream_step f move may.0 all)

pub stream_takes : StreamTakes
stream_takes moves may = stream_all fresh moves may (λ q w new. none_new q w new)

-- what a window lets go is in it
within_room : (w : Sending) (n : ℕ) → 0 < n → n ≤ room w → pos 0 ≤ℤ (less w n).held
within_room w n some within = grind (arith, ints)

both : (f : Flows) (n : ℕ) (v : Windows) (o : Option Windows) → o ≡ Some v → n ≤ sendable_by f o
    → (n ≤ room f.sending) × (n ≤ room v.sending)
both f n v o is within =
    let least : n ≤ min (room f.sending) (room v.sending) = subst (λ o. n ≤ sendable_by f o) is within in
    (omega arith, omega arith)

pub never_beyond : NeverBeyond
never_beyond f q n some within = (
  by (get f.streams q) refl within,
  λ w there.
      let held = was f q (sending_by (λ w. less w n)) q w there in
      let parts = both f n held.0 (get f.streams q) held.1 within in
      subst (λ (x : Windows). pos 0 ≤ℤ x.sending.held) (sym (held.2 ∙ ap
      (λ b. if b then sending_by (λ w. less w n) held.0 else held.0) (eq-eqb q q refl)))
      (within_room held.0.sending n some parts.1),
)
  where
    by : (o : Option Windows) → get f.streams q ≡ o → n ≤ sendable_by f o → pos 0 ≤ℤ (less f.sending n).held
    by None is fits = absurd (omega arith)
    by (Some v) is fits = within_room f.sending n some (both f n v (Some v) refl fits).0
