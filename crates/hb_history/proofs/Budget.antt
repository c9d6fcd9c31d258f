-- That a caller which takes no more than a third of the room never waits for room.
use Rattle.std.proofs.Common.{◌≡◌, ◌≢◌, ◌⊎◌, inl, inr, ⊎_elim, ℕ, zero, suc, ◌+◌, ◌-◌, ◌*◌, ◌<◌, ◌≤◌, Bool, true, false, cond, min, List, [], ◌∷◌, ◌++◌, length, take, drop, Option, Some, None, Result, Ok, Err, refl, ap, sym, ◌∙◌, subst, rules, arith, length-append, length-take, length-drop}
use Rattle.std.specs.Prelude.{◌==◌, ◌||◌, nat_lt, slice_range}
use Rattle.std.proofs.lemmas.List.{append-nil}
use Rattle.std.proofs.lemmas.Bool.{cases_lt}
use Rattle.std.proofs.lemmas.Bool.Decides.{nat_tests}
use Rattle.hb_frames.specs.RawFrame.{raw_at, size_at}
use Rattle.hb_frames.specs.Refusals.{first_refusal}
use Rattle.hb_frames.specs.Reading.{Reading, first_of, space_of, fed, asked, after_frame}
use Rattle.hb_frames.specs.declared.refusal.Refusal.{Refusal}
use Rattle.hb_frames.proofs.Runs.{first_some, tested_none}
use Rattle.hb_frames.proofs.Faults.{same_size}
use Rattle.hb_frames.specs.Numbers.{protocol_error}
use Rattle.hb_conn.specs.Glance.{glance_by, glance_of}
use Rattle.hb_conn.specs.Outcome.{Gives}
use Rattle.hb_conn.specs.Faults.{faulted}
use Rattle.hb_conn.specs.Preface.{Came, is_whole, taken_of}
use Rattle.hb_conn.specs.Receiving.{pauses, Ends, waits, lacks, tells}
use Rattle.hb_conn.specs.Connection.{Connection, FindsWhile, FindsOf, FindsAfter, FindsBy, count_of, front_of, taken}
use Rattle.hb_conn.specs.Observed.{room}
use Rattle.hb_conn.specs.declared.machine.Core.{Core}
use Rattle.hb_conn.specs.declared.receiver.Receiver.{Receiver}
use Rattle.hb_conn.specs.declared.found.Found.{Found}
use Rattle.hb_conn.specs.declared.found.Found.TheVariants.{Silent}
use Rattle.hb_conn.specs.declared.glance.Glance.TheVariants.{Nothing}
use Rattle.hb_streams.specs.declared.role.Role.{Role}
use Rattle.hb_streams.specs.declared.role.Role.TheVariants.{Server, Client}
use Rattle.hb_history.specs.History.{fresh}
use Rattle.hb_history.specs.Calls.{Call, takes, asks, acts, writes, MakesAll}
use Rattle.hb_history.specs.Budget.{HoldsNoFrame, most_by, most_of, goaway_of, Asked, FindsWithin, TakesWithin, AnswersAreFew, NeverPauses, WaitsForPreface, CallsWait, LooksAtAll}
use Rattle.hb_history.proofs.CatchUpSeen.{none_there}
use Rattle.hb_history.proofs.BudgetReceived.{finds_spend, asked_spend}

pub finds_within : FindsWithin
finds_within c d told caught finds = (finds_spend c d told finds caught).room

-- a frame of which a part was held ends behind it
pub spans : (max n : ℕ) (held more : List ℕ) → first_of max held ≡ Ok None → first_of max (held ++ more) ≡ Ok (Some n) → length held < n
spans max n held more none some =
    let t = first_some max n (held ++ more) some in
    ⊎_elim
    (λ (few : length held < 9). omega (arith, few, t.size))
    (λ (enough : 9 ≤ length held). ⊎_elim
    (λ (h : nat_lt (length held) 9 ≡ true). let few : length held < 9 = grind (arith, nat_tests, h) in omega (arith, few, t.size))
    (λ (h : nat_lt (length held) (9 + size_at held) ≡ true).
    let few : length held < 9 + size_at held = grind (arith, nat_tests, h) in omega (arith, few, t.size, same_size held more enough))
    (tested_none (nat_lt (length held) 9) (nat_lt max (size_at held)) (nat_lt (length held) (9 + size_at held))
    (first_refusal (raw_at held)) (9 + size_at held) none))
    (cases_lt (length held) 9)

behind_by : (max : ℕ) (held more : List ℕ) (found : Result (Option ℕ) Refusal) → first_of max held ≡ Ok None
    → first_of max (held ++ more) ≡ found
    → most_by (length (held ++ more)) found ≤ 3 * length more + 26
behind_by max held more (Ok None) none is = omega arith
behind_by max held more (Err refusal) none is = omega arith
behind_by max held more (Ok (Some n)) none is =
    omega (arith, length-append held more, spans max n held more none is)

-- what is taken behind frames that were looked at
fed_within : (r : Reading) (piece : List ℕ) → first_of r.max r.held ≡ Ok None → most_of (fed r piece) ≤ 3 * length piece + 26
fed_within r piece none =
    let more = take (min (length piece) (space_of r)) piece in
    let within = behind_by r.max r.held more (first_of r.max (r.held ++ more)) none refl in
    omega (arith, within, length-take (min (length piece) (space_of r)) piece)

pub range_len : (xs : List ℕ) (from to : ℕ) → length (slice_range xs from to) ≤ length xs
range_len xs from to = omega (arith, length-take (to - from) (drop from xs), length-drop from xs)

pub takes_within : TakesWithin
takes_within c piece none =
    let part = slice_range piece (front_of c piece) (count_of c piece) in
    let within = fed_within c.receiver.reader part (none_there c.receiver.reader none.0) in
    omega (arith, within, range_len piece (front_of c piece) (count_of c piece))

one_goaway : (c : Core) → goaway_of c ≤ 17
one_goaway c = by c.over
  where
    by : (b : Bool) → cond b 17 0 ≤ 17
    by true = omega arith
    by false = omega arith

pub answers_are_few : AnswersAreFew
answers_are_few c d piece told caught none asked =
    let spends = asked_spend told (taken c piece) d asked caught in
    omega (arith, spends.room, takes_within c piece none, one_goaway d.receiver.core)

-- in front of a whole preface no frame is held

kept_as : (c d : Connection) → d.preface ≡ c.preface → d.receiver.reader ≡ c.receiver.reader → WaitsForPreface c → WaitsForPreface d
kept_as c d preface reader kept = rw (preface, reader) kept

kept_whole : (c d : Connection) → is_whole c.preface ≡ true → d.preface ≡ c.preface → WaitsForPreface c → WaitsForPreface d
kept_whole c d whole preface kept =
    let now : is_whole d.preface ≡ true = ap is_whole preface ∙ whole in
    (rw preface kept.0, λ part. absurd (search (rules, now, part)))

kept_by : (same : Bool) (c d : Connection) (told : Found) → is_whole c.preface ≡ true → FindsBy same c d told → WaitsForPreface c
    → WaitsForPreface d
kept_by true c d told whole finds kept = kept_whole c d whole finds.1 kept
kept_by false c d told whole finds kept = kept_whole c d whole (ap (λ (k : Connection). k.preface) finds.1) kept

kept_after : (whole : Bool) (c d : Connection) (told : Found) → is_whole c.preface ≡ whole → FindsAfter whole c d told
    → WaitsForPreface c → WaitsForPreface d
kept_after true c d told is finds kept = kept_by c.preface.same c d told is finds kept
kept_after false c d told is finds kept = subst WaitsForPreface (sym finds.0) kept

kept_of : (ended : Option ℕ) (c d : Connection) (told : Found) → FindsOf ended c d told → WaitsForPreface c → WaitsForPreface d
kept_of (Some stream) c d told finds kept = subst WaitsForPreface (sym finds.0) kept
kept_of None c d told finds kept = kept_after (is_whole c.preface) c d told refl finds kept

pub kept_while : (paused : Bool) (c d : Connection) (told : Found) → FindsWhile paused c d told → WaitsForPreface c → WaitsForPreface d
kept_while true c d told finds kept = subst WaitsForPreface (sym finds.0) kept
kept_while false c d told finds kept = kept_of c.ended c d told finds kept

-- where nothing more is told no whole frame is held, or the connection pauses

abbrev Rests : Connection → Type 0
Rests d = (pauses d.receiver.core ≡ true) ⊎ (glance_of d.receiver.reader ≡ Nothing)

asked_nothing : (r : Reading) → glance_of r ≡ Nothing → glance_of (asked r) ≡ Nothing
asked_nothing r none = ap glance_of (ap (after_frame r) (none_there r none)) ∙ none

ends_rest : (last new : Receiver) → Ends last new Silent → (pauses new.core ≡ true) ⊎ (glance_of new.reader ≡ Nothing)
ends_rest last new (waits paused is silent) = inl (ap (λ (r : Receiver). pauses r.core) is ∙ paused)
ends_rest last new (lacks goes none is silent) = inr (ap (λ (r : Receiver). glance_of r.reader) is ∙ asked_nothing last.reader none)
ends_rest last new (tells steps loud) = absurd (search (rules, loud))

pub fault_is_told : (c new : Core) (code : ℕ) → Gives (faulted c code) new Silent → {A : Type 0} → A
unfolding faulted
fault_is_told c new code gives = absurd (cc)

rest_by : (same : Bool) (c d : Connection) → FindsBy same c d Silent → Rests d
rest_by true c d finds = ends_rest finds.0.last d.receiver finds.0.ends
rest_by false c d finds = fault_is_told c.receiver.core d.receiver.core protocol_error finds.0

rest_after : (whole : Bool) (c d : Connection) → is_whole c.preface ≡ whole → FindsAfter whole c d Silent → WaitsForPreface c → Rests d
rest_after true c d is finds kept = rest_by c.preface.same c d finds
rest_after false c d is finds kept = subst Rests (sym finds.0) (inr (kept.1 is))

rest_of : (ended : Option ℕ) (c d : Connection) → FindsOf ended c d Silent → WaitsForPreface c → Rests d
rest_of (Some stream) c d finds kept = absurd (cc)
rest_of None c d finds kept = rest_after (is_whole c.preface) c d refl finds kept

rest_while : (paused : Bool) (c d : Connection) → pauses c.receiver.core ≡ paused → FindsWhile paused c d Silent → WaitsForPreface c
    → Rests d
rest_while true c d is finds kept = subst Rests (sym finds.0) (inl is)
rest_while false c d is finds kept = rest_of c.ended c d finds kept

record IsThrough (d : Connection) : Type 0 where
  pub kept : WaitsForPreface d
  pub rests : Rests d

asked_through : (told : List Found) (c d : Connection) → Asked c told d → WaitsForPreface c → IsThrough d
asked_through [] c d asked kept = record {
  kept = kept_while (pauses c.receiver.core) c d Silent asked kept;
  rests = rest_while (pauses c.receiver.core) c d refl asked kept;
}
asked_through (first ∷ more) c d (loud, mid, finds, later) kept =
    asked_through more mid d later (kept_while (pauses c.receiver.core) c mid first finds kept)

-- of octets in front of a whole preface none is a frame's
no_frames : (p : Came) (piece : List ℕ) (n : ℕ) → p.came ≤ 24 → n ≤ length piece
    → ((p.came + taken_of p (take n piece)) == 24) ≡ false → slice_range piece (taken_of p (take n piece)) n ≡ []
no_frames p piece n came within part =
    let apart : p.came + taken_of p (take n piece) ≢ 24 = grind (arith, nat_tests, part) in
    let all : taken_of p (take n piece) ≡ n = omega (arith, length-take n piece, apart, came, within) in
    rw all (take_none (n - n) (drop n piece) (omega arith))
  where
    take_none : (k : ℕ) (xs : List ℕ) → k ≡ 0 → take k xs ≡ []
    take_none k xs is = rw is refl

take_empty : (n : ℕ) (xs : List ℕ) → xs ≡ [] → take n xs ≡ []
take_empty zero xs empty = refl
take_empty (suc n) xs empty = rw empty refl

fed_nothing : (r : Reading) (piece : List ℕ) → piece ≡ [] → first_of r.max r.held ≡ Ok None → glance_of (fed r piece) ≡ Nothing
fed_nothing r piece empty none =
    let held : (fed r piece).held ≡ r.held =
    ap (λ xs. r.held ++ xs) (take_empty (min (length piece) (space_of r)) piece empty) ∙ append-nil r.held in
    ap (glance_by (fed r piece)) (ap (first_of r.max) held ∙ none)

taken_kept : (c : Connection) (piece : List ℕ) → HoldsNoFrame c → WaitsForPreface (taken c piece)
taken_kept c piece none = (
  omega (arith, none.1),
  λ part.
      let p = c.preface in
      let n = count_of c piece in
      fed_nothing c.receiver.reader (slice_range piece (front_of c piece) n) (no_frames p piece n none.1 (omega arith) part)
      (none_there c.receiver.reader none.0),
)

-- no pause with room is a pause for a connection error
over_by : (over low : Bool) → low ≡ false → (over || low) ≡ true → over ≡ true
over_by true low high paused = refl
over_by false low high paused = absurd (search rules)

told_or_seen : (d : Connection) → 256 ≤ room d → d.preface.came ≤ 24 → Rests d → (d.receiver.core.over ≡ true) ⊎ HoldsNoFrame d
told_or_seen d enough came (inl paused) =
    let high : nat_lt (room d) 256 ≡ false = grind (arith, nat_tests, enough) in
    inl (over_by d.receiver.core.over (nat_lt (room d) 256) high paused)
told_or_seen d enough came (inr none) = inr (none, came)

pub never_pauses : NeverPauses
never_pauses c d piece told caught none fits asked =
    let few = answers_are_few c d piece told caught none asked in
    let enough : 256 ≤ room d = omega (arith, few, fits) in
    let through = asked_through told (taken c piece) d asked (taken_kept c piece none) in
    (enough, told_or_seen d enough through.kept.0 through.rests)

pub looks_at_all : LooksAtAll
looks_at_all c d ready finds enough =
    let kept = kept_while (pauses c.receiver.core) c d Silent finds ready in
    told_or_seen d enough kept.0 (rest_while (pauses c.receiver.core) c d refl finds ready)

-- every connection that came of calls

pub taken_waits : (c : Connection) (piece : List ℕ) (whole : Bool) → is_whole c.preface ≡ whole → WaitsForPreface c
    → WaitsForPreface (taken c piece)
taken_waits c piece false part kept = taken_kept c piece (kept.1 part, kept.0)
taken_waits c piece true whole kept =
    let all : c.preface.came ≡ 24 = grind (arith, nat_tests, whole) in
    let now : (taken c piece).preface.came ≡ 24 = omega (arith, all) in
    let test : is_whole (taken c piece).preface ≡ true = grind (arith, nat_tests, now) in
    (omega (arith, now), λ part. absurd (search (rules, test, part)))

calls_waits : (calls : List Call) (c d : Connection) (came written : List ℕ) → MakesAll c calls came written d → WaitsForPreface c
    → WaitsForPreface d
calls_waits [] c d came written makes ready = subst WaitsForPreface (sym makes.0) ready
calls_waits (takes piece ∷ calls) c d came written (mid, makes, later, came_is, behind, written_is, others) ready =
    calls_waits calls mid d later behind others
    (subst WaitsForPreface (sym makes.1) (taken_waits c piece (is_whole c.preface) refl ready))
calls_waits (asks told ∷ calls) c d came written (mid, makes, later, came_is, behind, written_is, others) ready =
    calls_waits calls mid d later behind others (kept_while (pauses c.receiver.core) c mid told makes ready)
calls_waits (acts move ∷ calls) c d came written (mid, makes, later, came_is, behind, written_is, others) ready =
    calls_waits calls mid d later behind others
    (kept_as c mid (ap (λ (k : Connection). k.preface) makes.2) (ap (λ (k : Connection). k.receiver.reader) makes.2) ready)
calls_waits (writes n ∷ calls) c d came written (mid, makes, later, came_is, behind, written_is, others) ready =
    calls_waits calls mid d later behind others
    (kept_as c mid (ap (λ (k : Connection). k.preface) makes.1) (ap (λ (k : Connection). k.receiver.reader) makes.1) ready)

pub fresh_waits : (role : Role) → WaitsForPreface (fresh role)
fresh_waits Server = (omega arith, λ part. refl)
fresh_waits Client = (omega arith, λ part. refl)

pub calls_wait : CallsWait
calls_wait role calls came written c makes = calls_waits calls (fresh role) c came written makes (fresh_waits role)
