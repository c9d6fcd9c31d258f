-- The entries that calls add.
use Rattle.std.proofs.Common.{◌≡◌, ℕ, ◌+◌, ◌<◌, ◌≤◌, Bool, true, false, ◌&&◌, ◌||◌, not, cond, if◌then◌else◌, List, [], ◌∷◌, ◌++◌, Option, Some, None, Result, Ok, Err, IfOk, refl, ap, sym, ◌∙◌, subst, arith, append_assoc}
use Rattle.std.specs.List.{All, list_all}
use Rattle.std.proofs.lemmas.List.{append-nil}
use Rattle.std.proofs.lemmas.List.Elements.{All-append, All-cons, All-nil}
use Rattle.std.proofs.lemmas.List.Folds.{list_all-append}
use Rattle.std.proofs.lemmas.List.Sums.{sum_by-append}
use Rattle.hb_base.specs.declared.cause.Cause.{Cause}
use Rattle.hb_world.specs.Calls.{with_entries, with_closed, with_shut}
use Rattle.hb_world.specs.Trace.{lives, was_shut}
use Rattle.hb_world.specs.declared.entry.Entry.{Entry}
use Rattle.hb_world.specs.declared.entry.Entry.TheVariants as e
use Rattle.hb_turns.specs.Ends.{ClosesFor, is_move, is_wait, moves, waits}
use Rattle.hb_turns.specs.Looks.{is_gain, gains, gained, gained_by}
use Rattle.hb_turns.specs.declared.round.Call.{Call}
use Rattle.hb_turns.specs.declared.round.Call.TheVariants as call
use Rattle.hb_turns.specs.Reckons.{is_plain, Adds, Closes, moved_by}

-- no entry was told
pub adds_nothing : (before behind : Option (List Entry)) → behind ≡ with_entries [] before → Adds false 0 before behind
adds_nothing before behind is = record { more = []; grows = is; plain = refl; moves_some = λ moved. absurd cc; few = omega arith }

pub none_more : (o : Option (List Entry)) → o ≡ with_entries [] o
none_more None = refl
none_more (Some trace) = ap (λ (es : List Entry). Some es) (sym (append-nil trace))

-- no call was made
pub adds_none : (o : Option (List Entry)) → Adds false 0 o o
adds_none o = adds_nothing o o (none_more o)

pub adds_less : (b : Bool) {n : ℕ} (before behind : Option (List Entry)) → Adds b n before behind → Adds false n before behind
adds_less b before behind a =
    record { more = a.more; grows = a.grows; plain = a.plain; moves_some = λ moved. absurd cc; few = a.few }

pub adds_true : (b : Bool) {n : ℕ} (before behind : Option (List Entry)) → b ≡ true → Adds b n before behind → Adds true n before behind
adds_true b {n} before behind is a = subst (λ (x : Bool). Adds x n before behind) is a

-- fewer than so many
pub adds_within : {b : Bool} (n m : ℕ) (before behind : Option (List Entry)) → n ≤ m → Adds b n before behind → Adds b m before behind
adds_within n m before behind within a = record {
  more = a.more;
  grows = a.grows;
  plain = a.plain;
  moves_some = a.moves_some;
  few = (let least = a.few in omega (arith, least, within));
}

pub twice : (xs ys : List Entry) (before mid behind : Option (List Entry)) → mid ≡ with_entries xs before → behind ≡ with_entries ys mid
    → behind ≡ with_entries (xs ++ ys) before
twice xs ys None mid behind first second = second ∙ ap (λ (o : Option (List Entry)). with_entries ys o) first
twice xs ys (Some trace) mid behind first second =
    second ∙ ap (λ (o : Option (List Entry)). with_entries ys o) first
    ∙ ap (λ (es : List Entry). Some es) (append_assoc trace xs ys)

pub both : (a b : Bool) → a ≡ true → b ≡ true → (a && b) ≡ true
both true true one other = refl
both false b one other = absurd cc
both true false one other = absurd cc

pub moves-append : (xs ys : List Entry) → moves (xs ++ ys) ≡ moves xs + moves ys
moves-append xs ys = sum_by-append (λ (y : Entry). cond (is_move y) 1 0) xs ys

pub waits-append : (xs ys : List Entry) → waits (xs ++ ys) ≡ waits xs + waits ys
waits-append xs ys = sum_by-append (λ (y : Entry). cond (is_wait y) 1 0) xs ys

gains-append : (xs ys : List Entry) → gains (xs ++ ys) ≡ gains xs + gains ys
gains-append xs ys = sum_by-append (λ (y : Entry). cond (is_gain y) 1 0) xs ys

-- one call behind another
pub adds_both : (a b : Bool) {n m : ℕ} (before mid behind : Option (List Entry)) → Adds a n before mid → Adds b m mid behind
    → Adds (a || b) (n + m) before behind
adds_both a b before mid behind first second = record {
  more = first.more ++ second.more;
  grows = twice first.more second.more before mid behind first.grows second.grows;
  plain = list_all-append is_plain first.more second.more ∙ both _ _ first.plain second.plain;
  moves_some = λ moved. some a b moved first.moves_some second.moves_some;
  few = (let one = first.few in let other = second.few in rw (gains-append first.more second.more) (omega (arith, one, other)));
}
  where
    some : (a b : Bool) → (a || b) ≡ true → (a ≡ true → 0 < moves first.more) → (b ≡ true → 0 < moves second.more)
        → 0 < moves (first.more ++ second.more)
    some true b moved one other = let more = one refl in rw (moves-append first.more second.more) (omega (arith, more))
    some false true moved one other = let more = other refl in rw (moves-append first.more second.more) (omega (arith, more))
    some false false moved one other = absurd cc

-- said the other way round
pub adds_or : (a b : Bool) {n m : ℕ} (before mid behind : Option (List Entry)) → Adds a n before mid → Adds b m mid behind
    → Adds (b || a) (n + m) before behind
adds_or a b {n} {m} before mid behind first second =
    subst (λ (x : Bool). Adds x (n + m) before behind) (either a b) (adds_both a b before mid behind first second)
  where
    either : (a b : Bool) → (a || b) ≡ (b || a)
    either true true = refl
    either true false = refl
    either false true = refl
    either false false = refl

-- calls behind which nothing else moved, and nothing was read
pub adds_then : (a : Bool) {n : ℕ} (before mid behind : Option (List Entry)) → Adds a n before mid → Adds false 0 mid behind
    → Adds a n before behind
adds_then a {n} before mid behind first second =
    adds_within (n + 0) n before behind (omega arith)
    (subst (λ (b : Bool). Adds b (n + 0) before behind) (or-false a) (adds_both a false before mid behind first second))
  where
    or-false : (b : Bool) → (b || false) ≡ b
    or-false true = refl
    or-false false = refl

-- where memory lacked
pub adds_err : {E : Type 0} (r : Result Bool E) (a : Bool) {n : ℕ} (before behind : Option (List Entry)) → IfOk r (λ moved. ⊥)
    → Adds a n before behind
    → Adds (moved_by r) n before behind
adds_err (Ok moved) a before behind none had = absurd none
adds_err (Err why) a before behind none had = adds_less a before behind had

-- a try gives no more than one
pub gained_few : {E : Type 0} (r : Result Bool E) → gained r ≤ 1
gained_few (Ok true) = omega arith
gained_few (Ok false) = omega arith
gained_few (Err why) = omega arith

-- what was counted of a call may be counted of its error
gained_more : {E F : Type 0} (call : Call) (r : Result Bool E) (s : Result Bool F) → IfOk s (λ moved. ⊥) → gained_by call r ≤ gained_by call s
gained_more (call.Accept door) r (Err why) none = gained_few r
gained_more (call.Read l) r (Err why) none = gained_few r
gained_more (call.Finish l) r (Err why) none = omega arith
gained_more (call.Write l) r (Err why) none = omega arith
gained_more (call.Look l) r (Err why) none = omega arith
gained_more call r (Ok moved) none = absurd none

-- a call that moved something
pub adds_moved : (E : Type 0) (it : Call) (b : Bool) (before behind : Option (List Entry)) → b ≡ true
    → Adds b (gained_by {E = E} it (Ok b)) before behind → Adds true (gained_by {E = E} it (Ok true)) before behind
adds_moved E it b before behind is had = subst (λ (x : Bool). Adds x (gained_by {E = E} it (Ok x)) before behind) is had

-- a call in which memory lacked, or behind which it did
pub adds_lacked : {E F : Type 0} (call : Call) (r : Result Bool E) (s : Result Bool F) (a : Bool) (before behind : Option (List Entry))
    → IfOk s (λ moved. ⊥) → Adds a (gained_by call r) before behind → Adds (moved_by s) (gained_by call s) before behind
adds_lacked call r s a before behind none had = adds_within _ _ before behind (gained_more call r s none) (adds_err s a before behind none had)

-- it isn't said whether anything moved
pub adds_false : {x : Bool} {n : ℕ} (z : Bool) (m : ℕ) (before behind : Option (List Entry)) → z ≡ false → n ≤ m → Adds x n before behind
    → Adds z m before behind
adds_false {x = x} {n = n} z m before behind is within had =
    subst (λ (b : Bool). Adds b m before behind) (sym is) (adds_less x before behind (adds_within n m before behind within had))

-- a link is closed
pub adds_close : (l : ℕ) (cause : Cause) (before behind : Option (List Entry)) → behind ≡ with_closed l cause before
    → Adds false 0 before behind
adds_close l cause before behind is =
    by before is
  where
    one : (b : Bool) → list_all is_plain (if b then e.Closed l cause ∷ [] else []) ≡ true
    one true = refl
    one false = refl

    none : (b : Bool) → gains (if b then e.Closed l cause ∷ [] else []) ≤ 0
    none true = omega arith
    none false = omega arith

    by : (o : Option (List Entry)) → behind ≡ with_closed l cause o → Adds false 0 o behind
    by None is = record { more = []; grows = is; plain = refl; moves_some = λ moved. absurd cc; few = omega arith }
    by (Some trace) is =
        record {
          more = if lives l trace then e.Closed l cause ∷ [] else [];
          grows = is;
          plain = one (lives l trace);
          moves_some = λ moved. absurd cc;
          few = none (lives l trace);
        }

-- a link is shut
pub adds_shut : (l : ℕ) (before behind : Option (List Entry)) → behind ≡ with_shut l before → Adds false 0 before behind
adds_shut l before behind is =
    by before is
  where
    one : (b : Bool) → list_all is_plain (if b then e.Shut l ∷ [] else []) ≡ true
    one true = refl
    one false = refl

    none : (b : Bool) → gains (if b then e.Shut l ∷ [] else []) ≤ 0
    none true = omega arith
    none false = omega arith

    by : (o : Option (List Entry)) → behind ≡ with_shut l o → Adds false 0 o behind
    by None is = record { more = []; grows = is; plain = refl; moves_some = λ moved. absurd cc; few = omega arith }
    by (Some trace) is = record {
      more = if lives l trace && not (was_shut l trace) then e.Shut l ∷ [] else [];
      grows = is;
      plain = one (lives l trace && not (was_shut l trace));
      moves_some = λ moved. absurd cc;
      few = none (lives l trace && not (was_shut l trace));
    }

-- no link was closed
pub closes_none : (cause : Cause) (o : Option (List Entry)) → Closes cause o o
closes_none cause o = record { more = []; grows = none_more o; closes = All-nil (ClosesFor cause) }

pub closes_both : (cause : Cause) (before mid behind : Option (List Entry)) → Closes cause before mid → Closes cause mid behind
    → Closes cause before behind
closes_both cause before mid behind first second = record {
  more = first.more ++ second.more;
  grows = twice first.more second.more before mid behind first.grows second.grows;
  closes = All-append (ClosesFor cause) first.more second.more first.closes second.closes;
}

-- one was
pub closes_one : (l : ℕ) (cause why : Cause) (before behind : Option (List Entry)) → behind ≡ with_closed l why before → why ≡ cause
    → Closes cause before behind
closes_one l cause why before behind is same =
    by before is
  where
    one : (b : Bool) → All (ClosesFor cause) (if b then e.Closed l why ∷ [] else [])
    one true = All-cons (ClosesFor cause) (e.Closed l why) [] same (All-nil (ClosesFor cause))
    one false = All-nil (ClosesFor cause)

    by : (o : Option (List Entry)) → behind ≡ with_closed l why o → Closes cause o behind
    by None is = record { more = []; grows = is; closes = All-nil (ClosesFor cause) }
    by (Some trace) is = record { more = if lives l trace then e.Closed l why ∷ [] else []; grows = is; closes = one (lives l trace) }
