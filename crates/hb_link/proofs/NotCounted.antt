-- What no count of places lets, and what one does.
use Rattle.std.proofs.Common.{◌≡◌, ℕ, ◌+◌, ◌<◌, ◌≤◌, refl, arith}
use Rattle.std.proofs.lemmas.Bool.Decides.{nat_tests}
use Rattle.hb_link.specs.Refused.{FindsTaken, FindsLeft, MayFind, AnswersUncounted, WelcomesUncounted, AnswersAtBirth}
use Rattle.hb_link.proofs.Asked.{one_load}

pub finds_taken : FindsTaken
finds_taken a s answer load counts =
    let same = one_load a.link counts.0 1 counts.1 load in
    let is = counts.2 in
    let more : 2 ≤ 0 + counts.0 = grind (arith, nat_tests, is) in omega (arith, same, more)

pub finds_left : FindsLeft
finds_left a s answer load counts =
    let same = one_load a.link counts.0 1 counts.1 load in
    let is = counts.2 in
    let less : 0 + counts.0 < 1 = grind (arith, nat_tests, is) in omega (arith, same, less)

pub may_find : MayFind
may_find a s answer load = (1, load, refl)

pub answers_uncounted : AnswersUncounted
answers_uncounted l a b s full answer parts is = is.1

pub welcomes_uncounted : WelcomesUncounted
welcomes_uncounted l a b parts is = is.1

pub answers_at_birth : AnswersAtBirth
answers_at_birth l a b s full answer parts is = is.1
