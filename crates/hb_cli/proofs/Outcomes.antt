-- The outcome of what is asked by an input, from what was read of it.
use Rattle.std.proofs.Common.{◌≡◌, ℕ, ◌<◌, ◌≤◌, true, false, List, [], length, Some, Result, Ok, Err, refl, sym, ap, ◌∙◌, inl, inr, arith}
use Rattle.std.specs.Prelude.{IfSome, nat_lt}
use Rattle.std.specs.Io.KnownBytes.{Consumes}
use Rattle.std.proofs.lemmas.Bool.Decides.{nat_tests}
use Rattle.std.proofs.lemmas.Option.{IfSome_then}
use Rattle.hb_cli.specs.Replaying.{Done}
use Rattle.hb_words.specs.Command.{Command}
use Rattle.hb_cli.specs.declared.input.Refused.{Refused as Refusal}
use Rattle.hb_cli.specs.declared.stop.Stop.TheVariants.{TooLong}
use Rattle.hb_cli.specs.Input.{longest_input}
use Rattle.hb_cli.specs.Run.{or_refused, printed_by, answer_after}
use Rattle.hb_cli.specs.Looking.{LooksAt}
use Rattle.hb_cli.specs.Use.{Use, NoFault}

answer_is : (c : Command) (done : Done) (input : List ℕ) (r : Result (List ℕ) Refusal) → length input ≤ longest_input
    → printed_by c done input ≡ r
    → answer_after c done input ≡ or_refused r
unfolding answer_after
answer_is c done input r within a = rw (fits (length input) within, a) refl where
  fits : (n : ℕ) → n ≤ longest_input → nat_lt longest_input n ≡ false
  fits n le = grind (arith, nat_tests)

too_long_is : (c : Command) (done : Done) (input : List ℕ) → longest_input < length input → answer_after c done input ≡ Err TooLong
unfolding answer_after
too_long_is c done input over = rw (passes (length input) over) refl where
  passes : (n : ℕ) → longest_input < n → nat_lt longest_input n ≡ true
  passes n lt = grind (arith, nat_tests)

-- the whole input was read and answered
pub was_whole : (c : Command) (done : Done) (u : Use) (input : List ℕ) (r : Result (List ℕ) Refusal)
    → IfSome u.bytes (λ left. input ≡ left)
    → IfSome u.bytes (λ _. u.bytes_after ≡ Some []) → NoFault u → length input ≤ longest_input → printed_by c done input ≡ r
    → LooksAt (Ok c) done u (or_refused r)
was_whole c done u input r same end good within a =
    let is = answer_is c done input r within a in
    (refl, IfSome_then u.bytes same (λ left eq. ap (answer_after c done) (sym eq) ∙ is), (input, is), inl end, good)

-- the input was read past its limit
pub was_too_long : (c : Command) (done : Done) (u : Use) → IfSome u.bytes (λ left. longest_input < length left)
    → (read : List ℕ) × (longest_input < length read) × Consumes u.bytes u.bytes_after read → NoFault u
    → LooksAt (Ok c) done u (Err TooLong)
was_too_long c done u over read good =
    (refl, IfSome_then u.bytes over (λ left lt. too_long_is c done left lt), (read.0, too_long_is c done read.0 read.1), inr read, good)
