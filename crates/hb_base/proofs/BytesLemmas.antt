-- Bytes that move into a buffer, or on from it.
use Rattle.std.proofs.Common.{◌≡◌, ℕ, ◌+◌, ◌-◌, ◌<◌, ◌≤◌, List, ◌++◌, length, take, drop, Option, Some, None, IfSome, sym, ap, subst, arith, length-take, length-append, take-append-drop}
use Rattle.std.proofs.Math.Seq.{take-append_seam, take-add}
use Rattle.std.proofs.lemmas.List.{drop-drop}
use Rattle.std.proofs.lemmas.Grind.{common_steps}
use Rattle.std.proofs.KnownBytes.{Appends-trans}
use Rattle.std.specs.Io.KnownBytes.{Appends, Consumes}

-- the slice from a place on
pub rest_of : (at : ℕ) (xs : List ℕ) → take (length xs - at) (drop at xs) ≡ drop at xs
rest_of at xs = grind (arith, common_steps)

-- bytes from the front of what was left stand at the buffer's front, and what is left goes on behind them
pub front_and_rest : (bytes into written : List ℕ) (at n : ℕ) → n ≤ length (drop at bytes) → written ≡ take n (drop at bytes)
    → drop at bytes ≡ take n (written ++ drop n into) ++ drop (at + n) bytes
front_and_rest bytes into written at n fits is =
    let count : length written ≡ n = omega (arith, ap length is, length-take n (drop at bytes)) in
    let front : take n (written ++ drop n into) ≡ written =
    subst (λ (k : ℕ). take k (written ++ drop n into) ≡ written) count (take-append_seam written (drop n into)) in
    rw (front, is, ← drop-drop n at bytes) (sym (take-append-drop n (drop at bytes)))

-- one more part, from the place at which the last one ended
pub Appends-next : (a b c : Option (List ℕ)) (bytes : List ℕ) (at n : ℕ) → Appends a b (take at bytes)
    → Appends b c (take n (take (length bytes - at) (drop at bytes))) → Appends a c (take (at + n) bytes)
Appends-next a b c bytes at n before next =
    rw take-add (Appends-trans a b c (take at bytes) (take n (drop at bytes)) before (rw rest_of at next))

-- what began with more bytes than the limit had more
pub longer_than : (before after : Option (List ℕ)) (bytes : List ℕ) (limit : ℕ) → Consumes before after bytes → limit < length bytes
    → IfSome before (λ left. limit < length left)
longer_than None after bytes limit consumed long = tt
longer_than (Some xs) None bytes limit consumed long = absurd consumed
longer_than (Some xs) (Some ys) bytes limit consumed long = omega (arith, ap length consumed, length-append bytes ys)
