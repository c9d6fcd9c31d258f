-- A block that comes in fragments, and what each of them is answered.
use Rattle.std.proofs.Common.{◌≡◌, ℕ, ◌+◌, ◌≤◌, ◌<◌, Bool, true, false, cond, List, [], ◌∷◌, ◌++◌, length, Some, None, Ok, Err, refl, sym, ap, subst, ◌∙◌, arith, length-append}
use Rattle.std.specs.Prelude.{nat_lt}
use Rattle.std.specs.List.{concat}
use Rattle.std.proofs.lemmas.List.{append_assoc, append-nil}
use Rattle.std.proofs.lemmas.Bool.Decides.{nat_tests}
use Rattle.hb_base.specs.declared.or.Or.TheVariants.{Fault, NoMemory}
use Rattle.hb_blocks.specs.declared.fault.BlockFault.TheVariants.{TooLong, Compression}
use Rattle.hb_blocks.specs.declared.whole.Opening.{Opening}
use Rattle.hb_blocks.specs.Assembly.{Assembly, no_headers, too_long, waits, complete, longest_block, joined, continued}
use Rattle.hb_blocks.specs.Outcome.{Makes}
use Rattle.hb_blocks.specs.Laws.{Answer, AllWait, AllIsHeld, CutsChangeNothing, LengthIsToldAtOnce, LongFrontsChangeNothing}

-- the block so far, from one state to another
abbrev pub held : Assembly → Opening → List ℕ → Assembly
held s opening block = record s { opening = Some opening; block = block; headers = no_headers }

-- a fragment that is answered nothing
waits_by : (long : Bool) (s next : Assembly) (opening : Opening) (block : List ℕ)
    → Makes (cond long too_long (waits opening block)) s next (Ok None) → (long ≡ false) × (next ≡ held s opening block)
waits_by true s next opening block m = absurd m
waits_by false s next opening block m = (refl, m)

within : (a b : List ℕ) → nat_lt longest_block (length a + length b) ≡ false → length (a ++ b) ≤ longest_block
within a b e = rw (length-append a b) (grind (arith, nat_tests, e))

all_wait : (s last : Assembly) (opening : Opening) (block first : List ℕ) (more : List (List ℕ))
    → AllWait (joined opening block first) s more last
    → (last ≡ held s opening ((block ++ first) ++ concat more)) × (length ((block ++ first) ++ concat more) ≤ longest_block)
all_wait s last opening block first [] m =
    let w = waits_by (nat_lt longest_block (length block + length first)) s last opening (block ++ first) m in
    let same = sym (append-nil (block ++ first)) in
    (w.1 ∙ ap (held s opening) same, subst (λ (b : List ℕ). length b ≤ longest_block) same (within block first w.0))
all_wait s last opening block first (fragment ∷ more) m =
    let w = waits_by (nat_lt longest_block (length block + length first)) s m.0 opening (block ++ first) m.1 in
    let rest = subst (λ (n : Assembly). AllWait (continued n fragment) n more last) w.1 m.2 in
    let same = append_assoc (block ++ first) fragment (concat more) in
    let all = all_wait (held s opening (block ++ first)) last opening (block ++ first) fragment more rest in
    (all.0 ∙ ap (held s opening) same, subst (λ (b : List ℕ). length b ≤ longest_block) same all.1)

pub all_is_held : AllIsHeld
all_is_held s last stream end_stream first more m = all_wait s last (record { stream = stream; end_stream = end_stream }) [] first more m

-- a block that is whole is answered by the table, whatever else is held
same_table : (long : Bool) (s new : Assembly) (opening : Opening) (front block : List ℕ) (answer : Answer)
    → Makes (cond long too_long (complete opening block)) (held s opening front) new answer
    → Makes (cond long too_long (complete opening block)) s new answer
same_table true s new opening front block (Err (Fault TooLong)) m = m
same_table true s new opening front block (Err (Fault (Compression _))) m = absurd m
same_table true s new opening front block (Err NoMemory) m = absurd m
same_table true s new opening front block (Ok _) m = absurd m
same_table false s new opening front block (Ok None) m = absurd m
same_table false s new opening front block (Ok (Some whole)) m = m
same_table false s new opening front block (Err why) m = m

pub cuts_change_nothing : CutsChangeNothing
cuts_change_nothing s mid new stream end_stream first more last answer m calls =
    let opening : Opening = record { stream = stream; end_stream = end_stream } in
    let front = first ++ concat more in
    let all = all_is_held s mid stream end_stream first more m in
    let at_last = subst (λ (n : Assembly). Makes (continued n last true) n new answer) all.0 calls in
    let moved = same_table (nat_lt longest_block (length front + length last)) s new opening front (front ++ last) answer at_last in
    let sum : length front + length last ≡ 0 + length (front ++ last) = omega (arith, length-append front last) in
    subst (λ (n : ℕ). Makes (cond (nat_lt longest_block n) too_long (complete opening (front ++ last))) s new answer) sum moved

told_by : (long end_headers : Bool) (s new : Assembly) (opening : Opening) (block : List ℕ) (answer : Answer)
    → Makes (cond long too_long (cond end_headers (complete opening block) (waits opening block))) s new answer
    → (long ≡ true → answer ≡ Err (Fault TooLong)) × (answer ≡ Err (Fault TooLong) → long ≡ true)
told_by true end_headers s new opening block (Err (Fault TooLong)) m = (λ _. refl, λ _. refl)
told_by true end_headers s new opening block (Err (Fault (Compression _))) m = absurd m
told_by true end_headers s new opening block (Err NoMemory) m = absurd m
told_by true end_headers s new opening block (Ok _) m = absurd m
told_by false true s new opening block (Ok _) m = (λ e. cc, λ e. cc)
told_by false true s new opening block (Err NoMemory) m = (λ e. cc, λ e. cc)
told_by false true s new opening block (Err (Fault (Compression _))) m = (λ e. cc, λ e. cc)
told_by false true s new opening block (Err (Fault TooLong)) m = absurd m
told_by false false s new opening block (Ok _) m = (λ e. cc, λ e. cc)
told_by false false s new opening block (Err NoMemory) m = (λ e. cc, λ e. cc)
told_by false false s new opening block (Err (Fault _)) m = absurd m

beyond : (a b : List ℕ) → nat_lt longest_block (length a + length b) ≡ true → longest_block < length (a ++ b)
beyond a b e = rw (length-append a b) (grind (arith, nat_tests, e))

passes : (a b : List ℕ) → longest_block < length (a ++ b) → nat_lt longest_block (length a + length b) ≡ true
passes a b e = let sum = length-append a b in grind (arith, nat_tests, e, sum)

pub length_is_told_at_once : LengthIsToldAtOnce
length_is_told_at_once s new opening block fragment end_headers answer m =
    let told = told_by (nat_lt longest_block (length block + length fragment)) end_headers s new opening (block ++ fragment) answer m in
    (λ e. beyond block fragment (told.1 e), λ b. told.0 (passes block fragment b))

-- what is behind a front that is too long
passes_on : (front rest : List ℕ) → longest_block < length front → nat_lt longest_block (0 + length (front ++ rest)) ≡ true
passes_on front rest long = let sum = length-append front rest in grind (arith, nat_tests, long, sum)

pub long_fronts_change_nothing : LongFrontsChangeNothing
long_fronts_change_nothing s mid new stream end_stream first more fragment rest end_headers m calls =
    let opening : Opening = record { stream = stream; end_stream = end_stream } in
    let front = first ++ concat more in
    let all = all_is_held s mid stream end_stream first more m in
    let at_front = subst (λ (n : Assembly). Makes (continued n fragment end_headers) n new (Err (Fault TooLong))) all.0 calls in
    let told = length_is_told_at_once (held s opening front) new opening front fragment end_headers (Err (Fault TooLong)) at_front in
    let long : longest_block < length (front ++ fragment) = told.0 refl in
    subst (λ (b : Bool). Makes (cond b too_long (complete opening (front ++ fragment ++ rest))) s new (Err (Fault TooLong)))
    (sym (passes_on (front ++ fragment) rest long)) tt
