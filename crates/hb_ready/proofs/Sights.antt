-- What a trace tells of links and doors, once one more entry stands at its end.
use Rattle.std.proofs.Common.{◌≡◌, ◌<◌, ℕ, ◌+◌, ◌==◌, ◌||◌, ◌&&◌, not, Bool, true, false, if◌then◌else◌, List, [], ◌∷◌, ◌++◌, Some, None, refl, ap, ◌∙◌, subst, arith}
use Rattle.std.specs.Option.{option_map}
use Rattle.std.proofs.lemmas.Bool.{eqb-true}
use Rattle.std.proofs.lemmas.List.Sums.{fold-append}
use Rattle.hb_base.specs.declared.cause.Cause.{Cause}
use Rattle.hb_base.specs.declared.door.Door.{Door}
use Rattle.hb_world.specs.declared.entry.Entry.{Entry}
use Rattle.hb_world.specs.declared.entry.Entry.TheVariants as e
use Rattle.hb_world.specs.Trace.{births, lives, is_birth, is_birth_of, is_close_of, was_born, was_closed}
use Rattle.hb_world.proofs.TraceLemmas.{lives-grows, births-grow, was_born-grows, was_closed-grows}
use Rattle.hb_ready.specs.declared.link.Link.{Link}
use Rattle.hb_ready.specs.Kept.{link_behind}
use Rattle.hb_ready.specs.Numbers.{IsUnborn, Numbered, Numbers}
use Rattle.hb_ready.specs.Sight.{sight, sight_behind, known, asked, asked_behind, fresh}

pub sight-grows : (l : ℕ) (trace : List Entry) (x : Entry) → sight l (trace ++ x ∷ []) ≡ sight_behind l (sight l trace) x
sight-grows l trace x = fold-append (sight_behind l) (fresh false) trace (x ∷ [])

pub asked-grows : (d : Door) (trace : List Entry) (x : Entry) → asked d (trace ++ x ∷ []) ≡ asked_behind d (asked d trace) x
asked-grows d trace x = fold-append (asked_behind d) false trace (x ∷ [])

or-false : (b : Bool) → (b || false) ≡ b
or-false true = refl
or-false false = refl

-- an entry that is no birth and closes nothing leaves who lives
plain_lives : (l : ℕ) (trace : List Entry) (x : Entry) → is_birth_of l x ≡ false → is_close_of l x ≡ false
    → lives l (trace ++ x ∷ []) ≡ lives l trace
plain_lives l trace x born closed =
    lives-grows l trace x
    ∙ ap (λ (b : Bool). (was_born l trace || b) && not (was_closed l trace || is_close_of l x)) born
    ∙ ap (λ (b : Bool). (was_born l trace || false) && not (was_closed l trace || b)) closed
    ∙ ap (λ (b : Bool). b && not (was_closed l trace || false)) (or-false (was_born l trace))
    ∙ ap (λ (b : Bool). was_born l trace && not b) (or-false (was_closed l trace))

some_if : (b : Bool) (f : Link → Link) (k : Link) → (if b then Some (f k) else None) ≡ option_map f (if b then Some k else None)
some_if true f k = refl
some_if false f k = refl

plain : (l : ℕ) (trace : List Entry) (x : Entry) → is_birth_of l x ≡ false → is_close_of l x ≡ false
    → known l (trace ++ x ∷ []) ≡ option_map (λ (k : Link). sight_behind l k x) (known l trace)
plain l trace x born closed =
    ap (λ (b : Bool). if b then Some (sight l (trace ++ x ∷ [])) else None) (plain_lives l trace x born closed)
    ∙ ap (λ (k : Link). if lives l trace then Some k else None) (sight-grows l trace x)
    ∙ some_if (lives l trace) (λ (k : Link). sight_behind l k x) (sight l trace)

-- a birth, of a link that wasn't born
birth : (l n : ℕ) (trace : List Entry) (x : Entry) (opens : Bool) → is_birth_of l x ≡ (n == l) → is_close_of l x ≡ false
    → sight_behind l (sight l trace) x ≡ (if n == l then fresh opens else sight l trace)
    → (n ≡ l → was_closed l trace ≡ false)
    → known l (trace ++ x ∷ []) ≡ (if n == l then Some (fresh opens) else known l trace)
birth l n trace x opens born closed sees unborn = by (n == l) refl
  where
    by : (b : Bool) → (n == l) ≡ b → known l (trace ++ x ∷ []) ≡ (if b then Some (fresh opens) else known l trace)
    by true same =
        ap (λ (b : Bool). if b then Some (sight l (trace ++ x ∷ [])) else None)
        (lives-grows l trace x
        ∙ ap (λ (b : Bool). (was_born l trace || b) && not (was_closed l trace || is_close_of l x)) (born ∙ same)
        ∙ ap (λ (b : Bool). (was_born l trace || true) && not (was_closed l trace || b)) closed
        ∙ ap (λ (b : Bool). (was_born l trace || true) && not (b || false)) (unborn (eqb-true n l same))
        ∙ alive (was_born l trace))
        ∙ ap (λ (k : Link). Some k) (sight-grows l trace x ∙ sees
        ∙ ap (λ (b : Bool). if b then fresh opens else sight l trace) same)
      where
        alive : (b : Bool) → ((b || true) && not (false || false)) ≡ true
        alive true = refl
        alive false = refl
    by false other =
        ap (λ (b : Bool). if b then Some (sight l (trace ++ x ∷ [])) else None) (plain_lives l trace x (born ∙ other) closed)
        ∙ ap (λ (k : Link). if lives l trace then Some k else None) (sight-grows l trace x ∙ sees
        ∙ ap (λ (b : Bool). if b then fresh opens else sight l trace) other)

closing : (l n : ℕ) (trace : List Entry) (cause : Cause)
    → known l (trace ++ e.Closed n cause ∷ []) ≡ (if n == l then None else known l trace)
closing l n trace cause = by (n == l) refl
  where
    by : (b : Bool) → (n == l) ≡ b → known l (trace ++ e.Closed n cause ∷ []) ≡ (if b then None else known l trace)
    by true same =
        ap (λ (b : Bool). if b then Some (sight l (trace ++ e.Closed n cause ∷ [])) else None)
        (lives-grows l trace (e.Closed n cause)
        ∙ ap (λ (b : Bool). (was_born l trace || false) && not (was_closed l trace || b)) same
        ∙ dead (was_born l trace || false) (was_closed l trace))
      where
        dead : (a b : Bool) → (a && not (b || true)) ≡ false
        dead true true = refl
        dead true false = refl
        dead false b = refl
    by false other =
        ap (λ (b : Bool). if b then Some (sight l (trace ++ e.Closed n cause ∷ [])) else None)
        (plain_lives l trace (e.Closed n cause) refl other)
        ∙ ap (λ (k : Link). if lives l trace then Some k else None) (sight-grows l trace (e.Closed n cause))

next_unborn : (trace : List Entry) (n l : ℕ) → Numbered trace → n ≡ births trace + 1 → n ≡ l → was_closed l trace ≡ false
next_unborn trace n l numbered next same = (numbered l (omega arith)).1

-- what is known of a link, behind one more entry
pub known-grows : (l : ℕ) (trace : List Entry) (x : Entry) → Numbered trace → Numbers trace x
    → known l (trace ++ x ∷ []) ≡ link_behind l (known l trace) x
known-grows l trace (e.Accepted n door) numbered next =
    birth l n trace (e.Accepted n door) true refl refl refl (next_unborn trace n l numbered next)
known-grows l trace (e.Dialled n to why) numbered next =
    birth l n trace (e.Dialled n to why) false refl refl refl (next_unborn trace n l numbered next)
known-grows l trace (e.Closed n cause) numbered next = closing l n trace cause
known-grows l trace (e.DialFailed to why) numbered next = plain l trace _ refl refl
known-grows l trace (e.Opened n) numbered next = plain l trace _ refl refl
known-grows l trace (e.Came n bytes) numbered next = plain l trace _ refl refl
known-grows l trace (e.Ended n) numbered next = plain l trace _ refl refl
known-grows l trace (e.Broke n) numbered next = plain l trace _ refl refl
known-grows l trace (e.Went n bytes) numbered next = plain l trace _ refl refl
known-grows l trace (e.Balked w) numbered next = plain l trace _ refl refl
known-grows l trace (e.Shut n) numbered next = plain l trace _ refl refl
known-grows l trace e.Tick numbered next = plain l trace _ refl refl
known-grows l trace (e.Wait ready how) numbered next = plain l trace _ refl refl

-- a link that isn't born yet stays so, unless this entry is its birth
off : (b c : Bool) → b ≡ false → c ≡ false → (b || c) ≡ false
off true c is other = absurd cc
off false c is other = other

stays : (trace : List Entry) (x : Entry) (l : ℕ) → IsUnborn trace l → is_birth_of l x ≡ false → is_close_of l x ≡ false
    → IsUnborn (trace ++ x ∷ []) l
stays trace x l unborn born closed = (
  was_born-grows l trace x ∙ off _ _ unborn.0 born,
  was_closed-grows l trace x ∙ off _ _ unborn.1 closed,
)

more_births : (trace : List Entry) (x : Entry) (l : ℕ) → births (trace ++ x ∷ []) < l → births trace + (if is_birth x then 1 else 0) < l
more_births trace x l above = subst (λ (n : ℕ). n < l) (births-grow trace x) above

apart : (n l : ℕ) (b : Bool) → (n == l) ≡ b → n < l → b ≡ false
apart n l true same less = absurd (let is = eqb-true n l same in omega arith)
apart n l false same less = refl

alive_born : (n l : ℕ) (trace : List Entry) (b : Bool) → (n == l) ≡ b → lives n trace ≡ true → was_born l trace ≡ false → b ≡ false
alive_born n l trace false same alive unborn = refl
alive_born n l trace true same alive unborn =
    absurd (let is = eqb-true n l same in
    let dead : lives l trace ≡ false = ap (λ (b : Bool). b && not (was_closed l trace)) unborn in
    let living : lives l trace ≡ true = subst (λ (k : ℕ). lives k trace ≡ true) is alive in
    cc)

pub numbered-grows : (trace : List Entry) (x : Entry) → Numbered trace → Numbers trace x → Numbered (trace ++ x ∷ [])
numbered-grows trace (e.Accepted n door) numbered next l above =
    let more = more_births trace (e.Accepted n door) l above in
    stays trace _ l (numbered l (omega arith)) (apart n l (n == l) refl (omega arith)) refl
numbered-grows trace (e.Dialled n to why) numbered next l above =
    let more = more_births trace (e.Dialled n to why) l above in
    stays trace _ l (numbered l (omega arith)) (apart n l (n == l) refl (omega arith)) refl
numbered-grows trace (e.Closed n cause) numbered next l above =
    let more = more_births trace (e.Closed n cause) l above in
    let unborn = numbered l (omega arith) in
    stays trace _ l unborn refl (alive_born n l trace (n == l) refl next unborn.0)
numbered-grows trace (e.DialFailed to why) numbered next l above =
    stays trace _ l (numbered l (let more = more_births trace _ l above in omega arith)) refl refl
numbered-grows trace (e.Opened n) numbered next l above =
    stays trace _ l (numbered l (let more = more_births trace _ l above in omega arith)) refl refl
numbered-grows trace (e.Came n bytes) numbered next l above =
    stays trace _ l (numbered l (let more = more_births trace _ l above in omega arith)) refl refl
numbered-grows trace (e.Ended n) numbered next l above =
    stays trace _ l (numbered l (let more = more_births trace _ l above in omega arith)) refl refl
numbered-grows trace (e.Broke n) numbered next l above =
    stays trace _ l (numbered l (let more = more_births trace _ l above in omega arith)) refl refl
numbered-grows trace (e.Went n bytes) numbered next l above =
    stays trace _ l (numbered l (let more = more_births trace _ l above in omega arith)) refl refl
numbered-grows trace (e.Balked w) numbered next l above =
    stays trace _ l (numbered l (let more = more_births trace _ l above in omega arith)) refl refl
numbered-grows trace (e.Shut n) numbered next l above =
    stays trace _ l (numbered l (let more = more_births trace _ l above in omega arith)) refl refl
numbered-grows trace e.Tick numbered next l above =
    stays trace _ l (numbered l (let more = more_births trace _ l above in omega arith)) refl refl
numbered-grows trace (e.Wait ready how) numbered next l above =
    stays trace _ l (numbered l (let more = more_births trace _ l above in omega arith)) refl refl
