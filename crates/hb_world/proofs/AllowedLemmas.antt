-- Entries that a script allows behind those that it allows.
use Rattle.std.proofs.Common.{◌≡◌, ◌⊎◌, ◌<◌, ℕ, true, false, eqb, List, [], ◌∷◌, ◌++◌, length, take, refl, ap, ◌∙◌, sym, subst, inl, inr, arith}
use Rattle.std.proofs.lemmas.Bool.{cond-true, cond-false, eq-eqb, ne_eqb}
use Rattle.std.proofs.lemmas.List.{append_assoc}
use Rattle.hb_world.specs.declared.entry.Entry.{Entry}
use Rattle.hb_world.specs.declared.entry.Entry.TheVariants as e
use Rattle.hb_world.specs.declared.entry.ReadyItem.{ReadyItem}
use Rattle.hb_world.specs.declared.entry.Woken.TheVariants as woken
use Rattle.hb_world.specs.declared.line.Line.{Line}
use Rattle.hb_world.specs.declared.turn.Ending.{Ending}
use Rattle.hb_world.specs.declared.turn.Ending.TheVariants as ending
use Rattle.hb_world.specs.declared.world.Read.TheVariants as reads
use Rattle.hb_world.specs.declared.world.Wrote.TheVariants as wrote
use Rattle.hb_world.specs.Allowed.{Allowed, IsAnswer}
use Rattle.hb_world.specs.Calls.{wait_entries}
use Rattle.hb_world.specs.LinkState.{front_of}
use Rattle.hb_world.specs.Script.{standing, turn_of, turn_ends, ready_in}
use Rattle.hb_world.specs.ScriptAnswers.{read_answer, write_answer, wait_answer, waited_for, told_by_wait}
use Rattle.hb_world.proofs.TraceLemmas.{AtEach-grows}

-- an answer other than want of memory is the stated one
pub stated : {A : Type 0} (none r a : A) → (r ≡ none) ⊎ (r ≡ a) → (r ≡ none → ⊥) → a ≡ r
stated none r a (inl is) other = absurd (other is)
stated none r a (inr is) other = sym is

pub allowed-one : (lines : List Line) (trace : List Entry) (x : Entry) → Allowed lines trace → IsAnswer lines trace x → Allowed lines
    (trace ++ x ∷ [])
allowed-one lines trace x all is = AtEach-grows (IsAnswer lines) trace x all is

-- a read that gives the first bytes of a piece
pub allowed-piece : (lines : List Line) (trace : List Entry) (link room n : ℕ) (bytes : List ℕ) → length bytes ≡ n
    → read_answer lines trace link room ≡ reads.Got n → bytes ≡ take n (front_of ((standing lines trace).links link).unread)
    → Allowed lines trace → Allowed lines (trace ++ e.Came link bytes ∷ [])
allowed-piece lines trace link room n bytes long said front all =
    allowed-one lines trace (e.Came link bytes) all (
      room,
      said ∙ ap (λ (m : ℕ). reads.Got m) (sym long),
      front ∙ ap (λ (m : ℕ). take m (front_of ((standing lines trace).links link).unread)) (sym long),
    )

-- a write that takes the first bytes
pub allowed-bytes : (lines : List Line) (trace : List Entry) (link offered n : ℕ) (bytes : List ℕ) → length bytes ≡ n
    → write_answer lines trace link offered ≡ wrote.Took n
    → Allowed lines trace → Allowed lines (trace ++ e.Went link bytes ∷ [])
allowed-bytes lines trace link offered n bytes long said all =
    allowed-one lines trace (e.Went link bytes) all (offered, said ∙ ap (λ (m : ℕ). wrote.Took m) (sym long))

-- a wait that tells more of what is left
pub allowed-rest : (lines : List Line) (trace : List Entry) (ready : List ReadyItem) → 0 < length (standing lines trace).rest
    → ready ≡ take 1024 (standing lines trace).rest
    → Allowed lines trace → Allowed lines (trace ++ e.Wait ready woken.Woke ∷ [])
allowed-rest lines trace ready some told all =
    let s = standing lines trace in
    let is : eqb (length s.rest) 0 ≡ false = ne_eqb (length s.rest) 0 (λ n. omega (arith, n, some)) in
    allowed-one lines trace (e.Wait ready woken.Woke) all (
      cond-false _ _ _ is,
      told ∙ sym (ap (λ (xs : List ReadyItem). take 1024 xs) (cond-false _ _ _ is)),
    )

-- a Tick stands behind a wait that ends so
behind : (lines : List Line) (trace : List Entry) (ready : List ReadyItem)
    → Allowed lines (trace ++ e.Wait ready woken.Tick ∷ []) → Allowed lines (trace ++ e.Wait ready woken.Tick ∷ e.Tick ∷ [])
behind lines trace ready all =
    subst (λ (t : List Entry). Allowed lines t) (append_assoc trace (e.Wait ready woken.Tick ∷ []) (e.Tick ∷ []))
    (allowed-one lines (trace ++ e.Wait ready woken.Tick ∷ []) e.Tick all (trace, ready, refl))

-- a wait that answers so
answered : (lines : List Line) (trace : List Entry) (ready : List ReadyItem) (w : Ending) → wait_answer lines trace ≡ waited_for w
    → ready ≡ told_by_wait lines trace → Allowed lines trace → Allowed lines (trace ++ wait_entries ready (waited_for w))
answered lines trace ready ending.Woke is told all = allowed-one lines trace (e.Wait ready woken.Woke) all (is, told)
answered lines trace ready ending.Stop is told all = allowed-one lines trace (e.Wait ready woken.Stop) all (is, told)
answered lines trace ready ending.Failed is told all = allowed-one lines trace (e.Wait ready woken.Failed) all (is, told)
answered lines trace ready ending.Tick is told all =
    behind lines trace ready (allowed-one lines trace (e.Wait ready woken.Tick) all (is, told))

-- a wait that applies the lines of a turn
pub allowed-turn : (lines : List Line) (trace : List Entry) (ready : List ReadyItem) (w : Ending)
    → length (standing lines trace).rest ≡ 0 → w ≡ turn_ends (standing lines trace).coming
    → ready ≡ take 1024 (ready_in (turn_of (standing lines trace).coming) trace)
    → Allowed lines trace → Allowed lines (trace ++ wait_entries ready (waited_for w))
allowed-turn lines trace ready w none ends told all =
    let s = standing lines trace in
    let is : eqb (length s.rest) 0 ≡ true = eq-eqb (length s.rest) 0 none in
    answered lines trace ready w
    (cond-true _ _ _ is ∙ ap waited_for (sym ends))
    (told ∙ sym (ap (λ (xs : List ReadyItem). take 1024 xs) (cond-true _ _ _ is))) all

pub allowed-none : (lines : List Line) → Allowed lines []
allowed-none lines [] x after is = absurd (cc)
allowed-none lines (b ∷ before) x after is = absurd (cc)
