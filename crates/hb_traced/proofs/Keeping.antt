-- What is kept of the calls stays so when one more is made.
use Rattle.std.proofs.Common.{◌≡◌, ℕ, ◌+◌, ◌<◌, ◌≤◌, Bool, true, false, IsTrue, not, ◌&&◌, ◌||◌, cond, eqb, nat_eq, List, [], ◌∷◌, ◌++◌, refl, ap, ap₂, ◌∙◌, sym, subst, arith, Option, Some, None, ⊎_elim, add-zero}
use Rattle.std.proofs.lemmas.Bool.{eq-eqb, ne_eqb, cases_eq}
use Rattle.std.proofs.lemmas.List.{append-nil}
use Rattle.std.proofs.lemmas.List.Folds.{list_any-append}
use Rattle.std.proofs.lemmas.List.Sums.{sum_by-append}
use Rattle.std.proofs.lemmas.Bool.{cases_lt}
use Rattle.std.specs.HashMap.{get, HashMap}
use Rattle.std.specs.Option.{is_some}
use Rattle.hb_base.specs.declared.cause.Cause.{Cause}
use Rattle.hb_world.specs.Calls.{close_entries}
use Rattle.hb_world.specs.LifeEntries.{is_plain}
use Rattle.hb_world.specs.Trace.{is_birth, is_birth_of, is_close_of, births, was_born, was_closed, lives}
use Rattle.hb_world.specs.declared.entry.Entry.{Entry}
use Rattle.hb_world.specs.declared.entry.Entry.TheVariants as v
use Rattle.hb_world.specs.declared.world.Listened.TheVariants as listened
use Rattle.hb_world.specs.declared.world.Born.TheVariants as born
use Rattle.hb_world.specs.declared.world.Finished.TheVariants as finished
use Rattle.hb_world.specs.declared.world.Read.TheVariants as reads
use Rattle.hb_world.specs.declared.world.Wrote.TheVariants as wrote
use Rattle.hb_world.specs.declared.world.Looked.TheVariants as looked
use Rattle.hb_world.specs.declared.world.Waited.TheVariants as waited
use Rattle.hb_world.specs.declared.world.Glanced.TheVariants as glanced
use Rattle.hb_world.proofs.LifeLemmas.{plain, or-false, or-true, and-false}
use Rattle.hb_world.proofs.TraceLemmas.{births-grow, was_born-grows, was_closed-grows}
use Rattle.hb_traced.specs.Call.{entries_of, birth_of, is_still}
use Rattle.hb_traced.specs.Known.{count_of, KeepsLiving, SameFaults, Unborn, Unclosed}
use Rattle.hb_traced.specs.declared.call.Call.{Call}
use Rattle.hb_traced.specs.declared.call.Call.TheVariants as call

-- what these entries do to links: so many births, these links are born, these are closed
pub record Does (es : List Entry) (many : ℕ) (bears closes : ℕ → Bool) : Type 0 where
  pub count : births es ≡ many
  pub born : (l : ℕ) → was_born l es ≡ bears l
  pub closed : (l : ℕ) → was_closed l es ≡ closes l

abbrev pub Still : List Entry → Type 0
Still es = Does es 0 (λ l. false) (λ l. false)

still-nothing : Still []
still-nothing = record { count = refl; born = λ l. refl; closed = λ l. refl }

still-plain : (e : Entry) → IsTrue (is_plain e) → Still (e ∷ [])
still-plain e is = let p = plain e is in record {
  count = births-grow [] e ∙ ap (λ (b : Bool). 0 + cond b 1 0) p.births;
  born = λ l. was_born-grows l [] e ∙ p.born l;
  closed = λ l. was_closed-grows l [] e ∙ p.closed l;
}

still-cond : (b : Bool) (es : List Entry) → Still es → Still (cond b es [])
still-cond true es s = s
still-cond false es s = still-nothing

-- a tick stands behind
still-ticked : (e : Entry) → IsTrue (is_plain e) → Still (e ∷ v.Tick ∷ [])
still-ticked (v.Accepted l door) is = absurd (cc)
still-ticked (v.Dialled l to why) is = absurd (cc)
still-ticked (v.DialFailed to why) is = record { count = refl; born = λ l. refl; closed = λ l. refl }
still-ticked (v.Opened k) is = record { count = refl; born = λ l. refl; closed = λ l. refl }
still-ticked (v.Came k bytes) is = record { count = refl; born = λ l. refl; closed = λ l. refl }
still-ticked (v.Ended k) is = record { count = refl; born = λ l. refl; closed = λ l. refl }
still-ticked (v.Broke k) is = record { count = refl; born = λ l. refl; closed = λ l. refl }
still-ticked (v.Went k bytes) is = record { count = refl; born = λ l. refl; closed = λ l. refl }
still-ticked (v.Balked way) is = record { count = refl; born = λ l. refl; closed = λ l. refl }
still-ticked (v.Shut k) is = absurd (cc)
still-ticked (v.Closed k cause) is = absurd (cc)
still-ticked v.Tick is = record { count = refl; born = λ l. refl; closed = λ l. refl }
still-ticked (v.Wait ready answer) is = record { count = refl; born = λ l. refl; closed = λ l. refl }

-- a call by which no link is born or closed
pub still-call : (c : Call) (past : List Entry) → IsTrue (is_still c) → Still (entries_of c past)
still-call (call.Listen at door listened.Listening) past is = still-plain _ refl
still-call (call.Listen at door listened.Failed) past is = still-plain _ refl
still-call (call.Listen at door listened.NoMemory) past is = still-nothing
still-call (call.Accept door (born.New link)) past is = absurd (cc)
still-call (call.Accept door born.Balked) past is = still-plain _ refl
still-call (call.Accept door born.Failed) past is = still-plain _ refl
still-call (call.Accept door born.NoMemory) past is = still-nothing
still-call (call.Dial to why (born.New link)) past is = absurd (cc)
still-call (call.Dial to why born.Balked) past is = still-nothing
still-call (call.Dial to why born.Failed) past is = still-plain _ refl
still-call (call.Dial to why born.NoMemory) past is = still-nothing
still-call (call.Finish link finished.Opened) past is = still-plain _ refl
still-call (call.Finish link finished.Balked) past is = still-plain _ refl
still-call (call.Finish link finished.Failed) past is = still-plain _ refl
still-call (call.Finish link finished.NoMemory) past is = still-nothing
still-call (call.Read link into (reads.Got n)) past is = still-plain _ refl
still-call (call.Read link into reads.End) past is = still-plain _ refl
still-call (call.Read link into reads.Balked) past is = still-plain _ refl
still-call (call.Read link into reads.Failed) past is = still-plain _ refl
still-call (call.Read link into reads.NoMemory) past is = still-nothing
still-call (call.Write link from (wrote.Took n)) past is = still-plain _ refl
still-call (call.Write link from wrote.Balked) past is = still-plain _ refl
still-call (call.Write link from wrote.Failed) past is = still-plain _ refl
still-call (call.Write link from wrote.NoMemory) past is = still-nothing
still-call (call.Look link looked.Fine) past is = still-plain _ refl
still-call (call.Look link looked.Failed) past is = still-plain _ refl
still-call (call.Look link looked.NoMemory) past is = still-nothing
still-call (call.Shut link) past is =
    still-cond _ (v.Shut link ∷ []) (record { count = refl; born = λ l. refl; closed = λ l. refl })
still-call (call.Close link cause) past is = absurd (cc)
still-call (call.Wait ready waited.Woke) past is = still-plain _ refl
still-call (call.Wait ready waited.Tick) past is = still-ticked _ refl
still-call (call.Wait ready waited.Stop) past is = still-plain _ refl
still-call (call.Wait ready waited.Failed) past is = still-plain _ refl
still-call (call.Wait ready waited.NoMemory) past is = still-nothing
still-call (call.Glance ready glanced.Woke) past is = still-plain _ refl
still-call (call.Glance ready glanced.Tick) past is = still-ticked _ refl
still-call (call.Glance ready glanced.Failed) past is = still-plain _ refl
still-call (call.Glance ready glanced.NoMemory) past is = still-nothing

-- a call by which a link is born
pub Bears : ℕ → List Entry → Type 0
Bears link es = Does es 1 (λ l. eqb link l) (λ l. false)

bears-number : {n link : ℕ} (es : List Entry) → Bears n es → Some n ≡ Some link → Bears link es
unfolding Bears
bears-number {n} {link} es b is = let e : n ≡ link = cc in subst (λ (k : ℕ). Does es 1 (λ l. eqb k l) (λ l. false)) e b

pub bears-call : (c : Call) (past : List Entry) (link : ℕ) → birth_of c ≡ Some link → Bears link (entries_of c past)
unfolding Bears
bears-call (call.Accept door (born.New n)) past link is =
    bears-number (v.Accepted n door ∷ []) (record { count = refl; born = λ l. or-false (eqb n l); closed = λ l. refl }) is
bears-call (call.Dial to why (born.New n)) past link is =
    bears-number (v.Dialled n to why ∷ []) (record { count = refl; born = λ l. or-false (eqb n l); closed = λ l. refl }) is
bears-call (call.Listen at door answer) past link is = absurd (cc)
bears-call (call.Accept door born.Balked) past link is = absurd (cc)
bears-call (call.Accept door born.Failed) past link is = absurd (cc)
bears-call (call.Accept door born.NoMemory) past link is = absurd (cc)
bears-call (call.Dial to why born.Balked) past link is = absurd (cc)
bears-call (call.Dial to why born.Failed) past link is = absurd (cc)
bears-call (call.Dial to why born.NoMemory) past link is = absurd (cc)
bears-call (call.Finish l answer) past link is = absurd (cc)
bears-call (call.Read l into answer) past link is = absurd (cc)
bears-call (call.Write l from answer) past link is = absurd (cc)
bears-call (call.Look l answer) past link is = absurd (cc)
bears-call (call.Shut l) past link is = absurd (cc)
bears-call (call.Close l cause) past link is = absurd (cc)
bears-call (call.Wait ready answer) past link is = absurd (cc)
bears-call (call.Glance ready answer) past link is = absurd (cc)

-- what is so of the trace and of what is kept
pub record Knows {S : Type 0} (trace : List Entry) (links : HashMap ℕ ℕ S) (n : ℕ) : Type 0 where
  pub count : births trace ≡ n
  pub living : KeepsLiving trace links
  pub unborn : Unborn trace n
  pub unclosed : Unclosed trace n

births-append : (trace es : List Entry) → births (trace ++ es) ≡ births trace + births es
births-append trace es = sum_by-append (λ (x : Entry). cond (is_birth x) 1 0) trace es

born-append : (l : ℕ) (trace es : List Entry) → was_born l (trace ++ es) ≡ (was_born l trace || was_born l es)
born-append l trace es = list_any-append (is_birth_of l) trace es

closed-append : (l : ℕ) (trace es : List Entry) → was_closed l (trace ++ es) ≡ (was_closed l trace || was_closed l es)
closed-append l trace es = list_any-append (is_close_of l) trace es

unlived : (l : ℕ) (trace : List Entry) → was_born l trace ≡ false → lives l trace ≡ false
unlived l trace unborn = ap (λ (b : Bool). b && not (was_closed l trace)) unborn

uncounted : (o : Option ℕ) → is_some o ≡ false → count_of o ≡ 0
uncounted None is = refl
uncounted (Some n) is = absurd (cc)

module _ {S : Type 0} where
  pub knows-still : (trace es : List Entry) (links : HashMap ℕ ℕ S) (n : ℕ) → Knows trace links n → Still es → Knows (trace ++ es) links n
  knows-still trace es links n k s = record {
    count = births-append trace es ∙ ap (λ (m : ℕ). births trace + m) s.count ∙ add-zero _ ∙ k.count;
    living = λ l. ap₂ (λ (a b : Bool). a && not b) (born l) (closed l) ∙ k.living l;
    unborn = λ l above. born l ∙ k.unborn l above;
    unclosed = λ l above. closed l ∙ k.unclosed l above;
  }
    where
      born : (l : ℕ) → was_born l (trace ++ es) ≡ was_born l trace
      born l = born-append l trace es ∙ ap (λ (b : Bool). was_born l trace || b) (s.born l) ∙ or-false _

      closed : (l : ℕ) → was_closed l (trace ++ es) ≡ was_closed l trace
      closed l = closed-append l trace es ∙ ap (λ (b : Bool). was_closed l trace || b) (s.closed l) ∙ or-false _

  pub knows-birth : (trace es : List Entry) (links after : HashMap ℕ ℕ S) (n link count : ℕ) → Knows trace links n → Bears link es → link ≡ n + 1
      → ((l : ℕ) → get nat_eq after l ≡ cond (eqb link l) (Some count) (get nat_eq links l)) → Knows (trace ++ es) after link
  unfolding Bears
  knows-birth trace es links after n link count k b next puts = record {
    count = births-append trace es ∙ ap₂ (λ (p q : ℕ). p + q) k.count b.count ∙ sym next;
    living = λ l. ap₂ (λ (p q : Bool). p && not q) (born l) (closed l)
        ∙ ⊎_elim (λ (same : link ≡ l).
        rw (eq-eqb link l same, k.unclosed l (let e : link ≡ l = same in omega (arith, e, next)), or-true (was_born l trace)) refl
        ∙ sym (ap is_some (puts l ∙ ap (λ (t : Bool). cond t (Some count) (get nat_eq links l)) (eq-eqb link l same))))
        (λ (differs : link ≡ l → ⊥).
        rw (ne_eqb link l differs, or-false (was_born l trace)) (k.living l)
        ∙ sym (ap is_some (puts l ∙ ap (λ (t : Bool). cond t (Some count) (get nat_eq links l)) (ne_eqb link l differs))))
        (cases_eq link l);
    unborn = λ l above. born l ∙ ap₂ (λ (p q : Bool). p || q) (k.unborn l (omega (arith, above, next))) (ne_eqb link l (λ e. omega (arith, e, above)));
    unclosed = λ l above. closed l ∙ k.unclosed l (omega (arith, above, next));
  }
    where
      born : (l : ℕ) → was_born l (trace ++ es) ≡ (was_born l trace || eqb link l)
      born l = born-append l trace es ∙ ap (λ (p : Bool). was_born l trace || p) (b.born l)

      closed : (l : ℕ) → was_closed l (trace ++ es) ≡ was_closed l trace
      closed l = closed-append l trace es ∙ ap (λ (p : Bool). was_closed l trace || p) (b.closed l) ∙ or-false _

  -- a link that is born had no count
  pub born-uncounted : (trace : List Entry) (links after : HashMap ℕ ℕ S) (n link : ℕ) → Knows trace links n → link ≡ n + 1
      → ((l : ℕ) → get nat_eq after l ≡ cond (eqb link l) (Some 0) (get nat_eq links l)) → SameFaults links after
  born-uncounted trace links after n link k next puts l = ap count_of (puts l) ∙ ⊎_elim
      (λ (same : link ≡ l). rw (eq-eqb link l same) (sym (uncounted (get nat_eq links l)
      (sym (k.living l) ∙ unlived l trace (k.unborn l (let e : link ≡ l = same in omega (arith, e, next)))))))
      (λ (differs : link ≡ l → ⊥). rw (ne_eqb link l differs) refl) (cases_eq link l)

  -- a link that lives was born
  within : (trace : List Entry) (links : HashMap ℕ ℕ S) (n link : ℕ) → Knows trace links n → lives link trace ≡ true → link ≤ n
  within trace links n link k is = ⊎_elim
      (λ (h : n < link). let dead : lives link trace ≡ false = unlived link trace (k.unborn link h) in absurd (cc)) (λ (h : link ≤ n). h)
      (cases_lt n link)

  closing : (trace : List Entry) (links after : HashMap ℕ ℕ S) (n link : ℕ) (cause : Cause) (b : Bool) → lives link trace ≡ b → Knows trace links n
      → ((l : ℕ) → get nat_eq after l ≡ cond (eqb link l) None (get nat_eq links l))
      → Knows (trace ++ cond b (v.Closed link cause ∷ []) []) after n
  closing trace links after n link cause false dead k takes = rw (append-nil trace) (record {
    count = k.count;
    living = λ l. ⊎_elim (λ (same : link ≡ l).
        subst (λ (m : ℕ). lives m trace ≡ false) same dead
        ∙ sym (ap is_some (takes l ∙ ap (λ (t : Bool). cond t None (get nat_eq links l)) (eq-eqb link l same))))
        (λ (differs : link ≡ l → ⊥). k.living l
        ∙ sym (ap is_some (takes l ∙ ap (λ (t : Bool). cond t None (get nat_eq links l)) (ne_eqb link l differs))))
        (cases_eq link l);
    unborn = k.unborn;
    unclosed = k.unclosed;
  })
  closing trace links after n link cause true alive k takes = record {
    count = births-append trace (v.Closed link cause ∷ []) ∙ add-zero _ ∙ k.count;
    living = λ l. ap₂ (λ (p q : Bool). p && not q) (born l) (closed l)
        ∙ ⊎_elim (λ (same : link ≡ l).
        rw (eq-eqb link l same, or-true (was_closed l trace)) (and-false (was_born l trace))
        ∙ sym (ap is_some (takes l ∙ ap (λ (t : Bool). cond t None (get nat_eq links l)) (eq-eqb link l same))))
        (λ (differs : link ≡ l → ⊥).
        rw (ne_eqb link l differs, or-false (was_closed l trace)) (k.living l)
        ∙ sym (ap is_some (takes l ∙ ap (λ (t : Bool). cond t None (get nat_eq links l)) (ne_eqb link l differs))))
        (cases_eq link l);
    unborn = λ l above. born l ∙ k.unborn l above;
    unclosed = λ l above. closed l ∙ ap₂ (λ (p q : Bool). p || q) (k.unclosed l above)
        (ne_eqb link l (λ e. let h = within trace links n link k alive in omega (arith, e, above, h)));
  }
    where
      born : (l : ℕ) → was_born l (trace ++ v.Closed link cause ∷ []) ≡ was_born l trace
      born l = was_born-grows l trace (v.Closed link cause) ∙ or-false _

      closed : (l : ℕ) → was_closed l (trace ++ v.Closed link cause ∷ []) ≡ (was_closed l trace || eqb link l)
      closed l = was_closed-grows l trace (v.Closed link cause)

  pub knows-close : (trace : List Entry) (links after : HashMap ℕ ℕ S) (n link : ℕ) (cause : Cause) → Knows trace links n
      → ((l : ℕ) → get nat_eq after l ≡ cond (eqb link l) None (get nat_eq links l)) → Knows (trace ++ close_entries link cause trace) after n
  knows-close trace links after n link cause k takes = closing trace links after n link cause (lives link trace) refl k takes
