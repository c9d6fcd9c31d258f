-- How a run ends: from what holds at its status, and by each status.
use Rattle.std.proofs.Common.{◌≡◌, ◌≢◌, ℕ, ◌≤◌, ◌==◌, ◌||◌, Bool, true, false, List, Result, Ok, Err, refl, sym, subst, ap, inl, inr, arith}
use Rattle.std.proofs.lemmas.Bool.Decides.{nat_tests}
use Rattle.std.specs.Bool.{MatchBool}
use Rattle.std.specs.Prelude.{◌⊎◌, IsOk, IsErr, IsTrue}
use Rattle.hb_audit.specs.Tells.{Answering}
use Rattle.hb_words.specs.Command.{Command, Replay, checks, routes, shows, replays, serves, makes, prints}
use Rattle.hb_words.specs.declared.fault.WordsFault.{WordsFault}
use Rattle.hb_cli.specs.Replaying.{RunState}
use Rattle.hb_cli.specs.declared.ended.ReplayEnd.{ReplayEnd}
use Rattle.hb_cli.specs.declared.ended.ReplayEnd.TheVariants as ends
use Rattle.hb_cli.specs.Ending.{Run, HasOutcome, Gives, Answers, IsDone, WordsRefused, InputRefused, WorldFailed, TurnsSpent, Unread}
use Rattle.hb_cli.specs.Ending.{Unwritten, Wanting}
use Rattle.hb_cli.specs.Ending.{Stays, EndsWith}
use Rattle.hb_cli.specs.Leaving.{EndsRun}
use Rattle.hb_cli.specs.Run.{is_status, is_answered, takes_input}
use Rattle.hb_cli.specs.Use.{Use, NoFault, WritesAll}

-- no count of faults fell
abbrev pub NoneFalls : Use → Use → Use → Type 0
NoneFalls input out err = (input.faults ≤ input.faults_after) × (out.faults ≤ out.faults_after) × (err.faults ≤ err.faults_after)

-- a run that left all as it was
pub stays_still : {A : Type 0} {own : Answering A} (r : Run own) → r.left ≡ r.before → r.world.heard.after ≡ r.world.heard.before
    → NoneFalls r.input r.out r.err → Stays r
stays_still r left hears later = record {
  idle = λ never none. (ap (λ (s : RunState). s.script) left, ap (λ (s : RunState). s.keep) left);
  untold = λ takes never. hears;
  later_input = later.0;
  later_out = later.1;
  later_err = later.2;
}

equal : (n k : ℕ) → (n == k) ≡ true → n ≡ k
equal n k e = grind (arith, nat_tests)

-- what holds at this status, or at another
pub pick : {A B C : Type 0} (n k : ℕ) (b : Bool) → (n == k) ≡ b → MatchBool b A B → (n ≡ k → A → C) → (B → C) → C
pick n k true e h here behind = here (equal n k e) h
pick n k false e h here behind = behind h

-- what is said at a status
abbrev pub At : {A : Type 0} {own : Answering A} → Run own → ℕ → Type 0
At r status =
    MatchBool (status == 0) (IsDone r)
    (MatchBool (status == 2) (WordsRefused r)
    (MatchBool (status == 3) (InputRefused r)
    (MatchBool (status == 4) (WorldFailed r)
    (MatchBool (status == 5) (TurnsSpent r)
    (MatchBool (status == 6) (Unread r)
    (MatchBool (status == 7) (Unwritten r)
    (MatchBool (status == 9) (Wanting r) ⊥)))))))

is_one : {A : Type 0} {own : Answering A} (r : Run own) (status : ℕ) → At r status → IsTrue (is_status status)
is_one r status at =
    let is : (k : ℕ) → IsTrue (is_status k) → status ≡ k → IsTrue (is_status status) =
    λ k one same. subst (λ s. IsTrue (is_status s)) (sym same) one in
    pick status 0 (status == 0) refl at (λ same a. is 0 refl same) (λ at2.
    pick status 2 (status == 2) refl at2 (λ same a. is 2 refl same) (λ at3.
    pick status 3 (status == 3) refl at3 (λ same a. is 3 refl same) (λ at4.
    pick status 4 (status == 4) refl at4 (λ same a. is 4 refl same) (λ at5.
    pick status 5 (status == 5) refl at5 (λ same a. is 5 refl same) (λ at6.
    pick status 6 (status == 6) refl at6 (λ same a. is 6 refl same) (λ at7.
    pick status 7 (status == 7) refl at7 (λ same a. is 7 refl same) (λ at9.
    pick status 9 (status == 9) refl at9 (λ same a. is 9 refl same) (λ none. absurd none))))))))

-- a run ends with this status, at which so much is said
pub ends_at : {A : Type 0} {own : Answering A} (r : Run own) (k status : ℕ) → status ≡ k → Stays r → At r k → EndsWith r status
ends_at r k status is stays at =
    let here : At r status = subst (At r) (sym is) at in
    record {
      done = λ same. subst (At r) same here;
      words_refused = λ same. subst (At r) same here;
      input_refused = λ same. subst (At r) same here;
      world_failed = λ same. subst (At r) same here;
      turns_spent = λ same. subst (At r) same here;
      unread = λ same. subst (At r) same here;
      unwritten = λ same. subst (At r) same here;
      wanting = λ same. subst (At r) same here;
      nothing_else = is_one r status here;
      stays = stays;
    }

-- an answer is printed whole, and the run of the proxy behind it ended so
pub finished : {A : Type 0} {own : Answering A} (r : Run own) (end : ReplayEnd) (text : List ℕ) (status : ℕ) → Answers r end text
    → WritesAll r.out text
    → EndsRun end r.err status → Stays r → EndsWith r status
finished r ends.Stopped text status answers writes told stays = ends_at r 0 status told.0 stays (text, answers, writes, told.1)
finished r ends.WorldFault text status answers writes told stays = ends_at r 4 status told.0 stays (text, answers, writes, told.1)
finished r ends.TurnsSpent text status answers writes told stays = ends_at r 5 status told.0 stays (text, answers, writes, told.1)

same : (k n : ℕ) → (k == n) ≡ true → n ≡ k
same k n e = grind (arith, nat_tests)

one_of : {C : Type 0} (k n : ℕ) (b rest : Bool) → (k == n) ≡ b → IsTrue (b || rest) → (n ≡ k → C) → (IsTrue rest → C) → C
one_of k n true rest e some here behind = here (same k n e)
one_of k n false rest e some here behind = behind some

-- what holds at each status holds at all
pub by_status : {A : Type 0} {own : Answering A} (r : Run own) (P : ℕ → Type 0) → (IsDone r → P 0) → (WordsRefused r → P 2)
    → (InputRefused r → P 3) → (WorldFailed r → P 4)
    → (TurnsSpent r → P 5) → (Unread r → P 6) → (Unwritten r → P 7) → (Wanting r → P 9) → (status : ℕ) → EndsWith r status → P status
by_status r P p0 p2 p3 p4 p5 p6 p7 p9 status e =
    one_of 0 status (0 == status) _ refl e.nothing_else (λ is. subst P (sym is) (p0 (e.done is))) (λ s2.
    one_of 2 status (2 == status) _ refl s2 (λ is. subst P (sym is) (p2 (e.words_refused is))) (λ s3.
    one_of 3 status (3 == status) _ refl s3 (λ is. subst P (sym is) (p3 (e.input_refused is))) (λ s4.
    one_of 4 status (4 == status) _ refl s4 (λ is. subst P (sym is) (p4 (e.world_failed is))) (λ s5.
    one_of 5 status (5 == status) _ refl s5 (λ is. subst P (sym is) (p5 (e.turns_spent is))) (λ s6.
    one_of 6 status (6 == status) _ refl s6 (λ is. subst P (sym is) (p6 (e.unread is))) (λ s7.
    one_of 7 status (7 == status) _ refl s7 (λ is. subst P (sym is) (p7 (e.unwritten is))) (λ s9.
    one_of 9 status (9 == status) _ refl s9 (λ is. subst P (sym is) (p9 (e.wanting is))) (λ none. absurd cc))))))))

-- words that are accepted aren't refused
pub not_both : (asked : Result Command WordsFault) → IsOk asked → IsErr asked → ⊥
not_both (Ok c) ok err = cc
not_both (Err fault) ok err = cc

-- words that ask for one command ask for no other, nor are they refused
pub same_command : (asked : Result Command WordsFault) (c d : Command) → asked ≡ Ok c → asked ≡ Ok d → c ≡ d
same_command asked c d is told = cc

pub accepted : (asked : Result Command WordsFault) (c : Command) (fault : WordsFault) → asked ≡ Ok c → asked ≡ Err fault → ⊥
accepted asked c fault is refused = cc

-- words that ask for a command that reads no input
pub takes_none : (asked : Result Command WordsFault) (c : Command) → takes_input (Ok c) ≡ false → asked ≡ Ok c
    → IsTrue (takes_input asked) → ⊥
takes_none asked c none is takes =
    let never : IsTrue (takes_input (Ok c)) = subst (λ (a : Result Command WordsFault). IsTrue (takes_input a)) is takes in absurd cc

module _ {A : Type 0} {own : Answering A} (r : Run own) (end : ReplayEnd) (text : List ℕ) where
  -- the answer is that of the command that is asked for
  pub gives_of : (c : Command) → r.asked ≡ Ok c → Answers r end text → Gives c r end text
  gives_of c asks a = subst (λ (d : Command). Gives d r end text) (same_command r.asked a.0 c a.1 asks) a.2

  -- no read failed
  pub reads_well : Answers r end text → NoFault r.input
  reads_well a = of_command a.0 a.2 where
    of_command : (c : Command) → Gives c r end text → NoFault r.input
    of_command (checks q) g = g.1.4
    of_command (routes w) g = g.1.4
    of_command (shows s) g = g.1.4
    of_command (replays p) g = g.0.4
    of_command (serves s) g = g.0.1
    of_command (makes m) g = g.0.1
    of_command (prints p) g = g.0.1

  module _ (takes : IsTrue (takes_input r.asked)) where
    -- of a command by its input the text is the outcome
    pub outcome_is : Answers r end text → HasOutcome r (Ok text)
    outcome_is a = of_command a.0 a.1 a.2 where
      of_command : (c : Command) → r.asked ≡ Ok c → Gives c r end text → HasOutcome r (Ok text)
      of_command (checks q) asks g = g.1
      of_command (routes w) asks g = g.1
      of_command (shows s) asks g = g.1
      of_command (replays p) asks g = g.0
      of_command (serves s) asks g = absurd (takes_none r.asked (serves s) refl asks takes)
      of_command (makes m) asks g = absurd (takes_none r.asked (makes m) refl asks takes)
      of_command (prints p) asks g = absurd (takes_none r.asked (prints p) refl asks takes)

    -- of these a replay alone is ended otherwise than by a stop
    pub is_replay : end ≢ ends.Stopped → Answers r end text → (p : Replay) × (r.asked ≡ Ok (replays p))
    is_replay other a = of_command a.0 a.1 a.2 where
      of_command : (c : Command) → r.asked ≡ Ok c → Gives c r end text → (p : Replay) × (r.asked ≡ Ok (replays p))
      of_command (checks q) asks g = absurd (other g.0)
      of_command (routes w) asks g = absurd (other g.0)
      of_command (shows s) asks g = absurd (other g.0)
      of_command (replays p) asks g = (p, asks)
      of_command (serves s) asks g = absurd (takes_none r.asked (serves s) refl asks takes)
      of_command (makes m) asks g = absurd (takes_none r.asked (makes m) refl asks takes)
      of_command (prints p) asks g = absurd (takes_none r.asked (prints p) refl asks takes)

-- what an answer says that is printed whole
abbrev pub Whole : {A : Type 0} {own : Answering A} → Run own → Type 0
Whole r = (end : ReplayEnd) × (text : List ℕ) × Answers r end text × WritesAll r.out text

-- at 0, 4 and 5 the answer is printed whole
pub is_whole : {A : Type 0} {own : Answering A} (r : Run own) (status : ℕ) → EndsWith r status → IsTrue (is_answered status) → Whole r
is_whole r = by_status r (λ s. IsTrue (is_answered s) → Whole r)
    (λ a h. (ends.Stopped, a.0, a.1, a.2)) (λ a h. absurd cc) (λ a h. absurd cc) (λ a h. (ends.WorldFault, a.0, a.1, a.2))
    (λ a h. (ends.TurnsSpent, a.0, a.1, a.2)) (λ a h. absurd cc) (λ a h. absurd cc) (λ a h. absurd cc)

-- at 2, 3 and 6
pub refused_at : {A : Type 0} {own : Answering A} {P : Type 0} (r : Run own) (status : ℕ) → EndsWith r status → (status ≡ 2)
    ⊎ (status ≡ 3) ⊎ (status ≡ 6)
    → (WordsRefused r → P) → (InputRefused r → P) → (Unread r → P) → P
refused_at r status e (inl two) words input unread = words (e.words_refused two)
refused_at r status e (inr (inl three)) words input unread = input (e.input_refused three)
refused_at r status e (inr (inr six)) words input unread = unread (e.unread six)
