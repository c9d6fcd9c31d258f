-- What holds of a script's world still holds once entries stand in the trace that change nothing of what is kept.
use Rattle.std.proofs.Common.{◌≡◌, ◌⊎◌, ℕ, Bool, false, not, ◌&&◌, ◌||◌, List, [], ◌∷◌, ◌++◌, refl, ap, ◌∙◌, sym, subst, inl, inr}
use Rattle.std.proofs.lemmas.Bool.{cond_both, and_parts, not-true}
use Rattle.std.proofs.lemmas.List.{append-nil}
use Rattle.std.specs.List.{list_any}
use Rattle.hb_base.specs.declared.cause.Cause.{Cause}
use Rattle.hb_base.specs.declared.door.Door.{Door}
use Rattle.hb_world.specs.declared.doors.Doors.{Doors}
use Rattle.hb_world.specs.declared.doors.ScriptDoor.{ScriptDoor}
use Rattle.hb_world.specs.declared.entry.Entry.{Entry}
use Rattle.hb_world.specs.declared.entry.Entry.TheVariants as e
use Rattle.hb_world.specs.declared.entry.Way.TheVariants as way
use Rattle.hb_world.specs.declared.entry.ReadyItem.{ReadyItem}
use Rattle.hb_world.specs.declared.line.Line.{Line}
use Rattle.hb_world.specs.declared.links.Links.{Links}
use Rattle.hb_world.specs.declared.world.Finished.{Finished}
use Rattle.hb_world.specs.declared.world.Finished.TheVariants as finished
use Rattle.hb_world.specs.declared.world.Looked.{Looked}
use Rattle.hb_world.specs.declared.world.Looked.TheVariants as looked
use Rattle.hb_world.specs.declared.world.Read.{Read}
use Rattle.hb_world.specs.declared.world.Read.TheVariants as reads
use Rattle.hb_world.specs.declared.world.Wrote.{Wrote}
use Rattle.hb_world.specs.declared.world.Wrote.TheVariants as wrote
use Rattle.hb_world.specs.Allowed.{Allowed, IsAnswer}
use Rattle.hb_world.specs.Calls.{finish_entries, read_entries, write_entries, look_entries, shut_entries, close_entries}
use Rattle.hb_world.specs.DoorState.{door_at}
use Rattle.hb_world.specs.LinkStates.{state_at}
use Rattle.hb_world.specs.Script.{LinkScript, Standing, standing, after_entry, with_entry, link_after, waiting_after, failing_after}
use Rattle.hb_world.specs.ScriptAnswers.{is_listen, finish_answer, read_answer, write_answer, look_answer}
use Rattle.hb_world.specs.Trace.{lives, was_shut, is_listen_at}
use Rattle.hb_world.specs.WorldState.{Keeps, GivesNothing, TakesNothing}
use Rattle.hb_world.proofs.AllowedLemmas.{stated, allowed-one}
use Rattle.hb_world.proofs.LifeLemmas.{or-false}
use Rattle.hb_world.proofs.StandingLemmas.{keeps-entry}
use Rattle.hb_world.proofs.TraceLemmas.{any-grows}

-- what holds of all that a script's world keeps
abbrev pub Holds : List Line → List Entry → ℕ → Links → Doors ScriptDoor → ℕ → List ReadyItem → Bool → Type 0
Holds lines trace next links doors failing rest listened =
    Keeps (standing lines trace) lines next links doors failing rest × (listened ≡ list_any is_listen trace) × Allowed lines trace

-- an entry that changes nothing of what is kept, the dials that fail aside
abbrev pub IsQuiet : Entry → Type 0
IsQuiet x =
    ((s : Standing) → after_entry s x ≡ with_entry s x)
    × ((l : ℕ) (k : LinkScript) → link_after l k x ≡ k)
    × ((d : Door) → is_listen_at d x ≡ false)
    × ((d : Door) (n : ℕ) → waiting_after d n x ≡ n)
    × (is_listen x ≡ false)

pub holds-quiet : (lines : List Line) (trace : List Entry) (x : Entry) (next : ℕ) (links : Links) (doors : Doors ScriptDoor)
    (failing failing2 : ℕ) (rest : List ReadyItem) (listened : Bool) → IsQuiet x → failing2 ≡ failing_after failing x
    → IsAnswer lines trace x → Holds lines trace next links doors failing rest listened
    → Holds lines (trace ++ x ∷ []) next links doors failing2 rest listened
holds-quiet lines trace x next links doors failing failing2 rest listened quiet fails is h = (
  keeps-entry lines trace x next links links doors doors failing failing2 rest h.0 quiet.0
      (λ l. sym (ap (λ (k : LinkScript). record (state_at links l) { said = k }) (quiet.1 l (state_at links l).said)))
      (λ l. refl)
      (λ d. sym (ap (λ (b : Bool). (door_at doors d).listening || b) (quiet.2 d) ∙ or-false _))
      (λ d. sym (quiet.3 d (door_at doors d).waiting)) fails,
  h.1 ∙ sym (any-grows is_listen trace x ∙ ap (λ (b : Bool). list_any is_listen trace || b) quiet.4 ∙ or-false _),
  allowed-one lines trace x h.2 is,
)

holds-nothing : (lines : List Line) (trace : List Entry) (next : ℕ) (links : Links) (doors : Doors ScriptDoor) (failing : ℕ)
    (rest : List ReadyItem) (listened : Bool)
    → Holds lines trace next links doors failing rest listened
    → Holds lines (trace ++ []) next links doors failing rest listened
holds-nothing lines trace next links doors failing rest listened h =
    subst (λ (t : List Entry). Holds lines t next links doors failing rest listened) (sym (append-nil trace)) h

pub holds-finish : (lines : List Line) (trace : List Entry) (next : ℕ) (links : Links) (doors : Doors ScriptDoor) (failing : ℕ)
    (rest : List ReadyItem) (listened : Bool) (link : ℕ) (r : Finished)
    → (r ≡ finished.NoMemory) ⊎ (r ≡ finish_answer lines trace link)
    → Holds lines trace next links doors failing rest listened
    → Holds lines (trace ++ finish_entries link r) next links doors failing rest listened
holds-finish lines trace next links doors failing rest listened link finished.Opened is h =
    holds-quiet lines trace (e.Opened link) _ _ _ _ _ _ _ (λ s. refl, λ l k. refl, λ d. refl, λ d n. refl, refl) refl
    (stated finished.NoMemory finished.Opened _ is (λ m. cc)) h
holds-finish lines trace next links doors failing rest listened link finished.Balked is h =
    holds-quiet lines trace (e.Balked (way.Finish link)) _ _ _ _ _ _ _ (λ s. refl, λ l k. refl, λ d. refl, λ d n. refl, refl) refl
    (stated finished.NoMemory finished.Balked _ is (λ m. cc)) h
holds-finish lines trace next links doors failing rest listened link finished.Failed is h =
    holds-quiet lines trace (e.Broke link) _ _ _ _ _ _ _ (λ s. refl, λ l k. refl, λ d. refl, λ d n. refl, refl) refl
    (inl (stated finished.NoMemory finished.Failed _ is (λ m. cc))) h
holds-finish lines trace next links doors failing rest listened link finished.NoMemory is h =
    holds-nothing lines trace _ _ _ _ _ _ h

-- a read that gives no bytes
pub holds-unread : (lines : List Line) (trace : List Entry) (next : ℕ) (links : Links) (doors : Doors ScriptDoor) (failing : ℕ)
    (rest : List ReadyItem) (listened : Bool) (link room : ℕ) (a r : Read)
    → GivesNothing a → read_answer lines trace link room ≡ a → (r ≡ reads.NoMemory) ⊎ (r ≡ a)
    → Holds lines trace next links doors failing rest listened
    → Holds lines (trace ++ read_entries link [] r) next links doors failing rest listened
holds-unread lines trace next links doors failing rest listened link room a (reads.Got n) none said is h =
    absurd (subst (λ (x : Read). GivesNothing x) (stated reads.NoMemory (reads.Got n) a is (λ m. cc)) none)
holds-unread lines trace next links doors failing rest listened link room a reads.End none said is h =
    holds-quiet lines trace (e.Ended link) _ _ _ _ _ _ _ (λ s. refl, λ l k. refl, λ d. refl, λ d n. refl, refl) refl
    (room, said ∙ stated reads.NoMemory reads.End a is (λ m. cc)) h
holds-unread lines trace next links doors failing rest listened link room a reads.Balked none said is h =
    holds-quiet lines trace (e.Balked (way.Read link)) _ _ _ _ _ _ _ (λ s. refl, λ l k. refl, λ d. refl, λ d n. refl, refl) refl
    (room, said ∙ stated reads.NoMemory reads.Balked a is (λ m. cc)) h
holds-unread lines trace next links doors failing rest listened link room a reads.Failed none said is h =
    holds-quiet lines trace (e.Broke link) _ _ _ _ _ _ _ (λ s. refl, λ l k. refl, λ d. refl, λ d n. refl, refl) refl
    (inr (inl (room, said ∙ stated reads.NoMemory reads.Failed a is (λ m. cc)))) h
holds-unread lines trace next links doors failing rest listened link room a reads.NoMemory none said is h =
    holds-nothing lines trace _ _ _ _ _ _ h

-- a write that takes no bytes
pub holds-unwritten : (lines : List Line) (trace : List Entry) (next : ℕ) (links : Links) (doors : Doors ScriptDoor) (failing : ℕ)
    (rest : List ReadyItem) (listened : Bool) (link offered : ℕ) (a r : Wrote)
    → TakesNothing a → write_answer lines trace link offered ≡ a → (r ≡ wrote.NoMemory) ⊎ (r ≡ a)
    → Holds lines trace next links doors failing rest listened
    → Holds lines (trace ++ write_entries link [] r) next links doors failing rest listened
holds-unwritten lines trace next links doors failing rest listened link offered a (wrote.Took n) none said is h =
    absurd (subst (λ (x : Wrote). TakesNothing x) (stated wrote.NoMemory (wrote.Took n) a is (λ m. cc)) none)
holds-unwritten lines trace next links doors failing rest listened link offered a wrote.Balked none said is h =
    holds-quiet lines trace (e.Balked (way.Write link)) _ _ _ _ _ _ _ (λ s. refl, λ l k. refl, λ d. refl, λ d n. refl, refl) refl
    (offered, said ∙ stated wrote.NoMemory wrote.Balked a is (λ m. cc)) h
holds-unwritten lines trace next links doors failing rest listened link offered a wrote.Failed none said is h =
    holds-quiet lines trace (e.Broke link) _ _ _ _ _ _ _ (λ s. refl, λ l k. refl, λ d. refl, λ d n. refl, refl) refl
    (inr (inr (inl (offered, said ∙ stated wrote.NoMemory wrote.Failed a is (λ m. cc))))) h
holds-unwritten lines trace next links doors failing rest listened link offered a wrote.NoMemory none said is h =
    holds-nothing lines trace _ _ _ _ _ _ h

pub holds-look : (lines : List Line) (trace : List Entry) (next : ℕ) (links : Links) (doors : Doors ScriptDoor) (failing : ℕ)
    (rest : List ReadyItem) (listened : Bool) (link : ℕ) (r : Looked)
    → (r ≡ looked.NoMemory) ⊎ (r ≡ look_answer lines trace link)
    → Holds lines trace next links doors failing rest listened
    → Holds lines (trace ++ look_entries link r) next links doors failing rest listened
holds-look lines trace next links doors failing rest listened link looked.Fine is h =
    holds-quiet lines trace (e.Balked (way.Look link)) _ _ _ _ _ _ _ (λ s. refl, λ l k. refl, λ d. refl, λ d n. refl, refl) refl
    (stated looked.NoMemory looked.Fine _ is (λ m. cc)) h
holds-look lines trace next links doors failing rest listened link looked.Failed is h =
    holds-quiet lines trace (e.Broke link) _ _ _ _ _ _ _ (λ s. refl, λ l k. refl, λ d. refl, λ d n. refl, refl) refl
    (inr (inr (inr (stated looked.NoMemory looked.Failed _ is (λ m. cc))))) h
holds-look lines trace next links doors failing rest listened link looked.NoMemory is h =
    holds-nothing lines trace _ _ _ _ _ _ h

pub holds-shut : (lines : List Line) (trace : List Entry) (next : ℕ) (links : Links) (doors : Doors ScriptDoor) (failing : ℕ)
    (rest : List ReadyItem) (listened : Bool) (link : ℕ)
    → Holds lines trace next links doors failing rest listened
    → Holds lines (trace ++ shut_entries link trace) next links doors failing rest listened
holds-shut lines trace next links doors failing rest listened link h =
    cond_both (lives link trace && not (was_shut link trace)) (e.Shut link ∷ []) []
    (λ (es : List Entry). Holds lines (trace ++ es) next links doors failing rest listened)
    (λ b. let p = and_parts (lives link trace) (not (was_shut link trace)) b in
    holds-quiet lines trace (e.Shut link) _ _ _ _ _ _ _ (λ s. refl, λ l k. refl, λ d. refl, λ d n. refl, refl) refl
    (p.0, not-true (was_shut link trace) p.1) h)
    (λ b. holds-nothing lines trace _ _ _ _ _ _ h)

pub holds-close : (lines : List Line) (trace : List Entry) (next : ℕ) (links : Links) (doors : Doors ScriptDoor) (failing : ℕ)
    (rest : List ReadyItem) (listened : Bool) (link : ℕ) (cause : Cause)
    → Holds lines trace next links doors failing rest listened
    → Holds lines (trace ++ close_entries link cause trace) next links doors failing rest listened
holds-close lines trace next links doors failing rest listened link cause h =
    cond_both (lives link trace) (e.Closed link cause ∷ []) []
    (λ (es : List Entry). Holds lines (trace ++ es) next links doors failing rest listened)
    (λ b. holds-quiet lines trace (e.Closed link cause) _ _ _ _ _ _ _ (λ s. refl, λ l k. refl, λ d. refl, λ d n. refl, refl) refl
    b h)
    (λ b. holds-nothing lines trace _ _ _ _ _ _ h)
