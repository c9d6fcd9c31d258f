-- What a script has come to behind a wait.
use Rattle.std.proofs.Common.{◌≡◌, ℕ, ◌+◌, ◌-◌, ◌≤◌, ◌<◌, min, Bool, true, suc, List, [], ◌∷◌, ◌++◌, length, take, drop, refl, ap, ap₂, ◌∙◌, sym, subst, arith}
use Rattle.std.proofs.lemmas.Bool.{cond-true, cond-false, cond_both, eq-eqb, ne_eqb, or_right}
use Rattle.std.proofs.lemmas.List.{append_assoc, append-nil, drop-drop, drop_min, take_min, length-drop, take-append-drop, drop_all}
use Rattle.std.proofs.lemmas.List.Folds.{list_any-append}
use Rattle.std.specs.List.{fold, list_any}
use Rattle.std.specs.Option.{is_some}
use Rattle.hb_base.specs.declared.door.Door.{Door}
use Rattle.hb_world.specs.declared.doors.Doors.{Doors}
use Rattle.hb_world.specs.declared.doors.ScriptDoor.{ScriptDoor}
use Rattle.hb_world.specs.declared.entry.Entry.{Entry}
use Rattle.hb_world.specs.declared.entry.Entry.TheVariants as v
use Rattle.hb_world.specs.declared.entry.ReadyItem.{ReadyItem}
use Rattle.hb_world.specs.declared.entry.Woken.{Woken}
use Rattle.hb_world.specs.declared.entry.Woken.TheVariants as w
use Rattle.hb_world.specs.declared.line.Line.{Line}
use Rattle.hb_world.specs.declared.links.Links.{Links}
use Rattle.hb_world.specs.declared.turn.Ending.{Ending}
use Rattle.hb_world.specs.declared.turn.Ending.TheVariants as ending
use Rattle.hb_world.specs.Calls.{wait_entries}
use Rattle.hb_world.specs.DoorState.{door_at}
use Rattle.hb_world.specs.LinkState.{LinkState}
use Rattle.hb_world.specs.LinkStates.{state_at, is_named}
use Rattle.hb_world.specs.Script.{Standing, standing, start, after_entry, after_wait, waited, turned, turn_of, turn_ends, woken_by, ready_in, kept_for, is_of, pieces_on, link_with, waiting_with, failing_with}
use Rattle.hb_world.specs.ScriptAnswers.{waited_for, is_listen, LeavesReady}
use Rattle.hb_world.specs.WorldState.{Keeps, passed_by}
use Rattle.hb_world.proofs.LifeLemmas.{or-false}
use Rattle.hb_world.proofs.StandingLemmas.{standing-grows, keeps-entry}
use Rattle.hb_world.proofs.TraceLemmas.{listens-grows, any-grows}

after-trace : (s : Standing) (e : Entry) → (after_entry s e).trace ≡ s.trace ++ e ∷ []
after-trace s (v.Accepted l door) = refl
after-trace s (v.Dialled l to why) = refl
after-trace s (v.DialFailed to why) = refl
after-trace s (v.Opened l) = refl
after-trace s (v.Came l bytes) = refl
after-trace s (v.Ended l) = refl
after-trace s (v.Broke l) = refl
after-trace s (v.Went l bytes) = refl
after-trace s (v.Balked way) = refl
after-trace s (v.Shut l) = refl
after-trace s (v.Closed l cause) = refl
after-trace s v.Tick = refl
after-trace s (v.Wait ready w.Woke) = refl
after-trace s (v.Wait ready w.Tick) = refl
after-trace s (v.Wait ready w.Stop) = refl
after-trace s (v.Wait ready w.Failed) = refl
after-trace s (v.Wait ready w.Glanced) = refl
after-trace s (v.Wait ready w.GlanceFailed) = refl

fold-trace : (s : Standing) (es : List Entry) → (fold after_entry s es).trace ≡ s.trace ++ es
fold-trace s [] = sym (append-nil s.trace)
fold-trace s (e ∷ es) =
    fold-trace (after_entry s e) es ∙ ap (λ (t : List Entry). t ++ es) (after-trace s e) ∙ append_assoc s.trace (e ∷ []) es

-- the trace of what a script has come to behind a trace is that trace
pub standing-trace : (lines : List Line) (trace : List Entry) → (standing lines trace).trace ≡ trace
standing-trace lines trace = fold-trace (start lines) trace

-- a turn is the first lines
pub turn-within : (ls : List Line) → length (turn_of ls) ≤ length ls
turn-within [] = omega arith
turn-within (l ∷ ls) =
    cond_both (is_some (woken_by l)) (l ∷ []) (l ∷ turn_of ls) (λ (t : List Line). length t ≤ suc (length ls))
    (λ _. omega arith) (λ _. let h : length (turn_of ls) ≤ length ls = turn-within ls in omega (arith, h))

pub turn-take : (ls : List Line) → take (length (turn_of ls)) ls ≡ turn_of ls
turn-take [] = refl
turn-take (l ∷ ls) =
    cond_both (is_some (woken_by l)) (l ∷ []) (l ∷ turn_of ls) (λ (t : List Line). take (length t) (l ∷ ls) ≡ t)
    (λ _. refl) (λ _. ap (λ (t : List Line). l ∷ t) (turn-take ls))

-- the items behind those that are told now
pub rest-told : {X : Type 0} (xs : List X) (told n : ℕ) → n ≡ min (length xs - told) 1024 → drop (told + n) xs ≡ drop 1024 (drop told xs)
rest-told xs told n is =
    sym (drop-drop n told xs)
    ∙ ap (λ (m : ℕ). drop m (drop told xs)) (let e : n ≡ min 1024 (length (drop told xs)) = omega (arith, is, length-drop told xs) in e)
    ∙ drop_min 1024 (drop told xs)

pub told-now : {X : Type 0} (xs : List X) (n : ℕ) → n ≡ min (length xs) 1024 → take n xs ≡ take 1024 xs
told-now xs n is = ap (λ (m : ℕ). take m xs) (let e : n ≡ min 1024 (length xs) = omega (arith, is) in e) ∙ take_min 1024 xs

behind-most : {X : Type 0} (xs : List X) → drop (min (length xs) 1024) xs ≡ drop 1024 xs
behind-most xs =
    ap (λ (m : ℕ). drop m xs) (let e : min (length xs) 1024 ≡ min 1024 (length xs) = omega arith in e) ∙ drop_min 1024 xs

pub kept-behind : (how : Ending) (xs : List ReadyItem) → drop (passed_by how (length xs)) xs ≡ kept_for how xs
kept-behind ending.Woke xs = behind-most xs
kept-behind ending.Tick xs = behind-most xs
kept-behind ending.Stop xs = drop_all (length xs) xs (omega arith)
kept-behind ending.Failed xs = behind-most xs

any-drop : (p : Line → Bool) (n : ℕ) (xs : List Line) → list_any p (drop n xs) ≡ true → list_any p xs ≡ true
any-drop p n xs is =
    subst (λ (ys : List Line). list_any p ys ≡ true) (take-append-drop n xs)
    (list_any-append p (take n xs) (drop n xs) ∙ or_right (list_any p (take n xs)) (list_any p (drop n xs)) is)

-- a wait that tells what is left
pub keeps-told : (lines : List Line) (trace : List Entry) (items : List ReadyItem) (next : ℕ) (links : Links)
    (doors : Doors ScriptDoor) (failing : ℕ) (rest rest2 : List ReadyItem) → Keeps
    (standing lines trace) lines next links doors failing rest
    → 0 < length (standing lines trace).rest → rest2 ≡ drop 1024 rest
    → Keeps (standing lines (trace ++ v.Wait items w.Woke ∷ [])) lines next links doors failing rest2
keeps-told lines trace items next links doors failing rest rest2 k some is =
    let s = standing lines trace in
    let e : Entry = v.Wait items w.Woke in
    let goes : after_entry s e ≡ record s { rest = drop 1024 s.rest; trace = s.trace ++ e ∷ [] } =
    ap (λ (z : Standing). record z { trace = s.trace ++ e ∷ [] })
    (cond-false _ (turned s) (record s { rest = drop 1024 s.rest }) (ne_eqb (length s.rest) 0 (λ n. omega (arith, n, some)))) in
    subst (λ (z : Standing). Keeps z lines next links doors failing rest2) (sym (standing-grows lines trace e ∙ goes)) (record {
      coming = k.coming;
      bound = k.bound;
      said = k.said;
      named = k.named;
      listening = λ d. k.listening d ∙ sym (listens-grows d s.trace e ∙ or-false _);
      waiting = k.waiting;
      fails = k.fails;
      left = is ∙ ap (λ (xs : List ReadyItem). drop 1024 xs) k.left;
    })

-- a wait, and no glance
abbrev pub IsWait : Woken → Type 0
IsWait how = (s : Standing) (x : Entry) → after_wait how s x ≡ record (waited s) { trace = s.trace ++ x ∷ [] }

-- a wait that applies the lines of a turn
pub keeps-turned : (lines : List Line) (trace : List Entry) (items : List ReadyItem) (woken : Woken) → IsWait woken → (next : ℕ) (links links2 : Links)
    (doors doors2 : Doors ScriptDoor) (failing failing2 : ℕ) (rest rest2 : List ReadyItem)
    → Keeps (standing lines trace) lines next links doors failing rest
    → length (standing lines trace).rest ≡ 0
    → ((l : ℕ) → state_at links2 l ≡ record {
      said = fold (link_with l) (state_at links l).said (turn_of (standing lines trace).coming);
      coming = pieces_on l (drop (length (turn_of (standing lines trace).coming)) (standing lines trace).coming);
    })
    → ((l : ℕ) → is_named links2 l ≡ is_named links l)
    → ((d : Door) → (door_at doors2 d).listening ≡ (door_at doors d).listening)
    → ((d : Door) → (door_at doors2 d).waiting
    ≡ fold (waiting_with (door_at doors d).listening d) (door_at doors d).waiting (turn_of (standing lines trace).coming))
    → failing2 ≡ fold failing_with failing (turn_of (standing lines trace).coming)
    → rest2 ≡ kept_for (turn_ends (standing lines trace).coming) (ready_in (turn_of (standing lines trace).coming) trace)
    → Keeps (standing lines (trace ++ v.Wait items woken ∷ [])) lines (next + length (turn_of
    (standing lines trace).coming)) links2 doors2
    failing2 rest2
keeps-turned lines trace items woken waits next links links2 doors doors2 failing failing2 rest rest2 k none said names listening waiting
    fails left =
    let s = standing lines trace in
    let e : Entry = v.Wait items woken in
    let turn = turn_of s.coming in
    let goes : after_entry s e ≡ record (turned s) { trace = s.trace ++ e ∷ [] } =
    waits s e ∙ ap (λ (z : Standing). record z { trace = s.trace ++ e ∷ [] })
    (cond-true _ (turned s) (record s { rest = drop 1024 s.rest }) (eq-eqb (length s.rest) 0 none)) in
    let within : length turn ≤ length lines - next =
    subst (λ (n : ℕ). length turn ≤ n) (ap (λ (ls : List Line). length ls) k.coming ∙ length-drop next lines) (turn-within s.coming) in
    subst (λ (z : Standing). Keeps z lines (next + length turn) links2 doors2 failing2 rest2) (sym (standing-grows lines trace e
    ∙ goes)) (record {
      coming = ap (λ (ls : List Line). drop (length turn) ls) k.coming ∙ drop-drop (length turn) next lines;
      bound = omega (arith, within, k.bound);
      said = λ l. said l ∙ ap (λ (x : LinkState). record {
        said = fold (link_with l) x.said turn;
        coming = pieces_on l (drop (length turn) s.coming);
      }) (k.said l);
      named = λ l h. names l ∙ k.named l (any-drop (is_of l) (length turn) s.coming h);
      listening = λ d. listening d ∙ k.listening d ∙ sym (listens-grows d s.trace e ∙ or-false _);
      waiting = λ d. waiting d ∙ ap₂ (λ (b : Bool) (n : ℕ). fold (waiting_with b d) n turn) (k.listening d) (k.waiting d);
      fails = fails ∙ ap (λ (n : ℕ). fold failing_with n turn) k.fails;
      left = left ∙ ap (λ (t : List Entry). kept_for (turn_ends s.coming) (ready_in turn t)) (sym (standing-trace lines trace));
    })

-- a Tick stands behind a wait that ends so
pub keeps-wait : (lines : List Line) (trace : List Entry) (items : List ReadyItem) (how : Ending) (next : ℕ) (links : Links)
    (doors : Doors ScriptDoor) (failing : ℕ) (rest : List ReadyItem)
    → ((how : Woken) → IsWait how → Keeps (standing lines (trace ++ v.Wait items how ∷ [])) lines next links doors failing rest)
    → Keeps (standing lines (trace ++ wait_entries items (waited_for how))) lines next links doors failing rest
keeps-wait lines trace items ending.Woke next links doors failing rest k = k w.Woke (λ s x. refl)
keeps-wait lines trace items ending.Stop next links doors failing rest k = k w.Stop (λ s x. refl)
keeps-wait lines trace items ending.Failed next links doors failing rest k = k w.Failed (λ s x. refl)
keeps-wait lines trace items ending.Tick next links doors failing rest k =
    subst (λ (t : List Entry). Keeps (standing lines t) lines next links doors failing rest)
    (append_assoc trace (v.Wait items w.Tick ∷ []) (v.Tick ∷ []))
    (keeps-entry lines (trace ++ v.Wait items w.Tick ∷ []) v.Tick next links links doors doors failing failing rest
    (k w.Tick (λ s x. refl)) (λ s. refl) (λ l. refl) (λ l. refl) (λ d. sym (or-false _)) (λ d. refl) refl)

-- the items that a wait leaves that wants no memory
pub leaves : (before after told : List ReadyItem) (how : Ending) → after ≡ told → LeavesReady before after told (waited_for how)
leaves before after told ending.Woke is = is
leaves before after told ending.Tick is = is
leaves before after told ending.Stop is = is
leaves before after told ending.Failed is = is

-- a wait is no listen
pub waits-unheard : (trace : List Entry) (items : List ReadyItem) (how : Ending)
    → list_any is_listen (trace ++ wait_entries items (waited_for how)) ≡ list_any is_listen trace
waits-unheard trace items ending.Woke = any-grows is_listen trace (v.Wait items w.Woke) ∙ or-false _
waits-unheard trace items ending.Stop = any-grows is_listen trace (v.Wait items w.Stop) ∙ or-false _
waits-unheard trace items ending.Failed = any-grows is_listen trace (v.Wait items w.Failed) ∙ or-false _
waits-unheard trace items ending.Tick =
    list_any-append is_listen trace (v.Wait items w.Tick ∷ v.Tick ∷ []) ∙ or-false _
