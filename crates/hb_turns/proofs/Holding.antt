-- What is known, behind one more entry.
use Rattle.std.proofs.Common.{◌≡◌, ℕ, ◌+◌, ◌||◌, ◌&&◌, not, Bool, true, false, if◌then◌else◌, List, [], ◌∷◌, ◌++◌, Option, Some, None, Result, Ok, Err, IfSome, IfOk, refl, ap, sym, ◌∙◌, subst, inl, add-zero}
use Rattle.std.specs.Prelude.{⊤}
use Rattle.std.specs.Option.{option_map}
use Rattle.std.proofs.lemmas.List.{append-nil}
use Rattle.hb_base.specs.declared.cause.Cause.{Cause}
use Rattle.hb_base.specs.declared.door.Door.{Door}
use Rattle.hb_base.specs.declared.door.Why.{Why}
use Rattle.hb_world.specs.declared.entry.Way.TheVariants as way
use Rattle.hb_base.specs.declared.target.Target.{Target}
use Rattle.hb_world.specs.Calls.{with_entries, with_closed, with_shut}
use Rattle.hb_world.specs.Trace.{births, is_birth, lives, was_shut, same_door}
use Rattle.hb_base.specs.declared.note.Note.{Note}
use Rattle.hb_world.specs.declared.entry.Entry.{Entry}
use Rattle.hb_world.specs.declared.entry.Entry.TheVariants as e
use Rattle.hb_world.proofs.TraceLemmas.{AtEach-grows, any-grows, births-grow}
use Rattle.hb_ready.specs.Awake.{IsAwake}
use Rattle.hb_ready.specs.Kept.{link_behind, IsKept}
use Rattle.hb_ready.specs.Registry.{kept}
use Rattle.hb_ready.specs.declared.doors.Asked.{Asked}
use Rattle.hb_world.specs.Answers.{HasNextNumber}
use Rattle.hb_world.specs.declared.world.Born.TheVariants.{New}
use Rattle.hb_ready.specs.Numbers.{Numbers}
use Rattle.hb_ready.specs.Sight.{known, sight, asked_behind, asked_at}
use Rattle.hb_ready.specs.declared.link.Link.{Link}
use Rattle.hb_ready.specs.declared.links.Links.{Links}
use Rattle.hb_ready.proofs.Sights.{known-grows, asked-grows, numbered-grows}
use Rattle.hb_turns.specs.Ends.{is_close_for_lack}
use Rattle.hb_turns.specs.Notes.{AreTaken}
use Rattle.hb_turns.specs.Settled.{SettledAt}
use Rattle.hb_turns.specs.Shown.{Shown, Stirs, IsSame, Tells, MayCome}
use Rattle.hb_turns.specs.Stands.{Obeys, Matches, Stands, StoodLast, Lacks, Tracks, Left, Watched, WatchedBy, births_behind}
use Rattle.hb_turns.specs.declared.run.Records.{Records}
use Rattle.hb_turns.specs.declared.run.Run.{Run}
use Rattle.hb_turns.specs.declared.taken.Taken.{Taken}
use Rattle.hb_turns.proofs.Summing.{revoked-grows}
use Rattle.hb_turns.proofs.Watching.{watched-stirs, watched-kept, watched-noted}

-- an entry may come there, for the loop's laws
pub record Comes {N : Type 0} (stands : List Note → N → List Entry → Type 0) (shown : N → Shown) (trace : List Entry)
    (x : Entry) : Type 0 where
  pub numbers : Numbers trace x
  pub awake : IsAwake trace x
  pub settled : SettledAt stands shown trace x

pub obeys-grows : {N : Type 0} (stands : List Note → N → List Entry → Type 0) (shown : N → Shown) (old new : Records) (trace : List Entry)
    (x : Entry) → Comes stands shown trace x → Tracks old new x → Obeys stands shown old trace → Obeys stands shown new (trace ++ x ∷ [])
obeys-grows stands shown old new trace x comes tracks o = record {
  links = λ l. tracks.links l ∙ ap (λ (k : Option Link). link_behind l k x) (o.links l)
      ∙ sym (known-grows l trace x o.numbered comes.numbers);
  doors = λ d. tracks.doors d ∙ ap (λ (b : Bool). asked_behind d b x) (o.doors d) ∙ sym (asked-grows d trace x);
  numbered = numbered-grows trace x o.numbered comes.numbers;
  births_are = tracks.births_are ∙ born old.births trace x o.births_are comes.numbers ∙ sym (births-grow trace x);
  wanting_is = tracks.wanting_is ∙ either (is_close_for_lack x) old.wanting
      ∙ ap (λ (b : Bool). b || is_close_for_lack x) o.wanting_is ∙ sym (any-grows is_close_for_lack trace x);
  revoked_are = tracks.revoked_are ∙ revoked-grows (λ l. (kept old.links).links l) old.revoked trace x o.links o.revoked_are;
  awake = AtEach-grows IsAwake trace x o.awake comes.awake;
  settled = AtEach-grows (SettledAt stands shown) trace x o.settled comes.settled;
}
  where
    either : (a b : Bool) → (a || b) ≡ (b || a)
    either true true = refl
    either true false = refl
    either false true = refl
    either false false = refl

    more : (n m : ℕ) → n ≡ m → n ≡ m + 0
    more n m is = is ∙ sym (add-zero m)

    born : (n : ℕ) (trace : List Entry) (x : Entry) → n ≡ births trace → Numbers trace x
        → births_behind n x ≡ births trace + (if is_birth x then 1 else 0)
    born n trace (e.Accepted l door) is next = next
    born n trace (e.Dialled l to why) is next = next
    born n trace (e.DialFailed to why) is next = more n (births trace) is
    born n trace (e.Opened l) is next = more n (births trace) is
    born n trace (e.Came l bytes) is next = more n (births trace) is
    born n trace (e.Ended l) is next = more n (births trace) is
    born n trace (e.Broke l) is next = more n (births trace) is
    born n trace (e.Went l bytes) is next = more n (births trace) is
    born n trace (e.Balked w) is next = more n (births trace) is
    born n trace (e.Shut l) is next = more n (births trace) is
    born n trace (e.Closed l cause) is next = more n (births trace) is
    born n trace e.Tick is next = more n (births trace) is
    born n trace (e.Wait ready how) is next = more n (births trace) is

-- where the trace is told
pub on : (P Q : List Entry → Type 0) (xs : List Entry) (before behind : Option (List Entry)) → behind ≡ with_entries xs before
    → ((trace : List Entry) → P trace → Q (trace ++ xs)) → IfSome before P → IfSome behind Q
on P Q xs None behind is each had = subst (λ (o : Option (List Entry)). IfSome o Q) (sym is) tt
on P Q xs (Some trace) behind is each had = subst (λ (o : Option (List Entry)). IfSome o Q) (sym is) (each trace had)

-- no entry was told
pub same : (P Q : List Entry → Type 0) (before behind : Option (List Entry)) → behind ≡ with_entries [] before
    → ((trace : List Entry) → P trace → Q trace) → IfSome before P → IfSome behind Q
same P Q before behind is each =
    on P Q [] before behind is (λ trace had. subst Q (sym (append-nil trace)) (each trace had))

-- a link that is known lives, and is what the trace tells
pub known_lives : (l : ℕ) (trace : List Entry) (k : Link) → known l trace ≡ Some k → (lives l trace ≡ true) × (sight l trace ≡ k)
known_lives l trace k is = by (lives l trace) refl is
  where
    by : (b : Bool) → lives l trace ≡ b → (if b then Some (sight l trace) else None) ≡ Some k → (lives l trace ≡ true) × (sight l trace ≡ k)
    by true alive is = (alive, cc)
    by false dead is = absurd cc

pub each : (P Q : List Entry → Type 0) (told : Option (List Entry)) → ((trace : List Entry) → P trace → Q trace) → IfSome told P
    → IfSome told Q
each P Q None all had = tt
each P Q (Some trace) all had = all trace had

-- what was taken is the same
pub held_still : {N : Type 0} (old new : Run N) (notes : List Note) → new.taken ≡ old.taken → AreTaken old.taken notes
    → AreTaken new.taken notes
held_still old new notes same are = subst (λ (t : Taken). AreTaken t notes) (sym same) are

-- what stirred is the same
pub stirs_none : (trace : List Entry) (s : Shown) → Stirs trace s s
stirs_none trace s =
    record { kept = λ l alive is. is; reads = λ l alive none. inl none; writes = λ l alive none. inl none; ends_for = refl }

-- one more entry: the records follow it, and so does the node
pub stands-grows : {N : Type 0} (stands : List Note → N → List Entry → Type 0) (shown : N → Shown) (old new : Run N) (x : Entry)
    (trace : List Entry) (s : Stands stands shown old trace) → Comes stands shown trace x → Tracks old.records new.records x
    → (Watched shown old → WatchedBy (kept new.records.links) (shown old.node)) → new.taken ≡ old.taken
    → stands s.matches.notes new.node (trace ++ x ∷ []) × Stirs (trace ++ x ∷ []) (shown old.node) (shown new.node)
    → Stands stands shown new (trace ++ x ∷ [])
stands-grows stands shown old new x trace s comes tracks watch keep told =
    let obeys = obeys-grows stands shown old.records new.records trace x comes tracks s.matches.obeys in
    record {
      matches = record {
        notes = s.matches.notes;
        node = told.0;
        taken_are = held_still old new s.matches.notes keep s.matches.taken_are;
        obeys = obeys;
      };
      watched = watched-stirs (kept new.records.links) (trace ++ x ∷ []) (shown old.node) (shown new.node) obeys.links told.1
          (watch s.watched);
      going = told.1.ends_for ∙ s.going;
    }

-- no entry: the node gave no act, or a dial
pub stands-acts : {N : Type 0} (stands : List Note → N → List Entry → Type 0) (shown : N → Shown) (run : Run N) (node : N)
    (told : Option (List Entry))
    → ((notes : List Note) (trace : List Entry) → stands notes run.node trace
    → stands notes node trace × Stirs trace (shown run.node) (shown node))
    → IfSome told (Stands stands shown run) → IfSome told (Stands stands shown (record run { node = node }))
stands-acts stands shown run node told acts had =
    each (Stands stands shown run) (Stands stands shown (record run { node = node })) told
    (λ trace s. let it = acts s.matches.notes trace s.matches.node in
    record {
      matches = record { notes = s.matches.notes; node = it.0; taken_are = s.matches.taken_are; obeys = s.matches.obeys };
      watched = watched-stirs (kept run.records.links) trace (shown run.node) (shown node) s.matches.obeys.links it.1 s.watched;
      going = it.1.ends_for ∙ s.going;
    }) had

-- the call told an entry, the records follow it, and the node was told
pub moved : {N : Type 0} (stands : List Note → N → List Entry → Type 0) (shown : N → Shown) (old new : Run N) (x : Entry)
    (P : List Entry → Type 0) (before behind : Option (List Entry)) → behind ≡ with_entries (x ∷ []) before → new.taken ≡ old.taken
    → Tells stands shown x old.node new.node → Tracks old.records new.records x
    → (Watched shown old → WatchedBy (kept new.records.links) (shown old.node))
    → ((trace : List Entry) → P trace → Stands stands shown old trace × MayCome (shown old.node) trace x × Comes stands shown trace x)
    → IfSome before P → IfSome behind (Stands stands shown new)
moved stands shown old new x P before behind adds keep tells tracks watch comes had =
    on P (Stands stands shown new) (x ∷ []) before behind adds
    (λ trace p. let may = comes trace p in
    stands-grows stands shown old new x trace may.0 may.2 tracks watch keep
    (tells may.0.matches.notes trace may.0.matches.node may.1)) had

-- a node stands for the trace
pub stood_whole : {N : Type 0} (stands : List Note → N → List Entry → Type 0) (shown : N → Shown) (notes : List Note) (n : N)
    (trace : List Entry) → stands notes n trace → (shown n).ends_for ≡ None → StoodLast stands shown trace
stood_whole stands shown notes n trace had going = record {
  front = trace;
  last = None;
  trace_is = sym (append-nil trace);
  notes = notes;
  node = n;
  stands_for = had;
  going = going;
  allows = tt;
}

-- or for all but the last entry
pub stood_last : {N : Type 0} (stands : List Note → N → List Entry → Type 0) (shown : N → Shown) (notes : List Note) (n : N)
    (trace : List Entry) (x : Entry) → stands notes n trace → (shown n).ends_for ≡ None → MayCome (shown n) trace x
    → StoodLast stands shown (trace ++ x ∷ [])
stood_last stands shown notes n trace x had going may = record {
  front = trace;
  last = Some x;
  trace_is = refl;
  notes = notes;
  node = n;
  stands_for = had;
  going = going;
  allows = may;
}

-- memory lacked where a run went on
pub stands_lacks : {N : Type 0} (stands : List Note → N → List Entry → Type 0) (shown : N → Shown) (run : Run N) (trace : List Entry)
    → Stands stands shown run trace → Lacks stands shown run.records trace
stands_lacks stands shown run trace s =
    let m = s.matches in (m.obeys, stood_whole stands shown m.notes run.node trace m.node s.going)

pub lacks_here : {N : Type 0} (stands : List Note → N → List Entry → Type 0) (shown : N → Shown) (run : Run N) (told : Option (List Entry))
    → IfSome told (Stands stands shown run) → IfSome told (Lacks stands shown run.records)
lacks_here stands shown run told had =
    each (Stands stands shown run) (Lacks stands shown run.records) told (stands_lacks stands shown run) had

-- the call told an entry, and the node had no memory
pub lacked : {N : Type 0} (stands : List Note → N → List Entry → Type 0) (shown : N → Shown) (old : Run N) (new : Records) (x : Entry)
    (P : List Entry → Type 0) (before behind : Option (List Entry)) → behind ≡ with_entries (x ∷ []) before → Tracks old.records new x
    → ((trace : List Entry) → P trace → Stands stands shown old trace × MayCome (shown old.node) trace x × Comes stands shown trace x)
    → IfSome before P → IfSome behind (Lacks stands shown new)
lacked stands shown old new x P before behind adds tracks comes had =
    on P (Lacks stands shown new) (x ∷ []) before behind adds
    (λ trace p. let may = comes trace p in let m = may.0.matches in (
      obeys-grows stands shown old.records new trace x may.2 tracks m.obeys,
      stood_last stands shown m.notes old.node trace x m.node may.0.going may.1,
    )) had

-- so it is left where memory lacked
pub left : {A E N : Type 0} (stands : List Note → N → List Entry → Type 0) (shown : N → Shown) (r : Result A E) (run : Run N)
    (told : Option (List Entry)) → IfOk r (λ x. ⊥) → IfSome told (Lacks stands shown run.records)
    → IfSome told (Left stands shown r run)
left stands shown (Ok x) run told none had = absurd none
left stands shown (Err why) run told none had = had

-- the list changed alone
pub relisted : {N : Type 0} (stands : List Note → N → List Entry → Type 0) (shown : N → Shown) (run : Run N) (links : Links)
    → ((l : ℕ) → (kept links).links l ≡ (kept run.records.links).links l)
    → (Watched shown run → WatchedBy (kept links) (shown run.node)) → (trace : List Entry) → Stands stands shown run trace
    → Stands stands shown (record run { records = record run.records { links = links } }) trace
relisted stands shown run links same watch trace s =
    let o = s.matches.obeys in
    record {
      matches = record {
        notes = s.matches.notes;
        node = s.matches.node;
        taken_are = s.matches.taken_are;
        obeys = record {
          links = λ l. same l ∙ o.links l;
          doors = o.doors;
          numbered = o.numbered;
          births_are = o.births_are;
          wanting_is = o.wanting_is;
          revoked_are = o.revoked_are;
          awake = o.awake;
          settled = o.settled;
        };
      };
      watched = watch s.watched;
      going = s.going;
    }

-- room was taken for a birth
pub reserved : {N : Type 0} (stands : List Note → N → List Entry → Type 0) (shown : N → Shown) (run : Run N) (links : Links)
    (told : Option (List Entry)) → IsKept (kept run.records.links) (kept links) → IfSome told (Stands stands shown run)
    → IfSome told (Stands stands shown (record run { records = record run.records { links = links } }))
reserved stands shown run links told is had =
    each (Stands stands shown run) (Stands stands shown (record run { records = record run.records { links = links } })) told
    (relisted stands shown run links is.links (watched-kept (kept run.records.links) (kept links) (shown run.node) is)) had

-- notes were taken
pub stands-noted : {N : Type 0} (stands : List Note → N → List Entry → Type 0) (shown : N → Shown) (old new : Run N) (trace : List Entry)
    → new.records ≡ old.records → IsSame (shown old.node) (shown new.node)
    → ((l : ℕ) → (shown new.node).stirs l ≡ (shown old.node).stirs l) → Stands stands shown old trace → Matches stands shown new trace
    → Stands stands shown new trace
stands-noted stands shown old new trace records same stirs s matches = record {
  matches = matches;
  watched = subst (λ (r : Records). WatchedBy (kept r.links) (shown new.node)) (sym records)
      (watched-noted (kept old.records.links) (shown old.node) (shown new.node) same stirs s.watched);
  going = same.ends_for ∙ s.going;
}

-- the same is to be done, twice
pub same_both : (r s t : Shown) → IsSame r s → IsSame s t → IsSame r t
same_both r s t first second = record {
  wants = λ l. second.wants l ∙ first.wants l;
  output = λ l. second.output l ∙ first.output l;
  idle = second.idle ∙ first.idle;
  none_closes = second.none_closes ∙ first.none_closes;
  ends_for = second.ends_for ∙ first.ends_for;
}

pub same_none : (s : Shown) → IsSame s s
same_none s = record { wants = λ l. refl; output = λ l. refl; idle = refl; none_closes = refl; ends_for = refl }

-- a link that is born has the next number
pub numbered_too : (P : List Entry → Type 0) (told : Option (List Entry)) (l : ℕ) → HasNextNumber told (New l) → IfSome told P
    → IfSome told (λ trace. P trace × (l ≡ births trace + 1))
numbered_too P None l next had = tt
numbered_too P (Some trace) l next had = (had, next)

-- no entry was told, since the world had no memory
pub untold : {N : Type 0} (stands : List Note → N → List Entry → Type 0) (shown : N → Shown) (old : Run N)
    (before behind : Option (List Entry)) → behind ≡ with_entries [] before
    → IfSome before (Stands stands shown old) → IfSome behind (Lacks stands shown old.records)
untold stands shown old before behind adds had =
    same (Stands stands shown old) (Lacks stands shown old.records) before behind adds (stands_lacks stands shown old) had

-- a link that lives is closed, or shut
pub on_close : (P Q : List Entry → Type 0) (l : ℕ) (cause : Cause) (before behind : Option (List Entry))
    → behind ≡ with_closed l cause before → ((trace : List Entry) → P trace → (lives l trace ≡ true) × Q (trace ++ e.Closed l cause ∷ []))
    → IfSome before P → IfSome behind Q
on_close P Q l cause None behind is all had = subst (λ (o : Option (List Entry)). IfSome o Q) (sym is) tt
on_close P Q l cause (Some trace) behind is all had =
    let it = all trace had in
    subst (λ (o : Option (List Entry)). IfSome o Q) (sym is)
    (subst (λ (b : Bool). Q (trace ++ (if b then e.Closed l cause ∷ [] else []))) (sym it.0) it.1)

pub on_shut : (P Q : List Entry → Type 0) (l : ℕ) (before behind : Option (List Entry))
    → behind ≡ with_shut l before
    → ((trace : List Entry) → P trace → (lives l trace ≡ true) × (was_shut l trace ≡ false) × Q (trace ++ e.Shut l ∷ []))
    → IfSome before P → IfSome behind Q
on_shut P Q l None behind is all had = subst (λ (o : Option (List Entry)). IfSome o Q) (sym is) tt
on_shut P Q l (Some trace) behind is all had =
    let it = all trace had in
    subst (λ (o : Option (List Entry)). IfSome o Q) (sym is)
    (subst (λ (b : Bool). Q (trace ++ (if b && not (was_shut l trace) then e.Shut l ∷ [] else []))) (sym it.0)
    (subst (λ (b : Bool). Q (trace ++ (if true && not b then e.Shut l ∷ [] else []))) (sym it.1) it.2))

-- what is known of links and doors stays behind such an entry
abbrev pub IsPlain : Entry → Type 0
IsPlain (e.DialFailed to why) = ⊤
IsPlain (e.Broke l) = ⊤
IsPlain (e.Shut l) = ⊤
IsPlain e.Tick = ⊤
IsPlain _ = ⊥

pub still : (o : Option Link) → o ≡ option_map (λ (k : Link). k) o
still None = refl
still (Some k) = refl

pub unmoved : (r : Records) (x : Entry) → IsPlain x → Tracks r r x
unmoved r (e.DialFailed to why) plain = record { links = λ l. still _; doors = λ d. refl; births_are = refl; wanting_is = refl; revoked_are = refl }
unmoved r (e.Broke l) plain = record { links = λ l. still _; doors = λ d. refl; births_are = refl; wanting_is = refl; revoked_are = refl }
unmoved r (e.Shut l) plain = record { links = λ l. still _; doors = λ d. refl; births_are = refl; wanting_is = refl; revoked_are = refl }
unmoved r e.Tick plain = record { links = λ l. still _; doors = λ d. refl; births_are = refl; wanting_is = refl; revoked_are = refl }
unmoved r _ plain = absurd plain

-- what was asked for a dial
pub dial_comes : {N : Type 0} (stands : List Note → N → List Entry → Type 0) (shown : N → Shown) (run : Run N) (to : Target) (why : Why)
    (l : ℕ)
    → (shown run.node).dials ≡ Some (to, why) → (trace : List Entry)
    → Stands stands shown run trace × (l ≡ births trace + 1)
    → Stands stands shown run trace × MayCome (shown run.node) trace (e.Dialled l to why) × Comes stands shown trace (e.Dialled l to why)
dial_comes stands shown run to why l dials trace had =
    (had.0, (dials, had.1), record { numbers = had.1; awake = tt; settled = tt })

pub dial_fails : {N : Type 0} (stands : List Note → N → List Entry → Type 0) (shown : N → Shown) (run : Run N) (to : Target) (why : Why)
    → (shown run.node).dials ≡ Some (to, why) → (trace : List Entry) → Stands stands shown run trace
    → Stands stands shown run trace × MayCome (shown run.node) trace (e.DialFailed to why) × Comes stands shown trace (e.DialFailed to why)
dial_fails stands shown run to why dials trace had = (had, dials, record { numbers = tt; awake = tt; settled = tt })

-- a call that moved nothing, or a wait: the node isn't told
pub rested : {N : Type 0} (stands : List Note → N → List Entry → Type 0) (shown : N → Shown) (old new : Run N) (x : Entry)
    (P : List Entry → Type 0) (before behind : Option (List Entry)) → behind ≡ with_entries (x ∷ []) before
    → new.node ≡ old.node → new.taken ≡ old.taken
    → ((notes : List Note) (trace : List Entry) → MayCome (shown old.node) trace x → stands notes old.node trace
    → stands notes old.node (trace ++ x ∷ []))
    → Tracks old.records new.records x
    → (Watched shown old → WatchedBy (kept new.records.links) (shown old.node))
    → ((trace : List Entry) → P trace → Stands stands shown old trace × MayCome (shown old.node) trace x × Comes stands shown trace x)
    → IfSome before P → IfSome behind (Stands stands shown new)
rested stands shown old new x P before behind adds node keep rests tracks watch comes had =
    on P (Stands stands shown new) (x ∷ []) before behind adds
    (λ trace p. let may = comes trace p in
    stands-grows stands shown old new x trace may.0 may.2 tracks watch keep
    (subst (λ n. stands may.0.matches.notes n (trace ++ x ∷ []) × Stirs (trace ++ x ∷ []) (shown old.node) (shown n)) (sym node)
    (rests may.0.matches.notes trace may.1 may.0.matches.node, stirs_none (trace ++ x ∷ []) (shown old.node)))) had

-- the buffer alone changed
pub same_run : {N : Type 0} (stands : List Note → N → List Entry → Type 0) (shown : N → Shown) (old new : Run N)
    (told : Option (List Entry))
    → new.node ≡ old.node → new.records ≡ old.records → new.taken ≡ old.taken → IfSome told (Stands stands shown old)
    → IfSome told (Stands stands shown new)
same_run stands shown old new told node records keep had =
    each (Stands stands shown old) (Stands stands shown new) told
    (λ trace s. record {
      matches = record {
        notes = s.matches.notes;
        node = subst (λ n. stands s.matches.notes n trace) (sym node) s.matches.node;
        taken_are = held_still old new s.matches.notes keep s.matches.taken_are;
        obeys = subst (λ (r : Records). Obeys stands shown r trace) (sym records) s.matches.obeys;
      };
      watched = subst (λ (r : Records). WatchedBy (kept r.links) (shown new.node)) (sym records)
          (subst (λ n. WatchedBy (kept old.records.links) (shown n)) (sym node) s.watched);
      going = ap (λ n. (shown n).ends_for) node ∙ s.going;
    }) had

-- a wait named the door, so an accept may be made at it
pub accept_comes : {N : Type 0} (stands : List Note → N → List Entry → Type 0) (shown : N → Shown) (run : Run N) (door : Door) (l : ℕ)
    → (shown run.node).idle ≡ true → asked_at run.records.asked door ≡ true → (trace : List Entry)
    → Stands stands shown run trace × (l ≡ births trace + 1)
    → Stands stands shown run trace × MayCome (shown run.node) trace (e.Accepted l door) × Comes stands shown trace (e.Accepted l door)
accept_comes stands shown run door l idle is trace had =
    (had.0, ((had.0.going, idle), had.1), record { numbers = had.1; awake = sym (had.0.matches.obeys.doors door) ∙ is; settled = tt })

pub accept_balks : {N : Type 0} (stands : List Note → N → List Entry → Type 0) (shown : N → Shown) (run : Run N) (door : Door)
    → (shown run.node).idle ≡ true → asked_at run.records.asked door ≡ true → (trace : List Entry) → Stands stands shown run trace
    → Stands stands shown run trace × MayCome (shown run.node) trace (e.Balked (way.Accept door))
    × Comes stands shown trace (e.Balked (way.Accept door))
accept_balks stands shown run door idle is trace s =
    (s, (s.going, idle), record { numbers = tt; awake = sym (s.matches.obeys.doors door) ∙ is; settled = tt })

pub accept_tracks : (r : Records) (now : Asked) (door : Door)
    → ((d : Door) → asked_at now d ≡ (if same_door door d then false else asked_at r.asked d))
    → Tracks r (record r { asked = now }) (e.Balked (way.Accept door))
accept_tracks r now door sets = record {
  links = λ l. still _;
  doors = λ d. sets d ∙ off (same_door door d) (asked_at r.asked d);
  births_are = refl;
  wanting_is = refl;
  revoked_are = refl;
}
  where
    off : (b a : Bool) → (if b then false else a) ≡ (not b && a)
    off true a = refl
    off false a = refl
