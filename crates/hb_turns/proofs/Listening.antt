-- The listens that begin a run.
use Rattle.std.proofs.Common.{◌≡◌, ℕ, Bool, true, false, ◌&&◌, not, if◌then◌else◌, List, [], ◌∷◌, ◌++◌, map, Option, Some, None, Result, Ok, Err, IfOk, IfSome, refl, ap, sym, ◌∙◌, subst, arith, append_assoc, zero-add}
use Rattle.std.specs.List.{list_all}
use Rattle.std.proofs.lemmas.List.{append-nil}
use Rattle.std.specs.declared.alloc.AllocError.{AllocError}
use Rattle.hb_base.specs.declared.door.Door.{Door}
use Rattle.hb_base.specs.declared.note.Note.{Note}
use Rattle.hb_base.specs.declared.target.Target.{Target}
use Rattle.hb_world.specs.Calls.{with_entries}
use Rattle.hb_world.specs.ScriptAnswers.{is_listen}
use Rattle.hb_world.specs.Trace.{same_door}
use Rattle.hb_world.specs.declared.entry.Entry.{Entry}
use Rattle.hb_ready.specs.Registry.{kept}
use Rattle.hb_ready.specs.Sight.{asked_at}
use Rattle.hb_ready.specs.declared.doors.Asked.{Asked}
use Rattle.hb_turns.specs.Ends.{end_of, end_by, RunsOn, ticks, waits, is_tick, is_wait}
use Rattle.hb_turns.specs.Listens.{DoorAt, given, listen_at, LeavesDoors}
use Rattle.hb_turns.specs.Reckons.{Begins, Begun, FailsAt, StopsAt, AreLeft, Reckons, Finishes}
use Rattle.hb_turns.specs.Shown.{Shown, MayCome}
use Rattle.hb_turns.specs.Stands.{Lacks, Stands, Tracks, Watched, WatchedBy}
use Rattle.hb_turns.specs.declared.run.Records.{Records}
use Rattle.hb_turns.specs.declared.run.Run.{Run}
use Rattle.hb_turns.specs.declared.served.ServeEnd.{ServeEnd}
use Rattle.hb_turns.specs.declared.served.ServeEnd.TheVariants as ends
use Rattle.hb_turns.specs.declared.words.ServeWords.{ServeWords}
use Rattle.hb_turns.proofs.Counting.{count-cons, count-grows}
use Rattle.hb_turns.proofs.Holding.{on, each, rested, still}

all_listens : (made : List DoorAt) → list_all is_listen (map (listen_at true) made) ≡ true
all_listens [] = refl
all_listens (d ∷ made) = all_listens made

map_more : (made : List DoorAt) (d : DoorAt) → map (listen_at true) made ++ listen_at true d ∷ [] ≡ map (listen_at true) (made ++ d ∷ [])
map_more [] d = refl
map_more (b ∷ made) d = ap (λ (es : List Entry). listen_at true b ∷ es) (map_more made d)

-- a door that listens isn't asked
pub listen_tracks : (r : Records) (now : Asked) (door : Door) (at : Target) (b : Bool)
    → ((d : Door) → asked_at now d ≡ (if same_door door d then false else asked_at r.asked d))
    → Tracks r (record r { asked = now }) (listen_at b (door, at))
listen_tracks r now door at b sets = record {
  links = λ l. still _;
  doors = λ d. sets d ∙ off (same_door door d) (asked_at r.asked d);
  births_are = refl;
  wanting_is = refl;
  revoked_are = refl;
}
  where
    off : (b a : Bool) → (if b then false else a) ≡ (not b && a)
    off true a = refl
    off false a = refl

module _ {N : Type 0} (stands : List Note → N → List Entry → Type 0) (shown : N → Shown) where
  -- a listen was made
  listen_stands : (old new : Run N) (made : List DoorAt) (b : Bool) (d : DoorAt) (trace : List Entry) → new.node ≡ old.node
      → new.taken ≡ old.taken
      → ((notes : List Note) (trace : List Entry) → MayCome (shown old.node) trace (listen_at b d) → stands notes old.node trace
      → stands notes old.node (trace ++ listen_at b d ∷ []))
      → Tracks old.records new.records (listen_at b d) → (Watched shown old → WatchedBy (kept new.records.links) (shown old.node))
      → Begins stands shown old made trace → Stands stands shown new (trace ++ listen_at b d ∷ [])
  listen_stands old new made b d trace node keep rests tracks watch had =
      rested stands shown old new (listen_at b d) (Begins stands shown old made) (Some trace) (Some (trace ++ listen_at b d ∷ [])) refl node
      keep rests tracks watch
      (λ trace begins. (
        begins.stands_for,
        ap (λ (es : List Entry). list_all is_listen es) begins.listens ∙ all_listens made,
        record { numbers = tt; awake = tt; settled = tt },
      ))
      had

  -- and the door listens
  pub listens_on : (old new : Run N) (made : List DoorAt) (d : DoorAt) (before behind : Option (List Entry))
      → behind ≡ with_entries (listen_at true d ∷ []) before → new.node ≡ old.node → new.taken ≡ old.taken
      → ((notes : List Note) (trace : List Entry) → MayCome (shown old.node) trace (listen_at true d) → stands notes old.node trace
      → stands notes old.node (trace ++ listen_at true d ∷ []))
      → Tracks old.records new.records (listen_at true d) → (Watched shown old → WatchedBy (kept new.records.links) (shown old.node))
      → IfSome before (Begins stands shown old made)
      → IfSome behind (Begins stands shown new (made ++ d ∷ []))
  listens_on old new made d before behind adds node keep rests tracks watch =
      on (Begins stands shown old made) (Begins stands shown new (made ++ d ∷ [])) (listen_at true d ∷ []) before behind adds
      (λ trace had. record {
        stands_for = listen_stands old new made true d trace node keep rests tracks watch had;
        listens = ap (λ (es : List Entry). es ++ listen_at true d ∷ []) had.listens ∙ map_more made d;
      })

  -- or the listen failed
  pub listen_fails : (old new : Run N) (made : List DoorAt) (d : DoorAt) (before behind : Option (List Entry))
      → behind ≡ with_entries (listen_at false d ∷ []) before → new.node ≡ old.node → new.taken ≡ old.taken
      → ((notes : List Note) (trace : List Entry) → MayCome (shown old.node) trace (listen_at false d) → stands notes old.node trace
      → stands notes old.node (trace ++ listen_at false d ∷ []))
      → Tracks old.records new.records (listen_at false d) → (Watched shown old → WatchedBy (kept new.records.links) (shown old.node))
      → IfSome before (Begins stands shown old made)
      → IfSome behind (λ trace. (ends.WorldFault ≡ ends.WorldFault) × Stands stands shown new trace × FailsAt (made ++ d ∷ []) trace)
  listen_fails old new made d before behind adds node keep rests tracks watch =
      on (Begins stands shown old made)
      (λ trace. (ends.WorldFault ≡ ends.WorldFault) × Stands stands shown new trace × FailsAt (made ++ d ∷ []) trace)
      (listen_at false d ∷ []) before behind adds
      (λ trace had. (
        refl,
        listen_stands old new made false d trace node keep rests tracks watch had,
        record {
          made = made;
          at = d;
          left = [];
          doors_are = refl;
          trace_is = ap (λ (es : List Entry). es ++ listen_at false d ∷ []) had.listens;
        },
      ))

pub stops_more : (doors more : List DoorAt) (trace : List Entry) → StopsAt doors trace → StopsAt (doors ++ more) trace
stops_more doors more trace s = record {
  made = s.made;
  left = s.left ++ more;
  doors_are = ap (λ (ds : List DoorAt). ds ++ more) s.doors_are ∙ append_assoc s.made s.left more;
  trace_is = s.trace_is;
}

-- each of these entries is a listen
-- nor does it matter behind a listen that failed which doors are left
pub fails_more : (doors more : List DoorAt) (trace : List Entry) → FailsAt doors trace → FailsAt (doors ++ more) trace
fails_more doors more trace f = record {
  made = f.made;
  at = f.at;
  left = f.left ++ more;
  doors_are = ap (λ (ds : List DoorAt). ds ++ more) f.doors_are ∙ append_assoc f.made (f.at ∷ f.left) more;
  trace_is = f.trace_is;
}

one_listen : (made : List DoorAt) (before : List Entry) (x : Entry) (after : List Entry) → map (listen_at true) made ≡ before ++ x ∷ after
    → (d : DoorAt) × (x ≡ listen_at true d)
one_listen [] [] x after is = absurd cc
one_listen [] (b ∷ before) x after is = absurd cc
one_listen (d ∷ made) [] x after is = (d, (let same : listen_at true d ≡ x = cc in sym same))
one_listen (d ∷ made) (b ∷ before) x after is = one_listen made before x after cc

listens_run : (stated : Option ℕ) (made : List DoorAt) → RunsOn stated (map (listen_at true) made)
listens_run stated made before x after is =
    let it = one_listen made before x after is in
    subst (λ (y : Entry). end_by stated before y ≡ None) (sym it.1) refl

no_ticks : (made : List DoorAt) → ticks (map (listen_at true) made) ≡ 0
no_ticks [] = refl
no_ticks (d ∷ made) = count-cons is_tick (listen_at true d) (map (listen_at true) made) ∙ zero-add _ ∙ no_ticks made

no_waits : (made : List DoorAt) → waits (map (listen_at true) made) ≡ 0
no_waits [] = refl
no_waits (d ∷ made) = count-cons is_wait (listen_at true d) (map (listen_at true) made) ∙ zero-add _ ∙ no_waits made

all_left : (stated : Option ℕ) (trace : List Entry) → ticks trace ≡ 0 → AreLeft stated stated trace
all_left None trace none = tt
all_left (Some n) trace none = omega (arith, none)

-- each door listens
pub listens_reckon : {N : Type 0} (stands : List Note → N → List Entry → Type 0) (shown : N → Shown) (run : Run N) (words : ServeWords)
    (told : Option (List Entry)) → IfSome told (Begins stands shown run (given words.doors))
    → IfSome told (Reckons words words.ticks 0 0)
listens_reckon stands shown run words told =
    each (Begins stands shown run (given words.doors)) (Reckons words words.ticks 0 0) told
    (λ trace had.
    let made = given words.doors in
    subst (λ (es : List Entry). Reckons words words.ticks 0 0 es) (sym had.listens) (record {
      listened = record { rest = []; trace_is = sym (append-nil (map (listen_at true) made)); no_more = refl };
      runs_on = listens_run words.ticks made;
      to_come = all_left words.ticks (map (listen_at true) made) (no_ticks made);
      turns = omega arith;
      few_waits = (let none = no_waits made in omega (arith, none));
    }))

pub fault_finishes : (words : ServeWords) (trace : List Entry) → FailsAt (given words.doors) trace → Finishes words ends.WorldFault trace
fault_finishes words trace f =
    subst (λ (es : List Entry). Finishes words ends.WorldFault es) (sym f.trace_is) (record {
      begins = record {
        made = f.made;
        left = f.at ∷ f.left;
        rest = listen_at false f.at ∷ [];
        doors_are = f.doors_are;
        trace_is = refl;
        leaves = ([], refl, refl);
      };
      ends_as = record {
        before = map (listen_at true) f.made;
        last = listen_at false f.at;
        trace_is = refl;
        runs_on = listens_run words.ticks f.made;
        ends = refl;
      };
      few_waits = (let none = no_waits f.made in
          rw (count-grows is_wait (map (listen_at true) f.made) (listen_at false f.at)) (omega (arith, none)));
      spends = tt;
    })

pub lack_finishes_listens : (words : ServeWords) (trace : List Entry) → StopsAt (given words.doors) trace
    → Finishes words ends.NoMemory trace
lack_finishes_listens words trace s =
    subst (λ (es : List Entry). Finishes words ends.NoMemory es) (sym s.trace_is) (record {
      begins = record {
        made = s.made;
        left = s.left;
        rest = [];
        doors_are = s.doors_are;
        trace_is = sym (append-nil (map (listen_at true) s.made));
        leaves = by s.left;
      };
      ends_as = listens_run words.ticks s.made;
      few_waits = (let none = no_waits s.made in omega (arith, none));
      spends = tt;
    })
  where
    by : (left : List DoorAt) → LeavesDoors ends.NoMemory left []
    by [] = refl
    by (d ∷ left) = refl

module _ {N : Type 0} (stands : List Note → N → List Entry → Type 0) (shown : N → Shown) where
  pub begun_lacks : {E : Type 0} (r : Result (Option ServeEnd) E) (run : Run N) (doors more : List DoorAt) (told : Option (List Entry))
      → IfOk r (λ x. ⊥) → IfSome told (λ trace. Lacks stands shown run.records trace × StopsAt doors trace)
      → IfSome told (Begun stands shown r run (doors ++ more))
  begun_lacks (Ok x) run doors more told none had = absurd none
  begun_lacks (Err why) run doors more told none had =
      each (λ trace. Lacks stands shown run.records trace × StopsAt doors trace)
      (λ trace. Lacks stands shown run.records trace × StopsAt (doors ++ more) trace) told
      (λ trace had. (had.0, stops_more doors more trace had.1)) had

  -- how a run begins is how it ends, where it ends there
  pub begun_finishes : (end : ServeEnd) (run : Run N) (words : ServeWords) (told : Option (List Entry))
      → IfSome told (λ trace. (end ≡ ends.WorldFault) × Stands stands shown run trace × FailsAt (given words.doors) trace)
      → IfSome told (Finishes words end)
  begun_finishes end run words told =
      each (λ trace. (end ≡ ends.WorldFault) × Stands stands shown run trace × FailsAt (given words.doors) trace) (Finishes words end) told
      (λ trace had. subst (λ (e : ServeEnd). Finishes words e trace) (sym had.0) (fault_finishes words trace had.2))

  pub lacks_finishes : {E : Type 0} (r : Result ServeEnd E) (run : Run N) (words : ServeWords) (told : Option (List Entry))
      → IfOk r (λ x. ⊥) → IfSome told (λ trace. Lacks stands shown run.records trace × StopsAt (given words.doors) trace)
      → IfSome told (Finishes words (end_of r))
  lacks_finishes (Ok x) run words told none had = absurd none
  lacks_finishes (Err why) run words told none had =
      each (λ trace. Lacks stands shown run.records trace × StopsAt (given words.doors) trace) (Finishes words ends.NoMemory) told
      (λ trace had. lack_finishes_listens words trace had.1) had

  -- what a listen that was made answers
  pub begun_more : (o : Option ServeEnd) (run : Run N) (doors : List DoorAt) (told : Option (List Entry)) → o ≡ None
      → IfSome told (Begun {E = AllocError} stands shown (Ok o) run doors) → IfSome told (Begins stands shown run doors)
  begun_more None run doors told is had = had
  begun_more (Some end) run doors told is had = absurd cc

  pub begun_end : (o : Option ServeEnd) (end : ServeEnd) (run : Run N) (doors : List DoorAt) (told : Option (List Entry)) → o ≡ Some end
      → IfSome told (Begun {E = AllocError} stands shown (Ok o) run doors)
      → IfSome told (λ trace. (end ≡ ends.WorldFault) × Stands stands shown run trace × FailsAt doors trace)
  begun_end None end run doors told is had = absurd cc
  begun_end (Some e) end run doors told is had =
      subst (λ (x : ServeEnd). IfSome told (λ trace. (x ≡ ends.WorldFault) × Stands stands shown run trace × FailsAt doors trace))
      (let same : e ≡ end = cc in same) had

  -- and so it ends, whichever doors are left
  pub begun_fails : (o : Option ServeEnd) (end : ServeEnd) (run : Run N) (doors more : List DoorAt) (told : Option (List Entry))
      → o ≡ Some end → IfSome told (Begun {E = AllocError} stands shown (Ok o) run doors)
      → IfSome told (λ trace. (end ≡ ends.WorldFault) × Stands stands shown run trace × FailsAt (doors ++ more) trace)
  begun_fails o end run doors more told is had =
      each (λ trace. (end ≡ ends.WorldFault) × Stands stands shown run trace × FailsAt doors trace)
      (λ trace. (end ≡ ends.WorldFault) × Stands stands shown run trace × FailsAt (doors ++ more) trace) told
      (λ trace f. (f.0, f.1, fails_more doors more trace f.2)) (begun_end o end run doors told is had)
