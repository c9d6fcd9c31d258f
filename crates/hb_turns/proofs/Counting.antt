-- What is counted of a run, behind calls, waits and ticks, and at its end.
use Rattle.std.proofs.Common.{◌≡◌, ℕ, ◌+◌, ◌-◌, ◌*◌, ◌≤◌, ◌<◌, ◌==◌, Bool, true, false, ◌&&◌, ◌||◌, not, cond, if◌then◌else◌, List, [], ◌∷◌, ◌++◌, map, Option, Some, None, Result, Ok, Err, IfOk, OnOk, IfSome, refl, ap, sym, ◌∙◌, subst, inl, inr, arith, append_assoc, zero-add, eqb-true}
use Rattle.std.specs.Prelude.{count_by}
use Rattle.std.specs.List.{list_all}
use Rattle.std.proofs.lemmas.List.{append-nil}
use Rattle.std.proofs.lemmas.List.Sums.{sum_by-append, sum_by-cons}
use Rattle.hb_world.specs.Calls.{with_entries}
use Rattle.hb_world.specs.ScriptAnswers.{is_listen}
use Rattle.hb_world.specs.Trace.{is_waited}
use Rattle.hb_world.specs.declared.entry.Entry.{Entry}
use Rattle.hb_world.specs.declared.entry.Entry.TheVariants as e
use Rattle.hb_world.specs.declared.entry.ReadyItem.{ReadyItem}
use Rattle.hb_world.specs.declared.entry.Way.TheVariants as way
use Rattle.hb_world.specs.declared.entry.Woken.{Woken}
use Rattle.hb_world.specs.declared.entry.Woken.TheVariants as woken
use Rattle.hb_world.proofs.TraceLemmas.{AtEach-grows, any-grows}
use Rattle.hb_turns.specs.Ends.{is_tick, ticks, are_spent, end_by_wait, end_by, is_move, is_wait, waits, moves, end_of}
use Rattle.hb_turns.specs.Listens.{DoorAt, given, listen_at, Listened, BeginsWith}
use Rattle.hb_turns.specs.Reckons.{is_plain, Adds, one_less, is_spent, AreLeft, Paid, Reckons, Finishes, TurnedTo, Turned, IsBehindTick}
use Rattle.hb_turns.specs.Woken.{IsQuiet}
use Rattle.hb_turns.specs.declared.run.Records.{Records}
use Rattle.hb_turns.specs.declared.served.ServeEnd.{ServeEnd}
use Rattle.hb_turns.specs.declared.served.ServeEnd.TheVariants as ends
use Rattle.hb_turns.specs.declared.words.ServeWords.{ServeWords}
use Rattle.hb_turns.proofs.Holding.{on, each}

-- one more entry counts one more, or none
pub count-grows : (is : Entry → Bool) (trace : List Entry) (x : Entry)
    → count_by is (trace ++ x ∷ []) ≡ count_by is trace + (if is x then 1 else 0)
count-grows is trace x =
    sum_by-append (λ (y : Entry). cond (is y) 1 0) trace (x ∷ []) ∙ ap (λ (n : ℕ). count_by is trace + n) (zero-add _)

-- how often such entries came, the first one counted apart
pub count-cons : (is : Entry → Bool) (x : Entry) (xs : List Entry) → count_by is (x ∷ xs) ≡ (if is x then 1 else 0) + count_by is xs
count-cons is x xs = sum_by-cons (λ (y : Entry). cond (is y) 1 0) x xs

plain_ends : (stated : Option ℕ) (before : List Entry) (x : Entry) → is_plain x ≡ true → end_by stated before x ≡ None
plain_ends stated before (e.Wait ready how) plain = absurd cc
plain_ends stated before e.Tick plain = absurd cc
plain_ends stated before (e.Balked (way.Listen door at listening)) plain = absurd cc
plain_ends stated before (e.Balked (way.Accept door)) plain = refl
plain_ends stated before (e.Balked (way.Finish l)) plain = refl
plain_ends stated before (e.Balked (way.Read l)) plain = refl
plain_ends stated before (e.Balked (way.Write l)) plain = refl
plain_ends stated before (e.Balked (way.Look l)) plain = refl
plain_ends stated before _ plain = refl

plain_listens : (x : Entry) → is_plain x ≡ true → is_listen x ≡ false
plain_listens (e.Wait ready how) plain = absurd cc
plain_listens e.Tick plain = absurd cc
plain_listens (e.Balked (way.Listen door at listening)) plain = absurd cc
plain_listens (e.Balked (way.Accept door)) plain = refl
plain_listens (e.Balked (way.Finish l)) plain = refl
plain_listens (e.Balked (way.Read l)) plain = refl
plain_listens (e.Balked (way.Write l)) plain = refl
plain_listens (e.Balked (way.Look l)) plain = refl
plain_listens _ plain = refl

plain_ticks : (x : Entry) → is_plain x ≡ true → is_tick x ≡ false
plain_ticks e.Tick plain = absurd cc
plain_ticks _ plain = refl

plain_waits : (x : Entry) → is_plain x ≡ true → is_wait x ≡ false
plain_waits (e.Wait ready how) plain = absurd cc
plain_waits _ plain = refl

same_left : (stated left : Option ℕ) (old new : List Entry) → ticks new ≡ ticks old → AreLeft stated left old → AreLeft stated left new
same_left None None old new is left = tt
same_left (Some n) (Some k) old new is left = omega (arith, is, left)
same_left None (Some k) old new is left = left
same_left (Some n) None old new is left = left

same_ticks : (trace : List Entry) (x : Entry) → is_tick x ≡ false → ticks (trace ++ x ∷ []) ≡ ticks trace
same_ticks trace x is =
    count-grows is_tick trace x ∙ ap (λ (b : Bool). ticks trace + (if b then 1 else 0)) is ∙ omega arith

off : (b c : Bool) → b ≡ false → c ≡ false → (b || c) ≡ false
off true c is other = absurd cc
off false c is other = other

-- one more entry, which is no listen
pub listened_on : (doors : List DoorAt) (trace : List Entry) (x : Entry) → is_listen x ≡ false → Listened doors trace
    → Listened doors (trace ++ x ∷ [])
listened_on doors trace x not had = record {
  rest = had.rest ++ x ∷ [];
  trace_is = ap (λ (es : List Entry). es ++ x ∷ []) had.trace_is ∙ append_assoc (map (listen_at true) doors) had.rest (x ∷ []);
  no_more = any-grows is_listen had.rest x ∙ off _ _ had.no_more not;
}

-- an entry that is no listen, no wait and no tick
reckons_on : (words : ServeWords) (left : Option ℕ) (n w : ℕ) (trace : List Entry) (x : Entry) → is_plain x ≡ true
    → Reckons words left n w trace → Reckons words left (n + (if is_move x then 1 else 0)) w (trace ++ x ∷ [])
reckons_on words left n w trace x plain r = record {
  listened = listened_on (given words.doors) trace x (plain_listens x plain) r.listened;
  runs_on = AtEach-grows (λ before y. end_by words.ticks before y ≡ None) trace x r.runs_on (plain_ends words.ticks trace x plain);
  to_come = same_left words.ticks left trace (trace ++ x ∷ []) (same_ticks trace x (plain_ticks x plain)) r.to_come;
  turns = (let least = r.turns in
      let no_wait = plain_waits x plain in
      rw (count-grows is_move trace x, count-grows is_wait trace x, no_wait) (omega (arith, least)));
  few_waits = (let few = r.few_waits in
      let no_wait = plain_waits x plain in
      rw (count-grows is_wait trace x, no_wait) (omega (arith, few)));
}

pub reckons_fewer : (words : ServeWords) (left : Option ℕ) (n m w v : ℕ) (trace : List Entry) → n ≤ m → w ≤ v
    → Reckons words left m w trace → Reckons words left n v trace
reckons_fewer words left n m w v trace fewer more r = record {
  listened = r.listened;
  runs_on = r.runs_on;
  to_come = r.to_come;
  turns = (let least = r.turns in omega (arith, least, fewer));
  few_waits = (let few = r.few_waits in omega (arith, few, more));
}

-- entries of which none is a listen, a wait or a tick
reckons_all : (words : ServeWords) (left : Option ℕ) (n w : ℕ) (trace more : List Entry) → list_all is_plain more ≡ true
    → Reckons words left n w trace → Reckons words left (n + moves more) w (trace ++ more)
reckons_all words left n w trace [] plain r =
    subst (λ (es : List Entry). Reckons words left (n + 0) w es) (sym (append-nil trace))
    (reckons_fewer words left (n + 0) n w w trace (omega arith) (omega arith) r)
reckons_all words left n w trace (x ∷ more) plain r =
    subst (λ (es : List Entry). Reckons words left (n + moves (x ∷ more)) w es) (append_assoc trace (x ∷ []) more)
    (reckons_fewer words left (n + moves (x ∷ more)) ((n + (if is_move x then 1 else 0)) + moves more) w w _
    (rw (count-cons is_move x more) (omega arith)) (omega arith)
    (reckons_all words left (n + (if is_move x then 1 else 0)) w (trace ++ x ∷ []) more (rest (is_plain x) plain)
    (reckons_on words left n w trace x (one (is_plain x) plain) r)))
  where
    one : (b : Bool) → (b && list_all is_plain more) ≡ true → b ≡ true
    one true all = refl
    one false all = absurd cc

    rest : (b : Bool) → (b && list_all is_plain more) ≡ true → list_all is_plain more ≡ true
    rest true all = all
    rest false all = absurd cc

-- one turn more, where something moved
abbrev pub turns_after : Bool → ℕ → ℕ
turns_after moved n = if moved then n + 1 else n

-- calls that are no waits
pub reckons_adds : (words : ServeWords) (left : Option ℕ) (n w : ℕ) (moved : Bool) {most : ℕ} (before behind : Option (List Entry))
    → Adds moved most before behind → IfSome before (Reckons words left n w) → IfSome behind (Reckons words left (turns_after moved n) w)
reckons_adds words left n w moved before behind adds =
    on (Reckons words left n w) (Reckons words left (turns_after moved n) w) adds.more before behind adds.grows
    (λ trace r. reckons_fewer words left (turns_after moved n) (n + moves adds.more) w w (trace ++ adds.more)
    (enough moved adds.moves_some) (omega arith) (reckons_all words left n w trace adds.more adds.plain r))
  where
    enough : (b : Bool) → (b ≡ true → 0 < moves adds.more) → turns_after b n ≤ n + moves adds.more
    enough true some = let more = some refl in omega (arith, more)
    enough false some = omega arith

-- a wait or a glance behind which the run goes on, which counts so much
looked_on : (words : ServeWords) (left : Option ℕ) (n m w v : ℕ) (ready : List ReadyItem) (how : Woken) (trace : List Entry)
    → end_by_wait how ≡ None → m ≤ n + 2 * (if is_waited how then 1 else 0) → w + (if is_waited how then 1 else 0) ≤ v
    → Reckons words left n w trace → Reckons words left m v (trace ++ e.Wait ready how ∷ [])
looked_on words left n m w v ready how trace goes paid counted r = record {
  listened = listened_on (given words.doors) trace (e.Wait ready how) refl r.listened;
  runs_on = AtEach-grows (λ before y. end_by words.ticks before y ≡ None) trace (e.Wait ready how) r.runs_on goes;
  to_come = same_left words.ticks left trace (trace ++ e.Wait ready how ∷ []) (same_ticks trace (e.Wait ready how) refl) r.to_come;
  turns = (let least = r.turns in rw (count-grows is_move trace (e.Wait ready how), count-grows is_wait trace (e.Wait ready how))
      (omega (arith, least, paid)));
  few_waits = (let few = r.few_waits in rw (count-grows is_wait trace (e.Wait ready how)) (omega (arith, few, counted)));
}

-- a wait
wait_goes : (words : ServeWords) (left : Option ℕ) (n w : ℕ) (ready : List ReadyItem) (how : Woken) (trace : List Entry)
    → end_by_wait how ≡ None → is_waited how ≡ true → Reckons words left n w trace
    → Reckons words left (n + 2) (w + 1) (trace ++ e.Wait ready how ∷ [])
wait_goes words left n w ready how trace goes waited =
    looked_on words left n (n + 2) w (w + 1) ready how trace goes (rw waited (omega arith)) (rw waited (omega arith))

-- a glance
glance_goes : (words : ServeWords) (left : Option ℕ) (n w : ℕ) (ready : List ReadyItem) (how : Woken) (trace : List Entry)
    → end_by_wait how ≡ None → is_waited how ≡ false → Reckons words left n w trace
    → Reckons words left n w (trace ++ e.Wait ready how ∷ [])
glance_goes words left n w ready how trace goes glanced =
    looked_on words left n n w w ready how trace goes (rw glanced (omega arith)) (rw glanced (omega arith))

pub wait_on : (words : ServeWords) (left : Option ℕ) (n w : ℕ) (ready : List ReadyItem) (how : Woken) (before behind : Option (List Entry))
    → behind ≡ with_entries (e.Wait ready how ∷ []) before → end_by_wait how ≡ None → is_waited how ≡ true
    → IfSome before (Reckons words left n w) → IfSome behind (Reckons words left (n + 2) (w + 1))
wait_on words left n w ready how before behind adds goes waited =
    on (Reckons words left n w) (Reckons words left (n + 2) (w + 1)) (e.Wait ready how ∷ []) before behind adds
    (λ trace r. wait_goes words left n w ready how trace goes waited r)

pub glance_on : (words : ServeWords) (left : Option ℕ) (n w : ℕ) (ready : List ReadyItem) (how : Woken) (before behind : Option (List Entry))
    → behind ≡ with_entries (e.Wait ready how ∷ []) before → end_by_wait how ≡ None → is_waited how ≡ false
    → IfSome before (Reckons words left n w) → IfSome behind (Reckons words left n w)
glance_on words left n w ready how before behind adds goes glanced =
    on (Reckons words left n w) (Reckons words left n w) (e.Wait ready how ∷ []) before behind adds
    (λ trace r. glance_goes words left n w ready how trace goes glanced r)

-- a tick behind one of them
tick_follows : (words : ServeWords) (left : Option ℕ) (n m w v : ℕ) (ready : List ReadyItem) (how : Woken) (before behind : Option (List Entry))
    → behind ≡ with_entries (e.Wait ready how ∷ e.Tick ∷ []) before
    → ((trace : List Entry) → Reckons words left n w trace → Reckons words left m v (trace ++ e.Wait ready how ∷ []))
    → IfSome before (Reckons words left n w) → IfSome behind (IsBehindTick words left m v)
tick_follows words left n m w v ready how before behind adds goes =
    on (Reckons words left n w) (IsBehindTick words left m v) (e.Wait ready how ∷ e.Tick ∷ []) before behind adds
    (λ trace r. record {
      before = trace ++ e.Wait ready how ∷ [];
      trace_is = sym (append_assoc trace (e.Wait ready how ∷ []) (e.Tick ∷ []));
      reckons = goes trace r;
    })

pub tick_behind : (words : ServeWords) (left : Option ℕ) (n w : ℕ) (ready : List ReadyItem) (how : Woken) (before behind : Option (List Entry))
    → behind ≡ with_entries (e.Wait ready how ∷ e.Tick ∷ []) before → end_by_wait how ≡ None → is_waited how ≡ true
    → IfSome before (Reckons words left n w) → IfSome behind (IsBehindTick words left (n + 2) (w + 1))
tick_behind words left n w ready how before behind adds goes waited =
    tick_follows words left n (n + 2) w (w + 1) ready how before behind adds
    (λ trace r. wait_goes words left n w ready how trace goes waited r)

pub tick_glanced : (words : ServeWords) (left : Option ℕ) (n w : ℕ) (ready : List ReadyItem) (how : Woken) (before behind : Option (List Entry))
    → behind ≡ with_entries (e.Wait ready how ∷ e.Tick ∷ []) before → end_by_wait how ≡ None → is_waited how ≡ false
    → IfSome before (Reckons words left n w) → IfSome behind (IsBehindTick words left n w)
tick_glanced words left n w ready how before behind adds goes glanced =
    tick_follows words left n n w w ready how before behind adds
    (λ trace r. glance_goes words left n w ready how trace goes glanced r)

-- all doors listen
begins : (doors : List DoorAt) (end : ServeEnd) (trace : List Entry) → Listened doors trace → BeginsWith doors end trace
begins doors end trace had = record {
  made = doors;
  left = [];
  rest = had.rest;
  doors_are = sym (append-nil doors);
  trace_is = had.trace_is;
  leaves = had.no_more;
}

-- an entry that ends the run
pub wait_ends : (words : ServeWords) (left : Option ℕ) (n w v : ℕ) (ready : List ReadyItem) (how : Woken) (end : ServeEnd)
    (before behind : Option (List Entry)) → behind ≡ with_entries (e.Wait ready how ∷ []) before → end_by_wait how ≡ Some end
    → w + (if is_waited how then 1 else 0) ≤ v → v ≤ words.turns → IfSome before (Reckons words left n w) → IfSome behind (Finishes words end)
wait_ends words left n w v ready how end before behind adds is counted within =
    on (Reckons words left n w) (Finishes words end) (e.Wait ready how ∷ []) before behind adds
    (λ trace r. by end is trace r)
  where
    few : (trace : List Entry) → waits trace ≤ w → waits (trace ++ e.Wait ready how ∷ []) ≤ words.turns
    few trace less = rw (count-grows is_wait trace (e.Wait ready how)) (omega (arith, less, counted, within))

    nothing : (how : Woken) → end_by_wait how ≡ Some ends.TurnsSpent → ⊥
    nothing woken.Woke is = cc
    nothing woken.Tick is = cc
    nothing woken.Stop is = cc
    nothing woken.Failed is = cc
    nothing woken.Glanced is = cc
    nothing woken.GlanceFailed is = cc

    never : (how : Woken) → end_by_wait how ≡ Some ends.NoMemory → ⊥
    never woken.Woke is = cc
    never woken.Tick is = cc
    never woken.Stop is = cc
    never woken.Failed is = cc
    never woken.Glanced is = cc
    never woken.GlanceFailed is = cc

    by : (end : ServeEnd) → end_by_wait how ≡ Some end → (trace : List Entry) → Reckons words left n w trace
        → Finishes words end (trace ++ e.Wait ready how ∷ [])
    by ends.TurnsSpent is trace r = absurd (nothing how is)
    by ends.NoMemory is trace r = absurd (never how is)
    by ends.Stopped is trace r = record {
      begins = begins (given words.doors) ends.Stopped _ (listened_on (given words.doors) trace (e.Wait ready how) refl r.listened);
      ends_as = record { before = trace; last = e.Wait ready how; trace_is = refl; runs_on = r.runs_on; ends = is };
      few_waits = few trace r.few_waits;
      spends = tt;
    }
    by ends.WorldFault is trace r = record {
      begins = begins (given words.doors) ends.WorldFault _ (listened_on (given words.doors) trace (e.Wait ready how) refl r.listened);
      ends_as = record { before = trace; last = e.Wait ready how; trace_is = refl; runs_on = r.runs_on; ends = is };
      few_waits = few trace r.few_waits;
      spends = tt;
    }

-- a tick more
one_spent : (stated left : Option ℕ) (before : List Entry) → AreLeft stated left before
    → is_spent (one_less left) ≡ are_spent stated (ticks before + 1)
one_spent None None before left = refl
one_spent (Some n) (Some k) before left =
    let same : k - 1 ≡ n - (ticks before + 1) = omega (arith, left) in ap (λ (j : ℕ). j == 0) same
one_spent None (Some k) before left = absurd left
one_spent (Some n) None before left = absurd left

one_left : (stated left : Option ℕ) (before new : List Entry) → ticks new ≡ ticks before + 1 → AreLeft stated left before
    → AreLeft stated (one_less left) new
one_left None None before new is left = tt
one_left (Some n) (Some k) before new is left = omega (arith, is, left)
one_left None (Some k) before new is left = left
one_left (Some n) None before new is left = left

end_by_tick : (b : Bool) → b ≡ false → (if b then Some ends.Stopped else None) ≡ None
end_by_tick true is = absurd cc
end_by_tick false is = refl

tick_goes : (words : ServeWords) (left : Option ℕ) (n w : ℕ) (trace : List Entry) → is_spent (one_less left) ≡ false
    → IsBehindTick words left n w trace → Reckons words (one_less left) n w trace
tick_goes words left n w trace more at =
    let r = at.reckons in
    let unspent : are_spent words.ticks (ticks at.before + 1) ≡ false =
    sym (one_spent words.ticks left at.before r.to_come) ∙ more in
    subst (λ (es : List Entry). Reckons words (one_less left) n w es) (sym at.trace_is) (record {
      listened = listened_on (given words.doors) at.before e.Tick refl r.listened;
      runs_on = AtEach-grows (λ before y. end_by words.ticks before y ≡ None) at.before e.Tick r.runs_on (end_by_tick _ unspent);
      to_come = one_left words.ticks left at.before (at.before ++ e.Tick ∷ []) (count-grows _ at.before e.Tick) r.to_come;
      turns = (let least = r.turns in
          rw (count-grows is_move at.before e.Tick, count-grows is_wait at.before e.Tick) (omega (arith, least)));
      few_waits = (let few = r.few_waits in rw (count-grows is_wait at.before e.Tick) (omega (arith, few)));
    })

pub tick_on : (words : ServeWords) (left : Option ℕ) (n w : ℕ) (told : Option (List Entry)) → is_spent (one_less left) ≡ false
    → IfSome told (IsBehindTick words left n w) → IfSome told (Reckons words (one_less left) n w)
tick_on words left n w told more =
    each (IsBehindTick words left n w) (Reckons words (one_less left) n w) told
    (λ trace at. tick_goes words left n w trace more at)

tick_stops : (words : ServeWords) (left : Option ℕ) (n w : ℕ) (trace : List Entry) → is_spent (one_less left) ≡ true → w ≤ words.turns
    → IsBehindTick words left n w trace → Finishes words ends.Stopped trace
tick_stops words left n w trace last within at =
    let r = at.reckons in
    let spent : are_spent words.ticks (ticks at.before + 1) ≡ true = sym (one_spent words.ticks left at.before r.to_come) ∙ last in
    let few : waits at.before ≤ w = r.few_waits in
    subst (λ (es : List Entry). Finishes words ends.Stopped es) (sym at.trace_is) (record {
      begins = begins (given words.doors) ends.Stopped _ (listened_on (given words.doors) at.before e.Tick refl r.listened);
      ends_as = record { before = at.before; last = e.Tick; trace_is = refl; runs_on = r.runs_on; ends = rw spent refl };
      few_waits = rw (count-grows is_wait at.before e.Tick) (omega (arith, few, within));
      spends = tt;
    })

pub tick_ends : (words : ServeWords) (left : Option ℕ) (n w : ℕ) (told : Option (List Entry)) → is_spent (one_less left) ≡ true
    → w ≤ words.turns → IfSome told (IsBehindTick words left n w) → IfSome told (Finishes words ends.Stopped)
tick_ends words left n w told last within =
    each (IsBehindTick words left n w) (Finishes words ends.Stopped) told
    (λ trace at. tick_stops words left n w trace last within at)

-- memory lacked, or the turns are spent
pub lack_finishes : (words : ServeWords) (left : Option ℕ) (n w : ℕ) (told : Option (List Entry)) → w ≤ words.turns
    → IfSome told (Reckons words left n w) → IfSome told (Finishes words ends.NoMemory)
lack_finishes words left n w told within =
    each (Reckons words left n w) (Finishes words ends.NoMemory) told
    (λ trace r. record {
      begins = begins (given words.doors) ends.NoMemory trace r.listened;
      ends_as = r.runs_on;
      few_waits = (let few = r.few_waits in omega (arith, few, within));
      spends = tt;
    })

pub spent_finishes : (words : ServeWords) (left : Option ℕ) (n w : ℕ) (told : Option (List Entry)) → w ≤ words.turns
    → words.turns ≤ n + 1 → IfSome told (Reckons words left n w) → IfSome told (Finishes words ends.TurnsSpent)
spent_finishes words left n w told within most =
    each (Reckons words left n w) (Finishes words ends.TurnsSpent) told
    (λ trace r. record {
      begins = begins (given words.doors) ends.TurnsSpent trace r.listened;
      ends_as = r.runs_on;
      few_waits = (let few = r.few_waits in omega (arith, few, within));
      spends = (let least = r.turns in omega (arith, most, least));
    })

-- a run ends where its waits are as many as its turns allow
pub ends_within : (words : ServeWords) (end : ServeEnd) (w : ℕ) (told : Option (List Entry))
    → (w ≤ words.turns → IfSome told (Finishes words end)) → IfSome told (λ trace. w ≤ words.turns → Finishes words end trace)
ends_within words end w None had = tt
ends_within words end w (Some trace) had = had

pub ends_so : (words : ServeWords) (end : ServeEnd) (w : ℕ) (told : Option (List Entry)) → w ≤ words.turns
    → IfSome told (λ trace. w ≤ words.turns → Finishes words end trace) → IfSome told (Finishes words end)
ends_so words end w None within had = tt
ends_so words end w (Some trace) within had = had within

-- a turn is paid for by what moved in it, or by the wait; the glance behind a round pays nothing
pub paid_round : (moved : Bool) (t n : ℕ) (r mid new : Records) → (IsQuiet r → ⊥) → (moved ≡ false → IsQuiet mid) → (IsQuiet mid → IsQuiet new)
    → Paid t n r → Paid (t + 1) (turns_after moved n) new
paid_round moved t n r mid new work quiet still (inr rest) = absurd (work rest.1)
paid_round true t n r mid new work quiet still (inl enough) = inl (omega (arith, enough))
paid_round false t n r mid new work quiet still (inl enough) = inr (omega (arith, enough), still (quiet refl))

pub paid_wait : (t n : ℕ) (r new : Records) → Paid t n r → Paid (t + 1) (n + 2) new
paid_wait t n r new (inl enough) = inl (omega (arith, enough))
paid_wait t n r new (inr rest) = inl (let most = rest.0 in omega (arith, most))

-- no try moved something
pub none_made : (n : ℕ) → not (n == 0) ≡ false → n ≡ 0
none_made n none = eqb-true n 0 (turned (n == 0) none)
  where
    turned : (b : Bool) → not b ≡ false → b ≡ true
    turned true is = refl
    turned false is = absurd cc

pub paid_all : (t n : ℕ) (r : Records) → Paid t n r → t ≤ n + 1
paid_all t n r (inl enough) = omega (arith, enough)
paid_all t n r (inr rest) = rest.0

pub paid_on : (t m : ℕ) (r : Records) (end : Option ServeEnd) → end ≡ None → (end ≡ None → Paid t m r) → Paid t m r
paid_on t m r end none paid = paid none

pub no_ok : {A E : Type 0} (r : Result A E) (P : A → Type 0) → IfOk r (λ x. ⊥) → IfOk r P
no_ok (Ok x) P none = absurd none
no_ok (Err why) P none = tt

pub all_ok : {A E : Type 0} (r : Result A E) (P : A → Type 0) → ((x : A) → P x) → IfOk r P
all_ok (Ok x) P all = all x
all_ok (Err why) P all = tt

pub each_ok : {A E : Type 0} (r : Result A E) (P Q : A → Type 0) → ((x : A) → P x → Q x) → IfOk r P → IfOk r Q
each_ok (Ok x) P Q all had = all x had
each_ok (Err why) P Q all had = tt

pub on_ok : {A E : Type 0} (r : Result A E) (P Q : Type 0) → (P → Q) → OnOk r P → OnOk r Q
on_ok (Ok x) P Q so had = so had
on_ok (Err why) P Q so had = tt

-- memory lacked in a turn, or in all
pub lack_turns : {E : Type 0} (r : Result (Option ServeEnd) E) (words : ServeWords) (left : Option ℕ) (n w : ℕ) (told : Option (List Entry))
    → IfOk r (λ x. ⊥) → IfSome told (λ trace. w ≤ words.turns → Finishes words ends.NoMemory trace)
    → IfSome told (Turned r words left n w)
lack_turns (Ok x) words left n w told none had = absurd none
lack_turns (Err why) words left n w told none had = had

pub lack_ends : {E : Type 0} (r : Result ServeEnd E) (words : ServeWords) (told : Option (List Entry)) → IfOk r (λ x. ⊥)
    → IfSome told (Finishes words ends.NoMemory) → IfSome told (Finishes words (end_of r))
lack_ends (Ok x) words told none had = absurd none
lack_ends (Err why) words told none had = had

later : (end : Option ServeEnd) (words : ServeWords) (left : Option ℕ) (n w : ℕ) (trace : List Entry)
    → TurnedTo end words left n w trace → TurnedTo end words left n (w + 1) trace
later None words left n w trace r = reckons_fewer words left n n w (w + 1) trace (omega arith) (omega arith) r
later (Some end) words left n w trace so = λ within. so (omega (arith, within))

-- with a turn more in which it didn't wait
pub turned_later : {E : Type 0} (r : Result (Option ServeEnd) E) (words : ServeWords) (left : Option ℕ) (n w : ℕ) (told : Option (List Entry))
    → IfSome told (Turned r words left n w) → IfSome told (Turned r words left n (w + 1))
turned_later (Ok end) words left n w told =
    each (TurnedTo end words left n w) (TurnedTo end words left n (w + 1)) told (λ trace so. later end words left n w trace so)
turned_later (Err why) words left n w told =
    each (TurnedTo (Some ends.NoMemory) words left n w) (TurnedTo (Some ends.NoMemory) words left n (w + 1)) told
    (λ trace so. later (Some ends.NoMemory) words left n w trace so)
