-- What is read first behind a look.
use Rattle.std.proofs.Common.{◌≡◌, ℕ, ◌==◌, Bool, true, false, ◌&&◌, List, [], ◌∷◌, ◌++◌, map, Option, Some, None, Result, Ok, Err, IfOk, IfSome, refl, sym, ◌∙◌, subst, inl, inr, append_assoc, eq-eqb}
use Rattle.std.specs.Prelude.{⊤}
use Rattle.std.specs.List.{All, fold, list_all}
use Rattle.std.specs.declared.alloc.AllocError.{AllocError}
use Rattle.std.proofs.lemmas.List.{append-nil}
use Rattle.std.proofs.lemmas.List.Elements.{All-cons, All-head, All-nil, All-tail}
use Rattle.std.proofs.lemmas.List.Folds.{list_all-append}
use Rattle.std.proofs.lemmas.List.Sums.{fold-append}
use Rattle.hb_base.specs.declared.cause.Cause.{Cause}
use Rattle.hb_base.specs.declared.note.Note.{Note}
use Rattle.hb_world.specs.Calls.{with_entries}
use Rattle.hb_world.specs.declared.entry.Entry.{Entry}
use Rattle.hb_world.specs.declared.entry.Entry.TheVariants as e
use Rattle.hb_world.specs.declared.entry.ReadyItem.{ReadyItem}
use Rattle.hb_world.specs.declared.entry.Woken.{Woken}
use Rattle.hb_world.proofs.TraceLemmas.{AtEach-grows}
use Rattle.hb_ready.specs.declared.link.Link.{Link}
use Rattle.hb_ready.specs.Registry.{kept}
use Rattle.hb_ready.specs.Sight.{known}
use Rattle.hb_turns.specs.Ends.{ClosesFor}
use Rattle.hb_turns.specs.Leads.{is_look, ends_in_look, is_read_of, ReadsOrRests, LeadsOn, IsLed, LedAt, LeadLaw, NotBehindLook, HeadIs, Heads, ReadsFirst, CallReads}
use Rattle.hb_turns.specs.Listens.{DoorAt, listen_at}
use Rattle.hb_turns.specs.Reckons.{is_plain, Adds, Begins, FailsAt, StopsAt}
use Rattle.hb_turns.specs.Rested.{MayNotRead, ReadRests}
use Rattle.hb_turns.specs.Shown.{Shown}
use Rattle.hb_turns.specs.Stands.{Lacks, Stands}
use Rattle.hb_turns.specs.declared.round.Call.{Call}
use Rattle.hb_turns.specs.declared.round.Call.TheVariants as call
use Rattle.hb_turns.specs.declared.run.Run.{Run}
use Rattle.hb_turns.specs.declared.served.ServeEnd.{ServeEnd}
use Rattle.hb_turns.specs.declared.served.ServeEnd.TheVariants as ends
use Rattle.hb_turns.proofs.Adding.{none_more, twice, both}
use Rattle.hb_turns.proofs.Counting.{no_ok, all_ok, each_ok}
use Rattle.hb_turns.proofs.Holding.{on, same, each}
use Rattle.hb_turns.proofs.Serving.{nothing_at}

abbrev IsNoLook : Entry → Type 0
IsNoLook x = is_look x ≡ false

plain_looks : (x : Entry) → is_plain x ≡ true → IsNoLook x
plain_looks (e.Wait ready how) plain = absurd cc
plain_looks _ plain = refl

plain_none : (more : List Entry) → list_all is_plain more ≡ true → All IsNoLook more
plain_none [] plain = All-nil IsNoLook
plain_none (x ∷ xs) plain = All-cons IsNoLook x xs (plain_looks x (one (is_plain x) plain)) (plain_none xs (rest (is_plain x) plain))
  where
    one : (b : Bool) → (b && list_all is_plain xs) ≡ true → b ≡ true
    one true all = refl
    one false all = absurd cc

    rest : (b : Bool) → (b && list_all is_plain xs) ≡ true → list_all is_plain xs ≡ true
    rest true all = all
    rest false all = absurd cc

looked-grows : (trace : List Entry) (x : Entry) → ends_in_look (trace ++ x ∷ []) ≡ is_look x
looked-grows trace x = fold-append (λ (before : Bool) (y : Entry). is_look y) false trace (x ∷ [])

-- a call added these
pub heads_one : {none : Type 0} {P : Entry → Type 0} (x : Entry) (before behind : Option (List Entry)) → behind ≡ with_entries (x ∷ []) before
    → is_plain x ≡ true → P x → Heads none P before behind
heads_one x before behind adds plain is = record { more = x ∷ []; grows = adds; plain = both _ _ plain refl; head = is }

pub heads_nothing : {none : Type 0} {P : Entry → Type 0} (before behind : Option (List Entry)) → behind ≡ with_entries [] before → none
    → Heads none P before behind
heads_nothing before behind adds none = record { more = []; grows = adds; plain = refl; head = none }

pub heads_none : {none : Type 0} {P : Entry → Type 0} (told : Option (List Entry)) → none → Heads none P told told
heads_none told none = heads_nothing told told (none_more told) none

-- others behind it
pub heads_then : {none last : Type 0} {P : Entry → Type 0} {b : Bool} {n : ℕ} (before mid behind : Option (List Entry)) → (none → last)
    → (none → (x : Entry) → P x) → Heads none P before mid → Adds b n mid behind → Heads last P before behind
heads_then {none} {last} {P} before mid behind may any first second = record {
  more = first.more ++ second.more;
  grows = twice first.more second.more before mid behind first.grows second.grows;
  plain = list_all-append is_plain first.more second.more ∙ both _ _ first.plain second.plain;
  head = by first.more second.more first.head;
}
  where
    by : (xs ys : List Entry) → HeadIs none P xs → HeadIs last P (xs ++ ys)
    by [] [] head = may head
    by [] (y ∷ ys) head = any head y
    by (x ∷ xs) ys head = head

-- where nothing is asked of an end without entries
pub heads_any : {none last : Type 0} {P : Entry → Type 0} (before behind : Option (List Entry)) → (none → last) → Heads none P before behind
    → Heads last P before behind
heads_any {none} {last} {P} before behind may heads =
    record { more = heads.more; grows = heads.grows; plain = heads.plain; head = by heads.more heads.head }
  where
    by : (xs : List Entry) → HeadIs none P xs → HeadIs last P xs
    by [] head = may head
    by (x ∷ xs) head = head

-- such a read
pub reads_one : {N : Type 0} {none : Type 0} (shown : N → Shown) (run : Run N) (l : ℕ) (x : Entry) (before behind : Option (List Entry))
    → behind ≡ with_entries (x ∷ []) before → is_plain x ≡ true → is_read_of l x ≡ true → ReadsFirst none shown run l before behind
reads_one shown run l x before behind adds plain is = heads_one x before behind adds plain (inl is)

pub same_number : (l : ℕ) → (l == l) ≡ true
same_number l = eq-eqb l l refl

module _ {N : Type 0} (stands : List Note → N → List Entry → Type 0) (shown : N → Shown) where
  -- an entry that isn't right behind a look
  led_off : (before : List Entry) (x : Entry) → ends_in_look before ≡ false → LedAt stands shown before x
  led_off before (e.Wait ready how) off = tt
  led_off before e.Tick off = tt
  led_off before (e.Closed l cause) off = tt
  led_off before _ off = λ looked. absurd (let no : false ≡ true = sym off ∙ looked in cc)

  led_by : (before : List Entry) (x : Entry) → (ends_in_look before ≡ true → IsLed stands shown before x) → LedAt stands shown before x
  led_by before (e.Wait ready how) so = tt
  led_by before e.Tick so = tt
  led_by before (e.Closed l cause) so = tt
  led_by before _ so = so

  -- entries of which the first isn't right behind a look, and none is one
  lead_rest : (trace more : List Entry) → ends_in_look trace ≡ false → All IsNoLook more → LeadLaw stands shown trace
      → LeadLaw stands shown (trace ++ more)
  lead_rest trace [] off none law = subst (λ (es : List Entry). LeadLaw stands shown es) (sym (append-nil trace)) law
  lead_rest trace (x ∷ xs) off none law =
      subst (λ (es : List Entry). LeadLaw stands shown es) (append_assoc trace (x ∷ []) xs)
      (lead_rest (trace ++ x ∷ []) xs (looked-grows trace x ∙ All-head IsNoLook x xs none) (All-tail IsNoLook x xs none)
      (AtEach-grows (LedAt stands shown) trace x law (led_off trace x off)))

  -- or the first may stand there
  lead_head : (trace more : List Entry) → All IsNoLook more → HeadIs ⊤ (LedAt stands shown trace) more → LeadLaw stands shown trace
      → LeadLaw stands shown (trace ++ more)
  lead_head trace [] none head law = subst (λ (es : List Entry). LeadLaw stands shown es) (sym (append-nil trace)) law
  lead_head trace (x ∷ xs) none head law =
      subst (λ (es : List Entry). LeadLaw stands shown es) (append_assoc trace (x ∷ []) xs)
      (lead_rest (trace ++ x ∷ []) xs (looked-grows trace x ∙ All-head IsNoLook x xs none) (All-tail IsNoLook x xs none)
      (AtEach-grows (LedAt stands shown) trace x law head))

  -- a round
  pub round_leads : (run : Run N) (before behind : Option (List Entry))
      → Heads ⊤ (LeadsOn (shown run.node).first (kept run.records.links).links (shown run.node)) before behind
      → IfSome before (Stands stands shown run) → IfSome before (LeadLaw stands shown) → IfSome behind (LeadLaw stands shown)
  round_leads run None behind heads s law = subst (λ (o : Option (List Entry)). IfSome o (LeadLaw stands shown)) (sym heads.grows) tt
  round_leads run (Some trace) behind heads s law =
      subst (λ (o : Option (List Entry)). IfSome o (LeadLaw stands shown)) (sym heads.grows)
      (lead_head trace heads.more (plain_none heads.more heads.plain) (head heads.more heads.head) law)
    where
      told : (first : Option ℕ) (x : Entry) → LeadsOn first (kept run.records.links).links (shown run.node) x
          → LeadsOn first (λ l. known l trace) (shown run.node) x
      told None x leads = tt
      told (Some l) x (inl is) = inl is
      told (Some l) x (inr rests) =
          inr (subst (λ (o : Option Link). ReadRests o l (shown run.node)) (s.matches.obeys.links l) rests)

      head : (more : List Entry) → HeadIs ⊤ (LeadsOn (shown run.node).first (kept run.records.links).links (shown run.node)) more
          → HeadIs ⊤ (LedAt stands shown trace) more
      head [] is = tt
      head (x ∷ xs) leads = led_by trace x (λ looked. record {
        notes = s.matches.notes;
        node = run.node;
        stands_for = s.matches.node;
        going = s.going;
        leads = told (shown run.node).first x leads;
      })

  -- calls behind which none is a look
  pub calls_lead : {b : Bool} {n : ℕ} (before behind : Option (List Entry)) → Adds b n before behind
      → IfSome before (NotBehindLook stands shown) → IfSome behind (LeadLaw stands shown)
  calls_lead before behind adds =
      on (NotBehindLook stands shown) (LeadLaw stands shown) adds.more before behind adds.grows
      (λ trace had. lead_rest trace adds.more had.0 (plain_none adds.more adds.plain) had.1)

  -- a look
  pub look_leads : (ready : List ReadyItem) (how : Woken) (before behind : Option (List Entry))
      → behind ≡ with_entries (e.Wait ready how ∷ []) before → IfSome before (LeadLaw stands shown) → IfSome behind (LeadLaw stands shown)
  look_leads ready how before behind adds =
      on (LeadLaw stands shown) (LeadLaw stands shown) (e.Wait ready how ∷ []) before behind adds
      (λ trace law. AtEach-grows (LedAt stands shown) trace (e.Wait ready how) law tt)

  -- and a tick
  pub tick_leads : (ready : List ReadyItem) (how : Woken) (before behind : Option (List Entry))
      → behind ≡ with_entries (e.Wait ready how ∷ e.Tick ∷ []) before → IfSome before (LeadLaw stands shown)
      → IfSome behind (NotBehindLook stands shown)
  tick_leads ready how before behind adds =
      on (LeadLaw stands shown) (NotBehindLook stands shown) (e.Wait ready how ∷ e.Tick ∷ []) before behind adds
      (λ trace law.
      let waited = AtEach-grows (LedAt stands shown) trace (e.Wait ready how) law tt in
      subst (λ (es : List Entry). NotBehindLook stands shown es) (append_assoc trace (e.Wait ready how ∷ []) (e.Tick ∷ [])) (
        looked-grows (trace ++ e.Wait ready how ∷ []) e.Tick,
        AtEach-grows (LedAt stands shown) (trace ++ e.Wait ready how ∷ []) e.Tick waited tt,
      ))

  -- no entry was told
  pub nothing_leads : (before behind : Option (List Entry)) → behind ≡ with_entries [] before → IfSome before (LeadLaw stands shown)
      → IfSome behind (LeadLaw stands shown)
  nothing_leads before behind adds = same (LeadLaw stands shown) (LeadLaw stands shown) before behind adds (λ trace law. law)

  -- links were closed
  close_led : (cause : Cause) (before : List Entry) (x : Entry) → ClosesFor cause x → LedAt stands shown before x
  close_led cause before (e.Closed l why) closes = tt
  close_led cause before (e.Wait ready how) closes = absurd closes
  close_led cause before e.Tick closes = absurd closes
  close_led cause before _ closes = absurd closes

  pub closes_lead : (cause : Cause) (trace more : List Entry) → All (ClosesFor cause) more → LeadLaw stands shown trace
      → LeadLaw stands shown (trace ++ more)
  closes_lead cause trace [] all law = subst (λ (es : List Entry). LeadLaw stands shown es) (sym (append-nil trace)) law
  closes_lead cause trace (x ∷ xs) all law =
      subst (λ (es : List Entry). LeadLaw stands shown es) (append_assoc trace (x ∷ []) xs)
      (closes_lead cause (trace ++ x ∷ []) xs (All-tail (ClosesFor cause) x xs all)
      (AtEach-grows (LedAt stands shown) trace x law (close_led cause trace x (All-head (ClosesFor cause) x xs all))))

  -- listens
  listens_none : (b : Bool) (made : List DoorAt) → All IsNoLook (map (listen_at b) made)
  listens_none b [] = All-nil IsNoLook
  listens_none b (d ∷ made) = All-cons IsNoLook (listen_at b d) (map (listen_at b) made) refl (listens_none b made)

  none_looked : (more : List Entry) → All IsNoLook more → ends_in_look more ≡ false
  none_looked [] none = refl
  none_looked (x ∷ xs) none = by xs (is_look x) (All-head IsNoLook x xs none) (All-tail IsNoLook x xs none)
    where
      by : (ys : List Entry) (b : Bool) → b ≡ false → All IsNoLook ys → fold (λ (before : Bool) (y : Entry). is_look y) b ys ≡ false
      by [] b off none = off
      by (y ∷ ys) b off none = by ys (is_look y) (All-head IsNoLook y ys none) (All-tail IsNoLook y ys none)

  listens_lead : (made : List DoorAt) → NotBehindLook stands shown (map (listen_at true) made)
  listens_lead made = (
    none_looked (map (listen_at true) made) (listens_none true made),
    lead_rest [] (map (listen_at true) made) refl (listens_none true made) (nothing_at (LedAt stands shown)),
  )

  pub begins_leads : (run : Run N) (doors : List DoorAt) (told : Option (List Entry)) → IfSome told (Begins stands shown run doors)
      → IfSome told (NotBehindLook stands shown)
  begins_leads run doors told =
      each (Begins stands shown run doors) (NotBehindLook stands shown) told
      (λ trace b. subst (λ (es : List Entry). NotBehindLook stands shown es) (sym b.listens) (listens_lead doors))

  pub begins_stands : (run : Run N) (doors : List DoorAt) (told : Option (List Entry)) → IfSome told (Begins stands shown run doors)
      → IfSome told (Stands stands shown run)
  begins_stands run doors told = each (Begins stands shown run doors) (Stands stands shown run) told (λ trace b. b.stands_for)

  pub fails_leads : (end : ServeEnd) (run : Run N) (doors : List DoorAt) (told : Option (List Entry))
      → IfSome told (λ trace. (end ≡ ends.WorldFault) × Stands stands shown run trace × FailsAt doors trace)
      → IfSome told (LeadLaw stands shown)
  fails_leads end run doors told =
      each (λ trace. (end ≡ ends.WorldFault) × Stands stands shown run trace × FailsAt doors trace) (LeadLaw stands shown) told
      (λ trace had. let f = had.2 in let made = listens_lead f.made in
      subst (λ (es : List Entry). LeadLaw stands shown es) (sym f.trace_is)
      (lead_rest (map (listen_at true) f.made) (listen_at false f.at ∷ []) made.0
      (All-cons IsNoLook (listen_at false f.at) [] refl (All-nil IsNoLook)) made.1))

  pub stops_leads : (run : Run N) (doors : List DoorAt) (told : Option (List Entry))
      → IfSome told (λ trace. Lacks stands shown run.records trace × StopsAt doors trace) → IfSome told (LeadLaw stands shown)
  stops_leads run doors told =
      each (λ trace. Lacks stands shown run.records trace × StopsAt doors trace) (LeadLaw stands shown) told
      (λ trace had. let s = had.1 in
      subst (λ (es : List Entry). LeadLaw stands shown es) (sym s.trace_is) (listens_lead s.made).1)

-- no read may be made on the link, or none is wanted
pub may_not_read : (o : Option Link) (l : ℕ) (s : Shown) → MayNotRead o → ReadRests o l s
may_not_read None l s may = tt
may_not_read (Some k) l s (inl closed) = inl closed
may_not_read (Some k) l s (inr sleeps) = inr (inl sleeps)

pub none_wanted : (o : Option Link) (l : ℕ) (s : Shown) → s.wants l ≡ 0 → ReadRests o l s
none_wanted None l s none = tt
none_wanted (Some k) l s none = inr (inr none)

module _ {N : Type 0} (shown : N → Shown) (run : Run N) where
  -- a call, and others behind it
  pub call_then : {b : Bool} {n : ℕ} (it : Call) (x : Bool) (r : Result Bool AllocError) (before mid behind : Option (List Entry))
      → CallReads {A = Bool} {E = AllocError} shown (Ok x) run it before mid → Adds b n mid behind → CallReads shown r run it before behind
  call_then (call.Read l) x r before mid behind first second =
      heads_then before mid behind (λ rests. all_ok r _ (λ y. rests)) (λ rests z. inr rests) first second
  call_then (call.Accept door) x r before mid behind first second = tt
  call_then (call.Finish l) x r before mid behind first second = tt
  call_then (call.Write l) x r before mid behind first second = tt
  call_then (call.Look l) x r before mid behind first second = tt

  -- nothing behind it
  pub call_same : (it : Call) (x y : Bool) (before behind : Option (List Entry)) → CallReads {A = Bool} {E = AllocError} shown (Ok x) run it before behind
      → CallReads {A = Bool} {E = AllocError} shown (Ok y) run it before behind
  call_same (call.Read l) x y before behind first = first
  call_same (call.Accept door) x y before behind first = tt
  call_same (call.Finish l) x y before behind first = tt
  call_same (call.Write l) x y before behind first = tt
  call_same (call.Look l) x y before behind first = tt

  -- in which memory lacked
  pub call_lacked : (it : Call) (why : AllocError) (r : Result Bool AllocError) (before behind : Option (List Entry)) → IfOk r (λ y. ⊥)
      → CallReads {A = Bool} {E = AllocError} shown (Err why) run it before behind → CallReads shown r run it before behind
  call_lacked (call.Read l) why r before behind none first = heads_any before behind (λ any. no_ok r _ none) first
  call_lacked (call.Accept door) why r before behind none first = tt
  call_lacked (call.Finish l) why r before behind none first = tt
  call_lacked (call.Write l) why r before behind none first = tt
  call_lacked (call.Look l) why r before behind none first = tt

-- no link goes first
pub none_first : (first : Option ℕ) (links : ℕ → Option Link) (s : Shown) (x : Entry) → first ≡ None → LeadsOn first links s x
none_first None links s x is = tt
none_first (Some l) links s x is = absurd cc

-- a link does, and is read
pub first_reads : {A E N : Type 0} (shown : N → Shown) (run : Run N) (first : Option ℕ) (l : ℕ) (r : Result A E)
    (before behind : Option (List Entry)) → first ≡ Some l
    → ReadsFirst (IfOk r (λ x. ReadRests ((kept run.records.links).links l) l (shown run.node))) shown run l before behind
    → Heads (IfOk r (λ moved. (x : Entry) → LeadsOn first (kept run.records.links).links (shown run.node) x))
    (LeadsOn first (kept run.records.links).links (shown run.node)) before behind
first_reads shown run None l r before behind is reads = absurd cc
first_reads shown run (Some k) l r before behind is reads =
    let same : k ≡ l = cc in
    subst (λ (j : ℕ). Heads (IfOk r (λ moved. (x : Entry) → ReadsOrRests j (kept run.records.links).links (shown run.node) x))
    (ReadsOrRests j (kept run.records.links).links (shown run.node)) before behind) (sym same)
    (heads_any before behind (λ none. each_ok r _ _ (λ y rests x. inr rests) none) reads)
