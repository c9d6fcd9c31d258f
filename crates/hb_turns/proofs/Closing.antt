-- The end of a run.
use Rattle.std.proofs.Common.{◌≡◌, ℕ, Bool, true, false, List, [], ◌∷◌, ◌++◌, Option, Some, None, Result, Ok, Err, IfSome, IfOk, IsSome, OnOk, is_err, refl, sym, ◌∙◌, subst}
use Rattle.std.specs.List.{All}
use Rattle.hb_base.specs.declared.cause.Cause.{Cause}
use Rattle.hb_base.specs.declared.note.Note.{Note}
use Rattle.hb_world.specs.Calls.{with_closed}
use Rattle.hb_world.specs.Trace.{lives}
use Rattle.hb_world.specs.declared.entry.Entry.{Entry}
use Rattle.hb_world.specs.declared.entry.Entry.TheVariants as e
use Rattle.hb_ready.specs.Registry.{kept}
use Rattle.hb_turns.specs.Ends.{ClosesFor, cause_at, end_of}
use Rattle.hb_turns.specs.Leads.{LeadLaw}
use Rattle.hb_turns.specs.Looks.{LooksLaw}
use Rattle.hb_turns.specs.Notes.{HasAllNotes}
use Rattle.hb_turns.specs.Reckons.{Closes, Finishes}
use Rattle.hb_turns.specs.Served.{IsStoodFor, IsOver, IsServed, IsTotalled, leaves}
use Rattle.hb_turns.specs.Shown.{Shown, Stirs, Stops, StandsForNone}
use Rattle.hb_turns.specs.Stands.{Obeys, Matches, Stands, StandsAlone, Lacks, Left, Tracks}
use Rattle.hb_turns.specs.declared.run.Records.{Records}
use Rattle.hb_turns.specs.declared.run.Run.{Run}
use Rattle.hb_turns.specs.declared.served.Served.{Served}
use Rattle.hb_turns.specs.declared.served.ServeEnd.{ServeEnd}
use Rattle.hb_turns.specs.declared.served.ServeEnd.TheVariants as ends
use Rattle.hb_turns.specs.declared.sums.Sums.{Sums}
use Rattle.hb_turns.specs.declared.words.ServeWords.{ServeWords}
use Rattle.hb_turns.proofs.Holding.{each, on_close, obeys-grows, stood_whole}
use Rattle.hb_turns.proofs.Leading.{closes_lead}
use Rattle.hb_turns.proofs.Looking.{closed_looks}
use Rattle.hb_turns.proofs.Serving.{none_lives, some_lives}
use Rattle.hb_turns.proofs.Summing.{totals_in, totals_same}

-- what is told of a run
abbrev pub outcome : ServeEnd → Records → Sums → Bool → Served
outcome end r s unkept = record { end = end; totals = totals_in r.births r.revoked s; wanting = r.wanting; unkept = unkept }

module _ {N : Type 0} (stands : List Note → N → List Entry → Type 0) (shown : N → Shown) where
  -- a link is closed that lives
  pub obeys_closed : (r new : Records) (l : ℕ) (cause : Cause) (before behind : Option (List Entry)) → behind ≡ with_closed l cause before
      → IsSome ((kept r.links).links l) → Tracks r new (e.Closed l cause) → IfSome before (Obeys stands shown r)
      → IfSome behind (Obeys stands shown new)
  obeys_closed r new l cause before behind adds some tracks =
      on_close (Obeys stands shown r) (Obeys stands shown new) l cause before behind adds
      (λ trace o. let alive = some_lives stands shown r l trace some o in (
        alive,
        obeys-grows stands shown r new trace (e.Closed l cause) (record { numbers = alive; awake = tt; settled = tt }) tracks o,
      ))

  -- as the node says that it is to be
  pub matches_closed : (run : Run N) (node : N) (new : Records) (l : ℕ) (cause : Cause) (before behind : Option (List Entry))
      → behind ≡ with_closed l cause before
      → ((notes : List Note) (trace : List Entry) → stands notes run.node trace
      → (lives l trace ≡ true) × stands notes node (trace ++ e.Closed l cause ∷ [])
      × Stirs (trace ++ e.Closed l cause ∷ []) (shown run.node) (shown node))
      → Tracks run.records new (e.Closed l cause) → IfSome before (Matches stands shown run)
      → IfSome behind (Matches stands shown (record run { node = node; records = new }))
  matches_closed run node new l cause before behind adds acts tracks =
      on_close (Matches stands shown run) (Matches stands shown (record run { node = node; records = new })) l cause before behind adds
      (λ trace m. let it = acts m.notes trace m.node in (
        it.0,
        record {
          notes = m.notes;
          node = it.1;
          taken_are = m.taken_are;
          obeys = obeys-grows stands shown run.records new trace (e.Closed l cause) (record { numbers = it.0; awake = tt; settled = tt })
              tracks m.obeys;
        },
      ))

  -- no act is left: the node stands for what it stood for
  pub matches_acts : (run : Run N) (node : N) (told : Option (List Entry))
      → ((notes : List Note) (trace : List Entry) → stands notes run.node trace
      → stands notes node trace × Stirs trace (shown run.node) (shown node))
      → IfSome told (Matches stands shown run) → IfSome told (Matches stands shown (record run { node = node }))
  matches_acts run node told acts =
      each (Matches stands shown run) (Matches stands shown (record run { node = node })) told
      (λ trace m. record { notes = m.notes; node = (acts m.notes trace m.node).0; taken_are = m.taken_are; obeys = m.obeys })

  -- the run is to end, and no close was due
  pub matches_stopped : (run : Run N) (node : N) (told : Option (List Entry)) → Stops stands shown run.node node
      → (shown run.node).none_closes ≡ true → IfSome told (Stands stands shown run)
      → IfSome told (Matches stands shown (record run { node = node }))
  matches_stopped run node told stops none =
      each (Stands stands shown run) (Matches stands shown (record run { node = node })) told
      (λ trace s. let m = s.matches in
      record { notes = m.notes; node = stops s.going none m.notes trace m.node; taken_are = m.taken_are; obeys = m.obeys })

  -- each close that was due is made
  pub stands_alone : (run : Run N) (told : Option (List Entry)) → StandsForNone stands run.node → IfSome told (Matches stands shown run)
      → IfSome told (StandsAlone stands shown run)
  stands_alone run told none =
      each (Matches stands shown run) (StandsAlone stands shown run) told
      (λ trace m. record { matches = m; none = none m.notes trace m.node })

  -- then the loop closes none by itself
  pub alone_closed : (run new : Run N) (l : ℕ) (cause : Cause) (before behind : Option (List Entry)) → behind ≡ with_closed l cause before
      → IsSome ((kept run.records.links).links l) → IfSome before (StandsAlone stands shown run)
      → IfSome behind (StandsAlone stands shown new)
  alone_closed run new l cause before behind adds some =
      on_close (StandsAlone stands shown run) (StandsAlone stands shown new) l cause before behind adds
      (λ trace a. absurd
      (let dead = a.none l in
      let alive : lives l trace ≡ true = some_lives stands shown run.records l trace some a.matches.obeys in
      cc))

  -- where the closes that were due are made, and each note is taken
  pub notes_held : {A E : Type 0} (r : Result A E) (mid new : Run N) (told : Option (List Entry))
      → ((trace : List Entry) → Matches stands shown mid trace → OnOk r (Matches stands shown new trace))
      → OnOk r ((shown new.node).noted ≡ [])
      → OnOk r (IfSome told (StandsAlone stands shown mid) → IfSome told (HasAllNotes stands shown new))
  notes_held (Ok x) mid new told so none =
      each (StandsAlone stands shown mid) (HasAllNotes stands shown new) told
      (λ trace a. let m = so trace a.matches in
      record {
        notes = m.notes;
        are_notes = record { stands_for = m.node; none_waits = none };
        are_taken = m.taken_are;
      })
  notes_held (Err why) mid new told so none = tt

  stood : (end : ServeEnd) (notes : List Note) (n : N) (trace : List Entry) → stands notes n trace → (shown n).ends_for ≡ None
      → (end ≡ ends.TurnsSpent → (shown n).idle ≡ true) → IsStoodFor stands shown end trace
  stood ends.Stopped notes n trace had going rests = (notes, n, had, going)
  stood ends.WorldFault notes n trace had going rests = (notes, n, had, going)
  stood ends.TurnsSpent notes n trace had going rests = (notes, n, had, going, rests refl)
  stood ends.NoMemory notes n trace had going rests = stood_whole stands shown notes n trace had going

  -- no act is due where the turns are spent
  abbrev pub RestsSpent : {E : Type 0} → Result ServeEnd E → Run N → Type 0
  RestsSpent r run = IfOk r (λ end. end ≡ ends.TurnsSpent → (shown run.node).idle ≡ true)

  stood_or : {E : Type 0} (r : Result ServeEnd E) (run : Run N) (trace : List Entry) → Left stands shown r run trace → RestsSpent r run
      → IsStoodFor stands shown (end_of r) trace
  stood_or (Ok end) run trace s rests = stood end s.matches.notes run.node trace s.matches.node s.going rests
  stood_or (Err why) run trace lacks rests = lacks.1

  -- where memory lacked too
  pub left_obeys : {A E : Type 0} (r : Result A E) (run : Run N) (told : Option (List Entry)) → IfSome told (Left stands shown r run)
      → IfSome told (Obeys stands shown run.records)
  left_obeys (Ok x) run told had = each (Stands stands shown run) (Obeys stands shown run.records) told (λ trace s. s.matches.obeys) had
  left_obeys (Err why) run told had =
      each (Lacks stands shown run.records) (Obeys stands shown run.records) told (λ trace lacks. lacks.0) had

  -- the closes at the end are those of a run that is over
  over : (words : ServeWords) (end : ServeEnd) (more trace : List Entry) → Finishes words end trace → IsStoodFor stands shown end trace
      → All (ClosesFor (cause_at end)) more → IsOver stands shown words end (trace ++ more)
  over words end more trace finishes stood_for closes = record {
    before = trace;
    behind = more;
    trace_is = refl;
    finishes = finishes;
    stood_for = stood_for;
    closes = closes;
  }

  noted_or : {A E F : Type 0} (r : Result ServeEnd E) (b : Result A F) (run new : Run N) (trace : List Entry) (told : Option (List Entry))
      → Left stands shown r run trace → OnOk r ((shown run.node).none_closes ≡ true)
      → OnOk b ((shown run.node).none_closes ≡ true → IfSome (Some trace) (Stands stands shown run)
      → IfSome told (HasAllNotes stands shown new))
      → (end_of r ≡ ends.NoMemory → ⊥) → is_err b ≡ false → IfSome told (HasAllNotes stands shown new)
  noted_or (Ok end) (Ok x) run new trace told s closes notes other kept = notes closes s
  noted_or (Ok end) (Err why) run new trace told s closes notes other kept = absurd cc
  noted_or (Err why) b run new trace told lacks closes notes other kept = absurd (other refl)

  -- the totals are those of the trace and of all its notes
  totalled : (run : Run N) (trace : List Entry) → Obeys stands shown run.records trace → HasAllNotes stands shown run trace
      → IsTotalled stands shown (leaves run.taken.keep run.node) (totals_in run.records.births run.records.revoked run.taken.sums) trace
  totalled run trace o all = record {
    notes = all.notes;
    are_notes = all.are_notes;
    kept_are = all.are_taken.kept_are;
    totals_are = totals_same _ _ _ _ _ _ o.births_are o.revoked_are all.are_taken.sums_are;
  }

  -- a run that is over
  pub is_served : {A E F : Type 0} (words : ServeWords) (r : Result ServeEnd E) (b : Result A F) (run new : Run N)
      (before behind : Option (List Entry)) → IfSome before (Left stands shown r run) → IfSome before (Finishes words (end_of r))
      → IfSome before LooksLaw → IfSome before (LeadLaw stands shown) → Closes (cause_at (end_of r)) before behind → IfSome behind (Obeys stands shown new.records)
      → ((l : ℕ) → (kept new.records.links).links l ≡ None) → OnOk r ((shown run.node).none_closes ≡ true) → RestsSpent r run
      → OnOk b ((shown run.node).none_closes ≡ true → IfSome before (Stands stands shown run)
      → IfSome behind (HasAllNotes stands shown new))
      → IfSome behind (IsServed stands shown words
      (outcome (end_of r) new.records new.taken.sums (is_err b)) (leaves new.taken.keep new.node))
  is_served words r b run new None behind left_so finishes looks leads closes obeys none none_closes rests notes =
      subst (λ (o : Option (List Entry)). IfSome o (IsServed stands shown words
      (outcome (end_of r) new.records new.taken.sums (is_err b)) (leaves new.taken.keep new.node)))
      (sym closes.grows) tt
  is_served words r b run new (Some trace) behind left_so finishes looks leads closes obeys none none_closes rests notes =
      by behind closes.grows obeys notes
    where
      by : (told : Option (List Entry)) → told ≡ Some (trace ++ closes.more) → IfSome told (Obeys stands shown new.records)
          → OnOk b ((shown run.node).none_closes ≡ true → IfSome (Some trace) (Stands stands shown run)
          → IfSome told (HasAllNotes stands shown new))
          → IfSome told (IsServed stands shown words
          (outcome (end_of r) new.records new.taken.sums (is_err b)) (leaves new.taken.keep new.node))
      by None is o notes = tt
      by (Some full) is o notes = record {
        awake = o.awake;
        settled = o.settled;
        looks = subst (λ (es : List Entry). LooksLaw es) (let same : full ≡ trace ++ closes.more = cc in sym same)
            (closed_looks (cause_at (end_of r)) trace closes.more closes.closes looks);
        leads = subst (λ (es : List Entry). LeadLaw stands shown es) (let same : full ≡ trace ++ closes.more = cc in sym same)
            (closes_lead stands shown (cause_at (end_of r)) trace closes.more closes.closes leads);
        closed = λ l. none_lives l full (sym (o.links l) ∙ none l);
        over = subst (λ (es : List Entry). IsOver stands shown words (end_of r) es) (let same : full ≡ trace ++ closes.more = cc in sym same)
            (over words (end_of r) closes.more trace finishes (stood_or r run trace left_so rests) closes.closes);
        links_are = o.births_are;
        wanting_is = o.wanting_is;
        revoked_are = o.revoked_are;
        noted = λ other kept. totalled new full o (noted_or r b run new trace (Some full) left_so none_closes notes other kept);
      }
