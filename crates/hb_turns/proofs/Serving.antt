-- A run from its start to its end.
use Rattle.std.proofs.Common.{◌≡◌, ℕ, Bool, true, false, if◌then◌else◌, List, [], ◌∷◌, Option, Some, None, IfSome, IsSome, refl, sym, ◌∙◌, subst, inr}
use Rattle.std.specs.Option.{option_map}
use Rattle.std.proofs.lemmas.List.Elements.{All-nil}
use Rattle.std.proofs.lemmas.Bool.{false≢true}
use Rattle.hb_world.specs.Trace.{lives, AtEach}
use Rattle.hb_base.specs.declared.note.Note.{Note}
use Rattle.hb_world.specs.declared.entry.Entry.{Entry}
use Rattle.hb_ready.specs.Awake.{IsAwake}
use Rattle.hb_ready.specs.Registry.{kept}
use Rattle.hb_ready.specs.Sight.{known, sight}
use Rattle.hb_ready.specs.declared.link.Link.{Link}
use Rattle.hb_turns.specs.Leads.{LedAt}
use Rattle.hb_turns.specs.Served.{IsServed, IsFresh, IsFreshNode, leaves, nothing_done}
use Rattle.hb_turns.specs.Settled.{SettledAt, Rests}
use Rattle.hb_turns.specs.Shown.{Shown}
use Rattle.hb_turns.specs.Stands.{Obeys, Watched}
use Rattle.hb_turns.specs.Totals.{sums_of}
use Rattle.hb_turns.specs.declared.run.Records.{Records}
use Rattle.hb_turns.specs.declared.run.Run.{Run}
use Rattle.hb_turns.specs.Ends.{ClosesFor, cause_at}
use Rattle.hb_turns.specs.Listens.{given}
use Rattle.hb_turns.specs.Notes.{Holds}
use Rattle.hb_turns.specs.Reckons.{Begins}
use Rattle.hb_turns.specs.declared.served.ServeEnd.TheVariants as ends
use Rattle.hb_turns.specs.declared.words.ServeWords.{ServeWords}
use Rattle.hb_turns.proofs.Holding.{known_lives, stood_whole}
use Rattle.hb_turns.proofs.Listening.{lack_finishes_listens}

-- a link that is known lives
pub some_lives : {N : Type 0} (stands : List Note → N → List Entry → Type 0) (shown : N → Shown) (r : Records) (l : ℕ) (trace : List Entry)
    → IsSome ((kept r.links).links l) → Obeys stands shown r trace → lives l trace ≡ true
some_lives stands shown r l trace some o = by ((kept r.links).links l) refl some
  where
    by : (k : Option Link) → (kept r.links).links l ≡ k → IsSome k → lives l trace ≡ true
    by None is some = absurd (false≢true some)
    by (Some k) is some = (known_lives l trace k (sym (o.links l) ∙ is)).0

-- where none is known, none lives
pub none_lives : (l : ℕ) (trace : List Entry) → known l trace ≡ None → lives l trace ≡ false
none_lives l trace none = by (lives l trace) refl none
  where
    by : (b : Bool) → lives l trace ≡ b → (if b then Some (sight l trace) else None) ≡ None → lives l trace ≡ false
    by true alive is = absurd cc
    by false dead is = dead

pub nothing_at : (P : List Entry → Entry → Type 0) → AtEach P []
nothing_at P [] x after is = absurd cc
nothing_at P (b ∷ bs) x after is = absurd cc

-- an emptied keep holds no note
nothing_held : (k : Option (List Note)) → Holds (option_map (λ (notes : List Note). []) k) []
nothing_held None = tt
nothing_held (Some notes) = refl

watched_fresh : {N : Type 0} (shown : N → Shown) (run : Run N) → IsFresh run.records → Watched shown run
watched_fresh shown run fresh l =
    inr (inr (subst (λ (o : Option Link). Rests o l (shown run.node)) (sym (fresh.links l)) tt))

-- before anything happened
pub begins : {N : Type 0} (stands : List Note → N → List Entry → Type 0) (shown : N → Shown) (run : Run N) (keep : Option (List Note))
    (told : Option (List Entry)) → IsFresh run.records → run.taken.keep ≡ option_map (λ (notes : List Note). []) keep → run.taken.sums ≡ sums_of []
    → stands [] run.node []
    → IsFreshNode (shown run.node) → told ≡ Some [] → IfSome told (Begins stands shown run [])
begins stands shown run keep told fresh keeps sums stands_for node is =
    subst (λ (o : Option (List Entry)). IfSome o (Begins stands shown run [])) (sym is)
    (record {
      stands_for = record {
        matches = record {
          notes = [];
          node = stands_for;
          taken_are = record {
            kept_are = subst (λ (k : Option (List Note)). Holds k []) (sym keeps) (nothing_held keep);
            sums_are = sums;
          };
          obeys = record {
            links = fresh.links;
            doors = fresh.doors;
            numbered = λ l above. (refl, refl);
            births_are = fresh.births;
            wanting_is = fresh.wanting;
            revoked_are = fresh.revoked;
            awake = nothing_at IsAwake;
            settled = nothing_at (SettledAt stands shown);
          };
        };
        watched = watched_fresh shown run fresh;
        going = node.going;
      };
      listens = refl;
    })

-- memory lacked before anything happened
pub nothing_served : {N : Type 0} (stands : List Note → N → List Entry → Type 0) (shown : N → Shown) (words : ServeWords)
    (keep : Option (List Note))
    (n : N) (told : Option (List Entry)) → stands [] n [] → (shown n).ends_for ≡ None → told ≡ Some []
    → IfSome told (IsServed stands shown words nothing_done (leaves keep n))
nothing_served stands shown words keep n told fresh going is =
    subst (λ (o : Option (List Entry)). IfSome o (IsServed stands shown words nothing_done (leaves keep n))) (sym is)
    (record {
      awake = nothing_at IsAwake;
      settled = nothing_at (SettledAt stands shown);
      looks = refl;
      leads = nothing_at (LedAt stands shown);
      closed = λ l. refl;
      over = record {
        before = [];
        behind = [];
        trace_is = refl;
        finishes = lack_finishes_listens words [] (record { made = []; left = given words.doors; doors_are = refl; trace_is = refl });
        stood_for = stood_whole stands shown [] n [] fresh going;
        closes = All-nil (ClosesFor (cause_at ends.NoMemory));
      };
      links_are = refl;
      wanting_is = refl;
      revoked_are = refl;
      noted = λ other kept. absurd (other refl);
    })
