use Rattle.std.proofs.Common.{◌≡◌, ℕ, ◌==◌, Bool, true, false, ◌||◌, ◌&&◌, not, if◌then◌else◌, List, [], ◌∷◌, Some, None, refl, arith}
use Rattle.std.proofs.lemmas.List.Elements.{All-cons, All-nil}
use Rattle.hb_base.specs.declared.cause.Cause.TheVariants as cause
use Rattle.hb_base.specs.declared.door.Door.{Door}
use Rattle.hb_base.specs.declared.door.Why.{Why}
use Rattle.hb_base.specs.declared.target.Target.{Target}
use Rattle.hb_base.specs.declared.door.Door.TheVariants.{Inbound, Outbound, Plain}
use Rattle.hb_world.specs.Trace.{AtEach}
use Rattle.hb_world.specs.declared.entry.Entry.{Entry}
use Rattle.hb_world.specs.declared.entry.Entry.TheVariants as e
use Rattle.hb_world.specs.declared.entry.Way.TheVariants as way
use Rattle.hb_world.proofs.TraceLemmas.{AtEach-grows}
use Rattle.hb_ready.specs.Awake.{IsAwake}
use Rattle.hb_ready.specs.Sight.{fresh, with_finish, asked}
use Rattle.hb_turns.specs.Leads.{LedAt}
use Rattle.hb_turns.specs.Ends.{ClosesFor, end_by}
use Rattle.hb_turns.specs.Listens.{listen_at}
use Rattle.hb_turns.specs.RefusedRuns.{good_start, waits_stop}
use Rattle.hb_turns.specs.Settled.{Rests, SettledAt}
use Rattle.hb_turns.specs.Shown.{Shown}
use Rattle.hb_turns.proofs.Serving.{nothing_at}
use Rattle.hb_turns.proofs.laws.a_good_run_is_served.Goals as goal

rests : (b : Bool) (l : ℕ) (s : Shown)
    → Rests (if (b || (false || false)) && not (false || (false || false))
    then Some (if b then with_finish true (if b then fresh false else fresh false) else (if b then fresh false else fresh false))
    else None) l s
rests true l s = refl
rests false l s = tt

over : (b : Bool) → ((b || (false || (false || (false || false)))) && not (false || (false || (false || (b || false))))) ≡ false
over true = refl
over false = refl

asks_none : (at to : Target) (why : Why) (d : Door) → asked d (good_start at to why) ≡ false
asks_none at to why Inbound = refl
asks_none at to why Outbound = refl
asks_none at to why Plain = refl

-- three entries, then two more
five : (P : List Entry → Entry → Type 0) (v w x y z : Entry) → P [] v → P (v ∷ []) w → P (v ∷ w ∷ []) x → P (v ∷ w ∷ x ∷ []) y
    → P (v ∷ w ∷ x ∷ y ∷ []) z → AtEach P (v ∷ w ∷ x ∷ y ∷ z ∷ [])
five P v w x y z a b c d f =
    AtEach-grows P (v ∷ w ∷ x ∷ y ∷ []) z
    (AtEach-grows P (v ∷ w ∷ x ∷ []) y
    (AtEach-grows P (v ∷ w ∷ []) x (AtEach-grows P (v ∷ []) w (AtEach-grows P [] v (nothing_at P) a) b) c) d) f

pub returns : goal.returns
returns g c = λ at to why notes more n m k free going starts waits ends none.
    let listens = listen_at true (Inbound, at) in
    let dials = e.Dialled 1 to why in
    let balks = e.Balked (way.Finish 1) in
    let on = λ (before : List Entry) (x : Entry). end_by None before x ≡ None in
    record {
      awake = five IsAwake listens dials balks waits_stop (e.Closed 1 cause.Stopped) tt tt refl tt tt;
      settled = five (SettledAt g.N.Node.stands g.N.Node.shown) listens dials balks waits_stop (e.Closed 1 cause.Stopped) tt tt tt
          (λ waited. record {
            notes = notes;
            node = n;
            stands_for = starts;
            going = free.0;
            idle = free.1;
            doors = asks_none at to why;
            links = λ l. rests (1 == l) l (g.N.Node.shown n);
          }) tt;
      looks = refl;
      leads = five (LedAt g.N.Node.stands g.N.Node.shown) listens dials balks waits_stop (e.Closed 1 cause.Stopped)
          (λ looked. absurd cc) (λ looked. absurd cc) (λ looked. absurd cc) tt tt;
      closed = λ l. over (1 == l);
      over = record {
        before = listens ∷ dials ∷ balks ∷ waits_stop ∷ [];
        behind = e.Closed 1 cause.Stopped ∷ [];
        trace_is = refl;
        finishes = record {
          begins = record {
            made = (Inbound, at) ∷ [];
            left = [];
            rest = dials ∷ balks ∷ waits_stop ∷ [];
            doors_are = refl;
            trace_is = refl;
            leaves = refl;
          };
          ends_as = record {
            before = listens ∷ dials ∷ balks ∷ [];
            last = waits_stop;
            trace_is = refl;
            runs_on = AtEach-grows on (listens ∷ dials ∷ []) balks
                (AtEach-grows on (listens ∷ []) dials (AtEach-grows on [] listens (nothing_at on) refl) refl) refl;
            ends = refl;
          };
          few_waits = omega arith;
          spends = tt;
        };
        stood_for = (notes, m, waits, going);
        closes = All-cons (ClosesFor cause.Stopped) (e.Closed 1 cause.Stopped) [] refl (All-nil (ClosesFor cause.Stopped));
      };
      links_are = refl;
      wanting_is = refl;
      revoked_are = refl;
      noted = λ other kept. record {
        notes = more;
        are_notes = record { stands_for = ends; none_waits = none };
        kept_are = refl;
        totals_are = refl;
      };
    }
