use Rattle.std.proofs.Common.{◌≡◌, ◌==◌, Bool, true, false, ◌||◌, ◌&&◌, not, List, [], ◌∷◌, None, refl, arith}
use Rattle.std.proofs.lemmas.List.Elements.{All-cons, All-nil}
use Rattle.hb_base.specs.declared.cause.Cause.TheVariants as cause
use Rattle.hb_world.specs.Trace.{AtEach}
use Rattle.hb_world.specs.declared.entry.Entry.{Entry}
use Rattle.hb_world.specs.declared.entry.Entry.TheVariants as e
use Rattle.hb_world.proofs.TraceLemmas.{AtEach-grows}
use Rattle.hb_ready.specs.Awake.{IsAwake}
use Rattle.hb_turns.specs.Leads.{LedAt}
use Rattle.hb_turns.specs.Ends.{ClosesFor, end_by}
use Rattle.hb_turns.specs.Settled.{SettledAt}
use Rattle.hb_turns.proofs.Holding.{stood_last}
use Rattle.hb_turns.proofs.Serving.{nothing_at}
use Rattle.hb_turns.proofs.laws.a_run_that_lacked_is_served.Goals as goal

over : (b : Bool) → ((b || (false || (false || false))) && not (false || (false || (b || false)))) ≡ false
over true = refl
over false = refl

two : (P : List Entry → Entry → Type 0) (x y : Entry) → P [] x → P (x ∷ []) y → AtEach P (x ∷ y ∷ [])
two P x y a b = AtEach-grows P (x ∷ []) y (AtEach-grows P [] x (nothing_at P) a) b

pub returns : goal.returns
returns g c = λ to why notes n left free starts.
    let dials = e.Dialled 1 to why in
    let opens = e.Opened 1 in
    let closes = e.Closed 1 cause.NoMemory in
    let settles = SettledAt g.N.Node.stands g.N.Node.shown in
    let leads = LedAt g.N.Node.stands g.N.Node.shown in
    record {
      awake = AtEach-grows IsAwake (dials ∷ opens ∷ []) closes (two IsAwake dials opens tt refl) tt;
      settled = AtEach-grows settles (dials ∷ opens ∷ []) closes (two settles dials opens tt tt) tt;
      looks = refl;
      leads = AtEach-grows leads (dials ∷ opens ∷ []) closes (two leads dials opens (λ looked. absurd cc) (λ looked. absurd cc)) tt;
      closed = λ l. over (1 == l);
      over = record {
        before = dials ∷ opens ∷ [];
        behind = closes ∷ [];
        trace_is = refl;
        finishes = record {
          begins = record { made = []; left = []; rest = dials ∷ opens ∷ []; doors_are = refl; trace_is = refl; leaves = refl };
          ends_as = two (λ (before : List Entry) (x : Entry). end_by None before x ≡ None) dials opens refl refl;
          few_waits = omega arith;
          spends = tt;
        };
        stood_for = stood_last g.N.Node.stands g.N.Node.shown notes n (dials ∷ []) opens starts free.0 (free, (refl, refl));
        closes = All-cons (ClosesFor cause.NoMemory) closes [] refl (All-nil (ClosesFor cause.NoMemory));
      };
      links_are = refl;
      wanting_is = refl;
      revoked_are = refl;
      noted = λ other kept. absurd (other refl);
    }
