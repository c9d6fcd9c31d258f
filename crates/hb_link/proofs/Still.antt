-- What is shown of a link is the same whatever is roused.
use Rattle.std.proofs.Common.{◌≡◌, ℕ, Option, refl}
use Rattle.hb_held.specs.Held.{Resources}
use Rattle.hb_inbound.specs.Inbound as m
use Rattle.hb_inbound.specs.Inbound.{Inbound}
use Rattle.hb_inbound.specs.Part.{Part}
use Rattle.hb_inbound.specs.Runs.{Local}
use Rattle.hb_link.specs.Counting.{Places}
use Rattle.hb_link.specs.declared.link.Link.{Link}
use Rattle.hb_link.specs.declared.phase.Phase.{Phase}
use Rattle.hb_link.specs.declared.phase.Phase.TheVariants.{Fronting, Serving, Faulted, Closing, Closed}
use Rattle.hb_link.specs.declared.roused.Roused.{Roused}
use Rattle.hb_link.specs.Load.{places_on}
use Rattle.hb_link.specs.Noted.{Told}
use Rattle.hb_link.specs.Observed.{wants_in, wants_on, output_in, output_on, last_in, says_last}
use Rattle.hb_link.specs.Putting.{PutsBelow}
use Rattle.hb_link.specs.Reaches.{Guard, Meets}
use Rattle.hb_link.specs.Settling.{Agrees, MayPut, MayLook, SettlesBy}
use Rattle.hb_link.specs.Shows.{Shows, ShowsBy}
use Rattle.hb_link.proofs.Settles.{agrees, shows_calm}

-- the machines that are shown are the same whatever is roused
module _ (k : Link) (r : Roused) (x : Inbound) where
  pub agrees_still : Agrees k x → Agrees (record k { roused = r }) x
  agrees_still is = record { phase = is.phase; way = way x.phase is.way; tunnels = is.tunnels; numbered = is.numbered }
    where
      way : (phase : m.Phase) → ShowsBy phase k x → ShowsBy phase (record k { roused = r }) x
      way m.fronting by = by
      way m.serving by = by
      way (m.faulted code) by = by
      way phase by = tt

  pub puts_still : MayPut k x → MayPut (record k { roused = r }) x
  puts_still is = record { agrees = agrees_still is.agrees; answered = is.answered; looked = is.looked }

  pub looks_still : MayLook k x → MayLook (record k { roused = r }) x
  looks_still is = record { agrees = agrees_still is.agrees; answered = is.answered; serving = is.serving; fares = is.fares }

  pub below_still : (from n : ℕ) → PutsBelow from n k x → PutsBelow from n (record k { roused = r }) x
  below_still from n is = record { may = puts_still is.may; serves = is.serves; below = is.below }

  pub shows_still : Shows k x → Shows (record k { roused = r }) x
  shows_still is =
      shows_calm (record k { roused = r }) x (agrees_still (agrees k x is)) is.calm

-- nor is more seen of it
module _ (k : Link) (r : Roused) where
  wants_by_phase : (phase : Phase) → wants_in phase (record k { roused = r }) ≡ wants_in phase k
  wants_by_phase Fronting = refl
  wants_by_phase Serving = refl
  wants_by_phase (Faulted code) = refl
  wants_by_phase (Closing why) = refl
  wants_by_phase Closed = refl

  output_by_phase : (phase : Phase) → output_in phase (record k { roused = r }) ≡ output_in phase k
  output_by_phase Fronting = refl
  output_by_phase Serving = refl
  output_by_phase (Faulted code) = refl
  output_by_phase (Closing why) = refl
  output_by_phase Closed = refl

  last_by_phase : (phase : Phase) → last_in phase (record k { roused = r }) ≡ last_in phase k
  last_by_phase Fronting = refl
  last_by_phase Serving = refl
  last_by_phase (Faulted code) = refl
  last_by_phase (Closing why) = refl
  last_by_phase Closed = refl

  pub wants_still : wants_on (record k { roused = r }) ≡ wants_on k
  wants_still = wants_by_phase k.phase

  pub output_still : output_on (record k { roused = r }) ≡ output_on k
  output_still = output_by_phase k.phase

  pub last_still : says_last (record k { roused = r }) ≡ says_last k
  last_still = last_by_phase k.phase

  pub places_still : places_on (record k { roused = r }) ≡ places_on k
  unfolding places_on
  places_still = refl

-- so it is of a call
pub settles_still : (limits : Option Places) (H : Resources → Type 0) (P Q : Link → Inbound → Type 0) (k n : Link) (r : Roused) (told now : Told)
    → ((x : Inbound) → Q n x → Q (record n { roused = r }) x) → SettlesBy limits H P Q k told n now
    → SettlesBy limits H P Q k told (record n { roused = r }) now
settles_still limits H P Q k n r told now still settles start before a stands holds is =
    let done = settles start before a stands holds is in (
      done.0,
      record {
        parts = done.1.parts;
        reached = done.1.reached;
        leads = done.1.leads;
        shows = still done.1.reached.link done.1.shows;
        noted = done.1.noted;
      },
    )

pub meets_still : (G : Guard) (P : Local → Type 0) (p : Part) (k n : Link) (r : Roused) (told now : Told) → Meets G P p k told n now
    → Meets G P p k told (record n { roused = r }) now
meets_still G P p k n r told now meets start before a b stands shows holds step =
    let done = meets start before a b stands shows holds step in (
      done.0,
      record {
        parts = done.1.parts;
        reached = done.1.reached;
        leads = done.1.leads;
        shows = shows_still n r done.1.reached.link done.1.shows;
        noted = done.1.noted;
      },
    )
