-- One look follows another, until nothing is left to be looked at; then what may be put is put.
use Rattle.std.proofs.Common.{⊎_elim, ℕ, not, Bool, true, false, [], refl, ap, sym, subst}
use Rattle.std.proofs.lemmas.Bool.{cases_eq, ne_eqb}
use Rattle.hb_gateway.specs.Calm.{IsCalm, IsCalmBy}
use Rattle.hb_gateway.specs.Gateway as machine
use Rattle.hb_gateway.specs.Gateway.{Gateway, Phase}
use Rattle.hb_link.proofs.Noted.{takes_none}
use Rattle.hb_link.specs.Noted.{Told}
use Rattle.hb_proxy.specs.Machine.{outward}
use Rattle.hb_relays.specs.Joining.{ShowsSome, all, but, every, not_of}
use Rattle.hb_relays.specs.Looking.{IsLooked, LookedBy, LooksAll, LooksOnce, SettledBy}
use Rattle.hb_relays.specs.Pumping.{PumpsGate}
use Rattle.hb_relays.specs.declared.relays.Relays.{Relays}
use Rattle.hb_relays.proofs.Progress.{goes_then, stands_on}

pub looks_start : (n : ℕ) (k : Relays) (told : Told) → LooksOnce n true k told k told
looks_start n k told g x points stands shows none settled = record {
  goes = record {
    more = [];
    reached = x;
    leads = refl;
    shows = shows;
    undue = λ l un. un;
    noted = takes_none told;
  };
  here = settled;
}

pub looks_then : (n : ℕ) (more : Bool) (a b c : Relays) (told mid now : Told) → LooksOnce n true a told b mid
    → LooksOnce n more b mid c now → LooksOnce n more a told c now
looks_then n more a b c told mid now one two g x points stands shows none settled =
    let first = one g x points stands shows none settled in
    let stood = stands_on g x points first.goes.more first.goes.reached stands first.goes.leads in
    let last = two g first.goes.reached stood.0 stood.1 first.goes.shows (λ l. first.goes.undue l (none l)) first.here in
    record {
      goes = goes_then all all (not_of n) (not_of n) (but n) (but n) g x b c told mid now first.goes last.goes;
      here = last.here;
    }

calm_by : (phase : Phase) (w : Gateway) → SettledBy phase w → LookedBy phase w.conn → IsCalmBy phase w
calm_by machine.opening w settled looked = settled
calm_by machine.serving w settled looked = (settled.reset, looked)
calm_by machine.unborn w settled looked = tt
calm_by (machine.faulted code) w settled looked = tt
calm_by (machine.closing why) w settled looked = tt
calm_by machine.closed w settled looked = tt

looked_calm : (w : Gateway) → IsLooked w → IsCalm w
looked_calm w looked = (looked.0.0, calm_by w.phase w looked.0.1 looked.1)

pub looks_end : (n : ℕ) (a b c : Relays) (told mid now : Told) → LooksOnce n false a told b mid → PumpsGate n b mid c now
    → LooksAll n a told c now
looks_end n a b c told mid now looks pumps g x points stands shows none settled =
    let first = looks g x points stands shows none settled in
    let w = first.goes.reached in
    let stood = stands_on g x points first.goes.more w stands first.goes.leads in
    let known = first.goes.shows in
    let all_calm : ShowsSome all (not_of n) all g b (outward w) = record {
      relays = known.relays;
      index = known.index;
      numbered = known.numbered;
      idle = known.idle;
      counted = known.counted;
      gates = known.gates;
      gate_numbered = known.gate_numbered;
      gate_idle = known.gate_idle;
      gates_calm = λ m so. ⊎_elim
          (λ same. subst (λ (i : ℕ). IsCalm (w.gates i)) (sym same) (looked_calm (w.gates n) first.here))
          (λ apart. known.gates_calm m (ap not (ne_eqb m n apart))) (cases_eq m n);
      streams = known.streams;
      wanting = known.wanting;
    } in
    goes_then all all (not_of n) every (but n) all g x b c told mid now first.goes
    (pumps g w stood.0 stood.1 all_calm (λ l. first.goes.undue l (none l)))
