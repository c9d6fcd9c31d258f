-- What is known of all links where nothing is done, and where more is found to be so.
use Rattle.std.proofs.Common.{◌≡◌, ℕ, true, [], refl}
use Rattle.hb_captured.specs.Answer.{key_of}
use Rattle.hb_captured.specs.Captured.{due}
use Rattle.hb_link.proofs.Noted.{takes_none}
use Rattle.hb_link.specs.Noted.{Told}
use Rattle.hb_model.specs.declared.config.NodeConfig.{NodeConfig}
use Rattle.hb_proxy.specs.Machine.{Machine, Outward, outward}
use Rattle.hb_proxy.specs.Runs.{RestsAmong, IfThrough, NoneOffersAmong}
use Rattle.hb_relays.specs.Joining.{Links, Streams, ShowsSome, GoesOn}
use Rattle.hb_relays.specs.declared.relays.Relays.{Relays}

-- of other links it is known that they find no room, and of other streams that they rest
pub shows_as : (waiting fewer : Links) (resting less : Streams) (calm : Links) (g : NodeConfig) (k : Relays) (x : Outward)
    → ShowsSome waiting resting calm g k x → ((l : ℕ) → less l (x.plain l) ≡ true → RestsAmong x.gates (x.plain l))
    → ((l : ℕ) → fewer l ≡ true → (x.plain l).stage ≡ due → IfThrough (key_of (x.plain l).aim) (NoneOffersAmong x.gates))
    → ShowsSome fewer less calm g k x
shows_as waiting fewer resting less calm g k x shows rests waits = record {
  relays = shows.relays;
  index = shows.index;
  numbered = shows.numbered;
  idle = shows.idle;
  counted = shows.counted;
  gates = shows.gates;
  gate_numbered = shows.gate_numbered;
  gate_idle = shows.gate_idle;
  gates_calm = shows.gates_calm;
  streams = rests;
  wanting = waits;
}

-- nothing is done
abbrev pub goes_nowhere : (waiting : Links) (resting : Streams) (calm : Links) (g : NodeConfig) (x : Machine) (k : Relays) (told : Told)
    → ShowsSome waiting resting calm g k (outward x) → GoesOn waiting resting calm g x k told told
goes_nowhere waiting resting calm g x k told shows = record {
  more = [];
  reached = x;
  leads = refl;
  shows = shows;
  undue = λ l undue. undue;
  noted = takes_none told;
}

-- and where that is known of what is reached
pub goes_as : (waiting fewer : Links) (resting less : Streams) (calm : Links) (g : NodeConfig) (x : Machine) (k : Relays) (told now : Told)
    → (goes : GoesOn waiting resting calm g x k told now)
    → ((l : ℕ) → less l (goes.reached.plain l) ≡ true → RestsAmong goes.reached.gates (goes.reached.plain l))
    → ((l : ℕ) → fewer l ≡ true → (goes.reached.plain l).stage ≡ due
    → IfThrough (key_of (goes.reached.plain l).aim) (NoneOffersAmong goes.reached.gates)) → GoesOn fewer less calm g x k told now
goes_as waiting fewer resting less calm g x k told now goes rests waits = record {
  more = goes.more;
  reached = goes.reached;
  leads = goes.leads;
  shows = shows_as waiting fewer resting less calm g k (outward goes.reached) goes.shows rests waits;
  undue = goes.undue;
  noted = goes.noted;
}
