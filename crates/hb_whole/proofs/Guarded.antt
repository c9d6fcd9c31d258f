-- An entry of a link of a door, or of an upstream, that may come next in the machine.
use Rattle.std.proofs.Common.{◌≡◌, ◌⊎◌, inl, inr, ℕ, [], ◌∷◌, Some, refl}
use Rattle.hb_captured.specs.Captured as captured
use Rattle.hb_captured.specs.Captured.{Captured}
use Rattle.hb_captured.specs.Part as plain
use Rattle.hb_captured.specs.Runs as captured_runs
use Rattle.hb_gateway.specs.Gateway.{Gateway}
use Rattle.hb_gateway.specs.Hears.{all_hear}
use Rattle.hb_gateway.specs.Part as gate
use Rattle.hb_gateway.specs.Runs as gateway
use Rattle.hb_inbound.specs.Inbound.{Inbound, at_stream}
use Rattle.hb_inbound.specs.Part as part
use Rattle.hb_inbound.specs.Runs as inbound
use Rattle.hb_inbound.specs.Tunnel.{Tunnel, up_entered}
use Rattle.hb_links.specs.Calls.{point_for}
use Rattle.hb_proxy.specs.Machine.{Machine, born_by, with_part, with_plain, with_gate, outward as outward_of}
use Rattle.hb_proxy.specs.Notes.{note_in}
use Rattle.hb_proxy.specs.Points.{Point, of_link, of_plain, of_gate, entry_in}
use Rattle.hb_proxy.specs.Runs.{DialsGate, GateMayCome, LinkMayCome, MayDialGate, PlainMayCome, Steps}
use Rattle.hb_relays.specs.Calls as relays
use Rattle.hb_world.specs.declared.entry.Entry.{Entry}
use Rattle.hb_whole.specs.declared.proxy.Proxy.{Proxy}
use Rattle.hb_whole.proofs.Keeping.{IsSteady}
use Rattle.hb_whole.proofs.LinkMay.{link_steps, up_steps}
use Rattle.hb_whole.proofs.Still.{own_same, up_same, plain_same, gate_same}

-- an entry that changes no link, and no upstream
pub record IsStill (x : Machine) (z : Entry) : Type 0 where
  pub link : (y : Inbound) → inbound.entered z y ≡ y
  pub up : (k : Tunnel) → up_entered z k ≡ k
  pub plain : (y : Captured) → captured.entered z y ≡ y
  pub relay : (y : Captured) → captured.up_entered z y ≡ y
  pub gate : (y : Gateway) → gateway.entered z (all_hear (gate.entry z) y) ≡ y
  pub born : born_by x.born z ≡ x.born

-- it is a point of the machine; one that changes nothing leads nowhere else
pub record Guarded (p : Proxy) (x : Machine) (z : Entry) : Type 0 where
  pub point : Point
  pub next : Machine
  pub steps : Steps p.control.config x point next
  pub one : entry_in point ≡ z ∷ []
  pub no_note : note_in point ≡ []
  pub control : next.control ≡ x.control
  pub same : IsStill x z → next ≡ x

-- which the inbound links of the code find, or those that go out; the other parts stay as they are
pub record LinkGuarded (p : Proxy) (x : Machine) (l : ℕ) (z : Entry) : Type 0 where
  pub at : Guarded p x z
  pub found : point_for p.side.links l z ≡ Some at.point
  pub steady : IsSteady at.point
  pub outward : outward_of at.next ≡ outward_of x

pub record PlainGuarded (p : Proxy) (x : Machine) (l : ℕ) (z : Entry) : Type 0 where
  pub at : Guarded p x z
  pub found : relays.point_for p.side.relays l z ≡ Some at.point
  -- but an entry of a plain link may bring its header
  pub steady : IsSteady at.point ⊎ ((k : ℕ) × (at.point ≡ of_plain k (plain.entry z)))
  pub inbound : at.next.inbound ≡ x.inbound

-- ON AN INBOUND LINK, AND ON AN UPSTREAM

pub guarded_link : (p : Proxy) (x : Machine) (l : ℕ) (z : Entry)
    → ((z : Entry) → point_for p.side.links l z ≡ Some (of_link l (part.entry z)))
    → inbound.MayCome l (x.inbound l) z → LinkMayCome x l z → LinkGuarded p x l z
guarded_link p x l z found may guard = record {
  at = record {
    point = of_link l (part.entry z);
    next = with_part l (part.entry z) (inbound.entered z (x.inbound l)) x;
    steps = link_steps p.control.config x l z may guard;
    one = refl;
    no_note = refl;
    control = refl;
    same = λ still. own_same x l z (still.link (x.inbound l)) still.born;
  };
  found = found z;
  steady = tt;
  outward = refl;
}

pub guarded_up : (p : Proxy) (x : Machine) (u l s : ℕ) (z : Entry)
    → ((z : Entry) → point_for p.side.links u z ≡ Some (of_link l (part.up s z)))
    → inbound.UpMayCome l s (x.inbound l) ((x.inbound l).tunnels s) z → LinkMayCome x l z → LinkGuarded p x u z
guarded_up p x u l s z found may guard = record {
  at = record {
    point = of_link l (part.up s z);
    next = with_part l (part.up s z) (at_stream s (up_entered z) (x.inbound l)) x;
    steps = up_steps p.control.config x l s z may guard;
    one = refl;
    no_note = refl;
    control = refl;
    same = λ still. up_same x l s z still.up still.born;
  };
  found = found z;
  steady = tt;
  outward = refl;
}

-- ON A LINK OF THE PLAIN DOOR, AND ON ITS UPSTREAM

pub guarded_plain : (p : Proxy) (x : Machine) (l : ℕ) (z : Entry)
    → ((z : Entry) → relays.point_for p.side.relays l z ≡ Some (of_plain l (plain.entry z)))
    → captured_runs.MayCome l (x.plain l) z → PlainMayCome x l z → PlainGuarded p x l z
guarded_plain p x l z found may guard = record {
  at = record {
    point = of_plain l (plain.entry z);
    next = with_plain l (plain.entry z) (captured.entered z (x.plain l)) x;
    steps = (may, guard, refl);
    one = refl;
    no_note = refl;
    control = refl;
    same = λ still. plain_same x l (plain.entry z) (captured.entered z (x.plain l)) (still.plain (x.plain l)) still.born;
  };
  found = found z;
  steady = inr (l, refl);
  inbound = refl;
}

pub guarded_relay : (p : Proxy) (x : Machine) (u l : ℕ) (z : Entry)
    → ((z : Entry) → relays.point_for p.side.relays u z ≡ Some (of_plain l (plain.up z)))
    → captured_runs.UpMayCome l (x.plain l) z → PlainMayCome x l z → DialsGate x l × MayDialGate p.control.config x l
    → PlainGuarded p x u z
guarded_relay p x u l z found may guard dials = record {
  at = record {
    point = of_plain l (plain.up z);
    next = with_plain l (plain.up z) (captured.up_entered z (x.plain l)) x;
    steps = (may, (guard, dials.0, dials.1), refl);
    one = refl;
    no_note = refl;
    control = refl;
    same = λ still. plain_same x l (plain.up z) (captured.up_entered z (x.plain l)) (still.relay (x.plain l)) still.born;
  };
  found = found z;
  steady = inl tt;
  inbound = refl;
}

-- ON A LINK TO A GATEWAY

pub guarded_gate : (p : Proxy) (x : Machine) (n : ℕ) (z : Entry)
    → ((z : Entry) → relays.point_for p.side.relays n z ≡ Some (of_gate n (gate.entry z)))
    → gateway.MayCome n (x.gates n) z → GateMayCome x n z → PlainGuarded p x n z
guarded_gate p x n z found may guard = record {
  at = record {
    point = of_gate n (gate.entry z);
    next = with_gate n (gate.entry z) (gateway.entered z (all_hear (gate.entry z) (x.gates n))) x;
    steps = (gateway.entered z (all_hear (gate.entry z) (x.gates n)), (may, refl), guard, refl);
    one = refl;
    no_note = refl;
    control = refl;
    same = λ still. gate_same x n (gate.entry z) (gateway.entered z (all_hear (gate.entry z) (x.gates n))) (still.gate (x.gates n))
        still.born;
  };
  found = found z;
  steady = inl tt;
  inbound = refl;
}
