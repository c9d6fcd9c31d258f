-- What the machine and the trace say of a link is the same, in every run.
use Rattle.std.proofs.Common.{◌≡◌, inl, inr, ⊎_elim, ℕ, ◌<◌, ◌&&◌, Bool, true, false, not, List, refl, ap, ap₂, sym, ◌∙◌, subst, arith}
use Rattle.std.proofs.lemmas.Bool.{false≢true, cases_lt}
use Rattle.hb_captured.specs.Captured as plain
use Rattle.hb_captured.specs.Captured.{Captured, is_raw}
use Rattle.hb_gateway.specs.Gateway as gateway
use Rattle.hb_inbound.specs.Inbound as inbound
use Rattle.hb_inbound.specs.Tunnel as tunnel
use Rattle.hb_inbound.specs.Tunnel.{Tunnel, Stage}
use Rattle.hb_model.specs.Discovery as discovery
use Rattle.hb_model.specs.declared.config.NodeConfig.{NodeConfig}
use Rattle.hb_model.proofs.DialsHeld.{is_held, held}
use Rattle.hb_model.proofs.Grown.{IsBorn}
use Rattle.hb_ready.specs.Sight.{is_open}
use Rattle.hb_world.specs.Trace.{lives, was_shut}
use Rattle.hb_world.specs.declared.entry.Entry.{Entry}
use Rattle.hb_proxy.specs.Machine.{Machine}
use Rattle.hb_proxy.specs.Owners.{Owner, nobody, control_plane, inbound_link, upstream_of, plain_link, relay_of, gateway_link}
use Rattle.hb_proxy.specs.Points.{Point, entries, control_of}
use Rattle.hb_proxy.specs.Runs.{StandsFor}
use Rattle.hb_proxy.specs.Seen.{IsThere, IsLinkThere, IsPlainThereBy, IsPlainThere, IsGateThere, GateOpenBy, OpenBy, UpOpenBy, RelayOpenBy, HasLink, IsFresh, PlainSeen, GatesSeen, RunsAreSeen}
use Rattle.hb_proxy.specs.Ups.{up_by, Joins, IsRelayOf}
use Rattle.hb_proxy.proofs.Agreed.{ControlFits, ByOwner, Agrees, told_in, all_agree}
use Rattle.hb_proxy.proofs.Changes.{LinkFits, IsYet, StageFits, yet_dialled, yet_open}
use Rattle.hb_proxy.proofs.GateChanges.{GateFits, is_gate_born}
use Rattle.hb_proxy.proofs.Look.{Look, dialled, open_now, living, lives_is_so, open_is_so, shut_is_so}
use Rattle.hb_proxy.proofs.Own.{born_is}
use Rattle.hb_proxy.proofs.Owned.{Owned, whose_in, all_owned}
use Rattle.hb_proxy.proofs.PlainChanges.{here_now, PlainFitsBy, PlainFits, RelayFitsBy, RelayFits, born_fits, past}
use Rattle.hb_proxy.proofs.PlainStays.{is_plain_born, relay_weakly}
use Rattle.hb_proxy.proofs.Projection.{control_runs}
use Rattle.hb_proxy.proofs.Stays.{IsWeak, is_born, weakly}

-- PHASES AND STAGES

-- a link that is there is born
born_there : (phase : discovery.Phase) → IsThere phase → IsBorn phase
born_there discovery.unborn there = there
born_there discovery.dialling there = tt
born_there discovery.live there = tt
born_there (discovery.faulted code) there = tt
born_there (discovery.ending why) there = tt
born_there discovery.closed there = tt

link_born_there : (phase : inbound.Phase) → IsLinkThere phase → is_born phase ≡ true
link_born_there inbound.unborn there = absurd there
link_born_there inbound.arriving there = refl
link_born_there inbound.fronting there = refl
link_born_there inbound.serving there = refl
link_born_there (inbound.faulted code) there = refl
link_born_there (inbound.closing why) there = refl
link_born_there inbound.closed there = refl

there_held : (phase : discovery.Phase) → is_held phase ≡ true → IsThere phase
there_held discovery.unborn held = absurd (false≢true held)
there_held discovery.closed held = absurd (false≢true held)
there_held discovery.dialling held = tt
there_held discovery.live held = tt
there_held (discovery.faulted code) held = tt
there_held (discovery.ending why) held = tt

held_there : (phase : discovery.Phase) → IsThere phase → is_held phase ≡ true
held_there discovery.unborn there = absurd there
held_there discovery.closed there = absurd there
held_there discovery.dialling there = refl
held_there discovery.live there = refl
held_there (discovery.faulted code) there = refl
held_there (discovery.ending why) there = refl

unborn_there : (phase : discovery.Phase) → (IsBorn phase → ⊥) → phase ≡ discovery.unborn
unborn_there discovery.unborn none = refl
unborn_there discovery.dialling none = absurd (none tt)
unborn_there discovery.live none = absurd (none tt)
unborn_there (discovery.faulted code) none = absurd (none tt)
unborn_there (discovery.ending why) none = absurd (none tt)
unborn_there discovery.closed none = absurd (none tt)

link_unborn_there : (phase : inbound.Phase) → (is_born phase ≡ true → ⊥) → phase ≡ inbound.unborn
link_unborn_there inbound.unborn none = refl
link_unborn_there inbound.arriving none = absurd (none refl)
link_unborn_there inbound.fronting none = absurd (none refl)
link_unborn_there inbound.serving none = absurd (none refl)
link_unborn_there (inbound.faulted code) none = absurd (none refl)
link_unborn_there (inbound.closing why) none = absurd (none refl)
link_unborn_there inbound.closed none = absurd (none refl)

-- what the trace tells of a link that is there, and of no other one does it tell that it lives
control_yet : (phase : discovery.Phase) (v : Look) → IsThere phase → ControlFits phase v → IsYet false v
control_yet discovery.unborn v there fits = absurd there
control_yet discovery.dialling v there fits = yet_dialled false v fits
control_yet discovery.live v there fits = yet_open false v fits
control_yet (discovery.faulted code) v there fits = yet_open false v fits
control_yet (discovery.ending why) v there fits = fits
control_yet discovery.closed v there fits = absurd there

link_open : (phase : inbound.Phase) (v : Look) → IsLinkThere phase → LinkFits phase v → v ≡ open_now false
link_open inbound.unborn v there fits = absurd there
link_open inbound.arriving v there fits = fits
link_open inbound.fronting v there fits = fits
link_open inbound.serving v there fits = fits
link_open (inbound.faulted code) v there fits = fits
link_open (inbound.closing why) v there fits = fits
link_open inbound.closed v there fits = absurd there

over_now : (v : Look) → v.closed ≡ true → living v ≡ true → ⊥
over_now v closed is = by v.born v.closed closed is
  where
    by : (a b : Bool) → b ≡ true → (a && not b) ≡ true → ⊥
    by a false closed is = false≢true closed
    by true true closed is = false≢true is
    by false true closed is = false≢true is

there_living : (phase : discovery.Phase) (v : Look) → ControlFits phase v → living v ≡ true → IsThere phase
there_living discovery.unborn v fits is = fits
there_living discovery.dialling v fits is = tt
there_living discovery.live v fits is = tt
there_living (discovery.faulted code) v fits is = tt
there_living (discovery.ending why) v fits is = tt
there_living discovery.closed v fits is = over_now v fits is

link_there_living : (phase : inbound.Phase) (v : Look) → LinkFits phase v → living v ≡ true → IsLinkThere phase
link_there_living inbound.unborn v fits is = fits
link_there_living inbound.arriving v fits is = tt
link_there_living inbound.fronting v fits is = tt
link_there_living inbound.serving v fits is = tt
link_there_living (inbound.faulted code) v fits is = tt
link_there_living (inbound.closing why) v fits is = tt
link_there_living inbound.closed v fits is = over_now v fits is

-- the upstream of a tunnel that is at this stage
up_living : (stage : Stage) (t : Tunnel) (v : Look) → StageFits stage t.shut v → living v ≡ true → up_by stage t ≡ t.up
up_living tunnel.opening t v fits is = refl
up_living tunnel.accepting t v fits is = refl
up_living tunnel.live t v fits is = refl
up_living (tunnel.failed why) t v fits is = refl
up_living (tunnel.ended why) t v fits is = refl
up_living (tunnel.over why) t v fits is = refl
up_living tunnel.gone t v fits is = absurd (over_now v fits is)
up_living tunnel.unasked t v fits is = absurd fits
up_living (tunnel.requested headers end) t v fits is = absurd fits
up_living (tunnel.refusing status target) t v fits is = absurd fits
up_living tunnel.malformed t v fits is = absurd fits
up_living tunnel.due t v fits is = absurd fits

-- a number that is that of an upstream is the tunnel's, and what the trace tells of it
record IsUp (stage : Stage) (t : Tunnel) (v : Look) : Type 0 where
  yet : IsYet t.shut v
  open_is : UpOpenBy stage v.opened

joined_up : (stage : Stage) (t : Tunnel) (u : ℕ) → 0 < u → up_by stage t ≡ u → t.up ≡ u
joined_up tunnel.opening t u some is = is
joined_up tunnel.accepting t u some is = is
joined_up tunnel.live t u some is = is
joined_up (tunnel.failed why) t u some is = is
joined_up (tunnel.ended why) t u some is = is
joined_up (tunnel.over why) t u some is = is
joined_up tunnel.gone t u some is = absurd (omega (arith, some, is))
joined_up tunnel.unasked t u some is = absurd (omega (arith, some, is))
joined_up (tunnel.requested headers end) t u some is = absurd (omega (arith, some, is))
joined_up (tunnel.refusing status target) t u some is = absurd (omega (arith, some, is))
joined_up tunnel.malformed t u some is = absurd (omega (arith, some, is))
joined_up tunnel.due t u some is = absurd (omega (arith, some, is))

up_told : (stage : Stage) (t : Tunnel) (u : ℕ) (v : Look) → 0 < u → up_by stage t ≡ u → StageFits stage t.shut v → IsUp stage t v
up_told tunnel.opening t u v some is fits = record { yet = yet_dialled t.shut v fits; open_is = ap (λ (w : Look). w.opened) fits }
up_told tunnel.accepting t u v some is fits = record { yet = yet_open t.shut v fits; open_is = ap (λ (w : Look). w.opened) fits }
up_told tunnel.live t u v some is fits = record { yet = yet_open t.shut v fits; open_is = ap (λ (w : Look). w.opened) fits }
up_told (tunnel.failed why) t u v some is fits = record { yet = fits; open_is = tt }
up_told (tunnel.ended why) t u v some is fits = record { yet = fits; open_is = tt }
up_told (tunnel.over why) t u v some is fits = record { yet = fits; open_is = tt }
up_told tunnel.gone t u v some is fits = absurd (omega (arith, some, is))
up_told tunnel.unasked t u v some is fits = absurd fits
up_told (tunnel.requested headers end) t u v some is fits = absurd fits
up_told (tunnel.refusing status target) t u v some is fits = absurd fits
up_told tunnel.malformed t u v some is fits = absurd fits
up_told tunnel.due t u v some is fits = absurd fits

-- whose it is
up_owned : (whose : ℕ → Owner) (o : Owner) (up u : ℕ) → IsWeak whose o up → 0 < u → up ≡ u → whose u ≡ o
up_owned whose o up u (inl none) some is = absurd (omega (arith, none, some, is))
up_owned whose o up u (inr mine) some is = subst (λ (n : ℕ). whose n ≡ o) is mine

open_so : (stage : Stage) (a b : Bool) → a ≡ b → UpOpenBy stage a → UpOpenBy stage b
open_so stage a b is now = subst (UpOpenBy stage) is now

-- PLAIN LINKS

plain_born_there : (stage : plain.Stage) (closed : Bool) → IsPlainThereBy stage closed → is_plain_born stage ≡ true
plain_born_there plain.unborn closed there = absurd there
plain_born_there _ closed there = refl

not_closed : (stage : plain.Stage) (closed : Bool) → IsPlainThereBy stage closed → closed ≡ false
not_closed plain.unborn closed there = absurd there
not_closed _ closed there = there

plain_unborn_there : (stage : plain.Stage) → (is_plain_born stage ≡ true → ⊥) → stage ≡ plain.unborn
plain_unborn_there plain.unborn none = refl
plain_unborn_there _ none = absurd (none refl)

plain_open : (x : Captured) (v : Look) → IsPlainThere x → PlainFits x v → v ≡ open_now x.shut
plain_open x v there fits =
    born_fits x.stage x.shut x.closed v fits ∙ ap (here_now x.shut) (not_closed x.stage x.closed there)

plain_there_living : (x : Captured) (v : Look) → PlainFits x v → living v ≡ true → IsPlainThere x
plain_there_living x v fits is =
    by x.stage fits (open_still x.closed (ap living (sym (born_fits x.stage x.shut x.closed v fits)) ∙ is))
  where
    open_still : (closed : Bool) → not closed ≡ true → closed ≡ false
    open_still true is = absurd (false≢true is)
    open_still false is = refl

    by : (stage : plain.Stage) → PlainFitsBy stage x.shut x.closed v → x.closed ≡ false → IsPlainThereBy stage x.closed
    by plain.unborn fits is = fits
    by _ fits is = is

-- the upstream of a plain link
record IsRelay (x : Captured) (v : Look) : Type 0 where
  yet : IsYet x.up_shut v
  open_is : RelayOpenBy x.stage v.opened

relay_told : (x : Captured) (u : ℕ) (v : Look) → IsRelayOf x u → RelayFits x u v → IsRelay x v
relay_told x u v joins fits = record {
  yet = ⊎_elim (λ is. is.1) (λ none. let zero = none.0 in absurd (omega (arith, zero, joins.0, joins.1)))
      (past x.stage x.up x.up_shut u v fits.1);
  open_is = by x.stage fits.1;
}
  where
    by : (stage : plain.Stage) → RelayFitsBy stage x.up x.up_shut u v → RelayOpenBy stage v.opened
    by plain.opening fits = ap (λ (w : Look). w.opened) fits.1
    by plain.accepting fits = ap (λ (w : Look). w.opened) fits.1
    by plain.live fits = ap (λ (w : Look). w.opened) fits.1
    by _ fits = tt

relay_living : (x : Captured) (u : ℕ) (v : Look) → RelayFits x u v → living v ≡ true → x.up ≡ u
relay_living x u v fits is = ⊎_elim (λ yet. yet.0) (λ none. absurd (over_now v none.1 is)) (past x.stage x.up x.up_shut u v fits.1)

-- LINKS TO GATEWAYS

gate_born_there : (phase : gateway.Phase) → IsGateThere phase → is_gate_born phase ≡ true
gate_born_there gateway.unborn there = absurd there
gate_born_there _ there = refl

pub gate_unborn_there : (phase : gateway.Phase) → (is_gate_born phase ≡ true → ⊥) → phase ≡ gateway.unborn
gate_unborn_there gateway.unborn none = refl
gate_unborn_there _ none = absurd (none refl)

gate_there_living : (phase : gateway.Phase) (v : Look) → GateFits phase v → living v ≡ true → IsGateThere phase
gate_there_living gateway.unborn v fits is = fits
gate_there_living gateway.closed v fits is = over_now v fits is
gate_there_living _ v fits is = tt

-- what the trace tells of one that is there
record IsGate (phase : gateway.Phase) (v : Look) : Type 0 where
  yet : IsYet false v
  open_is : GateOpenBy phase v.opened

gate_told : (phase : gateway.Phase) (v : Look) → IsGateThere phase → GateFits phase v → IsGate phase v
gate_told gateway.opening v there fits =
    record { yet = yet_dialled false v fits; open_is = ap (λ (w : Look). w.opened) fits }
gate_told gateway.serving v there fits = record { yet = yet_open false v fits; open_is = ap (λ (w : Look). w.opened) fits }
gate_told (gateway.faulted code) v there fits =
    record { yet = yet_open false v fits; open_is = ap (λ (w : Look). w.opened) fits }
gate_told (gateway.closing why) v there fits = record { yet = fits; open_is = tt }
gate_told gateway.unborn v there fits = absurd there
gate_told gateway.closed v there fits = absurd there

-- EVERY RUN

module _ (g : NodeConfig) (x : Machine) (points : List Point) (stands : StandsFor g x points) where
  abbrev trace : List Entry
  trace = entries points

  abbrev whose : ℕ → Owner
  whose = whose_in points

  abbrev told : ℕ → Look
  told = told_in points

  owned : Owned x whose
  owned = all_owned g x points stands

  agrees : Agrees x whose told
  agrees = all_agree g x points stands

  -- what is told of a link of this owner
  owner_told : (n : ℕ) (o : Owner) → whose n ≡ o → ByOwner o x n (told n)
  owner_told n o is = subst (λ (w : Owner). ByOwner w x n (told n)) is (agrees.each n)

  yet_lives : (n : ℕ) (shut : Bool) → IsYet shut (told n) → lives n trace ≡ true
  yet_lives n shut yet = sym (lives_is_so n trace) ∙ ap₂ (λ (a b : Bool). a && not b) yet.born yet.closed

  yet_shut : (n : ℕ) (shut : Bool) → IsYet shut (told n) → was_shut n trace ≡ shut
  yet_shut n shut yet = sym (shut_is_so n trace) ∙ yet.shut_is

  living_told : (n : ℕ) → lives n trace ≡ true → living (told n) ≡ true
  living_told n is = lives_is_so n trace ∙ is

  -- a link that is nobody's doesn't live
  nobody_lives : (n : ℕ) → whose n ≡ nobody → lives n trace ≡ false
  nobody_lives n is = sym (lives_is_so n trace) ∙ ap living (owner_told n nobody is)

  -- LINKS TO THE CONTROL PLANE
  control_fits : (l : ℕ) → IsBorn (x.control.links l).phase → ControlFits (x.control.links l).phase (told l)
  control_fits l born = owner_told l control_plane (owned.control l born)

  control_told : (l : ℕ) → IsThere (x.control.links l).phase → IsYet false (told l)
  control_told l there =
      control_yet (x.control.links l).phase (told l) there (control_fits l (born_there (x.control.links l).phase there))

  control_open : (l : ℕ) → OpenBy (x.control.links l).phase (is_open l trace)
  control_open l = by (x.control.links l).phase refl
    where
      -- it is as the trace tells
      at : (phase : discovery.Phase) → IsBorn phase → (x.control.links l).phase ≡ phase → ControlFits phase (told l)
      at phase born is =
          subst (λ (p : discovery.Phase). ControlFits p (told l)) is
          (control_fits l (subst IsBorn (sym is) born))

      now : (shut : Bool) (v : Look) → told l ≡ v → is_open l trace ≡ v.opened
      now shut v is = sym (open_is_so l trace) ∙ ap (λ (w : Look). w.opened) is

      by : (phase : discovery.Phase) → (x.control.links l).phase ≡ phase → OpenBy phase (is_open l trace)
      by discovery.dialling is = now false (dialled false) (at discovery.dialling tt is)
      by discovery.live is = now false (open_now false) (at discovery.live tt is)
      by (discovery.faulted code) is = now false (open_now false) (at (discovery.faulted code) tt is)
      by discovery.unborn is = tt
      by (discovery.ending why) is = tt
      by discovery.closed is = tt

  -- INBOUND LINKS
  link_told : (l : ℕ) → IsLinkThere (x.inbound l).phase → told l ≡ open_now false
  link_told l there =
      link_open (x.inbound l).phase (told l) there
      (owner_told l inbound_link (owned.link l (link_born_there (x.inbound l).phase there)))

  -- UPSTREAMS
  module _ (l s u : ℕ) (joins : Joins ((x.inbound l).tunnels s) u) where
    abbrev t : Tunnel
    t = (x.inbound l).tunnels s

    joined : whose u ≡ upstream_of l s
    joined =
        up_owned whose (upstream_of l s) t.up u (weakly whose l s t.up t.stage (owned.up l s)) joins.0
        (joined_up t.stage t u joins.0 joins.1)

    join_told : IsUp t.stage t (told u)
    join_told = up_told t.stage t u (told u) joins.0 joins.1 (owner_told u (upstream_of l s) joined).1

  -- PLAIN LINKS
  plain_owned : (l : ℕ) → IsPlainThere (x.plain l) → whose l ≡ plain_link
  plain_owned l there = owned.plain l (plain_born_there (x.plain l).stage (x.plain l).closed there)

  plain_told : (l : ℕ) → IsPlainThere (x.plain l) → told l ≡ open_now (x.plain l).shut
  plain_told l there = plain_open (x.plain l) (told l) there (owner_told l plain_link (plain_owned l there))

  plain_yet : (l : ℕ) → IsPlainThere (x.plain l) → IsYet (x.plain l).shut (told l)
  plain_yet l there = yet_open (x.plain l).shut (told l) (plain_told l there)

  relay_weak : (l : ℕ) → IsWeak whose (relay_of l) (x.plain l).up
  relay_weak l = relay_weakly whose l (x.plain l).up (is_raw (x.plain l)) (x.plain l).stage (owned.relay l)

  relayed : (l u : ℕ) → IsRelayOf (x.plain l) u → whose u ≡ relay_of l
  relayed l u joins = up_owned whose (relay_of l) (x.plain l).up u (relay_weak l) joins.0 joins.1

  relays_told : (l u : ℕ) → IsRelayOf (x.plain l) u → IsRelay (x.plain l) (told u)
  relays_told l u joins = relay_told (x.plain l) u (told u) joins (owner_told u (relay_of l) (relayed l u joins))

  -- LINKS TO GATEWAYS
  gate_owned : (l : ℕ) → IsGateThere (x.gates l).phase → whose l ≡ gateway_link
  gate_owned l there = owned.gate l (gate_born_there (x.gates l).phase there)

  gates_told : (l : ℕ) → IsGateThere (x.gates l).phase → IsGate (x.gates l).phase (told l)
  gates_told l there = gate_told (x.gates l).phase (told l) there (owner_told l gateway_link (gate_owned l there))

  -- EACH LINK THAT LIVES
  has : (l : ℕ) → lives l trace ≡ true → HasLink x l
  has l is = by (whose l) refl (agrees.each l)
    where
      some : (o : Owner) → whose l ≡ o → (nobody ≡ o → ⊥) → 0 < l
      some o mine other =
          ⊎_elim (λ less. less)
          (λ zero. absurd (let none : l ≡ 0 = omega (arith, zero) in other (sym owned.none ∙ ap whose (sym none) ∙ mine)))
          (cases_lt 0 l)

      by : (o : Owner) → whose l ≡ o → ByOwner o x l (told l) → HasLink x l
      by nobody mine fits = absurd (false≢true (sym (nobody_lives l mine) ∙ is))
      by control_plane mine fits = inl (there_living (x.control.links l).phase (told l) fits (living_told l is))
      by inbound_link mine fits = inr (inl (link_there_living (x.inbound l).phase (told l) fits (living_told l is)))
      by (upstream_of k s) mine fits =
          let t = (x.inbound k).tunnels s in
          inr (inr (inl
          (k, s, (some (upstream_of k s) mine (λ no. cc), up_living t.stage t (told l) fits.1 (living_told l is) ∙ fits.0))))
      by plain_link mine fits = inr (inr (inr (inl (inl (plain_there_living (x.plain l) (told l) fits (living_told l is))))))
      by (relay_of k) mine fits =
          inr (inr (inr (inl (inr
          (k, (some (relay_of k) mine (λ no. cc), relay_living (x.plain k) l (told l) fits (living_told l is)))))))
      by gateway_link mine fits = inr (inr (inr (inr (gate_there_living (x.gates l).phase (told l) fits (living_told l is)))))

  -- NUMBERS
  unborn_control : (l : ℕ) → whose l ≡ nobody → (x.control.links l).phase ≡ discovery.unborn
  unborn_control l none =
      unborn_there (x.control.links l).phase
      (λ born. let no : nobody ≡ control_plane = sym none ∙ owned.control l born in cc)

  unborn_link : (l : ℕ) → whose l ≡ nobody → (x.inbound l).phase ≡ inbound.unborn
  unborn_link l none =
      link_unborn_there (x.inbound l).phase
      (λ born. let no : nobody ≡ inbound_link = sym none ∙ owned.link l born in cc)

  unborn_plain : (l : ℕ) → whose l ≡ nobody → (x.plain l).stage ≡ plain.unborn
  unborn_plain l none =
      plain_unborn_there (x.plain l).stage
      (λ born. let no : nobody ≡ plain_link = sym none ∙ owned.plain l born in cc)

  unborn_gate : (l : ℕ) → whose l ≡ nobody → (x.gates l).phase ≡ gateway.unborn
  unborn_gate l none =
      gate_unborn_there (x.gates l).phase
      (λ born. let no : nobody ≡ gateway_link = sym none ∙ owned.gate l born in cc)

  fresh : (l : ℕ) → x.born < l → IsFresh x l
  fresh l above = record {
    control = unborn_control l none;
    link = unborn_link l none;
    up = λ k s is. by (upstream_of k s) ((x.inbound k).tunnels s).up is (λ no. cc)
        (weakly whose k s ((x.inbound k).tunnels s).up ((x.inbound k).tunnels s).stage (owned.up k s));
    plain = unborn_plain l none;
    relay = λ k is. by (relay_of k) (x.plain k).up is (λ no. cc) (relay_weak k);
    gate = unborn_gate l none;
  }
    where
      none : whose l ≡ nobody
      none = owned.unborn l above

      by : (o : Owner) (up : ℕ) → up ≡ l → (nobody ≡ o → ⊥) → IsWeak whose o up → ⊥
      by o up is other (inl zero_up) = omega (arith, above, is, zero_up)
      by o up is other (inr mine) = other (sym none ∙ ap whose (sym is) ∙ mine)

  -- ONE OWNER
  one_up : (k s j t u : ℕ) → Joins ((x.inbound k).tunnels s) u → Joins ((x.inbound j).tunnels t) u → (k ≡ j) × (s ≡ t)
  one_up k s j t u here there =
      let both : upstream_of k s ≡ upstream_of j t = sym (joined k s u here) ∙ joined j t u there in
      ((let a : k ≡ j = cc in a), (let b : s ≡ t = cc in b))

  up_no_control : (k s l : ℕ) → Joins ((x.inbound k).tunnels s) l → IsThere (x.control.links l).phase → ⊥
  up_no_control k s l joins there =
      let no : upstream_of k s ≡ control_plane
      = sym (joined k s l joins) ∙ owned.control l (born_there (x.control.links l).phase there) in cc

  up_no_link : (k s l : ℕ) → Joins ((x.inbound k).tunnels s) l → IsLinkThere (x.inbound l).phase → ⊥
  up_no_link k s l joins there =
      let no : upstream_of k s ≡ inbound_link
      = sym (joined k s l joins) ∙ owned.link l (link_born_there (x.inbound l).phase there) in cc

  link_no_control : (l : ℕ) → IsLinkThere (x.inbound l).phase → IsThere (x.control.links l).phase → ⊥
  link_no_control l here there =
      let no : inbound_link ≡ control_plane
      = sym (owned.link l (link_born_there (x.inbound l).phase here)) ∙ owned.control l (born_there (x.control.links l).phase there) in cc

  plain_seen : PlainSeen x trace
  plain_seen = record {
    link = λ l there.
        (yet_lives l (x.plain l).shut (plain_yet l there), sym (open_is_so l trace) ∙ ap (λ (v : Look). v.opened) (plain_told l there));
    link_shut = λ l there. yet_shut l (x.plain l).shut (plain_yet l there);
    up = λ l u joins.
        let is = relays_told l u joins in (
          yet_lives u (x.plain l).up_shut is.yet,
          yet_shut u (x.plain l).up_shut is.yet,
          subst (RelayOpenBy (x.plain l).stage) (open_is_so u trace) is.open_is,
        );
    no_zero = unborn_plain 0 owned.none;
    link_alone = λ l there. (
      λ other. let no : plain_link ≡ control_plane
          = sym (plain_owned l there) ∙ owned.control l (born_there (x.control.links l).phase other) in cc,
      λ other. let no : plain_link ≡ inbound_link
          = sym (plain_owned l there) ∙ owned.link l (link_born_there (x.inbound l).phase other) in cc,
      λ k s other. let no : plain_link ≡ upstream_of k s = sym (plain_owned l there) ∙ joined k s l other in cc,
    );
    up_alone = λ k u joins. (
      λ other. let no : relay_of k ≡ control_plane
          = sym (relayed k u joins) ∙ owned.control u (born_there (x.control.links u).phase other) in cc,
      λ other. let no : relay_of k ≡ inbound_link
          = sym (relayed k u joins) ∙ owned.link u (link_born_there (x.inbound u).phase other) in cc,
      λ other. let no : relay_of k ≡ plain_link = sym (relayed k u joins) ∙ plain_owned u other in cc,
      λ j s other. let no : relay_of k ≡ upstream_of j s = sym (relayed k u joins) ∙ joined j s u other in cc,
    );
    one_up = λ j k u here there. let both : relay_of j ≡ relay_of k = sym (relayed j u here) ∙ relayed k u there in cc;
  }

  gates_seen : GatesSeen x trace
  gates_seen = record {
    link = λ l there. let is = gates_told l there in (yet_lives l false is.yet, yet_shut l false is.yet);
    link_open = λ l there. subst (GateOpenBy (x.gates l).phase) (open_is_so l trace) (gates_told l there).open_is;
    no_zero = unborn_gate 0 owned.none;
    alone = λ l there. (
      λ other. let no : gateway_link ≡ control_plane
          = sym (gate_owned l there) ∙ owned.control l (born_there (x.control.links l).phase other) in cc,
      λ other. let no : gateway_link ≡ inbound_link
          = sym (gate_owned l there) ∙ owned.link l (link_born_there (x.inbound l).phase other) in cc,
      λ other. let no : gateway_link ≡ plain_link = sym (gate_owned l there) ∙ plain_owned l other in cc,
      λ k s other. let no : gateway_link ≡ upstream_of k s = sym (gate_owned l there) ∙ joined k s l other in cc,
      λ k other. let no : gateway_link ≡ relay_of k = sym (gate_owned l there) ∙ relayed k l other in cc,
    );
  }

pub runs_are_seen : RunsAreSeen
runs_are_seen g x points stands =
    let trace = entries points in
    let holds = held g x.control (control_of points) (control_runs g x points stands) in
    record {
      control = λ l there. yet_lives g x points stands l false (control_told g x points stands l there);
      control_unshut = λ l there. yet_shut g x points stands l false (control_told g x points stands l there);
      control_open = control_open g x points stands;
      current = λ l is. there_held (x.control.links l).phase (holds.current l is);
      only = λ l there. holds.only l (held_there (x.control.links l).phase there);
      link = λ l there.
          let is = link_told g x points stands l there in (
            yet_lives g x points stands l false (yet_open false (told_in points l) is),
            sym (open_is_so l trace) ∙ ap (λ (v : Look). v.opened) is,
          );
      link_unshut = λ l there. yet_shut g x points stands l false
          (yet_open false (told_in points l) (link_told g x points stands l there));
      up = λ l s u joins.
          let t = (x.inbound l).tunnels s in
          let is = join_told g x points stands l s u joins in (
            yet_lives g x points stands u t.shut is.yet,
            yet_shut g x points stands u t.shut is.yet,
            open_so t.stage (told_in points u).opened (is_open u trace) (open_is_so u trace) is.open_is,
          );
      has = has g x points stands;
      births = born_is g x points stands;
      unborn = λ l above. nobody_lives g x points stands l ((all_owned g x points stands).unborn l above);
      fresh = fresh g x points stands;
      no_zero =
          let none = (all_owned g x points stands).none in (
            nobody_lives g x points stands 0 none,
            unborn_control g x points stands 0 none,
            unborn_link g x points stands 0 none,
          );
      up_alone = λ k s l joins. (up_no_control g x points stands k s l joins, up_no_link g x points stands k s l joins);
      one_up = one_up g x points stands;
      link_alone = link_no_control g x points stands;
      plain = plain_seen g x points stands;
      gates = gates_seen g x points stands;
    }
