-- What the machine has of a link that lives, and that where more comes all that ended is closed.
use Rattle.std.proofs.Common.{◌≡◌, inl, inr, ⊎_elim, ℕ, ◌<◌, Bool, true, false, List, [], ◌∷◌, ◌++◌, refl, ap, sym, ◌∙◌, subst, arith}
use Rattle.std.proofs.lemmas.Bool.{false≢true}
use Rattle.hb_captured.proofs.Kept.{Keeps, all_keep}
use Rattle.hb_captured.specs.Captured as plain
use Rattle.hb_captured.specs.Captured.{is_raw}
use Rattle.hb_captured.specs.Part as captured
use Rattle.hb_captured.specs.Sides as relays
use Rattle.hb_captured.specs.Sides.{is_close, was_on_link}
use Rattle.hb_gateway.specs.Gateway as gateway_link
use Rattle.hb_gateway.specs.Part as gateway
use Rattle.hb_inbound.proofs.EndsRun.{all_say, new_streams}
use Rattle.hb_inbound.proofs.Life.{SaysBy}
use Rattle.hb_inbound.specs.Ends.{Life, up_of}
use Rattle.hb_inbound.specs.Inbound as inbound
use Rattle.hb_inbound.specs.Part as part
use Rattle.hb_inbound.specs.Tunnel.{Tunnel, Stage, unasked, requested, refusing, malformed, due, opening, accepting, live, failed, ended, over, gone}
use Rattle.hb_model.proofs.Grown.{IsBorn}
use Rattle.hb_model.specs.Discovery as discovery
use Rattle.hb_model.specs.Point as point
use Rattle.hb_model.specs.declared.config.NodeConfig.{NodeConfig}
use Rattle.hb_proxy.proofs.GateChanges.{is_gate_born}
use Rattle.hb_proxy.proofs.Owned.{Owned, whose_in, all_owned}
use Rattle.hb_proxy.proofs.Plain.{plain_runs}
use Rattle.hb_proxy.proofs.PlainStays.{is_plain_born, relay_weakly}
use Rattle.hb_proxy.proofs.Projection.{links_run}
use Rattle.hb_proxy.proofs.Seen.{runs_are_seen}
use Rattle.hb_proxy.proofs.Stays.{is_born, weakly}
use Rattle.hb_proxy.specs.Ends.{AllClosed, MoreComes, EndsAt}
use Rattle.hb_proxy.specs.Held.{at_start}
use Rattle.hb_proxy.specs.Machine.{Machine, local, plain_local}
use Rattle.hb_proxy.specs.Owners.{Owner, nobody, control_plane, inbound_link, upstream_of, plain_link, relay_of, gateway_link}
use Rattle.hb_proxy.specs.Points.{Point, of_control, of_link, of_plain, of_gate, of_stream, entry_in, entries, parts_of, plain_of}
use Rattle.hb_proxy.specs.Runs.{StandsFor}
use Rattle.hb_proxy.specs.Seen.{IsThere, IsLinkThere, IsPlainThere, IsPlainThereBy, IsGateThere, HasLink}
use Rattle.hb_proxy.specs.Ups.{up_by, Joins, IsRelayOf}
use Rattle.hb_world.specs.Trace.{lives}
use Rattle.hb_world.specs.declared.entry.Entry.{Entry}
use Rattle.hb_world.specs.declared.entry.Entry.TheVariants as e
use Rattle.hb_laws.specs.Lawful.{Lawful}
use Rattle.hb_laws.specs.RefusedTunnels.{is_more}
use Rattle.hb_laws.proofs.Lawful.{own_in}
use Rattle.hb_laws.proofs.Places.{is_dial, DialsOnly}

-- WHERE MORE COMES

closed_where : (g : NodeConfig) (before : List Point) (z : Entry) → is_more z ≡ true → MoreComes g before z → AllClosed g before
closed_where g before (e.Came l bytes) more comes = comes
closed_where g before e.Tick more comes = comes
closed_where g before (e.Wait ready how) more comes = comes
closed_where g before (e.Accepted l d) more comes = comes
closed_where g before (e.Dialled l to why) more comes = absurd (false≢true more)
closed_where g before (e.DialFailed to why) more comes = absurd (false≢true more)
closed_where g before (e.Opened l) more comes = comes
closed_where g before (e.Ended l) more comes = comes
closed_where g before (e.Broke l) more comes = absurd (false≢true more)
closed_where g before (e.Went l bytes) more comes = absurd (false≢true more)
closed_where g before (e.Balked w) more comes = absurd (false≢true more)
closed_where g before (e.Shut l) more comes = absurd (false≢true more)
closed_where g before (e.Closed l why) more comes = absurd (false≢true more)

dials_nothing : (g : NodeConfig) (before : List Point) (z : Entry) → is_dial z ≡ true → MoreComes g before z
dials_nothing g before (e.Dialled l to why) is = tt
dials_nothing g before (e.Accepted l d) is = absurd (false≢true is)
dials_nothing g before _ is = absurd (false≢true is)

comes_where : (g : NodeConfig) (before : List Point) (p : Point) (z : Entry) → entry_in p ≡ z ∷ [] → DialsOnly p → EndsAt g before p
    → MoreComes g before z
comes_where g before (of_control (point.entry en)) z is dials ends = (let same : en ≡ z = cc in subst (MoreComes g before) same ends)
comes_where g before (of_control _) z is dials ends = absurd cc
comes_where g before (of_link l (part.entry en)) z is dials ends = (let same : en ≡ z = cc in subst (MoreComes g before) same ends.0)
comes_where g before (of_link l (part.up s en)) z is dials ends = (let same : en ≡ z = cc in subst (MoreComes g before) same ends.0)
comes_where g before (of_link l _) z is dials ends = absurd cc
comes_where g before (of_plain l (captured.entry en)) z is dials ends = (let same : en ≡ z = cc in subst (MoreComes g before) same ends.0)
comes_where g before (of_plain l (captured.up en)) z is dials ends = (let same : en ≡ z = cc in subst (MoreComes g before) same ends.0)
comes_where g before (of_plain l _) z is dials ends = absurd cc
comes_where g before (of_gate n (gateway.entry en)) z is dials ends =
    let same : en ≡ z = cc in subst (MoreComes g before) same ends.0
comes_where g before (of_gate n (gateway.dialled en key)) z is dials ends =
    let same : en ≡ z = cc in subst (MoreComes g before) same (dials_nothing g before en dials)
comes_where g before (of_gate n _) z is dials ends = absurd cc
comes_where g before (of_stream l n s w) z is dials ends = absurd cc

pub all_closed : (g : NodeConfig) (trace : List Entry) → (h : Lawful g trace) → (before : List Point) (p : Point) (behind : List Point)
    (z : Entry) → h.points ≡ before ++ p ∷ behind → entry_in p ≡ z ∷ [] → is_more z ≡ true → AllClosed g before
all_closed g trace h before p behind z are is more =
    closed_where g before z more (comes_where g before p z is (own_in g trace h before p behind are).dials
    (h.ends before p behind are))

-- A LINK THAT LIVES

is_there : (phase : discovery.Phase) → IsThere phase → IsBorn phase
is_there discovery.unborn there = there
is_there discovery.closed there = tt
is_there _ there = tt

is_link_there : (phase : inbound.Phase) → IsLinkThere phase → is_born phase ≡ true
is_link_there inbound.unborn there = absurd there
is_link_there _ there = refl

is_plain_there : (stage : plain.Stage) (closed : Bool) → IsPlainThereBy stage closed → (is_plain_born stage ≡ true) × (closed ≡ false)
is_plain_there plain.unborn closed there = absurd there
is_plain_there _ closed there = (refl, there)

is_gate_there : (phase : gateway_link.Phase) → IsGateThere phase → is_gate_born phase ≡ true
is_gate_there gateway_link.unborn there = absurd there
is_gate_there _ there = refl

says_up : (how : Life) (n u : ℕ) (t : Tunnel) → SaysBy t.stage how n t → Joins t u → (n ≡ u) × (t.up ≡ u)
says_up how n u t says joins = by t.stage says joins.1
  where
    by : (stage : Stage) → SaysBy stage how n t → up_by stage t ≡ u → (n ≡ u) × (t.up ≡ u)
    by unasked says is = absurd (omega (arith, joins.0, is))
    by (requested headers end) says is = absurd (omega (arith, joins.0, is))
    by (refusing status target) says is = absurd (omega (arith, joins.0, is))
    by malformed says is = absurd (omega (arith, joins.0, is))
    by due says is = absurd (omega (arith, joins.0, is))
    by gone says is = absurd (omega (arith, joins.0, is))
    by opening says is = (says.up ∙ is, is)
    by accepting says is = (says.up ∙ is, is)
    by live says is = (says.up ∙ is, is)
    by (failed why) says is = (says.up ∙ is, is)
    by (ended why) says is = (says.up ∙ is, is)
    by (over why) says is = (says.up ∙ is, is)

-- the machine has it by its owner
abbrev HasBy : Machine → ℕ → Owner → Type 0
HasBy x u nobody = ⊥
HasBy x u control_plane = Unit {0}
HasBy x u inbound_link = Unit {0}
HasBy x u (upstream_of l s) = Joins ((x.inbound l).tunnels s) u
HasBy x u plain_link = IsPlainThere (x.plain u)
HasBy x u (relay_of l) = IsRelayOf (x.plain l) u
HasBy x u gateway_link = Unit {0}

module _ (g : NodeConfig) (x : Machine) (points : List Point) (stands : StandsFor g x points) (u : ℕ) where
  owned : Owned x (whose_in points)
  owned = all_owned g x points stands

  has_by : HasLink x u → HasBy x u (whose_in points u)
  has_by (inl control) = subst (HasBy x u) (sym (owned.control u (is_there _ control))) tt
  has_by (inr (inl link)) = subst (HasBy x u) (sym (owned.link u (is_link_there _ link))) tt
  has_by (inr (inr (inl (k, t, joins)))) =
      let number = (says_up _ _ u ((x.inbound k).tunnels t)
      ((all_say new_streams k (at_start g) (local x k) (parts_of k points) (links_run g x points k stands)).each t) joins).1 in
      ⊎_elim (λ none. absurd (omega (arith, joins.0, none, number)))
      (λ whose. subst (HasBy x u) (sym (ap (whose_in points) (sym number) ∙ whose)) joins)
      (weakly (whose_in points) k t ((x.inbound k).tunnels t).up ((x.inbound k).tunnels t).stage (owned.up k t))
  has_by (inr (inr (inr (inr gate)))) = subst (HasBy x u) (sym (owned.gate u (is_gate_there _ gate))) tt
  has_by (inr (inr (inr (inl (inl link))))) = subst (HasBy x u) (sym (owned.plain u (is_plain_there _ _ link).0)) link
  has_by (inr (inr (inr (inl (inr (k, relay)))))) =
      ⊎_elim (λ none. absurd (omega (arith, relay.0, relay.1, none)))
      (λ whose. subst (HasBy x u) (sym (ap (whose_in points) (sym relay.1) ∙ whose)) relay)
      (relay_weakly (whose_in points) k (x.plain k).up (is_raw (x.plain k)) (x.plain k).stage (owned.relay k))

  has_one : (o : Owner) → whose_in points u ≡ o → lives u (entries points) ≡ true → HasBy x u o
  has_one o mine living = subst (HasBy x u) mine (has_by ((runs_are_seen g x points stands).has u living))

  kept : (l : ℕ) → Keeps (at_start g) (plain_local x l) (plain_of l points)
  kept l = all_keep l (at_start g) (plain_local x l) (plain_of l points) (plain_runs g x points l stands)

  -- an upstream that lives is the one of its tunnel, or of its plain link, that isn't closed; and a plain link that lives isn't
  pub up_lives : (l s : ℕ) → whose_in points u ≡ upstream_of l s → lives u (entries points) ≡ true
      → (up_of s (parts_of l points) ≡ u) × (0 < u)
  up_lives l s mine living =
      let joins = has_one (upstream_of l s) mine living in (
        (says_up _ _ u ((x.inbound l).tunnels s)
            ((all_say new_streams l (at_start g) (local x l) (parts_of l points) (links_run g x points l stands)).each s) joins).0,
        joins.0,
      )

  pub plain_lives : whose_in points u ≡ plain_link → lives u (entries points) ≡ true → was_on_link is_close (plain_of u points) ≡ false
  plain_lives mine living = (kept u).tells.closed ∙ (is_plain_there (x.plain u).stage (x.plain u).closed (has_one plain_link mine living)).1

  pub relay_lives : (l : ℕ) → whose_in points u ≡ relay_of l → lives u (entries points) ≡ true
      → (relays.up_of (plain_of l points) ≡ u) × (0 < u)
  relay_lives l mine living = (let relay = has_one (relay_of l) mine living in ((kept l).tells.up ∙ relay.1, relay.0))
