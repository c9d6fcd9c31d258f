-- Where no act is due and each link rests, the machine that the code shows is settled.
use Rattle.std.proofs.Common.{◌≡◌, ◌⊎◌, inl, inr, ⊎_elim, ℕ, ◌-◌, ◌<◌, ◌≤◌, Bool, true, false, if◌then◌else◌, List, [], length, Option, Some, None, refl, ap, sym, ◌∙◌, subst, arith, eq-zero-or-pos}
use Rattle.std.specs.FinMap.{get}
use Rattle.hb_base.specs.declared.door.Door.{Door}
use Rattle.hb_base.specs.declared.note.Note.{Note}
use Rattle.hb_captured.specs.Calm as plain_calm
use Rattle.hb_captured.specs.Captured as plain
use Rattle.hb_captured.specs.Captured.{Captured}
use Rattle.hb_conn.specs.Connection.{Connection}
use Rattle.hb_conn.specs.Observed as connection
use Rattle.hb_conn.specs.Observed.{IsLookedAt}
use Rattle.hb_gateway.specs.Calm as gate_calm
use Rattle.hb_gateway.specs.Gateway as gateway
use Rattle.hb_gateway.specs.Gateway.{Gateway}
use Rattle.hb_inbound.specs.Calm as calm
use Rattle.hb_front.specs.Room.{longest_front}
use Rattle.hb_inbound.specs.Calm.{RestsIn, wants_by as wants_in, output_by as output_in, up_wants}
use Rattle.hb_inbound.specs.Inbound as m
use Rattle.hb_inbound.specs.Inbound.{Inbound}
use Rattle.hb_inbound.specs.Tunnel as t
use Rattle.hb_inbound.specs.Tunnel.{Tunnel, Stage}
use Rattle.hb_kept.proofs.Kept.{some_are_wanted}
use Rattle.hb_kept.specs.Kept.{IsKept, wants_of}
use Rattle.hb_link.specs.Observed.{up_wants_by, up_held_by}
use Rattle.hb_link.specs.Shows.{ShowsBy}
use Rattle.hb_link.specs.declared.link.Link.{Link}
use Rattle.hb_links.specs.Shows.{IsAway, ShowsLink}
use Rattle.hb_model.specs.Discovery as d
use Rattle.hb_model.specs.Discovery.{Discovery}
use Rattle.hb_model.specs.Puts.{IsAllPut}
use Rattle.hb_model.specs.Runs as model
use Rattle.hb_model.specs.Runs.{IsCalmBy}
use Rattle.hb_model.specs.declared.config.NodeConfig.{NodeConfig}
use Rattle.hb_node.proofs.Resting.{reads as control_reads}
use Rattle.hb_proxy.proofs.Control.{puts_all}
use Rattle.hb_proxy.specs.Doors.{without_doors}
use Rattle.hb_proxy.specs.Machine.{Machine}
use Rattle.hb_proxy.specs.Points.{Point, control_of}
use Rattle.hb_proxy.specs.Seen.{Seen, IsThere, IsLinkThere, IsPlainThere, IsGateThere, OpenBy, UpOpenBy, RelayOpenBy, GateOpenBy}
use Rattle.hb_proxy.specs.Settled.{Reads, Writes, Finishes, Looks, IsCrowded, IsFull, ControlSettledBy, GateSettledBy, LinkSettledBy, PlainSettledBy, RelaySettledBy, UpSettledBy, SettledIn}
use Rattle.hb_proxy.specs.Ups.{Joins, IsRelayOf}
use Rattle.hb_ready.specs.Sight.{asked, is_open, known, sight}
use Rattle.hb_relays.specs.Shows.{IsAwayBy}
use Rattle.hb_tunnel.specs.Tunnel.{down_size}
use Rattle.hb_turns.specs.Settled.{Rests, RestsBy}
use Rattle.hb_turns.specs.Shown.{Shown, IsFree}
use Rattle.hb_world.specs.Trace.{lives}
use Rattle.hb_world.specs.declared.entry.Entry.{Entry}
use Rattle.hb_whole.proofs.ControlMay.{wants_owned, output_owned}
use Rattle.hb_whole.proofs.Free.{Free, free}
use Rattle.hb_whole.proofs.Guards.{going_at}
use Rattle.hb_whole.proofs.LinkMay.{wants_link, output_link, wants_up, holds_up}
use Rattle.hb_whole.proofs.PlainGuards.{relay_at}
use Rattle.hb_whole.proofs.Relays.{there_at_stage, serving_kept, wants_plain, output_plain, wants_relay, output_relay, wants_gate, output_gate}
use Rattle.hb_whole.proofs.Routes.{seen_of, lives_then, open_then, owned, control_owner, link_owner, up_owner, plain_owner, relay_owner, gate_owner, no_up, no_relay, no_gate_relay, no_gate_link}
use Rattle.hb_whole.specs.Sight.{owns, owner_of, shown_of, wants_by, output_by}
use Rattle.hb_whole.specs.Stands.{Stands}
use Rattle.hb_whole.specs.declared.owner.Owner.{Owner}
use Rattle.hb_whole.specs.declared.owner.Owner.TheVariants.{Plain, Inbound as OfInbound}
use Rattle.hb_whole.specs.declared.proxy.Proxy.{Proxy}

-- A LINK THAT LIVES RESTS

module _ (trace : List Entry) (l : ℕ) (s : Shown) (alive : lives l trace ≡ true) (rests : Rests (known l trace) l s) where
  rests_by : RestsBy (is_open l trace) (sight l trace) l s
  rests_by = subst (λ (b : Bool). Rests (if b then Some (sight l trace) else None) l s) alive rests

  pub open_reads : is_open l trace ≡ true → Reads trace l (s.wants l ≡ 0)
  open_reads opens = (subst (λ (b : Bool). RestsBy b (sight l trace) l s) opens rests_by).0

  pub open_writes : is_open l trace ≡ true → Writes trace l (s.output l ≡ [])
  open_writes opens = (subst (λ (b : Bool). RestsBy b (sight l trace) l s) opens rests_by).1

  pub open_looks : is_open l trace ≡ true → Looks trace l
  open_looks opens = (subst (λ (b : Bool). RestsBy b (sight l trace) l s) opens rests_by).2

  pub closed_finishes : is_open l trace ≡ false → Finishes trace l
  closed_finishes closed = subst (λ (b : Bool). RestsBy b (sight l trace) l s) closed rests_by

reads_map : {A B : Type 0} (trace : List Entry) (l : ℕ) → (A → B) → Reads trace l A → Reads trace l B
reads_map trace l f (inl sleeps) = inl sleeps
reads_map trace l f (inr full) = inr (f full)

writes_map : {A B : Type 0} (trace : List Entry) (l : ℕ) → (A → B) → Writes trace l A → Writes trace l B
writes_map trace l f (inl sleeps) = inl sleeps
writes_map trace l f (inr none) = inr (f none)

-- WHERE NOTHING MAY BE READ

little_room : (room wanted : ℕ) → wanted ≡ 0 → (768 ≤ room → 0 < wanted) → room < 768
little_room room wanted none reads =
    ⊎_elim (λ (much : 768 - room ≡ 0). absurd (let some : 0 < wanted = reads (omega (arith, much)) in omega (arith, some, none)))
    (λ (little : 0 < 768 - room). omega (arith, little)) (eq-zero-or-pos (768 - room))

crowded : (c : Connection) → IsKept c → IsLookedAt c → wants_of c ≡ 0 → IsCrowded c
crowded c kept looked none =
    little_room (connection.room c) (wants_of c) none (λ much. some_are_wanted c kept looked (omega (arith, much)))

fills : (size n : ℕ) → size - n ≡ 0 → size ≤ n
fills size n none = omega (arith, none)

ring_full : (size held : ℕ) (ended : Bool) → (if ended then 0 else size - held) ≡ 0 → (ended ≡ true) ⊎ (size ≤ held)
ring_full size held true none = inl refl
ring_full size held false none = inr (omega (arith, none))

-- EACH LINK THAT IS THERE

control_by : (g : NodeConfig) (points : List Point) (phase : d.Phase) (trace : List Entry) (l : ℕ) (x : Discovery) → IsCalmBy phase x
    → (phase ≡ d.dialling → Finishes trace l)
    → (phase ≡ d.live → Reads trace l (IsCrowded x.conn) × Writes trace l (connection.output x.conn ≡ [])
    × Writes trace l (IsAllPut g (control_of points) l))
    → ControlSettledBy g points phase trace l x
control_by g points d.unborn trace l x calm dialling live = tt
control_by g points d.closed trace l x calm dialling live = tt
control_by g points d.dialling trace l x calm dialling live = dialling refl
control_by g points d.live trace l x calm dialling live = live refl
control_by g points (d.faulted code) trace l x calm dialling live = absurd calm
control_by g points (d.ending why) trace l x calm dialling live = absurd calm

link_by : (phase : m.Phase) (trace : List Entry) (l : ℕ) (x : Inbound) → RestsIn phase x → calm.close_due phase ≡ None
    → (phase ≡ m.fronting → Reads trace l (longest_front ≤ length x.front))
    → (phase ≡ m.serving → Reads trace l (IsCrowded x.conn) × Writes trace l (connection.output x.conn ≡ []))
    → LinkSettledBy phase trace l x
link_by m.unborn trace l x rests none fronting serving = tt
link_by m.closed trace l x rests none fronting serving = tt
link_by m.arriving trace l x rests none fronting serving = absurd rests
link_by m.fronting trace l x rests none fronting serving = fronting refl
link_by m.serving trace l x rests none fronting serving = serving refl
link_by (m.faulted code) trace l x rests none fronting serving = absurd cc
link_by (m.closing why) trace l x rests none fronting serving = absurd cc

plain_by : (stage : plain.Stage) (trace : List Entry) (l : ℕ) (x : Captured) → plain_calm.IsCalmBy stage x → plain_calm.IsIdleBy stage x
    → (stage ≡ plain.fronting → Reads trace l (longest_front ≤ length x.front))
    → ((stage ≡ plain.opening) ⊎ (stage ≡ plain.live) → Reads trace l (IsFull (plain.ring_up x.door) x.ways.up))
    → (stage ≡ plain.live → Writes trace l (x.ways.down.held ≡ [])) → PlainSettledBy stage x.closed trace l x
plain_by plain.unborn trace l x calm idle fronting reads writes = tt
plain_by plain.arriving trace l x calm idle fronting reads writes = absurd calm
plain_by plain.fronting trace l x calm idle fronting reads writes = fronting refl
plain_by plain.due trace l x calm idle fronting reads writes = absurd idle
plain_by plain.opening trace l x calm idle fronting reads writes = reads (inl refl)
plain_by plain.accepting trace l x calm idle fronting reads writes = absurd calm
plain_by plain.live trace l x calm idle fronting reads writes = (reads (inr refl), writes refl)
plain_by (plain.failed why) trace l x calm idle fronting reads writes = absurd calm
plain_by (plain.ended why) trace l x calm idle fronting reads writes = absurd calm
plain_by (plain.over why) trace l x calm idle fronting reads writes = idle.0

gate_by : (phase : gateway.Phase) (trace : List Entry) (n : ℕ) (x : Gateway) → gate_calm.close_due phase ≡ None
    → (phase ≡ gateway.opening → Finishes trace n)
    → (phase ≡ gateway.serving → Reads trace n (IsCrowded x.conn) × Writes trace n (gateway.output x ≡ []))
    → GateSettledBy phase trace n x
gate_by gateway.unborn trace n x none opening serving = tt
gate_by gateway.closed trace n x none opening serving = tt
gate_by gateway.opening trace n x none opening serving = opening refl
gate_by gateway.serving trace n x none opening serving = serving refl
gate_by (gateway.faulted code) trace n x none opening serving = absurd cc
gate_by (gateway.closing why) trace n x none opening serving = absurd cc

there_at : (phase : d.Phase) → (phase ≡ d.dialling) ⊎ (phase ≡ d.live) → IsThere phase
there_at phase (inl is) = subst IsThere (sym is) tt
there_at phase (inr is) = subst IsThere (sym is) tt

link_there : (phase : m.Phase) → (phase ≡ m.fronting) ⊎ (phase ≡ m.serving) → IsLinkThere phase
link_there phase (inl is) = subst IsLinkThere (sym is) tt
link_there phase (inr is) = subst IsLinkThere (sym is) tt

-- what the code shows of a link that serves
kept_of : (l : ℕ) (o : Option Link) (x : Inbound) → ShowsLink l o x → x.phase ≡ m.serving → IsKept x.conn
kept_of l None x shows is = absurd (subst IsAway is shows.0)
kept_of l (Some k) x shows is = (subst (λ (p : m.Phase). ShowsBy p k x) is shows.1.way).1

-- THE PROXY

module _ (taken : List Note) (p : Proxy) (trace : List Entry) (s : Stands taken p trace) (is_free : IsFree (shown_of p))
    (rests : (l : ℕ) → Rests (known l trace) l (shown_of p)) where
  abbrev pub x : Machine
  x = s.machine

  seen : Seen x (without_doors trace)
  seen = seen_of taken p trace s

  all : Free x
  all = free taken p trace s is_free

  lives_so : (l : ℕ) → lives l (without_doors trace) ≡ true → lives l trace ≡ true
  lives_so l alive = sym (lives_then trace l) ∙ alive

  opens_so : (l : ℕ) (b : Bool) → is_open l (without_doors trace) ≡ b → is_open l trace ≡ b
  opens_so l b is = sym (open_then trace l) ∙ is

  -- the control plane's
  module _ (l : ℕ) (there : IsThere (x.control.links l).phase) where
    alive : lives l trace ≡ true
    alive = lives_so l (seen.control l there)

    mine : owns p l ≡ true
    mine = owned p.control.link x.control l s.control.link there

    wants_are : (shown_of p).wants l ≡ model.wants x.control l
    wants_are = ap (λ (o : Owner). wants_by o p l) (control_owner p l mine) ∙ wants_owned p.control.link x.control l s.control.link mine

    output_is : (shown_of p).output l ≡ model.output x.control l
    output_is = ap (λ (o : Owner). output_by o p l) (control_owner p l mine) ∙ output_owned p.control.link x.control l s.control.link mine

    dialling_so : (x.control.links l).phase ≡ d.dialling → Finishes trace l
    dialling_so is = closed_finishes trace l (shown_of p) alive (rests l)
        (opens_so l false (subst (λ (q : d.Phase). OpenBy q (is_open l (without_doors trace))) is (seen.control_open l)))

    module _ (is : (x.control.links l).phase ≡ d.live) where
      opens : is_open l trace ≡ true
      opens = opens_so l true (subst (λ (q : d.Phase). OpenBy q (is_open l (without_doors trace))) is (seen.control_open l))

      crowded_so : (shown_of p).wants l ≡ 0 → IsCrowded (x.control.links l).conn
      crowded_so none =
          little_room (connection.room (x.control.links l).conn) (model.wants x.control l) (sym wants_are ∙ none)
          (control_reads p.control x.control l s.control is)

      none_waits : (shown_of p).output l ≡ [] → connection.output (x.control.links l).conn ≡ []
      none_waits none = sym (ap (λ (q : d.Phase). model.output_by q (x.control.links l)) is) ∙ sym output_is ∙ none

      calm_here : model.IsCalm (x.control.links l)
      calm_here = subst (λ (q : d.Phase). IsCalmBy q (x.control.links l)) is (all.control.calm l)

      live_so : Reads trace l (IsCrowded (x.control.links l).conn) × Writes trace l (connection.output (x.control.links l).conn ≡ [])
          × Writes trace l (IsAllPut p.control.config (control_of s.points) l)
      live_so =
          let none = writes_map trace l none_waits (open_writes trace l (shown_of p) alive (rests l) opens) in (
            reads_map trace l crowded_so (open_reads trace l (shown_of p) alive (rests l) opens),
            none,
            writes_map trace l (λ empty. puts_all p.control.config x s.points l s.run is calm_here empty) none,
          )

  control_so : (l : ℕ) → ControlSettledBy p.control.config s.points (x.control.links l).phase trace l (x.control.links l)
  control_so l =
      control_by p.control.config s.points (x.control.links l).phase trace l (x.control.links l) (all.control.calm l)
      (λ is. dialling_so l (there_at (x.control.links l).phase (inl is)) is)
      (λ is. live_so l (there_at (x.control.links l).phase (inr is)) is)

  -- an inbound link
  module _ (l : ℕ) (there : IsLinkThere (x.inbound l).phase) where
    link_alive : lives l trace ≡ true
    link_alive = lives_so l (seen.link l there).0

    link_opens : is_open l trace ≡ true
    link_opens = opens_so l true (seen.link l there).1

    link_whose : owner_of p l ≡ OfInbound
    link_whose = link_owner taken p trace s l there

    none_up : get p.side.links.ups l ≡ None
    none_up = no_up taken p trace s l there

    link_wants_are : (shown_of p).wants l ≡ wants_in (x.inbound l).phase (x.inbound l)
    link_wants_are = ap (λ (o : Owner). wants_by o p l) link_whose ∙ wants_link p.side.links x.inbound s.links l none_up

    link_output_is : (shown_of p).output l ≡ output_in (x.inbound l).phase (x.inbound l)
    link_output_is = ap (λ (o : Owner). output_by o p l) link_whose ∙ output_link p.side.links x.inbound s.links l none_up

    fronting_so : (x.inbound l).phase ≡ m.fronting → Reads trace l (longest_front ≤ length (x.inbound l).front)
    fronting_so is =
        reads_map trace l
        (λ none. fills longest_front (length (x.inbound l).front)
        (sym (ap (λ (q : m.Phase). wants_in q (x.inbound l)) is) ∙ sym link_wants_are ∙ none))
        (open_reads trace l (shown_of p) link_alive (rests l) link_opens)

    module _ (is : (x.inbound l).phase ≡ m.serving) where
      looked : IsLookedAt (x.inbound l).conn
      looked = (subst (λ (q : m.Phase). RestsIn q (x.inbound l)) is (all.links l).calm.rests).0

      serving_so : Reads trace l (IsCrowded (x.inbound l).conn) × Writes trace l (connection.output (x.inbound l).conn ≡ [])
      serving_so = (
        reads_map trace l
            (λ none. crowded (x.inbound l).conn (kept_of l (get p.side.links.links l) (x.inbound l) (s.links.links l) is) looked
            (sym (ap (λ (q : m.Phase). wants_in q (x.inbound l)) is) ∙ sym link_wants_are ∙ none))
            (open_reads trace l (shown_of p) link_alive (rests l) link_opens),
        writes_map trace l
            (λ none. sym (ap (λ (q : m.Phase). output_in q (x.inbound l)) is) ∙ sym link_output_is ∙ none)
            (open_writes trace l (shown_of p) link_alive (rests l) link_opens),
      )

  links_so : (l : ℕ) → LinkSettledBy (x.inbound l).phase trace l (x.inbound l)
  links_so l =
      link_by (x.inbound l).phase trace l (x.inbound l) (all.links l).calm.rests (all.links l).no_close
      (λ is. fronting_so l (link_there (x.inbound l).phase (inl is)) is)
      (λ is. serving_so l (link_there (x.inbound l).phase (inr is)) is)

  -- an upstream
  module _ (l q u : ℕ) (joins : Joins ((x.inbound l).tunnels q) u) where
    abbrev pub tunnel : Tunnel
    tunnel = (x.inbound l).tunnels q

    up_alive : lives u trace ≡ true
    up_alive = lives_so u (seen.up l q u joins).0

    up_whose : owner_of p u ≡ OfInbound
    up_whose = up_owner taken p trace s l q u joins

    up_wants_are : (shown_of p).wants u ≡ up_wants_by tunnel.stage tunnel
    up_wants_are = ap (λ (o : Owner). wants_by o p u) up_whose
        ∙ wants_up p.side.links x.inbound s.links u l q (s.links.index.found l q u joins)

    up_output_is : (shown_of p).output u ≡ up_held_by tunnel.stage tunnel
    up_output_is = ap (λ (o : Owner). output_by o p u) up_whose
        ∙ holds_up p.side.links x.inbound s.links u l q (s.links.index.found l q u joins)

    up_open : (stage : Stage) (b : Bool) → tunnel.stage ≡ stage
        → (UpOpenBy stage (is_open u (without_doors trace)) → is_open u (without_doors trace) ≡ b) → is_open u trace ≡ b
    up_open stage b is says =
        opens_so u b (says (subst (λ (r : Stage). UpOpenBy r (is_open u (without_doors trace))) is (seen.up l q u joins).2))

    by_stage : (stage : Stage) → tunnel.stage ≡ stage → (stage ≡ t.opening) ⊎ (stage ≡ t.live) → UpSettledBy stage trace u tunnel
    by_stage stage is (inl opening) =
        let at : tunnel.stage ≡ t.opening = is ∙ opening in
        subst (λ (r : Stage). UpSettledBy r trace u tunnel) (sym opening)
        (closed_finishes trace u (shown_of p) up_alive (rests u) (up_open t.opening false at (λ told. told)))
    by_stage stage is (inr live) =
        let at : tunnel.stage ≡ t.live = is ∙ live in
        let opens : is_open u trace ≡ true = up_open t.live true at (λ told. told) in
        subst (λ (r : Stage). UpSettledBy r trace u tunnel) (sym live) (
          reads_map trace u
              (λ none. ring_full down_size (length tunnel.ways.down.held) tunnel.ways.down.has_ended
              (sym (ap (λ (r : Stage). up_wants_by r tunnel) at) ∙ sym up_wants_are ∙ none))
              (open_reads trace u (shown_of p) up_alive (rests u) opens),
          writes_map trace u
              (λ none. sym (ap (λ (r : Stage). up_held_by r tunnel) at) ∙ sym up_output_is ∙ none)
              (open_writes trace u (shown_of p) up_alive (rests u) opens),
        )

    up_so : UpSettledBy tunnel.stage trace u tunnel
    up_so = by_stage tunnel.stage refl (going_at (x.inbound l) q u (all.links l) joins)

  -- a plain link
  module _ (l : ℕ) (there : IsPlainThere (x.plain l)) where
    plain_alive : lives l trace ≡ true
    plain_alive = lives_so l (seen.plain.link l there).0

    plain_opens : is_open l trace ≡ true
    plain_opens = opens_so l true (seen.plain.link l there).1

    plain_whose : owner_of p l ≡ Plain
    plain_whose = plain_owner taken p trace s l there

    plain_wants_are : (shown_of p).wants l ≡ plain_calm.wants (x.plain l)
    plain_wants_are = ap (λ (o : Owner). wants_by o p l) plain_whose
        ∙ wants_plain p.side.relays s.relays l there (no_relay taken p trace s l there)

    plain_output_is : (shown_of p).output l ≡ plain_calm.output (x.plain l)
    plain_output_is = ap (λ (o : Owner). output_by o p l) plain_whose
        ∙ output_plain p.side.relays s.relays l there (no_relay taken p trace s l there)

    plain_reads : (A : Type 0) → (plain_calm.wants (x.plain l) ≡ 0 → A) → Reads trace l A
    plain_reads A none =
        reads_map trace l (λ is. none (sym plain_wants_are ∙ is)) (open_reads trace l (shown_of p) plain_alive (rests l) plain_opens)

    plain_fronting : (x.plain l).stage ≡ plain.fronting → Reads trace l (longest_front ≤ length (x.plain l).front)
    plain_fronting is =
        plain_reads (longest_front ≤ length (x.plain l).front)
        (λ none. fills longest_front (length (x.plain l).front)
        (sym (ap (λ (r : plain.Stage). plain_calm.wants_by r (x.plain l)) is) ∙ none))

    plain_full : ((x.plain l).stage ≡ plain.opening) ⊎ ((x.plain l).stage ≡ plain.live)
        → Reads trace l (IsFull (plain.ring_up (x.plain l).door) (x.plain l).ways.up)
    plain_full going =
        plain_reads (IsFull (plain.ring_up (x.plain l).door) (x.plain l).ways.up)
        (λ none. ring_full (plain.ring_up (x.plain l).door) (length (x.plain l).ways.up.held) (x.plain l).ways.up.has_ended
        (⊎_elim (λ is. sym (ap (λ (r : plain.Stage). plain_calm.wants_by r (x.plain l)) is) ∙ none)
        (λ is. sym (ap (λ (r : plain.Stage). plain_calm.wants_by r (x.plain l)) is) ∙ none) going))

    plain_writes : (x.plain l).stage ≡ plain.live → Writes trace l ((x.plain l).ways.down.held ≡ [])
    plain_writes is =
        writes_map trace l
        (λ none. sym (ap (λ (r : plain.Stage). plain_calm.output_by r (x.plain l).ways.down.held) is) ∙ sym plain_output_is ∙ none)
        (open_writes trace l (shown_of p) plain_alive (rests l) plain_opens)

  plain_so : (l : ℕ) → PlainSettledBy (x.plain l).stage (x.plain l).closed trace l (x.plain l)
  plain_so l =
      plain_by (x.plain l).stage trace l (x.plain l) (all.plain l).0 (all.plain l).1
      (λ is. plain_fronting l (at plain.fronting is (λ away. away)) is)
      (λ going. plain_full l (⊎_elim (λ is. at plain.opening is (λ away. away)) (λ is. at plain.live is (λ away. away)) going) going)
      (λ is. plain_writes l (at plain.live is (λ away. away)) is)
    where
      at : (stage : plain.Stage) → (x.plain l).stage ≡ stage → (IsAwayBy stage (x.plain l) → ⊥) → IsPlainThere (x.plain l)
      at stage is there = there_at_stage p.side.relays s.relays l stage is there

  -- its upstream
  module _ (l u : ℕ) (joins : IsRelayOf (x.plain l) u) where
    abbrev pub captured : Captured
    captured = x.plain l

    relay_alive : lives u trace ≡ true
    relay_alive = lives_so u (seen.plain.up l u joins).0

    relay_whose : owner_of p u ≡ Plain
    relay_whose = relay_owner taken p trace s l u joins

    relay_wants_are : (shown_of p).wants u ≡ plain_calm.up_wants captured
    relay_wants_are = ap (λ (o : Owner). wants_by o p u) relay_whose
        ∙ wants_relay p.side.relays s.relays u l (s.relays.index.found l u joins)

    relay_output_is : (shown_of p).output u ≡ plain_calm.up_output captured
    relay_output_is = ap (λ (o : Owner). output_by o p u) relay_whose
        ∙ output_relay p.side.relays s.relays u l (s.relays.index.found l u joins)

    relay_open : (stage : plain.Stage) (b : Bool) → captured.stage ≡ stage
        → (RelayOpenBy stage (is_open u (without_doors trace)) → is_open u (without_doors trace) ≡ b) → is_open u trace ≡ b
    relay_open stage b is says =
        opens_so u b (says (subst (λ (r : plain.Stage). RelayOpenBy r (is_open u (without_doors trace))) is (seen.plain.up l u joins).2))

    relay_opening : captured.stage ≡ plain.opening → RelaySettledBy captured.stage trace u captured
    relay_opening is =
        subst (λ (r : plain.Stage). RelaySettledBy r trace u captured) (sym is)
        (closed_finishes trace u (shown_of p) relay_alive (rests u) (relay_open plain.opening false is (λ told. told)))

    relay_live : captured.stage ≡ plain.live → RelaySettledBy captured.stage trace u captured
    relay_live is =
        let opens : is_open u trace ≡ true = relay_open plain.live true is (λ told. told) in
        subst (λ (r : plain.Stage). RelaySettledBy r trace u captured) (sym is) (
          reads_map trace u
              (λ none. ring_full (plain.ring_down captured.door) (length captured.ways.down.held) captured.ways.down.has_ended
              (sym (ap (λ (r : plain.Stage). plain_calm.up_wants_by r captured) is) ∙ sym relay_wants_are ∙ none))
              (open_reads trace u (shown_of p) relay_alive (rests u) opens),
          writes_map trace u
              (λ none. sym (ap (λ (r : plain.Stage). plain_calm.output_by r captured.ways.up.held) is) ∙ sym relay_output_is ∙ none)
              (open_writes trace u (shown_of p) relay_alive (rests u) opens),
        )

    relay_so : RelaySettledBy captured.stage trace u captured
    relay_so = ⊎_elim relay_opening relay_live (relay_at taken p trace s l u (all.plain l) joins)

  -- a link to a gateway
  module _ (n : ℕ) (there : IsGateThere (x.gates n).phase) where
    gate_alive : lives n trace ≡ true
    gate_alive = lives_so n (seen.gates.link n there).0

    gate_whose : owner_of p n ≡ Plain
    gate_whose = gate_owner taken p trace s n there

    gate_wants_are : (shown_of p).wants n ≡ gate_calm.wants (x.gates n)
    gate_wants_are = ap (λ (o : Owner). wants_by o p n) gate_whose
        ∙ wants_gate p.side.relays s.relays n there (no_gate_relay taken p trace s n there) (no_gate_link taken p trace s n there)

    gate_output_is : (shown_of p).output n ≡ gate_calm.output (x.gates n)
    gate_output_is = ap (λ (o : Owner). output_by o p n) gate_whose
        ∙ output_gate p.side.relays s.relays n there (no_gate_relay taken p trace s n there) (no_gate_link taken p trace s n there)

    gate_open : (phase : gateway.Phase) (b : Bool) → (x.gates n).phase ≡ phase
        → (GateOpenBy phase (is_open n (without_doors trace)) → is_open n (without_doors trace) ≡ b) → is_open n trace ≡ b
    gate_open phase b is says =
        opens_so n b
        (says (subst (λ (q : gateway.Phase). GateOpenBy q (is_open n (without_doors trace))) is (seen.gates.link_open n there)))

    gate_opening : (x.gates n).phase ≡ gateway.opening → Finishes trace n
    gate_opening is = closed_finishes trace n (shown_of p) gate_alive (rests n) (gate_open gateway.opening false is (λ told. told))

    gate_serving : (x.gates n).phase ≡ gateway.serving
        → Reads trace n (IsCrowded (x.gates n).conn) × Writes trace n (gateway.output (x.gates n) ≡ [])
    gate_serving is =
        let opens : is_open n trace ≡ true = gate_open gateway.serving true is (λ told. told) in
        let looked = (subst (λ (q : gateway.Phase). gate_calm.IsCalmBy q (x.gates n)) is ((all.gates true).gates n).1).1 in (
          reads_map trace n
              (λ none. crowded (x.gates n).conn (serving_kept p.side.relays s.relays n is) looked
              (sym (ap (λ (q : gateway.Phase). gate_calm.wants_by q (x.gates n)) is) ∙ sym gate_wants_are ∙ none))
              (open_reads trace n (shown_of p) gate_alive (rests n) opens),
          writes_map trace n
              (λ none. sym (ap (λ (q : gateway.Phase). gate_calm.output_by q (x.gates n)) is) ∙ sym gate_output_is ∙ none)
              (open_writes trace n (shown_of p) gate_alive (rests n) opens),
        )

  gates_so : (n : ℕ) → GateSettledBy (x.gates n).phase trace n (x.gates n)
  gates_so n =
      gate_by (x.gates n).phase trace n (x.gates n) ((all.gates false).gates n).no_close
      (λ is. gate_opening n (subst IsGateThere (sym is) tt) is) (λ is. gate_serving n (subst IsGateThere (sym is) tt) is)

  pub settled_in : ((door : Door) → asked door trace ≡ false) → SettledIn p.control.config trace
  settled_in doors = record {
    machine = s.machine;
    points = s.points;
    run = s.run;
    trace_is = s.trace_is;
    settled = record {
      control_quiet = all.control;
      links_quiet = all.links;
      doors = doors;
      control = control_so;
      links = links_so;
      ups = up_so;
      plain_quiet = all.plain;
      plain = plain_so;
      relays = relay_so;
      gates_quiet = all.gates false;
      gates = gates_so;
      looks = λ l alive opens. open_looks trace l (shown_of p) alive (rests l) opens;
    };
  }
