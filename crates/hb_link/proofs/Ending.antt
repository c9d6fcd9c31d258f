-- Entries and updates that end tunnels, or the link.
use Rattle.std.proofs.Common.{◌≡◌, ℕ, ◌==◌, if◌then◌else◌, refl, ap, true, sym, ◌∙◌, subst}
use Rattle.std.specs.Prelude.{⊤}
use Rattle.std.specs.FinMap.{get}
use Rattle.hb_base.specs.declared.cause.Cause.{Cause}
use Rattle.hb_base.specs.declared.cause.Cause.TheVariants as cause
use Rattle.hb_base.specs.declared.door.Why.{Why}
use Rattle.hb_base.specs.declared.target.Target.{Target}
use Rattle.hb_conn.specs.Connection.{Connection}
use Rattle.hb_conn.specs.Observed.{streams_open}
use Rattle.hb_disco.specs.declared.response.Response.{Response}
use Rattle.hb_held.specs.Held.{Resources}
use Rattle.hb_held.specs.Outcome.{after_response}
use Rattle.hb_world.specs.declared.entry.Entry.TheVariants as e
use Rattle.hb_inbound.specs.Inbound as m
use Rattle.hb_inbound.specs.Inbound.{Inbound, broken_by, ended_by, ends_with, rejudged, stops_by, stopped_for, with_phase}
use Rattle.hb_inbound.specs.Part.{entry, up, applied, stopped}
use Rattle.hb_inbound.specs.Runs.{Local}
use Rattle.hb_inbound.specs.Tunnel.{ends_for, up_ended, takes_place}
use Rattle.hb_link.specs.declared.link.Link.{Link}
use Rattle.hb_link.specs.declared.phase.Phase.{Phase}
use Rattle.hb_link.specs.declared.phase.Phase.TheVariants.{Fronting, Serving, Faulted, Closing, Closed}
use Rattle.hb_link.specs.Marking.{ended_tunnel, judged_tunnel, down_ended_tunnel, ChangesAt, EndsWith, Marks}
use Rattle.hb_link.specs.Settling.{IsMarked, LookedIn}
use Rattle.hb_link.specs.Shows.{ShowsBy}
use Rattle.hb_link.specs.Tunnels.{phase_of}
use Rattle.hb_link.proofs.Living.{it_serves}
use Rattle.hb_link.proofs.Marked.{ChangesEach, ends_shown, down_ended_shown, judged_shown, marked_at, marked_each, marked_still, ended_marked}
use Rattle.hb_link.proofs.Settles.{agrees}

-- what is marked of the code's link, for a run of the link in front of it
abbrev IsMarkedFrom : Link → Link → Inbound → Type 0
IsMarkedFrom k n y = (n.number ≡ k.number) × IsMarked n y

module _ (k n : Link) (s : ℕ) where
  -- the dial of an upstream failed, or a call on it, or it sends no more
  pub dial_fails : (to : Target) (why : Why) → ChangesAt (ended_tunnel cause.UpFault) s k n
      → Marks (λ a. ⊤) (up s (e.DialFailed to why)) k n
  dial_fails to why changes start before a b stands shows _ step =
      subst (λ (w : Local). IsMarkedFrom k n w.link) (sym step.1)
      (marked_at (ended_tunnel cause.UpFault) (ends_for cause.UpFault) s k n a.link changes shows
      (ends_shown cause.UpFault (get k.tunnels s) (a.link.tunnels s) (shows.tunnels s)))

  pub up_breaks : (u : ℕ) → ChangesAt (ended_tunnel cause.UpFault) s k n → Marks (λ a. ⊤) (up s (e.Broke u)) k n
  up_breaks u changes start before a b stands shows _ step =
      subst (λ (w : Local). IsMarkedFrom k n w.link) (sym step.1)
      (marked_at (ended_tunnel cause.UpFault) (ends_for cause.UpFault) s k n a.link changes shows
      (ends_shown cause.UpFault (get k.tunnels s) (a.link.tunnels s) (shows.tunnels s)))

  pub up_ends : (u : ℕ) → ChangesAt down_ended_tunnel s k n → Marks (λ a. ⊤) (up s (e.Ended u)) k n
  up_ends u changes start before a b stands shows _ step =
      subst (λ (w : Local). IsMarkedFrom k n w.link) (sym step.1)
      (marked_at down_ended_tunnel up_ended s k n a.link changes shows
      (down_ended_shown (get k.tunnels s) (a.link.tunnels s) (shows.tunnels s) step.0.0.1))

-- each tunnel is judged by what is held then
pub all_judged : (k n : Link) (held : Resources) (r : Response) → ChangesEach (judged_tunnel held k.peer) k n
    → Marks (λ a. held ≡ after_response a.held r) (applied r) k n
all_judged k n held r changes start before a b stands shows is step =
    let x = a.link in
    let peer_known = λ (s : ℕ) (place : takes_place (x.tunnels s).stage ≡ true).
    (subst (λ (phase : m.Phase). ShowsBy phase k x) (it_serves k.number start a before stands s place) shows.way).2 in
    subst (λ (w : Local). IsMarkedFrom k n w.link) (sym step)
    (subst (λ (h : Resources). IsMarkedFrom k n (rejudged h x)) is
    (marked_each (judged_tunnel held k.peer) k n x (rejudged held x).tunnels changes shows
    (λ s. judged_shown held k.peer x.peer (get k.tunnels s) (x.tunnels s) (shows.tunnels s) (peer_known s))))

-- THE LINK ENDS

ended_stays : (phase : Phase) (x : Inbound) → (phase ≡ Fronting → ⊥) → (phase ≡ Serving → ⊥) → ended_by (phase_of phase) x ≡ x
ended_stays Fronting x not_fronting not_serving = absurd (not_fronting refl)
ended_stays Serving x not_fronting not_serving = absurd (not_serving refl)
ended_stays (Faulted code) x not_fronting not_serving = refl
ended_stays (Closing why) x not_fronting not_serving = refl
ended_stays Closed x not_fronting not_serving = refl

-- where it is to be closed already
pub still_ends : (k : Link) → (k.phase ≡ Fronting → ⊥) → (k.phase ≡ Serving → ⊥) → Marks (λ a. ⊤) (entry (e.Ended k.number)) k k
still_ends k not_fronting not_serving start before a b stands shows _ step =
    let x = a.link in
    let stays : ended_by x.phase x ≡ x =
    ap (λ (phase : m.Phase). ended_by phase x) shows.phase ∙ ended_stays k.phase x not_fronting not_serving in
    subst (λ (w : Local). IsMarkedFrom k k w.link) (sym step.1)
    (refl, subst (IsMarked k) (sym stays) (marked_still k x shows))

module _ (k n : Link) where
  -- a connection
  pub connection_ends : k.phase ≡ Serving
      → EndsWith (Closing (if streams_open k.conn == 0 then cause.Done else cause.PeerGone)) cause.PeerGone k n
      → Marks (λ a. ⊤) (entry (e.Ended k.number)) k n
  connection_ends is ends start before a b stands shows _ step =
      let x = a.link in
      let serving : x.phase ≡ m.serving = shows.phase ∙ ap phase_of is in
      let way = subst (λ (phase : m.Phase). ShowsBy phase k x) serving shows.way in
      let why = if streams_open k.conn == 0 then cause.Done else cause.PeerGone in
      subst (λ (w : Local). IsMarkedFrom k n w.link) (sym step.1)
      (subst (λ (phase : m.Phase). IsMarkedFrom k n (ended_by phase x)) (sym serving)
      (subst (λ (c : Connection). IsMarkedFrom k n
      (ends_with (m.closing (if streams_open c == 0 then cause.Done else cause.PeerGone)) cause.PeerGone x)) (sym way.0)
      (ended_marked k n x (Closing why) cause.PeerGone ends (agrees k x shows) tt tt)))

  pub connection_breaks : k.phase ≡ Serving → EndsWith (Closing cause.Broken) cause.PeerGone k n
      → Marks (λ a. ⊤) (entry (e.Broke k.number)) k n
  connection_breaks is ends start before a b stands shows _ step =
      let x = a.link in
      subst (λ (w : Local). IsMarkedFrom k n w.link) (sym step.1)
      (subst (λ (phase : m.Phase). IsMarkedFrom k n (broken_by phase x)) (sym (shows.phase ∙ ap phase_of is))
      (ended_marked k n x (Closing cause.Broken) cause.PeerGone ends (agrees k x shows) tt tt))

  -- the run ends
  module _ (why : Cause) (phase : Phase) (is : phase_of phase ≡ stops_by why (phase_of k.phase)) (ends : EndsWith phase why k n) where
    way_stopped : (x : Inbound) (at : m.Phase) → ShowsBy at k x
        → ShowsBy (stops_by why at) (record k { phase = phase; tunnels = n.tunnels }) (ends_with (phase_of phase) why x)
    way_stopped x m.unborn shows = tt
    way_stopped x m.arriving shows = tt
    way_stopped x m.fronting shows = tt
    way_stopped x m.serving shows = tt
    way_stopped x (m.faulted code) shows = shows
    way_stopped x (m.closing old) shows = tt
    way_stopped x m.closed shows = tt

    nothing_looked : (y : Inbound) (at : m.Phase) → LookedIn (stops_by why at) y
    nothing_looked y m.unborn = tt
    nothing_looked y m.arriving = tt
    nothing_looked y m.fronting = tt
    nothing_looked y m.serving = tt
    nothing_looked y (m.faulted code) = tt
    nothing_looked y (m.closing old) = tt
    nothing_looked y m.closed = tt

    pub all_stopped : Marks (λ a. ⊤) (stopped why) k n
    all_stopped start before a b stands shows _ step =
        let x = a.link in
        let stops : phase_of phase ≡ stops_by why x.phase = is ∙ ap (stops_by why) (sym shows.phase) in
        subst (λ (w : Local). IsMarkedFrom k n w.link) (sym step)
        (subst (λ (p : m.Phase). IsMarkedFrom k n (ends_with p why x)) stops
        (ended_marked k n x phase why ends (agrees k x shows)
        (subst (λ (p : m.Phase). ShowsBy p (record k { phase = phase; tunnels = n.tunnels }) (ends_with (phase_of phase) why x)) (sym stops)
        (way_stopped x x.phase shows.way))
        (subst (λ (p : m.Phase). LookedIn p (ends_with (phase_of phase) why x)) (sym stops)
        (nothing_looked (ends_with (phase_of phase) why x) x.phase))))
