-- A link on which a tunnel has a place serves.
use Rattle.std.proofs.Common.{◌≡◌, ℕ, ◌<◌, ◌≤◌, Some, is_some, IsSome, true, List, refl, ap, sym, ◌∙◌, subst}
use Rattle.std.proofs.lemmas.Bool.{false≢true}
use Rattle.std.specs.FinMap.{get}
use Rattle.hb_frames.specs.Numbers.{largest}
use Rattle.hb_held.specs.Held.{Resources}
use Rattle.hb_inbound.specs.Calm.{LiveRests, RestsBy, RestsIn}
use Rattle.hb_inbound.specs.Inbound as m
use Rattle.hb_inbound.specs.Inbound.{Inbound}
use Rattle.hb_inbound.specs.Part.{Part}
use Rattle.hb_inbound.specs.Runs.{Local, StandsFor}
use Rattle.hb_inbound.specs.Tunnel as t
use Rattle.hb_inbound.specs.Tunnel.{Tunnel as Machine, takes_place}
use Rattle.hb_inbound.proofs.Admitted.{KnowsBy}
use Rattle.hb_inbound.proofs.AdmittedRun.{all_admit}
use Rattle.hb_inbound.proofs.EndsRun.{all_say, new_streams}
use Rattle.hb_inbound.proofs.LifeRun.{LateBy}
use Rattle.hb_inbound.proofs.Waiting.{Serves, WaitsIn}
use Rattle.hb_inbound.proofs.WaitingRun.{all_wait}
use Rattle.hb_link.specs.declared.link.Link.{Link}
use Rattle.hb_link.specs.declared.phase.Phase.{Phase}
use Rattle.hb_link.specs.declared.phase.Phase.TheVariants.{Fronting, Serving, Faulted, Closing, Closed}
use Rattle.hb_link.specs.declared.tunnel.Tunnel.{Tunnel}
use Rattle.hb_link.specs.Shows.{Shows, ShowsBy}
use Rattle.hb_link.specs.Tunnels.{phase_of, stage_of, tunnel_of, as_told, IsSound, ShowsAt, ShowsTunnel}
use Rattle.hb_link.proofs.Moving.{Finds, finds, is_here}

serves_by : (phase : m.Phase) (before : List Part) (x : Inbound) (s : ℕ) → KnowsBy phase before x → LateBy phase before x
    → takes_place (x.tunnels s).stage ≡ true → phase ≡ m.serving
serves_by m.unborn before x s knows late place = absurd (false≢true (sym (ap takes_place (knows s)) ∙ place))
serves_by m.arriving before x s knows late place = absurd (false≢true (sym (ap takes_place (knows s)) ∙ place))
serves_by m.fronting before x s knows late place = absurd (false≢true (sym (ap takes_place (knows s)) ∙ place))
serves_by m.serving before x s knows late place = refl
serves_by (m.faulted code) before x s knows late place = absurd (false≢true (sym (late.0 s) ∙ place))
serves_by (m.closing why) before x s knows late place = absurd (false≢true (sym (late s) ∙ place))
serves_by m.closed before x s knows late place = absurd (false≢true (sym (late s) ∙ place))

module _ (l : ℕ) (start : Resources) (a : Local) (before : List Part) (stands : StandsFor l start a before) where
  pub it_serves : (s : ℕ) → takes_place (a.link.tunnels s).stage ≡ true → a.link.phase ≡ m.serving
  it_serves s place =
      serves_by a.link.phase before a.link s (all_admit l start a before stands).knows
      (all_say new_streams l start a before stands).late place

  pub serving_waits : a.link.phase ≡ m.serving → Serves a.link
  serving_waits is = subst (λ (phase : m.Phase). WaitsIn phase a.link) is (all_wait l start a before stands)

-- so does the code's
pub is_serving : (phase : Phase) → phase_of phase ≡ m.serving → phase ≡ Serving
is_serving Fronting is = absurd (cc)
is_serving Serving is = refl
is_serving (Faulted code) is = absurd (cc)
is_serving (Closing why) is = absurd (cc)
is_serving Closed is = absurd (cc)

-- what is known where a tunnel lives
pub record Lives (k : Link) (x : Inbound) (s : ℕ) (old : Tunnel) : Type 0 where
  pub found : Finds old (x.tunnels s)
  pub serving : x.phase ≡ m.serving
  pub way : ShowsBy m.serving k x
  pub rest : RestsIn m.serving x
  pub rests : LiveRests x.conn s (x.tunnels s)
  pub serves : Serves x
  pub has_up : 0 < old.up
  pub stage : stage_of old.stage ≡ t.live
  pub there : IsSome (get k.tunnels s)
  pub number : s ≤ largest

pub lives : (start : Resources) (before : List Part) (a : Local) (k : Link) (s : ℕ) (old : Tunnel) → StandsFor k.number start a before
    → Shows k a.link → get k.tunnels s ≡ Some old → (a.link.tunnels s).stage ≡ t.live → Lives k a.link s old
lives start before a k s old stands shows is live =
    let x = a.link in
    let serving = it_serves k.number start a before stands s (ap takes_place live) in
    let rest = subst (λ (phase : m.Phase). RestsIn phase x) serving shows.calm.rests in
    let found = finds k s x old shows is (ap is_here live) in
    record {
      found = found;
      serving = serving;
      way = subst (λ (phase : m.Phase). ShowsBy phase k x) serving shows.way;
      rest = rest;
      rests = subst (λ (stage : t.Stage). RestsBy stage x.conn s (x.tunnels s)) live (rest.1 s);
      serves = serving_waits k.number start a before stands serving;
      has_up = subst (λ (stage : t.Stage). IsSound stage old) live found.sound;
      stage = sym found.stage ∙ live;
      there = ap is_some is;
      number = shows.numbered s (ap is_some is);
    }

-- it is shown while it lives
pub shows_live : (old new : Tunnel) (z : Machine) → stage_of old.stage ≡ t.live → 0 < old.up → new.stage ≡ old.stage → new.up ≡ old.up
    → as_told z ≡ tunnel_of new → ShowsTunnel (Some new) z
shows_live old new z stage has_up same same_up told =
    subst (λ (at : t.Stage). ShowsAt at new z) (sym (ap stage_of same ∙ stage)) (told, subst (λ (u : ℕ). 0 < u) (sym same_up) has_up)
