-- A link on which one tunnel changes, and more may still happen by itself.
use Rattle.std.proofs.Common.{◌≡◌, ℕ, ◌+◌, ◌<◌, ◌≤◌, ◌&&◌, ◌==◌, not, IsSome, Bool, true, false, cond, List, length, Option, Some, None, refl, ap, ap₂, sym, ◌∙◌, subst, arith}
use Rattle.std.proofs.lemmas.Bool.{eqb-false, eqb-true}
use Rattle.std.proofs.lemmas.Bool.Decides.{nat_tests}
use Rattle.std.specs.FinMap.{get}
use Rattle.std.specs.Option.{option_map}
use Rattle.std.specs.Prelude.{nat_le}
use Rattle.hb_conn.specs.Connection.{Connection}
use Rattle.hb_frames.specs.Numbers.{largest}
use Rattle.hb_kept.specs.Kept.{Fares}
use Rattle.hb_map.proofs.Laws.{put_here, put_elsewhere}
use Rattle.hb_tunnel.specs.Tunnel.{Ways, up_size}
use Rattle.hb_inbound.specs.Inbound as m
use Rattle.hb_inbound.specs.Inbound.{Inbound, at_stream}
use Rattle.hb_inbound.specs.Tunnel as t
use Rattle.hb_inbound.specs.Tunnel.{Tunnel as Machine, is_unanswered, came_up, peer_ended}
use Rattle.hb_inbound.proofs.Admitted.{at_one}
use Rattle.hb_link.specs.declared.link.Link.{Link}
use Rattle.hb_link.specs.declared.tunnel.Tunnel.{Tunnel}
use Rattle.hb_link.specs.Looking.{changed_by, changed_at, takes_up, with_up, came_here, up_ended_here}
use Rattle.hb_link.specs.Settling.{MayLook}
use Rattle.hb_link.specs.Shows.{ShowsBy}
use Rattle.hb_link.specs.Tunnels.{stage_of, tunnel_of, as_told, IsSound, ShowsAt, ShowsTunnel}
use Rattle.hb_link.proofs.Moving.{Map, link_with, machine_with}

-- what is found behind a change
module _ (s : ℕ) (change : Tunnel → Tunnel) (tunnels : Map) where
  pub changed_here : get (changed_at s change tunnels) s ≡ option_map change (get tunnels s)
  changed_here = by (get tunnels s) refl
    where
      by : (o : Option Tunnel) → get tunnels s ≡ o → get (changed_by o s change tunnels) s ≡ option_map change o
      by None is = is
      by (Some k) is = put_here tunnels s (change k)

  pub changed_elsewhere : (j : ℕ) → (j == s) ≡ false → get (changed_at s change tunnels) j ≡ get tunnels j
  changed_elsewhere j apart = by (get tunnels s)
    where
      by : (o : Option Tunnel) → get (changed_by o s change tunnels) j ≡ get tunnels j
      by None = refl
      by (Some k) = put_elsewhere tunnels s (change k) j (eqb-false j s apart)

some_mapped : (change : Tunnel → Tunnel) (o : Option Tunnel) → IsSome (option_map change o) → IsSome o
some_mapped change None some = some
some_mapped change (Some k) some = refl

-- each is shown still, and the numbers are the same
module _ (k : Link) (x : Inbound) (s : ℕ) (change : Tunnel → Tunnel) (moves : Machine → Machine) where
  shows_changed : ((j : ℕ) → ShowsTunnel (get k.tunnels j) (x.tunnels j))
      → ShowsTunnel (option_map change (get k.tunnels s)) (moves (x.tunnels s))
      → (j : ℕ) → ShowsTunnel (get (changed_at s change k.tunnels) j) ((at_stream s moves x).tunnels j)
  shows_changed each here =
      at_one s moves x (λ j y. ShowsTunnel (get (changed_at s change k.tunnels) j) y)
      (subst (λ (o : Option Tunnel). ShowsTunnel o (moves (x.tunnels s))) (sym (changed_here s change k.tunnels)) here)
      (λ j apart. subst (λ (o : Option Tunnel). ShowsTunnel o (x.tunnels j)) (sym (changed_elsewhere s change k.tunnels j apart)) (each j))

  numbered_changed : ((j : ℕ) → IsSome (get k.tunnels j) → j ≤ largest) → (j : ℕ) → IsSome (get (changed_at s change k.tunnels) j)
      → j ≤ largest
  numbered_changed each j some = by (j == s) refl
    where
      by : (b : Bool) → (j == s) ≡ b → j ≤ largest
      by true is =
          let same = eqb-true j s is in
          let there : IsSome (option_map change (get k.tunnels s)) =
          subst (λ (o : Option Tunnel). IsSome o) (changed_here s change k.tunnels)
          (subst (λ (i : ℕ). IsSome (get (changed_at s change k.tunnels) i)) same some) in
          subst (λ (i : ℕ). i ≤ largest) (sym same) (each s (some_mapped change (get k.tunnels s) there))
      by false is = each j (subst (λ (o : Option Tunnel). IsSome o) (changed_elsewhere s change k.tunnels j is) some)

  -- so more may be looked at
  pub changed_looks : MayLook k x → ShowsTunnel (option_map change (get k.tunnels s)) (moves (x.tunnels s))
      → is_unanswered (moves (x.tunnels s)).stage ≡ false
      → MayLook (link_with k.conn (changed_at s change k.tunnels) k) (at_stream s moves x)
  changed_looks may here answered = record {
    agrees = record {
      phase = may.agrees.phase;
      way = subst (λ (phase : m.Phase). ShowsBy phase (link_with k.conn (changed_at s change k.tunnels) k) (at_stream s moves x))
          (sym may.serving) (subst (λ (phase : m.Phase). ShowsBy phase k x) may.serving may.agrees.way);
      tunnels = shows_changed may.agrees.tunnels here;
      numbered = numbered_changed may.agrees.numbered;
    };
    answered = at_one s moves x (λ j y. is_unanswered y.stage ≡ false) answered (λ j apart. may.answered j);
    serving = may.serving;
    fares = may.fares;
  }

-- with another connection that fares
pub looks_with : (k : Link) (x : Inbound) (c : Connection) → MayLook k x → Fares c
    → MayLook (link_with c k.tunnels k) (machine_with c x.tunnels x)
looks_with k x c may fares =
    let way = subst (λ (phase : m.Phase). ShowsBy phase k x) may.serving may.agrees.way in
    record {
      agrees = record {
        phase = may.agrees.phase;
        way = subst (λ (phase : m.Phase). ShowsBy phase (link_with c k.tunnels k) (machine_with c x.tunnels x)) (sym may.serving)
            (refl, fares.kept, way.2, way.3);
        tunnels = may.agrees.tunnels;
        numbered = may.agrees.numbered;
      };
      answered = may.answered;
      serving = may.serving;
      fares = fares;
    }

-- BYTES THAT COME, AND THE END OF THE PEER'S SIDE

sound_same : (stage : t.Stage) (k n : Tunnel) → n.ways.down ≡ k.ways.down → n.up ≡ k.up → IsSound stage k → IsSound stage n
sound_same t.due k n down up sound = down ∙ sound
sound_same t.opening k n down up sound = (subst (λ (u : ℕ). 0 < u) (sym up) sound.0, down ∙ sound.1)
sound_same t.live k n down up sound = subst (λ (u : ℕ). 0 < u) (sym up) sound
sound_same stage k n down up sound = tt

up_fits : (bytes : List ℕ) (k : Tunnel) → k.ways.up.has_ended ≡ false → length k.ways.up.held + length bytes ≤ up_size
    → takes_up bytes k ≡ true
up_fits bytes k goes fits =
    let test : nat_le (length k.ways.up.held + length bytes) up_size ≡ true = grind (arith, nat_tests, fits) in
    ap₂ (λ (a b : Bool). not a && b) goes test

came_stage : (bytes : List ℕ) (k : Tunnel) → (came_here bytes k).stage ≡ k.stage
came_stage bytes k = by (takes_up bytes k)
  where
    by : (b : Bool) → (cond b (with_up bytes k) k).stage ≡ k.stage
    by true = refl
    by false = refl

came_up_number : (bytes : List ℕ) (k : Tunnel) → (came_here bytes k).up ≡ k.up
came_up_number bytes k = by (takes_up bytes k)
  where
    by : (b : Bool) → (cond b (with_up bytes k) k).up ≡ k.up
    by true = refl
    by false = refl

module _ (bytes : List ℕ) (k : Tunnel) (z : Machine) (goes : z.ways.up.has_ended ≡ false)
    (fits : length z.ways.up.held + length bytes ≤ up_size) where
  came_is : z.ways ≡ k.ways → came_here bytes k ≡ with_up bytes k
  came_is same =
      ap (λ (b : Bool). cond b (with_up bytes k) k)
      (up_fits bytes k (sym (ap (λ (w : Ways). w.up.has_ended) same) ∙ goes)
      (subst (λ (w : Ways). length w.up.held + length bytes ≤ up_size) same fits))

  came_told : (stage : t.Stage) → as_told z ≡ tunnel_of k → IsSound stage k
      → (as_told (came_up bytes z) ≡ tunnel_of (came_here bytes k)) × IsSound stage (came_here bytes k)
  came_told stage told sound =
      let same = came_is (ap (λ (v : Machine). v.ways) told) in (
        ap (came_up bytes) told ∙ ap tunnel_of (sym same),
        subst (IsSound stage) (sym same) (sound_same stage k (with_up bytes k) refl refl sound),
      )

  came_at : (stage : t.Stage) → ShowsAt stage k z → ShowsAt stage (came_here bytes k) (came_up bytes z)
  came_at (t.over why) shown = (shown.0, shown.1 ∙ sym (came_up_number bytes k))
  came_at t.unasked shown = came_told t.unasked shown.0 shown.1
  came_at (t.requested headers end) shown = came_told (t.requested headers end) shown.0 shown.1
  came_at (t.refusing status target) shown = came_told (t.refusing status target) shown.0 shown.1
  came_at t.malformed shown = came_told t.malformed shown.0 shown.1
  came_at t.due shown = came_told t.due shown.0 shown.1
  came_at t.opening shown = came_told t.opening shown.0 shown.1
  came_at t.accepting shown = came_told t.accepting shown.0 shown.1
  came_at t.live shown = came_told t.live shown.0 shown.1
  came_at (t.failed why) shown = came_told (t.failed why) shown.0 shown.1
  came_at (t.ended why) shown = came_told (t.ended why) shown.0 shown.1
  came_at t.gone shown = came_told t.gone shown.0 shown.1

pub came_shown : (bytes : List ℕ) (o : Option Tunnel) (z : Machine) → z.ways.up.has_ended ≡ false
    → length z.ways.up.held + length bytes ≤ up_size → ShowsTunnel o z → ShowsTunnel (option_map (came_here bytes) o) (came_up bytes z)
came_shown bytes None z goes fits shown = shown
came_shown bytes (Some k) z goes fits shown =
    subst (λ (stage : t.Stage). ShowsAt stage (came_here bytes k) (came_up bytes z)) (sym (ap stage_of (came_stage bytes k)))
    (came_at bytes k z goes fits (stage_of k.stage) shown)

ended_at : (stage : t.Stage) (k : Tunnel) (z : Machine) → ShowsAt stage k z → ShowsAt stage (up_ended_here k) (peer_ended z)
ended_at (t.over why) k z shown = shown
ended_at t.due k z shown = (ap peer_ended shown.0, shown.1)
ended_at t.opening k z shown = (ap peer_ended shown.0, shown.1)
ended_at t.live k z shown = (ap peer_ended shown.0, shown.1)
ended_at t.unasked k z shown = (ap peer_ended shown.0, tt)
ended_at (t.requested headers end) k z shown = (ap peer_ended shown.0, tt)
ended_at (t.refusing status target) k z shown = (ap peer_ended shown.0, tt)
ended_at t.malformed k z shown = (ap peer_ended shown.0, tt)
ended_at t.accepting k z shown = (ap peer_ended shown.0, tt)
ended_at (t.failed why) k z shown = (ap peer_ended shown.0, tt)
ended_at (t.ended why) k z shown = (ap peer_ended shown.0, tt)
ended_at t.gone k z shown = (ap peer_ended shown.0, tt)

pub ended_shown : (o : Option Tunnel) (z : Machine) → ShowsTunnel o z → ShowsTunnel (option_map up_ended_here o) (peer_ended z)
ended_shown None z shown = shown
ended_shown (Some k) z shown = ended_at (stage_of k.stage) k z shown
