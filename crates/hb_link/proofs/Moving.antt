-- A link on which one tunnel changes, shown again.
use Rattle.std.proofs.Common.{◌≡◌, inl, inr, ⊎_elim, ℕ, ◌≤◌, is_some, IsSome, ◌==◌, Bool, true, false, cond, Option, Some, None, nat_cmp, refl, ap, sym, ◌∙◌, subst}
use Rattle.std.proofs.lemmas.Bool.{false≢true, eqb-false, eq-eqb, cases_eq, eqb-true}
use Rattle.std.specs.FinMap.{FinMap, get, insert}
use Rattle.hb_conn.specs.Connection.{Connection}
use Rattle.hb_conn.specs.Observed.{IsLookedAt}
use Rattle.hb_frames.specs.Numbers.{largest}
use Rattle.hb_kept.specs.Kept.{IsKept}
use Rattle.hb_map.proofs.Laws.{put_here, put_elsewhere}
use Rattle.hb_inbound.specs.Calm.{RestsIn, Rests}
use Rattle.hb_inbound.specs.Inbound as m
use Rattle.hb_inbound.specs.Inbound.{Inbound, at_stream}
use Rattle.hb_inbound.specs.Tunnel as t
use Rattle.hb_inbound.specs.Tunnel.{Tunnel as Machine, is_unanswered}
use Rattle.hb_inbound.proofs.Admitted.{at_one}
use Rattle.hb_link.specs.declared.link.Link.{Link}
use Rattle.hb_link.specs.declared.tunnel.Tunnel.{Tunnel}
use Rattle.hb_link.specs.Shows.{Shows, ShowsBy}
use Rattle.hb_link.specs.Tunnels.{stage_of, tunnel_of, as_told, IsSound, ShowsAt, ShowsTunnel}

abbrev pub Map : Type 0
Map = FinMap nat_cmp Tunnel

-- the code has a tunnel for each that waits for its upstream, or lives
abbrev pub is_here : t.Stage → Bool
is_here t.due = true
is_here t.opening = true
is_here t.live = true
is_here _ = false

pub record Here (o : Option Tunnel) (x : Machine) : Type 0 where
  pub tunnel : Tunnel
  pub is : o ≡ Some tunnel
  pub shows : as_told x ≡ tunnel_of tunnel
  pub sound : IsSound (stage_of tunnel.stage) tunnel

nowhere : {A : Type 0} (x : Machine) (stage : t.Stage) → is_here stage ≡ false → x.stage ≡ stage → is_here x.stage ≡ true → A
nowhere x stage never is there = absurd (false≢true (sym never ∙ ap is_here (sym is) ∙ there))

here_at : (stage : t.Stage) (k : Tunnel) (x : Machine) → ShowsAt stage k x → is_here x.stage ≡ true
    → (as_told x ≡ tunnel_of k) × IsSound stage k
here_at (t.over why) k x shown there = nowhere x (t.over why) refl shown.0 there
here_at stage k x shown there = shown

pub here : (o : Option Tunnel) (x : Machine) → ShowsTunnel o x → is_here x.stage ≡ true → Here o x
here None x shown there =
    ⊎_elim (λ (is : x.stage ≡ t.unasked). nowhere x t.unasked refl is there)
    (λ (is : x.stage ≡ t.gone). nowhere x t.gone refl is there) shown
here (Some k) x shown there =
    let found = here_at (stage_of k.stage) k x shown there in record { tunnel = k; is = refl; shows = found.0; sound = found.1 }

-- it is the one that the code finds, and it finds one
same_tunnel : (k : Link) (s : ℕ) (old there : Tunnel) → get k.tunnels s ≡ Some old → get k.tunnels s ≡ Some there → there ≡ old
same_tunnel k s old there is found = let both : Some there ≡ Some old = sym found ∙ is in cc

-- what the code finds on the stream of such a tunnel
pub record Finds (old : Tunnel) (x : Machine) : Type 0 where
  pub told : as_told x ≡ tunnel_of old
  pub stage : x.stage ≡ stage_of old.stage
  pub sound : IsSound x.stage old

pub finds : (k : Link) (s : ℕ) (x : Inbound) (old : Tunnel) → Shows k x → get k.tunnels s ≡ Some old → is_here (x.tunnels s).stage ≡ true
    → Finds old (x.tunnels s)
finds k s x old shows is there =
    let found = here (get k.tunnels s) (x.tunnels s) (shows.tunnels s) there in
    let same = same_tunnel k s old found.tunnel is found.is in
    let told = found.shows ∙ ap tunnel_of same in
    let stage = ap (λ (y : Machine). y.stage) told in
    record {
      told = told;
      stage = stage;
      sound = subst (λ (at : t.Stage). IsSound at old) (sym stage) (subst (λ (k : Tunnel). IsSound (stage_of k.stage) k) same found.sound);
    }

-- with another connection, and other tunnels
abbrev pub link_with : Connection → Map → Link → Link
link_with c tunnels k = record k { conn = c; tunnels = tunnels }

abbrev pub machine_with : Connection → (ℕ → Machine) → Inbound → Inbound
machine_with d tunnels x = record x { conn = d; tunnels = tunnels }

module _ (k : Link) (x : Inbound) (c d : Connection) (tunnels : Map) (others : ℕ → Machine) where
  -- of a connection that goes on it is known that it is kept, and rests; any other one stays
  abbrev pub WayBy : m.Phase → Type 0
  WayBy m.serving = (d ≡ c) × IsKept d × IsLookedAt d × ((s : ℕ) → Rests d s (others s))
  WayBy phase = (c ≡ k.conn) × (d ≡ x.conn)

  shows_by : (phase : m.Phase) → ShowsBy phase k x → WayBy phase
      → ShowsBy phase (link_with c tunnels k) (machine_with d others x)
  shows_by m.fronting shows way = (shows.0, way.0 ∙ shows.1)
  shows_by m.serving shows way = (way.0, way.1, shows.2, shows.3)
  shows_by (m.faulted code) shows way = way.1 ∙ shows ∙ sym way.0
  shows_by phase shows way = tt

  rests_by : (phase : m.Phase) → RestsIn phase x → WayBy phase → RestsIn phase (machine_with d others x)
  rests_by m.arriving rests way = rests
  rests_by m.fronting rests way = rests
  rests_by m.serving rests way = (way.2, way.3)
  rests_by phase rests way = tt

  pub shown : Shows k x → ((s : ℕ) → ShowsTunnel (get tunnels s) (others s)) → ((s : ℕ) → IsSome (get tunnels s) → s ≤ largest)
      → ((s : ℕ) → is_unanswered (others s).stage ≡ false)
      → WayBy x.phase → Shows (link_with c tunnels k) (machine_with d others x)
  shown shows each numbered answered way = record {
    phase = shows.phase;
    way = shows_by x.phase shows.way way;
    tunnels = each;
    numbered = numbered;
    calm = record { answered = answered; rests = rests_by x.phase shows.calm.rests way };
  }

-- one tunnel changes
module _ (x : Inbound) (s : ℕ) (new : Tunnel) (change : Machine → Machine) where
  pub tunnels_at : (tunnels : Map) → ShowsTunnel (Some new) (change (x.tunnels s))
      → ((j : ℕ) → ShowsTunnel (get tunnels j) (x.tunnels j)) → (j : ℕ)
      → ShowsTunnel (get (insert tunnels s new) j) ((at_stream s change x).tunnels j)
  tunnels_at tunnels shown each =
      at_one s change x (λ j y. ShowsTunnel (get (insert tunnels s new) j) y)
      (subst (λ (o : Option Tunnel). ShowsTunnel o (change (x.tunnels s))) (sym (put_here tunnels s new)) shown)
      (λ j apart.
      subst (λ (o : Option Tunnel). ShowsTunnel o (x.tunnels j)) (sym (put_elsewhere tunnels s new j (eqb-false j s apart))) (each j))

  pub answered_at : is_unanswered (change (x.tunnels s)).stage ≡ false → ((j : ℕ) → is_unanswered (x.tunnels j).stage ≡ false) → (j : ℕ)
      → is_unanswered ((at_stream s change x).tunnels j).stage ≡ false
  answered_at now each = at_one s change x (λ j y. is_unanswered y.stage ≡ false) now (λ j apart. each j)

-- the numbers are the same
pub numbered_at : (tunnels : Map) (s : ℕ) (new : Tunnel) → ((j : ℕ) → IsSome (get tunnels j) → j ≤ largest) → IsSome (get tunnels s)
    → (j : ℕ) → IsSome (get (insert tunnels s new) j) → j ≤ largest
numbered_at tunnels s new each there j some = elim (cases_eq j s) [
  | inl same ↦ subst (λ (i : ℕ). i ≤ largest) (sym same) (each s there)
  | inr apart ↦ each j (sym (ap is_some (put_elsewhere tunnels s new j apart)) ∙ some)
]

-- the connection stays
module _ (k : Link) (x : Inbound) (s : ℕ) (new : Tunnel) (change : Machine → Machine) where
  way_at : (phase : m.Phase) → ShowsBy phase k x → RestsIn phase x → Rests x.conn s (change (x.tunnels s))
      → WayBy k x k.conn x.conn (insert k.tunnels s new) (at_stream s change x).tunnels phase
  way_at m.serving shows rests now =
      (shows.0, shows.1, rests.0, at_one s change x (λ j y. Rests x.conn j y) now (λ j apart. rests.1 j))
  way_at phase shows rests now = (refl, refl)

  pub at_rest : Shows k x → IsSome (get k.tunnels s) → ShowsTunnel (Some new) (change (x.tunnels s))
      → is_unanswered (change (x.tunnels s)).stage ≡ false
      → Rests x.conn s (change (x.tunnels s)) → Shows (link_with k.conn (insert k.tunnels s new) k) (at_stream s change x)
  at_rest shows there tunnel answered now =
      shown k x k.conn x.conn (insert k.tunnels s new) (at_stream s change x).tunnels shows
      (tunnels_at x s new change k.tunnels tunnel shows.tunnels) (numbered_at k.tunnels s new shows.numbered there)
      (answered_at x s new change answered shows.calm.answered)
      (way_at x.phase shows.way shows.calm.rests now)

-- tunnels that are the same but for one, which is this one
pub record Only (s : ℕ) (old : ℕ → Machine) (z : Machine) (new : ℕ → Machine) : Type 0 where
  pub this : new s ≡ z
  pub others : (j : ℕ) → (j == s) ≡ false → new j ≡ old j

pub only_one : (s : ℕ) (change : Machine → Machine) (x : Inbound) → Only s x.tunnels (change (x.tunnels s)) (at_stream s change x).tunnels
only_one s change x = record {
  this = ap (λ (b : Bool). cond b (change (x.tunnels s)) (x.tunnels s)) (eq-eqb s s refl);
  others = λ j apart. ap (λ (b : Bool). cond b (change (x.tunnels j)) (x.tunnels j)) apart;
}

-- it changes again
pub only_again : (s : ℕ) (old : ℕ → Machine) (z : Machine) (y : Inbound) (change : Machine → Machine) → Only s old z y.tunnels
    → Only s old (change z) (at_stream s change y).tunnels
only_again s old z y change only = record {
  this = (only_one s change y).this ∙ ap change only.this;
  others = λ j apart. (only_one s change y).others j apart ∙ only.others j apart;
}

pub at_only : (s : ℕ) (old : ℕ → Machine) (z : Machine) (new : ℕ → Machine) (P : ℕ → Machine → Type 0) → Only s old z new → P s z
    → ((j : ℕ) → (j == s) ≡ false → P j (old j)) → (j : ℕ) → P j (new j)
at_only s old z new P only now others j = by (j == s) refl
  where
    by : (b : Bool) → (j == s) ≡ b → P j (new j)
    by true is = subst (λ (i : ℕ). P i (new i)) (sym (eqb-true j s is)) (subst (P s) (sym only.this) now)
    by false is = subst (P j) (sym (only.others j is)) (others j is)

-- a link that serves, with another connection, and another tunnel on a stream
module _ (k : Link) (x : Inbound) (shows : Shows k x) (s : ℕ) (new : Tunnel) (z : Machine) (c d : Connection) (others : ℕ → Machine) where
  pub serves_on : x.phase ≡ m.serving → IsSome (get k.tunnels s) → Only s x.tunnels z others → ShowsTunnel (Some new) z
      → is_unanswered z.stage ≡ false → d ≡ c → IsKept d → IsLookedAt d → Rests d s z
      → ((j : ℕ) → (j == s) ≡ false → Rests d j (x.tunnels j))
      → Shows (link_with c (insert k.tunnels s new) k) (machine_with d others x)
  serves_on serving there only tunnel answered conn kept looked now rests =
      shown k x c d (insert k.tunnels s new) others shows
      (at_only s x.tunnels z others (λ j y. ShowsTunnel (get (insert k.tunnels s new) j) y) only
      (subst (λ (o : Option Tunnel). ShowsTunnel o z) (sym (put_here k.tunnels s new)) tunnel)
      (λ j apart.
      subst (λ (o : Option Tunnel). ShowsTunnel o (x.tunnels j)) (sym (put_elsewhere k.tunnels s new j (eqb-false j s apart)))
      (shows.tunnels j)))
      (numbered_at k.tunnels s new shows.numbered there)
      (at_only s x.tunnels z others (λ j y. is_unanswered y.stage ≡ false) only answered (λ j apart. shows.calm.answered j))
      (subst (λ (phase : m.Phase). WayBy k x c d (insert k.tunnels s new) others phase) (sym serving)
      (conn, kept, looked, at_only s x.tunnels z others (λ j y. Rests d j y) only now rests))
