-- Links of which no tunnel is in a class: nothing is left to be done for it.
use Rattle.std.proofs.Common.{◌≡◌, ℕ, ◌<◌, ◌==◌, ◌^◌, ◌&&◌, ◌||◌, not, Bool, true, false, [], length, Option, Some, None, IsSome, refl, ap, ap₂, sym, ◌∙◌, subst, arith}
use Rattle.std.proofs.lemmas.Bool.{false≢true, or_parts}
use Rattle.std.specs.Prelude.{⊤, nat_lt}
use Rattle.std.proofs.lemmas.Bool.Decides.{nat_tests}
use Rattle.std.proofs.lemmas.List.{nil_from_length}
use Rattle.std.specs.FinMap.{get}
use Rattle.hb_conn.specs.Connection.{Connection}
use Rattle.hb_conn.specs.Observed.{output, count_put, end_waits}
use Rattle.hb_counted.specs.declared.classes.Classes.{Classes}
use Rattle.hb_counted.specs.Classes.{classes_in, how_many}
use Rattle.hb_counted.specs.Starts.{IsStart}
use Rattle.hb_counted.proofs.Keeping.{none_in}
use Rattle.hb_counted.proofs.Starting.{none_before}
use Rattle.hb_map.specs.Keyed.{IsFirstFrom}
use Rattle.hb_tunnel.specs.Tunnel.{Ways}
use Rattle.hb_tunnel.specs.Way.{is_done}
use Rattle.hb_inbound.specs.Calm.{data_waits, LiveRests, Rests, RestsBy}
use Rattle.hb_inbound.specs.Inbound as m
use Rattle.hb_inbound.specs.Inbound.{Inbound}
use Rattle.hb_kept.proofs.Shut.{waiting_shuts}
use Rattle.hb_inbound.specs.Tunnel as t
use Rattle.hb_inbound.specs.Tunnel.{Tunnel as Machine, is_unanswered}
use Rattle.hb_link.specs.declared.link.Link.{Link}
use Rattle.hb_link.specs.declared.tunnel.Stage.{Stage}
use Rattle.hb_link.specs.declared.tunnel.Stage.TheVariants.{Due, Opening, Live, Failed, Ended, Over}
use Rattle.hb_link.specs.declared.tunnel.Tunnel.{Tunnel}
use Rattle.hb_link.specs.Answering.{Gives}
use Rattle.hb_link.specs.Classing.{end_may_go, classes_by, classes_here}
use Rattle.hb_link.specs.Noted.{Told}
use Rattle.hb_link.specs.Observed.{serves_in}
use Rattle.hb_link.specs.Putting.{PutsBelow}
use Rattle.hb_link.specs.Settling.{Agrees, GotAll, MayPut}
use Rattle.hb_link.specs.Shows.{ShowsBy, Shows}
use Rattle.hb_link.specs.Tunnels.{stage_of, tunnel_of, as_told, ShowsAt, ShowsTunnel}
use Rattle.hb_link.proofs.Classed.{class_at, none_marked}
use Rattle.hb_link.proofs.Opening.{nothing_goes}
use Rattle.hb_link.proofs.PutsOn.{rest_on, stage_at, none_rests, begins, anew, ends}
use Rattle.hb_link.proofs.Loads.{place_of, none_between}
use Rattle.hb_link.proofs.Shown.{stage_tunnel}
use Rattle.hb_link.proofs.Turns.{gives_same, at_answered}

-- NOTHING MAY BE PUT

no_end : (down put up waits : Bool) → (down && (not put || up)) ≡ false → (down && not put && not waits) ≡ false
no_end false put up waits is = refl
no_end true false up waits is = absurd (false≢true (sym is))
no_end true true up waits is = refl

not_over : (up down put waits : Bool) → (down && (not put || up)) ≡ false → (up && down && put && not waits) ≡ false
not_over false down put waits is = refl
not_over true false put waits is = refl
not_over true true false waits is = refl
not_over true true true waits is = absurd (false≢true (sym is))

-- of a tunnel that lives no byte goes, and its end doesn't follow
abbrev Still : Connection → ℕ → Stage → Tunnel → Type 0
Still c s Live k = (count_put c s k.ways.down.held ≡ 0) × (end_may_go k ≡ false)
Still c s stage k = ⊤

module _ (c : Connection) (s : ℕ) (k : Tunnel) (at : Machine) where
  live_rests : count_put c s k.ways.down.held ≡ 0 → end_may_go k ≡ false → as_told at ≡ tunnel_of k → LiveRests c s at
  live_rests none still told =
      let ways : at.ways ≡ k.ways = ap (λ (x : Machine). x.ways) told in
      let put : at.end_put ≡ k.end_put = ap (λ (x : Machine). x.end_put) told in
      record {
        given_back = ap (λ (x : Machine). x.owed) told;
        none_goes = ap (λ (w : Ways). count_put c s w.down.held) ways ∙ none;
        not_ended = ap₂ (λ (w : Ways) (e : Bool). is_done w.down && not e && not (data_waits c s)) ways put
            ∙ no_end (is_done k.ways.down) k.end_put (is_done k.ways.up) (data_waits c s) still;
        not_done = ap₂ (λ (w : Ways) (e : Bool). is_done w.up && is_done w.down && e && not (end_waits c s)) ways put
            ∙ not_over (is_done k.ways.up) (is_done k.ways.down) k.end_put (end_waits c s) still;
      }

  rests_by : (stage : Stage) → k.stage ≡ stage → Still c s stage k → ShowsAt (stage_of stage) k at → Rests c s at
  rests_by Live is still shown =
      subst (λ (stage : t.Stage). RestsBy stage c s at) (sym (ap (λ (x : Machine). x.stage) shown.0 ∙ ap stage_of is))
      (live_rests still.0 still.1 shown.0)
  rests_by Due is still shown = rest_on c s at t.due (stage_at t.due k at (ap stage_of (sym is)) shown) refl
  rests_by Opening is still shown = rest_on c s at t.opening (stage_at t.opening k at (ap stage_of (sym is)) shown) refl
  rests_by (Failed why) is still shown = rest_on c s at (t.failed why) (stage_at (t.failed why) k at (ap stage_of (sym is)) shown) refl
  rests_by (Ended why) is still shown = rest_on c s at (t.ended why) (stage_at (t.ended why) k at (ap stage_of (sym is)) shown) refl
  rests_by (Over why) is still shown = rest_on c s at (t.over why) (stage_at (t.over why) k at (ap stage_of (sym is)) shown) refl

abbrev StillIn : Connection → ℕ → Option Tunnel → Type 0
StillIn c s None = ⊤
StillIn c s (Some k) = Still c s k.stage k

rests_in : (o : Option Tunnel) (c : Connection) (s : ℕ) (at : Machine) → ShowsTunnel o at → StillIn c s o → Rests c s at
rests_in None c s at shown still = none_rests None c s at refl shown
rests_in (Some k) c s at shown still = rests_by c s k at k.stage refl still shown

-- nothing may be put of it
still_put : (c : Connection) (s : ℕ) (stage : Stage) (k : Tunnel) → (classes_by stage k).puts ≡ false → Still c s stage k
still_put c s Live k none =
    let parts = or_parts (not (length k.ways.down.held == 0)) (end_may_go k) none in
    let held : k.ways.down.held ≡ [] = nil_from_length k.ways.down.held (grind (arith, nat_tests, parts.0)) in
    (ap (count_put c s) held ∙ nothing_goes c s, parts.1)
still_put c s Due k none = tt
still_put c s Opening k none = tt
still_put c s (Failed why) k none = tt
still_put c s (Ended why) k none = tt
still_put c s (Over why) k none = tt

still_put_in : (c : Connection) (s : ℕ) (o : Option Tunnel) → (classes_in classes_here o).puts ≡ false → StillIn c s o
still_put_in c s None none = tt
still_put_in c s (Some k) none = still_put c s k.stage k none

-- something waits to be written, and its end doesn't follow
still_end : (c : Connection) (s : ℕ) → 0 < length (output c) → (stage : Stage) (k : Tunnel) → (classes_by stage k).ends ≡ false
    → Still c s stage k
still_end c s some Live k none = (waiting_shuts c some s k.ways.down.held, none)
still_end c s some Due k none = tt
still_end c s some Opening k none = tt
still_end c s some (Failed why) k none = tt
still_end c s some (Ended why) k none = tt
still_end c s some (Over why) k none = tt

still_end_in : (c : Connection) (s : ℕ) → 0 < length (output c) → (o : Option Tunnel) → (classes_in classes_here o).ends ≡ false
    → StillIn c s o
still_end_in c s some None none = tt
still_end_in c s some (Some k) none = still_end c s some k.stage k none

-- nothing may be put in front of the first of those of which something may
pub starts_rest : (k : Link) (start : ℕ) (first : Option ℕ) → IsStart start (λ n. (class_at k.tunnels n).puts)
    → IsFirstFrom k.tunnels start first → (x : Inbound) → PutsBelow 0 0 k x → PutsBelow 0 (place_of first) k x
starts_rest k start first is from x below = record {
  may = below.may;
  serves = below.serves;
  below = λ s low less. by s less (nat_lt s start) refl;
}
  where
    by : (s : ℕ) → s < place_of first → (b : Bool) → nat_lt s start ≡ b → Rests x.conn s (x.tunnels s)
    by s less true front =
        rests_in (get k.tunnels s) x.conn s (x.tunnels s) (below.may.agrees.tunnels s)
        (still_put_in x.conn s (get k.tunnels s)
        (none_before (λ n. (class_at k.tunnels n).puts) start is s (grind (arith, nat_tests, front))))
    by s less false behind =
        none_rests (get k.tunnels s) x.conn s (x.tunnels s)
        (none_between k.tunnels start first from s (grind (arith, nat_tests, behind)) less) (below.may.agrees.tunnels s)

module _ (k : Link) (narrow : (n : ℕ) → IsSome (get k.tunnels n) → n < 2 ^ 32) where
  all_rest : ((x : Inbound) → PutsBelow 0 0 k x → (s : ℕ) → StillIn x.conn s (get k.tunnels s)) → (x : Inbound) → PutsBelow 0 0 k x
      → Shows k x
  all_rest still x below = ends k x (record {
    may = below.may;
    serves = below.serves;
    below = λ s low less. rests_in (get k.tunnels s) x.conn s (x.tunnels s) (below.may.agrees.tunnels s) (still x below s);
  })

  pub none_left : how_many (λ n. (class_at k.tunnels n).puts) ≡ 0 → (n : ℕ) (x : Inbound) → PutsBelow 0 n k x → Shows k x
  none_left none n x below =
      all_rest (λ x below s.
      still_put_in x.conn s (get k.tunnels s) (none_in classes_here (λ (c : Classes). c.puts) k.tunnels refl narrow none s))
      x (anew k 0 n 0 x below)

  pub none_puts : how_many (λ n. (class_at k.tunnels n).puts) ≡ 0 → serves_in k.phase ≡ true → (x : Inbound) → MayPut k x → Shows k x
  none_puts none serves x may = none_left none 0 x (begins k serves x may)

  -- where something waits to be written no byte goes, and no end follows
  pub none_ends : how_many (λ n. (class_at k.tunnels n).ends) ≡ 0 → 0 < length (output k.conn) → (x : Inbound) → PutsBelow 0 0 k x
      → Shows k x
  none_ends none waits =
      all_rest (λ x below s.
      still_end_in x.conn s (subst (λ (c : Connection). 0 < length (output c)) (sym (conn_is x below)) waits) (get k.tunnels s)
      (none_in classes_here (λ (c : Classes). c.ends) k.tunnels refl narrow none s))
    where
      conn_is : (x : Inbound) → PutsBelow 0 0 k x → x.conn ≡ k.conn
      conn_is x below = (subst (λ (phase : m.Phase). ShowsBy phase k x) below.serves below.may.agrees.way).0

  -- NONE IS MARKED

  pub none_answered : how_many (λ n. (class_at k.tunnels n).marked) ≡ 0 → (told : Told) → Gives Agrees GotAll k told k told
  none_answered none told =
      gives_same Agrees GotAll k told (λ x agrees.
      record {
        agrees = agrees;
        answered = λ s.
            let not_marked = none_marked k narrow none s in
            sym (stage_tunnel is_unanswered refl refl (λ why. refl) (get k.tunnels s) (x.tunnels s) (agrees.tunnels s))
            ∙ at_answered (get k.tunnels s) not_marked.0 not_marked.1;
      })
