-- A tunnel whose stream got what it gets is left.
use Rattle.std.proofs.Common.{◌≡◌, ◌≢◌, inl, inr, ℕ, ◌+◌, ◌≤◌, ◌<◌, ◌==◌, Bool, true, false, cond, is_some, IsSome, Option, Some, refl, ap, sym, ◌∙◌, subst, arith}
use Rattle.std.proofs.lemmas.Bool.{eqb-false, cond_both, cases_eq}
use Rattle.std.proofs.lemmas.Bool.Decides.{nat_tests}
use Rattle.std.specs.FinMap.{get, insert, remove}
use Rattle.hb_base.specs.declared.cause.Cause.{Cause}
use Rattle.hb_conn.specs.Connection.{Connection}
use Rattle.hb_frames.specs.Numbers.{largest}
use Rattle.hb_kept.specs.Kept.{IsKept}
use Rattle.hb_map.proofs.Laws.{put_here, put_elsewhere, removed_here, removed_elsewhere}
use Rattle.hb_inbound.specs.Inbound as m
use Rattle.hb_inbound.specs.Inbound.{Inbound}
use Rattle.hb_inbound.specs.Runs.{with_tunnel}
use Rattle.hb_inbound.specs.Tunnel as t
use Rattle.hb_inbound.specs.Tunnel.{Tunnel as Machine, at_stage, left_with}
use Rattle.hb_inbound.proofs.Admitted.{at_one}
use Rattle.hb_link.specs.declared.link.Link.{Link}
use Rattle.hb_link.specs.declared.tunnel.Stage.TheVariants.{Over}
use Rattle.hb_link.specs.declared.tunnel.Tunnel.{Tunnel}
use Rattle.hb_link.specs.Answering.{left_of, IsBelow, NoneIs}
use Rattle.hb_link.specs.Settling.{Agrees}
use Rattle.hb_link.specs.Shows.{ShowsBy}
use Rattle.hb_link.specs.Tunnels.{ShowsTunnel}
use Rattle.hb_link.proofs.Moving.{Map, link_with}

-- what holds of a stage that is gone or over holds of it
pub left_stage : (P : t.Stage → Type 0) (why : Cause) (z : Machine) → P t.gone → P (t.over why) → P (left_with why z).stage
left_stage P why z at_gone at_over = cond_both (z.up == 0) t.gone (t.over why) P (λ is. at_gone) (λ is. at_over)

module _ (old : Tunnel) (why : Cause) (tunnels : Map) (s : ℕ) where
  abbrev over_here : Tunnel
  over_here = record old { stage = Over why }

  -- the code shows it
  left_shown : (z : Machine) → z.up ≡ old.up → ShowsTunnel (get (left_of old why tunnels s) s) (left_with why z)
  left_shown z up =
      subst (λ (n : ℕ). ShowsTunnel (get (left_of old why tunnels s) s) (at_stage (cond (n == 0) t.gone (t.over why)) z)) (sym up)
      (by (old.up == 0))
    where
      by : (b : Bool)
          → ShowsTunnel (get (cond b (remove tunnels s) (insert tunnels s over_here)) s) (at_stage (cond b t.gone (t.over why)) z)
      by true = subst (λ (o : Option Tunnel). ShowsTunnel o (at_stage t.gone z)) (sym (removed_here tunnels s)) (inr refl)
      by false =
          subst (λ (o : Option Tunnel). ShowsTunnel o (at_stage (t.over why) z)) (sym (put_here tunnels s over_here)) (refl, up)

  -- the others stay
  left_others : (j : ℕ) → j ≢ s → get (left_of old why tunnels s) j ≡ get tunnels j
  left_others j apart =
      cond_both (old.up == 0) (remove tunnels s) (insert tunnels s over_here) (λ (map : Map). get map j ≡ get tunnels j)
      (λ is. removed_elsewhere tunnels s j apart) (λ is. put_elsewhere tunnels s over_here j apart)

  left_numbered : ((j : ℕ) → IsSome (get tunnels j) → j ≤ largest) → IsSome (get tunnels s) → (j : ℕ)
      → IsSome (get (left_of old why tunnels s) j) → j ≤ largest
  left_numbered each there j some = elim (cases_eq j s) [
    | inl same ↦ subst (λ (i : ℕ). i ≤ largest) (sym same) (each s there)
    | inr apart ↦ each j (sym (ap is_some (left_others j apart)) ∙ some)
  ]

-- of a connection that goes on it is known that it is kept; any other one stays
module _ (k : Link) (x : Inbound) (c d : Connection) where
  abbrev pub StaysBy : m.Phase → Type 0
  StaysBy m.serving = (d ≡ c) × IsKept d
  StaysBy phase = (c ≡ k.conn) × (d ≡ x.conn)

  way_left : (phase : m.Phase) (tunnels : Map) (others : ℕ → Machine) → ShowsBy phase k x → StaysBy phase
      → ShowsBy phase (link_with c tunnels k) (record x { conn = d; tunnels = others })
  way_left m.fronting tunnels others shows stays = (shows.0, stays.0 ∙ shows.1)
  way_left m.serving tunnels others shows stays = (stays.0, stays.1, shows.2, shows.3)
  way_left (m.faulted code) tunnels others shows stays = stays.1 ∙ shows ∙ sym stays.0
  way_left phase tunnels others shows stays = tt

-- the connection that was there stays
pub same_stays : (phase : m.Phase) (k : Link) (x : Inbound) → ShowsBy phase k x → StaysBy k x k.conn x.conn phase
same_stays m.serving k x shows = (shows.0, shows.1)
same_stays phase k x shows = (refl, refl)

module _ (k : Link) (x : Inbound) (agrees : Agrees k x) (s : ℕ) (old : Tunnel) (is : get k.tunnels s ≡ Some old)
    (up : (x.tunnels s).up ≡ old.up) (why : Cause) (c d : Connection) (stays : StaysBy k x c d x.phase) where
  abbrev y : Inbound
  y = with_tunnel s (left_with why (x.tunnels s)) d x

  pub agrees_left : Agrees (link_with c (left_of old why k.tunnels s) k) (with_tunnel s (left_with why (x.tunnels s)) d x)
  agrees_left = record {
    phase = agrees.phase;
    way = way_left k x c d x.phase (left_of old why k.tunnels s) y.tunnels agrees.way stays;
    tunnels = at_one s (λ z. left_with why (x.tunnels s)) x (λ j z. ShowsTunnel (get (left_of old why k.tunnels s) j) z)
        (left_shown old why k.tunnels s (x.tunnels s) up)
        (λ j apart.
        subst (λ (o : Option Tunnel). ShowsTunnel o (x.tunnels j)) (sym (left_others old why k.tunnels s j (eqb-false j s apart)))
        (agrees.tunnels j));
    numbered = left_numbered old why k.tunnels s agrees.numbered (ap is_some is);
  }

-- a stage that no such tunnel is at
module _ (is : t.Stage → Bool) (gone : is t.gone ≡ false) (x : Inbound) (s : ℕ) (why : Cause) (over : is (t.over why) ≡ false)
    (d : Connection) where
  pub none_left : (to : Option ℕ) → NoneIs is to x → NoneIs is to (with_tunnel s (left_with why (x.tunnels s)) d x)
  none_left to none =
      at_one s (λ z. left_with why (x.tunnels s)) x (λ j z. IsBelow to j → is z.stage ≡ false)
      (λ below. left_stage (λ stage. is stage ≡ false) why (x.tunnels s) gone over) (λ j apart. none j)

  pub one_left : NoneIs is (Some s) x → NoneIs is (Some (s + 1)) (with_tunnel s (left_with why (x.tunnels s)) d x)
  one_left none =
      at_one s (λ z. left_with why (x.tunnels s)) x (λ j z. j < s + 1 → is z.stage ≡ false)
      (λ below. left_stage (λ stage. is stage ≡ false) why (x.tunnels s) gone over)
      (λ j apart below. none j (grind (arith, nat_tests, apart, below)))
