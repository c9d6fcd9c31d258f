-- What the law of links seen refuses.
use Rattle.std.proofs.Common.{◌≡◌, inl, inr, Bool, true, false, refl, ap, sym, ◌∙◌, subst, arith}
use Rattle.std.proofs.lemmas.Bool.{false≢true}
use Rattle.hb_captured.specs.Captured as plain
use Rattle.hb_inbound.specs.Tunnel.{Tunnel, Stage, opening, live}
use Rattle.hb_proxy.specs.Machine.{Machine, fresh}
use Rattle.hb_proxy.specs.Seen.{IsLinkThere, IsPlainThere, IsPlainThereBy, UpOpenBy, RelayOpenBy, HasLink}
use Rattle.hb_proxy.specs.SeenRefused.{HasTunnel, UpUnborn, ShutUntold, OpenUnheard, KeepsClosed, HasNone}
use Rattle.hb_proxy.specs.SeenRefused.{HasRelay, RelayUnborn, PlainShutUntold, RelayShutUntold, RelayOpenUnheard, KeepsPlainClosed, KeepsRelayClosed, SharesRelay, IsBoth}
use Rattle.hb_proxy.specs.Ups.{up_by, Joins, IsRelayOf}

-- A TUNNEL

-- link 2 is the upstream of that tunnel
joins : (x : Machine) (stage : Stage) (shut : Bool) → HasTunnel x stage shut → ((t : Tunnel) → up_by stage t ≡ t.up)
    → Joins ((x.inbound 1).tunnels 1) 2
joins x stage shut has ups =
    let t = (x.inbound 1).tunnels 1 in
    (omega arith, ap (λ (s : Stage). up_by s t) has.0 ∙ ups t ∙ has.1)

pub up_unborn : UpUnborn
up_unborn x has seen = false≢true (seen.up 1 1 2 (joins x live false has (λ t. refl))).0

pub shut_untold : ShutUntold
shut_untold x to has seen = false≢true ((seen.up 1 1 2 (joins x live true has (λ t. refl))).1 ∙ has.2)

pub open_unheard : OpenUnheard
open_unheard x to has seen =
    false≢true (sym (subst (λ (s : Stage). UpOpenBy s true) has.0 (seen.up 1 1 2 (joins x opening false has (λ t. refl))).2))

pub keeps_closed : KeepsClosed
keeps_closed x why is seen = false≢true (seen.link 1 (subst IsLinkThere (sym is) tt)).0

pub has_none : HasNone
has_none g d seen = by (seen.has 1 refl)
  where
    by : HasLink (record (fresh g) { born = 1 }) 1 → ⊥
    by (inl there) = there
    by (inr (inl there)) = there
    by (inr (inr (inl (k, s, (some, is))))) = omega (arith, is)
    by (inr (inr (inr (inl (inl there))))) = there
    by (inr (inr (inr (inl (inr (k, (some, is))))))) = omega (arith, some, is)
    by (inr (inr (inr (inr there)))) = there

-- A PLAIN LINK

-- it is there, and link 2 is its upstream
is_there : (x : Machine) → HasRelay x plain.live → IsPlainThere (x.plain 1)
is_there x has = subst (λ (s : plain.Stage). IsPlainThereBy s (x.plain 1).closed) (sym has.stage_is) has.going

is_relay : (x : Machine) (stage : plain.Stage) → HasRelay x stage → IsRelayOf (x.plain 1) 2
is_relay x stage has = (omega arith, has.up)

pub relay_unborn : RelayUnborn
relay_unborn x has seen = false≢true (seen.plain.up 1 2 (is_relay x plain.live has)).0

pub plain_shut_untold : PlainShutUntold
plain_shut_untold x to has shut seen = false≢true (seen.plain.link_shut 1 (is_there x has) ∙ shut)

pub relay_shut_untold : RelayShutUntold
relay_shut_untold x to has shut seen = false≢true ((seen.plain.up 1 2 (is_relay x plain.live has)).1 ∙ shut)

pub relay_open_unheard : RelayOpenUnheard
relay_open_unheard x to has seen =
    false≢true (sym (subst (λ (s : plain.Stage). RelayOpenBy s true) has.stage_is (seen.plain.up 1 2 (is_relay x plain.opening has)).2))

pub keeps_plain_closed : KeepsPlainClosed
keeps_plain_closed x why has seen = false≢true (seen.plain.link 1 (is_there x has)).0

pub keeps_relay_closed : KeepsRelayClosed
keeps_relay_closed x to why has seen = false≢true (seen.plain.up 1 2 (is_relay x plain.live has)).0

pub shares_relay : SharesRelay
shares_relay x trace k has other up seen = other (seen.plain.one_up k 1 2 (omega arith, up) (is_relay x plain.live has))

pub is_both : IsBoth
is_both x trace has serves seen =
    (seen.plain.link_alone 1 (is_there x has)).1 (subst IsLinkThere (sym serves) tt)
