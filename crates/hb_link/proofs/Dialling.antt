-- The answers to the dials of upstreams.
use Rattle.std.proofs.Common.{◌≡◌, ℕ, [], Some, is_some, refl, ap, sym, subst, inr}
use Rattle.std.specs.FinMap.{get, insert}
use Rattle.hb_base.specs.declared.door.Why.{Why}
use Rattle.hb_base.specs.declared.target.Target.{Target}
use Rattle.hb_world.specs.declared.entry.Entry.TheVariants as e
use Rattle.hb_inbound.specs.Runs.{Local}
use Rattle.hb_inbound.specs.Tunnel as t
use Rattle.hb_inbound.specs.Tunnel.{Tunnel as Machine, up_entered}
use Rattle.hb_link.specs.declared.link.Link.{Link}
use Rattle.hb_link.specs.declared.tunnel.Stage.TheVariants.{Opening}
use Rattle.hb_link.specs.declared.tunnel.Tunnel.{Tunnel}
use Rattle.hb_link.specs.Calls.{UpEnters}
use Rattle.hb_link.specs.Shows.{Shows}
use Rattle.hb_link.specs.Tunnels.{IsSound}
use Rattle.hb_link.proofs.Moving.{finds, is_here, link_with, at_rest}

module _ (k : Link) (s u : ℕ) (to : Target) (why : Why) where
  pub dialled : (old : Tunnel) → get k.tunnels s ≡ Some old
      → UpEnters s (e.Dialled u to why) k (Some []) (link_with k.conn (insert k.tunnels s (record old { stage = Opening; up = u })) k) (Some [])
  dialled old is start before a b stands shows _ step =
      let x = a.link in
      let found = finds k s x old shows is (ap is_here step.0.1) in
      let change = up_entered (e.Dialled u to why) in (
        refl,
        record {
          parts = [];
          reached = b;
          leads = refl;
          shows = subst (λ (y : Local). Shows (link_with k.conn (insert k.tunnels s (record old { stage = Opening; up = u })) k) y.link)
              (sym step.1)
              (at_rest k x s (record old { stage = Opening; up = u }) change shows (ap is_some is) (
                ap (λ (y : Machine). record y { stage = t.opening; up = u }) found.told,
                (step.0.2.0, subst (λ (at : t.Stage). IsSound at old) step.0.1 found.sound),
              )
              refl tt);
          noted = inr refl;
        },
      )
