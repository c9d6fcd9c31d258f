-- Traces in which more waits than a ring has room for don't keep buffers.
use Rattle.std.proofs.Common.{◌≡◌, ℕ, List, [], ◌∷◌, ◌++◌, length, drop, None, refl, ap, arith, length-append}
use Rattle.hb_front.specs.Written.{front_text}
use Rattle.hb_laws.specs.Good.{source, destination}
use Rattle.hb_world.specs.Trace.{recv}
use Rattle.hb_world.specs.declared.entry.Entry.TheVariants as e
use Rattle.hb_headline.specs.Refused.{untold, plain_untold, KeepsMoreUp, KeepsMoreDown, TunnelKeepsMore}
use Rattle.hb_headline.proofs.Good.{seen, fronted}

pub keeps_more_up : KeepsMoreUp
keeps_more_up to octets is frames fits =
    let before = plain_untold to (front_text source destination None ++ octets) in
    let most = (fits.plain before e.Tick [] refl refl 1 2 refl).up refl seen (fronted (octets ++ [])) in
    let behind : drop seen.length (recv 1 before) ≡ octets ++ [] = refl in
    absurd (omega (arith, is, most, ap (λ (bs : List ℕ). length bs) behind, length-append octets []))

pub keeps_more_down : KeepsMoreDown
keeps_more_down to octets is frames fits =
    let before = plain_untold to [] ++ e.Came 2 octets ∷ [] in
    let most = (fits.plain before e.Tick [] refl refl 1 2 refl).down in
    absurd (omega (arith, is, most, length-append octets []))

pub tunnel_keeps_more : TunnelKeepsMore
tunnel_keeps_more to octets is frames fits =
    let most = fits.tunnels (untold to []) 2 octets [] refl 1 1 refl in
    absurd (omega (arith, is, most))
