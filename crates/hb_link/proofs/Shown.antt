-- What a link that shows a machine says of it.
use Rattle.std.proofs.Common.{◌≡◌, ⊎_elim, Bool, false, Option, Some, None, refl, ap, sym, ◌∙◌}
use Rattle.hb_base.specs.declared.cause.Cause.{Cause}
use Rattle.hb_inbound.specs.Tunnel as t
use Rattle.hb_inbound.specs.Tunnel.{Tunnel as Machine, takes_place}
use Rattle.hb_link.specs.declared.tunnel.Stage.{Stage}
use Rattle.hb_link.specs.declared.tunnel.Stage.TheVariants.{Due, Opening, Live, Failed, Ended, Over}
use Rattle.hb_link.specs.declared.tunnel.Tunnel.{Tunnel}
use Rattle.hb_link.specs.Tunnels.{stage_of, tunnel_of, as_told, ShowsAt, ShowsTunnel, place_in, has_place}

-- what is seen of a tunnel alone, nothing of one that isn't asked for, over or gone, and whatever its bytes count
record IsSeen {A : Type 0} (f : t.Stage → Machine → A) (none : A) : Type 0 where
  unasked : (x : Machine) → f t.unasked x ≡ none
  gone : (x : Machine) → f t.gone x ≡ none
  over : (why : Cause) (x : Machine) → f (t.over why) x ≡ none
  told : (stage : t.Stage) (x : Machine) → f stage (as_told x) ≡ f stage x

abbrev seen : {A : Type 0} → (t.Stage → Machine → A) → A → Option Tunnel → A
seen f none None = none
seen f none (Some k) = f (stage_of k.stage) (tunnel_of k)

module _ {A : Type 0} (f : t.Stage → Machine → A) (none : A) (is_seen : IsSeen f none) where
  seen_at : (stage : t.Stage) (k : Tunnel) (x : Machine) → stage ≡ stage_of k.stage → ShowsAt stage k x
      → f (stage_of k.stage) (tunnel_of k) ≡ f x.stage x
  seen_at (t.over why) k x is shown =
      ap (λ (stage : t.Stage). f stage (tunnel_of k)) (sym is) ∙ is_seen.over why (tunnel_of k) ∙ sym (is_seen.over why x)
      ∙ ap (λ (stage : t.Stage). f stage x) (sym shown.0)
  seen_at stage k x is shown = ap (λ (y : Machine). f y.stage y) (sym shown.0) ∙ is_seen.told x.stage x

  seen_tunnel : (o : Option Tunnel) (x : Machine) → ShowsTunnel o x → seen f none o ≡ f x.stage x
  seen_tunnel None x shown =
      ⊎_elim (λ (is : x.stage ≡ t.unasked). sym (is_seen.unasked x) ∙ ap (λ (stage : t.Stage). f stage x) (sym is))
      (λ (is : x.stage ≡ t.gone). sym (is_seen.gone x) ∙ ap (λ (stage : t.Stage). f stage x) (sym is)) shown
  seen_tunnel (Some k) x shown = seen_at (stage_of k.stage) k x refl shown

place_as_seen : (stage : Stage) → place_in stage ≡ takes_place (stage_of stage)
place_as_seen Due = refl
place_as_seen Opening = refl
place_as_seen Live = refl
place_as_seen (Failed why) = refl
place_as_seen (Ended why) = refl
place_as_seen (Over why) = refl

has_as_seen : (o : Option Tunnel) → has_place o ≡ seen (λ stage x. takes_place stage) false o
has_as_seen None = refl
has_as_seen (Some k) = place_as_seen k.stage

pub place_tunnel : (o : Option Tunnel) (x : Machine) → ShowsTunnel o x → has_place o ≡ takes_place x.stage
place_tunnel o x shown =
    has_as_seen o
    ∙ seen_tunnel (λ stage y. takes_place stage) false
    (record { unasked = λ y. refl; gone = λ y. refl; over = λ why y. refl; told = λ stage y. refl }) o x shown

-- a tunnel of the code is at such a stage, which the machine's is too
abbrev pub is_at : (t.Stage → Bool) → Option Tunnel → Bool
is_at is None = false
is_at is (Some k) = is (stage_of k.stage)

at_as_seen : (is : t.Stage → Bool) (o : Option Tunnel) → is_at is o ≡ seen (λ stage x. is stage) false o
at_as_seen is None = refl
at_as_seen is (Some k) = refl

pub stage_tunnel : (is : t.Stage → Bool) → is t.unasked ≡ false → is t.gone ≡ false → ((why : Cause) → is (t.over why) ≡ false)
    → (o : Option Tunnel) (x : Machine) → ShowsTunnel o x → is_at is o ≡ is x.stage
stage_tunnel is unasked gone over o x shown =
    at_as_seen is o
    ∙ seen_tunnel (λ stage y. is stage) false
    (record { unasked = λ y. unasked; gone = λ y. gone; over = λ why y. over why; told = λ stage y. refl }) o x shown
