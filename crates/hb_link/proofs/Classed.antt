-- What the class of a tunnel says of it.
use Rattle.std.proofs.Common.{◌≡◌, ℕ, ◌<◌, ◌^◌, not, Bool, false, cond, Option, Some, None, IsSome, refl, ap, sym}
use Rattle.std.proofs.lemmas.Bool.{false≢true}
use Rattle.std.specs.FinMap.{get}
use Rattle.hb_counted.specs.declared.classes.Classes.{Classes}
use Rattle.hb_counted.specs.Classes.{classes_in, how_many}
use Rattle.hb_counted.proofs.Keeping.{none_in}
use Rattle.hb_world.specs.declared.act.Act.TheVariants as act
use Rattle.hb_inbound.specs.Tunnel.{is_failed, is_ended}
use Rattle.hb_link.specs.declared.link.Link.{Link}
use Rattle.hb_link.specs.declared.tunnel.Stage.{Stage}
use Rattle.hb_link.specs.declared.tunnel.Stage.TheVariants.{Due, Opening, Live, Failed, Ended, Over}
use Rattle.hb_link.specs.declared.tunnel.Tunnel.{Tunnel}
use Rattle.hb_link.specs.Acting.{act_by, act_in, act_on}
use Rattle.hb_link.specs.Classing.{classes_by, classes_here}
use Rattle.hb_link.specs.Tunnels.{stage_of, tunnel_of, has_place, place_in}
use Rattle.hb_link.proofs.Moving.{Map}
use Rattle.hb_link.proofs.Shown.{is_at}

-- the classes that a stream is counted for
abbrev pub class_at : Map → ℕ → Classes
class_at tunnels s = classes_in classes_here (get tunnels s)

place_by : (stage : Stage) (k : Tunnel) → (classes_by stage k).place ≡ place_in stage
place_by Due k = refl
place_by Opening k = refl
place_by Live k = refl
place_by (Failed why) k = refl
place_by (Ended why) k = refl
place_by (Over why) k = refl

pub place_class : (o : Option Tunnel) → (classes_in classes_here o).place ≡ has_place o
place_class None = refl
place_class (Some k) = place_by k.stage k

-- one that isn't marked neither failed nor ended
failed_by : (stage : Stage) (k : Tunnel) → (classes_by stage k).marked ≡ false → is_failed (stage_of stage) ≡ false
failed_by Due k not = refl
failed_by Opening k not = refl
failed_by Live k not = refl
failed_by (Failed why) k not = not
failed_by (Ended why) k not = refl
failed_by (Over why) k not = refl

ended_by : (stage : Stage) (k : Tunnel) → (classes_by stage k).marked ≡ false → is_ended (stage_of stage) ≡ false
ended_by Due k not = refl
ended_by Opening k not = refl
ended_by Live k not = refl
ended_by (Failed why) k not = refl
ended_by (Ended why) k not = not
ended_by (Over why) k not = refl

failed_class : (o : Option Tunnel) → (classes_in classes_here o).marked ≡ false → is_at is_failed o ≡ false
failed_class None not = refl
failed_class (Some k) not = failed_by k.stage k not

ended_class : (o : Option Tunnel) → (classes_in classes_here o).marked ≡ false → is_at is_ended o ≡ false
ended_class None not = refl
ended_class (Some k) not = ended_by k.stage k not

-- of one of which no act is due there is none
due_by : (l s : ℕ) (stage : Stage) (k : Tunnel) → (classes_by stage k).due ≡ false → act_by l s (stage_of stage) (tunnel_of k) ≡ None
due_by l s Due k not = absurd (false≢true (sym not))
due_by l s Opening k not = refl
due_by l s Live k not = ap (λ (b : Bool). cond b (Some (act.Shut k.up)) None) not
due_by l s (Failed why) k not = refl
due_by l s (Ended why) k not = refl
due_by l s (Over why) k not = absurd (false≢true (sym not))

pub due_class : (l s : ℕ) (o : Option Tunnel) → (classes_in classes_here o).due ≡ false → act_in l s o ≡ None
due_class l s None not = refl
due_class l s (Some k) not = due_by l s k.stage k not

-- OF A LINK WHOSE COUNTS ARE NONE

module _ (k : Link) (narrow : (n : ℕ) → IsSome (get k.tunnels n) → n < 2 ^ 32) where
  -- of no tunnel an act is due
  pub none_due : how_many (λ n. (class_at k.tunnels n).due) ≡ 0 → (s : ℕ) → act_on k s ≡ None
  none_due none s =
      due_class k.number s (get k.tunnels s) (none_in classes_here (λ (c : Classes). c.due) k.tunnels refl narrow none s)

  -- none failed, and none ended
  pub none_marked : how_many (λ n. (class_at k.tunnels n).marked) ≡ 0 → (s : ℕ)
      → (is_at is_failed (get k.tunnels s) ≡ false) × (is_at is_ended (get k.tunnels s) ≡ false)
  none_marked none s =
      let not = none_in classes_here (λ (c : Classes). c.marked) k.tunnels refl narrow none s in
      (failed_class (get k.tunnels s) not, ended_class (get k.tunnels s) not)
