-- What is kept of the doors once one more entry stands in the trace.
use Rattle.std.proofs.Common.{◌≡◌, ℕ, ◌-◌, Bool, true, false, ◌||◌, ◌&&◌, cond, refl, ap, ◌∙◌, sym}
use Rattle.hb_base.specs.declared.door.Door.{Door}
use Rattle.hb_base.specs.declared.door.Door.TheVariants.{Inbound, Outbound, Plain}
use Rattle.hb_world.specs.declared.doors.Doors.{Doors}
use Rattle.hb_world.specs.declared.doors.ScriptDoor.{ScriptDoor}
use Rattle.hb_world.specs.DoorState.{door_at}
use Rattle.hb_world.specs.Trace.{same_door}
use Rattle.hb_world.proofs.LifeLemmas.{or-false, or-true}

-- the doors once one was set
abbrev pub IsSet : Doors ScriptDoor → Doors ScriptDoor → Door → ScriptDoor → Type 0
IsSet old new door now = (d : Door) → door_at new d ≡ cond (same_door door d) now (door_at old d)

-- what is said of a door that may have been set
set_by : {A : Type 0} (f : ScriptDoor → A) (b : Bool) (now old : ScriptDoor) → f (cond b now old) ≡ cond b (f now) (f old)
set_by f true now old = refl
set_by f false now old = refl

of_door : {A : Type 0} (f : ScriptDoor → A) (old new : Doors ScriptDoor) (door d : Door) (now : ScriptDoor) → IsSet old new door now
    → f (door_at new d) ≡ cond (same_door door d) (f now) (f (door_at old d))
of_door f old new door d now is = ap f (is d) ∙ set_by f (same_door door d) now (door_at old d)

-- what is said of the door that was set may as well be said of the one that is asked of, where that is it
at_same : {A : Type 0} (f g : ScriptDoor → A) (old : Doors ScriptDoor) (door d : Door)
    → cond (same_door door d) (f (door_at old door)) (g (door_at old d)) ≡ cond (same_door door d) (f (door_at old d)) (g (door_at old d))
at_same f g old Inbound Inbound = refl
at_same f g old Inbound Outbound = refl
at_same f g old Inbound Plain = refl
at_same f g old Outbound Inbound = refl
at_same f g old Outbound Outbound = refl
at_same f g old Outbound Plain = refl
at_same f g old Plain Inbound = refl
at_same f g old Plain Outbound = refl
at_same f g old Plain Plain = refl

either_way : {A : Type 0} (b : Bool) (x : A) → cond b x x ≡ x
either_way true x = refl
either_way false x = refl

as_before : {A : Type 0} (f : ScriptDoor → A) (old : Doors ScriptDoor) (door d : Door)
    → cond (same_door door d) (f (door_at old door)) (f (door_at old d)) ≡ f (door_at old d)
as_before f old door d = at_same f f old door d ∙ either_way (same_door door d) (f (door_at old d))

listens_or : (b listening : Bool) → cond b true listening ≡ (listening || (b && true))
listens_or true listening = sym (or-true listening)
listens_or false listening = sym (or-false listening)

pub listening-set : (old new : Doors ScriptDoor) (door d : Door) (n : ℕ) → IsSet old new door (record { listening = true; waiting = n })
    → (door_at new d).listening ≡ ((door_at old d).listening || (same_door door d && true))
listening-set old new door d n is =
    of_door (λ (x : ScriptDoor). x.listening) old new door d _ is ∙ listens_or (same_door door d) (door_at old d).listening

-- a change that keeps the number, or the listening, at the door
pub waiting-same : (old new : Doors ScriptDoor) (door d : Door) (b : Bool)
    → IsSet old new door (record { listening = b; waiting = (door_at old door).waiting })
    → (door_at new d).waiting ≡ (door_at old d).waiting
waiting-same old new door d b is =
    of_door (λ (x : ScriptDoor). x.waiting) old new door d _ is ∙ as_before (λ (x : ScriptDoor). x.waiting) old door d

pub listening-same : (old new : Doors ScriptDoor) (door d : Door) (n : ℕ)
    → IsSet old new door (record { listening = (door_at old door).listening; waiting = n })
    → (door_at new d).listening ≡ ((door_at old d).listening || false)
listening-same old new door d n is =
    of_door (λ (x : ScriptDoor). x.listening) old new door d _ is ∙ as_before (λ (x : ScriptDoor). x.listening) old door d
    ∙ sym (or-false (door_at old d).listening)

pub waiting-less : (old new : Doors ScriptDoor) (door d : Door) (b : Bool)
    → IsSet old new door (record { listening = b; waiting = (door_at old door).waiting - 1 })
    → (door_at new d).waiting ≡ cond (same_door door d) ((door_at old d).waiting - 1) (door_at old d).waiting
waiting-less old new door d b is =
    of_door (λ (x : ScriptDoor). x.waiting) old new door d _ is
    ∙ at_same (λ (x : ScriptDoor). x.waiting - 1) (λ (x : ScriptDoor). x.waiting) old door d
