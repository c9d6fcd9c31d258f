-- What calls leave by which nothing moved.
use Rattle.std.specs.Prelude.{⊤, ◌≡◌, ◌⊎◌, ℕ, true, false, [], drop, Option, Some, None}
use Rattle.hb_base.specs.declared.door.Door.{Door}
use Rattle.hb_ready.specs.Registry.{kept}
use Rattle.hb_ready.specs.Sight.{asked_at}
use Rattle.hb_ready.specs.declared.link.Link.{Link}
use Rattle.hb_turns.specs.Shown.{Shown}
use Rattle.hb_turns.specs.declared.round.Call.{Call}
use Rattle.hb_turns.specs.declared.round.Call.TheVariants as call
use Rattle.hb_turns.specs.declared.run.Run.{Run}

-- a link is open where it was, and ended where it had, and its ways sleep that slept
pub record IsDrowsier (old new : Link) : Type 0 where
  pub opens : new.is_open ≡ old.is_open
  pub finish : old.finish_sleeps ≡ true → new.finish_sleeps ≡ true
  pub read : old.read_sleeps ≡ true → new.read_sleeps ≡ true
  pub write : old.write_sleeps ≡ true → new.write_sleeps ≡ true
  pub ended : new.has_ended ≡ old.has_ended
  pub look : old.look_sleeps ≡ true → new.look_sleeps ≡ true

abbrev pub Drowses : Option Link → Option Link → Type 0
Drowses None None = ⊤
Drowses (Some old) (Some new) = IsDrowsier old new
Drowses _ _ = ⊥

-- the node and the list are the same, no door is asked that wasn't, and the links that live are those that lived
pub record IsCalm {N : Type 0} (old new : Run N) : Type 0 where
  pub node : new.node ≡ old.node
  pub listed : (kept new.records.links).listed ≡ (kept old.records.links).listed
  pub doors : (d : Door) → asked_at old.records.asked d ≡ false → asked_at new.records.asked d ≡ false
  pub links : (l : ℕ) → Drowses ((kept old.records.links).links l) ((kept new.records.links).links l)

-- a finish, a read, a write or a look of the link has nothing to do, or sleeps
abbrev pub FinishRests : Option Link → Type 0
FinishRests None = ⊤
FinishRests (Some k) = (k.is_open ≡ true) ⊎ (k.finish_sleeps ≡ true)

abbrev pub ReadRests : Option Link → ℕ → Shown → Type 0
ReadRests None l s = ⊤
ReadRests (Some k) l s = (k.is_open ≡ false) ⊎ ((k.read_sleeps ≡ true) ⊎ (s.wants l ≡ 0))

abbrev pub WriteRests : Option Link → ℕ → Shown → Type 0
WriteRests None l s = ⊤
WriteRests (Some k) l s = (k.is_open ≡ false) ⊎ ((k.write_sleeps ≡ true) ⊎ (s.output l ≡ []))

abbrev pub LookRests : Option Link → Type 0
LookRests None = ⊤
LookRests (Some k) = (k.is_open ≡ false) ⊎ ((k.has_ended ≡ false) ⊎ (k.look_sleeps ≡ true))

-- no read, or no write, may be made on the link
abbrev pub MayNotRead : Option Link → Type 0
MayNotRead None = ⊤
MayNotRead (Some k) = (k.is_open ≡ false) ⊎ (k.read_sleeps ≡ true)

abbrev pub MayNotWrite : Option Link → Type 0
MayNotWrite None = ⊤
MayNotWrite (Some k) = (k.is_open ≡ false) ⊎ (k.write_sleeps ≡ true)

-- so many numbers in front left the list, and nothing else moved
pub record IsDropped {N : Type 0} (n : ℕ) (old new : Run N) : Type 0 where
  pub node : new.node ≡ old.node
  pub listed : (kept new.records.links).listed ≡ drop n (kept old.records.links).listed
  pub doors : (d : Door) → asked_at old.records.asked d ≡ false → asked_at new.records.asked d ≡ false

-- this call has nothing to do
abbrev pub CallRests : {N : Type 0} → (N → Shown) → Call → Run N → Type 0
CallRests shown (call.Accept door) run = asked_at run.records.asked door ≡ false
CallRests shown (call.Finish l) run = FinishRests ((kept run.records.links).links l)
CallRests shown (call.Read l) run = ReadRests ((kept run.records.links).links l) l (shown run.node)
CallRests shown (call.Write l) run = WriteRests ((kept run.records.links).links l) l (shown run.node)
CallRests shown (call.Look l) run = LookRests ((kept run.records.links).links l)
