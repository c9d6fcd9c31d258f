-- What each part of a move keeps is kept by each frame that is handled.
use Rattle.std.proofs.Common.{ℕ, List}
use Rattle.hb_conn.specs.Handling.{Handles}
use Rattle.hb_conn.specs.declared.machine.Core.{Core}
use Rattle.hb_conn.specs.declared.found.Found.{Found}
use Rattle.hb_conn.specs.declared.glance.Glance.{Glance}
use Rattle.hb_history.proofs.Handled.{Grows, window_keeps, settings_keep, ping_keeps, handles_keep}
use Rattle.hb_history.proofs.Parts.{Amid, calm, Keeps, PutsAck, Resizes}

pub frame_keeps : (P : Amid → Core → Type 0) → Keeps P → Resizes P → PutsAck P → ((c : Core) (s n : ℕ) → P calm c → Grows P c s n)
    → (c : Core) (g : Glance) (bytes : List ℕ) (new : Core) (told : Found) → P calm c → Handles c g bytes new told → P calm new
frame_keeps P k sizes acks grows c g bytes new told h is =
    handles_keep P k c g bytes new told h (λ s n e. window_keeps P k c s n (grows c s n h))
    (λ ack e does. settings_keep P k sizes acks ack c bytes new told h does) (λ ack value e. ping_keeps P k acks c ack value h) is
