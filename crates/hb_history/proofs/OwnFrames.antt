-- The frames of a client that asks on one stream.
use Rattle.std.proofs.Common.{◌≡◌, ℕ, ◌||◌, Bool, true, false, List, [], ◌∷◌, ◌++◌, Option, Some, None, sym, subst}
use Rattle.std.specs.List.{list_any}
use Rattle.std.proofs.lemmas.Bool.{false≢true}
use Rattle.std.proofs.lemmas.List.{append-nil}
use Rattle.hb_frames.specs.RawFrame.{RawFrame}
use Rattle.hb_conn.specs.declared.machine.Core.{Core}
use Rattle.hb_conn.specs.declared.found.Found.{Found}
use Rattle.hb_history.specs.History.{ends_in, happenings}
use Rattle.hb_history.specs.OwnFrames.{Stage, begins, asks, faulted, cut, strays, stage, Asks, is_fault, AreOwn, OwnFrames}
use Rattle.hb_history.proofs.FrameLists.{own_front, all_own, own_end}
use Rattle.hb_history.proofs.Stages.{At, all_at}

or_more : (b c d : Bool) → (c ≡ true → d ≡ true) → (b || c) ≡ true → (b || d) ≡ true
or_more true c d more any = any
or_more false c d more any = more any

-- what is told but for an end of a stream has the same connection errors
any_told : (o : Option ℕ) (ts : List Found) → list_any is_fault (ts ++ ends_in o) ≡ true → list_any is_fault ts ≡ true
any_told None ts any = subst (λ (fs : List Found). list_any is_fault fs ≡ true) (append-nil ts) any
any_told (Some s) [] any = absurd (false≢true any)
any_told (Some s) (t ∷ ts) any =
    or_more (is_fault t) (list_any is_fault (ts ++ ends_in (Some s))) (list_any is_fault ts) (any_told (Some s) ts) any

at_own : (told ts : List Found) (gs : List RawFrame) (k : ℕ) (st : Stage) (front : List RawFrame) (c : Core)
    → (list_any is_fault told ≡ true → list_any is_fault ts ≡ true) → Asks st → At told gs k st front c → AreOwn ts front
at_own told ts gs k begins front c less good h = subst (AreOwn ts) (sym h.0) tt
at_own told ts gs k asks front c less good h = own_front ts front c.out.queue (all_own ts (front ++ c.out.queue) h.2)
at_own told ts gs k faulted front c less good h =
    let bye = h.0.1 in
    own_front ts front c.out.queue (subst (AreOwn ts) (sym bye.2) (own_end ts bye.0 bye.1 (bye.4, bye.5, less h.1) bye.3))
at_own told ts gs k cut front c less good h = own_front ts front h.0 (all_own ts (front ++ h.0) h.1)
at_own told ts gs k strays front c less good h = absurd good

pub own_frames : OwnFrames
own_frames points ts came written c stands good =
    at_own (happenings points) ts _ _ (stage points) stands.begun c.receiver.core
    (λ any. any_told c.ended ts (subst (λ (fs : List Found). list_any is_fault fs ≡ true) stands.told any)) good
    (all_at points stands.begun c.receiver.core stands.begins)
