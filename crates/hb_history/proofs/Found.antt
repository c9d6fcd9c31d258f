-- What holds of each frame that is handled, holds of what is found next.
use Rattle.std.proofs.Common.{◌≡◌, ℕ, Bool, true, false, List, [], ◌∷◌, Option, Some, None, refl, ap, sym, subst}
use Rattle.hb_frames.specs.Reading.{Reading, asked}
use Rattle.hb_conn.specs.Connection.{Connection, Finds, FindsWhile, FindsOf, FindsAfter, FindsBy}
use Rattle.hb_conn.specs.Faults.{faulted}
use Rattle.hb_conn.specs.Glance.{glance_of}
use Rattle.hb_conn.specs.Handling.{Handles}
use Rattle.hb_frames.specs.Numbers.{protocol_error}
use Rattle.hb_conn.specs.Outcome.{Gives}
use Rattle.hb_conn.specs.Preface.{is_whole}
use Rattle.hb_conn.specs.Receiving.{pauses, Passes, Ends, waits, lacks, tells, Receives}
use Rattle.hb_conn.specs.declared.machine.Core.{Core}
use Rattle.hb_conn.specs.declared.receiver.Receiver.{Receiver}
use Rattle.hb_conn.specs.declared.found.Found.{Found}
use Rattle.hb_conn.specs.declared.found.Found.TheVariants as found

-- nothing is told of a frame: nothing at all, or the end of a stream that was told of before
abbrev pub IsStill : Found → Type 0
IsStill found.Silent = Unit {0}
IsStill (found.Ended s) = Unit {0}
IsStill _ = ⊥

-- it holds where nothing changes and nothing is told of a frame, from one frame of which nothing is told to the next, of each
-- frame, and of a connection error
pub record Holds (P : Core → Core → Found → Type 0) : Type 0 where
  pub same : (c new : Core) (told : Found) → IsStill told → new ≡ c → P c new told
  pub on : (c mid new : Core) (told : Found) → P c mid found.Silent → P mid new told → P c new told
  pub handled : (r : Reading) (c new : Core) (told : Found) → Handles c (glance_of r) (asked r).last new told → P c new told
  pub faults : (c new : Core) (code : ℕ) (told : Found) → Gives (faulted c code) new told → P c new told

module _ (P : Core → Core → Found → Type 0) (h : Holds P) where
  passed : (through : List Receiver) (old last : Receiver) (new : Core) (told : Found) → Passes through old last
      → P last.core new told → P old.core new told
  passed [] old last new told is next = subst (λ (r : Receiver). P r.core new told) is next
  passed (mid ∷ more) old last new told is next =
      h.on old.core mid.core new told (h.handled old.reader old.core mid.core found.Silent is.0.handled)
      (passed more mid last new told is.1 next)

  ended : (last new : Receiver) (told : Found) → Ends last new told → P last.core new.core told
  ended last new told (waits test is silent) =
      h.same last.core new.core told (subst IsStill (sym silent) tt) (ap (λ (r : Receiver). r.core) is)
  ended last new told (lacks test nothing is silent) =
      h.same last.core new.core told (subst IsStill (sym silent) tt) (ap (λ (r : Receiver). r.core) is)
  ended last new told (tells steps some) = h.handled last.reader last.core new.core told steps.handled

  received : (old new : Receiver) (told : Found) → Receives old new told → P old.core new.core told
  received old new told is = passed is.through old is.last new.core told is.passes (ended is.last new told is.ends)

  found_by : (b : Bool) (c d : Connection) (told : Found) → FindsBy b c d told → P c.receiver.core d.receiver.core told
  found_by false c d told is = h.faults c.receiver.core d.receiver.core protocol_error told is.0
  found_by true c d told is = received c.receiver d.receiver told is.0

  still : (c d e : Connection) (told : Found) → IsStill told → d ≡ e → e.receiver.core ≡ c.receiver.core
      → P c.receiver.core d.receiver.core told
  still c d e told quiet is same =
      subst (λ (x : Connection). P c.receiver.core x.receiver.core told) (sym is)
      (h.same c.receiver.core e.receiver.core told quiet same)

  found_after : (b : Bool) (c d : Connection) (told : Found) → FindsAfter b c d told → P c.receiver.core d.receiver.core told
  found_after false c d told is = still c d c told (subst IsStill (sym is.1) tt) is.0 refl
  found_after true c d told is = found_by c.preface.same c d told is

  found_of : (o : Option ℕ) (c d : Connection) (told : Found) → FindsOf o c d told → P c.receiver.core d.receiver.core told
  found_of (Some s) c d told is = still c d (record c { ended = None }) told (subst IsStill (sym is.1) tt) is.0 refl
  found_of None c d told is = found_after (is_whole c.preface) c d told is

  found_while : (b : Bool) (c d : Connection) (told : Found) → FindsWhile b c d told → P c.receiver.core d.receiver.core told
  found_while true c d told is = still c d c told (subst IsStill (sym is.1) tt) is.0 refl
  found_while false c d told is = found_of c.ended c d told is

  pub finds_so : (c d : Connection) (told : Found) → Finds c d told → P c.receiver.core d.receiver.core told
  finds_so c d told is = found_while (pauses c.receiver.core) c d told is
