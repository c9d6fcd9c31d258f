-- Frames that are looked at one after another.
use Rattle.std.proofs.Common.{◌≡◌, true, false, [], ◌∷◌, refl, subst, Some, None}
use Rattle.hb_conn.specs.Outcome.{is_silent}
use Rattle.hb_conn.specs.Receiving.{Steps, StepsOn, Ends, waits, lacks, tells, Receives, LacksBlock, pauses}
use Rattle.hb_conn.specs.declared.receiver.Receiver.{Receiver}
use Rattle.hb_conn.specs.declared.found.Found.{Found}
use Rattle.hb_conn.specs.declared.found.Found.TheVariants.{Silent}
use Rattle.hb_conn.proofs.Taken.{silent_is}

-- nothing more is looked at
ends_here : (old new : Receiver) (found : Found) → Ends old new found → Receives old new found
ends_here old new found ends = record { through = []; last = old; passes = refl; ends = ends }

pub receives_waiting : (old : Receiver) → pauses old.core ≡ true → Receives old old Silent
receives_waiting old test = ends_here old old Silent (waits test refl refl)

pub receives_lacking : (old new : Receiver) → pauses old.core ≡ false → StepsOn old new None → Receives old new Silent
receives_lacking old new test steps = ends_here old new Silent (lacks test steps.0 steps.1 refl)

pub receives_told : (old new : Receiver) (found : Found) → StepsOn old new (Some found) → is_silent found ≡ false → Receives old new found
receives_told old new found steps test = ends_here old new found (tells steps.0 test)

-- one more frame of which nothing is told
pub receives_on : (old mid new : Receiver) (silent found : Found) → StepsOn old mid (Some silent) → is_silent silent ≡ true
    → Receives mid new found → Receives old new found
receives_on old mid new silent found steps test later = record {
  through = mid ∷ later.through;
  last = later.last;
  passes = (subst (λ (f : Found). Steps old mid f) (silent_is silent test) steps.0, later.passes);
  ends = later.ends;
}

-- behind it memory is wanting
pub lacks_on : (old mid : Receiver) (silent : Found) → StepsOn old mid (Some silent) → is_silent silent ≡ true → LacksBlock mid
    → LacksBlock old
lacks_on old mid silent steps test later = record {
  through = mid ∷ later.through;
  last = later.last;
  passes = (subst (λ (f : Found). Steps old mid f) (silent_is silent test) steps.0, later.passes);
  goes = later.goes;
  block = later.block;
}
