-- What the counts of a link's streams tell: where none is counted, no tunnel is to be told its end, and no stream to be reset.
use Rattle.std.proofs.Common.{◌≡◌, ℕ, ◌<◌, ◌^◌, inl, inr, Bool, false, is_some, IsSome, Option, Some, None, refl, ap, ◌∙◌}
use Rattle.std.specs.FinMap.{get}
use Rattle.std.specs.Option.{option_map}
use Rattle.hb_base.specs.declared.cause.Cause.{Cause}
use Rattle.hb_counted.specs.Classes.{classes_in, counts_of}
use Rattle.hb_counted.specs.declared.classes.Classes.{Classes}
use Rattle.hb_counted.proofs.Keeping.{none_in}
use Rattle.hb_gateway.specs.Calm.{is_failing}
use Rattle.hb_gateway.specs.Gateway as m
use Rattle.hb_gateway.specs.Response.{fails}
use Rattle.hb_gate.specs.Calls.{IsTold, ResetsAll, none}
use Rattle.hb_gate.specs.Classing.{classes_here}
use Rattle.hb_gate.specs.Phases.{stage_of}
use Rattle.hb_gate.specs.Resetting.{code_of}
use Rattle.hb_gate.specs.Shows.{ShowsStream}
use Rattle.hb_gate.specs.Streams.{Map}
use Rattle.hb_gate.specs.declared.gate.Gate.{Gate}
use Rattle.hb_gate.specs.declared.stream.Stage.{Stage}
use Rattle.hb_gate.specs.declared.stream.Stage.TheVariants as stage
use Rattle.hb_gate.specs.declared.stream.Stream.{Stream}

-- the numbers of a map have 32 bits
abbrev AreNarrow : Map → Type 0
AreNarrow streams = (n : ℕ) → IsSome (get streams n) → n < 2 ^ 32

no_mail : (o : Option Cause) → is_some o ≡ false → option_map fails o ≡ None
no_mail None is = refl
no_mail (Some why) is = absurd cc

told_by : (o : Option Stream) (t : m.Stream) → ShowsStream o t → (classes_in classes_here o).marked ≡ false → t.mail ≡ None
told_by None t shown is = shown.1
told_by (Some k) t shown is = shown.mail ∙ no_mail k.mail is

no_reset : (st : Stage) → is_some (code_of st) ≡ false → is_failing (stage_of st) ≡ false
no_reset stage.Asked is = refl
no_reset stage.Carrying is = refl
no_reset (stage.Failing code) is = absurd cc
no_reset stage.Over is = refl

reset_by : (o : Option Stream) (t : m.Stream) → ShowsStream o t → (classes_in classes_here o).due ≡ false → is_failing t.stage ≡ false
reset_by None t (inl unused, told) is = ap is_failing unused
reset_by None t (inr over, told) is = ap is_failing over
reset_by (Some k) t shown is = ap is_failing shown.stage ∙ no_reset k.stage is

module _ (k : Gate) (narrow : AreNarrow k.streams) where
  pub told_where_none : (counts_of classes_here k.streams).marked ≡ 0 → (told : Bool) → IsTold k told
  told_where_none no_mark told is x shows s =
      told_by (get k.streams s) (x.streams s) (shows.streams s)
      (none_in classes_here (λ (c : Classes). c.marked) k.streams refl narrow no_mark s)

  pub resets_where_none : (counts_of classes_here k.streams).due ≡ 0 → ResetsAll k k
  resets_where_none no_due = (
    refl,
    λ x parts stands shows carries active. (
      x,
      none refl,
      shows,
      λ s.
          reset_by (get k.streams s) (x.streams s) (shows.streams s)
          (none_in classes_here (λ (c : Classes). c.due) k.streams refl narrow no_due s),
    ),
  )
