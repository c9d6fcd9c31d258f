use Rattle.std.proofs.Common.{◌≡◌, Bool, true, false, ◌||◌}
use Rattle.hb_base.specs.declared.door.Door.TheVariants.{Inbound, Outbound, Plain}
use Rattle.hb_turns.proofs.Waking.{quiet_doors}
use Rattle.hb_turns.proofs.turns.has_work.Goals as goal

pub returns-in-None-clause-quiet : goal.returns-in-None-clause-quiet
returns-in-None-clause-quiet c = λ none. (c.in-None.ensures.none, quiet_doors c.args.records.now.asked none)

none_asked : (a b d : Bool) → ((a || b) || d) ≡ true → a ≡ false → b ≡ false → d ≡ false → ⊥
none_asked true b d some first second third = cc
none_asked false true d some first second third = cc
none_asked false false true some first second third = cc
none_asked false false false some first second third = cc

pub returns-in-None-clause-work : goal.returns-in-None-clause-work
returns-in-None-clause-work c = λ some quiet. none_asked _ _ _ some (quiet.1 Inbound) (quiet.1 Outbound) (quiet.1 Plain)
