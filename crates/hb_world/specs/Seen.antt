-- What is seen of a world beside its trace, and which of it a call leaves as it was.
use Rattle.std.specs.Prelude.{◌≡◌, ◌≤◌, ℕ, Bool, List, Option}
use Rattle.hb_base.specs.Count.{Counts}
use Rattle.hb_world.specs.declared.line.Line.{Line}

-- the lines that a world follows, where it is the world of a script; and how often a listen or a wait failed, how often an accept or
-- a dial, and how often a finish, read, write or look of each link
pub record Seen : Type 0 where
  pub script : Option (List Line)
  pub faults : ℕ
  pub birth_faults : ℕ
  pub link_faults : ℕ → ℕ

-- a count behind a call: one more where the call failed, and else the same; it never falls
pub record CountsUp (before after : ℕ) (failed : Bool) : Type 0 where
  pub counts : Counts before after failed
  pub later : before ≤ after

-- all stays
pub record Stays (old new : Seen) : Type 0 where
  pub follows : new.script ≡ old.script
  pub whole : new.faults ≡ old.faults
  pub births : new.birth_faults ≡ old.birth_faults
  pub links : (l : ℕ) → new.link_faults l ≡ old.link_faults l

-- all stays but how often a listen or a wait failed
pub record StaysButWhole (old new : Seen) : Type 0 where
  pub follows : new.script ≡ old.script
  pub births : new.birth_faults ≡ old.birth_faults
  pub links : (l : ℕ) → new.link_faults l ≡ old.link_faults l

-- all stays but how often an accept or a dial failed
pub record StaysButBirths (old new : Seen) : Type 0 where
  pub follows : new.script ≡ old.script
  pub whole : new.faults ≡ old.faults
  pub links : (l : ℕ) → new.link_faults l ≡ old.link_faults l

-- all stays but how often calls on this link failed
pub record StaysButLink (link : ℕ) (old new : Seen) : Type 0 where
  pub follows : new.script ≡ old.script
  pub whole : new.faults ≡ old.faults
  pub births : new.birth_faults ≡ old.birth_faults
  pub others : (l : ℕ) → ¬ (l ≡ link) → new.link_faults l ≡ old.link_faults l
