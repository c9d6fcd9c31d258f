use Rattle.std.specs.Prelude.{ℕ, List}

-- the bytes that are held, and how many can be
pub record BoundedBytes : Type 0 where
  pub items : List ℕ
  pub size : ℕ
