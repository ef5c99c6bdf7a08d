-- How far bytes in memory have been read or written.
use Rattle.std.specs.Prelude.{ℕ, List}

pub record Progress : Type 0 where
  -- the bytes that were read or written
  pub before : List ℕ
  -- the bytes that a read gives next, and that a write replaces
  pub left : List ℕ
