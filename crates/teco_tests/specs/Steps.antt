-- What a test knows of a recorder whose steps go on.
use Rattle.std.specs.Prelude.{◌≡◌, ℕ, ◌≤◌}
use Rattle.teco_store.specs.Trail.{Trail}
use Rattle.teco_undo.specs.Follows.{Recording, Follows}

-- It follows a trail of so many steps, with at most so many changes in the present one.
pub record HasDone (steps changes : ℕ) (r : Recording) : Type 0 where
  pub trail : Trail
  pub follows : Follows r trail
  pub count : trail.steps ≡ steps
  pub few : trail.changes ≤ changes
