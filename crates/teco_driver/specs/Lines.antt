-- The worst status of the inputs of a run.
use Rattle.std.specs.Prelude.{◌==◌, ◌||◌, ℕ, List, [], ◌∷◌, if◌then◌else◌}

-- the worse of two statuses: 1, if a file or memory failed; else 2, if there was no exit; else 0
abbrev pub worse : ℕ → ℕ → ℕ
worse a b = if a == 1 || b == 1 then 1 else (if a == 2 || b == 2 then 2 else 0)

-- the worst of some statuses, and of this one
abbrev pub worst : ℕ → List ℕ → ℕ
worst so_far [] = so_far
worst so_far (status ∷ rest) = worst (worse so_far status) rest
