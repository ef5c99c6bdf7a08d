-- The room of a caller.
use Rattle.std.specs.Prelude.{ℕ, List, ◌++◌, length, take, drop, min}

-- a room whose front is overwritten by these bytes, as many as there is room for
abbrev pub filled : List ℕ → List ℕ → List ℕ
filled room bytes = take (min (length bytes) (length room)) bytes
    ++ drop (min (length bytes) (length room)) room
