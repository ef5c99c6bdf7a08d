-- What a terminal shows, one put after another.
use Rattle.std.specs.Prelude.{ℕ, List, [], ◌++◌, Bool, false}
use Rattle.teco_io.specs.Terminal.{Screen, Shows}

-- A screen that is left alone shows nothing more.
abbrev pub StillShows : Type 0
StillShows = (w : Screen) → Shows w w [] false

-- What is shown, and then more, is shown together.
abbrev pub ShowsMore : Type 0
ShowsMore = (a b c : Screen) (xs ys : List ℕ) (failed : Bool) → Shows a b xs false → Shows b c ys failed
    → Shows a c (xs ++ ys) failed
