-- The places at which bytes begin, byte by byte of the source.
use Rattle.std.proofs.Common.{◌≡◌, ℕ, ◌+◌, ◌<◌, ◌≤◌, List, length, drop, get_or, refl, add-one, drop-cons}
use Rattle.std.proofs.lemmas.List.{drop_all}
use Rattle.teco_source.specs.Source.{State, step}
use Rattle.teco_source.specs.Places.{bytes_begun, fitted, places_from}

pub one_placed : (s : State) (i : ℕ) (places xs : List ℕ) → i < length xs
    → places_from s i places (drop i xs)
    ≡ places_from (step s (get_or xs i 0)) (i + 1) (fitted (bytes_begun (step s (get_or xs i 0))) i places) (drop (i + 1) xs)
unfolding places_from
one_placed s i places xs h = rw (add-one, drop-cons xs i 0) refl

pub all_placed : (s : State) (i : ℕ) (places xs : List ℕ) → length xs ≤ i → places_from s i places (drop i xs) ≡ places
unfolding places_from
all_placed s i places xs h = rw (drop_all i xs h) refl
