-- A text, from its parts.
use Rattle.std.proofs.Common.{◌≡◌, ℕ, ◌+◌, ◌-◌, ◌≤◌, List, [], ◌++◌, take, drop, refl, sym, ap, ◌∙◌, arith}
use Rattle.std.proofs.Math.Seq.{take-add}
use Rattle.teco_source.specs.Source.{start, run}
use Rattle.teco_source.specs.Listing.{between}

pub joined : (at to : ℕ) (xs : List ℕ) → at ≤ to → take at xs ++ take (to - at) (drop at xs) ≡ take to xs
joined at to xs h =
    let e : at + (to - at) ≡ to = omega arith in
    sym (take-add at (to - at) xs) ∙ ap (λ (n : ℕ). take n xs) e

pub at_start : run start [] ≡ between []
unfolding run
at_start = refl
