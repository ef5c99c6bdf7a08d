-- Worked rows of a history with a depth of two, computed.
use Rattle.std.proofs.Common.{◌≡◌, ℕ, Option, None, Some, List, [], ◌∷◌, length, refl}
use Rattle.teco_store.specs.State.{State}
use Rattle.teco_session.specs.History.{History, NotedString, noted, undone}

-- strings in a row, all done
after : State → List NotedString → Option ℕ → History
after first notes depth = record { first = first; notes = notes; cursor = length notes; depth = depth }

-- A third string drops the first one and the state before it; without a depth nothing goes. A string after an undo drops the undone one alone.
depth_of_two : (s : State) (a b c : NotedString)
    → (noted (after s (a ∷ b ∷ []) (Some 2)) c ≡ after a.state (b ∷ c ∷ []) (Some 2))
    × (noted (after s (a ∷ b ∷ []) None) c ≡ after s (a ∷ b ∷ c ∷ []) None)
    × (noted (undone (after s (a ∷ b ∷ []) (Some 2))) c ≡ after s (a ∷ c ∷ []) (Some 2))
    × (noted (undone (undone (after s (a ∷ b ∷ []) (Some 2)))) c ≡ after s (c ∷ []) (Some 2))
unfolding after
depth_of_two s a b c = (refl, refl, refl, refl)
