-- The last change of some.
use Rattle.std.proofs.Common.{◌≡◌, ℕ, ◌+◌, ◌<◌, ◌≤◌, zero, suc, List, [], ◌∷◌, length, drop, get_or, Option, Some, None, refl, ap, ◌∙◌}
use Rattle.std.proofs.lemmas.List.{at_drop_more, at_drop_all}
use Rattle.teco_store.specs.Turn.{Note}
use Rattle.teco_debugger.specs.Finding.{last_change, or_else, step_before}
use Rattle.teco_debugger.specs.declared.part.Part.{Part}

-- of changes from a place on, by the first of them and the others
pub last_change-drop : (part : Part) (notes : List Note) (i : ℕ) (note : Note) → i < length notes → get_or notes i note ≡ note
    → last_change part (drop i notes) ≡ or_else (last_change part (drop (i + 1) notes)) (step_before part note)
unfolding last_change
last_change-drop part notes i note l e = at_drop_more (last_change part) notes i note l ∙ rw e refl

-- What is found from a place on is found.
pub last_change-stays : (part : Part) (notes : List Note) (i step : ℕ) → last_change part (drop i notes) ≡ Some step → last_change part notes ≡ Some step
unfolding last_change
last_change-stays part notes zero step e = e
last_change-stays part [] (suc i) step e = e
last_change-stays part (note ∷ notes) (suc i) step e = rw (last_change-stays part notes i step e) refl

pub last_change-none : (part : Part) (notes : List Note) (i : ℕ) → length notes ≤ i → last_change part (drop i notes) ≡ None
unfolding last_change
last_change-none part notes i l = at_drop_all (last_change part) notes i l

-- one change, and the later ones, of which none is for the part
at_change : (part : Part) (notes : List Note) (i k : ℕ) (note : Note) → i < length notes → get_or notes i note ≡ note → i + 1 ≡ k → last_change part (drop k notes) ≡ None
    → last_change part (drop i notes) ≡ step_before part note
at_change part notes i k note l e next none =
    last_change-drop part notes i note l e
    ∙ ap (λ (o : Option ℕ). or_else o (step_before part note)) (ap (λ (n : ℕ). last_change part (drop n notes)) next ∙ none)

pub found_here : (part : Part) (notes : List Note) (i k : ℕ) (note : Note) (step : ℕ) → i < length notes → get_or notes i note ≡ note → i + 1 ≡ k → last_change part (drop k notes) ≡ None
    → step_before part note ≡ Some step → last_change part notes ≡ Some step
found_here part notes i k note step l e next none found = last_change-stays part notes i step (at_change part notes i k note l e next none ∙ found)

pub none_here : (part : Part) (notes : List Note) (i k : ℕ) (note : Note) → i < length notes → get_or notes i note ≡ note → i + 1 ≡ k → last_change part (drop k notes) ≡ None
    → step_before part note ≡ None → last_change part (drop i notes) ≡ None
none_here part notes i k note l e next none found = at_change part notes i k note l e next none ∙ found
