-- The steps of the changes that are for a part, the last first.
use Rattle.std.proofs.Common.{◌≡◌, ℕ, ◌+◌, ◌<◌, ◌≤◌, List, [], ◌∷◌, ◌++◌, length, drop, get_or, Option, Some, None, refl, sym, ap, ◌∙◌, append-nil}
use Rattle.std.proofs.lemmas.List.{at_drop_more, at_drop_all}
use Rattle.teco_store.specs.Turn.{Note}
use Rattle.teco_debugger.specs.Finding.{step_before}
use Rattle.teco_debugger.specs.History.{change_steps, step_if}
use Rattle.teco_debugger.specs.declared.part.Part.{Part}

-- of changes from a place on, by the first of them and the others
steps-drop : (part : Part) (notes : List Note) (i k : ℕ) (note : Note) → i < length notes → get_or notes i note ≡ note → i + 1 ≡ k
    → change_steps part (drop i notes) ≡ change_steps part (drop k notes) ++ step_if (step_before part note)
unfolding change_steps
steps-drop part notes i k note l e next =
    at_drop_more (change_steps part) notes i note l ∙ rw e refl ∙ ap (λ (n : ℕ). change_steps part (drop n notes) ++ step_if (step_before part note)) next

pub steps-none : (part : Part) (notes : List Note) (i : ℕ) → length notes ≤ i → change_steps part (drop i notes) ≡ []
unfolding change_steps
steps-none part notes i l = at_drop_all (change_steps part) notes i l

pub steps-empty : (part : Part) → change_steps part [] ≡ []
unfolding change_steps
steps-empty part = refl

-- one that is for the part comes behind the later ones
pub step_more : (part : Part) (notes : List Note) (i k : ℕ) (note : Note) (step : ℕ) (steps : List ℕ) → i < length notes → get_or notes i note ≡ note → i + 1 ≡ k
    → steps ≡ change_steps part (drop k notes) → step_before part note ≡ Some step → steps ++ step ∷ [] ≡ change_steps part (drop i notes)
step_more part notes i k note step steps l e next so found =
    ap (λ (ns : List ℕ). ns ++ step ∷ []) so ∙ ap (λ (o : Option ℕ). change_steps part (drop k notes) ++ step_if o) (sym found)
    ∙ sym (steps-drop part notes i k note l e next)

-- and one that is not adds nothing
pub step_passed : (part : Part) (notes : List Note) (i k : ℕ) (note : Note) (steps : List ℕ) → i < length notes → get_or notes i note ≡ note → i + 1 ≡ k
    → steps ≡ change_steps part (drop k notes) → step_before part note ≡ None → steps ≡ change_steps part (drop i notes)
step_passed part notes i k note steps l e next so found =
    so ∙ sym (append-nil (change_steps part (drop k notes))) ∙ ap (λ (o : Option ℕ). change_steps part (drop k notes) ++ step_if o) (sym found)
    ∙ sym (steps-drop part notes i k note l e next)
