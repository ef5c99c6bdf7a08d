-- The turns of open blocks, one block after the other.
use Rattle.std.proofs.Common.{◌≡◌, ℕ, ◌+◌, ◌<◌, ◌++◌, List, [], ◌∷◌, length, get_or, reverse, take, Option, Some, None, refl, sym, ap, ◌∙◌, append_assoc, inl, inr, ◌⊎◌}
use Rattle.teco_scan.specs.declared.blocks.Kind.TheVariants.{Iter}
use Rattle.teco_scan.specs.declared.blocks.Kind.TheVariants as kinds
use Rattle.teco_exec.specs.Frames.{frames, kind_of, turns_left, turns_open}
use Rattle.teco_exec.specs.Places.{open_turns}
use Rattle.teco_exec.specs.declared.blocks.Block.{Block}
use Rattle.teco_exec.specs.declared.blocks.Body.{Body}
use Rattle.teco_exec.specs.declared.blocks.Body.TheVariants.{Endless, Turns, Then, Else}
use Rattle.teco_exec.proofs.Frames.{innermost}

abbrev with_body : Body → List (Option ℕ) → List (Option ℕ)
with_body Endless more = None ∷ more
with_body (Turns n) more = Some n ∷ more
with_body Then more = more
with_body Else more = more

opened_by : (k : Body) (more : List (Option ℕ)) → (elim k [ Endless ↦ None ∷ more | Turns n ↦ Some n ∷ more | Then ↦ more | Else ↦ more ]) ≡ with_body k more
opened_by Endless more = refl
opened_by (Turns n) more = refl
opened_by Then more = refl
opened_by Else more = refl

opened : (b : Block) (bs : List Block) → turns_open (b ∷ bs) ≡ with_body b.body (turns_open bs)
unfolding turns_open
opened b bs = opened_by b.body (turns_open bs)

-- One block more is looked at: an iteration, or a part of a conditional.
looked : (xs : List Block) (d n : ℕ) (blank : Block) (k : Body) → n ≡ d + 1 → d < length xs → (get_or xs d blank).body ≡ k → turns_open (reverse (take n xs)) ≡ with_body k (turns_open (reverse (take d xs)))
looked xs d n blank k one lt is =
    ap (λ j. turns_open (reverse (take j xs))) one ∙ ap turns_open (innermost xs d blank lt) ∙ opened (get_or xs d blank) (reverse (take d xs)) ∙ ap (λ b. with_body b (turns_open (reverse (take d xs)))) is

pub turn_more : (xs : List Block) (d n : ℕ) (blank : Block) (k : Body) (x : Option ℕ) (so all : List (Option ℕ)) → n ≡ d + 1 → d < length xs → (get_or xs d blank).body ≡ k → with_body k (turns_open (reverse (take d xs))) ≡ x ∷ turns_open (reverse (take d xs))
    → so ++ turns_open (reverse (take n xs)) ≡ all → (so ++ x ∷ []) ++ turns_open (reverse (take d xs)) ≡ all
turn_more xs d n blank k x so all one lt is e h =
    append_assoc so (x ∷ []) (turns_open (reverse (take d xs))) ∙ ap (λ y. so ++ y) (sym (looked xs d n blank k one lt is ∙ e)) ∙ h

pub part_more : (xs : List Block) (d n : ℕ) (blank : Block) (so all : List (Option ℕ)) → n ≡ d + 1 → d < length xs → ((get_or xs d blank).body ≡ Then) ⊎ ((get_or xs d blank).body ≡ Else)
    → so ++ turns_open (reverse (take n xs)) ≡ all → so ++ turns_open (reverse (take d xs)) ≡ all
part_more xs d n blank so all one lt (inl is) h = ap (λ y. so ++ y) (sym (looked xs d n blank Then one lt is)) ∙ h
part_more xs d n blank so all one lt (inr is) h = ap (λ y. so ++ y) (sym (looked xs d n blank Else one lt is)) ∙ h

pub turns_none : turns_open [] ≡ []
unfolding turns_open
turns_none = refl

-- They are those of the machine's frames.
by_body : (k : Body) (more some : List (Option ℕ)) → more ≡ some → (elim (kind_of k) [ Iter ↦ turns_left k ∷ more | kinds.Then ↦ more | kinds.Else ↦ more ]) ≡ with_body k some
by_body Endless more some e = ap (λ y. None ∷ y) e
by_body (Turns n) more some e = ap (λ y. Some n ∷ y) e
by_body Then more some e = e
by_body Else more some e = e

pub turns_same : (text : List ℕ) (bs : List Block) → open_turns (frames text bs) ≡ turns_open bs
unfolding frames open_turns turns_open
turns_same text [] = refl
turns_same text (b ∷ bs) = by_body b.body (open_turns (frames text bs)) (turns_open bs) (turns_same text bs) ∙ sym (opened b bs)
