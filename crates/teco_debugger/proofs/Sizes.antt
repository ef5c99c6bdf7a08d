-- The sizes of a state, as one text shows them.
use Rattle.std.proofs.Common.{◌≡◌, ◌++◌, ◌∷◌, List, [], ℕ, append_assoc, length}
use Rattle.std.specs.Fmt.{decimal}
use Rattle.std.specs.Prelude.{codes}
use Rattle.teco_store.specs.State.{State}
use Rattle.teco_debugger.specs.Listing.{pointer_shown, pushed_shown, read_shown, sizes_shown, written_shown}

joined : (a p b l n c r d e w f g h : List ℕ)
    → a ++ (p ++ (b ++ (l ++ ((n ++ c) ++ (r ++ ((d ++ e) ++ (w ++ ((f ++ (n ++ g)) ++ (h ++ n))))))))) ≡ (a ++ p ++ b ++ l ++ n) ++ (c ++ r ++ d) ++ (e ++ w ++ f ++ n) ++ (g ++ h ++ n)
joined a p b l n c r d e w f g h = simp append_assoc

pub sizes_are : (pointer len place output pushed : ℕ) (s : State) → pointer ≡ s.pointer → len ≡ length s.text → place ≡ s.place
    → output ≡ length s.output → pushed ≡ length s.pushed
    → codes "pointer " ++ (decimal pointer ++ (codes " of " ++ (decimal len ++ ((10 ∷ codes "input ") ++ (decimal place ++ (codes " bytes read, output " ++ (decimal output
    ++ (codes " bytes written" ++ ((10 ∷ codes "pushed ") ++ (decimal pushed ++ 10 ∷ [])))))))))) ≡ sizes_shown s
unfolding sizes_shown pointer_shown read_shown written_shown pushed_shown
sizes_are pointer len place output pushed s pointer_at len_is place_at output_is pushed_is =
    rw (pointer_at, len_is, place_at, output_is, pushed_is)
    (joined (codes "pointer ") (decimal s.pointer) (codes " of ") (decimal (length s.text)) (10 ∷ []) (codes "input ") (decimal s.place) (codes " bytes read") (codes ", output ") (decimal (length s.output))
    (codes " bytes written") (codes "pushed ") (decimal (length s.pushed)))
