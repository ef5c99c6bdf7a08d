-- Pages joined are what was left.
use Rattle.std.proofs.Common.{◌≡◌, ℕ, suc, ◌+◌, Bool, true, false, eqb, cond, List, [], ◌∷◌, ◌++◌, length, drop, drop-drop, refl, sym, ap, arith, ◌∙◌, inl, inr}
use Rattle.std.proofs.lemmas.Bool.Decides.{eqb_tells}
use Rattle.std.proofs.lemmas.List.{append_assoc}
use Rattle.teco_store.specs.State.{State}
use Rattle.teco_store.specs.Page.{ends_lines, lines_after, page_of, page_span, is_ended, form_feed_if, left_of, written, with_next_page, finished}
use Rattle.teco_store.specs.PageLaws.{to_write}
use Rattle.teco_store.proofs.PageEnds.{IsPage, page_nil, at_form_feed, at_last_line, before_end}

abbrev Joins : ℕ → List ℕ → Type 0
Joins lines xs = page_of lines xs ++ (form_feed_if (is_ended lines xs) ++ drop (page_span lines xs) xs) ≡ xs

-- by what the page is
joins_from : (lines : ℕ) (xs bytes : List ℕ) (v : Bool) → IsPage lines xs bytes v → bytes ++ (form_feed_if v ++ drop (length bytes + cond v 1 0) xs) ≡ xs → Joins lines xs
joins_from lines xs bytes v p h =
    ap (λ (ys : List ℕ). ys ++ (form_feed_if (is_ended lines xs) ++ drop (length ys + cond (is_ended lines xs) 1 0) xs)) p.page
    ∙ ap (λ (w : Bool). bytes ++ (form_feed_if w ++ drop (length bytes + cond w 1 0) xs)) p.ended
    ∙ h

joins_byte : (lines x : ℕ) (xs : List ℕ) (t : Bool) → ends_lines lines x ≡ t → eqb x 12 ≡ false → Joins (lines_after lines x) xs → Joins lines (x ∷ xs)
joins_byte lines x xs true h e later = joins_from lines (x ∷ xs) (x ∷ []) false (at_last_line lines x xs e h) refl
joins_byte lines x xs false h e later =
    let page : List ℕ = page_of (lines_after lines x) xs in
    let v : Bool = is_ended (lines_after lines x) xs in
    let span : suc (length page) + cond v 1 0 ≡ suc (length page + cond v 1 0) = omega arith in
    joins_from lines (x ∷ xs) (x ∷ page) v (before_end lines x xs e h)
    (ap (λ (m : ℕ). (x ∷ page) ++ (form_feed_if v ++ drop m (x ∷ xs))) span ∙ ap (λ ys. x ∷ ys) later)

pub joins : (lines : ℕ) (xs : List ℕ) → Joins lines xs
joins lines [] = joins_from lines [] [] false (page_nil lines) refl
joins lines (x ∷ xs) =
    let later = joins (lines_after lines x) xs in
    elim (eqb_tells x 12) [
      | inl e ↦ joins_from lines (x ∷ xs) [] true (at_form_feed lines x xs e.0) (ap (λ y. y ∷ xs) (sym e.1))
      | inr e ↦ joins_byte lines x xs (ends_lines lines x) refl e.0 later
    ]

pub turning_keeps : (s : State) → to_write (with_next_page s) ≡ to_write s
turning_keeps s =
    let lines = s.page_lines in
    let left = left_of s in
    let rest : left_of (with_next_page s) ≡ drop (page_span lines left) left = sym (drop-drop (page_span lines left) s.place s.input) in
    let after : written (with_next_page s) ++ left_of (with_next_page s) ≡ left =
    append_assoc (page_of lines left) (form_feed_if (is_ended lines left)) (left_of (with_next_page s)) ∙ ap (λ ys. page_of lines left ++ (form_feed_if (is_ended lines left) ++ ys)) rest ∙ joins lines left in
    append_assoc s.output (written s) (written (with_next_page s) ++ left_of (with_next_page s)) ∙ ap (λ ys. s.output ++ (written s ++ ys)) after

pub finishing_writes : (s : State) → (finished s).output ≡ to_write s
finishing_writes s = refl
