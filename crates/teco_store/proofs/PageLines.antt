-- The lines of a page.
use Rattle.std.proofs.Common.{◌≡◌, ℕ, suc, ◌+◌, ◌-◌, ◌<◌, ◌≤◌, Bool, true, false, eqb, not, ltb, cond, List, [], ◌∷◌, ◌++◌, length, take_while, count_by, refl, sym, ap, subst, arith, ◌∙◌, inl, inr}
use Rattle.std.proofs.lemmas.Bool.{cases_lt, lt-ltb, le-ltb, eqb-true, eqb-false, true≢false}
use Rattle.std.proofs.lemmas.Bool.Decides.{eqb_tells}
use Rattle.std.proofs.lemmas.List.Sums.{sum_by-cons, take_while-cons}
use Rattle.teco_core.specs.Ascii.{is_line_end}
use Rattle.teco_store.specs.Page.{ends_lines, lines_after, page_of, is_ended}
use Rattle.teco_store.proofs.PageEnds.{IsPage, page_nil, at_form_feed, at_last_line, before_end, in_line, with_no_lines}

-- with no number of lines
abbrev before_form_feed : List ℕ → List ℕ
before_form_feed xs = take_while (λ b. not (eqb b 12)) xs

ltb_suc : (a b : ℕ) → ltb (suc a) (suc b) ≡ ltb a b
ltb_suc a b = elim (cases_lt a b) [
  | inl l ↦ lt-ltb (suc a) (suc b) (omega arith) ∙ sym (lt-ltb a b l)
  | inr g ↦ le-ltb (suc a) (suc b) (omega arith) ∙ sym (le-ltb a b g)
]

pub alone : (xs : List ℕ) → IsPage 0 xs (before_form_feed xs) (ltb (length (before_form_feed xs)) (length xs))
alone [] = page_nil 0
alone (x ∷ xs) =
    let later = alone xs in
    elim (eqb_tells x 12) [
      | inl e ↦
          let none : before_form_feed (x ∷ xs) ≡ [] = take_while-cons (λ b. not (eqb b 12)) x xs ∙ ap (λ (t : Bool). cond (not t) (x ∷ before_form_feed xs) []) e.0 in
          let end : ltb (length (before_form_feed (x ∷ xs))) (suc (length xs)) ≡ true = ap (λ (ys : List ℕ). ltb (length ys) (suc (length xs))) none ∙ lt-ltb 0 (suc (length xs)) (omega arith) in
          let p = at_form_feed 0 x xs e.0 in
          record { page = p.page ∙ sym none; ended = p.ended ∙ sym end }
      | inr e ↦
          let more : before_form_feed (x ∷ xs) ≡ x ∷ before_form_feed xs = take_while-cons (λ b. not (eqb b 12)) x xs ∙ ap (λ (t : Bool). cond (not t) (x ∷ before_form_feed xs) []) e.0 in
          let end : ltb (length (before_form_feed (x ∷ xs))) (suc (length xs)) ≡ ltb (length (before_form_feed xs)) (length xs) =
          ap (λ (ys : List ℕ). ltb (length ys) (suc (length xs))) more ∙ ltb_suc (length (before_form_feed xs)) (length xs) in
          let p = in_line 0 x xs (with_no_lines x e.0) in
          record { page = p.page ∙ ap (λ ys. x ∷ ys) later.page ∙ sym more; ended = p.ended ∙ later.ended ∙ sym end }
    ]

-- the last of its lines
last_of : (lines x : ℕ) (t : Bool) → is_line_end x ≡ t → ends_lines lines x ≡ true → (is_line_end x ≡ true) × (lines ≡ 1)
last_of lines x true h e = let one : eqb lines 1 ≡ true = (rw h at e) in (h, eqb-true lines 1 one)
last_of lines x false h e = let none : false ≡ true = (rw h at e) in absurd (true≢false (sym none))

-- or another
not_last : (lines x : ℕ) → is_line_end x ≡ true → ends_lines lines x ≡ false → (lines ≡ 1 → ⊥) × (lines_after lines x ≡ lines - 1)
not_last lines x h e = let two : eqb lines 1 ≡ false = (rw h at e) in (eqb-false lines 1 two, rw h refl)

count_end : (x : ℕ) (xs : List ℕ) → is_line_end x ≡ true → count_by is_line_end (x ∷ xs) ≡ 1 + count_by is_line_end xs
count_end x xs h = sum_by-cons (λ (y : ℕ). cond (is_line_end y) 1 0) x xs ∙ ap (λ (t : Bool). cond t 1 0 + count_by is_line_end xs) h

count_other : (x : ℕ) (xs : List ℕ) → is_line_end x ≡ false → count_by is_line_end (x ∷ xs) ≡ count_by is_line_end xs
count_other x xs h = sum_by-cons (λ (y : ℕ). cond (is_line_end y) 1 0) x xs ∙ ap (λ (t : Bool). cond t 1 0 + count_by is_line_end xs) h ∙ omega arith

abbrev Few : ℕ → List ℕ → Type 0
Few lines xs = 0 < lines → count_by is_line_end (page_of lines xs) ≤ lines

few_from : (lines : ℕ) (xs bytes : List ℕ) (v : Bool) → IsPage lines xs bytes v → (0 < lines → count_by is_line_end bytes ≤ lines) → Few lines xs
few_from lines xs bytes v p h = subst (λ (ys : List ℕ). 0 < lines → count_by is_line_end ys ≤ lines) (sym p.page) h

few_more : (lines x : ℕ) (bytes : List ℕ) (t : Bool) → is_line_end x ≡ t → ends_lines lines x ≡ false
    → (0 < lines_after lines x → count_by is_line_end bytes ≤ lines_after lines x) → 0 < lines → count_by is_line_end (x ∷ bytes) ≤ lines
few_more lines x bytes true h e later some =
    let n = not_last lines x h e in
    let one = n.0 in
    let after = n.1 in
    let least : 0 < lines_after lines x = omega arith in
    let k = later least in
    let c = count_end x bytes h in
    omega arith
few_more lines x bytes false h e later some =
    let after : lines_after lines x ≡ lines = rw h refl in
    let k = later (omega arith) in
    let c = count_other x bytes h in
    omega arith

few_byte : (lines x : ℕ) (xs : List ℕ) (t : Bool) → ends_lines lines x ≡ t → eqb x 12 ≡ false → Few (lines_after lines x) xs → Few lines (x ∷ xs)
few_byte lines x xs true h e later =
    let l = last_of lines x (is_line_end x) refl h in
    let c = count_end x [] l.0 in
    let one = l.1 in
    few_from lines (x ∷ xs) (x ∷ []) false (at_last_line lines x xs e h) (λ some. omega arith)
few_byte lines x xs false h e later =
    few_from lines (x ∷ xs) (x ∷ page_of (lines_after lines x) xs) (is_ended (lines_after lines x) xs) (before_end lines x xs e h)
    (few_more lines x (page_of (lines_after lines x) xs) (is_line_end x) refl h later)

pub few : (lines : ℕ) (xs : List ℕ) → Few lines xs
few lines [] = few_from lines [] [] false (page_nil lines) (λ some. omega arith)
few lines (x ∷ xs) =
    let later = few (lines_after lines x) xs in
    elim (eqb_tells x 12) [
      | inl e ↦ few_from lines (x ∷ xs) [] true (at_form_feed lines x xs e.0) (λ some. omega arith)
      | inr e ↦ few_byte lines x xs (ends_lines lines x) refl e.0 later
    ]

-- A page of lines is a front of the whole one.
abbrev IsFront : ℕ → List ℕ → Type 0
IsFront lines xs = (rest : List ℕ) × (page_of 0 xs ≡ page_of lines xs ++ rest)

front_from : (lines : ℕ) (xs bytes all rest : List ℕ) (v w : Bool) → IsPage lines xs bytes v → IsPage 0 xs all w → all ≡ bytes ++ rest → IsFront lines xs
front_from lines xs bytes all rest v w p q e = (rest, q.page ∙ e ∙ ap (λ (ys : List ℕ). ys ++ rest) (sym p.page))

front_byte : (lines x : ℕ) (xs : List ℕ) (t : Bool) → ends_lines lines x ≡ t → eqb x 12 ≡ false → IsFront (lines_after lines x) xs → IsFront lines (x ∷ xs)
front_byte lines x xs true h e later =
    front_from lines (x ∷ xs) (x ∷ []) (x ∷ page_of 0 xs) (page_of 0 xs) false (is_ended 0 xs) (at_last_line lines x xs e h) (in_line 0 x xs (with_no_lines x e)) refl
front_byte lines x xs false h e later =
    front_from lines (x ∷ xs) (x ∷ page_of (lines_after lines x) xs) (x ∷ page_of 0 xs) later.0 (is_ended (lines_after lines x) xs) (is_ended 0 xs)
    (before_end lines x xs e h) (in_line 0 x xs (with_no_lines x e)) (ap (λ ys. x ∷ ys) later.1)

pub front : (lines : ℕ) (xs : List ℕ) → IsFront lines xs
front lines [] = front_from lines [] [] [] [] false false (page_nil lines) (page_nil 0) refl
front lines (x ∷ xs) =
    let later = front (lines_after lines x) xs in
    elim (eqb_tells x 12) [
      | inl e ↦ front_from lines (x ∷ xs) [] [] [] true true (at_form_feed lines x xs e.0) (at_form_feed 0 x xs e.0) refl
      | inr e ↦ front_byte lines x xs (ends_lines lines x) refl e.0 later
    ]

-- One that ends before all else ends at the last of its lines.
record EndsWith (lines : ℕ) (bytes : List ℕ) : Type 0 where
  pub front : List ℕ
  pub last : ℕ
  pub bytes_are : bytes ≡ front ++ last ∷ []
  pub line_end : is_line_end last ≡ true
  pub count : count_by is_line_end front + 1 ≡ lines

abbrev Ends : ℕ → List ℕ → Type 0
Ends lines xs = is_ended lines xs ≡ false → length (page_of lines xs) < length xs → EndsWith lines (page_of lines xs)

ends_from : (lines : ℕ) (xs bytes : List ℕ) (v : Bool) → IsPage lines xs bytes v → (v ≡ false → length bytes < length xs → EndsWith lines bytes) → Ends lines xs
ends_from lines xs bytes v p h ended less =
    subst (λ (ys : List ℕ). EndsWith lines ys) (sym p.page) (h (sym p.ended ∙ ended) (subst (λ (ys : List ℕ). length ys < length xs) p.page less))

ends_more : (lines x : ℕ) (bytes : List ℕ) (t : Bool) → is_line_end x ≡ t → ends_lines lines x ≡ false → EndsWith (lines_after lines x) bytes → EndsWith lines (x ∷ bytes)
ends_more lines x bytes true h e later =
    let n = not_last lines x h e in
    let after = n.1 in
    let k = later.count in
    let c = count_end x later.front h in
    record { front = x ∷ later.front; last = later.last; bytes_are = ap (λ ys. x ∷ ys) later.bytes_are; line_end = later.line_end; count = omega arith }
ends_more lines x bytes false h e later =
    let after : lines_after lines x ≡ lines = rw h refl in
    let k = later.count in
    let c = count_other x later.front h in
    record { front = x ∷ later.front; last = later.last; bytes_are = ap (λ ys. x ∷ ys) later.bytes_are; line_end = later.line_end; count = omega arith }

ends_byte : (lines x : ℕ) (xs : List ℕ) (t : Bool) → ends_lines lines x ≡ t → eqb x 12 ≡ false → Ends (lines_after lines x) xs → Ends lines (x ∷ xs)
ends_byte lines x xs true h e later =
    let l = last_of lines x (is_line_end x) refl h in
    let none : List ℕ = [] in
    ends_from lines (x ∷ xs) (x ∷ []) false (at_last_line lines x xs e h)
    (λ ended less. record { front = none; last = x; bytes_are = refl; line_end = l.0; count = let one = l.1 in omega arith })
ends_byte lines x xs false h e later =
    ends_from lines (x ∷ xs) (x ∷ page_of (lines_after lines x) xs) (is_ended (lines_after lines x) xs) (before_end lines x xs e h)
    (λ ended less. ends_more lines x (page_of (lines_after lines x) xs) (is_line_end x) refl h (later ended (omega arith)))

ends : (lines : ℕ) (xs : List ℕ) → Ends lines xs
ends lines [] = ends_from lines [] [] false (page_nil lines) (λ ended less. absurd (omega arith))
ends lines (x ∷ xs) =
    let later = ends (lines_after lines x) xs in
    elim (eqb_tells x 12) [
      | inl e ↦ ends_from lines (x ∷ xs) [] true (at_form_feed lines x xs e.0) (λ ended less. absurd (true≢false ended))
      | inr e ↦ ends_byte lines x xs (ends_lines lines x) refl e.0 later
    ]

pub ends_at_last : (lines : ℕ) (xs : List ℕ) → is_ended lines xs ≡ false → length (page_of lines xs) < length xs
    → (front : List ℕ) × (b : ℕ) × (page_of lines xs ≡ front ++ b ∷ []) × (is_line_end b ≡ true) × (count_by is_line_end front + 1 ≡ lines)
ends_at_last lines xs ended less = let e = ends lines xs ended less in (e.front, e.last, e.bytes_are, e.line_end, e.count)
