-- The pages of an input that ends a page after so many lines, and the limit of a text.
use Rattle.std.proofs.Common.{◌≡◌, ℕ, zero, suc, ◌+◌, ◌-◌, ◌*◌, ◌/◌, ◌<◌, ◌≤◌, max, Bool, true, false, cond, eqb, nat_lt, List, [], ◌∷◌, length, drop, Option, None, Some, refl, sym, ap, subst, arith, ◌∙◌, inl, inr, ◌&&◌}
use Rattle.std.proofs.Math.Nat.{le-max_left, le-max_right, max-eq_left, max-eq_right, mul-le-mul_left, div-mul-le_self}
use Rattle.std.proofs.lemmas.Bool.{cases_Bool, cases_lt, cond-true, cond-false, ltb-false, eqb-true, false_from_ne_true}
use Rattle.std.proofs.lemmas.Bool.Decides.{nat_tests}
use Rattle.teco_core.specs.Ascii.{is_line_end}
use Rattle.teco_core.specs.declared.limits.TheConstants.{TEXT_LIMIT}
use Rattle.teco_store.specs.Page.{page_of}
use Rattle.teco_cli.specs.declared.line.Line.{Line}
use Rattle.teco_driver.specs.declared.paging.TheConstants.{PAGE_BYTES}
use Rattle.teco_driver.specs.Paging.{PagesFit, is_form_feed, is_on_pages, lines_within, longest_line, longest_page, longest_part}
use Rattle.teco_driver.proofs.Parts.{at_end, divided, undivided, of_rest}

-- how a page goes on at a byte
at_nothing : (lines : ℕ) → page_of lines [] ≡ []
unfolding page_of
at_nothing lines = refl

at_form_feed : (lines b : ℕ) (bs : List ℕ) → eqb b 12 ≡ true → page_of lines (b ∷ bs) ≡ []
unfolding page_of
at_form_feed lines b bs h = cond-true _ _ _ h

at_last_line : (b : ℕ) (bs : List ℕ) → eqb b 12 ≡ false → is_line_end b ≡ true → page_of 1 (b ∷ bs) ≡ b ∷ []
unfolding page_of
at_last_line b bs h e = cond-false _ _ _ h ∙ rw e refl

at_line : (k b : ℕ) (bs : List ℕ) → eqb b 12 ≡ false → is_line_end b ≡ true → page_of (suc (suc k)) (b ∷ bs) ≡ b ∷ page_of (suc k) bs
unfolding page_of
at_line k b bs h e =
    let two : eqb (suc (suc k)) 1 ≡ false = false_from_ne_true (eqb (suc (suc k)) 1) (λ x. let y : suc (suc k) ≡ 1 = eqb-true (suc (suc k)) 1 x in absurd (omega arith)) in
    let after : suc (suc k) - 1 ≡ suc k = omega arith in
    cond-false _ _ _ h ∙ rw (e, two, after) refl

-- a form feed ends a line
line_end : (b : ℕ) → eqb b 12 ≡ true → is_line_end b ≡ true
line_end b h = grind (arith, nat_tests)

no_form_feed : (b : ℕ) → is_line_end b ≡ false → eqb b 12 ≡ false
no_form_feed b e = grind (arith, nat_tests)

in_line : (lines b : ℕ) (bs : List ℕ) → is_line_end b ≡ false → page_of lines (b ∷ bs) ≡ b ∷ page_of lines bs
unfolding page_of
in_line lines b bs e = cond-false _ _ _ (no_form_feed b e) ∙ rw e refl

at_byte : (b : ℕ) (bs : List ℕ) → eqb b 12 ≡ false → page_of 0 (b ∷ bs) ≡ b ∷ page_of 0 bs
unfolding page_of
at_byte b bs h = elim (cases_Bool (is_line_end b)) [
  | inl e ↦ cond-false _ _ _ h ∙ rw e refl
  | inr e ↦ in_line 0 b bs e
]

one_line : (k m n : ℕ) → n ≤ m + 1 → n ≤ suc k * (m + 1)
one_line k m n h = grind arith

more_lines : (k before l m n : ℕ) → n ≤ suc k * (l + 1) → l ≤ m → before ≤ m → before + suc n ≤ suc (suc k) * (m + 1)
more_lines k before l m n h low first =
    let le : l + 1 ≤ m + 1 = omega arith in
    let more : suc k * (l + 1) ≤ suc k * (m + 1) = mul-le-mul_left (suc k) le in
    let one : suc (suc k) * (m + 1) ≡ suc k * (m + 1) + (m + 1) = omega arith in
    omega arith

abbrev longest : ℕ → List ℕ → ℕ
longest before xs = longest_part is_line_end before xs

-- at the end of a line
of_line : (k before b : ℕ) (bs : List ℕ) → eqb b 12 ≡ false → is_line_end b ≡ true → longest before (b ∷ bs) ≡ max before (longest 0 bs)
    → before ≤ max before (longest 0 bs) → longest 0 bs ≤ max before (longest 0 bs) → ((j : ℕ) → length (page_of (suc j) bs) ≤ suc j * (longest 0 bs + 1))
    → before + length (page_of (suc k) (b ∷ bs)) ≤ suc k * (longest before (b ∷ bs) + 1)
of_line zero before b bs f e d first rest later =
    let page = ap length (at_last_line b bs f e) in
    one_line 0 (longest before (b ∷ bs)) (before + length (page_of 1 (b ∷ bs))) (omega arith)
of_line (suc k) before b bs f e d first rest later =
    let page = ap length (at_line k b bs f e) in
    let more = more_lines k before (longest 0 bs) (longest before (b ∷ bs)) (length (page_of (suc k) bs)) (later k) (omega arith) (omega arith) in
    omega arith

-- A page of some lines is no longer than so many of the longest one, each with its end.
of_lines : (k before : ℕ) (xs : List ℕ) → before + length (page_of (suc k) xs) ≤ suc k * (longest before xs + 1)
of_lines k before [] =
    let page = ap length (at_nothing (suc k)) in
    one_line k (longest before []) (before + length (page_of (suc k) [])) (let e = at_end is_line_end before in omega arith)
of_lines k before (b ∷ bs) = elim (cases_Bool (is_line_end b)) [
  | inl e ↦
      let d = divided is_line_end before b bs e in
      let first = le-max_left before (longest 0 bs) in
      let rest = le-max_right before (longest 0 bs) in
      elim (cases_Bool (eqb b 12)) [
        | inl f ↦
            let page = ap length (at_form_feed (suc k) b bs f) in
            one_line k (longest before (b ∷ bs)) (before + length (page_of (suc k) (b ∷ bs))) (omega arith)
        | inr f ↦ of_line k before b bs f e d first rest (λ j. let later = of_lines j 0 bs in omega arith)
      ]
  | inr e ↦
      let d = undivided is_line_end before b bs e in
      let page = ap length (in_line (suc k) b bs e) in
      let later = of_lines k (before + 1) bs in
      let same : suc k * (longest before (b ∷ bs) + 1) ≡ suc k * (longest (before + 1) bs + 1) = ap (λ n. suc k * (n + 1)) d in
      omega arith
]

-- A page that only a form feed ends is no longer than the longest one.
of_any_lines : (before : ℕ) (xs : List ℕ) → before + length (page_of 0 xs) ≤ longest_part is_form_feed before xs
of_any_lines before [] = let page = ap length (at_nothing 0) in let e = at_end is_form_feed before in omega arith
of_any_lines before (b ∷ bs) = elim (cases_Bool (eqb b 12)) [
  | inl f ↦
      let d = divided is_form_feed before b bs f in
      let page = ap length (at_form_feed 0 b bs f) in
      let first = le-max_left before (longest_part is_form_feed 0 bs) in
      omega arith
  | inr f ↦
      let d = undivided is_form_feed before b bs f in
      let page = ap length (at_byte b bs f) in
      let later = of_any_lines (before + 1) bs in
      omega arith
]

-- so many lines are short enough
short : (longest : ℕ) → longest < TEXT_LIMIT → max 1 (PAGE_BYTES / (longest + 1)) * (longest + 1) ≤ TEXT_LIMIT
short longest less =
    let n : ℕ = PAGE_BYTES / (longest + 1) in
    let most : n * (longest + 1) ≤ PAGE_BYTES = div-mul-le_self PAGE_BYTES (longest + 1) in
    elim (cases_lt 1 n) [
      | inl some ↦ let m : max 1 n ≡ n = max-eq_right (omega arith) in subst (λ (k : ℕ). k * (longest + 1) ≤ TEXT_LIMIT) (sym m) (omega arith)
      | inr one ↦ let m : max 1 n ≡ 1 = max-eq_left one in subst (λ (k : ℕ). k * (longest + 1) ≤ TEXT_LIMIT) (sym m) (omega arith)
    ]

-- of some lines
of_some : (lines place : ℕ) (input : List ℕ) → 0 < lines → lines * (longest_line input + 1) ≤ TEXT_LIMIT → length (page_of lines (drop place input)) ≤ TEXT_LIMIT
of_some zero place input some most = absurd (omega arith)
of_some (suc k) place input some most =
    let page = of_lines k 0 (drop place input) in
    let rest = of_rest is_line_end place 0 input in
    let le : longest 0 (drop place input) + 1 ≤ longest_line input + 1 = omega arith in
    let all : suc k * (longest 0 (drop place input) + 1) ≤ suc k * (longest_line input + 1) = mul-le-mul_left (suc k) le in
    omega arith

fits_by : (long : Bool) (place : ℕ) (input : List ℕ) → nat_lt TEXT_LIMIT (longest_page input) ≡ long → longest_line input < TEXT_LIMIT
    → length (page_of (cond long (lines_within input) 0) (drop place input)) ≤ TEXT_LIMIT
fits_by true place input h less =
    let most = short (longest_line input) less in
    of_some (lines_within input) place input (let some = le-max_left 1 (PAGE_BYTES / (longest_line input + 1)) in omega arith) most
fits_by false place input h less =
    let page = of_any_lines 0 (drop place input) in
    let rest = of_rest is_form_feed place 0 input in
    let all = ltb-false TEXT_LIMIT (longest_page input) h in
    omega arith

at_line_of : (lines : Option ℕ) (pages : Bool) (place : ℕ) (input : List ℕ) → lines ≡ None → pages ≡ true → longest_line input < TEXT_LIMIT
    → length (page_of (elim lines [
      | Some n ↦ n
      | None ↦ cond (pages && nat_lt TEXT_LIMIT (longest_page input)) (lines_within input) 0
    ]) (drop place input)) ≤ TEXT_LIMIT
at_line_of (Some n) pages place input none h less = cc
at_line_of None false place input none h less = cc
at_line_of None true place input none h less = fits_by (nat_lt TEXT_LIMIT (longest_page input)) place input refl less

pub pages_fit : (line : Line) (input : List ℕ) → PagesFit line input
pages_fit line input none pages less place = at_line_of line.page_lines (is_on_pages line.commands) place input none pages less
