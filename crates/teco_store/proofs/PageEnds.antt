-- Where a page ends: what a search for its end finds.
use Rattle.std.proofs.Common.{◌≡◌, ℕ, suc, zero, ◌+◌, ◌-◌, ◌<◌, ◌≤◌, true, false, Bool, cond, eqb, List, [], ◌∷◌, ◌++◌, length, get_or, take, drop, Option, Some, None, length-drop, refl, sym, ap, ◌∙◌, subst, arith, inl, inr}
use Rattle.std.proofs.lemmas.Bool.{false_from_ne_true, true≢false, eqb-true, eq-eqb}
use Rattle.std.proofs.lemmas.Bool.Decides.{eqb_tells}
use Rattle.std.proofs.lemmas.List.{take_all, take_rest, append-nil, append_assoc, get_or-drop, drop-drop, take-append-drop}
use Rattle.std.proofs.Math.Seq.{drop-length, drop-cons, take-add}
use Rattle.memchr.specs.Find.{IsFirstByte, is_byte}
use Rattle.teco_core.specs.Ascii.{is_line_end}
use Rattle.teco_store.specs.Page.{ends_lines, lines_after, page_of, is_ended}

-- A byte that is within a page and ends no line of it.
pub record IsInLine (lines b : ℕ) : Type 0 where
  pub page : eqb b 12 ≡ false
  pub last : ends_lines lines b ≡ false
  pub same : lines_after lines b ≡ lines

-- so is each byte where lines don't end the page, but for a form feed
pub with_no_lines : (b : ℕ) → eqb b 12 ≡ false → IsInLine 0 b
with_no_lines b e = by (is_line_end b) refl
  where
    by : (t : Bool) → is_line_end b ≡ t → IsInLine 0 b
    by true h = record { page = e; last = rw h refl; same = rw h refl }
    by false h = record { page = e; last = rw h refl; same = rw h refl }

-- and each that ends no line
pub not_form_feed : (b : ℕ) → is_line_end b ≡ false → eqb b 12 ≡ false
not_form_feed b h = elim (eqb_tells b 12) [
  | inl e ↦ let here : is_line_end 12 ≡ false = subst (λ (x : ℕ). is_line_end x ≡ false) e.1 h in absurd (true≢false here)
  | inr e ↦ e.0
]

no_line_end : (lines b : ℕ) → is_line_end b ≡ false → IsInLine lines b
no_line_end lines b h = record { page = not_form_feed b h; last = rw h refl; same = rw h refl }

-- What a page is, and whether a form feed ends it.
pub record IsPage (lines : ℕ) (left bytes : List ℕ) (by_form_feed : Bool) : Type 0 where
  pub page : page_of lines left ≡ bytes
  pub ended : is_ended lines left ≡ by_form_feed

pub page_nil : (lines : ℕ) → IsPage lines [] [] false
unfolding page_of
page_nil lines = record { page = refl; ended = refl }

pub at_form_feed : (lines b : ℕ) (bs : List ℕ) → eqb b 12 ≡ true → IsPage lines (b ∷ bs) [] true
unfolding page_of
at_form_feed lines b bs e = record { page = rw e refl; ended = rw e refl }

-- by the tests of a byte
by_tests : (lines b : ℕ) (bs : List ℕ) (t u : Bool) → eqb b 12 ≡ t → ends_lines lines b ≡ u
    → IsPage lines (b ∷ bs) (cond t [] (b ∷ cond u [] (page_of (lines_after lines b) bs))) (cond t true (cond u false (is_ended (lines_after lines b) bs)))
unfolding page_of
by_tests lines b bs t u e h =
    let later : List ℕ = page_of (lines_after lines b) bs in
    let after : Bool = is_ended (lines_after lines b) bs in
    record {
      page = ap (λ (x : Bool). cond x [] (b ∷ cond (ends_lines lines b) [] later)) e ∙ ap (λ (y : Bool). cond t [] (b ∷ cond y [] later)) h;
      ended = ap (λ (x : Bool). cond x true (cond (ends_lines lines b) false after)) e ∙ ap (λ (y : Bool). cond t true (cond y false after)) h;
    }

pub at_last_line : (lines b : ℕ) (bs : List ℕ) → eqb b 12 ≡ false → ends_lines lines b ≡ true → IsPage lines (b ∷ bs) (b ∷ []) false
at_last_line lines b bs e h = by_tests lines b bs false true e h

pub before_end : (lines b : ℕ) (bs : List ℕ) → eqb b 12 ≡ false → ends_lines lines b ≡ false
    → IsPage lines (b ∷ bs) (b ∷ page_of (lines_after lines b) bs) (is_ended (lines_after lines b) bs)
before_end lines b bs e h = by_tests lines b bs false false e h

pub in_line : (lines b : ℕ) (bs : List ℕ) → IsInLine lines b → IsPage lines (b ∷ bs) (b ∷ page_of lines bs) (is_ended lines bs)
in_line lines b bs h =
    subst (λ (n : ℕ). IsPage lines (b ∷ bs) (b ∷ page_of n bs) (is_ended n bs)) h.same (before_end lines b bs h.page h.last)

-- after so many bytes that end no line of it
past_in_line : (lines : ℕ) (xs : List ℕ) (n : ℕ) → n ≤ length xs → ((k : ℕ) → k < n → IsInLine lines (get_or xs k 0))
    → IsPage lines xs (take n xs ++ page_of lines (drop n xs)) (is_ended lines (drop n xs))
past_in_line lines xs zero inside each = record { page = refl; ended = refl }
past_in_line lines [] (suc n) inside each = absurd (omega arith)
past_in_line lines (x ∷ xs) (suc n) inside each =
    let first = in_line lines x xs (each 0 (omega arith)) in
    let later = past_in_line lines xs n (omega arith) (λ k below. each (suc k) (omega arith)) in
    record { page = first.page ∙ ap (λ ys. x ∷ ys) later.page; ended = first.ended ∙ later.ended }

-- all of what is left
past_all : (lines : ℕ) (xs : List ℕ) → ((k : ℕ) → k < length xs → IsInLine lines (get_or xs k 0)) → IsPage lines xs xs false
past_all lines xs each =
    let n = length xs in
    let p = past_in_line lines xs n (omega arith) each in
    let none : drop n xs ≡ [] = drop-length xs in
    let nil = page_nil lines in
    record {
      page = p.page ∙ ap (λ (ys : List ℕ). take n xs ++ page_of lines ys) none ∙ ap (λ (ys : List ℕ). take n xs ++ ys) nil.page ∙ append-nil (take n xs) ∙ take_all n xs (omega arith);
      ended = p.ended ∙ ap (is_ended lines) none ∙ nil.ended;
    }

-- up to a form feed
past_to_form_feed : (lines : ℕ) (xs : List ℕ) (n : ℕ) → n < length xs → ((k : ℕ) → k < n → IsInLine lines (get_or xs k 0)) → eqb (get_or xs n 0) 12 ≡ true
    → IsPage lines xs (take n xs) true
past_to_form_feed lines xs n inside each here =
    let p = past_in_line lines xs n (omega arith) each in
    let rest = drop-cons xs n 0 inside in
    let end = at_form_feed lines (get_or xs n 0) (drop (suc n) xs) here in
    record {
      page = p.page ∙ ap (λ (ys : List ℕ). take n xs ++ page_of lines ys) rest ∙ ap (λ (ys : List ℕ). take n xs ++ ys) end.page ∙ append-nil (take n xs);
      ended = p.ended ∙ ap (is_ended lines) rest ∙ end.ended;
    }

-- What a search for a form feed finds, where lines don't end a page.
pub page_whole : (xs : List ℕ) → IsFirstByte (is_byte 12) xs None → IsPage 0 xs xs false
page_whole xs h = past_all 0 xs (λ k inside. with_no_lines (get_or xs k 0) (false_from_ne_true (eqb (get_or xs k 0) 12) (λ e. h k (omega arith) inside e)))

pub page_front : (xs : List ℕ) (n : ℕ) → IsFirstByte (is_byte 12) xs (Some n) → IsPage 0 xs (take n xs) true
page_front xs n h =
    past_to_form_feed 0 xs n h.0.high (λ k below. with_no_lines (get_or xs k 0) (false_from_ne_true (eqb (get_or xs k 0) 12) (λ e. h.0.before k (omega arith) below e))) h.1

-- The page where so many of its lines are to come; none: nothing.
pub rest_of : ℕ → List ℕ → List ℕ
rest_of zero left = []
rest_of (suc n) left = page_of (suc n) left

pub rest_ended : ℕ → List ℕ → Bool
rest_ended zero left = false
rest_ended (suc n) left = is_ended (suc n) left

pub record IsRest (lines : ℕ) (left bytes : List ℕ) (by_form_feed : Bool) : Type 0 where
  pub page : rest_of lines left ≡ bytes
  pub ended : rest_ended lines left ≡ by_form_feed

pub rest_begins : (lines : ℕ) (left : List ℕ) → 0 < lines → IsPage lines left (rest_of lines left) (rest_ended lines left)
unfolding rest_of rest_ended
rest_begins zero left some = absurd (omega arith)
rest_begins (suc n) left some = record { page = refl; ended = refl }

-- What a search for a line end finds.
abbrev line_end : ℕ → Bool
line_end b = is_line_end b

pub rest_whole : (lines : ℕ) (xs : List ℕ) → 0 < lines → IsFirstByte line_end xs None → IsRest lines xs xs false
unfolding rest_of rest_ended
rest_whole zero xs some h = absurd (omega arith)
rest_whole (suc n) xs some h =
    let p = past_all (suc n) xs (λ k inside. no_line_end (suc n) (get_or xs k 0) (false_from_ne_true (is_line_end (get_or xs k 0)) (λ e. h k (omega arith) inside e))) in
    record { page = p.page; ended = p.ended }

pub rest_front : (lines : ℕ) (xs : List ℕ) (n : ℕ) → 0 < lines → IsFirstByte line_end xs (Some n) → eqb (get_or xs n 0) 12 ≡ true → IsRest lines xs (take n xs) true
unfolding rest_of rest_ended
rest_front zero xs n some h here = absurd (omega arith)
rest_front (suc m) xs n some h here =
    let p = past_to_form_feed (suc m) xs n h.0.high
    (λ k below. no_line_end (suc m) (get_or xs k 0) (false_from_ne_true (is_line_end (get_or xs k 0)) (λ e. h.0.before k (omega arith) below e))) here in
    record { page = p.page; ended = p.ended }

-- a line end with so many lines to come
line_ends : (n b : ℕ) (bs : List ℕ) → eqb b 12 ≡ false → is_line_end b ≡ true → IsPage (suc n) (b ∷ bs) (b ∷ rest_of n bs) (rest_ended n bs)
unfolding rest_of rest_ended
line_ends zero b bs e h = at_last_line 1 b bs e (rw h refl)
line_ends (suc n) b bs e h =
    let two : eqb (suc (suc n)) 1 ≡ false = false_from_ne_true (eqb (suc (suc n)) 1) (λ x. let y : suc (suc n) ≡ 1 = eqb-true (suc (suc n)) 1 x in absurd (omega arith)) in
    let after : lines_after (suc (suc n)) b ≡ suc n = rw h (omega arith) in
    subst (λ (m : ℕ). IsPage (suc (suc n)) (b ∷ bs) (b ∷ page_of m bs) (is_ended m bs)) after (before_end (suc (suc n)) b bs e (rw h two))

take_more : (xs ys : List ℕ) (n : ℕ) → n < length xs → take n xs ++ (get_or xs n 0 ∷ ys) ≡ take (suc n) xs ++ ys
take_more [] ys n inside = absurd (omega arith)
take_more (x ∷ xs) ys zero inside = refl
take_more (x ∷ xs) ys (suc n) inside = ap (λ zs. x ∷ zs) (take_more xs ys n (omega arith))

pub rest_line : (lines : ℕ) (xs : List ℕ) (n : ℕ) → 0 < lines → IsFirstByte line_end xs (Some n) → eqb (get_or xs n 0) 12 ≡ false
    → (todo : ℕ) → suc todo ≡ lines → IsRest lines xs (take (suc n) xs ++ rest_of todo (drop (suc n) xs)) (rest_ended todo (drop (suc n) xs))
unfolding rest_of rest_ended
rest_line zero xs n some h here todo e = absurd (omega arith)
rest_line (suc m) xs n some h here todo e =
    subst (λ (k : ℕ). IsRest (suc m) xs (take (suc n) xs ++ rest_of k (drop (suc n) xs)) (rest_ended k (drop (suc n) xs))) (let k : m ≡ todo = omega arith in k)
    (
    let inside : n < length xs = h.0.high in
    let p = past_in_line (suc m) xs n (omega arith)
    (λ k below. no_line_end (suc m) (get_or xs k 0) (false_from_ne_true (is_line_end (get_or xs k 0)) (λ e. h.0.before k (omega arith) below e))) in
    let rest = drop-cons xs n 0 inside in
    let end = line_ends m (get_or xs n 0) (drop (suc n) xs) here h.1 in
    record {
      page = p.page ∙ ap (λ (ys : List ℕ). take n xs ++ page_of (suc m) ys) rest ∙ ap (λ (ys : List ℕ). take n xs ++ ys) end.page ∙ take_more xs (rest_of m (drop (suc n) xs)) n inside;
      ended = p.ended ∙ ap (is_ended (suc m)) rest ∙ end.ended;
    })

-- Up to a place all is of the page, which goes on with so many lines.
pub record IsSoFar (lines : ℕ) (left : List ℕ) (end todo : ℕ) : Type 0 where
  pub within : end ≤ length left
  pub page : page_of lines left ≡ take end left ++ rest_of todo (drop end left)
  pub ended : is_ended lines left ≡ rest_ended todo (drop end left)

pub begins : (lines : ℕ) (left : List ℕ) → 0 < lines → (todo : ℕ) → todo ≡ lines → IsSoFar lines left 0 todo
begins lines left some todo e =
    let b = rest_begins lines left some in
    subst (λ (n : ℕ). IsSoFar lines left 0 n) (sym e) (record { within = omega arith; page = b.page; ended = b.ended })

pub is_done : (lines : ℕ) (left : List ℕ) (end todo : ℕ) → IsSoFar lines left end todo → todo ≡ 0 → IsPage lines left (take end left) false
unfolding rest_of rest_ended
is_done lines left end todo f e =
    let g = subst (λ (n : ℕ). IsSoFar lines left end n) e f in
    record { page = g.page ∙ append-nil (take end left); ended = g.ended }

module _ (lines : ℕ) (left : List ℕ) (end todo : ℕ) (f : IsSoFar lines left end todo) (some : 0 < todo) where
  at_rest : (r : Option ℕ) → IsFirstByte line_end (take (length left - end) (drop end left)) r → IsFirstByte line_end (drop end left) r
  at_rest r h = subst (λ (ys : List ℕ). IsFirstByte line_end ys r) (take_rest left end) h

  pub is_whole : IsFirstByte line_end (take (length left - end) (drop end left)) None → IsPage lines left left false
  is_whole h =
      let r = rest_whole todo (drop end left) some (at_rest None h) in
      record { page = f.page ∙ ap (λ (ys : List ℕ). take end left ++ ys) r.page ∙ take-append-drop end left; ended = f.ended ∙ r.ended }

  module _ (more : ℕ) (h : IsFirstByte line_end (take (length left - end) (drop end left)) (Some more)) where
    found : IsFirstByte line_end (drop end left) (Some more)
    found = at_rest (Some more) h

    there : get_or left (end + more) 0 ≡ get_or (drop end left) more 0
    there = sym (get_or-drop end left more 0)

    pub is_front : get_or left (end + more) 0 ≡ 12 → IsPage lines left (take (end + more) left) true
    is_front here =
        let byte : eqb (get_or (drop end left) more 0) 12 ≡ true = eq-eqb (get_or (drop end left) more 0) 12 (sym there ∙ here) in
        let r = rest_front todo (drop end left) more some found byte in
        record { page = f.page ∙ ap (λ (ys : List ℕ). take end left ++ ys) r.page ∙ sym (take-add end more left); ended = f.ended ∙ r.ended }

    pub goes_on : (get_or left (end + more) 0 ≡ 12 → ⊥) → (next : ℕ) → suc next ≡ todo → IsSoFar lines left (end + more + 1) next
    goes_on here next e =
        let byte : eqb (get_or (drop end left) more 0) 12 ≡ false = false_from_ne_true (eqb (get_or (drop end left) more 0) 12) (λ x. here (there ∙ eqb-true (get_or (drop end left) more 0) 12 x)) in
        let r = rest_line todo (drop end left) more some found byte next e in
        let past : drop (suc more) (drop end left) ≡ drop (end + suc more) left = drop-drop (suc more) end left in
        let sum : end + suc more ≡ end + more + 1 = omega arith in
        subst (λ (n : ℕ). IsSoFar lines left n next) sum (record {
          within = let inside : more < length (drop end left) = found.0.high in let size = f.within in omega (arith, length-drop end left);
          page = f.page ∙ ap (λ (ys : List ℕ). take end left ++ ys) r.page ∙ sym (append_assoc (take end left) (take (suc more) (drop end left)) (rest_of next (drop (suc more) (drop end left))))
              ∙ ap (λ (ys : List ℕ). ys ++ rest_of next (drop (suc more) (drop end left))) (sym (take-add end (suc more) left))
              ∙ ap (λ (ys : List ℕ). take (end + suc more) left ++ rest_of next ys) past;
          ended = f.ended ∙ r.ended ∙ ap (rest_ended next) past;
        })
