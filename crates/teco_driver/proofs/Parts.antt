-- The longest part of a text that some of its bytes divide.
use Rattle.std.proofs.Common.{◌≡◌, ℕ, zero, suc, ◌+◌, ◌-◌, ◌<◌, ◌≤◌, max, Bool, true, false, List, [], ◌∷◌, length, get_or, drop, drop-cons, nat_cmp, refl, sym, ap, subst, arith, ◌∙◌, inl, inr}
use Rattle.std.proofs.Math.Seq.{drop-length}
use Rattle.std.proofs.Math.Nat.{le-max_left, le-max_right, max-le}
use Rattle.std.proofs.lemmas.Bool.{cases_Bool, cond-true, cond-false}
use Rattle.std.proofs.lemmas.Bool.Decides.{nat_tests}
use Rattle.std.specs.Ordering.{ord_max}
use Rattle.memchr.specs.Find.{places_from, places_between}
use Rattle.teco_driver.specs.Paging.{longest_part}

-- what a call of `max` gives
pub ord_max-nat : (a b : ℕ) → ord_max nat_cmp a b ≡ max a b
ord_max-nat a b = grind (arith, nat_tests)

module _ (divides : ℕ → Bool) where
  pub divided : (before b : ℕ) (bs : List ℕ) → divides b ≡ true → longest_part divides before (b ∷ bs) ≡ max before (longest_part divides 0 bs)
  unfolding longest_part
  divided before b bs h = cond-true _ _ _ h

  pub undivided : (before b : ℕ) (bs : List ℕ) → divides b ≡ false → longest_part divides before (b ∷ bs) ≡ longest_part divides (before + 1) bs
  unfolding longest_part
  undivided before b bs h = cond-false _ _ _ h

  pub at_end : (before : ℕ) → longest_part divides before [] ≡ before
  unfolding longest_part
  at_end before = refl

  -- the first part is one of them
  pub first_within : (before : ℕ) (xs : List ℕ) → before ≤ longest_part divides before xs
  first_within before [] = let e = at_end before in omega arith
  first_within before (x ∷ xs) = elim (cases_Bool (divides x)) [
    | inl t ↦ let e = divided before x xs t in let m = le-max_left before (longest_part divides 0 xs) in omega arith
    | inr f ↦ let e = undivided before x xs f in let m = first_within (before + 1) xs in omega arith
  ]

  -- none is longer than the text
  pub within_text : (before : ℕ) (xs : List ℕ) → longest_part divides before xs ≤ before + length xs
  within_text before [] = let e = at_end before in omega arith
  within_text before (x ∷ xs) = elim (cases_Bool (divides x)) [
    | inl t ↦
        let e = divided before x xs t in
        let m = within_text 0 xs in
        let most : max before (longest_part divides 0 xs) ≤ before + suc (length xs) = max-le (omega arith) (omega arith) in
        omega arith
    | inr f ↦ let e = undivided before x xs f in let m = within_text (before + 1) xs in omega arith
  ]

  -- more bytes before the first part
  pub rising : (before more : ℕ) (xs : List ℕ) → before ≤ more → longest_part divides before xs ≤ longest_part divides more xs
  rising before more [] h = let e = at_end before in let d = at_end more in omega arith
  rising before more (x ∷ xs) h = elim (cases_Bool (divides x)) [
    | inl t ↦ let e = divided before x xs t in let d = divided more x xs t in omega arith
    | inr f ↦
        let e = undivided before x xs f in
        let d = undivided more x xs f in
        let m = rising (before + 1) (more + 1) xs (omega arith) in
        omega arith
  ]

  -- the parts from a place on
  pub of_rest : (place before : ℕ) (xs : List ℕ) → longest_part divides 0 (drop place xs) ≤ longest_part divides before xs
  of_rest zero before xs = rising 0 before xs (omega arith)
  of_rest (suc place) before [] = let e = at_end before in let d = at_end 0 in omega arith
  of_rest (suc place) before (x ∷ xs) = elim (cases_Bool (divides x)) [
    | inl t ↦ let e = divided before x xs t in let m = of_rest place 0 xs in let most = le-max_right before (longest_part divides 0 xs) in omega arith
    | inr f ↦ let e = undivided before x xs f in let m = of_rest place (before + 1) xs in omega arith
  ]

-- What a search that goes over a text from a byte that divides it to the next knows.
pub record IsSoFar (divides : ℕ → Bool) (text : List ℕ) (longest from : ℕ) (left : List ℕ) : Type 0 where
  pub within : from ≤ length text
  pub left_is : left ≡ places_between divides text from (length text)
  pub longest_is : max longest (longest_part divides 0 (drop from text)) ≡ longest_part divides 0 text

module _ (divides : ℕ → Bool) (text : List ℕ) where
  -- the next byte that divides it
  record Next (before from at : ℕ) (left : List ℕ) : Type 0 where
    pub low : from ≤ at
    pub high : at < length text
    pub left_is : left ≡ places_between divides text (at + 1) (length text)
    pub longest_is : longest_part divides before (drop from text) ≡ max (before + (at - from)) (longest_part divides 0 (drop (at + 1) text))

  front : (from : ℕ) → from < length text → drop from text ≡ get_or text from 0 ∷ drop (from + 1) text
  front from inside =
      let next : suc from ≡ from + 1 = omega arith in
      drop-cons text from 0 inside ∙ ap (λ k. get_or text from 0 ∷ drop k text) next

  next : (n before from at : ℕ) (left : List ℕ) → from + n ≡ length text → places_from divides text from n ≡ at ∷ left → Next before from at left
  unfolding places_from
  next zero before from at left e h = cc
  next (suc n) before from at left e h =
      let later : List ℕ = places_from divides text (from + 1) n in
      let f = front from (omega arith) in
      elim (cases_Bool (divides (get_or text from 0))) [
        | inl t ↦
            let is : from ∷ later ≡ at ∷ left = sym (cond-true _ _ _ t) ∙ h in
            let here : from ≡ at = cc in
            let rest : later ≡ left = cc in
            let n_is : n ≡ length text - (from + 1) = omega arith in
            let none : before ≡ before + (from - from) = omega arith in
            subst (λ (k : ℕ). Next before from k left) here (record {
              low = omega arith;
              high = omega arith;
              left_is = sym rest ∙ ap (places_from divides text (from + 1)) n_is;
              longest_is = ap (longest_part divides before) f ∙ divided divides before (get_or text from 0) (drop (from + 1) text) t
                  ∙ ap (λ k. max k (longest_part divides 0 (drop (from + 1) text))) none;
            })
        | inr other ↦
            let is : later ≡ at ∷ left = sym (cond-false _ _ _ other) ∙ h in
            let more = next n (before + 1) (from + 1) at left (omega arith) is in
            let low = more.low in
            let sum : before + 1 + (at - (from + 1)) ≡ before + (at - from) = omega arith in
            record {
              low = omega arith;
              high = more.high;
              left_is = more.left_is;
              longest_is = ap (longest_part divides before) f ∙ undivided divides before (get_or text from 0) (drop (from + 1) text) other
                  ∙ more.longest_is ∙ ap (λ k. max k (longest_part divides 0 (drop (at + 1) text))) sum;
            }
      ]

  -- where no byte divides what is left
  last : (n before from : ℕ) → from + n ≡ length text → places_from divides text from n ≡ [] → longest_part divides before (drop from text) ≡ before + n
  unfolding places_from
  last zero before from e h =
      let all : from ≡ length text = omega arith in
      ap (λ k. longest_part divides before (drop k text)) all ∙ ap (longest_part divides before) (drop-length text) ∙ at_end divides before ∙ omega arith
  last (suc n) before from e h =
      let f = front from (omega arith) in
      let later : List ℕ = places_from divides text (from + 1) n in
      elim (cases_Bool (divides (get_or text from 0))) [
        | inl t ↦ let is : from ∷ later ≡ [] = sym (cond-true _ _ _ t) ∙ h in cc
        | inr other ↦
            let is : later ≡ [] = sym (cond-false _ _ _ other) ∙ h in
            ap (longest_part divides before) f ∙ undivided divides before (get_or text from 0) (drop (from + 1) text) other ∙ last n (before + 1) (from + 1) (omega arith) is ∙ omega arith
      ]

  pub begins : (left : List ℕ) → left ≡ places_between divides text 0 (length text) → IsSoFar divides text 0 0 left
  begins left e = record { within = omega arith; left_is = e; longest_is = omega arith }

  pub record GoesOn (longest from at : ℕ) (rest : List ℕ) : Type 0 where
    pub low : from ≤ at
    pub high : at < length text
    pub so_far : (more : ℕ) → more ≡ max longest (at - from) → IsSoFar divides text more (at + 1) rest

  pub goes_on : (longest from : ℕ) (left : List ℕ) (at : ℕ) (rest : List ℕ) → IsSoFar divides text longest from left → left ≡ at ∷ rest → GoesOn longest from at rest
  goes_on longest from left at rest f e =
      let within = f.within in
      let n = next (length text - from) 0 from at rest (omega arith) (sym f.left_is ∙ e) in
      let high = n.high in
      let is = n.longest_is in
      let was = f.longest_is in
      record { low = n.low; high = n.high; so_far = λ more h. record { within = omega arith; left_is = n.left_is; longest_is = omega arith } }

  pub is_whole : (longest from : ℕ) (left : List ℕ) → IsSoFar divides text longest from left → left ≡ [] → max longest (length text - from) ≡ longest_part divides 0 text
  is_whole longest from left f e =
      let within = f.within in
      let l = last (length text - from) 0 from (omega arith) (sym f.left_is ∙ e) in
      let was = f.longest_is in
      omega arith
