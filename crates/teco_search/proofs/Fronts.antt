-- What is left of a text at a place, byte by byte.
use Rattle.std.proofs.Common.{◌≡◌, ℕ, suc, ◌+◌, true, false, eqb, List, [], ◌∷◌, ◌++◌, length, drop, Option, Some, None, Result, Ok, Err, inl, inr, refl, sym, ap, ◌∙◌, arith}
use Rattle.std.specs.Prelude.{slice_get}
use Rattle.std.specs.Option.{option_map_or}
use Rattle.std.proofs.Math.Seq.{drop-cons}
use Rattle.std.proofs.lemmas.Bool.{eqb-true, eq-eqb, ne_eqb, false≢true}
use Rattle.std.proofs.lemmas.List.{drop_all}
use Rattle.std.proofs.lemmas.Option.{slice_get_within, slice_get_cases, get_or_from_slice_get}
use Rattle.teco_core.specs.Refusal.{◌>>=◌}
use Rattle.teco_core.specs.declared.code.Code.{Code}
use Rattle.teco_core.specs.declared.code.Code.TheVariants.{Ice}
use Rattle.teco_search.specs.Reading.{occurs_at, byte_at}

-- What was read after another thing: that, and then this.
pub bind_ok : {A B : Type 0} (r : Result A Code) (k : A → Result B Code) (y : B) → (r >>= k) ≡ Ok y → (x : A) × (r ≡ Ok x) × (k x ≡ Ok y)
bind_ok (Ok x) k y is = (x, refl, is)
bind_ok (Err e) k y is = cc

module _ (text : List ℕ) where
  pub front_some : (at b : ℕ) → slice_get text at ≡ Some b → drop at text ≡ b ∷ drop (at + 1) text
  front_some at b here =
      let one : suc at ≡ at + 1 = omega arith in
      drop-cons text at 0 (slice_get_within text at b here) ∙ ap (λ x. x ∷ drop (suc at) text) (get_or_from_slice_get text at b 0 here) ∙ ap (λ n. b ∷ drop n text) one

  pub some_front : (at b : ℕ) (rest : List ℕ) → drop at text ≡ b ∷ rest → (slice_get text at ≡ Some b) × (drop (at + 1) text ≡ rest)
  some_front at b rest is = elim (slice_get_cases text at).1 [
    | inl here ↦ by here.0 here.2 (sym (front_some at here.0 here.2) ∙ is)
    | inr past ↦ absurd (none (sym (drop_all at text past.0) ∙ is))
  ]
    where
      none : ◌≡◌ {A = List ℕ} [] (b ∷ rest) → ⊥
      none e = cc

      by : (x : ℕ) → slice_get text at ≡ Some x → ◌≡◌ {A = List ℕ} (x ∷ drop (at + 1) text) (b ∷ rest) → (slice_get text at ≡ Some b) × (drop (at + 1) text ≡ rest)
      by x here e = let same : x ≡ b = cc in let later : drop (at + 1) text ≡ rest = cc in (here ∙ ap (λ y. let o : Option ℕ = Some y in o) same, later)

  pub later_front : (front rest : List ℕ) (at : ℕ) → drop at text ≡ front ++ rest → drop (at + length front) text ≡ rest
  later_front [] rest at is = let none : at + 0 ≡ at = omega arith in ap (λ n. drop n text) none ∙ is
  later_front (b ∷ front) rest at is =
      let along : at + suc (length front) ≡ at + 1 + length front = omega arith in
      ap (λ n. drop n text) along ∙ later_front front rest (at + 1) (some_front at b (front ++ rest) is).1

  pub byte_some : (at b : ℕ) → byte_at text at ≡ Ok b → slice_get text at ≡ Some b
  unfolding byte_at
  byte_some at b is = by (slice_get text at) is
    where
      by : (o : Option ℕ) → option_map_or (λ x. let r : Result ℕ Code = Ok x in r) o (Err Ice) ≡ Ok b → o ≡ Some b
      by None e = cc
      by (Some x) e = let same : x ≡ b = cc in ap (λ y. let o : Option ℕ = Some y in o) same

  pub some_byte : (at b : ℕ) → slice_get text at ≡ Some b → byte_at text at ≡ Ok b
  unfolding byte_at
  some_byte at b here = rw here

  pub occurs_some : (at b : ℕ) → occurs_at text at b ≡ true → slice_get text at ≡ Some b
  occurs_some at b is = by (slice_get text at) is
    where
      by : (o : Option ℕ) → option_map_or (λ x. eqb x b) o false ≡ true → o ≡ Some b
      by None e = absurd (false≢true e)
      by (Some x) e = ap (λ y. let o : Option ℕ = Some y in o) (eqb-true x b e)

  pub some_occurs : (at b : ℕ) → slice_get text at ≡ Some b → occurs_at text at b ≡ true
  some_occurs at b here = rw here (eq-eqb b b refl)

  -- Another byte is there, or none.
  pub occurs_not : (at b : ℕ) → (slice_get text at ≡ Some b → ⊥) → occurs_at text at b ≡ false
  occurs_not at b no_is = by (slice_get text at) refl
    where
      by : (o : Option ℕ) → slice_get text at ≡ o → option_map_or (λ x. eqb x b) o false ≡ false
      by None e = refl
      by (Some x) e = ne_eqb x b (λ same. no_is (e ∙ ap (λ y. let o : Option ℕ = Some y in o) same))
