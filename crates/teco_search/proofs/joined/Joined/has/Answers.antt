use Rattle.std.proofs.Common.{◌≡◌, ℕ, ◌+◌, ◌<◌, Bool, true, false, not, eqb, List, length, get_or, Option, Some, None, refl, sym, ap, subst, ◌∙◌, arith, ⊎_elim}
use Rattle.std.specs.Option.{option_eq}
use Rattle.std.specs.Prelude.{slice_get}
use Rattle.std.proofs.lemmas.Bool.{cases_eq, eq-eqb, eqb-true, false≢true}
use Rattle.std.proofs.lemmas.Option.{slice_get-get_or, get_or_from_slice_get}
use Rattle.teco_search.proofs.joined.Joined.has.Goals as goal

not_not : (b : Bool) → false ≡ not b → b ≡ true
not_not true e = refl
not_not false e = absurd (false≢true e)

-- whether the byte that was read at a place is another one
module _ (xs : List ℕ) (at v : ℕ) (differs : Bool) where
  is_same : (read : Option ℕ) → read ≡ slice_get xs at → differs ≡ not (option_eq eqb read (Some v)) → differs ≡ false → get_or xs at 0 ≡ v
  is_same None is tells alike = absurd (false≢true (sym alike ∙ tells))
  is_same (Some w) is tells alike = get_or_from_slice_get xs at w 0 (sym is) ∙ eqb-true w v (not_not (eqb w v) (sym alike ∙ tells))

  is_other : (read : Option ℕ) → read ≡ slice_get xs at → differs ≡ not (option_eq eqb read (Some v)) → differs ≡ true → at < length xs → get_or xs at 0 ≡ v → ⊥
  is_other None is tells unlike inside same =
      let here = slice_get-get_or xs at 0 inside in
      absurd cc
  is_other (Some w) is tells unlike inside same =
      let equal : eqb w v ≡ true = eq-eqb w v (sym (get_or_from_slice_get xs at w 0 (sym is)) ∙ same) in
      false≢true (sym (tells ∙ ap not equal) ∙ unlike)

pub returns-then-ne-clause-holds : goal.returns-then-ne-clause-holds
returns-then-ne-clause-holds c = (
  (λ e. absurd (false≢true e)),
  (λ o.
      let fits = o.fits in
      absurd (is_other c.args.self.now (c.args.at + c.bytes.i) (get_or c.args.bytes.now c.bytes.i 0) c.ne.result c.get.result c.get.ensures.value c.ne.ensures c.if-ne.true (omega arith) (o.reads c.bytes.i c.bytes-test.true))),
)

pub bytes-preserved : goal.bytes-preserved
bytes-preserved c = λ k below.
    let here = is_same c.args.self.now (c.args.at + c.bytes.i) (get_or c.args.bytes.now c.bytes.i 0) c.ne.result c.get.result c.get.ensures.value c.ne.ensures c.if-ne.false in
    ⊎_elim
    (λ same. subst (λ j. get_or c.args.self.now (c.args.at + j) 0 ≡ get_or c.args.bytes.now j 0) (sym same) here)
    (λ other. c.bytes.invariant k (omega arith))
    (cases_eq k c.bytes.i)

pub returns-clause-holds : goal.returns-clause-holds
returns-clause-holds c = (
  (λ _. record { fits = omega arith; reads = λ j below. c.bytes.invariant j (omega arith) }),
  (λ _. refl),
)
