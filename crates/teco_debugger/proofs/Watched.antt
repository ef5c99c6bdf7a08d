-- Steps at which what is watched is as here, or differs.
use Rattle.std.proofs.Common.{◌≡◌, ◌∙◌, ℕ, ◌+◌, ◌-◌, ◌<◌, ◌≤◌, Bool, true, false, Option, Some, None, if◌then◌else◌, sym, ap, subst, arith, inl, inr}
use Rattle.std.specs.Prelude.{IfSome}
use Rattle.std.proofs.lemmas.Bool.{cases_lt}
use Rattle.teco_store.specs.State.{State}
use Rattle.teco_exec.specs.StringMeaning.{StringMeaning}
use Rattle.teco_debugger.specs.Walk.{KeptWalk, SameString, after_all, base, meant, state_there}
use Rattle.teco_debugger.specs.Watching.{AreAsHere, IsFirstOther, is_as_here, is_same}
use Rattle.teco_debugger.specs.declared.watching.Watch.{Watch}

-- a third walk over the string of two
pub same_on : (walk other after : KeptWalk) → SameString walk other → SameString other after → SameString walk after
same_on walk other after a b = record { first = b.first ∙ a.first; before = b.before ∙ a.before; text = b.text ∙ a.text }

-- what they mean
pub same_meant : (walk other : KeptWalk) (n : ℕ) → SameString walk other → meant (base other) other.text n ≡ meant (base walk) walk.text n
same_meant walk other n same =
    ap (λ s. meant (after_all s other.before) other.text n) same.first ∙ ap (λ b. meant (after_all walk.first b) other.text n) same.before
    ∙ ap (λ x. meant (base walk) x n) same.text

-- Where a walk goes to a step of the string, what is seen of both is what is so there.
pub here_is : (watch : Watch) (walk other after : KeptWalk) (n : ℕ) (s t : State) (r : Bool) → SameString walk other
    → state_there after ≡ (meant (base other) other.text n).state → s ≡ state_there walk → t ≡ state_there after → r ≡ is_same watch s t
    → is_as_here watch walk n ≡ r
here_is watch walk other after n s t r same went s_is t_is r_is =
    let there : t ≡ (meant (base walk) walk.text n).state =
    t_is ∙ went ∙ ap (λ (m : StringMeaning). m.state) (same_meant walk other n same) in
    sym (r_is ∙ ap (λ x. is_same watch x t) s_is ∙ ap (λ x. is_same watch (state_there walk) x) there)

-- how many steps a walk over the same string has done that went from the beginning to a step
pub end_is : (walk other : KeptWalk) (n steps : ℕ) → SameString walk other → other.steps ≡ 0 → (n ≤ other.steps → steps ≡ n)
    → (other.steps < n → steps ≡ (meant (base other) other.text n).steps) → (meant (base walk) walk.text n).steps ≤ n → steps ≡ (meant (base walk) walk.text n).steps
end_is walk other n steps same first back on within = elim (cases_lt other.steps n) [
  | inl less ↦ on less ∙ ap (λ (m : StringMeaning). m.steps) (same_meant walk other n same)
  | inr more ↦ let is = back more in omega (arith, is, more, first, within)
]

module _ (watch : Watch) (walk : KeptWalk) where
  pub none_between : (from to : ℕ) → to ≤ from → AreAsHere watch walk from to
  none_between from to le k above below = absurd (omega (arith, le, above, below))

  -- one more before the others
  pub one_more : (from left to : ℕ) → from ≡ left → is_as_here watch walk left ≡ true → AreAsHere watch walk (left + 1) to → AreAsHere watch walk from to
  one_more from left to same here rest k above below = elim (cases_lt left k) [
    | inl less ↦ rest k (omega (arith, less)) below
    | inr more ↦
        let is : k ≡ left = omega (arith, above, more, same) in
        subst (λ m. is_as_here watch walk m ≡ true) (sym is) here
  ]

  -- one step back, what is the first
  pub first_more : (left last : ℕ) (found : Option ℕ) (same : Bool) → is_as_here watch walk left ≡ same → 0 < left → left ≤ last → IsFirstOther watch walk left last found
      → IsFirstOther watch walk (left - 1) last (if same then found else Some left)
  first_more left last found false here some within first =
      record { after = omega (arith, some); within = within; differs = here; passed = λ k above below. absurd (omega (arith, above, below, some)) }
  first_more left last None true here some within rest = one_more (left - 1 + 1) left (last + 1) (omega (arith, some)) here rest
  first_more left last (Some n) true here some within first =
      let after = first.after in
      record { after = omega (arith, some, after); within = first.within; differs = first.differs; passed = one_more (left - 1 + 1) left n (omega (arith, some)) here first.passed }

  -- it is the first after a later step too, if it comes after that
  pub first_from : (from left last : ℕ) (found : Option ℕ) → left ≤ from → IfSome found (λ n. from < n) → IsFirstOther watch walk left last found → IsFirstOther watch walk from last found
  first_from from left last None le later rest = λ k above below. rest k (omega (arith, le, above)) below
  first_from from left last (Some n) le later first =
      record { after = later; within = first.within; differs = first.differs; passed = λ k above below. first.passed k (omega (arith, le, above)) below }

pub later_more : (from left : ℕ) (found : Option ℕ) (same : Bool) → from < left → IfSome found (λ n. from < n) → IfSome (if same then found else Some left) (λ n. from < n)
later_more from left found true less later = later
later_more from left found false less later = less
