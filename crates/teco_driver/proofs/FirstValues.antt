-- Values that a line puts into registers, one after another, and registers that are looked at one after another.
use Rattle.std.proofs.Common.{◌≡◌, ◌∙◌, ◌<◌, ◌≤◌, ◌+◌, ◌⊎◌, inl, inr, ◌++◌, ◌||◌, ◌&&◌, ℕ, suc, List, [], ◌∷◌, length, Bool, true, false, true≢false, refl, sym, ap, subst, add-one, arith}
use Rattle.std.proofs.lemmas.Bool.{cases_lt}
use Rattle.std.proofs.lemmas.List.{get_or_past}
use Rattle.teco_check.specs.Checked.{held}
use Rattle.teco_check.specs.Clean.{IsClean}
use Rattle.teco_check.specs.CleanRuns.{HoldsCode}
use Rattle.teco_cli.specs.declared.assignment.Assignment.{Assignment}
use Rattle.teco_core.specs.Register.{Content, content}
use Rattle.teco_core.specs.declared.profile.Profile.{Profile}
use Rattle.teco_store.specs.State.{State}
use Rattle.teco_driver.specs.Values.{assigned, holds_wrong, put_into, with_values}

-- one value more
pub assigned_more : (values : List Assignment) (a : Assignment) (registers : List Content) → assigned (values ++ a ∷ []) registers ≡ put_into (assigned values registers) a.register a.value
assigned_more [] a registers = refl
assigned_more (v ∷ values) a registers = assigned_more values a (put_into registers v.register v.value)

-- the state after one value more
pub put_more : (s mid new : State) (front all : List Assignment) (a : Assignment) → all ≡ front ++ a ∷ [] → mid ≡ with_values front s
    → new ≡ record mid { registers = put_into mid.registers a.register a.value } → new ≡ with_values all s
put_more s mid new front all a more is put =
    put ∙ ap (λ (m : State). record m { registers = put_into m.registers a.register a.value }) is
    ∙ ap (λ (rs : List Content). record s { registers = rs }) (sym (assigned_more front a s.registers))
    ∙ ap (λ (values : List Assignment). with_values values s) (sym more)

-- no register is wrong, and one more may be
pub none_wrong : (wrong : List ℕ → Bool) (code : List Bool) (registers : List Content) → false ≡ holds_wrong 0 wrong code registers
unfolding holds_wrong
none_wrong wrong code registers = refl

wrong_after : (q : ℕ) (wrong : List ℕ → Bool) (code : List Bool) (registers : List Content)
    → holds_wrong (suc q) wrong code registers ≡ holds_wrong q wrong code registers || (held code q && wrong (content registers q).text)
unfolding holds_wrong
wrong_after q wrong code registers = refl

pub one_wrong : (q p : ℕ) (wrong : List ℕ → Bool) (code : List Bool) (registers : List Content) (so_far one : Bool) → p ≡ q → so_far ≡ holds_wrong q wrong code registers
    → one ≡ (held code p && wrong (content registers p).text) → so_far || one ≡ holds_wrong (q + 1) wrong code registers
one_wrong q p wrong code registers so_far one here before is =
    ap (λ b. b || one) before ∙ ap (λ b. holds_wrong q wrong code registers || b) (is ∙ ap (λ r. held code r && wrong (content registers r).text) here)
    ∙ sym (wrong_after q wrong code registers) ∙ ap (λ n. holds_wrong n wrong code registers) (sym (add-one q))

-- the same of those that hold clean texts
abbrev pub IsCleanAt : Profile → List Bool → List Content → ℕ → Type 0
IsCleanAt profile code registers q = held code q ≡ true → IsClean profile (held code) (content registers q).text

at_or_below : (p q : ℕ) → p < q + 1 → (p < q) ⊎ (p ≡ q)
at_or_below p q h = elim (cases_lt p q) [
  | inl below ↦ inl below
  | inr past ↦ inr (omega (arith, past, h))
]

pub one_right : (profile : Profile) (q r : ℕ) (code : List Bool) (registers : List Content) → r ≡ q → ((p : ℕ) → p < q → IsCleanAt profile code registers p) → IsCleanAt profile code registers r
    → (p : ℕ) → p < q + 1 → IsCleanAt profile code registers p
one_right profile q r code registers here before one p less = elim (at_or_below p q less) [
  | inl below ↦ before p below
  | inr is ↦ subst (IsCleanAt profile code registers) (here ∙ sym is) one
]

pub holds_code : (profile : Profile) (n : ℕ) (code : List Bool) (registers : List Content) → length code ≡ 36 → 36 ≤ n → ((q : ℕ) → q < n → IsCleanAt profile code registers q)
    → HoldsCode profile (held code) registers
holds_code profile n code registers all most clean q marked = elim (cases_lt q 36) [
  | inl less ↦ clean q (omega (arith, less, most)) marked
  | inr past ↦ absurd (true≢false (sym marked ∙ get_or_past code q false (omega (arith, all, past))))
]
