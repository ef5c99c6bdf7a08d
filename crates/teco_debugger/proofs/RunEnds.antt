-- Where a run stands after some steps: what the string means under that limit, and that it stands nowhere once it is over.
use Rattle.std.proofs.Common.{◌≡◌, ℕ, zero, suc, ◌+◌, ◌-◌, ◌<◌, List, Option, Some, None, refl, sym, ◌∙◌, ap, arith}
use Rattle.teco_core.specs.declared.code.Code.{Code}
use Rattle.teco_store.specs.State.{State}
use Rattle.teco_exec.specs.Machine.{Config, Machine, runs, halts, Ready, step, block, faulty, finished, Final, ready_of, ready_within, after_paid_step, final_without_fuel, final_with_fuel, run_within, after_steps, start_config}
use Rattle.teco_exec.specs.MachineLaws.{MachineMeans}
use Rattle.teco_exec.specs.Places.{Standing, standing, stands_after}
use Rattle.teco_exec.specs.StringMeaning.{StringMeaning, string_meaning}
use Rattle.teco_exec.proofs.MachineMeans.{fuel_within}

-- What is over stays over.
stays_over : (k : ℕ) (c : Config) (e : Option Code) → standing (ready_of (after_steps k (halts c e))) ≡ None
unfolding after_steps ready_of ready_within
stays_over zero c e = refl
stays_over (suc k) c e = stays_over k c e

-- it was cut off, or stopped at a fault
abbrev IsUnended : Final → Type 0
IsUnended f = (f.fuel ≡ 0) × (f.code ≡ None → ⊥)

unpaid_stands : (r : Ready) (there : Standing) → standing r ≡ Some there → IsUnended (final_without_fuel r)
unpaid_stands (step m i work c) there e = (refl, λ none. cc)
unpaid_stands (block b bs c) there e = (refl, λ none. cc)
unpaid_stands (faulty c x) there e = (refl, λ none. cc)
unpaid_stands (finished c x) there e = absurd cc

paid_stands : (n : ℕ) (r : Ready) (there : Standing) → standing (ready_of (after_steps n (after_paid_step r))) ≡ Some there → IsUnended (run_within n (after_paid_step r))
    → IsUnended (final_with_fuel n (run_within n) r)
paid_stands n (faulty c x) there e so = let over = stays_over n c (Some x) in absurd cc
paid_stands n (finished c x) there e so = let over = stays_over n c x in absurd cc
paid_stands n r there e so = so

stands_unended : (n : ℕ) (m : Machine) (there : Standing) → standing (ready_of (after_steps n m)) ≡ Some there → IsUnended (run_within n m)
unfolding after_steps run_within
stands_unended zero m there e = unpaid_stands (ready_of m) there e
stands_unended (suc n) m there e = paid_stands n (ready_of m) there e (stands_unended n (after_paid_step (ready_of m)) there e)

paid_over : (n k : ℕ) (r : Ready) → (0 < (run_within n (after_paid_step r)).fuel → n < k + (run_within n (after_paid_step r)).fuel → standing (ready_of (after_steps k (after_paid_step r))) ≡ None)
    → 0 < (final_with_fuel n (run_within n) r).fuel → suc n < suc k + (final_with_fuel n (run_within n) r).fuel → standing (ready_of (after_steps k (after_paid_step r))) ≡ None
paid_over n k (faulty c e) so some after = stays_over k c (Some e)
paid_over n k (finished c e) so some after = stays_over k c e
paid_over n k r so some after = so some (omega (arith, after))

-- After more steps than it takes, where these are below the limit, it stands nowhere.
over_after : (n : ℕ) (m : Machine) (k : ℕ) → 0 < (run_within n m).fuel → n < k + (run_within n m).fuel → standing (ready_of (after_steps k m)) ≡ None
unfolding after_steps run_within
over_after zero m k some after = absurd (omega (arith, some, fuel_within 0 m))
over_after (suc n) m zero some after = absurd (omega (arith, after, fuel_within (suc n) m))
over_after (suc n) m (suc k) some after = paid_over n k (ready_of m) (over_after n (after_paid_step (ready_of m)) k) some after

first_over : (n : ℕ) (r : Ready) → (final_with_fuel n (run_within n) r).fuel ≡ suc n → (final_with_fuel n (run_within n) r).code ≡ None → standing r ≡ None
first_over n (faulty c e) all none = absurd cc
first_over n (finished c e) all none = refl
first_over n (step m i work c) all none = absurd (omega (arith, all, fuel_within n (after_paid_step (step m i work c))))
first_over n (block b bs c) all none = absurd (omega (arith, all, fuel_within n (after_paid_step (block b bs c))))

paid_over_well : (n k : ℕ) (r : Ready) → (0 < (run_within n (after_paid_step r)).fuel → n ≡ k + (run_within n (after_paid_step r)).fuel → (run_within n (after_paid_step r)).code ≡ None
    → standing (ready_of (after_steps k (after_paid_step r))) ≡ None)
    → 0 < (final_with_fuel n (run_within n) r).fuel → suc n ≡ suc k + (final_with_fuel n (run_within n) r).fuel → (final_with_fuel n (run_within n) r).code ≡ None
    → standing (ready_of (after_steps k (after_paid_step r))) ≡ None
paid_over_well n k (faulty c e) so some is none = absurd cc
paid_over_well n k (finished c e) so some is none = stays_over k c e
paid_over_well n k r so some is none = so some (omega (arith, is)) none

-- Where it ends below the limit by no code, it stands nowhere.
over_well : (n : ℕ) (m : Machine) (k : ℕ) → 0 < (run_within n m).fuel → n ≡ k + (run_within n m).fuel → (run_within n m).code ≡ None → standing (ready_of (after_steps k m)) ≡ None
unfolding after_steps run_within
over_well zero m k some is none = absurd (omega (arith, some, fuel_within 0 m))
over_well (suc n) m zero some is none = first_over n (ready_of m) (omega (arith, is)) none
over_well (suc n) m (suc k) some is none = paid_over_well n k (ready_of m) (over_well n (after_paid_step (ready_of m)) k) some is none

module _ (means : MachineMeans) (s : State) (text : List ℕ) where
  abbrev run : ℕ → Final
  run n = run_within n (runs (start_config s text))

  steps_are : (n : ℕ) → (string_meaning s text n).steps ≡ n - (run n).fuel
  steps_are n = sym (ap (λ (m : StringMeaning). m.steps) (means s text n))

  code_is : (n : ℕ) → (string_meaning s text n).code ≡ (run n).code
  code_is n = sym (ap (λ (m : StringMeaning). m.code) (means s text n))

  -- Where it stands somewhere after some steps, it takes them all, and doesn't end well there.
  pub stands_steps : (n : ℕ) (there : Standing) → stands_after s text n ≡ Some there → (string_meaning s text n).steps ≡ n
  stands_steps n there e = let is = (stands_unended n (runs (start_config s text)) there e).0 in let steps = steps_are n in omega arith

  pub stands_code : (n : ℕ) (there : Standing) → stands_after s text n ≡ Some there → (string_meaning s text n).code ≡ None → ⊥
  stands_code n there e none = (stands_unended n (runs (start_config s text)) there e).1 (sym (code_is n) ∙ none)

  pub nowhere_after : (limit k : ℕ) → (string_meaning s text limit).steps < limit → (string_meaning s text limit).steps < k → stands_after s text k ≡ None
  nowhere_after limit k ended after =
      let steps = steps_are limit in
      let fuel = fuel_within limit (runs (start_config s text)) in
      over_after limit (runs (start_config s text)) k (omega arith) (omega arith)

  pub nowhere_at_end : (limit k : ℕ) → k ≡ (string_meaning s text limit).steps → k < limit → (string_meaning s text limit).code ≡ None → stands_after s text k ≡ None
  nowhere_at_end limit k is ended none =
      let steps = steps_are limit in
      let fuel = fuel_within limit (runs (start_config s text)) in
      over_well limit (runs (start_config s text)) k (omega arith) (omega arith) (sym (code_is limit) ∙ none)
