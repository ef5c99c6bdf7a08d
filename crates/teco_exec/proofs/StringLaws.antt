-- What a string does under more and under less of a limit; one that makes the session done ends with no code.
use Rattle.std.proofs.Common.{◌≡◌, ℕ, zero, suc, ◌+◌, ◌-◌, ◌<◌, ◌≤◌, List, Option, Some, refl, sym, ap, ◌∙◌, inl, inr, arith, subst, None, Bool, true, false, true≢false, ◌⊎◌, ◌≢◌}
use Rattle.teco_core.specs.declared.code.Code.{Code}
use Rattle.teco_core.specs.declared.code.Code.TheVariants.{Lim}
use Rattle.teco_store.specs.State.{State}
use Rattle.teco_exec.specs.StringMeaning.{StringMeaning, string_meaning}
use Rattle.teco_exec.specs.CursorMoves.{after_block_step}
use Rattle.teco_exec.specs.Machine.{Config, Machine, runs, Ready, step, block, faulty, finished, Final, final, ready_of, after_paid_step, final_without_fuel, final_with_fuel, run_within, after_steps, start_config, Now, now_of, halts, after_step_end, setting_of, ready_within}
use Rattle.teco_exec.specs.Laws.{StepsWithinLimit, MoreLimitChangesNothing, EnoughIsEnough, LimitsAreReached, ZeroLimitChangesNothing, ExitEndsWell}
use Rattle.teco_exec.specs.MachineLaws.{MachineMeans, MachineFollows}
use Rattle.teco_core.specs.declared.code.Code.TheVariants as code
use Rattle.teco_scan.specs.declared.command.Modifiers.{Modifiers}
use Rattle.teco_scan.specs.Scan.{Item}
use Rattle.teco_step.specs.Step.{End, out}
use Rattle.teco_step.specs.Effect.{effect}
use Rattle.teco_step.specs.Laws.{OnlyExits}
use Rattle.teco_exec.specs.Runs.{Runs}
use Rattle.teco_exec.proofs.MachineMeans.{ready_now, arrives_now, going_now, resumed_now, fuel_within}

abbrev raised : ℕ → Final → Final
raised j f = record f { fuel = f.fuel + j }

-- A run, and the same run with j more of the fuel: either nothing changes, or the first ended because its fuel was out, and the second uses some of what it has more.
data Raises (j : ℕ) (f g : Final) : Type 0 where
  same : g ≡ raised j f → Raises j f g
  spent : f.code ≡ Some Lim → f.fuel ≡ 0 → g.fuel < j → Raises j f g

with_fuel : (f : Final) (n m : ℕ) → n ≡ m → record f { fuel = n } ≡ record f { fuel = m }
with_fuel f n m is = ap (λ k. let g : Final = record f { fuel = k } in g) is

unpaid_raises : (j k : ℕ) (r : Ready) → suc k ≡ j → Raises j (final_without_fuel r) (final_with_fuel k (run_within k) r)
unpaid_raises j k (faulty c x) e = same (with_fuel (final 0 c (Some x)) (suc k) (0 + j) (omega arith))
unpaid_raises j k (finished c x) e = same (with_fuel (final 0 c x) (suc k) (0 + j) (omega arith))
unpaid_raises j k r e = spent refl refl (omega (arith, fuel_within k (after_paid_step r)))

paid_raises : (j n k : ℕ) (r : Ready) → suc k ≡ suc n + j → Raises j (run_within n (after_paid_step r)) (run_within k (after_paid_step r)) → Raises j (final_with_fuel n (run_within n) r) (final_with_fuel k (run_within k) r)
paid_raises j n k (faulty c x) e h = same (with_fuel (final 0 c (Some x)) (suc k) (suc n + j) e)
paid_raises j n k (finished c x) e h = same (with_fuel (final 0 c x) (suc k) (suc n + j) e)
paid_raises j n k r e h = h

run_raises : (j n k : ℕ) (m : Machine) → k ≡ n + j → Raises j (run_within n m) (run_within k m)
unfolding run_within
run_raises j zero zero m e = let f = final_without_fuel (ready_of m) in same (with_fuel f f.fuel (f.fuel + j) (omega arith))
run_raises j zero (suc k) m e = unpaid_raises j k (ready_of m) (omega arith)
run_raises j (suc n) zero m e = absurd (omega arith)
run_raises j (suc n) (suc k) m e = paid_raises j n k (ready_of m) e (run_raises j n k (after_paid_step (ready_of m)) (omega arith))

abbrev meant_by : ℕ → Final → StringMeaning
meant_by limit f = record { state = f.state; typed = f.typed; code = f.code; steps = limit - f.fuel; load = f.load }

meant_raised : (n k j : ℕ) (f : Final) → k ≡ n + j → f.fuel ≤ n → meant_by k (raised j f) ≡ meant_by n f
meant_raised n k j f e le =
    ap (λ x. let m : StringMeaning = record (meant_by n f) { steps = x } in m) (let steps : k - (f.fuel + j) ≡ n - f.fuel = omega arith in steps)

module _ (means : MachineMeans) (s : State) (text : List ℕ) where
  abbrev start : Machine
  start = runs (start_config s text)

  -- The string ends by LIM under a limit, or does the same under more.
  more : (j n k : ℕ) (g : Final) → run_within k start ≡ g → k ≡ n + j → Raises j (run_within n start) g → (((string_meaning s text n).code ≡ Some Lim) × (g.fuel < j)) ⊎ (string_meaning s text k ≡ string_meaning s text n)
  more j n k g is e (same f) = inr (sym (means s text k) ∙ ap (meant_by k) (is ∙ f) ∙ meant_raised n k j (run_within n start) e (fuel_within n start) ∙ means s text n)
  more j n k g is e (spent lim none less) = inl (ap (λ (m : StringMeaning). m.code) (sym (means s text n)) ∙ lim, less)

-- More limit changes nothing once the string has ended.
pub more_limit : MachineMeans → MoreLimitChangesNothing
more_limit means s text n j ended =
    elim (more means s text j n (n + j) _ refl refl (run_raises j n (n + j) (runs (start_config s text)) refl)) [ inl h ↦ absurd (ended h.0) | inr e ↦ e ]

-- No string takes more steps than its limit.
pub within_limit : StepsWithinLimit
within_limit s text n = omega arith

-- With as many steps as a string took it is the same.
pub same_again : MachineMeans → EnoughIsEnough
same_again means s text n =
    let f : Final = run_within n (runs (start_config s text)) in
    let all : n ≡ (n - f.fuel) + f.fuel = omega (arith, fuel_within n (runs (start_config s text))) in
    let took : (string_meaning s text n).steps ≡ n - f.fuel = ap (λ (m : StringMeaning). m.steps) (sym (means s text n)) in
    let same : string_meaning s text (n - f.fuel) ≡ string_meaning s text n =
    elim (more means s text f.fuel (n - f.fuel) n f refl all (run_raises f.fuel (n - f.fuel) n (runs (start_config s text)) all)) [ inl h ↦ absurd (omega (arith, h.1)) | inr e ↦ sym e ] in
    ap (string_meaning s text) took ∙ same

-- A string that is stopped before its end has used its limit.
pub limits_reached : MachineMeans → LimitsAreReached
limits_reached means s text limit k less =
    let start : Machine = runs (start_config s text) in
    let f : Final = run_within k start in
    let g : Final = run_within limit start in
    let taken : (string_meaning s text k).steps ≡ k - f.fuel = ap (λ (m : StringMeaning). m.steps) (sym (means s text k)) in
    let taken_more : (string_meaning s text limit).steps ≡ limit - g.fuel = ap (λ (m : StringMeaning). m.steps) (sym (means s text limit)) in
    let all : limit ≡ k + (limit - k) = omega (arith, less, taken_more) in
    elim (run_raises (limit - k) k limit start all) [
      | same e ↦ (let more : g.fuel ≡ f.fuel + (limit - k) = ap (λ (x : Final). x.fuel) e in absurd (omega (arith, less, taken_more, more, fuel_within k start)))
      | spent lim none few ↦ taken ∙ (let left : k - f.fuel ≡ k = omega (arith, none) in left)
    ]

abbrev now_meant : StringMeaning → Now
now_meant m = record { state = m.state; typed = m.typed; load = m.load }

-- Under limit 0 nothing changes.
pub limit_zero : MachineFollows → ZeroLimitChangesNothing
unfolding after_steps
limit_zero follows s text =
    let now : now_of (runs (start_config s text)) ≡ now_meant (string_meaning s text 0) = follows s text 0 in
    record { state = sym (ap (λ (x : Now). x.state) now); typed = sym (ap (λ (x : Now). x.typed) now); load = sym (ap (λ (x : Now). x.load) now); steps = omega arith }

-- What makes the session done: it is as done as it was, or the run is over without a code.
abbrev Keeps : Bool → State → Option Code → Type 0
Keeps k s None = Unit {0}
Keeps k s (Some e) = s.is_done ≡ k

abbrev Stays : Bool → Machine → Type 0
Stays k (runs c) = c.state.is_done ≡ k
Stays k (halts c e) = Keeps k c.state e

abbrev Waits : Bool → Ready → Type 0
Waits k (faulty c e) = Keeps k c.state (Some e)
Waits k (finished c e) = Keeps k c.state e
Waits k r = (ready_now r).state.is_done ≡ k

module _ (k : Bool) where
  keeps : (s : State) (e : Option Code) → s.is_done ≡ k → Keeps k s e
  keeps s None p = tt
  keeps s (Some e) p = p

  stays : (m : Machine) → (now_of m).state.is_done ≡ k → Stays k m
  stays (runs c) p = p
  stays (halts c e) p = keeps c.state e p

  waits : (r : Ready) → (ready_now r).state.is_done ≡ k → Waits k r
  waits (faulty c e) p = p
  waits (finished c e) p = keeps c.state e p
  waits r p = p

  arrives_waits : (m : Machine) → Stays k m → Waits k (ready_of m)
  unfolding ready_of ready_within
  arrives_waits (halts c e) p = p
  arrives_waits (runs c) p = waits (ready_of (runs c)) (ap (λ (x : Now). x.state.is_done) (arrives_now (runs c)) ∙ p)

  -- Only an exit lets the state be done after the step.
  resumed_stays : (m : Modifiers) (i : Item) (e : End) (c : Config) → (e ≢ out → c.state.is_done ≡ k) → Stays k (after_step_end m i e c)
  resumed_stays m i out c h = tt
  resumed_stays m i e c h = stays (after_step_end m i e c) (ap (λ (x : Now). x.state.is_done) (resumed_now m i e c) ∙ h (λ x. cc))

  module _ (only : OnlyExits) where
    pays_stays : (r : Ready) → Waits k r → Stays k (after_paid_step r)
    pays_stays (step m i work c) p =
        resumed_stays m i (effect i (setting_of c.profile m work c.at) c.state c.at.args).end _ (λ going. only i (setting_of c.profile m work c.at) c.state c.at.args going ∙ p)
    pays_stays (block b bs c) p = stays (after_paid_step (block b bs c)) (ap (λ (x : Now). x.state.is_done) (going_now c (after_block_step c.profile b bs c.at)) ∙ p)
    pays_stays (faulty c e) p = p
    pays_stays (finished c e) p = p

    unpaid_keeps : (r : Ready) → Waits k r → Keeps k (final_without_fuel r).state (final_without_fuel r).code
    unpaid_keeps (faulty c e) p = p
    unpaid_keeps (finished c e) p = p
    unpaid_keeps r p = p

    paid_keeps : (n : ℕ) (next : Machine → Final) (r : Ready) → Waits k r → Keeps k (next (after_paid_step r)).state (next (after_paid_step r)).code → Keeps k (final_with_fuel n next r).state (final_with_fuel n next r).code
    paid_keeps n next (faulty c e) p h = p
    paid_keeps n next (finished c e) p h = p
    paid_keeps n next r p h = h

    run_keeps : (n : ℕ) (m : Machine) → Stays k m → Keeps k (run_within n m).state (run_within n m).code
    unfolding run_within
    run_keeps zero m p = unpaid_keeps (ready_of m) (arrives_waits m p)
    run_keeps (suc n) m p =
        let ready = arrives_waits m p in
        paid_keeps n (run_within n) (ready_of m) ready (run_keeps n (after_paid_step (ready_of m)) (pays_stays (ready_of m) ready))

no_code : (k : Bool) (s : State) (e : Option Code) → Keeps k s e → k ≡ false → s.is_done ≡ true → e ≡ None
no_code k s None p not_yet over = refl
no_code k s (Some e) p not_yet over = absurd (true≢false (sym over ∙ p ∙ not_yet))

pub exit_ends_well : MachineMeans → OnlyExits → ExitEndsWell
exit_ends_well means only s text limit not_yet over =
    no_code s.is_done (string_meaning s text limit).state (string_meaning s text limit).code
    (subst (λ (m : StringMeaning). Keeps s.is_done m.state m.code) (means s text limit) (run_keeps s.is_done only limit (runs (start_config s text)) refl)) not_yet over

module _ (exit : ExitEndsWell) (more : MoreLimitChangesNothing) (s : State) (text : List ℕ) (limit : ℕ) (going : s.is_done ≡ false) where
  -- A string that takes more steps is not yet over after these, so it has made nothing done.
  unfinished : (k : ℕ) → k < (string_meaning s text limit).steps → (string_meaning s text limit).steps ≤ limit → (string_meaning s text k).steps ≤ k → (string_meaning s text k).state.is_done ≡ true → ⊥
  unfinished k less within few over =
      let none : (string_meaning s text k).code ≡ None = exit s text k going over in
      let all : k + (limit - k) ≡ limit = omega arith in
      let same : string_meaning s text limit ≡ string_meaning s text k = ap (string_meaning s text) (sym all) ∙ more s text k (limit - k) (λ lim. let x : None ≡ Some code.Lim = sym none ∙ lim in cc) in
      let steps : (string_meaning s text limit).steps ≡ (string_meaning s text k).steps = ap (λ (m : StringMeaning). m.steps) same in
      absurd (omega arith)

  pub runs_exit : (code : Option Code) (steps : ℕ) (typed : List ℕ) (new : State) → (string_meaning s text limit).steps ≤ limit → (string_meaning s text steps).steps ≤ steps
      → Runs s text limit (record { code = code; steps = steps }) typed new → new.is_done ≡ true → code ≡ None
  runs_exit None steps typed new within few r over = refl
  runs_exit (Some code.Mem) steps typed new within few r over = absurd (unfinished steps r.before within few (sym (ap (λ (t : State). t.is_done) r.state) ∙ over))
  runs_exit (Some code.Tty) steps typed new within few r over = absurd (unfinished steps r.before within few (sym (ap (λ (t : State). t.is_done) r.state) ∙ over))
  runs_exit code steps typed new within few r over = r.code ∙ exit s text limit going (sym (ap (λ (t : State). t.is_done) r.state) ∙ over)
