-- The meaning is one layer over itself and raises no fuel; so its sentences are proved.
use Rattle.std.proofs.Common.{◌≡◌, ℕ, zero, suc, ◌+◌, ◌<◌, ◌≤◌, List, Option, Some, None, Bool, true, false, Result, Ok, Err, refl, ap, ◌∙◌, arith, sym, ◌==◌, ℤ, if◌then◌else◌}
use Rattle.teco_core.specs.declared.code.Code.{Code}
use Rattle.teco_core.specs.declared.code.Code.TheVariants.{Lim, Naq, Pdo, Tag}
use Rattle.teco_core.specs.declared.arguments.Taken.{Taken}
use Rattle.teco_core.specs.declared.arguments.Taken.TheVariants as taken
use Rattle.teco_core.specs.Arguments.{taken_from}
use Rattle.teco_scan.specs.declared.command.Test.{Test}
use Rattle.teco_scan.specs.Scan.{Item}
use Rattle.teco_scan.specs.Tree.{Nodes, done, item, escape, iter, cond, tag, faulty, after_tag}
use Rattle.teco_step.specs.declared.next.Setting.{Setting}
use Rattle.teco_step.specs.Step.{Step, End, on, leave, go, call, again, stop, takes_one}
use Rattle.teco_step.specs.Effect.{effect}
use Rattle.teco_scan.specs.Lists.{nodes}
use Rattle.teco_exec.specs.Test.{holds}
use Rattle.teco_exec.specs.World.{World, WorldAndEnd, without_arguments, world_after, pay_from, pay}
use Rattle.teco_exec.specs.Laws.{MeaningUnrolls, with_fuel, comes_to, StepEnds, first_effect, stepped_world, EmptyListEnds, FaultStops, TagIsPassed, EscapeDrops, NothingWithoutFuel, StepComesTo, FurtherStep, BlockComesTo, TurnEnds, LeavingEnds}
use Rattle.teco_exec.specs.Meaning.{Meaning, run_after_tag, then_rest, after_call, run_call, run_after_step, run_step, turns_of, run_iteration, after_part, run_conditional, leave_comes, first_setting, list_by, after_turn, run_turn, turns_by, further_by, layer, layers, meaning}
use Rattle.std.proofs.lemmas.Bool.Decides.{nat_tests}
use Rattle.teco_scan.specs.declared.command.Modifiers.{Modifiers}

-- Two runs are one, and leave no more than this fuel.
record Same (k : ℕ) (x y : WorldAndEnd) : Type 0 where
  pub is : x ≡ y
  pub falls : x.0.fuel ≤ k

-- two meanings are one where there is less fuel than this
record Agree (f : ℕ) (m n : Meaning) : Type 0 where
  pub list : (whole rest : Nodes) (w : World) (depth : ℕ) (inside : Bool) → w.fuel < f → Same w.fuel (m.list whole rest w depth inside) (n.list whole rest w depth inside)
  pub turns : (left : Option ℕ) (body : Nodes) (w : World) (depth : ℕ) → w.fuel < f → Same w.fuel (m.turns left body w depth) (n.turns left body w depth)
  pub further : (i : Item) (setting : Setting) (w : World) (depth : ℕ) → w.fuel < f → Same w.fuel (m.further i setting w depth) (n.further i setting w depth)

here : (w : World) (e : End) → Same w.fuel (w, e) (w, e)
here w e = record { is = refl; falls = omega arith }

-- one thing after another
then_same : (k : ℕ) (f g : World → End → WorldAndEnd) {x y : WorldAndEnd} → Same k x y → ((w : World) (e : End) → w.fuel ≤ k → Same w.fuel (f w e) (g w e)) → Same k (f x.0 x.1) (g y.0 y.1)
then_same k f g {x} {y} s h =
    let t : Same x.0.fuel (f x.0 x.1) (g x.0 x.1) = h x.0 x.1 s.falls in
    record { is = t.is ∙ ap (λ (r : WorldAndEnd). g r.0 r.1) s.is; falls = omega (arith, t.falls, s.falls) }

pay_same : (k : ℕ) (w : World) (a b : World → WorldAndEnd) → k ≡ w.fuel → ((v : World) → v.fuel < w.fuel → Same v.fuel (a v) (b v)) → Same w.fuel (pay_from k w a) (pay_from k w b)
pay_same zero w a b e h = here w (stop Lim)
pay_same (suc k) w a b e h =
    let s : Same k (a (record w { fuel = k })) (b (record w { fuel = k })) = h (record w { fuel = k }) (omega arith) in
    record { is = s.is; falls = omega (arith, s.falls) }

returned_same : (w : World) (e : End) → Same w.fuel (after_call w e) (after_call w e)
returned_same w (go name) = here w (stop Tag)
returned_same w e = here w e

part_end_same : (w : World) (e : End) → Same w.fuel (after_part w e) (after_part w e)
part_end_same w on = here (without_arguments w) on
part_end_same w e = here w e

module _ (f : ℕ) (m n : Meaning) (h : Agree f m n) where
  lands_same : (whole : Nodes) (w : World) (depth : ℕ) (inside : Bool) (name : List ℕ) (o : Option Nodes) → w.fuel < f → Same w.fuel (run_after_tag m whole w depth inside name o) (run_after_tag n whole w depth inside name o)
  lands_same whole w depth inside name None lt = here w (go name)
  lands_same whole w depth inside name (Some rest) lt = h.list whole rest w depth inside lt

  then_rest_same : (whole rest : Nodes) (depth : ℕ) (inside : Bool) (w : World) (e : End) → w.fuel < f → Same w.fuel (then_rest m whole rest depth inside w e) (then_rest n whole rest depth inside w e)
  then_rest_same whole rest depth inside w on lt = h.list whole rest w depth inside lt
  then_rest_same whole rest depth inside w (go name) lt = lands_same whole w depth inside name (after_tag name whole) lt
  then_rest_same whole rest depth inside w e lt = here w e

  calls_same : (text : List ℕ) (w : World) (depth : ℕ) → w.fuel < f → Same w.fuel (run_call m text w depth) (run_call n text w depth)
  calls_same text w depth lt = by (depth == 32)
    where
      by : (b : Bool) → Same w.fuel
          (if b then (w, stop Pdo) else (let r : WorldAndEnd = m.list (nodes w.profile text) (nodes w.profile text) w (depth + 1) false in after_call r.0 r.1))
          (if b then (w, stop Pdo) else (let r : WorldAndEnd = n.list (nodes w.profile text) (nodes w.profile text) w (depth + 1) false in after_call r.0 r.1))
      by true = here w (stop Pdo)
      by false = then_same w.fuel after_call after_call (h.list (nodes w.profile text) (nodes w.profile text) w (depth + 1) false lt) (λ v e le. returned_same v e)

  carries_same : (i : Item) (setting : Setting) (depth : ℕ) (w : World) (e : End) → w.fuel < f → Same w.fuel (run_after_step m i setting depth w e) (run_after_step n i setting depth w e)
  carries_same i setting depth w (call text) lt = calls_same text w depth lt
  carries_same i setting depth w (again work) lt = h.further i (record setting { work = Some work }) w depth lt
  carries_same i setting depth w e lt = here w e

  steps_same : (i : Item) (setting : Setting) (w : World) (depth : ℕ) → w.fuel < f → Same w.fuel (run_step m i setting w depth) (run_step n i setting w depth)
  steps_same i setting w depth lt = let d : Step = effect i setting w.state w.arguments in carries_same i setting depth (world_after w d) d.end lt

  iterates_same : (body : Nodes) (w : World) (depth : ℕ) (t : Result Taken Code) → w.fuel < f → Same w.fuel (run_iteration m body w depth t) (run_iteration n body w depth t)
  iterates_same body w depth (Ok taken.None) lt = h.turns None body (without_arguments w) depth lt
  iterates_same body w depth (Ok (taken.One k)) lt = h.turns (Some (turns_of k)) body (without_arguments w) depth lt
  iterates_same body w depth _ lt = here w _

  chooses_same : (t : Test) (first second : Nodes) (w : World) (depth : ℕ) (inside : Bool) (k : Result ℤ Code) → w.fuel < f → Same w.fuel (run_conditional m t first second w depth inside k) (run_conditional n t first second w depth inside k)
  chooses_same t first second w depth inside (Ok k) lt =
      let nodes : Nodes = if holds t k then first else second in
      then_same w.fuel after_part after_part (h.list nodes nodes (without_arguments w) depth inside lt) (λ v e le. part_end_same v e)
  chooses_same t first second w depth inside (Err c) lt = here w (stop c)

  -- a node that is paid for, and the rest of its list
  node_same : (whole rest : Nodes) (w : World) (depth : ℕ) (inside : Bool) (a b : World → WorldAndEnd) → w.fuel < suc f → ((v : World) → v.fuel < f → Same v.fuel (a v) (b v))
      → Same w.fuel (pay_from w.fuel w (λ v. let r : WorldAndEnd = a v in then_rest m whole rest depth inside r.0 r.1)) (pay_from w.fuel w (λ v. let r : WorldAndEnd = b v in then_rest n whole rest depth inside r.0 r.1))
  node_same whole rest w depth inside a b lt s =
      pay_same w.fuel w _ _ refl (λ v l. then_same v.fuel (then_rest m whole rest depth inside) (then_rest n whole rest depth inside) (s v (omega arith)) (λ u e le. then_rest_same whole rest depth inside u e (omega arith)))

  list_by_same : (whole rest : Nodes) (w : World) (depth : ℕ) (inside : Bool) → w.fuel < suc f → Same w.fuel (list_by m whole rest w depth inside) (list_by n whole rest w depth inside)
  unfolding list_by
  list_by_same whole done w depth inside lt = here w on
  list_by_same whole (faulty c) w depth inside lt = here w (stop c)
  list_by_same whole (tag name rest) w depth inside lt = list_by_same whole rest w depth inside lt
  list_by_same whole (escape rest) w depth inside lt = list_by_same whole rest (without_arguments w) depth inside lt
  list_by_same whole (item marks i rest) w depth inside lt =
      let setting : Setting = first_setting marks inside (leave_comes rest) in
      node_same whole rest w depth inside (λ v. run_step m i setting v depth) (λ v. run_step n i setting v depth) lt (λ v l. steps_same i setting v depth l)
  list_by_same whole (iter body rest) w depth inside lt =
      node_same whole rest w depth inside (λ v. run_iteration m body v depth (taken_from v.arguments)) (λ v. run_iteration n body v depth (taken_from v.arguments)) lt (λ v l. iterates_same body v depth (taken_from v.arguments) l)
  list_by_same whole (cond t first second rest) w depth inside lt =
      node_same whole rest w depth inside (λ v. run_conditional m t first second v depth inside (takes_one Naq v.arguments)) (λ v. run_conditional n t first second v depth inside (takes_one Naq v.arguments)) lt
      (λ v l. chooses_same t first second v depth inside (takes_one Naq v.arguments) l)

  turn_end_same : (left : Option ℕ) (body : Nodes) (depth : ℕ) (w : World) (e : End) → w.fuel < suc f → Same w.fuel (after_turn m left body depth w e) (after_turn n left body depth w e)
  turn_end_same left body depth w on lt = pay_same w.fuel w _ _ refl (λ v l. h.turns left body (without_arguments v) depth (omega arith))
  turn_end_same left body depth w leave lt = here w on
  turn_end_same left body depth w e lt = here w e

  turn_same : (left : Option ℕ) (body : Nodes) (w : World) (depth : ℕ) → w.fuel < suc f → Same w.fuel (run_turn m left body w depth) (run_turn n left body w depth)
  turn_same left body w depth lt =
      then_same w.fuel (after_turn m left body depth) (after_turn n left body depth) (list_by_same body body w depth true lt) (λ v e le. turn_end_same left body depth v e (omega arith))

  turns_by_same : (left : Option ℕ) (body : Nodes) (w : World) (depth : ℕ) → w.fuel < suc f → Same w.fuel (turns_by m left body w depth) (turns_by n left body w depth)
  unfolding turns_by
  turns_by_same None body w depth lt = turn_same None body w depth lt
  turns_by_same (Some zero) body w depth lt = here w on
  turns_by_same (Some (suc k)) body w depth lt = turn_same (Some k) body w depth lt

  further_by_same : (i : Item) (setting : Setting) (w : World) (depth : ℕ) → w.fuel < suc f → Same w.fuel (further_by m i setting w depth) (further_by n i setting w depth)
  unfolding further_by
  further_by_same i setting w depth lt = pay_same w.fuel w _ _ refl (λ v l. steps_same i setting v depth (omega arith))

  layer_agrees : Agree (suc f) (layer m) (layer n)
  layer_agrees = record { list = list_by_same; turns = turns_by_same; further = further_by_same }

-- layers above the fuel change nothing
layers_agree : (f a b : ℕ) → f ≤ a → f ≤ b → Agree f (layers a) (layers b)
unfolding layers
layers_agree zero a b p q = record { list = λ whole rest w depth inside lt. absurd (omega arith); turns = λ left body w depth lt. absurd (omega arith); further = λ i setting w depth lt. absurd (omega arith) }
layers_agree (suc f) zero b p q = absurd (omega arith)
layers_agree (suc f) (suc a) zero p q = absurd (omega arith)
layers_agree (suc f) (suc a) (suc b) p q = layer_agrees f (layers a) (layers b) (layers_agree f a b (omega arith) (omega arith))

layers_mean : (f : ℕ) → Agree f (layers f) meaning
unfolding meaning
layers_mean f = record {
  list = λ whole rest w depth inside lt. (layers_agree (suc w.fuel) f (suc w.fuel) (omega arith) (omega arith)).list whole rest w depth inside (omega arith);
  turns = λ left body w depth lt. (layers_agree (suc w.fuel) f (suc w.fuel) (omega arith) (omega arith)).turns left body w depth (omega arith);
  further = λ i setting w depth lt. (layers_agree (suc w.fuel) f (suc w.fuel) (omega arith) (omega arith)).further i setting w depth (omega arith);
}

above : (f : ℕ) → Agree (suc f) (layer (layers f)) (layer meaning)
above f = layer_agrees f (layers f) meaning (layers_mean f)

pub unrolls : MeaningUnrolls
unfolding meaning layers
unrolls = record {
  list = λ whole rest w depth inside. ((above w.fuel).list whole rest w depth inside (omega arith)).is;
  turns = λ left body w depth. ((above w.fuel).turns left body w depth (omega arith)).is;
  further = λ i setting w depth. ((above w.fuel).further i setting w depth (omega arith)).is;
}

pub empty_list : EmptyListEnds
unfolding list_by
empty_list whole w depth inside = unrolls.list whole done w depth inside

pub fault : FaultStops
unfolding list_by
fault whole c w depth inside = unrolls.list whole (faulty c) w depth inside

pub tag_passed : TagIsPassed
unfolding list_by
tag_passed whole rest name w depth inside = unrolls.list whole (tag name rest) w depth inside ∙ sym (unrolls.list whole rest w depth inside)

pub escape_drops : EscapeDrops
unfolding list_by
escape_drops whole rest w depth inside = unrolls.list whole (escape rest) w depth inside ∙ sym (unrolls.list whole rest (without_arguments w) depth inside)

-- what is paid for, with this much fuel
paying : (n : ℕ) (w : World) (act : World → WorldAndEnd) → w.fuel ≡ n → pay w act ≡ pay_from n w act
paying n w act e = ap (λ k. pay_from k w act) e

pub no_fuel : NothingWithoutFuel
unfolding list_by
no_fuel = record {
  step = λ whole rest m i w depth inside z. unrolls.list whole (item m i rest) w depth inside ∙ paying 0 w _ z;
  iteration = λ whole body rest w depth inside z. unrolls.list whole (iter body rest) w depth inside ∙ paying 0 w _ z;
  conditional = λ whole first second rest t w depth inside z. unrolls.list whole (cond t first second rest) w depth inside ∙ paying 0 w _ z;
}

-- A step of an item, by its end.
module _ (whole rest : Nodes) (i : Item) (setting : Setting) (depth : ℕ) (u : World) where
  carried : (e : End) → (let r : WorldAndEnd = run_after_step meaning i setting depth u e in then_rest meaning whole rest depth setting.inside r.0 r.1) ≡ comes_to whole rest i setting depth u e
  carried e = grind arith

pub step_ends : StepEnds
unfolding list_by
step_ends whole rest m i w depth n inside fuel =
    unrolls.list whole (item m i rest) w depth inside ∙ paying (suc n) w _ fuel
    ∙ carried whole rest i (first_setting m inside (leave_comes rest)) depth (stepped_world m i rest w inside n) (first_effect m i rest w inside).end

module _ (whole rest : Nodes) (m : Modifiers) (i : Item) (w : World) (depth n : ℕ) (inside : Bool) (fuel : w.fuel ≡ suc n) where
  stepped : (e : End) → (first_effect m i rest w inside).end ≡ e → meaning.list whole (item m i rest) w depth inside ≡ comes_to whole rest i (first_setting m inside (leave_comes rest)) depth (stepped_world m i rest w inside n) e
  stepped e is = step_ends whole rest m i w depth n inside fuel ∙ ap (comes_to whole rest i (first_setting m inside (leave_comes rest)) depth (stepped_world m i rest w inside n)) is

-- what a call comes to, by the test of its depth
abbrev calls_by : Nodes → Nodes → Bool → ℕ → World → WorldAndEnd → Bool → WorldAndEnd
calls_by whole rest inside depth u r deep = if deep then (u, stop Pdo) else (let q : WorldAndEnd = after_call r.0 r.1 in then_rest meaning whole rest depth inside q.0 q.1)

pub step : StepComesTo
step whole rest m i w depth n inside fuel =
    let u : World = stepped_world m i rest w inside n in
    let comes : (e : End) → (first_effect m i rest w inside).end ≡ e → meaning.list whole (item m i rest) w depth inside ≡ comes_to whole rest i (first_setting m inside (leave_comes rest)) depth u e = stepped whole rest m i w depth n inside fuel in
    let called : List ℕ → WorldAndEnd = λ text. meaning.list (nodes u.profile text) (nodes u.profile text) u (depth + 1) false in
    record {
      goes_on = λ is. comes on is;
      error = λ c is. comes (stop c) is;
      lands = λ name later is found. comes (go name) is ∙ ap (run_after_tag meaning whole u depth inside name) found;
      leaves = λ name is found. comes (go name) is ∙ ap (run_after_tag meaning whole u depth inside name) found;
      returns = λ text v is shallow back.
          let test : (depth == 32) ≡ false = grind (arith, nat_tests) in
          comes (call text) is ∙ ap (calls_by whole rest inside depth u (called text)) test ∙ ap (λ (r : WorldAndEnd). calls_by whole rest inside depth u r false) back;
      too_deep = λ text is deep.
          let test : (depth == 32) ≡ true = grind (arith, nat_tests) in
          comes (call text) is ∙ ap (calls_by whole rest inside depth u (called text)) test;
    }

pub further_step : FurtherStep
unfolding further_by
further_step i setting w depth n fuel is =
    unrolls.further i setting w depth ∙ paying (suc n) w _ fuel ∙ ap (λ e. run_after_step meaning i setting depth (world_after (with_fuel w n) (effect i setting w.state w.arguments)) e) is

pub block : BlockComesTo
unfolding list_by
block whole rest w v depth n inside fuel =
    let follows : WorldAndEnd → WorldAndEnd = λ r. then_rest meaning whole rest depth inside r.0 r.1 in
    let begins : (here : Nodes) → meaning.list whole here w depth inside ≡ list_by meaning whole here w depth inside = λ here. unrolls.list whole here w depth inside in
    let turns : Nodes → Result Taken Code → WorldAndEnd = λ body t. follows (run_iteration meaning body (with_fuel w n) depth t) in
    record {
      counted = λ body k taken back. begins (iter body rest) ∙ paying (suc n) w _ fuel ∙ ap (turns body) taken ∙ ap follows back;
      endless = λ body taken back. begins (iter body rest) ∙ paying (suc n) w _ fuel ∙ ap (turns body) taken ∙ ap follows back;
      chooses = λ first second t k taken back.
          begins (cond t first second rest) ∙ paying (suc n) w _ fuel
          ∙ ap (λ x. follows (run_conditional meaning t first second (with_fuel w n) depth inside x)) taken
          ∙ ap (λ (q : WorldAndEnd). follows (after_part q.0 q.1)) back;
    }

turned : (left : Option ℕ) (body : Nodes) (w : World) (depth : ℕ) (r : WorldAndEnd) → meaning.list body body w depth true ≡ r → run_turn meaning left body w depth ≡ after_turn meaning left body depth r.0 r.1
turned left body w depth r e = ap (λ (x : WorldAndEnd). after_turn meaning left body depth x.0 x.1) (sym (unrolls.list body body w depth true) ∙ e)

pub turn_ends : TurnEnds
unfolding turns_by
turn_ends = record {
  last = λ body w depth. unrolls.turns (Some 0) body w depth;
  counted = λ body w v depth left n e fuel. unrolls.turns (Some (suc left)) body w depth ∙ turned (Some left) body w depth (v, on) e ∙ paying (suc n) v _ fuel;
  endless = λ body w v depth n e fuel. unrolls.turns None body w depth ∙ turned None body w depth (v, on) e ∙ paying (suc n) v _ fuel;
  without_fuel = λ body w v depth left e fuel. unrolls.turns (Some (suc left)) body w depth ∙ turned (Some left) body w depth (v, on) e ∙ paying 0 v _ fuel;
}

pub leaving : LeavingEnds
unfolding turns_by
leaving = record {
  counted = λ body w v depth left e. unrolls.turns (Some (suc left)) body w depth ∙ turned (Some left) body w depth (v, leave) e;
  endless = λ body w v depth e. unrolls.turns None body w depth ∙ turned None body w depth (v, leave) e;
}
