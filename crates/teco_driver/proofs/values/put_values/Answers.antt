use Rattle.std.proofs.Common.{◌≡◌, ◌∙◌, ◌++◌, ◌+◌, List, [], ◌∷◌, ap, refl, sym, subst, take}
use Rattle.std.proofs.lemmas.List.{take_all, take_more}
use Rattle.teco_cli.specs.declared.assignment.Assignment.{Assignment}
use Rattle.teco_store.specs.State.{state_of}
use Rattle.teco_driver.specs.Values.{with_values}
use Rattle.teco_driver.proofs.FirstValues.{put_more}
use Rattle.teco_driver.proofs.values.put_values.Goals as goal

pub loop-assignment-init : goal.loop-assignment-init
loop-assignment-init c = refl

pub loop-assignment-preserved : goal.loop-assignment-preserved
loop-assignment-preserved c =
    let i = c.loop-assignment.assignment-index in
    let values = c.args.values.now in
    let item = c.assignment-item.result in
    let front : take (i + 1) values ≡ take i values ++ item ∷ [] =
    subst (λ (x : Assignment). take (i + 1) values ≡ take i values ++ x ∷ []) (sym c.assignment-item.is) (take_more values i item c.loop-assignment-test.true) in
    put_more (state_of c.args.editor.now) (state_of c.loop-assignment.editor) (state_of c.put_value.new.editor) (take i values) (take (i + 1) values) item front
    c.loop-assignment.invariant c.in_ok-put_value.ensures

pub returns : goal.returns
returns c = c.loop-assignment.invariant
    ∙ ap (λ (values : List Assignment). with_values values (state_of c.args.editor.now)) (take_all c.loop-assignment.assignment-index c.args.values.now c.loop-assignment-test.false)
