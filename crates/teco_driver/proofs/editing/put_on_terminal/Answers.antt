use Rattle.std.proofs.Common.{◌∙◌, ◌++◌, ap, append_assoc, append-nil, refl, subst, sym, false, List, [], ℕ}
use Rattle.teco_io.proofs.Shown.{Shows-nil, Shows-trans, front-after, front-longer}
use Rattle.teco_io.specs.Terminal.{IsFrontOf, Shows}
use Rattle.teco_store.specs.Slices.{bytes_in}
use Rattle.teco_driver.proofs.editing.put_on_terminal.Goals as goal

pub loop-slice-init : goal.loop-slice-init
loop-slice-init g c = ([], refl, Shows-nil (g.T.Terminal.screen c.args.term.now))

pub loop-slice-preserved : goal.loop-slice-preserved
loop-slice-preserved g c =
    let so_far = c.loop-slice.invariant in
    let given = so_far.0 in
    let slice = c.in-Some.slice.now in (
      given ++ slice,
      so_far.1 ∙ ap (λ (l : List ℕ). given ++ l) c.in-Some.ensures.bytes ∙ sym (append_assoc given slice (bytes_in c.in-Some.others)),
      Shows-trans so_far.2 c.in_default-put.ensures,
    )

pub returns-in-Err : goal.returns-in-Err
returns-in-Err g c =
    let so_far = c.loop-slice.invariant in
    let given = so_far.0 in
    let slice = c.in-Some.slice.now in
    let others = bytes_in c.in-Some.others in
    let put = c.in-Err.ensures in
    let whole = so_far.1 ∙ ap (λ (l : List ℕ). given ++ l) c.in-Some.ensures.bytes in (
      bytes_in c.args.output,
      (refl, refl),
      record {
        front = given ++ put.0;
        beginning = subst (IsFrontOf (given ++ put.0)) (sym whole) (front-after given put.0 (slice ++ others) (front-longer put.0 slice others put.1));
        shows = Shows-trans so_far.2 put.2;
        fate_is = refl;
      },
    )

pub returns : goal.returns
returns g c =
    let so_far = c.loop-slice.invariant in
    let given = so_far.0 in
    let all = so_far.1 ∙ ap (λ (l : List ℕ). given ++ l) c.in_default.ensures.bytes ∙ append-nil given in (
      bytes_in c.args.output,
      (refl, refl),
      (
        (λ none. tt),
        subst (λ (l : List ℕ). Shows (g.T.Terminal.screen c.args.term.now) (g.T.Terminal.screen c.loop-slice.term) l false) (sym all) so_far.2,
      ),
      refl,
    )
