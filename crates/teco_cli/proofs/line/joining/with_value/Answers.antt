use Rattle.std.proofs.Common.{◌≡◌, ◌≢◌, ◌∙◌, ◌++◌, false, ℕ, List, [], ap, codes, length, refl}
use Rattle.std.proofs.lemmas.Bool.{eqb-true, false_from_ne_true}
use Rattle.std.proofs.lemmas.Result.{IfOk-weaker}
use Rattle.std.specs.Prelude.{◌==◌}
use Rattle.teco_cli.specs.Joining.{with_value}
use Rattle.teco_cli.proofs.line.joining.with_value.Goals as goal
use Rattle.teco_cli.proofs.line.joining.with_value.Goals.{then-word-eq2, else-word-eq2}

short : (word between value : List ℕ) → length word ≡ 2 → between ≡ [] → word ++ (between ++ value) ≡ with_value word value
short word between value two none = rw (none, two) refl

long : (word between value : List ℕ) → length word ≢ 2 → between ≡ codes "=" → word ++ (between ++ value) ≡ with_value word value
long word between value more is =
    let no : (length word == 2) ≡ false = false_from_ne_true (length word == 2) (λ e. more (eqb-true (length word) 2 e)) in
    rw (is, no) refl

pub returns : goal.returns
returns c =
    let word = c.args.word.now in
    let value = c.args.value.now in
    let spelled : word ++ (c.if-word-eq2.between.now ++ value) ≡ with_value word value = elim c.if-word-eq2.branch [
      | then-word-eq2 w ↦ short word c.if-word-eq2.between.now value w.if-word-eq2.true (ap (λ r. r.now) w.between-is)
      | else-word-eq2 w ↦ long word c.if-word-eq2.between.now value w.if-word-eq2.false (ap (λ r. r.now) w.between-is)
    ] in
    IfOk-weaker c.format.result _ _ (λ made is. is ∙ spelled) c.format.ensures.ok
