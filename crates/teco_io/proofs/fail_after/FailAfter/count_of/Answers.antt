use Rattle.std.proofs.Common.{◌≡◌, length, drop, ap, ◌∙◌, arith}
use Rattle.std.proofs.lemmas.Bool.{false≢true}
use Rattle.std.proofs.lemmas.Grind.{common_steps}
use Rattle.std.proofs.lemmas.List.{length-drop}
use Rattle.teco_io.proofs.fail_after.FailAfter.count_of.Goals as goal
use Rattle.teco_io.proofs.fail_after.FailAfter.count_of.Goals.{else-wanted-gt0-via-then-wanted-gt0+else-left-eq0, else-wanted-gt0-via-else-wanted-gt0}

pub returns-clause-fails : goal.returns-clause-fails
returns-clause-fails c =
    let s = c.self.inside in (
      λ e. absurd (false≢true e),
      λ f. elim c.else-wanted-gt0.branch [
        | else-wanted-gt0-via-then-wanted-gt0+else-left-eq0 w ↦
            let gone : length (drop s.at s.bytes.items) ≡ 0 = ap length (ap (λ p. p.left) c.self.view_is ∙ f.1) in
            let none = length-drop s.at s.bytes.items in
            absurd (grind (arith, common_steps))
        | else-wanted-gt0-via-else-wanted-gt0 w ↦ absurd (grind (arith, common_steps))
      ],
    )
