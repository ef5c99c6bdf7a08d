use Rattle.std.proofs.Common.{sym, ap, ◌∙◌, length, ℕ, List}
use Rattle.std.specs.Prelude.{nat_lt}
use Rattle.teco_store.proofs.Joining.{joins, turning_keeps, finishing_writes}
use Rattle.teco_store.proofs.PageLines.{alone, few, front, ends_at_last}
use Rattle.teco_store.proofs.laws.page_laws.Goals as goal

pub returns : goal.returns
returns c = record {
  alone = λ left. let p = alone left in (p.page, p.ended ∙ ap (λ (ys : List ℕ). nat_lt (length ys) (length left)) (sym p.page));
  lines = λ lines left some. (front lines left, few lines left some);
  last = ends_at_last;
  joined = joins;
  turned = turning_keeps;
  finished = finishing_writes;
}
