use Rattle.std.proofs.Common.{◌≡◌, ◌+◌, sym, subst, ◌∙◌, arith}
use Rattle.memchr.specs.Find.{IsLast}
use Rattle.teco_search.specs.Window.{IsLike}
use Rattle.teco_search.proofs.Windows.{last_here, last_further}
use Rattle.teco_search.proofs.window.Needle.last_like.Goals.{then-number-self, else-number-self}
use Rattle.teco_search.proofs.window.Needle.last_like.Goals as goal

pub starts-init : goal.starts-init
starts-init c = record { number = c.number_of-number.ensures; last = λ k low high. absurd (omega arith) }

pub starts-preserved : goal.starts-preserved
starts-preserved c =
    let like = IsLike c.args.text.now c.args.self.now in
    let start = c.starts.start in
    let last : IsLast like c.args.from (start + 1) c.if-number-self.last = elim c.if-number-self.branch [
      | then-number-self w ↦ rw w.last-is (last_here like c.args.from start (omega arith) (sym c.starts.invariant.number ∙ w.if-number-self.true))
      | else-number-self w ↦ rw w.last-is (last_further like c.args.from start c.starts.last c.starts.invariant.last (λ here. w.if-number-self.false (c.starts.invariant.number ∙ here)))
    ] in
    record { number = c.rolled-number.ensures; last = last }

pub returns : goal.returns
returns c =
    let all : c.starts.start ≡ c.args.to = omega arith in
    subst (λ to. IsLast (IsLike c.args.text.now c.args.self.now) c.args.from to c.starts.last) all c.starts.invariant.last
