use Rattle.std.proofs.Common.{subst}
use Rattle.std.proofs.lemmas.Result.{MatchResult-from_err, MatchResult-weaker}
use Rattle.teco_io.proofs.Shown.{Puts-after, nonempty_before, nonempty_after}
use Rattle.teco_step.proofs.Shown.{Puts-front}
use Rattle.teco_io.specs.Terminal.{Puts}
use Rattle.teco_step.proofs.typing.put_range.Goals as goal

pub returns : goal.returns
returns g c = record {
  puts = subst (λ bs. Puts (g.T.Terminal.screen c.args.term.now) (g.T.Terminal.screen c.put_some-2.new.term) bs c.put_some-2.result) c.part.ensures.joined
      (Puts-after _ _ c.put_some-2.result c.in_ok-put_some.ensures.puts c.put_some-2.ensures.puts);
  some = MatchResult-weaker c.put_some-2.result c.put_some-2.ensures.some (λ _ h. h) (λ _ some. rw (← c.part.ensures.joined) (nonempty_after _ _ some));
}

pub returns-in_err-put_some : goal.returns-in_err-put_some
returns-in_err-put_some g c =
    let failed = c.in_err-put_some.ensures.puts in
    record {
      puts = subst (λ bs. Puts (g.T.Terminal.screen c.args.term.now) (g.T.Terminal.screen c.put_some.new.term) bs c.from_residual.result) c.part.ensures.joined
          (Puts-front failed.0 c.part.result.1.now c.from_residual.result failed.1 failed.2 c.from_residual.ensures.0);
      some = MatchResult-from_err c.from_residual.result _ _ c.from_residual.ensures.0 (λ _. rw (← c.part.ensures.joined) (nonempty_before _ _ c.in_err-put_some.ensures.some));
    }

pub part-requires-clause-ordered : goal.part-requires-clause-ordered
part-requires-clause-ordered g c = c.requires.ordered

pub part-requires-clause-there : goal.part-requires-clause-there
part-requires-clause-there g c = c.requires.within
