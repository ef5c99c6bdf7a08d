use Rattle.std.proofs.Common.{drop, sym, ap, arith}
use Rattle.teco_messages.specs.Token.{token_of}
use Rattle.teco_messages.proofs.PastEnd.{past_end}
use Rattle.teco_messages.proofs.tokens.token.Goals as goal

pub returns-then-at-text : goal.returns-then-at-text
returns-then-at-text c = sym (ap (λ s. token_of s (drop c.args.at c.args.text.now) c.args.most) (past_end c.args.profile c.args.text.now c.args.at (omega (arith, c.if-at-text.true))))
