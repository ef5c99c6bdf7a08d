use Rattle.std.proofs.Common.{subst, ap, false}
use Rattle.teco_io.specs.Terminal.{Shows, Puts}
use Rattle.teco_serve.specs.Message.{line_of, message}
use Rattle.teco_io.proofs.Shown.{Shows-nil}
use Rattle.teco_serve.proofs.exchange.show_message.Goals as goal

pub returns-in-None-clause-puts : goal.returns-in-None-clause-puts
unfolding message
returns-in-None-clause-puts g c =
    subst (λ o. Shows (g.T.Terminal.screen c.args.term.now) (g.T.Terminal.screen c.args.term.now) (line_of c.args.manner o) false) c.in-None.ensures (Shows-nil _)

pub returns-in-Some-clause-puts : goal.returns-in-Some-clause-puts
unfolding message
returns-in-Some-clause-puts g c =
    subst (λ l. Puts (g.T.Terminal.screen c.args.term.now) (g.T.Terminal.screen c.show_code.new.term) l c.show_code.result) (ap (line_of c.args.manner) c.in-Some.ensures) c.show_code.ensures.puts
