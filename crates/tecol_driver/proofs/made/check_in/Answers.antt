use Rattle.std.proofs.Common.{sym, ◌∙◌}
use Rattle.tecol_driver.proofs.made.check_in.Goals as goal

pub returns-then-advice : goal.returns-then-advice
returns-then-advice c = (c.in_ok-advice.advice.code, c.in_ok-advice.ensures.code, sym c.in_ok-advice.ensures.found ∙ c.if-advice.true, tt)

pub returns-then-advice-2 : goal.returns-then-advice-2
returns-then-advice-2 c = (
  c.in_ok-advice.advice.code,
  c.in_ok-advice.ensures.code,
  (sym c.in_ok-advice.ensures.found ∙ c.if-advice.false, sym c.in_ok-advice.ensures.clean ∙ c.if-advice-2.true),
  tt,
)

pub returns : goal.returns
returns c = (
  c.in_ok-advice.advice.code,
  c.in_ok-advice.ensures.code,
  (sym c.in_ok-advice.ensures.found ∙ c.if-advice.false, sym c.in_ok-advice.ensures.clean ∙ c.if-advice-2.false),
  c.in_ok-advice.ensures.right c.if-advice-2.false,
)
