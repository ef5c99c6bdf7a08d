use Rattle.std.proofs.Common.{refl}
use Rattle.teco_debugger.proofs.running.begun_with.Goals as goal

pub returns-clause-walk : goal.returns-clause-walk
returns-clause-walk g c = record {
  text = c.in_ok-new.ensures.text;
  sources = refl;
  bytes = c.in_ok-input.input.items;
  bytes_are = c.in_ok-input.ensures.input;
  first = c.in_ok-new.ensures.first;
  before = c.in_ok-new.ensures.before;
  steps = c.in_ok-new.ensures.steps;
  torn = refl;
}
