use Rattle.std.proofs.Common.{refl}
use Rattle.teco_debugger.proofs.running.retrace.Goals as goal

pub returns-clause-serves : goal.returns-clause-serves
returns-clause-serves g c = record {
  torn = c.in_ok-begun.begun.torn;
  first = c.new-debugger.result;
  last = c.serve.new.debugger;
  begins = record {
    begun = c.in_ok-begun.begun;
    begins = c.in_ok-begun.ensures.begins;
    torn_is = refl;
    walk = c.new-debugger.ensures.walk;
    sources = c.new-debugger.ensures.sources;
    limit = c.new-debugger.ensures.limit;
    moves = c.new-debugger.ensures.moves;
    stops = c.new-debugger.ensures.stops;
    again = c.new-debugger.ensures.again;
  };
  tells = c.tell_torn.ensures;
  serves = c.serve.ensures;
}
