use Rattle.std.proofs.Common.{sym, ap, ◌∙◌, rules}
use Rattle.teco_exec.proofs.Visited.{still_none}
use Rattle.teco_exec.proofs.seeking.SeekingWatch.stepped.Goals as goal

pub returns-else-wants-clause-follows : goal.returns-else-wants-clause-follows
returns-else-wants-clause-follows g c sought done stood seeks from within = record {
  wanted = seeks.wanted;
  from = seeks.from;
  found = still_none sought c.args.old c.args.new c.args.calls c.args.at c.filler_end.result c.args.cursor.now.text.bytes.now c.args.self.now.found (search rules) seeks.found stood
      (record { rest = c.filler_end.ensures.read; within = c.filler_end.ensures.within.1 })
      (ap (λ f. f c.args.calls c.filler_end.result) seeks.wanted ∙ sym c.wants.ensures ∙ c.if-wants.false) done within;
}
