use Rattle.std.proofs.Common.{sym, subst}
use Rattle.teco_scan.specs.declared.breaks.ListFault.{ListFault}
use Rattle.teco_scan.specs.Breaks.{Breaks}
use Rattle.teco_scan.proofs.BreakRules.{stray_mark}
use Rattle.teco_scan.proofs.breaks.end_of_list.Goals as goal

pub returns-in-Some-clause-breaks : goal.returns-in-Some-clause-breaks
returns-in-Some-clause-breaks c p text more at token here e is =
    subst (λ (there : ListFault). Breaks p text c.args.list at there) (sym c.fault_at.ensures)
    (stray_mark p c.args.mark here e is (c.in-Some.ensures.breaks p more c.args.list.depth))
