use Rattle.std.proofs.Common.{ℕ, Some, sym, subst}
use Rattle.teco_core.specs.declared.code.Code.TheVariants.{Utc}
use Rattle.teco_scan.specs.Breaks.{Breaks, opening}
use Rattle.teco_scan.proofs.BreakRules.{ends_inside}
use Rattle.teco_scan.proofs.breaks.end_of_text.Goals as goal

pub returns-in-Some-clause-breaks : goal.returns-in-Some-clause-breaks
returns-in-Some-clause-breaks c p text at ends long =
    subst (λ (o : ℕ). Breaks p text c.args.list at (record { at = c.args.end; opened = Some o; code = Utc })) (sym c.opening.ensures)
    (subst (λ (n : ℕ). Breaks p text c.args.list at (record { at = n; opened = Some (opening c.in-Some.kind c.args.list.start); code = Utc })) long (ends_inside p c.in-Some.kind c.in-Some.is ends))
