use Rattle.std.proofs.Common.{◌≡◌, ◌-◌, subst, arith}
use Rattle.teco_search.specs.declared.window.TheConstants.{MODULUS}
use Rattle.teco_search.specs.Window.{IsLeaving}
use Rattle.teco_search.proofs.Windows.{leaving_is, power_more}
use Rattle.teco_search.proofs.window.Needle.leaving.Goals as goal

pub powers-preserved : goal.powers-preserved
powers-preserved c = power_more c.powers.power c.powers._power c.powers.invariant

pub returns : goal.returns
returns c =
    let all : c.powers._power ≡ c.args.len = omega arith in
    subst (IsLeaving (MODULUS - c.powers.power)) all (leaving_is c.powers.power c.powers._power c.powers.invariant)
