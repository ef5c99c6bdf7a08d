use Rattle.std.proofs.Common.{◌≡◌, ◌^◌, ◌%◌}
use Rattle.teco_search.specs.declared.window.TheConstants.{BASE, MODULUS}
use Rattle.teco_search.proofs.window.Needle.leaving.Given as goal

abbrev pub invariant-powers : goal.invariant-powers
invariant-powers l = l.power ≡ BASE ^ l._power % MODULUS
