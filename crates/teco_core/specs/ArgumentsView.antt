-- The arguments that the program keeps, as readers see them: outside in, the innermost of the open levels comes first.
use Rattle.std.specs.Prelude.{take, reverse}
use Rattle.teco_core.specs.declared.arguments.Args.{Args}
use Rattle.teco_core.specs.Arguments.{Arguments}

unfoldable pub arguments : Args → Arguments
arguments a = record { first = a.first; expression = a.expression; outer = reverse (take a.depth a.outer) }
