use Rattle.std.proofs.Common.{arith}
use Rattle.teco_scan.specs.Scan.{ends_inside}
use Rattle.teco_scan.proofs.Places.{front, no_front}
use Rattle.teco_scan.proofs.names.ends_inside.Goals as goal

pub returns-then-at-text : goal.returns-then-at-text
unfolding ends_inside
returns-then-at-text c = grind (arith, front, no_front)

pub returns-in-One : goal.returns-in-One
unfolding ends_inside
returns-in-One c = grind (arith, front, no_front)

pub returns-in-Two : goal.returns-in-Two
unfolding ends_inside
returns-in-Two c = grind (arith, front, no_front)

pub returns-in-Three : goal.returns-in-Three
unfolding ends_inside
returns-in-Three c = grind (arith, front, no_front)

pub returns-in-Control : goal.returns-in-Control
unfolding ends_inside
returns-in-Control c = grind (arith, front, no_front)

pub returns-then-to_ascii_uppercase-second : goal.returns-then-to_ascii_uppercase-second
unfolding ends_inside
returns-then-to_ascii_uppercase-second c = grind (arith, front, no_front)

pub returns-else-to_ascii_uppercase-second : goal.returns-else-to_ascii_uppercase-second
unfolding ends_inside
returns-else-to_ascii_uppercase-second c = grind (arith, front, no_front)

pub returns-in_default : goal.returns-in_default
unfolding ends_inside
returns-in_default c = grind (arith, front, no_front)
